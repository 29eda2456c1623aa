-- No links lead to a leaf that allows writes over a guest frame that a line which forbids them passes with its step.
use Rattle.std.proofs.Common.{◌^◌, ◌∙◌, ◌≡◌, ◌≤◌, ap, refl, subst, sym, ℕ}
use Rattle.std.specs.Prelude.{Bool, None, Option, Some, false, true}
use Rattle.core_views.specs.Held.{Held}
use Rattle.core_views.specs.declared.place.FrameRange.{FrameRange}
use Rattle.core_views.specs.declared.place.LogPlace.{LogPlace}
use Rattle.core_views.specs.declared.place.LogPlace.TheVariants as log
use Rattle.core_views.specs.declared.place.Place.{Place}
use Rattle.core_views.specs.declared.place.Place.TheVariants as place
use Rattle.core_views.specs.declared.place.SlotChangePlace.TheVariants as change
use Rattle.core_views.specs.declared.place.WriteProtectPlace.{WriteProtectPlace}
use Rattle.core_views.specs.declared.place.WriteProtectPlace.TheVariants as protect
use Rattle.core_views.specs.declared.sizes.Sizes.{Sizes}
use Rattle.core_views.specs.declared.topics.TableWalk.{TableWalk}
use Rattle.core_views.specs.declared.topics.Topics.{Topics}
use Rattle.core_views.specs.declared.trace.Command.{Command}
use Rattle.core_views.specs.declared.trace.Line.{Line}
use Rattle.spte_words.specs.Areas.{pool_index}
use Rattle.spte_words.specs.Entries.{can_write, kind_of, without_write}
use Rattle.spte_words.specs.declared.area.Area.{Area}
use Rattle.spte_words.specs.declared.area.Area.TheVariants as area
use Rattle.spte_words.specs.declared.spte_kind.SpteKind.TheVariants as entry_kind
use Rattle.part_steps.specs.PartSteps.{PartNeeds}
use Rattle.part_steps.specs.PartTasks.{entry_index, own_index, part_task, table_page}
use Rattle.part_steps.specs.PartTopics.{part_topics}
use Rattle.part_steps.specs.SweepTopics.{gone_up, has_entry, swept_to}
use Rattle.part_steps.specs.Tasks.{kind_of_task}
use Rattle.part_steps.specs.TopicSteps.{topics_after}
use Rattle.part_steps.specs.WalkTopics.{linked_page}
use Rattle.part_steps.specs.declared.part_step.PartStep.{PartStep}
use Rattle.part_steps.specs.declared.part_step.PartStep.TheVariants as part
use Rattle.part_steps.specs.declared.task.Task.{Task}
use Rattle.mmu_core.proofs.invariant.Kept.{makes_at, makes_slot_change}
use Rattle.mmu_core.proofs.forms.access.AccessParts.{AreSmall}
use Rattle.mmu_core.proofs.lines.KnowsKept.{step_knows}
use Rattle.mmu_core.proofs.orders.SweepKnown.{sweep_known}
use Rattle.mmu_core.proofs.machine.Columns.{upd_same}
use Rattle.mmu_core.proofs.machine.PartStepping.{IsPart}
use Rattle.mmu_core.proofs.machine.Stepping.{IsStep}
use Rattle.mmu_core.proofs.pages.Paths.{up_stands}
use Rattle.mmu_core.proofs.pages.ProtectedLeaf.{found_same, pool_protected}
use Rattle.mmu_core.proofs.pages.Standing.{spot_after, up_after}
use Rattle.mmu_core.proofs.pages.TreeKept.{tree_kept}
use Rattle.mmu_core.proofs.words.PartTopics.{is_there, part_topics_is}
use Rattle.mmu_core.specs.declared.sweep.SweepNext.{SweepNext}
use Rattle.mmu_core.specs.declared.sweep.SweepNext.TheVariants.{Entry, Leaf, Over}
use Rattle.mmu_core.specs.invariant.AllOver.{AllOver}
use Rattle.mmu_core.specs.invariant.Invariant.{Invariant}
use Rattle.mmu_core.specs.invariant.TopicsInvariant.{TopicsInvariant}
use Rattle.mmu_core.specs.invariant.TreePart.{Position, TreePart, Use, at, stands}
use Rattle.mmu_core.specs.forms.access.AccessSteps.{task_by}
use Rattle.mmu_core.specs.lines.Forms.{note_at, part_at}
use Rattle.mmu_core.specs.lines.PartAt.{task_at, touch_at}
use Rattle.mmu_core.specs.forms.log.LogSteps.{frame_asked, log_note, log_part, slot_asked}
use Rattle.mmu_core.specs.orders.SweepKnows.{IsAtEntry, IsAtLeaf, SweepKnows}
use Rattle.mmu_core.specs.machine.View.{View, answer_in, hand_after, part_stepped, stepped, words_after}
use Rattle.log_invariant.proofs.Accounts.{all_accounts}
use Rattle.log_invariant.proofs.OwnExcuse.{PassesAt, PassesOf, passed_of}
use Rattle.mmu_core.proofs.forms.log.ReadingPlaces.{IsOfReading, reading_is}
use Rattle.mmu_core.specs.forms.log.Readings.{Reading, reading_at}
use Rattle.log_invariant.proofs.forms.log.PassedPages.{leaf_denies, walk_denies}
use Rattle.log_invariant.proofs.SweptWrites.{passed_denies}
use Rattle.mmu_core.proofs.pages.Linked.{alone_linked, alone_up_linked}

-- A sweep stands at a table, after an entry.
swept_there : (n : SweepNext) (zaps : Bool) (range : FrameRange) (walk : TableWalk) → SweepKnows n zaps range walk → 1 ≤ walk.level
swept_there Over zaps range walk K = K.there
swept_there Leaf zaps range walk K = K.saw.over.there
swept_there Entry zaps range walk K = K.on.there

-- what is said of no leaf of these frames
abbrev pub DeniesPassed : Place → Command → Held → TableWalk → ℕ → ℕ → ℕ → Type 0
DeniesPassed p command h after level gfn w = PassesAt p command h after gfn → kind_of level w ≡ entry_kind.Leaf → can_write w ≡ true → ⊥

module _ (z : Sizes) (v : View) (a : ℕ) (note : ℕ) (P : TopicsInvariant z v) (command : Command) (range : FrameRange) where
  abbrev t : Topics
  t = (v.hand a).topics

  abbrev came : ℕ
  came = swept_to false range.start t.walk

  -- It loads an entry.
  sweep_denies : (S : IsPart z v a (part.Sweep came)) → range.end ≤ 2 ^ 36 → IsAtEntry false range t.walk
      → AllOver P.up P.spot ((part_stepped a (part.Sweep came) note v).words area.Pool) ((part_stepped a (part.Sweep came) note v).words area.Root 0)
      (DeniesPassed (place.SlotChange (change.WriteProtect range (protect.Walk true))) command (v.hand a)
      (part_topics (part.Sweep came) t (v.words area.Pool (pool_index (table_page (gone_up t.walk)) (entry_index came (gone_up t.walk).level)))).walk)
  sweep_denies S most K l j other R O passes =
      passed_denies (tree_kept z v a (part.Sweep came) note S P) up (alone_up_linked z v P a S.there S.needs.alone S.needs.outside S.needs.there) at_up
      range.start came x
      (linked_page (kind_of up.level x))
      (K.on.over K.left).span K.on.from refl (swept_there _ false range _ (sweep_known false range t.walk x most K)) l j other R O passes.1 passes.2
    where
      up : TableWalk
      up = gone_up t.walk

      x : ℕ
      x = v.words area.Pool (pool_index (table_page up) (entry_index came up.level))

      at_up : stands P.up P.spot (table_page up) ≡ Some (at up.level up.prefix)
      at_up =
          up_stands (stands P.up P.spot) t (P.held a S.there) (P.paths a S.there) S.needs.there
          (P.tree.there _ _ ((P.held a S.there).table S.needs.there)).2

  -- It forbids writes in a leaf.
  protect_denies : (S : IsPart z v a (part.Protect came)) → IsAtLeaf false range t.walk
      → AllOver P.up P.spot ((part_stepped a (part.Protect came) note v).words area.Pool) ((part_stepped a (part.Protect came) note v).words area.Root 0)
      (DeniesPassed (place.SlotChange (change.WriteProtect range protect.Protect)) command (v.hand a) (part_topics (part.Protect came) t 0).walk)
  protect_denies S K l j other R O passes =
      passed_denies (tree_kept z v a (part.Protect came) note S P) t.walk (alone_linked z v P a S.there S.needs.alone S.needs.outside K.saw.over.there)
      ((P.held a S.there).table K.saw.over.there) range.start came
      (without_write t.walk.entry) None K.saw.over.span K.from left K.saw.over.there l j other R O passes.1 passes.2
    where
      left : (part_stepped a (part.Protect came) note v).words area.Pool (pool_index (table_page t.walk) (entry_index came t.walk.level))
          ≡ without_write t.walk.entry
      left =
          ap (λ (pool : ℕ → ℕ). pool (pool_index (table_page t.walk) (entry_index came t.walk.level))) (pool_protected z v a came S note)
          ∙ upd_same (v.words area.Pool) (pool_index (table_page t.walk) (entry_index came t.walk.level)) _ ∙ ap without_write (found_same z v a came S P)

-- What an actor holds after the step of a part that its line makes.
pub topics_made : (v : View) (a : ℕ) (line : Line) (command : Command) (p : Place) (step : PartStep) → part_at p command (v.hand a) ≡ Some step
    → PartNeeds step (v.hand a)
    → (hand_after line command p (v.hand a) (answer_in (task_at p command (v.hand a)) v.words)).topics
    ≡ part_topics step (v.hand a).topics
    (answer_in (part_task step (own_index (v.hand a)) (v.hand a).topics (note_at p command (v.hand a))) v.words)
topics_made v a line command p step is needs =
    let h : Held = v.hand a in
    let made : PartStep → Task = λ s. part_task s (own_index h) h.topics (note_at p command h) in
    ap (λ (s : Option PartStep).
    let task : Task = task_by s h (note_at p command h) (touch_at command h) in
    topics_after h.state.sizes (kind_of_task h.state.sizes task) h.topics (answer_in task v.words)) is
    ∙ part_topics_is h.state.sizes step (own_index h) h.topics (note_at p command h) (answer_in (made step) v.words) (is_there step h needs)

-- It is so of what the step finds.
pub topics_then : (v : View) (a : ℕ) (line : Line) (command : Command) (p : Place) (step : PartStep) → part_at p command (v.hand a) ≡ Some step
    → PartNeeds step (v.hand a)
    → (hand_after line command p (v.hand a) (answer_in (task_at p command (v.hand a)) v.words)).topics
    ≡ part_topics step (v.hand a).topics (answer_in (task_at p command (v.hand a)) v.words)
topics_then v a line command p step is needs =
    topics_made v a line command p step is needs
    ∙ ap (λ (s : Option PartStep). part_topics step (v.hand a).topics (answer_in (task_by s (v.hand a) (note_at p command (v.hand a)) (touch_at command (v.hand
    a)))
    v.words)) (sym is)

-- So no leaf allows writes over what is passed, after each step of a line, in each account of the tables.
module _ (z : Sizes) (v : View) (a : ℕ) (line : Line) (command : Command) (small : AreSmall v) (I : Invariant z v) (P : TopicsInvariant z v) where
  abbrev pub DeniesBehind : Place → Type 0
  DeniesBehind p =
      let w : View = stepped a line command p v in
      (up : ℕ → Use) (spot : ℕ → Position) → TreePart z.pool (w.words area.Root 0) (w.words area.Role) (w.words area.Pool) up spot
      → AllOver up spot (w.words area.Pool) (w.words area.Root 0) (DeniesPassed p command (v.hand a)
      (hand_after line command p (v.hand a) (answer_in (task_at p command (v.hand a)) v.words)).topics.walk)

  -- What is so in one account is so in each.
  carried : (p : Place) (step : PartStep) (note : ℕ) (M : IsPart z v a step) (walk : TableWalk)
      → ◌≡◌ {A = Area → ℕ → ℕ} (stepped a line command p v).words (part_stepped a step note v).words
      → (hand_after line command p (v.hand a) (answer_in (task_at p command (v.hand a)) v.words)).topics.walk ≡ walk
      → AllOver (up_after step a (v.hand a).topics v P.up) (spot_after step (v.hand a).topics v P.spot) ((part_stepped a step note v).words area.Pool)
      ((part_stepped a step note v).words area.Root 0) (DeniesPassed p command (v.hand a) walk)
      → DeniesBehind p
  carried p step note M walk same is A up spot =
      subst (Denies (stepped a line command p v).words) (sym is) (subst (λ (words : Area → ℕ → ℕ). Denies words walk) (sym same)
      (λ T. all_accounts (tree_kept z v a step note M P) T (DeniesPassed p command (v.hand a) walk) A))
    where
      Denies : (Area → ℕ → ℕ) → TableWalk → Type 0
      Denies words to =
          TreePart z.pool (words area.Root 0) (words area.Role) (words area.Pool) up spot
          → AllOver up spot (words area.Pool) (words area.Root 0) (DeniesPassed p command (v.hand a) to)

  by_protect : (range : FrameRange) (q : WriteProtectPlace) → IsStep z v a line command (place.SlotChange (change.WriteProtect range q))
      → DeniesBehind (place.SlotChange (change.WriteProtect range q))
  by_protect range (protect.Walk true) S =
      let p : Place = place.SlotChange (change.WriteProtect range (protect.Walk true)) in
      let M = makes_slot_change z v a line (change.WriteProtect range (protect.Walk true)) command small S I P in
      let K = (step_knows z v a line command p S I).1 in
      carried p _ 0 M _ refl (ap (λ (t : Topics). t.walk) (topics_made v a line command p _ refl M.needs))
      (sweep_denies z v a 0 P command range M K.2.low (K.1.1 refl))
  by_protect range protect.Protect S =
      let p : Place = place.SlotChange (change.WriteProtect range protect.Protect) in
      let M = makes_slot_change z v a line (change.WriteProtect range protect.Protect) command small S I P in
      let K = (step_knows z v a line command p S I).1 in
      carried p _ 0 M _ refl (ap (λ (t : Topics). t.walk) (topics_made v a line command p _ refl M.needs)) (protect_denies z v a 0 P command range M K.1.1)
  by_protect range (protect.Walk false) S = λ up spot T table entry gfn R O passes. absurd (let no = passes.0 in cc no)
  by_protect range _ S = λ up spot T table entry gfn R O passes. absurd (let no = passes.0 in cc no)

  -- The step of a reading, where it can't end with it.
  at_reading : (p : Place) (q : LogPlace) (c : Command) → reading_at p command (v.hand a) ≡ Some (record { place = q; command = c })
      → IsStep z v a line command p
      → log_note q (v.hand a) c ≡ 0
      → ((up : ℕ → Use) (spot : ℕ → Position) (M : IsPart z v a (log_part q (v.hand a) c))
      → AllOver (up_after (log_part q (v.hand a) c) a (v.hand a).topics v P.up) (spot_after (log_part q (v.hand a) c) (v.hand a).topics v P.spot)
      ((part_stepped a (log_part q (v.hand a) c) 0 v).words area.Pool) ((part_stepped a (log_part q (v.hand a) c) 0 v).words area.Root 0)
      (DeniesPassed p command (v.hand a) (part_topics (log_part q (v.hand a) c) (v.hand a).topics
      (answer_in (part_task (log_part q (v.hand a) c) (own_index (v.hand a)) (v.hand a).topics 0) v.words)).walk)) → DeniesBehind p
  at_reading p q c is S noteless denies up spot =
      carried p step 0 M _
      (ap (λ (s : Option PartStep). words_after (task_by s h (note_at p command h) (touch_at command h)) v.words) there.part
      ∙ ap (λ note. words_after (part_task step (own_index h) h.topics note) v.words) (there.note noteless))
      (ap (λ (t : Topics). t.walk) (topics_made v a line command p step there.part M.needs)
      ∙ ap (λ note. (part_topics step h.topics (answer_in (part_task step (own_index h) h.topics note) v.words)).walk) (there.note noteless)) (denies up spot
      M) up spot
    where
      h : Held
      h = v.hand a

      step : PartStep
      step = log_part q h c

      there : IsOfReading p command h (record { place = q; command = c })
      there = reading_is p command h _ is

      M : IsPart z v a step
      M = makes_at z v a line command p small S I P step there.part

  by_reading : (p : Place) (q : LogPlace) (c : Command) → reading_at p command (v.hand a) ≡ Some (record { place = q; command = c })
      → IsStep z v a line command p → DeniesBehind p
  by_reading p (log.Walk page) c is S =
      let W = ((reading_is p command (v.hand a) _ is).knows (step_knows z v a line command p S I)).0 in
      at_reading p (log.Walk page) c is S refl
      (λ up spot M l j other R O passes.
      walk_denies z v a P (frame_asked (slot_asked (v.hand a) c) c page) (has_entry (v.hand a).topics.walk) W.alone W.outside M l j other R O
      (passed_of p command (v.hand a) _ _ other is passes))
  by_reading p (log.Protect page) c is S =
      at_reading p (log.Protect page) c is S refl
      (λ up spot M l j other R O passes. leaf_denies z v a P (frame_asked (slot_asked (v.hand a) c) c page) M l j other R O
      (passed_of p command (v.hand a) _ _ other is passes))
  by_reading p _ c is S = λ up spot T table entry gfn R O passes. absurd (passed_of p command (v.hand a) _ _ gfn is passes)

  by_option : (p : Place) (o : Option Reading) → reading_at p command (v.hand a) ≡ o → IsStep z v a line command p
      → ((after : TableWalk) (gfn : ℕ) → PassesAt p command (v.hand a) after gfn → PassesOf (reading_at p command (v.hand a)) (v.hand a) after gfn)
      → DeniesBehind p
  by_option p (Some r) is S only = by_reading p r.place r.command is S
  by_option p None is S only = λ up spot T table entry gfn R O passes.
      let after : TableWalk = (hand_after line command p (v.hand a) (answer_in (task_at p command (v.hand a)) v.words)).topics.walk in
      absurd (subst (λ (o : Option Reading). PassesOf o (v.hand a) after gfn) is (only after gfn passes))

  -- Nothing is passed at any other place.
  pub none_passed : (p : Place) → IsStep z v a line command p → DeniesBehind p
  none_passed (place.SlotChange (change.WriteProtect range q)) S = by_protect range q S
  none_passed p S = by_option p (reading_at p command (v.hand a)) refl S (λ after gfn passes. passes)
