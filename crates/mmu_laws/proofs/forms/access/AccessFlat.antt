-- What the steps of an access owe flat memory.
use Rattle.core_views.proofs.Barred.{goes_on}
use Rattle.core_views.specs.Held.{State}
use Rattle.std.proofs.Common.{◌≡◌, ◌≢◌, ◌<◌, ℕ, [], ◌∷◌, refl, sym, subst, ap, ◌∙◌, arith}
use Rattle.std.specs.Prelude.{Bool, true, false, ◌==◌, ◌&&◌, ◌||◌, not, if◌then◌else◌, Option, Some, None}
use Rattle.core_views.specs.declared.answer.Answer.TheVariants.{Reached}
use Rattle.core_views.specs.declared.cache.Translation.{Translation}
use Rattle.core_views.specs.declared.event.EventKind.TheVariants.{Accessed}
use Rattle.core_views.specs.declared.place.AccessPlace.{AccessPlace}
use Rattle.core_views.specs.declared.place.AccessPlace.TheVariants.{Enter, Pause, Root, Walk, Touch, Leave, Fault}
use Rattle.core_views.specs.declared.place.FaultPlace.TheVariants as fault
use Rattle.core_views.specs.declared.place.Leaving.TheVariants as leaving
use Rattle.core_views.specs.declared.place.Place.TheVariants as place
use Rattle.core_views.specs.declared.sizes.Sizes.{Sizes}
use Rattle.core_views.specs.declared.topics.Topics.{Topics}
use Rattle.core_views.specs.declared.trace.Command.TheVariants.{Access}
use Rattle.core_views.specs.declared.trace.Line.{Line}
use Rattle.core_views.specs.declared.trace.Op.{Op}
use Rattle.core_views.specs.declared.trace.Op.TheVariants.{Read, Write, Add}
use Rattle.core_views.specs.Events.{touched}
use Rattle.core_views.specs.Migrations.{is_paused}
use Rattle.core_views.specs.Flat.{Facts, LineUnderWay, Stage}
use Rattle.core_views.specs.Past.{Past}
use Rattle.core_views.specs.Lawful.{Tells}
use Rattle.core_views.specs.Memory.{word_after_op}
use Rattle.core_views.specs.Names.{frame_at, frame_for}
use Rattle.core_views.specs.Slots.{is_write, page_behind}
use Rattle.core_views.specs.SlotSets.{flat_slots}
use Rattle.spte_words.specs.declared.area.Area.{Area}
use Rattle.spte_words.specs.declared.area.Area.TheVariants as area
use Rattle.spte_words.specs.declared.spte_kind.SpteKind.{SpteKind}
use Rattle.spte_words.specs.declared.spte_kind.SpteKind.TheVariants as entry_kind
use Rattle.spte_words.specs.Areas.{content_index}
use Rattle.spte_words.specs.Entries.{kind_of}
use Rattle.part_steps.specs.declared.part_step.PartStep.{PartStep}
use Rattle.part_steps.specs.declared.part_step.PartStep.TheVariants as part
use Rattle.mmu_core.specs.forms.access.AccessSteps.{access_note, access_part, access_task, pause_next, task_by, touch_of, stay_next}
use Rattle.mmu_core.specs.forms.access.Cached.{frame_used, first_usable}
use Rattle.mmu_core.specs.forms.access.FaultSteps.{allows_access}
use Rattle.mmu_laws.specs.flat.FlatInvariant.{AccessUnder, Runs}
use Rattle.mmu_core.specs.invariant.Invariant.{Invariant, IsLeafFor}
use Rattle.mmu_core.specs.forms.access.AccessKnows.{AccessKnows}
use Rattle.part_steps.specs.SlotWords.{page_of}
use Rattle.part_steps.specs.Tasks.{kind_of_task, map_of}
use Rattle.mmu_core.specs.invariant.TopicsInvariant.{TopicsInvariant}
use Rattle.part_steps.specs.TopicSteps.{topics_after}
use Rattle.mmu_core.specs.machine.View.{View, answer_in, put, words_after}
use Rattle.mmu_core.proofs.machine.Columns.{upd_same, upd_other}
use Rattle.mmu_laws.proofs.forms.access.FaultFlat.{fault_goes}
use Rattle.mmu_laws.proofs.flat.FlatSteps.{Goes, Leaves, Ready, StepGoes, answers_by, part_leaves, part_refines, refined_slots, refines_stay}
use Rattle.mmu_laws.proofs.forms.access.PageFound.{leaf_allows, page_in_machine, page_is_behind, word_in_page}
use Rattle.mmu_core.proofs.machine.PartStepping.{IsPart}
use Rattle.mmu_core.proofs.machine.Stepping.{IsStep}
use Rattle.mmu_core.proofs.slots.LiveStays.{access_never, access_quiet, is_bring}
use Rattle.mmu_core.proofs.forms.access.UsedTranslations.{uses_allows}
use Rattle.mmu_core.proofs.words.HostFrames.{leaf_maps}
use Rattle.core_views.specs.declared.actor.Actor.{Actor}
use Rattle.mmu_core.proofs.held.UsableSteps.{UsableAt}
use Rattle.mmu_core.proofs.pages.FrameUses.{frames_apart}
use Rattle.mmu_laws.proofs.forms.access.TouchedMemory.{AreDistinct, memory_behind}
use Rattle.mmu_core.specs.forms.host.HostSteps.{entry_of}
use Rattle.core_views.specs.Traces.{IsCommandFor}
use Rattle.mmu_core.proofs.held.UsableKept.{used_agrees}
use Rattle.core_views.specs.Sizes.{index_of}
use Rattle.spte_words.specs.HostWords.{host_allows_write, host_frame, host_level}
use Rattle.core_views.specs.declared.actor.Actor.TheVariants.{Vcpu}
use Rattle.core_views.specs.declared.actor.Actor.TheVariants as actors

-- The step is one of a part, if it isn't the touch.
abbrev pub IsPartOr : Sizes → View → ℕ → Option PartStep → Type 0
IsPartOr z v a None = Unit {0}
IsPartOr z v a (Some step) = IsPart z v a step

-- Where a stay goes on, nothing is done yet.
pause_under : (pool : ℕ → ℕ) (gfn : ℕ) (op : Op) (t : Topics) (u : LineUnderWay) (again : Bool) (found : Option Translation) → Runs u
    → AccessUnder pool (pause_next again found) gfn op t u
pause_under pool gfn op t u again None runs = runs
pause_under pool gfn op t u again (Some found) runs = runs

leaf_under : (pool : ℕ → ℕ) (gfn : ℕ) (op : Op) (t : Topics) (u : LineUnderWay) (allowed : Bool) → Runs u
    → AccessUnder pool (if allowed then Touch else Leave (leaving.Faults true)) gfn op t u
leaf_under pool gfn op t u true runs = runs
leaf_under pool gfn op t u false runs = runs

walk_under : (pool : ℕ → ℕ) (gfn : ℕ) (op : Op) (t : Topics) (u : LineUnderWay) (again : Bool) (k : SpteKind) (allowed : Bool) → Runs u
    → AccessUnder pool (stay_next again k allowed) gfn op t u
walk_under pool gfn op t u again entry_kind.Leaf allowed runs = leaf_under pool gfn op t u allowed runs
walk_under pool gfn op t u again _ allowed runs = runs

-- A page that is present, and of which the host forbids nothing to the operation, names its frame.
frame_named : (op : Op) (frame : ℕ) (writable : Bool) (level : ℕ) → (is_write op && not writable) ≡ false
    → frame_for op (record { frame = frame; present = true; writable = writable; level = level }) ≡ Some frame
frame_named op frame writable level allowed = ap (λ (b : Bool). if b || not true then None else Some frame) allowed

-- what a touch finds: the page behind the guest frame, and its word in memory
record Touches (z : Sizes) (host : ℕ → ℕ) (s : State) (gfn word : ℕ) (op : Op) (facts : Facts) : Type 0 where
  page : ℕ
  page_in : page < z.pages
  word_in : word < z.words
  frame : frame_used gfn s ≡ host_frame (host page)
  named : frame_for op (facts.host page) ≡ Some (host_frame (host page))
  behind_is : page_behind (flat_slots facts.slots) gfn op ≡ Some page
  index : content_index (map_of s.sizes) (frame_used gfn s) word ≡ content_index (map_of z) (host_frame (host page)) word

-- The actor of an access is a virtual processor.
vcpu_low : (z : Sizes) (v : View) (a : ℕ) (line : Line) (gfn word : ℕ) (op : Op) (p : AccessPlace)
    → IsStep z v a line (Access gfn word op) (place.Access p) → Invariant z v → a < z.vcpus
vcpu_low z v a line gfn word op p S I =
    let may = subst (λ (x : Actor). IsCommandFor z x (Access gfn word op)) S.own S.allowed in
    by (v.hand a).state.actor may (I.lines a S.there).index
  where
    by : (actor : Actor) → IsCommandFor z actor (Access gfn word op) → index_of z actor ≡ a → a < z.vcpus
    by (Vcpu n) may is = let low = may.0 in omega (arith, low, is)
    by (actors.Host n) may is = absurd may
    by actors.Manager may is = absurd may
    by (actors.Worker n) may is = absurd may

touches : (z : Sizes) (v : View) (a : ℕ) (line : Line) (gfn word : ℕ) (op : Op) (facts : Facts) (u : LineUnderWay)
    → IsStep z v a line (Access gfn word op) (place.Access Touch) → Invariant z v → TopicsInvariant z v → UsableAt z v
    → AccessKnows Touch gfn (is_write op) (v.hand a)
    → Ready z v line (Access gfn word op) (place.Access Touch) (v.hand a).topics facts u
    → Touches z (v.words area.Host) (v.hand a).state gfn word op facts
touches z v a line gfn word op facts u S I P U K R =
    let s : State = (v.hand a).state in
    let used = used_agrees z v a gfn (is_write op) U (vcpu_low z v a line gfn word op (Touch) S I) K.0.guest K.1 in
    let F : IsLeafFor (v.words area.Pool) (v.words area.Host) (v.words area.Slots 0) s.used.level gfn s.used.leaf = used in
    let page : ℕ = page_of F.slot gfn in
    let page_in : page < z.pages = page_in_machine z (v.words area.Slots 0) (v.words area.Role) (v.words area.Pool) F.id gfn F.slot I.set_part F.live F.holds in
    let frame : frame_used gfn s ≡ host_frame (v.words area.Host page) =
    leaf_maps (v.words area.Pool) (v.words area.Host) (v.words area.Slots 0) s.used.level gfn s.used.leaf F in
    let allowed = leaf_allows op s.used.level F.first F.writes F.slot (v.words area.Host page) s.used.leaf F.is
    (uses_allows gfn (is_write op) (v.hand a) K.1) in
    record {
      page = page;
      page_in = page_in;
      word_in = word_in_page z line.actor gfn word op S.allowed;
      frame = frame;
      named =
          let word : ℕ = v.words area.Host page in
          ap (frame_for op) (R.refines.host page page_in)
          ∙ (ap (λ (b : Bool). frame_for op (record { frame = host_frame word; present = b; writable = host_allows_write word; level = host_level word }))
          F.present
          ∙ frame_named op (host_frame word) (host_allows_write word) (host_level word) allowed.1);
      behind_is =
          page_is_behind z (v.words area.Slots 0) (v.words area.Role) (v.words area.Pool) F.id gfn F.slot op (flat_slots facts.slots)
          I.set_part F.live F.holds allowed.0 (refined_slots z (v.words area.Slots 0) (v.words area.Pool) (v.words area.Host) (v.words area.Content)
          (v.words area.Pause 0) facts R.refines);
      index = rw ((I.lines a S.there).sizes, frame) refl;
    }

touch_goes : (z : Sizes) (v : View) (a : ℕ) (line : Line) (gfn word : ℕ) (op : Op) (facts : Facts) (past : Past) (u : LineUnderWay)
    (after : Area → ℕ → ℕ) (t : Topics)
    → IsStep z v a line (Access gfn word op) (place.Access Touch) → Ready z v line (Access gfn word op) (place.Access Touch) (v.hand a).topics facts u
    → AreDistinct z (v.words area.Host) → (T : Touches z (v.words area.Host) (v.hand a).state gfn word op facts)
    → after area.Slots ≡ v.words area.Slots → after area.Pool ≡ v.words area.Pool → after area.Host ≡ v.words area.Host → after area.Pause ≡ v.words area.Pause
    → after area.Content (content_index (map_of (v.hand a).state.sizes) (frame_used gfn (v.hand a).state) word) ≡ word_after_op op
    (v.words area.Content (content_index (map_of (v.hand a).state.sizes) (frame_used gfn (v.hand a).state) word))
    → ((i : ℕ) → i ≢ content_index (map_of (v.hand a).state.sizes) (frame_used gfn (v.hand a).state) word → after area.Content i ≡ v.words area.Content i)
    → let x : ℕ = v.words area.Content (content_index (map_of (v.hand a).state.sizes) (frame_used gfn (v.hand a).state) word) in
    Goes z (v.hand a).state.actor line (Access gfn word op) after (place.Access (Leave (leaving.Reached (frame_used gfn (v.hand a).state) x))) t
    (Accessed gfn word op (frame_used gfn (v.hand a).state) x ∷ []) facts past u
touch_goes z v a line gfn word op facts past u after t S R distinct T slots_is pool_is host_is pause_is here there = record {
  allowed = (
    (
      R.under.1.0,
      ap (λ (l : Line). l.command) R.under.0 ∙ S.command_is,
      R.under.1.1,
      record {
        named = ap (frame_at facts.host op) T.behind_is ∙ T.named ∙ ap Some (sym T.frame);
        page = T.page;
        behind = T.behind_is;
        value_is = R.refines.memory T.page word T.page_in T.word_in ∙ ap (v.words area.Content) (sym T.index);
        goes = goes_on facts.migration R.runs;
      },
    ),
    tt,
  );
  refines = record {
    slots = R.refines.slots ∙ rw (slots_is, pool_is) refl;
    host = λ p lt. R.refines.host p lt ∙ sym (ap (λ (g : ℕ → ℕ). entry_of (g p)) host_is);
    memory =
        subst (λ (host : ℕ → ℕ). (p j : ℕ) → p < z.pages → j < z.words
        → touched (page_behind (flat_slots facts.slots) gfn op) word op facts.memory p j
        ≡ after area.Content (content_index (map_of z) (host_frame (host p)) j)) (sym host_is)
        (subst (λ page. (p j : ℕ) → p < z.pages → j < z.words
        → touched page word op facts.memory p j ≡ after area.Content (content_index (map_of z) (host_frame (v.words area.Host p)) j)) (sym T.behind_is)
        (memory_behind z T.page word op facts.memory (v.words area.Host) (v.words area.Content) (after area.Content) distinct T.page_in T.word_in
        R.refines.memory
        (rw T.index at here) (rw T.index at there)));
    paused = R.refines.paused ∙ ap (λ (g : ℕ → ℕ). not (g 0 == 0)) (sym pause_is);
    idle = R.refines.idle;
  };
  under = (R.under.0, refl);
}

-- the index of the word that the access touches
abbrev pub touched_index : ℕ → State → ℕ → ℕ
touched_index gfn s word = content_index (map_of s.sizes) (frame_used gfn s) word

module _ (z : Sizes) (v : View) (a : ℕ) (line : Line) (gfn word : ℕ) (facts : Facts) (past : Past) (u : LineUnderWay) where
  -- what a step of the access owes, from what its actor knows
  abbrev Owes : Op → AccessPlace → Type 0
  Owes op p =
      IsStep z v a line (Access gfn word op) (place.Access p) → Invariant z v → TopicsInvariant z v → UsableAt z v
      → IsPartOr z v a (access_part p gfn (v.hand a).topics) → AccessKnows p gfn (is_write op) (v.hand a)
      → Ready z v line (Access gfn word op) (place.Access p) (v.hand a).topics facts u → StepGoes z v a line (Access gfn word op) (place.Access p) facts past u

  abbrev words_behind : Op → AccessPlace → Area → ℕ → ℕ
  words_behind op p = words_after (access_task p (v.hand a) gfn word op) v.words

  abbrev answered : Op → AccessPlace → ℕ
  answered op p = answer_in (access_task p (v.hand a) gfn word op) v.words

  abbrev held_behind : Op → AccessPlace → Topics
  held_behind op p =
      topics_after (v.hand a).state.sizes (kind_of_task (v.hand a).state.sizes (access_task p (v.hand a) gfn word op)) (v.hand a).topics (answered op p)

  touch_owes : (op : Op) → Owes op Touch
  touch_owes Read S I P U part_ K R =
      touch_goes z v a line gfn word Read facts past u v.words (held_behind Read Touch) S R
      (frames_apart P.frames) (touches z v a line gfn word Read facts u S I P U K R) refl refl refl refl refl (λ i apart. refl)
  touch_owes (Write x) S I P U part_ K R =
      touch_goes z v a line gfn word (Write x) facts past u (put v.words area.Content (touched_index gfn (v.hand a).state word) x)
      (held_behind (Write x) Touch) S R (frames_apart P.frames) (touches z v a line gfn word (Write x) facts u S I P U K R) refl refl refl refl
      (upd_same (v.words area.Content) (touched_index gfn (v.hand a).state word) x)
      (λ i apart. upd_other (v.words area.Content) (touched_index gfn (v.hand a).state word) i x apart)
  touch_owes (Add x) S I P U part_ K R =
      let sum : ℕ = word_after_op (Add x) (v.words area.Content (touched_index gfn (v.hand a).state word)) in
      touch_goes z v a line gfn word (Add x) facts past u (put v.words area.Content (touched_index gfn (v.hand a).state word) sum)
      (held_behind (Add x) Touch) S R (frames_apart P.frames) (touches z v a line gfn word (Add x) facts u S I P U K R) refl refl refl refl
      (upd_same (v.words area.Content) (touched_index gfn (v.hand a).state word) sum)
      (λ i apart. upd_other (v.words area.Content) (touched_index gfn (v.hand a).state word) i sum apart)

  -- A step of a stay that tells nothing.
  quiet : (op : Op) (p next : AccessPlace) (step : PartStep) → access_part p gfn (v.hand a).topics ≡ Some step → is_bring p ≡ false → IsPart z v a step
      → Invariant z v → TopicsInvariant z v
      → Ready z v line (Access gfn word op) (place.Access p) (v.hand a).topics facts u
      → (u.line ≡ line) × AccessUnder (words_behind op p area.Pool) next gfn op (held_behind op p) u
      → Goes z (v.hand a).state.actor line (Access gfn word op) (words_behind op p) (place.Access next) (held_behind op p) [] facts past u
  quiet op p next step is other S I P R under = record { allowed = tt; refines = refines_stay z v.words (words_behind op p) facts L R.refines; under = under }
    where
      L : Leaves z v.words (words_behind op p)
      L = subst (λ o. Leaves z v.words (words_after (task_by o (v.hand a) (access_note p) (touch_of op (touched_index gfn (v.hand a).state word))) v.words))
          (sym is)
          (part_leaves z v a step (access_note p) S P (access_never p gfn (v.hand a).topics step is) (access_quiet p gfn (v.hand a).topics step is other))

  -- The access is answered.
  reached_owes : (op : Op) (frame value : ℕ) → Owes op (Leave (leaving.Reached frame value))
  reached_owes op frame value S I P U part_ K R =
      answers_by z v a line (Access gfn word op) (access_task (Leave (leaving.Reached frame value)) (v.hand a) gfn word op) facts past u
      (part_refines z v a part.Leave 1 facts part_ P refl refl R.refines) (Reached frame value) R.under.0
      (subst (λ (stage : Stage). Tells z facts (v.hand a).state.actor u.line.command stage (Reached frame value)) (sym R.under.1) refl)

  -- The line looks at the pause, which isn't set.
  looks_at_pause : (op : Op) (again : Bool) → IsPart z v a part.Pause → TopicsInvariant z v
      → Ready z v line (Access gfn word op) (place.Access (Pause again)) (v.hand a).topics facts u
      → StepGoes z v a line (Access gfn word op) (place.Access (Pause again)) facts past u
  looks_at_pause op again S P R = record {
    allowed = (R.under.1, tt);
    refines = refines_stay z v.words (words_behind op (Pause again)) facts (part_leaves z v a part.Pause 0 S P refl refl) R.refines;
    under = (
      R.under.0,
      pause_under (words_behind op (Pause again) area.Pool) gfn op (held_behind op (Pause again))
          (record u { notes = record u.notes { paused = Some (is_paused facts.migration) } }) again
          (first_usable gfn (is_write op) (v.hand a).cached.items) (R.under.1, ap Some R.runs),
    );
  }

  pub access_goes : (op : Op) (p : AccessPlace) → Owes op p
  access_goes op (Enter again) S I P U part_ K R = quiet op (Enter again) (Pause again) part.Enter refl refl part_ I P R R.under
  access_goes op (Pause again) S I P U part_ K R = looks_at_pause op again part_ P R
  access_goes op (Root again) S I P U part_ K R = quiet op (Root again) (Walk again) part.Root refl refl part_ I P R R.under
  access_goes op (Walk again) S I P U part_ K R =
      let k : SpteKind = kind_of (v.hand a).topics.walk.level (answered op (Walk again)) in
      let allowed : Bool = allows_access (is_write op) (answered op (Walk again)) in
      quiet op (Walk again) (stay_next again k allowed) (part.Walk gfn) refl refl part_ I P R
      (R.under.0, walk_under (words_behind op (Walk again) area.Pool) gfn op (held_behind op (Walk again)) u again k allowed R.under.1)
  access_goes op Touch S I P U part_ K R = touch_owes op S I P U part_ K R
  access_goes op (Leave (leaving.Reached frame value)) S I P U part_ K R = reached_owes op frame value S I P U part_ K R
  access_goes op (Leave (leaving.Faults true)) S I P U part_ K R =
      quiet op (Leave (leaving.Faults true)) (Fault fault.FastBegin) part.Leave refl refl part_ I P R (R.under.0, (R.under.1, tt))
  access_goes op (Leave (leaving.Faults false)) S I P U part_ K R =
      quiet op (Leave (leaving.Faults false)) (Fault fault.Begin) part.Leave refl refl part_ I P R (R.under.0, (R.under.1, tt))
  access_goes op (Fault p) S I P U part_ K R = fault_goes z v a line gfn word op facts past u p S part_ I P K R
