-- What a step owes the flat side: its events are allowed, and words and its hand are flat memory after them.
use Rattle.std.proofs.Common.{◌≡◌, ℕ, List, [], ◌∷◌, ◌++◌, refl, sym, subst, ap, ◌∙◌, arith}
use Rattle.core_views.specs.declared.actor.Actor.{Actor}
use Rattle.core_views.specs.declared.answer.Answer.{Answer}
use Rattle.core_views.specs.declared.event.EventKind.{EventKind}
use Rattle.core_views.specs.declared.event.EventKind.TheVariants.{Answered, Exited}
use Rattle.core_views.specs.declared.place.Place.{Place}
use Rattle.core_views.specs.declared.place.Place.TheVariants as place
use Rattle.core_views.specs.declared.sizes.Sizes.{Sizes}
use Rattle.core_views.specs.declared.topics.OwnedFrame.{OwnedFrame}
use Rattle.core_views.specs.declared.topics.Topics.{Topics}
use Rattle.core_views.specs.declared.trace.Command.{Command}
use Rattle.core_views.specs.declared.trace.Line.{Line}
use Rattle.core_views.specs.Held.{Held}
use Rattle.core_views.specs.SlotSets.{flat_slots}
use Rattle.spte_words.specs.declared.area.Area.{Area}
use Rattle.spte_words.specs.declared.area.Area.TheVariants as area
use Rattle.spte_words.specs.Areas.{content_index}
use Rattle.spte_words.proofs.Indices.{same_content}
use Rattle.mmu_core.proofs.machine.Columns.{upd_other}
use Rattle.mmu_core.proofs.pages.FrameUses.{owned_of_no_page}
use Rattle.part_steps.specs.declared.task.Task.{Task}
use Rattle.part_steps.specs.declared.part_step.PartStep.{PartStep}
use Rattle.mmu_core.specs.lines.Forms.{outcome_at, tells_at}
use Rattle.mmu_core.specs.machine.Steps.{task_at}
use Rattle.mmu_core.specs.machine.Outcomes.{answering, place_after}
use Rattle.part_steps.specs.declared.part_step.PartStep.TheVariants as part
use Rattle.part_steps.specs.FrameTopics.{copy_held, frame_owned, words_moved}
use Rattle.part_steps.specs.PartTasks.{own_index, part_task}
use Rattle.part_steps.specs.Tasks.{kind_of_task, map_of}
use Rattle.mmu_core.specs.invariant.TopicsInvariant.{TopicsInvariant}
use Rattle.part_steps.specs.TopicSteps.{topics_after}
use Rattle.mmu_core.specs.machine.View.{View, answer_in, part_stepped, words_after}
use Rattle.mmu_laws.proofs.flat.Told.{AreAllowed, facts_behind, line_behind}
use Rattle.mmu_laws.specs.flat.FlatInvariant.{Refines}
pub use Rattle.mmu_laws.specs.flat.FlatInvariant.{UnderAt}
use Rattle.part_steps.specs.SlotWords.{memory_slots_below, slots_below}
use Rattle.std.specs.Prelude.{◌+◌, ◌*◌, ◌<◌, ◌==◌, true, false, not, Option, Some, None, is_some}
use Rattle.mmu_core.proofs.slots.LiveStays.{SetStays, published_stays}
use Rattle.mmu_core.proofs.machine.PartStepping.{IsPart, is_publish, changes_word}
use Rattle.mmu_core.proofs.words.PartWords.{areas_stay, slots_are, slots_same}
use Rattle.mmu_core.proofs.words.SlotLists.{flat_below}
use Rattle.mmu_core.proofs.slots.SlotsStay.{memory_below_stay}
use Rattle.core_views.specs.Flat.{Facts, Fresh, LineUnderWay}
use Rattle.core_views.specs.Lawful.{MayLeave, Tells}
use Rattle.core_views.specs.Migrations.{is_paused}
use Rattle.core_views.specs.Past.{Past}
use Rattle.mmu_core.specs.forms.host.HostSteps.{entry_of}
use Rattle.mmu_core.proofs.words.HostStays.{host_stays}
use Rattle.spte_words.specs.HostWords.{host_frame}

-- The line has begun and stands at this place; the facts are what the words say, and nothing is paused.
pub record Ready (z : Sizes) (v : View) (line : Line) (command : Command) (p : Place) (t : Topics) (facts : Facts) (u : LineUnderWay) : Type 0 where
  pub runs : is_paused facts.migration ≡ false
  pub refines : Refines z (v.words area.Slots 0) (v.words area.Pool) (v.words area.Host) (v.words area.Content) (v.words area.Pause 0) facts
  pub under : UnderAt z (v.words area.Pool) p line command t u

-- What the step tells is allowed; after it the facts are what the words say, and the line stands at this place.
pub record Goes (z : Sizes) (actor : Actor) (line : Line) (command : Command) (after : Area → ℕ → ℕ) (p : Place) (t : Topics) (kinds : List EventKind)
    (facts : Facts) (past : Past)
    (u : LineUnderWay) : Type 0 where
  pub allowed : AreAllowed z actor kinds facts past u
  pub refines : Refines z (after area.Slots 0) (after area.Pool) (after area.Host) (after area.Content) (after area.Pause 0) (facts_behind kinds facts)
  pub under : UnderAt z (after area.Pool) p line command t (line_behind kinds facts u)

-- the same of the actor's step, once its line has begun
abbrev pub StepGoes : Sizes → View → ℕ → Line → Command → Place → Facts → Past → LineUnderWay → Type 0
StepGoes z v a line command p facts past u =
    let h : Held = v.hand a in
    let task : Task = task_at p command h in
    let x : ℕ = answer_in task v.words in
    Goes z h.state.actor line command (words_after task v.words) (place_after (outcome_at p command h x))
    (topics_after h.state.sizes (kind_of_task h.state.sizes task) h.topics x)
    (tells_at p command h x ++ answering (outcome_at p command h x) line) facts past u

-- A step leaves which slot set is published, the words of its page, the host words, the words of each host page, and the pause.
pub record Leaves (z : Sizes) (before after : Area → ℕ → ℕ) : Type 0 where
  pub slots : after area.Slots 0 ≡ before area.Slots 0
  pub pool : SetStays (before area.Slots 0) (before area.Pool) (after area.Pool)
  pub host : after area.Host ≡ before area.Host
  pub content : (p j : ℕ) → p < z.pages → j < z.words → after area.Content (content_index (map_of z) (host_frame (before area.Host p)) j)
      ≡ before area.Content (content_index (map_of z) (host_frame (before area.Host p)) j)
  pub pause : after area.Pause ≡ before area.Pause

copied_owned : (x : Option OwnedFrame) → is_some (copy_held x) ≡ true → (o : OwnedFrame) × (x ≡ Some o)
copied_owned None some = absurd (cc some)
copied_owned (Some o) some = (o, refl)

stored_at : (z y : Sizes) (index : ℕ) (owned : Option OwnedFrame) (o : OwnedFrame) → y ≡ z → owned ≡ Some o
    → index ≡ y.words * frame_owned owned + words_moved owned → index ≡ content_index (map_of z) o.frame o.filled
unfolding content_index
stored_at z y index owned o same owns is =
    is ∙ ap (λ (x : Sizes). x.words * frame_owned owned + words_moved owned) same ∙ ap (λ x. z.words * frame_owned x + words_moved x) owns

-- A step of a part stores in content a word of the frame that its actor owns, which is no page's.
pages_stay : (z : Sizes) (v : View) (a : ℕ) (step : PartStep) (note : ℕ) → IsPart z v a step → TopicsInvariant z v → (p j : ℕ) → p < z.pages → j < z.words
    → (part_stepped a step note v).words area.Content (content_index (map_of z) (host_frame (v.words area.Host p)) j)
    ≡ v.words area.Content (content_index (map_of z) (host_frame (v.words area.Host p)) j)
pages_stay z v a (part.Store index) note S I p j low below =
    let frame : ℕ = host_frame (v.words area.Host p) in
    let owns = copied_owned (v.hand a).topics.frames.owned S.needs.copied in
    let at = stored_at z (v.hand a).state.sizes index (v.hand a).topics.frames.owned owns.0 S.sizes owns.1 S.needs.is in
    let filled : owns.0.filled < z.words = subst (λ x. words_moved x < z.words) owns.1
    (subst (λ (y : Sizes). words_moved (v.hand a).topics.frames.owned < y.words) S.sizes S.needs.left) in
    upd_other (v.words area.Content) index (content_index (map_of z) frame j) _
    (λ e. owned_of_no_page I.frames a owns.0 p S.there owns.1 low (same_content (map_of z) frame owns.0.frame j owns.0.filled below filled (e ∙ at)).0)
pages_stay z v a _ note S I p j low below = refl

-- So does each step of a part but a publication and a change of a host word.
pub part_leaves : (z : Sizes) (v : View) (a : ℕ) (step : PartStep) (note : ℕ) → IsPart z v a step → TopicsInvariant z v → is_publish step ≡ false
    → changes_word step ≡ false → Leaves z v.words ((part_stepped a step note v).words)
part_leaves z v a step note S P never quiet = record {
  slots = slots_are v a step note ∙ slots_same step (v.hand a).topics (v.words area.Slots 0) never;
  pool = published_stays z v a step note S P;
  host = host_stays v a step note quiet;
  content = pages_stay z v a step note S P;
  pause = areas_stay v a step note area.Pause refl;
}

-- The facts' slots, without their dirty logs, are those of the set.
pub refined_slots : (z : Sizes) (set : ℕ) (pool host content : ℕ → ℕ) (pause : ℕ) (facts : Facts) → Refines z set pool host content pause facts
    → flat_slots facts.slots ≡ slots_below pool set 32
refined_slots z set pool host content pause facts R = ap flat_slots R.slots ∙ flat_below pool set 32

-- The words after it still stand for the same facts.
pub refines_stay : (z : Sizes) (before after : Area → ℕ → ℕ) (facts : Facts) → Leaves z before after
    → Refines z (before area.Slots 0) (before area.Pool) (before area.Host) (before area.Content) (before area.Pause 0) facts
    → Refines z (after area.Slots 0) (after area.Pool) (after area.Host) (after area.Content) (after area.Pause 0) facts
refines_stay z before after facts L R = record {
  slots =
      R.slots ∙ sym (memory_below_stay (before area.Slots 0) (before area.Pool) (after area.Pool) L.pool 32 (omega arith))
      ∙ ap (λ k. memory_slots_below (after area.Pool) k 32) (sym L.slots);
  host = λ p lt. R.host p lt ∙ sym (ap (λ (g : ℕ → ℕ). entry_of (g p)) L.host);
  memory = λ p j lt below. R.memory p j lt below
      ∙ (sym (L.content p j lt below)
      ∙ sym (ap (λ (g : ℕ → ℕ). after area.Content (content_index (map_of z) (host_frame (g p)) j)) L.host));
  paused = R.paused ∙ ap (λ (g : ℕ → ℕ). not (g 0 == 0)) (sym L.pause);
  idle = R.idle;
}

-- ---- a step that does this task

-- The words after it stand for these facts.
abbrev pub RefinesBy : Sizes → View → Task → Facts → Type 0
RefinesBy z v task facts =
    let after : Area → ℕ → ℕ = words_after task v.words in
    Refines z (after area.Slots 0) (after area.Pool) (after area.Host) (after area.Content) (after area.Pause 0) facts

-- A step of a part that publishes nothing leaves them as they were.
pub part_refines : (z : Sizes) (v : View) (a : ℕ) (step : PartStep) (note : ℕ) (facts : Facts) → IsPart z v a step → TopicsInvariant z v
    → is_publish step ≡ false → changes_word step ≡ false
    → Refines z (v.words area.Slots 0) (v.words area.Pool) (v.words area.Host) (v.words area.Content) (v.words area.Pause 0) facts
    → RefinesBy z v (part_task step (own_index (v.hand a)) (v.hand a).topics note) facts
part_refines z v a step note facts S P never quiet R =
    refines_stay z v.words ((part_stepped a step note v).words) facts (part_leaves z v a step note S P never quiet) R

-- what its actor holds after it
abbrev pub topics_by : View → ℕ → Task → Topics
topics_by v a task = topics_after (v.hand a).state.sizes (kind_of_task (v.hand a).state.sizes task) (v.hand a).topics (answer_in task v.words)

-- what it owes where its line stands at this place then, and it tells these events
abbrev pub GoesBy : Sizes → View → ℕ → Line → Command → Task → Place → List EventKind → Facts → Past → LineUnderWay → Type 0
GoesBy z v a line command task next kinds facts past u =
    Goes z (v.hand a).state.actor line command (words_after task v.words) next (topics_by v a task) kinds facts past u

module _ (z : Sizes) (v : View) (a : ℕ) (line : Line) (command : Command) (task : Task) (facts : Facts) (past : Past) (u : LineUnderWay)
    (R : RefinesBy z v task facts) where
  -- It tells nothing, where the line is under way as its next place asks.
  pub goes_by : (next : Place) → UnderAt z (words_after task v.words area.Pool) next line command (topics_by v a task) u
      → GoesBy z v a line command task next [] facts past u
  goes_by next under = record { allowed = tt; refines = R; under = under }

  -- The line is answered, where its stage allows this answer.
  pub answers_by : (answer : Answer) → u.line ≡ line → Tells z facts (v.hand a).state.actor u.line.command u.stage answer
      → GoesBy z v a line command task place.Between (Answered line.number answer ∷ []) facts past u
  answers_by answer own tells = record { allowed = ((ap (λ (l : Line). l.number) (sym own), tells), tt); refines = R; under = refl }

  -- Or it is given up, before it has done anything.
  pub leaves_by : (answer : Answer) → u.line ≡ line → u.stage ≡ Fresh → MayLeave z facts (v.hand a).state.actor u.line.command u.notes answer
      → GoesBy z v a line command task place.Between (Exited answer ∷ Answered line.number answer ∷ []) facts past u
  leaves_by answer own fresh may =
      record { allowed = ((fresh, may), ((ap (λ (l : Line). l.number) (sym own), refl), tt)); refines = R; under = refl }
