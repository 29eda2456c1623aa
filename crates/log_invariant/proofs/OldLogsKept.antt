-- A slot set that is retired, and the one that was published in its place, keep the dirty logs of each other, but for the one that the line begins: each step
-- keeps it.
use Rattle.std.proofs.Common.{◌≡◌, ◌⊎◌, inl, inr, ◌<◌, ℕ, refl, sym, subst, ap, ◌∙◌}
use Rattle.std.specs.Prelude.{false, Option, Some}
use Rattle.core_views.specs.declared.actor.Actor.TheVariants.{Manager}
use Rattle.core_views.specs.declared.place.Place.{Place}
use Rattle.core_views.specs.declared.place.Place.TheVariants as place
use Rattle.core_views.specs.declared.place.SlotChangePlace.TheVariants as change
use Rattle.core_views.specs.declared.sizes.Sizes.{Sizes}
use Rattle.core_views.specs.declared.topics.Topics.{Topics}
use Rattle.core_views.specs.declared.trace.Command.{Command}
use Rattle.core_views.specs.declared.trace.Line.{Line}
use Rattle.core_views.specs.declared.trace.Slot.{Slot as SlotOf}
use Rattle.core_views.specs.Held.{Held}
use Rattle.core_views.specs.Sizes.{actors_of}
use Rattle.core_views.specs.SlotCommands.{slot_armed, slots_after}
use Rattle.core_views.specs.SlotSets.{MemorySlots}
use Rattle.spte_words.specs.declared.area.Area.{Area}
use Rattle.spte_words.specs.declared.area.Area.TheVariants as area
use Rattle.part_steps.specs.declared.part_step.PartStep.{PartStep}
use Rattle.part_steps.specs.declared.part_step.PartStep.TheVariants as part
use Rattle.part_steps.specs.declared.task.Task.{Task}
use Rattle.part_steps.specs.PartSteps.{needs_line}
use Rattle.part_steps.specs.PartTasks.{own_index, page_owned, part_task}
use Rattle.part_steps.specs.Tasks.{kind_of_task}
use Rattle.part_steps.specs.TopicSteps.{topics_after}
use Rattle.mmu_core.specs.invariant.Invariant.{Invariant, RetiresPart}
use Rattle.mmu_core.specs.invariant.TopicsInvariant.{TopicsInvariant}
use Rattle.mmu_core.specs.lines.Forms.{part_at, records_at}
use Rattle.mmu_core.specs.lines.PartAt.{task_at}
use Rattle.mmu_core.specs.machine.Steps.{line_at}
use Rattle.mmu_core.specs.machine.View.{View, answer_in, hand_after, part_stepped, stepped, upd, words_after}
use Rattle.mmu_core.proofs.held.OldSets.{retired_words_stay, was_retired}
use Rattle.mmu_core.proofs.invariant.Kept.{manager_retires}
use Rattle.mmu_core.proofs.forms.access.AccessParts.{AreSmall}
use Rattle.mmu_core.proofs.lines.KnowsKept.{step_knows, touch_topics}
use Rattle.mmu_core.proofs.lines.LinesKept.{one_manager}
use Rattle.mmu_core.proofs.machine.Columns.{at_upd}
use Rattle.mmu_core.proofs.machine.PartStepping.{IsPart, idle_never, is_publish}
use Rattle.mmu_core.proofs.machine.Stepping.{IsStep}
use Rattle.mmu_core.proofs.pages.OwnedBehind.{retired_is}
use Rattle.mmu_core.proofs.slots.Changes.{change_is_managers}
use Rattle.mmu_core.proofs.slots.LiveStays.{SetStays, published_stays, touch_leaves_pool, touch_leaves_slots}
use Rattle.mmu_core.proofs.slots.SlotsStay.{is_live_stays}
use Rattle.mmu_core.proofs.words.PartWords.{slots_are, slots_same}
use Rattle.log_invariant.specs.Covered.{IsLoggedIn}
use Rattle.log_invariant.specs.LogInvariant.{KeepsLogs}
use Rattle.log_invariant.proofs.HeldLogs.{set_logged_was}
use Rattle.log_invariant.proofs.PublishedLogs.{armed_stays, published_logs}
use Rattle.log_invariant.proofs.StepPlaces.{Makes, StepAt, Touches, publishes, publishes_none, step_at}
use Rattle.spte_words.specs.Areas.{pool_index}

-- The part of the invariant, of a view.
abbrev pub OldLogsAt : Sizes → View → Type 0
OldLogsAt z v =
    (j set : ℕ) → j < actors_of z → (v.hand j).topics.retired ≡ Some set
    → KeepsLogs (v.words area.Pool) set (v.words area.Slots 0) (slot_armed (v.hand j).slots (v.hand j).state.line.command)

-- ---- where the words of both sets stay

stay_back : (set : ℕ) (before after : ℕ → ℕ) → SetStays set before after → SetStays set after before
stay_back set before after stays j low = sym (stays j low)

kept_on : (before after : ℕ → ℕ) (old_ new_ : ℕ) (begun : Option SlotOf) → SetStays old_ before after → SetStays new_ before after
    → KeepsLogs before old_ new_ begun → KeepsLogs after old_ new_ begun
kept_on before after old_ new_ begun olds news K = record {
  had = λ id slot logged. was id slot (K.had id slot (set_logged_was new_ before after id slot news logged));
  stays = λ id slot logged. is_live_stays new_ before after news id slot (K.stays id slot (set_logged_was old_ before after id slot olds logged));
}
  where
    was : (id : ℕ) (slot : SlotOf) → IsLoggedIn before old_ id slot ⊎ (begun ≡ Some slot) → IsLoggedIn after old_ id slot ⊎ (begun ≡ Some slot)
    was id slot (inl had) = inl (set_logged_was old_ after before id slot (stay_back old_ before after olds) had)
    was id slot (inr begins) = inr begins

-- ---- a step that publishes nothing

-- What the words and the step's actor keep: the published set and each that is retired, and what the actor has retired.
record LeavesSets (z : Sizes) (v : View) (a : ℕ) (words : Area → ℕ → ℕ) (t : Topics) : Type 0 where
  slots : words area.Slots 0 ≡ v.words area.Slots 0
  published : SetStays (v.words area.Slots 0) (v.words area.Pool) (words area.Pool)
  olds : (i set : ℕ) → i < actors_of z → (v.hand i).topics.retired ≡ Some set → SetStays set (v.words area.Pool) (words area.Pool)
  retired : (set : ℕ) → t.retired ≡ Some set → (v.hand a).topics.retired ≡ Some set

leaves_sets : (z : Sizes) (v : View) (a : ℕ) (named : Option PartStep) (task : Task) → TopicsInvariant z v
    → ((step : PartStep) → named ≡ Some step → is_publish step ≡ false) → StepAt z v a named task
    → LeavesSets z v a (words_after task v.words)
    (topics_after (v.hand a).state.sizes (kind_of_task (v.hand a).state.sizes task) (v.hand a).topics (answer_in task v.words))
leaves_sets z v a named _ P never (Makes step note is S) = record {
  slots = slots_are v a step note ∙ slots_same step (v.hand a).topics (v.words area.Slots 0) (never step is);
  published = published_stays z v a step note S P;
  olds = λ i set lt left. retired_words_stay z v a step note S P i set lt left;
  retired = λ set left. was_retired step (v.hand a).topics _ set (never step is)
      (sym (retired_is step (v.hand a).state.sizes (own_index (v.hand a)) (v.hand a).topics note _) ∙ left);
}
leaves_sets z v a named _ P never (Touches op index is) = record {
  slots = ap (λ (w : ℕ → ℕ). w 0) (touch_leaves_slots v.words op index);
  published = λ j low. ap (λ (w : ℕ → ℕ). w (pool_index (v.words area.Slots 0) j)) (touch_leaves_pool v.words op index);
  olds = λ i set lt left j low. ap (λ (w : ℕ → ℕ). w (pool_index set j)) (touch_leaves_pool v.words op index);
  retired = λ set left. ap (λ (t : Topics). t.retired) (sym (touch_topics (v.hand a).state.sizes op index (v.hand a).topics _)) ∙ left;
}

quiet_logs : (z : Sizes) (v : View) (a : ℕ) (words : Area → ℕ → ℕ) (g : Held) → a < actors_of z → LeavesSets z v a words g.topics
    → ((set : ℕ) → (v.hand a).topics.retired ≡ Some set
    → slot_armed (v.hand a).slots (v.hand a).state.line.command ≡ slot_armed g.slots g.state.line.command)
    → OldLogsAt z v → OldLogsAt z (record { words = words; hand = upd v.hand a g })
quiet_logs z v a words g there L same O j set =
    at_upd (λ i (k : Held). i < actors_of z → k.topics.retired ≡ Some set
    → KeepsLogs (words area.Pool) set (words area.Slots 0) (slot_armed k.slots k.state.line.command)) v.hand a g
    (λ lt left.
    let was = L.retired set left in
    subst (KeepsLogs (words area.Pool) set (words area.Slots 0)) (same set was) (kept a set lt was)) (λ i ne lt left. kept i set lt left) j
  where
    kept : (i set : ℕ) → i < actors_of z → (v.hand i).topics.retired ≡ Some set
        → KeepsLogs (words area.Pool) set (words area.Slots 0) (slot_armed (v.hand i).slots (v.hand i).state.line.command)
    kept i set lt left =
        subst (λ s. KeepsLogs (words area.Pool) set s (slot_armed (v.hand i).slots (v.hand i).state.line.command)) (sym L.slots)
        (kept_on (v.words area.Pool) (words area.Pool) set (v.words area.Slots 0) _ (L.olds i set lt left) L.published (O i set lt left))

-- ---- the publication

published_keeps : (z : Sizes) (v : View) (a : ℕ) (line : Line) (command : Command) → IsStep z v a line command (place.SlotChange change.Publish)
    → Invariant z v → OldLogsAt z (stepped a line command (place.SlotChange change.Publish) v)
published_keeps z v a line command S I j set =
    at_upd (λ i (k : Held). i < actors_of z → k.topics.retired ≡ Some set
    → KeepsLogs (v.words area.Pool) set (page_owned h.topics.owned) (slot_armed k.slots k.state.line.command)) v.hand a after
    (λ lt left. own (same (sym (retired_is part.Publish h.state.sizes (own_index h) h.topics _ (v.words area.Slots 0)) ∙ left)))
    (λ i ne lt left. absurd (ne (one_manager z i a (v.hand i) h (I.lines i lt) (I.lines a S.there)
    (manager_retires z i set (v.hand i) (I.lines i lt) (I.knows i lt) (I.leaves i lt) left) manager))) j
  where
    h : Held
    h = v.hand a

    after : Held
    after = hand_after line command (place.SlotChange change.Publish) h (v.words area.Slots 0)

    manager : h.state.actor ≡ Manager
    manager = sym S.own ∙ change_is_managers z line.actor command (step_knows z v a line command (place.SlotChange change.Publish) S I).0 S.allowed

    same : {x y : ℕ} → Some x ≡ Some y → x ≡ y
    same e = cc e

    own : v.words area.Slots 0 ≡ set
        → KeepsLogs (v.words area.Pool) set (page_owned h.topics.owned) (slot_armed (slots_after command h.slots) line.command)
    own e =
        subst (λ s. KeepsLogs (v.words area.Pool) s (page_owned h.topics.owned) (slot_armed (slots_after command h.slots) line.command)) e
        (subst (KeepsLogs (v.words area.Pool) (v.words area.Slots 0) (page_owned h.topics.owned))
        (sym (ap (slot_armed (slots_after command h.slots)) S.command_is ∙ armed_stays h.slots command)) (published_logs z v a line command S I))

-- ---- each step

-- A hand that has retired a page stands in a line, whose command is its own.
same_command : (z : Sizes) (v : View) (a : ℕ) (line : Line) (command : Command) (p : Place) → IsStep z v a line command p → Invariant z v
    → (set : ℕ) → (v.hand a).topics.retired ≡ Some set → (v.hand a).state.line.command ≡ line.command
same_command z v a line command p S I set left =
    ap (λ (l : Line). l.command) (by h.state.place (I.leaves a S.there) ∙ sym S.line_is)
  where
    h : Held
    h = v.hand a

    by : (q : Place) → RetiresPart q h.topics → h.state.line ≡ line_at q h
    by place.Between L = absurd (let none = L.leaves refl in cc (none, left))
    by _ L = refl

records_same : (p : Place) (command : Command) (slots : MemorySlots) → publishes p ≡ false → records_at p command slots ≡ slots
records_same (place.SlotChange change.Publish) command slots other = absurd (cc other)
records_same _ command slots other = refl

pub old_logs_kept : (z : Sizes) (v : View) (a : ℕ) (line : Line) (command : Command) (p : Place) → AreSmall v → IsStep z v a line command p → Invariant z v
    → TopicsInvariant z v → OldLogsAt z v → OldLogsAt z (stepped a line command p v)
old_logs_kept z v a line command (place.SlotChange change.Publish) small S I P O = published_keeps z v a line command S I
old_logs_kept z v a line command p small S I P O =
    quiet_logs z v a (words_after (task_at p command (v.hand a)) v.words) (hand_after line command p (v.hand a) _) S.there
    (leaves_sets z v a (part_at p command (v.hand a)) (task_at p command (v.hand a)) P (λ step is. publishes_none p command (v.hand a) step refl is)
    (step_at z v a line command p small S I P))
    (λ set left.
    ap (slot_armed (v.hand a).slots) (same_command z v a line command p S I set left)
    ∙ ap (λ (s : MemorySlots). slot_armed s line.command) (sym (records_same p command (v.hand a).slots refl)))
    O

pub idle_old_logs_kept : (z : Sizes) (v : View) (a : ℕ) (step : PartStep) (note : ℕ) → IsPart z v a step → needs_line step ≡ false → TopicsInvariant z v
    → OldLogsAt z v → OldLogsAt z (part_stepped a step note v)
idle_old_logs_kept z v a step note S free P O =
    quiet_logs z v a (part_stepped a step note v).words _ S.there
    (leaves_sets z v a (Some step) (part_task step (own_index (v.hand a)) (v.hand a).topics note) P (λ s is. subst (λ x. is_publish x ≡ false) (same is)
    (idle_never step free)) (Makes step note refl S)) (λ set left. refl) O
  where
    same : {x y : PartStep} → Some x ≡ Some y → x ≡ y
    same e = cc e
