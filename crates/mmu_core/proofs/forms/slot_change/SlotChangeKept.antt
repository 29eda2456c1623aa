-- The steps of a line that changes a slot keep the invariant.
use Rattle.part_steps.specs.declared.invalidations.Target.{Target}
use Rattle.part_steps.specs.declared.part_step.PartStep.TheVariants as part
use Rattle.mmu_core.specs.orders.InvalidateSteps.{begin_part}
use Rattle.mmu_core.proofs.words.PartWords.{IsElsewhere, page_stays, walks_unowned}
use Rattle.mmu_core.proofs.words.PartTopics.{part_topics_is, is_there}
use Rattle.core_views.specs.declared.topics.Topics.{Topics}
use Rattle.std.proofs.Common.{◌≡◌, ℕ, refl, sym, subst, ap, ◌∙◌}
use Rattle.std.specs.Prelude.{All, true, false, None}
use Rattle.core_views.specs.declared.actor.Actor.TheVariants.{Manager}
use Rattle.core_views.specs.declared.place.BeginPlace.{BeginPlace}
use Rattle.core_views.specs.declared.place.BeginPlace.TheVariants as begins
use Rattle.core_views.specs.declared.place.Place.TheVariants as place
use Rattle.core_views.specs.declared.place.SlotChangePlace.{SlotChangePlace}
use Rattle.core_views.specs.declared.place.SlotChangePlace.TheVariants.{Begin, Publish, Release}
use Rattle.core_views.specs.declared.sizes.Sizes.{Sizes}
use Rattle.core_views.specs.declared.trace.Command.{Command}
use Rattle.core_views.specs.declared.trace.Line.{Line}
use Rattle.core_views.specs.Held.{Held}
use Rattle.core_views.specs.SlotCommands.{changes_slot, slots_after}
use Rattle.core_views.specs.SlotSets.{MemorySlots}
use Rattle.core_views.specs.Traces.{IsCommandFor}
use Rattle.spte_words.specs.declared.area.Area.TheVariants as area
use Rattle.part_steps.specs.PartTasks.{own_index, page_owned}
use Rattle.mmu_core.specs.forms.slot_change.SlotChangeSteps.{slot_change_note, slot_change_part}
use Rattle.mmu_core.specs.forms.slot_change.SlotChangeSteps.{slot_change_records, slot_change_task, slot_target}
use Rattle.part_steps.specs.SetWords.{set_role}
use Rattle.mmu_core.specs.machine.Steps.{state_at}
use Rattle.part_steps.specs.Tasks.{kind_of_task}
use Rattle.mmu_core.specs.invariant.TopicsInvariant.{TopicsInvariant}
use Rattle.mmu_core.specs.machine.View.{View, answer_in, hand_after, stepped, words_after}
use Rattle.mmu_core.proofs.slots.ChangeRecorded.{change_recorded}
use Rattle.mmu_core.proofs.slots.Changes.{Publishes, change_is_managers, change_publishes, recorded_at}
use Rattle.mmu_core.proofs.machine.PartStepping.{IsPart, is_publish}
use Rattle.mmu_core.proofs.pages.Owned.{OwnsWhole, set_owned}
use Rattle.mmu_core.specs.declared.outcome.Outcome.TheVariants.{Goes}
use Rattle.mmu_core.proofs.forms.access.UsedTranslations.{flushed_room}
use Rattle.mmu_core.proofs.invariant.PartBounded.{part_rests_at}
use Rattle.mmu_core.proofs.forms.access.FaultKnown.{parts_answer}
use Rattle.mmu_core.specs.invariant.Invariant.{Holds, Invariant, KnowsPart, RecordPart, OwnLines, IsSetBy}
use Rattle.mmu_core.proofs.invariant.QuietHand.{one_step, quiet_hand, still_cached}
use Rattle.mmu_core.proofs.invariant.QuietKept.{MakesAt}
use Rattle.mmu_core.proofs.lines.EitherPlace.{either_place}
use Rattle.mmu_core.proofs.lines.KnowsKept.{step_knows, step_leaves}
use Rattle.mmu_core.proofs.lines.LinesKept.{lines_behind, one_manager}
use Rattle.mmu_core.proofs.machine.Stepping.{IsStep, line_allowed}
use Rattle.mmu_core.proofs.forms.slot_change.SlotChangeNeeds.{slot_change_rests}
use Rattle.mmu_core.proofs.forms.slot_change.SlotChangePlaces.{is_publication, change_never}
use Rattle.mmu_core.proofs.forms.slot_change.SlotChangeRetires.{change_holds, change_leaves, is_begin}
use Rattle.mmu_core.proofs.slots.SlotsStay.{AllKnow, OwnedStays, hand_moved}

-- A hand that stands in a change of a slot is the manager's.
pub change_hand : (z : Sizes) (i : ℕ) (h : Held) (p : SlotChangePlace) (command : Command) → OwnLines z i h → h.state.place ≡ place.SlotChange p
    → h.state.line.command ≡ command → changes_slot command ≡ true → h.state.actor ≡ Manager
change_hand z i h p command O is said changes =
    change_is_managers z h.state.actor command changes (subst (IsCommandFor z h.state.actor) said (line_allowed z i h (place.SlotChange p) O is tt))

-- ---- The steps that publish nothing.

records_same : (p : SlotChangePlace) (command : Command) (slots : MemorySlots) → is_publication p ≡ false → slot_change_records p command slots ≡ slots
records_same Publish command slots never = absurd (cc never)
records_same _ command slots never = refl

-- The words of the page that its actor owns stay with the steps that begin an invalidation: no table is such a page.
own_stays : (z : Sizes) (v : View) (a : ℕ) (p : SlotChangePlace) (command : Command) → IsPart z v a (slot_change_part p (v.hand a) command)
    → TopicsInvariant z v → is_begin p ≡ true
    → OwnedStays (v.words area.Pool) (words_after (slot_change_task p (v.hand a) command) v.words area.Pool) (v.hand a)
own_stays z v a (Begin p) command S P is o owns j low =
    page_stays z v a (begin_part p target (v.hand a).topics) 0 S o.page (elsewhere p S) j low
  where
    target : Target
    target = slot_target (v.hand a) command

    elsewhere : (p : BeginPlace) → IsPart z v a (begin_part p target (v.hand a).topics)
        → IsElsewhere (begin_part p target (v.hand a).topics) (v.hand a).topics o.page
    elsewhere (begins.Find begun) S = either_place (λ step. IsElsewhere step (v.hand a).topics o.page) begun part.Slot part.Slots tt tt
    elsewhere (begins.Walk rooted) S = either_place (λ step. IsElsewhere step (v.hand a).topics o.page) rooted (part.Sweep _) part.Root tt tt
    elsewhere begins.Zap S = λ e. walks_unowned z v a S.there P S.needs.saw.over.there a o S.there owns (sym e)
    elsewhere _ S = tt
own_stays z v a _ command S P is o owns j low = absurd (cc is)

quiet_change : (z : Sizes) (v : View) (a : ℕ) (line : Line) (p : SlotChangePlace) (command : Command) → is_publication p ≡ false
    → IsStep z v a line command (place.SlotChange p) → Invariant z v → TopicsInvariant z v → MakesAt z v a (place.SlotChange p) command
    → AllKnow z (stepped a line command (place.SlotChange p) v).hand → Invariant z (stepped a line command (place.SlotChange p) v)
quiet_change z v a line p command never S I P makes knows =
    let h : Held = v.hand a in
    let x : ℕ = answer_in (slot_change_task p h command) v.words in
    let K = step_knows z v a line command (place.SlotChange p) S I in
    let step = makes (slot_change_part p h command) refl in
    let A = parts_answer (slot_change_part p h command) (own_index h) h.topics (slot_change_note p h) v.words in
    quiet_hand z v a line command (place.SlotChange p) S I P makes (K.0, step.needs, slot_change_rests p command h K.1) (record {
      never = one_step (λ s. is_publish s ≡ false) (slot_change_part p h command) (change_never p h command never);
      same = records_same p command h.slots never;
      caches = refl;
      leaves = change_leaves h command x p (part_rests_at z v a I P S.there) K.1 (step_leaves z v a line command (place.SlotChange p) S I) A;
      holds = λ cached. change_holds line h command cached x z v.words (v.words area.Slots 0) p K.1 (own_stays z v a p command step P) S.holds;
    }) knows

-- ---- The publication: the set with the change is in use, and the record has it.

-- the manager's own record, where its hand makes a step of the line
pub record_of : (z : Sizes) (v : View) (a : ℕ) (line : Line) (command : Command) (p : SlotChangePlace)
    → IsStep z v a line command (place.SlotChange p) → Invariant z v
    → RecordPart (v.words area.Pool) (v.words area.Slots 0) (v.hand a).slots
record_of z v a line command p S I =
    recorded_at z v a line command (place.SlotChange p) S (step_knows z v a line command (place.SlotChange p) S I).0 I

-- The page that it has filled may be published.
pub change_published : (z : Sizes) (v : View) (a : ℕ) (line : Line) (command : Command) → IsStep z v a line command (place.SlotChange Publish) → Invariant z v
    → Publishes z (v.words area.Pool) (v.words area.Slots 0) (page_owned (v.hand a).topics.owned) command (v.hand a).slots
change_published z v a line command S I =
    let K = step_knows z v a line command (place.SlotChange Publish) S I in
    change_publishes z v a line command (place.SlotChange Publish) S K.0 I K.1.1.owns S.holds.works S.holds.filled

published_kept : (z : Sizes) (v : View) (a : ℕ) (line : Line) (command : Command) → IsStep z v a line command (place.SlotChange Publish)
    → Invariant z v → TopicsInvariant z v → AllKnow z (stepped a line command (place.SlotChange Publish) v).hand
    → Invariant z (stepped a line command (place.SlotChange Publish) v)
published_kept z v a line command S I P knows =
    hand_moved z set page (v.words area.Role) (v.words area.Role) pool pool v.hand a after
    (new_set.set_part (v.words area.Role) role_is I.set_part)
    (λ i lt ne own is j low. refl) (λ i lt ne is. absurd (ne (one_manager z i a (v.hand i) h (I.lines i lt) O is manager))) own
    (subst (λ c. Holds z pool page (place.SlotChange Release) c after) (sym S.command_is) tt)
    (record {
      leaves = λ may. absurd (cc may);
      opens = λ may. absurd (cc may);
      frames = λ may. owns_no_frame;
    })
    (still_cached z (kind_of_task h.state.sizes (slot_change_task Publish h command)) h.cached set (I.cached a S.there))
    (λ is. record { same = new_set.list }) knows I
  where
    h : Held
    h = v.hand a

    pool : ℕ → ℕ
    pool = v.words area.Pool

    set : ℕ
    set = v.words area.Slots 0

    page : ℕ
    page = page_owned h.topics.owned

    after : Held
    after = hand_after line command (place.SlotChange Publish) h set

    O : OwnLines z a h
    O = I.lines a S.there

    K : KnowsPart (place.SlotChange Publish) command h
    K = step_knows z v a line command (place.SlotChange Publish) S I

    owns_no_frame : after.topics.frames.owned ≡ None
    owns_no_frame =
        ap (λ (t : Topics). t.frames.owned) (part_topics_is h.state.sizes part.Publish (own_index h) h.topics 0 set (is_there part.Publish h K.1.1))
        ∙ (step_leaves z v a line command (place.SlotChange Publish) S I).frames refl

    new_set : Publishes z pool set page command h.slots
    new_set = change_published z v a line command S I

    manager : h.state.actor ≡ Manager
    manager = sym S.own ∙ change_is_managers z line.actor command K.0 S.allowed

    owns : OwnsWhole set_role h.topics
    owns = set_owned h.topics K.1.1.owns

    role_is : v.words area.Role page ≡ set_role
    role_is = ap (v.words area.Role) (ap page_owned owns.is) ∙ (P.filled a owns.owned S.there owns.is).role_is owns.whole ∙ owns.role

    recorded : All (IsSetBy h.lines) (slots_after command h.slots)
    recorded = change_recorded h command S.left (ap (λ (l : Line). l.command) (sym S.next) ∙ S.command_is) O.set

    own : OwnLines z a after
    own =
        lines_behind z a h line (state_at (place.SlotChange Publish) command h set) (Goes (place.SlotChange Release)) after.topics after.cached
        (slots_after command h.slots) after.harvest O S.next S.left O.sizes refl
        (flushed_room (kind_of_task h.state.sizes (slot_change_task Publish h command)) h.cached set) recorded

-- The invariant after each of its steps, where each actor knows after it what its place asks.
pub slot_change_kept : (z : Sizes) (v : View) (a : ℕ) (line : Line) (p : SlotChangePlace) (command : Command)
    → IsStep z v a line command (place.SlotChange p) → Invariant z v → TopicsInvariant z v → MakesAt z v a (place.SlotChange p) command
    → AllKnow z (stepped a line command (place.SlotChange p) v).hand → Invariant z (stepped a line command (place.SlotChange p) v)
slot_change_kept z v a line Publish command S I P makes knows = published_kept z v a line command S I P knows
slot_change_kept z v a line p command S I P makes knows = quiet_change z v a line p command refl S I P makes knows
