-- A step of a line that publishes no slot set keeps the invariant, whatever the line's form.
use Rattle.std.proofs.Common.{◌≡◌, ◌≢◌, ◌<◌, ℕ, refl, sym, subst, ap, ◌∙◌}
use Rattle.std.specs.Prelude.{All, Option, Some, None, false}
use Rattle.core_views.specs.declared.place.AccessPlace.{AccessPlace}
use Rattle.core_views.specs.declared.place.Place.{Place}
use Rattle.core_views.specs.declared.place.Place.TheVariants as place
use Rattle.core_views.specs.declared.sizes.Sizes.{Sizes}
use Rattle.core_views.specs.declared.trace.Command.{Command}
use Rattle.core_views.specs.declared.trace.Command.TheVariants.{Access}
use Rattle.core_views.specs.declared.trace.Line.{Line}
use Rattle.core_views.specs.declared.trace.Op.{Op}
use Rattle.core_views.specs.Held.{Held}
use Rattle.core_views.specs.Sizes.{actors_of}
use Rattle.core_views.specs.SlotSets.{MemorySlots}
use Rattle.spte_words.specs.Areas.{content_index, pool_index}
use Rattle.spte_words.specs.declared.area.Area.{Area}
use Rattle.spte_words.specs.declared.area.Area.TheVariants as area
use Rattle.part_steps.specs.declared.part_step.PartStep.{PartStep}
use Rattle.part_steps.specs.declared.task.Task.{Task}
use Rattle.part_steps.specs.Tasks.{kind_of_task, map_of}
use Rattle.mmu_core.specs.forms.access.Cached.{frame_used}
use Rattle.mmu_core.specs.declared.outcome.Outcome.{Outcome}
use Rattle.mmu_core.specs.invariant.Invariant.{CachedPart, Holds, Invariant, InvariantOf, IsSetBy, RetiresPart, OwnLines, RecordPart}
use Rattle.mmu_core.specs.invariant.TopicsInvariant.{TopicsInvariant}
use Rattle.mmu_core.specs.forms.access.AccessSteps.{task_by, touch_of}
use Rattle.mmu_core.specs.lines.Forms.{note_at, part_at, caches_at, outcome_at, records_at}
use Rattle.mmu_core.specs.lines.PartAt.{task_at, touch_at}
use Rattle.mmu_core.specs.machine.Steps.{state_at}
use Rattle.mmu_core.specs.machine.View.{View, answer_in, hand_after, stepped, upd, words_after}
use Rattle.mmu_core.proofs.held.OthersStay.{owned_stays}
use Rattle.mmu_core.proofs.lines.LinesKept.{lines_behind}
use Rattle.mmu_core.proofs.forms.access.UsedTranslations.{flushed_room}
use Rattle.mmu_core.proofs.machine.HandAfter.{IsSameState, loads_same}
use Rattle.mmu_core.proofs.machine.PartStepping.{IsPart, is_publish}
use Rattle.mmu_core.proofs.machine.Stepping.{IsStep}
use Rattle.mmu_core.proofs.slots.LiveStay.{set_stays}
use Rattle.mmu_core.proofs.slots.LiveStays.{MakesParts, OwnedStays, access_never, SetStays, published_stays, touch_leaves_pool}
use Rattle.mmu_core.proofs.slots.LiveStays.{touch_leaves_role, touch_leaves_slots}
use Rattle.mmu_core.proofs.slots.SlotsStay.{AllKnow, hand_moved, is_live_was, record_stays}
use Rattle.mmu_core.proofs.words.PartWords.{role_stays, slots_are, slots_other_role, slots_same}

-- The step of a part that a line makes at a place is one that its actor may make.
abbrev pub MakesAt : Sizes → View → ℕ → Place → Command → Type 0
MakesAt z v a p command = (step : PartStep) → part_at p command (v.hand a) ≡ Some step → IsPart z v a step

-- It is no publication.
abbrev pub NeverPublishes : View → ℕ → Place → Command → Type 0
NeverPublishes v a p command = (step : PartStep) → part_at p command (v.hand a) ≡ Some step → is_publish step ≡ false

-- A place that names no step of a part is one where the guest touches for its access.
pub touched : (p : Place) (command : Command) (h : Held) → part_at p command h ≡ None → (op : Op) × (index : ℕ) × (touch_at command h ≡ touch_of op index)
touched (place.Access p) (Access gfn word op) h none = (op, content_index (map_of h.state.sizes) (frame_used gfn h.state) word, refl)
touched _ (Access gfn word op) h none = absurd (cc none)
touched _ _ h none = absurd (cc none)

-- ---- what the words keep

-- Which slot set is published, its page and role, and the pages that other actors fill stay.
pub record SetsStay (z : Sizes) (v : View) (a : ℕ) (words : Area → ℕ → ℕ) : Type 0 where
  pub slots : words area.Slots 0 ≡ v.words area.Slots 0
  pub role : words area.Role (v.words area.Slots 0) ≡ v.words area.Role (v.words area.Slots 0)
  pub pool : SetStays (v.words area.Slots 0) (v.words area.Pool) (words area.Pool)
  pub owned : (i : ℕ) → i < actors_of z → i ≢ a → OwnedStays (v.words area.Pool) (words area.Pool) (v.hand i)

pub sets_stay : (z : Sizes) (v : View) (a : ℕ) (p : Place) (command : Command) → MakesAt z v a p command → NeverPublishes v a p command → TopicsInvariant z v
    → SetsStay z v a (words_after (task_at p command (v.hand a)) v.words)
sets_stay z v a p command makes never P = by (part_at p command (v.hand a)) makes never (touched p command (v.hand a))
  where
    note : ℕ
    note = note_at p command (v.hand a)

    touch : Task
    touch = touch_at command (v.hand a)

    by_touch : (t : Task) (op : Op) (index : ℕ) → t ≡ touch_of op index → SetsStay z v a (words_after t v.words)
    by_touch t op index is = subst (λ (x : Task). SetsStay z v a (words_after x v.words)) (sym is) (record {
      slots = ap (λ (slots : ℕ → ℕ). slots 0) (touch_leaves_slots v.words op index);
      role = ap (λ (role : ℕ → ℕ). role (v.words area.Slots 0)) (touch_leaves_role v.words op index);
      pool = λ j low. ap (λ (pool : ℕ → ℕ). pool (pool_index (v.words area.Slots 0) j)) (touch_leaves_pool v.words op index);
      owned = λ i lt ne o is j low. ap (λ (pool : ℕ → ℕ). pool (pool_index o.page j)) (touch_leaves_pool v.words op index);
    })

    by : (s : Option PartStep) → ((step : PartStep) → s ≡ Some step → IsPart z v a step) → ((step : PartStep) → s ≡ Some step → is_publish step ≡ false)
        → (s ≡ None → (op : Op) × (index : ℕ) × (touch ≡ touch_of op index)) → SetsStay z v a (words_after (task_by s (v.hand a) note touch) v.words)
    by None makes never touches = let T = touches refl in by_touch touch T.0 T.1 T.2
    by (Some step) makes never touches =
        let S = makes step refl in
        record {
          slots = slots_are v a step note ∙ slots_same step (v.hand a).topics (v.words area.Slots 0) (never step refl);
          role = role_stays z v a step note S (v.words area.Slots 0) (slots_other_role z v a step S P);
          pool = published_stays z v a step note S P;
          owned = owned_stays z v a step note S P;
        }

-- No step of an access publishes.
pub access_sets_stay : (z : Sizes) (v : View) (a : ℕ) (p : AccessPlace) (gfn word : ℕ) (op : Op) → MakesParts z v a p gfn → TopicsInvariant z v
    → SetsStay z v a (words_after (task_at (place.Access p) (Access gfn word op) (v.hand a)) v.words)
access_sets_stay z v a p gfn word op makes P = sets_stay z v a (place.Access p) (Access gfn word op) makes (access_never p gfn (v.hand a).topics) P

-- ---- what a form says of such a step

pub record OfStep (z : Sizes) (v : View) (a : ℕ) (command : Command) (p : Place) (x : ℕ) (pool : ℕ → ℕ) (after : Held) : Type 0 where
  pub same : records_at p command (v.hand a).slots ≡ (v.hand a).slots
  pub room : (caches_at p command (v.hand a) x).capacity ≡ (v.hand a).cached.capacity
  pub leaves : RetiresPart after.state.place after.topics
  pub holds : Holds z pool (v.words area.Slots 0) after.state.place command after
  pub cached : CachedPart z after.cached.items

-- the step of this place, and the hand after it
abbrev pub QuietStep : Sizes → View → ℕ → Line → Command → Place → Type 0
QuietStep z v a line command p =
    let task : Task = task_at p command (v.hand a) in
    let x : ℕ = answer_in task v.words in
    OfStep z v a command p x (words_after task v.words area.Pool) (hand_after line command p (v.hand a) x)

-- The invariant holds after it, where each actor knows what its place asks.
pub quiet_kept : (z : Sizes) (v : View) (a : ℕ) (line : Line) (command : Command) (p : Place) → IsStep z v a line command p → Invariant z v
    → SetsStay z v a (words_after (task_at p command (v.hand a)) v.words) → QuietStep z v a line command p → AllKnow z (stepped a line command p v).hand
    → Invariant z (stepped a line command p v)
quiet_kept z v a line command p S I W Q knows =
    subst (λ n. InvariantOf z n (words area.Role) (words area.Pool) (upd v.hand a after)) (sym W.slots)
    (hand_moved z set set (v.words area.Role) (words area.Role) (v.words area.Pool) (words area.Pool) v.hand a after
    (set_stays z (v.words area.Role) (words area.Role) (v.words area.Pool) set (words area.Pool) set
    (is_live_was set (v.words area.Pool) (words area.Pool) W.pool) (W.role ∙ I.set_part.role_is) I.set_part)
    W.owned (λ i lt ne is. recorded (v.hand i).slots (I.recorded i lt is)) own
    (subst (λ c. Holds z (words area.Pool) set after.state.place c after) (sym S.command_is) Q.holds) Q.leaves Q.cached
    (λ is. subst (RecordPart (words area.Pool) set) (sym Q.same) (recorded h.slots (I.recorded a S.there (sym loaded.actor ∙ is)))) knows I)
  where
    h : Held
    h = v.hand a

    set : ℕ
    set = v.words area.Slots 0

    x : ℕ
    x = answer_in (task_at p command h) v.words

    o : Outcome
    o = outcome_at p command h x

    words : Area → ℕ → ℕ
    words = words_after (task_at p command h) v.words

    after : Held
    after = hand_after line command p h x

    loaded : IsSameState h.state (state_at p command h x)
    loaded = let same = loads_same p command h x in record { actor = same.actor; sizes = same.sizes }

    recorded : (slots : MemorySlots) → RecordPart (v.words area.Pool) set slots → RecordPart (words area.Pool) set slots
    recorded slots R = record_stays set (v.words area.Pool) (words area.Pool) W.pool slots R

    own : OwnLines z a after
    own =
        let O = I.lines a S.there in
        lines_behind z a h line (state_at p command h x) o after.topics after.cached after.slots after.harvest O S.next S.left (loaded.sizes ∙ O.sizes)
        loaded.actor
        (flushed_room (kind_of_task h.state.sizes (task_at p command h)) (caches_at p command h x) x ∙ Q.room)
        (subst (λ (s : MemorySlots). All (IsSetBy h.lines) s) (sym Q.same) O.set)
