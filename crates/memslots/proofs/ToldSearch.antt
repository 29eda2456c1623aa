-- What a turn of a search says of the words of the world in which its step was made.
use Rattle.std.proofs.Common.{◌≡◌, ◌<◌, ℕ, Option, Some, None, length, sym, subst, ap, ◌∙◌, arith}
use Rattle.std.specs.Prelude.{Bool, true, false, is_some, if◌then◌else◌}
use Rattle.std.proofs.Math.Logic.{∥∥₁_elim}
use Rattle.std.proofs.Props.{props}
use Rattle.core_views.specs.declared.sizes.Sizes.{Sizes}
use Rattle.core_views.specs.declared.topics.Topics.{Topics}
use Rattle.core_views.specs.declared.trace.Slot.{Slot}
use Rattle.core_views.specs.Held.{Held}
use Rattle.spte_words.specs.declared.area.Area.TheVariants as area
use Rattle.spte_words.specs.Areas.{size_of}
use Rattle.part_steps.specs.declared.task.Task.{Task}
use Rattle.part_steps.specs.declared.part_step.PartStep.TheVariants as part
use Rattle.mmu_core.specs.machine.Enabled.{mmu}
use Rattle.mmu_core.specs.machine.Machine.{World, effect, hand_in}
use Rattle.part_steps.specs.PartTasks.{own_index, part_kind, part_task, set_held}
use Rattle.part_steps.specs.PartSteps.{PartNeeds}
use Rattle.part_steps.specs.PartTopics.{part_topics}
use Rattle.part_steps.specs.Tasks.{kind_of_task, map_of}
use Rattle.part_steps.specs.StayTopics.{may_search}
use Rattle.part_steps.specs.PageTopics.{searched}
use Rattle.mmu_core.specs.machine.View.{View, word_in}
use Rattle.mmu_core.specs.machine.Worlds.{Reachable}
use Rattle.mmu_core.proofs.invariant.PartRested.{part_within, rests_in}
use Rattle.mmu_core.proofs.start.Starts.{reached_good}
use Rattle.mmu_core.proofs.machine.Views.{view_behind}
use Rattle.step_seats.specs.Seats.{Seat}
use Rattle.step_seats.specs.Moves.{step_by}
use Rattle.step_seats.specs.PartTurns.{MadePart, WherePartMade}
use Rattle.step_seats.specs.Where.{HasHand}
use Rattle.step_seats.specs.declared.turn.Turn.{Turn}
use Rattle.memslots.specs.declared.find.Find.{Find}
use Rattle.memslots.specs.declared.find.FoundSlot.{FoundSlot}
use Rattle.memslots.specs.Finding.{FindsIn, HasLoaded, HoldsPublished, IsSearchFor, Searches, SearchesIn, find_step, is_sought}
use Rattle.step_seats.proofs.Where.{telling, where_made}
use Rattle.step_seats.proofs.Found.{Answers, found_told}
use Rattle.memslots.proofs.Searching.{finds_by}
use Rattle.step_seats.specs.declared.turn.Turn.TheVariants.{More}
use Rattle.core_views.specs.declared.place.SlotField.{SlotField}

-- The load of a slot's word leaves the words of the pool.
stays_in : (w : World Held) (a note : ℕ) → Reachable w → a < length w.hands → PartNeeds part.Slot (hand_in mmu w a)
    → word_in (hand_in mmu w a).state.sizes (effect mmu w (step_by a (part_kind (hand_in mmu w a) part.Slot note))) area.Pool
    ≡ word_in (hand_in mmu w a).state.sizes w area.Pool
stays_in w a note r there N =
    let G = reached_good w r in
    let lt = subst (λ n. a < n) G.hands there in
    let h : Held = hand_in mmu w a in
    let same : h.state.sizes ≡ r.sizes = (G.holds.lines a lt).sizes in
    let t : Task = part_task part.Slot (own_index h) h.topics note in
    let inside = part_within part.Slot h N (rests_in r.sizes w a G lt) in
    let within : t.index < size_of (map_of r.sizes) t.area = subst (λ (y : Sizes). t.index < size_of (map_of y) t.area) same inside in
    subst (λ (z : Sizes). word_in z (effect mmu w (step_by a (kind_of_task z t))) area.Pool ≡ word_in z w area.Pool) (sym same)
    (ap (λ (v : View). v.words area.Pool) (view_behind r.sizes w a t within G.words there))

pool_stays : (w : World Held) (a note : ℕ) (h : Held) → HasHand a h w → PartNeeds part.Slot h
    → word_in h.state.sizes (effect mmu w (step_by a (part_kind h part.Slot note))) area.Pool ≡ word_in h.state.sizes w area.Pool
pool_stays w a note h has N =
    let needs : PartNeeds part.Slot (hand_in mmu w a) = subst (λ (x : Held). PartNeeds part.Slot x) (sym has.is) N in
    subst (λ (x : Held). word_in x.state.sizes (effect mmu w (step_by a (part_kind x part.Slot note))) area.Pool ≡ word_in x.state.sizes w area.Pool) has.is
    (∥∥₁_elim has.reached (hlevel props) (λ r. stays_in w a note r has.there needs))

-- the search after a word of a slot set that is held
behind_word : (before after : Topics) (v : ℕ) → is_some before.search.set ≡ true → after ≡ part_topics part.Slot before v
    → after.search ≡ searched before.search v
behind_word before after v held made = ap (λ (t : Topics). t.search) made ∙ ap (λ (b : Bool). if b then searched before.search v else before.search) held

says_at : (job : Find) (note found a : ℕ) (before after : Held) (result : Turn (Option FoundSlot)) (w : World Held) → job.begun ≡ true
    → PartNeeds part.Slot before → HasHand a before w → Answers part.Slot note found before w → after.topics ≡ part_topics part.Slot before.topics found
    → Searches (is_sought job.sought) result before.topics.search after.topics.search
    → SearchesIn job before after result w (effect mmu w (step_by a (part_kind before part.Slot note)))
says_at job note found a before after result w begun N has is made looks agrees =
    subst (λ (pool : ℕ → ℕ). FindsIn (is_sought job.sought) pool after.topics.search result) (sym (pool_stays w a note before has N))
    (finds_by (is_sought job.sought) (word_in before.state.sizes w area.Pool) before.topics.search after.topics.search found result (agrees begun) N.1 is
    (behind_word before.topics after.topics found N.0 made) looks)

needs_slot : (job : Find) (h : Held) → job.begun ≡ true → PartNeeds (find_step job) h → PartNeeds part.Slot h
needs_slot job h begun N = rw begun at N

pub now_found : (job : Find) (note found : ℕ) (before after : Seat) (result : Turn (Option FoundSlot)) → job.begun ≡ true
    → PartNeeds (find_step job) before.hand → MadePart part.Slot note found before after
    → Searches (is_sought job.sought) result before.hand.topics.search after.hand.topics.search
    → WherePartMade (find_step job) note before after (SearchesIn job before.hand after.hand result)
now_found job note found before after result begun needs made looks =
    let N = needs_slot job before.hand begun needs in
    subst (λ (b : Bool). WherePartMade (if b then part.Slot else part.Slots) note before after (SearchesIn job before.hand after.hand result)) (sym begun)
    (where_made made (λ w at has. says_at job note found before.actor before.hand after.hand result w begun N at.has
    (found_told part.Slot note found (telling w before) _ at N) made.topics looks))

set_loaded : (before after : Topics) (v : ℕ) → may_search before.stay before.hold ≡ true → after ≡ part_topics part.Slots before v → after.search.set ≡ Some v
set_loaded before after v held made = ap (λ (t : Topics). t.search.set) made ∙ ap (λ (b : Bool). if b then Some v else None) held

pub set_published : (job : Find) (note found : ℕ) (before after : Seat) → job.begun ≡ false
    → may_search before.hand.topics.stay before.hand.topics.hold ≡ true → MadePart part.Slots note found before after
    → WherePartMade (find_step job) note before after (HoldsPublished before.hand after.hand)
set_published job note found before after not_yet held made =
    subst (λ (b : Bool). WherePartMade (if b then part.Slot else part.Slots) note before after (HoldsPublished before.hand after.hand)) (sym not_yet)
    (where_made made (λ w at has. set_loaded before.hand.topics after.hand.topics found held made.topics
    ∙ ap Some (found_told part.Slots note found (telling w before) _ at tt)))

-- A search that begins agrees with all words of the pool: nothing was loaded of them yet.
search_begins : (test : Slot → Bool) (pool : ℕ → ℕ) (before after : Topics) (v : ℕ) → may_search before.stay before.hold ≡ true
    → after ≡ part_topics part.Slots before v → IsSearchFor test pool after.search
search_begins test pool before after v held made = record {
  held = ap is_some set;
  loaded = subst (λ (f : SlotField). HasLoaded f pool (set_held after.search.set) after.search) (sym (ap (λ (t : Topics). t.search.next) made)) tt;
  before = λ i lt. let first : after.search.id ≡ 0 = ap (λ (t : Topics). t.search.id) made in absurd (omega (arith, lt, first));
}
  where
    set : after.search.set ≡ Some v
    set = set_loaded before after v held made

pub begins_found : (job : Find) (note found : ℕ) (before after : Seat) → job.begun ≡ false → may_search before.hand.topics.stay before.hand.topics.hold ≡ true
    → MadePart part.Slots note found before after
    → WherePartMade (find_step job) note before after (SearchesIn job before.hand after.hand More)
begins_found job note found before after not_yet held made =
    subst (λ (b : Bool). WherePartMade (if b then part.Slot else part.Slots) note before after (SearchesIn job before.hand after.hand More)) (sym not_yet)
    (where_made made (λ w at has agrees. search_begins (is_sought job.sought) _ before.hand.topics after.hand.topics found held made.topics))
