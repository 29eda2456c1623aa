-- The search of a slot set for the slot that has a guest frame, or a host page (api.rst, KVM_SET_USER_MEMORY_REGION; kvm_main.c,
-- kvm_for_each_memslot_in_hva_range).
use Rattle.std.specs.Prelude.{◌≡◌, ◌<◌, ◌≤◌, ◌+◌, ◌-◌, ◌*◌, ℕ, Bool, true, false, if◌then◌else◌, Option, Some, None, find, is_some}
use Rattle.std.specs.Map.{values_of}
use Rattle.core_views.specs.declared.place.SlotField.TheVariants.{Host, Flags}
use Rattle.core_views.specs.declared.topics.SlotSearch.{SlotSearch}
use Rattle.core_views.specs.declared.trace.Slot.{Slot}
use Rattle.core_views.specs.Slots.{Slots, contains, has_host_page}
use Rattle.spte_words.specs.Flags.{flags_logged}
use Rattle.part_steps.specs.declared.part_step.PartStep.{PartStep}
use Rattle.part_steps.specs.declared.part_step.PartStep.TheVariants as part
use Rattle.mmu_core.specs.lines.Bounds.{look_left}
use Rattle.part_steps.specs.PartTasks.{set_held}
pub use Rattle.mmu_core.specs.invariant.SearchPart.{HasFlags, HasLoaded}
use Rattle.part_steps.specs.SlotWords.{live_at, slot_at, slot_index, slots_below}
use Rattle.step_seats.specs.declared.turn.Turn.{Turn}
use Rattle.step_seats.specs.declared.turn.Turn.TheVariants.{More, Wait, Retry, Done}
use Rattle.memslots.specs.declared.find.Find.{Find}
use Rattle.memslots.specs.declared.find.Sought.{Sought}
use Rattle.memslots.specs.declared.find.Sought.TheVariants.{GuestFrame, HostPage}
use Rattle.memslots.specs.declared.find.FoundSlot.{FoundSlot}
use Rattle.core_views.specs.Held.{Held}
use Rattle.mmu_core.specs.machine.Machine.{World}
use Rattle.mmu_core.specs.machine.View.{word_in}
use Rattle.spte_words.specs.declared.area.Area.TheVariants as area
use Rattle.step_seats.specs.PartTurns.{WherePartMade}
use Rattle.step_seats.specs.Seats.{Seat}

-- The slot has what is sought.
abbrev pub is_sought : Sought → Slot → Bool
is_sought (GuestFrame gfn) slot = contains gfn slot
is_sought (HostPage page) slot = has_host_page page slot

-- the step of the next turn: which slot set is published is loaded first, and then the words of its slots
abbrev pub find_step : Find → PartStep
find_step job = if job.begun then part.Slot else part.Slots

-- The search of a slot set begins, with the flags of slot 0.
abbrev pub Begins : Turn (Option FoundSlot) → SlotSearch → SlotSearch → Type 0
Begins More before after = (is_some after.set ≡ true) × (after ≡ record before { set = after.set; id = 0; next = Flags; whole = false })
Begins (Done found) before after = ⊥
Begins (Wait seen) before after = ⊥
Begins (Retry cause) before after = ⊥

-- The last word of a slot was loaded, and the slot has what is sought, by this test.
abbrev pub Hits : (Slot → Bool) → SlotSearch → SlotSearch → Type 0
Hits test before after = (before.next ≡ Host) × (test after.slot ≡ true)

-- A word was loaded: the answer is the slot under search, with its ID, where it has what is sought; then each of its words was
-- loaded. Else it is none after the last slot, and before it the search goes on.
abbrev pub Searches : (Slot → Bool) → Turn (Option FoundSlot) → SlotSearch → SlotSearch → Type 0
Searches test More before after = (Hits test before after → ⊥) × (after.id ≤ 31)
Searches test (Done (Some found)) before after =
    Hits test before after × (found ≡ record { id = before.id; slot = after.slot; logged = after.logged }) × (after.whole ≡ true)
Searches test (Done None) before after = (Hits test before after → ⊥) × (after.id ≡ 32)
Searches test (Wait seen) before after = ⊥
Searches test (Retry cause) before after = ⊥

-- No live slot of the set with an ID below this one has what is sought.
abbrev pub NoneBefore : (Slot → Bool) → (ℕ → ℕ) → ℕ → ℕ → Type 0
NoneBefore test pool set id = (i : ℕ) → i < id → live_at pool set i ≡ true → test (slot_at pool set i) ≡ false

-- The search agrees with the words of the pool: what was loaded of the slot under search, and that none before it has what is sought.
pub record IsSearchFor (test : Slot → Bool) (pool : ℕ → ℕ) (so_far : SlotSearch) : Type 0 where
  pub held : is_some so_far.set ≡ true
  pub loaded : HasLoaded so_far.next pool (set_held so_far.set) so_far
  pub before : NoneBefore test pool (set_held so_far.set) so_far.id

-- the first slot of a list that has what is sought
abbrev pub first_that : (Slot → Bool) → Slots → Option Slot
first_that test slots = find test (values_of slots)

-- The slot is live in the slot set, under its ID, with its words and its dirty log, and is the first that has what is sought.
pub record IsFirst (test : Slot → Bool) (pool : ℕ → ℕ) (set : ℕ) (found : FoundSlot) : Type 0 where
  pub low : found.id ≤ 31
  pub live : live_at pool set found.id ≡ true
  pub slot : slot_at pool set found.id ≡ found.slot
  pub logged : flags_logged (pool (slot_index set found.id Flags)) ≡ found.logged
  pub before : NoneBefore test pool set found.id
  pub first : first_that test (slots_below pool set 32) ≡ Some found.slot

-- What a turn says of the words of the pool: the search agrees with them, or its answer is the first slot there that has what is sought.
abbrev pub FindsIn : (Slot → Bool) → (ℕ → ℕ) → SlotSearch → Turn (Option FoundSlot) → Type 0
FindsIn test pool so_far More = IsSearchFor test pool so_far
FindsIn test pool so_far (Done (Some found)) = IsFirst test pool (set_held so_far.set) found
FindsIn test pool so_far (Done None) = first_that test (slots_below pool (set_held so_far.set) 32) ≡ None
FindsIn test pool so_far (Wait seen) = ⊥
FindsIn test pool so_far (Retry cause) = ⊥

-- the most turns that are left: the words of the slot under search and of each one after it, and the load of the slot set
abbrev pub find_turns : Find → SlotSearch → ℕ
find_turns job so_far = if job.begun then 4 * (31 - so_far.id) + look_left so_far.next else 129

-- what a turn says of the words of the pool before its step and after it: it keeps a search that agrees with them, or answers by them
abbrev pub SearchesIn : Find → Held → Held → Turn (Option FoundSlot) → World Held → World Held → Type 0
SearchesIn job before after turn w v =
    (job.begun ≡ true → IsSearchFor (is_sought job.sought) (word_in before.state.sizes w area.Pool) before.topics.search)
    → FindsIn (is_sought job.sought) (word_in before.state.sizes v area.Pool) after.topics.search turn

-- It says so where its step was made.
abbrev pub SearchesWhereMade : Find → ℕ → Seat → Seat → Turn (Option FoundSlot) → Type 0
SearchesWhereMade job note before after turn = WherePartMade (find_step job) note before after (SearchesIn job before.hand after.hand turn)

-- The slot set that is held now is the one that is published in the world before the step.
abbrev pub HoldsPublished : Held → Held → World Held → World Held → Type 0
HoldsPublished before after w v = after.topics.search.set ≡ Some (word_in before.state.sizes w area.Slots 0)

-- A search that begins holds the slot set that was published where its step was made.
abbrev pub BeginsInPublished : Find → ℕ → Seat → Seat → Type 0
BeginsInPublished job note before after = job.begun ≡ false → WherePartMade (find_step job) note before after (HoldsPublished before.hand after.hand)
