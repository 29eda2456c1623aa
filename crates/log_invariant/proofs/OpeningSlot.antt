-- The slot whose log a line begins: it is live in the published set, and so it is each published slot that has a guest frame of it.
use Rattle.std.proofs.Common.{◌<◌, ◌∙◌, ◌≡◌, ap, refl, subst, sym, ℕ}
use Rattle.std.specs.Option.{option_map}
use Rattle.std.specs.Prelude.{None, Option, Some, false, true}
use Rattle.core_views.specs.Held.{Held}
use Rattle.core_views.specs.Sizes.{actors_of}
use Rattle.core_views.specs.SlotCommands.{slot_armed}
use Rattle.core_views.specs.SlotSets.{MemorySlots, slot_of_id}
use Rattle.core_views.specs.Slots.{contains}
use Rattle.core_views.specs.declared.place.Place.{Place}
use Rattle.core_views.specs.declared.place.Place.TheVariants as place
use Rattle.core_views.specs.declared.sizes.Sizes.{Sizes}
use Rattle.core_views.specs.declared.memory_slot.MemorySlot.{MemorySlot}
use Rattle.core_views.specs.declared.trace.Command.{Command}
use Rattle.core_views.specs.declared.trace.Command.TheVariants.{Access, ChangeHost, ChangeRun, ClearLog, DeleteSlot, GetLog, Migrate, SetLog, SetSlot, Split}
use Rattle.core_views.specs.declared.trace.Slot.{Slot as SlotOf}
use Rattle.spte_words.specs.declared.area.Area.TheVariants as area
use Rattle.part_steps.specs.SlotWords.{slot_at}
use Rattle.mmu_core.proofs.slots.SetFilled.{recorded_live}
use Rattle.mmu_core.proofs.forms.slot_change.SlotChangeKept.{change_hand}
use Rattle.mmu_core.specs.invariant.Invariant.{Invariant, KnowsPart, RecordPart}
use Rattle.mmu_core.specs.invariant.SlotSetPart.{IsLiveIn}
use Rattle.mmu_core.specs.machine.View.{View}
use Rattle.log_invariant.specs.forms.slot_change.LogBegins.{LogIsUnwatched, LogIsUnwatchedAt}

-- The slot is live in the set that the record is of.
armed_live : (pool : ℕ → ℕ) (set : ℕ) (slots : MemorySlots) (command : Command) (slot : SlotOf) → RecordPart pool set slots
    → slot_armed slots command ≡ Some slot → (id : ℕ) × IsLiveIn pool set id slot
armed_live pool set slots (SetLog id true) slot R is = by (slot_of_id id slots) refl is
  where
    by : (o : Option MemorySlot) → slot_of_id id slots ≡ o → option_map (λ was. was.slot) o ≡ Some slot → (id : ℕ) × IsLiveIn pool set id slot
    by None at is = absurd (cc is)
    by (Some was) at is =
        let same : was.slot ≡ slot = cc is in
        (id, subst (λ s. IsLiveIn pool set id s) same (recorded_live pool set id slots was R at))
armed_live pool set slots (SetLog id false) slot R is = absurd (cc is)
armed_live pool set slots (Access gfn word op) slot R is = absurd (cc is)
armed_live pool set slots (ChangeHost page change) slot R is = absurd (cc is)
armed_live pool set slots (ChangeRun page change) slot R is = absurd (cc is)
armed_live pool set slots (SetSlot id new_) slot R is = absurd (cc is)
armed_live pool set slots (DeleteSlot id) slot R is = absurd (cc is)
armed_live pool set slots (GetLog id) slot R is = absurd (cc is)
armed_live pool set slots (Migrate call) slot R is = absurd (cc is)
armed_live pool set slots (Split gfn) slot R is = absurd (cc is)
armed_live pool set slots (ClearLog id first count words) slot R is = absurd (cc is)

-- Published slots that have one guest frame are one.
pub one_slot : (z : Sizes) (v : View) (gfn i id : ℕ) (other slot : SlotOf) → Invariant z v → IsLiveIn (v.words area.Pool) (v.words area.Slots 0) i other
    → IsLiveIn (v.words area.Pool) (v.words area.Slots 0) id slot → contains gfn other ≡ true → contains gfn slot ≡ true → other ≡ slot
one_slot z v gfn i id other slot I there live has holds =
    let same : i ≡ id = I.set_part.slots.guest_apart gfn i id there.low live.low there.live live.live (ap (contains gfn) there.is ∙ has)
    (ap (contains gfn) live.is ∙ holds) in
    sym there.is ∙ ap (slot_at (v.words area.Pool) (v.words area.Slots 0)) same ∙ live.is

-- Where a line begins the log of a slot with the guest frame, and others may not know of it, this slot is the published one with the guest frame.
pub opening_is : (z : Sizes) (v : View) (j gfn id : ℕ) (slot : SlotOf) → Invariant z v → j < actors_of z → LogIsUnwatched (v.hand j) gfn
    → IsLiveIn (v.words area.Pool) (v.words area.Slots 0) id slot → contains gfn slot ≡ true
    → slot_armed (v.hand j).slots (v.hand j).state.line.command ≡ Some slot
opening_is z v j gfn id slot I lt O live holds = by h.state.place refl (I.knows j lt) O
  where
    h : Held
    h = v.hand j

    set : ℕ
    set = v.words area.Slots 0

    by : (q : Place) → h.state.place ≡ q → KnowsPart q h.state.line.command h → LogIsUnwatchedAt q h.state.line.command h gfn
        → slot_armed h.slots h.state.line.command ≡ Some slot
    by (place.SlotChange p) at K O =
        let manager = change_hand z j h p h.state.line.command (I.lines j lt) at refl K.0 in
        let L = armed_live (v.words area.Pool) set h.slots h.state.line.command O.1 (I.recorded j lt manager) O.2 in
        O.2 ∙ ap Some (one_slot z v gfn L.0 id O.1 slot I L.1 live O.3 holds)
    by _ at K O = absurd O

-- So others may not know of the log of another guest frame of that slot either.
pub opening_over : (z : Sizes) (v : View) (j gfn other id : ℕ) (slot : SlotOf) → Invariant z v → j < actors_of z → LogIsUnwatched (v.hand j) gfn
    → IsLiveIn (v.words area.Pool) (v.words area.Slots 0) id slot → contains gfn slot ≡ true → contains other slot ≡ true → LogIsUnwatched (v.hand j) other
opening_over z v j gfn other id slot I lt O live holds also = by h.state.place O (opening_is z v j gfn id slot I lt O live holds)
  where
    h : Held
    h = v.hand j

    by : (q : Place) → LogIsUnwatchedAt q h.state.line.command h gfn → slot_armed h.slots h.state.line.command ≡ Some slot
        → LogIsUnwatchedAt q h.state.line.command h other
    by (place.SlotChange p) O begins = (O.0, slot, begins, also)
    by _ O begins = absurd O
