-- The touch of a line that is alone makes its guest frame dirty, where it writes and its slot has a log: the log is armed then.
use Rattle.std.proofs.Common.{◌≡◌, inl, inr, ◌<◌, ◌≤◌, zero, suc, [], ◌∷◌, ℕ, refl, sym, subst, ap, ◌∙◌, arith}
use Rattle.std.proofs.lemmas.List.Elements.{All-append, All-cons, All-nil}
use Rattle.std.specs.Prelude.{All, Bool, true, false, ◌==◌, if◌then◌else◌, Some}
use Rattle.core_views.specs.declared.actor.Actor.{Actor}
use Rattle.core_views.specs.declared.sizes.Sizes.{Sizes}
use Rattle.core_views.specs.declared.memory_slot.MemorySlot.{MemorySlot}
use Rattle.core_views.specs.declared.trace.Slot.{Slot as SlotOf}
use Rattle.core_views.specs.Events.{is_armed}
use Rattle.core_views.specs.Flat.{Flat}
use Rattle.core_views.specs.Refusals.{is_logged}
use Rattle.core_views.specs.Slots.{contains, is_some_and}
use Rattle.core_views.specs.SlotSets.{MemorySlots, slot_holding, slot_of_id}
use Rattle.spte_words.specs.declared.area.Area.TheVariants as area
use Rattle.part_steps.specs.SlotWords.{live_at, memory_slot_at, memory_slots_below}
use Rattle.mmu_core.specs.invariant.SlotSetPart.{AreSlots, IsLiveIn}
use Rattle.mmu_core.specs.machine.View.{View}
use Rattle.mmu_core.proofs.forms.access.CachedKept.{found_has}
use Rattle.log_invariant.specs.Covered.{IsLoggedIn}
use Rattle.log_invariant.proofs.PublishedLogs.{logged_recorded}
use Rattle.mmu_laws.proofs.alone.ArmedLogs.{ArmsLater, IsArmedOrLater, LogsAreArmed}

-- ---- the slot that has the guest frame

-- Some slot has it, if one with an ID does.
holding_some : (gfn id : ℕ) (m : MemorySlot) (es : MemorySlots) → slot_of_id id es ≡ Some m → contains gfn m.slot ≡ true
    → (e : ℕ × MemorySlot) × (slot_holding gfn es ≡ Some e)
holding_some gfn id m [] is has = absurd (cc is)
holding_some gfn id m ((k, n) ∷ es) is has =
    by (contains gfn n.slot) (k == id) refl refl is (λ later. holding_some gfn id m es later has)
  where
    one : Some n ≡ Some m → n ≡ m
    one e = cc e

    by : (b same : Bool) → contains gfn n.slot ≡ b → (k == id) ≡ same → (if same then Some n else slot_of_id id es) ≡ Some m
        → (slot_of_id id es ≡ Some m → (e : ℕ × MemorySlot) × (slot_holding gfn es ≡ Some e))
        → (e : ℕ × MemorySlot) × ((if b then Some (k, n) else slot_holding gfn es) ≡ Some e)
    by true same here at is rest = ((k, n), refl)
    by false true here at is rest = let too = ap (λ (x : MemorySlot). contains gfn x.slot) (one is) ∙ has in absurd (cc (here, too))
    by false false here at is rest = rest is

-- Each slot of a set is live there.
abbrev IsThere : (ℕ → ℕ) → ℕ → ℕ → ℕ × MemorySlot → Type 0
IsThere pool set n e = (e.1 ≡ memory_slot_at pool set e.0) × (live_at pool set e.0 ≡ true) × (e.0 < n)

all_there : (pool : ℕ → ℕ) (set n most : ℕ) → n ≤ most → All (IsThere pool set most) (memory_slots_below pool set n)
all_there pool set zero most few = All-nil (IsThere pool set most)
all_there pool set (suc n) most few =
    let P : (ℕ × MemorySlot) → Type 0 = IsThere pool set most in
    All-append P (memory_slots_below pool set n) (if live_at pool set n then (n, memory_slot_at pool set n) ∷ [] else [])
    (all_there pool set n most (omega (arith, few))) (by (live_at pool set n) refl)
  where
    by : (b : Bool) → live_at pool set n ≡ b → All (IsThere pool set most) (if b then (n, memory_slot_at pool set n) ∷ [] else [])
    by true is = All-cons (IsThere pool set most) (n, memory_slot_at pool set n) [] (refl, is, omega (arith, few)) (All-nil (IsThere pool set most))
    by false is = All-nil (IsThere pool set most)

-- So the slot that has the guest frame is the one with a log that has it.
logged_holding : (z : Sizes) (pool : ℕ → ℕ) (set gfn id : ℕ) (slot : SlotOf) (slots : MemorySlots) → slots ≡ memory_slots_below pool set 32
    → AreSlots z pool set → IsLoggedIn pool set id slot → contains gfn slot ≡ true
    → (m : MemorySlot) × (slot_holding gfn slots ≡ Some (id, m)) × (is_logged id slots ≡ true)
logged_holding z pool set gfn id slot slots same A L has =
    (e.1, e_is, ap (is_some_and (λ (m : MemorySlot). m.logged)) there)
  where
    there : slot_of_id id slots ≡ Some (record { slot = slot; logged = true })
    there = logged_recorded pool set id slots slot (record { same = same }) L

    found : (e : ℕ × MemorySlot) × (slot_holding gfn slots ≡ Some e)
    found = holding_some gfn id (record { slot = slot; logged = true }) slots there has

    e : ℕ × MemorySlot
    e = found.0

    is : IsThere pool set 32 e × (contains gfn e.1.slot ≡ true)
    is =
        found_has (IsThere pool set 32) (λ (x : ℕ × MemorySlot). contains gfn x.1.slot) slots e
        (subst (All (IsThere pool set 32)) (sym same) (all_there pool set 32 32 (omega arith))) found.1

    live : IsLiveIn pool set e.0 e.1.slot
    live = record { low = let low = is.0.2 in omega (arith, low); live = is.0.1; is = ap (λ (m : MemorySlot). m.slot) (sym is.0.0) }

    id_is : e.0 ≡ id
    id_is = A.guest_apart gfn e.0 id live.low L.live.low live.live L.live.live (ap (contains gfn) live.is ∙ is.1) (ap (contains gfn) L.live.is ∙ has)

    e_is : slot_holding gfn slots ≡ Some (id, e.1)
    e_is = found.1 ∙ ap (λ k. Some (k, e.1)) id_is

-- It is armed, where no line is to arm it.
pub logged_armed : (z : Sizes) (v : View) (f : Flat) (gfn id : ℕ) (slot : SlotOf)
    → f.facts.slots ≡ memory_slots_below (v.words area.Pool) (v.words area.Slots 0) 32 → AreSlots z (v.words area.Pool) (v.words area.Slots 0)
    → IsLoggedIn (v.words area.Pool) (v.words area.Slots 0) id slot → contains gfn slot ≡ true → LogsAreArmed f
    → ((x : Actor) → ArmsLater (f.under x) id → ⊥) → is_armed f.facts.slots f.facts.armed gfn ≡ true
logged_armed z v f gfn id slot same A L has armed none =
    ap (is_some_and (λ (entry : ℕ × MemorySlot). f.facts.armed entry.0)) H.1 ∙ by (armed id H.2)
  where
    H : (m : MemorySlot) × (slot_holding gfn f.facts.slots ≡ Some (id, m)) × (is_logged id f.facts.slots ≡ true)
    H = logged_holding z (v.words area.Pool) (v.words area.Slots 0) gfn id slot f.facts.slots same A L has

    by : IsArmedOrLater f id → f.facts.armed id ≡ true
    by (inl on) = on
    by (inr (x, later)) = absurd (none x later)
