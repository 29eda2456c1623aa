-- The slot at each ID, where a slot was set at one of them, or taken away.
use Rattle.std.proofs.Common.{◌≡◌, ◌≢◌, ◌<◌, ◌==◌, ℕ, [], ◌∷◌, arith, refl, sym, ap, ◌∙◌}
use Rattle.std.proofs.lemmas.Bool.{cond-true, cond-false, eq-eqb, ne_eqb}
use Rattle.std.specs.Prelude.{Bool, true, false, not, Option, Some, None, cond, if◌then◌else◌}
use Rattle.std.proofs.lemmas.Bool.Decides.{nat_tests}
use Rattle.std.specs.Cmp.{ranks}
use Rattle.std.specs.Ordering.{MatchOrdering, match_ordering, nat_cmp}
use Rattle.std.specs.declared.cmp.Ordering.{Ordering}
use Rattle.std.specs.declared.cmp.Ordering.TheVariants.{Less, Equal, Greater}
use Rattle.core_views.specs.declared.memory_slot.MemorySlot.{MemorySlot}
use Rattle.core_views.specs.declared.trace.Command.TheVariants.{SetLog}
use Rattle.core_views.specs.SlotCommands.{slots_after}
use Rattle.core_views.specs.SlotSets.{MemorySlots, changed_slots, slot_of_id, with_slot_at, without_slot_at}
use Rattle.std.specs.Option.{option_map}

-- This slot stands at its ID.
pub set_here : (id : ℕ) (m : MemorySlot) (es : MemorySlots) → slot_of_id id (with_slot_at id m es) ≡ Some m
set_here id m [] = cond-true (id == id) (Some m) None (eq-eqb id id refl)
set_here id m ((k, n) ∷ es) = by (nat_cmp id k) (ranks id k) (set_here id m es)
  where
    by : (o : Ordering) → MatchOrdering o (id < k) (id ≡ k) (k < id) → slot_of_id id (with_slot_at id m es) ≡ Some m
        → slot_of_id id (match_ordering o ((id, m) ∷ (k, n) ∷ es) ((k, m) ∷ es) ((k, n) ∷ with_slot_at id m es)) ≡ Some m
    by Less is rest = cond-true (id == id) (Some m) (slot_of_id id ((k, n) ∷ es)) (eq-eqb id id refl)
    by Equal is rest = cond-true (k == id) (Some m) (slot_of_id id es) (eq-eqb k id (sym is))
    by Greater is rest = cond-false (k == id) (Some n) (slot_of_id id (with_slot_at id m es)) (ne_eqb k id (λ e. omega (arith, is, e))) ∙ rest

-- At another ID stands what stood there.
pub set_elsewhere : (id other : ℕ) (m : MemorySlot) (es : MemorySlots) → other ≢ id → slot_of_id other (with_slot_at id m es) ≡ slot_of_id other es
set_elsewhere id other m [] apart = cond-false (id == other) (Some m) None (ne_eqb id other (λ e. apart (sym e)))
set_elsewhere id other m ((k, n) ∷ es) apart = by (nat_cmp id k) (ranks id k) (set_elsewhere id other m es apart)
  where
    by : (o : Ordering) → MatchOrdering o (id < k) (id ≡ k) (k < id) → slot_of_id other (with_slot_at id m es) ≡ slot_of_id other es
        → slot_of_id other (match_ordering o ((id, m) ∷ (k, n) ∷ es) ((k, m) ∷ es) ((k, n) ∷ with_slot_at id m es)) ≡ slot_of_id other ((k, n) ∷ es)
    by Less is rest = cond-false (id == other) (Some m) (slot_of_id other ((k, n) ∷ es)) (ne_eqb id other (λ e. apart (sym e)))
    by Equal is rest =
        let not_here = ne_eqb k other (λ e. apart (sym e ∙ sym is)) in
        cond-false (k == other) (Some m) (slot_of_id other es) not_here ∙ sym (cond-false (k == other) (Some n) (slot_of_id other es) not_here)
    by Greater is rest = ap (λ (found : Option MemorySlot). cond (k == other) (Some n) found) rest

-- Where the slot at an ID is taken away, none stands there, and at each other ID what stood there.
pub taken_at : (i id : ℕ) (es : MemorySlots) → slot_of_id i (without_slot_at id es) ≡ (if id == i then None else slot_of_id i es)
taken_at i id [] = by (id == i)
  where
    by : (b : Bool) → ◌≡◌ {A = Option MemorySlot} None (if b then None else None)
    by true = refl
    by false = refl
taken_at i id ((k, n) ∷ es) = by (k == id) (id == i) (λ e. grind (arith, nat_tests)) (λ e f. grind (arith, nat_tests)) (taken_at i id es)
  where
    -- what stands at the ID, behind a slot that is there, or isn't
    behind : Bool → Option MemorySlot → Option MemorySlot
    behind here rest = if here then Some n else rest

    by : (gone it : Bool) → (gone ≡ true → (k == i) ≡ it) → (gone ≡ false → it ≡ true → (k == i) ≡ false)
        → slot_of_id i (without_slot_at id es) ≡ (if it then None else slot_of_id i es)
        → slot_of_id i (if not gone then (k, n) ∷ without_slot_at id es else without_slot_at id es)
        ≡ (if it then None else if k == i then Some n else slot_of_id i es)
    by true true same apart rest = rest
    by true false same apart rest = rest ∙ ap (λ b. behind b (slot_of_id i es)) (sym (same refl))
    by false true same apart rest = ap (λ b. behind b (slot_of_id i (without_slot_at id es))) (apart refl refl) ∙ rest
    by false false same apart rest = ap (behind (k == i)) rest

-- Where the dirty log of a slot changes, the slot stands at its ID as it was but for this, and at each other ID what stood there.

abbrev pub logged_so : Bool → Option MemorySlot → Option MemorySlot
logged_so on was = option_map (λ m. record { slot = m.slot; logged = on }) was

pub log_here : (id : ℕ) (on : Bool) (slots : MemorySlots) → slot_of_id id (slots_after (SetLog id on) slots) ≡ logged_so on (slot_of_id id slots)
log_here id on slots = by (slot_of_id id slots)
  where
    by : (was : Option MemorySlot) → slot_of_id id (changed_slots id (logged_so on was) slots) ≡ logged_so on was
    by None = taken_at id id slots ∙ cond-true (id == id) None (slot_of_id id slots) (eq-eqb id id refl)
    by (Some was) = set_here id (record { slot = was.slot; logged = on }) slots

pub log_elsewhere : (id other : ℕ) (on : Bool) (slots : MemorySlots) → other ≢ id
    → slot_of_id other (slots_after (SetLog id on) slots) ≡ slot_of_id other slots
log_elsewhere id other on slots apart = by (slot_of_id id slots)
  where
    by : (was : Option MemorySlot) → slot_of_id other (changed_slots id (logged_so on was) slots) ≡ slot_of_id other slots
    by None = taken_at other id slots ∙ cond-false (id == other) None (slot_of_id other slots) (ne_eqb id other (λ e. apart (sym e)))
    by (Some was) = set_elsewhere id other (record { slot = was.slot; logged = on }) slots apart
