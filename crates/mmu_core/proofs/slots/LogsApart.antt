-- The words of the dirty logs of two slots are apart, since the host pages of each begin with a word, and no page is in two slots.
use Rattle.std.proofs.Common.{◌≡◌, ◌≢◌, ◌+◌, ◌/◌, ◌%◌, ◌<◌, ◌≤◌, ℕ, List, Some, true, false, refl, ap, ◌∙◌, arith}
use Rattle.std.specs.Prelude.{All, Bool, nat_le}
use Rattle.std.proofs.lemmas.Bool.Decides.{nat_tests}
use Rattle.core_views.specs.declared.memory_slot.MemorySlot.{MemorySlot}
use Rattle.core_views.specs.declared.sizes.Sizes.{Sizes}
use Rattle.core_views.specs.declared.trace.Line.{Line}
use Rattle.core_views.specs.Slots.{has_host_page}
use Rattle.core_views.specs.SlotSets.{MemorySlots, slot_of_id}
use Rattle.core_views.specs.Traces.{IsCommandFor}
use Rattle.part_steps.specs.LogHoldings.{is_in_log}
use Rattle.mmu_core.specs.invariant.Invariant.{IsSetBy, RecordPart}
use Rattle.mmu_core.specs.invariant.SlotSetPart.{AreSlots, IsLiveIn}
use Rattle.mmu_core.specs.forms.slot_change.SlotChangeKnows.{IsInLog}
use Rattle.mmu_core.proofs.slots.SetFilled.{recorded_live}
use Rattle.mmu_core.proofs.words.SmallSlots.{aligned, has_page, record_is_so}

-- The first page of the slot that begins later is one of the other one, if a word is of both logs.
first_shared : (x y p word : ℕ) → x % 64 ≡ 0 → y % 64 ≡ 0 → x ≤ y → y / 64 ≤ word → word < x / 64 + (p + 63) / 64 → y < x + p
first_shared x y p word ex ey le from to = omega (arith, ex, ey, le, from, to)

pub logs_apart : (z : Sizes) (pool : ℕ → ℕ) (set : ℕ) (lines : List Line) (slots : MemorySlots) → RecordPart pool set slots → AreSlots z pool set
    → All (λ line. IsCommandFor z line.actor line.command) lines → All (IsSetBy lines) slots → (i j : ℕ) (m n : MemorySlot) → i ≢ j
    → slot_of_id i slots ≡ Some m → slot_of_id j slots ≡ Some n → (word : ℕ) → IsInLog m.slot word → is_in_log word n.slot ≡ false
logs_apart z pool set lines slots R A allowed by_lines i j m n apart at other word in_log = by (is_in_log word n.slot) refl
  where
    M : IsLiveIn pool set i m.slot
    M = recorded_live pool set i slots m R at

    N : IsLiveIn pool set j n.slot
    N = recorded_live pool set j slots n R other

    even : (k : ℕ) (o : MemorySlot) → slot_of_id k slots ≡ Some o → o.slot.host % 64 ≡ 0
    even k o is = record_is_so (λ s. s.host % 64 ≡ 0) aligned z lines slots allowed by_lines k o is

    some : (k : ℕ) (o : MemorySlot) → slot_of_id k slots ≡ Some o → 1 ≤ o.slot.pages
    some k o is = record_is_so (λ s. 1 ≤ s.pages) has_page z lines slots allowed by_lines k o is

    no_page : (page : ℕ) → has_host_page page m.slot ≡ true → has_host_page page n.slot ≡ true → ⊥
    no_page page has too =
        apart (A.host_apart page i j M.low N.low M.live N.live (ap (has_host_page page) M.is ∙ has) (ap (has_host_page page) N.is ∙ too))

    none_shared : n.slot.host / 64 ≤ word → word < n.slot.host / 64 + (n.slot.pages + 63) / 64 → (later : Bool)
        → nat_le m.slot.host n.slot.host ≡ later → ⊥
    none_shared from to true le =
        let first = first_shared m.slot.host n.slot.host m.slot.pages word (even i m at) (even j n other) (grind (arith, nat_tests)) from in_log.1 in
        let page = some j n other in
        no_page n.slot.host (grind (arith, nat_tests)) (grind (arith, nat_tests))
    none_shared from to false le =
        let first = first_shared n.slot.host m.slot.host n.slot.pages word (even j n other) (even i m at) (grind (arith, nat_tests)) in_log.0 to in
        let page = some i m at in
        no_page m.slot.host (grind (arith, nat_tests)) (grind (arith, nat_tests))

    by : (b : Bool) → is_in_log word n.slot ≡ b → is_in_log word n.slot ≡ false
    by false is = is
    by true is =
        let from : n.slot.host / 64 ≤ word = grind (arith, nat_tests) in
        let to : word < n.slot.host / 64 + (n.slot.pages + 63) / 64 = grind (arith, nat_tests) in
        absurd (none_shared from to (nat_le m.slot.host n.slot.host) refl)
