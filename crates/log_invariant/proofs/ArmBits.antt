-- The bits of the words of a log that is to begin: each page of the slot has one where all are to be dirty, and no other page has any.
use Rattle.core_views.specs.Slots.{has_host_page}
use Rattle.core_views.specs.declared.trace.Slot.{Slot}
use Rattle.mmu_core.specs.forms.slot_change.ArmKnows.{IsInLog}
use Rattle.mmu_core.specs.forms.slot_change.SlotTargets.{arm_bits}
use Rattle.part_steps.specs.LogHoldings.{is_in_log, log_begin}
use Rattle.spte_words.specs.Bits.{has_bit}
use Rattle.std.proofs.Common.{ap, arith, refl, ℕ, ◌%◌, ◌*◌, ◌+◌, ◌-◌, ◌/◌, ◌<◌, ◌^◌, ◌≡◌, ◌≤◌}
use Rattle.std.proofs.lemmas.Bool.Decides.{nat_tests}
use Rattle.std.proofs.lemmas.Nat.Bits.{bit_at_mask_above, bit_at_mask_inside}
use Rattle.std.specs.Prelude.{Bool, false, if◌then◌else◌, nat_lt, true, ◌==◌}

-- A number that is one less than a power of two has its low bits set, and no other.
low_bit : (n i : ℕ) → i < n → has_bit i (2 ^ n - 1) ≡ true
low_bit n i lt = ap (λ b. b == 1) (bit_at_mask_inside 0 n i (omega arith) lt)

high_bit : (n i : ℕ) → n ≤ i → has_bit i (2 ^ n - 1) ≡ false
high_bit n i le = ap (λ b. b == 1) (bit_at_mask_above 0 n i le)

no_bit : (i : ℕ) → has_bit i 0 ≡ false
no_bit i = high_bit 0 i (omega arith)

-- What tests say of a page and of a word of the log, as numbers.
pub page_within : (page : ℕ) (slot : Slot) → has_host_page page slot ≡ true → (slot.host ≤ page) × (page < slot.host + slot.pages)
page_within page slot has = (grind (arith, nat_tests), grind (arith, nat_tests))

pub within_page : (page : ℕ) (slot : Slot) → slot.host ≤ page → page < slot.host + slot.pages → has_host_page page slot ≡ true
within_page page slot le lt = grind (arith, nat_tests)

pub word_within : (word : ℕ) (slot : Slot) → is_in_log word slot ≡ true → IsInLog slot word
word_within word slot in_log = (grind (arith, nat_tests), grind (arith, nat_tests))

pub within_word : (word : ℕ) (slot : Slot) → IsInLog slot word → is_in_log word slot ≡ true
within_word word slot in_log = let from = in_log.0 in let to = in_log.1 in grind (arith, nat_tests)

-- The word of a page of the slot is one of its log.
pub word_of_page : (page : ℕ) (slot : Slot) → slot.host % 64 ≡ 0 → has_host_page page slot ≡ true → IsInLog slot (page / 64)
word_of_page page slot even has = let W = page_within page slot has in (omega (arith, even, W.0), omega (arith, even, W.0, W.1))

-- Each page of the slot has its bit, where all have one.
pub all_bits : (page : ℕ) (slot : Slot) → slot.host % 64 ≡ 0 → has_host_page page slot ≡ true → has_bit (page % 64) (arm_bits true slot (page / 64)) ≡ true
all_bits page slot even has = by (nat_lt (64 * (page / 64 - log_begin slot) + 63) slot.pages)
  where
    W : (slot.host ≤ page) × (page < slot.host + slot.pages)
    W = page_within page slot has

    by : (b : Bool) → has_bit (page % 64) (if b then 2 ^ 64 - 1 else 2 ^ (slot.pages - 64 * (page / 64 - log_begin slot)) - 1) ≡ true
    by true = low_bit 64 (page % 64) (omega arith)
    by false = low_bit (slot.pages - 64 * (page / 64 - log_begin slot)) (page % 64) (omega (arith, even, W.0, W.1))

-- A bit that is set is of one of its pages.
pub bits_within : (all : Bool) (page : ℕ) (slot : Slot) → slot.host % 64 ≡ 0 → is_in_log (page / 64) slot ≡ true
    → has_bit (page % 64) (arm_bits all slot (page / 64)) ≡ true → has_host_page page slot ≡ true
bits_within false page slot even in_log set = let none = no_bit (page % 64) in absurd (cc (none, set))
bits_within true page slot even in_log set = by (nat_lt (64 * (page / 64 - log_begin slot) + 63) slot.pages) refl set
  where
    L : IsInLog slot (page / 64)
    L = word_within (page / 64) slot in_log

    by : (b : Bool) → nat_lt (64 * (page / 64 - log_begin slot) + 63) slot.pages ≡ b
        → has_bit (page % 64) (if b then 2 ^ 64 - 1 else 2 ^ (slot.pages - 64 * (page / 64 - log_begin slot)) - 1) ≡ true → has_host_page page slot ≡ true
    by true is set =
        let whole : 64 * (page / 64 - log_begin slot) + 63 < slot.pages = grind (arith, nat_tests) in
        within_page page slot (omega (arith, even, L.0)) (omega (arith, even, L.0, whole))
    by false is set = low (nat_lt (page % 64) (slot.pages - 64 * (page / 64 - log_begin slot))) refl
      where
        low : (c : Bool) → nat_lt (page % 64) (slot.pages - 64 * (page / 64 - log_begin slot)) ≡ c → has_host_page page slot ≡ true
        low true less =
            let lt : page % 64 < slot.pages - 64 * (page / 64 - log_begin slot) = grind (arith, nat_tests) in
            within_page page slot (omega (arith, even, L.0)) (omega (arith, even, L.0, lt))
        low false less =
            let le : slot.pages - 64 * (page / 64 - log_begin slot) ≤ page % 64 = grind (arith, nat_tests) in
            let none = high_bit (slot.pages - 64 * (page / 64 - log_begin slot)) (page % 64) le in absurd (cc (none, set))
