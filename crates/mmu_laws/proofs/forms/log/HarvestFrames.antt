-- The words that a line has read of a dirty log, as guest frames: which they are, that they rise, and that they are said by these very words.
use Rattle.std.proofs.lemmas.Bool.{and_from, and_parts, cases_lt, eq-eqb, eqb-true}
use Rattle.std.proofs.lemmas.Bool.Decides.{nat_tests}
use Rattle.std.proofs.lemmas.List.FromFn.{fill_by_all}
use Rattle.std.proofs.lemmas.List.Kept.{IsStrictlyIncreasing-filter}
use Rattle.std.proofs.lemmas.Map.Views.{any-filter_same}
use Rattle.std.proofs.lemmas.Nat.{and_le_r}
use Rattle.std.proofs.lemmas.Nat.Bits.{bit_at-suc, bit_at_lowest, bit_at-lt}
use Rattle.std.proofs.Math.Nat.{pow-suc}
use Rattle.std.proofs.Common.{◌≡◌, ◌⊎◌, inl, inr, ◌+◌, ◌-◌, ◌*◌, ◌/◌, ◌%◌, ◌^◌, ◌<◌, ◌≤◌, ◌==◌, ◌&&◌, ℕ, zero, suc, Bool, true, false}
use Rattle.std.proofs.Common.{arith, ap, refl, subst, sym, ◌∙◌}
use Rattle.std.specs.Int.{bit_at}
use Rattle.std.specs.List.{range_with_len}
use Rattle.std.specs.List.Sorted.{IsStrictlyIncreasing}
use Rattle.std.specs.Prelude.{List, Some, get_or, is_some, length, nat_lt, if◌then◌else◌}
use Rattle.core_views.specs.declared.memory_slot.MemorySlot.{MemorySlot}
use Rattle.core_views.specs.declared.trace.Command.{Command}
use Rattle.core_views.specs.declared.trace.Slot.{Slot}
use Rattle.core_views.specs.LogCommands.{bits_for, count_asked, first_asked, has_bit, is_among, log_read, mask_asked, number_of, words_asked, words_of}
use Rattle.core_views.proofs.AskedFrames.{in_range, range_rises}
use Rattle.core_views.proofs.Ranges.{any_passes}
use Rattle.log_invariant.specs.forms.log.LogReads.{IsRead}
use Rattle.mmu_core.specs.forms.log.LogKnows.{AreAsked}
use Rattle.mmu_core.specs.forms.log.LogSteps.{frame_asked, frames_read}
use Rattle.mmu_core.proofs.forms.log.LogNeeds.{mask_small}
use Rattle.mmu_laws.proofs.forms.log.AskedPages.{read_asked}

-- ---- which guest frames they are

among_is : (slot : Slot) (command : Command) (words : List ℕ) (gfn : ℕ) → is_among gfn (frames_read slot command words)
    ≡ (has_bit words (gfn - frame_asked slot command 0) && is_among gfn (range_with_len (frame_asked slot command 0) (count_asked command slot)))
among_is slot command words gfn =
    any-filter_same (λ frame. frame == gfn) (λ frame. has_bit words (frame - frame_asked slot command 0)) _
    (λ frame same. ap (λ (n : ℕ). has_bit words (n - frame_asked slot command 0)) (eqb-true frame gfn same))
    (range_with_len (frame_asked slot command 0) (count_asked command slot))

-- They are those that the words say.
pub among_read : (slot : Slot) (command : Command) (words : List ℕ) (gfn : ℕ) → is_among gfn (frames_read slot command words) ≡ true
    → IsRead slot command words gfn
among_read slot command words gfn is =
    let parts = and_parts (has_bit words (gfn - frame_asked slot command 0)) _ (sym (among_is slot command words gfn) ∙ is) in
    let within = in_range (frame_asked slot command 0) (count_asked command slot) gfn parts.1 in
    record { from = within.0; below = let low = within.1 in omega (arith, low); bit = parts.0 }

pub read_among : (slot : Slot) (command : Command) (words : List ℕ) (gfn : ℕ) → IsRead slot command words gfn
    → is_among gfn (frames_read slot command words) ≡ true
read_among slot command words gfn R =
    let below = R.below in
    among_is slot command words gfn
    ∙ and_from (has_bit words (gfn - frame_asked slot command 0)) _ R.bit
    (any_passes (frame_asked slot command 0) (count_asked command slot) (λ frame. frame == gfn) gfn R.from (omega (arith, below)) (eq-eqb gfn gfn refl))

pub frames_rise : (slot : Slot) (command : Command) (words : List ℕ) → IsStrictlyIncreasing (frames_read slot command words)
frames_rise slot command words =
    IsStrictlyIncreasing-filter _ (range_with_len (frame_asked slot command 0) (count_asked command slot))
    (range_rises (frame_asked slot command 0) (count_asked command slot))

-- ---- the words that say them

-- A number is made of its bits.
number_is : (n x : ℕ) → x < 2 ^ n → number_of n (λ bit. bit_at x bit == 1) ≡ x
number_is zero x lt = omega (arith, lt)
number_is (suc n) x lt =
    ap (λ m. (if bit_at x 0 == 1 then 1 else 0) + 2 * m)
    (ap (number_of n) (λ i bit. later bit i == 1) ∙ number_is n (x / 2) (omega (arith, lt, pow-suc 2 n)))
    ∙ by (bit_at x 0 == 1) refl
  where
    later : (bit : ℕ) → bit_at x (bit + 1) ≡ bit_at (x / 2) bit
    later bit = let next : bit + 1 ≡ suc bit = omega arith in ap (bit_at x) next ∙ bit_at-suc x bit

    by : (b : Bool) → (bit_at x 0 == 1) ≡ b → (if b then 1 else 0) + 2 * (x / 2) ≡ x
    by true is = let low = bit_at_lowest x in let one = eqb-true (bit_at x 0) 1 is in omega (arith, low, one)
    by false is =
        let low = bit_at_lowest x in
        let none : bit_at x 0 ≡ 0 = let few = bit_at-lt x 0 in grind (arith, nat_tests) in
        omega (arith, low, none)

-- Bits that agree make the same number.
number_same : (n : ℕ) (bits others : ℕ → Bool) → ((bit : ℕ) → bit < n → bits bit ≡ others bit) → number_of n bits ≡ number_of n others
number_same zero bits others same = refl
number_same (suc n) bits others same =
    ap (λ b. (if b then 1 else 0) + 2 * number_of n (λ bit. bits (bit + 1))) (same 0 (omega arith))
    ∙ ap (λ m. (if others 0 then 1 else 0) + 2 * m)
    (number_same n (λ bit. bits (bit + 1)) (λ bit. others (bit + 1)) (λ bit lt. same (bit + 1) (omega (arith, lt))))

module _ (command : Command) (slot : Slot) (words : List ℕ) (reads : is_some (log_read command) ≡ true) (asked : AreAsked slot command words) where
  abbrev frame_of : ℕ → ℕ
  frame_of page = slot.base + (first_asked command + page)

  -- A bit is set for each of these guest frames, and for no other.
  bit_of : (page : ℕ) → (nat_lt page (count_asked command slot) && is_among (frame_of page) (frames_read slot command words)) ≡ has_bit words page
  bit_of page = by (cases_lt page (count_asked command slot))
    where
      back : frame_of page - frame_asked slot command 0 ≡ page
      back = omega arith

      none : (b : Bool) → (b ≡ true → page < count_asked command slot) → count_asked command slot ≤ page → false ≡ b
      none true low past = let lt = low refl in absurd (omega (arith, lt, past))
      none false low past = refl

      by : (page < count_asked command slot) ⊎ (count_asked command slot ≤ page)
          → (nat_lt page (count_asked command slot) && is_among (frame_of page) (frames_read slot command words)) ≡ has_bit words page
      by (inl lt) =
          let low : nat_lt page (count_asked command slot) ≡ true = grind (arith, nat_tests) in
          let here = any_passes (frame_asked slot command 0) (count_asked command slot) (λ frame. frame == frame_of page) (frame_of page)
          (omega arith) (omega (arith, lt)) (eq-eqb (frame_of page) (frame_of page) refl) in
          ap (λ b. b && is_among (frame_of page) (frames_read slot command words)) low ∙ among_is slot command words (frame_of page)
          ∙ ap (λ b. has_bit words (frame_of page - frame_asked slot command 0) && b) here ∙ all (has_bit words (frame_of page - frame_asked slot command 0))
          ∙ ap (has_bit words) back
        where
          all : (b : Bool) → (b && true) ≡ b
          all true = refl
          all false = refl
      by (inr past) =
          let high : nat_lt page (count_asked command slot) ≡ false = grind (arith, nat_tests) in
          ap (λ b. b && is_among (frame_of page) (frames_read slot command words)) high
          ∙ none (has_bit words page) (λ is. (read_asked slot command words page reads asked is).low) past

  -- Each word is one of 64 bits.
  word_small : (k : ℕ) → k < length words → get_or words k 0 < 2 ^ 64
  word_small k lt =
      let few = and_le_r (get_or words k 0) (mask_asked command slot k) in
      let same = asked k lt in
      let small = mask_small command slot k in
      omega (arith, few, same, small)

  word_is : (k : ℕ) → k < length words
      → get_or words k 0
      ≡ number_of 64 (λ bit. nat_lt (64 * k + bit) (count_asked command slot) && is_among (frame_of (64 * k + bit)) (frames_read slot command words))
  word_is k lt = sym (number_is 64 (get_or words k 0) (word_small k lt)) ∙ sym (number_same 64 _ _ (λ bit low. bit_of (64 * k + bit) ∙ at bit low))
    where
      at : (bit : ℕ) → bit < 64 → has_bit words (64 * k + bit) ≡ (bit_at (get_or words k 0) bit == 1)
      at bit low =
          let word : (64 * k + bit) / 64 ≡ k = omega (arith, low) in
          let place : (64 * k + bit) % 64 ≡ bit = omega (arith, low) in
          ap (λ w. bit_at (get_or words w 0) ((64 * k + bit) % 64) == 1) word ∙ ap (λ b. bit_at (get_or words k 0) b == 1) place

-- They are what is read of the slot's log, as words.
pub words_read : (command : Command) (slot : MemorySlot) (words : List ℕ) → is_some (log_read command) ≡ true
    → length words ≡ words_asked command slot.slot → AreAsked slot.slot command words
    → bits_for command (Some slot) (frames_read slot.slot command words) ≡ words
unfolding words_of
words_read command slot words reads long asked =
    sym (fill_by_all _ words (words_asked command slot.slot) 0 long
    (λ k lt. word_is command slot.slot words reads asked k (subst (λ n. k < n) (sym long) lt)))
