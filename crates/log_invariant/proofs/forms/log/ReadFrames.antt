-- The guest frames of the pages that a line has read of a dirty log, by the words that it has read: one more word leaves them, and adds its own; and where the
-- bit of a guest frame's page stands.
use Rattle.std.proofs.lemmas.Bool.{cases_lt}
use Rattle.std.proofs.lemmas.List.{get_or_append_left, get_or_past, length-append}
use Rattle.std.proofs.lemmas.Nat.Bits.{bit_at-zero}
use Rattle.std.proofs.Math.Seq.{get_or-append_seam}
use Rattle.std.proofs.Common.{◌≡◌, ◌≢◌, ◌⊎◌, inl, inr, ◌+◌, ◌-◌, ◌/◌, ◌%◌, ◌<◌, ◌≤◌, ◌++◌, ℕ, List, [], ◌∷◌, ap, ◌∙◌, sym, arith, length}
use Rattle.std.specs.Int.{bit_at}
use Rattle.std.specs.Prelude.{◌==◌, true, false, get_or}
use Rattle.core_views.specs.declared.trace.Command.{Command}
use Rattle.core_views.specs.declared.trace.Slot.{Slot as SlotOf}
use Rattle.core_views.specs.LogCommands.{count_asked, first_asked, has_bit}
use Rattle.spte_words.specs.Bits.{has_bit as has_bit_of}
use Rattle.part_steps.specs.SlotWords.{page_of}
use Rattle.mmu_core.specs.forms.log.LogSteps.{first_word, frame_asked}
use Rattle.mmu_core.proofs.machine.Columns.{same_or}
use Rattle.log_invariant.specs.forms.log.LogReads.{IsRead}

-- ---- bits of words

-- A bit that is set is one of a word that is there.
read_below : (words : List ℕ) (bit : ℕ) → has_bit words bit ≡ true → bit / 64 < length words
read_below words bit is = by (cases_lt (bit / 64) (length words))
  where
    by : (bit / 64 < length words) ⊎ (length words ≤ bit / 64) → bit / 64 < length words
    by (inl lt) = lt
    by (inr out) =
        let none : has_bit words bit ≡ false =
        ap (λ w. bit_at w (bit % 64) == 1) (get_or_past words (bit / 64) 0 out) ∙ ap (λ x. x == 1) (bit_at-zero (bit % 64)) in
        absurd (cc (none, is))

-- A bit of the words before, and one of a word that comes after them.
bit_before : (words : List ℕ) (w bit : ℕ) → bit / 64 < length words → has_bit (words ++ w ∷ []) bit ≡ has_bit words bit
bit_before words w bit lt = ap (λ word. bit_at word (bit % 64) == 1) (get_or_append_left words (w ∷ []) 0 (bit / 64) lt)

pub bit_of_new : (words : List ℕ) (w bit : ℕ) → bit / 64 ≡ length words → has_bit (words ++ w ∷ []) bit ≡ has_bit_of (bit % 64) w
bit_of_new words w bit here =
    ap (λ i. bit_at (get_or (words ++ w ∷ []) i 0) (bit % 64) == 1) here ∙ ap (λ x. bit_at x (bit % 64) == 1) (get_or-append_seam words w [] 0)

pub bit_still : (words : List ℕ) (w bit : ℕ) → has_bit words bit ≡ true → has_bit (words ++ w ∷ []) bit ≡ true
bit_still words w bit is = bit_before words w bit (read_below words bit is) ∙ is

-- A bit that is set then was set before, or is one of the new word.
pub bit_was : (words : List ℕ) (w bit : ℕ) → has_bit (words ++ w ∷ []) bit ≡ true
    → (has_bit words bit ≡ true) ⊎ ((bit / 64 ≡ length words) × (has_bit_of (bit % 64) w ≡ true))
bit_was words w bit is = by (same_or (bit / 64) (length words))
  where
    by : (bit / 64 ≡ length words) ⊎ (bit / 64 ≢ length words)
        → (has_bit words bit ≡ true) ⊎ ((bit / 64 ≡ length words) × (has_bit_of (bit % 64) w ≡ true))
    by (inl here) = inr (here, sym (bit_of_new words w bit here) ∙ is)
    by (inr apart) =
        let count = read_below (words ++ w ∷ []) bit is in
        let more = length-append words (w ∷ []) in
        inl (sym (bit_before words w bit (omega (arith, count, more, apart))) ∙ is)

-- ---- guest frames

module _ (slot : SlotOf) (command : Command) (words : List ℕ) (w gfn : ℕ) where
  -- the bit of the guest frame
  abbrev bit : ℕ
  bit = gfn - frame_asked slot command 0

  -- What was read stays read as a word is read.
  pub read_still : IsRead slot command words gfn → IsRead slot command (words ++ w ∷ []) gfn
  read_still R = record { from = R.from; below = R.below; bit = bit_still words w bit R.bit }

  -- The new word has the bits of its guest frames.
  pub new_word_bit : (k : ℕ) → length words ≡ k → bit / 64 ≡ k → has_bit (words ++ w ∷ []) bit ≡ has_bit_of (bit % 64) w
  new_word_bit k count here = bit_of_new words w bit (here ∙ sym count)

  -- So a guest frame whose bit is set there is read.
  pub newly_read : (k : ℕ) → length words ≡ k → frame_asked slot command 0 ≤ gfn → gfn < frame_asked slot command (count_asked command slot)
      → bit / 64 ≡ k → has_bit_of (bit % 64) w ≡ true → IsRead slot command (words ++ w ∷ []) gfn
  newly_read k count from below here is = record { from = from; below = below; bit = new_word_bit k count here ∙ is }

  -- What is read then was read before, or is of the new word.
  pub read_was : IsRead slot command (words ++ w ∷ []) gfn
      → IsRead slot command words gfn ⊎ ((bit / 64 ≡ length words) × (has_bit_of (bit % 64) w ≡ true))
  read_was R = by (bit_was words w bit R.bit)
    where
      by : (has_bit words bit ≡ true) ⊎ ((bit / 64 ≡ length words) × (has_bit_of (bit % 64) w ≡ true))
          → IsRead slot command words gfn ⊎ ((bit / 64 ≡ length words) × (has_bit_of (bit % 64) w ≡ true))
      by (inl is) = inl (record { from = R.from; below = R.below; bit = is })
      by (inr new_) = inr new_

-- ---- the bit of a guest frame's page

word_at : (host base first gfn : ℕ) → host % 64 ≡ 0 → first % 64 ≡ 0 → base + (first + 0) ≤ gfn
    → (host + (gfn - base)) / 64 ≡ host / 64 + first / 64 + (gfn - (base + (first + 0))) / 64
word_at host base first gfn even whole from = omega (arith, even, whole, from)

bit_in : (host base first gfn : ℕ) → host % 64 ≡ 0 → first % 64 ≡ 0 → base + (first + 0) ≤ gfn
    → (host + (gfn - base)) % 64 ≡ (gfn - (base + (first + 0))) % 64
bit_in host base first gfn even whole from = omega (arith, even, whole, from)

-- Where the slot's host pages, and the pages for which the line asks, begin with a word, the page of a guest frame for which it asks has its bit in the word
-- that says it, at the same place.
module _ (slot : SlotOf) (command : Command) (gfn : ℕ) (even : slot.host % 64 ≡ 0) (whole : first_asked command % 64 ≡ 0)
    (from : frame_asked slot command 0 ≤ gfn) where
  pub page_word : page_of slot gfn / 64 ≡ first_word slot command + (gfn - frame_asked slot command 0) / 64
  page_word = word_at slot.host slot.base (first_asked command) gfn even whole from

  pub page_bit : page_of slot gfn % 64 ≡ (gfn - frame_asked slot command 0) % 64
  page_bit = bit_in slot.host slot.base (first_asked command) gfn even whole from
