-- The bits for which a line asks of a dirty log, word by word, and the pages and guest frames of which they are.
use Rattle.std.proofs.lemmas.Bool.{and_from, and_parts, cases_lt, eq-eqb, eqb-true}
use Rattle.std.proofs.lemmas.Bool.Decides.{nat_tests}
use Rattle.std.proofs.lemmas.List.{get_or_past}
use Rattle.std.proofs.lemmas.Nat.Bits.{bit_at-zero, bit_at_and, bit_at_ones}
use Rattle.std.proofs.Common.{◌≡◌, ◌⊎◌, inl, inr, ◌+◌, ◌-◌, ◌*◌, ◌/◌, ◌%◌, ◌^◌, ◌<◌, ◌≤◌, ◌==◌, ℕ, Bool, true, false, min, arith, ap, ap₂, refl, sym, ◌∙◌}
use Rattle.std.specs.Int.{bit_at}
use Rattle.std.specs.Prelude.{List, [], ◌∷◌, ◌++◌, get_or, is_some, length, nat_le, nat_lt, if◌then◌else◌}
use Rattle.core_views.specs.declared.trace.Command.{Command}
use Rattle.core_views.specs.declared.trace.Command.TheVariants.{ClearLog, GetLog, Migrate}
use Rattle.core_views.specs.declared.trace.Slot.{Slot}
use Rattle.core_views.specs.LogCommands.{asks_for, count_asked, first_asked, has_bit, log_read, low_bits, mask_asked, word_given}
use Rattle.core_views.specs.Slots.{contains}
use Rattle.log_invariant.specs.forms.log.LogReads.{IsRead}
use Rattle.log_invariant.proofs.LogBits.{bit_of_both, bit_of_mask, low_bit_below}
use Rattle.log_invariant.proofs.forms.log.ReadFrames.{bit_was, page_bit, page_word}
use Rattle.spte_words.specs.Bits.{has_bit as has_bit_of}
use Rattle.part_steps.specs.SlotWords.{page_of}
use Rattle.mmu_core.specs.forms.log.LogKnows.{AreAsked}
use Rattle.mmu_core.specs.forms.log.LogSteps.{first_word, frame_asked}

-- ---- the bits of a mask

-- The line asks for this page of the slot, counted from the first one for which it asks.
pub record IsAskedPage (slot : Slot) (command : Command) (page : ℕ) : Type 0 where
  pub low : page < count_asked command slot
  pub asked : asks_for command (first_asked command + page) ≡ true

low_has : (n bit : ℕ) → bit < 64 → bit < n → bit_at (low_bits n) bit ≡ 1
low_has n bit within lt = by (nat_le 64 n)
  where
    by : (whole : Bool) → bit_at (if whole then 2 ^ 64 - 1 else 2 ^ n - 1) bit ≡ 1
    by true = bit_at_ones 64 bit within
    by false = bit_at_ones n bit lt

-- What the command says of a page, and the bit that it gives for it.
given_has : (command : Command) (page : ℕ) → asks_for command (first_asked command + page) ≡ true → bit_at (word_given command (page / 64)) (page % 64) ≡ 1
given_has (GetLog id) page is = bit_at_ones 64 (page % 64) (omega arith)
given_has (Migrate call) page is = bit_at_ones 64 (page % 64) (omega arith)
given_has (ClearLog id first count words) page is =
    let more = (and_parts (nat_le first (first + page)) _ is).1 in
    let bit = (and_parts (nat_lt (first + page) (first + count)) _ more).1 in
    let same : first + page - first ≡ page = omega arith in
    eqb-true _ 1 (ap (has_bit words) (sym same) ∙ bit)
given_has _ page is = absurd (cc is)

given_asks : (command : Command) (slot : Slot) (page : ℕ) → is_some (log_read command) ≡ true → page < count_asked command slot
    → bit_at (word_given command (page / 64)) (page % 64) ≡ 1 → asks_for command (first_asked command + page) ≡ true
given_asks (GetLog id) slot page reads low is = refl
given_asks (ClearLog id first count words) slot page reads low is =
    let same : first + page - first ≡ page = omega arith in
    and_from (nat_le first (first + page)) _ (grind (arith, nat_tests))
    (and_from (nat_lt (first + page) (first + count)) _ (grind (arith, nat_tests)) (ap (has_bit words) same ∙ eq-eqb _ 1 is))
given_asks _ slot page reads low is = absurd (cc reads)

-- The bit of a page is one of the mask exactly where the line asks for the page.
pub mask_has : (slot : Slot) (command : Command) (page : ℕ) → IsAskedPage slot command page
    → bit_at (mask_asked command slot (page / 64)) (page % 64) ≡ 1
mask_has slot command page A =
    let low = A.low in
    bit_at_and (word_given command (page / 64)) (low_bits (count_asked command slot - 64 * (page / 64))) (page % 64)
    ∙ ap₂ min (given_has command page A.asked)
    (low_has (count_asked command slot - 64 * (page / 64)) (page % 64) (omega arith) (omega (arith, low)))

pub mask_asks : (slot : Slot) (command : Command) (page : ℕ) → is_some (log_read command) ≡ true
    → has_bit_of (page % 64) (mask_asked command slot (page / 64)) ≡ true → IsAskedPage slot command page
mask_asks slot command page reads is =
    record { low = low; asked = given_asks command slot page reads low (eqb-true _ 1 (bit_of_both given few (page % 64) is)) }
  where
    given : ℕ
    given = word_given command (page / 64)

    few : ℕ
    few = low_bits (count_asked command slot - 64 * (page / 64))

    low : page < count_asked command slot
    low =
        let within = low_bit_below (count_asked command slot - 64 * (page / 64)) (page % 64) (omega arith) (bit_of_mask given few (page % 64) is) in
        omega (arith, within)

-- ---- the bits of words

-- A bit is set in a word that is there.
pub bit_within : (words : List ℕ) (page : ℕ) → has_bit words page ≡ true → page / 64 < length words
bit_within words page is = by (cases_lt (page / 64) (length words))
  where
    by : (page / 64 < length words) ⊎ (length words ≤ page / 64) → page / 64 < length words
    by (inl lt) = lt
    by (inr past) =
        let none : has_bit words page ≡ false =
        ap (λ word. bit_at word (page % 64) == 1) (get_or_past words (page / 64) 0 past) ∙ ap (λ x. x == 1) (bit_at-zero (page % 64)) in
        absurd (cc (none, is))

-- What is set once a word has come was so before, or is a bit of this word.
pub had_or_last : (words : List ℕ) (x page : ℕ) → has_bit (words ++ x ∷ []) page ≡ true
    → (has_bit words page ≡ true) ⊎ ((page / 64 ≡ length words) × (bit_at x (page % 64) ≡ 1))
had_or_last words x page is = elim (bit_was words x page is) [ inl was ↦ inl was | inr last ↦ inr (last.0, eqb-true _ 1 last.1) ]

-- In words of which only bits are set for which the line asks it asks for the page of each that is set.
pub read_asked : (slot : Slot) (command : Command) (words : List ℕ) (page : ℕ) → is_some (log_read command) ≡ true → AreAsked slot command words
    → has_bit words page ≡ true → IsAskedPage slot command page
read_asked slot command words page reads asked is =
    mask_asks slot command page reads
    (bit_of_mask (get_or words (page / 64) 0) (mask_asked command slot (page / 64)) (page % 64)
    (ap (has_bit_of (page % 64)) (asked (page / 64) (bit_within words page is)) ∙ is))

-- ---- the guest frames of pages

-- The guest frame is that of such a page.
pub record IsAskedFrame (slot : Slot) (command : Command) (gfn : ℕ) : Type 0 where
  pub page : ℕ
  pub is : gfn ≡ frame_asked slot command page
  pub asked : IsAskedPage slot command page

pub asked_frame : (slot : Slot) (command : Command) (gfn : ℕ) → contains gfn slot ≡ true → asks_for command (gfn - slot.base) ≡ true
    → IsAskedFrame slot command gfn
asked_frame slot (GetLog id) gfn has is = record {
  page = gfn - slot.base;
  is = let from : slot.base ≤ gfn = grind (arith, nat_tests) in omega (arith, from);
  asked = record { low = grind (arith, nat_tests); asked = refl };
}
asked_frame slot (Migrate call) gfn has is = record {
  page = gfn - slot.base;
  is = let from : slot.base ≤ gfn = grind (arith, nat_tests) in omega (arith, from);
  asked = record { low = grind (arith, nat_tests); asked = refl };
}
asked_frame slot (ClearLog id first count words) gfn has is =
    let more = and_parts (nat_le first (gfn - slot.base)) _ is in
    let from : slot.base ≤ gfn = grind (arith, nat_tests) in
    let later : first ≤ gfn - slot.base = grind (arith, nat_tests) in
    let below : gfn - slot.base < first + count = grind (arith, nat_tests, (and_parts (nat_lt (gfn - slot.base) (first + count)) _ more.1).0) in
    let same : gfn - slot.base ≡ first + (gfn - slot.base - first) = omega (arith, later) in
    record {
      page = gfn - slot.base - first;
      is = omega (arith, from, later);
      asked = record { low = omega (arith, below); asked = ap (asks_for (ClearLog id first count words)) (sym same) ∙ is };
    }
asked_frame slot _ gfn has is = absurd (cc is)

-- It is one of the slot, and the line asks for it, where its pages are the slot's.
pub frame_inside : (slot : Slot) (command : Command) (page : ℕ) → first_asked command + count_asked command slot ≤ slot.pages
    → IsAskedPage slot command page
    → (contains (frame_asked slot command page) slot ≡ true) × (asks_for command (frame_asked slot command page - slot.base) ≡ true)
frame_inside slot command page inside A =
    let low = A.low in
    let back : frame_asked slot command page - slot.base ≡ first_asked command + page = omega arith in
    (grind (arith, nat_tests), ap (asks_for command) back ∙ A.asked)

-- The place of its page's bit in the words of the log.
pub record BitIsAt (slot : Slot) (command : Command) (page : ℕ) : Type 0 where
  pub word : page_of slot (frame_asked slot command page) / 64 ≡ first_word slot command + page / 64
  pub bit : page_of slot (frame_asked slot command page) % 64 ≡ page % 64

pub bit_is_at : (slot : Slot) (command : Command) (page : ℕ) → slot.host % 64 ≡ 0 → first_asked command % 64 ≡ 0 → BitIsAt slot command page
bit_is_at slot command page even whole =
    let gfn : ℕ = frame_asked slot command page in
    let same : gfn - frame_asked slot command 0 ≡ page = omega arith in
    record {
      word = page_word slot command gfn even whole (omega arith) ∙ ap (λ n. first_word slot command + n / 64) same;
      bit = page_bit slot command gfn even whole (omega arith) ∙ ap (λ n. n % 64) same;
    }

-- ---- the guest frames that words say

-- A guest frame that is read is that of a page whose bit is set.
pub record IsReadPage (slot : Slot) (command : Command) (words : List ℕ) (gfn : ℕ) : Type 0 where
  pub page : ℕ
  pub is : gfn ≡ frame_asked slot command page
  pub low : page < count_asked command slot
  pub bit : has_bit words page ≡ true

pub read_page : (slot : Slot) (command : Command) (words : List ℕ) (gfn : ℕ) → IsRead slot command words gfn → IsReadPage slot command words gfn
read_page slot command words gfn R =
    let from = R.from in
    let below = R.below in
    record { page = gfn - frame_asked slot command 0; is = omega (arith, from); low = omega (arith, from, below); bit = R.bit }

-- It is one of the slot.
pub read_inside : (slot : Slot) (command : Command) (words : List ℕ) (gfn : ℕ) → first_asked command + count_asked command slot ≤ slot.pages
    → IsRead slot command words gfn → contains gfn slot ≡ true
read_inside slot command words gfn inside R =
    let from : slot.base ≤ gfn = let low = R.from in omega (arith, low) in
    let to : gfn < slot.base + slot.pages = let low = R.below in omega (arith, low, inside) in
    grind (arith, nat_tests)
