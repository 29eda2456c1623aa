-- The words of a dirty log that a line has read, and the pages that it took by them.
use Rattle.std.proofs.lemmas.Bool.Decides.{nat_tests}
use Rattle.std.proofs.lemmas.List.{get_or_append_left, length-append}
use Rattle.std.proofs.lemmas.Nat.{and_assoc}
use Rattle.std.proofs.Math.Seq.{get_or-append_seam}
use Rattle.std.proofs.Common.{◌≡◌, ◌+◌, ◌-◌, ◌^◌, ◌<◌, ◌≤◌, ◌++◌, ℕ, Bool, true, false, refl, ap, ◌∙◌, arith, subst, sym}
use Rattle.std.specs.Int.Bits.{and_self, bit_and}
use Rattle.std.specs.Prelude.{List, [], ◌∷◌, Some, get_or, length, nat_lt}
use Rattle.core_views.specs.declared.trace.Command.{Command}
use Rattle.core_views.specs.declared.trace.Slot.{Slot}
use Rattle.core_views.specs.Held.{Held}
use Rattle.core_views.specs.LogCommands.{IsReadOf, count_asked, has_bit, mask_asked}
use Rattle.core_views.proofs.Ranges.{found_passes}
use Rattle.mmu_core.specs.forms.log.LogKnows.{AreAsked, HasRead, HasTaken, IsReading}
use Rattle.mmu_core.specs.forms.log.LogSteps.{first_word, frame_asked, mask_read, next_page, read_more, reads_last, word_end, word_read}

-- ---- the words

-- What was masked stays as it is under the same mask.
masked : (v mask : ℕ) → bit_and (bit_and v mask) mask ≡ bit_and v mask
masked v mask = and_assoc mask v mask ∙ ap (λ m. bit_and v m) (and_self mask)

-- One more word, in which only bits are set for which the line asks.
asked_more : (slot : Slot) (command : Command) (words : List ℕ) (x : ℕ) → AreAsked slot command words
    → bit_and x (mask_asked command slot (length words)) ≡ x → AreAsked slot command (words ++ x ∷ [])
asked_more slot command words x asked is i lt = by (nat_lt i (length words)) refl
  where
    more : List ℕ
    more = words ++ x ∷ []

    by : (b : Bool) → nat_lt i (length words) ≡ b → bit_and (get_or more i 0) (mask_asked command slot i) ≡ get_or more i 0
    by true e =
        let low : i < length words = grind (arith, nat_tests) in
        subst (λ w. bit_and w (mask_asked command slot i) ≡ w) (sym (get_or_append_left words (x ∷ []) 0 i low)) (asked i low)
    by false e =
        let high : length words ≤ i = grind (arith, nat_tests) in
        let count = length-append words (x ∷ []) in
        let last : i ≡ length words = omega (arith, high, lt, count) in
        subst (λ j. bit_and (get_or more j 0) (mask_asked command slot j) ≡ get_or more j 0) (sym last)
        (subst (λ w. bit_and w (mask_asked command slot (length words)) ≡ w) (sym (get_or-append_seam words x [] 0)) is)

-- What is so of the words that a line has read, once it has read one more.
record ReadsOne (begun : Bool) (slot : Slot) (command : Command) (h : Held) (v : ℕ) : Type 0 where
  from : first_word slot command ≤ word_read begun slot command h.topics
  read : length (read_more begun slot command h v) ≡ word_read begun slot command h.topics + 1 - first_word slot command
  asked : AreAsked slot command (read_more begun slot command h v)

reads_one : (begun : Bool) (slot : Slot) (command : Command) (h : Held) (v : ℕ) → IsReading begun slot command h → ReadsOne begun slot command h v
reads_one true slot command h v K = record {
  from = K.from refl;
  read =
      let count = length-append h.harvest (bit_and v (mask_read slot command h.topics.next_log_word) ∷ []) in
      let before = K.read refl in
      let low = K.from refl in
      omega (arith, count, before, low);
  asked =
      asked_more slot command h.harvest (bit_and v (mask_read slot command h.topics.next_log_word)) (K.asked refl)
      (ap (λ n. bit_and (bit_and v (mask_read slot command h.topics.next_log_word)) (mask_asked command slot n)) (K.read refl)
      ∙ masked v (mask_read slot command h.topics.next_log_word));
}
reads_one false slot command h v K = record {
  from = omega arith;
  read = omega arith;
  asked =
      asked_more slot command [] (bit_and v (mask_read slot command (first_word slot command))) (λ i lt. absurd (omega (arith, lt)))
      (ap (λ n. bit_and (bit_and v (mask_read slot command (first_word slot command))) (mask_asked command slot n)) none
      ∙ masked v (mask_read slot command (first_word slot command)));
}
  where
    none : 0 ≡ first_word slot command - first_word slot command
    none = omega arith

-- After one more word that isn't the last the line reads on.
pub reads_on : (begun : Bool) (slot : Slot) (command : Command) (h g : Held) (v : ℕ) → IsReading begun slot command h
    → g.topics.next_log_word ≡ word_read begun slot command h.topics + 1 → g.harvest ≡ read_more begun slot command h v
    → reads_last begun slot command h.topics ≡ false → IsReading true slot command g
reads_on begun slot command h g v K next words more = record {
  left = subst (λ n. n < word_end slot command) (sym next) less;
  from = λ is. let low = one.from in omega (arith, low, next);
  read = λ is. ap (λ (w : List ℕ). length w) words ∙ one.read ∙ ap (λ n. n - first_word slot command) (sym next);
  asked = λ is. subst (λ (w : List ℕ). AreAsked slot command w) (sym words) one.asked;
}
  where
    one : ReadsOne begun slot command h v
    one = reads_one begun slot command h v K

    less : word_read begun slot command h.topics + 1 < word_end slot command
    less = grind (arith, nat_tests)

-- After the last one it has read all.
pub reads_all : (begun : Bool) (slot : Slot) (command : Command) (h g : Held) (v : ℕ) → IsReading begun slot command h
    → g.harvest ≡ read_more begun slot command h v → reads_last begun slot command h.topics ≡ true → HasRead slot command g
reads_all begun slot command h g v K words last = record {
  read =
      let left = K.left in
      let low = one.from in
      ap (λ (w : List ℕ). length w) words ∙ one.read ∙ omega (arith, left, low, end);
  asked = subst (λ (w : List ℕ). AreAsked slot command w) (sym words) one.asked;
}
  where
    one : ReadsOne begun slot command h v
    one = reads_one begun slot command h v K

    end : word_end slot command ≤ word_read begun slot command h.topics + 1
    end = grind (arith, nat_tests)

-- ---- the pages

-- The next page is one that the line took.
pub next_taken : (slot : Slot) (command : Command) (h : Held) (from page : ℕ) → from ≤ count_asked command slot
    → next_page slot command h.harvest from ≡ Some page → HasTaken slot command page h
next_taken slot command h from page inside is =
    let found = found_passes from (count_asked command slot - from) (λ p. has_bit h.harvest p) page is in
    let low = found.0 in
    record { low = omega (arith, low, inside); taken = found.1 }

-- The guest frame of a page for which the line asks is a small number.
pub frame_small : (slot : Slot) (command : Command) (page : ℕ) → IsReadOf command slot → page < count_asked command slot
    → frame_asked slot command page < 2 ^ 36
frame_small slot command page R low = let inside = R.inside in let below = R.below in omega (arith, inside, below, low)
