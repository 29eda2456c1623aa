-- The words of a log, built from bit to bit and from word to word.
use mir.Val.{bool_byte}
use Rattle.std.proofs.Common.{◌≡◌, ◌+◌, ◌-◌, ◌*◌, ◌/◌, ◌^◌, ◌<◌, ◌≤◌, ◌&&◌, nat_lt, ℕ, zero, suc, Bool, true, false, arith, refl, sym, ap, ◌∙◌}
use Rattle.std.proofs.lemmas.Bool.Decides.{nat_tests}
use Rattle.std.proofs.Math.Nat.{pow-suc}
use Rattle.std.proofs.Math.Pow.{pow_mono}
use Rattle.std.specs.List.{range_with_len}
use Rattle.std.specs.Prelude.{Some, if◌then◌else◌, map}
use Rattle.core_views.specs.declared.memory_slot.MemorySlot.{MemorySlot}
use Rattle.core_views.specs.declared.trace.Command.{Command}
use Rattle.core_views.specs.LogCommands.{IsReadOf, asked_frames, asks_for, bits_for, count_asked, first_asked, is_among, number_of, words_of}
use Rattle.core_views.specs.Past.{FrameSet}
use Rattle.core_views.specs.Slots.{contains}
use Rattle.flat_model.specs.Dirty.{is_bit_set, word_of}
use Rattle.flat_model.proofs.DirtySets.{among}

abbrev pub bit_of : Bool → ℕ
bit_of b = if b then 1 else 0

pub bool_is : (b : Bool) → bool_byte b ≡ bit_of b
bool_is true = refl
bool_is false = refl

pub one_at_most : (b : Bool) → bool_byte b ≤ 1
one_at_most true = omega arith
one_at_most false = omega arith

bit_small : (b : Bool) (n : ℕ) → bit_of b + 2 * n ≤ 2 * n + 1
bit_small true n = omega arith
bit_small false n = omega arith

-- A number of so many bits is small.
pub number_small : (n : ℕ) (bits : ℕ → Bool) → number_of n bits < 2 ^ n
number_small zero bits = omega arith
number_small (suc n) bits =
    let later = number_small n (λ bit. bits (bit + 1)) in
    let here = bit_small (bits 0) (number_of n (λ bit. bits (bit + 1))) in
    omega (arith, later, here, pow-suc 2 n)

-- One bit more goes below those that are there.
pub number_more : (done first number : ℕ) (bits : ℕ → Bool) → done < 64 → number ≡ number_of done (λ bit. bits (first + (64 - done + bit)))
    → 2 * number + bit_of (bits (first + (63 - done))) ≡ number_of (suc done) (λ bit. bits (first + (64 - suc done + bit)))
number_more done first number bits lt is =
    let later = number_of done (λ bit. bits (first + (64 - suc done + (bit + 1)))) in
    let same : number ≡ later =
    is ∙ ap (number_of done) (λ i bit. ap bits (at bit) i) in
    let last = λ (k : ℕ). bit_of (bits (first + k)) in
    let lowest : last (63 - done) ≡ last (64 - suc done + 0) = ap last (omega arith) in
    omega (arith, same, lowest)
  where
    at : (bit : ℕ) → first + (64 - done + bit) ≡ first + (64 - suc done + (bit + 1))
    at bit = omega (arith, lt)

pub word_small : (done number : ℕ) (bits : ℕ → Bool) → done < 64 → number ≡ number_of done bits → number < 2 ^ 63
word_small done number bits lt is =
    let few : done ≤ 63 = omega arith in
    omega (arith, number_small done bits, pow_mono few)

-- All 64 bits are a word.
pub word_whole : (done first number : ℕ) (bits : ℕ → Bool) → done ≡ 64 → number ≡ number_of done (λ bit. bits (first + (64 - done + bit)))
    → number ≡ word_of (λ bit. bits (first + bit))
unfolding word_of
word_whole done first number bits all is = is ∙ ap (λ (n : ℕ). number_of n (λ bit. bits (first + (64 - n + bit)))) all

-- A log that was read, word by word.
pub words_whole : (frames : FrameSet) (command : Command) (slot : MemorySlot) (n : ℕ) → n ≡ (count_asked command slot.slot + 63) / 64
    → map (λ word. word_of (λ bit. is_bit_set frames command slot (64 * word + bit))) (range_with_len 0 n)
    ≡ bits_for command (Some slot) (asked_frames frames command (Some slot))
unfolding word_of words_of
words_whole frames command slot n is =
    ap (λ (k : ℕ). map (λ word. word_of (λ bit. is_bit_set frames command slot (64 * word + bit))) (range_with_len 0 k)) is

-- A bit is read for a page for which the line asks, of a dirty frame.
pub bit_is : (frames : FrameSet) (command : Command) (slot : MemorySlot) (bit : ℕ) → IsReadOf command slot.slot → bit < count_asked command slot.slot
    → is_bit_set frames command slot bit
    ≡ (asks_for command (first_asked command + bit) && frames (slot.slot.base + (first_asked command + bit)))
bit_is frames command slot bit fits lt =
    let page = first_asked command + bit in
    let gfn = slot.slot.base + page in
    let inside : contains gfn slot.slot ≡ true = grind (arith, nat_tests, lt, fits.inside) in
    let back : gfn - slot.slot.base ≡ page = omega arith in
    both (nat_lt bit (count_asked command slot.slot)) (is_among gfn (asked_frames frames command (Some slot))) (grind (arith, nat_tests, lt))
    ∙ among frames command slot gfn ∙ rw (inside, back) refl
  where
    both : (b c : Bool) → b ≡ true → (b && c) ≡ c
    both true c is = refl
    both false c is = absurd (cc is)

pub bit_found : (frames : FrameSet) (command : Command) (slot : MemorySlot) (bit first : ℕ) (asked : Bool) → IsReadOf command slot.slot
    → bit < count_asked command slot.slot → first ≡ first_asked command → asked ≡ asks_for command (first + bit)
    → (asked && frames (slot.slot.base + (first + bit))) ≡ is_bit_set frames command slot bit
bit_found frames command slot bit first asked fits lt first_is asked_is =
    ap (λ (b : Bool). b && frames (slot.slot.base + (first + bit))) asked_is
    ∙ ap (λ (page : ℕ). asks_for command (page + bit) && frames (slot.slot.base + (page + bit))) first_is
    ∙ sym (bit_is frames command slot bit fits lt)

pub passed : (a x r : Bool) → a ≡ true → r ≡ x → r ≡ (a && x)
passed true x r is e = e
passed false x r is e = absurd (cc is)

pub failed : (a x : Bool) → a ≡ false → a ≡ (a && x)
failed true x is = absurd (cc is)
failed false x is = refl
