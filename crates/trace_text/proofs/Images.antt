-- The printed words of an image tell the words.
use Rattle.std.specs.Prelude.{All}
use Rattle.std.proofs.Common.{◌≡◌, ◌≤◌, ℕ, List, [], ◌∷◌, ◌++◌, get_or, drop, arith, refl, sym, ap, ◌∙◌, append_assoc}
use Rattle.std.proofs.lemmas.Fmt.{decimal_is_IsNumeral, decimal_injective}
use Rattle.std.proofs.lemmas.List.Elements.{All-head, All-tail}
use Rattle.std.specs.Char.{digit_value}
use Rattle.std.specs.Fmt.{decimal}
use Rattle.core_views.specs.Text.{image_text, image_word_text}
use Rattle.core_views.specs.declared.migration.ImageWord.{ImageWord}
use Rattle.trace_text.specs.Laws.{AreWordNumbers}
use Rattle.trace_text.proofs.Numbers.{differ, number, parts}

-- a word of an image, and what comes after it
abbrev spelled : ImageWord → List ℕ → List ℕ
spelled at rest = decimal at.id ++ 58 ∷ (decimal at.page ++ 58 ∷ (decimal at.word ++ 61 ∷ (decimal at.value ++ rest)))

spelled_is : (at : ImageWord) (rest : List ℕ) → image_word_text at ++ rest ≡ spelled at rest
spelled_is at rest =
    let value : List ℕ = 61 ∷ decimal at.value in
    let word : List ℕ = 58 ∷ (decimal at.word ++ value) in
    append_assoc (decimal at.id) (58 ∷ (decimal at.page ++ word)) rest
    ∙ ap (λ (l : List ℕ). decimal at.id ++ 58 ∷ l) (append_assoc (decimal at.page) word rest
    ∙ ap (λ (l : List ℕ). decimal at.page ++ 58 ∷ l) (append_assoc (decimal at.word) value rest))

-- Words whose numbers are the same.
same_word : (x y : ImageWord) → x.id ≡ y.id → x.page ≡ y.page → x.word ≡ y.word → x.value ≡ y.value → x ≡ y
same_word x y id page word value = λ i. record { id = id i; page = page i; word = word i; value = value i }

-- A word and the byte after it.
word_tells : (x y : ImageWord) (c d : ℕ) (r s : List ℕ) → AreWordNumbers x → AreWordNumbers y → 10 ≤ digit_value c → 10 ≤ digit_value d
    → spelled x (c ∷ r) ≡ spelled y (d ∷ s) → (x ≡ y) × (c ∷ r ≡ d ∷ s)
word_tells x y c d r s xb yb cs ds e =
    let colon : 10 ≤ digit_value 58 = omega arith in
    let equals : 10 ≤ digit_value 61 = omega arith in
    let p = number x.id y.id 58 58 _ _ xb.0 yb.0 colon colon e in
    let q = number x.page y.page 58 58 _ _ xb.1 yb.1 colon colon p.1 in
    let w = number x.word y.word 61 61 _ _ xb.2 yb.2 equals equals q.1 in
    let v = parts 10 (decimal x.value) (decimal y.value) r s c d (decimal_is_IsNumeral x.value xb.3).0.1 (decimal_is_IsNumeral y.value yb.3).0.1 cs ds w.1 in
    (same_word x y p.0 q.0 w.0 (decimal_injective x.value y.value xb.3 yb.3 v.0), v.1)

-- Words of an image, each after a space, and the LF after them.
abbrev words_text : List ImageWord → List ℕ
words_text words = image_text words ++ 10 ∷ []

-- the byte after a word, and what comes from there on
abbrev byte_after : List ImageWord → ℕ
byte_after [] = 10
byte_after (word ∷ words) = 32

abbrev after_it : List ImageWord → List ℕ
after_it [] = []
after_it (word ∷ words) = image_word_text word ++ words_text words

from_byte : (words : List ImageWord) → words_text words ≡ byte_after words ∷ after_it words
from_byte [] = refl
from_byte (word ∷ words) = ap (λ (l : List ℕ). 32 ∷ l) (append_assoc (image_word_text word) (image_text words) (10 ∷ []))

no_digit : (words : List ImageWord) → 10 ≤ digit_value (byte_after words)
no_digit [] = omega arith
no_digit (word ∷ words) = omega arith

-- the words after the space before the first
from_word : (word : ImageWord) (words : List ImageWord) → drop 1 (words_text (word ∷ words)) ≡ spelled word (byte_after words ∷ after_it words)
from_word word words =
    append_assoc (image_word_text word) (image_text words) (10 ∷ [])
    ∙ ap (λ (l : List ℕ). image_word_text word ++ l) (from_byte words)
    ∙ spelled_is word (byte_after words ∷ after_it words)

-- They tell the words.
pub images_tell : (xs ys : List ImageWord) → All AreWordNumbers xs → All AreWordNumbers ys → words_text xs ≡ words_text ys → xs ≡ ys
images_tell [] [] xb yb e = refl
images_tell [] (y ∷ ys) xb yb e = absurd (differ 10 32 (omega arith) (ap (λ (l : List ℕ). get_or l 0 0) e))
images_tell (x ∷ xs) [] xb yb e = absurd (differ 32 10 (omega arith) (ap (λ (l : List ℕ). get_or l 0 0) e))
images_tell (x ∷ xs) (y ∷ ys) xb yb e =
    let whole = sym (from_word x xs) ∙ ap (drop 1) e ∙ from_word y ys in
    let p = word_tells x y (byte_after xs) (byte_after ys) (after_it xs) (after_it ys) (All-head AreWordNumbers x xs xb) (All-head AreWordNumbers y ys yb)
    (no_digit xs) (no_digit ys) whole in
    let rest : xs ≡ ys =
    images_tell xs ys (All-tail AreWordNumbers x xs xb) (All-tail AreWordNumbers y ys yb) (from_byte xs ∙ p.1 ∙ sym (from_byte ys)) in
    rw (p.0, rest) refl
