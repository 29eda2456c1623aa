-- A printed line tells its parts.
use Rattle.std.specs.Prelude.{◌==◌, if◌then◌else◌, All, false}
use Rattle.std.proofs.Common.{◌≡◌, ◌≤◌, ◌<◌, ◌^◌, ℕ, List, [], ◌∷◌, ◌++◌, codes, drop, get_or, arith, refl, sym, ap, ◌∙◌, append_assoc}
use Rattle.std.proofs.lemmas.Fmt.{decimal_is_IsNumeral, digits_is_IsNumeral}
use Rattle.std.proofs.lemmas.List.Elements.{All-head, All-tail}
use Rattle.std.specs.Char.{digit_value}
use Rattle.std.specs.Fmt.{decimal, digits}
use Rattle.std.specs.Str.Parse.{digits_value}
use Rattle.core_views.specs.Text.{actor_name, answer_text, bits_text, line_text}
use Rattle.core_views.specs.declared.actor.Actor.{Actor}
use Rattle.core_views.specs.declared.actor.Actor.TheVariants.{Vcpu, Host, Manager, Worker}
use Rattle.core_views.specs.declared.answer.Answer.{Answer}
use Rattle.core_views.specs.declared.answer.Answer.TheVariants.{Reached, Mmio, HostFault, Starved, Paused, Done, Moved, Bits, Copied, Image, Refused}
use Rattle.core_views.specs.declared.answer.Refusal.{Refusal}
use Rattle.core_views.specs.declared.answer.Refusal.TheVariants.{BadId, TooLarge, Missing, Logged, NoLog, Resize, Fixed, Overlap, HostOverlap, OutOfRange}
use Rattle.core_views.specs.declared.answer.Refusal.TheVariants.{IsHuge, NotAligned, NoFrame, BadRange, Migrating, NotLogged, NotStarted}
use Rattle.trace_text.specs.Laws.{IsPrintable, AreNumbers, LinesTell}
use Rattle.trace_text.proofs.Images.{images_tell}
use Rattle.trace_text.proofs.Numbers.{differ, heads, no_number, number, parts, small, space}

-- An actor and the space after it.
actor : (a b : Actor) (r s : List ℕ) → IsPrintable a → IsPrintable b → actor_name a ++ 32 ∷ r ≡ actor_name b ++ 32 ∷ s → (a ≡ b) × (r ≡ s)
actor (Vcpu m) (Vcpu n) r s mb nb e = let p = number m n 32 32 r s (small m mb) (small n nb) space space (ap (drop 1) e) in (ap Vcpu p.0, p.1)
actor (Host m) (Host n) r s mb nb e = let p = number m n 32 32 r s (small m mb) (small n nb) space space (ap (drop 1) e) in (ap Host p.0, p.1)
actor (Worker m) (Worker n) r s mb nb e = let p = number m n 32 32 r s (small m mb) (small n nb) space space (ap (drop 1) e) in (ap Worker p.0, p.1)
actor Manager Manager r s mb nb e = (refl, ap (drop 3) e)
actor (Vcpu m) Manager r s mb nb e = absurd (no_number m 32 109 r (32 ∷ s) (small m mb) space (omega arith) (ap (drop 1) e))
actor Manager (Vcpu n) r s mb nb e = absurd (no_number n 32 109 s (32 ∷ r) (small n nb) space (omega arith) (sym (ap (drop 1) e)))
actor (Vcpu m) (Host n) r s mb nb e = absurd (differ 118 104 (omega arith) (ap (λ (l : List ℕ). get_or l 0 0) e))
actor (Vcpu m) (Worker n) r s mb nb e = absurd (differ 118 119 (omega arith) (ap (λ (l : List ℕ). get_or l 0 0) e))
actor (Host m) (Vcpu n) r s mb nb e = absurd (differ 104 118 (omega arith) (ap (λ (l : List ℕ). get_or l 0 0) e))
actor (Host m) Manager r s mb nb e = absurd (differ 104 118 (omega arith) (ap (λ (l : List ℕ). get_or l 0 0) e))
actor (Host m) (Worker n) r s mb nb e = absurd (differ 104 119 (omega arith) (ap (λ (l : List ℕ). get_or l 0 0) e))
actor Manager (Host n) r s mb nb e = absurd (differ 118 104 (omega arith) (ap (λ (l : List ℕ). get_or l 0 0) e))
actor Manager (Worker n) r s mb nb e = absurd (differ 118 119 (omega arith) (ap (λ (l : List ℕ). get_or l 0 0) e))
actor (Worker m) (Vcpu n) r s mb nb e = absurd (differ 119 118 (omega arith) (ap (λ (l : List ℕ). get_or l 0 0) e))
actor (Worker m) (Host n) r s mb nb e = absurd (differ 119 104 (omega arith) (ap (λ (l : List ℕ). get_or l 0 0) e))
actor (Worker m) Manager r s mb nb e = absurd (differ 119 118 (omega arith) (ap (λ (l : List ℕ). get_or l 0 0) e))

-- The text behind `frame `.
abbrev reached : ℕ → ℕ → List ℕ
reached f v = decimal f ++ 32 ∷ (codes "value " ++ (decimal v ++ 10 ∷ []))

reached_is : (f v : ℕ) → drop 6 (answer_text (Reached f v) ++ 10 ∷ []) ≡ reached f v
reached_is f v = append_assoc (decimal f) (codes " value " ++ decimal v) (10 ∷ [])

-- A page's new frame and the LF after it are no frame and value.
moved_apart : (f g w : ℕ) → f < 2 ^ 64 → g < 2 ^ 64 → decimal f ++ 10 ∷ [] ≡ reached g w → ⊥
moved_apart f g w fb gb e =
    let behind : List ℕ = codes "value " ++ (decimal w ++ 10 ∷ []) in
    let p = parts 10 (decimal f) (decimal g) [] behind 10 32 (decimal_is_IsNumeral f fb).0.1 (decimal_is_IsNumeral g gb).0.1 (omega arith) space e in
    differ 10 32 (omega arith) (heads 10 32 [] behind p.1)

-- The refusal whose name has these letters: the first one tells it, or a later one does.
by_letter : List ℕ → Refusal
by_letter l =
    if get_or l 8 0 == 98 then (if get_or l 12 0 == 114 then BadRange else BadId) else
    if get_or l 8 0 == 116 then TooLarge else
    if get_or l 8 0 == 109 then (if get_or l 10 0 == 115 then Missing else Migrating) else
    if get_or l 8 0 == 108 then Logged else
    if get_or l 8 0 == 110 then (
    if get_or l 10 0 == 116 then (if get_or l 12 0 == 108 then NotLogged else if get_or l 12 0 == 97 then NotAligned else NotStarted) else
    (if get_or l 11 0 == 108 then NoLog else NoFrame)
    ) else
    if get_or l 8 0 == 114 then Resize else
    if get_or l 8 0 == 102 then Fixed else
    if get_or l 8 0 == 105 then IsHuge else
    if get_or l 8 0 == 111 then (if get_or l 9 0 == 118 then Overlap else OutOfRange) else
    HostOverlap

letter_tells : (r : Refusal) → by_letter (answer_text (Refused r) ++ 10 ∷ []) ≡ r
unfolding by_letter
letter_tells BadId = refl
letter_tells TooLarge = refl
letter_tells Missing = refl
letter_tells Logged = refl
letter_tells NoLog = refl
letter_tells Resize = refl
letter_tells Fixed = refl
letter_tells Overlap = refl
letter_tells HostOverlap = refl
letter_tells OutOfRange = refl
letter_tells IsHuge = refl
letter_tells NotAligned = refl
letter_tells NoFrame = refl
letter_tells BadRange = refl
letter_tells Migrating = refl
letter_tells NotLogged = refl
letter_tells NotStarted = refl

-- Words of a dirty log in hexadecimal digits, each after a space, and the LF after them.
abbrev words_text : List ℕ → List ℕ
words_text words = bits_text words ++ 10 ∷ []

-- the byte after a word, and what comes from there on
abbrev byte_after : List ℕ → ℕ
byte_after [] = 10
byte_after (word ∷ words) = 32

abbrev after_it : List ℕ → List ℕ
after_it [] = []
after_it (word ∷ words) = codes "0x" ++ (digits 16 false word ++ words_text words)

from_byte : (words : List ℕ) → words_text words ≡ byte_after words ∷ after_it words
from_byte [] = refl
from_byte (word ∷ words) = ap (λ (l : List ℕ). codes " 0x" ++ l) (append_assoc (digits 16 false word) (bits_text words) (10 ∷ []))

no_hexadecimal : (words : List ℕ) → 16 ≤ digit_value (byte_after words)
no_hexadecimal [] = omega arith
no_hexadecimal (word ∷ words) = omega arith

-- They tell the words.
words_tell : (xs ys : List ℕ) → All (λ word. word < 2 ^ 64) xs → All (λ word. word < 2 ^ 64) ys → words_text xs ≡ words_text ys → xs ≡ ys
words_tell [] [] xb yb e = refl
words_tell [] (y ∷ ys) xb yb e = absurd (differ 10 32 (omega arith) (ap (λ (l : List ℕ). get_or l 0 0) e))
words_tell (x ∷ xs) [] xb yb e = absurd (differ 32 10 (omega arith) (ap (λ (l : List ℕ). get_or l 0 0) e))
words_tell (x ∷ xs) (y ∷ ys) xb yb e =
    let x_is = digits_is_IsNumeral 16 false (omega arith) (omega arith) x (omega (arith, All-head (λ word. word < 2 ^ 64) x xs xb)) in
    let y_is = digits_is_IsNumeral 16 false (omega arith) (omega arith) y (omega (arith, All-head (λ word. word < 2 ^ 64) y ys yb)) in
    let whole : digits 16 false x ++ (byte_after xs ∷ after_it xs) ≡ digits 16 false y ++ (byte_after ys ∷ after_it ys) =
    ap (λ (l : List ℕ). digits 16 false x ++ l) (sym (from_byte xs))
    ∙ ap (drop 3) (sym (from_byte (x ∷ xs)) ∙ e ∙ from_byte (y ∷ ys))
    ∙ ap (λ (l : List ℕ). digits 16 false y ++ l) (from_byte ys) in
    let p = parts 16 (digits 16 false x) (digits 16 false y) (after_it xs) (after_it ys) (byte_after xs) (byte_after ys) x_is.0.1 y_is.0.1
    (no_hexadecimal xs) (no_hexadecimal ys) whole in
    let first : x ≡ y = sym x_is.1 ∙ ap (digits_value 16) p.0 ∙ y_is.1 in
    let rest : xs ≡ ys =
    words_tell xs ys (All-tail (λ word. word < 2 ^ 64) x xs xb) (All-tail (λ word. word < 2 ^ 64) y ys yb)
    (from_byte xs ∙ p.1 ∙ sym (from_byte ys)) in
    rw (first, rest) refl

-- the first byte of an answer
abbrev first_byte : Answer → ℕ
first_byte (Reached frame value) = 102
first_byte Mmio = 109
first_byte HostFault = 104
first_byte Starved = 115
first_byte Paused = 112
first_byte Done = 100
first_byte (Moved frame) = 102
first_byte (Bits words) = 98
first_byte (Copied pages) = 99
first_byte (Image words) = 105
first_byte (Refused refusal) = 114

first_is : (x : Answer) → get_or (answer_text x ++ 10 ∷ []) 0 0 ≡ first_byte x
first_is (Reached frame value) = refl
first_is Mmio = refl
first_is HostFault = refl
first_is Starved = refl
first_is Paused = refl
first_is Done = refl
first_is (Moved frame) = refl
first_is (Bits words) = refl
first_is (Copied pages) = refl
first_is (Image words) = refl
first_is (Refused refusal) = refl

-- An answer and its LF.
answer : (x y : Answer) → AreNumbers x → AreNumbers y → answer_text x ++ 10 ∷ [] ≡ answer_text y ++ 10 ∷ [] → x ≡ y
answer (Reached f v) (Reached g w) xb yb e =
    let whole : reached f v ≡ reached g w = sym (reached_is f v) ∙ ap (drop 6) e ∙ reached_is g w in
    let p = number f g 32 32 (codes "value " ++ (decimal v ++ 10 ∷ [])) (codes "value " ++ (decimal w ++ 10 ∷ [])) xb.0 yb.0 space space whole in
    let q = number v w 10 10 [] [] xb.1 yb.1 (omega arith) (omega arith) (ap (drop 6) p.1) in
    rw (p.0, q.0) refl
answer Mmio Mmio xb yb e = refl
answer HostFault HostFault xb yb e = refl
answer Starved Starved xb yb e = refl
answer Paused Paused xb yb e = refl
answer Done Done xb yb e = refl
answer (Moved f) (Moved g) xb yb e = ap Moved (number f g 10 10 [] [] xb yb (omega arith) (omega arith) (ap (drop 6) e)).0
answer (Moved f) (Reached g w) xb yb e = absurd (moved_apart f g w xb yb.0 (ap (drop 6) e ∙ reached_is g w))
answer (Reached f v) (Moved g) xb yb e = absurd (moved_apart g f v yb xb.0 (sym (ap (drop 6) e) ∙ reached_is f v))
answer (Refused r) (Refused s) xb yb e = ap Refused (sym (letter_tells r) ∙ ap by_letter e ∙ letter_tells s)
answer (Bits xs) (Bits ys) xb yb e = ap Bits (words_tell xs ys xb yb (ap (drop 4) e))
answer (Copied m) (Copied n) xb yb e = ap Copied (number m n 10 10 [] [] xb yb (omega arith) (omega arith) (ap (drop 7) e)).0
answer (Image xs) (Image ys) xb yb e = ap Image (images_tell xs ys xb yb (ap (drop 5) e))
answer x y xb yb e = absurd (differ (first_byte x) (first_byte y) (omega arith) (sym (first_is x) ∙ ap (λ (l : List ℕ). get_or l 0 0) e ∙ first_is y))

pub tells : LinesTell
unfolding line_text
tells m n a b x y mb nb ab bb xb yb e =
    let behind : Actor → Answer → List ℕ = λ c z. actor_name c ++ 32 ∷ (answer_text z ++ 10 ∷ []) in
    let p = number m n 32 32 (behind a x) (behind b y) (omega (arith, mb)) (omega (arith, nb)) space space e in
    let q = actor a b (answer_text x ++ 10 ∷ []) (answer_text y ++ 10 ∷ []) ab bb p.1 in
    (p.0, q.0, answer x y xb yb q.1)
