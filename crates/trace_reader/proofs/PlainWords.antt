-- Words have bytes and no space, and a line of words is cut into them.
use Rattle.std.proofs.Common.{◌≡◌, ◌≤◌, ◌<◌, ◌^◌, inl, inr, ℕ, List, [], ◌∷◌, true, false, All, length, refl, ap, ◌∙◌, arith, ◌==◌, not}
use Rattle.std.specs.Prelude.{codes}
use Rattle.std.specs.List.{AllZip, list_all, list_any}
use Rattle.std.specs.Fmt.{decimal}
use Rattle.std.proofs.lemmas.Bool.Decides.{nat_tests}
use Rattle.std.proofs.lemmas.Fmt.{digits_decimal, decimal_nonempty}
use Rattle.std.proofs.lemmas.List.Elements.{All-nil, All-cons}
use Rattle.std.proofs.lemmas.List.Splits.{slice_split_none, slice_split_at}
use Rattle.core_views.specs.Text.{actor_name}
use Rattle.core_views.specs.declared.actor.Actor.{Actor}
use Rattle.core_views.specs.declared.actor.Actor.TheVariants.{Vcpu, Host, Manager, Worker}
use Rattle.trace_reader.specs.Numbers.{is_digit, is_hex_digit}
use Rattle.trace_reader.specs.Forms.{is_empty, words_of}
use Rattle.trace_reader.specs.Grammar.{Spells, spaced, IsWord, AreWords, IsActor}
use Rattle.trace_reader.proofs.Results.{both}
use Rattle.trace_reader.proofs.Spelled.{own}

no_space : (b : ℕ) → not (b == 32) ≡ true → (b == 32) ≡ false
no_space b e = grind (arith, nat_tests)

no_spaces : (w : List ℕ) → list_all (λ b. not (b == 32)) w ≡ true → All (λ b. (b == 32) ≡ false) w
no_spaces [] e = All-nil (λ (b : ℕ). (b == 32) ≡ false)
no_spaces (b ∷ bs) e =
    let t = both (not (b == 32)) (list_all (λ x. not (x == 32)) bs) e in
    All-cons (λ (x : ℕ). (x == 32) ≡ false) b bs (no_space b t.0) (no_spaces bs t.1)

filled : (w : List ℕ) → 1 ≤ length w → is_empty w ≡ false
filled w lt = grind (arith, nat_tests)

-- Words with one space between each two are cut into these words.
pub words_spaced : (w : List ℕ) (ws : List (List ℕ)) → AreWords (w ∷ ws) → words_of (spaced (w ∷ ws)) ≡ w ∷ ws
words_spaced w [] are = slice_split_none (λ (b : ℕ). b == 32) w (no_spaces w are.0.plain)
words_spaced w (v ∷ ws) are =
    slice_split_at (λ (b : ℕ). b == 32) w 32 (spaced (v ∷ ws)) (no_spaces w are.0.plain) refl ∙ ap (λ (l : List (List ℕ)). w ∷ l) (words_spaced v ws are.1)

pub none_empty : (ws : List (List ℕ)) → AreWords ws → list_any is_empty ws ≡ false
none_empty [] are = refl
none_empty (w ∷ ws) are = rw (filled w are.0.filled, none_empty ws are.1) refl

digit_plain : (b : ℕ) → is_hex_digit b ≡ true → not (b == 32) ≡ true
digit_plain b e = grind (arith, nat_tests)

decimal_plain : (b : ℕ) → is_digit b ≡ true → not (b == 32) ≡ true
decimal_plain b e = grind (arith, nat_tests)

digits_plain : (ds : List ℕ) → list_all is_hex_digit ds ≡ true → list_all (λ b. not (b == 32)) ds ≡ true
digits_plain [] e = refl
digits_plain (d ∷ ds) e = let t = both (is_hex_digit d) (list_all is_hex_digit ds) e in rw (digit_plain d t.0, digits_plain ds t.1) refl

decimals_plain : (ds : List ℕ) → list_all is_digit ds ≡ true → list_all (λ b. not (b == 32)) ds ≡ true
decimals_plain [] e = refl
decimals_plain (d ∷ ds) e = let t = both (is_digit d) (list_all is_digit ds) e in rw (decimal_plain d t.0, decimals_plain ds t.1) refl

decimal_word : (n : ℕ) → n < 2 ^ 64 → IsWord (decimal n)
decimal_word n lt = record { filled = omega (arith, decimal_nonempty n lt); plain = decimals_plain (decimal n) (digits_decimal own n lt) }

hex_word : (ds : List ℕ) → list_all is_hex_digit ds ≡ true → IsWord (48 ∷ 120 ∷ ds)
hex_word ds all = record { filled = omega arith; plain = digits_plain ds all }

pub spelled_word : (w : List ℕ) (n : ℕ) → Spells w n → IsWord w
spelled_word w n (lt, inl e) = rw e (decimal_word n lt)
spelled_word w n (lt, inr (ds, e, low, high, all, v)) = rw e (hex_word ds all)

pub spelled_words : (ws : List (List ℕ)) (ns : List ℕ) → AllZip Spells ws ns → AreWords ws
spelled_words [] ns all = tt
spelled_words (w ∷ ws) [] all = absurd all
spelled_words (w ∷ ws) (n ∷ ns) (s, all) = (spelled_word w n s, spelled_words ws ns all)

letter_word : (letter i : ℕ) → not (letter == 32) ≡ true → i < 16 → IsWord (letter ∷ decimal i)
letter_word letter i other lt =
    let d : 0 < length (decimal i) = decimal_nonempty i (omega arith) in
    record { filled = omega arith; plain = rw (other, decimals_plain (decimal i) (digits_decimal own i (omega arith))) refl }

pub text_word : (w : List ℕ) → 1 ≤ length w → list_all (λ b. not (b == 32)) w ≡ true → IsWord w
text_word w a b = record { filled = a; plain = b }

pub actor_word : (a : Actor) → IsActor a → IsWord (actor_name a)
actor_word (Vcpu i) le = letter_word 118 i refl (omega arith)
actor_word (Host i) le = letter_word 104 i refl (omega arith)
actor_word Manager le = text_word (codes "vm") (omega arith) refl
actor_word (Worker i) le = letter_word 119 i refl (omega arith)
