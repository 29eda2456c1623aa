-- The words of a line, put one after the other.
use Rattle.std.proofs.Common.{◌≡◌, ◌++◌, ◌∷◌, [], ℕ, List, append_assoc, map, sym, ap, ◌∙◌}
use Rattle.std.proofs.lemmas.List.{map-append}

-- One more was put, of those that were left.
pub put_more : {A : Type 0} (f : A → List ℕ) (ws : List A) (w : A) (left more all : List (List ℕ)) → map f ws ++ left ≡ all → left ≡ f w ∷ more
    → map f (ws ++ w ∷ []) ++ more ≡ all
put_more f ws w left more all before cut =
    ap (λ (x : List (List ℕ)). x ++ more) (map-append f ws (w ∷ []))
    ∙ (append_assoc (map f ws) (f w ∷ []) more
    ∙ (ap (λ (x : List (List ℕ)). map f ws ++ x) (sym cut) ∙ before))

-- The last one was put.
pub put_last : {A : Type 0} (f : A → List ℕ) (ws : List A) (w : A) (left all : List (List ℕ)) → map f ws ++ left ≡ all → left ≡ f w ∷ []
    → map f (ws ++ w ∷ []) ≡ all
put_last f ws w left all before cut = map-append f ws (w ∷ []) ∙ (ap (λ (x : List (List ℕ)). map f ws ++ x) (sym cut) ∙ before)
