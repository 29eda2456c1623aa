-- The first elements of a list that pass a test, and one more.
use Rattle.std.proofs.Common.{◌≡◌, ◌+◌, ℕ, suc, List, [], ◌∷◌, ◌++◌, Bool, true, cond, length, take, drop, sym, ap, subst, ◌∙◌, arith, length-append}
use Rattle.std.proofs.Math.Seq.{drop-cons, get_or-append_seam}
use Rattle.std.proofs.lemmas.List.{take-append-drop, take_more}
use Rattle.std.proofs.lemmas.List.Elements.{filter-append}
use Rattle.std.proofs.lemmas.Option.{get_or_from_slice_get, slice_get-get_or, slice_get_within}
use Rattle.std.specs.Prelude.{Some, filter, slice_get}

pub one_more : {X : Type 0} (xs : List X) (k : ℕ) (x : X) → slice_get xs k ≡ Some x → take (k + 1) xs ≡ take k xs ++ x ∷ []
one_more {X} xs k x at = take_more xs k x (slice_get_within xs k x at) ∙ ap (λ (y : X). take k xs ++ y ∷ []) (get_or_from_slice_get xs k x x at)

pub pushed : {X : Type 0} (p : X → Bool) (xs : List X) (x : X) (b : Bool) → p x ≡ b → filter p (xs ++ x ∷ []) ≡ filter p xs ++ cond b (x ∷ []) []
pushed p xs x b is = filter-append p xs (x ∷ []) ∙ ap (λ (c : Bool). filter p xs ++ cond c (x ∷ []) []) is

pub passing_more : {X : Type 0} (p : X → Bool) (xs : List X) (k : ℕ) (x : X) (b : Bool) → slice_get xs k ≡ Some x → p x ≡ b
    → filter p (take (k + 1) xs) ≡ filter p (take k xs) ++ cond b (x ∷ []) []
passing_more p xs k x b at is = ap (filter p) (one_more xs k x at) ∙ pushed p (take k xs) x b is

-- The next one that passes, after those among the first k, is element k, where it passes.
pub passing_next : {X : Type 0} (p : X → Bool) (xs : List X) (k : ℕ) (x : X) → slice_get xs k ≡ Some x → p x ≡ true
    → slice_get (filter p xs) (length (filter p (take k xs))) ≡ Some x
passing_next {X} p xs k x at is =
    let front : List X = filter p (take k xs) in
    let back : List X = filter p (drop (suc k) xs) in
    let here : drop k xs ≡ x ∷ drop (suc k) xs =
    drop-cons xs k x (slice_get_within xs k x at) ∙ ap (λ (y : X). y ∷ drop (suc k) xs) (get_or_from_slice_get xs k x x at) in
    let rest : filter p (x ∷ drop (suc k) xs) ≡ x ∷ back = ap (λ (c : Bool). cond c (x ∷ back) back) is in
    let whole : filter p xs ≡ front ++ x ∷ back =
    ap (filter p) (sym (take-append-drop k xs)) ∙ filter-append p (take k xs) (drop k xs)
    ∙ ap (λ (ys : List X). front ++ filter p ys) here ∙ ap (λ (ys : List X). front ++ ys) rest in
    let count : length (front ++ x ∷ back) ≡ length front + length (x ∷ back) = length-append front (x ∷ back) in
    let there = slice_get-get_or (front ++ x ∷ back) (length front) x (omega (arith, count)) in
    subst (λ (ys : List X). slice_get ys (length front) ≡ Some x) (sym whole) (there ∙ ap Some (get_or-append_seam front x back x))
