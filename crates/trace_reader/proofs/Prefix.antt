-- A list that a loop fills: what it has, and what is still read.
use Rattle.std.proofs.Common.{◌≡◌, ◌<◌, ◌+◌, ℕ, List, [], ◌∷◌, ◌++◌, Result, Ok, Err, refl, sym, ap, ◌∙◌, map, length, drop, get_or, Bor, arith, append_assoc}
use Rattle.std.proofs.lemmas.List.{append-nil}
use Rattle.trace_reader.specs.declared.reason.Reason.{Reason}
use Rattle.trace_reader.specs.Operands.{◌>>=◌, number, numbers}
use Rattle.trace_reader.specs.Headers.{ranged, rising}

-- what was read before, and what is still read
abbrev pub with_prefix : {A E : Type 0} → List A → Result (List A) E → Result (List A) E
with_prefix prefix (Ok ls) = Ok (prefix ++ ls)
with_prefix prefix (Err e) = Err e

abbrev texts : List (Bor (List ℕ)) → List (List ℕ)
texts ws = map (λ w. w.now) ws

one_more : (prefix : List ℕ) (n : ℕ) (r : Result (List ℕ) Reason) → with_prefix prefix (r >>= λ ns. Ok (n ∷ ns)) ≡ with_prefix (prefix ++ n ∷ []) r
one_more prefix n (Ok ns) = ap (λ (v : List ℕ). Ok v) (simp append_assoc)
one_more prefix n (Err e) = refl

-- The first word gives a number, and the loop goes on.
pub risen : (prefix new : List ℕ) (low high : ℕ) (rest : List (Bor (List ℕ))) (d : Bor (List ℕ)) (n : ℕ) (total : Result (List ℕ) Reason)
    → 0 < length rest → Ok n ≡ ranged low high (get_or rest 0 d).now → new ≡ prefix ++ n ∷ []
    → with_prefix prefix (rising low high (texts rest)) ≡ total → with_prefix new (rising (n + 1) high (texts (drop 1 rest))) ≡ total
unfolding rising
risen prefix new low high [] d n total lt is more so_far = absurd (omega arith)
risen prefix new low high (w ∷ ws) d n total lt is more so_far =
    let step : with_prefix prefix (ranged low high w.now >>= λ n. rising (n + 1) high (texts ws) >>= λ ns. Ok (n ∷ ns))
    ≡ with_prefix (prefix ++ n ∷ []) (rising (n + 1) high (texts ws)) =
    rw (← is) (one_more prefix n (rising (n + 1) high (texts ws))) in
    rw more (sym step ∙ so_far)

-- The first word gives no number.
pub not_risen : (prefix : List ℕ) (low high : ℕ) (rest : List (Bor (List ℕ))) (d : Bor (List ℕ)) (r : Reason) (total : Result (List ℕ) Reason)
    → 0 < length rest → Err r ≡ ranged low high (get_or rest 0 d).now → with_prefix prefix (rising low high (texts rest)) ≡ total → total ≡ Err r
unfolding rising
not_risen prefix low high [] d r total lt is so_far = absurd (omega arith)
not_risen prefix low high (w ∷ ws) d r total lt is so_far =
    let step : with_prefix prefix (ranged low high w.now >>= λ n. rising (n + 1) high (texts ws) >>= λ ns. Ok (n ∷ ns)) ≡ Err r = rw (← is) refl in
    sym so_far ∙ step

-- No word is left.
pub all_risen : (prefix : List ℕ) (low high : ℕ) (rest : List (Bor (List ℕ))) (total : Result (List ℕ) Reason) → length rest < 1
    → with_prefix prefix (rising low high (texts rest)) ≡ total → total ≡ Ok prefix
unfolding rising
all_risen prefix low high [] total lt so_far = sym so_far ∙ ap (λ (v : List ℕ). Ok v) (append-nil prefix)
all_risen prefix low high (w ∷ ws) total lt so_far = absurd (omega arith)

-- The same of numbers that needn't rise.
pub one_read : (prefix new : List ℕ) (rest : List (Bor (List ℕ))) (d : Bor (List ℕ)) (n : ℕ) (total : Result (List ℕ) Reason)
    → 0 < length rest → Ok n ≡ number (get_or rest 0 d).now → new ≡ prefix ++ n ∷ []
    → with_prefix prefix (numbers (texts rest)) ≡ total → with_prefix new (numbers (texts (drop 1 rest))) ≡ total
unfolding numbers
one_read prefix new [] d n total lt is more so_far = absurd (omega arith)
one_read prefix new (w ∷ ws) d n total lt is more so_far =
    let step : with_prefix prefix (number w.now >>= λ n. numbers (texts ws) >>= λ ns. Ok (n ∷ ns)) ≡ with_prefix (prefix ++ n ∷ []) (numbers (texts ws)) =
    rw (← is) (one_more prefix n (numbers (texts ws))) in
    rw more (sym step ∙ so_far)

pub none_read : (prefix : List ℕ) (rest : List (Bor (List ℕ))) (d : Bor (List ℕ)) (r : Reason) (total : Result (List ℕ) Reason)
    → 0 < length rest → Err r ≡ number (get_or rest 0 d).now → with_prefix prefix (numbers (texts rest)) ≡ total → total ≡ Err r
unfolding numbers
none_read prefix [] d r total lt is so_far = absurd (omega arith)
none_read prefix (w ∷ ws) d r total lt is so_far =
    let step : with_prefix prefix (number w.now >>= λ n. numbers (texts ws) >>= λ ns. Ok (n ∷ ns)) ≡ Err r = rw (← is) refl in
    sym so_far ∙ step

pub all_read : (prefix : List ℕ) (rest : List (Bor (List ℕ))) (total : Result (List ℕ) Reason) → length rest < 1
    → with_prefix prefix (numbers (texts rest)) ≡ total → total ≡ Ok prefix
unfolding numbers
all_read prefix [] total lt so_far = sym so_far ∙ ap (λ (v : List ℕ). Ok v) (append-nil prefix)
all_read prefix (w ∷ ws) total lt so_far = absurd (omega arith)
