-- The spans of the levels: their numbers, and how far a child lies from its leaf's first frame.
use Rattle.std.proofs.Common.{◌≡◌, ◌+◌, ◌*◌, ◌-◌, ◌^◌, ◌<◌, ◌≤◌, ◌%◌, ℕ, Bool, true, false, refl, sym, subst, arith}
use Rattle.std.specs.Prelude.{◌==◌}
use Rattle.std.proofs.lemmas.Bool.Decides.{nat_tests}
use Rattle.std.proofs.lemmas.Nat.{mod_below, pow-add}
use Rattle.spte_words.specs.Entries.{level_span}

-- the four levels
pub span_1 : level_span 1 ≡ 1
unfolding level_span
span_1 = refl

pub span_2 : level_span 2 ≡ 512
unfolding level_span
span_2 = refl

pub span_3 : level_span 3 ≡ 262144
unfolding level_span
span_3 = refl

pub span_4 : level_span 4 ≡ 134217728
unfolding level_span
span_4 = refl

pub ruleset spans = (span_1, span_2, span_3, span_4)

-- What holds of the span of each of them.
pub each_span : (P : ℕ → Type 0) → P 1 → P 512 → P 262144 → P 134217728 → (level : ℕ) → 1 ≤ level → level ≤ 4 → P (level_span level)
each_span P one two three four level from to = by (level == 1) (level == 2) (level == 3) refl refl refl
  where
    at : (n : ℕ) → level ≡ n → P (level_span n) → P (level_span level)
    at n is p = subst (λ l. P (level_span l)) (sym is) p

    by : (a b c : Bool) → (level == 1) ≡ a → (level == 2) ≡ b → (level == 3) ≡ c → P (level_span level)
    by true b c is other last = at 1 (grind (arith, nat_tests)) (subst P (sym span_1) one)
    by false true c is other last = at 2 (grind (arith, nat_tests)) (subst P (sym span_2) two)
    by false false true is other last = at 3 (grind (arith, nat_tests)) (subst P (sym span_3) three)
    by false false false is other last = at 4 (grind (arith, nat_tests)) (subst P (sym span_4) four)

one_more : (k : ℕ) → 512 ^ (k + 1) ≡ 512 * 512 ^ k
one_more k = omega (arith, pow-add 512 k 1)

-- A span is 512 of the level below.
pub span_above : (level : ℕ) → 1 ≤ level → level_span (level + 1) ≡ 512 * level_span level
unfolding level_span
span_above level from = let up : level + 1 - 1 ≡ level - 1 + 1 = omega arith in rw up (one_more (level - 1))

-- A child's place lies in the span of level 3.
pub child_within : (level i : ℕ) → 2 ≤ level → level ≤ 3 → i < 512 → i * level_span (level - 1) < 2 ^ 18
child_within level i from to small = grind (arith, spans)

-- Each span has a page.
pub span_positive : (level : ℕ) → 1 ≤ level → level ≤ 4 → 0 < level_span level
span_positive level from to = grind (arith, spans)

-- A place in a span is below the greatest span's end.
pub offset_small : (level gfn : ℕ) → 1 ≤ level → level ≤ 4 → gfn % level_span level < 134217728
offset_small level gfn from to =
    let least : 0 < level_span level = span_positive level from to in
    let most : level_span level ≤ 134217728 = grind (arith, spans) in
    omega (arith, mod_below gfn (level_span level) least, most)

-- In a span of level 1 a guest frame is the first.
pub offset_1 : (gfn : ℕ) → gfn % level_span 1 ≡ 0
unfolding level_span
offset_1 gfn = let least : gfn % 1 < 1 = mod_below gfn 1 (omega arith) in omega (arith, least)

-- What the frame of a guest frame in the span of a leaf is told by.
pub ruleset in_span = (span_positive, offset_small)
