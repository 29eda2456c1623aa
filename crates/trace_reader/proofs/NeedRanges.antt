-- The pass over rising ranges: each range adds the tables that it range_covers from the next one on.
use Rattle.std.proofs.Common.{◌≡◌, ◌≤◌, ◌<◌, ◌+◌, ◌-◌, ◌*◌, ◌/◌, ℕ, List, [], ◌∷◌, Bool, true, false, cond, ◌&&◌, ◌||◌, nat_le, nat_lt, max, arith}
use Rattle.std.proofs.Common.{refl, length, suc, subst, drop, get_or, ◌∙◌, ap}
use Rattle.std.proofs.lemmas.Bool.Decides.{nat_tests}
use Rattle.std.proofs.Math.Nat.{div-mul-le_self, div-lt_iff_lt-mul, le-div_iff_mul-le}
use Rattle.std.specs.List.{All}
use Rattle.std.specs.Ordering.{ord_max, nat_cmp}
use Rattle.std.proofs.lemmas.List.Elements.{All-head, All-tail, All-drop, All-get_or}
use Rattle.std.proofs.lemmas.List.{drop_more, drop_all}
use Rattle.std.proofs.lemmas.List.Sorted.{IsNonDecreasingBy-drop}
use Rattle.core_views.specs.Need.{count_below}
use Rattle.trace_reader.specs.declared.pool.FrameRange.{FrameRange}
use Rattle.trace_reader.specs.Ranges.{range_covers, any_covers, IsFrameRange, AreRising, EndBy}
use Rattle.trace_reader.proofs.NeedCounts.{count-same, count-sum, count-none, count-range}

-- Some range range_covers that table, which is `next` or behind it.
abbrev pub any_later : ℕ → List FrameRange → ℕ → ℕ → Bool
any_later span ranges next index = nat_le next index && any_covers span ranges index

-- The table of the range's first frame.
abbrev pub first : ℕ → FrameRange → ℕ
first span range = range.base / span

-- The table after that of its last frame.
abbrev pub past : ℕ → FrameRange → ℕ
past span range = (range.end - 1) / span + 1

-- a table's index is from the first to the last of the range's
tests_alike : (base end span i first last : ℕ) → (first < i + 1 → base < (i + 1) * span) → (base < (i + 1) * span → first < i + 1)
    → (i ≤ last → i * span ≤ end - 1) → (i * span ≤ end - 1 → i ≤ last) → base < end
    → (nat_lt base ((i + 1) * span) && nat_lt (i * span) end) ≡ (nat_le first i && nat_lt i (last + 1))
tests_alike base end span i first last a b c d lt = grind (arith, nat_tests)

-- a range range_covers the tables from that of its first frame to that of its last
covers-range : (span i : ℕ) (range : FrameRange) → 0 < span → range.base < range.end
    → range_covers span i range ≡ (nat_le (first span range) i && nat_lt i (past span range))
covers-range span i range pos lt =
    let f = div-lt_iff_lt-mul {k = span} {x = range.base} {y = i + 1} pos in
    let l = le-div_iff_mul-le {k = span} {x = i} {y = range.end - 1} pos in
    tests_alike range.base range.end span i (first span range) ((range.end - 1) / span) f.0 f.1 l.0 l.1 lt

-- a table from `next` on is from `first` to `last`, or passes a test behind those, or neither
split_bits : (i next first last : ℕ) (t : Bool) → first < last → (t ≡ true → first ≤ i) → cond (nat_le next i && ((nat_le first i && nat_lt i last)
    || t)) 1 0 ≡ cond (nat_le (max next first) i && nat_lt i last) 1 0 + cond (nat_le (max next last) i && t) 1 0
split_bits i next first last true lt late = let h : first ≤ i = late refl in grind (arith, nat_tests)
split_bits i next first last false lt late = grind (arith, nat_tests)

-- one range of several
later_first : (base b i span : ℕ) (c d : Bool) → base ≤ b → (d ≡ true → base < (i + 1) * span) → ((nat_lt b ((i + 1) * span) && c) || d) ≡ true
    → base < (i + 1) * span
later_first base b i span c true le rest e = rest refl
later_first base b i span c false le rest e = grind (arith, nat_tests)

-- no later range range_covers a table in front of that of the first frame
none_before : (span i base : ℕ) (rest : List FrameRange) → All (λ r. base ≤ r.base) rest → any_covers span rest i ≡ true → base < (i + 1) * span
none_before span i base [] all e = absurd (cc)
none_before span i base (r ∷ rs) all e =
    later_first base r.base i span _ (any_covers span rs i) (All-head (λ (r : FrameRange). base ≤ r.base) r rs all)
    (none_before span i base rs (All-tail (λ (r : FrameRange). base ≤ r.base) r rs all)) e

-- the last table is below the bound
last_below : (n span end : ℕ) → 0 < span → 0 < end → end ≤ n * span → (end - 1) / span + 1 ≤ n
last_below n span end pos some le =
    let d = div-lt_iff_lt-mul {k = span} {x = end - 1} {y = n} pos in
    let below : end - 1 < n * span = omega arith in
    let lt : (end - 1) / span < n = d.1 below in
    omega arith

-- a range has a table
order : (base end span : ℕ) → 0 < span → base < end → base / span < (end - 1) / span + 1
order base end span pos lt =
    let at : base / span * span ≤ base = div-mul-le_self base span in
    let within : base / span * span ≤ end - 1 = omega arith in
    let l = le-div_iff_mul-le {k = span} {x = base / span} {y = end - 1} pos in
    let le : base / span ≤ (end - 1) / span = l.1 within in
    omega arith

-- the tables of later ranges come no sooner
none_sooner : (span i : ℕ) (range : FrameRange) (rest : List FrameRange) → 0 < span → All (λ r. range.base ≤ r.base) rest
    → any_covers span rest i ≡ true → first span range ≤ i
none_sooner span i range rest pos up e =
    let f = div-lt_iff_lt-mul {k = span} {x = range.base} {y = i + 1} pos in
    let below : first span range < i + 1 = f.1 (none_before span i range.base rest up e) in
    omega arith

-- a table from `next` on is the range's own, or one of later ranges behind those, or neither
bits : (i next span : ℕ) (range : FrameRange) (rest : List FrameRange) → 0 < span → range.base < range.end → All (λ r. range.base ≤ r.base) rest
    → cond (any_later span (range ∷ rest) next i) 1 0
    ≡ cond (nat_le (max next (first span range)) i && nat_lt i (past span range)) 1 0 + cond (any_later span rest (max next (past span range)) i) 1 0
bits i next span range rest pos lt up =
    ap (λ m. cond (nat_le next i && (m || any_covers span rest i)) 1 0) (covers-range span i range pos lt)
    ∙ split_bits i next (first span range) (past span range) (any_covers span rest i) (order range.base range.end span pos lt)
    (none_sooner span i range rest pos up)

-- A range and those behind it: what it range_covers from `next` on, and what they cover behind that.
one_range : (n span next : ℕ) (range : FrameRange) (rest : List FrameRange) → 0 < span → range.base < range.end → range.end ≤ n * span
    → All (λ r. range.base ≤ r.base) rest → count_below n (any_later span (range ∷ rest) next)
    ≡ (past span range - max next (first span range)) + count_below n (any_later span rest (max next (past span range)))
one_range n span next range rest pos lt le up =
    let sum =
    count-sum n (any_later span (range ∷ rest) next) (λ i. nat_le (max next (first span range)) i && nat_lt i (past span range))
    (any_later span rest (max next (past span range))) (λ i. bits i next span range rest pos lt up) in
    let own = count-range n (max next (first span range)) (past span range) (last_below n span range.end pos (omega arith) le) in
    sum ∙ ap (λ k. k + count_below n (any_later span rest (max next (past span range)))) own

-- no later range begins sooner
no_lower : (range : FrameRange) (rest : List FrameRange) → AreRising (range ∷ rest) → All (λ r. range.base ≤ r.base) rest
no_lower range rest up j d lt = up 0 (suc j) d (omega arith) (omega arith)

-- the same of a list that begins so
front : (n span next : ℕ) (range : FrameRange) (rest left : List FrameRange) → 0 < span → left ≡ range ∷ rest → All IsFrameRange left → AreRising left
    → EndBy (n * span) left → count_below n (any_later span left next)
    ≡ (past span range - max next (first span range)) + count_below n (any_later span rest (max next (past span range)))
front n span next range rest left pos e ranges up ends =
    let R : List FrameRange → Type 0 = λ l. All IsFrameRange l in
    let U : List FrameRange → Type 0 = λ l. AreRising l in
    let E : List FrameRange → Type 0 = λ l. EndBy (n * span) l in
    let is : IsFrameRange range = All-head IsFrameRange range rest (subst R e ranges) in
    ap (λ l. count_below n (any_later span l next)) e
    ∙ one_range n span next range rest pos is.0 (All-head (λ (r : FrameRange). r.end ≤ n * span) range rest (subst E e ends))
    (no_lower range rest (subst U e up))

-- the same of the ranges from k on
step : (n span next k : ℕ) (d : FrameRange) (ranges : List FrameRange) → 0 < span → k < length ranges → All IsFrameRange ranges → AreRising ranges
    → EndBy (n * span) ranges
    → count_below n (any_later span (drop k ranges) next) ≡ (past span (get_or ranges k d) - max next (first span (get_or ranges k d)))
    + count_below n (any_later span (drop (k + 1) ranges) (max next (past span (get_or ranges k d))))
step n span next k d ranges pos lt all up ends =
    front n span next (get_or ranges k d) (drop (k + 1) ranges) (drop k ranges) pos (drop_more ranges k d lt) (All-drop IsFrameRange k ranges all)
    (IsNonDecreasingBy-drop (λ (r : FrameRange). r.base) k ranges up) (All-drop (λ (r : FrameRange). r.end ≤ n * span) k ranges ends)

-- The step of the pass, where range k range_covers a new table.
pub taken : (n span k : ℕ) (d : FrameRange) (ranges : List FrameRange) (count next from count' next' all : ℕ) → 0 < span → k < length ranges
    → All IsFrameRange ranges → AreRising ranges → EndBy (n * span) ranges → from ≡ max next (first span (get_or ranges k d))
    → from < past span (get_or ranges k d) → count' ≡ count + (past span (get_or ranges k d) - from) → next' ≡ past span (get_or ranges k d)
    → count + count_below n (any_later span (drop k ranges) next) ≡ all → count' + count_below n (any_later span (drop (k + 1) ranges) next') ≡ all
taken n span k d ranges count next from count' next' all pos lt is up ends f new c e so_far =
    let m : max next (past span (get_or ranges k d)) ≡ next' = omega arith in
    let s =
    step n span next k d ranges pos lt is up ends
    ∙ ap (λ x. (past span (get_or ranges k d) - max next (first span (get_or ranges k d))) + count_below n (any_later span (drop (k + 1) ranges) x)) m in
    omega (arith, s)

-- The step of the pass, where it range_covers none.
pub passed : (n span k : ℕ) (d : FrameRange) (ranges : List FrameRange) (count next from count' next' all : ℕ) → 0 < span → k < length ranges
    → All IsFrameRange ranges → AreRising ranges → EndBy (n * span) ranges → from ≡ max next (first span (get_or ranges k d))
    → past span (get_or ranges k d) ≤ from → count' ≡ count → next' ≡ next
    → count + count_below n (any_later span (drop k ranges) next) ≡ all → count' + count_below n (any_later span (drop (k + 1) ranges) next') ≡ all
passed n span k d ranges count next from count' next' all pos lt is up ends f old c e so_far =
    let r : IsFrameRange (get_or ranges k d) = All-get_or IsFrameRange ranges k d lt is in
    let o = order (get_or ranges k d).base (get_or ranges k d).end span pos r.0 in
    let m : max next (past span (get_or ranges k d)) ≡ next' = omega arith in
    let s =
    step n span next k d ranges pos lt is up ends
    ∙ ap (λ x. (past span (get_or ranges k d) - max next (first span (get_or ranges k d))) + count_below n (any_later span (drop (k + 1) ranges) x)) m in
    omega (arith, s)

-- two tests, one of which never passes
never : (b : Bool) → (b && false) ≡ false
never true = refl
never false = refl

-- The end of the pass.
pub finish : (n span next k : ℕ) (ranges : List FrameRange) → length ranges ≤ k → count_below n (any_later span (drop k ranges) next) ≡ 0
finish n span next k ranges le =
    ap (λ l. count_below n (any_later span l next)) (drop_all k ranges le)
    ∙ count-same n _ _ (λ i. never (nat_le next i))
    ∙ count-none n

-- The `max` of numbers is the larger.
pub larger : (a b : ℕ) → ord_max nat_cmp a b ≡ max a b
larger a b = grind (arith, nat_tests)
