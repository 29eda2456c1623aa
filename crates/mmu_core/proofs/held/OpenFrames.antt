-- Each step of a part keeps that the range of open invalidations has the guest frames of each, which lie below 2 ^ 36.
use Rattle.std.proofs.Common.{◌≡◌, ◌≢◌, ◌⊎◌, inl, inr, ◌+◌, ◌-◌, ◌<◌, ◌≤◌, ◌^◌, ℕ, refl, ap, arith}
use Rattle.std.specs.Prelude.{Bool, true, false, ◌==◌, ◌&&◌, ◌||◌, nat_le, nat_lt, not, if◌then◌else◌}
use Rattle.std.proofs.lemmas.Bool.Decides.{nat_tests}
use Rattle.core_views.specs.declared.sizes.Sizes.{Sizes}
use Rattle.core_views.specs.declared.topics.Checked.{Checked}
use Rattle.core_views.specs.declared.topics.Checked.TheVariants as checked
use Rattle.core_views.specs.declared.topics.Invalidations.{Invalidations}
use Rattle.core_views.specs.declared.topics.Topics.{Topics}
use Rattle.core_views.specs.Held.{Held}
use Rattle.core_views.specs.Sizes.{actors_of}
use Rattle.spte_words.specs.declared.area.Area.TheVariants as area
use Rattle.part_steps.specs.declared.part_step.PartStep.{PartStep}
use Rattle.part_steps.specs.declared.part_step.PartStep.TheVariants as part
use Rattle.part_steps.specs.InvalidationHoldings.{IsOpening, MayOpen, has_counted, has_widened, knows_count}
use Rattle.part_steps.specs.declared.invalidations.Target.{Target}
use Rattle.part_steps.specs.InvalidationRange.{end_with, range_end, range_start, start_with, target_end, target_start}
use Rattle.part_steps.specs.StayTopics.{has_lock}
use Rattle.mmu_core.specs.invariant.InvalidatedPart.{IsIn, RangePart}
use Rattle.mmu_core.specs.invariant.InvalidationsPart.{CountPart, knows_end, knows_start}
use Rattle.mmu_core.specs.invariant.TopicsInvariant.{TopicsInvariant}
use Rattle.mmu_core.specs.machine.Sums.{one_if}
use Rattle.mmu_core.specs.machine.View.{View, part_stepped, upd}
use Rattle.mmu_core.proofs.machine.Columns.{at_upd}
use Rattle.mmu_core.proofs.machine.PartStepping.{IsPart}
use Rattle.mmu_core.proofs.machine.SumsBelow.{sum_ge, sum_two}
use Rattle.mmu_core.proofs.words.PartTopics.{behind_step, part_behind}

-- Where the count is 0 none is open.
pub none_opened : (n count : ℕ) (opened : ℕ → Bool) (i : ℕ) → i < n → CountPart n count opened → count ≡ 0 → opened i ≡ true → ⊥
none_opened n count opened i lt C none is =
    let one : one_if (opened i) ≡ 1 = ap one_if is in
    let more = sum_ge n (λ j. one_if (opened j)) i lt in
    omega (arith, C, none, one, more)

-- Where the count is that of an actor's own, no other has one open.
pub others_closed : (n count : ℕ) (opened : ℕ → Bool) (a i : ℕ) → a < n → i < n → i ≢ a → CountPart n count opened → count ≡ one_if (opened a)
    → opened i ≡ true → ⊥
others_closed n count opened a i there lt ne C own is =
    let one : one_if (opened i) ≡ 1 = ap one_if is in
    let both = sum_two n (λ j. one_if (opened j)) i a lt there ne in
    omega (arith, C, own, one, both)

-- ---- the range

abbrev RangesAt : Sizes → View → Type 0
RangesAt z v = RangePart (actors_of z) (v.words area.RangeStart 0) (v.words area.RangeEnd 0) (λ i. (v.hand i).topics)

abbrev RangesBehind : Sizes → View → ℕ → ℕ → PartStep → Type 0
RangesBehind z v a note step = IsPart z v a step → TopicsInvariant z v → RangesAt z (part_behind a step note v)

-- The hand of one actor is another one; the range may be another one, too, that has what it had.
moved_ranges : (n start end_ low high : ℕ) (hand : ℕ → Held) (a : ℕ) (h : Held) → RangePart n start end_ (λ i. (hand i).topics)
    → ((i gfn : ℕ) → i < n → (hand i).topics.invalidations.opened ≡ true → (start ≤ gfn) × (gfn < end_) × (gfn < 2 ^ 36)
    → (low ≤ gfn) × (gfn < high) × (gfn < 2 ^ 36))
    → ((gfn : ℕ) → a < n → h.topics.invalidations.opened ≡ true → IsIn h.topics.invalidations.own gfn
    → (low ≤ gfn) × (gfn < high) × (gfn < 2 ^ 36))
    → RangePart n low high (λ i. (upd hand a h i).topics)
moved_ranges n start end_ low high hand a h R wider own i gfn =
    at_upd (λ j (k : Held). j < n → k.topics.invalidations.opened ≡ true → IsIn k.topics.invalidations.own gfn
    → (low ≤ gfn) × (gfn < high) × (gfn < 2 ^ 36)) hand a h (own gfn)
    (λ j ne lt is there. wider j gfn lt is (R j gfn lt is there)) i

-- What the range is widened to starts no higher, and ends no lower, where some are open.
counts_some : (count : ℕ) → 0 < count → (count == 0) ≡ false
counts_some count some = grind (arith, nat_tests)

start_lower : (first last : ℕ) (n : Invalidations) → 0 < n.count → start_with first last n ≤ n.start
start_lower first last n some = by (n.count == 0) (counts_some n.count some) (nat_lt first last) (nat_le n.start first) refl
  where
    by : (none : Bool) → none ≡ false → (any least : Bool) → nat_le n.start first ≡ least
        → (if any then (if none then first else if least then n.start else first) else if none then 0 else n.start) ≤ n.start
    by true never any least is = absurd (cc never)
    by false never true true is = omega arith
    by false never true false is = let lt : first < n.start = grind (arith, nat_tests) in omega (arith, lt)
    by false never false least is = omega arith

end_higher : (first last : ℕ) (n : Invalidations) → 0 < n.count → n.end ≤ end_with first last n
end_higher first last n some = by (n.count == 0) (counts_some n.count some) (nat_lt first last) (nat_le n.end last) refl
  where
    by : (none : Bool) → none ≡ false → (any most : Bool) → nat_le n.end last ≡ most
        → n.end ≤ (if any then (if none then last else if most then last else n.end) else if none then 0 else n.end)
    by true never any most is = absurd (cc never)
    by false never true true is = grind (arith, nat_tests)
    by false never true false is = omega arith
    by false never false most is = omega arith

-- Where some are open the range was loaded before it is stored.
range_known : (c : Checked) (count : ℕ) → 0 < count → has_counted c count ≡ true ⊎ has_widened c count ≡ true → c ≡ checked.Range
range_known checked.Range count some either = refl
range_known checked.Count count some (inl is) = let none : count ≡ 0 = grind (arith, nat_tests) in absurd (omega (arith, none, some))
range_known checked.Start count some (inr is) = let none : count ≡ 0 = grind (arith, nat_tests) in absurd (omega (arith, none, some))
range_known checked.Count count some (inr is) = absurd (cc is)
range_known checked.Start count some (inl is) = absurd (cc is)
range_known _ count some (inl is) = absurd (cc is)
range_known _ count some (inr is) = absurd (cc is)

counted_count : (c : Checked) (count : ℕ) → has_counted c count ≡ true ⊎ has_widened c count ≡ true → knows_count c ≡ true
counted_count checked.Range count either = refl
counted_count checked.Count count either = refl
counted_count checked.Start count either = refl
counted_count checked.All count either = refl
counted_count _ count (inl is) = absurd (cc is)
counted_count _ count (inr is) = absurd (cc is)

module _ (z : Sizes) (v : View) (a : ℕ) (I : TopicsInvariant z v) (there : a < actors_of z) where
  abbrev t : Topics
  t = (v.hand a).topics

  -- Where an invalidation is open the actor has counted some.
  some_open : {target : Target} → IsOpening target t
      → has_counted t.invalidations.checked t.invalidations.count ≡ true ⊎ has_widened t.invalidations.checked t.invalidations.count ≡ true
      → (i : ℕ) → i < actors_of z → (v.hand i).topics.invalidations.opened ≡ true → 0 < t.invalidations.count
  some_open O known i lt is =
      let same : t.invalidations.count ≡ v.words area.Count 0 =
      (I.checks a there).counted (ap has_lock O.alone) (counted_count t.invalidations.checked t.invalidations.count known) in
      let one : one_if (v.hand i).topics.invalidations.opened ≡ 1 = ap one_if is in
      let more = sum_ge (actors_of z) (λ j. one_if (v.hand j).topics.invalidations.opened) i lt in
      let all = I.counts in
      omega (arith, same, one, more, all)

  starts_for : (target : Target) (gfn : ℕ) → IsOpening target t → has_counted t.invalidations.checked t.invalidations.count ≡ true → gfn ≡ range_start target t
      → (i : ℕ) → i < actors_of z → (v.hand i).topics.invalidations.opened ≡ true → gfn ≤ v.words area.RangeStart 0
  starts_for target gfn O known is i lt opened =
      let some = some_open O (inl known) i lt opened in
      let range = range_known t.invalidations.checked t.invalidations.count some (inl known) in
      let same = (I.checks a there).started (ap has_lock O.alone) (ap knows_start range) in
      let low = start_lower (target_start target t.search t.row) (target_end target t.search t.row) t.invalidations some in
      omega (arith, is, same, low)

  ends_for : (target : Target) (gfn : ℕ) → IsOpening target t → has_widened t.invalidations.checked t.invalidations.count ≡ true → gfn ≡ range_end target t
      → (i : ℕ) → i < actors_of z → (v.hand i).topics.invalidations.opened ≡ true → v.words area.RangeEnd 0 ≤ gfn
  ends_for target gfn O known is i lt opened =
      let some = some_open O (inr known) i lt opened in
      let range = range_known t.invalidations.checked t.invalidations.count some (inr known) in
      let same = (I.checks a there).ended (ap has_lock O.alone) (ap knows_end range) in
      let high = end_higher (target_start target t.search t.row) (target_end target t.search t.row) t.invalidations some in
      omega (arith, is, same, high)

  -- The frames of who opens one are in the range that it has stored.
  opens_within : MayOpen t → (gfn : ℕ) → IsIn t.invalidations.own gfn
      → (v.words area.RangeStart 0 ≤ gfn) × (gfn < v.words area.RangeEnd 0) × (gfn < 2 ^ 36)
  opens_within M gfn within =
      let start = (I.checks a there).started (ap has_lock M.opening.alone) (ap knows_start M.known) in
      let end_ = (I.checks a there).ended (ap has_lock M.opening.alone) (ap knows_end M.known) in
      let low = within.0 in
      let high = within.1 in
      let W = M.within in
      let lt : nat_lt t.invalidations.own.start t.invalidations.own.end ≡ true = grind (arith, nat_tests) in
      let both =
      implied (nat_lt t.invalidations.own.start t.invalidations.own.end) (nat_le t.invalidations.start t.invalidations.own.start)
      (nat_le t.invalidations.own.end t.invalidations.end) lt W in
      let first : t.invalidations.start ≤ t.invalidations.own.start = let e = both.0 in grind (arith, nat_tests) in
      let last : t.invalidations.own.end ≤ t.invalidations.end = let e = both.1 in grind (arith, nat_tests) in
      let small = M.low in
      (omega (arith, first, low, start), omega (arith, last, high, end_), omega (arith, high, small))
    where
      implied : (x y w : Bool) → x ≡ true → (not x || (y && w)) ≡ true → (y ≡ true) × (w ≡ true)
      implied true true w is all = (refl, all)
      implied true false w is all = absurd (cc all)
      implied false y w is all = absurd (cc is)

  -- What is stored as the count: more, and then one is opened, or less.
  pub opened_by : (opened : Bool) (count : ℕ) → t.invalidations.opened ≡ opened
      → count ≡ (if opened then t.invalidations.count - 1 else t.invalidations.count + 1)
      → nat_lt t.invalidations.count count ≡ true → t.invalidations.opened ≡ false
  opened_by false count is counted more = is
  opened_by true count is counted more = absurd (let less : nat_lt t.invalidations.count count ≡ false = grind (arith, nat_tests) in cc (more, less))

ranges_behind : (z : Sizes) (v : View) (a note : ℕ) (step : PartStep) → RangesBehind z v a note step
ranges_behind z v a note (part.SetStart first gfn) S I =
    let M = S.needs.0 in
    moved_ranges (actors_of z) (v.words area.RangeStart 0) (v.words area.RangeEnd 0) gfn (v.words area.RangeEnd 0) v.hand a _ I.ranges
    (λ i g lt is R. let low = starts_for z v a I S.there M.target gfn M.opening M.counted M.is i lt is in (omega (arith, low, R.0), R.1, R.2))
    (λ g lt is within. absurd (let closed = M.opening.closed in cc (is, closed)))
ranges_behind z v a note (part.SetEnd last gfn) S I =
    let M = S.needs.0 in
    moved_ranges (actors_of z) (v.words area.RangeStart 0) (v.words area.RangeEnd 0) (v.words area.RangeStart 0) gfn v.hand a _ I.ranges
    (λ i g lt is R. let high = ends_for z v a I S.there M.target gfn M.opening M.widened M.is i lt is in (R.0, omega (arith, high, R.1), R.2))
    (λ g lt is within. absurd (let closed = M.opening.closed in cc (is, closed)))
ranges_behind z v a note (part.SetCount count) S I =
    moved_ranges (actors_of z) (v.words area.RangeStart 0) (v.words area.RangeEnd 0) (v.words area.RangeStart 0) (v.words area.RangeEnd 0) v.hand a _ I.ranges
    (λ i g lt is R. R)
    (λ g lt more within. opens_within z v a I S.there
    (S.needs.0.opens (opened_by z v a I S.there (v.hand a).topics.invalidations.opened count refl S.needs.0.is more)) g within)
ranges_behind z v a note _ S I =
    moved_ranges (actors_of z) (v.words area.RangeStart 0) (v.words area.RangeEnd 0) (v.words area.RangeStart 0) (v.words area.RangeEnd 0) v.hand a _ I.ranges
    (λ i g lt is R. R) (λ g lt is within. I.ranges a g lt is within)

pub ranges_kept : (z : Sizes) (v : View) (a : ℕ) (step : PartStep) (note : ℕ) → IsPart z v a step → TopicsInvariant z v
    → RangesAt z (part_stepped a step note v)
ranges_kept z v a step note S I = behind_step (RangesAt z) z v a step note S (ranges_behind z v a note step S I)
