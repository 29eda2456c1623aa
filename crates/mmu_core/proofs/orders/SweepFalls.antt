-- Each step of a sweep leaves fewer steps.
use Rattle.std.proofs.lemmas.Bool.Decides.{nat_tests}
use Rattle.std.proofs.Common.{◌≡◌, ◌+◌, ◌-◌, ◌*◌, ◌^◌, ◌<◌, ◌≤◌, ℕ, Bool, true, false, refl, ap, arith}
use Rattle.std.specs.Prelude.{◌&&◌, not, nat_le, if◌then◌else◌, None}
use Rattle.core_views.specs.declared.place.FrameRange.{FrameRange}
use Rattle.core_views.specs.declared.topics.TableWalk.{TableWalk}
use Rattle.spte_words.specs.Entries.{can_write, kind_of}
use Rattle.part_steps.specs.ControlTopics.{at_root}
use Rattle.part_steps.specs.PartTasks.{entry_index}
use Rattle.part_steps.specs.SweepTopics.{gone_up, has_done, has_entry, is_done, swept_to}
use Rattle.part_steps.specs.WalkTopics.{gone_down}
use Rattle.mmu_core.specs.declared.sweep.SweepNext.TheVariants.{Over, Leaf, Entry}
use Rattle.mmu_core.specs.orders.SweepKnows.{IsAtEntry, IsAtLeaf}
use Rattle.mmu_core.specs.orders.SweepSteps.{leaf_left, left_after, sweep_left, sweep_next, swept_on}
use Rattle.mmu_core.proofs.lines.EitherPlace.{one_place}
use Rattle.mmu_core.proofs.orders.SweepKnown.{root_first}
use Rattle.mmu_core.proofs.orders.SweepWalks.{saw_entry, stays_without, up_levels}
use Rattle.mmu_core.proofs.orders.SweptSteps.{GoesPast, SweptStep, swept_leaf, swept_step}
use Rattle.mmu_core.proofs.orders.SweptSteps as step

-- What is left where the sweep goes on is less than a number, where it is so wherever it may go on.
next_falls : (zaps : Bool) (range : FrameRange) (w : TableWalk) (bound : ℕ) → 0 < bound
    → (swept_to zaps range.start w < range.end → leaf_left zaps range w < bound)
    → (swept_to zaps range.start w < range.end → (has_entry w && not (is_done zaps w)) ≡ false → sweep_left zaps range w < bound)
    → left_after (sweep_next zaps range w) zaps range w < bound
next_falls zaps range w bound some leaves walks =
    one_place (λ q. left_after q zaps range w < bound) (nat_le range.end come) Over (if has_entry w && not (is_done zaps w) then Leaf else Entry)
    (λ e. some)
    (λ e.
    one_place (λ q. left_after q zaps range w < bound) (has_entry w && not (is_done zaps w)) Leaf Entry (λ is. leaves (less e)) (λ is. walks (less e) is))
  where
    come : ℕ
    come = swept_to zaps range.start w

    less : nat_le range.end come ≡ false → come < range.end
    less e = grind (arith, nat_tests)

-- ---- what a sweep has left

left_with : (zaps : Bool) (range : FrameRange) (w : TableWalk) → has_entry w ≡ true → sweep_left zaps range w ≡ 5 * (range.end - swept_to zaps range.start w)
left_with zaps range w has =
    let n : ℕ = 5 * (range.end - swept_to zaps range.start w) in ap (λ (b : Bool). if b then n else n + w.level - 4) has

left_without : (zaps : Bool) (range : FrameRange) (w : TableWalk) → has_entry w ≡ false
    → sweep_left zaps range w ≡ 5 * (range.end - swept_to zaps range.start w) + w.level - 4
left_without zaps range w has =
    let n : ℕ = 5 * (range.end - swept_to zaps range.start w) in ap (λ (b : Bool). if b then n else n + w.level - 4) has

-- At least as many as the change of a leaf, and one more.
left_some : (zaps : Bool) (range : FrameRange) (w : TableWalk) → 1 ≤ w.level → 5 * (range.end - swept_to zaps range.start w) ≤ sweep_left zaps range w + 3
left_some zaps range w from = by (has_entry w) refl
  where
    by : (b : Bool) → has_entry w ≡ b → 5 * (range.end - swept_to zaps range.start w) ≤ sweep_left zaps range w + 3
    by true has = let is = left_with zaps range w has in omega (arith, is)
    by false has = let is = left_without zaps range w has in omega (arith, is, from)

-- More than in a table one below the one from which the walk goes on.
left_above : (zaps : Bool) (range : FrameRange) (w : TableWalk) (level : ℕ) → 1 ≤ w.level → w.level ≤ 4 → 1 ≤ level → level + 1 ≡ (gone_up w).level
    → swept_to zaps range.start w < range.end → 5 * (range.end - swept_to zaps range.start w) + level - 4 < sweep_left zaps range w
left_above zaps range w level from to some below left = by (has_entry w) refl
  where
    by : (b : Bool) → has_entry w ≡ b → 5 * (range.end - swept_to zaps range.start w) + level - 4 < sweep_left zaps range w
    by true has =
        let is = left_with zaps range w has in
        let most = (up_levels w from to).low in
        omega (arith, is, most, below, left)
    by false has =
        let is = left_without zaps range w has in
        let same = ap (λ (x : TableWalk). x.level) (stays_without w has) in
        omega (arith, is, same, below, left)

-- ---- the steps

-- Past an entry it has fewer left than for the guest frame over which it was.
past_falls : (zaps : Bool) (range : FrameRange) {u : TableWalk} (c : ℕ) (w : TableWalk) (bound : ℕ) → w.level ≤ 4 → c < range.end
    → 5 * (range.end - c) - 4 ≤ bound → GoesPast zaps range c u w → left_after (sweep_next zaps range w) zaps range w < bound
past_falls zaps range c w bound to left few P =
    let more = P.more in
    let is = left_with zaps range w (saw_entry c w to P.saw).has in
    next_falls zaps range w bound (omega (arith, left, few)) (λ less. omega (arith, more, less, few)) (λ less other. omega (arith, more, less, few, is))

-- the next entry
pub sweep_falls : (zaps : Bool) (range : FrameRange) (at_ : TableWalk) (v : ℕ) → range.end ≤ 2 ^ 36 → IsAtEntry zaps range at_
    → left_after (sweep_next zaps range (swept_on (swept_to zaps range.start at_) at_ v)) zaps range (swept_on (swept_to zaps range.start at_) at_ v)
    < sweep_left zaps range at_
sweep_falls zaps range at_ v most K = by (swept_step zaps range at_ v most K.on left)
  where
    c : ℕ
    c = swept_to zaps range.start at_

    left : c < range.end
    left = K.left

    some : 5 * (range.end - c) ≤ sweep_left zaps range at_ + 3
    some = left_some zaps range at_ K.on.there

    -- The change of a leaf over the same guest frame is less.
    leaves : (come : ℕ) → come ≡ c → 5 * (range.end - come) - 4 < sweep_left zaps range at_
    leaves come same = omega (arith, same, some, left)

    by : {w : TableWalk} → SweptStep zaps range c (gone_up at_) v w → left_after (sweep_next zaps range w) zaps range w < sweep_left zaps range at_
    by {w} (step.Down page is D) =
        let less = left_above zaps range at_ w.level K.on.there K.on.low D.on.there D.below left in
        let at = left_without zaps range w D.none in
        let still = D.still in
        next_falls zaps range w (sweep_left zaps range at_) (omega (arith, some, left)) (λ lt. leaves (swept_to zaps range.start w) still)
        (λ lt other. omega (arith, less, at, still))
    by {w} (step.Found is more F) =
        next_falls zaps range w (sweep_left zaps range at_) (omega (arith, some, left)) (λ lt. leaves (swept_to zaps range.start w) F.still)
        (λ lt other. absurd (let leads : (has_entry w && not (is_done zaps w)) ≡ true = F.leads in cc (leads, other)))
    by {w} (step.Past is P) = past_falls zaps range c w (sweep_left zaps range at_) P.on.low left (omega (arith, some, left)) P

-- the change of a leaf
pub leaf_falls : (zaps : Bool) (range : FrameRange) (w : TableWalk) (left : ℕ) → range.end ≤ 2 ^ 36 → w.level ≤ 4 → IsAtLeaf zaps range w
    → has_done zaps (can_write left) (kind_of w.level left) ≡ true
    → left_after (sweep_next zaps range (gone_down None w (entry_index (swept_to zaps range.start w) w.level) left)) zaps range
    (gone_down None w (entry_index (swept_to zaps range.start w) w.level) left)
    < leaf_left zaps range w
leaf_falls zaps range w left most to K done =
    let c : ℕ = swept_to zaps range.start w in
    past_falls zaps range c _ (leaf_left zaps range w) to K.left (omega arith) (swept_leaf zaps range c left w most to K.from K.saw done)

-- the root
pub root_falls : (zaps : Bool) (range : FrameRange) (v : ℕ) (walk : TableWalk)
    → sweep_left zaps range (at_root true walk v) < 5 * (range.end - range.start) + 1
root_falls zaps range v walk =
    let first = root_first zaps range.start v walk in
    let at = left_without zaps range (at_root true walk v) refl in
    omega (arith, first, at)
