-- What is known after each step of a sweep, from its walk alone.
use Rattle.std.proofs.lemmas.Bool.Decides.{nat_tests}
use Rattle.std.proofs.Common.{◌≡◌, inl, ◌+◌, ◌*◌, ◌^◌, ◌<◌, ◌≤◌, ℕ, Bool, true, false, refl, ap, ◌∙◌, arith, subst, sym}
use Rattle.std.specs.Prelude.{◌==◌, ◌&&◌, ◌||◌, not, nat_le, if◌then◌else◌, None}
use Rattle.core_views.specs.declared.place.FrameRange.{FrameRange}
use Rattle.core_views.specs.declared.topics.TableWalk.{TableWalk}
use Rattle.spte_words.specs.Entries.{can_write, kind_of, level_span}
use Rattle.spte_words.proofs.Spans.{span_4}
use Rattle.part_steps.specs.ControlTopics.{at_root}
use Rattle.part_steps.specs.PartHoldings.{IsOver, SawEntry}
use Rattle.part_steps.specs.PartTasks.{entry_index}
use Rattle.part_steps.specs.SweepTopics.{gone_up, has_done, has_entry, is_clear, is_done, swept_to}
use Rattle.part_steps.specs.WalkTopics.{gone_down}
use Rattle.mmu_core.specs.declared.sweep.SweepNext.TheVariants.{Over, Leaf, Entry}
use Rattle.mmu_core.specs.orders.SweepKnows.{IsAtEntry, IsAtLeaf, SweepKnows, SweepsOn}
use Rattle.mmu_core.specs.orders.SweepSteps.{sweep_next, swept_on}
use Rattle.mmu_core.proofs.lines.EitherPlace.{one_place}
use Rattle.mmu_core.proofs.forms.access.WalkKnown.{root_over}
use Rattle.mmu_core.proofs.orders.SweepWalks.{stays_without}
use Rattle.mmu_core.proofs.orders.SweptSteps.{GoesPast, SweptStep, begins_at, swept_leaf, swept_step}
use Rattle.mmu_core.proofs.orders.SweptSteps as step

-- ---- where the sweep goes on

clear_if : (has done : Bool) → (has && not done) ≡ false → (not has || done) ≡ true
clear_if false done is = refl
clear_if true true is = refl
clear_if true false is = absurd (cc is)

-- What is known where the sweep goes on, with this walk.
goes_on_known : (zaps : Bool) (range : FrameRange) (w : TableWalk) → 1 ≤ w.level
    → ((has_entry w && not (is_done zaps w)) ≡ true → swept_to zaps range.start w < range.end → IsAtLeaf zaps range w)
    → ((has_entry w && not (is_done zaps w)) ≡ false → SweepsOn zaps range w)
    → (nat_le range.end (swept_to zaps range.start w) ≡ true → is_clear zaps w ≡ true)
    → SweepKnows (sweep_next zaps range w) zaps range w
goes_on_known zaps range w there leaf on over =
    one_place (λ q. SweepKnows q zaps range w) (nat_le range.end come) Over (if has_entry w && not (is_done zaps w) then Leaf else Entry)
    (λ e. record { there = there; all = grind (arith, nat_tests); clear = over e })
    (λ e.
    one_place (λ q. SweepKnows q zaps range w) (has_entry w && not (is_done zaps w)) Leaf Entry (λ is. leaf is (less e))
    (λ is. record { on = on is; clear = clear_if (has_entry w) (is_done zaps w) is; left = less e }))
  where
    come : ℕ
    come = swept_to zaps range.start w

    less : nat_le range.end come ≡ false → come < range.end
    less e = grind (arith, nat_tests)

none_leads : (has done : Bool) → done ≡ true → (has && not done) ≡ false
none_leads true done is = ap not is
none_leads false done is = refl

done_clear : (has done : Bool) → done ≡ true → (not has || done) ≡ true
done_clear true done is = is
done_clear false done is = refl

past_known : (zaps : Bool) (range : FrameRange) {c : ℕ} {u : TableWalk} (w : TableWalk) → GoesPast zaps range c u w
    → SweepKnows (sweep_next zaps range w) zaps range w
past_known zaps range w P =
    goes_on_known zaps range w P.on.there
    (λ is left. absurd (let other = none_leads (has_entry w) (is_done zaps w) P.done in cc (is, other)))
    (λ is. P.on)
    (λ e. done_clear (has_entry w) (is_done zaps w) P.done)

-- After the next entry.
pub sweep_known : (zaps : Bool) (range : FrameRange) (w : TableWalk) (v : ℕ) → range.end ≤ 2 ^ 36 → IsAtEntry zaps range w
    → SweepKnows (sweep_next zaps range (swept_on (swept_to zaps range.start w) w v)) zaps range (swept_on (swept_to zaps range.start w) w v)
sweep_known zaps range at_ v most K = by (swept_step zaps range at_ v most K.on K.left)
  where
    c : ℕ
    c = swept_to zaps range.start at_

    before_end : (w : TableWalk) → nat_le range.end (swept_to zaps range.start w) ≡ true → swept_to zaps range.start w ≡ c → ⊥
    before_end w e still =
        let over : range.end ≤ swept_to zaps range.start w = grind (arith, nat_tests) in
        let left : c < range.end = K.left in
        omega (arith, over, still, left)

    by : {w : TableWalk} → SweptStep zaps range c (gone_up at_) v w → SweepKnows (sweep_next zaps range w) zaps range w
    by {w} (step.Down page is D) =
        goes_on_known zaps range w D.on.there
        (λ e left. absurd (let none : (has_entry w && not (is_done zaps w)) ≡ false = ap (λ (b : Bool). b && not (is_done zaps w)) D.none in cc (e, none)))
        (λ e. D.on)
        (λ e. ap (λ (b : Bool). not b || is_done zaps w) D.none)
    by {w} (step.Found is some F) =
        goes_on_known zaps range w F.saw.over.there
        (λ e left. record {
          from = subst (λ n. range.start ≤ n) (sym F.still) K.on.from;
          left = left;
          saw = subst (λ n. SawEntry n w) (sym F.still) F.saw;
          leaf = F.leaf;
          to_do = F.to_do;
        })
        (λ e. absurd (let leads : (has_entry w && not (is_done zaps w)) ≡ true = F.leads in cc (e, leads)))
        (λ e. absurd (before_end w e F.still))
    by {w} (step.Past is P) = past_known zaps range w P

-- After the change of a leaf, at which nothing is left to do.
pub leaf_known : (zaps : Bool) (range : FrameRange) (w : TableWalk) (left : ℕ) → range.end ≤ 2 ^ 36 → w.level ≤ 4 → IsAtLeaf zaps range w
    → has_done zaps (can_write left) (kind_of w.level left) ≡ true
    → SweepKnows (sweep_next zaps range (gone_down None w (entry_index (swept_to zaps range.start w) w.level) left)) zaps range
    (gone_down None w (entry_index (swept_to zaps range.start w) w.level) left)
leaf_known zaps range w left most to K done =
    past_known zaps range _ (swept_leaf zaps range (swept_to zaps range.start w) left w most to K.from K.saw done)

-- ---- the root

-- At the root the sweep begins with the first guest frame of all.
pub root_first : (zaps : Bool) (from v : ℕ) (walk : TableWalk) → swept_to zaps from (at_root true walk v) ≡ from
root_first zaps from v walk =
    let begins : (0 * 512 + 0) * level_span 4 ≡ 0 = rw span_4 refl in
    ap (λ e. if nat_le from e then e else from) begins ∙ begins_at from from 0 (omega arith) (omega arith) (inl refl)

pub root_known : (zaps : Bool) (range : FrameRange) (v : ℕ) (walk : TableWalk) → range.start < range.end → range.end ≤ 2 ^ 36
    → IsAtEntry zaps range (at_root true walk v)
root_known zaps range v walk some most = record {
  on = record {
    there = omega arith;
    low = omega arith;
    from = omega (arith, first);
    even = first_is (swept_to zaps range.start w == range.start) _ (same first);
    over = λ left. subst (IsOver (swept_to zaps range.start w)) (sym (stays_without w refl))
        (subst (λ n. IsOver n w) (sym first) (root_over range.start v walk (omega (arith, some, most))));
  };
  clear = refl;
  left = omega (arith, first, some);
}
  where
    w : TableWalk
    w = at_root true walk v

    first : swept_to zaps range.start w ≡ range.start
    first = root_first zaps range.start v walk

    same : {m n : ℕ} → m ≡ n → (m == n) ≡ true
    same e = grind (arith, nat_tests)

    first_is : (a b : Bool) → a ≡ true → (a || b) ≡ true
    first_is true b is = refl
    first_is false b is = absurd (cc is)
