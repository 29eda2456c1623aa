-- The numbers of a sweep are of 64 bits.
use Rattle.std.proofs.Common.{◌≡◌, ◌^◌, ◌<◌, ◌≤◌, ℕ, Bool, true, false, refl, ap, ◌∙◌, arith, subst, sym}
use Rattle.std.specs.Prelude.{◌&&◌, nat_le, if◌then◌else◌, Some, None}
use Rattle.core_views.specs.declared.topics.TableWalk.{TableWalk}
use Rattle.spte_words.specs.declared.spte_kind.SpteKind.{SpteKind}
use Rattle.spte_words.specs.declared.spte_kind.SpteKind.TheVariants as entry_kind
use Rattle.spte_words.specs.Entries.{kind_of}
use Rattle.part_steps.specs.PartHoldings.{IsOver, SawEntry}
use Rattle.part_steps.specs.PartTasks.{entry_index}
use Rattle.part_steps.specs.SweepTopics.{entry_end, entry_start, gone_up, has_entry, is_done, swept_to}
use Rattle.part_steps.specs.WalkTopics.{gone_down, linked_page, walked}
use Rattle.mmu_core.proofs.forms.access.WalkKnown.{above_lowest}
use Rattle.mmu_core.proofs.orders.SweepWalks.{saw_entry, up_levels}
use Rattle.mmu_core.proofs.orders.SweptSteps.{starts_same}

-- No number of a sweep is beyond 64 bits.
max_small : (from e : ℕ) → from < 2 ^ 64 → e < 2 ^ 64 → (if nat_le from e then e else from) < 2 ^ 64
max_small from e one other = by (nat_le from e)
  where
    by : (b : Bool) → (if b then e else from) < 2 ^ 64
    by true = other
    by false = one

small_to : (zaps : Bool) (from : ℕ) (w : TableWalk) → from < 2 ^ 64 → entry_start w < 2 ^ 64 → entry_end w < 2 ^ 64 → swept_to zaps from w < 2 ^ 64
small_to zaps from w one start end_ = by (has_entry w && is_done zaps w)
  where
    by : (b : Bool) → (if b then entry_end w else if nat_le from (entry_start w) then entry_start w else from) < 2 ^ 64
    by true = end_
    by false = max_small from (entry_start w) one start

-- Nor where it has seen the entry over a guest frame.
pub saw_small : (zaps : Bool) (from c : ℕ) (w : TableWalk) → from < 2 ^ 64 → w.level ≤ 4 → SawEntry c w → swept_to zaps from w < 2 ^ 64
saw_small zaps from c w one to S =
    let E = saw_entry c w to S in
    let low = E.from in
    let lt = E.to in
    let small = E.small in
    small_to zaps from w one (omega (arith, low, lt, small)) (omega (arith, small))

-- The numbers are of 64 bits, and the walk stands at one of the levels.
abbrev pub IsSmallWalk : Bool → ℕ → TableWalk → Type 0
IsSmallWalk zaps from w = (swept_to zaps from w < 2 ^ 64) × (1 ≤ w.level)

-- Nor behind its next step; and the walk stands at one of the levels then.
pub step_small : (zaps : Bool) (from c : ℕ) (u : TableWalk) (v : ℕ) → from < 2 ^ 64 → u.level ≤ 4 → IsOver c u
    → IsSmallWalk zaps from (walked u (entry_index c u.level) v)
step_small zaps from c u v one to O = by (kind_of u.level v) refl
  where
    stood : TableWalk
    stood = gone_down None u (entry_index c u.level) v

    saw : SawEntry c stood
    saw = record { over = record { small = O.small; there = O.there; span = O.span }; loaded = refl }

    links : (page : ℕ) → 2 ≤ u.level → IsSmallWalk zaps from (gone_down (Some page) u (entry_index c u.level) v)
    links page high =
        let E = saw_entry c stood to saw in
        let low = E.from in
        let lt = E.to in
        let small = E.small in (
          max_small from _ one (subst (λ n. n < 2 ^ 64) (sym (starts_same page c u v high to saw)) (omega (arith, low, lt, small))),
          omega (arith, high),
        )

    on : (k : SpteKind) → kind_of u.level v ≡ k → IsSmallWalk zaps from (gone_down (linked_page k) u (entry_index c u.level) v)
        → IsSmallWalk zaps from (walked u (entry_index c u.level) v)
    on k is = subst (λ (x : SpteKind). IsSmallWalk zaps from (gone_down (linked_page x) u (entry_index c u.level) v)) (sym is)

    by : (k : SpteKind) → kind_of u.level v ≡ k → IsSmallWalk zaps from (walked u (entry_index c u.level) v)
    by (entry_kind.Table page) is = on (entry_kind.Table page) is (links page (above_lowest u.level v page O.there is))
    by entry_kind.Leaf is = on entry_kind.Leaf is (saw_small zaps from c stood one to saw, O.there)
    by entry_kind.Absent is = on entry_kind.Absent is (saw_small zaps from c stood one to saw, O.there)
    by entry_kind.Frozen is = on entry_kind.Frozen is (saw_small zaps from c stood one to saw, O.there)

-- So it is after the next entry, over the guest frame to which the sweep has come; and after the change of a leaf.
pub on_small : (zaps : Bool) (from gfn v : ℕ) (at_ w : TableWalk) → from < 2 ^ 64 → at_.level ≤ 4 → 1 ≤ at_.level
    → IsOver (swept_to zaps from at_) (gone_up at_) → gfn ≡ swept_to zaps from at_ → w ≡ walked (gone_up at_) (entry_index gfn (gone_up at_).level) v
    → IsSmallWalk zaps from w
on_small zaps from gfn v at_ w one to there over same is =
    let U = up_levels at_ there to in
    subst (IsSmallWalk zaps from) (sym (is ∙ ap (λ n. walked (gone_up at_) (entry_index n (gone_up at_).level) v) same))
    (step_small zaps from (swept_to zaps from at_) (gone_up at_) v one U.low over)

pub leaf_small : (zaps : Bool) (from gfn index left : ℕ) (at_ : TableWalk) → from < 2 ^ 64 → at_.level ≤ 4 → SawEntry (swept_to zaps from at_) at_
    → gfn ≡ swept_to zaps from at_ → index ≡ entry_index gfn at_.level → swept_to zaps from (record at_ { index = index; entry = left }) < 2 ^ 64
leaf_small zaps from gfn index left at_ one to saw same at =
    saw_small zaps from (swept_to zaps from at_) (record at_ { index = index; entry = left }) one to
    (record {
      over = record { small = saw.over.small; there = saw.over.there; span = saw.over.span };
      loaded = at ∙ ap (λ n. entry_index n at_.level) same;
    })
