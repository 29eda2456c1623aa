-- What the begin of an invalidation knows after each step of its sweep, and how many steps it has left.
use Rattle.std.proofs.lemmas.Bool.Decides.{nat_tests}
use Rattle.std.proofs.Common.{◌≡◌, ◌+◌, ◌-◌, ◌*◌, ◌^◌, ◌<◌, ◌≤◌, ℕ, Bool, true, false, refl, ap, ◌∙◌, arith, subst, sym}
use Rattle.std.specs.Prelude.{nat_lt, if◌then◌else◌}
use Rattle.core_views.specs.declared.place.BeginPlace.TheVariants as begins
use Rattle.core_views.specs.declared.sizes.Sizes.{Sizes}
use Rattle.core_views.specs.declared.topics.Flush.{Flush}
use Rattle.core_views.specs.declared.topics.Invalidated.{Invalidated}
use Rattle.core_views.specs.declared.topics.Invalidations.{Invalidations}
use Rattle.core_views.specs.declared.topics.TableWalk.{TableWalk}
use Rattle.core_views.specs.declared.topics.Topics.{Topics}
use Rattle.core_views.specs.Sizes.{AreSizes}
use Rattle.part_steps.specs.declared.invalidations.Target.{Target}
use Rattle.part_steps.specs.declared.invalidations.Target.TheVariants as aim
use Rattle.part_steps.specs.ControlTopics.{at_root}
use Rattle.part_steps.specs.SweepHoldings.{IsSwept}
use Rattle.part_steps.specs.SweepTopics.{is_clear, swept_to}
use Rattle.mmu_core.specs.declared.sweep.SweepNext.{SweepNext}
use Rattle.mmu_core.specs.declared.sweep.SweepNext.TheVariants.{Over, Leaf, Entry}
use Rattle.mmu_core.specs.orders.InvalidateKnows.{BeginKnows, FramesAre, IsOfOwn, Sweeps}
use Rattle.mmu_core.specs.orders.InvalidateLeft.{begin_left}
use Rattle.mmu_core.specs.orders.InvalidateSteps.{begin_swept}
use Rattle.mmu_core.specs.orders.SweepKnows.{IsAtEntry, IsAtLeaf, SweepKnows}
use Rattle.mmu_core.specs.orders.SweepSteps.{left_after, range_of, sweep_next, swept_on, zapped_at}
use Rattle.mmu_core.proofs.lines.AloneKnown.{same_alone, same_sweep}
use Rattle.mmu_core.proofs.lines.EitherPlace.{one_place}
use Rattle.mmu_core.proofs.orders.SweepFalls.{root_falls}
use Rattle.mmu_core.proofs.orders.SweepKnown.{leaf_known, root_known, sweep_known}
use Rattle.mmu_core.proofs.orders.SweptSteps.{zapped_done}

-- The frames end below 2 ^ 36.
pub frames_low : (target : Target) (own_ : Invalidated) → FramesAre target own_ → own_.end ≤ 2 ^ 36
frames_low (aim.Page page) own_ F = F.1
frames_low (aim.Run run) own_ F = F
frames_low (aim.Slot slot) own_ F = F.2

-- Where the sweep is over no virtual processor was asked yet.
unasked_yet : (z : Sizes) (target : Target) (t u : Topics) → AreSizes z → u.stay ≡ t.stay → u.hold ≡ t.hold
    → u.invalidations ≡ t.invalidations → u.flush ≡ t.flush → Sweeps target t → IsSwept u
    → is_clear true u.walk ≡ true → BeginKnows begins.Ask z target u
unasked_yet z target t u sizes stay hold same flush W swept clear =
    let none : u.flush.asked ≡ 0 = ap (λ (f : Flush). f.asked) (flush ∙ W.sweeping.unasked) in
    let some = sizes.some in (
      same_alone true t u stay hold (ap (λ (n : Invalidations). n.opened) same) W.sweeping.with_lock,
      subst (IsOfOwn target) (sym same) W.of_own,
      omega (arith, none, some),
      ap (λ (f : Flush). f.awaited) (flush ∙ W.sweeping.unasked),
      (λ first. swept),
      clear,
    )

same_sweeps : (target : Target) (t u : Topics) → u.stay ≡ t.stay → u.hold ≡ t.hold → u.invalidations ≡ t.invalidations
    → u.flush ≡ t.flush → Sweeps target t → Sweeps target u
same_sweeps target t u stay hold same flush W = record {
  sweeping = same_sweep true t u stay hold (ap (λ (n : Invalidations). n.opened) same) flush W.sweeping;
  of_own = subst (IsOfOwn target) (sym same) W.of_own;
}

-- Where the sweep goes on, the begin does.
swept_known : (next : SweepNext) (z : Sizes) (target : Target) (t : Topics) (w : TableWalk) → AreSizes z → Sweeps target t
    → SweepKnows next true (range_of t.invalidations.own) w → BeginKnows (begin_swept next) z target (record t { walk = w })
swept_known Over z target t w sizes W K =
    unasked_yet z target t (record t { walk = w }) sizes refl refl refl refl W (λ some. record { there = K.there; all = K.all }) K.clear
swept_known Leaf z target t w sizes W K = (same_sweeps target t (record t { walk = w }) refl refl refl refl W, K)
swept_known Entry z target t w sizes W K = (same_sweeps target t (record t { walk = w }) refl refl refl refl W, λ rooted. K)

pub entry_known : (z : Sizes) (target : Target) (t : Topics) (v : ℕ) → AreSizes z → Sweeps target t → IsAtEntry true (range_of t.invalidations.own) t.walk
    → BeginKnows (begin_swept (sweep_next true (range_of t.invalidations.own) (swept_on (swept_to true t.invalidations.own.start t.walk) t.walk v))) z target
    (record t { walk = swept_on (swept_to true t.invalidations.own.start t.walk) t.walk v })
entry_known z target t v sizes W K =
    swept_known _ z target t _ sizes W (sweep_known true (range_of t.invalidations.own) t.walk v (frames_low target t.invalidations.own W.of_own.few) K)

pub zap_known : (z : Sizes) (target : Target) (t : Topics) → AreSizes z → t.walk.level ≤ 4 → Sweeps target t
    → IsAtLeaf true (range_of t.invalidations.own) t.walk
    → BeginKnows (begin_swept (sweep_next true (range_of t.invalidations.own) (zapped_at (swept_to true t.invalidations.own.start t.walk) t.walk))) z target
    (record t { walk = zapped_at (swept_to true t.invalidations.own.start t.walk) t.walk })
zap_known z target t sizes most W K =
    swept_known _ z target t _ sizes W
    (leaf_known true (range_of t.invalidations.own) t.walk 0 (frames_low target t.invalidations.own W.of_own.few) most K (zapped_done true t.walk.level))

-- At the root.
pub root_begins : (b : Bool) (z : Sizes) (target : Target) (t : Topics) (v : ℕ) → AreSizes z → b ≡ true → Sweeps target t
    → BeginKnows (if nat_lt t.invalidations.own.start t.invalidations.own.end then begins.Walk true else begins.Ask) z target
    (record t { walk = at_root b t.walk v })
root_begins false z target t v sizes is W = absurd (cc is)
root_begins true z target t v sizes is W =
    one_place (λ q. BeginKnows q z target u) (nat_lt t.invalidations.own.start t.invalidations.own.end) (begins.Walk true) begins.Ask some_known
    (λ e. unasked_yet z target t u sizes refl refl refl refl W (λ some. absurd (cc (e, some))) refl)
  where
    u : Topics
    u = record t { walk = at_root true t.walk v }

    some_known : nat_lt t.invalidations.own.start t.invalidations.own.end ≡ true → BeginKnows (begins.Walk true) z target u
    some_known e =
        let most = frames_low target t.invalidations.own W.of_own.few in
        let lt : t.invalidations.own.start < t.invalidations.own.end = grind (arith, nat_tests) in
        (same_sweeps target t u refl refl refl refl W, λ rooted. root_known true (range_of t.invalidations.own) v t.walk lt most)

-- ---- how many steps it has left

-- Where the sweep has fewer left, the begin has.
pub swept_falls : (next : SweepNext) (z : Sizes) (frames : ℕ) (t : Topics) (w : TableWalk) (bound : ℕ)
    → left_after next true (range_of t.invalidations.own) w < bound → begin_left (begin_swept next) z frames (record t { walk = w }) < 2 * z.vcpus + 1 + bound
swept_falls Over z frames t w bound less = omega (arith, less)
swept_falls Leaf z frames t w bound less = omega (arith, less)
swept_falls Entry z frames t w bound less = omega (arith, less)

pub root_less : (b : Bool) (z : Sizes) (frames : ℕ) (t : Topics) (v : ℕ) → b ≡ true
    → begin_left (if nat_lt t.invalidations.own.start t.invalidations.own.end then begins.Walk true else begins.Ask) z frames
    (record t { walk = at_root b t.walk v })
    < 2 * z.vcpus + 2 + 5 * (t.invalidations.own.end - t.invalidations.own.start)
root_less false z frames t v is = absurd (cc is)
root_less true z frames t v is =
    let less = root_falls true (range_of t.invalidations.own) v t.walk in
    one_place (λ q. begin_left q z frames (record t { walk = at_root true t.walk v })
    < 2 * z.vcpus + 2 + 5 * (t.invalidations.own.end - t.invalidations.own.start))
    (nat_lt t.invalidations.own.start t.invalidations.own.end) (begins.Walk true) begins.Ask
    (λ e. omega (arith, less))
    (λ e. omega arith)
