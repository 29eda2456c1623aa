-- That a line comes nearer to its end with a step, by where the step leads; and with what several forms do in the same order.
use Rattle.std.proofs.Common.{◌≡◌, ◌+◌, ◌-◌, ◌<◌, ◌≤◌, ℕ, arith}
use Rattle.std.specs.Prelude.{true}
use Rattle.core_views.specs.declared.answer.Answer.{Answer}
use Rattle.core_views.specs.declared.place.Place.{Place}
use Rattle.core_views.specs.declared.sizes.Sizes.{Sizes}
use Rattle.core_views.specs.declared.topics.Topics.{Topics}
use Rattle.core_views.specs.declared.trace.Command.{Command}
use Rattle.core_views.specs.Sizes.{actors_of}
use Rattle.mmu_core.specs.declared.claim.ClaimNext.{ClaimNext}
use Rattle.mmu_core.specs.declared.claim.ClaimNext.TheVariants as claims
use Rattle.mmu_core.specs.declared.outcome.Outcome.{Outcome}
use Rattle.mmu_core.specs.declared.outcome.Outcome.TheVariants.{Goes, Ends}
use Rattle.mmu_core.specs.declared.watch.WatchNext.{WatchNext}
use Rattle.mmu_core.specs.declared.watch.WatchNext.TheVariants as watches
use Rattle.mmu_core.specs.declared.claim.FreeMap.{FreeMap}
use Rattle.mmu_core.specs.orders.ClaimSteps.{claim_left, claim_outcome, claim_over}
use Rattle.mmu_core.specs.lines.Forms.{steps_left}
use Rattle.mmu_core.specs.orders.WatchSteps.{watch_place}
use Rattle.mmu_core.proofs.orders.ClaimMade.{claim_left_after}
use Rattle.mmu_core.proofs.orders.WatchMade.{watch_left_after}

-- Where the line goes on it has fewer than n steps left.
abbrev pub Nearer : Outcome → Command → Sizes → Topics → ℕ → Type 0
Nearer (Goes p) c y u n = steps_left p c y u < n
Nearer (Ends answer) c y u n = Unit {0}

-- After a step of a claim, which had n steps left, with k more for the line.
pub claim_nearer : (map : FreeMap) (next : ClaimNext) (on got : Place) (without : Answer) (c : Command) (y : Sizes) (u : Topics) (k n : ℕ)
    → claim_left_after map next y (claim_over map u) < n → steps_left on c y u ≡ k + claim_left map true y (claim_over map u)
    → steps_left got c y u ≤ k → Nearer (claim_outcome on got without next) c y u (k + n)
claim_nearer map claims.Goes on got without c y u k n less left after = omega (arith, less, left)
claim_nearer map claims.Got on got without c y u k n less left after = omega (arith, less, after)
claim_nearer map claims.Empty on got without c y u k n less left after = tt

-- After a look of a watch.
pub watch_nearer : {A : Type 0} (at : A → Place) (next : WatchNext) (looks over : A) (c : Command) (y : Sizes) (u : Topics) (k n : ℕ)
    → watch_left_after next (actors_of y) u < n → steps_left (at looks) c y u ≡ k + (actors_of y - u.watched) → steps_left (at over) c y u ≤ k
    → Nearer (Goes (at (watch_place looks over next))) c y u (k + n)
watch_nearer at watches.Last looks over c y u k n less left after = omega (arith, less, after)
watch_nearer at _ looks over c y u k n less left after = omega (arith, less, left)
