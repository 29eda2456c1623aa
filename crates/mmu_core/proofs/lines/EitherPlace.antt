-- What holds of each place to which a step may lead holds of the one to which it leads.
use Rattle.std.proofs.Common.{◌≡◌, refl}
use Rattle.std.specs.Prelude.{Bool, true, false, if◌then◌else◌}
use Rattle.core_views.specs.declared.answer.Answer.{Answer}
use Rattle.core_views.specs.declared.place.Place.{Place}
use Rattle.mmu_core.specs.declared.claim.ClaimNext.{ClaimNext}
use Rattle.mmu_core.specs.declared.claim.ClaimNext.TheVariants as claims
use Rattle.mmu_core.specs.declared.outcome.Outcome.{Outcome}
use Rattle.mmu_core.specs.declared.outcome.Outcome.TheVariants.{Goes, Ends}
use Rattle.mmu_core.specs.declared.watch.WatchNext.{WatchNext}
use Rattle.mmu_core.specs.declared.watch.WatchNext.TheVariants as watches
use Rattle.mmu_core.specs.orders.ClaimSteps.{FreeMap, Pages, Frames, claim_outcome}
use Rattle.mmu_core.specs.orders.WatchSteps.{watch_place}

-- one of two places, by a test
pub either_place : {A : Type 0} (P : A → Type 0) (b : Bool) (p q : A) → P p → P q → P (if b then p else q)
either_place P true p q x y = x
either_place P false p q x y = y

-- where what the test says is known
pub one_place : {A : Type 0} (P : A → Type 0) (b : Bool) (p q : A) → (b ≡ true → P p) → (b ≡ false → P q) → P (if b then p else q)
one_place P true p q x y = x refl
one_place P false p q x y = y refl

-- either map
pub each_map : (P : FreeMap → Type 0) → P Pages → P Frames → (map : FreeMap) → P map
each_map P x y Pages = x
each_map P x y Frames = y

-- after a look of a watch
pub each_watch : {A : Type 0} (P : A → Type 0) (next : WatchNext) (looks over : A) → P looks → P over → P (watch_place looks over next)
each_watch P watches.Last looks over x y = y
each_watch P _ looks over x y = x

-- after a step of a claim
pub each_claim : (P : Outcome → Type 0) (next : ClaimNext) (on got : Place) (without : Answer) → P (Goes on) → P (Goes got) → P (Ends without)
    → P (claim_outcome on got without next)
each_claim P claims.Goes on got without x y none = x
each_claim P claims.Got on got without x y none = y
each_claim P claims.Empty on got without x y none = none
