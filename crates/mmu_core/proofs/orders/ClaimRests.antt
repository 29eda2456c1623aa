-- What a line knows after each step of its claim, where it was at rest before.
use Rattle.std.proofs.Common.{◌≡◌, ◌<◌, ◌≤◌, ℕ, refl, arith}
use Rattle.std.specs.Prelude.{Bool, true, Option, is_some}
use Rattle.core_views.specs.declared.sizes.Sizes.{Sizes}
use Rattle.core_views.specs.declared.topics.Hold.TheVariants.{Loose}
use Rattle.core_views.specs.declared.topics.OwnedFrame.{OwnedFrame}
use Rattle.core_views.specs.declared.topics.Topics.{Topics}
use Rattle.part_steps.specs.declared.part_step.PartStep.{PartStep}
use Rattle.part_steps.specs.FrameTopics.{is_uncopied}
use Rattle.part_steps.specs.PartHoldings.{HasToFill}
use Rattle.part_steps.specs.PartSteps.{IsAtRest}
use Rattle.mmu_core.specs.declared.claim.ClaimNext.{ClaimNext}
use Rattle.mmu_core.specs.declared.claim.ClaimNext.TheVariants as claims
use Rattle.mmu_core.specs.invariant.Scans.{OwnsNone}
use Rattle.mmu_core.specs.orders.ClaimSteps.{FreeMap, Pages, Frames, claim_over, map_words}
use Rattle.mmu_core.specs.lines.LockKnows.{HoldsLock}
use Rattle.mmu_core.proofs.orders.ClaimMade.{ClaimMade}
use Rattle.mmu_core.proofs.orders.ClaimMade as made

-- A frame is owned, and none of its words is filled.
pub record OwnsFresh (owned : Option OwnedFrame) : Type 0 where
  pub owns : is_some owned ≡ true
  pub uncopied : is_uncopied owned ≡ true

-- A line at rest is at rest after it, owns none, and has come to a word of the map, or after the last one; or it owns a page to be filled, or a frame, with
-- which it is at rest still.
abbrev pub RestsAfterClaim : FreeMap → ClaimNext → Sizes → Topics → Type 0
RestsAfterClaim map claims.Goes z u = IsAtRest u × OwnsNone map u × ((claim_over map u).at < map_words map z)
RestsAfterClaim Pages claims.Got z u = HoldsLock Loose u × HasToFill u
RestsAfterClaim Frames claims.Got z u = IsAtRest u × OwnsFresh u.frames.owned
RestsAfterClaim map claims.Empty z u = IsAtRest u × OwnsNone map u × (map_words map z ≤ (claim_over map u).at)

pub claim_rests : (z : Sizes) (map : FreeMap) (begun : Bool) (t : Topics) (v : ℕ) (step : PartStep) (next : ClaimNext) (u : Topics)
    → ClaimMade z map begun t v step next u → IsAtRest t → OwnsNone map t → (begun ≡ true → (claim_over map t).at < map_words map z)
    → RestsAfterClaim map next z u
claim_rests z Pages begun t v _ _ _ (made.Won tries b some is) K none low =
    (record { outside = K.outside; holds = K.loose; no_table = K.no_table; no_set = K.no_set }, (refl, omega arith))
claim_rests z Pages begun t v _ _ _ (made.Lost tries b some is) K none low =
    (record { outside = K.outside; loose = K.loose; owns_none = refl; owes_none = K.owes_none; no_table = K.no_table; no_set = K.no_set }, refl, low b)
claim_rests z Pages begun t v _ _ _ (made.Saw not_ lt) K none low =
    (record { outside = K.outside; loose = K.loose; owns_none = K.owns_none; owes_none = K.owes_none; no_table = K.no_table; no_set = K.no_set }, none, lt)
claim_rests z Pages begun t v _ _ _ (made.SawNone not_ le) K none low =
    (record { outside = K.outside; loose = K.loose; owns_none = K.owns_none; owes_none = K.owes_none; no_table = K.no_table; no_set = K.no_set }, none, le)
claim_rests z Frames begun t v _ _ _ (made.Won tries b some is) K none low = (
  record { outside = K.outside; loose = K.loose; owns_none = K.owns_none; owes_none = K.owes_none; no_table = K.no_table; no_set = K.no_set },
  record { owns = refl; uncopied = refl },
)
claim_rests z Frames begun t v _ _ _ (made.Lost tries b some is) K none low =
    (record { outside = K.outside; loose = K.loose; owns_none = K.owns_none; owes_none = K.owes_none; no_table = K.no_table; no_set = K.no_set }, refl, low b)
claim_rests z Frames begun t v _ _ _ (made.Saw not_ lt) K none low =
    (record { outside = K.outside; loose = K.loose; owns_none = K.owns_none; owes_none = K.owes_none; no_table = K.no_table; no_set = K.no_set }, none, lt)
claim_rests z Frames begun t v _ _ _ (made.SawNone not_ le) K none low =
    (record { outside = K.outside; loose = K.loose; owns_none = K.owns_none; owes_none = K.owes_none; no_table = K.no_table; no_set = K.no_set }, none, le)
