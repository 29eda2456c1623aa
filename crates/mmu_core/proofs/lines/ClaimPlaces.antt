-- How the lines of every form claim a page or a frame: each step is one of a claim, or another one.
use Rattle.mmu_core.proofs.forms.host.HostClaims.{host_claims_or_not}
use Rattle.std.proofs.Common.{◌⊎◌, ℕ}
use Rattle.core_views.specs.declared.place.Place.{Place}
use Rattle.core_views.specs.declared.place.Place.TheVariants as place
use Rattle.core_views.specs.declared.trace.Command.{Command}
use Rattle.core_views.specs.declared.trace.Command.TheVariants.{Access, ChangeHost}
use Rattle.core_views.specs.Held.{Held}
use Rattle.mmu_core.specs.lines.Forms.{RestsAt}
use Rattle.mmu_core.proofs.forms.access.AccessClaims.{access_claims_or_not}
use Rattle.mmu_core.proofs.lines.LineClaims.{Claims, ClaimsNot}
use Rattle.mmu_core.proofs.lines.Forms.{simple_place}

-- Each step of a line is one of its claim, or another one.
pub claims_or_not : (p : Place) (c : Command) (h : Held) (v : ℕ) → RestsAt p c h → Claims p c h v ⊎ ClaimsNot p c h v
claims_or_not (place.Access p) (Access gfn word op) h v R = access_claims_or_not gfn word op h v p
claims_or_not (place.Host p) (ChangeHost page change) h v R = host_claims_or_not page change h v p
claims_or_not (place.Access p) _ h v R = absurd R
claims_or_not (place.Host p) _ h v R = absurd R
claims_or_not p c h v R = (simple_place p c h v tt).claims R
