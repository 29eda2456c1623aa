-- An access has no more steps left at any place than where it begins, nor has its fault; and at each place it has one.
use Rattle.mmu_core.specs.orders.ShareSteps.{share_left}
use Rattle.mmu_core.specs.orders.ClaimSteps.{Pages}
use Rattle.std.proofs.Math.Nat.{mul-le-mul_right}
use Rattle.std.proofs.Common.{◌+◌, ◌-◌, ◌*◌, ◌<◌, ◌≤◌, ℕ, arith}
use Rattle.std.specs.Prelude.{Bool, true, false, if◌then◌else◌}
use Rattle.core_views.specs.declared.place.AccessPlace.{AccessPlace}
use Rattle.core_views.specs.declared.place.AccessPlace.TheVariants.{Enter, Pause, Root, Walk, Touch, Leave, Fault}
use Rattle.core_views.specs.declared.place.CheckStage.{CheckStage}
use Rattle.core_views.specs.declared.place.CheckStage.TheVariants as stage
use Rattle.core_views.specs.declared.place.FaultPlace.{FaultPlace}
use Rattle.core_views.specs.declared.place.FaultPlace.TheVariants as fault
use Rattle.core_views.specs.declared.place.Leaving.TheVariants as leaving
use Rattle.core_views.specs.declared.place.SlotField.{SlotField}
use Rattle.core_views.specs.declared.place.SlotField.TheVariants as field
use Rattle.core_views.specs.declared.sizes.Sizes.{Sizes}
use Rattle.core_views.specs.declared.topics.Hold.{Hold}
use Rattle.core_views.specs.declared.topics.Hold.TheVariants.{Loose}
use Rattle.core_views.specs.declared.topics.SlotSearch.{SlotSearch}
use Rattle.core_views.specs.declared.topics.Topics.{Topics}
use Rattle.mmu_core.specs.lines.Bounds.{access_left, stay_left}
use Rattle.mmu_core.specs.forms.access.FaultLeft.{check_left, fault_left, find_left, table_left, end_left, entering_left}
use Rattle.mmu_core.specs.forms.access.SearchLeft.{look_left}
use Rattle.mmu_core.proofs.orders.ClaimMade.{claim_few}
use Rattle.core_views.specs.declared.place.FaultEnd.{FaultEnd}
use Rattle.core_views.specs.declared.place.FaultEnd.TheVariants.{Installed, Mmio, HostFault, Starved, Fixed, NotFast, Retry}

tables_few : (z : Sizes) (level : ℕ) → level ≤ 4 → (level - 1) * table_left z ≤ 3 * table_left z
tables_few z level most = let few : level - 1 ≤ 3 = omega (arith, most) in mul-le-mul_right (table_left z) few

more_tables_few : (z : Sizes) (level : ℕ) → level ≤ 4 → (level - 1 - 1) * table_left z ≤ 2 * table_left z
more_tables_few z level most = let few : level - 1 - 1 ≤ 2 = omega (arith, most) in mul-le-mul_right (table_left z) few

look_few : (f : SlotField) → look_left f ≤ 4
look_few field.Flags = omega arith
look_few _ = omega arith

find_few : (b : Bool) (search : SlotSearch) → find_left b search ≤ 129
find_few true search = let few = look_few search.next in omega (arith, few)
find_few false search = omega arith

lock_few : (k : Hold) → share_left k ≤ 2
lock_few Loose = omega arith
lock_few _ = omega arith

check_few : (at_ : CheckStage) → check_left at_ ≤ 4
check_few stage.Count = omega arith
check_few _ = omega arith

end_few : (e : FaultEnd) (z : Sizes) → end_left e z ≤ entering_left z + 140
end_few (NotFast word) z = omega arith
end_few _ z = omega arith

rooted_few : (b : Bool) (level : ℕ) → level ≤ 4 → (if b then level else 5) ≤ 5
rooted_few true level most = omega (arith, most)
rooted_few false level most = omega arith

-- A fault has no more left at any place than where a fast one begins.
fault_few : (p : FaultPlace) (z : Sizes) (t : Topics) → t.walk.level ≤ 4 → fault_left p z t ≤ fault_left fault.FastBegin z t
fault_few (fault.Find b) z t most = let few = find_few b t.search in omega (arith, few)
fault_few fault.Share z t most = let few = lock_few t.hold in omega (arith, few)
fault_few (fault.Check at_) z t most = let few = check_few at_ in omega (arith, few)
fault_few (fault.Walk true) z t most = let few = tables_few z t.walk.level most in omega (arith, few)
fault_few (fault.Walk false) z t most = omega arith
fault_few (fault.Claim b) z t most = let tables = more_tables_few z t.walk.level most in let few = claim_few Pages b z t.claim in omega (arith, few, tables)
fault_few fault.Fill z t most = let tables = more_tables_few z t.walk.level most in omega (arith, tables)
fault_few fault.Role z t most = let tables = more_tables_few z t.walk.level most in omega (arith, tables)
fault_few fault.Link z t most = let tables = more_tables_few z t.walk.level most in omega (arith, tables)
fault_few (fault.Give e) z t most = let few = end_few e z in omega (arith, few)
fault_few (fault.Unshare e) z t most = let few = end_few e z in omega (arith, few)
fault_few (fault.End e) z t most = let few = end_few e z in omega (arith, few)
fault_few (fault.FastFind b) z t most = let few = find_few b t.search in omega (arith, few)
fault_few (fault.FastWalk b) z t most = let few = rooted_few b t.walk.level most in omega (arith, few)
fault_few _ z t most = omega arith

stay_few : (again : Bool) (z : Sizes) (t : Topics) → stay_left again z t ≤ 10 + fault_left fault.FastBegin z t
stay_few true z t = omega arith
stay_few false z t = omega arith

pub access_few : (p : AccessPlace) (z : Sizes) (t : Topics) → t.walk.level ≤ 4 → access_left p z t ≤ 17 + fault_left fault.FastBegin z t
access_few (Enter again) z t most = let few = stay_few again z t in omega (arith, few)
access_few (Pause again) z t most = let few = stay_few again z t in omega (arith, few)
access_few (Root again) z t most = let few = stay_few again z t in omega (arith, few)
access_few (Walk again) z t most = let few = stay_few again z t in omega (arith, few, most)
access_few Touch z t most = omega arith
access_few (Leave (leaving.Reached frame value)) z t most = omega arith
access_few (Leave (leaving.Faults fast)) z t most = omega arith
access_few (Fault p) z t most = let few = fault_few p z t most in omega (arith, few)

-- ---- it has a step left

pub two_left : (again : Bool) (z : Sizes) (t : Topics) → 2 ≤ stay_left again z t
two_left true z t = omega arith
two_left false z t = omega arith

some_fault_left : (p : FaultPlace) (z : Sizes) (t : Topics) → 0 < fault_left p z t
some_fault_left (fault.Walk true) z t = omega arith
some_fault_left (fault.Walk false) z t = omega arith
some_fault_left (fault.End (NotFast word)) z t = omega arith
some_fault_left (fault.End (Fixed marked)) z t = omega arith
some_fault_left (fault.End Installed) z t = omega arith
some_fault_left (fault.End Mmio) z t = omega arith
some_fault_left (fault.End HostFault) z t = omega arith
some_fault_left (fault.End Starved) z t = omega arith
some_fault_left (fault.End (Retry fast cause)) z t = omega arith
some_fault_left _ z t = omega arith

pub some_access_left : (p : AccessPlace) (z : Sizes) (t : Topics) → 0 < access_left p z t
some_access_left (Walk again) z t = let two = two_left again z t in omega (arith, two)
some_access_left (Leave (leaving.Reached frame value)) z t = omega arith
some_access_left (Leave (leaving.Faults fast)) z t = omega arith
some_access_left (Fault p) z t = let some = some_fault_left p z t in omega (arith, some)
some_access_left _ z t = omega arith
