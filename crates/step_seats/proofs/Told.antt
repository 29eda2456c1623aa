-- Told worlds go on by one step, and by one list of steps after another.
use Rattle.std.proofs.Common.{ℕ, Option, Some, None, sym, subst}
use Rattle.core_views.specs.declared.kind.Kind.{Kind}
use Rattle.core_views.specs.Held.{Held}
use Rattle.mmu_core.specs.machine.Enabled.{mmu}
use Rattle.mmu_core.specs.machine.Machine.{World}
use Rattle.mmu_core.proofs.machine.Extend.{goes_on, stays, then}
use Rattle.step_seats.specs.Moves.{ToldBy, step_by}
use Rattle.step_seats.specs.Told.{WorldLeadsOn}

pub told_stays : (t : Option (World Held)) → WorldLeadsOn t t
told_stays None = tt
told_stays (Some w) = stays mmu w

pub told_goes_on : (t u : Option (World Held)) (actor : ℕ) (kind : Kind) (answer : ℕ) → ToldBy t actor kind answer u → WorldLeadsOn t u
told_goes_on None u actor kind answer tells = tt
told_goes_on (Some w) u actor kind answer tells = subst (WorldLeadsOn (Some w)) (sym tells.2) (goes_on mmu w w (step_by actor kind) (stays mmu w) tells.0)

pub told_then : (t u v : Option (World Held)) → WorldLeadsOn t u → WorldLeadsOn u v → WorldLeadsOn t v
told_then None u v first more = tt
told_then (Some w) None v first more = absurd first
told_then (Some w) (Some x) None first more = more
told_then (Some w) (Some x) (Some y) first more = then mmu w x y first more
