-- What generic code does to a world that a seat tells.
use Rattle.std.specs.Prelude.{Option, Some, None}
use Rattle.core_views.specs.Held.{Held}
use Rattle.mmu_core.specs.machine.Enabled.{mmu}
use Rattle.mmu_core.specs.machine.Machine.{World, Leads}

-- Where a world was told, one is told that some list of steps leads to from there.
abbrev pub WorldLeadsOn : Option (World Held) → Option (World Held) → Type 0
WorldLeadsOn None after = Unit {0}
WorldLeadsOn (Some w) None = ⊥
WorldLeadsOn (Some w) (Some t) = Leads mmu w t
