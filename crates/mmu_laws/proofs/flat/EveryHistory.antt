-- What every list of steps tells is lawful.
use Rattle.std.proofs.Common.{List}
use Rattle.core_views.specs.declared.kind.Kind.{Kind}
use Rattle.core_views.specs.declared.sizes.Sizes.{Sizes}
use Rattle.core_views.specs.declared.trace.Line.{Line}
use Rattle.core_views.specs.Events.{after_all}
use Rattle.core_views.specs.Flat.{first_flat}
use Rattle.core_views.specs.Held.{Held}
use Rattle.core_views.specs.Lawful.{IsLawful}
use Rattle.mmu_core.specs.machine.Enabled.{mmu}
use Rattle.mmu_core.specs.machine.Machine.{Legal, Step, World, run}
use Rattle.mmu_core.specs.machine.View.{view}
use Rattle.mmu_core.specs.machine.Worlds.{IsStart, history}
use Rattle.mmu_laws.specs.flat.FlatInvariant.{FlatInvariant}
use Rattle.mmu_laws.proofs.flat.EveryLog.{run_logs, run_tells, start_hold}
pub use Rattle.mmu_laws.proofs.flat.FlatRuns.{after_append}

pub every_history : (z : Sizes) (lines : List Line) (w : World Held) (ss : List (Step Kind)) → IsStart z lines w → Legal mmu w ss
    → IsLawful z first_flat (history w ss)
every_history z lines w ss start legal = (run_tells z w first_flat ss (start_hold z lines w start) legal).0

-- Wherever the steps have come, the words and hands stand for the flat state that the history leaves.
pub every_flat : (z : Sizes) (lines : List Line) (w : World Held) (ss : List (Step Kind)) → IsStart z lines w → Legal mmu w ss
    → FlatInvariant z (view z (run mmu w ss)) (after_all (history w ss) first_flat)
every_flat z lines w ss start legal = (run_logs z w first_flat ss (start_hold z lines w start) legal).flat
