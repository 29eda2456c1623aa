-- That the machine goes on: every machine has a start, and each actor with a line left can make a step.
use Rattle.std.specs.Prelude.{◌<◌, ℕ, List, All, length, ◌≤◌}
use Rattle.core_views.specs.declared.kind.Kind.{Kind}
use Rattle.core_views.specs.declared.sizes.Sizes.{Sizes}
use Rattle.core_views.specs.declared.trace.Line.{Line}
use Rattle.core_views.specs.Held.{Held}
use Rattle.core_views.specs.Sizes.{AreSizes, actors_of}
use Rattle.core_views.specs.Traces.{IsCommandFor}
use Rattle.mmu_core.specs.machine.Enabled.{mmu}
use Rattle.mmu_core.specs.machine.Machine.{Legal, May, Step, World, hand_in, run}
use Rattle.mmu_core.specs.machine.Worlds.{IsStart}
use Rattle.mmu_core.specs.machine.NextSteps.{next_step}

-- Every machine has a start, with all lines that a trace may have.
abbrev pub EveryMachineStarts : Type 0
EveryMachineStarts =
    (z : Sizes) (lines : List Line) → AreSizes z → All (λ line. IsCommandFor z line.actor line.command) lines
    → length lines ≤ 1000000 → (w : World Held) × IsStart z lines w

-- Behind every list of steps each actor that has a line without an answer may make its next step: none has to wait for another.
abbrev pub EachMayStep : Type 0
EachMayStep =
    (z : Sizes) (lines : List Line) (w : World Held) (ss : List (Step Kind)) (actor : ℕ) → IsStart z lines w → Legal mmu w ss → actor < actors_of z
    → length (hand_in mmu (run mmu w ss) actor).answers < length (hand_in mmu (run mmu w ss) actor).lines
    → May mmu (run mmu w ss) (next_step z (run mmu w ss) actor)
