-- A line that has no answer has no more steps left than its command allows, wherever it stands.
use Rattle.std.proofs.Common.{◌≡◌, ◌<◌, ◌≤◌, ℕ, length, arith}
use Rattle.std.proofs.lemmas.Bool.Decides.{nat_tests}
use Rattle.std.specs.Prelude.{true}
use Rattle.core_views.specs.Held.{Held}
use Rattle.mmu_core.specs.lines.Bounds.{most_steps}
use Rattle.mmu_core.specs.machine.Enabled.{mmu}
use Rattle.mmu_core.specs.alone.LineAlone.{hand_left}
use Rattle.mmu_core.specs.machine.Machine.{World, hand_in}
use Rattle.mmu_core.specs.machine.Steps.{has_line}
use Rattle.mmu_core.specs.machine.Turns.{line_of}
use Rattle.mmu_core.specs.machine.View.{view}
use Rattle.mmu_core.specs.machine.Worlds.{Reachable}
use Rattle.mmu_core.proofs.invariant.HandLeft.{hand_few}
use Rattle.mmu_core.proofs.start.Starts.{reached_good}

pub turns_bounded : (w : World Held) (a : ℕ) → Reachable w → a < length w.hands → has_line (hand_in mmu w a) ≡ true
    → hand_left (hand_in mmu w a) ≤ most_steps (hand_in mmu w a).state.sizes (line_of (hand_in mmu w a)).command
turns_bounded w a r there has =
    let G = reached_good w r in
    let left : length (hand_in mmu w a).answers < length (hand_in mmu w a).lines = grind (arith, nat_tests) in
    hand_few r.sizes (view r.sizes w) a G.holds G.topics (omega (arith, there, G.hands)) left
