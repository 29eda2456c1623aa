use Rattle.std.proofs.Common.{ap, sym, ◌∙◌}
use Rattle.core_views.specs.Held.{Handful}
use Rattle.mmu_core.specs.machine.Enabled.{mmu}
use Rattle.mmu_core.specs.machine.Machine.{hand_in}
use Rattle.step_seats.specs.Machines.{world_in}
use Rattle.turn_loops.proofs.Turns.{code_is}
use Rattle.turn_loops.proofs.turning.next_code.Goals as goal

pub returns : goal.returns
returns g c =
    let M = g.M.MachineOwner in
    code_is c.hand-hand.result.now.core (hand_in mmu (world_in (M.machine c.args.machine.now)) c.args.index) c.next_kind.result
    (c.hand-hand.ensures.has.is ∙ ap (λ (x : Handful). x.core) (sym c.hand-hand.ensures.hand)) c.next_kind.ensures
