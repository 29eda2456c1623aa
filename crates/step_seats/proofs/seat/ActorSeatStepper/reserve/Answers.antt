use Rattle.std.proofs.Common.{refl}
use Rattle.step_seats.specs.Moves.{handful_in}
use Rattle.step_seats.proofs.Worlds.{frame_same}
use Rattle.step_seats.proofs.seat.ActorSeatStepper.reserve.Goals as goal

pub returns-clause-same : goal.returns-clause-same
returns-clause-same g c =
    let M = g.M.MachineOwner in (
      refl,
      frame_same c.args.self.now.machine.ghost_name (M.machine c.args.self.now.machine.now) (M.machine c.reserve.new.self) c.args.self.now.index
          (handful_in (M.machine c.reserve.new.self).hands c.args.self.now.index) c.reserve.ensures.same.0 c.reserve.ensures.others,
    )
