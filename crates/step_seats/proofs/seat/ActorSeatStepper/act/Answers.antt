use Rattle.std.proofs.Common.{refl}
use Rattle.step_seats.specs.Moves.{handful_in}
use Rattle.step_seats.proofs.Worlds.{frame_same}
use Rattle.step_seats.proofs.seat.ActorSeatStepper.act.Goals as goal

pub returns-clause-keeps : goal.returns-clause-keeps
returns-clause-keeps g c =
    let M = g.M.MachineOwner in record {
      room = c.make_step.ensures.room;
      actor = refl;
      frame = frame_same c.args.self.now.machine.ghost_name (M.machine c.args.self.now.machine.now) (M.machine c.make_step.new.self) c.args.self.now.index
          (handful_in (M.machine c.make_step.new.self).hands c.args.self.now.index) c.make_step.ensures.same.0 c.make_step.ensures.others;
    }
