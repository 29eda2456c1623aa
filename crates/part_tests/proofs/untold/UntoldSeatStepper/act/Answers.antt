use Rattle.std.proofs.lemmas.Grind.{merely}
use Rattle.std.proofs.Common.{refl}
use Rattle.step_seats.specs.Machines.{world_in}
use Rattle.part_tests.proofs.untold.UntoldSeatStepper.act.Goals as goal

pub returns-clause-acts : goal.returns-clause-acts
returns-clause-acts c =
    record {
      hand = c.act.ensures.acts.hand;
      world = refl;
      steps = refl;
      answers = merely (world_in c.args.self.now.seat.machine.now, c.act.ensures.acts.answers);
      has = tt;
    }
