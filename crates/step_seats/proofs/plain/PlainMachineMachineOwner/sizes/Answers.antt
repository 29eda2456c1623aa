use Rattle.step_seats.proofs.Worlds.{count_of_hands, machine_reached}
use Rattle.step_seats.proofs.plain.PlainMachineMachineOwner.sizes.Goals as goal

pub returns-clause-count : goal.returns-clause-count
returns-clause-count c =
    let m = c.self.inside in
    count_of_hands m.sizes m.words.items m.hands.items c.args.self.now c.self.invariant c.self.view_is

pub returns-clause-reached : goal.returns-clause-reached
returns-clause-reached c =
    let m = c.self.inside in
    machine_reached m.sizes m.words.items m.hands.items c.args.self.now c.self.invariant c.self.view_is
