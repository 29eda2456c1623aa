use Rattle.std.proofs.lemmas.Grind.{merely}
use Rattle.step_seats.proofs.Worlds.{hand_reached, has_hand, has_room}
use Rattle.step_seats.proofs.plain.PlainMachineMachineOwner.hand.Goals as goal

pub returns-clause-reached : goal.returns-clause-reached
returns-clause-reached c =
    let m = c.self.inside in
    merely (hand_reached m.sizes m.words.items m.hands.items c.args.self.now c.args.index c.self.invariant c.self.view_is c.requires.there)

pub returns-clause-has : goal.returns-clause-has
returns-clause-has c =
    let m = c.self.inside in
    has_hand m.sizes m.words.items m.hands.items c.args.self.now c.args.index c.self.invariant c.self.view_is c.requires.there

pub returns-clause-room : goal.returns-clause-room
returns-clause-room c =
    let m = c.self.inside in
    has_room m.sizes m.words.items m.hands.items c.args.self.now c.args.index c.self.invariant c.self.view_is c.requires.there
