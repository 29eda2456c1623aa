use Rattle.std.proofs.Common.{◌≡◌, ◌<◌, length, subst, sym}
use Rattle.std.proofs.lemmas.List.{get_or_read}
use Rattle.core_views.specs.Held.{Handful}
use Rattle.step_seats.specs.Moves.{HasItsRoom, handful_in, no_hand}
use Rattle.step_seats.proofs.Rooms.{reserve_has_room}
use Rattle.step_seats.proofs.Worlds.{machine_same, there_inside, world_same}
use Rattle.step_seats.proofs.plain.PlainMachineMachineOwner.reserve.Goals as goal

pub returns-clause-world : goal.returns-clause-world
returns-clause-world c =
    let m = c.self.inside in
    world_same m.sizes m.words.items m.hands.items c.args.self.now c.args.index c.index_mut-hand.result.now c.reserve.new.self c.self.view_is
    c.requires.there c.index_mut-hand.ensures.value c.reserve.ensures.core

pub invariant_of-self : goal.invariant_of-self
invariant_of-self c =
    let m = c.self.inside in
    let there : c.args.index < length m.hands.items =
    there_inside m.sizes m.words.items m.hands.items c.args.self.now c.args.index c.self.view_is c.requires.there in
    let same =
    world_same m.sizes m.words.items m.hands.items c.args.self.now c.args.index c.index_mut-hand.result.now c.reserve.new.self c.self.view_is
    c.requires.there c.index_mut-hand.ensures.value c.reserve.ensures.core in
    let was : c.index_mut-hand.result.now ≡ handful_in m.hands.items c.args.index =
    get_or_read m.hands.items c.args.index c.index_mut-hand.result.now there c.index_mut-hand.ensures.value no_hand in
    let before = subst (λ (x : Handful). HasItsRoom x.core x.room) (sym was) (c.self.invariant.room c.args.index there) in
    let room = reserve_has_room c.reserve.result c.index_mut-hand.result.now c.reserve.new.self c.reserve.ensures.core c.reserve.ensures.room
    c.reserve.ensures.refused before in
    machine_same m.sizes m.words.items m.hands.items c.args.self.now c.args.index c.reserve.new.self c.self.invariant c.self.view_is c.requires.there room same
