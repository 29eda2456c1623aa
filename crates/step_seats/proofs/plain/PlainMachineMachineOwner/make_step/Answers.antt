use Rattle.std.proofs.Common.{◌<◌, arith, subst, sym}
use Rattle.std.proofs.lemmas.List.{get_or_read}
use Rattle.core_views.specs.Held.{Handful}
use Rattle.step_seats.specs.Machines.{Machine}
use Rattle.step_seats.specs.Moves.{handful_in, no_hand}
use Rattle.step_seats.proofs.Rooms.{next_has_room}
use Rattle.step_seats.proofs.Worlds.{acts_by, machine_after, step_made, there_inside, word_inside}
use Rattle.step_seats.proofs.plain.PlainMachineMachineOwner.make_step.Goals as goal

pub index-found-requires : goal.index-found-requires
index-found-requires c =
    let m = c.self.inside in
    omega (
      arith,
      m.words.ok.0,
      word_inside m.sizes m.words.items m.hands.items c.args.self.now c.args.index c.args.kind c.self.invariant c.self.view_is c.requires.there
          c.requires.enabled,
    )

pub index_mut-requires : goal.index_mut-requires
index_mut-requires c =
    let m = c.self.inside in
    omega (
      arith,
      m.words.ok.0,
      word_inside m.sizes m.words.items m.hands.items c.args.self.now c.args.index c.args.kind c.self.invariant c.self.view_is c.requires.there
          c.requires.enabled,
    )

pub invariant_of-self : goal.invariant_of-self
invariant_of-self c =
    let m = c.self.inside in
    let made =
    step_made m.sizes m.words.items m.hands.items c.args.self.now c.args.index c.args.kind c.index-found.result.now c.after.result
    c.answer-answer.result c.index_mut-hand.result.now c.advance.new.hand c.self.invariant c.self.view_is c.requires.there c.requires.enabled
    c.index-found.ensures c.index_mut-hand.ensures.value c.after.ensures c.answer-answer.ensures c.advance.ensures.core in
    let there = there_inside m.sizes m.words.items m.hands.items c.args.self.now c.args.index c.self.view_is c.requires.there in
    let was = get_or_read m.hands.items c.args.index c.index_mut-hand.result.now there c.index_mut-hand.ensures.value no_hand in
    let taken : 0 < (handful_in m.hands.items c.args.index).room =
    subst (λ (x : Machine). 0 < (handful_in x.hands c.args.index).room) (sym c.self.view_is) c.requires.reserved in
    let some : 0 < c.index_mut-hand.result.now.room = subst (λ (x : Handful). 0 < x.room) (sym was) taken in
    let room = next_has_room c.index_mut-hand.result.now.core c.advance.new.hand.core c.args.kind c.answer-answer.result c.index_mut-hand.result.now.room
    c.advance.new.hand.room c.advance.ensures.core c.advance.ensures.room some in
    machine_after m.sizes m.words.items m.hands.items c.args.self.now c.args.index c.args.kind c.after.result c.answer-answer.result c.advance.new.hand
    c.self.invariant c.self.view_is c.requires.there room made

pub returns-clause-acts : goal.returns-clause-acts
returns-clause-acts c =
    let m = c.self.inside in
    let made =
    step_made m.sizes m.words.items m.hands.items c.args.self.now c.args.index c.args.kind c.index-found.result.now c.after.result
    c.answer-answer.result c.index_mut-hand.result.now c.advance.new.hand c.self.invariant c.self.view_is c.requires.there c.requires.enabled
    c.index-found.ensures c.index_mut-hand.ensures.value c.after.ensures c.answer-answer.ensures c.advance.ensures.core in
    let there = there_inside m.sizes m.words.items m.hands.items c.args.self.now c.args.index c.self.view_is c.requires.there in
    let was = get_or_read m.hands.items c.args.index c.index_mut-hand.result.now there c.index_mut-hand.ensures.value no_hand in
    let taken : 0 < (handful_in m.hands.items c.args.index).room =
    subst (λ (x : Machine). 0 < (handful_in x.hands c.args.index).room) (sym c.self.view_is) c.requires.reserved in
    let some : 0 < c.index_mut-hand.result.now.room = subst (λ (x : Handful). 0 < x.room) (sym was) taken in
    let room = next_has_room c.index_mut-hand.result.now.core c.advance.new.hand.core c.args.kind c.answer-answer.result c.index_mut-hand.result.now.room
    c.advance.new.hand.room c.advance.ensures.core c.advance.ensures.room some in
    let after_ = machine_after m.sizes m.words.items m.hands.items c.args.self.now c.args.index c.args.kind c.after.result c.answer-answer.result
    c.advance.new.hand c.self.invariant c.self.view_is c.requires.there room made in
    acts_by m.sizes m.words.items m.hands.items c.args.self.now c.args.index c.args.kind c.after.result c.answer-answer.result c.advance.new.hand
    c.self.view_is c.requires.there made after_
