use Rattle.std.proofs.Common.{◌≡◌, ◌<◌, ◌∙◌, Some, ap, length, set, subst, sym, refl}
use Rattle.core_views.specs.Held.{Handful}
use Rattle.mmu_core.specs.machine.Enabled.{Enabled, mmu}
use Rattle.mmu_core.specs.machine.Machine.{World}
use Rattle.step_seats.specs.Acts.{Acts}
use Rattle.step_seats.specs.Moves.{KeepsRoom}
use Rattle.table_seats.specs.Boards.{BoardView}
use Rattle.table_seats.specs.Passes.{Known, PassView, hand_at, seat_of}
use Rattle.table_seats.specs.Rule.{moved}
use Rattle.table_seats.proofs.Passes.{acts_of, holds_core, keeps_room, pass_after, pass_inside, puts}
use Rattle.table_seats.proofs.Places.{picked, read_as, place_below}
use Rattle.table_seats.proofs.board.Board.act.Goals as goal

pub index_mut-requires : goal.index_mut-requires
index_mut-requires c =
    place_below _ c.pass.inside.hands.items c.args.pass.now.hands c.args.actor c.pass.inside.hands.ok.0 (ap (λ (x : PassView). x.hands) c.pass.view_is)
    c.requires.keeps

pub unreachable-requires : goal.unreachable-requires
unreachable-requires c =
    let t = c.args.pass.now in
    c.in_default.not-Some (hand_at t.hands c.args.actor)
    (read_as c.pass.inside.hands.items t.hands c.args.actor c.index_mut.result.now (ap (λ (x : PassView). x.hands) c.pass.view_is) c.requires.keeps
    c.index_mut.ensures.value)

pub perform-answer-requires-clause-table : goal.perform-answer-requires-clause-table
perform-answer-requires-clause-table c =
    let i = c.pass.inside in
    let t = c.args.pass.now in
    let keeps = c.requires.keeps in
    let p = picked i.hands.items t.hands c.args.actor c.in-Some.hand c.index_mut.result.now (ap (λ (x : PassView). x.hands) c.pass.view_is)
    keeps c.index_mut.ensures.value c.in-Some.is in
    let enabled : Enabled c.in-Some.hand.core c.args.kind = subst (λ (x : Handful). Enabled x.core c.args.kind) p.is c.requires.enabled in
    let inside = pass_inside i.seat.me.0 i.hands.items c.pass.invariant.1 c.args.actor c.in-Some.hand p.hold c.args.kind enabled in
    let b = c.self.view_is in
    let count : length i.seat.me.0.start.words ≡ c.self.inside.table.shared.table_id.words =
    ap (λ (x : PassView). length x.knows.start.words) c.pass.view_is
    ∙ (ap (λ (w : World _). length w.words) c.requires.fits.start ∙ (ap (λ (x : BoardView). length x.start.words) (sym b) ∙ sym c.self.invariant.words)) in (
      ap (λ (x : PassView). x.table) c.pass.view_is ∙ (c.requires.fits.table ∙ sym (ap (λ (x : BoardView). x.table) b)),
      subst (λ n. c.args.kind.word < n) count inside,
    )

pub perform-answer-requires-clause-hand : goal.perform-answer-requires-clause-hand
perform-answer-requires-clause-hand c =
    let i = c.pass.inside in
    let t = c.args.pass.now in
    let keeps = c.requires.keeps in
    let p = picked i.hands.items t.hands c.args.actor c.in-Some.hand c.index_mut.result.now (ap (λ (x : PassView). x.hands) c.pass.view_is)
    keeps c.index_mut.ensures.value c.in-Some.is in
    (c.pass.invariant.1.live, holds_core i.seat.me.0 i.hands.items c.pass.invariant.1 c.args.actor c.in-Some.hand p.hold)

pub perform-answer-requires-clause-enabled : goal.perform-answer-requires-clause-enabled
perform-answer-requires-clause-enabled c =
    let i = c.pass.inside in
    let t = c.args.pass.now in
    let keeps = c.requires.keeps in
    let p = picked i.hands.items t.hands c.args.actor c.in-Some.hand c.index_mut.result.now (ap (λ (x : PassView). x.hands) c.pass.view_is)
    keeps c.index_mut.ensures.value c.in-Some.is in
    subst (λ (x : Handful). Enabled x.core c.args.kind) p.is c.requires.enabled

pub advance-requires-clause-enabled : goal.advance-requires-clause-enabled
advance-requires-clause-enabled c =
    let i = c.pass.inside in
    let t = c.args.pass.now in
    let keeps = c.requires.keeps in
    let p = picked i.hands.items t.hands c.args.actor c.in-Some.hand c.index_mut.result.now (ap (λ (x : PassView). x.hands) c.pass.view_is)
    keeps c.index_mut.ensures.value c.in-Some.is in
    subst (λ (x : Handful). Enabled x.core c.args.kind) p.is c.requires.enabled

pub advance-requires-clause-room : goal.advance-requires-clause-room
advance-requires-clause-room c =
    let i = c.pass.inside in
    let t = c.args.pass.now in
    let keeps = c.requires.keeps in
    let p = picked i.hands.items t.hands c.args.actor c.in-Some.hand c.index_mut.result.now (ap (λ (x : PassView). x.hands) c.pass.view_is)
    keeps c.index_mut.ensures.value c.in-Some.is in
    subst (λ (x : Handful). 0 < x.room) p.is c.requires.reserved

pub invariant_of-pass : goal.invariant_of-pass
invariant_of-pass c =
    let i = c.pass.inside in
    let t = c.args.pass.now in
    let keeps = c.requires.keeps in
    let p = picked i.hands.items t.hands c.args.actor c.in-Some.hand c.index_mut.result.now (ap (λ (x : PassView). x.hands) c.pass.view_is)
    keeps c.index_mut.ensures.value c.in-Some.is in
    let after = pass_after i.seat.me.0 i.hands.items c.pass.invariant.1 c.args.actor c.in-Some.hand p.hold c.args.kind c.perform-answer.result
    c.perform-answer.new.seat.me.0 c.advance.new.hand c.perform-answer.ensures.acted c.advance.ensures.core c.advance.ensures.room
    (subst (λ (x : Handful). 0 < x.room) p.is c.requires.reserved) in
    (c.perform-answer.ensures.seat.1 ∙ c.pass.invariant.0, after)

pub returns-clause-acts : goal.returns-clause-acts
returns-clause-acts c =
    let i = c.pass.inside in
    let t = c.args.pass.now in
    let keeps = c.requires.keeps in
    let p = picked i.hands.items t.hands c.args.actor c.in-Some.hand c.index_mut.result.now (ap (λ (x : PassView). x.hands) c.pass.view_is)
    keeps c.index_mut.ensures.value c.in-Some.is in
    let acts = acts_of i.seat.me.0 i.hands.items c.pass.invariant.1 c.args.actor c.in-Some.hand p.hold c.args.kind c.perform-answer.result
    c.perform-answer.new.seat.me.0 c.advance.new.hand c.perform-answer.ensures.acted c.advance.ensures.core c.advance.ensures.room
    (subst (λ (x : Handful). 0 < x.room) p.is c.requires.reserved) i.seat.table_id in
    subst
    (λ (x : PassView). Acts c.args.kind c.perform-answer.result (seat_of x c.args.actor)
    (seat_of (record { table = i.seat.table_id; knows = c.perform-answer.new.seat.me.0; hands = set i.hands.items c.args.actor (Some c.advance.new.hand) })
    c.args.actor)) c.pass.view_is acts

pub returns-clause-room : goal.returns-clause-room
returns-clause-room c =
    let i = c.pass.inside in
    let t = c.args.pass.now in
    let keeps = c.requires.keeps in
    let p = picked i.hands.items t.hands c.args.actor c.in-Some.hand c.index_mut.result.now (ap (λ (x : PassView). x.hands) c.pass.view_is)
    keeps c.index_mut.ensures.value c.in-Some.is in
    let room = keeps_room i.seat.me.0 i.hands.items c.pass.invariant.1 c.args.actor c.in-Some.hand p.hold c.args.kind c.perform-answer.result
    c.perform-answer.new.seat.me.0 c.advance.new.hand c.perform-answer.ensures.acted c.advance.ensures.core c.advance.ensures.room
    (subst (λ (x : Handful). 0 < x.room) p.is c.requires.reserved) i.seat.table_id in
    subst
    (λ (x : PassView). KeepsRoom (seat_of x c.args.actor)
    (seat_of (record { table = i.seat.table_id; knows = c.perform-answer.new.seat.me.0; hands = set i.hands.items c.args.actor (Some c.advance.new.hand) })
    c.args.actor)) c.pass.view_is room

pub returns-clause-put : goal.returns-clause-put
returns-clause-put c =
    let i = c.pass.inside in
    let t = c.args.pass.now in
    let keeps = c.requires.keeps in
    let p = picked i.hands.items t.hands c.args.actor c.in-Some.hand c.index_mut.result.now (ap (λ (x : PassView). x.hands) c.pass.view_is)
    keeps c.index_mut.ensures.value c.in-Some.is in
    let seat = c.perform-answer.new.seat in
    puts t (record { table = seat.table_id; knows = seat.me.0; hands = set i.hands.items c.args.actor (Some c.advance.new.hand) }) c.args.actor i.hands.items
    c.in-Some.hand c.advance.new.hand (c.perform-answer.ensures.seat.0 ∙ ap (λ (x : PassView). x.table) c.pass.view_is)
    (ap (λ (v : Known). v.start) c.perform-answer.ensures.acted.view ∙ ap (λ (x : PassView). x.knows.start) c.pass.view_is)
    (ap (λ (x : PassView). x.hands) c.pass.view_is) p.hold refl

pub returns-clause-knows : goal.returns-clause-knows
returns-clause-knows c =
    let i = c.pass.inside in
    let t = c.args.pass.now in
    let keeps = c.requires.keeps in
    let p = picked i.hands.items t.hands c.args.actor c.in-Some.hand c.index_mut.result.now (ap (λ (x : PassView). x.hands) c.pass.view_is)
    keeps c.index_mut.ensures.value c.in-Some.is in
    c.perform-answer.ensures.acted.view
    ∙ (λ j. moved mmu c.args.actor (sym p.is j).core c.args.kind c.perform-answer.result (ap (λ (x : PassView). x.knows) c.pass.view_is j))
