use Rattle.std.proofs.Common.{◌<◌, ◌∙◌, Some, ap, refl, set, subst, sym}
use Rattle.std.specs.Prelude.{OnOk}
use Rattle.core_views.specs.Held.{Handful}
use Rattle.step_seats.proofs.Rooms.{reserve_has_room}
use Rattle.table_seats.specs.Passes.{PassView, hand_at}
use Rattle.table_seats.proofs.Passes.{pass_reserved, puts, room_refused}
use Rattle.table_seats.proofs.Places.{hand_put, picked, read_as, place_below}
use Rattle.table_seats.proofs.pass.Pass.reserve.Goals as goal

pub index_mut-requires : goal.index_mut-requires
index_mut-requires c =
    place_below _ c.self.inside.hands.items c.args.self.now.hands c.args.actor c.self.inside.hands.ok.0 (ap (λ (x : PassView). x.hands) c.self.view_is)
    c.requires.keeps

pub unreachable-requires : goal.unreachable-requires
unreachable-requires c =
    let t = c.args.self.now in
    c.in_default.not-Some (hand_at t.hands c.args.actor)
    (read_as c.self.inside.hands.items t.hands c.args.actor c.index_mut.result.now (ap (λ (x : PassView). x.hands) c.self.view_is) c.requires.keeps
    c.index_mut.ensures.value)

pub invariant_of-self : goal.invariant_of-self
invariant_of-self c =
    let i = c.self.inside in
    let keeps = c.requires.keeps in
    let p = picked i.hands.items c.args.self.now.hands c.args.actor c.in-Some.hand c.index_mut.result.now
    (ap (λ (x : PassView). x.hands) c.self.view_is) keeps c.index_mut.ensures.value c.in-Some.is in
    let rooms = c.self.invariant.1.rooms c.args.actor c.in-Some.hand p.hold in
    let room = reserve_has_room c.reserve.result c.in-Some.hand c.reserve.new.self c.reserve.ensures.core c.reserve.ensures.room c.reserve.ensures.refused
    rooms in
    let after = pass_reserved i.seat.me.0 i.hands.items c.self.invariant.1 c.args.actor c.in-Some.hand p.hold c.reserve.new.self c.reserve.ensures.core room in
    (c.self.invariant.0, after)

pub returns-clause-put : goal.returns-clause-put
returns-clause-put c =
    let i = c.self.inside in
    let keeps = c.requires.keeps in
    let p = picked i.hands.items c.args.self.now.hands c.args.actor c.in-Some.hand c.index_mut.result.now
    (ap (λ (x : PassView). x.hands) c.self.view_is) keeps c.index_mut.ensures.value c.in-Some.is in
    puts c.args.self.now
    (record { table = i.seat.table_id; knows = i.seat.me.0; hands = set i.hands.items c.args.actor (Some c.reserve.new.self) }) c.args.actor i.hands.items
    c.in-Some.hand c.reserve.new.self (ap (λ (x : PassView). x.table) c.self.view_is) (ap (λ (x : PassView). x.knows.start) c.self.view_is)
    (ap (λ (x : PassView). x.hands) c.self.view_is) p.hold refl

pub returns-clause-core : goal.returns-clause-core
returns-clause-core c =
    let i = c.self.inside in
    let keeps = c.requires.keeps in
    let p = picked i.hands.items c.args.self.now.hands c.args.actor c.in-Some.hand c.index_mut.result.now
    (ap (λ (x : PassView). x.hands) c.self.view_is) keeps c.index_mut.ensures.value c.in-Some.is in
    ap (λ (x : Handful). x.core) (hand_put i.hands.items c.args.actor c.in-Some.hand c.reserve.new.self p.hold)
    ∙ (c.reserve.ensures.core ∙ ap (λ (x : Handful). x.core) (sym p.is))

pub returns-clause-room : goal.returns-clause-room
returns-clause-room c =
    let i = c.self.inside in
    let keeps = c.requires.keeps in
    let p = picked i.hands.items c.args.self.now.hands c.args.actor c.in-Some.hand c.index_mut.result.now
    (ap (λ (x : PassView). x.hands) c.self.view_is) keeps c.index_mut.ensures.value c.in-Some.is in
    subst (λ (x : Handful). OnOk c.reserve.result (0 < x.room))
    (sym (hand_put i.hands.items c.args.actor c.in-Some.hand c.reserve.new.self p.hold)) c.reserve.ensures.room

pub returns-clause-refused : goal.returns-clause-refused
returns-clause-refused c =
    let i = c.self.inside in
    let keeps = c.requires.keeps in
    let p = picked i.hands.items c.args.self.now.hands c.args.actor c.in-Some.hand c.index_mut.result.now
    (ap (λ (x : PassView). x.hands) c.self.view_is) keeps c.index_mut.ensures.value c.in-Some.is in
    room_refused c.reserve.result c.in-Some.hand c.reserve.new.self (hand_at c.args.self.now.hands c.args.actor)
    (hand_at (set i.hands.items c.args.actor (Some c.reserve.new.self)) c.args.actor) p.is
    (hand_put i.hands.items c.args.actor c.in-Some.hand c.reserve.new.self p.hold) c.reserve.ensures.refused
