use Rattle.std.proofs.Common.{◌∙◌, ap, subst, sym}
use Rattle.std.specs.Prelude.{IfSome}
use Rattle.std.proofs.lemmas.Grind.{merely}
use Rattle.step_seats.specs.Where.{HasHand}
use Rattle.table_seats.specs.Rule.{Holds}
use Rattle.table_seats.specs.Passes.{PassView, hand_at, world_told}
use Rattle.table_seats.proofs.HandLists.{some-held}
use Rattle.table_seats.proofs.Places.{kept, read_as, place_below}
use Rattle.table_seats.proofs.Passes.{pass_has, pass_reached}
use Rattle.table_seats.proofs.pass.Pass.hand.Goals as goal

pub index-requires : goal.index-requires
index-requires c =
    place_below _ c.self.inside.hands.items c.args.self.now.hands c.args.actor c.self.inside.hands.ok.0 (ap (λ (x : PassView). x.hands) c.self.view_is)
    c.requires.keeps

pub unreachable-requires : goal.unreachable-requires
unreachable-requires c =
    let t = c.args.self.now in
    c.in_default.not-Some (hand_at t.hands c.args.actor)
    (read_as c.self.inside.hands.items t.hands c.args.actor c.index.result.now (ap (λ (x : PassView). x.hands) c.self.view_is) c.requires.keeps c.index.ensures)

pub returns-clause-hand : goal.returns-clause-hand
returns-clause-hand c =
    let t = c.args.self.now in
    let r = read_as c.self.inside.hands.items t.hands c.args.actor c.index.result.now (ap (λ (x : PassView). x.hands) c.self.view_is) c.requires.keeps
    c.index.ensures in
    sym (some-held (sym r ∙ c.in-Some.is))

pub returns-clause-room : goal.returns-clause-room
returns-clause-room c =
    let t = c.args.self.now in
    let h = hand_at t.hands c.args.actor in
    let hold = subst (λ (x : PassView). Holds x.hands c.args.actor h) (sym c.self.view_is) (kept t.hands c.args.actor c.requires.keeps) in
    c.self.invariant.1.rooms c.args.actor h hold

pub returns-clause-reached : goal.returns-clause-reached
returns-clause-reached c =
    let t = c.args.self.now in
    let h = hand_at t.hands c.args.actor in
    let hold = subst (λ (x : PassView). Holds x.hands c.args.actor h) (sym c.self.view_is) (kept t.hands c.args.actor c.requires.keeps) in
    merely (pass_reached c.self.inside.seat.me.0 c.self.inside.hands.items c.self.invariant.1 c.args.actor h hold)

pub returns-clause-has : goal.returns-clause-has
returns-clause-has c =
    let t = c.args.self.now in
    let h = hand_at t.hands c.args.actor in
    let hold = subst (λ (x : PassView). Holds x.hands c.args.actor h) (sym c.self.view_is) (kept t.hands c.args.actor c.requires.keeps) in
    subst (λ (x : PassView). IfSome (world_told x.knows) (HasHand c.args.actor h.core)) c.self.view_is
    (pass_has c.self.inside.seat.me.0 c.self.inside.hands.items c.self.invariant.1 c.args.actor h hold)
