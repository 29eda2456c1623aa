use Rattle.std.proofs.Common.{◌≡◌, ◌<◌, ◌∙◌, ap, length, refl, set, subst, sym}
use Rattle.core_views.specs.declared.sizes.Sizes.{Sizes}
use Rattle.core_views.specs.Held.{Handful}
use Rattle.mmu_core.specs.machine.Enabled.{Enabled}
use Rattle.step_seats.specs.Acts.{Acts}
use Rattle.step_seats.specs.Machines.{KeepsSizes, seat_in}
use Rattle.step_seats.specs.Moves.{KeepsRoom, handful_in}
use Rattle.step_seats.specs.Seats.{Seat}
use Rattle.table_seats.specs.Boards.{BoardView}
use Rattle.table_seats.specs.Owners.{OwnerView, machine_of}
use Rattle.table_seats.specs.Passes.{Known, PassView, steps_told}
use Rattle.table_seats.proofs.Owners.{as_many, handful_is, keeps_each, others_stay, owns_after, seat_is, owner_after}
use Rattle.table_seats.proofs.machine.TableMachineMachineOwner.make_step.Goals as goal

abbrev seen : Sizes → BoardView → PassView → OwnerView
seen z b t = record { sizes = z; board = b; pass = t }

pub act-answer-requires-clause-keeps : goal.act-answer-requires-clause-keeps
act-answer-requires-clause-keeps c =
    let m = seen c.self.inside.sizes c.self.inside.board c.self.inside.pass in
    keeps_each m c.self.invariant.0 c.args.index (subst (λ (x : OwnerView). c.args.index < length (machine_of x).hands) (sym c.self.view_is) c.requires.there)

pub act-answer-requires-clause-enabled : goal.act-answer-requires-clause-enabled
act-answer-requires-clause-enabled c =
    subst (λ (h : Handful). Enabled h.core c.args.kind) (handful_is c.self.inside.pass.hands c.args.index)
    (subst (λ (x : OwnerView). Enabled (handful_in (machine_of x).hands c.args.index).core c.args.kind) (sym c.self.view_is) c.requires.enabled)

pub act-answer-requires-clause-reserved : goal.act-answer-requires-clause-reserved
act-answer-requires-clause-reserved c =
    subst (λ (h : Handful). 0 < h.room) (handful_is c.self.inside.pass.hands c.args.index)
    (subst (λ (x : OwnerView). 0 < (handful_in (machine_of x).hands c.args.index).room) (sym c.self.view_is) c.requires.reserved)

pub invariant_of-self : goal.invariant_of-self
invariant_of-self c =
    let m = seen c.self.inside.sizes c.self.inside.board c.self.inside.pass in
    let act = c.act-answer in
    let owns = owns_after m c.self.invariant.0 act.new.pass c.args.index act.ensures.put
    (ap (λ (v : Known). v.alone) act.ensures.knows ∙ c.self.invariant.0.alone) c.holds.ensures in
    (owns, c.self.invariant.1)

pub returns-clause-acts : goal.returns-clause-acts
returns-clause-acts c =
    let m = seen c.self.inside.sizes c.self.inside.board c.self.inside.pass in
    let act = c.act-answer in
    let owns = owns_after m c.self.invariant.0 act.new.pass c.args.index act.ensures.put
    (ap (λ (v : Known). v.alone) act.ensures.knows ∙ c.self.invariant.0.alone) c.holds.ensures in
    let acts = subst (λ (s : Seat × Seat). Acts c.args.kind act.result s.0 s.1)
    (λ i. (
      seat_is m c.self.invariant.0 c.args.index i,
      seat_is
          (owner_after m c.self.invariant.0 act.new.pass c.args.index act.ensures.put) owns c.args.index i,
    )) act.ensures.acts in
    subst
    (λ (x : OwnerView). Acts c.args.kind act.result (seat_in (machine_of x) (steps_told x.pass.knows) c.args.index)
    (seat_in (machine_of (seen m.sizes m.board act.new.pass)) (steps_told act.new.pass.knows) c.args.index)) c.self.view_is acts

pub returns-clause-room : goal.returns-clause-room
returns-clause-room c =
    let m = seen c.self.inside.sizes c.self.inside.board c.self.inside.pass in
    let act = c.act-answer in
    let owns = owns_after m c.self.invariant.0 act.new.pass c.args.index act.ensures.put
    (ap (λ (v : Known). v.alone) act.ensures.knows ∙ c.self.invariant.0.alone) c.holds.ensures in
    let room = subst (λ (s : Seat × Seat). KeepsRoom s.0 s.1)
    (λ i. (
      seat_is m c.self.invariant.0 c.args.index i,
      seat_is
          (owner_after m c.self.invariant.0 act.new.pass c.args.index act.ensures.put) owns c.args.index i,
    )) act.ensures.room in
    subst
    (λ (x : OwnerView). KeepsRoom (seat_in (machine_of x) (steps_told x.pass.knows) c.args.index)
    (seat_in (machine_of (seen m.sizes m.board act.new.pass)) (steps_told act.new.pass.knows) c.args.index)) c.self.view_is room

pub returns-clause-others : goal.returns-clause-others
returns-clause-others c =
    let m = seen c.self.inside.sizes c.self.inside.board c.self.inside.pass in
    let after = (machine_of (seen m.sizes m.board c.act-answer.new.pass)).hands in
    subst (λ (x : OwnerView). after ≡ set (machine_of x).hands c.args.index (handful_in after c.args.index)) c.self.view_is
    (others_stay m c.self.invariant.0 c.act-answer.new.pass c.args.index c.act-answer.ensures.put)

pub returns-clause-same : goal.returns-clause-same
returns-clause-same c =
    let m = seen c.self.inside.sizes c.self.inside.board c.self.inside.pass in
    subst (λ (x : OwnerView). KeepsSizes (machine_of x) (machine_of (seen m.sizes m.board c.act-answer.new.pass))) c.self.view_is
    (refl, as_many m c.self.invariant.0 c.act-answer.new.pass c.args.index c.act-answer.ensures.put)
