use Rattle.std.proofs.Common.{◌≡◌, ◌<◌, ◌∙◌, ap, length, refl, set, subst, sym}
use Rattle.std.specs.Prelude.{OnErr, OnOk}
use Rattle.core_views.specs.declared.sizes.Sizes.{Sizes}
use Rattle.core_views.specs.Held.{Handful}
use Rattle.step_seats.specs.Machines.{KeepsSizes, world_in}
use Rattle.step_seats.specs.Moves.{handful_in}
use Rattle.table_seats.specs.Boards.{BoardView}
use Rattle.table_seats.specs.Owners.{OwnerView, machine_of}
use Rattle.table_seats.specs.Passes.{Known, PassView, steps_told, world_after}
use Rattle.table_seats.proofs.Owners.{as_many, handful_is, keeps_each, others_stay, owns_after, owner_after, world_is}
use Rattle.table_seats.proofs.machine.TableMachineMachineOwner.reserve.Goals as goal

abbrev seen : Sizes → BoardView → PassView → OwnerView
seen z b t = record { sizes = z; board = b; pass = t }

pub reserve-reserved-requires : goal.reserve-reserved-requires
reserve-reserved-requires c =
    let m = seen c.self.inside.sizes c.self.inside.board c.self.inside.pass in
    record {
      keeps = keeps_each m c.self.invariant.0 c.args.index
          (subst (λ (x : OwnerView). c.args.index < length (machine_of x).hands) (sym c.self.view_is) c.requires.there);
    }

pub invariant_of-self : goal.invariant_of-self
invariant_of-self c =
    let m = seen c.self.inside.sizes c.self.inside.board c.self.inside.pass in
    let took = c.reserve-reserved in
    let owns = owns_after m c.self.invariant.0 took.new.self c.args.index took.ensures.put
    (ap (λ (v : Known). v.alone) took.ensures.knows ∙ c.self.invariant.0.alone) c.holds.ensures in
    (owns, c.self.invariant.1)

pub returns-clause-world : goal.returns-clause-world
returns-clause-world c =
    let m = seen c.self.inside.sizes c.self.inside.board c.self.inside.pass in
    let took = c.reserve-reserved in
    let owns = owns_after m c.self.invariant.0 took.new.self c.args.index took.ensures.put
    (ap (λ (v : Known). v.alone) took.ensures.knows ∙ c.self.invariant.0.alone) c.holds.ensures in
    let after = owner_after m c.self.invariant.0 took.new.self c.args.index took.ensures.put in
    sym (world_is after owns)
    ∙ (ap world_after took.ensures.knows ∙ (world_is m c.self.invariant.0 ∙ ap (λ (x : OwnerView). world_in (machine_of x)) c.self.view_is))

pub returns-clause-steps : goal.returns-clause-steps
returns-clause-steps c = ap steps_told c.reserve-reserved.ensures.knows ∙ ap (λ (x : OwnerView). steps_told x.pass.knows) c.self.view_is

pub returns-clause-hand : goal.returns-clause-hand
returns-clause-hand c =
    let took = c.reserve-reserved in
    ap (λ (h : Handful). h.core) (handful_is took.new.self.hands c.args.index)
    ∙ (took.ensures.core
    ∙ (ap (λ (h : Handful). h.core) (sym (handful_is c.self.inside.pass.hands c.args.index))
    ∙ ap (λ (x : OwnerView). (handful_in (machine_of x).hands c.args.index).core) c.self.view_is))

pub returns-clause-room : goal.returns-clause-room
returns-clause-room c =
    let took = c.reserve-reserved in
    subst (λ (h : Handful). OnOk took.result (0 < h.room)) (sym (handful_is took.new.self.hands c.args.index)) took.ensures.room

pub returns-clause-refused : goal.returns-clause-refused
returns-clause-refused c =
    let took = c.reserve-reserved in
    subst (λ (h : Handful × Handful). OnErr took.result (h.0 ≡ h.1))
    (λ i. (
      sym (handful_is took.new.self.hands c.args.index) i,
      (sym (handful_is c.self.inside.pass.hands c.args.index) ∙ ap (λ (x : OwnerView). handful_in (machine_of x).hands c.args.index) c.self.view_is) i,
    )) took.ensures.refused

pub returns-clause-others : goal.returns-clause-others
returns-clause-others c =
    let m = seen c.self.inside.sizes c.self.inside.board c.self.inside.pass in
    let after = (machine_of (seen m.sizes m.board c.reserve-reserved.new.self)).hands in
    subst (λ (x : OwnerView). after ≡ set (machine_of x).hands c.args.index (handful_in after c.args.index)) c.self.view_is
    (others_stay m c.self.invariant.0 c.reserve-reserved.new.self c.args.index c.reserve-reserved.ensures.put)

pub returns-clause-same : goal.returns-clause-same
returns-clause-same c =
    let m = seen c.self.inside.sizes c.self.inside.board c.self.inside.pass in
    subst (λ (x : OwnerView). KeepsSizes (machine_of x) (machine_of (seen m.sizes m.board c.reserve-reserved.new.self))) c.self.view_is
    (refl, as_many m c.self.invariant.0 c.reserve-reserved.new.self c.args.index c.reserve-reserved.ensures.put)
