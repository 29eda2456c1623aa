use Rattle.std.proofs.Common.{◌<◌, ◌∙◌, ap, length, subst, sym}
use Rattle.core_views.specs.declared.sizes.Sizes.{Sizes}
use Rattle.core_views.specs.Held.{Handful}
use Rattle.mmu_core.specs.machine.Worlds.{HandReached}
use Rattle.step_seats.specs.Machines.{world_in}
use Rattle.step_seats.specs.Moves.{HasItsRoom, handful_in}
use Rattle.step_seats.specs.Where.{HasHand}
use Rattle.table_seats.specs.Boards.{BoardView}
use Rattle.table_seats.specs.Owners.{OwnerView, machine_of}
use Rattle.table_seats.specs.Passes.{PassView}
use Rattle.table_seats.proofs.Owners.{handful_is, has_each, keeps_each}
use Rattle.table_seats.proofs.machine.TableMachineMachineOwner.hand.Goals as goal

abbrev seen : Sizes → BoardView → PassView → OwnerView
seen z b t = record { sizes = z; board = b; pass = t }

pub hand-requires : goal.hand-requires
hand-requires c =
    let m = seen c.self.inside.sizes c.self.inside.board c.self.inside.pass in
    record {
      keeps = keeps_each m c.self.invariant.0 c.args.index
          (subst (λ (x : OwnerView). c.args.index < length (machine_of x).hands) (sym c.self.view_is) c.requires.there);
    }

pub returns-clause-hand : goal.returns-clause-hand
returns-clause-hand c =
    c.hand.ensures.hand
    ∙ (sym (handful_is c.self.inside.pass.hands c.args.index) ∙ ap (λ (x : OwnerView). handful_in (machine_of x).hands c.args.index) c.self.view_is)

pub returns-clause-room : goal.returns-clause-room
returns-clause-room c =
    subst (λ (x : OwnerView). HasItsRoom (handful_in (machine_of x).hands c.args.index).core (handful_in (machine_of x).hands c.args.index).room) c.self.view_is
    (subst (λ (h : Handful). HasItsRoom h.core h.room) (sym (handful_is c.self.inside.pass.hands c.args.index)) c.hand.ensures.room)

pub returns-clause-reached : goal.returns-clause-reached
returns-clause-reached c =
    subst (λ (x : OwnerView). ∥ HandReached (handful_in (machine_of x).hands c.args.index).core ∥₁) c.self.view_is
    (subst (λ (h : Handful). ∥ HandReached h.core ∥₁) (sym (handful_is c.self.inside.pass.hands c.args.index)) c.hand.ensures.reached)

pub returns-clause-has : goal.returns-clause-has
returns-clause-has c =
    let m = seen c.self.inside.sizes c.self.inside.board c.self.inside.pass in
    subst (λ (x : OwnerView). HasHand c.args.index (handful_in (machine_of x).hands c.args.index).core (world_in (machine_of x))) c.self.view_is
    (has_each m c.self.invariant.0 c.args.index c.hand.ensures.has)
