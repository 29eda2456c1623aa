use Rattle.std.proofs.Common.{◌∙◌, List, Option, ap, arith, length, subst, sym}
use Rattle.core_views.specs.Held.{Handful}
use Rattle.mmu_core.specs.machine.Enabled.{mmu}
use Rattle.table_seats.specs.Boards.{begun}
use Rattle.table_seats.specs.Boards.{BoardView}
use Rattle.table_seats.specs.Passes.{IsPass, Known, PassView}
use Rattle.table_seats.proofs.Crossing.{pass_joined}
use Rattle.table_seats.proofs.HandLists.{overlay-length}
use Rattle.table_seats.proofs.KeepsJoins.{joins}
use Rattle.table_seats.proofs.seat.TableSeat.join.Goals as goal

pub merge-requires : goal.merge-requires
merge-requires c =
    let a = ap (λ (t : PassView). length t.hands) c.pass.view_is ∙ c.requires.fits.wide in
    let b = ap (λ (t : PassView). length t.hands) c.other.view_is ∙ c.requires.other.wide in omega (arith, a, b)

pub join_seat-requires : goal.join_seat-requires
join_seat-requires c =
    let b = ap (λ (p : BoardView). p.table) c.board.view_is in (
      ap (λ (t : PassView). t.table) c.pass.view_is ∙ (c.requires.fits.table ∙ sym b),
      ap (λ (t : PassView). t.table) c.other.view_is ∙ (c.requires.other.table ∙ sym b),
      c.other.invariant.0,
      c.board.invariant.some,
      joins mmu (begun c.board.inside.table.shared.key) c.pass.inside.seat.id c.pass.inside.seat.me.0 c.pass.invariant.1.live c.other.inside.seat.id
          c.other.inside.seat.me.0,
    )

pub invariant_of-pass : goal.invariant_of-pass
invariant_of-pass c =
    let me = c.join_seat.ensures.2 in
    let same = ap (λ (t : PassView). t.knows.start) c.other.view_is
    ∙ (c.requires.other.start ∙ sym (ap (λ (t : PassView). t.knows.start) c.pass.view_is ∙ c.requires.fits.start)) in (
      ap (λ m. m.1) me ∙ c.pass.invariant.0,
      subst (λ (x : Known × List (Option Handful)). IsPass x.0 x.1) (λ i. (sym (ap (λ m. m.0) me) i, sym c.merge.ensures i))
          (pass_joined c.pass.inside.seat.me.0 c.other.inside.seat.me.0 c.pass.inside.hands.items c.other.inside.hands.items same c.pass.invariant.1
          c.other.invariant.1),
    )

pub returns-clause-fits : goal.returns-clause-fits
returns-clause-fits c =
    let me = c.join_seat.ensures.2 in
    record {
      table = c.join_seat.ensures.0 ∙ (ap (λ (t : PassView). t.table) c.pass.view_is ∙ c.requires.fits.table);
      start = ap (λ m. m.0.start) me ∙ (ap (λ (t : PassView). t.knows.start) c.pass.view_is ∙ c.requires.fits.start);
      wide =
          ap (λ (l : List (Option Handful)). length l) c.merge.ensures
          ∙ (overlay-length c.pass.inside.hands.items c.other.inside.hands.items
          ∙ (ap (λ (t : PassView). length t.hands) c.pass.view_is ∙ c.requires.fits.wide));
    }
