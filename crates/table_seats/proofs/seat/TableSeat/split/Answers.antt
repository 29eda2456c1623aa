use Rattle.std.proofs.Common.{◌∙◌, List, None, Option, ap, length, length-set, set, subst, sym}
use Rattle.core_views.specs.Held.{Handful}
use Rattle.table_seats.specs.Boards.{BoardView}
use Rattle.table_seats.specs.Rule.{Holds, only, with_only, without}
use Rattle.table_seats.specs.Passes.{hand_at, IsPass, Known, PassView}
use Rattle.table_seats.proofs.HandLists.{only-length}
use Rattle.table_seats.proofs.Places.{kept}
use Rattle.table_seats.proofs.Crossing.{pass_only, pass_without}
use Rattle.table_seats.proofs.seat.TableSeat.split.Goals as goal

pub take_hand-requires : goal.take_hand-requires
take_hand-requires c =
    let t = c.args.pass.now in
    let h = hand_at t.hands c.args.actor in
    (h, subst (λ (x : PassView). Holds x.hands c.args.actor h) (sym c.pass.view_is) (kept t.hands c.args.actor c.requires.keeps))

pub cut-seat-requires-clause-table : goal.cut-seat-requires-clause-table
cut-seat-requires-clause-table c = (
  ap (λ (t : PassView). t.table) c.pass.view_is ∙ (c.requires.fits.table ∙ sym (ap (λ (b : BoardView). b.table) c.board.view_is)),
  c.board.invariant.some,
)

pub cut-seat-requires-clause-live : goal.cut-seat-requires-clause-live
cut-seat-requires-clause-live c = c.pass.invariant.1.live

pub invariant_of-result : goal.invariant_of-result
invariant_of-result c =
    let me = c.cut-seat.ensures.new.1 in let hands = (c.in_ok-hands.ensures {u = tt}).taken.0 in (
      ap (λ m. m.1) me,
      subst (λ (x : Known × List (Option Handful)). IsPass x.0 x.1) (λ i. (sym (ap (λ m. m.0) me) i, sym hands i))
          (pass_only c.pass.inside.seat.me.0 c.pass.inside.hands.items c.pass.invariant.1 c.args.actor),
    )

pub invariant_of-pass-2 : goal.invariant_of-pass-2
invariant_of-pass-2 c =
    let me = c.cut-seat.ensures.old.1 in let hands = (c.in_ok-hands.ensures {u = tt}).taken.1 in (
      ap (λ m. m.1) me ∙ c.pass.invariant.0,
      subst (λ (x : Known × List (Option Handful)). IsPass x.0 x.1) (λ i. (sym (ap (λ m. m.0) me) i, sym hands i))
          (pass_without c.pass.inside.seat.me.0 c.pass.inside.hands.items c.pass.invariant.1 c.args.actor),
    )

pub returns-clause-given : goal.returns-clause-given
returns-clause-given c =
    let me = c.cut-seat.ensures.new.1 in let hands = (c.in_ok-hands.ensures {u = tt}).taken.0 in (
      record {
        table = c.cut-seat.ensures.new.0 ∙ (ap (λ (t : PassView). t.table) c.pass.view_is ∙ c.requires.fits.table);
        start = ap (λ m. m.0.start) me ∙ (ap (λ (t : PassView). t.knows.start) c.pass.view_is ∙ c.requires.fits.start);
        wide =
            ap (λ (l : List (Option Handful)). length l) hands
            ∙ (only-length c.pass.inside.hands.items c.args.actor ∙ (ap (λ (t : PassView). length t.hands) c.pass.view_is ∙ c.requires.fits.wide));
      },
      ap (λ m. m.0) me ∙ ap (λ (t : PassView). with_only c.args.actor t.knows) c.pass.view_is,
      hands ∙ ap (λ (t : PassView). only t.hands c.args.actor) c.pass.view_is,
    )

pub returns-clause-left : goal.returns-clause-left
returns-clause-left c =
    let none : Option Handful = None in
    let me = c.cut-seat.ensures.old.1 in let hands = (c.in_ok-hands.ensures {u = tt}).taken.1 in (
      record {
        table = c.cut-seat.ensures.old.0 ∙ (ap (λ (t : PassView). t.table) c.pass.view_is ∙ c.requires.fits.table);
        start = ap (λ m. m.0.start) me ∙ (ap (λ (t : PassView). t.knows.start) c.pass.view_is ∙ c.requires.fits.start);
        wide =
            ap (λ (l : List (Option Handful)). length l) hands
            ∙ (length-set c.pass.inside.hands.items c.args.actor none ∙ (ap (λ (t : PassView). length t.hands) c.pass.view_is ∙ c.requires.fits.wide));
      },
      ap (λ m. m.0) me ∙ ap (λ (t : PassView). without c.args.actor t.knows) c.pass.view_is,
      hands ∙ ap (λ (t : PassView). set t.hands c.args.actor none) c.pass.view_is,
    )
