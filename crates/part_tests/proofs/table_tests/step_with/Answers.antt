use Rattle.std.proofs.Common.{◌∙◌, ap, subst}
use Rattle.table_seats.specs.Boards.{Around, BoardView, Fits}
use Rattle.part_tests.proofs.table_tests.step_with.Goals as goal

pub returns : goal.returns
returns c =
    let same = ap (λ (a : Around). a.board) c.step.ensures.same ∙ c.seat-seat.ensures.0 in
    record { fits = subst (λ (b : BoardView). Fits b c.into_pass.result) same c.into_pass.ensures.fits }
