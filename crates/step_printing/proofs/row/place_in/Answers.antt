use Rattle.std.proofs.Common.{rules}
use Rattle.step_printing.proofs.Places.{place_is}
use Rattle.step_printing.proofs.row.place_in.Goals as goal

pub returns-then-word-total : goal.returns-then-word-total
returns-then-word-total c =
    place_is c.args.map.now c.args.word c.place_of.result (search rules) c.place_of.ensures.at c.place_of.ensures.within
