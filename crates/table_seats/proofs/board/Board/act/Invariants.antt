use Rattle.table_seats.proofs.board.Board.act.Given as goal

abbrev pub ghosts-perform : goal.ghosts-perform
ghosts-perform a = record { actor = a._actor; hand = a._hand.now.core; kind = a.kind }
