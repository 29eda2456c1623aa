use Rattle.mmu_core.specs.machine.Steps.{nobody}
use Rattle.table_seats.proofs.seat.TableSeat.split.Given as goal

abbrev pub ghosts-cut : goal.ghosts-cut
ghosts-cut a = record { actor = a._actor; hand = nobody; kind = record { code = 0; word = 0; old = 0; new = 0; note = 0 } }
