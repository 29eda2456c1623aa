use Rattle.mmu_core.specs.machine.Enabled.{mmu}
use Rattle.table_seats.specs.Boards.{begun}
use Rattle.table_seats.proofs.KeepsSplits.{splits}
use Rattle.table_seats.proofs.calls.cut.Goals as goal

pub split_seat-requires : goal.split_seat-requires
split_seat-requires g c = (
  c.requires.table.0,
  c.requires.table.1,
  splits mmu (begun c.args.shared.now.key) c.args.seat.now.id c.args.seat.now.me.0 c.requires.live g.J.Chosen.actor,
)
