use Rattle.std.proofs.Common.{refl, lit≤}
use Rattle.trace_reader.specs.Items.{kind_number}
use Rattle.trace_reader.proofs.item.kind_of.Goals as goal

pub loop-rest-init : goal.loop-rest-init
unfolding kind_number
loop-rest-init c = rw c.as_slice-rest.ensures (record { so_far = refl; low = lit≤ tt; high = lit≤ tt })
