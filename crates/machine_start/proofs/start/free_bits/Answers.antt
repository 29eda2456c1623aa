use Rattle.std.proofs.Common.{◌≤◌, ◌^◌, arith}
use Rattle.std.proofs.Math.Nat.{pow-le-pow_right}
use Rattle.machine_start.proofs.Starts.{least_rises}
use Rattle.machine_start.proofs.start.free_bits.Goals as goal

-- No more bits are in use than there are.
pub overflow_sub-result : goal.overflow_sub-result
overflow_sub-result c =
    let rises =
    least_rises 64 c.saturating_sub-2.result c.saturating_sub.result
    (omega (arith, c.saturating_sub-2.ensures, c.saturating_sub.ensures, c.requires.order)) in
    let order : c.least-2.result ≤ c.least.result = rw (c.least-2.ensures, c.least.ensures) rises in
    let powers : 2 ^ c.least-2.result ≤ 2 ^ c.least.result = pow-le-pow_right (omega arith) order in
    omega (arith, powers, c.low_bits-used.ensures, c.low_bits-set.ensures)
