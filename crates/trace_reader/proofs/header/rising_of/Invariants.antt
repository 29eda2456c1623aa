use Rattle.std.proofs.Common.{◌≡◌, map, length}
use Rattle.trace_reader.specs.Headers.{rising}
use Rattle.trace_reader.proofs.Prefix.{with_prefix}
use Rattle.trace_reader.proofs.header.rising_of.Given as goal

abbrev pub invariant-loop-rest : goal.invariant-loop-rest
invariant-loop-rest l = with_prefix l.hosts.items (rising l.low l.high (map (λ w. w.now) l.rest)) ≡ rising 0 l.high (map (λ w. w.now) l.words)

abbrev pub decreases-loop-rest : goal.decreases-loop-rest
decreases-loop-rest l = length l.rest
