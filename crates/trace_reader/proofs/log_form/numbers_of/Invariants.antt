use Rattle.std.proofs.Common.{◌≡◌, map, length}
use Rattle.trace_reader.specs.Operands.{numbers}
use Rattle.trace_reader.proofs.Prefix.{with_prefix}
use Rattle.trace_reader.proofs.log_form.numbers_of.Given as goal

abbrev pub invariant-loop-rest : goal.invariant-loop-rest
invariant-loop-rest l = with_prefix l.numbers.items (numbers (map (λ w. w.now) l.rest)) ≡ numbers (map (λ w. w.now) l.words)

abbrev pub decreases-loop-rest : goal.decreases-loop-rest
decreases-loop-rest l = length l.rest
