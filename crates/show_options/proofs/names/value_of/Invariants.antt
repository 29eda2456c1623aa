use Rattle.std.proofs.Common.{◌≡◌, true, ◌<◌, ◌^◌, length}
use Rattle.std.specs.List.{list_all}
use Rattle.trace_reader.specs.Numbers.{is_digit, value_after}
use Rattle.show_options.proofs.names.value_of.Given as goal

abbrev pub invariant-loop-rest : goal.invariant-loop-rest
invariant-loop-rest l = (value_after 10 l.total l.rest ≡ value_after 10 0 l.digits) × (list_all is_digit l.rest ≡ true) × (l.total < 2 ^ 64)

abbrev pub decreases-loop-rest : goal.decreases-loop-rest
decreases-loop-rest l = length l.rest
