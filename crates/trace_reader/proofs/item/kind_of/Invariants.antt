use Rattle.std.proofs.Common.{◌≡◌, ◌≤◌, ◌+◌, map, length}
use Rattle.trace_reader.specs.Items.{kind_number, number_among}
use Rattle.trace_reader.proofs.item.kind_of.Given as goal

abbrev pub invariant-loop-rest : goal.invariant-loop-rest
invariant-loop-rest l = record {
  so_far : number_among l.code (map (λ w. w.now) l.rest) l.word ≡ kind_number l.word;
  low : 1 ≤ l.code;
  high : l.code + length l.rest ≤ 42;
}

abbrev pub decreases-loop-rest : goal.decreases-loop-rest
decreases-loop-rest l = length l.rest
