use Rattle.std.proofs.Common.{◌≡◌, ◌≤◌, ◌+◌, length}
use Rattle.std.specs.Prelude.{false, is_some}
use Rattle.trace_reader.specs.Lines.{lines_of, parts_of}
use Rattle.trace_reader.specs.Reading.{with_header}
use Rattle.trace_reader.specs.Steps.{IsBodyOf, trace_with}
use Rattle.trace_reader.proofs.Loop.{with_front}
use Rattle.trace_reader.proofs.lines.lines.Given as goal

abbrev pub invariant-loop-rest : goal.invariant-loop-rest
invariant-loop-rest l = record {
  so_far : with_front (trace_with l.header l.body) (with_header l.header (lines_of l.header l.number l.at (is_some l.body.go) (parts_of l.rest)))
      ≡ with_header l.header (lines_of l.header l.fn.number l.fn.at false (parts_of l.bytes));
  room : l.at + length l.rest ≡ l.fn.at + length l.bytes;
  small : l.at ≤ 16777216;
  allowed : IsBodyOf l.header l.body;
  counted : l.number ≤ l.at + 2;
  few : length l.body.lines.items ≤ l.at;
}

abbrev pub decreases-loop-rest : goal.decreases-loop-rest
decreases-loop-rest l = length l.rest
