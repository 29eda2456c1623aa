use Rattle.std.proofs.Common.{◌≡◌, ◌≤◌, ◌+◌, map, length, string_bytes}
use Rattle.show_options.specs.Asked.{asked_by, read_on}
use Rattle.show_options.proofs.reading.read_words.Given as goal

abbrev pub invariant-loop-rest : goal.invariant-loop-rest
invariant-loop-rest l = record {
  so_far : read_on l.last (map string_bytes l.rest) l.reading ≡ asked_by (map string_bytes l.words);
  room : l.last + length l.rest + 1 ≤ length l.words;
}

abbrev pub decreases-loop-rest : goal.decreases-loop-rest
decreases-loop-rest l = length l.rest
