use Rattle.std.proofs.Common.{◌≡◌, ◌+◌, drop}
use Rattle.trace_reader.specs.Items.{kind_names, kind_number, number_among}
use Rattle.show_options.proofs.names.kind_named.Given as goal

abbrev pub invariant-loop-before : goal.invariant-loop-before
invariant-loop-before l = number_among (l.before + 1) (drop l.before kind_names) l.word ≡ kind_number l.word
