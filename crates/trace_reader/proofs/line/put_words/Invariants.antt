-- The words so far, and those of what is left, are the words of the line.
use Rattle.std.proofs.Common.{◌≡◌, ◌≤◌, ◌++◌, length, map}
use Rattle.trace_reader.specs.Forms.{words_of}
use Rattle.trace_reader.proofs.line.put_words.Given as goal

abbrev pub invariant-loop-end : goal.invariant-loop-end
invariant-loop-end l = record { words : map (λ w. w.now) l.words.items ++ words_of l.rest ≡ words_of l.line; shorter : length l.rest ≤ length l.line }

abbrev pub decreases-loop-end : goal.decreases-loop-end
decreases-loop-end l = length l.rest
