use Rattle.machine_start.proofs.Starts.{StartsBelow}
use Rattle.machine_start.proofs.start.start_words.Given as goal

-- Each word below this one is made.
abbrev pub invariant-loop-word : goal.invariant-loop-word
invariant-loop-word l = StartsBelow l.sizes l.word l.words.items
