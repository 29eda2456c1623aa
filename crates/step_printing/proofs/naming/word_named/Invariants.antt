use Rattle.std.proofs.Common.{◌≢◌, ◌<◌, ℕ}
use Rattle.part_steps.specs.Tasks.{map_of}
use Rattle.step_text.specs.Names.{word_text}
use Rattle.step_printing.specs.Rows.{place_in}
use Rattle.step_printing.proofs.naming.word_named.Given as goal

abbrev pub invariant-loop-word : goal.invariant-loop-word
invariant-loop-word l = (k : ℕ) → k < l.word → word_text l.sizes (place_in (map_of l.sizes) k) ≢ l.name
