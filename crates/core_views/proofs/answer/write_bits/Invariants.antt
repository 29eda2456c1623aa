use Rattle.std.proofs.Common.{◌≡◌, List, ℕ, ◌++◌, drop}
use Rattle.std.specs.Fmt.{HasWritten, IsPlainFormatter}
use Rattle.core_views.specs.Text.{bits_text}
use Rattle.core_views.proofs.answer.write_bits.Given as goal

abbrev pub invariant-words : goal.invariant-words
invariant-words g l =
    (done : List ℕ) × (done ++ bits_text (drop l.word-index l.fn.words) ≡ bits_text l.fn.words)
    × (IsPlainFormatter l.initial.f → HasWritten g.W.Write.write_str_gives l.initial.f done l.f)
