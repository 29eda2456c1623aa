use Rattle.std.proofs.Common.{◌≡◌, List, ◌++◌, string_bytes}
use Rattle.core_views.specs.declared.answer.AnsweredLine.{AnsweredLine}
use Rattle.core_views.specs.Text.{lines_text}
use Rattle.closing_text.proofs.ByLine.{ArePut}
use Rattle.closing_text.proofs.by_line.push_by_line.Given as goal

abbrev pub invariant-loop-line : goal.invariant-loop-line
invariant-loop-line l =
    (answers : List AnsweredLine) × ArePut l.sizes l.lines l.hands l.line-index l.put.items answers
    × (string_bytes l.text ≡ string_bytes l.initial.text ++ lines_text answers)
