-- Where a line stands after a step, and what it is answered.
use Rattle.std.specs.Prelude.{List, [], ◌∷◌, ◌++◌}
use Rattle.core_views.specs.declared.answer.AnsweredLine.{AnsweredLine}
use Rattle.core_views.specs.declared.event.EventKind.{EventKind}
use Rattle.core_views.specs.declared.event.EventKind.TheVariants.{Answered}
use Rattle.core_views.specs.declared.place.Place.{Place}
use Rattle.core_views.specs.declared.place.Place.TheVariants.{Between}
use Rattle.core_views.specs.declared.trace.Line.{Line}
use Rattle.mmu_core.specs.declared.outcome.Outcome.{Outcome}
use Rattle.mmu_core.specs.declared.outcome.Outcome.TheVariants.{Goes, Ends}

-- where the line stands after the step, and the answers after it
abbrev pub place_after : Outcome → Place
place_after (Goes p) = p
place_after (Ends answer) = Between

abbrev pub answers_after : Outcome → Line → List AnsweredLine → List AnsweredLine
answers_after (Goes p) line answers = answers
answers_after (Ends answer) line answers = answers ++ record { number = line.number; actor = line.actor; answer = answer } ∷ []

-- the event of an answer
abbrev pub answering : Outcome → Line → List EventKind
answering (Goes p) line = []
answering (Ends answer) line = Answered line.number answer ∷ []
