-- What is printed of a run where only answers are: of a turn that answers its line this answer, and at the end the first line without one.
use Rattle.std.specs.Prelude.{◌≡◌, ◌≤◌, ℕ, List, [], ◌∷◌, ◌++◌, Bool, true, false, Option, Err, length}
use Rattle.std.specs.Io.KnownBytes.{Appends}
use Rattle.core_views.specs.Text.{text}
use Rattle.mmu_core.specs.machine.Worlds.{history}
use Rattle.tdp_io.specs.declared.sink.Stop.{Stop}
use Rattle.tdp_io.specs.declared.sink.Stop.TheVariants.{Failed, NoMemory}
use Rattle.tdp_io.specs.Ends.{WroteFaults, is_failed}
use Rattle.turn_loops.specs.Marks.{Mark, Made, Begins, Rounds, Over}
use Rattle.weave_engine.specs.Pieces.{WritesMost, most_waiting}
use Rattle.turn_loops.specs.Turning.{AnswersLine}
use Rattle.turn_loops.specs.Weaves.{open_text}

abbrev pub answer_text_of : Mark → List ℕ
answer_text_of (Made before step) = text (history before (step ∷ []))
answer_text_of (Begins item) = []
answer_text_of Rounds = []
answer_text_of (Over open_) = open_text open_

abbrev pub answers_text : List Mark → List ℕ
answers_text [] = []
answers_text (m ∷ ms) = answer_text_of m ++ answers_text ms

-- Something is put there: the turn answers its line, or no turn is left.
abbrev pub PutsText : Mark → Type 0
PutsText (Made before step) = AnswersLine before step
PutsText (Begins item) = ⊥
PutsText Rounds = ⊥
PutsText (Over open_) = Unit {0}

-- Something is put at the last of these marks.
pub record EndsWithText (marks : List Mark) : Type 0 where
  pub before : List Mark
  pub last : Mark
  pub are : marks ≡ before ++ last ∷ []
  pub puts : PutsText last

-- Why the printing stops at these marks: a write fails only where one is tried; memory may be refused anywhere.
abbrev pub MayStopAt : Stop → List Mark → Type 0
MayStopAt Failed marks = EndsWithText marks
MayStopAt NoMemory marks = Unit {0}

abbrev pub is_over : Mark → Bool
is_over (Over open_) = true
is_over _ = false

-- The last of these marks is the end of the run.
abbrev pub ends_over : List Mark → Bool
ends_over [] = false
ends_over (m ∷ []) = is_over m
ends_over (m ∷ n ∷ ms) = ends_over (n ∷ ms)

-- What waited and the text of these marks was written, but for what waits after it, which is little, and nothing at the end of the run.
abbrev pub PutsAnswers : Option (List ℕ) → Option (List ℕ) → List ℕ → List ℕ → List Mark → Type 0
PutsAnswers before after waited waits marks =
    (written : List ℕ) × Appends before after written × (written ++ waits ≡ waited ++ answers_text marks) × (length waits ≤ most_waiting)
    × (ends_over marks ≡ true → waits ≡ [])

-- It was written but for little, and it may stop there for this.
pub record StopsAnswers (before after : Option (List ℕ)) (waited : List ℕ) (marks : List Mark) (stop : Stop) : Type 0 where
  pub most : WritesMost before after (waited ++ answers_text marks)
  pub may : MayStopAt stop marks

-- No write failed between these counts of failures, and it is so at the end.
abbrev pub NoneFailed : ℕ → ℕ → Bool → Type 0
NoneFailed before now failed = (now ≡ before) × (failed ≡ false)

-- A write failed between them where it stopped for that.
abbrev pub FailedBy : ℕ → ℕ → Bool → Stop → Type 0
FailedBy before now failed stop = WroteFaults {A = Unit {0}} before now (Err stop) × (failed ≡ is_failed {A = Unit {0}} (Err stop))
