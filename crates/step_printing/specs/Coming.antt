-- What is still to come of the lines of a run, where turns may share the last one.
use Rattle.std.specs.Prelude.{◌≡◌, ℕ, Bool, List, [], ◌∷◌, ◌++◌, Option, Some, None}
use Rattle.core_views.specs.declared.answer.Answer.{Answer}
use Rattle.core_views.specs.declared.sizes.Sizes.{Sizes}
use Rattle.step_seats.specs.declared.turn.Turn.{Turn}
use Rattle.step_text.specs.declared.fold.Fold.{Fold}
use Rattle.step_text.specs.Folds.{fold_text}
use Rattle.turn_loops.specs.Marks.{Mark}
use Rattle.step_printing.specs.Lines.{Entry, Shared, Text, entries, joined, lines_text, placed, turn_entry}
use Rattle.step_printing.specs.Views.{after_turn, first_reach, shows}
use Rattle.step_printing.specs.declared.lines.Lines.{Lines}
use Rattle.step_printing.specs.declared.view.MadeTurn.{MadeTurn}
use Rattle.step_printing.specs.declared.view.View.{View}

-- the lines after turns that may share the last one
abbrev pub after_kept : View → Sizes → Option Fold → List Entry → List Entry
after_kept v z None rest = rest
after_kept v z (Some fold) rest = joined v z (Shared fold) rest

-- the text that is still to come: of turns that may share a line, and of these marks
abbrev pub coming_text : Lines → List Mark → List ℕ
coming_text l marks = lines_text l.sizes (after_kept l.view l.sizes l.kept (entries l.view l.sizes l.reach marks))

-- the text of turns that may share a line, where no other shares it
abbrev pub kept_text : Sizes → Option Fold → List ℕ
kept_text z None = []
kept_text z (Some fold) = fold_text z fold

-- The text so far and what is still to come are the same with this entry before and without it after, whatever follows.
abbrev pub PutsEntry : View → Sizes → Option Fold → List ℕ → Entry → Option Fold → List ℕ → Type 0
PutsEntry v z kept before entry after text =
    (rest : List Entry) → text ++ lines_text z (after_kept v z after rest) ≡ before ++ lines_text z (after_kept v z kept (joined v z entry rest))

-- The same of a turn that ended so, if it is shown; and the run has come further.
pub record PutsTurn (l : Lines) (before : List ℕ) (m : MadeTurn) (told : Turn Answer) (after : Lines) (text : List ℕ) : Type 0 where
  pub sizes : after.sizes ≡ l.sizes
  pub view : after.view ≡ l.view
  pub reach : after.reach ≡ after_turn l.view l.reach m
  pub puts : (rest : List Entry) → text ++ lines_text l.sizes (after_kept l.view l.sizes after.kept rest)
      ≡ before ++ lines_text l.sizes (after_kept l.view l.sizes l.kept (placed l.view l.sizes (shows l.view l.reach m) (turn_entry l.sizes m.row told) rest))

-- The same of a mark.
pub record PutsMark (l : Lines) (before : List ℕ) (mark : Mark) (after : Lines) (text : List ℕ) : Type 0 where
  pub sizes : after.sizes ≡ l.sizes
  pub puts : (more : List Mark) → text ++ coming_text after more ≡ before ++ coming_text l (mark ∷ more)

-- the lines of a run before its first mark
abbrev pub first_lines : View → Sizes → Lines
first_lines v z = record { sizes = z; view = v; reach = first_reach; kept = None }
