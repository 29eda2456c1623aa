-- What holds of the lines of a run.
use Rattle.std.specs.Prelude.{◌≡◌, ◌+◌, ℕ, Bool, zero, suc, true, false, List, [], ◌∷◌, ◌++◌, if◌then◌else◌, None}
use Rattle.core_views.specs.declared.sizes.Sizes.{Sizes}
use Rattle.step_text.specs.declared.fold.Fold.{Fold}
use Rattle.step_text.specs.declared.row.Row.{Row}
use Rattle.turn_loops.specs.Marks.{Mark, Made, Begins, Rounds, Over}
use Rattle.step_printing.specs.Lines.{Entry, Shared, Ended, Text, both_of, entries, fold_by, made_of, shares}
use Rattle.step_printing.specs.Rows.{row_of}
use Rattle.step_printing.specs.Views.{after_go, after_turn, shows}
use Rattle.step_printing.specs.declared.view.Reach.{Reach}
use Rattle.step_printing.specs.declared.view.View.{View}

-- the row of the turn after this one, where the two are in one line
abbrev pub next_of : Row → Row
next_of row = record row { first = row.first + 1; place = record row.place { index = row.place.index + 1 } }

-- a row for each of so many turns in one line, from this one on
abbrev pub each_turn : ℕ → Row → List Row
each_turn zero row = []
each_turn (suc n) row = record row { count = 1 } ∷ each_turn n (next_of row)

-- the turns that the lines tell
abbrev pub rows_told : List Entry → List Row
rows_told [] = []
rows_told (Shared fold ∷ rest) = each_turn fold.row.count fold.row ++ rows_told rest
rows_told (Ended row ended ∷ rest) = each_turn row.count row ++ rows_told rest
rows_told (Text text ∷ rest) = rows_told rest

-- the turns among these marks, of which the first has this number
abbrev pub rows_made : Sizes → ℕ → List Mark → List Row
rows_made z number [] = []
rows_made z number (Made w s ∷ more) = row_of z number w s ∷ rows_made z (number + 1) more
rows_made z number (Begins item ∷ more) = rows_made z number more
rows_made z number (Rounds ∷ more) = rows_made z number more
rows_made z number (Over open_ ∷ more) = rows_made z number more

-- Nothing is asked for: all turns are shown.
abbrev pub whole_view : View
whole_view = record { from = None; to = None; actor = None; kind = None; word = None; changes = false; folds = false }

-- Where nothing is asked for, the lines of a run tell its turns one for one, those too of which several are in one line.
abbrev pub LinesTellTurns : Type 0
LinesTellTurns = (z : Sizes) (number : ℕ) (begun : Bool) (marks : List Mark)
    → rows_told (entries whole_view z (record { number = number; begun = begun; over = false }) marks) ≡ rows_made z number marks

-- the turns among these marks that are shown
abbrev pub rows_shown : View → Sizes → Reach → List Mark → List Row
rows_shown v z r [] = []
rows_shown v z r (Made w s ∷ more) =
    let later = rows_shown v z (after_turn v r (made_of z r.number w s)) more in
    if shows v r (made_of z r.number w s) then row_of z r.number w s ∷ later else later
rows_shown v z r (Begins item ∷ more) = rows_shown v z (after_go v r) more
rows_shown v z r (Rounds ∷ more) = rows_shown v z (after_go v r) more
rows_shown v z r (Over open_ ∷ more) = rows_shown v z r more

-- The line is of these turns: of one, or of one and of those after it, which share its line.
abbrev pub IsFoldOf : View → Sizes → Fold → List Row → Type 0
IsFoldOf v z fold [] = ⊥
IsFoldOf v z fold (row ∷ []) = fold ≡ fold_by row fold.waits
IsFoldOf v z fold (row ∷ (next ∷ rows)) =
    (after : Fold) × IsFoldOf v z after (next ∷ rows) × (shares v z (fold_by row fold.waits) after ≡ true) × (fold ≡ both_of (fold_by row fold.waits) after)

abbrev pub IsLineOf : View → Sizes → Entry → List Row → Type 0
IsLineOf v z (Shared fold) rows = IsFoldOf v z fold rows
IsLineOf v z (Ended row ended) rows = rows ≡ row ∷ []
IsLineOf v z (Text text) rows = rows ≡ []

-- The lines are of these turns, each line of those that come next.
abbrev pub AreLinesOf : View → Sizes → List Entry → List Row → Type 0
AreLinesOf v z [] rows = rows ≡ []
AreLinesOf v z (entry ∷ rest) rows =
    (own : List Row) × (others : List Row) × (rows ≡ own ++ others) × IsLineOf v z entry own × AreLinesOf v z rest others

-- Whatever is asked for, the lines of a run tell the turns that are shown: each once, in their order.
abbrev pub LinesTellShown : Type 0
LinesTellShown = (v : View) (z : Sizes) (r : Reach) (marks : List Mark) → AreLinesOf v z (entries v z r marks) (rows_shown v z r marks)
