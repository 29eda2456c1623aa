-- The lines of a run tell the turns that are shown.
use Rattle.std.proofs.Common.{◌≡◌, ◌++◌, ℕ, List, [], ◌∷◌, refl, ap}
use Rattle.std.specs.Prelude.{Bool, true, false, if◌then◌else◌}
use Rattle.core_views.specs.declared.answer.Answer.{Answer}
use Rattle.core_views.specs.declared.sizes.Sizes.{Sizes}
use Rattle.step_seats.specs.declared.turn.Turn.{Turn}
use Rattle.step_seats.specs.declared.turn.Turn.TheVariants.{More, Wait, Retry, Done}
use Rattle.step_text.specs.declared.row.Row.{Row}
use Rattle.step_text.specs.Rows.{item_text, rounds_text}
use Rattle.turn_loops.specs.Marks.{Mark, Made, Begins, Rounds, Over}
use Rattle.step_printing.specs.Laws.{AreLinesOf, LinesTellShown, rows_shown}
use Rattle.step_printing.specs.Lines.{Entry, Shared, Ended, Text, both_of, entries, fold_by, joined, made_of, placed, shares, turn_entry}
use Rattle.step_printing.specs.Rows.{row_of, turn_in}
use Rattle.step_printing.specs.Views.{after_go, after_turn, shows, shows_item, shows_rounds}
use Rattle.step_printing.specs.declared.view.Reach.{Reach}
use Rattle.step_printing.specs.declared.view.View.{View}

module _ (v : View) (z : Sizes) where
  -- A turn that may share its line comes before these lines.
  shared_tells : (row : Row) (waits : Bool) (rest : List Entry) (rows : List Row) → AreLinesOf v z rest rows
      → AreLinesOf v z (joined v z (Shared (fold_by row waits)) rest) (row ∷ rows)
  shared_tells row waits [] rows lines = (row ∷ [], rows, refl, refl, lines)
  shared_tells row waits (Text text ∷ rest) rows lines = (row ∷ [], rows, refl, refl, lines)
  shared_tells row waits (Ended b ended ∷ rest) rows lines = (row ∷ [], rows, refl, refl, lines)
  shared_tells row waits (Shared b ∷ rest) rows lines = by (shares v z (fold_by row waits) b) refl lines
    where
      by : (t : Bool) → shares v z (fold_by row waits) b ≡ t → AreLinesOf v z (Shared b ∷ rest) rows
          → AreLinesOf v z (if t then Shared (both_of (fold_by row waits) b) ∷ rest else Shared (fold_by row waits) ∷ (Shared b ∷ rest)) (row ∷ rows)
      by false t all = (row ∷ [], rows, refl, refl, all)
      by true t ([], others, is, line, more) = absurd line
      by true t (next ∷ own, others, is, line, more) =
          (row ∷ (next ∷ own), others, ap (λ (rs : List Row). row ∷ rs) is, (b, line, t, refl), more)

  turn_tells : (row : Row) (told : Turn Answer) (rest : List Entry) (rows : List Row) → AreLinesOf v z rest rows
      → AreLinesOf v z (joined v z (turn_entry z row told) rest) (row ∷ rows)
  turn_tells row More rest rows lines = shared_tells row false rest rows lines
  turn_tells row (Wait seen) rest rows lines = shared_tells row true rest rows lines
  turn_tells row (Retry cause) rest rows lines = (row ∷ [], rows, refl, refl, lines)
  turn_tells row (Done answer) rest rows lines = (row ∷ [], rows, refl, refl, lines)

  placed_tells : (t : Bool) (row : Row) (told : Turn Answer) (rest : List Entry) (rows : List Row) → AreLinesOf v z rest rows
      → AreLinesOf v z (placed v z t (turn_entry z row told) rest) (if t then row ∷ rows else rows)
  placed_tells true row told rest rows lines = turn_tells row told rest rows lines
  placed_tells false row told rest rows lines = lines

  text_tells : (t : Bool) (text : List ℕ) (rest : List Entry) (rows : List Row) → AreLinesOf v z rest rows
      → AreLinesOf v z (placed v z t (Text text) rest) rows
  text_tells true text rest rows lines = ([], rows, refl, refl, lines)
  text_tells false text rest rows lines = lines

  tell : (r : Reach) (marks : List Mark) → AreLinesOf v z (entries v z r marks) (rows_shown v z r marks)
  tell r [] = refl
  tell r (Made w s ∷ more) =
      let m = made_of z r.number w s in
      placed_tells (shows v r m) (row_of z r.number w s) (turn_in w s) (entries v z (after_turn v r m) more) (rows_shown v z (after_turn v r m) more)
      (tell (after_turn v r m) more)
  tell r (Begins item ∷ more) =
      text_tells (shows_item v r item) (item_text item) (entries v z (after_go v r) more) (rows_shown v z (after_go v r) more) (tell (after_go v r) more)
  tell r (Rounds ∷ more) =
      text_tells (shows_rounds v r) rounds_text (entries v z (after_go v r) more) (rows_shown v z (after_go v r) more) (tell (after_go v r) more)
  tell r (Over open_ ∷ more) = ([], rows_shown v z r more, refl, refl, tell r more)

pub shown_tell : LinesTellShown
shown_tell v z r marks = tell v z r marks
