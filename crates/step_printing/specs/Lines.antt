-- The lines of a run: one for each turn that is shown, but for turns that share one, and one for each other mark that is.
use Rattle.std.specs.Prelude.{◌≡◌, ◌+◌, ◌/◌, ℕ, Bool, true, false, List, [], ◌∷◌, ◌++◌, ◌==◌, ◌&&◌, not, max, if◌then◌else◌, Option, Some, None}
use Rattle.core_views.specs.declared.answer.Answer.{Answer}
use Rattle.core_views.specs.declared.kind.Kind.{Kind}
use Rattle.core_views.specs.declared.kind.StepKind.TheVariants.{Fill}
use Rattle.core_views.specs.declared.sizes.Sizes.{Sizes}
use Rattle.core_views.specs.Actors.{is_same}
use Rattle.core_views.specs.Held.{Held}
use Rattle.core_views.specs.Kinds.{code_of}
use Rattle.mmu_core.specs.machine.Enabled.{mmu}
use Rattle.mmu_core.specs.machine.Machine.{Step, World, hand_in}
use Rattle.mmu_core.specs.machine.Turns.{line_of}
use Rattle.spte_words.specs.declared.area.Area.{Area}
use Rattle.spte_words.specs.declared.area.Area.TheVariants.{Pool, Content}
use Rattle.spte_words.specs.Areas.{number_of}
use Rattle.step_seats.specs.declared.turn.Turn.{Turn}
use Rattle.step_seats.specs.declared.turn.Turn.TheVariants.{More, Wait, Retry, Done}
use Rattle.step_text.specs.declared.fold.Fold.{Fold}
use Rattle.step_text.specs.declared.row.Row.{Row}
use Rattle.step_text.specs.Endings.{answers_text}
use Rattle.step_text.specs.Folds.{fold_text}
use Rattle.step_text.specs.Rows.{item_text, row_text, rounds_text}
use Rattle.turn_loops.specs.Marks.{Mark, Made, Begins, Rounds, Over}
use Rattle.turn_loops.specs.Weaves.{open_text}
use Rattle.step_printing.specs.Rows.{cause_text, row_of, turn_in}
use Rattle.step_printing.specs.Views.{after_go, after_turn, first_reach, made_by, shows, shows_item, shows_rounds}
use Rattle.step_printing.specs.declared.view.MadeTurn.{MadeTurn}
use Rattle.step_printing.specs.declared.view.Reach.{Reach}
use Rattle.step_printing.specs.declared.view.View.{View}

-- how many words a page of the area has: of the pool, of a frame; the words of other areas are in no page
abbrev pub page_words : Sizes → Area → ℕ
page_words z Pool = 512
page_words z Content = max z.words 1
page_words z _ = 1

-- The words of the two are of one page, and the second's comes right after those of the first.
abbrev pub is_next_word : Sizes → Row → Row → Bool
is_next_word z a b =
    (number_of a.place.area == number_of b.place.area)
    && ((a.place.index + a.count == b.place.index)
    && (a.place.index / page_words z a.place.area == b.place.index / page_words z a.place.area))

-- The first is a store, or several, and the second is one that goes on with it: of the same actor, into the next word, with the same values.
abbrev pub goes_on : Sizes → Row → Row → Bool
goes_on z a b =
    (a.code == code_of Fill) && ((b.code == code_of Fill) && (is_same a.actor b.actor && (is_next_word z a b && ((a.found == b.found) && (a.left == b.left)))))

-- The two are steps of one actor and of one kind, on one word.
abbrev pub is_again : Row → Row → Bool
is_again a b =
    is_same a.actor b.actor
    && ((a.code == b.code) && ((number_of a.place.area == number_of b.place.area) && (a.place.index == b.place.index)))

-- The second's turns are told in the line of the first's: stores that go on, or turns that wait again where these share a line.
abbrev pub shares : View → Sizes → Fold → Fold → Bool
shares v z a b = if a.waits then b.waits && (v.folds && is_again a.row b.row) else not b.waits && goes_on z a.row b.row

-- a row with so many turns more
abbrev pub with_more : Row → ℕ → Row
with_more a count = record a { count = a.count + count }

-- the turns of both
abbrev pub both_of : Fold → Fold → Fold
both_of a b = record { row = with_more a.row b.row.count; last = b.last; waits = a.waits }

-- what a line is of: turns that may share it; one that ends so; or this text
pub data Entry : Type 0 where
  Shared : (fold : Fold) → Entry
  Ended : (row : Row) (ended : List ℕ) → Entry
  Text : (text : List ℕ) → Entry

abbrev pub fold_by : Row → Bool → Fold
fold_by row waits = record { row = row; last = row.first; waits = waits }

-- the line of a turn that ended so
abbrev pub turn_entry : Sizes → Row → Turn Answer → Entry
turn_entry z row More = Shared (fold_by row false)
turn_entry z row (Wait seen) = Shared (fold_by row true)
turn_entry z row (Retry cause) = Ended row (cause_text z cause)
turn_entry z row (Done answer) = Ended row (answers_text answer)

-- A turn is in one line with the next ones that are shown where these share it.
abbrev pub joined : View → Sizes → Entry → List Entry → List Entry
joined v z (Shared a) (Shared b ∷ rest) = if shares v z a b then Shared (both_of a b) ∷ rest else Shared a ∷ (Shared b ∷ rest)
joined v z entry rest = entry ∷ rest

-- lines with this one before them, if it is shown
abbrev pub placed : View → Sizes → Bool → Entry → List Entry → List Entry
placed v z shown entry rest = if shown then joined v z entry rest else rest

-- the turn with this number
abbrev pub made_of : Sizes → ℕ → World Held → Step Kind → MadeTurn
made_of z number w s = made_by (row_of z number w s) (line_of (hand_in mmu w s.actor)).number (turn_in w s)

-- the lines of these marks, before which the run had come so far
abbrev pub entries : View → Sizes → Reach → List Mark → List Entry
entries v z r [] = []
entries v z r (Made w s ∷ more) =
    placed v z (shows v r (made_of z r.number w s)) (turn_entry z (row_of z r.number w s) (turn_in w s))
    (entries v z (after_turn v r (made_of z r.number w s)) more)
entries v z r (Begins item ∷ more) = placed v z (shows_item v r item) (Text (item_text item)) (entries v z (after_go v r) more)
entries v z r (Rounds ∷ more) = placed v z (shows_rounds v r) (Text rounds_text) (entries v z (after_go v r) more)
entries v z r (Over open_ ∷ more) = Text (open_text open_) ∷ entries v z r more

abbrev pub entry_text : Sizes → Entry → List ℕ
entry_text z (Shared fold) = fold_text z fold
entry_text z (Ended row ended) = row_text z row ended
entry_text z (Text text) = text

abbrev pub lines_text : Sizes → List Entry → List ℕ
lines_text z [] = []
lines_text z (entry ∷ rest) = entry_text z entry ++ lines_text z rest

-- the whole text of a run with these marks
abbrev pub steps_text : View → Sizes → List Mark → List ℕ
steps_text v z marks = lines_text z (entries v z first_reach marks)
