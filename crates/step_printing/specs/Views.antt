-- Which marks of a run are shown: a turn where all that is asked for holds of it.
use Rattle.std.specs.Prelude.{◌+◌, ℕ, Bool, true, false, ◌==◌, ◌&&◌, ◌||◌, not, nat_le, Option, Some, None, is_some}
use Rattle.core_views.specs.declared.actor.Actor.{Actor}
use Rattle.core_views.specs.declared.trace.Item.{Item}
use Rattle.core_views.specs.Actors.{is_same}
use Rattle.show_options.specs.declared.asked.Bound.{Bound}
use Rattle.show_options.specs.declared.asked.Bound.TheVariants as bound
use Rattle.spte_words.specs.Areas.{number_of}
use Rattle.step_seats.specs.declared.turn.Turn.{Turn}
use Rattle.step_seats.specs.declared.turn.Turn.TheVariants.{More, Wait, Retry, Done}
use Rattle.step_text.specs.declared.row.Row.{Row}
use Rattle.step_text.specs.declared.word_place.WordPlace.{WordPlace}
use Rattle.step_printing.specs.declared.view.MadeTurn.{MadeTurn}
use Rattle.step_printing.specs.declared.view.Reach.{Reach}
use Rattle.step_printing.specs.declared.view.View.{View}

-- The line waits, begins anew or is answered.
abbrev pub stops : {A : Type 0} → Turn A → Bool
stops More = false
stops _ = true

abbrev pub answers : {A : Type 0} → Turn A → Bool
answers (Done answer) = true
answers _ = false

-- the turn of this row and this line, which ended so
abbrev pub made_by : {A : Type 0} → Row → ℕ → Turn A → MadeTurn
made_by row line turn = record { row = row; line = line; stops = stops turn; answers = answers turn }

-- It is of the only actor that is asked for, if one is; so below of a kind of step, and of a word.
abbrev pub is_of : Option Actor → Actor → Bool
is_of None actor = true
is_of (Some only) actor = is_same only actor

abbrev pub is_kind : Option ℕ → ℕ → Bool
is_kind None code = true
is_kind (Some only) code = only == code

abbrev pub is_at : Option WordPlace → WordPlace → Bool
is_at None place = true
is_at (Some only) place = (number_of only.area == number_of place.area) && (only.index == place.index)

-- It changed its word, or its line doesn't just go on.
abbrev pub is_change : MadeTurn → Bool
is_change m = m.stops || not (m.row.found == m.row.left)

-- The first turn that is shown is this one, of this line, or stands before it.
abbrev pub begins_turn : Option Bound → ℕ → ℕ → Bool
begins_turn None number line = true
begins_turn (Some bound.Go) number line = false
begins_turn (Some (bound.Turn first)) number line = nat_le first number
begins_turn (Some (bound.Line first)) number line = first == line

-- The last turn that is shown is this one, or stands before it. That of a line is the one with which it is answered.
abbrev pub ends_turn : Option Bound → ℕ → MadeTurn → Bool
ends_turn None number m = false
ends_turn (Some bound.Go) number m = false
ends_turn (Some (bound.Turn last)) number m = nat_le last number
ends_turn (Some (bound.Line last)) number m = (last == m.line) && m.answers

-- The lines below `go` begin at the first item, or where the rounds begin.
abbrev pub begins_go : Option Bound → Bool
begins_go None = true
begins_go (Some bound.Go) = true
begins_go (Some _) = false

abbrev pub ends_go : Option Bound → Bool
ends_go (Some bound.Go) = true
ends_go _ = false

abbrev pub first_reach : Reach
first_reach = record { number = 1; begun = false; over = false }

-- how far the run has come after a turn, and where an item or the rounds begin
abbrev pub after_turn : View → Reach → MadeTurn → Reach
after_turn v r m = record {
  number = r.number + 1;
  begun = r.begun || begins_turn v.from r.number m.line;
  over = r.over || ends_turn v.to r.number m;
}

abbrev pub after_go : View → Reach → Reach
after_go v r = record { number = r.number; begun = r.begun || begins_go v.from; over = r.over || ends_go v.to }

-- A turn is shown from the first one on up to the last, where it is of the actor, the kind and the word that are asked for; and where only
-- changes are asked for, it is one.
abbrev pub shows : View → Reach → MadeTurn → Bool
shows v r m =
    (r.begun || begins_turn v.from r.number m.line) && (not r.over && (is_of v.actor m.row.actor && (is_kind v.kind m.row.code
    && (is_at v.word m.row.place && (not v.changes || is_change m)))))

-- Items stand among the turns where not only steps of one kind, or of one word, are asked for.
abbrev pub lists_items : View → Bool
lists_items v = not (is_some v.kind) && not (is_some v.word)

abbrev pub shows_rounds : View → Reach → Bool
shows_rounds v r = (after_go v r).begun && (not (after_go v r).over && lists_items v)

-- an item of an actor that is shown
abbrev pub shows_item : View → Reach → Item → Bool
shows_item v r item = shows_rounds v r && is_of v.actor item.actor
