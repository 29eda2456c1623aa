-- The lines of a run's steps.
use Rattle.std.specs.Prelude.{ℕ, List, [], ◌∷◌, ◌++◌, codes}
use Rattle.std.specs.Fmt.{decimal}
use Rattle.core_views.specs.Text.{actor_name}
use Rattle.core_views.specs.declared.sizes.Sizes.{Sizes}
use Rattle.core_views.specs.declared.trace.Item.{Item}
use Rattle.core_views.specs.declared.trace.Until.{Until}
use Rattle.core_views.specs.declared.trace.Until.TheVariants.{Turns, Answered, Made}
use Rattle.trace_reader.specs.Items.{kind_name}
use Rattle.step_text.specs.Names.{span_text, words_text}
use Rattle.step_text.specs.Values.{change_text}
use Rattle.step_text.specs.declared.row.Row.{Row}

-- the kind of step, its words, and the value found there and left
abbrev pub told_text : Sizes → Row → List ℕ
told_text z row =
    kind_name row.code ++ (codes " " ++ (words_text z row.place row.count ++ (codes " " ++ change_text row.place.area row.role row.found row.left)))

-- the number of the turn, or of the first and the last one; the actor; its step; what is told of how the turn ended; and LF
unfoldable pub row_text : Sizes → Row → List ℕ → List ℕ
row_text z row ended =
    span_text (codes "-") row.first row.count ++ (codes " " ++ (actor_name row.actor ++ (codes " " ++ (told_text z row ++ (ended ++ 10 ∷ [])))))

-- until when the turns of an item go on
abbrev pub until_text : Until → List ℕ
until_text (Turns count) = decimal count
until_text Answered = codes "end"
until_text (Made code) = kind_name code

-- an item of the schedule, as a trace has it, and LF
abbrev pub item_text : Item → List ℕ
item_text item = codes "> " ++ (actor_name item.actor ++ (codes " " ++ (until_text item.until ++ 10 ∷ [])))

-- stands where the schedule is used up, and the rounds begin
abbrev pub rounds_text : List ℕ
rounds_text = codes "rounds" ++ 10 ∷ []
