-- The lines of turns of one actor that are told in one line.
use Rattle.std.specs.Prelude.{◌+◌, ℕ, List, [], ◌∷◌, ◌++◌, ◌==◌, codes, nat_lt, if◌then◌else◌}
use Rattle.std.specs.Fmt.{decimal}
use Rattle.core_views.specs.Text.{actor_name}
use Rattle.core_views.specs.declared.sizes.Sizes.{Sizes}
use Rattle.trace_reader.specs.Items.{kind_name}
use Rattle.step_text.specs.Endings.{waits_text}
use Rattle.step_text.specs.Names.{span_text, word_text}
use Rattle.step_text.specs.Rows.{told_text}
use Rattle.step_text.specs.declared.fold.Fold.{Fold}
use Rattle.step_text.specs.declared.row.Row.{Row}

-- the numbers of so many turns: with `-` where each turn from the first to the last is one of them, else with `..`
abbrev pub turns_text : ℕ → ℕ → ℕ → List ℕ
turns_text first count last =
    if last + 1 == first + count then span_text (codes "-") first count else decimal first ++ (codes ".." ++ decimal last)

-- several turns that wait at a word: the kind of step, the word, and how many they are
abbrev pub waits_times_text : Sizes → Row → List ℕ
waits_times_text z row =
    kind_name row.code ++ (codes " " ++ (word_text z row.place ++ (codes " waits " ++ (decimal row.count ++ codes " times"))))

-- what the turns of a fold do; of one turn that waits, and of stores, the values found and left are told
abbrev pub doing_text : Sizes → Fold → List ℕ
doing_text z f =
    if f.waits then (if nat_lt f.row.count 2 then told_text z f.row ++ waits_text else waits_times_text z f.row) else told_text z f.row

-- the numbers of the turns, their actor, what they do, and LF
unfoldable pub fold_text : Sizes → Fold → List ℕ
fold_text z f =
    turns_text f.row.first f.row.count f.last ++ (codes " " ++ (actor_name f.row.actor ++ (codes " " ++ (doing_text z f ++ 10 ∷ []))))
