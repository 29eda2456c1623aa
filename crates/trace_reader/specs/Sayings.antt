-- What a line after the header says, by its words.
use Rattle.std.specs.Prelude.{ℕ, List, [], ◌∷◌, Bool, if◌then◌else◌, codes, Result, Ok, Err}
use Rattle.std.specs.List.{list_any}
use Rattle.std.specs.Str.{bytes_eq}
use Rattle.core_views.specs.Traces.{IsCommandOf, IsItemOf}
use Rattle.core_views.specs.declared.trace.Header.{Header}
use Rattle.trace_reader.specs.declared.reason.Reason.{Reason}
use Rattle.trace_reader.specs.declared.reason.Reason.TheVariants as reason
use Rattle.trace_reader.specs.declared.saying.Saying.{Saying}
use Rattle.trace_reader.specs.declared.saying.Saying.TheVariants.{Does, Go, Schedules}
use Rattle.trace_reader.specs.Operands.{◌>>=◌}
use Rattle.trace_reader.specs.Forms.{by_form, is_empty, words_of}
use Rattle.trace_reader.specs.Items.{item_said}

-- `go`, where it wasn't seen before; the words are those behind it
abbrev pub go_said : Bool → List (List ℕ) → Result Saying Reason
go_said go_seen [] = if go_seen then Err reason.Word else Ok Go
go_said go_seen _ = Err reason.Word

-- an item of the schedule, by the words behind `>`
unfoldable pub schedule_said : Header → List (List ℕ) → Result Saying Reason
schedule_said h (who ∷ last ∷ []) = item_said h who last >>= λ item. Ok (Schedules item)
schedule_said h _ = Err reason.Word

-- an actor's command
unfoldable pub command_said : Header → List (List ℕ) → Result Saying Reason
command_said h words = by_form h words >>= λ x. Ok (Does x.0 x.1)

-- what these words say, by the first of them; `go_seen`: whether `go` stands on a line before
unfoldable pub by_first : Header → Bool → List (List ℕ) → Result Saying Reason
by_first h go_seen [] = Err reason.Word
by_first h go_seen (first ∷ rest) =
    if bytes_eq first (codes "go") then go_said go_seen rest else
    if bytes_eq first (codes ">") then schedule_said h rest else
    command_said h (first ∷ rest)

-- what the words say, none of which may be empty
unfoldable pub by_words : Header → Bool → List (List ℕ) → Result Saying Reason
by_words h go_seen words = if list_any is_empty words then Err reason.Word else by_first h go_seen words

-- what the bytes of a line say
unfoldable pub said : Header → Bool → List ℕ → Result Saying Reason
said h go_seen bytes = by_words h go_seen (words_of bytes)

-- The header allows it: its actor is declared, and its numbers are in their ranges.
abbrev pub IsSayingOf : Header → Saying → Type 0
IsSayingOf h (Does actor command) = IsCommandOf h actor command
IsSayingOf h Go = Unit {0}
IsSayingOf h (Schedules item) = IsItemOf h item
