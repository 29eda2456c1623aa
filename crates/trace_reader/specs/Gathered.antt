-- What the lines say together: the lines of actors, `go`, and the items of the schedule.
use Rattle.std.specs.Prelude.{◌≡◌, ◌+◌, ℕ, List, [], ◌∷◌}
use Rattle.std.specs.declared.option.Option.{Option}
use Rattle.std.specs.declared.option.Option.TheVariants.{Some, None}
use Rattle.core_views.specs.declared.trace.Item.{Item}
use Rattle.core_views.specs.declared.trace.Line.{Line}
use Rattle.core_views.specs.declared.trace.Trace.{Trace}
use Rattle.trace_reader.specs.declared.saying.Saying.{Saying}
use Rattle.trace_reader.specs.declared.saying.Saying.TheVariants.{Does, Go, Schedules}
use Rattle.trace_reader.specs.Lines.{LineSaid}

-- before these lines that of line n, if it is an actor's
abbrev pub or_line : ℕ → Saying → List Line → List Line
or_line n (Does actor command) lines = record { number = n; actor = actor; command = command } ∷ lines
or_line n Go lines = lines
or_line n (Schedules item) lines = lines

-- the lines of actors, in file order
abbrev pub actor_lines : List LineSaid → List Line
actor_lines [] = []
actor_lines (t ∷ told) = or_line t.0 t.1 (actor_lines told)

-- one more than this, if it is there
abbrev pub one_more_if : Option ℕ → Option ℕ
one_more_if None = None
one_more_if (Some n) = Some (n + 1)

-- how many lines stand above `go`, where so many of those behind this line do
abbrev pub or_go : Saying → Option ℕ → Option ℕ
or_go (Does actor command) above = one_more_if above
or_go Go above = Some 0
or_go (Schedules item) above = above

-- how many lines of actors stand above `go`, if it is there
abbrev pub go_in : List LineSaid → Option ℕ
go_in [] = None
go_in (t ∷ told) = or_go t.1 (go_in told)

-- before these items that of a line, if it says one
abbrev pub or_item : Saying → List Item → List Item
or_item (Does actor command) items = items
or_item Go items = items
or_item (Schedules item) items = item ∷ items

-- the items of the schedule, in file order
abbrev pub items_in : List LineSaid → List Item
items_in [] = []
items_in (t ∷ told) = or_item t.1 (items_in told)

-- The trace has what its lines say.
pub record Gathers (t : Trace) (told : List LineSaid) : Type 0 where
  pub lines : t.lines ≡ actor_lines told
  pub go : t.go ≡ go_in told
  pub items : t.items ≡ items_in told
