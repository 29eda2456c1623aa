-- What a function returns that reads a line or an input, where memory may run out.
use Rattle.std.specs.Prelude.{◌≡◌, ◌≤◌, ◌++◌, ℕ, List, [], ◌∷◌, All, IfSome, length, Result, Ok, Err}
use Rattle.std.specs.declared.option.Option.{Option}
use Rattle.std.specs.declared.option.Option.TheVariants.{Some}
use Rattle.core_views.specs.Traces.{AreLinesOf, IsItemOf}
use Rattle.core_views.specs.declared.trace.Header.{Header}
use Rattle.core_views.specs.declared.trace.Item.{Item}
use Rattle.core_views.specs.declared.trace.Line.{Line}
use Rattle.core_views.specs.declared.trace.Trace.{Trace}
use Rattle.trace_reader.specs.declared.body.Body.{Body}
use Rattle.trace_reader.specs.declared.reason.Reason.{Reason}
use Rattle.trace_reader.specs.declared.refusal.ReadError.{ReadError}
use Rattle.trace_reader.specs.declared.refusal.ReadError.TheVariants as errors
use Rattle.trace_reader.specs.declared.saying.Saying.{Saying}
use Rattle.trace_reader.specs.declared.saying.Saying.TheVariants.{Does, Go, Schedules}

-- Want of memory is free; another error is the one that reading gives.
abbrev pub Fails : {Y : Type 0} → ℕ → ReadError → Result Y Reason → Type 0
Fails n errors.NoMemory read = Unit {0}
Fails n (errors.Refused line r) read = (line ≡ n) × (read ≡ Err r)

-- What a function returned for line n, seen by view, is what reading gives, unless memory ran out.
abbrev pub ReadsTo : {X Y : Type 0} → ℕ → (X → Y) → Result X ReadError → Result Y Reason → Type 0
ReadsTo n view (Ok x) read = read ≡ Ok (view x)
ReadsTo n view (Err e) read = Fails n e read

-- The same, where the refusal names its line.
abbrev pub NamesLine : {X Y : Type 0} → (X → Y) → Result X ReadError → Result Y (ℕ × Reason) → Type 0
NamesLine view (Ok x) read = read ≡ Ok (view x)
NamesLine view (Err errors.NoMemory) read = Unit {0}
NamesLine view (Err (errors.Refused line r)) read = read ≡ Err (line, r)

-- the lines, with that of line n after them, if it is an actor's
abbrev pub with_found : List Line → ℕ → Option Saying → List Line
with_found lines n (Some (Does actor command)) = lines ++ record { number = n; actor = actor; command = command } ∷ []
with_found lines n _ = lines

-- the items, with the one that was found after them
abbrev pub with_item : List Item → Option Saying → List Item
with_item items (Some (Schedules item)) = items ++ item ∷ []
with_item items _ = items

-- how many lines stand above `go`, where so many stand above what was found
abbrev pub with_go : ℕ → Option ℕ → Option Saying → Option ℕ
with_go count go (Some Go) = Some count
with_go count go _ = go

-- What line n says was put after what those before it say.
pub record IsPut (before after : Body) (n : ℕ) (found : Option Saying) : Type 0 where
  pub lines : after.lines.items ≡ with_found before.lines.items n found
  pub items : after.items.items ≡ with_item before.items.items found
  pub go : after.go ≡ with_go (length before.lines.items) before.go found

-- The same, unless memory ran out.
abbrev pub PutsSaying : Body → Body → ℕ → Option Saying → Result (Unit {0}) ReadError → Type 0
PutsSaying before after n found (Ok u) = IsPut before after n found
PutsSaying before after n found (Err e) = e ≡ errors.NoMemory

-- the trace of this header and what was read after it
abbrev pub trace_with : Header → Body → Trace
trace_with h b = record { header = h; lines = b.lines.items; go = b.go; items = b.items.items }

-- What was read is in its ranges.
pub record IsBodyOf (h : Header) (b : Body) : Type 0 where
  pub lines : AreLinesOf h b.lines.items
  pub items : All (IsItemOf h) b.items.items
  pub go : IfSome b.go (λ above. above ≤ length b.lines.items)
