-- The accesses that an actor makes in a history, and what its answers say of them.
use Rattle.std.specs.Prelude.{◌≡◌, ◌⊎◌, ℕ, List, [], ◌∷◌, ◌++◌, filter, map, if◌then◌else◌}
use Rattle.core_views.specs.declared.actor.Actor.{Actor}
use Rattle.core_views.specs.declared.answer.Answer.{Answer}
use Rattle.core_views.specs.declared.answer.Answer.TheVariants.{Reached}
use Rattle.core_views.specs.declared.answer.AnsweredLine.{AnsweredLine}
use Rattle.core_views.specs.declared.event.Event.{Event}
use Rattle.core_views.specs.declared.event.EventKind.{EventKind}
use Rattle.core_views.specs.declared.event.EventKind.TheVariants.{Accessed}
use Rattle.core_views.specs.declared.sizes.Sizes.{Sizes}
use Rattle.core_views.specs.declared.trace.Command.TheVariants.{Access}
use Rattle.core_views.specs.declared.trace.Line.{Line}
use Rattle.core_views.specs.declared.trace.Op.{Op}
use Rattle.core_views.specs.Actors.{is_same}
use Rattle.core_views.specs.Events.{after, after_all}
use Rattle.core_views.specs.Flat.{Flat, HasAccessed, Idle, LineUnderWay, Stage}
use Rattle.core_views.specs.Lawful.{IsLawful}
use Rattle.core_views.specs.Text.{answers_of}
use Rattle.core_views.specs.Whole.{lines_begun, lines_of}

-- an access: the line that its actor has under way then, what is done to which word, the frame that is reached, and the value that stands there before
pub record Made : Type 0 where
  pub line : Line
  pub gfn : ℕ
  pub word : ℕ
  pub op : Op
  pub frame : ℕ
  pub value : ℕ

-- what an answer says of an access: the number of its line, the frame, and the value
pub record Told : Type 0 where
  pub number : ℕ
  pub frame : ℕ
  pub value : ℕ

-- what an answer is to say of it
abbrev pub told : Made → Told
told m = record { number = m.line.number; frame = m.frame; value = m.value }

-- the access that an event of an actor is, where this line is under way, if it is one
abbrev pub made_by : Line → EventKind → List Made
made_by line (Accessed gfn word op frame before) = record { line = line; gfn = gfn; word = word; op = op; frame = frame; value = before } ∷ []
made_by line _ = []

-- the accesses that the history makes by the actor, in its order; the state before it is f
abbrev pub accesses_by : Actor → List Event → Flat → List Made
accesses_by actor [] f = []
accesses_by actor (e ∷ es) f = (if is_same actor e.actor then made_by (f.under actor).line e.kind else []) ++ accesses_by actor es (after e f)

-- what the answer of the line with the number says of its access, if it says that it reached a frame
abbrev pub told_by : ℕ → Answer → List Told
told_by number (Reached frame value) = record { number = number; frame = frame; value = value } ∷ []
told_by number _ = []

-- the accesses of which the answers say that they reached a frame, in the order of the answers
abbrev pub told_in : List AnsweredLine → List Told
told_in [] = []
told_in (x ∷ xs) = told_by x.number x.answer ++ told_in xs

-- the lines of the actor that the history answers, in its order
abbrev pub answers_by : Actor → List Event → List AnsweredLine
answers_by actor history = filter (λ x. is_same actor x.actor) (answers_of history)

-- the access of the line with the number that is under way at this stage, if it was made: the line isn't answered yet
abbrev pub open_at : ℕ → Stage → List Told
open_at number (HasAccessed frame value) = record { number = number; frame = frame; value = value } ∷ []
open_at number _ = []

-- what the answer of the line under way is to say of its access, if that was made
abbrev pub open_access : LineUnderWay → List Told
open_access u = open_at u.line.number u.stage

-- In a lawful history the accesses of an actor that has no line under way before it are those of which the actor's answers say that they reached a frame, each
-- once, in the order of the answers, with that frame and that value, and after them the one of the line that isn't answered yet, if its access was made.
abbrev pub AccessesAreAnswered : Type 0
AccessesAreAnswered = (z : Sizes) (f : Flat) (history : List Event) (actor : Actor) → IsLawful z f history → (f.under actor).stage ≡ Idle
    → map told (accesses_by actor history f) ≡ told_in (answers_by actor history) ++ open_access ((after_all history f).under actor)

-- The access is made by this line, and is what the line asks for.
abbrev pub IsAskedBy : Line → Made → Type 0
IsAskedBy line m = (m.line ≡ line) × (line.command ≡ Access m.gfn m.word m.op)

-- Each of the accesses is what one of the lines asks for, at most one a line, in the order of the lines.
abbrev pub AreAskedBy : List Line → List Made → Type 0
AreAskedBy [] made = made ≡ []
AreAskedBy (line ∷ lines) made =
    AreAskedBy lines made ⊎ ((m : Made) × (rest : List Made) × (made ≡ m ∷ rest) × IsAskedBy line m × AreAskedBy lines rest)

-- In such a history they are what lines ask for that the actor begins in it, at most one a line, in the order in which it begins them.
abbrev pub AccessesAreAsked : Type 0
AccessesAreAsked = (z : Sizes) (f : Flat) (history : List Event) (actor : Actor) → IsLawful z f history → (f.under actor).stage ≡ Idle
    → AreAskedBy (lines_of actor (lines_begun history)) (accesses_by actor history f)
