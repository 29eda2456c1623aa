-- What became of an actor's turn on the machine, and how it was printed.
use Rattle.std.specs.Prelude.{◌≡◌, ◌⊎◌, ℕ, List, [], ◌∷◌, Bool, true, false, if◌then◌else◌, Option, Some, None, IfSome, Result, Ok, Err}
use Rattle.core_views.specs.declared.actor.Actor.{Actor}
use Rattle.core_views.specs.declared.answer.Answer.{Answer}
use Rattle.core_views.specs.declared.kind.Kind.{Kind}
use Rattle.core_views.specs.declared.sizes.Sizes.{Sizes}
use Rattle.core_views.specs.declared.trace.Line.{Line}
use Rattle.core_views.specs.Held.{Held}
use Rattle.core_views.specs.Sizes.{index_of}
use Rattle.core_views.specs.Text.{line_text, text}
use Rattle.mmu_core.specs.machine.Enabled.{mmu}
use Rattle.mmu_core.specs.machine.Machine.{Legal, Step, World, answered, hand_in, run}
use Rattle.mmu_core.specs.machine.Steps.{has_line, task_of}
use Rattle.part_steps.specs.Tasks.{kind_of_task}
use Rattle.mmu_core.specs.machine.Turns.{line_of}
use Rattle.mmu_core.specs.machine.Worlds.{history}
use Rattle.step_seats.specs.declared.turn.Turn.{Turn}
use Rattle.step_seats.specs.declared.turn.Turn.TheVariants.{More, Wait, Retry, Done}
use Rattle.tdp_io.specs.declared.sink.Stop.{Stop}
use Rattle.step_seats.specs.LineTurns.{AnswersBy, Says}
use Rattle.turn_loops.specs.Given.{told_in}
use Rattle.turn_loops.specs.Marks.{Mark, Made, turns_from}
use Rattle.turn_loops.specs.Replays.{RanOn}
use Rattle.turn_loops.specs.Turning.{HasNoLineLeft, IsTurn, stops as line_stops_with}
use Rattle.turn_loops.specs.declared.turning.TurnMade.{TurnMade}
use Rattle.turn_loops.specs.declared.turning.Turned.{Turned}
use Rattle.turn_loops.specs.declared.turning.Turned.TheVariants.{NoLine, Went, Stopped}

-- the line that the hand's next step is of, if it has one left
abbrev pub open_line : Held → Option Line
open_line h = if has_line h then Some (line_of h) else None

-- the number of the kind of this step
abbrev pub next_code_in : Held → ℕ
next_code_in h = (kind_of_task h.state.sizes (task_of h)).code

-- Steps that may be made one after another lead from one world to the other, and what they tell has this text.
pub record ComesTo (before : World Held) (ss : List (Step Kind)) (after : World Held) (bytes : List ℕ) : Type 0 where
  pub legal : Legal mmu before ss
  pub ends : run mmu before ss ≡ after
  pub prints : bytes ≡ text (history before ss)

-- The turn answers the line, waits or begins anew.
abbrev pub is_stop : Turn Answer → Bool
is_stop More = false
is_stop (Wait seen) = true
is_stop (Retry cause) = true
is_stop (Done answer) = true

-- what is printed of it
abbrev pub turn_text : ℕ → Actor → Turn Answer → List ℕ
turn_text number actor (Done answer) = line_text number actor answer
turn_text number actor _ = []

-- The actor made a turn, with which its line stops or not, and this is printed.
pub record MakesTurn (actor : ℕ) (before after : World Held) (stop : Bool) (bytes : List ℕ) : Type 0 where
  pub step : Step Kind
  pub turn : IsTurn actor before step
  pub stops_ : line_stops_with before step ≡ stop
  pub comes : ComesTo before (step ∷ []) after bytes

-- The turn was one of the line that the actor's hand had under way, or else of its next one, which has this number and is this actor's. That
-- line's next step was made, and the turn answers by it: the line goes on, or the hand has its answer.
pub record IsTurnOf (number : ℕ) (whose : Actor) (turn : Turn Answer) (actor : ℕ) (before after : World Held) : Type 0 where
  pub number_is : number ≡ (line_of (hand_in mmu before actor)).number
  pub whose_is : whose ≡ (line_of (hand_in mmu before actor)).actor
  pub makes : MakesTurn actor before after (is_stop turn) (turn_text number whose turn)
  pub answers : AnswersBy turn (hand_in mmu before actor) (answered mmu before makes.step.kind)
  pub says : Says turn (line_of (hand_in mmu before actor)) (hand_in mmu before actor) (hand_in mmu after actor)

abbrev pub TurnedOn : Option TurnMade → ℕ → World Held → World Held → Type 0
TurnedOn None actor before after = HasNoLineLeft actor before × (after ≡ before)
TurnedOn (Some made) actor before after = IsTurnOf made.number made.actor (told_in made.turn actor before after) actor before after

-- the same of the worlds that a seat tells, before the turn and after it
abbrev pub TurnedTold : Option TurnMade → ℕ → Option (World Held) → Option (World Held) → Type 0
TurnedTold made actor told tells = IfSome told (λ w. (t : World Held) × (tells ≡ Some t) × TurnedOn made actor w t)

-- The actor's turn was made and printed. Where that stopped, no step was made, or the turn was.
abbrev pub PrintsTurn :
    {V : Type 0} → (V → List Mark → V → Type 0) → (V → List Mark → Stop → V → Type 0) → ℕ → World Held → World Held → V → V → Result Turned Stop → Type 0
PrintsTurn prints stops actor before after p q (Ok NoLine) = HasNoLineLeft actor before × (after ≡ before) × prints p [] q
PrintsTurn prints stops actor before after p q (Ok Went) =
    (bytes : List ℕ) × (M : MakesTurn actor before after false bytes) × prints p (Made before M.step ∷ []) q
PrintsTurn prints stops actor before after p q (Ok Stopped) =
    (bytes : List ℕ) × (M : MakesTurn actor before after true bytes) × prints p (Made before M.step ∷ []) q
PrintsTurn prints stops actor before after p q (Err stop) =
    ((after ≡ before) × stops p [] stop q)
    ⊎ ((bytes : List ℕ) × (line_stops : Bool) × (M : MakesTurn actor before after line_stops bytes) × stops p (Made before M.step ∷ []) stop q)

-- The line ran alone to its answer, and its turns were printed. Where that stopped, no step was made, or the line ran.
abbrev pub PrintsLine :
    {V : Type 0} → (V → List Mark → V → Type 0) → (V → List Mark → Stop → V → Type 0) → Sizes → Line → World Held → World Held → V → V
    → Result (Unit {0}) Stop → Type 0
PrintsLine prints stops z line before after p q (Ok u) =
    (answer : Answer) × (R : RanOn z line answer (index_of z line.actor) before after) × prints p (turns_from before R.steps) q
PrintsLine prints stops z line before after p q (Err stop) =
    ((after ≡ before) × stops p [] stop q)
    ⊎ ((answer : Answer) × (R : RanOn z line answer (index_of z line.actor) before after) × stops p (turns_from before R.steps) stop q)

-- Steps of which this holds lead from one world to the other, and their marks were printed; or, where that stopped, steps of which that holds
-- were made, and their marks were being printed.
abbrev pub PrintsRun :
    {V : Type 0} → (V → List Mark → V → Type 0) → (V → List Mark → Stop → V → Type 0) → (World Held → List (Step Kind) → List Mark → Type 0)
    → (World Held → List (Step Kind) → List Mark → Type 0) → World Held → World Held → V → V → Result (Unit {0}) Stop → Type 0
PrintsRun prints stops whole part before after p q (Ok u) =
    (ss : List (Step Kind)) × (bytes : List ℕ) × (marks : List Mark) × whole before ss marks × ComesTo before ss after bytes × prints p marks q
PrintsRun prints stops whole part before after p q (Err stop) =
    (ss : List (Step Kind)) × (bytes : List ℕ) × (marks : List Mark) × part before ss marks × ComesTo before ss after bytes × stops p marks stop q
