-- What one step makes of its actor's hand: the line goes on, or it is answered.
use Rattle.std.specs.Prelude.{◌≡◌, ℕ, [], ◌∷◌, ◌++◌}
use Rattle.core_views.specs.declared.answer.Answer.{Answer}
use Rattle.core_views.specs.declared.answer.AnsweredLine.{AnsweredLine}
use Rattle.core_views.specs.declared.place.Place.TheVariants.{Between}
use Rattle.core_views.specs.declared.trace.Line.{Line}
use Rattle.core_views.specs.Held.{Held}
use Rattle.mmu_core.specs.declared.outcome.Outcome.{Outcome}
use Rattle.mmu_core.specs.declared.outcome.Outcome.TheVariants.{Goes, Ends}
use Rattle.mmu_core.specs.lines.Rests.{IsUnderWay}
use Rattle.mmu_core.specs.machine.Steps.{line_at, place_at}
use Rattle.mmu_core.specs.lines.Forms.{outcome_at}

-- the line that the hand's next step is of
abbrev pub line_of : Held → Line
line_of h = line_at h.state.place h

-- where this line stands after the hand's next step, which answered v
abbrev pub outcome_of : Held → ℕ → Outcome
outcome_of h v = outcome_at (place_at h.state.place h) (line_of h).command h v

-- the line, answered so
abbrev pub with_answer : Line → Answer → AnsweredLine
with_answer line answer = record { number = line.number; actor = line.actor; answer = answer }

-- What no step changes in a hand: whose it is, the sizes of its machine, its lines.
pub record IsSameHand (before after : Held) : Type 0 where
  pub actor : after.state.actor ≡ before.state.actor
  pub sizes : after.state.sizes ≡ before.state.sizes
  pub lines : after.lines ≡ before.lines

-- The line is under way, and has no answer yet.
pub record GoesOn (line : Line) (before after : Held) : Type 0 where
  pub under_way : IsUnderWay after.state.place
  pub line_is : after.state.line ≡ line
  pub answers : after.answers ≡ before.answers

-- The line is answered so, after the answers before it, and no line is under way.
pub record IsAnswered (line : Line) (answer : Answer) (before after : Held) : Type 0 where
  pub between : after.state.place ≡ Between
  pub answers : after.answers ≡ before.answers ++ with_answer line answer ∷ []

abbrev pub Comes : Outcome → Line → Held → Held → Type 0
Comes (Goes p) line before after = GoesOn line before after
Comes (Ends answer) line before after = IsAnswered line answer before after
