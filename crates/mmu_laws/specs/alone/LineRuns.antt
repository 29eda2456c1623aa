-- A list of steps that runs one line alone.
use Rattle.std.specs.Prelude.{◌≡◌, List, [], ◌∷◌, Option, Some}
use Rattle.core_views.specs.declared.answer.Answer.{Answer}
use Rattle.core_views.specs.declared.kind.Kind.{Kind}
use Rattle.core_views.specs.declared.trace.Line.{Line}
use Rattle.core_views.specs.Alone.{StandsAlone}
use Rattle.core_views.specs.Held.{Held}
use Rattle.core_views.specs.Text.{answers_of}
use Rattle.mmu_core.specs.machine.Enabled.{mmu}
use Rattle.mmu_core.specs.machine.Machine.{Legal, Step, World, run}
use Rattle.mmu_core.specs.machine.Turns.{with_answer}
use Rattle.mmu_core.specs.machine.Worlds.{history}

-- The steps may be made from this world on, and lead to the world after; they tell this line from its begin to its answer, and
-- nothing else, and the answer is this one.
pub record RunsLine (line : Line) (answer : Answer) (steps : List (Step Kind)) (before : World Held) (behind : Option (World Held)) : Type 0 where
  pub legal : Legal mmu before steps
  pub ends : behind ≡ Some (run mmu before steps)
  pub alone : StandsAlone (history before steps) (line ∷ [])
  pub answers : answers_of (history before steps) ≡ with_answer line answer ∷ []
