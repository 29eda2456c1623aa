-- Which frame a line takes that moves its page while all other actors rest.
use Rattle.std.specs.Prelude.{List, [], ◌∷◌, ◌++◌}
use Rattle.core_views.specs.declared.kind.Kind.{Kind}
use Rattle.core_views.specs.declared.sizes.Sizes.{Sizes}
use Rattle.core_views.specs.declared.trace.Line.{Line}
use Rattle.core_views.specs.Alone.{TakeLowest}
use Rattle.core_views.specs.Flat.{first_flat}
use Rattle.core_views.specs.Held.{Held}
use Rattle.mmu_core.specs.alone.LineAlone.{LineAlone}
use Rattle.mmu_core.specs.machine.Enabled.{mmu}
use Rattle.mmu_core.specs.machine.Machine.{Legal, May, Step, World, run}
use Rattle.mmu_core.specs.machine.Worlds.{IsStart, history}

-- Where each move so far took the lowest frame that no page names, and none was refused a frame while there was one, so it is after one more step of a line
-- that runs alone.
abbrev pub MovesAloneTakeLowest : Type 0
MovesAloneTakeLowest =
    (z : Sizes) (lines : List Line) (w : World Held) (ss : List (Step Kind)) (s : Step Kind) → IsStart z lines w → Legal mmu w ss
    → LineAlone z (run mmu w ss) s.actor → May mmu (run mmu w ss) s → TakeLowest z first_flat (history w ss)
    → TakeLowest z first_flat (history w (ss ++ s ∷ []))
