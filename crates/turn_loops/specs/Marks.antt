-- What a run is as it is printed: its turns one after another, and between them where a schedule's items and the rounds begin.
use Rattle.std.specs.Prelude.{List, [], ◌∷◌, Option, Result, Ok, Err}
use Rattle.core_views.specs.declared.kind.Kind.{Kind}
use Rattle.core_views.specs.declared.trace.Item.{Item}
use Rattle.core_views.specs.declared.trace.Line.{Line}
use Rattle.core_views.specs.Held.{Held}
use Rattle.mmu_core.specs.machine.Enabled.{mmu}
use Rattle.mmu_core.specs.machine.Machine.{Step, World, effect}
use Rattle.tdp_io.specs.declared.sink.Stop.{Stop}

pub data Mark : Type 0 where
  Made : (before : World Held) (step : Step Kind) → Mark  -- a turn: in this world its step was made
  Begins : (item : Item) → Mark  -- the turns of this item of the schedule begin
  Rounds : Mark  -- the turns in rounds begin
  Over : (open_ : Option Line) → Mark  -- no turn is left, and this is the first line of the file without an answer, if there is one

-- steps that were made one after another from this world on
abbrev pub turns_from : World Held → List (Step Kind) → List Mark
turns_from w [] = []
turns_from w (s ∷ ss) = Made w s ∷ turns_from (effect mmu w s) ss

-- How a printer came from one state to another: these marks were printed; or it stopped for this while it printed them.
abbrev pub PrintsMarks : {V : Type 0} → (V → List Mark → V → Type 0) → (V → List Mark → Stop → V → Type 0) → List Mark → V → V → Result (Unit {0}) Stop
    → Type 0
PrintsMarks prints stops marks p q (Ok u) = prints p marks q
PrintsMarks prints stops marks p q (Err stop) = stops p marks stop q
