-- A line beside other actors, which stand anywhere in their lines: its turns come to an end between its delays: its waits, its new
-- beginnings, and its stays that miss.
use Rattle.std.specs.Prelude.{◌≡◌, ◌⊎◌, ◌+◌, ◌<◌, ◌≤◌, ℕ, Bool, true, false, List, [], ◌∷◌, ◌++◌, length}
use Rattle.core_views.specs.declared.kind.Kind.{Kind}
use Rattle.core_views.specs.declared.place.Place.{Place}
use Rattle.core_views.specs.declared.sizes.Sizes.{Sizes}
use Rattle.core_views.specs.declared.trace.Line.{Line}
use Rattle.core_views.specs.Held.{Held}
use Rattle.mmu_core.specs.declared.outcome.Outcome.TheVariants.{Goes}
use Rattle.mmu_core.specs.lines.Bounds.{most_steps}
pub use Rattle.mmu_core.specs.lines.Delays.{begins_anew, counted, one_more}
use Rattle.mmu_core.specs.machine.Enabled.{mmu}
use Rattle.mmu_core.specs.alone.LineAlone.{hand_left, line_waits}
use Rattle.mmu_core.specs.machine.Machine.{Legal, May, Step, World, answered, effect, hand_in, run}
use Rattle.mmu_laws.specs.turns.Removal.{StayMisses}
use Rattle.mmu_core.specs.lines.Rests.{IsUnderWay}
use Rattle.mmu_core.specs.machine.Steps.{delays_at, has_line, place_at}
use Rattle.mmu_core.specs.machine.Turns.{line_of, outcome_of}
use Rattle.mmu_core.specs.machine.Worlds.{IsStart, Reachable}

-- where the line of the actor of this step stands
abbrev pub stands_at : World Held → Step Kind → Place
stands_at w s = place_at (hand_in mmu w s.actor).state.place (hand_in mmu w s.actor)

-- The step is counted as a delay.
abbrev pub counts_as_delay : World Held → Step Kind → Bool
counts_as_delay w s = delays_at (stands_at w s) (line_of (hand_in mmu w s.actor)).command (hand_in mmu w s.actor) (answered mmu w s.kind)

-- Each step of a line that neither waits nor begins anew leaves it fewer steps, whatever the other actors have done and have under way, or is one of a stay
-- that misses.
abbrev pub TurnsComeNearer : Type 0
TurnsComeNearer =
    (z : Sizes) (lines : List Line) (start : World Held) (ss : List (Step Kind)) (s : Step Kind) → IsStart z lines start → Legal mmu start (ss ++ s ∷ [])
    → has_line (hand_in mmu (run mmu start ss) s.actor) ≡ true
    → line_waits (stands_at (run mmu start ss) s) (line_of (hand_in mmu (run mmu start ss) s.actor)).command (hand_in mmu (run mmu start ss) s.actor)
    (answered mmu (run mmu start ss) s.kind) ≡ false
    → begins_anew (stands_at (run mmu start ss) s) ≡ false
    → (p : Place) → outcome_of (hand_in mmu (run mmu start ss) s.actor) (answered mmu (run mmu start ss) s.kind) ≡ Goes p
    → (hand_left (hand_in mmu (effect mmu (run mmu start ss) s) s.actor) < hand_left (hand_in mmu (run mmu start ss) s.actor)) ⊎ StayMisses z start ss s

-- A line that has no answer has no more steps left than its command allows, wherever it stands.
abbrev pub TurnsAreBounded : Type 0
TurnsAreBounded =
    (w : World Held) (a : ℕ) → Reachable w → a < length w.hands → has_line (hand_in mmu w a) ≡ true
    → hand_left (hand_in mmu w a) ≤ most_steps (hand_in mmu w a).state.sizes (line_of (hand_in mmu w a)).command

-- The steps that a hand has counted since its line began, or since the line's last delay, are no more than the line's command allows; and while
-- the line is under way, so are they together with those that it has left.
pub record CountFits (h : Held) : Type 0 where
  pub few : h.state.steps ≤ most_steps h.state.sizes h.state.line.command
  pub with_left : IsUnderWay h.state.place → h.state.steps + hand_left h ≤ most_steps h.state.sizes h.state.line.command

-- So it is with every hand, after every list of steps of all actors.
abbrev pub StepsAreBounded : Type 0
StepsAreBounded = (w : World Held) (a : ℕ) → Reachable w → a < length w.hands → CountFits (hand_in mmu w a)

-- What a hand has counted before and after a step of its line: a step that is no delay is one step more; with a delay the line has made no
-- more steps since its last one than its command allows, it counts anew, and there is one delay more.
abbrev pub CountsOn : Bool → Held → Held → Type 0
CountsOn false before after =
    (after.state.steps ≡ counted before.state.place before.state.steps + 1) × (after.state.delays ≡ counted before.state.place before.state.delays)
CountsOn true before after =
    (counted before.state.place before.state.steps + 1 ≤ most_steps before.state.sizes (line_of before).command)
    × (after.state.steps ≡ 0) × (after.state.delays ≡ one_more (counted before.state.place before.state.delays))

-- So each step of each line is counted.
abbrev pub StepsAreCounted : Type 0
StepsAreCounted =
    (w : World Held) (s : Step Kind) → Reachable w → May mmu w s → has_line (hand_in mmu w s.actor) ≡ true
    → CountsOn (counts_as_delay w s) (hand_in mmu w s.actor) (hand_in mmu (effect mmu w s) s.actor)

-- A step that is counted as a delay waits, at the place where its line stands or begins; or its fault begins anew, or it is one of a stay that misses. So the
-- step with which a line begins is one only where it waits.
abbrev pub DelaysWaitBeginAnewOrMiss : Type 0
DelaysWaitBeginAnewOrMiss =
    (z : Sizes) (lines : List Line) (start : World Held) (ss : List (Step Kind)) (s : Step Kind) → IsStart z lines start → Legal mmu start (ss ++ s ∷ [])
    → has_line (hand_in mmu (run mmu start ss) s.actor) ≡ true → counts_as_delay (run mmu start ss) s ≡ true
    → (line_waits (stands_at (run mmu start ss) s) (line_of (hand_in mmu (run mmu start ss) s.actor)).command
    (hand_in mmu (run mmu start ss) s.actor) (answered mmu (run mmu start ss) s.kind) ≡ true)
    ⊎ (begins_anew (hand_in mmu (run mmu start ss) s.actor).state.place ≡ true) ⊎ StayMisses z start ss s
