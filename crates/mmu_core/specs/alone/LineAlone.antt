-- A line that runs while all other actors rest: each step of it leads nearer to its answer.
use Rattle.std.specs.Prelude.{◌≡◌, ◌≢◌, ◌+◌, ◌<◌, ◌≤◌, ℕ, false, List, All, length}
use Rattle.core_views.specs.declared.answer.Answer.{Answer}
use Rattle.core_views.specs.declared.answer.Answer.TheVariants.{Starved}
use Rattle.core_views.specs.declared.kind.Kind.{Kind}
use Rattle.core_views.specs.declared.place.Place.TheVariants.{Between}
use Rattle.core_views.specs.declared.sizes.Sizes.{Sizes}
use Rattle.core_views.specs.declared.trace.Header.{Header}
use Rattle.core_views.specs.declared.trace.Line.{Line}
use Rattle.core_views.specs.Held.{Held}
use Rattle.core_views.specs.Need.{need}
use Rattle.core_views.specs.Sizes.{actors_of, sizes_of}
use Rattle.spte_words.specs.declared.area.Area.{Area}
use Rattle.mmu_core.specs.declared.outcome.Outcome.{Outcome}
use Rattle.mmu_core.specs.declared.outcome.Outcome.TheVariants.{Goes, Ends}
use Rattle.mmu_core.specs.alone.AloneKnows.{AloneKnows}
use Rattle.mmu_core.specs.lines.Bounds.{most_steps}
use Rattle.mmu_core.specs.orders.ClaimSteps.{FreeMap, map_area, map_words}
use Rattle.mmu_core.specs.lines.ScanPlaces.{answer_without}
use Rattle.mmu_core.specs.lines.Forms.{steps_left}
pub use Rattle.mmu_core.specs.lines.Delays.{line_waits}
use Rattle.mmu_core.specs.machine.Enabled.{mmu}
use Rattle.mmu_core.specs.alone.SeenStands.{NoneFreeBefore}
use Rattle.mmu_core.specs.invariant.Laws.{IsSound}
use Rattle.mmu_core.specs.machine.Machine.{Legal, May, Step, World, answered, effect, hand_in, run}
use Rattle.mmu_core.specs.alone.OthersRest.{OthersRest, HoldsNothing}
use Rattle.mmu_core.specs.machine.Steps.{place_at}
use Rattle.mmu_core.specs.machine.Turns.{line_of, outcome_of}
use Rattle.mmu_core.specs.machine.View.{word_in}
use Rattle.mmu_core.specs.machine.Worlds.{IsStart}

-- the most steps that the hand's line has left, where nobody is in its way: those from its first place on, where it hasn't begun
abbrev pub hand_left : Held → ℕ
hand_left h = steps_left (place_at h.state.place h) (line_of h).command h.state.sizes h.topics

-- Actor a has a line left, all other actors rest, and the line knows what its place asks.
pub record LineAlone (z : Sizes) (w : World Held) (a : ℕ) : Type 0 where
  pub sound : IsSound z w
  pub others : OthersRest a w
  pub there : a < actors_of z
  pub left : length (hand_in mmu w a).answers < length (hand_in mmu w a).lines
  pub knows : AloneKnows (hand_in mmu w a).state.place (line_of (hand_in mmu w a)).command (word_in z w) (hand_in mmu w a).topics

-- All actors rest.
abbrev pub AllRest : World Held → Type 0
AllRest w = (i : ℕ) → i < length w.hands → HoldsNothing (hand_in mmu w i).topics

-- A line is starved only where no page of the pool is free, and refused a frame only where none is.
abbrev pub StarvedOnlyWithout : Answer → Sizes → (Area → ℕ → ℕ) → Type 0
StarvedOnlyWithout answer z words = (map : FreeMap) → answer ≡ answer_without map → NoneFreeBefore (words (map_area map)) (map_words map z)

-- After a step the line is alone still, with fewer steps left; or it is answered, all actors rest, and it is starved only where no
-- page is free, or refused a frame only where none is.
abbrev pub ComesNearer : Outcome → Sizes → ℕ → World Held → World Held → Type 0
ComesNearer (Goes p) z a before after = LineAlone z after a × (hand_left (hand_in mmu after a) < hand_left (hand_in mmu before a))
ComesNearer (Ends answer) z a before after = IsSound z after × AllRest after × StarvedOnlyWithout answer z (word_in z after)

-- The step doesn't wait for another actor, and comes nearer to the line's answer.
pub record StepsAlone (z : Sizes) (w : World Held) (s : Step Kind) : Type 0 where
  pub goes : line_waits (place_at (hand_in mmu w s.actor).state.place (hand_in mmu w s.actor)) (line_of (hand_in mmu w s.actor)).command
      (hand_in mmu w s.actor) (answered mmu w s.kind) ≡ false
  pub nearer : ComesNearer (outcome_of (hand_in mmu w s.actor) (answered mmu w s.kind)) z s.actor w (effect mmu w s)

-- A line alone goes through: no step of it waits, none of its faults begins anew, and each step leaves it fewer steps, until it is answered.
abbrev pub LineGoesThrough : Type 0
LineGoesThrough = (z : Sizes) (w : World Held) (s : Step Kind) → LineAlone z w s.actor → May mmu w s → StepsAlone z w s

-- Where all actors rest, and the line of an actor hasn't begun, it is alone.
abbrev pub LineBeginsAlone : Type 0
LineBeginsAlone =
    (z : Sizes) (w : World Held) (a : ℕ) → IsSound z w → OthersRest a w → a < actors_of z → length (hand_in mmu w a).answers < length (hand_in mmu w a).lines
    → (hand_in mmu w a).state.place ≡ Between
    → LineAlone z w a × (hand_left (hand_in mmu w a) ≤ most_steps z (line_of (hand_in mmu w a)).command)

-- Some steps of the actor alone, no more than its line has left, lead to a world in which the line is answered and all actors rest.
pub record EndsAlone (z : Sizes) (w : World Held) (a : ℕ) : Type 0 where
  pub steps : List (Step Kind)
  pub own : All (λ s. s.actor ≡ a) steps
  pub few : length steps ≤ hand_left (hand_in mmu w a)
  pub legal : Legal mmu w steps
  pub answered : length (hand_in mmu (run mmu w steps) a).answers ≡ length (hand_in mmu w a).answers + 1
  pub sound : IsSound z (run mmu w steps)
  pub rest : AllRest (run mmu w steps)

-- A line alone can be run to its answer.
abbrev pub LineEndsAlone : Type 0
LineEndsAlone = (z : Sizes) (w : World Held) (a : ℕ) → LineAlone z w a → EndsAlone z w a

-- Where the pool has as many pages as the trace needs at most, no line that runs alone is starved.
abbrev pub NoneStarvedAlone : Type 0
NoneStarvedAlone =
    (h : Header) (lines : List Line) (w : World Held) (ss : List (Step Kind)) (s : Step Kind) (answer : Answer) → IsStart (sizes_of h) lines w
    → Legal mmu w ss → need h lines ≤ h.pool → LineAlone (sizes_of h) (run mmu w ss) s.actor → May mmu (run mmu w ss) s
    → outcome_of (hand_in mmu (run mmu w ss) s.actor) (answered mmu (run mmu w ss) s.kind) ≡ Ends answer → answer ≢ Starved
