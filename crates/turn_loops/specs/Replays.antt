-- What a replay over the machine's words is: a list of steps in which each line runs alone, in file order.
use Rattle.std.specs.Prelude.{◌≡◌, ◌≢◌, ◌≤◌, ◌⊎◌, ℕ, List, [], ◌∷◌, ◌++◌, All, length, take, Some}
use Rattle.std.specs.List.{sum_by}
use Rattle.core_views.specs.declared.answer.Answer.{Answer}
use Rattle.core_views.specs.declared.answer.Answer.TheVariants.{Starved}
use Rattle.core_views.specs.declared.event.Event.{Event}
use Rattle.core_views.specs.declared.kind.Kind.{Kind}
use Rattle.core_views.specs.declared.place.Place.TheVariants.{Between}
use Rattle.core_views.specs.declared.sizes.Sizes.{Sizes}
use Rattle.core_views.specs.declared.trace.Line.{Line}
use Rattle.core_views.specs.declared.trace.Trace.{Trace}
use Rattle.core_views.specs.Alone.{NoneStarved, StandsAlone, TakeLowest, without_looks}
use Rattle.core_views.specs.Flat.{first_facts, first_flat}
use Rattle.core_views.specs.FlatHistory.{one_by_one}
use Rattle.core_views.specs.Held.{Held}
use Rattle.core_views.specs.Lawful.{IsLawful}
use Rattle.core_views.specs.Need.{need}
use Rattle.core_views.specs.Sizes.{index_of, sizes_of}
use Rattle.core_views.specs.Text.{text}
use Rattle.core_views.specs.Whole.{IsWhole}
use Rattle.mmu_core.specs.declared.claim.FreeMap.{FreeMap}
use Rattle.mmu_core.specs.orders.ClaimSteps.{map_words}
use Rattle.mmu_core.specs.lines.ScanPlaces.{answer_without}
use Rattle.mmu_core.specs.lines.Bounds.{most_steps}
use Rattle.mmu_core.specs.machine.Enabled.{mmu}
use Rattle.mmu_core.specs.alone.LineAlone.{AllRest, StarvedOnlyWithout, StepsAlone}
use Rattle.mmu_laws.specs.alone.LineRuns.{RunsLine}
use Rattle.mmu_laws.specs.forms.log.ReadingsAlone.{OthersIdle, ReadsExactly}
use Rattle.mmu_core.specs.machine.Machine.{Legal, Step, World, effect, hand_in, run}
use Rattle.mmu_core.specs.invariant.Scans.{EndsWithScan}
use Rattle.mmu_core.specs.machine.Turns.{IsAnswered, IsSameHand}
use Rattle.mmu_core.specs.machine.View.{word_in}
use Rattle.mmu_core.specs.machine.Worlds.{IsStart, history}
use Rattle.tdp_io.specs.declared.sink.Stop.{Stop}
use Rattle.turn_loops.specs.Turning.{EndsWithAnswer, MayStop}

-- None of these steps, made from this world on, waits for another actor, and each leaves its line nearer to its answer.
abbrev pub EachStepsAlone : Sizes → World Held → List (Step Kind) → Type 0
EachStepsAlone z before [] = Unit {0}
EachStepsAlone z before (s ∷ steps) = StepsAlone z before s × EachStepsAlone z (effect mmu before s) steps

-- The moves among these steps take the lowest frame that no page names, wherever those among the steps before them did, back to a start.
abbrev pub TakeLowestFrom : Sizes → World Held → List (Step Kind) → Type 0
TakeLowestFrom z before steps =
    (lines : List Line) (start : World Held) (ss : List (Step Kind)) → IsStart z lines start → Legal mmu start ss → run mmu start ss ≡ before
    → TakeLowest z first_flat (history start ss) → TakeLowest z first_flat (history start (ss ++ steps))

-- What these steps read of dirty logs is just what is dirty, wherever it was so of the steps before them, back to a start, and no other actor has a line under
-- way.
abbrev pub ReadExactlyFrom : Sizes → ℕ → World Held → List (Step Kind) → Type 0
ReadExactlyFrom z actor before steps =
    (lines : List Line) (start : World Held) (ss : List (Step Kind)) → IsStart z lines start → Legal mmu start ss → run mmu start ss ≡ before
    → OthersIdle actor before → ReadsExactly z start ss → ReadsExactly z start (ss ++ steps)

-- The steps run the line alone: they are of its actor alone, at most as many as its command allows, none of them waits or leads away from the
-- line's answer; the last one answers it, and they tell the line from its begin to this answer. After them all actors rest. Where the line is
-- starved no page of the pool is free then, and its claim found each word of the pool's map 0, and so it is with frames where it is refused one; where it
-- is answered otherwise, no access of it left for want of a page. If it moves a page, it takes the lowest frame that no page names; and if it reads a dirty
-- log, it reads just what is dirty.
pub record RunsAlone (z : Sizes) (actor : ℕ) (line : Line) (answer : Answer) (steps : List (Step Kind)) (before : World Held) : Type 0 where
  pub own : All (λ s. s.actor ≡ actor) steps
  pub few : length steps ≤ most_steps z line.command
  pub nearer : EachStepsAlone z before steps
  pub last : EndsWithAnswer before steps
  pub runs : RunsLine line answer steps before (Some (run mmu before steps))
  pub rest : AllRest (run mmu before steps)
  pub idle : (hand_in mmu (run mmu before steps) actor).state.place ≡ Between
  pub none_free : StarvedOnlyWithout answer z (word_in z (run mmu before steps))
  pub saw_each_word : (map : FreeMap) → answer ≡ answer_without map → EndsWithScan z map actor (map_words map z) before steps
  pub none_starved : answer ≢ Starved → NoneStarved (history before steps)
  pub lowest : TakeLowestFrom z before steps
  pub exact : ReadExactlyFrom z actor before steps

-- From this world on the steps run these lines one after another, each alone.
abbrev pub EachRunsAlone : Sizes → World Held → List Line → List (Step Kind) → Type 0
EachRunsAlone z before [] steps = steps ≡ []
EachRunsAlone z before (line ∷ lines) steps =
    (own : List (Step Kind)) × (rest : List (Step Kind)) × (answer : Answer) × (steps ≡ own ++ rest)
    × RunsAlone z (index_of z line.actor) line answer own before × EachRunsAlone z (run mmu before own) lines rest

-- Steps that may be made one after another lead from the start to this world; they run these lines, each alone, in this order, and
-- tell nothing else.
pub record RunsLines (z : Sizes) (start : World Held) (lines : List Line) (end_ : World Held) : Type 0 where
  pub steps : List (Step Kind)
  pub legal : Legal mmu start steps
  pub ends : run mmu start steps ≡ end_
  pub each : EachRunsAlone z start lines steps
  pub alone : StandsAlone (history start steps) lines
  pub few : length steps ≤ sum_by (λ line. most_steps z line.command) lines

-- The line ran alone on the machine, and the actor's hand has the answer.
pub record RanOn (z : Sizes) (line : Line) (answer : Answer) (actor : ℕ) (before after : World Held) : Type 0 where
  pub steps : List (Step Kind)
  pub alone : RunsAlone z actor line answer steps before
  pub ends : run mmu before steps ≡ after
  pub answered : IsAnswered line answer (hand_in mmu before actor) (hand_in mmu after actor)
  pub same : IsSameHand (hand_in mmu before actor) (hand_in mmu after actor)

-- Where no line is starved, the lines tell what they tell in flat guest memory, beside what they look at.
pub record RunsAsFlat (z : Sizes) (lines : List Line) (bytes : List ℕ) (told : List Event) : Type 0 where
  pub none_starved : NoneStarved told
  pub same : without_looks told ≡ without_looks (one_by_one z lines first_facts)
  pub prints : bytes ≡ text (one_by_one z lines first_facts)

-- These bytes are what a replay of the first lines of the trace prints: steps lead from the trace's start to this world, each of the
-- lines alone, in file order; what they tell is lawful, answers each of the lines once, and its text is the bytes. However small the pool is, each
-- move takes the lowest frame that no page names, and is refused one only where there is none; and each reading of a dirty log is just the dirty
-- frames for which its line asks. Where the pool has as many pages as the trace needs, what they tell, but for
-- what lines look at, is what flat guest memory gives.
pub record Replays (trace : Trace) (lines : List Line) (bytes : List ℕ) (closing : World Held) : Type 0 where
  pub start : World Held
  pub is_start : IsStart (sizes_of trace.header) trace.lines start
  pub runs : RunsLines (sizes_of trace.header) start lines closing
  pub lawful : IsLawful (sizes_of trace.header) first_flat (history start runs.steps)
  pub whole : IsWhole (history start runs.steps) lines
  pub prints : bytes ≡ text (history start runs.steps)
  pub lowest : TakeLowest (sizes_of trace.header) first_flat (history start runs.steps)
  pub exact : ReadsExactly (sizes_of trace.header) start runs.steps
  pub flat : need trace.header trace.lines ≤ trace.header.pool → RunsAsFlat (sizes_of trace.header) lines bytes (history start runs.steps)

-- A replay of the trace came to this world, where it printed this, and stopped for this: after some of the lines, or at the end, when all had run.
abbrev pub ReplaysUntil : Stop → Trace → World Held → List ℕ → Type 0
ReplaysUntil stop trace closing bytes =
    ((count : ℕ) × (R : Replays trace (take count trace.lines) bytes closing) × MayStop stop R.start R.runs.steps) ⊎ Replays trace trace.lines bytes closing
