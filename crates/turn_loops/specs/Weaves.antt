-- What a weave of a trace is: the lines above `go`, each alone, then the turns of its schedule, then turns in rounds.
use Rattle.std.specs.Prelude.{◌≡◌, ◌+◌, ◌≤◌, ◌⊎◌, ℕ, List, [], ◌∷◌, ◌++◌, drop, length, take, codes}
use Rattle.std.specs.Prelude.{Option, Some, None, unwrap_or}
use Rattle.std.specs.Fmt.{decimal}
use Rattle.core_views.specs.declared.kind.Kind.{Kind}
use Rattle.core_views.specs.declared.place.Place.TheVariants.{Between}
use Rattle.core_views.specs.declared.sizes.Sizes.{Sizes}
use Rattle.core_views.specs.declared.trace.Item.{Item}
use Rattle.core_views.specs.declared.trace.Line.{Line}
use Rattle.core_views.specs.declared.trace.Trace.{Trace}
use Rattle.core_views.specs.Alone.{TakeLowest}
use Rattle.core_views.specs.Flat.{first_flat}
use Rattle.core_views.specs.Held.{Held}
use Rattle.core_views.specs.Lawful.{IsLawful}
use Rattle.core_views.specs.Sizes.{sizes_of}
use Rattle.core_views.specs.Text.{actor_name, text}
use Rattle.core_views.specs.Whole.{IsWhole, IsWholeSoFar}
use Rattle.mmu_core.specs.declared.claim.FreeMap.{FreeMap}
use Rattle.mmu_core.specs.orders.ClaimSteps.{map_words}
use Rattle.mmu_core.specs.lines.ScanPlaces.{answer_without}
use Rattle.mmu_core.specs.declared.outcome.Outcome.TheVariants.{Ends}
use Rattle.mmu_core.specs.machine.Enabled.{mmu}
use Rattle.mmu_laws.specs.forms.log.ReadingsAlone.{ReadsExactly}
use Rattle.mmu_laws.specs.flat.Histories.{answered_in, begun_in}
use Rattle.mmu_core.specs.machine.Machine.{Legal, Step, World, hand_in, run}
use Rattle.mmu_core.specs.invariant.Scans.{EndsWithScan}
use Rattle.mmu_core.specs.machine.Turns.{outcome_of}
use Rattle.mmu_core.specs.machine.Worlds.{IsStart, history}
use Rattle.core_theorem.specs.Delays.{answer_of, hand_of}
use Rattle.turn_loops.specs.Beside.{AreForDelays}
use Rattle.turn_loops.specs.Marks.{Mark, Rounds, turns_from}
use Rattle.turn_loops.specs.Replays.{RunsLines}
use Rattle.turn_loops.specs.Rounds.{AllAnswered, RunsRounds}
use Rattle.turn_loops.specs.Turning.{RunsItems, RunsItemsSoFar}
use Rattle.turn_loops.specs.FirstOpen.{IsFirstInFile, IsFirstOpen}

-- how many of the trace's lines run alone: those above `go`
abbrev pub lines_above : Option ℕ → ℕ
lines_above go = unwrap_or go 0

-- the lines below `go`
abbrev pub lines_below : Trace → List Line
lines_below trace = drop (lines_above trace.go) trace.lines

-- At most so many turns were made in rounds, from the first actor on.
pub record RunsSomeRounds (z : Sizes) (limit : ℕ) (w : World Held) (ss : List (Step Kind)) : Type 0 where
  pub next : ℕ
  pub rounds : RunsRounds z 0 next w ss
  pub few : length ss ≤ limit

-- They were all made, or all lines are answered.
pub record RunsAllRounds (z : Sizes) (limit : ℕ) (w : World Held) (ss : List (Step Kind)) : Type 0 where
  pub some : RunsSomeRounds z limit w ss
  pub over : (length ss ≡ limit) ⊎ AllAnswered z (run mmu w ss)

-- The items had all their turns, and the marks of rounds begin with the one that says so.
abbrev pub AreInRounds : Sizes → List Item → World Held → List (Step Kind) → List Mark → List (Step Kind) → List Mark → Type 0
AreInRounds z items w scheduled item_marks rounds round_marks =
    RunsItems z items w scheduled item_marks × (round_marks ≡ Rounds ∷ turns_from (run mmu w scheduled) rounds)

-- The steps follow the trace as far as they come: first some lines above `go`, each alone, in file order; once all of these are answered
-- the turns of the schedule's items; and once these are over turns in rounds, from the first actor on, at most `limit`. The marks are these
-- turns in this order, and between them where each item and the rounds begin.
pub record FollowsSoFar (trace : Trace) (limit : ℕ) (start : World Held) (steps : List (Step Kind)) : Type 0 where
  pub above : ℕ
  pub few_above : above ≤ lines_above trace.go
  pub behind : World Held
  pub alone : RunsLines (sizes_of trace.header) start (take above trace.lines) behind
  pub scheduled : List (Step Kind)
  pub rounds : List (Step Kind)
  pub are : steps ≡ alone.steps ++ (scheduled ++ rounds)
  pub item_marks : List Mark
  pub items : RunsItemsSoFar (sizes_of trace.header) trace.items behind scheduled item_marks
  pub after_go : ((scheduled ++ rounds ≡ []) × (item_marks ≡ [])) ⊎ (above ≡ lines_above trace.go)
  pub in_rounds : RunsSomeRounds (sizes_of trace.header) limit (run mmu behind scheduled) rounds
  pub round_marks : List Mark
  pub after_items : ((rounds ≡ []) × (round_marks ≡ [])) ⊎ AreInRounds (sizes_of trace.header) trace.items behind scheduled item_marks rounds round_marks
  pub marks : List Mark
  pub marks_are : marks ≡ turns_from start alone.steps ++ (item_marks ++ round_marks)

-- All lines above `go` and all items of the schedule had their turns.
pub record FollowsBoth (trace : Trace) (limit : ℕ) (start : World Held) (steps : List (Step Kind))
    (so_far : FollowsSoFar trace limit start steps) : Type 0 where
  pub all_above : so_far.above ≡ lines_above trace.go
  pub all_items :
      AreInRounds (sizes_of trace.header) trace.items so_far.behind so_far.scheduled so_far.item_marks so_far.rounds so_far.round_marks

-- From any moment on at which no line of an actor is under way, so from the one at which its line begins: the step that answers the line
-- starved, or refuses it a frame, ends a scan of the whole map by the line's actor since that moment, which found nothing free in any of its words.
abbrev pub StarvedLinesScanIn : Sizes → World Held → List (Step Kind) → Type 0
StarvedLinesScanIn z start steps =
    (map : FreeMap) (earlier own later : List (Step Kind)) (s : Step Kind) → steps ≡ earlier ++ (own ++ s ∷ later)
    → (hand_in mmu (run mmu start earlier) s.actor).state.place ≡ Between
    → outcome_of (hand_of (run mmu start earlier) own s) (answer_of (run mmu start earlier) own s) ≡ Ends (answer_without map)
    → EndsWithScan z map s.actor (map_words map z) (run mmu start earlier) (own ++ s ∷ [])

-- One list of enabled steps leads from the trace's start to this world, and follows the trace so far. What it tells is lawful, begins and answers
-- the first lines of each actor, as many as its hand has here, and has these bytes as its text. Each line that is starved, or refused a frame, has looked
-- through the whole map. While lines above `go` run, each move takes the lowest frame that no page names, and is refused one only where there is none;
-- and each reading of a dirty log is just the dirty frames for which its line asks.
pub record WeavesSoFar (trace : Trace) (limit : ℕ) (bytes : List ℕ) (closing : World Held) : Type 0 where
  pub start : World Held
  pub is_start : IsStart (sizes_of trace.header) trace.lines start
  pub steps : List (Step Kind)
  pub legal : Legal mmu start steps
  pub ends : run mmu start steps ≡ closing
  pub follows : FollowsSoFar trace limit start steps
  pub lawful : IsLawful (sizes_of trace.header) first_flat (history start steps)
  pub whole : IsWholeSoFar (history start steps) trace.lines (begun_in (sizes_of trace.header) closing) (answered_in (sizes_of trace.header) closing)
  pub starved : StarvedLinesScanIn (sizes_of trace.header) start steps
  pub prints : bytes ≡ text (history start steps)
  pub lowest : TakeLowest (sizes_of trace.header) first_flat (history start follows.alone.steps)
  pub exact : ReadsExactly (sizes_of trace.header) start follows.alone.steps

-- It follows all of the trace but perhaps for rounds.
pub record Weaves (trace : Trace) (limit : ℕ) (bytes : List ℕ) (closing : World Held) : Type 0 where
  pub so_far : WeavesSoFar trace limit bytes closing
  pub follows : FollowsBoth trace limit so_far.start so_far.steps so_far.follows

-- Each line of the trace is answered.
pub record WeavesAll (trace : Trace) (limit : ℕ) (bytes : List ℕ) (closing : World Held) : Type 0 where
  pub weaves : Weaves trace limit bytes closing
  pub all : AllAnswered (sizes_of trace.header) closing
  pub whole : IsWhole (history weaves.so_far.start weaves.so_far.steps) trace.lines

-- The turns in rounds are used up, and this is the first line that has no answer. The delays of the lines below `go` account for all turns
-- of the schedule and in rounds.
pub record WeavesPart (trace : Trace) (limit : ℕ) (bytes : List ℕ) (closing : World Held) (line : Line) : Type 0 where
  pub weaves : Weaves trace limit bytes closing
  pub used_up : length weaves.so_far.follows.rounds ≡ limit
  pub open_ : IsFirstOpen (sizes_of trace.header) closing line
  pub first_in_file : IsFirstInFile (history weaves.so_far.start weaves.so_far.steps) trace.lines line
  pub delayed :
      AreForDelays (sizes_of trace.header) (lines_below trace) (length weaves.so_far.follows.scheduled + limit) weaves.so_far.follows.behind
      (weaves.so_far.follows.scheduled ++ weaves.so_far.follows.rounds)

-- the first line that has no answer, and its actor
unfoldable pub unfinished_text : Line → List ℕ
unfinished_text line = codes "unfinished " ++ (decimal line.number ++ (codes " " ++ (actor_name line.actor ++ 10 ∷ [])))

abbrev pub open_text : Option Line → List ℕ
open_text None = []
open_text (Some line) = unfinished_text line
