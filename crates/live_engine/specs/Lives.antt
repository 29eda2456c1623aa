-- What a live run of a trace leaves: what the lines above `go`, each alone, leave, and then steps of all actors in some order; and what it prints.
use Rattle.std.specs.Prelude.{◌≡◌, ◌⊎◌, ◌<◌, ℕ, List, [], ◌∷◌, ◌++◌, filter, map, take, true}
use Rattle.core_views.specs.declared.answer.AnsweredLine.{AnsweredLine}
use Rattle.core_views.specs.declared.event.Event.{Event}
use Rattle.core_views.specs.declared.kind.Kind.{Kind}
use Rattle.core_views.specs.declared.place.Place.TheVariants.{Between}
use Rattle.core_views.specs.declared.sizes.Sizes.{Sizes}
use Rattle.core_views.specs.declared.trace.Line.{Line}
use Rattle.core_views.specs.declared.trace.Trace.{Trace}
use Rattle.core_views.specs.Actors.{is_same}
use Rattle.core_views.specs.Events.{after_all}
use Rattle.core_views.specs.Flat.{first_flat}
use Rattle.core_views.specs.Held.{Held}
use Rattle.core_views.specs.Lawful.{IsLawful}
use Rattle.core_views.specs.Migrations.{image_words}
use Rattle.core_views.specs.Sizes.{actor_at, actors_of, sizes_of}
use Rattle.core_views.specs.Text.{lines_text}
use Rattle.core_views.specs.Whole.{IsWhole}
use Rattle.closing_text.specs.MemoryText.{memory_text}
use Rattle.core_theorem.specs.Delays.{BeginsAnew, IsDelay, MissesEntry, StepWaits, answer_of, hand_of}
use Rattle.mmu_core.specs.machine.Enabled.{mmu}
use Rattle.mmu_core.specs.machine.Machine.{Legal, Step, World, hand_in, run}
use Rattle.mmu_core.specs.machine.Steps.{has_line}
use Rattle.mmu_core.specs.machine.Worlds.{IsStart, history}
use Rattle.mmu_laws.specs.flat.Histories.{answers_by}
use Rattle.tdp_io.specs.declared.sink.Stop.{Stop}
use Rattle.tdp_io.specs.declared.sink.Stop.TheVariants.{Failed, NoMemory}
use Rattle.turn_loops.specs.Replays.{RunsLines}
use Rattle.turn_loops.specs.Weaves.{StarvedLinesScanIn, lines_above}
use Rattle.word_laws.specs.Accesses.{accesses_by, told as told_of, told_in}

-- The history answers each line of the trace; these are its answers in file order: each has the number and the actor of its line, and each actor's answers
-- are those that the history gives it, in its order.
pub record AreInFileOrder (z : Sizes) (lines : List Line) (told : List Event) (answers : List AnsweredLine) : Type 0 where
  pub numbers : map (λ x. x.number) answers ≡ map (λ line. line.number) lines
  pub actors : map (λ x. x.actor) answers ≡ map (λ line. line.actor) lines
  pub each : (i : ℕ) → i < actors_of z → filter (λ x. is_same (actor_at z i) x.actor) answers ≡ answers_by (actor_at z i) told

-- the answers, and the words of guest memory after the history
abbrev pub text_by_line : Sizes → List Event → List AnsweredLine → List ℕ
text_by_line z told answers =
    lines_text answers ++ memory_text (image_words z.words (after_all told first_flat).facts.memory (after_all told first_flat).facts.slots)

-- Each step that its hand counts as a delay of its line has its cause in the steps since this line began.
abbrev pub DelaysAreCaused : Sizes → World Held → List (Step Kind) → Type 0
DelaysAreCaused z start steps =
    (earlier own later : List (Step Kind)) (s : Step Kind) → steps ≡ earlier ++ (own ++ s ∷ later)
    → (hand_in mmu (run mmu start earlier) s.actor).state.place ≡ Between → has_line (hand_of (run mmu start earlier) own s) ≡ true
    → IsDelay (hand_of (run mmu start earlier) own s) (answer_of (run mmu start earlier) own s)
    → BeginsAnew z (run mmu start earlier) own s ⊎ (StepWaits z (run mmu start earlier) own s ⊎ MissesEntry z (run mmu start earlier) own s)

-- One list of enabled steps explains all that a live run leaves: it leads from the trace's start to the words and hands. It begins with the lines above `go`,
-- each alone. What it tells is lawful, and begins and answers each line once; each hand's answers are what it tells of its actor, and so are the accesses of
-- which they speak, each once; a line that is starved, or refused a frame, has looked through the whole map, and each delay has its cause.
pub record Lives (trace : Trace) (closing : World Held) : Type 0 where
  pub start : World Held
  pub is_start : IsStart (sizes_of trace.header) trace.lines start
  pub at_go : World Held
  pub alone : RunsLines (sizes_of trace.header) start (take (lines_above trace.go) trace.lines) at_go
  pub beside : List (Step Kind)
  pub legal : Legal mmu start (alone.steps ++ beside)
  pub ends : run mmu start (alone.steps ++ beside) ≡ closing
  pub lawful : IsLawful (sizes_of trace.header) first_flat (history start (alone.steps ++ beside))
  pub whole : IsWhole (history start (alone.steps ++ beside)) trace.lines
  pub hands : (i : ℕ) → i < actors_of (sizes_of trace.header)
      → (hand_in mmu closing i).answers ≡ answers_by (actor_at (sizes_of trace.header) i) (history start (alone.steps ++ beside))
  pub accesses : (i : ℕ) → i < actors_of (sizes_of trace.header)
      → map told_of (accesses_by (actor_at (sizes_of trace.header) i) (history start (alone.steps ++ beside)) first_flat)
      ≡ told_in (hand_in mmu closing i).answers
  pub starved : StarvedLinesScanIn (sizes_of trace.header) start (alone.steps ++ beside)
  pub delays : DelaysAreCaused (sizes_of trace.header) start (alone.steps ++ beside)

-- what the run tells
abbrev pub told_by : (trace : Trace) (closing : World Held) → Lives trace closing → List Event
told_by trace closing lives = history lives.start (lives.alone.steps ++ lives.beside)

-- These bytes are what is printed of a history that answers all lines.
pub record IsTextByLine (z : Sizes) (lines : List Line) (told : List Event) (bytes : List ℕ) : Type 0 where
  pub answers : List AnsweredLine
  pub by_line : AreInFileOrder z lines told answers
  pub prints : bytes ≡ text_by_line z told answers

-- A live run of the trace leaves this world, and prints these bytes.
pub record LivesAll (trace : Trace) (bytes : List ℕ) (closing : World Held) : Type 0 where
  pub lives : Lives trace closing
  pub prints : IsTextByLine (sizes_of trace.header) trace.lines (told_by trace closing lives) bytes

-- These are the first bytes of what some live run of the trace prints.
abbrev pub IsFirstPart : Trace → List ℕ → Type 0
IsFirstPart trace bytes = (closing : World Held) × (all : List ℕ) × LivesAll trace all closing × (count : ℕ) × (bytes ≡ take count all)

-- What a live run had written that stopped for this: it writes only once all lines are answered.
abbrev pub LivesUntil : Stop → Trace → List ℕ → Type 0
LivesUntil Failed trace bytes = IsFirstPart trace bytes
LivesUntil NoMemory trace bytes = (bytes ≡ []) ⊎ IsFirstPart trace bytes
