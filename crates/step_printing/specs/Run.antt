-- Which marks a run has, and what is written of them.
use Rattle.std.specs.Prelude.{◌≡◌, ◌⊎◌, ℕ, List, [], ◌∷◌, ◌++◌, take, Option, Some, None}
use Rattle.std.specs.Io.KnownBytes.{Appends}
use Rattle.core_views.specs.declared.actor.Actor.{Actor}
use Rattle.core_views.specs.declared.trace.Line.{Line}
use Rattle.core_views.specs.declared.trace.Trace.{Trace}
use Rattle.core_views.specs.Held.{Held}
use Rattle.core_views.specs.Sizes.{sizes_of}
use Rattle.mmu_core.specs.machine.Machine.{World}
use Rattle.tdp_io.specs.Ends.{AppendsPrefix}
use Rattle.turn_loops.specs.Marks.{Mark, Over, turns_from}
use Rattle.turn_loops.specs.Replays.{Replays}
use Rattle.turn_loops.specs.Weaves.{WeavesAll, WeavesPart, WeavesSoFar}
use Rattle.show_options.specs.declared.asked.Command.{Command}
use Rattle.show_options.specs.declared.asked.Command.TheVariants.{Weave, Replay}
use Rattle.step_printing.specs.Lines.{steps_text}
use Rattle.step_printing.specs.declared.view.View.{View}
use Rattle.run_status.specs.declared.status.Status.{Status}
use Rattle.run_status.specs.declared.status.Status.TheVariants.{Done, Unfinished, WriteFault, NoMemory}

-- These are the marks of a run of the trace that answers each line, with at most so many turns in rounds.
abbrev pub IsRun : Command → Trace → ℕ → List Mark → Type 0
IsRun Weave trace limit marks =
    (closing : World Held) × (bytes : List ℕ) × (W : WeavesAll trace limit bytes closing) × (marks ≡ W.weaves.so_far.follows.marks ++ Over None ∷ [])
IsRun Replay trace limit marks =
    (closing : World Held) × (bytes : List ℕ) × (R : Replays trace trace.lines bytes closing) × (marks ≡ turns_from R.start R.runs.steps ++ Over None ∷ [])

-- These are the marks of a weave that used up its turns in rounds before each line was answered: the first line of the file without an answer is this
-- actor's, with this number. A replay has no such end.
abbrev pub IsOpenRun : Command → Trace → ℕ → Actor → ℕ → List Mark → Type 0
IsOpenRun Weave trace limit actor number marks =
    (closing : World Held) × (bytes : List ℕ) × (line : Line) × (W : WeavesPart trace limit bytes closing line) × (line.actor ≡ actor)
    × (line.number ≡ number) × (marks ≡ W.weaves.so_far.follows.marks ++ Over (Some line) ∷ [])
IsOpenRun Replay trace limit actor number marks = ⊥

-- These are the marks of such a run as far as it came.
abbrev pub IsRunSoFar : Command → Trace → ℕ → List Mark → Type 0
IsRunSoFar Weave trace limit marks =
    ((closing : World Held) × (bytes : List ℕ) × (W : WeavesSoFar trace limit bytes closing) × (marks ≡ W.follows.marks))
    ⊎ (IsRun Weave trace limit marks ⊎ ((actor : Actor) × (number : ℕ) × IsOpenRun Weave trace limit actor number marks))
IsRunSoFar Replay trace limit marks =
    ((closing : World Held) × (count : ℕ) × (bytes : List ℕ) × (R : Replays trace (take count trace.lines) bytes closing)
    × (marks ≡ turns_from R.start R.runs.steps)) ⊎ IsRun Replay trace limit marks

-- The text of marks that are such was written, as the view shows them.
abbrev pub WritesWhole : (List Mark → Type 0) → View → Trace → Option (List ℕ) → Option (List ℕ) → Type 0
WritesWhole Are v trace before after = (marks : List Mark) × Are marks × Appends before after (steps_text v (sizes_of trace.header) marks)

-- A prefix of it was written, whatever marks would have followed.
abbrev pub WritesSome : (List Mark → Type 0) → View → Trace → Option (List ℕ) → Option (List ℕ) → Type 0
WritesSome Are v trace before after = (marks : List Mark) × Are marks
    × ((more : List Mark) → AppendsPrefix before after (steps_text v (sizes_of trace.header) (marks ++ more)))

-- what was written of a run of a trace, by its status
abbrev pub WritesSteps : Command → View → Trace → ℕ → Option (List ℕ) → Option (List ℕ) → Status → Type 0
WritesSteps command v trace limit before after Done = WritesWhole (IsRun command trace limit) v trace before after
WritesSteps command v trace limit before after (Unfinished actor line) = WritesWhole (IsOpenRun command trace limit actor line) v trace before after
WritesSteps command v trace limit before after WriteFault = WritesSome (IsRunSoFar command trace limit) v trace before after
WritesSteps command v trace limit before after NoMemory = WritesSome (IsRunSoFar command trace limit) v trace before after
WritesSteps command v trace limit before after _ = ⊥
