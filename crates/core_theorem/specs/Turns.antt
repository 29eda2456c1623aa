-- How many steps the lines of a run make: by how often they are delayed.
use Rattle.std.specs.Prelude.{◌+◌, ◌*◌, ◌^◌, ◌<◌, ◌≤◌, ℕ, List, [], ◌∷◌, ◌++◌, length, Bool, true, false, not, ◌&&◌, ◌==◌, if◌then◌else◌, slice_get, unwrap_or}
use Rattle.core_views.specs.declared.kind.Kind.{Kind}
use Rattle.core_views.specs.declared.place.Place.{Place}
use Rattle.core_views.specs.declared.place.Place.TheVariants.{Between}
use Rattle.core_views.specs.declared.sizes.Sizes.{Sizes}
use Rattle.core_views.specs.declared.trace.Line.{Line}
use Rattle.core_views.specs.Flat.{no_line}
use Rattle.core_views.specs.Held.{Held}
use Rattle.core_views.specs.HostRuns.{sets_run}
use Rattle.core_views.specs.Sizes.{actors_of}
use Rattle.spte_words.specs.Areas.{words_of_bits}
use Rattle.mmu_core.specs.lines.Bounds.{most_steps}
use Rattle.mmu_core.specs.machine.Enabled.{mmu}
use Rattle.mmu_core.specs.machine.Machine.{Step, World, answered, effect, hand_in, run}
use Rattle.mmu_core.specs.machine.Steps.{delays_at, has_line, place_at}
use Rattle.mmu_core.specs.machine.Sums.{one_if, sum_below}
use Rattle.mmu_core.specs.machine.Turns.{line_of}
use Rattle.core_theorem.specs.Runs.{AfterEveryRun, IsRun}

-- A line is under way there.
abbrev pub is_under_way : Place → Bool
is_under_way Between = false
is_under_way _ = true

-- The step is one of a line: its actor has a line that has no answer.
abbrev pub is_of_line : World Held → Step Kind → Bool
is_of_line w s = has_line (hand_in mmu w s.actor)

-- A line begins with the step.
abbrev pub begins_line : World Held → Step Kind → Bool
begins_line w s = is_of_line w s && not (is_under_way (hand_in mmu w s.actor).state.place)

-- The hand's next step, where it answers v, is a delay of its line: the line waits, its fault begins anew, or the stay after an installed
-- entry finds no translation that allows the access.
abbrev pub hand_delays : Held → ℕ → Bool
hand_delays h v = delays_at (place_at h.state.place h) (line_of h).command h v

-- The step is a delay of its line.
abbrev pub delays_line : World Held → Step Kind → Bool
delays_line w s = is_of_line w s && hand_delays (hand_in mmu w s.actor) (answered mmu w s.kind)

-- The step is one of this line: of this actor's line that so many of the actor's lines stand before.
abbrev pub is_of : ℕ → ℕ → World Held → Step Kind → Bool
is_of actor before w s = is_of_line w s && (s.actor == actor && length (hand_in mmu w s.actor).answers == before)

-- how many of the steps are so, each in the world that it is made in, one after the other from this world on
abbrev pub how_many : (World Held → Step Kind → Bool) → World Held → List (Step Kind) → ℕ
how_many is_so w [] = 0
how_many is_so w (s ∷ ss) = one_if (is_so w s) + how_many is_so (effect mmu w s) ss

-- how many steps this line makes, and how many of them are delays
abbrev pub own_steps : ℕ → ℕ → World Held → List (Step Kind) → ℕ
own_steps actor before w ss = how_many (is_of actor before) w ss

abbrev pub own_delays : ℕ → ℕ → World Held → List (Step Kind) → ℕ
own_delays actor before w ss = how_many (λ u s. is_of actor before u s && delays_line u s) w ss

-- the line itself
abbrev pub own_line : ℕ → ℕ → World Held → Line
own_line actor before w = unwrap_or (slice_get (hand_in mmu w actor).lines before) no_line

-- From any moment on, and up to any step, a line makes for each of its delays before this step at most as many steps as its command allows
-- (`most_steps`), and as many besides: so at most as many up to the end of its first delay, from there to the end of the next one, and after its
-- last.
abbrev pub LinesMakeFewSteps : Type 0
LinesMakeFewSteps =
    (z : Sizes) (lines : List Line) (w : World Held) (ss ts : List (Step Kind)) (s : Step Kind) → IsRun z lines w (ss ++ (ts ++ s ∷ []))
    → (actor before : ℕ) → actor < actors_of z → own_steps actor before (run mmu w ss) (ts ++ s ∷ [])
    ≤ most_steps z (own_line actor before (run mmu w ss)).command * (own_delays actor before (run mmu w ss) ts + 1)

-- how many lines are under way
abbrev pub lines_under_way : Sizes → World Held → ℕ
lines_under_way z w = sum_below (actors_of z) (λ i. one_if (is_under_way (hand_in mmu w i).state.place))

-- the lines that some steps are of: those that begin in them, and those that are under way before
abbrev pub lines_in : Sizes → World Held → List (Step Kind) → ℕ
lines_in z w ss = how_many begins_line w ss + lines_under_way z w

-- how many lines are answered
abbrev pub lines_answered : Sizes → World Held → ℕ
lines_answered z w = sum_below (actors_of z) (λ i. length (hand_in mmu w i).answers)

-- They are no more than the lines that have no answer yet: each line begins once.
abbrev pub LinesAreOpen : Type 0
LinesAreOpen =
    (z : Sizes) (lines : List Line) (w : World Held) (ss ts : List (Step Kind)) → IsRun z lines w (ss ++ ts)
    → lines_answered z (run mmu w ss) + lines_in z (run mmu w ss) ts ≤ length lines

-- as many steps as the command of the hand's line allows
abbrev pub bound_of : Sizes → Held → ℕ
bound_of z h = most_steps z (line_of h).command

-- what the steps that are so come to, where each counts as many as its line's command allows
abbrev pub bounds_of : (World Held → Step Kind → Bool) → Sizes → World Held → List (Step Kind) → ℕ
bounds_of is_so z w [] = 0
bounds_of is_so z w (s ∷ ss) = (if is_so w s then bound_of z (hand_in mmu w s.actor) else 0) + bounds_of is_so z (effect mmu w s) ss

-- what the lines that some steps are of come to, where each counts so: those that begin in them, and those that are under way before
abbrev pub bound_under_way : Sizes → Held → ℕ
bound_under_way z h = if is_under_way h.state.place then bound_of z h else 0

abbrev pub bounds_in : Sizes → World Held → List (Step Kind) → ℕ
bounds_in z w ss = bounds_of begins_line z w ss + sum_below (actors_of z) (λ i. bound_under_way z (hand_in mmu w i))

-- So all lines together: from any moment on they make at most as many steps as its command allows for each delay of a line, and as many for each
-- line that is under way then or begins later.
abbrev pub StepsAreFew : Type 0
StepsAreFew =
    (z : Sizes) (lines : List Line) (w : World Held) (ss ts : List (Step Kind)) → IsRun z lines w (ss ++ ts)
    → how_many is_of_line (run mmu w ss) ts ≤ bounds_of delays_line z (run mmu w ss) ts + bounds_in z (run mmu w ss) ts

-- No line's command allows more than this, but that of a line which changes a run of host pages, and this allows so many more.
abbrev pub most_of_all : Sizes → ℕ
most_of_all z = 8192 + z.pool + z.frames + 5 * z.pages + words_of_bits z.pages

abbrev pub more_of_runs : ℕ
more_of_runs = 2 * 262144 + 5 * 2 ^ 36

-- The line that the hand's next step is of changes a run.
abbrev pub changes_run : Held → Bool
changes_run h = sets_run (line_of h).command

-- The step is so, and one of such a line.
abbrev pub in_runs : (World Held → Step Kind → Bool) → World Held → Step Kind → Bool
in_runs is_so w s = is_so w s && changes_run (hand_in mmu w s.actor)

-- the lines that some steps are of that change runs: those that begin in them, and those that are under way before
abbrev pub runs_under_way : Sizes → World Held → ℕ
runs_under_way z w = sum_below (actors_of z) (λ i. one_if (is_under_way (hand_in mmu w i).state.place && changes_run (hand_in mmu w i)))

abbrev pub runs_in : Sizes → World Held → List (Step Kind) → ℕ
runs_in z w ss = how_many (in_runs begins_line) w ss + runs_under_way z w

-- So in numbers of delays and of lines, of which there are no more than have no answer yet: all lines together make at most the first number for each delay and
-- each line, and the second one besides for each of lines that change runs.
abbrev pub AllStepsAreFew : Type 0
AllStepsAreFew =
    (z : Sizes) (lines : List Line) (w : World Held) (ss ts : List (Step Kind)) → IsRun z lines w (ss ++ ts)
    → how_many is_of_line (run mmu w ss) ts
    ≤ most_of_all z * (how_many delays_line (run mmu w ss) ts + lines_in z (run mmu w ss) ts)
    + more_of_runs * (how_many (in_runs delays_line) (run mmu w ss) ts + runs_in z (run mmu w ss) ts)

-- What a hand has counted of its line's steps, since the line began or since its last delay, is no more than the line's command allows, after any
-- run.
abbrev pub CountsAreFew : Type 0
CountsAreFew = AfterEveryRun (λ z w.
    (actor : ℕ) → actor < actors_of z
    → (hand_in mmu w actor).state.steps ≤ most_steps z (hand_in mmu w actor).state.line.command)
