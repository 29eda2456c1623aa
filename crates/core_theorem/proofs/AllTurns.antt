-- No line's bound is above one number, and one more where it changes a run of host pages: so all steps are few by the numbers of delays and of lines.
use Rattle.std.proofs.Common.{◌≡◌, ◌+◌, ◌*◌, ◌<◌, ◌≤◌, ℕ, zero, suc, List, [], ◌∷◌, arith}
use Rattle.std.specs.Prelude.{Bool, true, false, ◌&&◌, if◌then◌else◌}
use Rattle.core_views.specs.declared.kind.Kind.{Kind}
use Rattle.core_views.specs.declared.sizes.Sizes.{Sizes}
use Rattle.core_views.specs.Held.{Held}
use Rattle.core_views.specs.Sizes.{actors_of}
use Rattle.mmu_core.specs.machine.Enabled.{mmu}
use Rattle.mmu_core.specs.machine.Machine.{Step, World, effect, hand_in, run}
use Rattle.mmu_core.specs.machine.Sums.{one_if, sum_below}
use Rattle.mmu_core.specs.machine.Turns.{line_of}
use Rattle.mmu_core.proofs.lines.StepsFew.{most_apart}
use Rattle.core_theorem.specs.Turns.{AllStepsAreFew, begins_line, bound_of, bound_under_way, bounds_of, changes_run, delays_line, how_many, in_runs}
use Rattle.core_theorem.specs.Turns.{is_under_way, lines_under_way, more_of_runs, most_of_all, runs_under_way}
use Rattle.core_theorem.proofs.Turns.{steps_are_few}

-- So many for each, and so many more for each that changes a run.
abbrev Few : ℕ → ℕ → ℕ → ℕ → ℕ → Type 0
Few steps most more all of_runs = steps ≤ most * all + more * of_runs

few_each : (z : Sizes) (h : Held) → bound_of z h ≤ most_of_all z + (if changes_run h then more_of_runs else 0)
few_each z h = most_apart z (line_of h).command

-- One that counts or doesn't.
one_few : (most more : ℕ) (counts runs : Bool) (x : ℕ) → x ≤ most + (if runs then more else 0)
    → Few (if counts then x else 0) most more (one_if counts) (one_if (counts && runs))
one_few most more true true x few = let e : most * 1 ≡ most = omega arith in let d : more * 1 ≡ more = omega arith in omega (arith, few, e, d)
one_few most more true false x few = let e : most * 1 ≡ most = omega arith in omega (arith, few, e)
one_few most more false runs x few = omega arith

both_few : (most more x rest a b c d : ℕ) → Few x most more a b → Few rest most more c d → Few (x + rest) most more (a + c) (b + d)
both_few most more x rest a b c d few le =
    let e : most * (a + c) ≡ most * a + most * c = omega arith in
    let f : more * (b + d) ≡ more * b + more * d = omega arith in
    omega (arith, few, le, e, f)

bounds_few : (is_so : World Held → Step Kind → Bool) (z : Sizes) (w : World Held) (ss : List (Step Kind))
    → Few (bounds_of is_so z w ss) (most_of_all z) more_of_runs (how_many is_so w ss) (how_many (in_runs is_so) w ss)
bounds_few is_so z w [] = omega arith
bounds_few is_so z w (s ∷ ss) =
    both_few (most_of_all z) more_of_runs (if is_so w s then bound_of z (hand_in mmu w s.actor) else 0) (bounds_of is_so z (effect mmu w s) ss)
    (one_if (is_so w s)) (one_if (in_runs is_so w s)) (how_many is_so (effect mmu w s) ss) (how_many (in_runs is_so) (effect mmu w s) ss)
    (one_few (most_of_all z) more_of_runs (is_so w s) (changes_run (hand_in mmu w s.actor)) (bound_of z (hand_in mmu w s.actor))
    (few_each z (hand_in mmu w s.actor))) (bounds_few is_so z (effect mmu w s) ss)

sum_few : (n most more : ℕ) (f g h : ℕ → ℕ) → ((i : ℕ) → i < n → Few (f i) most more (g i) (h i))
    → Few (sum_below n f) most more (sum_below n g) (sum_below n h)
sum_few zero most more f g h each = omega arith
sum_few (suc n) most more f g h each =
    both_few most more (sum_below n f) (f n) (sum_below n g) (sum_below n h) (g n) (h n) (sum_few n most more f g h (λ i lt. each i (omega (arith, lt))))
    (each n (omega arith))

under_few : (z : Sizes) (w : World Held)
    → Few (sum_below (actors_of z) (λ i. bound_under_way z (hand_in mmu w i))) (most_of_all z) more_of_runs (lines_under_way z w) (runs_under_way z w)
under_few z w =
    sum_few (actors_of z) (most_of_all z) more_of_runs (λ i. bound_under_way z (hand_in mmu w i)) (λ i. one_if (is_under_way (hand_in mmu w i).state.place))
    (λ i. one_if (is_under_way (hand_in mmu w i).state.place && changes_run (hand_in mmu w i)))
    (λ i lt. one_few (most_of_all z) more_of_runs (is_under_way (hand_in mmu w i).state.place) (changes_run (hand_in mmu w i)) (bound_of z (hand_in mmu w i))
    (few_each z (hand_in mmu w i)))

at_most : (most more steps bounds all of_runs : ℕ) → steps ≤ bounds → Few bounds most more all of_runs → Few steps most more all of_runs
at_most most more steps bounds all of_runs le few = omega (arith, le, few)

pub all_steps_are_few : AllStepsAreFew
all_steps_are_few z lines w ss ts R =
    let u : World Held = run mmu w ss in
    at_most (most_of_all z) more_of_runs _ _ _ _ (steps_are_few z lines w ss ts R)
    (both_few (most_of_all z) more_of_runs _ _ _ _ _ _ (bounds_few delays_line z u ts)
    (both_few (most_of_all z) more_of_runs _ _ _ _ _ _ (bounds_few begins_line z u ts) (under_few z u)))
