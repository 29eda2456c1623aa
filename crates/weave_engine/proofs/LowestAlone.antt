-- The moves of lines that run one after another, each alone, take the lowest frame that no page names.
use Rattle.std.proofs.Common.{◌≡◌, List, [], ◌∷◌, ◌++◌, refl, sym, subst, ap, ◌∙◌, append_assoc}
use Rattle.std.proofs.lemmas.List.{append-nil}
use Rattle.core_views.specs.declared.kind.Kind.{Kind}
use Rattle.core_views.specs.declared.sizes.Sizes.{Sizes}
use Rattle.core_views.specs.declared.trace.Line.{Line}
use Rattle.core_views.specs.Alone.{TakeLowest}
use Rattle.core_views.specs.Flat.{first_flat}
use Rattle.core_views.specs.Held.{Held}
use Rattle.mmu_core.specs.machine.Enabled.{mmu}
use Rattle.mmu_core.specs.machine.Machine.{Legal, Step, World, run}
use Rattle.mmu_core.specs.machine.Worlds.{IsStart, history}
use Rattle.mmu_core.proofs.machine.Extend.{legal-append, run-append}
use Rattle.turn_loops.specs.Replays.{EachRunsAlone}

each_lowest : (z : Sizes) (all : List Line) (start : World Held) → IsStart z all start → (done : List (Step Kind)) (lines : List Line) (ss : List (Step Kind))
    → Legal mmu start done → TakeLowest z first_flat (history start done) → EachRunsAlone z (run mmu start done) lines ss
    → TakeLowest z first_flat (history start (done ++ ss))
each_lowest z all start is_start done [] ss legal takes none =
    subst (λ (l : List (Step Kind)). TakeLowest z first_flat (history start l)) (sym (ap (λ (l : List (Step Kind)). done ++ l) none ∙ append-nil done)) takes
each_lowest z all start is_start done (line ∷ lines) ss legal takes (own, rest, answer, are, ran, each) =
    let both : run mmu start (done ++ own) ≡ run mmu (run mmu start done) own = run-append mmu start done own in
    subst (λ (l : List (Step Kind)). TakeLowest z first_flat (history start l))
    (append_assoc done own rest ∙ ap (λ (l : List (Step Kind)). done ++ l) (sym are))
    (each_lowest z all start is_start (done ++ own) lines rest (legal-append mmu start done own legal ran.runs.legal)
    (ran.lowest all start done is_start legal refl takes) (subst (λ (x : World Held). EachRunsAlone z x lines rest) (sym both) each))

pub lines_take_lowest : (z : Sizes) (all : List Line) (start : World Held) → IsStart z all start → (lines : List Line) (ss : List (Step Kind))
    → EachRunsAlone z start lines ss → TakeLowest z first_flat (history start ss)
lines_take_lowest z all start is_start lines ss each = each_lowest z all start is_start [] lines ss tt tt each
