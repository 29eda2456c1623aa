-- Where a run may stop: after more steps, after a turn that answers its line, and anywhere for want of memory.
use Rattle.std.proofs.Common.{◌≡◌, List, [], ◌∷◌, ◌++◌, append_assoc, refl, sym, ap, subst, ◌∙◌}
use Rattle.core_views.specs.declared.kind.Kind.{Kind}
use Rattle.core_views.specs.Held.{Held}
use Rattle.mmu_core.specs.machine.Enabled.{mmu}
use Rattle.mmu_core.specs.machine.Machine.{Step, World, run}
use Rattle.mmu_core.proofs.machine.Extend.{run-append}
use Rattle.tdp_io.specs.declared.sink.Stop.{Stop}
use Rattle.tdp_io.specs.declared.sink.Stop.TheVariants.{Failed, NoMemory}
use Rattle.turn_loops.specs.Turning.{AnswersLine, EndsWithAnswer, MayStop}

pub answer_behind : (w : World Held) (ss ts : List (Step Kind)) → EndsWithAnswer (run mmu w ss) ts → EndsWithAnswer w (ss ++ ts)
answer_behind w ss ts E = record {
  before = ss ++ E.before;
  last = E.last;
  are = ap (λ (l : List (Step Kind)). ss ++ l) E.are ∙ sym (append_assoc ss E.before (E.last ∷ []));
  answers = subst (λ (x : World Held). AnswersLine x E.last) (sym (run-append mmu w ss E.before)) E.answers;
}

pub answers_last : (w : World Held) (ss : List (Step Kind)) (s : Step Kind) → AnswersLine (run mmu w ss) s → EndsWithAnswer w (ss ++ s ∷ [])
answers_last w ss s A = record { before = ss; last = s; are = refl; answers = A }

pub stops_behind : (stop : Stop) (w : World Held) (ss ts : List (Step Kind)) → MayStop stop (run mmu w ss) ts → MayStop stop w (ss ++ ts)
stops_behind Failed w ss ts may = answer_behind w ss ts may
stops_behind NoMemory w ss ts may = tt

pub stops_at_answer : (stop : Stop) (w : World Held) (ss : List (Step Kind)) → EndsWithAnswer w ss → MayStop stop w ss
stops_at_answer Failed w ss E = E
stops_at_answer NoMemory w ss E = tt

pub stops_full : (stop : Stop) (w : World Held) (ss : List (Step Kind)) → stop ≡ NoMemory → MayStop stop w ss
stops_full stop w ss full = subst (λ (x : Stop). MayStop x w ss) (sym full) tt
