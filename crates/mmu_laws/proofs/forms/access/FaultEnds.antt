-- A fault ends: its line leaves the guest with the answer, or enters it again, or begins a whole fault after a fast one that couldn't be made.
use Rattle.std.proofs.Common.{◌≡◌, ℕ, [], ◌∷◌, refl, sym, subst, ap, ◌∙◌}
use Rattle.std.specs.Prelude.{Bool, true, false}
use Rattle.core_views.specs.declared.answer.Answer.{Answer}
use Rattle.core_views.specs.declared.answer.Answer.TheVariants as answer
use Rattle.core_views.specs.declared.event.EventKind.TheVariants.{Answered, Exited}
use Rattle.core_views.specs.declared.place.FaultEnd.{FaultEnd}
use Rattle.core_views.specs.declared.place.FaultEnd.TheVariants.{Installed, Mmio, HostFault, Starved, Fixed, Retry, NotFast}
use Rattle.core_views.specs.declared.place.FaultPlace.TheVariants.{Begin}
use Rattle.core_views.specs.declared.place.FaultPlace.TheVariants.{End}
use Rattle.core_views.specs.declared.place.AccessPlace.TheVariants.{Enter, Fault}
use Rattle.core_views.specs.declared.place.Place.TheVariants as place
use Rattle.core_views.specs.declared.sizes.Sizes.{Sizes}
use Rattle.core_views.specs.declared.topics.Topics.{Topics}
use Rattle.core_views.specs.declared.trace.Command.TheVariants.{Access}
use Rattle.core_views.specs.declared.trace.Line.{Line}
use Rattle.core_views.specs.declared.trace.Op.{Op}
use Rattle.core_views.specs.Flat.{Facts, LineUnderWay}
use Rattle.core_views.specs.Past.{Past}
use Rattle.core_views.specs.Lawful.{MayLeave}
use Rattle.spte_words.specs.declared.area.Area.{Area}
use Rattle.part_steps.specs.declared.part_step.PartStep.TheVariants as part
use Rattle.mmu_core.specs.forms.access.AccessSteps.{access_note, access_task}
use Rattle.mmu_core.specs.invariant.Invariant.{Invariant}
use Rattle.part_steps.specs.declared.task.Task.{Task}
use Rattle.part_steps.specs.Tasks.{kind_of_task}
use Rattle.mmu_core.specs.invariant.TopicsInvariant.{TopicsInvariant}
use Rattle.mmu_core.specs.machine.View.{View, answer_in, words_after}
use Rattle.mmu_laws.proofs.flat.FlatSteps.{Goes, Ready, StepGoes, goes_by, leaves_by, part_refines}
use Rattle.mmu_core.proofs.machine.PartStepping.{IsPart}
use Rattle.part_steps.specs.TopicSteps.{topics_after}

module _ (z : Sizes) (v : View) (a : ℕ) (line : Line) (gfn word : ℕ) (op : Op) (facts : Facts) (past : Past) (u : LineUnderWay) where
  abbrev held : Topics
  held = (v.hand a).topics

  -- the words after the step that ends the fault, and what is held then
  abbrev words_ended : FaultEnd → Area → ℕ → ℕ
  words_ended e = words_after (access_task (Fault (End e)) (v.hand a) gfn word op) v.words

  abbrev held_ended : FaultEnd → Topics
  held_ended e =
      let task : Task = access_task (Fault (End e)) (v.hand a) gfn word op in
      topics_after (v.hand a).state.sizes (kind_of_task (v.hand a).state.sizes task) held (answer_in task v.words)

  -- The line leaves the guest with what its fault ends with.
  leaves_with : (how : Answer) → line.command ≡ Access gfn word op → IsPart z v a part.End → Invariant z v → TopicsInvariant z v → (e : FaultEnd)
      → Ready z v line (Access gfn word op) (place.Access (Fault (End e))) held facts u
      → MayLeave z facts (v.hand a).state.actor (Access gfn word op) u.notes how
      → Goes z (v.hand a).state.actor line (Access gfn word op) (words_ended e) place.Between (held_ended e)
      (Exited how ∷ Answered line.number how ∷ []) facts past u
  leaves_with how is S I P e R may =
      let own : u.line.command ≡ Access gfn word op = ap (λ (l : Line). l.command) R.under.0 ∙ is in
      leaves_by z v a line (Access gfn word op) (access_task (Fault (End e)) (v.hand a) gfn word op) facts past u
      (part_refines z v a part.End (access_note (Fault (End e))) facts S P refl refl R.refines) how R.under.0 R.under.1.0.0
      (subst (λ c. MayLeave z facts (v.hand a).state.actor c u.notes how) (sym own) may)

  -- Or it enters the guest again.
  goes_back : (again : Bool) (e : FaultEnd) → IsPart z v a part.End → Invariant z v → TopicsInvariant z v
      → Ready z v line (Access gfn word op) (place.Access (Fault (End e))) held facts u
      → Goes z (v.hand a).state.actor line (Access gfn word op) (words_ended e) (place.Access (Enter again)) (held_ended e) [] facts past u
  goes_back again e S I P R =
      goes_by z v a line (Access gfn word op) (access_task (Fault (End e)) (v.hand a) gfn word op) facts past u
      (part_refines z v a part.End (access_note (Fault (End e))) facts S P refl refl R.refines) (place.Access (Enter again)) (R.under.0, R.under.1.0.0)

  -- Or, after a fast fault that couldn't be made, it begins a whole one.
  goes_whole : (seen : ℕ) → IsPart z v a part.End → Invariant z v → TopicsInvariant z v
      → Ready z v line (Access gfn word op) (place.Access (Fault (End (NotFast seen)))) held facts u
      → StepGoes z v a line (Access gfn word op) (place.Access (Fault (End (NotFast seen)))) facts past u
  goes_whole seen S I P R =
      goes_by z v a line (Access gfn word op) (access_task (Fault (End (NotFast seen))) (v.hand a) gfn word op) facts past u
      (part_refines z v a part.End 0 facts S P refl refl R.refines) (place.Access (Fault Begin)) (R.under.0, (R.under.1.0, tt))

  pub ends : (e : FaultEnd) → line.command ≡ Access gfn word op → IsPart z v a part.End → Invariant z v → TopicsInvariant z v
      → Ready z v line (Access gfn word op) (place.Access (Fault (End e))) held facts u
      → StepGoes z v a line (Access gfn word op) (place.Access (Fault (End e))) facts past u
  ends Installed is S I P R = goes_back true Installed S I P R
  ends Mmio is S I P R = leaves_with answer.Mmio is S I P Mmio R R.under.1.1
  ends HostFault is S I P R = leaves_with answer.HostFault is S I P HostFault R R.under.1.1
  ends Starved is S I P R = leaves_with answer.Starved is S I P Starved R (refl, R.under.1.1)
  ends (Fixed marked) is S I P R = goes_back true (Fixed marked) S I P R
  ends (NotFast seen) is S I P R = goes_whole seen S I P R
  ends (Retry fast cause) is S I P R = goes_back false (Retry fast cause) S I P R
