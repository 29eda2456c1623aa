-- Each step of a part that waits has its cause, whoever makes it.
use Rattle.mmu_laws.proofs.causes.WaitsSee.{more}
use Rattle.std.proofs.Common.{◌≡◌, ℕ, List, [], ◌∷◌, refl, sym, subst, ap}
use Rattle.std.specs.Prelude.{true}
use Rattle.core_views.specs.declared.kind.Kind.{Kind}
use Rattle.core_views.specs.declared.sizes.Sizes.{Sizes}
use Rattle.core_views.specs.declared.topics.Hold.{Hold}
use Rattle.core_views.specs.declared.topics.Hold.TheVariants.{Exclusive, Owing}
use Rattle.core_views.specs.declared.topics.Topics.{Topics}
use Rattle.core_views.specs.Held.{Held}
use Rattle.part_steps.specs.declared.part_step.PartStep.{PartStep}
use Rattle.part_steps.specs.declared.part_step.PartStep.TheVariants as part
use Rattle.mmu_core.specs.declared.claim.FreeMap.TheVariants.{Frames, Pages}
use Rattle.mmu_core.specs.machine.Enabled.{mmu}
use Rattle.mmu_core.specs.invariant.Laws.{IsSound}
use Rattle.mmu_core.specs.machine.Machine.{May, Step, World, answered, hand_in, run}
use Rattle.mmu_core.specs.lines.PartWaits.{is_owing, part_waits, word_owed, saw_open}
use Rattle.mmu_laws.specs.causes.Waits.{HasOthersOpen, FoundCount, FoundWriter, StepWaitIsCaused, StepWaitsAreByCause}
use Rattle.mmu_laws.proofs.causes.ActorSaw.{ActorSaw, actor_saw}
use Rattle.mmu_laws.proofs.causes.ClaimSeen.{is_taken}
use Rattle.mmu_laws.proofs.causes.FindsOthers.{lock_taken, other_inside, to_flush}
use Rattle.mmu_laws.proofs.causes.MadeSteps.{Makes}
use Rattle.mmu_laws.proofs.causes.StarvedScan.{legal_parts}
use Rattle.mmu_core.proofs.machine.Worlds.{good_run}

module _ (z : Sizes) (w : World Held) (ss : List (Step Kind)) (s : Step Kind) (G : IsSound z (run mmu w ss)) (may : May mmu (run mmu w ss) s) where
  abbrev u : World Held
  u = run mmu w ss

  abbrev h : Held
  h = hand_in mmu u s.actor

  abbrev v : ℕ
  v = answered mmu u s.kind

  abbrev Saw : Topics → Type 0
  Saw t = ActorSaw z w s.actor t ss u

  owes : (hold : Hold) → h.topics.hold ≡ hold → is_owing hold ≡ true → Saw h.topics → FoundWriter z s.actor (word_owed h.topics.hold) w ss
  owes (Owing word) is owing S = subst (λ m. FoundWriter z s.actor m w ss) (sym (ap word_owed is)) (S.owing word is)
  owes _ is owing S = absurd (cc owing)

  saw_some : h.topics.hold ≡ Exclusive → saw_open h.topics.invalidations ≡ true → Saw h.topics
      → FoundCount z s.actor Exclusive h.topics.invalidations.count w ss × HasOthersOpen h.topics.invalidations
  saw_some alone open_ S =
      (subst (λ hold. FoundCount z s.actor hold h.topics.invalidations.count w ss) alone (S.counted open_), more h.topics.invalidations open_)

  caused : (step : PartStep) → Makes h s step → part_waits step h.topics v ≡ true → Saw h.topics → StepWaitIsCaused step z w ss s
  caused part.Unshare M is S = owes h.topics.hold refl is S
  caused part.Claim M is S = is_taken z w ss s G may Pages is M (S.claim Pages M.needs.1)
  caused part.Frame M is S = is_taken z w ss s G may Frames is M (S.claim Frames M.needs.1)
  caused part.Exclude M is S = lock_taken z u s G may M is
  caused part.Release M is S = saw_some M.needs.alone is S
  caused (part.Await index) M is S = to_flush z u s G may index M is
  caused (part.Watch index) M is S = other_inside z u s G may index M is
  caused _ M is S = absurd (cc is)

pub step_waits_are_by_cause : StepWaitsAreByCause
step_waits_are_by_cause z w ss s step note sound legal nothing_ is needs waits =
    let parts = legal_parts w ss (s ∷ []) legal in
    let G : IsSound z (run mmu w ss) = good_run z w ss sound parts.0 in
    caused z w ss s G parts.1.0 step (record { note = note; is = is; needs = needs }) waits (actor_saw z w ss s.actor sound parts.0 nothing_)
