-- Each delay of a line has its cause: it waits, begins its fault anew or misses an installed entry, and each of these has one.
use Rattle.std.proofs.Common.{◌≡◌, ◌⊎◌, inl, inr, ◌<◌, ℕ, List, [], ◌∷◌, ◌++◌, refl, sym, subst, ap}
use Rattle.std.specs.Prelude.{Bool, true}
use Rattle.core_views.specs.declared.kind.Kind.{Kind}
use Rattle.core_views.specs.declared.place.AccessPlace.TheVariants.{Enter, Pause, Root, Walk, Touch, Leave, Fault}
use Rattle.core_views.specs.declared.place.FaultPlace.TheVariants as fault
use Rattle.core_views.specs.declared.place.FaultEnd.TheVariants as end_of
use Rattle.core_views.specs.declared.place.Cause.{Cause}
use Rattle.core_views.specs.declared.place.Place.{Place}
use Rattle.core_views.specs.declared.place.Place.TheVariants as place
use Rattle.core_views.specs.declared.sizes.Sizes.{Sizes}
use Rattle.core_views.specs.declared.trace.Line.{Line}
use Rattle.core_views.specs.Held.{Held}
use Rattle.core_views.specs.Sizes.{actors_of}
use Rattle.part_steps.specs.declared.part_step.PartStep.{PartStep}
use Rattle.part_steps.specs.PartTasks.{part_kind}
use Rattle.part_steps.specs.PartBounds.{PartRests}
use Rattle.part_steps.specs.PartSteps.{PartNeeds}
use Rattle.mmu_core.specs.lines.Delays.{begins_anew, line_waits}
use Rattle.mmu_core.specs.machine.Enabled.{mmu}
use Rattle.mmu_core.specs.lines.Forms.{KnowsPart}
use Rattle.mmu_core.specs.invariant.Laws.{IsSound}
use Rattle.mmu_core.specs.machine.Machine.{Legal, May, Step, World, hand_in, run}
use Rattle.mmu_core.specs.lines.PartWaits.{part_waits}
use Rattle.mmu_core.specs.machine.Steps.{has_line, place_at}
use Rattle.mmu_laws.specs.causes.Waits.{SawNothing, StepWaitIsCaused}
use Rattle.mmu_core.specs.machine.View.{view}
use Rattle.mmu_core.proofs.invariant.PartBounded.{part_rests_at}
use Rattle.mmu_core.specs.machine.Turns.{line_of}
use Rattle.mmu_laws.specs.turns.Removal.{StayMisses}
use Rattle.mmu_laws.specs.turns.TurnLaws.{counts_as_delay}
use Rattle.core_theorem.proofs.TakenAway.{misses_entry}
use Rattle.mmu_laws.proofs.causes.Causes.{faults_begin_anew_by_cause}
use Rattle.mmu_laws.proofs.forms.access.EachFault.{is_access}
use Rattle.mmu_laws.proofs.causes.SawNothing.{between_lines_saw_nothing, line_left_before, starts_saw_nothing as seen_at_start}
use Rattle.mmu_laws.proofs.causes.StarvedScan.{legal_parts}
use Rattle.mmu_core.proofs.start.Starts.{hand_is}
use Rattle.mmu_laws.proofs.turns.DelayCases.{delays_since}
use Rattle.mmu_laws.proofs.causes.StepWaits.{step_waits_are_by_cause}
use Rattle.mmu_laws.proofs.causes.WaitsSee.{waits_see_another as step_waits_see_another}
use Rattle.mmu_core.proofs.lines.LineWaits.{WaitsAs, line_waits_as}
use Rattle.mmu_core.proofs.machine.Which.{is_next}
use Rattle.mmu_core.proofs.machine.Worlds.{good_run}
use Rattle.core_theorem.specs.Delays.{BeginsAnew, BetweenLinesSawNothing, DelaysHaveCauses, MissesEntry, StartsSawNothing, StepWaits, WaitsHaveCauses}
use Rattle.core_theorem.specs.Delays.{WaitsInRunsSeeAnother}
use Rattle.core_theorem.specs.Delays.{answer_of, hand_of}
use Rattle.core_theorem.specs.Runs.{IsRun}
use Rattle.core_theorem.proofs.Runs.{before, may_last, reached, sound}

-- The place is the end of a section that begins anew.
record IsNewBeginning (p : Place) : Type 0 where
  fast : Bool
  cause : Cause
  is : p ≡ place.Access (Fault (fault.End (end_of.Retry fast cause)))

new_beginning : (p : Place) → begins_anew p ≡ true → IsNewBeginning p
new_beginning (place.Access (Fault (fault.End (end_of.Retry fast cause)))) is = record { fast = fast; cause = cause; is = refl }
new_beginning (place.Access (Fault (fault.End end_of.Installed))) is = absurd (cc is)
new_beginning (place.Access (Fault (fault.End end_of.Mmio))) is = absurd (cc is)
new_beginning (place.Access (Fault (fault.End end_of.HostFault))) is = absurd (cc is)
new_beginning (place.Access (Fault (fault.End end_of.Starved))) is = absurd (cc is)
new_beginning (place.Access (Fault (fault.End (end_of.Fixed marked)))) is = absurd (cc is)
new_beginning (place.Access (Fault (fault.End (end_of.NotFast found)))) is = absurd (cc is)
new_beginning (place.Access (Fault _)) is = absurd (cc is)
new_beginning (place.Access (Enter again)) is = absurd (cc is)
new_beginning (place.Access (Pause again)) is = absurd (cc is)
new_beginning (place.Access (Root again)) is = absurd (cc is)
new_beginning (place.Access (Walk again)) is = absurd (cc is)
new_beginning (place.Access Touch) is = absurd (cc is)
new_beginning (place.Access (Leave how)) is = absurd (cc is)
new_beginning _ is = absurd (cc is)

-- A run to a moment, some steps after it and one more.
module _ (z : Sizes) (lines : List Line) (w : World Held) (ss ts : List (Step Kind)) (s : Step Kind) (R : IsRun z lines w (ss ++ (ts ++ s ∷ []))) where
  -- the world of this moment
  abbrev u : World Held
  u = run mmu w ss

  abbrev h : Held
  h = hand_of u ts s

  abbrev v : ℕ
  v = answer_of u ts s

  parts : Legal mmu w ss × Legal mmu u (ts ++ s ∷ [])
  parts = legal_parts w ss (ts ++ s ∷ []) R.legal

  since : Legal mmu u ts × Legal mmu (run mmu u ts) (s ∷ [])
  since = legal_parts u ts (s ∷ []) parts.1

  up_to : IsRun z lines w ss
  up_to = record { start = R.start; legal = parts.0 }

  good : IsSound z u
  good = sound z lines w ss up_to

  last_good : IsSound z (run mmu u ts)
  last_good = good_run z u ts good since.0

  may : May mmu (run mmu u ts) s
  may = since.1.0

  there : s.actor < actors_of z
  there = subst (λ n. s.actor < n) last_good.hands may.there

  known : KnowsPart h.state.place h.state.line.command h
  known = last_good.holds.knows s.actor there

  pub wait_is_caused : (step : PartStep) (note : ℕ) → SawNothing (hand_in mmu u s.actor).topics → s.kind ≡ part_kind h step note → PartNeeds step h
      → part_waits step h.topics v ≡ true → StepWaitIsCaused step z u ts s
  wait_is_caused step note N is needs waits = step_waits_are_by_cause z u ts s step note good parts.1 N is needs waits

  waiting : SawNothing (hand_in mmu u s.actor).topics → WaitsAs h s.kind v → StepWaits z u ts s
  waiting N W =
      record { step = W.step; note = W.note; is = W.is; needs = W.needs; waits = W.waits_; caused = wait_is_caused W.step W.note N W.is W.needs W.waits_ }

  beginning : (hand_in mmu u s.actor).state.place ≡ place.Between → IsNewBeginning h.state.place → BeginsAnew z u ts s
  beginning idle N =
      let A = is_access h (Fault (fault.End (end_of.Retry N.fast N.cause))) N.is known in
      record {
        fast = N.fast;
        cause = N.cause;
        gfn = A.gfn;
        word = A.word;
        op = A.op;
        at = N.is;
        access_is = A.command;
        caused = faults_begin_anew_by_cause z u ts s.actor A.gfn A.word A.op N.fast N.cause good since.0 idle N.is A.command;
      }

  abbrev pub Caused : Type 0
  Caused = BeginsAnew z u ts s ⊎ StepWaits z u ts s ⊎ MissesEntry z u ts s

  by : has_line h ≡ true → (hand_in mmu u s.actor).state.place ≡ place.Between
      → (line_waits (place_at h.state.place h) (line_of h).command h v ≡ true) ⊎ (begins_anew h.state.place ≡ true) ⊎ StayMisses z u ts s → Caused
  by has idle (inl is) =
      let had = line_left_before z u ts s.actor good since.0 has in
      let N = between_lines_saw_nothing u s.actor (reached z lines w ss up_to) (subst (λ n. s.actor < n) (sym good.hands) there) had idle in
      inr (inl (waiting N (line_waits_as h s.kind v (is_next h s.kind may.enabled has) is)))
  by has idle (inr (inl is)) = inl (beginning idle (new_beginning h.state.place is))
  by has idle (inr (inr M)) = inr (inr (misses_entry z u ts s good since.0 M))

  pub is_caused : (hand_in mmu u s.actor).state.place ≡ place.Between → has_line h ≡ true → counts_as_delay (run mmu u ts) s ≡ true → Caused
  is_caused idle has delays = by has idle (delays_since z u ts s good idle parts.1 has delays)

pub waits_have_causes : WaitsHaveCauses
waits_have_causes z lines w ss ts s step note R N is needs waits = wait_is_caused z lines w ss ts s R step note N is needs waits

pub waits_see_another : WaitsInRunsSeeAnother
waits_see_another z lines w ss s step note R is needs waits =
    let G : IsSound z (run mmu w ss) = sound z lines w ss (before z lines w ss s R) in
    let may : May mmu (run mmu w ss) s = may_last z lines w ss s R in
    let rests : PartRests (hand_of w ss s) = part_rests_at z (view z (run mmu w ss)) s.actor G.holds G.topics (subst (λ n. s.actor < n) G.hands may.there) in
    step_waits_see_another step (hand_of w ss s) (answer_of w ss s) rests needs waits

pub delays_have_causes : DelaysHaveCauses
delays_have_causes z lines w ss ts s R idle has delays = is_caused z lines w ss ts s R idle has delays

-- ---- what an actor has seen at the start, and between its lines

pub starts_saw_nothing : StartsSawNothing
starts_saw_nothing z lines w actor R there =
    (ap (λ (h : Held). h.state.place) (hand_is z lines w actor R.start there), seen_at_start z lines w actor R.start there)

pub between_lines_see_nothing : BetweenLinesSawNothing
between_lines_see_nothing z lines w ss actor R there has idle =
    between_lines_saw_nothing (run mmu w ss) actor (reached z lines w ss R) (subst (λ n. actor < n) (sym (sound z lines w ss R).hands) there) has idle
