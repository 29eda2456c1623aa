-- All that laws ask of a line that maps a run of host pages as one, or its pages by themselves. It claims no page and no frame, and raises the sequence number
-- once.
use Rattle.std.proofs.Props.{props}
use Rattle.std.proofs.Common.{◌≡◌, ◌≢◌, ◌⊎◌, inl, inr, ℕ, false, refl, arith}
use Rattle.std.specs.Prelude.{None}
use Rattle.core_views.specs.declared.answer.Answer.TheVariants.{Done, Refused}
use Rattle.core_views.specs.declared.answer.Refusal.{Refusal}
use Rattle.core_views.specs.declared.answer.Refusal.TheVariants.{IsHuge, NoFrame, NotAligned, OutOfRange}
use Rattle.core_views.specs.declared.place.BeginPlace.TheVariants as begins
use Rattle.core_views.specs.declared.place.EndPlace.TheVariants as ends
use Rattle.core_views.specs.declared.place.HostRunPlace.{HostRunPlace}
use Rattle.core_views.specs.declared.place.HostRunPlace.TheVariants.{Look, LookOn, Begin, Change, End}
use Rattle.core_views.specs.declared.place.Place.TheVariants as place
use Rattle.core_views.specs.declared.trace.Command.{Command}
use Rattle.core_views.specs.declared.trace.Command.TheVariants.{ChangeRun}
use Rattle.core_views.specs.declared.trace.RunChange.{RunChange}
use Rattle.core_views.specs.Held.{Held}
use Rattle.core_views.specs.HostRuns.{owns_run}
use Rattle.part_steps.specs.declared.part_step.PartStep.TheVariants as part
use Rattle.part_steps.specs.PageRuns.{is_several, one_look}
use Rattle.mmu_core.specs.declared.invalidate.EndNext.{EndNext}
use Rattle.mmu_core.specs.declared.invalidate.EndNext.TheVariants as ends_next
use Rattle.mmu_core.specs.declared.outcome.Outcome.TheVariants.{Goes, Ends}
use Rattle.mmu_core.specs.forms.access.AccessSteps.{ends_with}
use Rattle.mmu_core.specs.forms.host_run.HostRunKnows.{HostRunRests}
use Rattle.mmu_core.specs.forms.host_run.HostRunSteps.{after_run_begin, after_run_change, after_run_end, host_run_note, host_run_outcome, host_run_part}
use Rattle.mmu_core.specs.forms.host_run.HostRunSteps.{page_after, run_target}
use Rattle.mmu_core.specs.lines.ScanPlaces.{HasScan, answer_without, claim_at}
use Rattle.mmu_core.specs.orders.ClaimSteps.{FreeMap, Pages, Frames}
use Rattle.mmu_core.specs.orders.InvalidateSteps.{begin_next, end_next}
use Rattle.mmu_core.proofs.forms.access.FaultScans.{maps}
use Rattle.mmu_core.proofs.forms.host_run.HostRunPlaces.{each_look, each_next_look, host_run_few, host_run_free, host_run_goes, host_run_knows_prop}
use Rattle.mmu_core.proofs.forms.host_run.HostRunPlaces.{host_run_rests_prop, some_host_run_left}
use Rattle.mmu_core.proofs.lines.EitherPlace.{each_map, either_place}
use Rattle.mmu_core.proofs.lines.FormLaws.{FormLaws}
use Rattle.mmu_core.proofs.lines.LineClaims.{HasNoScan, IsLook, is_answered, to_no_scan_noted}
use Rattle.mmu_core.proofs.lines.LinesKept.{answers_length}
use Rattle.mmu_core.proofs.lines.SimplePlaces.{Nothing, OfHostRun, RaisesOn, SimplePlace, none_raised}
use Rattle.mmu_core.proofs.machine.PartStepping.{rises}
use Rattle.mmu_core.proofs.orders.InvalidatePlaces.{begin_plain, begin_rises, end_plain}

-- ---- it claims nothing

no_claim : (p : HostRunPlace) (map : FreeMap) → claim_at map (place.HostRun p) ≡ None
no_claim p Pages = refl
no_claim p Frames = refl

pub run_scans_none : (p : HostRunPlace) (map : FreeMap) → HasScan (place.HostRun p) map → ⊥
run_scans_none p Pages S = S
run_scans_none p Frames S = S

run_maps_not : (p : HostRunPlace) (page : ℕ) (change : RunChange) (h : Held) → (map : FreeMap) → maps map (host_run_part p page change h) ≡ false
run_maps_not Look page change h map =
    either_place (λ s. maps map s ≡ false) (owns_run h.state.sizes h.state.actor page change) (part.Host page) part.Seq refl refl
run_maps_not LookOn page change h map = refl
run_maps_not (Begin p) page change h map = (begin_plain p (run_target page h.topics) h.topics).maps_not map
run_maps_not Change page change h map =
    either_place (λ s. maps map s ≡ false) (is_several h.topics.invalidations.own.pages) part.ChangeNext (part.Change _) refl refl
run_maps_not (End p) page change h map = (end_plain p h.topics).maps_not map

run_goes_on : (p : HostRunPlace) → HasNoScan (Goes (place.HostRun p))
run_goes_on p = record { no_scan = run_scans_none p; fed = λ map e. cc e }

refused_otherwise : (refusal : Refusal) → Refused refusal ≢ Refused NoFrame → HasNoScan (Ends (Refused refusal))
refused_otherwise refusal other =
    is_answered (Refused refusal) (each_map (λ map. Ends (Refused refusal) ≢ Ends (answer_without map)) (λ e. cc e) (λ e. other (cc e)))

run_ends_none : (next : EndNext) → HasNoScan (after_run_end next)
run_ends_none (ends_next.Goes p) = run_goes_on (End p)
run_ends_none ends_next.Ended = is_answered Done (each_map (λ map. Ends Done ≢ Ends (answer_without map)) (λ e. cc e) (λ e. cc e))

comes_to_none : (p : HostRunPlace) (page : ℕ) (change : RunChange) (h : Held) (v : ℕ) → HasNoScan (host_run_outcome p page change h v)
comes_to_none Look page change h v =
    either_place HasNoScan (owns_run h.state.sizes h.state.actor page change) _ (Ends (Refused OutOfRange))
    (each_look HasNoScan change (record { page = page; word = v }) one_look v (refused_otherwise IsHuge (λ e. cc e)) (run_goes_on LookOn)
    (run_goes_on (Begin begins.Exclude)) (refused_otherwise NotAligned (λ e. cc e))) (refused_otherwise OutOfRange (λ e. cc e))
comes_to_none LookOn page change h v =
    each_next_look HasNoScan change h.topics.host h.topics.row (page_after page change h.topics) v (refused_otherwise OutOfRange (λ e. cc e))
    (refused_otherwise IsHuge (λ e. cc e)) (run_goes_on LookOn) (run_goes_on (Begin begins.Exclude)) (refused_otherwise NotAligned (λ e. cc e))
comes_to_none (Begin p) page change h v = run_goes_on (after_run_begin (begin_next p h.state.sizes (run_target page h.topics) h.topics v))
comes_to_none Change page change h v = run_goes_on (after_run_change h.topics v)
comes_to_none (End p) page change h v = run_ends_none (end_next p v)

run_notes : (p : HostRunPlace) (page : ℕ) (change : RunChange) (h : Held) (v : ℕ)
    → (host_run_note p change ≡ ends_with (host_run_outcome p page change h v)) ⊎ IsLook (place.HostRun p)
run_notes Look page change h v = inr tt
run_notes LookOn page change h v = inr tt
run_notes (End ends.Release) page change h v = inl refl
run_notes (End _) page change h v = inl refl
run_notes _ page change h v = inl refl

or_look : {A B C : Type 0} → A ⊎ C → A ⊎ B ⊎ C
or_look (inl is) = inl is
or_look (inr look) = inr (inr look)

-- ---- it raises the sequence number once

run_raises : (p : HostRunPlace) (page : ℕ) (change : RunChange) (h : Held) (v : ℕ) → RaisesOn (place.HostRun p) (ChangeRun page change) h v
run_raises Look page change h v line =
    none_raised (host_run_outcome Look page change h v) line h.answers _
    (either_place (λ step. rises step ≡ 0) (owns_run h.state.sizes h.state.actor page change) (part.Host page) part.Seq refl refl)
run_raises LookOn page change h v line = none_raised (host_run_outcome LookOn page change h v) line h.answers 0 refl
run_raises (Begin p) page change h v line =
    none_raised (host_run_outcome (Begin p) page change h v) line h.answers _ (begin_rises p (run_target page h.topics) h.topics)
run_raises Change page change h v line =
    none_raised (host_run_outcome Change page change h v) line h.answers _
    (either_place (λ step. rises step ≡ 0) (is_several h.topics.invalidations.own.pages) part.ChangeNext (part.Change _) refl refl)
run_raises (End ends.Exclude) page change h v line = omega arith
run_raises (End ends.Seq) page change h v line = omega arith
run_raises (End ends.SetSeq) page change h v line = omega arith
run_raises (End ends.Count) page change h v line = omega arith
run_raises (End ends.SetCount) page change h v line = omega arith
run_raises (End ends.Release) page change h v line =
    let more = answers_length h.answers (record { number = line.number; actor = line.actor; answer = Done }) in omega (arith, more)

-- ---- all of it

host_run_simple : (p : HostRunPlace) (page : ℕ) (change : RunChange) (h : Held) (v : ℕ) → SimplePlace (place.HostRun p) (ChangeRun page change) h v
host_run_simple p page change h v = record {
  tells = OfHostRun p page change;
  raises = run_raises p page change h v;
  claims = λ R.
      to_no_scan_noted (place.HostRun p) (ChangeRun page change) h v (no_claim p) (run_maps_not p page change h) (or_look (run_notes p page change h v))
      (comes_to_none p page change h v);
}

pub host_run_laws : (p : HostRunPlace) (c : Command) → FormLaws (place.HostRun p) c
host_run_laws p (ChangeRun page change) = record {
  goes = λ h v begun. (host_run_goes p page change h v).0;
  within = λ h v. (host_run_goes p page change h v).1;
  knows_for = λ h begun K. refl;
  rests_for = λ h begun R. refl;
  simple = λ h v is. host_run_simple p page change h v;
  rests = λ h other. inr (record {
    step = host_run_part p page change h;
    at = refl;
    more = HostRunRests p h;
    more_prop = host_run_rests_prop p h;
    needs = λ R. R;
    rests = λ N M. (N, M);
  });
  knows_prop = λ h other. host_run_knows_prop p page change h;
  stays = λ z before set after other h own e. tt;
  accepts = λ z pool set h e. tt;
  accepts_prop = λ z slots. hlevel props;
  free = λ h v answer R e. host_run_free p page change h v answer R.1 e;
  told = λ h v. OfHostRun p page change;
  few = λ z pool set h holds K S most.
      let few = host_run_few p h.state.sizes page change h most K in let actors = S.actors in omega (arith, few, actors);
  some = λ z t begun. some_host_run_left p z t;
}
host_run_laws p _ = record {
  goes = λ h v begun. tt;
  within = λ h v command. refl;
  knows_for = λ h begun K. absurd K;
  rests_for = λ h begun R. absurd R;
  simple = λ h v is.
      record { tells = Nothing; raises = λ line. omega arith; claims = λ R. absurd R };
  rests = λ h other. inl (λ R. absurd R);
  knows_prop = λ h other. hlevel props;
  stays = λ z before set after other h own e. absurd e;
  accepts = λ z pool set h e. tt;
  accepts_prop = λ z slots. hlevel props;
  free = λ h v answer R e. absurd R;
  told = λ h v. Nothing;
  few = λ z pool set h holds K S most. absurd K;
  some = λ z t begun. some_host_run_left p z t;
}
