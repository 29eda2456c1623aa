-- Each step of a line that runs while all other actors rest goes through: it doesn't wait, no fault begins anew, and the line is
-- answered or has fewer steps left.
use Rattle.std.proofs.Common.{◌≡◌, ◌⊎◌, ◌<◌, ◌≤◌, ℕ, refl, sym, subst, ap, ◌∙◌, arith}
use Rattle.std.specs.Prelude.{false, ◌&&◌, Option, Some, None}
use Rattle.core_views.specs.declared.place.AccessPlace.TheVariants.{Walk, Fault}
use Rattle.core_views.specs.declared.place.FaultEnd.TheVariants as end_of
use Rattle.core_views.specs.declared.place.FaultPlace.TheVariants as fault
use Rattle.core_views.specs.declared.place.Place.{Place}
use Rattle.core_views.specs.declared.place.Place.TheVariants as place
use Rattle.core_views.specs.declared.sizes.Sizes.{Sizes}
use Rattle.core_views.specs.declared.topics.Topics.{Topics}
use Rattle.core_views.specs.declared.trace.Command.{Command}
use Rattle.core_views.specs.declared.trace.Command.TheVariants.{Access, ChangeHost}
use Rattle.core_views.specs.declared.trace.Op.{Op}
use Rattle.core_views.specs.declared.trace.Op.TheVariants.{Read}
use Rattle.core_views.specs.Held.{Held}
use Rattle.core_views.specs.Sizes.{actors_of, index_of}
use Rattle.core_views.specs.Traces.{IsCommandFor}
use Rattle.spte_words.specs.declared.area.Area.{Area}
use Rattle.part_steps.specs.declared.part_step.PartStep.{PartStep}
use Rattle.mmu_core.specs.forms.access.AccessSteps.{task_by, touch_of}
use Rattle.mmu_core.specs.alone.AloneKnows.{AloneKnows, FormAlone}
use Rattle.mmu_core.specs.machine.Enabled.{mmu}
use Rattle.mmu_core.specs.lines.Forms.{KnowsPart, RetiresPart, steps_left, note_at, part_at, RestsAt, outcome_at}
use Rattle.mmu_core.specs.invariant.Laws.{IsSound}
use Rattle.mmu_core.specs.machine.Machine.{World, hand_in}
use Rattle.mmu_core.specs.alone.OthersRest.{OthersRest}
use Rattle.part_steps.specs.declared.task.Task.{Task}
use Rattle.part_steps.specs.PartBounds.{PartRests}
use Rattle.part_steps.specs.PartTasks.{own_index, part_task}
use Rattle.part_steps.specs.PartTopics.{part_topics}
use Rattle.mmu_core.specs.alone.SeenStands.{NoneFreeBefore, ScanStands, SeenStands}
use Rattle.mmu_core.specs.declared.outcome.Outcome.{Outcome}
use Rattle.mmu_core.specs.declared.outcome.Outcome.TheVariants.{Goes, Ends}
use Rattle.mmu_core.specs.declared.claim.FreeMap.{FreeMap}
use Rattle.mmu_core.specs.declared.claim.FreeMap.TheVariants.{Frames, Pages}
use Rattle.mmu_core.specs.orders.ClaimSteps.{claim_over, map_area, map_words, try_part}
use Rattle.mmu_core.specs.lines.Delays.{begins_anew, leaves_to_fault, line_waits, walks_again, waits_by}
use Rattle.mmu_core.specs.lines.PartAt.{touch_at}
use Rattle.mmu_core.specs.lines.PartWaits.{part_waits}
use Rattle.mmu_core.specs.lines.Rests.{IsUnderWay}
use Rattle.mmu_core.specs.lines.ScanPlaces.{HasScan, answer_without}
use Rattle.mmu_core.specs.machine.Outcomes.{place_after}
use Rattle.mmu_core.specs.machine.Steps.{delays_at, task_at}
use Rattle.mmu_core.specs.machine.View.{answer_in, word_in, words_after, view}
use Rattle.mmu_core.proofs.invariant.QuietKept.{touched}
use Rattle.mmu_core.proofs.lines.ByStep.{step_needs}
use Rattle.mmu_core.proofs.lines.ClaimPlaces.{claims_or_not}
use Rattle.mmu_core.proofs.lines.LineClaims.{Claims, ClaimsNot, KeepsAt, keeps_scan, starves, tries_with_scan}
use Rattle.mmu_core.proofs.lines.Forms.{outcome_goes, outcome_simple}
use Rattle.mmu_core.proofs.lines.KnowsKept.{access_vcpu}
use Rattle.mmu_core.proofs.machine.PartStepping.{behind_part}
use Rattle.mmu_core.proofs.lines.StepIn.{topics_of_step}
use Rattle.mmu_core.proofs.machine.GoesOn.{GoesUnderWay}
use Rattle.mmu_laws.specs.turns.Removal.{WalksInstalled}
use Rattle.mmu_laws.proofs.EachForm.{SlotFits}
use Rattle.mmu_laws.proofs.alone.GoesAlone.{GoesAlone, GoesOnAlone, topics_at}
use Rattle.mmu_laws.proofs.forms.host.HostLines.{host_form}
use Rattle.mmu_laws.proofs.alone.PartAlone.{part_goes_alone, seen_on}
use Rattle.mmu_laws.proofs.forms.access.StayNearer.{Nearer}
use Rattle.mmu_laws.proofs.turns.TurnsNearer.{no_miss, none_of, place_nearer}
use Rattle.mmu_laws.proofs.forms.access.AccessAlone.{FormNext, KnowsAfter, access_form, simple_form}
use Rattle.mmu_core.proofs.held.NextSeen.{sees_own}

-- ---- what an access knows and never does alone

never_anew : (p : Place) (command : Command) (h : Held) (words : Area → ℕ → ℕ) → RestsAt p command h → FormAlone p command words h.topics
    → begins_anew p ≡ false
never_anew (place.Access (Fault (fault.End (end_of.Retry fast cause)))) (Access gfn word op) h words R alone = absurd alone
never_anew (place.Access (Fault (fault.End (end_of.Retry fast cause)))) _ h words R alone = absurd R
never_anew _ _ h words R alone = refl

pub walks_installed : (p : Place) (command : Command) (words : Area → ℕ → ℕ) (t : Topics) → FormAlone p command words t → WalksInstalled p command words t
walks_installed (place.Access (Walk again)) (Access gfn word op) words t alone = alone
walks_installed _ _ words t alone = tt

-- A touch leaves what its actor has seen.
scan_touched : (map : FreeMap) (op : Op) (index : ℕ) (words : Area → ℕ → ℕ) (t : Topics) → ScanStands (words (map_area map)) (claim_over map t)
    → ScanStands (words_after (touch_of op index) words (map_area map)) (claim_over map t)
scan_touched Pages Read index words t S = S
scan_touched Pages _ index words t S = S
scan_touched Frames Read index words t S = S
scan_touched Frames _ index words t S = S

seen_touched : (before after : FreeMap → Type 0) (op : Op) (index : ℕ) (words : Area → ℕ → ℕ) (t : Topics) → SeenStands before words t
    → ((map : FreeMap) → after map → before map) → SeenStands after (words_after (touch_of op index) words) t
seen_touched before after Read index words t S keeps = record {
  owes_none = S.owes_none;
  saw_closed = S.saw_closed;
  scan = λ map has. scan_touched map Read index words t (S.scan map (keeps map has));
  snapshot = S.snapshot;
}
seen_touched before after op index words t S keeps = record {
  owes_none = S.owes_none;
  saw_closed = S.saw_closed;
  scan = λ map has. scan_touched map op index words t (S.scan map (keeps map has));
  snapshot = S.snapshot;
}

-- What the step comes to, put together.
comes_alone : (o : Outcome) (command : Command) (y : Sizes) (words : Area → ℕ → ℕ) (t : Topics) (left : ℕ) → GoesUnderWay o
    → SeenStands (HasScan (place_after o)) words t → FormNext o command words t
    → Nearer o command y t left → ((map : FreeMap) → o ≡ Ends (answer_without map) → NoneFreeBefore (words (map_area map)) (map_words map y))
    → GoesAlone o command y words t left
comes_alone (Goes p) command y words t left under seen form nearer starved = (under, record { seen = seen; form = form }, nearer)
comes_alone (Ends answer) command y words t left under seen form nearer starved = λ map e. starved map (ap Ends e)

-- ---- in a sound world

module _ (z : Sizes) (w : World Held) (a : ℕ) (sound : IsSound z w) (others : OthersRest a w) (there : a < actors_of z) where
  abbrev h : Held
  h = hand_in mmu w a

  abbrev words : Area → ℕ → ℕ
  words = word_in z w

  own : own_index h ≡ a
  own = ap (λ (y : Sizes). index_of y h.state.actor) (sound.holds.lines a there).sizes ∙ (sound.holds.lines a there).index

  module _ (p : Place) (command : Command) (R : RestsAt p command h) (K : KnowsPart p command h) (L : AloneKnows p command words h.topics) where
    abbrev v : ℕ
    v = answer_in (task_at p command h) words

    abbrev o : Outcome
    o = outcome_at p command h v

    abbrev after : Area → ℕ → ℕ
    after = words_after (task_at p command h) words

    abbrev task_of : Option PartStep → Task
    task_of s = task_by s h (note_at p command h) (touch_at command h)

    C : Claims p command h v ⊎ ClaimsNot p command h v
    C = claims_or_not p command h v R

    tries : (step : PartStep) → part_at p command h ≡ Some step → (map : FreeMap) → step ≡ try_part map → HasScan p map
    tries step at map is = tries_with_scan p command h v C map (at ∙ ap (λ (x : PartStep). Some x) is)

    -- Its step doesn't wait, whatever its form.
    goes_by : (s : Option PartStep) → part_at p command h ≡ s → waits_by s h.topics (answer_in (task_of s) words) ≡ false
    goes_by None at = refl
    goes_by (Some step) at =
        subst (λ i. part_waits step h.topics (answer_in (part_task step i h.topics (note_at p command h)) words) ≡ false) (sym own)
        (part_goes_alone z w a (note_at p command h) sound others there (HasScan p) L.seen step (step_needs p command h step R at) (tries step at))

    pub goes_alone : line_waits p command h v ≡ false
    goes_alone = goes_by (part_at p command h) refl

    -- What its actor has seen stands after it.
    module _ (has_scan : FreeMap → Type 0) (keeps : (map : FreeMap) → has_scan map → KeepsAt map p (part_at p command h)) where
      seen_by : (s : Option PartStep) → part_at p command h ≡ s
          → SeenStands has_scan (words_after (task_of s) words) (behind_part s h.topics (answer_in (task_of s) words))
      seen_by None at =
          let T = touched p command h at in
          subst (λ (x : Task). SeenStands has_scan (words_after x words) h.topics) (sym T.2)
          (seen_touched (HasScan p) has_scan T.0 T.1 words h.topics L.seen (λ map has. subst (KeepsAt map p) at (keeps map has)))
      seen_by (Some step) at =
          let note : ℕ = note_at p command h in
          let u : ℕ → Topics = λ i. part_topics step h.topics (answer_in (part_task step i h.topics note) words) in
          subst (λ i. SeenStands has_scan (words_after (part_task step i h.topics note) words) (u i)) (sym own)
          (seen_on z w a note sound others there (HasScan p) L.seen has_scan step (step_needs p command h step R at) (tries step at)
          (λ map has. subst (KeepsAt map p) at (keeps map has)))

      seen_after : SeenStands has_scan after (topics_at p command h words)
      seen_after = subst (SeenStands has_scan after) (sym (topics_of_step p command h v R)) (seen_by (part_at p command h) refl)

    -- It is starved only where no page is free, and refused a frame only where none is.
    starved_alone : (map : FreeMap) → o ≡ Ends (answer_without map) → NoneFreeBefore (after (map_area map)) (map_words map h.state.sizes)
    starved_alone map e i lt =
        let over = starves p command h v C K map e in
        let past : map_words map h.state.sizes ≤ (claim_over map (topics_at p command h words)).at =
        subst (λ (t : Topics). map_words map h.state.sizes ≤ (claim_over map t).at) (sym (topics_of_step p command h v R)) over.1 in
        ((seen_after (λ m. o ≡ Ends (answer_without m)) (λ m is. (starves p command h v C K m is).0)).scan map e).before i (omega (arith, lt, past))

    -- It is no delay, so it leaves fewer steps.
    no_delay : delays_at p command h v ≡ false
    no_delay =
        none_of (line_waits p command h v) (begins_anew p) (walks_again p && leaves_to_fault o) goes_alone (never_anew p command h words R L.form)
        (no_miss p command h words (walks_installed p command words h.topics L.form))

    nearer : IsUnderWay p → IsCommandFor z h.state.actor command → PartRests h → RetiresPart p h.topics → SlotFits p command h
        → Nearer o command h.state.sizes (topics_at p command h words) (steps_left p command h.state.sizes h.topics)
    nearer begun may rests left fits = place_nearer p command z h words begun may rests R K left fits
        (sees_own z (view z w) a sound.topics there (sound.holds.lines a there).sizes (sound.holds.lines a there).index) no_delay

  -- ---- each line

  form_after : (p : Place) (command : Command) → IsCommandFor z h.state.actor command → PartRests h → RetiresPart p h.topics → RestsAt p command h
      → KnowsPart p command h → AloneKnows p command words h.topics
      → KnowsAfter z w a p command
  form_after (place.Access p) (Access gfn word op) may rests left R K L =
      access_form z w a sound others there p gfn word op (access_vcpu z h.state.actor gfn word op may).1 rests (left.opens refl) K L
  form_after (place.Access p) _ may rests left R K L = absurd R
  form_after (place.Host p) (ChangeHost page change) may rests left R K L = host_form z w a sound there p page change K L
  form_after (place.Host p) _ may rests left R K L = absurd R
  form_after p command may rests left R K L =
      let v : ℕ = answer_in (task_at p command h) words in
      simple_form (outcome_at p command h v) command (words_after (task_at p command h) words) (behind_part (part_at p command h) h.topics v)
      (outcome_simple p command h v tt)

  pub alone_step : (p : Place) (command : Command) → IsUnderWay p → IsCommandFor z h.state.actor command → PartRests h → RetiresPart p h.topics
      → SlotFits p command h → RestsAt p command h → KnowsPart p command h
      → AloneKnows p command words h.topics → GoesOnAlone p command h words (topics_at p command h words)
  alone_step p command begun may rests left fits R K L =
      let v : ℕ = answer_in (task_at p command h) words in
      let o : Outcome = outcome_at p command h v in
      let after : Area → ℕ → ℕ = words_after (task_at p command h) words in
      record {
        goes = goes_alone p command R K L;
        next =
            comes_alone o command h.state.sizes after (topics_at p command h words) (steps_left p command h.state.sizes h.topics)
            (outcome_goes p command h v begun)
            (seen_after p command R K L (HasScan (place_after o)) (keeps_scan p command h v (claims_or_not p command h v R) K))
            (subst (FormNext o command after) (sym (topics_of_step p command h v R)) (form_after p command may rests left R K L))
            (nearer p command R K L begun may rests left fits) (starved_alone p command R K L);
      }
