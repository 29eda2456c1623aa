-- The fault of a hand's line may make the step of its place; and what a turn of the fault says, from the step that it made.
use Rattle.std.proofs.Common.{◌≡◌, ◌<◌, ◌+◌, ◌^◌, ◌∙◌, ℕ, Option, Some, None, refl, sym, subst, ap, arith}
use Rattle.std.proofs.Math.Logic.{∥∥₁_elim}
use Rattle.std.proofs.Props.{props}
use Rattle.std.specs.Prelude.{Bool, true, false}
use Rattle.core_views.specs.declared.progress.Seen.{Seen}
use Rattle.core_views.specs.declared.kind.Kind.{Kind}
use Rattle.core_views.specs.declared.place.AccessPlace.TheVariants.{Fault}
use Rattle.core_views.specs.declared.place.FaultEnd.{FaultEnd}
use Rattle.core_views.specs.declared.place.FaultEnd.TheVariants as end_of
use Rattle.core_views.specs.declared.place.FaultNext.{FaultNext}
use Rattle.core_views.specs.declared.place.FaultNext.TheVariants.{Goes, Ends}
use Rattle.core_views.specs.declared.place.FaultPlace.{FaultPlace}
use Rattle.core_views.specs.declared.place.FaultPlace.TheVariants.{End}
use Rattle.core_views.specs.declared.place.Place.{Place}
use Rattle.core_views.specs.declared.place.Place.TheVariants as place
use Rattle.core_views.specs.declared.sizes.Sizes.{Sizes}
use Rattle.core_views.specs.declared.topics.Topics.{Topics}
use Rattle.core_views.specs.declared.trace.Command.{Command}
use Rattle.core_views.specs.declared.trace.Command.TheVariants.{Access}
use Rattle.core_views.specs.Held.{Held}
use Rattle.core_views.specs.Traces.{IsCommandFor}
use Rattle.part_steps.specs.declared.part_step.PartStep.{PartStep}
use Rattle.part_steps.specs.declared.part_step.PartStep.TheVariants as part
use Rattle.part_steps.specs.PartBounds.{PartRests}
use Rattle.part_steps.specs.PartTasks.{own_index, part_kind}
use Rattle.part_steps.specs.PartSteps.{PartNeeds}
use Rattle.mmu_core.specs.alone.LineAlone.{hand_left}
use Rattle.mmu_core.specs.forms.access.AccessSteps.{access_note, behind_fault}
use Rattle.mmu_core.specs.lines.Forms.{KnowsPart, outcome_at, steps_left}
use Rattle.mmu_core.specs.forms.access.FaultKnows.{FaultEndKnows, FaultKnows, KnowsNext}
use Rattle.mmu_core.specs.forms.access.FaultLaws.{CanAnswer}
use Rattle.mmu_core.specs.forms.access.FaultLeft.{fault_left, next_left}
use Rattle.mmu_core.specs.forms.access.FaultSteps.{fault_next, fault_part}
use Rattle.mmu_core.specs.lines.PartWaits.{part_seen, part_waits}
use Rattle.mmu_core.specs.lines.Rests.{Rests}
use Rattle.mmu_core.specs.machine.Enabled.{mmu}
use Rattle.mmu_core.specs.machine.Machine.{World, answered}
use Rattle.mmu_core.specs.machine.MayMake.{MayMake}
use Rattle.mmu_core.specs.machine.Outcomes.{place_after}
use Rattle.mmu_core.specs.machine.Steps.{place_at}
use Rattle.mmu_core.specs.machine.Turns.{line_of}
use Rattle.mmu_core.specs.machine.View.{word_in}
use Rattle.mmu_core.specs.machine.Worlds.{HandReached}
use Rattle.mmu_core.proofs.invariant.HandLeft.{left_there}
use Rattle.mmu_core.proofs.forms.access.FaultFalls.{fault_falls}
use Rattle.mmu_core.proofs.forms.access.FaultKnown.{fault_known, parts_answer}
use Rattle.mmu_core.proofs.lines.KnowsKept.{access_vcpu}
use Rattle.mmu_core.proofs.lines.KnowsStay.{reached_knows}
use Rattle.mmu_core.proofs.machine.HandAfter.{next_same}
use Rattle.mmu_core.proofs.machine.Which.{has_line_is, next_of_line}
use Rattle.mmu_core.proofs.start.Starts.{reached_rests}
use Rattle.step_seats.specs.FaultTurns.{EndsBy, FaultAnswersBy, IsAtFaultPlace, MakesFaultStep, StandsInFault, TurnsAt, TurnsFault, WaitsBy, end_turn}
use Rattle.step_seats.specs.PartTurns.{MadePart}
use Rattle.step_seats.specs.Seats.{Seat}
use Rattle.step_seats.specs.Where.{IsMadeIn, OfWorld}
use Rattle.step_seats.specs.declared.turn.Turn.{Turn}
use Rattle.step_seats.specs.declared.turn.Turn.TheVariants.{More, Wait, Retry, Done}
use Rattle.step_seats.proofs.Found.{answers}
use Rattle.step_seats.proofs.LineParts.{place_may_make}

-- The fault of the hand's line stands at this place.
module _ (p : FaultPlace) (gfn : ℕ) (write : Bool) (h : Held) (R : Rests h) (S : StandsInFault gfn write h)
    (stands : place_at h.state.place h ≡ place.Access (Fault p)) where
  may_make : MayMake (fault_part p gfn h.topics) (access_note (Fault p)) h
  may_make = place_may_make (place.Access (Fault p)) (Access gfn S.word S.op) h S.left R stands S.command (fault_part p gfn h.topics) refl

  gfn_small : gfn < 2 ^ 36
  gfn_small =
      (access_vcpu h.state.sizes (line_of h).actor gfn S.word S.op
      (subst (λ (c : Command). IsCommandFor h.state.sizes (line_of h).actor c) S.command R.line)).1

  knows : KnowsPart (place_at h.state.place h) (line_of h).command h → FaultKnows p h.state.sizes gfn write h.topics
  knows K =
      subst (λ (w : Bool). FaultKnows p h.state.sizes gfn w h.topics) S.writes
      (subst (λ (c : Command). KnowsPart (place.Access (Fault p)) c h) S.command (subst (λ (q : Place). KnowsPart q (line_of h).command h) stands K))

pub is_at : (p : FaultPlace) (gfn : ℕ) (write : Bool) (h : Held) → ∥ HandReached h ∥₁ → StandsInFault gfn write h
    → place_at h.state.place h ≡ place.Access (Fault p) → IsAtFaultPlace p gfn write (access_note (Fault p)) h
is_at p gfn write h reached S stands =
    let R : Rests h = reached_rests h reached S.left in
    record {
      may = may_make p gfn write h R S stands;
      small = gfn_small p gfn write h R S stands;
      knows = knows p gfn write h R S stands (reached_knows h reached S.left);
    }

-- What the step of a part found is what it can answer.
can_prop : (step : PartStep) (v : ℕ) → IsProp (CanAnswer step v)
can_prop (part.Fill value) v = hlevel props
can_prop _ v = hlevel props

abbrev Found : Kind → ℕ → ℕ → Held → Held → World Held → Type 0
Found kind a v h g w = IsMadeIn kind a h g w × (answered mmu w kind ≡ v)

can_answer : (step : PartStep) (note v : ℕ) (before after : Seat) → PartNeeds step before.hand → MadePart step note v before after → CanAnswer step v
can_answer step note v before after needs made = of_world before.tells.world made.answers
  where
    in_world : (w : World Held) → Found (part_kind before.hand step note) before.actor v before.hand after.hand w → CanAnswer step v
    in_world w p = subst (λ n. CanAnswer step n) (sym (answers w before.actor note v step before.hand p.0.has needs p.1))
        (parts_answer step (own_index before.hand) before.hand.topics note (word_in before.hand.state.sizes w))

    of_world : (x : Option (World Held)) → OfWorld x (Found (part_kind before.hand step note) before.actor v before.hand after.hand) → CanAnswer step v
    of_world (Some w) p = in_world w p
    of_world None p = ∥∥₁_elim p (can_prop step v) (λ q. in_world q.0 q.1)

-- A fault ends with the last step of its section alone, where it knows why.
ends_by : (p : FaultPlace) (z : Sizes) (gfn v : ℕ) (write : Bool) (t : Topics) → FaultKnows p z gfn write t
    → EndsBy (fault_next p z gfn write t v) (λ e. FaultEndKnows e z gfn write t)
ends_by (End e) z gfn v write t known = known.2
ends_by _ z gfn v write t known = tt

-- A turn with more to do leaves fewer steps.
waits_not : (turn : Turn FaultEnd) (b : Bool) (way : Seen) → turn ≡ More → WaitsBy turn b way → b ≡ false
waits_not More true way is never = absurd (never refl)
waits_not More false way is never = refl
waits_not (Wait seen) b way is never = absurd (cc is)
waits_not (Retry cause) b way is never = absurd (cc is)
waits_not (Done answer) b way is never = absurd (cc is)

goes_nearer : (n : FaultNext) (turn : Turn FaultEnd) (g : Held) (z : Sizes) (u : Topics) (m : ℕ) → turn ≡ More → FaultAnswersBy turn n
    → g.state.place ≡ place_after (behind_fault n)
    → g.state.sizes ≡ z → g.topics ≡ u → next_left n z u < m → hand_left g < m + 9
goes_nearer (Goes p) turn g z u m is by_ stands sizes topics less =
    let left : hand_left g ≡ fault_left p z u + 9 =
    left_there (place.Access (Fault p)) g stands tt ∙ ap (λ (y : Sizes). fault_left p y g.topics + 9) sizes
    ∙ ap (λ (t : Topics). fault_left p z t + 9) topics in
    omega (arith, left, less)
goes_nearer (Ends e) turn g z u m is by_ stands sizes topics less = absurd (never e (sym is ∙ by_))
  where
    never : (e : FaultEnd) → More ≡ end_turn e → ⊥
    never end_of.Installed x = cc x
    never end_of.Mmio x = cc x
    never end_of.HostFault x = cc x
    never end_of.Starved x = cc x
    never (end_of.Fixed marked) x = cc x
    never (end_of.NotFast word) x = cc x
    never (end_of.Retry fast cause) x = cc x

-- The fault of the hand's line, at its place, whose step was made.
module _ (p : FaultPlace) (gfn : ℕ) (write : Bool) (turn : Turn FaultEnd) (before after : Seat) (rests : PartRests before.hand)
    (S : StandsInFault gfn write before.hand) (at : place_at before.hand.state.place before.hand ≡ place.Access (Fault p))
    (I : IsAtFaultPlace p gfn write (access_note (Fault p)) before.hand) (M : MakesFaultStep p gfn write turn (access_note (Fault p)) before after) where
  abbrev goes_to : FaultNext
  goes_to = fault_next p before.hand.state.sizes gfn write before.hand.topics M.found

  stands_there : after.hand.state.place ≡ place_after (behind_fault goes_to)
  stands_there =
      ap (λ (x : Held). x.state.place)
      (M.made.hand ∙ next_of_line before.hand (part_kind before.hand (fault_part p gfn before.hand.topics) (access_note (Fault p))) M.found
      (has_line_is before.hand S.left))
      ∙ ap (λ (q : Place). place_after (outcome_at q (line_of before.hand).command before.hand M.found)) at
      ∙ ap (λ (c : Command). place_after (outcome_at (place.Access (Fault p)) c before.hand M.found)) S.command
      ∙ ap (λ (w : Bool). place_after (behind_fault (fault_next p before.hand.state.sizes gfn w before.hand.topics M.found))) S.writes

  turns_at : TurnsAt p gfn write turn before after
  turns_at = record {
    step = M;
    stands = stands_there;
    knows = subst (λ (u : Topics). KnowsNext goes_to before.hand.state.sizes gfn write u) (sym M.made.topics)
        (fault_known p before.hand gfn M.found write I.small rests I.knows
        (can_answer (fault_part p gfn before.hand.topics) (access_note (Fault p)) M.found before after I.may.needs M.made));
    ends_by = ends_by p before.hand.state.sizes gfn M.found write before.hand.topics I.knows;
  }

  pub nearer : turn ≡ More → hand_left after.hand < hand_left before.hand
  nearer is =
      let falls = fault_falls p before.hand gfn M.found write I.small rests I.knows
      (waits_not turn (part_waits (fault_part p gfn before.hand.topics) before.hand.topics M.found)
      (part_seen (fault_part p gfn before.hand.topics) before.hand M.found) is M.waits_by) in
      let same : after.hand.state.sizes ≡ before.hand.state.sizes =
      ap (λ (x : Held). x.state.sizes) M.made.hand
      ∙ (next_same before.hand (part_kind before.hand (fault_part p gfn before.hand.topics) (access_note (Fault p))) M.found).sizes in
      let stood : hand_left before.hand ≡ fault_left p before.hand.state.sizes before.hand.topics + 9 =
      ap (λ (q : Place). steps_left q (line_of before.hand).command before.hand.state.sizes before.hand.topics) at in
      subst (λ n. hand_left after.hand < n) (sym stood)
      (goes_nearer goes_to turn after.hand before.hand.state.sizes _ _ is M.turned stands_there same M.made.topics falls)

pub turns_fault : (p : FaultPlace) (gfn : ℕ) (write : Bool) (turn : Turn FaultEnd) (before after : Seat) → PartRests before.hand
    → StandsInFault gfn write before.hand → place_at before.hand.state.place before.hand ≡ place.Access (Fault p)
    → IsAtFaultPlace p gfn write (access_note (Fault p)) before.hand → MakesFaultStep p gfn write turn (access_note (Fault p)) before after
    → TurnsFault gfn write turn before after
turns_fault p gfn write turn before after rests S at I M q stands =
    let same : place.Access (Fault p) ≡ place.Access (Fault q) = sym at ∙ stands in
    subst (λ (x : FaultPlace). TurnsAt x gfn write turn before after) (cc same) (turns_at p gfn write turn before after rests S at I M)
