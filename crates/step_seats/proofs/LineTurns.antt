-- What a turn of a line answers is how its step goes: it is done where the line is answered, and has more to do where the line begins anew.
use Rattle.mmu_core.specs.lines.Rests.{Rests}
use Rattle.core_views.specs.declared.kind.Kind.{Kind}
use Rattle.mmu_core.specs.machine.Enabled.{Enabled}
use Rattle.std.proofs.Common.{◌≡◌, ◌≢◌, ◌⊎◌, inl, inr, ◌<◌, ◌++◌, ◌∷◌, [], ℕ, List, length, refl, sym, subst, ap, ◌∙◌, arith}
use Rattle.std.proofs.lemmas.List.{get_or_push}
use Rattle.std.proofs.lemmas.Option.{unwrap_or-slice_get}
use Rattle.std.specs.Prelude.{Bool, true, false, slice_get, unwrap_or}
use Rattle.core_views.specs.declared.place.AccessPlace.TheVariants.{Enter, Fault}
use Rattle.core_views.specs.declared.answer.Answer.{Answer}
use Rattle.core_views.specs.declared.answer.Answer.TheVariants as answers
use Rattle.core_views.specs.declared.answer.AnsweredLine.{AnsweredLine}
use Rattle.core_views.specs.declared.progress.Seen.{Seen}
use Rattle.core_views.specs.declared.place.Cause.{Cause}
use Rattle.core_views.specs.declared.place.FaultEnd.{FaultEnd}
use Rattle.core_views.specs.declared.place.FaultEnd.TheVariants as end_of
use Rattle.core_views.specs.declared.place.FaultNext.{FaultNext}
use Rattle.core_views.specs.declared.place.FaultNext.TheVariants.{Goes, Ends}
use Rattle.core_views.specs.declared.place.FaultPlace.{FaultPlace}
use Rattle.core_views.specs.declared.place.FaultPlace.TheVariants as fault
use Rattle.mmu_core.specs.declared.outcome.Outcome.{Outcome}
use Rattle.mmu_core.specs.declared.outcome.Outcome.TheVariants as outcome
use Rattle.mmu_core.specs.lines.Forms.{steps_left, outcome_at}
use Rattle.mmu_core.specs.alone.LineAlone.{hand_left, line_waits}
use Rattle.step_seats.specs.declared.turn.Turn.{Turn}
use Rattle.step_seats.specs.declared.turn.Turn.TheVariants.{More, Wait, Retry, Done}
use Rattle.core_views.specs.declared.place.Place.{Place}
use Rattle.core_views.specs.declared.place.Place.TheVariants as place
use Rattle.core_views.specs.declared.trace.Command.{Command}
use Rattle.core_views.specs.declared.trace.Command.TheVariants.{Access}
use Rattle.core_views.specs.declared.trace.Line.{Line}
use Rattle.core_views.specs.declared.trace.Op.{Op}
use Rattle.core_views.specs.Held.{Held, has_line}
use Rattle.part_steps.specs.declared.part_step.PartStep.{PartStep}
use Rattle.mmu_core.specs.forms.access.AccessSteps.{behind_fault}
use Rattle.mmu_core.specs.machine.MayMake.{MayMake}
use Rattle.part_steps.specs.PartTasks.{part_kind}
use Rattle.mmu_core.specs.machine.Steps.{place_at}
use Rattle.mmu_core.specs.machine.Outcomes.{place_after}
use Rattle.mmu_core.specs.machine.Turns.{Comes, IsAnswered, IsSameHand, line_of, outcome_of, with_answer}
use Rattle.mmu_core.proofs.machine.HandAfter.{next_comes, next_same}
use Rattle.mmu_core.proofs.machine.Which.{has_line_is, next_of_line}
use Rattle.step_seats.specs.PartTurns.{MadePart}
use Rattle.step_seats.specs.Seats.{Seat}
use Rattle.step_seats.specs.LineTurns.{MakesLine, Says, TurnsLine, WaitsElse, answer_given, fault_turn, line_seen, line_turn, no_answer, turn_of}
use Rattle.step_seats.specs.LineTurns.{turn_told, untold}
use Rattle.mmu_core.proofs.lines.Forms.{ends_free}

-- A part's step is the line's.
unfoldable pub made_line : (step : PartStep) (note found : ℕ) (before after : Seat) → MayMake step note before.hand → MadePart step note found before after
    → MakesLine before after
made_line step note found before after may made =
    record {
      kind = part_kind before.hand step note;
      found = found;
      enabled = may.enabled;
      hand = made.hand;
      world = made.world;
      steps = made.steps;
      answers = made.answers;
    }

-- A line's turn is done where its line is answered, and goes on where it isn't.
pub record EndsSo (turn : Turn Answer) (waits : Bool) (o : Outcome) : Type 0 where
  pub answer : Answer
  pub done : turn ≡ Done answer
  pub free : waits ≡ false
  pub is : o ≡ outcome.Ends answer

pub record GoesSo (turn : Turn Answer) (o : Outcome) : Type 0 where
  pub place : Place
  pub more : (answer : Answer) → turn ≢ Done answer
  pub is : o ≡ outcome.Goes place

plain_case : (o : Outcome) (waits : Bool) → ((answer : Answer) → o ≡ outcome.Ends answer → waits ≡ false) → EndsSo (turn_of o) waits o ⊎ GoesSo (turn_of o) o
plain_case (outcome.Goes q) waits free = inr (record { place = q; more = λ answer e. absurd (cc e); is = refl })
plain_case (outcome.Ends answer) waits free = inl (record { answer = answer; done = refl; free = free answer refl; is = refl })

over_case : (e : FaultEnd) (waits : Bool) → ((answer : Answer) → behind_fault (Ends e) ≡ outcome.Ends answer → waits ≡ false)
    → EndsSo (fault_turn (Ends e)) waits (behind_fault (Ends e)) ⊎ GoesSo (fault_turn (Ends e)) (behind_fault (Ends e))
over_case end_of.Installed waits free = inr (record { place = place.Access (Enter true); more = λ answer e. absurd (cc e); is = refl })
over_case end_of.Mmio waits free = inl (record { answer = answers.Mmio; done = refl; free = free answers.Mmio refl; is = refl })
over_case end_of.HostFault waits free = inl (record { answer = answers.HostFault; done = refl; free = free answers.HostFault refl; is = refl })
over_case end_of.Starved waits free = inl (record { answer = answers.Starved; done = refl; free = free answers.Starved refl; is = refl })
over_case (end_of.Fixed marked) waits free = inr (record { place = place.Access (Enter true); more = λ answer e. absurd (cc e); is = refl })
over_case (end_of.NotFast word) waits free = inr (record { place = place.Access (Fault fault.Begin); more = λ answer e. absurd (cc e); is = refl })
over_case (end_of.Retry fast cause) waits free = inr (record { place = place.Access (Enter false); more = λ answer e. absurd (cc e); is = refl })

going : (n : FaultNext) (q : FaultPlace) → n ≡ Goes q → GoesSo (fault_turn n) (behind_fault n)
going n q is = record { place = place.Access (Fault q); more = λ answer e. absurd (cc (ap fault_turn is, e)); is = ap behind_fault is }

fault_case : (p : FaultPlace) (gfn word : ℕ) (op : Op) (h : Held) (v : ℕ) (waits : Bool)
    → ((answer : Answer) → outcome_at (place.Access (Fault p)) (Access gfn word op) h v ≡ outcome.Ends answer → waits ≡ false)
    → EndsSo (line_turn (place.Access (Fault p)) (Access gfn word op) h v) waits (outcome_at (place.Access (Fault p)) (Access gfn word op) h v)
    ⊎ GoesSo (line_turn (place.Access (Fault p)) (Access gfn word op) h v) (outcome_at (place.Access (Fault p)) (Access gfn word op) h v)
fault_case (fault.End e) gfn word op h v waits free = over_case e waits free
fault_case _ gfn word op h v waits free = inr (going _ _ refl)

pub line_case : (p : Place) (c : Command) (h : Held) (v : ℕ) (waits : Bool) → ((answer : Answer) → outcome_at p c h v ≡ outcome.Ends answer → waits ≡ false)
    → EndsSo (line_turn p c h v) waits (outcome_at p c h v) ⊎ GoesSo (line_turn p c h v) (outcome_at p c h v)
line_case (place.Access (Fault p)) (Access gfn word op) h v waits free = fault_case p gfn word op h v waits free
line_case p c h v waits free = plain_case (outcome_at p c h v) waits free

-- Where a line is left, the step that a hand allows is its next one, which rests on what it needs.
line_rests : (h : Held) (k : Kind) → length h.answers < length h.lines → Enabled h k → Rests h
unfolding Enabled
line_rests h k left (inl next) = next.rests
line_rests h k left (inr step) = let has : has_line h ≡ true = has_line_is h left in let none = step.none_left in absurd (cc (has, none))

-- What is said of the line follows from its turn.
pub says_line : (turn : Turn Answer) (waits : Bool) (way : Seen) (t : Turn Answer) (o : Outcome) (line : Line) (h g : Held) → WaitsElse turn waits way t
    → EndsSo t waits o ⊎ GoesSo t o → Comes o line h g → Says turn line h g
says_line (Wait seen) waits way t o line h g gives (inl E) comes = let free = E.free in let waited = gives.0 in absurd (cc (waited, free))
says_line (Wait seen) waits way t o line h g gives (inr G) comes = subst (λ (x : Outcome). Comes x line h g) G.is comes
says_line More waits way t o line h g gives (inl E) comes = let done = E.done in let same = gives.1 in absurd (cc (same, done))
says_line More waits way t o line h g gives (inr G) comes = subst (λ (x : Outcome). Comes x line h g) G.is comes
says_line (Retry cause) waits way t o line h g gives (inl E) comes = let done = E.done in let same = gives.1 in absurd (cc (same, done))
says_line (Retry cause) waits way t o line h g gives (inr G) comes = subst (λ (x : Outcome). Comes x line h g) G.is comes
says_line (Done answer) waits way t o line h g gives (inl E) comes =
    let done = E.done in
    let same = gives.1 in
    let is : E.answer ≡ answer = cc (same, done) in
    subst (λ (x : Answer). IsAnswered line x h g) is (subst (λ (x : Outcome). Comes x line h g) E.is comes)
says_line (Done answer) waits way t o line h g gives (inr G) comes = absurd (G.more answer (sym gives.1))

pub turns_say : (turn : Turn Answer) (before after : Seat) → length before.hand.answers < length before.hand.lines → TurnsLine turn before after
    → Says turn (line_of before.hand) before.hand after.hand
turns_say turn before after left T =
    let h : Held = before.hand in
    let g : Held = after.hand in
    let v : ℕ = T.makes.found in
    let p : Place = place_at h.state.place h in
    let c : Command = (line_of h).command in
    says_line turn (line_waits p c h v) (line_seen p c h v) (line_turn p c h v) (outcome_of h v) (line_of h) h g T.gives
    (line_case p c h v (line_waits p c h v) (λ answer. ends_free p c h v answer (line_rests h T.makes.kind left T.makes.enabled).at))
    (subst (λ (x : Held). Comes (outcome_of h v) (line_of h) h x) (sym T.makes.hand) (next_comes h T.makes.kind v left))

pub turns_same : (turn : Turn Answer) (before after : Seat) → TurnsLine turn before after → IsSameHand before.hand after.hand
turns_same turn before after T =
    subst (λ (x : Held). IsSameHand before.hand x) (sym T.makes.hand) (next_same before.hand T.makes.kind T.makes.found)

-- What the hand holds where one answer more was given is this answer.
pub given_is : (line : Line) (answer : Answer) (h g : Held) → IsAnswered line answer h g → answer_given h g ≡ answer
given_is line answer h g A =
    ap (λ (xs : List AnsweredLine). (unwrap_or (slice_get xs (length h.answers)) no_answer).answer) A.answers
    ∙ ap (λ (x : AnsweredLine). x.answer)
    (unwrap_or-slice_get (h.answers ++ with_answer line answer ∷ []) (length h.answers) no_answer
    ∙ get_or_push h.answers (with_answer line answer) no_answer (length h.answers) refl)

-- With what the hand holds after it, it tells the whole.
pub told_is : (turn : Turn Answer) (line : Line) (h g : Held) → Says turn line h g → turn_told (untold turn) h g ≡ turn
told_is More line h g says = refl
told_is (Wait seen) line h g says = refl
told_is (Retry cause) line h g says = refl
told_is (Done answer) line h g says = ap (λ (x : Answer). Done x) (given_is line answer h g says)

pub turns_told : (turn : Turn Answer) (before after : Seat) → length before.hand.answers < length before.hand.lines → TurnsLine turn before after
    → TurnsLine (turn_told (untold turn) before.hand after.hand) before after
turns_told turn before after left T =
    subst (λ (x : Turn Answer). TurnsLine x before after)
    (sym (told_is turn (line_of before.hand) before.hand after.hand (turns_say turn before after left T))) T

-- how the turn of the hand's line goes whose step found v
abbrev Cases : Held → ℕ → Type 0
Cases h v =
    EndsSo (line_turn (place_at h.state.place h) (line_of h).command h v) false (outcome_of h v)
    ⊎ GoesSo (line_turn (place_at h.state.place h) (line_of h).command h v) (outcome_of h v)

cases : (h : Held) (v : ℕ) → Cases h v
cases h v = line_case (place_at h.state.place h) (line_of h).command h v false (λ answer e. refl)

-- A turn that says More leaves its line under way, and one that is done ends it with this answer.
pub more_goes : (before after : Seat) (T : TurnsLine More before after) → (q : Place) × (outcome_of before.hand T.makes.found ≡ outcome.Goes q)
more_goes before after T = by (cases before.hand T.makes.found)
  where
    by : Cases before.hand T.makes.found → (q : Place) × (outcome_of before.hand T.makes.found ≡ outcome.Goes q)
    by (inl E) = let done = E.done in let same = T.gives.1 in absurd (cc (same, done))
    by (inr G) = (G.place, G.is)

pub done_ends : (answer : Answer) (before after : Seat) (T : TurnsLine (Done answer) before after) → outcome_of before.hand T.makes.found ≡ outcome.Ends answer
done_ends answer before after T = by (cases before.hand T.makes.found)
  where
    by : Cases before.hand T.makes.found → outcome_of before.hand T.makes.found ≡ outcome.Ends answer
    by (inl E) = let done = E.done in let same = T.gives.1 in let is : E.answer ≡ answer = cc (same, done) in E.is ∙ ap (λ (x : Answer). outcome.Ends x) is
    by (inr G) = absurd (G.more answer (sym T.gives.1))

-- Only the end of a fault's section begins an access anew, outside the guest.
record BeginsAnew (p : Place) (o : Outcome) : Type 0 where
  fast : Bool
  cause : Cause
  at : p ≡ place.Access (Fault (fault.End (end_of.Retry fast cause)))
  is : o ≡ outcome.Goes (place.Access (Enter false))

over_anew : (e : FaultEnd) (cause : Cause) → fault_turn (Ends e) ≡ Retry cause → BeginsAnew (place.Access (Fault (fault.End e))) (behind_fault (Ends e))
over_anew end_of.Installed cause is = absurd (cc is)
over_anew end_of.Mmio cause is = absurd (cc is)
over_anew end_of.HostFault cause is = absurd (cc is)
over_anew end_of.Starved cause is = absurd (cc is)
over_anew (end_of.Fixed marked) cause is = absurd (cc is)
over_anew (end_of.NotFast word) cause is = absurd (cc is)
over_anew (end_of.Retry fast why) cause is = record { fast = fast; cause = why; at = refl; is = refl }

plain_anew : (p : Place) (o : Outcome) (cause : Cause) → turn_of o ≡ Retry cause → BeginsAnew p o
plain_anew p (outcome.Goes q) cause is = absurd (cc is)
plain_anew p (outcome.Ends answer) cause is = absurd (cc is)

fault_anew : (p : FaultPlace) (gfn word : ℕ) (op : Op) (h : Held) (v : ℕ) (cause : Cause)
    → line_turn (place.Access (Fault p)) (Access gfn word op) h v ≡ Retry cause
    → BeginsAnew (place.Access (Fault p)) (outcome_at (place.Access (Fault p)) (Access gfn word op) h v)
fault_anew (fault.End e) gfn word op h v cause is = over_anew e cause is
fault_anew _ gfn word op h v cause is = absurd (cc is)

anew : (p : Place) (c : Command) (h : Held) (v : ℕ) (cause : Cause) → line_turn p c h v ≡ Retry cause → BeginsAnew p (outcome_at p c h v)
anew (place.Access (Fault p)) (Access gfn word op) h v cause is = fault_anew p gfn word op h v cause is
anew p c h v cause is = plain_anew p (outcome_at p c h v) cause is

pub retry_goes : (cause : Cause) (before after : Seat) (T : TurnsLine (Retry cause) before after)
    → (q : Place) × (outcome_of before.hand T.makes.found ≡ outcome.Goes q)
retry_goes cause before after T =
    let h : Held = before.hand in
    (place.Access (Enter false), (anew (place_at h.state.place h) (line_of h).command h T.makes.found cause (sym T.gives.1)).is)

-- Where it begins anew it has more steps left than before.
pub retry_has_more : (cause : Cause) (before after : Seat) → length before.hand.answers < length before.hand.lines → TurnsLine (Retry cause) before after
    → hand_left before.hand < hand_left after.hand
retry_has_more cause before after left T =
    let h : Held = before.hand in
    let g : Held = after.hand in
    let v : ℕ = T.makes.found in
    let B = anew (place_at h.state.place h) (line_of h).command h v cause (sym T.gives.1) in
    let few : hand_left h ≡ 10 = ap (λ (q : Place). steps_left q (line_of h).command h.state.sizes h.topics) B.at in
    let at : g.state.place ≡ place.Access (Enter false) =
    ap (λ (x : Held). x.state.place) (T.makes.hand ∙ next_of_line h T.makes.kind v (has_line_is h left)) ∙ ap place_after B.is in
    let many : hand_left g ≡ steps_left (place.Access (Enter false)) (line_of g).command g.state.sizes g.topics =
    ap (λ (q : Place). steps_left (place_at q g) (line_of g).command g.state.sizes g.topics) at in
    omega (arith, few, many)

-- What a turn made of a seat it made of one whose actor, hand and world are the same, whatever its room.
pub turns_from : (turn : Turn Answer) (before here after : Seat) → here.actor ≡ before.actor → here.hand ≡ before.hand → here.tells ≡ before.tells
    → TurnsLine turn here after → TurnsLine turn before after
turns_from turn before here after actor hand tells T =
    let M = T.makes in
    record {
      makes = record {
        kind = M.kind;
        found = M.found;
        enabled = rw hand at M.enabled;
        hand = rw hand at M.hand;
        world = rw (tells, actor) at M.world;
        steps = rw (tells, actor) at M.steps;
        answers = rw (tells, actor, hand) at M.answers;
      };
      gives = rw hand at T.gives;
    }
