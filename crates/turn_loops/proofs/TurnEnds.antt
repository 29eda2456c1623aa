-- What the turn of a line's job answers is how the step goes: whether the line stops with it, and what is printed.
use Rattle.std.proofs.Common.{◌≡◌, ℕ, List, [], refl, sym, ap, subst, ◌∙◌}
use Rattle.std.proofs.lemmas.List.{append-nil}
use Rattle.std.specs.Prelude.{Bool, true, false, ◌||◌}
use Rattle.core_views.specs.declared.actor.Actor.{Actor}
use Rattle.core_views.specs.declared.answer.Answer.{Answer}
use Rattle.core_views.specs.declared.progress.Seen.{Seen}
use Rattle.core_views.specs.declared.place.AccessPlace.{AccessPlace}
use Rattle.core_views.specs.declared.place.AccessPlace.TheVariants as access
use Rattle.core_views.specs.declared.place.FaultEnd.{FaultEnd}
use Rattle.core_views.specs.declared.place.FaultEnd.TheVariants as end_of
use Rattle.core_views.specs.declared.place.FaultPlace.{FaultPlace}
use Rattle.core_views.specs.declared.place.FaultPlace.TheVariants as fault
use Rattle.core_views.specs.declared.place.Place.{Place}
use Rattle.core_views.specs.declared.place.Place.TheVariants as place
use Rattle.core_views.specs.declared.trace.Command.{Command}
use Rattle.core_views.specs.declared.trace.Command.TheVariants.{Access}
use Rattle.core_views.specs.declared.trace.Op.{Op}
use Rattle.core_views.specs.declared.trace.Line.{Line}
use Rattle.core_views.specs.Held.{Held}
use Rattle.core_views.specs.Text.{line_text, lines_text, text}
use Rattle.mmu_core.specs.declared.outcome.Outcome.{Outcome}
use Rattle.mmu_core.specs.declared.outcome.Outcome.TheVariants.{Goes, Ends}
use Rattle.mmu_core.specs.forms.access.AccessSteps.{fault_over}
use Rattle.mmu_core.specs.alone.LineAlone.{line_waits}
use Rattle.mmu_core.specs.lines.Forms.{RestsAt, outcome_at, tells_at}
use Rattle.mmu_core.specs.machine.Steps.{events_of, has_line, line_at, place_at}
use Rattle.mmu_core.specs.machine.Turns.{line_of, outcome_of}
use Rattle.mmu_laws.proofs.flat.LineEvents.{tells_within}
use Rattle.mmu_laws.proofs.flat.ToldOf.{answered_with, answers_told}
use Rattle.mmu_core.proofs.machine.Which.{events_of_line}
use Rattle.step_seats.specs.declared.turn.Turn.{Turn}
use Rattle.step_seats.specs.declared.turn.Turn.TheVariants.{More, Wait, Retry, Done}
use Rattle.step_seats.specs.LineTurns.{WaitsElse, line_seen, line_turn, turn_of}
use Rattle.turn_loops.specs.Turned.{is_stop, turn_text}
use Rattle.turn_loops.specs.Turning.{begins_anew, hand_stops, is_ended}
use Rattle.mmu_core.proofs.lines.Forms.{ends_free}

-- what is printed of a step, by where its line stands after it
abbrev pub outcome_text : ℕ → Actor → Outcome → List ℕ
outcome_text number actor (Goes p) = []
outcome_text number actor (Ends answer) = line_text number actor answer

-- The turn tells how the step goes.
record TellsTurn (number : ℕ) (actor : Actor) (turn : Turn Answer) (stop : Bool) (o : Outcome) : Type 0 where
  stops_ : stop ≡ is_stop turn
  prints : turn_text number actor turn ≡ outcome_text number actor o

module _ (number : ℕ) (actor : Actor) where
  -- where it doesn't wait, it is told by where the line stands
  tells_outcome : (o : Outcome) → TellsTurn number actor (turn_of o) (is_ended o) o
  tells_outcome (Goes p) = record { stops_ = refl; prints = refl }
  tells_outcome (Ends answer) = record { stops_ = refl; prints = refl }

  by_outcome : (turn : Turn Answer) (way : Seen) (o : Outcome) → WaitsElse turn false way (turn_of o) → TellsTurn number actor turn (is_ended o) o
  by_outcome (Wait seen) way o gives = let e : false ≡ true = gives.0 in absurd (cc e)
  by_outcome More way o gives = subst (λ (t : Turn Answer). TellsTurn number actor t (is_ended o) o) (sym gives.1) (tells_outcome o)
  by_outcome (Retry cause) way o gives = subst (λ (t : Turn Answer). TellsTurn number actor t (is_ended o) o) (sym gives.1) (tells_outcome o)
  by_outcome (Done answer) way o gives = subst (λ (t : Turn Answer). TellsTurn number actor t (is_ended o) o) (sym gives.1) (tells_outcome o)

  -- where it waits, the line stays where it is
  waiting : (turn : Turn Answer) (way : Seen) (t : Turn Answer) (p : Place) → WaitsElse turn true way t → TellsTurn number actor turn true (Goes p)
  waiting (Wait seen) way t p gives = record { stops_ = refl; prints = refl }
  waiting More way t p gives = let e : true ≡ false = gives.0 in absurd (cc e)
  waiting (Retry cause) way t p gives = let e : true ≡ false = gives.0 in absurd (cc e)
  waiting (Done answer) way t p gives = let e : true ≡ false = gives.0 in absurd (cc e)

  -- a step of a fault that isn't its last
  goes_or_waits : (turn : Turn Answer) (waits : Bool) (way : Seen) (p : Place) → WaitsElse turn waits way More
      → TellsTurn number actor turn (waits || (false || false)) (Goes p)
  goes_or_waits turn true way p gives = waiting turn way More p gives
  goes_or_waits turn false way p gives = by_outcome turn way (Goes p) gives

  retries : (turn : Turn Answer) (way : Seen) (cause : _) (p : Place) → WaitsElse turn false way (Retry cause) → TellsTurn number actor turn true (Goes p)
  retries (Wait seen) way cause p gives = let e : false ≡ true = gives.0 in absurd (cc e)
  retries More way cause p gives = subst (λ (t : Turn Answer). TellsTurn number actor t true (Goes p)) (sym gives.1) (record { stops_ = refl; prints = refl })
  retries (Retry c) way cause p gives = record { stops_ = refl; prints = refl }
  retries (Done answer) way cause p gives =
      subst (λ (t : Turn Answer). TellsTurn number actor t true (Goes p)) (sym gives.1) (record { stops_ = refl; prints = refl })

  fault_ends : (e : FaultEnd) (turn : Turn Answer) (gfn word : ℕ) (op : Op) (h : Held) (v : ℕ)
      → WaitsElse turn (line_waits (place.Access (access.Fault (fault.End e))) (Access gfn word op) h v)
      (line_seen (place.Access (access.Fault (fault.End e))) (Access gfn word op) h v)
      (line_turn (place.Access (access.Fault (fault.End e))) (Access gfn word op) h v)
      → TellsTurn number actor turn (false || (begins_anew (place.Access (access.Fault (fault.End e))) || is_ended (fault_over e))) (fault_over e)
  fault_ends end_of.Installed turn gfn word op h v gives = by_outcome turn _ (fault_over end_of.Installed) gives
  fault_ends end_of.Mmio turn gfn word op h v gives = by_outcome turn _ (fault_over end_of.Mmio) gives
  fault_ends end_of.HostFault turn gfn word op h v gives = by_outcome turn _ (fault_over end_of.HostFault) gives
  fault_ends end_of.Starved turn gfn word op h v gives = by_outcome turn _ (fault_over end_of.Starved) gives
  fault_ends (end_of.Fixed marked) turn gfn word op h v gives = by_outcome turn _ (fault_over (end_of.Fixed marked)) gives
  fault_ends (end_of.NotFast seen) turn gfn word op h v gives = by_outcome turn _ (fault_over (end_of.NotFast seen)) gives
  fault_ends (end_of.Retry fast cause) turn gfn word op h v gives = retries turn _ cause (place.Access (access.Enter false)) gives

  abbrev Tells : Turn Answer → Place → Command → Held → ℕ → Type 0
  Tells turn p command h v =
      WaitsElse turn (line_waits p command h v) (line_seen p command h v) (line_turn p command h v)
      → TellsTurn number actor turn (line_waits p command h v || (begins_anew p || is_ended (outcome_at p command h v))) (outcome_at p command h v)

  fault_tells : (p : FaultPlace) (turn : Turn Answer) (gfn word : ℕ) (op : Op) (h : Held) (v : ℕ)
      → Tells turn (place.Access (access.Fault p)) (Access gfn word op) h v
  fault_tells (fault.End e) turn gfn word op h v gives = fault_ends e turn gfn word op h v gives
  fault_tells _ turn gfn word op h v gives = goes_or_waits turn _ _ _ gives

  access_tells_turn : (p : AccessPlace) (turn : Turn Answer) (gfn word : ℕ) (op : Op) (h : Held) (v : ℕ) → Tells turn (place.Access p) (Access gfn word op) h v
  access_tells_turn (access.Fault p) turn gfn word op h v gives = fault_tells p turn gfn word op h v gives
  access_tells_turn (access.Enter again) turn gfn word op h v gives = by_outcome turn _ _ gives
  access_tells_turn (access.Pause again) turn gfn word op h v gives = by_outcome turn _ _ gives
  access_tells_turn (access.Root again) turn gfn word op h v gives = by_outcome turn _ _ gives
  access_tells_turn (access.Walk again) turn gfn word op h v gives = by_outcome turn _ _ gives
  access_tells_turn access.Touch turn gfn word op h v gives = by_outcome turn _ _ gives
  access_tells_turn (access.Leave how) turn gfn word op h v gives = by_outcome turn _ _ gives

  -- a step of a line that begins nothing anew: where it waits, the line goes on
  plain_tells : (turn : Turn Answer) (waits : Bool) (way : Seen) (o : Outcome) → ((answer : Answer) → o ≡ Ends answer → waits ≡ false)
      → WaitsElse turn waits way (turn_of o) → TellsTurn number actor turn (waits || (false || is_ended o)) o
  plain_tells turn false way o free gives = by_outcome turn way o gives
  plain_tells turn true way (Goes p) free gives = waiting turn way (turn_of (Goes p)) p gives
  plain_tells turn true way (Ends answer) free gives = let e = free answer refl in absurd (cc e)

  line_tells : (p : Place) (command : Command) (turn : Turn Answer) (h : Held) (v : ℕ) → RestsAt p command h → Tells turn p command h v
  line_tells (place.Access p) (Access gfn word op) turn h v rests gives = access_tells_turn p turn gfn word op h v gives
  line_tells (place.Access p) _ turn h v rests gives = absurd rests
  line_tells p command turn h v rests gives =
      plain_tells turn (line_waits p command h v) (line_seen p command h v) (outcome_at p command h v) (λ answer. ends_free p command h v answer rests) gives

-- the text of a step's answers
text_of : (number : ℕ) (actor : Actor) (line : Line) (o : Outcome) → number ≡ line.number
    → lines_text (answered_with actor line o) ≡ outcome_text number actor o
text_of number actor line (Goes p) same = refl
text_of number actor line (Ends answer) same = append-nil (line_text line.number actor answer) ∙ ap (λ (n : ℕ). line_text n actor answer) (sym same)

pub step_text : (h : Held) (v : ℕ) → has_line h ≡ true → text (events_of h v) ≡ outcome_text (line_of h).number h.state.actor (outcome_of h v)
step_text h v left =
    let line : Line = line_at h.state.place h in
    let p : Place = place_at h.state.place h in
    ap text (events_of_line h v left)
    ∙ ap lines_text (answers_told h.state.actor h.state.place line (tells_at p line.command h v) (outcome_of h v) (tells_within p line.command h v))
    ∙ text_of line.number h.state.actor line (outcome_of h v) refl

-- The turn stops its line, and prints, as the step says.
pub record TurnIs (h : Held) (v : ℕ) (turn : Turn Answer) : Type 0 where
  pub stops_ : hand_stops h v ≡ is_stop turn
  pub prints : turn_text (line_of h).number h.state.actor turn ≡ text (events_of h v)

pub turn_is : (h : Held) (v : ℕ) (turn : Turn Answer) → has_line h ≡ true → RestsAt (place_at h.state.place h) (line_of h).command h
    → WaitsElse turn (line_waits (place_at h.state.place h) (line_of h).command h v) (line_seen (place_at h.state.place h) (line_of h).command h v)
    (line_turn (place_at h.state.place h) (line_of h).command h v)
    → TurnIs h v turn
turn_is h v turn left rests gives =
    let T = line_tells (line_of h).number h.state.actor (place_at h.state.place h) (line_of h).command turn h v rests gives in
    record { stops_ = T.stops_; prints = T.prints ∙ sym (step_text h v left) }
