-- A turn that an actor has made on the machine is one of its seat there.
use Rattle.std.proofs.Common.{◌≡◌, ◌≢◌, ℕ, List, Some, None, refl, sym, ap, subst, ◌∙◌}
use Rattle.std.proofs.lemmas.Grind.{merely}
use Rattle.std.specs.Prelude.{Bool, true, false}
use Rattle.core_views.specs.declared.answer.Answer.{Answer}
use Rattle.core_views.specs.declared.progress.Seen.{Seen}
use Rattle.core_views.specs.declared.kind.Kind.{Kind}
use Rattle.core_views.specs.declared.place.AccessPlace.TheVariants.{Fault}
use Rattle.core_views.specs.declared.place.FaultEnd.TheVariants as end_of
use Rattle.core_views.specs.declared.place.FaultNext.{FaultNext}
use Rattle.core_views.specs.declared.place.FaultNext.TheVariants as next_of
use Rattle.core_views.specs.declared.place.Place.{Place}
use Rattle.core_views.specs.declared.place.Place.TheVariants as place
use Rattle.core_views.specs.declared.trace.Command.{Command}
use Rattle.core_views.specs.declared.trace.Command.TheVariants.{Access}
use Rattle.core_views.specs.Held.{Held}
use Rattle.core_views.specs.Slots.{is_write}
use Rattle.mmu_core.specs.declared.outcome.Outcome.{Outcome}
use Rattle.mmu_core.specs.declared.outcome.Outcome.TheVariants.{Goes, Ends}
use Rattle.mmu_core.specs.alone.LineAlone.{line_waits}
use Rattle.mmu_core.specs.forms.access.FaultSteps.{fault_next}
use Rattle.mmu_core.specs.lines.Forms.{outcome_at}
use Rattle.mmu_core.specs.machine.Enabled.{mmu}
use Rattle.mmu_core.specs.machine.Machine.{May, Step, World, answered, effect, hand_in}
use Rattle.mmu_core.specs.machine.Steps.{next, place_at}
use Rattle.mmu_core.specs.machine.Turns.{line_of}
use Rattle.mmu_core.specs.machine.Worlds.{Reachable}
use Rattle.mmu_core.proofs.machine.LineRuns.{own_hand}
use Rattle.mmu_core.proofs.machine.Which.{is_next}
use Rattle.step_seats.specs.Seats.{Seat}
use Rattle.step_seats.specs.Moves.{step_by}
use Rattle.step_seats.specs.declared.turn.Turn.{Turn}
use Rattle.step_seats.specs.declared.turn.Turn.TheVariants.{More, Wait, Retry, Done}
use Rattle.step_seats.specs.LineTurns.{TurnsLine, WaitsElse, fault_turn, line_seen, line_turn, turn_of}
use Rattle.turn_loops.specs.Turned.{MakesTurn, is_stop}
use Rattle.turn_loops.specs.Turning.{hand_stops}
use Rattle.turn_loops.proofs.TurnEnds.{turn_is}

-- the seat of an actor in a world: it tells the world, and no steps
abbrev pub seat_of : ℕ → World Held → Seat
seat_of actor w = record { actor = actor; hand = hand_in mmu w actor; room = 0; tells = record { world = Some w; steps = None } }

-- Where no other actor is in its way, a turn doesn't wait.
plain_goes : (o : Outcome) (seen : Seen) → turn_of o ≢ Wait seen
plain_goes (Goes p) seen e = absurd (cc e)
plain_goes (Ends answer) seen e = absurd (cc e)

fault_goes : (n : FaultNext) (seen : Seen) → fault_turn n ≢ Wait seen
fault_goes (next_of.Goes p) seen e = absurd (cc e)
fault_goes (next_of.Ends end_of.Installed) seen e = absurd (cc e)
fault_goes (next_of.Ends end_of.Mmio) seen e = absurd (cc e)
fault_goes (next_of.Ends end_of.HostFault) seen e = absurd (cc e)
fault_goes (next_of.Ends end_of.Starved) seen e = absurd (cc e)
fault_goes (next_of.Ends (end_of.Fixed marked)) seen e = absurd (cc e)
fault_goes (next_of.Ends (end_of.NotFast word)) seen e = absurd (cc e)
fault_goes (next_of.Ends (end_of.Retry fast cause)) seen e = absurd (cc e)

line_goes : (p : Place) (command : Command) (h : Held) (v : ℕ) (seen : Seen) → line_turn p command h v ≢ Wait seen
line_goes (place.Access (Fault p)) (Access gfn word op) h v seen e = fault_goes (fault_next p h.state.sizes gfn (is_write op) h.topics v) seen e
line_goes p command h v seen e = plain_goes (outcome_at p command h v) seen e

-- What the turn of a step answers.
the_turn : (waits : Bool) (way : Seen) (t : Turn Answer) → ((seen : Seen) → t ≢ Wait seen) → (turn : Turn Answer) × WaitsElse turn waits way t
the_turn true way t goes = (Wait way, (refl, refl))
the_turn false way (Wait seen) goes = absurd (goes seen refl)
the_turn false way More goes = (More, (refl, refl))
the_turn false way (Retry cause) goes = (Retry cause, (refl, refl))
the_turn false way (Done answer) goes = (Done answer, (refl, refl))

-- The step is a turn of the actor's seat.
pub record SeatTurn (actor : ℕ) (w t : World Held) (s : Step Kind) (stop : Bool) : Type 0 where
  pub turn : Turn Answer
  pub line : TurnsLine turn (seat_of actor w) (seat_of actor t)
  pub step_is : step_by actor line.makes.kind ≡ s
  pub stops_ : is_stop turn ≡ stop

pub seat_turn : (actor : ℕ) (w t : World Held) (stop : Bool) (bytes : List ℕ) (M : MakesTurn actor w t stop bytes) → Reachable w
    → SeatTurn actor w t M.step stop
seat_turn actor w t stop bytes M reached =
    let h : Held = hand_in mmu w actor in
    let k : Kind = M.step.kind in
    let v : ℕ = answered mmu w k in
    let s : Step Kind = step_by actor k in
    let same : s ≡ M.step = ap (λ (a : ℕ). step_by a k) (sym M.turn.own) in
    let may : May mmu w s = subst (λ (x : Step Kind). May mmu w x) (sym same) M.comes.legal.0 in
    let ends : t ≡ effect mmu w s = sym (ap (λ (x : Step Kind). effect mmu w x) same ∙ M.comes.ends) in
    let hand : hand_in mmu t actor ≡ next h k v = ap (λ (x : World Held). hand_in mmu x actor) ends ∙ own_hand w s may.there in
    let T =
    the_turn (line_waits (place_at h.state.place h) (line_of h).command h v) (line_seen (place_at h.state.place h) (line_of h).command h v)
    (line_turn (place_at h.state.place h) (line_of h).command h v) (line_goes (place_at h.state.place h) (line_of h).command h v) in
    let rests = (is_next h k may.enabled M.turn.left).rests in
    let is = turn_is h v T.0 M.turn.left rests.at T.1 in
    record {
      turn = T.0;
      line = record {
        makes = record {
          kind = k;
          found = v;
          enabled = may.enabled;
          hand = hand;
          world = (may, refl, ap (λ (x : World Held). Some x) ends);
          steps = refl;
          answers = (record { has = record { reached = merely reached; there = may.there; is = refl }; may = may; hand = hand }, refl);
        };
        gives = T.1;
      };
      step_is = same;
      stops_ = sym is.stops_ ∙ ap (λ (a : ℕ). hand_stops (hand_in mmu w a) v) (sym M.turn.own) ∙ M.stops_;
    }
