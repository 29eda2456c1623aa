-- A line that runs alone, turn by turn, with the marks of its turns.
use Rattle.std.proofs.Common.{◌≡◌, inl, inr, ◌<◌, ℕ, List, [], ◌∷◌, ◌++◌, Some, length, slice_get, refl, sym, ap, subst, ◌∙◌}
use Rattle.std.specs.Prelude.{Bool, true, false}
use Rattle.core_views.specs.declared.answer.Answer.{Answer}
use Rattle.core_views.specs.declared.answer.AnsweredLine.{AnsweredLine}
use Rattle.core_views.specs.declared.kind.Kind.{Kind}
use Rattle.core_views.specs.declared.place.Place.TheVariants as place
use Rattle.core_views.specs.declared.sizes.Sizes.{Sizes}
use Rattle.core_views.specs.declared.trace.Line.{Line}
use Rattle.core_views.specs.Held.{Held}
use Rattle.mmu_core.specs.alone.LineAlone.{LineAlone, hand_left}
use Rattle.mmu_core.specs.lines.Rests.{IsUnderWay}
use Rattle.mmu_core.specs.machine.Enabled.{mmu}
use Rattle.mmu_core.specs.machine.Machine.{Leads, Step, World, hand_in, run}
use Rattle.mmu_core.specs.machine.Turns.{with_answer}
use Rattle.mmu_core.specs.machine.Worlds.{Reachable}
use Rattle.mmu_core.proofs.machine.Extend.{leads_to_end, then}
use Rattle.step_seats.specs.Seats.{Seat}
use Rattle.step_seats.specs.Moves.{step_by}
use Rattle.step_seats.specs.declared.turn.Turn.{Turn}
use Rattle.step_seats.specs.declared.turn.Turn.TheVariants.{More, Wait, Retry, Done}
use Rattle.step_seats.specs.LineTurns.{TurnsLine}
use Rattle.step_seats.proofs.LineTurns.{done_ends, more_goes, turns_same, turns_say}
use Rattle.turn_loops.specs.Marks.{Mark, Made, turns_from}
use Rattle.turn_loops.specs.Replays.{RanOn, RunsAlone}
use Rattle.turn_loops.specs.Turned.{MakesTurn, is_stop}
use Rattle.turn_loops.specs.Turns.{LineIsAlone}
use Rattle.turn_loops.proofs.Marks.{turns_append}
use Rattle.turn_loops.proofs.PartEnds.{part_goes_through}
use Rattle.turn_loops.proofs.PartRuns.{PartRun, ends_by, ends_on, goes_by, part_starts}
use Rattle.turn_loops.proofs.TurnSeats.{SeatTurn, seat_of, seat_turn}

-- The line has come so far, and this holds of the marks of its turns.
pub record ComesAlone (R : List Mark → Type 0) (line : Line) (actor : ℕ) (w t : World Held) : Type 0 where
  pub part : PartRun line actor (seat_of actor w) (seat_of actor t)
  pub holds : R (turns_from w part.steps)

-- It has run to its answer, and this holds of the marks of all its turns.
abbrev pub RanAll : (List Mark → Type 0) → Sizes → Line → ℕ → World Held → World Held → Type 0
RanAll R z line actor w t = (answer : Answer) × (A : RanOn z line answer actor w t) × R (turns_from w A.steps)

-- The next line of the actor is this one, and is alone.
pub record NextAlone (z : Sizes) (line : Line) (actor : ℕ) (w : World Held) : Type 0 where
  pub idle : (hand_in mmu w actor).state.place ≡ place.Between
  pub next : slice_get (hand_in mmu w actor).lines (length (hand_in mmu w actor).answers) ≡ Some line
  pub own : line.actor ≡ (hand_in mmu w actor).state.actor
  pub alone : LineAlone z w actor
  pub reached : Reachable w

-- It hasn't begun.
pub comes_none : (R : List Mark → Type 0) (z : Sizes) (line : Line) (actor : ℕ) (w : World Held) → NextAlone z line actor w → R []
    → (F : ComesAlone R line actor w w) × (F.part.steps ≡ [])
comes_none R z line actor w N holds =
    let sizes = (N.alone.sound.holds.lines actor N.alone.there).sizes in
    let own : LineIsAlone (seat_of actor w) =
    record { world = w; is = refl; has = refl; alone = subst (λ (y : Sizes). LineAlone y w actor) (sym sizes) N.alone } in
    let S = part_starts line (seat_of actor w) (seat_of actor w) refl refl N.idle N.next own in
    (record { part = S.0; holds = subst (λ (ss : List (Step Kind)). R (turns_from w ss)) (sym S.1) holds }, S.1)

-- It has no answer yet.
pub line_left : (R : List Mark → Type 0) (line : Line) (actor : ℕ) (w t : World Held) → ComesAlone R line actor w t
    → length (hand_in mmu t actor).answers < length (hand_in mmu t actor).lines
line_left R line actor w t F = subst (λ (h : Held). length h.answers < length h.lines) F.part.has F.part.alone.left

module _ (R S : List Mark → Type 0) (z : Sizes) (line : Line) (actor : ℕ) (w t u : World Held) (N : NextAlone z line actor w)
    (F : ComesAlone R line actor w t) (stop : Bool) (bytes : List ℕ) (M : MakesTurn actor t u stop bytes)
    (more : (marks : List Mark) → R marks → S (marks ++ Made t M.step ∷ [])) where
  abbrev start : Seat
  start = seat_of actor w

  abbrev from : Seat
  from = seat_of actor t

  abbrev to : Seat
  to = seat_of actor u

  mine : line.actor ≡ start.hand.state.actor
  mine = N.own

  sizes : start.hand.state.sizes ≡ z
  sizes = (N.alone.sound.holds.lines actor N.alone.there).sizes

  before_is : F.part.before ≡ w
  before_is = let e : Some w ≡ Some F.part.before = F.part.is in sym (cc e)

  here_is : run mmu F.part.before F.part.steps ≡ t
  here_is = let e : Some t ≡ Some (run mmu F.part.before F.part.steps) = F.part.ends in sym (cc e)

  comes_here : run mmu w F.part.steps ≡ t
  comes_here = ap (λ (x : World Held). run mmu x F.part.steps) (sym before_is) ∙ here_is

  reached_here : Reachable t
  reached_here =
      subst (λ (x : World Held). Reachable x) here_is
      (record {
        sizes = N.reached.sizes;
        lines = N.reached.lines;
        start = N.reached.start;
        is_start = N.reached.is_start;
        leads = then mmu N.reached.start F.part.before (run mmu F.part.before F.part.steps)
            (subst (λ (x : World Held). Leads mmu N.reached.start x) (sym before_is) N.reached.leads)
            (leads_to_end mmu F.part.before F.part.steps F.part.legal);
      })

  left : length from.hand.answers < length from.hand.lines
  left = line_left R line actor w t F

  T : SeatTurn actor t u M.step stop
  T = seat_turn actor t u stop bytes M reached_here

  -- The marks of one turn more.
  holds_on : (k : Kind) → step_by actor k ≡ M.step → S (turns_from w (F.part.steps ++ step_by actor k ∷ []))
  holds_on k is =
      subst S
      (sym (turns_append w F.part.steps (step_by actor k ∷ []) ∙ ap (λ (x : World Held). turns_from w F.part.steps ++ Made x (step_by actor k) ∷ []) comes_here
      ∙ ap (λ (s : Step Kind). turns_from w F.part.steps ++ Made t s ∷ []) is))
      (more (turns_from w F.part.steps) F.holds)

  goes_with : (turn : Turn Answer) (line_turns : TurnsLine turn from to) → step_by actor line_turns.makes.kind ≡ M.step → is_stop turn ≡ false
      → ComesAlone S line actor w u × IsUnderWay to.hand.state.place × (hand_left to.hand < hand_left from.hand)
  goes_with More line_turns is on_ =
      let goes = more_goes from to line_turns in
      let says = turns_say More from to left line_turns in
      let on = goes_by More line start from to left mine F.part line_turns goes.0 goes.1 says (turns_same More from to line_turns) in
      let holds = subst (λ (ss : List (Step Kind)). S (turns_from w ss)) (sym on.2) (holds_on line_turns.makes.kind is) in
      (record { part = on.0; holds = holds }, says.under_way, on.1)
  goes_with (Wait seen) line_turns is on_ = absurd (cc on_)
  goes_with (Retry cause) line_turns is on_ = absurd (cc on_)
  goes_with (Done answer) line_turns is on_ = absurd (cc on_)

  -- With a turn that doesn't stop it, it is under way, and has fewer steps left.
  pub goes_alone : stop ≡ false → ComesAlone S line actor w u × IsUnderWay to.hand.state.place × (hand_left to.hand < hand_left from.hand)
  goes_alone on_ = goes_with T.turn T.line T.step_is (T.stops_ ∙ on_)

  ran_with : (answer : Answer) (line_turns : TurnsLine (Done answer) from to) → step_by actor line_turns.makes.kind ≡ M.step → RanAll S z line actor w u
  ran_with answer line_turns is =
      let k : Kind = line_turns.makes.kind in
      let steps : List (Step Kind) = F.part.steps ++ step_by actor k ∷ [] in
      let ran : RunsAlone start.hand.state.sizes actor line answer steps F.part.before =
      ends_by (Done answer) line start from to left mine F.part line_turns answer (done_ends answer from to line_turns) in
      let ends : Some u ≡ Some (run mmu F.part.before steps) = ends_on (Done answer) line start from to left mine F.part line_turns in
      let says = turns_say (Done answer) from to left line_turns in
      let kept = turns_same (Done answer) from to line_turns in (
        answer,
        record {
          steps = steps;
          alone = subst (λ (x : World Held). RunsAlone z actor line answer steps x) before_is
              (subst (λ (y : Sizes). RunsAlone y actor line answer steps F.part.before) sizes ran);
          ends = ap (λ (x : World Held). run mmu x steps) (sym before_is) ∙ sym (cc ends);
          answered = record {
            between = says.between;
            answers =
                says.answers ∙ ap (λ (l : Line). from.hand.answers ++ with_answer l answer ∷ []) F.part.line_is
                ∙ ap (λ (xs : List AnsweredLine). xs ++ with_answer line answer ∷ []) F.part.answers;
          };
          same = record {
            actor = kept.actor ∙ F.part.same.actor;
            sizes = kept.sizes ∙ F.part.same.sizes;
            lines = kept.lines ∙ F.part.same.lines;
          };
        },
        holds_on k is,
      )

  stops_with : (turn : Turn Answer) (line_turns : TurnsLine turn from to) → step_by actor line_turns.makes.kind ≡ M.step → is_stop turn ≡ true
      → RanAll S z line actor w u
  stops_with More line_turns is ended = absurd (cc ended)
  stops_with (Wait seen) line_turns is ended =
      absurd (part_goes_through line start from to refl left mine F.part (Wait seen) line_turns (inl (seen, refl)))
  stops_with (Retry cause) line_turns is ended =
      absurd (part_goes_through line start from to refl left mine F.part (Retry cause) line_turns (inr (cause, refl)))
  stops_with (Done answer) line_turns is ended = ran_with answer line_turns is

  -- One that stops it answers it.
  pub ends_alone : stop ≡ true → RanAll S z line actor w u
  ends_alone ended = stops_with T.turn T.line T.step_is (T.stops_ ∙ ended)
