-- What a line that runs alone comes to: its turns go on until it is answered.
use Rattle.std.proofs.Common.{◌≡◌, ◌⊎◌, inl, inr, ◌<◌, ◌∙◌, ℕ, List, [], ◌∷◌, ◌++◌, Some, IfSome, ap, length, sym, subst, arith}
use Rattle.std.specs.Prelude.{slice_get, unwrap_or}
use Rattle.core_views.specs.declared.answer.Answer.{Answer}
use Rattle.core_views.specs.declared.answer.AnsweredLine.{AnsweredLine}
use Rattle.core_views.specs.declared.progress.Seen.{Seen}
use Rattle.core_views.specs.declared.kind.Kind.{Kind}
use Rattle.core_views.specs.declared.place.Cause.{Cause}
use Rattle.core_views.specs.declared.sizes.Sizes.{Sizes}
use Rattle.core_views.specs.declared.trace.Line.{Line}
use Rattle.core_views.specs.Held.{Held}
use Rattle.mmu_core.specs.declared.outcome.Outcome.{Outcome}
use Rattle.mmu_core.specs.declared.outcome.Outcome.TheVariants.{Goes}
use Rattle.mmu_core.specs.machine.Enabled.{mmu}
use Rattle.mmu_core.specs.alone.LineAlone.{hand_left}
use Rattle.mmu_core.specs.machine.Machine.{Step, World, effect, run}
use Rattle.mmu_core.specs.machine.Turns.{GoesOn, IsAnswered, IsSameHand, line_of, with_answer}
use Rattle.mmu_laws.proofs.alone.AloneRuns.{ToldAlone}
use Rattle.step_seats.specs.Seats.{Seat}
use Rattle.step_seats.specs.Moves.{step_by}
use Rattle.step_seats.specs.declared.turn.Turn.{Turn}
use Rattle.step_seats.specs.declared.turn.Turn.TheVariants.{More, Wait, Retry, Done}
use Rattle.turn_loops.specs.Replays.{RunsAlone}
use Rattle.turn_loops.specs.Turns.{RanAlone}
use Rattle.step_seats.specs.LineTurns.{TurnsLine, answer_given, no_answer, turn_told}
use Rattle.step_seats.proofs.LineTurns.{done_ends, more_goes, retry_goes, retry_has_more}
use Rattle.turn_loops.proofs.AddedSteps.{adds_on}
use Rattle.turn_loops.proofs.PartRuns.{PartRun, comes, ends_by, ends_on, goes_by, goes_through}

ran_by : (start : Seat) (line : Line) (answer : Answer) (to : Seat) (steps : List (Step Kind)) (before : World Held) → start.tells.world ≡ Some before
    → RunsAlone start.hand.state.sizes start.actor line answer steps before → to.tells.world ≡ Some (run mmu before steps)
    → IfSome start.tells.world (λ w. RunsAlone start.hand.state.sizes start.actor line answer steps w × (to.tells.world ≡ Some (run mmu w steps)))
ran_by start line answer to steps before is ran ends = rw is (ran, ends)

-- What the line is answered is the same of its start, which has as many answers.
pub given_since : (start from to : Held) → from.answers ≡ start.answers → answer_given from to ≡ answer_given start to
given_since start from to same = ap (λ (xs : List AnsweredLine). (unwrap_or (slice_get to.answers (length xs)) no_answer).answer) same

pub answered_since : (line : Line) (start from to : Held) → line_of from ≡ line → from.answers ≡ start.answers
    → IsAnswered (line_of from) (answer_given from to) from to → IsAnswered line (answer_given start to) start to
answered_since line start from to is same A = record {
  between = A.between;
  answers =
      A.answers ∙ ap (λ (l : Line). from.answers ++ with_answer l (answer_given from to) ∷ []) is
      ∙ ap (λ (a : Answer). from.answers ++ with_answer line a ∷ []) (given_since start from to same)
      ∙ ap (λ (xs : List AnsweredLine). xs ++ with_answer line (answer_given start to) ∷ []) same;
}

-- A turn that says that it waits, or begins anew, does so.
pub stops_told : (turn : Turn (Unit {0})) (before after : Held) → ((seen : Seen) × (turn ≡ Wait seen)) ⊎ ((cause : Cause) × (turn ≡ Retry cause))
    → ((seen : Seen) × (turn_told turn before after ≡ Wait seen)) ⊎ ((cause : Cause) × (turn_told turn before after ≡ Retry cause))
stops_told turn before after (inl (seen, is)) = inl (seen, ap (λ (t : Turn (Unit {0})). turn_told t before after) is)
stops_told turn before after (inr (cause, is)) = inr (cause, ap (λ (t : Turn (Unit {0})). turn_told t before after) is)

-- The seat's actor is the one with which the line was begun.
begun_by : (line : Line) (own : ℕ) (start here : Seat) → here.actor ≡ own → PartRun line own start here → PartRun line here.actor start here
begun_by line own start here same P = subst (λ (n : ℕ). PartRun line n start here) (sym same) P

module _ (line : Line) (start from to : Seat) (same_actor : from.actor ≡ start.actor) (left : length from.hand.answers < length from.hand.lines)
    (mine : line.actor ≡ start.hand.state.actor) (part : PartRun line start.actor start from) where
  own_part : PartRun line from.actor start from
  own_part = begun_by line start.actor start from same_actor part

  pub part_goes_on : TurnsLine More from to → GoesOn (line_of from.hand) from.hand to.hand → IsSameHand from.hand to.hand
      → PartRun line start.actor start to × (hand_left to.hand < hand_left from.hand)
  part_goes_on T says same =
      let goes = more_goes from to T in
      let on = goes_by More line start from to left mine own_part T goes.0 goes.1 says same in
      (subst (λ (n : ℕ). PartRun line n start to) same_actor on.0, on.1)

  part_never_waits : (seen : Seen) → TurnsLine (Wait seen) from to → ⊥
  part_never_waits seen T =
      let free = goes_through (Wait seen) line start from to left mine own_part T in
      let waits = T.gives.0 in
      absurd (cc (free, waits))

  part_never_begins_anew : (cause : Cause) → TurnsLine (Retry cause) from to → ⊥
  part_never_begins_anew cause T =
      let goes = retry_goes cause from to T in
      let more = retry_has_more cause from to left T in
      let z : Sizes = start.hand.state.sizes in
      let then : World Held = effect mmu (run mmu own_part.before own_part.steps) (step_by from.actor T.makes.kind) in
      let near : ToldAlone (Goes goes.0) z from.actor from.hand to.hand then =
      subst (λ (p : Outcome). ToldAlone p z from.actor from.hand to.hand then) goes.1 (comes (Retry cause) line start from to left mine own_part T) in
      let less = near.1 in
      absurd (omega (arith, more, less))

  -- So a turn of it is none of these.
  pub part_goes_through : (turn : Turn Answer) → TurnsLine turn from to → ((seen : Seen) × (turn ≡ Wait seen)) ⊎ ((cause : Cause) × (turn ≡ Retry cause)) → ⊥
  part_goes_through turn T (inl (seen, is)) = part_never_waits seen (subst (λ (t : Turn Answer). TurnsLine t from to) is T)
  part_goes_through turn T (inr (cause, is)) = part_never_begins_anew cause (subst (λ (t : Turn Answer). TurnsLine t from to) is T)

  pub part_ends : (answer : Answer) → TurnsLine (Done answer) from to → RanAlone line answer start to
  part_ends answer T =
      let longer : List (Step Kind) = own_part.steps ++ step_by from.actor T.makes.kind ∷ [] in
      let ran : RunsAlone start.hand.state.sizes from.actor line answer longer own_part.before =
      ends_by (Done answer) line start from to left mine own_part T answer (done_ends answer from to T) in
      record {
        steps = longer;
        world = ran_by start line answer to longer own_part.before own_part.is
            (subst (λ (n : ℕ). RunsAlone start.hand.state.sizes n line answer longer own_part.before) same_actor ran)
            (ends_on (Done answer) line start from to left mine own_part T);
        added = adds_on start.tells.steps from.tells.steps to.tells.steps from.actor own_part.steps T.makes.kind own_part.added T.makes.steps;
      }
