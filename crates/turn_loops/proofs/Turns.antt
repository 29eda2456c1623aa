-- A turn on the machine is one step of the actor's line.
use Rattle.std.proofs.Common.{◌≡◌, ◌<◌, ◌⊎◌, ◌++◌, ◌-◌, inl, inr, ℕ, List, [], ◌∷◌, get_or, length, refl, sym, ap, subst, ◌∙◌, arith}
use Rattle.std.proofs.Math.Logic.{∥∥₁_elim}
use Rattle.std.proofs.Props.{props}
use Rattle.std.proofs.lemmas.Bool.Decides.{nat_tests}
use Rattle.std.proofs.lemmas.List.{append-nil, get_or_push, length_push}
use Rattle.std.proofs.lemmas.List.Elements.{All-get_or}
use Rattle.std.proofs.lemmas.Option.{slice_get-get_or}
use Rattle.std.specs.Prelude.{All, Bool, true, false, Option, Some, None, IfSome, if◌then◌else◌, unwrap_or}
use Rattle.core_views.specs.declared.actor.Actor.{Actor}
use Rattle.core_views.specs.declared.answer.Answer.{Answer}
use Rattle.core_views.specs.declared.answer.AnsweredLine.{AnsweredLine}
use Rattle.core_views.specs.declared.event.Event.{Event}
use Rattle.core_views.specs.declared.progress.Seen.{Seen}
use Rattle.core_views.specs.declared.kind.Kind.{Kind}
use Rattle.core_views.specs.declared.place.Cause.{Cause}
use Rattle.core_views.specs.declared.place.Place.{Place}
use Rattle.core_views.specs.declared.place.Place.TheVariants as place
use Rattle.core_views.specs.declared.trace.Line.{Line}
use Rattle.core_views.specs.Flat.{no_line}
use Rattle.core_views.specs.Held.{Held}
use Rattle.core_views.specs.Text.{line_text, text}
use Rattle.mmu_core.specs.machine.Enabled.{Enabled, mmu}
use Rattle.mmu_core.specs.machine.Machine.{Step, World, answered, effect, hand_in}
use Rattle.mmu_core.specs.invariant.Invariant.{UnderWay}
use Rattle.mmu_core.specs.machine.Steps.{events_of, has_line, line_at, next, next_line, place_at}
use Rattle.mmu_core.specs.machine.Turns.{IsAnswered, line_of, outcome_of, with_answer}
use Rattle.mmu_core.specs.machine.Worlds.{Reachable}
use Rattle.mmu_core.proofs.start.Starts.{reached_good}
use Rattle.mmu_core.proofs.machine.LineRuns.{own_hand}
use Rattle.mmu_core.proofs.machine.Which.{is_next}
use Rattle.step_seats.specs.Seats.{Seat}
use Rattle.step_seats.specs.Moves.{ToldBy, step_by}
use Rattle.step_seats.specs.Where.{HasHand}
use Rattle.step_seats.specs.declared.turn.Turn.{Turn}
use Rattle.step_seats.specs.declared.turn.Turn.TheVariants.{Done, More, Retry, Wait}
use Rattle.step_seats.specs.LineTurns.{AnswersBy, Says, TurnsLine, line_turn, turn_told}
use Rattle.step_seats.proofs.LineTurns.{EndsSo, GoesSo, line_case, turns_say}
use Rattle.turn_loops.specs.Given.{IsLastAnswer, given_in, told_in}
use Rattle.turn_loops.specs.Turned.{ComesTo, IsTurnOf, MakesTurn, TurnedOn, TurnedTold, is_stop, next_code_in, open_line, turn_text}
use Rattle.turn_loops.specs.Turning.{AnswersLine, is_ended}
use Rattle.turn_loops.specs.declared.turning.TurnMade.{TurnMade}
use Rattle.turn_loops.proofs.TurnEnds.{turn_is}

-- which line is open
pub open_is : (h : Held) (line : Line) → open_line h ≡ Some line → (has_line h ≡ true) × (line ≡ line_of h)
open_is h line is = at (has_line h) refl is
  where
    at : (b : Bool) → has_line h ≡ b → (if b then Some (line_of h) else None) ≡ Some line → (has_line h ≡ true) × (line ≡ line_of h)
    at true e same = let s : line_of h ≡ line = cc same in (e, sym s)
    at false e same = absurd (cc same)

pub none_open : (h : Held) → open_line h ≡ None → has_line h ≡ false
none_open h is = at (has_line h) refl is
  where
    at : (b : Bool) → has_line h ≡ b → (if b then Some (line_of h) else None) ≡ None → has_line h ≡ false
    at true e same = absurd (cc same)
    at false e same = e

-- The line that an actor has left is its own.
owned_next : (h : Held) → length h.answers < length h.lines → All (λ line. line.actor ≡ h.state.actor) h.lines → (next_line h).actor ≡ h.state.actor
owned_next h left own =
    ap (λ (o : Option Line). (unwrap_or o no_line).actor) (slice_get-get_or h.lines (length h.answers) no_line left)
    ∙ All-get_or (λ line. line.actor ≡ h.state.actor) h.lines (length h.answers) no_line left own

owned_at : (p : Place) (h : Held) → length h.answers < length h.lines → UnderWay p h → All (λ line. line.actor ≡ h.state.actor) h.lines
    → (line_at p h).actor ≡ h.state.actor
owned_at place.Between h left under own = owned_next h left own
owned_at _ h left under own = ap (λ (l : Line). l.actor) under.0 ∙ owned_next h left own

has_left : (h : Held) → has_line h ≡ true → length h.answers < length h.lines
has_left h has = grind (arith, nat_tests)

own_line : (w : World Held) (actor : ℕ) → ∥ Reachable w ∥₁ → actor < length w.hands → has_line (hand_in mmu w actor) ≡ true
    → (line_of (hand_in mmu w actor)).actor ≡ (hand_in mmu w actor).state.actor
own_line w actor reached there has = ∥∥₁_elim reached (hlevel props) (λ r.
    let G = reached_good w r in
    let O = G.holds.lines actor (subst (λ n. actor < n) G.hands there) in
    owned_at (hand_in mmu w actor).state.place (hand_in mmu w actor) (grind (arith, nat_tests)) O.under O.own)

-- The turn of a hand is the one that its worlds tell.
told_here : (turn : Turn (Unit {0})) (h g : Held) (actor : ℕ) (w t : World Held) → hand_in mmu w actor ≡ h → hand_in mmu t actor ≡ g
    → turn_told turn h g ≡ told_in turn actor w t
told_here turn h g actor w t before after =
    sym (ap (λ (x : Held). turn_told turn x (hand_in mmu t actor)) before ∙ ap (λ (x : Held). turn_told turn h x) after)

made_turn : (before after : Seat) (w : World Held) (line : Line) (whose : Actor) (turn : Turn Answer) → before.tells.world ≡ Some w
    → HasHand before.actor before.hand w
    → open_line before.hand ≡ Some line → whose ≡ before.hand.state.actor → TurnsLine turn before after
    → (t : World Held) × (after.tells.world ≡ Some t) × IsTurnOf line.number whose turn before.actor w t × (hand_in mmu t before.actor ≡ after.hand)
made_turn before after w line whose turn is hand open_ own made =
    let h : Held = before.hand in
    let actor : ℕ = before.actor in
    let has = hand.is in
    let L = open_is h line open_ in
    let M = made.makes in
    let s : Step Kind = step_by actor M.kind in
    let moves : ToldBy (Some w) actor M.kind M.found after.tells.world =
    subst (λ (o : Option (World Held)). ToldBy o actor M.kind M.found after.tells.world) is M.world in
    let rests = (is_next h M.kind M.enabled L.0).rests in
    let T = turn_is h M.found turn L.0 rests.at made.gives in
    let found : answered mmu w s.kind ≡ M.found = moves.1 in
    let left : has_line (hand_in mmu w actor) ≡ true = ap (λ (x : Held). has_line x) has ∙ L.0 in
    let some : length h.answers < length h.lines = has_left h L.0 in
    let comes_to : hand_in mmu (effect mmu w s) actor ≡ after.hand =
    own_hand w s moves.0.there ∙ (ap (λ (x : Held). next x M.kind (answered mmu w M.kind)) has ∙ (ap (λ (n : ℕ). next h M.kind n) found ∙ sym M.hand)) in
    let told : text (events_of h M.found) ≡ text (events_of (hand_in mmu w actor) (answered mmu w s.kind)) =
    ap (λ (x : Held). text (events_of x M.found)) (sym has) ∙ ap (λ (n : ℕ). text (events_of (hand_in mmu w actor) n)) (sym found) in (
      effect mmu w s,
      moves.2,
      record {
        number_is = ap (λ (l : Line). l.number) L.1 ∙ ap (λ (x : Held). (line_of x).number) (sym has);
        whose_is = own ∙ ap (λ (x : Held). x.state.actor) (sym has) ∙ sym (own_line w actor hand.reached hand.there left);
        makes = record {
          step = s;
          turn = record { own = refl; left = left };
          stops_ = rw (has, found) T.stops_;
          comes = record {
            legal = (moves.0, tt);
            ends = refl;
            prints =
                ap (λ (n : ℕ). turn_text n whose turn) (ap (λ (l : Line). l.number) L.1) ∙ ap (λ (a : Actor). turn_text (line_of h).number a turn) own
                ∙ T.prints ∙ told
                ∙ ap (λ (es : List Event). text es) (sym (append-nil (events_of (hand_in mmu w actor) (answered mmu w s.kind))));
          };
        };
        answers = subst (λ (n : ℕ). AnswersBy turn (hand_in mmu w actor) n) (sym found) (subst (λ (x : Held). AnswersBy turn x M.found) (sym has) made.gives);
        says = subst (λ (x : Held). Says turn (line_of (hand_in mmu w actor)) (hand_in mmu w actor) x) (sym comes_to)
            (subst (λ (x : Held). Says turn (line_of x) x after.hand) (sym has) (turns_say turn before after some made));
      },
      comes_to,
    )

-- A turn that is done answers its line.
done_ends : (answer : Answer) (h : Held) (v : ℕ) → AnswersBy (Done answer) h v → is_ended (outcome_of h v) ≡ true
done_ends answer h v answers = by (line_case (place_at h.state.place h) (line_of h).command h v false (λ answer e. refl))
  where
    by : EndsSo (line_turn (place_at h.state.place h) (line_of h).command h v) false (outcome_of h v)
        ⊎ GoesSo (line_turn (place_at h.state.place h) (line_of h).command h v) (outcome_of h v) → is_ended (outcome_of h v) ≡ true
    by (inl E) = ap is_ended E.is
    by (inr G) = absurd (G.more answer (sym answers.1))

pub answers_line : (number : ℕ) (whose : Actor) (turn : Turn Answer) (actor : ℕ) (w t : World Held) (answer : Answer) → turn ≡ Done answer
    → (T : IsTurnOf number whose turn actor w t) → AnswersLine w T.makes.step
answers_line number whose turn actor w t answer is T =
    let v : ℕ = answered mmu w T.makes.step.kind in
    let ends : is_ended (outcome_of (hand_in mmu w actor) v) ≡ true =
    done_ends answer (hand_in mmu w actor) v (subst (λ (x : Turn Answer). AnswersBy x (hand_in mmu w actor) v) is T.answers) in
    record {
      left = subst (λ (a : ℕ). has_line (hand_in mmu w a) ≡ true) (sym T.makes.turn.own) T.makes.turn.left;
      ends = subst (λ (a : ℕ). is_ended (outcome_of (hand_in mmu w a) v) ≡ true) (sym T.makes.turn.own) ends;
    }

-- What it is answered the actor's hand has.
done_says : (made : TurnMade) (actor : ℕ) (w t : World Held) → made.turn ≡ Done tt → TurnedOn (Some made) actor w t
    → IsAnswered (line_of (hand_in mmu w actor)) (given_in actor w t) (hand_in mmu w actor) (hand_in mmu t actor)
done_says made actor w t done T =
    subst (λ (x : Turn (Unit {0})). Says (told_in x actor w t) (line_of (hand_in mmu w actor)) (hand_in mmu w actor) (hand_in mmu t actor)) done T.says

pub done_so : (made : TurnMade) (actor : ℕ) (w t : World Held) (answer : Answer) → made.turn ≡ Done tt → TurnedOn (Some made) actor w t
    → IsLastAnswer answer (hand_in mmu t actor) → told_in made.turn actor w t ≡ Done answer
done_so made actor w t answer done T last =
    ap (λ (x : Turn (Unit {0})). told_in x actor w t) done
    ∙ ap (λ (a : Answer). Done a) (sym (last (line_of (hand_in mmu w actor)) (given_in actor w t) (hand_in mmu w actor) (done_says made actor w t done T)))

pub some_answer : (line : Line) (answer : Answer) (h g : Held) → IsAnswered line answer h g → 0 < length g.answers
some_answer line answer h g A =
    let count = ap (λ (xs : List AnsweredLine). length xs) A.answers in
    omega (arith, count, length_push h.answers (with_answer line answer))

-- The last of the hand's answers is what its last line was answered.
pub last_is : (h : Held) (answers : List AnsweredLine) (x : AnsweredLine) → answers ≡ h.answers → x ≡ get_or answers (length answers - 1) x
    → IsLastAnswer x.answer h
last_is h answers x are got line given before A =
    let count = length_push before.answers (with_answer line given) in
    ap (λ (a : AnsweredLine). a.answer) (got ∙ ap (λ (xs : List AnsweredLine). get_or xs (length xs - 1) x) (are ∙ A.answers)
    ∙ get_or_push before.answers (with_answer line given) x (length (before.answers ++ with_answer line given ∷ []) - 1) (omega (arith, count)))

pub done_has : (made : TurnMade) (actor : ℕ) (w t : World Held) → made.turn ≡ Done tt → TurnedOn (Some made) actor w t
    → 0 < length (hand_in mmu t actor).answers
done_has made actor w t done T =
    some_answer (line_of (hand_in mmu w actor)) (given_in actor w t) (hand_in mmu w actor) (hand_in mmu t actor) (done_says made actor w t done T)

-- A turn with which the line goes on, waits or begins anew prints nothing.
pub more_made : (made : TurnMade) (actor : ℕ) (w t : World Held) → made.turn ≡ More → TurnedOn (Some made) actor w t → MakesTurn actor w t false []
more_made made actor w t is T =
    subst (λ (x : Turn (Unit {0})). MakesTurn actor w t (is_stop (told_in x actor w t)) (turn_text made.number made.actor (told_in x actor w t))) is
    T.makes

pub waiting_made : (made : TurnMade) (actor : ℕ) (w t : World Held)
    → ((seen : Seen) × (made.turn ≡ Wait seen)) ⊎ ((cause : Cause) × (made.turn ≡ Retry cause)) → TurnedOn (Some made) actor w t
    → MakesTurn actor w t true []
waiting_made made actor w t (inl (seen, is)) T =
    subst (λ (x : Turn (Unit {0})). MakesTurn actor w t (is_stop (told_in x actor w t)) (turn_text made.number made.actor (told_in x actor w t))) is
    T.makes
waiting_made made actor w t (inr (cause, is)) T =
    subst (λ (x : Turn (Unit {0})). MakesTurn actor w t (is_stop (told_in x actor w t)) (turn_text made.number made.actor (told_in x actor w t))) is
    T.makes

-- One that answers its line prints this.
pub done_made : (made : TurnMade) (actor : ℕ) (w t : World Held) (answer : Answer) → made.turn ≡ Done tt → TurnedOn (Some made) actor w t
    → IsLastAnswer answer (hand_in mmu t actor) → (M : MakesTurn actor w t true (line_text made.number made.actor answer)) × AnswersLine w M.step
done_made made actor w t answer done T last =
    let turn : Turn Answer = told_in made.turn actor w t in
    let is : turn ≡ Done answer = done_so made actor w t answer done T last in
    at (turn_text made.number made.actor turn) (ap (λ (x : Turn Answer). turn_text made.number made.actor x) is) (is_stop turn) (ap is_stop is) T.makes
    (answers_line made.number made.actor turn actor w t answer is T)
  where
    at : (bytes : List ℕ) → bytes ≡ line_text made.number made.actor answer → (stopped : Bool) → stopped ≡ true
        → (M : MakesTurn actor w t stopped bytes) → AnswersLine w M.step
        → (M : MakesTurn actor w t true (line_text made.number made.actor answer)) × AnswersLine w M.step
    at bytes same stopped stops_ M A = (
      record { step = M.step; turn = M.turn; stops_ = M.stops_ ∙ stops_; comes = subst (λ (x : List ℕ). ComesTo w (M.step ∷ []) t x) same M.comes },
      A,
    )

-- The turn of a seat, in the world that it tells.
pub turned_told : (before after : Seat) (line : Line) (whose : Actor) (turn : Turn (Unit {0})) → IfSome before.tells.world (HasHand before.actor before.hand)
    → open_line before.hand ≡ Some line → whose ≡ before.hand.state.actor → TurnsLine (turn_told turn before.hand after.hand) before after
    → TurnedTold (Some (record { number = line.number; actor = whose; turn = turn })) before.actor before.tells.world after.tells.world
turned_told before after line whose turn has open_ own made = at before.tells.world refl
  where
    at : (o : Option (World Held)) → before.tells.world ≡ o
        → TurnedTold (Some (record { number = line.number; actor = whose; turn = turn })) before.actor o after.tells.world
    at None is = tt
    at (Some w) is =
        let hand : HasHand before.actor before.hand w = subst (λ (o : Option (World Held)). IfSome o (HasHand before.actor before.hand)) is has in
        let T = made_turn before after w line whose (turn_told turn before.hand after.hand) is hand open_ own made in (
          T.0,
          T.1,
          subst (λ (x : Turn Answer). IsTurnOf line.number whose x before.actor w T.0)
              (told_here turn before.hand after.hand before.actor w T.0 hand.is T.3) T.2,
        )

-- No turn is made where no line is left.
pub none_told : (actor : ℕ) (h : Held) (told tells : Option (World Held)) → IfSome told (HasHand actor h) → open_line h ≡ None → tells ≡ told
    → TurnedTold None actor told tells
none_told actor h None tells has none same = tt
none_told actor h (Some w) tells has none same = (w, same, (ap (λ (x : Held). has_line x) has.is ∙ none_open h none, refl))

-- the kind of the next step
pub code_is : (h g : Held) (k : Kind) → g ≡ h → Enabled h k → has_line g ≡ true → k.code ≡ next_code_in g
code_is h g k same enabled left =
    let line : has_line h ≡ true = ap (λ (x : Held). has_line x) (sym same) ∙ left in
    ap (λ (x : Kind). x.code) (is_next h k enabled line).is ∙ ap next_code_in (sym same)
