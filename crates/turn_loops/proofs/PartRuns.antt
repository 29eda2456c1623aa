-- A line that runs alone, as far as it has come.
use Rattle.std.proofs.Common.{◌≡◌, ◌≢◌, ◌≤◌, ◌<◌, ◌+◌, ℕ, List, [], ◌∷◌, ◌++◌, All, Option, Some, None, IfSome, length, slice_get, refl, sym, ap, ◌∙◌}
use Rattle.std.proofs.Common.{subst, append_assoc, arith, length-append}
use Rattle.std.specs.Prelude.{false}
use Rattle.std.proofs.lemmas.List.{append-nil}
use Rattle.std.proofs.lemmas.List.Elements.{All-append, All-cons, All-nil}
use Rattle.core_views.specs.declared.answer.Answer.{Answer}
use Rattle.core_views.specs.declared.answer.Answer.TheVariants.{Starved}
use Rattle.core_views.specs.declared.event.Event.{Event}
use Rattle.core_views.specs.declared.kind.Kind.{Kind}
use Rattle.core_views.specs.declared.place.Place.{Place}
use Rattle.core_views.specs.declared.place.Place.TheVariants as place
use Rattle.core_views.specs.declared.sizes.Sizes.{Sizes}
use Rattle.core_views.specs.declared.trace.Line.{Line}
use Rattle.core_views.specs.Alone.{NoneStarved, TakeLowest}
use Rattle.core_views.specs.Flat.{first_flat}
use Rattle.core_views.specs.Held.{Held}
use Rattle.mmu_core.specs.declared.claim.FreeMap.{FreeMap}
use Rattle.mmu_core.specs.orders.ClaimSteps.{map_words}
use Rattle.mmu_core.specs.lines.ScanPlaces.{answer_without}
use Rattle.mmu_core.specs.declared.outcome.Outcome.{Outcome}
use Rattle.mmu_core.specs.declared.outcome.Outcome.TheVariants.{Goes, Ends}
use Rattle.mmu_core.specs.lines.Bounds.{most_steps}
use Rattle.mmu_core.specs.machine.Enabled.{mmu}
use Rattle.mmu_core.specs.invariant.Laws.{IsSound}
use Rattle.mmu_core.specs.alone.LineAlone.{AllRest, LineAlone, StarvedOnlyWithout, StepsAlone, hand_left, line_waits}
use Rattle.mmu_core.specs.machine.Machine.{Legal, May, Step, World, answered, effect, hand_in, run}
use Rattle.mmu_core.specs.lines.Rests.{IsUnderWay}
use Rattle.mmu_core.specs.invariant.Scans.{EndsWithScan}
use Rattle.mmu_core.specs.machine.Steps.{events_of, has_line, line_at, next, place_at}
use Rattle.mmu_core.specs.machine.View.{view, word_in}
use Rattle.mmu_core.specs.machine.Turns.{GoesOn, IsSameHand, line_of, outcome_of}
use Rattle.mmu_core.specs.machine.Worlds.{history}
use Rattle.mmu_core.proofs.invariant.HandLeft.{hand_few, hand_some}
use Rattle.mmu_core.proofs.machine.Extend.{legal-append, run-append}
use Rattle.mmu_laws.proofs.alone.AloneRuns.{ToldAlone, steps_alone, told_alone}
use Rattle.mmu_laws.proofs.alone.LowestFrames.{moves_take_lowest}
use Rattle.mmu_laws.specs.forms.log.ReadingsAlone.{ReadsExactly}
use Rattle.mmu_laws.proofs.flat.LineEvents as events
use Rattle.mmu_laws.proofs.flat.LineEvents.{IsClosed, IsOpen, SoFar, step_tells}
use Rattle.mmu_core.proofs.machine.LineRuns.{history_one_more, legal_one_more, own_hand, run_one_more}
use Rattle.mmu_laws.proofs.causes.StarvedScan.{starved_lines_scan}
use Rattle.mmu_core.proofs.machine.Which.{has_line_is}
use Rattle.step_seats.specs.Seats.{Seat, Told}
use Rattle.step_seats.specs.Moves.{Adds, ToldBy, step_by}
use Rattle.step_seats.specs.declared.turn.Turn.{Turn}
use Rattle.turn_loops.specs.Replays.{EachStepsAlone, ReadExactlyFrom, RunsAlone, TakeLowestFrom}
use Rattle.turn_loops.specs.Turning.{is_ended}
use Rattle.turn_loops.specs.Turns.{LineIsAlone}
use Rattle.step_seats.specs.LineTurns.{MakesLine, TurnsLine}
use Rattle.turn_loops.proofs.AddedSteps.{adds_none, adds_on}
use Rattle.turn_loops.proofs.Fed.{fed_append, step_fed}
use Rattle.turn_loops.proofs.ReadsAlone.{answered_idle, exact_more}
use Rattle.turn_loops.proofs.Stopping.{answers_last}

-- From its start on, the line has come to this hand, by steps of this actor alone, and all other actors rest. The steps lead to the world
-- that is told, and tell what the line has told so far.
pub record PartRun (line : Line) (actor : ℕ) (start here : Seat) : Type 0 where
  pub before : World Held
  pub is : start.tells.world ≡ Some before
  pub sound : IsSound start.hand.state.sizes before
  pub idle : (hand_in mmu before actor).state.place ≡ place.Between
  pub line_is : line_of here.hand ≡ line
  pub same : IsSameHand start.hand here.hand
  pub answers : here.hand.answers ≡ start.hand.answers
  pub steps : List (Step Kind)
  pub own : All (λ s. s.actor ≡ actor) steps
  pub legal : Legal mmu before steps
  pub ends : here.tells.world ≡ Some (run mmu before steps)
  pub has : hand_in mmu (run mmu before steps) actor ≡ here.hand
  pub so_far : SoFar here.hand.state.place line (history before steps)
  pub fed : NoneStarved (history before steps)
  pub lowest : TakeLowestFrom start.hand.state.sizes before steps
  pub exact : ReadExactlyFrom start.hand.state.sizes actor before steps
  pub nearer : EachStepsAlone start.hand.state.sizes before steps
  pub alone : LineAlone start.hand.state.sizes (run mmu before steps) actor
  pub few : length steps + hand_left here.hand ≤ most_steps start.hand.state.sizes line.command
  pub added : IfSome start.tells.steps (λ ss. here.tells.steps ≡ Some (ss ++ steps))

-- The start.

next_is : (p : Place) (h : Held) (line : Line) → p ≡ place.Between → slice_get h.lines (length h.answers) ≡ Some line → line_at p h ≡ line
next_is p h line idle first = rw (idle, first) refl

none_told : (p : Place) (line : Line) → p ≡ place.Between → SoFar p line []
none_told p line idle = rw idle refl

all_left : (line : Line) (seat : Seat) → line_of seat.hand ≡ line → LineIsAlone seat → 0 + hand_left seat.hand ≤ most_steps seat.hand.state.sizes line.command
all_left line seat is L =
    let A = L.alone in
    let z : Sizes = seat.hand.state.sizes in
    let few = subst (λ (g : Held). hand_left g ≤ most_steps g.state.sizes (line_of g).command) L.has
    (hand_few z (view z L.world) seat.actor A.sound.holds A.sound.topics A.there A.left) in
    let of_line : hand_left seat.hand ≤ most_steps z line.command = subst (λ (l : Line). hand_left seat.hand ≤ most_steps z l.command) is few in
    omega (arith, of_line)

-- The seat may have taken room meanwhile.
pub part_starts : (line : Line) (start here : Seat) → here.hand ≡ start.hand → here.tells ≡ start.tells → start.hand.state.place ≡ place.Between
    → slice_get start.hand.lines (length start.hand.answers) ≡ Some line → LineIsAlone start
    → (part : PartRun line start.actor start here) × (part.steps ≡ [])
part_starts line start here hand tells idle first L = (
  record {
    before = L.world;
    is = L.is;
    sound = L.alone.sound;
    idle = ap (λ (g : Held). g.state.place) L.has ∙ idle;
    line_is = rw hand (next_is start.hand.state.place start.hand line idle first);
    same = rw hand (record { actor = refl; sizes = refl; lines = refl });
    answers = ap (λ (h : Held). h.answers) hand;
    steps = [];
    own = All-nil (λ s. s.actor ≡ start.actor);
    legal = tt;
    ends = ap (λ (t : Told). t.world) tells ∙ L.is;
    has = L.has ∙ sym hand;
    so_far = rw hand (none_told start.hand.state.place line idle);
    fed = tt;
    lowest = λ lines w ss is legal ends takes. subst (λ (l : List (Step Kind)). TakeLowest start.hand.state.sizes first_flat (history w l))
        (sym (append-nil ss)) takes;
    exact = λ lines w ss is legal ends idle reads. subst (ReadsExactly start.hand.state.sizes w) (sym (append-nil ss)) reads;
    nearer = tt;
    alone = L.alone;
    few = rw hand (all_left line start (next_is start.hand.state.place start.hand line idle first) L);
    added = rw tells (adds_none start.tells.steps);
  },
  refl,
)

-- One step more.

-- the line under way
under_line : (p : Place) (h : Held) → IsUnderWay p → line_at p h ≡ h.state.line
under_line place.Between h under = absurd under
under_line _ h under = refl

under_told : (p : Place) (line : Line) (h : List Event) → IsUnderWay p → IsOpen line h → SoFar p line h
under_told place.Between line h under is = absurd under
under_told _ line h under is = is

one_nearer : (z : Sizes) (w : World Held) (ss : List (Step Kind)) (s : Step Kind) → EachStepsAlone z w ss → StepsAlone z (run mmu w ss) s
    → EachStepsAlone z w (ss ++ s ∷ [])
one_nearer z w [] s each last = (last, tt)
one_nearer z w (x ∷ ss) s each last = (each.0, one_nearer z (effect mmu w x) ss s each.1 last)

module _ (turn : Turn Answer) (line : Line) (start from to : Seat) (left : length from.hand.answers < length from.hand.lines)
    (mine : line.actor ≡ start.hand.state.actor) (part : PartRun line from.actor start from) (T : TurnsLine turn from to) where
  abbrev actor : ℕ
  actor = from.actor

  abbrev a : Held
  a = from.hand

  abbrev b : Held
  b = to.hand

  abbrev S : MakesLine from to
  S = T.makes

  abbrev z : Sizes
  z = start.hand.state.sizes

  abbrev here : World Held
  here = run mmu part.before part.steps

  abbrev step : Step Kind
  step = step_by actor S.kind

  abbrev behind : World Held
  behind = effect mmu here step

  abbrev steps : List (Step Kind)
  steps = part.steps ++ step ∷ []

  abbrev o : Outcome
  o = outcome_of a S.found

  moved : May mmu here step × (answered mmu here S.kind ≡ S.found) × (to.tells.world ≡ Some behind)
  moved = subst (λ (m : Option (World Held)). ToldBy m actor S.kind S.found to.tells.world) part.ends S.world

  further : run mmu part.before steps ≡ behind
  further = run_one_more part.before part.steps step

  legal_on : Legal mmu part.before steps
  legal_on = legal_one_more part.before part.steps step part.legal moved.0

  pub ends_on : to.tells.world ≡ Some (run mmu part.before steps)
  ends_on = moved.2 ∙ ap (λ (w : World Held). Some w) (sym further)

  hand_is : hand_in mmu behind actor ≡ b
  hand_is =
      own_hand here step moved.0.there
      ∙ (ap (λ (h : Held). next h S.kind (answered mmu here S.kind)) part.has ∙ (ap (λ (n : ℕ). next a S.kind n) moved.1 ∙ sym S.hand))

  own_on : All (λ s. s.actor ≡ actor) steps
  own_on = All-append (λ s. s.actor ≡ actor) part.steps (step ∷ []) part.own (All-cons (λ s. s.actor ≡ actor) step [] refl (All-nil (λ s. s.actor ≡ actor)))

  history_is : history part.before steps ≡ history part.before part.steps ++ events_of a S.found
  history_is =
      history_one_more part.before part.steps step
      ∙ ap (λ (es : List Event). history part.before part.steps ++ es)
      (ap (λ (h : Held). events_of h (answered mmu here S.kind)) part.has ∙ ap (λ (n : ℕ). events_of a n) moved.1)

  tells_line : events.Tells o line (history part.before steps)
  tells_line =
      subst (λ (es : List Event). events.Tells o line es) (sym history_is)
      (step_tells a line S.found (history part.before part.steps) (has_line_is a left) part.line_is (part.same.actor ∙ sym mine) part.so_far)

  fed_on : o ≢ Ends Starved → NoneStarved (history part.before steps)
  fed_on other =
      subst (λ (es : List Event). NoneStarved es) (sym history_is)
      (fed_append (history part.before part.steps) (events_of a S.found) part.fed (step_fed a S.found (has_line_is a left) other))

  -- Its moves take the lowest frame, since the line is alone.
  lowest_on : TakeLowestFrom z part.before steps
  lowest_on lines w ss is legal ends takes =
      let same : run mmu w (ss ++ part.steps) ≡ here = run-append mmu w ss part.steps ∙ ap (λ (x : World Held). run mmu x part.steps) ends in
      subst (λ (l : List (Step Kind)). TakeLowest z first_flat (history w l)) (append_assoc ss part.steps (step ∷ []))
      (moves_take_lowest z lines w (ss ++ part.steps) step is
      (legal-append mmu w ss part.steps legal (subst (λ (x : World Held). Legal mmu x part.steps) (sym ends) part.legal))
      (subst (λ (x : World Held). LineAlone z x actor) (sym same) part.alone) (subst (λ (x : World Held). May mmu x step) (sym same) moved.0)
      (part.lowest lines w ss is legal ends takes))

  -- And it reads just what is dirty.
  exact_on : ReadExactlyFrom z actor part.before steps
  exact_on = exact_more z part.before part.steps step part.sound part.own part.legal part.alone moved.0 part.exact

  nearer_on : EachStepsAlone z part.before steps
  nearer_on = one_nearer z part.before part.steps step part.nearer (steps_alone z here step part.alone moved.0)

  pub comes : ToldAlone o z actor a b behind
  comes = (told_alone z here behind actor S.found S.kind a b part.alone part.has hand_is moved.0 moved.1 refl).1

  scans : (map : FreeMap) → o ≡ Ends (answer_without map) → EndsWithScan z map actor (map_words map z) part.before steps
  scans map is =
      starved_lines_scan z map part.before part.steps step part.sound legal_on part.idle
      (subst (λ n. outcome_of (hand_in mmu here actor) n ≡ Ends (answer_without map)) (sym moved.1)
      (subst (λ (h : Held). outcome_of h S.found ≡ Ends (answer_without map)) (sym part.has) is))

  -- A turn that says More leaves the line under way, alone and nearer to its end.
  pub goes_by : (q : Place) → o ≡ Goes q → GoesOn (line_of a) a b → IsSameHand a b
      → (on : PartRun line actor start to) × (hand_left b < hand_left a) × (on.steps ≡ steps)
  goes_by q is says same =
      let near : ToldAlone (Goes q) z actor a b behind = subst (λ (p : Outcome). ToldAlone p z actor a b behind) is comes in
      let opened : IsOpen line (history part.before steps) = subst (λ (p : Outcome). events.Tells p line (history part.before steps)) is tells_line in (
        record {
          before = part.before;
          is = part.is;
          sound = part.sound;
          idle = part.idle;
          line_is = under_line b.state.place b says.under_way ∙ says.line_is ∙ part.line_is;
          same = record { actor = same.actor ∙ part.same.actor; sizes = same.sizes ∙ part.same.sizes; lines = same.lines ∙ part.same.lines };
          answers = says.answers ∙ part.answers;
          steps = steps;
          own = own_on;
          legal = legal_on;
          ends = ends_on;
          has = ap (λ (w : World Held). hand_in mmu w actor) further ∙ hand_is;
          so_far = under_told b.state.place line (history part.before steps) says.under_way opened;
          fed = fed_on (λ e. absurd (cc (is, e)));
          lowest = lowest_on;
          exact = exact_on;
          nearer = nearer_on;
          alone = subst (λ (w : World Held). LineAlone z w actor) (sym further) near.0;
          few = let n = length-append part.steps (step ∷ []) in let less = near.1 in let few = part.few in omega (arith, n, less, few);
          added = adds_on start.tells.steps from.tells.steps to.tells.steps actor part.steps S.kind part.added S.steps;
        },
        near.1,
        refl,
      )

  -- One that is done has its answer, and all actors rest.
  pub ends_by : (answer : Answer) → o ≡ Ends answer → RunsAlone z actor line answer steps part.before
  ends_by answer is =
      let near : ToldAlone (Ends answer) z actor a b behind = subst (λ (p : Outcome). ToldAlone p z actor a b behind) is comes in
      let closed : IsClosed line answer (history part.before steps) = subst (λ (p : Outcome). events.Tells p line (history part.before steps)) is tells_line in
      record {
        own = own_on;
        few = let n = length-append part.steps (step ∷ []) in let some = hand_some a in let few = part.few in omega (arith, n, some, few);
        runs = record { legal = legal_on; ends = refl; alone = closed.alone; answers = closed.answers };
        rest = subst (λ (w : World Held). AllRest w) (sym further) near.1;
        nearer = nearer_on;
        last = answers_last part.before part.steps step (record {
          left = ap (λ (h : Held). has_line h) part.has ∙ has_line_is a left;
          ends = ap is_ended (ap (λ (n : ℕ). outcome_of (hand_in mmu here actor) n) moved.1 ∙ ap (λ (h : Held). outcome_of h S.found) part.has ∙ is);
        });
        none_free = subst (λ (w : World Held). StarvedOnlyWithout answer z (word_in z w)) (sym further) near.2;
        none_starved = λ other. fed_on (λ e. other (cc (is, e)));
        saw_each_word = λ map without. scans map (is ∙ ap (λ (x : Answer). Ends x) without);
        lowest = lowest_on;
        exact = exact_on;
        idle = ap (λ (w : World Held). (hand_in mmu w actor).state.place) further
            ∙ answered_idle here step answer moved.0.there part.alone.left
            (ap (λ (n : ℕ). outcome_of (hand_in mmu here actor) n) moved.1 ∙ ap (λ (h : Held). outcome_of h S.found) part.has ∙ is);
      }

  -- It never waits, and never begins anew.
  pub goes_through : line_waits (place_at a.state.place a) (line_of a).command a S.found ≡ false
  goes_through = (told_alone z here behind actor S.found S.kind a b part.alone part.has hand_is moved.0 moved.1 refl).0
