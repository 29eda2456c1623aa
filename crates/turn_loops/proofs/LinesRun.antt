-- A replay, line by line: the list of steps goes on, the hands come after the lines, and all actors rest between them.
use Rattle.std.proofs.Common.{◌≡◌, ◌≢◌, ◌⊎◌, inl, inr, ◌<◌, ◌≤◌, ◌+◌, ℕ, suc, List, [], ◌∷◌, ◌++◌, length, length-append, take, get_or, refl, sym, ap}
use Rattle.std.proofs.Common.{subst, ◌∙◌, append_assoc, arith}
use Rattle.std.proofs.lemmas.List.{append-nil, get_or-set_other, take_all}
use Rattle.std.specs.Prelude.{All, IfOk, Option, Some, Result, Ok, Err}
use Rattle.core_views.specs.declared.answer.Answer.{Answer}
use Rattle.core_views.specs.declared.answer.AnsweredLine.{AnsweredLine}
use Rattle.core_views.specs.declared.event.Event.{Event}
use Rattle.core_views.specs.declared.kind.Kind.{Kind}
use Rattle.core_views.specs.declared.no_memory.NoMemory.{NoMemory}
use Rattle.core_views.specs.declared.place.Place.TheVariants.{Between}
use Rattle.core_views.specs.declared.sizes.Sizes.{Sizes}
use Rattle.core_views.specs.declared.trace.Line.{Line}
use Rattle.core_views.specs.Alone.{StandsAlone}
use Rattle.core_views.specs.Flat.{no_line}
use Rattle.core_views.specs.Held.{Held}
use Rattle.core_views.specs.Sizes.{actor_at, actors_of, index_of}
use Rattle.core_views.specs.Text.{line_text, lines_text, text}
use Rattle.core_views.specs.Traces.{IsCommandFor}
use Rattle.core_views.specs.Whole.{lines_of}
use Rattle.flat_laws.proofs.StandsAlone.{stands_append}
use Rattle.core_views.proofs.Texts.{text_append}
use Rattle.std.proofs.lemmas.List.Sums.{sum_by-append, sum_by-cons}
use Rattle.std.specs.List.{sum_by}
use Rattle.mmu_core.specs.lines.Bounds.{most_steps}
use Rattle.mmu_core.specs.machine.Enabled.{mmu}
use Rattle.mmu_core.specs.invariant.Laws.{IsSound}
use Rattle.mmu_core.specs.alone.LineAlone.{AllRest, LineAlone}
use Rattle.mmu_core.specs.machine.Machine.{Legal, Step, World, effect, hand_in, run}
use Rattle.mmu_core.specs.alone.OthersRest.{HoldsNothing}
use Rattle.mmu_core.specs.machine.Steps.{nobody}
use Rattle.mmu_core.specs.machine.Turns.{IsAnswered, IsSameHand}
use Rattle.mmu_core.specs.machine.Worlds.{IsStart, history}
use Rattle.mmu_core.proofs.machine.Columns.{same_or}
use Rattle.mmu_core.proofs.machine.Extend.{legal-append, run-append}
use Rattle.mmu_core.proofs.machine.LineRuns.{history_append}
use Rattle.mmu_core.proofs.start.Starts.{hand_is, start_good}
use Rattle.mmu_core.proofs.machine.Worlds.{good_run}
use Rattle.step_seats.specs.Machines.{Machine, seat_in, world_in}
use Rattle.step_seats.specs.LineTurns.{answer_given}
use Rattle.turn_loops.specs.Given.{given_in}
use Rattle.turn_loops.specs.Replays.{EachRunsAlone, RanOn, RunsAlone, RunsLines}
use Rattle.turn_loops.specs.Turning.{EndsWithAnswer}
use Rattle.turn_loops.specs.Turns.{RanAlone}
use Rattle.turn_loops.proofs.Stopping.{answer_behind}
use Rattle.turn_loops.proofs.ReadsAlone.{other_hands}
use Rattle.turn_loops.proofs.FileOrder.{maker_is, maker_there, one_more_line, other_line, other_place, own_line}

-- No line of this hand is under way, and it has answered its actor's lines among the first of all.
pub record IsBehind (z : Sizes) (lines : List Line) (done actor : ℕ) (h : Held) : Type 0 where
  pub between : h.state.place ≡ Between
  pub whose : h.state.actor ≡ actor_at z actor
  pub lines_are : h.lines ≡ lines_of (actor_at z actor) lines
  pub answered : length h.answers ≡ length (lines_of (actor_at z actor) (take done lines))

-- So each hand is.
abbrev pub AreBehind : Sizes → List Line → ℕ → World Held → Type 0
AreBehind z lines done w = (actor : ℕ) → actor < actors_of z → IsBehind z lines done actor (hand_in mmu w actor)

-- One line more has run.
each_more : (z : Sizes) (start : World Held) (done : List Line) (ss : List (Step Kind)) (line : Line) (answer : Answer) (own : List (Step Kind))
    → EachRunsAlone z start done ss → RunsAlone z (index_of z line.actor) line answer own (run mmu start ss)
    → EachRunsAlone z start (done ++ line ∷ []) (ss ++ own)
each_more z start [] ss line answer own none ran = (
  own,
  [],
  answer,
  ap (λ (l : List (Step Kind)). l ++ own) none ∙ sym (append-nil own),
  subst (λ (l : List (Step Kind)). RunsAlone z (index_of z line.actor) line answer own (run mmu start l)) none ran,
  refl,
)
each_more z start (first ∷ done) ss line answer own (front, rest, given, are, one, each) ran = (
  front,
  rest ++ own,
  given,
  ap (λ (l : List (Step Kind)). l ++ own) are ∙ append_assoc front rest own,
  one,
  each_more z (run mmu start front) done rest line answer own each
      (subst (λ (w : World Held). RunsAlone z (index_of z line.actor) line answer own w) (ap (run mmu start) are ∙ run-append mmu start front rest) ran),
)

runs_more : (z : Sizes) (start w t : World Held) (done more : List Line) (line : Line) (answer : Answer) → more ≡ done ++ line ∷ []
    → RunsLines z start done w → RanOn z line answer (index_of z line.actor) w t → RunsLines z start more t
runs_more z start w t done more line answer are r ran = record {
  steps = r.steps ++ ran.steps;
  legal = legal-append mmu start r.steps ran.steps r.legal (subst (λ x. Legal mmu x ran.steps) (sym r.ends) ran.alone.runs.legal);
  ends = run-append mmu start r.steps ran.steps ∙ ap (λ x. run mmu x ran.steps) r.ends ∙ ran.ends;
  each = subst (λ ls. EachRunsAlone z start ls (r.steps ++ ran.steps)) (sym are) (each_more z start done r.steps line answer ran.steps r.each
      (subst (λ (x : World Held). RunsAlone z (index_of z line.actor) line answer ran.steps x) (sym r.ends) ran.alone));
  alone = subst (λ ls. StandsAlone (history start (r.steps ++ ran.steps)) ls) (sym are)
      (subst (λ es. StandsAlone es (done ++ line ∷ []))
      (sym (history_append start r.steps ran.steps ∙ ap (λ x. history start r.steps ++ history x ran.steps) r.ends))
      (stands_append done (line ∷ []) (history start r.steps) (history w ran.steps) r.alone ran.alone.runs.alone));
  few =
      let f : Line → ℕ = λ l. most_steps z l.command in
      let count = length-append r.steps ran.steps in
      let before = r.few in
      let one = ran.alone.few in
      let all : sum_by f more ≡ sum_by f done + sum_by f (line ∷ []) = ap (sum_by f) are ∙ sum_by-append f done (line ∷ []) in
      let last : sum_by f (line ∷ []) ≡ most_steps z line.command + 0 = sum_by-cons f line [] in
      omega (arith, count, before, one, all, last);
}

-- What it tells is printed after what was printed before.
prints_more : (z : Sizes) (start w t : World Held) (done : List Line) (line : Line) (answer : Answer) (r : RunsLines z start done w) (ran : RanOn z line answer
    (index_of z line.actor) w t) → text (history start (r.steps ++ ran.steps)) ≡ text (history start r.steps) ++ line_text line.number line.actor answer
prints_more z start w t done line answer r ran =
    let own : text (history w ran.steps) ≡ line_text line.number line.actor answer =
    ap lines_text ran.alone.runs.answers ∙ append-nil (line_text line.number line.actor answer) in
    ap text (history_append start r.steps ran.steps) ∙ text_append (history start r.steps) (history (run mmu start r.steps) ran.steps)
    ∙ ap (λ (es : List Event). text (history start r.steps) ++ text es) (ap (λ x. history x ran.steps) r.ends)
    ∙ ap (λ (t : List ℕ). text (history start r.steps) ++ t) own

-- Nothing has run at the start.
runs_none : (z : Sizes) (start : World Held) → RunsLines z start [] start
runs_none z start = record { steps = []; legal = tt; ends = refl; each = refl; alone = refl; few = omega arith }

pub behind_none : (z : Sizes) (lines : List Line) (w : World Held) → IsStart z lines w → AreBehind z lines 0 w
behind_none z lines w start =
    λ i lt. subst (IsBehind z lines 0 i) (sym (hand_is z lines w i start lt)) (record { between = refl; whose = refl; lines_are = refl; answered = refl })

pub hands_more : (z : Sizes) (lines : List Line) (i : ℕ) (w t : World Held) (answer : Answer) → i < length lines
    → IsCommandFor z (get_or lines i no_line).actor (get_or lines i no_line).command
    → RanOn z (get_or lines i no_line) answer (index_of z (get_or lines i no_line).actor) w t → AreBehind z lines i w → AreBehind z lines (i + 1) t
hands_more z lines i w t answer lt may ran behind b below = by (same_or b a)
  where
    line : Line
    line = get_or lines i no_line

    a : ℕ
    a = index_of z line.actor

    own : b ≡ a → IsBehind z lines (i + 1) b (hand_in mmu t b)
    own e = subst (λ k. IsBehind z lines (i + 1) k (hand_in mmu t k)) (sym e) (record {
      between = ran.answered.between;
      whose = ran.same.actor ∙ B.whose;
      lines_are = ran.same.lines ∙ B.lines_are;
      answered = ap (λ (xs : List AnsweredLine). length xs) ran.answered.answers
          ∙ (length-append (hand_in mmu w a).answers _ ∙ (ap (λ n. n + 1) B.answered ∙ sym (ap (λ (xs : List Line). length xs) (own_line (actor_at z a) lines i
          no_line lt (maker_is z line.actor line.command may)) ∙ length-append (lines_of (actor_at z a) (take i lines)) (line ∷ []))));
    })
      where
        B : IsBehind z lines i a (hand_in mmu w a)
        B = behind a (maker_there z line.actor line.command may)

    other : b ≢ a → IsBehind z lines (i + 1) b (hand_in mmu t b)
    other ne =
        let B = behind b below in
        let same : hand_in mmu t b ≡ hand_in mmu w b = ap (λ x. hand_in mmu x b) (sym ran.ends) ∙ other_hands w ran.steps a b ne ran.alone.own in
        subst (IsBehind z lines (i + 1) b) (sym same) (record {
          between = B.between;
          whose = B.whose;
          lines_are = B.lines_are;
          answered = B.answered ∙ sym (ap (λ (xs : List Line). length xs) (other_line (actor_at z b) lines i no_line lt (other_place z b line.actor below ne)));
        })

    by : (b ≡ a) ⊎ (b ≢ a) → IsBehind z lines (i + 1) b (hand_in mmu t b)
    by (inl e) = own e
    by (inr ne) = other ne

-- All actors rest at the start, and after each line.
pub rest_at_start : (z : Sizes) (lines : List Line) (w : World Held) → IsStart z lines w → AllRest w
rest_at_start z lines w start =
    λ i lt. subst (λ (h : Held). HoldsNothing h.topics) (sym (hand_is z lines w i start (subst (λ n. i < n) (start_good z lines w start).hands lt)))
    (record {
      rests = record { outside = refl; loose = refl; owns_none = refl; no_table = refl; no_set = refl; owes_none = refl };
      retires_none = refl;
      opens_none = refl;
      owns_no_frame = refl;
    })

-- Between lines: the first lines of a trace have run, and print this; the hands are after them, and all actors rest.
pub record IsBetween (z : Sizes) (lines : List Line) (i : ℕ) (start w : World Held) (printed : List ℕ) : Type 0 where
  pub ran : RunsLines z start (take i lines) w
  pub prints : printed ≡ text (history start ran.steps)
  pub behind : AreBehind z lines i w
  pub rest : AllRest w

pub between_at_start : (z : Sizes) (lines : List Line) (w : World Held) → IsStart z lines w → IsBetween z lines 0 w w []
unfolding runs_none
between_at_start z lines w start = record { ran = runs_none z w; prints = refl; behind = behind_none z lines w start; rest = rest_at_start z lines w start }

-- No step was made for them.
pub none_ran : (z : Sizes) (lines : List Line) (w : World Held) (start : IsStart z lines w) → (between_at_start z lines w start).ran.steps ≡ []
unfolding between_at_start runs_none
none_ran z lines w start = refl

pub sound_between : (z : Sizes) (lines : List Line) (i : ℕ) (start w : World Held) (printed : List ℕ) → IsStart z lines start
    → IsBetween z lines i start w printed → IsSound z w
sound_between z lines i start w printed is_start B = subst (IsSound z) B.ran.ends (good_run z start B.ran.steps (start_good z lines start is_start) B.ran.legal)

-- One line more, which the last step answers: its steps come after those before.
pub between_more : (z : Sizes) (lines : List Line) (i : ℕ) (start w t : World Held) (printed : List ℕ) (answer : Answer) → i < length lines
    → IsCommandFor z (get_or lines i no_line).actor (get_or lines i no_line).command
    → (ran : RanOn z (get_or lines i no_line) answer (index_of z (get_or lines i no_line).actor) w t) → (B : IsBetween z lines i start w printed)
    → (more : IsBetween z lines (i + 1) start t (printed ++ line_text (get_or lines i no_line).number (get_or lines i no_line).actor answer))
    × EndsWithAnswer start more.ran.steps × (more.ran.steps ≡ B.ran.steps ++ ran.steps)
unfolding runs_more
between_more z lines i start w t printed answer lt may ran B =
    let line : Line = get_or lines i no_line in (
      record {
        ran = runs_more z start w t (take i lines) (take (i + 1) lines) line answer (one_more_line lines i no_line lt) B.ran ran;
        prints =
            ap (λ (x : List ℕ). x ++ line_text line.number line.actor answer) B.prints ∙ sym (prints_more z start w t (take i lines) line answer B.ran ran);
        behind = hands_more z lines i w t answer lt may ran B.behind;
        rest = subst (λ (x : World Held). AllRest x) ran.ends ran.alone.rest;
      },
      answer_behind start B.ran.steps ran.steps (subst (λ (x : World Held). EndsWithAnswer x ran.steps) (sym B.ran.ends) ran.alone.last),
      refl,
    )

-- so many lines as were looked at, with what they print
pub ran_first : (z : Sizes) (lines : List Line) (i : ℕ) (start w : World Held) (printed : List ℕ) → IsBetween z lines i start w printed
    → (r : RunsLines z start (take i lines) w) × (printed ≡ text (history start r.steps))
ran_first z lines i start w printed B = (B.ran, B.prints)

pub ran_all : (z : Sizes) (lines : List Line) (i : ℕ) (start w : World Held) (printed : List ℕ) → length lines ≤ i
    → IsBetween z lines i start w printed → (r : RunsLines z start lines w) × (printed ≡ text (history start r.steps))
ran_all z lines i start w printed le B =
    subst (λ ls. (r : RunsLines z start ls w) × (printed ≡ text (history start r.steps))) (take_all i lines le) (B.ran, B.prints)

-- A line that ran from a seat of the machine ran on the machine.
ran_so : (answer : Answer) (line : Line) (z : Sizes) (actor : ℕ) (m n : Machine) (ss more : Option (List (Step Kind))) (at to : ℕ)
    → LineAlone z (world_in m) actor → at ≡ actor
    → (seat_in m ss at).hand ≡ hand_in mmu (world_in m) actor → (seat_in n more to).hand ≡ hand_in mmu (world_in n) actor
    → IsAnswered line answer (seat_in m ss at).hand (seat_in n more to).hand → RanAlone line answer (seat_in m ss at) (seat_in n more to)
    → IsSameHand (seat_in m ss at).hand (seat_in n more to).hand → RanOn z line answer actor (world_in m) (world_in n)
ran_so answer line z actor m n ss more at to alone same before after answered ran kept =
    let h : Held = (seat_in m ss at).hand in
    let sizes : h.state.sizes ≡ z = ap (λ (x : Held). x.state.sizes) before ∙ (alone.sound.holds.lines actor alone.there).sizes in
    record {
      steps = ran.steps;
      alone = subst (λ (y : Sizes). RunsAlone y actor line answer ran.steps (world_in m)) sizes
          (subst (λ (a : ℕ). RunsAlone h.state.sizes a line answer ran.steps (world_in m)) same ran.world.0);
      ends = let e : Some (world_in n) ≡ Some (run mmu (world_in m) ran.steps) = ran.world.1 in sym (cc e);
      answered = subst (λ (x : Held). IsAnswered line answer x (hand_in mmu (world_in n) actor)) before
          (subst (λ (x : Held). IsAnswered line answer h x) after answered);
      same = subst (λ (x : Held). IsSameHand x (hand_in mmu (world_in n) actor)) before (subst (λ (x : Held). IsSameHand h x) after kept);
    }

pub ran_on : (r : Result (Unit {0}) NoMemory) (line : Line) (z : Sizes) (actor : ℕ) (m n : Machine) (ss more : Option (List (Step Kind))) (at to : ℕ)
    → LineAlone z (world_in m) actor → at ≡ actor
    → (seat_in m ss at).hand ≡ hand_in mmu (world_in m) actor → (seat_in n more to).hand ≡ hand_in mmu (world_in n) actor
    → IfOk r (λ done. IsAnswered line (answer_given (seat_in m ss at).hand (seat_in n more to).hand) (seat_in m ss at).hand (seat_in n more to).hand)
    → IfOk r (λ done. RanAlone line (answer_given (seat_in m ss at).hand (seat_in n more to).hand) (seat_in m ss at) (seat_in n more to))
    → IsSameHand (seat_in m ss at).hand (seat_in n more to).hand
    → IfOk r (λ done. RanOn z line (given_in actor (world_in m) (world_in n)) actor (world_in m) (world_in n))
ran_on (Err e) line z actor m n ss more at to alone same before after answered ran kept = tt
ran_on (Ok done) line z actor m n ss more at to alone same before after answered ran kept =
    subst (λ (a : Answer). RanOn z line a actor (world_in m) (world_in n))
    (ap (λ (x : Held). answer_given x (seat_in n more to).hand) before ∙ ap (λ (x : Held). answer_given (hand_in mmu (world_in m) actor) x) after)
    (ran_so (answer_given (seat_in m ss at).hand (seat_in n more to).hand) line z actor m n ss more at to alone same before after answered ran kept)
