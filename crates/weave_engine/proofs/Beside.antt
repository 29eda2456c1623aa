-- The lines below `go`: their turns, by their delays.
use Rattle.std.proofs.Common.{◌≡◌, ◌+◌, ◌*◌, ◌<◌, ◌≤◌, ℕ, suc, List, [], ◌∷◌, ◌++◌, drop, length, length-append, take, refl, sym, subst, ap, ◌∙◌, arith}
use Rattle.std.proofs.Math.ListN.{length-map}
use Rattle.std.specs.List.{sum_by}
use Rattle.std.proofs.lemmas.List.{length-take, take-append-drop}
use Rattle.std.proofs.lemmas.List.Elements.{All-head, All-tail, All-take, filter-append}
use Rattle.std.specs.Prelude.{All, Bool, true, if◌then◌else◌}
use Rattle.core_views.specs.declared.answer.AnsweredLine.{AnsweredLine}
use Rattle.core_views.specs.declared.event.Event.{Event}
use Rattle.core_views.specs.declared.kind.Kind.{Kind}
use Rattle.core_views.specs.declared.place.Place.{Place}
use Rattle.core_views.specs.declared.place.Place.TheVariants as place
use Rattle.core_views.specs.declared.sizes.Sizes.{Sizes}
use Rattle.core_views.specs.declared.trace.Item.{Item}
use Rattle.core_views.specs.declared.trace.Line.{Line}
use Rattle.core_views.specs.declared.trace.Trace.{Trace}
use Rattle.core_views.specs.Actors.{is_same}
use Rattle.core_views.specs.Held.{Held, first_held}
use Rattle.core_views.specs.Sizes.{actor_at, actors_of, index_of, sizes_of}
use Rattle.core_views.specs.Traces.{IsCommandFor}
use Rattle.core_views.specs.Whole.{IsWhole, lines_of}
use Rattle.flat_laws.proofs.AloneIsWhole.{stands_whole}
use Rattle.core_views.proofs.SameActor.{is_same_self}
use Rattle.mmu_core.specs.lines.Bounds.{most_steps}
use Rattle.mmu_core.specs.machine.Enabled.{mmu}
use Rattle.mmu_laws.specs.flat.Histories.{answers_by}
use Rattle.mmu_core.specs.invariant.Invariant.{UnderWay}
use Rattle.mmu_core.specs.invariant.Laws.{IsSound}
use Rattle.mmu_core.specs.machine.Machine.{Legal, Step, World, effect, hand_in, run}
use Rattle.mmu_core.specs.machine.Sums.{one_if, sum_below}
use Rattle.mmu_core.specs.machine.Worlds.{IsStart, history}
use Rattle.mmu_laws.proofs.flat.EveryAnswer.{start_follows}
use Rattle.mmu_core.proofs.machine.Extend.{legal-append}
use Rattle.mmu_laws.proofs.flat.Followed.{Follows, begun_count}
use Rattle.mmu_core.proofs.start.Starts.{start_good}
use Rattle.mmu_laws.proofs.causes.StarvedScan.{legal_parts}
use Rattle.mmu_core.proofs.machine.SumsBelow.{sum_ge, sum_none}
use Rattle.mmu_core.proofs.machine.Worlds.{good_run}
use Rattle.core_theorem.specs.Runs.{IsRun}
use Rattle.core_theorem.specs.Turns.{begins_line, bound_of, bound_under_way, bounds_in, bounds_of, delays_line, how_many, is_of_line, is_under_way}
use Rattle.core_theorem.specs.Turns.{lines_answered, lines_in}
use Rattle.core_theorem.proofs.ActorSums.{sum_plus, sum_same}
use Rattle.core_theorem.proofs.Begins.{begins_bounded, begun_in, bounds_left, chosen_bounded, chosen_more, lines_are_open}
use Rattle.core_theorem.proofs.Turns.{IsReached, open_in, reached_behind, steps_are_few}
use Rattle.turn_loops.specs.Beside.{AreForDelays, delays_of}
use Rattle.turn_loops.specs.Replays.{RunsLines}
use Rattle.turn_loops.specs.Rounds.{RunsRounds}
use Rattle.turn_loops.specs.Marks.{Mark}
use Rattle.turn_loops.specs.Turning.{AreTurns, RunsItems}
use Rattle.turn_loops.specs.Weaves.{FollowsBoth, FollowsSoFar, lines_below}
use Rattle.weave_engine.proofs.DelaysBelow.{AreBelow, delays_below, sum_bound}
use Rattle.turn_loops.proofs.FileOrder.{maker_is, maker_there}

-- ---- turns are steps of lines

-- Each of these steps is one of a line.
abbrev pub AreOfLines : World Held → List (Step Kind) → Type 0
AreOfLines w ss = how_many is_of_line w ss ≡ length ss

how_many_append : (is_so : World Held → Step Kind → Bool) (w : World Held) (ss ts : List (Step Kind))
    → how_many is_so w (ss ++ ts) ≡ how_many is_so w ss + how_many is_so (run mmu w ss) ts
how_many_append is_so w [] ts = omega arith
how_many_append is_so w (s ∷ ss) ts = let rest = how_many_append is_so (effect mmu w s) ss ts in omega (arith, rest)

pub both_of_lines : (w : World Held) (ss ts : List (Step Kind)) → AreOfLines w ss → AreOfLines (run mmu w ss) ts → AreOfLines w (ss ++ ts)
both_of_lines w ss ts first more = let both = how_many_append is_of_line w ss ts in let count = length-append ss ts in omega (arith, first, more, both, count)

one_more_of_line : (w : World Held) (s : Step Kind) (ss : List (Step Kind)) → is_of_line w s ≡ true → AreOfLines (effect mmu w s) ss → AreOfLines w (s ∷ ss)
one_more_of_line w s ss own rest = let one : one_if (is_of_line w s) ≡ 1 = ap one_if own in omega (arith, one, rest)

own_of_lines : (actor : ℕ) (w : World Held) (ss : List (Step Kind)) → AreTurns actor w ss → AreOfLines w ss
own_of_lines actor w [] turns = refl
own_of_lines actor w (s ∷ ss) turns =
    one_more_of_line w s ss (subst (λ i. is_of_line w (record { actor = i; kind = s.kind }) ≡ true) (sym turns.0.own) turns.0.left)
    (own_of_lines actor (effect mmu w s) ss turns.1)

pub items_of_lines : (z : Sizes) (items : List Item) (w : World Held) (ss : List (Step Kind)) (marks : List Mark) → RunsItems z items w ss marks
    → AreOfLines w ss
items_of_lines z [] w ss marks none = subst (AreOfLines w) (sym none.0) refl
items_of_lines z (item ∷ items) w ss marks (own, rest, early, later, are, marked, first, more) =
    subst (AreOfLines w) (sym are)
    (both_of_lines w own rest (own_of_lines (index_of z item.actor) w own first.0.so_far.turns) (items_of_lines z items (run mmu w own) rest later more))

pub rounds_of_lines : (z : Sizes) (first next : ℕ) (w : World Held) (ss : List (Step Kind)) → RunsRounds z first next w ss → AreOfLines w ss
rounds_of_lines z first next w [] rounds = refl
rounds_of_lines z first next w (s ∷ ss) rounds = one_more_of_line w s ss rounds.0.left (rounds_of_lines z (suc s.actor) next (effect mmu w s) ss rounds.1)

-- ---- the world behind the lines above `go`

-- Where as many lines are begun as answered, none is under way.
none_under_way : (p : Place) (h : Held) (own : List Line) (count : ℕ) → UnderWay p h → h.lines ≡ own → length h.answers ≡ count
    → length (take (begun_count p (length h.answers)) own) ≡ count → p ≡ place.Between
none_under_way place.Between h own count under lines answers begun = refl
none_under_way _ h own count under lines answers begun =
    let left = under.1 in
    let few = ap (λ (xs : List Line). length xs) lines in
    let taken = length-take (suc (length h.answers)) own in
    absurd (omega (arith, left, few, taken, answers, begun))

-- The hand of an actor has no line under way, and has answered its lines among those that ran.
record IsDone (z : Sizes) (ran : List Line) (i : ℕ) (h : Held) : Type 0 where
  between : h.state.place ≡ place.Between
  answered : length h.answers ≡ length (lines_of (actor_at z i) ran)

module _ (z : Sizes) (lines : List Line) (start : World Held) (is_start : IsStart z lines start) (ran : List Line) (behind : World Held)
    (r : RunsLines z start ran behind) where
  hands_done : (i : ℕ) → i < actors_of z → IsDone z ran i (hand_in mmu behind i)
  hands_done i lt = subst (λ (w : World Held). IsDone z ran i (hand_in mmu w i)) r.ends (record {
    between = none_under_way g.state.place g own count under F.lines answered (ap (λ (xs : List Line). length xs) (F.begun ∙ W.begun (actor_at z i)));
    answered = answered;
  })
    where
      g : Held
      g = hand_in mmu (run mmu start r.steps) i

      own : List Line
      own = lines_of (actor_at z i) lines

      count : ℕ
      count = length (lines_of (actor_at z i) ran)

      h : List Event
      h = history start r.steps

      F : Follows (first_held z (actor_at z i) own) g h
      F = start_follows z lines start r.steps i is_start r.legal lt

      W : IsWhole h ran
      W = stands_whole ran h r.alone

      under : UnderWay g.state.place g
      under = ((good_run z start r.steps (start_good z lines start is_start) r.legal).holds.lines i lt).under

      answered : length g.answers ≡ count
      answered =
          let a = ap (λ (xs : List AnsweredLine). length xs) F.answers in
          let b = ap (λ (ns : List ℕ). length ns) (W.answered (actor_at z i)) in
          let c = length-map (answers_by (actor_at z i) h) (λ (x : AnsweredLine). x.number) in
          let d = length-map (lines_of (actor_at z i) ran) (λ (l : Line). l.number) in
          omega (arith, a, b, c, d)

-- Each line is one of some actor's lines.
all_chosen : (z : Sizes) (ran : List Line) → All (λ line. IsCommandFor z line.actor line.command) ran
    → length ran ≤ sum_below (actors_of z) (λ i. length (lines_of (actor_at z i) ran))
all_chosen z [] each = omega arith
all_chosen z (line ∷ ran) each =
    let may : IsCommandFor z line.actor line.command = All-head (λ (l : Line). IsCommandFor z l.actor l.command) line ran each in
    let rest = all_chosen z ran (All-tail (λ (l : Line). IsCommandFor z l.actor l.command) line ran each) in
    let same =
    sum_same (actors_of z) (λ i. one_if (is_same (actor_at z i) line.actor) + length (lines_of (actor_at z i) ran)) (λ i. length
    (lines_of (actor_at z i) (line ∷ ran))) (λ i lt. chosen_more (is_same (actor_at z i) line.actor) line (lines_of (actor_at z i) ran)) in
    let both = sum_plus (actors_of z) (λ i. one_if (is_same (actor_at z i) line.actor)) (λ i. length (lines_of (actor_at z i) ran)) in
    let own = sum_ge (actors_of z) (λ i. one_if (is_same (actor_at z i) line.actor)) (index_of z line.actor) (maker_there z line.actor line.command may) in
    let one : one_if (is_same (actor_at z (index_of z line.actor)) line.actor) ≡ 1 =
    ap one_if (subst (λ a. is_same a line.actor ≡ true) (sym (maker_is z line.actor line.command may)) (is_same_self line.actor)) in
    omega (arith, rest, same, both, own, one)

module _ (z : Sizes) (lines : List Line) (start : World Held) (is_start : IsStart z lines start) (above : ℕ) (behind : World Held)
    (r : RunsLines z start (take above lines) behind) (ss : List (Step Kind)) (legal : Legal mmu behind ss) where
  abbrev ran : List Line
  ran = take above lines

  is_run : IsRun z lines start (r.steps ++ ss)
  is_run = record { start = is_start; legal = legal-append mmu start r.steps ss r.legal (subst (λ (w : World Held). Legal mmu w ss) (sym r.ends) legal) }

  none_open : sum_below (actors_of z) (λ i. bound_under_way z (hand_in mmu behind i)) ≡ 0
  none_open =
      sum_none (actors_of z) (λ i. bound_under_way z (hand_in mmu behind i))
      (λ i lt. ap (λ p. if is_under_way p then bound_of z (hand_in mmu behind i) else 0) (hands_done z lines start is_start ran behind r i lt).between)

  -- Their turns are within the bounds of their delays.
  pub few_turns : AreOfLines behind ss → length ss ≤ bounds_of delays_line z behind ss + bounds_of begins_line z behind ss
  few_turns own =
      let few =
      subst (λ (w : World Held). how_many is_of_line w ss ≤ bounds_of delays_line z w ss + bounds_in z w ss) r.ends
      (steps_are_few z lines start r.steps ss is_run) in
      omega (arith, few, own, none_open)

  -- The lines that begin there come to no more than those that stand there.
  pub bounded_begin : bounds_of begins_line z behind ss ≤ sum_by (λ line. most_steps z line.command) (drop above lines)
  bounded_begin =
      let reached : IsReached z behind = subst (IsReached z) r.ends (reached_behind z lines start r.steps (record { start = is_start; legal = r.legal })) in
      let few = begins_bounded z behind ss reached legal in
      let each =
      sum_same (actors_of z) (λ i. sum_by f (lines_of (actor_at z i) (drop above lines))) (λ i. bounds_left z (hand_in mmu behind i))
      (λ i lt. left_of i lt) in
      let all = chosen_bounded z f (drop above lines) in
      omega (arith, few, each, all)
    where
      f : Line → ℕ
      f = λ line. most_steps z line.command

      drop_front : (xs ys : List Line) → drop (length xs) (xs ++ ys) ≡ ys
      drop_front [] ys = refl
      drop_front (x ∷ xs) ys = drop_front xs ys

      left_of : (i : ℕ) → i < actors_of z → bounds_left z (hand_in mmu behind i) ≡ sum_by f (lines_of (actor_at z i) (drop above lines))
      left_of i lt =
          let D = hands_done z lines start is_start ran behind r i lt in
          let front : List Line = lines_of (actor_at z i) ran in
          let count : begun_in (hand_in mmu behind i) ≡ length front =
          (let none : open_in (hand_in mmu behind i) ≡ 0 = ap (λ p. one_if (is_under_way p)) D.between in let answered = D.answered in omega
          (arith, none, answered)) in
          let own : (hand_in mmu behind i).lines ≡ front ++ lines_of (actor_at z i) (drop above lines) =
          subst (λ (w : World Held). (hand_in mmu w i).lines ≡ lines_of (actor_at z i) lines) r.ends
          (start_follows z lines start r.steps i is_start r.legal lt).lines
          ∙ ap (lines_of (actor_at z i)) (sym (take-append-drop above lines))
          ∙ filter-append (λ (l : Line). is_same (actor_at z i) l.actor) ran (drop above lines) in
          ap (λ n. sum_by f (drop n (hand_in mmu behind i).lines)) count ∙ ap (λ (xs : List Line). sum_by f (drop (length front) xs)) own
          ∙ ap (sum_by f) (drop_front front (lines_of (actor_at z i) (drop above lines)))

  -- No more lines begin there than stand there.
  pub few_begin : how_many begins_line behind ss ≤ length (drop above lines)
  few_begin =
      let few = subst (λ (w : World Held). lines_answered z w + lines_in z w ss ≤ length lines) r.ends (lines_are_open z lines start r.steps ss is_run) in
      let answers =
      sum_same (actors_of z) (λ i. length (lines_of (actor_at z i) ran)) (λ i. length (hand_in mmu behind i).answers)
      (λ i lt. (hands_done z lines start is_start ran behind r i lt).answered) in
      let all = all_chosen z ran (All-take (λ (l : Line). IsCommandFor z l.actor l.command) above lines is_start.allowed) in
      let front = length-append ran (drop above lines) in
      let whole = ap (λ (xs : List Line). length xs) (take-append-drop above lines) in
      omega (arith, few, answers, all, front, whole)

-- So the delays of the lines below account for the turns.
pub beside_delayed : (z : Sizes) (lines : List Line) (start : World Held) → IsStart z lines start → (above : ℕ) (behind : World Held)
    → RunsLines z start (take above lines) behind → (ss : List (Step Kind)) → Legal mmu behind ss → AreOfLines behind ss
    → AreForDelays z (drop above lines) (length ss) behind ss
beside_delayed z lines start is_start above behind r ss legal own = record {
  over_lines =
      let all = sum_bound (λ line. most_steps z line.command) (λ line. delays_of line.number behind ss) below in
      let begun = bounded_begin z lines start is_start above behind r ss legal in
      omega (arith, all, turns, delays, begun);
  over_steps = turns;
  few_begin = begin;
}
  where
    turns : length ss ≤ bounds_of delays_line z behind ss + bounds_of begins_line z behind ss
    turns = few_turns z lines start is_start above behind r ss legal own

    begin : how_many begins_line behind ss ≤ length (drop above lines)
    begin = few_begin z lines start is_start above behind r ss legal

    ran : List Line
    ran = take above lines

    below : List Line
    below = drop above lines

    sound : IsSound z behind
    sound = subst (IsSound z) r.ends (good_run z start r.steps (start_good z lines start is_start) r.legal)

    stand : AreBelow z ran below behind
    stand = record {
      lines =
          λ i lt. subst (λ (w : World Held). (hand_in mmu w i).lines ≡ lines_of (actor_at z i) (ran ++ below)) r.ends
          ((start_follows z lines start r.steps i is_start r.legal lt).lines ∙ ap (lines_of (actor_at z i)) (sym (take-append-drop above lines)));
      past = λ i lt. let same = (hands_done z lines start is_start ran behind r i lt).answered in omega (arith, same);
    }

    delays : bounds_of delays_line z behind ss ≤ sum_by (λ line. most_steps z line.command * delays_of line.number behind ss) below
    delays = delays_below z ran below behind ss sound legal stand

-- So it is with the turns of a weave whose rounds are used up.
pub turns_delayed : (trace : Trace) (limit : ℕ) (start : World Held) (steps : List (Step Kind)) → IsStart (sizes_of trace.header) trace.lines start
    → Legal mmu start steps → (S : FollowsSoFar trace limit start steps) → FollowsBoth trace limit start steps S → length S.rounds ≡ limit
    → AreForDelays (sizes_of trace.header) (lines_below trace) (length S.scheduled + limit) S.behind (S.scheduled ++ S.rounds)
turns_delayed trace limit start steps is_start legal S F used_up =
    subst (λ turns. AreForDelays z (lines_below trace) turns S.behind all) (length-append S.scheduled S.rounds ∙ ap (λ n. length S.scheduled + n) used_up)
    (subst (λ n. AreForDelays z (drop n trace.lines) (length all) S.behind all) F.all_above
    (beside_delayed z trace.lines start is_start S.above S.behind S.alone all legal_behind own))
  where
    z : Sizes
    z = sizes_of trace.header

    all : List (Step Kind)
    all = S.scheduled ++ S.rounds

    legal_behind : Legal mmu S.behind all
    legal_behind = subst (λ (w : World Held). Legal mmu w all) S.alone.ends (legal_parts start S.alone.steps all (subst (Legal mmu start) S.are legal)).1

    own : AreOfLines S.behind all
    own =
        both_of_lines S.behind S.scheduled S.rounds (items_of_lines z trace.items S.behind S.scheduled S.item_marks F.all_items.0)
        (rounds_of_lines z 0 S.in_rounds.next (run mmu S.behind S.scheduled) S.rounds S.in_rounds.rounds)
