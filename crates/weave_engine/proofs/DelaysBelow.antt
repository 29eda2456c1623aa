-- Each delay below `go` is one of a line that stands there: so all delays are those of these lines together.
use Rattle.std.proofs.Common.{◌≡◌, ◌⊎◌, inl, inr, ◌+◌, ◌*◌, ◌-◌, ◌<◌, ◌≤◌, ℕ, List, [], ◌∷◌, ◌++◌, get_or, length, length-append, refl, sym, subst}
use Rattle.std.proofs.Common.{ap, ◌∙◌, arith}
use Rattle.std.proofs.lemmas.Bool.{cases_Bool, eq-eqb, ltb-true}
use Rattle.std.proofs.lemmas.List.{get_or-append_right}
use Rattle.std.proofs.lemmas.List.Elements.{All-contains, All-contains_itself, All-filter, Contains-get_or, filter-append}
use Rattle.std.proofs.lemmas.List.Sums.{get_or-le-sum_by, sum_by-cons}
use Rattle.std.proofs.lemmas.Option.{slice_get-get_or}
use Rattle.std.specs.List.{Contains, sum_by}
use Rattle.std.specs.Prelude.{Bool, true, false, ◌&&◌, ◌==◌, if◌then◌else◌, nat_lt, unwrap_or}
use Rattle.std.specs.declared.option.Option.{Option}
use Rattle.core_views.specs.declared.answer.AnsweredLine.{AnsweredLine}
use Rattle.core_views.specs.declared.kind.Kind.{Kind}
use Rattle.core_views.specs.declared.sizes.Sizes.{Sizes}
use Rattle.core_views.specs.declared.trace.Line.{Line}
use Rattle.core_views.specs.Actors.{is_same}
use Rattle.core_views.specs.Flat.{no_line}
use Rattle.core_views.specs.Held.{Held}
use Rattle.core_views.specs.Sizes.{actor_at, actors_of}
use Rattle.core_views.specs.Whole.{lines_of}
use Rattle.mmu_core.specs.lines.Bounds.{most_steps}
use Rattle.mmu_core.specs.machine.Enabled.{mmu}
use Rattle.mmu_core.specs.invariant.Laws.{IsSound}
use Rattle.mmu_core.specs.machine.Machine.{Legal, May, Step, World, answered, effect, hand_in}
use Rattle.mmu_core.specs.machine.Steps.{has_line, next_line}
use Rattle.mmu_core.specs.machine.Sums.{one_if}
use Rattle.mmu_core.specs.machine.Turns.{line_of}
use Rattle.mmu_laws.proofs.flat.EveryAnswer.{run_follows}
use Rattle.mmu_core.proofs.machine.Stepping.{line_is_next}
use Rattle.mmu_core.proofs.machine.Worlds.{good_step}
use Rattle.core_theorem.specs.Turns.{bound_of, bounds_of, delays_line, hand_delays}
use Rattle.turn_loops.specs.Beside.{delays_of, is_numbered}

-- ---- sums over lines

sum_plus : (most f g : Line → ℕ) (xs : List Line) → sum_by (λ x. most x * (f x + g x)) xs ≡ sum_by (λ x. most x * f x) xs + sum_by (λ x. most x * g x) xs
sum_plus most f g [] = refl
sum_plus most f g (x ∷ xs) =
    let a = sum_by-cons (λ y. most y * (f y + g y)) x xs in
    let b = sum_by-cons (λ y. most y * f y) x xs in
    let c = sum_by-cons (λ y. most y * g y) x xs in
    let here : most x * (f x + g x) ≡ most x * f x + most x * g x = omega arith in
    omega (arith, a, b, c, here, sum_plus most f g xs)

-- A bound of each line once, and for each of its delays.
pub sum_bound : (most f : Line → ℕ) (xs : List Line) → sum_by (λ x. most x * (f x + 1)) xs ≡ sum_by (λ x. most x * f x) xs + sum_by most xs
sum_bound most f [] = refl
sum_bound most f (x ∷ xs) =
    let a = sum_by-cons (λ y. most y * (f y + 1)) x xs in
    let b = sum_by-cons (λ y. most y * f y) x xs in
    let c = sum_by-cons most x xs in
    let here : most x * (f x + 1) ≡ most x * f x + most x = omega arith in
    omega (arith, a, b, c, here, sum_bound most f xs)

contained_few : (f : Line → ℕ) (xs : List Line) (x : Line) → Contains xs x → f x ≤ sum_by f xs
contained_few f xs x (k, lt, is) = subst (λ y. f y ≤ sum_by f xs) is (get_or-le-sum_by f xs k x lt)

-- ---- the line of a step

module _ (z : Sizes) (ran below : List Line) where
  -- Each hand has answered its lines among those that ran.
  pub record AreBelow (u : World Held) : Type 0 where
    pub lines : (i : ℕ) → i < actors_of z → (hand_in mmu u i).lines ≡ lines_of (actor_at z i) (ran ++ below)
    pub past : (i : ℕ) → i < actors_of z → length (lines_of (actor_at z i) ran) ≤ length (hand_in mmu u i).answers

  below_more : (u : World Held) (s : Step Kind) → IsSound z u → May mmu u s → AreBelow u → AreBelow (effect mmu u s)
  below_more u s G may B = record {
    lines = λ i lt. (run_follows z u (s ∷ []) i G (may, tt) lt).lines ∙ B.lines i lt;
    past =
        λ i lt. grown (hand_in mmu (effect mmu u s) i).answers (hand_in mmu u i).answers _ (length (lines_of (actor_at z i) ran))
        (run_follows z u (s ∷ []) i G (may, tt) lt).answers (B.past i lt);
  }
    where
      grown : (after before more : List AnsweredLine) (n : ℕ) → after ≡ before ++ more → n ≤ length before → n ≤ length after
      grown after before more n are few =
          let a = ap (λ (xs : List AnsweredLine). length xs) are in let b = length-append before more in omega (arith, few, a, b)

  -- The next line of a hand is one of these.
  next_below : (u : World Held) (i : ℕ) → i < actors_of z → AreBelow u → length (hand_in mmu u i).answers < length (hand_in mmu u i).lines
      → Contains below (next_line (hand_in mmu u i))
  next_below u i lt B left =
      subst (Contains below) (sym next_is) (All-contains (Contains below) own line (All-filter (λ (l : Line). is_same (actor_at z i) l.actor)
      (Contains below) below (All-contains_itself below)) (Contains-get_or own (n - length front) no_line within))
    where
      h : Held
      h = hand_in mmu u i

      n : ℕ
      n = length h.answers

      front : List Line
      front = lines_of (actor_at z i) ran

      own : List Line
      own = lines_of (actor_at z i) below

      line : Line
      line = get_or own (n - length front) no_line

      are : h.lines ≡ front ++ own
      are = B.lines i lt ∙ filter-append (λ (l : Line). is_same (actor_at z i) l.actor) ran below

      within : n - length front < length own
      within = let a = ap (λ (xs : List Line). length xs) are in let b = length-append front own in let c = B.past i lt in omega (arith, left, a, b, c)

      next_is : next_line h ≡ line
      next_is =
          ap (λ (o : Option Line). unwrap_or o no_line) (slice_get-get_or h.lines n no_line left) ∙ ap (λ (xs : List Line). get_or xs n no_line) are
          ∙ get_or-append_right front own (length front) n no_line refl (B.past i lt)

  -- what a line's command allows, where the step is a delay of this line
  abbrev delay_bound : World Held → Step Kind → Line → ℕ
  delay_bound u s line = most_steps z line.command * one_if (is_numbered line.number u s && delays_line u s)

  one_below : (u : World Held) (s : Step Kind) → IsSound z u → May mmu u s → AreBelow u
      → (if delays_line u s then bound_of z (hand_in mmu u s.actor) else 0) ≤ sum_by (λ line. most_steps z line.command * one_if
      (is_numbered line.number u s && delays_line u s)) below
  one_below u s G may B = by (cases_Bool (has_line h))
    where
      h : Held
      h = hand_in mmu u s.actor

      there : s.actor < actors_of z
      there = let hands = G.hands in let at = may.there in omega (arith, at, hands)

      left_of : (n m : ℕ) → nat_lt n m ≡ true → n < m
      left_of n m is = ltb-true n m is

      none_few : (n m : ℕ) → n ≡ 0 → n ≤ m
      none_few n m none = omega (arith, none)

      own_number : (n : ℕ) (b : Bool) → one_if ((n == n) && b) ≡ one_if b
      own_number n b = let e : (n == n) ≡ true = eq-eqb n n refl in ap (λ x. one_if (x && b)) e

      times : (b : Bool) (n : ℕ) → (if b then n else 0) ≡ n * one_if b
      times true n = omega arith
      times false n = omega arith

      of_line : length h.answers < length h.lines
          → (if delays_line u s then bound_of z h else 0) ≤ sum_by (delay_bound u s) below
      of_line left =
          let is : line_of h ≡ next_line h = line_is_next h.state.place h (G.holds.lines s.actor there).under refl in
          let few =
          contained_few (delay_bound u s) below (line_of h)
          (subst (Contains below) (sym is) (next_below u s.actor there B left)) in
          let own : (if delays_line u s then bound_of z h else 0) ≡ bound_of z h * one_if (is_numbered (line_of h).number u s && delays_line u s) =
          times (delays_line u s) (bound_of z h) ∙ ap (λ n. bound_of z h * n) (sym (own_number (line_of h).number (delays_line u s))) in
          omega (arith, few, own)

      by : (has_line h ≡ true) ⊎ (has_line h ≡ false)
          → (if delays_line u s then bound_of z h else 0) ≤ sum_by (delay_bound u s) below
      by (inl has) = of_line (left_of (length h.answers) (length h.lines) has)
      by (inr no_line_) =
          none_few (if delays_line u s then bound_of z h else 0) _
          (ap (λ b. if b && hand_delays h (answered mmu u s.kind) then bound_of z h else 0) no_line_)

  pub delays_below : (u : World Held) (ss : List (Step Kind)) → IsSound z u → Legal mmu u ss → AreBelow u
      → bounds_of delays_line z u ss ≤ sum_by (λ line. most_steps z line.command * delays_of line.number u ss) below
  delays_below u [] G legal B = omega arith
  delays_below u (s ∷ ss) G legal B =
      let here = one_below u s G legal.0 B in
      let rest = delays_below (effect mmu u s) ss (good_step z u s G legal.0) legal.1 (below_more u s G legal.0 B) in
      let both =
      sum_plus (λ line. most_steps z line.command) (λ line. one_if (is_numbered line.number u s && delays_line u s))
      (λ line. delays_of line.number (effect mmu u s) ss) below in
      omega (arith, here, rest, both)
