-- The lines that begin in some steps, those that are under way before and those that are answered are no more than there are.
use Rattle.std.proofs.Common.{◌≡◌, ◌≢◌, ◌⊎◌, inl, inr, ◌+◌, ◌<◌, ◌≤◌, ℕ, zero, suc, List, [], ◌∷◌, length, take, refl, sym, subst, ap, ◌∙◌, arith}
use Rattle.std.proofs.Math.ListN.{length-map}
use Rattle.std.proofs.lemmas.Bool.{cases_Bool}
use Rattle.std.proofs.lemmas.Bool.Decides.{nat_tests}
use Rattle.std.proofs.lemmas.List.{length-take}
use Rattle.std.proofs.lemmas.List.Sums.{sum_by-cons, sum_by-drop_more}
use Rattle.std.proofs.lemmas.Option.{slice_get-get_or}
use Rattle.std.specs.List.{sum_by}
use Rattle.std.specs.Prelude.{Bool, true, false, not, ◌&&◌, if◌then◌else◌, Option, drop, get_or, unwrap_or}
use Rattle.core_views.specs.declared.actor.Actor.{Actor}
use Rattle.core_views.specs.declared.answer.AnsweredLine.{AnsweredLine}
use Rattle.core_views.specs.declared.kind.Kind.{Kind}
use Rattle.core_views.specs.declared.place.Place.{Place}
use Rattle.core_views.specs.declared.place.Place.TheVariants as place
use Rattle.core_views.specs.declared.sizes.Sizes.{Sizes}
use Rattle.core_views.specs.declared.trace.Line.{Line}
use Rattle.core_views.specs.Actors.{is_same}
use Rattle.core_views.specs.Flat.{no_line}
use Rattle.core_views.specs.Held.{Held}
use Rattle.core_views.specs.Sizes.{actor_at, actors_of, index_of}
use Rattle.core_views.specs.Whole.{lines_of}
use Rattle.mmu_core.specs.machine.Enabled.{mmu}
use Rattle.mmu_core.specs.invariant.LinesPart.{UnderWay}
use Rattle.mmu_core.specs.lines.Bounds.{most_steps}
use Rattle.mmu_core.specs.machine.Machine.{Legal, May, Step, World, answered, effect, hand_in, run}
use Rattle.mmu_core.specs.machine.Steps.{has_line, line_at, next_line}
use Rattle.mmu_core.specs.machine.Sums.{one_if, sum_below}
use Rattle.mmu_laws.proofs.flat.EveryAnswer.{run_follows, start_follows}
use Rattle.mmu_core.proofs.start.Starts.{place_of_actor, same_actor}
use Rattle.mmu_laws.proofs.causes.StarvedScan.{legal_parts}
use Rattle.mmu_core.proofs.machine.SumsBelow.{one_small, sum_only}
use Rattle.core_theorem.specs.Turns.{LinesAreOpen, begins_line, bound_of, bounds_of, hand_delays, how_many, is_under_way}
use Rattle.core_theorem.proofs.ActorSums.{sum_few, sum_moves, sum_of, sum_plus, sum_same}
use Rattle.core_theorem.proofs.Turns.{CountsEnding, CountsGoing, IsReached, one_begins, open_in, part_still, reached_behind, reached_more}
use Rattle.core_theorem.proofs.Turns.{reached_sound, step_counts}

-- ---- how many lines there are

-- The lines of all actors are no more than all lines.
pub chosen_more : (b : Bool) (line : Line) (lines : List Line) → length (if b then line ∷ lines else lines) ≡ one_if b + length lines
chosen_more true line lines = omega arith
chosen_more false line lines = omega arith

one_maker : (z : Sizes) (actor : Actor) → sum_below (actors_of z) (λ i. one_if (is_same (actor_at z i) actor)) ≤ 1
one_maker z actor =
    let at = sum_only (actors_of z) (λ i. one_if (is_same (actor_at z i) actor)) (index_of z actor) others in
    let one = one_small (is_same (actor_at z (index_of z actor)) actor) in
    omega (arith, at, one)
  where
    others : (i : ℕ) → i < actors_of z → i ≢ index_of z actor → one_if (is_same (actor_at z i) actor) ≡ 0
    others i lt ne = by (cases_Bool (is_same (actor_at z i) actor))
      where
        by : (is_same (actor_at z i) actor ≡ true) ⊎ (is_same (actor_at z i) actor ≡ false) → one_if (is_same (actor_at z i) actor) ≡ 0
        by (inl same) = absurd (ne (sym (place_of_actor z i lt) ∙ ap (index_of z) (sym (same_actor (actor_at z i) actor same))))
        by (inr apart) = ap one_if apart

chosen_few : (z : Sizes) (lines : List Line) → sum_below (actors_of z) (λ i. length (lines_of (actor_at z i) lines)) ≤ length lines
chosen_few z [] = none (actors_of z)
  where
    none : (n : ℕ) → sum_below n (λ i. length (lines_of (actor_at z i) [])) ≤ 0
    none zero = omega arith
    none (suc n) = omega (arith, none n)
chosen_few z (line ∷ lines) =
    let each =
    sum_same (actors_of z) (λ i. one_if (is_same (actor_at z i) line.actor) + length (lines_of (actor_at z i) lines)) (λ i. length
    (lines_of (actor_at z i) (line ∷ lines))) (λ i lt. chosen_more (is_same (actor_at z i) line.actor) line (lines_of (actor_at z i) lines)) in
    let both = sum_plus (actors_of z) (λ i. one_if (is_same (actor_at z i) line.actor)) (λ i. length (lines_of (actor_at z i) lines)) in
    let one = one_maker z line.actor in
    let rest = chosen_few z lines in
    omega (arith, each, both, one, rest)

-- ---- what a hand has begun

abbrev pub begun_in : Held → ℕ
begun_in h = length h.answers + open_in h

abbrev lines_in_hand : Held → ℕ
lines_in_hand h = length h.lines

answers_few : (z : Sizes) (u : World Held) (i : ℕ) → IsReached z u → i < actors_of z → length (hand_in mmu u i).answers ≤ length (hand_in mmu u i).lines
answers_few z u i R lt = subst (λ (x : World Held). length (hand_in mmu x i).answers ≤ length (hand_in mmu x i).lines) R.reached.leads.ends few
  where
    g : Held
    g = hand_in mmu (run mmu R.reached.start R.reached.leads.steps) i

    few : length g.answers ≤ length g.lines
    few =
        let there : i < actors_of R.reached.sizes = subst (λ (y : Sizes). i < actors_of y) (sym R.sizes) lt in
        let same =
        ap (λ (ns : List ℕ). length ns) ((start_follows R.reached.sizes R.reached.lines R.reached.start R.reached.leads.steps i R.reached.is_start
        R.reached.leads.legal there).numbers refl) in
        let a = length-map g.answers (λ (x : AnsweredLine). x.number) in
        let b = length-map (take (length g.answers) g.lines) (λ (l : Line). l.number) in
        let c = length-take (length g.answers) g.lines in
        omega (arith, same, a, b, c)

begun_few : (p : Place) (h : Held) → UnderWay p h → length h.answers ≤ length h.lines → length h.answers + one_if (is_under_way p) ≤ length h.lines
begun_few place.Between h under few = omega (arith, few)
begun_few _ h under few = let left = under.1 in omega (arith, left)

-- ---- from step to step

module _ (z : Sizes) (u : World Held) (s : Step Kind) (R : IsReached z u) (may : May mmu u s) where
  own_there : s.actor < actors_of z
  own_there = let hands = (reached_sound z u R).hands in let at = may.there in omega (arith, at, hands)

  begins_one : begun_in (hand_in mmu (effect mmu u s) s.actor) ≡ begun_in (hand_in mmu u s.actor) + one_if (begins_line u s)
  begins_one = by (cases_Bool (has_line h))
    where
      h : Held
      h = hand_in mmu u s.actor

      g : Held
      g = hand_in mmu (effect mmu u s) s.actor

      of_line : one_if (begins_line u s) + open_in h ≡ 1 → CountsGoing (hand_delays h (answered mmu u s.kind)) h g ⊎ CountsEnding h g
          → begun_in g ≡ begun_in h + one_if (begins_line u s)
      of_line one (inl G) = let answers = G.answers in let is_open = G.is_open in omega (arith, one, answers, is_open)
      of_line one (inr E) = let answers = E.answers in let is_open = E.is_open in omega (arith, one, answers, is_open)

      begins_none : (has b : Bool) → has ≡ false → one_if (has && b) ≡ 0
      begins_none true b none = absurd (cc none)
      begins_none false b none = refl

      by : (has_line h ≡ true) ⊎ (has_line h ≡ false) → begun_in g ≡ begun_in h + one_if (begins_line u s)
      by (inl has) = of_line (one_begins (has_line h) (is_under_way h.state.place) has) (step_counts z u s R may has).behind
      by (inr none) =
          let same : begun_in g ≡ begun_in h = ap begun_in (part_still z u s R may none) in
          let no_begin = begins_none (has_line h) (not (is_under_way h.state.place)) none in
          omega (arith, same, no_begin)

  lines_same : sum_of z lines_in_hand (effect mmu u s) ≡ sum_of z lines_in_hand u
  lines_same =
      sum_same (actors_of z) (λ i. lines_in_hand (hand_in mmu u i)) (λ i. lines_in_hand (hand_in mmu (effect mmu u s) i))
      (λ i lt. ap (λ (xs : List Line). length xs) (run_follows z u (s ∷ []) i (reached_sound z u R) (may, tt) lt).lines)

begins_few : (z : Sizes) (u : World Held) (ss : List (Step Kind)) → IsReached z u → Legal mmu u ss
    → how_many begins_line u ss + sum_of z begun_in u ≤ sum_of z lines_in_hand u
begins_few z u [] R legal =
    let each = sum_few (actors_of z) (λ i. begun_in (hand_in mmu u i)) (λ i. lines_in_hand (hand_in mmu u i))
    (λ i lt. begun_few (hand_in mmu u i).state.place (hand_in mmu u i) ((reached_sound z u R).holds.lines i lt).under (answers_few z u i R lt)) in
    omega (arith, each)
begins_few z u (s ∷ ss) R legal =
    let rest = begins_few z (effect mmu u s) ss (reached_more z u s R legal.0) legal.1 in
    let one = begins_one z u s R legal.0 in
    let moved = sum_moves z begun_in u s (own_there z u s R legal.0) in
    let same = lines_same z u s R legal.0 in
    more (how_many begins_line (effect mmu u s) ss) (one_if (begins_line u s)) (sum_of z begun_in u) (sum_of z begun_in (effect mmu u s))
    (begun_in (hand_in mmu u s.actor)) (begun_in (hand_in mmu (effect mmu u s) s.actor))
    (sum_of z lines_in_hand u) (sum_of z lines_in_hand (effect mmu u s)) rest one moved same
  where
    more : (begins one before behind h g all_before all : ℕ) → begins + behind ≤ all → g ≡ h + one → behind + h ≡ before + g → all ≡ all_before
        → (one + begins) + before ≤ all_before
    more begins one before behind h g all_before all rest is moved same = omega (arith, rest, is, moved, same)

pub lines_are_open : LinesAreOpen
lines_are_open z lines w ss ts R =
    let parts = legal_parts w ss ts R.legal in
    let few = begins_few z (run mmu w ss) ts (reached_behind z lines w ss (record { start = R.start; legal = parts.0 })) parts.1 in
    let both = sum_plus (actors_of z) (λ i. length (hand_in mmu (run mmu w ss) i).answers) (λ i. open_in (hand_in mmu (run mmu w ss) i)) in
    let own =
    sum_same (actors_of z) (λ i. length (lines_of (actor_at z i) lines)) (λ i. lines_in_hand (hand_in mmu (run mmu w ss) i))
    (λ i lt. ap (λ (xs : List Line). length xs) (start_follows z lines w ss i R.start parts.0 lt).lines) in
    let all = chosen_few z lines in
    omega (arith, few, both, own, all)

-- ---- where each line counts as many steps as its command allows

-- the lines of a hand that haven't begun
abbrev pub bounds_left : Sizes → Held → ℕ
bounds_left z h = sum_by (λ line. most_steps z line.command) (drop (begun_in h) h.lines)

-- A line that begins is the first of them.
begins_first : (z : Sizes) (p : Place) (h g : Held) → g.lines ≡ h.lines → length h.answers < length h.lines
    → begun_in g ≡ (length h.answers + one_if (is_under_way p)) + one_if (not (is_under_way p))
    → (if not (is_under_way p) then most_steps z (line_at p h).command else 0) + bounds_left z g
    ≡ sum_by (λ line. most_steps z line.command) (drop (length h.answers + one_if (is_under_way p)) h.lines)
begins_first z place.Between h g lines left begun =
    let f : Line → ℕ = λ line. most_steps z line.command in
    let first : next_line h ≡ get_or h.lines (length h.answers) no_line =
    ap (λ (o : Option Line). unwrap_or o no_line) (slice_get-get_or h.lines (length h.answers) no_line left) in
    let count : begun_in g ≡ length h.answers + 1 = omega (arith, begun) in
    ap (λ n. f (next_line h) + sum_by f (drop n g.lines)) count ∙ ap (λ (xs : List Line). f (next_line h) + sum_by f (drop (length h.answers + 1) xs)) lines
    ∙ ap (λ (l : Line). f l + sum_by f (drop (length h.answers + 1) h.lines)) first ∙ sym (sum_by-drop_more f h.lines (length h.answers) no_line left)
    ∙ ap (λ n. sum_by f (drop n h.lines)) (let same : length h.answers ≡ length h.answers + 0 = omega arith in same)
begins_first z _ h g lines left begun =
    let f : Line → ℕ = λ line. most_steps z line.command in
    let count : begun_in g ≡ length h.answers + 1 = omega (arith, begun) in
    let rest : bounds_left z g ≡ sum_by f (drop (length h.answers + 1) h.lines) =
    ap (λ n. sum_by f (drop n g.lines)) count ∙ ap (λ (xs : List Line). sum_by f (drop (length h.answers + 1) xs)) lines in
    omega (arith, rest)

module _ (z : Sizes) (u : World Held) (s : Step Kind) (R : IsReached z u) (may : May mmu u s) where
  hand_lines : (hand_in mmu (effect mmu u s) s.actor).lines ≡ (hand_in mmu u s.actor).lines
  hand_lines = (run_follows z u (s ∷ []) s.actor (reached_sound z u R) (may, tt) (own_there z u s R may)).lines

  begins_bound : (if begins_line u s then bound_of z (hand_in mmu u s.actor) else 0) + bounds_left z (hand_in mmu (effect mmu u s) s.actor)
      ≡ bounds_left z (hand_in mmu u s.actor)
  begins_bound = by (cases_Bool (has_line h))
    where
      h : Held
      h = hand_in mmu u s.actor

      g : Held
      g = hand_in mmu (effect mmu u s) s.actor

      also : (has b : Bool) (n : ℕ) → has ≡ true → (if has && b then n else 0) ≡ (if b then n else 0)
      also true b n is = refl
      also false b n is = absurd (cc is)

      none_begins : (has b : Bool) (n : ℕ) → has ≡ false → (if has && b then n else 0) ≡ 0
      none_begins true b n none = absurd (cc none)
      none_begins false b n none = refl

      of_line : (has : Bool) → has ≡ true → begun_in g ≡ begun_in h + one_if (has && not (is_under_way h.state.place))
          → begun_in g ≡ begun_in h + one_if (not (is_under_way h.state.place))
      of_line true is begun = begun
      of_line false is begun = absurd (cc is)

      by : (has_line h ≡ true) ⊎ (has_line h ≡ false) → (if begins_line u s then bound_of z h else 0) + bounds_left z g ≡ bounds_left z h
      by (inl has) =
          ap (λ n. n + bounds_left z g) (also (has_line h) (not (is_under_way h.state.place)) (bound_of z h) has)
          ∙ begins_first z h.state.place h g hand_lines (grind (arith, nat_tests)) (of_line (has_line h) has (begins_one z u s R may))
      by (inr none) =
          let no_begin = none_begins (has_line h) (not (is_under_way h.state.place)) (bound_of z h) none in
          let same : bounds_left z g ≡ bounds_left z h =
          ap (λ n. sum_by (λ line. most_steps z line.command) (drop n g.lines)) (ap begun_in (part_still z u s R may none))
          ∙ ap (λ (xs : List Line). sum_by (λ line. most_steps z line.command) (drop (begun_in h) xs)) hand_lines in
          omega (arith, no_begin, same)

-- The lines that begin in some steps come to no more than those that haven't begun before.
pub begins_bounded : (z : Sizes) (u : World Held) (ss : List (Step Kind)) → IsReached z u → Legal mmu u ss
    → bounds_of begins_line z u ss ≤ sum_of z (bounds_left z) u
begins_bounded z u [] R legal = omega arith
begins_bounded z u (s ∷ ss) R legal =
    more (bounds_of begins_line z (effect mmu u s) ss) (if begins_line u s then bound_of z (hand_in mmu u s.actor) else 0) (sum_of z (bounds_left z) u)
    (sum_of z (bounds_left z) (effect mmu u s))
    (bounds_left z (hand_in mmu u s.actor)) (bounds_left z (hand_in mmu (effect mmu u s) s.actor))
    (begins_bounded z (effect mmu u s) ss (reached_more z u s R legal.0) legal.1)
    (begins_bound z u s R legal.0) (sum_moves z (bounds_left z) u s (own_there z u s R legal.0))
  where
    more : (begins one before behind h g : ℕ) → begins ≤ behind → one + g ≡ h → behind + h ≡ before + g → one + begins ≤ before
    more begins one before behind h g rest is moved = omega (arith, rest, is, moved)

-- The lines of all actors come to no more than all lines.
chosen_bound : (b : Bool) (f : Line → ℕ) (line : Line) (lines : List Line)
    → sum_by f (if b then line ∷ lines else lines) ≡ (if b then f line else 0) + sum_by f lines
chosen_bound true f line lines = sum_by-cons f line lines
chosen_bound false f line lines = omega arith

one_maker_bound : (z : Sizes) (actor : Actor) (n : ℕ) → sum_below (actors_of z) (λ i. if is_same (actor_at z i) actor then n else 0) ≤ n
one_maker_bound z actor n =
    let at = sum_only (actors_of z) (λ i. if is_same (actor_at z i) actor then n else 0) (index_of z actor) others in
    let one = at_most (is_same (actor_at z (index_of z actor)) actor) in
    omega (arith, at, one)
  where
    at_most : (b : Bool) → (if b then n else 0) ≤ n
    at_most true = omega arith
    at_most false = omega arith

    others : (i : ℕ) → i < actors_of z → i ≢ index_of z actor → (if is_same (actor_at z i) actor then n else 0) ≡ 0
    others i lt ne = by (cases_Bool (is_same (actor_at z i) actor))
      where
        by : (is_same (actor_at z i) actor ≡ true) ⊎ (is_same (actor_at z i) actor ≡ false) → (if is_same (actor_at z i) actor then n else 0) ≡ 0
        by (inl same) = absurd (ne (sym (place_of_actor z i lt) ∙ ap (index_of z) (sym (same_actor (actor_at z i) actor same))))
        by (inr apart) = ap (λ b. if b then n else 0) apart

pub chosen_bounded : (z : Sizes) (f : Line → ℕ) (lines : List Line) → sum_below (actors_of z) (λ i. sum_by f (lines_of (actor_at z i) lines)) ≤ sum_by f lines
chosen_bounded z f [] = none (actors_of z)
  where
    none : (n : ℕ) → sum_below n (λ i. sum_by f (lines_of (actor_at z i) [])) ≤ sum_by f []
    none zero = omega arith
    none (suc n) = omega (arith, none n)
chosen_bounded z f (line ∷ lines) =
    let each =
    sum_same (actors_of z) (λ i. (if is_same (actor_at z i) line.actor then f line else 0) + sum_by f (lines_of (actor_at z i) lines))
    (λ i. sum_by f (lines_of (actor_at z i) (line ∷ lines)))
    (λ i lt. chosen_bound (is_same (actor_at z i) line.actor) f line (lines_of (actor_at z i) lines)) in
    let both = sum_plus (actors_of z) (λ i. if is_same (actor_at z i) line.actor then f line else 0) (λ i. sum_by f (lines_of (actor_at z i) lines)) in
    let one = one_maker_bound z line.actor (f line) in
    let rest = chosen_bounded z f lines in
    let cons = sum_by-cons f line lines in
    omega (arith, each, both, one, rest, cons)
