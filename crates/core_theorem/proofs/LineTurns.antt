-- What the steps of one line come to, between its delays.
use Rattle.std.proofs.Common.{◌≡◌, ◌≢◌, ◌⊎◌, inl, inr, ◌+◌, ◌*◌, ◌<◌, ◌≤◌, ℕ, List, [], ◌∷◌, ◌++◌, length, refl, sym, subst, ap, ◌∙◌, arith}
use Rattle.std.proofs.lemmas.Bool.{cases_Bool, cases_order}
use Rattle.std.proofs.lemmas.Bool.Decides.{nat_tests}
use Rattle.std.specs.Prelude.{Bool, true, false, ◌&&◌, ◌==◌, slice_get, unwrap_or}
use Rattle.core_views.specs.declared.kind.Kind.{Kind}
use Rattle.core_views.specs.declared.sizes.Sizes.{Sizes}
use Rattle.core_views.specs.declared.trace.Line.{Line}
use Rattle.core_views.specs.Flat.{no_line}
use Rattle.core_views.specs.Held.{Held}
use Rattle.core_views.specs.Sizes.{actors_of}
use Rattle.mmu_core.specs.lines.Bounds.{most_steps}
use Rattle.mmu_core.specs.machine.Enabled.{mmu}
use Rattle.mmu_core.specs.machine.Machine.{Legal, May, Step, World, answered, effect, hand_in, run}
use Rattle.mmu_core.specs.machine.Steps.{has_line}
use Rattle.mmu_core.specs.machine.Sums.{one_if}
use Rattle.mmu_core.proofs.machine.Columns.{same_or}
use Rattle.mmu_core.proofs.held.ClaimGoes.{others_hand}
use Rattle.mmu_laws.proofs.causes.StarvedScan.{legal_parts}
use Rattle.mmu_core.proofs.machine.Stepping.{line_is_next}
use Rattle.mmu_laws.proofs.flat.EveryAnswer.{run_follows}
use Rattle.core_theorem.specs.Turns.{LinesMakeFewSteps, bound_of, delays_line, hand_delays, is_of, own_delays, own_line, own_steps}
use Rattle.core_theorem.proofs.LineCounts.{and_false, going_takes, line_ends, line_goes, line_stays, one_few, one_if_false, own_few}
use Rattle.core_theorem.proofs.Turns.{Counts, CountsEnding, CountsGoing, IsReached, count_few, counted_in, part_still, reached_behind, reached_more}
use Rattle.core_theorem.proofs.Turns.{reached_sound, step_counts}

-- ---- one line

module _ (z : Sizes) (actor before most : ℕ) where
  -- the hand of the line's actor, and how many of its lines are answered
  abbrev own_of : World Held → Held
  own_of u = hand_in mmu u actor

  abbrev done_in : World Held → ℕ
  done_in u = length (own_of u).answers

  -- The step is none of the actor's lines: its hand has answered and counted the same.
  record Still (u : World Held) (s : Step Kind) : Type 0 where
    other : is_of actor before u s ≡ false
    answers : done_in (effect mmu u s) ≡ done_in u
    counted : counted_in (own_of (effect mmu u s)) ≡ counted_in (own_of u)

  -- It is one of them.
  record Own (u : World Held) (s : Step Kind) : Type 0 where
    own : is_of actor before u s ≡ (done_in u == before)
    delays : delays_line u s ≡ hand_delays (own_of u) (answered mmu u s.kind)
    counts : Counts (bound_of z (own_of u)) (hand_delays (own_of u) (answered mmu u s.kind)) (own_of u) (own_of (effect mmu u s))

  still_or_own : (u : World Held) (s : Step Kind) → IsReached z u → May mmu u s → Still u s ⊎ Own u s
  still_or_own u s R may = by (same_or actor s.actor) (cases_Bool (has_line (hand_in mmu u s.actor)))
    where
      of_none : (has b : Bool) → has ≡ false → (has && b) ≡ false
      of_none true b none = absurd (cc none)
      of_none false b none = refl

      of_other : (has b : Bool) → actor ≢ s.actor → (has && ((s.actor == actor) && b)) ≡ false
      of_other has b apart = at has (s.actor == actor) (let e : (s.actor == actor) ≡ false = grind (arith, nat_tests) in e)
        where
          at : (x y : Bool) → y ≡ false → (x && (y && b)) ≡ false
          at true true no_ = absurd (cc no_)
          at true false no_ = refl
          at false y no_ = refl

      of_own : (has same b : Bool) → has ≡ true → same ≡ true → (has && (same && b)) ≡ b
      of_own true true b on here = refl
      of_own true false b on here = absurd (cc here)
      of_own false same b on here = absurd (cc on)

      also : (has b : Bool) → has ≡ true → (has && b) ≡ b
      also true b on = refl
      also false b on = absurd (cc on)

      by : (actor ≡ s.actor) ⊎ (actor ≢ s.actor) → (has_line (hand_in mmu u s.actor) ≡ true) ⊎ (has_line (hand_in mmu u s.actor) ≡ false) → Still u s ⊎ Own u s
      by (inr apart) has =
          let same : own_of (effect mmu u s) ≡ own_of u = others_hand u s actor apart in
          inl (record {
            other = of_other (has_line (hand_in mmu u s.actor)) _ apart;
            answers = ap (λ (h : Held). length h.answers) same;
            counted = ap counted_in same;
          })
      by (inl here) (inl has) = inr (record {
        own =
            of_own (has_line (hand_in mmu u s.actor)) (s.actor == actor) _ has (grind (arith, nat_tests))
            ∙ ap (λ i. length (hand_in mmu u i).answers == before) (sym here);
        delays = also (has_line (hand_in mmu u s.actor)) _ has ∙ ap (λ i. hand_delays (hand_in mmu u i) (answered mmu u s.kind)) (sym here);
        counts =
            subst
            (λ i. Counts (bound_of z (hand_in mmu u i)) (hand_delays (hand_in mmu u i) (answered mmu u s.kind)) (hand_in mmu u i)
            (hand_in mmu (effect mmu u s) i))
            (sym here) (step_counts z u s R may has);
      })
      by (inl here) (inr none) =
          let same = part_still z u s R may none in
          inl (record {
            other = of_none (has_line (hand_in mmu u s.actor)) _ none;
            answers =
                ap (λ i. length (hand_in mmu (effect mmu u s) i).answers) here ∙ ap (λ (h : Held). length h.answers) same
                ∙ ap (λ i. length (hand_in mmu u i).answers) (sym here);
            counted = ap (λ i. counted_in (hand_in mmu (effect mmu u s) i)) here ∙ ap counted_in same ∙ ap (λ i. counted_in (hand_in mmu u i)) (sym here);
          })

  -- A line that is answered makes no more steps.
  makes_none : (u : World Held) (ss : List (Step Kind)) → IsReached z u → Legal mmu u ss → before < done_in u → own_steps actor before u ss ≡ 0
  makes_none u [] R legal past = refl
  makes_none u (s ∷ ss) R legal past = by (still_or_own u s R legal.0) (λ more. makes_none (effect mmu u s) ss (reached_more z u s R legal.0) legal.1 more)
    where
      none : is_of actor before u s ≡ false → own_steps actor before (effect mmu u s) ss ≡ 0 → own_steps actor before u (s ∷ ss) ≡ 0
      none no_ rest = let here = one_if_false (is_of actor before u s) no_ in omega (arith, rest, here)

      passed : (done_in u == before) ≡ false
      passed = grind (arith, nat_tests)

      by : Still u s ⊎ Own u s → (before < done_in (effect mmu u s) → own_steps actor before (effect mmu u s) ss ≡ 0) → own_steps actor before u (s ∷ ss) ≡ 0
      by (inl S) ih = let same = S.answers in none S.other (ih (omega (arith, past, same)))
      by (inr O) ih = none (O.own ∙ passed) (ih (at O.counts.behind))
        where
          at : CountsGoing (hand_delays (own_of u) (answered mmu u s.kind)) (own_of u) (own_of (effect mmu u s))
              ⊎ CountsEnding (own_of u) (own_of (effect mmu u s))
              → before < done_in (effect mmu u s)
          at (inl G) = let same = G.answers in omega (arith, past, same)
          at (inr E) = let more = E.answers in omega (arith, past, more)

  -- Where the line comes next, or is under way, its steps, with what its hand has counted, are within the bound of its delays before the
  -- last step; where it comes later, its steps are.
  record Fits (u : World Held) (ss : List (Step Kind)) (s : Step Kind) : Type 0 where
    now : done_in u ≡ before → own_steps actor before u (ss ++ s ∷ []) + counted_in (own_of u) ≤ most * (own_delays actor before u ss + 1)
    later : done_in u < before → own_steps actor before u (ss ++ s ∷ []) ≤ most * (own_delays actor before u ss + 1)

  -- The command of the line allows so many steps.
  abbrev Allows : World Held → Type 0
  Allows u = most_steps z (own_line actor before u).command ≡ most

  -- It allows them after each step, too.
  allows_on : (u : World Held) (s : Step Kind) → actor < actors_of z → IsReached z u → May mmu u s → Allows u → Allows (effect mmu u s)
  allows_on u s there R may allows =
      ap (λ (xs : List Line). most_steps z (unwrap_or (slice_get xs before) no_line).command)
      (run_follows z u (s ∷ []) actor (reached_sound z u R) (may, tt) there).lines
      ∙ allows

  -- Where the line comes next, or is under way, it is the one that the hand's next step is of.
  bound_is : (u : World Held) → actor < actors_of z → IsReached z u → Allows u → done_in u ≡ before → bound_of z (own_of u) ≡ most
  bound_is u there R allows is =
      ap (λ (l : Line). most_steps z l.command) (line_is_next (own_of u).state.place (own_of u) ((reached_sound z u R).holds.lines actor there).under refl)
      ∙ ap (λ n. most_steps z (unwrap_or (slice_get (own_of u).lines n) no_line).command) is ∙ allows

  last_fits : (u : World Held) (s : Step Kind) → IsReached z u → May mmu u s → counted_in (own_of u) ≤ bound_of z (own_of u)
      → (done_in u ≡ before → bound_of z (own_of u) ≡ most) → Fits u [] s
  last_fits u s R may few bound = by (still_or_own u s R may)
    where
      now_ : (one count most : ℕ) → one + count ≤ most → (one + 0) + count ≤ most * (0 + 1)
      now_ one count most fits = omega (arith, fits)

      not_yet : done_in u < before → (done_in u == before) ≡ false
      not_yet below = grind (arith, nat_tests)

      no_more : (one n : ℕ) → one ≡ 0 → one + 0 ≤ n
      no_more one n none = omega (arith, none)

      by : Still u s ⊎ Own u s → Fits u [] s
      by (inl S) =
          let none = one_if_false (is_of actor before u s) S.other in
          record {
            now = λ is. now_ (one_if (is_of actor before u s)) (counted_in (own_of u)) most (let b = bound is in omega (arith, none, few, b));
            later = λ below. no_more (one_if (is_of actor before u s)) _ none;
          }
      by (inr O) =
          let one = one_few (is_of actor before u s) in
          let room = O.counts.room in
          record {
            now = λ is. now_ (one_if (is_of actor before u s)) (counted_in (own_of u)) most (let b = bound is in omega (arith, one, room, b));
            later = λ below. no_more (one_if (is_of actor before u s)) _ (one_if_false (is_of actor before u s) (O.own ∙ not_yet below));
          }

  more_fits : (u : World Held) (x : Step Kind) (ss : List (Step Kind)) (s : Step Kind) → IsReached z u → Legal mmu u (x ∷ (ss ++ s ∷ []))
      → (done_in u ≡ before → bound_of z (own_of u) ≡ most) → Fits (effect mmu u x) ss s → Fits u (x ∷ ss) s
  more_fits u x ss s R legal bound F = by (still_or_own u x R legal.0)
    where
      t : World Held
      t = effect mmu u x

      later_apart : is_of actor before u x ≡ false → own_steps actor before t (ss ++ s ∷ []) ≤ most * (own_delays actor before t ss + 1)
          → own_steps actor before u (x ∷ (ss ++ s ∷ [])) ≤ most * (own_delays actor before u (x ∷ ss) + 1)
      later_apart no_ fits =
          without most (own_steps actor before t (ss ++ s ∷ [])) (own_delays actor before t ss) (one_if (is_of actor before u x))
          (one_if (is_of actor before u x && delays_line u x))
          (one_if_false (is_of actor before u x) no_) fits
        where
          without : (most steps delays one delay : ℕ) → one ≡ 0 → steps ≤ most * (delays + 1) → one + steps ≤ most * ((delay + delays) + 1)
          without most steps delays one delay none fits =
              let a : most * (delays + 1) ≡ most * delays + most = omega arith in
              let b : most * ((delay + delays) + 1) ≡ most * delay + most * delays + most = omega arith in
              omega (arith, none, fits, a, b)

      still : Still u x → Fits u (x ∷ ss) s
      still S = record {
        now =
            λ is. line_stays most (own_steps actor before t (ss ++ s ∷ [])) (own_delays actor before t ss) (one_if (is_of actor before u x))
            (one_if (is_of actor before u x && delays_line u x)) (counted_in (own_of u)) (counted_in (own_of t))
            (one_if_false (is_of actor before u x) S.other) (and_false (is_of actor before u x) (delays_line u x) S.other) S.counted (F.now (S.answers ∙ is));
        later = λ below. later_apart S.other (F.later (let same = S.answers in omega (arith, below, same)));
      }

      own_now : Own u x → done_in u ≡ before
          → own_steps actor before u (x ∷ (ss ++ s ∷ [])) + counted_in (own_of u) ≤ most * (own_delays actor before u (x ∷ ss) + 1)
      own_now O is = at O.counts.behind
        where
          delay : Bool
          delay = hand_delays (own_of u) (answered mmu u x.kind)

          here : is_of actor before u x ≡ true
          here = O.own ∙ (let e : (done_in u == before) ≡ true = grind (arith, nat_tests) in e)

          also : (b c : Bool) → b ≡ true → (b && c) ≡ c
          also true c on = refl
          also false c on = absurd (cc on)

          room : counted_in (own_of u) + 1 ≤ most
          room = subst (λ n. counted_in (own_of u) + 1 ≤ n) (bound is) O.counts.room

          one : one_if (is_of actor before u x) ≡ 1
          one = ap one_if here

          delays_ : one_if (is_of actor before u x && delays_line u x) ≡ one_if delay
          delays_ = ap one_if (also (is_of actor before u x) (delays_line u x) here ∙ O.delays)

          at : CountsGoing delay (own_of u) (own_of t) ⊎ CountsEnding (own_of u) (own_of t)
              → own_steps actor before u (x ∷ (ss ++ s ∷ [])) + counted_in (own_of u) ≤ most * (own_delays actor before u (x ∷ ss) + 1)
          at (inl G) =
              rw (one, delays_)
              (line_goes most (own_steps actor before t (ss ++ s ∷ [])) (own_delays actor before t ss) (one_if delay) (counted_in (own_of u))
              (counted_in (own_of t)) (F.now (G.answers ∙ is)) (going_takes most delay (own_of u) (own_of t) room G))
          at (inr E) =
              let past : before < done_in t = let more = E.answers in omega (arith, is, more) in
              rw one
              (line_ends most (own_steps actor before t (ss ++ s ∷ [])) (own_delays actor before u (x ∷ ss)) (counted_in (own_of u))
              (makes_none t (ss ++ s ∷ []) (reached_more z u x R legal.0) legal.1 past) room)

      own_later : Own u x → done_in u < before → own_steps actor before u (x ∷ (ss ++ s ∷ [])) ≤ most * (own_delays actor before u (x ∷ ss) + 1)
      own_later O below = later_apart (O.own ∙ not_yet) (at O.counts.behind)
        where
          not_yet : (done_in u == before) ≡ false
          not_yet = grind (arith, nat_tests)

          fits_now : done_in t ≡ before → own_steps actor before t (ss ++ s ∷ []) ≤ most * (own_delays actor before t ss + 1)
          fits_now is = less (own_steps actor before t (ss ++ s ∷ [])) (counted_in (own_of t)) (most * (own_delays actor before t ss + 1)) (F.now is)
            where
              less : (a b c : ℕ) → a + b ≤ c → a ≤ c
              less a b c fits = omega (arith, fits)

          next : (done_in t ≡ before) ⊎ (done_in t ≢ before) → done_in t ≤ before
              → own_steps actor before t (ss ++ s ∷ []) ≤ most * (own_delays actor before t ss + 1)
          next (inl is) few = fits_now is
          next (inr ne) few = F.later (omega (arith, ne, few))

          at : CountsGoing (hand_delays (own_of u) (answered mmu u x.kind)) (own_of u) (own_of t) ⊎ CountsEnding (own_of u) (own_of t)
              → own_steps actor before t (ss ++ s ∷ []) ≤ most * (own_delays actor before t ss + 1)
          at (inl G) = next (same_or (done_in t) before) (let same = G.answers in omega (arith, below, same))
          at (inr E) = next (same_or (done_in t) before) (let more = E.answers in omega (arith, below, more))

      by : Still u x ⊎ Own u x → Fits u (x ∷ ss) s
      by (inl S) = still S
      by (inr O) = record { now = own_now O; later = own_later O }

  all_fits : (u : World Held) (ss : List (Step Kind)) (s : Step Kind) → actor < actors_of z → IsReached z u → Legal mmu u (ss ++ s ∷ []) → Allows u
      → Fits u ss s
  all_fits u [] s there R legal allows =
      last_fits u s R legal.0 (own_few z (own_of u).state.place (own_of u) (count_few z u actor R there)) (bound_is u there R allows)
  all_fits u (x ∷ ss) s there R legal allows =
      more_fits u x ss s R legal (bound_is u there R allows)
      (all_fits (effect mmu u x) ss s there (reached_more z u x R legal.0) legal.1 (allows_on u x there R legal.0 allows))

  pub line_fits : (u : World Held) (ss : List (Step Kind)) (s : Step Kind) → actor < actors_of z → IsReached z u → Legal mmu u (ss ++ s ∷ []) → Allows u
      → own_steps actor before u (ss ++ s ∷ []) ≤ most * (own_delays actor before u ss + 1)
  line_fits u ss s there R legal allows = by (cases_order (done_in u) before)
    where
      F : Fits u ss s
      F = all_fits u ss s there R legal allows

      less : (a b c : ℕ) → a + b ≤ c → a ≤ c
      less a b c fits = omega (arith, fits)

      no_steps : (a b : ℕ) → a ≡ 0 → a ≤ b
      no_steps a b none = omega (arith, none)

      by : (done_in u ≡ before) ⊎ ((done_in u < before) ⊎ (before < done_in u))
          → own_steps actor before u (ss ++ s ∷ []) ≤ most * (own_delays actor before u ss + 1)
      by (inl is) = less (own_steps actor before u (ss ++ s ∷ [])) (counted_in (own_of u)) (most * (own_delays actor before u ss + 1)) (F.now is)
      by (inr (inl below)) = F.later below
      by (inr (inr past)) =
          no_steps (own_steps actor before u (ss ++ s ∷ [])) (most * (own_delays actor before u ss + 1)) (makes_none u (ss ++ s ∷ []) R legal past)

pub lines_make_few_steps : LinesMakeFewSteps
lines_make_few_steps z lines w ss ts s R actor before there =
    let parts = legal_parts w ss (ts ++ s ∷ []) R.legal in
    line_fits z actor before (most_steps z (own_line actor before (run mmu w ss)).command) (run mmu w ss) ts s there
    (reached_behind z lines w ss (record { start = R.start; legal = parts.0 })) parts.1 refl
