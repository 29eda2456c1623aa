-- Turns in rounds: the first actor from a place on that has a line left, and how many were passed.
use Rattle.std.proofs.Common.{◌≡◌, ◌⊎◌, inl, inr, ◌<◌, ◌≤◌, ◌+◌, ◌-◌, ℕ, suc, List, [], ◌∷◌, Ok, Err, length, length-append, refl, sym, ap, subst, ◌∙◌, arith}
use Rattle.std.proofs.lemmas.Bool.Decides.{nat_tests}
use Rattle.std.specs.Prelude.{Bool, true, false, nat_lt, if◌then◌else◌}
use Rattle.core_views.specs.declared.kind.Kind.{Kind}
use Rattle.core_views.specs.declared.sizes.Sizes.{Sizes}
use Rattle.core_views.specs.Held.{Held}
use Rattle.core_views.specs.Sizes.{actors_of}
use Rattle.mmu_core.specs.machine.Enabled.{mmu}
use Rattle.mmu_core.specs.machine.Machine.{Step, World, run}
use Rattle.tdp_io.specs.declared.sink.Stop.{Stop}
use Rattle.turn_loops.specs.Marks.{Mark, Rounds}
use Rattle.turn_loops.specs.Turned.{MakesTurn, PrintsRun, PrintsTurn}
use Rattle.turn_loops.specs.Rounds.{AllAnswered, IsNextInRound, IsNextPlace, RunsRounds, place_behind}
use Rattle.turn_loops.specs.Turning.{AreMarkedAfter, HasLineLeft, HasNoLineLeft}
use Rattle.turn_loops.specs.Weaves.{RunsAllRounds, RunsSomeRounds}
use Rattle.turn_loops.proofs.Coming.{Printing, SoFar, nothing_more, one_turn_more, run_ends, run_stopped, run_stopped_at, turn_there}
use Rattle.turn_loops.proofs.ItemTurns.{MadeTurn}
use Rattle.turn_loops.proofs.TurnLists.{rounds_more}

-- Turns were made in rounds, so many; after the last one so many actors had no line left, and the actor at this place is next.
pub record InRounds (z : Sizes) (index passed made : ℕ) (w : World Held) (ss : List (Step Kind)) : Type 0 where
  pub first : ℕ
  pub rounds : RunsRounds z 0 first w ss
  pub first_within : first ≤ actors_of z
  pub at : passed < actors_of z → index ≡ place_behind (actors_of z) first passed
  pub none_left : (i : ℕ) → i < passed → HasNoLineLeft (place_behind (actors_of z) first i) (run mmu w ss)
  pub count : length ss ≡ made

less : (a b : ℕ) → a < b → nat_lt a b ≡ true
less a b lt = grind (arith, nat_tests)

not_less : (a b : ℕ) → b ≤ a → nat_lt a b ≡ false
not_less a b le = grind (arith, nat_tests)

place_of : (count first far : ℕ) → first + far < count → place_behind count first far ≡ first + far
place_of count first far lt = rw (less (first + far) count lt) refl

place_round : (count first far : ℕ) → count ≤ first + far → place_behind count first far ≡ first + far - count
place_round count first far le = rw (not_less (first + far) count le) refl

-- a place among so many
pub place_within : (count first far : ℕ) → first ≤ count → far < count → place_behind count first far < count
place_within count first far within lt = by (nat_lt (first + far) count) refl
  where
    by : (b : Bool) → nat_lt (first + far) count ≡ b → (if b then first + far else first + far - count) < count
    by true e = grind (arith, nat_tests)
    by false e = grind (arith, nat_tests)

next_place : (count first passed index next : ℕ) → first ≤ count → passed + 1 < count → index ≡ place_behind count first passed
    → IsNextPlace count index next → next ≡ place_behind count first (passed + 1)
next_place count first passed index next within lt at step = by (nat_lt (first + passed) count) refl step
  where
    by : (b : Bool) → nat_lt (first + passed) count ≡ b → IsNextPlace count index next → next ≡ place_behind count first (passed + 1)
    by true e (inl (last, zero_)) =
        let here : first + passed < count = grind (arith, nat_tests) in
        let i : index ≡ first + passed = at ∙ place_of count first passed here in
        let there = place_round count first (passed + 1) (omega (arith, i, last)) in
        omega (arith, there, zero_, i, last)
    by true e (inr (more, one)) =
        let here : first + passed < count = grind (arith, nat_tests) in
        let i : index ≡ first + passed = at ∙ place_of count first passed here in
        let there = place_of count first (passed + 1) (omega (arith, i, more)) in
        omega (arith, there, one, i)
    by false e (inl (last, zero_)) =
        let here : count ≤ first + passed = grind (arith, nat_tests) in
        let i : index ≡ first + passed - count = at ∙ place_round count first passed here in
        absurd (omega (arith, i, last, here, within, lt))
    by false e (inr (more, one)) =
        let here : count ≤ first + passed = grind (arith, nat_tests) in
        let i : index ≡ first + passed - count = at ∙ place_round count first passed here in
        let there = place_round count first (passed + 1) (omega (arith, here)) in
        omega (arith, there, one, i, here)

-- after a turn the next round place is the one after it
fresh_place : (count index next : ℕ) → index < count → IsNextPlace count index next → next ≡ place_behind count (suc index) 0
fresh_place count index next lt (inl (last, zero_)) = let there = place_round count (suc index) 0 (omega (arith, last)) in omega (arith, there, zero_, last)
fresh_place count index next lt (inr (more, one)) = let there = place_of count (suc index) 0 (omega (arith, more)) in omega (arith, there, one)

pub none_made : (z : Sizes) (w : World Held) → InRounds z 0 0 0 w []
none_made z w = record {
  first = 0;
  rounds = refl;
  first_within = omega arith;
  at = λ lt. sym (place_of (actors_of z) 0 0 lt);
  none_left = λ i lt. absurd (omega (arith, lt));
  count = refl;
}

-- the turns in rounds after the mark that says that they begin
abbrev pub RoundsSoFar : {V : Type 0} → (V → List Mark → V → Type 0) → Sizes → ℕ → ℕ → ℕ → World Held → World Held → V → V → Type 0
RoundsSoFar prints z index passed made = SoFar prints (AreMarkedAfter Rounds (InRounds z index passed made))

module _ {V : Type 0} (prints : V → List Mark → V → Type 0) (stops : V → List Mark → Stop → V → Type 0) (L : Printing prints stops) (z : Sizes)
    (index passed made next : ℕ) (w t u : World Held) (p q r : V) (F : RoundsSoFar prints z index passed made w t p q) (some : passed < actors_of z) where
  pub index_within : index < actors_of z
  index_within = subst (λ (n : ℕ). n < actors_of z) (sym (F.holds.0.at some)) (place_within (actors_of z) F.holds.0.first passed F.holds.0.first_within some)

  -- One actor more has no line left.
  pub passes : IsNextPlace (actors_of z) index next → HasNoLineLeft index t → u ≡ t → prints q [] r → RoundsSoFar prints z next (passed + 1) made w u p r
  passes step none same put =
      let G : RoundsSoFar prints z index passed made w u p r =
      nothing_more prints stops L (AreMarkedAfter Rounds (InRounds z index passed made)) w t u p q r F same put in
      let H = G.holds.0 in
      record {
        steps = G.steps;
        bytes = G.bytes;
        marks = G.marks;
        holds = (
          record {
            first = H.first;
            rounds = H.rounds;
            first_within = H.first_within;
            at = λ lt. next_place (actors_of z) H.first passed index next H.first_within lt (H.at some) step;
            none_left = λ i lt. none_there G i lt;
            count = H.count;
          },
          G.holds.1,
        );
        comes = G.comes;
        put = G.put;
      }
    where
      none_there : (G : RoundsSoFar prints z index passed made w u p r) (i : ℕ) → i < passed + 1
          → HasNoLineLeft (place_behind (actors_of z) G.holds.0.first i) (run mmu w G.steps)
      none_there G i lt = by (nat_lt i passed) refl
        where
          by : (b : Bool) → nat_lt i passed ≡ b → HasNoLineLeft (place_behind (actors_of z) G.holds.0.first i) (run mmu w G.steps)
          by true e = G.holds.0.none_left i (grind (arith, nat_tests))
          by false e =
              let is : passed ≡ i = grind (arith, nat_tests) in
              subst (λ (n : ℕ). HasNoLineLeft (place_behind (actors_of z) G.holds.0.first n) (run mmu w G.steps)) is
              (subst (λ (n : ℕ). HasNoLineLeft n (run mmu w G.steps)) (G.holds.0.at some)
              (subst (λ (x : World Held). HasNoLineLeft index x) (sym (G.comes.ends ∙ same)) none))

  -- its turn, in the round
  in_round : (stop : Bool) (bytes : List ℕ) (M : MakesTurn index t u stop bytes) → IsNextInRound z F.holds.0.first (run mmu w F.steps) M.step
  in_round stop bytes M =
      let there = (turn_there prints stops L (Rounds ∷ []) (InRounds z index passed made) w t u p q r F index stop bytes M).0 in
      record {
        far = passed;
        within = some;
        is = there.own ∙ F.holds.0.at some;
        left = subst (λ (a : ℕ). HasLineLeft a (run mmu w F.steps)) (sym there.own) there.left;
        passed = F.holds.0.none_left;
      }

  -- One turn more.
  pub turns : IsNextPlace (actors_of z) index next → MadeTurn prints stops L index t u q r → RoundsSoFar prints z next 0 (made + 1) w u p r
  turns step M =
      one_turn_more prints stops L (Rounds ∷ []) (InRounds z index passed made) w t u p q r F (InRounds z next 0 (made + 1)) index M.stop M.bytes M.makes
      M.put
      (record {
        first = suc M.makes.step.actor;
        rounds = rounds_more z 0 F.holds.0.first w F.steps M.makes.step F.holds.0.rounds (in_round M.stop M.bytes M.makes);
        first_within = let own = M.makes.turn.own in let lt = index_within in omega (arith, own, lt);
        at =
            λ lt. subst (λ (a : ℕ). next ≡ place_behind (actors_of z) (suc a) 0) (sym M.makes.turn.own)
            (fresh_place (actors_of z) index next index_within step);
        none_left = λ i lt. absurd (omega (arith, lt));
        count = length-append F.steps (M.makes.step ∷ []) ∙ ap (λ (n : ℕ). n + 1) F.holds.0.count;
      })

  pub rounds_stop : (limit : ℕ) (stop : Stop) → made < limit → PrintsTurn prints stops index t u q r (Err stop)
      → PrintsRun prints stops (AreMarkedAfter Rounds (RunsAllRounds z limit)) (AreMarkedAfter Rounds (RunsSomeRounds z limit)) w u p r (Err stop)
  rounds_stop limit stop lt (inl (same, most)) =
      run_stopped prints stops L (AreMarkedAfter Rounds (InRounds z index passed made)) w t u p q r F (AreMarkedAfter Rounds (RunsAllRounds z limit))
      (AreMarkedAfter Rounds (RunsSomeRounds z limit)) stop same most
      (record { next = F.holds.0.first; rounds = F.holds.0.rounds; few = let c = F.holds.0.count in omega (arith, c, lt) }, F.holds.1)
  rounds_stop limit stop lt (inr (bytes, line_stops, M, most)) =
      run_stopped_at prints stops L (Rounds ∷ []) (InRounds z index passed made) w t u p q r F (RunsAllRounds z limit) (RunsSomeRounds z limit) stop index
      line_stops bytes M most
      (record {
        next = suc M.step.actor;
        rounds = rounds_more z 0 F.holds.0.first w F.steps M.step F.holds.0.rounds (in_round line_stops bytes M);
        few = let c = F.holds.0.count in let n = length-append F.steps (M.step ∷ []) in omega (arith, c, n, lt);
      })

-- The rounds are over: all turns are made, or each actor was passed.
pub rounds_over : {V : Type 0} (prints : V → List Mark → V → Type 0) (stops : V → List Mark → Stop → V → Type 0) → Printing prints stops → (z : Sizes)
    (limit index passed made : ℕ) (w t : World Held) (p q : V) → RoundsSoFar prints z index passed made w t p q → made ≤ limit
    → (passed < actors_of z → made < limit → ⊥)
    → PrintsRun prints stops (AreMarkedAfter Rounds (RunsAllRounds z limit)) (AreMarkedAfter Rounds (RunsSomeRounds z limit)) w t p q (Ok tt)
rounds_over prints stops L z limit index passed made w t p q F few over =
    run_ends prints stops L (AreMarkedAfter Rounds (InRounds z index passed made)) (AreMarkedAfter Rounds (RunsAllRounds z limit))
    (AreMarkedAfter Rounds (RunsSomeRounds z limit)) w t p q F (
      record {
        some = record { next = H.first; rounds = H.rounds; few = let c = H.count in omega (arith, c, few) };
        over = by (nat_lt made limit) (nat_lt passed (actors_of z)) refl refl;
      },
      F.holds.1,
    )
  where
    H : InRounds z index passed made w F.steps
    H = F.holds.0

    -- which of those passed an actor is
    which : (i : ℕ) → i < actors_of z → actors_of z ≤ passed → HasNoLineLeft i (run mmu w F.steps)
    which i lt all = by (nat_lt i H.first) refl
      where
        by : (b : Bool) → nat_lt i H.first ≡ b → HasNoLineLeft i (run mmu w F.steps)
        by true e =
            let before_ : i < H.first = grind (arith, nat_tests) in
            let within = H.first_within in
            let far : ℕ = i + actors_of z - H.first in
            let is : place_behind (actors_of z) H.first far ≡ i =
            let r = place_round (actors_of z) H.first far (omega (arith, before_, within)) in omega (arith, r, before_, within) in
            subst (λ (n : ℕ). HasNoLineLeft n (run mmu w F.steps)) is (H.none_left far (omega (arith, before_, within, all)))
        by false e =
            let behind : H.first ≤ i = grind (arith, nat_tests) in
            let is : place_behind (actors_of z) H.first (i - H.first) ≡ i =
            let r = place_of (actors_of z) H.first (i - H.first) (omega (arith, behind, lt)) in omega (arith, r, behind) in
            subst (λ (n : ℕ). HasNoLineLeft n (run mmu w F.steps)) is (H.none_left (i - H.first) (omega (arith, behind, lt, all)))

    by : (m p : Bool) → nat_lt made limit ≡ m → nat_lt passed (actors_of z) ≡ p → (length F.steps ≡ limit) ⊎ AllAnswered z (run mmu w F.steps)
    by false p e f = inl (let c = H.count in let ge : limit ≤ made = grind (arith, nat_tests) in omega (arith, c, ge, few))
    by true true e f = absurd (over (grind (arith, nat_tests)) (grind (arith, nat_tests)))
    by true false e f = inr (λ i lt. which i lt (grind (arith, nat_tests)))
