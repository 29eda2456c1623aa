-- The turns of one item, one turn at a time, as they are printed.
use Rattle.std.proofs.Common.{◌≡◌, ◌⊎◌, inl, inr, ◌+◌, ◌<◌, ◌≤◌, ℕ, List, [], ◌∷◌, ◌++◌, Ok, Err, refl, sym, ap, subst, ◌∙◌, arith}
use Rattle.std.specs.Prelude.{Bool, true, false, ◌||◌}
use Rattle.core_views.specs.declared.kind.Kind.{Kind}
use Rattle.core_views.specs.declared.trace.Until.{Until}
use Rattle.core_views.specs.declared.trace.Until.TheVariants.{Turns, Answered, Made as UntilMade}
use Rattle.core_views.specs.Held.{Held}
use Rattle.mmu_core.specs.machine.Enabled.{Enabled, mmu}
use Rattle.mmu_core.specs.machine.Machine.{Step, World, hand_in, run}
use Rattle.mmu_core.specs.machine.Steps.{has_line}
use Rattle.mmu_core.proofs.machine.Which.{is_next}
use Rattle.tdp_io.specs.declared.sink.Stop.{Stop}
use Rattle.turn_loops.specs.Marks.{Mark, Made}
use Rattle.turn_loops.specs.Turned.{MakesTurn, PrintsRun, PrintsTurn, next_code_in}
use Rattle.turn_loops.specs.Turning.{AreMarked, HasNoLineLeft, IsOpenEnded, RunsBy, RunsBySoFar, ends_item, names_kind, stops as stops_with}
use Rattle.turn_loops.specs.declared.turning.Turned.{Turned}
use Rattle.turn_loops.specs.declared.turning.Turned.TheVariants.{NoLine, Went, Stopped}
use Rattle.turn_loops.proofs.Coming.{Printing, SoFar, nothing_more, one_turn_more, run_ends, run_stopped, run_stopped_at, turn_there}
use Rattle.turn_loops.proofs.TurnLists.{TurnsGoOn, TurnsMade, counted, counted_so_far, goes_on_so_far, last_ends, last_so_far, one_more_goes_on}
use Rattle.turn_loops.proofs.TurnLists.{one_more_made, over_open}

-- the kind of a turn's step is the one that comes next
turn_code : (actor : ℕ) (t u : World Held) (stop : Bool) (bytes : List ℕ) (M : MakesTurn actor t u stop bytes)
    → M.step.kind.code ≡ next_code_in (hand_in mmu t actor)
turn_code actor t u stop bytes M =
    let enabled = subst (λ (a : ℕ). Enabled (hand_in mmu t a) M.step.kind) M.turn.own M.comes.legal.0.enabled in
    ap (λ (x : Kind). x.code) (is_next (hand_in mmu t actor) M.step.kind enabled M.turn.left).is

open_ends : (until : Until) (x : World Held) (s : Step Kind) → IsOpenEnded until
    → ends_item until x s ≡ (names_kind until s.kind.code || stops_with x s)
open_ends (Turns count) x s open_ = absurd open_
open_ends Answered x s open_ = refl
open_ends (UntilMade code) x s open_ = refl

module _ {V : Type 0} (prints : V → List Mark → V → Type 0) (stops : V → List Mark → Stop → V → Type 0) (L : Printing prints stops) where
  -- A turn was made, whether its line stopped with it or not.
  pub record MadeTurn (actor : ℕ) (w t : World Held) (p q : V) : Type 0 where
    pub stop : Bool
    pub bytes : List ℕ
    pub makes : MakesTurn actor w t stop bytes
    pub put : prints p (Made w makes.step ∷ []) q

  went : (actor : ℕ) (w t : World Held) (p q : V) → PrintsTurn prints stops actor w t p q (Ok Went) → MadeTurn actor w t p q
  went actor w t p q (bytes, makes, put) = record { stop = false; bytes = bytes; makes = makes; put = put }

  stopped : (actor : ℕ) (w t : World Held) (p q : V) → PrintsTurn prints stops actor w t p q (Ok Stopped) → MadeTurn actor w t p q
  stopped actor w t p q (bytes, makes, put) = record { stop = true; bytes = bytes; makes = makes; put = put }

  -- A turn of an actor that has a line is one of the two.
  pub made_one : (turned : Turned) (actor : ℕ) (w t : World Held) (p q : V) → (turned ≡ Went) ⊎ (turned ≡ Stopped)
      → PrintsTurn prints stops actor w t p q (Ok turned) → MadeTurn actor w t p q
  made_one turned actor w t p q (inl e) puts =
      went actor w t p q (subst (λ (x : Turned). PrintsTurn prints stops actor w t p q (Ok x)) e puts)
  made_one turned actor w t p q (inr e) puts =
      stopped actor w t p q (subst (λ (x : Turned). PrintsTurn prints stops actor w t p q (Ok x)) e puts)

  no_line_there : (P : World Held → List (Step Kind) → List Mark → Type 0) (actor : ℕ) (w t : World Held) (p q : V)
      (F : SoFar prints P w t p q) → HasNoLineLeft actor t → HasNoLineLeft actor (run mmu w F.steps)
  no_line_there P actor w t p q F none = subst (λ (x : World Held). HasNoLineLeft actor x) (sym F.comes.ends) none

  -- So many turns: one more of them.
  module _ (count actor made : ℕ) (w t u : World Held) (p q r : V) (F : SoFar prints (AreMarked (TurnsMade actor made)) w t p q) where
    pub one_more : MadeTurn actor t u q r → SoFar prints (AreMarked (TurnsMade actor (made + 1))) w u p r
    one_more M =
        one_turn_more prints stops L [] (TurnsMade actor made) w t u p q r F (TurnsMade actor (made + 1)) actor M.stop M.bytes M.makes M.put
        (one_more_made actor made w F.steps M.makes.step F.holds.0
        (turn_there prints stops L [] (TurnsMade actor made) w t u p q r F actor M.stop M.bytes M.makes).0)

    pub count_stops : (stop : Stop) → made < count → PrintsTurn prints stops actor t u q r (Err stop)
        → PrintsRun prints stops (AreMarked (RunsBy (Turns count) actor)) (AreMarked (RunsBySoFar (Turns count) actor)) w u p r (Err stop)
    count_stops stop lt (inl (same, most)) =
        run_stopped prints stops L (AreMarked (TurnsMade actor made)) w t u p q r F (AreMarked (RunsBy (Turns count) actor))
        (AreMarked (RunsBySoFar (Turns count) actor)) stop same most (counted_so_far count actor made w F.steps (omega (arith, lt)) F.holds.0, F.holds.1)
    count_stops stop lt (inr (bytes, line_stops, M, most)) =
        run_stopped_at prints stops L [] (TurnsMade actor made) w t u p q r F (RunsBy (Turns count) actor) (RunsBySoFar (Turns count) actor) stop actor
        line_stops bytes M most
        (counted_so_far count actor (made + 1) w (F.steps ++ M.step ∷ []) (omega (arith, lt))
        (one_more_made actor made w F.steps M.step F.holds.0
        (turn_there prints stops L [] (TurnsMade actor made) w t u p q r F actor line_stops bytes M).0))

    pub count_ends : made ≤ count → (made ≡ count) ⊎ HasNoLineLeft actor t
        → PrintsRun prints stops (AreMarked (RunsBy (Turns count) actor)) (AreMarked (RunsBySoFar (Turns count) actor)) w t p q (Ok tt)
    count_ends le over =
        run_ends prints stops L (AreMarked (TurnsMade actor made)) (AreMarked (RunsBy (Turns count) actor)) (AreMarked (RunsBySoFar (Turns count) actor))
        w t p q F (counted count actor made w F.steps le (by over) F.holds.0, F.holds.1)
      where
        by : (made ≡ count) ⊎ HasNoLineLeft actor t → (made ≡ count) ⊎ HasNoLineLeft actor (run mmu w F.steps)
        by (inl e) = inl e
        by (inr none) = inr (no_line_there (AreMarked (TurnsMade actor made)) actor w t p q F none)

  -- Turns until one ends the item.
  module _ (until : Until) (actor : ℕ) (w t u : World Held) (p q r : V) (open_ : IsOpenEnded until)
      (F : SoFar prints (AreMarked (TurnsGoOn until actor)) w t p q) where
    -- whether the next turn ends the item
    ends_there : (named stop : Bool) (bytes : List ℕ) (M : MakesTurn actor t u stop bytes) → (has_line (hand_in mmu t actor) ≡ true
        → named ≡ names_kind until (next_code_in (hand_in mmu t actor))) → ends_item until (run mmu w F.steps) M.step ≡ (named || stop)
    ends_there named stop bytes M names =
        let there = turn_there prints stops L [] (TurnsGoOn until actor) w t u p q r F actor stop bytes M in
        open_ends until (run mmu w F.steps) M.step open_ ∙ ap (λ (b : Bool). names_kind until M.step.kind.code || b) there.1
        ∙ ap (λ (n : ℕ). names_kind until n || stop) (turn_code actor t u stop bytes M) ∙ ap (λ (b : Bool). b || stop) (sym (names M.turn.left))

    pub goes_further : (named : Bool) → (has_line (hand_in mmu t actor) ≡ true → named ≡ names_kind until (next_code_in (hand_in mmu t actor)))
        → named ≡ false → PrintsTurn prints stops actor t u q r (Ok Went) → SoFar prints (AreMarked (TurnsGoOn until actor)) w u p r
    goes_further named names not_ (bytes, M, put) =
        one_turn_more prints stops L [] (TurnsGoOn until actor) w t u p q r F (TurnsGoOn until actor) actor false bytes M put
        (one_more_goes_on until actor w F.steps M.step F.holds.0
        (turn_there prints stops L [] (TurnsGoOn until actor) w t u p q r F actor false bytes M).0
        (ends_there named false bytes M names ∙ ap (λ (b : Bool). b || false) not_))

    -- the last turn
    ends_with : (named stop : Bool) (bytes : List ℕ) (M : MakesTurn actor t u stop bytes) → (has_line (hand_in mmu t actor) ≡ true
        → named ≡ names_kind until (next_code_in (hand_in mmu t actor))) → (named || stop) ≡ true → prints q (Made t M.step ∷ []) r
        → PrintsRun prints stops (AreMarked (RunsBy until actor)) (AreMarked (RunsBySoFar until actor)) w u p r (Ok tt)
    ends_with named stop bytes M names is put =
        let there = (turn_there prints stops L [] (TurnsGoOn until actor) w t u p q r F actor stop bytes M).0 in
        let all : SoFar prints (AreMarked (RunsBy until actor)) w u p r =
        one_turn_more prints stops L [] (TurnsGoOn until actor) w t u p q r F (RunsBy until actor) actor stop bytes M put
        (record {
          so_far = last_so_far until actor w F.steps M.step open_ F.holds.0 there;
          over =
              over_open until actor w (F.steps ++ M.step ∷ []) open_
              (inl (last_ends until w F.steps M.step (ends_there named stop bytes M names ∙ is)));
        }) in
        run_ends prints stops L (AreMarked (RunsBy until actor)) (AreMarked (RunsBy until actor)) (AreMarked (RunsBySoFar until actor)) w u p r all all.holds

    pub ends_named : (named : Bool) → (has_line (hand_in mmu t actor) ≡ true → named ≡ names_kind until (next_code_in (hand_in mmu t actor)))
        → named ≡ true → PrintsTurn prints stops actor t u q r (Ok Went)
        → PrintsRun prints stops (AreMarked (RunsBy until actor)) (AreMarked (RunsBySoFar until actor)) w u p r (Ok tt)
    ends_named named names is (bytes, M, put) = ends_with named false bytes M names (ap (λ (b : Bool). b || false) is) put

    ends_stopped : (named : Bool) → (has_line (hand_in mmu t actor) ≡ true → named ≡ names_kind until (next_code_in (hand_in mmu t actor)))
        → PrintsTurn prints stops actor t u q r (Ok Stopped)
        → PrintsRun prints stops (AreMarked (RunsBy until actor)) (AreMarked (RunsBySoFar until actor)) w u p r (Ok tt)
    ends_stopped named names (bytes, M, put) = ends_with named true bytes M names (or_true named) put
      where
        or_true : (b : Bool) → (b || true) ≡ true
        or_true true = refl
        or_true false = refl

    ends_lineless : HasNoLineLeft actor t → u ≡ t → prints q [] r
        → PrintsRun prints stops (AreMarked (RunsBy until actor)) (AreMarked (RunsBySoFar until actor)) w u p r (Ok tt)
    ends_lineless none same put =
        let G = nothing_more prints stops L (AreMarked (TurnsGoOn until actor)) w t u p q r F same put in
        run_ends prints stops L (AreMarked (TurnsGoOn until actor)) (AreMarked (RunsBy until actor)) (AreMarked (RunsBySoFar until actor)) w u p r G (
          record {
            so_far = goes_on_so_far until actor w G.steps open_ G.holds.0;
            over =
                over_open until actor w G.steps open_ (inr (no_line_there (AreMarked (TurnsGoOn until actor)) actor w u p r G
                (subst (λ (x : World Held). HasNoLineLeft actor x) (sym same) none)));
          },
          G.holds.1,
        )

    pub until_stops : (stop : Stop) → PrintsTurn prints stops actor t u q r (Err stop)
        → PrintsRun prints stops (AreMarked (RunsBy until actor)) (AreMarked (RunsBySoFar until actor)) w u p r (Err stop)
    until_stops stop (inl (same, most)) =
        run_stopped prints stops L (AreMarked (TurnsGoOn until actor)) w t u p q r F (AreMarked (RunsBy until actor)) (AreMarked (RunsBySoFar until actor))
        stop same most (goes_on_so_far until actor w F.steps open_ F.holds.0, F.holds.1)
    until_stops stop (inr (bytes, line_stops, M, most)) =
        run_stopped_at prints stops L [] (TurnsGoOn until actor) w t u p q r F (RunsBy until actor) (RunsBySoFar until actor) stop actor line_stops bytes
        M most (last_so_far until actor w F.steps M.step open_ F.holds.0
        (turn_there prints stops L [] (TurnsGoOn until actor) w t u p q r F actor line_stops bytes M).0)

    -- no line is left, or the line stops
    pub ends_either : (named : Bool) → (has_line (hand_in mmu t actor) ≡ true → named ≡ names_kind until (next_code_in (hand_in mmu t actor)))
        → (turned : Turned) → (turned ≡ NoLine) ⊎ (turned ≡ Stopped) → PrintsTurn prints stops actor t u q r (Ok turned)
        → PrintsRun prints stops (AreMarked (RunsBy until actor)) (AreMarked (RunsBySoFar until actor)) w u p r (Ok tt)
    ends_either named names turned (inl e) puts =
        let n = subst (λ (x : Turned). PrintsTurn prints stops actor t u q r (Ok x)) e puts in ends_lineless n.0 n.1 n.2
    ends_either named names turned (inr e) puts =
        ends_stopped named names (subst (λ (x : Turned). PrintsTurn prints stops actor t u q r (Ok x)) e puts)
