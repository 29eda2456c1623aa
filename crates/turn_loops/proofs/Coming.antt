-- Steps that were made, and whose marks were printed: one turn more, or more steps.
use Rattle.std.proofs.Common.{◌≡◌, ℕ, List, [], ◌∷◌, ◌++◌, Ok, Err, refl, sym, ap, subst, ◌∙◌}
use Rattle.std.proofs.lemmas.List.{append-nil}
use Rattle.std.specs.Prelude.{Bool}
use Rattle.core_views.specs.declared.kind.Kind.{Kind}
use Rattle.core_views.specs.Held.{Held}
use Rattle.core_views.specs.Text.{text}
use Rattle.core_views.proofs.Texts.{text_append}
use Rattle.mmu_core.specs.machine.Enabled.{mmu}
use Rattle.mmu_core.specs.machine.Machine.{Legal, Step, World, run}
use Rattle.mmu_core.specs.machine.Worlds.{history}
use Rattle.mmu_core.proofs.machine.Extend.{legal-append, run-append}
use Rattle.mmu_core.proofs.machine.LineRuns.{history_append}
use Rattle.tdp_io.specs.declared.sink.Stop.{Stop}
use Rattle.turn_loops.specs.Marks.{Mark, Made, turns_from}
use Rattle.turn_loops.specs.Turned.{ComesTo, MakesTurn, PrintsRun}
use Rattle.turn_loops.specs.Turning.{AreMarkedFrom, IsTurn, stops as stops_with}
use Rattle.turn_loops.proofs.Marks.{marks_append}

pub comes_none : (w : World Held) → ComesTo w [] w []
comes_none w = record { legal = tt; ends = refl; prints = refl }

pub comes_then : (w t u : World Held) (ss ts : List (Step Kind)) (xs ys : List ℕ) → ComesTo w ss t xs → ComesTo t ts u ys → ComesTo w (ss ++ ts) u (xs ++ ys)
comes_then w t u ss ts xs ys C D =
    let legal : Legal mmu (run mmu w ss) ts = subst (λ (x : World Held). Legal mmu x ts) (sym C.ends) D.legal in
    record {
      legal = legal-append mmu w ss ts C.legal legal;
      ends = run-append mmu w ss ts ∙ ap (λ (x : World Held). run mmu x ts) C.ends ∙ D.ends;
      prints =
          ap (λ (x : List ℕ). x ++ ys) C.prints
          ∙ ap (λ (y : List ℕ). text (history w ss) ++ y) (D.prints ∙ ap (λ (x : World Held). text (history x ts)) (sym C.ends))
          ∙ sym (ap text (history_append w ss ts) ∙ text_append (history w ss) (history (run mmu w ss) ts));
    }

-- What is known of any printer.
pub record Printing {V : Type 0} (prints : V → List Mark → V → Type 0) (stops : V → List Mark → Stop → V → Type 0) : Type 0 where
  pub both : (p q r : V) (marks more : List Mark) → prints p marks q → prints q more r → prints p (marks ++ more) r
  pub stopped : (p q r : V) (marks more : List Mark) (stop : Stop) → prints p marks q → stops q more stop r → stops p (marks ++ more) stop r

-- Steps of which this holds lead from one world to the other, and their marks were printed.
pub record SoFar {V : Type 0} (prints : V → List Mark → V → Type 0) (P : World Held → List (Step Kind) → List Mark → Type 0) (w t : World Held)
    (p q : V) : Type 0 where
  pub steps : List (Step Kind)
  pub bytes : List ℕ
  pub marks : List Mark
  pub holds : P w steps marks
  pub comes : ComesTo w steps t bytes
  pub put : prints p marks q

-- No step was made yet.
pub so_far_none : {V : Type 0} (prints : V → List Mark → V → Type 0) (P : World Held → List (Step Kind) → List Mark → Type 0) (w : World Held) (p q : V)
    (marks : List Mark) → P w [] marks → prints p marks q → SoFar prints P w w p q
so_far_none prints P w p q marks holds put = record { steps = []; bytes = []; marks = marks; holds = holds; comes = comes_none w; put = put }

module _ {V : Type 0} (prints : V → List Mark → V → Type 0) (stops : V → List Mark → Stop → V → Type 0) (L : Printing prints stops) where
  module _ (P : World Held → List (Step Kind) → List Mark → Type 0) (w t u : World Held) (p q r : V) (F : SoFar prints P w t p q) where
    -- Steps more, of which the same or another thing holds with those before.
    pub so_far_then : (Q : World Held → List (Step Kind) → List Mark → Type 0) (ts : List (Step Kind)) (bytes : List ℕ) (marks : List Mark)
        → ComesTo t ts u bytes → prints q marks r → Q w (F.steps ++ ts) (F.marks ++ marks) → SoFar prints Q w u p r
    so_far_then Q ts bytes marks comes put holds = record {
      steps = F.steps ++ ts;
      bytes = F.bytes ++ bytes;
      marks = F.marks ++ marks;
      holds = holds;
      comes = comes_then w t u F.steps ts F.bytes bytes F.comes comes;
      put = L.both p q r F.marks marks F.put put;
    }

    -- Nothing more was done.
    pub nothing_more : u ≡ t → prints q [] r → SoFar prints P w u p r
    nothing_more same put = record {
      steps = F.steps;
      bytes = F.bytes;
      marks = F.marks;
      holds = F.holds;
      comes = subst (λ (x : World Held). ComesTo w F.steps x F.bytes) (sym same) F.comes;
      put = subst (λ (ms : List Mark). prints p ms r) (append-nil F.marks) (L.both p q r F.marks [] F.put put);
    }

    -- It stopped with no step more.
    pub run_stopped : (Q R : World Held → List (Step Kind) → List Mark → Type 0) (stop : Stop) → u ≡ t → stops q [] stop r → R w F.steps F.marks
        → PrintsRun prints stops Q R w u p r (Err stop)
    run_stopped Q R stop same most holds = (
      F.steps,
      F.bytes,
      F.marks,
      holds,
      subst (λ (x : World Held). ComesTo w F.steps x F.bytes) (sym same) F.comes,
      subst (λ (ms : List Mark). stops p ms stop r) (append-nil F.marks) (L.stopped p q r F.marks [] stop F.put most),
    )

    -- It stopped after steps more.
    pub run_stopped_after : (Q R : World Held → List (Step Kind) → List Mark → Type 0) (stop : Stop) (ts : List (Step Kind)) (bytes : List ℕ)
        (marks : List Mark) → ComesTo t ts u bytes → stops q marks stop r → R w (F.steps ++ ts) (F.marks ++ marks)
        → PrintsRun prints stops Q R w u p r (Err stop)
    run_stopped_after Q R stop ts bytes marks comes most holds = (
      F.steps ++ ts,
      F.bytes ++ bytes,
      F.marks ++ marks,
      holds,
      comes_then w t u F.steps ts F.bytes bytes F.comes comes,
      L.stopped p q r F.marks marks stop F.put most,
    )

  -- All of it was printed.
  pub run_ends : (P Q R : World Held → List (Step Kind) → List Mark → Type 0) (w t : World Held) (p q : V) (F : SoFar prints P w t p q)
      → Q w F.steps F.marks → PrintsRun prints stops Q R w t p q (Ok tt)
  run_ends P Q R w t p q F holds = (F.steps, F.bytes, F.marks, holds, F.comes, F.put)

  -- One turn more, after some first marks and turns.
  module _ (front : List Mark) (P : World Held → List (Step Kind) → Type 0) (w t u : World Held) (p q r : V)
      (F : SoFar prints (AreMarkedFrom front P) w t p q) where
    -- what the turn is in the world that the steps before led to
    pub turn_there : (actor : ℕ) (stop : Bool) (bytes : List ℕ) (M : MakesTurn actor t u stop bytes)
        → IsTurn actor (run mmu w F.steps) M.step × (stops_with (run mmu w F.steps) M.step ≡ stop)
    turn_there actor stop bytes M =
        subst (λ (x : World Held). IsTurn actor x M.step × (stops_with x M.step ≡ stop)) (sym F.comes.ends) (M.turn, M.stops_)

    marks_then : (s : Step Kind) → F.marks ++ Made t s ∷ [] ≡ front ++ turns_from w (F.steps ++ s ∷ [])
    marks_then s = marks_append front F.marks (Made t s ∷ []) w t F.steps (s ∷ []) F.holds.1 F.comes.ends refl

    pub one_turn_more : (Q : World Held → List (Step Kind) → Type 0) (actor : ℕ) (stop : Bool) (bytes : List ℕ) (M : MakesTurn actor t u stop bytes)
        → prints q (Made t M.step ∷ []) r → Q w (F.steps ++ M.step ∷ []) → SoFar prints (AreMarkedFrom front Q) w u p r
    one_turn_more Q actor stop bytes M put holds =
        so_far_then (AreMarkedFrom front P) w t u p q r F (AreMarkedFrom front Q) (M.step ∷ []) bytes (Made t M.step ∷ []) M.comes put
        (holds, marks_then M.step)

    -- It stopped at it.
    pub run_stopped_at : (Q R : World Held → List (Step Kind) → Type 0) (stop : Stop) (actor : ℕ) (line_stops : Bool) (bytes : List ℕ)
        (M : MakesTurn actor t u line_stops bytes) → stops q (Made t M.step ∷ []) stop r → R w (F.steps ++ M.step ∷ [])
        → PrintsRun prints stops (AreMarkedFrom front Q) (AreMarkedFrom front R) w u p r (Err stop)
    run_stopped_at Q R stop actor line_stops bytes M most holds =
        run_stopped_after (AreMarkedFrom front P) w t u p q r F (AreMarkedFrom front Q) (AreMarkedFrom front R) stop (M.step ∷ []) bytes
        (Made t M.step ∷ []) M.comes most (holds, marks_then M.step)
