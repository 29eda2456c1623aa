-- Runs of a machine, one step at a time.
use Rattle.std.proofs.Common.{◌≡◌, ◌≢◌, ℕ, zero, suc, ◌<◌, List, [], ◌∷◌, ◌++◌, length, get_or, set, sym, refl, ap, ◌∙◌, subst, arith}
use mathlib.Core.Option.{some, some-injective, some-ne-none}
use mathlib.Core.List.{append_assoc, append-nil}
use lib.ListN.{get_elem?}
use Rattle.atomic_table.proofs.Lists.{set_else, set_here}
use Rattle.mmu_core.specs.machine.Machine.{Core, Leads, Legal, May, Step, World, answered, effect, hand_in, run}
use Rattle.mmu_core.proofs.machine.Extend.{as_many_hands, as_many_words, goes_on, leads_to_end, legal-append, run-append}
use Rattle.table_seats.specs.Rule.{Reached, step_of, at_past, stepped, world}
use Rattle.table_seats.proofs.HandLists.{at_below}

module _ {A : Type 0} where
  -- an element, read with something that stands where there is none
  pub at_or : (l : List A) (i : ℕ) (a d : A) → get_elem? l i ≡ some a → get_or l i d ≡ a
  at_or [] i a d e = absurd (some-ne-none a (sym e))
  at_or (x ∷ xs) zero a d e = some-injective x a e
  at_or (x ∷ xs) (suc i) a d e = at_or xs i a d e

  pub or_at : (l : List A) (i : ℕ) (d : A) → i < length l → get_elem? l i ≡ some (get_or l i d)
  or_at [] i d lt = absurd (omega arith)
  or_at (x ∷ xs) zero d lt = refl
  or_at (x ∷ xs) (suc i) d lt = or_at xs i d (omega arith)

module _ {H K : Type 0} (C : Core H K) where
  pub run-snoc : (w : World H) (ss : List (Step K)) (s : Step K) → run C w (ss ++ s ∷ []) ≡ effect C (run C w ss) s
  run-snoc w ss s = run-append C w ss (s ∷ [])

  pub legal-snoc : (w : World H) (ss : List (Step K)) (s : Step K) → Legal C w ss → May C (run C w ss) s → Legal C w (ss ++ s ∷ [])
  legal-snoc w ss s legal may = legal-append C w ss (s ∷ []) legal (may, tt)

  -- a step on words and hands
  pub effect-is : (ws : List ℕ) (hs : List H) (a : ℕ) (h : H) (k : K) → get_elem? hs a ≡ some h
      → effect C (world ws hs) (step_of a k)
      ≡ world (set ws (C.word k) (C.after k (get_or ws (C.word k) 0))) (set hs a (C.next h k (C.answer k (get_or ws (C.word k) 0))))
  unfolding effect
  effect-is ws hs a h k e =
      ap (λ (x : H). world (set ws (C.word k) (C.after k (get_or ws (C.word k) 0))) (set hs a (C.next x k (C.answer k (get_or ws (C.word k) 0)))))
      (at_or hs a h C.nobody e)

  -- the actor's hand after its step
  pub own_after : (w : World H) (a : ℕ) (h : H) (k : K) (n : ℕ) → get_elem? w.hands a ≡ some h → answered C w k ≡ n
      → get_elem? (effect C w (step_of a k)).hands a ≡ some (C.next h k n)
  unfolding effect
  own_after w a h k n has is =
      set_here w.hands a _ (at_below w.hands a h has) ∙ ap some ((λ i. C.next (at_or w.hands a h C.nobody has i) k (answered C w k)) ∙ ap (C.next h k) is)

  -- another one
  pub other_after : (w : World H) (a b : ℕ) (k : K) → b ≢ a → get_elem? (effect C w (step_of a k)).hands b ≡ get_elem? w.hands b
  unfolding effect
  other_after w a b k ne = set_else w.hands a b _ ne

  -- the hand that an actor has there
  pub has_is : (w : World H) (a : ℕ) (h : H) → get_elem? w.hands a ≡ some h → hand_in C w a ≡ h
  has_is w a h has = at_or w.hands a h C.nobody has

  pub may_of : (w : World H) (a : ℕ) (h : H) (k : K) → get_elem? w.hands a ≡ some h → C.Enabled h k → C.word k < length w.words → May C w (step_of a k)
  may_of w a h k has enabled inside =
      record { there = at_below w.hands a h has; enabled = subst (λ (x : H). C.Enabled x k) (sym (has_is w a h has)) enabled; inside = inside }

  -- Steps lead to each world that is reached.
  pub leads_of : {start : World H} {past : List (Step K)} {w : World H} → Reached C start past w → Leads C start w
  leads_of {start} {past} (at_past l) = leads_to_end C start past l
  leads_of {start} (stepped {w} s r m) = goes_on C start w s (leads_of r) m

  pub reached-words : {start : World H} {past : List (Step K)} {w : World H} → Reached C start past w → length w.words ≡ length start.words
  reached-words {start} {past} {w} r = as_many_words C start w (leads_of r)

  pub reached-hands : {start : World H} {past : List (Step K)} {w : World H} → Reached C start past w → length w.hands ≡ length start.hands
  reached-hands {start} {past} {w} r = as_many_hands C start w (leads_of r)

  -- the steps that lead to a world that is reached, after those of `past`
  pub steps_of : {start : World H} {past : List (Step K)} {w : World H} → Reached C start past w
      → (more : List (Step K)) × Legal C start (past ++ more) × (run C start (past ++ more) ≡ w)
  steps_of {start} {past} (at_past l) = ([], subst (Legal C start) (sym (append-nil past)) l, ap (run C start) (append-nil past))
  steps_of {start} {past} (stepped {w} s r m) =
      let t = steps_of r in
      let m' : May C (run C start (past ++ t.0)) s = subst (λ (z : World H). May C z s) (sym t.2) m in (
        t.0 ++ s ∷ [],
        subst (Legal C start) (append_assoc past t.0 (s ∷ [])) (legal-snoc start (past ++ t.0) s t.1 m'),
        ap (run C start) (sym (append_assoc past t.0 (s ∷ []))) ∙ (run-snoc start (past ++ t.0) s ∙ ap (λ (z : World H). effect C z s) t.2),
      )
