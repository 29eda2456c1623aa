-- What a view tells of its hands, after each move of the table.
use Rattle.std.proofs.Common.{◌≡◌, ℕ, List, [], ◌∷◌, ◌++◌, set, sym, refl, ap, ◌∙◌, ⊎_elim, subst, Option, Some}
use Rattle.std.specs.Prelude.{Bool, true, false, if◌then◌else◌}
use mathlib.Core.Option.{some}
use lib.ListN.{get_elem?}
use Rattle.mmu_core.specs.machine.Machine.{Core, Legal, May, Step, World, effect, run}
use Rattle.mmu_core.proofs.machine.Extend.{goes_on, stays}
use Rattle.table_seats.specs.Rule.{Acted, Holds, Sits, Stands, View, step_of, joined, first_view, with_only, without}
use Rattle.table_seats.proofs.HandLists.{all_held, cut_held, only_held, overlay_held, put_held}
use Rattle.table_seats.proofs.Runs.{legal-snoc, other_after, own_after, run-snoc}

module _ {H K : Type 0} (C : Core H K) where
  pub sits_first : (start : World H) → Sits C (first_view start)
  sits_first start = record {
    legal = λ al. tt;
    told = λ al a h has. all_held start.hands a h has;
    each = λ a h has. (start, stays C start, all_held start.hands a h has);
  }

  module _ (a : ℕ) (h : H) (k : K) (v : View H K) (n : ℕ) (w : View H K) (acted : Acted C a h k v n w) (has : Holds v.held a h) (sits : Sits C v) where
    abbrev held' : List (Option H)
    held' = set v.held a (Some (C.next h k n))

    abbrev past' : List (Step K)
    past' = v.past ++ step_of a k ∷ []

    abbrev after : World H
    after = effect C acted.at (step_of a k)

    -- the world of the steps so far, before the first split
    told_world : v.alone ≡ true → run C v.start past' ≡ after
    told_world al = run-snoc C v.start v.past (step_of a k) ∙ ap (λ (x : World H). effect C x (step_of a k)) (sym (acted.told al))

    told_legal : v.alone ≡ true → Legal C v.start past'
    told_legal al = legal-snoc C v.start v.past (step_of a k) (sits.legal al) (subst (λ (x : World H). May C x (step_of a k)) (acted.told al) acted.may)

    told_each : v.alone ≡ true → (b : ℕ) (g : H) → Holds held' b g → get_elem? (run C v.start past').hands b ≡ some g
    told_each al b g hold =
        ap (λ (x : World H). get_elem? x.hands b) (told_world al) ∙ ⊎_elim
        (λ t. (ap (λ c. get_elem? after.hands c) t.0 ∙ own_after C acted.at a h k n acted.has acted.answers) ∙ ap some t.1)
        (λ t. other_after C acted.at a b k t.0 ∙ (ap (λ (x : World H). get_elem? x.hands b) (acted.told al) ∙ sits.told al b g t.1))
        (put_held v.held a b (C.next h k n) g hold)

    stands_each : (b : ℕ) (g : H) → Holds held' b g → Stands C v.start b g
    stands_each b g hold = ⊎_elim
        (λ t. (
          after,
          goes_on C v.start acted.at (step_of a k) acted.leads acted.may,
          (ap (λ c. get_elem? after.hands c) t.0 ∙ own_after C acted.at a h k n acted.has acted.answers) ∙ ap some t.1,
        ))
        (λ t. sits.each b g t.1)
        (put_held v.held a b (C.next h k n) g hold)

    by_alone : (b : Bool) → v.alone ≡ b
        → Sits C (record { live = v.live; alone = b; start = v.start; past = if b then past' else v.past; held = held' })
    by_alone true is = record { legal = λ al. told_legal is; told = λ al. told_each is; each = stands_each }
    by_alone false is = record { legal = λ al. cc; told = λ al. cc; each = stands_each }

    pub sits_after : Sits C w
    sits_after = subst (Sits C) (sym acted.view) (by_alone v.alone refl)

  pub sits_without : (v : View H K) (a : ℕ) → Sits C v → Sits C (without a v)
  sits_without v a sits = record {
    legal = λ al. cc;
    told = λ al. cc;
    each = λ b g hold. sits.each b g (cut_held v.held a b g hold).1;
  }

  pub sits_only : (v : View H K) (a : ℕ) → Sits C v → Sits C (with_only a v)
  sits_only v a sits = record {
    legal = λ al. cc;
    told = λ al. cc;
    each = λ b g hold. let o = only_held v.held a b g hold in subst (λ c. Stands C v.start c g) (sym o.0) (sits.each a g o.1);
  }

  pub sits_joined : (v w : View H K) → w.start ≡ v.start → Sits C v → Sits C w → Sits C (joined v w)
  sits_joined v w same sits other = record {
    legal = λ al. cc;
    told = λ al. cc;
    each = λ b g hold. ⊎_elim (sits.each b g) (λ t. subst (λ (x : World H). Stands C x b g) same (other.each b g t)) (overlay_held v.held w.held b g hold);
  }
