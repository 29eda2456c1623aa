-- A pass with one hand, before and after its worker has run.
use Rattle.std.proofs.Common.{◌≡◌, ◌<◌, ◌+◌, ◌++◌, ◌∷◌, ◌∙◌, []}
use Rattle.std.proofs.Common.{ℕ, List, None, Option, Some, Err, Ok, Result, ap, arith, get_or, length, length-append, set, subst, sym}
use Rattle.std.specs.Prelude.{Bool, OnOk, false, is_err}
use Rattle.std.proofs.Math.ListN.{get_or-append}
use Rattle.std.proofs.Math.Seq.{get_or-append_seam}
use mathlib.Core.Logic.{dite}
use native.Mathlib.Decide.{ℕ_discrete}
use Rattle.atomic_table.proofs.Lists.{set_else}
use Rattle.core_views.specs.declared.kind.Kind.{Kind}
use Rattle.core_views.specs.Held.{Handful}
use Rattle.mmu_core.specs.machine.Machine.{Step}
use Rattle.mmu_core.specs.machine.Steps.{has_line}
use Rattle.table_seats.specs.Boards.{Around, BoardView, Fits, around}
use Rattle.table_seats.specs.Passes.{Keeps, PassView, hand_at, steps_before_split}
use Rattle.table_seats.specs.Rule.{Holds, only}
use Rattle.table_seats.proofs.HandLists.{cut_held, only_held, only_here}
use Rattle.table_seats.proofs.Places.{keeps_held, kept}
use Rattle.live_workers.specs.Posts.{AllPosted, AnyHand, HasRun, IsPosted, Post}

-- What holds of each of these, and of one more.
pub one_more : {A : Type 0} (P : ℕ → A → Type 0) (xs : List A) (x : A) → ((i : ℕ) (d : A) → i < length xs → P i (get_or xs i d)) → P (length xs) x
    → (i : ℕ) (d : A) → i < length (xs ++ x ∷ []) → P i (get_or (xs ++ x ∷ []) i d)
one_more {A} P xs x all one i d lt =
    let n : length (xs ++ x ∷ []) ≡ length xs + 1 = length-append xs (x ∷ []) in
    dite (ℕ_discrete i (length xs))
    (λ e. subst (λ (z : ℕ × A). P z.0 z.1)
    (λ k. (sym e k, sym (ap (λ (j : ℕ). get_or (xs ++ x ∷ []) j d) e ∙ get_or-append_seam xs x [] d) k)) one)
    (λ ne. let below : i < length xs = omega (arith, lt, n, ne) in subst (P i) (sym (get_or-append xs (x ∷ []) d i below)) (all i d below))

module _ (b : BoardView) (past : List (Step Kind)) where
  -- The worker's pass keeps its hand.
  pub keeps_posted : (t : PassView) (a : ℕ) (P : Handful → Type 0) → IsPosted b past t a P → Keeps t a
  keeps_posted t a P p = keeps_held t.hands a p.hand p.holds

  posted_after : (t u : PassView) (a : ℕ) (P Q : Handful → Type 0) → IsPosted b past t a P → Fits b u
      → steps_before_split u.knows ≡ steps_before_split t.knows → set u.hands a None ≡ set t.hands a None → Keeps u a → Q (hand_at u.hands a)
      → IsPosted b past u a Q
  posted_after t u a P Q p fits split others k q = record {
    fits = fits;
    split = split ∙ p.split;
    hand = hand_at u.hands a;
    holds = kept u.hands a k;
    meets = q;
    alone = λ c g e. dite (ℕ_discrete c a) (λ same. same) (λ ne.
        let none : Option Handful = None in
        let x : Holds (set u.hands a None) c g = set_else u.hands a c none ne ∙ e in
        let y : Holds (set t.hands a None) c g = subst (λ (l : List (Option Handful)). Holds l c g) others x in
        p.alone c g (cut_held t.hands a c g y).1);
  }

  -- The pass that comes out of a seat whose lines were run: the seat was first at b1 with t1 for a1, then at b2 with t2 for a2.
  pub posted_run : (P : Handful → Type 0) (t u : PassView) (a : ℕ) (failed : Bool) (b1 b2 : BoardView) (t1 t2 : PassView) (a1 a2 : ℕ)
      → b1 ≡ b → t1 ≡ t → a1 ≡ a → a2 ≡ a1 → around b2 t2 a2 ≡ around b1 t1 a1 → u ≡ t2 → Fits b2 u → Keeps u a2
      → (failed ≡ false → has_line (hand_at t2.hands a2).core ≡ false) → IsPosted b past t a P → IsPosted b past u a (HasRun failed)
  posted_run P t u a failed b1 b2 t1 t2 a1 a2 eb et ea same frame eu fits keeps done p =
      let none : Option Handful = None in
      let actor : a2 ≡ a = same ∙ ea in
      let others : set u.hands a none ≡ set t.hands a none =
      (λ i. set (eu i).hands (sym actor i) none) ∙ (ap (λ (r : Around). r.others) frame ∙ (λ i. set (et i).hands (ea i) none)) in
      let split : steps_before_split u.knows ≡ steps_before_split t.knows =
      ap (λ (x : PassView). steps_before_split x.knows) eu ∙ (ap (λ (r : Around). r.split) frame ∙ ap (λ (x : PassView). steps_before_split x.knows) et) in
      let hand : hand_at t2.hands a2 ≡ hand_at u.hands a = λ i. hand_at (sym eu i).hands (actor i) in
      posted_after t u a P (HasRun failed) p (subst (λ (v : BoardView). Fits v u) (ap (λ (r : Around). r.board) frame ∙ eb) fits) split others
      (subst (Keeps u) actor keeps) (subst (HasRun failed) hand done)

  -- The pass that a split gives is posted.
  pub posted_first : (t : PassView) (hands : List (Option Handful)) (a : ℕ) (h : Handful) → Fits b t → steps_before_split t.knows ≡ Some past
      → t.hands ≡ only hands a → Holds hands a h → IsPosted b past t a AnyHand
  posted_first t hands a h fits split is hold = record {
    fits = fits;
    split = split;
    hand = h;
    holds = subst (λ (l : List (Option Handful)). Holds l a h) (sym is) (only_here hands a h hold);
    meets = tt;
    alone = λ c g e. (only_held hands a c g (subst (λ (l : List (Option Handful)). Holds l c g) is e)).0;
  }

  -- One worker more is posted.
  pub posted_more : (posts : List Post) (post : Post) → AllPosted b past posts
      → (post.actor ≡ length posts) × IsPosted b past post.pass (length posts) AnyHand → AllPosted b past (posts ++ post ∷ [])
  posted_more posts post all one =
      one_more (λ (i : ℕ) (p : Post). (p.actor ≡ i) × IsPosted b past p.pass i AnyHand) posts post all one

pub ok_of : {T E : Type 0} (r : Result T E) (P : Type 0) → OnOk r P → is_err r ≡ false → P
ok_of (Ok x) P p e = p
ok_of (Err x) P p e = cc
