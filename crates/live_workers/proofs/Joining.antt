-- The hands that come together in one pass.
use Rattle.std.proofs.Common.{◌≡◌, ◌<◌, ◌+◌, ◌++◌, ◌∷◌, ◌∙◌, ℕ, suc, List, []}
use Rattle.std.proofs.Common.{Option, None, Some, ap, arith, drop, get_or, length, length-append, refl, subst, sym, take}
use Rattle.std.proofs.Math.Seq.{get_or-append_seam, take-append_seam}
use Rattle.std.specs.Prelude.{Bool, ◌||◌, false, if◌then◌else◌, true}
use mathlib.Core.Option.{some-injective}
use mathlib.Core.Logic.{dite}
use native.Mathlib.Decide.{ℕ_discrete}
use Rattle.core_views.specs.declared.kind.Kind.{Kind}
use Rattle.core_views.specs.Held.{Handful}
use Rattle.mmu_core.specs.machine.Machine.{Step}
use Rattle.table_seats.specs.Boards.{AllHands, BoardView}
use Rattle.table_seats.specs.Passes.{Known, PassView, hand_in_place, steps_before_split}
use Rattle.table_seats.specs.Rule.{Holds, overlay}
use Rattle.table_seats.proofs.HandLists.{overlay_that, overlay_this}
use Rattle.table_seats.proofs.Places.{hand_is}
use Rattle.live_workers.specs.Posts.{AllHaveRun, HasRun, IsPosted, Post}

pub one_hand : (hands : List (Option Handful)) (a : ℕ) (g h : Handful) → Holds hands a g → Holds hands a h → g ≡ h
one_hand hands a g h e f = sym (hand_is hands a g e) ∙ hand_is hands a h f

-- The first hands have come together, each from its worker. Where no worker failed, all their lines are answered.
abbrev pub AreJoined : List Post → List (Option Handful) → ℕ → Bool → Type 0
AreJoined posts hands n failed = (a : ℕ) → a < n → (h : Handful) × Holds hands a h × HasRun failed h × ((d : Post) → Holds (get_or posts a d).pass.hands a h)

neither : (x y z : Bool) → x ≡ (y || z) → x ≡ false → (y ≡ false) × (z ≡ false)
neither x false false e f = (refl, refl)
neither x false true e f = cc
neither x true z e f = cc

-- The steps made before the first hand was split off are those of the past.
pub past_of : (v : Known) (ss : List (Step Kind)) → steps_before_split v ≡ Some ss → Some v.past ≡ Some ss
past_of v ss e = go v.alone e where
  go : (alone : Bool) → (if alone then None else Some v.past) ≡ Some ss → Some v.past ≡ Some ss
  go true e = cc
  go false e = e

module _ (b : BoardView) (past : List (Step Kind)) where
  -- One hand more has come.
  pub joins_next : (posts : List Post) (t : PassView) (p : Post) (n : ℕ) (failed next : Bool) → n < length t.hands → ((d : Post) → get_or posts n d ≡ p)
      → AreJoined posts t.hands n failed → IsPosted b past p.pass n (HasRun p.failed) → next ≡ (failed || p.failed)
      → AreJoined posts (overlay t.hands p.pass.hands) (n + 1) next
  joins_next posts t p n failed next room its so ran is a lt = dite (ℕ_discrete a n)
      (λ e. (
        ran.hand,
        subst (λ (k : ℕ). Holds (overlay t.hands p.pass.hands) k ran.hand) (sym e) (overlay_that t.hands p.pass.hands n ran.hand room ran.holds),
        λ ok. ran.meets (neither next failed p.failed is ok).1,
        λ d. subst (λ (k : ℕ). Holds (get_or posts k d).pass.hands k ran.hand) (sym e)
            (subst (λ (q : Post). Holds q.pass.hands n ran.hand) (sym (its d)) ran.holds),
      ))
      (λ ne. let o = so a (omega (arith, lt, ne)) in (
        o.0,
        overlay_this t.hands p.pass.hands a o.0 o.1 (λ f hold. ne (ran.alone a f hold)),
        λ ok. o.2 (neither next failed p.failed is ok).0,
        o.3,
      ))

  -- The next worker of a list, after those that were taken, has run.
  pub next_ran : (posts yielded rest : List Post) (p : Post) → AllHaveRun b past posts → yielded ++ p ∷ rest ≡ posts
      → IsPosted b past p.pass (length yielded) (HasRun p.failed)
  next_ran posts yielded rest p all is =
      let e : get_or posts (length yielded) p ≡ p = ap (λ (l : List Post). get_or l (length yielded) p) (sym is) ∙ get_or-append_seam yielded p rest p in
      let n : length (yielded ++ p ∷ rest) ≡ length yielded + length (p ∷ rest) = length-append yielded (p ∷ rest) in
      let m : length (yielded ++ p ∷ rest) ≡ length posts = ap (λ (l : List Post). length l) is in
      subst (λ (q : Post). IsPosted b past q.pass (length yielded) (HasRun q.failed)) e (all (length yielded) p (omega (arith, n, m))).1

-- which worker it is
pub next_is : (posts yielded rest : List Post) (p : Post) → yielded ++ p ∷ rest ≡ posts → (d : Post) → get_or posts (length yielded) d ≡ p
next_is posts yielded rest p is d = ap (λ (l : List Post). get_or l (length yielded) d) (sym is) ∙ get_or-append_seam yielded p rest d

pub all_there : (hands : List (Option Handful)) → ((a : ℕ) → a < length hands → (h : Handful) × Holds hands a h) → AllHands hands
all_there [] f = refl
all_there (x ∷ xs) f =
    let h = f 0 (omega arith) in
    let e : x ≡ Some h.0 = some-injective x (Some h.0) h.1 in
    let there : x ≡ Some (hand_in_place x) = e ∙ ap (λ (y : Option Handful). Some (hand_in_place y)) (sym e) in
    let t = all_there xs (λ a lt. f (suc a) (omega (arith, lt))) in
    λ i. there i ∷ t i

-- what a vector is, after its slice was changed
pub put_whole : {A : Type 0} (new items : List A) (len : ℕ) → len ≡ length items → length new ≡ length items
    → take len (new ++ drop (length new) items) ≡ new
put_whole new items len a b = ap (λ (n : ℕ). take n (new ++ drop (length new) items)) (a ∙ sym b) ∙ take-append_seam new (drop (length new) items)
