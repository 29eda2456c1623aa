-- The hands that a pass keeps, beside those in its seat's view.
use Rattle.std.proofs.Common.{◌≡◌, ℕ, zero, suc, ◌+◌, ◌<◌, List, [], ◌∷◌, ◌++◌, map, length, get_or, set, sym, refl, ap, ◌∙◌, subst, arith, Option}
use Rattle.std.proofs.Common.{Some, None, replicate, unwrap_or, take, add-one}
use Rattle.std.specs.Prelude.{drop, false, is_some, true}
use Rattle.std.proofs.lemmas.Bool.{false≢true}
use mathlib.Core.Option.{some, some-injective, some-ne-none}
use Rattle.core_views.specs.Held.{Held, Handful}
use Rattle.table_seats.specs.Rule.{Holds, only, nones, overlay, either_hand}
use Rattle.step_seats.specs.Moves.{core_of, no_hand}
use Rattle.table_seats.specs.Boards.{AllHands}
use Rattle.table_seats.specs.Passes.{core_in, hand_at, hand_in_place}
use Rattle.atomic_table.proofs.Lists.{set_here}
use Rattle.table_seats.proofs.HandLists.{some-held, at_below}

module _ {H : Type 0} where
  pub held_get : (l : List (Option H)) (a : ℕ) (h : H) (r : Option H) → Holds l a h → r ≡ get_or l a r → r ≡ Some h
  held_get [] a h r e is = absurd (some-ne-none (Some h) (sym e))
  held_get (x ∷ xs) zero h r e is = is ∙ some-injective x (Some h) e
  held_get (x ∷ xs) (suc a) h r e is = held_get xs a h r e is

pub cores_at : (l : List (Option Handful)) (a : ℕ) (h : Handful) → Holds l a h → Holds (map core_in l) a h.core
cores_at [] a h e = absurd (some-ne-none (Some h) (sym e))
cores_at (x ∷ xs) zero h e = ap (λ (y : Option Handful). some (core_in y)) (some-injective x (Some h) e)
cores_at (x ∷ xs) (suc a) h e = cores_at xs a h e

cores-nones : (l : List (Option Handful)) → map core_in (nones l) ≡ nones (map core_in l)
cores-nones [] = refl
cores-nones (x ∷ xs) = ap (λ (l : List (Option Held)). None ∷ l) (cores-nones xs)

pub cores-only : (l : List (Option Handful)) (a : ℕ) → map core_in (only l a) ≡ only (map core_in l) a
cores-only [] a = refl
cores-only (x ∷ xs) zero = ap (λ (l : List (Option Held)). core_in x ∷ l) (cores-nones xs)
cores-only (x ∷ xs) (suc a) = ap (λ (l : List (Option Held)). None ∷ l) (cores-only xs a)

pub cores-overlay : (l m : List (Option Handful)) → map core_in (overlay l m) ≡ overlay (map core_in l) (map core_in m)
cores-overlay [] m = refl
cores-overlay (x ∷ xs) [] = refl
cores-overlay (x ∷ xs) (None ∷ ys) = ap (λ (l : List (Option Held)). core_in x ∷ l) (cores-overlay xs ys)
cores-overlay (x ∷ xs) (Some y ∷ ys) = ap (λ (l : List (Option Held)). Some y.core ∷ l) (cores-overlay xs ys)

pub overlay-nil : {H : Type 0} (l : List (Option H)) → overlay l [] ≡ l
overlay-nil [] = refl
overlay-nil (x ∷ xs) = refl

nones-is : {H : Type 0} (l : List (Option H)) → replicate (length l) None ≡ nones l
nones-is [] = refl
nones-is {H} (x ∷ xs) = ap (λ (l : List (Option H)). None ∷ l) (nones-is xs)

pub overlay-snoc : {H : Type 0} (l m : List (Option H)) (h : H) → length m < length l → overlay l (m ++ Some h ∷ []) ≡ set (overlay l m) (length m) (Some h)
overlay-snoc [] m h lt = absurd (omega arith)
overlay-snoc (x ∷ xs) [] h lt = ap (λ l. Some h ∷ l) (overlay-nil xs)
overlay-snoc (x ∷ xs) (y ∷ ys) h lt = ap (λ l. either_hand x y ∷ l) (overlay-snoc xs ys h (omega arith))

pub overlay-none : {H : Type 0} (l m : List (Option H)) → overlay l (m ++ None ∷ []) ≡ overlay l m
overlay-none [] m = refl
overlay-none (x ∷ xs) [] = ap (λ l. x ∷ l) (overlay-nil xs)
overlay-none (x ∷ xs) (y ∷ ys) = ap (λ l. either_hand x y ∷ l) (overlay-none xs ys)

-- one hand among no others
pub only-is : {H : Type 0} (l : List (Option H)) (a : ℕ) (h : H) → Holds l a h → set (replicate (length l) None) a (Some h) ≡ only l a
only-is [] a h e = absurd (some-ne-none (Some h) (sym e))
only-is {H} (x ∷ xs) zero h e = λ i. sym (some-injective x (Some h) e) i ∷ nones-is xs i
only-is {H} (x ∷ xs) (suc a) h e = ap (λ (l : List (Option H)). None ∷ l) (only-is xs a h e)

-- a turn of the loop that brings hands over
pub brings : {H : Type 0} (now yielded items : List (Option H)) (at : ℕ) (place : Option H) (h : H) → items ≡ overlay now yielded → at ≡ length yielded
    → length yielded < length now → place ≡ Some h
    → set items at (Some h) ≡ overlay now (yielded ++ place ∷ [])
brings now yielded items at place h is count lt held =
    (λ i. set (is i) (count i) (Some h)) ∙ (sym (overlay-snoc now yielded h lt) ∙ ap (λ s. overlay now (yielded ++ s ∷ [])) (sym held))

pub leaves : {H : Type 0} (now yielded items : List (Option H)) (place : Option H) → items ≡ overlay now yielded → place ≡ None
    → items ≡ overlay now (yielded ++ place ∷ [])
leaves now yielded items place is held = is ∙ (sym (overlay-none now yielded) ∙ ap (λ s. overlay now (yielded ++ s ∷ [])) (sym held))

pub none_of : {H : Type 0} (x : Option H) → ((h : H) → x ≡ Some h → ⊥) → x ≡ None
none_of None f = refl
none_of (Some h) f = absurd (f h refl)

pub no_gap : {H : Type 0} (xs ys : List (Option H)) (hs : List H) → ¬ (xs ++ None ∷ ys ≡ map Some hs)
no_gap [] ys [] e = cc
no_gap [] ys (h ∷ hs) e = cc
no_gap (x ∷ xs) ys [] e = cc
no_gap {H} (x ∷ xs) ys (h ∷ hs) e = no_gap xs ys hs (ap rest_of e) where
  rest_of : {A : Type 0} → List A → List A
  rest_of [] = []
  rest_of (x ∷ xs) = xs

pub cores-all : (hs : List Handful) → map core_in (map Some hs) ≡ map Some (map core_of hs)
cores-all [] = refl
cores-all (h ∷ hs) = ap (λ (l : List (Option Held)). Some h.core ∷ l) (cores-all hs)

-- the hand that is read is the actor's
pub hand_is : (hands : List (Option Handful)) (a : ℕ) (h : Handful) → Holds hands a h → hand_at hands a ≡ h
hand_is [] a h e = absurd (some-ne-none (Some h) (sym e))
hand_is (x ∷ xs) zero h e = ap (λ (y : Option Handful). unwrap_or y no_hand) (some-injective x (Some h) e)
hand_is (x ∷ xs) (suc a) h e = hand_is xs a h e

-- The pass keeps the hand that is read.
pub kept : (hands : List (Option Handful)) (a : ℕ) → is_some (get_or hands a None) ≡ true → Holds hands a (hand_at hands a)
kept [] a e = absurd (false≢true e)
kept (None ∷ xs) zero e = absurd (false≢true e)
kept (Some h ∷ xs) zero e = refl
kept (x ∷ xs) (suc a) e = kept xs a e

pub keeps_held : (hands : List (Option Handful)) (a : ℕ) (h : Handful) → Holds hands a h → is_some (get_or hands a None) ≡ true
keeps_held [] a h e = absurd (some-ne-none (Some h) (sym e))
keeps_held (x ∷ xs) zero h e = ap is_some (some-injective x (Some h) e)
keeps_held (x ∷ xs) (suc a) h e = keeps_held xs a h e

-- The place of a hand that the pass keeps is one of its places.
pub place_below : (len : ℕ) (inside shown : List (Option Handful)) (a : ℕ) → len ≡ length inside → inside ≡ shown
    → is_some (get_or shown a None) ≡ true → a < len
place_below len inside shown a n is keeps =
    let b = at_below shown a (Some (hand_at shown a)) (kept shown a keeps) in
    let e = ap (λ (l : List (Option Handful)). length l) is in
    omega (arith, n, b, e)

-- It is read there.
pub read_as : (inside shown : List (Option Handful)) (a : ℕ) (r : Option Handful) → inside ≡ shown → is_some (get_or shown a None) ≡ true
    → r ≡ get_or inside a r → r ≡ Some (hand_at shown a)
read_as inside shown a r is keeps get =
    held_get inside a (hand_at shown a) r (subst (λ (l : List (Option Handful)). Holds l a (hand_at shown a)) (sym is) (kept shown a keeps)) get

-- A hand that is found in a place, where the pass keeps one there.
pub record Picked (inside shown : List (Option Handful)) (a : ℕ) (h : Handful) : Type 0 where
  pub hold : Holds inside a h
  pub is : hand_at shown a ≡ h

pub picked : (inside shown : List (Option Handful)) (a : ℕ) (h : Handful) (r : Option Handful) → inside ≡ shown
    → is_some (get_or shown a None) ≡ true → r ≡ get_or inside a r → r ≡ Some h → Picked inside shown a h
picked inside shown a h r is keeps get found =
    let e : hand_at shown a ≡ h = some-held (sym (read_as inside shown a r is keeps get) ∙ found) in
    record {
      hold = subst (λ (l : List (Option Handful)). Holds l a h) (sym is) (subst (λ (x : Handful). Holds shown a x) e (kept shown a keeps));
      is = e;
    }

-- the hand that was put
pub hand_put : (hands : List (Option Handful)) (a : ℕ) (h g : Handful) → Holds hands a h → hand_at (set hands a (Some g)) a ≡ g
hand_put hands a h g e = hand_is (set hands a (Some g)) a g (set_here hands a (Some g) (at_below hands a (Some h) e))

pub held_put : (hands : List (Option Handful)) (a : ℕ) (h g : Handful) → Holds hands a h → Holds (set hands a (Some g)) a g
held_put hands a h g e = set_here hands a (Some g) (at_below hands a (Some h) e)

pub set-same : (hands : List (Option Handful)) (a : ℕ) (h g : Handful) → Holds hands a h → g.core ≡ h.core
    → map core_in (set hands a (Some g)) ≡ map core_in hands
set-same [] a h g e is = refl
set-same (x ∷ xs) zero h g e is = λ i. (ap (λ (c : Held). Some c) is ∙ ap core_in (sym (some-injective x (Some h) e))) i ∷ map core_in xs
set-same (x ∷ xs) (suc a) h g e is = ap (λ (l : List (Option Held)). core_in x ∷ l) (set-same xs a h g e is)

-- Hands that fill their places are read as they are.
pub places-are : (hs : List Handful) → map hand_in_place (map Some hs) ≡ hs
places-are [] = refl
places-are (h ∷ hs) = ap (λ (l : List Handful). h ∷ l) (places-are hs)

is_there : (x r : Option Handful) → r ≡ x → is_some r ≡ true → x ≡ Some (hand_in_place x)
is_there None r e is = absurd (false≢true (ap is_some (sym e) ∙ is))
is_there (Some h) r e is = refl

-- One hand more stands in its place.
pub all-further : (l : List (Option Handful)) (i : ℕ) (r : Option Handful) → r ≡ get_or l i r → is_some r ≡ true → AllHands (take i l)
    → AllHands (take (i + 1) l)
all-further l i r get there all = rw add-one (go l i get all) where
  go : (l : List (Option Handful)) (i : ℕ) → r ≡ get_or l i r → AllHands (take i l) → AllHands (take (suc i) l)
  go [] i get all = refl
  go (x ∷ l) zero get all = λ j. is_there x r get there j ∷ []
  go (x ∷ l) (suc i) get all =
      let first : x ≡ Some (hand_in_place x) = cc in
      let rest : take i l ≡ map Some (map hand_in_place (take i l)) = cc in
      λ j. first j ∷ go l i get rest j

-- Where nothing stands in a place, not every hand is there.
pub no-gap : (l : List (Option Handful)) (i : ℕ) (r : Option Handful) → i < length l → r ≡ get_or l i r → is_some r ≡ false → AllHands l → ⊥
no-gap [] i r lt at gap all = absurd (omega (arith, lt))
no-gap (x ∷ l) zero r lt at gap all =
    let there : is_some x ≡ true = ap (λ (k : List (Option Handful)). is_some (get_or k 0 None)) all in
    absurd (cc (at, there, gap))
no-gap (x ∷ l) (suc i) r lt at gap all = no-gap l i r (omega (arith, lt)) at gap (ap (drop 1) all)
