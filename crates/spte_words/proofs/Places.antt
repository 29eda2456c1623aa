-- Places in the areas: where each area begins, that places are apart, and that they are words of the map.
use Rattle.std.proofs.Common.{◌≡◌, ◌+◌, ◌-◌, ◌^◌, ◌<◌, ◌≤◌, ℕ, zero, suc, List, [], ◌∷◌, Some, refl, arith, take, ap, ◌∙◌, ◌⊎◌, inl, inr}
use Rattle.std.specs.List.{sum_by, slice_get}
use Rattle.std.proofs.lemmas.Bool.{cases_lt, cases_order}
use Rattle.std.proofs.lemmas.List.Sums.{sum_by-cons, sum_by_more}
use Rattle.std.proofs.lemmas.Option.{slice_get_within, get_or_from_slice_get}
use Rattle.spte_words.specs.declared.area.Area.{Area}
use Rattle.spte_words.specs.declared.area.Area.TheVariants.{Root, Slots, Seq, Count, RangeStart, RangeEnd, Lock, Pause, State, PoolMap, FrameMap, Log}
use Rattle.spte_words.specs.declared.area.Area.TheVariants.{Host, Role, Pool, Content}
use Rattle.spte_words.specs.declared.word_map.WordMap.{WordMap}
use Rattle.spte_words.specs.Areas.{IsWordMap, areas, number_of, size_of, place, total, StandsSomewhere}

some_same : {X : Type 0} (x y : X) → Some x ≡ Some y → x ≡ y
some_same x y e = cc

-- a sum ends where the next term's begins
sum_before : {X : Type 0} (f : X → ℕ) (xs : List X) (m n : ℕ) (x : X) → slice_get xs m ≡ Some x → m < n → sum_by f (take m xs) + f x ≤ sum_by f (take n xs)
sum_before f [] m n x at lt = absurd (cc)
sum_before f (y ∷ ys) zero zero x at lt = absurd (omega arith)
sum_before f (y ∷ ys) zero (suc n) x at lt = omega (arith, sum_by-cons f y (take n ys), ap f (some_same y x at))
sum_before f (y ∷ ys) (suc m) zero x at lt = absurd (omega arith)
sum_before f (y ∷ ys) (suc m) (suc n) x at lt = omega (arith, sum_by-cons f y (take m ys), sum_by-cons f y (take n ys), sum_before f ys m n x at (omega arith))

-- and within the whole sum
sum_within : {X : Type 0} (f : X → ℕ) (xs : List X) (m : ℕ) (x : X) → slice_get xs m ≡ Some x → sum_by f (take m xs) + f x ≤ sum_by f xs
sum_within f [] m x at = absurd (cc)
sum_within f (y ∷ ys) zero x at = omega (arith, sum_by-cons f y ys, ap f (some_same y x at))
sum_within f (y ∷ ys) (suc m) x at = omega (arith, sum_by-cons f y ys, sum_by-cons f y (take m ys), sum_within f ys m x at)

-- the next term begins there
sum_next : {X : Type 0} (f : X → ℕ) (xs : List X) (m : ℕ) (x : X) → slice_get xs m ≡ Some x → sum_by f (take (m + 1) xs) ≡ sum_by f (take m xs) + f x
sum_next f xs m x at = sum_by_more f xs m x (slice_get_within xs m x at) ∙ ap (λ y. sum_by f (take m xs) + f y) (get_or_from_slice_get xs m x x at)

-- Each area stands in the order at its number.
pub at_number : (a : Area) → slice_get areas (number_of a) ≡ Some a
at_number Root = refl
at_number Slots = refl
at_number Seq = refl
at_number Count = refl
at_number RangeStart = refl
at_number RangeEnd = refl
at_number Lock = refl
at_number Pause = refl
at_number State = refl
at_number PoolMap = refl
at_number FrameMap = refl
at_number Log = refl
at_number Host = refl
at_number Role = refl
at_number Pool = refl
at_number Content = refl

-- Two areas of one number are one.
pub same_number : (a b : Area) → number_of a ≡ number_of b → a ≡ b
same_number a b e = let x = at_number a in let y = at_number b in cc

-- An area ends before each later one begins.
pub areas_apart : (m : WordMap) (a b : Area) → number_of a < number_of b → place m a (size_of m a) ≤ place m b 0
unfolding place
areas_apart m a b lt = omega (arith, sum_before (size_of m) areas (number_of a) (number_of b) a (at_number a) lt)

-- a place, from where its area begins
pub place_at : (m : WordMap) (a : Area) (i : ℕ) → place m a i ≡ place m a 0 + i
unfolding place
place_at m a i = omega arith

-- A place is a word below the total.
pub place_below : (m : WordMap) (a : Area) (i : ℕ) → i < size_of m a → place m a i < total m
unfolding place total
place_below m a i lt = omega (arith, sum_within (size_of m) areas (number_of a) a (at_number a))

-- Words have numbers of 32 bits.
pub total_fits : (m : WordMap) → IsWordMap m → total m < 2 ^ 32
unfolding total
total_fits m is = omega arith

-- and so have places
pub place_fits : (m : WordMap) (a : Area) (i : ℕ) → IsWordMap m → i < size_of m a → place m a i < 2 ^ 32
place_fits m a i is lt = omega (arith, place_below m a i lt, total_fits m is)

-- Two places that are one word are one place.
pub places_apart : (m : WordMap) (a b : Area) (i j : ℕ) → i < size_of m a → j < size_of m b → place m a i ≡ place m b j → (a ≡ b) × (i ≡ j)
places_apart m a b i j within_a within_b e = order (cases_order (number_of a) (number_of b))
  where
    same : a ≡ b → (a ≡ b) × (i ≡ j)
    same p = (p, omega (arith, place_at m a i, place_at m b j, ap (λ x. place m x 0) p))

    order : (number_of a ≡ number_of b) ⊎ ((number_of a < number_of b) ⊎ (number_of b < number_of a)) → (a ≡ b) × (i ≡ j)
    order (inl n) = same (same_number a b n)
    order (inr (inl lt)) = absurd (omega (arith, areas_apart m a b lt, place_at m a i, place_at m b j, place_at m a (size_of m a)))
    order (inr (inr lt)) = absurd (omega (arith, areas_apart m b a lt, place_at m a i, place_at m b j, place_at m b (size_of m b)))

-- The first area begins at 0.
pub first_place : (m : WordMap) → place m Root 0 ≡ 0
unfolding place
first_place m = refl

-- Each further one begins where the one before it ends.
pub next_place : (m : WordMap) (a b : Area) → number_of b ≡ number_of a + 1 → place m b 0 ≡ place m a (size_of m a)
unfolding place
next_place m a b after = omega (arith, ap (λ n. sum_by (size_of m) (take n areas)) after, sum_next (size_of m) areas (number_of a) a (at_number a))

-- The last one ends at the total.
pub last_place : (m : WordMap) → place m Content (size_of m Content) ≡ total m
unfolding place total
last_place m = omega arith

-- Each word below the total stands in some area.
pub word_stands : (m : WordMap) (word : ℕ) → word < total m → StandsSomewhere m word
word_stands m word below =
    last (on Pool Content refl (on Role Pool refl (on Host Role refl (on Log Host refl (on FrameMap Log refl
    (on PoolMap FrameMap refl (on State PoolMap refl (on Pause State refl (on Lock Pause refl (on RangeEnd Lock refl (on RangeStart RangeEnd refl
    (on Count RangeStart refl (on Seq Count refl (on Slots Seq refl (on Root Slots refl (inr (omega (arith, first_place m))))))))))))))))))
  where
    here : (a : Area) → place m a 0 ≤ word → word < place m a (size_of m a) → StandsSomewhere m word
    here a from to = record {
      area = a;
      i = word - place m a 0;
      within = omega (arith, place_at m a (size_of m a));
      at = omega (arith, place_at m a (word - place m a 0));
    }

    split : (a b : Area) → number_of b ≡ number_of a + 1 → place m a 0 ≤ word → (word < place m a (size_of m a)) ⊎ (place m a (size_of m a) ≤ word)
        → StandsSomewhere m word ⊎ (place m b 0 ≤ word)
    split a b after from (inl to) = inl (here a from to)
    split a b after from (inr past) = inr (omega (arith, next_place m a b after))

    -- in area a, or at least where the next one begins
    on : (a b : Area) → number_of b ≡ number_of a + 1 → StandsSomewhere m word ⊎ (place m a 0 ≤ word) → StandsSomewhere m word ⊎ (place m b 0 ≤ word)
    on a b after (inl stands) = inl stands
    on a b after (inr from) = split a b after from (cases_lt word (place m a (size_of m a)))

    last : StandsSomewhere m word ⊎ (place m Content 0 ≤ word) → StandsSomewhere m word
    last (inl stands) = stands
    last (inr from) = here Content from (omega (arith, last_place m))
