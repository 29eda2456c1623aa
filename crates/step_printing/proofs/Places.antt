-- The place of a word is the one at which it stands.
use Rattle.std.proofs.Common.{◌≡◌, ◌+◌, ◌-◌, ◌<◌, ℕ, List, [], ◌∷◌, ◌++◌, refl, sym, ap, subst, ◌∙◌, arith}
use Rattle.std.proofs.lemmas.Bool.Decides.{nat_tests}
use Rattle.std.proofs.lemmas.List.Sums.{sum_by-cons}
use Rattle.std.specs.List.{sum_by}
use Rattle.std.specs.Prelude.{true, false, nat_lt}
use Rattle.spte_words.specs.declared.area.Area.{Area}
use Rattle.spte_words.specs.declared.area.Area.TheVariants.{Root, Slots, Seq, Count, RangeStart, RangeEnd, Lock, Pause, State, PoolMap, FrameMap, Log}
use Rattle.spte_words.specs.declared.area.Area.TheVariants.{Host, Role, Pool, Content}
use Rattle.spte_words.specs.declared.word_map.WordMap.{WordMap}
use Rattle.spte_words.specs.Areas.{areas, place, size_of, total}
use Rattle.step_text.specs.declared.word_place.WordPlace.{WordPlace}
use Rattle.step_printing.specs.Rows.{place_among, place_in}

below : (a b : ℕ) → a < b → nat_lt a b ≡ true
below a b lt = grind (arith, nat_tests)

not_below : (a b : ℕ) → nat_lt (a + b) a ≡ false
not_below a b = grind (arith, nat_tests)

module _ (m : WordMap) where
  first : (after : List Area) (a : Area) (i : ℕ) → i < size_of m a → place_among m (a ∷ after) i ≡ record { area = a; index = i }
  first after a i lt = rw (below i (size_of m a) lt) refl

  -- the word of an area after the words of others
  among : (before after : List Area) (a : Area) (i : ℕ) → i < size_of m a
      → place_among m (before ++ a ∷ after) (sum_by (size_of m) before + i) ≡ record { area = a; index = i }
  among [] after a i lt =
      let none : 0 + i ≡ i = omega arith in
      subst (λ (n : ℕ). place_among m (a ∷ after) n ≡ record { area = a; index = i }) (sym none) (first after a i lt)
  among (b ∷ before) after a i lt =
      let word : ℕ = sum_by (size_of m) before + i in
      let same : sum_by (size_of m) (b ∷ before) + i ≡ size_of m b + word =
      let s = sum_by-cons (size_of m) b before in omega (arith, s) in
      let less : (size_of m b + word) - size_of m b ≡ word = omega arith in
      ap (place_among m (b ∷ (before ++ a ∷ after))) same
      ∙ rw (not_below (size_of m b) word) (ap (place_among m (before ++ a ∷ after)) less ∙ among before after a i lt)

  by_area : (a : Area) (i : ℕ) → i < size_of m a → place_among m areas (place m a i) ≡ record { area = a; index = i }
  unfolding place
  by_area Root i lt =
      among []
      (Slots ∷ Seq ∷ Count ∷ RangeStart ∷ RangeEnd ∷ Lock ∷ Pause ∷ State ∷ PoolMap ∷ FrameMap ∷ Log ∷ Host ∷ Role ∷ Pool ∷ Content ∷ []) Root i lt
  by_area Slots i lt =
      among (Root ∷ [])
      (Seq ∷ Count ∷ RangeStart ∷ RangeEnd ∷ Lock ∷ Pause ∷ State ∷ PoolMap ∷ FrameMap ∷ Log ∷ Host ∷ Role ∷ Pool ∷ Content ∷ []) Slots i lt
  by_area Seq i lt =
      among (Root ∷ Slots ∷ [])
      (Count ∷ RangeStart ∷ RangeEnd ∷ Lock ∷ Pause ∷ State ∷ PoolMap ∷ FrameMap ∷ Log ∷ Host ∷ Role ∷ Pool ∷ Content ∷ []) Seq i lt
  by_area Count i lt =
      among (Root ∷ Slots ∷ Seq ∷ [])
      (RangeStart ∷ RangeEnd ∷ Lock ∷ Pause ∷ State ∷ PoolMap ∷ FrameMap ∷ Log ∷ Host ∷ Role ∷ Pool ∷ Content ∷ []) Count i lt
  by_area RangeStart i lt =
      among (Root ∷ Slots ∷ Seq ∷ Count ∷ [])
      (RangeEnd ∷ Lock ∷ Pause ∷ State ∷ PoolMap ∷ FrameMap ∷ Log ∷ Host ∷ Role ∷ Pool ∷ Content ∷ []) RangeStart i lt
  by_area RangeEnd i lt =
      among (Root ∷ Slots ∷ Seq ∷ Count ∷ RangeStart ∷ [])
      (Lock ∷ Pause ∷ State ∷ PoolMap ∷ FrameMap ∷ Log ∷ Host ∷ Role ∷ Pool ∷ Content ∷ []) RangeEnd i lt
  by_area Lock i lt =
      among (Root ∷ Slots ∷ Seq ∷ Count ∷ RangeStart ∷ RangeEnd ∷ [])
      (Pause ∷ State ∷ PoolMap ∷ FrameMap ∷ Log ∷ Host ∷ Role ∷ Pool ∷ Content ∷ []) Lock i lt
  by_area Pause i lt =
      among (Root ∷ Slots ∷ Seq ∷ Count ∷ RangeStart ∷ RangeEnd ∷ Lock ∷ [])
      (State ∷ PoolMap ∷ FrameMap ∷ Log ∷ Host ∷ Role ∷ Pool ∷ Content ∷ []) Pause i lt
  by_area State i lt =
      among (Root ∷ Slots ∷ Seq ∷ Count ∷ RangeStart ∷ RangeEnd ∷ Lock ∷ Pause ∷ [])
      (PoolMap ∷ FrameMap ∷ Log ∷ Host ∷ Role ∷ Pool ∷ Content ∷ []) State i lt
  by_area PoolMap i lt =
      among (Root ∷ Slots ∷ Seq ∷ Count ∷ RangeStart ∷ RangeEnd ∷ Lock ∷ Pause ∷ State ∷ [])
      (FrameMap ∷ Log ∷ Host ∷ Role ∷ Pool ∷ Content ∷ []) PoolMap i lt
  by_area FrameMap i lt =
      among (Root ∷ Slots ∷ Seq ∷ Count ∷ RangeStart ∷ RangeEnd ∷ Lock ∷ Pause ∷ State ∷ PoolMap ∷ [])
      (Log ∷ Host ∷ Role ∷ Pool ∷ Content ∷ []) FrameMap i lt
  by_area Log i lt =
      among (Root ∷ Slots ∷ Seq ∷ Count ∷ RangeStart ∷ RangeEnd ∷ Lock ∷ Pause ∷ State ∷ PoolMap ∷ FrameMap ∷ [])
      (Host ∷ Role ∷ Pool ∷ Content ∷ []) Log i lt
  by_area Host i lt =
      among (Root ∷ Slots ∷ Seq ∷ Count ∷ RangeStart ∷ RangeEnd ∷ Lock ∷ Pause ∷ State ∷ PoolMap ∷ FrameMap ∷ Log ∷ [])
      (Role ∷ Pool ∷ Content ∷ []) Host i lt
  by_area Role i lt =
      among (Root ∷ Slots ∷ Seq ∷ Count ∷ RangeStart ∷ RangeEnd ∷ Lock ∷ Pause ∷ State ∷ PoolMap ∷ FrameMap ∷ Log ∷ Host ∷ [])
      (Pool ∷ Content ∷ []) Role i lt
  by_area Pool i lt =
      among (Root ∷ Slots ∷ Seq ∷ Count ∷ RangeStart ∷ RangeEnd ∷ Lock ∷ Pause ∷ State ∷ PoolMap ∷ FrameMap ∷ Log ∷ Host ∷ Role ∷ [])
      (Content ∷ []) Pool i lt
  by_area Content i lt =
      among (Root ∷ Slots ∷ Seq ∷ Count ∷ RangeStart ∷ RangeEnd ∷ Lock ∷ Pause ∷ State ∷ PoolMap ∷ FrameMap ∷ Log ∷ Host ∷ Role ∷ Pool ∷ [])
      ([]) Content i lt

  pub place_is : (word : ℕ) (p : WordPlace) → word < total m → place m p.area p.index ≡ word → p.index < size_of m p.area → p ≡ place_in m word
  place_is word p within at lt =
      rw (below word (total m) within) (sym (subst (λ (n : ℕ). place_among m areas n ≡ p) at (by_area p.area p.index lt)))
