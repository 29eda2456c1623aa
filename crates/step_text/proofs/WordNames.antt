-- The name of a word tells its area, and which of the area's words it is.
use Rattle.std.specs.Prelude.{◌==◌, max, if◌then◌else◌}
use Rattle.std.proofs.Common.{◌≡◌, ◌<◌, ◌^◌, ℕ, List, [], ◌∷◌, ◌++◌, drop, get_or, arith, refl, sym, ap, subst, ◌∙◌}
use Rattle.std.proofs.lemmas.List.{append_cancel_right}
use Rattle.core_views.specs.Sizes.{actor_at}
use Rattle.core_views.specs.Text.{actor_name}
use Rattle.core_views.specs.declared.sizes.Sizes.{Sizes}
use Rattle.spte_words.specs.Areas.{size_of}
use Rattle.spte_words.specs.declared.area.Area.{Area}
use Rattle.spte_words.specs.declared.area.Area.TheVariants.{Root, Slots, Seq, Count, RangeStart, RangeEnd, Lock, Pause, State, PoolMap, FrameMap, Log}
use Rattle.spte_words.specs.declared.area.Area.TheVariants.{Host, Role, Pool, Content}
use Rattle.spte_words.specs.declared.word_map.WordMap.{WordMap}
use Rattle.step_text.specs.Laws.{NamesTell}
use Rattle.step_text.specs.Names.{area_name, index_text, words_text}
use Rattle.step_text.specs.declared.word_place.WordPlace.{WordPlace}
use Rattle.step_text.proofs.ActorNames.{actor_tells}
use Rattle.step_text.proofs.Numbers.{bracketed_tells, paged_tells}

-- the area of a name, by the letters in which the names differ
area_told : List ℕ → Area
area_told text =
    if get_or text 0 0 == 102 then FrameMap else
    if get_or text 0 0 == 104 then Host else
    if get_or text 0 0 == 108 then (if get_or text 2 0 == 99 then Lock else Log) else
    if get_or text 0 0 == 112 then (if get_or text 1 0 == 97 then Pause else if get_or text 4 0 == 109 then PoolMap else Pool) else
    if get_or text 0 0 == 99 then (if get_or text 2 0 == 117 then Count else Content) else
    if get_or text 0 0 == 115 then (if get_or text 1 0 == 108 then Slots else if get_or text 1 0 == 101 then Seq else State) else
    if get_or text 1 0 == 97 then (if get_or text 5 0 == 115 then RangeStart else RangeEnd) else
    if get_or text 2 0 == 108 then Role else Root

abbrev name : Sizes → Area → ℕ → List ℕ
name z area index = area_name area ++ index_text z area index 1

area_tells : (z : Sizes) (a : Area) (i : ℕ) → area_told (name z a i) ≡ a
unfolding area_told
area_tells z Root i = refl
area_tells z Slots i = refl
area_tells z Seq i = refl
area_tells z Count i = refl
area_tells z RangeStart i = refl
area_tells z RangeEnd i = refl
area_tells z Lock i = refl
area_tells z Pause i = refl
area_tells z State i = refl
area_tells z PoolMap i = refl
area_tells z FrameMap i = refl
area_tells z Log i = refl
area_tells z Host i = refl
area_tells z Role i = refl
area_tells z Pool i = refl
area_tells z Content i = refl

-- In an area of one word all indices are the same.
lone : (i j : ℕ) → i < 1 → j < 1 → i ≡ j
lone i j iw jw = omega (arith, iw, jw)

index_tells : (z : Sizes) (m : WordMap) (a : Area) (i j : ℕ) → i < 2 ^ 32 → j < 2 ^ 32 → i < size_of m a → j < size_of m a → name z a i ≡ name z a j → i ≡ j
index_tells z m Root i j ib jb iw jw e = lone i j iw jw
index_tells z m Slots i j ib jb iw jw e = lone i j iw jw
index_tells z m Seq i j ib jb iw jw e = lone i j iw jw
index_tells z m Count i j ib jb iw jw e = lone i j iw jw
index_tells z m RangeStart i j ib jb iw jw e = lone i j iw jw
index_tells z m RangeEnd i j ib jb iw jw e = lone i j iw jw
index_tells z m Lock i j ib jb iw jw e = lone i j iw jw
index_tells z m Pause i j ib jb iw jw e = lone i j iw jw
index_tells z m State i j ib jb iw jw e =
    actor_tells z i j ib jb (append_cancel_right (actor_name (actor_at z i)) (actor_name (actor_at z j)) (93 ∷ []) (ap (drop 6) e))
index_tells z m PoolMap i j ib jb iw jw e = (bracketed_tells i j [] [] ib jb (ap (drop 8) e)).0
index_tells z m FrameMap i j ib jb iw jw e = (bracketed_tells i j [] [] ib jb (ap (drop 9) e)).0
index_tells z m Log i j ib jb iw jw e = (bracketed_tells i j [] [] ib jb (ap (drop 4) e)).0
index_tells z m Host i j ib jb iw jw e = (bracketed_tells i j [] [] ib jb (ap (drop 5) e)).0
index_tells z m Role i j ib jb iw jw e = (bracketed_tells i j [] [] ib jb (ap (drop 5) e)).0
index_tells z m Pool i j ib jb iw jw e = paged_tells 512 i j ib jb (ap (drop 5) e)
index_tells z m Content i j ib jb iw jw e = paged_tells (max z.words 1) i j ib jb (ap (drop 8) e)

tells : (z : Sizes) (m : WordMap) (x y : Area) (i j : ℕ) → i < 2 ^ 32 → j < 2 ^ 32 → i < size_of m x → j < size_of m y → name z x i ≡ name z y j
    → (x ≡ y) × (i ≡ j)
tells z m x y i j ib jb iw jw e =
    let same : x ≡ y = sym (area_tells z x i) ∙ ap area_told e ∙ area_tells z y j in
    let there : i < size_of m y = subst (λ (a : Area). i < size_of m a) same iw in
    (same, index_tells z m y i j ib jb there jw (subst (λ (a : Area). name z a i ≡ name z y j) same e))

abbrev at : Area → ℕ → WordPlace
at area index = record { area = area; index = index }

same_place : (x y : Area) (i j : ℕ) → x ≡ y → i ≡ j → at x i ≡ at y j
same_place x y i j p q = rw (p, q) refl

pub names_tell : NamesTell
unfolding words_text
names_tell z m a b here there e =
    let t = tells z m a.area b.area a.index b.index here.small there.small here.within there.within e in
    same_place a.area b.area a.index b.index t.0 t.1
