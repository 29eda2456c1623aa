-- What two actors make that fill a page each in turn: as if one of them filled first, and then the other one.
use Rattle.std.proofs.Common.{◌≡◌, ◌≢◌, ◌+◌, ◌-◌, ◌^◌, ◌<◌, ◌≤◌, ℕ, zero, suc, [], ◌∷◌, length, refl, sym, subst, ap, ◌∙◌, arith}
use Rattle.std.specs.Prelude.{Bool, true, false, ◌==◌}
use Rattle.std.proofs.lemmas.Bool.Decides.{nat_tests}
use Rattle.core_views.specs.declared.sizes.Sizes.{Sizes}
use Rattle.core_views.specs.Held.{Held}
use Rattle.core_views.specs.Sizes.{actors_of}
use Rattle.spte_words.specs.declared.area.Area.{Area}
use Rattle.spte_words.specs.declared.area.Area.TheVariants as area
use Rattle.spte_words.specs.Areas.{number_of}
use Rattle.mmu_core.specs.machine.View.{View, upd}
use Rattle.mmu_core.proofs.machine.Columns.{upd_other, upd_same}
use Rattle.mmu_laws.specs.steps.ExampleRaces.{in_turn}
use Rattle.mmu_laws.proofs.steps.FilledPages.{Filler, FillsOne, IsFilling, area_or, filled, fills_run, hand_filled, is_among}
use Rattle.mmu_laws.proofs.steps.FilledPages.{one_filled, put_words, word_or}
use Rattle.mmu_laws.proofs.steps.ViewRuns.{Runs, run_on}

-- The actor can make n fills more.
pub record CanFill (z : Sizes) (F : Filler) (n a steps : ℕ) (h : Held) (v : View) : Type 0 where
  pub fills_one : FillsOne F h
  pub there : a < actors_of z
  pub line : length h.answers < length h.lines
  pub is : IsFilling F steps h (v.hand a)
  pub room : F.owned.filled + n ≤ 512
  pub page : F.owned.page < h.state.sizes.pool
  pub few : steps + n ≤ 2 ^ 64 - 1

pub can_run : (z : Sizes) (F : Filler) (n a steps : ℕ) (h : Held) (v : View) → CanFill z F n a steps h v
    → Runs z v (in_turn n (a ∷ [])) (filled F n steps h a v) []
can_run z F n a steps h v C = fills_run z F n a steps h v C.fills_one C.there C.line C.is C.room C.page C.few

-- so one fill, and n after it
can_one : (z : Sizes) (F : Filler) (n a steps : ℕ) (h : Held) (v : View) → CanFill z F (suc n) a steps h v → CanFill z F 1 a steps h v
can_one z F n a steps h v C = record {
  fills_one = C.fills_one;
  there = C.there;
  line = C.line;
  is = C.is;
  room = omega (arith, C.room);
  page = C.page;
  few = omega (arith, C.few);
}

can_more : (z : Sizes) (F : Filler) (n a steps : ℕ) (h : Held) (v : View) → CanFill z F (suc n) a steps h v
    → CanFill z (one_filled F) n a (steps + 1) h (filled F 1 steps h a v)
can_more z F n a steps h v C = record {
  fills_one = record { makes = C.fills_one.makes; tells_none = C.fills_one.tells_none };
  there = C.there;
  line = C.line;
  is = upd_same v.hand a (hand_filled F 1 steps h);
  room = omega (arith, C.room);
  page = C.page;
  few = omega (arith, C.few);
}

-- and after fills of another actor
can_still : (z : Sizes) (F G : Filler) (m n a b j k : ℕ) (g h : Held) (v : View) → a ≢ b → CanFill z G n b k h v
    → CanFill z G n b k h (filled F m j g a v)
can_still z F G m n a b j k g h v apart C = record {
  fills_one = C.fills_one;
  there = C.there;
  line = C.line;
  is = upd_other v.hand a b (hand_filled F m j g) (λ e. apart (sym e)) ∙ C.is;
  room = C.room;
  page = C.page;
  few = C.few;
}

-- one fill and n after it are n + 1
merged : (z : Sizes) (F : Filler) (n a steps : ℕ) (h : Held) (v : View) → CanFill z F (suc n) a steps h v
    → ◌≡◌ {A = View} (filled (one_filled F) n (steps + 1) h a (filled F 1 steps h a v)) (filled F (suc n) steps h a v)
merged z F n a steps h v C =
    let first = can_run z F 1 a steps h v (can_one z F n a steps h v C) in
    let next = can_run z (one_filled F) n a (steps + 1) h (filled F 1 steps h a v) (can_more z F n a steps h v C) in
    let parts =
    run_on z v (filled F 1 steps h a v) (filled (one_filled F) n (steps + 1) h a (filled F 1 steps h a v)) (a ∷ []) (in_turn n (a ∷ [])) [] [] first next in
    sym parts.leads ∙ (can_run z F (suc n) a steps h v C).leads

-- ---- Fills of two pages change places.

-- a page's words over a pool, at an index
abbrev page_or : ℕ → ℕ → ℕ → (ℕ → ℕ) → (ℕ → ℕ) → ℕ → ℕ
page_or page from n word pool i = word_or (is_among page from n i) word page pool i

there_is : (page from n i : ℕ) (word pool : ℕ → ℕ) (b : Bool) → is_among page from n i ≡ b → page_or page from n word pool i ≡ word_or b word page pool i
there_is page from n i word pool b e = ap (λ (c : Bool). word_or c word page pool i) e

two_words : (p q f g m n i : ℕ) (word other pool : ℕ → ℕ) → p ≢ q → f + m ≤ 512 → g + n ≤ 512
    → page_or p f m word (page_or q g n other pool) i ≡ page_or q g n other (page_or p f m word pool) i
two_words p q f g m n i word other pool apart room space = by (is_among p f m i) (is_among q g n i) refl refl
  where
    never : is_among p f m i ≡ true → is_among q g n i ≡ true → ⊥
    never here there = grind (arith, nat_tests)

    by : (b c : Bool) → is_among p f m i ≡ b → is_among q g n i ≡ c
        → page_or p f m word (page_or q g n other pool) i ≡ page_or q g n other (page_or p f m word pool) i
    by true true here there = absurd (never here there)
    by true false here there =
        there_is p f m i word (page_or q g n other pool) true here
        ∙ sym (there_is q g n i other (page_or p f m word pool) false there ∙ there_is p f m i word pool true here)
    by false true here there =
        there_is p f m i word (page_or q g n other pool) false here
        ∙ (there_is q g n i other pool true there ∙ sym (there_is q g n i other (page_or p f m word pool) true there))
    by false false here there =
        there_is p f m i word (page_or q g n other pool) false here
        ∙ (there_is q g n i other pool false there
        ∙ sym (there_is q g n i other (page_or p f m word pool) false there ∙ there_is p f m i word pool false here))

words_apart : (words : Area → ℕ → ℕ) (p q f g m n : ℕ) (word other : ℕ → ℕ) (b : Area) (i : ℕ) → p ≢ q → f + m ≤ 512 → g + n ≤ 512
    → put_words (put_words words q g n other) p f m word b i ≡ put_words (put_words words p f m word) q g n other b i
words_apart words p q f g m n word other b i apart room space = by (number_of b == number_of area.Pool)
  where
    by : (is : Bool)
        → area_or is p f m word (area_or is q g n other (words b)) i ≡ area_or is q g n other (area_or is p f m word (words b)) i
    by true = two_words p q f g m n i word other (words b) apart room space
    by false = refl

two_stored : (hand : ℕ → Held) (a b i : ℕ) (x y : Held) → a ≢ b → upd (upd hand b y) a x i ≡ upd (upd hand a x) b y i
two_stored hand a b i x y apart = grind (arith, nat_tests)

changed_round : (F G : Filler) (m n a b j k : ℕ) (g h : Held) (v : View) → a ≢ b → F.owned.page ≢ G.owned.page → F.owned.filled + m ≤ 512
    → G.owned.filled + n ≤ 512 → ◌≡◌ {A = View} (filled F m j g a (filled G n k h b v)) (filled G n k h b (filled F m j g a v))
changed_round F G m n a b j k g h v apart pages room space = λ s. record {
  words =
      λ c i. words_apart v.words F.owned.page G.owned.page F.owned.filled G.owned.filled m n F.word G.word c i pages room space s;
  hand = λ i. two_stored v.hand a b i (hand_filled F m j g) (hand_filled G n k h) apart s;
}

-- ---- n rounds of both

-- words and hands after the first round
abbrev first_round : Filler → Filler → ℕ → ℕ → ℕ → ℕ → Held → Held → View → View
first_round F G a b j k g h v = filled G 1 k h b (filled F 1 j g a v)

-- The first round can be made, and the others after it.
round_and_more : (z : Sizes) (F G : Filler) (n a b j k : ℕ) (g h : Held) (v : View) → a ≢ b → F.owned.page ≢ G.owned.page → CanFill z F (suc n) a j g v
    → CanFill z G (suc n) b k h v
    → Runs z (first_round F G a b j k g h v) (in_turn n (a ∷ b ∷ []))
    (filled (one_filled G) n (k + 1) h b (filled (one_filled F) n (j + 1) g a (first_round F G a b j k g h v))) []
    → Runs z v (in_turn (suc n) (a ∷ b ∷ [])) (filled G (suc n) k h b (filled F (suc n) j g a v)) []
round_and_more z F G n a b j k g h v apart pages C D rest =
    subst (λ (w : View). Runs z v (in_turn (suc n) (a ∷ b ∷ [])) w []) (turned_round ∙ whole)
    (run_on z v (first_round F G a b j k g h v)
    (filled (one_filled G) n (k + 1) h b (filled (one_filled F) n (j + 1) g a (first_round F G a b j k g h v))) (a ∷ b ∷ []) (in_turn n (a ∷ b ∷ []))
    [] [] first rest)
  where
    halfway : View
    halfway = filled F 1 j g a v

    second_can : CanFill z G 1 b k h halfway
    second_can = can_one z G n b k h halfway (can_still z F G 1 (suc n) a b j k g h v apart D)

    first : Runs z v (a ∷ b ∷ []) (first_round F G a b j k g h v) []
    first = run_on z v halfway (first_round F G a b j k g h v) (a ∷ []) (b ∷ []) [] [] (can_run z F 1 a j g v (can_one z F n a j g v C))
        (can_run z G 1 b k h halfway second_can)

    turned_round : ◌≡◌ {A = View} (filled (one_filled G) n (k + 1) h b (filled (one_filled F) n (j + 1) g a (first_round F G a b j k g h v)))
        (filled (one_filled G) n (k + 1) h b (filled G 1 k h b (filled F (suc n) j g a v)))
    turned_round = ap (λ (w : View). filled (one_filled G) n (k + 1) h b w)
        (changed_round (one_filled F) G n 1 a b (j + 1) k g h halfway apart pages (omega (arith, C.room)) (omega (arith, D.room))
        ∙ ap (λ (w : View). filled G 1 k h b w) (merged z F n a j g v C))

    whole : ◌≡◌ {A = View} (filled (one_filled G) n (k + 1) h b (filled G 1 k h b (filled F (suc n) j g a v)))
        (filled G (suc n) k h b (filled F (suc n) j g a v))
    whole = merged z G n b k h (filled F (suc n) j g a v) (can_still z F G (suc n) (suc n) a b j k g h v apart D)

pub rounds_run : (z : Sizes) (F G : Filler) (n a b j k : ℕ) (g h : Held) (v : View) → a ≢ b → F.owned.page ≢ G.owned.page → CanFill z F n a j g v
    → CanFill z G n b k h v → Runs z v (in_turn n (a ∷ b ∷ [])) (filled G n k h b (filled F n j g a v)) []
rounds_run z F G zero a b j k g h v apart pages C D =
    run_on z v (filled F 0 j g a v) (filled G 0 k h b (filled F 0 j g a v)) [] [] [] [] (can_run z F 0 a j g v C)
    (can_run z G 0 b k h (filled F 0 j g a v) (can_still z F G 0 0 a b j k g h v apart D))
rounds_run z F G (suc n) a b j k g h v apart pages C D =
    round_and_more z F G n a b j k g h v apart pages C D
    (rounds_run z (one_filled F) (one_filled G) n a b (j + 1) (k + 1) g h (first_round F G a b j k g h v) apart pages
    (can_still z G (one_filled F) 1 n b a k (j + 1) h g (filled F 1 j g a v) (λ e. apart (sym e)) (can_more z F n a j g v C))
    (can_more z G n b k h (filled F 1 j g a v) (can_still z F G 1 (suc n) a b j k g h v apart D)))
