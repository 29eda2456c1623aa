-- What the next fills of a page make of words and hands, all of them at once.
use Rattle.std.proofs.Common.{◌≡◌, ◌≢◌, ◌⊎◌, inl, inr, ◌+◌, ◌*◌, ◌-◌, ◌^◌, ◌<◌, ◌≤◌, ℕ, zero, suc, List, [], ◌∷◌, ◌++◌}
use Rattle.std.proofs.Common.{length, refl, sym, subst, ap, ◌∙◌, arith}
use Rattle.std.specs.Prelude.{Bool, true, false, ◌&&◌, ◌==◌, nat_le, nat_lt, Some, if◌then◌else◌}
use Rattle.std.proofs.lemmas.Bool.Decides.{nat_tests}
use Rattle.core_views.specs.declared.event.Event.{Event}
use Rattle.core_views.specs.declared.place.Place.{Place}
use Rattle.core_views.specs.declared.sizes.Sizes.{Sizes}
use Rattle.core_views.specs.declared.topics.OwnedPage.{OwnedPage}
use Rattle.core_views.specs.declared.trace.Command.{Command}
use Rattle.core_views.specs.Held.{Held}
use Rattle.core_views.specs.Sizes.{actors_of}
use Rattle.spte_words.specs.declared.area.Area.{Area}
use Rattle.spte_words.specs.declared.area.Area.TheVariants as area
use Rattle.spte_words.specs.Areas.{number_of, pool_index}
use Rattle.mmu_core.specs.machine.View.{View, put, upd}
use Rattle.mmu_core.proofs.machine.Columns.{same_or, upd_same}
use Rattle.mmu_laws.specs.steps.ExampleRaces.{in_turn}
use Rattle.mmu_laws.proofs.steps.ViewRuns.{HaveLines, Runs, tale, tells, turned, turned_all}
use Rattle.spte_words.specs.Entries.{word_below}

-- ---- the words

-- Index i is of word `from` of the page, or of the n - 1 words after it.
abbrev pub is_among : ℕ → ℕ → ℕ → ℕ → Bool
is_among page from n i = nat_le (512 * page + from) i && nat_lt i (512 * page + (from + n))

abbrev pub word_or : Bool → (ℕ → ℕ) → ℕ → (ℕ → ℕ) → ℕ → ℕ
word_or true word page pool i = word (i - 512 * page)
word_or false word page pool i = pool i

abbrev pub area_or : Bool → ℕ → ℕ → ℕ → (ℕ → ℕ) → (ℕ → ℕ) → ℕ → ℕ
area_or true page from n word pool i = word_or (is_among page from n i) word page pool i
area_or false page from n word pool i = pool i

-- the words with n words of a page, beginning with word `from`, as a function says
abbrev pub put_words : (Area → ℕ → ℕ) → ℕ → ℕ → ℕ → (ℕ → ℕ) → Area → ℕ → ℕ
put_words words page from n word b i = area_or (number_of b == number_of area.Pool) page from n word (words b) i

-- one word, and the n words after it
one_word_more : (pool word : ℕ → ℕ) (page from n i : ℕ)
    → word_or (is_among page (from + 1) n i) word page (upd pool (512 * page + from) (word from)) i
    ≡ word_or (is_among page from (suc n) i) word page pool i
one_word_more pool word page from n i = by (same_or i (512 * page + from))
  where
    here : i ≡ 512 * page + from → is_among page (from + 1) n i ≡ false
    here e = grind (arith, nat_tests)

    first : i ≡ 512 * page + from → is_among page from (suc n) i ≡ true
    first e = grind (arith, nat_tests)

    there : i ≢ 512 * page + from → is_among page (from + 1) n i ≡ is_among page from (suc n) i
    there ne = grind (arith, nat_tests)

    other : (b : Bool) → i ≢ 512 * page + from
        → word_or b word page (upd pool (512 * page + from) (word from)) i ≡ word_or b word page pool i
    other true ne = refl
    other false ne = grind (arith, nat_tests)

    by : (i ≡ 512 * page + from) ⊎ (i ≢ 512 * page + from)
        → word_or (is_among page (from + 1) n i) word page (upd pool (512 * page + from) (word from)) i
        ≡ word_or (is_among page from (suc n) i) word page pool i
    by (inl e) =
        ap (λ b. word_or b word page (upd pool (512 * page + from) (word from)) i) (here e)
        ∙ ap (upd pool (512 * page + from) (word from)) e
        ∙ upd_same pool (512 * page + from) (word from)
        ∙ sym (ap (λ b. word_or b word page pool i) (first e) ∙ ap word (omega (arith, e)))
    by (inr ne) =
        ap (λ b. word_or b word page (upd pool (512 * page + from) (word from)) i) (there ne)
        ∙ other (is_among page from (suc n) i) ne

words_more : (words : Area → ℕ → ℕ) (word : ℕ → ℕ) (page from n : ℕ) (b : Area) (i : ℕ)
    → put_words (put words area.Pool (pool_index page from) (word from)) page (from + 1) n word b i ≡ put_words words page from (suc n) word b i
unfolding pool_index
words_more words word page from n b i = by (number_of b == number_of area.Pool)
  where
    by : (is : Bool) → area_or is page (from + 1) n word (if is then upd (words b) (512 * page + from) (word from) else words b) i
        ≡ area_or is page from (suc n) word (words b) i
    by true = one_word_more (words b) word page from n i
    by false = refl

no_words : (words : Area → ℕ → ℕ) (word : ℕ → ℕ) (page from : ℕ) (b : Area) (i : ℕ) → words b i ≡ put_words words page from 0 word b i
no_words words word page from b i = by (number_of b == number_of area.Pool)
  where
    none : is_among page from 0 i ≡ false
    none = grind (arith, nat_tests)

    by : (is : Bool) → words b i ≡ area_or is page from 0 word (words b) i
    by true = sym (ap (λ (among : Bool). word_or among word page (words b) i) none)
    by false = refl

-- ---- the hand

-- n words, beginning with this one, are those below an entry of the level.
abbrev pub are_below : ℕ → ℕ → (ℕ → ℕ) → ℕ → ℕ → Bool
are_below level entry word from zero = true
are_below level entry word from (suc n) = word from == word_below level entry from && are_below level entry word (from + 1) n

-- the page with n words more; whether all are those below its entry is seldom asked, and so not computed before
abbrev pub filled_with : (ℕ → ℕ) → ℕ → OwnedPage → OwnedPage
filled_with word n o =
    let below : Bool = o.below && are_below o.level o.entry word o.filled n in
    record { page = o.page; filled = o.filled + n; entry = o.entry; level = o.level; below = below; role = o.role }

-- the hand with its line at this place, this command, page and count of steps
abbrev pub at_fill : Place → Command → OwnedPage → ℕ → Held → Held
at_fill p command o steps h = record {
  state = record h.state { place = p; line = record h.state.line { command = command }; steps = steps };
  topics = record h.topics { owned = Some o };
  cached = h.cached;
  slots = h.slots;
  harvest = h.harvest;
  lines = h.lines;
  answers = h.answers;
}

-- How a line fills its page: its command, its place while words are left and after the last one, what each word is to hold, and the page as it is.
pub record Filler : Type 0 where
  pub command : Command
  pub place : Bool → Place
  pub word : ℕ → ℕ
  pub owned : OwnedPage

-- the hand after n fills more, and words and hands
abbrev pub hand_filled : Filler → ℕ → ℕ → Held → Held
hand_filled F n steps h = at_fill (F.place (nat_lt (F.owned.filled + n) 512)) F.command (filled_with F.word n F.owned) (steps + n) h

abbrev pub filled : Filler → ℕ → ℕ → Held → ℕ → View → View
filled F n steps h a v = record {
  words = put_words v.words F.owned.page F.owned.filled n F.word;
  hand = upd v.hand a (hand_filled F n steps h);
}

-- the line after one fill
abbrev pub one_filled : Filler → Filler
one_filled F = record { command = F.command; place = F.place; word = F.word; owned = filled_with F.word 1 F.owned }

-- The hand is at a fill of this line, or after the last one.
abbrev pub IsFilling : Filler → ℕ → Held → Held → Type 0
IsFilling F steps h held = held ≡ at_fill (F.place (nat_lt F.owned.filled 512)) F.command F.owned steps h

-- A fill makes this of words and hands, and tells nothing.
pub record FillsOne (F : Filler) (h : Held) : Type 0 where
  pub makes : (v : View) (a steps : ℕ) (o : OwnedPage) → v.hand a ≡ at_fill (F.place true) F.command o steps h → o.filled < 512
      → o.page < h.state.sizes.pool → steps < 2 ^ 64 - 1
      → ◌≡◌ {A = View} (turned v a) (record {
        words = put v.words area.Pool (pool_index o.page o.filled) (F.word o.filled);
        hand = upd v.hand a (at_fill (F.place (nat_lt (o.filled + 1) 512)) F.command (filled_with F.word 1 o) (steps + 1) h);
      })
  pub tells_none : (v : View) (a steps : ℕ) (o : OwnedPage) → v.hand a ≡ at_fill (F.place true) F.command o steps h → tells v a ≡ []

-- ---- all of them

and_true : (b : Bool) → b ≡ (b && true)
and_true true = refl
and_true false = refl

and_later : (a b c : Bool) → ((a && (b && true)) && c) ≡ (a && (b && c))
and_later true true c = refl
and_later true false c = refl
and_later false b c = refl

-- no fill
none_made : (F : Filler) (steps : ℕ) (h held : Held) → IsFilling F steps h held → held ≡ hand_filled F 0 steps h
none_made F steps h held is = is ∙ same (omega arith) (omega arith)
  where
    o : OwnedPage
    o = F.owned

    same : o.filled ≡ o.filled + 0 → steps ≡ steps + 0 → at_fill (F.place (nat_lt o.filled 512)) F.command o steps h ≡ hand_filled F 0 steps h
    same filled_is steps_are = λ s. at_fill (F.place (nat_lt (filled_is s) 512)) F.command
        (record { page = o.page; filled = filled_is s; entry = o.entry; level = o.level; below = and_true o.below s; role = o.role }) (steps_are s) h

-- one, and n after it
one_made : (F : Filler) (n steps : ℕ) (h : Held) → hand_filled (one_filled F) n (steps + 1) h ≡ hand_filled F (suc n) steps h
one_made F n steps h =
    let o : OwnedPage = F.owned in
    let more : o.filled + 1 + n ≡ o.filled + suc n = omega arith in
    let count : steps + 1 + n ≡ steps + suc n = omega arith in
    let fits : Bool = F.word o.filled == word_below o.level o.entry o.filled in
    let below : ((o.below && (fits && true)) && are_below o.level o.entry F.word (o.filled + 1) n)
    ≡ (o.below && (fits && are_below o.level o.entry F.word (o.filled + 1) n)) =
    and_later o.below fits (are_below o.level o.entry F.word (o.filled + 1) n) in
    λ s. at_fill (F.place (nat_lt (more s) 512)) F.command
    (record { page = o.page; filled = more s; entry = o.entry; level = o.level; below = below s; role = o.role }) (count s) h

-- a hand that is stored twice
pub stored_again : (hand : ℕ → Held) (a i : ℕ) (x y y' : Held) → y ≡ y' → upd (upd hand a x) a y i ≡ upd hand a y' i
stored_again hand a i x y y' e = by (i == a)
  where
    by : (b : Bool) → (if b then y else (if b then x else hand i)) ≡ (if b then y' else hand i)
    by true = e
    by false = refl

pub nothing_stored : (hand : ℕ → Held) (a i : ℕ) (x : Held) → hand a ≡ x → hand i ≡ upd hand a x i
nothing_stored hand a i x e = by (same_or i a)
  where
    by : (i ≡ a) ⊎ (i ≢ a) → hand i ≡ upd hand a x i
    by (inl is) = ap hand is ∙ (e ∙ sym (ap (upd hand a x) is ∙ upd_same hand a x))
    by (inr ne) = grind (arith, nat_tests)

-- what the first fill makes
abbrev first_filled : Filler → ℕ → Held → ℕ → View → View
first_filled F steps h a v = record {
  words = put v.words area.Pool (pool_index F.owned.page F.owned.filled) (F.word F.owned.filled);
  hand = upd v.hand a (at_fill (F.place (nat_lt (F.owned.filled + 1) 512)) F.command (filled_with F.word 1 F.owned) (steps + 1) h);
}

-- The first fill can be made, and the others after it.
one_and_more : (z : Sizes) (F : Filler) (n a steps : ℕ) (h : Held) (v : View) → FillsOne F h → a < actors_of z
    → length h.answers < length h.lines → IsFilling F steps h (v.hand a) → F.owned.filled + suc n ≤ 512
    → F.owned.page < h.state.sizes.pool → steps + suc n ≤ 2 ^ 64 - 1
    → Runs z (first_filled F steps h a v) (in_turn n (a ∷ [])) (filled (one_filled F) n (steps + 1) h a (first_filled F steps h a v)) []
    → Runs z v (in_turn (suc n) (a ∷ [])) (filled F (suc n) steps h a v) []
one_and_more z F n a steps h v S there L is room page few rest = record {
  have = (
    there,
    subst (λ (g : Held). length g.answers < length g.lines) (sym here) L,
    subst (λ (w : View). HaveLines z w (in_turn n (a ∷ []))) (sym goes) rest.have,
  );
  leads = ap (λ (w : View). turned_all w (in_turn n (a ∷ []))) goes ∙ (rest.leads ∙ same);
  tells_them = ap (λ (es : List Event). es ++ tale (turned v a) (in_turn n (a ∷ []))) (S.tells_none v a steps o here)
      ∙ (ap (λ (w : View). tale w (in_turn n (a ∷ []))) goes ∙ rest.tells_them);
}
  where
    o : OwnedPage
    o = F.owned

    left : nat_lt o.filled 512 ≡ true
    left = let lt : o.filled < 512 = omega (arith, room) in grind (arith, nat_tests)

    here : v.hand a ≡ at_fill (F.place true) F.command o steps h
    here = is ∙ ap (λ b. at_fill (F.place b) F.command o steps h) left

    goes : ◌≡◌ {A = View} (turned v a) (first_filled F steps h a v)
    goes = S.makes v a steps o here (omega (arith, room)) page (omega (arith, few))

    same : ◌≡◌ {A = View} (filled (one_filled F) n (steps + 1) h a (first_filled F steps h a v)) (filled F (suc n) steps h a v)
    same = λ s. record {
      words = λ b i. words_more v.words F.word o.page o.filled n b i s;
      hand = λ i. stored_again v.hand a i (hand_filled F 1 steps h) (hand_filled (one_filled F) n (steps + 1) h)
          (hand_filled F (suc n) steps h) (one_made F n steps h) s;
    }

pub fills_run : (z : Sizes) (F : Filler) (n a steps : ℕ) (h : Held) (v : View) → FillsOne F h → a < actors_of z
    → length h.answers < length h.lines → IsFilling F steps h (v.hand a) → F.owned.filled + n ≤ 512
    → F.owned.page < h.state.sizes.pool → steps + n ≤ 2 ^ 64 - 1
    → Runs z v (in_turn n (a ∷ [])) (filled F n steps h a v) []
fills_run z F zero a steps h v S there L is room page few = record {
  have = tt;
  leads = λ s. record {
    words = λ b i. no_words v.words F.word F.owned.page F.owned.filled b i s;
    hand = λ i. nothing_stored v.hand a i (hand_filled F 0 steps h) (none_made F steps h (v.hand a) is) s;
  };
  tells_them = refl;
}
fills_run z F (suc n) a steps h v S there L is room page few =
    one_and_more z F n a steps h v S there L is room page few
    (fills_run z (one_filled F) n a (steps + 1) h (first_filled F steps h a v) (record { makes = S.makes; tells_none = S.tells_none }) there L
    (upd_same v.hand a (hand_filled F 1 steps h)) (omega (arith, room)) page (omega (arith, few)))
