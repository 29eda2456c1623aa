-- The page that an actor owns, by what is read of it.
use Rattle.std.proofs.Common.{◌≡◌, ◌⊎◌, inl, inr, ◌+◌, ◌-◌, ◌<◌, ℕ, refl, sym, ap, ◌∙◌, arith}
use Rattle.std.specs.Prelude.{Bool, true, false, ◌==◌, ◌&&◌, ◌||◌, nat_le, if◌then◌else◌, Option, Some, None, is_some}
use Rattle.std.proofs.lemmas.Bool.Decides.{nat_tests}
use Rattle.core_views.specs.declared.topics.OwnedPage.{OwnedPage}
use Rattle.core_views.specs.declared.topics.TableWalk.{TableWalk}
use Rattle.core_views.specs.declared.topics.Topics.{Topics}
use Rattle.part_steps.specs.PartTasks.{is_below, role_filled, words_filled}
use Rattle.part_steps.specs.PartHoldings.{OwnsTable}
use Rattle.part_steps.specs.SetHoldings.{OwnsSet}
use Rattle.spte_words.specs.Entries.{word_below}
use Rattle.part_steps.specs.SetWords.{set_role}
use Rattle.part_steps.specs.PageTopics.{filled_more}
use Rattle.mmu_core.proofs.machine.ColumnsTell.{some_is}

-- the page
pub owned_some : (t : Topics) → is_some t.owned ≡ true → (o : OwnedPage) × (t.owned ≡ Some o)
owned_some t some = some_is t.owned some

-- Where some of its words are filled there is one.
pub some_filled : (x : Option OwnedPage) (n : ℕ) → words_filled x ≡ n → 0 < n → is_some x ≡ true
some_filled None n is some = absurd (omega (arith, is, some))
some_filled (Some o) n is some = refl

-- The page is filled whole, and this is its role.
pub record OwnsWhole (stored : ℕ) (t : Topics) : Type 0 where
  pub owned : OwnedPage
  pub is : t.owned ≡ Some owned
  pub whole : owned.filled ≡ 513
  pub role : owned.role ≡ stored

whole_owned : (stored : ℕ) (t : Topics) → words_filled t.owned ≡ 513 → role_filled t.owned ≡ stored → OwnsWhole stored t
whole_owned stored t whole role = by t.owned refl whole role
  where
    by : (x : Option OwnedPage) → t.owned ≡ x → words_filled x ≡ 513 → role_filled x ≡ stored → OwnsWhole stored t
    by None is whole role = absurd (omega (arith, whole))
    by (Some o) is whole role = record { owned = o; is = is; whole = whole; role = role }

pub table_owned : (t : Topics) → OwnsTable t → OwnsWhole (t.walk.level - 1) t
table_owned t O = whole_owned (t.walk.level - 1) t O.whole O.role

pub set_owned : (t : Topics) → OwnsSet t → OwnsWhole set_role t
set_owned t O = whole_owned set_role t O.whole O.role

-- Its words are those below the entry that the walk has loaded.
pub is_below_of : (walk : TableWalk) (o : OwnedPage) → is_below walk (Some o) ≡ true → (o.below ≡ true) × (o.level ≡ walk.level) × (o.entry ≡ walk.entry)
is_below_of walk o is = by o.below (o.level == walk.level) (o.entry == walk.entry) refl refl refl is
  where
    by : (b same_level same_entry : Bool) → o.below ≡ b → (o.level == walk.level) ≡ same_level → (o.entry == walk.entry) ≡ same_entry
        → (b && (same_level && same_entry)) ≡ true → (o.below ≡ true) × (o.level ≡ walk.level) × (o.entry ≡ walk.entry)
    by true true true below level entry all = (below, grind (arith, nat_tests), grind (arith, nat_tests))
    by true true false below level entry all = absurd (cc all)
    by true false same_entry below level entry all = absurd (cc all)
    by false same_level same_entry below level entry all = absurd (cc all)

-- ---- One more word of the page is filled, or its role is stored.

pub more_some : (x : Option OwnedPage) (v : ℕ) → is_some x ≡ true → is_some (filled_more x v) ≡ true
more_some None v some = absurd (cc some)
more_some (Some o) v some = refl

pub more_filled : (x : Option OwnedPage) (v : ℕ) → is_some x ≡ true → words_filled (filled_more x v) ≡ words_filled x + 1
more_filled None v some = absurd (cc some)
more_filled (Some o) v some = refl

-- Its words are those below the entry still, if the one that is filled is.
pub more_below : (walk : TableWalk) (x : Option OwnedPage) (v : ℕ) → is_below walk x ≡ true
    → (v ≡ word_below walk.level walk.entry (words_filled x)) ⊎ (words_filled x ≡ 512) → is_below walk (filled_more x v) ≡ true
more_below walk None v is so = absurd (cc is)
more_below walk (Some o) v is so = by o.below (o.level == walk.level) (o.entry == walk.entry) refl refl is so
  where
    either : (a b : Bool) → b ≡ true → ((a || b) && true) ≡ true
    either true b is = refl
    either false b is = ap (λ (c : Bool). c && true) is

    by : (b same_level same_entry : Bool) → (o.level == walk.level) ≡ same_level → (o.entry == walk.entry) ≡ same_entry
        → (b && (same_level && same_entry)) ≡ true → (v ≡ word_below walk.level walk.entry o.filled) ⊎ (o.filled ≡ 512)
        → ((b && (nat_le 512 o.filled || v == word_below o.level o.entry o.filled)) && (same_level && same_entry)) ≡ true
    by true true true level entry is (inr full) =
        let whole : nat_le 512 o.filled ≡ true = grind (arith, nat_tests, full) in
        ap (λ (b : Bool). (b || v == word_below o.level o.entry o.filled) && true) whole
    by true true true level entry is (inl word) =
        let at_level : o.level ≡ walk.level = grind (arith, nat_tests) in
        let at_entry : o.entry ≡ walk.entry = grind (arith, nat_tests) in
        let fits : v ≡ word_below o.level o.entry o.filled = word ∙ sym (ap (λ e. word_below o.level e o.filled) at_entry
        ∙ ap (λ l. word_below l walk.entry o.filled) at_level) in
        let same : (v == word_below o.level o.entry o.filled) ≡ true = grind (arith, nat_tests, fits) in
        either (nat_le 512 o.filled) (v == word_below o.level o.entry o.filled) same
    by true true false level entry is so = absurd (cc is)
    by true false same_entry level entry is so = absurd (cc is)
    by false same_level same_entry level entry is so = absurd (cc is)

pub more_role : (x : Option OwnedPage) (v : ℕ) → words_filled x ≡ 512 → role_filled (filled_more x v) ≡ v
more_role None v full = absurd (omega (arith, full))
more_role (Some o) v full = let last : (o.filled == 512) ≡ true = grind (arith, nat_tests, full) in ap (λ (b : Bool). if b then v else o.role) last
