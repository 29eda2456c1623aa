-- What an actor has filled of its page, each word as a function says: nothing of a page that it claims, and one word more after each fill.
use Rattle.std.proofs.Common.{◌≡◌, ◌≢◌, ◌⊎◌, inl, inr, ◌+◌, ◌<◌, ℕ, refl, sym, ap, ◌∙◌, arith}
use Rattle.std.specs.Prelude.{Option, Some, None}
use Rattle.core_views.specs.declared.topics.OwnedPage.{OwnedPage}
use Rattle.spte_words.specs.Areas.{pool_index}
use Rattle.part_steps.specs.PageTopics.{filled_more}
use Rattle.part_steps.specs.PartTasks.{page_owned, words_filled}
use Rattle.mmu_core.specs.machine.View.{upd}
use Rattle.mmu_core.proofs.machine.Columns.{same_or, upd_same}
use Rattle.mmu_core.proofs.words.PartWords.{fill_leaves}

-- The words so far hold what they are to hold.
abbrev pub AreFilled : (ℕ → ℕ) → (ℕ → ℕ) → Option OwnedPage → Type 0
AreFilled pool word owned = (o : OwnedPage) → owned ≡ Some o → (j : ℕ) → j < o.filled → j < 512 → pool (pool_index o.page j) ≡ word j

-- There are none.
pub none_filled : (pool word : ℕ → ℕ) (p : OwnedPage) → p.filled ≡ 0 → AreFilled pool word (Some p)
none_filled pool word p none o is j lt low = let same : p.filled ≡ o.filled = ap words_filled is in absurd (omega (arith, lt, none, same))

-- One more word of the page is filled.
pub one_more : (pool word : ℕ → ℕ) (x : Option OwnedPage) (v : ℕ) → words_filled x < 512 → AreFilled pool word x
    → AreFilled (upd pool (pool_index (page_owned x) (words_filled x)) (word (words_filled x))) word (filled_more x v)
one_more pool word None v few F o is j lt low = absurd (cc is)
one_more pool word (Some p) v few F o is j lt low =
    ap (λ k. upd pool (pool_index p.page p.filled) (word p.filled) (pool_index k j)) page ∙ by (same_or j p.filled)
  where
    page : o.page ≡ p.page
    page = sym (ap page_owned is)

    filled : o.filled ≡ p.filled + 1
    filled = sym (ap words_filled is)

    by : (j ≡ p.filled) ⊎ (j ≢ p.filled) → upd pool (pool_index p.page p.filled) (word p.filled) (pool_index p.page j) ≡ word j
    by (inl e) =
        ap (λ k. upd pool (pool_index p.page p.filled) (word p.filled) (pool_index p.page k)) e
        ∙ upd_same pool (pool_index p.page p.filled) (word p.filled) ∙ ap word (sym e)
    by (inr ne) =
        fill_leaves p.page p.filled (word p.filled) pool p.page j few low (λ same d. ne (sym d)) ∙ F p refl j (omega (arith, lt, filled, ne)) low

-- Its role is stored.
pub all_filled : (pool word : ℕ → ℕ) (x : Option OwnedPage) (v : ℕ) → words_filled x ≡ 512 → AreFilled pool word x → AreFilled pool word (filled_more x v)
all_filled pool word None v full F o is j lt low = absurd (cc is)
all_filled pool word (Some p) v full F o is j lt low = ap (λ k. pool (pool_index k j)) (sym (ap page_owned is)) ∙ F p refl j (omega (arith, full, low)) low
