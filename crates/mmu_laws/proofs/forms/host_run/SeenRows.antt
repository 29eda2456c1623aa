-- Pages that a line has looked at in a row: which pages they are, and which words they have.
use Rattle.std.proofs.lemmas.Bool.Decides.{nat_tests}
use Rattle.std.proofs.lemmas.Bool.{cases_lt}
use Rattle.std.proofs.Common.{◌≡◌, ◌⊎◌, inl, inr, ◌+◌, ◌-◌, ◌*◌, ◌/◌, ◌%◌, ◌^◌, ◌<◌, ◌≤◌, ℕ, refl, sym, subst, ap, ◌∙◌, arith, eqb-true}
use Rattle.std.specs.Prelude.{Bool, true, false, not, ◌==◌, ◌&&◌, if◌then◌else◌, nat_lt}
use Rattle.core_views.specs.Host.{is_huge}
use Rattle.core_views.specs.HostRuns.{IsAmong, continues}
use Rattle.spte_words.specs.HostWords.{host_allows_write, host_frame, host_level, host_present, host_word}
use Rattle.part_steps.specs.PageRuns.{word_in_row}
use Rattle.mmu_core.specs.forms.host.HostSteps.{entry_of, maps_large}
use Rattle.mmu_core.specs.forms.host_run.HostRunSteps.{other_page}
use Rattle.mmu_core.specs.invariant.HostWordsPart.{IsHostWord}
use Rattle.mmu_core.proofs.forms.access.FaultSame.{both}
use Rattle.mmu_core.proofs.held.OwnRowsKept.{further_level, further_present}
use Rattle.mmu_laws.specs.forms.host_run.HostRunStages.{IsLooked, seen_row}

-- ---- which pages were looked at

-- The first look is at the line's own page.
pub first_looked : (first page other : ℕ) → first ≤ page → IsLooked first page 1 other → other ≡ page
first_looked first page other from (inl is) = is
first_looked first page other from (inr (inl before)) =
    let low = before.0 in
    let high = before.2 in
    absurd (omega (arith, low, high))
first_looked first page other from (inr (inr after)) =
    let low = after.0 in
    let high = after.1 in
    absurd (omega (arith, from, low, high))

-- One more look is at the page that comes next.
pub next_looked : (first page looked other : ℕ) → 1 ≤ looked → first ≤ page → IsLooked first page (looked + 1) other
    → IsLooked first page looked other ⊎ (other ≡ other_page first page looked)
next_looked first page looked other some from (inl is) = inl (inl is)
next_looked first page looked other some from (inr (inl before)) = by (cases_lt (other + 1) (first + looked))
  where
    by : (other + 1 < first + looked) ⊎ (first + looked ≤ other + 1) → IsLooked first page looked other ⊎ (other ≡ other_page first page looked)
    by (inl less) = inl (inr (inl (before.0, before.1, less)))
    by (inr more) =
        let under = before.1 in
        let high = before.2 in
        let last : other ≡ first + (looked - 1) = omega (arith, more, high, some) in
        let lt : nat_lt (first + (looked - 1)) page ≡ true = grind (arith, nat_tests) in
        inr (last ∙ ap (λ (b : Bool). if b then first + (looked - 1) else first + looked) (sym lt))
next_looked first page looked other some from (inr (inr after)) = by (cases_lt other (first + looked))
  where
    by : (other < first + looked) ⊎ (first + looked ≤ other) → IsLooked first page looked other ⊎ (other ≡ other_page first page looked)
    by (inl less) = inl (inr (inr (after.0, less)))
    by (inr more) =
        let over = after.0 in
        let high = after.1 in
        let last : other ≡ first + looked = omega (arith, more, high) in
        inr (last ∙ ap (λ (b : Bool). if b then first + (looked - 1) else first + looked) (sym (own_passed (omega (arith, over, last, some)))))
      where
        own_passed : page ≤ first + (looked - 1) → nat_lt (first + (looked - 1)) page ≡ false
        own_passed le = grind (arith, nat_tests)

-- With all looks each page of the run was looked at, and no other one ever is.
pub all_looked : (first count page other : ℕ) → IsAmong first count page → IsAmong first count other → IsLooked first page count other
all_looked first count page other own there = by (cases_lt other page) (cases_lt page other)
  where
    by : (other < page) ⊎ (page ≤ other) → (page < other) ⊎ (other ≤ page) → IsLooked first page count other
    by (inl less) on = let high = own.1 in inr (inl (there.0, less, omega (arith, less, high)))
    by (inr at) (inl more) = inr (inr (more, there.1))
    by (inr at) (inr to) = inl (omega (arith, at, to))

pub looked_among : (first count page other : ℕ) → IsAmong first count page → (looked : ℕ) → looked ≤ count → IsLooked first page looked other
    → IsAmong first count other
looked_among first count page other own looked few (inl is) = subst (IsAmong first count) (sym is) own
looked_among first count page other own looked few (inr (inl before)) =
    let less = before.1 in
    let end_ = own.1 in
    (before.0, omega (arith, less, end_))
looked_among first count page other own looked few (inr (inr after)) =
    let begins = own.0 in
    let more = after.0 in
    let less = after.1 in
    (omega (arith, begins, more), omega (arith, less, few))

-- ---- the words of a row

further_frame : (word k : ℕ) → host_frame (word + 4096 * k) ≡ host_frame word + k
unfolding host_frame
further_frame word k = omega arith

second_bit : (word k : ℕ) → (word + 4096 * k) / 2 ^ 1 % 2 ≡ word / 2 ^ 1 % 2
second_bit word k = omega arith

further_writable : (word k : ℕ) → host_allows_write (word + 4096 * k) ≡ host_allows_write word
unfolding host_allows_write
further_writable word k = ap (λ n. n == 1) (second_bit word k)

-- The page that is so many further has the word that is so many frames further.
pub seen_further : (word page k : ℕ) → seen_row word page (page + k) ≡ entry_of (word + 4096 * k)
seen_further word page k = ap entry_of (let same : word_in_row word page (page + k) ≡ word + 4096 * k = omega arith in same)

pub seen_own : (word page : ℕ) → seen_row word page page ≡ entry_of word
seen_own word page = ap entry_of (let same : word_in_row word page page ≡ word = omega arith in same)

-- It is alike in all but its frame.
pub further_entry : (word k : ℕ) → entry_of (word + 4096 * k) ≡ record (entry_of word) { frame = host_frame word + k }
further_entry word k =
    let put : ℕ = word + 4096 * k in
    ap (λ (f : ℕ). record { frame = f; present = host_present put; writable = host_allows_write put; level = host_level put }) (further_frame word k)
    ∙ ap (λ (b : Bool). record { frame = host_frame word + k; present = b; writable = host_allows_write put; level = host_level put }) (further_present word k)
    ∙ ap (λ (b : Bool). record { frame = host_frame word + k; present = host_present word; writable = b; level = host_level put }) (further_writable word k)
    ∙ ap (λ (l : ℕ). record { frame = host_frame word + k; present = host_present word; writable = host_allows_write word; level = l }) (further_level word k)

pub small_further : (word k : ℕ) → maps_large word ≡ false → is_huge (entry_of (word + 4096 * k)) ≡ false
small_further word k small = ap (λ l. nat_lt 1 l) (further_level word k) ∙ small

further_word : (frame k level : ℕ) (present writable : Bool)
    → host_word (frame + k) present writable level ≡ host_word frame present writable level + 4096 * k
unfolding host_word
further_word frame k level present writable = omega arith

-- Of two levels that are not above the lowest one.
pub same_level : (found level : ℕ) → 1 ≤ found → nat_lt 1 found ≡ false → 1 ≤ level → nat_lt 1 level ≡ false → found ≡ level
same_level found level some small some_too small_too = grind (arith, nat_tests)

same_writes : (one other : Bool) → (if one then other else not other) ≡ true → other ≡ one
same_writes true other is = is
same_writes false true is = absurd (cc is)
same_writes false false is = refl

-- A small page that continues the row has the row's word.
pub continues_word : (frames word found k : ℕ) → IsHostWord frames word → IsHostWord frames found → maps_large word ≡ false → maps_large found ≡ false
    → host_present word ≡ true → continues (host_frame word + k) (host_allows_write word) (entry_of found) ≡ true → found ≡ word + 4096 * k
continues_word frames word found k own there small small_too present is =
    there.0 ∙ alike ∙ further_word (host_frame word) k (host_level word) (host_present word) (host_allows_write word) ∙ ap (λ w. w + 4096 * k) (sym own.0)
  where
    one : (host_present found ≡ true)
        × ((host_frame found == host_frame word + k && (if host_allows_write word then host_allows_write found else not (host_allows_write found))) ≡ true)
    one = both (host_present found) _ is

    two : ((host_frame found == host_frame word + k) ≡ true)
        × ((if host_allows_write word then host_allows_write found else not (host_allows_write found)) ≡ true)
    two = both (host_frame found == host_frame word + k) _ one.1

    alike : host_word (host_frame found) (host_present found) (host_allows_write found) (host_level found)
        ≡ host_word (host_frame word + k) (host_present word) (host_allows_write word) (host_level word)
    alike =
        ap (λ f. host_word f (host_present found) (host_allows_write found) (host_level found)) (eqb-true (host_frame found) (host_frame word + k) two.0)
        ∙ ap (λ b. host_word (host_frame word + k) b (host_allows_write found) (host_level found)) (one.0 ∙ sym present)
        ∙ ap (λ b. host_word (host_frame word + k) (host_present word) b (host_level found))
        (same_writes (host_allows_write word) (host_allows_write found) two.1)
        ∙ ap (host_word (host_frame word + k) (host_present word) (host_allows_write word))
        (same_level (host_level found) (host_level word) there.2 small_too own.2 small)
