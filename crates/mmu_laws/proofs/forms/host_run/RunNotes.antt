-- What a line that looks at the pages of a run has noted of them, look by look.
use Rattle.std.proofs.Common.{◌≡◌, ◌≢◌, ◌⊎◌, inl, inr, ◌+◌, ◌-◌, ◌*◌, ◌/◌, ◌^◌, ◌<◌, ◌≤◌, ℕ, refl, sym, subst, ap, ◌∙◌, arith, eq-eqb}
use Rattle.std.specs.Prelude.{Bool, true, false, ◌==◌, ◌&&◌, if◌then◌else◌, nat_lt, not, Some}
use Rattle.std.proofs.lemmas.Bool.Decides.{nat_tests}
use Rattle.core_views.specs.declared.host.HostEntry.{HostEntry}
use Rattle.core_views.specs.declared.topics.HostRow.{HostRow}
use Rattle.core_views.specs.declared.trace.RunChange.{RunChange}
use Rattle.core_views.specs.declared.trace.RunChange.TheVariants.{Huge, Small}
use Rattle.core_views.specs.Flat.{Notes}
use Rattle.core_views.specs.Host.{HostMap, is_huge, with_entry}
use Rattle.core_views.specs.HostRuns.{IsAmong, continues, run_count, run_first, run_pages}
use Rattle.core_views.proofs.RunStages.{some_pages}
use Rattle.spte_words.specs.Entries.{level_span}
use Rattle.spte_words.proofs.Spans.{span_3}
use Rattle.spte_words.specs.HostWords.{host_allows_write, host_frame, host_present}
use Rattle.part_steps.specs.PageRuns.{continues_row, one_look, word_in_row}
use Rattle.mmu_core.specs.forms.host.HostSteps.{entry_of, maps_large}
use Rattle.mmu_core.specs.forms.host_run.HostRunSteps.{other_page}
use Rattle.mmu_core.specs.invariant.HostWordsPart.{IsHostWord}
use Rattle.mmu_core.proofs.forms.access.FaultSame.{both}
use Rattle.mmu_core.proofs.machine.Columns.{same_or}
use Rattle.mmu_laws.specs.forms.host_run.HostRunStages.{HasSeenGap, HasSeenRow, IsLooked, SeenBy, in_order, seen_row}
use Rattle.mmu_laws.proofs.forms.access.FaultNotes.{entry_noted}
use Rattle.mmu_laws.proofs.forms.host.ExchangeFlat.{apart_false}
use Rattle.mmu_laws.proofs.forms.host_run.SeenRows.{continues_word, first_looked, next_looked, seen_further, seen_own, small_further}

-- What holds of each number of pages that a run may have.
pub each_pages : (P : ℕ → Type 0) → P 262144 → P 512 → P 1 → (level : ℕ) → P (run_pages level)
each_pages P largest large small level = by (level == 3) (level == 2)
  where
    by : (a b : Bool) → P (if a then 262144 else if b then 512 else 1)
    by true b = largest
    by false true = large
    by false false = small

-- The line's own page is one of the run's.
pub own_among : (change : RunChange) (page : ℕ) (entry : HostEntry) → IsAmong (run_first change page entry) (run_count change entry) page
own_among (Huge level) page entry = let some = some_pages level in let is = some.1 in (omega arith, omega (arith, is))
own_among Small page entry =
    each_pages (λ n. (page / n * n ≤ page) × (page < page / n * n + n))
    (omega arith, omega arith) (omega arith, omega arith) (omega arith, omega arith) entry.level

-- A run that is to be large is looked at in its order.
pub further_on : (page looked : ℕ) → 1 ≤ looked → other_page page page looked ≡ page + looked
further_on page looked some =
    let test : nat_lt (page + (looked - 1)) page ≡ false = grind (arith, nat_tests) in
    ap (λ (b : Bool). if b then page + (looked - 1) else page + looked) test

module _ (notes : Notes) (at : ℕ) (entry : HostEntry) where
  abbrev pub noted : Notes
  noted = record notes { host = with_entry at entry notes.host }

  elsewhere : (other : ℕ) → other ≢ at → noted.host other ≡ notes.host other
  elsewhere other ne = ap (λ (b : Bool). if b then Some entry else notes.host other) (apart_false at other (λ e. ne (sym e)))

  here : (other : ℕ) → other ≡ at → noted.host other ≡ Some entry
  here other e = subst (λ p. noted.host p ≡ Some entry) (sym e) (entry_noted at entry notes.host)

  -- ---- the first look

  first_row : (change : RunChange) (page word : ℕ) → at ≡ page → entry ≡ entry_of word → HasSeenRow change page 1 word noted
  first_row change page word own is other L =
      let same : other ≡ page = first_looked (run_first change page (entry_of word)) page other (own_among change page (entry_of word)).0 L in
      here other (same ∙ sym own) ∙ ap Some (is ∙ sym (ap (seen_row word page) same ∙ seen_own word page))

  pub first_seen : (change : RunChange) (page word : ℕ) → at ≡ page → entry ≡ entry_of word
      → SeenBy (in_order change one_look) change page 1 word noted
  first_seen (Huge level) page word own is = first_row (Huge level) page word own is
  first_seen Small page word own is = first_row Small page word own is

  -- ---- one more look

  -- The page goes on with the row.
  pub next_row : (change : RunChange) (page looked word : ℕ) → 1 ≤ looked → at ≡ other_page (run_first change page (entry_of word)) page looked
      → entry ≡ seen_row word page at → HasSeenRow change page looked word notes → HasSeenRow change page (looked + 1) word noted
  next_row change page looked word some at_is is R other L = by (same_or other at)
    where
      by : (other ≡ at) ⊎ (other ≢ at) → noted.host other ≡ Some (seen_row word page other)
      by (inl e) = here other e ∙ ap Some (is ∙ ap (seen_row word page) (sym e))
      by (inr ne) =
          elsewhere other ne
          ∙ old (next_looked (run_first change page (entry_of word)) page looked other some (own_among change page (entry_of word)).0 L)
        where
          old : IsLooked (run_first change page (entry_of word)) page looked other ⊎ (other ≡ other_page (run_first change page (entry_of word)) page looked)
              → notes.host other ≡ Some (seen_row word page other)
          old (inl before) = R other before
          old (inr now_) = absurd (ne (now_ ∙ sym at_is))

  module _ (frames level page word found : ℕ) (row : HostRow) (some : 1 ≤ row.looked) (few : row.looked < 262144) (at_is : at ≡ page + row.looked)
      (is : entry ≡ entry_of found) (one : IsHostWord frames word) (other : IsHostWord frames found) (small : maps_large word ≡ false)
      (small_too : maps_large found ≡ false) where
    abbrev continues_on : Bool
    continues_on = continues_row (record { page = page; word = word }) row at found

    at_next : at ≡ other_page page page row.looked
    at_next = at_is ∙ (let test : nat_lt (page + (row.looked - 1)) page ≡ false = grind (arith, nat_tests) in
        ap (λ (b : Bool). if b then page + (row.looked - 1) else page + row.looked) (sym test))

    in_row : continues_on ≡ true → (row.alike ≡ true) × (found ≡ word + 4096 * row.looked)
    in_row on =
        let A = both row.alike _ on in
        let B = both (host_present word) (nat_lt row.looked (level_span 3) && (at == page + row.looked && found == word + 2 ^ 12 * row.looked)) A.1 in
        let C = both (nat_lt row.looked (level_span 3)) (at == page + row.looked && found == word + 2 ^ 12 * row.looked) B.1 in
        let D = both (at == page + row.looked) (found == word + 2 ^ 12 * row.looked) C.1 in
        (A.0, let e = D.1 in grind (arith, nat_tests))

    -- The pages that were looked at before, and this one.
    abbrev with_next : HostMap → HostMap
    with_next seen p = if at == p then entry else seen p

    next_there : (seen : HostMap) → with_next seen at ≡ entry
    next_there seen = ap (λ (b : Bool). if b then entry else seen at) (eq-eqb at at refl)

    next_not : (seen : HostMap) (p : ℕ) → p ≢ at → with_next seen p ≡ seen p
    next_not seen p ne = ap (λ (b : Bool). if b then entry else seen p) (apart_false at p (λ e. ne (sym e)))

    before : (k : ℕ) → k < row.looked → page + k ≢ at
    before k lt e = omega (arith, e, lt, at_is)

    own_not : page ≢ at
    own_not e = omega (arith, e, some, at_is)

    -- What was noted of them.
    noted_next : (seen : HostMap) → ((p : ℕ) → IsLooked page page row.looked p → (notes.host p ≡ Some (seen p)) × (is_huge (seen p) ≡ false)) → (p : ℕ)
        → IsLooked page page (row.looked + 1) p → (noted.host p ≡ Some (with_next seen p)) × (is_huge (with_next seen p) ≡ false)
    noted_next seen was p L = by (same_or p at)
      where
        old : IsLooked page page row.looked p ⊎ (p ≡ other_page page page row.looked) → p ≢ at → (notes.host p ≡ Some (seen p)) × (is_huge (seen p) ≡ false)
        old (inl is_old) ne = was p is_old
        old (inr now_) ne = absurd (ne (now_ ∙ sym at_next))

        by : (p ≡ at) ⊎ (p ≢ at) → (noted.host p ≡ Some (with_next seen p)) × (is_huge (with_next seen p) ≡ false)
        by (inl e) = (
          here p e ∙ ap Some (sym (ap (with_next seen) e ∙ next_there seen)),
          ap is_huge (ap (with_next seen) e ∙ next_there seen ∙ is) ∙ small_too,
        )
        by (inr ne) =
            let O = old (next_looked page page row.looked p some (omega arith) L) ne in
            (elsewhere p ne ∙ (O.0 ∙ ap Some (sym (next_not seen p ne))), ap is_huge (next_not seen p ne) ∙ O.1)

    -- Those in a row are small.
    row_small : HasSeenRow (Huge level) page row.looked word notes → (p : ℕ) → IsLooked page page row.looked p
        → (notes.host p ≡ Some (seen_row word page p)) × (is_huge (seen_row word page p) ≡ false)
    row_small R p L = (R p L, by L)
      where
        further : (k : ℕ) → page + k ≡ p → is_huge (seen_row word page p) ≡ false
        further k e = ap (λ q. is_huge (seen_row word page q)) (sym e) ∙ (ap is_huge (seen_further word page k) ∙ small_further word k small)

        by : IsLooked page page row.looked p → is_huge (seen_row word page p) ≡ false
        by (inl e) = further 0 (let zero_ : page + 0 ≡ page = omega arith in zero_ ∙ sym e)
        by (inr (inl past)) = let low = past.0 in let high = past.1 in absurd (omega (arith, low, high))
        by (inr (inr past)) = further (p - page) (let low = past.0 in omega (arith, low))

    gap_in : (seen : HostMap) → seen page ≡ entry_of word
        → ((p : ℕ) → IsLooked page page row.looked p → (notes.host p ≡ Some (seen p)) × (is_huge (seen p) ≡ false)) → (gap : ℕ) → gap < row.looked + 1
        → continues (host_frame word + gap) (host_allows_write word) (with_next seen (page + gap)) ≡ false → HasSeenGap page (row.looked + 1) word noted
    gap_in seen own was gap on breaks = record {
      seen = with_next seen;
      own = next_not seen page own_not ∙ own;
      noted = noted_next seen was;
      gap = gap;
      on = on;
      breaks = breaks;
    }

    -- A run that was in a row no longer is.
    row_ends : continues_on ≡ false → row.alike ≡ true → HasSeenRow (Huge level) page row.looked word notes → HasSeenGap page (row.looked + 1) word noted
    row_ends off alike R = by (host_present word) refl
      where
        by : (there : Bool) → host_present word ≡ there → HasSeenGap page (row.looked + 1) word noted
        by false absent =
            gap_in (seen_row word page) (seen_own word page) (row_small R) 0 (omega arith)
            (ap (continues (host_frame word + 0) (host_allows_write word))
            (next_not (seen_row word page) (page + 0) (before 0 (omega (arith, some))) ∙ seen_further word page 0) ∙ none)
          where
            none : continues (host_frame word + 0) (host_allows_write word) (entry_of (word + 4096 * 0)) ≡ false
            none =
                let same : word + 4096 * 0 ≡ word = omega arith in
                ap (λ w. continues (host_frame word + 0) (host_allows_write word) (entry_of w)) same
                ∙ ap (λ (b : Bool). b && (((entry_of word).frame == host_frame word + 0)
                && (if host_allows_write word then (entry_of word).writable else not (entry_of word).writable))) absent
        by true present =
            gap_in (seen_row word page) (seen_own word page) (row_small R) row.looked (omega arith)
            (ap (continues (host_frame word + row.looked) (host_allows_write word))
            (ap (with_next (seen_row word page)) (sym at_is) ∙ (next_there (seen_row word page) ∙ is))
            ∙ unlike (continues (host_frame word + row.looked) (host_allows_write word) (entry_of found)) refl)
          where
            unlike : (b : Bool) → continues (host_frame word + row.looked) (host_allows_write word) (entry_of found) ≡ b
                → continues (host_frame word + row.looked) (host_allows_write word) (entry_of found) ≡ false
            unlike false e = e
            unlike true e =
                absurd (let found_is = continues_word frames word found row.looked one other small small_too present e in
                let on : continues_on ≡ true = all_on found_is in
                cc (on, off))
              where
                all_on : found ≡ word + 4096 * row.looked → continues_on ≡ true
                all_on found_is =
                    let below : nat_lt row.looked (level_span 3) ≡ true =
                    ap (nat_lt row.looked) span_3 ∙ (let test : nat_lt row.looked 262144 ≡ true = grind (arith, nat_tests) in test) in
                    let page_is : (at == page + row.looked) ≡ true = eq-eqb at (page + row.looked) at_is in
                    let word_is : (found == word + 2 ^ 12 * row.looked) ≡ true = eq-eqb found (word + 2 ^ 12 * row.looked) found_is in
                    ap (λ (b : Bool). b && (host_present word
                    && (nat_lt row.looked (level_span 3) && (at == page + row.looked && found == word + 2 ^ 12 * row.looked)))) alike
                    ∙ ap (λ (b : Bool). b && (nat_lt row.looked (level_span 3) && (at == page + row.looked && found == word + 2 ^ 12 * row.looked))) present
                    ∙ ap (λ (b : Bool). b && (at == page + row.looked && found == word + 2 ^ 12 * row.looked)) below
                    ∙ ap (λ (b : Bool). b && (found == word + 2 ^ 12 * row.looked)) page_is ∙ word_is

    -- One more small page was looked at, of a run that is to be large.
    pub next_small : SeenBy row.alike (Huge level) page row.looked word notes → SeenBy continues_on (Huge level) page (row.looked + 1) word noted
    next_small seen = by continues_on row.alike refl refl seen
      where
        by : (b alike : Bool) → continues_on ≡ b → row.alike ≡ alike → SeenBy alike (Huge level) page row.looked word notes
            → SeenBy b (Huge level) page (row.looked + 1) word noted
        by true true on is_alike R =
            next_row (Huge level) page row.looked word some at_next
            (is ∙ ap entry_of ((in_row on).1 ∙ (let same : word + 4096 * row.looked ≡ word_in_row word page at = omega (arith, at_is) in same))) R
        by true false on not_ G = absurd (let alike = (in_row on).0 in cc (alike, not_))
        by false true off is_alike R = row_ends off is_alike R
        by false false off not_ G =
            gap_in G.seen G.own G.noted G.gap (let on = G.on in omega (arith, on))
            (ap (continues (host_frame word + G.gap) (host_allows_write word)) (next_not G.seen (page + G.gap) (before G.gap G.on)) ∙ G.breaks)
