-- Whether the run of pages that were looked at can be mapped as one large page.
use Rattle.std.proofs.Common.{◌≡◌, ◌+◌, ◌%◌, ◌<◌, ◌≤◌, ℕ, zero, suc, refl, sym, ap, ◌∙◌, arith, eq-eqb}
use Rattle.std.specs.Prelude.{Bool, true, false, not, ◌==◌, ◌&&◌, ◌||◌, if◌then◌else◌, Some, None}
use Rattle.core_views.specs.declared.answer.Refusal.TheVariants.{IsHuge, NotAligned}
use Rattle.core_views.specs.declared.host.HostEntry.{HostEntry}
use Rattle.core_views.specs.declared.topics.HostRow.{HostRow}
use Rattle.core_views.specs.declared.trace.RunChange.TheVariants.{Huge}
use Rattle.core_views.specs.Flat.{Notes}
use Rattle.core_views.specs.Host.{HostMap, is_huge}
use Rattle.core_views.specs.HostRuns.{are_in_a_row, continues, is_aligned, is_any_huge, run_pages, run_refusal}
use Rattle.spte_words.specs.Entries.{level_span}
use Rattle.spte_words.specs.HostWords.{host_allows_write, host_frame, host_present}
use Rattle.part_steps.specs.PageRuns.{makes_run}
use Rattle.mmu_core.specs.forms.host.HostSteps.{entry_of, maps_large}
use Rattle.mmu_core.proofs.forms.access.FaultSame.{both, not_then}
use Rattle.mmu_core.proofs.forms.host_run.RunLooks.{large_count, some_count}
use Rattle.mmu_core.proofs.held.OwnRowsKept.{further_present}
use Rattle.mmu_laws.specs.forms.host_run.HostRunStages.{HasSeenGap, IsLooked, seen_row}
use Rattle.mmu_laws.proofs.forms.host_run.SeenRows.{all_looked, further_entry, seen_further, seen_own, small_further}

-- ---- runs of so many pages

here : (page : ℕ) → page + 0 ≡ page
here page = omega arith

after : (page k : ℕ) → page + (k + 1) ≡ page + 1 + k
after page k = omega arith

later : (page k : ℕ) → page + 1 + k ≡ page + suc k
later page k = omega arith

-- No page of them is part of a large one.
none_huge : (n : ℕ) (host : HostMap) (page : ℕ) → ((k : ℕ) → k < n → is_huge (host (page + k)) ≡ false) → is_any_huge host page n ≡ false
none_huge zero host page small = refl
none_huge (suc n) host page small =
    ap (λ (b : Bool). b || is_any_huge host (page + 1) n) (ap (λ p. is_huge (host p)) (sym (here page)) ∙ small 0 (omega arith))
    ∙ none_huge n host (page + 1) (λ k lt. ap (λ p. is_huge (host p)) (sym (after page k)) ∙ small (k + 1) (omega (arith, lt)))

-- Each of them continues the row.
all_in_row : (n : ℕ) (host : HostMap) (frame : ℕ) (writable : Bool) (page : ℕ)
    → ((k : ℕ) → k < n → continues (frame + k) writable (host (page + k)) ≡ true) → are_in_a_row host frame writable page n ≡ true
all_in_row zero host frame writable page each = refl
all_in_row (suc n) host frame writable page each =
    ap (λ (b : Bool). b && are_in_a_row host (frame + 1) writable (page + 1) n)
    (ap (λ f. continues f writable (host page)) (sym (here frame))
    ∙ (ap (λ p. continues (frame + 0) writable (host p)) (sym (here page)) ∙ each 0 (omega arith)))
    ∙ all_in_row n host (frame + 1) writable (page + 1) (λ k lt.
    ap (λ f. continues f writable (host (page + 1 + k))) (sym (after frame k))
    ∙ (ap (λ p. continues (frame + (k + 1)) writable (host p)) (sym (after page k)) ∙ each (k + 1) (omega (arith, lt))))

none_after : (b : Bool) → (b && false) ≡ false
none_after true = refl
none_after false = refl

-- One of them doesn't.
gap_in_row : (n : ℕ) (host : HostMap) (frame : ℕ) (writable : Bool) (page k : ℕ) → k < n → continues (frame + k) writable (host (page + k)) ≡ false
    → are_in_a_row host frame writable page n ≡ false
gap_in_row zero host frame writable page k lt breaks = absurd (omega (arith, lt))
gap_in_row (suc n) host frame writable page zero lt breaks =
    ap (λ (b : Bool). b && are_in_a_row host (frame + 1) writable (page + 1) n)
    (ap (λ f. continues f writable (host page)) (sym (here frame)) ∙ (ap (λ p. continues (frame + 0) writable (host p)) (sym (here page)) ∙ breaks))
gap_in_row (suc n) host frame writable page (suc k) lt breaks =
    ap (λ (b : Bool). continues frame writable (host page) && b)
    (gap_in_row n host (frame + 1) writable (page + 1) k (omega (arith, lt))
    (ap (λ f. continues f writable (host (page + 1 + k))) (later frame k)
    ∙ (ap (λ p. continues (frame + suc k) writable (host p)) (later page k) ∙ breaks)))
    ∙ none_after (continues frame writable (host page))

-- An absent page continues none.
absent_breaks : (frame : ℕ) (writable : Bool) (entry : HostEntry) → entry.present ≡ false → continues frame writable entry ≡ false
absent_breaks frame writable entry absent =
    ap (λ (b : Bool). b && ((entry.frame == frame) && (if writable then entry.writable else not entry.writable))) absent

-- ---- why they aren't mapped as one

-- Small pages are refused for this alone, that they aren't aligned.
by_alignment : (aligned : Bool) (host : HostMap) (page level : ℕ) → is_any_huge host page (run_pages level) ≡ false → is_aligned host page level ≡ aligned
    → run_refusal host page (Huge level) ≡ (if not aligned then Some NotAligned else None)
by_alignment aligned host page level small is =
    ap (λ (b : Bool). if b then Some IsHuge else if not (is_aligned host page level) then Some NotAligned else None) small
    ∙ ap (λ (b : Bool). if not b then Some NotAligned else None) is

-- The pages of a row are small where its own one is.
seen_small : (n word page : ℕ) → maps_large word ≡ false → is_any_huge (seen_row word page) page n ≡ false
seen_small n word page small =
    none_huge n (seen_row word page) page (λ k lt. ap (λ (e : HostEntry). is_huge e) (seen_further word page k) ∙ small_further word k small)

-- Where the first page is present, so is each, and they are in a row.
seen_continues : (word page k : ℕ) → host_present word ≡ true
    → continues (host_frame word + k) (host_allows_write word) (seen_row word page (page + k)) ≡ true
seen_continues word page k present =
    ap (λ (e : HostEntry). continues (host_frame word + k) (host_allows_write word) e) (seen_further word page k ∙ further_entry word k)
    ∙ (ap (λ (b : Bool). b && alike) present
    ∙ (ap (λ (b : Bool). b && same_writes) (eq-eqb (host_frame word + k) (host_frame word + k) refl) ∙ same (host_allows_write word)))
  where
    same_writes : Bool
    same_writes = if host_allows_write word then host_allows_write word else not (host_allows_write word)

    alike : Bool
    alike = (host_frame word + k == host_frame word + k) && same_writes

    same : (b : Bool) → (if b then b else not b) ≡ true
    same true = refl
    same false = refl

-- the alignment of what was seen, where the line's own page has this word
abbrev aligned_by : HostMap → ℕ → ℕ → HostEntry → Bool
aligned_by host page level own =
    (page % run_pages level == 0) && ((own.frame % run_pages level == 0) && are_in_a_row host own.frame own.writable page (run_pages level))

own_alignment : (host : HostMap) (page level word : ℕ) → host page ≡ entry_of word → is_aligned host page level ≡ aligned_by host page level (entry_of word)
own_alignment host page level word own = ap (aligned_by host page level) own

all_true : (a b c : Bool) → a ≡ true → b ≡ true → c ≡ true → (a && (b && c)) ≡ true
all_true a b c one two three = ap (λ (x : Bool). x && (b && c)) one ∙ (ap (λ (x : Bool). x && c) two ∙ three)

last_false : (a b c : Bool) → c ≡ false → (a && (b && c)) ≡ false
last_false a b c three = ap (λ (x : Bool). a && (b && x)) three ∙ (ap (λ (x : Bool). a && x) (none_after b) ∙ none_after a)

first_false : (a b c : Bool) → (a && b) ≡ false → (a && (b && c)) ≡ false
first_false true b c fails = ap (λ (x : Bool). x && c) fails
first_false false b c fails = refl

-- A row that is long enough, and begins where a run begins, isn't refused.
pub row_fits : (page level word : ℕ) (row : HostRow) → 2 ≤ level → level ≤ 3 → maps_large word ≡ false
    → makes_run level (record { page = page; word = word }) row ≡ true → run_refusal (seen_row word page) page (Huge level) ≡ None
row_fits page level word row from most small is =
    by_alignment true (seen_row word page) page level (seen_small (run_pages level) word page small)
    (own_alignment (seen_row word page) page level word (seen_own word page) ∙ aligned)
  where
    one : ((row.alike && (host_present word && row.looked == level_span level)) ≡ true)
        × ((page % level_span level == 0 && host_frame word % level_span level == 0) ≡ true)
    one = both (row.alike && (host_present word && row.looked == level_span level)) _ is

    present : host_present word ≡ true
    present = (both (host_present word) _ (both row.alike _ one.0).1).0

    begins : ((page % level_span level == 0) ≡ true) × ((host_frame word % level_span level == 0) ≡ true)
    begins = both (page % level_span level == 0) _ one.1

    aligned : aligned_by (seen_row word page) page level (entry_of word) ≡ true
    aligned =
        all_true _ _ _ (ap (λ n. page % n == 0) (large_count level from most) ∙ begins.0)
        (ap (λ n. host_frame word % n == 0) (large_count level from most) ∙ begins.1)
        (all_in_row (run_pages level) (seen_row word page) (host_frame word) (host_allows_write word) page (λ k lt. seen_continues word page k present))

-- A row that is long enough, and isn't one that fits, is refused: it begins elsewhere, or its page is absent.
pub row_unfit : (page level word : ℕ) (row : HostRow) → 2 ≤ level → level ≤ 3 → maps_large word ≡ false → row.alike ≡ true → row.looked ≡ run_pages level
    → makes_run level (record { page = page; word = word }) row ≡ false → run_refusal (seen_row word page) page (Huge level) ≡ Some NotAligned
row_unfit page level word row from most small alike looked not_row =
    by_alignment false (seen_row word page) page level (seen_small (run_pages level) word page small)
    (own_alignment (seen_row word page) page level word (seen_own word page) ∙ by (host_present word) refl)
  where
    count : run_pages level ≡ level_span level
    count = large_count level from most

    some : 1 ≤ run_pages level
    some = some_count (Huge level) word

    page_begins : Bool
    page_begins = page % run_pages level == 0

    frame_begins : Bool
    frame_begins = host_frame word % run_pages level == 0

    in_row : Bool
    in_row = are_in_a_row (seen_row word page) (host_frame word) (host_allows_write word) page (run_pages level)

    all_looked_at : host_present word ≡ true → (row.alike && (host_present word && row.looked == level_span level)) ≡ true
    all_looked_at present =
        all_true row.alike (host_present word) (row.looked == level_span level) alike present
        (ap (λ n. n == level_span level) (looked ∙ count) ∙ eq-eqb (level_span level) (level_span level) refl)

    by : (b : Bool) → host_present word ≡ b → (page_begins && (frame_begins && in_row)) ≡ false
    by false absent =
        last_false page_begins frame_begins in_row
        (gap_in_row (run_pages level) (seen_row word page) (host_frame word) (host_allows_write word) page 0 some
        (absent_breaks (host_frame word + 0) (host_allows_write word) (seen_row word page (page + 0))
        (ap (λ (e : HostEntry). e.present) (seen_further word page 0) ∙ (further_present word 0 ∙ absent))))
    by true present =
        first_false page_begins frame_begins in_row
        (ap (λ n. page % n == 0 && host_frame word % n == 0) count
        ∙ not_then (row.alike && (host_present word && row.looked == level_span level))
        (page % level_span level == 0 && host_frame word % level_span level == 0) not_row (all_looked_at present))

-- So are pages with a gap among them.
pub gap_unfit : (page level word : ℕ) (notes : Notes) → 2 ≤ level → level ≤ 3 → (G : HasSeenGap page (run_pages level) word notes)
    → run_refusal G.seen page (Huge level) ≡ Some NotAligned
gap_unfit page level word notes from most G =
    by_alignment false G.seen page level
    (none_huge (run_pages level) G.seen page (λ k lt. (G.noted (page + k) (looked k lt)).1))
    (own_alignment G.seen page level word G.own
    ∙ last_false _ _ _ (gap_in_row (run_pages level) G.seen (host_frame word) (host_allows_write word) page G.gap G.on G.breaks))
  where
    looked : (k : ℕ) → k < run_pages level → IsLooked page page (run_pages level) (page + k)
    looked k lt =
        let some : 1 ≤ run_pages level = some_count (Huge level) word in
        all_looked page (run_pages level) page (page + k) (omega arith, omega (arith, some)) (omega arith, omega (arith, lt))
