-- What was seen of a run of host pages: which run it is, and which of its pages are the actor's own.
use Rattle.std.proofs.lemmas.Bool.Decides.{nat_tests}
use Rattle.std.proofs.Common.{◌≡◌, ◌+◌, ◌-◌, ◌%◌, ◌<◌, ◌≤◌, ℕ, Bool, true, false, refl, sym, subst, ap, ◌∙◌, arith, eqb-true}
use Rattle.std.specs.Prelude.{◌==◌, ◌&&◌, nat_le, nat_lt, if◌then◌else◌, Option, Some, None, is_some}
use Rattle.core_views.specs.declared.actor.Actor.{Actor}
use Rattle.core_views.specs.declared.actor.Actor.TheVariants.{Host}
use Rattle.core_views.specs.declared.sizes.Sizes.{Sizes}
use Rattle.core_views.specs.declared.topics.HostLook.{HostLook}
use Rattle.core_views.specs.declared.topics.HostRow.{HostRow}
use Rattle.core_views.specs.declared.trace.RunChange.{RunChange}
use Rattle.core_views.specs.declared.trace.RunChange.TheVariants.{Huge, Small}
use Rattle.core_views.specs.Held.{Held}
use Rattle.core_views.specs.HostChanges.{is_own}
use Rattle.core_views.specs.HostRuns.{owns_run, run_count, run_pages}
use Rattle.core_views.specs.Sizes.{first_page_in}
use Rattle.core_views.specs.Traces.{IsRunChange}
use Rattle.spte_words.specs.Entries.{level_span}
use Rattle.spte_words.specs.HostWords.{host_frame, host_level, host_present}
use Rattle.spte_words.proofs.Spans.{span_2, span_3}
use Rattle.part_steps.specs.InvalidationRange.{page_looked}
use Rattle.part_steps.specs.PageRuns.{makes_run, level_looked}
use Rattle.part_steps.specs.PartTasks.{word_looked}
use Rattle.mmu_core.specs.forms.host.HostSteps.{entry_of, maps_large}
use Rattle.mmu_core.specs.forms.host_run.HostRunKnows.{HasLookedAtAll, fits_looked}
use Rattle.mmu_core.specs.forms.host_run.HostRunSteps.{fits, wants_small}
use Rattle.mmu_core.proofs.forms.access.FaultSame.{both, over_it}
use Rattle.mmu_core.proofs.orders.RunsAimed.{makes_no_run}

-- ---- levels and runs

-- A level is one of four numbers.
pub level_most : (word : ℕ) → host_level word ≤ 3
unfolding host_level
level_most word = omega arith

-- A small page is a run by itself, and a large one has as many pages as its span.
pub small_count : (level : ℕ) → nat_lt 1 level ≡ false → run_pages level ≡ 1
small_count level small =
    ap (λ (b : Bool). if b then 262144 else if level == 2 then 512 else 1) not_three ∙ ap (λ (b : Bool). if b then 512 else 1) not_two
  where
    not_three : (level == 3) ≡ false
    not_three = grind (arith, nat_tests)

    not_two : (level == 2) ≡ false
    not_two = grind (arith, nat_tests)

-- What holds of the levels of runs of several pages holds of such a level.
pub each_several : (P : ℕ → Type 0) → P 2 → P 3 → (level : ℕ) → 2 ≤ level → level ≤ 3 → P level
each_several P two three level from most = by (level == 2) refl
  where
    by : (b : Bool) → (level == 2) ≡ b → P level
    by true is = subst P (sym (eqb-true level 2 is)) two
    by false is = let three_is : 3 ≡ level = grind (arith, nat_tests) in subst P three_is three

pub large_count : (level : ℕ) → 2 ≤ level → level ≤ 3 → run_pages level ≡ level_span level
large_count = each_several (λ level. run_pages level ≡ level_span level) (sym span_2) (sym span_3)

-- A run for which a line asks has a page at least, and no more than the largest run.
some_pages : (level : ℕ) → 1 ≤ run_pages level
some_pages level = by (level == 3) (level == 2)
  where
    by : (a b : Bool) → 1 ≤ (if a then 262144 else if b then 512 else 1)
    by true b = omega arith
    by false true = omega arith
    by false false = omega arith

few_pages : (level : ℕ) → run_pages level ≤ 262144
few_pages level = by (level == 3) (level == 2)
  where
    by : (a b : Bool) → (if a then 262144 else if b then 512 else 1) ≤ 262144
    by true b = omega arith
    by false true = omega arith
    by false false = omega arith

pub some_count : (change : RunChange) (word : ℕ) → 1 ≤ run_count change (entry_of word)
some_count (Huge level) word = some_pages level
some_count Small word = some_pages (host_level word)

pub few_count : (change : RunChange) (word : ℕ) → run_count change (entry_of word) ≤ 262144
few_count (Huge level) word = few_pages level
few_count Small word = few_pages (host_level word)

-- ---- whose pages they are

-- A page between two of a host thread's is its own.
own_between : (z : Sizes) (actor : Actor) (low high page : ℕ) → is_own z actor low ≡ true → is_own z actor high ≡ true → low ≤ page → page ≤ high
    → is_own z actor page ≡ true
own_between z (Host n) low high page one other from to =
    let first : ℕ = first_page_in z.first_pages z.pages n in
    let end_ : ℕ = first_page_in z.first_pages z.pages (n + 1) in
    within first end_ (over_it first low end_ one).0 (over_it first high end_ other).1
  where
    within : (first end_ : ℕ) → first ≤ low → high < end_ → (nat_le first page && nat_lt page end_) ≡ true
    within first end_ begins ends = grind (arith, nat_tests)
own_between z _ low high page one other from to = absurd (cc one)

-- So are the pages of a run that is to be large.
pub huge_own : (z : Sizes) (actor : Actor) (page level other : ℕ) → owns_run z actor page (Huge level) ≡ true → page ≤ other
    → other ≤ page + (run_pages level - 1) → is_own z actor other ≡ true
huge_own z actor page level other own_ from to =
    let B = both (is_own z actor page) (is_own z actor (page + (run_pages level - 1))) own_ in
    own_between z actor page (page + (run_pages level - 1)) other B.0 B.1 from to

-- And so is the one that the line names.
pub page_own : (z : Sizes) (actor : Actor) (page : ℕ) (change : RunChange) → owns_run z actor page change ≡ true → is_own z actor page ≡ true
page_own z actor page (Huge level) own_ = (both (is_own z actor page) (is_own z actor (page + (run_pages level - 1))) own_).0
page_own z actor page Small own_ = own_

-- ---- which run was seen

-- It is that of a large page; or of small ones in a row, which begins with its first page; or one small page.
pub data RunSeen (look : HostLook) (row : HostRow) : RunChange → Type 0 where
  Large : maps_large look.word ≡ true → RunSeen look row Small
  Several : (level : ℕ) → 2 ≤ level → level ≤ 3 → level_looked look row ≡ level → maps_large look.word ≡ false → look.page % level_span level ≡ 0
      → RunSeen look row (Huge level)
  One : maps_large look.word ≡ false → row.looked ≡ 1 → RunSeen look row Small

-- The level of a large page is its own.
pub large_looked : (look : HostLook) (row : HostRow) → maps_large look.word ≡ true → level_looked look row ≡ host_level look.word
large_looked look row large =
    ap (λ (b : Bool). if b then host_level look.word else if makes_run 3 look row then 3 else if makes_run 2 look row then 2 else 1) large

-- That of a row of small ones is the row's.
row_looked : (look : HostLook) (row : HostRow) (level : ℕ) → 2 ≤ level → level ≤ 3 → row.looked ≡ run_pages level → maps_large look.word ≡ false
    → makes_run level look row ≡ true → level_looked look row ≡ level
row_looked look row level from most all small in_row =
    ap (λ (b : Bool). if b then host_level look.word else if makes_run 3 look row then 3 else if makes_run 2 look row then 2 else 1) small
    ∙ each_several (λ l. row.looked ≡ run_pages l → makes_run l look row ≡ true
    → (if makes_run 3 look row then 3 else if makes_run 2 look row then 2 else 1) ≡ l)
    (λ all in_row. ap (λ (b : Bool). if b then 3 else if makes_run 2 look row then 2 else 1) (makes_no_run 3 512 look row all (ap (λ n. 512 == n) span_3))
    ∙ ap (λ (b : Bool). if b then 2 else 1) in_row)
    (λ all in_row. ap (λ (b : Bool). if b then 3 else if makes_run 2 look row then 2 else 1) in_row) level from most all in_row

run_seen : (change : RunChange) (look : HostLook) (row : HostRow) → IsRunChange change → (wants_small change ≡ true → maps_large look.word ≡ false)
    → row.looked ≡ run_count change (entry_of look.word) → fits change look row ≡ true → RunSeen look row change
run_seen (Huge level) look row in_range small all fit =
    let aligned = (both (row.alike && (host_present look.word && row.looked == level_span level))
    (look.page % level_span level == 0 && host_frame look.word % level_span level == 0) fit).1 in
    let begins = (both (look.page % level_span level == 0) (host_frame look.word % level_span level == 0) aligned).0 in
    Several level in_range.0 in_range.1 (row_looked look row level in_range.0 in_range.1 all (small refl) fit) (small refl)
    (eqb-true (look.page % level_span level) 0 begins)
run_seen Small look row in_range small all fit = by (maps_large look.word) refl
  where
    by : (b : Bool) → maps_large look.word ≡ b → RunSeen look row Small
    by true is = Large is
    by false is = One is (all ∙ small_count (host_level look.word) is)

-- So it is of what a line looked up.
pub run_seen_at : (page : ℕ) (change : RunChange) (h : Held) (look : HostLook) → h.topics.host ≡ Some look → HasLookedAtAll page change h
    → RunSeen look h.topics.row change
run_seen_at page change h look is L =
    run_seen change look h.topics.row L.looks.in_range
    (subst (λ (o : Option HostLook). wants_small change ≡ true → maps_large (word_looked o) ≡ false) is L.looks.small)
    (subst (λ (o : Option HostLook). h.topics.row.looked ≡ run_count change (entry_of (word_looked o))) is L.all)
    (subst (λ (o : Option HostLook). fits_looked change o h.topics.row ≡ true) is L.fit)

-- A line that looked a page up has that look.
pub look_of : (page : ℕ) (h : Held) → is_some h.topics.host ≡ true → page_looked h.topics.host ≡ page
    → (look : HostLook) × (h.topics.host ≡ Some look) × (look.page ≡ page)
look_of page h some at = by h.topics.host refl some at
  where
    by : (o : Option HostLook) → h.topics.host ≡ o → is_some o ≡ true → page_looked o ≡ page
        → (look : HostLook) × (h.topics.host ≡ Some look) × (look.page ≡ page)
    by None is some at = absurd (cc some)
    by (Some look) is some at = (look, is, at)
