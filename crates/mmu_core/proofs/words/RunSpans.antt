-- The spans of runs of host pages: which pages are on them, and which is changed next.
use Rattle.std.proofs.Common.{◌≡◌, ◌+◌, ◌-◌, ◌*◌, ◌/◌, ◌%◌, ◌<◌, ◌≤◌, ℕ, zero, suc, true, sym, subst, ap, ◌∙◌, arith}
use Rattle.std.specs.Prelude.{Option, Some, nat_lt}
use Rattle.std.proofs.lemmas.Bool.Decides.{nat_tests}
use Rattle.core_views.specs.declared.topics.PageRun.{PageRun}
use Rattle.spte_words.specs.Entries.{level_span}
use Rattle.spte_words.proofs.Spans.{each_span, span_1, span_above}
use Rattle.part_steps.specs.PageRuns.{IsOnRun, is_several, page_next, run_of, run_start}

-- Pages of one span lie from its first page on, up to its end; and so many pages after the first one another page of it stands.
abbrev OneSpan : ℕ → Type 0
OneSpan s =
    (first page : ℕ) → page / s ≡ first / s
    → (first - first % s ≤ page) × (page < first - first % s + s) × (page ≡ first - first % s + page % s) × (first - first % s ≡ page - page % s)

pub one_span : (level : ℕ) → 1 ≤ level → level ≤ 4 → OneSpan (level_span level)
one_span =
    each_span OneSpan (λ first page is. (omega (arith, is), omega (arith, is), omega (arith, is), omega (arith, is)))
    (λ first page is. (omega (arith, is), omega (arith, is), omega (arith, is), omega (arith, is)))
    (λ first page is. (omega (arith, is), omega (arith, is), omega (arith, is), omega (arith, is)))
    (λ first page is. (omega (arith, is), omega (arith, is), omega (arith, is), omega (arith, is)))

pub on_run : (run : PageRun) (page : ℕ) → 1 ≤ run.level → run.level ≤ 4 → IsOnRun page (Some run)
    → (run_start run ≤ page) × (page < run_start run + level_span run.level) × (page ≡ run_start run + page % level_span run.level)
    × (run_start run ≡ page - page % level_span run.level)
on_run run page from most on = one_span run.level from most run.first page on

-- A page is the next one of the run that is this page.
pub this_next : (page : ℕ) → page ≡ page_next (run_of page)
this_next page = by (level_span 1) span_1
  where
    by : (span : ℕ) → span ≡ 1 → page ≡ page - page % span + 0
    by span one = subst (λ s. page ≡ page - page % s + 0) (sym one) (omega arith)

-- What lies between two of one span lies in it.
abbrev Between : ℕ → Type 0
Between s = (low high n : ℕ) → high / s ≡ low / s → low ≤ n → n ≤ high → n / s ≡ low / s

pub between_spans : (level : ℕ) → 1 ≤ level → level ≤ 4 → Between (level_span level)
between_spans =
    each_span Between (λ low high n is from to. omega (arith, is, from, to)) (λ low high n is from to. omega (arith, is, from, to))
    (λ low high n is from to. omega (arith, is, from, to)) (λ low high n is from to. omega (arith, is, from, to))

-- What begins a span begins one of each level below.
abbrev BeginsLess : ℕ → Type 0
BeginsLess s = (n : ℕ) → n % (512 * s) ≡ 0 → n % s ≡ 0

begins_less : (level : ℕ) → 1 ≤ level → level ≤ 4 → BeginsLess (level_span level)
begins_less = each_span BeginsLess (λ n is. omega (arith, is)) (λ n is. omega (arith, is)) (λ n is. omega (arith, is)) (λ n is. omega (arith, is))

begins_below : (more level n : ℕ) → 1 ≤ level → level + more ≤ 4 → n % level_span (level + more) ≡ 0 → n % level_span level ≡ 0
begins_below zero level n from most is = subst (λ l. n % level_span l ≡ 0) (let none : level + 0 ≡ level = omega arith in none) is
begins_below (suc more) level n from most is =
    begins_less level from (omega (arith, most)) n
    (subst (λ s. n % s ≡ 0) (span_above level from)
    (begins_below more (level + 1) n (omega arith) (omega (arith, most))
    (subst (λ l. n % level_span l ≡ 0) (let up : level + suc more ≡ level + 1 + more = omega arith in up) is)))

pub begins_narrower : (level wide n : ℕ) → 1 ≤ level → level ≤ wide → wide ≤ 4 → n % level_span wide ≡ 0 → n % level_span level ≡ 0
begins_narrower level wide n from within most is =
    let whole : wide ≡ level + (wide - level) = omega (arith, within) in
    begins_below (wide - level) level n from (omega (arith, within, most)) (subst (λ l. n % level_span l ≡ 0) whole is)

-- Each number begins a span of the lowest level.
pub begins_lowest : (level n : ℕ) → level ≡ 1 → n % level_span level ≡ 0
begins_lowest level n lowest = subst (λ s. n % s ≡ 0) (sym (ap level_span lowest ∙ span_1)) (omega arith)

-- A number less what another one is into its span, and it is as far into its own, begins one.
abbrev BeginsWhole : ℕ → Type 0
BeginsWhole s = (n other : ℕ) → n % s ≡ other % s → (n - other % s) % s ≡ 0

pub begins_whole : (level : ℕ) → 1 ≤ level → level ≤ 4 → BeginsWhole (level_span level)
begins_whole =
    each_span BeginsWhole (λ n other is. omega (arith, is)) (λ n other is. omega (arith, is)) (λ n other is. omega (arith, is))
    (λ n other is. omega (arith, is))

-- As far after the begin of a span as a page after that of another one is, a frame is as far into its span.
abbrev AsFar : ℕ → Type 0
AsFar s = (first page frame : ℕ) → first ≤ page → first % s ≡ 0 → frame % s ≡ 0 → (frame + (page - first)) % s ≡ page % s

pub as_far : (level : ℕ) → 1 ≤ level → level ≤ 4 → AsFar (level_span level)
as_far =
    each_span AsFar (λ a b c le one two. omega (arith, le, one, two)) (λ a b c le one two. omega (arith, le, one, two))
    (λ a b c le one two. omega (arith, le, one, two)) (λ a b c le one two. omega (arith, le, one, two))

-- Two of one span are of one span of each level above.
abbrev OneUp : ℕ → Type 0
OneUp s = (a b : ℕ) → a / s ≡ b / s → a / (512 * s) ≡ b / (512 * s)

one_up : (level : ℕ) → 1 ≤ level → level ≤ 4 → OneUp (level_span level)
one_up = each_span OneUp (λ a b is. omega (arith, is)) (λ a b is. omega (arith, is)) (λ a b is. omega (arith, is)) (λ a b is. omega (arith, is))

up_one : (level a b : ℕ) → 1 ≤ level → level ≤ 3 → a / level_span level ≡ b / level_span level → a / level_span (level + 1) ≡ b / level_span (level + 1)
up_one level a b from most is =
    subst (λ s. a / s ≡ b / s) (sym (span_above level from)) (one_up level from (omega (arith, most)) a b is)

pub wider : (more level a b : ℕ) → 1 ≤ level → level + more ≤ 4 → a / level_span level ≡ b / level_span level
    → a / level_span (level + more) ≡ b / level_span (level + more)
wider zero level a b from most is = subst (λ l. a / level_span l ≡ b / level_span l) (plus_none level) is
  where
    plus_none : (n : ℕ) → n ≡ n + 0
    plus_none n = omega arith
wider (suc more) level a b from most is =
    subst (λ l. a / level_span l ≡ b / level_span l) (plus_one level more)
    (wider more (level + 1) a b (omega arith) (omega (arith, most)) (up_one level a b from (omega (arith, most)) is))
  where
    plus_one : (n m : ℕ) → n + 1 + m ≡ n + suc m
    plus_one n m = omega arith

pub in_wider : (level run a b : ℕ) → 1 ≤ level → level ≤ run → run ≤ 4 → a / level_span level ≡ b / level_span level
    → a / level_span run ≡ b / level_span run
in_wider level run a b from le most is =
    let all : level + (run - level) ≡ run = omega (arith, le) in
    subst (λ l. a / level_span l ≡ b / level_span l) all (wider (run - level) level a b from (omega (arith, le, most)) is)

-- A run of several pages is one.
pub several_is : (pages : Option PageRun) (run : PageRun) → pages ≡ Some run → 2 ≤ run.level → is_several pages ≡ true
several_is pages run is more = ap is_several is ∙ (let test : nat_lt 1 run.level ≡ true = grind (arith, nat_tests) in test)
