-- Places in runs: a slot that has the run of a guest frame whole has each guest frame of it, at its own place, and its page in one run with the page.
use Rattle.std.proofs.Common.{◌≡◌, ◌+◌, ◌-◌, ◌/◌, ◌%◌, ◌<◌, ◌≤◌, ℕ, arith}
use Rattle.std.specs.Prelude.{true, nat_le, nat_lt, ◌&&◌}
use Rattle.std.proofs.lemmas.Bool.Decides.{nat_tests}
use Rattle.core_views.specs.declared.trace.Slot.{Slot as SlotOf}
use Rattle.core_views.specs.Slots.{contains, has_host_page}
use Rattle.spte_words.specs.Entries.{level_span}
use Rattle.spte_words.proofs.Spans.{each_span}
use Rattle.part_steps.specs.InvalidationRange.{gfn_behind}
use Rattle.part_steps.specs.RunHoldings.{HasRun}
use Rattle.part_steps.specs.SlotWords.{page_of}

-- A slot from `base` on, with host pages from `host` on, has the run of a guest frame whole, at the same place as the page's run. What is in one run with the
-- guest frame is in the slot, and its page is in one run with the page, at its own place.
abbrev RunPlaces : ℕ → Type 0
RunPlaces s =
    (base pages host gfn other : ℕ) → other / s ≡ gfn / s → base + gfn % s ≤ gfn → gfn + s ≤ base + pages + gfn % s → (host + (gfn - base)) % s ≡ gfn % s
    → (base ≤ other) × (other < base + pages) × ((host + (other - base)) / s ≡ (host + (gfn - base)) / s) × ((host + (other - base)) % s ≡ other % s)

pub run_places : (level : ℕ) → 1 ≤ level → level ≤ 4 → RunPlaces (level_span level)
run_places =
    each_span RunPlaces
    (λ b p h g o run from to at. (omega (arith, run, from), omega (arith, run, from, to), omega (arith, run, from, at), omega (arith, run, from, at)))
    (λ b p h g o run from to at. (omega (arith, run, from), omega (arith, run, from, to), omega (arith, run, from, at), omega (arith, run, from, at)))
    (λ b p h g o run from to at. (omega (arith, run, from), omega (arith, run, from, to), omega (arith, run, from, at), omega (arith, run, from, at)))
    (λ b p h g o run from to at. (omega (arith, run, from), omega (arith, run, from, to), omega (arith, run, from, at), omega (arith, run, from, at)))

-- Where the first page of a run has a frame that is as far before a page's as the pages are from one another, the page's frame is no lower than its place.
abbrev RunBegins : ℕ → Type 0
RunBegins s = (page frame first : ℕ) → first + page % s ≡ frame + (page - page % s) % s → page % s ≤ frame

pub run_begins : (level : ℕ) → 1 ≤ level → level ≤ 4 → RunBegins (level_span level)
run_begins =
    each_span RunBegins (λ page frame first is. omega (arith, is)) (λ page frame first is. omega (arith, is)) (λ page frame first is. omega (arith, is))
    (λ page frame first is. omega (arith, is))

abbrev BeginsRun : ℕ → Type 0
BeginsRun s = (page : ℕ) → (page - page % s) / s ≡ page / s

pub begins_run : (level : ℕ) → 1 ≤ level → level ≤ 4 → BeginsRun (level_span level)
begins_run = each_span BeginsRun (λ page. omega arith) (λ page. omega arith) (λ page. omega arith) (λ page. omega arith)

pub holds_between : (slot : SlotOf) (gfn : ℕ) → slot.base ≤ gfn → gfn < slot.base + slot.pages → contains gfn slot ≡ true
holds_between slot gfn from to = by slot.base slot.pages from to
  where
    by : (base pages : ℕ) → base ≤ gfn → gfn < base + pages → (nat_le base gfn && nat_lt gfn (base + pages)) ≡ true
    by base pages low high = grind (arith, nat_tests)

pub between : (slot : SlotOf) (gfn : ℕ) → contains gfn slot ≡ true → (slot.base ≤ gfn) × (gfn < slot.base + slot.pages)
between slot gfn holds = by slot.base slot.pages holds
  where
    by : (base pages : ℕ) → (nat_le base gfn && nat_lt gfn (base + pages)) ≡ true → (base ≤ gfn) × (gfn < base + pages)
    by base pages is = (grind (arith, nat_tests), grind (arith, nat_tests))

-- A slot that has the run of a guest frame whole has it as the run of each frame in it.
abbrev RunOfEach : ℕ → Type 0
RunOfEach s =
    (base pages host gfn other : ℕ) → other / s ≡ gfn / s → base + gfn % s ≤ gfn → gfn + s ≤ base + pages + gfn % s → (host + (gfn - base)) % s ≡ gfn % s
    → (base + other % s ≤ other) × (other + s ≤ base + pages + other % s)

run_of_each : (level : ℕ) → 1 ≤ level → level ≤ 4 → RunOfEach (level_span level)
run_of_each =
    each_span RunOfEach (λ b p h g o run from to at. (omega (arith, run, from), omega (arith, run, from, to)))
    (λ b p h g o run from to at. (omega (arith, run, from), omega (arith, run, from, to)))
    (λ b p h g o run from to at. (omega (arith, run, from), omega (arith, run, from, to)))
    (λ b p h g o run from to at. (omega (arith, run, from), omega (arith, run, from, to)))

pub run_of_other : (slot : SlotOf) (gfn other level : ℕ) → 1 ≤ level → level ≤ 4 → HasRun level gfn slot → other / level_span level ≡ gfn / level_span level
    → HasRun level other slot
run_of_other slot gfn other level from most run in_run =
    let E = run_of_each level from most slot.base slot.pages slot.host gfn other in_run run.from run.to run.alike in
    let P = run_places level from most slot.base slot.pages slot.host gfn other in_run run.from run.to run.alike in
    record { from = E.0; to = E.1; alike = P.3 }

pub run_has : (slot : SlotOf) (gfn other level : ℕ) → 1 ≤ level → level ≤ 4 → HasRun level gfn slot → other / level_span level ≡ gfn / level_span level
    → contains other slot ≡ true
run_has slot gfn other level from most run in_run =
    let P = run_places level from most slot.base slot.pages slot.host gfn other in_run run.from run.to run.alike in holds_between slot other P.0 P.1

-- The guest frame that a slot gives to a host page is one of the slot's, and the page is this frame's.
pub given_back : (slot : SlotOf) (page gfn : ℕ) → has_host_page page slot ≡ true → gfn ≡ gfn_behind page slot
    → (contains gfn slot ≡ true) × (page_of slot gfn ≡ page)
given_back slot page gfn has is = by slot.base slot.pages slot.host has is
  where
    by : (base pages host : ℕ) → (nat_le host page && nat_lt page (host + pages)) ≡ true → gfn ≡ base + (page - host)
        → ((nat_le base gfn && nat_lt gfn (base + pages)) ≡ true) × (host + (gfn - base) ≡ page)
    by base pages host e at =
        let low : host ≤ page = grind (arith, nat_tests) in
        let high : page < host + pages = grind (arith, nat_tests) in
        let from : base ≤ gfn = omega (arith, at) in
        let to : gfn < base + pages = omega (arith, at, low, high) in
        (grind (arith, nat_tests, from, to), omega (arith, at, low))
