-- Which pages a line sets, of the run of several that its invalidation is of.
use Rattle.std.proofs.Common.{◌≡◌, ◌+◌, ◌-◌, ◌*◌, ◌/◌, ◌%◌, ◌<◌, ◌≤◌, ℕ, refl, sym, subst, ap, ◌∙◌, arith}
use Rattle.std.specs.Prelude.{false, Some}
use Rattle.core_views.specs.declared.topics.PageRun.{PageRun}
use Rattle.core_views.specs.declared.trace.RunChange.{RunChange}
use Rattle.core_views.specs.declared.trace.RunChange.TheVariants.{Huge, Small}
use Rattle.core_views.specs.HostRuns.{IsAmong, run_count, run_first, run_pages}
use Rattle.spte_words.specs.Entries.{level_span}
use Rattle.spte_words.specs.HostWords.{host_level}
use Rattle.part_steps.specs.PageRuns.{IsOnRun, run_start}
use Rattle.mmu_core.specs.forms.host.HostSteps.{entry_of, maps_large}
use Rattle.mmu_core.specs.forms.host_run.HostRunKnows.{ChangesRun}
use Rattle.mmu_core.proofs.forms.host_run.RunLooks.{large_count}
use Rattle.mmu_laws.proofs.forms.host_run.RunNotes.{each_pages}

-- The first page of a run of several is the first that the line sets; and each that it sets is on the run.
pub record IsSetRun (page : ℕ) (change : RunChange) (run : PageRun) : Type 0 where
  pub first : run_start run ≡ run_first change page (entry_of run.word)
  pub count : run_count change (entry_of run.word) ≡ level_span run.level
  pub on : (other : ℕ) → IsAmong (run_first change page (entry_of run.word)) (run_count change (entry_of run.word)) other → IsOnRun other (Some run)

-- Of a level of more than one page: where a run of it begins, and which pages are on it.
module _ (level first other : ℕ) (from : 2 ≤ level) (most : level ≤ 3) where
  start_is : first - first % level_span level ≡ first / level_span level * level_span level
  start_is =
      subst (λ s. first - first % s ≡ first / s * s) (large_count level from most)
      (each_pages (λ n. first - first % n ≡ first / n * n) (omega arith) (omega arith) (omega arith) level)

  row_on : first % level_span level ≡ 0 → first ≤ other → other < first + level_span level → other / level_span level ≡ first / level_span level
  row_on =
      subst (λ s. first % s ≡ 0 → first ≤ other → other < first + s → other / s ≡ first / s) (large_count level from most)
      (each_pages (λ n. first % n ≡ 0 → first ≤ other → other < first + n → other / n ≡ first / n) (λ e low high. omega (arith, e, low, high))
      (λ e low high. omega (arith, e, low, high)) (λ e low high. omega (arith, e, low, high)) level)

  pub span_on : first / level_span level * level_span level ≤ other → other < first / level_span level * level_span level + level_span level
      → other / level_span level ≡ first / level_span level
  span_on =
      subst (λ s. first / s * s ≤ other → other < first / s * s + s → other / s ≡ first / s) (large_count level from most)
      (each_pages (λ n. first / n * n ≤ other → other < first / n * n + n → other / n ≡ first / n) (λ low high. omega (arith, low, high))
      (λ low high. omega (arith, low, high)) (λ low high. omega (arith, low, high)) level)

pub set_run : (page : ℕ) (change : RunChange) (run : PageRun) → ChangesRun page change run
    → (maps_large run.word ≡ false → run.first % level_span run.level ≡ 0) → IsSetRun page change run
set_run page (Huge level) run C begins =
    let same = (C.huge level refl).0 in
    let at = C.first in
    let starts : run.first % level_span run.level ≡ 0 = begins (C.huge level refl).1 in
    let count : run_pages level ≡ level_span run.level = ap run_pages (sym same) ∙ large_count run.level C.level.0 C.level.1 in record {
      first = omega (arith, at, starts);
      count = count;
      on = λ other among.
          row_on run.level run.first other C.level.0 C.level.1 starts (let low = among.0 in omega (arith, low, at))
          (let high : other < page + run_pages level = among.1 in omega (arith, high, at, count));
    }
set_run page Small run C begins =
    let at = C.first in
    let level : host_level run.word ≡ run.level = C.small refl in
    let count : run_pages (host_level run.word) ≡ level_span run.level = ap run_pages level ∙ large_count run.level C.level.0 C.level.1 in record {
      first =
          subst (λ n. run_start run ≡ page / n * n) (sym count)
          (subst (λ p. run_start run ≡ p / level_span run.level * level_span run.level) at (start_is run.level run.first run.first C.level.0 C.level.1));
      count = count;
      on = λ other among.
          subst (λ p. other / level_span run.level ≡ p / level_span run.level) (sym at)
          (subst (λ n. page / n * n ≤ other → other < page / n * n + n → other / level_span run.level ≡ page / level_span run.level) (sym count)
          (span_on run.level page other C.level.0 C.level.1) among.0 among.1);
    }
