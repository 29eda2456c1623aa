-- Runs of host pages: which pages are on them.
use Rattle.std.proofs.Common.{◌≡◌, ◌+◌, ◌/◌, ◌<◌, ◌≤◌, ℕ, refl, sym, subst, ap, ◌∙◌, arith}
use Rattle.std.specs.Prelude.{Bool, true, Option, Some, None, if◌then◌else◌, is_some}
use Rattle.core_views.specs.declared.topics.PageRun.{PageRun}
use Rattle.spte_words.specs.Entries.{level_span}
use Rattle.spte_words.proofs.Spans.{span_1}
use Rattle.part_steps.specs.PageRuns.{IsOnRun, changed_more, run_of}
use Rattle.std.proofs.Props.{props}
use Rattle.mmu_core.proofs.held.WalkSpans.{one_frame}
use Rattle.mmu_core.specs.invariant.RunsPart.{HasOwnerOf, IsInRun, IsOneRun}
use Rattle.core_views.specs.declared.sizes.Sizes.{Sizes}

-- A run with a host page is one.
pub some_run : (page : ℕ) (pages : Option PageRun) → IsOnRun page pages → is_some pages ≡ true
some_run page None on = absurd on
some_run page (Some run) on = refl

-- A run of level 1 has one page.
pub first_of_run : (page : ℕ) (run : PageRun) → run.level ≡ 1 → IsOnRun page (Some run) → page ≡ run.first
first_of_run page run lowest on =
    let one : level_span run.level ≡ 1 = ap level_span lowest ∙ span_1 in
    let same : page / 1 ≡ run.first / 1 = subst (λ s. page / s ≡ run.first / s) one on in
    omega (arith, same)

pub this_page : (other page : ℕ) → IsOnRun other (Some (run_of page)) → other ≡ page
this_page other page on = first_of_run other (run_of page) refl on

-- A page is on the run that is this page; and a run has the same pages once one more of them is changed.
pub on_it : (page : ℕ) (pages : Option PageRun) → pages ≡ Some (run_of page) → IsOnRun page pages
on_it page pages is = subst (IsOnRun page) (sym is) refl

pub on_changed : (won : Bool) (page : ℕ) (pages : Option PageRun) → IsOnRun page pages → IsOnRun page (changed_more won pages)
on_changed won page None on = on
on_changed won page (Some run) on = on

pub was_on : (won : Bool) (page : ℕ) (pages : Option PageRun) → IsOnRun page (changed_more won pages) → IsOnRun page pages
was_on won page None on = on
was_on won page (Some run) on = on

pub some_changed : (won : Bool) (pages : Option PageRun) → is_some (changed_more won pages) ≡ is_some pages
some_changed won None = refl
some_changed won (Some run) = refl

pub changed_none : (won : Bool) {run : PageRun} (pages : Option PageRun) → pages ≡ Some run → changed_more won pages ≡ None → ⊥
changed_none won None is none = cc is
changed_none won (Some run) is none = cc none

-- Where there is one after it, it is the one before, of which one more page is changed, if it is.
pub changed_run : (won : Bool) (pages : Option PageRun) (run now_ : PageRun) → pages ≡ Some run → changed_more won pages ≡ Some now_
    → now_ ≡ record run { changed = if won then run.changed + 1 else run.changed }
changed_run won pages run now_ is after = cc (sym after ∙ ap (changed_more won) is)

-- In one way at most.
pub on_run_prop : (page : ℕ) (pages : Option PageRun) → IsProp (IsOnRun page pages)
on_run_prop page None = hlevel props
on_run_prop page (Some run) = hlevel props

-- A page is mapped as it is itself.
pub alone_alike : (level : ℕ) (host : ℕ → ℕ) (page : ℕ) → level ≤ 1 → IsOneRun level host page page
alone_alike level host page to = record {
  same_level = refl;
  writes = refl;
  frames = refl;
  present = λ more. absurd (omega (arith, to, more));
  in_place = λ more. absurd (omega (arith, to, more));
}

-- So is a run of one page, which its owner owns.
pub one_alone : (z : Sizes) (level page other : ℕ) (host : ℕ → ℕ) → page < z.pages → 1 ≤ level → level ≤ 1 → IsInRun level page other
    → (other < z.pages) × IsOneRun level host page other × HasOwnerOf z page other
one_alone z level page other host there from lowest in_run =
    subst (λ q. (q < z.pages) × IsOneRun level host page q × HasOwnerOf z page q) (sym (one_frame level other page (omega (arith, from, lowest)) in_run))
    (there, alone_alike level host page lowest, λ i owns. owns)
