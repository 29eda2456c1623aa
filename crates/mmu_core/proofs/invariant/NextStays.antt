-- What the change of a page of a run needs holds where there merely is a run for which it does: the run is the one that the invalidation is of.
use Rattle.std.proofs.Common.{◌≡◌, ◌<◌, ◌≤◌, refl, sym, subst, ◌∙◌}
use Rattle.std.specs.Prelude.{Option, Some, None}
use Rattle.std.proofs.Math.Logic.{∥∥₁_elim}
use Rattle.std.proofs.Props.{props}
use Rattle.core_views.specs.declared.topics.PageRun.{PageRun}
use Rattle.core_views.specs.Held.{Held}
use Rattle.spte_words.specs.Entries.{level_span}
use Rattle.part_steps.specs.InvalidationHoldings.{MayChangeNext}

pub same_of : {x y : PageRun} (pages : Option PageRun) → pages ≡ Some x → pages ≡ Some y → x ≡ y
same_of pages one other = cc (sym one ∙ other)

pub next_stays : (h : Held) → ∥ MayChangeNext h ∥₁ → MayChangeNext h
next_stays h x = by h.topics.invalidations.own.pages refl
  where
    by : (pages : Option PageRun) → h.topics.invalidations.own.pages ≡ pages → MayChangeNext h
    by None is = absurd (∥∥₁_elim x (hlevel props) (λ M. let some = M.is in cc (some, is)))
    by (Some run) is = record {
      run = run;
      is = is;
      several = ∥∥₁_elim x (hlevel props) (λ M. subst (λ (r : PageRun). 2 ≤ r.level) (same_of h.topics.invalidations.own.pages M.is is) M.several);
      left =
          ∥∥₁_elim x (hlevel props)
          (λ M. subst (λ (r : PageRun). r.changed < level_span r.level) (same_of h.topics.invalidations.own.pages M.is is) M.left);
      opened = ∥∥₁_elim x (hlevel props) (λ M. M.opened);
      unraised = ∥∥₁_elim x (hlevel props) (λ M. M.unraised);
      asked = ∥∥₁_elim x (hlevel props) (λ M. M.asked);
      awaited = ∥∥₁_elim x (hlevel props) (λ M. M.awaited);
      unlocked = ∥∥₁_elim x (hlevel props) (λ M. M.unlocked);
    }
