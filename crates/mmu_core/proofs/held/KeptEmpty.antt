-- Which open invalidations leave nothing of their frames: those of host pages, and those of slots up to the publication.
use Rattle.std.proofs.Common.{◌≡◌, ℕ, refl, sym, subst, ap, ◌∙◌}
use Rattle.std.specs.Prelude.{Bool, true, false, ◌&&◌, ◌||◌, not, Option, Some, None, is_some}
use Rattle.core_views.specs.declared.topics.OwnedPage.{OwnedPage}
use Rattle.core_views.specs.declared.topics.PageRun.{PageRun}
use Rattle.core_views.specs.declared.topics.Topics.{Topics}
use Rattle.part_steps.specs.PageRuns.{IsOnRun}
use Rattle.part_steps.specs.TopicSteps.{run_changed}
use Rattle.part_steps.specs.PageTopics.{given_back, still_retired}
use Rattle.mmu_core.specs.invariant.InvalidatedPart.{keeps_empty}
use Rattle.mmu_core.proofs.forms.access.FaultSame.{both}
use Rattle.mmu_core.proofs.held.PageRuns.{some_changed, some_run}

pub empty_open : (t : Topics) → keeps_empty t ≡ true → t.invalidations.opened ≡ true
empty_open t is = (both t.invalidations.opened (is_some t.invalidations.own.pages || not (is_some t.retired)) is).0

pub some_empty : (t : Topics) → t.invalidations.opened ≡ true → is_some t.invalidations.own.pages ≡ true → keeps_empty t ≡ true
some_empty t opened some =
    ap (λ (b : Bool). b && (is_some t.invalidations.own.pages || not (is_some t.retired))) opened ∙ ap (λ (b : Bool). b || not (is_some t.retired)) some

pub page_empty : (t : Topics) (page : ℕ) → t.invalidations.opened ≡ true → IsOnRun page t.invalidations.own.pages → keeps_empty t ≡ true
page_empty t page opened on = some_empty t opened (some_run page t.invalidations.own.pages on)

by_none : (p : Option PageRun) (r : Option ℕ) → r ≡ None → (is_some p || not (is_some r)) ≡ true
by_none (Some page) r none = refl
by_none None r none = ap (λ (x : Option ℕ). not (is_some x)) none

pub slot_empty : (t : Topics) → t.invalidations.opened ≡ true → t.retired ≡ None → keeps_empty t ≡ true
slot_empty t opened none =
    ap (λ (b : Bool). b && (is_some t.invalidations.own.pages || not (is_some t.retired))) opened ∙ by_none t.invalidations.own.pages t.retired none

-- One of no host page is a slot's, whose actor has published nothing since.
pub empty_slot : (t : Topics) → keeps_empty t ≡ true → t.invalidations.own.pages ≡ None → t.retired ≡ None
empty_slot t is of_none =
    by t.invalidations.own.pages t.retired (both t.invalidations.opened (is_some t.invalidations.own.pages || not (is_some t.retired)) is).1 of_none
  where
    by : (p : Option PageRun) (r : Option ℕ) → (is_some p || not (is_some r)) ≡ true → p ≡ None → r ≡ None
    by None None is none = refl
    by None (Some k) is none = absurd (cc is)
    by (Some page) r is none = absurd (cc none)

-- After a publication it has none any more.
pub published_none : (opened : Bool) (page : Option PageRun) → (opened ≡ true → page ≡ None) → (opened && (is_some page || false)) ≡ true → ⊥
published_none true (Some page) none is = let no = none refl in cc no
published_none true None none is = cc is
published_none false page none is = cc is

-- Who gives a page back that it owns has retired what it had.
pub still_there : (owned : Option OwnedPage) (retired : Option ℕ) → is_some owned ≡ true → still_retired owned retired ≡ retired
still_there None retired some = absurd (cc some)
still_there (Some o) retired some = refl

pub given_empty : (t : Topics) → is_some t.owned ≡ true → keeps_empty (given_back t) ≡ true → keeps_empty t ≡ true
given_empty t some is =
    subst (λ (r : Option ℕ). (t.invalidations.opened && (is_some t.invalidations.own.pages || not (is_some r))) ≡ true) (still_there t.owned t.retired some) is

-- Who changes a page of a run leaves its invalidation as it is.
pub changed_empty : (t : Topics) (won : Bool) → keeps_empty (run_changed won t) ≡ true → keeps_empty t ≡ true
changed_empty t won is =
    sym (ap (λ (b : Bool). t.invalidations.opened && (b || not (is_some t.retired))) (some_changed won t.invalidations.own.pages)) ∙ is
