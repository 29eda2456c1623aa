-- Each step of a part keeps what is said of the slot sets that are held: the published one, and older ones that are retired.
use Rattle.std.proofs.Common.{◌≡◌, inl, inr, ℕ, refl, sym, subst, ap, ◌∙◌, arith}
use Rattle.std.specs.Prelude.{Bool, true, false, if◌then◌else◌, Option, Some, None, is_some}
use Rattle.core_views.specs.declared.sizes.Sizes.{Sizes}
use Rattle.core_views.specs.declared.topics.OwnedPage.{OwnedPage}
use Rattle.core_views.specs.declared.topics.SlotSearch.{SlotSearch}
use Rattle.core_views.specs.Held.{Held}
use Rattle.core_views.specs.Sizes.{actors_of}
use Rattle.spte_words.specs.declared.area.Area.TheVariants as area
use Rattle.part_steps.specs.declared.part_step.PartStep.{PartStep}
use Rattle.part_steps.specs.declared.part_step.PartStep.TheVariants as part
use Rattle.mmu_core.specs.invariant.HeldPart.{HasRetired, HoldsSlots, SetsPart}
use Rattle.part_steps.specs.PartTasks.{page_owned}
use Rattle.mmu_core.specs.invariant.TopicsInvariant.{TopicsInvariant}
use Rattle.part_steps.specs.StayTopics.{may_search, is_loose, is_outside, is_section, kept_search}
use Rattle.part_steps.specs.PageTopics.{still_retired}
use Rattle.part_steps.specs.ControlTopics.{at_set}
use Rattle.mmu_core.specs.machine.View.{View, part_stepped, upd}
use Rattle.mmu_core.proofs.machine.PartStepping.{IsPart}
use Rattle.mmu_core.proofs.words.PartTopics.{behind_step, part_behind}
use Rattle.mmu_core.proofs.words.PartWords.{slots_are, slots_behind}
use Rattle.mmu_core.proofs.held.HeldTopics.{set_kept}
use Rattle.mmu_core.proofs.held.InSection.{all_passed, holder_in_section, watch_passes_nobody}
use Rattle.mmu_core.proofs.held.Retired.{OldStays, OwnStays, held_quiet, held_same, held_still, retired_now}

-- what is said of the slot sets that are held, of a view, where the published one is in this page
abbrev pub SetsAt : Sizes → ℕ → View → Type 0
SetsAt z slots v = SetsPart (actors_of z) slots (λ i. (v.hand i).topics)

-- ---- Each step.

pub let_go_set : (b : Bool) (s : SlotSearch) (k : ℕ) → (kept_search b s).set ≡ Some k → s.set ≡ Some k
let_go_set true s k e = e
let_go_set false s k e = absurd (cc e)

snapshot_set : (b : Bool) (s : SlotSearch) (k : ℕ) → (if b then kept_search false s else s).set ≡ Some k → s.set ≡ Some k
snapshot_set true s k e = absurd (cc e)
snapshot_set false s k e = e

pub begun_set : (b : Bool) (s : SlotSearch) (slots k : ℕ) → (at_set b s slots).set ≡ Some k → k ≡ slots
begun_set true s slots k e = cc
begun_set false s slots k e = absurd (cc e)

still_left : (owned : Option OwnedPage) (retired : Option ℕ) → is_some owned ≡ true → still_retired owned retired ≡ retired
still_left None retired some = absurd (cc some)
still_left (Some o) retired some = refl

abbrev SetsBehind : Sizes → View → ℕ → ℕ → PartStep → Type 0
SetsBehind z v a note step =
    IsPart z v a step → (I : TopicsInvariant z v) → SetsAt z (slots_behind step (v.hand a).topics (v.words area.Slots 0)) (part_behind a step note v)

-- The step publishes nothing.
module _ (z : Sizes) (v : View) (a : ℕ) (h : Held) (I : TopicsInvariant z v) where
  abbrev IsPublished : ℕ → Type 0
  IsPublished k = k ≡ v.words area.Slots 0

  -- And it moves nothing that is retired or watched.
  sets_same : OwnStays HoldsSlots HasRetired (actors_of z) v.hand a h IsPublished → h.topics.retired ≡ (v.hand a).topics.retired
      → h.topics.watched ≡ (v.hand a).topics.watched → SetsPart (actors_of z) (v.words area.Slots 0) (λ i. (upd v.hand a h i).topics)
  sets_same own leaves watched = held_quiet HoldsSlots HasRetired (actors_of z) v.hand a h IsPublished own (λ k left. leaves ∙ left) watched I.sets

  -- Or it leaves what is searched.
  sets_stay : h.topics.search.set ≡ (v.hand a).topics.search.set → h.topics.stay ≡ (v.hand a).topics.stay
      → OldStays HoldsSlots HasRetired (actors_of z) v.hand a h IsPublished → SetsPart (actors_of z) (v.words area.Slots 0) (λ i. (upd v.hand a h i).topics)
  sets_stay same stays old = held_same HoldsSlots HasRetired (actors_of z) v.hand a h IsPublished (λ k e. inr (sym same ∙ e, stays)) old I.sets

-- Another slot set is published: what others hold of the one before it is retired by the actor.
publish_sets : (z : Sizes) (v : View) (a note : ℕ) → SetsBehind z v a note part.Publish
publish_sets z v a note S I =
    held_still HoldsSlots HasRetired (actors_of z) v.hand a _ (λ k. k ≡ v.words area.Slots 0) (λ k. k ≡ page_owned (v.hand a).topics.owned)
    (λ k e. absurd (cc e)) (λ k e. absurd (cc e))
    (λ i k ne lt held published. inr (retired_now HoldsSlots HasRetired (actors_of z) v.hand a _ i k S.there ne
    (ap is_outside (holder_in_section z v a i k S.there lt ne I S.needs.alone held)) (ap Some (sym published), omega arith)))
    (λ i k ne lt inside left unwatched. absurd (let none = S.needs.none_retired in cc (none, left))) I.sets

sets_behind : (z : Sizes) (v : View) (a note : ℕ) (step : PartStep) → SetsBehind z v a note step
sets_behind z v a note part.Enter = λ S I. sets_same z v a _ I (λ k e. absurd (cc e)) refl refl
sets_behind z v a note part.Leave = λ S I. sets_same z v a _ I (λ k e. absurd (cc e)) refl refl
sets_behind z v a note part.Begin = λ S I. sets_same z v a _ I (λ k e. absurd (cc e)) refl refl
sets_behind z v a note part.End = λ S I. sets_same z v a _ I (λ k e. absurd (cc e)) refl refl
sets_behind z v a note part.Unshare =
    λ S I. sets_same z v a _ I (λ k e. inr (let_go_set (is_section (v.hand a).topics.stay) (v.hand a).topics.search k e, refl)) refl refl
sets_behind z v a note part.Release =
    λ S I. sets_same z v a _ I (λ k e. inr (let_go_set (is_section (v.hand a).topics.stay) (v.hand a).topics.search k e, refl)) refl refl
sets_behind z v a note part.Seq =
    λ S I. sets_same z v a _ I (λ k e. inr (snapshot_set (is_loose (v.hand a).topics.hold) (v.hand a).topics.search k e, refl)) refl refl
sets_behind z v a note part.Slots =
    λ S I. sets_same z v a _ I
    (λ k e. inl (begun_set (may_search (v.hand a).topics.stay (v.hand a).topics.hold) (v.hand a).topics.search (v.words area.Slots 0) k e)) refl refl
sets_behind z v a note part.Slot =
    λ S I. sets_same z v a _ I (λ k e. inr (sym (set_kept (is_some (v.hand a).topics.search.set) (v.hand a).topics.search _) ∙ e, refl)) refl refl
sets_behind z v a note part.Give =
    λ S I. sets_same z v a _ I (λ k e. inr (e, refl)) (still_left (v.hand a).topics.owned (v.hand a).topics.retired S.needs.0) refl
sets_behind z v a note part.GiveOld =
    λ S I. sets_stay z v a _ I refl refl
    (λ i k ne lt inside left unwatched. absurd (all_passed z (v.hand a) a i S.sizes S.own_place S.needs.watched lt ne unwatched))
sets_behind z v a note (part.Watch index) =
    λ S I. sets_stay z v a _ I refl refl (λ i k ne lt inside left unwatched. inr (left, watch_passes_nobody z v a index S I i ne lt inside unwatched))
sets_behind z v a note part.Publish = publish_sets z v a note
sets_behind z v a note (part.Change new_) = λ S I. sets_stay z v a _ I refl refl (λ i k ne lt inside left unwatched. inr (left, omega arith))
sets_behind z v a note _ = λ S I. sets_same z v a _ I (λ k e. inr (e, refl)) refl refl

pub sets_kept : (z : Sizes) (v : View) (a : ℕ) (step : PartStep) (note : ℕ) → IsPart z v a step → TopicsInvariant z v
    → SetsPart (actors_of z) ((part_stepped a step note v).words area.Slots 0) (λ i. ((part_stepped a step note v).hand i).topics)
sets_kept z v a step note S I =
    subst (λ s. SetsPart (actors_of z) s (λ i. ((part_stepped a step note v).hand i).topics)) (sym (slots_are v a step note))
    (behind_step (SetsAt z (slots_behind step (v.hand a).topics (v.words area.Slots 0))) z v a step note S (sets_behind z v a note step S I))
