-- Each step of a part keeps it that an open invalidation of no host page is of a live slot, until its actor publishes.
use Rattle.std.proofs.Common.{◌≡◌, ◌<◌, ℕ, refl, sym, subst, ◌∙◌}
use Rattle.std.specs.Prelude.{◌==◌, Bool, true, false, None}
use Rattle.core_views.specs.declared.sizes.Sizes.{Sizes}
use Rattle.core_views.specs.declared.topics.Invalidated.{Invalidated}
use Rattle.core_views.specs.declared.topics.Topics.{Topics}
use Rattle.core_views.specs.Held.{Held}
use Rattle.core_views.specs.Sizes.{actors_of}
use Rattle.spte_words.specs.declared.area.Area.TheVariants as area
use Rattle.part_steps.specs.declared.part_step.PartStep.{PartStep}
use Rattle.part_steps.specs.declared.part_step.PartStep.TheVariants as part
use Rattle.mmu_core.specs.invariant.RunsPart.{IsOfSlot, SlotScopePart}
use Rattle.mmu_core.specs.invariant.TopicsInvariant.{TopicsInvariant}
use Rattle.mmu_core.specs.machine.View.{View, part_stepped}
use Rattle.mmu_core.proofs.held.Invalidating.{topics_now}
use Rattle.mmu_core.proofs.held.KeptEmpty.{still_there}
use Rattle.mmu_core.proofs.held.OpenFrames.{opened_by}
use Rattle.mmu_core.proofs.held.ScopesKept.{none_beside}
use Rattle.mmu_core.proofs.machine.Columns.{at_upd}
use Rattle.mmu_core.proofs.machine.PartStepping.{IsPart, is_publish}
use Rattle.mmu_core.proofs.slots.LiveStays.{SetStays, published_stays}
use Rattle.mmu_core.proofs.slots.SlotsStay.{is_live_stays}
use Rattle.mmu_core.proofs.words.PartTopics.{behind_step, part_behind}
use Rattle.mmu_core.proofs.words.PartWords.{slots_are, slots_same}
use Rattle.mmu_core.proofs.held.PageRuns.{changed_none}
use Rattle.part_steps.specs.PartTasks.{page_to_change, word_next}

-- of the words as they were
abbrev SlotsIn : Sizes → View → View → Type 0
SlotsIn z v w = SlotScopePart (actors_of z) (v.words area.Pool) (v.words area.Slots 0) (λ i. (w.hand i).topics)

-- The open invalidation is of a live slot of these words, if it is of no page and its actor has retired none.
abbrev OwnIsOfSlot : View → Topics → Type 0
OwnIsOfSlot v t =
    t.invalidations.opened ≡ true → t.invalidations.own.pages ≡ None → t.retired ≡ None
    → IsOfSlot (v.words area.Pool) (v.words area.Slots 0) t.invalidations.own

slots_behind : (z : Sizes) (v : View) (a note : ℕ) (step : PartStep) → IsPart z v a step → TopicsInvariant z v → SlotsIn z v (part_behind a step note v)
slots_behind z v a note step S I =
    at_upd (λ i (k : Held). i < actors_of z → OwnIsOfSlot v k.topics) v.hand a _ (λ there. own step S) (λ i ne there. I.slot_scopes i there)
  where
    own : (step : PartStep) → IsPart z v a step → OwnIsOfSlot v (topics_now v a note step)
    own (part.SetStart first gfn) T is = absurd (let closed = T.needs.0.opening.closed in cc (is, closed))
    own (part.SetEnd last gfn) T is = absurd (let closed = T.needs.0.opening.closed in cc (is, closed))
    own (part.SetCount count) T more = λ of_none unretired.
        T.replaces.of_slot (opened_by z v a I T.there (v.hand a).topics.invalidations.opened count refl T.needs.0.is more) of_none
    own part.Publish T is = λ of_none unretired. absurd (cc unretired)
    own part.ChangeNext T is = λ of_none unretired.
        absurd (changed_none (v.words area.Host (page_to_change (v.hand a).topics.invalidations.own.pages)
        == word_next (v.hand a).topics.invalidations.own.pages)
        (v.hand a).topics.invalidations.own.pages T.needs.is of_none)
    own part.GiveOld T is = absurd (let closed = T.needs.closed in cc (is, closed))
    own part.Give T is = λ of_none unretired.
        I.slot_scopes a T.there is of_none (sym (still_there (v.hand a).topics.owned (v.hand a).topics.retired T.needs.0) ∙ unretired)
    own _ T is = I.slot_scopes a T.there is

-- Whoever has one open has retired a page.
abbrev NoneUnretired : Sizes → View → Type 0
NoneUnretired z v =
    (i : ℕ) → i < actors_of z → (v.hand i).topics.invalidations.opened ≡ true → (v.hand i).topics.retired ≡ None → ⊥

-- So it is after a publication.
none_unretired : (z : Sizes) (v : View) (a note : ℕ) (step : PartStep) → IsPart z v a step → TopicsInvariant z v → is_publish step ≡ true
    → NoneUnretired z (part_behind a step note v)
none_unretired z v a note part.Publish S I is =
    at_upd (λ i (k : Held). i < actors_of z → k.topics.invalidations.opened ≡ true → k.topics.retired ≡ None → ⊥) v.hand a _
    (λ lt opened unretired. absurd (cc unretired)) (λ i ne lt opened unretired. none_beside z v a S I i ne lt opened)
none_unretired z v a note _ S I is = absurd (cc is)

pub slot_scopes_kept : (z : Sizes) (v : View) (a : ℕ) (step : PartStep) (note : ℕ) → IsPart z v a step → TopicsInvariant z v
    → SlotScopePart (actors_of z) ((part_stepped a step note v).words area.Pool) ((part_stepped a step note v).words area.Slots 0)
    (λ i. ((part_stepped a step note v).hand i).topics)
slot_scopes_kept z v a step note S I i lt opened of_none unretired = by (is_publish step) refl
  where
    after : ℕ → ℕ
    after = (part_stepped a step note v).words area.Pool

    own_ : Invalidated
    own_ = ((part_stepped a step note v).hand i).topics.invalidations.own

    stays : SetStays (v.words area.Slots 0) (v.words area.Pool) after
    stays = published_stays z v a step note S I

    was : IsOfSlot (v.words area.Pool) (v.words area.Slots 0) own_
    was = behind_step (SlotsIn z v) z v a step note S (slots_behind z v a note step S I) i lt opened of_none unretired

    by : (b : Bool) → is_publish step ≡ b → IsOfSlot after ((part_stepped a step note v).words area.Slots 0) own_
    by true is = absurd (behind_step (NoneUnretired z) z v a step note S (none_unretired z v a note step S I is) i lt opened unretired)
    by false is =
        subst (λ s. IsOfSlot after s own_) (sym (slots_are v a step note ∙ slots_same step (v.hand a).topics (v.words area.Slots 0) is)) (record {
          id = was.id;
          slot = was.slot;
          live = is_live_stays (v.words area.Slots 0) (v.words area.Pool) after stays was.id was.slot was.live;
          start = was.start;
          end_ = was.end_;
        })
