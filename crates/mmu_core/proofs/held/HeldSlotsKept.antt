-- Each step of a part keeps what the slot sets that actors hold say of guest frames: what the published one says, as long as the sequence number is that of the
-- snapshot, and nobody is invalidating the frame.
use Rattle.std.proofs.Common.{◌≡◌, ◌⊎◌, inl, inr, ◌<◌, ℕ, refl, sym, subst, ap, ◌∙◌}
use Rattle.std.specs.Prelude.{Bool, true, false, Some, is_some}
use Rattle.core_views.specs.declared.sizes.Sizes.{Sizes}
use Rattle.core_views.specs.declared.topics.Topics.{Topics}
use Rattle.core_views.specs.Held.{Held}
use Rattle.core_views.specs.Sizes.{actors_of}
use Rattle.spte_words.specs.declared.area.Area.TheVariants as area
use Rattle.part_steps.specs.declared.part_step.PartStep.{PartStep}
use Rattle.part_steps.specs.declared.part_step.PartStep.TheVariants as part
use Rattle.part_steps.specs.PartTasks.{page_owned}
use Rattle.part_steps.specs.PartTopics.{sequenced}
use Rattle.part_steps.specs.StayTopics.{is_loose, is_section, may_search}
use Rattle.mmu_core.specs.invariant.SearchPart.{HeldSlotsPart, IsOnFrame}
use Rattle.mmu_core.specs.invariant.SlotSetPart.{IsLiveIn}
use Rattle.mmu_core.specs.invariant.TopicsInvariant.{TopicsInvariant}
use Rattle.mmu_core.specs.machine.View.{View, part_stepped}
use Rattle.mmu_core.proofs.held.HeldTopics.{set_kept}
use Rattle.mmu_core.proofs.held.Invalidating.{NoneInvalidating, invalidating_after, none_is_raised, raises_number, topics_now}
use Rattle.mmu_core.proofs.held.OldSets.{held_words_stay}
use Rattle.mmu_core.proofs.held.SetsKept.{begun_set, let_go_set}
use Rattle.mmu_core.proofs.machine.Columns.{at_upd}
use Rattle.mmu_core.proofs.machine.PartStepping.{IsFlushedOut, IsPart, flushed_within}
use Rattle.mmu_core.proofs.slots.LiveStays.{SetStays, live_in_stays, published_stays, words_live}
use Rattle.mmu_core.proofs.words.PartTopics.{behind_step, part_behind}
use Rattle.mmu_core.proofs.words.PartWords.{slots_are, slots_behind}

-- ---- which set an actor holds after its own step

-- It was loaded just now, or was held with the snapshot that there was.
abbrev LoadedOrHeld : View → ℕ → Topics → ℕ → Type 0
LoadedOrHeld v a t set =
    (set ≡ v.words area.Slots 0) ⊎ ((v.hand a).topics.search.set ≡ Some set) × (t.invalidations.snapshot ≡ (v.hand a).topics.invalidations.snapshot)

sequenced_set : (loose : Bool) (t : Topics) (seq set : ℕ) → (sequenced loose t seq).search.set ≡ Some set
    → (t.search.set ≡ Some set) × ((sequenced loose t seq).invalidations.snapshot ≡ t.invalidations.snapshot)
sequenced_set true t seq set e = absurd (cc e)
sequenced_set false t seq set e = (e, refl)

own_set : (v : View) (a note set : ℕ) (step : PartStep) → (topics_now v a note step).search.set ≡ Some set → LoadedOrHeld v a (topics_now v a note step) set
own_set v a note set part.Enter e = absurd (cc e)
own_set v a note set part.Leave e = absurd (cc e)
own_set v a note set part.Begin e = absurd (cc e)
own_set v a note set part.End e = absurd (cc e)
own_set v a note set part.Publish e = absurd (cc e)
own_set v a note set part.Unshare e = inr (let_go_set (is_section (v.hand a).topics.stay) (v.hand a).topics.search set e, refl)
own_set v a note set part.Release e = inr (let_go_set (is_section (v.hand a).topics.stay) (v.hand a).topics.search set e, refl)
own_set v a note set part.Seq e = inr (sequenced_set (is_loose (v.hand a).topics.hold) (v.hand a).topics (v.words area.Seq 0) set e)
own_set v a note set part.Slots e =
    inl (begun_set (may_search (v.hand a).topics.stay (v.hand a).topics.hold) (v.hand a).topics.search (v.words area.Slots 0) set e)
own_set v a note set part.Slot e = inr (sym (set_kept (is_some (v.hand a).topics.search.set) (v.hand a).topics.search _) ∙ e, refl)
own_set v a note set _ e = inr (e, refl)

-- ---- what it says of a guest frame

-- what is so of each slot of a set that is held, in these words of the pool, where the published set is this one
abbrev HeldSlotsIn : Sizes → (ℕ → ℕ) → ℕ → View → Type 0
HeldSlotsIn z pool slots w = HeldSlotsPart (actors_of z) (w.words area.Seq 0) pool slots (λ i. (w.hand i).topics)

abbrev SlotsAfter : Sizes → View → ℕ → ℕ → PartStep → Type 0
SlotsAfter z v a note step =
    IsPart z v a step → TopicsInvariant z v
    → HeldSlotsIn z (v.words area.Pool) (slots_behind step (v.hand a).topics (v.words area.Slots 0)) (part_behind a step note v)

same_slots : (z : Sizes) (v : View) (a note : ℕ) (step : PartStep) → raises_number step ≡ false
    → (part_behind a step note v).words area.Seq 0 ≡ v.words area.Seq 0
    → slots_behind step (v.hand a).topics (v.words area.Slots 0) ≡ v.words area.Slots 0 → SlotsAfter z v a note step
same_slots z v a note step other seq same S I i set gfn id slot lt held taken none live has =
    subst (λ s. IsLiveIn pool s id slot) (sym same)
    (at_upd (λ j (k : Held). j < actors_of z → k.topics.search.set ≡ Some set → k.topics.invalidations.snapshot ≡ Some (v.words area.Seq 0)
    → IsLiveIn pool (v.words area.Slots 0) id slot) v.hand a _ (λ there held taken. own there taken (own_set v a note set step held))
    (λ j ne there held taken. I.held_slots j set gfn id slot there held taken before live has) i lt held (taken ∙ ap Some seq))
  where
    pool : ℕ → ℕ
    pool = v.words area.Pool

    before : NoneInvalidating z v (IsOnFrame gfn)
    before j low U = none j low (invalidating_after z v a note (IsOnFrame gfn) (λ won own_ on. on) step S other j U)

    own : a < actors_of z → (topics_now v a note step).invalidations.snapshot ≡ Some (v.words area.Seq 0)
        → LoadedOrHeld v a (topics_now v a note step) set → IsLiveIn pool (v.words area.Slots 0) id slot
    own there taken (inl e) = subst (λ s. IsLiveIn pool s id slot) e live
    own there taken (inr was) = I.held_slots a set gfn id slot there was.0 (sym was.1 ∙ taken) before live has

-- Another slot set is published: what the one before it says of a frame that nobody is invalidating, it says too.
published_slots : (z : Sizes) (v : View) (a note : ℕ) → SlotsAfter z v a note part.Publish
published_slots z v a note S I i set gfn id slot lt held taken none live has =
    stays (S.replaces.stay id slot
    (at_upd (λ j (k : Held). j < actors_of z → k.topics.search.set ≡ Some set → k.topics.invalidations.snapshot ≡ Some (v.words area.Seq 0)
    → IsLiveIn (v.words area.Pool) (v.words area.Slots 0) id slot) v.hand a _ (λ there held taken. absurd (cc held))
    (λ j ne there held taken. I.held_slots j set gfn id slot there held taken before live has) i lt held taken))
  where
    before : NoneInvalidating z v (IsOnFrame gfn)
    before j low U = none j low (invalidating_after z v a note (IsOnFrame gfn) (λ won own_ on. on) part.Publish S refl j U)

    -- the frame of a slot that is flushed out is one that the publisher is invalidating
    stays : IsLiveIn (v.words area.Pool) (page_owned (v.hand a).topics.owned) id slot ⊎ IsFlushedOut z.vcpus slot (v.hand a).topics
        → IsLiveIn (v.words area.Pool) (page_owned (v.hand a).topics.owned) id slot
    stays (inl same) = same
    stays (inr F) =
        let of_it = flushed_within z.vcpus gfn slot (v.hand a).topics F has in
        absurd (before a S.there (record { opened = F.opened; unraised = F.unraised; of_it = of_it }))

raised_slots : (z : Sizes) (v : View) (a note seq : ℕ) → SlotsAfter z v a note (part.SetSeq seq)
raised_slots z v a note seq S I i set gfn id slot lt held taken none live has = absurd (none_is_raised z v a note seq S I i seq lt taken refl)

slots_after_step : (z : Sizes) (v : View) (a note : ℕ) (step : PartStep) → SlotsAfter z v a note step
slots_after_step z v a note (part.SetSeq seq) = raised_slots z v a note seq
slots_after_step z v a note part.Publish = published_slots z v a note
slots_after_step z v a note step = same_slots z v a note step refl refl refl

-- The words of the set that is published after a step stay in it.
now_stays : (z : Sizes) (v : View) (a : ℕ) (step : PartStep) (note : ℕ) → IsPart z v a step → TopicsInvariant z v
    → SetStays (slots_behind step (v.hand a).topics (v.words area.Slots 0)) (v.words area.Pool) ((part_stepped a step note v).words area.Pool)
now_stays z v a part.Publish note S I = λ j low. refl
now_stays z v a step note S I = published_stays z v a step note S I

pub held_slots_kept : (z : Sizes) (v : View) (a : ℕ) (step : PartStep) (note : ℕ) → IsPart z v a step → TopicsInvariant z v
    → HeldSlotsIn z ((part_stepped a step note v).words area.Pool) ((part_stepped a step note v).words area.Slots 0) (part_stepped a step note v)
held_slots_kept z v a step note S I i set gfn id slot lt held taken none live has =
    subst (λ s. IsLiveIn after s id slot) (sym (slots_are v a step note))
    (live_in_stays now_ before after id slot (words_live now_ before after (now_stays z v a step note S I))
    (in_old i set gfn id slot lt held taken none
    (live_in_stays set after before id slot (words_live set after before (λ j low. sym (held_words_stay z v a step note S I i set lt held j low))) live) has))
  where
    before : ℕ → ℕ
    before = v.words area.Pool

    after : ℕ → ℕ
    after = (part_stepped a step note v).words area.Pool

    now_ : ℕ
    now_ = slots_behind step (v.hand a).topics (v.words area.Slots 0)

    in_old : HeldSlotsIn z before now_ (part_stepped a step note v)
    in_old = behind_step (HeldSlotsIn z before now_) z v a step note S (slots_after_step z v a note step S I)
