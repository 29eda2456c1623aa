-- A step that publishes a slot set is one of a line, and has what it needs; and it puts the set in place of one that it may replace. Each other step leaves the
-- word of the published set, and the words of this set.
use Rattle.std.proofs.Common.{◌≡◌, ◌≢◌, ◌⊎◌, inl, inr, ℕ, refl, sym, subst, ap, ◌∙◌}
use Rattle.std.specs.Prelude.{false}
use Rattle.core_views.specs.declared.kind.Kind.{Kind}
use Rattle.core_views.specs.declared.kind.StepKind.TheVariants as kind
use Rattle.core_views.specs.declared.sizes.Sizes.{Sizes}
use Rattle.core_views.specs.declared.topics.Topics.{Topics}
use Rattle.core_views.specs.declared.trace.Line.{Line}
use Rattle.core_views.specs.declared.trace.Op.TheVariants.{Add, Read, Write}
use Rattle.core_views.specs.declared.trace.Slot.{Slot}
use Rattle.core_views.specs.Held.{Held}
use Rattle.core_views.specs.Kinds.{kind_named}
use Rattle.spte_words.specs.declared.area.Area.TheVariants as area
use Rattle.part_steps.specs.declared.part_step.PartStep.{PartStep}
use Rattle.part_steps.specs.declared.part_step.PartStep.TheVariants as part
use Rattle.part_steps.specs.declared.task.Task.{Task}
use Rattle.part_steps.specs.InvalidationHoldings.{knows_count}
use Rattle.part_steps.specs.SetHoldings.{MayPublish}
use Rattle.part_steps.specs.PartSteps.{needs_line}
use Rattle.part_steps.specs.PartTasks.{own_index, page_owned, part_task}
use Rattle.part_steps.specs.StayTopics.{has_lock}
use Rattle.part_steps.specs.Tasks.{kind_of_task}
use Rattle.mmu_core.specs.invariant.Laws.{IsSound}
use Rattle.mmu_core.specs.invariant.SlotSetPart.{IsLiveIn}
use Rattle.mmu_core.specs.machine.Enabled.{IsPartStep, mmu}
use Rattle.mmu_core.specs.machine.Machine.{May, Step, World, effect, hand_in}
use Rattle.mmu_core.specs.machine.Steps.{line_at, place_at, task_of}
use Rattle.mmu_core.specs.machine.View.{View, view, word_in, words_after}
use Rattle.mmu_core.proofs.lines.StepIn.{StepIn, Makes, Touches, step_in}
use Rattle.mmu_core.proofs.machine.Views.{named_is}
use Rattle.mmu_core.proofs.machine.PartStepping.{IsFlushedOut, IsPart, MayReplace, idle_never, is_publish}
use Rattle.mmu_core.proofs.machine.Which.{is_next, is_part}
use Rattle.mmu_core.proofs.machine.Worlds.{Takes, TakesPart, are_small, takes}
use Rattle.mmu_core.proofs.slots.LiveStays.{SetStays, published_stays}
use Rattle.mmu_core.proofs.slots.SlotsStay.{is_live_stays, is_live_was}
use Rattle.mmu_laws.specs.steps.PublicationLaws.{HasInvalidated, IsPublished, OthersLeaveSlots, PublicationsAreInvalidated, PublishesWithin, StaysAsPublished}

-- An actor without a line publishes nothing.
never_publishes : (step : PartStep) (own_ : ℕ) (t : Topics) (note : ℕ) → needs_line step ≡ false → (part_task step own_ t note).kind ≡ kind.Publish → ⊥
never_publishes part.Publish own_ t note free is = cc free
never_publishes (part.Fill value) own_ t note free is = cc is
never_publishes _ own_ t note free is = cc is

module _ (z : Sizes) (w : World Held) (s : Step Kind) (G : IsSound z w) (may : May mmu w s) where
  abbrev h : Held
  h = hand_in mmu w s.actor

  abbrev t : Topics
  t = h.topics

  abbrev pool : ℕ → ℕ
  pool = word_in z w area.Pool

  abbrev page : ℕ
  page = page_owned t.owned

  -- The task publishes the page that the actor owns, and the step is such a step of a part.
  record Publishing (task : Task) : Type 0 where
    is_part : IsPart z (view z w) s.actor part.Publish
    pool_stays : words_after task (word_in z w) area.Pool ≡ pool
    puts : words_after task (word_in z w) area.Slots 0 ≡ page

  by_part : (step : PartStep) (note : ℕ) → IsPart z (view z w) s.actor step → (part_task step (own_index h) t note).kind ≡ kind.Publish
      → Publishing (part_task step (own_index h) t note)
  by_part part.Publish note P is = record { is_part = P; pool_stays = refl; puts = refl }
  by_part (part.Fill value) note P is = absurd (cc is)
  by_part _ note P is = absurd (cc is)

  by_task : (task : Task) → StepIn z (view z w) s.actor task → task.kind ≡ kind.Publish → Publishing task
  by_task _ (Makes step note P) is = by_part step note P is
  by_task _ (Touches Read index) is = absurd (cc is)
  by_task _ (Touches (Write x) index) is = absurd (cc is)
  by_task _ (Touches (Add x) index) is = absurd (cc is)

  of_publish : (task : Task) → s.kind ≡ kind_of_task h.state.sizes task → kind_named s.kind.code ≡ kind.Publish → task.kind ≡ kind.Publish
  of_publish task is named = sym (named_is task.kind) ∙ (sym (ap (λ (x : Kind). kind_named x.code) is) ∙ named)

  -- What is live in the page is published after the step, and nothing else.
  after_is : (view z (effect mmu w s)).words area.Pool ≡ pool → (view z (effect mmu w s)).words area.Slots 0 ≡ page → (id : ℕ) (slot : Slot)
      → IsPublished z (effect mmu w s) id slot ≡ IsLiveIn pool page id slot
  after_is pool_is slots_is id slot =
      ap (λ (p : ℕ → ℕ). IsLiveIn p (word_in z (effect mmu w s) area.Slots 0) id slot) pool_is ∙ ap (λ k. IsLiveIn pool k id slot) slots_is

  invalidated : {slot : Slot} → IsPart z (view z w) s.actor part.Publish → IsFlushedOut z.vcpus slot t → HasInvalidated z slot t
  invalidated P F = record {
    opened = F.opened;
    unraised = F.unraised;
    of_no_page = P.needs.of_no_page F.opened;
    start = F.start;
    end_ = F.end_;
    asked = F.asked;
    awaited = F.awaited;
  }

  publishes : (T : Takes z w s h) → Publishing (task_of h) → PublishesWithin z w s
  publishes T P = record {
    alone = N.alone;
    only_own = sym ((G.topics.checks s.actor T.is_step.there).counted (ap has_lock N.alone) (ap knows_count N.looked)) ∙ N.none_open;
    stays = λ id slot live. by id slot (R.stay id slot live);
    changed = R.changed;
    others = λ id slot apart. (λ live. published id slot ((R.others id slot apart).0 live), λ live. (R.others id slot apart).1 (in_page id slot live));
  }
    where
      N : MayPublish t
      N = P.is_part.needs

      R : MayReplace z pool (word_in z w area.Slots 0) page t
      R = P.is_part.replaces

      same : (id : ℕ) (slot : Slot) → IsPublished z (effect mmu w s) id slot ≡ IsLiveIn pool page id slot
      same =
          after_is (ap (λ (v : View). v.words area.Pool) T.leads ∙ P.pool_stays) (ap (λ (v : View). v.words area.Slots 0) T.leads ∙ P.puts)

      published : (id : ℕ) (slot : Slot) → IsLiveIn pool page id slot → IsPublished z (effect mmu w s) id slot
      published id slot live = subst (λ (X : Type 0). X) (sym (same id slot)) live

      in_page : (id : ℕ) (slot : Slot) → IsPublished z (effect mmu w s) id slot → IsLiveIn pool page id slot
      in_page id slot live = subst (λ (X : Type 0). X) (same id slot) live

      by : (id : ℕ) (slot : Slot) → IsLiveIn pool page id slot ⊎ IsFlushedOut z.vcpus slot t
          → IsPublished z (effect mmu w s) id slot ⊎ HasInvalidated z slot t
      by id slot (inl live) = inl (published id slot live)
      by id slot (inr F) = inr (invalidated P.is_part F)

  within : kind_named s.kind.code ≡ kind.Publish → Takes z w s h ⊎ TakesPart z w s h → PublishesWithin z w s
  within named (inl T) =
      let line : Line = line_at h.state.place h in
      publishes T (by_task (task_of h)
      (step_in z (view z w) s.actor line line.command (place_at h.state.place h) (are_small z w G) T.is_step G.holds G.topics)
      (of_publish (task_of h) (is_next h s.kind may.enabled T.has).is named))
  within named (inr T) =
      let P : IsPartStep h s.kind = is_part h s.kind may.enabled T.none_left in
      absurd (never_publishes P.step (own_index h) t P.note P.free (of_publish (part_task P.step (own_index h) t P.note) P.is named))

  -- ---- each other step

  abbrev set : ℕ
  set = word_in z w area.Slots 0

  -- The published set is the same after the task, and its words are.
  record Leaves (task : Task) : Type 0 where
    slots : words_after task (word_in z w) area.Slots 0 ≡ set
    stays : SetStays set pool (words_after task (word_in z w) area.Pool)

  leaves_part : (step : PartStep) (note : ℕ) → is_publish step ≡ false → IsPart z (view z w) s.actor step → Leaves (part_task step (own_index h) t note)
  leaves_part step note never P = record { slots = by step never; stays = published_stays z (view z w) s.actor step note P G.topics }
    where
      by : (x : PartStep) → is_publish x ≡ false → words_after (part_task x (own_index h) t note) (word_in z w) area.Slots 0 ≡ set
      by part.Publish never = absurd (cc never)
      by _ never = refl

  no_publish : (step : PartStep) (note : ℕ) → (part_task step (own_index h) t note).kind ≢ kind.Publish → is_publish step ≡ false
  no_publish part.Publish note other = absurd (other refl)
  no_publish _ note other = refl

  leaves_in : (task : Task) → StepIn z (view z w) s.actor task → task.kind ≢ kind.Publish → Leaves task
  leaves_in _ (Makes step note P) other = leaves_part step note (no_publish step note other) P
  leaves_in _ (Touches Read index) other = record { slots = refl; stays = λ j low. refl }
  leaves_in _ (Touches (Write x) index) other = record { slots = refl; stays = λ j low. refl }
  leaves_in _ (Touches (Add x) index) other = record { slots = refl; stays = λ j low. refl }

  as_published : (v : View) → view z (effect mmu w s) ≡ v → v.words area.Slots 0 ≡ set → SetStays set pool (v.words area.Pool) → (id : ℕ) (slot : Slot)
      → StaysAsPublished z w s id slot
  as_published v leads slots stays id slot = (λ live. to (is_live_stays set pool (v.words area.Pool) stays id slot live), λ live. from live)
    where
      same : IsPublished z (effect mmu w s) id slot ≡ IsLiveIn (v.words area.Pool) set id slot
      same = ap (λ (u : View). IsLiveIn (u.words area.Pool) (u.words area.Slots 0) id slot) leads ∙ ap (λ k. IsLiveIn (v.words area.Pool) k id slot) slots

      to : IsLiveIn (v.words area.Pool) set id slot → IsPublished z (effect mmu w s) id slot
      to live = subst (λ (X : Type 0). X) (sym same) live

      from : IsPublished z (effect mmu w s) id slot → IsPublished z w id slot
      from live = is_live_was set pool (v.words area.Pool) stays id slot (subst (λ (X : Type 0). X) same live)

  others_leave : kind_named s.kind.code ≢ kind.Publish → Takes z w s h ⊎ TakesPart z w s h → (id : ℕ) (slot : Slot) → StaysAsPublished z w s id slot
  others_leave other (inl T) =
      let line : Line = line_at h.state.place h in
      let is = (is_next h s.kind may.enabled T.has).is in
      let P = leaves_in (task_of h)
      (step_in z (view z w) s.actor line line.command (place_at h.state.place h) (are_small z w G) T.is_step G.holds G.topics)
      (λ e. other (ap (λ (x : Kind). kind_named x.code) is ∙ named_is (task_of h).kind ∙ e)) in
      as_published _ T.leads P.slots P.stays
  others_leave other (inr T) =
      let P = leaves_part T.step T.note (idle_never T.step T.free) T.is_part in as_published _ T.leads P.slots P.stays

pub publications_are_invalidated : PublicationsAreInvalidated
publications_are_invalidated z w s G may named = within z w s G may named (takes z w s G may)

pub others_leave_slots : OthersLeaveSlots
others_leave_slots z w s G may other = others_leave z w s G may other (takes z w s G may)
