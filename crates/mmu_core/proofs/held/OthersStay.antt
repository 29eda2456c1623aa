-- What other hands own, and that no page is retired, after each step of a part and of an access.
use Rattle.std.proofs.Common.{◌≡◌, ◌≢◌, ◌<◌, ℕ, refl, ap, ◌∙◌}
use Rattle.std.specs.Prelude.{false, Option, Some, None}
use Rattle.core_views.specs.declared.place.AccessPlace.{AccessPlace}
use Rattle.core_views.specs.declared.sizes.Sizes.{Sizes}
use Rattle.core_views.specs.declared.trace.Op.{Op}
use Rattle.core_views.specs.declared.topics.Topics.{Topics}
use Rattle.core_views.specs.Held.{Held}
use Rattle.core_views.specs.Sizes.{actors_of}
use Rattle.spte_words.specs.declared.area.Area.TheVariants as area
use Rattle.spte_words.specs.Areas.{content_index}
use Rattle.part_steps.specs.declared.part_step.PartStep.{PartStep}
use Rattle.mmu_core.specs.forms.access.Cached.{frame_used}
use Rattle.mmu_core.specs.forms.access.AccessSteps.{access_note, access_part, access_task, task_by, touch_of}
use Rattle.part_steps.specs.PartTasks.{own_index, part_task}
use Rattle.part_steps.specs.Tasks.{kind_of_task, map_of}
use Rattle.mmu_core.specs.invariant.TopicsInvariant.{TopicsInvariant}
use Rattle.part_steps.specs.TopicSteps.{topics_after}
use Rattle.mmu_core.specs.machine.View.{View, part_stepped}
use Rattle.mmu_core.proofs.pages.FilledKept.{others_elsewhere}
use Rattle.mmu_core.proofs.lines.KnowsKept.{touch_topics}
use Rattle.mmu_core.proofs.slots.LiveStays.{access_never}
use Rattle.mmu_core.proofs.pages.OwnedBehind.{retired_behind, retired_is}
use Rattle.mmu_core.proofs.machine.PartStepping.{IsPart, is_publish}
use Rattle.mmu_core.proofs.words.PartWords.{page_stays}
use Rattle.mmu_core.proofs.held.OldSets.{was_retired}
use Rattle.mmu_core.proofs.slots.SlotsStay.{OwnedStays}

-- The words of a page that another actor owns stay.
pub owned_stays : (z : Sizes) (v : View) (a : ℕ) (step : PartStep) (note : ℕ) → IsPart z v a step → TopicsInvariant z v → (i : ℕ) → i < actors_of z → i ≢ a
    → OwnedStays (v.words area.Pool) ((part_stepped a step note v).words area.Pool) (v.hand i)
owned_stays z v a step note S P i lt ne = λ o is j low. page_stays z v a step note S o.page (others_elsewhere z v a step S P i o lt ne is) j low

-- Where no page is retired, none is after a step that publishes none.
pub retires_none : (step : PartStep) (z : Sizes) (own : ℕ) (t : Topics) (note v : ℕ) → is_publish step ≡ false → t.retired ≡ None
    → (topics_after z (kind_of_task z (part_task step own t note)) t v).retired ≡ None
retires_none step z own t note v never none = retired_is step z own t note v ∙ by (retired_behind step t v) refl
  where
    by : (x : Option ℕ) → retired_behind step t v ≡ x → retired_behind step t v ≡ None
    by None e = e
    by (Some k) e = let was = was_retired step t v k never e in absurd (cc (was, none))

pub access_leaves_none : (h : Held) (p : AccessPlace) (gfn word : ℕ) (op : Op) (v : ℕ) → h.topics.retired ≡ None
    → (topics_after h.state.sizes (kind_of_task h.state.sizes (access_task p h gfn word op)) h.topics v).retired ≡ None
access_leaves_none h p gfn word op v none = by (access_part p gfn h.topics) (λ step is. access_never p gfn h.topics step is)
  where
    index : ℕ
    index = content_index (map_of h.state.sizes) (frame_used gfn h.state) word

    by : (o : Option PartStep) → ((step : PartStep) → o ≡ Some step → is_publish step ≡ false)
        → (topics_after h.state.sizes (kind_of_task h.state.sizes (task_by o h (access_note p) (touch_of op index))) h.topics v).retired ≡ None
    by None never = ap (λ (t : Topics). t.retired) (touch_topics h.state.sizes op index h.topics v) ∙ none
    by (Some step) never = retires_none step h.state.sizes (own_index h) h.topics (access_note p) v (never step refl) none
