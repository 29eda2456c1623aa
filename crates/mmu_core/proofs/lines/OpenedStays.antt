-- Which steps of the parts leave it so that no invalidation of the actor's own is open, and that it owns no frame.
use Rattle.std.proofs.Common.{◌≡◌, ℕ, false, refl, ap, ◌∙◌}
use Rattle.std.specs.Prelude.{Option, Some, None}
use Rattle.core_views.specs.declared.place.AccessPlace.{AccessPlace}
use Rattle.core_views.specs.declared.topics.Topics.{Topics}
use Rattle.core_views.specs.declared.trace.Op.{Op}
use Rattle.core_views.specs.Held.{Held}
use Rattle.spte_words.specs.Areas.{content_index}
use Rattle.part_steps.specs.declared.part_step.PartStep.{PartStep}
use Rattle.part_steps.specs.declared.part_step.PartStep.TheVariants as part
use Rattle.part_steps.specs.PartSteps.{PartNeeds}
use Rattle.part_steps.specs.PartTasks.{own_index, part_task}
use Rattle.part_steps.specs.PartTopics.{part_topics}
use Rattle.part_steps.specs.Tasks.{kind_of_task, map_of}
use Rattle.part_steps.specs.TopicSteps.{topics_after}
use Rattle.mmu_core.specs.forms.access.AccessSteps.{access_note, access_part, access_task, task_by, touch_of}
use Rattle.mmu_core.specs.forms.access.Cached.{frame_used}
use Rattle.mmu_core.proofs.lines.KnowsKept.{touch_topics}
use Rattle.mmu_core.proofs.machine.PartStepping.{is_told}
use Rattle.mmu_core.proofs.slots.LiveStays.{access_untold}
use Rattle.mmu_core.proofs.words.PartTopics.{is_there, part_topics_is}

pub opened_untold : (step : PartStep) (t : Topics) (v : ℕ) → is_told step ≡ false → (part_topics step t v).invalidations.opened ≡ t.invalidations.opened
opened_untold (part.SetCount count) t v untold = absurd (cc untold)
opened_untold _ t v untold = refl

-- They leave the frame that it owns, too.
pub frame_untold : (step : PartStep) (t : Topics) (v : ℕ) → is_told step ≡ false → (part_topics step t v).frames.owned ≡ t.frames.owned
frame_untold (part.Change new_) t v untold = absurd (cc untold)
frame_untold part.Frame t v untold = absurd (cc untold)
frame_untold (part.Copy index) t v untold = absurd (cc untold)
frame_untold (part.Store index) t v untold = absurd (cc untold)
frame_untold part.GiveFrame t v untold = absurd (cc untold)
frame_untold _ t v untold = refl

pub opens_none : (step : PartStep) (h : Held) (note v : ℕ) → PartNeeds step h → is_told step ≡ false → h.topics.invalidations.opened ≡ false
    → (topics_after h.state.sizes (kind_of_task h.state.sizes (part_task step (own_index h) h.topics note)) h.topics v).invalidations.opened ≡ false
opens_none step h note v N untold closed =
    ap (λ (t : Topics). t.invalidations.opened) (part_topics_is h.state.sizes step (own_index h) h.topics note v (is_there step h N))
    ∙ (opened_untold step h.topics v untold ∙ closed)

pub access_opens_none : (h : Held) (p : AccessPlace) (gfn word : ℕ) (op : Op) (v : ℕ)
    → ((step : PartStep) → access_part p gfn h.topics ≡ Some step → PartNeeds step h) → h.topics.invalidations.opened ≡ false
    → (topics_after h.state.sizes (kind_of_task h.state.sizes (access_task p h gfn word op)) h.topics v).invalidations.opened ≡ false
access_opens_none h p gfn word op v needs closed = by (access_part p gfn h.topics) needs (λ step is. access_untold p gfn h.topics step is)
  where
    index : ℕ
    index = content_index (map_of h.state.sizes) (frame_used gfn h.state) word

    by : (o : Option PartStep) → ((step : PartStep) → o ≡ Some step → PartNeeds step h) → ((step : PartStep) → o ≡ Some step → is_told step ≡ false)
        → (topics_after h.state.sizes (kind_of_task h.state.sizes (task_by o h (access_note p) (touch_of op index))) h.topics v).invalidations.opened ≡ false
    by None needs untold = ap (λ (t : Topics). t.invalidations.opened) (touch_topics h.state.sizes op index h.topics v) ∙ closed
    by (Some step) needs untold = opens_none step h (access_note p) v (needs step refl) (untold step refl) closed

-- So an actor that owns no frame owns none after them.
pub frame_stays : (step : PartStep) (h : Held) (note v : ℕ) → PartNeeds step h → is_told step ≡ false
    → (topics_after h.state.sizes (kind_of_task h.state.sizes (part_task step (own_index h) h.topics note)) h.topics v).frames.owned ≡ h.topics.frames.owned
frame_stays step h note v N untold =
    ap (λ (t : Topics). t.frames.owned) (part_topics_is h.state.sizes step (own_index h) h.topics note v (is_there step h N))
    ∙ frame_untold step h.topics v untold

pub access_owns_none : (h : Held) (p : AccessPlace) (gfn word : ℕ) (op : Op) (v : ℕ)
    → ((step : PartStep) → access_part p gfn h.topics ≡ Some step → PartNeeds step h) → h.topics.frames.owned ≡ None
    → (topics_after h.state.sizes (kind_of_task h.state.sizes (access_task p h gfn word op)) h.topics v).frames.owned ≡ None
access_owns_none h p gfn word op v needs none = by (access_part p gfn h.topics) needs (λ step is. access_untold p gfn h.topics step is)
  where
    index : ℕ
    index = content_index (map_of h.state.sizes) (frame_used gfn h.state) word

    by : (o : Option PartStep) → ((step : PartStep) → o ≡ Some step → PartNeeds step h) → ((step : PartStep) → o ≡ Some step → is_told step ≡ false)
        → (topics_after h.state.sizes (kind_of_task h.state.sizes (task_by o h (access_note p) (touch_of op index))) h.topics v).frames.owned ≡ None
    by None needs untold = ap (λ (t : Topics). t.frames.owned) (touch_topics h.state.sizes op index h.topics v) ∙ none
    by (Some step) needs untold = frame_stays step h (access_note p) v (needs step refl) (untold step refl) ∙ none
