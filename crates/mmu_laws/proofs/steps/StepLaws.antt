-- Each step is on a word of its kind's area, and it leaves at most one more translation.
use Rattle.std.proofs.Common.{◌≡◌, inl, inr, ◌<◌, ℕ, refl, sym, subst, ap, ◌∙◌}
use Rattle.std.specs.Prelude.{Bool, true, false, [], if◌then◌else◌}
use Rattle.circular_buffer.specs.Buffer.{Buffer, buffer}
use Rattle.core_views.specs.declared.cache.Translation.{Translation}
use Rattle.core_views.specs.declared.kind.Kind.{Kind}
use Rattle.core_views.specs.declared.kind.StepKind.{StepKind}
use Rattle.core_views.specs.declared.kind.StepKind.TheVariants as kind
use Rattle.core_views.specs.declared.place.AccessPlace.{AccessPlace}
use Rattle.core_views.specs.declared.place.AccessPlace.TheVariants.{Walk}
use Rattle.core_views.specs.declared.place.Place.{Place}
use Rattle.core_views.specs.declared.place.Place.TheVariants as place
use Rattle.core_views.specs.declared.sizes.Sizes.{Sizes}
use Rattle.core_views.specs.declared.topics.Topics.{Topics}
use Rattle.core_views.specs.declared.trace.Command.{Command}
use Rattle.core_views.specs.declared.trace.Command.TheVariants.{Access}
use Rattle.core_views.specs.declared.trace.Op.{Op}
use Rattle.core_views.specs.declared.trace.Op.TheVariants.{Read}
use Rattle.core_views.specs.Held.{Held}
use Rattle.core_views.specs.Kinds.{kind_named}
use Rattle.core_views.specs.Slots.{is_write}
use Rattle.spte_words.specs.declared.area.Area.{Area}
use Rattle.spte_words.specs.Areas.{size_of}
use Rattle.spte_words.specs.Entries.{kind_of}
use Rattle.part_steps.specs.declared.task.Task.{Task}
use Rattle.part_steps.specs.declared.part_step.PartStep.{PartStep}
use Rattle.part_steps.specs.declared.part_step.PartStep.TheVariants as part
use Rattle.mmu_core.specs.forms.access.AccessSteps.{access_caches, is_found, touch_of}
use Rattle.mmu_core.specs.forms.access.Cached.{asks_flush, flushed, flushed_by, with_leaf}
use Rattle.mmu_core.specs.machine.Enabled.{Enabled}
use Rattle.mmu_core.specs.forms.access.FaultSteps.{allows_access}
use Rattle.part_steps.specs.PartTasks.{own_index, part_task}
use Rattle.mmu_laws.specs.steps.StepLaws.{CachesOneAtMost, IsOn, IsOnItsArea}
use Rattle.mmu_core.specs.lines.Forms.{caches_at, RestsAt}
use Rattle.mmu_core.specs.machine.Steps.{has_line, next, next_by, place_at, task_at, task_of}
use Rattle.part_steps.specs.Tasks.{kind_of_task, map_of}
use Rattle.mmu_core.specs.machine.Turns.{line_of}
use Rattle.mmu_core.proofs.machine.Views.{named_is}
use Rattle.mmu_core.proofs.words.PartIndex.{index_same}
use Rattle.mmu_core.proofs.invariant.RestsKept.{task_within}
use Rattle.mmu_core.proofs.lines.ByStep.{StepAt, step_at, Makes, Touches}

-- What the step of a part is on, and its note.
pub record TellsPart (note : ℕ) (t : Task) : Type 0 where
  pub on : IsOn t.kind t.area
  pub note_is : t.may_end ≡ note

pub tells_part : (step : PartStep) (own : ℕ) (t : Topics) (note : ℕ) → TellsPart note (part_task step own t note)
tells_part (part.Fill value) own t note = record { on = inl refl; note_is = refl }
tells_part (part.Role value) own t note = record { on = inr (inl refl); note_is = refl }
tells_part (part.Store index) own t note = record { on = inr (inr refl); note_is = refl }
tells_part (part.SetStart first gfn) own t note = record { on = tt; note_is = refl }
tells_part (part.SetEnd last gfn) own t note = record { on = tt; note_is = refl }
tells_part (part.SetCount count) own t note = record { on = tt; note_is = refl }
tells_part (part.SetSeq seq) own t note = record { on = tt; note_is = refl }
tells_part part.Pause own t note = record { on = tt; note_is = refl }
tells_part (part.Map word) own t note = record { on = tt; note_is = refl }
tells_part (part.FrameMap word) own t note = record { on = tt; note_is = refl }
tells_part part.Slots own t note = record { on = tt; note_is = refl }
tells_part part.Seq own t note = record { on = tt; note_is = refl }
tells_part part.Count own t note = record { on = tt; note_is = refl }
tells_part part.RangeStart own t note = record { on = tt; note_is = refl }
tells_part part.RangeEnd own t note = record { on = tt; note_is = refl }
tells_part part.Root own t note = record { on = tt; note_is = refl }
tells_part part.Clear own t note = record { on = inr (inl refl); note_is = refl }
tells_part _ own t note = record { on = refl; note_is = refl }

pub tells_touch : (op : Op) (index : ℕ) → TellsPart 0 (touch_of op index)
tells_touch Read index = record { on = refl; note_is = refl }
tells_touch _ index = record { on = refl; note_is = refl }

-- What a line's step is on.
on_by : (command : Command) (h : Held) (t : Task) → StepAt command h t → IsOn t.kind t.area
on_by command h _ (Makes step note N) = (tells_part step (own_index h) h.topics note).on
on_by command h _ (Touches gfn word op is N) = (tells_touch op _).on

line_on : (p : Place) (command : Command) (h : Held) → RestsAt p command h → IsOn (task_at p command h).kind (task_at p command h).area
line_on p command h R = on_by command h (task_at p command h) (step_at p command h R)

-- a task's numbers
on_its_area : (z : Sizes) (t : Task) → t.index < size_of (map_of z) t.area → IsOn t.kind t.area → IsOnItsArea z (kind_of_task z t)
on_its_area z t within on =
    record { area = t.area; index = t.index; there = within; at = refl; of_kind = subst (λ (k : StepKind). IsOn k t.area) (sym (named_is t.kind)) on }

pub steps_are_on_their_areas : (h : Held) (k : Kind) → Enabled h k → IsOnItsArea h.state.sizes k
unfolding Enabled
steps_are_on_their_areas h k (inl N) =
    subst (IsOnItsArea h.state.sizes) (sym N.is)
    (on_its_area h.state.sizes (task_of h) (task_within h N.rests) (line_on (place_at h.state.place h) (line_of h).command h N.rests.at))
steps_are_on_their_areas h k (inr N) =
    let t : Task = part_task N.step (own_index h) h.topics N.note in
    let same = index_same N.step (own_index h) h.topics N.note in
    let within : t.index < size_of (map_of h.state.sizes) t.area =
    subst (λ (b : Area). t.index < size_of (map_of h.state.sizes) b) (sym same.1)
    (subst (λ i. i < size_of (map_of h.state.sizes) (part_task N.step (own_index h) h.topics 0).area) (sym same.0) N.within) in
    subst (IsOnItsArea h.state.sizes) (sym N.is) (on_its_area h.state.sizes t within (tells_part N.step (own_index h) h.topics N.note).on)

-- ---- what a step leaves of what is cached

flushes_all : (k : Kind) (c : Buffer Translation) (v : ℕ) → kind_named k.code ≡ kind.Enter → asks_flush v ≡ true → (flushed k c v).items ≡ []
unfolding flushed
flushes_all k c v enters asked = ap (λ (n : StepKind). (flushed_by n c v).items) enters ∙ ap (λ (b : Bool). (if b then buffer [] c.capacity else c).items) asked

pub entering_flushes : (h : Held) (k : Kind) (v : ℕ) → Enabled h k → kind_named k.code ≡ kind.Enter → asks_flush v ≡ true → (next h k v).cached.items ≡ []
unfolding next
entering_flushes h k v enabled enters asked = by (has_line h)
  where
    by : (b : Bool) → (next_by b h k v).cached.items ≡ []
    by true = flushes_all k (caches_at (place_at h.state.place h) (line_of h).command h v) v enters asked
    by false = flushes_all k h.cached v enters asked

kept_by : (n : StepKind) (c : Buffer Translation) (v : ℕ) → (n ≡ kind.Enter → asks_flush v ≡ false) → flushed_by n c v ≡ c
kept_by kind.Enter c v unasked = ap (λ (b : Bool). if b then buffer [] c.capacity else c) (unasked refl)
kept_by _ c v unasked = refl

keeps_all : (k : Kind) (c : Buffer Translation) (v : ℕ) → (kind_named k.code ≡ kind.Enter → asks_flush v ≡ false) → flushed k c v ≡ c
unfolding flushed
keeps_all k c v unasked = kept_by (kind_named k.code) c v unasked

access_caches_one : (p : AccessPlace) (h : Held) (gfn : ℕ) (op : Op) (v : ℕ) → CachesOneAtMost h.cached (access_caches p h gfn op v)
access_caches_one (Walk again) h gfn op v = by (is_found (kind_of h.topics.walk.level v) (allows_access (is_write op) v))
  where
    by : (b : Bool) → CachesOneAtMost h.cached (if b then with_leaf gfn h.topics.walk.level v h.cached else h.cached)
    by true = inr (record { gfn = gfn; level = h.topics.walk.level; leaf = v }, refl)
    by false = inl refl
access_caches_one _ h gfn op v = inl refl

line_caches_one : (p : Place) (command : Command) (h : Held) (v : ℕ) → CachesOneAtMost h.cached (caches_at p command h v)
line_caches_one (place.Access p) (Access gfn word op) h v = access_caches_one p h gfn op v
line_caches_one _ _ h v = inl refl

pub others_cache_one : (h : Held) (k : Kind) (v : ℕ) → Enabled h k → (kind_named k.code ≡ kind.Enter → asks_flush v ≡ false)
    → CachesOneAtMost h.cached (next h k v).cached
unfolding next
others_cache_one h k v enabled unasked = by (has_line h)
  where
    by : (b : Bool) → CachesOneAtMost h.cached (next_by b h k v).cached
    by true =
        let c : Buffer Translation = caches_at (place_at h.state.place h) (line_of h).command h v in
        subst (CachesOneAtMost h.cached) (sym (keeps_all k c v unasked)) (line_caches_one (place_at h.state.place h) (line_of h).command h v)
    by false = inl (keeps_all k h.cached v unasked)
