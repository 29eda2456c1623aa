-- What an access knows at each of its places, from what its actor holds alone, and what it has loaded.
use Rattle.std.specs.Prelude.{◌≡◌, ◌<◌, ℕ, Bool, Option, Some, None}
use Rattle.core_views.specs.declared.place.AccessPlace.{AccessPlace}
use Rattle.core_views.specs.declared.place.AccessPlace.TheVariants.{Enter, Pause, Root, Walk, Touch, Leave, Fault}
use Rattle.core_views.specs.declared.topics.Hold.TheVariants.{Loose}
use Rattle.core_views.specs.declared.topics.Stay.TheVariants.{Guest}
use Rattle.core_views.specs.declared.topics.Topics.{Topics}
use Rattle.core_views.specs.Held.{Held}
use Rattle.part_steps.specs.declared.part_step.PartStep.{PartStep}
use Rattle.part_steps.specs.PartBounds.{IsAtLeafLevel}
use Rattle.part_steps.specs.PartHoldings.{IsOver}
use Rattle.part_steps.specs.PartSteps.{IsAtRest, PartNeeds}
use Rattle.mmu_core.specs.forms.access.Cached.{UsesTranslation, frame_used}
use Rattle.mmu_core.specs.forms.access.FaultKnows.{FaultKnows}

-- What a touch needs: the actor is in the guest, and uses a translation that it has cached, which covers the guest frame and allows the
-- access; its leaf is at a frame of the machine.
pub record TouchNeeds (gfn : ℕ) (write : Bool) (h : Held) : Type 0 where
  pub guest : h.topics.stay ≡ Guest
  pub uses : UsesTranslation gfn write h
  pub level : IsAtLeafLevel h.state.used
  pub frame : frame_used gfn h.state < h.state.sizes.frames

-- what the next step of an access needs: a step of a part its needs, and the touch its own
abbrev pub RestsOn : Option PartStep → ℕ → Bool → Held → Type 0
RestsOn (Some step) gfn write h = PartNeeds step h
RestsOn None gfn write h = TouchNeeds gfn write h

-- In the guest, with no lock, no page and no slot set.
pub record InGuest (t : Topics) : Type 0 where
  pub guest : t.stay ≡ Guest
  pub loose : t.hold ≡ Loose
  pub owns_none : t.owned ≡ None
  pub no_set : t.search.set ≡ None

-- what an access knows at each place: at the touch, that the leaf that it uses is one that it has cached
abbrev pub AccessKnows : AccessPlace → ℕ → Bool → Held → Type 0
AccessKnows (Enter again) gfn write h = IsAtRest h.topics
AccessKnows (Pause again) gfn write h = InGuest h.topics
AccessKnows (Root again) gfn write h = InGuest h.topics
AccessKnows (Walk again) gfn write h = InGuest h.topics × IsOver gfn h.topics.walk
AccessKnows Touch gfn write h = InGuest h.topics × UsesTranslation gfn write h
AccessKnows (Leave how) gfn write h = InGuest h.topics
AccessKnows (Fault p) gfn write h = FaultKnows p h.state.sizes gfn write h.topics
