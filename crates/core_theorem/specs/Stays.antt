-- Where an access looks at the pause: in the very stay in the guest in which it touches.
use Rattle.std.specs.Prelude.{◌≡◌, ◌≢◌, ◌<◌, ℕ}
use Rattle.core_views.specs.declared.kind.Kind.{Kind}
use Rattle.core_views.specs.declared.kind.StepKind.TheVariants as kind
use Rattle.core_views.specs.declared.place.AccessPlace.TheVariants.{Touch}
use Rattle.core_views.specs.declared.place.Place.TheVariants as place
use Rattle.core_views.specs.declared.sizes.Sizes.{Sizes}
use Rattle.core_views.specs.declared.topics.Stay.TheVariants.{Guest}
use Rattle.core_views.specs.Held.{Held}
use Rattle.core_views.specs.Kinds.{code_of}
use Rattle.core_views.specs.Sizes.{actors_of}
use Rattle.spte_words.specs.declared.area.Area.TheVariants as area
use Rattle.spte_words.specs.Areas.{place as place_of}
use Rattle.part_steps.specs.Tasks.{map_of}
use Rattle.mmu_laws.specs.causes.Causes.{Finds, HasMade}
use Rattle.mmu_core.specs.machine.Enabled.{mmu}
use Rattle.mmu_core.specs.machine.Machine.{Step, World, hand_in, run}
use Rattle.core_theorem.specs.Runs.{InEveryRun}

-- The step, made in this world, is this actor's load of the pause's word, in the guest, and finds that no pause is set.
pub record FindsNoPause (z : Sizes) (actor : ℕ) (w : World Held) (s : Step Kind) : Type 0 where
  pub loads : s.kind.code ≡ code_of kind.Control
  pub finds : Finds actor (place_of (map_of z) area.Pause 0) 0 w s
  pub inside : (hand_in mmu w actor).topics.stay ≡ Guest

-- With the step this actor neither enters nor leaves the guest.
abbrev pub StaysInGuest : ℕ → Step Kind → Type 0
StaysInGuest actor s = s.actor ≡ actor → (s.kind.code ≢ code_of kind.Enter) × (s.kind.code ≢ code_of kind.Leave)

-- Where an access is about to touch, its actor has looked at the pause in this very stay, and none was set.
abbrev pub PauseIsSeenInStay : Type 0
PauseIsSeenInStay = InEveryRun (λ z w ss.
    (actor : ℕ) → actor < actors_of z
    → (hand_in mmu (run mmu w ss) actor).state.place ≡ place.Access Touch → HasMade (FindsNoPause z actor) (StaysInGuest actor) w ss)
