-- What a step finds in its word that another actor of the machine has, or where this one is.
use Rattle.std.specs.Prelude.{◌≡◌, ◌≢◌, ◌<◌, ℕ, true}
use Rattle.core_views.specs.declared.kind.Kind.{Kind}
use Rattle.core_views.specs.declared.sizes.Sizes.{Sizes}
use Rattle.core_views.specs.declared.topics.Hold.TheVariants.{Loose}
use Rattle.core_views.specs.declared.topics.Stay.TheVariants.{Outside, Guest}
use Rattle.core_views.specs.Held.{Held}
use Rattle.core_views.specs.Sizes.{actors_of}
use Rattle.spte_words.specs.declared.area.Area.TheVariants as area
use Rattle.spte_words.specs.Areas.{place}
use Rattle.part_steps.specs.ControlBits.{has_to_flush, in_section}
use Rattle.part_steps.specs.Tasks.{map_of}
use Rattle.mmu_core.specs.machine.Enabled.{mmu}
use Rattle.mmu_core.specs.machine.Machine.{Step, World, found, hand_in}

-- the word of the lock
abbrev pub lock_word : Sizes → ℕ
lock_word z = place (map_of z) area.Lock 0

-- The step finds the lock taken: another number than 0 stands in its word, and in this world another actor of the machine has the lock as a reader or
-- alone, or has yet to take itself out of the readers.
pub record FindsLockTaken (z : Sizes) (w : World Held) (s : Step Kind) : Type 0 where
  pub on : s.kind.word ≡ lock_word z
  pub taken : found mmu w s.kind ≢ 0
  pub other : ℕ
  pub there : other < actors_of z
  pub is_other : other ≢ s.actor
  pub holds : (hand_in mmu w other).topics.hold ≢ Loose

-- The step finds another actor inside: the state word of this actor of the machine says so, and in this world it is in the guest or in a section.
pub record FindsOtherInside (z : Sizes) (w : World Held) (s : Step Kind) : Type 0 where
  pub other : ℕ
  pub there : other < actors_of z
  pub is_other : other ≢ s.actor
  pub on : s.kind.word ≡ place (map_of z) area.State other
  pub tells : in_section (found mmu w s.kind) ≡ true
  pub inside : (hand_in mmu w other).topics.stay ≢ Outside

-- The step finds a virtual processor that has yet to flush: the state word of another actor of the machine says that it is in the guest, and was asked for a
-- flush since it came in; and in this world it is in the guest.
pub record FindsToFlush (z : Sizes) (w : World Held) (s : Step Kind) : Type 0 where
  pub other : ℕ
  pub there : other < z.vcpus
  pub is_other : other ≢ s.actor
  pub on : s.kind.word ≡ place (map_of z) area.State other
  pub tells : has_to_flush (found mmu w s.kind) ≡ true
  pub inside : (hand_in mmu w other).topics.stay ≡ Guest
