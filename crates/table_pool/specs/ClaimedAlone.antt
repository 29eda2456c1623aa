-- What a claim got is its claimer's alone: a page of the pool, or a frame of the host.
use Rattle.std.specs.Prelude.{◌≡◌, ◌≢◌, ◌<◌, ℕ, true, false, length}
use Rattle.core_views.specs.declared.sizes.Sizes.{Sizes}
use Rattle.core_views.specs.Held.{Held}
use Rattle.spte_words.specs.declared.area.Area.TheVariants as area
use Rattle.spte_words.specs.HostWords.{host_frame}
use Rattle.mmu_core.specs.machine.Enabled.{mmu}
use Rattle.mmu_core.specs.machine.Machine.{World, hand_in}
use Rattle.mmu_core.specs.machine.View.{word_in}
use Rattle.mmu_core.specs.invariant.FramesPart.{is_frame_of}
use Rattle.mmu_core.specs.invariant.PoolPart.{is_free, is_retired, is_owned}
use Rattle.mmu_core.specs.declared.claim.FreeMap.{FreeMap}
use Rattle.mmu_core.specs.declared.claim.FreeMap.TheVariants.{Pages, Frames}

-- The page is the claimer's alone: it is a page of the pool, no other actor owns it, its bit in the map is clear, and it is neither the
-- root nor the published slot set, nor an old slot set that is retired.
pub record IsPageAlone (z : Sizes) (actor page : ℕ) (w : World Held) : Type 0 where
  pub there : page < z.pool
  pub owned : is_owned (hand_in mmu w actor).topics.owned page ≡ true
  pub others : (i : ℕ) → i < length w.hands → i ≢ actor → is_owned (hand_in mmu w i).topics.owned page ≡ false
  pub not_free : is_free (word_in z w area.PoolMap) page ≡ false
  pub not_root : word_in z w area.Root 0 ≢ page
  pub not_slots : word_in z w area.Slots 0 ≢ page
  pub not_retired : (i : ℕ) → i < length w.hands → is_retired (hand_in mmu w i).topics.retired page ≡ false

-- The frame is the claimer's alone: it is a frame of the machine, no other actor owns it, its bit in the map is clear, and no host page is in it.
pub record IsFrameAlone (z : Sizes) (actor frame : ℕ) (w : World Held) : Type 0 where
  pub there : frame < z.frames
  pub owned : is_frame_of (hand_in mmu w actor).topics.frames.owned frame ≡ true
  pub others : (i : ℕ) → i < length w.hands → i ≢ actor → is_frame_of (hand_in mmu w i).topics.frames.owned frame ≡ false
  pub not_free : is_free (word_in z w area.FrameMap) frame ≡ false
  pub of_no_page : (page : ℕ) → page < z.pages → host_frame (word_in z w area.Host page) ≢ frame

abbrev pub IsClaimersAlone : FreeMap → Sizes → ℕ → ℕ → World Held → Type 0
IsClaimersAlone Pages z actor one w = IsPageAlone z actor one w
IsClaimersAlone Frames z actor one w = IsFrameAlone z actor one w
