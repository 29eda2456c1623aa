-- What holds of every list of steps, from every start.
use Rattle.mmu_core.specs.invariant.FramesPart.{CopiedPart}
use Rattle.mmu_core.specs.invariant.InvalidatedPart.{FlushPart, UsablePart}
use Rattle.mmu_core.specs.invariant.InvalidationsPart.{EndsPart}
use Rattle.std.specs.Prelude.{◌≡◌, ◌<◌, ◌^◌, ℕ, List, length, slice_index}
use Rattle.core_views.specs.declared.kind.Kind.{Kind}
use Rattle.core_views.specs.declared.sizes.Sizes.{Sizes}
use Rattle.core_views.specs.declared.trace.Line.{Line}
use Rattle.core_views.specs.Flat.{first_flat}
use Rattle.core_views.specs.Held.{Held}
use Rattle.core_views.specs.Lawful.{IsLawful}
use Rattle.core_views.specs.Sizes.{actors_of}
use Rattle.spte_words.specs.declared.area.Area.TheVariants as area
use Rattle.spte_words.specs.Areas.{total}
use Rattle.mmu_core.specs.machine.Enabled.{mmu}
use Rattle.mmu_core.specs.invariant.Invariant.{Invariant}
use Rattle.mmu_core.specs.machine.Machine.{Legal, Step, World, run, hand_in}
use Rattle.part_steps.specs.Tasks.{map_of}
use Rattle.mmu_core.specs.invariant.TopicsInvariant.{TopicsInvariant}
use Rattle.mmu_core.specs.machine.View.{view, word_in}
use Rattle.mmu_core.specs.machine.Worlds.{IsStart, history}

-- The words and hands are as many as the machine has, each word is a number below 2 ^ 64, each end of an invalidation belongs to a line, what may be
-- used of what is cached agrees, flushes that were awaited are made, what
-- moves have copied is their pages', no pause was set, and every part of the invariant holds: what lines rest on, and what is held of the machine's parts.
pub record IsSound (z : Sizes) (w : World Held) : Type 0 where
  pub words : length w.words ≡ total (map_of z)
  pub hands : length w.hands ≡ actors_of z
  pub small : (i : ℕ) → slice_index w.words i < 2 ^ 64
  pub ends : EndsPart z (word_in z w area.Seq 0) (hand_in mmu w)
  pub usable : UsablePart (actors_of z) z.vcpus (word_in z w area.State) (word_in z w area.Pool) (word_in z w area.Host) (word_in z w area.Slots 0)
      (hand_in mmu w)
  pub flushes : FlushPart (actors_of z) z.vcpus (word_in z w area.State) (hand_in mmu w)
  pub copied : CopiedPart z (actors_of z) (word_in z w area.Content) (λ i. (hand_in mmu w i).topics)
  pub no_pause : word_in z w area.Pause 0 ≡ 0
  pub holds : Invariant z (view z w)
  pub topics : TopicsInvariant z (view z w)

-- The world after every list of steps is sound.
abbrev pub StaysSound : Type 0
StaysSound = (z : Sizes) (lines : List Line) (w : World Held) (ss : List (Step Kind)) → IsStart z lines w → Legal mmu w ss → IsSound z (run mmu w ss)

-- What every list of steps tells is what flat guest memory allows, event by event.
abbrev pub TellsLawfully : Type 0
TellsLawfully =
    (z : Sizes) (lines : List Line) (w : World Held) (ss : List (Step Kind)) → IsStart z lines w → Legal mmu w ss
    → IsLawful z first_flat (history w ss)
