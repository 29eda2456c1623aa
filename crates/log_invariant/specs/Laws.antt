-- What holds of dirty logs after every list of steps, from every start.
use Rattle.std.specs.Prelude.{◌≡◌, ◌<◌, List, ℕ, Some, true}
use Rattle.core_views.specs.declared.kind.Kind.{Kind}
use Rattle.core_views.specs.declared.sizes.Sizes.{Sizes}
use Rattle.core_views.specs.declared.trace.Line.{Line}
use Rattle.core_views.specs.declared.trace.Slot.{Slot as SlotOf}
use Rattle.core_views.specs.Held.{Held}
use Rattle.core_views.specs.Sizes.{actors_of}
use Rattle.core_views.specs.Slots.{contains}
use Rattle.spte_words.specs.declared.area.Area.TheVariants as area
use Rattle.mmu_core.specs.machine.Enabled.{mmu}
use Rattle.mmu_core.specs.machine.Machine.{Legal, Step, World, run}
use Rattle.mmu_core.specs.machine.View.{View, view}
use Rattle.mmu_core.specs.machine.Worlds.{IsStart}
use Rattle.log_invariant.specs.Covered.{IsLoggedIn}
use Rattle.log_invariant.specs.LogInvariant.{LogInvariant}

-- Who owes a mark for a guest frame of a published slot with a log has found this very slot: the page that it marks is the one that the slot gives the frame.
abbrev pub MarksAreOfSlots : Sizes → View → Type 0
MarksAreOfSlots z v = (i id gfn : ℕ) (slot : SlotOf) → i < actors_of z → IsLoggedIn (v.words area.Pool) (v.words area.Slots 0) id slot
    → contains gfn slot ≡ true → (v.hand i).topics.owed ≡ Some gfn → (v.hand i).topics.search.slot ≡ slot

-- Each part of the invariant holds, and marks are of the slots whose writes they cover.
pub record LogsAreSound (z : Sizes) (v : View) : Type 0 where
  pub holds : LogInvariant z v
  pub marks : MarksAreOfSlots z v

abbrev pub WritesAreCovered : Type 0
WritesAreCovered = (z : Sizes) (lines : List Line) (w : World Held) (ss : List (Step Kind)) → IsStart z lines w → Legal mmu w ss
    → LogsAreSound z (view z (run mmu w ss))
