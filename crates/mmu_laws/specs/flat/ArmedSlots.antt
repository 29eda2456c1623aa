-- A slot of which flat memory logs writes: each leaf and each translation that allows them is covered, by the page's bit or by a mark that is owed
-- (locking.rst, "Fast page fault"; tdp_mmu.c, kvm_tdp_mmu_wrprot_slot); or the line that reads the log has taken the page out of it, and has yet to come to its
-- leaf, or to see the flush (kvm_main.c, kvm_get_dirty_log_protect).
use Rattle.std.specs.Prelude.{◌≡◌, ◌<◌, List, ℕ, true}
use Rattle.core_views.specs.declared.kind.Kind.{Kind}
use Rattle.core_views.specs.declared.sizes.Sizes.{Sizes}
use Rattle.core_views.specs.declared.trace.Line.{Line}
use Rattle.core_views.specs.declared.trace.Slot.{Slot as SlotOf}
use Rattle.core_views.specs.Events.{after_all}
use Rattle.core_views.specs.Flat.{first_flat}
use Rattle.core_views.specs.Held.{Held}
use Rattle.core_views.specs.Sizes.{actors_of}
use Rattle.core_views.specs.Slots.{contains}
use Rattle.spte_words.specs.declared.area.Area.TheVariants as area
use Rattle.mmu_core.specs.invariant.AllOver.{AllOver}
use Rattle.mmu_core.specs.invariant.InvalidatedPart.{may_use}
use Rattle.mmu_core.specs.invariant.TreePart.{Position, TreePart, Use}
use Rattle.mmu_core.specs.machine.Enabled.{mmu}
use Rattle.mmu_core.specs.machine.Machine.{Legal, Step, World, run}
use Rattle.mmu_core.specs.machine.View.{View, view}
use Rattle.mmu_core.specs.machine.Worlds.{IsStart, history}
use Rattle.log_invariant.specs.Covered.{IsLoggedIn}
use Rattle.log_invariant.specs.Forbidding.{FlushesLater, ForbidsLater}
use Rattle.log_invariant.specs.LogInvariant.{AreGuarded, IsGuarded, LeafIsGuarded}
use Rattle.log_invariant.specs.forms.log.LogReads.{taken_out}

-- If the slot has the guest frame, a write to it is covered; or the line of some hand excuses it.
abbrev pub IsCoveredOf : Sizes → View → (Held → ℕ → Type 0) → SlotOf → ℕ → Type 0
IsCoveredOf z v Excuses slot gfn = contains gfn slot ≡ true → IsGuarded (actors_of z) (v.words area.Log) v.hand Excuses slot gfn

-- The published slot with this ID has a log; each leaf of its frames to which links lead from the root, in each account of the tables, is covered if it allows
-- writes; and so is each translation of them that a virtual processor may use.
pub record IsCoveredSlot (z : Sizes) (v : View) (id : ℕ) : Type 0 where
  pub slot : SlotOf
  pub logged : IsLoggedIn (v.words area.Pool) (v.words area.Slots 0) id slot
  pub leaves : (up : ℕ → Use) (spot : ℕ → Position) → TreePart z.pool (v.words area.Root 0) (v.words area.Role) (v.words area.Pool) up spot
      → AllOver up spot (v.words area.Pool) (v.words area.Root 0) (LeafIsGuarded (IsCoveredOf z v (λ h. ForbidsLater (taken_out h)) slot))
  pub cached : (k : ℕ) → k < z.vcpus → may_use (v.words area.State k) (v.hand k).topics.stay ≡ true
      → AreGuarded (IsCoveredOf z v (λ h. FlushesLater (taken_out h) k (v.words area.State k)) slot) (v.hand k).cached.items

-- So is each slot of which the flat state logs writes that the history of a list of steps leaves, whatever the steps.
abbrev pub ArmedSlotsAreCovered : Type 0
ArmedSlotsAreCovered =
    (z : Sizes) (lines : List Line) (w : World Held) (ss : List (Step Kind)) (id : ℕ) → IsStart z lines w → Legal mmu w ss
    → (after_all (history w ss) first_flat).facts.armed id ≡ true → IsCoveredSlot z (view z (run mmu w ss)) id
