-- Dirty logs after a run: what is dirty for flat memory, and what allows writes in a slot of which it logs them (api.rst, KVM_MEM_LOG_DIRTY_PAGES; locking.rst,
-- "Fast page fault").
use Rattle.std.specs.Prelude.{◌≡◌, ℕ, true}
use Rattle.core_views.specs.declared.sizes.Sizes.{Sizes}
use Rattle.core_views.specs.Events.{after_all}
use Rattle.core_views.specs.Flat.{Flat, first_flat}
use Rattle.mmu_core.specs.machine.Enabled.{mmu}
use Rattle.mmu_core.specs.machine.Machine.{run}
use Rattle.mmu_core.specs.machine.View.{View, view}
use Rattle.mmu_core.specs.machine.Worlds.{history}
use Rattle.mmu_laws.specs.flat.ArmedSlots.{IsCoveredSlot}
use Rattle.mmu_laws.specs.flat.FlatLogs.{FlatLogs}
use Rattle.core_theorem.specs.Runs.{InEveryRun}

-- Each frame that is dirty for the flat state is of a slot of which it logs writes, and its page's bit is set or a mark is owed for it, or a line that reads
-- the log has taken it out and isn't answered yet; each bit that is set is of a frame with a cause (`flat`). And in each such slot a leaf, and a translation
-- that may be used, is covered so where it allows writes, or the line that has taken its page out has yet to come to it (`armed`).
pub record LogsAreKept (z : Sizes) (v : View) (f : Flat) : Type 0 where
  pub flat : FlatLogs z v f
  pub armed : (id : ℕ) → f.facts.armed id ≡ true → IsCoveredSlot z v id

-- So it is after a run, of the flat state that its history leaves.
abbrev pub DirtyLogsAreKept : Type 0
DirtyLogsAreKept = InEveryRun (λ z w ss. LogsAreKept z (view z (run mmu w ss)) (after_all (history w ss) first_flat))
