-- Dirty logs of flat memory, and the words: of which slots writes are logged, what is dirty, and why a bit is set (api.rst, KVM_GET_DIRTY_LOG).
use Rattle.std.specs.Prelude.{◌≡◌, ◌<◌, ◌⊎◌, List, ℕ, Bool, true}
use Rattle.core_views.specs.declared.kind.Kind.{Kind}
use Rattle.core_views.specs.declared.sizes.Sizes.{Sizes}
use Rattle.core_views.specs.declared.trace.Line.{Line}
use Rattle.core_views.specs.declared.trace.Slot.{Slot as SlotOf}
use Rattle.core_views.specs.Events.{after_all}
use Rattle.core_views.specs.Flat.{Flat, first_flat}
use Rattle.core_views.specs.Held.{Held}
use Rattle.core_views.specs.Sizes.{actors_of}
use Rattle.core_views.specs.Slots.{contains}
use Rattle.spte_words.specs.declared.area.Area.TheVariants as area
use Rattle.part_steps.specs.SlotWords.{page_of}
use Rattle.mmu_core.specs.machine.Enabled.{mmu}
use Rattle.mmu_core.specs.machine.Machine.{Legal, Step, World, run}
use Rattle.mmu_core.specs.machine.View.{View, view}
use Rattle.mmu_core.specs.machine.Worlds.{IsStart, history}
use Rattle.log_invariant.specs.Covered.{IsLoggedIn, is_marked}
use Rattle.log_invariant.specs.forms.slot_change.LogBegins.{BeginsClean, LogIsUnwatched, begun_at}
use Rattle.log_invariant.specs.LogInvariant.{IsGuarded}
use Rattle.log_invariant.specs.forms.log.LogReads.{HasTakenOut}

-- The hand's line has published a slot with the guest frame, whose log hasn't begun yet for flat memory: others may not know of it, or the line forbids writes
-- to
-- the frame, or flushes it.
abbrev pub IsBeginning : Held → ℕ → Type 0
IsBeginning h gfn = (LogIsUnwatched h gfn × BeginsClean h) ⊎ (begun_at h.state.place h.topics).Has gfn

-- The slot with the ID, of which flat memory logs writes, has a log in the published set, and no hand's line is to begin it yet.
pub record IsArmedIn (n : ℕ) (pool : ℕ → ℕ) (slots : ℕ) (hand : ℕ → Held) (id : ℕ) : Type 0 where
  pub slot : SlotOf
  pub logged : IsLoggedIn pool slots id slot
  pub begun : (j gfn : ℕ) → j < n → contains gfn slot ≡ true → IsBeginning (hand j) gfn → ⊥

-- The page of the guest frame is marked, or a mark is owed for the frame; or the line of some hand has taken it out of the log, and isn't answered yet.
abbrev pub IsCoveredOrTaken : ℕ → (ℕ → ℕ) → (ℕ → Held) → SlotOf → ℕ → Type 0
IsCoveredOrTaken n log hand slot gfn = IsGuarded n log hand HasTakenOut slot gfn

-- The guest frame is one of such a slot, and so covered or taken.
pub record IsDirtyIn (n : ℕ) (log pool : ℕ → ℕ) (slots : ℕ) (hand : ℕ → Held) (armed : ℕ → Bool) (gfn : ℕ) : Type 0 where
  pub id : ℕ
  pub slot : SlotOf
  pub is_armed : armed id ≡ true
  pub logged : IsLoggedIn pool slots id slot
  pub has : contains gfn slot ≡ true
  pub covered : IsCoveredOrTaken n log hand slot gfn

-- So are all that are armed, and all that are dirty; and a bit of a published slot's log is set only of a guest frame with a cause to stand in it.
pub record FlatLogsOf (n : ℕ) (log pool : ℕ → ℕ) (slots : ℕ) (hand : ℕ → Held) (f : Flat) : Type 0 where
  pub armed : (id : ℕ) → f.facts.armed id ≡ true → IsArmedIn n pool slots hand id
  pub dirty : (gfn : ℕ) → f.facts.pending gfn ≡ true → IsDirtyIn n log pool slots hand f.facts.armed gfn
  pub caused : (gfn id : ℕ) (slot : SlotOf) → IsLoggedIn pool slots id slot → contains gfn slot ≡ true → is_marked log (page_of slot gfn) ≡ true
      → f.past.causes gfn ≡ true

abbrev pub FlatLogs : Sizes → View → Flat → Type 0
FlatLogs z v f = FlatLogsOf (actors_of z) (v.words area.Log) (v.words area.Pool) (v.words area.Slots 0) v.hand f

-- So it is after every list of steps, of the flat state that its history leaves.
abbrev pub LogsAreFlat : Type 0
LogsAreFlat = (z : Sizes) (lines : List Line) (w : World Held) (ss : List (Step Kind)) → IsStart z lines w → Legal mmu w ss
    → FlatLogs z (view z (run mmu w ss)) (after_all (history w ss) first_flat)
