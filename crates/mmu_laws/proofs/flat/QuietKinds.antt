-- Events that say nothing of dirty logs: which steps tell no others, and that they leave what flat memory keeps of logs.
use Rattle.std.proofs.Common.{◌≡◌, ℕ, List, [], ◌∷◌, ◌++◌}
use Rattle.std.specs.Prelude.{◌==◌, Bool, true, false, if◌then◌else◌}
use Rattle.core_views.specs.declared.actor.Actor.{Actor}
use Rattle.core_views.specs.declared.event.EventKind.{EventKind}
use Rattle.core_views.specs.declared.event.EventKind.TheVariants.{Accessed, Armed, Begun, BroughtIn, Harvested, HostChanged, LookedAtHost}
use Rattle.core_views.specs.declared.event.EventKind.TheVariants.{LookedAtSlots, SlotChanged}
use Rattle.core_views.specs.declared.place.AccessPlace.{AccessPlace}
use Rattle.core_views.specs.declared.place.AccessPlace.TheVariants.{Pause, Touch, Fault}
use Rattle.core_views.specs.declared.place.FaultPlace.TheVariants as fault
use Rattle.core_views.specs.declared.place.HostPlace.{HostPlace}
use Rattle.core_views.specs.declared.place.HostPlace.TheVariants as host_at
use Rattle.core_views.specs.declared.place.Place.{Place}
use Rattle.core_views.specs.declared.place.Place.TheVariants as place
use Rattle.core_views.specs.declared.place.SlotChangePlace.{SlotChangePlace}
use Rattle.core_views.specs.declared.place.SlotChangePlace.TheVariants as change
use Rattle.core_views.specs.declared.place.WriteProtectPlace.TheVariants as protect
use Rattle.core_views.specs.declared.trace.Command.{Command}
use Rattle.core_views.specs.declared.trace.HostChange.{HostChange}
use Rattle.core_views.specs.declared.trace.Line.{Line}
use Rattle.core_views.specs.declared.trace.Op.{Op}
use Rattle.core_views.specs.Events.{after, after_all}
use Rattle.core_views.specs.Flat.{Flat}
use Rattle.core_views.specs.Held.{Held}
use Rattle.core_views.specs.HostChanges.{is_own}
use Rattle.flat_laws.proofs.Written.{causes_keep}
use Rattle.part_steps.specs.PartTasks.{page_looked, word_looked}
use Rattle.mmu_core.specs.declared.outcome.Outcome.{Outcome}
use Rattle.mmu_core.specs.declared.outcome.Outcome.TheVariants.{Goes, Ends}
use Rattle.mmu_core.specs.forms.access.AccessSteps.{access_tells, exiting, fault_over}
use Rattle.mmu_core.specs.forms.host.HostSteps.{entry_of, host_outcome, host_tells, word_put, after_look}
use Rattle.mmu_core.specs.forms.slot_change.SlotChangeSteps.{slot_change_outcome}
use Rattle.mmu_core.specs.forms.slot_change.SlotChangeTells.{slot_change_tells}
use Rattle.mmu_core.specs.machine.Outcomes.{answering}
use Rattle.mmu_core.specs.machine.Steps.{beginning}
use Rattle.mmu_core.proofs.lines.EitherPlace.{either_place}
use Rattle.mmu_laws.specs.flat.FlatLogs.{FlatLogsOf}
use Rattle.mmu_laws.proofs.flat.Told.{told}

-- The event arms no slot and changes none, makes no frame dirty, and takes nothing out of a log.
abbrev pub IsQuiet : EventKind → Type 0
IsQuiet (Accessed gfn word op frame before) = ⊥
IsQuiet (SlotChanged id slot) = ⊥
IsQuiet (Armed id all) = ⊥
IsQuiet (Harvested id frames) = ⊥
IsQuiet _ = Unit {0}

abbrev pub AreQuiet : List EventKind → Type 0
AreQuiet [] = Unit {0}
AreQuiet (kind ∷ kinds) = IsQuiet kind × AreQuiet kinds

pub quiet_append : (kinds more : List EventKind) → AreQuiet kinds → AreQuiet more → AreQuiet (kinds ++ more)
quiet_append [] more are rest = rest
quiet_append (kind ∷ kinds) more are rest = (are.0, quiet_append kinds more are.1 rest)

-- ---- what a step tells

-- A step at such a place may tell an event that isn't quiet: an access, a change of a slot, or that a log begins. (So may one that ends a reading.)
abbrev pub tells_of_logs : Place → Bool
tells_of_logs (place.Access Touch) = true
tells_of_logs (place.SlotChange change.Publish) = true
tells_of_logs (place.SlotChange (change.WriteProtect range protect.Await)) = true
tells_of_logs _ = false

exit_quiet : (o : Outcome) → AreQuiet (exiting o)
exit_quiet (Goes p) = tt
exit_quiet (Ends answer) = (tt, tt)

look_quiet : (begun : Bool) → AreQuiet (if begun then [] else LookedAtSlots ∷ [])
look_quiet true = tt
look_quiet false = (tt, tt)

pub access_quiet : (p : AccessPlace) (h : Held) (gfn word : ℕ) (op : Op) (v : ℕ) → tells_of_logs (place.Access p) ≡ false
    → AreQuiet (access_tells p h gfn word op v)
access_quiet (Pause again) h gfn word op v quiet = (tt, tt)
access_quiet Touch h gfn word op v quiet = absurd (cc quiet)
access_quiet (Fault (fault.Find begun)) h gfn word op v quiet = look_quiet begun
access_quiet (Fault (fault.FastFind begun)) h gfn word op v quiet = look_quiet begun
access_quiet (Fault fault.Host) h gfn word op v quiet = (tt, tt)
access_quiet (Fault fault.Bring) h gfn word op v quiet =
    either_place AreQuiet (v == word_looked h.topics.host) (BroughtIn (page_looked h.topics.host) ∷ []) [] (tt, tt) tt
access_quiet (Fault (fault.End e)) h gfn word op v quiet = exit_quiet (fault_over e)
access_quiet _ h gfn word op v quiet = tt

pub change_quiet : (p : SlotChangePlace) (h : Held) (command : Command) (v : ℕ) → tells_of_logs (place.SlotChange p) ≡ false
    → AreQuiet (slot_change_tells p h command v)
change_quiet (change.Claim begun) h command v quiet = exit_quiet (slot_change_outcome (change.Claim begun) command h v)
change_quiet change.Publish h command v quiet = absurd (cc quiet)
change_quiet (change.WriteProtect range protect.Await) h command v quiet = absurd (cc quiet)
change_quiet (change.WriteProtect range (protect.Walk true)) h command v quiet = tt
change_quiet (change.WriteProtect range (protect.Walk false)) h command v quiet = tt
change_quiet (change.WriteProtect range _) h command v quiet = tt
change_quiet _ h command v quiet = tt

pub host_quiet : (p : HostPlace) (page : ℕ) (change : HostChange) (h : Held) (v : ℕ) → AreQuiet (host_tells p page change h v)
host_quiet (host_at.Look moving) page change h v =
    either_place AreQuiet (is_own h.state.sizes h.state.actor page) (LookedAtHost page ∷ exiting (after_look moving v)) []
    (tt, exit_quiet (after_look moving v)) tt
host_quiet (host_at.Claim begun) page change h v = exit_quiet (host_outcome (host_at.Claim begun) page h v)
host_quiet host_at.Change page change h v =
    either_place AreQuiet (v == word_looked h.topics.host) (HostChanged page (entry_of (word_put change h.topics)) ∷ []) [] (tt, tt) tt
host_quiet _ page change h v = tt

pub begins_quiet : (p : Place) (line : Line) → AreQuiet (beginning p line)
begins_quiet place.Between line = (tt, tt)
begins_quiet _ line = tt

pub answers_quiet : (o : Outcome) (line : Line) → AreQuiet (answering o line)
answers_quiet (Goes p) line = tt
answers_quiet (Ends answer) line = (tt, tt)

-- ---- what such events leave

module _ (n : ℕ) (log pool : ℕ → ℕ) (slots : ℕ) (hand : ℕ → Held) where
  quiet_after : (actor : Actor) (kind : EventKind) (f : Flat) → IsQuiet kind → FlatLogsOf n log pool slots hand f
      → FlatLogsOf n log pool slots hand (after (record { actor = actor; kind = kind }) f)
  quiet_after actor (Accessed gfn word op frame before) f quiet L = absurd quiet
  quiet_after actor (SlotChanged id slot) f quiet L = absurd quiet
  quiet_after actor (Armed id all) f quiet L = absurd quiet
  quiet_after actor (Harvested id frames) f quiet L = absurd quiet
  quiet_after actor (Begun line) f quiet L = record {
    armed = L.armed;
    dirty = L.dirty;
    caused = λ gfn id slot logged has set. causes_keep actor (Begun line) f.facts f.past gfn tt tt (L.caused gfn id slot logged has set);
  }
  quiet_after actor _ f quiet L = record { armed = L.armed; dirty = L.dirty; caused = L.caused }

  pub quiet_told : (actor : Actor) (kinds : List EventKind) (f : Flat) → AreQuiet kinds → FlatLogsOf n log pool slots hand f
      → FlatLogsOf n log pool slots hand (after_all (told actor kinds) f)
  quiet_told actor [] f are L = L
  quiet_told actor (kind ∷ kinds) f are L = quiet_told actor kinds (after (record { actor = actor; kind = kind }) f) are.1 (quiet_after actor kind f are.0 L)
