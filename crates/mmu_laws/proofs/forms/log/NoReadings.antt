-- Which steps tell no reading of a dirty log: those of all lines but such as read one.
use Rattle.std.proofs.Common.{◌≡◌, List, [], ◌∷◌, ℕ}
use Rattle.std.specs.Prelude.{Bool, true, false, ◌==◌}
use Rattle.core_views.specs.declared.event.EventKind.{EventKind}
use Rattle.core_views.specs.declared.event.EventKind.TheVariants.{BroughtIn, HostChanged, LookedAtHost, LookedAtSlots}
use Rattle.core_views.specs.declared.place.AccessPlace.{AccessPlace}
use Rattle.core_views.specs.declared.place.AccessPlace.TheVariants as access
use Rattle.core_views.specs.declared.place.FaultPlace.TheVariants as fault
use Rattle.core_views.specs.declared.place.HostPlace.{HostPlace}
use Rattle.core_views.specs.declared.place.HostPlace.TheVariants as host
use Rattle.core_views.specs.declared.place.Place.{Place}
use Rattle.core_views.specs.declared.place.Place.TheVariants as place
use Rattle.core_views.specs.declared.trace.Command.{Command}
use Rattle.core_views.specs.declared.trace.HostChange.{HostChange}
use Rattle.core_views.specs.declared.trace.Op.{Op}
use Rattle.core_views.specs.Held.{Held}
use Rattle.core_views.specs.HostChanges.{is_own}
use Rattle.part_steps.specs.PartTasks.{page_looked, word_looked}
use Rattle.mmu_core.specs.declared.outcome.Outcome.{Outcome}
use Rattle.mmu_core.specs.declared.outcome.Outcome.TheVariants.{Goes, Ends}
use Rattle.mmu_core.specs.forms.access.AccessSteps.{access_tells, exiting, fault_over}
use Rattle.mmu_core.specs.lines.Forms.{outcome_at, tells_at}
use Rattle.mmu_core.specs.forms.host.HostSteps.{entry_of, host_outcome, host_tells, word_put, after_look}
use Rattle.mmu_core.proofs.lines.EitherPlace.{either_place}
use Rattle.mmu_core.proofs.lines.Forms.{place_tells}
use Rattle.mmu_core.proofs.lines.SimplePlaces.{Told, Nothing, Arms, ArmsClean, Exit, Change, OfAccess, OfHost, OfHostRun, OfLog}
use Rattle.mmu_laws.proofs.alone.ToldFlat.{AreNoReadings}
use Rattle.mmu_laws.proofs.forms.host_run.RunEvents.{run_tells_so}

exit_none : (o : Outcome) → AreNoReadings (exiting o)
exit_none (Goes p) = tt
exit_none (Ends answer) = (tt, tt)

access_none : (p : AccessPlace) (h : Held) (gfn word : ℕ) (op : Op) (v : ℕ) → AreNoReadings (access_tells p h gfn word op v)
access_none (access.Pause again) h gfn word op v = (tt, tt)
access_none access.Touch h gfn word op v = (tt, tt)
access_none (access.Fault (fault.Find begun)) h gfn word op v = either_place AreNoReadings begun [] (LookedAtSlots ∷ []) tt (tt, tt)
access_none (access.Fault (fault.FastFind begun)) h gfn word op v = either_place AreNoReadings begun [] (LookedAtSlots ∷ []) tt (tt, tt)
access_none (access.Fault fault.Host) h gfn word op v = (tt, tt)
access_none (access.Fault fault.Bring) h gfn word op v =
    either_place AreNoReadings (v == word_looked h.topics.host) (BroughtIn (page_looked h.topics.host) ∷ []) [] (tt, tt) tt
access_none (access.Fault (fault.End e)) h gfn word op v = exit_none (fault_over e)
access_none _ h gfn word op v = tt

host_none : (p : HostPlace) (page : ℕ) (change : HostChange) (h : Held) (v : ℕ) → AreNoReadings (host_tells p page change h v)
host_none (host.Look moving) page change h v =
    either_place AreNoReadings (is_own h.state.sizes h.state.actor page) (LookedAtHost page ∷ exiting (after_look moving v)) []
    (tt, exit_none (after_look moving v)) tt
host_none (host.Claim begun) page change h v = exit_none (host_outcome (host.Claim begun) page h v)
host_none host.Change page change h v =
    either_place AreNoReadings (v == word_looked h.topics.host) (HostChanged page (entry_of (word_put change h.topics)) ∷ []) [] (tt, tt) tt
host_none _ page change h v = tt

abbrev pub is_of_log : Place → Bool
is_of_log (place.Log p) = true
is_of_log _ = false

pub tells_none : (p : Place) (command : Command) (h : Held) (v : ℕ) → is_of_log p ≡ false → AreNoReadings (tells_at p command h v)
tells_none p command h v = by p command (tells_at p command h v) (place_tells p command h v)
  where
    by : (q : Place) (c : Command) (kinds : List EventKind) → Told h v q c kinds → is_of_log q ≡ false → AreNoReadings kinds
    by _ _ _ Nothing other = tt
    by q c _ (Exit no_frame) other = exit_none (outcome_at q c h v)
    by _ _ _ (Arms id at) other = (tt, tt)
    by _ _ _ (ArmsClean range id seen last) other = (tt, tt)
    by q c _ (Change id slot at more) other = (tt, by q c _ more other)
    by _ _ _ (OfAccess q gfn word op) other = access_none q h gfn word op v
    by _ c _ (OfLog q) other = absurd (cc other)
    by _ _ _ (OfHost q page change) other = host_none q page change h v
    by _ _ _ (OfHostRun q page change) other =
        run_tells_so AreNoReadings tt (λ page. (tt, tt)) (λ page refusal no_frame. (tt, (tt, tt))) q (λ at page entry. (tt, tt)) page change h v
