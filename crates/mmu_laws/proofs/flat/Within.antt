-- Besides its begin and its answer, a line tells few lists of events, and only such as stand within it: what it does, and not that it begins or ends.
use Rattle.mmu_core.proofs.forms.log.LogTold.{log_tells_so}
use Rattle.part_steps.specs.PartTasks.{word_looked, page_looked}
use Rattle.std.specs.Prelude.{◌==◌, Bool, true, false, if◌then◌else◌, Option}
use Rattle.core_views.specs.HostChanges.{is_own}
use Rattle.mmu_core.proofs.lines.EitherPlace.{either_place}
use Rattle.mmu_core.specs.forms.host.HostSteps.{host_tells, entry_of, word_put, host_outcome, after_look}
use Rattle.core_views.specs.declared.place.HostPlace.{HostPlace}
use Rattle.core_views.specs.declared.place.HostPlace.TheVariants as host_at
use Rattle.core_views.specs.declared.event.EventKind.TheVariants.{Armed, BroughtIn, Exited, Harvested, HostChanged, LookedAtHost, LookedAtPause}
use Rattle.core_views.specs.declared.event.EventKind.TheVariants.{LookedAtSlots, Shown, SlotChanged, Taken}
use Rattle.core_views.specs.declared.memory_slot.MemorySlot.{MemorySlot}
use Rattle.std.proofs.Common.{◌≡◌, ℕ, List, [], ◌∷◌, refl}
use Rattle.core_views.specs.declared.event.EventKind.{EventKind}
use Rattle.core_views.specs.declared.place.AccessPlace.{AccessPlace}
use Rattle.core_views.specs.declared.place.AccessPlace.TheVariants.{Pause, Touch, Fault}
use Rattle.core_views.specs.declared.place.FaultPlace.TheVariants as fault
use Rattle.core_views.specs.declared.place.Place.{Place}
use Rattle.core_views.specs.declared.trace.Command.{Command}
use Rattle.core_views.specs.declared.trace.Op.{Op}
use Rattle.core_views.specs.Alone.{IsInside}
use Rattle.core_views.specs.Held.{Held}
use Rattle.mmu_core.specs.declared.outcome.Outcome.{Outcome}
use Rattle.mmu_core.specs.declared.outcome.Outcome.TheVariants.{Goes, Ends}
use Rattle.mmu_core.specs.forms.access.AccessSteps.{access_tells, exiting, fault_over}
use Rattle.mmu_core.specs.lines.Forms.{outcome_at, tells_at}
use Rattle.core_views.specs.declared.trace.HostChange.{HostChange}
use Rattle.mmu_core.proofs.lines.Forms.{place_tells}
use Rattle.mmu_core.proofs.lines.SimplePlaces.{Told, Nothing, Arms, ArmsClean, Exit, Change, OfAccess, OfHost, OfHostRun, OfLog}
use Rattle.core_views.specs.declared.answer.Answer.{Answer}
use Rattle.core_views.specs.declared.answer.Answer.TheVariants.{Refused}
use Rattle.mmu_laws.proofs.forms.host_run.RunEvents.{run_tells_so}

-- What is so of few lists of events is so of what each step tells, besides that its line begins or is answered: of no event, of one that stands within a line,
-- of a slot's change and such a list after it, of a reading's begin and end, and of a look at a host page and an exit.
module _ (Q : List EventKind → Type 0) (none : Q []) (one : (k : EventKind) → IsInside k → Q (k ∷ []))
    (change : (id : ℕ) (slot : Option MemorySlot) (more : List EventKind) → Q more → Q (SlotChanged id slot ∷ more))
    (both : (id : ℕ) (frames : List ℕ) → Q (Taken id ∷ Shown id frames ∷ []))
    (seen : (page : ℕ) (answer : Answer) → Q (LookedAtHost page ∷ Exited answer ∷ [])) where
  exit_so : (o : Outcome) → Q (exiting o)
  exit_so (Goes p) = none
  exit_so (Ends answer) = one (Exited answer) tt

  looked_so : (page : ℕ) (o : Outcome) → Q (LookedAtHost page ∷ exiting o)
  looked_so page (Goes p) = one (LookedAtHost page) tt
  looked_so page (Ends answer) = seen page answer

  look_so : (begun : Bool) → Q (if begun then [] else LookedAtSlots ∷ [])
  look_so true = none
  look_so false = one LookedAtSlots tt

  access_so : (p : AccessPlace) (h : Held) (gfn word : ℕ) (op : Op) (v : ℕ) → Q (access_tells p h gfn word op v)
  access_so (Pause again) h gfn word op v = one LookedAtPause tt
  access_so Touch h gfn word op v = one _ tt
  access_so (Fault (fault.Find begun)) h gfn word op v = look_so begun
  access_so (Fault (fault.FastFind begun)) h gfn word op v = look_so begun
  access_so (Fault fault.Host) h gfn word op v = one _ tt
  access_so (Fault fault.Bring) h gfn word op v =
      either_place Q (v == word_looked h.topics.host) (BroughtIn (page_looked h.topics.host) ∷ []) [] (one _ tt) none
  access_so (Fault (fault.End e)) h gfn word op v = exit_so (fault_over e)
  access_so _ h gfn word op v = none

  host_so : (p : HostPlace) (page : ℕ) (change_ : HostChange) (h : Held) (v : ℕ) → Q (host_tells p page change_ h v)
  host_so (host_at.Look moving) page change_ h v =
      either_place Q (is_own h.state.sizes h.state.actor page) (LookedAtHost page ∷ exiting (after_look moving v)) []
      (looked_so page (after_look moving v)) none
  host_so (host_at.Claim begun) page change_ h v = exit_so (host_outcome (host_at.Claim begun) page h v)
  host_so host_at.Change page change_ h v =
      either_place Q (v == word_looked h.topics.host) (HostChanged page (entry_of (word_put change_ h.topics)) ∷ []) [] (one _ tt) none
  host_so _ page change_ h v = none

  pub tells_so : (p : Place) (command : Command) (h : Held) (v : ℕ) → Q (tells_at p command h v)
  tells_so p command h v = by p command (tells_at p command h v) (place_tells p command h v)
    where
      by : (q : Place) (c : Command) (kinds : List EventKind) → Told h v q c kinds → Q kinds
      by _ _ _ Nothing = none
      by q c _ (Exit no_frame) = exit_so (outcome_at q c h v)
      by _ _ _ (Arms id at) = one (Armed id true) tt
      by _ _ _ (ArmsClean range id seen last) = one (Armed id false) tt
      by q c _ (Change id slot at more) = change id slot _ (by q c _ more)
      by _ _ _ (OfAccess q gfn word op) = access_so q h gfn word op v
      by _ c _ (OfLog q) =
          log_tells_so Q none (λ id. one (Taken id) tt) (λ id frames. one (Harvested id frames) tt) (λ id frames. one (Shown id frames) tt) both q c h v
      by _ _ _ (OfHost q page change_) = host_so q page change_ h v
      by _ _ _ (OfHostRun q page change_) =
          run_tells_so Q none (λ other. one (LookedAtHost other) tt) (λ other refusal no_frame. seen other (Refused refusal)) q
          (λ at other entry. one (HostChanged other entry) tt) page change_ h v

-- Each of the events stands within a line.
abbrev pub AllWithin : List EventKind → Type 0
AllWithin [] = Unit {0}
AllWithin (k ∷ ks) = IsInside k × AllWithin ks

-- Besides its begin and its answer, a line tells only events that stand within it.
pub tells_within : (p : Place) (command : Command) (h : Held) (v : ℕ) → AllWithin (tells_at p command h v)
tells_within p command h v =
    tells_so AllWithin tt (λ k within. (within, tt)) (λ id slot more rest. (tt, rest)) (λ id frames. (tt, (tt, tt)))
    (λ page answer. (tt, (tt, tt))) p command h v

-- What a reading takes out of a log its step tells as the last event but for the answer.
abbrev pub ends_there : EventKind → List EventKind → Type 0
ends_there (Harvested id frames) more = more ≡ []
ends_there _ more = Unit {0}

abbrev pub HarvestsLast : List EventKind → Type 0
HarvestsLast [] = Unit {0}
HarvestsLast (k ∷ ks) = ends_there k ks × HarvestsLast ks

pub harvests_last : (p : Place) (command : Command) (h : Held) (v : ℕ) → HarvestsLast (tells_at p command h v)
harvests_last p command h v =
    tells_so HarvestsLast tt one_last (λ id slot more rest. (tt, rest)) (λ id frames. (tt, (tt, tt))) (λ page answer. (tt, (tt, tt))) p command h v
  where
    one_last : (k : EventKind) → IsInside k → HarvestsLast (k ∷ [])
    one_last (Harvested id frames) within = (refl, tt)
    one_last _ within = (tt, tt)
