-- Events that change no slot and take nothing out of a log leave what was read: accesses and host lines tell no others.
use Rattle.std.proofs.Common.{◌≡◌, ◌++◌, List, [], ◌∷◌, ℕ}
use Rattle.std.specs.Prelude.{◌==◌, Bool, true, false, if◌then◌else◌, Option, Some, None}
use Rattle.core_views.specs.declared.actor.Actor.{Actor}
use Rattle.core_views.specs.declared.event.EventKind.{EventKind}
use Rattle.core_views.specs.declared.event.EventKind.TheVariants.{Armed, Begun, BroughtIn, Harvested, HostChanged, LookedAtHost, LookedAtSlots}
use Rattle.core_views.specs.declared.event.EventKind.TheVariants.{SlotChanged, Taken}
use Rattle.core_views.specs.declared.place.AccessPlace.{AccessPlace}
use Rattle.core_views.specs.declared.place.AccessPlace.TheVariants.{Pause, Touch, Fault}
use Rattle.core_views.specs.declared.place.FaultPlace.TheVariants as fault
use Rattle.core_views.specs.declared.place.HostPlace.{HostPlace}
use Rattle.core_views.specs.declared.place.HostPlace.TheVariants as host_at
use Rattle.core_views.specs.declared.place.HostRunPlace.{HostRunPlace}
use Rattle.core_views.specs.declared.place.Place.{Place}
use Rattle.core_views.specs.declared.place.Place.TheVariants as place
use Rattle.core_views.specs.declared.trace.HostChange.{HostChange}
use Rattle.core_views.specs.declared.trace.RunChange.{RunChange}
use Rattle.core_views.specs.declared.trace.Line.{Line}
use Rattle.core_views.specs.declared.trace.Op.{Op}
use Rattle.core_views.specs.Events.{after, after_all, past_after}
use Rattle.core_views.specs.Flat.{Facts, Flat}
use Rattle.core_views.specs.Held.{Held}
use Rattle.core_views.specs.HostChanges.{is_own}
use Rattle.core_views.specs.Past.{Past, past_begun, written_frame}
use Rattle.flat_laws.proofs.Written.{causes_keep, recent_keep}
use Rattle.part_steps.specs.PartTasks.{page_looked, word_looked}
use Rattle.mmu_core.specs.declared.outcome.Outcome.{Outcome}
use Rattle.mmu_core.specs.declared.outcome.Outcome.TheVariants.{Goes, Ends}
use Rattle.mmu_core.specs.forms.access.AccessSteps.{access_tells, exiting, fault_over}
use Rattle.mmu_core.specs.forms.host.HostSteps.{entry_of, host_outcome, host_tells, word_put, after_look}
use Rattle.mmu_core.specs.forms.host_run.HostRunSteps.{host_run_tells}
use Rattle.mmu_core.specs.machine.Outcomes.{answering}
use Rattle.mmu_core.specs.machine.Steps.{beginning}
use Rattle.mmu_core.proofs.lines.EitherPlace.{either_place}
use Rattle.mmu_laws.proofs.flat.Told.{told}
use Rattle.mmu_laws.proofs.forms.host_run.RunEvents.{run_tells_so}

-- ---- events that leave what was read

-- The event changes no slot, and no log begins to be read with it, or loses what was read.
abbrev pub IsMild : EventKind → Type 0
IsMild (SlotChanged id slot) = ⊥
IsMild (Taken id) = ⊥
IsMild (Harvested id frames) = ⊥
IsMild _ = Unit {0}

abbrev pub AreMild : List EventKind → Type 0
AreMild [] = Unit {0}
AreMild (kind ∷ kinds) = IsMild kind × AreMild kinds

pub mild_append : (kinds more : List EventKind) → AreMild kinds → AreMild more → AreMild (kinds ++ more)
mild_append [] more are rest = rest
mild_append (kind ∷ kinds) more are rest = (are.0, mild_append kinds more are.1 rest)

-- Of the past less must not be left out, and no cause is lost.
pub record KeepsPast (past next : Past) : Type 0 where
  pub due : (gfn : ℕ) → next.due gfn ≡ true → past.due gfn ≡ true
  pub causes : (gfn : ℕ) → past.causes gfn ≡ true → next.causes gfn ≡ true
  pub recent : (gfn : ℕ) → past.recent gfn ≡ true → next.recent gfn ≡ true

begun_due : (actor : Actor) (frame : Option ℕ) (past : Past) (gfn : ℕ) → (past_begun actor frame past).due gfn ≡ true → past.due gfn ≡ true
begun_due actor None past gfn is = is
begun_due actor (Some first) past gfn is = is

mild_keeps : (actor : Actor) (kind : EventKind) (f : Facts) (past : Past) → IsMild kind → KeepsPast past (past_after actor kind f past)
mild_keeps actor (Begun line) f past mild = record {
  due = λ gfn is. begun_due actor (written_frame line.command) past gfn is;
  causes = λ gfn is. causes_keep actor (Begun line) f past gfn tt tt is;
  recent = λ gfn is. recent_keep actor (Begun line) f past gfn tt tt is;
}
mild_keeps actor (Armed id all) f past mild =
    record { due = λ gfn is. is; causes = λ gfn is. causes_keep actor (Armed id all) f past gfn tt tt is; recent = λ gfn is. is }
mild_keeps actor (SlotChanged id slot) f past mild = absurd mild
mild_keeps actor (Taken id) f past mild = absurd mild
mild_keeps actor (Harvested id frames) f past mild = absurd mild
mild_keeps actor _ f past mild = record { due = λ gfn is. is; causes = λ gfn is. is; recent = λ gfn is. is }

pub all_keep : (actor : Actor) (kinds : List EventKind) (f : Flat) → AreMild kinds → KeepsPast f.past (after_all (told actor kinds) f).past
all_keep actor [] f are = record { due = λ gfn is. is; causes = λ gfn is. is; recent = λ gfn is. is }
all_keep actor (kind ∷ kinds) f are =
    let one = mild_keeps actor kind f.facts f.past are.0 in
    let rest = all_keep actor kinds (after (record { actor = actor; kind = kind }) f) are.1 in
    record {
      due = λ gfn is. one.due gfn (rest.due gfn is);
      causes = λ gfn is. rest.causes gfn (one.causes gfn is);
      recent = λ gfn is. rest.recent gfn (one.recent gfn is);
    }

-- ---- what an access and a host line tell

exit_mild : (o : Outcome) → AreMild (exiting o)
exit_mild (Goes p) = tt
exit_mild (Ends answer) = (tt, tt)

look_mild : (begun : Bool) → AreMild (if begun then [] else LookedAtSlots ∷ [])
look_mild true = tt
look_mild false = (tt, tt)

pub access_mild : (p : AccessPlace) (h : Held) (gfn word : ℕ) (op : Op) (v : ℕ) → AreMild (access_tells p h gfn word op v)
access_mild (Pause again) h gfn word op v = (tt, tt)
access_mild Touch h gfn word op v = (tt, tt)
access_mild (Fault (fault.Find begun)) h gfn word op v = look_mild begun
access_mild (Fault (fault.FastFind begun)) h gfn word op v = look_mild begun
access_mild (Fault fault.Host) h gfn word op v = (tt, tt)
access_mild (Fault fault.Bring) h gfn word op v =
    either_place AreMild (v == word_looked h.topics.host) (BroughtIn (page_looked h.topics.host) ∷ []) [] (tt, tt) tt
access_mild (Fault (fault.End e)) h gfn word op v = exit_mild (fault_over e)
access_mild _ h gfn word op v = tt

pub host_mild : (p : HostPlace) (page : ℕ) (change : HostChange) (h : Held) (v : ℕ) → AreMild (host_tells p page change h v)
host_mild (host_at.Look moving) page change h v =
    either_place AreMild (is_own h.state.sizes h.state.actor page) (LookedAtHost page ∷ exiting (after_look moving v)) []
    (tt, exit_mild (after_look moving v)) tt
host_mild (host_at.Claim begun) page change h v = exit_mild (host_outcome (host_at.Claim begun) page h v)
host_mild host_at.Change page change h v =
    either_place AreMild (v == word_looked h.topics.host) (HostChanged page (entry_of (word_put change h.topics)) ∷ []) [] (tt, tt) tt
host_mild _ page change h v = tt

pub host_run_mild : (p : HostRunPlace) (page : ℕ) (change : RunChange) (h : Held) (v : ℕ) → AreMild (host_run_tells p page change h v)
host_run_mild p = run_tells_so AreMild tt (λ page. (tt, tt)) (λ page refusal no_frame. (tt, (tt, tt))) p (λ at page entry. (tt, tt))

pub begin_mild : (p : Place) (line : Line) → AreMild (beginning p line)
begin_mild place.Between line = (tt, tt)
begin_mild _ line = tt

pub answer_mild : (o : Outcome) (line : Line) → AreMild (answering o line)
answer_mild (Goes p) line = tt
answer_mild (Ends answer) line = (tt, tt)
