-- How an access ends: the step that ends it doesn't wait, and an exit for want of a page is told only where the line is answered so.
use Rattle.std.proofs.Common.{◌≡◌, ◌≢◌, ℕ, List, [], ◌∷◌, ap, arith, refl}
use Rattle.std.specs.Prelude.{Bool, true, false, ◌==◌, if◌then◌else◌}
use Rattle.core_views.specs.declared.answer.Answer.{Answer}
use Rattle.core_views.specs.declared.answer.Answer.TheVariants.{Starved}
use Rattle.core_views.specs.declared.event.EventKind.{EventKind}
use Rattle.core_views.specs.declared.event.EventKind.TheVariants.{BroughtIn, Exited, LookedAtSlots}
use Rattle.core_views.specs.declared.place.AccessPlace.{AccessPlace}
use Rattle.core_views.specs.declared.place.AccessPlace.TheVariants.{Pause, Touch, Leave, Fault}
use Rattle.core_views.specs.declared.place.FaultPlace.{FaultPlace}
use Rattle.core_views.specs.declared.place.FaultPlace.TheVariants as fault
use Rattle.core_views.specs.declared.trace.Op.{Op}
use Rattle.core_views.specs.Held.{Held}
use Rattle.core_views.specs.Slots.{is_write}
use Rattle.mmu_core.specs.declared.outcome.Outcome.{Outcome}
use Rattle.mmu_core.specs.declared.outcome.Outcome.TheVariants.{Goes, Ends}
use Rattle.mmu_core.specs.forms.access.AccessSteps.{access_outcome, access_part, access_tells, behind_fault, exiting, fault_over}
use Rattle.mmu_core.specs.lines.Delays.{waits_by}
use Rattle.mmu_core.specs.forms.access.FaultSteps.{fault_next, fault_part}
use Rattle.mmu_core.specs.lines.PartWaits.{part_waits}
use Rattle.part_steps.specs.PartTasks.{page_looked, word_looked}
use Rattle.std.proofs.Props.{props}
use Rattle.core_views.specs.declared.place.FaultEnd.{FaultEnd}
use Rattle.core_views.specs.declared.place.FaultEnd.TheVariants as end_of
use Rattle.core_views.specs.declared.place.FaultNext.{FaultNext}
use Rattle.core_views.specs.declared.place.FaultNext.TheVariants as next_of
use Rattle.core_views.specs.declared.place.Leaving.TheVariants as leaving
use Rattle.core_views.specs.declared.place.Place.TheVariants as place
use Rattle.core_views.specs.declared.trace.Command.{Command}
use Rattle.core_views.specs.declared.trace.Command.TheVariants.{Access}
use Rattle.mmu_core.proofs.forms.access.AccessLeft.{access_few, some_access_left}
use Rattle.mmu_core.proofs.lines.FormLaws.{FormLaws}
use Rattle.mmu_core.proofs.lines.SimplePlaces.{Nothing, OfAccess}
use Rattle.mmu_core.proofs.machine.GoesOn.{GoesUnderWay, GoesWithin}

-- ---- it doesn't wait

fault_free : (p : FaultPlace) (h : Held) (gfn : ℕ) (op : Op) (v : ℕ) (answer : Answer)
    → behind_fault (fault_next p h.state.sizes gfn (is_write op) h.topics v) ≡ Ends answer → part_waits (fault_part p gfn h.topics) h.topics v ≡ false
fault_free (fault.End e) h gfn op v answer is = refl
fault_free _ h gfn op v answer is = absurd (cc is)

pub access_free : (p : AccessPlace) (h : Held) (gfn : ℕ) (op : Op) (v : ℕ) (answer : Answer) → access_outcome p h gfn op v ≡ Ends answer
    → waits_by (access_part p gfn h.topics) h.topics v ≡ false
access_free (Fault p) h gfn op v answer is = fault_free p h gfn op v answer is
access_free (Leave how) h gfn op v answer is = refl
access_free _ h gfn op v answer is = absurd (cc is)

-- ---- what it tells

-- None of these events is an exit for want of a page.
abbrev pub AreFed : List EventKind → Type 0
AreFed [] = Unit {0}
AreFed (k ∷ ks) = (k ≢ Exited Starved) × AreFed ks

pub exit_fed : (o : Outcome) → o ≢ Ends Starved → AreFed (exiting o)
exit_fed (Goes p) other = tt
exit_fed (Ends answer) other = (λ e. other (ap Ends (cc e)), tt)

look_fed : (begun : Bool) → AreFed (if begun then [] else LookedAtSlots ∷ [])
look_fed true = tt
look_fed false = (λ e. absurd (cc e), tt)

brought_fed : (won : Bool) (page : ℕ) → AreFed (if won then BroughtIn page ∷ [] else [])
brought_fed true page = (λ e. absurd (cc e), tt)
brought_fed false page = tt

pub access_fed : (p : AccessPlace) (h : Held) (gfn word : ℕ) (op : Op) (v : ℕ) → access_outcome p h gfn op v ≢ Ends Starved
    → AreFed (access_tells p h gfn word op v)
access_fed (Pause again) h gfn word op v other = (λ e. absurd (cc e), tt)
access_fed Touch h gfn word op v other = (λ e. absurd (cc e), tt)
access_fed (Fault (fault.Find begun)) h gfn word op v other = look_fed begun
access_fed (Fault (fault.FastFind begun)) h gfn word op v other = look_fed begun
access_fed (Fault fault.Host) h gfn word op v other = (λ e. absurd (cc e), tt)
access_fed (Fault fault.Bring) h gfn word op v other = brought_fed (v == word_looked h.topics.host) (page_looked h.topics.host)
access_fed (Fault (fault.End end_)) h gfn word op v other = exit_fed (fault_over end_) other
access_fed _ h gfn word op v other = tt

-- ---- all that laws ask of it

-- ---- where it goes on to

abbrev GoesOn : Outcome → Type 0
GoesOn o = GoesUnderWay o × GoesWithin (place.Access Touch) o

fault_over_goes : (e : FaultEnd) → GoesOn (fault_over e)
fault_over_goes end_of.Installed = (tt, λ c. refl)
fault_over_goes (end_of.Fixed marked) = (tt, λ c. refl)
fault_over_goes (end_of.NotFast word) = (tt, λ c. refl)
fault_over_goes (end_of.Retry fast cause) = (tt, λ c. refl)
fault_over_goes _ = (tt, tt)

fault_goes : (n : FaultNext) → GoesOn (behind_fault n)
fault_goes (next_of.Goes p) = (tt, λ c. refl)
fault_goes (next_of.Ends e) = fault_over_goes e

access_goes : (p : AccessPlace) (h : Held) (gfn : ℕ) (op : Op) (v : ℕ) → GoesOn (access_outcome p h gfn op v)
access_goes (Leave (leaving.Reached frame value)) h gfn op v = (tt, tt)
access_goes (Leave (leaving.Faults fast)) h gfn op v = (tt, λ c. refl)
access_goes (Fault p) h gfn op v = fault_goes (fault_next p h.state.sizes gfn (is_write op) h.topics v)
access_goes _ h gfn op v = (tt, λ c. refl)

pub access_laws : (p : AccessPlace) (c : Command) → FormLaws (place.Access p) c
access_laws p (Access gfn word op) = record {
  goes = λ h v begun. (access_goes p h gfn op v).0;
  within = λ h v. (access_goes p h gfn op v).1;
  knows_for = λ h begun K. refl;
  rests_for = λ h begun R. refl;
  simple = λ h v is. absurd is;
  rests = λ h other. absurd other;
  knows_prop = λ h other. absurd other;
  stays = λ z before set after other h own e. tt;
  accepts = λ z pool set h e. tt;
  accepts_prop = λ z slots. hlevel props;
  free = λ h v answer R e. access_free p h gfn op v answer e;
  told = λ h v. OfAccess p gfn word op;
  few = λ z pool set h holds K S most. let few = access_few p h.state.sizes h.topics most in let pool = S.pool.1 in omega (arith, few, pool);
  some = λ z t begun. some_access_left p z t;
}
access_laws p _ = record {
  goes = λ h v begun. tt;
  within = λ h v command. refl;
  knows_for = λ h begun K. absurd K;
  rests_for = λ h begun R. absurd R;
  simple = λ h v is. absurd is;
  rests = λ h other. absurd other;
  knows_prop = λ h other. absurd other;
  stays = λ z before set after other h own e. absurd e;
  accepts = λ z pool set h e. tt;
  accepts_prop = λ z slots. hlevel props;
  free = λ h v answer R e. absurd R;
  told = λ h v. Nothing;
  few = λ z pool set h holds K S most. absurd K;
  some = λ z t begun. some_access_left p z t;
}
