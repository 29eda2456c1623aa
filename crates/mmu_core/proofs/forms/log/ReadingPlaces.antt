-- What is so at each place at which a reading of a dirty log is under way: its step is the next one of the order of a reading, by the reading's own command.
use Rattle.std.proofs.Common.{◌≡◌, ℕ, List, ap, refl, subst}
use Rattle.std.specs.Prelude.{Bool, Option, Some, None, false, true}
use Rattle.core_views.specs.declared.actor.Actor.{Actor}
use Rattle.core_views.specs.declared.actor.Actor.TheVariants.{Manager}
use Rattle.core_views.specs.declared.place.LogPlace.{LogPlace}
use Rattle.core_views.specs.declared.place.LogPlace.TheVariants.{Peek}
use Rattle.core_views.specs.declared.place.Place.{Place}
use Rattle.core_views.specs.declared.place.Place.TheVariants as place
use Rattle.core_views.specs.declared.trace.Command.{Command}
use Rattle.core_views.specs.declared.sizes.Sizes.{Sizes}
use Rattle.core_views.specs.declared.trace.Line.{Line}
use Rattle.core_views.specs.Held.{Held}
use Rattle.core_views.specs.Traces.{IsCommandFor}
use Rattle.mmu_core.specs.declared.log_next.LogNext.{LogNext}
use Rattle.mmu_core.specs.declared.log_next.LogNext.TheVariants as next
use Rattle.mmu_core.specs.declared.outcome.Outcome.TheVariants.{Goes}
use Rattle.mmu_core.specs.lines.Forms.{KnowsPart, may_open, may_retire, note_at, outcome_at, part_at, reads_at, records_at, tells_at}
use Rattle.mmu_core.specs.forms.log.LogKnows.{LogKnows}
use Rattle.mmu_core.specs.forms.log.LogOutcomes.{after_log, harvest_after}
use Rattle.mmu_core.specs.forms.log.LogSteps.{log_next, log_note, log_part, log_reads}
use Rattle.mmu_core.specs.forms.log.LogTells.{log_tells}
use Rattle.mmu_core.specs.forms.log.Readings.{Reading, has_begun, reading_at}
use Rattle.mmu_core.specs.lines.Rests.{IsUnderWay}
use Rattle.mmu_core.specs.machine.Outcomes.{place_after}
use Rattle.mmu_core.specs.machine.View.{hand_after}
use Rattle.mmu_core.proofs.forms.log.LogMakes.{log_is_managers}
use Rattle.mmu_core.proofs.forms.log.LogPlaces.{is_over}
use Rattle.mmu_core.proofs.forms.log.LogTold.{log_knows_reads}

-- The reading's step loads a word alone.
abbrev pub is_load : LogPlace → Bool
is_load (Peek begun) = true
is_load _ = false

-- The line's place is one of this reading: it knows what the order of a reading knows, and is the manager's; its step is the order's, tells
-- what the order tells if it is no load, and ends the line only where the order may end; it keeps its record of the slots, and has nothing that is retired or
-- open.
pub record IsOfReading (p : Place) (command : Command) (h : Held) (r : Reading) : Type 0 where
  pub knows : KnowsPart p command h → LogKnows r.place r.command h
  pub under : IsUnderWay p
  pub managers : (z : Sizes) (actor : Actor) → KnowsPart p command h → IsCommandFor z actor command → actor ≡ Manager
  pub part : part_at p command h ≡ Some (log_part r.place h r.command)
  pub note : log_note r.place h r.command ≡ 0 → note_at p command h ≡ 0
  pub tells : (v : ℕ) → is_load r.place ≡ false → tells_at p command h v ≡ log_tells r.place r.command h v
  pub slots : records_at p command h.slots ≡ h.slots
  pub retires_none : may_retire p ≡ false
  pub opens_none : may_open p ≡ false

-- Where the order goes on, so does the line; the reading stands there after the step, and has read this; and the step tells what the order tells.
pub record GoesOnReading (p : Place) (command : Command) (h : Held) (v : ℕ) (r : Reading) (q : LogPlace) : Type 0 where
  pub to : Place
  pub goes : outcome_at p command h v ≡ Goes to
  pub stands : (g : Held) → reading_at (place_after (outcome_at p command h v)) command g ≡ Some (record { place = q; command = r.command })
  pub reads : reads_at p command h v ≡ log_reads r.place r.command h v
  pub tells : tells_at p command h v ≡ log_tells r.place r.command h v

-- the hand after the step of a place of the order, of what says which pages a reading has taken
pub record AfterReading (q : LogPlace) (command : Command) (h : Held) (v : ℕ) (g : Held) : Type 0 where
  pub slots : g.slots ≡ h.slots
  pub words : (p : LogPlace) → log_next q command h v ≡ next.Goes p → g.harvest ≡ log_reads q command h v

-- What is so of each reading.
abbrev OfEach : Option Reading → (Reading → Type 0) → Type 0
OfEach None P = Unit {0}
OfEach (Some r) P = P r

of_each : (o : Option Reading) (r : Reading) (P : Reading → Type 0) → o ≡ Some r → OfEach o P → P r
of_each o r P is so = subst (λ (k : Option Reading). OfEach k P) is so

-- Wherever a reading is under way.
pub reading_is : (p : Place) (command : Command) (h : Held) (r : Reading) → reading_at p command h ≡ Some r → IsOfReading p command h r
reading_is p command h r is = of_each (reading_at p command h) r (IsOfReading p command h) is (by p)
  where
    by : (p : Place) → OfEach (reading_at p command h) (IsOfReading p command h)
    by (place.Log q) = record {
      knows = λ K. K;
      under = tt;
      managers = λ z actor K may. log_is_managers z actor command (log_knows_reads q command h K) may;
      part = refl;
      note = λ none. none;
      tells = λ v other. refl;
      slots = refl;
      retires_none = refl;
      opens_none = refl;
    }
    by _ = tt

pub reading_goes : (p : Place) (command : Command) (h : Held) (v : ℕ) (r : Reading) (q : LogPlace) → reading_at p command h ≡ Some r
    → log_next r.place r.command h v ≡ next.Goes q → GoesOnReading p command h v r q
reading_goes p command h v r q is =
    of_each (reading_at p command h) r (λ k. log_next k.place k.command h v ≡ next.Goes q → GoesOnReading p command h v k q) is (by p)
  where
    by : (p : Place) → OfEach (reading_at p command h) (λ k. log_next k.place k.command h v ≡ next.Goes q → GoesOnReading p command h v k q)
    by (place.Log p) = λ goes. record {
      to = place.Log q;
      goes = ap (λ (n : LogNext). after_log n (log_reads p command h v)) goes;
      stands = λ g. ap (λ (n : LogNext). reading_at (place_after (after_log n (log_reads p command h v))) command g) goes;
      reads = ap (λ (n : LogNext). harvest_after n (log_reads p command h v)) goes;
      tells = refl;
    }
    by _ = tt

-- Where the order is over, no reading is under way after the step that has begun to read.
pub reading_ends : (p : Place) (command : Command) (h : Held) (v : ℕ) (r : Reading) → reading_at p command h ≡ Some r
    → is_over (log_next r.place r.command h v) ≡ true → (g : Held) (more : Reading)
    → reading_at (place_after (outcome_at p command h v)) command g ≡ Some more → has_begun more.place ≡ false
reading_ends p command h v r is =
    of_each (reading_at p command h) r (λ k. is_over (log_next k.place k.command h v) ≡ true → Ends p) is (by p)
  where
    Ends : Place → Type 0
    Ends p = (g : Held) (more : Reading) → reading_at (place_after (outcome_at p command h v)) command g ≡ Some more → has_begun more.place ≡ false

    over : (n : LogNext) (words : List ℕ) → is_over n ≡ true → (g : Held) (more : Reading)
        → reading_at (place_after (after_log n words)) command g ≡ Some more → has_begun more.place ≡ false
    over (next.Goes q) words is g more stands = absurd (cc is)
    over (next.Refused refusal) words is g more stands = absurd (cc stands)
    over next.Reads words is g more stands = absurd (cc stands)

    by : (p : Place) → OfEach (reading_at p command h) (λ k. is_over (log_next k.place k.command h v) ≡ true → Ends p)
    by (place.Log p) = over (log_next p command h v) (log_reads p command h v)
    by _ = tt

pub after_reading : (line : Line) (p : Place) (command : Command) (h : Held) (v : ℕ) (r : Reading) → reading_at p command h ≡ Some r
    → AfterReading r.place r.command h v (hand_after line command p h v)
after_reading line p command h v r is = record {
  slots = (reading_is p command h r is).slots;
  words = λ q goes. (reading_goes p command h v r q is goes).reads;
}
