-- What the reading under way has taken, whatever the form of its line: what excuses its frames, and what it takes with its step.
use Rattle.std.proofs.Common.{◌≡◌, arith, refl, subst, sym, ℕ}
use Rattle.std.specs.Prelude.{Bool, None, Option, Some, true}
use Rattle.core_views.specs.Held.{Held}
use Rattle.core_views.specs.declared.place.LogPlace.{LogPlace}
use Rattle.core_views.specs.declared.place.LogPlace.TheVariants as log
use Rattle.core_views.specs.declared.place.Place.{Place}
use Rattle.core_views.specs.declared.place.Place.TheVariants as place
use Rattle.core_views.specs.declared.topics.Flush.{Flush}
use Rattle.core_views.specs.declared.trace.Command.{Command}
use Rattle.core_views.specs.declared.trace.Line.{Line}
use Rattle.core_views.specs.declared.trace.Slot.{Slot as SlotOf}
use Rattle.mmu_core.proofs.lines.EitherPlace.{either_place}
use Rattle.mmu_core.proofs.forms.log.ReadingPlaces.{reading_goes}
use Rattle.mmu_core.proofs.machine.Columns.{upd_same}
use Rattle.mmu_core.specs.declared.log_next.LogNext.{LogNext}
use Rattle.mmu_core.specs.declared.log_next.LogNext.TheVariants as next
use Rattle.mmu_core.specs.lines.Forms.{outcome_at}
use Rattle.mmu_core.specs.forms.log.LogSteps.{log_next, reads_last, slot_asked}
use Rattle.mmu_core.specs.lines.PartAt.{task_at}
use Rattle.mmu_core.specs.forms.log.Readings.{Reading, reading_at}
use Rattle.mmu_core.specs.machine.Outcomes.{place_after}
use Rattle.mmu_core.specs.machine.View.{View, answer_in, hand_after, stepped}
use Rattle.log_invariant.proofs.forms.log.LogExcuse.{taken_next}
use Rattle.log_invariant.proofs.StepPlaces.{takes, takes_of, takes_there}
use Rattle.log_invariant.specs.Excuses.{forbidding, forbidding_at}
use Rattle.log_invariant.specs.Forbidding.{PassedTo, Forbidding, ForbidsLater, HowFar, IsUnpassed, no_forbidding}
use Rattle.log_invariant.specs.forms.log.LogReads.{HasTakenOut, has_taken, read_so_far, taken_at, taken_by, taken_of}

-- ---- where a reading is under way

-- What is said of what it has taken is said of the line's place.
pub said_there : (P : Forbidding → Type 0) (p : Place) (command : Command) (h : Held) (r : Reading) → reading_at p command h ≡ Some r
    → P (taken_by r.place r.command h) → P (forbidding_at p command h)
said_there P (place.SlotChange p) command h r is so = absurd (cc is)
said_there P p command h r is so = subst (λ (o : Option Reading). P (taken_of o h)) (sym is) so

-- ---- after a step

-- What is so of what it has taken after the step, where the order comes to that, is said of the line's place then; of nothing taken it isn't.
module _ (P : Forbidding → Type 0) (p : Place) (command : Command) (h : Held) (x : ℕ) (r : Reading) (is : reading_at p command h ≡ Some r) (g : Held) where
  pub said_next : (n : LogNext) → log_next r.place r.command h x ≡ n → P (taken_next n r.command g) → (P no_forbidding → ⊥)
      → P (forbidding_at (place_after (outcome_at p command h x)) command g)
  said_next (next.Goes q) goes so never = said_there P (place_after (outcome_at p command h x)) command g _ ((reading_goes p command h x r q is goes).stands g)
      so
  said_next (next.Refused refusal) goes so never = absurd (never so)
  said_next next.Reads goes so never = absurd (never so)

-- ---- the step that takes

-- It goes on to a place from which no leaf is forbidden yet.
pub record TakesOn (q : LogPlace) (command : Command) (h : Held) (x : ℕ) : Type 0 where
  pub to : LogPlace
  pub goes : log_next q command h x ≡ next.Goes to
  pub taken : has_taken to ≡ true
  pub so_far : (slot : SlotOf) (flush : Flush) → read_so_far to slot command flush ≡ PassedTo 0

pub takes_on : (q : LogPlace) (command : Command) (h : Held) (x : ℕ) → takes_there q ≡ true → TakesOn q command h x
takes_on (log.Take begun) command h x is =
    let last : Bool = reads_last begun (slot_asked h command) command h.topics in
    record {
      to = _;
      goes = refl;
      taken = either_place (λ q. has_taken q ≡ true) last log.Root (log.Take true) refl refl;
      so_far = λ slot flush. either_place (λ q. read_so_far q slot command flush ≡ PassedTo 0) last log.Root (log.Take true) refl refl;
    }
takes_on _ command h x is = absurd (cc is)

-- So what it has taken then it has yet to protect.
taken_unprotected : (p : Place) (command : Command) (h : Held) (x : ℕ) (g : Held) (gfn : ℕ) → takes p command h ≡ true
    → (taken_at (place_after (outcome_at p command h x)) command g).Has gfn
    → ForbidsLater (forbidding_at (place_after (outcome_at p command h x)) command g) gfn
taken_unprotected p command h x g gfn is taken = by (reading_at p command h) refl is
  where
    by : (o : Option Reading) → reading_at p command h ≡ o → takes_of o ≡ true
        → ForbidsLater (forbidding_at (place_after (outcome_at p command h x)) command g) gfn
    by None at none = absurd (cc none)
    by (Some r) at there =
        let T = takes_on r.place r.command h x there in
        let stands = (reading_goes p command h x r T.to at T.goes).stands g in
        said_there (λ f. ForbidsLater f gfn) (place_after (outcome_at p command h x)) command g _ stands (
          subst (λ (o : Option Reading). (taken_of o g).Has gfn) stands taken,
          subst (λ (far : HowFar). IsUnpassed far gfn) (sym (T.so_far (slot_asked g r.command) g.topics.flush)) (omega arith),
        )

pub taken_forbids : (p : Place) (v : View) (a : ℕ) (line : Line) (command : Command) (gfn : ℕ) → takes p command (v.hand a) ≡ true → line.command ≡ command
    → HasTakenOut ((stepped a line command p v).hand a) gfn → ForbidsLater (forbidding ((stepped a line command p v).hand a)) gfn
taken_forbids p v a line command gfn is said =
    subst (λ (g : Held). HasTakenOut g gfn → ForbidsLater (forbidding g) gfn) (sym (upd_same v.hand a after))
    (subst (λ (c : Command). (taken_at (place_after (outcome_at p command h x)) c after).Has gfn
    → ForbidsLater (forbidding_at (place_after (outcome_at p command h x)) c after) gfn) (sym said) (taken_unprotected p command h x after gfn is))
  where
    h : Held
    h = v.hand a

    x : ℕ
    x = answer_in (task_at p command h) v.words

    after : Held
    after = hand_after line command p h x
