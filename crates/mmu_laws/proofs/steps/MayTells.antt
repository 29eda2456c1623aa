-- What the steps of any line tell: that it begins, that it is answered, that it exits; and a list of events of which each may be told.
use Rattle.std.proofs.Common.{ℕ, List, [], ◌∷◌, refl}
use Rattle.std.proofs.lemmas.List.Elements.{All-cons, All-nil}
use Rattle.std.specs.Prelude.{All}
use Rattle.core_views.specs.declared.event.EventKind.{EventKind}
use Rattle.core_views.specs.declared.event.EventKind.TheVariants.{Answered, Begun, Exited}
use Rattle.core_views.specs.declared.kind.Kind.{Kind}
use Rattle.core_views.specs.declared.place.Place.{Place}
use Rattle.core_views.specs.declared.place.Place.TheVariants as place
use Rattle.core_views.specs.declared.sizes.Sizes.{Sizes}
use Rattle.core_views.specs.declared.trace.Command.{Command}
use Rattle.core_views.specs.declared.trace.Line.{Line}
use Rattle.core_views.specs.Held.{Held}
use Rattle.mmu_core.specs.declared.outcome.Outcome.{Outcome}
use Rattle.mmu_core.specs.declared.outcome.Outcome.TheVariants.{Ends, Goes}
use Rattle.mmu_core.specs.machine.Outcomes.{answering}
use Rattle.mmu_core.specs.forms.access.AccessSteps.{exiting}
use Rattle.mmu_core.specs.machine.Steps.{beginning}
use Rattle.mmu_laws.specs.steps.EventLaws.{MayTellOf}

module _ (z : Sizes) (h : Held) (v : ℕ) where
  -- What a step of this hand with these numbers may tell of this line, of which this comes: all of it.
  abbrev pub AllMay : Command → Outcome → Kind → List EventKind → Type 0
  AllMay c o k events = All (MayTellOf z h c o k v) events

  pub one : (c : Command) (o : Outcome) (k : Kind) (event : EventKind) → MayTellOf z h c o k v event → AllMay c o k (event ∷ [])
  one c o k event may = All-cons (MayTellOf z h c o k v) event [] may (All-nil (MayTellOf z h c o k v))

  pub none : (c : Command) (o : Outcome) (k : Kind) → AllMay c o k []
  none c o k = All-nil (MayTellOf z h c o k v)

  pub begins_so : (c : Command) (o : Outcome) (k : Kind) (p : Place) (line : Line) → AllMay c o k (beginning p line)
  begins_so c o k place.Between line = one c o k (Begun line) tt
  begins_so c o k _ line = none c o k

  pub answers_so : (c : Command) (k : Kind) (o : Outcome) (line : Line) → AllMay c o k (answering o line)
  answers_so c k (Goes p) line = none c _ k
  answers_so c k (Ends answer) line = one c _ k (Answered line.number answer) refl

  pub exits_so : (c : Command) (k : Kind) (o : Outcome) → AllMay c o k (exiting o)
  exits_so c k (Goes p) = none c _ k
  exits_so c k (Ends answer) = one c _ k (Exited answer) refl
