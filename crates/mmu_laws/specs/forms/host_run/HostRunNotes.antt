-- Which looks of a line that changes a run of host pages have notes of their own.
use Rattle.std.specs.Prelude.{◌≡◌, ◌⊎◌}
use Rattle.core_views.specs.declared.kind.Kind.{Kind}
use Rattle.core_views.specs.declared.kind.StepKind.TheVariants as kind
use Rattle.core_views.specs.declared.place.HostRunPlace.{HostRunPlace}
use Rattle.core_views.specs.declared.place.HostRunPlace.TheVariants as run
use Rattle.core_views.specs.declared.place.Place.{Place}
use Rattle.core_views.specs.declared.place.Place.TheVariants as place_of
use Rattle.core_views.specs.Kinds.{kind_named}

-- The step of this place looks at a host page of the run that the line is to change.
pub record LooksInRun (p : Place) (k : Kind) : Type 0 where
  pub look : HostRunPlace
  pub at : p ≡ place_of.HostRun look
  pub is : (look ≡ run.Look) ⊎ (look ≡ run.LookOn)
  pub looks : kind_named k.code ≡ kind.Host
