-- Which look of a line that changes a host page has a note of its own.
use Rattle.std.specs.Prelude.{◌≡◌, Bool}
use Rattle.core_views.specs.declared.kind.Kind.{Kind}
use Rattle.core_views.specs.declared.kind.StepKind.TheVariants as kind
use Rattle.core_views.specs.declared.place.HostPlace.TheVariants.{Look}
use Rattle.core_views.specs.declared.place.Place.{Place}
use Rattle.core_views.specs.declared.place.Place.TheVariants as place_of
use Rattle.core_views.specs.Kinds.{kind_named}

-- The step of this place looks at a host page, which the line is to change.
pub record LooksAtPage (p : Place) (k : Kind) : Type 0 where
  pub moves : Bool
  pub at : p ≡ place_of.Host (Look moves)
  pub looks : kind_named k.code ≡ kind.Host
