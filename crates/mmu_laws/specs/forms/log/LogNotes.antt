-- Which look of a line that reads a dirty log has a note of its own.
use Rattle.std.specs.Prelude.{◌≡◌, ◌≤◌, ◌+◌}
use Rattle.core_views.specs.declared.kind.Kind.{Kind}
use Rattle.core_views.specs.declared.kind.StepKind.TheVariants as kind
use Rattle.core_views.specs.declared.place.LogPlace.TheVariants.{Await}
use Rattle.core_views.specs.declared.place.Place.{Place}
use Rattle.core_views.specs.declared.place.Place.TheVariants as place_of
use Rattle.core_views.specs.declared.sizes.Sizes.{Sizes}
use Rattle.core_views.specs.Kinds.{kind_named}
use Rattle.spte_words.specs.declared.area.Area.TheVariants as area
use Rattle.spte_words.specs.Areas.{place}
use Rattle.part_steps.specs.Tasks.{map_of}

-- The step of this place looks at the last virtual processor, for a line that takes pages out of a dirty log and awaits the flush of each.
pub record AwaitsLast (p : Place) (z : Sizes) (k : Kind) : Type 0 where
  pub at : p ≡ place_of.Log Await
  pub awaits : kind_named k.code ≡ kind.Await
  pub last : place (map_of z) area.State z.vcpus ≤ k.word + 1
