-- Which logs a line of a migration reads, which words it copies, and what it is answered then.
use Rattle.std.specs.Prelude.{◌≡◌, ◌+◌, nat_le, ℕ, Bool, List, ◌∷◌, Some}
use Rattle.core_views.specs.declared.actor.Actor.{Actor}
use Rattle.core_views.specs.declared.answer.Answer.{Answer}
use Rattle.core_views.specs.declared.answer.Answer.TheVariants.{Copied, Image}
use Rattle.core_views.specs.declared.trace.MigrationCall.{MigrationCall}
use Rattle.core_views.specs.declared.trace.MigrationCall.TheVariants.{Finish}
use Rattle.core_views.specs.declared.trace.Op.TheVariants.{Read}
use Rattle.core_views.specs.Migrations.{image_words}
use Rattle.core_views.specs.declared.trace.Command.{Command}
use Rattle.core_views.specs.declared.trace.Command.TheVariants.{Migrate}
use Rattle.core_views.specs.declared.sizes.Sizes.{Sizes}
use Rattle.core_views.specs.Slots.{page_behind}
use Rattle.core_views.specs.SlotSets.{flat_slots}
use Rattle.core_views.specs.Harvests.{IsHarvest}
use Rattle.core_views.specs.Past.{Past}
use Rattle.core_views.specs.Flat.{Facts, LineUnderWay, Stage, Fresh}
use Rattle.core_views.specs.Flat.{HasTakenNext, HasToCopy}
use Rattle.core_views.specs.Events.{logs_left}
use Rattle.core_views.specs.AtOnce.{HasWork}

-- what a line of a migration is answered that has copied so many pages: one that finishes it with the image, which holds what was copied
abbrev pub copied_answer : Sizes → Command → ℕ → Facts → Answer
copied_answer z (Migrate Finish) count f = Image (image_words z.words f.image f.slots)
copied_answer z command count f = Copied count

-- The line is one of a migration that reads the log of this slot next.
pub record MayReadNext (z : Sizes) (f : Facts) (actor : Actor) (u : LineUnderWay) (id : ℕ) : Type 0 where
  pub works : u.stage ≡ Fresh → HasWork z f actor u.line.command
  pub call : MigrationCall
  pub asked : u.line.command ≡ Migrate call
  pub ids : List ℕ
  pub left : logs_left f.slots u.line.command u.stage ≡ id ∷ ids

-- It has begun to read the log of this slot, and has now read these frames of it.
pub record MayHarvest (f : Facts) (past : Past) (command : Command) (stage : Stage) (id : ℕ) (frames : List ℕ) : Type 0 where
  pub ids : List ℕ
  pub begun : stage ≡ HasTakenNext id ids
  pub harvest : IsHarvest f past command id frames

-- It has yet to copy this word of the page that is behind the guest frame next, and the word holds this. The page is copied whole with its last word.
pub record CopiesNext (z : Sizes) (f : Facts) (stage : Stage) (gfn page word value : ℕ) (whole : Bool) : Type 0 where
  pub frames : List ℕ
  pub count : ℕ
  pub left : stage ≡ HasToCopy (gfn ∷ frames) count word
  pub behind : page_behind (flat_slots f.slots) gfn Read ≡ Some page
  pub value_is : f.memory page word ≡ value
  pub whole_is : whole ≡ nat_le z.words (word + 1)
