-- The stage in flat memory of a line that changes a slot, at each of its places.
use Rattle.std.specs.Prelude.{◌≡◌, ◌&&◌, Bool, true, if◌then◌else◌}
use Rattle.core_views.specs.declared.place.SlotChangePlace.{SlotChangePlace}
use Rattle.core_views.specs.declared.place.SlotChangePlace.TheVariants.{Release, End, Watch, WriteProtect, Clear, Give}
use Rattle.core_views.specs.declared.sizes.Sizes.{Sizes}
use Rattle.core_views.specs.declared.trace.Command.{Command}
use Rattle.core_views.specs.Flat.{LineUnderWay, Fresh, HasArmed, HasChanged, Stage}
use Rattle.core_views.specs.LogCommands.{is_all_set}
use Rattle.core_views.specs.SlotCommands.{arms}

-- A slot line has done nothing yet, up to its publication; after it, it has changed its slot. A log has begun then where each page is dirty as it does, and
-- else once writes are forbidden.
abbrev pub changed_stage : Bool → Command → Stage
changed_stage begun command = if begun && arms command then HasArmed else HasChanged

abbrev pub SlotChangeUnder : SlotChangePlace → Sizes → Command → LineUnderWay → Type 0
SlotChangeUnder Release z command u = u.stage ≡ changed_stage (is_all_set z.mode) command
SlotChangeUnder (End p) z command u = u.stage ≡ changed_stage (is_all_set z.mode) command
SlotChangeUnder Watch z command u = u.stage ≡ changed_stage (is_all_set z.mode) command
SlotChangeUnder (WriteProtect range p) z command u = u.stage ≡ HasChanged
SlotChangeUnder Clear z command u = u.stage ≡ changed_stage true command
SlotChangeUnder Give z command u = u.stage ≡ changed_stage true command
SlotChangeUnder _ z command u = u.stage ≡ Fresh
