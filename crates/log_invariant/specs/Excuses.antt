-- What excuses a write that nothing covers, in a slot with a dirty log: a line that begins the log, or reads it and has taken the page out of it, up to when it
-- has forbidden writes in the leaf, and up to when each virtual processor has flushed what it had cached.
use Rattle.std.specs.Prelude.{◌⊎◌, ℕ}
use Rattle.core_views.specs.declared.place.Place.{Place}
use Rattle.core_views.specs.declared.place.Place.TheVariants as place
use Rattle.core_views.specs.declared.trace.Command.{Command}
use Rattle.core_views.specs.Held.{Held}
use Rattle.log_invariant.specs.Forbidding.{FlushesLater, Forbidding, ForbidsLater}
use Rattle.log_invariant.specs.forms.slot_change.LogBegins.{BeginsClean, LogIsUnwatched, begun_at}
use Rattle.log_invariant.specs.forms.log.LogReads.{taken_at}

-- the guest frames in whose leaves a line forbids writes at this place: those of the log that it begins, or those that the reading under way has taken
abbrev pub forbidding_at : Place → Command → Held → Forbidding
forbidding_at (place.SlotChange p) command h = begun_at (place.SlotChange p) h.topics
forbidding_at p command h = taken_at p command h

-- those of the hand's line
abbrev pub forbidding : Held → Forbidding
forbidding h = forbidding_at h.state.place h.state.line.command h

-- The hand's line excuses a leaf of the guest frame that allows writes: others may not know yet of the log that it begins clean, or it has yet to forbid writes
-- in the leaf.
abbrev pub ExcusesLeaf : Held → ℕ → Type 0
ExcusesLeaf h gfn = (LogIsUnwatched h gfn × BeginsClean h) ⊎ ForbidsLater (forbidding h) gfn

-- It excuses such a leaf that virtual processor v, with this state word, has cached and may use: by the log that it begins clean, or since it has yet to see
-- v's flush.
abbrev pub ExcusesCached : ℕ → ℕ → Held → ℕ → Type 0
ExcusesCached v state h gfn = (LogIsUnwatched h gfn × BeginsClean h) ⊎ FlushesLater (forbidding h) v state gfn
