-- The hand of a line that goes on.
use Rattle.std.specs.Prelude.{Bool, length}
use Rattle.core_views.specs.declared.cache.Translation.{Translation}
use Rattle.core_views.specs.declared.place.Place.{Place}
use Rattle.core_views.specs.Held.{Held, progress_of, state_of}
use Rattle.mmu_core.specs.lines.Delays.{counted, delays_counted, steps_counted}

-- The line stands at this place, uses this translation, and has counted the step, which was a delay or none.
abbrev pub gone : Held → Place → Translation → Bool → Held
gone h q used delay = record h {
  state = state_of (record (progress_of h.state) {
    place = q;
    used = used;
    steps = steps_counted delay (counted h.state.place h.state.steps);
    delays = delays_counted delay (counted h.state.place h.state.delays);
  }) h.lines (length h.answers);
}
