-- The hand after a step of a line.
use Rattle.std.proofs.Common.{ℕ}
use Rattle.circular_buffer.specs.Buffer.{Buffer}
use Rattle.core_views.specs.declared.cache.Translation.{Translation}
use Rattle.core_views.specs.declared.place.Place.{Place}
use Rattle.core_views.specs.declared.topics.Topics.{Topics}
use Rattle.core_views.specs.declared.trace.Command.{Command}
use Rattle.core_views.specs.declared.trace.Line.{Line}
use Rattle.core_views.specs.Held.{Held}
use Rattle.mmu_core.specs.lines.Forms.{outcome_at, reads_at, records_at}
use Rattle.mmu_core.specs.machine.Steps.{state_at}
use Rattle.mmu_core.specs.machine.Outcomes.{answers_after, place_after}

-- the hand after a step of this line, that holds these topics and has this cached
abbrev pub hand_with : Line → Command → Place → Held → Topics → Buffer Translation → ℕ → Held
hand_with line command p h t cached v = record {
  state = record (state_at p command h v) { line = line; place = place_after (outcome_at p command h v) };
  topics = t;
  cached = cached;
  slots = records_at p command h.slots;
  harvest = reads_at p command h v;
  lines = h.lines;
  answers = answers_after (outcome_at p command h v) line h.answers;
}
