-- What a run of the engine wrote is what the program owes, by how it ended.
use Rattle.std.proofs.Common.{◌≡◌, ◌⊎◌, inl, inr, ℕ, List, [], ◌++◌, Result, Ok, Err, ap, refl}
use Rattle.std.specs.declared.option.Option.{Option}
use Rattle.core_views.specs.declared.no_memory.NoMemory.{NoMemory}
use Rattle.core_views.specs.declared.trace.Trace.{Trace}
use Rattle.core_views.specs.Held.{Held}
use Rattle.mmu_core.specs.machine.Machine.{World}
use Rattle.step_seats.specs.Moves.{world_of}
use Rattle.weave_engine.specs.Pieces.{IsPrintedLine, LeavesFew, WritesMost}
use Rattle.weave_engine.specs.Statuses.{status_by, status_how}
use Rattle.turn_loops.specs.Weaves.{unfinished_text}
use Rattle.weave_engine.specs.Writes.{ReplaysBy, WritesReplay}
use Rattle.weave_engine.specs.Woven.{RanFaults, RoseBy, WritesBy, WritesWeave}
use Rattle.weave_engine.specs.declared.ran.How.{How}
use Rattle.weave_engine.specs.declared.ran.How.TheVariants.{Done, Unfinished, WriteFault}
use Rattle.weave_engine.specs.declared.ran.OpenLine.{OpenLine}
use Rattle.weave_engine.specs.declared.ran.Ran.{Ran}
use Rattle.tdpmmu.specs.Output.{IsWrittenLine}
use Rattle.run_status.specs.Refusals.{rounds_limit}
use Rattle.run_status.specs.Statuses.{WriteCause}
use Rattle.tdpmmu.specs.Steps.{WritesOutput}
use Rattle.tdpmmu.specs.declared.command.Command.TheVariants.{Replay, Weave}

-- A line of a replay or a weave is a line of the program.
most_written : (before after : Option (List ℕ)) (text : List ℕ) → WritesMost before after text → LeavesFew IsWrittenLine before after text
most_written before after text L = record {
  earlier = L.earlier;
  last = L.last;
  are = L.are;
  one_line = by L.one_line;
  count = L.count;
  within = L.within;
  written = L.written;
  few = L.few;
}
  where
    by : (L.last ≡ []) ⊎ IsPrintedLine L.last → (L.last ≡ []) ⊎ IsWrittenLine L.last
    by (inl e) = inl e
    by (inr p) = inr (inl p)

weave_by : (trace : Trace) (closing : World Held) (before after : Option (List ℕ)) (how : How) → WritesBy trace rounds_limit closing before after how
    → WritesOutput Weave trace before after (status_how how)
weave_by trace closing before after Done (bytes, all, writes) = (bytes, (closing, all), writes)
weave_by trace closing before after WriteFault (text, so_far, most) = (text, (closing, so_far), most_written before after text most)
weave_by trace closing before after (Unfinished actor number) (line, is, (bytes, part, writes)) =
    (bytes ++ unfinished_text line, (closing, bytes, line, part, ap (λ (x : OpenLine). x.actor) is, ap (λ (x : OpenLine). x.number) is, refl), writes)

pub weave_writes : (trace : Trace) (before after : Option (List ℕ)) (ran : Result Ran NoMemory) → WritesWeave trace rounds_limit before after ran
    → WritesOutput Weave trace before after (status_by ran)
weave_writes trace before after (Ok ran) writes = weave_by trace (world_of ran.closing.words ran.closing.hands) before after ran.how writes
weave_writes trace before after (Err e) (closing, (text, so_far, most)) = (text, (closing, so_far), most_written before after text most)

replay_by : (trace : Trace) (closing : World Held) (before after : Option (List ℕ)) (how : How) → ReplaysBy trace closing before after how
    → WritesOutput Replay trace before after (status_how how)
replay_by trace closing before after Done (bytes, all, writes) = (bytes, (closing, all), writes)
replay_by trace closing before after WriteFault (bytes, so_far, most) = (bytes, (closing, so_far), most_written before after bytes most)
replay_by trace closing before after (Unfinished actor number) writes = absurd writes

pub replay_writes : (trace : Trace) (before after : Option (List ℕ)) (ran : Result Ran NoMemory) → WritesReplay trace before after ran
    → WritesOutput Replay trace before after (status_by ran)
replay_writes trace before after (Ok ran) writes = replay_by trace (world_of ran.closing.words ran.closing.hands) before after ran.how writes
replay_writes trace before after (Err e) (closing, (bytes, so_far, most)) = (bytes, (closing, so_far), most_written before after bytes most)

rose_by : (before now : ℕ) (how : How) → RoseBy before now how → WriteCause before now (status_how how)
rose_by before now Done same = same
rose_by before now WriteFault rose = rose
rose_by before now (Unfinished actor line) same = same

pub ran_rose : (before now : ℕ) (ran : Result Ran NoMemory) → RanFaults before now ran → WriteCause before now (status_by ran)
ran_rose before now (Ok ran) rose = rose_by before now ran.how rose
ran_rose before now (Err e) same = same
