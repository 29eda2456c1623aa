-- What a live run wrote is what the program owes.
use Rattle.std.proofs.Common.{inl, inr, ℕ, List, [], Result, Ok, Err, arith, length, refl, subst, sym, take}
use Rattle.std.proofs.KnownBytes.{Appends-nil}
use Rattle.std.proofs.Math.Seq.{take-length}
use Rattle.std.proofs.lemmas.List.{append-nil}
use Rattle.std.specs.declared.option.Option.{Option}
use Rattle.std.specs.Io.KnownBytes.{Appends}
use Rattle.core_views.specs.declared.trace.Trace.{Trace}
use Rattle.core_views.specs.Held.{Held}
use Rattle.live_engine.specs.Lives.{LivesAll}
use Rattle.mmu_core.specs.machine.Machine.{World}
use Rattle.run_status.specs.Statuses.{status_ended}
use Rattle.tdp_io.specs.Ends.{Wrote}
use Rattle.tdp_io.specs.declared.sink.Stop.{Stop}
use Rattle.tdp_io.specs.declared.sink.Stop.TheVariants.{Failed, NoMemory as Full}
use Rattle.tdpmmu.specs.Output.{IsWrittenLine}
use Rattle.tdpmmu.specs.Steps.{WritesLive, WritesOutput}
use Rattle.tdpmmu.specs.declared.command.Command.TheVariants.{Live}
use Rattle.weave_engine.specs.Pieces.{LeavesFew}

-- A text that was written whole.
whole : (before after : Option (List ℕ)) (text : List ℕ) → Appends before after text → LeavesFew IsWrittenLine before after text
whole before after text writes = record {
  earlier = text;
  last = [];
  are = sym (append-nil text);
  one_line = inl refl;
  count = length text;
  within = omega arith;
  written = subst (Appends before after) (sym (take-length text)) writes;
  few = omega arith;
}

-- Nothing was written.
pub nothing_lived : (trace : Trace) (before : Option (List ℕ)) → WritesLive trace before before (Err Full)
nothing_lived trace before = ([], inl refl, whole before before [] (Appends-nil before))

-- All was to be written.
pub lived : (trace : Trace) (closing : World Held) (before after : Option (List ℕ)) (r : Result (Unit {0}) Stop) (all : List ℕ) → LivesAll trace all closing
    → Wrote before after r all → WritesLive trace before after r
lived trace closing before after (Ok u) all lives writes = (all, (closing, lives), writes)
lived trace closing before after (Err Failed) all lives (n, le, writes) =
    (take n all, (closing, all, lives, n, refl), whole before after (take n all) writes)
lived trace closing before after (Err Full) all lives (n, le, writes) =
    (take n all, inr (closing, all, lives, n, refl), whole before after (take n all) writes)

pub live_writes : (trace : Trace) (before after : Option (List ℕ)) (r : Result (Unit {0}) Stop) → WritesLive trace before after r
    → WritesOutput Live trace before after (status_ended r)
live_writes trace before after (Ok u) writes = writes
live_writes trace before after (Err Failed) writes = writes
live_writes trace before after (Err Full) writes = writes
