-- The status of a run of the engine, by how it ended.
use Rattle.std.specs.Prelude.{Result, Ok, Err}
use Rattle.core_views.specs.declared.no_memory.NoMemory.{NoMemory as Refusal}
use Rattle.run_status.specs.declared.status.Status.{Status}
use Rattle.run_status.specs.declared.status.Status.TheVariants.{Done, WriteFault, Unfinished, NoMemory}
use Rattle.weave_engine.specs.declared.ran.How.{How}
use Rattle.weave_engine.specs.declared.ran.How.TheVariants as how
use Rattle.weave_engine.specs.declared.ran.Ran.{Ran}

abbrev pub status_how : How → Status
status_how how.Done = Done
status_how how.WriteFault = WriteFault
status_how (how.Unfinished actor line) = Unfinished actor line

abbrev pub status_by : Result Ran Refusal → Status
status_by (Ok ran) = status_how ran.how
status_by (Err e) = NoMemory
