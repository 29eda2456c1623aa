-- What a printer of steps has written, and what is still to come.
use Rattle.std.specs.Prelude.{◌≡◌, ℕ, List, [], ◌++◌, Bool, true, false, Option, Err}
use Rattle.std.specs.Io.KnownBytes.{Appends}
use Rattle.core_views.specs.Sizes.{AreSizes}
use Rattle.tdp_io.specs.Ends.{AppendsPrefix, WroteFaults, is_failed}
use Rattle.tdp_io.specs.declared.sink.Stop.{Stop}
use Rattle.weave_engine.specs.AnswerTexts.{ends_over}
use Rattle.turn_loops.specs.Marks.{Mark}
use Rattle.step_printing.specs.Coming.{coming_text}
use Rattle.step_printing.specs.declared.lines.Lines.{Lines}

-- what is known of a printer: what its sink was given, whether and how often writing failed; the text that waits, and how far the lines
-- have come
pub record Printed : Type 0 where
  pub given : Option (List ℕ)
  pub faults : ℕ
  pub failed : Bool
  pub waits : List ℕ
  pub lines : Lines

abbrev pub printed_by : Option (List ℕ) → ℕ → Bool → List ℕ → Lines → Printed
printed_by given faults failed waits lines = record { given = given; faults = faults; failed = failed; waits = waits; lines = lines }

-- It may print more.
pub record MayPrint (p : Printed) : Type 0 where
  pub sizes : AreSizes p.lines.sizes
  pub unfailed : p.failed ≡ false

-- These marks were printed from the first to the second: what was written, what waits and what is to come is the same with them before and
-- without them after, whatever marks follow. Nothing waits at the end of the run.
pub record PutsSteps (p : Printed) (marks : List Mark) (q : Printed) : Type 0 where
  pub written : List ℕ
  pub appends : Appends p.given q.given written
  pub whole : (more : List Mark)
      → written ++ (q.waits ++ coming_text q.lines more) ≡ p.waits ++ coming_text p.lines (marks ++ more)
  pub at_end : ends_over marks ≡ true → q.waits ++ coming_text q.lines [] ≡ []
  pub may : MayPrint q
  pub faults : q.faults ≡ p.faults

-- It stopped for this as it printed these marks: a prefix of what waited and of the text to come was written, whatever marks would have followed.
pub record StopsSteps (p : Printed) (marks : List Mark) (stop : Stop) (q : Printed) : Type 0 where
  pub written : (more : List Mark) → AppendsPrefix p.given q.given (p.waits ++ coming_text p.lines (marks ++ more))
  pub faults : WroteFaults {A = Unit {0}} p.faults q.faults (Err stop)
  pub failed : q.failed ≡ is_failed {A = Unit {0}} (Err stop)
