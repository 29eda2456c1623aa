-- How many steps a line makes at most between its delays, in the numbers of the machine.
use Rattle.std.specs.Prelude.{◌+◌, ◌*◌, ◌^◌, ◌≤◌, ℕ, Bool, true, false, not, if◌then◌else◌}
use Rattle.core_views.specs.declared.sizes.Sizes.{Sizes}
use Rattle.core_views.specs.declared.trace.Command.{Command}
use Rattle.core_views.specs.declared.trace.Command.TheVariants.{Access, ChangeHost, ChangeRun, SetLog}
use Rattle.mmu_core.specs.lines.Bounds.{most_steps}

-- The command is of one page, or ends a dirty log.
abbrev pub is_short : Command → Bool
is_short (Access gfn word op) = true
is_short (ChangeHost page change) = true
is_short (SetLog id on) = not on
is_short _ = false

-- the bound of such a command, and that of each other one, which may go through a slot's pages, and through the tables over them
abbrev pub short_bound : Sizes → ℕ
short_bound z = 8192 + z.pool + z.frames

abbrev pub long_bound : Sizes → ℕ
long_bound z = 16 * (512 * z.pool + (z.words + 8) * z.pages + z.frames + 4096)

-- the bound of one that changes a run of host pages: four for each page of the largest run, and five for each guest frame, since slots may give the run to any
abbrev pub run_bound : ℕ
run_bound = 4 * 262144 + 5 * 2 ^ 36

abbrev pub command_bound : Sizes → Command → ℕ
command_bound z (ChangeRun page change) = run_bound
command_bound z command = if is_short command then short_bound z else long_bound z

-- What a command allows is within its bound.
abbrev pub FewSteps : Type 0
FewSteps = (z : Sizes) (command : Command) → most_steps z command ≤ command_bound z command
