use Rattle.std.proofs.Common.{◌≡◌, take}
use Rattle.core_views.specs.Whole.{lines_of}
use Rattle.machine_start.proofs.start.lines_of.Given as goal

-- The actor's lines before this one are there.
abbrev pub invariant-loop-line : goal.invariant-loop-line
invariant-loop-line l = l.own.items ≡ lines_of l.actor (take l.line-index l.lines)
