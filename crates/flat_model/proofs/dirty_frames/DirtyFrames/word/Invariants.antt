use Rattle.std.proofs.Common.{◌≡◌, ◌+◌, ◌-◌}
use Rattle.core_views.specs.LogCommands.{number_of}
use Rattle.flat_model.specs.Dirty.{is_bit_set, is_dirty}
use Rattle.flat_model.proofs.dirty_frames.DirtyFrames.word.Given as goal

abbrev pub invariant-loop-done : goal.invariant-loop-done
invariant-loop-done l = l.number ≡ number_of l.done (λ bit. is_bit_set (is_dirty l.self) l.command l.slot (l.first + (64 - l.done + bit)))
