use Rattle.std.proofs.Common.{◌≡◌, ◌&&◌, ◌||◌, nat_le, nat_lt, ℕ}
use Rattle.flat_model.specs.Dirty.{is_dirty}
use Rattle.flat_model.proofs.dirty_frames.insert_range.Given as goal

abbrev pub invariant-loop-gfn : goal.invariant-loop-gfn
invariant-loop-gfn l = (other : ℕ) → is_dirty l.frames.keys other ≡ ((nat_le l.first other && nat_lt other l.gfn) || is_dirty l.initial.frames.keys other)
