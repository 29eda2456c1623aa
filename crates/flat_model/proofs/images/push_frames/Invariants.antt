use Rattle.std.proofs.Common.{◌≡◌, ◌+◌, ◌-◌, ◌++◌}
use Rattle.std.specs.List.{range_with_len}
use Rattle.std.specs.Prelude.{filter}
use Rattle.core_views.specs.Migrations.{frames_in}
use Rattle.flat_model.specs.Copying.{is_either}
use Rattle.flat_model.proofs.images.push_frames.Given as goal

abbrev pub invariant-loop-gfn : goal.invariant-loop-gfn
invariant-loop-gfn l =
    l.frames.items ++ filter (is_either l.dirty l.to_copy) (range_with_len l.gfn (l.entry.1.slot.base + l.entry.1.slot.pages - l.gfn))
    ≡ l.initial.frames.items ++ frames_in (is_either l.dirty l.to_copy) l.entry.1
