-- Ranges of guest frames, and the tables that they need.
use Rattle.std.specs.Prelude.{◌+◌, ◌*◌, ◌^◌, ◌<◌, ◌≤◌, ℕ, List, All, Bool, ◌&&◌, nat_lt}
use Rattle.std.specs.List.{list_any}
use Rattle.std.specs.List.Sorted.{IsNonDecreasingBy}
use Rattle.trace_reader.specs.declared.pool.FrameRange.{FrameRange}

-- Some frame of the range is one of the `span` frames from `index * span` on.
abbrev pub range_covers : ℕ → ℕ → FrameRange → Bool
range_covers span index range = nat_lt range.base ((index + 1) * span) && nat_lt (index * span) range.end

-- Some range range_covers that table.
abbrev pub any_covers : ℕ → List FrameRange → ℕ → Bool
any_covers span ranges index = list_any (range_covers span index) ranges

-- The range has a frame, and its frames are guest frames.
abbrev pub IsFrameRange : FrameRange → Type 0
IsFrameRange range = (range.base < range.end) × (range.end ≤ 2 ^ 36)

-- Ranges in the order of their first frames.
abbrev pub AreRising : List FrameRange → Type 0
AreRising ranges = IsNonDecreasingBy (λ range. range.base) ranges

-- All frames of the ranges are below this number.
abbrev pub EndBy : ℕ → List FrameRange → Type 0
EndBy bound ranges = All (λ range. range.end ≤ bound) ranges
