-- Which frames are free: those that no host page names.
use Rattle.std.specs.Prelude.{◌||◌, ℕ, List, Bool, nat_le}
use Rattle.std.specs.List.{list_any}
use Rattle.std.specs.Ordering.{nat_cmp}
use Rattle.std.specs.BTreeMap.{is_at}

-- the free frames below the first that no page has named yet, by rising number; and that first one
pub record Frames : Type 0 where
  pub given_up : List ℕ
  pub unused : ℕ

-- The frame was given up, or no page has named it yet.
abbrev pub is_spare : Frames → ℕ → Bool
is_spare frames frame = list_any (is_at (nat_cmp frame)) frames.given_up || nat_le frames.unused frame
