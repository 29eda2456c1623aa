-- How many pool pages a trace needs at most: four, and one for each table that its slots' pages can ask for.
use Rattle.std.specs.Prelude.{◌+◌, ◌*◌, ◌/◌, ◌^◌, ℕ, zero, suc, List, Bool, false, ◌&&◌, nat_le, nat_lt, if◌then◌else◌}
use Rattle.std.specs.List.{list_any}
use Rattle.core_views.specs.declared.trace.Command.{Command}
use Rattle.core_views.specs.declared.trace.Command.TheVariants.{SetSlot}
use Rattle.core_views.specs.declared.trace.Header.{Header}
use Rattle.core_views.specs.declared.trace.Line.{Line}
use Rattle.core_views.specs.declared.trace.Slot.{Slot}

-- The slot counts: it has pages, no more than the machine, and its guest frames lie below 2 ^ 36.
abbrev pub is_counted : ℕ → Slot → Bool
is_counted pages slot = nat_le 1 slot.pages && nat_le slot.pages pages && nat_le (slot.base + slot.pages) (2 ^ 36)

-- Some guest frame of the slot is one of the `span` frames from `index * span` on.
abbrev pub meets : ℕ → ℕ → Slot → Bool
meets span index slot = nat_lt slot.base ((index + 1) * span) && nat_lt (index * span) (slot.base + slot.pages)

-- The line sets a slot that counts, some guest frame of which is among those.
abbrev pub wants : ℕ → ℕ → ℕ → Command → Bool
wants pages span index (SetSlot id slot) = is_counted pages slot && meets span index slot
wants pages span index _ = false

-- how many of the numbers below n pass the test
unfoldable pub count_below : ℕ → (ℕ → Bool) → ℕ
count_below zero test = 0
count_below (suc n) test = count_below n test + (if test n then 1 else 0)

-- how many spans of this many guest frames, of those below 2 ^ 36, some slot line wants
abbrev pub tables_of : ℕ → List Line → ℕ → ℕ
tables_of pages lines span = count_below (2 ^ 36 / span) (λ index. list_any (λ line. wants pages span index line.command) lines)

-- A table of levels 3, 2 and 1 covers 2 ^ 27, 2 ^ 18 and 2 ^ 9 guest frames.
unfoldable pub need : Header → List Line → ℕ
need h lines = 4 + tables_of h.pages lines (2 ^ 27) + tables_of h.pages lines (2 ^ 18) + tables_of h.pages lines (2 ^ 9)
