-- The order of a sweep's steps (tdp_mmu.c): from the root on it loads entry after entry over these frames, enters each table that it finds, and changes each
-- leaf in which something is to be done.
use Rattle.std.specs.Prelude.{ℕ, Bool, ◌+◌, ◌-◌, ◌*◌, ◌&&◌, not, nat_le, if◌then◌else◌, None}
use Rattle.core_views.specs.declared.place.FrameRange.{FrameRange}
use Rattle.core_views.specs.declared.topics.Invalidated.{Invalidated}
use Rattle.core_views.specs.declared.topics.TableWalk.{TableWalk}
use Rattle.spte_words.specs.Entries.{without_write}
use Rattle.part_steps.specs.PartTasks.{entry_index}
use Rattle.part_steps.specs.SweepTopics.{gone_up, has_entry, is_done, swept_to}
use Rattle.part_steps.specs.WalkTopics.{gone_down, walked}
use Rattle.mmu_core.specs.declared.sweep.SweepNext.{SweepNext}
use Rattle.mmu_core.specs.declared.sweep.SweepNext.TheVariants.{Over, Leaf, Entry}

-- the guest frames of the actor's own invalidation
abbrev pub range_of : Invalidated → FrameRange
range_of own_ = record { start = own_.start; end = own_.end }

-- the walk after the next entry, which is v; after the leaf was zapped that it has come to; and after writes were forbidden in it
abbrev pub swept_on : ℕ → TableWalk → ℕ → TableWalk
swept_on gfn walk v = walked (gone_up walk) (entry_index gfn (gone_up walk).level) v

abbrev pub zapped_at : ℕ → TableWalk → TableWalk
zapped_at gfn walk = gone_down None walk (entry_index gfn walk.level) 0

abbrev pub protected_at : ℕ → TableWalk → TableWalk
protected_at gfn walk = gone_down None walk (entry_index gfn walk.level) (without_write walk.entry)

-- after an entry
abbrev pub sweep_next : Bool → FrameRange → TableWalk → SweepNext
sweep_next zaps range walk =
    if nat_le range.end (swept_to zaps range.start walk) then Over else
    if has_entry walk && not (is_done zaps walk) then Leaf else
    Entry

-- The most steps that it has left before the next entry: five for each guest frame, an entry of each level and the change of a leaf, less those that led down
-- to its table; and after an entry.
abbrev pub sweep_left : Bool → FrameRange → TableWalk → ℕ
sweep_left zaps range walk =
    if has_entry walk then 5 * (range.end - swept_to zaps range.start walk) else 5 * (range.end - swept_to zaps range.start walk) + walk.level - 4

abbrev pub leaf_left : Bool → FrameRange → TableWalk → ℕ
leaf_left zaps range walk = 5 * (range.end - swept_to zaps range.start walk) - 4

abbrev pub left_after : SweepNext → Bool → FrameRange → TableWalk → ℕ
left_after Over zaps range walk = 0
left_after Leaf zaps range walk = leaf_left zaps range walk
left_after Entry zaps range walk = sweep_left zaps range walk
