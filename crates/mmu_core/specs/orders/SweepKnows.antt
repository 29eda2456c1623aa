-- What a sweep knows where it stands, from its walk alone.
use Rattle.std.specs.Prelude.{◌≡◌, ◌<◌, ◌≤◌, ◌%◌, Bool, true, false, ◌==◌, ◌||◌}
use Rattle.core_views.specs.declared.place.FrameRange.{FrameRange}
use Rattle.core_views.specs.declared.topics.TableWalk.{TableWalk}
use Rattle.spte_words.specs.declared.spte_kind.SpteKind.TheVariants as entry_kind
use Rattle.spte_words.specs.Entries.{kind_of, level_span}
use Rattle.part_steps.specs.PartHoldings.{IsOver, SawEntry}
use Rattle.part_steps.specs.SweepTopics.{gone_up, is_clear, is_done, swept_to}
use Rattle.mmu_core.specs.declared.sweep.SweepNext.{SweepNext}
use Rattle.mmu_core.specs.declared.sweep.SweepNext.TheVariants.{Over, Leaf, Entry}

-- The guest frame to which it has come is the first of all, or the first of the entry that is next.
abbrev pub begins_entry : Bool → FrameRange → TableWalk → Bool
begins_entry zaps range walk =
    (swept_to zaps range.start walk == range.start) || (swept_to zaps range.start walk % level_span (gone_up walk).level == 0)

-- It stands where the next entry is over the guest frame to which it has come, and has left out none.
pub record SweepsOn (zaps : Bool) (range : FrameRange) (walk : TableWalk) : Type 0 where
  pub there : 1 ≤ walk.level
  pub low : walk.level ≤ 4
  pub from : range.start ≤ swept_to zaps range.start walk
  pub even : begins_entry zaps range walk ≡ true
  pub over : swept_to zaps range.start walk < range.end → IsOver (swept_to zaps range.start walk) (gone_up walk)

-- It stands at a leaf over this guest frame, which is to be changed.
pub record IsAtLeaf (zaps : Bool) (range : FrameRange) (walk : TableWalk) : Type 0 where
  pub from : range.start ≤ swept_to zaps range.start walk
  pub left : swept_to zaps range.start walk < range.end
  pub saw : SawEntry (swept_to zaps range.start walk) walk
  pub leaf : kind_of walk.level walk.entry ≡ entry_kind.Leaf
  pub to_do : is_done zaps walk ≡ false

-- It is to load the next entry.
pub record IsAtEntry (zaps : Bool) (range : FrameRange) (walk : TableWalk) : Type 0 where
  pub on : SweepsOn zaps range walk
  pub clear : is_clear zaps walk ≡ true
  pub left : swept_to zaps range.start walk < range.end

-- It has come to the end of its frames, with nothing left to do at the last entry.
pub record IsAtEnd (zaps : Bool) (range : FrameRange) (walk : TableWalk) : Type 0 where
  pub there : 1 ≤ walk.level
  pub all : range.end ≤ swept_to zaps range.start walk
  pub clear : is_clear zaps walk ≡ true

abbrev pub SweepKnows : SweepNext → Bool → FrameRange → TableWalk → Type 0
SweepKnows Over zaps range walk = IsAtEnd zaps range walk
SweepKnows Leaf zaps range walk = IsAtLeaf zaps range walk
SweepKnows Entry zaps range walk = IsAtEntry zaps range walk
