-- A sweep over the tables for guest frames (tdp_mmu.c): those of an actor's own invalidation, of which leaves are zapped (kvm_tdp_mmu_unmap_gfn_range), or
-- those of a slot whose dirty log begins, of which leaves are to forbid writes (kvm_tdp_mmu_wrprot_slot). It is one pass in rising order, in which each entry
-- over one of them is loaded once, and each table entered where its link is met. How far it has come follows from what its walk has loaded last.
use Rattle.std.specs.Prelude.{ℕ, Bool, true, false, ◌+◌, ◌*◌, ◌/◌, ◌%◌, ◌==◌, ◌&&◌, ◌||◌, not, nat_le, nat_lt, is_some, if◌then◌else◌}
use Rattle.core_views.specs.declared.topics.TableWalk.{TableWalk}
use Rattle.core_views.specs.declared.topics.Topics.{Topics}
use Rattle.spte_words.specs.declared.spte_kind.SpteKind.{SpteKind}
use Rattle.spte_words.specs.declared.spte_kind.SpteKind.TheVariants.{Absent, Frozen, Leaf, Table}
use Rattle.spte_words.specs.Entries.{can_write, kind_of, level_span}
use Rattle.part_steps.specs.StayTopics.{is_alone, is_outside}

-- The actor has the lock alone, outside of every section, and its own invalidation is open, or it has the page still of a slot set in whose place it has
-- published another: it sweeps.
abbrev pub is_sweeping : Topics → Bool
is_sweeping t = is_outside t.stay && (is_alone t.hold && (t.invalidations.opened || is_some t.retired))

-- The walk that has come to the last entry of its table goes on in the table above, at the entry that links to its own.
abbrev pub gone_up_once : TableWalk → TableWalk
gone_up_once walk = record walk {
  level = if (walk.index == 511) && nat_lt walk.level 4 then walk.level + 1 else walk.level;
  prefix = if (walk.index == 511) && nat_lt walk.level 4 then walk.prefix / 512 else walk.prefix;
  index = if (walk.index == 511) && nat_lt walk.level 4 then walk.prefix % 512 else walk.index;
}

-- It does so until it has come to a table with an entry left.
abbrev pub gone_up : TableWalk → TableWalk
gone_up walk = gone_up_once (gone_up_once (gone_up_once walk))

-- An entry was loaded in the table that the walk has come to.
abbrev pub has_entry : TableWalk → Bool
has_entry walk = nat_lt walk.index 512

-- The actor has the lock alone, outside of every section, sweeps nothing, and has loaded an entry that leads no further: its walk begins anew at its root.
abbrev pub walks_anew : Topics → Bool
walks_anew t = is_outside t.stay && (is_alone t.hold && (not (t.invalidations.opened || is_some t.retired) && has_entry t.walk))

-- the walk, as it stands at its root
abbrev pub at_top : TableWalk → TableWalk
at_top walk = record walk { level = 4; prefix = 0; index = 512 }

-- the walk from which the next entry is loaded
abbrev pub walk_on : Topics → TableWalk
walk_on t = if is_sweeping t then gone_up t.walk else if walks_anew t then at_top t.walk else t.walk

-- A sweep that zaps leaves, or forbids writes in them, has nothing to do at an entry of this kind, which allows writes or doesn't: it is no link, and no such
-- leaf.
abbrev pub has_done : Bool → Bool → SpteKind → Bool
has_done zaps writes (Table page) = false
has_done zaps writes Leaf = not (zaps || writes)
has_done zaps writes Absent = true
has_done zaps writes Frozen = true

-- There is nothing to do at the entry that was loaded last.
abbrev pub is_done : Bool → TableWalk → Bool
is_done zaps walk = has_done zaps (can_write walk.entry) (kind_of walk.level walk.entry)

-- None was loaded of the table yet, or there is nothing to do at the one that was.
abbrev pub is_clear : Bool → TableWalk → Bool
is_clear zaps walk = not (has_entry walk) || is_done zaps walk

-- the first guest frame of the entry that was loaded last, or of the table where none was; and the one after the entry
abbrev pub entry_start : TableWalk → ℕ
entry_start walk = (walk.prefix * 512 + (if has_entry walk then walk.index else 0)) * level_span walk.level

abbrev pub entry_end : TableWalk → ℕ
entry_end walk = (walk.prefix * 512 + walk.index + 1) * level_span walk.level

-- how far a sweep from this guest frame on has come: over the entry that it has loaded last, where there is nothing to do at it
abbrev pub swept_to : Bool → ℕ → TableWalk → ℕ
swept_to zaps from walk =
    if has_entry walk && is_done zaps walk then entry_end walk else if nat_le from (entry_start walk) then entry_start walk else from
