-- What a hand holds that a leaf over a run of guest frames needs (mmu.rst, "Large pages").
use Rattle.std.specs.Prelude.{◌≡◌, ◌+◌, ◌%◌, ◌≤◌, ℕ, Bool, false, ◌==◌, ◌&&◌, ◌||◌, nat_le, not}
use Rattle.core_views.specs.declared.topics.Topics.{Topics}
use Rattle.core_views.specs.declared.trace.Slot.{Slot as SlotOf}
use Rattle.spte_words.specs.Entries.{level_span}
use Rattle.spte_words.specs.HostWords.{host_level}
use Rattle.part_steps.specs.PartTasks.{word_looked}
use Rattle.part_steps.specs.SlotWords.{page_of}

-- The slot has all frames of the guest frame's run; and the guest frame is as far from the first of its run as its page is from the first of the page's.
pub record HasRun (level gfn : ℕ) (slot : SlotOf) : Type 0 where
  pub from : slot.base + gfn % level_span level ≤ gfn
  pub to : gfn + level_span level ≤ slot.base + slot.pages + gfn % level_span level
  pub alike : page_of slot gfn % level_span level ≡ gfn % level_span level

-- the same as a test
abbrev pub has_run : ℕ → ℕ → SlotOf → Bool
has_run level gfn slot =
    nat_le (slot.base + gfn % level_span level) gfn
    && (nat_le (gfn + level_span level) (slot.base + slot.pages + gfn % level_span level)
    && page_of slot gfn % level_span level == gfn % level_span level)

-- A leaf of the level may map the guest frame's run, by what the hand holds: it is one of a single page; or else the host maps the pages of the run as one, and
-- the slot that was found has the run whole and no dirty log.
abbrev pub maps_run : ℕ → ℕ → Topics → Bool
maps_run level gfn t = nat_le level 1 || (nat_le level (host_level (word_looked t.host)) && (not t.search.logged && has_run level gfn t.search.slot))

-- A leaf of the walk's level may map the guest frame's run: it is one of a single page; or else the slot that was found has the run whole and no dirty log,
-- and the host maps the pages of the run as one.
pub record MapsRun (gfn : ℕ) (t : Topics) : Type 0 where
  pub most : t.walk.level ≤ 3
  pub run : 2 ≤ t.walk.level → HasRun t.walk.level gfn t.search.slot
  pub large : 2 ≤ t.walk.level → t.walk.level ≤ host_level (word_looked t.host)
  pub no_log : 2 ≤ t.walk.level → t.search.logged ≡ false
