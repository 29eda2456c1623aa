-- What a hand holds that a step of a part needs: of pages, of the walk, of the look-up and of the invalidations.
use Rattle.std.specs.Prelude.{◌≡◌, ◌≢◌, ◌+◌, ◌-◌, ◌/◌, ◌^◌, ◌<◌, ◌≤◌, ◌⊎◌, ℕ, Bool, true, false, ◌==◌, ◌&&◌, ◌||◌, not, if◌then◌else◌, Some, None, is_some}
use Rattle.core_views.specs.declared.topics.Checked.TheVariants as checked
use Rattle.core_views.specs.declared.topics.Hold.TheVariants.{Loose, Shared}
use Rattle.core_views.specs.declared.topics.Invalidations.{Invalidations}
use Rattle.core_views.specs.declared.topics.Stay.TheVariants.{Section}
use Rattle.core_views.specs.declared.topics.TableWalk.{TableWalk}
use Rattle.core_views.specs.declared.topics.Topics.{Topics}
use Rattle.core_views.specs.Slots.{contains}
use Rattle.spte_words.specs.declared.spte_kind.SpteKind.{SpteKind}
use Rattle.spte_words.specs.declared.spte_kind.SpteKind.TheVariants.{Absent, Leaf}
use Rattle.spte_words.specs.Entries.{can_write, host_writable, kind_of, level_span, mmu_writable, table_word}
use Rattle.spte_words.specs.HostWords.{host_present}
use Rattle.part_steps.specs.SlotWords.{page_of}
pub use Rattle.part_steps.specs.RunHoldings.{MapsRun}
use Rattle.part_steps.specs.PartTasks.{entry_index, number_or_none, words_filled, is_below, role_filled, word_looked}

-- the actor whose state word comes next, where those before this place were looked at: each but the own
abbrev pub next_watched : ℕ → ℕ → ℕ
next_watched own_ seen = if seen == own_ then seen + 1 else seen

abbrev pub OwnsPage : Topics → Type 0
OwnsPage t = is_some t.owned ≡ true

-- A page is owned, and not all of its words are filled.
abbrev pub HasToFill : Topics → Type 0
HasToFill t = OwnsPage t × (words_filled t.owned < 512)

-- All words of the page that is owned are filled, and its role comes next.
abbrev pub HasRoleToSet : Topics → Type 0
HasRoleToSet t = words_filled t.owned ≡ 512

abbrev pub HoldsSet : Topics → Type 0
HoldsSet t = is_some t.search.set ≡ true

-- The walk has come to a table, and this table has the guest frame's entry of its level.
pub record IsOver (gfn : ℕ) (walk : TableWalk) : Type 0 where
  pub small : gfn < 2 ^ 36
  pub there : 1 ≤ walk.level
  pub span : gfn / level_span walk.level / 512 ≡ walk.prefix

-- The guest frame's entry in the walk's table was loaded.
pub record SawEntry (gfn : ℕ) (walk : TableWalk) : Type 0 where
  pub over : IsOver gfn walk
  pub loaded : walk.index ≡ entry_index gfn walk.level

-- The page that is owned is filled whole, as a table that may be linked in place of the entry that the walk has loaded: its entries are the children of a large
-- leaf, or absent, and its role is a level lower.
pub record OwnsTable (t : Topics) : Type 0 where
  pub whole : words_filled t.owned ≡ 513
  pub below : is_below t.walk t.owned ≡ true
  pub role : role_filled t.owned ≡ t.walk.level - 1

-- A slot with the guest frame was loaded whole.
pub record FoundSlot (gfn : ℕ) (t : Topics) : Type 0 where
  pub whole : t.search.whole ≡ true
  pub holds : contains gfn t.search.slot ≡ true

-- And the host word of the page behind the guest frame.
pub record LookedUp (gfn : ℕ) (t : Topics) : Type 0 where
  pub found : FoundSlot gfn t
  pub word : ℕ
  pub host : t.host ≡ Some (record { page = page_of t.search.slot gfn; word = word })

-- A host page that was looked at in a section, and isn't present, may be brought in.
pub record MayBring (t : Topics) : Type 0 where
  pub section : t.stay ≡ Section
  pub looked : is_some t.host ≡ true
  pub absent : host_present (word_looked t.host) ≡ false

-- The look-up is checked under the lock: its snapshot is the sequence number still, and no invalidation is open over the guest frame
-- (locking.rst, mmu_invalidate_retry_gfn).
pub record IsFresh (gfn : ℕ) (n : Invalidations) : Type 0 where
  pub checked_all : n.checked ≡ checked.All
  pub still : n.snapshot ≡ Some n.seq
  pub none_over : (n.count ≡ 0) ⊎ (gfn < n.start) ⊎ (n.end ≤ gfn)

-- A fault may store an entry of the guest frame's: it shares the lock, in a section, with a fresh look-up of a page that is present, and saw the entry.
pub record MayEnter (gfn : ℕ) (t : Topics) : Type 0 where
  pub shares : t.hold ≡ Shared
  pub section : t.stay ≡ Section
  pub fresh : IsFresh gfn t.invalidations
  pub looked_up : LookedUp gfn t
  pub present : host_present (word_looked t.host) ≡ true
  pub saw : SawEntry gfn t.walk
  pub owes_none : t.owed ≡ None

-- A table may be linked in place of an entry of this kind: one that is absent, or a leaf.
abbrev pub takes_table : SpteKind → Bool
takes_table Absent = true
takes_table Leaf = true
takes_table _ = false

-- A page that was filled as a table may be linked (tdp_mmu.c, kvm_tdp_mmu_map, tdp_mmu_split_huge_page): in a section, sharing the lock, the entry of the guest
-- frame was seen above the lowest level. It is absent, and a fault may store there; or it is a large leaf, which a table of its children takes the place of.
pub record MayLink (gfn : ℕ) (t : Topics) : Type 0 where
  pub shares : t.hold ≡ Shared
  pub section : t.stay ≡ Section
  pub saw : SawEntry gfn t.walk
  pub owes_none : t.owed ≡ None
  pub upper : 2 ≤ t.walk.level
  pub takes : takes_table (kind_of t.walk.level t.walk.entry) ≡ true
  pub enters : kind_of t.walk.level t.walk.entry ≡ Absent → MayEnter gfn t

-- The entry that was loaded isn't a leaf that allows writes.
abbrev pub SawNoWrites : TableWalk → Type 0
SawNoWrites walk = kind_of walk.level walk.entry ≡ Leaf → can_write walk.entry ≡ false

-- The word is no link, as an entry of the level.
abbrev pub IsEnd : ℕ → ℕ → Type 0
IsEnd level w = (page : ℕ) → 2 ≤ level → w ≢ table_word page

-- The leaf forbids writes, which slot and host allow (locking.rst, "Fast page fault").
abbrev pub is_fixable : ℕ → Bool
is_fixable w = not (can_write w) && (host_writable w && mmu_writable w)

-- One mark in the dirty log tells all that a leaf of the level allows to write: it is of the lowest level, or its slot has no log.
abbrev pub one_mark_tells : ℕ → Bool → Bool
one_mark_tells level logged = (level == 1) || not logged

-- A fast fault may allow writes in the guest frame's leaf: in a section, without the lock, it found the slot, and saw that the leaf forbids them alone; and it
-- isn't a large one in a slot with a dirty log.
pub record MayFix (gfn : ℕ) (t : Topics) : Type 0 where
  pub section : t.stay ≡ Section
  pub loose : t.hold ≡ Loose
  pub found : FoundSlot gfn t
  pub saw : SawEntry gfn t.walk
  pub told : one_mark_tells t.walk.level t.search.logged ≡ true
  pub leaf : kind_of t.walk.level t.walk.entry ≡ Leaf
  pub fixable : is_fixable t.walk.entry ≡ true
  pub owes_none : t.owed ≡ None

-- A mark is owed for a guest frame of the slot that was found, in a section.
pub record MayMark (t : Topics) : Type 0 where
  pub section : t.stay ≡ Section
  pub owes : is_some t.owed ≡ true
  pub found : FoundSlot (number_or_none t.owed) t
