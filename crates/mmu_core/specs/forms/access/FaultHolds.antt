-- What a fault holds, as its places ask it: of the section, of the look-up, of the check, and of the entry that it has come to; and what a fast one has
-- made of it.
use Rattle.std.specs.Prelude.{◌≡◌, ◌≢◌, ◌<◌, ◌≤◌, ◌⊎◌, ℕ, Bool, true, false, None, is_some}
use Rattle.core_views.specs.declared.place.Cause.{Cause}
use Rattle.core_views.specs.declared.place.Cause.TheVariants.{Entry}
use Rattle.core_views.specs.declared.place.CheckStage.{CheckStage}
use Rattle.core_views.specs.declared.place.CheckStage.TheVariants as stage
use Rattle.core_views.specs.declared.topics.Checked.TheVariants as checked
use Rattle.core_views.specs.declared.topics.Hold.TheVariants.{Loose, Shared}
use Rattle.core_views.specs.declared.topics.Invalidations.{Invalidations}
use Rattle.core_views.specs.declared.topics.Stay.TheVariants.{Section}
use Rattle.core_views.specs.declared.sizes.Sizes.{Sizes}
use Rattle.core_views.specs.declared.topics.TableWalk.{TableWalk}
use Rattle.core_views.specs.declared.topics.Topics.{Topics}
use Rattle.spte_words.specs.declared.spte_kind.SpteKind.TheVariants as entry_kind
use Rattle.spte_words.specs.Entries.{kind_of, with_write, without_write}
use Rattle.spte_words.specs.HostWords.{host_allows_write, host_present}
use Rattle.mmu_core.specs.forms.access.FaultSteps.{allows_access, entry_word}
use Rattle.part_steps.specs.PartTasks.{word_looked}
use Rattle.part_steps.specs.PartHoldings.{FoundSlot, IsFresh, LookedUp, SawEntry, is_fixable, takes_table, one_mark_tells}

-- In a section, with no page, and no mark owed; without the lock, or sharing it.
pub record InSection (t : Topics) : Type 0 where
  pub section : t.stay ≡ Section
  pub owns_none : t.owned ≡ None
  pub owes_none : t.owed ≡ None

pub record WithoutLock (t : Topics) : Type 0 where
  pub inside : InSection t
  pub loose : t.hold ≡ Loose
  pub snapshot : is_some t.invalidations.snapshot ≡ true

-- The look-up allows the access: neither the slot nor the host forbids the write, if it is one. The page is present, or isn't.
pub record LookedFor (present : Bool) (gfn : ℕ) (write : Bool) (t : Topics) : Type 0 where
  pub looked_up : LookedUp gfn t
  pub presence : host_present (word_looked t.host) ≡ present
  pub allowed : write ≡ true → (t.search.slot.read_only ≡ false) × (host_allows_write looked_up.word ≡ true)
  pub snapshot : is_some t.invalidations.snapshot ≡ true

-- It shares the lock, and looked up.
pub record Sharing (gfn : ℕ) (write : Bool) (t : Topics) : Type 0 where
  pub section : t.stay ≡ Section
  pub shares : t.hold ≡ Shared
  pub looked : LookedFor true gfn write t
  pub owes_none : t.owed ≡ None

-- How far the check has come.
abbrev pub CheckKnows : CheckStage → ℕ → Invalidations → Type 0
CheckKnows stage.Count gfn n = Unit {0}
CheckKnows stage.Start gfn n = (n.checked ≡ checked.Count) × (0 < n.count)
CheckKnows stage.End gfn n = (n.checked ≡ checked.Start) × (0 < n.count)
CheckKnows stage.Seq gfn n = ((n.checked ≡ checked.Count) × (n.count ≡ 0)) ⊎ ((n.checked ≡ checked.Range) × ((gfn < n.start) ⊎ (n.end ≤ gfn)))

-- The search has come after the last slot, and the one that it loaded last isn't the guest frame's either.
pub record FoundNone (gfn : ℕ) (t : Topics) : Type 0 where
  pub over : t.search.id ≡ 32
  pub not_found : FoundSlot gfn t → ⊥

-- The check is made: the fault may store entries.
pub record Entering (gfn : ℕ) (write : Bool) (t : Topics) : Type 0 where
  pub sharing : Sharing gfn write t
  pub fresh : IsFresh gfn t.invalidations

-- The guest frame's entry in a table above the lowest level was loaded, and is absent, or a large leaf.
pub record SawUpperEnd (gfn : ℕ) (t : Topics) : Type 0 where
  pub saw : SawEntry gfn t.walk
  pub upper : 2 ≤ t.walk.level
  pub takes : takes_table (kind_of t.walk.level t.walk.entry) ≡ true

-- A leaf that allows the access was seen, or put, at the guest frame.
pub record HasEntry (gfn : ℕ) (write : Bool) (t : Topics) : Type 0 where
  pub saw : SawEntry gfn t.walk
  pub leaf : kind_of t.walk.level t.walk.entry ≡ entry_kind.Leaf
  pub allows : allows_access write t.walk.entry ≡ true

-- The entry is what allowing the write makes of a leaf that forbids nothing but it.
pub record IsFixed (entry : ℕ) : Type 0 where
  pub fixable : is_fixable (without_write entry) ≡ true
  pub set : with_write (without_write entry) ≡ entry

-- The actor holds such an entry, which allows the access, and has a mark to tell of exactly where the slot that it found has a dirty log: then it is of the
-- lowest level. That an exchange was won and the page marked isn't said here.
pub record HasFixed (marked : Bool) (gfn : ℕ) (write : Bool) (t : Topics) : Type 0 where
  pub found : FoundSlot gfn t
  pub entry : HasEntry gfn write t
  pub fixed : IsFixed t.walk.entry
  pub told : one_mark_tells t.walk.level t.search.logged ≡ true
  pub marks : marked ≡ t.search.logged

-- Its exchange was lost: this word is the guest frame's entry, which was read as a leaf that forbids nothing but the write, in a slot with a dirty log or
-- without, and was seen as another number.
pub record IsLost (word read seen : ℕ) (z : Sizes) (gfn : ℕ) (walk : TableWalk) (logged : Bool) : Type 0 where
  pub saw : SawEntry gfn walk
  pub told : one_mark_tells walk.level logged ≡ true
  pub is_entry : word ≡ entry_word z gfn walk
  pub holds : walk.entry ≡ seen
  pub leaf : kind_of walk.level read ≡ entry_kind.Leaf
  pub fixable : is_fixable read ≡ true
  pub differs : read ≢ seen

abbrev pub IsLostFix : Cause → Sizes → ℕ → TableWalk → Bool → Type 0
IsLostFix (Entry word read seen) z gfn walk logged = IsLost word read seen z gfn walk logged
IsLostFix _ z gfn walk logged = ⊥
