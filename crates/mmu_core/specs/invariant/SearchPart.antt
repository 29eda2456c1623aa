-- What an actor has loaded of a slot set, of the host and of the invalidations.
use Rattle.std.specs.Prelude.{◌≡◌, ◌-◌, ◌<◌, ◌≤◌, ℕ, true, false, Some}
use Rattle.core_views.specs.declared.place.SlotField.{SlotField}
use Rattle.core_views.specs.declared.place.SlotField.TheVariants.{Base, Pages, Host, Flags}
use Rattle.core_views.specs.declared.sizes.Sizes.{Sizes}
use Rattle.core_views.specs.declared.topics.HostLook.{HostLook}
use Rattle.core_views.specs.declared.topics.Invalidated.{Invalidated}
use Rattle.core_views.specs.declared.topics.SlotSearch.{SlotSearch}
use Rattle.core_views.specs.declared.topics.Topics.{Topics}
use Rattle.core_views.specs.declared.trace.Slot.{Slot as SlotOf}
use Rattle.core_views.specs.Slots.{contains}
use Rattle.spte_words.specs.Flags.{flags_logged}
use Rattle.part_steps.specs.PageRuns.{IsOnRun}
use Rattle.part_steps.specs.SlotWords.{live_at, slot_at, slot_index}
use Rattle.mmu_core.specs.invariant.HostWordsPart.{IsHostWord, IsStill}
use Rattle.mmu_core.specs.invariant.InvalidatedPart.{IsIn}
use Rattle.mmu_core.specs.invariant.SlotSetPart.{IsLiveIn}

-- The slot under search is live, and its flags were loaded as the words of its slot set hold them.
abbrev pub HasFlags : (ℕ → ℕ) → ℕ → SlotSearch → Type 0
HasFlags pool set so_far =
    (live_at pool set so_far.id ≡ true) × (so_far.slot.read_only ≡ (slot_at pool set so_far.id).read_only)
    × (so_far.logged ≡ flags_logged (pool (slot_index set so_far.id Flags)))

-- What was loaded of the slot under search, up to the word that is next, is what the words of its slot set hold.
abbrev pub HasLoaded : SlotField → (ℕ → ℕ) → ℕ → SlotSearch → Type 0
HasLoaded Flags pool set so_far = Unit {0}
HasLoaded Base pool set so_far = HasFlags pool set so_far
HasLoaded Pages pool set so_far = HasFlags pool set so_far × (so_far.slot.base ≡ (slot_at pool set so_far.id).base)
HasLoaded Host pool set so_far =
    HasFlags pool set so_far × (so_far.slot.base ≡ (slot_at pool set so_far.id).base) × (so_far.slot.pages ≡ (slot_at pool set so_far.id).pages)

-- A word of a slot after its flags is next only of one of the IDs.
abbrev pub IsOnList : SlotField → ℕ → Type 0
IsOnList Flags id = Unit {0}
IsOnList _ id = id ≤ 31

-- What was loaded of the slot under search stands in the slot set that is held; the slot that was loaded whole is live there, with the
-- ID before the next one, whose flags are next, and has a dirty log where its flags say so.
pub record SearchPart (pool : ℕ → ℕ) (s : SlotSearch) : Type 0 where
  pub listed : IsOnList s.next s.id
  pub loaded : (k : ℕ) → s.set ≡ Some k → HasLoaded s.next pool k s
  pub whole : (k : ℕ) → s.set ≡ Some k → s.whole ≡ true → (1 ≤ s.id) × IsLiveIn pool k (s.id - 1) s.slot
  pub held : s.whole ≡ true → (k : ℕ) × (s.set ≡ Some k)
  pub before_flags : s.whole ≡ true → s.next ≡ Flags
  pub flags : (k : ℕ) → s.set ≡ Some k → s.whole ≡ true → s.logged ≡ flags_logged (pool (slot_index k (s.id - 1) Flags))

-- The actor's own invalidation is open, is of what is meant, and hasn't raised the sequence number yet.
pub record IsInvalidating (IsOf : Invalidated → Type 0) (t : Topics) : Type 0 where
  pub opened : t.invalidations.opened ≡ true
  pub unraised : t.invalidations.raised ≡ false
  pub of_it : IsOf t.invalidations.own

-- An invalidation is on the host page; or on the guest frame.
abbrev pub IsOnPage : ℕ → Invalidated → Type 0
IsOnPage page own_ = IsOnRun page own_.pages

abbrev pub IsOnFrame : ℕ → Invalidated → Type 0
IsOnFrame gfn own_ = IsIn own_ gfn

-- What was looked up of a host page is a host word; it is the page's own still as long as the sequence number is that of the snapshot, and no
-- invalidation of the page is open that hasn't raised it. The snapshot isn't ahead of the number.
pub record LookPart (z : Sizes) (n seq : ℕ) (host : ℕ → ℕ) (topics : ℕ → Topics) (t : Topics) : Type 0 where
  pub there : (look : HostLook) → t.host ≡ Some look → look.page < z.pages
  pub is_word : (look : HostLook) → t.host ≡ Some look → IsHostWord z.frames look.word
  pub still : (look : HostLook) (s : ℕ) → t.host ≡ Some look → t.invalidations.snapshot ≡ Some s → s ≡ seq
      → ((j : ℕ) → j < n → IsInvalidating (IsOnPage look.page) (topics j) → ⊥) → IsStill look.word (host look.page)
  pub snapshot : (s : ℕ) → t.invalidations.snapshot ≡ Some s → s ≤ seq

-- The slot that has a guest frame in the set that an actor holds is live in the published one, and the same, as long as the sequence number is that of the
-- actor's snapshot, and no invalidation of the frame is open that hasn't raised it. The published one may have slots that the held one hasn't.
abbrev pub HeldSlotsPart : ℕ → ℕ → (ℕ → ℕ) → ℕ → (ℕ → Topics) → Type 0
HeldSlotsPart n seq pool slots topics =
    (i set gfn id : ℕ) (slot : SlotOf) → i < n → (topics i).search.set ≡ Some set → (topics i).invalidations.snapshot ≡ Some seq
    → ((j : ℕ) → j < n → IsInvalidating (IsOnFrame gfn) (topics j) → ⊥) → IsLiveIn pool set id slot → contains gfn slot ≡ true → IsLiveIn pool slots id slot
