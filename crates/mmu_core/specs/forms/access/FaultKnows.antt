-- What a fault knows at each of its places, from what its actor holds alone.
use Rattle.std.specs.Prelude.{◌≡◌, ◌≢◌, ◌<◌, ◌≤◌, ◌⊎◌, ℕ, Bool, true, false, ◌&&◌, ◌||◌, not, Some, None, if◌then◌else◌}
use Rattle.core_views.specs.declared.place.Cause.{Cause}
use Rattle.core_views.specs.declared.place.Cause.TheVariants.{Open, Moved, Entry}
use Rattle.core_views.specs.declared.place.FaultEnd.{FaultEnd}
use Rattle.core_views.specs.declared.place.FaultEnd.TheVariants.{Installed, Mmio, HostFault, Starved, Fixed, NotFast, Retry}
use Rattle.core_views.specs.declared.place.FaultNext.{FaultNext}
use Rattle.core_views.specs.declared.place.FaultNext.TheVariants.{Goes, Ends}
use Rattle.core_views.specs.declared.place.FaultPlace.{FaultPlace}
use Rattle.core_views.specs.declared.place.FaultPlace.TheVariants.{Begin, Snapshot, Find, Host, Bring, Share, Check, Walk, Claim, Fill}
use Rattle.core_views.specs.declared.place.FaultPlace.TheVariants.{Role, Link, Give, Leaf, Unshare, End, FastBegin, FastFind, FastWalk, Fix, Mark}
use Rattle.core_views.specs.declared.sizes.Sizes.{Sizes}
use Rattle.core_views.specs.declared.topics.Hold.TheVariants.{Loose, Shared}
use Rattle.core_views.specs.declared.topics.Stay.TheVariants.{Section}
use Rattle.core_views.specs.declared.topics.TableWalk.{TableWalk}
use Rattle.core_views.specs.declared.topics.Topics.{Topics}
use Rattle.spte_words.specs.declared.spte_kind.SpteKind.{SpteKind}
use Rattle.spte_words.specs.declared.spte_kind.SpteKind.TheVariants as entry_kind
use Rattle.spte_words.specs.Areas.{words_of_bits}
use Rattle.spte_words.specs.Entries.{can_write, host_writable, kind_of, mmu_writable}
use Rattle.spte_words.specs.HostWords.{host_allows_write}
pub use Rattle.mmu_core.specs.orders.ShareSteps.{is_trying}
pub use Rattle.mmu_core.specs.forms.access.FaultHolds.{CheckKnows, Entering, FoundNone, HasEntry, HasFixed, InSection, IsFixed, IsLost, IsLostFix}
pub use Rattle.mmu_core.specs.forms.access.FaultHolds.{LookedFor, SawUpperEnd, Sharing, WithoutLock}
use Rattle.mmu_core.specs.forms.access.FaultSteps.{entry_word, host_word_at}
use Rattle.part_steps.specs.PartTasks.{is_below, word_looked}
use Rattle.part_steps.specs.PartHoldings.{FoundSlot, HasRoleToSet, HasToFill, HoldsSet, IsOver, LookedUp, MayFix, OwnsPage, OwnsTable, SawEntry}
use Rattle.part_steps.specs.PartHoldings.{IsEnd, MapsRun, SawNoWrites, one_mark_tells}
use Rattle.part_steps.specs.PartSteps.{IsAtRest}

-- In a section of a fast fault, without the lock, after the slot was found.
pub record FastFound (gfn : ℕ) (t : Topics) : Type 0 where
  pub inside : InSection t
  pub loose : t.hold ≡ Loose
  pub found : FoundSlot gfn t

-- An entry that allows the access was put at the guest frame, whose slot has a dirty log: a mark is owed, under the shared lock or without it. A fast fault
-- has allowed the write in the entry that it had read.
pub record Marks (fast : Bool) (gfn : ℕ) (write : Bool) (t : Topics) : Type 0 where
  pub section : t.stay ≡ Section
  pub owns_none : t.owned ≡ None
  pub held : t.hold ≡ (if fast then Loose else Shared)
  pub owes : t.owed ≡ Some gfn
  pub found : FoundSlot gfn t
  pub entry : HasEntry gfn write t
  pub lowest : t.walk.level ≡ 1
  pub logged : t.search.logged ≡ true
  pub fixed : fast ≡ true → IsFixed t.walk.entry

-- The entry is no leaf, or a large one in a slot with a dirty log, or allows the write already; or slot or host may forbid this.
abbrev pub forbids_more : SpteKind → ℕ → Bool → ℕ → Bool
forbids_more entry_kind.Leaf level logged v = not (one_mark_tells level logged) || (can_write v || (not (host_writable v) || not (mmu_writable v)))
forbids_more _ level logged v = true

-- The search has found none, and the word is 0; or the guest frame's entry, which is this word, is one in which a write can't be allowed.
abbrev pub SawNotFast : ℕ → ℕ → Topics → Type 0
SawNotFast word gfn t =
    ((word ≡ 0) × FoundNone gfn t)
    ⊎ (SawEntry gfn t.walk × (t.walk.entry ≡ word) × (forbids_more (kind_of t.walk.level word) t.walk.level t.search.logged word ≡ true))

-- The host word that was looked up forbids the write.
pub record HostForbids (gfn : ℕ) (write : Bool) (t : Topics) : Type 0 where
  pub writes : write ≡ true
  pub looked_up : LookedUp gfn t
  pub forbids : host_allows_write looked_up.word ≡ false

-- The slot that was found is read-only, and the access a write; or the search has found none.
abbrev pub FoundNoPage : ℕ → Bool → Topics → Type 0
FoundNoPage gfn write t = ((write ≡ true) × FoundSlot gfn t × (t.search.slot.read_only ≡ true)) ⊎ FoundNone gfn t

-- This word is the guest frame's entry in the walk's table, and was seen so. It isn't what was read of it before, or it is frozen.
pub record IsInTheWay (word read seen : ℕ) (z : Sizes) (gfn : ℕ) (walk : TableWalk) : Type 0 where
  pub saw : SawEntry gfn walk
  pub is_entry : word ≡ entry_word z gfn walk
  pub holds : walk.entry ≡ seen
  pub why : (read ≢ seen) ⊎ (kind_of walk.level seen ≡ entry_kind.Frozen)

-- This word is the host word of the page behind the guest frame, and was seen so; and it isn't what was read of it before.
pub record IsHostWordMoved (word read seen : ℕ) (z : Sizes) (gfn : ℕ) (t : Topics) : Type 0 where
  pub looked_up : LookedUp gfn t
  pub is_word : word ≡ host_word_at z t.host
  pub holds : word_looked t.host ≡ seen
  pub why : read ≢ seen

-- Why it is to begin anew: by the words that it loaded.
abbrev pub HasCause : Cause → Sizes → ℕ → Topics → Type 0
HasCause (Open count start end_ at) z gfn t =
    (at ≡ gfn) × (0 < count) × (start ≤ gfn) × (gfn < end_) × (t.invalidations.count ≡ count) × (t.invalidations.start ≡ start) × (t.invalidations.end ≡ end_)
HasCause (Moved old_ now_) z gfn t = (t.invalidations.snapshot ≡ Some old_) × (t.invalidations.seq ≡ now_) × (now_ ≢ old_)
HasCause (Entry word read seen) z gfn t = IsInTheWay word read seen z gfn t.walk ⊎ IsHostWordMoved word read seen z gfn t

-- And where a fast fault begins anew: its exchange was lost.
pub record Retries (fast : Bool) (cause : Cause) (z : Sizes) (gfn : ℕ) (t : Topics) : Type 0 where
  pub has : HasCause cause z gfn t
  pub lost : fast ≡ true → IsLostFix cause z gfn t.walk t.search.logged

-- what the end of a fault rests on
abbrev pub FaultEndKnows : FaultEnd → Sizes → ℕ → Bool → Topics → Type 0
FaultEndKnows Installed z gfn write t = HasEntry gfn write t
FaultEndKnows Mmio z gfn write t = FoundNoPage gfn write t
FaultEndKnows HostFault z gfn write t = HostForbids gfn write t
FaultEndKnows Starved z gfn write t = words_of_bits z.pool ≤ t.claim.at
FaultEndKnows (Fixed marked) z gfn write t = HasFixed marked gfn write t
FaultEndKnows (NotFast word) z gfn write t = SawNotFast word gfn t
FaultEndKnows (Retry fast cause) z gfn write t = Retries fast cause z gfn t

-- A page is given back only where the fault is to begin anew.
abbrev pub IsRetry : FaultEnd → Type 0
IsRetry (Retry fast cause) = Unit {0}
IsRetry _ = ⊥

-- what a fault knows at each place
abbrev pub FaultKnows : FaultPlace → Sizes → ℕ → Bool → Topics → Type 0
FaultKnows Begin z gfn write t = IsAtRest t
FaultKnows Snapshot z gfn write t = InSection t × (t.hold ≡ Loose)
FaultKnows (Find begun) z gfn write t = WithoutLock t × (begun ≡ true → HoldsSet t × (t.search.id ≤ 31))
FaultKnows Host z gfn write t = WithoutLock t × FoundSlot gfn t × ((write && t.search.slot.read_only) ≡ false)
FaultKnows Bring z gfn write t = WithoutLock t × LookedFor false gfn write t
FaultKnows Share z gfn write t = InSection t × (is_trying t.hold ≡ true) × LookedFor true gfn write t
FaultKnows (Check at) z gfn write t = Sharing gfn write t × (t.owned ≡ None) × CheckKnows at gfn t.invalidations
FaultKnows (Walk rooted) z gfn write t = Entering gfn write t × (t.owned ≡ None) × (rooted ≡ true → IsOver gfn t.walk)
FaultKnows (Claim begun) z gfn write t = Entering gfn write t × (t.owned ≡ None) × SawUpperEnd gfn t × (begun ≡ true → t.claim.at < words_of_bits z.pool)
FaultKnows Fill z gfn write t = Entering gfn write t × SawUpperEnd gfn t × HasToFill t × (is_below t.walk t.owned ≡ true)
FaultKnows Role z gfn write t = Entering gfn write t × SawUpperEnd gfn t × HasRoleToSet t × (is_below t.walk t.owned ≡ true)
FaultKnows Link z gfn write t = Entering gfn write t × SawUpperEnd gfn t × OwnsTable t
FaultKnows (Leaf writes) z gfn write t =
    Entering gfn write t × (t.owned ≡ None) × SawEntry gfn t.walk × MapsRun gfn t × (writes ≡ write) × SawNoWrites t.walk × IsEnd t.walk.level t.walk.entry
FaultKnows (Give e) z gfn write t = (t.stay ≡ Section) × (t.hold ≡ Shared) × OwnsPage t × (t.owed ≡ None) × FaultEndKnows e z gfn write t × IsRetry e
FaultKnows (Unshare e) z gfn write t = InSection t × (t.hold ≡ Shared) × FaultEndKnows e z gfn write t
FaultKnows (End e) z gfn write t = InSection t × (t.hold ≡ Loose) × FaultEndKnows e z gfn write t
FaultKnows FastBegin z gfn write t = IsAtRest t
FaultKnows (FastFind begun) z gfn write t = InSection t × (t.hold ≡ Loose) × (begun ≡ true → HoldsSet t × (t.search.id ≤ 31))
FaultKnows (FastWalk rooted) z gfn write t = FastFound gfn t × (rooted ≡ true → IsOver gfn t.walk)
FaultKnows Fix z gfn write t = FastFound gfn t × MayFix gfn t
FaultKnows (Mark fast) z gfn write t = Marks fast gfn write t

-- what it knows after a step: where it is over it holds nothing
abbrev pub KnowsNext : FaultNext → Sizes → ℕ → Bool → Topics → Type 0
KnowsNext (Goes p) z gfn write t = FaultKnows p z gfn write t
KnowsNext (Ends e) z gfn write t = IsAtRest t
