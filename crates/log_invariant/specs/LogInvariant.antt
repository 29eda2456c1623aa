-- What holds of dirty logs at every moment, of the words and hands: what allows writes in a slot with a dirty log is covered, or the line excuses it that
-- begins the log, or has taken the page out of it.
use Rattle.std.specs.Prelude.{◌≡◌, ◌<◌, ◌⊎◌, ◌+◌, ◌/◌, ℕ, All, Bool, List, Option, Some, true, false}
use Rattle.core_views.specs.declared.actor.Actor.TheVariants.{Manager}
use Rattle.core_views.specs.declared.cache.Translation.{Translation}
use Rattle.core_views.specs.declared.place.AccessPlace.TheVariants as access
use Rattle.core_views.specs.declared.place.FaultPlace.{FaultPlace}
use Rattle.core_views.specs.declared.place.FaultPlace.TheVariants as fault
use Rattle.core_views.specs.declared.place.Leaving.TheVariants.{Faults}
use Rattle.core_views.specs.declared.place.Place.{Place}
use Rattle.core_views.specs.declared.place.Place.TheVariants as place
use Rattle.core_views.specs.declared.place.SlotChangePlace.TheVariants as change
use Rattle.core_views.specs.declared.sizes.Sizes.{Sizes}
use Rattle.core_views.specs.declared.trace.Command.{Command}
use Rattle.core_views.specs.declared.trace.Command.TheVariants.{Access}
use Rattle.core_views.specs.declared.trace.Slot.{Slot as SlotOf}
use Rattle.core_views.specs.Held.{Held}
use Rattle.core_views.specs.LogCommands.{is_all_set}
use Rattle.core_views.specs.Sizes.{actors_of}
use Rattle.core_views.specs.SlotCommands.{arms, slot_armed}
use Rattle.core_views.specs.Slots.{contains, has_host_page, is_write}
use Rattle.spte_words.specs.declared.area.Area.TheVariants as area
use Rattle.spte_words.specs.declared.spte_kind.SpteKind.TheVariants.{Leaf}
use Rattle.spte_words.specs.Entries.{can_write, kind_of}
use Rattle.part_steps.specs.LogHoldings.{is_in_log, log_end}
use Rattle.part_steps.specs.SlotWords.{page_of}
use Rattle.mmu_core.specs.forms.access.Cached.{covers}
use Rattle.mmu_core.specs.invariant.AllOver.{AllOver}
use Rattle.mmu_core.specs.invariant.HeldPart.{HeldPart, PathPart}
use Rattle.mmu_core.specs.invariant.InvalidatedPart.{may_use}
use Rattle.mmu_core.specs.invariant.ReachPart.{InReach}
use Rattle.mmu_core.specs.invariant.SlotSetPart.{IsLiveIn}
use Rattle.mmu_core.specs.invariant.TreePart.{Position, TreePart, Use, stands}
use Rattle.mmu_core.specs.forms.slot_change.ArmKnows.{IsInLog}
use Rattle.mmu_core.specs.forms.slot_change.SlotTargets.{arm_bits, log_target}
use Rattle.mmu_core.specs.machine.View.{View}
use Rattle.log_invariant.specs.Covered.{IsCovered, IsLoggedIn, is_marked}
use Rattle.log_invariant.specs.Excuses.{ExcusesCached, ExcusesLeaf}
use Rattle.log_invariant.specs.forms.slot_change.LogBegins.{LogIsUnwatched}

-- ---- who marks

-- The line is to mark the page of this guest frame, which it writes.
abbrev pub IsMarkingAt : Place → Command → ℕ → Type 0
IsMarkingAt (place.Access (access.Fault (fault.Mark fast))) (Access at word op) gfn = (at ≡ gfn) × (is_write op ≡ true)
IsMarkingAt _ command gfn = ⊥

-- A place of a fast fault before its end.
abbrev pub is_within_fast : FaultPlace → Bool
is_within_fast fault.FastBegin = true
is_within_fast (fault.FastFind begun) = true
is_within_fast (fault.FastWalk rooted) = true
is_within_fast fault.Fix = true
is_within_fast (fault.Mark fast) = fast
is_within_fast _ = false

-- A fast fault, and a stay that ends with one, is of an access that writes.
abbrev pub FastWritesAt : Place → Command → Type 0
FastWritesAt (place.Access (access.Fault p)) (Access gfn word op) = is_within_fast p ≡ true → is_write op ≡ true
FastWritesAt (place.Access (access.Leave (Faults fast))) (Access gfn word op) = fast ≡ true → is_write op ≡ true
FastWritesAt _ command = Unit {0}

-- ---- slot sets

-- One slot set was published in the place of another, by a line that begins the log of this slot, or of none. A slot with a log in the new one had it in the
-- old one, but for this slot; and one with a log in the old one is the same in the new one, with its log or without.
pub record KeepsLogs (pool : ℕ → ℕ) (old_ new_ : ℕ) (begun : Option SlotOf) : Type 0 where
  pub had : (id : ℕ) (slot : SlotOf) → IsLoggedIn pool new_ id slot → IsLoggedIn pool old_ id slot ⊎ (begun ≡ Some slot)
  pub stays : (id : ℕ) (slot : SlotOf) → IsLoggedIn pool old_ id slot → IsLiveIn pool new_ id slot

-- ---- words of the log

-- The words of the log that is to begin are set, of those below this one.
abbrev pub AreArmedBelow : Command → Held → (ℕ → ℕ) → ℕ → Type 0
AreArmedBelow command h log to =
    (word : ℕ) → IsInLog (log_target h command) word → word < to → log word ≡ arm_bits (is_all_set h.state.sizes.mode) (log_target h command) word

-- So are all before the publication.
abbrev pub AreArmed : Command → Held → (ℕ → ℕ) → Type 0
AreArmed command h log = arms command ≡ true → AreArmedBelow command h log (log_end (log_target h command))

abbrev pub HasArmedWordsAt : Place → Command → Held → (ℕ → ℕ) → Type 0
HasArmedWordsAt (place.SlotChange (change.Arm true)) command h log = AreArmedBelow command h log h.topics.next_log_word
HasArmedWordsAt (place.SlotChange change.Exclude) command h log = AreArmed command h log
HasArmedWordsAt (place.SlotChange change.Count) command h log = AreArmed command h log
HasArmedWordsAt (place.SlotChange change.Close) command h log = AreArmed command h log
HasArmedWordsAt (place.SlotChange change.Publish) command h log = AreArmed command h log
HasArmedWordsAt _ command h log = Unit {0}

-- ---- what allows writes

-- A write to the guest frame in this slot is covered; or the line of some hand says that it needn't be yet.
abbrev pub IsGuarded : ℕ → (ℕ → ℕ) → (ℕ → Held) → (Held → ℕ → Type 0) → SlotOf → ℕ → Type 0
IsGuarded n log hand Excuses slot gfn = IsCovered n log (λ i. (hand i).topics) slot gfn ⊎ ((j : ℕ) × (j < n) × Excuses (hand j) gfn)

-- So it is in each published slot with a log that has the guest frame.
abbrev pub IsGuardedIn : ℕ → (ℕ → ℕ) → (ℕ → ℕ) → ℕ → (ℕ → Held) → (Held → ℕ → Type 0) → ℕ → Type 0
IsGuardedIn n log pool slots hand Excuses gfn =
    (id : ℕ) (slot : SlotOf) → IsLoggedIn pool slots id slot → contains gfn slot ≡ true → IsGuarded n log hand Excuses slot gfn

-- An entry that is a leaf which allows writes.
abbrev pub LeafIsGuarded : (ℕ → Type 0) → ℕ → ℕ → ℕ → Type 0
LeafIsGuarded IsSo level gfn w = kind_of level w ≡ Leaf → can_write w ≡ true → IsSo gfn

-- A translation that allows writes, of each guest frame that it covers.
abbrev pub UseIsGuarded : (ℕ → Type 0) → Translation → Type 0
UseIsGuarded IsSo t = can_write t.leaf ≡ true → (gfn : ℕ) → covers gfn t ≡ true → IsSo gfn

-- So is each that is cached.
abbrev pub AreGuarded : (ℕ → Type 0) → List Translation → Type 0
AreGuarded IsSo cached = All (UseIsGuarded IsSo) cached

-- All parts, of the columns of words and the column of hands, of which the one after those of virtual processors and hosts is the manager's.
pub record LogInvariantOf (z : Sizes) (root slots : ℕ) (states log role pool : ℕ → ℕ) (hand : ℕ → Held) : Type 0 where
  -- The hand at the manager's place is the manager's.
  pub manager : (hand (z.vcpus + z.hosts)).state.actor ≡ Manager
  -- Who owes a mark stands where it is made.
  pub marks : (i gfn : ℕ) → i < actors_of z → (hand i).topics.owed ≡ Some gfn → IsMarkingAt (hand i).state.place (hand i).state.line.command gfn
  pub fast : (i : ℕ) → i < actors_of z → FastWritesAt (hand i).state.place (hand i).state.line.command
  -- A slot set that was replaced, and may still be held, has the logs of the published one.
  pub old_logs : (j set : ℕ) → j < actors_of z → (hand j).topics.retired ≡ Some set
      → KeepsLogs pool set slots (slot_armed (hand j).slots (hand j).state.line.command)
  -- The words of a log that is to begin are as they were stored.
  pub armed_words : (j : ℕ) → j < actors_of z → HasArmedWordsAt (hand j).state.place (hand j).state.line.command (hand j) log
  -- Where each page is dirty as a log begins, the bit of each is set while the log is unwatched.
  pub all_marked : (j gfn : ℕ) (slot : SlotOf) → j < actors_of z → is_all_set z.mode ≡ true → LogIsUnwatched (hand j) gfn
      → slot_armed (hand j).slots (hand j).state.line.command ≡ Some slot → is_marked log (page_of slot gfn) ≡ true
  -- In the words of a log only bits of its slot's pages are set.
  pub within : (id page : ℕ) (slot : SlotOf) → IsLoggedIn pool slots id slot → is_in_log (page / 64) slot ≡ true → is_marked log page ≡ true
      → has_host_page page slot ≡ true
  -- A linked leaf that allows writes is covered or excused.
  pub leaves : (up : ℕ → Use) (spot : ℕ → Position) → TreePart z.pool root role pool up spot
      → AllOver up spot pool root (LeafIsGuarded (IsGuardedIn (actors_of z) log pool slots hand ExcusesLeaf))
  -- So is a translation that allows writes, and that a virtual processor may use.
  pub cached : (v : ℕ) → v < z.vcpus → may_use (states v) (hand v).topics.stay ≡ true
      → AreGuarded (IsGuardedIn (actors_of z) log pool slots hand (ExcusesCached v (states v))) (hand v).cached.items
  -- And so, as what it has cached, is a leaf that allows writes and to which it can come in the guest, from a table that its walk has come to or gone through.
  pub reach : (up : ℕ → Use) (spot : ℕ → Position) → TreePart z.pool root role pool up spot → (v : ℕ) → v < z.vcpus
      → HeldPart (stands up spot) (hand v).topics → PathPart (stands up spot) (hand v).topics.walk
      → InReach up spot pool (hand v).topics (LeafIsGuarded (IsGuardedIn (actors_of z) log pool slots hand (ExcusesCached v (states v))))

abbrev pub LogInvariant : Sizes → View → Type 0
LogInvariant z v =
    LogInvariantOf z (v.words area.Root 0) (v.words area.Slots 0) (v.words area.State) (v.words area.Log) (v.words area.Role) (v.words area.Pool) v.hand
