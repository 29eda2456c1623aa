-- What a line reads of a dirty log while all other actors rest: just what is dirty (api.rst, KVM_GET_DIRTY_LOG). The bits of the log say it, while lines run
-- alone, but for the page that the line under way has marked and is about to write.
use Rattle.std.specs.Prelude.{◌≡◌, ◌≢◌, ◌<◌, ◌⊎◌, ℕ, Bool, List, [], ◌∷◌, ◌++◌, None, Option, Some, length, true, false}
use Rattle.core_views.specs.declared.actor.Actor.{Actor}
use Rattle.core_views.specs.declared.kind.Kind.{Kind}
use Rattle.core_views.specs.declared.place.AccessPlace.{AccessPlace}
use Rattle.core_views.specs.declared.place.AccessPlace.TheVariants as access
use Rattle.core_views.specs.declared.place.FaultEnd.TheVariants.{Fixed, Installed}
use Rattle.core_views.specs.declared.place.FaultPlace.TheVariants as fault
use Rattle.core_views.specs.declared.place.LogPlace.{LogPlace}
use Rattle.core_views.specs.declared.place.LogPlace.TheVariants as log
use Rattle.core_views.specs.declared.place.Place.{Place}
use Rattle.core_views.specs.declared.place.Place.TheVariants as place
use Rattle.core_views.specs.declared.sizes.Sizes.{Sizes}
use Rattle.core_views.specs.declared.trace.Command.{Command}
use Rattle.core_views.specs.declared.trace.Command.TheVariants.{Access}
use Rattle.core_views.specs.declared.trace.Line.{Line}
use Rattle.core_views.specs.declared.trace.Slot.{Slot as SlotOf}
use Rattle.core_views.specs.Alone.{ReadDirty}
use Rattle.core_views.specs.Events.{after_all}
use Rattle.core_views.specs.Flat.{Flat, Idle, first_flat}
use Rattle.core_views.specs.Held.{Held}
use Rattle.core_views.specs.Sizes.{actors_of}
use Rattle.core_views.specs.Slots.{contains, is_write}
use Rattle.spte_words.specs.declared.area.Area.TheVariants as area
use Rattle.part_steps.specs.SlotWords.{page_of}
use Rattle.mmu_core.specs.alone.LineAlone.{LineAlone}
use Rattle.mmu_core.specs.forms.log.LogSteps.{slot_asked}
use Rattle.mmu_core.specs.forms.log.Readings.{Reading, has_begun, own_reading}
use Rattle.mmu_core.specs.machine.Enabled.{mmu}
use Rattle.mmu_core.specs.machine.Machine.{Legal, May, Step, World, hand_in, run}
use Rattle.mmu_core.specs.machine.View.{View, view}
use Rattle.mmu_core.specs.machine.Worlds.{IsStart, history}
use Rattle.log_invariant.specs.Covered.{IsLoggedIn, is_marked}
use Rattle.log_invariant.specs.forms.log.LogReads.{IsRead, has_taken, taken_by}

-- ---- an access that writes

-- The access comes to its touch next, if it is alone: it has marked its page, or found it writable, and goes on to the stay that finds the leaf.
abbrev pub comes_to_touch : AccessPlace → Bool
comes_to_touch (access.Fault (fault.Unshare Installed)) = true
comes_to_touch (access.Fault (fault.End Installed)) = true
comes_to_touch (access.Fault (fault.End (Fixed marked))) = true
comes_to_touch (access.Enter again) = again
comes_to_touch (access.Pause again) = again
comes_to_touch (access.Root again) = again
comes_to_touch (access.Walk again) = again
comes_to_touch access.Touch = true
comes_to_touch _ = false

abbrev pub WritesLaterAt : Place → Command → ℕ → Type 0
WritesLaterAt (place.Access p) (Access at word op) gfn = (comes_to_touch p ≡ true) × (at ≡ gfn) × (is_write op ≡ true)
WritesLaterAt _ command gfn = ⊥

-- The hand's line is such an access, and writes the guest frame.
abbrev pub WritesLater : Held → ℕ → Type 0
WritesLater h gfn = WritesLaterAt h.state.place h.state.line.command gfn

-- ---- a reading of a log

-- It has begun to read words, or has none to read; so what it has read stands in the hand.
abbrev pub has_read : LogPlace → Bool
has_read (log.Peek begun) = begun
has_read p = has_taken p

-- The reading has begun.
abbrev pub ReadingHasBegun : Option Reading → Type 0
ReadingHasBegun None = ⊥
ReadingHasBegun (Some r) = has_begun r.place ≡ true

-- In the words that it has read the bit of the guest frame's page is set.
abbrev pub HasReadPage : Option Reading → Held → ℕ → Type 0
HasReadPage None h gfn = ⊥
HasReadPage (Some r) h gfn = (has_read r.place ≡ true) × IsRead (slot_asked h r.command) r.command h.harvest gfn

-- If it has taken the page of the guest frame, the page's bit is clear.
abbrev pub LeavesClear : Option Reading → Held → (ℕ → ℕ) → ℕ → Type 0
LeavesClear None h log gfn = Unit {0}
LeavesClear (Some r) h log gfn = (taken_by r.place r.command h).Has gfn → is_marked log (page_of (slot_asked h r.command) gfn) ≡ false

-- ---- the log's bits

-- Each bit that is set, of a page of a published slot with a log, is of a dirty guest frame, or of one that a line under way is about to write. While a log is
-- read, what was read of it is dirty, the bits that were taken out are clear, and what is dirty was so as the reading began, with no write to it under way.
-- And each line that is under way in flat memory is one of these hands'.
pub record LogsAreExactOf (n : ℕ) (log pool : ℕ → ℕ) (slots : ℕ) (hand : ℕ → Held) (f : Flat) : Type 0 where
  pub bits : (id gfn : ℕ) (slot : SlotOf) → IsLoggedIn pool slots id slot → contains gfn slot ≡ true → is_marked log (page_of slot gfn) ≡ true
      → (f.facts.pending gfn ≡ true) ⊎ ((i : ℕ) × (i < n) × WritesLater (hand i) gfn)
  pub read : (i gfn : ℕ) → i < n → HasReadPage (own_reading (hand i)) (hand i) gfn → f.facts.pending gfn ≡ true
  pub taken : (i gfn : ℕ) → i < n → LeavesClear (own_reading (hand i)) (hand i) log gfn
  pub due : (i gfn : ℕ) → i < n → ReadingHasBegun (own_reading (hand i)) → f.facts.pending gfn ≡ true → f.past.due gfn ≡ true
  pub under : (actor : Actor) → (f.under actor).stage ≢ Idle → (i : ℕ) × (i < n) × (actor ≡ (hand i).state.actor)

abbrev pub LogsAreExact : Sizes → View → Flat → Type 0
LogsAreExact z v f = LogsAreExactOf (actors_of z) (v.words area.Log) (v.words area.Pool) (v.words area.Slots 0) v.hand f

-- ---- every reading alone

-- Of the steps so far each reading is just what was dirty, and the logs say what is dirty.
pub record ReadsExactly (z : Sizes) (w : World Held) (ss : List (Step Kind)) : Type 0 where
  pub reads : ReadDirty first_flat (history w ss)
  pub logs : LogsAreExact z (view z (run mmu w ss)) (after_all (history w ss) first_flat)

-- No other actor has a line under way.
abbrev pub OthersIdle : ℕ → World Held → Type 0
OthersIdle a w = (i : ℕ) → i < length w.hands → i ≢ a → (hand_in mmu w i).state.place ≡ place.Between

-- So it is at the start, and after one more step of a line that runs alone, with no other line under way.
pub record ReadingsAloneAreExact : Type 0 where
  pub starts : (z : Sizes) (lines : List Line) (w : World Held) → IsStart z lines w → ReadsExactly z w []
  pub goes_on : (z : Sizes) (lines : List Line) (w : World Held) (ss : List (Step Kind)) (s : Step Kind) → IsStart z lines w → Legal mmu w ss
      → LineAlone z (run mmu w ss) s.actor → OthersIdle s.actor (run mmu w ss) → May mmu (run mmu w ss) s → ReadsExactly z w ss
      → ReadsExactly z w (ss ++ s ∷ [])
