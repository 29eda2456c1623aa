-- What is so of the entry that a fault has installed, while there may be steps that take entries of the tables away.
use Rattle.std.specs.Prelude.{◌≡◌, ◌⊎◌, ◌<◌, ℕ, Bool, true, false, List, [], ◌∷◌, ◌++◌}
use Rattle.core_views.specs.declared.kind.Kind.{Kind}
use Rattle.core_views.specs.declared.place.AccessPlace.{AccessPlace}
use Rattle.core_views.specs.declared.place.AccessPlace.TheVariants.{Enter, Pause, Root, Walk, Leave, Fault}
use Rattle.core_views.specs.declared.place.FaultEnd.{FaultEnd}
use Rattle.core_views.specs.declared.place.FaultEnd.TheVariants as end_of
use Rattle.core_views.specs.declared.place.FaultPlace.{FaultPlace}
use Rattle.core_views.specs.declared.place.FaultPlace.TheVariants as fault
use Rattle.core_views.specs.declared.place.Leaving.TheVariants as leaving
use Rattle.core_views.specs.declared.place.Place.{Place}
use Rattle.core_views.specs.declared.place.Place.TheVariants as place
use Rattle.core_views.specs.declared.sizes.Sizes.{Sizes}
use Rattle.core_views.specs.declared.topics.Topics.{Topics}
use Rattle.core_views.specs.declared.trace.Command.{Command}
use Rattle.core_views.specs.declared.trace.Command.TheVariants.{Access}
use Rattle.core_views.specs.declared.trace.Line.{Line}
use Rattle.core_views.specs.declared.trace.Op.{Op}
use Rattle.core_views.specs.Held.{Held}
use Rattle.core_views.specs.Sizes.{actors_of}
use Rattle.core_views.specs.Slots.{is_write}
use Rattle.spte_words.specs.declared.area.Area.{Area}
use Rattle.spte_words.specs.declared.area.Area.TheVariants as area
use Rattle.part_steps.specs.PartTasks.{table_page}
use Rattle.mmu_core.specs.declared.outcome.Outcome.TheVariants.{Goes}
use Rattle.mmu_core.specs.machine.Enabled.{mmu}
use Rattle.mmu_core.specs.alone.FaultAlone.{LeadsToLeaf}
use Rattle.mmu_core.specs.invariant.Laws.{IsSound}
use Rattle.mmu_core.specs.machine.Machine.{Legal, Step, World, answered, effect, hand_in, run}
use Rattle.mmu_core.specs.machine.Turns.{outcome_of}
use Rattle.mmu_core.specs.machine.View.{word_in}
use Rattle.mmu_core.specs.machine.Worlds.{IsStart}
use Rattle.mmu_laws.specs.turns.Breaking.{Breaks, WasBroken}

-- Links lead the guest frame from the root to a leaf that allows the access.
abbrev pub LeadsFromRoot : Sizes → World Held → ℕ → Bool → Type 0
LeadsFromRoot z w gfn write = LeadsToLeaf (word_in z w area.Pool) 4 (word_in z w area.Root 0) gfn write

-- Where links lead to such a leaf once, they do so after every list of steps, or one of the steps took an entry of
-- the guest frame from such an access.
abbrev pub LeavesStay : Type 0
LeavesStay =
    (z : Sizes) (w : World Held) (ss : List (Step Kind)) (gfn : ℕ) (write : Bool) → IsSound z w → Legal mmu w ss → LeadsFromRoot z w gfn write
    → LeadsFromRoot z (run mmu w ss) gfn write ⊎ WasBroken (Breaks z gfn write) w ss

-- The fault ends with an entry that allows the access: it put one, or found one, or allowed writes in one.
abbrev pub has_installed : FaultEnd → Bool
has_installed end_of.Installed = true
has_installed (end_of.Fixed marked) = true
has_installed _ = false

abbrev pub ends_installed : FaultPlace → Bool
ends_installed (fault.Give e) = has_installed e
ends_installed (fault.Unshare e) = has_installed e
ends_installed (fault.End e) = has_installed e
ends_installed (fault.Mark fast) = true
ends_installed _ = false

-- The access stands after such an entry: in the last steps of its fault, or in the stay in the guest that comes next.
abbrev pub is_installed : AccessPlace → Bool
is_installed (Enter again) = again
is_installed (Pause again) = again
is_installed (Root again) = again
is_installed (Walk again) = again
is_installed (Fault p) = ends_installed p
is_installed _ = false

-- It stands in its fault, or in the stay in the guest after it, where the fault has installed an entry.
abbrev pub is_since_fault : AccessPlace → Bool
is_since_fault (Fault p) = true
is_since_fault p = is_installed p

-- The line is an access of this guest frame, which is a write or none, and stands at such a place.
abbrev pub StandsAt : (AccessPlace → Bool) → Place → Command → ℕ → Bool → Type 0
StandsAt is_such (place.Access p) (Access of_line word op) gfn write = (is_such p ≡ true) × (of_line ≡ gfn) × (is_write op ≡ write)
StandsAt is_such _ _ gfn write = ⊥

abbrev pub StandsInstalled : ℕ → ℕ → Bool → World Held → Type 0
StandsInstalled actor gfn write w = StandsAt is_installed (hand_in mmu w actor).state.place (hand_in mmu w actor).state.line.command gfn write

abbrev pub StandsSinceFault : ℕ → ℕ → Bool → World Held → Type 0
StandsSinceFault actor gfn write w = StandsAt is_since_fault (hand_in mmu w actor).state.place (hand_in mmu w actor).state.line.command gfn write

-- Where the access walks, links lead to such a leaf from the table that it has come to.
abbrev pub WalksInstalled : Place → Command → (Area → ℕ → ℕ) → Topics → Type 0
WalksInstalled (place.Access (Walk again)) (Access gfn word op) words t =
    again ≡ true → LeadsToLeaf (words area.Pool) t.walk.level (table_page t.walk) gfn (is_write op)
WalksInstalled _ _ words t = Unit {0}

abbrev pub LeadsFromWalk : Sizes → World Held → ℕ → Type 0
LeadsFromWalk z w actor =
    WalksInstalled (hand_in mmu w actor).state.place (hand_in mmu w actor).state.line.command (word_in z w) (hand_in mmu w actor).topics

-- So it is in each world on the way, from this one to the one after the steps.
abbrev pub Throughout : (World Held → Type 0) → World Held → List (Step Kind) → Type 0
Throughout IsSo w [] = IsSo w
Throughout IsSo w (s ∷ ss) = IsSo w × Throughout IsSo (effect mmu w s) ss

-- Since the actor's fault began, a step took an entry of the guest frame away: throughout the last of these steps the line stood in this fault, or in the
-- stay after it, and one of them is such a step. It may be on any entry of the guest frame, and it may come before the fault ended.
pub record LostEntry (z : Sizes) (actor gfn : ℕ) (write : Bool) (w : World Held) (ss : List (Step Kind)) : Type 0 where
  pub earlier : List (Step Kind)
  pub later : List (Step Kind)
  pub are : ss ≡ earlier ++ later
  pub stood : Throughout (StandsSinceFault actor gfn write) (run mmu w earlier) later
  pub broken : WasBroken (Breaks z gfn write) (run mmu w earlier) later

-- After every list of steps of all actors, links lead each line that stands after an installed entry to a leaf that allows its access, or a step since its
-- fault began took an entry of the guest frame away.
abbrev pub InstalledEntriesServe : Type 0
InstalledEntriesServe =
    (z : Sizes) (lines : List Line) (start : World Held) (ss : List (Step Kind)) (a gfn : ℕ) (write : Bool) → IsStart z lines start → Legal mmu start ss
    → a < actors_of z → StandsInstalled a gfn write (run mmu start ss)
    → (LeadsFromRoot z (run mmu start ss) gfn write × LeadsFromWalk z (run mmu start ss) a) ⊎ LostEntry z a gfn write start ss

-- The step is one of the stay after an installed entry, and finds no translation that allows the access. A step since the fault began took an entry of the
-- guest frame away; whether this is why the stay finds none isn't said.
pub record StayMisses (z : Sizes) (w : World Held) (ss : List (Step Kind)) (s : Step Kind) : Type 0 where
  pub gfn : ℕ
  pub word : ℕ
  pub op : Op
  pub fast : Bool
  pub at : (hand_in mmu (run mmu w ss) s.actor).state.place ≡ place.Access (Walk true)
  pub access_is : (hand_in mmu (run mmu w ss) s.actor).state.line.command ≡ Access gfn word op
  pub misses : outcome_of (hand_in mmu (run mmu w ss) s.actor) (answered mmu (run mmu w ss) s.kind) ≡ Goes (place.Access (Leave (leaving.Faults fast)))
  pub lost : LostEntry z s.actor gfn (is_write op) w ss
