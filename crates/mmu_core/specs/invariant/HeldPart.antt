-- What an actor holds of tables and slot sets; and what a section may hold still of what another actor has taken out of use.
use Rattle.std.specs.Prelude.{◌≡◌, ◌≢◌, ◌<◌, ◌≤◌, ◌⊎◌, ◌-◌, ◌/◌, ◌^◌, ℕ, false, Option, Some, None}
use Rattle.core_views.specs.declared.sizes.Sizes.{Sizes}
use Rattle.core_views.specs.declared.topics.TableWalk.{TableWalk}
use Rattle.core_views.specs.declared.topics.Topics.{Topics}
use Rattle.part_steps.specs.PartTasks.{table_page}
use Rattle.mmu_core.specs.invariant.SlotSetPart.{AreSlots}
use Rattle.part_steps.specs.StayTopics.{is_outside, is_section, may_search, may_walk}
use Rattle.mmu_core.specs.invariant.TreePart.{Position, at}

-- The table that a walk has come to is one, at the walk's level and span; and neither a table nor a slot set is held outside of the
-- guest, of a section and of the lock.
pub record HeldPart (stands : ℕ → Option Position) (t : Topics) : Type 0 where
  pub table : 1 ≤ t.walk.level → stands (table_page t.walk) ≡ Some (at t.walk.level t.walk.prefix)
  pub no_table : may_walk t.stay t.hold ≡ false → t.walk.level ≡ 0
  pub no_set : may_search t.stay t.hold ≡ false → t.search.set ≡ None

-- No mark is owed outside of a section.
abbrev pub OwedPart : Topics → Type 0
OwedPart t = is_section t.stay ≡ false → t.owed ≡ None

-- the table that a walk holds at a level
abbrev pub table_at : ℕ → TableWalk → ℕ
table_at level walk = table_page (record walk { level = level })

-- the span of guest frames of that level in which the walk is
abbrev pub span_at : ℕ → TableWalk → ℕ
span_at level walk = walk.prefix / 512 ^ (level - walk.level)

-- Each table that a walk has gone through stands at its level, for the span of this level in which the walk is.
abbrev pub PathPart : (ℕ → Option Position) → TableWalk → Type 0
PathPart stands walk = (level : ℕ) → 1 ≤ walk.level → walk.level < level → level ≤ 4 → stands (table_at level walk) ≡ Some (at level (span_at level walk))

-- Actor i is in the guest or in a section. Another one has taken k out of use (`Retires` says what an actor has), and hasn't watched this one since.
pub record HoldsOld (Retires : Topics → ℕ → Type 0) (n : ℕ) (topics : ℕ → Topics) (i k : ℕ) : Type 0 where
  pub inside : is_outside (topics i).stay ≡ false
  pub by : ℕ
  pub there : by < n
  pub other : by ≢ i
  pub leaves : Retires (topics by) k
  pub unwatched : (topics by).watched ≤ i

-- What an actor holds (`Holds` says what) is in use; or the actor is in the guest or in a section, and holds still what another one has taken out of use.
abbrev pub HeldStill : (Topics → ℕ → Type 0) → (Topics → ℕ → Type 0) → ℕ → (ℕ → Type 0) → (ℕ → Topics) → Type 0
HeldStill Holds Retires n IsInUse topics = (i k : ℕ) → i < n → Holds (topics i) k → IsInUse k ⊎ HoldsOld Retires n topics i k

-- An actor with these topics searches the slot set in this page; and it has retired the one in this page.
abbrev pub HoldsSlots : Topics → ℕ → Type 0
HoldsSlots t k = t.search.set ≡ Some k

abbrev pub HasRetired : Topics → ℕ → Type 0
HasRetired t k = t.retired ≡ Some k

-- The slot set that an actor holds is the published one, or an older one that an actor has retired which hasn't watched it since.
abbrev pub SetsPart : ℕ → ℕ → (ℕ → Topics) → Type 0
SetsPart n slots topics = HeldStill HoldsSlots HasRetired n (λ k. k ≡ slots) topics

-- A page that is retired has the slots of a slot set still: nobody stores in it.
abbrev pub OldSetsPart : Sizes → ℕ → (ℕ → ℕ) → (ℕ → Option ℕ) → Type 0
OldSetsPart z n pool retired = (i k : ℕ) → i < n → retired i ≡ Some k → AreSlots z pool k
