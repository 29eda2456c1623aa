-- What an actor has seen of the words stands still, while all other actors rest: so none of its steps waits, whatever its line is.
use Rattle.spte_words.specs.declared.area.Area.TheVariants as area
use Rattle.spte_words.specs.declared.area.Area.{Area}
use Rattle.std.specs.Prelude.{◌≡◌, ◌<◌, ℕ, true, false, Some}
use Rattle.core_views.specs.declared.topics.MapClaim.{MapClaim}
use Rattle.core_views.specs.declared.topics.Stay.TheVariants.{Section}
use Rattle.core_views.specs.declared.topics.Topics.{Topics}
use Rattle.part_steps.specs.StayTopics.{has_lock}
use Rattle.mmu_core.specs.orders.ClaimSteps.{FreeMap, claim_over, map_area}
use Rattle.mmu_core.specs.lines.PartWaits.{is_owing, saw_open}

-- The words of the map up to this one are 0: no page or frame of theirs is free.
abbrev pub NoneFreeBefore : (ℕ → ℕ) → ℕ → Type 0
NoneFreeBefore map word = (i : ℕ) → i < word → map i ≡ 0

-- Nothing is free in the words before the one that the claim has come to, and what it saw free in this one is free still.
pub record ScanStands (map : ℕ → ℕ) (claim : MapClaim) : Type 0 where
  pub before : NoneFreeBefore map claim.at
  pub seen : 0 < claim.seen → map claim.at ≡ claim.seen

-- The actor owes the lock no reader; under the lock it saw no invalidation of others open; where it has a scan of a map, this stands; and in a section the
-- snapshot that it has taken is the sequence number.
pub record SeenStands (has_scan : FreeMap → Type 0) (words : Area → ℕ → ℕ) (t : Topics) : Type 0 where
  pub owes_none : is_owing t.hold ≡ false
  pub saw_closed : has_lock t.hold ≡ true → saw_open t.invalidations ≡ false
  pub scan : (map : FreeMap) → has_scan map → ScanStands (words (map_area map)) (claim_over map t)
  pub snapshot : t.stay ≡ Section → (s : ℕ) → t.invalidations.snapshot ≡ Some s → s ≡ words area.Seq 0
