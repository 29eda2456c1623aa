-- What a line knows that splits a large leaf, at each of its places, from what its actor holds alone.
use Rattle.std.specs.Prelude.{◌≡◌, ◌<◌, ◌≤◌, ℕ, Bool, true, false, None, nat_le}
use Rattle.core_views.specs.declared.place.SplitEnd.{SplitEnd}
use Rattle.core_views.specs.declared.place.SplitEnd.TheVariants.{Split, Nothing, Changed, Starved}
use Rattle.core_views.specs.declared.place.SplitPlace.{SplitPlace}
use Rattle.core_views.specs.declared.place.SplitPlace.TheVariants.{Begin, Share, Walk, Claim, Fill, Role, Link, Give, Unshare, End}
use Rattle.core_views.specs.declared.sizes.Sizes.{Sizes}
use Rattle.core_views.specs.declared.topics.Hold.TheVariants.{Loose, Shared}
use Rattle.core_views.specs.declared.topics.Stay.TheVariants.{Section}
use Rattle.core_views.specs.declared.topics.TableWalk.{TableWalk}
use Rattle.core_views.specs.declared.topics.Topics.{Topics}
use Rattle.spte_words.specs.declared.spte_kind.SpteKind.{SpteKind}
use Rattle.spte_words.specs.declared.spte_kind.SpteKind.TheVariants as entry_kind
use Rattle.spte_words.specs.Areas.{words_of_bits}
use Rattle.spte_words.specs.Entries.{kind_of}
use Rattle.part_steps.specs.PartHoldings.{HasRoleToSet, HasToFill, IsOver, OwnsPage, OwnsTable, SawEntry}
use Rattle.part_steps.specs.PartSteps.{IsAtRest}
use Rattle.part_steps.specs.PartTasks.{is_below}
use Rattle.mmu_core.specs.forms.access.FaultHolds.{InSection}
use Rattle.mmu_core.specs.orders.ShareSteps.{is_trying}

-- The guest frame's entry above the lowest level was loaded, and is a leaf.
pub record SawLarge (gfn : ℕ) (walk : TableWalk) : Type 0 where
  pub saw : SawEntry gfn walk
  pub upper : 2 ≤ walk.level
  pub leaf : kind_of walk.level walk.entry ≡ entry_kind.Leaf

-- In a section, sharing the lock, it has come to a large leaf over the guest frame.
pub record Splits (gfn : ℕ) (t : Topics) : Type 0 where
  pub section : t.stay ≡ Section
  pub shares : t.hold ≡ Shared
  pub owes_none : t.owed ≡ None
  pub large : SawLarge gfn t.walk

-- No table takes the place of an entry of this kind and level: one that is absent or frozen, or a leaf of the lowest level.
abbrev pub ends_walk : SpteKind → ℕ → Bool
ends_walk (entry_kind.Table page) level = false
ends_walk entry_kind.Leaf level = nat_le level 1
ends_walk entry_kind.Absent level = true
ends_walk entry_kind.Frozen level = true

-- The guest frame's entry was loaded as this word, at which a walk ends that finds no large leaf.
pub record SawNothing (word gfn : ℕ) (walk : TableWalk) : Type 0 where
  pub saw : SawEntry gfn walk
  pub is : walk.entry ≡ word
  pub ends : ends_walk (kind_of walk.level word) walk.level ≡ true

-- The guest frame's entry was found as this word, where it was to be exchanged.
pub record SawChanged (seen gfn : ℕ) (walk : TableWalk) : Type 0 where
  pub saw : SawEntry gfn walk
  pub is : walk.entry ≡ seen
  pub upper : 2 ≤ walk.level

-- what its end rests on: the walk has gone down to the table that was linked; it has ended where nothing is to be split; the entry was found to be another
-- one; or each word of the map was seen 0
abbrev pub SplitEndKnows : SplitEnd → Sizes → ℕ → Topics → Type 0
SplitEndKnows Split z gfn t = IsOver gfn t.walk
SplitEndKnows (Nothing word) z gfn t = SawNothing word gfn t.walk
SplitEndKnows (Changed seen) z gfn t = SawChanged seen gfn t.walk
SplitEndKnows Starved z gfn t = words_of_bits z.pool ≤ t.claim.at

-- A page is given back only where the entry has changed.
abbrev pub IsChanged : SplitEnd → Type 0
IsChanged (Changed seen) = Unit {0}
IsChanged _ = ⊥

-- what it knows at each place
abbrev pub SplitKnows : SplitPlace → Sizes → ℕ → Topics → Type 0
SplitKnows Begin z gfn t = IsAtRest t
SplitKnows Share z gfn t = InSection t × (is_trying t.hold ≡ true)
SplitKnows (Walk rooted) z gfn t = InSection t × (t.hold ≡ Shared) × (rooted ≡ true → IsOver gfn t.walk)
SplitKnows (Claim begun) z gfn t = Splits gfn t × (t.owned ≡ None) × (begun ≡ true → t.claim.at < words_of_bits z.pool)
SplitKnows Fill z gfn t = Splits gfn t × HasToFill t × (is_below t.walk t.owned ≡ true)
SplitKnows Role z gfn t = Splits gfn t × HasRoleToSet t × (is_below t.walk t.owned ≡ true)
SplitKnows Link z gfn t = Splits gfn t × OwnsTable t
SplitKnows (Give e) z gfn t = (t.stay ≡ Section) × (t.hold ≡ Shared) × OwnsPage t × (t.owed ≡ None) × SplitEndKnows e z gfn t × IsChanged e
SplitKnows (Unshare e) z gfn t = InSection t × (t.hold ≡ Shared) × SplitEndKnows e z gfn t
SplitKnows (End e) z gfn t = InSection t × (t.hold ≡ Loose) × SplitEndKnows e z gfn t
