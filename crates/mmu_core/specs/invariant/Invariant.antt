-- What holds of the words and hands at every moment: a part for each topic, each in a file of its own, over the columns that it names.
use Rattle.std.specs.Prelude.{◌≡◌, ◌<◌, ℕ}
use Rattle.core_views.specs.declared.actor.Actor.TheVariants.{Manager}
use Rattle.core_views.specs.declared.sizes.Sizes.{Sizes}
use Rattle.core_views.specs.Held.{Held}
use Rattle.core_views.specs.Sizes.{AreSizes, actors_of}
use Rattle.spte_words.specs.declared.area.Area.TheVariants as area
use Rattle.mmu_core.specs.machine.View.{View}
pub use Rattle.mmu_core.specs.invariant.SlotSetPart.{SlotSetPart, IsLiveIn}
pub use Rattle.mmu_core.specs.invariant.CachedPart.{CachedPart, IsLeafFor}
pub use Rattle.mmu_core.specs.lines.Forms.{KnowsPart, RetiresPart, Holds}
pub use Rattle.mmu_core.specs.invariant.LinesPart.{IsSetBy, UnderWay, OwnLines}
pub use Rattle.mmu_core.specs.invariant.RecordPart.{RecordPart}

-- All parts, of the columns of words and the column of hands; the published slot set stands in this page.
pub record InvariantOf (z : Sizes) (set : ℕ) (role pool : ℕ → ℕ) (hand : ℕ → Held) : Type 0 where
  pub sizes : AreSizes z
  pub set_part : SlotSetPart z set role pool
  pub lines : (i : ℕ) → i < actors_of z → OwnLines z i (hand i)
  pub loads : (i : ℕ) → i < actors_of z → Holds z pool set (hand i).state.place (hand i).state.line.command (hand i)
  pub knows : (i : ℕ) → i < actors_of z → KnowsPart (hand i).state.place (hand i).state.line.command (hand i)
  pub leaves : (i : ℕ) → i < actors_of z → RetiresPart (hand i).state.place (hand i).topics
  pub cached : (i : ℕ) → i < actors_of z → CachedPart z (hand i).cached.items
  pub recorded : (i : ℕ) → i < actors_of z → (hand i).state.actor ≡ Manager → RecordPart pool set (hand i).slots

abbrev pub Invariant : Sizes → View → Type 0
Invariant z v = InvariantOf z (v.words area.Slots 0) (v.words area.Role) (v.words area.Pool) v.hand
