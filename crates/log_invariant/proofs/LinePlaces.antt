-- Which lines change no slot, by the form of their place; and what is so of a hand with no line left.
use Rattle.core_views.specs.Held.{Held}
use Rattle.core_views.specs.SlotCommands.{changes_slot}
use Rattle.core_views.specs.declared.place.Place.TheVariants as place
use Rattle.core_views.specs.declared.place.Place.{Place}
use Rattle.core_views.specs.declared.sizes.Sizes.{Sizes}
use Rattle.core_views.specs.declared.trace.Command.{Command}
pub use Rattle.mmu_core.proofs.lines.Forms.{is_slot_change}
use Rattle.mmu_core.proofs.lines.Forms.{changes_no_slot, knows_for}
use Rattle.mmu_core.proofs.machine.Which.{has_line_is}
use Rattle.mmu_core.specs.invariant.Invariant.{Holds, KnowsPart, UnderWay}
use Rattle.mmu_core.specs.lines.Rests.{IsUnderWay}
use Rattle.mmu_core.specs.machine.Steps.{has_line}
use Rattle.std.proofs.Common.{ℕ, ◌≡◌}
use Rattle.std.specs.Prelude.{false}

-- A line of another form than those that change slots changes none.
pub changes_none : (z : Sizes) (pool : ℕ → ℕ) (set : ℕ) (p : Place) (command : Command) (h : Held) → is_slot_change p ≡ false → IsUnderWay p
    → Holds z pool set p command h → KnowsPart p command h → changes_slot command ≡ false
changes_none z pool set p command h other begun holds K = changes_no_slot p command other (knows_for p command h begun K)

-- What is so between lines is so of an actor with no line left.
pub idle_says : (Says : Place → Type 0) (h : Held) → has_line h ≡ false → UnderWay h.state.place h → Says place.Between → Says h.state.place
idle_says Says h none under between = by h.state.place under
  where
    by : (q : Place) → UnderWay q h → Says q
    by place.Between under = between
    by _ under = let has = has_line_is h under.1 in absurd (cc (none, has))
