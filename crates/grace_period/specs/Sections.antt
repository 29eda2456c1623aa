-- What the state word of an actor tells of its section.
use Rattle.std.specs.Prelude.{◌≡◌, ℕ, true, false}
use Rattle.core_views.specs.declared.sizes.Sizes.{Sizes}
use Rattle.core_views.specs.Held.{Held}
use Rattle.spte_words.specs.declared.area.Area.TheVariants.{State}
use Rattle.mmu_core.specs.machine.Machine.{World}
use Rattle.part_steps.specs.ControlBits.{in_section}
use Rattle.mmu_core.specs.machine.View.{word_in}
use Rattle.part_steps.specs.declared.part_step.PartStep.TheVariants.{Begin, End}
use Rattle.step_seats.specs.PartTurns.{WherePartMade}
use Rattle.step_seats.specs.Seats.{Seat}

-- The state word of the actor at this place has bit 1 set: it is in a section or in the guest.
abbrev pub IsTold : Sizes → ℕ → World Held → Type 0
IsTold z actor w = in_section (word_in z w State actor) ≡ true

-- It has bit 1 clear.
abbrev pub IsUntold : Sizes → ℕ → World Held → Type 0
IsUntold z actor w = in_section (word_in z w State actor) ≡ false

-- Where the begin of a section was made, the actor's state word tells the section then.
abbrev pub TellsItsBegin : ℕ → Seat → Seat → Type 0
TellsItsBegin note before after = WherePartMade Begin note before after (λ w v. IsTold after.hand.state.sizes before.actor v)

-- Where the end of a section was made, it tells none then.
abbrev pub TellsItsEnd : ℕ → Seat → Seat → Type 0
TellsItsEnd note before after = WherePartMade End note before after (λ w v. IsUntold after.hand.state.sizes before.actor v)
