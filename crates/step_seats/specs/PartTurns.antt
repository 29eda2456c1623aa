-- What one step of a part makes of the seat that makes it.
use Rattle.std.specs.Prelude.{◌≡◌, ℕ, Bool, true, false, IfSome, Option, Some, None}
use Rattle.core_views.specs.declared.progress.Seen.{Seen}
use Rattle.core_views.specs.Held.{Held}
use Rattle.part_steps.specs.declared.part_step.PartStep.{PartStep}
use Rattle.part_steps.specs.PartTasks.{part_kind}
use Rattle.part_steps.specs.PartTopics.{part_topics}
use Rattle.mmu_core.specs.machine.Machine.{World}
use Rattle.mmu_core.specs.lines.PartWaits.{part_seen, part_waits}
use Rattle.mmu_core.specs.machine.Steps.{next}
use Rattle.step_seats.specs.Moves.{Adds, ToldBy}
use Rattle.step_seats.specs.Seats.{Seat}
use Rattle.step_seats.specs.Where.{AnsweredThere, HasHand, WhereMade}
use Rattle.step_seats.specs.declared.turn.Turn.{Turn}
use Rattle.step_seats.specs.declared.turn.Turn.TheVariants.{More, Wait, Retry, Done}

-- It holds where the step of a part was made.
abbrev pub WherePartMade : PartStep → ℕ → Seat → Seat → (World Held → World Held → Type 0) → Type 0
WherePartMade step note before after P = WhereMade (part_kind before.hand step note) before after P

-- The actor made this step of a part, which answered so: its hand is the next one, it holds what the part says, what its seat
-- tells goes on by this step, and the step answers so where it was made.
pub record MadePart (step : PartStep) (note found : ℕ) (before after : Seat) : Type 0 where
  pub hand : after.hand ≡ next before.hand (part_kind before.hand step note) found
  pub topics : after.hand.topics ≡ part_topics step before.hand.topics found
  pub has : IfSome before.tells.world (HasHand before.actor before.hand)
  pub world : ToldBy before.tells.world before.actor (part_kind before.hand step note) found after.tells.world
  pub steps : Adds before.tells.steps before.actor (part_kind before.hand step note) after.tells.steps
  pub answers : AnsweredThere (part_kind before.hand step note) found before after

-- The turn is to be made again: another actor is in its way.
abbrev pub waits : {A : Type 0} → Turn A → Bool
waits (Wait seen) = true
waits More = false
waits (Retry cause) = false
waits (Done answer) = false

-- what is in its way then
abbrev pub in_way : {A : Type 0} → Turn A → Option Seen
in_way (Wait seen) = Some seen
in_way More = None
in_way (Retry cause) = None
in_way (Done answer) = None

-- The actor made this step of a part with a turn that waits exactly where the step does, by what the actor held and what the step answered.
pub record TurnsPart (turn_waits : Bool) (step : PartStep) (note : ℕ) (before after : Seat) : Type 0 where
  pub found : ℕ
  pub made : MadePart step note found before after
  pub waits_as : turn_waits ≡ part_waits step before.hand.topics found

-- The actor made this step of a part, whatever it answered.
pub record MakesPart (step : PartStep) (note : ℕ) (before after : Seat) : Type 0 where
  pub found : ℕ
  pub made : MadePart step note found before after

-- Where the step waits, this is what it has seen in its way, and else there is nothing.
abbrev pub ToldWay : Option Seen → Bool → Seen → Type 0
ToldWay (Some seen) waits way = (waits ≡ true) × (seen ≡ way)
ToldWay None waits way = waits ≡ false

-- The actor made this step of a part, of which this was found, and what is in its way is told.
pub record MadeTelling (way : Option Seen) (step : PartStep) (note : ℕ) (before after : Seat) : Type 0 where
  pub found : ℕ
  pub made : MadePart step note found before after
  pub told_way : ToldWay way (part_waits step before.hand.topics found) (part_seen step before.hand found)
