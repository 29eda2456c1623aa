-- A watch of all other actors (locking.rst, the grace periods of RCU and SRCU): at whom it looks, and what comes of a look.
use Rattle.std.specs.Prelude.{◌≡◌, ◌+◌, ◌-◌, ◌<◌, ◌≤◌, ℕ, Bool, true, false, if◌then◌else◌}
use Rattle.core_views.specs.declared.topics.Topics.{Topics}
use Rattle.core_views.specs.Held.{Held}
use Rattle.core_views.specs.Sizes.{actors_of}
use Rattle.spte_words.specs.declared.area.Area.TheVariants.{State}
use Rattle.spte_words.specs.Areas.{place}
use Rattle.part_steps.specs.declared.part_step.PartStep.TheVariants as part
use Rattle.part_steps.specs.PartTasks.{own_index}
use Rattle.part_steps.specs.PartHoldings.{next_watched}
use Rattle.part_steps.specs.Tasks.{map_of}
use Rattle.part_steps.specs.ControlBits.{in_section}
use Rattle.step_seats.specs.Seats.{Seat}
use Rattle.step_seats.specs.declared.turn.Turn.{Turn}
use Rattle.step_seats.specs.declared.turn.Turn.TheVariants.{More, Wait, Retry, Done}
use Rattle.step_seats.specs.PartTurns.{MadePart, WherePartMade, waits}
use Rattle.mmu_core.specs.alone.OthersRest.{OthersRest}

-- what a watch keeps: whether it has looked at an actor yet
pub record Watching : Type 0 where
  pub has_looked : Bool

-- the actor at whom the next turn looks: at first the first one, and then the next after those that were watched, but never its own
abbrev pub watched_next : Watching → Held → ℕ
watched_next watch h = next_watched (own_index h) (if watch.has_looked then h.topics.watched else 0)

-- how many actors there are from that one on
abbrev pub actors_left : Watching → Held → ℕ
actors_left watch h = actors_of h.state.sizes - watched_next watch h

-- the actor that a watch comes to after the one at a place
abbrev pub next_behind : Held → ℕ → ℕ
next_behind h index = next_watched (own_index h) (index + 1)

-- the watch is over
abbrev pub is_done : Turn (Unit {0}) → Bool
is_done More = false
is_done (Wait seen) = false
is_done (Retry cause) = false
is_done (Done answer) = true

-- A turn that looked at the actor at this place, and what the watch has come to. Where the state word has bit 1 set, the turn waits for
-- this word, and the watch stands at this actor still. Else it is after this actor, and is done exactly where no other actor is left.
-- No other topic has changed.
abbrev pub Watched : Turn (Unit {0}) → ℕ → Held → Topics → Type 0
Watched (Wait seen) index h after =
    (seen.word ≡ place (map_of h.state.sizes) State index) × (in_section seen.value ≡ true) × (after ≡ record h.topics { watched = index })
Watched (Retry cause) index h after = ⊥
Watched More index h after = (next_behind h index < actors_of h.state.sizes) × (after ≡ record h.topics { watched = index + 1 })
Watched (Done answer) index h after = (actors_of h.state.sizes ≤ next_behind h index) × (after ≡ record h.topics { watched = index + 1 })

-- A number that the look may have found: where the turn waits, the one that it tells; else one with bit 1 clear.
abbrev pub MayBeFound : Turn (Unit {0}) → ℕ → Type 0
MayBeFound (Wait seen) found = found ≡ seen.value
MayBeFound (Retry cause) found = ⊥
MayBeFound More found = in_section found ≡ false
MayBeFound (Done answer) found = in_section found ≡ false

-- The look at the actor at this place found such a number.
pub record IsFoundBy (turn : Turn (Unit {0})) (index note : ℕ) (before after : Seat) : Type 0 where
  pub found : ℕ
  pub may : MayBeFound turn found
  pub made : MadePart (part.Watch index) note found before after

-- Where the look was made while all other actors rest, it doesn't wait.
abbrev pub GoesOnWhereOthersRest : Turn (Unit {0}) → Watching → ℕ → Seat → Seat → Type 0
GoesOnWhereOthersRest turn watch note before after =
    WherePartMade (part.Watch (watched_next watch before.hand)) note before after (λ w v. OthersRest before.actor w → waits turn ≡ false)
