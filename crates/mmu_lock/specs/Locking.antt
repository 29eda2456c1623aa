-- What comes of trying for the lock, and of giving it back (locking.rst, mmu_lock).
use Rattle.std.specs.Prelude.{◌≡◌, ◌≢◌, ℕ, true, Option, Some, None}
use Rattle.core_views.specs.declared.progress.Seen.{Seen}
use Rattle.core_views.specs.declared.topics.Hold.{Hold}
use Rattle.core_views.specs.declared.topics.Hold.TheVariants.{Loose, Shared, Owing, Exclusive}
use Rattle.core_views.specs.declared.topics.Topics.{Topics}
use Rattle.part_steps.specs.declared.part_step.PartStep.{PartStep}
use Rattle.part_steps.specs.declared.part_step.PartStep.TheVariants.{Exclude, Release, Unshare}
use Rattle.part_steps.specs.StayTopics.{flush_kept, let_go, unchecked}
use Rattle.part_steps.specs.ControlBits.{has_writer}
use Rattle.mmu_core.specs.alone.OthersRest.{NoOtherHasLock, NoneHasLockAlone, OthersRest}
use Rattle.mmu_core.specs.orders.ShareSteps.{share_part}
use Rattle.mmu_core.specs.machine.Enabled.{mmu}
use Rattle.mmu_core.specs.machine.Machine.{World, effect}
use Rattle.part_steps.specs.PartTasks.{part_kind}
use Rattle.step_seats.specs.Machines.{Machine, seat_in}
use Rattle.step_seats.specs.Moves.{step_by}
use Rattle.step_seats.specs.PartTurns.{MadePart, WherePartMade}
use Rattle.step_seats.specs.Seats.{Seat}
use Rattle.step_seats.specs.Where.{OfEachWorld}
use Rattle.core_views.specs.Held.{Held}
use Rattle.mmu_lock.specs.declared.lock.Lock.{Lock}
use Rattle.mmu_lock.specs.declared.lock.Lock.TheVariants as lock
use Rattle.step_seats.specs.declared.turn.Turn.{Turn}
use Rattle.step_seats.specs.declared.turn.Turn.TheVariants.{More, Wait, Retry, Done}

-- which step gives the lock back
abbrev pub unlock_step : Hold → PartStep
unlock_step Exclusive = Release
unlock_step _ = Unshare

-- what is held where the actor holds the lock so now: the check of a look-up begins anew
abbrev pub holding : Hold → Topics → Topics
holding hold t = record t { hold = hold; invalidations = unchecked t.invalidations }

-- what is held where the actor has the lock held_alone from now on: no virtual processor was asked for a flush, but for an open invalidation of its own
abbrev pub held_alone : Topics → Topics
held_alone t = record (holding Exclusive t) { flush = flush_kept true t }

-- A reader's try: it goes on where a writer was found, which is then remembered; it is over where the actor shares the lock, or where it
-- has taken itself out again, with the word that it had found, which has a writer in it. Nothing else that the actor holds has changed,
-- but for what it held of tables and slot sets under the lock held_alone.
abbrev pub TriedShared : Turn Lock → Topics → Topics → Type 0
TriedShared More before after = (word : ℕ) × (has_writer word ≡ true) × (before.hold ≡ Loose) × (after ≡ holding (Owing word) before)
TriedShared (Done lock.Got) before after = (before.hold ≡ Loose) × (after ≡ holding Shared before)
TriedShared (Done (lock.Held word)) before after = (before.hold ≡ Owing word) × (has_writer word ≡ true) × (after ≡ let_go before)
TriedShared (Wait seen) before after = ⊥
TriedShared (Retry cause) before after = ⊥

-- the word that a writer's try has found
abbrev pub lock_found : Lock → ℕ
lock_found lock.Got = 0
lock_found (lock.Held word) = word

-- A writer's try: the actor has the lock held_alone, or the word that was found isn't 0 and it holds the lock as before.
abbrev pub TriedExclusive : Lock → Topics → Topics → Type 0
TriedExclusive lock.Got before after = after ≡ held_alone before
TriedExclusive (lock.Held word) before after = (word ≢ 0) × (after ≡ holding before.hold before)

-- what is in the way of a writer's try, in this word of the machine
abbrev pub lock_way : ℕ → Lock → Option Seen
lock_way word lock.Got = None
lock_way word (lock.Held value) = Some (record { word = word; value = value })

-- The lock is given back: the actor doesn't hold it any more, nor what it held of tables and slot sets under the lock held_alone.
abbrev pub GaveBack : Topics → Topics → Type 0
GaveBack before after = after ≡ let_go before

-- A reader's try that got the lock: where it was made, no actor has the lock held_alone then.
abbrev pub SharesBesideNoWriter : Turn Lock → ℕ → Seat → Seat → Type 0
SharesBesideNoWriter turn note before after =
    turn ≡ Done lock.Got → WherePartMade (share_part before.hand.topics.hold) note before after (λ w v. NoneHasLockAlone v)

-- A reader's first try, where it was made while all other actors rest, got the lock.
abbrev pub SharesWhereOthersRest : Turn Lock → ℕ → Seat → Seat → Type 0
SharesWhereOthersRest turn note before after =
    before.hand.topics.hold ≡ Loose
    → WherePartMade (share_part before.hand.topics.hold) note before after (λ w v. OthersRest before.actor w → turn ≡ Done lock.Got)

-- A writer's try that got the lock: where it was made, no other actor has the lock then.
abbrev pub ExcludesAllOthers : Lock → ℕ → Seat → Seat → Type 0
ExcludesAllOthers answer note before after = answer ≡ lock.Got → WherePartMade Exclude note before after (λ w v. NoOtherHasLock before.actor v)

-- A writer's try, where it was made while all other actors rest, got the lock.
abbrev pub ExcludesWhereOthersRest : Lock → ℕ → Seat → Seat → Type 0
ExcludesWhereOthersRest answer note before after = WherePartMade Exclude note before after (λ w v. OthersRest before.actor w → answer ≡ lock.Got)

-- the seat of the machine's actor at a place, if it told neither the world nor the steps
abbrev pub untold_in : Machine → ℕ → Seat
untold_in m actor = record (seat_in m None actor) { tells = record { world = None; steps = None } }

-- It holds of each world in which a writer's exchange may have been made with its answer, and of the world after it.
abbrev pub OfEachExchange : Seat → Seat → (World Held → World Held → Type 0) → Type 0
OfEachExchange before after P =
    OfEachWorld (part_kind before.hand Exclude 0) before.actor before.hand after.hand
    (λ w. P w (effect mmu w (step_by before.actor (part_kind before.hand Exclude 0))))

-- A writer's try of a seat that tells no world: one step, which found what the try answers. Of each world in which its exchange may have
-- been made: where it got the lock, no other actor has it then; and where all other actors rest, it got it.
pub record ExchangedUntold (answer : Lock) (before after : Seat) : Type 0 where
  pub step : MadePart Exclude 0 (lock_found answer) before after
  pub sole : answer ≡ lock.Got → OfEachExchange before after (λ w v. NoOtherHasLock before.actor v)
  pub alone : OfEachExchange before after (λ w v. OthersRest before.actor w → answer ≡ lock.Got)
