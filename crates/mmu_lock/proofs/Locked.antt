-- What tries for the lock come to.
use Rattle.std.proofs.Common.{subst, ◌≡◌, ◌≢◌, ◌<◌, ℕ, refl, ap, ◌∙◌, arith}
use Rattle.std.specs.Prelude.{Bool, IfSome, true, false, ◌==◌, if◌then◌else◌}
use Rattle.std.proofs.lemmas.Bool.Decides.{nat_tests}
use Rattle.core_views.specs.declared.topics.Hold.{Hold}
use Rattle.core_views.specs.declared.topics.Hold.TheVariants.{Loose, Shared, Owing, Exclusive}
use Rattle.core_views.specs.declared.topics.Topics.{Topics}
use Rattle.core_views.specs.Held.{Held}
use Rattle.part_steps.specs.declared.part_step.PartStep.TheVariants.{Share}
use Rattle.mmu_core.specs.machine.MayMake.{MayMake}
use Rattle.part_steps.specs.PartSteps.{PartNeeds}
use Rattle.part_steps.specs.ControlBits.{has_writer}
use Rattle.part_steps.specs.StayTopics.{flush_kept, unchecked}
use Rattle.mmu_core.specs.alone.OthersRest.{OthersRest}
use Rattle.part_steps.specs.declared.part_step.PartStep.{PartStep}
use Rattle.step_seats.specs.PartTurns.{MadePart}
use Rattle.step_seats.specs.Seats.{Seat}
use Rattle.step_seats.proofs.AloneTold.{share_free}
use Rattle.mmu_lock.specs.Locking.{held_alone, holding}
use Rattle.mmu_core.specs.orders.ShareSteps.{share_left, share_part}

-- Who isn't owing wants to share, and holds nothing of the lock.
pub wants_share : (h : Held) (note : ℕ) → ((w : ℕ) → h.topics.hold ≡ Owing w → ⊥) → MayMake (share_part h.topics.hold) note h
    → (share_part h.topics.hold ≡ Share) × (h.topics.hold ≡ Loose)
wants_share h note never may = by h.topics.hold refl may.needs
  where
    by : (x : Hold) → h.topics.hold ≡ x → PartNeeds (share_part x) h → (share_part x ≡ Share) × (h.topics.hold ≡ Loose)
    by Loose is needs = (refl, needs)
    by Shared is needs = (refl, needs)
    by Exclusive is needs = (refl, needs)
    by (Owing w) is needs = absurd (never w is)

pub owes_behind : (before after : Topics) (found : ℕ) → after ≡ holding (if has_writer found then Owing found else Shared) before
    → has_writer found ≡ true → after ≡ holding (Owing found) before
owes_behind before after found is seen = is ∙ ap (λ (b : Bool). holding (if b then Owing found else Shared) before) seen

pub shares_behind : (before after : Topics) (found : ℕ) → after ≡ holding (if has_writer found then Owing found else Shared) before
    → has_writer found ≡ false → after ≡ holding Shared before
shares_behind before after found is none = is ∙ ap (λ (b : Bool). holding (if b then Owing found else Shared) before) none

-- what is held after a writer's try, which got the lock or didn't
abbrev pub tried : Bool → Topics → Topics
tried got t = record t { hold = if got then Exclusive else t.hold; invalidations = unchecked t.invalidations; flush = flush_kept got t }

-- A writer's try, won or lost.
pub excludes_behind : (before after : Topics) (found : ℕ) → after ≡ tried (found == 0) before → found ≡ 0 → after ≡ held_alone before
excludes_behind before after found is free = is ∙ ap (λ n. tried (n == 0) before) free

pub keeps_behind : (before after : Topics) (found : ℕ) → after ≡ tried (found == 0) before → found ≢ 0 → after ≡ holding before.hold before
keeps_behind before after found is taken =
    let test : (found == 0) ≡ false = grind (arith, nat_tests) in is ∙ ap (λ (b : Bool). tried b before) test

pub not_free : (n : ℕ) → has_writer n ≡ true → n ≡ 0 → ⊥
not_free n seen is = let none : has_writer n ≡ false = ap has_writer is in cc (seen, none)

-- Who has yet to take itself out has one turn left.
pub fewer_left : (before after : Hold) (word : ℕ) → before ≡ Loose → after ≡ Owing word → share_left after < share_left before
fewer_left before after word loose owes = rw (loose, owes) (omega arith)

-- Where the others hold nothing, who shares the lock finds it free.
pub free_where : (step : PartStep) (note found : ℕ) (before after : Seat) → step ≡ Share → MadePart step note found before after
    → before.hand.topics.hold ≡ Loose
    → IfSome before.tells.world (λ w. OthersRest before.actor w → found ≡ 0)
free_where step note found before after is made loose =
    let shares : MadePart Share note found before after = subst (λ (x : PartStep). MadePart x note found before after) is made in
    share_free before.tells.world after.tells.world before.actor note found before.hand shares.has shares.world loose
