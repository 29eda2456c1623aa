-- What a step of a part finds where the world is told and the other actors hold nothing; and who has the lock in a told world.
use Rattle.std.proofs.Common.{◌≡◌, ◌≢◌, ℕ, Option, Some, None, sym, subst, ap, ◌∙◌}
use Rattle.std.specs.Prelude.{IfSome, false}
use Rattle.core_views.specs.declared.topics.Hold.TheVariants.{Loose, Shared, Exclusive}
use Rattle.core_views.specs.Held.{Held}
use Rattle.part_steps.specs.declared.part_step.PartStep.TheVariants as part
use Rattle.mmu_core.specs.machine.Enabled.{mmu}
use Rattle.mmu_core.specs.machine.Machine.{World, answered}
use Rattle.mmu_core.specs.alone.OthersRest.{NoOtherHasLock, NoneHasLockAlone, OthersRest}
use Rattle.part_steps.specs.PartTasks.{part_kind}
use Rattle.part_steps.specs.PartSteps.{PartNeeds}
use Rattle.part_steps.specs.ControlBits.{in_section}
use Rattle.mmu_core.proofs.invariant.AloneLaws.{exclude_alone, exclusive_is_sole, share_alone, shared_has_no_writer, watch_alone}
use Rattle.step_seats.specs.Moves.{ToldBy}
use Rattle.step_seats.specs.Where.{HasHand}

-- what holds where a world is told, from what held there before
pub if_some : {X : Type 0} (x : Option X) (P Q : X → Type 0) → ((w : X) → P w → Q w) → IfSome x P → IfSome x Q
if_some None P Q f p = tt
if_some (Some w) P Q f p = f w p

-- both of two facts
pub if_both : {X : Type 0} (x : Option X) (P Q R : X → Type 0) → ((w : X) → P w → Q w → R w) → IfSome x P → IfSome x Q → IfSome x R
if_both None P Q R f p q = tt
if_both (Some w) P Q R f p q = f w p q

-- The lock is found free.
pub share_free : (told tells : Option (World Held)) (actor note found : ℕ) (h : Held) → IfSome told (HasHand actor h)
    → ToldBy told actor (part_kind h part.Share note) found tells → h.topics.hold ≡ Loose → IfSome told (λ w. OthersRest actor w → found ≡ 0)
share_free None tells actor note found h has moves loose = tt
share_free (Some w) tells actor note found h has moves loose = λ others.
    sym moves.1
    ∙ subst (λ (x : Held). answered mmu w (part_kind x part.Share note) ≡ 0) has.is
    (share_alone w actor note has.reached has.there others (ap (λ (x : Held). x.topics.hold) has.is ∙ loose))

pub exclude_free : (told tells : Option (World Held)) (actor note found : ℕ) (h : Held) → IfSome told (HasHand actor h)
    → ToldBy told actor (part_kind h part.Exclude note) found tells → h.topics.hold ≡ Loose → IfSome told (λ w. OthersRest actor w → found ≡ 0)
exclude_free None tells actor note found h has moves loose = tt
exclude_free (Some w) tells actor note found h has moves loose = λ others.
    sym moves.1
    ∙ subst (λ (x : Held). answered mmu w (part_kind x part.Exclude note) ≡ 0) has.is
    (exclude_alone w actor note has.reached has.there others (ap (λ (x : Held). x.topics.hold) has.is ∙ loose))

-- The actor that is looked at is found outside.
pub watch_free : (told tells : Option (World Held)) (actor index note found : ℕ) (h : Held) → IfSome told (HasHand actor h)
    → ToldBy told actor (part_kind h (part.Watch index) note) found tells → index ≢ actor → PartNeeds (part.Watch index) h
    → IfSome told (λ w. OthersRest actor w → in_section found ≡ false)
watch_free None tells actor index note found h has moves ne needs = tt
watch_free (Some w) tells actor index note found h has moves ne needs = λ others.
    ap in_section (sym moves.1)
    ∙ subst (λ (x : Held). in_section (answered mmu w (part_kind x (part.Watch index) note)) ≡ false) has.is
    (watch_alone w actor index note has.reached has.there others ne (subst (PartNeeds (part.Watch index)) (sym has.is) needs))

-- Who has the lock alone is the only one, and who shares it shares it with readers.
pub sole_told : (told : Option (World Held)) (actor : ℕ) (h : Held) → IfSome told (HasHand actor h) → h.topics.hold ≡ Exclusive
    → IfSome told (NoOtherHasLock actor)
sole_told None actor h has alone = tt
sole_told (Some w) actor h has alone = exclusive_is_sole w actor has.reached has.there (ap (λ (x : Held). x.topics.hold) has.is ∙ alone)

pub shared_told : (told : Option (World Held)) (actor : ℕ) (h : Held) → IfSome told (HasHand actor h) → h.topics.hold ≡ Shared → IfSome told NoneHasLockAlone
shared_told None actor h has shared = tt
shared_told (Some w) actor h has shared = shared_has_no_writer w actor has.reached has.there (ap (λ (x : Held). x.topics.hold) has.is ∙ shared)
