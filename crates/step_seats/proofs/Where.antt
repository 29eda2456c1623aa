-- What holds where a step was made: from what holds in each world in which it may have been made; and what follows of the worlds that are told.
use Rattle.std.proofs.Common.{◌≡◌, ◌<◌, ℕ, Option, Some, None, refl, sym, subst, ap, ◌∙◌}
use Rattle.std.proofs.Math.Logic.{∥∥₁_map}
use Rattle.std.specs.Prelude.{IfSome}
use Rattle.core_views.specs.declared.kind.Kind.{Kind}
use Rattle.core_views.specs.Held.{Held}
use Rattle.part_steps.specs.declared.part_step.PartStep.{PartStep}
use Rattle.part_steps.specs.PartTasks.{part_kind}
use Rattle.mmu_core.specs.machine.Enabled.{mmu}
use Rattle.mmu_core.specs.machine.Machine.{World, answered, effect}
use Rattle.mmu_core.specs.machine.Steps.{next}
use Rattle.mmu_core.proofs.machine.Extend.{goes_on, hands_of_effect}
use Rattle.mmu_core.proofs.machine.LineRuns.{own_hand}
use Rattle.step_seats.specs.Moves.{ToldBy, step_by}
use Rattle.step_seats.specs.PartTurns.{MadePart}
use Rattle.step_seats.specs.Seats.{Seat}
use Rattle.step_seats.specs.Where.{AnsweredThere, HasHand, IsMadeIn, OfMade, OfWorld, WhereMade}

-- the world that a step leads to from one in which it may be made
abbrev pub after_step : Kind → ℕ → World Held → World Held
after_step k a w = effect mmu w (step_by a k)

-- The world after the step is one that steps lead to, and has the hand after it.
pub has_after : (k : Kind) (a : ℕ) (h g : Held) (w : World Held) → IsMadeIn k a h g w → HasHand a g (after_step k a w)
has_after k a h g w M = record {
  reached =
      ∥∥₁_map M.has.reached (λ r.
      record { sizes = r.sizes; lines = r.lines; start = r.start; is_start = r.is_start; leads = goes_on mmu r.start w (step_by a k) r.leads M.may });
  there = subst (λ n. a < n) (sym (hands_of_effect mmu w (step_by a k))) M.has.there;
  is = own_hand w (step_by a k) M.has.there ∙ ap (λ (x : Held). next x k (answered mmu w k)) M.has.is ∙ sym M.hand;
}

-- the seat, if it told this world alone
abbrev pub telling : World Held → Seat → Seat
telling w s = record s { tells = record { world = Some w; steps = None } }

-- What follows from the step and its answer, of each world in which it may have been made, holds where the step was made.
pub where_answered : (k : Kind) (found : ℕ) (before after : Seat) {Q : World Held → Type 0} → AnsweredThere k found before after
    → ((w : World Held) → IsMadeIn k before.actor before.hand after.hand w → answered mmu w k ≡ found → Q w)
    → OfMade before.tells.world k before.actor before.hand after.hand Q
where_answered k found before after {Q = Q} there each = of_made before.tells.world there
  where
    of_made : (x : Option (World Held)) → OfWorld x (λ w. IsMadeIn k before.actor before.hand after.hand w × (answered mmu w k ≡ found))
        → OfMade x k before.actor before.hand after.hand Q
    of_made (Some w) p = (p.0, each w p.0 p.1)
    of_made None p = record { found = found; some = p; each = each }

pub where_made : {step : PartStep} {note found : ℕ} {before after : Seat} {Q : World Held → Type 0} → MadePart step note found before after
    → ((w : World Held) → MadePart step note found (telling w before) (telling (after_step (part_kind before.hand step note) before.actor w) after)
    → HasHand before.actor after.hand (after_step (part_kind before.hand step note) before.actor w) → Q w)
    → OfMade before.tells.world (part_kind before.hand step note) before.actor before.hand after.hand Q
where_made {step = step} {note = note} {found = found} {before = before} {after = after} {Q = Q} made each =
    where_answered (part_kind before.hand step note) found before after {Q = Q} made.answers
    (λ w there is. each w
    (record { hand = made.hand; topics = made.topics; has = there.has; world = (there.may, is, refl); steps = refl; answers = (there, is) })
    (has_after (part_kind before.hand step note) before.actor before.hand after.hand w there))

-- a fact of the world that was told before a step and of the one that is told after it, where both are told
abbrev pub ToldBoth : Option (World Held) → Option (World Held) → (World Held → World Held → Type 0) → Type 0
ToldBoth before after P = IfSome before (λ w. IfSome after (λ t. P w t))

-- Where the worlds are told, what holds where the step was made holds of them.
pub where_told : (k : Kind) (found : ℕ) (before after : Seat) (P : World Held → World Held → Type 0)
    → ToldBy before.tells.world before.actor k found after.tells.world
    → WhereMade k before after P → ToldBoth before.tells.world after.tells.world P
where_told k found before after P moves holds = both before.tells.world after.tells.world moves holds
  where
    both : (x y : Option (World Held)) → ToldBy x before.actor k found y
        → OfMade x k before.actor before.hand after.hand (λ w. P w (after_step k before.actor w)) → ToldBoth x y P
    both None y m p = tt
    both (Some w) y m p = subst (λ o. IfSome o (P w)) (sym m.2) p.1

pub where_told_before : (k : Kind) (before after : Seat) (P : World Held → Type 0) → WhereMade k before after (λ w t. P w) → IfSome before.tells.world P
where_told_before k before after P holds = there before.tells.world holds
  where
    there : (x : Option (World Held)) → OfMade x k before.actor before.hand after.hand P → IfSome x P
    there None p = tt
    there (Some w) p = p.1

pub where_told_after : (k : Kind) (found : ℕ) (before after : Seat) (P : World Held → Type 0) → ToldBy before.tells.world before.actor k found after.tells.world
    → WhereMade k before after (λ w t. P t) → IfSome after.tells.world P
where_told_after k found before after P moves holds = there before.tells.world after.tells.world moves holds
  where
    there : (x y : Option (World Held)) → ToldBy x before.actor k found y
        → OfMade x k before.actor before.hand after.hand (λ w. P (after_step k before.actor w)) → IfSome y P
    there None y m p = subst (λ o. IfSome o P) (sym m) tt
    there (Some w) y m p = subst (λ o. IfSome o P) (sym m.2) p.1
