-- A turn with which the line goes on leaves it fewer steps, where those count once more that its command allows, as long as its stay may miss an entry that
-- another actor took away before: no turn of its own takes one away.
use Rattle.std.proofs.Common.{◌≡◌, ◌<◌, ℕ, List, refl, sym, subst}
use Rattle.std.specs.Prelude.{Bool, true, false, ◌||◌}
use Rattle.core_views.specs.declared.place.Place.{Place}
use Rattle.core_views.specs.Held.{Held}
use Rattle.mmu_core.specs.declared.outcome.Outcome.{Outcome}
use Rattle.mmu_core.specs.declared.outcome.Outcome.TheVariants.{Goes, Ends}
use Rattle.mmu_core.specs.machine.Enabled.{mmu}
use Rattle.mmu_core.specs.alone.LineAlone.{line_waits}
use Rattle.mmu_core.specs.machine.Machine.{World, answered, effect, hand_in}
use Rattle.mmu_core.specs.machine.Steps.{has_line, place_at}
use Rattle.mmu_laws.specs.turns.TurnLaws.{begins_anew}
use Rattle.mmu_core.specs.machine.Turns.{line_of, outcome_of}
use Rattle.mmu_core.specs.machine.Worlds.{Reachable}
use Rattle.mmu_laws.proofs.turns.OwnTurns.{own_turns_fall, turns_left}
use Rattle.turn_loops.specs.Turned.{MakesTurn}
use Rattle.turn_loops.specs.Turning.{is_ended}

either_false : (a b : Bool) → (a || b) ≡ false → (a ≡ false) × (b ≡ false)
either_false false false e = (refl, refl)
either_false false true e = absurd (cc e)
either_false true b e = absurd (cc e)

not_ended : (o : Outcome) → is_ended o ≡ false → (p : Place) × (o ≡ Goes p)
not_ended (Goes p) e = (p, refl)
not_ended (Ends answer) e = absurd (cc e)

pub goes_nearer : (actor : ℕ) (w t : World Held) (bytes : List ℕ) → Reachable w → MakesTurn actor w t false bytes → turns_left t actor < turns_left w actor
goes_nearer actor w t bytes reached M =
    let s = M.step in
    let h : Held = hand_in mmu w s.actor in
    let v : ℕ = answered mmu w s.kind in
    let one =
    either_false (line_waits (place_at h.state.place h) (line_of h).command h v)
    (begins_anew (place_at h.state.place h) || is_ended (outcome_of h v)) M.stops_ in
    let two = either_false (begins_anew (place_at h.state.place h)) (is_ended (outcome_of h v)) one.1 in
    let going = not_ended (outcome_of h v) two.1 in
    let left : has_line h ≡ true = subst (λ (a : ℕ). has_line (hand_in mmu w a) ≡ true) (sym M.turn.own) M.turn.left in
    let less = own_turns_fall w s reached M.comes.legal.0 left one.0 two.0 going.0 going.1 in
    subst (λ (x : World Held). turns_left x actor < turns_left w actor) M.comes.ends
    (subst (λ (a : ℕ). turns_left (effect mmu w s) a < turns_left w a) M.turn.own less)
