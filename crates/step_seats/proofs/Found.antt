-- What a step of a part found is what it answers of the words of the world that its seat told.
use Rattle.std.proofs.Common.{◌≡◌, ◌<◌, ℕ, Option, Some, None, length, sym, subst, ap, ◌∙◌}
use Rattle.std.specs.Prelude.{IfSome}
use Rattle.std.proofs.Math.Logic.{∥∥₁_elim}
use Rattle.std.proofs.Props.{props}
use Rattle.core_views.specs.declared.sizes.Sizes.{Sizes}
use Rattle.core_views.specs.Held.{Held}
use Rattle.part_steps.specs.declared.part_step.PartStep.{PartStep}
use Rattle.mmu_core.specs.machine.Enabled.{mmu}
use Rattle.mmu_core.specs.machine.Machine.{World, answered, hand_in}
use Rattle.part_steps.specs.PartTasks.{own_index, part_kind, part_task}
use Rattle.part_steps.specs.PartSteps.{PartNeeds}
use Rattle.mmu_core.specs.machine.View.{answer_in, word_in}
use Rattle.mmu_core.specs.machine.Worlds.{Reachable}
use Rattle.mmu_core.proofs.invariant.AloneLaws.{part_found}
use Rattle.mmu_core.proofs.start.Starts.{reached_good}
use Rattle.step_seats.specs.Moves.{ToldBy}
use Rattle.step_seats.specs.PartTurns.{MadePart}
use Rattle.step_seats.specs.Seats.{Seat}
use Rattle.step_seats.specs.Where.{HasHand}

-- what the step answers of the words of the world
abbrev pub Answers : PartStep → ℕ → ℕ → Held → World Held → Type 0
Answers step note found h w = found ≡ answer_in (part_task step (own_index h) h.topics note) (word_in h.state.sizes w)

answers_in : (w : World Held) (a note : ℕ) (step : PartStep) → Reachable w → a < length w.hands → PartNeeds step (hand_in mmu w a)
    → Answers step note (answered mmu w (part_kind (hand_in mmu w a) step note)) (hand_in mmu w a) w
answers_in w a note step r there N =
    let G = reached_good w r in
    let lt = subst (λ n. a < n) G.hands there in
    let h : Held = hand_in mmu w a in
    let same : h.state.sizes ≡ r.sizes = (G.holds.lines a lt).sizes in
    part_found r.sizes w a step note G lt N ∙ ap (λ (z : Sizes). answer_in (part_task step (own_index h) h.topics note) (word_in z w)) (sym same)

pub answers : (w : World Held) (a note found : ℕ) (step : PartStep) (h : Held) → HasHand a h w → PartNeeds step h
    → answered mmu w (part_kind h step note) ≡ found → Answers step note found h w
answers w a note found step h has N is =
    let needs : PartNeeds step (hand_in mmu w a) = subst (λ (x : Held). PartNeeds step x) (sym has.is) N in
    let of_its : Answers step note (answered mmu w (part_kind (hand_in mmu w a) step note)) (hand_in mmu w a) w =
    ∥∥₁_elim has.reached (hlevel props) (λ r. answers_in w a note step r has.there needs) in
    sym is ∙ subst (λ (x : Held). Answers step note (answered mmu w (part_kind x step note)) x w) has.is of_its

answers_told : (before : Option (World Held)) (a note found : ℕ) (step : PartStep) (h : Held) (after : Option (World Held))
    → IfSome before (HasHand a h) → ToldBy before a (part_kind h step note) found after → PartNeeds step h → IfSome before (Answers step note found h)
answers_told None a note found step h after has tells N = tt
answers_told (Some w) a note found step h after has tells N = answers w a note found step h has N tells.1

pub found_told : (step : PartStep) (note found : ℕ) (before after : Seat) → MadePart step note found before after → PartNeeds step before.hand
    → IfSome before.tells.world (Answers step note found before.hand)
found_told step note found before after made N =
    answers_told before.tells.world before.actor note found step before.hand after.tells.world made.has made.world N
