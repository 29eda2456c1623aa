-- Where a slot line gives the old slot set's page back.
use Rattle.std.proofs.Common.{◌≡◌, ◌<◌, ℕ, refl, sym, ap, ◌∙◌, arith}
use Rattle.std.specs.Prelude.{true, false, Some}
use Rattle.core_views.specs.declared.kind.Kind.{Kind}
use Rattle.core_views.specs.declared.kind.StepKind.TheVariants as kind
use Rattle.core_views.specs.Kinds.{code_of}
use Rattle.core_views.specs.declared.place.Place.{Place}
use Rattle.core_views.specs.declared.place.Place.TheVariants as place
use Rattle.core_views.specs.declared.place.SlotChangePlace.{SlotChangePlace}
use Rattle.core_views.specs.declared.place.SlotChangePlace.TheVariants.{Release, End, Watch, WriteProtect, Clear, Give}
use Rattle.core_views.specs.declared.place.EndPlace.{EndPlace}
use Rattle.core_views.specs.declared.place.EndPlace.TheVariants as ends
use Rattle.core_views.specs.declared.sizes.Sizes.{Sizes}
use Rattle.core_views.specs.declared.trace.Command.{Command}
use Rattle.core_views.specs.Held.{Held}
use Rattle.core_views.specs.Sizes.{actors_of}
use Rattle.part_steps.specs.declared.task.Task.{Task}
use Rattle.part_steps.specs.PartTasks.{own_index, part_task}
use Rattle.part_steps.specs.SetHoldings.{MayGiveOld}
use Rattle.mmu_core.specs.machine.Enabled.{mmu}
use Rattle.mmu_core.specs.invariant.Invariant.{KnowsPart, UnderWay, RetiresPart}
use Rattle.mmu_core.specs.invariant.Laws.{IsSound}
use Rattle.mmu_core.specs.machine.Machine.{May, Step, World, hand_in}
use Rattle.mmu_core.specs.lines.PartAt.{task_at}
use Rattle.mmu_core.specs.orders.InvalidateSteps.{end_part}
use Rattle.mmu_core.specs.orders.WriteProtectSteps.{protect_part}
use Rattle.core_views.specs.declared.place.FrameRange.{FrameRange}
use Rattle.core_views.specs.declared.place.WriteProtectPlace.{WriteProtectPlace}
use Rattle.core_views.specs.declared.place.WriteProtectPlace.TheVariants as protect
use Rattle.mmu_core.specs.forms.slot_change.SlotChangeSteps.{slot_change_task}
use Rattle.mmu_core.specs.machine.Steps.{line_at, place_at, task_of}
use Rattle.mmu_core.specs.forms.slot_change.SlotChangeKnows.{SlotChangeKnows}
use Rattle.mmu_core.proofs.machine.Which.{has_line_is, is_next}

-- A page is given back while one is retired: this one, at the last place of a slot line, after the watch.
pub gives_old : (z : Sizes) (u : World Held) (G : IsSound z u) (s : Step Kind) (page : ℕ) → s.actor < actors_of z → May mmu u s
    → s.kind.code ≡ code_of kind.Give → (hand_in mmu u s.actor).topics.retired ≡ Some page
    → ((hand_in mmu u s.actor).state.place ≡ place.SlotChange Give) × MayGiveOld (hand_in mmu u s.actor)
gives_old z u G s page there may gives left =
    by h.state.place h.state.line.command refl refl (G.holds.knows s.actor there) (G.holds.leaves s.actor there) (G.holds.lines s.actor there).under
  where
    h : Held
    h = hand_in mmu u s.actor

    ends_none : (p : EndPlace) → code_of (part_task (end_part p h.topics) (own_index h) h.topics 0).kind ≡ code_of kind.Give → ⊥
    ends_none ends.Exclude e = omega (arith, e)
    ends_none ends.Seq e = omega (arith, e)
    ends_none ends.SetSeq e = omega (arith, e)
    ends_none ends.Count e = omega (arith, e)
    ends_none ends.SetCount e = omega (arith, e)
    ends_none ends.Release e = omega (arith, e)

    protects_none : (p : WriteProtectPlace) (range : FrameRange)
        → code_of (part_task (protect_part p range h.topics) (own_index h) h.topics 0).kind ≡ code_of kind.Give → ⊥
    protects_none protect.Exclude range e = omega (arith, e)
    protects_none (protect.Walk true) range e = omega (arith, e)
    protects_none (protect.Walk false) range e = omega (arith, e)
    protects_none protect.Protect range e = omega (arith, e)
    protects_none protect.Release range e = omega (arith, e)
    protects_none protect.Ask range e = omega (arith, e)
    protects_none protect.Await range e = omega (arith, e)

    old : (p : SlotChangePlace) (command : Command) → SlotChangeKnows p command h → RetiresPart (place.SlotChange p) h.topics
        → code_of (slot_change_task p h command).kind ≡ code_of kind.Give → (place.SlotChange p ≡ place.SlotChange Give) × MayGiveOld h
    old Give command K L e = (refl, K.1)
    old Release command K L e = absurd (omega (arith, e))
    old (End p) command K L e = absurd (ends_none p e)
    old Watch command K L e = absurd (omega (arith, e))
    old (WriteProtect range p) command K L e = absurd (protects_none p range e)
    old Clear command K L e = absurd (omega (arith, e))
    old _ command K L e = let none = L.leaves refl in absurd (cc (none, left))

    by : (p : Place) (c : Command) → h.state.place ≡ p → h.state.line.command ≡ c → KnowsPart p c h → RetiresPart p h.topics → UnderWay p h
        → (h.state.place ≡ place.SlotChange Give) × MayGiveOld h
    by (place.SlotChange p) command at is K L U =
        let N = is_next h s.kind may.enabled (has_line_is h U.1) in
        let task : task_of h ≡ slot_change_task p h command =
        ap (λ q. task_at (place_at q h) (line_at q h).command h) at ∙ ap (λ c. task_at (place.SlotChange p) c h) is in
        let there_now = old p command K.1 L (ap (λ (t : Task). code_of t.kind) (sym task) ∙ (sym (ap (λ (k : Kind). k.code) N.is) ∙ gives)) in
        (at ∙ there_now.0, there_now.1)
    by _ c at is K L U = let none = L.leaves refl in absurd (cc (none, left))
