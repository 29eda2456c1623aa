-- Each step with which a guest touches memory tells its access: no part makes such a step, and no line at another place.
use Rattle.std.proofs.Common.{◌≡◌, ◌⊎◌, inl, inr, ◌<◌, ℕ, suc, List, [], ◌∷◌, ◌++◌, refl, sym, subst, ap, ◌∙◌, arith}
use Rattle.std.specs.List.{Contains}
use Rattle.std.specs.Prelude.{Bool, Option, map, true, false}
use Rattle.core_views.specs.declared.event.Event.{Event}
use Rattle.core_views.specs.declared.event.EventKind.{EventKind}
use Rattle.core_views.specs.declared.event.EventKind.TheVariants.{Accessed}
use Rattle.core_views.specs.declared.kind.Kind.{Kind}
use Rattle.core_views.specs.declared.place.AccessPlace.TheVariants.{Enter, Pause, Root, Walk, Touch, Leave, Fault}
use Rattle.core_views.specs.declared.place.Place.{Place}
use Rattle.core_views.specs.declared.place.Place.TheVariants as place
use Rattle.core_views.specs.declared.sizes.Sizes.{Sizes}
use Rattle.core_views.specs.declared.topics.Topics.{Topics}
use Rattle.core_views.specs.declared.trace.Command.{Command}
use Rattle.core_views.specs.declared.trace.Command.TheVariants.{Access}
use Rattle.core_views.specs.declared.trace.Op.{Op}
use Rattle.core_views.specs.declared.trace.Op.TheVariants.{Add, Read, Write}
use Rattle.core_views.specs.Held.{Held}
use Rattle.core_views.specs.Kinds.{kind_named}
use Rattle.core_views.specs.Sizes.{actors_of}
use Rattle.part_steps.specs.declared.part_step.PartStep.{PartStep}
use Rattle.part_steps.specs.declared.part_step.PartStep.TheVariants as part
use Rattle.part_steps.specs.declared.task.Task.{Task}
use Rattle.part_steps.specs.PartTasks.{own_index, part_task}
use Rattle.part_steps.specs.Tasks.{kind_of_task}
use Rattle.mmu_core.specs.forms.access.AccessSteps.{task_by, touch_of}
use Rattle.mmu_core.specs.forms.access.Cached.{frame_used}
use Rattle.mmu_core.specs.forms.access.FaultSteps.{fault_part}
use Rattle.mmu_core.specs.lines.Forms.{RestsAt, note_at, outcome_at, tells_at}
use Rattle.mmu_core.specs.lines.PartAt.{task_at, touch_at}
use Rattle.mmu_core.specs.machine.Enabled.{mmu}
use Rattle.mmu_core.specs.machine.Machine.{answered, hand_in}
use Rattle.mmu_core.specs.machine.Outcomes.{answering}
use Rattle.mmu_core.specs.machine.Steps.{beginning, events_by, events_of, has_line, place_at, task_of}
use Rattle.mmu_core.specs.machine.Turns.{line_of}
use Rattle.mmu_core.proofs.lines.Forms.{RestsOnPart, other_rests}
use Rattle.mmu_core.proofs.machine.Views.{named_is}
use Rattle.mmu_core.proofs.machine.Which.{is_next, is_part}
use Rattle.mmu_laws.specs.steps.EventLaws.{kind_for}
use Rattle.mmu_laws.specs.steps.TouchLaws.{TellsAccess, TouchesAreTold, touches}

-- No step of a part touches.
part_touches_not : (step : PartStep) (own : ℕ) (t : Topics) (note : ℕ) → touches (part_task step own t note).kind ≡ false
part_touches_not part.Enter own t note = refl
part_touches_not _ own t note = refl

has_mapped : (f : EventKind → Event) (before after : List EventKind) (event : EventKind) → Contains (map f (before ++ event ∷ after)) (f event)
has_mapped f [] after event = (0, omega arith, refl)
has_mapped f (x ∷ before) after event =
    let has = has_mapped f before after event in
    (suc has.0, omega (arith, has.1), has.2)

touch_named : (z : Sizes) (op : Op) (index : ℕ) → kind_named (kind_of_task z (touch_of op index)).code ≡ kind_for op
touch_named z Read index = refl
touch_named z (Write x) index = refl
touch_named z (Add x) index = refl

module _ (h : Held) (v : ℕ) (before after : List EventKind) where
  abbrev z : Sizes
  z = h.state.sizes

  told : EventKind → Event
  told event = record { actor = h.state.actor; kind = event }

  abbrev Tells : Place → Command → Type 0
  Tells p command =
      TellsAccess z h (kind_of_task z (task_at p command h)) v
      (map (λ kind. record { actor = h.state.actor; kind = kind }) (before ++ (tells_at p command h v ++ after)))

  not_by : {A : Type 0} (step : PartStep) (note : ℕ) → touches (part_task step (own_index h) h.topics note).kind ≡ true → A
  not_by step note is = let not = part_touches_not step (own_index h) h.topics note in absurd (cc (not, is))

  touched : (p : Place) (command : Command) → RestsAt p command h → touches (task_at p command h).kind ≡ true → Tells p command
  touched (place.Access Touch) (Access gfn word op) R is = record {
    gfn = gfn;
    word = word;
    op = op;
    frame = frame_used gfn h.state;
    touches = record { at = record { kind_is = touch_named z op _; on = on op }; finds = refl };
    tells = has_mapped _ before after (Accessed gfn word op (frame_used gfn h.state) v);
  }
    where
      on : (op : Op) → (kind_of_task z (task_at (place.Access Touch) (Access gfn word op) h)).word
          ≡ (kind_of_task z (task_at (place.Access Touch) (Access gfn word Read) h)).word
      on Read = refl
      on (Write x) = refl
      on (Add x) = refl
  touched (place.Access (Enter again)) (Access gfn word op) R is = not_by part.Enter 0 is
  touched (place.Access (Pause again)) (Access gfn word op) R is = not_by part.Pause 0 is
  touched (place.Access (Root again)) (Access gfn word op) R is = not_by part.Root 0 is
  touched (place.Access (Walk again)) (Access gfn word op) R is = not_by (part.Walk gfn) 0 is
  touched (place.Access (Leave how)) (Access gfn word op) R is = not_by part.Leave 0 is
  touched (place.Access (Fault q)) (Access gfn word op) R is = not_by (fault_part q gfn h.topics) _ is
  touched (place.Access q) _ R is = absurd R
  touched p command R is = by (other_rests p command h tt)
    where
      by : (RestsAt p command h → ⊥) ⊎ RestsOnPart p command h → Tells p command
      by (inl never) = absurd (never R)
      by (inr P) = not_by P.step (note_at p command h)
          (subst (λ (s : Option PartStep). touches (task_by s h (note_at p command h) (touch_at command h)).kind ≡ true) P.at is)

pub touches_are_told : TouchesAreTold
unfolding events_of
touches_are_told z w s G may touching = by (has_line h) refl
  where
    h : Held
    h = hand_in mmu w s.actor

    v : ℕ
    v = answered mmu w s.kind

    there : s.actor < actors_of z
    there = omega (arith, may.there, G.hands)

    same : h.state.sizes ≡ z
    same = (G.holds.lines s.actor there).sizes

    by_kind : (task : Task) → s.kind ≡ kind_of_task h.state.sizes task → touches task.kind ≡ true
    by_kind task is = ap touches (sym (named_is task.kind) ∙ ap (λ (k : Kind). kind_named k.code) (sym is)) ∙ touching

    by : (b : Bool) → has_line h ≡ b → TellsAccess z h s.kind v (events_by b h v)
    by false is =
        let P = is_part h s.kind may.enabled is in
        let not = part_touches_not P.step (own_index h) h.topics P.note in
        let touch = by_kind (part_task P.step (own_index h) h.topics P.note) P.is in
        absurd (cc (not, touch))
    by true is =
        let N = is_next h s.kind may.enabled is in
        let p : Place = place_at h.state.place h in
        subst (λ (k : Kind). TellsAccess z h k v (events_by true h v)) (sym N.is)
        (subst (λ (y : Sizes). TellsAccess y h (kind_of_task h.state.sizes (task_of h)) v (events_by true h v)) same
        (touched h v (beginning h.state.place (line_of h)) (answering (outcome_at p (line_of h).command h v) (line_of h)) p (line_of h).command N.rests.at
        (by_kind (task_of h) N.is)))
