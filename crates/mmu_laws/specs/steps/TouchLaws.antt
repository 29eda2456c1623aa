-- Each step with which a guest touches memory tells its access, with what it finds there.
use Rattle.std.specs.Prelude.{◌≡◌, ℕ, Bool, List, true, false}
use Rattle.std.specs.List.{Contains}
use Rattle.core_views.specs.declared.event.Event.{Event}
use Rattle.core_views.specs.declared.event.EventKind.TheVariants.{Accessed}
use Rattle.core_views.specs.declared.kind.Kind.{Kind}
use Rattle.core_views.specs.declared.kind.StepKind.{StepKind}
use Rattle.core_views.specs.declared.kind.StepKind.TheVariants.{Add, Read, Write}
use Rattle.core_views.specs.declared.sizes.Sizes.{Sizes}
use Rattle.core_views.specs.declared.trace.Op.{Op}
use Rattle.core_views.specs.Held.{Held}
use Rattle.core_views.specs.Kinds.{kind_named}
use Rattle.mmu_core.specs.invariant.Laws.{IsSound}
use Rattle.mmu_core.specs.machine.Enabled.{mmu}
use Rattle.mmu_core.specs.machine.Machine.{May, Step, World, answered, hand_in}
use Rattle.mmu_core.specs.machine.Steps.{events_of}
use Rattle.mmu_laws.specs.steps.EventLaws.{TouchesWord}

-- With a step of this kind a guest touches memory.
abbrev pub touches : StepKind → Bool
touches Read = true
touches Write = true
touches Add = true
touches _ = false

-- Among the events is the access of this step.
pub record TellsAccess (z : Sizes) (h : Held) (k : Kind) (v : ℕ) (events : List Event) : Type 0 where
  pub gfn : ℕ
  pub word : ℕ
  pub op : Op
  pub frame : ℕ
  pub touches : TouchesWord z op frame word v k v
  pub tells : Contains events (record { actor = h.state.actor; kind = Accessed gfn word op frame v })

-- So it is with each step by which a guest touches memory, in every sound world.
abbrev pub TouchesAreTold : Type 0
TouchesAreTold =
    (z : Sizes) (w : World Held) (s : Step Kind) → IsSound z w → May mmu w s → touches (kind_named s.kind.code) ≡ true
    → TellsAccess z (hand_in mmu w s.actor) s.kind (answered mmu w s.kind) (events_of (hand_in mmu w s.actor) (answered mmu w s.kind))
