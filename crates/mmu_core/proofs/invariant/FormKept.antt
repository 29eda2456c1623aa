-- What the invariant asks of a form of line, at one of its places and with one command, in one record, of which each form has one value.
use Rattle.std.proofs.Common.{◌<◌, ℕ}
use Rattle.core_views.specs.declared.place.Place.{Place}
use Rattle.core_views.specs.declared.sizes.Sizes.{Sizes}
use Rattle.core_views.specs.declared.trace.Command.{Command}
use Rattle.core_views.specs.declared.trace.Line.{Line}
use Rattle.core_views.specs.Sizes.{actors_of}
use Rattle.mmu_core.specs.invariant.Invariant.{Invariant}
use Rattle.mmu_core.specs.invariant.TopicsInvariant.{TopicsInvariant}
use Rattle.mmu_core.specs.lines.PartAt.{task_at}
use Rattle.mmu_core.specs.machine.View.{View, answer_in, stepped}
use Rattle.mmu_core.proofs.forms.access.AccessParts.{AreSmall}
use Rattle.mmu_core.proofs.invariant.QuietKept.{MakesAt}
use Rattle.mmu_core.proofs.lines.KnowsKept.{KnowsAfter, NeedsAt}
use Rattle.mmu_core.proofs.machine.Stepping.{IsStep}
use Rattle.mmu_core.proofs.slots.SlotsStay.{AllKnow}

pub record FormKept (p : Place) (c : Command) : Type 0 where
  -- its step has what it needs
  pub needs : (z : Sizes) (v : View) (a : ℕ) (line : Line) → IsStep z v a line c p → Invariant z v → TopicsInvariant z v → NeedsAt p c (v.hand a)
  -- it leaves its actor with what its next place asks, or at rest where the line is answered
  pub knows : (z : Sizes) (v : View) (a : ℕ) (line : Line) → IsStep z v a line c p → Invariant z v → TopicsInvariant z v → a < actors_of z
      → KnowsAfter line c p (v.hand a) (answer_in (task_at p c (v.hand a)) v.words)
  -- it is one that its actor may make
  pub makes : (z : Sizes) (v : View) (a : ℕ) (line : Line) → AreSmall v → IsStep z v a line c p → Invariant z v → TopicsInvariant z v → MakesAt z v a p c
  -- it keeps the invariant, where each actor knows after it what its place asks
  pub kept : (z : Sizes) (v : View) (a : ℕ) (line : Line) → IsStep z v a line c p → Invariant z v → TopicsInvariant z v → MakesAt z v a p c
      → AllKnow z (stepped a line c p v).hand → Invariant z (stepped a line c p v)
