-- How a weave ended says how it was printed.
use Rattle.std.proofs.Common.{◌≡◌, ℕ, List, Ok, Err, Result, subst}
use Rattle.std.specs.Prelude.{IfOk, OnErr, Some, None}
use Rattle.std.specs.declared.option.Option.{Option}
use Rattle.core_views.specs.declared.no_memory.NoMemory.{NoMemory as Refused}
use Rattle.core_views.specs.declared.trace.Trace.{Trace}
use Rattle.core_views.specs.Held.{Held}
use Rattle.mmu_core.specs.machine.Machine.{World}
use Rattle.tdp_io.specs.declared.sink.Stop.{Stop}
use Rattle.tdp_io.specs.declared.sink.Stop.TheVariants.{Failed, NoMemory}
use Rattle.turn_loops.specs.Marks.{Mark}
use Rattle.weave_engine.specs.Printed.{PrintsBy, PrintsUntil, PrintsWeaveOn, PrintsWoven}
use Rattle.weave_engine.specs.Woven.{how_ended}
use Rattle.weave_engine.specs.declared.ran.OpenLine.{OpenLine}
use Rattle.weave_engine.specs.declared.ran.How.{How}
use Rattle.weave_engine.specs.declared.ran.How.TheVariants.{Done, Unfinished, WriteFault}

module _ {V : Type 0} (prints : V → List Mark → V → Type 0) (stops : V → List Mark → Stop → V → Type 0) (trace : Trace) (limit : ℕ)
    (closing : World Held) (p q : V) where
  pub ends_by : (came : Result (Option OpenLine) Stop) (how : How) → how_ended came ≡ Some how → PrintsWoven prints stops trace limit closing p q came
      → PrintsBy prints stops trace limit closing p q how
  ends_by (Ok None) how is puts = let e : Done ≡ how = cc is in subst (PrintsBy prints stops trace limit closing p q) e puts
  ends_by (Ok (Some line)) how is puts =
      let e : Unfinished line.actor line.number ≡ how = cc is in subst (PrintsBy prints stops trace limit closing p q) e puts
  ends_by (Err Failed) how is puts = let e : WriteFault ≡ how = cc is in subst (PrintsBy prints stops trace limit closing p q) e puts
  ends_by (Err NoMemory) how is puts = absurd (cc is)

  pub ends_refused : (came : Result (Option OpenLine) Stop) → how_ended came ≡ None → PrintsWoven prints stops trace limit closing p q came
      → PrintsUntil prints stops NoMemory trace limit closing p q
  ends_refused (Ok None) is puts = absurd (cc is)
  ends_refused (Ok (Some line)) is puts = absurd (cc is)
  ends_refused (Err Failed) is puts = absurd (cc is)
  ends_refused (Err NoMemory) is puts = puts

  pub ends_on : (came : Result (Option OpenLine) Stop) (r : Result How Refused) → IfOk r (λ how. how_ended came ≡ Some how)
      → OnErr r (how_ended came ≡ None) → PrintsWoven prints stops trace limit closing p q came → PrintsWeaveOn prints stops trace limit closing p q r
  ends_on came (Ok how) ran refused puts = ends_by came how ran puts
  ends_on came (Err e) ran refused puts = ends_refused came refused puts
