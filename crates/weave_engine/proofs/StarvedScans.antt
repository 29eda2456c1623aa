-- Each line of a run that is starved has looked through the whole map.
use Rattle.std.proofs.Common.{List, [], ◌∷◌, ◌++◌, append_assoc, sym, subst}
use Rattle.core_views.specs.declared.kind.Kind.{Kind}
use Rattle.core_views.specs.declared.sizes.Sizes.{Sizes}
use Rattle.core_views.specs.declared.trace.Line.{Line}
use Rattle.core_views.specs.Held.{Held}
use Rattle.mmu_core.specs.machine.Enabled.{mmu}
use Rattle.mmu_core.specs.machine.Machine.{Legal, Step, World, run}
use Rattle.mmu_core.specs.machine.Worlds.{IsStart}
use Rattle.mmu_laws.proofs.causes.StarvedScan.{legal_parts, starved_lines_scan}
use Rattle.mmu_core.proofs.start.Starts.{start_good}
use Rattle.mmu_core.proofs.machine.Worlds.{good_run}
use Rattle.turn_loops.specs.Weaves.{StarvedLinesScanIn}

pub starved_scan : (z : Sizes) (lines : List Line) (start : World Held) (steps : List (Step Kind)) → IsStart z lines start → Legal mmu start steps
    → StarvedLinesScanIn z start steps
starved_scan z lines start steps is_start legal map earlier own later s are idle starved =
    let front = legal_parts start earlier (own ++ s ∷ later) (subst (Legal mmu start) are legal) in
    let line =
    legal_parts (run mmu start earlier) (own ++ s ∷ []) later
    (subst (Legal mmu (run mmu start earlier)) (sym (append_assoc own (s ∷ []) later)) front.1) in
    starved_lines_scan z map (run mmu start earlier) own s (good_run z start earlier (start_good z lines start is_start) front.0) line.0 idle starved
