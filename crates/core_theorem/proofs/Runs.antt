-- The world after a run is sound, and no line is under way at its start.
use Rattle.std.proofs.Common.{◌≡◌, ◌<◌, List, [], ◌∷◌, ◌++◌, refl, subst, ap}
use Rattle.core_views.specs.declared.kind.Kind.{Kind}
use Rattle.core_views.specs.declared.place.Place.TheVariants.{Between}
use Rattle.core_views.specs.declared.sizes.Sizes.{Sizes}
use Rattle.core_views.specs.declared.trace.Line.{Line}
use Rattle.core_views.specs.Held.{Held}
use Rattle.core_views.specs.Sizes.{actors_of}
use Rattle.mmu_core.specs.machine.Enabled.{mmu}
use Rattle.mmu_core.specs.invariant.Laws.{IsSound}
use Rattle.mmu_core.specs.machine.Machine.{May, Step, World, hand_in, run}
use Rattle.mmu_core.specs.machine.Worlds.{Reachable}
use Rattle.mmu_core.proofs.start.Starts.{hand_is, start_good}
use Rattle.mmu_laws.proofs.causes.StarvedScan.{legal_parts}
use Rattle.mmu_core.proofs.machine.Worlds.{good_run}
use Rattle.core_theorem.specs.Runs.{IsRun}

pub sound : (z : Sizes) (lines : List Line) (w : World Held) (ss : List (Step Kind)) → IsRun z lines w ss → IsSound z (run mmu w ss)
sound z lines w ss R = good_run z w ss (start_good z lines w R.start) R.legal

pub reached : (z : Sizes) (lines : List Line) (w : World Held) (ss : List (Step Kind)) → IsRun z lines w ss → Reachable (run mmu w ss)
reached z lines w ss R = record { sizes = z; lines = lines; start = w; is_start = R.start; leads = record { steps = ss; legal = R.legal; ends = refl } }

-- A run of some steps and one more is a run of these steps, after which the other may be made.
module _ (z : Sizes) (lines : List Line) (w : World Held) (ss : List (Step Kind)) (s : Step Kind) (R : IsRun z lines w (ss ++ s ∷ [])) where
  pub before : IsRun z lines w ss
  before = record { start = R.start; legal = (legal_parts w ss (s ∷ []) R.legal).0 }

  pub may_last : May mmu (run mmu w ss) s
  may_last = (legal_parts w ss (s ∷ []) R.legal).1.0

  pub last_actor : s.actor < actors_of z
  last_actor = subst (λ n. s.actor < n) (sound z lines w ss before).hands may_last.there

  pub starts_between : (hand_in mmu w s.actor).state.place ≡ Between
  starts_between = ap (λ (h : Held). h.state.place) (hand_is z lines w s.actor R.start last_actor)
