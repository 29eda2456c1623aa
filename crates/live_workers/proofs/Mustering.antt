-- The hands of a board's first pass, before each has its worker and after.
use Rattle.std.proofs.Common.{◌≡◌, ◌<◌, ◌≤◌, ◌∙◌, ℕ, zero, suc, List, [], ◌∷◌, None, Option, Some, ap, arith, length, map, refl, replicate, subst, sym, take}
use Rattle.std.specs.Prelude.{Bool, IfSome, drop, false, if◌then◌else◌}
use Rattle.std.proofs.Math.ListN.{length-map}
use Rattle.core_views.specs.declared.sizes.Sizes.{Sizes}
use Rattle.core_views.specs.declared.trace.Trace.{Trace}
use Rattle.core_views.specs.Held.{Handful, Held}
use Rattle.core_views.specs.Sizes.{sizes_of}
use Rattle.mmu_core.specs.machine.Enabled.{mmu}
use Rattle.mmu_core.specs.machine.Machine.{World, hand_in, run}
use Rattle.mmu_core.specs.machine.Worlds.{IsStart}
use mathlib.Core.Option.{some-injective, some-ne-none}
use Rattle.step_seats.specs.Machines.{world_in}
use Rattle.step_seats.specs.Moves.{core_of, handful_in}
use Rattle.step_seats.proofs.Worlds.{core_at}
use Rattle.table_seats.specs.Boards.{AllHands, BoardView, Fits, begun}
use Rattle.table_seats.specs.Owners.{OwnerView, machine_of}
use Rattle.table_seats.specs.Passes.{Known, PassView, hand_in_place, steps_before_split, world_after}
use Rattle.table_seats.specs.Rule.{Holds}
use Rattle.turn_loops.specs.Replays.{RunsLines}
use Rattle.turn_loops.specs.Weaves.{lines_above}
use Rattle.live_workers.specs.Crews.{HasBegun}

-- Where every hand is there, so is each.
pub each_there : (hands : List (Option Handful)) (a : ℕ) → AllHands hands → a < length hands → (h : Handful) × Holds hands a h
each_there [] a all lt = absurd (omega (arith, lt))
each_there (None ∷ xs) zero all lt = cc
each_there (Some h ∷ xs) zero all lt = (h, refl)
each_there (x ∷ xs) (suc a) all lt = each_there xs a (ap (drop 1) all) (omega (arith, lt))

-- Where no hand is left, nothing stands in any place.
pub none_left : (hands : List (Option Handful)) (n : ℕ) → length hands ≡ n → ((a : ℕ) (h : Handful) → Holds hands a h → ⊥) → hands ≡ replicate n None
none_left [] zero e f = refl
none_left [] (suc n) e f = absurd (omega (arith, e))
none_left (x ∷ xs) zero e f = absurd (omega (arith, e))
none_left (None ∷ xs) (suc n) e f = ap (λ (l : List (Option Handful)). None ∷ l) (none_left xs n (omega (arith, e)) (λ a h hold. f (suc a) h hold))
none_left (Some h ∷ xs) (suc n) e f = absurd (f 0 h refl)

-- What stands in a place is the hand that is held there.
hand_placed : (hands : List (Option Handful)) (i : ℕ) (h : Handful) → Holds hands i h → h ≡ handful_in (map hand_in_place hands) i
hand_placed [] i h holds = absurd (some-ne-none (Some h) (sym holds))
hand_placed (x ∷ xs) zero h holds = ap hand_in_place (sym (some-injective x (Some h) holds))
hand_placed (x ∷ xs) (suc i) h holds = hand_placed xs i h holds

-- Once a hand was split off, the steps made before are told so.
pub split_past : (v : Known) → v.alone ≡ false → steps_before_split v ≡ Some v.past
split_past v e = ap (λ (alone : Bool). if alone then None else Some v.past) e

-- The lines above `go` are lines of the trace.
pub above_fits : (go : Option ℕ) (n : ℕ) → IfSome go (λ above. above ≤ n) → lines_above go ≤ n
above_fits None n few = omega arith
above_fits (Some above) n few = few

module _ (m : OwnerView) (b : BoardView) (t : PassView) (fits : Fits b t) where
  -- The board began with as many hands as the machine has.
  pub wide_as : (n : ℕ) → t ≡ m.pass → length (machine_of m).hands ≡ n → length b.start.hands ≡ n
  wide_as n is count =
      sym fits.wide ∙ (ap (λ (x : PassView). length x.hands) is ∙ (sym (length-map m.pass.hands hand_in_place) ∙ count))

  -- The lines above `go` have run, from the trace's start to the world that the pass tells.
  pub begun_by : (trace : Trace) (z : Sizes) (start : World Held) → z ≡ sizes_of trace.header → IsStart (sizes_of trace.header) trace.lines start
      → RunsLines z start (take (lines_above trace.go) trace.lines) (world_in (machine_of m)) → world_after t.knows ≡ world_in (machine_of m)
      → HasBegun trace b t.knows.past
  begun_by trace z start sizes is ran world =
      let ends : world_in (machine_of m) ≡ run mmu (begun b.start) t.knows.past = sym world ∙ ap (λ (w : World Held). run mmu w t.knows.past) fits.start in
      record {
        start = start;
        is_start = is;
        alone = subst (λ (x : Sizes × World Held). RunsLines x.0 start (take (lines_above trace.go) trace.lines) x.1) (λ i. (sizes i, ends i)) ran;
      }

  -- Each hand of the pass is its actor's in the world that the pass tells.
  pub as_in_world : t ≡ m.pass → world_after t.knows ≡ world_in (machine_of m) → (i : ℕ) (h : Handful) → Holds t.hands i h
      → h.core ≡ hand_in mmu (run mmu (begun b.start) t.knows.past) i
  as_in_world is world i h holds =
      let own : Holds m.pass.hands i h = subst (λ (x : PassView). Holds x.hands i h) is holds in
      ap core_of (hand_placed m.pass.hands i h own)
      ∙ (core_at (machine_of m).words (machine_of m).hands i
      ∙ ap (λ (w : World Held). hand_in mmu w i) (sym world ∙ ap (λ (w : World Held). run mmu w t.knows.past) fits.start))
