use Rattle.std.proofs.Common.{◌≡◌, ◌∙◌, ℕ, List, ap, arith, map, subst, sym}
use Rattle.core_views.specs.declared.kind.Kind.{Kind}
use Rattle.core_views.specs.Held.{Held, Handful}
use Rattle.mmu_core.specs.machine.Enabled.{mmu}
use Rattle.mmu_core.specs.machine.Machine.{Step, World, run}
use Rattle.hands.specs.declared.hand.Closing.{Closing}
use Rattle.table_seats.specs.Boards.{begun}
use Rattle.step_seats.specs.Moves.{cores_of, world_of}
use Rattle.table_seats.specs.Boards.{BoardView, Explained}
use Rattle.table_seats.specs.Passes.{PassView, core_in}
use Rattle.table_seats.proofs.Closes.{closes}
use Rattle.table_seats.proofs.Runs.{steps_of}
use Rattle.table_seats.proofs.Places.{cores-all}
use Rattle.table_seats.proofs.room.Room.close.Goals as goal

pub free-requires : goal.free-requires
free-requires c k lt = let n = c.close_with-closed.ensures.counts.1 in let m = c.board.invariant.slots in absurd (omega (arith, lt, n, m))

pub returns-clause-explained : goal.returns-clause-explained
returns-clause-explained c =
    let hs : List Handful = c.gather_hands.new.hands.items in
    let all = sym c.pass.invariant.1.cores ∙ (ap (map core_in) (sym c.gather_hands.ensures) ∙ cores-all hs) in
    let r =
    (closes mmu (begun c.board.inside.table.shared.key) _ _ c.pass.inside.seat.id c.pass.inside.seat.me.0 (cores_of hs) c.pass.invariant.1.live all
    c.close_with-closed.ensures.values.2).0 in
    let t = steps_of mmu r in
    subst (λ (z : Closing × List (Step Kind) × List ℕ × List Handful). Explained (begun z.0) z.1 z.2 z.3)
    (λ i. (
      ap (λ (p : BoardView). p.start) c.board.view_is i,
      ap (λ (t : PassView). t.knows.past) c.pass.view_is i,
      (sym c.gather_words.ensures ∙ sym c.from_vec.ensures) i,
      sym c.from_vec-2.ensures i,
    ))
    (record { more = t.0; legal = t.1; ends = t.2 })

pub returns-clause-told : goal.returns-clause-told
returns-clause-told c al =
    let hs : List Handful = c.gather_hands.new.hands.items in
    let all = sym c.pass.invariant.1.cores ∙ (ap (map core_in) (sym c.gather_hands.ensures) ∙ cores-all hs) in
    let r =
    (closes mmu (begun c.board.inside.table.shared.key) _ _ c.pass.inside.seat.id c.pass.inside.seat.me.0 (cores_of hs) c.pass.invariant.1.live all
    c.close_with-closed.ensures.values.2).1 (ap (λ (t : PassView). t.knows.alone) c.pass.view_is ∙ al) in
    ap (λ (w : World Held). run mmu w c.args.pass.knows.past) c.requires.fits.start
    ∙ subst (λ (z : Closing × List (Step Kind) × List ℕ × List Handful). run mmu (begun z.0) z.1 ≡ world_of z.2 z.3)
    (λ i. (
      ap (λ (p : BoardView). p.start) c.board.view_is i,
      ap (λ (t : PassView). t.knows.past) c.pass.view_is i,
      (sym c.gather_words.ensures ∙ sym c.from_vec.ensures) i,
      sym c.from_vec-2.ensures i,
    )) r
