use Rattle.std.proofs.Common.{Result, Ok, Err, ◌≡◌, ap, refl}
use Rattle.std.specs.Prelude.{OnErr}
use Rattle.core_views.specs.Held.{Handful}
use Rattle.table_seats.specs.Passes.{Known, hand_at, steps_before_split, steps_told, world_told}
use Rattle.table_seats.proofs.Passes.{put_fits, put_keeps, put_others}
use Rattle.table_seats.proofs.seat.TableSeatStepper.reserve.Goals as goal

same_room : {E : Type 0} (r : Result (Unit {0}) E) (after before : Handful) → OnErr r (after ≡ before) → OnErr r (after.room ≡ before.room)
same_room (Ok u) after before same = tt
same_room (Err e) after before same = ap (λ (x : Handful). x.room) same

pub invariant_of-self : goal.invariant_of-self
invariant_of-self c =
    let s = c.args.self.now in
    record {
      fits = put_fits s.pass c.reserve.new.self s.actor c.reserve.ensures.put s.board.now s.fits;
      keeps = put_keeps s.pass c.reserve.new.self s.actor c.reserve.ensures.put s.keeps;
    }

pub returns-clause-refused : goal.returns-clause-refused
returns-clause-refused c =
    let s = c.args.self.now in
    same_room c.reserve.result (hand_at c.reserve.new.self.hands s.actor) (hand_at s.pass.hands s.actor) c.reserve.ensures.refused

pub returns-clause-told : goal.returns-clause-told
returns-clause-told c = ap (λ (v : Known). record { world = world_told v; steps = steps_told v }) c.reserve.ensures.knows

pub returns-clause-same : goal.returns-clause-same
returns-clause-same c =
    let s = c.args.self.now in
    (refl, put_others s.pass c.reserve.new.self s.actor c.reserve.ensures.put s.board.now (ap steps_before_split c.reserve.ensures.knows))
