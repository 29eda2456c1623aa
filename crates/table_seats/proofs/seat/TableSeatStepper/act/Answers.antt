use Rattle.std.proofs.Common.{◌∙◌, ap, refl}
use Rattle.table_seats.specs.Passes.{hand_at, steps_before_split}
use Rattle.table_seats.proofs.Passes.{moved_split, put_fits, put_keeps, put_others}
use Rattle.table_seats.proofs.seat.TableSeatStepper.act.Goals as goal

pub invariant_of-self : goal.invariant_of-self
invariant_of-self c =
    let s = c.args.self.now in
    record {
      fits = put_fits s.pass c.act.new.pass s.actor c.act.ensures.put s.board.now s.fits;
      keeps = put_keeps s.pass c.act.new.pass s.actor c.act.ensures.put s.keeps;
    }

pub returns-clause-keeps : goal.returns-clause-keeps
returns-clause-keeps c =
    let s = c.args.self.now in
    let split = ap steps_before_split c.act.ensures.knows ∙ moved_split s.actor (hand_at s.pass.hands s.actor).core c.args.kind c.act.result s.pass.knows in
    record {
      room = c.act.ensures.room;
      actor = refl;
      frame = put_others s.pass c.act.new.pass s.actor c.act.ensures.put s.board.now split;
    }
