use Rattle.std.proofs.Common.{subst, sym}
use Rattle.table_seats.specs.Boards.{BoardView, Explained, begun}
use Rattle.live_workers.specs.Posts.{BringHands}
use Rattle.live_engine.proofs.Explains.{explains}
use Rattle.live_engine.proofs.gathering.gather.Goals as goal

pub close-requires-clause-fits : goal.close-requires-clause-fits
close-requires-clause-fits c = (c.in_ok-board.ensures.collected c.args.trace.now c.requires.worked).fits

pub close-requires-clause-full : goal.close-requires-clause-full
close-requires-clause-full c = (c.in_ok-board.ensures.collected c.args.trace.now c.requires.worked).all

pub text_of-requires : goal.text_of-requires
text_of-requires c =
    let closed = c.in-Ok.ensures {u = tt} in
    record {
      lives =
          explains c.args.trace.now c.in_ok-board.board c.in_ok-board.pass (c.in_ok-board.ensures.collected c.args.trace.now c.requires.worked)
          c.in-Ok.closing.words c.in-Ok.closing.hands closed.hands closed.explained;
    }

pub returns-clause-lives : goal.returns-clause-lives
returns-clause-lives c =
    let closed = c.in-Ok.ensures {u = tt} in
    let lives =
    explains c.args.trace.now c.in_ok-board.board c.in_ok-board.pass (c.in_ok-board.ensures.collected c.args.trace.now c.requires.worked)
    c.in-Ok.closing.words c.in-Ok.closing.hands closed.hands closed.explained in
    record { lives = lives; prints = c.in_ok-text.ensures.text lives }

pub returns-clause-hands : goal.returns-clause-hands
returns-clause-hands c =
    let closed = c.in-Ok.ensures {u = tt} in
    subst (BringHands c.args.crew.workers.items) (sym closed.hands) (c.in_ok-board.ensures.hands)

pub returns-clause-explained : goal.returns-clause-explained
returns-clause-explained c =
    let closed = c.in-Ok.ensures {u = tt} in (
      c.in_ok-board.pass.knows.past,
      subst (λ (b : BoardView). Explained (begun b.start) c.in_ok-board.pass.knows.past c.in-Ok.closing.words c.in-Ok.closing.hands)
          (c.in_ok-board.ensures.board) closed.explained,
    )
