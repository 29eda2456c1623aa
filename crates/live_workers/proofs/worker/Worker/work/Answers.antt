use Rattle.std.proofs.Common.{◌≡◌, ◌∙◌, ℕ, ap, subst, sym}
use Rattle.table_seats.specs.Boards.{Fits}
use Rattle.table_seats.specs.Passes.{Keeps, PassView}
use Rattle.live_workers.specs.Posts.{AnyHand, Post, pass_of}
use Rattle.live_workers.proofs.Posting.{keeps_posted, ok_of, posted_run}
use Rattle.live_workers.proofs.worker.Worker.work.Goals as goal

pub seat-seat-requires-clause-fits : goal.seat-seat-requires-clause-fits
seat-seat-requires-clause-fits g c =
    let pt : c.in-Some.pass ≡ c.args.self.now.pass = ap pass_of (c.in-Some.ensures {u = tt}).value ∙ ap (λ (p : Post). p.pass) c.self.view_is in
    subst (Fits c.args.board.now) (sym pt) c.requires.post.1.fits

pub seat-seat-requires-clause-keeps : goal.seat-seat-requires-clause-keeps
seat-seat-requires-clause-keeps g c =
    let pt : c.in-Some.pass ≡ c.args.self.now.pass = ap pass_of (c.in-Some.ensures {u = tt}).value ∙ ap (λ (p : Post). p.pass) c.self.view_is in
    let post = c.requires.post in
    let keeps = keeps_posted c.args.board.now post.0 c.args.self.now.pass c.args.self.now.actor AnyHand post.1 in
    subst (λ (z : PassView × ℕ). Keeps z.0 z.1) (λ i. (sym pt i, sym (ap (λ (p : Post). p.actor) c.self.view_is) i)) keeps

pub returns-clause-ran : goal.returns-clause-ran
returns-clause-ran g c past post =
    let before = c.args.self.now in
    let pt : c.in-Some.pass ≡ before.pass = ap pass_of (c.in-Some.ensures {u = tt}).value ∙ ap (λ (p : Post). p.pass) c.self.view_is in
    let st : c.seat-seat.result.pass ≡ before.pass = c.seat-seat.ensures.1 ∙ pt in
    let sa : c.seat-seat.result.actor ≡ before.actor = c.seat-seat.ensures.2 ∙ ap (λ (p : Post). p.actor) c.self.view_is in
    let new = c.run_lines.new.s in
    posted_run c.args.board.now past AnyHand before.pass c.into_pass.result before.actor c.is_err-self-inside.result c.seat-seat.result.board.now new.board.now
    c.seat-seat.result.pass new.pass c.seat-seat.result.actor new.actor c.seat-seat.ensures.0 st sa c.run_lines.ensures.same.0 c.run_lines.ensures.same.1
    c.into_pass.ensures.pass c.into_pass.ensures.fits c.into_pass.ensures.keeps
    (λ ok. ok_of c.run_lines.result _ c.run_lines.ensures.done (sym c.is_err-self-inside.ensures.value ∙ ok)) post
