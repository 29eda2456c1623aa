use Rattle.std.proofs.Common.{◌≡◌, ◌∙◌, List, ap, length, subst, sym}
use Rattle.live_workers.specs.Posts.{AllHaveRun, AllPosted, Post}
use Rattle.live_workers.proofs.Joining.{put_whole}
use Rattle.live_workers.proofs.crew.Crew.work.Goals as goal

pub returns-clause-worked : goal.returns-clause-worked
returns-clause-worked g c trace crew =
    let before = c.args.self.now.workers in
    let posted = subst (λ (ps : List Post). AllPosted c.args.self.now.board crew.past ps) (sym c.as_mut_slice.ensures.value) crew.workers.0 in
    let n : length c.run_all.new.workers ≡ length before.items = c.run_all.ensures.count ∙ ap (λ (l : List Post). length l) c.as_mut_slice.ensures.value in
    let whole = put_whole c.run_all.new.workers before.items before.len before.ok.0 n in
    record {
      past = crew.past;
      begun = crew.begun;
      first = crew.first;
      count = ap (λ (l : List Post). length l) whole ∙ (n ∙ crew.count);
      wide = crew.wide;
      workers = subst (λ (ps : List Post). AllHaveRun c.args.self.now.board crew.past ps) (sym whole) (c.run_all.ensures.ran crew.past posted);
    }
