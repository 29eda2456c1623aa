use Rattle.std.proofs.Common.{◌≡◌, ◌<◌, ◌+◌, ◌++◌, ◌∷◌, ◌∙◌, [], ℕ, List, Option, ap, arith, length, length-append, subst, sym}
use Rattle.std.specs.Prelude.{Bool, ◌||◌}
use mathlib.Core.List.{append_assoc}
use Rattle.core_views.specs.Held.{Handful}
use Rattle.table_seats.specs.Boards.{Fits}
use Rattle.table_seats.specs.Passes.{PassView, steps_before_split}
use Rattle.table_seats.specs.Rule.{overlay}
use Rattle.live_workers.specs.Posts.{HasRun, IsPosted, Post}
use Rattle.live_workers.proofs.Joining.{AreJoined, joins_next, next_is, next_ran, past_of}
use Rattle.live_workers.proofs.crew.join_all.Goals as goal

pub join-requires-clause-other : goal.join-requires-clause-other
join-requires-clause-other c =
    let i = c.loop-worker.invariant in
    let p = c.in-Some.worker in
    let y = c.loop-worker.yielded in
    let rest = c.next.new.self.rest.items in
    let s = (c.in-Some.ensures {u = tt}).steps.0 in
    let whole : y ++ (p ∷ rest) ≡ c.args.workers.items = ap (λ (l : List Post). y ++ l) (sym s) ∙ i.rest in
    let ran = next_ran c.args.board.now c.requires.ran.0 c.args.workers.items y rest p c.requires.ran.1 whole in
    subst (Fits c.args.board.now) (sym c.into_pass.ensures) ran.fits

pub loop-worker-preserved : goal.loop-worker-preserved
loop-worker-preserved c =
    let i = c.loop-worker.invariant in
    let b = c.args.board.now in
    let past = c.requires.ran.0 in
    let p = c.in-Some.worker in
    let y = c.loop-worker.yielded in
    let rest = c.next.new.self.rest.items in
    let s = (c.in-Some.ensures {u = tt}).steps.0 in
    let whole : y ++ (p ∷ rest) ≡ c.args.workers.items = ap (λ (l : List Post). y ++ l) (sym s) ∙ i.rest in
    let ran : IsPosted b past p.pass (length y) (HasRun p.failed) = next_ran b past c.args.workers.items y rest p c.requires.ran.1 whole in
    let n : length (y ++ p ∷ rest) ≡ length y + length (p ∷ rest) = length-append y (p ∷ rest) in
    let m : length (y ++ p ∷ rest) ≡ length c.args.workers.items = ap (λ (l : List Post). length l) whole in
    let w = i.fits.wide in
    let room : length y < length c.loop-worker.pass.hands = omega (arith, n, m, w, c.requires.count) in
    let hands : c.join.new.pass.hands ≡ overlay c.loop-worker.pass.hands p.pass.hands =
    c.join.ensures.hands ∙ ap (λ (t : PassView). overlay c.loop-worker.pass.hands t.hands) c.into_pass.ensures in
    let next : Bool = c.loop-worker.failed || c.has_failed-failed.result in
    let one : length (y ++ p ∷ []) ≡ length y + 1 = length-append y (p ∷ []) in
    record {
      fits = c.join.ensures.fits;
      split = λ ss is. ap steps_before_split c.join.ensures.knows ∙ past_of c.loop-worker.pass.knows ss (i.split ss is);
      rest = append_assoc y (p ∷ []) rest ∙ whole;
      joined = subst (λ (z : List (Option Handful) × ℕ). AreJoined c.args.workers.items z.0 z.1 next) (λ j. (sym hands j, sym one j))
          (joins_next b past c.args.workers.items c.loop-worker.pass p (length y) c.loop-worker.failed next room
          (next_is c.args.workers.items y rest p whole) i.joined ran
          (ap (λ (x : Bool). c.loop-worker.failed || x) c.has_failed-failed.ensures));
    }

pub returns-clause-hands : goal.returns-clause-hands
returns-clause-hands c a lt =
    let i = c.loop-worker.invariant in
    let y = c.loop-worker.yielded in
    let none = (c.in-None.ensures {u = tt}).steps.0 in
    let rest = c.loop-worker.worker-iterator.rest.items in
    let o = c.loop-worker.worker-iterator.rest.ok.0 in
    let n : length (y ++ rest) ≡ length y + length rest = length-append y rest in
    let m : length (y ++ rest) ≡ length c.args.workers.items = ap (λ (l : List Post). length l) i.rest in
    let j = i.joined a (omega (arith, lt, none, o, n, m, c.requires.count)) in
    (j.0, j.1, j.2)

pub returns-clause-brought : goal.returns-clause-brought
returns-clause-brought c a d lt =
    let i = c.loop-worker.invariant in
    let y = c.loop-worker.yielded in
    let none = (c.in-None.ensures {u = tt}).steps.0 in
    let rest = c.loop-worker.worker-iterator.rest.items in
    let o = c.loop-worker.worker-iterator.rest.ok.0 in
    let n : length (y ++ rest) ≡ length y + length rest = length-append y rest in
    let m : length (y ++ rest) ≡ length c.args.workers.items = ap (λ (l : List Post). length l) i.rest in
    let j = i.joined a (omega (arith, lt, none, o, n, m)) in
    (j.0, j.3 d, j.1)
