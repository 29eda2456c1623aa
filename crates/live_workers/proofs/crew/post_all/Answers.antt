use Rattle.std.proofs.Common.{◌≡◌, ◌≢◌, ◌<◌, ◌+◌, ◌∙◌, ◌∷◌, [], ℕ, List, None, Option, Some, ap, arith, length, length-append, refl, subst, sym}
use Rattle.atomic_table.proofs.Lists.{set_else}
use Rattle.core_views.specs.declared.kind.Kind.{Kind}
use Rattle.core_views.specs.Held.{Handful}
use Rattle.mmu_core.specs.machine.Enabled.{mmu}
use Rattle.mmu_core.specs.machine.Machine.{Step, hand_in, run}
use Rattle.table_seats.specs.Boards.{begun}
use Rattle.table_seats.specs.Passes.{Known, PassView, steps_before_split}
use Rattle.table_seats.specs.Rule.{Holds}
use Rattle.table_seats.proofs.HandLists.{at_below, cut_held, only_held}
use Rattle.table_seats.proofs.Places.{keeps_held}
use Rattle.live_workers.specs.Posts.{AllAsSplit, AllPosted, AnyHand, IsPosted, Post}
use Rattle.live_workers.proofs.Mustering.{each_there, none_left, split_past}
use Rattle.live_workers.proofs.Posting.{one_more, posted_first, posted_more}
use Rattle.live_workers.proofs.crew.post_all.Goals as goal

pub loop-actor-init : goal.loop-actor-init
loop-actor-init c =
    let f = c.requires.fits.wide in
    let none : length c.in_ok-workers.workers.items ≡ 0 = ap (λ (l : List Post). length l) (c.in_ok-workers.ensures {u = tt}).items in
    record {
      fits = c.requires.fits;
      past = refl;
      parted = λ lt. absurd (omega (arith, lt));
      count = none;
      posted = λ i d lt. absurd (omega (arith, none, lt));
      kept = λ a h hold. hold;
      as_split = λ a d lt h hold. absurd (omega (arith, none, lt));
      left = λ a le below. each_there c.args.pass.now.hands a c.requires.full (omega (arith, f, c.requires.wide, below));
      gone = λ a h hold. omega arith;
    }

pub split-requires-clause-keeps : goal.split-requires-clause-keeps
split-requires-clause-keeps c =
    let t = c.loop-actor.invariant.left c.loop-actor.actor (omega arith) c.loop-actor-test.true in
    keeps_held c.loop-actor.pass.hands c.loop-actor.actor t.0 t.1

pub loop-actor-preserved : goal.loop-actor-preserved
loop-actor-preserved c =
    let none : Option Handful = None in
    let i = c.loop-actor.invariant in
    let past = c.args.pass.now.knows.past in
    let lt = c.loop-actor-test.true in
    let t = i.left c.loop-actor.actor (omega arith) lt in
    let s = c.in_ok-own.ensures {u = tt} in
    let p = c.in_ok-push.ensures {u = tt} in
    let own = c.in_ok-own.own in
    let split : steps_before_split own.knows ≡ Some past = ap steps_before_split s.given.1 ∙ ap (λ (ss : List (Step Kind)). Some ss) i.past in
    let posted = posted_first c.args.board.now past own c.loop-actor.pass.hands c.loop-actor.actor t.0 s.given.0 split s.given.2 t.1 in
    let e = c.new.ensures in
    let one : (c.new.result.actor ≡ length c.loop-actor.workers.items)
    × IsPosted c.args.board.now past c.new.result.pass (length c.loop-actor.workers.items) AnyHand =
    (e.1 ∙ sym i.count, subst (λ (z : PassView × ℕ). IsPosted c.args.board.now past z.0 z.1 AnyHand) (λ k. (sym e.0 k, sym i.count k)) posted) in
    record {
      fits = s.left.0;
      past = ap (λ (v : Known). v.past) s.left.1 ∙ i.past;
      parted = λ some. ap (λ (v : Known). v.alone) s.left.1;
      count = ap (λ (l : List Post). length l) p.items ∙ (length-append c.loop-actor.workers.items (c.new.result ∷ []) ∙ ap (λ (n : ℕ). n + 1) i.count);
      posted = subst (λ (ps : List Post). AllPosted c.args.board.now past ps) (sym p.items)
          (posted_more c.args.board.now past c.loop-actor.workers.items c.new.result i.posted one);
      kept = λ a h hold. let o = cut_held c.loop-actor.pass.hands c.loop-actor.actor a h (subst (λ (l : List (Option Handful)). Holds l a h) s.left.2 hold) in
          i.kept a h o.1;
      as_split = subst (λ (ps : List Post). AllAsSplit c.args.board.now past ps) (sym p.items)
          (one_more (λ k q. (h : Handful) → Holds q.pass.hands k h → h.core ≡ hand_in mmu (run mmu (begun c.args.board.now.start) past) k)
          c.loop-actor.workers.items c.new.result i.as_split
          (λ h hold.
          let own_hold : Holds own.hands c.loop-actor.actor h =
          subst (λ (z : PassView × ℕ). Holds z.0.hands z.1 h) (λ k. (e.0 k, i.count k)) hold in
          let there = (only_held c.loop-actor.pass.hands c.loop-actor.actor c.loop-actor.actor h
          (subst (λ (l : List (Option Handful)). Holds l c.loop-actor.actor h) s.given.2 own_hold)).1 in
          subst (λ (k : ℕ). h.core ≡ hand_in mmu (run mmu (begun c.args.board.now.start) past) k) (sym i.count)
          (c.requires.world c.loop-actor.actor h (i.kept c.loop-actor.actor h there))));
      left = λ a le below. let o = i.left a (omega (arith, le)) below in
          let ne : a ≢ c.loop-actor.actor = λ q. absurd (omega (arith, le, q)) in
          (o.0, subst (λ (l : List (Option Handful)). Holds l a o.0) (sym s.left.2) (set_else c.loop-actor.pass.hands c.loop-actor.actor a none ne ∙ o.1));
      gone = λ a h hold. let o = cut_held c.loop-actor.pass.hands c.loop-actor.actor a h (subst (λ (l : List (Option Handful)). Holds l a h) s.left.2 hold) in
          let le = i.gone a h o.1 in
          let ne = o.0 in
          omega (arith, le, ne);
    }

pub returns-clause-first : goal.returns-clause-first
returns-clause-first c =
    let i = c.loop-actor.invariant in
    let hands = c.loop-actor.pass.hands in
    let over = c.loop-actor-test.false in
    let w = i.fits.wide in
    let some : 0 < c.loop-actor.actor = omega (arith, over, c.requires.some) in
    record {
      fits = i.fits;
      split = split_past c.loop-actor.pass.knows (i.parted some) ∙ ap (λ (ss : List (Step Kind)). Some ss) i.past;
      hands = none_left hands (length c.args.board.now.start.hands) w
          (λ a h hold. let lt = at_below hands a (Some h) hold in let le = i.gone a h hold in omega (arith, over, w, lt, le, c.requires.wide));
    }
