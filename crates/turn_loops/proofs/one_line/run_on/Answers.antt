use Rattle.std.proofs.Common.{◌≡◌, ◌∙◌, ℕ, List, length, map, ap, refl, sym, subst, rules}
use Rattle.core_views.specs.Sizes.{index_of}
use Rattle.std.proofs.Math.ListN.{length-map}
use Rattle.std.proofs.lemmas.List.{length-set}
use Rattle.std.specs.Prelude.{Option}
use Rattle.core_views.specs.declared.kind.Kind.{Kind}
use Rattle.core_views.specs.declared.sizes.Sizes.{Sizes}
use Rattle.core_views.specs.Held.{Handful, Held}
use Rattle.mmu_core.specs.machine.Enabled.{mmu}
use Rattle.mmu_core.specs.alone.LineAlone.{LineAlone}
use Rattle.mmu_core.specs.machine.Machine.{Step, hand_in}
use Rattle.step_seats.specs.Frames.{Frame, other_rooms, room_of}
use Rattle.step_seats.specs.Machines.{Machine, seat_in, world_in}
use Rattle.step_seats.proofs.Worlds.{core_at}
use Rattle.turn_loops.specs.Turns.{LineIsAlone}
use Rattle.turn_loops.proofs.LinesRun.{ran_on}
use Rattle.turn_loops.proofs.one_line.run_on.Goals as goal

pub returns-clause-ran : goal.returns-clause-ran
returns-clause-ran g c =
    let M = g.M.MachineOwner in
    let e = c.run_line.ensures in
    let m = M.machine c.args.machine.now in
    let n = M.machine c.run_line.new.s.machine.now in
    let at = c.index_of-index.result in
    let is : at ≡ index_of m.sizes c.args.line.now.actor =
    c.index_of-index.ensures ∙ ap (λ (z : Sizes). index_of z c.args.line.now.actor) c.sizes.ensures.is in
    let ran = ran_on c.run_line.result c.args.line.now m.sizes (index_of m.sizes c.args.line.now.actor) m n (M.steps c.args.machine.now)
    (M.steps c.run_line.new.s.machine.now) at c.run_line.new.s.index c.requires.alone is
    (core_at m.words m.hands at ∙ ap (λ (k : ℕ). hand_in mmu (world_in m) k) is)
    (core_at n.words n.hands c.run_line.new.s.index ∙ ap (λ (k : ℕ). hand_in mmu (world_in n) k) (e.same.0 ∙ is)) e.answered e.alone e.hand in
    search (rules, ran)

-- What a line that runs alone is given, as its seat asks it.
alone_at : (m : Machine) (ss : Option (List (Step Kind))) (i : ℕ) → LineAlone m.sizes (world_in m) i → LineIsAlone (seat_in m ss i)
alone_at m ss i A = record {
  world = world_in m;
  is = refl;
  has = sym (core_at m.words m.hands i);
  alone =
      subst (λ (z : Sizes). LineAlone z (world_in m) i)
      (sym (ap (λ (h : Held). h.state.sizes) (core_at m.words m.hands i) ∙ (A.sound.holds.lines i A.there).sizes)) A;
}

pub run_line-requires-clause-idle : goal.run_line-requires-clause-idle
run_line-requires-clause-idle g c =
    let m = g.M.MachineOwner.machine c.args.machine.now in
    let is : c.index_of-index.result ≡ index_of m.sizes c.args.line.now.actor =
    c.index_of-index.ensures ∙ ap (λ (z : Sizes). index_of z c.args.line.now.actor) c.sizes.ensures.is in
    rw is c.requires.idle

pub run_line-requires-clause-next : goal.run_line-requires-clause-next
run_line-requires-clause-next g c =
    let m = g.M.MachineOwner.machine c.args.machine.now in
    let is : c.index_of-index.result ≡ index_of m.sizes c.args.line.now.actor =
    c.index_of-index.ensures ∙ ap (λ (z : Sizes). index_of z c.args.line.now.actor) c.sizes.ensures.is in
    rw is c.requires.next

pub run_line-requires-clause-own : goal.run_line-requires-clause-own
run_line-requires-clause-own g c =
    let m = g.M.MachineOwner.machine c.args.machine.now in
    let is : c.index_of-index.result ≡ index_of m.sizes c.args.line.now.actor =
    c.index_of-index.ensures ∙ ap (λ (z : Sizes). index_of z c.args.line.now.actor) c.sizes.ensures.is in
    rw is c.requires.own

pub run_line-requires-clause-alone : goal.run_line-requires-clause-alone
run_line-requires-clause-alone g c =
    let M = g.M.MachineOwner in
    let m = M.machine c.args.machine.now in
    let is : c.index_of-index.result ≡ index_of m.sizes c.args.line.now.actor =
    c.index_of-index.ensures ∙ ap (λ (z : Sizes). index_of z c.args.line.now.actor) c.sizes.ensures.is in
    rw is (alone_at m (M.steps c.args.machine.now) (index_of m.sizes c.args.line.now.actor) c.requires.alone)

-- There is a room for each hand.
rooms_of_hands : (hands : List Handful) (i : ℕ) → length (other_rooms hands i) ≡ length hands
rooms_of_hands hands i = length-set (map room_of hands) i 0 ∙ length-map hands room_of

pub returns-clause-same : goal.returns-clause-same
returns-clause-same g c =
    let M = g.M.MachineOwner in
    let e = c.run_line.ensures in
    let m = M.machine c.args.machine.now in
    let n = M.machine c.run_line.new.s.machine.now in
    let at = c.index_of-index.result in
    let to = c.run_line.new.s.index in
    let rooms : length (other_rooms n.hands to) ≡ length (other_rooms m.hands at) = ap (λ (f : Frame). length f.rooms) e.same.1 in
    let sizes : n.sizes ≡ m.sizes = ap (λ (f : Frame). f.sizes) e.same.1 in
    let count : length n.hands ≡ length m.hands = sym (rooms_of_hands n.hands to) ∙ (rooms ∙ rooms_of_hands m.hands at) in
    (search (rules, sizes), search (rules, count))
