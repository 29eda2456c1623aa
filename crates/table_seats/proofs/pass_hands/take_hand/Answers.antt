use Rattle.std.proofs.Common.{◌≡◌, ℕ, arith, ap, ◌∙◌, List, Option, Some, None, length, set, replicate}
use Rattle.std.proofs.lemmas.List.{length-replicate}
use Rattle.core_views.specs.Held.{Handful}
use Rattle.table_seats.proofs.HandLists.{at_below}
use Rattle.table_seats.proofs.Places.{held_get, only-is}
use Rattle.table_seats.proofs.pass_hands.take_hand.Goals as goal

pub index_mut-requires : goal.index_mut-requires
index_mut-requires c =
    let b = at_below c.args.hands.now.items c.args.actor (Some c.requires.0) c.requires.1 in let l = c.args.hands.now.ok.0 in omega (arith, b, l)

pub index_mut-requires-2 : goal.index_mut-requires-2
index_mut-requires-2 c =
    let b = at_below c.args.hands.now.items c.args.actor (Some c.requires.0) c.requires.1 in let l = c.args.hands.now.ok.0 in
    let r = ap (λ (l : List (Option Handful)). length l) (c.in_ok-others.ensures {u = tt}) in let k = c.in_ok-others.others.ok.0 in
    let none : Option Handful = None in
    let n = length-replicate c.len.result none in let q = c.len.ensures in omega (arith, b, l, r, k, n, q)

pub returns-clause-taken : goal.returns-clause-taken
returns-clause-taken c =
    let hands = c.args.hands.now.items in let none : Option Handful = None in
    let some : c.take.result ≡ Some c.requires.0 = c.take.ensures.value
    ∙ held_get hands c.args.actor c.requires.0 c.index_mut.result.now c.requires.1 c.index_mut.ensures.value in
    let l : c.len.result ≡ length hands = c.len.ensures ∙ c.args.hands.now.ok.0 in
    let others : c.in_ok-others.others.items ≡ replicate (length hands) none = c.in_ok-others.ensures {u = tt} ∙ ap (λ (n : ℕ). replicate n none) l in (
      (λ i. set (others i) c.args.actor (some i)) ∙ only-is hands c.args.actor c.requires.0 c.requires.1,
      ap (λ (x : Option Handful). set hands c.args.actor x) c.take.ensures.after,
    )
