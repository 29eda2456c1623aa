use Rattle.std.proofs.Common.{◌≡◌, ◌<◌, ◌+◌, arith, ap, sym, ◌∙◌, refl, List, ◌∷◌, [], ◌++◌, Option, length, length-append}
use Rattle.core_views.specs.Held.{Handful}
use Rattle.table_seats.proofs.HandLists.{overlay-length}
use Rattle.table_seats.proofs.Places.{overlay-nil, brings, leaves, none_of}
use Rattle.table_seats.proofs.pass_hands.merge.Goals as goal
use Rattle.table_seats.proofs.pass_hands.merge.Goals.{in-Some-place+in-Some-1, in-Some-place+in-None-1, in_default}

pub loop-place-init : goal.loop-place-init
loop-place-init c =
    let e = ap (λ (l : List (Option Handful)). length l) c.into_iter-place-iterator.ensures.into_iter_gives.0 in
    (sym (overlay-nil c.args.mine.now.items), refl, omega (arith, e, c.requires))

pub index_mut-requires : goal.index_mut-requires
index_mut-requires c =
    let o = overlay-length c.args.mine.now.items c.loop-place.yielded in
    let n = ap (λ (l : List (Option Handful)). length l) (c.in-Some.ensures {u = tt}).steps.0 in
    let m = ap (λ (l : List (Option Handful)). length l) c.loop-place.invariant.0 in let l = c.loop-place.mine.ok.0 in
    omega (arith, o, n, m, l, c.loop-place.invariant.1, c.loop-place.invariant.2)

pub loop-place-preserved : goal.loop-place-preserved
loop-place-preserved c =
    let l = c.loop-place in
    let before = c.args.mine.now.items in
    let place = c.in-Some.place in
    let n : length (l.yielded ++ place ∷ []) ≡ length l.yielded + 1 = length-append l.yielded (place ∷ []) in
    let s = ap (λ (x : List (Option Handful)). length x) (c.in-Some.ensures {u = tt}).steps.0 in
    let lt : length l.yielded < length before = omega (arith, s, l.invariant.2) in (
      elim c.match-place.branch [
        | in-Some-place+in-Some-1 w ↦
            ap (λ v. v.items) w.mine-is
            ∙ brings before l.yielded l.mine.items l.at place w.in-Some-place.hand l.invariant.0 l.invariant.1 lt w.in-Some-place.is
        | in-Some-place+in-None-1 w ↦
            ap (λ v. v.items) w.mine-is
            ∙ brings before l.yielded l.mine.items l.at place w.in-Some-place.hand l.invariant.0 l.invariant.1 lt w.in-Some-place.is
        | in_default w ↦ ap (λ v. v.items) w.mine-is ∙ leaves before l.yielded l.mine.items place l.invariant.0 (none_of place w.in_default.not-Some)
      ],
      omega (arith, n, l.invariant.1),
      omega (arith, n, s, l.invariant.2),
    )
