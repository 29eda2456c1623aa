use Rattle.std.proofs.Common.{◌≡◌, ◌≤◌, ◌<◌, List, Option, ap, subst, false, true, length, get_or, ◌∙◌}
use Rattle.std.specs.Prelude.{is_some, not}
use Rattle.std.proofs.lemmas.List.{take_all}
use Rattle.core_views.specs.Held.{Handful}
use Rattle.table_seats.specs.Boards.{AllHands}
use Rattle.table_seats.specs.Passes.{PassView}
use Rattle.table_seats.proofs.Places.{all-further, no-gap}
use Rattle.table_seats.proofs.pass.Pass.has_all.Goals as goal

pub loop-place-preserved : goal.loop-place-preserved
loop-place-preserved c =
    let x = c.place-item.result in
    let shown : c.deref-place-items.result.now ≡ c.args.self.now.hands = c.deref-place-items.ensures.value ∙ ap (λ (t : PassView). t.hands) c.self.view_is in
    let there : is_some x ≡ true = c.is_none.ensures ∙ ap not c.if-is_none.false in
    all-further c.args.self.now.hands c.loop-place.place-index x
    (subst (λ (l : List (Option Handful)). x ≡ get_or l c.loop-place.place-index x) shown c.place-item.is) there c.loop-place.invariant

pub returns-clause-all : goal.returns-clause-all
returns-clause-all c = λ e.
    let shown = c.deref-place-items.ensures.value ∙ ap (λ (t : PassView). t.hands) c.self.view_is in
    let hands = c.args.self.now.hands in
    let n : length hands ≤ c.loop-place.place-index =
    subst (λ (l : List (Option Handful)). length l ≤ c.loop-place.place-index) shown c.loop-place-test.false in
    subst AllHands (take_all c.loop-place.place-index hands n) c.loop-place.invariant

pub returns-then-is_none-clause-misses : goal.returns-then-is_none-clause-misses
returns-then-is_none-clause-misses c = λ e all.
    let x = c.place-item.result in
    let hands = c.args.self.now.hands in
    let shown : c.deref-place-items.result.now ≡ hands = c.deref-place-items.ensures.value ∙ ap (λ (t : PassView). t.hands) c.self.view_is in
    let lt = subst (λ (l : List (Option Handful)). c.loop-place.place-index < length l) shown c.loop-place-test.true in
    let at = subst (λ (l : List (Option Handful)). x ≡ get_or l c.loop-place.place-index x) shown c.place-item.is in
    let gap : is_some x ≡ false = c.is_none.ensures ∙ ap not c.if-is_none.true in
    no-gap hands c.loop-place.place-index x lt at gap all
