use Rattle.std.proofs.Common.{ap, sym, ◌∙◌, List, ◌∷◌, ◌++◌, Option, map}
use Rattle.core_views.specs.Held.{Handful}
use Rattle.table_seats.specs.Passes.{hand_in_place}
use Rattle.table_seats.proofs.Places.{no_gap}
use Rattle.table_seats.proofs.pass_hands.gather_hands.Goals as goal

pub unreachable-requires : goal.unreachable-requires
unreachable-requires c =
    let s = (c.in-Some.ensures {u = tt}).steps.0 in let rest : List (Option Handful) = c.next.new.self.rest.items in
    no_gap c.loop-place.yielded rest (map hand_in_place c.args.places.items)
    (ap (λ (l : List (Option Handful)). c.loop-place.yielded ++ l) (ap (λ (x : Option Handful). x ∷ rest) (sym c.in_default.is) ∙ sym s)
    ∙ (c.loop-place.invariant.2 ∙ c.requires.full))
