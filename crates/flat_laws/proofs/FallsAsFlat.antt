-- Where no line is starved, each move takes the lowest frame, and each reading all that is dirty, no choice is left open: so the choices fall as the flat
-- history's do. And what is so of the moves of two histories is so of one after the other.
use Rattle.std.proofs.Common.{◌++◌, List, [], ◌∷◌}
use Rattle.core_views.specs.declared.event.Event.{Event}
use Rattle.core_views.specs.declared.sizes.Sizes.{Sizes}
use Rattle.core_views.specs.Alone.{FallAsFlat, NoneStarved, ReadDirty, TakeLowest}
use Rattle.core_views.specs.Events.{after, after_all}
use Rattle.core_views.specs.Flat.{Flat}

pub all_fall : (z : Sizes) (f : Flat) (h : List Event) → NoneStarved h → TakeLowest z f h → ReadDirty f h → FallAsFlat z f h
all_fall z f [] fed takes reads = tt
all_fall z f (e ∷ es) fed takes reads = ((fed.0, takes.0, reads.0), all_fall z (after e f) es fed.1 takes.1 reads.1)

-- Each move takes the lowest frame, in the one history and in the one after it.
pub lowest_append : (z : Sizes) (xs ys : List Event) (f : Flat) → TakeLowest z f xs → TakeLowest z (after_all xs f) ys → TakeLowest z f (xs ++ ys)
lowest_append z [] ys f first then_ = then_
lowest_append z (x ∷ xs) ys f first then_ = (first.0, lowest_append z xs ys (after x f) first.1 then_)

-- the same, the other way round
pub lowest_parts : (z : Sizes) (xs ys : List Event) (f : Flat) → TakeLowest z f (xs ++ ys) → TakeLowest z f xs × TakeLowest z (after_all xs f) ys
lowest_parts z [] ys f both = (tt, both)
lowest_parts z (x ∷ xs) ys f both = let parts = lowest_parts z xs ys (after x f) both.1 in ((both.0, parts.0), parts.1)
