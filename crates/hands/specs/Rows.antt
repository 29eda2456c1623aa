-- The types of what a hand lends.
use Rattle.std.specs.Borrow.{RattleType}
use Rattle.core_views.specs.contracts.cache.Cache as cache
use Rattle.hands.specs.contracts.slot_set.SlotSet as slots
use Rattle.core_views.specs.contracts.topics.Topics as topics

abbrev pub topics_row : RattleType
topics_row = topics.the_row

abbrev pub slots_row : RattleType
slots_row = slots.the_row

abbrev pub cache_row : RattleType
cache_row = cache.the_row
