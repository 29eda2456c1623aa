use Rattle.std.proofs.Common.{arith}
use Rattle.spte_words.proofs.Places.{place_at, place_fits}
use Rattle.spte_words.proofs.word_map.WordMap.word_of.Goals as goal

-- A word's number is its area's first and its index, and has 32 bits.
pub overflow_add-result : goal.overflow_add-result
overflow_add-result c = omega (
  arith,
  c.begin_of.ensures,
  place_at c.args.self.now c.args.area c.args.i,
  place_fits c.args.self.now c.args.area c.args.i c.requires.map c.requires.within,
)

pub overflow_cast-result : goal.overflow_cast-result
overflow_cast-result c = omega (
  arith,
  c.begin_of.ensures,
  place_at c.args.self.now c.args.area c.args.i,
  place_fits c.args.self.now c.args.area c.args.i c.requires.map c.requires.within,
)
