use Rattle.std.proofs.Common.{refl}
use Rattle.spte_words.specs.Areas.{place, total}
use Rattle.spte_words.proofs.Places.{at_number, first_place, next_place, last_place, places_apart, place_below, word_stands, total_fits}
use Rattle.spte_words.proofs.Indices.{content_within, same_content, pool_within, same_pool_word}
use Rattle.spte_words.proofs.laws.places_are_apart.Goals as goal

pub returns-clause-follow : goal.returns-clause-follow
returns-clause-follow c m = (at_number, first_place m, next_place m, last_place m)

pub returns-clause-differ : goal.returns-clause-differ
returns-clause-differ c = places_apart

pub returns-clause-fill : goal.returns-clause-fill
returns-clause-fill c m = (place_below m, word_stands m)

pub returns-clause-fit : goal.returns-clause-fit
returns-clause-fit c = total_fits

pub returns-clause-content : goal.returns-clause-content
returns-clause-content c m frame other word second in_words second_in =
    (λ in_frames. content_within m frame word in_frames in_words, same_content m frame other word second in_words second_in)

pub returns-clause-pool : goal.returns-clause-pool
returns-clause-pool c m page other i j i_in j_in = (λ in_pool. pool_within m page i in_pool i_in, same_pool_word page other i j i_in j_in)

pub returns-clause-examples : goal.returns-clause-examples
unfolding place total
returns-clause-examples c = (refl, refl, refl)
