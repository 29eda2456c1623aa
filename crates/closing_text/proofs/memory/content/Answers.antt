use Rattle.spte_words.specs.declared.area.Area.TheVariants.{Content}
use Rattle.closing_text.proofs.ImageTexts.{word_there}
use Rattle.closing_text.proofs.memory.content.Goals as goal

pub bounds-words-at : goal.bounds-words-at
bounds-words-at c =
    word_there c.args.sizes.now c.args.words.now c.map_of-map.result Content c.content_index.result c.word_of_content-at.result c.requires.words.count
    c.map_of-map.ensures.is c.word_of_content-at.ensures c.content_index.ensures.within
