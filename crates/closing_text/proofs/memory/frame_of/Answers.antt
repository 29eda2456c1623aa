use Rattle.std.proofs.Common.{◌<◌, ap, arith}
use Rattle.spte_words.specs.declared.area.Area.TheVariants.{Host}
use Rattle.spte_words.specs.declared.word_map.WordMap.{WordMap}
use Rattle.closing_text.proofs.ImageTexts.{word_there}
use Rattle.closing_text.proofs.memory.frame_of.Goals as goal

pub bounds-words-at : goal.bounds-words-at
bounds-words-at c =
    let m = c.map_of.result in
    let same = ap (λ (x : WordMap). x.pages) c.map_of.ensures.is in
    let within : c.args.host_page < m.pages = omega (arith, same, c.requires.page) in
    word_there c.args.sizes.now c.args.words.now m Host c.args.host_page c.word_of-at.result
    c.requires.words.count c.map_of.ensures.is c.word_of-at.ensures within
