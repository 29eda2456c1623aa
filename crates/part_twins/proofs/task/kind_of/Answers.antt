use Rattle.part_steps.specs.Tasks.{map_of}
use Rattle.spte_words.proofs.Places.{place_below}
use Rattle.part_twins.proofs.task.kind_of.Goals as goal

pub returns-clause-inside : goal.returns-clause-inside
returns-clause-inside c =
    rw (c.word_of.ensures, c.map_of.ensures.is) (place_below (map_of c.args.sizes.now) c.args.task.now.area c.args.task.now.index c.requires.within)
