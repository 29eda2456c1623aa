use Rattle.flat_laws.proofs.AnsweredImages.{answered_images_are_memory, answered_words_are_in_order, answered_words_are_memory, migrations_are_imaged}
use Rattle.flat_laws.proofs.laws.images_are_memory.Goals as goal

pub returns-clause-imaged : goal.returns-clause-imaged
returns-clause-imaged c = migrations_are_imaged

pub returns-clause-answered : goal.returns-clause-answered
returns-clause-answered c = answered_images_are_memory

pub returns-clause-words : goal.returns-clause-words
returns-clause-words c = answered_words_are_memory

pub returns-clause-order : goal.returns-clause-order
returns-clause-order c = answered_words_are_in_order
