use Rattle.core_views.specs.declared.progress.Progress.{Progress}
use Rattle.std.proofs.Common.{◌≡◌, ◌<◌, ◌^◌, refl, subst, sym}
use Rattle.std.specs.Prelude.{Some}
use Rattle.core_views.specs.declared.topics.Topics.{Topics}
use Rattle.spte_words.specs.Areas.{size_of}
use Rattle.part_steps.specs.declared.task.Task.{Task}
use Rattle.part_steps.specs.PartSteps.{PartNeeds}
use Rattle.part_steps.specs.Tasks.{map_of}
use Rattle.part_steps.proofs.EntryTopics.{looked_frame, swept_page}
use Rattle.part_steps.specs.PartTasks.{page_to_change, table_page}
use Rattle.part_steps.specs.SweepTopics.{gone_up}
use Rattle.spte_words.specs.declared.word_map.WordMap.{WordMap}
use Rattle.part_steps.proofs.FrameWords.{copied_within, stored_within}
use Rattle.part_steps.proofs.PageRuns.{changing_small, next_small, next_there}
use Rattle.part_twins.proofs.part_step.part_task.Goals as goal

-- The host word that was looked up is at a frame of the machine.
pub leaf-requires-clause-frame : goal.leaf-requires-clause-frame
leaf-requires-clause-frame c =
    looked_frame c.args.hand.now.core c.topics-topics.result.now c.topics-topics.ensures
    (subst (λ s. PartNeeds s c.args.hand.now.core) c.in-Leaf.is c.requires.needs).0.looked_up c.requires.rests

-- The table from which a sweep goes on is a page of the pool.
pub sweep-requires-clause-page : goal.sweep-requires-clause-page
sweep-requires-clause-page c =
    subst (λ (m : WordMap). table_page (gone_up c.topics-topics.result.now.walk) < m.pool) (sym c.map_of.ensures.is)
    (subst (λ (p : Progress). table_page (gone_up c.topics-topics.result.now.walk) < p.sizes.pool) (sym c.progress.ensures)
    (swept_page c.args.hand.now.core c.topics-topics.result.now (gone_up c.topics-topics.result.now.walk) c.in-Sweep.gfn c.topics-topics.ensures refl
    (subst (λ s. PartNeeds s c.args.hand.now.core) c.in-Sweep.is c.requires.needs) c.requires.rests))

-- The words that a move copies and stores are words of frames of the machine.
pub returns-in-Copy-clause-within : goal.returns-in-Copy-clause-within
returns-in-Copy-clause-within c =
    subst (λ (t : Task). t.index < size_of (map_of c.args.hand.now.core.state.sizes) t.area) (sym c.load-in-Copy.ensures)
    (copied_within c.args.hand.now.core c.in-Copy.index c.requires.rests (subst (λ s. PartNeeds s c.args.hand.now.core) c.in-Copy.is c.requires.needs))

pub returns-in-Store-clause-within : goal.returns-in-Store-clause-within
returns-in-Store-clause-within c =
    subst (λ (t : Task). t.index < size_of (map_of c.args.hand.now.core.state.sizes) t.area) (sym c.work-in-Store.ensures)
    (stored_within c.args.hand.now.core c.in-Store.index c.requires.rests (subst (λ s. PartNeeds s c.args.hand.now.core) c.in-Store.is c.requires.needs))

-- The run whose pages are changed is one of the machine's, and so is its next page.
pub change_next-requires-clause-run : goal.change_next-requires-clause-run
change_next-requires-clause-run c = λ run is.
    changing_small c.args.hand.now.core run c.requires.rests (subst (λ s. PartNeeds s c.args.hand.now.core) c.in-ChangeNext.is c.requires.needs)
    (subst (λ (t : Topics). t.invalidations.own.pages ≡ Some run) c.topics-topics.ensures is)

pub change_next-requires-clause-page : goal.change_next-requires-clause-page
change_next-requires-clause-page c =
    subst (λ (t : Topics). page_to_change t.invalidations.own.pages < 2 ^ 32) (sym c.topics-topics.ensures)
    (next_small c.args.hand.now.core c.requires.rests (subst (λ s. PartNeeds s c.args.hand.now.core) c.in-ChangeNext.is c.requires.needs))

pub returns-in-ChangeNext-clause-within : goal.returns-in-ChangeNext-clause-within
returns-in-ChangeNext-clause-within c =
    subst (λ (t : Task). t.index < size_of (map_of c.args.hand.now.core.state.sizes) t.area) (sym c.change_next.ensures)
    (subst (λ (t : Topics). page_to_change t.invalidations.own.pages < c.args.hand.now.core.state.sizes.pages) (sym c.topics-topics.ensures)
    (next_there c.args.hand.now.core c.requires.rests (subst (λ s. PartNeeds s c.args.hand.now.core) c.in-ChangeNext.is c.requires.needs)))
