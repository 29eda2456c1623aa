use Rattle.core_theorem.proofs.Frames.{copied_words_are_the_pages, frames_are_used, loaded_leaves_kept, watched_hold_no_old_frame}
use Rattle.core_theorem.proofs.FramesReused.{frames_are_reused_alone}
use Rattle.core_theorem.proofs.Holdings.{pages_are_reused_alone}
use Rattle.core_theorem.proofs.Pages.{pages_are_used}
use Rattle.core_theorem.proofs.Runs.{sound}
use Rattle.core_theorem.proofs.SetsAlwaysCleared.{returned_sets_are_cleared}
use Rattle.core_theorem.proofs.WalksKept.{walks_hold_tables}
use Rattle.core_theorem.proofs.uses.every_run_pages.Goals as goal

pub returns-clause-pages : goal.returns-clause-pages
returns-clause-pages c z lines w ss R = pages_are_used z _ (sound z lines w ss R)

pub returns-clause-walks : goal.returns-clause-walks
returns-clause-walks c = walks_hold_tables

pub returns-clause-reuse : goal.returns-clause-reuse
returns-clause-reuse c = pages_are_reused_alone

pub returns-clause-cleared : goal.returns-clause-cleared
returns-clause-cleared c = returned_sets_are_cleared

pub returns-clause-frames : goal.returns-clause-frames
returns-clause-frames c z lines w ss R = frames_are_used z _ (sound z lines w ss R)

pub returns-clause-copied : goal.returns-clause-copied
returns-clause-copied c = copied_words_are_the_pages

pub returns-clause-loaded : goal.returns-clause-loaded
returns-clause-loaded c = loaded_leaves_kept

pub returns-clause-frame_reuse : goal.returns-clause-frame_reuse
returns-clause-frame_reuse c = frames_are_reused_alone

pub returns-clause-moved : goal.returns-clause-moved
returns-clause-moved c = watched_hold_no_old_frame
