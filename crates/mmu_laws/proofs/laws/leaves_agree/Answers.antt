use Rattle.mmu_laws.proofs.leaves.LeafLaws.{cached_leaves_agree, held_leaves_agree, leaves_agree, leaves_cover_spans, used_leaves_agree}
use Rattle.mmu_laws.proofs.leaves.OpenFrames.{open_frames_are_flushed, open_frames_are_of_the_pages, open_frames_are_recorded, open_frames_are_zapped}
use Rattle.mmu_laws.proofs.laws.leaves_agree.Goals as goal

pub returns-clause-standing : goal.returns-clause-standing
returns-clause-standing c = leaves_agree

pub returns-clause-held : goal.returns-clause-held
returns-clause-held c = held_leaves_agree

pub returns-clause-spans : goal.returns-clause-spans
returns-clause-spans c = leaves_cover_spans

pub returns-clause-cached : goal.returns-clause-cached
returns-clause-cached c = cached_leaves_agree

pub returns-clause-used : goal.returns-clause-used
returns-clause-used c = used_leaves_agree

pub returns-clause-recorded : goal.returns-clause-recorded
returns-clause-recorded c = open_frames_are_recorded

pub returns-clause-scopes : goal.returns-clause-scopes
returns-clause-scopes c = open_frames_are_of_the_pages

pub returns-clause-zapped : goal.returns-clause-zapped
returns-clause-zapped c = open_frames_are_zapped

pub returns-clause-flushed : goal.returns-clause-flushed
returns-clause-flushed c = open_frames_are_flushed
