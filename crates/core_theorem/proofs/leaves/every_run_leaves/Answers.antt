use Rattle.mmu_laws.proofs.leaves.LeafLaws.{cached_leaves_agree, leaves_agree, leaves_cover_spans, used_leaves_agree}
use Rattle.mmu_laws.proofs.leaves.OpenFrames.{open_frames_are_flushed, open_frames_are_of_the_pages, open_frames_are_recorded, open_frames_are_zapped}
use Rattle.core_theorem.proofs.LookUps.{found_slots_are_held, fresh_look_ups_are_true, held_slots_stand, looked_up_pages_stand}
use Rattle.core_theorem.proofs.Runs.{sound}
use Rattle.core_theorem.proofs.WalksKept.{held_leaves_are_linked}
use Rattle.core_theorem.proofs.leaves.every_run_leaves.Goals as goal

pub returns-clause-leaves : goal.returns-clause-leaves
returns-clause-leaves c z lines w ss R gfn low entry small leads leaf = leaves_agree z _ gfn low entry (sound z lines w ss R) small leads leaf

pub returns-clause-held : goal.returns-clause-held
returns-clause-held c = held_leaves_are_linked

pub returns-clause-spans : goal.returns-clause-spans
returns-clause-spans c z lines w ss R gfn low entry small leads leaf = leaves_cover_spans z _ gfn low entry (sound z lines w ss R) small leads leaf

pub returns-clause-translations : goal.returns-clause-translations
returns-clause-translations c z lines w ss R actor there = cached_leaves_agree z _ actor (sound z lines w ss R) there

pub returns-clause-used : goal.returns-clause-used
returns-clause-used c z lines w ss R actor gfn word op there stands command =
    used_leaves_agree z _ actor gfn word op (sound z lines w ss R) there stands command

pub returns-clause-recorded : goal.returns-clause-recorded
returns-clause-recorded c z lines w ss R actor gfn there opened is_in = open_frames_are_recorded z _ actor gfn (sound z lines w ss R) there opened is_in

pub returns-clause-scopes : goal.returns-clause-scopes
returns-clause-scopes c z lines w ss R actor run there opened is =
    open_frames_are_of_the_pages z _ actor run (sound z lines w ss R) there opened is

pub returns-clause-zapped : goal.returns-clause-zapped
returns-clause-zapped c z lines w ss R actor gfn low entry there emptied asked is_in leads leaf =
    open_frames_are_zapped z _ actor gfn low entry (sound z lines w ss R) there emptied asked is_in leads leaf

pub returns-clause-flushed : goal.returns-clause-flushed
returns-clause-flushed c z lines w ss R actor v there opened low awaited may =
    open_frames_are_flushed z _ actor v (sound z lines w ss R) there opened low awaited may

pub returns-clause-found : goal.returns-clause-found
returns-clause-found c = found_slots_are_held

pub returns-clause-held_slots : goal.returns-clause-held_slots
returns-clause-held_slots c = held_slots_stand

pub returns-clause-looked : goal.returns-clause-looked
returns-clause-looked c = looked_up_pages_stand

pub returns-clause-fresh : goal.returns-clause-fresh
returns-clause-fresh c = fresh_look_ups_are_true
