-- How many steps a line has left that reads a dirty log.
use Rattle.std.specs.Prelude.{◌+◌, ◌-◌, ◌*◌, ℕ, true, false, if◌then◌else◌}
use Rattle.core_views.specs.declared.place.LogPlace.{LogPlace}
use Rattle.core_views.specs.declared.place.LogPlace.TheVariants.{AtOnce, Exclude, Take, Root, Walk, Protect, Release, Ask, Await, Peek}
use Rattle.core_views.specs.declared.sizes.Sizes.{Sizes}
use Rattle.core_views.specs.declared.topics.Topics.{Topics}
use Rattle.spte_words.specs.Areas.{words_of_bits}
use Rattle.part_steps.specs.SweepTopics.{has_entry}
use Rattle.mmu_core.specs.declared.log_next.LogNext.{LogNext}
use Rattle.mmu_core.specs.declared.log_next.LogNext.TheVariants as next

-- the most that the walk to a page's leaf has left: an entry of each level, and the change of the leaf
abbrev pub walk_left : Topics → ℕ
walk_left t = if has_entry t.walk then 5 else t.walk.level + 1

-- The most steps that it has left, where no other actor is in the way: those on the log's words, five for each page, and two for each virtual processor;
-- and one more, so that it has one at each place.
abbrev pub log_left : LogPlace → Sizes → Topics → ℕ
log_left (AtOnce refusal) z t = 1
log_left Exclude z t = 2 * z.vcpus + 4 + 5 * z.pages + words_of_bits z.pages
log_left (Take false) z t = 2 * z.vcpus + 3 + 5 * z.pages + words_of_bits z.pages
log_left (Take true) z t = 2 * z.vcpus + 3 + 5 * z.pages + (words_of_bits z.pages - t.next_log_word)
log_left Root z t = 2 * z.vcpus + 3 + 5 * z.pages
log_left (Walk page) z t = 2 * z.vcpus + 2 + 5 * (z.pages - (page + 1)) + walk_left t
log_left (Protect page) z t = 2 * z.vcpus + 3 + 5 * (z.pages - (page + 1))
log_left Release z t = 2 * z.vcpus + 2
log_left Ask z t = z.vcpus + (z.vcpus - t.flush.asked) + 1
log_left Await z t = z.vcpus - t.flush.awaited + 1
log_left (Peek false) z t = words_of_bits z.pages + 1
log_left (Peek true) z t = words_of_bits z.pages - t.next_log_word + 1

-- after a step: none where it is refused or answered
abbrev pub log_left_after : LogNext → Sizes → Topics → ℕ
log_left_after (next.Goes p) z t = log_left p z t
log_left_after (next.Refused refusal) z t = 0
log_left_after next.Reads z t = 0
