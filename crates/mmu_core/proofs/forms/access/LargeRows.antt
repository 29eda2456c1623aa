-- Which leaf a fault puts, worked out for a few slots and host words. Guest frame 700 is the 189th of the run of 512 from guest frame 512.
use Rattle.std.specs.Prelude.{◌≡◌, ◌+◌, ◌*◌, ℕ, Bool, true, false, Some}
use Rattle.std.proofs.Common.{refl}
use Rattle.core_views.specs.declared.place.FaultPlace.TheVariants.{Claim, Leaf}
use Rattle.core_views.specs.declared.topics.Topics.{Topics}
use Rattle.core_views.specs.Held.{first_topics, no_search, no_walk}
use Rattle.spte_words.specs.Entries as Entries
use Rattle.spte_words.specs.HostWords as HostWords
use Rattle.mmu_core.specs.forms.access.FaultSteps.{end_next}

-- A fault in guest frame 700 has come to an entry of the level, and has found a slot of these guest frames from this host page on. The host maps the page at
-- frame 2236, and allows writes, by a mapping of this level.
abbrev seen : (level base pages host : ℕ) → Bool → ℕ → Topics
seen level base pages host logged mapped = record first_topics {
  walk = record no_walk { level = level };
  search = record no_search { slot = record { base = base; pages = pages; host = host; read_only = false }; logged = logged };
  host = Some (record { page = host + 188; word = 4096 * 2236 + 4 * mapped + 3 });
}

-- Host and slot allow the run of level 2: the leaf is put there, and not below; above it a table is linked.
leaf_of_the_run : end_next 700 true (seen 2 512 1024 2048 false 2) ≡ Leaf true
unfolding Entries.level_span HostWords.host_level
leaf_of_the_run = refl

table_above_the_run : end_next 700 true (seen 3 512 1024 2048 false 2) ≡ Claim false
unfolding Entries.level_span HostWords.host_level
table_above_the_run = refl

-- The host maps the page by itself.
small_page : end_next 700 true (seen 2 512 1024 2048 false 1) ≡ Claim false
unfolding Entries.level_span HostWords.host_level
small_page = refl

leaf_of_a_small_page : end_next 700 true (seen 1 512 1024 2048 false 1) ≡ Leaf true
unfolding Entries.level_span HostWords.host_level
leaf_of_a_small_page = refl

-- The slot has a dirty log; or it lacks the first frames of the run, or the last; or the run begins elsewhere among its pages.
logged_slot : end_next 700 true (seen 2 512 1024 2048 true 2) ≡ Claim false
unfolding Entries.level_span HostWords.host_level
logged_slot = refl

slot_begins_later : end_next 700 true (seen 2 576 1024 2112 false 2) ≡ Claim false
unfolding Entries.level_span HostWords.host_level
slot_begins_later = refl

slot_ends_before : end_next 700 true (seen 2 512 448 2048 false 2) ≡ Claim false
unfolding Entries.level_span HostWords.host_level
slot_ends_before = refl

run_begins_elsewhere : end_next 700 true (seen 2 512 1024 2112 false 2) ≡ Claim false
unfolding Entries.level_span HostWords.host_level
run_begins_elsewhere = refl
