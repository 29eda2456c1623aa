-- The runs in which a slot gets a dirty log with each page dirty at once, by computation.
use Rattle.part_steps.specs.TopicSteps.{topics_after}
use Rattle.std.proofs.lemmas.List.Elements.{All-cons, All-nil}
use Rattle.mmu_core.specs.forms.access.Cached.{flushed}
use Rattle.std.proofs.Common.{ℕ, List, ◌≡◌, ◌-◌, ◌^◌, [], ◌∷◌, refl, arith}
use Rattle.std.specs.Prelude.{All, true}
use Rattle.spte_words.specs.Areas.{content_index, place, pool_index}
use Rattle.spte_words.specs.Entries.{absent_word, can_write, frame_in, frozen_word, is_leaf_at, kind_of, leaf_word, level_span, mapped_frame}
use Rattle.spte_words.specs.Entries.{table_word, without_write}
use Rattle.spte_words.specs.Flags.{flags_live, flags_logged, flags_read_only, flags_word}
use Rattle.spte_words.specs.HostWords.{host_allows_write, host_frame, host_level, host_present, host_word}
use lib.Count.{count_trailing_zeros}
use Rattle.core_views.specs.Sizes.{AreSizes}
use Rattle.mmu_laws.specs.steps.ExampleHost.{write_first}
use Rattle.mmu_laws.specs.steps.ExampleLogAll.{ExampleLogAll, all_set_events, all_set_lines, all_set_sizes, log_all, set_wide, wide_lines}
use Rattle.spte_words.specs.declared.area.Area.{Area}
use Rattle.spte_words.specs.declared.area.Area.TheVariants as area
use Rattle.mmu_laws.specs.steps.ExampleSteps.{set_line}
use Rattle.mmu_laws.proofs.steps.ExampleRun.{run_in_range}
use Rattle.mmu_laws.proofs.steps.ComputedRuns.{May, run_delays, run_leaves}
use Rattle.mmu_laws.proofs.steps.FoldedRuns.{fits_all, leads_all, steps_of, tells_all}
use Rattle.mmu_core.specs.machine.View.{View}
use Rattle.mmu_core.proofs.start.StartViews.{start_view}

-- the start, and what hands have counted and words hold after these rounds
abbrev begun : View
begun = start_view all_set_sizes all_set_lines

abbrev wide_begun : View
wide_begun = start_view all_set_sizes wide_lines

abbrev word_after : List (ℕ × List ℕ) → View → Area → ℕ → ℕ
word_after rounds v a index = (leads_all rounds v).words a index

-- the rounds
abbrev all_rounds : ℕ → List (ℕ × List ℕ)
all_rounds steps = steps_of 524 3 ∷ steps_of 1581 0 ∷ steps_of steps 3 ∷ []

abbrev wide_rounds : List (ℕ × List ℕ)
wide_rounds = steps_of 1041 3 ∷ []

-- The checkpoints of the run: what holds after so many of its steps.
record Checkpoints : Type 0 where
  -- where the log begins with each page dirty
  set_all :
      (fits_all all_set_sizes (all_rounds 516) begun ≡ true)
      × (word_after (all_rounds 516) begun area.Log 1 ≡ 7)
  all_whole :
      (fits_all all_set_sizes (all_rounds 525) begun ≡ true)
      × (tells_all (all_rounds 525) begun ≡ all_set_events)
      × (((leads_all (all_rounds 525) begun).hand 3).state.delays ≡ 0)
      × (word_after (all_rounds 525) begun area.Pool (pool_index 4 6) ≡ leaf_word 1 65 true true true)
  -- where the log has two words
  wide :
      (fits_all all_set_sizes wide_rounds wide_begun ≡ true)
      × (word_after wide_rounds wide_begun area.Log 0 ≡ 2 ^ 64 - 1)
      × (word_after wide_rounds wide_begun area.Log 1 ≡ 2 ^ 36 - 1)

checkpoints : Checkpoints
unfolding flushed topics_after place kind_of level_span table_word frozen_word content_index pool_index absent_word frame_in mapped_frame leaf_word flags_live
    flags_read_only flags_word host_allows_write host_frame host_present host_level host_word can_write is_leaf_at flags_logged count_trailing_zeros
    without_write
checkpoints = record {
  set_all = (refl, refl);
  all_whole = (refl, refl, refl, refl);
  wide = (refl, refl, refl);
}

all_allowed : All (May all_set_sizes) all_set_lines
all_allowed =
    All-cons (May all_set_sizes) set_line (write_first ∷ log_all ∷ [])
    (record { some = omega arith; pages = omega arith; base = omega arith; host = omega arith; aligned = omega arith })
    (All-cons (May all_set_sizes) write_first (log_all ∷ []) (omega arith, omega arith, omega arith, omega arith)
    (All-cons (May all_set_sizes) log_all [] tt (All-nil (May all_set_sizes))))

wide_allowed : All (May all_set_sizes) wide_lines
wide_allowed =
    All-cons (May all_set_sizes) set_wide (log_all ∷ [])
    (record { some = omega arith; pages = omega arith; base = omega arith; host = omega arith; aligned = omega arith })
    (All-cons (May all_set_sizes) log_all [] tt (All-nil (May all_set_sizes)))

pub all_in_range : AreSizes all_set_sizes
all_in_range =
    let R = run_in_range in
    record {
      actors = record { vcpus = R.actors.vcpus; hosts = R.actors.hosts; workers = R.actors.workers };
      some = R.some;
      pages = R.pages;
      frames = R.frames;
      words = R.words;
      content = R.content;
      pool = R.pool;
      cache = R.cache;
      firsts = R.firsts;
      rising = record { each = R.rising.each };
    }

pub example_log_all : ExampleLogAll
example_log_all = (
  run_delays all_set_sizes all_set_lines (all_rounds 525) all_set_events 3 0
      all_in_range all_allowed (omega arith) checkpoints.all_whole.0 checkpoints.all_whole.1 checkpoints.all_whole.2,
  run_leaves all_set_sizes all_set_lines (all_rounds 516) area.Log 1 7 all_in_range all_allowed (omega arith) checkpoints.set_all.0 checkpoints.set_all.1,
  run_leaves all_set_sizes wide_lines wide_rounds area.Log 0 (2 ^ 64 - 1) all_in_range wide_allowed (omega arith) checkpoints.wide.0 checkpoints.wide.1,
  run_leaves all_set_sizes wide_lines wide_rounds area.Log 1 (2 ^ 36 - 1) all_in_range wide_allowed (omega arith) checkpoints.wide.0 checkpoints.wide.2,
  run_leaves all_set_sizes all_set_lines (all_rounds 525) area.Pool (pool_index 4 6) (leaf_word 1 65 true true true) all_in_range all_allowed (omega arith)
      checkpoints.all_whole.0 checkpoints.all_whole.3,
)
