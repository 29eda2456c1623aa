-- The runs in a pool of one page less than their lines need, and in one of as many, by computation.
use lib.Count.{count_trailing_zeros}
use Rattle.std.proofs.Common.{◌≡◌, ◌+◌, ◌++◌, ◌^◌, ◌∙◌, ℕ, List, [], ◌∷◌, refl, arith, lit<, lit≤}
use Rattle.std.proofs.lemmas.Fmt.{decimal_digit}
use Rattle.std.specs.Prelude.{codes, false, true}
use Rattle.core_views.specs.Need.{need}
use Rattle.core_views.specs.Sizes.{AreSizes}
use Rattle.core_views.specs.Text.{line_text, text}
use Rattle.spte_words.specs.declared.area.Area.TheVariants as area
use Rattle.spte_words.specs.Areas.{content_index, place, pool_index}
use Rattle.spte_words.specs.Entries.{absent_word, can_write, frame_in, frozen_word, is_leaf_at, kind_of, leaf_word, level_span, mapped_frame, table_word}
use Rattle.spte_words.specs.Flags.{flags_live, flags_logged, flags_read_only, flags_word}
use Rattle.spte_words.specs.HostWords.{host_allows_write, host_frame, host_level, host_present, host_word}
use Rattle.part_steps.specs.TopicSteps.{topics_after}
use Rattle.flat_laws.specs.Laws.{example_slot}
use Rattle.mmu_core.specs.forms.access.Cached.{flushed}
use Rattle.mmu_core.specs.machine.View.{View}
use Rattle.mmu_core.proofs.start.StartViews.{start_view}
use Rattle.mmu_laws.specs.steps.ExampleRaces.{race_lines}
use Rattle.mmu_laws.specs.steps.ExampleSteps.{run_sizes, set_line}
use Rattle.mmu_laws.specs.steps.ExampleTight.{ExampleTight, enough_events, tight_events, tight_header, tight_sizes}
use Rattle.mmu_laws.proofs.pool.NeedCounts.{one_slot_needs_seven}
use Rattle.mmu_laws.proofs.steps.ComputedRuns.{run_delays, run_leaves, run_tells}
use Rattle.mmu_laws.proofs.steps.Decimals.{two_digits}
use Rattle.mmu_laws.proofs.steps.ExampleRun.{pool_in_range, race_allowed, run_in_range}
use Rattle.mmu_laws.proofs.steps.FoldedRuns.{fits_all, leads_all, steps_of, tells_all}

-- the start with a pool of this size, and its map after these rounds
abbrev begun : ℕ → View
begun pool = start_view (record run_sizes { pool = pool }) race_lines

abbrev map_after : ℕ → List (ℕ × List ℕ) → ℕ
map_after pool rounds = (leads_all rounds (begun pool)).words area.PoolMap 0

-- the rounds
abbrev rounds_to_claim : List (ℕ × List ℕ)
rounds_to_claim = steps_of 519 3 ∷ steps_of 1054 0 ∷ []

abbrev tight_rounds : List (ℕ × List ℕ)
tight_rounds = rounds_to_claim ++ (steps_of 25 1 ∷ steps_of 527 0 ∷ steps_of 5 3 ∷ [])

abbrev enough_rounds : List (ℕ × List ℕ)
enough_rounds = rounds_to_claim ++ (steps_of 551 1 ∷ steps_of 526 0 ∷ steps_of 5 3 ∷ [])

-- with six pages: before the second write, and the whole run
none_free : (fits_all tight_sizes rounds_to_claim (begun 6) ≡ true) × (map_after 6 rounds_to_claim ≡ 0)
unfolding flushed topics_after place kind_of level_span table_word frozen_word content_index pool_index absent_word frame_in mapped_frame leaf_word flags_live
    flags_read_only flags_word host_allows_write host_frame host_present host_word can_write is_leaf_at flags_logged count_trailing_zeros host_level
none_free = (refl, refl)

tight_whole : (fits_all tight_sizes tight_rounds (begun 6) ≡ true) × (tells_all tight_rounds (begun 6) ≡ tight_events)
unfolding flushed topics_after place kind_of level_span table_word frozen_word content_index pool_index absent_word frame_in mapped_frame leaf_word flags_live
    flags_read_only flags_word host_allows_write host_frame host_present host_word can_write is_leaf_at flags_logged count_trailing_zeros host_level
tight_whole = (refl, refl)

-- and with seven
one_free : (fits_all run_sizes rounds_to_claim (begun 7) ≡ true) × (map_after 7 rounds_to_claim ≡ 2 ^ 6)
unfolding flushed topics_after place kind_of level_span table_word frozen_word content_index pool_index absent_word frame_in mapped_frame leaf_word flags_live
    flags_read_only flags_word host_allows_write host_frame host_present host_word can_write is_leaf_at flags_logged count_trailing_zeros host_level
one_free = (refl, refl)

enough_whole :
    (fits_all run_sizes enough_rounds (begun 7) ≡ true)
    × (tells_all enough_rounds (begun 7) ≡ enough_events)
    × (((leads_all enough_rounds (begun 7)).hand 0).state.delays ≡ 1)
unfolding flushed topics_after place kind_of level_span table_word frozen_word content_index pool_index absent_word frame_in mapped_frame leaf_word flags_live
    flags_read_only flags_word host_allows_write host_frame host_present host_word can_write is_leaf_at flags_logged count_trailing_zeros host_level
enough_whole = (refl, refl, refl)

-- Lines that set no slot need no page.
needs_of_slot : need tight_header race_lines ≡ need tight_header (set_line ∷ [])
unfolding need
needs_of_slot = refl

tight_needs : need tight_header race_lines ≡ tight_sizes.pool + 1
tight_needs = needs_of_slot ∙ one_slot_needs_seven tight_header set_line 0 (example_slot 5 64 false) refl refl (omega arith)

tight_prints : text tight_events ≡ codes "4 v1 starved\n3 v0 frame 65 value 0\n2 vm done\n"
unfolding line_text
tight_prints = simp (
  decimal_digit 0 (lit< tt),
  decimal_digit 1 (lit< tt),
  decimal_digit 2 (lit< tt),
  decimal_digit 3 (lit< tt),
  decimal_digit 4 (lit< tt),
  two_digits 65 (lit≤ tt) (lit< tt),
)

enough_prints : text enough_events ≡ codes "4 v1 frame 65 value 0\n3 v0 frame 65 value 8\n2 vm done\n"
unfolding line_text
enough_prints = simp (
  decimal_digit 0 (lit< tt),
  decimal_digit 1 (lit< tt),
  decimal_digit 2 (lit< tt),
  decimal_digit 3 (lit< tt),
  decimal_digit 4 (lit< tt),
  decimal_digit 8 (lit< tt),
  two_digits 65 (lit≤ tt) (lit< tt),
)

six_in_range : AreSizes tight_sizes
six_in_range = pool_in_range 6 (omega arith) (omega arith)

pub example_tight : ExampleTight
example_tight = (
  refl,
  tight_needs,
  run_leaves tight_sizes race_lines rounds_to_claim area.PoolMap 0 0 six_in_range (race_allowed 6) (omega arith) none_free.0 none_free.1,
  run_tells tight_sizes race_lines tight_rounds tight_events six_in_range (race_allowed 6) (omega arith) tight_whole.0 tight_whole.1,
  tight_prints,
  run_leaves run_sizes race_lines rounds_to_claim area.PoolMap 0 (2 ^ 6) run_in_range (race_allowed 7) (omega arith) one_free.0 one_free.1,
  run_delays run_sizes race_lines enough_rounds enough_events 0 1 run_in_range (race_allowed 7) (omega arith) enough_whole.0 enough_whole.1 enough_whole.2,
  enough_prints,
)
