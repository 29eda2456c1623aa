-- The run in which a stay misses and the exchange of a fast fault is lost, by computation.
use lib.Count.{count_trailing_zeros}
use Rattle.std.proofs.Common.{ℕ, List, ◌≡◌, [], ◌∷◌, refl, arith, lit<, lit≤, ◌++◌}
use Rattle.std.proofs.lemmas.Fmt.{decimal_digit}
use Rattle.std.proofs.lemmas.List.Elements.{All-cons, All-nil}
use Rattle.std.specs.Prelude.{All, true, false, codes}
use Rattle.core_views.specs.declared.place.AccessPlace.TheVariants.{Fault, Leave, Walk}
use Rattle.core_views.specs.declared.place.FaultPlace.TheVariants.{End, Fix}
use Rattle.core_views.specs.declared.place.Leaving.TheVariants.{Faults}
use Rattle.core_views.specs.declared.place.Place.{Place}
use Rattle.core_views.specs.declared.place.Place.TheVariants.{Access}
use Rattle.core_views.specs.Text.{line_text, text}
use Rattle.spte_words.specs.declared.area.Area.{Area}
use Rattle.spte_words.specs.declared.area.Area.TheVariants as area
use Rattle.spte_words.specs.Areas.{content_index, place, pool_index}
use Rattle.spte_words.specs.Entries.{absent_word, can_write, frame_in, frozen_word, is_leaf_at, kind_of, leaf_word, level_span, mapped_frame}
use Rattle.spte_words.specs.Entries.{table_word, with_write, without_write, host_writable, mmu_writable}
use Rattle.spte_words.specs.Flags.{flags_live, flags_logged, flags_read_only, flags_word}
use Rattle.spte_words.specs.HostWords.{host_allows_write, host_frame, host_level, host_present, host_word}
use Rattle.part_steps.specs.TopicSteps.{topics_after}
use Rattle.mmu_core.specs.forms.access.Cached.{flushed}
use Rattle.mmu_core.specs.machine.View.{View}
use Rattle.mmu_core.proofs.start.StartViews.{start_view}
use Rattle.mmu_laws.specs.steps.ExampleHost.{write_first}
use Rattle.mmu_laws.specs.steps.ExampleLog.{log_on, write_logged}
use Rattle.mmu_laws.specs.steps.ExampleMisses.{ExampleMisses, lost_end, miss_events, miss_lines, missing_line}
use Rattle.mmu_laws.specs.steps.ExampleSteps.{RunLeaves, RunStands, run_sizes, set_line}
use Rattle.mmu_laws.proofs.steps.ComputedRuns.{May, run_delays, run_leaves, run_stands}
use Rattle.mmu_laws.proofs.steps.Decimals.{two_digits}
use Rattle.mmu_laws.proofs.steps.ExampleRun.{may_set, run_in_range}
use Rattle.mmu_laws.proofs.steps.FoldedRuns.{fits_all, leads_all, steps_of, tells_all, turns}

-- the start, and what words hold and where lines stand after these rounds
abbrev begun : View
begun = start_view run_sizes miss_lines

abbrev word_after : List (ℕ × List ℕ) → Area → ℕ → ℕ
word_after rounds a index = (leads_all rounds begun).words a index

abbrev place_after : List (ℕ × List ℕ) → Place
place_after rounds = ((leads_all rounds begun).hand 1).state.place

-- the rounds
abbrev rounds_to_forbid : ℕ → List (ℕ × List ℕ)
rounds_to_forbid steps = steps_of 524 3 ∷ steps_of 13 1 ∷ steps_of 1581 0 ∷ steps_of 522 3 ∷ steps_of 10 1 ∷ steps_of steps 3 ∷ []

abbrev rounds_to_miss : ℕ → List (ℕ × List ℕ)
rounds_to_miss steps = rounds_to_forbid 18 ++ (steps_of steps 1 ∷ [])

abbrev rounds_to_lose : ℕ → List (ℕ × List ℕ)
rounds_to_lose steps = rounds_to_miss 19 ++ (steps_of 20 0 ∷ steps_of steps 1 ∷ [])

abbrev miss_rounds : List (ℕ × List ℕ)
miss_rounds = rounds_to_lose 11 ++ (steps_of 11 0 ∷ [])

-- before the leaf forbids writes, and after it
allows :
    (fits_all run_sizes (rounds_to_forbid 9) begun ≡ true)
    × (word_after (rounds_to_forbid 9) area.Pool (pool_index 4 6) ≡ leaf_word 1 65 true true true)
unfolding flushed topics_after place kind_of level_span table_word frozen_word content_index pool_index absent_word frame_in mapped_frame leaf_word flags_live
    flags_read_only flags_word host_allows_write host_frame host_present host_level host_word can_write is_leaf_at flags_logged count_trailing_zeros
    without_write
allows = (refl, refl)

forbids :
    (fits_all run_sizes (rounds_to_forbid 10) begun ≡ true)
    × (word_after (rounds_to_forbid 10) area.Pool (pool_index 4 6) ≡ leaf_word 1 65 false true true)
unfolding flushed topics_after place kind_of level_span table_word frozen_word content_index pool_index absent_word frame_in mapped_frame leaf_word flags_live
    flags_read_only flags_word host_allows_write host_frame host_present host_level host_word can_write is_leaf_at flags_logged count_trailing_zeros
    without_write
forbids = (refl, refl)

-- before the stay misses, and after it
walks : (fits_all run_sizes (rounds_to_miss 6) begun ≡ true) × ◌≡◌ {A = Place} (place_after (rounds_to_miss 6)) (Access (Walk true))
unfolding flushed topics_after place kind_of level_span table_word frozen_word content_index pool_index absent_word frame_in mapped_frame leaf_word flags_live
    flags_read_only flags_word host_allows_write host_frame host_present host_level host_word can_write is_leaf_at flags_logged count_trailing_zeros
    without_write
walks = (refl, refl)

misses : (fits_all run_sizes (rounds_to_miss 7) begun ≡ true) × ◌≡◌ {A = Place} (place_after (rounds_to_miss 7)) (Access (Leave (Faults true)))
unfolding flushed topics_after place kind_of level_span table_word frozen_word content_index pool_index absent_word frame_in mapped_frame leaf_word flags_live
    flags_read_only flags_word host_allows_write host_frame host_present host_level host_word can_write is_leaf_at flags_logged count_trailing_zeros
    without_write
misses = (refl, refl)

-- before the exchange is lost, and after it
fixes : (fits_all run_sizes (rounds_to_lose 0) begun ≡ true) × ◌≡◌ {A = Place} (place_after (rounds_to_lose 0)) (Access (Fault Fix))
unfolding flushed topics_after place kind_of level_span table_word frozen_word content_index pool_index absent_word frame_in mapped_frame leaf_word flags_live
    flags_read_only flags_word host_allows_write host_frame host_present host_level host_word can_write is_leaf_at flags_logged count_trailing_zeros
    without_write with_write host_writable mmu_writable
fixes = (refl, refl)

loses : (fits_all run_sizes (rounds_to_lose 1) begun ≡ true) × ◌≡◌ {A = Place} (place_after (rounds_to_lose 1)) (Access (Fault (End lost_end)))
unfolding flushed topics_after place kind_of level_span table_word frozen_word content_index pool_index absent_word frame_in mapped_frame leaf_word flags_live
    flags_read_only flags_word host_allows_write host_frame host_present host_level host_word can_write is_leaf_at flags_logged count_trailing_zeros
    without_write with_write host_writable mmu_writable
loses = (refl, refl)

-- where the second processor has written, and the page isn't marked yet
owes : (fits_all run_sizes (rounds_to_lose 11) begun ≡ true) × (word_after (rounds_to_lose 11) area.Log 1 ≡ 0)
unfolding flushed topics_after place kind_of level_span table_word frozen_word content_index pool_index absent_word frame_in mapped_frame leaf_word flags_live
    flags_read_only flags_word host_allows_write host_frame host_present host_level host_word can_write is_leaf_at flags_logged count_trailing_zeros
    without_write with_write host_writable mmu_writable
owes = (refl, refl)

-- the whole run
whole :
    (fits_all run_sizes miss_rounds begun ≡ true)
    × (tells_all miss_rounds begun ≡ miss_events)
    × (((leads_all miss_rounds begun).hand 1).state.delays ≡ 2)
    × (word_after miss_rounds area.Log 1 ≡ 2)
unfolding flushed topics_after place kind_of level_span table_word frozen_word content_index pool_index absent_word frame_in mapped_frame leaf_word flags_live
    flags_read_only flags_word host_allows_write host_frame host_present host_level host_word can_write is_leaf_at flags_logged count_trailing_zeros
    without_write with_write host_writable mmu_writable
whole = (refl, refl, refl, refl)

miss_allowed : All (May run_sizes) miss_lines
miss_allowed =
    All-cons (May run_sizes) set_line (write_first ∷ missing_line ∷ log_on ∷ write_logged ∷ []) may_set
    (All-cons (May run_sizes) write_first (missing_line ∷ log_on ∷ write_logged ∷ []) (omega arith, omega arith, omega arith, omega arith)
    (All-cons (May run_sizes) missing_line (log_on ∷ write_logged ∷ []) (omega arith, omega arith, omega arith, omega arith)
    (All-cons (May run_sizes) log_on (write_logged ∷ []) tt
    (All-cons (May run_sizes) write_logged [] (omega arith, omega arith, omega arith, omega arith) (All-nil (May run_sizes))))))

miss_prints : text miss_events ≡ codes "2 vm done\n3 v0 frame 65 value 0\n5 vm done\n4 v1 frame 65 value 7\n6 v0 frame 65 value 5\n"
unfolding line_text
miss_prints = simp (
  decimal_digit 0 (lit< tt),
  decimal_digit 1 (lit< tt),
  decimal_digit 2 (lit< tt),
  decimal_digit 3 (lit< tt),
  decimal_digit 4 (lit< tt),
  decimal_digit 5 (lit< tt),
  decimal_digit 6 (lit< tt),
  decimal_digit 7 (lit< tt),
  two_digits 65 (lit≤ tt) (lit< tt),
)

leaves : (rounds : List (ℕ × List ℕ)) (a : Area) (index value : ℕ) → fits_all run_sizes rounds begun ≡ true → word_after rounds a index ≡ value
    → RunLeaves run_sizes miss_lines (turns rounds) a index value
leaves rounds a index value = run_leaves run_sizes miss_lines rounds a index value run_in_range miss_allowed (omega arith)

stands : (rounds : List (ℕ × List ℕ)) (p : Place) → fits_all run_sizes rounds begun ≡ true → place_after rounds ≡ p
    → RunStands run_sizes miss_lines (turns rounds) 1 p
stands rounds p = run_stands run_sizes miss_lines rounds 1 p run_in_range miss_allowed (omega arith)

pub example_misses : ExampleMisses
example_misses = (
  leaves (rounds_to_forbid 9) area.Pool (pool_index 4 6) (leaf_word 1 65 true true true) allows.0 allows.1,
  leaves (rounds_to_forbid 10) area.Pool (pool_index 4 6) (leaf_word 1 65 false true true) forbids.0 forbids.1,
  stands (rounds_to_miss 6) (Access (Walk true)) walks.0 walks.1,
  stands (rounds_to_miss 7) (Access (Leave (Faults true))) misses.0 misses.1,
  stands (rounds_to_lose 0) (Access (Fault Fix)) fixes.0 fixes.1,
  stands (rounds_to_lose 1) (Access (Fault (End lost_end))) loses.0 loses.1,
  leaves (rounds_to_lose 11) area.Log 1 0 owes.0 owes.1,
  leaves miss_rounds area.Log 1 2 whole.0 whole.3,
  run_delays run_sizes miss_lines miss_rounds miss_events 1 2 run_in_range miss_allowed (omega arith) whole.0 whole.1 whole.2,
  miss_prints,
)
