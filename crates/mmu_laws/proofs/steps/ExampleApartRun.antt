-- The run in which a fault goes through while an invalidation of another guest frame is open, by computation.
use lib.Count.{count_trailing_zeros}
use Rattle.std.proofs.Common.{ℕ, List, ◌≡◌, ◌+◌, ◌^◌, [], ◌∷◌, refl, arith, lit<, lit≤, ◌++◌}
use Rattle.std.proofs.lemmas.Fmt.{decimal_digit}
use Rattle.std.proofs.lemmas.List.Elements.{All-cons, All-nil}
use Rattle.std.specs.Prelude.{All, true, codes}
use Rattle.core_views.specs.declared.place.AccessPlace.TheVariants.{Fault}
use Rattle.core_views.specs.declared.place.FaultPlace.TheVariants.{Leaf}
use Rattle.core_views.specs.declared.place.Place.{Place}
use Rattle.core_views.specs.declared.place.Place.TheVariants.{Access}
use Rattle.core_views.specs.Text.{line_text, text}
use Rattle.spte_words.specs.declared.area.Area.{Area}
use Rattle.spte_words.specs.declared.area.Area.TheVariants as area
use Rattle.spte_words.specs.Areas.{content_index, place, pool_index}
use Rattle.spte_words.specs.Entries.{absent_word, can_write, frame_in, frozen_word, is_leaf_at, kind_of, leaf_word, level_span, mapped_frame, table_word}
use Rattle.spte_words.specs.Flags.{flags_live, flags_logged, flags_read_only, flags_word}
use Rattle.spte_words.specs.HostWords.{host_allows_write, host_frame, host_level, host_present, host_word}
use Rattle.part_steps.specs.TopicSteps.{topics_after}
use Rattle.mmu_core.specs.forms.access.Cached.{flushed}
use Rattle.mmu_core.specs.machine.View.{View}
use Rattle.mmu_core.proofs.start.StartViews.{start_view}
use Rattle.mmu_laws.specs.steps.ExampleApart.{ExampleApart, apart_events, apart_lines, beside_allow}
use Rattle.mmu_laws.specs.steps.ExampleHost.{write_first}
use Rattle.mmu_laws.specs.steps.ExampleSteps.{RunLeaves, run_sizes, set_line}
use Rattle.mmu_laws.proofs.steps.ComputedRuns.{May, run_delays, run_leaves, run_stands}
use Rattle.mmu_laws.proofs.steps.Decimals.{two_digits}
use Rattle.mmu_laws.proofs.steps.ExampleRun.{may_set, run_in_range}
use Rattle.mmu_laws.proofs.steps.FoldedRuns.{fits_all, leads_all, steps_of, tells_all, turns}

-- the start, and what words hold after these rounds
abbrev begun : View
begun = start_view run_sizes apart_lines

abbrev word_after : List (ℕ × List ℕ) → Area → ℕ
word_after rounds a = (leads_all rounds begun).words a 0

-- the rounds
abbrev rounds_to_try : ℕ → List (ℕ × List ℕ)
rounds_to_try steps = steps_of 524 3 ∷ steps_of 13 0 ∷ steps_of 2 2 ∷ steps_of steps 0 ∷ []

abbrev rounds_to_put : ℕ → List (ℕ × List ℕ)
rounds_to_put steps = rounds_to_try 2 ++ (steps_of 16 2 ∷ steps_of steps 0 ∷ [])

abbrev apart_rounds : List (ℕ × List ℕ)
apart_rounds = rounds_to_put 1570 ++ (steps_of 7 2 ∷ [])

-- where the processor counts among the lock's readers, and where it has taken itself out
tries : (fits_all run_sizes (rounds_to_try 1) begun ≡ true) × (word_after (rounds_to_try 1) area.Lock ≡ 2 ^ 63 + 1)
unfolding flushed topics_after place kind_of level_span table_word frozen_word content_index pool_index absent_word frame_in mapped_frame leaf_word flags_live
    flags_read_only flags_word host_allows_write host_frame host_present host_level host_word can_write is_leaf_at flags_logged count_trailing_zeros
tries = (refl, refl)

waits : (fits_all run_sizes (rounds_to_try 2) begun ≡ true) × (word_after (rounds_to_try 2) area.Lock ≡ 2 ^ 63)
unfolding flushed topics_after place kind_of level_span table_word frozen_word content_index pool_index absent_word frame_in mapped_frame leaf_word flags_live
    flags_read_only flags_word host_allows_write host_frame host_present host_level host_word can_write is_leaf_at flags_logged count_trailing_zeros
waits = (refl, refl)

-- before it puts its leaf
puts :
    (fits_all run_sizes (rounds_to_put 1558) begun ≡ true)
    × ◌≡◌ {A = Place} ((leads_all (rounds_to_put 1558) begun).hand 0).state.place (Access (Fault (Leaf true)))
    × (word_after (rounds_to_put 1558) area.Count ≡ 1)
    × (word_after (rounds_to_put 1558) area.RangeStart ≡ 7)
    × (word_after (rounds_to_put 1558) area.RangeEnd ≡ 8)
unfolding flushed topics_after place kind_of level_span table_word frozen_word content_index pool_index absent_word frame_in mapped_frame leaf_word flags_live
    flags_read_only flags_word host_allows_write host_frame host_present host_level host_word can_write is_leaf_at flags_logged count_trailing_zeros
puts = (refl, refl, refl, refl, refl)

-- where its line is answered
reaches : (fits_all run_sizes (rounds_to_put 1570) begun ≡ true) × (word_after (rounds_to_put 1570) area.Count ≡ 1)
unfolding flushed topics_after place kind_of level_span table_word frozen_word content_index pool_index absent_word frame_in mapped_frame leaf_word flags_live
    flags_read_only flags_word host_allows_write host_frame host_present host_level host_word can_write is_leaf_at flags_logged count_trailing_zeros
reaches = (refl, refl)

-- the whole run
whole :
    (fits_all run_sizes apart_rounds begun ≡ true)
    × (tells_all apart_rounds begun ≡ apart_events)
    × (((leads_all apart_rounds begun).hand 0).state.delays ≡ 1)
unfolding flushed topics_after place kind_of level_span table_word frozen_word content_index pool_index absent_word frame_in mapped_frame leaf_word flags_live
    flags_read_only flags_word host_allows_write host_frame host_present host_level host_word can_write is_leaf_at flags_logged count_trailing_zeros
whole = (refl, refl, refl)

apart_allowed : All (May run_sizes) apart_lines
apart_allowed =
    All-cons (May run_sizes) set_line (write_first ∷ beside_allow ∷ []) may_set
    (All-cons (May run_sizes) write_first (beside_allow ∷ []) (omega arith, omega arith, omega arith, omega arith)
    (All-cons (May run_sizes) beside_allow [] (omega arith) (All-nil (May run_sizes))))

apart_prints : text apart_events ≡ codes "2 vm done\n3 v0 frame 65 value 0\n4 h0 done\n"
unfolding line_text
apart_prints =
    simp (decimal_digit 0 (lit< tt), decimal_digit 2 (lit< tt), decimal_digit 3 (lit< tt), decimal_digit 4 (lit< tt), two_digits 65 (lit≤ tt) (lit< tt))

leaves : (rounds : List (ℕ × List ℕ)) (a : Area) (value : ℕ) → fits_all run_sizes rounds begun ≡ true → word_after rounds a ≡ value
    → RunLeaves run_sizes apart_lines (turns rounds) a 0 value
leaves rounds a value = run_leaves run_sizes apart_lines rounds a 0 value run_in_range apart_allowed (omega arith)

pub example_apart : ExampleApart
example_apart = (
  leaves (rounds_to_try 1) area.Lock (2 ^ 63 + 1) tries.0 tries.1,
  leaves (rounds_to_try 2) area.Lock (2 ^ 63) waits.0 waits.1,
  run_stands run_sizes apart_lines (rounds_to_put 1558) 0 (Access (Fault (Leaf true))) run_in_range apart_allowed (omega arith) puts.0 puts.1,
  leaves (rounds_to_put 1558) area.Count 1 puts.0 puts.2,
  leaves (rounds_to_put 1558) area.RangeStart 7 puts.0 puts.3,
  leaves (rounds_to_put 1558) area.RangeEnd 8 puts.0 puts.4,
  leaves (rounds_to_put 1570) area.Count 1 reaches.0 reaches.1,
  run_delays run_sizes apart_lines apart_rounds apart_events 0 1 run_in_range apart_allowed (omega arith) whole.0 whole.1 whole.2,
  apart_prints,
)
