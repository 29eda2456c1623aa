-- The steps of the examples, by computation.
use Rattle.core_views.proofs.HeaderSizes.{four}
use lib.Count.{count_trailing_zeros}
use Rattle.std.proofs.Common.{ℕ, zero, suc, List, ◌≤◌, ◌+◌, lit≤, ◌≡◌, [], ◌∷◌, refl, ap, arith, lit<}
use Rattle.std.proofs.lemmas.Option.{slice_get_past}
use Rattle.std.proofs.lemmas.Fmt.{decimal_digit}
use Rattle.mmu_laws.proofs.steps.Decimals.{two_digits}
use Rattle.std.specs.Prelude.{All, Option, codes, true, unwrap_or}
use Rattle.std.proofs.lemmas.List.Elements.{All-cons, All-nil}
use Rattle.core_views.specs.declared.trace.Line.{Line}
use Rattle.core_views.specs.Sizes.{AreSizes, first_page_in}
use Rattle.core_views.specs.Text.{line_text, text}
use Rattle.spte_words.specs.Areas.{content_index, place, pool_index}
use Rattle.spte_words.specs.Entries.{absent_word, can_write, frame_in, frozen_word, is_leaf_at, kind_of, leaf_word, level_span, mapped_frame, table_word}
use Rattle.spte_words.specs.Entries.{host_writable, mmu_writable}
use Rattle.spte_words.specs.Flags.{flags_live, flags_logged, flags_read_only, flags_word}
use Rattle.spte_words.specs.HostWords.{host_allows_write, host_frame, host_level, host_present, host_word}
use Rattle.mmu_laws.specs.steps.ExampleRaces.{ExampleRaces, first_line, race_events, race_lines, second_line}
use Rattle.mmu_laws.specs.steps.ExampleRuns.{ExamplePrints, ExampleRuns, add_line, forbidden_line, other_slot_line, outsider_line, reader_line}
use Rattle.mmu_laws.specs.steps.ExampleRuns.{run_events, run_lines, sum_line, write_line}
use Rattle.mmu_laws.specs.steps.ExampleStarves.{ExampleStarves, small_events, small_lines, small_sizes, starved_line, starved_set_line}
use Rattle.mmu_laws.specs.steps.ExampleSteps.{run_sizes, set_line, set_read_only_line}
use Rattle.mmu_laws.specs.steps.ExampleWaits.{ExampleWaits, beside_line, wait_events, wait_lines}
use Rattle.mmu_core.specs.forms.access.Cached.{flushed}
use Rattle.part_steps.specs.TopicSteps.{topics_after}
use Rattle.mmu_core.proofs.start.StartViews.{start_view}
use Rattle.mmu_laws.proofs.steps.ComputedRuns.{May, run_delays, run_tells}
use Rattle.mmu_laws.proofs.steps.FoldedRuns.{fits_all, leads_all, steps_of, tells_all}

-- ---- a pool that is large enough

-- the rounds
abbrev run_rounds : List (ℕ × List ℕ)
run_rounds = steps_of 1048 3 ∷ steps_of 47 0 ∷ steps_of 1581 1 ∷ steps_of 13 0 ∷ steps_of 4 1 ∷ steps_of 76 0 ∷ []

-- the whole run
run_whole :
    (fits_all run_sizes run_rounds (start_view run_sizes run_lines) ≡ true)
    × (tells_all run_rounds (start_view run_sizes run_lines) ≡ run_events)
unfolding flushed topics_after place kind_of level_span table_word frozen_word content_index pool_index absent_word frame_in mapped_frame leaf_word flags_live
    flags_read_only flags_word host_allows_write host_frame host_present host_word can_write is_leaf_at flags_logged host_writable mmu_writable
    count_trailing_zeros host_level
run_whole = (refl, refl)

-- The one host thread has all pages.
pub firsts_rise : (pages host : ℕ) → first_page_in (0 ∷ pages ∷ pages ∷ pages ∷ []) pages host ≤ first_page_in (0 ∷ pages ∷ pages ∷ pages ∷ []) pages (host + 1)
firsts_rise pages zero = omega arith
firsts_rise pages (suc zero) = omega arith
firsts_rise pages (suc (suc zero)) = omega arith
firsts_rise pages (suc (suc (suc n))) = let last = past (suc (suc (suc n)) + 1) (omega arith) in let here = from_third n in omega (arith, here, last)
  where
    past : (k : ℕ) → 4 ≤ k → first_page_in (0 ∷ pages ∷ pages ∷ pages ∷ []) pages k ≡ pages
    past k le = ap (λ (o : Option ℕ). unwrap_or o pages) (slice_get_past (0 ∷ pages ∷ pages ∷ pages ∷ []) k le)

    from_third : (m : ℕ) → first_page_in (0 ∷ pages ∷ pages ∷ pages ∷ []) pages (suc (suc (suc m))) ≡ pages
    from_third zero = refl
    from_third (suc m) = past (suc (suc (suc (suc m)))) (omega arith)

-- So many frames and pages of the pool are in their ranges, and the other sizes, too.
sizes_in_range : (frames pool : ℕ) → 128 ≤ frames → frames ≤ 1000 → 4 ≤ pool → pool ≤ 1000 → AreSizes (record run_sizes { frames = frames; pool = pool })
sizes_in_range frames pool least most some few = record {
  actors = record { vcpus = omega arith; hosts = omega arith; workers = omega arith };
  some = omega arith;
  pages = (omega arith, omega arith);
  frames = (omega (arith, least), omega (arith, most));
  words = (omega arith, omega arith);
  content = omega (arith, most);
  pool = (omega (arith, some), omega (arith, few));
  cache = (omega arith, omega arith);
  firsts = four (λ page. page ≤ 128) 0 128 128 128 (omega arith) (omega arith) (omega arith) (omega arith);
  rising = record { each = firsts_rise 128 };
}

pub frames_in_range : (frames : ℕ) → 128 ≤ frames → frames ≤ 1000 → AreSizes (record run_sizes { frames = frames })
frames_in_range frames least most = sizes_in_range frames 7 least most (omega arith) (omega arith)

pub pool_in_range : (pool : ℕ) → 4 ≤ pool → pool ≤ 1000 → AreSizes (record run_sizes { pool = pool })
pool_in_range pool some few = sizes_in_range 128 pool (omega arith) (omega arith) some few

pub run_in_range : AreSizes run_sizes
run_in_range = frames_in_range 128 (omega arith) (omega arith)

pub may_set : May run_sizes set_line
may_set = record { some = omega arith; pages = omega arith; base = omega arith; host = omega arith; aligned = omega arith }

may_set_read_only : May run_sizes set_read_only_line
may_set_read_only = record { some = omega arith; pages = omega arith; base = omega arith; host = omega arith; aligned = omega arith }

run_allowed : All (May run_sizes) run_lines
run_allowed =
    All-cons (May run_sizes) set_line
    (set_read_only_line ∷ outsider_line ∷ write_line ∷ reader_line ∷ add_line ∷ sum_line ∷ other_slot_line ∷ forbidden_line ∷ []) may_set
    (All-cons (May run_sizes) set_read_only_line (outsider_line ∷ write_line ∷ reader_line ∷ add_line ∷ sum_line ∷ other_slot_line ∷ forbidden_line ∷ [])
    may_set_read_only
    (All-cons (May run_sizes) outsider_line (write_line ∷ reader_line ∷ add_line ∷ sum_line ∷ other_slot_line ∷ forbidden_line ∷ [])
    (omega arith, omega arith, omega arith, omega arith)
    (All-cons (May run_sizes) write_line (reader_line ∷ add_line ∷ sum_line ∷ other_slot_line ∷ forbidden_line ∷ [])
    (omega arith, omega arith, omega arith, omega arith)
    (All-cons (May run_sizes) reader_line (add_line ∷ sum_line ∷ other_slot_line ∷ forbidden_line ∷ []) (omega arith, omega arith, omega arith, tt)
    (All-cons (May run_sizes) add_line (sum_line ∷ other_slot_line ∷ forbidden_line ∷ []) (omega arith, omega arith, omega arith, omega arith)
    (All-cons (May run_sizes) sum_line (other_slot_line ∷ forbidden_line ∷ []) (omega arith, omega arith, omega arith, tt)
    (All-cons (May run_sizes) other_slot_line (forbidden_line ∷ []) (omega arith, omega arith, omega arith, tt)
    (All-cons (May run_sizes) forbidden_line [] (omega arith, omega arith, omega arith, omega arith) (All-nil (May run_sizes))))))))))

pub example_runs : ExampleRuns
example_runs = run_tells run_sizes run_lines run_rounds run_events run_in_range run_allowed (omega arith) run_whole.0 run_whole.1

-- what it prints
pub example_prints : ExamplePrints
unfolding line_text
example_prints =
    simp (
      decimal_digit 0 (lit< tt),
      decimal_digit 1 (lit< tt),
      decimal_digit 2 (lit< tt),
      decimal_digit 3 (lit< tt),
      decimal_digit 4 (lit< tt),
      decimal_digit 5 (lit< tt),
      decimal_digit 6 (lit< tt),
      decimal_digit 7 (lit< tt),
      decimal_digit 8 (lit< tt),
      decimal_digit 9 (lit< tt),
      two_digits 10 (lit≤ tt) (lit< tt),
      two_digits 65 (lit≤ tt) (lit< tt),
    )

-- ---- a pool that is too small

abbrev small_rounds : List (ℕ × List ℕ)
small_rounds = steps_of 524 3 ∷ steps_of 1055 0 ∷ steps_of 1 3 ∷ []

-- the whole run
small_whole :
    (fits_all small_sizes small_rounds (start_view small_sizes small_lines) ≡ true)
    × (tells_all small_rounds (start_view small_sizes small_lines) ≡ small_events)
unfolding flushed topics_after place kind_of level_span table_word frozen_word content_index pool_index absent_word frame_in mapped_frame leaf_word flags_live
    flags_read_only flags_word host_allows_write host_frame host_present host_word can_write is_leaf_at flags_logged count_trailing_zeros host_level
small_whole = (refl, refl)

small_allowed : All (May small_sizes) small_lines
small_allowed =
    All-cons (May small_sizes) set_line (starved_line ∷ starved_set_line ∷ []) may_set
    (All-cons (May small_sizes) starved_line (starved_set_line ∷ []) (omega arith, omega arith, omega arith, omega arith)
    (All-cons (May small_sizes) starved_set_line [] may_set_read_only (All-nil (May small_sizes))))

small_prints : text small_events ≡ codes "2 vm done\n3 v0 starved\n4 vm starved\n"
unfolding line_text
small_prints = simp (decimal_digit 0 (lit< tt), decimal_digit 2 (lit< tt), decimal_digit 3 (lit< tt), decimal_digit 4 (lit< tt))

pub example_starves : ExampleStarves
example_starves = (
  run_tells small_sizes small_lines small_rounds small_events (pool_in_range 4 (omega arith) (omega arith))
      small_allowed (omega arith) small_whole.0 small_whole.1,
  small_prints,
)

-- ---- two processors at one guest frame

abbrev race_rounds : List (ℕ × List ℕ)
race_rounds = steps_of 524 3 ∷ (1581, 0 ∷ 1 ∷ []) ∷ steps_of 46 1 ∷ []

-- the whole run
race_whole :
    (fits_all run_sizes race_rounds (start_view run_sizes race_lines) ≡ true)
    × (tells_all race_rounds (start_view run_sizes race_lines) ≡ race_events)
unfolding flushed topics_after place kind_of level_span table_word frozen_word content_index pool_index absent_word frame_in mapped_frame leaf_word flags_live
    flags_read_only flags_word host_allows_write host_frame host_present host_word can_write is_leaf_at flags_logged count_trailing_zeros host_level
race_whole = (refl, refl)

pub race_allowed : (pool : ℕ) → All (May (record run_sizes { pool = pool })) race_lines
race_allowed pool =
    let May_in : Line → Type 0 = May (record run_sizes { pool = pool }) in
    All-cons May_in set_line (first_line ∷ second_line ∷ []) may_set
    (All-cons May_in first_line (second_line ∷ []) (omega arith, omega arith, omega arith, omega arith)
    (All-cons May_in second_line [] (omega arith, omega arith, omega arith, omega arith) (All-nil May_in)))

race_prints : text race_events ≡ codes "2 vm done\n3 v0 frame 65 value 0\n4 v1 frame 65 value 7\n"
unfolding line_text
race_prints = simp (
  decimal_digit 0 (lit< tt),
  decimal_digit 1 (lit< tt),
  decimal_digit 2 (lit< tt),
  decimal_digit 3 (lit< tt),
  decimal_digit 4 (lit< tt),
  decimal_digit 7 (lit< tt),
  two_digits 65 (lit≤ tt) (lit< tt),
)

pub example_races : ExampleRaces
example_races = (
  run_tells run_sizes race_lines race_rounds race_events run_in_range (race_allowed 7) (omega arith) race_whole.0 race_whole.1,
  race_prints,
)

-- ---- a slot line beside a processor

abbrev wait_rounds : List (ℕ × List ℕ)
wait_rounds = steps_of 524 3 ∷ steps_of 19 1 ∷ steps_of 1 3 ∷ steps_of 1 1 ∷ steps_of 516 3 ∷ steps_of 1553 1 ∷ steps_of 6 3 ∷ steps_of 8 1 ∷ steps_of 4 3 ∷ []

-- the whole run
wait_whole :
    (fits_all run_sizes wait_rounds (start_view run_sizes wait_lines) ≡ true)
    × (tells_all wait_rounds (start_view run_sizes wait_lines) ≡ wait_events)
    × (((leads_all wait_rounds (start_view run_sizes wait_lines)).hand 3).state.delays ≡ 3)
unfolding flushed topics_after place kind_of level_span table_word frozen_word content_index pool_index absent_word frame_in mapped_frame leaf_word flags_live
    flags_read_only flags_word host_allows_write host_frame host_present host_word can_write is_leaf_at flags_logged count_trailing_zeros host_level
wait_whole = (refl, refl, refl)

wait_allowed : All (May run_sizes) wait_lines
wait_allowed =
    All-cons (May run_sizes) set_line (set_read_only_line ∷ beside_line ∷ []) may_set
    (All-cons (May run_sizes) set_read_only_line (beside_line ∷ []) may_set_read_only
    (All-cons (May run_sizes) beside_line [] (omega arith, omega arith, omega arith, omega arith) (All-nil (May run_sizes))))

pub example_waits : ExampleWaits
example_waits = run_delays run_sizes wait_lines wait_rounds wait_events 3 3 run_in_range wait_allowed (omega arith) wait_whole.0 wait_whole.1 wait_whole.2
