-- The runs in which a slot gets a dirty log, by computation.
use Rattle.part_steps.specs.TopicSteps.{topics_after}
use Rattle.std.proofs.lemmas.Fmt.{decimal_digit}
use Rattle.std.proofs.lemmas.List.Elements.{All-cons, All-nil}
use Rattle.mmu_core.specs.forms.access.Cached.{flushed}
use Rattle.std.proofs.Common.{ℕ, List, ◌≡◌, [], ◌∷◌, refl, arith, lit<, lit≤, ◌++◌}
use Rattle.std.specs.Prelude.{All, true, false, codes}
use Rattle.spte_words.specs.Areas.{content_index, place, pool_index}
use Rattle.spte_words.specs.Entries.{absent_word, can_write, frame_in, frozen_word, is_leaf_at, kind_of, leaf_word, level_span, mapped_frame}
use Rattle.spte_words.specs.Entries.{table_word, with_write, without_write, host_writable, mmu_writable}
use Rattle.spte_words.specs.Flags.{flags_live, flags_logged, flags_read_only, flags_word}
use Rattle.spte_words.specs.HostWords.{host_allows_write, host_frame, host_level, host_present, host_word}
use lib.Count.{count_trailing_zeros}
use Rattle.core_views.specs.Text.{line_text, text}
use Rattle.core_views.specs.declared.event.Event.{Event}
use Rattle.mmu_laws.specs.steps.ExampleHost.{write_first}
use Rattle.mmu_laws.specs.steps.ExampleLog.{ExampleLog, events_to_log, log_again, log_events, log_lines, log_off, log_on, write_beside, write_logged}
use Rattle.spte_words.specs.declared.area.Area.{Area}
use Rattle.spte_words.specs.declared.area.Area.TheVariants as area
use Rattle.mmu_laws.specs.steps.ExampleSteps.{RunDelays, RunLeaves, run_sizes, set_line}
use Rattle.mmu_laws.proofs.steps.ExampleRun.{may_set, run_in_range}
use Rattle.mmu_laws.proofs.steps.ComputedRuns.{May, run_delays, run_leaves}
use Rattle.mmu_laws.proofs.steps.Decimals.{two_digits}
use Rattle.mmu_laws.proofs.steps.FoldedRuns.{fits_all, leads_all, steps_of, tells_all, turns}
use Rattle.mmu_core.specs.machine.View.{View}
use Rattle.mmu_core.proofs.start.StartViews.{start_view}

-- the start, and what hands have counted and words hold after these rounds
abbrev begun : View
begun = start_view run_sizes log_lines

abbrev delays_after : List (ℕ × List ℕ) → View → ℕ → ℕ
delays_after rounds v actor = ((leads_all rounds v).hand actor).state.delays

abbrev word_after : List (ℕ × List ℕ) → View → Area → ℕ → ℕ
word_after rounds v a index = (leads_all rounds v).words a index

-- the rounds
abbrev rounds_to_log : ℕ → List (ℕ × List ℕ)
rounds_to_log steps = steps_of 524 3 ∷ steps_of 1581 0 ∷ steps_of 16 1 ∷ steps_of 522 3 ∷ steps_of 20 1 ∷ steps_of steps 3 ∷ []

abbrev rounds_to_write : ℕ → List (ℕ × List ℕ)
rounds_to_write steps = rounds_to_log 19 ++ (steps_of steps 0 ∷ [])

abbrev log_rounds : List (ℕ × List ℕ)
log_rounds = rounds_to_write 31 ++ (steps_of 524 3 ∷ [])

abbrev rounds_again : ℕ → List (ℕ × List ℕ)
rounds_again steps = log_rounds ++ (steps_of steps 3 ∷ [])

-- The checkpoints of the run: what holds after so many of its steps.
record Checkpoints : Type 0 where
  -- before the first leaf forbids writes, and after it
  first_before :
      (fits_all run_sizes (rounds_to_log 9) begun ≡ true)
      × (word_after (rounds_to_log 9) begun area.Pool (pool_index 4 6) ≡ leaf_word 1 65 true true true)
  first_forbids :
      (fits_all run_sizes (rounds_to_log 10) begun ≡ true)
      × (word_after (rounds_to_log 10) begun area.Pool (pool_index 4 6) ≡ leaf_word 1 65 false true true)
  -- the same of the second one
  second_before :
      (fits_all run_sizes (rounds_to_log 11) begun ≡ true)
      × (word_after (rounds_to_log 11) begun area.Pool (pool_index 4 7) ≡ leaf_word 1 66 true true true)
  second_forbids :
      (fits_all run_sizes (rounds_to_log 12) begun ≡ true)
      × (word_after (rounds_to_log 12) begun area.Pool (pool_index 4 7) ≡ leaf_word 1 66 false true true)
  -- up to the begin of the log
  logged :
      (fits_all run_sizes (rounds_to_log 19) begun ≡ true)
      × (tells_all (rounds_to_log 19) begun ≡ events_to_log)
      × (delays_after (rounds_to_log 19) begun 3 ≡ 1)
  -- where the write owes its mark, and after it
  owes :
      (fits_all run_sizes (rounds_to_write 20) begun ≡ true)
      × (word_after (rounds_to_write 20) begun area.Pool (pool_index 4 6) ≡ leaf_word 1 65 true true true)
      × (word_after (rounds_to_write 20) begun area.Log 1 ≡ 0)
  marked :
      (fits_all run_sizes (rounds_to_write 21) begun ≡ true)
      × (word_after (rounds_to_write 21) begun area.Log 1 ≡ 2)
  -- the whole run
  whole :
      (fits_all run_sizes log_rounds begun ≡ true)
      × (tells_all log_rounds begun ≡ log_events)
      × (delays_after log_rounds begun 3 ≡ 0)
      × (word_after log_rounds begun area.Pool (pool_index 4 7) ≡ leaf_word 1 66 false true true)
  -- before the log's word is set as it begins again, and after it
  before_again :
      (fits_all run_sizes (rounds_again 515) begun ≡ true)
      × (word_after (rounds_again 515) begun area.Log 1 ≡ 2)
  again :
      (fits_all run_sizes (rounds_again 516) begun ≡ true)
      × (word_after (rounds_again 516) begun area.Log 1 ≡ 0)

checkpoints : Checkpoints
unfolding flushed topics_after place kind_of level_span table_word frozen_word content_index pool_index absent_word frame_in mapped_frame leaf_word flags_live
    flags_read_only flags_word host_allows_write host_frame host_present host_level host_word can_write is_leaf_at flags_logged count_trailing_zeros
    without_write with_write host_writable mmu_writable
checkpoints = record {
  first_before = (refl, refl);
  first_forbids = (refl, refl);
  second_before = (refl, refl);
  second_forbids = (refl, refl);
  logged = (refl, refl, refl);
  owes = (refl, refl, refl);
  marked = (refl, refl);
  whole = (refl, refl, refl, refl);
  before_again = (refl, refl);
  again = (refl, refl);
}

log_allowed : All (May run_sizes) log_lines
log_allowed =
    All-cons (May run_sizes) set_line (write_first ∷ write_beside ∷ log_on ∷ write_logged ∷ log_off ∷ log_again ∷ []) may_set
    (All-cons (May run_sizes) write_first (write_beside ∷ log_on ∷ write_logged ∷ log_off ∷ log_again ∷ []) (omega arith, omega arith, omega arith, omega arith)
    (All-cons (May run_sizes) write_beside (log_on ∷ write_logged ∷ log_off ∷ log_again ∷ []) (omega arith, omega arith, omega arith, omega arith)
    (All-cons (May run_sizes) log_on (write_logged ∷ log_off ∷ log_again ∷ []) tt
    (All-cons (May run_sizes) write_logged (log_off ∷ log_again ∷ []) (omega arith, omega arith, omega arith, omega arith)
    (All-cons (May run_sizes) log_off (log_again ∷ []) tt
    (All-cons (May run_sizes) log_again [] tt (All-nil (May run_sizes))))))))

log_prints : text log_events ≡ codes "2 vm done\n3 v0 frame 65 value 0\n4 v1 frame 66 value 0\n5 vm done\n6 v0 frame 65 value 7\n7 vm done\n"
unfolding line_text
log_prints =
    simp (
      decimal_digit 0 (lit< tt),
      decimal_digit 1 (lit< tt),
      decimal_digit 2 (lit< tt),
      decimal_digit 3 (lit< tt),
      decimal_digit 4 (lit< tt),
      decimal_digit 5 (lit< tt),
      decimal_digit 6 (lit< tt),
      decimal_digit 7 (lit< tt),
      two_digits 65 (lit≤ tt) (lit< tt),
      two_digits 66 (lit≤ tt) (lit< tt),
    )

-- That these actors in turn tell this, and what one of them has counted then; and what a word holds after them.
counts : (rounds : List (ℕ × List ℕ)) (events : List Event) (actor delays : ℕ) → fits_all run_sizes rounds begun ≡ true → tells_all rounds begun ≡ events
    → delays_after rounds begun actor ≡ delays → RunDelays run_sizes log_lines (turns rounds) events actor delays
counts rounds events actor delays = run_delays run_sizes log_lines rounds events actor delays run_in_range log_allowed (omega arith)

leaves : (rounds : List (ℕ × List ℕ)) (a : Area) (index value : ℕ) → fits_all run_sizes rounds begun ≡ true → word_after rounds begun a index ≡ value
    → RunLeaves run_sizes log_lines (turns rounds) a index value
leaves rounds a index value = run_leaves run_sizes log_lines rounds a index value run_in_range log_allowed (omega arith)

pub example_log : ExampleLog
example_log = (
  counts (rounds_to_log 19) events_to_log 3 1 checkpoints.logged.0 checkpoints.logged.1 checkpoints.logged.2,
  counts log_rounds log_events 3 0 checkpoints.whole.0 checkpoints.whole.1 checkpoints.whole.2,
  leaves (rounds_to_log 9) area.Pool (pool_index 4 6) (leaf_word 1 65 true true true) checkpoints.first_before.0 checkpoints.first_before.1,
  leaves (rounds_to_log 10) area.Pool (pool_index 4 6) (leaf_word 1 65 false true true) checkpoints.first_forbids.0 checkpoints.first_forbids.1,
  leaves (rounds_to_log 11) area.Pool (pool_index 4 7) (leaf_word 1 66 true true true) checkpoints.second_before.0 checkpoints.second_before.1,
  leaves (rounds_to_log 12) area.Pool (pool_index 4 7) (leaf_word 1 66 false true true) checkpoints.second_forbids.0 checkpoints.second_forbids.1,
  leaves (rounds_to_write 20) area.Pool (pool_index 4 6) (leaf_word 1 65 true true true) checkpoints.owes.0 checkpoints.owes.1,
  leaves (rounds_to_write 20) area.Log 1 0 checkpoints.owes.0 checkpoints.owes.2,
  leaves (rounds_to_write 21) area.Log 1 2 checkpoints.marked.0 checkpoints.marked.1,
  leaves log_rounds area.Pool (pool_index 4 7) (leaf_word 1 66 false true true) checkpoints.whole.0 checkpoints.whole.3,
  leaves (rounds_again 515) area.Log 1 2 checkpoints.before_again.0 checkpoints.before_again.1,
  leaves (rounds_again 516) area.Log 1 0 checkpoints.again.0 checkpoints.again.1,
  log_prints,
)
