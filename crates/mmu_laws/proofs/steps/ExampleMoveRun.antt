-- The run in which pages are moved, by computation.
use Rattle.part_steps.specs.TopicSteps.{topics_after}
use Rattle.part_steps.specs.Tasks.{map_of}
use Rattle.std.proofs.lemmas.Fmt.{decimal_digit}
use Rattle.std.proofs.lemmas.List.Elements.{All-cons, All-nil}
use Rattle.mmu_core.specs.forms.access.Cached.{flushed}
use Rattle.std.proofs.Common.{ℕ, List, ◌≡◌, [], ◌∷◌, refl, arith, lit<, lit≤, ◌++◌}
use Rattle.std.specs.Prelude.{All, true, codes}
use Rattle.core_views.specs.Sizes.{AreSizes}
use Rattle.mmu_core.specs.machine.View.{View}
use Rattle.spte_words.specs.Areas.{content_index, place, pool_index}
use Rattle.spte_words.specs.Entries.{absent_word, can_write, frame_in, frozen_word, is_leaf_at, kind_of, leaf_word, level_span, mapped_frame, table_word}
use Rattle.spte_words.specs.Flags.{flags_live, flags_logged, flags_read_only, flags_word}
use Rattle.spte_words.specs.HostWords.{host_allows_write, host_frame, host_level, host_present, host_word}
use lib.Count.{count_trailing_zeros}
use Rattle.core_views.specs.Text.{line_text, text}
use Rattle.core_views.specs.declared.event.Event.{Event}
use Rattle.spte_words.specs.declared.area.Area.{Area}
use Rattle.spte_words.specs.declared.area.Area.TheVariants as area
use Rattle.mmu_laws.specs.steps.ExampleSteps.{RunDelays, RunLeaves, run_sizes, set_line}
use Rattle.mmu_laws.specs.steps.ExampleHost.{write_first}
use Rattle.mmu_laws.specs.steps.ExampleMove.{ExampleMove, move_events, move_lines, move_none, move_seven, move_six, move_sizes, none_events}
use Rattle.mmu_laws.specs.steps.ExampleMove.{read_seven, read_six}
use Rattle.mmu_laws.proofs.steps.ExampleRun.{frames_in_range, run_in_range}
use Rattle.mmu_laws.proofs.steps.ComputedRuns.{May, run_delays, run_leaves, run_tells}
use Rattle.mmu_laws.proofs.steps.Decimals.{three_digits, two_digits}
use Rattle.mmu_laws.proofs.steps.FoldedRuns.{fits_all, leads_all, steps_of, tells_all, turns}
use Rattle.mmu_core.proofs.start.StartViews.{start_view}

move_in_range : AreSizes move_sizes
move_in_range = frames_in_range 129 (omega arith) (omega arith)

-- the start, and what hands have counted and words hold after these rounds
abbrev begun : View
begun = start_view move_sizes move_lines

abbrev delays_after : List (ℕ × List ℕ) → ℕ → ℕ
delays_after rounds actor = ((leads_all rounds begun).hand actor).state.delays

abbrev word_after : List (ℕ × List ℕ) → Area → ℕ → ℕ
word_after rounds a index = (leads_all rounds begun).words a index

-- the rounds
abbrev rounds_to_watch : List (ℕ × List ℕ)
rounds_to_watch = steps_of 524 3 ∷ steps_of 1581 0 ∷ steps_of 16 1 ∷ steps_of 38 2 ∷ []

abbrev rounds_to_move : ℕ → List (ℕ × List ℕ)
rounds_to_move steps = rounds_to_watch ++ (steps_of 5 1 ∷ steps_of 3 2 ∷ steps_of 36 1 ∷ steps_of steps 2 ∷ [])

abbrev move_rounds : List (ℕ × List ℕ)
move_rounds = rounds_to_move 40 ++ (steps_of 36 0 ∷ [])

-- The checkpoints of the run: what holds after so many of its steps.
record Checkpoints : Type 0 where
  -- where the first move waits
  watched :
      (fits_all move_sizes rounds_to_watch begun ≡ true)
      × (word_after rounds_to_watch area.Host 66 ≡ host_word 128 true true 1)
      × (word_after rounds_to_watch area.Seq 0 ≡ 1)
      × (word_after rounds_to_watch area.FrameMap 2 ≡ 0)
  -- where the content is copied, and the page is at its old frame
  copied :
      (fits_all move_sizes (rounds_to_move 29) begun ≡ true)
      × (word_after (rounds_to_move 29) area.Content (content_index (map_of move_sizes) 66 0) ≡ 7)
      × (word_after (rounds_to_move 29) area.Host 65 ≡ host_word 65 true true 1)
  -- where it is at the new one
  moved :
      (fits_all move_sizes (rounds_to_move 30) begun ≡ true)
      × (word_after (rounds_to_move 30) area.Host 65 ≡ host_word 66 true true 1)
  -- the whole run
  whole :
      (fits_all move_sizes move_rounds begun ≡ true)
      × (tells_all move_rounds begun ≡ move_events)
      × (delays_after move_rounds 1 ≡ 1)
      × (delays_after move_rounds 0 ≡ 0)
      × (word_after move_rounds area.Pool (pool_index 4 6) ≡ leaf_word 1 66 true true true)
      × (word_after move_rounds area.Seq 0 ≡ 2)
      × (word_after move_rounds area.Count 0 ≡ 0)
      × (word_after move_rounds area.FrameMap 1 ≡ 2)
  -- where no frame is free
  refused :
      (fits_all run_sizes (steps_of 3 2 ∷ []) (start_view run_sizes (move_none ∷ [])) ≡ true)
      × (tells_all (steps_of 3 2 ∷ []) (start_view run_sizes (move_none ∷ [])) ≡ none_events)

checkpoints : Checkpoints
unfolding flushed topics_after place kind_of level_span table_word frozen_word content_index pool_index absent_word frame_in mapped_frame leaf_word flags_live
    flags_read_only flags_word host_allows_write host_frame host_present host_level host_word can_write is_leaf_at flags_logged count_trailing_zeros
checkpoints = record {
  watched = (refl, refl, refl, refl);
  copied = (refl, refl, refl);
  moved = (refl, refl);
  whole = (refl, refl, refl, refl, refl, refl, refl, refl);
  refused = (refl, refl);
}

move_allowed : All (May move_sizes) move_lines
move_allowed =
    All-cons (May move_sizes) set_line (write_first ∷ read_seven ∷ move_seven ∷ move_six ∷ read_six ∷ [])
    (record { some = omega arith; pages = omega arith; base = omega arith; host = omega arith; aligned = omega arith })
    (All-cons (May move_sizes) write_first (read_seven ∷ move_seven ∷ move_six ∷ read_six ∷ []) (omega arith, omega arith, omega arith, omega arith)
    (All-cons (May move_sizes) read_seven (move_seven ∷ move_six ∷ read_six ∷ []) (omega arith, omega arith, omega arith, tt)
    (All-cons (May move_sizes) move_seven (move_six ∷ read_six ∷ []) (omega arith)
    (All-cons (May move_sizes) move_six (read_six ∷ []) (omega arith)
    (All-cons (May move_sizes) read_six [] (omega arith, omega arith, omega arith, tt) (All-nil (May move_sizes)))))))

none_allowed : All (May run_sizes) (move_none ∷ [])
none_allowed = All-cons (May run_sizes) move_none [] (omega arith) (All-nil (May run_sizes))

move_prints : text move_events
    ≡ codes "2 vm done\n3 v0 frame 65 value 0\n5 h0 frame 128\n4 v1 frame 128 value 0\n6 h0 frame 66\n7 v0 frame 66 value 7\n"
unfolding line_text
move_prints =
    simp (
      decimal_digit 0 (lit< tt),
      decimal_digit 1 (lit< tt),
      decimal_digit 2 (lit< tt),
      decimal_digit 3 (lit< tt),
      decimal_digit 4 (lit< tt),
      decimal_digit 5 (lit< tt),
      decimal_digit 6 (lit< tt),
      decimal_digit 7 (lit< tt),
      two_digits 65 (lit≤ tt) (lit< tt),
      two_digits 66 (lit≤ tt) (lit< tt),
      three_digits 128 (lit≤ tt) (lit< tt),
    )

none_prints : text none_events ≡ codes "2 h0 refused no-frame\n"
unfolding line_text
none_prints = simp (decimal_digit 0 (lit< tt), decimal_digit 2 (lit< tt))

-- That these actors in turn tell this, and what one of them has counted then; and what a word holds after them.
counts : (rounds : List (ℕ × List ℕ)) (events : List Event) (actor delays : ℕ) → fits_all move_sizes rounds begun ≡ true → tells_all rounds begun ≡ events
    → delays_after rounds actor ≡ delays → RunDelays move_sizes move_lines (turns rounds) events actor delays
counts rounds events actor delays = run_delays move_sizes move_lines rounds events actor delays move_in_range move_allowed (omega arith)

leaves : (rounds : List (ℕ × List ℕ)) (a : Area) (index value : ℕ) → fits_all move_sizes rounds begun ≡ true → word_after rounds a index ≡ value
    → RunLeaves move_sizes move_lines (turns rounds) a index value
leaves rounds a index value = run_leaves move_sizes move_lines rounds a index value move_in_range move_allowed (omega arith)

pub example_move : ExampleMove
example_move = (
  counts move_rounds move_events 1 1 checkpoints.whole.0 checkpoints.whole.1 checkpoints.whole.2,
  counts move_rounds move_events 0 0 checkpoints.whole.0 checkpoints.whole.1 checkpoints.whole.3,
  leaves rounds_to_watch area.Host 66 (host_word 128 true true 1) checkpoints.watched.0 checkpoints.watched.1,
  leaves rounds_to_watch area.Seq 0 1 checkpoints.watched.0 checkpoints.watched.2,
  leaves rounds_to_watch area.FrameMap 2 0 checkpoints.watched.0 checkpoints.watched.3,
  leaves (rounds_to_move 29) area.Content (content_index (map_of move_sizes) 66 0) 7 checkpoints.copied.0 checkpoints.copied.1,
  leaves (rounds_to_move 29) area.Host 65 (host_word 65 true true 1) checkpoints.copied.0 checkpoints.copied.2,
  leaves (rounds_to_move 30) area.Host 65 (host_word 66 true true 1) checkpoints.moved.0 checkpoints.moved.1,
  leaves move_rounds area.Pool (pool_index 4 6) (leaf_word 1 66 true true true) checkpoints.whole.0 checkpoints.whole.4,
  leaves move_rounds area.Seq 0 2 checkpoints.whole.0 checkpoints.whole.5,
  leaves move_rounds area.Count 0 0 checkpoints.whole.0 checkpoints.whole.6,
  leaves move_rounds area.FrameMap 1 2 checkpoints.whole.0 checkpoints.whole.7,
  move_prints,
  run_tells run_sizes (move_none ∷ []) (steps_of 3 2 ∷ []) none_events run_in_range none_allowed (omega arith) checkpoints.refused.0 checkpoints.refused.1,
  none_prints,
)
