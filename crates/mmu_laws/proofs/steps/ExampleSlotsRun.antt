-- The run in which a slot is moved and deleted, by computation.
use Rattle.part_steps.specs.TopicSteps.{topics_after}
use Rattle.std.proofs.lemmas.Fmt.{decimal_digit}
use Rattle.std.proofs.lemmas.List.Elements.{All-cons, All-nil}
use Rattle.mmu_core.specs.forms.access.Cached.{flushed}
use Rattle.std.proofs.Common.{ℕ, List, ◌≡◌, ◌++◌, [], ◌∷◌, refl, arith, lit<, lit≤}
use Rattle.std.specs.Prelude.{All, true, codes}
use Rattle.spte_words.specs.Areas.{content_index, place, pool_index}
use Rattle.spte_words.specs.Entries.{absent_word, can_write, frame_in, frozen_word, is_leaf_at, kind_of, leaf_word, level_span, mapped_frame, table_word}
use Rattle.spte_words.specs.Flags.{flags_live, flags_logged, flags_read_only, flags_word}
use Rattle.spte_words.specs.HostWords.{host_allows_write, host_frame, host_level, host_present, host_word}
use lib.Count.{count_trailing_zeros}
use Rattle.core_views.specs.Text.{line_text, text}
use Rattle.core_views.specs.declared.event.Event.{Event}
use Rattle.mmu_laws.specs.steps.ExampleHost.{write_first}
use Rattle.mmu_laws.specs.steps.ExampleSlots.{ExampleSlots, delete_line, events_to_read, move_line}
use Rattle.mmu_laws.specs.steps.ExampleSlots.{read_beside, read_gone, read_inside, same_line, slots_events, slots_lines}
use Rattle.spte_words.specs.declared.area.Area.{Area}
use Rattle.spte_words.specs.declared.area.Area.TheVariants as area
use Rattle.mmu_laws.specs.steps.ExampleSteps.{RunDelays, RunLeaves, run_sizes, set_line}
use Rattle.mmu_laws.proofs.steps.ExampleRun.{may_set, run_in_range}
use Rattle.mmu_laws.proofs.steps.ComputedRuns.{May, run_delays, run_leaves}
use Rattle.mmu_laws.proofs.steps.Decimals.{two_digits}
use Rattle.mmu_laws.proofs.steps.FoldedRuns.{fits_all, leads_all, steps_of, tells_all, turns}
use Rattle.mmu_core.specs.machine.View.{View}
use Rattle.mmu_core.proofs.start.StartViews.{start_view}

-- the start, and what hands have counted and words hold after these rounds
abbrev begun : View
begun = start_view run_sizes slots_lines

abbrev delays_after : List (ℕ × List ℕ) → ℕ → ℕ
delays_after rounds actor = ((leads_all rounds begun).hand actor).state.delays

abbrev word_after : List (ℕ × List ℕ) → Area → ℕ → ℕ
word_after rounds a index = (leads_all rounds begun).words a index

-- the rounds
abbrev rounds_to_look : List (ℕ × List ℕ)
rounds_to_look = steps_of 524 3 ∷ steps_of 1581 0 ∷ steps_of 16 1 ∷ []

abbrev rounds_to_move : ℕ → List (ℕ × List ℕ)
rounds_to_move steps = rounds_to_look ++ (steps_of steps 3 ∷ [])

abbrev rounds_to_read : List (ℕ × List ℕ)
rounds_to_read = rounds_to_move 581 ++ (steps_of 41 1 ∷ [])

abbrev rounds_to_cache : List (ℕ × List ℕ)
rounds_to_cache = rounds_to_read ++ (steps_of 5 3 ∷ steps_of 7 0 ∷ [])

abbrev rounds_to_wait : List (ℕ × List ℕ)
rounds_to_wait = rounds_to_cache ++ (steps_of 567 3 ∷ [])

abbrev slots_rounds : List (ℕ × List ℕ)
slots_rounds = rounds_to_wait ++ (steps_of 2 0 ∷ steps_of 18 3 ∷ steps_of 44 1 ∷ [])

-- The checkpoints of the run: what holds after so many of its steps.
record Checkpoints : Type 0 where
  -- before the move zaps the leaf
  before_zap :
      (fits_all run_sizes (rounds_to_move 562) begun ≡ true)
      × (word_after (rounds_to_move 562) area.Pool (pool_index 4 6) ≡ leaf_word 1 65 true true true)
  -- after it
  zapped :
      (fits_all run_sizes (rounds_to_move 563) begun ≡ true)
      × (word_after (rounds_to_move 563) area.Pool (pool_index 4 6) ≡ 0)
      × (word_after (rounds_to_move 563) area.RangeStart 0 ≡ 5)
      × (word_after (rounds_to_move 563) area.RangeEnd 0 ≡ 8)
  -- before the move publishes its set
  before_publication :
      (fits_all run_sizes (rounds_to_move 571) begun ≡ true)
      × (word_after (rounds_to_move 571) area.Slots 0 ≡ 2)
  -- after it
  published :
      (fits_all run_sizes (rounds_to_move 572) begun ≡ true)
      × (word_after (rounds_to_move 572) area.Slots 0 ≡ 5)
      × (word_after (rounds_to_move 572) area.Count 0 ≡ 1)
      × (word_after (rounds_to_move 572) area.Seq 0 ≡ 0)
  -- after the read beside the move
  read :
      (fits_all run_sizes rounds_to_read begun ≡ true)
      × (tells_all rounds_to_read begun ≡ events_to_read)
      × (delays_after rounds_to_read 1 ≡ 1)
  -- where the next read has cached its leaf
  cached :
      (fits_all run_sizes rounds_to_cache begun ≡ true)
      × (word_after rounds_to_cache area.Seq 0 ≡ 1)
  -- where the deletion waits for it
  waits :
      (fits_all run_sizes rounds_to_wait begun ≡ true)
      × (word_after rounds_to_wait area.Pool (pool_index 4 7) ≡ 0)
      × (word_after rounds_to_wait area.Slots 0 ≡ 5)
  -- the whole run
  whole :
      (fits_all run_sizes slots_rounds begun ≡ true)
      × (tells_all slots_rounds begun ≡ slots_events)
      × (delays_after slots_rounds 3 ≡ 1)
      × (word_after slots_rounds area.Slots 0 ≡ 2)
      × (word_after slots_rounds area.Seq 0 ≡ 2)
      × (word_after slots_rounds area.Count 0 ≡ 0)

checkpoints : Checkpoints
unfolding flushed topics_after place kind_of level_span table_word frozen_word content_index pool_index absent_word frame_in mapped_frame leaf_word flags_live
    flags_read_only flags_word host_allows_write host_frame host_present host_level host_word can_write is_leaf_at flags_logged count_trailing_zeros
checkpoints = record {
  before_zap = (refl, refl);
  zapped = (refl, refl, refl, refl);
  before_publication = (refl, refl);
  published = (refl, refl, refl, refl);
  read = (refl, refl, refl);
  cached = (refl, refl);
  waits = (refl, refl, refl);
  whole = (refl, refl, refl, refl, refl, refl);
}

slots_allowed : All (May run_sizes) slots_lines
slots_allowed =
    All-cons (May run_sizes) set_line (write_first ∷ move_line ∷ read_beside ∷ same_line ∷ delete_line ∷ read_inside ∷ read_gone ∷ []) may_set
    (All-cons (May run_sizes) write_first (move_line ∷ read_beside ∷ same_line ∷ delete_line ∷ read_inside ∷ read_gone ∷ [])
    (omega arith, omega arith, omega arith, omega arith)
    (All-cons (May run_sizes) move_line (read_beside ∷ same_line ∷ delete_line ∷ read_inside ∷ read_gone ∷ []) may_move
    (All-cons (May run_sizes) read_beside (same_line ∷ delete_line ∷ read_inside ∷ read_gone ∷ []) (omega arith, omega arith, omega arith, tt)
    (All-cons (May run_sizes) same_line (delete_line ∷ read_inside ∷ read_gone ∷ []) may_move
    (All-cons (May run_sizes) delete_line (read_inside ∷ read_gone ∷ []) tt
    (All-cons (May run_sizes) read_inside (read_gone ∷ []) (omega arith, omega arith, omega arith, tt)
    (All-cons (May run_sizes) read_gone [] (omega arith, omega arith, omega arith, tt) (All-nil (May run_sizes)))))))))
  where
    may_move : May run_sizes move_line
    may_move = record { some = omega arith; pages = omega arith; base = omega arith; host = omega arith; aligned = refl }

slots_print : text slots_events
    ≡ codes "2 vm done\n3 v0 frame 65 value 0\n5 v1 frame 65 value 7\n4 vm done\n6 vm done\n"
    ++ codes "8 v0 frame 65 value 7\n7 vm done\n9 v1 mmio\n"
unfolding line_text
slots_print =
    simp (
      decimal_digit 0 (lit< tt),
      decimal_digit 1 (lit< tt),
      decimal_digit 2 (lit< tt),
      decimal_digit 3 (lit< tt),
      decimal_digit 4 (lit< tt),
      decimal_digit 5 (lit< tt),
      decimal_digit 6 (lit< tt),
      decimal_digit 7 (lit< tt),
      decimal_digit 8 (lit< tt),
      decimal_digit 9 (lit< tt),
      two_digits 65 (lit≤ tt) (lit< tt),
    )

-- That these actors in turn tell this, and what one of them has counted then; and what a word holds after them.
counts : (rounds : List (ℕ × List ℕ)) (events : List Event) (actor delays : ℕ) → fits_all run_sizes rounds begun ≡ true → tells_all rounds begun ≡ events
    → delays_after rounds actor ≡ delays → RunDelays run_sizes slots_lines (turns rounds) events actor delays
counts rounds events actor delays = run_delays run_sizes slots_lines rounds events actor delays run_in_range slots_allowed (omega arith)

leaves : (rounds : List (ℕ × List ℕ)) (a : Area) (index value : ℕ) → fits_all run_sizes rounds begun ≡ true → word_after rounds a index ≡ value
    → RunLeaves run_sizes slots_lines (turns rounds) a index value
leaves rounds a index value = run_leaves run_sizes slots_lines rounds a index value run_in_range slots_allowed (omega arith)

pub example_slots : ExampleSlots
example_slots = (
  counts rounds_to_read events_to_read 1 1 checkpoints.read.0 checkpoints.read.1 checkpoints.read.2,
  counts slots_rounds slots_events 3 1 checkpoints.whole.0 checkpoints.whole.1 checkpoints.whole.2,
  leaves (rounds_to_move 562) area.Pool (pool_index 4 6) (leaf_word 1 65 true true true) checkpoints.before_zap.0 checkpoints.before_zap.1,
  leaves (rounds_to_move 563) area.Pool (pool_index 4 6) 0 checkpoints.zapped.0 checkpoints.zapped.1,
  leaves (rounds_to_move 563) area.RangeStart 0 5 checkpoints.zapped.0 checkpoints.zapped.2,
  leaves (rounds_to_move 563) area.RangeEnd 0 8 checkpoints.zapped.0 checkpoints.zapped.3,
  leaves (rounds_to_move 571) area.Slots 0 2 checkpoints.before_publication.0 checkpoints.before_publication.1,
  leaves (rounds_to_move 572) area.Slots 0 5 checkpoints.published.0 checkpoints.published.1,
  leaves (rounds_to_move 572) area.Count 0 1 checkpoints.published.0 checkpoints.published.2,
  leaves (rounds_to_move 572) area.Seq 0 0 checkpoints.published.0 checkpoints.published.3,
  leaves rounds_to_cache area.Seq 0 1 checkpoints.cached.0 checkpoints.cached.1,
  leaves rounds_to_wait area.Pool (pool_index 4 7) 0 checkpoints.waits.0 checkpoints.waits.1,
  leaves rounds_to_wait area.Slots 0 5 checkpoints.waits.0 checkpoints.waits.2,
  leaves slots_rounds area.Slots 0 2 checkpoints.whole.0 checkpoints.whole.3,
  leaves slots_rounds area.Seq 0 2 checkpoints.whole.0 checkpoints.whole.4,
  leaves slots_rounds area.Count 0 0 checkpoints.whole.0 checkpoints.whole.5,
  slots_print,
)
