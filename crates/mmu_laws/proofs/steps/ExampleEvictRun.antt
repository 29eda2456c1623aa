-- The run in which a page is taken away and brought in again, by computation.
use Rattle.part_steps.specs.TopicSteps.{topics_after}
use Rattle.part_steps.specs.Tasks.{map_of}
use Rattle.std.proofs.lemmas.Fmt.{decimal_digit}
use Rattle.std.proofs.lemmas.List.Elements.{All-cons, All-nil}
use Rattle.mmu_core.specs.forms.access.Cached.{flushed}
use Rattle.std.proofs.Common.{ℕ, List, ◌≡◌, ◌++◌, [], ◌∷◌, refl, arith, lit<, lit≤}
use Rattle.std.specs.Prelude.{All, true, false, codes}
use Rattle.spte_words.specs.Areas.{content_index, place, pool_index}
use Rattle.spte_words.specs.Entries.{absent_word, can_write, frame_in, frozen_word, is_leaf_at, kind_of, leaf_word, level_span, mapped_frame, table_word}
use Rattle.spte_words.specs.Flags.{flags_live, flags_logged, flags_read_only, flags_word}
use Rattle.spte_words.specs.HostWords.{host_allows_write, host_frame, host_level, host_present, host_word}
use lib.Count.{count_trailing_zeros}
use Rattle.core_views.specs.Text.{line_text, text}
use Rattle.core_views.specs.declared.event.Event.{Event}
use Rattle.mmu_laws.specs.steps.ExampleHost.{write_first}
use Rattle.mmu_laws.specs.steps.ExampleEvict.{ExampleEvict, bring_line, events_to_write, evict_again, evict_events, evict_line, evict_lines}
use Rattle.mmu_laws.specs.steps.ExampleEvict.{forbid_line, late_line}
use Rattle.mmu_laws.specs.steps.ExampleEvict.{read_between}
use Rattle.spte_words.specs.declared.area.Area.{Area}
use Rattle.spte_words.specs.declared.area.Area.TheVariants as area
use Rattle.mmu_laws.specs.steps.ExampleSteps.{RunDelays, RunLeaves, run_sizes, set_line}
use Rattle.mmu_laws.proofs.steps.ExampleRun.{may_set, run_in_range}
use Rattle.mmu_laws.proofs.steps.ComputedRuns.{May, run_delays, run_leaves}
use Rattle.mmu_laws.proofs.steps.Decimals.{two_digits}
use Rattle.mmu_laws.proofs.steps.FoldedRuns.{fits_all, leads_all, steps_of, tells_all, turns}
use Rattle.mmu_core.specs.machine.View.{View}
use Rattle.mmu_core.proofs.start.StartViews.{start_view}

-- the start, and what hands have counted and words hold after these rounds
abbrev begun : View
begun = start_view run_sizes evict_lines

abbrev delays_after : List (ℕ × List ℕ) → ℕ → ℕ
delays_after rounds actor = ((leads_all rounds begun).hand actor).state.delays

abbrev word_after : List (ℕ × List ℕ) → Area → ℕ → ℕ
word_after rounds a index = (leads_all rounds begun).words a index

-- the rounds
abbrev rounds_to_evict : List (ℕ × List ℕ)
rounds_to_evict = steps_of 524 3 ∷ steps_of 1581 0 ∷ steps_of 29 2 ∷ []

abbrev rounds_to_bring : List (ℕ × List ℕ)
rounds_to_bring = rounds_to_evict ++ (steps_of 16 0 ∷ steps_of 16 1 ∷ steps_of 1 0 ∷ [])

abbrev rounds_to_read : List (ℕ × List ℕ)
rounds_to_read = rounds_to_bring ++ (steps_of 38 1 ∷ [])

abbrev rounds_to_write : List (ℕ × List ℕ)
rounds_to_write = rounds_to_read ++ (steps_of 19 0 ∷ [])

abbrev rounds_to_forbid : ℕ → List (ℕ × List ℕ)
rounds_to_forbid steps = rounds_to_write ++ (steps_of 50 2 ∷ steps_of 17 1 ∷ steps_of steps 2 ∷ [])

abbrev evict_rounds : List (ℕ × List ℕ)
evict_rounds = rounds_to_forbid 8 ++ (steps_of 41 1 ∷ [])

-- The checkpoints of the run: what holds after so many of its steps.
record Checkpoints : Type 0 where
  -- where the page is taken away
  evicted :
      (fits_all run_sizes rounds_to_evict begun ≡ true)
      × (word_after rounds_to_evict area.Host 65 ≡ host_word 65 false true 1)
      × (word_after rounds_to_evict area.Pool (pool_index 4 6) ≡ 0)
      × (word_after rounds_to_evict area.Content (content_index (map_of run_sizes) 65 0) ≡ 7)
  -- where it is brought in
  brought :
      (fits_all run_sizes rounds_to_bring begun ≡ true)
      × (word_after rounds_to_bring area.Host 65 ≡ host_word 65 true true 1)
  -- where the second processor has read
  read :
      (fits_all run_sizes rounds_to_read begun ≡ true)
      × (word_after rounds_to_read area.Pool (pool_index 4 6) ≡ leaf_word 1 65 true true true)
  -- up to the write for which the page was brought in
  written :
      (fits_all run_sizes rounds_to_write begun ≡ true)
      × (tells_all rounds_to_write begun ≡ events_to_write)
      × (delays_after rounds_to_write 1 ≡ 1)
  -- after the exchange that is lost
  lost :
      (fits_all run_sizes (rounds_to_forbid 1) begun ≡ true)
      × (word_after (rounds_to_forbid 1) area.Host 65 ≡ host_word 65 true true 1)
  -- after the next one
  won :
      (fits_all run_sizes (rounds_to_forbid 2) begun ≡ true)
      × (word_after (rounds_to_forbid 2) area.Host 65 ≡ host_word 65 true false 1)
  -- the whole run
  whole :
      (fits_all run_sizes evict_rounds begun ≡ true)
      × (tells_all evict_rounds begun ≡ evict_events)
      × (delays_after evict_rounds 1 ≡ 1)
      × (delays_after evict_rounds 2 ≡ 0)
      × (word_after evict_rounds area.Pool (pool_index 4 6) ≡ leaf_word 1 65 false false false)
      × (word_after evict_rounds area.Seq 0 ≡ 3)
      × (word_after evict_rounds area.Count 0 ≡ 0)

checkpoints : Checkpoints
unfolding flushed topics_after place kind_of level_span table_word frozen_word content_index pool_index absent_word frame_in mapped_frame leaf_word flags_live
    flags_read_only flags_word host_allows_write host_frame host_present host_level host_word can_write is_leaf_at flags_logged count_trailing_zeros
checkpoints = record {
  evicted = (refl, refl, refl, refl);
  brought = (refl, refl);
  read = (refl, refl);
  written = (refl, refl, refl);
  lost = (refl, refl);
  won = (refl, refl);
  whole = (refl, refl, refl, refl, refl, refl, refl);
}

evict_allowed : All (May run_sizes) evict_lines
evict_allowed =
    All-cons (May run_sizes) set_line (write_first ∷ evict_line ∷ bring_line ∷ late_line ∷ evict_again ∷ forbid_line ∷ read_between ∷ []) may_set
    (All-cons (May run_sizes) write_first (evict_line ∷ bring_line ∷ late_line ∷ evict_again ∷ forbid_line ∷ read_between ∷ [])
    (omega arith, omega arith, omega arith, omega arith)
    (All-cons (May run_sizes) evict_line (bring_line ∷ late_line ∷ evict_again ∷ forbid_line ∷ read_between ∷ []) (omega arith)
    (All-cons (May run_sizes) bring_line (late_line ∷ evict_again ∷ forbid_line ∷ read_between ∷ []) (omega arith, omega arith, omega arith, omega arith)
    (All-cons (May run_sizes) late_line (evict_again ∷ forbid_line ∷ read_between ∷ []) (omega arith, omega arith, omega arith, tt)
    (All-cons (May run_sizes) evict_again (forbid_line ∷ read_between ∷ []) (omega arith)
    (All-cons (May run_sizes) forbid_line (read_between ∷ []) (omega arith)
    (All-cons (May run_sizes) read_between [] (omega arith, omega arith, omega arith, tt) (All-nil (May run_sizes)))))))))

evict_prints : text evict_events
    ≡ codes "2 vm done\n3 v0 frame 65 value 0\n4 h0 done\n6 v1 frame 65 value 7\n5 v0 frame 65 value 7\n"
    ++ codes "7 h0 done\n8 h0 done\n9 v1 frame 65 value 9\n"
unfolding line_text
evict_prints =
    simp (
      decimal_digit 0 (lit< tt),
      decimal_digit 1 (lit< tt),
      decimal_digit 2 (lit< tt),
      decimal_digit 3 (lit< tt),
      decimal_digit 4 (lit< tt),
      decimal_digit 5 (lit< tt),
      decimal_digit 6 (lit< tt),
      decimal_digit 7 (lit< tt),
      decimal_digit 8 (lit< tt),
      decimal_digit 9 (lit< tt),
      two_digits 65 (lit≤ tt) (lit< tt),
    )

-- That these actors in turn tell this, and what one of them has counted then; and what a word holds after them.
counts : (rounds : List (ℕ × List ℕ)) (events : List Event) (actor delays : ℕ) → fits_all run_sizes rounds begun ≡ true → tells_all rounds begun ≡ events
    → delays_after rounds actor ≡ delays → RunDelays run_sizes evict_lines (turns rounds) events actor delays
counts rounds events actor delays = run_delays run_sizes evict_lines rounds events actor delays run_in_range evict_allowed (omega arith)

leaves : (rounds : List (ℕ × List ℕ)) (a : Area) (index value : ℕ) → fits_all run_sizes rounds begun ≡ true → word_after rounds a index ≡ value
    → RunLeaves run_sizes evict_lines (turns rounds) a index value
leaves rounds a index value = run_leaves run_sizes evict_lines rounds a index value run_in_range evict_allowed (omega arith)

pub example_evict : ExampleEvict
example_evict = (
  counts rounds_to_write events_to_write 1 1 checkpoints.written.0 checkpoints.written.1 checkpoints.written.2,
  counts evict_rounds evict_events 1 1 checkpoints.whole.0 checkpoints.whole.1 checkpoints.whole.2,
  counts evict_rounds evict_events 2 0 checkpoints.whole.0 checkpoints.whole.1 checkpoints.whole.3,
  leaves rounds_to_evict area.Host 65 (host_word 65 false true 1) checkpoints.evicted.0 checkpoints.evicted.1,
  leaves rounds_to_evict area.Pool (pool_index 4 6) 0 checkpoints.evicted.0 checkpoints.evicted.2,
  leaves rounds_to_evict area.Content (content_index (map_of run_sizes) 65 0) 7 checkpoints.evicted.0 checkpoints.evicted.3,
  leaves rounds_to_bring area.Host 65 (host_word 65 true true 1) checkpoints.brought.0 checkpoints.brought.1,
  leaves rounds_to_read area.Pool (pool_index 4 6) (leaf_word 1 65 true true true) checkpoints.read.0 checkpoints.read.1,
  leaves (rounds_to_forbid 1) area.Host 65 (host_word 65 true true 1) checkpoints.lost.0 checkpoints.lost.1,
  leaves (rounds_to_forbid 2) area.Host 65 (host_word 65 true false 1) checkpoints.won.0 checkpoints.won.1,
  leaves evict_rounds area.Pool (pool_index 4 6) (leaf_word 1 65 false false false) checkpoints.whole.0 checkpoints.whole.4,
  leaves evict_rounds area.Seq 0 3 checkpoints.whole.0 checkpoints.whole.5,
  leaves evict_rounds area.Count 0 0 checkpoints.whole.0 checkpoints.whole.6,
  evict_prints,
)
