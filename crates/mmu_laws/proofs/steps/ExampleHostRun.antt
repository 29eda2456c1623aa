-- The run of a host thread beside two processors, by computation.
use Rattle.part_steps.specs.TopicSteps.{topics_after}
use Rattle.std.proofs.lemmas.Fmt.{decimal_digit}
use Rattle.std.proofs.lemmas.List.Elements.{All-cons, All-nil}
use Rattle.mmu_core.specs.forms.access.Cached.{flushed}
use Rattle.std.proofs.Common.{◌≡◌, [], ◌∷◌, refl, arith, lit<, lit≤, List, ℕ}
use Rattle.std.specs.Prelude.{All, true, codes}
use Rattle.spte_words.specs.Areas.{content_index, place, pool_index}
use Rattle.spte_words.specs.Entries.{absent_word, can_write, frame_in, frozen_word, is_leaf_at, kind_of, leaf_word, level_span, mapped_frame, table_word}
use Rattle.spte_words.specs.Flags.{flags_live, flags_logged, flags_read_only, flags_word}
use Rattle.spte_words.specs.HostWords.{host_allows_write, host_frame, host_level, host_present, host_word}
use lib.Count.{count_trailing_zeros}
use Rattle.core_views.specs.Text.{line_text, text}
use Rattle.mmu_laws.specs.steps.ExampleHost.{ExampleHost, allow_line, host_events, host_lines, read_again, read_cached, write_first}
use Rattle.spte_words.specs.declared.area.Area.{Area}
use Rattle.spte_words.specs.declared.area.Area.TheVariants as area
use Rattle.core_views.specs.declared.event.Event.{Event}
use Rattle.mmu_laws.specs.steps.ExampleSteps.{RunDelays, RunLeaves, run_sizes, set_line}
use Rattle.mmu_laws.proofs.steps.ExampleRun.{may_set, run_in_range}
use Rattle.mmu_laws.proofs.steps.ComputedRuns.{May, run_delays, run_leaves}
use Rattle.mmu_laws.proofs.steps.Decimals.{two_digits}
use Rattle.mmu_laws.proofs.steps.FoldedRuns.{fits_all, leads_all, steps_of, tells_all, turns}
use Rattle.mmu_core.specs.machine.View.{View}
use Rattle.mmu_core.proofs.start.StartViews.{start_view}

-- the start, and what hands have counted and words hold after these rounds
abbrev begun : View
begun = start_view run_sizes host_lines

abbrev delays_after : List (ℕ × List ℕ) → ℕ → ℕ
delays_after rounds actor = ((leads_all rounds begun).hand actor).state.delays

abbrev word_after : List (ℕ × List ℕ) → Area → ℕ → ℕ
word_after rounds a index = (leads_all rounds begun).words a index

-- the rounds
abbrev rounds_to_zap : ℕ → List (ℕ × List ℕ)
rounds_to_zap steps = steps_of 524 3 ∷ steps_of 1581 0 ∷ steps_of 2 0 ∷ steps_of steps 2 ∷ []

abbrev host_rounds : List (ℕ × List ℕ)
host_rounds = steps_of 524 3 ∷ steps_of 1581 0 ∷ steps_of 2 0 ∷ steps_of 20 2 ∷ steps_of 2 0 ∷ steps_of 3 2 ∷ steps_of 21 1 ∷ steps_of 7 2 ∷ steps_of 37 1 ∷ []

-- The checkpoints of the run: what holds after so many of its steps.
record Checkpoints : Type 0 where
  -- before the leaf is zapped
  before_zap :
      (fits_all run_sizes (rounds_to_zap 16) begun ≡ true)
      × (word_after (rounds_to_zap 16) area.Pool (pool_index 4 6) ≡ leaf_word 1 65 true true true)
  -- after it
  zapped :
      (fits_all run_sizes (rounds_to_zap 17) begun ≡ true)
      × (word_after (rounds_to_zap 17) area.Pool (pool_index 4 6) ≡ 0)
      × (word_after (rounds_to_zap 17) area.Count 0 ≡ 1)
      × (word_after (rounds_to_zap 17) area.RangeStart 0 ≡ 6)
      × (word_after (rounds_to_zap 17) area.RangeEnd 0 ≡ 7)
  -- where the first processor is asked for a flush
  asked :
      (fits_all run_sizes (rounds_to_zap 18) begun ≡ true)
      × (word_after (rounds_to_zap 18) area.State 0 ≡ 7)
  -- the whole run
  whole :
      (fits_all run_sizes host_rounds begun ≡ true)
      × (tells_all host_rounds begun ≡ host_events)
      × (delays_after host_rounds 2 ≡ 1)
      × (word_after host_rounds area.Seq 0 ≡ 1)
      × (word_after host_rounds area.Count 0 ≡ 0)

checkpoints : Checkpoints
unfolding flushed topics_after place kind_of level_span table_word frozen_word content_index pool_index absent_word frame_in mapped_frame leaf_word flags_live
    flags_read_only flags_word host_allows_write host_frame host_present host_level host_word can_write is_leaf_at flags_logged count_trailing_zeros
checkpoints = record {
  before_zap = (refl, refl);
  zapped = (refl, refl, refl, refl, refl);
  asked = (refl, refl);
  whole = (refl, refl, refl, refl, refl);
}

host_allowed : All (May run_sizes) host_lines
host_allowed =
    All-cons (May run_sizes) set_line (write_first ∷ read_cached ∷ allow_line ∷ read_again ∷ []) may_set
    (All-cons (May run_sizes) write_first (read_cached ∷ allow_line ∷ read_again ∷ []) (omega arith, omega arith, omega arith, omega arith)
    (All-cons (May run_sizes) read_cached (allow_line ∷ read_again ∷ []) (omega arith, omega arith, omega arith, tt)
    (All-cons (May run_sizes) allow_line (read_again ∷ []) (omega arith)
    (All-cons (May run_sizes) read_again [] (omega arith, omega arith, omega arith, tt) (All-nil (May run_sizes))))))

host_prints : text host_events ≡ codes "2 vm done\n3 v0 frame 65 value 0\n4 v0 frame 65 value 7\n5 h0 done\n6 v1 frame 65 value 7\n"
unfolding line_text
host_prints = simp (
  decimal_digit 0 (lit< tt),
  decimal_digit 1 (lit< tt),
  decimal_digit 2 (lit< tt),
  decimal_digit 3 (lit< tt),
  decimal_digit 4 (lit< tt),
  decimal_digit 5 (lit< tt),
  decimal_digit 6 (lit< tt),
  decimal_digit 7 (lit< tt),
  two_digits 65 (lit≤ tt) (lit< tt),
)

-- That these actors in turn tell this, and what one of them has counted then; and what a word holds after them.
counts : (rounds : List (ℕ × List ℕ)) (events : List Event) (actor delays : ℕ) → fits_all run_sizes rounds begun ≡ true → tells_all rounds begun ≡ events
    → delays_after rounds actor ≡ delays → RunDelays run_sizes host_lines (turns rounds) events actor delays
counts rounds events actor delays = run_delays run_sizes host_lines rounds events actor delays run_in_range host_allowed (omega arith)

leaves : (rounds : List (ℕ × List ℕ)) (a : Area) (index value : ℕ) → fits_all run_sizes rounds begun ≡ true → word_after rounds a index ≡ value
    → RunLeaves run_sizes host_lines (turns rounds) a index value
leaves rounds a index value = run_leaves run_sizes host_lines rounds a index value run_in_range host_allowed (omega arith)

pub example_host : ExampleHost
example_host = (
  counts host_rounds host_events 2 1 checkpoints.whole.0 checkpoints.whole.1 checkpoints.whole.2,
  leaves (rounds_to_zap 16) area.Pool (pool_index 4 6) (leaf_word 1 65 true true true) checkpoints.before_zap.0 checkpoints.before_zap.1,
  leaves (rounds_to_zap 17) area.Pool (pool_index 4 6) 0 checkpoints.zapped.0 checkpoints.zapped.1,
  leaves (rounds_to_zap 17) area.Count 0 1 checkpoints.zapped.0 checkpoints.zapped.2,
  leaves (rounds_to_zap 17) area.RangeStart 0 6 checkpoints.zapped.0 checkpoints.zapped.3,
  leaves (rounds_to_zap 17) area.RangeEnd 0 7 checkpoints.zapped.0 checkpoints.zapped.4,
  leaves (rounds_to_zap 18) area.State 0 7 checkpoints.asked.0 checkpoints.asked.1,
  leaves host_rounds area.Seq 0 1 checkpoints.whole.0 checkpoints.whole.3,
  leaves host_rounds area.Count 0 0 checkpoints.whole.0 checkpoints.whole.4,
  host_prints,
)
