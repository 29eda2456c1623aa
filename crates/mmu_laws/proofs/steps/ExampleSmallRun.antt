-- The run of a host thread that maps a small page by itself, by computation.
use Rattle.part_steps.specs.TopicSteps.{topics_after}
use Rattle.std.proofs.lemmas.Fmt.{decimal_digit}
use Rattle.std.proofs.lemmas.List.Elements.{All-cons, All-nil}
use Rattle.mmu_core.specs.forms.access.Cached.{flushed}
use Rattle.std.proofs.Common.{◌≡◌, [], ◌∷◌, refl, arith, lit<, lit≤, List, ℕ}
use Rattle.std.specs.Prelude.{All, true, codes}
use Rattle.spte_words.specs.Areas.{content_index, place, pool_index}
use Rattle.spte_words.specs.Entries.{absent_word, can_write, frame_in, frozen_word, is_leaf_at, kind_of, leaf_word, level_span, mapped_frame, table_word}
use Rattle.spte_words.specs.Flags.{flags_live, flags_logged, flags_read_only, flags_word}
use Rattle.spte_words.specs.HostWords.{host_allows_write, host_frame, host_level, host_present, host_word}
use lib.Count.{count_trailing_zeros}
use Rattle.core_views.specs.Text.{line_text, text}
use Rattle.mmu_laws.specs.steps.ExampleHost.{write_first}
use Rattle.mmu_laws.specs.steps.ExampleSmall.{ExampleSmall, beyond_line, small_events, small_line, small_lines}
use Rattle.spte_words.specs.declared.area.Area.{Area}
use Rattle.spte_words.specs.declared.area.Area.TheVariants as area
use Rattle.mmu_laws.specs.steps.ExampleSteps.{RunLeaves, run_sizes, set_line}
use Rattle.mmu_laws.proofs.steps.ExampleRun.{may_set, run_in_range}
use Rattle.mmu_laws.proofs.steps.ComputedRuns.{May, run_leaves, run_tells}
use Rattle.mmu_laws.proofs.steps.Decimals.{two_digits}
use Rattle.mmu_laws.proofs.steps.FoldedRuns.{fits_all, leads_all, steps_of, tells_all, turns}
use Rattle.mmu_core.specs.machine.View.{View}
use Rattle.mmu_core.proofs.start.StartViews.{start_view}

-- the start, and what words hold after so many steps of the host thread
abbrev begun : View
begun = start_view run_sizes small_lines

abbrev rounds : ℕ → List (ℕ × List ℕ)
rounds steps = steps_of 524 3 ∷ steps_of 1581 0 ∷ steps_of steps 2 ∷ []

abbrev word_after : ℕ → Area → ℕ → ℕ
word_after steps a index = (leads_all (rounds steps) begun).words a index

-- The checkpoints of the run: what holds after so many of its steps.
record Checkpoints : Type 0 where
  -- before the leaf is zapped, and after it
  before_zap : (fits_all run_sizes (rounds 16) begun ≡ true) × (word_after 16 area.Pool (pool_index 4 6) ≡ leaf_word 1 65 true true true)
  zapped : (fits_all run_sizes (rounds 17) begun ≡ true) × (word_after 17 area.Pool (pool_index 4 6) ≡ 0)
  -- where the host word is exchanged
  exchanged : (fits_all run_sizes (rounds 23) begun ≡ true) × (word_after 23 area.Host 65 ≡ host_word 65 true true 1) × (word_after 23 area.Count 0 ≡ 1)
  -- the whole run
  whole :
      (fits_all run_sizes (rounds 30) begun ≡ true)
      × (tells_all (rounds 30) begun ≡ small_events)
      × (word_after 30 area.Seq 0 ≡ 1)
      × (word_after 30 area.Count 0 ≡ 0)

checkpoints : Checkpoints
unfolding flushed topics_after place kind_of level_span table_word frozen_word content_index pool_index absent_word frame_in mapped_frame leaf_word flags_live
    flags_read_only flags_word host_allows_write host_frame host_present host_level host_word can_write is_leaf_at flags_logged count_trailing_zeros
checkpoints = record {
  before_zap = (refl, refl);
  zapped = (refl, refl);
  exchanged = (refl, refl, refl);
  whole = (refl, refl, refl, refl);
}

small_allowed : All (May run_sizes) small_lines
small_allowed =
    All-cons (May run_sizes) set_line (write_first ∷ small_line ∷ beyond_line ∷ []) may_set
    (All-cons (May run_sizes) write_first (small_line ∷ beyond_line ∷ []) (omega arith, omega arith, omega arith, omega arith)
    (All-cons (May run_sizes) small_line (beyond_line ∷ []) (omega arith, tt)
    (All-cons (May run_sizes) beyond_line [] (omega arith, (omega arith, omega arith)) (All-nil (May run_sizes)))))

small_prints : text small_events ≡ codes "2 vm done\n3 v0 frame 65 value 0\n4 h0 done\n5 h0 refused out-of-range\n"
unfolding line_text
small_prints = simp (
  decimal_digit 0 (lit< tt),
  decimal_digit 2 (lit< tt),
  decimal_digit 3 (lit< tt),
  decimal_digit 4 (lit< tt),
  decimal_digit 5 (lit< tt),
  two_digits 65 (lit≤ tt) (lit< tt),
)

leaves : (steps : ℕ) (a : Area) (index value : ℕ) → fits_all run_sizes (rounds steps) begun ≡ true → word_after steps a index ≡ value
    → RunLeaves run_sizes small_lines (turns (rounds steps)) a index value
leaves steps a index value = run_leaves run_sizes small_lines (rounds steps) a index value run_in_range small_allowed (omega arith)

pub example_small : ExampleSmall
example_small = (
  run_tells run_sizes small_lines (rounds 30) small_events run_in_range small_allowed (omega arith) checkpoints.whole.0 checkpoints.whole.1,
  leaves 16 area.Pool (pool_index 4 6) (leaf_word 1 65 true true true) checkpoints.before_zap.0 checkpoints.before_zap.1,
  leaves 17 area.Pool (pool_index 4 6) 0 checkpoints.zapped.0 checkpoints.zapped.1,
  leaves 23 area.Host 65 (host_word 65 true true 1) checkpoints.exchanged.0 checkpoints.exchanged.1,
  leaves 23 area.Count 0 1 checkpoints.exchanged.0 checkpoints.exchanged.2,
  leaves 30 area.Seq 0 1 checkpoints.whole.0 checkpoints.whole.2,
  leaves 30 area.Count 0 0 checkpoints.whole.0 checkpoints.whole.3,
  small_prints,
)
