-- The runs in which a dirty log is read, by computation.
use Rattle.part_steps.specs.TopicSteps.{topics_after}
use Rattle.std.proofs.lemmas.List.Elements.{All-cons, All-nil}
use Rattle.mmu_core.specs.forms.access.Cached.{flushed}
use Rattle.std.proofs.Common.{ℕ, List, ◌≡◌, ◌<◌, ◌^◌, [], ◌∷◌, refl, arith}
use Rattle.std.specs.Fmt.{digits}
use Rattle.std.specs.Prelude.{All, true, false, codes}
use Rattle.spte_words.specs.Areas.{content_index, place, pool_index}
use Rattle.spte_words.specs.Entries.{absent_word, can_write, frame_in, frozen_word, is_leaf_at, kind_of, leaf_word, level_span, mapped_frame}
use Rattle.spte_words.specs.Entries.{table_word, with_write, without_write, host_writable, mmu_writable}
use Rattle.spte_words.specs.Flags.{flags_live, flags_logged, flags_read_only, flags_word}
use Rattle.spte_words.specs.HostWords.{host_allows_write, host_frame, host_level, host_present, host_word}
use lib.Count.{count_trailing_zeros}
use Rattle.core_views.specs.LogCommands.{words_of}
use Rattle.core_views.specs.Text.{line_text, text}
use Rattle.mmu_laws.specs.steps.ExampleHost.{write_first}
use Rattle.mmu_laws.specs.steps.ExampleLogAll.{all_set_sizes}
use Rattle.mmu_laws.specs.forms.log.ExampleReads.{ExampleReads, clear_second, get_after, get_before, log_begun, log_shown, read_events, read_lines, show_all}
use Rattle.mmu_laws.specs.forms.log.ExampleReads.{show_events, show_lines, show_others, write_read}
use Rattle.spte_words.specs.declared.area.Area.{Area}
use Rattle.spte_words.specs.declared.area.Area.TheVariants as area
use Rattle.mmu_laws.specs.steps.ExampleSteps.{run_sizes, set_line}
use Rattle.mmu_laws.proofs.steps.ExampleLogAllRun.{all_in_range}
use Rattle.mmu_laws.proofs.steps.ExampleRun.{may_set, run_in_range}
use Rattle.mmu_laws.proofs.steps.ComputedRuns.{May, run_delays, run_leaves}
use Rattle.mmu_laws.proofs.steps.FoldedRuns.{fits_all, leads_all, steps_of, tells_all}
use Rattle.mmu_core.specs.machine.View.{View}
use Rattle.mmu_core.proofs.start.StartViews.{start_view}

-- the starts, and what words hold after these rounds
abbrev begun : View
begun = start_view run_sizes read_lines

abbrev show_begun : View
show_begun = start_view all_set_sizes show_lines

abbrev word_after : List (ℕ × List ℕ) → View → Area → ℕ → ℕ
word_after rounds v a index = (leads_all rounds v).words a index

-- the rounds
abbrev read_rounds : ℕ → List (ℕ × List ℕ)
read_rounds steps = steps_of 524 3 ∷ steps_of 1581 0 ∷ steps_of 539 3 ∷ steps_of 20 0 ∷ steps_of 8 3 ∷ steps_of 11 0 ∷ steps_of steps 3 ∷ []

abbrev show_rounds : List (ℕ × List ℕ)
show_rounds = steps_of 524 3 ∷ steps_of 525 3 ∷ steps_of 1 3 ∷ steps_of 9 3 ∷ steps_of 1 3 ∷ []

-- The checkpoints of the run: what holds after so many of its steps.
record Checkpoints : Type 0 where
  -- before the second get takes the mark, and after it
  marked :
      (fits_all run_sizes (read_rounds 1) begun ≡ true)
      × (word_after (read_rounds 1) begun area.Log 1 ≡ 2)
  taken :
      (fits_all run_sizes (read_rounds 2) begun ≡ true)
      × (word_after (read_rounds 2) begun area.Log 1 ≡ 0)
  -- before its leaf forbids writes, and after it
  allows :
      (fits_all run_sizes (read_rounds 7) begun ≡ true)
      × (word_after (read_rounds 7) begun area.Pool (pool_index 4 6) ≡ leaf_word 1 65 true true true)
  forbids :
      (fits_all run_sizes (read_rounds 8) begun ≡ true)
      × (word_after (read_rounds 8) begun area.Pool (pool_index 4 6) ≡ leaf_word 1 65 false true true)
  -- the whole runs
  whole :
      (fits_all run_sizes (read_rounds 13) begun ≡ true)
      × (tells_all (read_rounds 13) begun ≡ read_events)
      × (((leads_all (read_rounds 13) begun).hand 3).state.delays ≡ 0)
  shown :
      (fits_all all_set_sizes show_rounds show_begun ≡ true)
      × (tells_all show_rounds show_begun ≡ show_events)
      × (((leads_all show_rounds show_begun).hand 3).state.delays ≡ 0)
      × (word_after show_rounds show_begun area.Log 1 ≡ 5)

checkpoints : Checkpoints
unfolding flushed topics_after place kind_of level_span table_word frozen_word content_index pool_index absent_word frame_in mapped_frame leaf_word flags_live
    flags_read_only flags_word host_allows_write host_frame host_present host_level host_word can_write is_leaf_at flags_logged count_trailing_zeros
    without_write with_write host_writable mmu_writable
checkpoints = record {
  marked = (refl, refl);
  taken = (refl, refl);
  allows = (refl, refl);
  forbids = (refl, refl);
  whole = (refl, refl, refl);
  shown = (refl, refl, refl, refl);
}

read_allowed : All (May run_sizes) read_lines
read_allowed =
    All-cons (May run_sizes) set_line (write_first ∷ log_begun ∷ write_read ∷ get_before ∷ get_after ∷ []) may_set
    (All-cons (May run_sizes) write_first (log_begun ∷ write_read ∷ get_before ∷ get_after ∷ []) (omega arith, omega arith, omega arith, omega arith)
    (All-cons (May run_sizes) log_begun (write_read ∷ get_before ∷ get_after ∷ []) tt
    (All-cons (May run_sizes) write_read (get_before ∷ get_after ∷ []) (omega arith, omega arith, omega arith, omega arith)
    (All-cons (May run_sizes) get_before (get_after ∷ []) tt
    (All-cons (May run_sizes) get_after [] tt (All-nil (May run_sizes)))))))

show_allowed : All (May all_set_sizes) show_lines
show_allowed =
    All-cons (May all_set_sizes) set_line (log_shown ∷ show_all ∷ clear_second ∷ show_others ∷ [])
    (record { some = omega arith; pages = omega arith; base = omega arith; host = omega arith; aligned = omega arith })
    (All-cons (May all_set_sizes) log_shown (show_all ∷ clear_second ∷ show_others ∷ []) tt
    (All-cons (May all_set_sizes) show_all (clear_second ∷ show_others ∷ []) tt
    (All-cons (May all_set_sizes) clear_second (show_others ∷ [])
    (refl, All-cons (λ word. word < 2 ^ 64) 2 [] (omega arith) (All-nil (λ word. word < 2 ^ 64)))
    (All-cons (May all_set_sizes) show_others [] tt (All-nil (May all_set_sizes))))))

show_prints : text show_events ≡ codes "2 vm done\n3 vm done\n4 vm bits 0x7\n5 vm bits 0x2\n6 vm bits 0x5\n"
unfolding line_text digits words_of
show_prints = refl

pub example_reads : ExampleReads
example_reads = (
  run_delays run_sizes read_lines (read_rounds 13) read_events 3 0
      run_in_range read_allowed (omega arith) checkpoints.whole.0 checkpoints.whole.1 checkpoints.whole.2,
  run_leaves run_sizes read_lines (read_rounds 1) area.Log 1 2 run_in_range read_allowed (omega arith) checkpoints.marked.0 checkpoints.marked.1,
  run_leaves run_sizes read_lines (read_rounds 2) area.Log 1 0 run_in_range read_allowed (omega arith) checkpoints.taken.0 checkpoints.taken.1,
  run_leaves run_sizes read_lines (read_rounds 7) area.Pool (pool_index 4 6) (leaf_word 1 65 true true true)
      run_in_range read_allowed (omega arith) checkpoints.allows.0 checkpoints.allows.1,
  run_leaves run_sizes read_lines (read_rounds 8) area.Pool (pool_index 4 6) (leaf_word 1 65 false true true)
      run_in_range read_allowed (omega arith) checkpoints.forbids.0 checkpoints.forbids.1,
  run_delays all_set_sizes show_lines show_rounds show_events 3 0
      all_in_range show_allowed (omega arith) checkpoints.shown.0 checkpoints.shown.1 checkpoints.shown.2,
  run_leaves all_set_sizes show_lines show_rounds area.Log 1 5 all_in_range show_allowed (omega arith) checkpoints.shown.0 checkpoints.shown.3,
  show_prints,
)
