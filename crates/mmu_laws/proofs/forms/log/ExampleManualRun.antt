-- The run in which a manual log is shown, cleared and ended, and a write comes after that, by computation.
use lib.Count.{count_trailing_zeros}
use Rattle.std.proofs.Common.{ℕ, List, ◌≡◌, ◌<◌, ◌^◌, [], ◌∷◌, ◌++◌, refl, arith}
use Rattle.std.proofs.lemmas.List.Elements.{All-cons, All-nil}
use Rattle.std.specs.Fmt.{digits}
use Rattle.std.specs.Prelude.{All, true, false, codes}
use Rattle.core_views.specs.declared.place.AccessPlace.TheVariants.{Fault}
use Rattle.core_views.specs.declared.place.FaultEnd.TheVariants.{Fixed}
use Rattle.core_views.specs.declared.place.FaultPlace.TheVariants.{End, Fix}
use Rattle.core_views.specs.declared.place.Place.{Place}
use Rattle.core_views.specs.declared.place.Place.TheVariants.{Access}
use Rattle.core_views.specs.LogCommands.{words_of}
use Rattle.core_views.specs.Sizes.{AreSizes}
use Rattle.core_views.specs.Text.{line_text, text}
use Rattle.spte_words.specs.declared.area.Area.{Area}
use Rattle.spte_words.specs.declared.area.Area.TheVariants as area
use Rattle.spte_words.specs.Areas.{content_index, place, pool_index}
use Rattle.spte_words.specs.Entries.{absent_word, can_write, frame_in, frozen_word, is_leaf_at, kind_of, leaf_word, level_span, mapped_frame}
use Rattle.spte_words.specs.Entries.{table_word, with_write, without_write, host_writable, mmu_writable}
use Rattle.spte_words.specs.Flags.{flags_live, flags_logged, flags_read_only, flags_word}
use Rattle.spte_words.specs.HostWords.{host_allows_write, host_frame, host_level, host_present, host_word}
use Rattle.part_steps.specs.TopicSteps.{topics_after}
use Rattle.mmu_core.specs.forms.access.Cached.{flushed}
use Rattle.mmu_core.specs.machine.View.{View}
use Rattle.mmu_core.proofs.start.StartViews.{start_view}
use Rattle.mmu_laws.specs.forms.log.ExampleManual.{ExampleManual, clear_write, end_log, manual_events, manual_lines, manual_sizes, show_none, show_write}
use Rattle.mmu_laws.specs.forms.log.ExampleManual.{write_after}
use Rattle.mmu_laws.specs.forms.log.ExampleOwed.{log_early, put_logged}
use Rattle.mmu_laws.specs.steps.ExampleSteps.{RunLeaves, RunStands, set_line}
use Rattle.mmu_laws.proofs.steps.ComputedRuns.{May, run_delays, run_leaves, run_stands}
use Rattle.mmu_laws.proofs.steps.ExampleRun.{run_in_range}
use Rattle.mmu_laws.proofs.steps.FoldedRuns.{fits_all, leads_all, steps_of, tells_all, turns}

-- the start, and what words hold and where the processor's line stands after these rounds
abbrev begun : View
begun = start_view manual_sizes manual_lines

abbrev word_after : List (ℕ × List ℕ) → Area → ℕ → ℕ
word_after rounds a index = (leads_all rounds begun).words a index

abbrev place_after : List (ℕ × List ℕ) → Place
place_after rounds = ((leads_all rounds begun).hand 0).state.place

-- the rounds
abbrev rounds_to_clear : ℕ → List (ℕ × List ℕ)
rounds_to_clear steps = steps_of 524 3 ∷ steps_of 533 3 ∷ steps_of 1582 0 ∷ steps_of 1 3 ∷ steps_of steps 3 ∷ []

abbrev rounds_to_fix : ℕ → List (ℕ × List ℕ)
rounds_to_fix steps = rounds_to_clear 13 ++ (steps_of 524 3 ∷ steps_of steps 0 ∷ [])

abbrev manual_rounds : List (ℕ × List ℕ)
manual_rounds = rounds_to_fix 30 ++ (steps_of 1 3 ∷ [])

-- The checkpoints of the run: what holds after so many of its steps.
record Checkpoints : Type 0 where
  -- where the log is shown, and where it is cleared
  shows :
      (fits_all manual_sizes (rounds_to_clear 0) begun ≡ true)
      × (word_after (rounds_to_clear 0) area.Log 1 ≡ 2)
      × (word_after (rounds_to_clear 0) area.Pool (pool_index 4 6) ≡ leaf_word 1 65 true true true)
  clears :
      (fits_all manual_sizes (rounds_to_clear 13) begun ≡ true)
      × (word_after (rounds_to_clear 13) area.Log 1 ≡ 0)
      × (word_after (rounds_to_clear 13) area.Pool (pool_index 4 6) ≡ leaf_word 1 65 false true true)
  -- before the fast fault allows writes, and after it
  meets :
      (fits_all manual_sizes (rounds_to_fix 19) begun ≡ true)
      × ◌≡◌ {A = Place} (place_after (rounds_to_fix 19)) (Access (Fault Fix))
      × (word_after (rounds_to_fix 19) area.Pool (pool_index 4 6) ≡ leaf_word 1 65 false true true)
  fixes :
      (fits_all manual_sizes (rounds_to_fix 20) begun ≡ true)
      × ◌≡◌ {A = Place} (place_after (rounds_to_fix 20)) (Access (Fault (End (Fixed false))))
      × (word_after (rounds_to_fix 20) area.Pool (pool_index 4 6) ≡ leaf_word 1 65 true true true)
  -- the whole run
  whole :
      (fits_all manual_sizes manual_rounds begun ≡ true)
      × (tells_all manual_rounds begun ≡ manual_events)
      × (((leads_all manual_rounds begun).hand 0).state.delays ≡ 0)
      × (word_after manual_rounds area.Log 1 ≡ 0)

checkpoints : Checkpoints
unfolding flushed topics_after place kind_of level_span table_word frozen_word content_index pool_index absent_word frame_in mapped_frame leaf_word flags_live
    flags_read_only flags_word host_allows_write host_frame host_present host_level host_word can_write is_leaf_at flags_logged count_trailing_zeros
    without_write with_write host_writable mmu_writable
checkpoints = record {
  shows = (refl, refl, refl);
  clears = (refl, refl, refl);
  meets = (refl, refl, refl);
  fixes = (refl, refl, refl);
  whole = (refl, refl, refl, refl);
}

manual_allowed : All (May manual_sizes) manual_lines
manual_allowed =
    All-cons (May manual_sizes) set_line (log_early ∷ put_logged ∷ show_write ∷ clear_write ∷ end_log ∷ write_after ∷ show_none ∷ [])
    (record { some = omega arith; pages = omega arith; base = omega arith; host = omega arith; aligned = omega arith })
    (All-cons (May manual_sizes) log_early (put_logged ∷ show_write ∷ clear_write ∷ end_log ∷ write_after ∷ show_none ∷ []) tt
    (All-cons (May manual_sizes) put_logged (show_write ∷ clear_write ∷ end_log ∷ write_after ∷ show_none ∷ []) (
      omega arith,
      omega arith,
      omega arith,
      omega
          arith,
    )
    (All-cons (May manual_sizes) show_write (clear_write ∷ end_log ∷ write_after ∷ show_none ∷ []) tt
    (All-cons (May manual_sizes) clear_write (end_log ∷ write_after ∷ show_none ∷ [])
    (refl, All-cons (λ word. word < 2 ^ 64) 2 [] (omega arith) (All-nil (λ word. word < 2 ^ 64)))
    (All-cons (May manual_sizes) end_log (write_after ∷ show_none ∷ []) tt
    (All-cons (May manual_sizes) write_after (show_none ∷ []) (omega arith, omega arith, omega arith, omega arith)
    (All-cons (May manual_sizes) show_none [] tt (All-nil (May manual_sizes)))))))))

manual_in_range : AreSizes manual_sizes
manual_in_range =
    let R = run_in_range in
    record {
      actors = record { vcpus = R.actors.vcpus; hosts = R.actors.hosts; workers = R.actors.workers };
      some = R.some;
      pages = R.pages;
      frames = R.frames;
      words = R.words;
      content = R.content;
      pool = R.pool;
      cache = R.cache;
      firsts = R.firsts;
      rising = record { each = R.rising.each };
    }

manual_prints : text manual_events
    ≡ codes "2 vm done\n3 vm done\n4 v0 frame 65 value 0\n5 vm bits 0x2\n6 vm bits 0x2\n7 vm done\n8 v0 frame 65 value 7\n"
    ++ codes "9 vm refused no-log\n"
unfolding line_text digits words_of
manual_prints = refl

leaves : (rounds : List (ℕ × List ℕ)) (a : Area) (index value : ℕ) → fits_all manual_sizes rounds begun ≡ true → word_after rounds a index ≡ value
    → RunLeaves manual_sizes manual_lines (turns rounds) a index value
leaves rounds a index value = run_leaves manual_sizes manual_lines rounds a index value manual_in_range manual_allowed (omega arith)

stands : (rounds : List (ℕ × List ℕ)) (p : Place) → fits_all manual_sizes rounds begun ≡ true → place_after rounds ≡ p
    → RunStands manual_sizes manual_lines (turns rounds) 0 p
stands rounds p = run_stands manual_sizes manual_lines rounds 0 p manual_in_range manual_allowed (omega arith)

pub example_manual : ExampleManual
example_manual =
    let C : Checkpoints = checkpoints in (
      leaves (rounds_to_clear 0) area.Log 1 2 C.shows.0 C.shows.1,
      leaves (rounds_to_clear 0) area.Pool (pool_index 4 6) (leaf_word 1 65 true true true) C.shows.0 C.shows.2,
      leaves (rounds_to_clear 13) area.Log 1 0 C.clears.0 C.clears.1,
      leaves (rounds_to_clear 13) area.Pool (pool_index 4 6) (leaf_word 1 65 false true true) C.clears.0 C.clears.2,
      stands (rounds_to_fix 19) (Access (Fault Fix)) C.meets.0 C.meets.1,
      leaves (rounds_to_fix 19) area.Pool (pool_index 4 6) (leaf_word 1 65 false true true) C.meets.0 C.meets.2,
      stands (rounds_to_fix 20) (Access (Fault (End (Fixed false)))) C.fixes.0 C.fixes.1,
      leaves (rounds_to_fix 20) area.Pool (pool_index 4 6) (leaf_word 1 65 true true true) C.fixes.0 C.fixes.2,
      run_delays manual_sizes manual_lines manual_rounds manual_events 0 0 manual_in_range manual_allowed (omega arith) C.whole.0 C.whole.1 C.whole.2,
      leaves manual_rounds area.Log 1 0 C.whole.0 C.whole.3,
      manual_prints,
    )
