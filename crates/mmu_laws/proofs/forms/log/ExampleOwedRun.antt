-- The run in which two processors come to one leaf, and a get between write and mark leaves the page out, by computation.
use lib.Count.{count_trailing_zeros}
use Rattle.std.proofs.Common.{ℕ, List, ◌≡◌, [], ◌∷◌, ◌++◌, refl, arith}
use Rattle.std.proofs.lemmas.List.Elements.{All-cons, All-nil}
use Rattle.std.specs.Fmt.{digits}
use Rattle.std.specs.Prelude.{All, true, false, codes}
use Rattle.core_views.specs.declared.place.AccessPlace.TheVariants.{Fault}
use Rattle.core_views.specs.declared.place.FaultPlace.TheVariants.{Fix, Mark}
use Rattle.core_views.specs.declared.place.LogPlace.TheVariants.{Await}
use Rattle.core_views.specs.declared.place.Place.{Place}
use Rattle.core_views.specs.declared.place.Place.TheVariants.{Access, Log}
use Rattle.core_views.specs.LogCommands.{words_of}
use Rattle.core_views.specs.Text.{line_text, text}
use Rattle.spte_words.specs.declared.area.Area.{Area}
use Rattle.spte_words.specs.declared.area.Area.TheVariants as area
use Rattle.spte_words.specs.Areas.{content_index, place, pool_index}
use Rattle.spte_words.specs.Entries.{absent_word, can_write, frame_in, frozen_word, is_leaf_at, kind_of, leaf_word, level_span, mapped_frame}
use Rattle.spte_words.specs.Entries.{table_word, with_write, without_write, host_writable, mmu_writable}
use Rattle.spte_words.specs.Flags.{flags_live, flags_logged, flags_read_only, flags_word}
use Rattle.spte_words.specs.HostWords.{host_allows_write, host_frame, host_level, host_present, host_word}
use Rattle.part_steps.specs.TopicSteps.{topics_after}
use Rattle.mmu_core.specs.forms.access.Cached.{flushed}
use Rattle.mmu_core.specs.machine.View.{View}
use Rattle.mmu_core.proofs.start.StartViews.{start_view}
use Rattle.mmu_laws.specs.forms.log.ExampleOwed.{ExampleOwed, answered_line, cached_line, events_to_mark, get_beside, get_next, get_put, log_early}
use Rattle.mmu_laws.specs.forms.log.ExampleOwed.{owed_events, owed_lines, owing_line, put_logged}
use Rattle.mmu_laws.specs.steps.ExampleSteps.{RunLeaves, RunStands, run_sizes, set_line}
use Rattle.mmu_laws.proofs.steps.ComputedRuns.{May, run_delays, run_leaves, run_stands}
use Rattle.mmu_laws.proofs.steps.ExampleRun.{may_set, run_in_range}
use Rattle.mmu_laws.proofs.steps.FoldedRuns.{fits_all, leads_all, steps_of, tells_all, turns}

-- the start; what words hold, where lines stand and what is counted after these rounds
abbrev begun : View
begun = start_view run_sizes owed_lines

abbrev word_after : List (ℕ × List ℕ) → Area → ℕ → ℕ
word_after rounds a index = (leads_all rounds begun).words a index

abbrev place_after : List (ℕ × List ℕ) → ℕ → Place
place_after rounds actor = ((leads_all rounds begun).hand actor).state.place

abbrev delays_after : List (ℕ × List ℕ) → ℕ → ℕ
delays_after rounds actor = ((leads_all rounds begun).hand actor).state.delays

-- the rounds
abbrev rounds_to_take : ℕ → List (ℕ × List ℕ)
rounds_to_take steps = steps_of 524 3 ∷ steps_of 533 3 ∷ steps_of 1582 0 ∷ steps_of steps 3 ∷ []

abbrev rounds_to_meet : ℕ → List (ℕ × List ℕ)
rounds_to_meet steps = rounds_to_take 13 ++ (steps_of 19 1 ∷ steps_of 20 0 ∷ steps_of steps 1 ∷ [])

abbrev rounds_to_await : ℕ → List (ℕ × List ℕ)
rounds_to_await steps = rounds_to_meet 13 ++ (steps_of steps 3 ∷ [])

abbrev rounds_to_mark : ℕ → List (ℕ × List ℕ)
rounds_to_mark steps = rounds_to_await 8 ++ (steps_of 2 1 ∷ steps_of 1 3 ∷ steps_of steps 0 ∷ [])

abbrev owed_rounds : List (ℕ × List ℕ)
owed_rounds = rounds_to_mark 11 ++ (steps_of 13 3 ∷ [])

-- The checkpoints of the run: what holds after so many of its steps.
record Checkpoints : Type 0 where
  -- where the first get has forbidden writes
  forbids :
      (fits_all run_sizes (rounds_to_take 8) begun ≡ true)
      × (word_after (rounds_to_take 8) area.Pool (pool_index 4 6) ≡ leaf_word 1 65 false true true)
  -- where one processor has allowed them again, and the other one is to try
  meets :
      (fits_all run_sizes (rounds_to_meet 0) begun ≡ true)
      × ◌≡◌ {A = Place} (place_after (rounds_to_meet 0) 0) (Access (Fault (Mark true)))
      × ◌≡◌ {A = Place} (place_after (rounds_to_meet 0) 1) (Access (Fault Fix))
      × (word_after (rounds_to_meet 0) area.Pool (pool_index 4 6) ≡ leaf_word 1 65 true true true)
  -- where the second get waits
  awaits :
      (fits_all run_sizes (rounds_to_await 8) begun ≡ true)
      × ◌≡◌ {A = Place} (place_after (rounds_to_await 8) 3) (Log Await)
      × (word_after (rounds_to_await 8) area.State 0 ≡ 6)
      × (word_after (rounds_to_await 8) area.State 1 ≡ 7)
  -- where it is answered
  leaves_out :
      (fits_all run_sizes (rounds_to_mark 0) begun ≡ true)
      × (tells_all (rounds_to_mark 0) begun ≡ events_to_mark)
      × (delays_after (rounds_to_mark 0) 3 ≡ 1)
      × ◌≡◌ {A = Place} (place_after (rounds_to_mark 0) 0) (Access (Fault (Mark true)))
      × (word_after (rounds_to_mark 0) area.Log 1 ≡ 0)
      × (word_after (rounds_to_mark 0) area.Pool (pool_index 4 6) ≡ leaf_word 1 65 true true true)
  -- where the page is marked
  marks : (fits_all run_sizes (rounds_to_mark 1) begun ≡ true) × (word_after (rounds_to_mark 1) area.Log 1 ≡ 2)
  -- the whole run
  whole :
      (fits_all run_sizes owed_rounds begun ≡ true)
      × (tells_all owed_rounds begun ≡ owed_events)
      × (delays_after owed_rounds 3 ≡ 0)
      × (word_after owed_rounds area.Log 1 ≡ 0)
      × (word_after owed_rounds area.Pool (pool_index 4 6) ≡ leaf_word 1 65 false true true)

checkpoints : Checkpoints
unfolding flushed topics_after place kind_of level_span table_word frozen_word content_index pool_index absent_word frame_in mapped_frame leaf_word flags_live
    flags_read_only flags_word host_allows_write host_frame host_present host_level host_word can_write is_leaf_at flags_logged count_trailing_zeros
    without_write with_write host_writable mmu_writable
checkpoints = record {
  forbids = (refl, refl);
  meets = (refl, refl, refl, refl);
  awaits = (refl, refl, refl, refl);
  leaves_out = (refl, refl, refl, refl, refl, refl);
  marks = (refl, refl);
  whole = (refl, refl, refl, refl, refl);
}

owed_allowed : All (May run_sizes) owed_lines
owed_allowed =
    All-cons (May run_sizes) set_line (log_early ∷ put_logged ∷ get_put ∷ owing_line ∷ answered_line ∷ cached_line ∷ get_beside ∷ get_next ∷ []) may_set
    (All-cons (May run_sizes) log_early (put_logged ∷ get_put ∷ owing_line ∷ answered_line ∷ cached_line ∷ get_beside ∷ get_next ∷ []) tt
    (All-cons (May run_sizes) put_logged (get_put ∷ owing_line ∷ answered_line ∷ cached_line ∷ get_beside ∷ get_next ∷ [])
    (omega arith, omega arith, omega arith, omega arith)
    (All-cons (May run_sizes) get_put (owing_line ∷ answered_line ∷ cached_line ∷ get_beside ∷ get_next ∷ []) tt
    (All-cons (May run_sizes) owing_line (answered_line ∷ cached_line ∷ get_beside ∷ get_next ∷ []) (omega arith, omega arith, omega arith, omega arith)
    (All-cons (May run_sizes) answered_line (cached_line ∷ get_beside ∷ get_next ∷ []) (omega arith, omega arith, omega arith, omega arith)
    (All-cons (May run_sizes) cached_line (get_beside ∷ get_next ∷ []) (omega arith, omega arith, omega arith, omega arith)
    (All-cons (May run_sizes) get_beside (get_next ∷ []) tt
    (All-cons (May run_sizes) get_next [] tt (All-nil (May run_sizes))))))))))

owed_prints : text owed_events
    ≡ codes "2 vm done\n3 vm done\n4 v0 frame 65 value 0\n5 vm bits 0x2\n7 v1 frame 65 value 7\n8 v1 frame 65 value 5\n"
    ++ codes "9 vm bits 0x0\n6 v0 frame 65 value 6\n10 vm bits 0x2\n"
unfolding line_text digits words_of
owed_prints = refl

leaves : (rounds : List (ℕ × List ℕ)) (a : Area) (index value : ℕ) → fits_all run_sizes rounds begun ≡ true → word_after rounds a index ≡ value
    → RunLeaves run_sizes owed_lines (turns rounds) a index value
leaves rounds a index value = run_leaves run_sizes owed_lines rounds a index value run_in_range owed_allowed (omega arith)

stands : (rounds : List (ℕ × List ℕ)) (actor : ℕ) (p : Place) → fits_all run_sizes rounds begun ≡ true → place_after rounds actor ≡ p
    → RunStands run_sizes owed_lines (turns rounds) actor p
stands rounds actor p = run_stands run_sizes owed_lines rounds actor p run_in_range owed_allowed (omega arith)

pub example_owed : ExampleOwed
example_owed =
    let C : Checkpoints = checkpoints in (
      leaves (rounds_to_take 8) area.Pool (pool_index 4 6) (leaf_word 1 65 false true true) C.forbids.0 C.forbids.1,
      stands (rounds_to_meet 0) 0 (Access (Fault (Mark true))) C.meets.0 C.meets.1,
      stands (rounds_to_meet 0) 1 (Access (Fault Fix)) C.meets.0 C.meets.2,
      leaves (rounds_to_meet 0) area.Pool (pool_index 4 6) (leaf_word 1 65 true true true) C.meets.0 C.meets.3,
      stands (rounds_to_await 8) 3 (Log Await) C.awaits.0 C.awaits.1,
      leaves (rounds_to_await 8) area.State 0 6 C.awaits.0 C.awaits.2,
      leaves (rounds_to_await 8) area.State 1 7 C.awaits.0 C.awaits.3,
      run_delays run_sizes owed_lines (rounds_to_mark 0) events_to_mark 3 1 run_in_range owed_allowed (omega arith)
          C.leaves_out.0 C.leaves_out.1 C.leaves_out.2,
      stands (rounds_to_mark 0) 0 (Access (Fault (Mark true))) C.leaves_out.0 C.leaves_out.3,
      leaves (rounds_to_mark 0) area.Log 1 0 C.leaves_out.0 C.leaves_out.4,
      leaves (rounds_to_mark 0) area.Pool (pool_index 4 6) (leaf_word 1 65 true true true) C.leaves_out.0 C.leaves_out.5,
      leaves (rounds_to_mark 1) area.Log 1 2 C.marks.0 C.marks.1,
      run_delays run_sizes owed_lines owed_rounds owed_events 3 0 run_in_range owed_allowed (omega arith) C.whole.0 C.whole.1 C.whole.2,
      leaves owed_rounds area.Log 1 0 C.whole.0 C.whole.3,
      leaves owed_rounds area.Pool (pool_index 4 6) (leaf_word 1 65 false true true) C.whole.0 C.whole.4,
      owed_prints,
    )
