-- The run in which a host thread forbids writes to a page and allows them again, by computation.
use Rattle.part_steps.specs.TopicSteps.{topics_after}
use Rattle.std.proofs.lemmas.Fmt.{decimal_digit}
use Rattle.std.proofs.lemmas.List.Elements.{All-cons, All-nil}
use Rattle.mmu_core.specs.forms.access.Cached.{flushed}
use Rattle.std.proofs.Common.{ℕ, List, ◌≡◌, [], ◌∷◌, refl, arith, lit<, lit≤, ◌++◌}
use Rattle.std.specs.Prelude.{All, true, false, codes}
use Rattle.spte_words.specs.Areas.{content_index, place, pool_index}
use Rattle.spte_words.specs.Entries.{absent_word, can_write, frame_in, frozen_word, is_leaf_at, kind_of, leaf_word, level_span, mapped_frame, table_word}
use Rattle.spte_words.specs.Flags.{flags_live, flags_logged, flags_read_only, flags_word}
use Rattle.spte_words.specs.HostWords.{host_allows_write, host_frame, host_level, host_present, host_word}
use lib.Count.{count_trailing_zeros}
use Rattle.core_views.specs.Text.{line_text, text}
use Rattle.core_views.specs.declared.event.Event.{Event}
use Rattle.mmu_laws.specs.steps.ExampleHost.{write_first}
use Rattle.mmu_laws.specs.steps.ExampleProtect.{ExampleProtect, allow_again, denied_line, events_to_fault}
use Rattle.mmu_laws.specs.steps.ExampleProtect.{protect_events, protect_line, protect_lines, write_again}
use Rattle.spte_words.specs.declared.area.Area.{Area}
use Rattle.spte_words.specs.declared.area.Area.TheVariants as area
use Rattle.mmu_laws.specs.steps.ExampleSteps.{RunDelays, RunLeaves, run_sizes, set_line}
use Rattle.mmu_laws.proofs.steps.ExampleRun.{may_set, run_in_range}
use Rattle.mmu_laws.proofs.steps.ComputedRuns.{May, run_delays, run_leaves}
use Rattle.mmu_laws.proofs.steps.Decimals.{two_digits}
use Rattle.mmu_laws.proofs.steps.FoldedRuns.{fits_all, leads_all, steps_of, tells_all, turns}
use Rattle.mmu_core.specs.machine.View.{View}
use Rattle.mmu_core.proofs.start.StartViews.{start_view}

-- the start, and what hands have counted and words hold after these rounds
abbrev begun : View
begun = start_view run_sizes protect_lines

abbrev delays_after : List (ℕ × List ℕ) → ℕ → ℕ
delays_after rounds actor = ((leads_all rounds begun).hand actor).state.delays

abbrev word_after : List (ℕ × List ℕ) → Area → ℕ → ℕ
word_after rounds a index = (leads_all rounds begun).words a index

-- the rounds
abbrev rounds_to_protect : ℕ → List (ℕ × List ℕ)
rounds_to_protect steps = steps_of 524 3 ∷ steps_of 13 1 ∷ steps_of 1581 0 ∷ steps_of steps 2 ∷ []

abbrev rounds_to_fault : List (ℕ × List ℕ)
rounds_to_fault = rounds_to_protect 29 ++ (steps_of 22 1 ∷ [])

abbrev rounds_to_allow : List (ℕ × List ℕ)
rounds_to_allow = rounds_to_fault ++ (steps_of 28 2 ∷ [])

abbrev protect_rounds : List (ℕ × List ℕ)
protect_rounds = rounds_to_allow ++ (steps_of 36 1 ∷ [])

-- The checkpoints of the run: what holds after so many of its steps.
record Checkpoints : Type 0 where
  -- before the leaf is zapped
  before_zap :
      (fits_all run_sizes (rounds_to_protect 16) begun ≡ true)
      × (word_after (rounds_to_protect 16) area.Pool (pool_index 4 6) ≡ leaf_word 1 65 true true true)
  -- after it
  zapped :
      (fits_all run_sizes (rounds_to_protect 17) begun ≡ true)
      × (word_after (rounds_to_protect 17) area.Pool (pool_index 4 6) ≡ 0)
  -- where the host word forbids writes
  forbidden :
      (fits_all run_sizes (rounds_to_protect 29) begun ≡ true)
      × (word_after (rounds_to_protect 29) area.Host 65 ≡ host_word 65 true false 1)
  -- up to the fault that the host word ends
  faulted :
      (fits_all run_sizes rounds_to_fault begun ≡ true)
      × (tells_all rounds_to_fault begun ≡ events_to_fault)
      × (delays_after rounds_to_fault 1 ≡ 1)
  -- where the host word allows writes again
  allowed :
      (fits_all run_sizes rounds_to_allow begun ≡ true)
      × (word_after rounds_to_allow area.Host 65 ≡ host_word 65 true true 1)
  -- the whole run
  whole :
      (fits_all run_sizes protect_rounds begun ≡ true)
      × (tells_all protect_rounds begun ≡ protect_events)
      × (delays_after protect_rounds 1 ≡ 0)
      × (word_after protect_rounds area.Pool (pool_index 4 6) ≡ leaf_word 1 65 true true true)
      × (word_after protect_rounds area.Seq 0 ≡ 2)
      × (word_after protect_rounds area.Count 0 ≡ 0)

checkpoints : Checkpoints
unfolding flushed topics_after place kind_of level_span table_word frozen_word content_index pool_index absent_word frame_in mapped_frame leaf_word flags_live
    flags_read_only flags_word host_allows_write host_frame host_present host_level host_word can_write is_leaf_at flags_logged count_trailing_zeros
checkpoints = record {
  before_zap = (refl, refl);
  zapped = (refl, refl);
  forbidden = (refl, refl);
  faulted = (refl, refl, refl);
  allowed = (refl, refl);
  whole = (refl, refl, refl, refl, refl, refl);
}

protect_allowed : All (May run_sizes) protect_lines
protect_allowed =
    All-cons (May run_sizes) set_line (write_first ∷ denied_line ∷ protect_line ∷ allow_again ∷ write_again ∷ []) may_set
    (All-cons (May run_sizes) write_first (denied_line ∷ protect_line ∷ allow_again ∷ write_again ∷ []) (omega arith, omega arith, omega arith, omega arith)
    (All-cons (May run_sizes) denied_line (protect_line ∷ allow_again ∷ write_again ∷ []) (omega arith, omega arith, omega arith, omega arith)
    (All-cons (May run_sizes) protect_line (allow_again ∷ write_again ∷ []) (omega arith)
    (All-cons (May run_sizes) allow_again (write_again ∷ []) (omega arith)
    (All-cons (May run_sizes) write_again [] (omega arith, omega arith, omega arith, omega arith) (All-nil (May run_sizes)))))))

protect_prints : text protect_events ≡ codes "2 vm done\n3 v0 frame 65 value 0\n5 h0 done\n4 v1 hostfault\n6 h0 done\n7 v1 frame 65 value 7\n"
unfolding line_text
protect_prints =
    simp (
      decimal_digit 0 (lit< tt),
      decimal_digit 1 (lit< tt),
      decimal_digit 2 (lit< tt),
      decimal_digit 3 (lit< tt),
      decimal_digit 4 (lit< tt),
      decimal_digit 5 (lit< tt),
      decimal_digit 6 (lit< tt),
      decimal_digit 7 (lit< tt),
      two_digits 65 (lit≤ tt) (lit< tt),
    )

-- That these actors in turn tell this, and what one of them has counted then; and what a word holds after them.
counts : (rounds : List (ℕ × List ℕ)) (events : List Event) (actor delays : ℕ) → fits_all run_sizes rounds begun ≡ true → tells_all rounds begun ≡ events
    → delays_after rounds actor ≡ delays → RunDelays run_sizes protect_lines (turns rounds) events actor delays
counts rounds events actor delays = run_delays run_sizes protect_lines rounds events actor delays run_in_range protect_allowed (omega arith)

leaves : (rounds : List (ℕ × List ℕ)) (a : Area) (index value : ℕ) → fits_all run_sizes rounds begun ≡ true → word_after rounds a index ≡ value
    → RunLeaves run_sizes protect_lines (turns rounds) a index value
leaves rounds a index value = run_leaves run_sizes protect_lines rounds a index value run_in_range protect_allowed (omega arith)

pub example_protect : ExampleProtect
example_protect = (
  counts rounds_to_fault events_to_fault 1 1 checkpoints.faulted.0 checkpoints.faulted.1 checkpoints.faulted.2,
  counts protect_rounds protect_events 1 0 checkpoints.whole.0 checkpoints.whole.1 checkpoints.whole.2,
  leaves (rounds_to_protect 16) area.Pool (pool_index 4 6) (leaf_word 1 65 true true true) checkpoints.before_zap.0 checkpoints.before_zap.1,
  leaves (rounds_to_protect 17) area.Pool (pool_index 4 6) 0 checkpoints.zapped.0 checkpoints.zapped.1,
  leaves (rounds_to_protect 29) area.Host 65 (host_word 65 true false 1) checkpoints.forbidden.0 checkpoints.forbidden.1,
  leaves rounds_to_allow area.Host 65 (host_word 65 true true 1) checkpoints.allowed.0 checkpoints.allowed.1,
  leaves protect_rounds area.Pool (pool_index 4 6) (leaf_word 1 65 true true true) checkpoints.whole.0 checkpoints.whole.3,
  leaves protect_rounds area.Seq 0 2 checkpoints.whole.0 checkpoints.whole.4,
  leaves protect_rounds area.Count 0 0 checkpoints.whole.0 checkpoints.whole.5,
  protect_prints,
)
