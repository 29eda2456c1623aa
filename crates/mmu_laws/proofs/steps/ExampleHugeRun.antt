-- The run of a host thread that maps pages as one large page, and by themselves again, by computation.
use Rattle.part_steps.specs.TopicSteps.{topics_after}
use Rattle.std.proofs.lemmas.List.Elements.{All-cons, All-nil}
use Rattle.mmu_core.specs.forms.access.Cached.{flushed}
use Rattle.std.proofs.Common.{◌≡◌, ◌≤◌, [], ◌∷◌, ◌∙◌, ap, refl, arith, lit<, List, ℕ}
use Rattle.std.proofs.lemmas.Fmt.{decimal_digit}
use Rattle.std.specs.Prelude.{All, true, codes}
use Rattle.core_views.specs.declared.actor.Actor.TheVariants.{Host, Manager}
use Rattle.core_views.specs.declared.answer.Answer.TheVariants.{Done, Refused}
use Rattle.core_views.specs.declared.answer.AnsweredLine.{AnsweredLine}
use Rattle.core_views.specs.declared.answer.Refusal.TheVariants.{IsHuge, NotAligned}
use Rattle.core_views.specs.Text.{answers_of, line_text, lines_text}
use Rattle.core_views.specs.Sizes.{AreSizes}
use Rattle.core_views.proofs.HeaderSizes.{four}
use Rattle.spte_words.specs.Areas.{content_index, place, pool_index}
use Rattle.spte_words.specs.Entries.{absent_word, can_write, frame_in, frozen_word, is_leaf_at, kind_of, leaf_word, level_span, mapped_frame, table_word}
use Rattle.spte_words.specs.Flags.{flags_live, flags_logged, flags_read_only, flags_word}
use Rattle.spte_words.specs.HostWords.{host_allows_write, host_frame, host_level, host_present, host_word}
use lib.Count.{count_trailing_zeros}
use Rattle.mmu_laws.specs.steps.ExampleHuge.{ExampleHuge, again_line, aside_line, huge_events, huge_line, huge_lines, huge_sizes, slot_line, split_line}
use Rattle.spte_words.specs.declared.area.Area.{Area}
use Rattle.spte_words.specs.declared.area.Area.TheVariants as area
use Rattle.mmu_laws.specs.steps.ExampleSteps.{RunLeaves}
use Rattle.mmu_laws.proofs.steps.ExampleRun.{firsts_rise}
use Rattle.mmu_laws.proofs.steps.ComputedRuns.{May, run_leaves, run_tells}
use Rattle.mmu_laws.proofs.steps.FoldedRuns.{fits_all, leads_all, steps_of, tells_all, turns}
use Rattle.mmu_core.specs.machine.View.{View}
use Rattle.mmu_core.proofs.start.StartViews.{start_view}

huge_in_range : AreSizes huge_sizes
huge_in_range = record {
  actors = record { vcpus = omega arith; hosts = omega arith; workers = omega arith };
  some = omega arith;
  pages = (omega arith, omega arith);
  frames = (omega arith, omega arith);
  words = (omega arith, omega arith);
  content = omega arith;
  pool = (omega arith, omega arith);
  cache = (omega arith, omega arith);
  firsts = four (λ page. page ≤ 513) 0 513 513 513 (omega arith) (omega arith) (omega arith) (omega arith);
  rising = record { each = firsts_rise 513 };
}

-- the start, and what words hold after so many steps of the host thread
abbrev begun : View
begun = start_view huge_sizes huge_lines

abbrev rounds : ℕ → List (ℕ × List ℕ)
rounds steps = steps_of 524 3 ∷ steps_of steps 2 ∷ []

abbrev word_after : ℕ → Area → ℕ → ℕ
word_after steps a index = (leads_all (rounds steps) begun).words a index

-- The checkpoints of the run: what holds after so many of its steps.
record Checkpoints : Type 0 where
  -- after a hundred changes
  within_run :
      (fits_all huge_sizes (rounds 660) begun ≡ true)
      × (word_after 660 area.Host 99 ≡ host_word 99 true true 2)
      × (word_after 660 area.Host 100 ≡ host_word 100 true true 1)
      × (word_after 660 area.Count 0 ≡ 1)
      × (word_after 660 area.RangeStart 0 ≡ 1024)
      × (word_after 660 area.RangeEnd 0 ≡ 1536)
  -- after the first line
  large :
      (fits_all huge_sizes (rounds 1078) begun ≡ true)
      × (word_after 1078 area.Host 511 ≡ host_word 511 true true 2)
      × (word_after 1078 area.Seq 0 ≡ 1)
  -- the whole run
  whole :
      (fits_all huge_sizes (rounds 2669) begun ≡ true)
      × (tells_all (rounds 2669) begun ≡ huge_events)
      × (word_after 2669 area.Host 511 ≡ host_word 511 true true 1)
      × (word_after 2669 area.Seq 0 ≡ 2)
      × (word_after 2669 area.Count 0 ≡ 0)

checkpoints : Checkpoints
unfolding flushed topics_after place kind_of level_span table_word frozen_word content_index pool_index absent_word frame_in mapped_frame leaf_word flags_live
    flags_read_only flags_word host_allows_write host_frame host_present host_level host_word can_write is_leaf_at flags_logged count_trailing_zeros
checkpoints = record {
  within_run = (refl, refl, refl, refl, refl, refl);
  large = (refl, refl, refl);
  whole = (refl, refl, refl, refl, refl);
}

huge_allowed : All (May huge_sizes) huge_lines
huge_allowed =
    All-cons (May huge_sizes) slot_line (huge_line ∷ again_line ∷ split_line ∷ aside_line ∷ [])
    (record { some = omega arith; pages = omega arith; base = omega arith; host = omega arith; aligned = omega arith })
    (All-cons (May huge_sizes) huge_line (again_line ∷ split_line ∷ aside_line ∷ []) (omega arith, (omega arith, omega arith))
    (All-cons (May huge_sizes) again_line (split_line ∷ aside_line ∷ []) (omega arith, (omega arith, omega arith))
    (All-cons (May huge_sizes) split_line (aside_line ∷ []) (omega arith, tt)
    (All-cons (May huge_sizes) aside_line [] (omega arith, (omega arith, omega arith)) (All-nil (May huge_sizes))))))

-- what the lines are answered, and what that prints
huge_answers : List AnsweredLine
huge_answers =
    record { number = 2; actor = Manager; answer = Done }
    ∷ record { number = 3; actor = Host 0; answer = Done }
    ∷ record { number = 4; actor = Host 0; answer = Refused IsHuge }
    ∷ record { number = 5; actor = Host 0; answer = Done }
    ∷ record { number = 6; actor = Host 0; answer = Refused NotAligned }
    ∷ []

answers_are : answers_of huge_events ≡ huge_answers
unfolding huge_answers
answers_are = refl

answers_print : lines_text huge_answers ≡ codes "2 vm done\n3 h0 done\n4 h0 refused is-huge\n5 h0 done\n6 h0 refused not-aligned\n"
unfolding line_text huge_answers
answers_print = simp (
  decimal_digit 0 (lit< tt),
  decimal_digit 2 (lit< tt),
  decimal_digit 3 (lit< tt),
  decimal_digit 4 (lit< tt),
  decimal_digit 5 (lit< tt),
  decimal_digit 6 (lit< tt),
)

leaves : (steps : ℕ) (a : Area) (index value : ℕ) → fits_all huge_sizes (rounds steps) begun ≡ true → word_after steps a index ≡ value
    → RunLeaves huge_sizes huge_lines (turns (rounds steps)) a index value
leaves steps a index value = run_leaves huge_sizes huge_lines (rounds steps) a index value huge_in_range huge_allowed (omega arith)

pub example_huge : ExampleHuge
example_huge = (
  run_tells huge_sizes huge_lines (rounds 2669) huge_events huge_in_range huge_allowed (omega arith) checkpoints.whole.0 checkpoints.whole.1,
  leaves 660 area.Host 99 (host_word 99 true true 2) checkpoints.within_run.0 checkpoints.within_run.1,
  leaves 660 area.Host 100 (host_word 100 true true 1) checkpoints.within_run.0 checkpoints.within_run.2,
  leaves 660 area.Count 0 1 checkpoints.within_run.0 checkpoints.within_run.3,
  leaves 660 area.RangeStart 0 1024 checkpoints.within_run.0 checkpoints.within_run.4,
  leaves 660 area.RangeEnd 0 1536 checkpoints.within_run.0 checkpoints.within_run.5,
  leaves 1078 area.Host 511 (host_word 511 true true 2) checkpoints.large.0 checkpoints.large.1,
  leaves 1078 area.Seq 0 1 checkpoints.large.0 checkpoints.large.2,
  leaves 2669 area.Host 511 (host_word 511 true true 1) checkpoints.whole.0 checkpoints.whole.2,
  leaves 2669 area.Seq 0 2 checkpoints.whole.0 checkpoints.whole.3,
  leaves 2669 area.Count 0 0 checkpoints.whole.0 checkpoints.whole.4,
  ap lines_text answers_are ∙ answers_print,
)
