-- The run in which a worker finds no large leaf to split, by computation.
use lib.Count.{count_trailing_zeros}
use Rattle.std.proofs.Common.{ℕ, List, ◌≡◌, [], ◌∷◌, refl, arith, lit<, lit≤}
use Rattle.std.proofs.lemmas.Fmt.{decimal_digit}
use Rattle.std.proofs.lemmas.List.Elements.{All-cons, All-nil}
use Rattle.std.specs.Prelude.{All, true, codes}
use Rattle.core_views.specs.declared.place.Place.{Place}
use Rattle.core_views.specs.declared.place.Place.TheVariants as at
use Rattle.core_views.specs.declared.place.SplitEnd.TheVariants.{Nothing}
use Rattle.core_views.specs.declared.place.SplitPlace.TheVariants.{Unshare}
use Rattle.core_views.specs.Sizes.{AreSizes}
use Rattle.core_views.specs.Text.{line_text, text}
use Rattle.spte_words.specs.declared.area.Area.TheVariants as area
use Rattle.spte_words.specs.Areas.{content_index, place, pool_index}
use Rattle.spte_words.specs.Entries.{absent_word, can_write, frame_in, frozen_word, is_leaf_at, kind_of, leaf_word, level_span, mapped_frame, table_word}
use Rattle.spte_words.specs.Flags.{flags_live, flags_logged, flags_read_only, flags_word}
use Rattle.spte_words.specs.HostWords.{host_allows_write, host_frame, host_level, host_present, host_word}
use Rattle.part_steps.specs.TopicSteps.{topics_after}
use Rattle.mmu_core.specs.forms.access.Cached.{flushed}
use Rattle.mmu_core.specs.machine.View.{View}
use Rattle.mmu_core.proofs.start.StartViews.{start_view}
use Rattle.mmu_laws.specs.steps.ExampleSplit.{ExampleSplit, early_split, late_split, split_events, split_lines, split_sizes, table_line}
use Rattle.mmu_laws.specs.steps.ExampleSteps.{RunStands, set_line}
use Rattle.mmu_laws.proofs.steps.ComputedRuns.{May, run_leaves, run_stands, run_tells}
use Rattle.mmu_laws.proofs.steps.Decimals.{two_digits}
use Rattle.mmu_laws.proofs.steps.ExampleRun.{run_in_range}
use Rattle.mmu_laws.proofs.steps.FoldedRuns.{fits_all, leads_all, steps_of, tells_all, turns}

-- the start, and where a line stands after these rounds
abbrev begun : View
begun = start_view split_sizes split_lines

abbrev place_after : List (ℕ × List ℕ) → Place
place_after rounds = ((leads_all rounds begun).hand 4).state.place

-- the rounds
abbrev rounds_to_absent : ℕ → List (ℕ × List ℕ)
rounds_to_absent steps = steps_of 525 3 ∷ steps_of steps 4 ∷ []

abbrev rounds_to_leaf : ℕ → List (ℕ × List ℕ)
rounds_to_leaf steps = steps_of 525 3 ∷ steps_of 6 4 ∷ steps_of 1581 0 ∷ steps_of steps 4 ∷ []

-- where the root's entry is absent
absent :
    (fits_all split_sizes (rounds_to_absent 4) begun ≡ true)
    × ((leads_all (rounds_to_absent 4) begun).words area.Lock 0 ≡ 1)
    × ◌≡◌ {A = Place} (place_after (rounds_to_absent 4)) (at.Split (Unshare (Nothing absent_word)))
unfolding flushed topics_after place kind_of level_span table_word frozen_word content_index pool_index absent_word frame_in mapped_frame leaf_word flags_live
    flags_read_only flags_word host_allows_write host_frame host_present host_level host_word can_write is_leaf_at flags_logged count_trailing_zeros
absent = (refl, refl, refl)

-- where the frame has a small leaf
leaf :
    (fits_all split_sizes (rounds_to_leaf 7) begun ≡ true)
    × ((leads_all (rounds_to_leaf 7) begun).words area.Lock 0 ≡ 1)
    × ◌≡◌ {A = Place} (place_after (rounds_to_leaf 7)) (at.Split (Unshare (Nothing (leaf_word 1 65 true true true))))
unfolding flushed topics_after place kind_of level_span table_word frozen_word content_index pool_index absent_word frame_in mapped_frame leaf_word flags_live
    flags_read_only flags_word host_allows_write host_frame host_present host_level host_word can_write is_leaf_at flags_logged count_trailing_zeros
leaf = (refl, refl, refl)

-- the whole run
whole :
    (fits_all split_sizes (rounds_to_leaf 9) begun ≡ true)
    × (tells_all (rounds_to_leaf 9) begun ≡ split_events)
    × ((leads_all (rounds_to_leaf 9) begun).words area.Lock 0 ≡ 0)
unfolding flushed topics_after place kind_of level_span table_word frozen_word content_index pool_index absent_word frame_in mapped_frame leaf_word flags_live
    flags_read_only flags_word host_allows_write host_frame host_present host_level host_word can_write is_leaf_at flags_logged count_trailing_zeros
whole = (refl, refl, refl)

split_in_range : AreSizes split_sizes
split_in_range = record {
  actors = record { vcpus = omega arith; hosts = omega arith; workers = omega arith };
  some = run_in_range.some;
  pages = run_in_range.pages;
  frames = run_in_range.frames;
  words = run_in_range.words;
  content = run_in_range.content;
  pool = run_in_range.pool;
  cache = run_in_range.cache;
  firsts = run_in_range.firsts;
  rising = record { each = run_in_range.rising.each };
}

split_allowed : All (May split_sizes) split_lines
split_allowed =
    All-cons (May split_sizes) set_line (early_split ∷ table_line ∷ late_split ∷ [])
    (record { some = omega arith; pages = omega arith; base = omega arith; host = omega arith; aligned = omega arith })
    (All-cons (May split_sizes) early_split (table_line ∷ late_split ∷ []) (omega arith, omega arith)
    (All-cons (May split_sizes) table_line (late_split ∷ []) (omega arith, omega arith, omega arith, omega arith)
    (All-cons (May split_sizes) late_split [] (omega arith, omega arith) (All-nil (May split_sizes)))))

split_prints : text split_events ≡ codes "2 vm done\n3 w0 done\n4 v0 frame 65 value 0\n5 w0 done\n"
unfolding line_text
split_prints = simp (
  decimal_digit 0 (lit< tt),
  decimal_digit 2 (lit< tt),
  decimal_digit 3 (lit< tt),
  decimal_digit 4 (lit< tt),
  decimal_digit 5 (lit< tt),
  two_digits 65 (lit≤ tt) (lit< tt),
)

stands : (rounds : List (ℕ × List ℕ)) (p : Place) → fits_all split_sizes rounds begun ≡ true → place_after rounds ≡ p
    → RunStands split_sizes split_lines (turns rounds) 4 p
stands rounds p = run_stands split_sizes split_lines rounds 4 p split_in_range split_allowed (omega arith)

pub example_split : ExampleSplit
example_split = (
  run_leaves split_sizes split_lines (rounds_to_absent 4) area.Lock 0 1 split_in_range split_allowed (omega arith) absent.0 absent.1,
  stands (rounds_to_absent 4) (at.Split (Unshare (Nothing absent_word))) absent.0 absent.2,
  run_leaves split_sizes split_lines (rounds_to_leaf 7) area.Lock 0 1 split_in_range split_allowed (omega arith) leaf.0 leaf.1,
  stands (rounds_to_leaf 7) (at.Split (Unshare (Nothing (leaf_word 1 65 true true true)))) leaf.0 leaf.2,
  run_tells split_sizes split_lines (rounds_to_leaf 9) split_events split_in_range split_allowed (omega arith) whole.0 whole.1,
  run_leaves split_sizes split_lines (rounds_to_leaf 9) area.Lock 0 0 split_in_range split_allowed (omega arith) whole.0 whole.2,
  split_prints,
)
