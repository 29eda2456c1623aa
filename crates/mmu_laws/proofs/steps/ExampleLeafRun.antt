-- The run in which two faults come to one absent leaf, by computation.
use lib.Count.{count_trailing_zeros}
use Rattle.std.proofs.Common.{ℕ, List, ◌≡◌, [], ◌∷◌, refl, arith, lit<, lit≤, ◌++◌}
use Rattle.std.proofs.lemmas.Fmt.{decimal_digit}
use Rattle.std.proofs.lemmas.List.Elements.{All-cons, All-nil}
use Rattle.std.specs.Prelude.{All, true, codes}
use Rattle.core_views.specs.declared.place.AccessPlace.TheVariants.{Fault}
use Rattle.core_views.specs.declared.place.FaultPlace.TheVariants.{Leaf, Unshare}
use Rattle.core_views.specs.declared.place.Place.{Place}
use Rattle.core_views.specs.declared.place.Place.TheVariants.{Access}
use Rattle.core_views.specs.Text.{line_text, text}
use Rattle.spte_words.specs.declared.area.Area.TheVariants as area
use Rattle.spte_words.specs.Areas.{content_index, place, pool_index}
use Rattle.spte_words.specs.Entries.{absent_word, can_write, frame_in, frozen_word, is_leaf_at, kind_of, leaf_word, level_span, mapped_frame, table_word}
use Rattle.spte_words.specs.Flags.{flags_live, flags_logged, flags_read_only, flags_word}
use Rattle.spte_words.specs.HostWords.{host_allows_write, host_frame, host_level, host_present, host_word}
use Rattle.part_steps.specs.TopicSteps.{topics_after}
use Rattle.mmu_core.specs.forms.access.Cached.{flushed}
use Rattle.mmu_core.specs.machine.View.{View}
use Rattle.mmu_core.proofs.start.StartViews.{start_view}
use Rattle.mmu_laws.specs.steps.ExampleLeaf.{ExampleLeaf, early_line, late_end, late_line, leaf_events, leaf_lines, table_line}
use Rattle.mmu_laws.specs.steps.ExampleSteps.{RunStands, run_sizes, set_line}
use Rattle.mmu_laws.proofs.steps.ComputedRuns.{May, run_delays, run_leaves, run_stands}
use Rattle.mmu_laws.proofs.steps.Decimals.{two_digits}
use Rattle.mmu_laws.proofs.steps.ExampleRun.{may_set, run_in_range}
use Rattle.mmu_laws.proofs.steps.FoldedRuns.{fits_all, leads_all, steps_of, tells_all, turns}

-- the start, and where a line stands after these rounds
abbrev begun : View
begun = start_view run_sizes leaf_lines

abbrev place_after : List (ℕ × List ℕ) → ℕ → Place
place_after rounds actor = ((leads_all rounds begun).hand actor).state.place

-- the rounds
abbrev rounds_to_share : List (ℕ × List ℕ)
rounds_to_share = steps_of 524 3 ∷ steps_of 1581 0 ∷ steps_of 24 1 ∷ steps_of 24 0 ∷ []

abbrev rounds_to_find : ℕ → List (ℕ × List ℕ)
rounds_to_find steps = rounds_to_share ++ (steps_of 12 0 ∷ steps_of steps 1 ∷ [])

-- where both share the lock
shares :
    (fits_all run_sizes rounds_to_share begun ≡ true)
    × ((leads_all rounds_to_share begun).words area.Lock 0 ≡ 2)
    × ◌≡◌ {A = Place} (place_after rounds_to_share 0) (Access (Fault (Leaf true)))
    × ◌≡◌ {A = Place} (place_after rounds_to_share 1) (Access (Fault (Leaf true)))
unfolding flushed topics_after place kind_of level_span table_word frozen_word content_index pool_index absent_word frame_in mapped_frame leaf_word flags_live
    flags_read_only flags_word host_allows_write host_frame host_present host_level host_word can_write is_leaf_at flags_logged count_trailing_zeros
shares = (refl, refl, refl, refl)

-- where the second one's exchange is lost
loses : (fits_all run_sizes (rounds_to_find 1) begun ≡ true) × ◌≡◌ {A = Place} (place_after (rounds_to_find 1) 1) (Access (Fault (Unshare late_end)))
unfolding flushed topics_after place kind_of level_span table_word frozen_word content_index pool_index absent_word frame_in mapped_frame leaf_word flags_live
    flags_read_only flags_word host_allows_write host_frame host_present host_level host_word can_write is_leaf_at flags_logged count_trailing_zeros
loses = (refl, refl)

-- the whole run
whole :
    (fits_all run_sizes (rounds_to_find 12) begun ≡ true)
    × (tells_all (rounds_to_find 12) begun ≡ leaf_events)
    × (((leads_all (rounds_to_find 12) begun).hand 1).state.delays ≡ 1)
unfolding flushed topics_after place kind_of level_span table_word frozen_word content_index pool_index absent_word frame_in mapped_frame leaf_word flags_live
    flags_read_only flags_word host_allows_write host_frame host_present host_level host_word can_write is_leaf_at flags_logged count_trailing_zeros
whole = (refl, refl, refl)

leaf_allowed : All (May run_sizes) leaf_lines
leaf_allowed =
    All-cons (May run_sizes) set_line (table_line ∷ late_line ∷ early_line ∷ []) may_set
    (All-cons (May run_sizes) table_line (late_line ∷ early_line ∷ []) (omega arith, omega arith, omega arith, omega arith)
    (All-cons (May run_sizes) late_line (early_line ∷ []) (omega arith, omega arith, omega arith, omega arith)
    (All-cons (May run_sizes) early_line [] (omega arith, omega arith, omega arith, omega arith) (All-nil (May run_sizes)))))

leaf_prints : text leaf_events ≡ codes "2 vm done\n3 v0 frame 66 value 0\n5 v0 frame 65 value 0\n4 v1 frame 65 value 9\n"
unfolding line_text
leaf_prints = simp (
  decimal_digit 0 (lit< tt),
  decimal_digit 1 (lit< tt),
  decimal_digit 2 (lit< tt),
  decimal_digit 3 (lit< tt),
  decimal_digit 4 (lit< tt),
  decimal_digit 5 (lit< tt),
  decimal_digit 9 (lit< tt),
  two_digits 65 (lit≤ tt) (lit< tt),
  two_digits 66 (lit≤ tt) (lit< tt),
)

stands : (rounds : List (ℕ × List ℕ)) (actor : ℕ) (p : Place) → fits_all run_sizes rounds begun ≡ true → place_after rounds actor ≡ p
    → RunStands run_sizes leaf_lines (turns rounds) actor p
stands rounds actor p = run_stands run_sizes leaf_lines rounds actor p run_in_range leaf_allowed (omega arith)

pub example_leaf : ExampleLeaf
example_leaf = (
  run_leaves run_sizes leaf_lines rounds_to_share area.Lock 0 2 run_in_range leaf_allowed (omega arith) shares.0 shares.1,
  stands rounds_to_share 0 (Access (Fault (Leaf true))) shares.0 shares.2,
  stands rounds_to_share 1 (Access (Fault (Leaf true))) shares.0 shares.3,
  stands (rounds_to_find 1) 1 (Access (Fault (Unshare late_end))) loses.0 loses.1,
  run_delays run_sizes leaf_lines (rounds_to_find 12) leaf_events 1 1 run_in_range leaf_allowed (omega arith) whole.0 whole.1 whole.2,
  leaf_prints,
)
