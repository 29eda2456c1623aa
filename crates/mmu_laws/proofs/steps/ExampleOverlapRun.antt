-- The run in which the invalidations of two host threads are open at a time, by computation.
use Rattle.core_views.specs.Sizes.{AreSizes, first_page_in}
use Rattle.part_steps.specs.TopicSteps.{topics_after}
use Rattle.std.proofs.lemmas.Fmt.{decimal_digit}
use Rattle.std.proofs.lemmas.Option.{slice_get_past}
use Rattle.std.proofs.lemmas.List.Elements.{All-cons, All-nil}
use Rattle.core_views.proofs.HeaderSizes.{four}
use Rattle.mmu_core.specs.forms.access.Cached.{flushed}
use Rattle.mmu_core.specs.machine.View.{View}
use Rattle.std.proofs.Common.{ℕ, zero, suc, List, ◌≤◌, ◌+◌, ◌≡◌, [], ◌∷◌, refl, ap, arith, lit<, lit≤, ◌++◌}
use Rattle.std.specs.Prelude.{All, Option, true, codes, unwrap_or}
use Rattle.spte_words.specs.Areas.{content_index, place, pool_index}
use Rattle.spte_words.specs.Entries.{absent_word, can_write, frame_in, frozen_word, is_leaf_at, kind_of, leaf_word, level_span, mapped_frame, table_word}
use Rattle.spte_words.specs.Flags.{flags_live, flags_logged, flags_read_only, flags_word}
use Rattle.spte_words.specs.HostWords.{host_allows_write, host_frame, host_level, host_present, host_word}
use lib.Count.{count_trailing_zeros}
use Rattle.core_views.specs.Text.{line_text, text}
use Rattle.core_views.specs.declared.event.Event.{Event}
use Rattle.mmu_laws.specs.steps.ExampleOverlap.{ExampleOverlap, evict_above, events_to_both, events_to_none, events_to_one}
use Rattle.mmu_laws.specs.steps.ExampleOverlap.{overlap_events, overlap_lines, overlap_sizes, protect_below}
use Rattle.mmu_laws.specs.steps.ExampleOverlap.{read_inside}
use Rattle.spte_words.specs.declared.area.Area.{Area}
use Rattle.spte_words.specs.declared.area.Area.TheVariants as area
use Rattle.mmu_laws.specs.steps.ExampleSteps.{RunDelays, RunLeaves, set_line, set_read_only_line}
use Rattle.mmu_laws.proofs.steps.ExampleRun.{may_set}
use Rattle.mmu_laws.proofs.steps.ComputedRuns.{May, run_delays, run_leaves}
use Rattle.mmu_laws.proofs.steps.Decimals.{two_digits}
use Rattle.mmu_laws.proofs.steps.FoldedRuns.{fits_all, leads_all, steps_of, tells_all, turns}
use Rattle.mmu_core.proofs.start.StartViews.{start_view}

-- the start, and what hands have counted and words hold after these rounds
abbrev begun : View
begun = start_view overlap_sizes overlap_lines

abbrev delays_after : List (ℕ × List ℕ) → ℕ → ℕ
delays_after rounds actor = ((leads_all rounds begun).hand actor).state.delays

abbrev word_after : List (ℕ × List ℕ) → Area → ℕ → ℕ
word_after rounds a index = (leads_all rounds begun).words a index

-- the rounds
abbrev rounds_to_first : List (ℕ × List ℕ)
rounds_to_first = steps_of 525 4 ∷ steps_of 10 2 ∷ steps_of 2 3 ∷ steps_of 8 2 ∷ []

abbrev rounds_to_both : List (ℕ × List ℕ)
rounds_to_both = rounds_to_first ++ (steps_of 19 3 ∷ steps_of 19 0 ∷ steps_of 518 4 ∷ [])

abbrev rounds_to_one : List (ℕ × List ℕ)
rounds_to_one = rounds_to_both ++ (steps_of 7 2 ∷ steps_of 19 0 ∷ steps_of 3 4 ∷ [])

abbrev rounds_to_none : List (ℕ × List ℕ)
rounds_to_none = rounds_to_one ++ (steps_of 13 0 ∷ steps_of 7 3 ∷ steps_of 5 0 ∷ [])

abbrev overlap_rounds : List (ℕ × List ℕ)
overlap_rounds = rounds_to_none ++ (steps_of 1581 0 ∷ steps_of 10 4 ∷ [])

-- The checkpoints of the run: what holds after so many of its steps.
record Checkpoints : Type 0 where
  -- where the first host thread's invalidation is open
  first_is_open :
      (fits_all overlap_sizes rounds_to_first begun ≡ true)
      × (word_after rounds_to_first area.Count 0 ≡ 1)
      × (word_after rounds_to_first area.RangeStart 0 ≡ 5)
      × (word_after rounds_to_first area.RangeEnd 0 ≡ 6)
  -- where both are
  both_are_open :
      (fits_all overlap_sizes rounds_to_both begun ≡ true)
      × (tells_all rounds_to_both begun ≡ events_to_both)
      × (delays_after rounds_to_both 0 ≡ 1)
      × (delays_after rounds_to_both 4 ≡ 1)
      × (word_after rounds_to_both area.Count 0 ≡ 2)
      × (word_after rounds_to_both area.RangeStart 0 ≡ 5)
      × (word_after rounds_to_both area.RangeEnd 0 ≡ 8)
  -- where the second one's alone is
  one_is_open :
      (fits_all overlap_sizes rounds_to_one begun ≡ true)
      × (tells_all rounds_to_one begun ≡ events_to_one)
      × (delays_after rounds_to_one 0 ≡ 2)
      × (delays_after rounds_to_one 4 ≡ 2)
      × (word_after rounds_to_one area.Seq 0 ≡ 1)
      × (word_after rounds_to_one area.Count 0 ≡ 1)
      × (word_after rounds_to_one area.RangeStart 0 ≡ 5)
      × (word_after rounds_to_one area.RangeEnd 0 ≡ 8)
  -- where none is any more
  none_is_open :
      (fits_all overlap_sizes rounds_to_none begun ≡ true)
      × (tells_all rounds_to_none begun ≡ events_to_none)
      × (delays_after rounds_to_none 0 ≡ 3)
      × (word_after rounds_to_none area.Seq 0 ≡ 2)
      × (word_after rounds_to_none area.Count 0 ≡ 0)
      × (word_after rounds_to_none area.Slots 0 ≡ 2)
  -- the whole run
  all_are_answered :
      (fits_all overlap_sizes overlap_rounds begun ≡ true)
      × (tells_all overlap_rounds begun ≡ overlap_events)
      × (delays_after overlap_rounds 0 ≡ 3)
      × (delays_after overlap_rounds 2 ≡ 0)
      × (delays_after overlap_rounds 3 ≡ 1)
      × (delays_after overlap_rounds 4 ≡ 2)
      × (word_after overlap_rounds area.Slots 0 ≡ 1)
      × (word_after overlap_rounds area.Pool (pool_index 5 6) ≡ leaf_word 1 65 true true true)

checkpoints : Checkpoints
unfolding flushed topics_after place kind_of level_span table_word frozen_word content_index pool_index absent_word frame_in mapped_frame leaf_word flags_live
    flags_read_only flags_word host_allows_write host_frame host_present host_level host_word can_write is_leaf_at flags_logged count_trailing_zeros
checkpoints = record {
  first_is_open = (refl, refl, refl, refl);
  both_are_open = (refl, refl, refl, refl, refl, refl, refl);
  one_is_open = (refl, refl, refl, refl, refl, refl, refl, refl);
  none_is_open = (refl, refl, refl, refl, refl, refl);
  all_are_answered = (refl, refl, refl, refl, refl, refl, refl, refl);
}

-- Each thread's first page isn't after the next one's.
firsts_rise : (host : ℕ) → first_page_in (0 ∷ 66 ∷ 128 ∷ 128 ∷ []) 128 host ≤ first_page_in (0 ∷ 66 ∷ 128 ∷ 128 ∷ []) 128 (host + 1)
firsts_rise zero = omega arith
firsts_rise (suc zero) = omega arith
firsts_rise (suc (suc zero)) = omega arith
firsts_rise (suc (suc (suc n))) = let last = past (suc (suc (suc n)) + 1) (omega arith) in let here = from_third n in omega (arith, here, last)
  where
    past : (k : ℕ) → 4 ≤ k → first_page_in (0 ∷ 66 ∷ 128 ∷ 128 ∷ []) 128 k ≡ 128
    past k le = ap (λ (o : Option ℕ). unwrap_or o 128) (slice_get_past (0 ∷ 66 ∷ 128 ∷ 128 ∷ []) k le)

    from_third : (m : ℕ) → first_page_in (0 ∷ 66 ∷ 128 ∷ 128 ∷ []) 128 (suc (suc (suc m))) ≡ 128
    from_third zero = refl
    from_third (suc m) = past (suc (suc (suc (suc m)))) (omega arith)

overlap_in_range : AreSizes overlap_sizes
overlap_in_range = record {
  actors = record { vcpus = omega arith; hosts = omega arith; workers = omega arith };
  some = omega arith;
  pages = (omega arith, omega arith);
  frames = (omega arith, omega arith);
  words = (omega arith, omega arith);
  content = omega arith;
  pool = (omega arith, omega arith);
  cache = (omega arith, omega arith);
  firsts = four (λ page. page ≤ 128) 0 66 128 128 (omega arith) (omega arith) (omega arith) (omega arith);
  rising = record { each = firsts_rise };
}

may_set_read_only : May overlap_sizes set_read_only_line
may_set_read_only = record { some = omega arith; pages = omega arith; base = omega arith; host = omega arith; aligned = omega arith }

overlap_allowed : All (May overlap_sizes) overlap_lines
overlap_allowed =
    All-cons (May overlap_sizes) set_line (set_read_only_line ∷ protect_below ∷ evict_above ∷ read_inside ∷ []) may_set
    (All-cons (May overlap_sizes) set_read_only_line (protect_below ∷ evict_above ∷ read_inside ∷ []) may_set_read_only
    (All-cons (May overlap_sizes) protect_below (evict_above ∷ read_inside ∷ []) (omega arith)
    (All-cons (May overlap_sizes) evict_above (read_inside ∷ []) (omega arith)
    (All-cons (May overlap_sizes) read_inside [] (omega arith, omega arith, omega arith, tt) (All-nil (May overlap_sizes))))))

overlap_prints : text overlap_events ≡ codes "2 vm done\n4 h0 done\n5 h1 done\n6 v0 frame 65 value 0\n3 vm done\n"
unfolding line_text
overlap_prints =
    simp (
      decimal_digit 0 (lit< tt),
      decimal_digit 1 (lit< tt),
      decimal_digit 2 (lit< tt),
      decimal_digit 3 (lit< tt),
      decimal_digit 4 (lit< tt),
      decimal_digit 5 (lit< tt),
      decimal_digit 6 (lit< tt),
      two_digits 65 (lit≤ tt) (lit< tt),
    )

-- That these actors in turn tell this, and what one of them has counted then; and what a word holds after them.
counts : (rounds : List (ℕ × List ℕ)) (events : List Event) (actor delays : ℕ) → fits_all overlap_sizes rounds begun ≡ true → tells_all rounds begun ≡ events
    → delays_after rounds actor ≡ delays → RunDelays overlap_sizes overlap_lines (turns rounds) events actor delays
counts rounds events actor delays = run_delays overlap_sizes overlap_lines rounds events actor delays overlap_in_range overlap_allowed (omega arith)

leaves : (rounds : List (ℕ × List ℕ)) (a : Area) (index value : ℕ) → fits_all overlap_sizes rounds begun ≡ true → word_after rounds a index ≡ value
    → RunLeaves overlap_sizes overlap_lines (turns rounds) a index value
leaves rounds a index value = run_leaves overlap_sizes overlap_lines rounds a index value overlap_in_range overlap_allowed (omega arith)

pub example_overlap : ExampleOverlap
example_overlap =
    let (first_have, first_count, first_start, first_end) = checkpoints.first_is_open in
    let (both_have, both_tale, both_read, both_set, both_count, both_start, both_end) = checkpoints.both_are_open in
    let (one_have, one_tale, one_read, one_set, one_seq, one_count, one_start, one_end) = checkpoints.one_is_open in
    let (none_have, none_tale, none_read, none_seq, none_count, none_slots) = checkpoints.none_is_open in
    let (all_have, all_tale, all_read, all_below, all_above, all_set, all_slots, all_leaf) = checkpoints.all_are_answered in (
      counts rounds_to_both events_to_both 0 1 both_have both_tale both_read,
      counts rounds_to_both events_to_both 4 1 both_have both_tale both_set,
      counts rounds_to_one events_to_one 0 2 one_have one_tale one_read,
      counts rounds_to_one events_to_one 4 2 one_have one_tale one_set,
      counts rounds_to_none events_to_none 0 3 none_have none_tale none_read,
      counts overlap_rounds overlap_events 0 3 all_have all_tale all_read,
      counts overlap_rounds overlap_events 2 0 all_have all_tale all_below,
      counts overlap_rounds overlap_events 3 1 all_have all_tale all_above,
      counts overlap_rounds overlap_events 4 2 all_have all_tale all_set,
      leaves rounds_to_first area.Count 0 1 first_have first_count,
      leaves rounds_to_first area.RangeStart 0 5 first_have first_start,
      leaves rounds_to_first area.RangeEnd 0 6 first_have first_end,
      leaves rounds_to_both area.Count 0 2 both_have both_count,
      leaves rounds_to_both area.RangeStart 0 5 both_have both_start,
      leaves rounds_to_both area.RangeEnd 0 8 both_have both_end,
      leaves rounds_to_one area.Seq 0 1 one_have one_seq,
      leaves rounds_to_one area.Count 0 1 one_have one_count,
      leaves rounds_to_one area.RangeStart 0 5 one_have one_start,
      leaves rounds_to_one area.RangeEnd 0 8 one_have one_end,
      leaves rounds_to_none area.Seq 0 2 none_have none_seq,
      leaves rounds_to_none area.Count 0 0 none_have none_count,
      leaves rounds_to_none area.Slots 0 2 none_have none_slots,
      leaves overlap_rounds area.Slots 0 1 all_have all_slots,
      leaves overlap_rounds area.Pool (pool_index 5 6) (leaf_word 1 65 true true true) all_have all_leaf,
      overlap_prints,
    )
