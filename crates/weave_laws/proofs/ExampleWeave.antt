-- The closed weave, by computation: its turns follow the trace, and tell what is printed.
use lib.Count.{count_trailing_zeros}
use Rattle.std.proofs.Common.{◌≡◌, ◌<◌, inl, ℕ, zero, suc, List, [], ◌∷◌, refl, arith, lit<}
use Rattle.std.proofs.lemmas.Fmt.{decimal_digit}
use Rattle.std.proofs.lemmas.List.Elements.{All-cons, All-nil}
use Rattle.std.specs.List.Sorted.{IsStrictlyIncreasing}
use Rattle.std.specs.Prelude.{All, codes, replicate, true}
use Rattle.core_views.specs.declared.answer.Answer.TheVariants.{Mmio}
use Rattle.core_views.specs.declared.event.Event.{Event}
use Rattle.core_views.specs.declared.event.EventKind.TheVariants.{Answered, Begun, Exited, LookedAtPause, LookedAtSlots}
use Rattle.core_views.specs.declared.trace.Line.{Line}
use Rattle.core_views.specs.declared.trace.Op.TheVariants.{Read}
use Rattle.core_views.specs.declared.trace.Until.TheVariants.{Made, Turns}
use Rattle.core_views.specs.FlatHistory.{by}
use Rattle.core_views.specs.Text.{line_text, text}
use Rattle.core_views.specs.Traces.{IsHeader, IsItemOf, IsLineOf}
use Rattle.core_views.proofs.HeaderSizes.{header_sizes}
use Rattle.flat_laws.specs.Laws.{access_line}
use Rattle.spte_words.specs.Areas.{content_index, place, pool_index}
use Rattle.spte_words.specs.Entries.{absent_word, can_write, frame_in, frozen_word, is_leaf_at, kind_of, leaf_word, level_span, mapped_frame, table_word}
use Rattle.spte_words.specs.Flags.{flags_live, flags_logged, flags_read_only, flags_word}
use Rattle.spte_words.specs.HostWords.{host_allows_write, host_frame, host_level, host_present, host_word}
use Rattle.part_steps.specs.TopicSteps.{topics_after}
use Rattle.mmu_core.specs.forms.access.Cached.{flushed}
use Rattle.weave_laws.specs.ExampleWeave.{ExampleIsTrace, ExampleWeaves, example_header, example_lines, example_trace}
use Rattle.weave_laws.specs.ExampleWeave.{item_of, round_order}
use Rattle.weave_laws.proofs.OrderWeaves.{OrderFits, weaves_in_order, whole_fits, whole_tale}

-- ---- the trace

header_in_range : IsHeader example_header
header_in_range = record {
  version = refl;
  vcpus = (omega arith, omega arith);
  workers = omega arith;
  pages = (omega arith, omega arith);
  frames = (omega arith, omega arith);
  words = inl refl;
  content = omega arith;
  pool = (omega arith, omega arith);
  cache = (omega arith, omega arith);
  manual = omega arith;
  hosts = record {
    first = refl;
    count = omega arith;
    rising = λ k lt. absurd (omega (arith, lt));
    below = All-cons (λ page. page < 128) 0 [] (omega arith) (All-nil (λ page. page < 128));
  };
}

numbers_rise : IsStrictlyIncreasing (3 ∷ 4 ∷ 5 ∷ [])
numbers_rise zero lt = omega arith
numbers_rise (suc zero) lt = omega arith
numbers_rise (suc (suc k)) lt = absurd (omega (arith, lt))

lines_allowed : All (IsLineOf example_header) example_lines
lines_allowed =
    All-cons (IsLineOf example_header) (access_line 3 0 9 0 Read) (access_line 4 1 9 0 Read ∷ access_line 5 2 9 0 Read ∷ [])
    (omega arith, omega arith, omega arith, tt)
    (All-cons (IsLineOf example_header) (access_line 4 1 9 0 Read) (access_line 5 2 9 0 Read ∷ []) (omega arith, omega arith, omega arith, tt)
    (All-cons (IsLineOf example_header) (access_line 5 2 9 0 Read) [] (omega arith, omega arith, omega arith, tt) (All-nil (IsLineOf example_header))))

items_allowed : All (IsItemOf example_header) example_trace.items
items_allowed =
    All-cons (IsItemOf example_header) (item_of 0 (Made 3)) (item_of 1 (Turns 2) ∷ item_of 1 (Turns 3) ∷ item_of 2 (Turns 4) ∷ [])
    (record { actor = omega arith; until = (omega arith, omega arith) })
    (All-cons (IsItemOf example_header) (item_of 1 (Turns 2)) (item_of 1 (Turns 3) ∷ item_of 2 (Turns 4) ∷ [])
    (record { actor = omega arith; until = (omega arith, omega arith) })
    (All-cons (IsItemOf example_header) (item_of 1 (Turns 3)) (item_of 2 (Turns 4) ∷ []) (record { actor = omega arith; until = (omega arith, omega arith) })
    (All-cons (IsItemOf example_header) (item_of 2 (Turns 4)) [] (record { actor = omega arith; until = (omega arith, omega arith) })
    (All-nil (IsItemOf example_header)))))

pub example_is_trace : ExampleIsTrace
example_is_trace = record {
  header = header_in_range;
  lines = lines_allowed;
  rising = numbers_rise;
  few = omega arith;
  go = omega arith;
  items = items_allowed;
}

-- ---- the turns, by computation

-- the turns of each item
abbrev orders : List (List ℕ)
orders = replicate 4 0 ∷ replicate 2 1 ∷ replicate 3 1 ∷ replicate 4 2 ∷ []

abbrev first_line : Line
first_line = access_line 3 0 9 0 Read

abbrev second_line : Line
second_line = access_line 4 1 9 0 Read

abbrev third_line : Line
third_line = access_line 5 2 9 0 Read

-- Each line begins and looks at the pause in its item. The second line is a turn ahead of the others in the rounds: it looks at the slots first, and is
-- answered first.
abbrev example_events : List Event
example_events =
    by first_line (Begun first_line)
    ∷ by first_line LookedAtPause
    ∷ by second_line (Begun second_line)
    ∷ by second_line LookedAtPause
    ∷ by third_line (Begun third_line)
    ∷ by third_line LookedAtPause
    ∷ by second_line LookedAtSlots
    ∷ by first_line LookedAtSlots
    ∷ by third_line LookedAtSlots
    ∷ by second_line (Exited Mmio)
    ∷ by second_line (Answered 4 Mmio)
    ∷ by first_line (Exited Mmio)
    ∷ by first_line (Answered 3 Mmio)
    ∷ by third_line (Exited Mmio)
    ∷ by third_line (Answered 5 Mmio)
    ∷ []

example_computes : (whole_fits example_trace [] orders round_order ≡ true) × (whole_tale example_trace [] orders round_order ≡ example_events)
unfolding flushed topics_after place kind_of level_span table_word frozen_word content_index pool_index absent_word frame_in mapped_frame leaf_word flags_live
    flags_read_only flags_word host_allows_write host_frame host_present host_word can_write is_leaf_at flags_logged count_trailing_zeros host_level
example_computes = (refl, refl)

example_prints : text example_events ≡ codes "4 v1 mmio\n3 v0 mmio\n5 v2 mmio\n"
unfolding line_text
example_prints = simp (
  decimal_digit 0 (lit< tt),
  decimal_digit 1 (lit< tt),
  decimal_digit 2 (lit< tt),
  decimal_digit 3 (lit< tt),
  decimal_digit 4 (lit< tt),
  decimal_digit 5 (lit< tt),
)

-- ---- the weave

example_fits : OrderFits example_trace [] orders round_order example_events
example_fits = record {
  sizes = header_sizes example_header header_in_range;
  allowed = lines_allowed;
  few = omega arith;
  above = refl;
  fits = example_computes.0;
  tells = example_computes.1;
}

pub example_weaves : ExampleWeaves
example_weaves limit room =
    weaves_in_order example_trace limit [] orders round_order example_events (codes "4 v1 mmio\n3 v0 mmio\n5 v2 mmio\n") example_fits room example_prints
