-- The weave of the lost write, by computation: its turns follow the trace, and tell what is printed.
use lib.Count.{count_trailing_zeros}
use Rattle.std.proofs.Common.{◌≡◌, ◌<◌, inl, ℕ, zero, suc, List, [], ◌∷◌, refl, arith}
use Rattle.std.proofs.lemmas.List.Elements.{All-cons, All-nil}
use Rattle.std.specs.Fmt.{digits}
use Rattle.std.specs.List.Sorted.{IsStrictlyIncreasing}
use Rattle.std.specs.Prelude.{All, Some, codes, replicate, true, false}
use Rattle.core_views.specs.declared.actor.Actor.{Actor}
use Rattle.core_views.specs.declared.actor.Actor.TheVariants.{Manager, Vcpu}
use Rattle.core_views.specs.declared.answer.Answer.TheVariants.{Bits, Done, Reached}
use Rattle.core_views.specs.declared.event.Event.{Event}
use Rattle.core_views.specs.declared.event.EventKind.TheVariants.{Accessed, Answered, Armed, Begun, Harvested, LookedAtHost, LookedAtPause, LookedAtSlots}
use Rattle.core_views.specs.declared.event.EventKind.TheVariants.{SlotChanged, Taken}
use Rattle.core_views.specs.declared.trace.Item.{Item}
use Rattle.core_views.specs.declared.trace.Op.TheVariants.{Read, Write}
use Rattle.core_views.specs.declared.trace.Until.TheVariants as until
use Rattle.core_views.specs.FlatHistory.{by}
use Rattle.core_views.specs.LogCommands.{words_of}
use Rattle.core_views.specs.Text.{line_text, text}
use Rattle.core_views.specs.Traces.{IsHeader, IsItemOf, IsLineOf}
use Rattle.core_views.proofs.HeaderSizes.{header_sizes}
use Rattle.spte_words.specs.Areas.{content_index, place, pool_index}
use Rattle.spte_words.specs.Entries.{absent_word, can_write, frame_in, frozen_word, is_leaf_at, kind_of, leaf_word, level_span, mapped_frame, table_word}
use Rattle.spte_words.specs.Entries.{host_writable, mmu_writable, with_write, without_write}
use Rattle.spte_words.specs.Flags.{flags_live, flags_logged, flags_read_only, flags_word}
use Rattle.spte_words.specs.HostWords.{host_allows_write, host_frame, host_level, host_present, host_word}
use Rattle.part_steps.specs.TopicSteps.{topics_after}
use Rattle.mmu_core.specs.forms.access.Cached.{flushed}
use Rattle.mmu_laws.specs.steps.ExampleSteps.{unlogged}
use Rattle.weave_laws.specs.ExampleLostWrite.{LostWriteIsTrace, LostWriteWeaves, again_line, get_line, log_line, lost_write_header, lost_write_slot}
use Rattle.weave_laws.specs.ExampleLostWrite.{lost_write_trace, other_line, read_line, slot_line, write_line}
use Rattle.weave_laws.proofs.OrderWeaves.{OrderFits, weaves_in_order, whole_fits, whole_tale}

header_in_range : IsHeader lost_write_header
header_in_range = record {
  version = refl;
  vcpus = (omega arith, omega arith);
  workers = omega arith;
  pages = (omega arith, omega arith);
  frames = (omega arith, omega arith);
  words = inl refl;
  content = omega arith;
  pool = (omega arith, omega arith);
  cache = (omega arith, omega arith);
  manual = omega arith;
  hosts = record {
    first = refl;
    count = omega arith;
    rising = λ k lt. absurd (omega (arith, lt));
    below = All-cons (λ page. page < 64) 0 [] (omega arith) (All-nil (λ page. page < 64));
  };
}

numbers_rise : IsStrictlyIncreasing (5 ∷ 6 ∷ 7 ∷ 9 ∷ 10 ∷ 11 ∷ 12 ∷ [])
numbers_rise zero lt = omega arith
numbers_rise (suc zero) lt = omega arith
numbers_rise (suc (suc zero)) lt = omega arith
numbers_rise (suc (suc (suc zero))) lt = omega arith
numbers_rise (suc (suc (suc (suc zero)))) lt = omega arith
numbers_rise (suc (suc (suc (suc (suc zero))))) lt = omega arith
numbers_rise (suc (suc (suc (suc (suc (suc k)))))) lt = absurd (omega (arith, lt))

lines_allowed : All (IsLineOf lost_write_header) lost_write_trace.lines
lines_allowed =
    All-cons (IsLineOf lost_write_header) slot_line (log_line ∷ read_line ∷ write_line ∷ other_line ∷ get_line ∷ again_line ∷ [])
    (record { some = omega arith; pages = omega arith; base = omega arith; host = omega arith; aligned = omega arith })
    (All-cons (IsLineOf lost_write_header) log_line (read_line ∷ write_line ∷ other_line ∷ get_line ∷ again_line ∷ []) tt
    (All-cons (IsLineOf lost_write_header) read_line (write_line ∷ other_line ∷ get_line ∷ again_line ∷ []) (omega arith, omega arith, omega arith, tt)
    (All-cons (IsLineOf lost_write_header) write_line (other_line ∷ get_line ∷ again_line ∷ []) (omega arith, omega arith, omega arith, omega arith)
    (All-cons (IsLineOf lost_write_header) other_line (get_line ∷ again_line ∷ []) (omega arith, omega arith, omega arith, omega arith)
    (All-cons (IsLineOf lost_write_header) get_line (again_line ∷ []) tt
    (All-cons (IsLineOf lost_write_header) again_line [] tt (All-nil (IsLineOf lost_write_header))))))))

-- the items
abbrev swaps : Item
swaps = record { actor = Vcpu 0; until = until.Made 13 }

abbrev ends : Actor → Item
ends actor = record { actor = actor; until = until.Answered }

items_allowed : All (IsItemOf lost_write_header) lost_write_trace.items
items_allowed =
    All-cons (IsItemOf lost_write_header) swaps (ends (Vcpu 1) ∷ ends Manager ∷ ends (Vcpu 0) ∷ ends Manager ∷ [])
    (record { actor = omega arith; until = (omega arith, omega arith) })
    (All-cons (IsItemOf lost_write_header) (ends (Vcpu 1)) (ends Manager ∷ ends (Vcpu 0) ∷ ends Manager ∷ []) (record { actor = omega arith; until = tt })
    (All-cons (IsItemOf lost_write_header) (ends Manager) (ends (Vcpu 0) ∷ ends Manager ∷ []) (record { actor = tt; until = tt })
    (All-cons (IsItemOf lost_write_header) (ends (Vcpu 0)) (ends Manager ∷ []) (record { actor = omega arith; until = tt })
    (All-cons (IsItemOf lost_write_header) (ends Manager) [] (record { actor = tt; until = tt }) (All-nil (IsItemOf lost_write_header))))))

pub lost_write_is_trace : LostWriteIsTrace
lost_write_is_trace = record {
  header = header_in_range;
  lines = lines_allowed;
  rising = numbers_rise;
  few = omega arith;
  go = omega arith;
  items = items_allowed;
}

-- ---- the turns

-- the turns of each line above `go` but its last one, and those of each item
abbrev counts : List ℕ
counts = 523 ∷ 532 ∷ 1580 ∷ []

abbrev orders : List (List ℕ)
orders = replicate 20 0 ∷ replicate 9 1 ∷ replicate 8 3 ∷ replicate 11 0 ∷ replicate 13 3 ∷ []

abbrev events : List Event
events =
    by slot_line (Begun slot_line)
    ∷ by slot_line (SlotChanged 0 (unlogged lost_write_slot))
    ∷ by slot_line (Answered 5 Done)
    ∷ by log_line (Begun log_line)
    ∷ by log_line (SlotChanged 0 (Some (record { slot = lost_write_slot; logged = true })))
    ∷ by log_line (Armed 0 false)
    ∷ by log_line (Answered 6 Done)
    ∷ by read_line (Begun read_line)
    ∷ by read_line LookedAtPause
    ∷ by read_line LookedAtSlots
    ∷ by read_line (LookedAtHost 3)
    ∷ by read_line LookedAtPause
    ∷ by read_line (Accessed 3 0 Read 3 0)
    ∷ by read_line (Answered 7 (Reached 3 0))
    ∷ by write_line (Begun write_line)
    ∷ by write_line LookedAtPause
    ∷ by write_line LookedAtSlots
    ∷ by other_line (Begun other_line)
    ∷ by other_line LookedAtPause
    ∷ by other_line (Accessed 3 0 (Write 9) 3 0)
    ∷ by other_line (Answered 10 (Reached 3 0))
    ∷ by get_line (Begun get_line)
    ∷ by get_line (Taken 0)
    ∷ by get_line (Harvested 0 [])
    ∷ by get_line (Answered 11 (Bits (0 ∷ [])))
    ∷ by write_line LookedAtPause
    ∷ by write_line (Accessed 3 0 (Write 5) 3 9)
    ∷ by write_line (Answered 9 (Reached 3 9))
    ∷ by again_line (Begun again_line)
    ∷ by again_line (Taken 0)
    ∷ by again_line (Harvested 0 (3 ∷ []))
    ∷ by again_line (Answered 12 (Bits (8 ∷ [])))
    ∷ []

computes : (whole_fits lost_write_trace counts orders [] ≡ true) × (whole_tale lost_write_trace counts orders [] ≡ events)
unfolding flushed topics_after place kind_of level_span table_word frozen_word content_index pool_index absent_word frame_in mapped_frame leaf_word flags_live
    flags_read_only flags_word host_allows_write host_frame host_present host_level host_word can_write is_leaf_at flags_logged count_trailing_zeros
    without_write with_write host_writable mmu_writable
computes = (refl, refl)

prints : text events ≡ codes "5 vm done\n6 vm done\n7 v0 frame 3 value 0\n10 v1 frame 3 value 0\n11 vm bits 0x0\n9 v0 frame 3 value 9\n12 vm bits 0x8\n"
unfolding line_text digits words_of
prints = refl

fits : OrderFits lost_write_trace counts orders [] events
fits = record {
  sizes = header_sizes lost_write_header header_in_range;
  allowed = lines_allowed;
  few = omega arith;
  above = refl;
  fits = computes.0;
  tells = computes.1;
}

pub lost_write_weaves : LostWriteWeaves
lost_write_weaves limit =
    weaves_in_order lost_write_trace limit counts orders [] events
    (codes "5 vm done\n6 vm done\n7 v0 frame 3 value 0\n10 v1 frame 3 value 0\n11 vm bits 0x0\n9 v0 frame 3 value 9\n12 vm bits 0x8\n") fits (omega arith)
    prints
