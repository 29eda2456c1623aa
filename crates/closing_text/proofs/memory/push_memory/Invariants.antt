use Rattle.std.proofs.Common.{◌≡◌, ◌<◌, ◌++◌, codes, string_bytes}
use Rattle.core_views.specs.Migrations.{image_words}
use Rattle.core_views.specs.SlotSets.{IsSlotSet}
use Rattle.core_views.specs.Text.{image_text}
use Rattle.flat_model.proofs.SlotsById.{from_id}
use Rattle.closing_text.specs.MemoryText.{memory_in}
use Rattle.closing_text.proofs.memory.push_memory.Given as goal

abbrev pub invariant-loop-id : goal.invariant-loop-id
invariant-loop-id l =
    (0 < l.id → IsSlotSet l.slots)
    × (string_bytes l.text ++ image_text (image_words l.sizes.words (memory_in l.sizes l.words) (from_id l.id l.slots))
    ≡ string_bytes l.fn.text ++ (codes "memory" ++ image_text (image_words l.sizes.words (memory_in l.sizes l.words) l.slots)))
