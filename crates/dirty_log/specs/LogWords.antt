-- A step on a word of a dirty log (kvm_main.c, kvm_get_dirty_log_protect and kvm_clear_dirty_log_protect).
use Rattle.std.specs.Prelude.{◌≡◌, ◌≢◌, ℕ}
use Rattle.std.specs.Int.Bits.{bit_and}
use Rattle.core_views.specs.declared.topics.Topics.{Topics}
use Rattle.core_views.specs.Held.{Held}
use Rattle.spte_words.specs.declared.area.Area.TheVariants as area
use Rattle.part_steps.specs.declared.part_step.PartStep.TheVariants as part
use Rattle.part_steps.specs.PartTasks.{all_but}
use Rattle.mmu_core.specs.machine.Machine.{World}
use Rattle.mmu_core.specs.machine.View.{word_in}
use Rattle.step_seats.specs.PartTurns.{WherePartMade}
use Rattle.step_seats.specs.Seats.{Seat}

-- The next word that is read is this one. Nothing else that the actor holds has changed.
abbrev pub read_up_to : ℕ → Topics → Topics
read_up_to word t = record t { next_log_word = word }

-- The word was this one before, and has lost the bits of the mask; each other word of the log is what it was.
pub record TakesBits (word mask found : ℕ) (h : Held) (w v : World Held) : Type 0 where
  pub was : word_in h.state.sizes w area.Log word ≡ found
  pub loses : word_in h.state.sizes v area.Log word ≡ bit_and found (all_but mask)
  pub others : (i : ℕ) → i ≢ word → word_in h.state.sizes v area.Log i ≡ word_in h.state.sizes w area.Log i

-- It was so where they were taken.
abbrev pub TakesWhereMade : ℕ → ℕ → ℕ → ℕ → Seat → Seat → Type 0
TakesWhereMade word mask found note before after = WherePartMade (part.Take word mask) note before after (TakesBits word mask found before.hand)

-- The word was this one where it was loaded.
abbrev pub LoadsWhereMade : ℕ → ℕ → ℕ → Seat → Seat → Type 0
LoadsWhereMade word found note before after =
    WherePartMade (part.Peek word) note before after (λ w v. word_in before.hand.state.sizes w area.Log word ≡ found)
