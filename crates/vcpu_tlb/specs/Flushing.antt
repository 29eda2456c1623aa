-- A flush that another actor asks the virtual processors for, and awaits (vcpu-requests.rst, KVM_REQ_TLB_FLUSH; kvm_main.c, kvm_flush_remote_tlbs).
use Rattle.std.specs.Prelude.{◌≡◌, ◌+◌, ℕ, Option, Some, None, true, if◌then◌else◌}
use Rattle.core_views.specs.declared.progress.Seen.{Seen}
use Rattle.core_views.specs.declared.sizes.Sizes.{Sizes}
use Rattle.core_views.specs.declared.topics.Topics.{Topics}
use Rattle.core_views.specs.Held.{Held}
use Rattle.spte_words.specs.declared.area.Area.TheVariants as area
use Rattle.spte_words.specs.Bits.{has_bit}
use Rattle.part_steps.specs.ControlBits.{has_to_flush}
use Rattle.part_steps.specs.declared.part_step.PartStep.TheVariants as part
use Rattle.mmu_core.specs.forms.access.Cached.{asks_flush}
use Rattle.mmu_core.specs.machine.Machine.{World}
use Rattle.mmu_core.specs.machine.View.{word_in}
use Rattle.step_seats.specs.PartTurns.{MadePart, WherePartMade}
use Rattle.step_seats.specs.Seats.{Seat}
use Rattle.vcpu_tlb.specs.declared.flush.Awaited.{Awaited}
use Rattle.vcpu_tlb.specs.declared.flush.Awaited.TheVariants.{Flushed, Waits}

-- the state word of the virtual processor at a place
abbrev pub state_word_of : Sizes → ℕ → World Held → ℕ
state_word_of z index w = word_in z w area.State index

-- what is held once the virtual processors up to this place are asked: nothing else has changed
abbrev pub asked_up_to : ℕ → Topics → Topics
asked_up_to count t = record t { flush = record t.flush { asked = count } }

-- The state word asks for a flush, and tells what it told of guest and section.
pub record IsAsked (before after : ℕ) : Type 0 where
  pub asks : asks_flush after ≡ true
  pub guest : has_bit 0 after ≡ has_bit 0 before
  pub section : has_bit 1 after ≡ has_bit 1 before

-- Where the virtual processor at this place was asked, its state word asks for a flush after the step.
abbrev pub AsksFlush : ℕ → ℕ → Seat → Seat → Type 0
AsksFlush index note before after =
    WherePartMade (part.Ask index) note before after
    (λ w v. IsAsked (state_word_of before.hand.state.sizes index w) (state_word_of before.hand.state.sizes index v))

-- what a look at a state word comes to that held this
abbrev pub awaited_by : ℕ → Awaited
awaited_by state = if has_to_flush state then Waits state else Flushed

-- The virtual processor at this place was looked at, and the answer is by the state word that was found.
pub record Awaits (index note : ℕ) (answer : Awaited) (before after : Seat) : Type 0 where
  pub found : ℕ
  pub made : MadePart (part.Await index) note found before after
  pub answers : answer ≡ awaited_by found

-- how many are awaited after the look at the one at this place
abbrev pub count_awaited : Awaited → ℕ → ℕ
count_awaited Flushed index = index + 1
count_awaited (Waits state) index = index

-- what is held then: nothing else has changed
abbrev pub awaited_up_to : ℕ → Topics → Topics
awaited_up_to count t = record t { flush = record t.flush { awaited = count } }

-- Where the look was made, the answer is by the state word there.
abbrev pub AnswersAwait : Awaited → ℕ → ℕ → Seat → Seat → Type 0
AnswersAwait answer index note before after =
    WherePartMade (part.Await index) note before after (λ w v. answer ≡ awaited_by (state_word_of before.hand.state.sizes index w))

-- what is in the way of who awaits a flush, in this word of the machine
abbrev pub await_way : ℕ → Awaited → Option Seen
await_way word Flushed = None
await_way word (Waits value) = Some (record { word = word; value = value })
