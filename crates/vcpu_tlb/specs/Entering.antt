-- What a virtual processor finds as it enters the guest, and what becomes of its cached translations (vcpu-requests.rst, KVM_REQ_TLB_FLUSH).
use Rattle.std.specs.Prelude.{◌≡◌, ◌%◌, ◌==◌, ℕ, Bool, [], not, if◌then◌else◌}
use Rattle.circular_buffer.specs.Buffer.{Buffer, buffer}
use Rattle.core_views.specs.Held.{Held}
use Rattle.spte_words.specs.declared.area.Area.TheVariants as area
use Rattle.part_steps.specs.declared.part_step.PartStep.TheVariants as part
use Rattle.mmu_core.specs.forms.access.Cached.{asks_flush}
use Rattle.mmu_core.specs.machine.Machine.{World}
use Rattle.part_steps.specs.PartTasks.{own_index}
use Rattle.mmu_core.specs.machine.View.{word_in}
use Rattle.step_seats.specs.Seats.{Seat}
use Rattle.step_seats.specs.PartTurns.{MadePart, WherePartMade}
use Rattle.core_views.specs.declared.cache.Translation.{Translation}
use Rattle.vcpu_tlb.specs.declared.guest.Entered.{Entered}
use Rattle.vcpu_tlb.specs.declared.guest.Entered.TheVariants.{In, Flushed}

-- the answer of who found this in its state word
abbrev pub answer_to : ℕ → Entered
answer_to state = if asks_flush state then Flushed else In

-- The actor entered the guest by one swap of its state word, and answers as it found that word.
pub record Enters (note : ℕ) (answer : Entered) (before after : Seat) : Type 0 where
  pub found : ℕ
  pub made : MadePart part.Enter note found before after
  pub answers : answer ≡ answer_to found

-- what is cached after the answer: what was, or nothing
abbrev pub cached_behind : Entered → Buffer Translation → Buffer Translation
cached_behind In cached = cached
cached_behind Flushed cached = buffer [] cached.capacity

-- the state word of the hand's actor
abbrev pub state_in : Held → World Held → ℕ
state_in h w = word_in h.state.sizes w area.State (own_index h)

-- the pause word of the hand's machine
abbrev pub pause_in : Held → World Held → ℕ
pause_in h w = word_in h.state.sizes w area.Pause 0

-- Where the actor entered the guest, the answer is by its state word before, and that word is 3 then: in the guest, in a section.
abbrev pub AnswersState : Entered → ℕ → Seat → Seat → Type 0
AnswersState answer note before after = WherePartMade part.Enter note before after (λ w v. answer ≡ answer_to (state_in before.hand w))

abbrev pub TellsGuest : ℕ → Seat → Seat → Type 0
TellsGuest note before after = WherePartMade part.Enter note before after (λ w v. state_in after.hand v ≡ 3)

-- Where the pause word was loaded, the answer is whether it isn't 0.
abbrev pub AnswersPause : Bool → ℕ → Seat → Seat → Type 0
AnswersPause answer note before after = WherePartMade part.Pause note before after (λ w v. answer ≡ not (pause_in before.hand w == 0))

-- Where the actor left the guest, its state word has bits 0 and 1 clear then, and asks for a flush if it did before.
abbrev pub TellsOutside : ℕ → Seat → Seat → Type 0
TellsOutside note before after = WherePartMade part.Leave note before after (λ w v. state_in after.hand v % 4 ≡ 0)

abbrev pub KeepsAsking : ℕ → Seat → Seat → Type 0
KeepsAsking note before after =
    WherePartMade part.Leave note before after (λ w v. asks_flush (state_in after.hand v) ≡ asks_flush (state_in before.hand w))
