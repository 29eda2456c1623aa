-- What holds of the printed lines alone.
use Rattle.std.specs.Prelude.{◌≡◌, ◌<◌, ◌^◌, ℕ, All}
use Rattle.core_views.specs.Text.{line_text}
use Rattle.core_views.specs.declared.actor.Actor.{Actor}
use Rattle.core_views.specs.declared.actor.Actor.TheVariants.{Vcpu, Host, Manager, Worker}
use Rattle.core_views.specs.declared.answer.Answer.{Answer}
use Rattle.core_views.specs.declared.answer.Answer.TheVariants.{Reached, Mmio, HostFault, Starved, Paused, Done, Moved, Bits, Copied, Image, Refused}
use Rattle.core_views.specs.declared.migration.ImageWord.{ImageWord}

-- The actor's index is a number of 8 bits.
abbrev pub IsPrintable : Actor → Type 0
IsPrintable (Vcpu n) = n < 2 ^ 8
IsPrintable (Host n) = n < 2 ^ 8
IsPrintable Manager = Unit {0}
IsPrintable (Worker n) = n < 2 ^ 8

-- The word's numbers are numbers of 64 bits.
abbrev pub AreWordNumbers : ImageWord → Type 0
AreWordNumbers at = (at.id < 2 ^ 64) × (at.page < 2 ^ 64) × (at.word < 2 ^ 64) × (at.value < 2 ^ 64)

-- The answer's numbers are numbers of 64 bits.
abbrev pub AreNumbers : Answer → Type 0
AreNumbers (Reached frame value) = (frame < 2 ^ 64) × (value < 2 ^ 64)
AreNumbers Mmio = Unit {0}
AreNumbers HostFault = Unit {0}
AreNumbers Starved = Unit {0}
AreNumbers Paused = Unit {0}
AreNumbers Done = Unit {0}
AreNumbers (Moved frame) = frame < 2 ^ 64
AreNumbers (Bits words) = All (λ word. word < 2 ^ 64) words
AreNumbers (Copied pages) = pages < 2 ^ 64
AreNumbers (Image words) = All AreWordNumbers words
AreNumbers (Refused refusal) = Unit {0}

-- Lines that are printed alike have the same number, the same actor and the same answer.
abbrev pub LinesTell : Type 0
LinesTell = (m n : ℕ) (a b : Actor) (x y : Answer) → m < 2 ^ 32 → n < 2 ^ 32 → IsPrintable a → IsPrintable b → AreNumbers x → AreNumbers y
    → line_text m a x ≡ line_text n b y → (m ≡ n) × (a ≡ b) × (x ≡ y)
