-- State words: bit 0 in the guest, bit 1 in a section (the guest is one), bit 2 a flush is asked for.
use Rattle.std.specs.Prelude.{◌≡◌, ◌%◌, ◌<◌, ℕ}
use Rattle.core_views.specs.declared.topics.Stay.{Stay}
use Rattle.core_views.specs.declared.topics.Stay.TheVariants.{Outside, Guest, Section}

abbrev pub stay_bits : Stay → ℕ
stay_bits Outside = 0
stay_bits Guest = 3
stay_bits Section = 2

-- Each state word tells where its actor is.
abbrev pub StatesPart : ℕ → (ℕ → ℕ) → (ℕ → Stay) → Type 0
StatesPart n states stay = (i : ℕ) → i < n → (states i < 8) × (states i % 4 ≡ stay_bits (stay i))
