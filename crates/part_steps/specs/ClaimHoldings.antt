-- Which word of a map of free pages or frames a claim is on.
use Rattle.std.specs.Prelude.{◌≡◌, ◌⊎◌, ℕ}
use Rattle.core_views.specs.declared.topics.MapClaim.{MapClaim}

-- A claim begins with the first word of its map, and goes on to the next one where it saw 0.
abbrev pub GoesOnToWord : ℕ → MapClaim → Type 0
GoesOnToWord word claim = (word ≡ 0) ⊎ ((word ≡ claim.at) × (claim.seen ≡ 0))
