-- Rounds: the turns of all actors that have a line left, one after another, from the first one on.
use Rattle.std.specs.Prelude.{◌≡◌, ◌+◌, ◌-◌, ◌<◌, ◌⊎◌, ℕ, suc, List, [], ◌∷◌, nat_lt, if◌then◌else◌}
use Rattle.core_views.specs.declared.kind.Kind.{Kind}
use Rattle.core_views.specs.declared.sizes.Sizes.{Sizes}
use Rattle.core_views.specs.Held.{Held}
use Rattle.core_views.specs.Sizes.{actors_of}
use Rattle.mmu_core.specs.machine.Enabled.{mmu}
use Rattle.mmu_core.specs.machine.Machine.{Step, World, effect}
use Rattle.turn_loops.specs.Turning.{HasLineLeft, HasNoLineLeft}

-- the place so far behind one among `count`, round the order
abbrev pub place_behind : ℕ → ℕ → ℕ → ℕ
place_behind count first far = if nat_lt (first + far) count then first + far else first + far - count

-- The next place behind one among `count` is the one after it, or 0 behind the last.
abbrev pub IsNextPlace : ℕ → ℕ → ℕ → Type 0
IsNextPlace count index next = ((index + 1 ≡ count) × (next ≡ 0)) ⊎ ((index + 1 < count) × (next ≡ index + 1))

-- The step is a turn of the first actor, from this place on and round the order of all actors, that has a line left.
pub record IsNextInRound (z : Sizes) (first : ℕ) (w : World Held) (s : Step Kind) : Type 0 where
  pub far : ℕ
  pub within : far < actors_of z
  pub is : s.actor ≡ place_behind (actors_of z) first far
  pub left : HasLineLeft s.actor w
  pub passed : (i : ℕ) → i < far → HasNoLineLeft (place_behind (actors_of z) first i) w

-- Turns in rounds from one place among the actors on, up to another.
abbrev pub RunsRounds : Sizes → ℕ → ℕ → World Held → List (Step Kind) → Type 0
RunsRounds z first next w [] = next ≡ first
RunsRounds z first next w (s ∷ ss) = IsNextInRound z first w s × RunsRounds z (suc s.actor) next (effect mmu w s) ss

-- No actor has a line left.
abbrev pub AllAnswered : Sizes → World Held → Type 0
AllAnswered z w = (i : ℕ) → i < actors_of z → HasNoLineLeft i w
