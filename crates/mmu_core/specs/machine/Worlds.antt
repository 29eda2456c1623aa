-- The worlds of the machine: its start, and what a list of steps leads to and tells.
use Rattle.std.specs.Prelude.{◌≡◌, ◌-◌, ◌*◌, ◌^◌, ◌<◌, ℕ, zero, suc, List, [], ◌∷◌, ◌++◌, All, length, true, nat_le, ◌==◌, if◌then◌else◌, slice_index, ◌≤◌}
use Rattle.core_views.specs.declared.event.Event.{Event}
use Rattle.core_views.specs.declared.kind.Kind.{Kind}
use Rattle.core_views.specs.declared.sizes.Sizes.{Sizes}
use Rattle.core_views.specs.declared.trace.Line.{Line}
use Rattle.core_views.specs.Held.{Held, first_held}
use Rattle.core_views.specs.Sizes.{AreSizes, actor_at, actors_of}
use Rattle.core_views.specs.Traces.{IsCommandFor}
use Rattle.core_views.specs.Whole.{lines_of}
use Rattle.spte_words.specs.declared.area.Area.{Area}
use Rattle.spte_words.specs.declared.area.Area.TheVariants.{Slots, PoolMap, FrameMap, Host, Role}
use Rattle.spte_words.specs.Areas.{place, size_of, total}
use Rattle.spte_words.specs.HostWords.{host_word}
use Rattle.mmu_core.specs.machine.Machine.{World, Step, Leads, effect, answered, hand_in}
use Rattle.mmu_core.specs.machine.Enabled.{mmu}
use Rattle.mmu_core.specs.machine.Steps.{events_of}
use Rattle.part_steps.specs.Tasks.{map_of}

-- the lesser of two numbers
abbrev pub least : ℕ → ℕ → ℕ
least a b = if nat_le a b then a else b

-- word i of a map of bits in which the bits from `first` up to `count` are set
abbrev pub free_bits : ℕ → ℕ → ℕ → ℕ
free_bits first count i = 2 ^ least 64 (count - 64 * i) - 2 ^ least 64 (first - 64 * i)

-- What each word holds at the start: the root is pool page 0, an empty table of level 4, and the published slot set is pool page 1,
-- with no slot; the pool pages behind them are free. Host page p is present, writable and small, at frame p; the frames behind those
-- are free. All else is 0.
abbrev pub start_word : Sizes → Area → ℕ → ℕ
start_word z Slots i = 1
start_word z PoolMap i = free_bits 2 z.pool i
start_word z FrameMap i = free_bits z.pages z.frames i
start_word z Host i = host_word i true true 1
start_word z Role i = if i == 0 then 4 else if i == 1 then 5 else 0
start_word z _ i = 0

-- The words are those of the start: each area has its start words.
pub record AreStartWords (z : Sizes) (words : List ℕ) : Type 0 where
  pub count : length words ≡ total (map_of z)
  pub each : (area : Area) (i : ℕ) → i < size_of (map_of z) area → slice_index words (place (map_of z) area i) ≡ start_word z area i

-- the hands at the start: each actor's lines of the trace, and no answer
abbrev pub start_hands : Sizes → List Line → ℕ → List Held
start_hands z lines zero = []
start_hands z lines (suc n) = start_hands z lines n ++ first_held z (actor_at z n) (lines_of (actor_at z n) lines) ∷ []

-- The world is that of the start, with these lines.
pub record IsStart (z : Sizes) (lines : List Line) (w : World Held) : Type 0 where
  pub sizes : AreSizes z
  pub allowed : All (λ line. IsCommandFor z line.actor line.command) lines
  pub few : length lines ≤ 1000000
  pub words : AreStartWords z w.words
  pub hands : w.hands ≡ start_hands z lines (actors_of z)

-- Some list of steps leads from a start to the world.
pub record Reachable (w : World Held) : Type 0 where
  pub sizes : Sizes
  pub lines : List Line
  pub start : World Held
  pub is_start : IsStart sizes lines start
  pub leads : Leads mmu start w

-- Some reachable world has this hand.
pub record HandReached (h : Held) : Type 0 where
  pub world : World Held
  pub actor : ℕ
  pub reached : Reachable world
  pub there : actor < length world.hands
  pub has : hand_in mmu world actor ≡ h

-- what a list of steps tells
abbrev pub history : World Held → List (Step Kind) → List Event
history w [] = []
history w (s ∷ ss) = events_of (hand_in mmu w s.actor) (answered mmu w s.kind) ++ history (effect mmu w s) ss
