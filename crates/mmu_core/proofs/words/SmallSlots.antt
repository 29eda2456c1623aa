-- The slots that lines set, and those of the manager's record, have small numbers.
use Rattle.std.proofs.Common.{◌≡◌, ◌<◌, ◌≤◌, ◌==◌, ◌%◌, ℕ, zero, suc, List, [], ◌∷◌, length, get_or, map, subst, arith}
use Rattle.std.specs.Prelude.{Bool, true, false, All, Contains, if◌then◌else◌, Some}
use Rattle.std.proofs.lemmas.List.Elements.{All-head, All-tail}
use Rattle.core_views.specs.declared.actor.Actor.{Actor}
use Rattle.core_views.specs.declared.actor.Actor.TheVariants.{Manager}
use Rattle.core_views.specs.declared.memory_slot.MemorySlot.{MemorySlot}
use Rattle.core_views.specs.declared.sizes.Sizes.{Sizes}
use Rattle.core_views.specs.declared.trace.Command.{Command}
use Rattle.core_views.specs.declared.trace.Command.TheVariants.{SetSlot}
use Rattle.core_views.specs.declared.trace.Line.{Line}
use Rattle.core_views.specs.declared.trace.Slot.{Slot}
use Rattle.core_views.specs.SlotSets.{MemorySlots, slot_of_id}
use Rattle.core_views.specs.Traces.{IsCommandFor}
use Rattle.mmu_core.specs.invariant.Invariant.{IsSetBy}
use Rattle.part_steps.proofs.SetWords.{IsSmall}

-- A slot that a line may set has small numbers.
pub in_range : (z : Sizes) (actor : Actor) (id : ℕ) (slot : Slot) → IsCommandFor z actor (SetSlot id slot) → IsSmall slot
in_range z Manager id slot may = record { base = omega (arith, may.base); pages = omega (arith, may.pages); host = omega (arith, may.host) }
in_range z _ id slot may = absurd may

-- And it has a page at least.
pub has_page : (z : Sizes) (actor : Actor) (id : ℕ) (slot : Slot) → IsCommandFor z actor (SetSlot id slot) → 1 ≤ slot.pages
has_page z Manager id slot may = may.some
has_page z _ id slot may = absurd may

-- And its host pages begin with a word of the dirty logs.
pub aligned : (z : Sizes) (actor : Actor) (id : ℕ) (slot : Slot) → IsCommandFor z actor (SetSlot id slot) → slot.host % 64 ≡ 0
aligned z Manager id slot may = may.aligned
aligned z _ id slot may = absurd may

-- What is so of each slot that a line may set is so of each of a record that lines set.
module _ (IsSo : Slot → Type 0) (each : (z : Sizes) (actor : Actor) (id : ℕ) (slot : Slot) → IsCommandFor z actor (SetSlot id slot) → IsSo slot) where
  set_is_so : (z : Sizes) (lines : List Line) (id : ℕ) (slot : Slot) → All (λ line. IsCommandFor z line.actor line.command) lines
      → Contains (map (λ line. line.command) lines) (SetSlot id slot) → IsSo slot
  set_is_so z [] id slot allowed has = absurd (omega (arith, has.1))
  set_is_so z (line ∷ lines) id slot allowed has =
      by has.0 has.1 has.2 (set_is_so z lines id slot (All-tail (λ (l : Line). IsCommandFor z l.actor l.command) line lines allowed))
    where
      commands : List Command
      commands = map (λ (l : Line). l.command) lines

      by : (k : ℕ) → k < suc (length commands) → get_or (line.command ∷ commands) k (SetSlot id slot) ≡ SetSlot id slot
          → (Contains commands (SetSlot id slot) → IsSo slot) → IsSo slot
      by zero lt is rest =
          each z line.actor id slot
          (subst (IsCommandFor z line.actor) is (All-head (λ (l : Line). IsCommandFor z l.actor l.command) line lines allowed))
      by (suc k) lt is rest = rest (k, omega arith, is)

  pub record_is_so : (z : Sizes) (lines : List Line) (slots : MemorySlots) → All (λ line. IsCommandFor z line.actor line.command) lines
      → All (IsSetBy lines) slots → (i : ℕ) (m : MemorySlot) → slot_of_id i slots ≡ Some m → IsSo m.slot
  record_is_so z lines [] allowed set i m is = absurd (cc is)
  record_is_so z lines ((k, n) ∷ es) allowed set i m is = by (k == i) is (record_is_so z lines es allowed (All-tail (IsSetBy lines) (k, n) es set) i m)
    where
      same : {x y : MemorySlot} → Some x ≡ Some y → x ≡ y
      same e = cc e

      by : (b : Bool) → (if b then Some n else slot_of_id i es) ≡ Some m → (slot_of_id i es ≡ Some m → IsSo m.slot) → IsSo m.slot
      by true e rest = subst (λ (x : MemorySlot). IsSo x.slot) (same e) (set_is_so z lines k n.slot allowed (All-head (IsSetBy lines) (k, n) es set))
      by false e rest = rest e

pub record_small : (z : Sizes) (lines : List Line) (slots : MemorySlots) → All (λ line. IsCommandFor z line.actor line.command) lines
    → All (IsSetBy lines) slots → (i : ℕ) (m : MemorySlot) → slot_of_id i slots ≡ Some m → IsSmall m.slot
record_small z lines slots allowed set i m is = record_is_so IsSmall in_range z lines slots allowed set i m is
