-- What the need of a trace counts: the spans of guest frames in which its slots have pages, each once.
use Rattle.std.specs.Prelude.{◌≡◌, ◌≢◌, ◌+◌, ◌/◌, ◌^◌, ◌≤◌, ℕ, List, [], ◌∷◌, length, true}
use Rattle.std.specs.List.{AllPairs, Contains}
use Rattle.core_views.specs.declared.trace.Command.TheVariants.{SetSlot}
use Rattle.core_views.specs.declared.trace.Header.{Header}
use Rattle.core_views.specs.declared.trace.Line.{Line}
use Rattle.core_views.specs.declared.trace.Slot.{Slot}
use Rattle.core_views.specs.Need.{is_counted, need}
use Rattle.core_views.specs.Slots.{contains}

-- The guest frame is of a slot that a line of the trace sets, and that counts.
pub record IsSet (h : Header) (lines : List Line) (gfn : ℕ) : Type 0 where
  pub line : Line
  pub id : ℕ
  pub slot : Slot
  pub there : Contains lines line
  pub sets : line.command ≡ SetSlot id slot
  pub counts : is_counted h.pages slot ≡ true
  pub holds : contains gfn slot ≡ true

-- These are the numbers of the spans of so many guest frames in which such guest frames lie, each once.
pub record AreSpans (h : Header) (lines : List Line) (span : ℕ) (numbers : List ℕ) : Type 0 where
  pub once : AllPairs (λ one other. one ≢ other) numbers
  pub has_each : (gfn : ℕ) → IsSet h lines gfn → Contains numbers (gfn / span)
  pub no_other : (number : ℕ) → Contains numbers number → (gfn : ℕ) × IsSet h lines gfn × (gfn / span ≡ number)

-- The need is four, and one for each span of 2 ^ 27, of 2 ^ 18 and of 2 ^ 9 guest frames in which a slot has pages.
abbrev pub NeedIsCounted : Type 0
NeedIsCounted =
    (h : Header) (lines : List Line) (third second first : List ℕ) → AreSpans h lines (2 ^ 27) third → AreSpans h lines (2 ^ 18) second
    → AreSpans h lines (2 ^ 9) first → need h lines ≡ 4 + length third + length second + length first

-- So it is seven where the one line of a trace sets a slot that counts, all of it below guest frame 512.
abbrev pub OneSlotNeedsSeven : Type 0
OneSlotNeedsSeven =
    (h : Header) (line : Line) (id : ℕ) (slot : Slot) → line.command ≡ SetSlot id slot → is_counted h.pages slot ≡ true
    → slot.base + slot.pages ≤ 512 → need h (line ∷ []) ≡ 7
