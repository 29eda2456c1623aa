-- What the accesses of a history leave in one word of a host page.
use Rattle.std.specs.Prelude.{◌≡◌, ◌+◌, ◌%◌, ◌^◌, ◌<◌, ◌==◌, ◌&&◌, ℕ, Bool, true, false, List, [], ◌∷◌, ◌++◌, All, if◌then◌else◌}
use Rattle.std.specs.List.{sum_by}
use Rattle.core_views.specs.declared.event.Event.{Event}
use Rattle.core_views.specs.declared.event.EventKind.{EventKind}
use Rattle.core_views.specs.declared.event.EventKind.TheVariants.{Accessed}
use Rattle.core_views.specs.declared.sizes.Sizes.{Sizes}
use Rattle.core_views.specs.declared.trace.Op.{Op}
use Rattle.core_views.specs.declared.trace.Op.TheVariants.{Read, Write, Add}
use Rattle.core_views.specs.Events.{after, after_all, facts_after}
use Rattle.core_views.specs.Flat.{Facts, Flat}
use Rattle.core_views.specs.Lawful.{IsLawful}
use Rattle.core_views.specs.Memory.{word_after_op}
use Rattle.core_views.specs.Slots.{is_some_and, page_behind}
use Rattle.core_views.specs.SlotSets.{flat_slots}

-- The access is one of this word of this host page, which the slots give its guest frame now.
abbrev pub is_on : ℕ → ℕ → ℕ → ℕ → Op → Facts → Bool
is_on page word gfn at op f = (at == word) && is_some_and (λ p. p == page) (page_behind (flat_slots f.slots) gfn op)

-- what an event does on the word, if it is an access of it
abbrev pub op_on : ℕ → ℕ → EventKind → Facts → List Op
op_on page word (Accessed gfn at op frame before) f = if is_on page word gfn at op f then op ∷ [] else []
op_on page word _ f = []

-- what the accesses of a history do on the word, in its order
abbrev pub ops_on : ℕ → ℕ → List Event → Facts → List Op
ops_on page word [] f = []
ops_on page word (e ∷ es) f = op_on page word e.kind f ++ ops_on page word es (facts_after e.kind f)

-- what the word holds after these operations, one after another, where it held x before them
abbrev pub left_by : List Op → ℕ → ℕ
left_by [] x = x
left_by (op ∷ ops) x = left_by ops (word_after_op op x)

-- what an operation adds
abbrev pub added_by : Op → ℕ
added_by (Add x) = x
added_by _ = 0

-- The operation stores a number, whatever stood there.
abbrev pub stores : Op → Bool
stores (Write x) = true
stores _ = false

-- The operation leaves the word as it is.
abbrev pub only_reads : Op → Bool
only_reads Read = true
only_reads _ = false

-- A word holds after a history what it held before, as each access of it changed that, in the order of the history.
abbrev pub WordsHoldWhatIsLeft : Type 0
WordsHoldWhatIsLeft = (history : List Event) (f : Flat) (page word : ℕ)
    → (after_all history f).facts.memory page word ≡ left_by (ops_on page word history f.facts) (f.facts.memory page word)

-- A word on which a history only reads and adds holds, after it, what it held before and the sum of what was added, modulo 2^64.
abbrev pub AddsSumUp : Type 0
AddsSumUp = (history : List Event) (f : Flat) (page word : ℕ) → f.facts.memory page word < 2 ^ 64
    → All (λ op. stores op ≡ false) (ops_on page word history f.facts)
    → (after_all history f).facts.memory page word ≡ (f.facts.memory page word + sum_by added_by (ops_on page word history f.facts)) % 2 ^ 64

-- With these facts the event is an access of the word: it does this, and has found that number there.
pub record Touches (page word : ℕ) (f : Facts) (e : Event) (op : Op) (found : ℕ) : Type 0 where
  pub gfn : ℕ
  pub at : ℕ
  pub frame : ℕ
  pub kind_is : e.kind ≡ Accessed gfn at op frame found
  pub is_here : is_on page word gfn at op f ≡ true

-- Two accesses of the word stand in the history, and between them accesses of it that do just these operations on it, in this order, whoever makes them. The
-- state before the history is f.
pub record HasNext (page word : ℕ) (f : Flat) (history : List Event) (op : Op) (found : ℕ) (ops : List Op) (next_op : Op) (next_found : ℕ) : Type 0 where
  pub earlier : List Event
  pub access : Event
  pub between : List Event
  pub next : Event
  pub later : List Event
  pub history_is : history ≡ earlier ++ (access ∷ (between ++ (next ∷ later)))
  pub touches : Touches page word (after_all earlier f).facts access op found
  pub ops_are : ops_on page word between (after access (after_all earlier f)).facts ≡ ops
  pub touches_next : Touches page word (after_all between (after access (after_all earlier f))).facts next next_op next_found

-- In a lawful history an access finds in its word what an earlier one left there, as each access between the two changed that.
abbrev pub AccessesFindWhatWasLeft : Type 0
AccessesFindWhatWasLeft =
    (z : Sizes) (f : Flat) (history : List Event) (page word : ℕ) (op : Op) (found : ℕ) (ops : List Op) (next_op : Op) (next_found : ℕ)
    → IsLawful z f history → HasNext page word f history op found ops next_op next_found → next_found ≡ left_by ops (word_after_op op found)

-- In such a history it finds just what the earlier one left, where nobody wrote or added since. So a read of an actor gives what the actor wrote itself.
abbrev pub OwnIsFound : Type 0
OwnIsFound = (z : Sizes) (f : Flat) (history : List Event) (page word : ℕ) (op : Op) (found : ℕ) (ops : List Op) (next_op : Op) (next_found : ℕ)
    → IsLawful z f history → HasNext page word f history op found ops next_op next_found → All (λ x. only_reads x ≡ true) ops
    → next_found ≡ word_after_op op found
