-- A closed weave: a small trace, the turns that its schedule and its rounds make, and the text that they print.
use Rattle.std.specs.Prelude.{◌≡◌, ◌≤◌, ℕ, List, [], ◌∷◌, ◌++◌, replicate, codes, Some}
use Rattle.core_views.specs.declared.actor.Actor.TheVariants.{Vcpu}
use Rattle.core_views.specs.declared.trace.Header.{Header}
use Rattle.core_views.specs.declared.trace.Item.{Item}
use Rattle.core_views.specs.declared.trace.Line.{Line}
use Rattle.core_views.specs.declared.trace.Op.TheVariants.{Read}
use Rattle.core_views.specs.declared.trace.Trace.{Trace}
use Rattle.core_views.specs.declared.trace.Until.{Until}
use Rattle.core_views.specs.declared.trace.Until.TheVariants.{Made, Turns}
use Rattle.core_views.specs.Held.{Held}
use Rattle.core_views.specs.Sizes.{sizes_of}
use Rattle.core_views.specs.Traces.{IsTrace}
use Rattle.flat_laws.specs.Laws.{access_line}
use Rattle.mmu_core.specs.machine.Machine.{World}
use Rattle.mmu_laws.specs.steps.ExampleRaces.{in_turn}
use Rattle.mmu_laws.specs.steps.ExampleSteps.{turns_of}
use Rattle.turn_loops.specs.Weaves.{WeavesAll}
use Rattle.weave_engine.specs.Woven.{IsWholeText}

-- A machine of three virtual processors and a host thread.
abbrev pub example_header : Header
example_header = record {
  version = 1;
  vcpus = 3;
  workers = 0;
  pages = 128;
  frames = 128;
  words = 1;
  pool = 4;
  cache = 1;
  manual = 0;
  hosts = 0 ∷ [];
}

-- Each processor reads guest frame 9, which no slot has.
abbrev pub example_lines : List Line
example_lines = access_line 3 0 9 0 Read ∷ access_line 4 1 9 0 Read ∷ access_line 5 2 9 0 Read ∷ []

-- an item of this processor
abbrev pub item_of : ℕ → Until → Item
item_of vcpu until = record { actor = Vcpu vcpu; until = until }

-- Line 2 of the file is `go`, and these three come next. Then come `> v0 walk` (the kind with number 3), `> v1 2`, `> v1 3` and `> v2 4`.
abbrev pub example_trace : Trace
example_trace = record {
  header = example_header;
  lines = example_lines;
  go = Some 0;
  items = item_of 0 (Made 3) ∷ item_of 1 (Turns 2) ∷ item_of 1 (Turns 3) ∷ item_of 2 (Turns 4) ∷ [];
}

-- Its numbers are in the ranges of a trace.
abbrev pub ExampleIsTrace : Type 0
ExampleIsTrace = IsTrace example_trace

-- Each line has 41 steps: it enters the guest, loads the pause and the root, walks to an entry that is absent, and leaves; then its fault begins, loads the
-- sequence number and the slot set, and the flags of all 32 slots, and ends. The items make 4, 2, 3 and 4 of them, so the first line and the third one have
-- 37 left, and the second one has 36. In 36 rounds each actor has a turn. Then the second one has no line left, and the others have one turn each.
abbrev pub round_order : List ℕ
round_order = in_turn 36 (0 ∷ 1 ∷ 2 ∷ []) ++ 0 ∷ 2 ∷ []

-- whose turns they are, by the places of the actors
abbrev pub example_order : List ℕ
example_order = replicate 4 0 ++ (replicate 2 1 ++ (replicate 3 1 ++ (replicate 4 2 ++ round_order)))

-- The next steps of actors in this order are all the steps of a weave of the trace, which answers each line and prints these bytes. And each whole text of a
-- weave of this trace is these bytes.
pub record WeavesInOrder (trace : Trace) (limit : ℕ) (order bytes : List ℕ) : Type 0 where
  pub closing : World Held
  pub weaves : WeavesAll trace limit bytes closing
  pub steps : weaves.weaves.so_far.steps ≡ turns_of (sizes_of trace.header) weaves.weaves.so_far.start order
  pub only : (other : World Held) (text : List ℕ) → IsWholeText trace limit other text → text ≡ bytes

-- The turns in this order are those of the one weave of this trace, which prints this text, where the limit has room for the 110 turns in rounds. The text
-- would be another one if an item that names a count, or a kind, or both, ended a turn early; or if the rounds began with another processor, or went round the
-- other way.
abbrev pub ExampleWeaves : Type 0
ExampleWeaves = (limit : ℕ) → 110 ≤ limit → WeavesInOrder example_trace limit example_order (codes "4 v1 mmio\n3 v0 mmio\n5 v2 mmio\n")
