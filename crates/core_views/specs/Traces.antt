-- What a trace may hold: the ranges of its header and of its lines.
use Rattle.std.specs.Prelude.{◌≡◌, ◌+◌, ◌/◌, ◌*◌, ◌%◌, ◌^◌, ◌<◌, ◌≤◌, ◌⊎◌, ℕ, List, All, Some, IfSome, length, map, slice_get}
use Rattle.std.specs.List.Sorted.{IsStrictlyIncreasing}
use Rattle.core_views.specs.declared.actor.Actor.{Actor}
use Rattle.core_views.specs.declared.actor.Actor.TheVariants.{Vcpu, Host, Manager, Worker}
use Rattle.core_views.specs.declared.trace.Command.{Command}
use Rattle.core_views.specs.declared.trace.Command.TheVariants.{Access, ChangeHost, ChangeRun, ClearLog, DeleteSlot, GetLog, SetLog, SetSlot, Split}
use Rattle.core_views.specs.declared.trace.Header.{Header}
use Rattle.core_views.specs.declared.trace.Item.{Item}
use Rattle.core_views.specs.declared.trace.Line.{Line}
use Rattle.core_views.specs.declared.trace.Op.{Op}
use Rattle.core_views.specs.declared.trace.Op.TheVariants.{Add, Read, Write}
use Rattle.core_views.specs.declared.trace.Slot.{Slot}
use Rattle.core_views.specs.declared.trace.RunChange.{RunChange}
use Rattle.core_views.specs.declared.trace.RunChange.TheVariants.{Huge, Small}
use Rattle.core_views.specs.declared.trace.Trace.{Trace}
use Rattle.core_views.specs.declared.trace.Until.{Until}
use Rattle.core_views.specs.declared.trace.Until.TheVariants.{Turns, Answered, Made}
use Rattle.core_views.specs.declared.sizes.Sizes.{Sizes}
use Rattle.core_views.specs.Sizes.{sizes_of}

-- The slot's numbers are in the ranges of a line.
pub record IsSlotInRange (slot : Slot) : Type 0 where
  pub some : 1 ≤ slot.pages
  pub pages : slot.pages < 2 ^ 36
  pub base : slot.base < 2 ^ 36
  pub host : slot.host < 2 ^ 36
  pub aligned : slot.host % 64 ≡ 0

-- The number that the operation writes or adds, if it does, has 64 bits.
abbrev pub WritesOneWord : Op → Type 0
WritesOneWord Read = Unit {0}
WritesOneWord (Write x) = x < 2 ^ 64
WritesOneWord (Add x) = x < 2 ^ 64

-- A run that is made large is one of a level above that of small pages.
abbrev pub IsRunChange : RunChange → Type 0
IsRunChange (Huge level) = (2 ≤ level) × (level ≤ 3)
IsRunChange Small = Unit {0}

-- The actor makes such lines, and the machine has it; the line's numbers are in their ranges.
abbrev pub IsCommandFor : Sizes → Actor → Command → Type 0
IsCommandFor z (Vcpu n) (Access gfn word op) = (n < z.vcpus) × (gfn < 2 ^ 36) × (word < z.words) × WritesOneWord op
IsCommandFor z Manager (SetSlot id slot) = IsSlotInRange slot
IsCommandFor z Manager (DeleteSlot id) = Unit {0}
IsCommandFor z Manager (SetLog id on) = Unit {0}
IsCommandFor z Manager (GetLog id) = Unit {0}
IsCommandFor z Manager (ClearLog id first count words) = (length words ≡ (count + 63) / 64) × All (λ word. word < 2 ^ 64) words
IsCommandFor z (Host n) (ChangeHost page change) = n < z.hosts
IsCommandFor z (Host n) (ChangeRun page change) = (n < z.hosts) × IsRunChange change
IsCommandFor z (Worker n) (Split gfn) = (n < z.workers) × (gfn < 2 ^ 36)
IsCommandFor z _ _ = ⊥

-- The same of the machine of a header.
abbrev pub IsCommandOf : Header → Actor → Command → Type 0
IsCommandOf h actor command = IsCommandFor (sizes_of h) actor command

abbrev pub IsLineOf : Header → Line → Type 0
IsLineOf h line = IsCommandOf h line.actor line.command

-- Each line is one that the header allows.
abbrev pub AreLinesOf : Header → List Line → Type 0
AreLinesOf h lines = All (IsLineOf h) lines

-- One to four host threads own all pages: the first from page 0 on, and each from a page behind the one before.
pub record AreHostsOf (pages : ℕ) (hosts : List ℕ) : Type 0 where
  pub first : slice_get hosts 0 ≡ Some 0
  pub count : length hosts ≤ 4
  pub rising : IsStrictlyIncreasing hosts
  pub below : All (λ page. page < pages) hosts

-- The header's numbers are in their ranges.
pub record IsHeader (h : Header) : Type 0 where
  pub version : h.version ≡ 1
  pub vcpus : (1 ≤ h.vcpus) × (h.vcpus ≤ 16)
  pub workers : h.workers ≤ 4
  pub pages : (1 ≤ h.pages) × (h.pages ≤ 1048576)
  pub frames : (h.pages ≤ h.frames) × (h.frames ≤ 2097152)
  pub words : (h.words ≡ 1) ⊎ (h.words ≡ 2) ⊎ (h.words ≡ 4) ⊎ (h.words ≡ 8)
  pub content : h.frames * h.words ≤ 8388608
  pub pool : (4 ≤ h.pool) × (h.pool ≤ 16384)
  pub cache : (1 ≤ h.cache) × (h.cache ≤ 64)
  pub manual : h.manual ≤ 2
  pub hosts : AreHostsOf h.pages h.hosts

-- The machine has the actor.
abbrev pub HasActor : Sizes → Actor → Type 0
HasActor z (Vcpu n) = n < z.vcpus
HasActor z (Host n) = n < z.hosts
HasActor z Manager = Unit {0}
HasActor z (Worker n) = n < z.workers

-- A schedule item names so many turns, or one of the 41 kinds of step.
abbrev pub IsUntilInRange : Until → Type 0
IsUntilInRange (Turns count) = (1 ≤ count) × (count ≤ 10000000)
IsUntilInRange Answered = Unit {0}
IsUntilInRange (Made code) = (1 ≤ code) × (code ≤ 41)

-- The item is of an actor of the machine, and its number is in its range.
pub record IsItemOf (h : Header) (item : Item) : Type 0 where
  pub actor : HasActor (sizes_of h) item.actor
  pub until : IsUntilInRange item.until

-- All numbers of the trace are in their ranges, and its lines stand in the order of their numbers, which differ, and are 1,000,000 at most.
pub record IsTrace (t : Trace) : Type 0 where
  pub header : IsHeader t.header
  pub lines : AreLinesOf t.header t.lines
  pub rising : IsStrictlyIncreasing (map (λ line. line.number) t.lines)
  pub few : length t.lines ≤ 1000000
  pub go : IfSome t.go (λ above. above ≤ length t.lines)
  pub items : All (IsItemOf t.header) t.items
