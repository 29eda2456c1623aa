-- Which step tells which event: what a line's step tells of pause, slots, host and memory is of the word that the step is on, and of what it finds
-- and leaves there; a log begins with the publication of its slot set, or with the last flush that is awaited; and a reading or an exit is told with the
-- answer of its line.
use Rattle.std.specs.Prelude.{◌≡◌, ◌+◌, ◌⊎◌, ℕ, List, All, true, false}
use Rattle.core_views.specs.declared.answer.Answer.TheVariants.{Bits}
use Rattle.core_views.specs.declared.event.Event.{Event}
use Rattle.core_views.specs.declared.event.EventKind.{EventKind}
use Rattle.core_views.specs.declared.event.EventKind.TheVariants.{Accessed, Answered, Armed, BroughtIn, Exited, Harvested, HostChanged, LookedAtHost}
use Rattle.core_views.specs.declared.event.EventKind.TheVariants.{LookedAtPause, LookedAtSlots, Shown, SlotChanged, Taken}
use Rattle.core_views.specs.declared.host.HostEntry.{HostEntry}
use Rattle.core_views.specs.declared.kind.Kind.{Kind}
use Rattle.core_views.specs.declared.kind.StepKind.{StepKind}
use Rattle.core_views.specs.declared.kind.StepKind.TheVariants as kind
use Rattle.core_views.specs.declared.sizes.Sizes.{Sizes}
use Rattle.core_views.specs.declared.topics.Hold.TheVariants.{Loose}
use Rattle.core_views.specs.declared.trace.Command.{Command}
use Rattle.core_views.specs.declared.trace.Op.{Op}
use Rattle.core_views.specs.declared.trace.Op.TheVariants.{Add, Read, Write}
use Rattle.core_views.specs.Held.{Held}
use Rattle.core_views.specs.Kinds.{kind_named}
use Rattle.core_views.specs.LogCommands.{takes_out}
use Rattle.spte_words.specs.declared.area.Area.{Area}
use Rattle.spte_words.specs.declared.area.Area.TheVariants as area
use Rattle.spte_words.specs.Areas.{content_index, place}
use Rattle.part_steps.specs.ControlBits.{has_to_flush}
use Rattle.part_steps.specs.SetHoldings.{MayGiveOld}
use Rattle.part_steps.specs.Tasks.{map_of}
use Rattle.mmu_core.specs.declared.outcome.Outcome.{Outcome}
use Rattle.mmu_core.specs.declared.outcome.Outcome.TheVariants.{Ends}
use Rattle.mmu_core.specs.invariant.Laws.{IsSound}
use Rattle.mmu_core.specs.forms.host.HostSteps.{entry_of}
use Rattle.mmu_core.specs.forms.log.LogSteps.{first_word, frames_read, slot_asked, word_end}
use Rattle.mmu_core.specs.machine.Enabled.{mmu}
use Rattle.mmu_core.specs.machine.Machine.{May, Step, World, answered, hand_in}
use Rattle.mmu_core.specs.machine.Steps.{events_of}
use Rattle.mmu_core.specs.machine.Turns.{line_of, outcome_of}

-- The step is of this kind, on this word of this area.
pub record IsOfKindOn (z : Sizes) (of_kind : StepKind) (a : Area) (index : ℕ) (k : Kind) : Type 0 where
  pub kind_is : kind_named k.code ≡ of_kind
  pub on : k.word ≡ place (map_of z) a index

-- It exchanges the host word of this page: it finds the word that it expects, and leaves this entry.
pub record ChangesHostWord (z : Sizes) (page : ℕ) (entry : HostEntry) (k : Kind) (v : ℕ) : Type 0 where
  pub at : IsOfKindOn z kind.Change area.Host page k
  pub won : v ≡ k.old
  pub leaves : entry ≡ entry_of k.new

-- It brings this host page in: it finds the word that it expects, of a page that isn't present, and leaves the same but that the page is.
pub record BringsPageIn (z : Sizes) (page : ℕ) (k : Kind) (v : ℕ) : Type 0 where
  pub at : IsOfKindOn z kind.Bring area.Host page k
  pub won : v ≡ k.old
  pub absent : (entry_of k.old).present ≡ false
  pub leaves : entry_of k.new ≡ record (entry_of k.old) { present = true }

-- the kind of step with which a guest makes this operation
abbrev pub kind_for : Op → StepKind
kind_for Read = kind.Read
kind_for (Write x) = kind.Write
kind_for (Add x) = kind.Add

-- It touches this word of this frame, and finds this value there.
pub record TouchesWord (z : Sizes) (op : Op) (frame word before : ℕ) (k : Kind) (v : ℕ) : Type 0 where
  pub at : IsOfKindOn z (kind_for op) area.Content (content_index (map_of z) frame word) k
  pub finds : v ≡ before

-- It looks at the last virtual processor's state word, and doesn't wait there: no flush is asked for, or the processor is outside of the guest. Its actor,
-- which doesn't have the lock, has asked each one for a flush, and awaited the others.
pub record AwaitsLastFlush (z : Sizes) (h : Held) (k : Kind) (v : ℕ) : Type 0 where
  pub at : IsOfKindOn z kind.Await area.State h.topics.flush.awaited k
  pub seen : has_to_flush v ≡ false
  pub loose : h.topics.hold ≡ Loose
  pub asked : h.topics.flush.asked ≡ h.state.sizes.vcpus
  pub last : h.topics.flush.awaited + 1 ≡ h.state.sizes.vcpus

-- So it does, and its actor has watched each other actor since it published a slot set.
pub record HasAwaited (z : Sizes) (h : Held) (k : Kind) (v : ℕ) : Type 0 where
  pub flushed : AwaitsLastFlush z h k v
  pub watched : MayGiveOld h

-- It gets the lock alone, where it finds that nobody has it, for a command that takes out what it reads.
pub record GetsLockToTake (z : Sizes) (command : Command) (k : Kind) (v : ℕ) : Type 0 where
  pub at : IsOfKindOn z kind.Exclude area.Lock 0 k
  pub free : v ≡ 0
  pub takes : takes_out z.mode command ≡ true

-- It loads this word of a dirty log for the command, which takes nothing out of it.
pub record LoadsLogWord (z : Sizes) (command : Command) (index : ℕ) (k : Kind) : Type 0 where
  pub at : IsOfKindOn z kind.Peek area.Log index k
  pub keeps : takes_out z.mode command ≡ false

-- The last word that the command reads is loaded so.
pub record LoadsLastWord (z : Sizes) (h : Held) (command : Command) (k : Kind) : Type 0 where
  pub index : ℕ
  pub loads : LoadsLogWord z command index k
  pub last : index + 1 ≡ word_end (slot_asked h command) command

-- The line is answered with these bits, which are those of the frames.
pub record IsAnsweredWith (h : Held) (command : Command) (o : Outcome) (frames : List ℕ) : Type 0 where
  pub words : List ℕ
  pub ends : o ≡ Ends (Bits words)
  pub are : frames ≡ frames_read (slot_asked h command) command words

-- A step of this hand with these numbers, which found v, may tell this of its line, of which this comes: a reading begins with the lock, or with its first
-- word where it takes nothing out; it is told with the answer, after the last flush, or with the last word; and an exit is told with the answer.
abbrev pub MayTellOf : Sizes → Held → Command → Outcome → Kind → ℕ → EventKind → Type 0
MayTellOf z h command o k v LookedAtPause = IsOfKindOn z kind.Control area.Pause 0 k
MayTellOf z h command o k v LookedAtSlots = IsOfKindOn z kind.Control area.Slots 0 k
MayTellOf z h command o k v (LookedAtHost page) = IsOfKindOn z kind.Host area.Host page k
MayTellOf z h command o k v (BroughtIn page) = BringsPageIn z page k v
MayTellOf z h command o k v (HostChanged page entry) = ChangesHostWord z page entry k v
MayTellOf z h command o k v (SlotChanged id slot) = IsOfKindOn z kind.Publish area.Slots 0 k
MayTellOf z h command o k v (Armed id true) = IsOfKindOn z kind.Publish area.Slots 0 k
MayTellOf z h command o k v (Armed id false) = HasAwaited z h k v
MayTellOf z h command o k v (Accessed gfn word op frame before) = TouchesWord z op frame word before k v
MayTellOf z h command o k v (Taken id) = GetsLockToTake z command k v ⊎ LoadsLogWord z command (first_word (slot_asked h command) command) k
MayTellOf z h command o k v (Harvested id frames) = AwaitsLastFlush z h k v × IsAnsweredWith h command o frames
MayTellOf z h command o k v (Shown id frames) = LoadsLastWord z h command k × IsAnsweredWith h command o frames
MayTellOf z h command o k v (Exited answer) = o ≡ Ends answer
MayTellOf z h command o k v (Answered number answer) = o ≡ Ends answer
MayTellOf z h command o k v _ = Unit {0}

-- of the line of its next step, which came to what v makes of it
abbrev pub MayTell : Sizes → Held → Kind → ℕ → EventKind → Type 0
MayTell z h k v event = MayTellOf z h (line_of h).command (outcome_of h v) k v event

-- Each step tells such events alone.
abbrev pub EventsAreOfTheirSteps : Type 0
EventsAreOfTheirSteps =
    (z : Sizes) (w : World Held) (s : Step Kind) → IsSound z w → May mmu w s
    → All (λ (e : Event). MayTell z (hand_in mmu w s.actor) s.kind (answered mmu w s.kind) e.kind) (events_of (hand_in mmu w s.actor) (answered mmu w s.kind))
