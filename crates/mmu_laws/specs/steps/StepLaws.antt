-- What the numbers of a step tell: of which area its word is, whether its line ends with it, and what it leaves of what is cached.
use Rattle.std.specs.Prelude.{◌≡◌, ◌<◌, ◌⊎◌, ℕ, Bool, true, false, []}
use Rattle.circular_buffer.specs.Buffer.{Buffer}
use Rattle.core_views.specs.declared.cache.Translation.{Translation}
use Rattle.core_views.specs.declared.kind.Kind.{Kind}
use Rattle.core_views.specs.declared.kind.StepKind.{StepKind}
use Rattle.core_views.specs.declared.kind.StepKind.TheVariants as kind
use Rattle.core_views.specs.declared.sizes.Sizes.{Sizes}
use Rattle.core_views.specs.Held.{Held}
use Rattle.core_views.specs.Kinds.{kind_named}
use Rattle.spte_words.specs.declared.area.Area.{Area}
use Rattle.spte_words.specs.declared.area.Area.TheVariants as area
use Rattle.spte_words.specs.Areas.{place, size_of}
use Rattle.spte_words.specs.HostWords.{host_level, with_frame, with_presence, with_writes}
use Rattle.mmu_core.specs.forms.host.HostSteps.{entry_of}
use Rattle.mmu_core.specs.forms.access.Cached.{asks_flush, with_leaf}
use Rattle.mmu_core.specs.machine.Enabled.{Enabled}
use Rattle.mmu_core.specs.machine.Steps.{next}
use Rattle.part_steps.specs.Tasks.{map_of}

-- The words that are loaded as control words: those of the machine's control, and those of the maps of what is free.
abbrev pub IsControl : Area → Type 0
IsControl area.Root = Unit {0}
IsControl area.Slots = Unit {0}
IsControl area.Seq = Unit {0}
IsControl area.Count = Unit {0}
IsControl area.RangeStart = Unit {0}
IsControl area.RangeEnd = Unit {0}
IsControl area.Pause = Unit {0}
IsControl area.PoolMap = Unit {0}
IsControl area.FrameMap = Unit {0}
IsControl _ = ⊥

-- The words of the invalidations.
abbrev pub IsOfInvalidations : Area → Type 0
IsOfInvalidations area.Seq = Unit {0}
IsOfInvalidations area.Count = Unit {0}
IsOfInvalidations area.RangeStart = Unit {0}
IsOfInvalidations area.RangeEnd = Unit {0}
IsOfInvalidations _ = ⊥

-- Steps of the kind are on words of this area.
abbrev pub IsOn : StepKind → Area → Type 0
IsOn kind.Enter a = a ≡ area.State
IsOn kind.Leave a = a ≡ area.State
IsOn kind.Begin a = a ≡ area.State
IsOn kind.End a = a ≡ area.State
IsOn kind.Watch a = a ≡ area.State
IsOn kind.Ask a = a ≡ area.State
IsOn kind.Await a = a ≡ area.State
IsOn kind.Set a = IsOfInvalidations a
IsOn kind.Control a = IsControl a
IsOn kind.Share a = a ≡ area.Lock
IsOn kind.Unshare a = a ≡ area.Lock
IsOn kind.Exclude a = a ≡ area.Lock
IsOn kind.Release a = a ≡ area.Lock
IsOn kind.Claim a = a ≡ area.PoolMap
IsOn kind.Give a = a ≡ area.PoolMap
IsOn kind.Publish a = a ≡ area.Slots
IsOn kind.Fill a = (a ≡ area.Pool) ⊎ (a ≡ area.Role) ⊎ (a ≡ area.Content)
IsOn kind.Slot a = a ≡ area.Pool
IsOn kind.Walk a = a ≡ area.Pool
IsOn kind.Swap a = a ≡ area.Pool
IsOn kind.Zap a = a ≡ area.Pool
IsOn kind.Host a = a ≡ area.Host
IsOn kind.Bring a = a ≡ area.Host
IsOn kind.Change a = a ≡ area.Host
IsOn kind.Copy a = a ≡ area.Content
IsOn kind.Frame a = a ≡ area.FrameMap
IsOn kind.Unframe a = a ≡ area.FrameMap
IsOn kind.Read a = a ≡ area.Content
IsOn kind.Write a = a ≡ area.Content
IsOn kind.Add a = a ≡ area.Content
IsOn kind.Mark a = a ≡ area.Log
IsOn kind.Take a = a ≡ area.Log
IsOn kind.Protect a = a ≡ area.Pool
IsOn kind.Peek a = a ≡ area.Log
IsOn kind.Arm a = a ≡ area.Log

-- The step's word is one of an area of its kind.
pub record IsOnItsArea (z : Sizes) (k : Kind) : Type 0 where
  pub area : Area
  pub index : ℕ
  pub there : index < size_of (map_of z) area
  pub at : k.word ≡ place (map_of z) area index
  pub of_kind : IsOn (kind_named k.code) area

-- Each step that a hand allows is so, a line's or a part's.
abbrev pub StepsAreOnTheirAreas : Type 0
StepsAreOnTheirAreas = (h : Held) (k : Kind) → Enabled h k → IsOnItsArea h.state.sizes k

-- Who enters the guest with a flush asked for has nothing cached after that step.
abbrev pub EnteringFlushes : Type 0
EnteringFlushes = (h : Held) (k : Kind) (v : ℕ) → Enabled h k → kind_named k.code ≡ kind.Enter → asks_flush v ≡ true → (next h k v).cached.items ≡ []

-- What is cached stays, or one translation is cached before all others.
abbrev pub CachesOneAtMost : Buffer Translation → Buffer Translation → Type 0
CachesOneAtMost before after = (after ≡ before) ⊎ ((t : Translation) × (after ≡ with_leaf t.gfn t.level t.leaf before))

-- Each other step leaves at most one more translation.
abbrev pub OthersCacheOneAtMost : Type 0
OthersCacheOneAtMost =
    (h : Held) (k : Kind) (v : ℕ) → Enabled h k → (kind_named k.code ≡ kind.Enter → asks_flush v ≡ false) → CachesOneAtMost h.cached (next h k v).cached

-- The host word that is put to allow writes or forbid them, to have the page in memory or not, or at another frame, is as the one before it but for this.
pub record WordsTell (one : Bool) (frame word : ℕ) : Type 0 where
  pub frames : entry_of (with_frame frame word) ≡ record (entry_of word) { frame = frame }
  pub frames_level : host_level (with_frame frame word) ≡ host_level word
  pub writes : entry_of (with_writes one word) ≡ record (entry_of word) { writable = one }
  pub writes_level : host_level (with_writes one word) ≡ host_level word
  pub presence : entry_of (with_presence one word) ≡ record (entry_of word) { present = one }
  pub presence_level : host_level (with_presence one word) ≡ host_level word

abbrev pub RevisedWordsTell : Type 0
RevisedWordsTell = (one : Bool) (frame word : ℕ) → WordsTell one frame word
