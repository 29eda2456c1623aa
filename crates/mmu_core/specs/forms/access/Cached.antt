-- Cached translations: which guest frames one covers, what it allows, and which of a list is used.
use Rattle.std.specs.Prelude.{◌≡◌, ◌/◌, ◌==◌, ◌&&◌, ◌||◌, ℕ, Bool, List, [], ◌∷◌, find, not, take, Option, Some, if◌then◌else◌}
use Rattle.circular_buffer.specs.Buffer.{Buffer, buffer}
use Rattle.core_views.specs.declared.cache.Translation.{Translation}
use Rattle.core_views.specs.declared.kind.Kind.{Kind}
use Rattle.core_views.specs.declared.kind.StepKind.{StepKind}
use Rattle.core_views.specs.declared.kind.StepKind.TheVariants as kind
use Rattle.core_views.specs.Held.{Held, State}
use Rattle.core_views.specs.Kinds.{kind_named}
use Rattle.spte_words.specs.Bits.{has_bit}
use Rattle.spte_words.specs.Entries.{can_write, mapped_frame, level_span}

-- The leaf's span holds the guest frame, as it holds the one that the walk was for.
abbrev pub covers : ℕ → Translation → Bool
covers gfn t = gfn / level_span t.level == t.gfn / level_span t.level

-- A leaf allows reads, and writes where it is writable.
abbrev pub allows : Bool → Translation → Bool
allows write t = not write || can_write t.leaf

-- An access of this guest frame may use it.
abbrev pub is_usable : ℕ → Bool → Translation → Bool
is_usable gfn write t = covers gfn t && allows write t

-- the newest translation that covers the guest frame and allows the access
abbrev pub first_usable : ℕ → Bool → List Translation → Option Translation
first_usable gfn write ts = find (is_usable gfn write) ts

-- The translation that the actor uses is the newest one in its cache that covers the guest frame and allows the access.
abbrev pub UsesTranslation : ℕ → Bool → Held → Type 0
UsesTranslation gfn write h = first_usable gfn write h.cached.items ≡ Some h.state.used

-- the frame that a guest frame has by the translation in use
abbrev pub frame_used : ℕ → State → ℕ
frame_used gfn s = mapped_frame s.used.level s.used.leaf gfn

-- Bit 2 of a state word: a flush is asked for (vcpu-requests.rst, KVM_REQ_TLB_FLUSH).
abbrev pub asks_flush : ℕ → Bool
asks_flush state = has_bit 2 state

-- A leaf is cached before all others, and where there is no room the oldest goes.
abbrev pub with_leaf : ℕ → ℕ → ℕ → Buffer Translation → Buffer Translation
with_leaf gfn level leaf cached = buffer (take cached.capacity (record { gfn = gfn; level = level; leaf = leaf } ∷ cached.items)) cached.capacity

-- Who enters the guest and finds a flush asked for has nothing cached any more.
abbrev pub flushed_by : StepKind → Buffer Translation → ℕ → Buffer Translation
flushed_by kind.Enter cached v = if asks_flush v then buffer [] cached.capacity else cached
flushed_by _ cached v = cached

unfoldable pub flushed : Kind → Buffer Translation → ℕ → Buffer Translation
flushed k cached v = flushed_by (kind_named k.code) cached v
