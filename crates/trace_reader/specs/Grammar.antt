-- What the words of an actor's line say, in the words of its form.
use Rattle.std.specs.Prelude.{◌≡◌, ◌≤◌, ◌<◌, ◌+◌, ◌*◌, ◌/◌, ◌%◌, ◌^◌, ◌⊎◌, ◌++◌, ◌==◌, ℕ, List, [], ◌∷◌, codes, Bool, true, not, length, if◌then◌else◌}
use Rattle.std.specs.List.{AllZip, list_all, join_with_byte}
use Rattle.std.specs.Fmt.{decimal}
use Rattle.core_views.specs.Text.{actor_name}
use Rattle.core_views.specs.declared.actor.Actor.{Actor}
use Rattle.core_views.specs.declared.actor.Actor.TheVariants.{Vcpu, Host, Manager, Worker}
use Rattle.core_views.specs.declared.trace.Command.{Command}
use Rattle.core_views.specs.declared.trace.Command.TheVariants.{Access, ChangeHost, ChangeRun, ClearLog, DeleteSlot, GetLog, SetLog, SetSlot, Split}
use Rattle.core_views.specs.declared.trace.Op.TheVariants.{Read, Write, Add}
use Rattle.core_views.specs.declared.trace.RunChange.TheVariants.{Huge, Small}
use Rattle.core_views.specs.declared.trace.Header.{Header}
pub use Rattle.trace_reader.specs.Numbers.{Spells}
pub use Rattle.trace_reader.specs.SplitGrammar.{IsSplitForm, split_words}
use Rattle.trace_reader.specs.HostGrammar.{IsChangeForm, IsHugeForm, IsSmallForm, TellsChange, huge_words, page_words}

-- The words with one space between each two, and none at either end.
abbrev pub spaced : List (List ℕ) → List ℕ
spaced words = join_with_byte 32 words

-- the words of `vN read A`
abbrev pub read_words : ℕ → List ℕ → List (List ℕ)
read_words i a = actor_name (Vcpu i) ∷ codes "read" ∷ a ∷ []

-- the words of `vN write A X`
abbrev pub write_words : ℕ → List ℕ → List ℕ → List (List ℕ)
write_words i a x = actor_name (Vcpu i) ∷ codes "write" ∷ a ∷ x ∷ []

-- the words of `vN add A X`
abbrev pub add_words : ℕ → List ℕ → List ℕ → List (List ℕ)
add_words i a x = actor_name (Vcpu i) ∷ codes "add" ∷ a ∷ x ∷ []

-- the last word of a read-only slot's line
abbrev pub ending : Bool → List (List ℕ)
ending read_only = if read_only then codes "ro" ∷ [] else []

-- the words of `vm slot ID BASE PAGES HOST [ro]`
abbrev pub slot_words : List ℕ → List ℕ → List ℕ → List ℕ → Bool → List (List ℕ)
slot_words i b p k read_only = actor_name Manager ∷ codes "slot" ∷ i ∷ b ∷ p ∷ k ∷ ending read_only

-- the words of `vm logon ID` and `vm logoff ID`
abbrev pub log_words : Bool → List ℕ → List (List ℕ)
log_words on i = actor_name Manager ∷ (if on then codes "logon" else codes "logoff") ∷ i ∷ []

-- the words of `vm get ID`
abbrev pub get_words : List ℕ → List (List ℕ)
get_words i = actor_name Manager ∷ codes "get" ∷ i ∷ []

-- the words of `vm clear ID FIRST COUNT WORD ..`
abbrev pub clear_words : List ℕ → List ℕ → List ℕ → List (List ℕ) → List (List ℕ)
clear_words i f c ws = actor_name Manager ∷ codes "clear" ∷ i ∷ f ∷ c ∷ ws

-- BASE and HOST are in the ranges that a slot's have.
abbrev pub AreSlotPlaces : ℕ → ℕ → Type 0
AreSlotPlaces base host = (base < 2 ^ 36) × (host < 2 ^ 36) × (host % 64 ≡ 0)

-- The words are of the command's form, and spell its numbers. A deletion is a slot line with no pages: its command has the ID alone, so that its BASE
-- and HOST are checked here, by the reader, and `ro` may stand in it.
abbrev pub AreCommandWords : List (List ℕ) → Actor → Command → Type 0
AreCommandWords words (Vcpu i) (Access gfn word Read) = (a : List ℕ) × (words ≡ read_words i a) × Spells a (4096 * gfn + 8 * word)
AreCommandWords words (Vcpu i) (Access gfn word (Write v)) = (a x : List ℕ) × (words ≡ write_words i a x) × Spells a (4096 * gfn + 8 * word) × Spells x v
AreCommandWords words (Vcpu i) (Access gfn word (Add v)) = (a x : List ℕ) × (words ≡ add_words i a x) × Spells a (4096 * gfn + 8 * word) × Spells x v
AreCommandWords words Manager (SetSlot id slot) =
    (i b p k : List ℕ) × (words ≡ slot_words i b p k slot.read_only) × Spells i id × Spells b slot.base × Spells p slot.pages × Spells k slot.host
AreCommandWords words Manager (DeleteSlot id) =
    (i b p k : List ℕ) × (base host : ℕ) × (read_only : Bool) × (words ≡ slot_words i b p k read_only) × Spells i id × Spells b base × Spells p 0
    × Spells k host × AreSlotPlaces base host
AreCommandWords words Manager (SetLog id on) = (i : List ℕ) × (words ≡ log_words on i) × Spells i id
AreCommandWords words Manager (GetLog id) = (i : List ℕ) × (words ≡ get_words i) × Spells i id
AreCommandWords words Manager (ClearLog id first count bits) =
    (i f c : List ℕ) × (ws : List (List ℕ)) × (words ≡ clear_words i f c ws) × Spells i id × Spells f first × Spells c count × AllZip Spells ws bits
AreCommandWords words (Host i) (ChangeHost page change) =
    (command p : List ℕ) × TellsChange command change × (words ≡ page_words i command p) × Spells p page
AreCommandWords words (Host i) (ChangeRun page (Huge level)) = (p l : List ℕ) × (words ≡ huge_words i p l) × Spells p page × Spells l level
AreCommandWords words (Host i) (ChangeRun page Small) = (p : List ℕ) × (words ≡ page_words i (codes "small") p) × Spells p page
AreCommandWords words (Worker i) (Split gfn) = (g : List ℕ) × (words ≡ split_words i g) × Spells g gfn
AreCommandWords words _ _ = ⊥

-- The word has bytes, and no space.
pub record IsWord (w : List ℕ) : Type 0 where
  pub filled : 1 ≤ length w
  pub plain : list_all (λ b. not (b == 32)) w ≡ true

-- Each of them is a word.
abbrev pub AreWords : List (List ℕ) → Type 0
AreWords [] = Unit {0}
AreWords (w ∷ ws) = IsWord w × AreWords ws

-- The words are those of an access of this virtual processor, whatever stands in the numbers' places.
abbrev pub IsAccessForm : ℕ → List (List ℕ) → Type 0
IsAccessForm i words = ((a : List ℕ) × (words ≡ read_words i a)) ⊎ ((a x : List ℕ) × (words ≡ write_words i a x)) ⊎ ((a x : List ℕ) × (words ≡ add_words i a x))

-- The words are those of a slot line, whatever stands in the numbers' places.
abbrev pub IsSlotForm : List (List ℕ) → Type 0
IsSlotForm words = (i b p k : List ℕ) × (read_only : Bool) × (words ≡ slot_words i b p k read_only)

-- The words are those of a line that turns a dirty log on or off, whatever stands in the number's place.
abbrev pub IsLogForm : List (List ℕ) → Type 0
IsLogForm words = (i : List ℕ) × (on : Bool) × (words ≡ log_words on i)

-- The words are those of a line that gets a dirty log, whatever stands in the number's place.
abbrev pub IsGetForm : List (List ℕ) → Type 0
IsGetForm words = (i : List ℕ) × (words ≡ get_words i)

-- The words are those of a line that clears a dirty log, whatever stands in the numbers' places; but where COUNT is a number, there is a word for each
-- 64 pages.
abbrev pub IsClearForm : List (List ℕ) → Type 0
IsClearForm words =
    (i f c : List ℕ) × (ws : List (List ℕ)) × (words ≡ clear_words i f c ws) × ((count : ℕ) → Spells c count → length ws ≡ (count + 63) / 64)

-- The words are of a form that the actor's own lines have.
abbrev pub IsCommandForm : List (List ℕ) → Actor → Type 0
IsCommandForm words (Vcpu i) = IsAccessForm i words
IsCommandForm words Manager = IsSlotForm words ⊎ IsLogForm words ⊎ IsGetForm words ⊎ IsClearForm words
IsCommandForm words (Host i) = IsChangeForm i words ⊎ IsHugeForm i words ⊎ IsSmallForm i words
IsCommandForm words (Worker i) = IsSplitForm i words

-- Some header declares the actor.
abbrev pub IsActor : Actor → Type 0
IsActor (Vcpu i) = i ≤ 15
IsActor (Host i) = i ≤ 3
IsActor Manager = Unit {0}
IsActor (Worker i) = i ≤ 3

-- The header declares the actor.
abbrev pub IsDeclared : Header → Actor → Type 0
IsDeclared h (Vcpu i) = i < h.vcpus
IsDeclared h (Host i) = i < length h.hosts
IsDeclared h Manager = Unit {0}
IsDeclared h (Worker i) = i < h.workers
