-- What the answers of a migration tell: no page is left to copy, and how many were copied.
use Rattle.std.specs.Prelude.{◌≡◌, ◌≢◌, ◌+◌, ◌&&◌, ℕ, Bool, List, [], ◌∷◌, ◌++◌, true, false, if◌then◌else◌, is_some}
use Rattle.core_views.specs.declared.actor.Actor.{Actor}
use Rattle.core_views.specs.declared.answer.Answer.{Answer}
use Rattle.core_views.specs.declared.answer.Answer.TheVariants.{Copied, Image}
use Rattle.core_views.specs.declared.event.Event.{Event}
use Rattle.core_views.specs.declared.event.EventKind.{EventKind}
use Rattle.core_views.specs.declared.event.EventKind.TheVariants.{Answered, Begun, WordCopied}
use Rattle.core_views.specs.declared.sizes.Sizes.{Sizes}
use Rattle.core_views.specs.declared.trace.Line.{Line}
use Rattle.core_views.specs.Actors.{is_same}
use Rattle.core_views.specs.Events.{after_all}
use Rattle.core_views.specs.Flat.{first_flat}
use Rattle.core_views.specs.Lawful.{IsLawful}
use Rattle.core_views.specs.SlotSets.{slot_holding}
use Rattle.flat_laws.specs.Images.{OnlyManages}

-- It is the answer of a line that has copied pages: how many, or the image.
abbrev pub tells_copies : Answer → Bool
tells_copies (Copied pages) = true
tells_copies (Image words) = true
tells_copies _ = false

-- The actor is answered so.
abbrev pub answered : Actor → ℕ → Answer → Event
answered actor number answer = record { actor = actor; kind = Answered number answer }

-- After every lawful history in which one actor alone manages: where this actor is answered so, no page of a slot is left to copy.
abbrev pub NoneIsLeftToCopy : Type 0
NoneIsLeftToCopy =
    (z : Sizes) (history : List Event) (migrator : Actor) (number : ℕ) (answer : Answer)
    → IsLawful z first_flat (history ++ (answered migrator number answer ∷ [])) → OnlyManages migrator history → tells_copies answer ≡ true
    → (gfn : ℕ) → (after_all history first_flat).facts.to_copy gfn ≡ true
    → is_some (slot_holding gfn (after_all history first_flat).facts.slots) ≡ true → ⊥

-- A page is copied with its last word.
abbrev pub copies_page : EventKind → Bool
copies_page (WordCopied gfn page word value whole) = whole
copies_page _ = false

-- how many pages the actor copies in these events
abbrev pub pages_copied : Actor → List Event → ℕ
pages_copied actor [] = 0
pages_copied actor (e ∷ es) = (if is_same e.actor actor && copies_page e.kind then 1 else 0) + pages_copied actor es

-- The actor begins no line in this event, and in none of these.
abbrev pub BeginsNot : Actor → Actor → EventKind → Type 0
BeginsNot actor other (Begun line) = other ≢ actor
BeginsNot _ _ _ = Unit {0}

abbrev pub BeginsNone : Actor → List Event → Type 0
BeginsNone actor [] = Unit {0}
BeginsNone actor (e ∷ es) = BeginsNot actor e.actor e.kind × BeginsNone actor es

-- In every lawful history: a line that is answered how many pages it has copied has copied so many, from its begin on.
abbrev pub CopiedTellsPages : Type 0
CopiedTellsPages =
    (z : Sizes) (before since : List Event) (actor : Actor) (line : Line) (number pages : ℕ)
    → IsLawful z first_flat (before ++ (record { actor = actor; kind = Begun line } ∷ (since ++ (answered actor number (Copied pages) ∷ []))))
    → BeginsNone actor since → pages ≡ pages_copied actor since
