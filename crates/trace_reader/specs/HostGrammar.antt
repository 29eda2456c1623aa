-- The words of a host thread's lines.
use Rattle.std.specs.Prelude.{◌≡◌, ◌∷◌, [], ℕ, List, codes}
use Rattle.core_views.specs.Text.{actor_name}
use Rattle.core_views.specs.declared.actor.Actor.TheVariants.{Host}
use Rattle.core_views.specs.declared.trace.HostChange.{HostChange}
use Rattle.core_views.specs.declared.trace.HostChange.TheVariants.{Allow, Evict, Move, Protect}

-- The word is that of a host thread's line that makes this change of one page.
abbrev pub TellsChange : List ℕ → HostChange → Type 0
TellsChange w Move = w ≡ codes "move"
TellsChange w Evict = w ≡ codes "evict"
TellsChange w Protect = w ≡ codes "protect"
TellsChange w Allow = w ≡ codes "allow"

-- the words of `hN WORD P`
abbrev pub page_words : ℕ → List ℕ → List ℕ → List (List ℕ)
page_words i command p = actor_name (Host i) ∷ command ∷ p ∷ []

-- the words of `hN huge P L`
abbrev pub huge_words : ℕ → List ℕ → List ℕ → List (List ℕ)
huge_words i p l = actor_name (Host i) ∷ codes "huge" ∷ p ∷ l ∷ []

-- The words are those of a line by which this host thread changes one page, whatever stands in the number's place.
abbrev pub IsChangeForm : ℕ → List (List ℕ) → Type 0
IsChangeForm i words = (command p : List ℕ) × (change : HostChange) × TellsChange command change × (words ≡ page_words i command p)

-- The words are those of a line by which it maps a run as one large page, whatever stands in the numbers' places.
abbrev pub IsHugeForm : ℕ → List (List ℕ) → Type 0
IsHugeForm i words = (p l : List ℕ) × (words ≡ huge_words i p l)

-- The words are those of a line by which it maps the pages of a large page by themselves, whatever stands in the number's place.
abbrev pub IsSmallForm : ℕ → List (List ℕ) → Type 0
IsSmallForm i words = (p : List ℕ) × (words ≡ page_words i (codes "small") p)
