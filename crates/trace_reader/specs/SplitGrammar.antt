-- The words of a line that splits a large leaf.
use Rattle.std.specs.Prelude.{◌≡◌, ℕ, List, [], ◌∷◌, codes}
use Rattle.core_views.specs.Text.{actor_name}
use Rattle.core_views.specs.declared.actor.Actor.TheVariants.{Worker}

-- the words of `wN split GFN`
abbrev pub split_words : ℕ → List ℕ → List (List ℕ)
split_words i g = actor_name (Worker i) ∷ codes "split" ∷ g ∷ []

-- The words are those of a split of this worker, whatever stands in the number's place.
abbrev pub IsSplitForm : ℕ → List (List ℕ) → Type 0
IsSplitForm i words = (g : List ℕ) × (words ≡ split_words i g)
