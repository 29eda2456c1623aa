-- A machine of words and hands, for any kinds of step: each step reads and writes one word, and changes the hand of the actor that makes it.
use Rattle.std.specs.Prelude.{◌≡◌, ◌<◌, ℕ, List, [], ◌∷◌, length, slice_index, slice_index_or, slice_set}

-- What a step may do, where H is what an actor holds and K a kind of step with its numbers: whether the hand allows it, its word,
-- what stands in the word after it and what it answers, of the number found there, and the hand after that answer.
-- `nobody` stands for the hand of an actor that is none.
pub record Core (H K : Type 0) : Type 1 where
  pub Enabled : H → K → Type 0
  pub word : K → ℕ
  pub after : K → ℕ → ℕ
  pub answer : K → ℕ → ℕ
  pub next : H → K → ℕ → H
  pub nobody : H

-- all words, and the hands by the places of their actors
pub record World (H : Type 0) : Type 0 where
  pub words : List ℕ
  pub hands : List H

-- one step of the actor at a place
pub record Step (K : Type 0) : Type 0 where
  pub actor : ℕ
  pub kind : K

module _ {H K : Type 0} (C : Core H K) where
  abbrev pub hand_in : World H → ℕ → H
  hand_in w actor = slice_index_or w.hands actor C.nobody

  -- what a step of this kind finds in its word, and what it answers
  abbrev pub found : World H → K → ℕ
  found w k = slice_index w.words (C.word k)

  abbrev pub answered : World H → K → ℕ
  answered w k = C.answer k (found w k)

  -- the world after a step: one word and one hand may differ
  unfoldable pub effect : World H → Step K → World H
  effect w s = record {
    words = slice_set w.words (C.word s.kind) (C.after s.kind (found w s.kind));
    hands = slice_set w.hands s.actor (C.next (hand_in w s.actor) s.kind (answered w s.kind));
  }

  -- The actor is there, its hand allows the step, and the word is one of the words.
  pub record May (w : World H) (s : Step K) : Type 0 where
    pub there : s.actor < length w.hands
    pub enabled : C.Enabled (hand_in w s.actor) s.kind
    pub inside : C.word s.kind < length w.words

  -- the world after a list of steps
  abbrev pub run : World H → List (Step K) → World H
  run w [] = w
  run w (s ∷ ss) = run (effect w s) ss

  -- Each step of the list may be made when its turn comes.
  abbrev pub Legal : World H → List (Step K) → Type 0
  Legal w [] = Unit {0}
  Legal w (s ∷ ss) = May w s × Legal (effect w s) ss

  -- Some list of steps leads from one world to the other.
  pub record Leads (w t : World H) : Type 0 where
    pub steps : List (Step K)
    pub legal : Legal w steps
    pub ends : run w steps ≡ t
