-- Which word of the machine the words of a call name, and what they ask to see.
use Rattle.std.specs.Prelude.{◌≡◌, ◌≢◌, ◌<◌, ℕ, Bool, List, ◌||◌, Option, Some, None, is_some, Result, Ok, Err}
use Rattle.core_views.specs.declared.sizes.Sizes.{Sizes}
use Rattle.part_steps.specs.Tasks.{map_of}
use Rattle.show_options.specs.Faults.{word_at}
use Rattle.show_options.specs.declared.asked.Asked.{Asked}
use Rattle.show_options.specs.declared.fault.Fault.{Fault}
use Rattle.show_options.specs.declared.fault.Wrong.TheVariants.{NoWord}
use Rattle.spte_words.specs.Areas.{total}
use Rattle.step_text.specs.Names.{word_text}
use Rattle.step_text.specs.declared.word_place.WordPlace.{WordPlace}
use Rattle.step_printing.specs.Rows.{place_in}
use Rattle.step_printing.specs.declared.view.View.{View}

-- The place is that of a word of the machine that has this name; without one no word has it.
abbrev pub IsWordNamed : Sizes → List ℕ → Option WordPlace → Type 0
IsWordNamed z name (Some place) = (word : ℕ) × (word < total (map_of z)) × (place ≡ place_in (map_of z) word) × (word_text z place ≡ name)
IsWordNamed z name None = (word : ℕ) → word < total (map_of z) → word_text z (place_in (map_of z) word) ≢ name

-- The word that one of the words of the call names, where one is to name it.
abbrev pub IsWordAsked : Sizes → List (List ℕ) → Option ℕ → Option WordPlace → Type 0
IsWordAsked z words None place = place ≡ None
IsWordAsked z words (Some at) place = (there : WordPlace) × (place ≡ Some there) × IsWordNamed z (word_at words at) place

-- something is asked for besides a form and a run
abbrev pub has_options : Asked → Bool
has_options a = is_some a.from || (is_some a.to || (is_some a.actor || (is_some a.kind || (is_some a.word || a.changes))))

-- The view shows what is asked for. Turns that wait at one word share a line only where something is.
pub record IsViewOf (z : Sizes) (words : List (List ℕ)) (a : Asked) (v : View) : Type 0 where
  pub from : v.from ≡ a.from
  pub to : v.to ≡ a.to
  pub actor : v.actor ≡ a.actor
  pub kind : v.kind ≡ a.kind
  pub word : IsWordAsked z words a.word v.word
  pub changes : v.changes ≡ a.changes
  pub folds : v.folds ≡ has_options a

-- A word is asked for, and no word of the machine has this name.
abbrev pub LacksWord : Sizes → List (List ℕ) → Asked → Fault → Type 0
LacksWord z words a fault =
    (at : ℕ) × (a.word ≡ Some at) × IsWordNamed z (word_at words at) None × (fault ≡ record { at = at; wrong = NoWord })

-- what is shown, or what is wrong
abbrev pub MakesView : Sizes → List (List ℕ) → Asked → Result View Fault → Type 0
MakesView z words a (Ok v) = IsViewOf z words a v
MakesView z words a (Err fault) = LacksWord z words a fault
