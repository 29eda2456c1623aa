-- What holds of the names in the lines of steps.
use Rattle.std.specs.Prelude.{◌≡◌, ◌^◌, ◌<◌, ◌≤◌, ℕ, Some}
use Rattle.core_views.specs.declared.sizes.Sizes.{Sizes}
use Rattle.spte_words.specs.Areas.{size_of}
use Rattle.spte_words.specs.declared.word_map.WordMap.{WordMap}
use Rattle.trace_reader.specs.Items.{kind_name, kind_number}
use Rattle.step_text.specs.Names.{word_text}
use Rattle.step_text.specs.declared.word_place.WordPlace.{WordPlace}

-- The place is that of a word of the map, and its index has 32 bits.
pub record IsPlace (m : WordMap) (place : WordPlace) : Type 0 where
  pub within : place.index < size_of m place.area
  pub small : place.index < 2 ^ 32

-- Two words of a map that have the same name are the same word.
abbrev pub NamesTell : Type 0
NamesTell = (z : Sizes) (m : WordMap) (a b : WordPlace) → IsPlace m a → IsPlace m b → word_text z a ≡ word_text z b → a ≡ b

-- The reader finds each kind of step by the name that is printed for it. (In an item it takes `end`, the name of kind 8, as the end of a line.)
abbrev pub KindNamesAreRead : Type 0
KindNamesAreRead = (code : ℕ) → 1 ≤ code → code ≤ 41 → kind_number (kind_name code) ≡ Some code
