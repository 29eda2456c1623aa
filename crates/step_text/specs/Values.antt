-- What values of words are told as: in hexadecimal digits, and where it says more than a number, in words.
use Rattle.std.specs.Prelude.{ℕ, Bool, false, List, [], ◌++◌, ◌==◌, ◌&&◌, codes, nat_le, if◌then◌else◌}
use Rattle.std.specs.Fmt.{decimal, digits}
use Rattle.spte_words.specs.Bits.{has_bit}
use Rattle.spte_words.specs.Entries.{can_write, frame_in, kind_of}
use Rattle.spte_words.specs.HostWords.{host_allows_write, host_frame, host_present}
use Rattle.spte_words.specs.declared.area.Area.{Area}
use Rattle.spte_words.specs.declared.area.Area.TheVariants as area
use Rattle.spte_words.specs.declared.spte_kind.SpteKind.{SpteKind}
use Rattle.spte_words.specs.declared.spte_kind.SpteKind.TheVariants.{Absent, Frozen, Leaf, Table}

-- a value by its number, as `0x803`
abbrev pub hexadecimal : ℕ → List ℕ
hexadecimal word = codes "0x" ++ digits 16 false word

-- Writes are allowed, or not.
abbrev pub permission : Bool → List ℕ
permission writable = if writable then codes "rw" else codes "ro"

-- an entry of which this is known
abbrev pub kind_text : SpteKind → ℕ → List ℕ
kind_text Absent word = codes "absent"
kind_text Frozen word = codes "frozen"
kind_text (Table page) word = codes "link " ++ decimal page
kind_text Leaf word = codes "leaf frame " ++ (decimal (frame_in word) ++ (codes " " ++ permission (can_write word)))

-- an entry of a table of the level
abbrev pub entry_text : ℕ → ℕ → List ℕ
entry_text level word = kind_text (kind_of level word) word

-- a frame that the host has in memory, and one that it doesn't have
abbrev pub host_text : ℕ → List ℕ
host_text word =
    let mapped = codes "frame " ++ (decimal (host_frame word) ++ (codes " " ++ permission (host_allows_write word))) in
    if host_present word then mapped else codes "absent " ++ mapped

-- where an actor is by its state word: bit 0 says in the guest, else bit 1 in a section
abbrev pub whereabouts : ℕ → List ℕ
whereabouts word = if has_bit 0 word then codes "in guest" else if has_bit 1 word then codes "in section" else codes "outside"

-- a state word, of which bit 2 says that a flush is asked for
abbrev pub state_text : ℕ → List ℕ
state_text word = if has_bit 2 word then whereabouts word ++ codes ", flush asked" else whereabouts word

-- what is told after a value
abbrev pub in_words : List ℕ → List ℕ
in_words text = codes " (" ++ (text ++ codes ")")

-- what a word of this area says; one of a pool page says it by the page's role, of which 1 to 4 are tables of these levels
abbrev pub meaning_text : Area → ℕ → ℕ → List ℕ
meaning_text area.Pool role word = if nat_le 1 role && nat_le role 4 then in_words (entry_text role word) else []
meaning_text area.Host role word = in_words (host_text word)
meaning_text area.State role word = in_words (state_text word)
meaning_text _ role word = []

unfoldable pub value_text : Area → ℕ → ℕ → List ℕ
value_text area role word = hexadecimal word ++ meaning_text area role word

-- the value found, and the value left where it is another
unfoldable pub change_text : Area → ℕ → ℕ → ℕ → List ℕ
change_text area role found left =
    if left == found then value_text area role found else value_text area role found ++ (codes " -> " ++ value_text area role left)
