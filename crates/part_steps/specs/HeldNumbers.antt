-- What is held, as numbers: of the page that is owned, of the one that is retired, of the slot set, and of the host word.
use Rattle.std.specs.Prelude.{ℕ, Bool, false, ◌==◌, ◌&&◌, Option, Some, None}
use Rattle.core_views.specs.declared.topics.HostLook.{HostLook}
use Rattle.core_views.specs.declared.topics.OwnedPage.{OwnedPage}
use Rattle.core_views.specs.declared.topics.TableWalk.{TableWalk}

-- the page that is owned, and how far it is filled
abbrev pub page_owned : Option OwnedPage → ℕ
page_owned None = 0
page_owned (Some o) = o.page

abbrev pub words_filled : Option OwnedPage → ℕ
words_filled None = 0
words_filled (Some o) = o.filled

-- Each word that is filled so far is one of a table that may be linked in place of the entry that the walk has loaded.
abbrev pub is_below : TableWalk → Option OwnedPage → Bool
is_below walk None = false
is_below walk (Some o) = o.below && (o.level == walk.level && o.entry == walk.entry)

-- the role that is stored for the page
abbrev pub role_filled : Option OwnedPage → ℕ
role_filled None = 0
role_filled (Some o) = o.role

-- the number that is kept, and 0 where none is
abbrev pub number_or_none : Option ℕ → ℕ
number_or_none None = 0
number_or_none (Some n) = n

-- the page that is retired
abbrev pub page_retired : Option ℕ → ℕ
page_retired None = 0
page_retired (Some page) = page

-- the pool page of the slot set that is held
abbrev pub set_held : Option ℕ → ℕ
set_held None = 0
set_held (Some set) = set

-- the host word that was loaded
abbrev pub word_looked : Option HostLook → ℕ
word_looked None = 0
word_looked (Some look) = look.word
