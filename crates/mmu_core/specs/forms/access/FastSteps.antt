-- Where a search of the slots leads a fault, a whole one or a fast one; and what a fast one does with an entry (locking.rst, "Fast page fault").
use Rattle.std.specs.Prelude.{ℕ, Bool, true, false, ◌==◌, ◌&&◌, if◌then◌else◌}
use Rattle.core_views.specs.declared.place.FaultEnd.TheVariants.{Installed, Fixed, NotFast}
use Rattle.core_views.specs.declared.place.FaultPlace.{FaultPlace}
use Rattle.core_views.specs.declared.place.FaultPlace.TheVariants.{Unshare, End, FastFind, FastWalk, Fix, Mark}
use Rattle.core_views.specs.declared.place.SlotField.{SlotField}
use Rattle.core_views.specs.declared.place.SlotField.TheVariants as field
use Rattle.core_views.specs.declared.topics.SlotSearch.{SlotSearch}
use Rattle.core_views.specs.Slots.{contains}
use Rattle.spte_words.specs.declared.spte_kind.SpteKind.{SpteKind}
use Rattle.spte_words.specs.declared.spte_kind.SpteKind.TheVariants as entry_kind
use Rattle.part_steps.specs.PartHoldings.{is_fixable, one_mark_tells}

-- the last word that a search loads of a slot which has the guest frame
abbrev pub is_last_word : SlotField → Bool
is_last_word field.Host = true
is_last_word _ = false

-- After a word of the slots: the first place where the slot with the guest frame is found, the second where none has it, or the third, where the search
-- goes on.
abbrev pub search_next : FaultPlace → FaultPlace → FaultPlace → ℕ → SlotField → SlotSearch → FaultPlace
search_next has none more gfn loaded found =
    if is_last_word loaded && contains gfn found.slot then has else
    if found.id == 32 then none else
    more

abbrev pub fast_find_next : ℕ → SlotField → SlotSearch → FaultPlace
fast_find_next gfn loaded found = search_next (FastWalk false) (End (NotFast 0)) (FastFind true) gfn loaded found

-- The entry is a leaf that forbids nothing but the write, and no large one in a slot with a dirty log.
abbrev pub is_fast : SpteKind → ℕ → Bool → ℕ → Bool
is_fast entry_kind.Leaf level logged v = one_mark_tells level logged && is_fixable v
is_fast _ level logged v = false

-- after an entry v of this level on the way of a fast fault, in a slot with a dirty log or without
abbrev pub fast_walk_next : SpteKind → ℕ → Bool → ℕ → FaultPlace
fast_walk_next (entry_kind.Table page) level logged v = FastWalk true
fast_walk_next entry level logged v = if is_fast entry level logged v then Fix else End (NotFast v)

-- once a leaf was put, or writes allowed in it, and the page marked or not
abbrev pub over_next : Bool → Bool → FaultPlace
over_next fast marked = if fast then End (Fixed marked) else Unshare Installed

-- after a leaf was put, or writes allowed in it: where the slot has a dirty log the page is marked
abbrev pub put_next : Bool → Bool → FaultPlace
put_next fast marks = if marks then Mark fast else over_next fast false
