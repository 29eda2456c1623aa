-- What a fast fault knows after each step of its search and of its walk.
use Rattle.std.proofs.Common.{◌≡◌, inl, inr, ◌^◌, ◌<◌, ◌≤◌, ℕ, refl, ap, ◌∙◌, arith}
use Rattle.std.specs.Prelude.{Bool, true, false, ◌==◌, ◌&&◌, if◌then◌else◌, None, ◌||◌, not}
use Rattle.std.proofs.lemmas.Bool.Decides.{nat_tests}
use Rattle.core_views.specs.declared.place.FaultEnd.TheVariants.{NotFast}
use Rattle.core_views.specs.declared.place.FaultPlace.TheVariants.{End, FastFind, FastWalk, Fix}
use Rattle.core_views.specs.declared.place.SlotField.{SlotField}
use Rattle.core_views.specs.declared.place.SlotField.TheVariants as field
use Rattle.core_views.specs.declared.sizes.Sizes.{Sizes}
use Rattle.core_views.specs.declared.topics.Hold.TheVariants.{Loose}
use Rattle.core_views.specs.declared.topics.Topics.{Topics}
use Rattle.core_views.specs.Slots.{contains}
use Rattle.spte_words.specs.declared.spte_kind.SpteKind.{SpteKind}
use Rattle.spte_words.specs.declared.spte_kind.SpteKind.TheVariants as entry_kind
use Rattle.spte_words.specs.Entries.{kind_of, can_write, host_writable, mmu_writable}
use Rattle.spte_words.specs.Flags.{flags_live}
use Rattle.mmu_core.specs.forms.access.FaultKnows.{FastFound, FaultKnows, InSection, forbids_more}
use Rattle.mmu_core.specs.forms.access.FaultSteps.{fast_find_next, fast_walk_next}
use Rattle.part_steps.specs.PartHoldings.{FoundSlot, HoldsSet, IsOver, is_fixable, one_mark_tells}
use Rattle.part_steps.specs.PartTasks.{entry_index}
use Rattle.part_steps.specs.PageTopics.{searched, searched_at}
use Rattle.part_steps.specs.ControlTopics.{at_root, at_set}
use Rattle.part_steps.specs.WalkTopics.{gone_down, linked_page}
use Rattle.mmu_core.proofs.forms.access.FaultSame.{same_found, same_inside}
use Rattle.mmu_core.proofs.forms.access.LookKnown.{none_found, not_held, not_last, not_whole, one_further}
use Rattle.mmu_core.proofs.forms.access.WalkKnown.{above_lowest, gone_over, root_over, saw_it}
use Rattle.core_views.specs.declared.topics.HostRow.{HostRow}

-- the search
pub fast_slots_known : (z : Sizes) (gfn : ℕ) (write b : Bool) (t : Topics) (row : HostRow) (v : ℕ) → b ≡ true → InSection t → t.hold ≡ Loose
    → FaultKnows (FastFind true) z gfn write (record t { search = at_set b t.search v; row = row })
fast_slots_known z gfn write true t row v holds I loose = (same_inside t _ refl refl refl I, loose, λ _. (refl, omega arith))
fast_slots_known z gfn write false t row v holds I loose = absurd (cc holds)

goes_on : (b : Bool) (z : Sizes) (gfn : ℕ) (write : Bool) (u : Topics) → (u.search.id == 32) ≡ b → u.search.id ≤ 32 → InSection u → u.hold ≡ Loose
    → HoldsSet u → (b ≡ true → FoundSlot gfn u → ⊥) → FaultKnows (if b then End (NotFast 0) else FastFind true) z gfn write u
goes_on true z gfn write u is most I loose set never = (I, loose, inl (refl, none_found gfn u is (never refl)))
goes_on false z gfn write u is most I loose set never = (I, loose, λ _. (set, grind (arith, nat_tests)))

found : (holds : Bool) (z : Sizes) (gfn : ℕ) (write : Bool) (u : Topics) → contains gfn u.search.slot ≡ holds → u.search.whole ≡ true → u.search.id ≤ 32
    → InSection u → u.hold ≡ Loose → HoldsSet u
    → FaultKnows (if holds then FastWalk false else if u.search.id == 32 then End (NotFast 0) else FastFind true) z gfn write u
found true z gfn write u is whole most I loose set =
    (record { inside = I; loose = loose; found = record { whole = whole; holds = is } }, λ e. absurd (cc e))
found false z gfn write u is whole most I loose set =
    goes_on (u.search.id == 32) z gfn write u refl most I loose set (λ last. not_held gfn u is)

find_known : (f : SlotField) (z : Sizes) (gfn : ℕ) (write : Bool) (t : Topics) (v : ℕ) → t.search.id ≤ 31 → InSection t → t.hold ≡ Loose → HoldsSet t
    → FaultKnows (fast_find_next gfn f (searched_at f t.search v)) z gfn write (record t { search = searched_at f t.search v })
find_known field.Flags z gfn write t v low I loose set =
    goes_on ((searched_at field.Flags t.search v).id == 32) z gfn write _ refl (one_further (flags_live v) t.search.id low)
    (same_inside t _ refl refl refl I) loose set (λ last. not_whole gfn _ refl)
find_known field.Host z gfn write t v low I loose set =
    found (contains gfn (searched_at field.Host t.search v).slot) z gfn write _ refl refl (omega arith) (same_inside t _ refl refl refl I) loose set
find_known _ z gfn write t v low I loose set =
    goes_on (t.search.id == 32) z gfn write _ refl (omega arith) (same_inside t _ refl refl refl I) loose set
    (λ last. absurd (not_last t.search.id low last))

pub fast_slot_known : (z : Sizes) (gfn : ℕ) (write b : Bool) (t : Topics) (row : HostRow) (v : ℕ) → b ≡ true → t.search.id ≤ 31 → InSection t
    → t.hold ≡ Loose → HoldsSet t
    → FaultKnows (fast_find_next gfn t.search.next (searched t.search v)) z gfn write
    (record t { search = if b then searched t.search v else t.search; row = row })
fast_slot_known z gfn write true t row v is low I loose set =
    find_known t.search.next z gfn write (record t { row = row }) v low (same_inside t _ refl refl refl I) loose set
fast_slot_known z gfn write false t row v is low I loose set = absurd (cc is)

-- the walk
same_fast : (gfn : ℕ) (t u : Topics) → u.stay ≡ t.stay → u.owned ≡ t.owned → u.owed ≡ t.owed → u.hold ≡ t.hold → u.search ≡ t.search → FastFound gfn t
    → FastFound gfn u
same_fast gfn t u stay owned owed hold search F =
    record { inside = same_inside t u stay owned owed F.inside; loose = hold ∙ F.loose; found = same_found gfn t u search F.found }

pub fast_root_known : (b : Bool) (z : Sizes) (gfn : ℕ) (write : Bool) (t : Topics) (v : ℕ) → b ≡ true → gfn < 2 ^ 36 → FastFound gfn t
    → FaultKnows (FastWalk true) z gfn write (record t { walk = at_root b t.walk v })
fast_root_known true z gfn write t v is small F = (same_fast gfn t _ refl refl refl refl refl F, λ _. root_over gfn v t.walk small)
fast_root_known false z gfn write t v is small F = absurd (cc is)

-- A leaf in which writes can't be allowed.
not_fixable : (can host mmu : Bool) → (not can && (host && mmu)) ≡ false → (can || (not host || not mmu)) ≡ true
not_fixable true host mmu e = refl
not_fixable false true true e = absurd (cc e)
not_fixable false true false e = refl
not_fixable false false mmu e = refl

-- The entry isn't one in which the write can be allowed.
not_fast : (z : Sizes) (gfn : ℕ) (write : Bool) (t : Topics) (v : ℕ) → FastFound gfn t → IsOver gfn t.walk
    → forbids_more (kind_of t.walk.level v) t.walk.level t.search.logged v ≡ true
    → FaultKnows (End (NotFast v)) z gfn write (record t { walk = gone_down None t.walk (entry_index gfn t.walk.level) v })
not_fast z gfn write t v F O why = (same_inside t _ refl refl refl F.inside, F.loose, inr (saw_it gfn v t.walk O, refl, why))

leaf_met : (told fixable : Bool) (z : Sizes) (gfn : ℕ) (write : Bool) (t : Topics) (v : ℕ) → one_mark_tells t.walk.level t.search.logged ≡ told
    → is_fixable v ≡ fixable
    → kind_of t.walk.level v ≡ entry_kind.Leaf → FastFound gfn t → IsOver gfn t.walk
    → FaultKnows (if told && fixable then Fix else End (NotFast v)) z gfn write (record t { walk = gone_down None t.walk (entry_index gfn t.walk.level) v })
leaf_met true true z gfn write t v low may is F O = (
  same_fast gfn t _ refl refl refl refl refl F,
  record {
    section = F.inside.section;
    loose = F.loose;
    found = same_found gfn t _ refl F.found;
    saw = saw_it gfn v t.walk O;
    told = low;
    leaf = is;
    fixable = may;
    owes_none = F.inside.owes_none;
  },
)
leaf_met true false z gfn write t v low may is F O =
    not_fast z gfn write t v F O (ap (λ (k : SpteKind). forbids_more k t.walk.level t.search.logged v) is
    ∙ ap (λ (b : Bool). not b || (can_write v || (not (host_writable v) || not (mmu_writable v)))) low
    ∙ not_fixable (can_write v) (host_writable v) (mmu_writable v) may)
leaf_met false fixable z gfn write t v low may is F O =
    not_fast z gfn write t v F O (ap (λ (k : SpteKind). forbids_more k t.walk.level t.search.logged v) is
    ∙ ap (λ (b : Bool). not b || (can_write v || (not (host_writable v) || not (mmu_writable v)))) low)

pub fast_walk_known : (k : SpteKind) (z : Sizes) (gfn : ℕ) (write : Bool) (t : Topics) (v : ℕ) → kind_of t.walk.level v ≡ k → t.walk.level ≤ 4
    → FastFound gfn t → IsOver gfn t.walk
    → FaultKnows (fast_walk_next k t.walk.level t.search.logged v) z gfn write
    (record t { walk = gone_down (linked_page k) t.walk (entry_index gfn t.walk.level) v })
fast_walk_known (entry_kind.Table page) z gfn write t v is most F O =
    (same_fast gfn t _ refl refl refl refl refl F, λ _. gone_over gfn page v t.walk (above_lowest t.walk.level v page O.there is) most O)
fast_walk_known entry_kind.Leaf z gfn write t v is most F O =
    leaf_met (one_mark_tells t.walk.level t.search.logged) (is_fixable v) z gfn write t v refl refl is F O
fast_walk_known entry_kind.Absent z gfn write t v is most F O =
    not_fast z gfn write t v F O (ap (λ (k : SpteKind). forbids_more k t.walk.level t.search.logged v) is)
fast_walk_known entry_kind.Frozen z gfn write t v is most F O =
    not_fast z gfn write t v F O (ap (λ (k : SpteKind). forbids_more k t.walk.level t.search.logged v) is)
