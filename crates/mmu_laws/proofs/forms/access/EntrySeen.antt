-- Where a fault comes to its end with an entry installed, it has just loaded this entry or stored it.
use Rattle.std.proofs.Common.{◌≡◌, ℕ, refl, sym, subst}
use Rattle.std.specs.Prelude.{◌+◌, Bool, true, false, ◌==◌, ◌&&◌, nat_le, nat_lt, not, if◌then◌else◌}
use Rattle.core_views.specs.declared.place.Cause.TheVariants.{Entry, Moved, Open}
use Rattle.core_views.specs.declared.place.CheckStage.{CheckStage}
use Rattle.core_views.specs.declared.place.CheckStage.TheVariants as stage
use Rattle.core_views.specs.declared.place.FaultEnd.TheVariants as end_of
use Rattle.core_views.specs.declared.place.FaultNext.{FaultNext}
use Rattle.core_views.specs.declared.place.FaultNext.TheVariants as next_of
use Rattle.core_views.specs.declared.place.FaultPlace.{FaultPlace}
use Rattle.core_views.specs.declared.place.FaultPlace.TheVariants as fault
use Rattle.core_views.specs.declared.place.SlotField.{SlotField}
use Rattle.core_views.specs.declared.sizes.Sizes.{Sizes}
use Rattle.core_views.specs.declared.topics.SlotSearch.{SlotSearch}
use Rattle.core_views.specs.declared.topics.Topics.{Topics}
use Rattle.core_views.specs.Slots.{contains}
use Rattle.spte_words.specs.declared.area.Area.{Area}
use Rattle.spte_words.specs.declared.area.Area.TheVariants as area
use Rattle.spte_words.specs.declared.spte_kind.SpteKind.{SpteKind}
use Rattle.spte_words.specs.declared.spte_kind.SpteKind.TheVariants as entry_kind
use Rattle.spte_words.specs.Areas.{pool_index}
use Rattle.spte_words.specs.Entries.{kind_of, can_write}
use Rattle.spte_words.specs.HostWords.{host_allows_write, host_present}
use Rattle.part_steps.specs.declared.part_step.PartStep.TheVariants as part
use Rattle.mmu_core.specs.declared.claim.ClaimNext.{ClaimNext}
use Rattle.mmu_core.specs.declared.claim.ClaimNext.TheVariants as claims
use Rattle.mmu_core.specs.declared.share.ShareNext.{ShareNext}
use Rattle.mmu_core.specs.declared.share.ShareNext.TheVariants as shares
use Rattle.mmu_core.specs.alone.FaultAlone.{EntryStands}
use Rattle.mmu_core.specs.forms.access.FaultKnows.{FaultKnows}
use Rattle.mmu_core.specs.declared.claim.FreeMap.TheVariants.{Pages}
use Rattle.mmu_core.specs.forms.access.FaultSteps.{after_claim, after_share, check_next, check_part, claim_next, claim_part, fault_next}
use Rattle.mmu_core.specs.forms.access.FaultSteps.{fault_part, find_next, host_word_at, is_last_word, share_next, share_part, snapshot_taken, walk_next}
use Rattle.mmu_core.specs.forms.access.FaultSteps.{exchange_lost, fast_walk_next, put_next}
use Rattle.part_steps.specs.PartTasks.{entry_index, leaf_written, page_looked, part_task, table_page, word_looked, words_filled, leaf_fixed}
use Rattle.part_steps.specs.PartTopics.{exchanged, part_topics}
use Rattle.part_steps.specs.SlotWords.{page_of}
use Rattle.part_steps.specs.WalkTopics.{gone_down, linked_page}
use Rattle.part_steps.specs.PageTopics.{searched}
use Rattle.mmu_laws.specs.turns.Removal.{ends_installed, has_installed}
use Rattle.mmu_core.specs.machine.View.{answer_in, upd, words_after}
use Rattle.mmu_core.proofs.machine.Columns.{upd_same}
use Rattle.part_steps.specs.PartHoldings.{is_fixable, one_mark_tells}
use Rattle.mmu_core.proofs.forms.access.LeafKnown.{fix_marks, fix_put, leaf_put, puts_marks}
use Rattle.mmu_core.proofs.forms.access.LeafPut.{IsPut, put_at, put_is}

-- Where a fault comes to such an end, it has just loaded or stored the entry; it is over with one only from such a place.
abbrev pub SeesEntry : FaultNext → (ℕ → ℕ) → ℕ → Topics → Type 0
SeesEntry (next_of.Goes q) pool gfn t = ends_installed q ≡ true → EntryStands pool gfn t
SeesEntry (next_of.Ends e) pool gfn t = has_installed e ≡ false

neither : (b : Bool) (p q : FaultPlace) → ends_installed p ≡ false → ends_installed q ≡ false → ends_installed (if b then p else q) ≡ true → ⊥
neither true p q first second is = cc (first, is)
neither false p q first second is = cc (second, is)

finds_by : (holds denied last : Bool) → ends_installed (if holds then (if denied then fault.End end_of.Mmio else fault.Host) else if last
    then fault.End end_of.Mmio else fault.Find true) ≡ true → ⊥
finds_by true denied last is = neither denied (fault.End end_of.Mmio) fault.Host refl refl is
finds_by false denied last is = neither last (fault.End end_of.Mmio) (fault.Find true) refl refl is

finds_not : (gfn : ℕ) (write : Bool) (f : SlotField) (found : SlotSearch) → ends_installed (find_next gfn write f found) ≡ true → ⊥
finds_not gfn write f found is = finds_by (is_last_word f && contains gfn found.slot) (write && found.slot.read_only) (found.id == 32) is

looks_by : (denied here : Bool) → ends_installed (if denied then fault.End end_of.HostFault else if here then fault.Share else fault.Bring) ≡ true → ⊥
looks_by true here is = cc is
looks_by false here is = neither here fault.Share fault.Bring refl refl is

shares_not : (next : ShareNext) → ends_installed (after_share next) ≡ true → ⊥
shares_not shares.Tries is = cc is
shares_not _ is = cc is

checks_not : (at_ : CheckStage) (gfn : ℕ) (t : Topics) (v : ℕ) → ends_installed (check_next at_ gfn t v) ≡ true → ⊥
checks_not stage.Count gfn t v is = neither (v == 0) (fault.Check stage.Seq) (fault.Check stage.Start) refl refl is
checks_not stage.Start gfn t v is = cc is
checks_not stage.End gfn t v is =
    neither (nat_le t.invalidations.start gfn && nat_lt gfn v) (fault.Unshare (end_of.Retry false (Open t.invalidations.count t.invalidations.start v gfn)))
    (fault.Check stage.Seq) refl refl is
checks_not stage.Seq gfn t v is =
    neither (v == snapshot_taken t.invalidations.snapshot) (fault.Walk false)
    (fault.Unshare (end_of.Retry false (Moved (snapshot_taken t.invalidations.snapshot) v))) refl refl is

claims_not : (next : ClaimNext) → ends_installed (after_claim next) ≡ true → ⊥
claims_not claims.Goes is = cc is
claims_not _ is = cc is

walk_sees : (k : SpteKind) (z : Sizes) (gfn : ℕ) (write : Bool) (t : Topics) (pool : ℕ → ℕ) (v : ℕ)
    → pool (pool_index (table_page t.walk) (entry_index gfn t.walk.level)) ≡ v
    → SeesEntry (next_of.Goes (walk_next k z gfn write t v)) pool gfn
    (record t { walk = gone_down (linked_page k) t.walk (entry_index gfn t.walk.level) v })
walk_sees (entry_kind.Table page) z gfn write t pool v here = λ is. absurd (cc is)
walk_sees _ z gfn write t pool v here = λ is. here

-- An exchange for a leaf that was won.
put_sees : (gfn new_ v : ℕ) (write fast marks : Bool) (t : Topics) (pool : ℕ → ℕ) → IsPut gfn write t new_ → (t.search.logged && can_write new_) ≡ marks
    → SeesEntry (next_of.Goes (put_next fast marks)) (upd pool (pool_index (table_page t.walk) (entry_index gfn t.walk.level)) new_) gfn
    (exchanged true (entry_index gfn t.walk.level) new_ t v)
put_sees gfn new_ v write fast marks t pool P is =
    subst (λ (u : Topics). SeesEntry (next_of.Goes (put_next fast marks)) behind gfn u) (sym (put_is gfn new_ v write marks t P is)) (by fast marks)
  where
    behind : ℕ → ℕ
    behind = upd pool (pool_index (table_page t.walk) (entry_index gfn t.walk.level)) new_

    stands : EntryStands behind gfn (put_at gfn new_ v marks t)
    stands = upd_same pool (pool_index (table_page t.walk) (entry_index gfn t.walk.level)) new_

    by : (fast marks_ : Bool) → SeesEntry (next_of.Goes (put_next fast marks_)) behind gfn (put_at gfn new_ v marks t)
    by fast true = λ ends. stands
    by true false = λ ends. stands
    by false false = λ ends. stands

exchange_sees : (won : Bool) (gfn new_ v : ℕ) (write fast marks : Bool) (t : Topics) (pool : ℕ → ℕ) (lost : FaultPlace) → ends_installed lost ≡ false
    → IsPut gfn write t new_ → (t.search.logged && can_write new_) ≡ marks
    → SeesEntry (next_of.Goes (if won then put_next fast marks else lost))
    (upd pool (pool_index (table_page t.walk) (entry_index gfn t.walk.level)) (if won then new_ else v)) gfn
    (exchanged won (entry_index gfn t.walk.level) new_ t v)
exchange_sees true gfn new_ v write fast marks t pool lost not_ P is = put_sees gfn new_ v write fast marks t pool P is
exchange_sees false gfn new_ v write fast marks t pool lost not_ P is = λ ends. absurd (cc (not_, ends))

fast_not : (k : SpteKind) (level : ℕ) (logged : Bool) (v : ℕ) → ends_installed (fast_walk_next k level logged v) ≡ true → ⊥
fast_not (entry_kind.Table page) level logged v is = cc is
fast_not entry_kind.Leaf level logged v is = neither (one_mark_tells level logged && is_fixable v) fault.Fix (fault.End (end_of.NotFast v)) refl refl is
fast_not entry_kind.Absent level logged v is = cc is
fast_not entry_kind.Frozen level logged v is = cc is

fast_finds_not : (found last : Bool)
    → ends_installed (if found then fault.FastWalk false else if last then fault.End (end_of.NotFast 0) else fault.FastFind true) ≡ true → ⊥
fast_finds_not true last is = cc is
fast_finds_not false last is = neither last (fault.End (end_of.NotFast 0)) (fault.FastFind true) refl refl is

pub fault_sees : (p : FaultPlace) (z : Sizes) (own gfn note : ℕ) (write : Bool) (t : Topics) (words : Area → ℕ → ℕ) → ends_installed p ≡ false
    → FaultKnows p z gfn write t
    → SeesEntry (fault_next p z gfn write t (answer_in (part_task (fault_part p gfn t) own t note) words))
    (words_after (part_task (fault_part p gfn t) own t note) words area.Pool) gfn
    (part_topics (fault_part p gfn t) t (answer_in (part_task (fault_part p gfn t) own t note) words))
fault_sees (fault.Find true) z own gfn note write t words not_ K =
    let v : ℕ = answer_in (part_task part.Slot own t note) words in
    λ is. absurd (finds_not gfn write t.search.next (searched t.search v) is)
fault_sees (fault.Find false) z own gfn note write t words not_ K = λ is. absurd (cc is)
fault_sees fault.Host z own gfn note write t words not_ K =
    let v : ℕ = answer_in (part_task (part.Host (page_of t.search.slot gfn)) own t note) words in
    λ is. absurd (looks_by (write && not (host_allows_write v)) (host_present v) is)
fault_sees fault.Bring z own gfn note write t words not_ K =
    let v : ℕ = words area.Host (page_looked t.host) in
    λ is. absurd
    (neither (v == word_looked t.host) fault.Share (fault.End (end_of.Retry false (Entry (host_word_at z t.host) (word_looked t.host) v))) refl refl is)
fault_sees fault.Share z own gfn note write t words not_ K =
    λ is. absurd (shares_not (share_next t.hold (answer_in (part_task (share_part t.hold) own t note) words)) is)
fault_sees (fault.Check at_) z own gfn note write t words not_ K =
    λ is. absurd (checks_not at_ gfn t (answer_in (part_task (check_part at_) own t note) words) is)
fault_sees (fault.Walk true) z own gfn note write t words not_ K =
    let v : ℕ = words area.Pool (pool_index (table_page t.walk) (entry_index gfn t.walk.level)) in
    walk_sees (kind_of t.walk.level v) z gfn write t (words area.Pool) v refl
fault_sees (fault.Walk false) z own gfn note write t words not_ K = λ is. absurd (cc is)
fault_sees (fault.Claim begun) z own gfn note write t words not_ K =
    λ is. absurd (claims_not (claim_next Pages begun z t.claim (answer_in (part_task (claim_part Pages begun t.claim) own t note) words)) is)
fault_sees fault.Fill z own gfn note write t words not_ K = λ is. absurd (neither (nat_lt (words_filled t.owned + 1) 512) fault.Fill fault.Role refl refl is)
fault_sees fault.Link z own gfn note write t words not_ K =
    let v : ℕ = words area.Pool (pool_index (table_page t.walk) (entry_index gfn t.walk.level)) in
    λ is. absurd (neither (v == t.walk.entry) (fault.Walk true) (fault.Give (exchange_lost false z gfn t.walk v)) refl refl is)
fault_sees (fault.Give e) z own gfn note write t words not_ K = λ is. absurd (cc (not_, is))
fault_sees (fault.Leaf writes) z own gfn note write t words not_ K =
    let v : ℕ = words area.Pool (pool_index (table_page t.walk) (entry_index gfn t.walk.level)) in
    let P : IsPut gfn write t (leaf_written gfn writes t) =
    subst (λ (b : Bool). IsPut gfn write t (leaf_written gfn b t)) (sym K.4) (leaf_put gfn write t K.0 K.2 K.3) in
    let marks : (t.search.logged && can_write (leaf_written gfn writes t)) ≡ (writes && t.search.logged) =
    subst (λ (b : Bool). (t.search.logged && can_write (leaf_written gfn b t)) ≡ (b && t.search.logged)) (sym K.4) (puts_marks gfn write t K.0) in
    exchange_sees (v == t.walk.entry) gfn (leaf_written gfn writes t) v write false (writes && t.search.logged) t (words area.Pool)
    (fault.Unshare (exchange_lost false z gfn t.walk v)) refl P marks
fault_sees fault.Fix z own gfn note write t words not_ K =
    let v : ℕ = words area.Pool (pool_index (table_page t.walk) (entry_index gfn t.walk.level)) in
    exchange_sees (v == t.walk.entry) gfn (leaf_fixed t) v write true t.search.logged t (words area.Pool) (fault.End (exchange_lost true z gfn t.walk v)) refl
    (fix_put gfn write t K.1) (fix_marks gfn t K.1)
fault_sees (fault.Mark fast) z own gfn note write t words not_ K = absurd (cc not_)
fault_sees (fault.FastFind true) z own gfn note write t words not_ K =
    let s : SlotSearch = searched t.search (answer_in (part_task part.Slot own t note) words) in
    λ is. absurd (fast_finds_not (is_last_word t.search.next && contains gfn s.slot) (s.id == 32) is)
fault_sees (fault.FastFind false) z own gfn note write t words not_ K = λ is. absurd (cc is)
fault_sees (fault.FastWalk true) z own gfn note write t words not_ K =
    let v : ℕ = words area.Pool (pool_index (table_page t.walk) (entry_index gfn t.walk.level)) in
    λ is. absurd (fast_not (kind_of t.walk.level v) t.walk.level t.search.logged v is)
fault_sees (fault.FastWalk false) z own gfn note write t words not_ K = λ is. absurd (cc is)
fault_sees (fault.Unshare e) z own gfn note write t words not_ K = λ is. absurd (cc (not_, is))
fault_sees (fault.End e) z own gfn note write t words not_ K = not_
fault_sees _ z own gfn note write t words not_ K = λ is. absurd (cc is)
