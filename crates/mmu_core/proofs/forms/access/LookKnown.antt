-- After each step of its look-up, of its check under the lock, and after it gives the lock back a fault knows what its next place asks.
use Rattle.std.proofs.Common.{◌≡◌, ◌⊎◌, inl, inr, ◌+◌, ◌<◌, ◌≤◌, ℕ, refl, sym, subst, ap, ◌∙◌, arith}
use Rattle.std.specs.Prelude.{Bool, true, false, ◌==◌, ◌&&◌, nat_le, nat_lt, not, if◌then◌else◌, Option, Some, None, is_some}
use Rattle.std.proofs.lemmas.Bool.Decides.{nat_tests}
use Rattle.core_views.specs.declared.place.Cause.TheVariants.{Open, Moved, Entry}
use Rattle.core_views.specs.declared.place.CheckStage.{CheckStage}
use Rattle.core_views.specs.declared.place.CheckStage.TheVariants as stage
use Rattle.core_views.specs.declared.place.FaultEnd.{FaultEnd}
use Rattle.core_views.specs.declared.place.FaultEnd.TheVariants.{Mmio, HostFault, Retry}
use Rattle.core_views.specs.declared.place.FaultPlace.TheVariants.{Find, Host, Bring, Share, Check, Walk, Unshare, End}
use Rattle.core_views.specs.declared.place.SlotField.{SlotField}
use Rattle.core_views.specs.declared.place.SlotField.TheVariants as field
use Rattle.core_views.specs.declared.sizes.Sizes.{Sizes}
use Rattle.core_views.specs.declared.topics.Checked.{Checked}
use Rattle.core_views.specs.declared.topics.Checked.TheVariants as checked
use Rattle.core_views.specs.declared.topics.Hold.{Hold}
use Rattle.core_views.specs.declared.topics.Hold.TheVariants.{Loose}
use Rattle.core_views.specs.declared.topics.HostLook.{HostLook}
use Rattle.core_views.specs.declared.topics.Invalidations.{Invalidations}
use Rattle.core_views.specs.declared.topics.Stay.{Stay}
use Rattle.core_views.specs.declared.topics.Stay.TheVariants.{Section}
use Rattle.core_views.specs.declared.topics.Topics.{Topics}
use Rattle.core_views.specs.Slots.{contains}
use Rattle.spte_words.specs.HostWords.{host_allows_write, host_frame, host_level, host_present, with_presence}
use Rattle.spte_words.proofs.ReadsHost.{host_is_present, host_is_writable}
use Rattle.part_steps.specs.declared.part_step.PartStep.{PartStep}
use Rattle.mmu_core.specs.forms.access.FaultKnows.{CheckKnows, FaultEndKnows, FaultKnows, FoundNone, InSection, LookedFor, Sharing, WithoutLock, is_trying}
use Rattle.mmu_core.specs.forms.access.FaultSteps.{check_next, check_part, find_next, host_word_at, snapshot_taken, after_share}
use Rattle.mmu_core.specs.declared.share.ShareNext.{ShareNext}
use Rattle.part_steps.specs.PartHoldings.{FoundSlot, HoldsSet, LookedUp}
use Rattle.part_steps.specs.PartTasks.{page_looked, word_looked}
use Rattle.part_steps.specs.PartTopics.{part_topics, sequenced}
use Rattle.part_steps.specs.SlotWords.{page_of}
use Rattle.part_steps.specs.StayTopics.{is_loose, is_outside, is_section, kept_search, kept_walk, has_lock, let_go}
use Rattle.part_steps.specs.PageTopics.{searched, searched_at}
use Rattle.part_steps.specs.ControlTopics.{at_set, count_checked, range_checked, seq_checked, start_checked}
use Rattle.mmu_core.proofs.orders.ShareMade.{ShareMade}
use Rattle.mmu_core.proofs.orders.ShareMade as share
use Rattle.mmu_core.proofs.forms.access.FaultSame.{both, ends_same, is_not, not_not, not_then, over_it, same_looked, same_sharing, same_without, whole_anew}
use Rattle.core_views.specs.declared.topics.HostRow.{HostRow}
use Rattle.part_steps.specs.PageRuns.{one_look}

-- the section, and the snapshot
without_lock : (t : Topics) (v : ℕ) → InSection t → t.hold ≡ Loose → WithoutLock (sequenced true t v)
without_lock t v I loose = record { inside = record { section = I.section; owns_none = I.owns_none; owes_none = I.owes_none }; loose = loose; snapshot = refl }

pub snapshot_known : (t : Topics) (v : ℕ) → InSection t → t.hold ≡ Loose → WithoutLock (sequenced (is_loose t.hold) t v)
snapshot_known t v I loose = subst (λ (x : Hold). WithoutLock (sequenced (is_loose x) t v)) (sym loose) (without_lock t v I loose)

-- the search
pub slots_known : (z : Sizes) (gfn : ℕ) (write b : Bool) (t : Topics) (row : HostRow) (v : ℕ) → b ≡ true → WithoutLock t
    → FaultKnows (Find true) z gfn write (record t { search = at_set b t.search v; row = row })
slots_known z gfn write true t row v holds W = (same_without t _ refl refl refl refl refl W, λ _. (refl, omega arith))
slots_known z gfn write false t row v holds W = absurd (cc holds)

-- The search has come after the last slot, and the word that it loaded last was no last one of a slot with the guest frame.
pub none_found : (gfn : ℕ) (u : Topics) → (u.search.id == 32) ≡ true → (FoundSlot gfn u → ⊥) → FoundNone gfn u
none_found gfn u is never = record { over = grind (arith, nat_tests); not_found = never }

pub not_whole : (gfn : ℕ) (u : Topics) → u.search.whole ≡ false → FoundSlot gfn u → ⊥
not_whole gfn u none F = let whole = F.whole in absurd (cc (whole, none))

pub not_held : (gfn : ℕ) (u : Topics) → contains gfn u.search.slot ≡ false → FoundSlot gfn u → ⊥
not_held gfn u none F = let holds = F.holds in absurd (cc (holds, none))

pub not_last : (id : ℕ) → id ≤ 31 → (id == 32) ≡ true → ⊥
not_last id low is = let last : id ≡ 32 = grind (arith, nat_tests) in omega (arith, low, last)

find_goes_on : (b : Bool) (z : Sizes) (gfn : ℕ) (write : Bool) (u : Topics) → (u.search.id == 32) ≡ b → u.search.id ≤ 32 → WithoutLock u → HoldsSet u
    → (b ≡ true → FoundSlot gfn u → ⊥) → FaultKnows (if b then End Mmio else Find true) z gfn write u
find_goes_on true z gfn write u is most W set never = (W.inside, W.loose, inr (none_found gfn u is (never refl)))
find_goes_on false z gfn write u is most W set never = (W, λ _. (set, grind (arith, nat_tests)))

slot_found : (holds denied : Bool) (z : Sizes) (gfn : ℕ) (write : Bool) (u : Topics) → contains gfn u.search.slot ≡ holds
    → (write && u.search.slot.read_only) ≡ denied → u.search.whole ≡ true → u.search.id ≤ 32 → WithoutLock u → HoldsSet u
    → FaultKnows (if holds then (if denied then End Mmio else Host) else if u.search.id == 32 then End Mmio else Find true) z gfn write u
slot_found true true z gfn write u is denied whole most W set =
    let D = both write u.search.slot.read_only denied in (W.inside, W.loose, inl (D.0, record { whole = whole; holds = is }, D.1))
slot_found true false z gfn write u is denied whole most W set = (W, record { whole = whole; holds = is }, denied)
slot_found false denied z gfn write u is _ whole most W set =
    find_goes_on (u.search.id == 32) z gfn write u refl most W set (λ last. not_held gfn u is)

pub one_further : (live : Bool) (id : ℕ) → id ≤ 31 → (if live then id else id + 1) ≤ 32
one_further true id low = omega arith
one_further false id low = omega arith

find_known : (f : SlotField) (z : Sizes) (gfn : ℕ) (write : Bool) (t : Topics) (v : ℕ) → t.search.id ≤ 31 → WithoutLock t → HoldsSet t
    → FaultKnows (find_next gfn write f (searched_at f t.search v)) z gfn write (record t { search = searched_at f t.search v })
find_known field.Flags z gfn write t v low W set =
    find_goes_on ((searched_at field.Flags t.search v).id == 32) z gfn write _ refl (one_further _ t.search.id low)
    (same_without t _ refl refl refl refl refl W) set (λ last. not_whole gfn _ refl)
find_known field.Host z gfn write t v low W set =
    slot_found (contains gfn (searched_at field.Host t.search v).slot) (write && t.search.slot.read_only) z gfn write _ refl refl refl (omega arith)
    (same_without t _ refl refl refl refl refl W) set
find_known _ z gfn write t v low W set =
    find_goes_on (t.search.id == 32) z gfn write _ refl (omega arith) (same_without t _ refl refl refl refl refl W) set
    (λ last. absurd (not_last t.search.id low last))

pub slot_known : (z : Sizes) (gfn : ℕ) (write b : Bool) (t : Topics) (row : HostRow) (v : ℕ) → b ≡ true → t.search.id ≤ 31 → WithoutLock t → HoldsSet t
    → FaultKnows (find_next gfn write t.search.next (searched t.search v)) z gfn write
    (record t { search = if b then searched t.search v else t.search; row = row })
slot_known z gfn write true t row v is low W set =
    find_known t.search.next z gfn write (record t { row = row }) v low (same_without t _ refl refl refl refl refl W) set
slot_known z gfn write false t row v is low W set = absurd (cc is)

-- the host word
looked_for : (present : Bool) (gfn : ℕ) (write : Bool) (t : Topics) (v : ℕ) → (write && not (host_allows_write v)) ≡ false → host_present v ≡ present
    → WithoutLock t → FoundSlot gfn t → (write && t.search.slot.read_only) ≡ false
    → LookedFor present gfn write (record t { host = Some (record { page = page_of t.search.slot gfn; word = v }); row = one_look })
looked_for present gfn write t v is there W F may = record {
  looked_up = record { found = record { whole = F.whole; holds = F.holds }; word = v; host = refl };
  presence = there;
  allowed = λ w. (not_then write t.search.slot.read_only may w, not_not (host_allows_write v) (not_then write (not (host_allows_write v)) is w));
  snapshot = W.snapshot;
}

pub host_known : (b present : Bool) (z : Sizes) (gfn : ℕ) (write : Bool) (t : Topics) (v : ℕ) → (write && not (host_allows_write v)) ≡ b
    → host_present v ≡ present → WithoutLock t → FoundSlot gfn t → (write && t.search.slot.read_only) ≡ false
    → FaultKnows (if b then End HostFault else if present then Share else Bring) z gfn write
    (record t { host = Some (record { page = page_of t.search.slot gfn; word = v }); row = one_look })
host_known true present z gfn write t v is there W F may =
    let D = both write (not (host_allows_write v)) is in (
      record { section = W.inside.section; owns_none = W.inside.owns_none; owes_none = W.inside.owes_none },
      W.loose,
      record {
        writes = D.0;
        looked_up = record { found = record { whole = F.whole; holds = F.holds }; word = v; host = refl };
        forbids = is_not (host_allows_write v) D.1;
      },
    )
host_known false true z gfn write t v is there W F may = (
  record { section = W.inside.section; owns_none = W.inside.owns_none; owes_none = W.inside.owes_none },
  ap (λ (x : Hold). is_trying x) W.loose,
  looked_for true gfn write t v is there W F may,
)
host_known false false z gfn write t v is there W F may = (same_without t _ refl refl refl refl refl W, looked_for false gfn write t v is there W F may)

-- the page that was absent: the word with it present allows what it did
abbrev brought : (gfn : ℕ) (t : Topics) (v : ℕ) → LookedUp gfn t
    → LookedUp gfn (record t { host = Some (record { page = page_looked t.host; word = v }); row = one_look })
brought gfn t v L = record {
  found = record { whole = L.found.whole; holds = L.found.holds };
  word = v;
  host = ap (λ (x : Option HostLook). Some (record { page = page_looked x; word = v })) L.host;
}

pub bring_known : (b : Bool) (z : Sizes) (gfn : ℕ) (write : Bool) (t : Topics) (v : ℕ) → (v == word_looked t.host) ≡ b → WithoutLock t
    → LookedFor false gfn write t
    → FaultKnows (if b then Share else End (Retry false (Entry (host_word_at z t.host) (word_looked t.host) v))) z gfn write
    (record t { host = Some (record { page = page_looked t.host; word = if b then with_presence true (word_looked t.host) else v }); row = one_look })
bring_known true z gfn write t v is W L =
    let w : ℕ = word_looked t.host in (
      record { section = W.inside.section; owns_none = W.inside.owns_none; owes_none = W.inside.owes_none },
      ap (λ (x : Hold). is_trying x) W.loose,
      record {
        looked_up = brought gfn t (with_presence true w) L.looked_up;
        presence = host_is_present (host_frame w) true (host_allows_write w) (host_level w);
        allowed =
            λ writes.
            let may = L.allowed writes in (
              may.0,
              host_is_writable (host_frame w) true (host_allows_write w) (host_level w)
                  ∙ (ap (λ (x : Option HostLook). host_allows_write (word_looked x)) L.looked_up.host ∙ may.1),
            );
        snapshot = W.snapshot;
      },
    )
bring_known false z gfn write t v is W L = (
  record { section = W.inside.section; owns_none = W.inside.owns_none; owes_none = W.inside.owes_none },
  W.loose,
  whole_anew (Entry (host_word_at z t.host) (word_looked t.host) v) z gfn _
      (inr (record { looked_up = brought gfn t v L.looked_up; is_word = refl; holds = refl; why = grind (arith, nat_tests) })),
)

-- the lock
pub kept : (t : Topics) → t.stay ≡ Section → kept_search (is_section t.stay) t.search ≡ t.search
kept t section = ap (λ (s : Stay). kept_search (is_section s) t.search) section

pub kept_table : (t : Topics) → t.stay ≡ Section → kept_walk (not (is_outside t.stay)) t.walk ≡ t.walk
kept_table t section = ap (λ (s : Stay). kept_walk (not (is_outside s)) t.walk) section

pub share_known : (z : Sizes) (gfn : ℕ) (write : Bool) (t : Topics) (v : ℕ) (step : PartStep) (next : ShareNext) (u : Topics)
    → ShareMade t v step next u → InSection t → LookedFor true gfn write t → FaultKnows (after_share next) z gfn write u
share_known z gfn write t v _ _ _ (share.Got loose is) I L =
    (record { section = I.section; shares = refl; looked = same_looked true gfn write t _ refl refl refl L; owes_none = I.owes_none }, I.owns_none, tt)
share_known z gfn write t v _ _ _ (share.SawWriter loose is) I L =
    (record { section = I.section; owns_none = I.owns_none; owes_none = I.owes_none }, refl, same_looked true gfn write t _ refl refl refl L)
share_known z gfn write t v _ _ _ (share.TakesBack word is) I L =
    (record { section = I.section; owns_none = I.owns_none; owes_none = I.owes_none }, refl, same_looked true gfn write t _ (kept t I.section) refl refl L)

-- the check
count_known : (b : Bool) (z : Sizes) (gfn : ℕ) (write : Bool) (t : Topics) (v : ℕ) → (v == 0) ≡ b → Sharing gfn write t → t.owned ≡ None
    → FaultKnows (if b then Check stage.Seq else Check stage.Start) z gfn write
    (record t { invalidations = record t.invalidations { count = v; checked = count_checked t.hold } })
count_known true z gfn write t v is S none =
    (same_sharing gfn write t _ refl refl refl refl refl refl S, none, inl (ap (λ (x : Hold). count_checked x) S.shares, grind (arith, nat_tests)))
count_known false z gfn write t v is S none =
    (same_sharing gfn write t _ refl refl refl refl refl refl S, none, (ap (λ (x : Hold). count_checked x) S.shares, grind (arith, nat_tests)))

past : (start gfn end_ : ℕ) → (nat_le start gfn && nat_lt gfn end_) ≡ false → (gfn < start) ⊎ (end_ ≤ gfn)
past start gfn end_ e = by (nat_le start gfn) refl
  where
    by : (b : Bool) → nat_le start gfn ≡ b → (gfn < start) ⊎ (end_ ≤ gfn)
    by true is = inr (grind (arith, nat_tests))
    by false is = inl (grind (arith, nat_tests))

range_known : (b : Bool) (z : Sizes) (gfn : ℕ) (write : Bool) (t : Topics) (v : ℕ) → (nat_le t.invalidations.start gfn && nat_lt gfn v) ≡ b
    → Sharing gfn write t → t.owned ≡ None → CheckKnows stage.End gfn t.invalidations
    → FaultKnows (if b then Unshare (Retry false (Open t.invalidations.count t.invalidations.start v gfn)) else Check stage.Seq) z gfn write
    (record t { invalidations = record t.invalidations { end = v; checked = range_checked t.invalidations.checked } })
range_known true z gfn write t v is S none K =
    let O = over_it t.invalidations.start gfn v is in (
      record { section = S.section; owns_none = none; owes_none = S.owes_none },
      S.shares,
      whole_anew (Open t.invalidations.count t.invalidations.start v gfn) z gfn _ (refl, K.1, O.0, O.1, refl, refl, refl),
    )
range_known false z gfn write t v is S none K =
    (same_sharing gfn write t _ refl refl refl refl refl refl S, none, inr (ap (λ (x : Checked). range_checked x) K.0, past t.invalidations.start gfn v is))

taken : (s : Option ℕ) → is_some s ≡ true → s ≡ Some (snapshot_taken s)
taken None is = absurd (cc is)
taken (Some n) is = refl

none_open : (locked : Bool) (n : Invalidations) (gfn : ℕ) → CheckKnows stage.Seq gfn n
    → (seq_checked locked n.count n.checked ≡ checked.All) × ((n.count ≡ 0) ⊎ (gfn < n.start) ⊎ (n.end ≤ gfn))
none_open locked n gfn (inl c) = (ap (λ (x : Checked). seq_checked locked n.count x) c.0 ∙ ap (λ m. seq_checked locked m checked.Count) c.1, inl c.1)
none_open locked n gfn (inr c) = (ap (λ (x : Checked). seq_checked locked n.count x) c.0, over c.1)
  where
    over : (gfn < n.start) ⊎ (n.end ≤ gfn) → (n.count ≡ 0) ⊎ (gfn < n.start) ⊎ (n.end ≤ gfn)
    over (inl lt) = inr (inl lt)
    over (inr le) = inr (inr le)

seq_by : (b : Bool) (z : Sizes) (gfn : ℕ) (write : Bool) (t : Topics) (v : ℕ) → (v == snapshot_taken t.invalidations.snapshot) ≡ b
    → Sharing gfn write t → t.owned ≡ None → CheckKnows stage.Seq gfn t.invalidations
    → FaultKnows (if b then Walk false else Unshare (Retry false (Moved (snapshot_taken t.invalidations.snapshot) v))) z gfn write (sequenced false t v)
seq_by true z gfn write t v is S none K =
    let N = none_open (has_lock t.hold) t.invalidations gfn K in
    let same : v ≡ snapshot_taken t.invalidations.snapshot = grind (arith, nat_tests) in (
      record {
        sharing = same_sharing gfn write t _ refl refl refl refl refl refl S;
        fresh = record { checked_all = N.0; still = taken t.invalidations.snapshot S.looked.snapshot ∙ ap Some (sym same); none_over = N.1 };
      },
      none,
      λ e. absurd (cc e),
    )
seq_by false z gfn write t v is S none K = (
  record { section = S.section; owns_none = none; owes_none = S.owes_none },
  S.shares,
  whole_anew (Moved (snapshot_taken t.invalidations.snapshot) v) z gfn _ (taken t.invalidations.snapshot S.looked.snapshot, refl, grind (arith, nat_tests)),
)

pub check_known : (at : CheckStage) (z : Sizes) (gfn : ℕ) (write : Bool) (t : Topics) (v : ℕ) → Sharing gfn write t → t.owned ≡ None
    → CheckKnows at gfn t.invalidations → FaultKnows (check_next at gfn t v) z gfn write (part_topics (check_part at) t v)
check_known stage.Count z gfn write t v S none K = count_known (v == 0) z gfn write t v refl S none
check_known stage.Start z gfn write t v S none K =
    (same_sharing gfn write t _ refl refl refl refl refl refl S, none, (ap (λ (x : Checked). start_checked x) K.0, K.1))
check_known stage.End z gfn write t v S none K = range_known (nat_le t.invalidations.start gfn && nat_lt gfn v) z gfn write t v refl S none K
check_known stage.Seq z gfn write t v S none K =
    subst (λ (x : Hold). FaultKnows (check_next stage.Seq gfn t v) z gfn write (sequenced (is_loose x) t v)) (sym S.shares)
    (seq_by (v == snapshot_taken t.invalidations.snapshot) z gfn write t v refl S none K)

-- the lock given back, and the section's end
pub unshare_known : (e : FaultEnd) (z : Sizes) (gfn : ℕ) (write : Bool) (t : Topics) → InSection t → FaultEndKnows e z gfn write t
    → FaultKnows (End e) z gfn write (let_go t)
unshare_known e z gfn write t I K = (
  record { section = I.section; owns_none = I.owns_none; owes_none = I.owes_none },
  refl,
  ends_same e z gfn write t _ (kept_table t I.section) (kept t I.section) refl refl refl K,
)
