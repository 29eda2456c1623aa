-- What a fault knows of topics it knows of other topics that are the same in what this speaks of.
use Rattle.std.proofs.Common.{◌≡◌, inl, inr, ◌<◌, ◌≤◌, ℕ, refl, sym, subst, ap, ◌∙◌, arith}
use Rattle.std.specs.Prelude.{Bool, true, false, ◌&&◌, nat_le, nat_lt, not, Option, Some, is_some}
use Rattle.std.proofs.lemmas.Bool.Decides.{nat_tests}
use Rattle.core_views.specs.declared.place.Cause.TheVariants.{Open, Moved, Entry}
use Rattle.core_views.specs.declared.place.Cause.{Cause}
use Rattle.core_views.specs.declared.place.FaultEnd.{FaultEnd}
use Rattle.core_views.specs.declared.place.FaultEnd.TheVariants.{Installed, Mmio, HostFault, Starved, Fixed, Retry, NotFast}
use Rattle.core_views.specs.declared.sizes.Sizes.{Sizes}
use Rattle.core_views.specs.declared.topics.HostLook.{HostLook}
use Rattle.core_views.specs.declared.topics.Invalidations.{Invalidations}
use Rattle.core_views.specs.declared.topics.SlotSearch.{SlotSearch}
use Rattle.core_views.specs.declared.topics.TableWalk.{TableWalk}
use Rattle.core_views.specs.declared.topics.Topics.{Topics}
use Rattle.core_views.specs.Slots.{contains}
use Rattle.spte_words.specs.Areas.{words_of_bits}
use Rattle.spte_words.specs.Entries.{kind_of}
use Rattle.spte_words.specs.HostWords.{host_present}
use Rattle.mmu_core.specs.forms.access.FaultKnows.{FaultEndKnows, Entering, FoundNone, FoundNoPage, IsInTheWay, LookedFor, SawUpperEnd, Sharing, WithoutLock}
use Rattle.mmu_core.specs.forms.access.FaultKnows.{HasCause, HasEntry, InSection, IsFixed, IsLostFix, Retries, SawNotFast, forbids_more}
use Rattle.mmu_core.specs.forms.access.FaultSteps.{allows_access, host_word_at}
use Rattle.part_steps.specs.PartHoldings.{takes_table, FoundSlot, IsFresh, LookedUp, SawEntry, one_mark_tells}
use Rattle.part_steps.specs.PartTasks.{word_looked}
use Rattle.part_steps.specs.SlotWords.{page_of}
use Rattle.part_steps.specs.StayTopics.{unchecked}

-- Tests of two truths.
pub both : (a b : Bool) → (a && b) ≡ true → (a ≡ true) × (b ≡ true)
both true b e = (refl, e)
both false b e = absurd (cc e)

pub not_then : (a b : Bool) → (a && b) ≡ false → a ≡ true → b ≡ false
not_then true b e is = e
not_then false b e is = absurd (cc is)

pub not_not : (b : Bool) → not b ≡ false → b ≡ true
not_not true e = refl
not_not false e = absurd (cc e)

pub is_not : (b : Bool) → not b ≡ true → b ≡ false
is_not true e = absurd (cc e)
is_not false e = refl

pub over_it : (start gfn end_ : ℕ) → (nat_le start gfn && nat_lt gfn end_) ≡ true → (start ≤ gfn) × (gfn < end_)
over_it start gfn end_ e = let B = both (nat_le start gfn) (nat_lt gfn end_) e in (grind (arith, nat_tests), grind (arith, nat_tests))

-- What was found of the slot, looked up and allowed is so of other topics with the same search and host word.
pub same_found : (gfn : ℕ) (t u : Topics) → u.search ≡ t.search → FoundSlot gfn t → FoundSlot gfn u
same_found gfn t u search F = record {
  whole = ap (λ (s : SlotSearch). s.whole) search ∙ F.whole;
  holds = ap (λ (s : SlotSearch). contains gfn s.slot) search ∙ F.holds;
}

abbrev pub same_looked_up : (gfn : ℕ) (t u : Topics) → u.search ≡ t.search → u.host ≡ t.host → LookedUp gfn t → LookedUp gfn u
same_looked_up gfn t u search host L =
    let look : SlotSearch → Option HostLook = λ s. Some (record { page = page_of s.slot gfn; word = L.word }) in
    record { found = same_found gfn t u search L.found; word = L.word; host = host ∙ L.host ∙ ap look (sym search) }

pub same_looked : (present : Bool) (gfn : ℕ) (write : Bool) (t u : Topics) → u.search ≡ t.search → u.host ≡ t.host
    → u.invalidations.snapshot ≡ t.invalidations.snapshot → LookedFor present gfn write t → LookedFor present gfn write u
same_looked present gfn write t u search host snapshot L = record {
  looked_up = same_looked_up gfn t u search host L.looked_up;
  presence = ap (λ (x : Option HostLook). host_present (word_looked x)) host ∙ L.presence;
  allowed = λ w. (ap (λ (s : SlotSearch). s.slot.read_only) search ∙ (L.allowed w).0, (L.allowed w).1);
  snapshot = ap (λ (x : Option ℕ). is_some x) snapshot ∙ L.snapshot;
}

pub same_sharing : (gfn : ℕ) (write : Bool) (t u : Topics) → u.stay ≡ t.stay → u.hold ≡ t.hold → u.search ≡ t.search → u.host ≡ t.host
    → u.invalidations.snapshot ≡ t.invalidations.snapshot → u.owed ≡ t.owed → Sharing gfn write t → Sharing gfn write u
same_sharing gfn write t u stay hold search host snapshot owed S = record {
  section = stay ∙ S.section;
  shares = hold ∙ S.shares;
  looked = same_looked true gfn write t u search host snapshot S.looked;
  owes_none = owed ∙ S.owes_none;
}

pub same_inside : (t u : Topics) → u.stay ≡ t.stay → u.owned ≡ t.owned → u.owed ≡ t.owed → InSection t → InSection u
same_inside t u stay owned owed I = record { section = stay ∙ I.section; owns_none = owned ∙ I.owns_none; owes_none = owed ∙ I.owes_none }

pub same_entering : (gfn : ℕ) (write : Bool) (t u : Topics) → u.stay ≡ t.stay → u.hold ≡ t.hold → u.search ≡ t.search → u.host ≡ t.host
    → u.invalidations ≡ t.invalidations → u.owed ≡ t.owed → Entering gfn write t → Entering gfn write u
same_entering gfn write t u stay hold search host n owed E = record {
  sharing = same_sharing gfn write t u stay hold search host (ap (λ (x : Invalidations). x.snapshot) n) owed E.sharing;
  fresh = subst (IsFresh gfn) (sym n) E.fresh;
}

pub same_end : (gfn : ℕ) (t u : Topics) → u.walk ≡ t.walk → SawUpperEnd gfn t → SawUpperEnd gfn u
same_end gfn t u walk S = record {
  saw = subst (SawEntry gfn) (sym walk) S.saw;
  upper = subst (λ (w : TableWalk). 2 ≤ w.level) (sym walk) S.upper;
  takes = ap (λ (w : TableWalk). takes_table (kind_of w.level w.entry)) walk ∙ S.takes;
}

same_none_found : (gfn : ℕ) (t u : Topics) → u.search ≡ t.search → FoundNone gfn t → FoundNone gfn u
same_none_found gfn t u search N =
    record { over = ap (λ (s : SlotSearch). s.id) search ∙ N.over; not_found = λ F. N.not_found (same_found gfn u t (sym search) F) }

-- And so is what an end rests on, where the walk and the claim are the same too, and what was loaded of the invalidations.
pub same_page : (gfn : ℕ) (write : Bool) (t u : Topics) → u.search ≡ t.search → FoundNoPage gfn write t → FoundNoPage gfn write u
same_page gfn write t u search (inl n) = inl (n.0, same_found gfn t u search n.1, ap (λ (s : SlotSearch). s.slot.read_only) search ∙ n.2)
same_page gfn write t u search (inr N) = inr (same_none_found gfn t u search N)

pub same_entry : (gfn : ℕ) (write : Bool) (t u : Topics) → u.walk ≡ t.walk → HasEntry gfn write t → HasEntry gfn write u
same_entry gfn write t u walk K = record {
  saw = subst (SawEntry gfn) (sym walk) K.saw;
  leaf = ap (λ (w : TableWalk). kind_of w.level w.entry) walk ∙ K.leaf;
  allows = ap (λ (w : TableWalk). allows_access write w.entry) walk ∙ K.allows;
}

same_not_fast : (word gfn : ℕ) (t u : Topics) → u.walk ≡ t.walk → u.search ≡ t.search → SawNotFast word gfn t → SawNotFast word gfn u
same_not_fast word gfn t u walk search (inl n) = inl (n.0, same_none_found gfn t u search n.1)
same_not_fast word gfn t u walk search (inr S) = inr (subst
    (λ (w : TableWalk). SawEntry gfn w × (w.entry ≡ word) × (forbids_more (kind_of w.level word) w.level u.search.logged word ≡ true)) (sym walk)
    (subst (λ (s : SlotSearch). SawEntry gfn t.walk × (t.walk.entry ≡ word) × (forbids_more (kind_of t.walk.level word) t.walk.level s.logged word ≡ true))
    (sym search) S))

cause_same : (cause : Cause) (z : Sizes) (gfn : ℕ) (t u : Topics) → u.walk ≡ t.walk → u.search ≡ t.search → u.host ≡ t.host
    → unchecked u.invalidations ≡ unchecked t.invalidations → HasCause cause z gfn t → HasCause cause z gfn u
cause_same (Open count start end_ at) z gfn t u walk search host n K =
    (K.0, K.1, K.2, K.3, ap (λ (x : Invalidations). x.count) n ∙ K.4, ap (λ (x : Invalidations). x.start) n ∙ K.5, ap (λ (x : Invalidations). x.end) n ∙ K.6)
cause_same (Moved old_ now_) z gfn t u walk search host n K =
    (ap (λ (x : Invalidations). x.snapshot) n ∙ K.0, ap (λ (x : Invalidations). x.seq) n ∙ K.1, K.2)
cause_same (Entry word read seen) z gfn t u walk search host n (inl W) = inl (subst (IsInTheWay word read seen z gfn) (sym walk) W)
cause_same (Entry word read seen) z gfn t u walk search host n (inr M) = inr (record {
  looked_up = same_looked_up gfn t u search host M.looked_up;
  is_word = M.is_word ∙ ap (λ (x : Option HostLook). host_word_at z x) (sym host);
  holds = ap (λ (x : Option HostLook). word_looked x) host ∙ M.holds;
  why = M.why;
})

-- A whole fault begins anew.
pub whole_anew : (cause : Cause) (z : Sizes) (gfn : ℕ) (t : Topics) → HasCause cause z gfn t → Retries false cause z gfn t
whole_anew cause z gfn t K = record { has = K; lost = λ e. absurd (cc e) }

pub ends_same : (e : FaultEnd) (z : Sizes) (gfn : ℕ) (write : Bool) (t u : Topics) → u.walk ≡ t.walk → u.search ≡ t.search → u.host ≡ t.host
    → u.claim.at ≡ t.claim.at → unchecked u.invalidations ≡ unchecked t.invalidations → FaultEndKnows e z gfn write t → FaultEndKnows e z gfn write u
ends_same Installed z gfn write t u walk search host claim n K = same_entry gfn write t u walk K
ends_same Mmio z gfn write t u walk search host claim n K = same_page gfn write t u search K
ends_same HostFault z gfn write t u walk search host claim n K =
    record { writes = K.writes; looked_up = same_looked_up gfn t u search host K.looked_up; forbids = K.forbids }
ends_same Starved z gfn write t u walk search host claim n K = subst (λ n. words_of_bits z.pool ≤ n) (sym claim) K
ends_same (NotFast word) z gfn write t u walk search host claim n K = same_not_fast word gfn t u walk search K
ends_same (Fixed marked) z gfn write t u walk search host claim n K = record {
  found = same_found gfn t u search K.found;
  entry = same_entry gfn write t u walk K.entry;
  fixed = subst (λ (w : TableWalk). IsFixed w.entry) (sym walk) K.fixed;
  told = ap (λ (w : TableWalk). one_mark_tells w.level u.search.logged) walk ∙ ap (λ (s : SlotSearch). one_mark_tells t.walk.level s.logged) search ∙ K.told;
  marks = K.marks ∙ ap (λ (s : SlotSearch). s.logged) (sym search);
}
ends_same (Retry fast cause) z gfn write t u walk search host claim n K = record {
  has = cause_same cause z gfn t u walk search host n K.has;
  lost = λ is. subst (λ (w : TableWalk). IsLostFix cause z gfn w u.search.logged) (sym walk)
      (subst (λ (s : SlotSearch). IsLostFix cause z gfn t.walk s.logged) (sym search) (K.lost is));
}

pub same_without : (t u : Topics) → u.stay ≡ t.stay → u.owned ≡ t.owned → u.hold ≡ t.hold → u.invalidations ≡ t.invalidations → u.owed ≡ t.owed
    → WithoutLock t → WithoutLock u
same_without t u stay owned hold n owed W = record {
  inside = same_inside t u stay owned owed W.inside;
  loose = hold ∙ W.loose;
  snapshot = ap (λ (x : Invalidations). is_some x.snapshot) n ∙ W.snapshot;
}
