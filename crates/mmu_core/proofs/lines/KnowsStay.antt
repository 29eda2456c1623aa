-- What a line knows at its place holds where there merely is a world that shows it: each part of it has at most one proof, or speaks of
-- what the topics name, or can be decided. So every reached hand knows what the place of its next step asks.
use Rattle.std.proofs.Common.{◌≡◌, ◌≢◌, ◌⊎◌, inl, inr, ⊎_elim, ◌<◌, ◌≤◌, ℕ, length, refl, sym, subst, ap, ◌∙◌}
use Rattle.std.specs.Prelude.{Bool, true, false, Option, Some, None}
use Rattle.std.proofs.Math.Logic.{∥∥₁_elim, ∥∥₁_map}
use Rattle.std.proofs.Props.{props}
use Rattle.std.proofs.lemmas.Bool.{cases_lt}
use Rattle.core_views.specs.declared.place.AccessPlace.{AccessPlace}
use Rattle.core_views.specs.declared.place.AccessPlace.TheVariants.{Touch, Fault}
use Rattle.core_views.specs.declared.place.Cause.{Cause}
use Rattle.core_views.specs.declared.place.Cause.TheVariants.{Entry}
use Rattle.core_views.specs.declared.place.CheckStage.{CheckStage}
use Rattle.core_views.specs.declared.place.CheckStage.TheVariants as stage
use Rattle.core_views.specs.declared.place.FaultEnd.{FaultEnd}
use Rattle.core_views.specs.declared.place.FaultEnd.TheVariants.{Mmio, HostFault, Retry, NotFast}
use Rattle.core_views.specs.declared.place.FaultPlace.{FaultPlace}
use Rattle.core_views.specs.declared.place.FaultPlace.TheVariants as fault
use Rattle.core_views.specs.declared.place.Place.{Place}
use Rattle.core_views.specs.declared.place.Place.TheVariants as place
use Rattle.core_views.specs.declared.sizes.Sizes.{Sizes}
use Rattle.core_views.specs.declared.topics.Checked.{Checked}
use Rattle.core_views.specs.declared.topics.Checked.TheVariants as checked
use Rattle.core_views.specs.declared.topics.HostLook.{HostLook}
use Rattle.core_views.specs.declared.topics.Invalidations.{Invalidations}
use Rattle.core_views.specs.declared.topics.TableWalk.{TableWalk}
use Rattle.core_views.specs.declared.topics.Topics.{Topics}
use Rattle.core_views.specs.declared.trace.Command.{Command}
use Rattle.core_views.specs.declared.trace.Command.TheVariants.{Access}
use Rattle.core_views.specs.Held.{Held}
use Rattle.core_views.specs.Slots.{contains, is_write}
use Rattle.spte_words.specs.declared.spte_kind.SpteKind.{SpteKind}
use Rattle.spte_words.specs.declared.spte_kind.SpteKind.TheVariants as entry_kind
use Rattle.spte_words.specs.Entries.{kind_of}
use Rattle.spte_words.specs.HostWords.{host_allows_write}
use Rattle.mmu_core.specs.forms.access.FaultKnows.{CheckKnows, FaultEndKnows, Entering, FaultKnows, FoundNone, FoundNoPage, HasCause, HostForbids, IsInTheWay}
use Rattle.mmu_core.specs.forms.access.FaultKnows.{IsHostWordMoved, IsLostFix, LookedFor, Sharing, IsRetry, SawNotFast}
use Rattle.mmu_core.specs.forms.access.FaultSteps.{host_word_at}
use Rattle.mmu_core.specs.forms.access.AccessKnows.{AccessKnows}
use Rattle.mmu_core.specs.lines.Forms.{KnowsPart}
use Rattle.part_steps.specs.PartHoldings.{FoundSlot, LookedUp}
use Rattle.part_steps.specs.PartTasks.{word_looked}
use Rattle.part_steps.specs.SlotWords.{page_of}
use Rattle.part_steps.proofs.EntryTopics.{looked_at}
use Rattle.mmu_core.specs.machine.Steps.{line_at, place_at}
use Rattle.mmu_core.specs.machine.View.{view}
use Rattle.mmu_core.specs.machine.Worlds.{HandReached}
use Rattle.mmu_core.proofs.machine.Columns.{same_or}
use Rattle.mmu_core.proofs.lines.Forms.{knows_prop}
use Rattle.mmu_core.proofs.lines.KnowsKept.{knows_at}
use Rattle.mmu_core.proofs.invariant.RestsKept.{either_stays, fresh_stays, looked_stays, or_not, prop_stays, same_look}
use Rattle.mmu_core.proofs.start.Starts.{reached_good}
use Rattle.mmu_core.proofs.forms.access.UsedTranslations.{uses_stays}

-- what can be decided of two facts, of how far a check has come, and of an entry
both_or : {A B : Type 0} → A ⊎ (A → ⊥) → B ⊎ (B → ⊥) → (A × B) ⊎ (A × B → ⊥)
both_or (inl a) (inl b) = inl (a, b)
both_or (inl a) (inr never) = inr (λ p. never p.1)
both_or (inr never) b = inr (λ p. never p.0)

is_count : (c : Checked) → (c ≡ checked.Count) ⊎ (c ≢ checked.Count)
is_count checked.Count = inl refl
is_count _ = inr (λ e. absurd (cc e))

is_frozen : (k : SpteKind) → (k ≡ entry_kind.Frozen) ⊎ (k ≢ entry_kind.Frozen)
is_frozen entry_kind.Frozen = inl refl
is_frozen _ = inr (λ e. absurd (cc e))

-- The topics name the host word that was looked up.
same_word : (gfn : ℕ) (t : Topics) (a b : LookedUp gfn t) → a.word ≡ b.word
same_word gfn t a b = ap (λ (look : HostLook). look.word) (same_look (sym a.host ∙ b.host))

looked_for_stays : (present : Bool) (gfn : ℕ) (write : Bool) (t : Topics) → ∥ LookedFor present gfn write t ∥₁ → LookedFor present gfn write t
looked_for_stays present gfn write t x =
    let look = looked_stays gfn t (∥∥₁_map x (λ L. L.looked_up)) in
    record {
      looked_up = look;
      presence = ∥∥₁_elim x (hlevel props) (λ L. L.presence);
      allowed =
          ∥∥₁_elim x (hlevel props)
          (λ L. λ writes. let may = L.allowed writes in (may.0, ap host_allows_write (same_word gfn t look L.looked_up) ∙ may.1));
      snapshot = ∥∥₁_elim x (hlevel props) (λ L. L.snapshot);
    }

sharing_stays : (gfn : ℕ) (write : Bool) (t : Topics) → ∥ Sharing gfn write t ∥₁ → Sharing gfn write t
sharing_stays gfn write t x = record {
  section = ∥∥₁_elim x (hlevel props) (λ S. S.section);
  shares = ∥∥₁_elim x (hlevel props) (λ S. S.shares);
  looked = looked_for_stays true gfn write t (∥∥₁_map x (λ S. S.looked));
  owes_none = ∥∥₁_elim x (hlevel props) (λ S. S.owes_none);
}

entering_stays : (gfn : ℕ) (write : Bool) (t : Topics) → ∥ Entering gfn write t ∥₁ → Entering gfn write t
entering_stays gfn write t x =
    record { sharing = sharing_stays gfn write t (∥∥₁_map x (λ E. E.sharing)); fresh = fresh_stays gfn t.invalidations (∥∥₁_map x (λ E. E.fresh)) }

entering_two : (gfn : ℕ) (write : Bool) (t : Topics) {A B : Type 0} → ∥ Entering gfn write t × A × B ∥₁ → IsProp A → IsProp B → Entering gfn write t × A × B
entering_two gfn write t x a b = (entering_stays gfn write t (∥∥₁_map x (λ K. K.0)), ∥∥₁_elim x a (λ K. K.1), ∥∥₁_elim x b (λ K. K.2))

entering_three : (gfn : ℕ) (write : Bool) (t : Topics) {A B C : Type 0} → ∥ Entering gfn write t × A × B × C ∥₁ → IsProp A → IsProp B → IsProp C
    → Entering gfn write t × A × B × C
entering_three gfn write t x a b c =
    (entering_stays gfn write t (∥∥₁_map x (λ K. K.0)), ∥∥₁_elim x a (λ K. K.1), ∥∥₁_elim x b (λ K. K.2), ∥∥₁_elim x c (λ K. K.3))

-- how far the check has come
range_stays : (gfn : ℕ) (n : Invalidations) → ∥ (n.checked ≡ checked.Range) × ((gfn < n.start) ⊎ (n.end ≤ gfn)) ∥₁
    → (n.checked ≡ checked.Range) × ((gfn < n.start) ⊎ (n.end ≤ gfn))
range_stays gfn n x =
    (∥∥₁_elim x (hlevel props) (λ R. R.0), either_stays (or_not gfn n.start (cases_lt gfn n.start)) (λ y. prop_stays (hlevel props) y) (∥∥₁_map x (λ R. R.1)))

check_stays : (at : CheckStage) (gfn : ℕ) (n : Invalidations) → ∥ CheckKnows at gfn n ∥₁ → CheckKnows at gfn n
check_stays stage.Count gfn n x = tt
check_stays stage.Seq gfn n x = either_stays (both_or (is_count n.checked) (same_or n.count 0)) (range_stays gfn n) x
check_stays _ gfn n x = prop_stays (hlevel props) x

-- Whether a search of all slots found none for the guest frame.
found_or_not : (gfn : ℕ) (t : Topics) → FoundSlot gfn t ⊎ (FoundSlot gfn t → ⊥)
found_or_not gfn t = by t.search.whole (contains gfn t.search.slot) refl refl
  where
    by : (whole holds : Bool) → t.search.whole ≡ whole → contains gfn t.search.slot ≡ holds → FoundSlot gfn t ⊎ (FoundSlot gfn t → ⊥)
    by true true w c = inl (record { whole = w; holds = c })
    by true false w c = inr (λ F. let e = F.holds in cc (e, c))
    by false holds w c = inr (λ F. let e = F.whole in cc (e, w))

none_or_not : (gfn : ℕ) (t : Topics) → FoundNone gfn t ⊎ (FoundNone gfn t → ⊥)
none_or_not gfn t = by (same_or t.search.id 32) (found_or_not gfn t)
  where
    by : (t.search.id ≡ 32) ⊎ (t.search.id ≢ 32) → FoundSlot gfn t ⊎ (FoundSlot gfn t → ⊥) → FoundNone gfn t ⊎ (FoundNone gfn t → ⊥)
    by (inl over) (inr never) = inl (record { over = over; not_found = never })
    by (inl over) (inl found) = inr (λ N. N.not_found found)
    by (inr before) f = inr (λ N. before N.over)

-- what an end rests on
no_page_stays : (gfn : ℕ) (write : Bool) (t : Topics) → ∥ FoundNoPage gfn write t ∥₁ → FoundNoPage gfn write t
no_page_stays gfn write t x = by (none_or_not gfn t)
  where
    by : FoundNone gfn t ⊎ (FoundNone gfn t → ⊥) → FoundNoPage gfn write t
    by (inl none) = inr none
    by (inr some) = inl (∥∥₁_elim x (hlevel props) (⊎_elim (λ found. found) (λ none. absurd (some none))))

not_fast_stays : (word gfn : ℕ) (t : Topics) → ∥ SawNotFast word gfn t ∥₁ → SawNotFast word gfn t
not_fast_stays word gfn t x = by (both_or (same_or word 0) (none_or_not gfn t))
  where
    NoSlot : Type 0
    NoSlot = (word ≡ 0) × FoundNone gfn t

    by : NoSlot ⊎ (NoSlot → ⊥) → SawNotFast word gfn t
    by (inl none) = inl none
    by (inr found) = inr (∥∥₁_elim x (hlevel props) (⊎_elim (λ none. absurd (found none)) (λ saw. saw)))

forbids_stays : (gfn : ℕ) (write : Bool) (t : Topics) → ∥ HostForbids gfn write t ∥₁ → HostForbids gfn write t
forbids_stays gfn write t x =
    let look = looked_stays gfn t (∥∥₁_map x (λ F. F.looked_up)) in
    record {
      writes = ∥∥₁_elim x (hlevel props) (λ F. F.writes);
      looked_up = look;
      forbids = ∥∥₁_elim x (hlevel props) (λ F. ap host_allows_write (same_word gfn t look F.looked_up) ∙ F.forbids);
    }

way_stays : (word read seen : ℕ) (z : Sizes) (gfn : ℕ) (walk : TableWalk) → ∥ IsInTheWay word read seen z gfn walk ∥₁ → IsInTheWay word read seen z gfn walk
way_stays word read seen z gfn walk x = record {
  saw = ∥∥₁_elim x (hlevel props) (λ W. W.saw);
  is_entry = ∥∥₁_elim x (hlevel props) (λ W. W.is_entry);
  holds = ∥∥₁_elim x (hlevel props) (λ W. W.holds);
  why = why (same_or read seen) (∥∥₁_map x (λ W. W.why));
}
  where
    Why : Type 0
    Why = (read ≢ seen) ⊎ (kind_of walk.level seen ≡ entry_kind.Frozen)

    why : (read ≡ seen) ⊎ (read ≢ seen) → ∥ Why ∥₁ → Why
    why (inl same) y = inr (∥∥₁_elim y (hlevel props) (⊎_elim (λ differs. absurd (differs same)) (λ frozen. frozen)))
    why (inr differs) y = inl differs

-- Whether the page behind the guest frame was looked up, and its word is another one now.
looked_or_not : (gfn : ℕ) (t : Topics) → LookedUp gfn t ⊎ (LookedUp gfn t → ⊥)
looked_or_not gfn t = by t.search.whole (contains gfn t.search.slot) t.host refl refl refl
  where
    of_page : (look : HostLook) → t.search.whole ≡ true → contains gfn t.search.slot ≡ true → t.host ≡ Some look
        → (look.page ≡ page_of t.search.slot gfn) ⊎ (look.page ≢ page_of t.search.slot gfn) → LookedUp gfn t ⊎ (LookedUp gfn t → ⊥)
    of_page look whole holds is (inl at) =
        let L = looked_at t.host look (page_of t.search.slot gfn) is at in
        inl (record { found = record { whole = whole; holds = holds }; word = L.0; host = L.1 })
    of_page look whole holds is (inr apart) = inr (λ L. apart (ap (λ (l : HostLook). l.page) (same_look (sym is ∙ L.host))))

    by : (whole holds : Bool) (o : Option HostLook) → t.search.whole ≡ whole → contains gfn t.search.slot ≡ holds → t.host ≡ o
        → LookedUp gfn t ⊎ (LookedUp gfn t → ⊥)
    by true true (Some look) w c is = of_page look w c is (same_or look.page (page_of t.search.slot gfn))
    by true true None w c is = inr (λ L. let e = L.host in cc (e, is))
    by true false o w c is = inr (λ L. let e = L.found.holds in cc (e, c))
    by false holds o w c is = inr (λ L. let e = L.found.whole in cc (e, w))

moved_or_not : (word read seen : ℕ) (z : Sizes) (gfn : ℕ) (t : Topics)
    → IsHostWordMoved word read seen z gfn t ⊎ (IsHostWordMoved word read seen z gfn t → ⊥)
moved_or_not word read seen z gfn t =
    by (looked_or_not gfn t) (both_or (same_or word (host_word_at z t.host)) (same_or (word_looked t.host) seen)) (same_or read seen)
  where
    Words : Type 0
    Words = (word ≡ host_word_at z t.host) × (word_looked t.host ≡ seen)

    by : LookedUp gfn t ⊎ (LookedUp gfn t → ⊥) → Words ⊎ (Words → ⊥) → (read ≡ seen) ⊎ (read ≢ seen)
        → IsHostWordMoved word read seen z gfn t ⊎ (IsHostWordMoved word read seen z gfn t → ⊥)
    by (inl look) (inl w) (inr differs) = inl (record { looked_up = look; is_word = w.0; holds = w.1; why = differs })
    by (inr never) w d = inr (λ M. never M.looked_up)
    by (inl look) (inr never) d = inr (λ M. never (M.is_word, M.holds))
    by (inl look) (inl w) (inl same) = inr (λ M. M.why same)

cause_stays : (cause : Cause) (z : Sizes) (gfn : ℕ) (t : Topics) → ∥ HasCause cause z gfn t ∥₁ → HasCause cause z gfn t
cause_stays (Entry word read seen) z gfn t x = by (moved_or_not word read seen z gfn t)
  where
    Way : Type 0
    Way = IsInTheWay word read seen z gfn t.walk

    Moves : Type 0
    Moves = IsHostWordMoved word read seen z gfn t

    by : Moves ⊎ (Moves → ⊥) → Way ⊎ Moves
    by (inl moves) = inr moves
    by (inr never) = inl (way_stays word read seen z gfn t.walk (∥∥₁_map x (⊎_elim (λ way. way) (λ moves. absurd (never moves)))))
cause_stays _ z gfn t x = prop_stays (hlevel props) x

lost_stays : (cause : Cause) (z : Sizes) (gfn : ℕ) (walk : TableWalk) (logged : Bool) → ∥ IsLostFix cause z gfn walk logged ∥₁
    → IsLostFix cause z gfn walk logged
lost_stays (Entry word read seen) z gfn walk logged x = prop_stays (hlevel props) x
lost_stays _ z gfn walk logged x = prop_stays (hlevel props) x

end_stays : (e : FaultEnd) (z : Sizes) (gfn : ℕ) (write : Bool) (t : Topics) → ∥ FaultEndKnows e z gfn write t ∥₁ → FaultEndKnows e z gfn write t
end_stays Mmio z gfn write t x = no_page_stays gfn write t x
end_stays HostFault z gfn write t x = forbids_stays gfn write t x
end_stays (NotFast word) z gfn write t x = not_fast_stays word gfn t x
end_stays (Retry fast cause) z gfn write t x =
    record { has = cause_stays cause z gfn t (∥∥₁_map x (λ K. K.has)); lost = λ is. lost_stays cause z gfn t.walk t.search.logged (∥∥₁_map x (λ K. K.lost is)) }
end_stays _ z gfn write t x = prop_stays (hlevel props) x

retry_stays : (e : FaultEnd) → ∥ IsRetry e ∥₁ → IsRetry e
retry_stays (Retry fast cause) x = tt
retry_stays _ x = prop_stays (hlevel props) x

-- each place of a fault, of an access, and of a line
fault_stays : (p : FaultPlace) (z : Sizes) (gfn : ℕ) (write : Bool) (t : Topics) → ∥ FaultKnows p z gfn write t ∥₁ → FaultKnows p z gfn write t
fault_stays fault.Bring z gfn write t x = (∥∥₁_elim x (hlevel props) (λ K. K.0), looked_for_stays false gfn write t (∥∥₁_map x (λ K. K.1)))
fault_stays fault.Share z gfn write t x =
    (∥∥₁_elim x (hlevel props) (λ K. K.0), ∥∥₁_elim x (hlevel props) (λ K. K.1), looked_for_stays true gfn write t (∥∥₁_map x (λ K. K.2)))
fault_stays (fault.Check at) z gfn write t x =
    (sharing_stays gfn write t (∥∥₁_map x (λ K. K.0)), ∥∥₁_elim x (hlevel props) (λ K. K.1), check_stays at gfn t.invalidations (∥∥₁_map x (λ K. K.2)))
fault_stays (fault.Walk rooted) z gfn write t x = entering_two gfn write t x (hlevel props) (hlevel props)
fault_stays (fault.Claim begun) z gfn write t x = entering_three gfn write t x (hlevel props) (hlevel props) (hlevel props)
fault_stays fault.Fill z gfn write t x = entering_three gfn write t x (hlevel props) (hlevel props) (hlevel props)
fault_stays fault.Role z gfn write t x = entering_three gfn write t x (hlevel props) (hlevel props) (hlevel props)
fault_stays fault.Link z gfn write t x = entering_two gfn write t x (hlevel props) (hlevel props)
fault_stays (fault.Leaf writes) z gfn write t x = (
  entering_stays gfn write t (∥∥₁_map x (λ K. K.0)),
  ∥∥₁_elim x (hlevel props) (λ K. K.1),
  ∥∥₁_elim x (hlevel props) (λ K. K.2),
  ∥∥₁_elim x (hlevel props) (λ K. K.3),
  ∥∥₁_elim x (hlevel props) (λ K. K.4),
  ∥∥₁_elim x (hlevel props) (λ K. K.5),
  ∥∥₁_elim x (hlevel props) (λ K. K.6),
)
fault_stays (fault.Give e) z gfn write t x = (
  ∥∥₁_elim x (hlevel props) (λ K. K.0),
  ∥∥₁_elim x (hlevel props) (λ K. K.1),
  ∥∥₁_elim x (hlevel props) (λ K. K.2),
  ∥∥₁_elim x (hlevel props) (λ K. K.3),
  end_stays e z gfn write t (∥∥₁_map x (λ K. K.4)),
  retry_stays e (∥∥₁_map x (λ K. K.5)),
)
fault_stays (fault.Unshare e) z gfn write t x =
    (∥∥₁_elim x (hlevel props) (λ K. K.0), ∥∥₁_elim x (hlevel props) (λ K. K.1), end_stays e z gfn write t (∥∥₁_map x (λ K. K.2)))
fault_stays (fault.End e) z gfn write t x =
    (∥∥₁_elim x (hlevel props) (λ K. K.0), ∥∥₁_elim x (hlevel props) (λ K. K.1), end_stays e z gfn write t (∥∥₁_map x (λ K. K.2)))
fault_stays _ z gfn write t x = prop_stays (hlevel props) x

access_stays : (p : AccessPlace) (gfn : ℕ) (write : Bool) (h : Held) → ∥ AccessKnows p gfn write h ∥₁ → AccessKnows p gfn write h
access_stays Touch gfn write h x = (∥∥₁_elim x (hlevel props) (λ K. K.0), uses_stays gfn write h (∥∥₁_map x (λ K. K.1)))
access_stays (Fault p) gfn write h x = fault_stays p h.state.sizes gfn write h.topics x
access_stays _ gfn write h x = prop_stays (hlevel props) x

part_stays : (p : Place) (command : Command) (h : Held) → ∥ KnowsPart p command h ∥₁ → KnowsPart p command h
part_stays (place.Access p) (Access gfn word op) h x = access_stays p gfn (is_write op) h x
part_stays (place.Access p) _ h x = prop_stays (hlevel props) x
part_stays p command h x = prop_stays (knows_prop p command h tt) x

-- what the place of the hand's next step asks
abbrev pub KnowsNow : Held → Type 0
KnowsNow h = KnowsPart (place_at h.state.place h) (line_at h.state.place h).command h

pub knows_stay : (h : Held) → ∥ KnowsNow h ∥₁ → KnowsNow h
knows_stay h x = part_stays (place_at h.state.place h) (line_at h.state.place h).command h x

pub reached_knows : (h : Held) → ∥ HandReached h ∥₁ → length h.answers < length h.lines → KnowsNow h
reached_knows h reached left = knows_stay h (∥∥₁_map reached knows_of)
  where
    knows_of : HandReached h → KnowsNow h
    knows_of x =
        let G = reached_good x.world x.reached in
        let there = subst (λ n. x.actor < n) G.hands x.there in
        subst KnowsNow x.has (knows_at x.reached.sizes (view x.reached.sizes x.world) x.actor G.holds there
        (subst (λ (g : Held). length g.answers < length g.lines) (sym x.has) left))
