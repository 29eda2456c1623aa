-- A fast fault that ends with its write allowed has allowed it itself, in the section that it is about to end, and marked the page where its slot has a log;
-- and another one has found no slot, or no leaf in which it could.
use Rattle.std.proofs.Common.{◌≡◌, ◌≢◌, ◌⊎◌, ℕ, arith, List, [], ◌∷◌, ◌++◌, inl, inr, refl, ap, subst, ◌∙◌}
use Rattle.std.proofs.lemmas.Bool.{eqb-true}
use Rattle.std.proofs.lemmas.Bool.Decides.{nat_tests}
use Rattle.std.specs.Prelude.{Bool, true, false, not, nat_le, nat_lt, ◌==◌, ◌&&◌, ◌||◌, ◌+◌, if◌then◌else◌}
use Rattle.core_views.specs.declared.kind.Kind.{Kind}
use Rattle.core_views.specs.declared.place.Cause.TheVariants.{Entry, Moved, Open}
use Rattle.core_views.specs.declared.place.CheckStage.{CheckStage}
use Rattle.core_views.specs.declared.place.CheckStage.TheVariants as stage
use Rattle.core_views.specs.declared.place.FaultEnd.{FaultEnd}
use Rattle.core_views.specs.declared.place.FaultEnd.TheVariants.{Fixed, HostFault, Installed, Mmio, NotFast, Retry}
use Rattle.core_views.specs.declared.place.FaultPlace.{FaultPlace}
use Rattle.core_views.specs.declared.place.FaultPlace.TheVariants as fault
use Rattle.core_views.specs.declared.place.SlotField.{SlotField}
use Rattle.core_views.specs.declared.sizes.Sizes.{Sizes}
use Rattle.core_views.specs.declared.topics.SlotSearch.{SlotSearch}
use Rattle.core_views.specs.declared.topics.Topics.{Topics}
use Rattle.core_views.specs.Held.{Held}
use Rattle.core_views.specs.Kinds.{after}
use Rattle.core_views.specs.Slots.{contains}
use Rattle.spte_words.specs.declared.spte_kind.SpteKind.{SpteKind}
use Rattle.spte_words.specs.declared.spte_kind.SpteKind.TheVariants as entry_kind
use Rattle.spte_words.specs.Entries.{can_write, host_writable, kind_of, mmu_writable, with_write}
use Rattle.part_steps.specs.declared.part_step.PartStep.TheVariants as part
use Rattle.spte_words.specs.HostWords.{host_allows_write, host_present}
use Rattle.part_steps.specs.PageTopics.{searched}
use Rattle.part_steps.specs.PartTasks.{part_kind, word_looked, words_filled}
use Rattle.mmu_core.specs.declared.claim.ClaimNext.{ClaimNext}
use Rattle.mmu_core.specs.declared.claim.ClaimNext.TheVariants as claims
use Rattle.mmu_core.specs.declared.share.ShareNext.{ShareNext}
use Rattle.mmu_core.specs.declared.share.ShareNext.TheVariants as shares
use Rattle.mmu_core.specs.declared.claim.FreeMap.TheVariants.{Pages}
use Rattle.mmu_core.specs.invariant.Laws.{IsSound}
use Rattle.mmu_core.specs.forms.access.FaultKnows.{FaultKnows, SawNotFast, forbids_more}
use Rattle.mmu_core.specs.forms.access.FaultSteps.{after_claim, after_share, check_next, exchange_lost, fast_walk_next, fault_next, fault_part, put_next}
use Rattle.mmu_core.specs.forms.access.FaultSteps.{walk_next, end_next}
use Rattle.mmu_core.specs.forms.access.FaultSteps.{allows_access, claim_next, found_next, host_word_at, is_fast, is_last_word, page_next}
use Rattle.mmu_core.specs.forms.access.FaultSteps.{search_next}
use Rattle.mmu_core.specs.forms.access.FaultSteps.{share_next, snapshot_taken}
use Rattle.mmu_core.specs.machine.Enabled.{mmu}
use Rattle.mmu_core.specs.machine.Machine.{May, Step, World, answered, found, hand_in, run}
use Rattle.mmu_core.proofs.forms.access.LeafKnown.{logged_told}
use Rattle.mmu_core.proofs.start.Starts.{hand_is, start_good}
use Rattle.mmu_laws.specs.causes.Causes.{HasMade, StaysInSection}
use Rattle.mmu_laws.proofs.causes.Changes.{made_longer, made_now}
use Rattle.mmu_laws.proofs.forms.access.EachFault.{AreSeen, NextIs, Sights, each_fault}
use Rattle.mmu_laws.proofs.causes.MadeSteps.{Makes, exchange_finds, stays_in, word_on}
use Rattle.core_theorem.specs.FastFaults.{AllowsWrite, FixedFaultsHaveAllowed, IsSearchedInVain, MarksFrame, OtherFastFaultsSawWhy, SawNothingToAllow}
use Rattle.core_theorem.proofs.LookUps.{knows_fault}
use Rattle.core_theorem.proofs.Runs.{sound}
use Rattle.part_steps.specs.PartHoldings.{one_mark_tells}
use Rattle.part_steps.specs.RunHoldings.{maps_run}

-- The actor has allowed the write in the section in which the steps end, and has marked the frame's page there.
abbrev Allowed : Sizes → World Held → ℕ → ℕ → List (Step Kind) → Type 0
Allowed z w actor gfn ss = HasMade (AllowsWrite z actor gfn) (StaysInSection actor) w ss

abbrev Marked : World Held → ℕ → ℕ → List (Step Kind) → Type 0
Marked w actor gfn ss = HasMade (MarksFrame actor gfn) (StaysInSection actor) w ss

abbrev EndDid : Sizes → World Held → ℕ → FaultEnd → ℕ → List (Step Kind) → Type 0
EndDid z w actor (Fixed marked) gfn ss = Allowed z w actor gfn ss × (marked ≡ true → Marked w actor gfn ss)
EndDid z w actor _ gfn ss = Unit {0}

-- So it has from its exchange on up to the end of the section.
abbrev Did : Sizes → World Held → ℕ → FaultPlace → ℕ → List (Step Kind) → Type 0
Did z w actor (fault.Mark true) gfn ss = Allowed z w actor gfn ss
Did z w actor (fault.Give e) gfn ss = EndDid z w actor e gfn ss
Did z w actor (fault.Unshare e) gfn ss = EndDid z w actor e gfn ss
Did z w actor (fault.End e) gfn ss = EndDid z w actor e gfn ss
Did z w actor _ gfn ss = Unit {0}

abbrev HasDone : Sizes → World Held → Sights
HasDone z w actor p gfn t ss u = Did z w actor p gfn ss

-- A step that begins and ends no section of the actor's leaves it so.
end_longer : (z : Sizes) (w : World Held) (actor gfn : ℕ) (ss : List (Step Kind)) (s : Step Kind) (e : FaultEnd) → StaysInSection actor s
    → EndDid z w actor e gfn ss → EndDid z w actor e gfn (ss ++ s ∷ [])
end_longer z w actor gfn ss s (Fixed marked) stays D = (
  made_longer (AllowsWrite z actor gfn) (StaysInSection actor) w ss s stays D.0,
  λ is. made_longer (MarksFrame actor gfn) (StaysInSection actor) w ss s stays (D.1 is),
)
end_longer z w actor gfn ss s _ stays D = tt

-- What is so of both places is so of the one that is chosen.
chosen : (P : FaultPlace → Type 0) (b : Bool) (p q : FaultPlace) → P p → P q → P (if b then p else q)
chosen P true p q first second = first
chosen P false p q first second = second

-- An exchange that finds what was read leaves the leaf with write permission.
leaves_fixed : (h : Held) (gfn note n : ℕ) → (n == h.topics.walk.entry) ≡ true → after (part_kind h (part.Fix gfn) note) n ≡ with_write h.topics.walk.entry
unfolding after
leaves_fixed h gfn note n won = ap (λ b. if b then with_write h.topics.walk.entry else n) won

module _ (z : Sizes) (w : World Held) (ss : List (Step Kind)) (s : Step Kind) (G : IsSound z (run mmu w ss)) (may : May mmu (run mmu w ss) s) where
  abbrev a : ℕ
  a = s.actor

  abbrev u : World Held
  u = run mmu w ss

  abbrev h : Held
  h = hand_in mmu u s.actor

  abbrev t : Topics
  t = h.topics

  abbrev v : ℕ
  v = answered mmu u s.kind

  abbrev more : List (Step Kind)
  more = ss ++ s ∷ []

  module _ (gfn : ℕ) where
    -- what the fault has done by its next place
    abbrev Now : FaultPlace → Type 0
    Now p = Did z w a p gfn more

    allows : (M : Makes h s (part.Fix gfn)) → (v == t.walk.entry) ≡ true → Allowed z w a gfn more
    allows M won =
        let found_is : found mmu u s.kind ≡ v = exchange_finds z u s G may (part.Fix gfn) M tt in
        let is_read : found mmu u s.kind ≡ t.walk.entry = found_is ∙ eqb-true v t.walk.entry won in
        made_now (AllowsWrite z a gfn) (StaysInSection a) w ss s (record {
          exchanges = ap (λ (k : Kind). k.code) M.is;
          is_entry = M.needs.saw;
          told = logged_told t.walk.level t.search.logged M.needs.told;
          forbids = M.needs.fixable;
          finds = record { by_actor = refl; on = word_on z u s G may (part.Fix gfn) M; finds = is_read };
          leaves = record {
            by_actor = refl;
            on = word_on z u s G may (part.Fix gfn) M;
            leaves = ap (λ k. after k (found mmu u s.kind)) M.is
                ∙ leaves_fixed h gfn M.note (found mmu u s.kind) (ap (λ n. n == t.walk.entry) found_is ∙ won);
          };
        })

    marks : (write : Bool) → Makes h s part.Mark → FaultKnows (fault.Mark true) z gfn write t → Marked w a gfn more
    marks write M K = made_now (MarksFrame a gfn) (StaysInSection a) w ss s (record { by_actor = refl; marks = ap (λ (k : Kind). k.code) M.is; owed = K.owes })

    -- ---- places that no exchange of a fast fault leads to

    shared : (n : ShareNext) → Now (after_share n)
    shared shares.Tries = tt
    shared shares.Shares = tt

    checked : (at : CheckStage) → Now (check_next at gfn t v)
    checked stage.Count = chosen Now (v == 0) (fault.Check stage.Seq) (fault.Check stage.Start) tt tt
    checked stage.Start = tt
    checked stage.End = open_over (nat_le t.invalidations.start gfn && nat_lt gfn v)
      where
        open_over : (b : Bool) → Now (if b then fault.Unshare (Retry false (Open t.invalidations.count t.invalidations.start v gfn)) else fault.Check stage.Seq)
        open_over true = tt
        open_over false = tt
    checked stage.Seq = still (v == snapshot_taken t.invalidations.snapshot)
      where
        still : (b : Bool) → Now (if b then fault.Walk false else fault.Unshare (Retry false (Moved (snapshot_taken t.invalidations.snapshot) v)))
        still true = tt
        still false = tt

    claimed : (n : ClaimNext) → Now (after_claim n)
    claimed claims.Goes = tt
    claimed claims.Got = tt
    claimed claims.Empty = tt

    ended : (write : Bool) → Now (end_next gfn write t)
    ended write = chosen Now (maps_run t.walk.level gfn t) (fault.Leaf write) (fault.Claim false) tt tt

    walked : (k : SpteKind) (write : Bool) → Now (walk_next k z gfn write t v)
    walked (entry_kind.Table page) write = tt
    walked entry_kind.Leaf write = chosen Now (allows_access write v) (fault.Unshare Installed) (end_next gfn write t) tt (ended write)
    walked entry_kind.Absent write = ended write
    walked entry_kind.Frozen write = tt

    fast_walked : (k : SpteKind) → Now (fast_walk_next k t.walk.level t.search.logged v)
    fast_walked (entry_kind.Table page) = tt
    fast_walked k = chosen Now (is_fast k t.walk.level t.search.logged v) fault.Fix (fault.End (NotFast v)) tt tt

    -- The search comes to a place with the slot, without one, or goes on.
    searches : (has none : FaultPlace) (more_ : FaultPlace) (loaded : SlotField) (found_ : SlotSearch) → Now has → Now none → Now more_
        → Now (search_next has none more_ gfn loaded found_)
    searches has none more_ loaded found_ x y on =
        chosen Now (is_last_word loaded && contains gfn found_.slot) has (if found_.id == 32 then none else more_) x
        (chosen Now (found_.id == 32) none more_ y on)

    seen : (write : Bool) → Now (page_next write v)
    seen write =
        chosen Now (write && not (host_allows_write v)) (fault.End HostFault) (if host_present v then fault.Share else fault.Bring) tt
        (chosen Now (host_present v) fault.Share fault.Bring tt tt)

    -- A mark of a whole fault leads to the end of its section as installed.
    put : (marks_ : Bool) → Now (put_next false marks_)
    put true = tt
    put false = tt

    -- ---- each place

    fixed : (M : Makes h s (part.Fix gfn)) (won : Bool) → (v == t.walk.entry) ≡ won → (logged : Bool)
        → Now (if won then put_next true logged else fault.End (exchange_lost true z gfn t.walk v))
    fixed M true is true = allows M is
    fixed M true is false = (allows M is, λ e. absurd (cc e))
    fixed M false is logged = tt

    pub own_did : (p : FaultPlace) (write : Bool) (t_ : Topics) (x : World Held) → Makes h s (fault_part p gfn t) → FaultKnows p z gfn write t
        → Did z w a p gfn ss → NextIs (HasDone z w) a (fault_next p z gfn write t v) gfn t_ more x
    own_did (fault.Find true) write t_ x M K D =
        searches (found_next write (searched t.search v)) (fault.End Mmio) (fault.Find true) t.search.next (searched t.search v)
        (chosen Now (write && (searched t.search v).slot.read_only) (fault.End Mmio) fault.Host tt tt) tt tt
    own_did fault.Host write t_ x M K D = seen write
    own_did fault.Bring write t_ x M K D =
        chosen Now (v == word_looked t.host) fault.Share (fault.End (Retry false (Entry (host_word_at z t.host) (word_looked t.host) v))) tt tt
    own_did fault.Share write t_ x M K D = shared (share_next t.hold v)
    own_did (fault.Check at) write t_ x M K D = checked at
    own_did (fault.Walk true) write t_ x M K D = walked (kind_of t.walk.level v) write
    own_did (fault.Claim begun) write t_ x M K D = claimed (claim_next Pages begun z t.claim v)
    own_did fault.Fill write t_ x M K D = chosen Now (nat_lt (words_filled t.owned + 1) 512) fault.Fill fault.Role tt tt
    own_did fault.Link write t_ x M K D = chosen Now (v == t.walk.entry) (fault.Walk true) (fault.Give (exchange_lost false z gfn t.walk v)) tt tt
    own_did (fault.Give e) write t_ x M K D = end_longer z w a gfn ss s e (stays_in z u s G may part.Give M tt) D
    own_did (fault.Leaf writes) write t_ x M K D =
        chosen Now (v == t.walk.entry) (put_next false (writes && t.search.logged)) (fault.Unshare (exchange_lost false z gfn t.walk v))
        (put (writes && t.search.logged)) tt
    own_did (fault.Unshare e) write t_ x M K D = end_longer z w a gfn ss s e (stays_in z u s G may part.Unshare M tt) D
    own_did (fault.FastFind true) write t_ x M K D =
        searches (fault.FastWalk false) (fault.End (NotFast 0)) (fault.FastFind true) t.search.next (searched t.search v) tt tt tt
    own_did (fault.FastWalk true) write t_ x M K D = fast_walked (kind_of t.walk.level v)
    own_did fault.Fix write t_ x M K D = fixed M (v == t.walk.entry) refl t.search.logged
    own_did (fault.Mark true) write t_ x M K D =
        (made_longer (AllowsWrite z a gfn) (StaysInSection a) w ss s (stays_in z u s G may part.Mark M tt) D, λ is. marks write M K)
    own_did _ write t_ x M K D = tt

module _ (z : Sizes) (w : World Held) where
  others_did : (actor : ℕ) (p : FaultPlace) (gfn : ℕ) (ss : List (Step Kind)) (s : Step Kind) → s.actor ≢ actor → Did z w actor p gfn ss
      → Did z w actor p gfn (ss ++ s ∷ [])
  others_did actor p gfn ss s other D = by p D
    where
      stays : StaysInSection actor s
      stays mine = absurd (other mine)

      by : (q : FaultPlace) → Did z w actor q gfn ss → Did z w actor q gfn (ss ++ s ∷ [])
      by (fault.Mark true) E = made_longer (AllowsWrite z actor gfn) (StaysInSection actor) w ss s stays E
      by (fault.Give e) E = end_longer z w actor gfn ss s e stays E
      by (fault.Unshare e) E = end_longer z w actor gfn ss s e stays E
      by (fault.End e) E = end_longer z w actor gfn ss s e stays E
      by _ E = tt

  faults_do : AreSeen z w (HasDone z w)
  faults_do = record {
    begins = λ actor gfn t ss u. (tt, tt);
    own = λ ss s G may p gfn write M K D. own_did z w ss s G may gfn p write _ _ M K D;
    others = λ actor p gfn t ss s may other D. others_did actor p gfn ss s other D;
  }

pub fixed_faults_have_allowed : FixedFaultsHaveAllowed
fixed_faults_have_allowed z lines w ss R actor there gfn word op marked stands command =
    each_fault z w (HasDone z w) (faults_do z w) ss actor gfn word op (fault.End (Fixed marked)) (start_good z lines w R.start) R.legal
    (ap (λ (h : Held). h.state.place) (hand_is z lines w actor R.start there)) stands command

-- ---- a fast fault that allows no write

not_both : (told writes host mmu_ : Bool) → told ≡ true → (not writes && (host && mmu_)) ≡ true
    → (not told || (writes || (not host || not mmu_))) ≡ true → ⊥
not_both true false true true low fixable forbids = cc forbids
not_both true false true false low fixable forbids = cc fixable
not_both true false false mmu_ low fixable forbids = cc fixable
not_both true true host mmu_ low fixable forbids = cc fixable
not_both false writes host mmu_ low fixable forbids = cc low

told_by_one : (level : ℕ) (logged : Bool) → (logged ≡ true → level ≡ 1) → one_mark_tells level logged ≡ true
told_by_one level true low = let one = low refl in grind (arith, nat_tests)
told_by_one level false low = or_true (level == 1)
  where
    or_true : (b : Bool) → (b || true) ≡ true
    or_true true = refl
    or_true false = refl

saw_why : (entry gfn : ℕ) (t : Topics) → SawNotFast entry gfn t
    → ((entry ≡ 0) × IsSearchedInVain gfn t.search) ⊎ SawNothingToAllow entry gfn t.search t.walk
saw_why entry gfn t (inl N) =
    inl (N.0, record { over = N.1.over; not_found = λ whole has. N.1.not_found (record { whole = whole; holds = has }) })
saw_why entry gfn t (inr S) = inr (record {
  is_entry = S.0;
  loaded = S.1;
  stays = λ leaf low fixable.
      not_both (one_mark_tells t.walk.level t.search.logged) (can_write entry) (host_writable entry) (mmu_writable entry)
      (told_by_one t.walk.level t.search.logged low) fixable (subst (λ k. forbids_more k t.walk.level t.search.logged entry ≡ true) leaf S.2);
})

pub other_fast_faults_saw_why : OtherFastFaultsSawWhy
other_fast_faults_saw_why z lines w ss R actor there gfn word op entry stands command =
    let h : Held = hand_in mmu (run mmu w ss) actor in
    saw_why entry gfn h.topics
    (knows_fault h h.state.place h.state.line.command (fault.End (NotFast entry)) gfn word op stands command
    ((sound z lines w ss R).holds.knows actor there)).2
