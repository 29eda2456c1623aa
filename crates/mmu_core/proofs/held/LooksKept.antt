-- Each step of a part keeps what was looked up of host pages: by its owner, and by others as long as no invalidation of the page is open or has ended since.
use Rattle.std.proofs.Common.{◌≡◌, ◌≢◌, ◌⊎◌, inl, inr, ◌<◌, ◌≤◌, ℕ, refl, sym, subst, ap, ◌∙◌, arith}
use Rattle.std.specs.Prelude.{Bool, true, false, Option, Some, None, is_some}
use Rattle.core_views.specs.declared.sizes.Sizes.{Sizes}
use Rattle.core_views.specs.declared.topics.HostLook.{HostLook}
use Rattle.core_views.specs.declared.topics.Topics.{Topics}
use Rattle.core_views.specs.Held.{Held}
use Rattle.core_views.specs.Sizes.{actors_of}
use Rattle.spte_words.specs.declared.area.Area.TheVariants as area
use Rattle.part_steps.specs.declared.part_step.PartStep.{PartStep}
use Rattle.part_steps.specs.declared.part_step.PartStep.TheVariants as part
use Rattle.part_steps.specs.PartTasks.{page_looked, word_looked}
use Rattle.part_steps.specs.PartTopics.{exchanged_host, sequenced}
use Rattle.part_steps.specs.StayTopics.{has_lock, is_loose}
use Rattle.mmu_core.specs.invariant.HostWordsPart.{IsHostWord, IsStill}
use Rattle.mmu_core.specs.invariant.InvalidationsPart.{knows_seq}
use Rattle.mmu_core.specs.invariant.SearchPart.{IsInvalidating, IsOnPage, LookPart}
use Rattle.mmu_core.specs.invariant.TopicsInvariant.{TopicsInvariant}
use Rattle.mmu_core.specs.machine.View.{View, part_stepped}
use Rattle.mmu_core.proofs.held.Invalidating.{NoneInvalidating, invalidating_after, none_is_raised, raises_number, topics_now}
use Rattle.mmu_core.proofs.machine.Columns.{at_upd, same_or, upd_other, upd_same}
use Rattle.mmu_core.proofs.machine.PartStepping.{IsPart}
use Rattle.mmu_core.proofs.words.HostStays.{IsRevised, brought_word, exchanged_word, put_word, still_brought}
use Rattle.mmu_core.proofs.words.PartTopics.{behind_step, part_behind}
use Rattle.mmu_core.proofs.held.PageRuns.{on_changed, on_it}
use Rattle.mmu_core.proofs.held.NextPages.{next_page, next_under, next_words_behind}

pub this_look : {page word : ℕ} {look : HostLook} → Some (record { page = page; word = word }) ≡ Some look → look ≡ record { page = page; word = word }
this_look e = cc e

-- the host words after the actor's own step
abbrev pub host_now : View → ℕ → ℕ → PartStep → ℕ → ℕ
host_now v a note step = (part_behind a step note v).words area.Host

-- ---- which page was looked at, what its word is, and that the snapshot isn't ahead

pub record IsLook (z : Sizes) (seq : ℕ) (t : Topics) : Type 0 where
  pub there : (look : HostLook) → t.host ≡ Some look → look.page < z.pages
  pub is_word : (look : HostLook) → t.host ≡ Some look → IsHostWord z.frames look.word
  pub snapshot : (s : ℕ) → t.invalidations.snapshot ≡ Some s → s ≤ seq

no_look : (z : Sizes) (seq : ℕ) (t : Topics) → t.host ≡ None → t.invalidations.snapshot ≡ None → IsLook z seq t
no_look z seq t none without = record {
  there = λ look e. absurd (cc (none, e));
  is_word = λ look e. absurd (cc (none, e));
  snapshot = λ s e. absurd (cc (without, e));
}

was_look : (z : Sizes) (v : View) (a : ℕ) → TopicsInvariant z v → a < actors_of z → IsLook z (v.words area.Seq 0) (v.hand a).topics
was_look z v a I lt = record { there = (I.looks a lt).there; is_word = (I.looks a lt).is_word; snapshot = (I.looks a lt).snapshot }

-- The look is this one.
looks_at : (z : Sizes) (seq page word : ℕ) (t : Topics) → t.host ≡ Some (record { page = page; word = word }) → page < z.pages → IsHostWord z.frames word
    → ((s : ℕ) → t.invalidations.snapshot ≡ Some s → s ≤ seq) → IsLook z seq t
looks_at z seq page word t at low W snapshot = record {
  there = λ look e. let is = this_look (sym at ∙ e) in subst (λ (l : HostLook). l.page < z.pages) (sym is) low;
  is_word = λ look e. let is = this_look (sym at ∙ e) in subst (λ (l : HostLook). IsHostWord z.frames l.word) (sym is) W;
  snapshot = snapshot;
}

sequenced_look : (z : Sizes) (seq : ℕ) (loose : Bool) (t : Topics) → IsLook z seq t → IsLook z seq (sequenced loose t seq)
sequenced_look z seq true t L = record {
  there = λ look e. absurd (cc e);
  is_word = λ look e. absurd (cc e);
  snapshot = λ s e. let same : s ≡ seq = cc e in omega (arith, same);
}
sequenced_look z seq false t L = record { there = L.there; is_word = L.is_word; snapshot = L.snapshot }

-- The page that was looked at is one of the machine's.
pub page_there : (z : Sizes) (v : View) (a : ℕ) → TopicsInvariant z v → a < actors_of z → is_some (v.hand a).topics.host ≡ true
    → page_looked (v.hand a).topics.host < z.pages
page_there z v a I lt looked = by (v.hand a).topics.host refl looked
  where
    by : (o : Option HostLook) → (v.hand a).topics.host ≡ o → is_some o ≡ true → page_looked o < z.pages
    by None is some = absurd (cc some)
    by (Some look) is some = (I.looks a lt).there look is

-- The word that an exchange leaves was looked up then.
exchanged_look : (z : Sizes) (v : View) (a new_ : ℕ) → TopicsInvariant z v → a < actors_of z → is_some (v.hand a).topics.host ≡ true
    → IsRevised z.frames (word_looked (v.hand a).topics.host) new_
    → IsLook z (v.words area.Seq 0) (exchanged_host new_ (v.hand a).topics (v.words area.Host (page_looked (v.hand a).topics.host)))
exchanged_look z v a new_ I lt looked put =
    let t : Topics = (v.hand a).topics in
    let low = page_there z v a I lt looked in
    looks_at z _ (page_looked t.host) _ _ refl low
    (exchanged_word z.frames (v.words area.Host (page_looked t.host)) (word_looked t.host) new_ (I.hosts _ low) put) (I.looks a lt).snapshot

own_look : (z : Sizes) (v : View) (a note : ℕ) (step : PartStep) → IsPart z v a step → TopicsInvariant z v
    → IsLook z ((part_behind a step note v).words area.Seq 0) (topics_now v a note step)
own_look z v a note part.Enter S I = no_look z _ _ refl refl
own_look z v a note part.Leave S I = no_look z _ _ refl refl
own_look z v a note part.Begin S I = no_look z _ _ refl refl
own_look z v a note part.End S I = no_look z _ _ refl refl
own_look z v a note part.Seq S I = sequenced_look z (v.words area.Seq 0) (is_loose (v.hand a).topics.hold) (v.hand a).topics (was_look z v a I S.there)
own_look z v a note (part.Host page) S I =
    let low : page < z.pages = subst (λ (y : Sizes). page < y.pages) S.sizes S.needs.0 in
    looks_at z _ page (v.words area.Host page) _ refl low (I.hosts page low) (I.looks a S.there).snapshot
own_look z v a note part.Bring S I = exchanged_look z v a _ I S.there S.needs.looked (brought_word z.frames (word_looked (v.hand a).topics.host))
own_look z v a note (part.Change new_) S I =
    let L = exchanged_look z v a new_ I S.there S.needs.0.looked (put_word z v a new_ S I) in
    record { there = L.there; is_word = L.is_word; snapshot = L.snapshot }
own_look z v a note part.ChangeNext S I =
    record { there = λ look e. absurd (cc e); is_word = λ look e. absurd (cc e); snapshot = (I.looks a S.there).snapshot }
own_look z v a note (part.SetSeq seq) S I =
    let L = was_look z v a I S.there in
    let is = S.needs.1 in
    let loaded = (I.checks a S.there).numbered (ap has_lock S.needs.0.alone) (ap knows_seq S.needs.0.loaded) in
    record { there = L.there; is_word = L.is_word; snapshot = λ s e. let early = L.snapshot s e in omega (arith, early, is, loaded) }
own_look z v a note _ S I =
    let L = was_look z v a I S.there in record { there = L.there; is_word = L.is_word; snapshot = L.snapshot }

-- No actor is invalidating the page.
abbrev NoneUnder : Sizes → View → ℕ → Type 0
NoneUnder z v page = NoneInvalidating z v (IsOnPage page)

under_behind : (z : Sizes) (v : View) (a note page : ℕ) (step : PartStep) → IsPart z v a step → raises_number step ≡ false → (j : ℕ)
    → IsInvalidating (IsOnPage page) (v.hand j).topics → IsInvalidating (IsOnPage page) ((part_behind a step note v).hand j).topics
under_behind z v a note page = invalidating_after z v a note (IsOnPage page) (λ won own_. on_changed won page own_.pages)

-- ---- what was looked up is still so

-- what was looked up with this snapshot, in these words
abbrev AreStill : Topics → ℕ → (ℕ → ℕ) → (ℕ → Type 0) → Type 0
AreStill t seq host Free =
    (look : HostLook) (s : ℕ) → t.host ≡ Some look → t.invalidations.snapshot ≡ Some s → s ≡ seq → Free look.page → IsStill look.word (host look.page)

abbrev StillBehind : Sizes → View → ℕ → ℕ → PartStep → Type 0
StillBehind z v a note step =
    (i : ℕ) → i < actors_of z
    → AreStill ((part_behind a step note v).hand i).topics ((part_behind a step note v).words area.Seq 0) (host_now v a note step)
    (NoneUnder z (part_behind a step note v))

-- The words stay, and what the actor itself has looked up is so.
stays_still : (z : Sizes) (v : View) (a note : ℕ) (step : PartStep) → IsPart z v a step → TopicsInvariant z v → raises_number step ≡ false
    → (part_behind a step note v).words area.Seq 0 ≡ v.words area.Seq 0 → host_now v a note step ≡ v.words area.Host
    → AreStill (topics_now v a note step) (v.words area.Seq 0) (v.words area.Host) (NoneUnder z v) → StillBehind z v a note step
stays_still z v a note step S I other seq host own i lt look s at snapshot same none =
    subst (λ (h : ℕ → ℕ). IsStill look.word (h look.page)) (sym host)
    (at_upd (λ j (k : Held). j < actors_of z → AreStill k.topics (v.words area.Seq 0) (v.words area.Host) (NoneUnder z v)) v.hand a _ (λ there. own)
    (λ j ne there. (I.looks j there).still)
    i lt look s at snapshot (same ∙ seq) (λ j low U. none j low (under_behind z v a note look.page step S other j U)))

-- No snapshot is the number that was raised.
raised_still : (z : Sizes) (v : View) (a note seq : ℕ) → IsPart z v a (part.SetSeq seq) → TopicsInvariant z v → StillBehind z v a note (part.SetSeq seq)
raised_still z v a note seq S I i lt look s at snapshot same none = absurd (none_is_raised z v a note seq S I i s lt snapshot same)

-- The page that is changed is under the actor's own open invalidation.
changed_still : (z : Sizes) (v : View) (a note new_ : ℕ) → IsPart z v a (part.Change new_) → TopicsInvariant z v → StillBehind z v a note (part.Change new_)
changed_still z v a note new_ S I i lt look s at snapshot same none = by (same_or look.page page)
  where
    t : Topics
    t = (v.hand a).topics

    page : ℕ
    page = page_looked t.host

    under : IsInvalidating (IsOnPage page) ((part_behind a (part.Change new_) note v).hand a).topics
    under =
        under_behind z v a note page (part.Change new_) S refl a
        (record { opened = S.needs.0.opened; unraised = S.needs.0.unraised; of_it = on_it page t.invalidations.own.pages S.needs.0.invalid })

    by : (look.page ≡ page) ⊎ (look.page ≢ page) → IsStill look.word (host_now v a note (part.Change new_) look.page)
    by (inl e) = absurd (none a S.there (subst (λ p. IsInvalidating (IsOnPage p) ((part_behind a (part.Change new_) note v).hand a).topics) (sym e) under))
    by (inr ne) =
        subst (IsStill look.word) (sym (upd_other (v.words area.Host) page look.page _ ne))
        (at_upd (λ j (k : Held). j < actors_of z → AreStill k.topics (v.words area.Seq 0) (v.words area.Host) (λ p. NoneUnder z v p × (p ≢ page))) v.hand a _
        (λ there l n here e f free. absurd (free.1 (ap (λ (x : HostLook). x.page) (this_look here))))
        (λ j ne there l n here e f free. (I.looks j there).still l n here e f free.0) i lt look s at snapshot same
        ((λ j low U. none j low (under_behind z v a note look.page (part.Change new_) S refl j U)), ne))

-- So is the page of a run that is changed next; what was looked up of it was before.
next_still : (z : Sizes) (v : View) (a note : ℕ) → IsPart z v a part.ChangeNext → TopicsInvariant z v → StillBehind z v a note part.ChangeNext
next_still z v a note S I i lt look s at snapshot same none = by (same_or look.page page)
  where
    page : ℕ
    page = next_page z v a S I

    before : (q j : ℕ) → IsInvalidating (IsOnPage q) (v.hand j).topics → IsInvalidating (IsOnPage q) ((part_behind a part.ChangeNext note v).hand j).topics
    before q = under_behind z v a note q part.ChangeNext S refl

    by : (look.page ≡ page) ⊎ (look.page ≢ page) → IsStill look.word (host_now v a note part.ChangeNext look.page)
    by (inl e) =
        absurd (none a S.there
        (before look.page a (subst (λ q. IsInvalidating (IsOnPage q) (v.hand a).topics) (sym e) (next_under z v a S I))))
    by (inr ne) =
        subst (λ (h : ℕ → ℕ). IsStill look.word (h look.page)) (sym (next_words_behind z v a S I note))
        (subst (IsStill look.word) (sym (upd_other (v.words area.Host) page look.page _ ne))
        (at_upd (λ j (k : Held). j < actors_of z → AreStill k.topics (v.words area.Seq 0) (v.words area.Host) (NoneUnder z v)) v.hand a _
        (λ there l n here. absurd (cc here)) (λ j ne there. (I.looks j there).still) i lt look s at snapshot same
        (λ j low U. none j low (before look.page j U))))

-- What an exchange leaves is what its actor has looked up then.
pub own_now : (v : View) (a note page word : ℕ) (step : PartStep) (look : HostLook) → Some (record { page = page; word = word }) ≡ Some look
    → host_now v a note step page ≡ word → IsStill look.word (host_now v a note step look.page)
own_now v a note page word step look at is =
    let this = this_look at in
    inl (ap (λ (l : HostLook). l.word) this ∙ (sym is ∙ sym (ap (λ (l : HostLook). host_now v a note step l.page) this)))

-- What others have looked up is so still after a page was brought in.
pub others_now : (z : Sizes) (v : View) (a note : ℕ) → IsPart z v a part.Bring → (look : HostLook) → IsStill look.word (v.words area.Host look.page)
    → IsStill look.word (host_now v a note part.Bring look.page)
others_now z v a note S look still = by (same_or look.page page) still
  where
    page : ℕ
    page = page_looked (v.hand a).topics.host

    by : (look.page ≡ page) ⊎ (look.page ≢ page) → IsStill look.word (v.words area.Host look.page)
        → IsStill look.word (host_now v a note part.Bring look.page)
    by (inl e) still =
        subst (λ p. IsStill look.word (host_now v a note part.Bring p)) (sym e)
        (subst (IsStill look.word) (sym (upd_same (v.words area.Host) page _))
        (still_brought look.word (v.words area.Host page) (word_looked (v.hand a).topics.host) S.needs.absent
        (subst (λ p. IsStill look.word (v.words area.Host p)) e still)))
    by (inr ne) still = subst (IsStill look.word) (sym (upd_other (v.words area.Host) page look.page _ ne)) still

brought_still : (z : Sizes) (v : View) (a note : ℕ) → IsPart z v a part.Bring → TopicsInvariant z v → StillBehind z v a note part.Bring
brought_still z v a note S I i lt look s at snapshot same none =
    at_upd (λ j (k : Held). j < actors_of z → AreStill k.topics (v.words area.Seq 0) (host_now v a note part.Bring) (NoneUnder z v)) v.hand a _
    (λ there l n here e f free. own_now v a note (page_looked (v.hand a).topics.host) _ part.Bring l here (upd_same (v.words area.Host) _ _))
    (λ j ne there l n here e f free. others_now z v a note S l ((I.looks j there).still l n here e f free))
    i lt look s at snapshot same (λ j low U. none j low (under_behind z v a note look.page part.Bring S refl j U))

still_behind : (z : Sizes) (v : View) (a note : ℕ) (step : PartStep) → IsPart z v a step → TopicsInvariant z v → StillBehind z v a note step
still_behind z v a note (part.SetSeq seq) S I = raised_still z v a note seq S I
still_behind z v a note part.Bring S I = brought_still z v a note S I
still_behind z v a note (part.Change new_) S I = changed_still z v a note new_ S I
still_behind z v a note part.ChangeNext S I = next_still z v a note S I
still_behind z v a note part.Enter S I = stays_still z v a note part.Enter S I refl refl refl (λ look s at. absurd (cc at))
still_behind z v a note part.Leave S I = stays_still z v a note part.Leave S I refl refl refl (λ look s at. absurd (cc at))
still_behind z v a note part.Begin S I = stays_still z v a note part.Begin S I refl refl refl (λ look s at. absurd (cc at))
still_behind z v a note part.End S I = stays_still z v a note part.End S I refl refl refl (λ look s at. absurd (cc at))
still_behind z v a note part.Seq S I = stays_still z v a note part.Seq S I refl refl refl (by (is_loose (v.hand a).topics.hold))
  where
    by : (loose : Bool) → AreStill (sequenced loose (v.hand a).topics (v.words area.Seq 0)) (v.words area.Seq 0) (v.words area.Host) (NoneUnder z v)
    by true = λ look s at. absurd (cc at)
    by false = (I.looks a S.there).still
still_behind z v a note (part.Host page) S I =
    stays_still z v a note (part.Host page) S I refl refl refl
    (λ look s at snapshot same none. own_now v a note page (v.words area.Host page) (part.Host page) look at refl)
still_behind z v a note step S I = stays_still z v a note step S I refl refl refl (I.looks a S.there).still

abbrev pub LooksAt : Sizes → View → Type 0
LooksAt z v = (i : ℕ) → i < actors_of z → LookPart z (actors_of z) (v.words area.Seq 0) (v.words area.Host) (λ j. (v.hand j).topics) (v.hand i).topics

looks_behind : (z : Sizes) (v : View) (a note : ℕ) (step : PartStep) → IsPart z v a step → TopicsInvariant z v → LooksAt z (part_behind a step note v)
looks_behind z v a note step S I i lt =
    let L = looked i lt in
    record { there = L.there; is_word = L.is_word; still = still_behind z v a note step S I i lt; snapshot = L.snapshot }
  where
    later : (n : ℕ) → n ≤ v.words area.Seq 0 → n ≤ (part_behind a step note v).words area.Seq 0
    later n early = let rises = behind_rises step S in omega (arith, early, rises)
      where
        behind_rises : (step : PartStep) → IsPart z v a step → v.words area.Seq 0 ≤ (part_behind a step note v).words area.Seq 0
        behind_rises (part.SetSeq seq) T =
            let is = T.needs.1 in
            let loaded = (I.checks a T.there).numbered (ap has_lock T.needs.0.alone) (ap knows_seq T.needs.0.loaded) in
            omega (arith, is, loaded)
        behind_rises _ T = omega arith

    looked : (j : ℕ) → j < actors_of z → IsLook z ((part_behind a step note v).words area.Seq 0) ((part_behind a step note v).hand j).topics
    looked =
        at_upd (λ j (k : Held). j < actors_of z → IsLook z ((part_behind a step note v).words area.Seq 0) k.topics) v.hand a _
        (λ there. own_look z v a note step S I)
        (λ j ne there. let L = was_look z v j I there in record { there = L.there; is_word = L.is_word; snapshot = λ s e. later s (L.snapshot s e) })

pub looks_kept : (z : Sizes) (v : View) (a : ℕ) (step : PartStep) (note : ℕ) → IsPart z v a step → TopicsInvariant z v → LooksAt z (part_stepped a step note v)
looks_kept z v a step note S I = behind_step (LooksAt z) z v a step note S (looks_behind z v a note step S I)
