-- Each step of a part keeps it that what a virtual processor may use of what it has cached agrees with slots and host.
use Rattle.std.proofs.Common.{◌≡◌, ◌⊎◌, inl, inr, ◌<◌, ◌≤◌, ℕ, List, [], refl, sym, subst, ap, ◌∙◌, arith}
use Rattle.std.specs.Prelude.{All, Bool, true, false, ◌≢◌, not, if◌then◌else◌, is_some}
use Rattle.std.proofs.lemmas.List.Elements.{All-nil}
use Rattle.circular_buffer.specs.Buffer.{Buffer, buffer}
use Rattle.core_views.specs.declared.cache.Translation.{Translation}
use Rattle.core_views.specs.declared.kind.Kind.{Kind}
use Rattle.core_views.specs.declared.kind.StepKind.{StepKind}
use Rattle.core_views.specs.declared.kind.StepKind.TheVariants as kind
use Rattle.core_views.specs.declared.sizes.Sizes.{Sizes}
use Rattle.core_views.specs.declared.topics.Invalidated.{Invalidated}
use Rattle.core_views.specs.declared.trace.Slot.{Slot as SlotOf}
use Rattle.core_views.specs.declared.topics.Stay.{Stay}
use Rattle.core_views.specs.declared.topics.Stay.TheVariants.{Outside, Section}
use Rattle.core_views.specs.declared.topics.Topics.{Topics}
use Rattle.core_views.specs.Held.{Held}
use Rattle.core_views.specs.Kinds.{kind_named}
use Rattle.core_views.specs.Sizes.{actors_of}
use Rattle.core_views.specs.Slots.{contains}
use Rattle.spte_words.specs.declared.area.Area.{Area}
use Rattle.spte_words.specs.declared.area.Area.TheVariants as area
use Rattle.part_steps.specs.declared.part_step.PartStep.{PartStep}
use Rattle.part_steps.specs.declared.part_step.PartStep.TheVariants as part
use Rattle.part_steps.specs.declared.task.Task.{Task}
use Rattle.part_steps.specs.PartTasks.{page_looked, page_owned, part_task, word_looked}
use Rattle.part_steps.specs.PartTopics.{part_topics}
use Rattle.part_steps.specs.Tasks.{kind_of_task}
use Rattle.mmu_core.specs.invariant.CachedPart.{AgreePart, IsTranslationFor}
use Rattle.mmu_core.specs.invariant.InvalidatedPart.{IsClean, IsOfPages, UsablePart, may_use}
use Rattle.mmu_core.specs.invariant.SlotSetPart.{IsLiveIn}
use Rattle.mmu_core.specs.invariant.TopicsInvariant.{TopicsInvariant}
use Rattle.mmu_core.specs.forms.access.Cached.{asks_flush, flushed, flushed_by}
use Rattle.mmu_core.specs.machine.View.{View, answer_in, part_stepped, upd, words_after}
use Rattle.mmu_core.proofs.held.KeptEmpty.{page_empty, slot_empty}
use Rattle.mmu_core.proofs.held.FlushChanges.{begun_asks, ended_asks, flushed_more, left_asks, none_asked, used_asked, used_gone}
use Rattle.mmu_core.proofs.held.FlushSteps.{FlushAt, FlushFor, asked_there}
use Rattle.mmu_core.proofs.held.FlushedCaches.{KeepsClean, both_flushed}
use Rattle.mmu_core.proofs.held.FreshFrames.{leaf_brought, leaf_elsewhere}
use Rattle.mmu_core.proofs.machine.Columns.{at_upd, same_or, upd_other, upd_same}
use Rattle.mmu_core.proofs.machine.PartStepping.{IsFlushedOut, IsPart, flushed_within}
use Rattle.mmu_core.proofs.slots.LiveStay.{leaf_lives, translations_stay}
use Rattle.mmu_core.proofs.slots.LiveStays.{live_in_stays, part_live_stays}
use Rattle.part_steps.specs.InvalidationRange.{IsOnRun}
use Rattle.mmu_core.proofs.held.PageRuns.{on_it}
use Rattle.mmu_core.proofs.held.NextPages.{next_on_own, next_page, next_words}
use Rattle.mmu_core.proofs.held.KeptEmpty.{some_empty}

-- what may be used of what is cached, in a view
abbrev pub UsableAt : Sizes → View → Type 0
UsableAt z v = UsablePart (actors_of z) z.vcpus (v.words area.State) (v.words area.Pool) (v.words area.Host) (v.words area.Slots 0) v.hand

-- What is cached agrees with slots and host, as these words have them.
abbrev pub Agrees : (Area → ℕ → ℕ) → List Translation → Type 0
Agrees words cached = AgreePart (words area.Pool) (words area.Host) (words area.Slots 0) cached

-- ---- Slots and host change.

-- So what is cached agrees still, where nothing of it is of the invalidation's frames.
agree_elsewhere : (pool host : ℕ → ℕ) (set page x : ℕ) (own_ : Invalidated) (cached : List Translation) → IsOfPages pool set own_ → IsOnRun page own_.pages
    → IsClean own_ cached → AgreePart pool host set cached → AgreePart pool (upd host page x) set cached
agree_elsewhere pool host set page x own_ cached scope on clean agrees k d lt gfn over =
    leaf_elsewhere pool host set page x own_ _ gfn _ scope on (clean k d lt gfn over) (agrees k d lt gfn over)

-- Another slot set is published: a slot that goes has none of what is cached.
agree_published : (pool host : ℕ → ℕ) (vcpus set page : ℕ) (t : Topics) (cached : List Translation)
    → ((id : ℕ) (slot : SlotOf) → IsLiveIn pool set id slot → IsLiveIn pool page id slot ⊎ IsFlushedOut vcpus slot t)
    → (t.invalidations.opened ≡ true → vcpus ≤ t.flush.asked → vcpus ≤ t.flush.awaited → IsClean t.invalidations.own cached)
    → AgreePart pool host set cached → AgreePart pool host page cached
agree_published pool host vcpus set page t cached stay clean agrees k d lt gfn over =
    let L = agrees k d lt gfn over in
    leaf_lives pool host set _ gfn _ L pool page (by L.slot (stay L.id L.slot L.live) L.holds)
  where
    by : {id : ℕ} (slot : SlotOf) → IsLiveIn pool page id slot ⊎ IsFlushedOut vcpus slot t → contains gfn slot ≡ true → IsLiveIn pool page id slot
    by slot (inl same) holds = same
    by slot (inr F) holds = absurd (clean F.opened F.asked F.awaited k d lt gfn over (flushed_within vcpus gfn slot t F holds))

-- Where the step changes a host word, nothing cached is of the frames of this invalidation; nor where it publishes a slot set, if the invalidation is flushed.
abbrev CleanFor : PartStep → ℕ → Topics → List Translation → Type 0
CleanFor (part.Change new_) vcpus t cached = IsClean t.invalidations.own cached
CleanFor part.ChangeNext vcpus t cached = IsClean t.invalidations.own cached
CleanFor part.Publish vcpus t cached =
    t.invalidations.opened ≡ true → vcpus ≤ t.flush.asked → vcpus ≤ t.flush.awaited → IsClean t.invalidations.own cached
CleanFor _ vcpus t cached = Unit {0}

-- Then what agrees agrees after the step.
agrees_behind : (z : Sizes) (v : View) (a : ℕ) (step : PartStep) (note : ℕ) (cached : List Translation) → IsPart z v a step → TopicsInvariant z v
    → CleanFor step z.vcpus (v.hand a).topics cached → Agrees v.words cached → Agrees (part_stepped a step note v).words cached
agrees_behind z v a part.Bring note cached S I clean agrees = λ k d lt gfn over.
    leaf_brought (v.words area.Pool) (v.words area.Host) (v.words area.Slots 0) (page_looked (v.hand a).topics.host) (word_looked (v.hand a).topics.host)
    _ gfn _ S.needs.absent (agrees k d lt gfn over)
agrees_behind z v a (part.Change new_) note cached S I clean agrees =
    agree_elsewhere (v.words area.Pool) (v.words area.Host) (v.words area.Slots 0) (page_looked (v.hand a).topics.host) _ (v.hand a).topics.invalidations.own
    cached (I.scopes a S.there S.needs.0.opened (ap is_some S.needs.0.invalid))
    (on_it (page_looked (v.hand a).topics.host) (v.hand a).topics.invalidations.own.pages S.needs.0.invalid) clean agrees
agrees_behind z v a part.ChangeNext note cached S I clean agrees =
    subst (λ (h : ℕ → ℕ). AgreePart (v.words area.Pool) h (v.words area.Slots 0) cached) (sym (next_words z v a S I note))
    (agree_elsewhere (v.words area.Pool) (v.words area.Host) (v.words area.Slots 0) (next_page z v a S I) _ (v.hand a).topics.invalidations.own
    cached (I.scopes a S.there S.needs.opened (ap is_some S.needs.is)) (next_on_own z v a S I) clean agrees)
agrees_behind z v a part.Publish note cached S I clean agrees =
    agree_published (v.words area.Pool) (v.words area.Host) z.vcpus (v.words area.Slots 0) (page_owned (v.hand a).topics.owned) (v.hand a).topics cached
    S.replaces.stay clean agrees
agrees_behind z v a step note cached S I clean agrees =
    translations_stay (v.words area.Pool) (v.words area.Slots 0) ((part_stepped a step note v).words area.Pool) (v.words area.Slots 0)
    (λ id slot live.
    live_in_stays (v.words area.Slots 0) (v.words area.Pool) ((part_stepped a step note v).words area.Pool) id slot (part_live_stays z v a step note S I) live)
    (v.words area.Host) cached agrees

-- ---- Who has something cached.

-- It is said of each, where actor a has this hand now and the words are these, if it is said of this actor and of each other virtual
-- processor.
each_usable : (z : Sizes) (v : View) (a : ℕ) (words : Area → ℕ → ℕ) (g : Held)
    → (a < z.vcpus → may_use (words area.State a) g.topics.stay ≡ true → Agrees words g.cached.items)
    → ((k : ℕ) → k < z.vcpus → k ≢ a → may_use (words area.State k) (v.hand k).topics.stay ≡ true → Agrees words (v.hand k).cached.items)
    → (z.vcpus ≤ a → g.cached.items ≡ []) → UsableAt z v → UsableAt z (record { words = words; hand = upd v.hand a g })
each_usable z v a words g own others none U = record {
  agrees = λ k low. at_upd (λ k (y : Held). k < z.vcpus → may_use (words area.State k) y.topics.stay ≡ true → Agrees words y.cached.items) v.hand a g
      own (λ k ne low. others k low ne) k low;
  others = λ i lt. at_upd (λ i (y : Held). i < actors_of z → z.vcpus ≤ i → y.cached.items ≡ []) v.hand a g (λ lt. none) (λ i ne lt. U.others i lt) i lt;
}

-- So it is where nobody has anything cached.
pub none_usable : (z : Sizes) (v : View) → ((i : ℕ) → i < actors_of z → (v.hand i).cached.items ≡ []) → UsableAt z v
none_usable z v none = record {
  agrees = λ k low may. subst (Agrees v.words) (sym (none k (omega (arith, low))))
      (All-nil (IsTranslationFor (v.words area.Pool) (v.words area.Host) (v.words area.Slots 0)));
  others = λ i lt high. none i lt;
}

-- What actor a has cached before a flush: of the frames of an open invalidation, of which it was asked for a flush, there is nothing if there was
-- nothing, and nothing in reach; it agrees where what is cached may be used; and there is none of it, where the actor is no virtual processor.
pub record Caches (z : Sizes) (v : View) (I : TopicsInvariant z v) (a : ℕ) (c : Buffer Translation) : Type 0 where
  pub keeps : KeepsClean z v I a c
  pub agrees : a < z.vcpus → may_use (v.words area.State a) (v.hand a).topics.stay ≡ true → Agrees v.words c.items
  pub none : z.vcpus ≤ a → c.items ≡ []

-- Such is what it has.
pub has_cached : (z : Sizes) (v : View) (I : TopicsInvariant z v) (a : ℕ) → a < actors_of z → UsableAt z v → Caches z v I a (v.hand a).cached
has_cached z v I a there U = record { keeps = λ i lt opened asked none. none.0; agrees = U.agrees a; none = U.others a there }

-- A flush leaves none where there is none.
flushed_none : (k : Kind) (c : Buffer Translation) (x : ℕ) → c.items ≡ [] → (flushed k c x).items ≡ []
unfolding flushed
flushed_none k c x none = by (kind_named k.code)
  where
    cleared : (b : Bool) → (if b then buffer [] c.capacity else c).items ≡ []
    cleared true = refl
    cleared false = none

    by : (n : StepKind) → (flushed_by n c x).items ≡ []
    by kind.Enter = cleared (asks_flush x)
    by _ = none

-- ---- Behind a step of a part.

-- The step's actor has this cached, before a flush; and its hand is this one after the step, but for what it holds and has cached.
module _ (z : Sizes) (v : View) (a note : ℕ) (c : Buffer Translation) (g : Held) where
  abbrev h : Held
  h = v.hand a

  abbrev before : ℕ → ℕ
  before = v.words area.State

  abbrev task : PartStep → Task
  task step = part_task step a h.topics note

  abbrev words : PartStep → Area → ℕ → ℕ
  words step = words_after (task step) v.words

  abbrev states : PartStep → ℕ → ℕ
  states step = words step area.State

  abbrev topics : PartStep → Topics
  topics step = part_topics step h.topics (answer_in (task step) v.words)

  abbrev cached : PartStep → Buffer Translation
  cached step = flushed (kind_of_task h.state.sizes (task step)) c (answer_in (task step) v.words)

  abbrev behind : PartStep → Held
  behind step = record g { topics = topics step; cached = cached step }

  -- Nothing of the frames of the actor's invalidation is cached, where its page's host word changes.
  clean_for : (cached : List Translation) (step : PartStep) (k : ℕ) (stay : Stay) → IsPart z v a step → k < z.vcpus
      → FlushFor (λ own_ v. IsClean own_ cached) h.topics k (before k) stay → may_use (before k) stay ≡ true → CleanFor step z.vcpus h.topics cached
  clean_for cached (part.Change new_) k stay S low F may =
      let sizes : h.state.sizes.vcpus ≡ z.vcpus = ap (λ (y : Sizes). y.vcpus) S.sizes in
      (F (page_empty h.topics _ S.needs.0.opened (on_it (page_looked h.topics.host) h.topics.invalidations.own.pages S.needs.0.invalid))).awaits
      (omega (arith, low, sizes, S.needs.0.asked)) (omega (arith, low, sizes, S.needs.0.awaited)) may
  clean_for cached part.ChangeNext k stay S low F may =
      let sizes : h.state.sizes.vcpus ≡ z.vcpus = ap (λ (y : Sizes). y.vcpus) S.sizes in
      (F (some_empty h.topics S.needs.opened (ap is_some S.needs.is))).awaits (omega (arith, low, sizes, S.needs.asked))
      (omega (arith, low, sizes, S.needs.awaited)) may
  clean_for cached part.Publish k stay S low F may = λ opened asked awaited.
      (F (slot_empty h.topics opened S.needs.none_retired)).awaits (omega (arith, low, asked)) (omega (arith, low, awaited)) may
  clean_for cached _ k stay S low F may = tt

  agrees_after : (step : PartStep) (kept : List Translation) → IsPart z v a step → TopicsInvariant z v
      → CleanFor step z.vcpus h.topics kept → Agrees v.words kept → Agrees (words step) kept
  agrees_after step kept S I clean agrees =
      subst (λ i. Agrees (words_after (part_task step i h.topics note) v.words) kept) S.own_place (agrees_behind z v a step note kept S I clean agrees)

  -- Another virtual processor that may use what it has cached might before.
  used_elsewhere : (stay : Stay) (place k w : ℕ) → k ≢ place → may_use (upd before place w k) stay ≡ true → may_use (before k) stay ≡ true
  used_elsewhere stay place k w ne may = ap (λ n. may_use n stay) (sym (upd_other before place k w ne)) ∙ may

  used_of : (stay : Stay) (index k : ℕ) → may_use (states (part.Ask index) k) stay ≡ true → may_use (before k) stay ≡ true
  used_of stay index k may = by (same_or k index)
    where
      by : (k ≡ index) ⊎ (k ≢ index) → may_use (before k) stay ≡ true
      by (inl e) = used_asked (before k) (states (part.Ask index) k) stay (asked_there before index k e) may
      by (inr ne) = used_elsewhere stay index k _ ne may

  pub other_used : (step : PartStep) (stay : Stay) (k : ℕ) → k ≢ a → may_use (states step k) stay ≡ true → may_use (before k) stay ≡ true
  other_used part.Enter stay k ne may = used_elsewhere stay a k _ ne may
  other_used part.Leave stay k ne may = used_elsewhere stay a k _ ne may
  other_used part.Begin stay k ne may = used_elsewhere stay a k _ ne may
  other_used part.End stay k ne may = used_elsewhere stay a k _ ne may
  other_used (part.Ask index) stay k ne may = used_of stay index k may
  other_used _ stay k ne may = may

  -- The state word of a virtual processor asks for a flush after the step, if it did before.
  abbrev StillAsks : PartStep → ℕ → Type 0
  StillAsks step k = asks_flush (before k) ≡ true → asks_flush (states step k) ≡ true

  asks_elsewhere : (place k w : ℕ) → k ≢ place → asks_flush (before k) ≡ true → asks_flush (upd before place w k) ≡ true
  asks_elsewhere place k w ne asks = ap asks_flush (upd_other before place k w ne) ∙ asks

  pub asks_of : (index k : ℕ) → StillAsks (part.Ask index) k
  asks_of index k asks = by (same_or k index)
    where
      by : (k ≡ index) ⊎ (k ≢ index) → asks_flush (states (part.Ask index) k) ≡ true
      by (inl e) = asked_there before index k e
      by (inr ne) = asks_elsewhere index k _ ne asks

  -- So does that of each but the step's actor.
  pub other_asks : (step : PartStep) (k : ℕ) → k ≢ a → StillAsks step k
  other_asks part.Enter k ne = asks_elsewhere a k _ ne
  other_asks part.Leave k ne = asks_elsewhere a k _ ne
  other_asks part.Begin k ne = asks_elsewhere a k _ ne
  other_asks part.End k ne = asks_elsewhere a k _ ne
  other_asks (part.Ask index) k ne = asks_of index k
  other_asks _ k ne = λ asks. asks

  -- What is so of all that the actor itself has cached, where it may use it and is asked for a flush still if it was, is so after the step.
  module _ (P : Translation → Type 0) where
    gone : (w : ℕ) (stay : Stay) → asks_flush w ≡ asks_flush (before a) → may_use w stay ≡ not (asks_flush w)
        → ((asks_flush (before a) ≡ true → asks_flush (upd before a w a) ≡ true) → may_use (before a) h.topics.stay ≡ true → All P c.items)
        → may_use (upd before a w a) stay ≡ true → All P c.items
    gone w stay asks goes all may =
        all (λ was. ap asks_flush (upd_same before a w) ∙ asks ∙ was)
        (used_gone (before a) w h.topics.stay stay asks goes (ap (λ n. may_use n stay) (sym (upd_same before a w)) ∙ may))

    pub own_used : (step : PartStep) → IsPart z v a step → (StillAsks step a → may_use (before a) h.topics.stay ≡ true → All P c.items)
        → may_use (states step a) (topics step).stay ≡ true → All P (cached step).items
    unfolding flushed
    own_used part.Enter S all may = by (asks_flush (before a)) refl
      where
        by : (b : Bool) → asks_flush (before a) ≡ b → All P (if b then buffer [] c.capacity else c).items
        by true asks = All-nil P
        by false none = all (λ asks. absurd (cc (asks, none))) (none_asked (before a) h.topics.stay none)
    own_used part.Leave S all may = gone _ Outside (left_asks (before a) (S.small area.State a)) refl all may
    own_used part.Begin S all may = gone _ Section (begun_asks (before a)) refl all may
    own_used part.End S all may = gone _ Outside (ended_asks (before a)) refl all may
    own_used (part.Ask index) S all may = all (asks_of index a) (used_of h.topics.stay index a may)
    own_used _ S all may = all (λ asks. asks) may

  pub part_usable : (step : PartStep) → IsPart z v a step → (I : TopicsInvariant z v) → Caches z v I a c → FlushAt z v → UsableAt z v
      → UsableAt z (record { words = words step; hand = upd v.hand a (behind step) })
  part_usable step S I C F U = each_usable z v a (words step) (behind step) own others (λ high. flushed_none _ c _ (C.none high)) U
    where
      own : a < z.vcpus → may_use (states step a) (topics step).stay ≡ true → Agrees (words step) (cached step).items
      own low = own_used (IsTranslationFor (words step area.Pool) (words step area.Host) (words step area.Slots 0)) step S
          (λ asks may. agrees_after step c.items S I
          (clean_for c.items step a h.topics.stay S low (λ opened. flushed_more (C.keeps a S.there opened) (both_flushed z v I F a a S.there low opened)) may)
          (C.agrees low may))

      others : (k : ℕ) → k < z.vcpus → k ≢ a → may_use (states step k) (v.hand k).topics.stay ≡ true → Agrees (words step) (v.hand k).cached.items
      others k low ne may =
          let stay : Stay = (v.hand k).topics.stay in
          let was : may_use (before k) stay ≡ true = other_used step stay k ne may in
          agrees_after step (v.hand k).cached.items S I (clean_for (v.hand k).cached.items step k stay S low (F a k S.there low) was) (U.agrees k low was)

-- A touch leaves all but what is cached before it.
pub touch_usable : (z : Sizes) (v : View) (a : ℕ) (I : TopicsInvariant z v) (c : Buffer Translation) (g : Held) → Caches z v I a c → UsableAt z v
    → UsableAt z (record { words = v.words; hand = upd v.hand a (record g { topics = (v.hand a).topics; cached = c }) })
touch_usable z v a I c g C U = each_usable z v a v.words (record g { topics = (v.hand a).topics; cached = c }) C.agrees (λ k low ne. U.agrees k low) C.none U
