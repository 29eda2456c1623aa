-- Each step of a part keeps what is said of the flush of each virtual processor, for each open invalidation.
use Rattle.std.proofs.Common.{◌≡◌, ◌⊎◌, inl, inr, ◌+◌, ◌-◌, ◌%◌, ◌<◌, ℕ, refl, sym, subst, ap, ◌∙◌, arith}
use Rattle.std.specs.Int.Bits.{bit_or}
use Rattle.std.specs.Prelude.{Bool, true, false, ◌==◌, ◌&&◌, ◌≢◌, nat_lt, not, if◌then◌else◌}
use Rattle.std.proofs.lemmas.Bool.Decides.{nat_tests}
use Rattle.core_views.specs.declared.sizes.Sizes.{Sizes}
use Rattle.core_views.specs.declared.topics.Invalidated.{Invalidated}
use Rattle.core_views.specs.declared.topics.Stay.{Stay}
use Rattle.core_views.specs.declared.topics.Topics.{Topics}
use Rattle.core_views.specs.Held.{Held}
use Rattle.core_views.specs.Sizes.{actors_of}
use Rattle.spte_words.specs.declared.area.Area.TheVariants as area
use Rattle.part_steps.specs.declared.part_step.PartStep.{PartStep}
use Rattle.part_steps.specs.declared.part_step.PartStep.TheVariants as part
use Rattle.part_steps.specs.declared.task.Task.{Task}
use Rattle.part_steps.specs.ControlBits.{request_bit}
use Rattle.part_steps.specs.PartTasks.{part_task}
use Rattle.part_steps.specs.PartTopics.{part_topics}
use Rattle.part_steps.specs.StayTopics.{no_flush}
use Rattle.mmu_core.specs.invariant.InvalidatedPart.{FlushPart, FlushesFor, IsFlushed, keeps_empty}
use Rattle.mmu_core.proofs.held.KeptEmpty.{empty_open, given_empty, published_none}
use Rattle.mmu_core.specs.invariant.StatesPart.{stay_bits}
use Rattle.mmu_core.specs.invariant.TopicsInvariant.{TopicsInvariant}
use Rattle.mmu_core.specs.forms.access.Cached.{asks_flush}
use Rattle.mmu_core.specs.machine.View.{View, answer_in, upd, words_after}
use Rattle.mmu_core.proofs.held.FlushChanges.{asked_word, begun_asks, ended_asks, left_asks}
use Rattle.mmu_core.proofs.held.FlushChanges.{asked_on, awaited_on, entered, flushed_more, goes, requested, unasked}
use Rattle.mmu_core.proofs.held.StatesKept.{states_frame}
use Rattle.mmu_core.proofs.machine.Columns.{at_upd, same_or, upd_other, upd_same}
use Rattle.mmu_core.proofs.machine.PartStepping.{IsPart}
use Rattle.mmu_core.proofs.held.KeptEmpty.{changed_empty}

-- the flushes' part, of a view
abbrev pub FlushAt : Sizes → View → Type 0
FlushAt z v = FlushPart (actors_of z) z.vcpus (v.words area.State) v.hand

-- what is said of one virtual processor, for the invalidation of an actor that holds these topics, if it has one open
abbrev pub FlushFor : (Invalidated → ℕ → Type 0) → Topics → ℕ → ℕ → Stay → Type 0
FlushFor IsDone t v state stay = keeps_empty t ≡ true → IsFlushed (IsDone t.invalidations.own v) t.flush.asked t.flush.awaited v state stay

-- It is said of each, where actor a has this hand now and the state words are these, if it is said of this actor and of each other virtual
-- processor, for each invalidation as it was; and then for this actor's own one as it is.
pub each_flushed : (Is : Invalidated → ℕ → Type 0) (z : Sizes) (v : View) (a : ℕ) (states : ℕ → ℕ) (g : Held)
    → ((i : ℕ) → i < actors_of z → a < z.vcpus → FlushFor Is (v.hand i).topics a (states a) g.topics.stay)
    → ((i k : ℕ) → i < actors_of z → k < z.vcpus → k ≢ a → FlushFor Is (v.hand i).topics k (states k) (v.hand k).topics.stay)
    → ((k : ℕ) → k < z.vcpus → FlushFor Is (v.hand a).topics k (states k) (upd v.hand a g k).topics.stay
    → FlushFor Is g.topics k (states k) (upd v.hand a g k).topics.stay)
    → FlushesFor Is (actors_of z) z.vcpus states (λ i. (upd v.hand a g i).topics)
each_flushed Is z v a states g own others topics i k lt low =
    at_upd (λ i (y : Held). i < actors_of z → FlushFor Is y.topics k (states k) (upd v.hand a g k).topics.stay) v.hand a g
    (λ lt. topics k low (each a lt)) (λ i ne lt. each i lt) i lt
  where
    each : (i : ℕ) → i < actors_of z → FlushFor Is (v.hand i).topics k (states k) (upd v.hand a g k).topics.stay
    each i lt = at_upd (λ k (y : Held). k < z.vcpus → FlushFor Is (v.hand i).topics k (states k) y.topics.stay) v.hand a g (own i lt)
        (λ k ne low. others i k lt low ne) k low

-- A count that is stored by who has an invalidation open has no more with it.
counts_down : (was : Bool) (count now : ℕ) → was ≡ true → now ≡ (if was then count - 1 else count + 1) → nat_lt count now ≡ false
counts_down true count now is now_is = grind (arith, nat_tests)
counts_down false count now is now_is = absurd (cc is)

-- The state word of a virtual processor of which a flush was asked just now asks for one.
pub asked_there : (states : ℕ → ℕ) (index k : ℕ) → k ≡ index → asks_flush (upd states index (bit_or (states index) request_bit) k) ≡ true
asked_there states index k e =
    let word : ℕ = bit_or (states index) request_bit in
    ap asks_flush (ap (upd states index word) e ∙ upd_same states index word) ∙ asked_word (states index)

-- ---- Behind a step of a part.

module _ (z : Sizes) (v : View) (a note : ℕ) where
  abbrev h : Held
  h = v.hand a

  abbrev before : ℕ → ℕ
  before = v.words area.State

  abbrev task : PartStep → Task
  task step = part_task step a h.topics note

  abbrev found : PartStep → ℕ
  found step = answer_in (task step) v.words

  abbrev pub states : PartStep → ℕ → ℕ
  states step = words_after (task step) v.words area.State

  abbrev topics : PartStep → Topics
  topics step = part_topics step h.topics (found step)

  -- ---- The virtual processors, for one invalidation as it was.

  module _ {asked awaited : ℕ} {Was : Type 0} where
    -- A state word changes, which is another one's.
    elsewhere : {stay : Stay} (place k w : ℕ) → k ≢ place → IsFlushed Was asked awaited k (before k) stay
        → IsFlushed Was asked awaited k (upd before place w k) stay
    elsewhere {stay} place k w ne = subst (λ n. IsFlushed Was asked awaited k n stay) (sym (upd_other before place k w ne))

    -- Or the actor's.
    here : {stay : Stay} (w : ℕ) → IsFlushed Was asked awaited a w stay → IsFlushed Was asked awaited a (upd before a w a) stay
    here {stay} w = subst (λ n. IsFlushed Was asked awaited a n stay) (sym (upd_same before a w))

    -- A flush is asked of one of them.
    asked_of : {stay : Stay} (index k : ℕ) → IsFlushed Was asked awaited k (before k) stay
        → IsFlushed Was asked awaited k (states (part.Ask index) k) stay
    asked_of {stay} index k F = by (same_or k index)
      where
        by : (k ≡ index) ⊎ (k ≢ index) → IsFlushed Was asked awaited k (states (part.Ask index) k) stay
        by (inl e) = requested (asked_there before index k e) F
        by (inr ne) = elsewhere index k _ ne F

    -- Each but the step's actor.
    other_flushed : {stay : Stay} (step : PartStep) (k : ℕ) → k ≢ a → IsFlushed Was asked awaited k (before k) stay
        → IsFlushed Was asked awaited k (states step k) stay
    other_flushed part.Enter k ne F = elsewhere a k _ ne F
    other_flushed part.Leave k ne F = elsewhere a k _ ne F
    other_flushed part.Begin k ne F = elsewhere a k _ ne F
    other_flushed part.End k ne F = elsewhere a k _ ne F
    other_flushed (part.Ask index) k ne F = asked_of index k F
    other_flushed _ k ne F = F

  -- What is so of the actor once it has made a flush is so where it makes one now.
  abbrev pub Flushes : PartStep → Type 0 → Type 0
  Flushes part.Enter Is = asks_flush (before a) ≡ true → Is
  Flushes _ Is = Unit {0}

  -- And this one.
  own_flushed : {asked awaited : ℕ} {Was Is : Type 0} (step : PartStep) → IsPart z v a step → Flushes step Is → (a < asked → Was → Is)
      → IsFlushed Was asked awaited a (before a) h.topics.stay → IsFlushed Is asked awaited a (states step a) (topics step).stay
  own_flushed part.Enter S flushes keeps F = here _ (entered flushes keeps F)
  own_flushed part.Leave S flushes keeps F = here _ (goes (left_asks (before a) (S.small area.State a)) refl keeps F)
  own_flushed part.Begin S flushes keeps F = here _ (goes (begun_asks (before a)) refl keeps F)
  own_flushed part.End S flushes keeps F = here _ (goes (ended_asks (before a)) refl keeps F)
  own_flushed (part.Ask index) S flushes keeps F = asked_of index a (flushed_more keeps F)
  own_flushed _ S flushes keeps F = flushed_more keeps F

  -- ---- The actor's own invalidation.

  -- What the state word of a virtual processor shows of it: who was asked for a flush is asked for it, and who was awaited was found as it is.
  abbrev Shows : PartStep → ℕ → ℕ → Stay → Type 0
  Shows (part.Ask index) k state stay = k ≡ index → asks_flush state ≡ true
  Shows (part.Await index) k state stay = k ≡ index → (state ≡ found (part.Await index)) × (state % 4 ≡ stay_bits stay)
  Shows _ k state stay = Unit {0}

  -- So it does after the step.
  shows : (step : PartStep) (g : Held) → TopicsInvariant z v → (k : ℕ) → k < actors_of z
      → Shows step k (states step k) (upd v.hand a (record g { topics = topics step }) k).topics.stay
  shows (part.Ask index) g I k lt = asked_there before index k
  shows (part.Await index) g I k lt =
      λ e. (ap before e, (states_frame (actors_of z) before v.hand a (record g { topics = topics (part.Await index) }) refl I.states_part k lt).1)
  shows _ g I k lt = tt

  -- What is so once a flush is made stays so where a page of the actor's run is changed: the run has the same frames.
  abbrev pub OfSameFrames : (Invalidated → ℕ → Type 0) → Type 0
  OfSameFrames Is = (k : ℕ) → Is h.topics.invalidations.own k → Is (topics part.ChangeNext).invalidations.own k

  module _ (Is : Invalidated → ℕ → Type 0) (same : OfSameFrames Is) {state : ℕ} {stay : Stay} where
    -- The lock was taken alone, or not.
    locked_flushed : (k : ℕ) → FlushFor Is h.topics k state stay → FlushFor Is (topics part.Exclude) k state stay
    locked_flushed k F = by (found part.Exclude == 0 && not h.topics.invalidations.opened)
      where
        by : (b : Bool) → FlushFor Is (record h.topics { flush = if b then no_flush else h.topics.flush }) k state stay
        by true opened = unasked no_flush refl
        by false opened = F opened

    -- The own one was opened, with nobody asked for a flush, or closed.
    counted_flushed : (count k : ℕ) → IsPart z v a (part.SetCount count) → FlushFor Is (topics (part.SetCount count)) k state stay
    counted_flushed count k S emptied = by h.topics.invalidations.opened refl
      where
        by : (was : Bool) → h.topics.invalidations.opened ≡ was
            → IsFlushed (Is h.topics.invalidations.own k) h.topics.flush.asked h.topics.flush.awaited k state stay
        by true is =
            let none = counts_down h.topics.invalidations.opened h.topics.invalidations.count count is S.needs.0.is in
            let opened = empty_open (topics (part.SetCount count)) emptied in
            absurd (cc (none, opened))
        by false is = unasked h.topics.flush (S.needs.0.opens is).unasked

    topics_flushed : (step : PartStep) (k : ℕ) → IsPart z v a step → Shows step k state stay → FlushFor Is h.topics k state stay
        → FlushFor Is (topics step) k state stay
    topics_flushed part.Exclude k S shown F = locked_flushed k F
    topics_flushed (part.SetStart first gfn) k S shown F = λ emptied.
        let closed = S.needs.0.opening.closed in let opened = empty_open (topics (part.SetStart first gfn)) emptied in absurd (cc (closed, opened))
    topics_flushed (part.SetEnd last gfn) k S shown F = λ emptied.
        let closed = S.needs.0.opening.closed in let opened = empty_open (topics (part.SetEnd last gfn)) emptied in absurd (cc (closed, opened))
    topics_flushed part.Publish k S shown F = λ emptied.
        absurd (published_none h.topics.invalidations.opened h.topics.invalidations.own.pages S.needs.of_no_page emptied)
    topics_flushed part.ChangeNext k S shown F = λ emptied. flushed_more (λ lt. same k) (F (changed_empty h.topics _ emptied))
    topics_flushed part.Give k S shown F = λ emptied. F (given_empty h.topics S.needs.0 emptied)
    topics_flushed part.GiveOld k S shown F = λ emptied.
        let closed = S.needs.closed in let opened = empty_open (topics part.GiveOld) emptied in absurd (cc (closed, opened))
    topics_flushed (part.SetCount count) k S shown F = counted_flushed count k S
    topics_flushed (part.Ask index) k S shown F = λ opened. asked_on index S.needs.next shown (F opened)
    topics_flushed (part.Await index) k S shown F = λ opened. awaited_on index (found (part.Await index)) S.needs.0 S.needs.1 shown (F opened)
    topics_flushed _ k S shown F = F

  -- ---- All of them, where what was so of a virtual processor that has made its flush makes something so of it after the step.

  pub part_flushed : (Was Is : Invalidated → ℕ → Type 0) (step : PartStep) (g : Held) → IsPart z v a step → TopicsInvariant z v → OfSameFrames Is
      → ((i : ℕ) → i < actors_of z → a < z.vcpus → keeps_empty (v.hand i).topics ≡ true → Flushes step (Is (v.hand i).topics.invalidations.own a)
      × (a < (v.hand i).topics.flush.asked → Was (v.hand i).topics.invalidations.own a → Is (v.hand i).topics.invalidations.own a))
      → ((i k : ℕ) → i < actors_of z → k < z.vcpus → k ≢ a → keeps_empty (v.hand i).topics ≡ true → k < (v.hand i).topics.flush.asked
      → Was (v.hand i).topics.invalidations.own k → Is (v.hand i).topics.invalidations.own k)
      → FlushesFor Was (actors_of z) z.vcpus before (λ i. (v.hand i).topics)
      → FlushesFor Is (actors_of z) z.vcpus (states step) (λ i. (upd v.hand a (record g { topics = topics step }) i).topics)
  part_flushed Was Is step g S I same own others F = each_flushed Is z v a (states step) (record g { topics = topics step })
      (λ i lt low opened. let O = own i lt low opened in own_flushed step S O.0 O.1 (F i a lt low opened))
      (λ i k lt low ne opened. flushed_more (others i k lt low ne opened) (other_flushed step k ne (F i k lt low opened)))
      (λ k low. topics_flushed Is same step k S (shows step g I k (omega (arith, low))))
