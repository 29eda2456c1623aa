-- Once an invalidation has begun, it has flushed all of its frames, and this stays so while it is open.
use Rattle.std.proofs.Common.{◌≡◌, ◌≢◌, ◌⊎◌, inl, inr, ◌<◌, ◌≤◌, ℕ, List, [], ◌∷◌, refl, sym, ap, ◌∙◌, subst, arith}
use Rattle.std.proofs.lemmas.List.Elements.{All-weaker}
use Rattle.std.proofs.Math.Logic.{∥∥₁_elim}
use Rattle.std.proofs.Props.{props}
use Rattle.std.specs.Prelude.{Bool, Some, true, false, if◌then◌else◌, ◌==◌, ◌&&◌, not, Option, is_some}
use Rattle.core_views.specs.declared.kind.Kind.{Kind}
use Rattle.core_views.specs.declared.place.BeginPlace.{BeginPlace}
use Rattle.core_views.specs.declared.place.BeginPlace.TheVariants as begins
use Rattle.core_views.specs.declared.place.Place.{Place}
use Rattle.core_views.specs.declared.place.Place.TheVariants as place
use Rattle.core_views.specs.declared.place.SlotChangePlace.{SlotChangePlace}
use Rattle.core_views.specs.declared.place.SlotChangePlace.TheVariants as change
use Rattle.core_views.specs.declared.sizes.Sizes.{Sizes}
use Rattle.core_views.specs.declared.topics.Flush.{Flush}
use Rattle.core_views.specs.declared.topics.Invalidated.{Invalidated}
use Rattle.core_views.specs.declared.topics.Topics.{Topics}
use Rattle.core_views.specs.Held.{Held}
use Rattle.core_views.specs.Sizes.{actors_of}
use Rattle.part_steps.specs.declared.invalidations.Target.{Target}
use Rattle.part_steps.specs.declared.invalidations.Target.TheVariants as aim
use Rattle.part_steps.specs.declared.part_step.PartStep.{PartStep}
use Rattle.part_steps.specs.declared.part_step.PartStep.TheVariants as part
use Rattle.part_steps.specs.InvalidationRange.{IsOnRun, run_of_target}
use Rattle.job_laws.proofs.BegunFrames.{as_begun, frames_begun, frames_then, on_begun, some_begun, unchanged, unchanged_more}
use Rattle.part_steps.specs.PartSteps.{PartNeeds}
use Rattle.part_steps.specs.PartTasks.{part_kind, word_next}
use Rattle.part_steps.specs.PartTopics.{part_topics}
use Rattle.part_steps.specs.StayTopics.{no_flush}
use Rattle.mmu_core.specs.invariant.InvalidatedPart.{IsApart, IsIn, keeps_empty}
use Rattle.mmu_core.specs.invariant.Laws.{IsSound}
use Rattle.mmu_core.specs.forms.access.Cached.{covers}
use Rattle.mmu_core.specs.lines.Forms.{RetiresPart, may_retire}
use Rattle.mmu_core.specs.orders.InvalidateKnows.{BeginKnows, FramesAre}
use Rattle.mmu_core.specs.machine.Enabled.{mmu}
use Rattle.mmu_core.specs.machine.Machine.{Legal, May, Step, World, answered, effect, hand_in, run}
use Rattle.mmu_core.specs.machine.Steps.{next}
use Rattle.mmu_core.specs.machine.Worlds.{Reachable}
use Rattle.mmu_core.proofs.held.Grace.{hand_here, hand_there}
use Rattle.mmu_core.proofs.held.KeptEmpty.{empty_open, slot_empty}
use Rattle.mmu_core.proofs.machine.Columns.{same_or}
use Rattle.mmu_core.proofs.machine.LineParts.{IsPartKind, IsQuiet, step_kind}
use Rattle.mmu_core.proofs.machine.NextTopics.{next_topics, topics_behind}
use Rattle.mmu_core.proofs.machine.Worlds.{good_run}
use Rattle.mmu_core.proofs.machine.Sized.{next_keeps_sizes, reached_has_sizes}
use Rattle.mmu_core.proofs.start.Starts.{reached_good}
use Rattle.mmu_laws.proofs.leaves.OpenFrames.{open_frames_are_flushed, open_frames_are_zapped}
use Rattle.step_seats.specs.PartTurns.{MadePart}
use Rattle.step_seats.specs.Seats.{Seat}
use Rattle.step_seats.specs.declared.turn.Turn.TheVariants.{Done}
use Rattle.range_notifier.specs.declared.begin.BeginJob.{BeginJob}
use Rattle.range_notifier.specs.Notifying.{BeginsAt, BeginsNext, IsInBegin, TurnsBegin, begin_at}
use Rattle.job_laws.specs.Begun.{BegunFramesAreEmpty, DoneHasBegun, InvalidationHasBegun, IsOfTarget, NothingIsLeft, StaysBegun}
use Rattle.job_laws.proofs.Told.{IsToldPart, IsToldStep, told_part}
use Rattle.core_views.specs.declared.topics.PageRun.{PageRun}

-- ---- an open invalidation whose frames are flushed

-- The actor's own invalidation is open, and of these frames; each of so many virtual processors was asked for a flush, and awaited.
record IsEmptied (own_ : Invalidated) (vcpus : ℕ) (t : Topics) : Type 0 where
  opened : t.invalidations.opened ≡ true
  own_is : as_begun t.invalidations.own ≡ as_begun own_
  asked : vcpus ≤ t.flush.asked
  awaited : vcpus ≤ t.flush.awaited

module _ (own_ : Invalidated) (vcpus : ℕ) where
  -- Each step of a part leaves it so, if it leaves the invalidation open.
  stays_emptied : (step : PartStep) (h : Held) (v : ℕ) → PartNeeds step h → IsEmptied own_ vcpus h.topics
      → (part_topics step h.topics v).invalidations.opened ≡ true → IsEmptied own_ vcpus (part_topics step h.topics v)
  stays_emptied (part.SetStart first gfn) h v N E opened = absurd (let closed = N.0.opening.closed in let is = E.opened in cc (closed, is))
  stays_emptied (part.SetEnd last gfn) h v N E opened = absurd (let closed = N.0.opening.closed in let is = E.opened in cc (closed, is))
  stays_emptied (part.Ask index) h v N E opened = record {
    opened = opened;
    own_is = E.own_is;
    asked = let next = N.next in let asked = E.asked in omega (arith, next, asked);
    awaited = E.awaited;
  }
  stays_emptied (part.Await index) h v N E opened = record {
    opened = opened;
    own_is = E.own_is;
    asked = E.asked;
    awaited = let next = N.1 in let awaited = E.awaited in omega (arith, next, awaited);
  }
  stays_emptied part.Exclude h v N E opened = record {
    opened = opened;
    own_is = E.own_is;
    asked = subst (λ (f : Flush). vcpus ≤ f.asked) (sym kept) E.asked;
    awaited = subst (λ (f : Flush). vcpus ≤ f.awaited) (sym kept) E.awaited;
  }
    where
      by : (won opened_ : Bool) → opened_ ≡ true → (if won && not opened_ then no_flush else h.topics.flush) ≡ h.topics.flush
      by true true is = refl
      by false opened_ is = refl
      by true false is = absurd (cc is)

      kept : (part_topics part.Exclude h.topics v).flush ≡ h.topics.flush
      kept = by (v == 0) h.topics.invalidations.opened E.opened
  stays_emptied part.ChangeNext h v N E opened = record {
    opened = opened;
    own_is =
        ap (λ (o : Option PageRun). record h.topics.invalidations.own { pages = o })
        (unchanged_more (v == word_next h.topics.invalidations.own.pages) h.topics.invalidations.own.pages) ∙ E.own_is;
    asked = E.asked;
    awaited = E.awaited;
  }
  stays_emptied _ h v N E opened = record { opened = opened; own_is = E.own_is; asked = E.asked; awaited = E.awaited }

  -- So does each step of an actor.
  own_step : (w : World Held) (s : Step Kind) → May mmu w s → IsEmptied own_ vcpus (hand_in mmu w s.actor).topics
      → (hand_in mmu (effect mmu w s) s.actor).topics.invalidations.opened ≡ true → IsEmptied own_ vcpus (hand_in mmu (effect mmu w s) s.actor).topics
  own_step w s may E = by (step_kind h s.kind may.enabled)
    where
      h : Held
      h = hand_in mmu w s.actor

      v : ℕ
      v = answered mmu w s.kind

      Stays : Topics → Type 0
      Stays t = t.invalidations.opened ≡ true → IsEmptied own_ vcpus t

      by : IsPartKind h s.kind ⊎ IsQuiet h.state.sizes h.topics s.kind → Stays (hand_in mmu (effect mmu w s) s.actor).topics
      by (inl N) =
          subst Stays (sym (ap (λ (x : Held). x.topics) (hand_here w s may.there) ∙ ap (λ (k : Kind). (next h k v).topics) N.is
          ∙ topics_behind h N.step N.note v N.needs))
          (stays_emptied N.step h v N.needs E)
      by (inr Q) =
          subst Stays (sym (ap (λ (x : Held). x.topics) (hand_here w s may.there) ∙ next_topics h s.kind v ∙ Q.topics v)) (λ opened. E)

  -- And each step of any actor.
  any_step : (w : World Held) (s : Step Kind) (a : ℕ) → May mmu w s → IsEmptied own_ vcpus (hand_in mmu w a).topics
      → (hand_in mmu (effect mmu w s) a).topics.invalidations.opened ≡ true → IsEmptied own_ vcpus (hand_in mmu (effect mmu w s) a).topics
  any_step w s a may E = by (same_or a s.actor)
    where
      by : (a ≡ s.actor) ⊎ (a ≢ s.actor)
          → (hand_in mmu (effect mmu w s) a).topics.invalidations.opened ≡ true → IsEmptied own_ vcpus (hand_in mmu (effect mmu w s) a).topics
      by (inl e) opened =
          subst (λ x. (hand_in mmu (effect mmu w s) x).topics.invalidations.opened ≡ true → IsEmptied own_ vcpus (hand_in mmu (effect mmu w s) x).topics)
          (sym e) (own_step w s may (subst (λ x. IsEmptied own_ vcpus (hand_in mmu w x).topics) e E)) opened
      by (inr other) opened = subst (λ (x : Held). IsEmptied own_ vcpus x.topics) (sym (hand_there w s a other)) E

  -- After further steps in which it stays begun it is so, and is begun.
  emptied_run : (w : World Held) (ss : List (Step Kind)) (a : ℕ) → Legal mmu w ss → IsEmptied own_ vcpus (hand_in mmu w a).topics
      → keeps_empty (hand_in mmu w a).topics ≡ true → StaysBegun w ss a
      → IsEmptied own_ vcpus (hand_in mmu (run mmu w ss) a).topics × (keeps_empty (hand_in mmu (run mmu w ss) a).topics ≡ true)
  emptied_run w [] a legal E empty stays = (E, empty)
  emptied_run w (s ∷ ss) a legal E empty stays =
      emptied_run (effect mmu w s) ss a legal.1 (any_step w s a legal.0 E (empty_open (hand_in mmu (effect mmu w s) a).topics stays.0)) stays.0 stays.1

-- ---- what is left then

-- Each guest frame of the target is one that the invalidation is of.
abbrev CoversTarget : Target → Sizes → World Held → Invalidated → Type 0
CoversTarget target z w own_ = (gfn : ℕ) → IsOfTarget target z w gfn → IsIn own_ gfn

nothing_left : (target : Target) (z : Sizes) (w : World Held) (a : ℕ) (own_ : Invalidated) → IsSound z w → a < actors_of z
    → IsEmptied own_ z.vcpus (hand_in mmu w a).topics → 0 < z.vcpus → keeps_empty (hand_in mmu w a).topics ≡ true
    → CoversTarget target z w (hand_in mmu w a).topics.invalidations.own → NothingIsLeft target z w
nothing_left target z w a own_ sound lt E some empty covers_all = record {
  leaves = λ gfn low entry of_it leads leaf.
      open_frames_are_zapped z w a gfn low entry sound lt empty (let asked = E.asked in omega (arith, asked, some)) (covers_all gfn of_it) leads leaf;
  cached = λ v gfn there of_it may.
      All-weaker (IsApart (hand_in mmu w a).topics.invalidations.own) (λ t. covers gfn t ≡ true → ⊥) (λ t apart is. apart gfn is (covers_all gfn of_it))
      (hand_in mmu w v).cached.items
      (open_frames_are_flushed z w a v sound lt empty there (let awaited = E.awaited in omega (arith, awaited, there)) may);
}

-- The frames are those of the target.
covers_target : (target : Target) (z : Sizes) (w : World Held) (a : ℕ) → IsSound z w → a < actors_of z
    → (hand_in mmu w a).topics.invalidations.opened ≡ true → unchanged ((hand_in mmu w a).topics.invalidations.own.pages) ≡ unchanged (run_of_target target)
    → FramesAre target (hand_in mmu w a).topics.invalidations.own → CoversTarget target z w (hand_in mmu w a).topics.invalidations.own
covers_target (aim.Page page) z w a sound lt opened of_pages few gfn of_it =
    (sound.topics.scopes a lt opened
    (some_begun (hand_in mmu w a).topics.invalidations.own.pages ∙ ap (λ (o : Option PageRun). is_some o) of_pages)).covers page gfn
    (on_begun page (hand_in mmu w a).topics.invalidations.own.pages (subst (IsOnRun page) (sym of_pages) refl)) of_it
covers_target (aim.Run run) z w a sound lt opened of_pages few gfn of_it =
    (sound.topics.scopes a lt opened
    (some_begun (hand_in mmu w a).topics.invalidations.own.pages ∙ ap (λ (o : Option PageRun). is_some o) of_pages)).covers of_it.0
    gfn (on_begun of_it.0 (hand_in mmu w a).topics.invalidations.own.pages (subst (IsOnRun of_it.0) (sym of_pages) of_it.1)) of_it.2
covers_target (aim.Slot slot) z w a sound lt opened of_page few gfn of_it =
    let start = few.0 in let end_ = few.1 in let low = of_it.0 in let high = of_it.1 in (omega (arith, start, low), omega (arith, end_, high))

-- ---- the turn that is done

-- It gave the lock back, and its line knew what it knows there.
record IsDone (job : BeginJob) (note : ℕ) (before after : Seat) (w : World Held) : Type 0 where
  found : ℕ
  made : MadePart part.Release note found before after
  told : IsToldPart part.Release note found before after w
  stands : begin_at before.hand.state.place ≡ Some begins.Release
  knows : BeginKnows begins.Release before.hand.state.sizes job.target before.hand.topics

is_done : (job : BeginJob) (note : ℕ) (before after : Seat) (w : World Held) → BeginsNext job note before.hand → TurnsBegin job (Done tt) note before after
    → after.tells.world ≡ Some w → IsDone job note before after w
is_done job note before after w N T told = by N.at N.stands N.is_in (T N.at N.stands)
  where
    by : (p : BeginPlace) → begin_at before.hand.state.place ≡ Some p → IsInBegin p job.target note before.hand
        → BeginsAt p job (Done tt) note before after → IsDone job note before after w
    by begins.Release stands I B = record {
      found = B.step.found;
      made = B.step.made;
      told = told_part part.Release note B.step.found before after w B.step.made told;
      stands = stands;
      knows = I.knows;
    }
    by (begins.Walk true) stands I B = absurd B.answers
    by (begins.Walk false) stands I B = absurd B.answers
    by _ stands I B = absurd B.answers

-- No page is retired where a begin stands.
none_retired : (p : Place) (at : BeginPlace) → begin_at p ≡ Some at → may_retire p ≡ false
none_retired (place.SlotChange p) at is = by p is
  where
    by : (q : SlotChangePlace) → begin_at (place.SlotChange q) ≡ Some at → may_retire (place.SlotChange q) ≡ false
    by (change.Begin b) e = refl
    by _ e = absurd (cc e)
none_retired _ at is = refl

module _ (job : BeginJob) (note : ℕ) (before after : Seat) (w : World Held) (D : IsDone job note before after w) where
  abbrev S : IsToldStep (part_kind before.hand part.Release note) D.found before.actor before.hand after.hand D.told.world w
  S = D.told.step_is

  same_sizes : after.hand.state.sizes ≡ before.hand.state.sizes
  same_sizes =
      ap (λ (x : Held). x.state.sizes) D.made.hand ∙ next_keeps_sizes before.hand (part_kind before.hand part.Release note) D.found

  empty_before : keeps_empty before.hand.topics ≡ true
  empty_before = ∥∥₁_elim S.has.reached (hlevel props) (λ r.
      let G = reached_good D.told.world r in
      let lt = subst (λ n. before.actor < n) G.hands S.has.there in
      let R = subst (λ (x : Held). RetiresPart x.state.place x.topics) S.has.is (G.holds.leaves before.actor lt) in
      slot_empty before.hand.topics D.knows.0.is (R.leaves (none_retired before.hand.state.place begins.Release D.stands)))

  has_begun : InvalidationHasBegun after.hand
  has_begun =
      subst (λ (t : Topics). InvalidationHasBegun (record after.hand { topics = t })) (sym D.made.topics)
      (record {
        loose = refl;
        opened = empty_before;
        asked = let asked = D.knows.2 in let same = ap (λ (z : Sizes). z.vcpus) same_sizes in omega (arith, asked, same);
        awaited = let awaited = D.knows.3 in let same = ap (λ (z : Sizes). z.vcpus) same_sizes in omega (arith, awaited, same);
      })

  -- In the world after it the invalidation is of the target, and its frames are flushed.
  record IsLeftBy (z : Sizes) : Type 0 where
    there : before.actor < actors_of z
    empty : keeps_empty (hand_in mmu w before.actor).topics ≡ true
    emptied : IsEmptied before.hand.topics.invalidations.own z.vcpus (hand_in mmu w before.actor).topics

  is_left : (r : Reachable w) → (before.hand.state.sizes ≡ r.sizes) × IsLeftBy r.sizes
  is_left r = (
    same,
    record {
      there = subst (λ n. before.actor < n) (reached_good w r).hands S.then.there;
      empty = subst (λ (x : Held). keeps_empty x.topics ≡ true) (sym S.then.is) B.opened;
      emptied = subst (λ (x : Held). IsEmptied before.hand.topics.invalidations.own r.sizes.vcpus x.topics) (sym S.then.is) (record {
        opened = empty_open after.hand.topics B.opened;
        own_is = ap (λ (t : Topics). as_begun t.invalidations.own) D.made.topics;
        asked = let asked = B.asked in omega (arith, asked, vcpus);
        awaited = let awaited = B.awaited in omega (arith, awaited, vcpus);
      });
    },
  )
    where
      B : InvalidationHasBegun after.hand
      B = has_begun

      same : before.hand.state.sizes ≡ r.sizes
      same = sym same_sizes ∙ ap (λ (x : Held). x.state.sizes) (sym S.then.is) ∙ reached_has_sizes w r before.actor S.then.there

      vcpus : after.hand.state.sizes.vcpus ≡ r.sizes.vcpus
      vcpus = ap (λ (z : Sizes). z.vcpus) (same_sizes ∙ same)

  -- Nothing is left after further steps.
  left_after : (ss : List (Step Kind)) → Legal mmu w ss → StaysBegun w ss before.actor → Reachable w
      → NothingIsLeft job.target before.hand.state.sizes (run mmu w ss)
  left_after ss legal stays r =
      let L = is_left r in
      let E = emptied_run before.hand.topics.invalidations.own r.sizes.vcpus w ss before.actor legal L.1.emptied L.1.empty stays in
      let sound = good_run r.sizes w ss (reached_good w r) legal in
      subst (λ (z : Sizes). NothingIsLeft job.target z (run mmu w ss)) (sym L.0)
      (nothing_left job.target r.sizes (run mmu w ss) before.actor before.hand.topics.invalidations.own sound L.1.there E.0 sound.holds.sizes.some E.1
      (covers_target job.target r.sizes (run mmu w ss) before.actor sound L.1.there E.0.opened
      (ap (λ (o : Invalidated). o.pages) E.0.own_is ∙ ap unchanged D.knows.1.of_pages)
      (frames_then job.target (hand_in mmu (run mmu w ss) before.actor).topics.invalidations.own
      (subst (FramesAre job.target) (sym E.0.own_is) (frames_begun job.target before.hand.topics.invalidations.own D.knows.1.few)))))

  left_told : (ss : List (Step Kind)) → Legal mmu w ss → StaysBegun w ss before.actor → NothingIsLeft job.target before.hand.state.sizes (run mmu w ss)
  left_told ss legal stays = record {
    leaves = λ gfn low entry of_it leads leaf.
        ∥∥₁_elim S.then.reached (hlevel props) (λ r. (left_after ss legal stays r).leaves gfn low entry of_it leads leaf);
    cached = λ v gfn there of_it may. ∥∥₁_elim S.then.reached (hlevel props) (λ r. (left_after ss legal stays r).cached v gfn there of_it may);
  }

pub done_has_begun : DoneHasBegun
done_has_begun job note before after w N T told = has_begun job note before after w (is_done job note before after w N T told)

pub begun_frames_are_empty : BegunFramesAreEmpty
begun_frames_are_empty job note before after w ss N T told legal stays =
    left_told job note before after w (is_done job note before after w N T told) ss legal stays
