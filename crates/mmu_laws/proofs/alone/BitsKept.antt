-- The bits of logs are of dirty guest frames, or of one that the line is about to write, after each step of a line that is alone and publishes no slot set.
use Rattle.std.proofs.Common.{◌≡◌, ◌≢◌, ◌⊎◌, inl, inr, ◌<◌, ℕ, refl, sym, subst, ap, ◌∙◌}
use Rattle.std.proofs.lemmas.Bool.{and_from, eq-eqb, or_left}
use Rattle.std.specs.Prelude.{Bool, true, false, ◌==◌, ◌&&◌}
use Rattle.core_views.specs.declared.actor.Actor.{Actor}
use Rattle.core_views.specs.declared.place.AccessPlace.TheVariants as access
use Rattle.core_views.specs.declared.place.Place.{Place}
use Rattle.core_views.specs.declared.place.Place.TheVariants as place
use Rattle.core_views.specs.declared.sizes.Sizes.{Sizes}
use Rattle.core_views.specs.declared.trace.Command.{Command}
use Rattle.core_views.specs.declared.trace.Command.TheVariants.{Access}
use Rattle.core_views.specs.declared.trace.Line.{Line}
use Rattle.core_views.specs.declared.trace.Slot.{Slot as SlotOf}
use Rattle.core_views.specs.Actors.{is_same}
use Rattle.core_views.specs.Events.{after_all, is_armed}
use Rattle.core_views.specs.Flat.{Facts, Flat, LineUnderWay}
use Rattle.core_views.specs.Held.{Held}
use Rattle.core_views.specs.Sizes.{actors_of}
use Rattle.core_views.specs.Slots.{contains, is_write}
use Rattle.core_views.proofs.SameActor.{same_is}
use Rattle.spte_words.specs.declared.area.Area.TheVariants as area
use Rattle.part_steps.specs.SlotWords.{page_of}
use Rattle.mmu_core.specs.lines.Forms.{outcome_at, part_at, tells_at}
use Rattle.mmu_core.specs.machine.Outcomes.{place_after}
use Rattle.mmu_core.specs.machine.Steps.{task_at}
use Rattle.mmu_core.specs.machine.View.{View, answer_in, hand_after, stepped}
use Rattle.mmu_core.proofs.machine.Columns.{same_or, upd_same}
use Rattle.log_invariant.specs.Covered.{is_marked}
use Rattle.log_invariant.specs.LogInvariant.{IsMarkingAt}
use Rattle.log_invariant.proofs.CoveredKept.{PublishesLog, logged_before}
use Rattle.log_invariant.proofs.HeldLogs.{IsLoggedNow}
use Rattle.log_invariant.proofs.StepPlaces.{of_hand, publishes, step_at}
use Rattle.mmu_laws.specs.forms.log.ReadingsAlone.{WritesLater, WritesLaterAt}
use Rattle.mmu_laws.specs.flat.FlatInvariant.{UnderAt}
use Rattle.mmu_laws.proofs.alone.ArmedLogs.{ArmsLater}
use Rattle.mmu_laws.proofs.forms.log.DirtyKept.{StaysPending, dirty_stays}
use Rattle.mmu_laws.proofs.forms.log.ReadingDue.{others_idle}
use Rattle.mmu_laws.proofs.forms.log.LoneReadingSteps.{StepsAlone}
use Rattle.mmu_laws.proofs.alone.ToldFlat.{step_facts}
use Rattle.mmu_laws.proofs.forms.access.WritesLater.{marks_on, writes_on}
use Rattle.mmu_laws.proofs.forms.access.WrittenDirty.{logged_armed}
use Rattle.mmu_laws.proofs.flat.BeginningsKept.{StandsAt, stands_at}
use Rattle.mmu_laws.proofs.flat.FlatKept.{told_events}
use Rattle.mmu_laws.proofs.flat.LogsStill.{MarksPage, bit_at, same_frame}

-- The line touches its word, or makes another step.
touches_or_not : (p : Place) → (p ≡ place.Access access.Touch) ⊎ (p ≢ place.Access access.Touch)
touches_or_not (place.Access access.Touch) = inl refl
touches_or_not (place.Access _) = inr (λ e. cc e)
touches_or_not _ = inr (λ e. cc e)

-- ---- its touch

touch_runs : (z : Sizes) (pool : ℕ → ℕ) (command : Command) (h : Held) (u : LineUnderWay) (gfn id : ℕ) → WritesLaterAt (place.Access access.Touch) command gfn
    → UnderAt z pool (place.Access access.Touch) h.state.line command h.topics u → ArmsLater u id → ⊥
touch_runs z pool (Access at word op) h u gfn id W under L = let fresh = under.1.0 in let stage = L.stage in cc (fresh, stage)
touch_runs z pool _ h u gfn id W under L = absurd W

written : (f : Flat) (gfn : ℕ) (command : Command) (h : Held) (x : ℕ) → WritesLaterAt (place.Access access.Touch) command gfn
    → is_armed f.facts.slots f.facts.armed gfn ≡ true → StaysPending f gfn (tells_at (place.Access access.Touch) command h x)
written f gfn (Access at word op) h x W armed =
    or_left _ (f.facts.pending gfn)
    (and_from (is_armed f.facts.slots f.facts.armed at && is_write op) (at == gfn)
    (and_from (is_armed f.facts.slots f.facts.armed at) (is_write op) (ap (is_armed f.facts.slots f.facts.armed) W.1 ∙ armed) W.2) (eq-eqb at gfn W.1))
written f gfn _ h x W armed = absurd W

module _ (z : Sizes) (v : View) (f : Flat) (a : ℕ) (line : Line) (X : StepsAlone z v f a line (place.Access access.Touch)) (gfn id : ℕ) (slot : SlotOf)
    (logged : IsLoggedNow v id slot) (has : contains gfn slot ≡ true) (W : WritesLaterAt (place.Access access.Touch) line.command gfn) where
  -- No line is to arm a log then.
  none_arms : (x : Actor) → ArmsLater (f.under x) id → ⊥
  none_arms x L = by (is_same (v.hand a).state.actor x) refl
    where
      T : StandsAt (v.hand a) line line.command (place.Access access.Touch)
      T = stands_at z v a line line.command (place.Access access.Touch) X.step refl

      own : UnderAt z (v.words area.Pool) (place.Access access.Touch) (v.hand a).state.line line.command (v.hand a).topics (f.under (v.hand a).state.actor)
      own =
          subst (λ c. UnderAt z (v.words area.Pool) (place.Access access.Touch) (v.hand a).state.line c (v.hand a).topics (f.under (v.hand a).state.actor))
          T.command_is
          (subst (λ q. UnderAt z (v.words area.Pool) q (v.hand a).state.line (v.hand a).state.line.command (v.hand a).topics
          (f.under (v.hand a).state.actor)) T.at (X.ready.flat.under a X.step.there))

      by : (same : Bool) → is_same (v.hand a).state.actor x ≡ same → ⊥
      by true same =
          touch_runs z (v.words area.Pool) line.command (v.hand a) (f.under (v.hand a).state.actor) gfn id W own
          (subst (λ y. ArmsLater (f.under y) id) (sym (same_is (v.hand a).state.actor x same)) L)
      by false apart = others_idle z v f a X.ready.flat X.exact X.idle x apart (λ e. let stage = L.stage in cc (e, stage))

  pub touch_dirty : (after_all (told_events v a line line.command (place.Access access.Touch)) f).facts.pending gfn ≡ true
  touch_dirty =
      let x : ℕ = answer_in (task_at (place.Access access.Touch) line.command (v.hand a)) v.words in
      ap (λ (y : Facts). y.pending gfn) (step_facts (v.hand a).state.actor (v.hand a).state.place line
      (tells_at (place.Access access.Touch) line.command (v.hand a) x)
      (outcome_at (place.Access access.Touch) line.command (v.hand a) x) f)
      ∙ written f gfn line.command (v.hand a) x W
      (logged_armed z v f gfn id slot X.ready.flat.refines.slots X.ready.holds.set_part.slots logged has X.armed none_arms)

-- ---- each step that publishes no slot set

module _ (z : Sizes) (v : View) (f : Flat) (a : ℕ) (line : Line) (p : Place) (X : StepsAlone z v f a line p) (never : publishes p ≡ false) where
  abbrev h : Held
  h = v.hand a

  abbrev x : ℕ
  x = answer_in (task_at p line.command h) v.words

  abbrev after : View
  after = stepped a line line.command p v

  abbrev behind : Flat
  behind = after_all (told_events v a line line.command p) f

  abbrev IsSaid : ℕ → Type 0
  IsSaid gfn = (behind.facts.pending gfn ≡ true) ⊎ ((i : ℕ) × (i < actors_of z) × WritesLater (after.hand i) gfn)

  -- The own line is about to write.
  own_later : (gfn : ℕ) → WritesLaterAt (place_after (outcome_at p line.command h x)) line.command gfn → IsSaid gfn
  own_later gfn W = inr (a, X.step.there, subst (λ (g : Held). WritesLater g gfn) (sym (upd_same v.hand a (hand_after line line.command p h x))) W)

  module _ (gfn id : ℕ) (slot : SlotOf) (logged : IsLoggedNow v id slot) (has : contains gfn slot ≡ true) where
    of_mark : MarksPage h (page_of slot gfn) → IsSaid gfn
    of_mark M =
        let owed = same_frame z v a X.ready.holds gfn id slot logged has X.step.there X.ready.topics X.ready.covered M in
        own_later gfn (marks_on p line.command h x gfn
        (of_hand z v a line line.command p X.step (λ q c. IsMarkingAt q c gfn) (λ sizes slots c none. absurd none)
        (X.ready.covered.marks a gfn X.step.there owed)))

    of_writer : WritesLaterAt p line.command gfn → (p ≡ place.Access access.Touch) ⊎ (p ≢ place.Access access.Touch) → IsSaid gfn
    of_writer W (inr other) = own_later gfn (writes_on p line.command h x gfn W other X.finds)
    of_writer W (inl is) =
        inl (by p is X W)
      where
        by : (q : Place) → q ≡ place.Access access.Touch → StepsAlone z v f a line q → WritesLaterAt q line.command gfn
            → (after_all (told_events v a line line.command q) f).facts.pending gfn ≡ true
        by (place.Access access.Touch) same Y V = touch_dirty z v f a line Y gfn id slot logged has V
        by (place.Access _) same Y V = absurd (cc same)
        by _ same Y V = absurd (cc same)

    of_bit : is_marked (v.words area.Log) (page_of slot gfn) ≡ true → IsSaid gfn
    of_bit marked = by (X.exact.bits id gfn slot logged has marked)
      where
        by : (f.facts.pending gfn ≡ true) ⊎ ((i : ℕ) × (i < actors_of z) × WritesLater (v.hand i) gfn) → IsSaid gfn
        by (inl is) =
            inl (dirty_stays z v f a gfn line (record { id = id; slot = slot; logged = logged; has = has; marked = marked; pending = is }) p X never)
        by (inr (i, lt, W)) = which (same_or i a)
          where
            which : (i ≡ a) ⊎ (i ≢ a) → IsSaid gfn
            which (inl e) =
                of_writer (of_hand z v a line line.command p X.step (λ q c. WritesLaterAt q c gfn) (λ sizes slots c none. absurd none)
                (subst (λ j. WritesLater (v.hand j) gfn) e W)) (touches_or_not p)
            which (inr ne) = absurd (subst (λ q. WritesLaterAt q (v.hand i).state.line.command gfn) (X.idle i lt ne) W)

    of_set : (is_marked (v.words area.Log) (page_of slot gfn) ≡ true) ⊎ MarksPage h (page_of slot gfn) → IsSaid gfn
    of_set (inl marked) = of_bit marked
    of_set (inr M) = of_mark M

  pub bits_kept : (id gfn : ℕ) (slot : SlotOf) → IsLoggedNow after id slot → contains gfn slot ≡ true
      → is_marked (after.words area.Log) (page_of slot gfn) ≡ true → IsSaid gfn
  bits_kept id gfn slot logged has set =
      by (logged_before z v a line line.command p X.ready.small X.step X.ready.holds X.ready.topics id slot logged)
    where
      by : IsLoggedNow v id slot ⊎ PublishesLog v a line.command p slot → IsSaid gfn
      by (inl was) =
          of_set gfn id slot was has (bit_at z v a X.ready.holds gfn id slot was has (part_at p line.command h) (task_at p line.command h)
          (step_at z v a line line.command p X.ready.small X.step X.ready.holds X.ready.topics) set)
      by (inr Y) = absurd (let is = ap publishes Y.at in cc (is, never))
