-- What a line rests on, from the invariant; and that the word of its next step is one of the words.
use Rattle.core_views.specs.declared.trace.HostChange.TheVariants.{Move, Evict, Protect, Allow}
use Rattle.core_views.specs.declared.trace.RunChange.TheVariants.{Huge, Small}
use Rattle.std.proofs.Common.{◌≡◌, ◌⊎◌, inl, inr, ◌<◌, ◌≤◌, ℕ, length, refl, sym, subst, ap, ◌∙◌, arith}
use Rattle.std.specs.Prelude.{Bool, Option, Some, None}
use Rattle.std.proofs.Math.Logic.{∥∥₁_elim, ∥∥₁_map}
use Rattle.std.proofs.Props.{props}
use Rattle.std.proofs.lemmas.Bool.{cases_lt}
use Rattle.core_views.specs.declared.actor.Actor.{Actor}
use Rattle.core_views.specs.declared.actor.Actor.TheVariants.{Vcpu, Host}
use Rattle.core_views.specs.declared.place.AccessPlace.{AccessPlace}
use Rattle.core_views.specs.declared.place.AccessPlace.TheVariants.{Enter, Walk, Touch, Leave, Fault}
use Rattle.core_views.specs.declared.place.Place.{Place}
use Rattle.core_views.specs.declared.place.Place.TheVariants as place
use Rattle.core_views.specs.declared.sizes.Sizes.{Sizes}
use Rattle.core_views.specs.declared.topics.HostLook.{HostLook}
use Rattle.core_views.specs.declared.topics.Invalidations.{Invalidations}
use Rattle.core_views.specs.declared.topics.MapClaim.{MapClaim}
use Rattle.core_views.specs.declared.topics.OwnedPage.{OwnedPage}
use Rattle.core_views.specs.declared.topics.Topics.{Topics}
use Rattle.core_views.specs.declared.trace.Command.{Command}
use Rattle.core_views.specs.declared.trace.Command.TheVariants.{Access, ChangeHost, ChangeRun}
use Rattle.core_views.specs.declared.trace.Line.{Line}
use Rattle.core_views.specs.declared.trace.Op.{Op}
use Rattle.core_views.specs.declared.trace.Op.TheVariants.{Add, Read, Write}
use Rattle.core_views.specs.Held.{Held}
use Rattle.core_views.specs.Sizes.{actors_of}
use Rattle.core_views.specs.Slots.{is_write}
use Rattle.core_views.specs.Traces.{IsCommandFor}
use Rattle.spte_words.specs.declared.area.Area.TheVariants as area
use Rattle.spte_words.specs.Areas.{content_index, size_of}
use Rattle.spte_words.proofs.Indices.{content_within}
use Rattle.part_steps.specs.declared.part_step.PartStep.{PartStep}
use Rattle.part_steps.specs.declared.part_step.PartStep.TheVariants as part
use Rattle.mmu_core.specs.forms.access.Cached.{frame_used}
use Rattle.mmu_core.specs.forms.access.AccessSteps.{access_part, touch_of}
use Rattle.mmu_core.specs.forms.access.AccessKnows.{AccessKnows, RestsOn}
use Rattle.part_steps.specs.PartBounds.{PartRests}
use Rattle.part_steps.specs.PartTasks.{own_index}
use Rattle.part_steps.specs.PartHoldings.{FoundSlot, IsFresh, LookedUp, MayEnter, MayLink, next_watched}
use Rattle.part_steps.specs.PartSteps.{GoesOnToWord, IsVcpu, PartNeeds}
use Rattle.mmu_core.specs.lines.Forms.{AcceptsAt, RestsAt}
use Rattle.mmu_core.specs.lines.Rests.{Rests}
use Rattle.part_steps.specs.SlotWords.{page_of}
use Rattle.mmu_core.specs.machine.Steps.{line_at, place_at, task_at, task_of}
use Rattle.part_steps.specs.Tasks.{map_of}
use Rattle.mmu_core.specs.invariant.TopicsInvariant.{TopicsInvariant}
use Rattle.mmu_core.specs.machine.View.{View}
use Rattle.mmu_core.proofs.machine.Columns.{same_or}
use Rattle.part_steps.proofs.EntryTopics.{looked_at}
use Rattle.mmu_core.proofs.lines.KnowsKept.{access_needs, access_vcpu, step_knows, NeedsAt}
use Rattle.mmu_core.proofs.invariant.Kept.{needs_at}
use Rattle.mmu_core.proofs.invariant.PartBounded.{part_rests_at}
use Rattle.mmu_core.proofs.invariant.TargetStays.{count_stays, end_stays, start_stays}
use Rattle.mmu_core.proofs.words.PartFits.{part_within_by}
use Rattle.mmu_core.proofs.words.PartTopics.{no_anew, no_sweep}
use Rattle.mmu_core.proofs.machine.Stepping.{is_step}
use Rattle.part_steps.specs.declared.task.Task.{Task}
use Rattle.mmu_core.proofs.lines.Forms.{RestsOnPart, accepts_at, accepts_at_prop, other_rests}
use Rattle.mmu_core.proofs.lines.ByStep.{StepAt, step_at, Makes, Touches}
use Rattle.mmu_core.specs.invariant.Invariant.{Holds, Invariant, KnowsPart, CachedPart}
use Rattle.mmu_core.proofs.forms.access.UsedTranslations.{uses_stays}
use Rattle.mmu_core.proofs.forms.access.CachedKept.{used_covers}
use Rattle.mmu_core.specs.invariant.CachedPart.{FitsMachine}
use Rattle.mmu_core.proofs.held.PageRuns.{on_run_prop}
use Rattle.mmu_core.proofs.invariant.NextStays.{next_stays}

-- The next step of a line finds what it needs.
access_rests : (p : AccessPlace) (z : Sizes) (h : Held) (gfn word : ℕ) (op : Op) → CachedPart z h.cached.items → h.state.sizes ≡ z
    → IsCommandFor z h.state.actor (Access gfn word op) → PartRests h → AccessKnows p gfn (is_write op) h
    → RestsOn (access_part p gfn h.topics) gfn (is_write op) h
access_rests Touch z h gfn word op cached same may R K =
    let used = used_covers (FitsMachine z) gfn (is_write op) h.cached.items h.state.used cached K.1 in
    record {
      guest = K.0.guest;
      uses = K.1;
      level = used.0.level;
      frame = subst (λ (y : Sizes). frame_used gfn h.state < y.frames) (sym same) (used.0.there gfn used.1);
    }
access_rests (Enter again) z h gfn word op cached same may R K =
    let V = access_vcpu z h.state.actor gfn word op may in access_needs (Enter again) h gfn (is_write op) V.0 V.1 R K
access_rests (Walk again) z h gfn word op cached same may R K = (K.1, no_sweep h.topics K.0.guest refl, no_anew h.topics K.0.guest refl)
access_rests (Leave how) z h gfn word op cached same may R K = K.guest
access_rests (Fault p) z h gfn word op cached same may R K =
    let V = access_vcpu z h.state.actor gfn word op may in access_needs (Fault p) h gfn (is_write op) V.0 V.1 R K
access_rests _ z h gfn word op cached same may R K = tt

rests_at : (p : Place) (command : Command) (z : Sizes) (v : View) (h : Held) → CachedPart z h.cached.items → h.state.sizes ≡ z
    → IsCommandFor z h.state.actor command → PartRests h → KnowsPart p command h
    → Holds z (v.words area.Pool) (v.words area.Slots 0) p command h → NeedsAt p command h → RestsAt p command h
rests_at (place.Access p) (Access gfn word op) z v h cached same may R K e N = access_rests p z h gfn word op cached same may R K
rests_at (place.Access p) _ z v h cached same may R K e N = absurd K
rests_at p command z v h cached same may R K e N = N

pub hand_rests : (z : Sizes) (v : View) (a : ℕ) → Invariant z v → TopicsInvariant z v → a < actors_of z
    → length (v.hand a).answers < length (v.hand a).lines → Rests (v.hand a)
hand_rests z v a I P there left =
    let h : Held = v.hand a in
    let line : Line = line_at h.state.place h in
    let p : Place = place_at h.state.place h in
    let S = is_step z v a I there left in
    let same : h.state.sizes ≡ z = (I.lines a there).sizes in
    let R = part_rests_at z v a I P there in
    record {
      part = R;
      line = subst (λ (y : Sizes). IsCommandFor y line.actor line.command) (sym same) S.allowed;
      at =
          rests_at p line.command z v h (I.cached a there) same (subst (λ (x : Actor). IsCommandFor z x line.command) S.own S.allowed) R
          (step_knows z v a line line.command p S I) S.holds (needs_at z v a line line.command p S I P);
      accepts =
          subst (λ (y : Sizes). AcceptsAt p line.command y h.slots) (sym same)
          (accepts_at p line.command z (v.words area.Pool) (v.words area.Slots 0) h S.holds);
    }

-- What a line rests on holds where there merely is a world that shows it: each part of it has at most one proof, or can be decided.
pub prop_stays : {A : Type 0} → IsProp A → ∥ A ∥₁ → A
prop_stays prop x = ∥∥₁_elim x prop (λ a. a)

pub either_stays : {A B : Type 0} → A ⊎ (A → ⊥) → (∥ B ∥₁ → B) → ∥ A ⊎ B ∥₁ → A ⊎ B
either_stays (inl a) stays x = inl a
either_stays {A} {B} (inr never) stays x = inr (stays (∥∥₁_map x other))
  where
    other : A ⊎ B → B
    other (inl a) = absurd (never a)
    other (inr b) = b

pub or_not : (a b : ℕ) → (a < b) ⊎ (b ≤ a) → (a < b) ⊎ ((a < b) → ⊥)
or_not a b (inl lt) = inl lt
or_not a b (inr le) = inr (λ lt. absurd (omega (arith, le, lt)))

none_over_stays : (gfn : ℕ) (n : Invalidations) → ∥ (n.count ≡ 0) ⊎ (gfn < n.start) ⊎ (n.end ≤ gfn) ∥₁ → (n.count ≡ 0) ⊎ (gfn < n.start) ⊎ (n.end ≤ gfn)
none_over_stays gfn n x =
    either_stays (same_or n.count 0) (λ y. either_stays (or_not gfn n.start (cases_lt gfn n.start)) (λ b. prop_stays (hlevel props) b) y) x

pub fresh_stays : (gfn : ℕ) (n : Invalidations) → ∥ IsFresh gfn n ∥₁ → IsFresh gfn n
fresh_stays gfn n x = record {
  checked_all = ∥∥₁_elim x (hlevel props) (λ F. F.checked_all);
  still = ∥∥₁_elim x (hlevel props) (λ F. F.still);
  none_over = none_over_stays gfn n (∥∥₁_map x (λ F. F.none_over));
}

pub same_look : {a b : HostLook} → Some a ≡ Some b → a ≡ b
same_look e = cc e

pub same_owned : {a b : OwnedPage} → Some a ≡ Some b → a ≡ b
same_owned e = cc e

pub looked_stays : (gfn : ℕ) (t : Topics) → ∥ LookedUp gfn t ∥₁ → LookedUp gfn t
looked_stays gfn t x =
    let look = by t.host refl in
    record { found = ∥∥₁_elim x (found_prop t) (λ L. L.found); word = look.0; host = look.1 }
  where
    found_prop : (u : Topics) → IsProp (FoundSlot gfn u)
    found_prop u = hlevel props

    by : (o : Option HostLook) → t.host ≡ o → (word : ℕ) × (t.host ≡ Some (record { page = page_of t.search.slot gfn; word = word }))
    by None is = absurd (∥∥₁_elim x (hlevel props) (λ L. let e = L.host in cc (e, is)))
    by (Some look) is =
        looked_at t.host look (page_of t.search.slot gfn) is (∥∥₁_elim x (hlevel props) (λ L. ap (λ (l : HostLook). l.page) (same_look (sym is ∙ L.host))))

enter_stays : (gfn : ℕ) (t : Topics) → ∥ MayEnter gfn t ∥₁ → MayEnter gfn t
enter_stays gfn t x = record {
  shares = ∥∥₁_elim x (hlevel props) (λ M. M.shares);
  section = ∥∥₁_elim x (hlevel props) (λ M. M.section);
  fresh = fresh_stays gfn t.invalidations (∥∥₁_map x (λ M. M.fresh));
  looked_up = looked_stays gfn t (∥∥₁_map x (λ M. M.looked_up));
  present = ∥∥₁_elim x (hlevel props) (λ M. M.present);
  saw = ∥∥₁_elim x (hlevel props) (λ M. M.saw);
  owes_none = ∥∥₁_elim x (hlevel props) (λ M. M.owes_none);
}

link_stays : (gfn : ℕ) (t : Topics) → ∥ MayLink gfn t ∥₁ → MayLink gfn t
link_stays gfn t x = record {
  shares = ∥∥₁_elim x (hlevel props) (λ M. M.shares);
  section = ∥∥₁_elim x (hlevel props) (λ M. M.section);
  saw = ∥∥₁_elim x (hlevel props) (λ M. M.saw);
  owes_none = ∥∥₁_elim x (hlevel props) (λ M. M.owes_none);
  upper = ∥∥₁_elim x (hlevel props) (λ M. M.upper);
  takes = ∥∥₁_elim x (hlevel props) (λ M. M.takes);
  enters = λ none. enter_stays gfn t (∥∥₁_map x (λ M. M.enters none));
}

word_stays : (word : ℕ) (claim : MapClaim) → ∥ GoesOnToWord word claim ∥₁ → GoesOnToWord word claim
word_stays word claim x = either_stays (same_or word 0) (λ y. prop_stays (hlevel props) y) x

vcpu_prop : (actor : Actor) → IsProp (IsVcpu actor)
vcpu_prop (Vcpu n) = hlevel props
vcpu_prop _ = hlevel props

needs_stay : (step : PartStep) (h : Held) → ∥ PartNeeds step h ∥₁ → PartNeeds step h
needs_stay part.Enter h x = (∥∥₁_elim x (vcpu_prop h.state.actor) (λ N. N.0), ∥∥₁_elim x (hlevel props) (λ N. N.1))
needs_stay (part.Map word) h x =
    (∥∥₁_elim x (hlevel props) (λ N. N.0), ∥∥₁_elim x (hlevel props) (λ N. N.1), word_stays word h.topics.claim (∥∥₁_map x (λ N. N.2)))
needs_stay (part.FrameMap word) h x =
    (∥∥₁_elim x (hlevel props) (λ N. N.0), ∥∥₁_elim x (hlevel props) (λ N. N.1), word_stays word h.topics.frames.claim (∥∥₁_map x (λ N. N.2)))
needs_stay (part.Link gfn) h x = (link_stays gfn h.topics (∥∥₁_map x (λ N. N.0)), ∥∥₁_elim x (hlevel props) (λ N. N.1))
needs_stay (part.Leaf gfn write) h x = (
  enter_stays gfn h.topics (∥∥₁_map x (λ N. N.0)),
  ∥∥₁_elim x (hlevel props) (λ N. N.1),
  ∥∥₁_elim x (hlevel props) (λ N. N.2),
  ∥∥₁_elim x (hlevel props) (λ N. N.3),
)
needs_stay (part.Watch index) h x = (
  ∥∥₁_elim x (hlevel props) (λ N. N.0),
  ∥∥₁_elim x (hlevel props) (λ N. N.1),
  either_stays (same_or index (next_watched (own_index h) 0)) (λ y. prop_stays (hlevel props) y) (∥∥₁_map x (λ N. N.2)),
)
needs_stay (part.SetStart first gfn) h x =
    (start_stays first gfn h.topics (∥∥₁_map x (λ N. N.0)), ∥∥₁_elim x (hlevel props) (λ N. N.1), ∥∥₁_elim x (hlevel props) (λ N. N.2))
needs_stay (part.SetEnd last gfn) h x =
    (end_stays last gfn h.topics (∥∥₁_map x (λ N. N.0)), ∥∥₁_elim x (hlevel props) (λ N. N.1), ∥∥₁_elim x (hlevel props) (λ N. N.2))
needs_stay (part.SetCount count) h x = (count_stays count h.topics (∥∥₁_map x (λ N. N.0)), ∥∥₁_elim x (hlevel props) (λ N. N.1))
needs_stay part.ChangeNext h x = next_stays h x
needs_stay _ h x = prop_stays (hlevel (props, on_run_prop)) x

on_stays : (s : Option PartStep) (gfn : ℕ) (write : Bool) (h : Held) → ∥ RestsOn s gfn write h ∥₁ → RestsOn s gfn write h
on_stays None gfn write h x =
    record {
      guest = ∥∥₁_elim x (hlevel props) (λ N. N.guest);
      uses = uses_stays gfn write h (∥∥₁_map x (λ N. N.uses));
      level =
          (∥∥₁_elim x (hlevel props) (λ N. N.level.0), ∥∥₁_elim x (hlevel props) (λ N. N.level.1));
      frame = ∥∥₁_elim x (hlevel props) (λ N. N.frame);
    }
on_stays (Some step) gfn write h x = needs_stay step h x

other_stays : (p : Place) (command : Command) (h : Held) → (RestsAt p command h → ⊥) ⊎ RestsOnPart p command h → ∥ RestsAt p command h ∥₁ → RestsAt p command h
other_stays p command h (inl never) x = absurd (∥∥₁_elim x (hlevel props) never)
other_stays p command h (inr P) x =
    P.rests (needs_stay P.step h (∥∥₁_map x (λ R. (P.needs R).0))) (∥∥₁_elim x P.more_prop (λ R. (P.needs R).1))

at_stays : (p : Place) (command : Command) (h : Held) → ∥ RestsAt p command h ∥₁ → RestsAt p command h
at_stays (place.Access p) (Access gfn word op) h x = on_stays (access_part p gfn h.topics) gfn (is_write op) h x
at_stays (place.Access p) _ h x = prop_stays (hlevel props) x
at_stays p command h x = other_stays p command h (other_rests p command h tt) x

command_prop : (z : Sizes) (actor : Actor) (command : Command) → IsProp (IsCommandFor z actor command)
command_prop z (Vcpu n) (Access gfn word Read) = hlevel props
command_prop z (Vcpu n) (Access gfn word (Write x)) = hlevel props
command_prop z (Vcpu n) (Access gfn word (Add x)) = hlevel props
command_prop z _ (Access gfn word op) = hlevel props
command_prop z (Host n) (ChangeHost page Allow) = hlevel props
command_prop z (Host n) (ChangeHost page Move) = hlevel props
command_prop z (Host n) (ChangeHost page Evict) = hlevel props
command_prop z (Host n) (ChangeHost page Protect) = hlevel props
command_prop z (Host n) (ChangeRun page (Huge level)) = hlevel props
command_prop z (Host n) (ChangeRun page Small) = hlevel props
command_prop z _ _ = hlevel props

pub part_rests_prop : (h : Held) → IsProp (PartRests h)
part_rests_prop h = hlevel props

pub rests_stay : (h : Held) → ∥ Rests h ∥₁ → Rests h
rests_stay h x =
    let line : Line = line_at h.state.place h in
    let p : Place = place_at h.state.place h in
    record {
      part = ∥∥₁_elim x (part_rests_prop h) (λ R. R.part);
      line = ∥∥₁_elim x (command_prop h.state.sizes line.actor line.command) (λ R. R.line);
      at = at_stays p line.command h (∥∥₁_map x (λ R. R.at));
      accepts = ∥∥₁_elim x (accepts_at_prop p line.command h.state.sizes h.slots) (λ R. R.accepts);
    }

-- The word of the next step is one of its area.
touch_within : (z : Sizes) (op : Op) (frame word : ℕ) → frame < z.frames → word < z.words
    → (touch_of op (content_index (map_of z) frame word)).index < size_of (map_of z) (touch_of op (content_index (map_of z) frame word)).area
touch_within z Read frame word a b = content_within (map_of z) frame word a b
touch_within z _ frame word a b = content_within (map_of z) frame word a b

command_word : (z : Sizes) (actor : Actor) (gfn word : ℕ) (op : Op) → IsCommandFor z actor (Access gfn word op) → word < z.words
command_word z (Vcpu n) gfn word op e = e.2
command_word z _ gfn word op e = absurd e

within_by : (actor : Actor) (command : Command) (h : Held) (t : Task) → IsCommandFor h.state.sizes actor command → PartRests h → StepAt command h t
    → t.index < size_of (map_of h.state.sizes) t.area
within_by actor command h _ may R (Makes step note N) = part_within_by step h note N R
within_by actor command h _ may R (Touches gfn word op is N) =
    touch_within h.state.sizes op (frame_used gfn h.state) word N.frame
    (command_word h.state.sizes actor gfn word op (subst (IsCommandFor h.state.sizes actor) is may))

within_at : (p : Place) (actor : Actor) (command : Command) (h : Held) → IsCommandFor h.state.sizes actor command → PartRests h → RestsAt p command h
    → (task_at p command h).index < size_of (map_of h.state.sizes) (task_at p command h).area
within_at p actor command h may R e = within_by actor command h (task_at p command h) may R (step_at p command h e)

pub task_within : (h : Held) → Rests h → (task_of h).index < size_of (map_of h.state.sizes) (task_of h).area
task_within h R = within_at (place_at h.state.place h) (line_at h.state.place h).actor (line_at h.state.place h).command h R.line R.part R.at
