-- What a step of a line leaves guarded: what was so before it, but for what it passes as it forbids writes; the slot whose log it begins; and a new leaf.
use Rattle.core_views.specs.Held.{Held}
use Rattle.core_views.specs.LogCommands.{is_all_set}
use Rattle.core_views.specs.Sizes.{actors_of}
use Rattle.core_views.specs.Slots.{contains}
use Rattle.core_views.specs.declared.place.Place.TheVariants as place
use Rattle.core_views.specs.declared.place.Place.{Place}
use Rattle.core_views.specs.declared.sizes.Sizes.{Sizes}
use Rattle.core_views.specs.declared.topics.TableWalk.{TableWalk}
use Rattle.core_views.specs.declared.topics.Topics.{Topics}
use Rattle.core_views.specs.declared.trace.Command.{Command}
use Rattle.core_views.specs.declared.trace.Line.{Line}
use Rattle.core_views.specs.declared.trace.Slot.{Slot as SlotOf}
use Rattle.log_invariant.proofs.CoveredKept.{AllGuarded, IsGuardedNow, PublishesLog, covered_kept, guarded_kept, logged_before}
use Rattle.log_invariant.proofs.HeldLogs.{IsLoggedNow, SomeLogIsUnwatched, found_is_logged}
use Rattle.log_invariant.proofs.LeafClaims.{LeavesAre, OfNewWrites, leaves_weaker, part_leaves, touch_leaves}
use Rattle.log_invariant.proofs.LogsBegun.{AllSetNow, begun_guarded}
use Rattle.log_invariant.proofs.OpeningSlot.{one_slot, opening_is, opening_over}
use Rattle.log_invariant.proofs.OwnExcuse.{AllowsAt, PassesAt}
use Rattle.log_invariant.proofs.StepExcuses.{own_excuse}
use Rattle.log_invariant.proofs.forms.log.PassedFrames.{topics_made}
use Rattle.log_invariant.proofs.forms.log.ReadingExcuses.{taken_forbids}
use Rattle.log_invariant.proofs.StepPlaces.{Makes, StepAt, Touches, of_hand, step_at, takes, takes_bits}
use Rattle.log_invariant.specs.Excuses.{ExcusesLeaf}
use Rattle.log_invariant.specs.LogInvariant.{LogInvariant}
use Rattle.log_invariant.specs.forms.log.LogReads.{HasTakenOut}
use Rattle.mmu_core.proofs.held.OwedKept.{mark_owed}
use Rattle.mmu_core.proofs.invariant.Kept.{makes_at}
use Rattle.mmu_core.proofs.invariant.QuietKept.{MakesAt}
use Rattle.mmu_core.proofs.forms.access.AccessParts.{AreSmall}
use Rattle.mmu_core.proofs.held.WalkSpans.{one_frame}
use Rattle.mmu_core.proofs.pages.PutLeaves.{run_holds}
use Rattle.mmu_core.proofs.words.RunPlaces.{run_has}
use Rattle.mmu_core.proofs.forms.access.LeafKnown.{logged_told}
use Rattle.mmu_core.proofs.machine.Columns.{same_or, upd_other, upd_same}
use Rattle.mmu_core.proofs.machine.PartStepping.{is_publish}
use Rattle.mmu_core.proofs.machine.Stepping.{IsStep}
use Rattle.mmu_core.specs.invariant.Invariant.{Invariant}
use Rattle.mmu_core.specs.invariant.TopicsInvariant.{TopicsInvariant}
use Rattle.mmu_core.specs.lines.Forms.{first_place, part_at}
use Rattle.mmu_core.specs.lines.PartAt.{task_at}
use Rattle.mmu_core.specs.machine.View.{View, answer_in, hand_after, stepped, words_after}
use Rattle.part_steps.specs.PartHoldings.{FoundSlot, IsOver, MayFix}
use Rattle.part_steps.specs.RunHoldings.{MapsRun}
use Rattle.part_steps.specs.PartTasks.{entry_index, leaf_fixed, leaf_written}
use Rattle.part_steps.specs.PartTopics.{exchanged}
use Rattle.part_steps.specs.declared.part_step.PartStep.TheVariants as part
use Rattle.part_steps.specs.declared.part_step.PartStep.{PartStep}
use Rattle.part_steps.specs.declared.task.Task.{Task}
use Rattle.spte_words.specs.Entries.{can_write}
use Rattle.spte_words.specs.declared.area.Area.TheVariants as area
use Rattle.spte_words.proofs.ProtectedEntries.{leaf_level}
use Rattle.mmu_core.specs.invariant.CachedPart.{IsLeafFor}
use Rattle.mmu_core.specs.invariant.RunsPart.{IsInRun}
use Rattle.std.proofs.Common.{◌<◌, ◌≤◌, ◌∙◌, ◌≡◌, ◌≢◌, ◌⊎◌, ap, arith, inl, inr, refl, subst, sym, ℕ}
use Rattle.std.proofs.lemmas.Bool.{cases_lt}
use Rattle.std.proofs.lemmas.Bool.Decides.{nat_tests}
use Rattle.std.specs.Prelude.{◌==◌, Bool, Some, false, true}

-- What the part of the invariant on leaves says of a view.
abbrev pub LeavesNow : Sizes → View → Type 0
LeavesNow z v = LeavesAre z v.words (AllGuarded z v ExcusesLeaf)

-- what a hand excuses after a step, or is passed with the step of this place, made by the actor of this hand, with this walk after it
abbrev pub ExcusedOrPassed : Place → Command → Held → TableWalk → Held → ℕ → Type 0
ExcusedOrPassed p command before after h gfn = ExcusesLeaf h gfn ⊎ PassesAt p command before after gfn

module _ (z : Sizes) (v : View) (a : ℕ) (line : Line) (command : Command) (p : Place) (small : AreSmall v) (S : IsStep z v a line command p)
    (I : Invariant z v) (P : TopicsInvariant z v) (G : LogInvariant z v) (all_marked : AllSetNow z (stepped a line command p v)) where
  abbrev h : Held
  h = v.hand a

  abbrev x : ℕ
  x = answer_in (task_at p command h) v.words

  abbrev g : Held
  g = hand_after line command p h x

  abbrev w : View
  w = stepped a line command p v

  here : w.hand a ≡ g
  here = upd_same v.hand a g

  abbrev After : Held → ℕ → Type 0
  After = ExcusedOrPassed p command h g.topics.walk

  own_guards : (gfn : ℕ) (slot : SlotOf) → After g gfn → IsGuardedNow z w After slot gfn
  own_guards gfn slot excuse = inr (a, S.there, subst (λ k. After k gfn) (sym here) excuse)

  -- ---- the actor's own excuse

  -- It is one of the place where the step is made.
  at_place : (gfn : ℕ) → ExcusesLeaf h gfn → AllowsAt p command h gfn
  at_place gfn = of_hand z v a line command p S (λ q c. AllowsAt q c h gfn) (λ sizes slots c. none (first_place sizes slots c) c)
    where
      none : (q : Place) (c : Command) → AllowsAt place.Between h.state.line.command h gfn → AllowsAt q c h gfn
      none q c (inl O) = absurd O.0
      none q c (inr W) = absurd W.0

  makes : MakesAt z v a p command
  makes = makes_at z v a line command p small S I P

  excuse_after : (gfn : ℕ) → ExcusesLeaf h gfn → After g gfn
  excuse_after gfn excuse =
      subst (λ c. AllowsAt g.state.place c g gfn ⊎ PassesAt p command h g.topics.walk gfn) (sym S.command_is)
      (own_excuse z v a line command p S I makes gfn (at_place gfn excuse))

  -- So does what it takes with it.
  taken_after : (gfn : ℕ) → takes p command h ≡ true → HasTakenOut (w.hand a) gfn → After (w.hand a) gfn
  taken_after gfn is T = inl (inr (taken_forbids p v a line command gfn is S.command_is T))

  -- So what a hand excused before the step is guarded after it.
  excused : (j gfn : ℕ) (slot : SlotOf) → j < actors_of z → ExcusesLeaf (v.hand j) gfn → IsGuardedNow z w After slot gfn
  excused j gfn slot lt excuse = by (same_or j a)
    where
      by : (j ≡ a) ⊎ (j ≢ a) → IsGuardedNow z w After slot gfn
      by (inl e) = own_guards gfn slot (excuse_after gfn (subst (λ i. ExcusesLeaf (v.hand i) gfn) e excuse))
      by (inr ne) = inr (j, lt, subst (λ k. After k gfn) (sym (upd_other v.hand a j g ne)) (inl excuse))

  kept : (gfn : ℕ) → AllGuarded z v ExcusesLeaf gfn → AllGuarded z w After gfn
  kept gfn =
      guarded_kept z v a line command p small S I P G gfn ExcusesLeaf After (record {
        others = λ j lt ne excuse. inl excuse;
        own = λ id slot logged holds excuse. own_guards gfn slot (excuse_after gfn excuse);
      })
      (taken_after gfn)
      (λ slot B holds. begun_guarded z v a line command p S I After gfn slot (λ k opens clean. inl (inl (opens, clean))) all_marked B holds)

  -- ---- a new leaf

  -- What was said of leaves before the step is so of them, as far as they stay.
  before : LeavesAre z v.words (AllGuarded z w After)
  before = leaves_weaker z v.words (AllGuarded z v ExcusesLeaf) (AllGuarded z w After) kept G.leaves

  -- Where the log of a slot is opening, a write in it was excused, or its page is dirty.
  opening_guards : ((step : PartStep) → part_at p command h ≡ Some step → takes_bits step ≡ false) → (gfn id : ℕ) (slot : SlotOf) → IsLoggedNow v id slot
      → contains gfn slot ≡ true → SomeLogIsUnwatched z v gfn → IsGuardedNow z w After slot gfn
  opening_guards keeps gfn id slot logged holds O = by (is_all_set (v.hand O.0).state.sizes.mode) refl
    where
      by : (b : Bool) → is_all_set (v.hand O.0).state.sizes.mode ≡ b → IsGuardedNow z w After slot gfn
      by false clean = excused O.0 gfn slot O.1 (inl (O.2, clean))
      by true dirty =
          inl (covered_kept z v a line command p small S I P G keeps id gfn slot logged holds
          (inl (G.all_marked O.0 gfn slot O.1 (ap (λ (y : Sizes). is_all_set y.mode) (sym (I.lines O.0 O.1).sizes) ∙ dirty) O.2
          (opening_is z v O.0 gfn id slot I O.1 O.2 logged.live holds))))

  -- The exchange leaves a mark owed, where the search has found the log.
  new_guards : (gfn : ℕ) → FoundSlot gfn h.topics → (h.topics.search.logged ≡ true → g.topics.owed ≡ Some gfn)
      → ((slot : SlotOf) → PublishesLog v a command p slot → ⊥) → ((step : PartStep) → part_at p command h ≡ Some step → takes_bits step ≡ false)
      → AllGuarded z w After gfn
  new_guards gfn found owes publishes_none keeps id slot logged holds = by (logged_before z v a line command p small S I P id slot logged)
    where
      found_it : IsLoggedNow v id slot → ((h.topics.search.slot ≡ slot) × (h.topics.search.logged ≡ true)) ⊎ SomeLogIsUnwatched z v gfn
          → IsGuardedNow z w After slot gfn
      found_it was (inl both) = inl (inr (a, S.there, ap (λ (k : Held). k.topics.owed) here ∙ owes both.1))
      found_it was (inr O) = opening_guards keeps gfn id slot was holds O

      by : IsLoggedNow v id slot ⊎ PublishesLog v a command p slot → IsGuardedNow z w After slot gfn
      by (inl was) = found_it was (found_is_logged z v a gfn id slot S.there I P G found was holds)
      by (inr B) = absurd (publishes_none slot B)

  owes : (gfn new_ found : ℕ) → h.topics.walk.level ≡ 1 → IsOver gfn h.topics.walk → found ≡ h.topics.walk.entry → can_write new_ ≡ true
      → g.topics ≡ exchanged (found == h.topics.walk.entry) (entry_index gfn h.topics.walk.level) new_ h.topics found → h.topics.search.logged ≡ true
      → g.topics.owed ≡ Some gfn
  owes gfn new_ found lowest over won writes is logged =
      ap (λ (t : Topics). t.owed) is
      ∙ mark_owed (found == h.topics.walk.entry) h.topics.search.logged h.topics.walk gfn new_ h.topics.owed (grind (arith, nat_tests)) logged lowest over
      writes

  -- The leaf that the actor has loaded last is the one that slots and host give the guest frame.
  abbrev IsGiven : ℕ → Type 0
  IsGiven other = IsLeafFor (v.words area.Pool) (v.words area.Host) (v.words area.Slots 0) h.topics.walk.level other h.topics.walk.entry

  -- A slot that has a guest frame of the leaf in which a fast fault has allowed writes has the fault's frame, too.
  same_slot : (gfn other id : ℕ) (slot : SlotOf) → MayFix gfn h.topics → IsInRun h.topics.walk.level gfn other → IsGiven other
      → IsLoggedNow v id slot → contains other slot ≡ true → contains gfn slot ≡ true
  same_slot gfn other id slot M in_run L logged holds =
      subst (λ s. contains gfn s ≡ true) same (run_has L.slot other gfn h.topics.walk.level M.saw.over.there most L.run (sym in_run))
    where
      walk : TableWalk
      walk = h.topics.walk

      most : walk.level ≤ 4
      most = let low = leaf_level walk.level walk.entry M.leaf in omega (arith, low)

      same : L.slot ≡ slot
      same = one_slot z v other L.id id L.slot slot I L.live logged.live L.holds holds

  -- So where the slot has a dirty log the mark that it owes covers the leaf.
  fix_guards : (gfn other : ℕ) → MayFix gfn h.topics → IsInRun h.topics.walk.level gfn other → IsGiven other
      → (h.topics.search.logged ≡ true → g.topics.owed ≡ Some gfn) → ((slot : SlotOf) → PublishesLog v a command p slot → ⊥)
      → ((step : PartStep) → part_at p command h ≡ Some step → takes_bits step ≡ false) → AllGuarded z w After other
  fix_guards gfn other M in_run given owes publishes_none keeps id slot logged holds = by (logged_before z v a line command p small S I P id slot logged)
    where
      found_it : IsLoggedNow v id slot → contains gfn slot ≡ true
          → ((h.topics.search.slot ≡ slot) × (h.topics.search.logged ≡ true)) ⊎ SomeLogIsUnwatched z v gfn → IsGuardedNow z w After slot other
      found_it was near (inl both) =
          let lowest : h.topics.walk.level ≡ 1 = logged_told h.topics.walk.level h.topics.search.logged M.told both.1 in
          let same : gfn ≡ other = sym (one_frame h.topics.walk.level other gfn lowest in_run) in
          inl (inr (a, S.there, ap (λ (k : Held). k.topics.owed) here ∙ (owes both.1 ∙ ap Some same)))
      found_it was near (inr O) =
          opening_guards keeps other id slot was holds (O.0, O.1, opening_over z v O.0 gfn other id slot I O.1 O.2 was.live near holds)

      by : IsLoggedNow v id slot ⊎ PublishesLog v a command p slot → IsGuardedNow z w After slot other
      by (inl was) =
          let near = same_slot gfn other id slot M in_run given was holds in
          found_it was near (found_is_logged z v a gfn id slot S.there I P G M.found was near)
      by (inr B) = absurd (publishes_none slot B)

  -- In a slot with a dirty log a leaf is put at the lowest level.
  lowest_logged : (gfn : ℕ) (t : Topics) → IsOver gfn t.walk → MapsRun gfn t → t.search.logged ≡ true → t.walk.level ≡ 1
  lowest_logged gfn t over R logged = by (cases_lt 1 t.walk.level)
    where
      by : (1 < t.walk.level) ⊎ (t.walk.level ≤ 1) → t.walk.level ≡ 1
      by (inl above) = absurd (let none = R.no_log (omega (arith, above)) in cc (none, logged))
      by (inr lowest) = let from = over.there in omega (arith, lowest, from)

  publishes_none : (step : PartStep) → part_at p command h ≡ Some step → is_publish step ≡ false → (slot : SlotOf) → PublishesLog v a command p slot → ⊥
  publishes_none step is never slot B =
      let at = ap (λ q. part_at q command h) B.at in
      let same : step ≡ part.Publish = cc (is, at) in
      let publishes = ap is_publish same in cc (publishes, never)

  takes_none : (step : PartStep) → part_at p command h ≡ Some step → takes_bits step ≡ false → (s : PartStep) → part_at p command h ≡ Some s
      → takes_bits s ≡ false
  takes_none step is never s at = let same : s ≡ step = cc (is, at) in ap takes_bits same ∙ never

  pub new_writes : (step : PartStep) → part_at p command h ≡ Some step → OfNewWrites step h.topics v (AllGuarded z w After)
  new_writes (part.Leaf gfn write) is = λ won writes other in_run.
      let M = makes (part.Leaf gfn write) is in
      let found : FoundSlot other h.topics =
      record { whole = M.needs.0.looked_up.found.whole; holds = run_holds gfn other h.topics M.needs.0 M.needs.1 in_run } in
      new_guards other found
      (λ logged.
      let lowest : h.topics.walk.level ≡ 1 = lowest_logged gfn h.topics M.needs.0.saw.over M.needs.1 logged in
      let same : gfn ≡ other = sym (one_frame h.topics.walk.level other gfn lowest in_run) in
      owes gfn (leaf_written gfn write h.topics) _ lowest M.needs.0.saw.over won writes (topics_made v a line command p _ is M.needs) logged ∙ ap Some same)
      (publishes_none (part.Leaf gfn write) is refl) (takes_none (part.Leaf gfn write) is refl)
  new_writes (part.Fix gfn) is = λ won writes other in_run given id slot logged holds.
      let M = makes (part.Fix gfn) is in
      fix_guards gfn other M.needs in_run given
      (λ told. owes gfn (leaf_fixed h.topics) _ (logged_told h.topics.walk.level h.topics.search.logged M.needs.told told) M.needs.saw.over won writes
      (topics_made v a line command p _ is M.needs) told)
      (publishes_none (part.Fix gfn) is refl) (takes_none (part.Fix gfn) is refl) id slot logged holds
  new_writes _ is = tt

  -- ---- all leaves

  all_by : (task : Task) → StepAt z v a (part_at p command h) task → LeavesAre z (words_after task v.words) (AllGuarded z w After)
  all_by _ (Makes step note is M) = part_leaves z v a step note M P (AllGuarded z w After) (new_writes step is) before
  all_by _ (Touches op index none) = touch_leaves z v.words op index (AllGuarded z w After) before

  -- Each leaf that allows writes is guarded after it, or its guest frame is passed.
  pub guarded_or_passed : LeavesAre z (stepped a line command p v).words (AllGuarded z (stepped a line command p v) (ExcusedOrPassed p command (v.hand a)
      (hand_after line command p (v.hand a) (answer_in (task_at p command (v.hand a)) v.words)).topics.walk))
  guarded_or_passed = all_by (task_at p command h) (step_at z v a line command p small S I P)
