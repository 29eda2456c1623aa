-- A dirty guest frame whose page's bit is set stays dirty, by each step of a line that is alone and publishes no slot set.
use Rattle.std.proofs.Common.{◌≡◌, inr, ◌<◌, ◌≤◌, ◌++◌, [], List, ℕ, refl, sym, subst, ap, ◌∙◌, arith}
use Rattle.std.proofs.lemmas.Bool.{and_from, not_from_false, or_right}
use Rattle.std.specs.Option.{option_map}
use Rattle.std.specs.Prelude.{Bool, true, false, not, ◌==◌, ◌||◌, if◌then◌else◌, Option, Some, None}
use Rattle.core_views.specs.declared.event.EventKind.{EventKind}
use Rattle.core_views.specs.declared.place.AccessPlace.TheVariants as access
use Rattle.core_views.specs.declared.place.FrameRange.{FrameRange}
use Rattle.core_views.specs.declared.place.LogPlace.TheVariants as log
use Rattle.core_views.specs.declared.place.Place.{Place}
use Rattle.core_views.specs.declared.place.Place.TheVariants as place
use Rattle.core_views.specs.declared.place.SlotChangePlace.TheVariants as change
use Rattle.core_views.specs.declared.place.WriteProtectPlace.TheVariants as protect
use Rattle.core_views.specs.declared.sizes.Sizes.{Sizes}
use Rattle.core_views.specs.declared.memory_slot.MemorySlot.{MemorySlot}
use Rattle.core_views.specs.declared.trace.Command.{Command}
use Rattle.core_views.specs.declared.trace.Command.TheVariants.{Access, SetLog}
use Rattle.core_views.specs.declared.trace.Line.{Line}
use Rattle.core_views.specs.declared.trace.Slot.{Slot as SlotOf}
use Rattle.core_views.specs.Events.{after_all}
use Rattle.core_views.specs.Flat.{Facts, Flat}
use Rattle.core_views.specs.Held.{Held}
use Rattle.core_views.specs.LogCommands.{is_among, log_read}
use Rattle.core_views.specs.Past.{FrameSet, has_gfn}
use Rattle.core_views.specs.Slots.{contains}
use Rattle.core_views.specs.SlotSets.{MemorySlots, slot_of_id}
use Rattle.spte_words.specs.declared.area.Area.TheVariants as area
use Rattle.part_steps.specs.ControlBits.{has_to_flush}
use Rattle.part_steps.specs.SlotWords.{page_of, slot_at}
use Rattle.mmu_core.specs.invariant.SlotSetPart.{AreSlots}
use Rattle.mmu_core.specs.declared.write_protect.WriteProtectNext.{WriteProtectNext}
use Rattle.mmu_core.specs.declared.write_protect.WriteProtectNext.TheVariants as protects_next
use Rattle.mmu_core.specs.forms.slot_change.ArmKnows.{AreFramesOf}
use Rattle.mmu_core.specs.lines.Forms.{outcome_at, tells_at}
use Rattle.mmu_core.specs.forms.log.LogSteps.{awaits_last, frames_read, read_more, reads_last, slot_asked}
use Rattle.mmu_core.specs.forms.log.LogTells.{harvested, shown, taken}
use Rattle.mmu_core.specs.forms.slot_change.SlotChangeTells.{arming, protect_tells}
use Rattle.mmu_core.specs.forms.slot_change.SlotTargets.{log_target, slot_or_none}
use Rattle.mmu_core.specs.orders.WriteProtectSteps.{protect_next}
use Rattle.mmu_core.specs.machine.Steps.{task_at}
use Rattle.mmu_core.specs.machine.View.{View, answer_in}
use Rattle.mmu_core.proofs.lines.KnowsKept.{step_knows}
use Rattle.mmu_core.proofs.forms.slot_change.SlotChangeKept.{record_of}
use Rattle.log_invariant.specs.Covered.{is_marked}
use Rattle.log_invariant.proofs.HeldLogs.{IsLoggedNow}
use Rattle.log_invariant.proofs.StepPlaces.{publishes}
use Rattle.log_invariant.specs.forms.slot_change.LogBegins.{begun_at}
use Rattle.mmu_laws.proofs.forms.log.ReadKept.{had_taken, known, logged}
use Rattle.mmu_laws.proofs.forms.log.AskedPages.{read_inside}
use Rattle.mmu_laws.proofs.forms.log.LoneReadingSteps.{StepsAlone}
use Rattle.mmu_laws.proofs.alone.ToldFlat.{AreHarmless, harmless_append, harmless_pending, quiet_harmless, step_facts}
use Rattle.mmu_laws.proofs.flat.BeginningsKept.{stands_at}
use Rattle.mmu_laws.proofs.flat.FlatKept.{told_events}
use Rattle.mmu_laws.proofs.forms.log.HarvestFrames.{among_read}
use Rattle.mmu_laws.proofs.forms.access.PageFound.{contains_bounds}
use Rattle.mmu_laws.proofs.EachForm.{tells_quiet}
use Rattle.mmu_laws.proofs.flat.Told.{facts_behind}
use Rattle.mmu_core.proofs.forms.log.ReadingPlaces.{reading_is}
use Rattle.mmu_core.specs.forms.log.Readings.{reading_at}

-- One published slot alone has a guest frame.
pub one_slot : (z : Sizes) (v : View) (i j gfn : ℕ) (s t : SlotOf) → AreSlots z (v.words area.Pool) (v.words area.Slots 0) → IsLoggedNow v i s
    → IsLoggedNow v j t → contains gfn s ≡ true → contains gfn t ≡ true → (i ≡ j) × (s ≡ t)
one_slot z v i j gfn s t A L M has too = (same, sym L.live.is ∙ ap (slot_at (v.words area.Pool) (v.words area.Slots 0)) same ∙ M.live.is)
  where
    same : i ≡ j
    same =
        A.guest_apart gfn i j L.live.low M.live.low L.live.live M.live.live (ap (contains gfn) L.live.is ∙ has) (ap (contains gfn) M.live.is ∙ too)

-- The page of the guest frame has its bit set in the log of a published slot, and the frame is dirty.
pub record IsDirtyPage (v : View) (f : Flat) (gfn : ℕ) : Type 0 where
  pub id : ℕ
  pub slot : SlotOf
  pub logged : IsLoggedNow v id slot
  pub has : contains gfn slot ≡ true
  pub marked : is_marked (v.words area.Log) (page_of slot gfn) ≡ true
  pub pending : f.facts.pending gfn ≡ true

-- It is dirty after these events.
abbrev pub StaysPending : Flat → ℕ → List EventKind → Type 0
StaysPending f gfn kinds = (facts_behind kinds f.facts).pending gfn ≡ true

harmless_stay : (f : Flat) (gfn : ℕ) (kinds : List EventKind) → AreHarmless kinds → f.facts.pending gfn ≡ true → StaysPending f gfn kinds
harmless_stay f gfn kinds are is = ap (λ (s : FrameSet). s gfn) (harmless_pending kinds f.facts are) ∙ is

-- ---- what is read out of the log has no bit set

module _ (z : Sizes) (v : View) (f : Flat) (a gfn : ℕ) (line : Line) (p : Place) (command : Command) (X : StepsAlone z v f a line p)
    (at : reading_at p line.command (v.hand a) ≡ Some (record { place = log.Await; command = command })) (D : IsDirtyPage v f gfn) where
  abbrev h : Held
  h = v.hand a

  abbrev frames : List ℕ
  frames = frames_read (slot_asked h command) command h.harvest

  not_taken : is_among gfn frames ≡ false
  not_taken = by (is_among gfn frames) refl
    where
      by : (b : Bool) → is_among gfn frames ≡ b → b ≡ false
      by false is = refl
      by true is =
          let K = known z v f a line p log.Await command X at in
          let L = logged z v f a line p log.Await command X at K.2.0 in
          let R = among_read (slot_asked h command) command h.harvest gfn is in
          let has = read_inside (slot_asked h command) command h.harvest gfn L.inside R in
          let same = one_slot z v D.id L.id gfn D.slot (slot_asked h command) X.ready.holds.set_part.slots D.logged L.logged D.has has in
          let clear = had_taken z v f a line p log.Await command X at gfn refl R in
          let set = ap (λ (s : SlotOf). is_marked (v.words area.Log) (page_of s gfn)) (sym same.1) ∙ D.marked in
          absurd (cc (clear, set))

  harvest_stays : (o : Option ℕ) → StaysPending f gfn (harvested o frames)
  harvest_stays None = D.pending
  harvest_stays (Some id) = and_from (not (is_among gfn frames)) (f.facts.pending gfn) (not_from_false (is_among gfn frames) not_taken) D.pending

  pub await_stays : StaysPending f gfn (tells_at p line.command h (answer_in (task_at p line.command h) v.words))
  await_stays =
      subst (StaysPending f gfn) (sym ((reading_is p line.command h _ at).tells x refl)) (by (has_to_flush x || not (awaits_last h)))
    where
      x : ℕ
      x = answer_in (task_at p line.command h) v.words

      by : (b : Bool) → StaysPending f gfn (if b then [] else harvested (log_read command) frames)
      by true = D.pending
      by false = harvest_stays (log_read command)

-- ---- where a log begins with no page dirty, none of its pages was

module _ (z : Sizes) (v : View) (f : Flat) (a gfn : ℕ) (line : Line) (range : FrameRange)
    (X : StepsAlone z v f a line (place.SlotChange (change.WriteProtect range protect.Await))) (is : f.facts.pending gfn ≡ true) where
  abbrev p : Place
  p = place.SlotChange (change.WriteProtect range protect.Await)

  abbrev own : Held
  own = v.hand a

  -- Its slot would be armed, and the line is to begin its log.
  not_beginning : (range.start ≤ gfn) × (gfn < range.end) → ⊥
  not_beginning among =
      let D = X.ready.logs.dirty gfn is in
      let A = X.ready.logs.armed D.id D.is_armed in
      let slot_is : D.slot ≡ A.slot = sym D.logged.live.is ∙ A.logged.live.is in
      let T = stands_at z v a line line.command p X.step refl in
      A.begun a gfn X.step.there (subst (λ (s : SlotOf). contains gfn s ≡ true) slot_is D.has)
      (inr (subst (λ q. (begun_at q own.topics).Has gfn) (sym T.at) among))

  same_slots : f.facts.slots ≡ own.slots
  same_slots = X.ready.flat.refines.slots ∙ sym (record_of z v a line line.command (change.WriteProtect range protect.Await) X.step X.ready.holds).same

  -- The frames of the slot that is to be armed are those to which it has forbidden writes.
  of_range : (id : ℕ) → line.command ≡ SetLog id true → has_gfn (slot_of_id id f.facts.slots) gfn ≡ true → (range.start ≤ gfn) × (gfn < range.end)
  of_range id said has = by (slot_of_id id own.slots) refl (sym (ap (λ (o : MemorySlots). has_gfn (slot_of_id id o) gfn) same_slots) ∙ has)
    where
      frames : AreFramesOf (log_target own (SetLog id true)) range
      frames = subst (λ c. AreFramesOf (log_target own c) range) said (step_knows z v a line line.command p X.step X.ready.holds).1.5

      by : (o : Option MemorySlot) → slot_of_id id own.slots ≡ o → has_gfn o gfn ≡ true → (range.start ≤ gfn) × (gfn < range.end)
      by None there inside = absurd (cc inside)
      by (Some m) there inside =
          let target : log_target own (SetLog id true) ≡ m.slot = ap (λ (o : Option MemorySlot). slot_or_none (option_map (λ was. was.slot) o)) there in
          let F = subst (λ (s : SlotOf). AreFramesOf s range) target frames in
          let B = contains_bounds gfn m.slot inside in
          let from = B.0 in let to = B.1 in let start = F.0 in let end = F.1 in
          (omega (arith, from, start), omega (arith, to, end))

  armed_stays : (c : Command) → line.command ≡ c → StaysPending f gfn (arming false c)
  armed_stays (SetLog id true) said = by (has_gfn (slot_of_id id f.facts.slots) gfn) refl
    where
      by : (b : Bool) → has_gfn (slot_of_id id f.facts.slots) gfn ≡ b → (if b then false else f.facts.pending gfn) ≡ true
      by true inside = absurd (not_beginning (of_range id said inside))
      by false outside = is
  armed_stays (SetLog id false) said = is
  armed_stays _ said = is

  pub protect_stays : (n : WriteProtectNext) → StaysPending f gfn (protect_tells n line.command)
  protect_stays (protects_next.Goes q) = is
  protect_stays protects_next.Over = armed_stays line.command refl

-- ---- each step

touch_stays : (f : Flat) (gfn : ℕ) (command : Command) (h : Held) (x : ℕ) → f.facts.pending gfn ≡ true
    → StaysPending f gfn (tells_at (place.Access access.Touch) command h x)
touch_stays f gfn (Access at word op) h x is = or_right _ (f.facts.pending gfn) is
touch_stays f gfn _ h x is = is

taken_harmless : (o : Option ℕ) → AreHarmless (taken o)
taken_harmless None = tt
taken_harmless (Some id) = (tt, tt)

shown_harmless : (o : Option ℕ) (gfns : List ℕ) → AreHarmless (shown o gfns)
shown_harmless None gfns = tt
shown_harmless (Some id) gfns = (tt, tt)

begins_harmless : (b : Bool) (o : Option ℕ) → AreHarmless (if b then taken o else [])
begins_harmless true o = taken_harmless o
begins_harmless false o = tt

peek_harmless : (begun last : Bool) (o : Option ℕ) (gfns : List ℕ)
    → AreHarmless ((if begun then [] else taken o) ++ (if last then shown o gfns else []))
peek_harmless true true o gfns = shown_harmless o gfns
peek_harmless true false o gfns = tt
peek_harmless false true o gfns = harmless_append (taken o) (shown o gfns) (taken_harmless o) (shown_harmless o gfns)
peek_harmless false false o gfns = harmless_append (taken o) [] (taken_harmless o) tt

module _ (z : Sizes) (v : View) (f : Flat) (a gfn : ℕ) (line : Line) (D : IsDirtyPage v f gfn) where
  abbrev Tells : Place → List EventKind
  Tells p = tells_at p line.command (v.hand a) (answer_in (task_at p line.command (v.hand a)) v.words)

  told_stays : (p : Place) → StepsAlone z v f a line p → publishes p ≡ false → StaysPending f gfn (Tells p)
  told_stays (place.Access access.Touch) X never =
      touch_stays f gfn line.command (v.hand a) (answer_in (task_at (place.Access access.Touch) line.command (v.hand a)) v.words) D.pending
  told_stays (place.SlotChange change.Publish) X never = absurd (cc never)
  told_stays (place.SlotChange (change.WriteProtect range protect.Await)) X never =
      protect_stays z v f a gfn line range X D.pending
      (protect_next protect.Await (v.hand a).state.sizes range (v.hand a).topics
      (answer_in (task_at (place.SlotChange (change.WriteProtect range protect.Await)) line.command (v.hand a)) v.words))
  told_stays (place.Log log.Await) X never = await_stays z v f a gfn line (place.Log log.Await) line.command X refl D
  told_stays (place.Log log.Exclude) X never =
      harmless_stay f gfn (Tells (place.Log log.Exclude)) (begins_harmless (answer_in (task_at (place.Log log.Exclude) line.command (v.hand a)) v.words == 0)
      (log_read line.command)) D.pending
  told_stays (place.Log (log.Peek begun)) X never =
      harmless_stay f gfn (Tells (place.Log (log.Peek begun)))
      (peek_harmless begun (reads_last begun (slot_asked (v.hand a) line.command) line.command (v.hand a).topics) (log_read line.command)
      (frames_read (slot_asked (v.hand a) line.command) line.command
      (read_more begun (slot_asked (v.hand a) line.command) line.command (v.hand a)
      (answer_in (task_at (place.Log (log.Peek begun)) line.command (v.hand a)) v.words)))) D.pending
  told_stays p X never =
      harmless_stay f gfn (Tells p) (quiet_harmless (Tells p)
      (tells_quiet p line.command (v.hand a) (answer_in (task_at p line.command (v.hand a)) v.words) refl refl)) D.pending

  -- It is dirty after the step.
  pub dirty_stays : (p : Place) → StepsAlone z v f a line p → publishes p ≡ false
      → (after_all (told_events v a line line.command p) f).facts.pending gfn ≡ true
  dirty_stays p X never =
      ap (λ (y : Facts). y.pending gfn) (step_facts (v.hand a).state.actor (v.hand a).state.place line (Tells p)
      (outcome_at p line.command (v.hand a) (answer_in (task_at p line.command (v.hand a)) v.words)) f) ∙ told_stays p X never
