-- A line that changes a slot makes steps that it may make: it has what each needs, says of it what is to be said, and knows after it what its next place asks.
use Rattle.core_views.specs.Sizes.{actors_of}
use Rattle.part_steps.specs.declared.invalidations.Target.TheVariants as aim
use Rattle.part_steps.specs.declared.part_step.PartStep.{PartStep}
use Rattle.part_steps.specs.declared.part_step.PartStep.TheVariants as part
use Rattle.part_steps.specs.SetHoldings.{own_open}
use Rattle.mmu_core.specs.orders.ClaimSteps.{Pages}
use Rattle.mmu_core.specs.orders.InvalidateKnows.{BeginKnows, IsFlushedOut}
use Rattle.mmu_core.specs.orders.InvalidateSteps.{begin_part}
use Rattle.mmu_core.specs.forms.slot_change.SlotChangeKnows.{ArmsSlot, Fits, IsInLog}
use Rattle.mmu_core.specs.machine.Sums.{one_if}
use Rattle.mmu_core.proofs.forms.access.AccessParts.{AreSmall}
use Rattle.mmu_core.proofs.orders.ClaimMade.{claim_is}
use Rattle.mmu_core.proofs.forms.host.HostMakes.{closes_own, slots_apart}
use Rattle.mmu_core.proofs.lines.Raised.{few_raised}
use Rattle.mmu_core.proofs.machine.SumsBelow.{sum_ge}
use Rattle.core_views.specs.declared.topics.Invalidated.{Invalidated}
use Rattle.core_views.specs.declared.topics.Topics.{Topics}
use Rattle.std.proofs.lemmas.Bool.Decides.{nat_tests}
use Rattle.std.proofs.Common.{◌≡◌, ◌<◌, ◌≤◌, ◌⊎◌, inl, inr, ℕ, refl, sym, subst, ap, ◌∙◌, arith}
use Rattle.std.specs.Prelude.{Bool, true, false, [], ◌∷◌, is_none, ◌&&◌, not, nat_le, nat_lt, Option, Some, None, is_some}
use Rattle.core_views.specs.declared.place.BeginPlace.{BeginPlace}
use Rattle.core_views.specs.declared.place.BeginPlace.TheVariants as begins
use Rattle.core_views.specs.declared.place.EndPlace.TheVariants as ends
use Rattle.core_views.specs.declared.place.Place.TheVariants as place
use Rattle.core_views.specs.declared.place.SlotChangePlace.{SlotChangePlace}
use Rattle.core_views.specs.declared.place.SlotChangePlace.TheVariants.{Claim, Role, Begin, Publish, End, WriteProtect}
use Rattle.core_views.specs.declared.sizes.Sizes.{Sizes}
use Rattle.core_views.specs.declared.trace.Command.{Command}
use Rattle.core_views.specs.declared.trace.Line.{Line}
use Rattle.core_views.specs.declared.trace.Slot.{Slot}
use Rattle.core_views.specs.Held.{Held}
use Rattle.core_views.specs.SlotCommands.{arms, change_at_once, changes_slot, slot_armed, slot_invalidated}
use Rattle.core_views.specs.declared.answer.Refusal.TheVariants.{Logged, Missing}
use Rattle.core_views.specs.declared.place.FrameRange.{FrameRange}
use Rattle.core_views.specs.declared.place.WriteProtectPlace.{WriteProtectPlace}
use Rattle.core_views.specs.declared.place.WriteProtectPlace.TheVariants as protect
use Rattle.core_views.specs.declared.memory_slot.MemorySlot.{MemorySlot}
use Rattle.core_views.specs.declared.trace.Command.TheVariants.{Access, ChangeHost, ChangeRun, ClearLog, DeleteSlot, GetLog, Migrate, SetLog, SetSlot, Split}
use Rattle.core_views.specs.Refusals.{is_logged, log_refusal}
use Rattle.core_views.specs.Slots.{first_of, is_some_and}
use Rattle.core_views.specs.SlotSets.{slot_of_id}
use Rattle.core_views.proofs.SlotChanges.{logged_there, none_refused}
use Rattle.part_steps.specs.LogHoldings.{is_in_log, log_begin, log_end}
use Rattle.mmu_core.specs.invariant.Invariant.{IsLiveIn, RecordPart}
use Rattle.mmu_core.specs.orders.WriteProtectSteps.{protect_part}
use Rattle.std.specs.Option.{option_map}
use Rattle.spte_words.specs.declared.area.Area.TheVariants as area
use Rattle.part_steps.specs.PartTasks.{page_owned, words_filled}
use Rattle.mmu_core.specs.forms.slot_change.SlotChangeSteps.{slot_change_part, slot_change_task, slot_or_none, slot_target}
use Rattle.mmu_core.specs.invariant.TopicsInvariant.{TopicsInvariant}
use Rattle.mmu_core.specs.machine.View.{View, answer_in}
use Rattle.mmu_core.proofs.slots.Changes.{Publishes, armed_fits, change_is_managers, change_small, invalidated_fits}
use Rattle.mmu_core.proofs.slots.Changes.{recorded_fits, some_slot}
use Rattle.mmu_core.proofs.words.SmallSlots.{has_page, record_is_so}
use Rattle.mmu_core.proofs.slots.LogsApart.{logs_apart}
use Rattle.mmu_core.proofs.machine.PartStepping.{AreApart, Replaces}
use Rattle.mmu_core.proofs.invariant.PartBounded.{part_rests_at}
use Rattle.part_steps.specs.PartSteps.{PartNeeds}
use Rattle.mmu_core.specs.invariant.Invariant.{Invariant}
use Rattle.mmu_core.proofs.lines.EitherPlace.{either_place}
use Rattle.mmu_core.proofs.lines.KnowsKept.{step_knows, step_leaves}
use Rattle.mmu_core.proofs.machine.Stepping.{IsStep}
use Rattle.mmu_core.proofs.forms.slot_change.SlotChangeKnown.{WordsSay}
use Rattle.mmu_core.proofs.forms.slot_change.SlotChangeNeeds.{slot_change_needs}
use Rattle.mmu_core.proofs.forms.slot_change.SlotChangeKept.{change_published, record_of}
use Rattle.mmu_core.proofs.slots.MadeWay.{way_live}

-- A slot set that is published has each slot of the one before it, or that is moved, and flushed out.
change_replaced : (z : Sizes) (v : View) (a : ℕ) (line : Line) (command : Command) → IsStep z v a line command (place.SlotChange Publish) → Invariant z v
    → Replaces z part.Publish (v.words area.Pool) (v.words area.Slots 0) (v.hand a).topics
change_replaced z v a line command S I = record {
  old = I.set_part.slots;
  stay = λ id slot live. by slot (new_set.stay id slot live);
  changed = new_set.changed;
  others = new_set.others;
}
  where
    h : Held
    h = v.hand a

    new_set : Publishes z (v.words area.Pool) (v.words area.Slots 0) (page_owned h.topics.owned) command h.slots
    new_set = change_published z v a line command S I

    flushed : (slot : Slot) → slot_invalidated h.slots command ≡ Some slot → IsFlushedOut z.vcpus slot h.topics
    flushed slot is =
        subst (λ (y : Sizes). IsFlushedOut y.vcpus slot h.topics) (I.lines a S.there).sizes
        ((step_knows z v a line command (place.SlotChange Publish) S I).1.2.flushed slot is)

    by : {A : Type 0} (slot : Slot) → A ⊎ (slot_invalidated h.slots command ≡ Some slot) → A ⊎ IsFlushedOut z.vcpus slot h.topics
    by slot (inl stays) = inl stays
    by slot (inr moves) = inr (flushed slot moves)

-- One more invalidation may be counted, and the sequence number is small, where a step of an invalidation is to say so.
module _ (z : Sizes) (v : View) (a : ℕ) (t : Topics) where
  abbrev Says : PartStep → Type 0
  Says step = Replaces z step (v.words area.Pool) (v.words area.Slots 0) t

  begin_replaces : (p : BeginPlace) (slot : Slot) → AreApart (v.words area.Pool) (v.words area.Slots 0)
      → (id : ℕ) × IsLiveIn (v.words area.Pool) (v.words area.Slots 0) id slot → BeginKnows p z (aim.Slot slot) t → Says (begin_part p (aim.Slot slot) t)
  begin_replaces (begins.Find begun) slot apart L K = either_place Says begun part.Slot part.Slots tt tt
  begin_replaces (begins.Walk rooted) slot apart L K = either_place Says rooted (part.Sweep _) part.Root tt tt
  begin_replaces begins.SetCount slot apart L K = record {
    apart = apart;
    of_slot = λ closed of_none. record {
      id = L.0;
      slot = slot;
      live = L.1;
      start = ap (λ (n : Invalidated). n.start) K.2;
      end_ = ap (λ (n : Invalidated). n.end) K.2;
    };
  }
  begin_replaces _ slot apart L K = tt

  protect_replaces : (p : WriteProtectPlace) (range : FrameRange) → Says (protect_part p range t)
  protect_replaces (protect.Walk rooted) range = either_place Says rooted (part.Sweep _) part.Root tt tt
  protect_replaces _ range = tt

pub change_replaces : (z : Sizes) (v : View) (a : ℕ) (line : Line) (p : SlotChangePlace) (command : Command) → AreSmall v
    → IsStep z v a line command (place.SlotChange p) → Invariant z v → TopicsInvariant z v
    → Replaces z (slot_change_part p (v.hand a) command) (v.words area.Pool) (v.words area.Slots 0) (v.hand a).topics
change_replaces z v a line Publish command small S I P = change_replaced z v a line command S I
change_replaces z v a line (Claim begun) command small S I P =
    claim_is (Says z v a (v.hand a).topics) Pages begun (v.hand a).topics.claim tt (λ word. tt)
change_replaces z v a line (Begin p) command small S I P =
    let K = (step_knows z v a line command (place.SlotChange (Begin p)) S I).1 in
    begin_replaces z v a (v.hand a).topics p (slot_or_none (slot_invalidated (v.hand a).slots command))
    (slots_apart z (v.words area.Slots 0) (v.words area.Role) (v.words area.Pool) I.set_part)
    (way_live (v.words area.Pool) (v.words area.Slots 0) (v.hand a).slots command (record_of z v a line command (Begin p) S I) K.2)
    (subst (λ (y : Sizes). BeginKnows p y (slot_target (v.hand a) command) (v.hand a).topics) (I.lines a S.there).sizes K.1)
change_replaces z v a line (WriteProtect range p) command small S I P = protect_replaces z v a (v.hand a).topics p range
change_replaces z v a line (End ends.SetCount) command small S I P =
    closes_own (v.words area.Pool) (v.words area.Slots 0) (v.hand a).topics
    (slots_apart z (v.words area.Slots 0) (v.words area.Role) (v.words area.Pool) I.set_part)
    (step_knows z v a line command (place.SlotChange (End ends.SetCount)) S I).1.0.0.is
change_replaces z v a line (End ends.SetSeq) command small S I P =
    let K = (step_knows z v a line command (place.SlotChange (End ends.SetSeq)) S I).1.0 in few_raised z v a small P S.there K.0.alone.alone K.1
change_replaces z v a line (End _) command small S I P = tt
change_replaces z v a line _ command small S I P = tt

-- ---- what it knows after its step, and what its step needs

-- An actor's own invalidation is among those that are counted.
own_counted : (z : Sizes) (v : View) (a : ℕ) → TopicsInvariant z v → a < actors_of z → own_open (v.hand a).topics.invalidations ≤ v.words area.Count 0
own_counted z v a P there =
    let one = sum_ge (actors_of z) (λ i. one_if (v.hand i).topics.invalidations.opened) a there in
    let count = P.counts in
    omega (arith, one, count)

-- A line that is to begin a slot's dirty log has something to do, so the slot is there and has none.
arms_slot : (z : Sizes) (v : View) (a : ℕ) (line : Line) (command : Command) → IsStep z v a line command (place.SlotChange Role) → Invariant z v
    → is_some (slot_armed (v.hand a).slots command) ≡ true
    → ArmsSlot (v.hand a).state.actor (v.hand a).state.sizes command (v.hand a).slots
arms_slot z v a line command S I some = by command refl some
  where
    h : Held
    h = v.hand a

    R : RecordPart (v.words area.Pool) (v.words area.Slots 0) h.slots
    R = record_of z v a line command Role S I

    changes : changes_slot command ≡ true
    changes = (step_knows z v a line command (place.SlotChange Role) S I).0

    Arms : Command → Type 0
    Arms c = ArmsSlot h.state.actor h.state.sizes c h.slots

    same_some : {x y : MemorySlot} → Some x ≡ Some y → x ≡ y
    same_some e = cc e

    -- the slot at the ID
    of_slot : (id : ℕ) (was : MemorySlot) → slot_of_id id h.slots ≡ Some was → was.logged ≡ false → Arms (SetLog id true)
    of_slot id was at none =
        let same : slot_or_none (slot_armed h.slots (SetLog id true)) ≡ was.slot =
        ap (λ (o : Option MemorySlot). slot_or_none (option_map (λ m. m.slot) o)) at in
        record {
          manager = sym S.own ∙ change_is_managers z line.actor command changes S.allowed;
          arms = refl;
          there = ap (λ (o : Option MemorySlot). is_some (option_map (λ m. m.slot) o)) at;
          fits =
              subst (λ s. Fits h.state.sizes s) (sym same) (subst (λ (y : Sizes). Fits y was.slot) (sym (I.lines a S.there).sizes)
              (recorded_fits z (v.words area.Pool) (v.words area.Slots 0) id h.slots was R I.set_part.slots at));
          some =
              subst (λ s. 1 ≤ s.pages) (sym same)
              (record_is_so (λ s. 1 ≤ s.pages) has_page z h.lines h.slots (I.lines a S.there).allowed (I.lines a S.there).set id was at);
          unlogged = λ word in_log.
              some_slot (λ m. not m.logged && is_in_log word m.slot) h.slots id was at
              (of_word was word none (subst (λ s. IsInLog s word) same in_log));
          of_no_log = λ word in_log other m there has.
              logs_apart z (v.words area.Pool) (v.words area.Slots 0) h.lines h.slots R I.set_part.slots (I.lines a S.there).allowed (I.lines a S.there).set
              id other was m (λ e. one_log was m none has (same_slot id other was m e at there)) at there word (subst (λ s. IsInLog s word) same in_log);
        }
      where
        same_slot : (i j : ℕ) (m n : MemorySlot) → i ≡ j → slot_of_id i h.slots ≡ Some m → slot_of_id j h.slots ≡ Some n → m ≡ n
        same_slot i j m n e here there = same_some (sym here ∙ ap (λ k. slot_of_id k h.slots) e ∙ there)

        one_log : (m n : MemorySlot) → m.logged ≡ false → n.logged ≡ true → m ≡ n → ⊥
        one_log m n none has e = let s = ap (λ (o : MemorySlot). o.logged) e in cc (none, has, s)

        of_word : (m : MemorySlot) (word : ℕ) → m.logged ≡ false → IsInLog m.slot word
            → (not m.logged && is_in_log word m.slot) ≡ true
        of_word m word none in_log =
            let from : nat_le (log_begin m.slot) word ≡ true = let le = in_log.0 in grind (arith, nat_tests) in
            let to : nat_lt word (log_end m.slot) ≡ true = let lt = in_log.1 in grind (arith, nat_tests) in
            rw (none, from, to) refl

    at_id : (id : ℕ) (m : Option MemorySlot) → slot_of_id id h.slots ≡ m → command ≡ SetLog id true → is_some (option_map (λ was. was.slot) m) ≡ true
        → Arms (SetLog id true)
    at_id id None at is some = absurd (cc some)
    at_id id (Some was) at is some = of_slot id was at (unlogged was.logged refl)
      where
        accepted : log_refusal true id h.slots ≡ None
        accepted = none_refused z (SetLog id true) h.slots (subst (λ c. change_at_once z c h.slots ≡ None) is S.holds.works)

        unlogged : (b : Bool) → was.logged ≡ b → was.logged ≡ false
        unlogged false no_log = no_log
        unlogged true has =
            let logged : is_logged id h.slots ≡ true = ap (is_some_and (λ m. m.logged)) at ∙ has in
            let there : is_none (slot_of_id id h.slots) ≡ false = ap (λ (o : Option MemorySlot). is_none o) at in
            let refused : log_refusal true id h.slots ≡ Some Logged =
            ap (λ (b : Bool). first_of ((b, Missing) ∷ (is_logged id h.slots, Logged) ∷ [])) there
            ∙ ap (λ (b : Bool). first_of ((false, Missing) ∷ (b, Logged) ∷ [])) logged in
            absurd (cc (refused, accepted))

    by : (c : Command) → command ≡ c → is_some (slot_armed h.slots c) ≡ true → Arms command
    by (SetLog id true) is some = subst Arms (sym is) (at_id id (slot_of_id id h.slots) refl is some)
    by (SetLog id false) is some = absurd (cc some)
    by (Access gfn word op) is some = absurd (cc some)
    by (ChangeHost page change) is some = absurd (cc some)
    by (ChangeRun page change) is some = absurd (cc some)
    by (SetSlot id new_) is some = absurd (cc some)
    by (DeleteSlot id) is some = absurd (cc some)
    by (GetLog id) is some = absurd (cc some)
    by (Migrate call) is some = absurd (cc some)
    by (Split gfn) is some = absurd (cc some)
    by (ClearLog id first count words) is some = absurd (cc some)

armed_there : (z : Sizes) (v : View) (a : ℕ) (line : Line) (command : Command) → IsStep z v a line command (place.SlotChange Role) → Invariant z v
    → arms command ≡ true → is_some (slot_armed (v.hand a).slots command) ≡ true
armed_there z v a line command S I is = by command refl is
  where
    by : (c : Command) → command ≡ c → arms c ≡ true → is_some (slot_armed (v.hand a).slots command) ≡ true
    by (SetLog id true) at is =
        let works : change_at_once z (SetLog id true) (v.hand a).slots ≡ None = subst (λ c. change_at_once z c (v.hand a).slots ≡ None) at S.holds.works in
        let there = logged_there id true (v.hand a).slots (none_refused z (SetLog id true) (v.hand a).slots works) in
        ap (λ c. is_some (slot_armed (v.hand a).slots c)) at ∙ ap (λ (o : Option MemorySlot). is_some (option_map (λ m. m.slot) o)) there.is
    by (SetLog id false) at is = absurd (cc is)
    by (Access gfn word op) at is = absurd (cc is)
    by (ChangeHost page change) at is = absurd (cc is)
    by (ChangeRun page change) at is = absurd (cc is)
    by (SetSlot id new_) at is = absurd (cc is)
    by (DeleteSlot id) at is = absurd (cc is)
    by (GetLog id) at is = absurd (cc is)
    by (Migrate call) at is = absurd (cc is)
    by (Split gfn) at is = absurd (cc is)
    by (ClearLog id first count words) at is = absurd (cc is)

-- So the words say to the line what it doesn't know itself.
pub change_said : (z : Sizes) (v : View) (a : ℕ) (line : Line) (p : SlotChangePlace) (command : Command) → IsStep z v a line command (place.SlotChange p)
    → Invariant z v → TopicsInvariant z v → WordsSay p command (v.hand a) (answer_in (slot_change_task p (v.hand a) command) v.words)
change_said z v a line p command S I P = record {
  fits = λ slot is.
      subst (λ (y : Sizes). Fits y slot) (sym (I.lines a S.there).sizes)
      (invalidated_fits z (v.words area.Pool) (v.words area.Slots 0) (v.hand a).slots command slot (record_of z v a line command p S I) I.set_part.slots is);
  counted = λ is.
      subst (λ q. own_open (v.hand a).topics.invalidations ≤ answer_in (slot_change_task q (v.hand a) command) v.words) (sym is)
      (own_counted z v a P S.there);
  armed = λ slot is.
      subst (λ (y : Sizes). Fits y slot × (1 ≤ slot.pages)) (sym (I.lines a S.there).sizes)
      (armed_fits z (v.words area.Pool) (v.words area.Slots 0) (v.hand a).lines (v.hand a).slots command slot (record_of z v a line command p S I)
      I.set_part.slots (I.lines a S.there).allowed (I.lines a S.there).set is);
  there = λ is. armed_there z v a line command (subst (λ q. IsStep z v a line command (place.SlotChange q)) is S) I;
  arms_slot = λ is some. arms_slot z v a line command (subst (λ q. IsStep z v a line command (place.SlotChange q)) is S) I some;
}

-- Its step has what it needs.
pub change_needs : (z : Sizes) (v : View) (a : ℕ) (line : Line) (p : SlotChangePlace) (command : Command)
    → IsStep z v a line command (place.SlotChange p) → Invariant z v → TopicsInvariant z v
    → PartNeeds (slot_change_part p (v.hand a) command) (v.hand a)
change_needs z v a line p command S I P =
    let h : Held = v.hand a in
    let K = step_knows z v a line command (place.SlotChange p) S I in
    slot_change_needs p h command
    (change_small z h.lines line.actor command h.slots K.0 S.allowed (I.lines a S.there).allowed (I.lines a S.there).set (words_filled h.topics.owned))
    (part_rests_at z v a I P S.there) K.1 (step_leaves z v a line command (place.SlotChange p) S I)
