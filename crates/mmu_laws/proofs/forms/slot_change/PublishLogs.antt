-- The publication of a slot set, for the dirty logs of flat memory.
use Rattle.std.proofs.Common.{◌≡◌, ◌≢◌, ◌⊎◌, inl, inr, ◌<◌, ◌/◌, ◌%◌, ◌++◌, List, [], ◌∷◌, ℕ, refl, sym, subst, ap, ◌∙◌}
use Rattle.std.proofs.lemmas.Nat.Bits.{bit_at-zero}
use Rattle.std.specs.Prelude.{Bool, true, false, ◌==◌, if◌then◌else◌, Option, Some}
use Rattle.core_views.specs.declared.actor.Actor.TheVariants.{Manager}
use Rattle.core_views.specs.declared.event.Event.{Event}
use Rattle.core_views.specs.declared.event.EventKind.{EventKind}
use Rattle.core_views.specs.declared.event.EventKind.TheVariants.{Armed, SlotChanged}
use Rattle.core_views.specs.declared.place.Place.{Place}
use Rattle.core_views.specs.declared.place.Place.TheVariants as place
use Rattle.core_views.specs.declared.place.SlotChangePlace.TheVariants as change
use Rattle.core_views.specs.declared.sizes.Sizes.{Sizes}
use Rattle.core_views.specs.declared.memory_slot.MemorySlot.{MemorySlot}
use Rattle.core_views.specs.declared.trace.Command.{Command}
use Rattle.core_views.specs.declared.trace.Command.TheVariants.{SetLog}
use Rattle.core_views.specs.declared.trace.Line.{Line}
use Rattle.core_views.specs.declared.trace.Slot.{Slot as SlotOf}
use Rattle.core_views.specs.Events.{after_all}
use Rattle.core_views.specs.Flat.{Flat}
use Rattle.core_views.specs.Held.{Held}
use Rattle.core_views.specs.LogCommands.{is_all_set}
use Rattle.core_views.specs.Sizes.{actors_of}
use Rattle.core_views.specs.SlotCommands.{arms, slot_armed, slots_after}
use Rattle.core_views.specs.Slots.{contains}
use Rattle.core_views.specs.SlotSets.{MemorySlots}
use Rattle.spte_words.specs.Bits.{has_bit}
use Rattle.spte_words.specs.declared.area.Area.TheVariants as area
use Rattle.part_steps.specs.LogHoldings.{log_end}
use Rattle.part_steps.specs.PartTasks.{page_owned}
use Rattle.part_steps.specs.SlotWords.{page_of}
use Rattle.mmu_core.specs.invariant.Invariant.{Invariant, KnowsPart, RecordPart}
use Rattle.mmu_core.specs.invariant.TopicsInvariant.{TopicsInvariant}
use Rattle.mmu_core.specs.forms.slot_change.ArmKnows.{IsInLog}
use Rattle.mmu_core.specs.forms.slot_change.SlotChangeTells.{arming, changed}
use Rattle.mmu_core.specs.forms.slot_change.SlotTargets.{arm_bits, log_target, slot_or_none}
use Rattle.mmu_core.specs.machine.Steps.{task_at}
use Rattle.mmu_core.specs.machine.View.{View, answer_in, hand_after, stepped}
use Rattle.mmu_core.proofs.held.FreshFrames.{behind_it}
use Rattle.mmu_core.proofs.forms.access.AccessParts.{AreSmall}
use Rattle.mmu_core.proofs.lines.KnowsKept.{step_knows}
use Rattle.mmu_core.proofs.machine.Columns.{at_upd, upd_same}
use Rattle.mmu_core.proofs.machine.ColumnsTell.{some_is}
use Rattle.mmu_core.proofs.machine.Stepping.{IsStep}
use Rattle.mmu_core.proofs.slots.Changes.{change_is_managers}
use Rattle.mmu_core.proofs.forms.slot_change.SlotChangeKept.{change_published, record_of}
use Rattle.log_invariant.specs.Covered.{IsCovered, IsLoggedIn, is_marked}
use Rattle.log_invariant.specs.forms.slot_change.LogBegins.{LogIsUnwatched}
use Rattle.log_invariant.specs.LogInvariant.{LogInvariant, HasArmedWordsAt}
use Rattle.log_invariant.proofs.ArmBits.{word_of_page}
use Rattle.log_invariant.proofs.LogRecords.{ArmedAt, armed_at}
use Rattle.log_invariant.proofs.PublishedLogs.{armed_stays, logged_recorded, recorded_logged}
use Rattle.log_invariant.proofs.WordsApart.{live_aligned}
use Rattle.mmu_laws.specs.flat.FlatInvariant.{FlatInvariant}
use Rattle.mmu_laws.specs.flat.FlatLogs.{FlatLogs, IsArmedIn, IsBeginning, IsCoveredOrTaken}
use Rattle.mmu_laws.proofs.flat.BeginningsKept.{StandsAt, beginning_is, stands_at, told_later}
use Rattle.mmu_laws.proofs.flat.ChangedSlots.{BeginsThen, ChangeOf, change_of, changed_logs, set_logs}
use Rattle.mmu_laws.proofs.flat.FlatKept.{told_events, told_kinds}
use Rattle.mmu_laws.proofs.forms.log.TakenStays.{cover_stays, taken_stays}
use Rattle.mmu_laws.proofs.flat.Told.{told}

-- A line that begins the log of a slot gives it.
armed_arms : (command : Command) (slots : MemorySlots) (s : SlotOf) → slot_armed slots command ≡ Some s → arms command ≡ true
armed_arms (SetLog id true) slots s is = refl
armed_arms _ slots s is = absurd (cc is)

module _ (z : Sizes) (v : View) (a : ℕ) (line : Line) (command : Command) (small : AreSmall v)
    (S : IsStep z v a line command (place.SlotChange change.Publish)) (I : Invariant z v) (P : TopicsInvariant z v) (G : LogInvariant z v) where
  abbrev p : Place
  p = place.SlotChange change.Publish

  abbrev h : Held
  h = v.hand a

  abbrev x : ℕ
  x = answer_in (task_at p command h) v.words

  abbrev behind : View
  behind = stepped a line command p v

  abbrev pool : ℕ → ℕ
  pool = v.words area.Pool

  abbrev set : ℕ
  set = v.words area.Slots 0

  abbrev log : ℕ → ℕ
  log = v.words area.Log

  abbrev page : ℕ
  page = page_owned h.topics.owned

  abbrev next : MemorySlots
  next = slots_after command h.slots

  K : KnowsPart p command h
  K = step_knows z v a line command p S I

  pub R : RecordPart pool set h.slots
  R = record_of z v a line command change.Publish S I

  pub N : RecordPart pool page next
  N = record { same = (change_published z v a line command S I).list }

  pub C : ChangeOf h.slots command
  C = change_of z command h.slots K.0 S.holds.works

  manager : h.state.actor ≡ Manager
  manager = sym S.own ∙ change_is_managers z line.actor command K.0 S.allowed

  -- It opens the log that it begins.
  armed_next : (c : Command) → line.command ≡ c → slot_armed (slots_after c h.slots) line.command ≡ slot_armed h.slots c
  armed_next c is = ap (slot_armed (slots_after c h.slots)) is ∙ armed_stays h.slots c

  begins : (j gfn : ℕ) → j < actors_of z → IsBeginning (behind.hand j) gfn → BeginsThen v.hand h.slots command j gfn
  begins j gfn lt = at_upd (λ i g. IsBeginning g gfn → BeginsThen v.hand h.slots command i gfn) v.hand a (hand_after line command p h x) own
      (λ i apart B. inl B) j
    where
      own : IsBeginning (hand_after line command p h x) gfn → BeginsThen v.hand h.slots command a gfn
      own (inl o) = inr (o.0.1, sym (armed_next command S.command_is) ∙ o.0.2, o.0.3)
      own (inr f) = absurd f

  covers : (gfn i : ℕ) (slot : SlotOf) → IsLoggedIn pool set i slot → contains gfn slot ≡ true
      → IsCoveredOrTaken (actors_of z) log v.hand slot gfn → IsCoveredOrTaken (actors_of z) log behind.hand slot gfn
  covers gfn i slot M has covered =
      cover_stays z v a line command p S gfn small I P G i slot M has (taken_stays z v a line command p S gfn refl) covered

  -- ---- where no page is dirty as a log begins, no bit of it is set

  words_set : HasArmedWordsAt p command h log
  words_set =
      let T : StandsAt h line command p = stands_at z v a line command p S refl in
      subst (λ c. HasArmedWordsAt p c h log) T.command_is (subst (λ q. HasArmedWordsAt q h.state.line.command h log) T.at (G.armed_words a S.there))

  zero_words : is_all_set h.state.sizes.mode ≡ false → (gfn : ℕ) (slot : SlotOf) → slot_armed h.slots command ≡ Some slot → contains gfn slot ≡ true
      → log (page_of slot gfn / 64) ≡ 0
  zero_words clean gfn slot begun has =
      words_set on (page_of slot gfn / 64) (subst (λ s. IsInLog s (page_of slot gfn / 64)) (sym target) in_log)
      (subst (λ s. page_of slot gfn / 64 < log_end s) (sym target) in_log.1)
      ∙ ap (λ b. arm_bits b (log_target h command) (page_of slot gfn / 64)) clean
    where
      on : arms command ≡ true
      on = armed_arms command h.slots slot begun

      T : ArmedAt pool set command h.slots
      T = armed_at z pool set command h.slots R on S.holds.works

      one : {s t : SlotOf} → Some s ≡ Some t → s ≡ t
      one e = cc e

      in_log : IsInLog slot (page_of slot gfn / 64)
      in_log =
          word_of_page (page_of slot gfn) slot
          (subst (λ (s : SlotOf). s.host % 64 ≡ 0) (one (sym T.is ∙ begun)) (live_aligned z v a I S.there manager T.id T.slot T.live))
          (behind_it slot gfn has).0

      target : log_target h command ≡ slot
      target = ap slot_or_none begun

  pub none_set : (is_all_set h.state.sizes.mode ≡ false) ⊎ (arms command ≡ false) → (gfn : ℕ) (slot : SlotOf) → IsLoggedIn pool page C.id slot
      → contains gfn slot ≡ true → is_marked log (page_of slot gfn) ≡ true → ⊥
  none_set not_both gfn slot M has marked = by not_both
    where
      begun : slot_armed h.slots command ≡ Some slot
      begun = C.begins slot (sym C.here ∙ logged_recorded pool page C.id next slot N M)

      by : (is_all_set h.state.sizes.mode ≡ false) ⊎ (arms command ≡ false) → ⊥
      by (inl clean) =
          let none = ap (has_bit (page_of slot gfn % 64)) (zero_words clean gfn slot begun has)
          ∙ ap (λ b. b == 1) (bit_at-zero (page_of slot gfn % 64)) in cc (none, marked)
      by (inr off) = let on = armed_arms command h.slots slot begun in cc (off, on)

  -- ---- where each page is dirty, the log begins with the publication

  module _ (H : LogInvariant z behind) (all : is_all_set h.state.sizes.mode ≡ true) (on : arms command ≡ true) where
    begun : (s : SlotOf) × (slot_armed h.slots command ≡ Some s)
    begun = some_is (slot_armed h.slots command) (K.1.3 on)

    -- No line is to begin it.
    none_left : (j gfn : ℕ) → j < actors_of z → IsBeginning (behind.hand j) gfn → ⊥
    none_left j gfn lt =
        at_upd (λ i g. i < actors_of z → IsBeginning g gfn → ⊥) v.hand a (hand_after line command p h x) (λ here. own) others j lt
      where
        own : IsBeginning (hand_after line command p h x) gfn → ⊥
        own (inl o) = let clean = o.1 in cc (clean, all)
        own (inr f) = f

        others : (i : ℕ) → i ≢ a → i < actors_of z → IsBeginning (v.hand i) gfn → ⊥
        others i apart there B = apart (beginning_is z v a i gfn I S.there manager there B)

    armed_now : IsArmedIn (actors_of z) pool page behind.hand C.id
    armed_now = record {
      slot = begun.0;
      logged = recorded_logged pool page C.id next begun.0 N (C.here ∙ C.begun begun.0 begun.1);
      begun = λ j gfn lt has B. none_left j gfn lt B;
    }

    all_covered : (gfn : ℕ) → contains gfn begun.0 ≡ true → IsCovered (actors_of z) log (λ k. (behind.hand k).topics) begun.0 gfn
    all_covered gfn has =
        inl (H.all_marked a gfn begun.0 S.there (ap (λ (y : Sizes). is_all_set y.mode) (sym (I.lines a S.there).sizes) ∙ all)
        (subst (λ (g : Held). LogIsUnwatched g gfn) (sym is) (refl, begun.0, opened, has))
        (subst (λ (g : Held). slot_armed g.slots g.state.line.command ≡ Some begun.0) (sym is) opened))
      where
        is : behind.hand a ≡ hand_after line command p h x
        is = upd_same v.hand a (hand_after line command p h x)

        opened : slot_armed (slots_after command h.slots) line.command ≡ Some begun.0
        opened = armed_next command S.command_is ∙ begun.1

  -- ---- both

  pub kinds_are : told_kinds v a line command p
      ≡ SlotChanged C.id C.slot ∷ ((if is_all_set h.state.sizes.mode then (if arms command then Armed C.id true ∷ [] else []) else []) ++ [])
  kinds_are =
      ap (λ (c : Option (ℕ × Option MemorySlot)). (changed c ++ (if is_all_set h.state.sizes.mode then arming true command else [])) ++ []) C.is
      ∙ ap (λ (es : List EventKind). SlotChanged C.id C.slot ∷ ((if is_all_set h.state.sizes.mode then es else []) ++ [])) C.tells

  -- The logs of flat memory after the publication.
  pub publish_logs : (f : Flat) → Invariant z behind → LogInvariant z behind → FlatInvariant z v f → FlatLogs z v f
      → FlatLogs z behind (after_all (told_events v a line command p) f)
  unfolding armed_now
  publish_logs f kept H F L =
      subst (λ (es : List Event). FlatLogs z behind (after_all es f))
      (sym (told_later z v a line command p S refl ∙ ap (told h.state.actor) kinds_are))
      (by (is_all_set h.state.sizes.mode) refl (arms command) refl)
    where
      same : f.facts.slots ≡ h.slots
      same = F.refines.slots ∙ sym R.same

      clean : (is_all_set h.state.sizes.mode ≡ false) ⊎ (arms command ≡ false)
          → FlatLogs z behind (after_all (told h.state.actor (SlotChanged C.id C.slot ∷ [])) f)
      clean not_both =
          changed_logs z (actors_of z) log pool set page v.hand behind.hand f h.state.actor command h.slots C same R N I.set_part.slots kept.set_part.slots L
          begins covers (none_set not_both)

      by : (all : Bool) → is_all_set h.state.sizes.mode ≡ all → (on : Bool) → arms command ≡ on
          → FlatLogs z behind (after_all (told h.state.actor
          (SlotChanged C.id C.slot ∷ ((if all then (if on then Armed C.id true ∷ [] else []) else []) ++ []))) f)
      by false none on is = clean (inl none)
      by true all false off = clean (inr off)
      by true all true on =
          set_logs z (actors_of z) log pool set page v.hand behind.hand f h.state.actor command h.slots C same R N I.set_part.slots kept.set_part.slots L
          begins covers (armed_now H all on) (all_covered H all on)
