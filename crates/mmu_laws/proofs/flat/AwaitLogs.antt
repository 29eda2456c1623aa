-- The last look of a line that forbids writes: the log of its slot begins with it, with no frame dirty, and no line is to begin it any more.
use Rattle.std.proofs.Common.{◌≡◌, ◌⊎◌, inl, inr, ◌<◌, ◌++◌, List, [], ℕ, refl, sym, subst, ap, ◌∙◌}
use Rattle.std.proofs.lemmas.Bool.{eqb-true, or_cases, or_right}
use Rattle.std.specs.Prelude.{Bool, true, false, ◌==◌, ◌||◌, ◌&&◌, if◌then◌else◌, Option, Some, None}
use Rattle.core_views.specs.declared.actor.Actor.{Actor}
use Rattle.core_views.specs.declared.actor.Actor.TheVariants.{Manager}
use Rattle.core_views.specs.declared.event.Event.{Event}
use Rattle.core_views.specs.declared.event.EventKind.TheVariants.{Armed}
use Rattle.core_views.specs.declared.place.FrameRange.{FrameRange}
use Rattle.core_views.specs.declared.place.Place.{Place}
use Rattle.core_views.specs.declared.place.Place.TheVariants as place
use Rattle.core_views.specs.declared.place.SlotChangePlace.TheVariants as change
use Rattle.core_views.specs.declared.place.WriteProtectPlace.TheVariants as protect
use Rattle.core_views.specs.declared.sizes.Sizes.{Sizes}
use Rattle.core_views.specs.declared.memory_slot.MemorySlot.{MemorySlot}
use Rattle.core_views.specs.declared.trace.Command.{Command}
use Rattle.core_views.specs.declared.trace.Command.TheVariants.{SetLog}
use Rattle.core_views.specs.declared.trace.Line.{Line}
use Rattle.core_views.specs.Events.{after, after_all}
use Rattle.core_views.specs.Flat.{Flat}
use Rattle.core_views.specs.Held.{Held}
use Rattle.core_views.specs.Past.{has_gfn}
use Rattle.core_views.specs.Refusals.{is_logged}
use Rattle.core_views.specs.Sizes.{actors_of}
use Rattle.core_views.specs.Slots.{is_some_and}
use Rattle.core_views.specs.SlotSets.{slot_of_id}
use Rattle.flat_laws.proofs.Caused.{AreCaused}
use Rattle.flat_laws.proofs.Writes.{AreOfLines}
use Rattle.spte_words.specs.declared.area.Area.TheVariants as area
use Rattle.mmu_core.specs.declared.write_protect.WriteProtectNext.{WriteProtectNext}
use Rattle.mmu_core.specs.declared.write_protect.WriteProtectNext.TheVariants as protects_next
use Rattle.mmu_core.specs.invariant.Invariant.{Invariant}
use Rattle.mmu_core.specs.invariant.TopicsInvariant.{TopicsInvariant}
use Rattle.mmu_core.specs.forms.slot_change.SlotChangeSteps.{after_protect}
use Rattle.mmu_core.specs.forms.slot_change.SlotChangeTells.{arming, protect_tells}
use Rattle.mmu_core.specs.orders.WriteProtectSteps.{protect_next}
use Rattle.mmu_core.specs.machine.Steps.{task_at}
use Rattle.mmu_core.specs.machine.View.{View, answer_in, hand_after, stepped}
use Rattle.mmu_core.proofs.forms.access.AccessParts.{AreSmall}
use Rattle.mmu_core.proofs.lines.KnowsKept.{step_knows}
use Rattle.mmu_core.proofs.machine.Columns.{upd_same}
use Rattle.mmu_core.proofs.machine.Stepping.{IsStep}
use Rattle.mmu_core.proofs.slots.Changes.{change_is_managers}
use Rattle.mmu_core.proofs.forms.slot_change.SlotChangeKept.{record_of}
use Rattle.log_invariant.specs.LogInvariant.{LogInvariant}
use Rattle.log_invariant.proofs.PublishedLogs.{HasLog, recorded_logged}
use Rattle.mmu_laws.specs.flat.FlatInvariant.{FlatInvariant}
use Rattle.mmu_laws.specs.flat.FlatLogs.{FlatLogs, FlatLogsOf, IsArmedIn, IsBeginning, IsDirtyIn}
use Rattle.mmu_laws.proofs.flat.BeginningsKept.{beginning_before, beginning_is, told_later}
use Rattle.mmu_laws.proofs.flat.FlatKept.{told_events}
use Rattle.mmu_laws.specs.forms.slot_change.GivenLogs.{HasGiven, LogsGiven}
use Rattle.mmu_laws.proofs.forms.slot_change.GivenLogs.{given_here}
use Rattle.mmu_laws.proofs.flat.LogBeginnings.{none_begins}
use Rattle.mmu_laws.proofs.flat.LogsStill.{logged_still, logs_still}
use Rattle.mmu_laws.proofs.flat.Told.{told}

-- ---- the event

-- A log begins with no frame dirty.
clean_armed : (n : ℕ) (log pool : ℕ → ℕ) (slots : ℕ) (hand : ℕ → Held) (f : Flat) (actor : Actor) (id : ℕ) → FlatLogsOf n log pool slots hand f
    → IsArmedIn n pool slots hand id → FlatLogsOf n log pool slots hand (after (record { actor = actor; kind = Armed id false }) f)
clean_armed n log pool slots hand f actor id L A = record {
  armed = λ other on. by other (or_cases (id == other) (f.facts.armed other) on);
  dirty = λ gfn is. still gfn (has_gfn (slot_of_id id f.facts.slots) gfn) is;
  caused = λ gfn other slot logged has set.
      or_right (false && has_gfn (slot_of_id id f.facts.slots) gfn) (f.past.causes gfn) (L.caused gfn other slot logged has set);
}
  where
    by : (other : ℕ) → ((id == other) ≡ true) ⊎ (f.facts.armed other ≡ true) → IsArmedIn n pool slots hand other
    by other (inl same) = subst (IsArmedIn n pool slots hand) (eqb-true id other same) A
    by other (inr on) = L.armed other on

    still : (gfn : ℕ) (b : Bool) → (if b then false else f.facts.pending gfn) ≡ true
        → IsDirtyIn n log pool slots hand (λ other. (id == other) || f.facts.armed other) gfn
    still gfn true is = absurd (cc is)
    still gfn false is = let D = L.dirty gfn is in
        record {
          id = D.id;
          slot = D.slot;
          is_armed = or_right (id == D.id) (f.facts.armed D.id) D.is_armed;
          logged = D.logged;
          has = D.has;
          covered = D.covered;
        }

-- ---- the step

module _ (z : Sizes) (v : View) (a : ℕ) (line : Line) (command : Command) (range : FrameRange) (small : AreSmall v)
    (S : IsStep z v a line command (place.SlotChange (change.WriteProtect range protect.Await))) (I : Invariant z v) (P : TopicsInvariant z v)
    (G : LogInvariant z v) (N : LogsGiven z v) where
  abbrev p : Place
  p = place.SlotChange (change.WriteProtect range protect.Await)

  abbrev h : Held
  h = v.hand a

  abbrev x : ℕ
  x = answer_in (task_at p command h) v.words

  abbrev behind : View
  behind = stepped a line command p v

  abbrev next : WriteProtectNext
  next = protect_next protect.Await h.state.sizes range h.topics x

  manager : h.state.actor ≡ Manager
  manager = sym S.own ∙ change_is_managers z line.actor command (step_knows z v a line command p S I).0 S.allowed

  -- It is to begin none behind the last look, and so no hand is.
  none_left : next ≡ protects_next.Over → (j gfn : ℕ) → j < actors_of z → IsBeginning (behind.hand j) gfn → ⊥
  none_left over j gfn lt B =
      let same = beginning_is z v a j gfn I S.there manager lt (beginning_before z v a line command p S refl j gfn B) in
      own (subst (λ (g : Held). IsBeginning g gfn) (ap behind.hand same ∙ upd_same v.hand a (hand_after line command p h x)) B)
    where
      own : IsBeginning (hand_after line command p h x) gfn → ⊥
      own B = by next over B
        where
          after_ : Held
          after_ = hand_after line command p h x

          by : (n : WriteProtectNext) → n ≡ protects_next.Over
              → IsBeginning (record after_ { state = record after_.state { place = place.SlotChange (after_protect range n) } }) gfn → ⊥
          by (protects_next.Goes q) is B = absurd (cc is)
          by protects_next.Over is B = none_begins line.command after_ gfn (place.SlotChange change.Clear) refl B

  -- The record has the log that the line gives.
  has_log : (id : ℕ) → is_logged id h.slots ≡ true → (m : MemorySlot) × HasLog h.slots id m.slot
  has_log id is = by (slot_of_id id h.slots) refl is
    where
      with_it : (m : MemorySlot) → m.logged ≡ true → Some m ≡ Some (record { slot = m.slot; logged = true })
      with_it m is = λ t. Some (record { slot = m.slot; logged = is t })

      by : (was : Option MemorySlot) → slot_of_id id h.slots ≡ was → is_some_and (λ (m : MemorySlot). m.logged) was ≡ true
          → (m : MemorySlot) × HasLog h.slots id m.slot
      by None there is = absurd (cc is)
      by (Some m) there is = (m, there ∙ with_it m is)

  begun_log : next ≡ protects_next.Over → (id : ℕ) → command ≡ SetLog id true
      → IsArmedIn (actors_of z) (behind.words area.Pool) (behind.words area.Slots 0) behind.hand id
  begun_log over id same =
      let has = has_log id (subst (λ c. HasGiven c p h.slots) same (given_here z v a line command p S N) refl) in
      record {
        slot = has.0.slot;
        logged = logged_still z v a line command p refl small S I P G id has.0.slot
            (recorded_logged (v.words area.Pool) (v.words area.Slots 0) id h.slots has.0.slot
            (record_of z v a line command (change.WriteProtect range protect.Await) S I) has.1);
        begun = λ j gfn lt has B. none_left over j gfn lt B;
      }

  -- The logs of flat memory after the look.
  pub await_logs : (f : Flat) → FlatInvariant z v f → AreOfLines f → AreCaused f.facts f.past → FlatLogs z v f
      → FlatLogs z behind (after_all (told_events v a line command p) f)
  await_logs f F lines are L =
      subst (λ (es : List Event). FlatLogs z behind (after_all es f)) (sym (told_later z v a line command p S refl)) (by next refl)
    where
      still : FlatLogs z behind f
      still = logs_still z v a line command p refl small S I P G f F lines are L refl

      begins : next ≡ protects_next.Over → (c : Command) → command ≡ c → FlatLogs z behind (after_all (told h.state.actor (arming false c ++ [])) f)
      begins over (SetLog id true) same =
          clean_armed (actors_of z) (behind.words area.Log) (behind.words area.Pool) (behind.words area.Slots 0) behind.hand f h.state.actor id still
          (begun_log over id same)
      begins over (SetLog id false) same = still
      begins over _ same = still

      by : (n : WriteProtectNext) → next ≡ n → FlatLogs z behind (after_all (told h.state.actor (protect_tells n command ++ [])) f)
      by (protects_next.Goes q) is = still
      by protects_next.Over over = begins over command refl
