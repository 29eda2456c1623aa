-- What a line has taken out of a dirty log it has taken still after its step, up to the one with which it has read it; and what is covered, or taken, stays so.
use Rattle.std.proofs.Common.{◌≡◌, ◌≢◌, ◌⊎◌, inl, inr, ◌+◌, List, ℕ, Bool, true, false, refl, sym, subst, ap, ◌∙◌}
use Rattle.std.specs.Int.Bits.{bit_and}
use Rattle.std.specs.Prelude.{None, Option, Some, nat_lt}
use Rattle.core_views.specs.declared.place.LogPlace.{LogPlace}
use Rattle.core_views.specs.declared.place.LogPlace.TheVariants.{Take, Root, Walk, Protect, Release, Ask, Await}
use Rattle.core_views.specs.declared.place.Place.{Place}
use Rattle.core_views.specs.declared.sizes.Sizes.{Sizes}
use Rattle.core_views.specs.declared.trace.Command.{Command}
use Rattle.core_views.specs.declared.trace.Line.{Line}
use Rattle.core_views.specs.declared.trace.Slot.{Slot as SlotOf}
use Rattle.core_views.specs.Held.{Held}
use Rattle.core_views.specs.Sizes.{actors_of}
use Rattle.core_views.specs.Slots.{contains}
use Rattle.spte_words.specs.declared.area.Area.TheVariants as area
use Rattle.spte_words.specs.Entries.{kind_of}
use Rattle.part_steps.specs.SweepTopics.{walk_on}
use Rattle.mmu_core.specs.invariant.Invariant.{Invariant}
use Rattle.mmu_core.specs.invariant.TopicsInvariant.{TopicsInvariant}
use Rattle.mmu_core.specs.lines.Forms.{outcome_at}
use Rattle.mmu_core.specs.forms.log.LogSteps.{log_next, mask_read, next_page, read_more, reads_last, slot_asked, word_read}
use Rattle.mmu_core.specs.machine.Outcomes.{place_after}
use Rattle.core_views.specs.declared.kind.Kind.{Kind}
use Rattle.core_views.specs.declared.place.Place.TheVariants as place
use Rattle.mmu_core.specs.machine.Steps.{idle_after, task_at}
use Rattle.mmu_core.specs.machine.View.{View, answer_in, hand_after, stepped}
use Rattle.mmu_core.proofs.forms.access.AccessParts.{AreSmall}
use Rattle.mmu_core.proofs.lines.EitherPlace.{either_place}
use Rattle.mmu_core.proofs.machine.Columns.{same_or, upd_other, upd_same}
use Rattle.mmu_core.proofs.machine.Stepping.{IsStep}
use Rattle.log_invariant.specs.LogInvariant.{LogInvariant}
use Rattle.log_invariant.specs.forms.log.LogReads.{HasTakenOut, IsRead, has_taken, taken_at, taken_by, taken_of}
use Rattle.log_invariant.proofs.forms.log.LogExcuse.{at_hand}
use Rattle.mmu_core.proofs.forms.log.ReadingPlaces.{AfterReading, after_reading, reading_goes}
use Rattle.mmu_core.specs.declared.log_next.LogNext.TheVariants as next
use Rattle.mmu_core.specs.forms.log.Readings.{Reading, reading_at}
use Rattle.log_invariant.proofs.CoveredKept.{IsCoveredNow, covered_or_taken}
use Rattle.log_invariant.proofs.HeldLogs.{IsLoggedNow}
use Rattle.log_invariant.proofs.forms.log.ReadFrames.{read_still}
use Rattle.log_invariant.proofs.StepPlaces.{of_hand}
use Rattle.mmu_laws.specs.flat.FlatLogs.{IsCoveredOrTaken}
use Rattle.mmu_laws.proofs.forms.log.PagePlaces.{each_entry, each_page}

-- A reading may have read all of a log with the step of this place, and taken out what it read.
abbrev ends_there : LogPlace → Bool
ends_there Await = true
ends_there _ = false

abbrev ends_of : Option Reading → Bool
ends_of None = false
ends_of (Some r) = ends_there r.place

abbrev pub ends_taking : Place → Command → Held → Bool
ends_taking p command h = ends_of (reading_at p command h)

-- Its place says which reading that is.
pub ends_reading : (p : Place) (command : Command) (h : Held) → ends_taking p command h ≡ true
    → (c : Command) × (reading_at p command h ≡ Some (record { place = Await; command = c }))
ends_reading p command h = by (reading_at p command h) refl
  where
    there : (q : LogPlace) → ends_there q ≡ true → q ≡ Await
    there Await e = refl
    there _ e = absurd (cc e)

    by : (o : Option Reading) → reading_at p command h ≡ o → ends_of o ≡ true
        → (c : Command) × (reading_at p command h ≡ Some (record { place = Await; command = c }))
    by None at e = absurd (cc e)
    by (Some r) at e = (r.command, at ∙ ap (λ q. Some (record { place = q; command = r.command })) (there r.place e))

-- What it has taken hangs on no topic.
pub idle_taken : (q : Place) (command : Command) (h : Held) (kind : Kind) (x gfn : ℕ) → (taken_at q command h).Has gfn
    → (taken_at q command (idle_after h kind x)).Has gfn
idle_taken (place.Log q) command h kind x gfn T = T
idle_taken _ command h kind x gfn T = absurd T

-- ---- by the order of a reading

module _ (command : Command) (h : Held) (x : ℕ) (g : Held) (gfn : ℕ) where
  abbrev slot : SlotOf
  slot = slot_asked h command

  -- It goes on to a place where it has taken the frame.
  record TakenOn (q : LogPlace) : Type 0 where
    to : LogPlace
    goes : log_next q command h x ≡ next.Goes to
    taken : has_taken to ≡ true
    read : IsRead (slot_asked g command) command g.harvest gfn

  read_then : (words : List ℕ) → g.slots ≡ h.slots → g.harvest ≡ words → IsRead slot command words gfn → IsRead (slot_asked g command) command g.harvest gfn
  read_then words slots reads R = at_hand g h.slots words slots reads (λ y. IsRead (slot_asked y command) command y.harvest gfn) R

  taken_on : (q : LogPlace) → AfterReading q command h x g → ends_there q ≡ false → (taken_by q command h).Has gfn → TakenOn q
  taken_on (Take true) A on T = record {
    to = _;
    goes = refl;
    taken = either_place (λ q. has_taken q ≡ true) (reads_last true slot command h.topics) Root (Take true) refl refl;
    read = read_then (read_more true slot command h x) A.slots (A.words _ refl)
        (read_still slot command h.harvest (bit_and x (mask_read slot command (word_read true slot command h.topics))) gfn T.1);
  }
  taken_on (Take false) A on T = absurd (let is = T.0 in cc is)
  taken_on Root A on T = record {
    to = _;
    goes = refl;
    taken = each_page (λ q. has_taken q ≡ true) refl (λ page. refl) (next_page slot command h.harvest 0);
    read = read_then h.harvest A.slots (A.words _ refl) T.1;
  }
  taken_on (Walk page) A on T = record {
    to = _;
    goes = refl;
    taken = each_entry (λ q. has_taken q ≡ true) refl (λ other. refl) (λ other. refl) (kind_of (walk_on h.topics).level x) page
        (next_page slot command h.harvest (page + 1)) x;
    read = read_then h.harvest A.slots (A.words _ refl) T.1;
  }
  taken_on (Protect page) A on T = record {
    to = _;
    goes = refl;
    taken = each_page (λ q. has_taken q ≡ true) refl (λ other. refl) (next_page slot command h.harvest (page + 1));
    read = read_then h.harvest A.slots (A.words _ refl) T.1;
  }
  taken_on Release A on T = record { to = _; goes = refl; taken = refl; read = read_then h.harvest A.slots (A.words _ refl) T.1 }
  taken_on Ask A on T = record {
    to = _;
    goes = refl;
    taken = either_place (λ q. has_taken q ≡ true) (nat_lt (h.topics.flush.asked + 1) h.state.sizes.vcpus) Ask Await refl refl;
    read = read_then h.harvest A.slots (A.words _ refl) T.1;
  }
  taken_on Await A on T = absurd (cc on)
  taken_on _ A on T = absurd (let is = T.0 in cc is)

-- ---- by the line's place

-- Where its hand goes on so, it has taken it.
pub goes_taken : (line : Line) (command : Command) (h : Held) (x gfn : ℕ) (p : Place) → ends_taking p command h ≡ false → (taken_at p command h).Has gfn
    → (taken_at (place_after (outcome_at p command h x)) command (hand_after line command p h x)).Has gfn
goes_taken line command h x gfn p = by (reading_at p command h) refl
  where
    g : Held
    g = hand_after line command p h x

    by : (o : Option Reading) → reading_at p command h ≡ o → ends_of o ≡ false → (taken_of o h).Has gfn
        → (taken_at (place_after (outcome_at p command h x)) command g).Has gfn
    by None at on T = absurd T
    by (Some r) at on T =
        let on_ = taken_on r.command h x g gfn r.place (after_reading line p command h x r at) on T in
        subst (λ (o : Option Reading). (taken_of o g).Has gfn) (sym ((reading_goes p command h x r on_.to at on_.goes).stands g)) (on_.taken, on_.read)

module _ (z : Sizes) (v : View) (a : ℕ) (line : Line) (command : Command) (p : Place) (S : IsStep z v a line command p) (gfn : ℕ) where
  abbrev after : View
  after = stepped a line command p v

  -- The hand has taken the frame where it makes the step, or after it.
  pub taken_here : HasTakenOut (v.hand a) gfn → (taken_at p command (v.hand a)).Has gfn
  taken_here T = of_hand z v a line command p S (λ q c. (taken_at q c (v.hand a)).Has gfn) (λ sizes slots c none. absurd none) T

  pub taken_then : (taken_at (place_after (outcome_at p command (v.hand a) (answer_in (task_at p command (v.hand a)) v.words))) command
      (hand_after line command p (v.hand a) (answer_in (task_at p command (v.hand a)) v.words))).Has gfn → HasTakenOut (after.hand a) gfn
  taken_then T =
      let g : Held = hand_after line command p (v.hand a) (answer_in (task_at p command (v.hand a)) v.words) in
      subst (λ (k : Held). HasTakenOut k gfn) (sym (upd_same v.hand a g)) (subst (λ c. (taken_at g.state.place c g).Has gfn) (sym S.command_is) T)

  pub taken_stays : ends_taking p command (v.hand a) ≡ false → HasTakenOut (v.hand a) gfn → HasTakenOut (after.hand a) gfn
  taken_stays on T =
      taken_then (goes_taken line command (v.hand a) (answer_in (task_at p command (v.hand a)) v.words) gfn p on (taken_here T))

  -- A frame of a published slot with a log, covered or taken, stays so.
  pub cover_stays : AreSmall v → Invariant z v → TopicsInvariant z v → LogInvariant z v → (id : ℕ) (slot : SlotOf) → IsLoggedNow v id slot
      → contains gfn slot ≡ true → (HasTakenOut (v.hand a) gfn → HasTakenOut (after.hand a) gfn)
      → IsCoveredOrTaken (actors_of z) (v.words area.Log) v.hand slot gfn → IsCoveredOrTaken (actors_of z) (after.words area.Log) after.hand slot gfn
  cover_stays small I P G id slot logged has stays (inl covered) = by (covered_or_taken z v a line command p small S I P G id gfn slot logged has covered)
    where
      by : IsCoveredNow z after slot gfn ⊎ HasTakenOut (after.hand a) gfn → IsCoveredOrTaken (actors_of z) (after.words area.Log) after.hand slot gfn
      by (inl still) = inl still
      by (inr taken) = inr (a, S.there, taken)
  cover_stays small I P G id slot logged has stays (inr (j, lt, taken)) = by (same_or j a)
    where
      by : (j ≡ a) ⊎ (j ≢ a) → IsCoveredOrTaken (actors_of z) (after.words area.Log) after.hand slot gfn
      by (inl e) = inr (a, S.there, stays (subst (λ i. HasTakenOut (v.hand i) gfn) e taken))
      by (inr apart) = inr (j, lt, subst (λ (k : Held). HasTakenOut k gfn) (sym (upd_other v.hand a j _ apart)) taken)
