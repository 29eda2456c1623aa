-- A line that reads a dirty log at its places, which are of a simple form: where it goes on to and ends, what it tells, and that it claims nothing.
use Rattle.std.proofs.Common.{◌≡◌, ◌⊎◌, inl, inr, ℕ, Bool, true, false, List, [], ◌∷◌, ◌++◌, refl}
use Rattle.std.proofs.Props.{props}
use Rattle.std.specs.Prelude.{◌==◌, ◌||◌, not, if◌then◌else◌, Option, Some, None, is_none, is_some}
use Rattle.core_views.specs.declared.answer.Answer.{Answer}
use Rattle.core_views.specs.declared.answer.Refusal.TheVariants.{BadRange, Missing, NoFrame, NoLog}
use Rattle.core_views.specs.declared.event.EventKind.{EventKind}
use Rattle.core_views.specs.declared.event.EventKind.TheVariants.{Harvested, Shown, Taken}
use Rattle.core_views.specs.declared.place.LogPlace.{LogPlace}
use Rattle.core_views.specs.declared.place.LogPlace.TheVariants.{AtOnce, Exclude, Take, Root, Walk, Protect, Release, Ask, Await, Peek}
use Rattle.core_views.specs.declared.place.Place.TheVariants as place
use Rattle.core_views.specs.declared.trace.Command.{Command}
use Rattle.core_views.specs.declared.trace.Command.TheVariants.{ClearLog, GetLog}
use Rattle.core_views.specs.Held.{Held}
use Rattle.core_views.specs.LogCommands.{is_bad_range, log_read, read_refusal}
use Rattle.core_views.specs.Refusals.{is_logged}
use Rattle.core_views.specs.Slots.{first_of, is_some_and}
use Rattle.core_views.specs.SlotSets.{MemorySlots, slot_of_id}
use Rattle.part_steps.specs.ControlBits.{has_to_flush}
use Rattle.mmu_core.specs.declared.log_next.LogNext.{LogNext}
use Rattle.mmu_core.specs.declared.log_next.LogNext.TheVariants as next
use Rattle.mmu_core.specs.declared.outcome.Outcome.TheVariants.{Ends}
use Rattle.mmu_core.specs.forms.access.AccessSteps.{ends_with}
use Rattle.mmu_core.specs.orders.ClaimSteps.{FreeMap, Frames, Pages}
use Rattle.mmu_core.specs.lines.Delays.{line_waits}
use Rattle.mmu_core.specs.lines.Forms.{RestsAt}
use Rattle.mmu_core.specs.forms.log.LogKnows.{LogKnows, LogRests}
use Rattle.mmu_core.specs.forms.log.LogOutcomes.{after_log}
use Rattle.mmu_core.specs.forms.log.LogSteps.{awaits_last, log_next, log_note, log_reads, reads_last, slot_asked, log_part}
use Rattle.mmu_core.specs.forms.log.LogTells.{harvested, log_tells, shown, taken}
use Rattle.mmu_core.specs.lines.ScanPlaces.{HasScan, answer_without, claim_at}
use Rattle.mmu_core.specs.machine.Outcomes.{place_after}
use Rattle.mmu_core.proofs.forms.access.AccessEnds.{AreFed}
use Rattle.mmu_core.proofs.lines.EitherPlace.{either_place}
use Rattle.mmu_core.proofs.lines.LineClaims.{Claims, ClaimsNot, MayEnd, no_scan_between, IsLook}
use Rattle.mmu_core.proofs.forms.log.LogFalls.{log_allowed, some_log_left}
use Rattle.mmu_core.proofs.forms.log.LogPlaces.{is_over, log_ends_free, log_plain, log_rises}
use Rattle.mmu_core.proofs.lines.SimplePlaces.{OfLog, SimplePlace, none_raised}
use Rattle.mmu_core.proofs.machine.GoesOn.{GoesUnderWay, GoesWithin}
use Rattle.mmu_core.proofs.lines.FormLaws.{FormLaws, rests_on}

-- ---- where it goes on to

pub log_goes : (n : LogNext) (words : List ℕ) → GoesUnderWay (after_log n words)
log_goes (next.Goes p) words = tt
log_goes _ words = tt

log_within : (p : LogPlace) (n : LogNext) (words : List ℕ) → GoesWithin (place.Log p) (after_log n words)
log_within p (next.Goes q) words = λ c. refl
log_within p _ words = tt

ends_over : (n : LogNext) (words : List ℕ) (answer : Answer) → after_log n words ≡ Ends answer → is_over n ≡ true
ends_over (next.Goes p) words answer e = absurd (cc e)
ends_over (next.Refused refusal) words answer e = refl
ends_over next.Reads words answer e = refl

-- The step that ends it doesn't wait.
pub log_free : (p : LogPlace) (command : Command) (h : Held) (v : ℕ) (answer : Answer)
    → after_log (log_next p command h v) (log_reads p command h v) ≡ Ends answer → line_waits (place.Log p) command h v ≡ false
log_free p command h v answer e = log_ends_free p h command v (ends_over (log_next p command h v) (log_reads p command h v) answer e)

-- What it knows says that it reads a log.
pub log_knows_reads : (p : LogPlace) (command : Command) (h : Held) → LogKnows p command h → is_some (log_read command) ≡ true
log_knows_reads (AtOnce refusal) command h K = K.1
log_knows_reads Exclude command h K = K.1.0.reads
log_knows_reads (Take begun) command h K = K.2.0.reads
log_knows_reads (Peek begun) command h K = K.1.reads
log_knows_reads Root command h K = K.2.0.reads
log_knows_reads (Walk page) command h K = K.2.0.reads
log_knows_reads (Protect page) command h K = K.2.0.reads
log_knows_reads Release command h K = K.2.0.reads
log_knows_reads Ask command h K = K.2.0.reads
log_knows_reads Await command h K = K.2.0.reads

-- ---- it knows and rests on propositions

pub log_knows_prop : (p : LogPlace) (command : Command) (h : Held) → IsProp (LogKnows p command h)
log_knows_prop (AtOnce refusal) command h = hlevel props
log_knows_prop _ command h = hlevel props

pub log_rests_prop : (p : LogPlace) (command : Command) (h : Held) → IsProp (LogRests p command h)
log_rests_prop (Take begun) command h = hlevel props
log_rests_prop (Peek begun) command h = hlevel props
log_rests_prop _ command h = hlevel props

-- ---- what it tells

-- What is so of the few lists of events that a reading may tell is so of what each step tells.
module _ (Q : List EventKind → Type 0) (none : Q []) (takes : (id : ℕ) → Q (Taken id ∷ []))
    (harvests : (id : ℕ) (frames : List ℕ) → Q (Harvested id frames ∷ []))
    (shows : (id : ℕ) (frames : List ℕ) → Q (Shown id frames ∷ [])) (both : (id : ℕ) (frames : List ℕ) → Q (Taken id ∷ Shown id frames ∷ [])) where
  taken_so : (o : Option ℕ) → Q (taken o)
  taken_so None = none
  taken_so (Some id) = takes id

  harvested_so : (o : Option ℕ) (frames : List ℕ) → Q (harvested o frames)
  harvested_so None frames = none
  harvested_so (Some id) frames = harvests id frames

  peeks_so : (begun last : Bool) (o : Option ℕ) (frames : List ℕ) → Q ((if begun then [] else taken o) ++ (if last then shown o frames else []))
  peeks_so true true None frames = none
  peeks_so true true (Some id) frames = shows id frames
  peeks_so true false o frames = none
  peeks_so false true None frames = none
  peeks_so false true (Some id) frames = both id frames
  peeks_so false false None frames = none
  peeks_so false false (Some id) frames = takes id

  pub log_tells_so : (p : LogPlace) (command : Command) (h : Held) (v : ℕ) → Q (log_tells p command h v)
  log_tells_so Exclude command h v = either_place Q (v == 0) (taken (log_read command)) [] (taken_so (log_read command)) none
  log_tells_so Await command h v =
      either_place Q (has_to_flush v || not (awaits_last h)) [] (harvested (log_read command) _) none (harvested_so (log_read command) _)
  log_tells_so (Peek begun) command h v = peeks_so begun (reads_last begun (slot_asked h command) command h.topics) (log_read command) _
  log_tells_so _ command h v = none

-- It tells no exit.
pub log_fed : (p : LogPlace) (command : Command) (h : Held) (v : ℕ) → AreFed (log_tells p command h v)
log_fed p command h v =
    log_tells_so AreFed tt (λ id. (λ e. absurd (cc e), tt)) (λ id frames. (λ e. absurd (cc e), tt)) (λ id frames. (λ e. absurd (cc e), tt))
    (λ id frames. (λ e. absurd (cc e), (λ e. absurd (cc e), tt))) p command h v

-- ---- it claims nothing

pub log_claims_none : (p : LogPlace) (map : FreeMap) → claim_at map (place.Log p) ≡ None
log_claims_none p Pages = refl
log_claims_none p Frames = refl

pub log_scans_none : (p : LogPlace) (map : FreeMap) → HasScan (place.Log p) map → ⊥
log_scans_none p Pages S = S
log_scans_none p Frames S = S

no_scan : (n : LogNext) (words : List ℕ) (map : FreeMap) → HasScan (place_after (after_log n words)) map → ⊥
no_scan (next.Goes p) words map S = log_scans_none p map S
no_scan _ words map S = no_scan_between map S

-- It isn't refused for want of a frame.
two_rows : (a b : Bool) → first_of ((a, Missing) ∷ (b, NoLog) ∷ []) ≡ Some NoFrame → ⊥
two_rows true b e = cc e
two_rows false true e = cc e
two_rows false false e = cc e

three_rows : (a b c : Bool) → first_of ((a, Missing) ∷ (b, NoLog) ∷ (c, BadRange) ∷ []) ≡ Some NoFrame → ⊥
three_rows true b c e = cc e
three_rows false true c e = cc e
three_rows false false true e = cc e
three_rows false false false e = cc e

refuses_no_frame : (command : Command) (slots : MemorySlots) → read_refusal command slots ≡ Some NoFrame → ⊥
refuses_no_frame (GetLog id) slots e = two_rows (is_none (slot_of_id id slots)) (not (is_logged id slots)) e
refuses_no_frame (ClearLog id first count words) slots e =
    three_rows (is_none (slot_of_id id slots)) (not (is_logged id slots))
    (is_some_and (λ slot. is_bad_range slot.slot.pages first count) (slot_of_id id slots)) e
refuses_no_frame _ slots e = cc e

-- So it isn't answered for want of a page or a frame.
abbrev IsFedBy : FreeMap → List ℕ → LogNext → Type 0
IsFedBy map words n = after_log n words ≡ Ends (answer_without map) → ⊥

reads_fed : (map : FreeMap) (words : List ℕ) → IsFedBy map words next.Reads
reads_fed Pages words e = cc e
reads_fed Frames words e = cc e

log_starves_not : (p : LogPlace) (command : Command) (h : Held) (v : ℕ) (map : FreeMap) → LogKnows p command h
    → IsFedBy map (log_reads p command h v) (log_next p command h v)
log_starves_not (AtOnce refusal) command h v Pages K e = cc e
log_starves_not (AtOnce refusal) command h v Frames K e = let is = K.2 in refuses_no_frame command h.slots (cc (is, e))
log_starves_not Await command h v map K e =
    either_place (IsFedBy map h.harvest) (has_to_flush v || not (awaits_last h)) (next.Goes Await) next.Reads (λ on. cc on) (reads_fed map h.harvest) e
log_starves_not (Peek begun) command h v map K e =
    either_place (IsFedBy map (log_reads (Peek begun) command h v)) (reads_last begun (slot_asked h command) command h.topics) next.Reads
    (next.Goes (Peek true)) (reads_fed map _) (λ on. cc on) e
log_starves_not _ command h v map K e = cc e

-- ---- its note

peek_note : (last : Bool) (words : List ℕ) → (if last then 1 else 0) ≡ ends_with (after_log (if last then next.Reads else next.Goes (Peek true)) words)
peek_note true words = refl
peek_note false words = refl

module _ (command : Command) (h : Held) (v : ℕ) where
  abbrev Notes : LogPlace → Type 0
  Notes p =
      (log_note p h command ≡ ends_with (after_log (log_next p command h v) (log_reads p command h v)))
      ⊎ MayEnd (place.Log p) command h v ⊎ IsLook (place.Log p)

  -- It may end with the look at the last virtual processor, and doesn't where this has yet to flush.
  await_note : (waits last : Bool) → is_some (log_read command) ≡ true → has_to_flush v ≡ waits → awaits_last h ≡ last → Notes Await
  await_note true true reads waits last = inr (inl (record {
    reads = reads;
    note = rw last refl;
    goes = rw waits refl;
    waits = waits;
  }))
  await_note true false reads waits last = inl (rw (waits, last) refl)
  await_note false true reads waits last = inl (rw (waits, last) refl)
  await_note false false reads waits last = inl (rw (waits, last) refl)

  log_notes : (p : LogPlace) → is_some (log_read command) ≡ true → Notes p
  log_notes (AtOnce refusal) reads = inl refl
  log_notes Await reads = await_note (has_to_flush v) (awaits_last h) reads refl refl
  log_notes (Peek begun) reads = inl (peek_note (reads_last begun (slot_asked h command) command h.topics) _)
  log_notes _ reads = inl refl

  log_claims_not : (p : LogPlace) → RestsAt (place.Log p) command h → Claims (place.Log p) command h v ⊎ ClaimsNot (place.Log p) command h v
  log_claims_not p R = inr (record {
    at = log_claims_none p;
    step = (log_plain p h command).maps_not;
    note = log_notes p R.0;
    keeps = λ K map S. absurd (no_scan (log_next p command h v) (log_reads p command h v) map S);
    starved = λ K map e. absurd (log_starves_not p command h v map K e);
  })

  -- ---- all of it

  pub log_simple : (p : LogPlace) → SimplePlace (place.Log p) command h v
  log_simple p = record {
    tells = OfLog p;
    raises = λ line.
        none_raised (after_log (log_next p command h v) (log_reads p command h v)) line h.answers _ (log_rises p h command);
    claims = log_claims_not p;
  }

-- ---- all that laws ask of it

pub log_laws : (p : LogPlace) (c : Command) → FormLaws (place.Log p) c
log_laws p c = record {
  goes = λ h v begun. log_goes (log_next p c h v) (log_reads p c h v);
  within = λ h v. log_within p (log_next p c h v) (log_reads p c h v);
  knows_for = λ h begun K. log_knows_reads p c h K;
  rests_for = λ h begun R. R.0;
  simple = λ h v is. log_simple c h v p;
  rests = λ h other.
      rests_on (place.Log p) c h (is_some (log_read c)) (log_part p h c) (LogRests p c h) refl (log_rests_prop p c h) (λ R. R) (λ R. R);
  knows_prop = λ h other. log_knows_prop p c h;
  stays = λ z before set after other h own e. tt;
  accepts = λ z pool set h e. tt;
  accepts_prop = λ z slots. hlevel props;
  free = λ h v answer R e. log_free p c h v answer e;
  told = λ h v. OfLog p;
  few = λ z pool set h holds K S most. log_allowed p c h (log_knows_reads p c h K) S most;
  some = λ z t begun. some_log_left p z t;
}
