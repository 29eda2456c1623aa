-- A line of a migration alone, from a state in which no line is under way, is lawful.
use Rattle.std.proofs.Common.{◌≡◌, inr, ℕ, zero, suc, List, [], ◌∷◌, ◌++◌, ◌+◌, ◌-◌, ◌==◌, ◌||◌, Bool, true, false, cond, refl, sym, ap, ◌∙◌, subst, arith}
use Rattle.std.specs.Prelude.{Option, Some, None, is_some, nat_le, unwrap_or}
use Rattle.std.specs.Map.{keys_of}
use Rattle.std.proofs.lemmas.Bool.{eq-eqb, or_right}
use Rattle.std.proofs.lemmas.Bool.Decides.{nat_tests}
use Rattle.core_views.specs.declared.answer.Answer.{Answer}
use Rattle.core_views.specs.declared.answer.Answer.TheVariants.{Done}
use Rattle.core_views.specs.declared.event.Event.{Event}
use Rattle.core_views.specs.declared.event.EventKind.{EventKind}
use Rattle.core_views.specs.declared.event.EventKind.TheVariants.{Taken, Harvested, GuestStopped, MigrationStarted, PauseSet, Resumed, WordCopied}
use Rattle.core_views.specs.declared.sizes.Sizes.{Sizes}
use Rattle.core_views.specs.declared.trace.Command.{Command}
use Rattle.core_views.specs.declared.trace.Command.TheVariants.{Migrate}
use Rattle.core_views.specs.declared.trace.Line.{Line}
use Rattle.core_views.specs.declared.trace.MigrationCall.{MigrationCall}
use Rattle.core_views.specs.declared.trace.MigrationCall.TheVariants.{Start, Round, Finish, Resume}
use Rattle.core_views.specs.declared.trace.Op.TheVariants.{Read}
use Rattle.core_views.specs.declared.memory_slot.MemorySlot.{MemorySlot}
use Rattle.core_views.specs.Harvests.{IsHarvest}
use Rattle.core_views.specs.LogCommands.{asked_frames, is_among, log_read}
use Rattle.core_views.specs.Migrations.{frames_to_copy, has_no_slot, is_running, round_answer}
use Rattle.core_views.specs.Slots.{page_behind}
use Rattle.core_views.specs.SlotSets.{MemorySlots, flat_slots, slot_holding, slot_of_id}
use Rattle.core_views.specs.Flat.{Facts, LineUnderWay, Flat, Stage, Fresh, HasTakenNext, HasToCopy, HasToRead, no_notes}
use Rattle.core_views.specs.Events.{after, facts_after, facts_after_all, logs_left, stage_taken, to_read_or_copy}
use Rattle.core_views.specs.Lawful.{HasWork, MayHarvest, answer_at_once, copied_answer}
use Rattle.core_views.specs.FlatHistory.{answers, by, copying, copying_page, dirty_read, doing, doing_by, migrating, page_copied, reading_logs, words_copied}
use Rattle.core_views.proofs.SlotChanges.{IsSlotThere}
use Rattle.flat_laws.proofs.AloneReads.{first_of_two}
use Rattle.flat_laws.proofs.AloneSteps.{Closes, IsAt, allowed, answered, more, step}
use Rattle.flat_laws.proofs.Caused.{AreCaused, caused_after}
use Rattle.flat_laws.proofs.HarvestsAlone.{reads_dirty}
use Rattle.flat_laws.proofs.SlotsCopied.{HaveSlots, frames_have_slots, has_page}

abbrev at_stage : Line → Stage → LineUnderWay
at_stage line stage = record { line = line; stage = stage; notes = no_notes }

pub caused_at : (facts : Facts) (f : Flat) → f.facts ≡ facts → AreCaused f.facts f.past → (gfn : ℕ) → facts.pending gfn ≡ true → f.past.causes gfn ≡ true
caused_at facts f is are gfn dirty = are.pending gfn (ap (λ (g : Facts). g.pending gfn) is ∙ dirty)

-- ---- it copies

last_word : (words word : ℕ) → zero ≡ words - (word + 1) → true ≡ nat_le words (word + 1)
last_word words word is = grind (arith, nat_tests)

other_word : (words word after_ : ℕ) → suc after_ ≡ words - (word + 1) → false ≡ nat_le words (word + 1)
other_word words word after_ is = grind (arith, nat_tests)

-- the words of a page, from one on, of which so many come after it; then the rest
page_closes : (z : Sizes) (line : Line) (gfn page : ℕ) (frames : List ℕ) (count after_ word : ℕ) (facts : Facts) (f : Flat) (rest : List Event)
    → page_behind (flat_slots facts.slots) gfn Read ≡ Some page → after_ ≡ z.words - (word + 1)
    → ((g : Flat) → IsAt line.actor (facts_after_all (copying_page line gfn page after_ word (facts.memory page)) facts)
    (at_stage line (HasToCopy frames (count + 1) 0)) g → Closes z rest g)
    → IsAt line.actor facts (at_stage line (HasToCopy (gfn ∷ frames) count word)) f
    → Closes z (copying_page line gfn page after_ word (facts.memory page) ++ rest) f
page_closes z line gfn page frames count zero word facts f rest behind is then_ at =
    let event : EventKind = WordCopied gfn page word (facts.memory page word) true in
    more z (by line event) rest f
    (allowed z line.actor event facts _ f at
    (record { frames = frames; count = count; left = refl; behind = behind; value_is = refl; whole_is = last_word z.words word is }))
    (then_ _ (step line.actor event facts _ f at))
page_closes z line gfn page frames count (suc after_) word facts f rest behind is then_ at =
    let event : EventKind = WordCopied gfn page word (facts.memory page word) false in
    more z (by line event) (copying_page line gfn page after_ (word + 1) (facts.memory page) ++ rest) f
    (allowed z line.actor event facts _ f at
    (record { frames = frames; count = count; left = refl; behind = behind; value_is = refl; whole_is = other_word z.words word after_ is }))
    (page_closes z line gfn page frames count after_ (word + 1) (facts_after event facts) _ rest behind (omega (arith, is)) then_
    (step line.actor event facts _ f at))

slots_stay : (line : Line) (gfn page after_ word : ℕ) (content : ℕ → ℕ) (facts : Facts)
    → (facts_after_all (copying_page line gfn page after_ word content) facts).slots ≡ facts.slots
slots_stay line gfn page zero word content facts = refl
slots_stay line gfn page (suc after_) word content facts =
    slots_stay line gfn page after_ (word + 1) content (facts_after (WordCopied gfn page word (content word) false) facts)

pub copies_close : (z : Sizes) (line : Line) (command : Command) (frames : List ℕ) (count : ℕ) (facts : Facts) (f : Flat) → line.command ≡ command
    → HaveSlots facts.slots frames → IsAt line.actor facts (at_stage line (HasToCopy frames count 0)) f
    → Closes z (copying z line command frames count 0 facts) f
copies_close z line command [] count facts f is have at =
    answered z line (copied_answer z command count facts) facts _ f at refl (refl, ap (λ (c : Command). copied_answer z c count facts) (sym is))
copies_close z line command (gfn ∷ frames) count facts f is have at =
    let page : ℕ = page_copied facts gfn in
    let there = has_page facts.slots gfn (have gfn (ap (λ b. b || is_among gfn frames) (eq-eqb gfn gfn refl))) in
    let behind : page_behind (flat_slots facts.slots) gfn Read ≡ Some page =
    there.behind ∙ ap Some (sym (ap (λ (p : Option ℕ). unwrap_or p 0) there.behind)) in
    let later : Facts = facts_after_all (words_copied z line gfn 0 facts) facts in
    let same : later.slots ≡ facts.slots = slots_stay line gfn page (z.words - (0 + 1)) 0 (facts.memory page) facts in
    page_closes z line gfn page frames count (z.words - (0 + 1)) 0 facts f (copying z line command frames (count + 1) 0 later) behind refl
    (λ g at_then. copies_close z line command frames (count + 1) later g is
    (λ other among. ap (λ (slots : MemorySlots). is_some (slot_holding other slots)) same ∙ have other (or_right (gfn == other) (is_among other frames) among))
    at_then) at

-- ---- it reads the logs

-- A slot stands at each of these IDs.
abbrev AreThere : MemorySlots → List ℕ → Type 0
AreThere slots [] = Unit {0}
AreThere slots (id ∷ ids) = IsSlotThere slots id × AreThere slots ids

stage_is : (read : Option ℕ) (left ids : List ℕ) (id : ℕ) → read ≡ None → left ≡ id ∷ ids → stage_taken read left id ≡ HasTakenNext id ids
stage_is read left ids id none is = rw (none, is) refl

-- the log of one slot; then the rest
taking_closes : (z : Sizes) (line : Line) (call : MigrationCall) (id : ℕ) (ids : List ℕ) (stage : Stage) (facts : Facts) (f : Flat)
    → line.command ≡ Migrate call → IsSlotThere facts.slots id → (stage ≡ Fresh → HasWork z facts line.actor (Migrate call))
    → logs_left facts.slots (Migrate call) stage ≡ id ∷ ids → AreCaused f.facts f.past
    → ((g : Flat) → AreCaused g.facts g.past → IsAt line.actor (facts_after (Harvested id (dirty_read (Migrate call) id facts)) facts)
    (at_stage line (to_read_or_copy ids (facts_after (Harvested id (dirty_read (Migrate call) id facts)) facts))) g
    → Closes z (reading_logs z line (Migrate call) ids (facts_after (Harvested id (dirty_read (Migrate call) id facts)) facts)) g)
    → IsAt line.actor facts (at_stage line stage) f → Closes z (reading_logs z line (Migrate call) (id ∷ ids) facts) f
taking_closes z line call id ids stage facts f is there works left caused then_ at =
    let frames : List ℕ = dirty_read (Migrate call) id facts in
    let first : Flat = after (by line (Taken id)) f in
    let unread : log_read line.command ≡ None = ap log_read is in
    let left_is : logs_left facts.slots line.command stage ≡ id ∷ ids = ap (λ (c : Command). logs_left facts.slots c stage) is ∙ left in
    let at_first : IsAt line.actor facts (at_stage line (HasTakenNext id ids)) first =
    subst (λ (s : Stage). IsAt line.actor facts (at_stage line s) first)
    (stage_is (log_read line.command) (logs_left facts.slots line.command stage) ids id unread left_is) (step line.actor (Taken id) facts _ f at) in
    let caused_first : AreCaused first.facts first.past = caused_after line.actor (Taken id) f.facts f.past tt caused in
    let due : (gfn : ℕ) → first.past.due gfn ≡ true → facts.pending gfn ≡ true =
    λ gfn was. ap (λ (g : Facts). g.pending gfn) (sym at.facts_are) ∙ first_of_two (f.facts.pending gfn) _ was in
    let reads : IsHarvest facts first.past (Migrate call) id frames =
    subst (λ (s : Option MemorySlot). IsHarvest facts first.past (Migrate call) id (asked_frames facts.pending (Migrate call) s)) (sym there.is)
    (reads_dirty facts first.past (Migrate call) id there.slot there.is (caused_at facts first at_first.facts_are caused_first) due) in
    let may : MayHarvest facts first.past line.command (HasTakenNext id ids) id frames =
    record { ids = ids; begun = refl; harvest = subst (λ (c : Command). IsHarvest facts first.past c id frames) (sym is) reads } in
    more z (by line (Taken id)) _ f
    (allowed z line.actor (Taken id) facts _ f at (inr (record {
      works = λ fresh. subst (λ (c : Command). HasWork z facts line.actor c) (sym is) (works fresh);
      call = call;
      asked = is;
      ids = ids;
      left = left_is;
    })))
    (more z (by line (Harvested id frames)) _ first (allowed z line.actor (Harvested id frames) facts _ first at_first (inr may))
    (then_ _ (caused_after line.actor (Harvested id frames) first.facts first.past tt caused_first)
    (step line.actor (Harvested id frames) facts _ first at_first)))

pub logs_close : (z : Sizes) (line : Line) (call : MigrationCall) (ids : List ℕ) (facts : Facts) (f : Flat) → line.command ≡ Migrate call
    → AreThere facts.slots ids → AreCaused f.facts f.past → IsAt line.actor facts (at_stage line (to_read_or_copy ids facts)) f
    → Closes z (reading_logs z line (Migrate call) ids facts) f
logs_close z line call [] facts f is there caused at =
    copies_close z line (Migrate call) (frames_to_copy facts.to_copy facts.slots) 0 facts f is (frames_have_slots facts.to_copy facts.slots) at
logs_close z line call (id ∷ ids) facts f is there caused at =
    taking_closes z line call id ids (HasToRead (id ∷ ids)) facts f is there.0 (λ fresh. absurd (cc fresh)) refl caused
    (λ g caused_then at_then.
    logs_close z line call ids (facts_after (Harvested id (dirty_read (Migrate call) id facts)) facts) g is there.1 caused_then at_then)
    at

-- A slot stands at each ID of a list of slots.
found_by : (b : Bool) (m : MemorySlot) (rest : Option MemorySlot) → (is_some rest ≡ true) → is_some (cond b (Some m) rest) ≡ true
found_by true m rest is = refl
found_by false m rest is = is

keys_there : (es whole : MemorySlots) → ((id : ℕ) → is_some (slot_of_id id es) ≡ true → is_some (slot_of_id id whole) ≡ true)
    → AreThere whole (keys_of es)
keys_there [] whole leads = tt
keys_there ((k, m) ∷ es) whole leads = (
  there (slot_of_id k whole) refl (leads k (ap (λ b. is_some (cond b (Some m) (slot_of_id k es))) (eq-eqb k k refl))),
  keys_there es whole (λ id is. leads id (found_by (k == id) m (slot_of_id id es) is)),
)
  where
    there : (found : Option MemorySlot) → slot_of_id k whole ≡ found → is_some found ≡ true → IsSlotThere whole k
    there None at is = absurd (cc is)
    there (Some slot) at is = record { slot = slot; is = at }

pub all_there : (slots : MemorySlots) → AreThere slots (keys_of slots)
all_there slots = keys_there slots slots (λ id is. is)

-- ---- the whole line

record HasFirst (slots : MemorySlots) : Type 0 where
  id : ℕ
  ids : List ℕ
  is : keys_of slots ≡ id ∷ ids

first_slot : (slots : MemorySlots) → has_no_slot slots ≡ false → HasFirst slots
first_slot [] none = absurd (cc none)
first_slot ((k, m) ∷ es) none = record { id = k; ids = keys_of es; is = refl }

some_slot : (runs none : Bool) → round_answer runs none ≡ None → none ≡ false
some_slot false none is = absurd (cc is)
some_slot true true is = absurd (cc is)
some_slot true false is = refl

round_closes : (z : Sizes) (line : Line) (facts : Facts) (f : Flat) → line.command ≡ Migrate Round → HasWork z facts line.actor (Migrate Round)
    → AreCaused f.facts f.past → IsAt line.actor facts (at_stage line Fresh) f → Closes z (reading_logs z line (Migrate Round) (keys_of facts.slots) facts) f
round_closes z line facts f is works caused at =
    let first = first_slot facts.slots (some_slot (is_running facts.migration) (has_no_slot facts.slots) works) in
    let there : AreThere facts.slots (first.id ∷ first.ids) = subst (λ (ids : List ℕ). AreThere facts.slots ids) first.is (all_there facts.slots) in
    subst (λ (ids : List ℕ). Closes z (reading_logs z line (Migrate Round) ids facts) f) (sym first.is)
    (taking_closes z line Round first.id first.ids Fresh facts f is there.0 (λ fresh. works) first.is caused
    (λ g caused_then at_then. logs_close z line Round first.ids _ g is there.1 caused_then at_then) at)

-- a clause for each call
migrates : (z : Sizes) (line : Line) (call : MigrationCall) (facts : Facts) (f : Flat) → line.command ≡ Migrate call
    → HasWork z facts line.actor (Migrate call) → AreCaused f.facts f.past → IsAt line.actor facts (at_stage line Fresh) f
    → Closes z (migrating z line call facts) f
migrates z line Start facts f is works caused at =
    more z (by line MigrationStarted) (answers line Done) f
    (allowed z line.actor MigrationStarted facts _ f at (refl, rw is works, is))
    (answered z line Done (facts_after MigrationStarted facts) _ _ (step line.actor MigrationStarted facts _ f at) refl refl)
migrates z line Resume facts f is works caused at =
    more z (by line Resumed) (answers line Done) f
    (allowed z line.actor Resumed facts _ f at (refl, rw is works, is))
    (answered z line Done (facts_after Resumed facts) _ _ (step line.actor Resumed facts _ f at) refl refl)
migrates z line Round facts f is works caused at = round_closes z line facts f is works caused at
migrates z line Finish facts f is works caused at =
    let paused : Facts = facts_after PauseSet facts in
    let pausing : Flat = after (by line PauseSet) f in
    let caused_then : AreCaused pausing.facts pausing.past = caused_after line.actor PauseSet f.facts f.past tt caused in
    let at_then = step line.actor PauseSet facts _ f at in
    more z (by line PauseSet) _ f (allowed z line.actor PauseSet facts _ f at (refl, rw is works, is))
    (more z (by line GuestStopped) _ pausing (allowed z line.actor GuestStopped paused _ pausing at_then refl)
    (logs_close z line Finish (keys_of facts.slots) (facts_after GuestStopped paused) _ is (all_there facts.slots)
    (caused_after line.actor GuestStopped pausing.facts pausing.past tt caused_then) (step line.actor GuestStopped paused _ pausing at_then)))

pub migrates_or_answers : (z : Sizes) (line : Line) (call : MigrationCall) (facts : Facts) (f : Flat) → line.command ≡ Migrate call
    → AreCaused f.facts f.past → IsAt line.actor facts (at_stage line Fresh) f → Closes z (doing z line (Migrate call) facts) f
migrates_or_answers z line call facts f is caused at = by_answer (answer_at_once z facts.slots facts.migration line.actor (Migrate call)) refl
  where
    by_answer : (answer : Option Answer) → answer_at_once z facts.slots facts.migration line.actor (Migrate call) ≡ answer
        → Closes z (doing_by z line (Migrate call) facts answer) f
    by_answer None works = migrates z line call facts f is works caused at
    by_answer (Some answer) says = answered z line answer facts _ f at refl (rw is says)
