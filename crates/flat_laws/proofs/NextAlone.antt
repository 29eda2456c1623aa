-- What a line does next, alone: each event of its own that is allowed, and is no look, is the next one of the flat history. One lemma a form of line,
-- and one of its answer.
use Rattle.std.proofs.Common.{◌≡◌, inl, inr, ℕ, List, ◌∷◌, ◌++◌, ◌&&◌, ◌||◌, Bool, true, false, cond, not, refl, sym, ap, ◌∙◌, subst}
use Rattle.std.specs.Prelude.{Option, Some, None, nat_lt}
use Rattle.core_views.specs.declared.answer.Answer.{Answer}
use Rattle.core_views.specs.declared.answer.Answer.TheVariants.{Reached, Mmio, HostFault, Starved, Paused, Done, Moved, Bits, Refused}
use Rattle.core_views.specs.declared.answer.Refusal.TheVariants.{IsHuge, NotAligned, NoFrame}
use Rattle.core_views.specs.declared.host.HostEntry.{HostEntry}
use Rattle.core_views.specs.declared.event.Event.{Event}
use Rattle.core_views.specs.declared.event.EventKind.TheVariants.{Accessed, BroughtIn, Exited, HostChanged, SlotChanged, Armed, Taken, Harvested, Shown}
use Rattle.core_views.specs.declared.trace.Command.{Command}
use Rattle.core_views.specs.declared.trace.Command.TheVariants.{Access, ChangeHost, ChangeRun, ClearLog, DeleteSlot, GetLog, Migrate, SetLog, SetSlot, Split}
use Rattle.core_views.specs.declared.trace.HostChange.{HostChange}
use Rattle.core_views.specs.declared.trace.HostChange.TheVariants.{Move, Evict, Protect, Allow}
use Rattle.core_views.specs.declared.trace.Line.{Line}
use Rattle.core_views.specs.declared.trace.Op.{Op}
use Rattle.core_views.specs.declared.sizes.Sizes.{Sizes}
use Rattle.core_views.specs.Host.{brought_in, is_denied}
use Rattle.core_views.specs.HostChanges.{Changes, host_answer}
use Rattle.core_views.specs.Alone.{FallsAsFlat}
use Rattle.core_views.specs.declared.memory_slot.MemorySlot.{MemorySlot}
use Rattle.core_views.specs.Slots.{Slots, is_write, page_behind}
use Rattle.core_views.specs.SlotSets.{flat_slots, slot_of_id}
use Rattle.core_views.specs.SlotCommands.{arms}
use Rattle.core_views.specs.LogCommands.{asked_frames, bits_for, log_read}
use Rattle.core_views.specs.Names.{frame_at, frame_for}
use Rattle.core_views.specs.Past.{Past}
use Rattle.core_views.specs.Flat.{Facts, Notes, LineUnderWay, Stage, Idle, Fresh, HasAccessed, HasLeft, HasChanged, HasArmed, HasTaken, HasRead}
use Rattle.core_views.specs.Flat.{HasCalled, HasChangedHost, HasSetPause, HasTakenNext, HasToCopy, HasToRead, HasToSet}
use Rattle.core_views.specs.Migrations.{is_paused}
use Rattle.flat_laws.proofs.NextMigrations.{left_next, next_stage, rest_read}
use Rattle.core_views.specs.Events.{facts_after, logs_left, stage_changed, stage_read, stage_taken}
use Rattle.core_views.specs.Lawful.{BringsIn, HasWork, IsAllowed, MayLeave, MayRead, SawForbidden, SawHuge, Tells, slot_at, slot_change, slot_read}
use Rattle.core_views.specs.FlatHistory.{by, answers, accessing, arming, bringing, harvest, moving, reaching, reading, doing, doing_by, rest_of}
use Rattle.core_views.specs.FlatHistory.{changing_host, copying, reading_logs, setting_run, unless_huge, unless_paused}
use Rattle.core_views.proofs.HostLines.{mapped}
use Rattle.core_views.proofs.SlotChanges.{changes}
use Rattle.flat_laws.proofs.Exact.{AreExact, IsNext, size_noted}
use Rattle.flat_laws.proofs.NextRuns.{left_huge, left_unaligned, setting_is_next, setting_on_is_next}

-- An access: the word that it reaches, or its exit.

some_is : (m n : ℕ) → Some m ≡ Some n → m ≡ n
some_is m n e = cc e

reached_at : (line : Line) (gfn word : ℕ) (op : Op) (f : Facts) (page : ℕ) (denied present : Bool) (frame before : ℕ)
    → (f.host page).present ≡ present → cond (denied || not present) None (Some (f.host page).frame) ≡ Some frame → f.memory page word ≡ before
    → reaching line gfn word op f page denied ≡ by line (Accessed gfn word op frame before) ∷ answers line (Reached frame before)
reached_at line gfn word op f page true present frame before here named value_is = absurd (cc named)
reached_at line gfn word op f page false false frame before here named value_is = absurd (cc named)
reached_at line gfn word op f page false true frame before here named value_is = rw (here, some_is (f.host page).frame frame named, value_is) refl

reached : (line : Line) (gfn word : ℕ) (op : Op) (f : Facts) (behind : Option ℕ) (page frame before : ℕ) → behind ≡ Some page
    → frame_at f.host op behind ≡ Some frame → f.memory page word ≡ before
    → accessing line gfn word op f behind ≡ by line (Accessed gfn word op frame before) ∷ answers line (Reached frame before)
reached line gfn word op f None page frame before is named value_is = absurd (cc is)
reached line gfn word op f (Some at) page frame before is named value_is =
    reached_at line gfn word op f at (is_denied op (f.host at)) (f.host at).present frame before refl named
    (ap (λ (p : ℕ). f.memory p word) (some_is at page is) ∙ value_is)

-- an access goes on where the line saw no pause
goes_past : (line : Line) (f : Facts) (command : Command) (notes : Notes) (rest : List Event) → AreExact f command notes → notes.paused ≡ Some false
    → unless_paused line (is_paused f.migration) rest ≡ rest
goes_past line f command notes rest exact runs = ap (λ b. unless_paused line b rest) (exact.pause false runs)

pub access_is_next : (z : Sizes) (f : Facts) (past : Past) (u : LineUnderWay) (gfn word : ℕ) (op : Op) (frame before : ℕ)
    → (u.stage ≡ Fresh → AreExact f u.line.command u.notes)
    → IsAllowed z f past u.line.actor u (Accessed gfn word op frame before) → IsNext z f u (Accessed gfn word op frame before)
access_is_next z f past u gfn word op frame before exact may =
    rw (may.0) (rw (may.1)
    (goes_past u.line f u.line.command u.notes _ (exact may.0) may.2
    ∙ reached u.line gfn word op f (page_behind (flat_slots f.slots) gfn op) may.3.page frame before may.3.behind may.3.named may.3.value_is))

-- the page is brought in, and then reached as it is now
brought : (z : Sizes) (line : Line) (command : Command) (f : Facts) (notes : Notes) (page : ℕ) → AreExact f command notes → BringsIn f command notes page
    → doing z line command f ≡ by line (BroughtIn page) ∷ doing z line command (facts_after (BroughtIn page) f)
brought z line (Access gfn word op) f notes page exact saw =
    let behind : page_behind (flat_slots f.slots) gfn op ≡ Some page =
    subst (λ (slots : Slots). page_behind slots gfn op ≡ Some page) (exact.slots saw.slots saw.noted) saw.behind in
    let then_ : Facts = facts_after (BroughtIn page) f in
    let frame : ℕ = (f.host page).frame in
    let before : ℕ = f.memory page word in
    let named : frame_for op (then_.host page) ≡ Some frame = ap (frame_for op) (mapped page (brought_in (f.host page)) f.host) ∙ rw (saw.allows) refl in
    goes_past line f (Access gfn word op) notes _ exact saw.runs
    ∙ (ap (accessing line gfn word op f) behind
    ∙ (ap (reaching line gfn word op f page) saw.allows
    ∙ (ap (λ (present : Bool). bringing line page present ++ (by line (Accessed gfn word op frame before) ∷ answers line (Reached frame before))) saw.absent
    ∙ sym (ap (λ (es : List Event). by line (BroughtIn page) ∷ es)
    (ap (λ b. unless_paused line b (accessing line gfn word op then_ (page_behind (flat_slots f.slots) gfn op))) (exact.pause false saw.runs)
    ∙ reached line gfn word op then_ (page_behind (flat_slots f.slots) gfn op) page frame before behind (ap (frame_at then_.host op) behind ∙ named) refl)))))
brought z line _ f notes page exact may = absurd may

pub bringing_is_next : (z : Sizes) (f : Facts) (past : Past) (u : LineUnderWay) (page : ℕ) → (u.stage ≡ Fresh → AreExact f u.line.command u.notes)
    → IsAllowed z f past u.line.actor u (BroughtIn page) → IsNext z f u (BroughtIn page)
bringing_is_next z f past u page exact may = rw (may.0) (brought z u.line u.line.command f u.notes page (exact may.0) may.1)

-- the host page that the noted slots give is as it was noted, so the host forbids the access now
forbidden : (line : Line) (gfn word : ℕ) (op : Op) (f : Facts) (notes : Notes) → AreExact f (Access gfn word op) notes → SawForbidden notes gfn op
    → accessing line gfn word op f (page_behind (flat_slots f.slots) gfn op) ≡ by line (Exited HostFault) ∷ answers line HostFault
forbidden line gfn word op f notes exact saw =
    let behind : page_behind (flat_slots f.slots) gfn op ≡ Some saw.page =
    subst (λ (slots : Slots). page_behind slots gfn op ≡ Some saw.page) (exact.slots saw.slots saw.noted) saw.behind in
    let denies : is_denied op (f.host saw.page) ≡ true =
    subst (λ (b : Bool). (is_write op && not b) ≡ true) (exact.host saw.page saw.entry saw.looked).0 saw.forbids in
    ap (accessing line gfn word op f) behind ∙ ap (reaching line gfn word op f saw.page) denies

-- so a host line that noted its page as part of a large one is refused
huge : (z : Sizes) (line : Line) (page : ℕ) (change : HostChange) (f : Facts) (notes : Notes) → AreExact f (ChangeHost page change) notes
    → HasWork z f line.actor (ChangeHost page change) → SawHuge notes page
    → doing z line (ChangeHost page change) f ≡ by line (Exited (Refused IsHuge)) ∷ answers line (Refused IsHuge)
huge z line page change f notes exact works saw =
    ap (doing_by z line (ChangeHost page change) f) works
    ∙ ap (λ b. unless_huge line b (changing_host z line page change f))
    (size_noted f (ChangeHost page change) notes page saw.entry true exact saw.looked saw.huge)

-- a clause for each answer with which it may leave
left : (z : Sizes) (line : Line) (command : Command) (f : Facts) (notes : Notes) (answer : Answer) → AreExact f command notes
    → FallsAsFlat z f command (Exited answer)
    → MayLeave z f line.actor command notes answer → doing z line command f ≡ by line (Exited answer) ∷ answers line answer
left z line (Access gfn word op) f notes Paused exact fed may =
    ap (λ b. unless_paused line b (accessing line gfn word op f (page_behind (flat_slots f.slots) gfn op))) (exact.pause true may)
left z line (Access gfn word op) f notes Mmio exact fed may =
    goes_past line f (Access gfn word op) notes _ exact may.runs
    ∙ ap (accessing line gfn word op f) (subst (λ (slots : Slots). page_behind slots gfn op ≡ None) (exact.slots may.slots may.noted) may.none)
left z line (Access gfn word op) f notes HostFault exact fed may =
    goes_past line f (Access gfn word op) notes _ exact may.runs ∙ forbidden line gfn word op f notes exact may
left z line command f notes Starved exact fed may = absurd (fed.0 refl)
left z line (ChangeHost page Move) f notes (Refused IsHuge) exact fed may = huge z line page Move f notes exact may.0 may.1
left z line (ChangeHost page Evict) f notes (Refused IsHuge) exact fed may = huge z line page Evict f notes exact may.0 may.1
left z line (ChangeHost page Protect) f notes (Refused IsHuge) exact fed may = huge z line page Protect f notes exact may.0 may.1
left z line (ChangeHost page Allow) f notes (Refused IsHuge) exact fed may = huge z line page Allow f notes exact may.0 may.1
left z line (ChangeHost page Move) f notes (Refused NoFrame) exact fed may =
    ap (doing_by z line (ChangeHost page Move) f) may.0
    ∙ (ap (λ b. unless_huge line b (changing_host z line page Move f))
    (size_noted f (ChangeHost page Move) notes page may.1.entry false exact may.1.looked may.1.small)
    ∙ ap (moving line page f) fed.1)
left z line (ChangeHost page Evict) f notes _ exact fed may = absurd may
left z line (ChangeHost page Protect) f notes _ exact fed may = absurd may
left z line (ChangeHost page Allow) f notes _ exact fed may = absurd may
left z line (ChangeRun page change) f notes (Refused IsHuge) exact fed may =
    left_huge z line page change f (ChangeRun page change) notes exact may.0 may.1
left z line (ChangeRun page change) f notes (Refused NotAligned) exact fed may =
    left_unaligned z line page change f notes exact may.0 may.1
left z line _ f notes _ exact fed may = absurd may

pub exit_is_next : (z : Sizes) (f : Facts) (past : Past) (u : LineUnderWay) (answer : Answer) → (u.stage ≡ Fresh → AreExact f u.line.command u.notes)
    → FallsAsFlat z f u.line.command (Exited answer) → IsAllowed z f past u.line.actor u (Exited answer) → IsNext z f u (Exited answer)
exit_is_next z f past u answer exact fed may = rw (may.0) (left z u.line u.line.command f u.notes answer (exact may.0) fed may.1)

-- A line that changes a slot: its change.

changed : (z : Sizes) (line : Line) (command : Command) (f : Facts) (id : ℕ) (slot : Option MemorySlot) → HasWork z f line.actor command
    → slot_change f.slots command ≡ Some (id, slot)
    → doing z line command f ≡ by line (SlotChanged id slot) ∷ arming z line command
changed z line command f id slot works is = ap (doing_by z line command f) works ∙ changes z line command f (id, slot) is

pub slot_change_is_next : (z : Sizes) (f : Facts) (past : Past) (u : LineUnderWay) (id : ℕ) (slot : Option MemorySlot)
    → IsAllowed z f past u.line.actor u (SlotChanged id slot) → IsNext z f u (SlotChanged id slot)
slot_change_is_next z f past u id slot may = rw (may.0) (changed z u.line u.line.command f id slot may.1 may.2)

-- A line that gives a slot a dirty log arms it.
pub arming_is_next : (z : Sizes) (f : Facts) (past : Past) (u : LineUnderWay) (id : ℕ) (all : Bool)
    → IsAllowed z f past u.line.actor u (Armed id all) → IsNext z f u (Armed id all)
arming_is_next z f past u id all may = rw (may.0, may.1, may.2) refl

-- A line that reads a log: its begin, and what it reads.
taken : (z : Sizes) (line : Line) (command : Command) (f : Facts) (id : ℕ) → HasWork z f line.actor command → log_read command ≡ Some id
    → doing z line command f ≡ by line (Taken id) ∷ reading z line command id f
taken z line (GetLog i) f id works is =
    ap (doing_by z line (GetLog i) f) works ∙ ap (λ (n : ℕ). by line (Taken n) ∷ reading z line (GetLog i) n f) (some_is i id is)
taken z line (ClearLog i first count words) f id works is =
    ap (doing_by z line (ClearLog i first count words) f) works
    ∙ ap (λ (n : ℕ). by line (Taken n) ∷ reading z line (ClearLog i first count words) n f) (some_is i id is)
taken z line (Access gfn word op) f id works is = absurd (cc is)
taken z line (ChangeHost page change) f id works is = absurd (cc is)
taken z line (ChangeRun page change) f id works is = absurd (cc is)
taken z line (SetSlot i slot) f id works is = absurd (cc is)
taken z line (DeleteSlot i) f id works is = absurd (cc is)
taken z line (SetLog i on) f id works is = absurd (cc is)
taken z line (Migrate call) f id works is = absurd (cc is)
taken z line (Split gfn) f id works is = absurd (cc is)

pub taking_is_next : (z : Sizes) (f : Facts) (past : Past) (u : LineUnderWay) (id : ℕ) → IsAllowed z f past u.line.actor u (Taken id)
    → IsNext z f u (Taken id)
taking_is_next z f past u id (inl may) =
    ap (λ (s : Stage). rest_of z u.line s f) may.0
    ∙ (taken z u.line u.line.command f id may.1 may.2
    ∙ ap (λ (read : Option ℕ). by u.line (Taken id) ∷ rest_of z u.line (stage_taken read (logs_left f.slots u.line.command u.stage) id) f) (sym may.2))
taking_is_next z f past u id (inr may) =
    left_next z u.line u.line.command u.stage f id may.ids refl may.works may.left
    ∙ ap (λ (s : Stage). by u.line (Taken id) ∷ rest_of z u.line s f)
    (sym (next_stage (log_read u.line.command) (logs_left f.slots u.line.command u.stage) may.ids id (ap log_read may.asked) may.left))

read : (z : Sizes) (f : Facts) (past : Past) (line : Line) (stage : Stage) (id : ℕ) (frames : List ℕ) (takes : Bool)
    → MayRead z f past line.command stage id frames takes → frames ≡ asked_frames f.pending line.command (slot_of_id id f.slots)
    → rest_of z line stage f ≡ by line (harvest takes id frames) ∷ answers line (Bits (bits_for line.command (slot_read f.slots line.command) frames))
read z f past line stage id frames takes may is =
    ap (λ (s : Stage). rest_of z line s f) may.begun
    ∙ (ap (λ (b : Bool). harvested b (asked_frames f.pending line.command (slot_read f.slots line.command))) may.takes
    ∙ ap (harvested takes) (ap (λ (i : Option ℕ). asked_frames f.pending line.command (slot_at f.slots i)) may.reads ∙ sym is))
  where
    harvested : Bool → List ℕ → List Event
    harvested b xs = by line (harvest b id xs) ∷ answers line (Bits (bits_for line.command (slot_read f.slots line.command) xs))

pub harvest_is_next : (z : Sizes) (f : Facts) (past : Past) (u : LineUnderWay) (id : ℕ) (frames : List ℕ)
    → FallsAsFlat z f u.line.command (Harvested id frames) → IsAllowed z f past u.line.actor u (Harvested id frames) → IsNext z f u (Harvested id frames)
harvest_is_next z f past u id frames falls (inl may) =
    read z f past u.line u.stage id frames true may falls.2
    ∙ ap (λ (s : Stage). by u.line (Harvested id frames) ∷ rest_of z u.line (stage_read s frames (facts_after (Harvested id frames) f))
    (facts_after (Harvested id frames) f)) (sym may.begun)
harvest_is_next z f past u id frames falls (inr may) =
    ap (λ (s : Stage). rest_of z u.line s f) may.begun
    ∙ (ap (λ (xs : List ℕ). by u.line (Harvested id xs) ∷ reading_logs z u.line u.line.command may.ids (facts_after (Harvested id xs) f)) (sym falls.2)
    ∙ (ap (λ (es : List Event). by u.line (Harvested id frames) ∷ es) (sym (rest_read z u.line may.ids (facts_after (Harvested id frames) f)))
    ∙ ap (λ (s : Stage). by u.line (Harvested id frames) ∷ rest_of z u.line (stage_read s frames (facts_after (Harvested id frames) f))
    (facts_after (Harvested id frames) f)) (sym may.begun)))

pub showing_is_next : (z : Sizes) (f : Facts) (past : Past) (u : LineUnderWay) (id : ℕ) (frames : List ℕ)
    → FallsAsFlat z f u.line.command (Shown id frames) → IsAllowed z f past u.line.actor u (Shown id frames) → IsNext z f u (Shown id frames)
showing_is_next z f past u id frames falls may = read z f past u.line u.stage id frames false may falls.2

-- A line that changes a host page: its change.

-- a clause for each change
changed_host : (z : Sizes) (line : Line) (page : ℕ) (change : HostChange) (f : Facts) (entry : HostEntry)
    → FallsAsFlat z f (ChangeHost page change) (HostChanged page entry) → Changes z f.host page change entry
    → changing_host z line page change f ≡ by line (HostChanged page entry) ∷ answers line (host_answer (ChangeHost page change) entry)
changed_host z line page Move f entry falls is =
    ap (moving line page f) falls.1 ∙ ap (λ (e : HostEntry). by line (HostChanged page e) ∷ answers line (Moved entry.frame)) (sym is.0)
changed_host z line page Evict f entry falls is = ap (λ (e : HostEntry). by line (HostChanged page e) ∷ answers line Done) (sym is)
changed_host z line page Protect f entry falls is = ap (λ (e : HostEntry). by line (HostChanged page e) ∷ answers line Done) (sym is)
changed_host z line page Allow f entry falls is = ap (λ (e : HostEntry). by line (HostChanged page e) ∷ answers line Done) (sym is)

pub host_change_is_next : (z : Sizes) (f : Facts) (past : Past) (u : LineUnderWay) (page : ℕ) (entry : HostEntry)
    → FallsAsFlat z f u.line.command (HostChanged page entry)
    → IsAllowed z f past u.line.actor u (HostChanged page entry) → IsNext z f u (HostChanged page entry)
host_change_is_next z f past u page entry falls (inl may) =
    let works = subst (λ (c : Command). HasWork z f u.line.actor c) may.1.asked may.1.works in
    let falls_so = subst (λ (c : Command). FallsAsFlat z f c (HostChanged page entry)) may.1.asked falls in
    let stage_is : stage_changed u.line.command f.host u.stage page entry ≡ HasChangedHost entry =
    ap (λ (s : Stage). stage_changed u.line.command f.host s page entry) may.0
    ∙ ap (λ (c : Command). stage_changed c f.host Fresh page entry) may.1.asked in
    ap (λ (s : Stage). rest_of z u.line s f) may.0
    ∙ (subst (λ (c : Command). doing z u.line c f ≡ by u.line (HostChanged page entry) ∷ answers u.line (host_answer c entry)) (sym may.1.asked)
    (ap (doing_by z u.line (ChangeHost page may.1.change) f) works
    ∙ (ap (λ b. unless_huge u.line b (changing_host z u.line page may.1.change f)) (ap (nat_lt 1) (sym may.1.agrees.2) ∙ may.1.small)
    ∙ changed_host z u.line page may.1.change f entry falls_so may.1.changes))
    ∙ ap (λ (s : Stage). by u.line (HostChanged page entry) ∷ rest_of z u.line s (facts_after (HostChanged page entry) f)) (sym stage_is))
host_change_is_next z f past u page entry falls (inr (inl may)) = setting_is_next z f u page entry may.0 may.1
host_change_is_next z f past u page entry falls (inr (inr may)) = setting_on_is_next z f u page entry may

-- The answer: what the line's stage tells, or what it is answered at once.

-- a line that gives no slot a dirty log
unarmed : (z : Sizes) (line : Line) (command : Command) → arms command ≡ false → arming z line command ≡ answers line Done
unarmed z line (SetLog id true) is = absurd (cc is)
unarmed z line (SetLog id false) is = refl
unarmed z line (Access gfn word op) is = refl
unarmed z line _ is = refl

-- a clause for each stage
pub told : (z : Sizes) (line : Line) (stage : Stage) (f : Facts) (answer : Answer) → Tells z f line.actor line.command stage answer
    → rest_of z line stage f ≡ answers line answer
told z line Idle f answer tells = absurd tells
told z line Fresh f answer tells = ap (doing_by z line line.command f) tells
told z line (HasAccessed frame value) f answer tells = ap (answers line) (sym tells)
told z line (HasLeft how) f answer tells = ap (answers line) (sym tells)
told z line HasChanged f answer tells = unarmed z line line.command tells.1 ∙ ap (answers line) (sym tells.0)
told z line HasArmed f answer tells = ap (answers line) (sym tells)
told z line (HasTaken id) f answer tells = absurd tells
told z line (HasRead frames) f answer tells = ap (answers line) (sym tells)
told z line HasCalled f answer tells = ap (answers line) (sym tells)
told z line HasSetPause f answer tells = absurd tells
told z line (HasToRead ids) f answer tells = absurd tells
told z line (HasTakenNext id ids) f answer tells = absurd tells
told z line (HasToCopy frames count word) f answer tells =
    ap (λ (xs : List ℕ). copying z line line.command xs count word f) tells.0 ∙ ap (answers line) (sym tells.1)
told z line (HasChangedHost entry) f answer tells = ap (answers line) (sym tells)
told z line (HasToSet page left level) f answer tells =
    ap (λ (n : ℕ). setting_run line page n level f) tells.0 ∙ ap (answers line) (sym tells.1)
