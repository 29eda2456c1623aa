-- A line that runs alone, from a state in which no line is under way, is lawful, and leaves none under way.
use Rattle.std.proofs.Common.{◌≡◌, ℕ, List, [], ◌∷◌, ◌++◌, Bool, true, false, refl, sym, ap, ◌∙◌, subst}
use Rattle.std.specs.Prelude.{Option, Some, None}
use Rattle.core_views.specs.declared.answer.Answer.{Answer}
use Rattle.core_views.specs.declared.answer.Answer.TheVariants.{Reached, Mmio, HostFault, Paused, Done}
use Rattle.core_views.specs.declared.event.Event.{Event}
use Rattle.core_views.specs.declared.event.EventKind.{EventKind}
use Rattle.core_views.specs.declared.event.EventKind.TheVariants.{Begun, LookedAtPause, LookedAtSlots, LookedAtHost, BroughtIn, Accessed, Exited, SlotChanged}
use Rattle.core_views.specs.declared.event.EventKind.TheVariants.{Armed}
use Rattle.core_views.specs.declared.trace.Command.{Command}
use Rattle.core_views.specs.declared.trace.Command.TheVariants.{Access, ChangeHost, ChangeRun, ClearLog, GetLog, Migrate, SetLog, Split}
use Rattle.core_views.specs.declared.sizes.Sizes.{Sizes}
use Rattle.core_views.specs.declared.trace.Line.{Line}
use Rattle.core_views.specs.declared.trace.Op.{Op}
use Rattle.core_views.specs.declared.memory_slot.MemorySlot.{MemorySlot}
use Rattle.core_views.specs.Slots.{page_behind}
use Rattle.core_views.specs.SlotSets.{flat_slots}
use Rattle.core_views.specs.Host.{HostNotes, brought_in, is_denied, mapping, with_entry}
use Rattle.core_views.specs.HostChanges.{is_own}
use Rattle.core_views.specs.Names.{frame_at, frame_for}
use Rattle.core_views.specs.Flat.{Facts, LineUnderWay, Flat, Fresh, HasChanged, no_notes}
use Rattle.core_views.specs.Events.{after, after_all, facts_after, facts_after_all}
use Rattle.core_views.specs.Lawful.{HasWork, IsLawful, SawAbsent, SawForbidden, SawNoPage, answer_at_once, slot_change}
use Rattle.core_views.specs.LogCommands.{is_all_set}
use Rattle.core_views.specs.SlotCommands.{arms}
use Rattle.core_views.specs.FlatHistory.{by, answers, accessing, bringing, reaching, doing, doing_by, rest_of, looks, looks_behind}
use Rattle.core_views.specs.FlatHistory.{alone, arming, one_by_one, unless_paused, working}
use Rattle.core_views.specs.Migrations.{is_paused}
use Rattle.core_views.proofs.Barred.{goes_on}
use Rattle.core_views.proofs.HostLines.{mapped}
use Rattle.core_views.proofs.SlotChanges.{changes}
use Rattle.flat_laws.proofs.Caused.{AreCaused, all_caused, caused_after}
use Rattle.flat_laws.proofs.Writes.{AreOfLines, all_of_lines}
use Rattle.flat_laws.proofs.AloneSteps.{AllIdle, Closes, IsAt, allowed, answered, more, step}
use Rattle.flat_laws.proofs.AloneReads.{read_or_answer}
use Rattle.flat_laws.proofs.HostAlone.{host_closes, seen}
use Rattle.flat_laws.proofs.RunsAlone.{run_closes}
use Rattle.core_views.specs.HostRuns.{owns_run}
use Rattle.flat_laws.proofs.MigrationsAlone.{caused_at, migrates_or_answers}

-- An access looks at the pause, at the slots, and at the host page that they give it.

abbrev noted : Line → Facts → HostNotes → LineUnderWay
noted line facts host =
    record { line = line; stage = Fresh; notes = record { paused = Some (is_paused facts.migration); slots = Some (flat_slots facts.slots); host = host } }

-- It reaches the page's word, where the page is present and nothing forbids it.
access_at : (z : Sizes) (line : Line) (gfn word : ℕ) (op : Op) (facts : Facts) (page frame : ℕ) (u : LineUnderWay) (f : Flat)
    → page_behind (flat_slots facts.slots) gfn op ≡ Some page → frame_for op (facts.host page) ≡ Some frame → line.command ≡ Access gfn word op
    → u.line ≡ line → u.stage ≡ Fresh → u.notes.paused ≡ Some false → is_paused facts.migration ≡ false → IsAt line.actor facts u f
    → Closes z (by line (Accessed gfn word op frame (facts.memory page word)) ∷ answers line (Reached frame (facts.memory page word))) f
access_at z line gfn word op facts page frame u f behind named is own fresh runs goes at =
    let access : EventKind = Accessed gfn word op frame (facts.memory page word) in
    more z (by line access) (answers line (Reached frame (facts.memory page word))) f
    (allowed z line.actor access facts u f at (
      fresh,
      ap (λ (l : Line). l.command) own ∙ is,
      runs,
      record { named = ap (frame_at facts.host op) behind ∙ named; page = page; behind = behind; value_is = refl; goes = goes_on facts.migration goes },
    ))
    (answered z line (Reached frame (facts.memory page word)) (facts_after access facts) _ _ (step line.actor access facts u f at) own refl)

-- It brings its page in first, if that isn't present.
reached_closes : (z : Sizes) (line : Line) (gfn word : ℕ) (op : Op) (facts : Facts) (page : ℕ) (present : Bool) (f : Flat)
    → page_behind (flat_slots facts.slots) gfn op ≡ Some page → is_denied op (facts.host page) ≡ false → (facts.host page).present ≡ present
    → line.command ≡ Access gfn word op → is_paused facts.migration ≡ false
    → IsAt line.actor facts (noted line facts (with_entry page (facts.host page) no_notes.host)) f
    → Closes z (bringing line page present ++ (by line (Accessed gfn word op (facts.host page).frame (facts.memory page word))
    ∷ answers line (Reached (facts.host page).frame (facts.memory page word)))) f
reached_closes z line gfn word op facts page true f behind allows here is runs at =
    access_at z line gfn word op facts page (facts.host page).frame _ f behind (rw (allows, here) refl) is refl refl (ap Some runs) runs at
reached_closes z line gfn word op facts page false f behind allows absent is runs at =
    let saw : SawAbsent facts (noted line facts (with_entry page (facts.host page) no_notes.host)).notes gfn op page =
    record {
      runs = ap Some runs;
      slots = flat_slots facts.slots;
      noted = refl;
      behind = behind;
      looked = seen page (facts.host page) no_notes.host;
      absent = absent;
      allows = allows;
    } in
    let brought : EventKind = BroughtIn page in
    let named : frame_for op (mapping page (brought_in (facts.host page)) facts.host page) ≡ Some (facts.host page).frame =
    ap (frame_for op) (mapped page (brought_in (facts.host page)) facts.host) ∙ rw allows refl in
    more z (by line brought) _ f
    (allowed z line.actor brought facts _ f at (refl, rw is saw))
    (access_at z line gfn word op (facts_after brought facts) page (facts.host page).frame _ _ behind named is refl refl (ap Some runs) runs
    (step line.actor brought facts _ f at))

reaching_closes : (z : Sizes) (line : Line) (gfn word : ℕ) (op : Op) (facts : Facts) (page : ℕ) (denied : Bool) (f : Flat)
    → page_behind (flat_slots facts.slots) gfn op ≡ Some page → is_denied op (facts.host page) ≡ denied → line.command ≡ Access gfn word op
    → is_paused facts.migration ≡ false → IsAt line.actor facts (noted line facts (with_entry page (facts.host page) no_notes.host)) f
    → Closes z (reaching line gfn word op facts page denied) f
reaching_closes z line gfn word op facts page true f behind denies is runs at =
    let saw : SawForbidden (noted line facts (with_entry page (facts.host page) no_notes.host)).notes gfn op =
    record {
      runs = ap Some runs;
      slots = flat_slots facts.slots;
      noted = refl;
      page = page;
      behind = behind;
      entry = facts.host page;
      looked = seen page (facts.host page) no_notes.host;
      forbids = denies;
    } in
    more z (by line (Exited HostFault)) (answers line HostFault) f
    (allowed z line.actor (Exited HostFault) facts _ f at (refl, rw is saw))
    (answered z line HostFault facts _ _ (step line.actor (Exited HostFault) facts _ f at) refl refl)
reaching_closes z line gfn word op facts page false f behind denies is runs at =
    reached_closes z line gfn word op facts page (facts.host page).present f behind denies refl is runs at

access_closes : (z : Sizes) (line : Line) (gfn word : ℕ) (op : Op) (facts : Facts) (page : Option ℕ) (f : Flat)
    → page_behind (flat_slots facts.slots) gfn op ≡ page → line.command ≡ Access gfn word op
    → is_paused facts.migration ≡ false → IsAt line.actor facts (noted line facts no_notes.host) f
    → Closes z (looks_behind line page ++ accessing line gfn word op facts page) f
access_closes z line gfn word op facts None f none is runs at =
    let saw : SawNoPage (noted line facts no_notes.host).notes gfn op =
    record { runs = ap Some runs; slots = flat_slots facts.slots; noted = refl; none = none } in
    more z (by line (Exited Mmio)) (answers line Mmio) f
    (allowed z line.actor (Exited Mmio) facts _ f at (refl, rw is saw))
    (answered z line Mmio facts _ _ (step line.actor (Exited Mmio) facts _ f at) refl refl)
access_closes z line gfn word op facts (Some page) f behind is runs at =
    more z (by line (LookedAtHost page)) (reaching line gfn word op facts page (is_denied op (facts.host page))) f
    (allowed z line.actor (LookedAtHost page) facts _ f at refl)
    (reaching_closes z line gfn word op facts page (is_denied op (facts.host page)) _ behind refl is runs (step line.actor (LookedAtHost page) facts _ f at))

-- While the guest is paused it leaves, whatever it looks at.
leaves_paused : (z : Sizes) (line : Line) (facts : Facts) (host : HostNotes) (f : Flat) (gfn word : ℕ) (op : Op) → line.command ≡ Access gfn word op
    → is_paused facts.migration ≡ true → IsAt line.actor facts (noted line facts host) f → Closes z (by line (Exited Paused) ∷ answers line Paused) f
leaves_paused z line facts host f gfn word op is paused at =
    more z (by line (Exited Paused)) (answers line Paused) f
    (allowed z line.actor (Exited Paused) facts _ f at (refl, rw is (ap Some paused)))
    (answered z line Paused facts _ _ (step line.actor (Exited Paused) facts _ f at) refl refl)

paused_closes : (z : Sizes) (line : Line) (gfn word : ℕ) (op : Op) (facts : Facts) (page : Option ℕ) (f : Flat) → line.command ≡ Access gfn word op
    → is_paused facts.migration ≡ true → IsAt line.actor facts (noted line facts no_notes.host) f
    → Closes z (looks_behind line page ++ (by line (Exited Paused) ∷ answers line Paused)) f
paused_closes z line gfn word op facts None f is paused at = leaves_paused z line facts no_notes.host f gfn word op is paused at
paused_closes z line gfn word op facts (Some page) f is paused at =
    more z (by line (LookedAtHost page)) (by line (Exited Paused) ∷ answers line Paused) f
    (allowed z line.actor (LookedAtHost page) facts _ f at refl)
    (leaves_paused z line facts (with_entry page (facts.host page) no_notes.host) _ gfn word op is paused (step line.actor (LookedAtHost page) facts _ f at))

unless_closes : (z : Sizes) (line : Line) (gfn word : ℕ) (op : Op) (facts : Facts) (page : Option ℕ) (paused : Bool) (f : Flat)
    → page_behind (flat_slots facts.slots) gfn op ≡ page → line.command ≡ Access gfn word op → is_paused facts.migration ≡ paused
    → IsAt line.actor facts (noted line facts no_notes.host) f
    → Closes z (looks_behind line page ++ unless_paused line paused (accessing line gfn word op facts page)) f
unless_closes z line gfn word op facts page true f behind is paused at = paused_closes z line gfn word op facts page f is paused at
unless_closes z line gfn word op facts page false f behind is runs at = access_closes z line gfn word op facts page f behind is runs at

-- A line that has changed its slot arms it, if it is to, and is done.
arms_closes : (z : Sizes) (line : Line) (command : Command) (facts : Facts) (f : Flat) → line.command ≡ command
    → IsAt line.actor facts (record { line = line; stage = HasChanged; notes = no_notes }) f → Closes z (arming z line command) f
arms_closes z line (SetLog id true) facts f is at =
    let event : EventKind = Armed id (is_all_set z.mode) in
    more z (by line event) (answers line Done) f
    (allowed z line.actor event facts _ f at (refl, is, refl))
    (answered z line Done (facts_after event facts) _ _ (step line.actor event facts _ f at) refl refl)
arms_closes z line (SetLog id false) facts f is at = answered z line Done facts _ f at refl (refl, ap arms is)
arms_closes z line (Access gfn word op) facts f is at = answered z line Done facts _ f at refl (refl, ap arms is)
arms_closes z line _ facts f is at = answered z line Done facts _ f at refl (refl, ap arms is)

change_closes : (z : Sizes) (line : Line) (command : Command) (facts : Facts) (f : Flat) (change : ℕ × Option MemorySlot)
    → slot_change facts.slots command ≡ Some change
    → HasWork z facts line.actor command → line.command ≡ command → IsAt line.actor facts (record { line = line; stage = Fresh; notes = no_notes }) f
    → Closes z (working z line command facts) f
change_closes z line command facts f change changed works is at =
    let event : EventKind = SlotChanged change.0 change.1 in
    subst (λ (es : List Event). Closes z es f) (sym (changes z line command facts change changed))
    (more z (by line event) (arming z line command) f
    (allowed z line.actor event facts _ f at (refl, rw is works, rw is changed))
    (arms_closes z line command (facts_after event facts) _ is (step line.actor event facts _ f at)))

-- A line that has nothing to do is answered at once.
change_or_answer : (z : Sizes) (line : Line) (command : Command) (facts : Facts) (f : Flat) (change : ℕ × Option MemorySlot)
    → slot_change facts.slots command ≡ Some change
    → line.command ≡ command → IsAt line.actor facts (record { line = line; stage = Fresh; notes = no_notes }) f → Closes z (doing z line command facts) f
change_or_answer z line command facts f change changed is at = by_answer (answer_at_once z facts.slots facts.migration line.actor command) refl
  where
    by_answer : (answer : Option Answer) → answer_at_once z facts.slots facts.migration line.actor command ≡ answer
        → Closes z (doing_by z line command facts answer) f
    by_answer None works = change_closes z line command facts f change changed works is at
    by_answer (Some answer) says = answered z line answer facts _ f at refl (rw is says)

doing_closes : (z : Sizes) (line : Line) (command : Command) (facts : Facts) (f : Flat) → line.command ≡ command → AreCaused f.facts f.past
    → IsAt line.actor facts (record { line = line; stage = Fresh; notes = no_notes }) f → Closes z (looks z line command facts ++ doing z line command facts) f
doing_closes z line (Access gfn word op) facts f is caused at =
    let page : Option ℕ = page_behind (flat_slots facts.slots) gfn op in
    let rest : List Event = unless_paused line (is_paused facts.migration) (accessing line gfn word op facts page) in
    more z (by line LookedAtPause) (by line LookedAtSlots ∷ (looks_behind line page ++ rest)) f
    (allowed z line.actor LookedAtPause facts _ f at refl)
    (more z (by line LookedAtSlots) (looks_behind line page ++ rest) _
    (allowed z line.actor LookedAtSlots facts _ _ (step line.actor LookedAtPause facts _ f at) refl)
    (unless_closes z line gfn word op facts page (is_paused facts.migration) _ refl is refl
    (step line.actor LookedAtSlots facts _ _ (step line.actor LookedAtPause facts _ f at))))
doing_closes z line (ChangeHost page change) facts f is caused at = host_closes z line page change facts f (is_own z line.actor page) refl is at
doing_closes z line (ChangeRun page change) facts f is caused at = run_closes z line page change facts f (owns_run z line.actor page change) refl is at
doing_closes z line (GetLog id) facts f is caused at =
    read_or_answer z line (GetLog id) id facts f is refl refl (caused_at facts f at.facts_are caused) at
doing_closes z line (ClearLog id first count words) facts f is caused at =
    read_or_answer z line (ClearLog id first count words) id facts f is refl refl (caused_at facts f at.facts_are caused) at
doing_closes z line (Migrate call) facts f is caused at = migrates_or_answers z line call facts f is caused at
doing_closes z line (Split gfn) facts f is caused at = answered z line Done facts _ f at refl (rw is refl)
doing_closes z line command facts f is caused at = change_or_answer z line command facts f _ refl is at

-- What the state keeps of writes is kept along the way.
pub record IsKept (f : Flat) : Type 0 where
  pub lines : AreOfLines f
  pub caused : AreCaused f.facts f.past

alone_closes : (z : Sizes) (line : Line) (f : Flat) → AllIdle f → IsKept f → Closes z (alone z line f.facts) f
alone_closes z line f idle kept =
    let start : IsAt line.actor f.facts (f.under line.actor) f = record { facts_are = refl; line_is = refl; others = λ i apart. idle i } in
    let caused = caused_after line.actor (Begun line) f.facts f.past tt kept.caused in
    more z (by line (Begun line)) (looks z line line.command f.facts ++ rest_of z line Fresh f.facts) f (idle line.actor, refl)
    (doing_closes z line line.command f.facts (after (by line (Begun line)) f) refl caused
    (step line.actor (Begun line) f.facts (f.under line.actor) f start))

pub lawful_append : (z : Sizes) (xs ys : List Event) (f : Flat) → IsLawful z f xs → IsLawful z (after_all xs f) ys → IsLawful z f (xs ++ ys)
lawful_append z [] ys f front back = back
lawful_append z (x ∷ xs) ys f front back = (front.0, lawful_append z xs ys (after x f) front.1 back)

-- The front of a lawful history is lawful, and what comes after it, in the state that it leads to.
pub lawful_parts : (z : Sizes) (xs ys : List Event) (f : Flat) → IsLawful z f (xs ++ ys) → IsLawful z f xs × IsLawful z (after_all xs f) ys
lawful_parts z [] ys f lawful = (tt, lawful)
lawful_parts z (x ∷ xs) ys f lawful = let rest = lawful_parts z xs ys (after x f) lawful.1 in ((lawful.0, rest.0), rest.1)

pub one_by_one_lawful : (z : Sizes) (lines : List Line) (f : Flat) → AllIdle f → IsKept f → IsLawful z f (one_by_one z lines f.facts)
one_by_one_lawful z [] f idle kept = tt
one_by_one_lawful z (line ∷ lines) f idle kept =
    let closes = alone_closes z line f idle kept in
    let then_ : Flat = after_all (alone z line f.facts) f in
    let kept_then : IsKept then_ =
    record {
      lines = all_of_lines z (alone z line f.facts) f closes.lawful kept.lines;
      caused = all_caused z (alone z line f.facts) f closes.lawful kept.lines kept.caused;
    } in
    lawful_append z (alone z line f.facts) (one_by_one z lines (facts_after_all (alone z line f.facts) f.facts)) f closes.lawful
    (subst (λ (g : Facts). IsLawful z then_ (one_by_one z lines g)) closes.facts_are (one_by_one_lawful z lines then_ closes.idle kept_then))
