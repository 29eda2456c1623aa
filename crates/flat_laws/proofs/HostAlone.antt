-- A host line that runs alone, from a state in which no line is under way, is lawful, and leaves none under way.
use Rattle.std.proofs.Common.{◌≡◌, inl, ℕ, [], ◌∷◌, ◌++◌, Bool, true, false, cond, refl}
use Rattle.std.proofs.lemmas.Bool.{eq-eqb}
use Rattle.std.specs.Prelude.{Option, Some, None}
use Rattle.core_views.specs.declared.answer.Answer.TheVariants.{Refused}
use Rattle.core_views.specs.declared.answer.Refusal.TheVariants.{IsHuge, NoFrame, OutOfRange}
use Rattle.core_views.specs.declared.host.HostEntry.{HostEntry}
use Rattle.core_views.specs.declared.event.EventKind.{EventKind}
use Rattle.core_views.specs.declared.event.EventKind.TheVariants.{LookedAtHost, Exited, HostChanged}
use Rattle.core_views.specs.declared.trace.Command.TheVariants.{ChangeHost}
use Rattle.core_views.specs.declared.trace.HostChange.{HostChange}
use Rattle.core_views.specs.declared.trace.HostChange.TheVariants.{Move, Evict, Protect, Allow}
use Rattle.core_views.specs.declared.sizes.Sizes.{Sizes}
use Rattle.core_views.specs.declared.trace.Line.{Line}
use Rattle.core_views.specs.Host.{HostNotes, is_huge, with_entry}
use Rattle.core_views.specs.HostChanges.{Changes, host_answer, is_own, lowest_free}
use Rattle.core_views.specs.Flat.{Facts, LineUnderWay, Flat, Fresh, no_notes}
use Rattle.core_views.specs.Events.{facts_after}
use Rattle.core_views.specs.Lawful.{MayChangeHost, MayLeave, SawHuge}
use Rattle.core_views.specs.FlatHistory.{by, answers, changing_host, moving, doing_by, unless_huge}
use Rattle.core_views.proofs.HostLines.{owned_answer}
use Rattle.core_views.proofs.LowestFrames.{free_is}
use Rattle.flat_laws.proofs.AloneSteps.{Closes, IsAt, allowed, answered, more, step}

-- what is noted of a page that was looked at
pub seen : (page : ℕ) (entry : HostEntry) (host : HostNotes) → with_entry page entry host page ≡ Some entry
seen page entry host = rw (eq-eqb page page refl) refl

-- A host line looks at its page, and changes it, where it is small.

abbrev looked : Line → Facts → ℕ → LineUnderWay
looked line facts page = record { line = line; stage = Fresh; notes = record no_notes { host = with_entry page (facts.host page) no_notes.host } }

may_change : (z : Sizes) (line : Line) (page : ℕ) (change : HostChange) (facts : Facts) (entry : HostEntry) → is_own z line.actor page ≡ true
    → is_huge (facts.host page) ≡ false → Changes z facts.host page change entry
    → MayChangeHost z facts line.actor (ChangeHost page change) (looked line facts page).notes page entry
may_change z line page change facts entry own small changed = record {
  change = change;
  asked = refl;
  works = rw own refl;
  seen = facts.host page;
  looked = seen page (facts.host page) no_notes.host;
  small = small;
  agrees = (refl, refl, refl, λ there. there);
  changes = changed;
}

changed_closes : (z : Sizes) (line : Line) (page : ℕ) (change : HostChange) (facts : Facts) (entry : HostEntry) (f : Flat) → is_own z line.actor page ≡ true
    → is_huge (facts.host page) ≡ false → line.command ≡ ChangeHost page change → Changes z facts.host page change entry
    → IsAt line.actor facts (looked line facts page) f
    → Closes z (by line (HostChanged page entry) ∷ answers line (host_answer (ChangeHost page change) entry)) f
changed_closes z line page change facts entry f own small is changed at =
    let event : EventKind = HostChanged page entry in
    more z (by line event) (answers line (host_answer (ChangeHost page change) entry)) f
    (allowed z line.actor event facts _ f at (inl (refl, rw is (may_change z line page change facts entry own small changed))))
    (answered z line (host_answer (ChangeHost page change) entry) (facts_after event facts) _ _ (step line.actor event facts _ f at) refl (rw is refl))

move_closes : (z : Sizes) (line : Line) (page : ℕ) (facts : Facts) (free : Option ℕ) (f : Flat) → lowest_free z facts.host ≡ free
    → is_own z line.actor page ≡ true → is_huge (facts.host page) ≡ false → line.command ≡ ChangeHost page Move
    → IsAt line.actor facts (looked line facts page) f → Closes z (moving line page facts free) f
move_closes z line page facts None f none own small is at =
    more z (by line (Exited (Refused NoFrame))) (answers line (Refused NoFrame)) f
    (allowed z line.actor (Exited (Refused NoFrame)) facts _ f at
    (refl, rw is (rw own refl, record { entry = facts.host page; looked = seen page (facts.host page) no_notes.host; small = small })))
    (answered z line (Refused NoFrame) facts _ _ (step line.actor (Exited (Refused NoFrame)) facts _ f at) refl refl)
move_closes z line page facts (Some frame) f found own small is at =
    let free = free_is z facts.host frame found in
    changed_closes z line page Move facts (record (facts.host page) { frame = frame }) f own small is (refl, free.0, free.1) at

change_closes_host : (z : Sizes) (line : Line) (page : ℕ) (change : HostChange) (facts : Facts) (f : Flat) → is_own z line.actor page ≡ true
    → is_huge (facts.host page) ≡ false → line.command ≡ ChangeHost page change → IsAt line.actor facts (looked line facts page) f
    → Closes z (changing_host z line page change facts) f
change_closes_host z line page Move facts f own small is at = move_closes z line page facts (lowest_free z facts.host) f refl own small is at
change_closes_host z line page Evict facts f own small is at = changed_closes z line page Evict facts _ f own small is refl at
change_closes_host z line page Protect facts f own small is at = changed_closes z line page Protect facts _ f own small is refl at
change_closes_host z line page Allow facts f own small is at = changed_closes z line page Allow facts _ f own small is refl at

-- by whether the page is part of a large one
unless_huge_closes : (z : Sizes) (line : Line) (page : ℕ) (change : HostChange) (facts : Facts) (f : Flat) (large : Bool) → is_own z line.actor page ≡ true
    → is_huge (facts.host page) ≡ large → line.command ≡ ChangeHost page change → IsAt line.actor facts (looked line facts page) f
    → Closes z (unless_huge line large (changing_host z line page change facts)) f
unless_huge_closes z line page change facts f true own huge is at =
    more z (by line (Exited (Refused IsHuge))) (answers line (Refused IsHuge)) f
    (allowed z line.actor (Exited (Refused IsHuge)) facts _ f at (refl, rw is (may_leave change)))
    (answered z line (Refused IsHuge) facts _ _ (step line.actor (Exited (Refused IsHuge)) facts _ f at) refl refl)
  where
    saw : SawHuge (looked line facts page).notes page
    saw = record { entry = facts.host page; looked = seen page (facts.host page) no_notes.host; huge = huge }

    may_leave : (c : HostChange) → MayLeave z facts line.actor (ChangeHost page c) (looked line facts page).notes (Refused IsHuge)
    may_leave Move = (rw own refl, saw)
    may_leave Evict = (rw own refl, saw)
    may_leave Protect = (rw own refl, saw)
    may_leave Allow = (rw own refl, saw)
unless_huge_closes z line page change facts f false own small is at = change_closes_host z line page change facts f own small is at

-- the whole of a host line after its begin, by whether the page is the actor's own
pub host_closes : (z : Sizes) (line : Line) (page : ℕ) (change : HostChange) (facts : Facts) (f : Flat) (own : Bool) → is_own z line.actor page ≡ own
    → line.command ≡ ChangeHost page change → IsAt line.actor facts (record { line = line; stage = Fresh; notes = no_notes }) f
    → Closes z (cond own (by line (LookedAtHost page) ∷ []) []
    ++ doing_by z line (ChangeHost page change) facts (owned_answer own)) f
host_closes z line page change facts f true own is at =
    more z (by line (LookedAtHost page)) (unless_huge line (is_huge (facts.host page)) (changing_host z line page change facts)) f
    (allowed z line.actor (LookedAtHost page) facts _ f at refl)
    (unless_huge_closes z line page change facts _ (is_huge (facts.host page)) own refl is (step line.actor (LookedAtHost page) facts _ f at))
host_closes z line page change facts f false own is at = answered z line (Refused OutOfRange) facts _ f at refl (rw (is, own) refl)
