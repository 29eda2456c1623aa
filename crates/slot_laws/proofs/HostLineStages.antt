-- What a line of a host thread may do at its stages, and at which stages it is, whether it changes a host page or sets a run of them.
use Rattle.std.proofs.Common.{◌≡◌, inl, inr, ℕ, zero, suc, true, false, List, [], ◌∷◌, sym, ap, ◌∙◌, subst, refl}
use Rattle.std.specs.Prelude.{Option, None, Some}
use Rattle.core_views.specs.declared.actor.Actor.{Actor}
use Rattle.core_views.specs.declared.answer.Answer.{Answer}
use Rattle.core_views.specs.declared.answer.Answer.TheVariants.{Refused}
use Rattle.core_views.specs.declared.event.Event.{Event}
use Rattle.core_views.specs.declared.event.EventKind.{EventKind}
use Rattle.core_views.specs.declared.event.EventKind.TheVariants.{Begun, LookedAtPause, LookedAtSlots, LookedAtHost, BroughtIn, Accessed, Exited, SlotChanged}
use Rattle.core_views.specs.declared.event.EventKind.TheVariants.{HostChanged, Armed, Taken, Harvested, Shown, Answered}
use Rattle.core_views.specs.declared.event.EventKind.TheVariants.{GuestStopped, MigrationStarted, PauseSet, Resumed, WordCopied}
use Rattle.core_views.specs.declared.host.HostEntry.{HostEntry}
use Rattle.core_views.specs.declared.sizes.Sizes.{Sizes}
use Rattle.core_views.specs.declared.trace.Command.{Command}
use Rattle.core_views.specs.declared.trace.Command.TheVariants.{ChangeHost, ChangeRun}
use Rattle.core_views.specs.declared.trace.HostChange.TheVariants.{Move}
use Rattle.core_views.specs.declared.trace.Line.{Line}
use Rattle.core_views.specs.Alone.{IsInside}
use Rattle.core_views.specs.Events.{after, after_all, stage_changed, under_after}
use Rattle.core_views.specs.Flat.{Facts, Flat, Fresh, HasChangedHost, HasLeft, HasToSet, LineUnderWay, Notes, Stage}
use Rattle.core_views.specs.Host.{HostMap}
use Rattle.core_views.specs.HostChanges.{changes_host}
use Rattle.core_views.specs.HostRuns.{is_of_host, level_set, run_count, sets_run}
use Rattle.core_views.specs.Lawful.{IsAllowed, IsLawful, MayLeave}
use Rattle.core_views.specs.LogCommands.{log_read}
use Rattle.core_views.specs.Past.{Past}
use Rattle.core_views.specs.SlotCommands.{slot_change}
use Rattle.core_views.specs.SlotSets.{MemorySlots}
use Rattle.core_views.specs.Stages.{set_one}
use Rattle.flat_laws.specs.Writes.{StaysWithin}
use Rattle.slot_laws.specs.OneChange.{is_change, is_refused}
use Rattle.slot_laws.proofs.LineEvents.{OverOthers, OverOwn, over_line}

-- ---- what it may do

-- The stages of such a line: it has done nothing yet, or is refused, or has changed its page, or sets its run.
abbrev pub FitsHost : Command → Stage → Type 0
FitsHost command Fresh = Unit {0}
FitsHost command (HasLeft how) = is_refused how ≡ true
FitsHost command (HasChangedHost entry) = changes_host command ≡ true
FitsHost command (HasToSet page left level) = sets_run command ≡ true
FitsHost command _ = ⊥

-- An event of its own leaves its stage as it was; or gives it up, and it is refused; or changes a host page.
pub data OwnHost (z : Sizes) (f : Facts) (past : Past) (actor : Actor) (u : LineUnderWay) (kind : EventKind) : Type 0 where
  Looks : is_change kind ≡ false → (under_after kind f u).stage ≡ u.stage → OwnHost z f past actor u kind
  Leaves : (answer : Answer) → is_change kind ≡ false → is_refused answer ≡ true → u.stage ≡ Fresh → (under_after kind f u).stage ≡ HasLeft answer
      → OwnHost z f past actor u kind
  Changes : (page : ℕ) (entry : HostEntry) → kind ≡ HostChanged page entry → IsAllowed z f past actor u (HostChanged page entry)
      → OwnHost z f past actor u kind

left_refused : (z : Sizes) (f : Facts) (actor : Actor) (command : Command) (notes : Notes) (answer : Answer) → is_of_host command ≡ true
    → MayLeave z f actor command notes answer → is_refused answer ≡ true
left_refused z f actor command notes (Refused refusal) is may = refl
left_refused z f actor (ChangeHost page Move) notes answer is may = absurd may
left_refused z f actor (ChangeHost page change) notes answer is may = absurd may
left_refused z f actor (ChangeRun page change) notes answer is may = absurd may
left_refused z f actor _ notes answer is may = absurd (cc is)

-- It changes no slot, and reads no log.
changes_none : (slots : MemorySlots) (command : Command) → is_of_host command ≡ true → slot_change slots command ≡ None
changes_none slots (ChangeHost page change) is = refl
changes_none slots (ChangeRun page change) is = refl
changes_none slots _ is = absurd (cc is)

reads_none : (command : Command) → is_of_host command ≡ true → log_read command ≡ None
reads_none (ChangeHost page change) is = refl
reads_none (ChangeRun page change) is = refl
reads_none _ is = absurd (cc is)

none_some : {X : Type 0} (o : Option X) (x : X) → o ≡ None → o ≡ Some x → ⊥
none_some o x none some = cc (none, some)

-- It is no other command.
no_other : (command other : Command) → is_of_host command ≡ true → command ≡ other → is_of_host other ≡ false → ⊥
no_other command other is same not_ = let host : is_of_host other ≡ true = ap is_of_host (sym same) ∙ is in cc (host, not_)

own_host : (z : Sizes) (f : Facts) (past : Past) (actor : Actor) (u : LineUnderWay) (kind : EventKind) → is_of_host u.line.command ≡ true
    → IsAllowed z f past actor u kind → IsInside kind → FitsHost u.line.command u.stage → OwnHost z f past actor u kind
own_host z f past actor u (Begun l) is may inside fits = absurd inside
own_host z f past actor u (Answered number answer) is may inside fits = absurd inside
own_host z f past actor u LookedAtPause is may inside fits = Looks refl refl
own_host z f past actor u LookedAtSlots is may inside fits = Looks refl refl
own_host z f past actor u (LookedAtHost page) is may inside fits = Looks refl refl
own_host z f past actor u (BroughtIn page) is may inside fits = Looks refl refl
own_host z f past actor u (Accessed gfn word op frame value) is may inside fits = absurd (no_other u.line.command _ is may.1 refl)
own_host z f past actor u (Exited answer) is may inside fits =
    Leaves answer refl (left_refused z f actor u.line.command u.notes answer is may.1) may.0 refl
own_host z f past actor u (SlotChanged id slot) is may inside fits =
    absurd (none_some (slot_change f.slots u.line.command) (id, slot) (changes_none f.slots u.line.command is) may.2)
own_host z f past actor u (Armed id all) is may inside fits = absurd (no_other u.line.command _ is may.1 refl)
own_host z f past actor u (Taken id) is (inl may) inside fits = absurd (none_some (log_read u.line.command) id (reads_none u.line.command is) may.2)
own_host z f past actor u (Taken id) is (inr may) inside fits = absurd (no_other u.line.command _ is may.asked refl)
own_host z f past actor u (Harvested id frames) is (inl may) inside fits = absurd (subst (FitsHost u.line.command) may.begun fits)
own_host z f past actor u (Harvested id frames) is (inr may) inside fits = absurd (subst (FitsHost u.line.command) may.begun fits)
own_host z f past actor u (Shown id frames) is may inside fits = absurd (subst (FitsHost u.line.command) may.begun fits)
own_host z f past actor u (HostChanged page entry) is may inside fits = Changes page entry refl may
own_host z f past actor u MigrationStarted is may inside fits = absurd (no_other u.line.command _ is may.2 refl)
own_host z f past actor u PauseSet is may inside fits = absurd (no_other u.line.command _ is may.2 refl)
own_host z f past actor u GuestStopped is may inside fits = absurd (subst (FitsHost u.line.command) may fits)
own_host z f past actor u (WordCopied gfn other word value whole) is may inside fits = absurd (subst (FitsHost u.line.command) may.left fits)
own_host z f past actor u Resumed is may inside fits = absurd (no_other u.line.command _ is may.2 refl)

-- ---- at which stages it is

set_fits : (command : Command) (page left level : ℕ) → sets_run command ≡ true → FitsHost command (set_one page left level)
set_fits command page zero level is = is
set_fits command page (suc left) level is = is

changed_fits : (command : Command) (host : HostMap) (stage : Stage) (page : ℕ) (entry : HostEntry) → is_of_host command ≡ true → FitsHost command stage
    → FitsHost command (stage_changed command host stage page entry)
changed_fits command host (HasToSet next left level) page entry is fits = set_fits command next left level fits
changed_fits (ChangeHost at change) host _ page entry is fits = refl
changed_fits (ChangeRun at change) host _ page entry is fits = set_fits (ChangeRun at change) page (run_count change (host at)) (level_set change) refl
changed_fits _ host _ page entry is fits = absurd (cc is)

fits_own : (z : Sizes) (f : Facts) (past : Past) (actor : Actor) (u : LineUnderWay) (kind : EventKind) → is_of_host u.line.command ≡ true
    → FitsHost u.line.command u.stage → OwnHost z f past actor u kind → FitsHost u.line.command (under_after kind f u).stage
fits_own z f past actor u kind is fits (Looks leaves same) = subst (FitsHost u.line.command) (sym same) fits
fits_own z f past actor u kind is fits (Leaves answer leaves refused fresh left) = subst (FitsHost u.line.command) (sym left) refused
fits_own z f past actor u kind is fits (Changes page entry kind_is may) =
    subst (λ (k : EventKind). FitsHost u.line.command (under_after k f u).stage) (sym kind_is)
    (changed_fits u.line.command f.host u.stage page entry is fits)

-- ---- over the events within it

-- It goes on over an event of the line's own.
abbrev pub OverHostOwn : Sizes → Line → (Flat → List Event → Type 0) → Type 0
OverHostOwn z line P =
    (e : Event) (f : Flat) (es : List Event) → e.actor ≡ line.actor → (f.under line.actor).line ≡ line
    → OwnHost z f.facts f.past line.actor (f.under line.actor) e.kind
    → (after e f).under line.actor ≡ under_after e.kind f.facts (f.under line.actor) → P (after e f) es → P f (e ∷ es)

module _ (z : Sizes) (line : Line) (of_host : is_of_host line.command ≡ true) where
  abbrev Fits : Flat → Type 0
  Fits f = FitsHost line.command (f.under line.actor).stage

  pub over_host_line : (P : Flat → List Event → Type 0) → ((f : Flat) → FitsHost line.command (f.under line.actor).stage → P f []) → OverOthers line P
      → OverHostOwn z line P → (es : List Event) (f : Flat) → IsLawful z f es → StaysWithin line.actor es → (f.under line.actor).line ≡ line
      → FitsHost line.command (f.under line.actor).stage → P f es
  over_host_line P none others own es f lawful within is =
      over_line z line (λ g xs. Fits g → P g xs) (λ g same fits. none g fits)
      (λ e g xs apart still more fits. others e g xs apart still (more (subst (λ (u : LineUnderWay). FitsHost line.command u.stage) (sym still) fits)))
      by es f lawful within is
    where
      by : OverOwn z line (λ g xs. Fits g → P g xs)
      by e g xs mine inside same may now_ more fits =
          let u : LineUnderWay = g.under line.actor in
          let of_host_too : is_of_host u.line.command ≡ true = ap (λ (l : Line). is_of_host l.command) same ∙ of_host in
          let fits_too : FitsHost u.line.command u.stage = subst (λ (l : Line). FitsHost l.command u.stage) (sym same) fits in
          let did : OwnHost z g.facts g.past line.actor u e.kind = own_host z g.facts g.past line.actor u e.kind of_host_too may inside fits_too in
          own e g xs mine same did now_
          (more (subst (λ (l : Line). FitsHost l.command ((after e g).under line.actor).stage) same
          (subst (λ (v : LineUnderWay). FitsHost u.line.command v.stage) (sym now_)
          (fits_own z g.facts g.past line.actor u e.kind of_host_too fits_too did))))

  -- So it is after all its events.
  pub fits_all : (es : List Event) (f : Flat) → IsLawful z f es → StaysWithin line.actor es → (f.under line.actor).line ≡ line
      → FitsHost line.command (f.under line.actor).stage → FitsHost line.command ((after_all es f).under line.actor).stage
  fits_all es f lawful within is fits =
      over_host_line (λ g xs. Fits (after_all xs g)) (λ g so. so) (λ e g xs apart still more. more) (λ e g xs mine same did now_ more. more) es f lawful
      within is fits
