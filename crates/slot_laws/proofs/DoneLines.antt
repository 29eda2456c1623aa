-- A slot line is fresh until it changes its slot; after that it changes none.
use Rattle.std.proofs.Common.{◌≡◌, ◌≢◌, ◌⊎◌, inl, inr, ℕ, Bool, true, false, List, [], ◌∷◌, ◌++◌, refl, sym, ap, ◌∙◌, subst}
use Rattle.std.specs.Prelude.{Option, Some, None, if◌then◌else◌}
use Rattle.std.specs.Option.{option_map}
use Rattle.core_views.specs.declared.actor.Actor.{Actor}
use Rattle.core_views.specs.declared.answer.Answer.{Answer}
use Rattle.core_views.specs.declared.answer.Answer.TheVariants.{Done}
use Rattle.core_views.specs.declared.answer.Refusal.{Refusal}
use Rattle.core_views.specs.declared.event.Event.{Event}
use Rattle.core_views.specs.declared.event.EventKind.{EventKind}
use Rattle.core_views.specs.declared.event.EventKind.TheVariants.{Begun, LookedAtPause, LookedAtSlots, LookedAtHost, BroughtIn, Accessed, Exited, SlotChanged}
use Rattle.core_views.specs.declared.event.EventKind.TheVariants.{HostChanged, Armed, Taken, Harvested, Shown, Answered}
use Rattle.core_views.specs.declared.event.EventKind.TheVariants.{GuestStopped, MigrationStarted, PauseSet, Resumed, WordCopied}
use Rattle.core_views.specs.declared.migration.Migration.{Migration}
use Rattle.core_views.specs.declared.trace.MigrationCall.TheVariants.{Start, Finish, Resume}
use Rattle.core_views.specs.Migrations.{is_migrating, or_barred}
use Rattle.core_views.proofs.SlotChanges.{answered_by_slots}
use Rattle.core_views.specs.declared.sizes.Sizes.{Sizes}
use Rattle.core_views.specs.declared.memory_slot.MemorySlot.{MemorySlot}
use Rattle.core_views.specs.declared.trace.Command.{Command}
use Rattle.core_views.specs.declared.trace.Command.TheVariants.{Access}
use Rattle.core_views.specs.declared.trace.Line.{Line}
use Rattle.core_views.specs.Actors.{changed_at, is_same}
use Rattle.core_views.specs.Alone.{IsInside}
use Rattle.core_views.specs.Events.{after, after_all, under_after}
use Rattle.core_views.specs.Flat.{Facts, Flat, Fresh, HasArmed, HasChanged, HasLeft, HasSetPause, HasTakenNext, HasToCopy}
use Rattle.core_views.specs.Flat.{LineUnderWay, Stage, first_flat}
use Rattle.core_views.specs.Lawful.{IsAllowed, IsLawful, Tells, answer_at_once}
use Rattle.core_views.specs.LogCommands.{log_read}
use Rattle.core_views.specs.Past.{Past}
use Rattle.core_views.specs.SlotCommands.{change_at_once, changes_slot, refused_or_done, slot_change}
use Rattle.core_views.specs.SlotSets.{MemorySlots}
use Rattle.flat_laws.specs.Writes.{StaysWithin}
use Rattle.core_views.proofs.SameActor.{changed_here, same_is}
use Rattle.flat_laws.proofs.AloneIsLawful.{lawful_parts}
use Rattle.flat_laws.proofs.Writes.{apart_actors}
use Rattle.slot_laws.specs.DoneLines.{ChangesOnce, DoneComesOfOneChange, HasNothingToDo, LeavesSlots, NoneChanges, begins_after, by}
use Rattle.slot_laws.proofs.SlotLineStages.{is_over, is_past, no_call, no_look, none_left, not_at, not_done, not_fresh, not_taken, reads_none}
use Rattle.core_views.proofs.RunStages.{changes_at}

-- ---- what a slot line's own events are

-- It is under way, and stands so.
record IsUnderWay (line : Line) (stage : Stage) (u : LineUnderWay) : Type 0 where
  line_is : u.line ≡ line
  stage_is : u.stage ≡ stage

-- After an event of its own it is as fresh as before, or has changed its slot, as it asks; or it is given up.
data Own (line : Line) (f : Facts) (u : LineUnderWay) (kind : EventKind) : Type 0 where
  Looks : ((own : Actor) → LeavesSlots own line.actor kind) → IsUnderWay line Fresh (under_after kind f u) → Own line f u kind
  Changes : (id : ℕ) (slot : Option MemorySlot) → kind ≡ SlotChanged id slot → slot_change f.slots line.command ≡ Some (id, slot)
      → IsUnderWay line HasChanged (under_after kind f u) → Own line f u kind
  Leaves : (how : Answer) → how ≢ Done → ((own : Actor) → LeavesSlots own line.actor kind) → IsUnderWay line (HasLeft how) (under_after kind f u)
      → Own line f u kind

module _ (z : Sizes) (line : Line) (changes : changes_slot line.command ≡ true) where
  own : (f : Facts) (past : Past) (u : LineUnderWay) (kind : EventKind) → IsAllowed z f past line.actor u kind → IsInside kind → IsUnderWay line Fresh u
      → Own line f u kind
  own f past u (Begun l) may inside U = absurd inside
  own f past u LookedAtPause may inside U = Looks (λ o. tt) (record { line_is = U.line_is; stage_is = U.stage_is })
  own f past u LookedAtSlots may inside U = Looks (λ o. tt) (record { line_is = U.line_is; stage_is = U.stage_is })
  own f past u (LookedAtHost page) may inside U = Looks (λ o. tt) (record { line_is = U.line_is; stage_is = U.stage_is })
  own f past u (BroughtIn page) may inside U = Looks (λ o. tt) U
  own f past u (Accessed gfn word op frame value) may inside U =
      let is : line.command ≡ Access gfn word op = ap (λ (l : Line). l.command) (sym U.line_is) ∙ may.1 in absurd (cc (is, changes))
  own f past u (Exited answer) may inside U =
      Leaves answer (not_done z f line.actor u.line.command u.notes answer (ap (λ (l : Line). changes_slot l.command) U.line_is ∙ changes) may.1) (λ o. tt)
      (record { line_is = U.line_is; stage_is = refl })
  own f past u (SlotChanged id slot) may inside U =
      Changes id slot refl (ap (λ (l : Line). slot_change f.slots l.command) (sym U.line_is) ∙ may.2) (record { line_is = U.line_is; stage_is = refl })
  own f past u (Armed id all) may inside U = let is = may.0 in let fresh = U.stage_is in absurd (cc (is, fresh))
  own f past u (Taken id) (inl may) inside U = absurd (reads_none line.command id changes (ap (λ (l : Line). log_read l.command) (sym U.line_is) ∙ may.2))
  own f past u (Taken id) (inr may) inside U =
      absurd (no_call line.command u.line.command may.call (ap (λ (l : Line). l.command) (sym U.line_is)) may.asked changes)
  own f past u (Harvested id frames) (inl may) inside U = let is = may.begun in let fresh = U.stage_is in absurd (cc (is, fresh))
  own f past u (Harvested id frames) (inr may) inside U = let is = may.begun in let fresh = U.stage_is in absurd (cc (is, fresh))
  own f past u MigrationStarted may inside U = absurd (no_call line.command u.line.command Start (ap (λ (l : Line). l.command) (sym U.line_is)) may.2 changes)
  own f past u PauseSet may inside U = absurd (no_call line.command u.line.command Finish (ap (λ (l : Line). l.command) (sym U.line_is)) may.2 changes)
  own f past u Resumed may inside U = absurd (no_call line.command u.line.command Resume (ap (λ (l : Line). l.command) (sym U.line_is)) may.2 changes)
  own f past u GuestStopped may inside U = let fresh = U.stage_is in absurd (cc (may, fresh))
  own f past u (WordCopied gfn page word value whole) may inside U = let is = may.left in let fresh = U.stage_is in absurd (cc (is, fresh))
  own f past u (Shown id frames) may inside U = let is = may.begun in let fresh = U.stage_is in absurd (cc (is, fresh))
  own f past u (HostChanged page entry) (inl may) inside U =
      let asked = may.1.asked in let is = ap (λ (l : Line). l.command) (sym U.line_is) ∙ asked in absurd (cc (is, changes))
  own f past u (HostChanged page entry) (inr (inl may)) inside U =
      let asked = may.1.asked in let is = ap (λ (l : Line). l.command) (sym U.line_is) ∙ asked in absurd (cc (is, changes))
  own f past u (HostChanged page entry) (inr (inr may)) inside U =
      let asked = may.asked in let is = ap (λ (l : Line). l.command) (sym U.line_is) ∙ asked in absurd (cc (is, changes))
  own f past u (Answered number answer) may inside U = absurd inside

  -- Where it stands otherwise than fresh it makes no event but one: a log is armed after the change.
  armed_next : (f : Facts) (past : Past) (u : LineUnderWay) (kind : EventKind) → IsAllowed z f past line.actor u kind → IsInside kind
      → (u.stage ≡ HasChanged) ⊎ (u.stage ≡ HasArmed) → (o : Actor) → LeavesSlots o line.actor kind × ((under_after kind f u).stage ≡ HasArmed)
  armed_next f past u (Begun l) may inside at o = absurd inside
  armed_next f past u (Answered number answer) may inside at o = absurd inside
  armed_next f past u (Armed id all) may inside at o = (tt, refl)
  armed_next f past u LookedAtPause may inside at o = absurd (not_fresh u at may)
  armed_next f past u LookedAtSlots may inside at o = absurd (not_fresh u at may)
  armed_next f past u (LookedAtHost page) may inside at o = absurd (no_look u.stage (is_past u at) may)
  armed_next f past u MigrationStarted may inside at o = absurd (not_fresh u at may.0)
  armed_next f past u PauseSet may inside at o = absurd (not_fresh u at may.0)
  armed_next f past u Resumed may inside at o = absurd (not_fresh u at may.0)
  armed_next f past u GuestStopped may inside at o = absurd (not_at u.stage HasSetPause (is_past u at) may refl)
  armed_next f past u (WordCopied gfn page word value whole) may inside at o =
      absurd (not_at u.stage (HasToCopy (gfn ∷ may.frames) may.count word) (is_past u at) may.left refl)
  armed_next f past u (BroughtIn page) may inside at o = absurd (not_fresh u at may.0)
  armed_next f past u (Accessed gfn word op frame value) may inside at o = absurd (not_fresh u at may.0)
  armed_next f past u (Exited answer) may inside at o = absurd (not_fresh u at may.0)
  armed_next f past u (SlotChanged id slot) may inside at o = absurd (not_fresh u at may.0)
  armed_next f past u (Taken id) (inl may) inside at o = absurd (not_fresh u at may.0)
  armed_next f past u (Taken id) (inr may) inside at o = absurd (none_left f.slots u.line.command u.stage id may.ids (is_past u at) may.left)
  armed_next f past u (Harvested id frames) (inl may) inside at o = absurd (not_taken u id at may.begun)
  armed_next f past u (Harvested id frames) (inr may) inside at o = absurd (not_at u.stage (HasTakenNext id may.ids) (is_past u at) may.begun refl)
  armed_next f past u (Shown id frames) may inside at o = absurd (not_taken u id at may.begun)
  armed_next f past u (HostChanged page entry) may inside at o =
      absurd (changes_at (λ s. is_over s ≡ true → ⊥) (λ e. cc e) (λ p l n e. cc e) z f past line.actor u page entry may (is_past u at))

  -- Given up, it makes none.
  left_ends : (f : Facts) (past : Past) (u : LineUnderWay) (how : Answer) (kind : EventKind) → IsAllowed z f past line.actor u kind → IsInside kind
      → u.stage ≡ HasLeft how → ⊥
  left_ends f past u how (Begun l) may inside at = inside
  left_ends f past u how (Answered number answer) may inside at = inside
  left_ends f past u how (Armed id all) may inside at = let is = may.0 in cc (is, at)
  left_ends f past u how LookedAtPause may inside at = cc (may, at)
  left_ends f past u how LookedAtSlots may inside at = cc (may, at)
  left_ends f past u how (LookedAtHost page) may inside at = no_look u.stage (ap is_over at) may
  left_ends f past u how MigrationStarted may inside at = let is = may.0 in cc (is, at)
  left_ends f past u how PauseSet may inside at = let is = may.0 in cc (is, at)
  left_ends f past u how Resumed may inside at = let is = may.0 in cc (is, at)
  left_ends f past u how GuestStopped may inside at = cc (may, at)
  left_ends f past u how (WordCopied gfn page word value whole) may inside at = let is = may.left in cc (is, at)
  left_ends f past u how (BroughtIn page) may inside at = let is = may.0 in cc (is, at)
  left_ends f past u how (Accessed gfn word op frame value) may inside at = let is = may.0 in cc (is, at)
  left_ends f past u how (Exited answer) may inside at = let is = may.0 in cc (is, at)
  left_ends f past u how (SlotChanged id slot) may inside at = let is = may.0 in cc (is, at)
  left_ends f past u how (Taken id) (inl may) inside at = let is = may.0 in cc (is, at)
  left_ends f past u how (Taken id) (inr may) inside at = none_left f.slots u.line.command u.stage id may.ids (ap is_over at) may.left
  left_ends f past u how (Harvested id frames) (inl may) inside at = let is = may.begun in cc (is, at)
  left_ends f past u how (Harvested id frames) (inr may) inside at = let is = may.begun in cc (is, at)
  left_ends f past u how (Shown id frames) may inside at = let is = may.begun in cc (is, at)
  left_ends f past u how (HostChanged page entry) may inside at =
      changes_at (λ s. s ≡ HasLeft how → ⊥) (λ e. cc e) (λ p l n e. cc e) z f past line.actor u page entry may at

  -- ---- its events, and those of others between them

  abbrev ends : List Event
  ends = by line (Answered line.number Done) ∷ []

  abbrev Stands : Stage → Flat → Type 0
  Stands stage f = IsUnderWay line stage (f.under line.actor)

  -- An event of another actor leaves the line as it is.
  stays : (stage : Stage) (e : Event) (f : Flat) → is_same e.actor line.actor ≡ false → Stands stage f → Stands stage (after e f)
  stays stage e f apart U =
      subst (λ (b : Bool). IsUnderWay line stage (if b then under_after e.kind f.facts (f.under e.actor) else f.under line.actor)) (sym apart) U

  moves : (stage : Stage) (e : Event) (f : Flat) → e.actor ≡ line.actor → IsUnderWay line stage (under_after e.kind f.facts (f.under line.actor))
      → Stands stage (after e f)
  moves stage e f mine U =
      subst (λ (x : Actor). IsUnderWay line stage (changed_at x (under_after e.kind f.facts (f.under x)) f.under line.actor)) (sym mine)
      (subst (IsUnderWay line stage) (sym (changed_here line.actor (under_after e.kind f.facts (f.under line.actor)) f.under)) U)

  its_own : (e : Event) (f : Flat) → e.actor ≡ line.actor → IsAllowed z f.facts f.past e.actor (f.under e.actor) e.kind
      → IsAllowed z f.facts f.past line.actor (f.under line.actor) e.kind
  its_own e f mine may = subst (λ (x : Actor). IsAllowed z f.facts f.past x (f.under x) e.kind) mine may

  leaves_other : (e : Event) → is_same e.actor line.actor ≡ false → LeavesSlots line.actor e.actor e.kind
  leaves_other e apart = by_kind e.kind
    where
      by_kind : (kind : EventKind) → LeavesSlots line.actor e.actor kind
      by_kind (SlotChanged id slot) = λ mine. apart_actors e.actor line.actor apart mine
      by_kind _ = tt

  given_up : (how : Answer) → how ≢ Done → (es : List Event) (f : Flat) → IsLawful z f (es ++ ends) → StaysWithin line.actor es → Stands (HasLeft how) f → ⊥
  given_up how other [] f lawful within U =
      other (sym (subst (λ (s : Stage). Tells z f.facts line.actor (f.under line.actor).line.command s Done) U.stage_is lawful.0.1))
  given_up how other (e ∷ es) f lawful within U =
      by_actor (is_same e.actor line.actor) refl (λ V. given_up how other es (after e f) lawful.1 within.1 V)
    where
      by_actor : (b : Bool) → is_same e.actor line.actor ≡ b → (Stands (HasLeft how) (after e f) → ⊥) → ⊥
      by_actor true is more =
          let mine : e.actor ≡ line.actor = same_is e.actor line.actor is in
          left_ends f.facts f.past (f.under line.actor) how e.kind (its_own e f mine lawful.0) (within.0 mine) U.stage_is
      by_actor false is more = more (stays (HasLeft how) e f is U)

  no_more : (es : List Event) (f : Flat) → IsLawful z f (es ++ ends) → StaysWithin line.actor es → ((f.under line.actor).stage ≡ HasChanged)
      ⊎ ((f.under line.actor).stage ≡ HasArmed) → NoneChanges line.actor es
  no_more [] f lawful within at = tt
  no_more (e ∷ es) f lawful within at = by_actor (is_same e.actor line.actor) refl (λ later. no_more es (after e f) lawful.1 within.1 later)
    where
      by_actor : (b : Bool) → is_same e.actor line.actor ≡ b
          → ((((after e f).under line.actor).stage ≡ HasChanged) ⊎ (((after e f).under line.actor).stage ≡ HasArmed) → NoneChanges line.actor es)
          → NoneChanges line.actor (e ∷ es)
      by_actor true is more =
          let mine : e.actor ≡ line.actor = same_is e.actor line.actor is in
          let N = armed_next f.facts f.past (f.under line.actor) e.kind (its_own e f mine lawful.0) (within.0 mine) at line.actor in (
            subst (λ (x : Actor). LeavesSlots line.actor x e.kind) (sym mine) N.0,
            more (inr (ap (λ (x : Actor). (changed_at x (under_after e.kind f.facts (f.under x)) f.under line.actor).stage) mine
                ∙ ap (λ (u : LineUnderWay). u.stage) (changed_here line.actor (under_after e.kind f.facts (f.under line.actor)) f.under) ∙ N.1)),
          )
      by_actor false is more = (
        leaves_other e is,
        more (subst (λ (b : Bool). let u : LineUnderWay = if b then under_after e.kind f.facts (f.under e.actor) else f.under line.actor in
            (u.stage ≡ HasChanged) ⊎ (u.stage ≡ HasArmed)) (sym is) at),
      )

  -- ---- from its begin to its answer

  -- Done before it has changed anything it has nothing to do.
  done_at_once : (slots : MemorySlots) (migration : Migration) (command : Command) → changes_slot command ≡ true
      → answer_at_once z slots migration line.actor command ≡ Some Done → change_at_once z command slots ≡ Some None
  done_at_once slots migration command is told =
      not_barred (is_migrating migration) (change_at_once z command slots) (sym (answered_by_slots z slots migration line.actor command is) ∙ told)
    where
      not_refused : (o : Option (Option Refusal)) → option_map refused_or_done o ≡ Some Done → o ≡ Some None
      not_refused None e = absurd (cc e)
      not_refused (Some None) e = refl
      not_refused (Some (Some refusal)) e = absurd (cc e)

      not_barred : (barred : Bool) (o : Option (Option Refusal)) → or_barred barred (option_map refused_or_done o) ≡ Some Done → o ≡ Some None
      not_barred true o e = absurd (cc e)
      not_barred false o e = not_refused o e

  abbrev Told : Flat → List Event → Type 0
  Told f es = ChangesOnce line f es ⊎ HasNothingToDo z line f es

  one_more : (e : Event) (es : List Event) (f : Flat) → LeavesSlots line.actor e.actor e.kind → Told (after e f) es → Told f (e ∷ es)
  one_more e es f leaves (inl C) = inl (record {
    early = e ∷ C.early;
    late = C.late;
    id = C.id;
    slot = C.slot;
    events_are = ap (λ (xs : List Event). e ∷ xs) C.events_are;
    asked = C.asked;
    none_early = (leaves, C.none_early);
    none_late = C.none_late;
  })
  one_more e es f leaves (inr N) = inr (record { none = (leaves, N.none); done = N.done })

  changed_now : (e : Event) (es : List Event) (f : Flat) (id : ℕ) (slot : Option MemorySlot) → e.actor ≡ line.actor → e.kind ≡ SlotChanged id slot
      → slot_change f.facts.slots line.command ≡ Some (id, slot) → NoneChanges line.actor es → Told f (e ∷ es)
  changed_now e es f id slot mine is asked none = inl (record {
    early = [];
    late = es;
    id = id;
    slot = slot;
    events_are =
        ap (λ (x : Event). x ∷ es) (ap (λ (a : Actor). record { actor = a; kind = e.kind }) mine
        ∙ ap (λ (k : EventKind). record { actor = line.actor; kind = k }) is);
    asked = asked;
    none_early = tt;
    none_late = none;
  })

  told : (es : List Event) (f : Flat) → IsLawful z f (es ++ ends) → StaysWithin line.actor es → Stands Fresh f → Told f es
  told [] f lawful within U =
      inr (record {
        none = tt;
        done =
            done_at_once f.facts.slots f.facts.migration line.command changes
            (ap (λ (l : Line). answer_at_once z f.facts.slots f.facts.migration line.actor l.command) (sym U.line_is)
            ∙ subst (λ (s : Stage). Tells z f.facts line.actor (f.under line.actor).line.command s Done) U.stage_is lawful.0.1);
      })
  told (e ∷ es) f lawful within U = by_actor (is_same e.actor line.actor) refl (λ V. told es (after e f) lawful.1 within.1 V)
    where
      by_own : e.actor ≡ line.actor → Own line f.facts (f.under line.actor) e.kind → (Stands Fresh (after e f) → Told (after e f) es) → Told f (e ∷ es)
      by_own mine (Looks leaves V) more =
          one_more e es f (subst (λ (x : Actor). LeavesSlots line.actor x e.kind) (sym mine) (leaves line.actor)) (more (moves Fresh e f mine V))
      by_own mine (Changes id slot is asked V) more =
          let now_ = moves HasChanged e f mine V in
          changed_now e es f id slot mine is asked (no_more es (after e f) lawful.1 within.1 (inl now_.stage_is))
      by_own mine (Leaves how other leaves V) more = absurd (given_up how other es (after e f) lawful.1 within.1 (moves (HasLeft how) e f mine V))

      by_actor : (b : Bool) → is_same e.actor line.actor ≡ b → (Stands Fresh (after e f) → Told (after e f) es) → Told f (e ∷ es)
      by_actor true is more =
          let mine : e.actor ≡ line.actor = same_is e.actor line.actor is in
          by_own mine (own f.facts f.past (f.under line.actor) e.kind (its_own e f mine lawful.0) (within.0 mine) U) more
      by_actor false is more = one_more e es f (leaves_other e is) (more (stays Fresh e f is U))

pub done_comes_of_one_change : DoneComesOfOneChange
done_comes_of_one_change z before between line changes lawful within =
    told z line changes between (begins_after line before)
    (lawful_parts z before (by line (Begun line) ∷ (between ++ (by line (Answered line.number Done) ∷ []))) first_flat lawful).1.1 within
    (record {
      line_is = ap (λ (u : LineUnderWay). u.line) begun;
      stage_is = ap (λ (u : LineUnderWay). u.stage) begun;
    })
  where
    f : Flat
    f = after_all before first_flat

    begun : (after (by line (Begun line)) f).under line.actor ≡ under_after (Begun line) f.facts (f.under line.actor)
    begun = changed_here line.actor (under_after (Begun line) f.facts (f.under line.actor)) f.under
