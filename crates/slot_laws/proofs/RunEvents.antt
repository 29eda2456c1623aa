-- Over the events of a line that sets a run of host pages, and of others between them: each of its changes sets the next page of the run, and the first one
-- comes while the run isn't refused.
use Rattle.std.proofs.Common.{◌≡◌, inl, inr, ◌+◌, ℕ, zero, suc, false, true, List, [], ◌∷◌, refl, sym, ap, ap₂, ◌∙◌, subst}
use Rattle.std.specs.Prelude.{None}
use Rattle.core_views.specs.declared.actor.Actor.{Actor}
use Rattle.core_views.specs.declared.answer.Answer.{Answer}
use Rattle.core_views.specs.declared.event.Event.{Event}
use Rattle.core_views.specs.declared.event.EventKind.{EventKind}
use Rattle.core_views.specs.declared.event.EventKind.TheVariants.{HostChanged}
use Rattle.core_views.specs.declared.host.HostEntry.{HostEntry}
use Rattle.core_views.specs.declared.sizes.Sizes.{Sizes}
use Rattle.core_views.specs.declared.trace.Command.{Command}
use Rattle.core_views.specs.declared.trace.Command.TheVariants.{ChangeHost, ChangeRun}
use Rattle.core_views.specs.declared.trace.Line.{Line}
use Rattle.core_views.specs.declared.trace.RunChange.{RunChange}
use Rattle.core_views.specs.Events.{after, after_all, stage_changed, under_after}
use Rattle.core_views.specs.Flat.{Facts, Flat, Fresh, HasLeft, HasToSet, LineUnderWay, Notes, Stage}
use Rattle.core_views.specs.Host.{HostMap}
use Rattle.core_views.specs.HostRuns.{is_of_host, level_set, run_count, run_refusal}
use Rattle.core_views.specs.Lawful.{IsAllowed, IsLawful, MaySetNext, MaySetRun}
use Rattle.core_views.specs.Stages.{set_one}
use Rattle.core_views.proofs.RunStages.{each_change, some_set}
use Rattle.flat_laws.specs.Writes.{StaysWithin}
use Rattle.flat_laws.proofs.RunsAgree.{first_alike, fits_now}
use Rattle.slot_laws.specs.DoneLines.{by}
use Rattle.slot_laws.specs.OneChange.{TellsNoChange, is_change}
use Rattle.slot_laws.specs.RunLines.{SetsItsRun, SetsPages, first_set, level_change}
use Rattle.slot_laws.proofs.HostLineStages.{Changes, FitsHost, Leaves, Looks, OverHostOwn, over_host_line}
use Rattle.slot_laws.proofs.LineEvents.{OverOthers}

-- ---- the stages of such a line

-- It has set no page.
abbrev pub IsUnset : Stage → Type 0
IsUnset Fresh = Unit {0}
IsUnset (HasLeft how) = Unit {0}
IsUnset _ = ⊥

-- It has set each page of its run.
abbrev pub IsAllSet : Stage → Type 0
IsAllSet (HasToSet page left level) = left ≡ 0
IsAllSet _ = ⊥

not_both : (s : Stage) → IsUnset s → IsAllSet s → ⊥
not_both Fresh unset all = all
not_both (HasLeft how) unset all = all
not_both _ unset all = unset

-- ---- the first page that it sets

-- The host maps the pages of the run so that it isn't refused, and this is its first page, and the entry that the line gives to it.
record IsFirstSet (host : HostMap) (at : ℕ) (change : RunChange) (page : ℕ) (entry : HostEntry) : Type 0 where
  fits : run_refusal host at change ≡ None
  first : page ≡ first_set change at host
  entry_is : entry ≡ record (host page) { level = level_set change }

-- A line that may set a page first sets this one, as the host maps the run now.
first_of : (z : Sizes) (f : Facts) (actor : Actor) (command : Command) (notes : Notes) (page : ℕ) (entry : HostEntry)
    → (m : MaySetRun z f actor command notes page entry) → IsFirstSet f.host m.at m.change page entry
first_of z f actor command notes page entry m = record {
  fits = fits_now m.seen f.host m.at m.change m.agree m.fits;
  first = m.first ∙ first_alike m.change m.at (m.seen m.at) (f.host m.at) m.agrees.2;
  entry_is = m.entry_is;
}

event_is : (line : Line) (e : Event) (kind : EventKind) → e.actor ≡ line.actor → e.kind ≡ kind → e ≡ by line kind
event_is line e kind mine is = ap₂ (λ (a : Actor) (k : EventKind). record { actor = a; kind = k }) mine is

-- ---- over the line's events

module _ (z : Sizes) (line : Line) (at : ℕ) (change : RunChange) (asked : line.command ≡ ChangeRun at change) where
  abbrev level : ℕ
  level = level_set change

  abbrev stage_in : Flat → Stage
  stage_in f = (f.under line.actor).stage

  -- With so many pages left at first, and none at the end, it sets these.
  abbrev SetsLeft : Flat → List Event → Type 0
  SetsLeft f es = (page left : ℕ) → stage_in f ≡ HasToSet page left level → IsAllSet (stage_in (after_all es f)) → SetsPages line page left level f es

  -- With no page set at first, and each at the end, it sets the run.
  abbrev SetsAll : Flat → List Event → Type 0
  SetsAll f es = IsUnset (stage_in f) → IsAllSet (stage_in (after_all es f)) → SetsItsRun line f es

  -- With none set at the end it has changed none.
  abbrev SetsNone : Flat → List Event → Type 0
  SetsNone f es = IsUnset (stage_in (after_all es f)) → IsUnset (stage_in f) × TellsNoChange line.actor es

  abbrev IsNoChange : Event → Type 0
  IsNoChange e = e.actor ≡ line.actor → is_change e.kind ≡ false

  -- What is so of the events after one that changes nothing is so with it.
  left_later : (e : Event) (f : Flat) (es : List Event) (page left : ℕ) → IsNoChange e → SetsPages line page left level (after e f) es
      → SetsPages line page left level f (e ∷ es)
  left_later e f es page zero leaves sets = (leaves, sets)
  left_later e f es page (suc left) leaves sets = (e ∷ sets.0, sets.1, ap (λ (xs : List Event). e ∷ xs) sets.2, (leaves, sets.3), sets.4)

  run_later : (e : Event) (f : Flat) (es : List Event) → IsNoChange e → SetsItsRun line (after e f) es → SetsItsRun line f (e ∷ es)
  run_later e f es leaves R = record {
    at = R.at;
    change = R.change;
    asked = R.asked;
    early = e ∷ R.early;
    rest = R.rest;
    host = R.host;
    host_is = R.host_is;
    events_are = ap (λ (xs : List Event). e ∷ xs) R.events_are;
    none_early = (leaves, R.none_early);
    fits = R.fits;
    sets = R.sets;
  }

  -- An event that sets the page goes before those that set the ones after it.
  set_now : (e : Event) (f : Flat) (es : List Event) (page left : ℕ) → e ≡ level_change line page level f
      → SetsPages line (page + 1) left level (after e f) es → SetsPages line page (suc left) level f (e ∷ es)
  set_now e f es page left is sets =
      ([], es, ap (λ (x : Event). x ∷ es) is, tt, subst (λ (x : Event). SetsPages line (page + 1) left level (after x f) es) is sets)

  asked_there : (f : Flat) → (f.under line.actor).line ≡ line → (f.under line.actor).line.command ≡ ChangeRun at change
  asked_there f same = ap (λ (l : Line). l.command) same ∙ asked

  -- ---- where an event changes no page

  abbrev SetsBoth : Flat → List Event → Type 0
  SetsBoth f es = SetsLeft f es × SetsAll f es

  both_later : (e : Event) (f : Flat) (es : List Event) → IsNoChange e → stage_in (after e f) ≡ stage_in f → SetsBoth (after e f) es → SetsBoth f (e ∷ es)
  both_later e f es leaves same more = (
    λ page left stands all. left_later e f es page left leaves (more.0 page left (same ∙ stands) all),
    λ unset all. run_later e f es leaves (more.1 (subst IsUnset (sym same) unset) all),
  )

  both_left : (e : Event) (f : Flat) (es : List Event) (answer : Answer) → IsNoChange e → stage_in f ≡ Fresh → stage_in (after e f) ≡ HasLeft answer
      → SetsBoth (after e f) es → SetsBoth f (e ∷ es)
  both_left e f es answer leaves fresh left more =
      (λ page count stands all. absurd (cc (fresh, stands)), λ unset all. run_later e f es leaves (more.1 (subst IsUnset (sym left) tt) all))

  -- ---- where it changes one

  module _ (e : Event) (f : Flat) (es : List Event) (mine : e.actor ≡ line.actor) (same : (f.under line.actor).line ≡ line) (page : ℕ) (entry : HostEntry)
      (kind_is : e.kind ≡ HostChanged page entry) (now_ : (after e f).under line.actor ≡ under_after e.kind f.facts (f.under line.actor)) where
    abbrev u : LineUnderWay
    u = f.under line.actor

    stage_now : stage_in (after e f) ≡ stage_changed u.line.command f.facts.host u.stage page entry
    stage_now = ap (λ (v : LineUnderWay). v.stage) now_ ∙ ap (λ (k : EventKind). (under_after k f.facts u).stage) kind_is

    -- What it may do is by what it asks for.
    asked_so : (a : ℕ) (c : RunChange) → u.line.command ≡ ChangeRun a c → ChangeRun a c ≡ ChangeRun at change
    asked_so a c is = sym is ∙ asked_there f same

    -- It sets the first of the pages that are left.
    next_set : MaySetNext f.facts u.line.command u.stage page entry → SetsLeft (after e f) es → (first left : ℕ) → u.stage ≡ HasToSet first left level
        → IsAllSet (stage_in (after_all es (after e f))) → SetsPages line first left level f (e ∷ es)
    next_set m more first left stands all =
        subst (λ (n : ℕ). SetsPages line first n level f (e ∷ es)) (sym left_is)
        (set_now e f es first m.left
        (event_is line e (HostChanged first (record (f.facts.host first) { level = level })) mine (kind_is ∙ ap₂ HostChanged (sym page_is) entry_is))
        (more (first + 1) m.left
        (stage_now
        ∙ ap (λ (s : Stage). stage_changed u.line.command f.facts.host s page entry) (stands ∙ ap (λ (n : ℕ). HasToSet first n level) left_is)) all))
      where
        change_is : m.change ≡ change
        change_is = let so = asked_so m.at m.change m.asked in cc so

        stands_so : HasToSet first left level ≡ HasToSet page (suc m.left) (level_set m.change)
        stands_so = sym stands ∙ m.stands

        page_is : first ≡ page
        page_is = cc stands_so

        left_is : left ≡ suc m.left
        left_is = cc stands_so

        entry_is : entry ≡ record (f.facts.host first) { level = level }
        entry_is =
            m.entry_is
            ∙ ap₂ (λ (p : ℕ) (c : RunChange). record (f.facts.host p) { level = level_set c }) (sym page_is) change_is

    -- It sets the first page of the run.
    first_one : u.stage ≡ Fresh → IsFirstSet f.facts.host at change page entry → SetsLeft (after e f) es → IsAllSet (stage_in (after_all es (after e f)))
        → SetsItsRun line f (e ∷ es)
    first_one fresh F more all = record {
      at = at;
      change = change;
      asked = asked;
      early = [];
      rest = es;
      host = f.facts.host;
      host_is = refl;
      events_are = ap (λ (x : Event). x ∷ es) e_is;
      none_early = tt;
      fits = F.fits;
      sets = subst (λ (x : Event). SetsPages line first (run_count change (f.facts.host at)) level f (x ∷ es)) e_is
          (subst (λ (n : ℕ). SetsPages line first n level f (e ∷ es)) (sym some.1)
          (set_now e f es first some.0 e_is
          (more (first + 1) some.0
          (stage_now
          ∙ ap (λ (s : Stage). stage_changed u.line.command f.facts.host s page entry) fresh
          ∙ ap (λ (c : Command). stage_changed c f.facts.host Fresh page entry) (asked_there f same)
          ∙ ap₂ (λ (p n : ℕ). set_one p n level) F.first some.1) all)));
    }
      where
        first : ℕ
        first = first_set change at f.facts.host

        some : (n : ℕ) × (run_count change (f.facts.host at) ≡ suc n)
        some = some_set change (f.facts.host at)

        e_is : e ≡ level_change line first level f
        e_is =
            event_is line e (HostChanged first (record (f.facts.host first) { level = level })) mine
            (kind_is ∙ ap (HostChanged page) F.entry_is
            ∙ ap (λ (p : ℕ). HostChanged p (record (f.facts.host p) { level = level })) F.first)

    both_set : IsAllowed z f.facts f.past line.actor u (HostChanged page entry) → SetsBoth (after e f) es → SetsBoth f (e ∷ es)
    both_set (inl m) more =
        absurd (let other : ChangeHost page m.1.change ≡ ChangeRun at change = sym m.1.asked ∙ asked_there f same in cc other)
    both_set (inr (inl m)) more = (
      λ first left stands all. absurd (let fresh = m.0 in cc (fresh, stands)),
      λ unset all. first_one m.0 F more.0 all,
    )
      where
        F : IsFirstSet f.facts.host at change page entry
        F =
            let so = asked_so m.1.at m.1.change m.1.asked in
            let at_is : m.1.at ≡ at = cc so in
            let change_is : m.1.change ≡ change = cc so in
            subst (λ (c : RunChange). IsFirstSet f.facts.host at c page entry) change_is
            (subst (λ (a : ℕ). IsFirstSet f.facts.host a m.1.change page entry) at_is
            (first_of z f.facts line.actor u.line.command u.notes page entry m.1))
    both_set (inr (inr m)) more = (next_set m more.0, λ unset all. absurd (subst IsUnset m.stands unset))

    none_set : IsUnset (stage_in (after e f)) → ⊥
    none_set unset =
        each_change (λ s. IsUnset s → ⊥) (λ other x. x) (λ p n l x. x) u.line.command f.facts.host u.stage page entry (subst IsUnset stage_now unset)

  -- ---- all of them

  abbrev of_host : is_of_host line.command ≡ true
  of_host = ap is_of_host asked

  module _ (es : List Event) (f : Flat) (lawful : IsLawful z f es) (within : StaysWithin line.actor es) (same : (f.under line.actor).line ≡ line)
      (fits : FitsHost line.command (stage_in f)) where
    pub sets_both : SetsBoth f es
    sets_both = over_host_line z line of_host SetsBoth ends others own es f lawful within same fits
      where
        ends : (g : Flat) → FitsHost line.command (stage_in g) → SetsBoth g []
        ends g so = (
          λ page left stands all. subst (λ (n : ℕ). SetsPages line page n level g []) (sym (subst IsAllSet stands all)) tt,
          λ unset all. absurd (not_both (stage_in g) unset all),
        )

        others : OverOthers line SetsBoth
        others e g xs apart still more = both_later e g xs (λ mine. absurd (apart mine)) (ap (λ (v : LineUnderWay). v.stage) still) more

        own : OverHostOwn z line SetsBoth
        own e g xs mine is (Looks leaves still) now_ more = both_later e g xs (λ x. leaves) (ap (λ (v : LineUnderWay). v.stage) now_ ∙ still) more
        own e g xs mine is (Leaves answer leaves refused fresh left) now_ more =
            both_left e g xs answer (λ x. leaves) fresh (ap (λ (v : LineUnderWay). v.stage) now_ ∙ left) more
        own e g xs mine is (Changes page entry kind_is may) now_ more = both_set e g xs mine is page entry kind_is now_ may more

    pub sets_none : SetsNone f es
    sets_none = over_host_line z line of_host SetsNone (λ g so unset. (unset, tt)) others own es f lawful within same fits
      where
        others : OverOthers line SetsNone
        others e g xs apart still more unset =
            let M = more unset in (subst (λ (v : LineUnderWay). IsUnset v.stage) still M.0, (λ mine. absurd (apart mine), M.1))

        own : OverHostOwn z line SetsNone
        own e g xs mine is (Looks leaves still) now_ more unset =
            let M = more unset in (subst IsUnset (ap (λ (v : LineUnderWay). v.stage) now_ ∙ still) M.0, (λ x. leaves, M.1))
        own e g xs mine is (Leaves answer leaves refused fresh left) now_ more unset =
            let M = more unset in (subst IsUnset (sym fresh) tt, (λ x. leaves, M.1))
        own e g xs mine is (Changes page entry kind_is may) now_ more unset =
            absurd (none_set e g xs mine is page entry kind_is now_ (more unset).0)
