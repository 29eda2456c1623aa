-- In a lawful history each line that is under way has begun.
use Rattle.std.specs.Prelude.{if◌then◌else◌}
use Rattle.std.proofs.Common.{◌≡◌, ◌≢◌, ◌⊎◌, inl, inr, Bool, true, false, List, [], ◌∷◌, refl, ap, ◌∙◌, sym, subst}
use Rattle.core_views.specs.declared.actor.Actor.{Actor}
use Rattle.core_views.specs.declared.event.Event.{Event}
use Rattle.core_views.specs.declared.event.EventKind.{EventKind}
use Rattle.core_views.specs.declared.event.EventKind.TheVariants.{Answered, Begun}
use Rattle.core_views.specs.declared.sizes.Sizes.{Sizes}
use Rattle.core_views.specs.declared.trace.Line.{Line}
use Rattle.core_views.specs.Actors.{changed_at, is_same}
use Rattle.core_views.specs.Alone.{IsInside}
use Rattle.core_views.specs.Events.{after, after_all, under_after}
use Rattle.core_views.specs.Flat.{Facts, Flat, Idle, LineUnderWay, first_flat}
use Rattle.core_views.specs.Lawful.{IsAllowed, IsLawful}
use Rattle.core_views.proofs.SameActor.{changed_here, same_is}
use Rattle.flat_laws.specs.Writes.{StaysWithin}
use Rattle.flat_laws.proofs.StagesGoOn.{was_busy}
use Rattle.flat_laws.proofs.Writes.{apart_actors}
use Rattle.slot_laws.specs.OneChange.{HasBegunLine, LinesUnderWayHaveBegun}

-- Within a line its actor has this line under way.
pub same_line : (kind : EventKind) (f : Facts) (u : LineUnderWay) → IsInside kind → (under_after kind f u).line ≡ u.line
same_line (Begun line) f u within = absurd within
same_line (Answered number answer) f u within = absurd within
same_line _ f u within = refl

-- It was under way before these events, and none was begun or answered in them.
record IsOlder (actor : Actor) (line : Line) (f : Flat) (es : List Event) : Type 0 where
  busy : (f.under actor).stage ≢ Idle
  line_is : (f.under actor).line ≡ line
  within : StaysWithin actor es

module _ (z : Sizes) (actor : Actor) where
  abbrev Split : Line → Flat → List Event → Type 0
  Split line f es = HasBegunLine es actor line ⊎ IsOlder actor line f es

  -- the line under way after an event of the actor's own
  pub here : (e : Event) (f : Flat) → e.actor ≡ actor → (after e f).under actor ≡ under_after e.kind f.facts (f.under actor)
  here e f mine =
      ap (λ (x : Actor). changed_at x (under_after e.kind f.facts (f.under x)) f.under actor) mine
      ∙ changed_here actor (under_after e.kind f.facts (f.under actor)) f.under

  pub there : (e : Event) (f : Flat) → is_same e.actor actor ≡ false → (after e f).under actor ≡ f.under actor
  there e f apart = ap (λ (b : Bool). if b then under_after e.kind f.facts (f.under e.actor) else f.under actor) apart

  own_event : (kind : EventKind) (es : List Event) (line : Line) (f : Flat) → IsAllowed z f.facts f.past actor (f.under actor) kind
      → (under_after kind f.facts (f.under actor)).stage ≢ Idle → (under_after kind f.facts (f.under actor)).line ≡ line → StaysWithin actor es
      → Split line f (record { actor = actor; kind = kind } ∷ es)
  own_event (Begun l) es line f may busy is within = inl (record {
    before = [];
    since = es;
    history_is = ap (λ (x : Line). record { actor = actor; kind = Begun x } ∷ es) is;
    within = within;
  })
  own_event (Answered number answer) es line f may busy is within = absurd (busy refl)
  own_event kind es line f may busy is within = inr (record {
    busy = λ idle. was_busy z f.facts f.past actor (f.under actor) kind tt may idle;
    line_is = sym (same_line kind f.facts (f.under actor) tt) ∙ is;
    within = (λ x. tt, within);
  })

  split : (es : List Event) (f : Flat) (line : Line) → IsLawful z f es → ((after_all es f).under actor).stage ≢ Idle
      → ((after_all es f).under actor).line ≡ line → Split line f es
  split [] f line lawful busy is = inr (record { busy = busy; line_is = is; within = tt })
  split (e ∷ es) f line lawful busy is = by (split es (after e f) line lawful.1 busy is)
    where
      by_actor : (b : Bool) → is_same e.actor actor ≡ b → IsOlder actor line (after e f) es → Split line f (e ∷ es)
      by_actor true same O =
          let mine : e.actor ≡ actor = same_is e.actor actor same in
          subst (λ (x : Actor). Split line f (record { actor = x; kind = e.kind } ∷ es)) (sym mine)
          (own_event e.kind es line f (subst (λ (x : Actor). IsAllowed z f.facts f.past x (f.under x) e.kind) mine lawful.0)
          (λ idle. O.busy (ap (λ (u : LineUnderWay). u.stage) (here e f mine) ∙ idle))
          (ap (λ (u : LineUnderWay). u.line) (sym (here e f mine)) ∙ O.line_is) O.within)
      by_actor false apart O = inr (record {
        busy = λ idle. O.busy (ap (λ (u : LineUnderWay). u.stage) (there e f apart) ∙ idle);
        line_is = ap (λ (u : LineUnderWay). u.line) (sym (there e f apart)) ∙ O.line_is;
        within = (λ mine. absurd (apart_actors e.actor actor apart mine), O.within);
      })

      by : Split line (after e f) es → Split line f (e ∷ es)
      by (inl B) = inl (record {
        before = e ∷ B.before;
        since = B.since;
        history_is = ap (λ (xs : List Event). e ∷ xs) B.history_is;
        within = B.within;
      })
      by (inr O) = by_actor (is_same e.actor actor) refl O

pub lines_under_way_have_begun : LinesUnderWayHaveBegun
lines_under_way_have_begun z history actor lawful busy =
    by (split z actor history first_flat ((after_all history first_flat).under actor).line lawful busy refl)
  where
    by : Split z actor ((after_all history first_flat).under actor).line first_flat history
        → HasBegunLine history actor ((after_all history first_flat).under actor).line
    by (inl B) = B
    by (inr O) = absurd (O.busy refl)
