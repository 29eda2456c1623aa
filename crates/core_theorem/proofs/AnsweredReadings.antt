-- A reading that takes frames out of a log is answered with their bits at once: its step tells the answer as its next event.
use Rattle.std.proofs.Common.{◌≡◌, ◌⊎◌, inl, inr, ℕ, List, [], ◌∷◌, ◌++◌, refl, sym, subst, ap, ◌∙◌}
use Rattle.std.proofs.lemmas.List.Elements.{All-head, All-tail}
use Rattle.std.specs.Prelude.{All}
use Rattle.core_views.specs.declared.actor.Actor.{Actor}
use Rattle.core_views.specs.declared.answer.Answer.{Answer}
use Rattle.core_views.specs.declared.answer.Answer.TheVariants.{Bits}
use Rattle.core_views.specs.declared.event.Event.{Event}
use Rattle.core_views.specs.declared.event.EventKind.{EventKind}
use Rattle.core_views.specs.declared.event.EventKind.TheVariants.{Answered, Harvested}
use Rattle.core_views.specs.declared.kind.Kind.{Kind}
use Rattle.core_views.specs.declared.place.Place.{Place}
use Rattle.core_views.specs.declared.place.Place.TheVariants as place
use Rattle.core_views.specs.declared.sizes.Sizes.{Sizes}
use Rattle.core_views.specs.declared.trace.Command.{Command}
use Rattle.core_views.specs.declared.trace.Command.TheVariants.{Migrate}
use Rattle.core_views.specs.declared.trace.Line.{Line}
use Rattle.core_views.specs.declared.trace.MigrationCall.TheVariants.{Finish}
use Rattle.core_views.specs.Events.{after_all, facts_after, stage_read, to_read_or_copy, under_after}
use Rattle.core_views.specs.Flat.{Facts, Flat, HasTaken, HasTakenNext, LineUnderWay, Stage, first_flat}
use Rattle.core_views.specs.Held.{Held}
use Rattle.core_views.specs.Lawful.{IsAllowed, IsLawful, Tells, copied_answer, slot_read}
use Rattle.core_views.specs.LogCommands.{bits_for}
use Rattle.core_views.proofs.SameActor.{changed_here}
use Rattle.flat_laws.proofs.AloneIsLawful.{lawful_parts}
use Rattle.log_laws.specs.HarvestLaws.{made_by}
use Rattle.mmu_core.specs.declared.outcome.Outcome.{Outcome}
use Rattle.mmu_core.specs.declared.outcome.Outcome.TheVariants.{Ends, Goes}
use Rattle.mmu_core.specs.invariant.Laws.{IsSound}
use Rattle.mmu_core.specs.lines.Forms.{outcome_at, tells_at}
use Rattle.mmu_core.specs.machine.Enabled.{mmu}
use Rattle.mmu_core.specs.machine.Machine.{Legal, May, Step, World, answered, effect, hand_in}
use Rattle.mmu_core.specs.machine.Outcomes.{answering}
use Rattle.mmu_core.specs.machine.Steps.{beginning, event_kinds, events_of, line_at, place_at}
use Rattle.mmu_core.specs.machine.Worlds.{history}
use Rattle.mmu_core.proofs.machine.Which.{events_of_line, events_of_part, has_line_is}
use Rattle.mmu_core.proofs.machine.Worlds.{Takes, TakesPart, good_step, takes}
use Rattle.mmu_core.proofs.start.Starts.{start_good}
use Rattle.mmu_laws.specs.steps.EventLaws.{MayTell}
use Rattle.mmu_laws.proofs.flat.EveryHistory.{every_history}
use Rattle.mmu_laws.proofs.flat.Told.{told}
use Rattle.mmu_laws.proofs.flat.Within.{HarvestsLast, ends_there, harvests_last}
use Rattle.mmu_laws.proofs.steps.EventLaws.{events_are_of_their_steps}
use Rattle.core_theorem.specs.Readings.{answer_with}
use Rattle.core_theorem.specs.Runs.{IsRun}

-- ---- what one step tells

-- After a reading that takes frames out come these events alone.
abbrev follow : List EventKind → EventKind → List EventKind → Type 0
follow last (Harvested id frames) more = more ≡ last
follow last _ more = Unit {0}

abbrev AllFollow : List EventKind → List EventKind → Type 0
AllFollow last [] = Unit {0}
AllFollow last (k ∷ ks) = follow last k ks × AllFollow last ks

answering_follows : (last : List EventKind) (o : Outcome) (line : Line) → AllFollow last (answering o line)
answering_follows last (Goes p) line = tt
answering_follows last (Ends answer) line = (tt, tt)

follows_then : (last : List EventKind) (k : EventKind) (ks : List EventKind) → ends_there k ks → follow last k (ks ++ last)
follows_then last (Harvested id frames) ks ends = ap (λ (xs : List EventKind). xs ++ last) ends
follows_then last _ ks ends = tt

all_follow : (last xs : List EventKind) → HarvestsLast xs → AllFollow last last → AllFollow last (xs ++ last)
all_follow last [] none rest = rest
all_follow last (k ∷ ks) ends rest = (follows_then last k ks ends.0, all_follow last ks ends.1 rest)

begin_follows : (last : List EventKind) (p : Place) (line : Line) (ks : List EventKind) → AllFollow last ks → AllFollow last (beginning p line ++ ks)
begin_follows last place.Between line ks rest = (tt, rest)
begin_follows last _ line ks rest = rest

-- So it is where the reading stands in what an actor tells.
found : (actor by_ : Actor) (last ks : List EventKind) (front more : List Event) (id : ℕ) (frames : List ℕ)
    → told actor ks ≡ front ++ (made_by by_ (Harvested id frames) ∷ more) → AllFollow last ks → (actor ≡ by_) × (more ≡ told actor last)
found actor by_ last [] [] more id frames is follows = absurd (cc is)
found actor by_ last [] (x ∷ front) more id frames is follows = absurd (cc is)
found actor by_ last (k ∷ ks) [] more id frames is follows = (
  ap (λ (e : Event). e.actor) head,
  sym tail ∙ ap (told actor) (subst (λ (x : EventKind). follow last x ks) (ap (λ (e : Event). e.kind) head) follows.0),
)
  where
    head : made_by actor k ≡ made_by by_ (Harvested id frames)
    head = cc is

    tail : told actor ks ≡ more
    tail = cc is
found actor by_ last (k ∷ ks) (x ∷ front) more id frames is follows = found actor by_ last ks front more id frames tail follows.1
  where
    tail : told actor ks ≡ front ++ (made_by by_ (Harvested id frames) ∷ more)
    tail = cc is

-- What all of a list are, each of it is.
one_of : (P : Event → Type 0) (front more : List Event) (e : Event) → All P (front ++ (e ∷ more)) → P e
one_of P [] more e all = All-head P e more all
one_of P (x ∷ front) more e all = one_of P front more e (All-tail P x (front ++ (e ∷ more)) all)

-- The answer, with bits, of the actor's line comes next.
pub record IsAnsweredNext (actor : Actor) (rest : List Event) : Type 0 where
  pub number : ℕ
  pub words : List ℕ
  pub more : List Event
  pub rest_is : rest ≡ made_by actor (Answered number (Bits words)) ∷ more

step_answers : (z : Sizes) (w : World Held) (s : Step Kind) → IsSound z w → May mmu w s → (front more : List Event) (actor : Actor) (id : ℕ) (frames : List ℕ)
    → events_of (hand_in mmu w s.actor) (answered mmu w s.kind) ≡ front ++ (made_by actor (Harvested id frames) ∷ more) → IsAnsweredNext actor more
step_answers z w s G may front more actor id frames is = by (takes z w s G may)
  where
    h : Held
    h = hand_in mmu w s.actor

    v : ℕ
    v = answered mmu w s.kind

    line : Line
    line = line_at h.state.place h

    p : Place
    p = place_at h.state.place h

    o : Outcome
    o = outcome_at p line.command h v

    none : (xs : List Event) → [] ≡ xs ++ (made_by actor (Harvested id frames) ∷ more) → ⊥
    none [] e = cc e
    none (x ∷ xs) e = cc e

    tells : MayTell z h s.kind v (Harvested id frames)
    tells =
        one_of (λ (e : Event). MayTell z h s.kind v e.kind) front more (made_by actor (Harvested id frames))
        (subst (All (λ (e : Event). MayTell z h s.kind v e.kind)) is (events_are_of_their_steps z w s G may))

    by : Takes z w s h ⊎ TakesPart z w s h → IsAnsweredNext actor more
    by (inr T) = absurd (none front (sym (events_of_part h v T.none_left) ∙ is))
    by (inl T) =
        let at = found h.state.actor actor (answering o line) (event_kinds h.state.place line p h v) front more id frames
        (sym (events_of_line h v (has_line_is h T.is_step.left)) ∙ is)
        (begin_follows (answering o line) h.state.place line (tells_at p line.command h v ++ answering o line)
        (all_follow (answering o line) (tells_at p line.command h v) (harvests_last p line.command h v) (answering_follows (answering o line) o line))) in
        record {
          number = line.number;
          words = tells.1.words;
          more = [];
          rest_is = at.1 ∙ ap (λ (x : Outcome). told h.state.actor (answering x line)) tells.1.ends
              ∙ ap (λ (a : Actor). told a (Answered line.number (Bits tells.1.words) ∷ [])) at.0;
        }

-- ---- in a run's history

-- A list that is put together from two has an event in the first one, or in the second.
abbrev IsInFirst : List Event → List Event → List Event → Event → List Event → Type 0
IsInFirst xs ys front e rest = (more : List Event) × (xs ≡ front ++ (e ∷ more)) × (rest ≡ more ++ ys)

abbrev IsInSecond : List Event → List Event → List Event → Event → List Event → Type 0
IsInSecond xs ys front e rest = (late : List Event) × (ys ≡ late ++ (e ∷ rest))

split : (xs ys front : List Event) (e : Event) (rest : List Event) → xs ++ ys ≡ front ++ (e ∷ rest)
    → IsInFirst xs ys front e rest ⊎ IsInSecond xs ys front e rest
split [] ys front e rest is = inr (front, is)
split (x ∷ xs) ys [] e rest is =
    let head : x ≡ e = cc is in let tail : xs ++ ys ≡ rest = cc is in inl (xs, ap (λ (y : Event). y ∷ xs) head, sym tail)
split (x ∷ xs) ys (y ∷ front) e rest is = by (split xs ys front e rest tail)
  where
    head : x ≡ y
    head = cc is

    tail : xs ++ ys ≡ front ++ (e ∷ rest)
    tail = cc is

    by : IsInFirst xs ys front e rest ⊎ IsInSecond xs ys front e rest → IsInFirst (x ∷ xs) ys (y ∷ front) e rest ⊎ IsInSecond (x ∷ xs) ys (y ∷ front) e rest
    by (inl F) = inl (F.0, ap (λ (u : Event). u ∷ xs) head ∙ ap (λ (us : List Event). y ∷ us) F.1, F.2)
    by (inr S) = inr S

answered_next : (z : Sizes) (w : World Held) (ss : List (Step Kind)) → IsSound z w → Legal mmu w ss → (front rest : List Event) (actor : Actor) (id : ℕ)
    (frames : List ℕ) → history w ss ≡ front ++ (made_by actor (Harvested id frames) ∷ rest) → IsAnsweredNext actor rest
answered_next z w [] G legal [] rest actor id frames is = absurd (cc is)
answered_next z w [] G legal (x ∷ front) rest actor id frames is = absurd (cc is)
answered_next z w (s ∷ ss) G legal front rest actor id frames is =
    by (split events (history (effect mmu w s) ss) front e rest is)
    (λ late at. answered_next z (effect mmu w s) ss (good_step z w s G legal.0) legal.1 late rest actor id frames at)
  where
    events : List Event
    events = events_of (hand_in mmu w s.actor) (answered mmu w s.kind)

    e : Event
    e = made_by actor (Harvested id frames)

    by : IsInFirst events (history (effect mmu w s) ss) front e rest ⊎ IsInSecond events (history (effect mmu w s) ss) front e rest
        → ((late : List Event) → history (effect mmu w s) ss ≡ late ++ (e ∷ rest) → IsAnsweredNext actor rest) → IsAnsweredNext actor rest
    by (inl F) later =
        let A = step_answers z w s G legal.0 front F.0 actor id frames F.1 in
        record {
          number = A.number;
          words = A.words;
          more = A.more ++ history (effect mmu w s) ss;
          rest_is = F.2 ∙ ap (λ (xs : List Event). xs ++ history (effect mmu w s) ss) A.rest_is;
        }
    by (inr S) later = later S.0 S.1

-- ---- with which bits

-- A line that has read a log is answered with the bits of what it has read; one that has yet to read another one, or to copy, is answered with no bits.
module _ (z : Sizes) (f : Facts) (actor : Actor) (command : Command) (frames words : List ℕ) where
  no_bits : (c : Command) (count : ℕ) → Bits words ≡ copied_answer z c count f → ⊥
  no_bits (Migrate Finish) count is = cc is
  no_bits _ count is = cc is

  no_answer : (ids : List ℕ) (g : Facts) → Tells z f actor command (to_read_or_copy ids g) (Bits words) → ⊥
  no_answer [] g tells = no_bits command 0 tells.1
  no_answer (i ∷ ids) g tells = tells

  bits_read : (s t : Stage) (id : ℕ) (g : Facts) → s ≡ HasTaken id → t ≡ stage_read s frames g → Tells z f actor command t (Bits words)
      → Bits words ≡ Bits (bits_for command (slot_read f.slots command) frames)
  bits_read s t id g begun is tells =
      subst (λ (x : Stage). Tells z f actor command x (Bits words)) (is ∙ ap (λ (x : Stage). stage_read x frames g) begun) tells

  bits_none : (s t : Stage) (id : ℕ) (ids : List ℕ) (g : Facts) → s ≡ HasTakenNext id ids → t ≡ stage_read s frames g
      → Tells z f actor command t (Bits words) → ⊥
  bits_none s t id ids g begun is tells =
      no_answer ids g (subst (λ (x : Stage). Tells z f actor command x (Bits words)) (is ∙ ap (λ (x : Stage). stage_read x frames g) begun) tells)

-- So the next event is that answer.
pub answer_is : (z : Sizes) (front rest : List Event) (actor : Actor) (id number : ℕ) (frames words : List ℕ)
    → IsLawful z first_flat (front ++ (made_by actor (Harvested id frames) ∷ made_by actor (Answered number (Bits words)) ∷ rest))
    → made_by actor (Answered number (Bits words)) ≡ answer_with front actor frames
answer_is z front rest actor id number frames words lawful = by may.0 answered_so
  where
    f : Flat
    f = after_all front first_flat

    e : Event
    e = made_by actor (Harvested id frames)

    may : IsLawful z f (e ∷ made_by actor (Answered number (Bits words)) ∷ rest)
    may = (lawful_parts z front (e ∷ made_by actor (Answered number (Bits words)) ∷ rest) first_flat lawful).1

    u : LineUnderWay
    u = f.under actor

    g : Facts
    g = facts_after (Harvested id frames) f.facts

    answered_so : (number ≡ u.line.number) × Tells z g actor u.line.command (stage_read u.stage frames g) (Bits words)
    answered_so =
        subst (λ (x : LineUnderWay). (number ≡ x.line.number) × Tells z g actor x.line.command x.stage (Bits words))
        (changed_here actor (under_after (Harvested id frames) f.facts u) f.under) may.1.0

    by : IsAllowed z f.facts f.past actor u (Harvested id frames)
        → (number ≡ u.line.number) × Tells z g actor u.line.command (stage_read u.stage frames g) (Bits words)
        → made_by actor (Answered number (Bits words)) ≡ answer_with front actor frames
    by (inl M) tells =
        ap (λ (n : ℕ). made_by actor (Answered n (Bits words))) tells.0
        ∙ ap (λ (a : Answer). made_by actor (Answered u.line.number a))
        (bits_read z g actor u.line.command frames words u.stage (stage_read u.stage frames g) id g M.begun refl tells.1)
    by (inr M) tells =
        absurd (bits_none z g actor u.line.command frames words u.stage (stage_read u.stage frames g) id M.ids g M.begun refl tells.1)

-- A reading that takes frames out of a log is answered with them at once.
pub reading_answered : (z : Sizes) (lines : List Line) (w : World Held) (ss : List (Step Kind)) (front rest : List Event) (actor : Actor) (id : ℕ)
    (frames : List ℕ) → IsRun z lines w ss → history w ss ≡ front ++ (made_by actor (Harvested id frames) ∷ rest)
    → (more : List Event) × (rest ≡ answer_with front actor frames ∷ more)
reading_answered z lines w ss front rest actor id frames R is = (
  A.more,
  A.rest_is ∙ ap (λ (e : Event). e ∷ A.more)
      (answer_is z front A.more actor id A.number frames A.words
      (subst (IsLawful z first_flat) (is ∙ ap (λ (xs : List Event). front ++ (made_by actor (Harvested id frames) ∷ xs)) A.rest_is)
      (every_history z lines w ss R.start R.legal))),
)
  where
    A : IsAnsweredNext actor rest
    A = answered_next z w ss (start_good z lines w R.start) R.legal front rest actor id frames is
