-- Each step tells lawful events, and the words and hands are flat guest memory after it.
use Rattle.std.proofs.Common.{◌≡◌, ◌≢◌, ◌+◌, ◌<◌, ℕ, List, [], ◌∷◌, ◌++◌, refl, sym, subst, ap, ◌∙◌}
use Rattle.std.specs.Prelude.{◌==◌, not, Bool, true, false}
use Rattle.std.proofs.lemmas.Bool.Decides.{Decides-eqb}
use Rattle.core_views.specs.declared.actor.Actor.{Actor}
use Rattle.core_views.specs.declared.actor.Actor.TheVariants as actor
use Rattle.core_views.specs.declared.event.Event.{Event}
use Rattle.core_views.specs.declared.event.EventKind.{EventKind}
use Rattle.core_views.specs.declared.event.EventKind.TheVariants.{Begun}
use Rattle.core_views.specs.declared.place.AccessPlace.{AccessPlace}
use Rattle.core_views.specs.declared.place.AccessPlace.TheVariants as access
use Rattle.core_views.specs.declared.place.Place.{Place}
use Rattle.core_views.specs.declared.place.Place.TheVariants as place
use Rattle.core_views.specs.declared.sizes.Sizes.{Sizes}
use Rattle.core_views.specs.declared.trace.Command.{Command}
use Rattle.core_views.specs.declared.trace.Command.TheVariants.{Access}
use Rattle.core_views.specs.declared.trace.Line.{Line}
use Rattle.core_views.specs.declared.trace.Op.{Op}
use Rattle.core_views.specs.Actors.{changed_at, is_same}
use Rattle.core_views.specs.Events.{after, after_all, under_after}
use Rattle.core_views.specs.Migrations.{is_paused}
use Rattle.core_views.specs.Flat.{Flat, LineUnderWay, Idle}
use Rattle.core_views.specs.Held.{Held, State}
use Rattle.core_views.specs.Lawful.{IsLawful}
use Rattle.core_views.specs.SlotSets.{MemorySlots}
use Rattle.core_views.specs.Sizes.{actors_of, index_of}
use Rattle.core_views.proofs.SameActor.{changed_here}
use Rattle.spte_words.specs.declared.area.Area.{Area}
use Rattle.spte_words.specs.declared.area.Area.TheVariants as area
use Rattle.mmu_core.specs.forms.access.AccessSteps.{access_loads}
use Rattle.mmu_laws.specs.flat.FlatInvariant.{FlatInvariant, Refines, UnderIs}
use Rattle.mmu_core.specs.invariant.Invariant.{Invariant}
use Rattle.mmu_core.specs.lines.Forms.{KnowsPart, first_place, outcome_at, tells_at, loads_at}
use Rattle.mmu_core.specs.lines.Rests.{IsUnderWay}
use Rattle.mmu_core.specs.machine.Steps.{beginning, event_kinds, events_of, line_at, next_line, standing, task_at}
use Rattle.mmu_core.specs.machine.Outcomes.{answering}
use Rattle.mmu_core.specs.invariant.TopicsInvariant.{TopicsInvariant}
use Rattle.mmu_core.specs.machine.View.{View, answer_in, hand_after, stepped, words_after}
use Rattle.mmu_core.proofs.machine.Columns.{at_upd}
use Rattle.mmu_laws.proofs.flat.FlatSteps.{Ready, StepGoes, UnderAt}
use Rattle.mmu_laws.proofs.forms.log.LogAnswers.{ReadsWell}
use Rattle.mmu_laws.proofs.EachForm.{first_at, step_goes}
use Rattle.mmu_core.proofs.machine.Which.{events_of_line, has_line_is}
use Rattle.mmu_core.proofs.invariant.Kept.{MakesAt}
use Rattle.mmu_core.proofs.machine.Stepping.{IsStep}
use Rattle.mmu_laws.proofs.flat.Told.{told, told_facts, told_lawful, told_line, told_others}
use Rattle.mmu_laws.proofs.flat.FlatStill.{line_held, under_still}
use Rattle.mmu_core.proofs.held.CopiedSteps.{CopiedAt}
use Rattle.mmu_core.proofs.held.UsableSteps.{UsableAt}

-- what a step tells besides that its line begins
abbrev pub told_kinds : View → ℕ → Line → Command → Place → List EventKind
told_kinds v a line command p =
    let h : Held = v.hand a in
    let x : ℕ = answer_in (task_at p command h) v.words in
    tells_at p command h x ++ answering (outcome_at p command h x) line

-- what a step tells
abbrev pub told_events : View → ℕ → Line → Command → Place → List Event
told_events v a line command p = told (v.hand a).state.actor (beginning (v.hand a).state.place line ++ told_kinds v a line command p)

-- What the step reads of a log it may read, from this flat state.
abbrev pub ReadsWellOf : View → ℕ → Command → Place → Flat → Type 0
ReadsWellOf v a command p f = ReadsWell p (v.hand a).state.actor command (v.hand a) (answer_in (task_at p command (v.hand a)) v.words) f.facts f.past

-- the events are lawful, and the words and hands after the step are flat memory after them
abbrev Meets : Sizes → View → Flat → ℕ → Line → Command → Place → List Event → Type 0
Meets z v f a line command p es = IsLawful z f es × FlatInvariant z (stepped a line command p v) (after_all es f)

-- One actor has one place.
pub same_index : (z : Sizes) (a b : Actor) → is_same a b ≡ true → index_of z a ≡ index_of z b
same_index z (actor.Vcpu m) (actor.Vcpu n) e = (Decides-eqb m n).0 e
same_index z (actor.Host m) (actor.Host n) e = ap (λ k. z.vcpus + k) ((Decides-eqb m n).0 e)
same_index z actor.Manager actor.Manager e = refl
same_index z (actor.Worker m) (actor.Worker n) e = ap (λ k. z.vcpus + z.hosts + 1 + k) ((Decides-eqb m n).0 e)
same_index z _ _ e = absurd (cc)

-- The hands of two places are of two actors.
apart_actors : (z : Sizes) (a b : Actor) → index_of z a ≢ index_of z b → is_same a b ≡ false
apart_actors z a b apart = case (is_same a b) refl
  where
    case : (same : Bool) → is_same a b ≡ same → is_same a b ≡ false
    case true e = absurd (apart (same_index z a b e))
    case false e = e

-- the lines of the other hands are flat's
abbrev Others : Sizes → View → ℕ → Flat → Type 0
Others z v a f =
    (i : ℕ) → i < actors_of z → i ≢ a
    → UnderIs z (v.words area.Pool) (v.hand i).state.place (v.hand i).state.line.command (v.hand i) (f.under (v.hand i).state.actor)

pub other_actor : (z : Sizes) (v : View) (a i : ℕ) → Invariant z v → a < actors_of z → i < actors_of z → i ≢ a
    → is_same (v.hand a).state.actor (v.hand i).state.actor ≡ false
other_actor z v a i I a_in i_in apart =
    apart_actors z (v.hand a).state.actor (v.hand i).state.actor (λ e. apart (sym (sym (I.lines a a_in).index ∙ e ∙ (I.lines i i_in).index)))

-- The step's actor is its hand's, whatever it loads.
access_actor : (p : AccessPlace) (h : Held) (gfn : ℕ) (op : Op) (x : ℕ) → (access_loads p h gfn op x).actor ≡ h.state.actor
access_actor (access.Pause again) h gfn op x = refl
access_actor (access.Walk again) h gfn op x = refl
access_actor _ h gfn op x = refl

pub same_actor : (p : Place) (command : Command) (h : Held) (x : ℕ) → (loads_at p command h x).actor ≡ h.state.actor
same_actor (place.Access p) (Access gfn word op) h x = access_actor p h gfn op x
same_actor _ _ h x = refl

-- Behind the begin of its line a step meets flat memory.
meets_begun : (z : Sizes) (v : View) (f : Flat) (a : ℕ) (line : Line) (command : Command) (p : Place) → IsStep z v a line command p → Invariant z v
    → TopicsInvariant z v → MakesAt z v a p command → KnowsPart p command (v.hand a) → UsableAt z v → CopiedAt z v → ReadsWellOf v a command p f
    → Ready z v line command p (v.hand a).topics f.facts (f.under (v.hand a).state.actor) → Others z v a f
    → Meets z v f a line command p (told (v.hand a).state.actor (told_kinds v a line command p))
meets_begun z v f a line command p S I P part K U C W R others = (
  told_lawful z s.actor kinds f G.allowed,
  record {
    refines =
        subst (Refines z (words area.Slots 0) (words area.Pool) (words area.Host) (words area.Content) (words area.Pause 0))
        (sym (told_facts s.actor kinds f)) G.refines;
    under =
        at_upd (λ i (h : Held). i < actors_of z → UnderIs z (words area.Pool) h.state.place h.state.line.command h (behind.under h.state.actor)) v.hand a then_
        (λ a_in. here) (λ i apart i_in. there i i_in apart);
  },
)
  where
    s : State
    s = (v.hand a).state

    x : ℕ
    x = answer_in (task_at p command (v.hand a)) v.words

    words : Area → ℕ → ℕ
    words = words_after (task_at p command (v.hand a)) v.words

    kinds : List EventKind
    kinds = told_kinds v a line command p

    behind : Flat
    behind = after_all (told s.actor kinds) f

    then_ : Held
    then_ = hand_after line command p (v.hand a) x

    G : StepGoes z v a line command p f.facts f.past (f.under s.actor)
    G = step_goes z v a line command p f (f.under s.actor) S I P part K U C W R

    here : UnderIs z (words area.Pool) then_.state.place then_.state.line.command then_ (behind.under then_.state.actor)
    here =
        subst (λ k. UnderIs z (words area.Pool) then_.state.place line.command then_ (behind.under k)) (sym (same_actor p command (v.hand a) x))
        (subst (λ c. UnderIs z (words area.Pool) then_.state.place c then_ (behind.under s.actor)) (sym S.command_is)
        (subst (UnderIs z (words area.Pool) then_.state.place command then_) (sym (told_line s.actor kinds f))
        G.under))

    there : (i : ℕ) → i < actors_of z → i ≢ a
        → UnderIs z (words area.Pool) (v.hand i).state.place (v.hand i).state.line.command (v.hand i) (behind.under (v.hand i).state.actor)
    there i i_in apart =
        subst (UnderIs z (words area.Pool) (v.hand i).state.place (v.hand i).state.line.command (v.hand i))
        (sym (told_others s.actor (v.hand i).state.actor kinds f (other_actor z v a i I S.there i_in apart)))
        (under_still z (v.words area.Pool) (words area.Pool) (v.hand i).state.place (v.hand i).state.line.command (v.hand i)
        (f.under (v.hand i).state.actor) (λ k held. line_held z v a command p P part i k i_in apart held) (others i i_in apart))

-- Where the pause's word is 0 nothing is paused.
not_paused : (z : Sizes) (v : View) (f : Flat) → FlatInvariant z v f → v.words area.Pause 0 ≡ 0 → is_paused f.facts.migration ≡ false
not_paused z v f F no_pause = F.refines.paused ∙ ap (λ n. not (n == 0)) no_pause

ready_first : (z : Sizes) (v : View) (f : Flat) (a : ℕ) (line : Line) (command : Command) (p : Place) → IsStep z v a line command p
    → FlatInvariant z v f → v.words area.Pause 0 ≡ 0 → (v.hand a).state.place ≡ place.Between
    → let begun : Flat =
    after (record { actor = (v.hand a).state.actor; kind = Begun line }) f in
    Ready z v line command p (v.hand a).topics begun.facts (begun.under (v.hand a).state.actor)
ready_first z v f a line command p S F no_pause e = record {
  runs = not_paused z v f F no_pause;
  refines = F.refines;
  under = subst (λ q. UnderAt z (v.words area.Pool) q line command h.topics now_) first_is
      (first_at z (v.words area.Pool) h.state.sizes h.slots line command h.topics now_ S.allowed
      (ap (λ (u : LineUnderWay). u.stage) begun)
      (ap (λ (u : LineUnderWay). u.line) begun));
}
  where
    h : Held
    h = v.hand a

    now_ : LineUnderWay
    now_ = changed_at h.state.actor (under_after (Begun line) f.facts (f.under h.state.actor)) f.under h.state.actor

    begun : now_ ≡ under_after (Begun line) f.facts (f.under h.state.actor)
    begun = changed_here h.state.actor (under_after (Begun line) f.facts (f.under h.state.actor)) f.under

    command_is : (next_line h).command ≡ command
    command_is = ap (λ (l : Line). l.command) (sym S.next) ∙ S.command_is

    first_is : first_place h.state.sizes h.slots command ≡ p
    first_is = ap (first_place h.state.sizes h.slots) (sym command_is) ∙ subst (λ q. standing q h.state.sizes h.slots (line_at q h).command ≡ p) e S.place_is

-- A line goes on as it stood.
stands_under : (q : Place) (z : Sizes) (slots : MemorySlots) (command : Command) → IsUnderWay q → standing q z slots command ≡ q
stands_under place.Between z slots command under = absurd under
stands_under _ z slots command under = refl

line_under : (q : Place) (h : Held) → IsUnderWay q → line_at q h ≡ h.state.line
line_under place.Between h under = absurd under
line_under _ h under = refl

ready_on : (z : Sizes) (v : View) (f : Flat) (a : ℕ) (line : Line) (command : Command) (p : Place) → IsStep z v a line command p → FlatInvariant z v f
    → v.words area.Pause 0 ≡ 0 → IsUnderWay (v.hand a).state.place
    → Ready z v line command p (v.hand a).topics f.facts (f.under (v.hand a).state.actor)
ready_on z v f a line command p S F no_pause stands = record {
  runs = not_paused z v f F no_pause;
  refines = F.refines;
  under = subst (λ q. UnderAt z (v.words area.Pool) q line command h.topics u) place_is
      (subst (λ c. UnderAt z (v.words area.Pool) h.state.place line c h.topics u) (ap (λ (l : Line). l.command) (sym line_is) ∙ S.command_is)
      (subst (λ (l : Line). UnderAt z (v.words area.Pool) h.state.place l h.state.line.command h.topics u) (sym line_is)
      (F.under a S.there)));
}
  where
    h : Held
    h = v.hand a

    u : LineUnderWay
    u = f.under h.state.actor

    line_is : line ≡ h.state.line
    line_is = S.line_is ∙ line_under h.state.place h stands

    place_is : h.state.place ≡ p
    place_is = sym (stands_under h.state.place h.state.sizes h.slots (line_at h.state.place h).command stands) ∙ S.place_is

pub flat_kept : (z : Sizes) (v : View) (f : Flat) (a : ℕ) (line : Line) (command : Command) (p : Place)
    → IsStep z v a line command p → Invariant z v → TopicsInvariant z v → MakesAt z v a p command → KnowsPart p command (v.hand a) → v.words area.Pause 0 ≡ 0
    → UsableAt z v → CopiedAt z v → ReadsWellOf v a command p (after_all (told (v.hand a).state.actor (beginning (v.hand a).state.place line)) f)
    → FlatInvariant z v f
    → IsLawful z f (told_events v a line command p) × FlatInvariant z (stepped a line command p v) (after_all (told_events v a line command p) f)
flat_kept z v f a line command p S I P part K no_pause U C well F = case (v.hand a).state.place refl well
  where
    actor : Actor
    actor = (v.hand a).state.actor

    begun : Flat
    begun = after (record { actor = actor; kind = Begun line }) f

    others : Others z v a begun
    others i i_in apart =
        subst (UnderIs z (v.words area.Pool) (v.hand i).state.place (v.hand i).state.line.command (v.hand i))
        (sym (told_others actor (v.hand i).state.actor (Begun line ∷ []) f (other_actor z v a i I S.there i_in apart))) (F.under i i_in)

    on : ReadsWellOf v a command p f → IsUnderWay (v.hand a).state.place → Meets z v f a line command p (told actor (told_kinds v a line command p))
    on W stands = meets_begun z v f a line command p S I P part K U C W (ready_on z v f a line command p S F no_pause stands) (λ i i_in apart. F.under i i_in)

    case : (q : Place) → (v.hand a).state.place ≡ q → ReadsWellOf v a command p (after_all (told actor (beginning q line)) f)
        → Meets z v f a line command p (told (v.hand a).state.actor (beginning q line ++ told_kinds v a line command p))
    case place.Between e W =
        let idle : (f.under actor).stage ≡ Idle =
        subst (λ q. UnderIs z (v.words area.Pool) q (v.hand a).state.line.command (v.hand a) (f.under actor)) e (F.under a S.there) in
        let rest = meets_begun z v begun a line command p S I P part K U C W (ready_first z v f a line command p S F no_pause e) others in
        (((idle, S.own), rest.0), rest.1)
    case _ e W = on W (subst IsUnderWay (sym e) tt)

-- A step tells what its hand's next step tells.
pub told_is_events : (z : Sizes) (v : View) (a : ℕ) (line : Line) (p : Place) → IsStep z v a line line.command p
    → told_events v a line line.command p ≡ events_of (v.hand a) (answer_in (task_at p line.command (v.hand a)) v.words)
told_is_events z v a line p S =
    ap (λ l. of_line l p) S.line_is ∙ ap (of_line (line_at (v.hand a).state.place (v.hand a))) (sym S.place_is)
    ∙ sym (events_of_line (v.hand a) x (has_line_is (v.hand a) S.left))
  where
    x : ℕ
    x = answer_in (task_at p line.command (v.hand a)) v.words

    of_line : Line → Place → List Event
    of_line l r = told (v.hand a).state.actor (event_kinds (v.hand a).state.place l r (v.hand a) x)
