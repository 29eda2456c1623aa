-- What the hands hold after a list of steps is what its history tells; where all is answered it answers the trace.
use Rattle.std.proofs.Common.{◌≡◌, ◌⊎◌, inl, inr, ◌+◌, ◌-◌, ◌<◌, ◌≤◌, ℕ, List, [], ◌∷◌, ◌++◌, length, take, refl, sym, subst, ap, ◌∙◌, arith}
use Rattle.std.specs.Prelude.{All, Bool, true, false, ◌==◌, map, nat_lt, if◌then◌else◌}
use Rattle.std.proofs.lemmas.Bool.Decides.{nat_tests}
use Rattle.std.proofs.lemmas.List.{append-nil, take_all}
use Rattle.std.proofs.lemmas.List.Elements.{All-head, All-tail, All-weaker}
use Rattle.core_views.specs.declared.actor.Actor.{Actor}
use Rattle.core_views.specs.declared.actor.Actor.TheVariants.{Vcpu, Manager, Host, Worker}
use Rattle.core_views.specs.declared.answer.AnsweredLine.{AnsweredLine}
use Rattle.core_views.specs.declared.event.Event.{Event}
use Rattle.core_views.specs.declared.kind.Kind.{Kind}
use Rattle.core_views.specs.declared.place.Place.{Place}
use Rattle.core_views.specs.declared.place.Place.TheVariants as place
use Rattle.core_views.specs.declared.sizes.Sizes.{Sizes}
use Rattle.core_views.specs.declared.trace.Command.{Command}
use Rattle.core_views.specs.declared.trace.Command.TheVariants.{Access, ChangeHost, ChangeRun, Split}
use Rattle.core_views.specs.declared.trace.Line.{Line}
use Rattle.core_views.specs.Actors.{is_same}
use Rattle.core_views.specs.Held.{Held, first_held}
use Rattle.core_views.specs.Sizes.{actor_at, actors_of, index_of}
use Rattle.core_views.specs.Traces.{IsCommandFor}
use Rattle.core_views.specs.Whole.{lines_of}
use Rattle.mmu_core.specs.machine.Enabled.{mmu}
use Rattle.mmu_laws.specs.flat.Histories.{AnswersAreTold, EndsWhole, answers_by}
use Rattle.mmu_core.specs.invariant.Laws.{IsSound}
use Rattle.mmu_core.specs.machine.Machine.{Legal, May, Step, World, answered, effect, hand_in, run}
use Rattle.part_steps.specs.declared.task.Task.{Task}
use Rattle.mmu_core.specs.machine.Steps.{events_of, idle_after, line_at, place_at}
use Rattle.mmu_core.specs.machine.View.{View, answer_in, view, word_in}
use Rattle.mmu_core.specs.machine.Worlds.{IsStart, history}
use Rattle.mmu_laws.proofs.flat.FlatKept.{same_index, told_events, told_is_events}
use Rattle.mmu_laws.proofs.flat.Followed.{Follows, begun_count, begun_lines, follows_more, follows_still, silent_answers, silent_begins, view_follows}
use Rattle.mmu_core.proofs.start.Starts.{hand_is, place_of_actor, same_actor, start_good}
use Rattle.mmu_laws.proofs.flat.ToldOf.{answers_by_more, begun_by, begun_by_append}
use Rattle.mmu_core.proofs.machine.Worlds.{Takes, TakesPart, good_step, takes}
use Rattle.mmu_core.proofs.machine.Which.{events_of_part}
use Rattle.mmu_core.proofs.machine.Columns.{at_upd}
use Rattle.part_steps.specs.PartTasks.{own_index, part_task}
use Rattle.part_steps.specs.Tasks.{kind_of_task}

-- what a step of a world tells, as its view has it
step_events : (z : Sizes) (w : World Held) (s : Step Kind) → Takes z w s (hand_in mmu w s.actor)
    → events_of (hand_in mmu w s.actor) (answered mmu w s.kind)
    ≡ told_events (view z w) s.actor (line_at (hand_in mmu w s.actor).state.place (hand_in mmu w s.actor)) (line_at
    (hand_in mmu w s.actor).state.place (hand_in mmu w s.actor)).command (place_at (hand_in mmu w s.actor).state.place (hand_in mmu w s.actor))
step_events z w s T =
    let h : Held = hand_in mmu w s.actor in
    ap (events_of h) T.answers ∙ sym (told_is_events z (view z w) s.actor (line_at h.state.place h) (place_at h.state.place h) T.is_step)

-- a hand after a step of a part has answered and begun the same
part_follows : (h : Held) (k : Kind) (x : ℕ) → Follows h (idle_after h k x) []
part_follows h k x = record {
  actor = refl;
  lines = refl;
  answers = sym (append-nil h.answers);
  begun = sym (append-nil (take (begun_lines h) h.lines));
  numbers = λ n. n;
}

pub step_follows : (z : Sizes) (w : World Held) (s : Step Kind) (i : ℕ) → IsSound z w → May mmu w s → i < actors_of z
    → Follows (hand_in mmu w i) (hand_in mmu (effect mmu w s) i) (events_of (hand_in mmu w s.actor) (answered mmu w s.kind))
step_follows z w s i G may i_in = by (takes z w s G may)
  where
    h : Held
    h = hand_in mmu w s.actor

    by : Takes z w s h ⊎ TakesPart z w s h → Follows (hand_in mmu w i) (hand_in mmu (effect mmu w s) i) (events_of h (answered mmu w s.kind))
    by (inl T) =
        let F = view_follows z (view z w) s.actor (line_at h.state.place h) (place_at h.state.place h) i T.is_step G.holds i_in in
        subst (λ (g : Held). Follows (hand_in mmu w i) g (events_of h (answered mmu w s.kind))) (sym (ap (λ (v : View). v.hand i) T.leads))
        (subst (Follows (hand_in mmu w i) _) (sym (step_events z w s T)) F)
    by (inr T) =
        let task : Task = part_task T.step (own_index h) h.topics T.note in
        let k : Kind = kind_of_task h.state.sizes task in
        let x : ℕ = answer_in task (word_in z w) in
        let F =
        at_upd (λ j (g : Held). Follows (hand_in mmu w j) g []) (hand_in mmu w) s.actor (idle_after h k x) (part_follows h k x)
        (λ j ne. follows_still (hand_in mmu w j) [] refl refl) i in
        subst (λ (g : Held). Follows (hand_in mmu w i) g (events_of h (answered mmu w s.kind))) (sym (ap (λ (v : View). v.hand i) T.leads))
        (subst (Follows (hand_in mmu w i) _) (sym (events_of_part h (answered mmu w s.kind) T.none_left)) F)

pub run_follows : (z : Sizes) (w : World Held) (ss : List (Step Kind)) (i : ℕ) → IsSound z w → Legal mmu w ss → i < actors_of z
    → Follows (hand_in mmu w i) (hand_in mmu (run mmu w ss) i) (history w ss)
run_follows z w [] i G legal i_in = follows_still (hand_in mmu w i) [] refl refl
run_follows z w (s ∷ ss) i G legal i_in =
    follows_more (hand_in mmu w i) (hand_in mmu (effect mmu w s) i) (hand_in mmu (run mmu (effect mmu w s) ss) i)
    (events_of (hand_in mmu w s.actor) (answered mmu w s.kind)) (history (effect mmu w s) ss)
    (step_follows z w s i G legal.0 i_in)
    (run_follows z (effect mmu w s) ss i (good_step z w s G legal.0) legal.1 i_in)

-- The actor has no hand.
abbrev Absent : Sizes → World Held → Actor → Type 0
Absent z w actor = (i : ℕ) → i < actors_of z → is_same actor (hand_in mmu w i).state.actor ≡ false

-- the history has nothing of it
record Silent (actor : Actor) (h : List Event) : Type 0 where
  answers : answers_by actor h ≡ []
  begun : begun_by actor h ≡ []

silent_step : (z : Sizes) (w : World Held) (s : Step Kind) (actor : Actor) → IsSound z w → May mmu w s → Absent z w actor
    → Silent actor (events_of (hand_in mmu w s.actor) (answered mmu w s.kind))
silent_step z w s actor G may absent = by (takes z w s G may)
  where
    h : Held
    h = hand_in mmu w s.actor

    by : Takes z w s h ⊎ TakesPart z w s h → Silent actor (events_of h (answered mmu w s.kind))
    by (inl T) =
        let apart : is_same actor h.state.actor ≡ false = absent s.actor T.is_step.there in
        record {
          answers =
              ap (answers_by actor) (step_events z w s T)
              ∙ silent_answers z (view z w) s.actor (line_at h.state.place h) (place_at h.state.place h) actor apart;
          begun =
              ap (begun_by actor) (step_events z w s T)
              ∙ silent_begins z (view z w) s.actor (line_at h.state.place h) (place_at h.state.place h) actor T.is_step.own apart;
        }
    by (inr T) = record {
      answers = ap (answers_by actor) (events_of_part h (answered mmu w s.kind) T.none_left);
      begun = ap (begun_by actor) (events_of_part h (answered mmu w s.kind) T.none_left);
    }

run_silent : (z : Sizes) (w : World Held) (ss : List (Step Kind)) (actor : Actor) → IsSound z w → Legal mmu w ss → Absent z w actor
    → Silent actor (history w ss)
run_silent z w [] actor G legal absent = record { answers = refl; begun = refl }
run_silent z w (s ∷ ss) actor G legal absent =
    let h : Held = hand_in mmu w s.actor in
    let es : List Event = events_of h (answered mmu w s.kind) in
    let rest =
    run_silent z (effect mmu w s) ss actor (good_step z w s G legal.0) legal.1
    (λ i i_in. ap (is_same actor) (step_follows z w s i G legal.0 i_in).actor ∙ absent i i_in) in
    let here = silent_step z w s actor G legal.0 absent in
    record {
      answers =
          answers_by_more actor es (history (effect mmu w s) ss)
          ∙ ap (λ (xs : List AnsweredLine). xs ++ answers_by actor (history (effect mmu w s) ss)) here.answers ∙ rest.answers;
      begun =
          begun_by_append actor es (history (effect mmu w s) ss)
          ∙ ap (λ (xs : List Line). xs ++ begun_by actor (history (effect mmu w s) ss)) here.begun ∙ rest.begun;
    }

-- after a start
pub start_follows : (z : Sizes) (lines : List Line) (w : World Held) (ss : List (Step Kind)) (i : ℕ) → IsStart z lines w → Legal mmu w ss → i < actors_of z
    → Follows (first_held z (actor_at z i) (lines_of (actor_at z i) lines)) (hand_in mmu (run mmu w ss) i) (history w ss)
start_follows z lines w ss i start legal i_in =
    subst (λ (h : Held). Follows h (hand_in mmu (run mmu w ss) i) (history w ss)) (hand_is z lines w i start i_in)
    (run_follows z w ss i (start_good z lines w start) legal i_in)

pub answers_are_told : AnswersAreTold
answers_are_told z lines w ss i start legal i_in = (start_follows z lines w ss i start legal i_in).answers

-- the history of an actor that has answered all its lines
pub record Whole (actor : Actor) (h : List Event) (lines : List Line) : Type 0 where
  pub begun : begun_by actor h ≡ lines_of actor lines
  pub answered_ : map (λ (x : AnsweredLine). x.number) (answers_by actor h) ≡ map (λ (l : Line). l.number) (lines_of actor lines)

pub begun_all : (h : Held) → length h.answers ≤ begun_lines h
begun_all h = at (length h.answers) h.state.place
  where
    at : (n : ℕ) (p : Place) → n ≤ begun_count p n
    at n place.Between = omega arith
    at n _ = omega arith

whole_of : (z : Sizes) (lines : List Line) (w : World Held) (ss : List (Step Kind)) (i : ℕ) → IsStart z lines w → Legal mmu w ss → i < actors_of z
    → length (hand_in mmu (run mmu w ss) i).answers ≡ length (hand_in mmu (run mmu w ss) i).lines → Whole (actor_at z i) (history w ss) lines
whole_of z lines w ss i start legal i_in all =
    let g : Held = hand_in mmu (run mmu w ss) i in
    let own : List Line = lines_of (actor_at z i) lines in
    let F = start_follows z lines w ss i start legal i_in in
    let count : length own ≤ begun_lines g = omega (arith, all, ap length F.lines, begun_all g) in
    record {
      begun = sym F.begun ∙ take_all (begun_lines g) own count;
      answered_ = ap (map (λ (x : AnsweredLine). x.number)) (sym F.answers) ∙ F.numbers refl
          ∙ ap (map (λ (l : Line). l.number)) (take_all (length g.answers) g.lines (omega (arith, all)) ∙ F.lines);
    }

-- The actor has a hand.
abbrev pub Present : Sizes → Actor → Type 0
Present z actor = (i : ℕ) × (i < actors_of z) × (actor_at z i ≡ actor)

less : (a b : ℕ) → a < b → nat_lt a b ≡ true
less a b lt = grind (arith, nat_tests)

not_less : (a b : ℕ) → b ≤ a → nat_lt a b ≡ false
not_less a b le = grind (arith, nat_tests)

equal : (n : ℕ) → (n == n) ≡ true
equal n = grind (arith, nat_tests)

-- So has each host thread.
host_present : (z : Sizes) (n : ℕ) → n < z.hosts → Present z (Host n)
host_present z n may =
    let same : z.vcpus + n - z.vcpus ≡ n = omega arith in (
      z.vcpus + n,
      omega (arith, may),
      rw (not_less (z.vcpus + n) z.vcpus (omega arith), less (z.vcpus + n - z.vcpus) z.hosts (omega (arith, same, may))) (ap Host same),
    )

-- So has each worker.
worker_present : (z : Sizes) (n : ℕ) → n < z.workers → Present z (Worker n)
worker_present z n may =
    let i : ℕ = z.vcpus + z.hosts + 1 + n in
    let same : i - z.vcpus - z.hosts - 1 ≡ n = omega arith in
    let further : (i == z.vcpus + z.hosts) ≡ false = grind (arith, nat_tests) in (
      i,
      omega (arith, may),
      rw (not_less i z.vcpus (omega arith), not_less (i - z.vcpus) z.hosts (omega arith), further) (ap Worker same),
    )

-- Each line's actor has one.
present : (z : Sizes) (actor : Actor) (command : Command) → IsCommandFor z actor command → Present z actor
present z (Vcpu n) (Access gfn word op) may = (n, omega (arith, may.0), rw (less n z.vcpus may.0) refl)
present z Manager command may = (
  z.vcpus + z.hosts,
  omega arith,
  rw (not_less (z.vcpus + z.hosts) z.vcpus (omega arith), not_less (z.vcpus + z.hosts - z.vcpus) z.hosts (omega arith), equal (z.vcpus + z.hosts))
      refl,
)
present z (Host n) (ChangeHost page change) may = host_present z n may
present z (Host n) (ChangeRun page change) may = host_present z n may.0
present z (Worker n) (Split gfn) may = worker_present z n may.0
present z _ (Access gfn word op) may = absurd may
present z _ _ may = absurd may

-- An actor has a hand, or is none of those that have one.
pub present_or : (z : Sizes) (actor : Actor) → Present z actor ⊎ ((j : ℕ) → j < actors_of z → is_same actor (actor_at z j) ≡ false)
present_or z actor = case (nat_lt (index_of z actor) (actors_of z)) (is_same actor (actor_at z (index_of z actor))) refl refl
  where
    is_index : (j : ℕ) → j < actors_of z → is_same actor (actor_at z j) ≡ true → index_of z actor ≡ j
    is_index j j_in same = same_index z actor (actor_at z j) same ∙ place_of_actor z j j_in

    none : (j : ℕ) → j < actors_of z → (is_same actor (actor_at z j) ≡ true → ⊥) → is_same actor (actor_at z j) ≡ false
    none j j_in never = by (is_same actor (actor_at z j)) refl
      where
        by : (b : Bool) → is_same actor (actor_at z j) ≡ b → is_same actor (actor_at z j) ≡ false
        by true e = absurd (never e)
        by false e = e

    below : nat_lt (index_of z actor) (actors_of z) ≡ true → index_of z actor < actors_of z
    below e = grind (arith, nat_tests)

    case : (inside same : Bool) → nat_lt (index_of z actor) (actors_of z) ≡ inside → is_same actor (actor_at z (index_of z actor)) ≡ same
        → Present z actor ⊎ ((j : ℕ) → j < actors_of z → is_same actor (actor_at z j) ≡ false)
    case true true inside same = inl (index_of z actor, below inside, same_actor actor (actor_at z (index_of z actor)) same)
    case true false inside other =
        inr (λ j j_in. none j j_in
        (λ e. let f : true ≡ false = sym e ∙ ap (λ k. is_same actor (actor_at z k)) (sym (is_index j j_in e)) ∙ other in absurd (cc)))
    case false same outside _ =
        inr (λ j j_in. none j j_in (λ e. let f : true ≡ false = sym (less (index_of z actor) (actors_of z)
        (subst (λ k. k < actors_of z) (sym (is_index j j_in e)) j_in)) ∙ outside in absurd (cc)))

none_chosen : (actor : Actor) (lines : List Line) → All (λ line. is_same actor line.actor ≡ false) lines → lines_of actor lines ≡ []
none_chosen actor [] each = refl
none_chosen actor (line ∷ lines) each =
    ap (λ b. if b then line ∷ lines_of actor lines else lines_of actor lines) (All-head (λ (l : Line). is_same actor l.actor ≡ false) line lines each)
    ∙ none_chosen actor lines (All-tail (λ (l : Line). is_same actor l.actor ≡ false) line lines each)

-- Who is no actor of the machine has no line in its trace.
pub absent_lines : (z : Sizes) (lines : List Line) (w : World Held) (actor : Actor) → IsStart z lines w
    → ((j : ℕ) → j < actors_of z → is_same actor (actor_at z j) ≡ false) → lines_of actor lines ≡ []
absent_lines z lines w actor start absent =
    none_chosen actor lines
    (All-weaker (λ (l : Line). IsCommandFor z l.actor l.command) (λ (l : Line). is_same actor l.actor ≡ false) not_its lines start.allowed)
  where
    not_its : (line : Line) → IsCommandFor z line.actor line.command → is_same actor line.actor ≡ false
    not_its line may = let P = present z line.actor line.command may in ap (is_same actor) (sym P.2) ∙ absent P.0 P.1

pub absent_whole : (z : Sizes) (lines : List Line) (w : World Held) (ss : List (Step Kind)) (actor : Actor) → IsStart z lines w → Legal mmu w ss
    → ((j : ℕ) → j < actors_of z → is_same actor (actor_at z j) ≡ false) → Whole actor (history w ss) lines
absent_whole z lines w ss actor start legal absent =
    let quiet =
    run_silent z w ss actor (start_good z lines w start) legal
    (λ i i_in. ap (λ (h : Held). is_same actor h.state.actor) (hand_is z lines w i start i_in) ∙ absent i i_in) in
    let none : lines_of actor lines ≡ [] = absent_lines z lines w actor start absent in
    record {
      begun = quiet.begun ∙ sym none;
      answered_ = ap (map (λ (x : AnsweredLine). x.number)) quiet.answers ∙ ap (map (λ (l : Line). l.number)) (sym none);
    }

pub ends_whole : EndsWhole
ends_whole z lines w ss start legal all = record { begun = λ actor. (one actor).begun; answered = λ actor. (one actor).answered_ }
  where
    case : (actor : Actor) → Present z actor ⊎ ((j : ℕ) → j < actors_of z → is_same actor (actor_at z j) ≡ false) → Whole actor (history w ss) lines
    case actor (inl P) = subst (λ x. Whole x (history w ss) lines) P.2 (whole_of z lines w ss P.0 start legal P.1 (all P.0 P.1))
    case actor (inr absent) = absent_whole z lines w ss actor start legal absent

    one : (actor : Actor) → Whole actor (history w ss) lines
    one actor = case actor (present_or z actor)
