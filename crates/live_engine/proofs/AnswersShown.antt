-- The hands that a live run leaves have answered all lines, each what the history tells.
use Rattle.std.proofs.Common.{◌≡◌, ◌<◌, ◌∙◌, ℕ, zero, suc, List, [], ◌∷◌, ◌++◌, Some, ap, arith, get_or, length, map, refl, subst, sym}
use Rattle.std.proofs.Math.ListN.{length-map}
use Rattle.std.proofs.lemmas.List.Elements.{All-cons, All-nil, All-weaker}
use Rattle.std.proofs.lemmas.Option.{slice_get-get_or}
use Rattle.std.specs.Prelude.{All, Bool, false, filter, if◌then◌else◌, slice_get, true}
use Rattle.core_views.specs.declared.actor.Actor.{Actor}
use Rattle.core_views.specs.declared.actor.Actor.TheVariants.{Vcpu, Host, Manager, Worker}
use Rattle.core_views.specs.declared.answer.AnsweredLine.{AnsweredLine}
use Rattle.core_views.specs.declared.sizes.Sizes.{Sizes}
use Rattle.core_views.specs.declared.trace.Command.{Command}
use Rattle.core_views.specs.declared.trace.Command.TheVariants.{Access, ChangeHost, ChangeRun, Split}
use Rattle.core_views.specs.declared.trace.Line.{Line}
use Rattle.core_views.specs.declared.trace.Trace.{Trace}
use Rattle.core_views.specs.Actors.{is_same}
use Rattle.core_views.specs.Held.{Handful, Held}
use Rattle.core_views.specs.Sizes.{actor_at, actors_of, sizes_of}
use Rattle.core_views.specs.Text.{answers_of}
use Rattle.core_views.specs.Traces.{HasActor, IsCommandFor}
use Rattle.core_views.proofs.SameActor.{same_is}
use Rattle.closing_text.specs.ByLine.{AllHaveAnswered, AreByLine}
use Rattle.mmu_core.specs.machine.Machine.{World}
use Rattle.mmu_core.proofs.machine.Worlds.{good_run}
use Rattle.mmu_core.proofs.start.Starts.{start_good}
use Rattle.mmu_laws.specs.flat.Histories.{answers_by}
use Rattle.step_seats.specs.Moves.{core_of, handful_in, no_hand, world_of}
use Rattle.step_seats.proofs.Worlds.{core_at}
use Rattle.live_engine.specs.Lives.{AreInFileOrder, Lives, told_by}

has_actor : (z : Sizes) (actor : Actor) (command : Command) → IsCommandFor z actor command → HasActor z actor
has_actor z (Vcpu n) (Access gfn word op) may = may.0
has_actor z (Host n) (ChangeHost page change) may = may
has_actor z (Host n) (ChangeRun page change) may = may.0
has_actor z Manager command may = tt
has_actor z (Worker n) (Split gfn) may = may.0
has_actor z _ _ may = absurd may

-- The hand at a place.
at_get : (hands : List Handful) (i : ℕ) (h : Handful) → slice_get hands i ≡ Some h → (i < length hands) × (handful_in hands i ≡ h)
at_get [] i h e = absurd (cc e)
at_get (x ∷ xs) zero h e = (omega arith, cc e)
at_get (x ∷ xs) (suc i) h e = let rest = at_get xs i h e in (omega (arith, rest.0), rest.1)

-- Each of these answers is the actor's.
all_own : (actor : Actor) (xs : List AnsweredLine) → All (λ x. x.actor ≡ actor) (filter (λ x. is_same actor x.actor) xs)
all_own actor [] = All-nil (λ (x : AnsweredLine). x.actor ≡ actor)
all_own actor (x ∷ xs) = by (is_same actor x.actor) refl (all_own actor xs)
  where
    by : (b : Bool) → is_same actor x.actor ≡ b → All (λ y. y.actor ≡ actor) (filter (λ y. is_same actor y.actor) xs)
        → All (λ y. y.actor ≡ actor) (if b then x ∷ filter (λ y. is_same actor y.actor) xs else filter (λ y. is_same actor y.actor) xs)
    by true e rest =
        All-cons (λ (y : AnsweredLine). y.actor ≡ actor) x (filter (λ y. is_same actor y.actor) xs) (sym (same_is actor x.actor e)) rest
    by false e rest = rest

module _ (trace : Trace) (words : List ℕ) (hands : List Handful) (L : Lives trace (world_of words hands)) where
  abbrev z : Sizes
  z = sizes_of trace.header

  pub count : length hands ≡ actors_of z
  count =
      sym (length-map hands core_of) ∙ (ap (λ (w : World Held). length w.hands) (sym L.ends)
      ∙ (good_run z L.start (L.alone.steps ++ L.beside) (start_good z trace.lines L.start L.is_start) L.legal).hands)

  -- what the hand at a place has answered
  answers_are : (i : ℕ) (h : Handful) → slice_get hands i ≡ Some h → h.core.answers ≡ answers_by (actor_at z i) (told_by trace (world_of words hands) L)
  answers_are i h e =
      let at = at_get hands i h e in
      let there = at.0 in
      sym (ap (λ (x : Held). x.answers) (sym (core_at words hands i) ∙ ap core_of at.1)) ∙ L.hands i (omega (arith, there, count))

  pub all_answered : AllHaveAnswered z trace.lines hands
  all_answered = record {
    few = L.is_start.sizes.actors;
    count = count;
    actors =
        All-weaker (λ (l : Line). IsCommandFor z l.actor l.command) (λ (l : Line). HasActor z l.actor) (λ l may. has_actor z l.actor l.command may)
        trace.lines L.is_start.allowed;
    each = λ i h e. record {
      numbers = ap (map (λ (x : AnsweredLine). x.number)) (answers_are i h e) ∙ L.whole.answered (actor_at z i);
      own =
          subst (All (λ (x : AnsweredLine). x.actor ≡ actor_at z i)) (sym (answers_are i h e))
          (all_own (actor_at z i) (answers_of (told_by trace (world_of words hands) L)));
    };
  }

  pub in_file_order : (answers : List AnsweredLine) → AreByLine z trace.lines hands answers
      → AreInFileOrder z trace.lines (told_by trace (world_of words hands) L) answers
  in_file_order answers B = record {
    numbers = B.numbers;
    actors = B.actors;
    each = λ i lt.
        let there : i < length hands = omega (arith, lt, count) in
        let is = slice_get-get_or hands i no_hand there in
        B.each i (get_or hands i no_hand) is ∙ answers_are i (get_or hands i no_hand) is;
  }
