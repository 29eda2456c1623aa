-- Wherever the steps have come, each actor has begun and answered the first ones of its lines.
use Rattle.std.proofs.Common.{◌≡◌, ◌⊎◌, inl, inr, ◌+◌, ◌<◌, ◌≤◌, ℕ, zero, suc, List, [], length, take, refl, sym, subst, ap, ◌∙◌, arith}
use Rattle.std.specs.Prelude.{false, map}
use Rattle.core_views.specs.declared.actor.Actor.{Actor}
use Rattle.core_views.specs.declared.answer.AnsweredLine.{AnsweredLine}
use Rattle.core_views.specs.declared.event.Event.{Event}
use Rattle.core_views.specs.declared.place.Place.{Place}
use Rattle.core_views.specs.declared.place.Place.TheVariants as place
use Rattle.core_views.specs.declared.trace.Line.{Line}
use Rattle.core_views.specs.Actors.{is_same}
use Rattle.core_views.specs.Held.{Held}
use Rattle.core_views.specs.Sizes.{actor_at, actors_of, index_of}
use Rattle.core_views.specs.Whole.{lines_of}
use Rattle.mmu_core.specs.machine.Enabled.{mmu}
use Rattle.mmu_laws.specs.flat.Histories.{StaysWhole, answers_by}
use Rattle.mmu_core.specs.machine.Machine.{hand_in, run}
use Rattle.mmu_core.specs.machine.Worlds.{history}
use Rattle.mmu_laws.proofs.flat.EveryAnswer.{Present, absent_lines, absent_whole, begun_all, present_or, start_follows}
use Rattle.mmu_laws.proofs.flat.Followed.{begun_count, begun_lines}
use Rattle.mmu_core.proofs.start.Starts.{place_of_actor}
use Rattle.mmu_laws.proofs.flat.ToldOf.{begun_by}

-- So many lines of the actor are begun, and so many answered.
record First (actor : Actor) (begun answered_ : ℕ) (h : List Event) (lines : List Line) : Type 0 where
  begins : begun_by actor h ≡ take begun (lines_of actor lines)
  answers : map (λ (x : AnsweredLine). x.number) (answers_by actor h) ≡ map (λ (l : Line). l.number) (take answered_ (lines_of actor lines))

but_one : (h : Held) → begun_lines h ≤ length h.answers + 1
but_one h = at (length h.answers) h.state.place
  where
    at : (n : ℕ) (p : Place) → begun_count p n ≤ n + 1
    at n place.Between = omega arith
    at n _ = omega arith

take_none : (n : ℕ) → take {A = Line} n [] ≡ []
take_none zero = refl
take_none (suc n) = refl

pub stays_whole : StaysWhole
stays_whole z lines w ss start legal = record {
  begun = λ actor. (one actor (present_or z actor)).begins;
  answered = λ actor. (one actor (present_or z actor)).answers;
  before = λ actor. begun_all (hand actor);
  but_one = λ actor. but_one (hand actor);
}
  where
    hand : Actor → Held
    hand actor = hand_in mmu (run mmu w ss) (index_of z actor)

    there : (actor : Actor) (i : ℕ) → i < actors_of z → actor_at z i ≡ actor → index_of z actor ≡ i
    there actor i i_in is = ap (index_of z) (sym is) ∙ place_of_actor z i i_in

    of_hand : (i : ℕ) → i < actors_of z
        → First (actor_at z i) (begun_lines (hand_in mmu (run mmu w ss) i)) (length (hand_in mmu (run mmu w ss) i).answers) (history w ss) lines
    of_hand i i_in =
        let g : Held = hand_in mmu (run mmu w ss) i in
        let F = start_follows z lines w ss i start legal i_in in
        record {
          begins = sym F.begun;
          answers =
              ap (map (λ (x : AnsweredLine). x.number)) (sym F.answers) ∙ F.numbers refl
              ∙ ap (λ (ls : List Line). map (λ (l : Line). l.number) (take (length g.answers) ls)) F.lines;
        }

    one : (actor : Actor) → Present z actor ⊎ ((j : ℕ) → j < actors_of z → is_same actor (actor_at z j) ≡ false)
        → First actor (begun_lines (hand actor)) (length (hand actor).answers) (history w ss) lines
    one actor (inl P) =
        subst (λ (n : ℕ). First actor (begun_lines (hand_in mmu (run mmu w ss) n)) (length (hand_in mmu (run mmu w ss) n).answers) (history w ss)
        lines) (sym (there actor P.0 P.1 P.2))
        (subst (λ (a : Actor). First a (begun_lines (hand_in mmu (run mmu w ss) P.0)) (length (hand_in mmu (run mmu w ss) P.0).answers) (history w ss)
        lines) P.2 (of_hand P.0 P.1))
    one actor (inr absent) =
        let W = absent_whole z lines w ss actor start legal absent in
        record {
          begins = W.begun ∙ none ∙ sym (ap (take (begun_lines (hand actor))) none ∙ take_none (begun_lines (hand actor)));
          answers =
              W.answered_ ∙ ap (map (λ (l : Line). l.number))
              (none ∙ sym (ap (take (length (hand actor).answers)) none ∙ take_none (length (hand actor).answers)));
        }
      where
        none : lines_of actor lines ≡ []
        none = absent_lines z lines w actor start absent
