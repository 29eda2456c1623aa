-- The turns_of of some actors, over words and hands as columns: what they tell, and that they can be made.
use Rattle.std.proofs.Common.{◌≡◌, ◌<◌, ℕ, List, [], ◌∷◌, ◌++◌, length, refl, sym, subst, ap, ◌∙◌, arith}
use Rattle.std.specs.Prelude.{Bool, true, false, ◌&&◌, nat_lt}
use Rattle.std.proofs.lemmas.Bool.Decides.{nat_tests}
use Rattle.std.proofs.lemmas.List.{append_assoc}
use Rattle.core_views.specs.declared.event.Event.{Event}
use Rattle.core_views.specs.declared.sizes.Sizes.{Sizes}
use Rattle.core_views.specs.Held.{Held}
use Rattle.core_views.specs.Sizes.{actors_of}
use Rattle.mmu_core.specs.machine.Enabled.{mmu}
use Rattle.mmu_core.specs.machine.NextSteps.{next_step}
use Rattle.mmu_laws.specs.steps.ExampleSteps.{turns_of}
use Rattle.mmu_core.specs.invariant.Laws.{IsSound}
use Rattle.mmu_core.specs.machine.Machine.{Legal, World, answered, effect, hand_in, run}
use Rattle.mmu_core.specs.machine.Steps.{events_of, line_at, place_at}
use Rattle.mmu_core.specs.machine.View.{View, stepped, view}
use Rattle.mmu_core.specs.machine.Worlds.{history}
use Rattle.mmu_laws.proofs.steps.CanStep.{may_step}
use Rattle.mmu_laws.proofs.flat.FlatKept.{told_events, told_is_events}
use Rattle.mmu_core.proofs.machine.Worlds.{good_step, takes_line}
use Rattle.mmu_core.proofs.machine.Which.{has_line_is, is_next}

-- the words and hands after the actor's next step, and what it tells
abbrev pub turned : View → ℕ → View
turned v a =
    stepped a (line_at (v.hand a).state.place (v.hand a)) (line_at (v.hand a).state.place (v.hand a)).command
    (place_at (v.hand a).state.place (v.hand a)) v

abbrev pub tells : View → ℕ → List Event
tells v a =
    told_events v a (line_at (v.hand a).state.place (v.hand a)) (line_at (v.hand a).state.place (v.hand a)).command
    (place_at (v.hand a).state.place (v.hand a))

-- what the actors tell, one after another
abbrev pub tale : View → List ℕ → List Event
tale v [] = []
tale v (a ∷ actors) = tells v a ++ tale (turned v a) actors

-- Each of them has a line left when its turn comes.
abbrev pub HaveLines : Sizes → View → List ℕ → Type 0
HaveLines z v [] = Unit {0}
HaveLines z v (a ∷ actors) = (a < actors_of z) × (length (v.hand a).answers < length (v.hand a).lines) × HaveLines z (turned v a) actors

-- the same, as a test
abbrev pub have_lines : Sizes → View → List ℕ → Bool
have_lines z v [] = true
have_lines z v (a ∷ actors) =
    (nat_lt a (actors_of z) && nat_lt (length (v.hand a).answers) (length (v.hand a).lines)) && have_lines z (turned v a) actors

pub both : (a b : Bool) → (a && b) ≡ true → (a ≡ true) × (b ≡ true)
both true b e = (refl, e)
both false b e = absurd (cc)

pub below : (a b : ℕ) → nat_lt a b ≡ true → a < b
below a b e = grind (arith, nat_tests)

pub have_lines_by : (z : Sizes) (v : View) (actors : List ℕ) → have_lines z v actors ≡ true → HaveLines z v actors
have_lines_by z v [] e = tt
have_lines_by z v (a ∷ actors) e =
    let h : Held = v.hand a in
    let now_ =
    both (nat_lt a (actors_of z) && nat_lt (length h.answers) (length h.lines)) (have_lines z (turned v a) actors) e in
    let there = both (nat_lt a (actors_of z)) (nat_lt (length h.answers) (length h.lines)) now_.0 in
    (below a (actors_of z) there.0, below (length h.answers) (length h.lines) there.1, have_lines_by z (turned v a) actors now_.1)

-- Their steps can be made, and tell that.
pub turns_are : (z : Sizes) (w : World Held) (actors : List ℕ) → IsSound z w → HaveLines z (view z w) actors
    → Legal mmu w (turns_of z w actors) × (history w (turns_of z w actors) ≡ tale (view z w) actors)
turns_are z w [] G have = (tt, refl)
turns_are z w (a ∷ actors) G have =
    let h : Held = hand_in mmu w a in
    let may = may_step z w a G have.0 have.1 in
    let T = takes_line z w (next_step z w a) G may (is_next h (next_step z w a).kind may.enabled (has_line_is h have.1)) in
    let rest =
    turns_are z (effect mmu w (next_step z w a)) actors (good_step z w (next_step z w a) G may)
    (subst (λ (v : View). HaveLines z v actors) (sym T.leads) have.2) in
    let here : events_of h (answered mmu w (next_step z w a).kind) ≡ tells (view z w) a =
    ap (events_of h) T.answers ∙ sym (told_is_events z (view z w) a (line_at h.state.place h) (place_at h.state.place h) T.is_step) in (
      (may, rest.0),
      ap (λ (es : List Event). es ++ history (effect mmu w (next_step z w a)) (turns_of z (effect mmu w (next_step z w a)) actors)) here
          ∙ ap (λ (es : List Event). tells (view z w) a ++ es) (rest.1 ∙ ap (λ (v : View). tale v actors) T.leads),
    )

-- the words and hands after them
abbrev pub turned_all : View → List ℕ → View
turned_all v [] = v
turned_all v (a ∷ actors) = turned_all (turned v a) actors

pub turns_lead : (z : Sizes) (w : World Held) (actors : List ℕ) → IsSound z w → HaveLines z (view z w) actors
    → ◌≡◌ {A = View} (view z (run mmu w (turns_of z w actors))) (turned_all (view z w) actors)
turns_lead z w [] G have = refl
turns_lead z w (a ∷ actors) G have =
    let may = may_step z w a G have.0 have.1 in
    let T = takes_line z w (next_step z w a) G may (is_next (hand_in mmu w a) (next_step z w a).kind may.enabled (has_line_is (hand_in mmu w a) have.1)) in
    turns_lead z (effect mmu w (next_step z w a)) actors (good_step z w (next_step z w a) G may)
    (subst (λ (v : View). HaveLines z v actors) (sym T.leads) have.2)
    ∙ ap (λ (v : View). turned_all v actors) T.leads

-- ---- turns after turns

-- These actors in turn can make their steps, which lead there and tell this.
pub record Runs (z : Sizes) (v : View) (actors : List ℕ) (there : View) (events : List Event) : Type 0 where
  pub have : HaveLines z v actors
  pub leads : ◌≡◌ {A = View} (turned_all v actors) there
  pub tells_them : tale v actors ≡ events

pub no_turns : (z : Sizes) (v : View) → Runs z v [] v []
no_turns z v = record { have = tt; leads = refl; tells_them = refl }

have_both : (z : Sizes) (v : View) (xs ys : List ℕ) → HaveLines z v xs → HaveLines z (turned_all v xs) ys → HaveLines z v (xs ++ ys)
have_both z v [] ys first next = next
have_both z v (a ∷ xs) ys first next = (first.0, first.1, have_both z (turned v a) xs ys first.2 next)

turned_both : (v : View) (xs ys : List ℕ) → ◌≡◌ {A = View} (turned_all v (xs ++ ys)) (turned_all (turned_all v xs) ys)
turned_both v [] ys = refl
turned_both v (a ∷ xs) ys = turned_both (turned v a) xs ys

tale_both : (v : View) (xs ys : List ℕ) → tale v (xs ++ ys) ≡ tale v xs ++ tale (turned_all v xs) ys
tale_both v [] ys = refl
tale_both v (a ∷ xs) ys =
    ap (λ (es : List Event). tells v a ++ es) (tale_both (turned v a) xs ys)
    ∙ sym (append_assoc (tells v a) (tale (turned v a) xs) (tale (turned_all (turned v a) xs) ys))

pub run_on : (z : Sizes) (v w x : View) (xs ys : List ℕ) (es fs : List Event) → Runs z v xs w es → Runs z w ys x fs → Runs z v (xs ++ ys) x (es ++ fs)
run_on z v w x xs ys es fs R S = record {
  have = have_both z v xs ys R.have (subst (λ (u : View). HaveLines z u ys) (sym R.leads) S.have);
  leads = turned_both v xs ys ∙ (ap (λ (u : View). turned_all u ys) R.leads ∙ S.leads);
  tells_them =
      tale_both v xs ys
      ∙ (ap (λ (ds : List Event). ds ++ tale (turned_all v xs) ys) R.tells_them
      ∙ ap (λ (ds : List Event). es ++ ds) (ap (λ (u : View). tale u ys) R.leads ∙ S.tells_them));
}
