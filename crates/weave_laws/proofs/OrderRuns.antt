-- Turns of some actors in an order, as those of the items of a schedule and of rounds: over words and hands as columns, by tests that compute.
use Rattle.std.proofs.Common.{◌≡◌, ◌⊎◌, inl, inr, ◌<◌, ◌≤◌, ◌+◌, ℕ, zero, suc, List, [], ◌∷◌, ◌++◌, length, refl, sym, subst, ap, ◌∙◌, arith}
use Rattle.std.proofs.lemmas.Bool.{cases_Bool, cases_lt}
use Rattle.std.proofs.lemmas.Bool.Decides.{Decides-eqb}
use Rattle.std.specs.Prelude.{Bool, true, false, ◌&&◌, ◌||◌, ◌==◌, not, if◌then◌else◌}
use Rattle.core_views.specs.declared.kind.Kind.{Kind}
use Rattle.core_views.specs.declared.sizes.Sizes.{Sizes}
use Rattle.core_views.specs.declared.trace.Item.{Item}
use Rattle.core_views.specs.declared.trace.Until.{Until}
use Rattle.core_views.specs.declared.trace.Until.TheVariants as until
use Rattle.core_views.specs.Held.{Held}
use Rattle.core_views.specs.Sizes.{actors_of, index_of}
use Rattle.part_steps.specs.Tasks.{kind_of_task}
use Rattle.mmu_core.specs.invariant.Laws.{IsSound}
use Rattle.mmu_core.specs.machine.Enabled.{mmu}
use Rattle.mmu_core.specs.machine.Machine.{May, Step, World, effect, hand_in, run}
use Rattle.mmu_core.specs.machine.NextSteps.{next_step}
use Rattle.mmu_core.specs.machine.Steps.{has_line, task_of}
use Rattle.mmu_core.specs.machine.View.{View, answer_in, view}
use Rattle.mmu_core.proofs.machine.Which.{has_line_is, is_next}
use Rattle.mmu_core.proofs.machine.Worlds.{Takes, good_step, takes_line}
use Rattle.mmu_laws.specs.steps.ExampleSteps.{turns_of}
use Rattle.mmu_laws.proofs.steps.CanStep.{may_step}
use Rattle.mmu_laws.proofs.steps.ViewRuns.{HaveLines, both, turned, turned_all, turns_lead}
use Rattle.turn_loops.specs.Marks.{Begins, Mark, turns_from}
use Rattle.turn_loops.specs.Rounds.{AllAnswered, IsNextInRound, RunsRounds, place_behind}
use Rattle.turn_loops.specs.Turning.{AreTurns, HasNoLineLeft, LastEnds, NoneEndsBefore, RunsBy, RunsItems, ends_item}
use Rattle.turn_loops.specs.Turning.{hand_stops, names_kind}

-- ---- one turn

-- The actor's next turn is the last one of an item that goes on until so.
abbrev ends_here : Sizes → Until → View → ℕ → Bool
ends_here z (until.Turns count) v a = false
ends_here z goal v a =
    names_kind goal (kind_of_task z (task_of (v.hand a))).code || hand_stops (v.hand a) (answer_in (task_of (v.hand a)) v.words)

-- The next step of an actor may be made, and leads to the view after its turn.
pub record Turned (z : Sizes) (w : World Held) (a : ℕ) : Type 0 where
  pub may : May mmu w (next_step z w a)
  pub takes : Takes z w (next_step z w a) (hand_in mmu w a)
  pub good : IsSound z (effect mmu w (next_step z w a))

has_one : (z : Sizes) (v : View) (a : ℕ) (actors : List ℕ) → HaveLines z v (a ∷ actors) → has_line (v.hand a) ≡ true
has_one z v a actors have = has_line_is (v.hand a) have.1

pub one_turn : (z : Sizes) (w : World Held) (a : ℕ) (actors : List ℕ) → IsSound z w → HaveLines z (view z w) (a ∷ actors) → Turned z w a
one_turn z w a actors G have =
    let may = may_step z w a G have.0 have.1 in
    record {
      may = may;
      takes = takes_line z w (next_step z w a) G may
          (is_next (hand_in mmu w a) (next_step z w a).kind may.enabled (has_one z (view z w) a actors have));
      good = good_step z w (next_step z w a) G may;
    }

have_later : (z : Sizes) (w : World Held) (a : ℕ) (actors : List ℕ) → HaveLines z (view z w) (a ∷ actors) → Turned z w a
    → HaveLines z (view z (effect mmu w (next_step z w a))) actors
have_later z w a actors have T = subst (λ (v : View). HaveLines z v actors) (sym T.takes.leads) have.2

ends_same : (z : Sizes) (goal : Until) (w : World Held) (a : ℕ) → Turned z w a → ends_item goal w (next_step z w a) ≡ ends_here z goal (view z w) a
ends_same z (until.Turns count) w a T = refl
ends_same z until.Answered w a T =
    ap (λ n. names_kind until.Answered (next_step z w a).kind.code || hand_stops (hand_in mmu w a) n) T.takes.answers
ends_same z (until.Made code) w a T =
    ap (λ n. names_kind (until.Made code) (next_step z w a).kind.code || hand_stops (hand_in mmu w a) n) T.takes.answers

-- ---- lists of turns

pub turns_both : (z : Sizes) (w : World Held) (actors bs : List ℕ)
    → turns_of z w (actors ++ bs) ≡ turns_of z w actors ++ turns_of z (run mmu w (turns_of z w actors)) bs
turns_both z w [] bs = refl
turns_both z w (a ∷ actors) bs =
    ap (λ (ss : List (Step Kind)). next_step z w a ∷ ss) (turns_both z (effect mmu w (next_step z w a)) actors bs)

pub turns_count : (z : Sizes) (w : World Held) (actors : List ℕ) → length (turns_of z w actors) ≡ length actors
turns_count z w [] = refl
turns_count z w (a ∷ actors) = let rest = turns_count z (effect mmu w (next_step z w a)) actors in omega (arith, rest)

-- The first turns have their lines, and so have the later ones after them.
pub have_parts : (z : Sizes) (w : World Held) (actors bs : List ℕ) → IsSound z w → HaveLines z (view z w) (actors ++ bs)
    → HaveLines z (view z w) actors × IsSound z (run mmu w (turns_of z w actors)) × HaveLines z (view z (run mmu w (turns_of z w actors))) bs
have_parts z w [] bs G have = (tt, G, have)
have_parts z w (a ∷ actors) bs G have =
    let T = one_turn z w a (actors ++ bs) G have in
    let rest = have_parts z (effect mmu w (next_step z w a)) actors bs T.good (have_later z w a (actors ++ bs) have T) in
    ((have.0, have.1, subst (λ (v : View). HaveLines z v actors) T.takes.leads rest.0), rest.1, rest.2)

-- ---- an item

-- All turns are of one actor.
abbrev are_of : ℕ → List ℕ → Bool
are_of actor [] = true
are_of actor (a ∷ actors) = (a == actor) && are_of actor actors

-- The last turn ends an item that goes on until so, and none before it.
abbrev last_ends : Sizes → Until → List ℕ → View → Bool
last_ends z goal [] v = false
last_ends z goal (a ∷ []) v = ends_here z goal v a
last_ends z goal (a ∷ b ∷ actors) v = not (ends_here z goal v a) && last_ends z goal (b ∷ actors) (turned v a)

-- These turns are all that the item has.
abbrev item_fits : Sizes → Until → List ℕ → View → Bool
item_fits z (until.Turns count) actors v = length actors == count
item_fits z goal actors v = last_ends z goal actors v

own_turns : (z : Sizes) (actor : ℕ) (w : World Held) (actors : List ℕ) → IsSound z w → HaveLines z (view z w) actors → are_of actor actors ≡ true
    → AreTurns actor w (turns_of z w actors)
own_turns z actor w [] G have own = tt
own_turns z actor w (a ∷ actors) G have own =
    let T = one_turn z w a actors G have in
    let halves = both (a == actor) (are_of actor actors) own in
    let same : a ≡ actor = (Decides-eqb a actor).0 halves.0 in (
      record { own = same; left = subst (λ n. has_line (hand_in mmu w n) ≡ true) same T.takes.has },
      own_turns z actor (effect mmu w (next_step z w a)) actors T.good (have_later z w a actors have T) halves.1,
    )

-- No count of turns is ended by a turn.
count_on : (count : ℕ) (w : World Held) (ss : List (Step Kind)) → NoneEndsBefore (until.Turns count) w ss
count_on count w [] = tt
count_on count w (s ∷ ss) = (λ e. absurd (cc e), count_on count (effect mmu w s) ss)

cases_below : (i n : ℕ) → i ≤ n → (i < n) ⊎ (i ≡ n)
cases_below i n le = by (cases_lt i n)
  where
    by : (i < n) ⊎ (n ≤ i) → (i < n) ⊎ (i ≡ n)
    by (inl lt) = inl lt
    by (inr ge) = inr (omega (arith, le, ge))

not_true : (b : Bool) → not b ≡ true → b ≡ false
not_true true e = absurd (cc e)
not_true false e = refl

-- An item with no count of turns.
record Ended (goal : Until) (w : World Held) (ss : List (Step Kind)) : Type 0 where
  none_ends : NoneEndsBefore goal w ss
  last : LastEnds goal w ss

until_turns : (z : Sizes) (goal : Until) (w : World Held) (actors : List ℕ) → IsSound z w → HaveLines z (view z w) actors
    → last_ends z goal actors (view z w) ≡ true → Ended goal w (turns_of z w actors)
until_turns z goal w [] G have ends = absurd (cc ends)
until_turns z goal w (a ∷ []) G have ends = record { none_ends = (λ e. refl, tt); last = ends_same z goal w a (one_turn z w a [] G have) ∙ ends }
until_turns z goal w (a ∷ b ∷ actors) G have ends =
    let T = one_turn z w a (b ∷ actors) G have in
    let halves = both (not (ends_here z goal (view z w) a)) (last_ends z goal (b ∷ actors) (turned (view z w) a)) ends in
    let on : ends_item goal w (next_step z w a) ≡ false = ends_same z goal w a T ∙ not_true (ends_here z goal (view z w) a) halves.0 in
    let rest =
    until_turns z goal (effect mmu w (next_step z w a)) (b ∷ actors) T.good (have_later z w a (b ∷ actors) have T)
    (subst (λ (v : View). last_ends z goal (b ∷ actors) v ≡ true) (sym T.takes.leads) halves.1) in
    record { none_ends = (λ e. absurd (let no : true ≡ false = sym e ∙ on in cc no), rest.none_ends); last = rest.last }

item_runs : (z : Sizes) (goal : Until) (actor : ℕ) (w : World Held) (actors : List ℕ) → IsSound z w → HaveLines z (view z w) actors → are_of actor actors ≡ true
    → item_fits z goal actors (view z w) ≡ true → RunsBy goal actor w (turns_of z w actors)
item_runs z (until.Turns count) actor w actors G have own fits =
    let count_is : length actors ≡ count = (Decides-eqb (length actors) count).0 fits in
    let made = turns_count z w actors in
    record {
      so_far = record {
        turns = own_turns z actor w actors G have own;
        none_ends = count_on count w (turns_of z w actors);
        within = omega (arith, made, count_is);
      };
      over = inl (made ∙ count_is);
    }
item_runs z until.Answered actor w actors G have own fits =
    let E = until_turns z until.Answered w actors G have fits in
    record { so_far = record { turns = own_turns z actor w actors G have own; none_ends = E.none_ends; within = tt }; over = inl E.last }
item_runs z (until.Made code) actor w actors G have own fits =
    let E = until_turns z (until.Made code) w actors G have fits in
    record { so_far = record { turns = own_turns z actor w actors G have own; none_ends = E.none_ends; within = tt }; over = inl E.last }

-- ---- all items

-- the turns of all items
abbrev pub all_turns : List (List ℕ) → List ℕ
all_turns [] = []
all_turns (actors ∷ rest) = actors ++ all_turns rest

-- The turns of each item are all that it has.
abbrev pub items_fit : Sizes → List Item → List (List ℕ) → View → Bool
items_fit z [] [] v = true
items_fit z (item ∷ items) (actors ∷ rest) v =
    (are_of (index_of z item.actor) actors && item_fits z item.until actors v) && items_fit z items rest (turned_all v actors)
items_fit z _ _ v = false

pub items_run : (z : Sizes) (items : List Item) (orders : List (List ℕ)) (w : World Held) → IsSound z w → HaveLines z (view z w) (all_turns orders)
    → items_fit z items orders (view z w) ≡ true → (marks : List Mark) × RunsItems z items w (turns_of z w (all_turns orders)) marks
items_run z [] [] w G have fits = ([], (refl, refl))
items_run z [] (actors ∷ orders) w G have fits = absurd (cc fits)
items_run z (item ∷ items) [] w G have fits = absurd (cc fits)
items_run z (item ∷ items) (actors ∷ orders) w G have fits =
    let actor : ℕ = index_of z item.actor in
    let own : List (Step Kind) = turns_of z w actors in
    let parts = have_parts z w actors (all_turns orders) G have in
    let halves = both (are_of actor actors && item_fits z item.until actors (view z w)) (items_fit z items orders (turned_all (view z w) actors)) fits in
    let here = both (are_of actor actors) (item_fits z item.until actors (view z w)) halves.0 in
    let rest =
    items_run z items orders (run mmu w own) parts.1 parts.2
    (subst (λ (v : View). items_fit z items orders v ≡ true) (sym (turns_lead z w actors G parts.0)) halves.1) in (
      (Begins item ∷ turns_from w own) ++ rest.0,
      (
        own,
        turns_of z (run mmu w own) (all_turns orders),
        Begins item ∷ turns_from w own,
        rest.0,
        turns_both z w actors (all_turns orders),
        refl,
        (item_runs z item.until actor w actors G parts.0 here.0 here.1, refl),
        rest.1,
      ),
    )

-- ---- rounds

-- The actor is the first one with a line left, from a place on and round the order; so far were passed, and so many are to be looked at.
abbrev seeks : Sizes → ℕ → ℕ → ℕ → ℕ → View → Bool
seeks z zero first far a v = false
seeks z (suc left) first far a v =
    if place_behind (actors_of z) first far == a then has_line (v.hand a)
    else (not (has_line (v.hand (place_behind (actors_of z) first far))) && seeks z left first (suc far) a v)

-- Each turn is of the next actor in the rounds.
abbrev pub rounds_fit : Sizes → ℕ → List ℕ → View → Bool
rounds_fit z first [] v = true
rounds_fit z first (a ∷ actors) v = seeks z (actors_of z) first 0 a v && rounds_fit z (suc a) actors (turned v a)

next_in_round : (z : Sizes) (w : World Held) (first a : ℕ) (k : Kind) (left far : ℕ) → left + far ≤ actors_of z
    → ((i : ℕ) → i < far → HasNoLineLeft (place_behind (actors_of z) first i) w) → seeks z left first far a (view z w) ≡ true
    → IsNextInRound z first w (record { actor = a; kind = k })
next_in_round z w first a k zero far le passed found = absurd (cc found)
next_in_round z w first a k (suc left) far le passed found =
    by (cases_Bool (here == a)) (next_in_round z w first a k left (suc far) (omega (arith, le)))
  where
    here : ℕ
    here = place_behind (actors_of z) first far

    later : Bool
    later = not (has_line (hand_in mmu w here)) && seeks z left first (suc far) a (view z w)

    by : ((here == a) ≡ true) ⊎ ((here == a) ≡ false)
        → (((i : ℕ) → i < suc far → HasNoLineLeft (place_behind (actors_of z) first i) w) → seeks z left first (suc far) a (view z w) ≡ true
        → IsNextInRound z first w (record { actor = a; kind = k })) → IsNextInRound z first w (record { actor = a; kind = k })
    by (inl same) on = record {
      far = far;
      within = omega (arith, le);
      is = sym ((Decides-eqb here a).0 same);
      left = sym (ap (λ b. if b then has_line (hand_in mmu w a) else later) same) ∙ found;
      passed = passed;
    }
    by (inr other) on =
        let halves =
        both (not (has_line (hand_in mmu w here))) (seeks z left first (suc far) a (view z w))
        (sym (ap (λ b. if b then has_line (hand_in mmu w a) else later) other) ∙ found) in
        on (λ i lt. at (not_true (has_line (hand_in mmu w here)) halves.0) i (cases_last i lt)) halves.1
      where
        cases_last : (i : ℕ) → i < suc far → (i < far) ⊎ (i ≡ far)
        cases_last i lt = cases_below i far (omega (arith, lt))

        at : HasNoLineLeft here w → (i : ℕ) → (i < far) ⊎ (i ≡ far) → HasNoLineLeft (place_behind (actors_of z) first i) w
        at none i (inl lt) = passed i lt
        at none i (inr e) = subst (λ n. HasNoLineLeft (place_behind (actors_of z) first n) w) (sym e) none

pub rounds_run : (z : Sizes) (first : ℕ) (w : World Held) (actors : List ℕ) → IsSound z w → HaveLines z (view z w) actors
    → rounds_fit z first actors (view z w) ≡ true → (next : ℕ) × RunsRounds z first next w (turns_of z w actors)
rounds_run z first w [] G have fits = (first, refl)
rounds_run z first w (a ∷ actors) G have fits =
    let T = one_turn z w a actors G have in
    let halves = both (seeks z (actors_of z) first 0 a (view z w)) (rounds_fit z (suc a) actors (turned (view z w) a)) fits in
    let rest =
    rounds_run z (suc a) (effect mmu w (next_step z w a)) actors T.good (have_later z w a actors have T)
    (subst (λ (v : View). rounds_fit z (suc a) actors v ≡ true) (sym T.takes.leads) halves.1) in (
      rest.0,
      (next_in_round z w first a (next_step z w a).kind (actors_of z) 0 (omega arith) (λ i lt. absurd (omega (arith, lt))) halves.0, rest.1),
    )

-- ---- the end

-- Of so many actors none has a line left.
abbrev pub none_left : ℕ → View → Bool
none_left zero v = true
none_left (suc n) v = not (has_line (v.hand n)) && none_left n v

none_below : (n : ℕ) (v : View) → none_left n v ≡ true → (i : ℕ) → i < n → has_line (v.hand i) ≡ false
none_below zero v none i lt = absurd (omega (arith, lt))
none_below (suc n) v none i lt = by (cases_below i n (omega (arith, lt))) (none_below n v halves.1)
  where
    halves : (not (has_line (v.hand n)) ≡ true) × (none_left n v ≡ true)
    halves = both (not (has_line (v.hand n))) (none_left n v) none

    by : (i < n) ⊎ (i ≡ n) → ((j : ℕ) → j < n → has_line (v.hand j) ≡ false) → has_line (v.hand i) ≡ false
    by (inl less) before = before i less
    by (inr e) before = subst (λ j. has_line (v.hand j) ≡ false) (sym e) (not_true (has_line (v.hand n)) halves.0)

pub all_answered : (z : Sizes) (w : World Held) → none_left (actors_of z) (view z w) ≡ true → AllAnswered z w
all_answered z w none i lt = none_below (actors_of z) (view z w) none i lt
