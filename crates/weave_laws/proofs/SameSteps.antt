-- Turns of one actor, of the items of a schedule, and in rounds: from one world on they are one list.
use Rattle.std.proofs.Common.{◌≡◌, ◌⊎◌, inl, inr, ◌<◌, ◌≤◌, ℕ, zero, suc, List, [], ◌∷◌, ◌++◌, length, refl, sym, subst, ap, ◌∙◌, arith}
use Rattle.std.proofs.lemmas.Bool.{cases_Bool, cases_lt}
use Rattle.std.specs.Prelude.{true, false}
use Rattle.core_views.specs.declared.kind.Kind.{Kind}
use Rattle.core_views.specs.declared.sizes.Sizes.{Sizes}
use Rattle.core_views.specs.declared.trace.Item.{Item}
use Rattle.core_views.specs.declared.trace.Until.{Until}
use Rattle.core_views.specs.declared.trace.Until.TheVariants as until
use Rattle.core_views.specs.Held.{Held}
use Rattle.core_views.specs.Sizes.{actors_of, index_of}
use Rattle.part_steps.specs.Tasks.{kind_of_task}
use Rattle.mmu_core.specs.invariant.Laws.{IsSound}
use Rattle.mmu_core.specs.machine.Enabled.{mmu}
use Rattle.mmu_core.specs.machine.Machine.{Legal, May, Step, World, effect, hand_in, run}
use Rattle.mmu_core.specs.machine.Steps.{task_of}
use Rattle.mmu_core.proofs.machine.Which.{is_next}
use Rattle.mmu_core.proofs.machine.Worlds.{good_step}
use Rattle.mmu_laws.proofs.causes.StarvedScan.{legal_parts}
use Rattle.turn_loops.specs.Marks.{Mark}
use Rattle.turn_loops.specs.Rounds.{AllAnswered, IsNextInRound, RunsRounds, place_behind}
use Rattle.turn_loops.specs.Turning.{AreTurns, HasLineLeft, HasNoLineLeft, LastEnds, NoneEndsBefore, RunsBy, RunsItems, ends_item}

-- ---- one step

-- the one step that an actor with a line left can make
abbrev only_step : World Held → ℕ → Step Kind
only_step w a = record { actor = a; kind = kind_of_task (hand_in mmu w a).state.sizes (task_of (hand_in mmu w a)) }

pub absurd_left : (w : World Held) (a : ℕ) → HasLineLeft a w → HasNoLineLeft a w → ⊥
absurd_left w a has none = let e : true ≡ false = sym has ∙ none in cc e

step_is : (w : World Held) (a : ℕ) (s : Step Kind) → s.actor ≡ a → HasLineLeft a w → May mmu w s → s ≡ only_step w a
step_is w a s own left may =
    let here : HasLineLeft s.actor w = subst (λ n. HasLineLeft n w) (sym own) left in
    let kind : s.kind ≡ (only_step w a).kind =
    (is_next (hand_in mmu w s.actor) s.kind may.enabled here).is ∙ ap (λ n. (only_step w n).kind) own in
    λ i. record { actor = own i; kind = kind i }

-- So two of them are the same.
pub one_step : (w : World Held) (a : ℕ) (s t : Step Kind) → s.actor ≡ a → t.actor ≡ a → HasLineLeft a w → May mmu w s → May mmu w t → s ≡ t
one_step w a s t own other left may can = step_is w a s own left may ∙ sym (step_is w a t other left can)

pub same_cons : (s t : Step Kind) (ss ts : List (Step Kind)) → s ≡ t → ss ≡ ts → s ∷ ss ≡ t ∷ ts
same_cons s t ss ts e es = λ i. e i ∷ es i

-- ---- so many turns of one actor

-- Turns of an actor that may be made, at most so many; and so many, or no line is left.
record AreCounted (actor count : ℕ) (w : World Held) (ss : List (Step Kind)) : Type 0 where
  legal : Legal mmu w ss
  turns : AreTurns actor w ss
  few : length ss ≤ count
  over : (length ss ≡ count) ⊎ HasNoLineLeft actor (run mmu w ss)

-- They don't end where another turn is made.
counted_on : (actor count : ℕ) (w : World Held) (t : Step Kind) (ts : List (Step Kind)) → AreCounted actor count w []
    → AreCounted actor count w (t ∷ ts) → ⊥
counted_on actor count w t ts A B = by A.over
  where
    by : (0 ≡ count) ⊎ HasNoLineLeft actor w → ⊥
    by (inl e) = let few = B.few in omega (arith, e, few)
    by (inr none) = absurd_left w actor B.turns.0.left none

counted_later : (actor count : ℕ) (w : World Held) (s : Step Kind) (ss : List (Step Kind)) → AreCounted actor (suc count) w (s ∷ ss)
    → AreCounted actor count (effect mmu w s) ss
counted_later actor count w s ss A =
    record { legal = A.legal.1; turns = A.turns.1; few = let few = A.few in omega (arith, few); over = by A.over }
  where
    by : (length (s ∷ ss) ≡ suc count) ⊎ HasNoLineLeft actor (run mmu w (s ∷ ss)) → (length ss ≡ count) ⊎ HasNoLineLeft actor (run mmu (effect mmu w s) ss)
    by (inl e) = inl (omega (arith, e))
    by (inr none) = inr none

same_counted : (actor count : ℕ) (w : World Held) (ss ts : List (Step Kind)) → AreCounted actor count w ss → AreCounted actor count w ts → ss ≡ ts
same_counted actor count w [] [] A B = refl
same_counted actor count w [] (t ∷ ts) A B = absurd (counted_on actor count w t ts A B)
same_counted actor count w (s ∷ ss) [] A B = absurd (counted_on actor count w s ss B A)
same_counted actor zero w (s ∷ ss) (t ∷ ts) A B = let few = A.few in absurd (omega (arith, few))
same_counted actor (suc count) w (s ∷ ss) (t ∷ ts) A B =
    let e = one_step w actor s t A.turns.0.own B.turns.0.own A.turns.0.left A.legal.0 B.legal.0 in
    same_cons s t ss ts e (same_counted actor count (effect mmu w s) ss ts (counted_later actor count w s ss A)
    (subst (λ (x : World Held). AreCounted actor count x ts) (ap (effect mmu w) (sym e)) (counted_later actor count w t ts B)))

-- ---- turns of one actor until one ends the item

record AreUntil (goal : Until) (actor : ℕ) (w : World Held) (ss : List (Step Kind)) : Type 0 where
  legal : Legal mmu w ss
  turns : AreTurns actor w ss
  none_ends : NoneEndsBefore goal w ss
  over : LastEnds goal w ss ⊎ HasNoLineLeft actor (run mmu w ss)

until_on : (goal : Until) (actor : ℕ) (w : World Held) (t : Step Kind) (ts : List (Step Kind)) → AreUntil goal actor w [] → AreUntil goal actor w (t ∷ ts) → ⊥
until_on goal actor w t ts A B = by A.over
  where
    by : LastEnds goal w [] ⊎ HasNoLineLeft actor w → ⊥
    by (inl none) = none
    by (inr none) = absurd_left w actor B.turns.0.left none

-- A turn that doesn't end the item leaves its end to the turns after it.
until_later : (goal : Until) (actor : ℕ) (w : World Held) (s : Step Kind) (ss : List (Step Kind)) → ends_item goal w s ≡ false
    → AreUntil goal actor w (s ∷ ss) → AreUntil goal actor (effect mmu w s) ss
until_later goal actor w s ss on A = record { legal = A.legal.1; turns = A.turns.1; none_ends = A.none_ends.1; over = by ss A.over }
  where
    by : (ss : List (Step Kind)) → LastEnds goal w (s ∷ ss) ⊎ HasNoLineLeft actor (run mmu w (s ∷ ss))
        → LastEnds goal (effect mmu w s) ss ⊎ HasNoLineLeft actor (run mmu (effect mmu w s) ss)
    by [] (inl ends) = let e : true ≡ false = sym ends ∙ on in absurd (cc e)
    by (t ∷ ss) (inl ends) = inl ends
    by ss (inr none) = inr none

same_until : (goal : Until) (actor : ℕ) (w : World Held) (ss ts : List (Step Kind)) → AreUntil goal actor w ss → AreUntil goal actor w ts → ss ≡ ts
same_until goal actor w [] [] A B = refl
same_until goal actor w [] (t ∷ ts) A B = absurd (until_on goal actor w t ts A B)
same_until goal actor w (s ∷ ss) [] A B = absurd (until_on goal actor w s ss B A)
same_until goal actor w (s ∷ ss) (t ∷ ts) A B =
    same_cons s t ss ts e (by (cases_Bool (ends_item goal w s)) (same_until goal actor (effect mmu w s) ss ts))
  where
    e : s ≡ t
    e = one_step w actor s t A.turns.0.own B.turns.0.own A.turns.0.left A.legal.0 B.legal.0

    by : (ends_item goal w s ≡ true) ⊎ (ends_item goal w s ≡ false)
        → (AreUntil goal actor (effect mmu w s) ss → AreUntil goal actor (effect mmu w s) ts → ss ≡ ts) → ss ≡ ts
    by (inl ends) later = A.none_ends.0 ends ∙ sym (B.none_ends.0 (subst (λ (x : Step Kind). ends_item goal w x ≡ true) e ends))
    by (inr on) later = later (until_later goal actor w s ss on A)
        (subst (λ (x : World Held). AreUntil goal actor x ts) (ap (effect mmu w) (sym e))
        (until_later goal actor w t ts (subst (λ (x : Step Kind). ends_item goal w x ≡ false) e on) B))

-- ---- items

same_item : (goal : Until) (actor : ℕ) (w : World Held) (ss ts : List (Step Kind)) → Legal mmu w ss → Legal mmu w ts → RunsBy goal actor w ss
    → RunsBy goal actor w ts → ss ≡ ts
same_item (until.Turns count) actor w ss ts legal other A B =
    same_counted actor count w ss ts (record { legal = legal; turns = A.so_far.turns; few = A.so_far.within; over = A.over })
    (record { legal = other; turns = B.so_far.turns; few = B.so_far.within; over = B.over })
same_item until.Answered actor w ss ts legal other A B =
    same_until until.Answered actor w ss ts
    (record { legal = legal; turns = A.so_far.turns; none_ends = A.so_far.none_ends; over = A.over })
    (record { legal = other; turns = B.so_far.turns; none_ends = B.so_far.none_ends; over = B.over })
same_item (until.Made code) actor w ss ts legal other A B =
    same_until (until.Made code) actor w ss ts
    (record { legal = legal; turns = A.so_far.turns; none_ends = A.so_far.none_ends; over = A.over })
    (record { legal = other; turns = B.so_far.turns; none_ends = B.so_far.none_ends; over = B.over })

pub same_items : (z : Sizes) (items : List Item) (w : World Held) (ss ts : List (Step Kind)) (ms ns : List Mark) → Legal mmu w ss → Legal mmu w ts
    → RunsItems z items w ss ms → RunsItems z items w ts ns → ss ≡ ts
same_items z [] w ss ts ms ns legal other A B = A.0 ∙ sym B.0
same_items z (item ∷ items) w ss ts ms ns legal other (own, rest, first, later, are, marked, runs, more) (mine, left, early, late, is, marks, makes, goes) =
    are ∙ (λ i. same i ++ same_rest (same_items z items (run mmu w own) rest left later late) i) ∙ sym is
  where
    L : Legal mmu w own × Legal mmu (run mmu w own) rest
    L = legal_parts w own rest (subst (Legal mmu w) are legal)

    M : Legal mmu w mine × Legal mmu (run mmu w mine) left
    M = legal_parts w mine left (subst (Legal mmu w) is other)

    same : own ≡ mine
    same = same_item item.until (index_of z item.actor) w own mine L.0 M.0 runs.0 makes.0

    back : run mmu w mine ≡ run mmu w own
    back = ap (run mmu w) (sym same)

    same_rest : (Legal mmu (run mmu w own) rest → Legal mmu (run mmu w own) left → RunsItems z items (run mmu w own) rest later
        → RunsItems z items (run mmu w own) left late → rest ≡ left) → rest ≡ left
    same_rest by =
        by L.1 (subst (λ (x : World Held). Legal mmu x left) back M.1) more (subst (λ (x : World Held). RunsItems z items x left late) back goes)

-- ---- rounds

-- Turns in rounds from this place on, at most so many; and so many, or no actor has a line left.
pub record AreInRoundsFrom (z : Sizes) (first count : ℕ) (w : World Held) (ss : List (Step Kind)) : Type 0 where
  pub legal : Legal mmu w ss
  pub next : ℕ
  pub rounds : RunsRounds z first next w ss
  pub few : length ss ≤ count
  pub over : (length ss ≡ count) ⊎ AllAnswered z (run mmu w ss)

-- The first actor from a place on that has a line left is one.
same_far : (z : Sizes) (first : ℕ) (w : World Held) (s t : Step Kind) → IsNextInRound z first w s → IsNextInRound z first w t → s.actor ≡ t.actor
same_far z first w s t A B = A.is ∙ ap (place_behind (actors_of z) first) far ∙ sym B.is
  where
    left_at : (u : Step Kind) (n : ℕ) → u.actor ≡ place_behind (actors_of z) first n → HasLineLeft u.actor w
        → HasLineLeft (place_behind (actors_of z) first n) w
    left_at u n is left = subst (λ k. HasLineLeft k w) is left

    not_less : A.far < B.far → ⊥
    not_less lt = absurd_left w (place_behind (actors_of z) first A.far) (left_at s A.far A.is A.left) (B.passed A.far lt)

    not_more : B.far < A.far → ⊥
    not_more lt = absurd_left w (place_behind (actors_of z) first B.far) (left_at t B.far B.is B.left) (A.passed B.far lt)

    far : A.far ≡ B.far
    far = by (cases_lt A.far B.far) (cases_lt B.far A.far)
      where
        by : (A.far < B.far) ⊎ (B.far ≤ A.far) → (B.far < A.far) ⊎ (A.far ≤ B.far) → A.far ≡ B.far
        by (inl lt) more = absurd (not_less lt)
        by (inr le) (inl lt) = absurd (not_more lt)
        by (inr le) (inr ge) = omega (arith, le, ge)

rounds_on : (z : Sizes) (first count : ℕ) (w : World Held) (t : Step Kind) (ts : List (Step Kind)) → IsSound z w → AreInRoundsFrom z first count w []
    → AreInRoundsFrom z first count w (t ∷ ts) → ⊥
rounds_on z first count w t ts G A B = by A.over
  where
    by : (0 ≡ count) ⊎ AllAnswered z w → ⊥
    by (inl e) = let few = B.few in omega (arith, e, few)
    by (inr all) = absurd_left w t.actor B.rounds.0.left (all t.actor (subst (λ n. t.actor < n) G.hands B.legal.0.there))

rounds_later : (z : Sizes) (first count : ℕ) (w : World Held) (s : Step Kind) (ss : List (Step Kind)) → AreInRoundsFrom z first (suc count) w (s ∷ ss)
    → AreInRoundsFrom z (suc s.actor) count (effect mmu w s) ss
rounds_later z first count w s ss A =
    record { legal = A.legal.1; next = A.next; rounds = A.rounds.1; few = let few = A.few in omega (arith, few); over = by A.over }
  where
    by : (length (s ∷ ss) ≡ suc count) ⊎ AllAnswered z (run mmu w (s ∷ ss)) → (length ss ≡ count) ⊎ AllAnswered z (run mmu (effect mmu w s) ss)
    by (inl e) = inl (omega (arith, e))
    by (inr all) = inr all

pub same_rounds : (z : Sizes) (first count : ℕ) (w : World Held) (ss ts : List (Step Kind)) → IsSound z w → AreInRoundsFrom z first count w ss
    → AreInRoundsFrom z first count w ts → ss ≡ ts
same_rounds z first count w [] [] G A B = refl
same_rounds z first count w [] (t ∷ ts) G A B = absurd (rounds_on z first count w t ts G A B)
same_rounds z first count w (s ∷ ss) [] G A B = absurd (rounds_on z first count w s ss G B A)
same_rounds z first zero w (s ∷ ss) (t ∷ ts) G A B = let few = A.few in absurd (omega (arith, few))
same_rounds z first (suc count) w (s ∷ ss) (t ∷ ts) G A B =
    let e = one_step w s.actor s t refl (sym (same_far z first w s t A.rounds.0 B.rounds.0)) A.rounds.0.left A.legal.0 B.legal.0 in
    same_cons s t ss ts e (same_rounds z (suc s.actor) count (effect mmu w s) ss ts (good_step z w s G A.legal.0) (rounds_later z first count w s ss A)
    (subst (λ (x : Step Kind). AreInRoundsFrom z (suc x.actor) count (effect mmu w x) ts) (sym e) (rounds_later z first count w t ts B)))
