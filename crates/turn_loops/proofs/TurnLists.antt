-- Lists of turns: one turn more, and the turn that ends an item.
use Rattle.std.proofs.Common.{◌≡◌, ◌⊎◌, inl, inr, ◌+◌, ◌≤◌, ℕ, suc, List, [], ◌∷◌, ◌++◌, length, length-append, refl, sym, ap, subst, ◌∙◌, arith}
use Rattle.std.specs.Prelude.{true, false}
use Rattle.core_views.specs.declared.kind.Kind.{Kind}
use Rattle.core_views.specs.declared.sizes.Sizes.{Sizes}
use Rattle.core_views.specs.declared.trace.Until.{Until}
use Rattle.core_views.specs.declared.trace.Until.TheVariants.{Turns}
use Rattle.core_views.specs.Held.{Held}
use Rattle.mmu_core.specs.machine.Enabled.{mmu}
use Rattle.mmu_core.specs.machine.Machine.{Step, World, effect, run}
use Rattle.turn_loops.specs.Rounds.{IsNextInRound, RunsRounds}
use Rattle.turn_loops.specs.Turning.{AreTurns, HasNoLineLeft, IsOpenEnded, IsTurn, ItemFits, ItemOver, LastEnds, NoneEndsBefore, RunsBy}
use Rattle.turn_loops.specs.Turning.{RunsBySoFar, ends_item}

pub turns_more : (actor : ℕ) (w : World Held) (ss : List (Step Kind)) (s : Step Kind) → AreTurns actor w ss → IsTurn actor (run mmu w ss) s
    → AreTurns actor w (ss ++ s ∷ [])
turns_more actor w [] s all turn = (turn, tt)
turns_more actor w (x ∷ ss) s all turn = (all.0, turns_more actor (effect mmu w x) ss s all.1 turn)

pub rounds_more : (z : Sizes) (first next : ℕ) (w : World Held) (ss : List (Step Kind)) (s : Step Kind) → RunsRounds z first next w ss
    → IsNextInRound z next (run mmu w ss) s → RunsRounds z first (suc s.actor) w (ss ++ s ∷ [])
rounds_more z first next w [] s same turn = (subst (λ (n : ℕ). IsNextInRound z n w s) same turn, refl)
rounds_more z first next w (x ∷ ss) s all turn = (all.0, rounds_more z (suc x.actor) next (effect mmu w x) ss s all.1 turn)

-- The item ends with none of the turns.
abbrev pub NoneEnds : Until → World Held → List (Step Kind) → Type 0
NoneEnds until w [] = Unit {0}
NoneEnds until w (s ∷ ss) = (ends_item until w s ≡ false) × NoneEnds until (effect mmu w s) ss

pub none_more : (until : Until) (w : World Held) (ss : List (Step Kind)) (s : Step Kind) → NoneEnds until w ss
    → ends_item until (run mmu w ss) s ≡ false → NoneEnds until w (ss ++ s ∷ [])
none_more until w [] s none goes = (goes, tt)
none_more until w (x ∷ ss) s none goes = (none.0, none_more until (effect mmu w x) ss s none.1 goes)

pub none_before : (until : Until) (w : World Held) (ss : List (Step Kind)) → NoneEnds until w ss → NoneEndsBefore until w ss
none_before until w [] none = tt
none_before until w (s ∷ ss) none =
    (λ (e : ends_item until w s ≡ true). let f : false ≡ true = sym none.0 ∙ e in absurd (cc f), none_before until (effect mmu w s) ss none.1)

pub last_before : (until : Until) (w : World Held) (ss : List (Step Kind)) (s : Step Kind) → NoneEnds until w ss → NoneEndsBefore until w (ss ++ s ∷ [])
last_before until w [] s none = (λ e. refl, tt)
last_before until w (x ∷ ss) s none =
    (λ (e : ends_item until w x ≡ true). let f : false ≡ true = sym none.0 ∙ e in absurd (cc f), last_before until (effect mmu w x) ss s none.1)

pub last_ends : (until : Until) (w : World Held) (ss : List (Step Kind)) (s : Step Kind) → ends_item until (run mmu w ss) s ≡ true
    → LastEnds until w (ss ++ s ∷ [])
last_ends until w [] s e = e
last_ends until w (x ∷ []) s e = e
last_ends until w (x ∷ y ∷ ss) s e = last_ends until (effect mmu w x) (y ∷ ss) s e

-- An item of so many turns ends with none of them.
pub count_ends_none : (count : ℕ) (w : World Held) (ss : List (Step Kind)) → NoneEnds (Turns count) w ss
count_ends_none count w [] = tt
count_ends_none count w (s ∷ ss) = (refl, count_ends_none count (effect mmu w s) ss)

-- So many turns of the actor.
pub record TurnsMade (actor made : ℕ) (w : World Held) (ss : List (Step Kind)) : Type 0 where
  pub turns : AreTurns actor w ss
  pub count : length ss ≡ made

pub none_made : (actor : ℕ) (w : World Held) → TurnsMade actor 0 w []
none_made actor w = record { turns = tt; count = refl }

pub one_more_made : (actor made : ℕ) (w : World Held) (ss : List (Step Kind)) (s : Step Kind) → TurnsMade actor made w ss
    → IsTurn actor (run mmu w ss) s → TurnsMade actor (made + 1) w (ss ++ s ∷ [])
one_more_made actor made w ss s M turn =
    record { turns = turns_more actor w ss s M.turns turn; count = length-append ss (s ∷ []) ∙ ap (λ (n : ℕ). n + 1) M.count }

pub counted_so_far : (count actor made : ℕ) (w : World Held) (ss : List (Step Kind)) → made ≤ count → TurnsMade actor made w ss
    → RunsBySoFar (Turns count) actor w ss
counted_so_far count actor made w ss le M =
    record { turns = M.turns; none_ends = none_before (Turns count) w ss (count_ends_none count w ss); within = omega (arith, le, M.count) }

pub counted : (count actor made : ℕ) (w : World Held) (ss : List (Step Kind)) → made ≤ count → (made ≡ count) ⊎ HasNoLineLeft actor (run mmu w ss)
    → TurnsMade actor made w ss → RunsBy (Turns count) actor w ss
counted count actor made w ss le over M = record { so_far = counted_so_far count actor made w ss le M; over = by over }
  where
    by : (made ≡ count) ⊎ HasNoLineLeft actor (run mmu w ss) → (length ss ≡ count) ⊎ HasNoLineLeft actor (run mmu w ss)
    by (inl e) = inl (M.count ∙ e)
    by (inr e) = inr e

-- Turns of the actor, with none of which the item ends.
pub record TurnsGoOn (until : Until) (actor : ℕ) (w : World Held) (ss : List (Step Kind)) : Type 0 where
  pub turns : AreTurns actor w ss
  pub none : NoneEnds until w ss

pub none_yet : (until : Until) (actor : ℕ) (w : World Held) → TurnsGoOn until actor w []
none_yet until actor w = record { turns = tt; none = tt }

pub one_more_goes_on : (until : Until) (actor : ℕ) (w : World Held) (ss : List (Step Kind)) (s : Step Kind) → TurnsGoOn until actor w ss
    → IsTurn actor (run mmu w ss) s → ends_item until (run mmu w ss) s ≡ false → TurnsGoOn until actor w (ss ++ s ∷ [])
one_more_goes_on until actor w ss s M turn goes = record { turns = turns_more actor w ss s M.turns turn; none = none_more until w ss s M.none goes }

open_within : (until : Until) (ss : List (Step Kind)) → IsOpenEnded until → ItemFits until ss
open_within (Turns count) ss open_ = absurd open_
open_within _ ss open_ = tt

pub goes_on_so_far : (until : Until) (actor : ℕ) (w : World Held) (ss : List (Step Kind)) → IsOpenEnded until → TurnsGoOn until actor w ss
    → RunsBySoFar until actor w ss
goes_on_so_far until actor w ss open_ M = record { turns = M.turns; none_ends = none_before until w ss M.none; within = open_within until ss open_ }

pub last_so_far : (until : Until) (actor : ℕ) (w : World Held) (ss : List (Step Kind)) (s : Step Kind) → IsOpenEnded until
    → TurnsGoOn until actor w ss → IsTurn actor (run mmu w ss) s → RunsBySoFar until actor w (ss ++ s ∷ [])
last_so_far until actor w ss s open_ M turn = record {
  turns = turns_more actor w ss s M.turns turn;
  none_ends = last_before until w ss s M.none;
  within = open_within until (ss ++ s ∷ []) open_;
}

pub over_open : (until : Until) (actor : ℕ) (w : World Held) (ss : List (Step Kind)) → IsOpenEnded until
    → LastEnds until w ss ⊎ HasNoLineLeft actor (run mmu w ss) → ItemOver until actor w ss
over_open (Turns count) actor w ss open_ over = absurd open_
over_open _ actor w ss open_ over = over
