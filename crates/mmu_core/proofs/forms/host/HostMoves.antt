-- What is so of the frame that a line owns which moves its page, and of the words that it copies.
use Rattle.std.proofs.Common.{◌≡◌, ◌+◌, ◌≤◌, ℕ, refl, sym, ap, ◌∙◌, arith, eq-eqb, eqb-true}
use Rattle.std.specs.Prelude.{Bool, true, false, ◌==◌, ◌&&◌, ◌||◌, nat_lt, Option, Some, None, is_some}
use Rattle.std.proofs.lemmas.Bool.Decides.{nat_tests}
use Rattle.core_views.specs.declared.topics.OwnedFrame.{OwnedFrame}
use Rattle.core_views.specs.declared.topics.Topics.{Topics}
use Rattle.core_views.specs.declared.trace.HostChange.{HostChange}
use Rattle.core_views.specs.declared.trace.HostChange.TheVariants.{Allow, Evict, Move, Protect}
use Rattle.spte_words.specs.HostWords.{with_frame, with_presence, with_writes}
use Rattle.part_steps.specs.FrameHoldings.{revises}
use Rattle.part_steps.specs.FrameTopics.{copy_held, frame_left, frame_owned, is_uncopied, word_copied, word_stored, words_moved}
use Rattle.part_steps.specs.PartSteps.{IsAtRest, IsFree}
use Rattle.mmu_core.specs.forms.host.HostKnows.{HasCopiedAll, IsCopying, OwnsToMove, is_move}
use Rattle.mmu_core.specs.forms.host.HostSteps.{revised}
use Rattle.mmu_core.specs.orders.InvalidateKnows.{IsOpen}
use Rattle.mmu_core.proofs.forms.access.FaultSame.{both}

-- ---- the frame that is owned

-- None is owned where none is said to be.
pub none_owned : (owned : Option OwnedFrame) → is_some owned ≡ false → owned ≡ None
none_owned None none = refl
none_owned (Some o) none = absurd (cc none)

-- Nothing is filled of a frame into which nothing is copied.
pub none_moved : (owned : Option OwnedFrame) → is_uncopied owned ≡ true → words_moved owned ≡ 0
none_moved None none = refl
none_moved (Some o) none = eqb-true o.filled 0 (both (o.filled == 0) _ none).0

-- Who owns no frame and moves no page owns one exactly where it moves its page, and has copied nothing.
pub owns_none : (change : HostChange) (owned : Option OwnedFrame) → owned ≡ None → is_move change ≡ false → OwnsToMove change owned
owns_none change owned none other = record { owns = ap is_some none ∙ sym other; uncopied = ap is_uncopied none }

-- ---- the words that are copied

module _ (change : HostChange) (words : ℕ) where
  -- A move goes on to copy the first word.
  pub copies_first : (owned : Option OwnedFrame) → 1 ≤ words → OwnsToMove change owned → is_some owned ≡ true → IsCopying change owned words
  copies_first owned some O owns =
      record { moves = sym O.owns ∙ owns; owns = owns; left = let none = none_moved owned O.uncopied in omega (arith, some, none) }

  -- Where it moves none, it has copied all that it wants.
  pub copies_none : (owned : Option OwnedFrame) → OwnsToMove change owned → is_some owned ≡ false → HasCopiedAll change owned words
  copies_none owned O none = record { owns = O.owns; all = λ moves. absurd (let owns = O.owns in cc (moves, none, owns)) }

  -- A word that was copied is held.
  pub copied_next : (owned : Option OwnedFrame) (v : ℕ) → IsCopying change owned words
      → IsCopying change (word_copied owned v) words × (is_some (copy_held (word_copied owned v)) ≡ true)
  copied_next None v C = absurd (let owns = C.owns in cc owns)
  copied_next (Some o) v C = (record { moves = C.moves; owns = refl; left = C.left }, refl)

  -- A word that was stored is the last one, or there is one more to copy.
  pub stored_more : (owned : Option OwnedFrame) → IsCopying change owned words → nat_lt (words_moved owned + 1) words ≡ true
      → IsCopying change (word_stored owned) words
  stored_more None C more = absurd (let owns = C.owns in cc owns)
  stored_more (Some o) C more = record { moves = C.moves; owns = refl; left = grind (arith, nat_tests) }

  pub stored_last : (owned : Option OwnedFrame) → IsCopying change owned words → nat_lt (words_moved owned + 1) words ≡ false
      → HasCopiedAll change (word_stored owned) words
  stored_last None C last = absurd (let owns = C.owns in cc owns)
  stored_last (Some o) C last =
      record { owns = sym C.moves; all = λ moves. let le : words ≤ o.filled + 1 = grind (arith, nat_tests) in let left = C.left in omega (arith, le, left) }

  -- ---- the exchange

  -- After one that is won the page's old frame is owned.
  pub owns_old : (owned : Option OwnedFrame) (frame : ℕ) → HasCopiedAll change owned words → OwnsToMove change (frame_left frame owned)
  owns_old None frame C = record { owns = C.owns; uncopied = refl }
  owns_old (Some o) frame C = record { owns = C.owns; uncopied = refl }

  is_itself : (n : ℕ) → (n == n) ≡ true
  is_itself n = eq-eqb n n refl

  or_same : {b : Bool} (a : Bool) → b ≡ true → (a || b) ≡ true
  or_same true is = refl
  or_same false is = is

  -- The word that the line puts is one that may be put.
  pub revises_it : (owned : Option OwnedFrame) (word : ℕ) → HasCopiedAll change owned words
      → revises words owned word (revised change (frame_owned owned) word) ≡ true
  revises_it owned word C = by change owned C.owns C.all
    where
      by : (c : HostChange) (o : Option OwnedFrame) → is_some o ≡ is_move c → (is_move c ≡ true → words_moved o ≡ words)
          → revises words o word (revised c (frame_owned o) word) ≡ true
      by Move None owns all = absurd (cc owns)
      by Move (Some o) owns all =
          ap (λ (b : Bool). b && (with_frame o.frame word == with_frame o.frame word)) (eq-eqb o.filled words (all refl)) ∙ is_itself (with_frame o.frame word)
      by Allow None owns all =
          ap (λ (b : Bool). b || (with_writes true word == with_writes false word) || (with_writes true word == with_presence false word))
          (is_itself (with_writes true word))
      by Protect None owns all =
          ap (λ (b : Bool). b || (with_writes false word == with_presence false word))
          (or_same (with_writes false word == with_writes true word) (is_itself (with_writes false word)))
      by Evict None owns all =
          or_same ((with_presence false word == with_writes true word) || (with_presence false word == with_writes false word))
          (is_itself (with_presence false word))
      by _ (Some o) owns all = absurd (cc owns)

-- ---- what is open stays so

-- Where these topics stay.
pub open_still : (t u : Topics) → u.stay ≡ t.stay → u.hold ≡ t.hold → u.walk ≡ t.walk → u.search ≡ t.search
    → u.invalidations ≡ t.invalidations → IsOpen t → IsOpen u
open_still t u stay hold walk search own_ O = record {
  rests = record {
    outside = stay ∙ O.rests.outside;
    loose = hold ∙ O.rests.loose;
    no_table = ap (λ w. w.level) walk ∙ O.rests.no_table;
    no_set = ap (λ s. s.set) search ∙ O.rests.no_set;
  };
  opened = ap (λ n. n.opened) own_ ∙ O.opened;
  unraised = ap (λ n. n.raised) own_ ∙ O.unraised;
}

-- Who is free, owns no page and owes no mark is at rest.
pub free_rests : (t : Topics) → t.owned ≡ None → t.owed ≡ None → IsFree t → IsAtRest t
free_rests t none owes F = record { outside = F.outside; loose = F.loose; owns_none = none; owes_none = owes; no_table = F.no_table; no_set = F.no_set }

pub rests_free : (t : Topics) → IsAtRest t → IsFree t
rests_free t R = record { outside = R.outside; loose = R.loose; no_table = R.no_table; no_set = R.no_set }

pub rests_still : (t u : Topics) → u.stay ≡ t.stay → u.hold ≡ t.hold → u.owned ≡ t.owned → u.owed ≡ t.owed → u.walk ≡ t.walk → u.search ≡ t.search
    → IsAtRest t → IsAtRest u
rests_still t u stay hold owned owed walk search R = record {
  outside = stay ∙ R.outside;
  loose = hold ∙ R.loose;
  owns_none = owned ∙ R.owns_none;
  owes_none = owed ∙ R.owes_none;
  no_table = ap (λ w. w.level) walk ∙ R.no_table;
  no_set = ap (λ s. s.set) search ∙ R.no_set;
}
