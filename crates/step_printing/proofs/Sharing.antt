-- Turns that share a line are put as one line, and others as lines of their own.
use Rattle.std.proofs.Common.{◌≡◌, ◌⊎◌, inl, inr, ◌+◌, ℕ, List, [], ◌∷◌, ◌++◌, append_assoc, refl, sym, ap, subst, ◌∙◌, arith}
use Rattle.std.proofs.lemmas.List.{append-nil}
use Rattle.std.specs.Prelude.{Bool, true, false, ◌&&◌, not, if◌then◌else◌, Option, Some, None}
use Rattle.core_views.specs.declared.sizes.Sizes.{Sizes}
use Rattle.step_text.specs.declared.fold.Fold.{Fold}
use Rattle.step_text.specs.declared.row.Row.{Row}
use Rattle.step_text.specs.Rows.{row_text}
use Rattle.step_printing.specs.Coming.{PutsEntry, after_kept, kept_text}
use Rattle.step_printing.specs.Lines.{Entry, Shared, Ended, Text, both_of, goes_on, is_again, joined, lines_text, shares, with_more}
use Rattle.step_printing.specs.declared.view.View.{View}
use Rattle.step_printing.proofs.Fills.{again_more, both, goes_more}

-- a fold of these turns
abbrev fold_of : Row → ℕ → Bool → Fold
fold_of row last waits = record { row = row; last = last; waits = waits }

module _ (v : View) (z : Sizes) where
  -- What shares the line of both shares that of the second.
  shares_by : (x y w : Bool) (a b c : Row) (la lb lc : ℕ) → shares v z (fold_of a la x) (fold_of b lb y) ≡ true
      → shares v z (both_of (fold_of a la x) (fold_of b lb y)) (fold_of c lc w) ≡ shares v z (fold_of b lb y) (fold_of c lc w)
  shares_by true true w a b c la lb lc e = let again = both v.folds (is_again a b) e in ap (λ (t : Bool). w && (v.folds && t)) (again_more a b c again.1)
  shares_by true false w a b c la lb lc e = absurd (cc e)
  shares_by false true w a b c la lb lc e = absurd (cc e)
  shares_by false false w a b c la lb lc e = ap (λ (t : Bool). not w && t) (goes_more z a b c e)

  shares_more : (a b c : Fold) → shares v z a b ≡ true → shares v z (both_of a b) c ≡ shares v z b c
  shares_more a b c e = shares_by a.waits b.waits c.waits a.row b.row c.row a.last b.last c.last e

  both_both : (a b c : Fold) → both_of (both_of a b) c ≡ both_of a (both_of b c)
  both_both a b c =
      let sum : (a.row.count + b.row.count) + c.row.count ≡ a.row.count + (b.row.count + c.row.count) = omega arith in
      ap (λ (n : ℕ). fold_of (record a.row { count = n }) c.last a.waits) sum

  -- Turns that share a line are joined as one.
  pub fold_joins : (a b : Fold) → shares v z a b ≡ true → (rest : List Entry)
      → joined v z (Shared (both_of a b)) rest ≡ joined v z (Shared a) (joined v z (Shared b) rest)
  fold_joins a b e [] = rw e refl
  fold_joins a b e (Text text ∷ rest) = rw e refl
  fold_joins a b e (Ended row ended ∷ rest) = rw e refl
  fold_joins a b e (Shared c ∷ rest) = by (shares v z b c) refl
    where
      by : (t : Bool) → shares v z b c ≡ t
          → joined v z (Shared (both_of a b)) (Shared c ∷ rest) ≡ joined v z (Shared a) (joined v z (Shared b) (Shared c ∷ rest))
      by true t =
          let more = shares_more a b c e ∙ t in
          rw (more, t, e) (ap (λ (x : Fold). Shared x ∷ rest) (both_both a b c))
      by false t = let more = shares_more a b c e ∙ t in rw (more, t, e) refl

  -- Turns that don't come after the line of those before them.
  pub apart : (a b : Fold) → shares v z a b ≡ false → (rest : List Entry)
      → joined v z (Shared a) (joined v z (Shared b) rest) ≡ Shared a ∷ joined v z (Shared b) rest
  apart a b e [] = rw e refl
  apart a b e (Text text ∷ rest) = rw e refl
  apart a b e (Ended row ended ∷ rest) = rw e refl
  apart a b e (Shared c ∷ rest) = by (shares v z b c) refl
    where
      by : (t : Bool) → shares v z b c ≡ t
          → joined v z (Shared a) (joined v z (Shared b) (Shared c ∷ rest)) ≡ Shared a ∷ joined v z (Shared b) (Shared c ∷ rest)
      by true t = rw (t, e) refl
      by false t = rw (t, e) refl

  -- A turn that shares the kept line is kept with it.
  pub put_with : (kept : Option Fold) (a b : Fold) (count : ℕ) (before : List ℕ) → kept ≡ Some a → count ≡ a.row.count + b.row.count → shares v z a b ≡ true
      → PutsEntry v z kept before (Shared b) (Some (fold_of (record a.row { count = count }) b.last a.waits)) before
  put_with kept a b count before is sum e rest =
      ap (λ (n : ℕ). before ++ lines_text z (joined v z (Shared (fold_of (record a.row { count = n }) b.last a.waits)) rest)) sum
      ∙ ap (λ (es : List Entry). before ++ lines_text z es) (fold_joins a b e rest)
      ∙ ap (λ (o : Option Fold). before ++ lines_text z (after_kept v z o (joined v z (Shared b) rest))) (sym is)

  -- Where none is kept, it is kept itself.
  pub put_first : (kept : Option Fold) (b : Fold) (before : List ℕ) → kept ≡ None → PutsEntry v z kept before (Shared b) (Some b) before
  put_first kept b before none rest = ap (λ (o : Option Fold). before ++ lines_text z (after_kept v z o (joined v z (Shared b) rest))) (sym none)

  -- A turn that doesn't is kept once the kept line is put.
  pub put_after : (kept : Option Fold) (b : Fold) (before text : List ℕ)
      → (kept ≡ None) ⊎ ((a : Fold) × (kept ≡ Some a) × (shares v z a b ≡ false)) → text ≡ before ++ kept_text z kept
      → PutsEntry v z kept before (Shared b) (Some b) text
  put_after kept b before text (inl none) are rest =
      ap (λ (x : List ℕ). x ++ lines_text z (joined v z (Shared b) rest))
      (are ∙ ap (λ (o : Option Fold). before ++ kept_text z o) none ∙ append-nil before)
      ∙ ap (λ (o : Option Fold). before ++ lines_text z (after_kept v z o (joined v z (Shared b) rest))) (sym none)
  put_after kept b before text (inr (a, is, not_)) are rest =
      ap (λ (x : List ℕ). x ++ lines_text z (joined v z (Shared b) rest)) (are ∙ ap (λ (o : Option Fold). before ++ kept_text z o) is)
      ∙ append_assoc before (kept_text z (Some a)) (lines_text z (joined v z (Shared b) rest))
      ∙ ap (λ (es : List Entry). before ++ lines_text z es) (sym (apart a b not_ rest))
      ∙ ap (λ (o : Option Fold). before ++ lines_text z (after_kept v z o (joined v z (Shared b) rest))) (sym is)

  -- A turn that ended comes after the kept line.
  ended_after : (kept : Option Fold) (row : Row) (ended : List ℕ) (rest : List Entry)
      → lines_text z (after_kept v z kept (Ended row ended ∷ rest)) ≡ kept_text z kept ++ (row_text z row ended ++ lines_text z rest)
  ended_after None row ended rest = refl
  ended_after (Some fold) row ended rest = refl

  pub ended_puts : (kept : Option Fold) (before mid text : List ℕ) (row : Row) (ended : List ℕ) → mid ≡ before ++ kept_text z kept
      → text ≡ mid ++ row_text z row ended → PutsEntry v z kept before (Ended row ended) None text
  ended_puts kept before mid text row ended mid_is are rest =
      ap (λ (x : List ℕ). x ++ lines_text z rest) (are ∙ ap (λ (x : List ℕ). x ++ row_text z row ended) mid_is)
      ∙ append_assoc (before ++ kept_text z kept) (row_text z row ended) (lines_text z rest)
      ∙ append_assoc before (kept_text z kept) (row_text z row ended ++ lines_text z rest)
      ∙ ap (λ (x : List ℕ). before ++ x) (sym (ended_after kept row ended rest))

  -- So does a text.
  text_after : (kept : Option Fold) (text : List ℕ) (rest : List Entry)
      → lines_text z (after_kept v z kept (Text text ∷ rest)) ≡ kept_text z kept ++ (text ++ lines_text z rest)
  text_after None text rest = refl
  text_after (Some fold) text rest = refl

  pub text_puts : (kept : Option Fold) (before mid text put : List ℕ) → mid ≡ before ++ kept_text z kept → text ≡ mid ++ put
      → PutsEntry v z kept before (Text put) None text
  text_puts kept before mid text put mid_is are rest =
      ap (λ (x : List ℕ). x ++ lines_text z rest) (are ∙ ap (λ (x : List ℕ). x ++ put) mid_is)
      ∙ append_assoc (before ++ kept_text z kept) put (lines_text z rest)
      ∙ append_assoc before (kept_text z kept) (put ++ lines_text z rest)
      ∙ ap (λ (x : List ℕ). before ++ x) (sym (text_after kept put rest))
