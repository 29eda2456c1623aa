-- The first line of the file that has no answer, among the actors that were looked at.
use Rattle.std.proofs.Common.{◌≡◌, ◌⊎◌, inl, inr, ◌<◌, ◌≤◌, ◌+◌, ℕ, get_or, length, refl, sym, ap, subst, ◌∙◌, arith}
use Rattle.std.proofs.lemmas.Bool.Decides.{nat_tests}
use Rattle.std.proofs.lemmas.Option.{slice_get-get_or, slice_get_within}
use Rattle.std.specs.Prelude.{Bool, true, false, Some, None, nat_lt, if◌then◌else◌, slice_get, unwrap_or}
use Rattle.std.specs.declared.option.Option.{Option}
use Rattle.core_views.specs.declared.sizes.Sizes.{Sizes}
use Rattle.core_views.specs.declared.trace.Line.{Line}
use Rattle.core_views.specs.Flat.{no_line}
use Rattle.core_views.specs.Held.{Held}
use Rattle.core_views.specs.Sizes.{actors_of}
use Rattle.mmu_core.specs.machine.Enabled.{mmu}
use Rattle.mmu_core.specs.machine.Machine.{World, hand_in}
use Rattle.mmu_core.specs.machine.Steps.{has_line, next_line}
use Rattle.turn_loops.specs.Turning.{HasLineLeft, HasNoLineLeft}
use Rattle.turn_loops.specs.FirstOpen.{FirstOpen, earlier_of}

-- the next line of a hand, if it has one
abbrev pub open_next : Held → Option Line
open_next h = slice_get h.lines (length h.answers)

-- Among the first actors this line stands first, of those that have no answer; or none is left.
pub record IsFirstBefore (w : World Held) (count : ℕ) (line : Line) : Type 0 where
  pub actor : ℕ
  pub before : actor < count
  pub left : HasLineLeft actor w
  pub is : next_line (hand_in mmu w actor) ≡ line
  pub first : (i : ℕ) → i < count → HasLineLeft i w → line.number ≤ (next_line (hand_in mmu w i)).number

abbrev pub FirstBefore : World Held → ℕ → Option Line → Type 0
FirstBefore w count (Some line) = IsFirstBefore w count line
FirstBefore w count None = (i : ℕ) → i < count → HasNoLineLeft i w

pub none_before : (w : World Held) → FirstBefore w 0 None
none_before w i lt = absurd (omega (arith, lt))

has_next : (h : Held) (line : Line) → open_next h ≡ Some line → (has_line h ≡ true) × (next_line h ≡ line)
has_next h line is =
    let lt = slice_get_within h.lines (length h.answers) line is in
    (grind (arith, nat_tests), ap (λ (o : Option Line). unwrap_or o no_line) is)

no_next : (h : Held) → open_next h ≡ None → has_line h ≡ false
no_next h is = by (has_line h) refl
  where
    by : (b : Bool) → has_line h ≡ b → has_line h ≡ false
    by true e =
        let lt : length h.answers < length h.lines = grind (arith, nat_tests) in
        let some : None ≡ Some (get_or h.lines (length h.answers) no_line) = sym is ∙ slice_get-get_or h.lines (length h.answers) no_line lt in
        absurd (cc some)
    by false e = e

same_or_before : (i count : ℕ) → i < count + 1 → (i ≡ count) ⊎ (i < count)
same_or_before i count lt = by (nat_lt i count) refl
  where
    by : (b : Bool) → nat_lt i count ≡ b → (i ≡ count) ⊎ (i < count)
    by true e = inr (grind (arith, nat_tests))
    by false e = inl (grind (arith, nat_tests))

pub absurd_line : (w : World Held) (i : ℕ) → HasLineLeft i w → HasNoLineLeft i w → ⊥
absurd_line w i has none = let e : true ≡ false = sym has ∙ none in cc e

-- One actor more was looked at.
pub looks_at : (w : World Held) (count : ℕ) (first : Option Line) → FirstBefore w count first
    → FirstBefore w (count + 1) (earlier_of first (open_next (hand_in mmu w count)))
looks_at w count first F = by first (open_next (hand_in mmu w count)) refl F
  where
    by : (first next : Option Line) → open_next (hand_in mmu w count) ≡ next → FirstBefore w count first → FirstBefore w (count + 1) (earlier_of first next)
    by None None is F = λ i lt. at i (same_or_before i count lt)
      where
        at : (i : ℕ) → (i ≡ count) ⊎ (i < count) → HasNoLineLeft i w
        at i (inl e) = subst (λ (n : ℕ). HasNoLineLeft n w) (sym e) (no_next (hand_in mmu w count) is)
        at i (inr lt) = F i lt
    by None (Some other) is F =
        let N = has_next (hand_in mmu w count) other is in
        record { actor = count; before = omega arith; left = N.0; is = N.1; first = λ i lt has. at i (same_or_before i count lt) has N.1 }
      where
        at : (i : ℕ) → (i ≡ count) ⊎ (i < count) → HasLineLeft i w → next_line (hand_in mmu w count) ≡ other
            → other.number ≤ (next_line (hand_in mmu w i)).number
        at i (inl e) has same =
            let n : (next_line (hand_in mmu w i)).number ≡ other.number =
            ap (λ (n : ℕ). (next_line (hand_in mmu w n)).number) e ∙ ap (λ (l : Line). l.number) same in
            omega (arith, n)
        at i (inr lt) has same = absurd (absurd_line w i has (F i lt))
    by (Some line) None is F = record {
      actor = F.actor;
      before = let b = F.before in omega (arith, b);
      left = F.left;
      is = F.is;
      first = λ i lt has. at i (same_or_before i count lt) has;
    }
      where
        at : (i : ℕ) → (i ≡ count) ⊎ (i < count) → HasLineLeft i w → line.number ≤ (next_line (hand_in mmu w i)).number
        at i (inl e) has = absurd (absurd_line w count (subst (λ (n : ℕ). HasLineLeft n w) e has) (no_next (hand_in mmu w count) is))
        at i (inr lt) has = F.first i lt has
    by (Some line) (Some other) is F = pick (nat_lt other.number line.number) refl
      where
        N : (has_line (hand_in mmu w count) ≡ true) × (next_line (hand_in mmu w count) ≡ other)
        N = has_next (hand_in mmu w count) other is

        of_other : (i : ℕ) → i ≡ count → (next_line (hand_in mmu w i)).number ≡ other.number
        of_other i e = ap (λ (n : ℕ). (next_line (hand_in mmu w n)).number) e ∙ ap (λ (l : Line). l.number) N.1

        pick : (b : Bool) → nat_lt other.number line.number ≡ b → FirstBefore w (count + 1) (if b then Some other else Some line)
        pick true e = record { actor = count; before = omega arith; left = N.0; is = N.1; first = λ i lt has. at i (same_or_before i count lt) has }
          where
            less : other.number < line.number
            less = grind (arith, nat_tests)

            at : (i : ℕ) → (i ≡ count) ⊎ (i < count) → HasLineLeft i w → other.number ≤ (next_line (hand_in mmu w i)).number
            at i (inl e) has = let n = of_other i e in omega (arith, n)
            at i (inr lt) has = let l = less in let f = F.first i lt has in omega (arith, l, f)
        pick false e = record {
          actor = F.actor;
          before = let b = F.before in omega (arith, b);
          left = F.left;
          is = F.is;
          first = λ i lt has. at i (same_or_before i count lt) has;
        }
          where
            least : line.number ≤ other.number
            least = grind (arith, nat_tests)

            at : (i : ℕ) → (i ≡ count) ⊎ (i < count) → HasLineLeft i w → line.number ≤ (next_line (hand_in mmu w i)).number
            at i (inl e) has = let n = of_other i e in let l = least in omega (arith, n, l)
            at i (inr lt) has = F.first i lt has

pub first_of_all : (z : Sizes) (w : World Held) (first : Option Line) → FirstBefore w (actors_of z) first → FirstOpen z w first
first_of_all z w (Some line) F = record { actor = F.actor; there = F.before; left = F.left; is = F.is; first = F.first }
first_of_all z w None F = F
