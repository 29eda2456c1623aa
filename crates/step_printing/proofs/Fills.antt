-- What goes on with stores goes on with the last of them, and what is again a step is one like the last.
use Rattle.std.proofs.Common.{◌≡◌, ◌+◌, ◌/◌, ℕ, refl, sym, ap, ◌∙◌, arith}
use Rattle.std.proofs.lemmas.Bool.Decides.{nat_tests}
use Rattle.std.specs.Prelude.{Bool, true, false, ◌&&◌, ◌==◌, if◌then◌else◌}
use Rattle.core_views.specs.declared.sizes.Sizes.{Sizes}
use Rattle.core_views.specs.declared.actor.Actor.{Actor}
use Rattle.core_views.specs.declared.actor.Actor.TheVariants.{Vcpu, Host, Manager, Worker}
use Rattle.core_views.specs.declared.kind.StepKind.TheVariants.{Fill}
use Rattle.core_views.specs.Actors.{is_same}
use Rattle.core_views.specs.Kinds.{code_of}
use Rattle.spte_words.specs.Areas.{number_of}
use Rattle.spte_words.specs.declared.area.Area.{Area}
use Rattle.spte_words.specs.declared.area.Area.TheVariants as area
use Rattle.step_text.specs.declared.row.Row.{Row}
use Rattle.step_printing.specs.Lines.{goes_on, is_again, is_next_word, page_words, with_more}

pub both : (a b : Bool) → (a && b) ≡ true → (a ≡ true) × (b ≡ true)
both true true e = (refl, refl)
both true false e = absurd (cc e)
both false b e = absurd (cc e)

pub equal : (a b : ℕ) → (a == b) ≡ true → a ≡ b
equal a b e = grind (arith, nat_tests)

-- An actor that is the same as another is the same as each that the other is.
same_actor : (a b c : Actor) → is_same a b ≡ true → is_same a c ≡ is_same b c
same_actor (Vcpu m) (Vcpu n) c e = ap (λ (k : ℕ). is_same (Vcpu k) c) (equal m n e)
same_actor (Vcpu m) (Host n) c e = absurd (cc e)
same_actor (Vcpu m) Manager c e = absurd (cc e)
same_actor (Vcpu m) (Worker n) c e = absurd (cc e)
same_actor (Host m) (Host n) c e = ap (λ (k : ℕ). is_same (Host k) c) (equal m n e)
same_actor (Host m) (Vcpu n) c e = absurd (cc e)
same_actor (Host m) Manager c e = absurd (cc e)
same_actor (Host m) (Worker n) c e = absurd (cc e)
same_actor Manager Manager c e = refl
same_actor Manager (Vcpu n) c e = absurd (cc e)
same_actor Manager (Host n) c e = absurd (cc e)
same_actor Manager (Worker n) c e = absurd (cc e)
same_actor (Worker m) (Worker n) c e = ap (λ (k : ℕ). is_same (Worker k) c) (equal m n e)
same_actor (Worker m) (Vcpu n) c e = absurd (cc e)
same_actor (Worker m) (Host n) c e = absurd (cc e)
same_actor (Worker m) Manager c e = absurd (cc e)

-- an area by its number
same_words : (z : Sizes) (a b : Area) → number_of a ≡ number_of b → page_words z a ≡ page_words z b
same_words z a b e = by a b (sym (ap (λ (n : ℕ). n) e))
  where
    words : Sizes → ℕ → ℕ
    words z n = if n == 14 then 512 else if n == 15 then page_words z area.Content else 1

    is : (a : Area) → page_words z a ≡ words z (number_of a)
    is area.Root = refl
    is area.Slots = refl
    is area.Seq = refl
    is area.Count = refl
    is area.RangeStart = refl
    is area.RangeEnd = refl
    is area.Lock = refl
    is area.Pause = refl
    is area.State = refl
    is area.PoolMap = refl
    is area.FrameMap = refl
    is area.Log = refl
    is area.Host = refl
    is area.Role = refl
    is area.Pool = refl
    is area.Content = refl

    by : (a b : Area) → number_of b ≡ number_of a → page_words z a ≡ page_words z b
    by a b e = is a ∙ ap (words z) (sym e) ∙ sym (is b)

module _ (z : Sizes) where
  -- What goes on with stores goes on with the last of them.
  next_more : (a b c : Row) → is_next_word z a b ≡ true → is_next_word z (with_more a b.count) c ≡ is_next_word z b c
  next_more a b c e =
      let first = both (number_of a.place.area == number_of b.place.area) _ e in
      let second = both (a.place.index + a.count == b.place.index) _ first.1 in
      let area_is = equal (number_of a.place.area) (number_of b.place.area) first.0 in
      let at = equal (a.place.index + a.count) b.place.index second.0 in
      let words = same_words z a.place.area b.place.area area_is in
      let page =
      equal (a.place.index / page_words z a.place.area) (b.place.index / page_words z a.place.area) second.1
      ∙ ap (λ (n : ℕ). b.place.index / n) words in
      let sum : a.place.index + (a.count + b.count) ≡ b.place.index + b.count = omega (arith, at) in
      ap (λ (n : ℕ). (n == number_of c.place.area) && ((a.place.index + (a.count + b.count) == c.place.index)
      && (a.place.index / page_words z a.place.area == c.place.index / page_words z a.place.area))) area_is
      ∙ ap (λ (n : ℕ). (number_of b.place.area == number_of c.place.area) && ((n == c.place.index)
      && (a.place.index / page_words z a.place.area == c.place.index / page_words z a.place.area))) sum
      ∙ ap (λ (n : ℕ). (number_of b.place.area == number_of c.place.area) && ((b.place.index + b.count == c.place.index)
      && (n == c.place.index / page_words z a.place.area))) page
      ∙ ap (λ (n : ℕ). (number_of b.place.area == number_of c.place.area) && ((b.place.index + b.count == c.place.index)
      && (b.place.index / page_words z b.place.area == c.place.index / n))) words

  pub goes_more : (a b c : Row) → goes_on z a b ≡ true → goes_on z (with_more a b.count) c ≡ goes_on z b c
  goes_more a b c e =
      let one = both (a.code == code_of Fill) _ e in
      let two = both (b.code == code_of Fill) _ one.1 in
      let three = both (is_same a.actor b.actor) _ two.1 in
      let four = both (is_next_word z a b) _ three.1 in
      let five = both (a.found == b.found) _ four.1 in
      let code = one.0 ∙ sym two.0 in
      let actor = same_actor a.actor b.actor c.actor three.0 in
      let next = next_more a b c four.0 in
      let found = equal a.found b.found five.0 in
      let left = equal a.left b.left five.1 in
      ap (λ (x : Bool). x && ((c.code == code_of Fill) && (is_same a.actor c.actor && (is_next_word z (with_more a b.count) c
      && ((a.found == c.found) && (a.left == c.left)))))) code
      ∙ ap (λ (x : Bool). (b.code == code_of Fill) && ((c.code == code_of Fill) && (x && (is_next_word z (with_more a b.count) c
      && ((a.found == c.found) && (a.left == c.left)))))) actor
      ∙ ap (λ (x : Bool). (b.code == code_of Fill) && ((c.code == code_of Fill) && (is_same b.actor c.actor && (x
      && ((a.found == c.found) && (a.left == c.left)))))) next
      ∙ ap (λ (x : ℕ). (b.code == code_of Fill) && ((c.code == code_of Fill) && (is_same b.actor c.actor && (is_next_word z b c
      && ((x == c.found) && (a.left == c.left)))))) found
      ∙ ap (λ (x : ℕ). (b.code == code_of Fill) && ((c.code == code_of Fill) && (is_same b.actor c.actor && (is_next_word z b c
      && ((b.found == c.found) && (x == c.left)))))) left

-- A step that is like one like this is like this one.
pub again_more : (a b c : Row) → is_again a b ≡ true → is_again a c ≡ is_again b c
again_more a b c e =
    let one = both (is_same a.actor b.actor) _ e in
    let two = both (a.code == b.code) _ one.1 in
    let three = both (number_of a.place.area == number_of b.place.area) _ two.1 in
    let actor = same_actor a.actor b.actor c.actor one.0 in
    let code = equal a.code b.code two.0 in
    let at = equal (number_of a.place.area) (number_of b.place.area) three.0 in
    let index = equal a.place.index b.place.index three.1 in
    ap (λ (x : Bool). x && ((a.code == c.code) && ((number_of a.place.area == number_of c.place.area) && (a.place.index == c.place.index)))) actor
    ∙ ap (λ (x : ℕ). is_same b.actor c.actor && ((x == c.code) && ((number_of a.place.area == number_of c.place.area) && (a.place.index == c.place.index)))) code
    ∙ ap (λ (x : ℕ). is_same b.actor c.actor && ((b.code == c.code) && ((x == number_of c.place.area) && (a.place.index == c.place.index)))) at
    ∙ ap (λ (x : ℕ). is_same b.actor c.actor && ((b.code == c.code) && ((number_of b.place.area == number_of c.place.area) && (x == c.place.index)))) index
