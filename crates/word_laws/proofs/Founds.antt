-- What an access finds in its word, in a lawful history.
use Rattle.std.proofs.Common.{◌≡◌, ◌==◌, ◌&&◌, ℕ, Bool, true, false, List, [], ◌∷◌, ◌++◌, refl, sym, ap, ◌∙◌, subst}
use Rattle.std.specs.Prelude.{All, Option, Some}
use Rattle.std.proofs.lemmas.Bool.{eqb-true}
use Rattle.core_views.specs.declared.event.Event.{Event}
use Rattle.core_views.specs.declared.event.EventKind.{EventKind}
use Rattle.core_views.specs.declared.event.EventKind.TheVariants.{Accessed}
use Rattle.core_views.specs.declared.sizes.Sizes.{Sizes}
use Rattle.core_views.specs.declared.trace.Op.{Op}
use Rattle.core_views.specs.Events.{after, after_all, facts_after}
use Rattle.core_views.specs.Flat.{Facts, Flat}
use Rattle.core_views.specs.Lawful.{IsAllowed, IsLawful, Reaches}
use Rattle.core_views.specs.Memory.{word_after_op}
use Rattle.core_views.specs.Slots.{is_some_and, page_behind}
use Rattle.core_views.specs.SlotSets.{flat_slots}
use Rattle.word_laws.specs.Words.{HasNext, Touches, is_on, only_reads, left_by, op_on}
use Rattle.word_laws.proofs.WordOps.{left_after, left_after_all, left_by_reads}

-- What comes after the front of a lawful history is lawful in the state that the front leads to.
lawful_rest : (z : Sizes) (front back : List Event) (f : Flat) → IsLawful z f (front ++ back) → IsLawful z (after_all front f) back
lawful_rest z [] back f lawful = lawful
lawful_rest z (e ∷ front) back f lawful = lawful_rest z front back (after e f) lawful.1

both : (a b : Bool) → (a && b) ≡ true → (a ≡ true) × (b ≡ true)
both true true is = (refl, refl)
both true false is = absurd (cc is)
both false b is = absurd (cc is)

is_that : (p page : ℕ) (behind : Option ℕ) → behind ≡ Some p → is_some_and (λ q. q == page) behind ≡ true → p ≡ page
is_that p page behind is holds = eqb-true p page (ap (λ (b : Option ℕ). is_some_and (λ q. q == page) b) (sym is) ∙ holds)

-- An access that reaches its word finds what memory holds there.
reached : (page word gfn at : ℕ) (op : Op) (frame found : ℕ) (f : Facts) → Reaches f gfn at op frame found → is_on page word gfn at op f ≡ true
    → f.memory page word ≡ found
reached page word gfn at op frame found f R here =
    let are = both (at == word) (is_some_and (λ p. p == page) (page_behind (flat_slots f.slots) gfn op)) here in
    let same_page : R.page ≡ page = is_that R.page page (page_behind (flat_slots f.slots) gfn op) R.behind are.1 in
    let same_word : at ≡ word = eqb-true at word are.0 in
    ap (λ (w : ℕ). f.memory page w) (sym same_word) ∙ ap (λ (p : ℕ). f.memory p at) (sym same_page) ∙ R.value_is

-- So does an event of a lawful history that is such an access.
pub found_is : (z : Sizes) (page word : ℕ) (f : Flat) (e : Event) (later : List Event) (op : Op) (found : ℕ) → IsLawful z f (e ∷ later)
    → Touches page word f.facts e op found → f.facts.memory page word ≡ found
found_is z page word f e later op found lawful T =
    let may : IsAllowed z f.facts f.past e.actor (f.under e.actor) (Accessed T.gfn T.at op T.frame found) =
    subst (λ (kind : EventKind). IsAllowed z f.facts f.past e.actor (f.under e.actor) kind) T.kind_is lawful.0 in
    reached page word T.gfn T.at op T.frame found f.facts may.3 T.is_here

-- and leaves there what it does
ops_here : (page word gfn at : ℕ) (op : Op) (frame found : ℕ) (f : Facts) (x : ℕ) → is_on page word gfn at op f ≡ true
    → left_by (op_on page word (Accessed gfn at op frame found) f) x ≡ word_after_op op x
ops_here page word gfn at op frame found f x here = rw here refl

pub left_is : (page word : ℕ) (f : Facts) (e : Event) (op : Op) (found : ℕ) → Touches page word f e op found
    → (facts_after e.kind f).memory page word ≡ word_after_op op (f.memory page word)
left_is page word f e op found T =
    left_after page word e.kind f
    ∙ ap (λ (kind : EventKind). left_by (op_on page word kind f) (f.memory page word)) T.kind_is
    ∙ ops_here page word T.gfn T.at op T.frame found f (f.memory page word) T.is_here

pub next_finds : (z : Sizes) (f : Flat) (history : List Event) (page word : ℕ) (op : Op) (found : ℕ) (ops : List Op) (next_op : Op) (next_found : ℕ)
    → IsLawful z f history → HasNext page word f history op found ops next_op next_found → next_found ≡ left_by ops (word_after_op op found)
next_finds z f history page word op found ops next_op next_found lawful N =
    let start : Flat = after_all N.earlier f in
    let then_ : Flat = after N.access start in
    let lawful_from : IsLawful z start (N.access ∷ (N.between ++ (N.next ∷ N.later))) =
    lawful_rest z N.earlier (N.access ∷ (N.between ++ (N.next ∷ N.later))) f (subst (λ (h : List Event). IsLawful z f h) N.history_is lawful) in
    let lawful_next : IsLawful z (after_all N.between then_) (N.next ∷ N.later) =
    lawful_rest z N.between (N.next ∷ N.later) then_ lawful_from.1 in
    sym (found_is z page word (after_all N.between then_) N.next N.later next_op next_found lawful_next N.touches_next)
    ∙ left_after_all page word N.between then_
    ∙ ap (λ (done : List Op). left_by done (then_.facts.memory page word)) N.ops_are
    ∙ ap (λ (x : ℕ). left_by ops x) (left_is page word start.facts N.access op found N.touches)
    ∙ ap (λ (x : ℕ). left_by ops (word_after_op op x))
    (found_is z page word start N.access (N.between ++ (N.next ∷ N.later)) op found lawful_from N.touches)

pub own_found : (z : Sizes) (f : Flat) (history : List Event) (page word : ℕ) (op : Op) (found : ℕ) (ops : List Op) (next_op : Op) (next_found : ℕ)
    → IsLawful z f history → HasNext page word f history op found ops next_op next_found → All (λ x. only_reads x ≡ true) ops
    → next_found ≡ word_after_op op found
own_found z f history page word op found ops next_op next_found lawful N reads =
    next_finds z f history page word op found ops next_op next_found lawful N ∙ left_by_reads ops (word_after_op op found) reads
