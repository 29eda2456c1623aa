-- What a history leaves in a word is what its accesses of the word leave there, one after another.
use Rattle.std.proofs.Common.{◌≡◌, ◌+◌, ◌%◌, ◌^◌, ◌<◌, ◌==◌, ◌&&◌, ℕ, Bool, true, false, List, [], ◌∷◌, ◌++◌, refl, sym, ap, ◌∙◌, arith}
use Rattle.std.specs.Prelude.{All, Option, Some, None, if◌then◌else◌}
use Rattle.std.specs.List.{sum_by}
use Rattle.std.proofs.lemmas.Bool.{eqb-true}
use Rattle.std.proofs.lemmas.List.Elements.{All-head, All-tail}
use Rattle.std.proofs.lemmas.List.Sums.{sum_by-cons}
use Rattle.core_views.specs.declared.event.Event.{Event}
use Rattle.core_views.specs.declared.event.EventKind.{EventKind}
use Rattle.core_views.specs.declared.event.EventKind.TheVariants.{Accessed}
use Rattle.core_views.specs.declared.trace.Op.{Op}
use Rattle.core_views.specs.declared.trace.Op.TheVariants.{Read, Write, Add}
use Rattle.core_views.specs.Events.{after, after_all, facts_after, touched}
use Rattle.core_views.specs.Flat.{Facts, Flat}
use Rattle.core_views.specs.Memory.{Memory, word_after_op}
use Rattle.core_views.specs.Slots.{is_some_and, page_behind}
use Rattle.core_views.specs.SlotSets.{flat_slots}
use Rattle.word_laws.specs.Words.{added_by, only_reads, left_by, op_on, ops_on, stores}

left_append : (front back : List Op) (x : ℕ) → left_by (front ++ back) x ≡ left_by back (left_by front x)
left_append [] back x = refl
left_append (op ∷ front) back x = left_append front back (word_after_op op x)

-- ---- one event

here_or_not : (p page at word : ℕ) (op : Op) (memory : Memory) (is_page is_word : Bool) → (p == page) ≡ is_page → (at == word) ≡ is_word
    → (if is_page && is_word then word_after_op op (memory p at) else memory page word)
    ≡ left_by (if is_word && is_page then op ∷ [] else []) (memory page word)
here_or_not p page at word op memory true true same_page same_word =
    let places : memory p at ≡ memory page word =
    ap (λ (q : ℕ). memory q at) (eqb-true p page same_page) ∙ ap (λ (w : ℕ). memory page w) (eqb-true at word same_word) in
    ap (λ (x : ℕ). word_after_op op x) places
here_or_not p page at word op memory true false same_page same_word = refl
here_or_not p page at word op memory false true same_page same_word = refl
here_or_not p page at word op memory false false same_page same_word = refl

nowhere : (op : Op) (x : ℕ) (is_word : Bool) → x ≡ left_by (if is_word && false then op ∷ [] else []) x
nowhere op x true = refl
nowhere op x false = refl

touched_word : (page word at : ℕ) (op : Op) (memory : Memory) (behind : Option ℕ)
    → touched behind at op memory page word ≡ left_by (if (at == word) && is_some_and (λ p. p == page) behind then op ∷ [] else []) (memory page word)
touched_word page word at op memory None = nowhere op (memory page word) (at == word)
touched_word page word at op memory (Some p) = here_or_not p page at word op memory (p == page) (at == word) refl refl

pub left_after : (page word : ℕ) (kind : EventKind) (f : Facts)
    → (facts_after kind f).memory page word ≡ left_by (op_on page word kind f) (f.memory page word)
left_after page word (Accessed gfn at op frame before) f = touched_word page word at op f.memory (page_behind (flat_slots f.slots) gfn op)
left_after page word _ f = refl

-- ---- a history

pub left_after_all : (page word : ℕ) (history : List Event) (f : Flat)
    → (after_all history f).facts.memory page word ≡ left_by (ops_on page word history f.facts) (f.facts.memory page word)
left_after_all page word [] f = refl
left_after_all page word (e ∷ es) f =
    left_after_all page word es (after e f)
    ∙ ap (λ (x : ℕ). left_by (ops_on page word es (facts_after e.kind f.facts)) x) (left_after page word e.kind f.facts)
    ∙ sym (left_append (op_on page word e.kind f.facts) (ops_on page word es (facts_after e.kind f.facts)) (f.facts.memory page word))

-- ---- what operations of one sort leave

-- Operations that leave the word as it is do so one after another.
pub left_by_reads : (ops : List Op) (x : ℕ) → All (λ op. only_reads op ≡ true) ops → left_by ops x ≡ x
left_by_reads [] x are = refl
left_by_reads (op ∷ ops) x are =
    ap (λ (y : ℕ). left_by ops y) (is_read op (All-head (λ o. only_reads o ≡ true) op ops are))
    ∙ left_by_reads ops x (All-tail (λ o. only_reads o ≡ true) op ops are)
  where
    is_read : (o : Op) → only_reads o ≡ true → word_after_op o x ≡ x
    is_read Read leaves_ = refl
    is_read (Write y) leaves_ = absurd (cc leaves_)
    is_read (Add y) leaves_ = absurd (cc leaves_)

summed : (x y s : ℕ) → ((x + y) % 2 ^ 64 + s) % 2 ^ 64 ≡ (x + (y + s)) % 2 ^ 64
summed x y s = omega arith

-- An operation that stores nothing leaves what was there and what it adds.
adds : (op : Op) (x : ℕ) → x < 2 ^ 64 → stores op ≡ false → word_after_op op x ≡ (x + added_by op) % 2 ^ 64
adds Read x below none = omega arith
adds (Write y) x below none = absurd (cc none)
adds (Add y) x below none = refl

-- Reads and adds leave the sum.
pub left_by_adds : (ops : List Op) (x : ℕ) → x < 2 ^ 64 → All (λ op. stores op ≡ false) ops → left_by ops x ≡ (x + sum_by added_by ops) % 2 ^ 64
left_by_adds [] x below are = omega arith
left_by_adds (op ∷ ops) x below are =
    ap (λ (y : ℕ). left_by ops y) (adds op x below (All-head (λ o. stores o ≡ false) op ops are))
    ∙ left_by_adds ops ((x + added_by op) % 2 ^ 64) (omega arith) (All-tail (λ o. stores o ≡ false) op ops are)
    ∙ summed x (added_by op) (sum_by added_by ops)
    ∙ ap (λ (s : ℕ). (x + s) % 2 ^ 64) (sym (sum_by-cons added_by op ops))
