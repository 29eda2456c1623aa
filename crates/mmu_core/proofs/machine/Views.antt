-- The view of the words and hands after a step is the step of the view.
use Rattle.std.proofs.Common.{◌≡◌, ◌≢◌, ◌⊎◌, inl, inr, ◌<◌, ℕ, List, length, get_or, set, refl, sym, subst, ap, ◌∙◌, arith, eqb}
use Rattle.std.specs.Prelude.{Bool, true, false, nat_lt, if◌then◌else◌, slice_index, slice_set}
use Rattle.std.proofs.lemmas.Bool.Decides.{nat_tests, eqb_tells}
use Rattle.std.proofs.lemmas.List.{get_or-set_other, get_or-set_same, set-get_or}
use Rattle.core_views.specs.declared.kind.Operation.{Operation}
use Rattle.core_views.specs.declared.kind.Operation.TheVariants as operation
use Rattle.core_views.specs.declared.kind.StepKind.{StepKind}
use Rattle.core_views.specs.declared.kind.StepKind.TheVariants as kind
use Rattle.core_views.specs.declared.sizes.Sizes.{Sizes}
use Rattle.core_views.specs.Held.{Held}
use Rattle.core_views.specs.Kinds.{after, answer, code_of, kind_named, operation_of, operation_of_code, word_after, word_answered}
use Rattle.spte_words.specs.declared.area.Area.{Area}
use Rattle.spte_words.specs.declared.word_map.WordMap.{WordMap}
use Rattle.spte_words.specs.Areas.{number_of, place, size_of, total}
use Rattle.spte_words.proofs.Places.{place_below, places_apart, same_number}
use Rattle.part_steps.specs.declared.task.Task.{Task}
use Rattle.mmu_core.specs.machine.Enabled.{mmu}
use Rattle.mmu_core.specs.machine.Machine.{World, answered, effect, hand_in}
use Rattle.mmu_core.specs.machine.Steps.{nobody}
use Rattle.part_steps.specs.Tasks.{kind_of_task, map_of}
use Rattle.mmu_core.specs.machine.View.{answer_in, put, stores, upd, view, word_in, words_after}
use Rattle.mmu_core.proofs.machine.Columns.{same_or, upd_other, upd_same}

-- the word of an area in a list of words; 0 after the area's end
abbrev read : WordMap → List ℕ → Area → ℕ → ℕ
read m words area i = if nat_lt i (size_of m area) then slice_index words (place m area i) else 0

below : (a b : ℕ) → a < b → nat_lt a b ≡ true
below a b lt = grind (arith, nat_tests)

read_inside : (m : WordMap) (words : List ℕ) (area : Area) (i : ℕ) → i < size_of m area → read m words area i ≡ slice_index words (place m area i)
read_inside m words area i lt = rw (below i (size_of m area) lt) refl

is_below : (a b : ℕ) → nat_lt a b ≡ true → a < b
is_below a b e = grind (arith, nat_tests)

-- A word of another place is as it was.
read_other : (m : WordMap) (words : List ℕ) (area other : Area) (i j x : ℕ) → i < size_of m area
    → (place m other j ≡ place m area i → j < size_of m other → ⊥) → read m (slice_set words (place m area i) x) other j ≡ read m words other j
read_other m words area other i j x lt apart = by (nat_lt j (size_of m other)) (λ e. is_below j (size_of m other) e)
  where
    by : (b : Bool) → (b ≡ true → j < size_of m other) → (if b then slice_index (slice_set words (place m area i) x) (place m other j) else 0)
        ≡ (if b then slice_index words (place m other j) else 0)
    by true inside = get_or-set_other words (place m area i) (place m other j) x 0 (λ e. apart e (inside refl))
    by false inside = refl

read_here : (m : WordMap) (words : List ℕ) (area : Area) (i x : ℕ) → i < size_of m area → length words ≡ total m
    → read m (slice_set words (place m area i) x) area i ≡ x
read_here m words area i x lt count =
    let within : place m area i < length words = rw count (place_below m area i lt) in
    read_inside m (slice_set words (place m area i) x) area i lt ∙ get_or-set_same words (place m area i) x 0 within

-- a word is stored: what each place reads
read_set : (m : WordMap) (words : List ℕ) (area other : Area) (i j x : ℕ) → i < size_of m area → length words ≡ total m
    → read m (slice_set words (place m area i) x) other j ≡ put (read m words) area i x other j
read_set m words area other i j x lt count = by (eqb_tells (number_of other) (number_of area))
  where
    in_area : (j : ℕ) → read m (slice_set words (place m area i) x) area j ≡ upd (read m words area) i x j
    in_area j = case (same_or j i)
      where
        case : (j ≡ i) ⊎ (j ≢ i) → read m (slice_set words (place m area i) x) area j ≡ upd (read m words area) i x j
        case (inl e) =
            subst (λ k. read m (slice_set words (place m area i) x) area k ≡ upd (read m words area) i x k) (sym e)
            (read_here m words area i x lt count ∙ sym (upd_same (read m words area) i x))
        case (inr ne) =
            read_other m words area area i j x lt (λ e inside. ne (places_apart m area area j i inside lt e).1)
            ∙ sym (upd_other (read m words area) i j x ne)

    by : ((eqb (number_of other) (number_of area) ≡ true) × (number_of other ≡ number_of area))
        ⊎ ((eqb (number_of other) (number_of area) ≡ false) × (number_of other ≢ number_of area))
        → read m (slice_set words (place m area i) x) other j ≡ put (read m words) area i x other j
    by (inl e) =
        subst (λ (b : Area). read m (slice_set words (place m area i) x) b j ≡ upd (read m words b) i x j) (sym (same_number other area e.1)) (in_area j)
        ∙ sym (ap (λ (b : Bool). (if b then upd (read m words other) i x else read m words other) j) e.0)
    by (inr ne) =
        read_other m words area other i j x lt (λ e inside. ne.1 (ap number_of (places_apart m other area j i inside lt e).0))
        ∙ sym (ap (λ (b : Bool). (if b then upd (read m words other) i x else read m words other) j) ne.0)

-- the kind that a kind's number names
pub named_is : (k : StepKind) → kind_named (code_of k) ≡ k
named_is kind.Enter = refl
named_is _ = refl

-- the operation of a kind, by its number
operation_is : (k : StepKind) → operation_of_code (code_of k) ≡ operation_of k
operation_is kind.Enter = refl
operation_is _ = refl

-- what stands in a word after a task's step, and what the step answers
after_is : (z : Sizes) (t : Task) (n : ℕ) → after (kind_of_task z t) n ≡ word_after (operation_of t.kind) t.expected t.written n
unfolding after
after_is z t n = ap (λ (o : Operation). word_after o t.expected t.written n) (operation_is t.kind)

answer_is : (z : Sizes) (t : Task) (n : ℕ) → answer (kind_of_task z t) n ≡ word_answered (operation_of t.kind) t.written n
unfolding answer
answer_is z t n = ap (λ (o : Operation). word_answered o t.written n) (operation_is t.kind)

-- the words after an operation on the word of a place
words_behind : (m : WordMap) (words : List ℕ) (o : Operation) (area other : Area) (i j expected written : ℕ) → i < size_of m area → length words ≡ total m
    → read m (slice_set words (place m area i) (word_after o expected written (slice_index words (place m area i)))) other j
    ≡ (if stores o then put (read m words) area i (word_after o expected written (read m words area i)) else read m words) other j
words_behind m words operation.Load area other i j expected written lt count = ap (λ (ws : List ℕ). read m ws other j) (set-get_or words (place m area i) 0)
words_behind m words operation.FetchAdd area other i j expected written lt count =
    read_set m words area other i j _ lt count
    ∙ ap (λ n. put (read m words) area i (word_after operation.FetchAdd expected written n) other j) (sym (read_inside m words area i lt))
words_behind m words operation.FetchSub area other i j expected written lt count =
    read_set m words area other i j _ lt count
    ∙ ap (λ n. put (read m words) area i (word_after operation.FetchSub expected written n) other j) (sym (read_inside m words area i lt))
words_behind m words operation.FetchAnd area other i j expected written lt count =
    read_set m words area other i j _ lt count
    ∙ ap (λ n. put (read m words) area i (word_after operation.FetchAnd expected written n) other j) (sym (read_inside m words area i lt))
words_behind m words operation.FetchOr area other i j expected written lt count =
    read_set m words area other i j _ lt count
    ∙ ap (λ n. put (read m words) area i (word_after operation.FetchOr expected written n) other j) (sym (read_inside m words area i lt))
words_behind m words operation.CompareExchange area other i j expected written lt count =
    read_set m words area other i j _ lt count
    ∙ ap (λ n. put (read m words) area i (word_after operation.CompareExchange expected written n) other j) (sym (read_inside m words area i lt))
words_behind m words _ area other i j expected written lt count = read_set m words area other i j written lt count

hands_behind : (hands : List Held) (a i : ℕ) (h : Held) → a < length hands → get_or (set hands a h) i nobody ≡ upd (λ j. get_or hands j nobody) a h i
hands_behind hands a i h lt = case (same_or i a)
  where
    case : (i ≡ a) ⊎ (i ≢ a) → get_or (set hands a h) i nobody ≡ upd (λ j. get_or hands j nobody) a h i
    case (inl e) =
        subst (λ k. get_or (set hands a h) k nobody ≡ upd (λ j. get_or hands j nobody) a h k) (sym e)
        (get_or-set_same hands a h nobody lt ∙ sym (upd_same (λ j. get_or hands j nobody) a h))
    case (inr ne) = get_or-set_other hands a i h nobody ne ∙ sym (upd_other (λ j. get_or hands j nobody) a i h ne)

-- What a step of this task answers is what it answers in the view.
pub answered_is : (z : Sizes) (w : World Held) (t : Task) → t.index < size_of (map_of z) t.area → answered mmu w (kind_of_task z t) ≡ answer_in t (word_in z w)
answered_is z w t lt = answer_is z t _ ∙ ap (word_answered (operation_of t.kind) t.written) (sym (read_inside (map_of z) w.words t.area t.index lt))

-- The view after a step of the task: one word and one hand.
pub view_behind : (z : Sizes) (w : World Held) (a : ℕ) (t : Task) → t.index < size_of (map_of z) t.area → length w.words ≡ total (map_of z) → a < length w.hands
    → view z (effect mmu w (record { actor = a; kind = kind_of_task z t }))
    ≡ record { words = words_after t (word_in z w); hand = upd (hand_in mmu w) a (mmu.next (hand_in mmu w a) (kind_of_task z t) (answer_in t (word_in z w))) }
unfolding effect
view_behind z w a t lt count there = λ s. record { words = λ other j. word other j s; hand = λ i. hand i s }
  where
    new_ : List ℕ
    new_ = slice_set w.words (place (map_of z) t.area t.index) (after (kind_of_task z t) (slice_index w.words (place (map_of z) t.area t.index)))

    word : (other : Area) (j : ℕ) → read (map_of z) new_ other j ≡ words_after t (word_in z w) other j
    word other j =
        ap (λ x. read (map_of z) (slice_set w.words (place (map_of z) t.area t.index) x) other j) (after_is z t _)
        ∙ words_behind (map_of z) w.words (operation_of t.kind) t.area other t.index j t.expected t.written lt count

    hand : (i : ℕ) → get_or (set w.hands a (mmu.next (hand_in mmu w a) (kind_of_task z t) (answered mmu w (kind_of_task z t)))) i nobody
        ≡ upd (hand_in mmu w) a (mmu.next (hand_in mmu w a) (kind_of_task z t) (answer_in t (word_in z w))) i
    hand i = hands_behind w.hands a i _ there ∙ ap (λ x. upd (hand_in mmu w) a (mmu.next (hand_in mmu w a) (kind_of_task z t) x) i) (answered_is z w t lt)
