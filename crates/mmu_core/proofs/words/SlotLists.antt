-- The list of the live slots of a set, and the host page that a list of slots gives a guest frame.
use Rattle.std.proofs.Common.{◌≡◌, ◌≢◌, ◌<◌, ◌≤◌, ◌⊎◌, inl, inr, ℕ, zero, suc, List, [], ◌∷◌, ◌++◌, refl, sym, ap, ◌∙◌, arith}
use Rattle.std.specs.List.{filter}
use Rattle.std.specs.Prelude.{All, Bool, true, false, not, ◌==◌, ◌&&◌, if◌then◌else◌, Some, None}
use Rattle.std.specs.BTreeMap.{insert_entry}
use Rattle.std.specs.Ordering.{match_ordering, nat_cmp}
use Rattle.std.specs.declared.cmp.Ordering.{Ordering}
use Rattle.std.specs.declared.cmp.Ordering.TheVariants.{Less, Equal, Greater}
use Rattle.std.proofs.lemmas.Bool.Decides.{nat_tests}
use Rattle.std.proofs.lemmas.List.{map-append}
use Rattle.std.proofs.lemmas.List.Elements.{filter-append}
use Rattle.std.proofs.lemmas.List.Elements.{All-nil, All-cons, All-head, All-tail, All-append}
use Rattle.core_views.specs.declared.trace.Op.{Op}
use Rattle.core_views.specs.declared.trace.Slot.{Slot}
use Rattle.core_views.specs.declared.memory_slot.MemorySlot.{MemorySlot}
use Rattle.core_views.specs.Slots.{Slots, contains, is_write, page_behind, page_in, slot_of}
use Rattle.core_views.specs.SlotSets.{flat_slots}
use Rattle.mmu_core.specs.invariant.Invariant.{IsLiveIn}
use Rattle.part_steps.specs.SlotWords.{live_at, live_below, memory_slot_at, memory_slots_below, page_of, slot_at, slots_below}
use Rattle.mmu_core.proofs.machine.Columns.{same_or}

-- Where nothing is live the list is empty.
pub none_below : {A : Type 0} (live : ℕ → Bool) (at : ℕ → A) (n : ℕ) → ((i : ℕ) → i < n → live i ≡ false) → live_below live at n ≡ []
none_below live at zero none = refl
none_below live at (suc n) none = rw (none_below live at n (λ i lt. none i (omega arith)), none n (omega arith)) refl

-- The slots of a set, without their dirty logs.
pub flat_below : (pool : ℕ → ℕ) (set n : ℕ) → flat_slots (memory_slots_below pool set n) ≡ slots_below pool set n
flat_below pool set zero = refl
flat_below pool set (suc n) =
    map-append (λ (e : ℕ × MemorySlot). (e.0, e.1.slot)) (memory_slots_below pool set n)
    (if live_at pool set n then (n, memory_slot_at pool set n) ∷ [] else [])
    ∙ ap (λ (xs : Slots). xs ++ flat_slots (if live_at pool set n then (n, memory_slot_at pool set n) ∷ [] else [])) (flat_below pool set n)
    ∙ ap (λ (xs : Slots). slots_below pool set n ++ xs) (last (live_at pool set n))
  where
    last : (b : Bool) → flat_slots (if b then (n, memory_slot_at pool set n) ∷ [] else []) ≡ (if b then (n, slot_at pool set n) ∷ [] else [])
    last true = refl
    last false = refl

-- a slot that holds the guest frame, after slots that don't
slot_behind : (gfn : ℕ) (xs ys : Slots) → slot_of xs gfn ≡ None → slot_of (xs ++ ys) gfn ≡ slot_of ys gfn
slot_behind gfn [] ys none = refl
slot_behind gfn (x ∷ xs) ys none = by (contains gfn x.1) refl (slot_behind gfn xs ys)
  where
    by : (b : Bool) → contains gfn x.1 ≡ b → (slot_of xs gfn ≡ None → slot_of (xs ++ ys) gfn ≡ slot_of ys gfn) → slot_of ((x ∷ xs) ++ ys) gfn ≡ slot_of ys gfn
    by true e then_ = let here = rw e at none in absurd (cc here)
    by false e then_ = let rest = rw e at none in rw e (then_ rest)

slot_before : (gfn : ℕ) (xs ys : Slots) (s : Slot) → slot_of xs gfn ≡ Some s → slot_of (xs ++ ys) gfn ≡ Some s
slot_before gfn [] ys s some = absurd (cc some)
slot_before gfn (x ∷ xs) ys s some = by (contains gfn x.1) refl (slot_before gfn xs ys s)
  where
    by : (b : Bool) → contains gfn x.1 ≡ b → (slot_of xs gfn ≡ Some s → slot_of (xs ++ ys) gfn ≡ Some s) → slot_of ((x ∷ xs) ++ ys) gfn ≡ Some s
    by true e then_ = let here = rw e at some in rw e here
    by false e then_ = let rest = rw e at some in rw e (then_ rest)

-- Where no live slot holds the guest frame, none is found.
none_holds : (gfn : ℕ) (pool : ℕ → ℕ) (set n : ℕ) → ((i : ℕ) → i < n → live_at pool set i ≡ true → contains gfn (slot_at pool set i) ≡ true → ⊥)
    → slot_of (slots_below pool set n) gfn ≡ None
none_holds gfn pool set zero none = refl
none_holds gfn pool set (suc n) none =
    slot_behind gfn (slots_below pool set n) (if live_at pool set n then (n, slot_at pool set n) ∷ [] else [])
    (none_holds gfn pool set n (λ i lt. none i (omega arith)))
    ∙ last (live_at pool set n) (contains gfn (slot_at pool set n)) refl (none n (omega arith))
  where
    last : (b c : Bool) → contains gfn (slot_at pool set n) ≡ c → (b ≡ true → c ≡ true → ⊥)
        → slot_of (if b then (n, slot_at pool set n) ∷ [] else []) gfn ≡ None
    last true true e none = absurd (none refl refl)
    last true false e none = rw e refl
    last false c e none = refl

-- One live slot alone holds the guest frame: it is found.
pub only_one_holds : (gfn : ℕ) (pool : ℕ → ℕ) (set id n : ℕ) → id < n → live_at pool set id ≡ true → contains gfn (slot_at pool set id) ≡ true
    → ((i : ℕ) → i < n → live_at pool set i ≡ true → contains gfn (slot_at pool set i) ≡ true → i ≡ id)
    → slot_of (slots_below pool set n) gfn ≡ Some (slot_at pool set id)
only_one_holds gfn pool set id zero lt live holds only = absurd (omega arith)
only_one_holds gfn pool set id (suc n) lt live holds only =
    case (same_or n id) (λ less. only_one_holds gfn pool set id n less live holds (λ i below. only i (omega arith)))
  where
    case : (n ≡ id) ⊎ (n ≢ id) → (id < n → slot_of (slots_below pool set n) gfn ≡ Some (slot_at pool set id))
        → slot_of (slots_below pool set (suc n)) gfn ≡ Some (slot_at pool set id)
    case (inl e) before =
        slot_behind gfn (slots_below pool set n) (if live_at pool set n then (n, slot_at pool set n) ∷ [] else [])
        (none_holds gfn pool set n (λ i below is too. let same : i ≡ id = only i (omega arith) is too in absurd (omega arith)))
        ∙ rw (e, live, holds) refl
    case (inr apart) before =
        slot_before gfn (slots_below pool set n) (if live_at pool set n then (n, slot_at pool set n) ∷ [] else []) (slot_at pool set id)
        (before (omega arith))

-- Each slot of the list is live.
pub each_is_live : (pool : ℕ → ℕ) (set n : ℕ) → n ≤ 32 → All (λ e. IsLiveIn pool set e.0 e.1) (slots_below pool set n)
each_is_live pool set zero few = All-nil (λ (e : ℕ × Slot). IsLiveIn pool set e.0 e.1)
each_is_live pool set (suc n) few =
    All-append (λ (e : ℕ × Slot). IsLiveIn pool set e.0 e.1) (slots_below pool set n)
    (if live_at pool set n then (n, slot_at pool set n) ∷ [] else [])
    (each_is_live pool set n (omega arith)) (last (live_at pool set n) refl)
  where
    last : (b : Bool) → live_at pool set n ≡ b → All (λ (e : ℕ × Slot). IsLiveIn pool set e.0 e.1) (if b then (n, slot_at pool set n) ∷ [] else [])
    last true live =
        All-cons (λ (e : ℕ × Slot). IsLiveIn pool set e.0 e.1) (n, slot_at pool set n) [] (record { low = omega arith; live = live; is = refl })
        (All-nil (λ (e : ℕ × Slot). IsLiveIn pool set e.0 e.1))
    last false live = All-nil (λ (e : ℕ × Slot). IsLiveIn pool set e.0 e.1)

same_last : {A : Type 0} (b c : Bool) (n : ℕ) (x y : A) → b ≡ c → (b ≡ true → x ≡ y)
    → ◌≡◌ {A = List (ℕ × A)} (if b then (n, x) ∷ [] else []) (if c then (n, y) ∷ [] else [])
same_last true true n x y e is = rw (is refl) refl
same_last false false n x y e is = refl
same_last _ _ n x y e is = absurd (cc)

-- The same IDs are live in two sets, with the same: the list is the same.
pub same_below : {A : Type 0} (live other : ℕ → Bool) (at there : ℕ → A) (n : ℕ) → ((i : ℕ) → i < n → live i ≡ other i)
    → ((i : ℕ) → i < n → live i ≡ true → at i ≡ there i) → live_below live at n ≡ live_below other there n
same_below live other at there zero alike is = refl
same_below {A} live other at there (suc n) alike is =
    ap (λ (xs : List (ℕ × A)). xs ++ (if live n then (n, at n) ∷ [] else []))
    (same_below live other at there n (λ i lt. alike i (omega arith)) (λ i lt. is i (omega arith)))
    ∙ ap (λ (xs : List (ℕ × A)). live_below other there n ++ xs) (same_last (live n) (other n) n (at n) (there n) (alike n (omega arith)) (is n (omega arith)))

-- How two IDs compare.
cmp_less : (j k : ℕ) → j < k → nat_cmp j k ≡ Less
cmp_less j k lt = grind (arith, nat_tests)

cmp_greater : (j k : ℕ) → k < j → nat_cmp j k ≡ Greater
cmp_greater j k lt = grind (arith, nat_tests)

-- the list, with this at the ID
abbrev with_at : {A : Type 0} → ℕ → A → List (ℕ × A) → List (ℕ × A)
with_at id x xs = insert_entry nat_cmp xs id x

-- Something is put between what stands before its ID and what stands after it.
insert_then : {A : Type 0} (id : ℕ) (new_ : A) (xs ys : List (ℕ × A)) → with_at id new_ ys ≡ (id, new_) ∷ ys
    → with_at id new_ (xs ++ ys) ≡ with_at id new_ xs ++ ys
insert_then id new_ [] ys front = front
insert_then {A} id new_ (x ∷ xs) ys front = by (nat_cmp id x.0) (insert_then id new_ xs ys front)
  where
    by : (o : Ordering) → with_at id new_ (xs ++ ys) ≡ with_at id new_ xs ++ ys
        → match_ordering o ((id, new_) ∷ x ∷ (xs ++ ys)) ((x.0, new_) ∷ (xs ++ ys)) (x ∷ with_at id new_ (xs ++ ys))
        ≡ match_ordering o ((id, new_) ∷ x ∷ xs) ((x.0, new_) ∷ xs) (x ∷ with_at id new_ xs) ++ ys
    by Greater rest = ap (λ (zs : List (ℕ × A)). x ∷ zs) rest
    by _ rest = refl

cmp_equal : (k : ℕ) → nat_cmp k k ≡ Equal
cmp_equal k = grind (arith, nat_tests)

-- Something is put at the end, in place of what stands there with its ID, if anything does.
insert_last : {A : Type 0} (id : ℕ) (new_ : A) (xs : List (ℕ × A)) (there : Bool) (old : A) → All (λ (e : ℕ × A). e.0 < id) xs
    → with_at id new_ (xs ++ (if there then (id, old) ∷ [] else [])) ≡ xs ++ (id, new_) ∷ []
insert_last {A} id new_ [] true old below =
    ap (λ (o : Ordering). match_ordering o ((id, new_) ∷ (id, old) ∷ []) ((id, new_) ∷ []) ((id, old) ∷ (id, new_) ∷ [])) (cmp_equal id)
insert_last id new_ [] false old below = refl
insert_last {A} id new_ (x ∷ xs) there old below =
    let rest : List (ℕ × A) = xs ++ (if there then (id, old) ∷ [] else []) in
    let greater : nat_cmp id x.0 ≡ Greater = cmp_greater id x.0 (All-head (λ (e : ℕ × A). e.0 < id) x xs below) in
    ap (λ (o : Ordering). match_ordering o ((id, new_) ∷ x ∷ rest) ((x.0, new_) ∷ rest) (x ∷ with_at id new_ rest)) greater
    ∙ ap (λ (zs : List (ℕ × A)). x ∷ zs) (insert_last id new_ xs there old (All-tail (λ (e : ℕ × A). e.0 < id) x xs below))

-- Each ID of the list is below its end.
ids_below : {A : Type 0} (live : ℕ → Bool) (at : ℕ → A) (n m : ℕ) → n ≤ m → All (λ (e : ℕ × A). e.0 < m) (live_below live at n)
ids_below {A} live at zero m le = All-nil (λ (e : ℕ × A). e.0 < m)
ids_below {A} live at (suc n) m le =
    All-append (λ (e : ℕ × A). e.0 < m) (live_below live at n) (if live n then (n, at n) ∷ [] else [])
    (ids_below live at n m (omega arith)) (last (live n))
  where
    last : (b : Bool) → All (λ (e : ℕ × A). e.0 < m) (if b then (n, at n) ∷ [] else [])
    last true = All-cons (λ (e : ℕ × A). e.0 < m) (n, at n) [] (omega arith) (All-nil (λ (e : ℕ × A). e.0 < m))
    last false = All-nil (λ (e : ℕ × A). e.0 < m)

-- This ID is live in another set, and the others as they were: the list has it at its ID.
pub one_put_live : {A : Type 0} (live other : ℕ → Bool) (at there : ℕ → A) (id n : ℕ) → id < n → other id ≡ true
    → ((i : ℕ) → i < n → i ≢ id → other i ≡ live i) → ((i : ℕ) → i < n → i ≢ id → live i ≡ true → there i ≡ at i)
    → live_below other there n ≡ insert_entry nat_cmp (live_below live at n) id (there id)
one_put_live live other at there id zero lt lives same is = absurd (omega arith)
one_put_live {A} live other at there id (suc n) lt lives same is =
    case (same_or n id) (λ less. one_put_live live other at there id n less lives (λ i below. same i (omega arith)) (λ i below. is i (omega arith)))
  where
    last : Bool → A → List (ℕ × A)
    last b x = if b then (n, x) ∷ [] else []

    new_ : A
    new_ = there id

    before_same : n ≡ id → live_below other there n ≡ live_below live at n
    before_same e =
        same_below other live there at n (λ i below. same i (omega arith) (λ q. absurd (omega arith)))
        (λ i below on. is i (omega arith) (λ q. absurd (omega arith)) (sym (same i (omega arith) (λ q. absurd (omega arith))) ∙ on))

    behind : id < n → (b : Bool) (x : A) → with_at id new_ (last b x) ≡ (id, new_) ∷ last b x
    behind less true x = ap (λ (o : Ordering). match_ordering o ((id, new_) ∷ (n, x) ∷ []) ((n, new_) ∷ []) ((n, x) ∷ (id, new_) ∷ [])) (cmp_less id n less)
    behind less false x = refl

    case : (n ≡ id) ⊎ (n ≢ id) → (id < n → live_below other there n ≡ with_at id new_ (live_below live at n))
        → live_below other there (suc n) ≡ with_at id new_ (live_below live at (suc n))
    case (inl e) before =
        ap (λ (xs : List (ℕ × A)). xs ++ last (other n) (there n)) (before_same e)
        ∙ ap (λ k. live_below live at n ++ (if other k then (k, there k) ∷ [] else [])) e
        ∙ ap (λ b. live_below live at n ++ (if b then (id, new_) ∷ [] else [])) lives
        ∙ sym (insert_last id new_ (live_below live at n) (live n) (at n) (ids_below live at n id (omega arith)))
        ∙ ap (λ k. with_at id new_ (live_below live at n ++ (if live n then (k, at n) ∷ [] else []))) (sym e)
    case (inr apart) before =
        let less : id < n = omega arith in
        ap (λ (xs : List (ℕ × A)). xs ++ last (other n) (there n)) (before less)
        ∙ ap (λ (xs : List (ℕ × A)). with_at id new_ (live_below live at n) ++ xs) (same_last (other n) (live n) n (there n) (at n)
        (same n (omega arith) apart) (λ on. is n (omega arith) apart (sym (same n (omega arith) apart) ∙ on)))
        ∙ sym (insert_then id new_ (live_below live at n) (last (live n) (at n)) (behind less (live n) (at n)))

-- This ID is live no more, and the others are as they were: the list is without it.
pub one_gone_live : {A : Type 0} (live other : ℕ → Bool) (at there : ℕ → A) (id n : ℕ) → other id ≡ false
    → ((i : ℕ) → i < n → i ≢ id → other i ≡ live i) → ((i : ℕ) → i < n → i ≢ id → live i ≡ true → there i ≡ at i)
    → live_below other there n ≡ filter (λ e. not (e.0 == id)) (live_below live at n)
one_gone_live live other at there id zero gone same is = refl
one_gone_live {A} live other at there id (suc n) gone same is =
    ap (λ (xs : List (ℕ × A)). xs ++ last (other n) (there n))
    (one_gone_live live other at there id n gone (λ i below. same i (omega arith)) (λ i below. is i (omega arith)))
    ∙ ap (λ (xs : List (ℕ × A)). filter (λ e. not (e.0 == id)) (live_below live at n) ++ xs) (by (same_or n id))
    ∙ sym (filter-append (λ e. not (e.0 == id)) (live_below live at n) (last (live n) (at n)))
  where
    last : Bool → A → List (ℕ × A)
    last b x = if b then (n, x) ∷ [] else []

    -- the last one leaves the list, or stays in it
    leaves : (b : Bool) (x : A) → (n == id) ≡ true → filter (λ e. not (e.0 == id)) (last b x) ≡ []
    leaves true x here = rw here refl
    leaves false x here = refl

    stays : (b : Bool) (x : A) → (n == id) ≡ false → filter (λ e. not (e.0 == id)) (last b x) ≡ last b x
    stays true x here = rw here refl
    stays false x here = refl

    by : (n ≡ id) ⊎ (n ≢ id) → last (other n) (there n) ≡ filter (λ e. not (e.0 == id)) (last (live n) (at n))
    by (inl e) =
        ap (λ b. last b (there n)) (ap other e ∙ gone) ∙ sym (leaves (live n) (at n) (grind (arith, nat_tests)))
    by (inr apart) =
        same_last (other n) (live n) n (there n) (at n)
        (same n (omega arith) apart) (λ on. is n (omega arith) apart (sym (same n (omega arith) apart) ∙ on))
        ∙ sym (stays (live n) (at n) (grind (arith, nat_tests)))

-- Slots none of which holds the guest frame, or only read-only ones for a write, give it no page.
pub no_page_behind : (slots : Slots) (gfn : ℕ) (op : Op) → All (λ e. contains gfn e.1 ≡ true → (is_write op && e.1.read_only) ≡ true) slots
    → page_behind slots gfn op ≡ None
no_page_behind [] gfn op each = refl
no_page_behind (e ∷ es) gfn op each = case (contains gfn e.1) refl (All-head P e es each) (no_page_behind es gfn op (All-tail P e es each))
  where
    P : ℕ × Slot → Type 0
    P e = contains gfn e.1 ≡ true → (is_write op && e.1.read_only) ≡ true

    case : (b : Bool) → contains gfn e.1 ≡ b → P e → page_behind es gfn op ≡ None → page_behind (e ∷ es) gfn op ≡ None
    case true holds here rest = rw (holds, here holds) refl
    case false holds here rest = rw holds rest

-- A slot that allows the operation gives its page.
pub page_allowed : (slot : Slot) (gfn : ℕ) (op : Op) → (is_write op && slot.read_only) ≡ false → page_in gfn op (Some slot) ≡ Some (page_of slot gfn)
page_allowed slot gfn op allows = rw allows refl
