-- Which words name an actor.
use Rattle.std.proofs.Common.{◌≡◌, ◌≤◌, ◌<◌, ℕ, List, [], ◌∷◌, Bool, true, false, cond, Result, Ok, Err, refl, sym, ap, subst, ◌∙◌, arith, nat_lt}
use Rattle.std.proofs.Common.{nat_le, length, ◌==◌}
use Rattle.std.specs.Prelude.{codes}
use Rattle.std.specs.Fmt.{decimal}
use Rattle.std.specs.Str.{bytes_eq}
use Rattle.std.specs.declared.option.Option.{Option}
use Rattle.std.specs.declared.option.Option.TheVariants.{Some, None}
use Rattle.std.proofs.lemmas.Bool.{eq-eqb}
use Rattle.std.proofs.lemmas.Bool.Decides.{nat_tests}
use Rattle.core_views.specs.Text.{actor_name}
use Rattle.core_views.specs.declared.actor.Actor.{Actor}
use Rattle.core_views.specs.declared.actor.Actor.TheVariants.{Vcpu, Host, Manager, Worker}
use Rattle.core_views.specs.declared.trace.Header.{Header}
use Rattle.trace_reader.specs.declared.reason.Reason.{Reason}
use Rattle.trace_reader.specs.declared.reason.Reason.TheVariants as reason
use Rattle.trace_reader.specs.Numbers.{decimal_number}
use Rattle.trace_reader.specs.Operands.{◌>>=◌, declared, indexed}
use Rattle.trace_reader.specs.Items.{actor_said, begins}
use Rattle.trace_reader.specs.Grammar.{IsActor, IsDeclared}
use Rattle.trace_reader.proofs.Results.{heads_differ, word_is, is_word}
use Rattle.trace_reader.proofs.Spelled.{decimal_found, decimal_only}

-- An index in a name is read, and only that.
index_declared : (most count n : ℕ) → n ≤ most → n < count → declared most count (Some n) ≡ Ok n
index_declared most count n a b = grind (arith, nat_tests)

pub index_named : (letter most count n : ℕ) → n ≤ most → most ≤ 15 → n < count → indexed letter most count (letter ∷ decimal n) ≡ Ok n
unfolding indexed
index_named letter most count n low small known = rw (eq-eqb letter letter refl, decimal_only n (omega arith), index_declared most count n low known) refl

-- What a word is: the letter and the index of an actor that is declared, or of one that is not, or neither.
abbrev pub Names : ℕ → ℕ → ℕ → List ℕ → Result ℕ Reason → Type 0
Names letter most count w (Ok i) = (i ≤ most) × (i < count) × (w ≡ letter ∷ decimal i)
Names letter most count w (Err reason.Word) = (i : ℕ) → i ≤ most → w ≡ letter ∷ decimal i → ⊥
Names letter most count w (Err reason.Actor) = (i : ℕ) × (i ≤ most) × (i < count → ⊥) × (w ≡ letter ∷ decimal i)
Names letter most count w (Err _) = ⊥

in_decimal : (letter : ℕ) (ds : List ℕ) (i : ℕ) → i ≤ 15 → letter ∷ ds ≡ letter ∷ decimal i → decimal_number ds ≡ Some i
in_decimal letter ds i le e = let same : ds ≡ decimal i = cc in rw same (decimal_only i (omega arith))

index_in : (letter most count : ℕ) (ds : List ℕ) (n : ℕ) (small known : Bool) → most ≤ 15 → decimal_number ds ≡ Some n → nat_le n most ≡ small
    → nat_lt n count ≡ known → Names letter most count (letter ∷ ds) (cond small (cond known (Ok n) (Err reason.Actor)) (Err reason.Word))
index_in letter most count ds n true true few e s k =
    (grind (arith, nat_tests), grind (arith, nat_tests), ap (λ (l : List ℕ). letter ∷ l) (decimal_found ds n e).1)
index_in letter most count ds n true false few e s k =
    (n, grind (arith, nat_tests), (λ lt. grind (arith, nat_tests)), ap (λ (l : List ℕ). letter ∷ l) (decimal_found ds n e).1)
index_in letter most count ds n false known few e s k = λ i le is.
    let d : decimal_number ds ≡ Some i = in_decimal letter ds i (omega arith) is in
    let same : n ≡ i = cc in
    grind (arith, nat_tests)

index : (letter most count : ℕ) (ds : List ℕ) (o : Option ℕ) → most ≤ 15 → decimal_number ds ≡ o → Names letter most count (letter ∷ ds) (declared most count o)
index letter most count ds None few e = λ i le is. let d : decimal_number ds ≡ Some i = in_decimal letter ds i (omega arith) is in cc
index letter most count ds (Some n) few e = index_in letter most count ds n (nat_le n most) (nat_lt n count) few e refl refl

by_letter : (letter most count c : ℕ) (ds : List ℕ) (b : Bool) → most ≤ 15 → (c == letter) ≡ b
    → Names letter most count (c ∷ ds) (cond b (declared most count (decimal_number ds)) (Err reason.Word))
by_letter letter most count c ds true few e = let v : c ≡ letter = grind (arith, nat_tests) in rw v (index letter most count ds (decimal_number ds) few refl)
by_letter letter most count c ds false few e = λ i le is. let v : c ≡ letter = cc in let t : (c == letter) ≡ true = eq-eqb c letter v in cc

pub index_judged : (letter most count : ℕ) (w : List ℕ) → most ≤ 15 → Names letter most count w (indexed letter most count w)
unfolding indexed
index_judged letter most count [] few = λ i le is. cc
index_judged letter most count (c ∷ ds) few = by_letter letter most count c ds (c == letter) few refl

-- Two actors have two names.
same_index : (letter i j : ℕ) → i ≤ 15 → j ≤ 15 → letter ∷ decimal i ≡ letter ∷ decimal j → i ≡ j
same_index letter i j a b e =
    let x : decimal_number (decimal i) ≡ Some i = decimal_only i (omega arith) in
    let y : decimal_number (decimal j) ≡ Some j = decimal_only j (omega arith) in
    let d : decimal i ≡ decimal j = cc in
    cc

not_vm : (i : ℕ) → i ≤ 15 → 118 ∷ decimal i ≡ 118 ∷ 109 ∷ [] → ⊥
not_vm i le e =
    let x : decimal_number (decimal i) ≡ Some i = decimal_only i (omega arith) in
    let d : decimal i ≡ 109 ∷ [] = cc in
    let y : decimal_number (109 ∷ []) ≡ Some i = subst (λ (v : List ℕ). decimal_number v ≡ Some i) d x in
    let z : decimal_number (109 ∷ []) ≡ None = refl in
    cc

pub one_name : (a b : Actor) → IsActor a → IsActor b → actor_name a ≡ actor_name b → a ≡ b
one_name (Vcpu i) (Vcpu j) le lt e = ap (λ (n : ℕ). Vcpu n) (same_index 118 i j le lt e)
one_name (Vcpu i) (Host j) le lt e = absurd (heads_differ 118 104 _ _ refl e)
one_name (Vcpu i) Manager le lt e = absurd (not_vm i le e)
one_name (Vcpu i) (Worker j) le lt e = absurd (heads_differ 118 119 _ _ refl e)
one_name (Host i) (Vcpu j) le lt e = absurd (heads_differ 104 118 _ _ refl e)
one_name (Host i) (Host j) le lt e = ap (λ (n : ℕ). Host n) (same_index 104 i j (omega arith) (omega arith) e)
one_name (Host i) Manager le lt e = absurd (heads_differ 104 118 _ _ refl e)
one_name (Host i) (Worker j) le lt e = absurd (heads_differ 104 119 _ _ refl e)
one_name Manager (Vcpu j) le lt e = absurd (not_vm j lt (sym e))
one_name Manager (Host j) le lt e = absurd (heads_differ 118 104 _ _ refl e)
one_name Manager Manager le lt e = refl
one_name Manager (Worker j) le lt e = absurd (heads_differ 118 119 _ _ refl e)
one_name (Worker i) (Vcpu j) le lt e = absurd (heads_differ 119 118 _ _ refl e)
one_name (Worker i) (Host j) le lt e = absurd (heads_differ 119 104 _ _ refl e)
one_name (Worker i) Manager le lt e = absurd (heads_differ 119 118 _ _ refl e)
one_name (Worker i) (Worker j) le lt e = ap (λ (n : ℕ). Worker n) (same_index 119 i j (omega arith) (omega arith) e)

-- What a word is: the name of an actor that is declared, or of one that is not, or of none.
abbrev pub NamesActor : Header → List ℕ → Result Actor Reason → Type 0
NamesActor h w (Ok a) = IsActor a × IsDeclared h a × (w ≡ actor_name a)
NamesActor h w (Err reason.Word) = (a : Actor) → IsActor a → w ≡ actor_name a → ⊥
NamesActor h w (Err reason.Actor) = (a : Actor) × IsActor a × (w ≡ actor_name a) × (IsDeclared h a → ⊥)
NamesActor h w (Err _) = ⊥

-- Such names are a letter and an index: each index is an actor's, and no other actor has the word for its name.
record IsKind (h : Header) (w : List ℕ) (letter most count : ℕ) (make : ℕ → Actor) : Type 0 where
  is : (i : ℕ) → i ≤ most → IsActor (make i)
  known : (i : ℕ) → i < count → IsDeclared h (make i)
  below : (i : ℕ) → IsDeclared h (make i) → i < count
  name : (i : ℕ) → actor_name (make i) ≡ letter ∷ decimal i
  only : (a : Actor) → IsActor a → w ≡ actor_name a → (i : ℕ) × (i ≤ most) × (w ≡ letter ∷ decimal i)

of_kind : (h : Header) (w : List ℕ) (letter most count : ℕ) (make : ℕ → Actor) (r : Result ℕ Reason) → IsKind h w letter most count make
    → Names letter most count w r → NamesActor h w (r >>= λ n. Ok (make n))
of_kind h w letter most count make (Ok i) k (le, lt, e) = (k.is i le, k.known i lt, e ∙ sym (k.name i))
of_kind h w letter most count make (Err reason.Word) k never = λ a is e. let f = k.only a is e in never f.0 f.1 f.2
of_kind h w letter most count make (Err reason.Actor) k (i, le, never, e) = (make i, k.is i le, e ∙ sym (k.name i), λ d. never (k.below i d))
of_kind h w letter most count make (Err _) k never = absurd never

other : (test : ℕ → Bool) (w : List ℕ) (a : Actor) (b c : Bool) → begins test w ≡ b → w ≡ actor_name a → begins test (actor_name a) ≡ c → b ≡ c
other test w a b c t e f = sym t ∙ ap (begins test) e ∙ f

vcpus : (h : Header) (w : List ℕ) → (w ≡ codes "vm" → ⊥) → begins (λ c. c == 118) w ≡ true → IsKind h w 118 15 h.vcpus Vcpu
vcpus h w never t = record { is = λ i le. le; known = λ i lt. lt; below = λ i lt. lt; name = λ i. refl; only = λ a is e. one a is e }
  where
    one : (a : Actor) → IsActor a → w ≡ actor_name a → (i : ℕ) × (i ≤ 15) × (w ≡ 118 ∷ decimal i)
    one (Vcpu i) is e = (i, is, e)
    one (Host i) is e = absurd (let f : true ≡ false = other (λ c. c == 118) w (Host i) true false t e refl in cc)
    one Manager is e = absurd (never e)
    one (Worker i) is e = absurd (let f : true ≡ false = other (λ c. c == 118) w (Worker i) true false t e refl in cc)

hosts : (h : Header) (w : List ℕ) → begins (λ c. c == 104) w ≡ true → IsKind h w 104 3 (length h.hosts) Host
hosts h w t = record { is = λ i le. le; known = λ i lt. lt; below = λ i lt. lt; name = λ i. refl; only = λ a is e. one a is e }
  where
    one : (a : Actor) → IsActor a → w ≡ actor_name a → (i : ℕ) × (i ≤ 3) × (w ≡ 104 ∷ decimal i)
    one (Vcpu i) is e = absurd (let f : true ≡ false = other (λ c. c == 104) w (Vcpu i) true false t e refl in cc)
    one (Host i) is e = (i, is, e)
    one Manager is e = absurd (let f : true ≡ false = other (λ c. c == 104) w Manager true false t e refl in cc)
    one (Worker i) is e = absurd (let f : true ≡ false = other (λ c. c == 104) w (Worker i) true false t e refl in cc)

workers : (h : Header) (w : List ℕ) → (w ≡ codes "vm" → ⊥) → begins (λ c. c == 118) w ≡ false → begins (λ c. c == 104) w ≡ false
    → IsKind h w 119 3 h.workers Worker
workers h w never t u = record { is = λ i le. le; known = λ i lt. lt; below = λ i lt. lt; name = λ i. refl; only = λ a is e. one a is e }
  where
    one : (a : Actor) → IsActor a → w ≡ actor_name a → (i : ℕ) × (i ≤ 3) × (w ≡ 119 ∷ decimal i)
    one (Vcpu i) is e = absurd (let f : false ≡ true = other (λ c. c == 118) w (Vcpu i) false true t e refl in cc)
    one (Host i) is e = absurd (let f : false ≡ true = other (λ c. c == 104) w (Host i) false true u e refl in cc)
    one Manager is e = absurd (never e)
    one (Worker i) is e = (i, is, e)

by_kind : (h : Header) (w : List ℕ) (b c : Bool) → (w ≡ codes "vm" → ⊥) → begins (λ c. c == 118) w ≡ b → begins (λ c. c == 104) w ≡ c
    → NamesActor h w (cond b (indexed 118 15 h.vcpus w >>= λ n. Ok (Vcpu n))
    (cond c (indexed 104 3 (length h.hosts) w >>= λ n. Ok (Host n)) (indexed 119 3 h.workers w >>= λ n. Ok (Worker n))))
by_kind h w true c never t u = of_kind h w 118 15 h.vcpus Vcpu _ (vcpus h w never t) (index_judged 118 15 h.vcpus w (omega arith))
by_kind h w false true never t u = of_kind h w 104 3 (length h.hosts) Host _ (hosts h w u) (index_judged 104 3 (length h.hosts) w (omega arith))
by_kind h w false false never t u = of_kind h w 119 3 h.workers Worker _ (workers h w never t u) (index_judged 119 3 h.workers w (omega arith))

by_name : (h : Header) (w : List ℕ) (b : Bool) (y : Result Actor Reason) → bytes_eq w (codes "vm") ≡ b → ((w ≡ codes "vm" → ⊥) → NamesActor h w y)
    → NamesActor h w (cond b (Ok Manager) y)
by_name h w true y e more = (tt, tt, word_is w (codes "vm") e)
by_name h w false y e more = more (λ is. let t : bytes_eq w (codes "vm") ≡ true = is_word w (codes "vm") is in cc)

pub actor_judged : (h : Header) (w : List ℕ) → NamesActor h w (actor_said h w)
unfolding actor_said
actor_judged h w = by_name h w (bytes_eq w (codes "vm")) _ refl (λ never. by_kind h w (begins (λ c. c == 118) w) (begins (λ c. c == 104) w) never refl refl)

-- The name of an actor that is declared is read.
pub actor_read : (h : Header) (w : List ℕ) (a : Actor) → IsActor a → IsDeclared h a → w ≡ actor_name a → actor_said h w ≡ Ok a
actor_read h w a is known e = by (actor_said h w) (actor_judged h w)
  where
    by : (r : Result Actor Reason) → NamesActor h w r → r ≡ Ok a
    by (Ok b) (isb, knownb, f) = ap (λ (x : Actor). Ok x) (one_name b a isb is (sym f ∙ e))
    by (Err reason.Word) never = absurd (never a is e)
    by (Err reason.Actor) (b, isb, f, never) = absurd (never (subst (IsDeclared h) (one_name a b is isb (sym e ∙ f)) known))
    by (Err _) never = absurd never
