-- What the words of a schedule item say is read, and only that; and why they say nothing.
use Rattle.std.proofs.Common.{◌≡◌, ◌≤◌, ◌<◌, ◌+◌, ◌&&◌, inl, inr, ℕ, List, [], ◌∷◌, Bool, true, false, cond, not, Result, Ok, Err, length, refl}
use Rattle.std.proofs.Common.{arith, nat_le, ◌++◌, subst, sym, ap}
use Rattle.std.specs.Prelude.{codes}
use Rattle.std.specs.Fmt.{decimal}
use Rattle.std.specs.List.{list_all}
use Rattle.std.specs.Str.{bytes_eq}
use Rattle.std.proofs.lemmas.Bool.Decides.{nat_tests}
use Rattle.std.proofs.lemmas.Fmt.{digits_decimal, decimal_nonempty}
use Rattle.std.specs.declared.option.Option.{Option}
use Rattle.std.specs.declared.option.Option.TheVariants.{Some, None}
use Rattle.core_views.specs.Sizes.{sizes_of}
use Rattle.core_views.specs.Text.{actor_name}
use Rattle.core_views.specs.Traces.{HasActor, IsHeader, IsItemOf, IsUntilInRange}
use Rattle.core_views.specs.declared.actor.Actor.{Actor}
use Rattle.core_views.specs.declared.actor.Actor.TheVariants.{Vcpu, Host, Manager, Worker}
use Rattle.core_views.specs.declared.trace.Header.{Header}
use Rattle.core_views.specs.declared.trace.Item.{Item}
use Rattle.core_views.specs.declared.trace.Until.{Until}
use Rattle.core_views.specs.declared.trace.Until.TheVariants.{Turns, Answered, Made}
use Rattle.trace_reader.specs.declared.reason.Reason.{Reason}
use Rattle.trace_reader.specs.declared.reason.Reason.TheVariants as reason
use Rattle.trace_reader.specs.Numbers.{is_digit, spelled_number}
use Rattle.trace_reader.specs.Items.{actor_said, begins, item_by, item_said, kind_names, kind_number, made, number_among, turns, until_said}
use Rattle.trace_reader.specs.Grammar.{IsActor, IsDeclared, Spells}
use Rattle.trace_reader.specs.LineGrammar.{IsKindNamed, IsUntilForm, SaysUntil}
use Rattle.trace_reader.proofs.Names.{NamesActor, actor_judged, actor_read}
use Rattle.trace_reader.proofs.Results.{both, branch, is_word, other_word, word_is}
use Rattle.trace_reader.proofs.Spelled.{own, spelled, spelling}

-- A name that is found among others passes their test, and its number is one of theirs.
pub among_passes : (test : List ℕ → Bool) (n : ℕ) (names : List (List ℕ)) (w : List ℕ) (k : ℕ) → list_all test names ≡ true
    → number_among n names w ≡ Some k → test w ≡ true
among_passes test n [] w k all e = absurd (let no : ⊥ = cc in no)
among_passes test n (name ∷ names) w k all e =
    let t = both (test name) (list_all test names) all in
    elim (branch (bytes_eq w name) (Some n) (number_among (n + 1) names w) (Some k) e) [
      | inl p ↦ rw (word_is w name p.0) t.0
      | inr p ↦ among_passes test (n + 1) names w k t.1 p.1
    ]

among_range : (n : ℕ) (names : List (List ℕ)) (w : List ℕ) (k : ℕ) → number_among n names w ≡ Some k → (n ≤ k) × (k < n + length names)
among_range n [] w k e = absurd (let no : ⊥ = cc in no)
among_range n (name ∷ names) w k e = elim (branch (bytes_eq w name) (Some n) (number_among (n + 1) names w) (Some k) e) [
  | inl p ↦ let same : n ≡ k = cc in (omega arith, omega arith)
  | inr p ↦ let r = among_range (n + 1) names w k p.1 in (omega (arith, r.0), omega (arith, r.1))
]

kind_range : (w : List ℕ) (code : ℕ) → kind_number w ≡ Some code → (1 ≤ code) × (code ≤ 41)
unfolding kind_number
kind_range w code e =
    let r = among_range 1 kind_names w code e in
    let high : code < 42 = r.1 in
    (r.0, omega arith)

pub kind_passes : (test : List ℕ → Bool) (w : List ℕ) (code : ℕ) → list_all test kind_names ≡ true → kind_number w ≡ Some code → test w ≡ true
unfolding kind_number
kind_passes test w code all e = among_passes test 1 kind_names w code all e

was_not : (b : Bool) → not b ≡ true → b ≡ false
was_not true e = cc
was_not false e = refl

kind_digit : (w : List ℕ) (code : ℕ) → kind_number w ≡ Some code → begins is_digit w ≡ false
kind_digit w code e = was_not (begins is_digit w) (kind_passes (λ v. not (begins is_digit v)) w code refl e)

-- The word that stands in the list of names is found there.
abbrev are_apart : List (List ℕ) → Bool
are_apart [] = true
are_apart (x ∷ xs) = list_all (λ v. not (bytes_eq v x)) xs && are_apart xs

passes_at : (test : List ℕ → Bool) (xs : List (List ℕ)) (w : List ℕ) (ys : List (List ℕ)) → list_all test (xs ++ w ∷ ys) ≡ true → test w ≡ true
passes_at test [] w ys all = (both (test w) (list_all test ys) all).0
passes_at test (x ∷ xs) w ys all = passes_at test xs w ys (both (test x) (list_all test (xs ++ w ∷ ys)) all).1

found_at : (n k : ℕ) (xs : List (List ℕ)) (w : List ℕ) (ys : List (List ℕ)) → are_apart (xs ++ w ∷ ys) ≡ true → k ≡ n + length xs
    → number_among n (xs ++ w ∷ ys) w ≡ Some k
found_at n k [] w ys all e = let t : bytes_eq w w ≡ true = is_word w w refl in rw t (ap (λ (v : ℕ). Some v) (omega arith))
found_at n k (x ∷ xs) w ys all e =
    let t = both (list_all (λ v. not (bytes_eq v x)) (xs ++ w ∷ ys)) (are_apart (xs ++ w ∷ ys)) all in
    let other : bytes_eq w x ≡ false = was_not (bytes_eq w x) (passes_at (λ v. not (bytes_eq v x)) xs w ys t.0) in
    rw other (found_at (n + 1) k xs w ys t.1 (omega arith))

pub kind_read : (w : List ℕ) (code : ℕ) → IsKindNamed w code → kind_number w ≡ Some code
unfolding kind_number
kind_read w code (xs, ys, e, k) =
    let all : are_apart kind_names ≡ true = refl in
    subst (λ (names : List (List ℕ)). number_among 1 names w ≡ Some code) (sym e)
    (found_at 1 code xs w ys (subst (λ (names : List (List ℕ)). are_apart names ≡ true) e all) (omega arith))

stands_at : (n k : ℕ) (names : List (List ℕ)) (w : List ℕ) → number_among n names w ≡ Some k
    → (before after : List (List ℕ)) × (names ≡ before ++ w ∷ after) × (k ≡ length before + n)
stands_at n k [] w e = absurd (let no : ⊥ = cc in no)
stands_at n k (name ∷ names) w e = elim (branch (bytes_eq w name) (Some n) (number_among (n + 1) names w) (Some k) e) [
  | inl p ↦ let same : n ≡ k = cc in ([], names, ap (λ (v : List ℕ). v ∷ names) (sym (word_is w name p.0)), omega arith)
  | inr p ↦ let (xs, ys, f, g) = stands_at (n + 1) k names w p.1 in (name ∷ xs, ys, ap (λ (v : List (List ℕ)). name ∷ v) f, omega arith)
]

kind_stands : (w : List ℕ) (code : ℕ) → kind_number w ≡ Some code → IsKindNamed w code
unfolding kind_number
kind_stands w code e = stands_at 1 code kind_names w e

-- The last word.
digits_begin : (ds : List ℕ) → 0 < length ds → list_all is_digit ds ≡ true → begins is_digit ds ≡ true
digits_begin [] some all = absurd (omega arith)
digits_begin (d ∷ ds) some all = (both (is_digit d) (list_all is_digit ds) all).0

number_begins : (w : List ℕ) (n : ℕ) → Spells w n → begins is_digit w ≡ true
number_begins w n (lt, inl e) = rw e (digits_begin (decimal n) (decimal_nonempty n lt) (digits_decimal own n lt))
number_begins w n (lt, inr (ds, e, low, high, all, v)) = rw e refl

pub until_form : (w : List ℕ) (u : Until) → SaysUntil w u → IsUntilForm w
until_form w (Turns n) s = inl (number_begins w n s)
until_form w Answered e = inr (inl e)
until_form w (Made code) (never, named) = inr (inr (code, named))

in_turns : (n : ℕ) → (1 ≤ n) × (n ≤ 10000000) → (nat_le 1 n && nat_le n 10000000) ≡ true
in_turns n (low, high) = grind (arith, nat_tests)

until_read : (w : List ℕ) (u : Until) → SaysUntil w u → IsUntilInRange u → until_said w ≡ Ok u
unfolding until_said
until_read w (Turns n) s range = rw (number_begins w n s, spelled w n s, in_turns n range) refl
until_read w Answered e range = rw e refl
until_read w (Made code) (never, named) range = let e = kind_read w code named in rw (kind_digit w code e, other_word w (codes "end") never, e) refl

-- What the last word says, or that it is of a form, or of none.
abbrev UntilJudged : List ℕ → Result Until Reason → Type 0
UntilJudged w (Ok u) = SaysUntil w u × IsUntilInRange u × IsUntilForm w
UntilJudged w (Err reason.Word) = IsUntilForm w → ⊥
UntilJudged w (Err reason.Number) = IsUntilForm w
UntilJudged w (Err _) = ⊥

turns_range : (n : ℕ) → (nat_le 1 n && nat_le n 10000000) ≡ true → (1 ≤ n) × (n ≤ 10000000)
turns_range n e = (grind (arith, nat_tests, e), grind (arith, nat_tests, e))

turns_in : (w : List ℕ) (n : ℕ) (b : Bool) → begins is_digit w ≡ true → spelled_number w ≡ Some n → (nat_le 1 n && nat_le n 10000000) ≡ b
    → UntilJudged w (cond b (Ok (Turns n)) (Err reason.Number))
turns_in w n true digit e range = (spelling w n e, turns_range n range, inl digit)
turns_in w n false digit e range = inl digit

turns_judged : (w : List ℕ) (o : Option ℕ) → begins is_digit w ≡ true → spelled_number w ≡ o → UntilJudged w (turns o)
turns_judged w None digit e = inl digit
turns_judged w (Some n) digit e = turns_in w n (nat_le 1 n && nat_le n 10000000) digit e refl

made_judged : (w : List ℕ) (o : Option ℕ) → begins is_digit w ≡ false → bytes_eq w (codes "end") ≡ false → kind_number w ≡ o → UntilJudged w (made o)
made_judged w None digit last e = λ form. elim form [
  | inl t ↦ cc
  | inr f ↦ elim f [
    | inl t ↦ let is : bytes_eq w (codes "end") ≡ true = is_word w (codes "end") t in cc
    | inr t ↦ let is = kind_read w t.0 t.1 in cc
  ]
]
made_judged w (Some code) digit last e =
    let never : w ≡ codes "end" → ⊥ = λ is. (let t : bytes_eq w (codes "end") ≡ true = is_word w (codes "end") is in cc) in
    let named = kind_stands w code e in
    ((never, named), kind_range w code e, inr (inr (code, named)))

by_test : (w : List ℕ) (b c : Bool) → begins is_digit w ≡ b → bytes_eq w (codes "end") ≡ c
    → UntilJudged w (cond b (turns (spelled_number w)) (cond c (Ok Answered) (made (kind_number w))))
by_test w true c digit last = turns_judged w (spelled_number w) digit refl
by_test w false true digit last = let is = word_is w (codes "end") last in (is, tt, inr (inl is))
by_test w false false digit last = made_judged w (kind_number w) digit last refl

until_judged : (w : List ℕ) → UntilJudged w (until_said w)
unfolding until_said
until_judged w = by_test w (begins is_digit w) (bytes_eq w (codes "end")) refl refl

-- The actor of an item.
pub declared_has : (h : Header) (a : Actor) → IsDeclared h a → HasActor (sizes_of h) a
declared_has h (Vcpu i) lt = lt
declared_has h (Host i) lt = lt
declared_has h Manager lt = tt
declared_has h (Worker i) lt = lt

pub has_declared : (h : Header) (a : Actor) → IsHeader h → HasActor (sizes_of h) a → IsActor a × IsDeclared h a
has_declared h (Vcpu i) header lt = let few = header.vcpus.1 in (omega (arith, few, lt), lt)
has_declared h (Host i) header lt = let few = header.hosts.count in (omega (arith, few, lt), lt)
has_declared h Manager header lt = (tt, tt)
has_declared h (Worker i) header lt = let few = header.workers in (omega (arith, few, lt), lt)

-- What the words of an item say is read.
pub item_read : (h : Header) (who last : List ℕ) (item : Item) → IsHeader h → IsItemOf h item → who ≡ actor_name item.actor
    → SaysUntil last item.until → item_said h who last ≡ Ok item
unfolding item_said
item_read h who last item header is name says =
    let k = has_declared h item.actor header is.actor in
    rw (actor_read h who item.actor k.0 k.1 name, until_read last item.until says is.until) refl

-- What the words say, or why they say nothing.
abbrev pub ItemJudged : Header → List ℕ → List ℕ → Result Item Reason → Type 0
ItemJudged h who last (Ok item) = IsItemOf h item × (who ≡ actor_name item.actor) × SaysUntil last item.until
ItemJudged h who last (Err reason.Word) = (a : Actor) → IsActor a → who ≡ actor_name a → IsUntilForm last → ⊥
ItemJudged h who last (Err reason.Actor) = (a : Actor) × IsActor a × (who ≡ actor_name a) × IsUntilForm last × (IsDeclared h a → ⊥)
ItemJudged h who last (Err reason.Number) = (a : Actor) × IsActor a × (who ≡ actor_name a) × IsUntilForm last × IsDeclared h a
ItemJudged h who last (Err _) = ⊥

with_until : (h : Header) (who last : List ℕ) (x : Result Actor Reason) (u : Until) → NamesActor h who x → SaysUntil last u → IsUntilInRange u
    → IsUntilForm last → ItemJudged h who last (item_by x (Ok u))
with_until h who last (Ok a) u (is, known, name) says range form = (record { actor = declared_has h a known; until = range }, name, says)
with_until h who last (Err reason.Word) u never says range form = λ a is e f. never a is e
with_until h who last (Err reason.Actor) u (a, is, e, never) says range form = (a, is, e, form, never)
with_until h who last (Err _) u never says range form = absurd never

no_number : (h : Header) (who last : List ℕ) (x : Result Actor Reason) → NamesActor h who x → IsUntilForm last
    → ItemJudged h who last (item_by x (Err reason.Number))
no_number h who last (Ok a) (is, known, name) form = (a, is, name, form, known)
no_number h who last (Err reason.Word) never form = λ a is e f. never a is e
no_number h who last (Err reason.Actor) (a, is, e, never) form = (a, is, e, form, never)
no_number h who last (Err _) never form = absurd never

by_last : (h : Header) (who last : List ℕ) (x : Result Actor Reason) (y : Result Until Reason) → NamesActor h who x → UntilJudged last y
    → ItemJudged h who last (item_by x y)
by_last h who last x (Ok u) names (says, range, form) = with_until h who last x u names says range form
by_last h who last x (Err reason.Word) names never = λ a is e form. never form
by_last h who last x (Err reason.Number) names form = no_number h who last x names form
by_last h who last x (Err _) names never = absurd never

pub item_judged : (h : Header) (who last : List ℕ) → ItemJudged h who last (item_said h who last)
unfolding item_said
item_judged h who last = by_last h who last (actor_said h who) (until_said last) (actor_judged h who) (until_judged last)
