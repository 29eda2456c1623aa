-- The words after a command's word, and the actor's name: what they spell, and why one is refused.
use Rattle.std.proofs.Common.{◌≡◌, ◌≤◌, ◌<◌, ◌+◌, ◌*◌, ◌/◌, ◌%◌, ◌^◌, inl, inr, ℕ, List, ◌∷◌, Bool, true, false, cond, Result, Ok, Err, refl, ap}
use Rattle.std.proofs.Common.{◌∙◌, arith, subst, length}
use Rattle.std.specs.Prelude.{nat_lt}
use Rattle.std.proofs.lemmas.Bool.{cond-true}
use Rattle.std.specs.Fmt.{decimal}
use Rattle.std.proofs.lemmas.Bool.Decides.{nat_tests}
use Rattle.std.specs.declared.option.Option.{Option}
use Rattle.std.specs.declared.option.Option.TheVariants.{Some, None}
use Rattle.core_views.specs.Traces.{IsHeader}
use Rattle.core_views.specs.declared.trace.Header.{Header}
use Rattle.trace_reader.specs.Numbers.{spelled_number}
use Rattle.trace_reader.specs.Operands.{number, or_number, is_address, access_at, address, frame_at, guest_frame, host_thread, vcpu, worker, ◌>>=◌}
use Rattle.trace_reader.specs.Grammar.{Spells}
use Rattle.trace_reader.proofs.Results.{branch}
use Rattle.trace_reader.proofs.Spelled.{spelled, spelling}
use Rattle.trace_reader.proofs.Names.{Names, index_named, index_judged}
use Rattle.trace_reader.specs.declared.reason.Reason.{Reason}
use Rattle.trace_reader.specs.declared.reason.Reason.TheVariants as reason

-- What a word that is spelled gives.
pub vcpu_named : (h : Header) (n : ℕ) → n < h.vcpus → h.vcpus ≤ 16 → vcpu h (118 ∷ decimal n) ≡ Ok n
unfolding vcpu
vcpu_named h n known few = index_named 118 15 h.vcpus n (omega arith) (omega arith) known

pub host_named : (h : Header) (n : ℕ) → n < length h.hosts → length h.hosts ≤ 4 → host_thread h (104 ∷ decimal n) ≡ Ok n
unfolding host_thread
host_named h n known few = index_named 104 3 (length h.hosts) n (omega arith) (omega arith) known

pub worker_named : (h : Header) (n : ℕ) → n < h.workers → h.workers ≤ 4 → worker h (119 ∷ decimal n) ≡ Ok n
unfolding worker
worker_named h n known few = index_named 119 3 h.workers n (omega arith) (omega arith) known

pub number_spelled : (w : List ℕ) (n : ℕ) → Spells w n → number w ≡ Ok n
unfolding number
number_spelled w n s = rw (spelled w n s) refl

frame_so : (n : ℕ) → n < 2 ^ 36 → frame_at (Some n) ≡ Ok n
frame_so n low = cond-true (nat_lt n (2 ^ 36)) (Ok n) _ (grind (arith, nat_tests))

pub frame_spelled : (w : List ℕ) (n : ℕ) → Spells w n → n < 2 ^ 36 → guest_frame w ≡ Ok n
unfolding guest_frame
frame_spelled w n s low = ap frame_at (spelled w n s) ∙ frame_so n low

accessed : (words gfn word a : ℕ) → a ≡ 4096 * gfn + 8 * word → gfn < 2 ^ 36 → word < words → words ≤ 8
    → (is_address words a ≡ true) × (a / 4096 ≡ gfn) × (a % 4096 / 8 ≡ word)
accessed words gfn word a is low known few =
    let rest : a % 4096 ≡ 8 * word = omega arith in
    let even : a % 8 ≡ 0 = omega arith in
    (grind (arith, nat_tests), omega arith, omega arith)

pub address_spelled : (h : Header) (w : List ℕ) (gfn word : ℕ) → Spells w (4096 * gfn + 8 * word) → gfn < 2 ^ 36 → word < h.words → h.words ≤ 8
    → address h w ≡ Ok (gfn, word)
unfolding address
address_spelled h w gfn word s low known few =
    let a = accessed h.words gfn word (4096 * gfn + 8 * word) refl low known few in
    rw (spelled w (4096 * gfn + 8 * word) s, a.0, a.1, a.2) refl

pub small_words : (h : Header) → IsHeader h → h.words ≤ 8
small_words h is = elim is.words [
  | inl a ↦ omega arith
  | inr a ↦ elim a [
    | inl b ↦ omega arith
    | inr b ↦ elim b [ inl c ↦ omega arith | inr c ↦ omega arith ]
  ]
]

-- What is read is spelled.
pub vcpu_names : (h : Header) (w : List ℕ) → Names 118 15 h.vcpus w (vcpu h w)
unfolding vcpu
vcpu_names h w = index_judged 118 15 h.vcpus w (omega arith)

pub vcpu_found : (h : Header) (w : List ℕ) (n : ℕ) → vcpu h w ≡ Ok n → (w ≡ 118 ∷ decimal n) × (n < h.vcpus)
vcpu_found h w n e = let (low, known, is) = subst (Names 118 15 h.vcpus w) e (vcpu_names h w) in (is, known)

pub host_names : (h : Header) (w : List ℕ) → Names 104 3 (length h.hosts) w (host_thread h w)
unfolding host_thread
host_names h w = index_judged 104 3 (length h.hosts) w (omega arith)

pub host_found : (h : Header) (w : List ℕ) (n : ℕ) → host_thread h w ≡ Ok n → (w ≡ 104 ∷ decimal n) × (n < length h.hosts)
host_found h w n e = let (low, known, is) = subst (Names 104 3 (length h.hosts) w) e (host_names h w) in (is, known)

pub worker_names : (h : Header) (w : List ℕ) → Names 119 3 h.workers w (worker h w)
unfolding worker
worker_names h w = index_judged 119 3 h.workers w (omega arith)

pub worker_found : (h : Header) (w : List ℕ) (n : ℕ) → worker h w ≡ Ok n → (w ≡ 119 ∷ decimal n) × (n < h.workers)
worker_found h w n e = let (low, known, is) = subst (Names 119 3 h.workers w) e (worker_names h w) in (is, known)

some_number : (o : Option ℕ) (n : ℕ) → or_number o ≡ Ok n → o ≡ Some n
some_number None n e = cc
some_number (Some m) n e = cc

pub number_found : (w : List ℕ) (n : ℕ) → number w ≡ Ok n → Spells w n
unfolding number
number_found w n e = spelling w n (some_number (spelled_number w) n e)

some_frame : (o : Option ℕ) (n : ℕ) → frame_at o ≡ Ok n → (o ≡ Some n) × (n < 2 ^ 36)
some_frame None n e = absurd (cc e)
some_frame (Some m) n e = elim (branch (nat_lt m (2 ^ 36)) (Ok m) _ (Ok n) e) [
  | inl p ↦
      let same : m ≡ n = cc in
      let low : m < 2 ^ 36 = grind (arith, nat_tests, p.0) in
      (ap (λ (k : ℕ). Some k) same, subst (λ (k : ℕ). k < 2 ^ 36) same low)
  | inr p ↦ absurd (let no : ⊥ = cc in no)
]

pub frame_found : (w : List ℕ) (n : ℕ) → guest_frame w ≡ Ok n → Spells w n × (n < 2 ^ 36)
unfolding guest_frame
frame_found w n e = let f = some_frame (spelled_number w) n e in (spelling w n f.0, f.1)

split_address : (words a gfn word : ℕ) → is_address words a ≡ true → a / 4096 ≡ gfn → a % 4096 / 8 ≡ word
    → (a ≡ 4096 * gfn + 8 * word) × (gfn < 2 ^ 36) × (word < words)
split_address words a gfn word is page at =
    let low : a < 2 ^ 48 = grind (arith, nat_tests, is) in
    let even : a % 8 ≡ 0 = grind (arith, nat_tests, is) in
    let known : a % 4096 < 8 * words = grind (arith, nat_tests, is) in
    (omega arith, omega arith, omega arith)

access_found : (words : ℕ) (o : Option ℕ) (x : ℕ × ℕ) → access_at words o ≡ Ok x → (o ≡ Some (4096 * x.0 + 8 * x.1)) × (x.0 < 2 ^ 36) × (x.1 < words)
access_found words None x e = cc
access_found words (Some a) x e = elim (branch (is_address words a) (Ok (a / 4096, a % 4096 / 8)) _ (Ok x) e) [
  | inl p ↦ let same : (a / 4096, a % 4096 / 8) ≡ x = cc in
      let s = split_address words a x.0 x.1 p.0 (ap (λ (z : ℕ × ℕ). z.0) same) (ap (λ (z : ℕ × ℕ). z.1) same) in
      (ap (λ (k : ℕ). Some k) s.0, s.1, s.2)
  | inr p ↦ cc
]

pub address_found : (h : Header) (w : List ℕ) (x : ℕ × ℕ) → address h w ≡ Ok x → Spells w (4096 * x.0 + 8 * x.1) × (x.0 < 2 ^ 36) × (x.1 < h.words)
unfolding address
address_found h w x e = let f = access_found h.words (spelled_number w) x e in (spelling w (4096 * x.0 + 8 * x.1) f.0, f.1, f.2)

-- An error of it is `number`.
abbrev pub IsNumber : {A : Type 0} → Result A Reason → Type 0
IsNumber (Ok x) = Unit {0}
IsNumber (Err r) = r ≡ reason.Number

pub bound : {A B : Type 0} (r : Result A Reason) (f : A → Result B Reason) → IsNumber r → ((x : A) → IsNumber (f x)) → IsNumber (r >>= f)
bound (Ok x) f is more = more x
bound (Err r) f is more = is

pub fits : {A : Type 0} (b : Bool) (x : A) → IsNumber {A = A} (cond b (Ok x) (Err reason.Number))
fits true x = tt
fits false x = refl

option_number : (o : Option ℕ) → IsNumber (or_number o)
option_number None = refl
option_number (Some n) = tt

pub number_number : (w : List ℕ) → IsNumber (number w)
unfolding number
number_number w = option_number (spelled_number w)

frame_number_at : (o : Option ℕ) → IsNumber (frame_at o)
frame_number_at None = refl
frame_number_at (Some n) = fits (nat_lt n (2 ^ 36)) n

pub frame_number : (w : List ℕ) → IsNumber (guest_frame w)
unfolding guest_frame
frame_number w = frame_number_at (spelled_number w)

access_number : (words : ℕ) (o : Option ℕ) → IsNumber (access_at words o)
access_number words None = refl
access_number words (Some a) = fits (is_address words a) _

pub address_number : (h : Header) (w : List ℕ) → IsNumber (address h w)
unfolding address
address_number h w = access_number h.words (spelled_number w)
