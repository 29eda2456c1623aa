-- The lines `vN read A`, `vN write A X` and `vN add A X`: what each says is read, and only that, and why it is refused.
use Rattle.std.proofs.Common.{◌≡◌, ◌≤◌, ◌<◌, ◌+◌, ◌*◌, ◌^◌, inl, inr, ℕ, List, [], ◌∷◌, Ok, refl, subst, arith}
use Rattle.std.specs.Prelude.{codes}
use Rattle.std.specs.Fmt.{decimal}
use Rattle.core_views.specs.Text.{actor_name}
use Rattle.core_views.specs.Traces.{IsCommandOf}
use Rattle.core_views.specs.declared.actor.Actor.{Actor}
use Rattle.core_views.specs.declared.actor.Actor.TheVariants.{Vcpu, Host, Manager, Worker}
use Rattle.core_views.specs.declared.trace.Command.{Command}
use Rattle.core_views.specs.declared.trace.Command.TheVariants.{Access}
use Rattle.core_views.specs.declared.trace.Op.{Op}
use Rattle.core_views.specs.declared.trace.Op.TheVariants.{Read, Write, Add}
use Rattle.core_views.specs.declared.trace.Header.{Header}
use Rattle.trace_reader.specs.Operands.{◌>>=◌, Said, address, number, vcpu}
use Rattle.trace_reader.specs.Forms.{read_form, write_form, add_form, by_command, by_form}
use Rattle.trace_reader.specs.Grammar.{AreCommandWords, AreWords, IsAccessForm, IsActor, IsCommandForm, Spells}
use Rattle.trace_reader.proofs.Judged.{AreTwo, IsOne, IsPairSaid, Judged, Tells, judged, named_why, none}
use Rattle.trace_reader.proofs.Operands.{IsNumber, address_found, address_number, address_spelled, bound, number_found, number_number, number_spelled}
use Rattle.trace_reader.proofs.Operands.{vcpu_found, vcpu_named, vcpu_names}
use Rattle.trace_reader.proofs.PlainWords.{actor_word, spelled_word, text_word}
use Rattle.trace_reader.proofs.Results.{then_ok}

-- The actor is a virtual processor.
abbrev pub IsVcpu : Actor → Type 0
IsVcpu (Vcpu i) = Unit {0}
IsVcpu _ = ⊥

-- With this command's word only a virtual processor has a form, which has these words after it.
abbrev Only : List ℕ → List ℕ → List (List ℕ) → (List (List ℕ) → Type 0) → Type 0
Only who command rest Fits = (a : Actor) → IsCommandForm (who ∷ command ∷ rest) a → (who ≡ actor_name a) × (IsVcpu a × Fits rest)

named : (who : List ℕ) (a : Actor) → who ≡ actor_name a → IsVcpu a → IsActor a → (i : ℕ) × (i ≤ 15) × (who ≡ 118 ∷ decimal i)
named who (Vcpu i) e is le = (i, le, e)
named who (Host i) e is le = absurd is
named who Manager e is le = absurd is
named who (Worker i) e is le = absurd is

-- Why an access is refused.
access_why : (h : Header) (words : List (List ℕ)) (who : List ℕ) (f : ℕ → Said)
    → ((i : ℕ) → who ≡ 118 ∷ decimal i → IsCommandForm words (Vcpu i)) → ((a : Actor) → IsCommandForm words a → (who ≡ actor_name a) × IsVcpu a)
    → ((i : ℕ) → IsNumber (f i)) → Tells h words (vcpu h who >>= f)
access_why h words who f form only number =
    named_why h words who 118 15 h.vcpus Vcpu (vcpu h who) f
    (record { is = λ i le. le; known = λ i lt. lt; below = λ i lt. lt; form = form; only = λ a has le. let (is, of) = only a has in named who a is of le })
    (vcpu_names h who) number

read_why : (h : Header) (who : List ℕ) (rest : List (List ℕ)) → Only who (codes "read") rest IsOne → Tells h (who ∷ codes "read" ∷ rest) (read_form h who rest)
unfolding read_form
read_why h who (x ∷ []) only =
    access_why h (who ∷ codes "read" ∷ x ∷ []) who _ (λ i name. inl (x, rw name refl))
    (λ a form. let (is, (vcpu, (y, e))) = only a form in (is, vcpu))
    (λ n. bound (address h x) _ (address_number h x) (λ a. tt))
read_why h who [] only = none h (who ∷ codes "read" ∷ []) (λ a form. let (is, (vcpu, (y, e))) = only a form in cc)
read_why h who (x ∷ y ∷ more) only = none h (who ∷ codes "read" ∷ x ∷ y ∷ more) (λ a form. let (is, (vcpu, (z, e))) = only a form in cc)

write_why : (h : Header) (who : List ℕ) (rest : List (List ℕ)) → Only who (codes "write") rest AreTwo
    → Tells h (who ∷ codes "write" ∷ rest) (write_form h who rest)
unfolding write_form
write_why h who (x ∷ y ∷ []) only =
    access_why h (who ∷ codes "write" ∷ x ∷ y ∷ []) who _ (λ i name. inr (inl (x, y, rw name refl)))
    (λ a form. let (is, (vcpu, (z, u, e))) = only a form in (is, vcpu))
    (λ n. bound (address h x) _ (address_number h x) (λ a. bound (number y) _ (number_number y) (λ v. tt)))
write_why h who [] only = none h (who ∷ codes "write" ∷ []) (λ a form. let (is, (vcpu, (z, u, e))) = only a form in cc)
write_why h who (x ∷ []) only = none h (who ∷ codes "write" ∷ x ∷ []) (λ a form. let (is, (vcpu, (z, u, e))) = only a form in cc)
write_why h who (x ∷ y ∷ v ∷ more) only = none h (who ∷ codes "write" ∷ x ∷ y ∷ v ∷ more) (λ a form. let (is, (vcpu, (z, u, e))) = only a form in cc)

add_why : (h : Header) (who : List ℕ) (rest : List (List ℕ)) → Only who (codes "add") rest AreTwo → Tells h (who ∷ codes "add" ∷ rest) (add_form h who rest)
unfolding add_form
add_why h who (x ∷ y ∷ []) only =
    access_why h (who ∷ codes "add" ∷ x ∷ y ∷ []) who _ (λ i name. inr (inr (x, y, rw name refl)))
    (λ a form. let (is, (vcpu, (z, u, e))) = only a form in (is, vcpu))
    (λ n. bound (address h x) _ (address_number h x) (λ a. bound (number y) _ (number_number y) (λ v. tt)))
add_why h who [] only = none h (who ∷ codes "add" ∷ []) (λ a form. let (is, (vcpu, (z, u, e))) = only a form in cc)
add_why h who (x ∷ []) only = none h (who ∷ codes "add" ∷ x ∷ []) (λ a form. let (is, (vcpu, (z, u, e))) = only a form in cc)
add_why h who (x ∷ y ∷ v ∷ more) only = none h (who ∷ codes "add" ∷ x ∷ y ∷ v ∷ more) (λ a form. let (is, (vcpu, (z, u, e))) = only a form in cc)

-- What is read is said.
access_found : (h : Header) (who x : List ℕ) (words : List (List ℕ)) (p : Actor × Command) (f : ℕ → ℕ × ℕ → Said)
    → (vcpu h who >>= λ n. address h x >>= λ a. f n a) ≡ Ok p
    → ((i gfn word : ℕ) → who ≡ 118 ∷ decimal i → i < h.vcpus → Spells x (4096 * gfn + 8 * word) → gfn < 2 ^ 36 → word < h.words
    → f i (gfn, word) ≡ Ok p → IsPairSaid h words p) → IsPairSaid h words p
access_found h who x words p f e found =
    then_ok (vcpu h who) _ p e (λ i is_i e1.
    then_ok (address h x) _ p e1 (λ a is_a e2.
    let v = vcpu_found h who i is_i in
    let at = address_found h x a is_a in
    found i a.0 a.1 v.0 v.1 at.0 at.1 at.2 e2))

read_found : (h : Header) (who : List ℕ) (rest : List (List ℕ)) (p : Actor × Command) → read_form h who rest ≡ Ok p
    → IsPairSaid h (who ∷ codes "read" ∷ rest) p
unfolding read_form
read_found h who (x ∷ []) p e = access_found h who x (who ∷ codes "read" ∷ x ∷ []) p _ e (λ i gfn word name known s low small e1.
    let same : (Vcpu i, Access gfn word Read) ≡ p = cc in
    subst (IsPairSaid h (who ∷ codes "read" ∷ x ∷ [])) same ((known, low, small, tt), (x, rw name refl, s)))
read_found h who [] p e = absurd (let no : ⊥ = cc in no)
read_found h who (x ∷ y ∷ more) p e = absurd (let no : ⊥ = cc in no)

write_found : (h : Header) (who : List ℕ) (rest : List (List ℕ)) (p : Actor × Command) → write_form h who rest ≡ Ok p
    → IsPairSaid h (who ∷ codes "write" ∷ rest) p
unfolding write_form
write_found h who (x ∷ y ∷ []) p e = access_found h who x (who ∷ codes "write" ∷ x ∷ y ∷ []) p _ e (λ i gfn word name known s low small e1.
    then_ok (number y) _ p e1 (λ k is_k e2.
    let spelled = number_found y k is_k in
    let same : (Vcpu i, Access gfn word (Write k)) ≡ p = cc in
    subst (IsPairSaid h (who ∷ codes "write" ∷ x ∷ y ∷ [])) same ((known, low, small, spelled.0), (x, y, rw name refl, s, spelled))))
write_found h who [] p e = absurd (let no : ⊥ = cc in no)
write_found h who (x ∷ []) p e = absurd (let no : ⊥ = cc in no)
write_found h who (x ∷ y ∷ v ∷ more) p e = absurd (let no : ⊥ = cc in no)

add_found : (h : Header) (who : List ℕ) (rest : List (List ℕ)) (p : Actor × Command) → add_form h who rest ≡ Ok p
    → IsPairSaid h (who ∷ codes "add" ∷ rest) p
unfolding add_form
add_found h who (x ∷ y ∷ []) p e = access_found h who x (who ∷ codes "add" ∷ x ∷ y ∷ []) p _ e (λ i gfn word name known s low small e1.
    then_ok (number y) _ p e1 (λ k is_k e2.
    let spelled = number_found y k is_k in
    let same : (Vcpu i, Access gfn word (Add k)) ≡ p = cc in
    subst (IsPairSaid h (who ∷ codes "add" ∷ x ∷ y ∷ [])) same ((known, low, small, spelled.0), (x, y, rw name refl, s, spelled))))
add_found h who [] p e = absurd (let no : ⊥ = cc in no)
add_found h who (x ∷ []) p e = absurd (let no : ⊥ = cc in no)
add_found h who (x ∷ y ∷ v ∷ more) p e = absurd (let no : ⊥ = cc in no)

pub read_judged : (h : Header) (who : List ℕ) (rest : List (List ℕ)) → Only who (codes "read") rest IsOne
    → Judged h (who ∷ codes "read" ∷ rest) (read_form h who rest)
read_judged h who rest only = judged h (who ∷ codes "read" ∷ rest) (read_form h who rest) (read_found h who rest) (read_why h who rest only)

pub write_judged : (h : Header) (who : List ℕ) (rest : List (List ℕ)) → Only who (codes "write") rest AreTwo
    → Judged h (who ∷ codes "write" ∷ rest) (write_form h who rest)
write_judged h who rest only = judged h (who ∷ codes "write" ∷ rest) (write_form h who rest) (write_found h who rest) (write_why h who rest only)

pub add_judged : (h : Header) (who : List ℕ) (rest : List (List ℕ)) → Only who (codes "add") rest AreTwo
    → Judged h (who ∷ codes "add" ∷ rest) (add_form h who rest)
add_judged h who rest only = judged h (who ∷ codes "add" ∷ rest) (add_form h who rest) (add_found h who rest) (add_why h who rest only)

-- What the words of an access say is read.
pub access_reads : (h : Header) (words : List (List ℕ)) (i gfn word : ℕ) (op : Op) → h.vcpus ≤ 16 → h.words ≤ 8
    → IsCommandOf h (Vcpu i) (Access gfn word op) → AreCommandWords words (Vcpu i) (Access gfn word op)
    → by_form h words ≡ Ok (Vcpu i, Access gfn word op)
unfolding by_form by_command read_form write_form add_form
access_reads h words i gfn word Read vcpus few (known, low, small, fits) (x, e, s) =
    rw (e, vcpu_named h i known vcpus, address_spelled h x gfn word s low small few) refl
access_reads h words i gfn word (Write v) vcpus few (known, low, small, fits) (x, y, e, s, t) =
    rw (e, vcpu_named h i known vcpus, address_spelled h x gfn word s low small few, number_spelled y v t) refl
access_reads h words i gfn word (Add v) vcpus few (known, low, small, fits) (x, y, e, s, t) =
    rw (e, vcpu_named h i known vcpus, address_spelled h x gfn word s low small few, number_spelled y v t) refl

-- They are of its form, and words.
pub access_form : (words : List (List ℕ)) (i gfn word : ℕ) (op : Op) → AreCommandWords words (Vcpu i) (Access gfn word op)
    → IsAccessForm i words
access_form words i gfn word Read (x, is, s) = inl (x, is)
access_form words i gfn word (Write v) (x, y, is, s, t) = inr (inl (x, y, is))
access_form words i gfn word (Add v) (x, y, is, s, t) = inr (inr (x, y, is))

pub access_plain : (words : List (List ℕ)) (i gfn word : ℕ) (op : Op) → i ≤ 15 → AreCommandWords words (Vcpu i) (Access gfn word op)
    → AreWords words
access_plain words i gfn word Read le (x, is, s) =
    rw is (actor_word (Vcpu i) le, (text_word (codes "read") (omega arith) refl, (spelled_word x _ s, tt)))
access_plain words i gfn word (Write v) le (x, y, is, s, t) =
    rw is (actor_word (Vcpu i) le, (text_word (codes "write") (omega arith) refl, (spelled_word x _ s, (spelled_word y _ t, tt))))
access_plain words i gfn word (Add v) le (x, y, is, s, t) =
    rw is (actor_word (Vcpu i) le, (text_word (codes "add") (omega arith) refl, (spelled_word x _ s, (spelled_word y _ t, tt))))
