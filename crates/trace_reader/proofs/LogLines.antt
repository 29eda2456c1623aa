-- The lines `vm logon ID`, `vm logoff ID` and `vm get ID`, with a word for each: what each says is read, and only that, and why it is refused.
use Rattle.std.proofs.Common.{◌≡◌, inl, inr, ℕ, List, [], ◌∷◌, Bool, true, false, Ok, refl, subst, arith}
use Rattle.std.specs.Prelude.{codes}
use Rattle.std.specs.Str.{bytes_eq}
use Rattle.core_views.specs.Text.{actor_name}
use Rattle.core_views.specs.Traces.{IsCommandOf}
use Rattle.core_views.specs.declared.actor.Actor.{Actor}
use Rattle.core_views.specs.declared.actor.Actor.TheVariants.{Manager}
use Rattle.core_views.specs.declared.trace.Command.{Command}
use Rattle.core_views.specs.declared.trace.Command.TheVariants.{GetLog, SetLog}
use Rattle.core_views.specs.declared.trace.Header.{Header}
use Rattle.trace_reader.specs.Operands.{◌>>=◌, Said, number}
use Rattle.trace_reader.specs.Forms.{by_command, by_form, get_form, id_form, log_form}
use Rattle.trace_reader.specs.Grammar.{AreCommandWords, AreWords, IsCommandForm, IsGetForm, IsLogForm, Spells, get_words, log_words}
use Rattle.trace_reader.proofs.Judged.{IsOne, IsPairSaid, Judged, Tells, judged, none, numbers, row}
use Rattle.trace_reader.proofs.Operands.{bound, number_found, number_number, number_spelled}
use Rattle.trace_reader.proofs.PlainWords.{spelled_word, text_word}
use Rattle.trace_reader.proofs.Results.{branch, then_ok, word_is}
use Rattle.trace_reader.proofs.SlotLines.{IsManager, named_vm}

-- With this word after `vm` one word more is a form, and the number that it spells makes the command.
record MakesOfId (command : List ℕ) (make : ℕ → Command) : Type 0 where
  form : (i : List ℕ) → IsCommandForm (codes "vm" ∷ command ∷ i ∷ []) Manager
  says : (i : List ℕ) (id : ℕ) → Spells i id → AreCommandWords (codes "vm" ∷ command ∷ i ∷ []) Manager (make id)
  allowed : (h : Header) (id : ℕ) → IsCommandOf h Manager (make id)

-- With this command's word only the manager has a form, which has one word after it.
abbrev Only : List ℕ → List ℕ → List (List ℕ) → Type 0
Only who command rest = (a : Actor) → IsCommandForm (who ∷ command ∷ rest) a → (who ≡ actor_name a) × (IsManager a × IsOne rest)

-- what such a line says
abbrev making : (ℕ → Command) → List ℕ → List (List ℕ) → Said
making make who rest = id_form who rest >>= λ id. Ok (Manager, make id)

-- Why a line is refused: the manager's name is looked at, then the number.
id_why : (h : Header) (who command : List ℕ) (make : ℕ → Command) (rest : List (List ℕ)) → MakesOfId command make → Only who command rest
    → Tells h (who ∷ command ∷ rest) (making make who rest)
unfolding id_form
id_why h who command make (x ∷ []) makes only =
    row (λ r. Tells h (who ∷ command ∷ x ∷ []) (r >>= λ id. Ok (Manager, make id))) who (codes "vm") (bytes_eq who (codes "vm")) _ _ refl
    (λ is. numbers h (who ∷ command ∷ x ∷ []) Manager _ (rw is (makes.form x)) tt tt (bound (number x) _ (number_number x) (λ id. tt)))
    (λ other. none h (who ∷ command ∷ x ∷ []) (λ a form. let (is, (manager, one)) = only a form in other (named_vm who a is manager)))
id_why h who command make [] makes only = none h (who ∷ command ∷ []) (λ a form. let (is, (manager, (y, e))) = only a form in cc)
id_why h who command make (x ∷ y ∷ more) makes only =
    none h (who ∷ command ∷ x ∷ y ∷ more) (λ a form. let (is, (manager, (z, e))) = only a form in cc)

-- What is read is said.
id_found : (who : List ℕ) (rest : List (List ℕ)) (id : ℕ) → id_form who rest ≡ Ok id
    → (i : List ℕ) × (who ≡ codes "vm") × (rest ≡ i ∷ []) × Spells i id
unfolding id_form
id_found who (x ∷ []) id e = elim (branch (bytes_eq who (codes "vm")) _ _ (Ok id) e) [
  | inl q ↦ (x, word_is who (codes "vm") q.0, refl, number_found x id q.1)
  | inr q ↦ absurd (let no : ⊥ = cc in no)
]
id_found who [] id e = absurd (let no : ⊥ = cc in no)
id_found who (x ∷ y ∷ more) id e = absurd (let no : ⊥ = cc in no)

made_found : (h : Header) (who command : List ℕ) (make : ℕ → Command) (rest : List (List ℕ)) (p : Actor × Command) → MakesOfId command make
    → making make who rest ≡ Ok p → IsPairSaid h (who ∷ command ∷ rest) p
made_found h who command make rest p makes e =
    then_ok (id_form who rest) _ p e (λ id is_id e1.
    let (i, name, is, s) = id_found who rest id is_id in
    let same : (Manager, make id) ≡ p = cc in
    subst (IsPairSaid h (who ∷ command ∷ rest)) same (makes.allowed h id, rw (name, is) (makes.says i id s)))

id_judged : (h : Header) (who command : List ℕ) (make : ℕ → Command) (rest : List (List ℕ)) → MakesOfId command make → Only who command rest
    → Judged h (who ∷ command ∷ rest) (making make who rest)
id_judged h who command make rest makes only =
    judged h (who ∷ command ∷ rest) (making make who rest) (λ p. made_found h who command make rest p makes)
    (id_why h who command make rest makes only)

-- Lines that turn a dirty log on, or off.
on_made : MakesOfId (codes "logon") (λ id. SetLog id true)
on_made = record { form = λ i. inr (inl (i, true, refl)); says = λ i id s. (i, refl, s); allowed = λ h id. tt }

off_made : MakesOfId (codes "logoff") (λ id. SetLog id false)
off_made = record { form = λ i. inr (inl (i, false, refl)); says = λ i id s. (i, refl, s); allowed = λ h id. tt }

pub log_on_judged : (h : Header) (who : List ℕ) (rest : List (List ℕ)) → Only who (codes "logon") rest
    → Judged h (who ∷ codes "logon" ∷ rest) (log_form true who rest)
unfolding log_form
log_on_judged h who rest only = id_judged h who (codes "logon") (λ id. SetLog id true) rest on_made only

pub log_off_judged : (h : Header) (who : List ℕ) (rest : List (List ℕ)) → Only who (codes "logoff") rest
    → Judged h (who ∷ codes "logoff" ∷ rest) (log_form false who rest)
unfolding log_form
log_off_judged h who rest only = id_judged h who (codes "logoff") (λ id. SetLog id false) rest off_made only

-- Lines that get one.
get_made : MakesOfId (codes "get") GetLog
get_made = record { form = λ i. inr (inr (inl (i, refl))); says = λ i id s. (i, refl, s); allowed = λ h id. tt }

pub get_judged : (h : Header) (who : List ℕ) (rest : List (List ℕ)) → Only who (codes "get") rest
    → Judged h (who ∷ codes "get" ∷ rest) (get_form who rest)
unfolding get_form
get_judged h who rest only = id_judged h who (codes "get") GetLog rest get_made only

-- What their words say is read.
id_spelled : (i : List ℕ) (id : ℕ) → Spells i id → id_form (codes "vm") (i ∷ []) ≡ Ok id
unfolding id_form
id_spelled i id s = rw (number_spelled i id s) refl

-- The word is the one of its row.
log_row : (h : Header) (on : Bool) (i : List ℕ) → by_form h (log_words on i) ≡ log_form on (codes "vm") (i ∷ [])
unfolding by_form by_command
log_row h true i = refl
log_row h false i = refl

get_row : (h : Header) (i : List ℕ) → by_form h (get_words i) ≡ get_form (codes "vm") (i ∷ [])
unfolding by_form by_command
get_row h i = refl

pub log_reads : (h : Header) (words : List (List ℕ)) (id : ℕ) (on : Bool) → AreCommandWords words Manager (SetLog id on)
    → by_form h words ≡ Ok (Manager, SetLog id on)
unfolding log_form
log_reads h words id on (i, e, s) = rw (e, log_row h on i, id_spelled i id s) refl

pub get_reads : (h : Header) (words : List (List ℕ)) (id : ℕ) → AreCommandWords words Manager (GetLog id) → by_form h words ≡ Ok (Manager, GetLog id)
unfolding get_form
get_reads h words id (i, e, s) = rw (e, get_row h i, id_spelled i id s) refl

-- They are of its form, and words.
pub log_line_form : (words : List (List ℕ)) (id : ℕ) (on : Bool) → AreCommandWords words Manager (SetLog id on) → IsLogForm words
log_line_form words id on (i, e, s) = (i, on, e)

pub get_line_form : (words : List (List ℕ)) (id : ℕ) → AreCommandWords words Manager (GetLog id) → IsGetForm words
get_line_form words id (i, e, s) = (i, e)

all_plain : (i : List ℕ) (id : ℕ) (on : Bool) → Spells i id → AreWords (log_words on i)
all_plain i id true s = (text_word (codes "vm") (omega arith) refl, (text_word (codes "logon") (omega arith) refl, (spelled_word i id s, tt)))
all_plain i id false s = (text_word (codes "vm") (omega arith) refl, (text_word (codes "logoff") (omega arith) refl, (spelled_word i id s, tt)))

pub log_plain : (words : List (List ℕ)) (id : ℕ) (on : Bool) → AreCommandWords words Manager (SetLog id on) → AreWords words
log_plain words id on (i, e, s) = rw e (all_plain i id on s)

pub get_plain : (words : List (List ℕ)) (id : ℕ) → AreCommandWords words Manager (GetLog id) → AreWords words
get_plain words id (i, e, s) =
    rw e (text_word (codes "vm") (omega arith) refl, (text_word (codes "get") (omega arith) refl, (spelled_word i id s, tt)))
