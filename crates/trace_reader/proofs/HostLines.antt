-- The lines `hN WORD P`, with a word for each of what a host thread does by its page: what each says is read, and only that, and why it is
-- refused.
use Rattle.std.proofs.Common.{◌≡◌, ◌≤◌, ◌<◌, inl, inr, ℕ, List, [], ◌∷◌, Ok, refl, subst, arith, length}
use Rattle.std.specs.Prelude.{codes}
use Rattle.std.specs.Fmt.{decimal}
use Rattle.core_views.specs.Text.{actor_name}
use Rattle.core_views.specs.Traces.{IsCommandOf}
use Rattle.core_views.specs.declared.actor.Actor.{Actor}
use Rattle.core_views.specs.declared.actor.Actor.TheVariants.{Vcpu, Host, Manager, Worker}
use Rattle.core_views.specs.declared.trace.Command.{Command}
use Rattle.core_views.specs.declared.trace.Command.TheVariants.{ChangeHost, ChangeRun}
use Rattle.core_views.specs.declared.trace.HostChange.{HostChange}
use Rattle.core_views.specs.declared.trace.HostChange.TheVariants.{Allow, Evict, Move, Protect}
use Rattle.core_views.specs.declared.trace.RunChange.TheVariants.{Small}
use Rattle.core_views.specs.declared.trace.Header.{Header}
use Rattle.trace_reader.specs.Operands.{host_thread, number}
use Rattle.trace_reader.specs.HostForms.{by_host, change_form, page_form, small_form}
use Rattle.trace_reader.specs.Forms.{by_command, by_form}
use Rattle.trace_reader.specs.HostGrammar.{IsChangeForm, IsSmallForm, TellsChange, page_words}
use Rattle.trace_reader.specs.Grammar.{AreCommandWords, AreWords, IsActor, IsCommandForm, IsWord, Spells}
use Rattle.trace_reader.proofs.Judged.{IsOne, IsPairSaid, Judged, Tells, judged, named_why, none}
use Rattle.trace_reader.proofs.Operands.{bound, host_found, host_named, host_names, number_found, number_number, number_spelled}
use Rattle.trace_reader.proofs.PlainWords.{actor_word, spelled_word, text_word}
use Rattle.trace_reader.proofs.Results.{then_ok}

-- The actor is a host thread.
abbrev pub IsHost : Actor → Type 0
IsHost (Host i) = Unit {0}
IsHost _ = ⊥

-- With this command's word only a host thread has a form, which has these words after it.
abbrev pub OnlyHosts : List ℕ → List ℕ → List (List ℕ) → (List (List ℕ) → Type 0) → Type 0
OnlyHosts who command rest Fits = (a : Actor) → IsCommandForm (who ∷ command ∷ rest) a → (who ≡ actor_name a) × (IsHost a × Fits rest)

pub host_name : (who : List ℕ) (a : Actor) → who ≡ actor_name a → IsHost a → IsActor a → (i : ℕ) × (i ≤ 3) × (who ≡ 104 ∷ decimal i)
host_name who (Vcpu i) e is le = absurd is
host_name who (Host i) e is le = (i, le, e)
host_name who Manager e is le = absurd is
host_name who (Worker i) e is le = absurd is

-- With this word after the thread's name one word more is a form, and the page that it spells makes the command.
record MakesOfPage (command : List ℕ) (make : ℕ → Command) : Type 0 where
  form : (i : ℕ) (p : List ℕ) → IsCommandForm (page_words i command p) (Host i)
  says : (i page : ℕ) (p : List ℕ) → Spells p page → AreCommandWords (page_words i command p) (Host i) (make page)
  allowed : (h : Header) (i page : ℕ) → i < length h.hosts → IsCommandOf h (Host i) (make page)

-- Why such a line is refused: the thread's name is looked at, then the page.
page_why : (h : Header) (who command : List ℕ) (make : ℕ → Command) (rest : List (List ℕ)) → MakesOfPage command make
    → OnlyHosts who command rest IsOne → Tells h (who ∷ command ∷ rest) (page_form h make who rest)
unfolding page_form
page_why h who command make (x ∷ []) makes only =
    named_why h (who ∷ command ∷ x ∷ []) who 104 3 (length h.hosts) Host (host_thread h who) _
    (record {
      is = λ i le. le;
      known = λ i lt. lt;
      below = λ i lt. lt;
      form = λ i name. rw name (makes.form i x);
      only = λ a form le. let (is, (host, one)) = only a form in host_name who a is host le;
    })
    (host_names h who) (λ n. bound (number x) _ (number_number x) (λ page. tt))
page_why h who command make [] makes only = none h (who ∷ command ∷ []) (λ a form. let (is, (host, (y, e))) = only a form in cc)
page_why h who command make (x ∷ y ∷ more) makes only =
    none h (who ∷ command ∷ x ∷ y ∷ more) (λ a form. let (is, (host, (z, e))) = only a form in cc)

-- What is read is said.
page_found : (h : Header) (who command : List ℕ) (make : ℕ → Command) (rest : List (List ℕ)) (p : Actor × Command) → MakesOfPage command make
    → page_form h make who rest ≡ Ok p → IsPairSaid h (who ∷ command ∷ rest) p
unfolding page_form
page_found h who command make (x ∷ []) p makes e =
    then_ok (host_thread h who) _ p e (λ n is_n e1.
    then_ok (number x) _ p e1 (λ page is_page e2.
    let same : (Host n, make page) ≡ p = cc in
    let (name, lt) = host_found h who n is_n in
    subst (IsPairSaid h (who ∷ command ∷ x ∷ [])) same (makes.allowed h n page lt, rw name (makes.says n page x (number_found x page is_page)))))
page_found h who command make [] p makes e = absurd (let no : ⊥ = cc in no)
page_found h who command make (x ∷ y ∷ more) p makes e = absurd (let no : ⊥ = cc in no)

page_judged : (h : Header) (who command : List ℕ) (make : ℕ → Command) (rest : List (List ℕ)) → MakesOfPage command make
    → OnlyHosts who command rest IsOne → Judged h (who ∷ command ∷ rest) (page_form h make who rest)
page_judged h who command make rest makes only =
    judged h (who ∷ command ∷ rest) (page_form h make who rest) (λ p. page_found h who command make rest p makes)
    (page_why h who command make rest makes only)

-- Lines that change one page.
change_made : (command : List ℕ) (change : HostChange) → TellsChange command change → MakesOfPage command (λ page. ChangeHost page change)
change_made command change tells = record {
  form = λ i p. inl (command, p, change, tells, refl);
  says = λ i page p s. (command, p, tells, refl, s);
  allowed = λ h i page lt. lt;
}

pub change_judged : (h : Header) (who command : List ℕ) (change : HostChange) (rest : List (List ℕ)) → TellsChange command change
    → OnlyHosts who command rest IsOne → Judged h (who ∷ command ∷ rest) (change_form h change who rest)
change_judged h who command change rest tells only =
    page_judged h who command (λ page. ChangeHost page change) rest (change_made command change tells) only

-- Lines that map the pages of a large page by themselves.
small_made : MakesOfPage (codes "small") (λ page. ChangeRun page Small)
small_made = record {
  form = λ i p. inr (inr (p, refl));
  says = λ i page p s. (p, refl, s);
  allowed = λ h i page lt. (lt, tt);
}

pub small_judged : (h : Header) (who : List ℕ) (rest : List (List ℕ)) → OnlyHosts who (codes "small") rest IsOne
    → Judged h (who ∷ codes "small" ∷ rest) (small_form h who rest)
small_judged h who rest only = page_judged h who (codes "small") (λ page. ChangeRun page Small) rest small_made only

-- What their words say is read.
page_spelled : (h : Header) (make : ℕ → Command) (x : List ℕ) (i page : ℕ) → length h.hosts ≤ 4 → i < length h.hosts → Spells x page
    → page_form h make (104 ∷ decimal i) (x ∷ []) ≡ Ok (Host i, make page)
unfolding page_form
page_spelled h make x i page few known s = rw (host_named h i known few, number_spelled x page s) refl

-- The word is the one of its row.
change_row : (h : Header) (who command : List ℕ) (change : HostChange) (rest : List (List ℕ)) → TellsChange command change
    → by_form h (who ∷ command ∷ rest) ≡ change_form h change who rest
unfolding by_form by_command by_host
change_row h who command Move rest tells = rw tells refl
change_row h who command Evict rest tells = rw tells refl
change_row h who command Protect rest tells = rw tells refl
change_row h who command Allow rest tells = rw tells refl

small_row : (h : Header) (who : List ℕ) (rest : List (List ℕ)) → by_form h (who ∷ codes "small" ∷ rest) ≡ small_form h who rest
unfolding by_form by_command by_host
small_row h who rest = refl

pub change_reads : (h : Header) (words : List (List ℕ)) (i page : ℕ) (change : HostChange) → length h.hosts ≤ 4
    → IsCommandOf h (Host i) (ChangeHost page change) → AreCommandWords words (Host i) (ChangeHost page change)
    → by_form h words ≡ Ok (Host i, ChangeHost page change)
change_reads h words i page change few range (command, x, tells, e, s) =
    rw (e, change_row h (104 ∷ decimal i) command change (x ∷ []) tells)
    (page_spelled h (λ n. ChangeHost n change) x i page few range s)

pub small_reads : (h : Header) (words : List (List ℕ)) (i page : ℕ) → length h.hosts ≤ 4
    → IsCommandOf h (Host i) (ChangeRun page Small) → AreCommandWords words (Host i) (ChangeRun page Small)
    → by_form h words ≡ Ok (Host i, ChangeRun page Small)
small_reads h words i page few range (x, e, s) =
    rw (e, small_row h (104 ∷ decimal i) (x ∷ [])) (page_spelled h (λ n. ChangeRun n Small) x i page few range.0 s)

-- They are of its form, and words.
pub change_line_form : (words : List (List ℕ)) (i page : ℕ) (change : HostChange)
    → AreCommandWords words (Host i) (ChangeHost page change) → IsChangeForm i words
change_line_form words i page change (command, x, tells, e, s) = (command, x, change, tells, e)

pub small_line_form : (words : List (List ℕ)) (i page : ℕ) → AreCommandWords words (Host i) (ChangeRun page Small) → IsSmallForm i words
small_line_form words i page (x, e, s) = (x, e)

change_word : (command : List ℕ) (change : HostChange) → TellsChange command change → IsWord command
change_word command Move tells = rw tells (text_word (codes "move") (omega arith) refl)
change_word command Evict tells = rw tells (text_word (codes "evict") (omega arith) refl)
change_word command Protect tells = rw tells (text_word (codes "protect") (omega arith) refl)
change_word command Allow tells = rw tells (text_word (codes "allow") (omega arith) refl)

pub change_plain : (words : List (List ℕ)) (i page : ℕ) (change : HostChange) → i ≤ 3
    → AreCommandWords words (Host i) (ChangeHost page change) → AreWords words
change_plain words i page change le (command, x, tells, e, s) =
    rw e (actor_word (Host i) le, (change_word command change tells, (spelled_word x _ s, tt)))

pub small_plain : (words : List (List ℕ)) (i page : ℕ) → i ≤ 3 → AreCommandWords words (Host i) (ChangeRun page Small) → AreWords words
small_plain words i page le (x, e, s) =
    rw e (actor_word (Host i) le, (text_word (codes "small") (omega arith) refl, (spelled_word x _ s, tt)))
