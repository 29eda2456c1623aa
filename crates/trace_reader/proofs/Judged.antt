-- The words of an actor's line judged: what they say, or why they say nothing.
use Rattle.std.proofs.Common.{◌≡◌, ◌≤◌, ◌<◌, ℕ, List, [], ◌∷◌, Bool, true, false, cond, Result, Ok, Err, refl}
use Rattle.std.specs.Fmt.{decimal}
use Rattle.std.specs.Str.{bytes_eq}
use Rattle.core_views.specs.Traces.{IsCommandOf}
use Rattle.core_views.specs.declared.actor.Actor.{Actor}
use Rattle.core_views.specs.declared.trace.Command.{Command}
use Rattle.core_views.specs.declared.trace.Header.{Header}
use Rattle.trace_reader.specs.declared.reason.Reason.{Reason}
use Rattle.trace_reader.specs.declared.reason.Reason.TheVariants as reason
use Rattle.trace_reader.specs.Operands.{◌>>=◌, Said}
use Rattle.trace_reader.specs.Grammar.{AreCommandWords, IsCommandForm, IsActor, IsDeclared}
use Rattle.trace_reader.proofs.Names.{Names}
use Rattle.trace_reader.proofs.Operands.{IsNumber}
use Rattle.trace_reader.proofs.Results.{differs, word_is}

-- The words say this actor and command.
abbrev pub IsPairSaid : Header → List (List ℕ) → Actor × Command → Type 0
IsPairSaid h words p = IsCommandOf h p.0 p.1 × AreCommandWords words p.0 p.1

-- Why words say nothing.
abbrev pub Why : Header → List (List ℕ) → Reason → Type 0
Why h words reason.Word = (a : Actor) → IsCommandForm words a → IsActor a → ⊥
Why h words reason.Actor = (a : Actor) × IsCommandForm words a × IsActor a × (IsDeclared h a → ⊥)
Why h words reason.Number = (a : Actor) × IsCommandForm words a × IsActor a × IsDeclared h a
Why h words _ = ⊥

-- An error of it tells why the words say nothing.
abbrev pub Tells : Header → List (List ℕ) → Said → Type 0
Tells h words (Ok p) = Unit {0}
Tells h words (Err r) = Why h words r

-- The words are of no form.
abbrev pub Formless : List (List ℕ) → Type 0
Formless words = (a : Actor) → IsCommandForm words a → ⊥

pub none : (h : Header) (words : List (List ℕ)) → Formless words → Tells h words (Err reason.Word)
none h words never = λ a form is. never a form

-- A declared actor's words of a form are refused for a number only.
pub numbers : (h : Header) (words : List (List ℕ)) (a : Actor) (r : Said) → IsCommandForm words a → IsActor a → IsDeclared h a → IsNumber r → Tells h words r
numbers h words a (Ok p) form is known number = tt
numbers h words a (Err r) form is known number = rw number (a, form, is, known)

-- Such words have a letter and an index for the actor's name: each index is an actor's, and no other actor has such words.
pub record AreNamed (h : Header) (words : List (List ℕ)) (who : List ℕ) (letter most count : ℕ) (make : ℕ → Actor) : Type 0 where
  pub is : (i : ℕ) → i ≤ most → IsActor (make i)
  pub known : (i : ℕ) → i < count → IsDeclared h (make i)
  pub below : (i : ℕ) → IsDeclared h (make i) → i < count
  pub form : (i : ℕ) → who ≡ letter ∷ decimal i → IsCommandForm words (make i)
  pub only : (a : Actor) → IsCommandForm words a → IsActor a → (i : ℕ) × (i ≤ most) × (who ≡ letter ∷ decimal i)

-- Why they are refused: the actor's name is looked at, then the numbers.
pub named_why : (h : Header) (words : List (List ℕ)) (who : List ℕ) (letter most count : ℕ) (make : ℕ → Actor) (r : Result ℕ Reason) (f : ℕ → Said)
    → AreNamed h words who letter most count make → Names letter most count who r → ((i : ℕ) → IsNumber (f i)) → Tells h words (r >>= f)
named_why h words who letter most count make (Ok i) f are (le, lt, is) number =
    numbers h words (make i) (f i) (are.form i is) (are.is i le) (are.known i lt) (number i)
named_why h words who letter most count make (Err reason.Word) f are never number = λ a form is. let (i, le, e) = are.only a form is in never i le e
named_why h words who letter most count make (Err reason.Actor) f are (i, le, never, is) number =
    (make i, are.form i is, are.is i le, λ d. never (are.below i d))
named_why h words who letter most count make (Err _) f are never number = absurd never

-- There is one word, or there are two.
abbrev pub IsOne : List (List ℕ) → Type 0
IsOne rest = (x : List ℕ) × (rest ≡ x ∷ [])

abbrev pub AreTwo : List (List ℕ) → Type 0
AreTwo rest = (x y : List ℕ) × (rest ≡ x ∷ y ∷ [])

-- What words say, or why they say nothing.
abbrev pub Judged : Header → List (List ℕ) → Said → Type 0
Judged h words (Ok p) = IsPairSaid h words p
Judged h words (Err r) = Why h words r

pub judged : (h : Header) (words : List (List ℕ)) (x : Said) → ((p : Actor × Command) → x ≡ Ok p → IsPairSaid h words p)
    → Tells h words x → Judged h words x
judged h words (Ok p) found why = found p refl
judged h words (Err r) found why = why

-- A row of a table: what stands there where the word is its word, and else the rows after it.
pub row : {A : Type 0} (P : A → Type 0) (word name : List ℕ) (b : Bool) (x y : A) → bytes_eq word name ≡ b → (word ≡ name → P x) → ((word ≡ name → ⊥) → P y)
    → P (cond b x y)
row P word name true x y e is other = is (word_is word name e)
row P word name false x y e is other = other (differs word name e)
