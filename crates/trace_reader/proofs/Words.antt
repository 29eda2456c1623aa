-- What the words of a line say is read, and only that; and why they say nothing.
use Rattle.std.proofs.Common.{◌≡◌, inl, inr, ℕ, List, [], ◌∷◌, Bool, true, false, cond, Result, Ok, Err, refl, subst, ◌∙◌}
use Rattle.std.specs.Prelude.{codes}
use Rattle.std.specs.Str.{bytes_eq}
use Rattle.core_views.specs.Text.{actor_name}
use Rattle.core_views.specs.Traces.{IsCommandOf, IsHeader}
use Rattle.core_views.specs.declared.actor.Actor.{Actor}
use Rattle.core_views.specs.declared.actor.Actor.TheVariants.{Vcpu, Host, Manager, Worker}
use Rattle.core_views.specs.declared.trace.Command.{Command}
use Rattle.core_views.specs.declared.trace.Header.{Header}
use Rattle.core_views.specs.declared.trace.Item.{Item}
use Rattle.trace_reader.specs.declared.reason.Reason.{Reason}
use Rattle.trace_reader.specs.declared.reason.Reason.TheVariants as reason
use Rattle.trace_reader.specs.declared.saying.Saying.{Saying}
use Rattle.trace_reader.specs.declared.saying.Saying.TheVariants.{Does, Go, Schedules}
use Rattle.trace_reader.specs.Operands.{◌>>=◌, Said}
use Rattle.trace_reader.specs.Forms.{by_form}
use Rattle.trace_reader.specs.Items.{item_said}
use Rattle.trace_reader.specs.Sayings.{IsSayingOf, by_first, command_said, go_said, schedule_said}
use Rattle.trace_reader.specs.Grammar.{AreCommandWords, IsActor, IsCommandForm, IsDeclared}
use Rattle.trace_reader.specs.LineGrammar.{AreWordsOf, HasForm, IsUntilForm, item_words}
use Rattle.trace_reader.proofs.Items.{ItemJudged, item_judged, item_read}
use Rattle.trace_reader.proofs.Commands.{by_form_judged, command_first, command_form, reads}
use Rattle.trace_reader.proofs.Judged.{Judged, Why}
use Rattle.trace_reader.proofs.Results.{differs, heads_differ, other_word, word_is}

-- No actor is named `go` or `>`.
not_go : (a : Actor) → actor_name a ≡ codes "go" → ⊥
not_go (Vcpu i) e = heads_differ 118 103 _ _ refl e
not_go (Host i) e = heads_differ 104 103 _ _ refl e
not_go Manager e = heads_differ 118 103 _ _ refl e
not_go (Worker i) e = heads_differ 119 103 _ _ refl e

pub not_mark : (a : Actor) → actor_name a ≡ codes ">" → ⊥
not_mark (Vcpu i) e = heads_differ 118 62 _ _ refl e
not_mark (Host i) e = heads_differ 104 62 _ _ refl e
not_mark Manager e = heads_differ 118 62 _ _ refl e
not_mark (Worker i) e = heads_differ 119 62 _ _ refl e

same_first : (a b : List ℕ) (xs ys : List (List ℕ)) → a ∷ xs ≡ b ∷ ys → a ≡ b
same_first a b xs ys e = cc

mark_not_go : codes ">" ≡ codes "go" → ⊥
mark_not_go e = heads_differ 62 103 _ _ refl e

-- A line of a form begins with its actor's name, or with `>`.
go_no_form : (first : List ℕ) (rest : List (List ℕ)) (a : Actor) → first ≡ codes "go" → HasForm (first ∷ rest) a → ⊥
go_no_form first rest a go (inl form) =
    let (more, e) = command_first (first ∷ rest) a form in not_go a (let f : first ≡ actor_name a = same_first first (actor_name a) rest more e in cc)
go_no_form first rest a go (inr (last, e, form)) = mark_not_go (let f : first ≡ codes ">" = same_first first (codes ">") rest _ e in cc)

pub no_go_form : (a : Actor) → HasForm (codes "go" ∷ []) a → ⊥
no_go_form a form = go_no_form (codes "go") [] a refl form

mark_no_command : (first : List ℕ) (rest : List (List ℕ)) (a : Actor) → first ≡ codes ">" → IsCommandForm (first ∷ rest) a → ⊥
mark_no_command first rest a mark form =
    let (more, e) = command_first (first ∷ rest) a form in
    not_mark a (let f : first ≡ actor_name a = same_first first (actor_name a) rest more e in cc)

-- What the words of a form say is read.
by_the_command : (h : Header) (go_seen : Bool) (first : List ℕ) (rest : List (List ℕ)) → (first ≡ codes "go" → ⊥) → (first ≡ codes ">" → ⊥)
    → by_first h go_seen (first ∷ rest) ≡ command_said h (first ∷ rest)
unfolding by_first
by_the_command h go_seen first rest go mark = rw (other_word first (codes "go") go, other_word first (codes ">") mark) refl

command_read : (h : Header) (go_seen : Bool) (words : List (List ℕ)) (a : Actor) (c : Command) → IsHeader h → IsCommandOf h a c
    → AreCommandWords words a c → by_first h go_seen words ≡ Ok (Does a c)
unfolding command_said
command_read h go_seen words a c header range are =
    let (rest, e) = command_first words a (command_form h words a c range are) in
    let said : by_form h words ≡ Ok (a, c) = reads h words a c header range are in
    let first = by_the_command h go_seen (actor_name a) rest (not_go a) (not_mark a) in
    rw e (first ∙ rw (← e, said) refl)

pub words_read : (h : Header) (go_seen : Bool) (words : List (List ℕ)) (s : Saying) → IsHeader h → IsSayingOf h s → AreWordsOf go_seen words s
    → by_first h go_seen words ≡ Ok s
unfolding by_first schedule_said
words_read h go_seen words (Does a c) header range are = command_read h go_seen words a c header range are
words_read h go_seen words Go header range (first, e) = rw (e, first) refl
words_read h go_seen words (Schedules item) header range (last, e, says) = rw (e, item_read h (actor_name item.actor) last item header range refl says) refl

-- What the words say, or why they say nothing.
abbrev pub WhyNot : Header → Bool → List (List ℕ) → Reason → Type 0
WhyNot h go_seen words reason.Word = ((a : Actor) → HasForm words a → IsActor a → ⊥) × (go_seen ≡ false → words ≡ codes "go" ∷ [] → ⊥)
WhyNot h go_seen words reason.Actor = (a : Actor) × HasForm words a × IsActor a × (IsDeclared h a → ⊥)
WhyNot h go_seen words reason.Number = (a : Actor) × HasForm words a × IsActor a × IsDeclared h a
WhyNot h go_seen words _ = ⊥

abbrev pub WordsJudged : Header → Bool → List (List ℕ) → Result Saying Reason → Type 0
WordsJudged h go_seen words (Ok s) = IsSayingOf h s × AreWordsOf go_seen words s
WordsJudged h go_seen words (Err r) = WhyNot h go_seen words r

one_word : (first : List ℕ) (rest : List (List ℕ)) → first ∷ rest ≡ codes "go" ∷ [] → (first ≡ codes "go") × (rest ≡ [])
one_word first rest e = (cc, cc)

go_judged : (h : Header) (go_seen : Bool) (first : List ℕ) (rest : List (List ℕ)) (was : Bool) → first ≡ codes "go" → go_seen ≡ was
    → WordsJudged h go_seen (first ∷ rest) (go_said was rest)
go_judged h go_seen first [] true go was = ((λ a form is. go_no_form first [] a go form), λ never e. cc)
go_judged h go_seen first [] false go was = (tt, (was, rw go refl))
go_judged h go_seen first (w ∷ ws) was go e = ((λ a form is. go_no_form first (w ∷ ws) a go form), λ never is. let n = (one_word first (w ∷ ws) is).1 in cc)

-- The words behind `>`.
not_item : (h : Header) (go_seen : Bool) (first : List ℕ) (rest : List (List ℕ)) → first ≡ codes ">"
    → ((a : Actor) (last : List ℕ) → first ∷ rest ≡ item_words a last → ⊥) → WordsJudged h go_seen (first ∷ rest) (Err reason.Word)
not_item h go_seen first rest mark never = (
  (λ a form is. elim form [ inl f ↦ mark_no_command first rest a mark f | inr f ↦ never a f.0 f.1 ]),
  λ was is. let go = (one_word first rest is).0 in mark_not_go cc,
)

item_parts : (first who last : List ℕ) (a : Actor) (other : List ℕ) → first ∷ who ∷ last ∷ [] ≡ item_words a other → (who ≡ actor_name a) × (other ≡ last)
item_parts first who last a other e = (cc, cc)

item_why : (h : Header) (go_seen : Bool) (first who last : List ℕ) (r : Result Item Reason) → first ≡ codes ">" → ItemJudged h who last r
    → WordsJudged h go_seen (first ∷ who ∷ last ∷ []) (r >>= λ item. Ok (Schedules item))
item_why h go_seen first who last (Ok item) mark (range, name, says) = (range, (last, rw (mark, name) refl, says))
item_why h go_seen first who last (Err reason.Word) mark never = (
  (λ a form is. elim form [
    | inl f ↦ mark_no_command first (who ∷ last ∷ []) a mark f
    | inr f ↦ let same = item_parts first who last a f.0 f.1 in never a is same.0 (subst IsUntilForm same.1 f.2)
  ]),
  λ was is. let go = (one_word first (who ∷ last ∷ []) is).0 in mark_not_go cc,
)
item_why h go_seen first who last (Err reason.Actor) mark (a, is, name, form, never) = (a, inr (last, rw (mark, name) refl, form), is, never)
item_why h go_seen first who last (Err reason.Number) mark (a, is, name, form, known) = (a, inr (last, rw (mark, name) refl, form), is, known)
item_why h go_seen first who last (Err _) mark never = absurd never

schedule_judged : (h : Header) (go_seen : Bool) (first : List ℕ) (rest : List (List ℕ)) → first ≡ codes ">"
    → WordsJudged h go_seen (first ∷ rest) (schedule_said h rest)
unfolding schedule_said
schedule_judged h go_seen first [] mark = not_item h go_seen first [] mark (λ a last e. cc)
schedule_judged h go_seen first (w ∷ []) mark = not_item h go_seen first (w ∷ []) mark (λ a last e. cc)
schedule_judged h go_seen first (who ∷ last ∷ []) mark = item_why h go_seen first who last (item_said h who last) mark (item_judged h who last)
schedule_judged h go_seen first (w ∷ x ∷ y ∷ more) mark = not_item h go_seen first (w ∷ x ∷ y ∷ more) mark (λ a last e. cc)

-- An actor's words.
lifted : (h : Header) (go_seen : Bool) (first : List ℕ) (rest : List (List ℕ)) (r : Reason) → (first ≡ codes "go" → ⊥) → (first ≡ codes ">" → ⊥)
    → Why h (first ∷ rest) r → WhyNot h go_seen (first ∷ rest) r
lifted h go_seen first rest reason.Word go mark never = (
  (λ a form is. elim form [ inl f ↦ never a f is | inr f ↦ mark (same_first first (codes ">") rest _ f.1) ]),
  λ was is. go (one_word first rest is).0,
)
lifted h go_seen first rest reason.Actor go mark (a, form, is, never) = (a, inl form, is, never)
lifted h go_seen first rest reason.Number go mark (a, form, is, known) = (a, inl form, is, known)
lifted h go_seen first rest _ go mark never = absurd never

command_why : (h : Header) (go_seen : Bool) (first : List ℕ) (rest : List (List ℕ)) (x : Said) → (first ≡ codes "go" → ⊥) → (first ≡ codes ">" → ⊥)
    → Judged h (first ∷ rest) x → WordsJudged h go_seen (first ∷ rest) (x >>= λ p. Ok (Does p.0 p.1))
command_why h go_seen first rest (Ok p) go mark is = is
command_why h go_seen first rest (Err r) go mark is = lifted h go_seen first rest r go mark is

command_judged : (h : Header) (go_seen : Bool) (first : List ℕ) (rest : List (List ℕ)) → (first ≡ codes "go" → ⊥) → (first ≡ codes ">" → ⊥)
    → WordsJudged h go_seen (first ∷ rest) (command_said h (first ∷ rest))
unfolding command_said
command_judged h go_seen first rest go mark = command_why h go_seen first rest (by_form h (first ∷ rest)) go mark (by_form_judged h (first ∷ rest))

by_word : (h : Header) (go_seen : Bool) (first : List ℕ) (rest : List (List ℕ)) (b c : Bool) → bytes_eq first (codes "go") ≡ b → bytes_eq first (codes ">") ≡ c
    → WordsJudged h go_seen (first ∷ rest) (cond b (go_said go_seen rest) (cond c (schedule_said h rest) (command_said h (first ∷ rest))))
by_word h go_seen first rest true c go mark = go_judged h go_seen first rest go_seen (word_is first (codes "go") go) refl
by_word h go_seen first rest false true go mark = schedule_judged h go_seen first rest (word_is first (codes ">") mark)
by_word h go_seen first rest false false go mark = command_judged h go_seen first rest (differs first (codes "go") go) (differs first (codes ">") mark)

pub words_judged : (h : Header) (go_seen : Bool) (words : List (List ℕ)) → WordsJudged h go_seen words (by_first h go_seen words)
unfolding by_first
words_judged h go_seen [] = (
  (λ a form is. elim form [ inl f ↦ let (rest, e) = command_first [] a f in cc | inr f ↦ let e = f.1 in cc ]),
  λ was is. cc,
)
words_judged h go_seen (first ∷ rest) = by_word h go_seen first rest (bytes_eq first (codes "go")) (bytes_eq first (codes ">")) refl refl
