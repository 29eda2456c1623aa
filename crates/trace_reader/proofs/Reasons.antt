-- A line that says nothing is refused, and for which reason.
use Rattle.std.proofs.Common.{◌≡◌, inl, inr, ℕ, List, [], ◌∷◌, Bool, true, false, cond, Result, Ok, Err, refl, sym, ap, subst, ◌∙◌, arith, ◌==◌, ◌||◌, not}
use Rattle.std.specs.Prelude.{codes}
use Rattle.std.specs.List.{list_all, list_any, onto_first}
use Rattle.std.proofs.lemmas.Bool.Decides.{nat_tests}
use Rattle.std.proofs.lemmas.List.Splits.{join_with_byte-slice_split}
use Rattle.core_views.specs.Text.{actor_name}
use Rattle.core_views.specs.Traces.{IsHeader}
use Rattle.core_views.specs.declared.actor.Actor.{Actor}
use Rattle.core_views.specs.declared.trace.Header.{Header}
use Rattle.trace_reader.specs.declared.reason.Reason.{Reason}
use Rattle.trace_reader.specs.declared.reason.Reason.TheVariants as reason
use Rattle.trace_reader.specs.declared.saying.Saying.{Saying}
use Rattle.trace_reader.specs.declared.saying.Saying.TheVariants.{Does, Go, Schedules}
use Rattle.trace_reader.specs.Forms.{is_empty, words_of}
use Rattle.trace_reader.specs.Sayings.{by_first, by_words, said}
use Rattle.trace_reader.specs.GrammarRefusals.{SaysNothingFor, IsLineReason}
use Rattle.trace_reader.specs.Grammar.{AreWords, IsActor, IsCommandForm, IsDeclared}
use Rattle.trace_reader.specs.LineGrammar.{HasForm, IsFirstGo, IsItemForm, IsOfForm, SaysLine, item_words}
use Rattle.trace_reader.proofs.Bytes.{say_words, cut_words, says, only_said}
use Rattle.trace_reader.proofs.Commands.{command_first, command_form, commanding}
use Rattle.trace_reader.proofs.Items.{has_declared, until_form}
use Rattle.trace_reader.proofs.Names.{one_name}
use Rattle.trace_reader.proofs.PlainWords.{none_empty}
use Rattle.trace_reader.proofs.Words.{WhyNot, WordsJudged, no_go_form, not_mark, words_judged}

-- What stands between spaces has no space.
abbrev ArePlain : List (List ℕ) → Type 0
ArePlain [] = Unit {0}
ArePlain (w ∷ ws) = (list_all (λ b. not (b == 32)) w ≡ true) × ArePlain ws

cut_plain : (b : ℕ) (c : Bool) (parts : List (List ℕ)) → (b == 32) ≡ c → ArePlain parts → ArePlain (cond c ([] ∷ parts) (onto_first b parts))
cut_plain b true parts e are = (refl, are)
cut_plain b false [] e are = (rw e refl, tt)
cut_plain b false (p ∷ ps) e are = (rw (e, are.0) refl, are.1)

words_plain : (bytes : List ℕ) → ArePlain (words_of bytes)
words_plain [] = (refl, tt)
words_plain (b ∷ bs) = cut_plain b (b == 32) (words_of bs) refl (words_plain bs)

either_empty : (a b : Bool) → (a || b) ≡ false → (a ≡ false) × (b ≡ false)
either_empty true b e = absurd (let no : ⊥ = cc in no)
either_empty false b e = (refl, e)

words_filled : (ws : List (List ℕ)) → ArePlain ws → list_any is_empty ws ≡ false → AreWords ws
words_filled [] are e = tt
words_filled (w ∷ ws) are e =
    let t = either_empty (is_empty w) (list_any is_empty ws) e in
    (record { filled = grind (arith, nat_tests, t.0); plain = are.0 }, words_filled ws are.1 t.1)

-- The words of a line of a form.
of_form : (bytes : List ℕ) (a : Actor) → IsOfForm bytes a → HasForm (words_of bytes) a × IsActor a × (list_any is_empty (words_of bytes) ≡ false)
of_form bytes a (is, (words, e, are, form)) = let c = cut_words bytes words a e are form in (rw c form, is, rw c (none_empty words are))

-- `go` is one word.
go_words : (bytes : List ℕ) → bytes ≡ codes "go" → words_of bytes ≡ codes "go" ∷ []
go_words bytes e = rw e refl

no_form : (h : Header) (go_seen : Bool) (bytes : List ℕ) → list_any is_empty (words_of bytes) ≡ true → SaysNothingFor h go_seen bytes reason.Word
no_form h go_seen bytes e = (
  (λ a form. let t = (of_form bytes a form).2 in cc),
  λ go. let t : list_any is_empty (words_of bytes) ≡ false = rw (go_words bytes go.1) refl in cc,
)

lifted : (h : Header) (go_seen : Bool) (bytes : List ℕ) (r : Reason) → IsHeader h → said h go_seen bytes ≡ Err r → AreWords (words_of bytes)
    → WhyNot h go_seen (words_of bytes) r → SaysNothingFor h go_seen bytes r
lifted h go_seen bytes reason.Word header e are never = (
  (λ a form. let f = of_form bytes a form in never.0 a f.0 f.1),
  λ go. never.1 go.0 (go_words bytes go.1),
)
lifted h go_seen bytes reason.Actor header e are (a, form, is, never) = (a, (is, (words_of bytes, sym (join_with_byte-slice_split 32 bytes), are, form)), never)
lifted h go_seen bytes reason.Number header e are (a, form, is, known) =
    (a, (is, (words_of bytes, sym (join_with_byte-slice_split 32 bytes), are, form)), known, λ s line. let t = says h go_seen bytes s header line in cc)
lifted h go_seen bytes _ header e are never = absurd never

told : (h : Header) (go_seen : Bool) (words : List (List ℕ)) (x : Result Saying Reason) (r : Reason) → x ≡ Err r → WordsJudged h go_seen words x
    → WhyNot h go_seen words r
told h go_seen words x r e is = subst (WordsJudged h go_seen words) e is

by_test : (h : Header) (go_seen : Bool) (bytes : List ℕ) (b : Bool) (r : Reason) → IsHeader h → list_any is_empty (words_of bytes) ≡ b
    → said h go_seen bytes ≡ Err r → cond b (Err reason.Word) (by_first h go_seen (words_of bytes)) ≡ Err r → SaysNothingFor h go_seen bytes r
by_test h go_seen bytes true r header e line is = let same : reason.Word ≡ r = cc in subst (SaysNothingFor h go_seen bytes) same (no_form h go_seen bytes e)
by_test h go_seen bytes false r header e line is =
    lifted h go_seen bytes r header line (words_filled (words_of bytes) (words_plain bytes) e)
    (told h go_seen (words_of bytes) (by_first h go_seen (words_of bytes)) r is (words_judged h go_seen (words_of bytes)))

-- A line is refused only for the reason for which it says nothing.
pub no_other : (h : Header) (go_seen : Bool) (bytes : List ℕ) (r : Reason) → IsHeader h → said h go_seen bytes ≡ Err r → SaysNothingFor h go_seen bytes r
unfolding said by_words
no_other h go_seen bytes r header e = by_test h go_seen bytes (list_any is_empty (words_of bytes)) r header refl e e

-- A line is of a form of one actor alone.
same_head : (a b : Actor) (more rest : List (List ℕ)) → actor_name a ∷ more ≡ actor_name b ∷ rest → actor_name a ≡ actor_name b
same_head a b more rest e = cc

same_second : (a b : Actor) (x y : List ℕ) → item_words a x ≡ item_words b y → actor_name a ≡ actor_name b
same_second a b x y e = cc

apart : (words : List (List ℕ)) (a b : Actor) → IsCommandForm words a → IsItemForm words b → ⊥
apart words a b form (last, e, f) =
    let (rest, is) = command_first words a form in not_mark a (let same : actor_name a ∷ rest ≡ item_words b last = sym is ∙ e in cc)

same_actor : (words : List (List ℕ)) (a b : Actor) → HasForm words a → HasForm words b → IsActor a → IsActor b → a ≡ b
same_actor words a b (inl f) (inl g) le lt =
    let (more, e) = command_first words a f in
    let (rest, k) = command_first words b g in
    one_name a b le lt (same_head a b more rest (sym e ∙ k))
same_actor words a b (inl f) (inr g) le lt = absurd (apart words a b f g)
same_actor words a b (inr f) (inl g) le lt = absurd (apart words b a g f)
same_actor words a b (inr (x, e, f)) (inr (y, k, g)) le lt = one_name a b le lt (same_second a b x y (sym e ∙ k))

one_actor : (bytes : List ℕ) (a b : Actor) → IsOfForm bytes a → IsOfForm bytes b → a ≡ b
one_actor bytes a b f g =
    let x = of_form bytes a f in
    let y = of_form bytes b g in
    same_actor (words_of bytes) a b x.0 y.0 x.1 y.1

-- A line says nothing for one reason alone, and then it says nothing.
agree : (h : Header) (go_seen : Bool) (bytes : List ℕ) (r k : Reason) → SaysNothingFor h go_seen bytes r → SaysNothingFor h go_seen bytes k → r ≡ k
agree h go_seen bytes reason.Word reason.Word p q = refl
agree h go_seen bytes reason.Word reason.Actor p (b, form, never) = absurd (p.0 b form)
agree h go_seen bytes reason.Word reason.Number p (b, form, known, never) = absurd (p.0 b form)
agree h go_seen bytes reason.Word _ p q = absurd q
agree h go_seen bytes reason.Actor reason.Word (a, form, never) q = absurd (q.0 a form)
agree h go_seen bytes reason.Actor reason.Actor p q = refl
agree h go_seen bytes reason.Actor reason.Number (a, form, never) (b, other, known, none) =
    absurd (never (subst (IsDeclared h) (one_actor bytes b a other form) known))
agree h go_seen bytes reason.Actor _ p q = absurd q
agree h go_seen bytes reason.Number reason.Word (a, form, known, none) q = absurd (q.0 a form)
agree h go_seen bytes reason.Number reason.Actor (a, form, known, none) (b, other, never) =
    absurd (never (subst (IsDeclared h) (one_actor bytes a b form other) known))
agree h go_seen bytes reason.Number reason.Number p q = refl
agree h go_seen bytes reason.Number _ p q = absurd q
agree h go_seen bytes _ k p q = absurd p

-- What a line says is `go`, or names an actor that is declared.
abbrev IsKnown : Header → Bool → List ℕ → Saying → Type 0
IsKnown h go_seen bytes Go = IsFirstGo go_seen bytes
IsKnown h go_seen bytes (Does a c) = IsOfForm bytes a × IsDeclared h a
IsKnown h go_seen bytes (Schedules item) = IsOfForm bytes item.actor × IsDeclared h item.actor

line_form : (h : Header) (go_seen : Bool) (bytes : List ℕ) (s : Saying) → IsHeader h → SaysLine h go_seen bytes s → IsKnown h go_seen bytes s
line_form h go_seen bytes (Does a c) header (range, (words, e, are)) =
    let k = commanding h a c header range in
    ((k.0, (words, e, say_words h go_seen words (Does a c) header range are, inl (command_form h words a c range are))), k.1)
line_form h go_seen bytes Go header (range, (words, e, (first, is))) = (first, rw (e, is) refl)
line_form h go_seen bytes (Schedules item) header (range, (words, e, are)) =
    let k = has_declared h item.actor header range.actor in
    let (last, is, until) = are in
    ((k.0, (words, e, say_words h go_seen words (Schedules item) header range are, inr (last, is, until_form last item.until until))), k.1)

go_no_form : (bytes : List ℕ) (a : Actor) → bytes ≡ codes "go" → IsOfForm bytes a → ⊥
go_no_form bytes a e form = let f = of_form bytes a form in no_go_form a (rw (go_words bytes e) at f.0)

-- A line that says nothing because of an actor is of no form of a known one.
silent_actor : (h : Header) (bytes : List ℕ) (a b : Actor) → IsOfForm bytes b → (IsDeclared h b → ⊥) → IsOfForm bytes a × IsDeclared h a → ⊥
silent_actor h bytes a b form never f = never (subst (IsDeclared h) (one_actor bytes a b f.0 form) f.1)

silent : (h : Header) (go_seen : Bool) (bytes : List ℕ) (r : Reason) (s : Saying) → IsHeader h → SaysNothingFor h go_seen bytes r
    → SaysLine h go_seen bytes s → ⊥
silent h go_seen bytes reason.Word Go header never line = never.1 (line_form h go_seen bytes Go header line)
silent h go_seen bytes reason.Word (Does a c) header never line = never.0 a (line_form h go_seen bytes (Does a c) header line).0
silent h go_seen bytes reason.Word (Schedules item) header never line = never.0 item.actor (line_form h go_seen bytes (Schedules item) header line).0
silent h go_seen bytes reason.Actor Go header (b, form, never) line = go_no_form bytes b (line_form h go_seen bytes Go header line).1 form
silent h go_seen bytes reason.Actor (Does a c) header (b, form, never) line =
    silent_actor h bytes a b form never (line_form h go_seen bytes (Does a c) header line)
silent h go_seen bytes reason.Actor (Schedules item) header (b, form, never) line =
    silent_actor h bytes item.actor b form never (line_form h go_seen bytes (Schedules item) header line)
silent h go_seen bytes reason.Number s header (b, form, known, none) line = none s line
silent h go_seen bytes _ s header never line = never

-- A line that says nothing for a reason is refused for this one.
by_result : (h : Header) (go_seen : Bool) (bytes : List ℕ) (r : Reason) (x : Result Saying Reason) → IsHeader h → SaysNothingFor h go_seen bytes r
    → said h go_seen bytes ≡ x → x ≡ Err r
by_result h go_seen bytes r (Ok s) header never e = absurd (silent h go_seen bytes r s header never (only_said h go_seen bytes s e))
by_result h go_seen bytes r (Err k) header never e = ap (λ (z : Reason). Err z) (agree h go_seen bytes k r (no_other h go_seen bytes k header e) never)

pub the_reason : (h : Header) (go_seen : Bool) (bytes : List ℕ) (r : Reason) → IsHeader h → SaysNothingFor h go_seen bytes r → said h go_seen bytes ≡ Err r
the_reason h go_seen bytes r header never = by_result h go_seen bytes r (said h go_seen bytes) header never refl

-- A line that says nothing is refused, for a reason of a line's words.
line_reason : (h : Header) (go_seen : Bool) (words : List (List ℕ)) (r : Reason) → WhyNot h go_seen words r → IsLineReason r
line_reason h go_seen words reason.Word is = inl refl
line_reason h go_seen words reason.Actor is = inr (inl refl)
line_reason h go_seen words reason.Number is = inr (inr refl)
line_reason h go_seen words _ is = absurd is

-- An error of it is for a reason of a line's words.
abbrev IsOfLine : Result Saying Reason → Type 0
IsOfLine (Ok x) = Unit {0}
IsOfLine (Err r) = IsLineReason r

told_of : (h : Header) (go_seen : Bool) (words : List (List ℕ)) (x : Result Saying Reason) → WordsJudged h go_seen words x → IsOfLine x
told_of h go_seen words (Ok s) is = tt
told_of h go_seen words (Err r) is = line_reason h go_seen words r is

chosen : (b : Bool) (x y : Result Saying Reason) → IsOfLine x → IsOfLine y → IsOfLine (cond b x y)
chosen true x y p q = p
chosen false x y p q = q

said_of : (h : Header) (go_seen : Bool) (bytes : List ℕ) → IsOfLine (said h go_seen bytes)
unfolding said by_words
said_of h go_seen bytes =
    chosen (list_any is_empty (words_of bytes)) (Err reason.Word) _ (inl refl)
    (told_of h go_seen (words_of bytes) (by_first h go_seen (words_of bytes)) (words_judged h go_seen (words_of bytes)))

refused : (x : Result Saying Reason) → IsOfLine x → ((s : Saying) → x ≡ Ok s → ⊥) → (k : Reason) × (x ≡ Err k) × IsLineReason k
refused (Ok s) is none = absurd (none s refl)
refused (Err k) is none = (k, refl, is)

pub refuses : (h : Header) (go_seen : Bool) (bytes : List ℕ) → ((s : Saying) → SaysLine h go_seen bytes s → ⊥)
    → (r : Reason) × (said h go_seen bytes ≡ Err r) × IsLineReason r
refuses h go_seen bytes none = refused (said h go_seen bytes) (said_of h go_seen bytes) (λ s e. none s (only_said h go_seen bytes s e))
