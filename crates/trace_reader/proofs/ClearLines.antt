-- The line `vm clear ID FIRST COUNT WORD ..`: what it says is read, and only that, and why it is refused.
use Rattle.std.proofs.Common.{◌≡◌, ◌<◌, ◌+◌, ◌/◌, ◌^◌, ◌==◌, ◌&&◌, inl, inr, ℕ, List, [], ◌∷◌, All, Bool, true, false, cond, Result, Ok, Err, refl, subst}
use Rattle.std.proofs.Common.{arith, length}
use Rattle.std.specs.Prelude.{codes, IfOk}
use Rattle.std.specs.List.{AllZip}
use Rattle.std.specs.Str.{bytes_eq}
use Rattle.std.specs.declared.option.Option.{Option}
use Rattle.std.specs.declared.option.Option.TheVariants.{Some, None}
use Rattle.std.proofs.lemmas.Bool.{eq-eqb}
use Rattle.std.proofs.lemmas.Bool.Decides.{nat_tests}
use Rattle.std.proofs.lemmas.List.Elements.{All-nil, All-cons}
use Rattle.std.proofs.lemmas.Slice.Zip.{AllZip-long}
use Rattle.core_views.specs.Text.{actor_name}
use Rattle.core_views.specs.Traces.{IsCommandOf}
use Rattle.core_views.specs.declared.actor.Actor.{Actor}
use Rattle.core_views.specs.declared.actor.Actor.TheVariants.{Manager}
use Rattle.core_views.specs.declared.trace.Command.{Command}
use Rattle.core_views.specs.declared.trace.Command.TheVariants.{ClearLog}
use Rattle.core_views.specs.declared.trace.Header.{Header}
use Rattle.trace_reader.specs.declared.reason.Reason.TheVariants as reason
use Rattle.trace_reader.specs.declared.refusal.ReadError.{ReadError}
use Rattle.trace_reader.specs.Numbers.{spelled_number}
use Rattle.trace_reader.specs.Operands.{are_counted, number, numbers}
use Rattle.trace_reader.specs.Forms.{by_form, clear_form, clearing, pages_named}
use Rattle.trace_reader.specs.Grammar.{AreCommandWords, AreWords, IsClearForm, IsCommandForm, Spells, clear_words}
use Rattle.trace_reader.specs.Steps.{ReadsTo}
use Rattle.trace_reader.proofs.Judged.{IsPairSaid, Judged, Tells, judged, none, numbers as refused_numbers}
use Rattle.trace_reader.proofs.Operands.{IsNumber, bound, number_found, number_number, number_spelled}
use Rattle.trace_reader.proofs.PlainWords.{spelled_word, spelled_words, text_word}
use Rattle.trace_reader.proofs.Results.{both, branch, differs, then_ok, word_is}
use Rattle.trace_reader.proofs.SlotLines.{IsManager, named_vm}
use Rattle.trace_reader.proofs.Spelled.{spelled, spelling}

-- Where COUNT is a number, there is a word for each 64 pages.
abbrev AreCounted : List ℕ → List (List ℕ) → Type 0
AreCounted c ws = (count : ℕ) → Spells c count → length ws ≡ (count + 63) / 64

-- The words after `vm clear`.
abbrev pub AreClearing : List (List ℕ) → Type 0
AreClearing rest = (i f c : List ℕ) × (ws : List (List ℕ)) × (rest ≡ i ∷ f ∷ c ∷ ws) × AreCounted c ws

-- With this command's word only the manager has a form, which has these words after it.
abbrev Only : List ℕ → List (List ℕ) → Type 0
Only who rest = (a : Actor) → IsCommandForm (who ∷ codes "clear" ∷ rest) a → (who ≡ actor_name a) × (IsManager a × AreClearing rest)

-- The test of the words' count says whether it is right.
passed : (c : List ℕ) (ws : List (List ℕ)) → are_counted (spelled_number c) ws ≡ true → AreCounted c ws
passed c ws e count s =
    let test : (length ws == (count + 63) / 64) ≡ true = subst (λ (o : Option ℕ). are_counted o ws ≡ true) (spelled c count s) e in
    grind (arith, nat_tests, test)

right : (c : List ℕ) (ws : List (List ℕ)) (count : ℕ) → Spells c count → length ws ≡ (count + 63) / 64 → are_counted (spelled_number c) ws ≡ true
right c ws count s long = rw (spelled c count s) (eq-eqb (length ws) ((count + 63) / 64) long)

failed : (c : List ℕ) (ws : List (List ℕ)) → are_counted (spelled_number c) ws ≡ false → AreCounted c ws → ⊥
failed c ws e counted = by (spelled_number c) refl e
  where
    by : (o : Option ℕ) → spelled_number c ≡ o → are_counted o ws ≡ false → ⊥
    by None is fails = cc
    by (Some count) is fails = let test = eq-eqb (length ws) ((count + 63) / 64) (counted count (spelling c count is)) in cc

-- Why a clear is refused: its name and the count of its words are looked at, then the numbers.
numbers_number : (ws : List (List ℕ)) → IsNumber (numbers ws)
unfolding numbers
numbers_number [] = tt
numbers_number (w ∷ ws) = bound (number w) _ (number_number w) (λ n. bound (numbers ws) _ (numbers_number ws) (λ ns. tt))

pages_number : (i f c : List ℕ) → IsNumber (pages_named i f c)
unfolding pages_named
pages_number i f c =
    bound (number i) _ (number_number i) (λ id. bound (number f) _ (number_number f) (λ first. bound (number c) _ (number_number c) (λ count. tt)))

clearing_number : (i f c : List ℕ) (ws : List (List ℕ)) → IsNumber (clearing i f c ws)
unfolding clearing
clearing_number i f c ws = bound (pages_named i f c) _ (pages_number i f c) (λ x. bound (numbers ws) _ (numbers_number ws) (λ bits. tt))

same_counted : (i f c j g d : List ℕ) (ws vs : List (List ℕ)) → i ∷ f ∷ c ∷ ws ≡ j ∷ g ∷ d ∷ vs → AreCounted d vs → AreCounted c ws
same_counted i f c j g d ws vs e counted = let same : c ≡ d = cc in let rest : ws ≡ vs = cc in rw (same, rest) counted

clear_why : (h : Header) (who : List ℕ) (rest : List (List ℕ)) → Only who rest → Tells h (who ∷ codes "clear" ∷ rest) (clear_form who rest)
unfolding clear_form
clear_why h who (i ∷ f ∷ c ∷ ws) only = by (bytes_eq who (codes "vm")) (are_counted (spelled_number c) ws) refl refl
  where
    by : (named counted : Bool) → bytes_eq who (codes "vm") ≡ named → are_counted (spelled_number c) ws ≡ counted
        → Tells h (who ∷ codes "clear" ∷ i ∷ f ∷ c ∷ ws) (cond (named && counted) (clearing i f c ws) (Err reason.Word))
    by true true is fits =
        refused_numbers h (who ∷ codes "clear" ∷ i ∷ f ∷ c ∷ ws) Manager (clearing i f c ws)
        (inr (inr (inr (i, f, c, ws, rw (word_is who (codes "vm") is) refl, passed c ws fits)))) tt tt (clearing_number i f c ws)
    by true false is fails = none h (who ∷ codes "clear" ∷ i ∷ f ∷ c ∷ ws) (λ a form.
        let (name, (manager, (j, g, d, vs, e, counted))) = only a form in failed c ws fails (same_counted i f c j g d ws vs e counted))
    by false counted other e = none h (who ∷ codes "clear" ∷ i ∷ f ∷ c ∷ ws) (λ a form.
        let (name, (manager, parts)) = only a form in differs who (codes "vm") other (named_vm who a name manager))
clear_why h who [] only = none h (who ∷ codes "clear" ∷ []) (λ a form. let (is, (manager, (i, f, c, ws, e, counted))) = only a form in cc)
clear_why h who (x ∷ []) only = none h (who ∷ codes "clear" ∷ x ∷ []) (λ a form. let (is, (manager, (i, f, c, ws, e, counted))) = only a form in cc)
clear_why h who (x ∷ y ∷ []) only =
    none h (who ∷ codes "clear" ∷ x ∷ y ∷ []) (λ a form. let (is, (manager, (i, f, c, ws, e, counted))) = only a form in cc)

-- What is read is said.
numbers_found : (ws : List (List ℕ)) (bits : List ℕ) → numbers ws ≡ Ok bits → AllZip Spells ws bits
unfolding numbers
numbers_found [] bits e = let same : [] ≡ bits = cc in subst (AllZip Spells []) same tt
numbers_found (w ∷ ws) bits e =
    then_ok (number w) _ bits e (λ n is_n e1.
    then_ok (numbers ws) _ bits e1 (λ ns is_ns e2.
    let same : n ∷ ns ≡ bits = cc in
    subst (AllZip Spells (w ∷ ws)) same (number_found w n is_n, numbers_found ws ns is_ns)))

pages_found : (i f c : List ℕ) (x : ℕ × ℕ × ℕ) → pages_named i f c ≡ Ok x → Spells i x.0 × Spells f x.1 × Spells c x.2
unfolding pages_named
pages_found i f c x e =
    then_ok (number i) _ x e (λ id is_id e1.
    then_ok (number f) _ x e1 (λ first is_first e2.
    then_ok (number c) _ x e2 (λ count is_count e3.
    let same : (id, first, count) ≡ x = cc in
    subst (λ (z : ℕ × ℕ × ℕ). Spells i z.0 × Spells f z.1 × Spells c z.2) same
    (number_found i id is_id, number_found f first is_first, number_found c count is_count))))

all_small : (ws : List (List ℕ)) (bits : List ℕ) → AllZip Spells ws bits → All (λ n. n < 2 ^ 64) bits
all_small [] [] all = All-nil (λ (n : ℕ). n < 2 ^ 64)
all_small [] (n ∷ ns) all = absurd all
all_small (w ∷ ws) [] all = absurd all
all_small (w ∷ ws) (n ∷ ns) (s, all) = All-cons (λ (m : ℕ). m < 2 ^ 64) n ns s.0 (all_small ws ns all)

clearing_found : (h : Header) (i f c : List ℕ) (ws : List (List ℕ)) (p : Actor × Command) → AreCounted c ws → clearing i f c ws ≡ Ok p
    → IsPairSaid h (clear_words i f c ws) p
unfolding clearing
clearing_found h i f c ws p counted e =
    then_ok (pages_named i f c) _ p e (λ x is_x e1.
    then_ok (numbers ws) _ p e1 (λ bits is_bits e2.
    let same : (Manager, ClearLog x.0 x.1 x.2 bits) ≡ p = cc in
    let v = pages_found i f c x is_x in
    let all = numbers_found ws bits is_bits in
    let long : length bits ≡ length ws = AllZip-long Spells ws bits all in
    let many : length ws ≡ (x.2 + 63) / 64 = counted x.2 v.2 in
    subst (IsPairSaid h (clear_words i f c ws)) same ((rw long many, all_small ws bits all), (i, f, c, ws, refl, v.0, v.1, v.2, all))))

clear_form_found : (h : Header) (who : List ℕ) (rest : List (List ℕ)) (p : Actor × Command) → clear_form who rest ≡ Ok p
    → IsPairSaid h (who ∷ codes "clear" ∷ rest) p
unfolding clear_form
clear_form_found h who (i ∷ f ∷ c ∷ ws) p e =
    elim (branch (bytes_eq who (codes "vm") && are_counted (spelled_number c) ws) _ _ (Ok p) e) [
      | inl q ↦ let t = both (bytes_eq who (codes "vm")) (are_counted (spelled_number c) ws) q.0 in
          rw (word_is who (codes "vm") t.0) (clearing_found h i f c ws p (passed c ws t.1) q.1)
      | inr q ↦ absurd (let no : ⊥ = cc in no)
    ]
clear_form_found h who [] p e = absurd (let no : ⊥ = cc in no)
clear_form_found h who (x ∷ []) p e = absurd (let no : ⊥ = cc in no)
clear_form_found h who (x ∷ y ∷ []) p e = absurd (let no : ⊥ = cc in no)

pub clear_judged : (h : Header) (who : List ℕ) (rest : List (List ℕ)) → Only who rest → Judged h (who ∷ codes "clear" ∷ rest) (clear_form who rest)
clear_judged h who rest only =
    judged h (who ∷ codes "clear" ∷ rest) (clear_form who rest) (clear_form_found h who rest) (clear_why h who rest only)

-- The header allows what is read of words that were counted.
pub clear_allowed : (h : Header) (n : ℕ) (i f c : List ℕ) (ws : List (List ℕ)) (count : Option ℕ) (counted : Bool) (r : Result (Actor × Command) ReadError)
    → count ≡ spelled_number c → counted ≡ are_counted count ws → counted ≡ true → ReadsTo n (λ x. x) r (clearing i f c ws)
    → IfOk r (λ x. IsCommandOf h x.0 x.1)
clear_allowed h n i f c ws count counted (Ok p) is test fits e =
    (clearing_found h i f c ws p (passed c ws (let all : are_counted (spelled_number c) ws ≡ true = rw (← is, ← test) fits in all)) e).0
clear_allowed h n i f c ws count counted (Err e) is test fits fails = tt

-- What its words say is read.
numbers_spelled : (ws : List (List ℕ)) (bits : List ℕ) → AllZip Spells ws bits → numbers ws ≡ Ok bits
unfolding numbers
numbers_spelled [] [] all = refl
numbers_spelled [] (n ∷ ns) all = absurd all
numbers_spelled (w ∷ ws) [] all = absurd all
numbers_spelled (w ∷ ws) (n ∷ ns) (s, all) = rw (number_spelled w n s, numbers_spelled ws ns all) refl

pages_spelled : (i f c : List ℕ) (id first count : ℕ) → Spells i id → Spells f first → Spells c count → pages_named i f c ≡ Ok (id, first, count)
unfolding pages_named
pages_spelled i f c id first count a b d = rw (number_spelled i id a, number_spelled f first b, number_spelled c count d) refl

clear_row : (h : Header) (i f c : List ℕ) (ws : List (List ℕ)) → are_counted (spelled_number c) ws ≡ true
    → by_form h (clear_words i f c ws) ≡ clearing i f c ws
unfolding by_form clear_form
clear_row h i f c ws counted = rw counted refl

counted_words : (c : List ℕ) (ws : List (List ℕ)) (count : ℕ) (bits : List ℕ) → length bits ≡ (count + 63) / 64 → AllZip Spells ws bits
    → length ws ≡ (count + 63) / 64
counted_words c ws count bits long all = let same : length bits ≡ length ws = AllZip-long Spells ws bits all in cc

pub clear_reads : (h : Header) (words : List (List ℕ)) (id first count : ℕ) (bits : List ℕ) → IsCommandOf h Manager (ClearLog id first count bits)
    → AreCommandWords words Manager (ClearLog id first count bits) → by_form h words ≡ Ok (Manager, ClearLog id first count bits)
unfolding clearing
clear_reads h words id first count bits range (i, f, c, ws, e, a, b, d, all) =
    let counted = right c ws count d (counted_words c ws count bits range.0 all) in
    rw (e, clear_row h i f c ws counted, pages_spelled i f c id first count a b d, numbers_spelled ws bits all) refl

-- They are of its form, and words.
pub clear_line_form : (h : Header) (words : List (List ℕ)) (id first count : ℕ) (bits : List ℕ) → IsCommandOf h Manager (ClearLog id first count bits)
    → AreCommandWords words Manager (ClearLog id first count bits) → IsClearForm words
clear_line_form h words id first count bits range (i, f, c, ws, e, a, b, d, all) =
    (i, f, c, ws, e, passed c ws (right c ws count d (counted_words c ws count bits range.0 all)))

pub clear_plain : (words : List (List ℕ)) (id first count : ℕ) (bits : List ℕ) → AreCommandWords words Manager (ClearLog id first count bits)
    → AreWords words
clear_plain words id first count bits (i, f, c, ws, e, a, b, d, all) = rw e (
  text_word (codes "vm") (omega arith) refl,
  (
    text_word (codes "clear") (omega arith) refl,
    (spelled_word i id a, (spelled_word f first b, (spelled_word c count d, spelled_words ws bits all))),
  ),
)
