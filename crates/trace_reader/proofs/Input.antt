-- What the bytes of an input say is read, and only that; and it is refused where it fails, and nowhere else.
use Rattle.std.proofs.Common.{◌≡◌, ◌≤◌, ◌+◌, ◌++◌, ◌==◌, inl, inr, ℕ, List, [], ◌∷◌, Bool, true, false, cond, Result, Ok, Err, All, length, refl, sym}
use Rattle.std.proofs.Common.{ap, subst, ◌∙◌, arith, append_assoc}
use Rattle.std.specs.Prelude.{is_some}
use Rattle.std.specs.List.{onto_first, join_with_byte}
use Rattle.std.proofs.lemmas.Bool.Decides.{nat_tests}
use Rattle.std.proofs.lemmas.List.{append-nil}
use Rattle.std.proofs.lemmas.List.Elements.{All-nil, All-cons, All-weaker}
use Rattle.std.proofs.lemmas.List.Splits.{slice_split_none, slice_split_at, join_with_byte-slice_split}
use Rattle.core_views.specs.Traces.{IsHeader}
use Rattle.core_views.specs.declared.trace.Header.{Header}
use Rattle.core_views.specs.declared.trace.Trace.{Trace}
use Rattle.trace_reader.specs.declared.reason.Reason.{Reason}
use Rattle.trace_reader.specs.Gathered.{Gathers, go_in}
use Rattle.trace_reader.specs.Lines.{LineSaid, parts_of, raw, lines_of}
use Rattle.trace_reader.specs.Reading.{head_of, trace_of, with_header, under, reading_of, reading}
use Rattle.trace_reader.specs.Grammar.{spaced}
use Rattle.trace_reader.specs.HeaderGrammar.{labelled}
use Rattle.trace_reader.specs.InputGrammar.{with_ends, ArePlain, IsText, SaysHeader, SayLines, SayTrace, SaysTrace, PassesAll, HeaderFails, LineFails}
use Rattle.trace_reader.specs.InputGrammar.{line_behind, HasLine, FailsAt}
use Rattle.trace_reader.proofs.Prefix.{with_prefix}
use Rattle.trace_reader.proofs.Loop.{part, not_empty}
use Rattle.trace_reader.proofs.InputLines.{line_fails, more_of, seen_behind, IsCut, cuts, consed, said_lines, long}
use Rattle.trace_reader.proofs.InputHeads.{HeadJudged, head_judged, head_said, head_fails}

-- The bytes of an input and its parts.
abbrev NoLf : List ℕ → Type 0
NoLf text = All (λ b. b ≡ 10 → ⊥) text

abbrev NoLfs : List (List ℕ) → Type 0
NoLfs [] = Unit {0}
NoLfs (w ∷ ws) = NoLf w × NoLfs ws

cut_no_lf : (b : ℕ) (c : Bool) (parts : List (List ℕ)) → (b == 10) ≡ c → NoLfs parts → NoLfs (cond c ([] ∷ parts) (onto_first b parts))
cut_no_lf b true parts e are = (All-nil (λ (x : ℕ). x ≡ 10 → ⊥), are)
cut_no_lf b false [] e are = (All-cons (λ (x : ℕ). x ≡ 10 → ⊥) b [] (λ is. grind (arith, nat_tests)) (All-nil (λ (x : ℕ). x ≡ 10 → ⊥)), tt)
cut_no_lf b false (p ∷ ps) e are = (All-cons (λ (x : ℕ). x ≡ 10 → ⊥) b p (λ is. grind (arith, nat_tests)) are.0, are.1)

parts_no_lf : (bytes : List ℕ) → NoLfs (parts_of bytes)
parts_no_lf [] = (All-nil (λ (x : ℕ). x ≡ 10 → ⊥), tt)
parts_no_lf (b ∷ bs) = cut_no_lf b (b == 10) (parts_of bs) refl (parts_no_lf bs)

middle : (texts : List (List ℕ)) (text : List ℕ) (rest : List (List ℕ)) → NoLfs (texts ++ text ∷ rest) → NoLf text
middle [] text rest are = are.0
middle (x ∷ xs) text rest are = middle xs text rest are.1

not_lf : (b : ℕ) → (b ≡ 10 → ⊥) → (b == 10) ≡ false
not_lf b never = grind (arith, nat_tests, never)

tested : (text : List ℕ) → NoLf text → All (λ b. (b == 10) ≡ false) text
tested text are = All-weaker (λ (b : ℕ). b ≡ 10 → ⊥) (λ (b : ℕ). (b == 10) ≡ false) (λ b never. not_lf b never) text are

plain_no_lf : (text : List ℕ) → ArePlain text → NoLf text
plain_no_lf text are = All-weaker (λ (b : ℕ). (32 ≤ b) × (b ≤ 126)) (λ (b : ℕ). b ≡ 10 → ⊥) (λ b low is. omega (arith, low.0, is)) text are

ended_part : (text behind : List ℕ) → NoLf text → parts_of (text ++ 10 ∷ behind) ≡ text ∷ parts_of behind
ended_part text behind are = slice_split_at (λ (b : ℕ). b == 10) text 10 behind (tested text are) refl

last_part : (text : List ℕ) → NoLf text → parts_of text ≡ text ∷ []
last_part text are = slice_split_none (λ (b : ℕ). b == 10) text (tested text are)

abbrev AreTexts : List (List ℕ) → Type 0
AreTexts [] = Unit {0}
AreTexts (x ∷ xs) = IsText x × AreTexts xs

lines_texts : (h : Header) (n : ℕ) (go_seen : Bool) (texts : List (List ℕ)) (told : List LineSaid) → SayLines h n go_seen texts told → AreTexts texts
lines_texts h n go_seen [] told say = tt
lines_texts h n go_seen (x ∷ xs) told (is, inl (s, say)) = (is, lines_texts h (n + 1) go_seen xs told say)
lines_texts h n go_seen (x ∷ xs) told (is, inr (never, (s, more, e, says, say))) = (is, lines_texts h (n + 1) _ xs more say)

trace_texts : (texts : List (List ℕ)) (t : Trace) → SayTrace texts t → AreTexts texts
trace_texts [] t say = absurd say
trace_texts (first ∷ texts) t (size, count, is, head, (told, say, all)) = (is, lines_texts t.header 2 false texts told say)

parts_behind : (texts : List (List ℕ)) (tail : List ℕ) → AreTexts texts → parts_of (with_ends texts ++ tail) ≡ texts ++ parts_of tail
parts_behind [] tail are = refl
parts_behind (x ∷ xs) tail (is, are) =
    let whole : (x ++ 10 ∷ with_ends xs) ++ tail ≡ x ++ 10 ∷ (with_ends xs ++ tail) = simp append_assoc in
    rw (whole, ended_part x (with_ends xs ++ tail) (plain_no_lf x is.1), parts_behind xs tail are) refl

join_ends : (texts : List (List ℕ)) (text : List ℕ) (rest : List (List ℕ))
    → join_with_byte 10 (texts ++ text ∷ rest) ≡ with_ends texts ++ join_with_byte 10 (text ∷ rest)
join_ends [] text rest = refl
join_ends (x ∷ []) text rest = simp append_assoc
join_ends (x ∷ y ∷ ys) text rest = rw (join_ends (y ∷ ys) text rest) (simp append_assoc)

has_line : (input : List ℕ) (before : List (List ℕ)) (text : List ℕ) (rest : List (List ℕ))
    → input ≡ with_ends before ++ join_with_byte 10 (text ∷ rest) → NoLf text → HasLine input before text (more_of rest)
has_line input before text [] e are = (are, e)
has_line input before text (r ∷ rs) e are = (are, (join_with_byte 10 (r ∷ rs), e))

none_more : (rest : List (List ℕ)) → more_of rest ≡ false → rest ≡ []
none_more [] e = refl
none_more (r ∷ rs) e = cc

-- What an input says, or where it fails.
abbrev InputJudged : List ℕ → Result Trace (ℕ × Reason) → Type 0
InputJudged input (Ok t) = SaysTrace input t
InputJudged input (Err e) = FailsAt input e.0 e.1

head_moved : (n m a b : ℕ) (is : Bool) (text : List ℕ) (r : Reason) → n ≡ m → a ≡ b
    → HeaderFails (record { number = n; end = a; ended_by_lf = is; bytes = text }) r
    → HeaderFails (record { number = m; end = b; ended_by_lf = is; bytes = text }) r
head_moved n m a b is text r e e1 fails = rw (← e, ← e1) fails

line_moved : (h : Header) (go_seen : Bool) (n m a b : ℕ) (is : Bool) (text : List ℕ) (r : Reason) → n ≡ m → a ≡ b
    → LineFails h go_seen (record { number = n; end = a; ended_by_lf = is; bytes = text }) r
    → LineFails h go_seen (record { number = m; end = b; ended_by_lf = is; bytes = text }) r
line_moved h go_seen n m a b is text r e e1 fails = rw (← e, ← e1) fails

first_fails : (input text : List ℕ) (is : Bool) (size : ℕ) (r : Reason) → HasLine input [] text is → size ≡ length text + cond is 1 0
    → HeaderFails (record { number = 1; end = size; ended_by_lf = is; bytes = text }) r → FailsAt input 1 r
first_fails input text is size r has e fails =
    inl (refl, (text, is, has, head_moved 1 1 size (0 + (length text + cond is 1 0)) is text r refl (omega arith) fails))

empty_head : (text : List ℕ) (h : Header) → text ≡ [] → SaysHeader text h → ⊥
empty_head text h e (words, is, (header, w, f, s)) = let all : [] ≡ spaced (labelled w) = cc in cc

-- The only part of an input is line 1.
alone : (input text : List ℕ) (z : Result Header Reason) → NoLf text → input ≡ text
    → HeadJudged (record { number = 1; end = length text; ended_by_lf = false; bytes = text }) z → InputJudged input (under z (λ h. Ok []))
alone input text (Ok h) are e (all, s) = elim (all.2) [ inl t ↦ cc | inr t ↦ absurd (empty_head text h t s) ]
alone input text (Err r) are e fails = first_fails input text false (length text) r (are, e) (omega arith) fails

gathered : (h : Header) (out told : List LineSaid) → out ≡ told → Gathers (trace_of h out) told
gathered h out told e = rw e (record { lines = refl; go = refl; items = refl })

behind : (input text : List ℕ) (parts : List (List ℕ)) (h : Header) (x : Result (List LineSaid) (ℕ × Reason)) → parts_of input ≡ text ∷ parts
    → PassesAll (record { number = 1; end = length text + 1; ended_by_lf = true; bytes = text }) → SaysHeader text h
    → IsCut h 2 (length text + 1) false parts x → InputJudged input (with_header h x)
behind input text parts h (Ok out) e all s k =
    let ends = k.ends in
    let join : input ≡ join_with_byte 10 (parts_of input) = sym (join_with_byte-slice_split 10 input) in
    let whole : parts_of input ≡ (text ∷ k.texts) ++ [] ∷ [] = rw (e, k.cut, ends.1, ends.2) refl in
    let far : length (with_ends (text ∷ k.texts)) ≡ length text + 1 + length (with_ends k.texts) = long text k.texts in
    let cut : input ≡ with_ends (text ∷ k.texts) ++ [] = join ∙ ap (join_with_byte 10) whole ∙ join_ends (text ∷ k.texts) [] [] in (
      text ∷ k.texts,
      cut ∙ append-nil (with_ends (text ∷ k.texts)),
      (omega (arith, far, k.size), omega (arith, k.count), (all.3, all.4), s, (k.told, k.say, gathered h out k.told ends.0)),
    )
behind input text parts h (Err (m, r)) e all s k =
    let (is, some, fails) = k.ends in
    let join : input ≡ join_with_byte 10 (parts_of input) = sym (join_with_byte-slice_split 10 input) in
    let whole : parts_of input ≡ (text ∷ k.texts) ++ k.text ∷ k.rest = rw (e, k.cut) refl in
    let far : length (with_ends (text ∷ k.texts)) ≡ length text + 1 + length (with_ends k.texts) = long text k.texts in
    let cut : input ≡ with_ends (text ∷ k.texts) ++ join_with_byte 10 (k.text ∷ k.rest) =
    join ∙ ap (join_with_byte 10) whole ∙ join_ends (text ∷ k.texts) k.text k.rest in
    let clean : NoLf k.text = middle (text ∷ k.texts) k.text k.rest (subst NoLfs whole (parts_no_lf input)) in
    inr (
      text ∷ k.texts,
      trace_of h k.told,
      (omega (arith, far, k.size), omega (arith, k.count), (all.3, all.4), s, (k.told, k.say, gathered h k.told k.told refl)),
      omega (arith, is),
      (
        k.text,
        more_of k.rest,
        has_line input (text ∷ k.texts) k.text k.rest cut clean,
        (λ last empty. some (none_more k.rest last) empty),
        line_moved h (is_some (go_in k.told)) _ _ _ _ (more_of k.rest) k.text r (omega arith) (omega (arith, far)) fails,
      ),
    )

headed : (input text y : List ℕ) (more : List (List ℕ)) (z : Result Header Reason) → parts_of input ≡ text ∷ y ∷ more
    → HeadJudged (record { number = 1; end = length text + 1; ended_by_lf = true; bytes = text }) z
    → InputJudged input (under z (λ h. lines_of h 2 (length text + 1) false (y ∷ more)))
headed input text y more (Ok h) e (all, s) = behind input text (y ∷ more) h _ e all s (cuts h 2 (length text + 1) false y more s.2.0 all.0 (omega arith))
headed input text y more (Err r) e fails =
    let join : input ≡ join_with_byte 10 (parts_of input) = sym (join_with_byte-slice_split 10 input) in
    let cut : input ≡ join_with_byte 10 (text ∷ y ∷ more) = join ∙ ap (join_with_byte 10) e in
    let clean : NoLf text = middle [] text (y ∷ more) (subst NoLfs e (parts_no_lf input)) in
    first_fails input text true (length text + 1) r (has_line input [] text (y ∷ more) cut clean) (omega arith) fails

by_parts : (input p : List ℕ) (ps : List (List ℕ)) → parts_of input ≡ p ∷ ps → InputJudged input (reading_of (p ∷ ps))
unfolding reading_of
by_parts input p [] e =
    let join : input ≡ join_with_byte 10 (parts_of input) = sym (join_with_byte-slice_split 10 input) in
    let same : input ≡ p = join ∙ ap (join_with_byte 10) e in
    alone input p (head_of (record { number = 1; end = length p; ended_by_lf = false; bytes = p }))
    (middle [] p [] (subst NoLfs e (parts_no_lf input))) same (head_judged _)
by_parts input p (y ∷ more) e = headed input p y more (head_of (record { number = 1; end = length p + 1; ended_by_lf = true; bytes = p })) e (head_judged _)

input_judged : (input : List ℕ) → InputJudged input (reading input)
unfolding reading
input_judged input = let (p, ps, e) = part input in rw e (by_parts input p ps e)

pub only_trace : (input : List ℕ) (t : Trace) → reading input ≡ Ok t → SaysTrace input t
only_trace input t e = subst (InputJudged input) e (input_judged input)

pub only_where : (input : List ℕ) (n : ℕ) (r : Reason) → reading input ≡ Err (n, r) → FailsAt input n r
only_where input n r e = subst (InputJudged input) e (input_judged input)

-- What an input says is read.
first_line : (x y : List ℕ) (zs ys : List (List ℕ)) → zs ≡ y ∷ ys → reading_of (x ∷ zs)
    ≡ under (head_of (record { number = 1; end = length x + 1; ended_by_lf = true; bytes = x })) (λ h. lines_of h 2 (length x + 1) false zs)
unfolding reading_of
first_line x y zs ys e = rw e refl

same_rest : (h : Header) (n m a b : ℕ) (go_seen now : Bool) (parts : List (List ℕ)) → n ≡ m → a ≡ b → go_seen ≡ now
    → lines_of h n a go_seen parts ≡ lines_of h m b now parts
same_rest h n m a b go_seen now parts e e1 e2 = rw (e, e1, e2) refl

-- what the texts say is read, and then what stands after them
abbrev IsThen : List (List ℕ) → Trace → List LineSaid → List ℕ → List (List ℕ) → Type 0
IsThen before t told p ps =
    reading_of (before ++ p ∷ ps)
    ≡ with_header t.header (with_prefix told (lines_of t.header (length before + 1) (length (with_ends before)) (is_some t.go) (p ∷ ps)))

seen_same : (t : Trace) (told : List LineSaid) → Gathers t told → seen_behind false told ≡ is_some t.go
seen_same t told all = rw all.go refl

trace_then : (before : List (List ℕ)) (t : Trace) (p : List ℕ) (ps : List (List ℕ)) → SayTrace before t
    → (told : List LineSaid) × Gathers t told × IsThen before t told p ps
trace_then [] t p ps say = absurd say
trace_then (x ∷ xs) t p ps (size, count, is, s, (told, say, gathers)) =
    let far : length (with_ends (x ∷ xs)) ≡ length x + 1 + length (with_ends xs) = long x xs in
    let (y, ys, e) = consed xs p ps in
    let all : PassesAll (record { number = 1; end = length x + 1; ended_by_lf = true; bytes = x }) =
    (omega (arith, far, size), omega arith, inl refl, is.0, is.1) in
    let lines = said_lines t.header 2 (length x + 1) false xs told p ps s.2.0 say (omega (arith, far, size)) (omega (arith, count))
    ∙ ap (with_prefix told) (same_rest t.header (2 + length xs) (length (x ∷ xs) + 1) (length x + 1 + length (with_ends xs))
    (length (with_ends (x ∷ xs))) (seen_behind false told) (is_some t.go) (p ∷ ps) (omega arith) (omega (arith, far)) (seen_same t told gathers)) in (
      told,
      gathers,
      first_line x y (xs ++ p ∷ ps) ys e ∙ rw (head_said (record { number = 1; end = length x + 1; ended_by_lf = true; bytes = x }) t.header all s)
          (ap (with_header t.header) lines),
    )

the_same : (t : Trace) (told : List LineSaid) → Gathers t told → trace_of t.header told ≡ t
the_same t told all = rw (← all.lines, ← all.go, ← all.items) refl

no_more : (h : Header) (n at : ℕ) (go_seen : Bool) → lines_of h n at go_seen ([] ∷ []) ≡ Ok []
unfolding lines_of
no_more h n at go_seen = refl

pub the_trace : (input : List ℕ) (t : Trace) → SaysTrace input t → reading input ≡ Ok t
unfolding reading
the_trace input t (texts, e, say) =
    let whole : parts_of input ≡ texts ++ [] ∷ [] = ap parts_of (e ∙ sym (append-nil (with_ends texts))) ∙ parts_behind texts [] (trace_texts texts t say) in
    let (told, gathers, then) = trace_then texts t [] [] say in
    ap reading_of whole ∙ then ∙ rw (no_more t.header (length texts + 1) (length (with_ends texts)) (is_some t.go), append-nil told)
    (ap (λ (x : Trace). Ok x) (the_same t told gathers))

fails_more : (h : Header) (n at : ℕ) (go_seen : Bool) (text y : List ℕ) (ys : List (List ℕ)) (r : Reason) → IsHeader h
    → LineFails h go_seen (raw n at true text) r → lines_of h n at go_seen (text ∷ y ∷ ys) ≡ Err (n, r)
unfolding lines_of
fails_more h n at go_seen text y ys r header fails = rw (line_fails h go_seen (raw n at true text) r header fails) refl

fails_last : (h : Header) (n at : ℕ) (go_seen : Bool) (text : List ℕ) (r : Reason) → IsHeader h → (text ≡ [] → ⊥)
    → LineFails h go_seen (raw n at false text) r → lines_of h n at go_seen (text ∷ []) ≡ Err (n, r)
unfolding lines_of
fails_last h n at go_seen [] r header some fails = absurd (some refl)
fails_last h n at go_seen (c ∷ cs) r header some fails = rw (not_empty c cs, line_fails h go_seen (raw n at false (c ∷ cs)) r header fails) refl

header_in : (before : List (List ℕ)) (t : Trace) → SayTrace before t → IsHeader t.header
header_in [] t say = absurd say
header_in (x ∷ xs) t (size, count, is, s, say) = s.2.0

later : (input : List ℕ) (before : List (List ℕ)) (t : Trace) (text : List ℕ) (ended : Bool) (r : Reason) → SayTrace before t
    → HasLine input before text ended → (ended ≡ false → text ≡ [] → ⊥) → LineFails t.header (is_some t.go) (line_behind before text ended) r
    → reading input ≡ Err (length before + 1, r)
unfolding reading
later input before t text true r say (are, (rest, e)) some fails =
    let (y, ys, f) = part rest in
    let whole : parts_of input ≡ before ++ text ∷ y ∷ ys =
    ap parts_of e ∙ parts_behind before (text ++ 10 ∷ rest) (trace_texts before t say)
    ∙ ap (λ (v : List (List ℕ)). before ++ v) (ended_part text rest are ∙ ap (λ (v : List (List ℕ)). text ∷ v) f) in
    ap reading_of whole ∙ (trace_then before t text (y ∷ ys) say).2
    ∙ rw (fails_more t.header (length before + 1) (length (with_ends before)) (is_some t.go) text y ys r (header_in before t say) fails) refl
later input before t text false r say (are, e) some fails =
    let whole : parts_of input ≡ before ++ text ∷ [] =
    ap parts_of e ∙ parts_behind before text (trace_texts before t say) ∙ ap (λ (v : List (List ℕ)). before ++ v) (last_part text are) in
    ap reading_of whole ∙ (trace_then before t text [] say).2
    ∙ rw (fails_last t.header (length before + 1) (length (with_ends before)) (is_some t.go) text r (header_in before t say) (some refl) fails) refl

fails_first : (input text : List ℕ) (ended : Bool) (r : Reason) → HasLine input [] text ended → HeaderFails (line_behind [] text ended) r
    → reading input ≡ Err (1, r)
unfolding reading reading_of
fails_first input text true r (are, (rest, e)) fails =
    let (y, ys, f) = part rest in
    let whole : parts_of input ≡ text ∷ y ∷ ys = ap parts_of e ∙ ended_part text rest are ∙ ap (λ (v : List (List ℕ)). text ∷ v) f in
    let head =
    head_fails (record { number = 1; end = length text + 1; ended_by_lf = true; bytes = text }) r
    (head_moved 1 1 (0 + (length text + 1)) (length text + 1) true text r refl (omega arith) fails) in
    rw (whole, head) refl
fails_first input text false r (are, e) fails =
    let whole : parts_of input ≡ text ∷ [] = ap parts_of e ∙ last_part text are in
    let head =
    head_fails (record { number = 1; end = length text; ended_by_lf = false; bytes = text }) r
    (head_moved 1 1 (0 + (length text + 0)) (length text) false text r refl (omega arith) fails) in
    rw (whole, head) refl

pub where_it_fails : (input : List ℕ) (n : ℕ) (r : Reason) → FailsAt input n r → reading input ≡ Err (n, r)
where_it_fails input n r (inl (e, (text, ended, has, fails))) = rw e (fails_first input text ended r has fails)
where_it_fails input n r (inr (before, t, say, e, (text, ended, has, some, fails))) = rw e (later input before t text ended r say has some fails)
