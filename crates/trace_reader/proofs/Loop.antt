-- Reading lines one after the other, as a loop does.
use Rattle.std.proofs.Common.{◌≡◌, ◌≤◌, ◌<◌, ◌+◌, ℕ, List, [], ◌∷◌, Result, Ok, Err, Bool, true, false, length, take, drop, cond, not, ◌++◌, refl}
use Rattle.std.proofs.Common.{sym, ap, ◌∙◌, append_assoc, arith, ◌==◌, nat_lt}
use Rattle.std.proofs.lemmas.List.{append-nil, length-append}
use Rattle.std.proofs.lemmas.List.Splits.{slice_split_first}
use Rattle.std.proofs.lemmas.Bool.Decides.{nat_tests}
use Rattle.std.specs.List.{onto_first, position, position_or_len, slice_split}
use Rattle.std.specs.declared.option.Option.TheVariants.{Some, None}
use Rattle.core_views.specs.declared.trace.Header.{Header}
use Rattle.core_views.specs.declared.trace.Item.{Item}
use Rattle.core_views.specs.declared.trace.Line.{Line}
use Rattle.core_views.specs.declared.trace.Trace.{Trace}
use Rattle.core_views.specs.Traces.{AreLinesOf, IsItemOf, IsLineOf}
use Rattle.std.specs.Prelude.{All, IfSome, is_some}
use Rattle.std.proofs.lemmas.List.Elements.{All-nil, All-push}
use Rattle.std.specs.declared.option.Option.{Option}
use Rattle.trace_reader.specs.declared.body.Body.{Body}
use Rattle.trace_reader.specs.declared.reason.Reason.{Reason}
use Rattle.trace_reader.specs.declared.refusal.ReadError.{ReadError}
use Rattle.trace_reader.specs.declared.refusal.ReadError.TheVariants as errors
use Rattle.trace_reader.specs.declared.saying.Saying.{Saying}
use Rattle.trace_reader.specs.declared.saying.Saying.TheVariants.{Does, Go, Schedules}
use Rattle.trace_reader.specs.Forms.{is_empty}
use Rattle.trace_reader.specs.Gathered.{go_in, items_in, actor_lines, one_more_if}
use Rattle.trace_reader.specs.Lines.{LineSaid, onto, with_line, seen_after, lines_of, line_of, parts_of}
use Rattle.trace_reader.specs.Reading.{with_header}
use Rattle.trace_reader.specs.Sayings.{IsSayingOf}
use Rattle.trace_reader.specs.Steps.{Fails, IsBodyOf, IsPut, NamesLine, trace_with, with_found, with_go, with_item}
use Rattle.trace_reader.proofs.Bytes.{IsFirst}

cons_of : (c : Bool) (b : ℕ) (parts : List (List ℕ)) → (x : List ℕ) × (xs : List (List ℕ)) × (cond c ([] ∷ parts) (onto_first b parts) ≡ x ∷ xs)
cons_of true b parts = ([], parts, refl)
cons_of false b [] = (b ∷ [], [], refl)
cons_of false b (p ∷ ps) = (b ∷ p, ps, refl)

-- each text has a part
pub part : (bytes : List ℕ) → (x : List ℕ) × (xs : List (List ℕ)) × (parts_of bytes ≡ x ∷ xs)
part [] = ([], [], refl)
part (b ∷ bs) = cons_of (b == 10) b (parts_of bs)

on_test : (c : Bool) (x : ℕ) (xs : List ℕ) (n : ℕ) (parts : List (List ℕ)) → length xs < cond (not c) (1 + n) 0 → (length xs ≤ n → parts ≡ xs ∷ [])
    → cond c ([] ∷ parts) (onto_first x parts) ≡ (x ∷ xs) ∷ []
on_test true x xs n parts le rest = absurd (omega arith)
on_test false x xs n parts le rest = ap (onto_first x) (rest (omega arith))

-- A text is cut at each byte c.
one_part : (c : ℕ) (xs : List ℕ) → length xs ≤ position_or_len (λ b. b == c) xs → slice_split (λ b. b == c) xs ≡ xs ∷ []
one_part c [] le = refl
one_part c (x ∷ xs) le =
    on_test (x == c) x xs (position_or_len (λ b. b == c) xs) (slice_split (λ b. b == c) xs) (omega arith) (λ h. one_part c xs h)

not_found : (i n : ℕ) → None ≡ cond (nat_lt i n) (Some i) None → n ≤ i
not_found i n e = grind (arith, nat_tests)

found : (i n at : ℕ) → Some at ≡ cond (nat_lt i n) (Some i) None → (i < n) × (at ≡ i)
found i n at e = grind (arith, nat_tests)

pub no_end : (c : ℕ) (xs : List ℕ) → None ≡ position (λ b. b == c) xs → slice_split (λ b. b == c) xs ≡ xs ∷ []
no_end c xs e = one_part c xs (not_found _ _ e)

pub an_end : (c : ℕ) (xs : List ℕ) (at : ℕ) → Some at ≡ position (λ b. b == c) xs
    → slice_split (λ b. b == c) xs ≡ take at xs ∷ slice_split (λ b. b == c) (drop (at + 1) xs)
an_end c xs at e =
    let f = found (position_or_len (λ b. b == c) xs) (length xs) at e in
    rw f.1 (slice_split_first (λ b. b == c) xs 0 f.0)

nothing_left : (h : Header) (n at : ℕ) (go_seen : Bool) (rest : List ℕ) → length rest < 1 → lines_of h n at go_seen (parts_of rest) ≡ Ok []
unfolding lines_of
nothing_left h n at go_seen [] lt = refl
nothing_left h n at go_seen (b ∷ bs) lt = absurd (omega arith)

pub not_empty : (c : ℕ) (cs : List ℕ) → is_empty (c ∷ cs) ≡ false
not_empty c cs = grind (arith, nat_tests)

-- The first line, and the lines after it.
pub unrolled : (h : Header) (n at size : ℕ) (go_seen : Bool) (rest text after : List ℕ) (ended : Bool) → 0 < length rest
    → parts_of rest ≡ text ∷ cond ended (parts_of after) [] → (ended ≡ false → after ≡ []) → length rest ≡ length text + cond ended 1 0 + length after
    → size ≡ length text + cond ended 1 0
    → lines_of h n at go_seen (parts_of rest) ≡ onto n go_seen (line_of h go_seen (record { number = n; end = at + size; ended_by_lf = ended; bytes = text }))
    (λ now. lines_of h (n + 1) (at + size) now (parts_of after))
unfolding lines_of
unrolled h n at size go_seen rest text after true lt e last len is =
    let p = part after in
    rw (e, p.2, is) refl
unrolled h n at size go_seen rest [] after false lt e last len is =
    let z : length after ≡ 0 = ap length (last refl) in absurd (omega arith)
unrolled h n at size go_seen rest (c ∷ cs) after false lt e last len is =
    let z : after ≡ [] = last refl in
    let some : is_empty (c ∷ cs) ≡ false = not_empty c cs in
    rw (e, z, is, some) refl

-- each line takes a byte
pub moves : (size : ℕ) (rest text after : List ℕ) (ended : Bool) → 0 < length rest → (ended ≡ false → after ≡ [])
    → length rest ≡ length text + cond ended 1 0 + length after → size ≡ length text + cond ended 1 0 → 0 < size
moves size rest text after true lt last len is = omega arith
moves size rest text after false lt last len is = let z : length after ≡ 0 = ap length (last refl) in omega arith

-- how many lines stand above `go`, where so many were read before what is still read
abbrev go_behind : Option ℕ → ℕ → Option ℕ → Option ℕ
go_behind (Some n) count more = Some n
go_behind None count None = None
go_behind None count (Some n) = Some (count + n)

-- what was read, and what is still read
abbrev behind : Trace → Trace → Trace
behind t more = record { header = t.header; lines = t.lines ++ more.lines; go = go_behind t.go (length t.lines) more.go; items = t.items ++ more.items }

abbrev pub with_front : Trace → Result Trace (ℕ × Reason) → Result Trace (ℕ × Reason)
with_front t (Ok more) = Ok (behind t more)
with_front t (Err e) = Err e

-- what was read, and what line n says
abbrev put_to : Trace → ℕ → Option Saying → Trace
put_to t n found = record { header = t.header; lines = with_found t.lines n found; go = with_go (length t.lines) t.go found; items = with_item t.items found }

go_line : (go more : Option ℕ) (count next : ℕ) → next ≡ count + 1 → go_behind go count (one_more_if more) ≡ go_behind go next more
go_line (Some n) more count next e = refl
go_line None None count next e = refl
go_line None (Some n) count next e = ap (λ (v : ℕ). Some v) (omega arith)

abbrev made_of : Header → List Line → Option ℕ → List Item → Trace
made_of h lines go items = record { header = h; lines = lines; go = go; items = items }

same_trace : (h : Header) (a b : List Line) (x y : Option ℕ) (v w : List Item) → a ≡ b → x ≡ y → v ≡ w → made_of h a x v ≡ made_of h b y w
same_trace h a b x y v w e f g = rw (e, f, g) refl

one_longer : (lines : List Line) (l : Line) → length (lines ++ l ∷ []) ≡ length lines + 1
one_longer lines l = length-append lines (l ∷ [])

first_go : (count : ℕ) (go more : Option ℕ) → go ≡ None → go_behind go count (Some 0) ≡ go_behind (Some count) count more
first_go count go more none = rw none (ap (λ (v : ℕ). Some v) (omega arith))

read_on : (h : Header) (t : Trace) (n : ℕ) (found : Option Saying) (rest : Result (List LineSaid) (ℕ × Reason)) → (found ≡ Some Go → t.go ≡ None)
    → with_front t (with_header h (with_line n found rest)) ≡ with_front (put_to t n found) (with_header h rest)
read_on h t n None (Ok told) first = refl
read_on h t n None (Err e) first = refl
read_on h t n (Some s) (Err e) first = refl
read_on h t n (Some (Does a c)) (Ok told) first =
    ap (λ (v : Trace). Ok v) (same_trace t.header _ _ _ _ _ _ (simp append_assoc refl)
    (go_line t.go (go_in told) (length t.lines) _ (one_longer t.lines (record { number = n; actor = a; command = c }))) refl)
read_on h t n (Some Go) (Ok told) first =
    ap (λ (v : Trace). Ok v) (same_trace t.header (t.lines ++ actor_lines told) (t.lines ++ actor_lines told) _ _ (t.items ++ items_in told)
    (t.items ++ items_in told) refl (first_go (length t.lines) t.go (go_in told) (first refl)) refl)
read_on h t n (Some (Schedules item)) (Ok told) first =
    ap (λ (v : Trace). Ok v) (same_trace t.header (t.lines ++ actor_lines told) (t.lines ++ actor_lines told) (go_behind t.go (length t.lines) (go_in told))
    (go_behind t.go (length t.lines) (go_in told)) _ _ refl refl (simp append_assoc refl))

-- What the lines after line n are read with.
abbrev Rest : Type 0
Rest = Bool → Result (List LineSaid) (ℕ × Reason)

put_trace : (h : Header) (old new : Body) (n : ℕ) (found : Option Saying) → IsPut old new n found → trace_with h new ≡ put_to (trace_with h old) n found
put_trace h old new n found put = same_trace h _ _ _ _ _ _ put.lines put.go put.items

go_after : (go : Option ℕ) (count : ℕ) (found : Option Saying) → is_some (with_go count go found) ≡ seen_after (is_some go) found
go_after go count None = refl
go_after go count (Some (Does a c)) = refl
go_after go count (Some Go) = refl
go_after go count (Some (Schedules item)) = refl

put_seen : (old new : Body) (n : ℕ) (found : Option Saying) → IsPut old new n found → is_some new.go ≡ seen_after (is_some old.go) found
put_seen old new n found put = rw put.go (go_after old.go (length old.lines.items) found)

not_there : (o : Option ℕ) → is_some o ≡ false → o ≡ None
not_there None e = refl
not_there (Some n) e = cc

pub goes_on : (h : Header) (old new : Body) (n : ℕ) (read : Result (Option Saying) Reason) (found : Option Saying)
    (here : Result (List LineSaid) (ℕ × Reason)) (rest : Rest) (total : Result Trace (ℕ × Reason)) → here ≡ onto n (is_some old.go) read rest
    → IsFirst (is_some old.go) read → read ≡ Ok found → IsPut old new n found → with_front (trace_with h old) (with_header h here) ≡ total
    → with_front (trace_with h new) (with_header h (rest (is_some new.go))) ≡ total
goes_on h old new n read found here rest total u first is put so_far =
    let now = put_seen old new n found put in
    let one : with_front (trace_with h old) (with_header h here)
    ≡ with_front (put_to (trace_with h old) n found) (with_header h (rest (seen_after (is_some old.go) found))) =
    rw (u, is)
    (read_on h (trace_with h old) n found (rest (seen_after (is_some old.go) found)) (λ go. not_there old.go (first (rw (is, go) refl)))) in
    rw (put_trace h old new n found put, now) (sym one ∙ so_far)

-- What was read stays in its ranges.
more_below : (o : Option ℕ) (m n : ℕ) → m ≤ n → IfSome o (λ above. above ≤ m) → IfSome o (λ above. above ≤ n)
more_below None m n le is = tt
more_below (Some k) m n le is = omega arith

put_lines : (h : Header) (lines : List Line) (n : ℕ) (found : Option Saying) → AreLinesOf h lines → IfSome found (λ s. IsSayingOf h s)
    → AreLinesOf h (with_found lines n found)
put_lines h lines n None all here = all
put_lines h lines n (Some (Does a c)) all here = All-push (IsLineOf h) lines (record { number = n; actor = a; command = c }) all here
put_lines h lines n (Some Go) all here = all
put_lines h lines n (Some (Schedules item)) all here = all

put_items : (h : Header) (items : List Item) (found : Option Saying) → All (IsItemOf h) items → IfSome found (λ s. IsSayingOf h s)
    → All (IsItemOf h) (with_item items found)
put_items h items None all here = all
put_items h items (Some (Does a c)) all here = all
put_items h items (Some Go) all here = all
put_items h items (Some (Schedules item)) all here = All-push (IsItemOf h) items item all here

put_go : (lines : List Line) (n : ℕ) (go : Option ℕ) (found : Option Saying) → IfSome go (λ above. above ≤ length lines)
    → IfSome (with_go (length lines) go found) (λ above. above ≤ length (with_found lines n found))
put_go lines n go None is = is
put_go lines n go (Some (Does a c)) is =
    let longer = one_longer lines (record { number = n; actor = a; command = c }) in more_below go (length lines) _ (omega (arith, longer)) is
put_go lines n go (Some Go) is = omega arith
put_go lines n go (Some (Schedules item)) is = is

pub all_read : (h : Header) (old new : Body) (n : ℕ) (found : Option Saying) → IsBodyOf h old → IfSome found (λ s. IsSayingOf h s)
    → IsPut old new n found → IsBodyOf h new
all_read h old new n found all here put = record {
  lines = rw put.lines (put_lines h old.lines.items n found all.lines here);
  items = rw put.items (put_items h old.items.items found all.items here);
  go = rw (put.go, put.lines) (put_go old.lines.items n old.go found all.go);
}

few_lines : (lines : List Line) (n : ℕ) (found : Option Saying) → length (with_found lines n found) ≤ length lines + 1
few_lines lines n None = omega arith
few_lines lines n (Some (Does a c)) = omega (arith, one_longer lines (record { number = n; actor = a; command = c }))
few_lines lines n (Some Go) = omega arith
few_lines lines n (Some (Schedules item)) = omega arith

pub one_line : (old new : Body) (n : ℕ) (found : Option Saying) → IsPut old new n found → length new.lines.items ≤ length old.lines.items + 1
one_line old new n found put = rw put.lines (few_lines old.lines.items n found)

-- Before the first line nothing was read.
no_lines : (go : Option ℕ) → go_behind None 0 go ≡ go
no_lines None = refl
no_lines (Some n) = ap (λ (v : ℕ). Some v) (omega arith)

nothing_before : (h : Header) (x : Result (List LineSaid) (ℕ × Reason)) → with_front (made_of h [] None []) (with_header h x) ≡ with_header h x
nothing_before h (Ok told) =
    ap (λ (v : Trace). Ok v) (same_trace h (actor_lines told) (actor_lines told) _ _ (items_in told) (items_in told) refl (no_lines (go_in told)) refl)
nothing_before h (Err e) = refl

pub starts : (h : Header) (body : Body) (n at : ℕ) (parts : List (List ℕ)) → body.lines.items ≡ [] → body.items.items ≡ [] → body.go ≡ None
    → with_front (trace_with h body) (with_header h (lines_of h n at (is_some body.go) parts)) ≡ with_header h (lines_of h n at false parts)
starts h body n at parts lines items go =
    let none : is_some body.go ≡ false = rw go refl in
    let empty : trace_with h body ≡ made_of h [] None [] = same_trace h _ _ _ _ _ _ lines go items in
    rw (none, empty) (nothing_before h (lines_of h n at false parts))

pub none_read : (h : Header) (body : Body) → body.lines.items ≡ [] → body.items.items ≡ [] → body.go ≡ None → IsBodyOf h body
none_read h body lines items go = record { lines = rw lines (All-nil (IsLineOf h)); items = rw items (All-nil (IsItemOf h)); go = rw go tt }

pub stops : (h : Header) (body : Body) (n : ℕ) (read : Result (Option Saying) Reason) (e : ReadError) (here : Result (List LineSaid) (ℕ × Reason))
    (rest : Rest) (total : Result Trace (ℕ × Reason)) → here ≡ onto n (is_some body.go) read rest → Fails n e read
    → with_front (trace_with h body) (with_header h here) ≡ total → NamesLine (trace_with h) (Err e) total
stops h body n read errors.NoMemory here rest total u fails so_far = tt
stops h body n read (errors.Refused line r) here rest total u fails so_far =
    let one : with_front (trace_with h body) (with_header h here) ≡ Err (line, r) = rw (u, fails.1, fails.0) refl in
    sym so_far ∙ one

go_alone : (go : Option ℕ) (count : ℕ) → go_behind go count None ≡ go
go_alone None count = refl
go_alone (Some n) count = refl

pub is_done : (h : Header) (body : Body) (n at : ℕ) (go_seen : Bool) (rest : List ℕ) (total : Result Trace (ℕ × Reason)) → length rest < 1
    → with_front (trace_with h body) (with_header h (lines_of h n at go_seen (parts_of rest))) ≡ total → total ≡ Ok (trace_with h body)
is_done h body n at go_seen rest total lt so_far =
    let whole = same_trace h _ _ _ _ _ _ (append-nil body.lines.items) (go_alone body.go (length body.lines.items)) (append-nil body.items.items) in
    let one : with_front (trace_with h body) (with_header h (lines_of h n at go_seen (parts_of rest))) ≡ Ok (trace_with h body) =
    rw (nothing_left h n at go_seen rest lt) (ap (λ (v : Trace). Ok v) whole) in
    sym so_far ∙ one
