-- What the texts of the lines after the header say is read, and only that.
use Rattle.std.proofs.Common.{◌≡◌, ◌≤◌, ◌+◌, ◌++◌, ◌||◌, inl, inr, ℕ, List, [], ◌∷◌, Bool, true, false, cond, Result, Ok, Err, length, refl, ap, ◌∙◌, arith}
use Rattle.std.specs.Prelude.{is_some}
use Rattle.std.proofs.lemmas.Bool.Decides.{nat_tests}
use Rattle.std.proofs.lemmas.List.{length-append}
use Rattle.std.specs.declared.option.Option.{Option}
use Rattle.std.specs.declared.option.Option.TheVariants.{Some, None}
use Rattle.core_views.specs.Traces.{IsHeader}
use Rattle.core_views.specs.declared.trace.Header.{Header}
use Rattle.trace_reader.specs.declared.reason.Reason.{Reason}
use Rattle.trace_reader.specs.declared.saying.Saying.{Saying}
use Rattle.trace_reader.specs.declared.saying.Saying.TheVariants.{Does, Go, Schedules}
use Rattle.trace_reader.specs.Operands.{◌>>=◌}
use Rattle.trace_reader.specs.Sayings.{said}
use Rattle.trace_reader.specs.Lines.{Raw, LineSaid, fault_of, after_checks, is_skipped, content, line_of, with_line, onto, raw, lines_of, seen_with}
use Rattle.trace_reader.specs.Gathered.{go_in, one_more_if}
use Rattle.trace_reader.specs.LineGrammar.{SaysLine}
use Rattle.trace_reader.specs.InputGrammar.{with_ends, IsText, IsSkipped, SayLines, PassesAll, LineFails}
use Rattle.trace_reader.proofs.Prefix.{with_prefix}
use Rattle.trace_reader.proofs.Loop.{not_empty}
use Rattle.trace_reader.proofs.Bytes.{says, only_said}
use Rattle.trace_reader.proofs.Reasons.{the_reason, no_other}
use Rattle.trace_reader.proofs.Checks.{Judged, judged, faultless, faulty}

skipped : (bs : List ℕ) → is_skipped bs ≡ true → IsSkipped bs
skipped [] e = inl refl
skipped (b ∷ bs) e = let v : b ≡ 35 = grind (arith, nat_tests) in inr (bs, rw v refl)

skips : (bs : List ℕ) → IsSkipped bs → is_skipped bs ≡ true
skips bs (inl e) = rw e refl
skips bs (inr (comment, e)) = rw e refl

kept : (b : Bool) → (b ≡ true → ⊥) → b ≡ false
kept true never = absurd (never refl)
kept false never = refl

not_skipped : (bs : List ℕ) → (IsSkipped bs → ⊥) → is_skipped bs ≡ false
not_skipped bs never = kept (is_skipped bs) (λ e. never (skipped bs e))

-- What a line says, or why it fails.
abbrev LineJudged : Header → Bool → Raw → Result (Option Saying) Reason → Type 0
LineJudged h go_seen line (Ok None) = PassesAll line × IsSkipped line.bytes
LineJudged h go_seen line (Ok (Some s)) = PassesAll line × (IsSkipped line.bytes → ⊥) × SaysLine h go_seen line.bytes s
LineJudged h go_seen line (Err r) = LineFails h go_seen line r

by_content : (h : Header) (go_seen : Bool) (line : Raw) → IsHeader h → PassesAll line → (b : Bool) → is_skipped line.bytes ≡ b
    → (x : Result Saying Reason) → said h go_seen line.bytes ≡ x → LineJudged h go_seen line (cond b (Ok None) (x >>= λ s. Ok (Some s)))
by_content h go_seen line header all true e x is = (all, skipped line.bytes e)
by_content h go_seen line header all false e (Ok s) is = (all, (λ skip. let t = skips line.bytes skip in cc), only_said h go_seen line.bytes s is)
by_content h go_seen line header all false e (Err r) is = inr (all, (λ skip. let t = skips line.bytes skip in cc), no_other h go_seen line.bytes r header is)

by_fault : (h : Header) (go_seen : Bool) (line : Raw) (o : Option Reason) (x : Result (Option Saying) Reason) → Judged line o
    → (PassesAll line → LineJudged h go_seen line x) → LineJudged h go_seen line (after_checks o x)
by_fault h go_seen line None x all more = more all
by_fault h go_seen line (Some r) x fails more = inl fails

line_judged : (h : Header) (go_seen : Bool) (line : Raw) → IsHeader h → LineJudged h go_seen line (line_of h go_seen line)
unfolding line_of content
line_judged h go_seen line header =
    by_fault h go_seen line (fault_of line) _ (judged line)
    (λ all. by_content h go_seen line header all (is_skipped line.bytes) refl (said h go_seen line.bytes) refl)

line_skipped : (h : Header) (go_seen : Bool) (line : Raw) → PassesAll line → IsSkipped line.bytes → line_of h go_seen line ≡ Ok None
unfolding line_of content
line_skipped h go_seen line all s = rw (faultless line all, skips line.bytes s) refl

line_says : (h : Header) (go_seen : Bool) (line : Raw) (s : Saying) → IsHeader h → PassesAll line → (IsSkipped line.bytes → ⊥)
    → SaysLine h go_seen line.bytes s → line_of h go_seen line ≡ Ok (Some s)
unfolding line_of content
line_says h go_seen line s header all never is = rw (faultless line all, not_skipped line.bytes never, says h go_seen line.bytes s header is) refl

pub line_fails : (h : Header) (go_seen : Bool) (line : Raw) (r : Reason) → IsHeader h → LineFails h go_seen line r → line_of h go_seen line ≡ Err r
unfolding line_of content
line_fails h go_seen line r header (inl f) = rw (faulty line r f) refl
line_fails h go_seen line r header (inr (all, never, why)) =
    rw (faultless line all, not_skipped line.bytes never, the_reason h go_seen line.bytes r header why) refl

-- whether `go` was seen, with what these lines say
abbrev pub seen_behind : Bool → List LineSaid → Bool
seen_behind go_seen told = go_seen || is_some (go_in told)

-- LF ends the first of them.
abbrev pub more_of : List (List ℕ) → Bool
more_of [] = false
more_of (x ∷ xs) = true

-- Behind what was told nothing stands, or a line that fails.
abbrev pub Ends : Header → ℕ → ℕ → Bool → List ℕ → List (List ℕ) → List LineSaid → Result (List LineSaid) (ℕ × Reason) → Type 0
Ends h n at go_seen text rest told (Ok out) = (out ≡ told) × (text ≡ []) × (rest ≡ [])
Ends h n at go_seen text rest told (Err e) = (e.0 ≡ n) × (rest ≡ [] → text ≡ [] → ⊥) × LineFails h go_seen (raw n at (more_of rest) text) e.1

-- The parts are cut into the texts of lines that say something, and what stands after them.
pub record IsCut (h : Header) (n at : ℕ) (go_seen : Bool) (parts : List (List ℕ)) (x : Result (List LineSaid) (ℕ × Reason)) : Type 0 where
  pub texts : List (List ℕ)
  pub text : List ℕ
  pub rest : List (List ℕ)
  pub told : List LineSaid
  pub cut : parts ≡ texts ++ text ∷ rest
  pub say : SayLines h n go_seen texts told
  pub size : at + length (with_ends texts) ≤ 16777216
  pub count : n + length texts ≤ 1000001
  pub ends : Ends h (n + length texts) (at + length (with_ends texts)) (seen_behind go_seen told) text rest told x

pub long : (text : List ℕ) (texts : List (List ℕ)) → length (with_ends (text ∷ texts)) ≡ length text + 1 + length (with_ends texts)
long text texts =
    let l : length (text ++ 10 ∷ with_ends texts) ≡ length text + length (10 ∷ with_ends texts) = length-append text (10 ∷ with_ends texts) in
    omega arith

or_none : (a : Bool) → a ≡ (a || false)
or_none true = refl
or_none false = refl

more_there : (a : Bool) (o : Option ℕ) → (a || is_some o) ≡ (a || is_some (one_more_if o))
more_there a None = refl
more_there a (Some n) = refl

go_there : (a : Bool) → true ≡ (a || true)
go_there true = refl
go_there false = refl

seen_then : (go_seen : Bool) (n : ℕ) (s : Saying) (told : List LineSaid)
    → seen_behind (seen_with go_seen s) told ≡ seen_behind go_seen ((n, s) ∷ told)
seen_then go_seen n (Does a c) told = more_there go_seen (go_in told)
seen_then go_seen n Go told = go_there go_seen
seen_then go_seen n (Schedules item) told = refl

pub seen_alone : (go_seen : Bool) → go_seen ≡ seen_behind go_seen []
seen_alone go_seen = or_none go_seen

moved : (h : Header) (n n1 at at1 : ℕ) (go_seen seen1 : Bool) (text : List ℕ) (rest : List (List ℕ)) (told : List LineSaid) (x : Result (List LineSaid) (ℕ
    × Reason)) → n ≡ n1 → at ≡ at1 → go_seen ≡ seen1 → Ends h n at go_seen text rest told x → Ends h n1 at1 seen1 text rest told x
moved h n n1 at at1 go_seen seen1 text rest told x e e1 e2 ends = rw (← e, ← e1, ← e2) ends

front_ends : (h : Header) (n at : ℕ) (go_seen : Bool) (text : List ℕ) (rest : List (List ℕ)) (m : ℕ) (s : Saying) (told : List LineSaid)
    (x : Result (List LineSaid) (ℕ × Reason)) → Ends h n at go_seen text rest told x → Ends h n at go_seen text rest ((m, s) ∷ told) (with_line m (Some s) x)
front_ends h n at go_seen text rest m s told (Ok out) (e, a, b) = (ap (λ (v : List LineSaid). (m, s) ∷ v) e, a, b)
front_ends h n at go_seen text rest m s told (Err e) ends = ends

skip_front : (h : Header) (n at : ℕ) (go_seen : Bool) (text : List ℕ) (parts : List (List ℕ)) (x : Result (List LineSaid) (ℕ × Reason)) → IsText text
    → IsSkipped text → IsCut h (n + 1) (at + (length text + 1)) go_seen parts x → IsCut h n at go_seen (text ∷ parts) x
skip_front h n at go_seen text parts x is s k =
    let far : at + (length text + 1) + length (with_ends k.texts) ≡ at + length (with_ends (text ∷ k.texts)) = omega (arith, long text k.texts) in
    let next : n + 1 + length k.texts ≡ n + length (text ∷ k.texts) = omega arith in
    record {
      texts = text ∷ k.texts;
      text = k.text;
      rest = k.rest;
      told = k.told;
      cut = ap (λ (v : List (List ℕ)). text ∷ v) k.cut;
      say = (is, inl (s, k.say));
      size = omega (arith, far, k.size);
      count = omega (arith, next, k.count);
      ends = moved h _ _ _ _ _ _ k.text k.rest k.told x next far refl k.ends;
    }

line_front : (h : Header) (n at : ℕ) (go_seen : Bool) (text : List ℕ) (parts : List (List ℕ)) (s : Saying) (x : Result (List LineSaid) (ℕ × Reason))
    → IsText text → (IsSkipped text → ⊥) → SaysLine h go_seen text s → IsCut h (n + 1) (at + (length text + 1)) (seen_with go_seen s) parts x
    → IsCut h n at go_seen (text ∷ parts) (with_line n (Some s) x)
line_front h n at go_seen text parts s x is never says k =
    let far : at + (length text + 1) + length (with_ends k.texts) ≡ at + length (with_ends (text ∷ k.texts)) = omega (arith, long text k.texts) in
    let next : n + 1 + length k.texts ≡ n + length (text ∷ k.texts) = omega arith in
    record {
      texts = text ∷ k.texts;
      text = k.text;
      rest = k.rest;
      told = (n, s) ∷ k.told;
      cut = ap (λ (v : List (List ℕ)). text ∷ v) k.cut;
      say = (is, inr (never, (s, k.told, refl, says, k.say)));
      size = omega (arith, far, k.size);
      count = omega (arith, next, k.count);
      ends = front_ends h _ _ _ k.text k.rest n s k.told x (moved h _ _ _ _ _ _ k.text k.rest k.told x next far (seen_then go_seen n s k.told) k.ends);
    }

-- The first of the lines fails.
fails_here : (h : Header) (n at : ℕ) (go_seen : Bool) (text : List ℕ) (rest : List (List ℕ)) (r : Reason) → at ≤ 16777216 → n ≤ 1000001
    → (rest ≡ [] → text ≡ [] → ⊥) → LineFails h go_seen (raw n at (more_of rest) text) r → IsCut h n at go_seen (text ∷ rest) (Err (n, r))
fails_here h n at go_seen text rest r small few some fails = record {
  texts = [];
  text = text;
  rest = rest;
  told = [];
  cut = refl;
  say = refl;
  size = omega arith;
  count = omega arith;
  ends =
      moved h n (n + 0) at (at + 0) go_seen (seen_behind go_seen []) text rest [] (Err (n, r)) (omega arith) (omega arith) (seen_alone go_seen)
      (refl, some, fails);
}

nothing : (h : Header) (n at : ℕ) (go_seen : Bool) → at ≤ 16777216 → n ≤ 1000001 → IsCut h n at go_seen ([] ∷ []) (Ok [])
nothing h n at go_seen small few =
    record { texts = []; text = []; rest = []; told = []; cut = refl; say = refl; size = omega arith; count = omega arith; ends = (refl, refl, refl) }

last_cut : (h : Header) (n at : ℕ) (go_seen : Bool) (c : ℕ) (cs : List ℕ) (z : Result (Option Saying) Reason) → at ≤ 16777216 → n ≤ 1000001
    → LineJudged h go_seen (raw n at false (c ∷ cs)) z → IsCut h n at go_seen ((c ∷ cs) ∷ []) (onto n go_seen z (λ now. Ok []))
last_cut h n at go_seen c cs (Ok None) small few (all, s) = absurd (elim (all.2) [ inl e ↦ cc | inr e ↦ cc ])
last_cut h n at go_seen c cs (Ok (Some l)) small few (all, never, s) = absurd (elim (all.2) [ inl e ↦ cc | inr e ↦ cc ])
last_cut h n at go_seen c cs (Err r) small few fails = fails_here h n at go_seen (c ∷ cs) [] r small few (λ none empty. cc) fails

-- What the lines after a first one are read as.
abbrev IsRest : Header → ℕ → ℕ → List (List ℕ) → Type 0
IsRest h n at parts = (now : Bool) → at ≤ 16777216 → n ≤ 1000001 → IsCut h n at now parts (lines_of h n at now parts)

next_cut : (h : Header) (n at : ℕ) (go_seen : Bool) (text y : List ℕ) (more : List (List ℕ)) (z : Result (Option Saying) Reason) → at ≤ 16777216
    → n ≤ 1000001 → LineJudged h go_seen (raw n at true text) z → IsRest h (n + 1) (at + (length text + 1)) (y ∷ more)
    → IsCut h n at go_seen (text ∷ y ∷ more) (onto n go_seen z (λ now. lines_of h (n + 1) (at + (length text + 1)) now (y ∷ more)))
next_cut h n at go_seen text y more (Ok None) small few (all, s) rest =
    skip_front h n at go_seen text (y ∷ more) _ (all.3, all.4) s (rest go_seen all.0 (omega (arith, all.1)))
next_cut h n at go_seen text y more (Ok (Some l)) small few (all, never, s) rest =
    line_front h n at go_seen text (y ∷ more) l _ (all.3, all.4) never s (rest (seen_with go_seen l) all.0 (omega (arith, all.1)))
next_cut h n at go_seen text y more (Err r) small few fails rest = fails_here h n at go_seen text (y ∷ more) r small few (λ none empty. cc) fails

-- What is read of the lines after the header is what they say.
pub cuts : (h : Header) (n at : ℕ) (go_seen : Bool) (p : List ℕ) (ps : List (List ℕ)) → IsHeader h → at ≤ 16777216 → n ≤ 1000001
    → IsCut h n at go_seen (p ∷ ps) (lines_of h n at go_seen (p ∷ ps))
unfolding lines_of
cuts h n at go_seen [] [] header small few = nothing h n at go_seen small few
cuts h n at go_seen (c ∷ cs) [] header small few =
    rw (not_empty c cs)
    (last_cut h n at go_seen c cs (line_of h go_seen (raw n at false (c ∷ cs))) small few (line_judged h go_seen (raw n at false (c ∷ cs)) header))
cuts h n at go_seen p (y ∷ more) header small few =
    next_cut h n at go_seen p y more (line_of h go_seen (raw n at true p)) small few (line_judged h go_seen (raw n at true p) header)
    (λ now little less. cuts h (n + 1) (at + (length p + 1)) now y more header little less)

-- What the lines after the header say is read.
unroll : (h : Header) (n at : ℕ) (go_seen : Bool) (x y : List ℕ) (zs ys : List (List ℕ)) → zs ≡ y ∷ ys
    → lines_of h n at go_seen (x ∷ zs) ≡ onto n go_seen (line_of h go_seen (raw n at true x)) (λ now. lines_of h (n + 1) (at + (length x + 1)) now zs)
unfolding lines_of
unroll h n at go_seen x y zs ys e = rw e refl

pub consed : (xs : List (List ℕ)) (p : List ℕ) (ps : List (List ℕ)) → (y : List ℕ) × (ys : List (List ℕ)) × (xs ++ p ∷ ps ≡ y ∷ ys)
consed [] p ps = (p, ps, refl)
consed (x ∷ xs) p ps = (x, xs ++ p ∷ ps, refl)

same_lines : (h : Header) (n n1 at at1 : ℕ) (go_seen seen1 : Bool) (parts : List (List ℕ)) → n ≡ n1 → at ≡ at1 → go_seen ≡ seen1
    → lines_of h n at go_seen parts ≡ lines_of h n1 at1 seen1 parts
same_lines h n n1 at at1 go_seen seen1 parts e e1 e2 = rw (e, e1, e2) refl

no_prefix : (x : Result (List LineSaid) (ℕ × Reason)) → x ≡ with_prefix [] x
no_prefix (Ok ls) = refl
no_prefix (Err e) = refl

onto_prefix : (n : ℕ) (s : Saying) (told : List LineSaid) (x : Result (List LineSaid) (ℕ × Reason))
    → with_line n (Some s) (with_prefix told x) ≡ with_prefix ((n, s) ∷ told) x
onto_prefix n s told (Ok rest) = refl
onto_prefix n s told (Err e) = refl

pub said_lines : (h : Header) (n at : ℕ) (go_seen : Bool) (texts : List (List ℕ)) (told : List LineSaid) (p : List ℕ) (ps : List (List ℕ)) → IsHeader h
    → SayLines h n go_seen texts told → at + length (with_ends texts) ≤ 16777216 → n + length texts ≤ 1000001
    → lines_of h n at go_seen (texts ++ p ∷ ps)
    ≡ with_prefix told (lines_of h (n + length texts) (at + length (with_ends texts)) (seen_behind go_seen told) (p ∷ ps))
said_lines h n at go_seen [] told p ps header say small few =
    rw say (same_lines h n (n + 0) at (at + 0) go_seen (seen_behind go_seen []) (p ∷ ps) (omega arith) (omega arith) (seen_alone go_seen)
    ∙ no_prefix (lines_of h (n + 0) (at + 0) (seen_behind go_seen []) (p ∷ ps)))
said_lines h n at go_seen (x ∷ xs) told p ps header (is, inl (s, say)) small few =
    let far : at + (length x + 1) + length (with_ends xs) ≡ at + length (with_ends (x ∷ xs)) = omega (arith, long x xs) in
    let next : n + 1 + length xs ≡ n + length (x ∷ xs) = omega arith in
    let (y, ys, e) = consed xs p ps in
    let all : PassesAll (raw n at true x) = (omega (arith, far), omega (arith, next), inl refl, is.0, is.1) in
    let line : lines_of h n at go_seen (x ∷ (xs ++ p ∷ ps)) ≡ lines_of h (n + 1) (at + (length x + 1)) go_seen (xs ++ p ∷ ps) =
    unroll h n at go_seen x y (xs ++ p ∷ ps) ys e ∙ rw (line_skipped h go_seen (raw n at true x) all s) refl in
    line ∙ said_lines h (n + 1) (at + (length x + 1)) go_seen xs told p ps header say (omega (arith, far)) (omega (arith, next))
    ∙ ap (with_prefix told) (same_lines h _ _ _ _ _ _ (p ∷ ps) next far refl)
said_lines h n at go_seen (x ∷ xs) told p ps header (is, inr (never, (s, more, e0, says, say))) small few =
    let far : at + (length x + 1) + length (with_ends xs) ≡ at + length (with_ends (x ∷ xs)) = omega (arith, long x xs) in
    let next : n + 1 + length xs ≡ n + length (x ∷ xs) = omega arith in
    let (y, ys, e) = consed xs p ps in
    let all : PassesAll (raw n at true x) = (omega (arith, far), omega (arith, next), inl refl, is.0, is.1) in
    let line : lines_of h n at go_seen (x ∷ (xs ++ p ∷ ps))
    ≡ with_line n (Some s) (lines_of h (n + 1) (at + (length x + 1)) (seen_with go_seen s) (xs ++ p ∷ ps)) =
    unroll h n at go_seen x y (xs ++ p ∷ ps) ys e ∙ rw (line_says h go_seen (raw n at true x) s header all never says) refl in
    rw e0 (line ∙ ap (with_line n (Some s))
    (said_lines h (n + 1) (at + (length x + 1)) (seen_with go_seen s) xs more p ps header say (omega (arith, far)) (omega (arith, next))
    ∙ ap (with_prefix more) (same_lines h _ _ _ _ _ _ (p ∷ ps) next far (seen_then go_seen n s more)))
    ∙ onto_prefix n s more _)
