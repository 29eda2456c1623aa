use Rattle.std.proofs.Common.{◌≡◌, ◌≤◌, ◌<◌, ◌-◌, ℕ, zero, suc, List, [], ◌∷◌, Bor, map, length, get_or, refl, sym, ap, ◌∙◌, arith}
use Rattle.std.proofs.lemmas.List.{get_or_past, length-map}
use Rattle.trace_reader.specs.Items.{kind_name, kind_names}
use Rattle.trace_reader.proofs.item.kind_name.Goals as goal
use Rattle.trace_reader.proofs.item.kind_name.Goals.{then-code-eq0-via-then-code-eq0, then-code-eq0-via-else-code-eq0+then-code-gt41}

-- The text at an index of texts.
text_at : (texts : List (Bor (List ℕ))) (k : ℕ) (d : Bor (List ℕ)) → k < length texts → (get_or texts k d).now ≡ get_or (map (λ t. t.now) texts) k []
text_at [] k d within = absurd (omega arith)
text_at (t ∷ ts) zero d within = refl
text_at (t ∷ ts) (suc k) d within = text_at ts k d (omega arith)

no_zeroth : kind_name 0 ≡ []
unfolding kind_name
no_zeroth = refl

none_past : (code : ℕ) → 41 < code → kind_name code ≡ []
unfolding kind_name
none_past code past = get_or_past ([] ∷ kind_names) code [] (omega arith)

named : (code : ℕ) → 1 ≤ code → get_or kind_names (code - 1) [] ≡ kind_name code
unfolding kind_name
named zero from = absurd (omega arith)
named (suc k) from = let e : suc k - 1 ≡ k = omega arith in ap (λ (j : ℕ). get_or kind_names j []) e

-- Where the texts are the names of the kinds, each kind's is before its number.
text_of : (texts : List (Bor (List ℕ))) (code : ℕ) (d : Bor (List ℕ)) → map (λ t. t.now) texts ≡ kind_names → 1 ≤ code → code ≤ 41
    → (get_or texts (code - 1) d).now ≡ kind_name code
text_of texts code d are from to =
    let many : length (map (λ (t : Bor (List ℕ)). t.now) texts) ≡ 41 = ap length are in
    let within : code - 1 < length texts = omega (arith, many, length-map texts (λ (t : Bor (List ℕ)). t.now)) in
    text_at texts (code - 1) d within ∙ ap (λ (names : List (List ℕ)). get_or names (code - 1) []) are ∙ named code from

pub returns-then-code-eq0 : goal.returns-then-code-eq0
returns-then-code-eq0 c = elim c.then-code-eq0.branch [
  | then-code-eq0-via-then-code-eq0 w ↦ rw w.if-code-eq0.true (sym no_zeroth)
  | then-code-eq0-via-else-code-eq0+then-code-gt41 w ↦ sym (none_past c.args.code w.if-code-gt41.true)
]

pub returns : goal.returns
returns c =
    let are : map (λ (t : Bor (List ℕ)). t.now) c.as_slice-names.result.now ≡ kind_names = ap (map (λ (t : Bor (List ℕ)). t.now)) c.as_slice-names.ensures in
    text_of c.as_slice-names.result.now c.args.code _ are (omega arith) (omega arith)
