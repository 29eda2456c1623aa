-- The line `hN huge P L`: what it says is read, and only that, and why it is refused.
use Rattle.std.proofs.Common.{◌≡◌, ◌≤◌, inl, inr, ℕ, List, [], ◌∷◌, true, Ok, refl, subst, arith, length}
use Rattle.std.specs.Prelude.{codes}
use Rattle.std.proofs.lemmas.Bool.Decides.{nat_tests}
use Rattle.core_views.specs.Traces.{IsCommandOf}
use Rattle.core_views.specs.declared.actor.Actor.{Actor}
use Rattle.core_views.specs.declared.actor.Actor.TheVariants.{Host}
use Rattle.core_views.specs.declared.trace.Command.{Command}
use Rattle.core_views.specs.declared.trace.Command.TheVariants.{ChangeRun}
use Rattle.core_views.specs.declared.trace.RunChange.TheVariants.{Huge}
use Rattle.core_views.specs.declared.trace.Header.{Header}
use Rattle.trace_reader.specs.Operands.{host_thread, is_large_level, large_level, number}
use Rattle.trace_reader.specs.HostForms.{by_host, huge_form}
use Rattle.trace_reader.specs.Forms.{by_command, by_form}
use Rattle.trace_reader.specs.HostGrammar.{IsHugeForm}
use Rattle.trace_reader.specs.Grammar.{AreCommandWords, AreWords, Spells}
use Rattle.trace_reader.proofs.HostLines.{OnlyHosts, host_name}
use Rattle.trace_reader.proofs.Judged.{AreTwo, IsPairSaid, Judged, Tells, judged, named_why, none}
use Rattle.trace_reader.proofs.Operands.{IsNumber, bound, fits, host_found, host_named, host_names, number_found, number_number, number_spelled}
use Rattle.trace_reader.proofs.PlainWords.{actor_word, spelled_word, text_word}
use Rattle.trace_reader.proofs.Results.{branch, then_ok}

-- The level: a number that isn't one of large pages is refused as a number.
level_number : (w : List ℕ) → IsNumber (large_level w)
unfolding large_level
level_number w = bound (number w) _ (number_number w) (λ level. fits (is_large_level level) level)

level_found : (w : List ℕ) (level : ℕ) → large_level w ≡ Ok level → Spells w level × (2 ≤ level) × (level ≤ 3)
unfolding large_level
level_found w level e =
    then_ok (number w) _ level e (λ n is_n e1.
    elim (branch (is_large_level n) _ _ (Ok level) e1) [
      | inl q ↦ let same : n ≡ level = cc in
          subst (λ (l : ℕ). Spells w l × (2 ≤ l) × (l ≤ 3)) same
          (number_found w n is_n, grind (arith, nat_tests, q.0), grind (arith, nat_tests, q.0))
      | inr q ↦ absurd (let no : ⊥ = cc in no)
    ])

level_spelled : (w : List ℕ) (level : ℕ) → Spells w level → 2 ≤ level → level ≤ 3 → large_level w ≡ Ok level
unfolding large_level
level_spelled w level s low high =
    let large : is_large_level level ≡ true = grind (arith, nat_tests) in
    rw (number_spelled w level s, large) refl

-- Why such a line is refused: the thread's name is looked at, then the numbers.
huge_why : (h : Header) (who : List ℕ) (rest : List (List ℕ)) → OnlyHosts who (codes "huge") rest AreTwo
    → Tells h (who ∷ codes "huge" ∷ rest) (huge_form h who rest)
unfolding huge_form
huge_why h who (x ∷ y ∷ []) only =
    named_why h (who ∷ codes "huge" ∷ x ∷ y ∷ []) who 104 3 (length h.hosts) Host (host_thread h who) _
    (record {
      is = λ i le. le;
      known = λ i lt. lt;
      below = λ i lt. lt;
      form = λ i name. inr (inl (x, y, rw name refl));
      only = λ a form le. let (is, (host, two)) = only a form in host_name who a is host le;
    })
    (host_names h who) (λ n. bound (number x) _ (number_number x) (λ page. bound (large_level y) _ (level_number y) (λ level. tt)))
huge_why h who [] only = none h (who ∷ codes "huge" ∷ []) (λ a form. let (is, (host, (z, u, e))) = only a form in cc)
huge_why h who (x ∷ []) only = none h (who ∷ codes "huge" ∷ x ∷ []) (λ a form. let (is, (host, (z, u, e))) = only a form in cc)
huge_why h who (x ∷ y ∷ v ∷ more) only = none h (who ∷ codes "huge" ∷ x ∷ y ∷ v ∷ more) (λ a form. let (is, (host, (z, u, e))) = only a form in cc)

-- What is read is said.
huge_found : (h : Header) (who : List ℕ) (rest : List (List ℕ)) (p : Actor × Command) → huge_form h who rest ≡ Ok p
    → IsPairSaid h (who ∷ codes "huge" ∷ rest) p
unfolding huge_form
huge_found h who (x ∷ y ∷ []) p e =
    then_ok (host_thread h who) _ p e (λ n is_n e1.
    then_ok (number x) _ p e1 (λ page is_page e2.
    then_ok (large_level y) _ p e2 (λ level is_level e3.
    let same : (Host n, ChangeRun page (Huge level)) ≡ p = cc in
    let (name, lt) = host_found h who n is_n in
    let (s, low, high) = level_found y level is_level in
    subst (IsPairSaid h (who ∷ codes "huge" ∷ x ∷ y ∷ [])) same ((lt, (low, high)), (x, y, rw name refl, number_found x page is_page, s)))))
huge_found h who [] p e = absurd (let no : ⊥ = cc in no)
huge_found h who (x ∷ []) p e = absurd (let no : ⊥ = cc in no)
huge_found h who (x ∷ y ∷ v ∷ more) p e = absurd (let no : ⊥ = cc in no)

pub huge_judged : (h : Header) (who : List ℕ) (rest : List (List ℕ)) → OnlyHosts who (codes "huge") rest AreTwo
    → Judged h (who ∷ codes "huge" ∷ rest) (huge_form h who rest)
huge_judged h who rest only = judged h (who ∷ codes "huge" ∷ rest) (huge_form h who rest) (huge_found h who rest) (huge_why h who rest only)

-- What its words say is read.
pub huge_reads : (h : Header) (words : List (List ℕ)) (i page level : ℕ) → length h.hosts ≤ 4
    → IsCommandOf h (Host i) (ChangeRun page (Huge level)) → AreCommandWords words (Host i) (ChangeRun page (Huge level))
    → by_form h words ≡ Ok (Host i, ChangeRun page (Huge level))
unfolding by_form by_command by_host huge_form
huge_reads h words i page level few (known, (low, high)) (x, y, e, s, t) =
    rw (e, host_named h i known few, number_spelled x page s, level_spelled y level t low high) refl

-- They are of its form, and words.
pub huge_line_form : (words : List (List ℕ)) (i page level : ℕ) → AreCommandWords words (Host i) (ChangeRun page (Huge level)) → IsHugeForm i words
huge_line_form words i page level (x, y, e, s, t) = (x, y, e)

pub huge_plain : (words : List (List ℕ)) (i page level : ℕ) → i ≤ 3 → AreCommandWords words (Host i) (ChangeRun page (Huge level)) → AreWords words
huge_plain words i page level le (x, y, e, s, t) =
    rw e (actor_word (Host i) le, (text_word (codes "huge") (omega arith) refl, (spelled_word x _ s, (spelled_word y _ t, tt))))
