-- The lines `wN split GFN`: what each says is read, and only that, and why it is refused.
use Rattle.std.proofs.Common.{◌≡◌, ◌≤◌, ◌<◌, ℕ, List, [], ◌∷◌, Ok, refl, subst, arith}
use Rattle.std.specs.Prelude.{codes}
use Rattle.std.specs.Fmt.{decimal}
use Rattle.core_views.specs.Text.{actor_name}
use Rattle.core_views.specs.Traces.{IsCommandOf}
use Rattle.core_views.specs.declared.actor.Actor.{Actor}
use Rattle.core_views.specs.declared.actor.Actor.TheVariants.{Vcpu, Host, Manager, Worker}
use Rattle.core_views.specs.declared.trace.Command.{Command}
use Rattle.core_views.specs.declared.trace.Command.TheVariants.{Split}
use Rattle.core_views.specs.declared.trace.Header.{Header}
use Rattle.trace_reader.specs.Operands.{guest_frame, worker}
use Rattle.trace_reader.specs.Forms.{by_command, by_form, split_form}
use Rattle.trace_reader.specs.Grammar.{AreCommandWords, AreWords, IsActor, IsCommandForm, IsSplitForm}
use Rattle.trace_reader.proofs.Judged.{IsOne, IsPairSaid, Judged, Tells, judged, named_why, none}
use Rattle.trace_reader.proofs.Operands.{bound, frame_found, frame_number, frame_spelled, worker_found, worker_named, worker_names}
use Rattle.trace_reader.proofs.PlainWords.{actor_word, spelled_word, text_word}
use Rattle.trace_reader.proofs.Results.{then_ok}

-- The actor is a worker.
abbrev pub IsWorker : Actor → Type 0
IsWorker (Worker i) = Unit {0}
IsWorker _ = ⊥

-- With this command's word only a worker has a form, which has one word after it.
abbrev Only : List ℕ → List (List ℕ) → Type 0
Only who rest = (a : Actor) → IsCommandForm (who ∷ codes "split" ∷ rest) a → (who ≡ actor_name a) × (IsWorker a × IsOne rest)

named : (who : List ℕ) (a : Actor) → who ≡ actor_name a → IsWorker a → IsActor a → (i : ℕ) × (i ≤ 3) × (who ≡ 119 ∷ decimal i)
named who (Vcpu i) e is le = absurd is
named who (Host i) e is le = absurd is
named who Manager e is le = absurd is
named who (Worker i) e is le = (i, le, e)

-- Why such a line is refused.
split_why : (h : Header) (who : List ℕ) (rest : List (List ℕ)) → Only who rest → Tells h (who ∷ codes "split" ∷ rest) (split_form h who rest)
unfolding split_form
split_why h who (x ∷ []) only =
    named_why h (who ∷ codes "split" ∷ x ∷ []) who 119 3 h.workers Worker (worker h who) _
    (record {
      is = λ i le. le;
      known = λ i lt. lt;
      below = λ i lt. lt;
      form = λ i name. (x, rw name refl);
      only = λ a form le. let (is, (worker, one)) = only a form in named who a is worker le;
    })
    (worker_names h who) (λ n. bound (guest_frame x) _ (frame_number x) (λ gfn. tt))
split_why h who [] only = none h (who ∷ codes "split" ∷ []) (λ a form. let (is, (worker, (y, e))) = only a form in cc)
split_why h who (x ∷ y ∷ more) only = none h (who ∷ codes "split" ∷ x ∷ y ∷ more) (λ a form. let (is, (worker, (z, e))) = only a form in cc)

-- What is read is said.
split_form_found : (h : Header) (who : List ℕ) (rest : List (List ℕ)) (p : Actor × Command) → split_form h who rest ≡ Ok p
    → IsPairSaid h (who ∷ codes "split" ∷ rest) p
unfolding split_form
split_form_found h who (x ∷ []) p e =
    then_ok (worker h who) _ p e (λ n is_n e1.
    then_ok (guest_frame x) _ p e1 (λ gfn is_gfn e2.
    let same : (Worker n, Split gfn) ≡ p = cc in
    let v = worker_found h who n is_n in
    let g = frame_found x gfn is_gfn in
    subst (IsPairSaid h (who ∷ codes "split" ∷ x ∷ [])) same ((v.1, g.1), (x, rw v.0 refl, g.0))))
split_form_found h who [] p e = absurd (let no : ⊥ = cc in no)
split_form_found h who (x ∷ y ∷ more) p e = absurd (let no : ⊥ = cc in no)

pub split_judged : (h : Header) (who : List ℕ) (rest : List (List ℕ)) → Only who rest → Judged h (who ∷ codes "split" ∷ rest) (split_form h who rest)
split_judged h who rest only =
    judged h (who ∷ codes "split" ∷ rest) (split_form h who rest) (λ p. split_form_found h who rest p) (split_why h who rest only)

-- What its words say is read.
split_spelled : (h : Header) (x : List ℕ) (i gfn : ℕ) → h.workers ≤ 4 → i < h.workers → guest_frame x ≡ Ok gfn
    → split_form h (119 ∷ decimal i) (x ∷ []) ≡ Ok (Worker i, Split gfn)
unfolding split_form
split_spelled h x i gfn few known e = rw (worker_named h i known few, e) refl

-- The word is the one of its row.
split_row : (h : Header) (who : List ℕ) (rest : List (List ℕ)) → by_form h (who ∷ codes "split" ∷ rest) ≡ split_form h who rest
unfolding by_form by_command
split_row h who rest = refl

pub split_reads : (h : Header) (words : List (List ℕ)) (i gfn : ℕ) → h.workers ≤ 4 → IsCommandOf h (Worker i) (Split gfn)
    → AreCommandWords words (Worker i) (Split gfn) → by_form h words ≡ Ok (Worker i, Split gfn)
split_reads h words i gfn few range (x, e, s) =
    rw (e, split_row h (119 ∷ decimal i) (x ∷ [])) (split_spelled h x i gfn few range.0 (frame_spelled x gfn s range.1))

-- They are of its form, and words.
pub split_line_form : (words : List (List ℕ)) (i gfn : ℕ) → AreCommandWords words (Worker i) (Split gfn) → IsSplitForm i words
split_line_form words i gfn (x, e, s) = (x, e)

pub split_plain : (words : List (List ℕ)) (i gfn : ℕ) → i ≤ 3 → AreCommandWords words (Worker i) (Split gfn) → AreWords words
split_plain words i gfn le (x, e, s) = rw e (actor_word (Worker i) le, (text_word (codes "split") (omega arith) refl, (spelled_word x _ s, tt)))
