-- What is put after what was put before: the laws of a printer of answers.
use Rattle.std.proofs.Common.{◌≡◌, ◌≤◌, ◌+◌, ◌⊎◌, inl, ℕ, List, [], ◌∷◌, ◌++◌, Ok, append_assoc, length, length-append, take, refl, sym, ap, subst, ◌∙◌, arith}
use Rattle.std.proofs.lemmas.List.{append-nil}
use Rattle.std.proofs.Math.Seq.{take-append-add, take-append_seam}
use Rattle.std.specs.Prelude.{true}
use Rattle.std.specs.declared.option.Option.{Option}
use Rattle.std.specs.Io.KnownBytes.{Appends}
use Rattle.std.proofs.KnownBytes.{Appends-nil, Appends-trans}
use Rattle.tdp_io.specs.Ends.{AppendsPrefix}
use Rattle.tdp_io.specs.declared.sink.Stop.{Stop}
use Rattle.tdp_io.specs.declared.sink.Stop.TheVariants.{Failed, NoMemory}
use Rattle.weave_engine.specs.AnswerTexts.{MayStopAt, PutsAnswers, StopsAnswers, answer_text_of, answers_text, ends_over}
use Rattle.turn_loops.specs.Marks.{Mark}
use Rattle.weave_engine.specs.Pieces.{IsPrintedLine, WritesMost, most_waiting}
use Rattle.weave_engine.specs.Writes.{Buffers}

-- A prefix of what waits, and of one line more, is written.
pub few_last : (here after : Option (List ℕ)) (waits last : List ℕ) → length waits ≤ most_waiting → (last ≡ []) ⊎ IsPrintedLine last
    → AppendsPrefix here after (waits ++ last) → WritesMost here after (waits ++ last)
few_last here after waits last few one (n, le, q) =
    record { earlier = waits; last = last; are = refl; one_line = one; count = n; within = le; written = q; few = omega (arith, few) }

-- A prefix of what waits is written.
few_waiting : (here after : Option (List ℕ)) (waits : List ℕ) → length waits ≤ most_waiting → AppendsPrefix here after waits → WritesMost here after waits
few_waiting here after waits few prefix =
    subst (WritesMost here after) (append-nil waits)
    (few_last here after waits [] few (inl refl) (subst (AppendsPrefix here after) (sym (append-nil waits)) prefix))

none_written : (here : Option (List ℕ)) (waits : List ℕ) → length waits ≤ most_waiting → WritesMost here here waits
none_written here waits few =
    few_waiting here here waits few (length empty, omega arith, subst (Appends here here) (sym (take-append_seam empty waits)) (Appends-nil here))
  where
    empty : List ℕ
    empty = []

-- Something was written before.
few_after : (start here after : Option (List ℕ)) (w text : List ℕ) → Appends start here w → WritesMost here after text → WritesMost start after (w ++ text)
few_after start here after w text p L = record {
  earlier = w ++ L.earlier;
  last = L.last;
  are = ap (λ (x : List ℕ). w ++ x) L.are ∙ sym (append_assoc w L.earlier L.last);
  one_line = L.one_line;
  count = length w + L.count;
  within = let l = length-append w text in let le = L.within in omega (arith, l, le);
  written = subst (Appends start after) (sym (take-append-add w text L.count)) (Appends-trans start here after w (take L.count text) p L.written);
  few = let l = length-append w L.earlier in let f = L.few in omega (arith, l, f);
}

-- What waits, and the next piece, are written but for little of them.
pub most_then : (start here after : Option (List ℕ)) (waits piece whole : List ℕ)
    → (w : List ℕ) × Appends start here w × (w ++ waits ≡ whole) → WritesMost here after (waits ++ piece)
    → WritesMost start after (whole ++ piece)
most_then start here after waits piece whole (w, p, e) most =
    subst (WritesMost start after) (sym (append_assoc w waits piece) ∙ ap (λ (x : List ℕ). x ++ piece) e)
    (few_after start here after w (waits ++ piece) p most)

pub answers_append : (ms ns : List Mark) → answers_text (ms ++ ns) ≡ answers_text ms ++ answers_text ns
answers_append [] ns = refl
answers_append (m ∷ ms) ns =
    ap (λ (x : List ℕ). answer_text_of m ++ x) (answers_append ms ns) ∙ sym (append_assoc (answer_text_of m) (answers_text ms) (answers_text ns))

pub over_append : (ms ns : List Mark) (n : Mark) → ends_over (ms ++ n ∷ ns) ≡ ends_over (n ∷ ns)
over_append [] ns n = refl
over_append (m ∷ []) ns n = refl
over_append (m ∷ k ∷ ms) ns n = over_append (k ∷ ms) ns n

none_left : (xs ys : List ℕ) → xs ++ ys ≡ [] → ys ≡ []
none_left [] ys is = is
none_left (x ∷ xs) ys is = absurd (cc is)

module _ (before here after : Option (List ℕ)) (waited waits more : List ℕ) where
  pub both_put : (ms ns : List Mark) → PutsAnswers before here waited waits ms → PutsAnswers here after waits more ns
      → PutsAnswers before after waited more (ms ++ ns)
  both_put ms ns (w, p, e, few, over) (v, q, f, fewer, over_then) = (
    w ++ v,
    Appends-trans before here after w v p q,
    append_assoc w v more ∙ ap (λ (x : List ℕ). w ++ x) f ∙ sym (append_assoc w waits (answers_text ns))
        ∙ ap (λ (x : List ℕ). x ++ answers_text ns) e ∙ append_assoc waited (answers_text ms) (answers_text ns)
        ∙ ap (λ (x : List ℕ). waited ++ x) (sym (answers_append ms ns)),
    fewer,
    by ns f over_then,
  )
    where
      by : (ns : List Mark) → v ++ more ≡ waits ++ answers_text ns → (ends_over ns ≡ true → more ≡ []) → ends_over (ms ++ ns) ≡ true → more ≡ []
      by [] f over_then ends =
          let none : waits ≡ [] = over (ap ends_over (sym (append-nil ms)) ∙ ends) in
          none_left v more (f ∙ ap (λ (x : List ℕ). x ++ []) none)
      by (n ∷ ns) f over_then ends = over_then (sym (over_append ms ns n) ∙ ends)

  pub stops_put : (ms ns : List Mark) (stop : Stop) → PutsAnswers before here waited waits ms → StopsAnswers here after waits ns stop
      → StopsAnswers before after waited (ms ++ ns) stop
  stops_put ms ns stop (w, p, e, few, over) S = record {
    most = subst (WritesMost before after)
        (append_assoc waited (answers_text ms) (answers_text ns) ∙ ap (λ (x : List ℕ). waited ++ x) (sym (answers_append ms ns)))
        (most_then before here after waits (answers_text ns) (waited ++ answers_text ms) (w, p, e) S.most);
    may = by stop S.may;
  }
    where
      by : (stop : Stop) → MayStopAt stop ns → MayStopAt stop (ms ++ ns)
      by Failed E = record {
        before = ms ++ E.before;
        last = E.last;
        are = ap (λ (l : List Mark). ms ++ l) E.are ∙ sym (append_assoc ms E.before (E.last ∷ []));
        puts = E.puts;
      }
      by NoMemory E = tt

pub none_put : (before : Option (List ℕ)) (waited : List ℕ) → length waited ≤ most_waiting → PutsAnswers before before waited waited []
none_put before waited few = ([], Appends-nil before, sym (append-nil waited), few, λ e. absurd (cc e))

pub nothing_buffered : (before : Option (List ℕ)) (waited : List ℕ) → length waited ≤ most_waiting → Buffers before before waited waited (Ok tt) []
nothing_buffered before waited few = ([], Appends-nil before, sym (append-nil waited), few)

-- memory was refused before anything was printed
pub none_stopped : (before : Option (List ℕ)) (waited : List ℕ) → length waited ≤ most_waiting → StopsAnswers before before waited [] NoMemory
none_stopped before waited few =
    record { most = subst (WritesMost before before) (sym (append-nil waited)) (none_written before waited few); may = tt }
