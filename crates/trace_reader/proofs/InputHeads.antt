-- What the first line of an input says is read as its header, and only that.
use Rattle.std.proofs.Common.{◌≡◌, inl, inr, ℕ, List, Result, Ok, Err, refl, sym, arith}
use Rattle.std.specs.Prelude.{codes}
use Rattle.std.proofs.lemmas.List.Splits.{join_with_byte-slice_split}
use Rattle.std.specs.declared.option.Option.{Option}
use Rattle.std.specs.declared.option.Option.TheVariants.{Some, None}
use Rattle.core_views.specs.declared.trace.Header.{Header}
use Rattle.trace_reader.specs.declared.reason.Reason.{Reason}
use Rattle.trace_reader.specs.declared.reason.Reason.TheVariants as reason
use Rattle.trace_reader.specs.Forms.{words_of}
use Rattle.trace_reader.specs.Headers.{header_of}
use Rattle.trace_reader.specs.Lines.{Raw, fault_of, after_checks}
use Rattle.trace_reader.specs.Reading.{head_of}
use Rattle.trace_reader.specs.Grammar.{spaced, AreWords}
use Rattle.trace_reader.specs.HeaderGrammar.{HeaderWords, labelled, SpellsHeader}
use Rattle.trace_reader.specs.InputGrammar.{SaysHeader, PassesAll, HeaderFails}
use Rattle.trace_reader.proofs.PlainWords.{words_spaced, text_word, spelled_word, spelled_words}
use Rattle.trace_reader.proofs.HeaderSaid.{header_reads, header_only}
use Rattle.trace_reader.proofs.HeaderRefused.{header_refuses}
use Rattle.trace_reader.proofs.Checks.{Judged, judged, faultless, faulty}

-- The header's line.
header_words : (w : HeaderWords) (h : Header) → SpellsHeader w h → AreWords (labelled w)
header_words w h s = (
  text_word (codes "tdp") (omega arith) refl,
  (
    text_word (codes "1") (omega arith) refl,
    (
      text_word (codes "vcpus") (omega arith) refl,
      (
        spelled_word w.vcpus _ s.vcpus,
        (
          text_word (codes "workers") (omega arith) refl,
          (
            spelled_word w.workers _ s.workers,
            (
              text_word (codes "pages") (omega arith) refl,
              (
                spelled_word w.pages _ s.pages,
                (
                  text_word (codes "frames") (omega arith) refl,
                  (
                    spelled_word w.frames _ s.frames,
                    (
                      text_word (codes "words") (omega arith) refl,
                      (
                        spelled_word w.words _ s.words,
                        (
                          text_word (codes "pool") (omega arith) refl,
                          (
                            spelled_word w.pool _ s.pool,
                            (
                              text_word (codes "cache") (omega arith) refl,
                              (
                                spelled_word w.cache _ s.cache,
                                (
                                  text_word (codes "manual") (omega arith) refl,
                                  (
                                    spelled_word w.manual _ s.manual,
                                    (text_word (codes "hosts") (omega arith) refl, spelled_words w.hosts h.hosts s.hosts),
                                  ),
                                ),
                              ),
                            ),
                          ),
                        ),
                      ),
                    ),
                  ),
                ),
              ),
            ),
          ),
        ),
      ),
    ),
  ),
)

header_said : (text : List ℕ) (h : Header) → SaysHeader text h → header_of (words_of text) ≡ Ok h
header_said text h (words, e, (header, w, is, s)) =
    let cut : words_of (spaced (labelled w)) ≡ labelled w = words_spaced _ _ (header_words w h s) in
    rw (e, is, cut) (header_reads (labelled w) h (header, w, refl, s))

header_is : (text : List ℕ) (h : Header) → header_of (words_of text) ≡ Ok h → SaysHeader text h
header_is text h e = (words_of text, sym (join_with_byte-slice_split 32 text), header_only (words_of text) h e)

no_header : (text : List ℕ) → ((h : Header) → SaysHeader text h → ⊥) → header_of (words_of text) ≡ Err reason.Header
no_header text none = header_refuses (words_of text) (λ h said. none h (words_of text, sym (join_with_byte-slice_split 32 text), said))

-- What line 1 says, or why it fails.
abbrev pub HeadJudged : Raw → Result Header Reason → Type 0
HeadJudged line (Ok h) = PassesAll line × SaysHeader line.bytes h
HeadJudged line (Err r) = HeaderFails line r

by_words : (line : Raw) (x : Result Header Reason) → header_of (words_of line.bytes) ≡ x → PassesAll line → HeadJudged line x
by_words line (Ok h) e all = (all, header_is line.bytes h e)
by_words line (Err r) e all =
    let none : (h : Header) → SaysHeader line.bytes h → ⊥ = λ h s. (let t = header_said line.bytes h s in cc) in
    let only = no_header line.bytes none in
    inr (all, cc, none)

by_fault : (line : Raw) (o : Option Reason) (x : Result Header Reason) → Judged line o → (PassesAll line → HeadJudged line x)
    → HeadJudged line (after_checks o x)
by_fault line None x all more = more all
by_fault line (Some r) x fails more = inl fails

pub head_judged : (line : Raw) → HeadJudged line (head_of line)
unfolding head_of
head_judged line = by_fault line (fault_of line) _ (judged line) (by_words line (header_of (words_of line.bytes)) refl)

pub head_said : (line : Raw) (h : Header) → PassesAll line → SaysHeader line.bytes h → head_of line ≡ Ok h
unfolding head_of
head_said line h all s = rw (faultless line all) (header_said line.bytes h s)

pub head_fails : (line : Raw) (r : Reason) → HeaderFails line r → head_of line ≡ Err r
unfolding head_of
head_fails line r (inl f) = rw (faulty line r f) refl
head_fails line r (inr (all, e, none)) = rw (faultless line all, e) (no_header line.bytes none)
