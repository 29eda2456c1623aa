-- What the words of line 1 say: the header, with no order of checks; and that the reader takes just this.
use Rattle.std.specs.Prelude.{◌≡◌, ℕ, List, ◌∷◌, codes, Ok, Err}
use Rattle.std.specs.List.{AllZip}
use Rattle.core_views.specs.Traces.{IsHeader}
use Rattle.core_views.specs.declared.trace.Header.{Header}
use Rattle.trace_reader.specs.declared.reason.Reason.TheVariants as reason
use Rattle.trace_reader.specs.Headers.{header_of}
use Rattle.trace_reader.specs.Grammar.{Spells}

-- The words after a header's labels.
pub record HeaderWords : Type 0 where
  pub vcpus : List ℕ
  pub workers : List ℕ
  pub pages : List ℕ
  pub frames : List ℕ
  pub words : List ℕ
  pub pool : List ℕ
  pub cache : List ℕ
  pub manual : List ℕ
  pub hosts : List (List ℕ)

-- the words of line 1, with their labels
abbrev pub labelled : HeaderWords → List (List ℕ)
labelled w =
    codes "tdp" ∷ codes "1" ∷ codes "vcpus" ∷ w.vcpus ∷ codes "workers" ∷ w.workers ∷ codes "pages" ∷ w.pages ∷ codes "frames" ∷ w.frames
    ∷ codes "words" ∷ w.words ∷ codes "pool" ∷ w.pool ∷ codes "cache" ∷ w.cache ∷ codes "manual" ∷ w.manual ∷ codes "hosts" ∷ w.hosts

-- Each word spells the header's number.
pub record SpellsHeader (w : HeaderWords) (h : Header) : Type 0 where
  pub vcpus : Spells w.vcpus h.vcpus
  pub workers : Spells w.workers h.workers
  pub pages : Spells w.pages h.pages
  pub frames : Spells w.frames h.frames
  pub words : Spells w.words h.words
  pub pool : Spells w.pool h.pool
  pub cache : Spells w.cache h.cache
  pub manual : Spells w.manual h.manual
  pub hosts : AllZip Spells w.hosts h.hosts

-- The words of line 1 say this header.
abbrev pub IsHeaderSaid : List (List ℕ) → Header → Type 0
IsHeaderSaid words h = IsHeader h × (w : HeaderWords) × (words ≡ labelled w) × SpellsHeader w h

-- The header that the words say is read.
abbrev pub ReadsTheHeader : Type 0
ReadsTheHeader = (words : List (List ℕ)) (h : Header) → IsHeaderSaid words h → header_of words ≡ Ok h

-- Only the header that the words say is read.
abbrev pub ReadsNoOtherHeader : Type 0
ReadsNoOtherHeader = (words : List (List ℕ)) (h : Header) → header_of words ≡ Ok h → IsHeaderSaid words h

-- Words that say no header are refused as `header`.
abbrev pub RefusesOtherFirstLines : Type 0
RefusesOtherFirstLines = (words : List (List ℕ)) → ((h : Header) → IsHeaderSaid words h → ⊥) → header_of words ≡ Err reason.Header
