-- What the words of line 1 say: the header.
use Rattle.std.specs.Prelude.{◌+◌, ◌-◌, ◌*◌, ℕ, List, [], ◌∷◌, Bool, ◌&&◌, ◌||◌, length, nat_le, ◌==◌, if◌then◌else◌, codes, Result, Ok, Err}
use Rattle.std.specs.Str.{bytes_eq}
use Rattle.std.specs.declared.option.Option.{Option}
use Rattle.std.specs.declared.option.Option.TheVariants.{Some, None}
use Rattle.core_views.specs.declared.trace.Header.{Header}
use Rattle.trace_reader.specs.declared.reason.Reason.{Reason}
use Rattle.trace_reader.specs.declared.reason.Reason.TheVariants as reason
use Rattle.trace_reader.specs.declared.header.Sizes.{Sizes}
use Rattle.trace_reader.specs.Numbers.{spelled_number}
use Rattle.trace_reader.specs.Operands.{◌>>=◌}

-- the function of the value, or the refusal
abbrev pub mapped : {A B : Type 0} → (A → B) → Result A Reason → Result B Reason
mapped f (Ok x) = Ok (f x)
mapped f (Err e) = Err e

-- a number from low to high
abbrev pub within : ℕ → ℕ → Option ℕ → Result ℕ Reason
within low high None = Err reason.Header
within low high (Some n) = if nat_le low n && nat_le n high then Ok n else Err reason.Header

-- the number from low to high that the word spells
unfoldable pub ranged : ℕ → ℕ → List ℕ → Result ℕ Reason
ranged low high w = within low high (spelled_number w)

-- a label, its number from low to high, and the words after them
unfoldable pub field : List ℕ → ℕ → ℕ → List (List ℕ) → Result (ℕ × List (List ℕ)) Reason
field name low high (label ∷ w ∷ rest) = if bytes_eq label name then (ranged low high w >>= λ n. Ok (n, rest)) else Err reason.Header
field name low high _ = Err reason.Header

-- the words behind `tdp 1`
unfoldable pub behind_version : List (List ℕ) → Result (List (List ℕ)) Reason
behind_version (label ∷ version ∷ rest) = if bytes_eq label (codes "tdp") && bytes_eq version (codes "1") then Ok rest else Err reason.Header
behind_version _ = Err reason.Header

-- A page has 1, 2, 4 or 8 content words, and all frames have 8,388,608 or fewer.
unfoldable pub are_sizes : ℕ → ℕ → Bool
are_sizes frames words = (words == 1 || words == 2 || words == 4 || words == 8) && nat_le (frames * words) 8388608

-- the sizes, and the words after them
unfoldable pub sizes_of : List (List ℕ) → Result (Sizes × List (List ℕ)) Reason
sizes_of words = do
  rest ← behind_version words
  vcpus ← field (codes "vcpus") 1 16 rest
  workers ← field (codes "workers") 0 4 vcpus.1
  pages ← field (codes "pages") 1 1048576 workers.1
  frames ← field (codes "frames") pages.0 2097152 pages.1
  size ← field (codes "words") 1 8 frames.1
  pool ← field (codes "pool") 4 16384 size.1
  cache ← field (codes "cache") 1 64 pool.1
  manual ← field (codes "manual") 0 2 cache.1
  if are_sizes frames.0 size.0 then Ok (
    record {
      vcpus = vcpus.0;
      workers = workers.0;
      pages = pages.0;
      frames = frames.0;
      words = size.0;
      pool = pool.0;
      cache = cache.0;
      manual = manual.0;
    },
    manual.1,
  ) else Err reason.Header

-- strictly rising numbers from low to high
unfoldable pub rising : ℕ → ℕ → List (List ℕ) → Result (List ℕ) Reason
rising low high [] = Ok []
rising low high (w ∷ ws) = ranged low high w >>= λ n. rising (n + 1) high ws >>= λ ns. Ok (n ∷ ns)

-- one to four strictly rising numbers from 0 on, below the number of pages
unfoldable pub host_list : ℕ → List (List ℕ) → Result (List ℕ) Reason
host_list pages [] = Err reason.Header
host_list pages (w ∷ ws) = if nat_le (length ws) 3 then (ranged 0 0 w >>= λ n. rising 0 (pages - 1) (w ∷ ws)) else Err reason.Header

-- `hosts` and the first host page of each host thread
unfoldable pub hosts_of : ℕ → List (List ℕ) → Result (List ℕ) Reason
hosts_of pages (label ∷ words) = if bytes_eq label (codes "hosts") then host_list pages words else Err reason.Header
hosts_of pages _ = Err reason.Header

-- the header that the words spell
unfoldable pub header_of : List (List ℕ) → Result Header Reason
header_of words = do
  s ← sizes_of words
  hosts ← hosts_of s.0.pages s.1
  Ok (record {
    version = 1;
    vcpus = s.0.vcpus;
    workers = s.0.workers;
    pages = s.0.pages;
    frames = s.0.frames;
    words = s.0.words;
    pool = s.0.pool;
    cache = s.0.cache;
    manual = s.0.manual;
    hosts = hosts;
  })
