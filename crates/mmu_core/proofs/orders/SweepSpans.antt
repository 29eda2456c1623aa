-- Tables, their entries and the guest frames that these are over, at each of the four levels.
use Rattle.std.proofs.Common.{◌≡◌, ◌+◌, ◌*◌, ◌/◌, ◌%◌, ◌^◌, ◌<◌, ◌≤◌, ℕ, arith}
use Rattle.spte_words.specs.Entries.{level_span}
use Rattle.spte_words.proofs.Spans.{each_span}

-- A table over a guest frame begins no higher than it.
abbrev pub TableBelow : ℕ → Type 0
TableBelow s = (c p : ℕ) → c / s / 512 ≡ p → (p * 512 + 0) * s ≤ c

pub table_below : (level : ℕ) → 1 ≤ level → level ≤ 4 → TableBelow (level_span level)
table_below = each_span TableBelow (λ c p is. omega (arith, is)) (λ c p is. omega (arith, is)) (λ c p is. omega (arith, is)) (λ c p is. omega (arith, is))

-- The entry over a guest frame begins no higher than it, and at it where it is the first of a span; and ends above it, and no higher than all guest frames.
abbrev pub EntryNumbers : ℕ → Type 0
EntryNumbers s = (c p i : ℕ) → c < 2 ^ 36 → c / s / 512 ≡ p → i ≡ c / s % 512
    → ((p * 512 + i) * s ≤ c) × (c < (p * 512 + i + 1) * s) × ((p * 512 + i + 1) * s ≤ 2 ^ 36) × (c % s ≡ 0 → (p * 512 + i) * s ≡ c)

pub entry_numbers : (level : ℕ) → 1 ≤ level → level ≤ 4 → EntryNumbers (level_span level)
entry_numbers =
    each_span EntryNumbers
    (λ c p i low is at. (omega (arith, low, is, at), omega (arith, low, is, at), omega (arith, low, is, at), λ even. omega (arith, low, is, at, even)))
    (λ c p i low is at. (omega (arith, low, is, at), omega (arith, low, is, at), omega (arith, low, is, at), λ even. omega (arith, low, is, at, even)))
    (λ c p i low is at. (omega (arith, low, is, at), omega (arith, low, is, at), omega (arith, low, is, at), λ even. omega (arith, low, is, at, even)))
    (λ c p i low is at. (omega (arith, low, is, at), omega (arith, low, is, at), omega (arith, low, is, at), λ even. omega (arith, low, is, at, even)))

-- The end of an entry is the first guest frame of the next one, where the table has one left.
abbrev pub NextEntry : ℕ → Type 0
NextEntry s = (c p i : ℕ) → (p * 512 + i + 1) * s ≡ c → (c % s ≡ 0) × (i + 1 < 512 → c / s / 512 ≡ p)

pub next_entry : (level : ℕ) → 1 ≤ level → level ≤ 4 → NextEntry (level_span level)
next_entry =
    each_span NextEntry (λ c p i is. (omega (arith, is), λ low. omega (arith, is, low))) (λ c p i is. (omega (arith, is), λ low. omega (arith, is, low)))
    (λ c p i is. (omega (arith, is), λ low. omega (arith, is, low))) (λ c p i is. (omega (arith, is), λ low. omega (arith, is, low)))

-- The last entry of a table ends where the entry above ends that links to it; and a table begins where this entry begins.
abbrev pub TableEnds : ℕ → Type 0
TableEnds s = (p i : ℕ) → i ≡ 511 → (p / 512 * 512 + p % 512 + 1) * (512 * s) ≡ (p * 512 + i + 1) * s

pub table_ends : (level : ℕ) → 1 ≤ level → level ≤ 4 → TableEnds (level_span level)
table_ends = each_span TableEnds (λ p i is. omega (arith, is)) (λ p i is. omega (arith, is)) (λ p i is. omega (arith, is)) (λ p i is. omega (arith, is))

abbrev pub TableBegins : ℕ → Type 0
TableBegins s = (c p i : ℕ) → ((p * 512 + i) * 512 + 0) * s ≡ (p * 512 + i) * (512 * s)

pub table_begins : (level : ℕ) → 1 ≤ level → level ≤ 4 → TableBegins (level_span level)
table_begins = each_span TableBegins (λ c p i. omega arith) (λ c p i. omega arith) (λ c p i. omega arith) (λ c p i. omega arith)

-- What begins a span begins one of the level below.
abbrev pub BeginsBelow : ℕ → Type 0
BeginsBelow s = (c : ℕ) → c % (512 * s) ≡ 0 → c % s ≡ 0

pub begins_below : (level : ℕ) → 1 ≤ level → level ≤ 4 → BeginsBelow (level_span level)
begins_below = each_span BeginsBelow (λ c is. omega (arith, is)) (λ c is. omega (arith, is)) (λ c is. omega (arith, is)) (λ c is. omega (arith, is))

-- Each guest frame from the start of an entry up to its end is one of the entry's.
abbrev pub EntryFrames : ℕ → Type 0
EntryFrames s = (g p i : ℕ) → i < 512 → (p * 512 + i) * s ≤ g → g < (p * 512 + i + 1) * s → (g / s / 512 ≡ p) × (i ≡ g / s % 512)

pub entry_frames : (level : ℕ) → 1 ≤ level → level ≤ 4 → EntryFrames (level_span level)
entry_frames =
    each_span EntryFrames (λ g p i low from to. (omega (arith, low, from, to), omega (arith, low, from, to)))
    (λ g p i low from to. (omega (arith, low, from, to), omega (arith, low, from, to)))
    (λ g p i low from to. (omega (arith, low, from, to), omega (arith, low, from, to)))
    (λ g p i low from to. (omega (arith, low, from, to), omega (arith, low, from, to)))
