-- Host words: the host map. Each page has a frame, which no other page has. A page is taken away by its owner alone, and brought in by whoever faults
-- there.
use Rattle.std.specs.Prelude.{◌≡◌, ◌⊎◌, ◌<◌, ◌≤◌, ℕ, Bool, true, false, ◌&&◌, nat_le, ◌-◌, Some}
use Rattle.core_views.specs.declared.sizes.Sizes.{Sizes}
use Rattle.core_views.specs.declared.topics.HostLook.{HostLook}
use Rattle.core_views.specs.declared.topics.Topics.{Topics}
use Rattle.core_views.specs.Sizes.{is_threads}
use Rattle.spte_words.specs.HostWords.{host_allows_write, host_frame, host_level, host_present, host_word, with_presence}

-- The word maps a page, at one of the levels that have leaves, to one of so many frames; the page may be absent, and the word may forbid writes.
abbrev pub IsHostWord : ℕ → ℕ → Type 0
IsHostWord frames w =
    (w ≡ host_word (host_frame w) (host_present w) (host_allows_write w) (host_level w)) × (host_frame w < frames) × (1 ≤ host_level w)

-- The host word is as it was seen, but that the page, which was absent, may have been brought in since.
abbrev pub IsStill : ℕ → ℕ → Type 0
IsStill seen now_ = (seen ≡ now_) ⊎ ((host_present seen ≡ false) × (now_ ≡ with_presence true seen))

-- So is each page's. That no two pages have one frame, present or not, is part of what each frame is used for.
abbrev pub HostWordsPart : Sizes → (ℕ → ℕ) → Type 0
HostWordsPart z host = (p : ℕ) → p < z.pages → IsHostWord z.frames (host p)

-- The actor at a place is the host thread whose page it is.
abbrev pub owns_page : Sizes → ℕ → ℕ → Bool
owns_page z i page = nat_le z.vcpus i && is_threads z (i - z.vcpus) page

-- What its owner has looked up of a page is the page's word still: nobody else changes it, but by bringing the page in.
abbrev pub OwnLooksPart : Sizes → ℕ → (ℕ → ℕ) → (ℕ → Topics) → Type 0
OwnLooksPart z n host topics =
    (i : ℕ) (look : HostLook) → i < n → (topics i).host ≡ Some look → owns_page z i look.page ≡ true → IsStill look.word (host look.page)
