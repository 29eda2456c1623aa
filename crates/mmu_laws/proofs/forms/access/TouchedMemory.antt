-- What the touch of a content word makes of memory: each page has a frame of its own, so no other word changes.
use Rattle.std.proofs.Common.{◌≡◌, ◌≢◌, ◌⊎◌, inl, inr, ◌<◌, ℕ, refl, sym, ap, ◌∙◌, arith}
use Rattle.std.specs.Prelude.{Some}
use Rattle.std.proofs.lemmas.Bool.Decides.{nat_tests}
use Rattle.core_views.specs.declared.sizes.Sizes.{Sizes}
use Rattle.core_views.specs.declared.trace.Op.{Op}
use Rattle.core_views.specs.Events.{touched}
use Rattle.core_views.specs.Memory.{Memory, word_after_op, with_word}
use Rattle.spte_words.specs.Areas.{content_index}
use Rattle.spte_words.specs.HostWords.{host_frame}
use Rattle.part_steps.specs.Tasks.{map_of}
use Rattle.mmu_core.proofs.machine.Columns.{same_or}
use Rattle.spte_words.proofs.Indices.{same_content}

pub with_word_here : (page word x : ℕ) (memory : Memory) (p w : ℕ) → p ≡ page → w ≡ word → with_word page word x memory p w ≡ x
with_word_here page word x memory p w e f = grind (arith, nat_tests)

with_word_other : (page word x : ℕ) (memory : Memory) (p w : ℕ) → (p ≡ page → w ≡ word → ⊥) → with_word page word x memory p w ≡ memory p w
with_word_other page word x memory p w apart = grind (arith, nat_tests)

-- No two pages have one frame.
abbrev pub AreDistinct : Sizes → (ℕ → ℕ) → Type 0
AreDistinct z host = (p q : ℕ) → p < z.pages → q < z.pages → host_frame (host p) ≡ host_frame (host q) → p ≡ q

-- The touched word is memory's after the touch, and so is each other one.
pub memory_behind : (z : Sizes) (page word : ℕ) (op : Op) (memory : Memory) (host content after : ℕ → ℕ) → AreDistinct z host → page < z.pages
    → word < z.words
    → ((p j : ℕ) → p < z.pages → j < z.words → memory p j ≡ content (content_index (map_of z) (host_frame (host p)) j))
    → after (content_index (map_of z) (host_frame (host page)) word) ≡ word_after_op op (content (content_index (map_of z) (host_frame (host page)) word))
    → ((i : ℕ) → i ≢ content_index (map_of z) (host_frame (host page)) word → after i ≡ content i)
    → (p j : ℕ) → p < z.pages → j < z.words → touched (Some page) word op memory p j ≡ after (content_index (map_of z) (host_frame (host p)) j)
memory_behind z page word op memory host content after distinct page_in word_in is here there p j p_in j_in = case (same_or p page) (same_or j word)
  where
    at : ℕ → ℕ → ℕ
    at q i = content_index (map_of z) (host_frame (host q)) i

    other : (p ≡ page → j ≡ word → ⊥) → touched (Some page) word op memory p j ≡ after (at p j)
    other apart =
        with_word_other page word (word_after_op op (memory page word)) memory p j apart ∙ is p j p_in j_in
        ∙ sym (there (at p j) (λ e. let same = same_content (map_of z) (host_frame (host p)) (host_frame (host page)) j word j_in word_in e in
        apart (distinct p page p_in page_in same.0) same.1))

    case : (p ≡ page) ⊎ (p ≢ page) → (j ≡ word) ⊎ (j ≢ word) → touched (Some page) word op memory p j ≡ after (at p j)
    case (inl e) (inl f) =
        with_word_here page word (word_after_op op (memory page word)) memory p j e f ∙ ap (word_after_op op) (is page word page_in word_in) ∙ sym here
        ∙ rw (e, f) refl
    case (inr e) f = other (λ same _. e same)
    case (inl e) (inr f) = other (λ _ same. f same)
