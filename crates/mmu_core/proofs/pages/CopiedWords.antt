-- What is copied of a page that is moved, where content words change: it stays so, as long as neither the page's frame nor the one that is owned is stored in.
use Rattle.std.proofs.Common.{◌≡◌, ◌≢◌, ◌⊎◌, inl, inr, ◌+◌, ◌*◌, ◌<◌, ◌≤◌, ℕ, sym, subst, ap, ◌∙◌, arith}
use Rattle.std.specs.Prelude.{true, not, ◌==◌, Some, None, is_some}
use Rattle.std.proofs.lemmas.Nat.{same_from_place}
use Rattle.core_views.specs.declared.topics.OwnedFrame.{OwnedFrame}
use Rattle.core_views.specs.declared.topics.Topics.{Topics}
use Rattle.spte_words.specs.HostWords.{host_frame}
use Rattle.part_steps.specs.FrameTopics.{is_uncopied}
use Rattle.part_steps.specs.PartTasks.{word_looked}
use Rattle.mmu_core.specs.invariant.FramesPart.{IsCopied}
use Rattle.mmu_core.specs.machine.View.{upd}
use Rattle.mmu_core.proofs.machine.Columns.{same_or, upd_other, upd_same}
use Rattle.mmu_core.proofs.machine.ColumnsTell.{both, tells}

-- Where nothing is copied there is nothing to say.
pub none_copied : (words : ℕ) (content : ℕ → ℕ) (t : Topics) (o : OwnedFrame) → is_uncopied (Some o) ≡ true → IsCopied words content t o
none_copied words content t o none =
    let e = both (o.filled == 0) (not (is_some o.copied)) none in
    let empty = tells o.filled 0 e.0 in
    record {
      stored = λ j lt. absurd (omega (arith, lt, empty));
      held = λ v is. let copied = sym (ap (λ x. not (is_some x)) is) ∙ e.1 in absurd (cc copied);
    }

-- It speaks of what was looked up by its frame alone.
pub copied_as : (words : ℕ) (content : ℕ → ℕ) (t u : Topics) (o : OwnedFrame) → host_frame (word_looked t.host) ≡ host_frame (word_looked u.host)
    → IsCopied words content t o → IsCopied words content u o
copied_as words content t u o same C =
    let In : ℕ → ℕ → ℕ = λ f j. content (words * f + j) in
    record {
      stored = λ j lt. C.stored j lt ∙ ap (λ f. In f j) same;
      held = λ v is. let H = C.held v is in (H.0, sym (ap (λ f. In f o.filled) same) ∙ H.1);
    }

-- ---- the words of a frame

-- The words of the frame are what they were.
abbrev pub FrameStays : ℕ → (ℕ → ℕ) → (ℕ → ℕ) → ℕ → Type 0
FrameStays words before after frame = (j : ℕ) → j < words → after (words * frame + j) ≡ before (words * frame + j)

-- Words of two frames are two.
other_word : (words frame other j k : ℕ) → j < words → k < words → other ≢ frame → words * other + j ≢ words * frame + k
other_word words frame other j k low below apart e = apart (same_from_place other j frame k words low below (omega (arith, e))).0

-- A word of one frame is stored: each other frame stays.
pub stored_elsewhere : (words : ℕ) (content : ℕ → ℕ) (frame k x other : ℕ) → k < words → other ≢ frame
    → FrameStays words content (upd content (words * frame + k) x) other
stored_elsewhere words content frame k x other below apart j low =
    upd_other content (words * frame + k) (words * other + j) x (other_word words frame other j k low below apart)

-- Where both frames stay, what is copied stays so.
pub copied_stays : (words : ℕ) (before after : ℕ → ℕ) (t : Topics) (o : OwnedFrame) → o.filled ≤ words → FrameStays words before after o.frame
    → FrameStays words before after (host_frame (word_looked t.host)) → IsCopied words before t o → IsCopied words after t o
copied_stays words before after t o most own old C = record {
  stored = λ j lt. let low : j < words = omega (arith, lt, most) in own j low ∙ C.stored j lt ∙ sym (old j low);
  held = λ v is. let H = C.held v is in (H.0, old o.filled H.0 ∙ H.1);
}

-- ---- the copy itself

-- The next word of the page is copied.
pub copied_next : (words : ℕ) (content : ℕ → ℕ) (t u : Topics) (o : OwnedFrame) (x : ℕ) → o.filled < words
    → content (words * host_frame (word_looked t.host) + o.filled) ≡ x → u.host ≡ t.host
    → IsCopied words content t o → IsCopied words content u (record { frame = o.frame; filled = o.filled; copied = Some x })
copied_next words content t u o x low is host C =
    copied_as words content t u (record { frame = o.frame; filled = o.filled; copied = Some x })
    (ap (λ h. host_frame (word_looked h)) (sym host))
    (record { stored = C.stored; held = λ v e. (low, is ∙ one e) })
  where
    one : {v : ℕ} → Some x ≡ Some v → x ≡ v
    one e = cc e

-- What was copied is stored in the next word of the frame.
pub stored_next : (words : ℕ) (content : ℕ → ℕ) (t u : Topics) (o : OwnedFrame) (x : ℕ) → o.filled < words → o.copied ≡ Some x
    → host_frame (word_looked t.host) ≢ o.frame → u.host ≡ t.host → IsCopied words content t o
    → IsCopied words (upd content (words * o.frame + o.filled) x) u (record { frame = o.frame; filled = o.filled + 1; copied = None })
stored_next words content t u o x low copied apart host C =
    copied_as words after t u (record { frame = o.frame; filled = o.filled + 1; copied = None }) (ap (λ h. host_frame (word_looked h)) (sym host))
    (record { stored = λ j lt. by j lt (same_or j o.filled); held = λ v e. absurd (cc e) })
  where
    old : ℕ
    old = host_frame (word_looked t.host)

    after : ℕ → ℕ
    after = upd content (words * o.frame + o.filled) x

    there : FrameStays words content after old
    there = stored_elsewhere words content o.frame o.filled x old low apart

    by : (j : ℕ) → j < o.filled + 1 → (j ≡ o.filled) ⊎ (j ≢ o.filled) → after (words * o.frame + j) ≡ after (words * old + j)
    by j lt (inl e) =
        subst (λ k. after (words * o.frame + k) ≡ after (words * old + k)) (sym e)
        (upd_same content (words * o.frame + o.filled) x ∙ sym (C.held x copied).1 ∙ sym (there o.filled low))
    by j lt (inr ne) =
        upd_other content (words * o.frame + o.filled) (words * o.frame + j) x (λ e. ne (omega (arith, e))) ∙ C.stored j (omega (arith, lt, ne))
        ∙ sym (there j (omega (arith, lt, ne, low)))
