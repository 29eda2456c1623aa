-- While a migration goes on, each word of the image that differs from memory is of a page that is dirty, or yet to be copied: one event at a time.
use Rattle.std.proofs.Common.{◌≡◌, ◌⊎◌, inl, inr, ◌<◌, ◌+◌, ◌==◌, ◌&&◌, ◌||◌, ℕ, Bool, true, false, not, List, ◌∷◌, refl, sym, ap, ◌∙◌, arith, subst}
use Rattle.std.specs.Prelude.{◌-◌, Option, Some, None, if◌then◌else◌, is_some, nat_le}
use Rattle.std.specs.Option.{option_map}
use Rattle.std.proofs.lemmas.Bool.{and_from, eq-eqb, eqb-true, or_left, or_right}
use Rattle.std.proofs.lemmas.Bool.Decides.{nat_tests}
use Rattle.core_views.specs.declared.event.EventKind.TheVariants.{Accessed, Harvested, MigrationStarted, WordCopied}
use Rattle.core_views.specs.declared.sizes.Sizes.{Sizes}
use Rattle.core_views.specs.declared.memory_slot.MemorySlot.{MemorySlot}
use Rattle.core_views.specs.declared.trace.Op.{Op}
use Rattle.core_views.specs.declared.trace.Op.TheVariants.{Read, Write, Add}
use Rattle.core_views.specs.declared.trace.Slot.{Slot}
use Rattle.core_views.specs.Events.{facts_after, is_armed, marked, touched}
use Rattle.core_views.specs.Flat.{Facts, HasToCopy, Stage}
use Rattle.core_views.specs.Lawful.{CopiesNext}
use Rattle.core_views.specs.LogCommands.{is_among}
use Rattle.core_views.specs.Memory.{Memory, with_word, word_after_op}
use Rattle.core_views.specs.Migrations.{is_migrating}
use Rattle.core_views.specs.Past.{FrameSet}
use Rattle.core_views.specs.Slots.{Slots, is_write, page_behind, page_in, slot_of}
use Rattle.core_views.specs.SlotSets.{flat_slots, slot_holding}
use Rattle.core_views.proofs.FlatSlots.{flat_holding}
use Rattle.flat_laws.specs.Images.{AreImaged, HasFrameIn}

-- Writes of each page of a slot are logged.
abbrev pub AllAreArmed : Facts → Type 0
AllAreArmed f = (gfn page : ℕ) → page_behind (flat_slots f.slots) gfn Read ≡ Some page → is_armed f.slots f.armed gfn ≡ true

-- Of the page that is copied, the words that were copied are memory's, or the page is dirty.
abbrev pub IsCopied : Facts → Stage → Type 0
IsCopied f (HasToCopy (gfn ∷ frames) count word) =
    (page at : ℕ) → page_behind (flat_slots f.slots) gfn Read ≡ Some page → at < word → (f.image page at ≡ f.memory page at) ⊎ HasFrameIn f.slots f.pending page
IsCopied f _ = Unit {0}

-- As a migration starts each page of a slot is yet to be copied.
pub images_begin : (z : Sizes) (f : Facts) → AreImaged z (facts_after MigrationStarted f)
images_begin z f page gfn word behind lt = inr (inr (record { gfn = gfn; behind = behind; among = held (slot_holding gfn f.slots) refl }))
  where
    held : (o : Option (ℕ × MemorySlot)) → slot_holding gfn f.slots ≡ o → is_some o ≡ true
    held None at =
        let none : page_behind (flat_slots f.slots) gfn Read ≡ None =
        ap (page_in gfn Read) (sym (flat_holding gfn f.slots) ∙ ap (λ (x : Option (ℕ × MemorySlot)). option_map (λ (y : ℕ × MemorySlot). y.1.slot) x) at) in
        absurd (cc (none, behind))
    held (Some e) at = refl

-- ---- words

there : (b c : Bool) (x y : ℕ) → b ≡ false → (if b && c then x else y) ≡ y
there false c x y is = refl
there true c x y is = absurd (cc is)

beside : (b c : Bool) (x y : ℕ) → c ≡ false → (if b && c then x else y) ≡ y
beside true false x y is = refl
beside false false x y is = refl
beside b true x y is = absurd (cc is)

here : (b c : Bool) (x y : ℕ) → b ≡ true → c ≡ true → (if b && c then x else y) ≡ x
here true true x y p w = refl
here false c x y p w = absurd (cc p)
here true false x y p w = absurd (cc w)

-- What is written at a page can be read there.
reads_too : (slots : Slots) (gfn page : ℕ) (op : Op) → page_behind slots gfn op ≡ Some page → page_behind slots gfn Read ≡ Some page
reads_too slots gfn page op is = by (slot_of slots gfn) is
  where
    by_right : (b : Bool) (at : ℕ) → (if b then None else Some at) ≡ Some page → Some at ≡ Some page
    by_right true at e = absurd (cc e)
    by_right false at e = e

    by : (o : Option Slot) → page_in gfn op o ≡ Some page → page_in gfn Read o ≡ Some page
    by None e = absurd (cc e)
    by (Some slot) e = by_right (is_write op && slot.read_only) (slot.host + (gfn - slot.base)) e

-- An operation that isn't a write leaves the word.
keeps_word : (op : Op) (before : ℕ) → is_write op ≡ false → word_after_op op before ≡ before
keeps_word Read before is = refl
keeps_word (Write x) before is = absurd (cc is)
keeps_word (Add x) before is = absurd (cc is)

read_stays : (b : Bool) (memory : Memory) (p w page word x : ℕ) → (b ≡ true → (p ≡ page) × (w ≡ word)) → x ≡ memory p w
    → (if b then x else memory page word) ≡ memory page word
read_stays false memory p w page word x same is = refl
read_stays true memory p w page word x same is = let at = same refl in is ∙ ap (λ (q : ℕ). memory q w) at.0 ∙ ap (memory page) at.1

both_are : (p w page word : ℕ) → ((p == page) && (w == word)) ≡ true → (p ≡ page) × (w ≡ word)
both_are p w page word is = by (p == page) (w == word) refl refl is
  where
    by : (b c : Bool) → (p == page) ≡ b → (w == word) ≡ c → (b && c) ≡ true → (p ≡ page) × (w ≡ word)
    by true true e f is = (eqb-true p page e, eqb-true w word f)
    by false c e f is = absurd (cc is)
    by true false e f is = absurd (cc is)

-- ---- each event

-- An access leaves a word that was memory's so, or makes its page dirty; and what was dirty is so still.
module _ (f : Facts) (gfn word : ℕ) (op : Op) (p : ℕ) (behind : page_behind (flat_slots f.slots) gfn op ≡ Some p) (armed : AllAreArmed f) where
  abbrev dirty_then : FrameSet
  dirty_then = marked (is_armed f.slots f.armed gfn) gfn op f.pending

  abbrev memory_then : Memory
  memory_then = touched (page_behind (flat_slots f.slots) gfn op) word op f.memory

  pub word_accessed : (page w : ℕ) → f.image page w ≡ f.memory page w → (f.image page w ≡ memory_then page w) ⊎ HasFrameIn f.slots dirty_then page
  word_accessed page w is = by_write (is_write op) (p == page) refl refl
    where
      memory_is : memory_then page w ≡ with_word p word (word_after_op op (f.memory p word)) f.memory page w
      memory_is = ap (λ (o : Option ℕ). touched o word op f.memory page w) behind

      by_write : (b c : Bool) → is_write op ≡ b → (p == page) ≡ c → (f.image page w ≡ memory_then page w) ⊎ HasFrameIn f.slots dirty_then page
      by_write false c reads same =
          inl (is ∙ sym (memory_is
          ∙ read_stays ((p == page) && (word == w)) f.memory p word page w _ (both_are p word page w) (keeps_word op (f.memory p word) reads)))
      by_write true false writes apart = inl (is ∙ sym (memory_is ∙ there (p == page) (word == w) _ _ apart))
      by_write true true writes same =
          inr (record {
            gfn = gfn;
            behind = reads_too (flat_slots f.slots) gfn page op (behind ∙ ap Some (eqb-true p page same));
            among = or_left ((is_armed f.slots f.armed gfn && is_write op) && (gfn == gfn)) (f.pending gfn)
                (and_from (is_armed f.slots f.armed gfn && is_write op) (gfn == gfn)
                (and_from (is_armed f.slots f.armed gfn) (is_write op) (armed gfn p (reads_too (flat_slots f.slots) gfn p op behind)) writes)
                (eq-eqb gfn gfn refl));
          })

  pub dirty_stays : (page : ℕ) → HasFrameIn f.slots f.pending page → HasFrameIn f.slots dirty_then page
  dirty_stays page D = record {
    gfn = D.gfn;
    behind = D.behind;
    among = or_right ((is_armed f.slots f.armed gfn && is_write op) && (gfn == D.gfn)) (f.pending D.gfn) D.among;
  }

  pub accessed : (z : Sizes) (frame before : ℕ) → AreImaged z f → AreImaged z (facts_after (Accessed gfn word op frame before) f)
  accessed z frame before A page g w at lt = by (A page g w at lt)
    where
      by_word : (f.image page w ≡ memory_then page w) ⊎ HasFrameIn f.slots dirty_then page
          → (f.image page w ≡ memory_then page w) ⊎ (HasFrameIn f.slots dirty_then page ⊎ HasFrameIn f.slots f.to_copy page)
      by_word (inl is) = inl is
      by_word (inr D) = inr (inl D)

      by : (f.image page w ≡ f.memory page w) ⊎ (HasFrameIn f.slots f.pending page ⊎ HasFrameIn f.slots f.to_copy page)
          → (f.image page w ≡ memory_then page w) ⊎ (HasFrameIn f.slots dirty_then page ⊎ HasFrameIn f.slots f.to_copy page)
      by (inl is) = by_word (word_accessed page w is)
      by (inr (inl D)) = inr (inl (dirty_stays page D))
      by (inr (inr L)) = inr (inr L)

module _ (z : Sizes) (f : Facts) (A : AreImaged z f) where
  pub harvested : (id : ℕ) (frames : List ℕ) → is_migrating f.migration ≡ true → AreImaged z (facts_after (Harvested id frames) f)
  harvested id frames goes page g w at lt = by (A page g w at lt)
    where
      left : FrameSet
      left = λ gfn. not (is_among gfn frames) && f.pending gfn

      more : FrameSet
      more = λ gfn. (is_migrating f.migration && is_among gfn frames) || f.to_copy gfn

      by_taken : (D : HasFrameIn f.slots f.pending page) (b : Bool) → is_among D.gfn frames ≡ b → HasFrameIn f.slots left page ⊎ HasFrameIn f.slots more page
      by_taken D true is =
          inr (record {
            gfn = D.gfn;
            behind = D.behind;
            among = or_left (is_migrating f.migration && is_among D.gfn frames) (f.to_copy D.gfn)
                (and_from (is_migrating f.migration) (is_among D.gfn frames) goes is);
          })
      by_taken D false is =
          inl (record { gfn = D.gfn; behind = D.behind; among = ap (λ (b : Bool). not b && f.pending D.gfn) is ∙ D.among })

      by : (f.image page w ≡ f.memory page w) ⊎ (HasFrameIn f.slots f.pending page ⊎ HasFrameIn f.slots f.to_copy page)
          → (f.image page w ≡ f.memory page w) ⊎ (HasFrameIn f.slots left page ⊎ HasFrameIn f.slots more page)
      by (inl is) = inl is
      by (inr (inl D)) = inr (by_taken D (is_among D.gfn frames) refl)
      by (inr (inr L)) =
          inr (inr (record {
            gfn = L.gfn;
            behind = L.behind;
            among = or_right (is_migrating f.migration && is_among L.gfn frames) (f.to_copy L.gfn) L.among;
          }))

  pub copied : (stage : Stage) (gfn p word value : ℕ) (whole : Bool) → CopiesNext z f stage gfn p word value whole → IsCopied f stage
      → AreImaged z (facts_after (WordCopied gfn p word value whole) f)
  copied stage gfn p word value whole may C page g w at lt = by_page (p == page) refl
    where
      left : FrameSet
      left = λ other. not (whole && (gfn == other)) && f.to_copy other

      Is : Type 0
      Is = (with_word p word value f.image page w ≡ f.memory page w) ⊎ (HasFrameIn f.slots f.pending page ⊎ HasFrameIn f.slots left page)

      -- a frame that is still to be copied
      still : (L : HasFrameIn f.slots f.to_copy page) → (whole && (gfn == L.gfn)) ≡ false → HasFrameIn f.slots left page
      still L apart = record { gfn = L.gfn; behind = L.behind; among = ap (λ (b : Bool). not b && f.to_copy L.gfn) apart ∙ L.among }

      none_by : (a b : Bool) → a ≡ false → (a && b) ≡ false
      none_by false b e = refl
      none_by true b e = absurd (cc e)

      none_too : (a b : Bool) → b ≡ false → (a && b) ≡ false
      none_too true false e = refl
      none_too false false e = refl
      none_too a true e = absurd (cc e)

      -- of another page
      of_other : (p == page) ≡ false → (f.image page w ≡ f.memory page w) ⊎ (HasFrameIn f.slots f.pending page ⊎ HasFrameIn f.slots f.to_copy page) → Is
      of_other apart (inl is) = inl (there (p == page) (word == w) _ _ apart ∙ is)
      of_other apart (inr (inl D)) = inr (inl D)
      of_other apart (inr (inr L)) = inr (inr (still L (none_too whole (gfn == L.gfn) (by_frame (gfn == L.gfn) refl))))
        where
          by_frame : (b : Bool) → (gfn == L.gfn) ≡ b → b ≡ false
          by_frame false e = refl
          by_frame true e =
              let same : gfn ≡ L.gfn = eqb-true gfn L.gfn e in
              let pages : ◌≡◌ {A = Option ℕ} (Some p) (Some page) =
              sym may.behind ∙ ap (λ (n : ℕ). page_behind (flat_slots f.slots) n Read) same ∙ L.behind in
              let is_page : p ≡ page = cc pages in
              let eq = eq-eqb p page is_page in absurd (cc (eq, apart))

      -- another word of this page, where more are to come
      of_more : whole ≡ false → (word == w) ≡ false
          → (f.image page w ≡ f.memory page w) ⊎ (HasFrameIn f.slots f.pending page ⊎ HasFrameIn f.slots f.to_copy page) → Is
      of_more goes apart (inl is) = inl (beside (p == page) (word == w) _ _ apart ∙ is)
      of_more goes apart (inr (inl D)) = inr (inl D)
      of_more goes apart (inr (inr L)) = inr (inr (still L (none_by whole (gfn == L.gfn) goes)))

      -- another word of this page, where this was the last: it was copied before
      of_last : (word == w) ≡ false → (f.image page w ≡ f.memory page w) ⊎ HasFrameIn f.slots f.pending page → Is
      of_last apart (inl is) = inl (beside (p == page) (word == w) _ _ apart ∙ is)
      of_last apart (inr D) = inr (inl D)

      earlier : whole ≡ true → (word == w) ≡ false → w < word
      earlier last apart = let long : true ≡ nat_le z.words (word + 1) = sym last ∙ may.whole_is in grind (arith, nat_tests, lt, apart, long)

      by_word : p ≡ page → (here_ last : Bool) → (word == w) ≡ here_ → whole ≡ last → Is
      by_word is_page true last same whole_is =
          inl (here (p == page) (word == w) _ _ (eq-eqb p page is_page) same
          ∙ sym may.value_is ∙ ap (λ (q : ℕ). f.memory q word) is_page ∙ ap (f.memory page) (eqb-true word w same))
      by_word is_page false true apart last =
          of_last apart (subst (IsCopied f) may.left C page w (may.behind ∙ ap Some is_page) (earlier last apart))
      by_word is_page false false apart goes = of_more goes apart (A page g w at lt)

      by_page : (b : Bool) → (p == page) ≡ b → Is
      by_page true same = by_word (eqb-true p page same) (word == w) whole refl refl
      by_page false apart = of_other apart (A page g w at lt)
