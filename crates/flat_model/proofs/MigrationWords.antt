-- What the events of a migration make of the facts: of the words of a page, of pages, and of the logs that are read.
use Rattle.std.proofs.Common.{◌≡◌, ◌+◌, ◌-◌, ◌≤◌, ◌<◌, ◌==◌, ◌&&◌, ◌||◌, ◌++◌, ◌∷◌, [], not, ℕ, zero, suc, List, Bool, true, false}
use Rattle.std.proofs.Common.{refl, sym, ap, ap₂, arith, length, ◌∙◌}
use Rattle.std.proofs.lemmas.Bool.Decides.{nat_tests}
use Rattle.std.specs.List.{range_with_len}
use Rattle.std.specs.Map.{keys_of}
use Rattle.std.specs.Prelude.{Option, Some, filter, cond}
use Rattle.core_views.specs.declared.answer.Answer.{Answer}
use Rattle.core_views.specs.declared.answer.AnsweredLine.{AnsweredLine}
use Rattle.core_views.specs.declared.event.Event.{Event}
use Rattle.core_views.specs.declared.event.EventKind.TheVariants.{Harvested}
use Rattle.core_views.specs.declared.sizes.Sizes.{Sizes}
use Rattle.core_views.specs.declared.memory_slot.MemorySlot.{MemorySlot}
use Rattle.core_views.specs.declared.trace.Command.{Command}
use Rattle.core_views.specs.declared.trace.Command.TheVariants.{Migrate}
use Rattle.core_views.specs.declared.trace.Line.{Line}
use Rattle.core_views.specs.declared.trace.MigrationCall.{MigrationCall}
use Rattle.core_views.specs.declared.trace.MigrationCall.TheVariants.{Round}
use Rattle.core_views.specs.Events.{facts_after, facts_after_all}
use Rattle.core_views.specs.Flat.{Facts}
use Rattle.core_views.specs.FlatHistory.{copying, copying_page, dirty_read, page_copied, reading_logs, words_copied}
use Rattle.core_views.specs.Lawful.{copied_answer}
use Rattle.core_views.specs.LogCommands.{asked_frames, is_among}
use Rattle.core_views.specs.Memory.{Memory, with_word}
use Rattle.core_views.specs.Migrations.{frames_in, frames_to_copy, is_migrating}
use Rattle.core_views.specs.Past.{FrameSet}
use Rattle.core_views.specs.Slots.{contains}
use Rattle.core_views.specs.SlotSets.{MemorySlots, slot_of_id}
use Rattle.core_views.specs.Text.{answers_of}
use Rattle.core_views.proofs.Texts.{answers_append}
use Rattle.flat_model.specs.Copying.{is_held, with_page, with_pages, with_words}
use Rattle.flat_model.proofs.DirtySets.{among}
use Rattle.flat_model.proofs.Held.{held_more}
use Rattle.flat_model.proofs.SlotsById.{AreTheirs}

-- ---- the words of a page

pub facts_append : (xs ys : List Event) (g : Facts) → facts_after_all (xs ++ ys) g ≡ facts_after_all ys (facts_after_all xs g)
facts_append [] ys g = refl
facts_append (x ∷ xs) ys g = facts_append xs ys (facts_after x.kind g)

-- the image with this word of a page and those after it, of which there are so many
abbrev copied_on : ℕ → ℕ → ℕ → (ℕ → ℕ) → Memory → Memory
copied_on zero page word content image = with_word page word (content word) image
copied_on (suc after) page word content image = copied_on after page (word + 1) content (with_word page word (content word) image)

-- the facts with this image, in which the frame isn't to be copied
abbrev copied_one : ℕ → Memory → Facts → Facts
copied_one gfn image g = record g { image = image; to_copy = λ other. not (gfn == other) && g.to_copy other }

words_leave : (line : Line) (gfn page after word : ℕ) (content : ℕ → ℕ) (g : Facts)
    → facts_after_all (copying_page line gfn page after word content) g ≡ copied_one gfn (copied_on after page word content g.image) g
words_leave line gfn page zero word content g = refl
words_leave line gfn page (suc after) word content g =
    words_leave line gfn page after (word + 1) content (let now : Facts = record g { image = with_word page word (content word) g.image } in now)

words_tell : (line : Line) (gfn page after word : ℕ) (content : ℕ → ℕ) → answers_of (copying_page line gfn page after word content) ≡ []
words_tell line gfn page zero word content = refl
words_tell line gfn page (suc after) word content = words_tell line gfn page after (word + 1) content

copied_all : (after page word count : ℕ) (memory image : Memory) → count ≡ word + after + 1
    → copied_on after page word (memory page) (with_words word page memory image) ≡ with_words count page memory image
copied_all zero page word count memory image is =
    let same : suc word ≡ count = omega (arith, is) in ap (λ (n : ℕ). with_words n page memory image) same
copied_all (suc after) page word count memory image is =
    let next : suc word ≡ word + 1 = omega arith in
    ap (λ (n : ℕ). copied_on after page (word + 1) (memory page) (with_words n page memory image)) next
    ∙ copied_all after page (word + 1) count memory image (omega (arith, is))

page_leaves : (z : Sizes) (line : Line) (gfn : ℕ) (g : Facts)
    → facts_after_all (words_copied z line gfn 0 g) g ≡ copied_one gfn (with_page z.words (page_copied g gfn) g.memory g.image) g
page_leaves z line gfn g =
    words_leave line gfn (page_copied g gfn) (z.words - (0 + 1)) 0 (g.memory (page_copied g gfn)) g
    ∙ ap (λ (image : Memory). copied_one gfn image g)
    (copied_all (z.words - (0 + 1)) (page_copied g gfn) 0 (z.words - 1 + 1) g.memory g.image (omega arith))

-- ---- pages

-- the facts once the pages behind these guest frames are copied
abbrev pub copied_facts : Sizes → List ℕ → Facts → Facts
copied_facts z frames g = record g {
  image = with_pages z.words g.slots frames g.memory g.image;
  to_copy = λ other. not (is_among other frames) && g.to_copy other;
}

neither : (a b t : Bool) → (not b && (not a && t)) ≡ (not (a || b) && t)
neither true true t = refl
neither true false t = refl
neither false true t = refl
neither false false t = refl

module _ (z : Sizes) (line : Line) (command : Command) where
  abbrev answered : Answer → List AnsweredLine
  answered x = record { number = line.number; actor = line.actor; answer = x } ∷ []

  -- What the events that copy these pages make of the facts, and what they tell.
  abbrev pub Copies : List ℕ → ℕ → Facts → Type 0
  Copies frames count g =
      (facts_after_all (copying z line command frames count 0 g) g ≡ copied_facts z frames g)
      × (answers_of (copying z line command frames count 0 g) ≡ answered (copied_answer z command (count + length frames) (copied_facts z frames g)))

  pub copies : (frames : List ℕ) (count : ℕ) (g : Facts) → Copies frames count g
  copies [] count g = (refl, ap (λ (n : ℕ). answered (copied_answer z command n g)) (omega arith))
  copies (gfn ∷ frames) count g =
      let words = words_copied z line gfn 0 g in
      let one : Facts = copied_one gfn (with_page z.words (page_copied g gfn) g.memory g.image) g in
      let is : facts_after_all words g ≡ one = page_leaves z line gfn g in
      let rest = copies frames (count + 1) one in
      let same : copied_facts z frames one ≡ copied_facts z (gfn ∷ frames) g =
      λ i. record g {
        image = with_pages z.words g.slots (gfn ∷ frames) g.memory g.image;
        to_copy = λ other. neither (gfn == other) (is_among other frames) (g.to_copy other) i;
      } in
      let more : count + 1 + length frames ≡ count + length (gfn ∷ frames) = omega arith in (
        facts_append words (copying z line command frames (count + 1) 0 (facts_after_all words g)) g
            ∙ ap (λ (h : Facts). facts_after_all (copying z line command frames (count + 1) 0 h) h) is ∙ rest.0 ∙ same,
        answers_append words (copying z line command frames (count + 1) 0 (facts_after_all words g))
            ∙ ap (λ (xs : List AnsweredLine). xs ++ answers_of (copying z line command frames (count + 1) 0 (facts_after_all words g)))
            (words_tell line gfn (page_copied g gfn) (z.words - (0 + 1)) 0 (g.memory (page_copied g gfn)))
            ∙ ap (λ (h : Facts). answers_of (copying z line command frames (count + 1) 0 h)) is ∙ rest.1
            ∙ ap₂ (λ (n : ℕ) (h : Facts). answered (copied_answer z command n h)) more same,
      )

-- ---- the logs

-- the facts once the logs of these slots are read
abbrev pub harvested : MemorySlots → Facts → Facts
harvested es g = record g {
  pending = λ gfn. not (is_held es gfn) && g.pending gfn;
  to_copy = λ gfn. (is_held es gfn && g.pending gfn) || g.to_copy gfn;
}

with_true : (c p : Bool) → ((c && true) && p) ≡ (c && p)
with_true true p = refl
with_true false p = refl

left_pending : (c h p : Bool) → (not h && (not (c && p) && p)) ≡ (not (c || h) && p)
left_pending true true true = refl
left_pending true true false = refl
left_pending true false true = refl
left_pending true false false = refl
left_pending false true p = refl
left_pending false false true = refl
left_pending false false false = refl

left_to_copy : (c h p t : Bool) → ((h && (not (c && p) && p)) || ((c && p) || t)) ≡ (((c || h) && p) || t)
left_to_copy true true true t = refl
left_to_copy true true false t = refl
left_to_copy true false true t = refl
left_to_copy true false false t = refl
left_to_copy false true true t = refl
left_to_copy false true false t = refl
left_to_copy false false p t = refl

module _ (z : Sizes) (line : Line) (call : MigrationCall) where
  abbrev command : Command
  command = Migrate call

  -- One log more is read.
  harvested_one : (k : ℕ) (m : MemorySlot) (g : Facts) → slot_of_id k g.slots ≡ Some m → is_migrating g.migration ≡ true
      → facts_after (Harvested k (dirty_read command k g)) g ≡ (let one : Facts = record g {
        pending = λ gfn. not (contains gfn m.slot && g.pending gfn) && g.pending gfn;
        to_copy = λ gfn. (contains gfn m.slot && g.pending gfn) || g.to_copy gfn;
      } in one)
  harvested_one k m g there runs =
      λ i. record g {
        pending = λ gfn. not (read gfn i) && g.pending gfn;
        to_copy = λ gfn. (runs i && read gfn i) || g.to_copy gfn;
      }
    where
      read : (gfn : ℕ) → is_among gfn (dirty_read command k g) ≡ (contains gfn m.slot && g.pending gfn)
      read gfn =
          ap (λ (o : Option MemorySlot). is_among gfn (asked_frames g.pending command o)) there ∙ among g.pending command m gfn
          ∙ with_true (contains gfn m.slot) (g.pending gfn)

  -- What the events that read these logs make of the facts, and what they tell, with what comes then.
  abbrev pub Reads : MemorySlots → Facts → Type 0
  Reads es g =
      (facts_after_all (reading_logs z line command (keys_of es) g) g
      ≡ facts_after_all (reading_logs z line command [] (harvested es g)) (harvested es g))
      × (answers_of (reading_logs z line command (keys_of es) g) ≡ answers_of (reading_logs z line command [] (harvested es g)))

  pub reads : (es : MemorySlots) (g : Facts) → AreTheirs g.slots es → is_migrating g.migration ≡ true → Reads es g
  reads [] g theirs runs = (refl, refl)
  reads (e ∷ es) g theirs runs =
      let one : Facts = record g {
        pending = λ gfn. not (contains gfn e.1.slot && g.pending gfn) && g.pending gfn;
        to_copy = λ gfn. (contains gfn e.1.slot && g.pending gfn) || g.to_copy gfn;
      } in
      let is = harvested_one e.0 e.1 g theirs.0 runs in
      let rest = reads es one theirs.1 runs in
      let same : harvested es one ≡ harvested (e ∷ es) g =
      λ i. record g {
        pending = λ gfn. (left_pending (contains gfn e.1.slot) (is_held es gfn) (g.pending gfn)
            ∙ sym (ap (λ (b : Bool). not b && g.pending gfn) (held_more gfn e es))) i;
        to_copy = λ gfn. (left_to_copy (contains gfn e.1.slot) (is_held es gfn) (g.pending gfn) (g.to_copy gfn)
            ∙ sym (ap (λ (b : Bool). (b && g.pending gfn) || g.to_copy gfn) (held_more gfn e es))) i;
      } in (
        ap (λ (h : Facts). facts_after_all (reading_logs z line command (keys_of es) h) h) is ∙ rest.0
            ∙ ap (λ (h : Facts). facts_after_all (reading_logs z line command [] h) h) same,
        ap (λ (h : Facts). answers_of (reading_logs z line command (keys_of es) h)) is ∙ rest.1
            ∙ ap (λ (h : Facts). answers_of (reading_logs z line command [] h)) same,
      )

-- ---- the frames that are copied

filter_same_range : (p q : ℕ → Bool) (a n : ℕ) → ((x : ℕ) → a ≤ x → x < a + n → p x ≡ q x) → filter p (range_with_len a n) ≡ filter q (range_with_len a n)
filter_same_range p q a zero same = refl
filter_same_range p q a (suc n) same =
    ap₂ (λ (b : Bool) (xs : List ℕ). cond b (a ∷ xs) xs) (same a (omega arith) (omega arith))
    (filter_same_range p q (a + 1) n (λ x low high. same x (omega (arith, low)) (omega (arith, high))))

either_held : (c h : Bool) → c ≡ true → (c || h) ≡ true
either_held true h is = refl
either_held false h is = absurd (cc is)

or_held : (c h : Bool) → h ≡ true → (c || h) ≡ true
or_held true h is = refl
or_held false h is = is

-- Sets that have the same frames of the slots give the same frames to copy.
pub frames_same : (p q : FrameSet) (es : MemorySlots) → ((gfn : ℕ) → is_held es gfn ≡ true → p gfn ≡ q gfn) → frames_to_copy p es ≡ frames_to_copy q es
frames_same p q [] same = refl
frames_same p q (e ∷ es) same =
    ap₂ (λ (xs ys : List ℕ). xs ++ ys)
    (filter_same_range p q e.1.slot.base e.1.slot.pages
    (λ x low high. let has : contains x e.1.slot ≡ true = grind (arith, nat_tests, low, high) in
    same x (held_more x e es ∙ either_held (contains x e.1.slot) (is_held es x) has)))
    (frames_same p q es (λ gfn is. same gfn (held_more gfn e es ∙ or_held (contains gfn e.1.slot) (is_held es gfn) is)))

among_front : (gfn : ℕ) (xs ys : List ℕ) → is_among gfn (xs ++ ys) ≡ (is_among gfn xs || is_among gfn ys)
among_front gfn [] ys = refl
among_front gfn (x ∷ xs) ys = ap (λ (b : Bool). (x == gfn) || b) (among_front gfn xs ys) ∙ or_assoc (x == gfn) (is_among gfn xs) (is_among gfn ys)
  where
    or_assoc : (a b c : Bool) → (a || (b || c)) ≡ ((a || b) || c)
    or_assoc true b c = refl
    or_assoc false b c = refl

joined : (c h s : Bool) → (((c && true) && s) || (h && s)) ≡ ((c || h) && s)
joined true true true = refl
joined true true false = refl
joined true false true = refl
joined true false false = refl
joined false h s = refl

-- They are those of the slots that are in the set.
pub among_frames : (frames : FrameSet) (gfn : ℕ) (es : MemorySlots) → is_among gfn (frames_to_copy frames es) ≡ (is_held es gfn && frames gfn)
among_frames frames gfn [] = refl
among_frames frames gfn (e ∷ es) =
    among_front gfn (frames_in frames e.1) (frames_to_copy frames es)
    ∙ ap₂ (λ (a b : Bool). a || b) (among frames (Migrate Round) e.1 gfn) (among_frames frames gfn es)
    ∙ joined (contains gfn e.1.slot) (is_held es gfn) (frames gfn) ∙ sym (ap (λ (b : Bool). b && frames gfn) (held_more gfn e es))
