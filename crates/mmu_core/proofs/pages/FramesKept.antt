-- The steps of the machine's parts keep what each frame of the host is.
use Rattle.std.proofs.Common.{◌≡◌, ◌+◌, ◌*◌, ◌/◌, ◌%◌, ◌<◌, ℕ, refl, sym, subst, ap, ◌∙◌, arith, w64}
use Rattle.std.specs.Prelude.{Bool, true, false, ◌==◌, ◌||◌, if◌then◌else◌, Option, Some, None}
use Rattle.std.proofs.lemmas.Nat.Bits.{bit_at-trailing_zeros}
use Rattle.core_views.specs.declared.sizes.Sizes.{Sizes}
use Rattle.core_views.specs.declared.topics.OwnedFrame.{OwnedFrame}
use Rattle.core_views.specs.declared.topics.Topics.{Topics}
use Rattle.core_views.specs.Held.{Held}
use Rattle.core_views.specs.Sizes.{actors_of}
use Rattle.spte_words.specs.declared.area.Area.TheVariants as area
use Rattle.spte_words.specs.HostWords.{host_allows_write, host_frame, host_level, host_present, host_word, with_frame, with_presence, with_writes}
use Rattle.spte_words.proofs.ReadsHost.{host_has_frame}
use Rattle.part_steps.specs.declared.part_step.PartStep.{PartStep}
use Rattle.part_steps.specs.declared.part_step.PartStep.TheVariants as part
use Rattle.part_steps.specs.FrameHoldings.{revises}
use Rattle.part_steps.specs.FrameTopics.{frame_after, frame_owned, word_copied, word_stored}
use Rattle.part_steps.specs.PageTopics.{is_won, tried_bit}
use Rattle.part_steps.specs.PartTasks.{page_looked, word_looked}
use Rattle.mmu_core.specs.invariant.FramesPart.{FrameUse, FramesPart, is_frame_of}
use Rattle.mmu_core.specs.invariant.TopicsInvariant.{TopicsInvariant}
use Rattle.mmu_core.specs.machine.View.{View, part_stepped, upd}
use Rattle.mmu_core.proofs.held.LooksKept.{page_there}
use Rattle.mmu_core.proofs.machine.Columns.{at_upd}
use Rattle.mmu_core.proofs.machine.PartStepping.{IsPart}
use Rattle.mmu_core.proofs.machine.SumsBelow.{column_upd}
use Rattle.mmu_core.proofs.pages.FramesTurn.{frame_claim_kept, frame_give_kept, frame_move_kept, frames_stay, moved_use}
use Rattle.mmu_core.proofs.machine.ColumnsTell.{both, some_is, tells}
use Rattle.mmu_core.proofs.pages.Standing.{upd_if}
use Rattle.mmu_core.proofs.words.PartTopics.{behind_step, part_behind, stepped_hand}
use Rattle.mmu_core.proofs.words.HostStays.{given_frame}
use Rattle.mmu_core.proofs.held.NextPages.{next_page, next_words_behind}

-- The host word that was looked up is the page's own.
abbrev pub is_as_looked : Topics → View → Bool
is_as_looked t v = v.words area.Host (page_looked t.host) == word_looked t.host

-- what the frames are after a step of actor a: who wins a claim owns the frame; a frame that is given back is free; and a page that is moved
-- has the frame that was owned, and its old one is owned in place of this
abbrev pub use_after : PartStep → ℕ → Topics → View → (ℕ → FrameUse) → ℕ → FrameUse
use_after part.Frame a t v use_of =
    upd_if (is_won t.frames.claim (v.words area.FrameMap t.frames.claim.at)) use_of (64 * t.frames.claim.at + tried_bit t.frames.claim) (FrameUse.Owned a)
use_after part.GiveFrame a t v use_of = upd use_of (frame_owned t.frames.owned) FrameUse.Free
use_after (part.Change new_) a t v use_of =
    moved_use (is_as_looked t v) (page_looked t.host) a (host_frame (word_looked t.host)) t.frames.owned use_of
use_after _ a t v use_of = use_of

-- what the frames are, by these words and hands
abbrev pub FramesAt : Sizes → (ℕ → FrameUse) → View → Type 0
FramesAt z use_of w = FramesPart z (actors_of z) (w.words area.FrameMap) (w.words area.Host) (λ i. (w.hand i).topics.frames.owned) use_of

-- A word that is copied or stored leaves which frame is owned.
copied_frame : (owned : Option OwnedFrame) (v k : ℕ) → is_frame_of (word_copied owned v) k ≡ is_frame_of owned k
copied_frame None v k = refl
copied_frame (Some o) v k = refl

stored_frame : (owned : Option OwnedFrame) (k : ℕ) → is_frame_of (word_stored owned) k ≡ is_frame_of owned k
stored_frame None k = refl
stored_frame (Some o) k = refl

-- ---- an exchange of a host word

level_small : (word : ℕ) → host_level word < 4
unfolding host_level
level_small word = omega arith

-- With other bits a host word names the same frame.
pub brought_frame : (word : ℕ) (present : Bool) → host_frame (with_presence present word) ≡ host_frame word
brought_frame word present = host_has_frame (host_frame word) present (host_allows_write word) (host_level word) (level_small word)

-- What a change puts in place of a word names the same frame, or the one that is owned.
pub revised_frame : (words word new_ : ℕ) → revises words None word new_ ≡ true → host_frame new_ ≡ host_frame word
revised_frame words word new_ is =
    by (new_ == with_writes true word) (new_ == with_writes false word) (new_ == with_presence false word) (λ e. tells new_ (with_writes true word) e)
    (λ e. tells new_ (with_writes false word) e) (λ e. tells new_ (with_presence false word) e) is
  where
    other_bits : (present allowed : Bool) → host_frame (host_word (host_frame word) present allowed (host_level word)) ≡ host_frame word
    other_bits present allowed = host_has_frame (host_frame word) present allowed (host_level word) (level_small word)

    by : (x y w : Bool) → (x ≡ true → new_ ≡ with_writes true word) → (y ≡ true → new_ ≡ with_writes false word)
        → (w ≡ true → new_ ≡ with_presence false word) → (x || y || w) ≡ true → host_frame new_ ≡ host_frame word
    by true y w one two three is = ap host_frame (one refl) ∙ other_bits (host_present word) true
    by false true w one two three is = ap host_frame (two refl) ∙ other_bits (host_present word) false
    by false false true one two three is = ap host_frame (three refl) ∙ other_bits false (host_allows_write word)
    by false false false one two three is = absurd (cc is)

pub moved_frame : (words word new_ : ℕ) (o : OwnedFrame) → revises words (Some o) word new_ ≡ true → host_frame new_ ≡ o.frame
moved_frame words word new_ o is =
    ap host_frame (tells new_ (with_frame o.frame word) (both (o.filled == words) (new_ == with_frame o.frame word) is).1)
    ∙ host_has_frame o.frame (host_present word) (host_allows_write word) (host_level word) (level_small word)

-- A word with the same frame leaves what each page names.
pub names_same : (host : ℕ → ℕ) (page w : ℕ) → host_frame w ≡ host_frame (host page) → (p : ℕ) → host_frame (upd host page w p) ≡ host_frame (host p)
names_same host page w same = at_upd (λ q x. host_frame x ≡ host_frame (host q)) host page w same (λ q ne. refl)

pub same_word : (found looked new_ : ℕ) → host_frame new_ ≡ host_frame looked → host_frame (if found == looked then new_ else found) ≡ host_frame found
same_word found looked new_ same = by (found == looked) (λ e. tells found looked e)
  where
    by : (won : Bool) → (won ≡ true → found ≡ looked) → host_frame (if won then new_ else found) ≡ host_frame found
    by true is = same ∙ ap host_frame (sym (is refl))
    by false is = refl

-- The change of a host word, which moves its page where a frame is owned.
module _ (z : Sizes) (v : View) (a new_ : ℕ) (S : IsPart z v a (part.Change new_)) (I : TopicsInvariant z v) where
  abbrev t : Topics
  t = (v.hand a).topics

  abbrev host : ℕ → ℕ
  host = v.words area.Host

  abbrev page : ℕ
  page = page_looked t.host

  abbrev looked : ℕ
  looked = word_looked t.host

  abbrev Changed : (ℕ → ℕ) → Option OwnedFrame → (ℕ → FrameUse) → Type 0
  Changed words owned = FramesPart z (actors_of z) (v.words area.FrameMap) words (upd (λ i. (v.hand i).topics.frames.owned) a owned)

  -- what it may write
  may : (x : Option OwnedFrame) → t.frames.owned ≡ x → revises (v.hand a).state.sizes.words x looked new_ ≡ true
  may x owned = ap (λ o. revises (v.hand a).state.sizes.words o looked new_) (sym owned) ∙ S.needs.1

  same_frame : (x : Option OwnedFrame) (w : ℕ) → host_frame w ≡ host_frame (host page) → t.frames.owned ≡ x → Changed (upd host page w) x I.use_of
  same_frame x w same owned =
      frames_stay I.frames a S.there _ (upd host page w) x (λ k. refl) (names_same host page w same) (λ k. sym (ap (λ o. is_frame_of o k) owned))

  change_kept : (x : Option OwnedFrame) (won : Bool) → t.frames.owned ≡ x → (won ≡ true → host page ≡ looked)
      → Changed (upd host page (if won then new_ else host page)) (frame_after won (host_frame looked) x)
      (moved_use won page a (host_frame looked) x I.use_of)
  change_kept None false owned found = same_frame None (host page) refl owned
  change_kept (Some o) false owned found = same_frame (Some o) (host page) refl owned
  change_kept None true owned found =
      same_frame None new_ (revised_frame (v.hand a).state.sizes.words looked new_ (may None owned) ∙ ap host_frame (sym (found refl))) owned
  change_kept (Some o) true owned found =
      let p : OwnedFrame = record { frame = host_frame looked; filled = 0; copied = None } in
      subst (λ old. Changed (upd host page new_) (Some p) (upd (upd I.use_of o.frame (FrameUse.Page page)) old (FrameUse.Owned a)))
      (ap host_frame (found refl))
      (frame_move_kept I.frames a S.there page new_ o p (page_there z v a I S.there S.needs.0.looked)
      (moved_frame (v.hand a).state.sizes.words looked new_ o (may (Some o) owned)) (ap host_frame (sym (found refl))) owned)

-- ---- each step

-- what the frames are after it, by the column of what hands own, of which one place is new
abbrev FramesThen : Sizes → View → ℕ → PartStep → ℕ → (ℕ → FrameUse) → Type 0
FramesThen z v a step note =
    FramesPart z (actors_of z) ((part_behind a step note v).words area.FrameMap) ((part_behind a step note v).words area.Host)
    (upd (λ i. (v.hand i).topics.frames.owned) a (stepped_hand a step note v).topics.frames.owned)

frames_behind : (z : Sizes) (v : View) (a : ℕ) (step : PartStep) (note : ℕ) → IsPart z v a step → (I : TopicsInvariant z v)
    → FramesThen z v a step note (use_after step a (v.hand a).topics v I.use_of)
frames_behind z v a part.Frame note S I =
    let t : Topics = (v.hand a).topics in
    let low : tried_bit t.frames.claim < 64 = (bit_at-trailing_zeros w64 t.frames.claim.seen S.needs.1 (I.counters a S.there).frames.seen).0 in
    frame_claim_kept I.frames a S.there t.frames.claim.at (tried_bit t.frames.claim)
    (is_won t.frames.claim (v.words area.FrameMap t.frames.claim.at)) low refl S.needs.0
frames_behind z v a part.GiveFrame note S I =
    let t : Topics = (v.hand a).topics in
    let o = some_is t.frames.owned S.needs.owns in
    let frame : frame_owned t.frames.owned ≡ o.0.frame = ap frame_owned o.1 in
    subst (λ f. FramesThen z v a part.GiveFrame note (upd I.use_of f FrameUse.Free)) (sym frame)
    (frame_give_kept I.frames a S.there (frame_owned t.frames.owned / 64) (frame_owned t.frames.owned % 64) o.0 (omega arith) (omega (arith, frame)) o.1)
frames_behind z v a (part.Copy index) note S I =
    frames_stay I.frames a S.there _ _ _ (λ k. refl) (λ p. refl) (copied_frame (v.hand a).topics.frames.owned _)
frames_behind z v a (part.Store index) note S I =
    frames_stay I.frames a S.there _ _ _ (λ k. refl) (λ p. refl) (stored_frame (v.hand a).topics.frames.owned)
frames_behind z v a part.Bring note S I =
    let t : Topics = (v.hand a).topics in
    frames_stay I.frames a S.there _ _ _ (λ k. refl)
    (names_same (v.words area.Host) (page_looked t.host) _
    (same_word (v.words area.Host (page_looked t.host)) (word_looked t.host) (with_presence true (word_looked t.host))
    (brought_frame (word_looked t.host) true))) (λ k. refl)
frames_behind z v a (part.Change new_) note S I =
    let t : Topics = (v.hand a).topics in
    change_kept z v a new_ S I t.frames.owned (is_as_looked t v) refl (λ e. tells (v.words area.Host (page_looked t.host)) (word_looked t.host) e)
frames_behind z v a part.ChangeNext note S I =
    frames_stay I.frames a S.there _ _ _ (λ k. refl)
    (subst (λ (h : ℕ → ℕ). (p : ℕ) → host_frame (h p) ≡ host_frame (v.words area.Host p)) (sym (next_words_behind z v a S I note))
    (names_same (v.words area.Host) (next_page z v a S I) _ (given_frame z v a S I))) (λ k. refl)
frames_behind z v a step note S I = frames_stay I.frames a S.there _ _ _ (λ k. refl) (λ p. refl) (λ k. refl)

-- Each step of a part keeps what the frames are.
pub frames_kept : (z : Sizes) (v : View) (a : ℕ) (step : PartStep) (note : ℕ) → IsPart z v a step → (I : TopicsInvariant z v)
    → FramesAt z (use_after step a (v.hand a).topics v I.use_of) (part_stepped a step note v)
frames_kept z v a step note S I =
    let w : View = part_behind a step note v in
    behind_step (FramesAt z (use_after step a (v.hand a).topics v I.use_of)) z v a step note S
    (subst (λ (owned : ℕ → Option OwnedFrame). FramesPart z (actors_of z) (w.words area.FrameMap) (w.words area.Host) owned
    (use_after step a (v.hand a).topics v I.use_of))
    (sym (column_upd (λ (g : Held). g.topics.frames.owned) v.hand a (stepped_hand a step note v))) (frames_behind z v a step note S I))
