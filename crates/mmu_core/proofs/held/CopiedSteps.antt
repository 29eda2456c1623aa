-- Each step of a part keeps what actors have copied of the pages that they move.
use Rattle.std.proofs.Common.{◌≡◌, ◌≢◌, ◌⊎◌, inl, inr, ◌+◌, ◌*◌, ◌<◌, ◌≤◌, ℕ, refl, sym, subst, ap, ◌∙◌}
use Rattle.std.specs.Prelude.{Bool, true, false, ◌==◌, if◌then◌else◌, Option, Some, None, is_some}
use Rattle.core_views.specs.declared.sizes.Sizes.{Sizes}
use Rattle.core_views.specs.declared.topics.HostLook.{HostLook}
use Rattle.core_views.specs.declared.topics.OwnedFrame.{OwnedFrame}
use Rattle.core_views.specs.declared.topics.Topics.{Topics}
use Rattle.core_views.specs.Held.{Held}
use Rattle.core_views.specs.HostChanges.{is_own}
use Rattle.core_views.specs.Sizes.{actors_of, index_of}
use Rattle.spte_words.specs.declared.area.Area.TheVariants as area
use Rattle.spte_words.specs.HostWords.{host_frame}
use Rattle.part_steps.specs.declared.part_step.PartStep.{PartStep}
use Rattle.part_steps.specs.declared.part_step.PartStep.TheVariants as part
use Rattle.part_steps.specs.FrameTopics.{copy_held, frame_after, frame_owned, is_uncopied, number_held, word_copied, word_held, word_stored, words_moved}
use Rattle.part_steps.specs.InvalidationHoldings.{MayChange}
use Rattle.part_steps.specs.PageTopics.{is_won}
use Rattle.part_steps.specs.PartTasks.{page_looked, part_task, word_looked}
use Rattle.part_steps.specs.PartTopics.{part_topics}
use Rattle.mmu_core.specs.invariant.FramesPart.{CopiedPart, IsCopied}
use Rattle.mmu_core.specs.invariant.HostWordsPart.{IsStill}
use Rattle.mmu_core.specs.invariant.TopicsInvariant.{TopicsInvariant}
use Rattle.mmu_core.specs.machine.View.{View, answer_in, part_stepped, upd, words_after}
use Rattle.mmu_core.proofs.held.OwnPages.{own_words}
use Rattle.mmu_core.proofs.machine.Columns.{at_upd}
use Rattle.mmu_core.proofs.machine.PartStepping.{IsPart}
use Rattle.mmu_core.proofs.pages.CopiedWords.{FrameStays, copied_as, copied_next, copied_stays, none_copied, stored_elsewhere, stored_next}
use Rattle.mmu_core.proofs.pages.FrameUses.{one_frame_owner, owned_of_no_page}
use Rattle.mmu_core.proofs.pages.FramesKept.{brought_frame}
use Rattle.mmu_core.proofs.machine.ColumnsTell.{some_is}
use Rattle.mmu_core.proofs.words.PartTopics.{behind_step, part_behind, part_hand}
use Rattle.part_steps.specs.InvalidationRange.{IsOnRun}
use Rattle.part_steps.specs.PageRuns.{one_look}
use Rattle.mmu_core.proofs.held.PageRuns.{on_it}

-- what is copied, in a view
abbrev pub CopiedAt : Sizes → View → Type 0
CopiedAt z v = CopiedPart z (actors_of z) (v.words area.Content) (λ i. (v.hand i).topics)

-- ---- who has copied something

-- The actor may change the page that it looked at, which has the frame that it looked up still.
pub record MovesPage (z : Sizes) (host : ℕ → ℕ) (t : Topics) : Type 0 where
  pub there : page_looked t.host < z.pages
  pub frame : host_frame (word_looked t.host) ≡ host_frame (host (page_looked t.host))
  pub invalid : IsOnRun (page_looked t.host) t.invalidations.own.pages
  pub asked : z.vcpus ≤ t.flush.asked
  pub awaited : z.vcpus ≤ t.flush.awaited

still_frame : (seen now_ : ℕ) → IsStill seen now_ → host_frame seen ≡ host_frame now_
still_frame seen now_ (inl same) = ap host_frame same
still_frame seen now_ (inr brought) = sym (ap host_frame brought.1 ∙ brought_frame seen true)

pub moves_page : (z : Sizes) (v : View) (i : ℕ) → TopicsInvariant z v → i < actors_of z → (v.hand i).state.sizes ≡ z
    → index_of z (v.hand i).state.actor ≡ i → MayChange (v.hand i) → MovesPage z (v.words area.Host) (v.hand i).topics
moves_page z v i P lt sizes at M = record {
  there = looked.0;
  frame = looked.1;
  invalid = on_it (page_looked (v.hand i).topics.host) (v.hand i).topics.invalidations.own.pages M.invalid;
  asked = subst (λ (y : Sizes). y.vcpus ≤ (v.hand i).topics.flush.asked) sizes M.asked;
  awaited = subst (λ (y : Sizes). y.vcpus ≤ (v.hand i).topics.flush.awaited) sizes M.awaited;
}
  where
    by : (x : Option HostLook) → (v.hand i).topics.host ≡ x → is_some x ≡ true
        → is_own (v.hand i).state.sizes (v.hand i).state.actor (page_looked x) ≡ true
        → (page_looked x < z.pages) × (host_frame (word_looked x) ≡ host_frame (v.words area.Host (page_looked x)))
    by None is some own_ = absurd (cc some)
    by (Some look) is some own_ =
        ((P.looks i lt).there look is, still_frame look.word (v.words area.Host look.page) (own_words z v i P lt sizes at look is own_))

    looked : (page_looked (v.hand i).topics.host < z.pages)
        × (host_frame (word_looked (v.hand i).topics.host) ≡ host_frame (v.words area.Host (page_looked (v.hand i).topics.host)))
    looked = by (v.hand i).topics.host refl M.looked M.own_

-- Each actor whose own invalidation is open has copied nothing, or moves its page.
abbrev pub Movers : Sizes → View → Type 0
Movers z v =
    (i : ℕ) → i < actors_of z → (v.hand i).topics.invalidations.opened ≡ true
    → (is_uncopied (v.hand i).topics.frames.owned ≡ true) ⊎ MovesPage z (v.words area.Host) (v.hand i).topics

-- ---- the step's own actor

-- The step is one of a copy, or changes a host word.
abbrev pub moves_on : PartStep → Bool
moves_on (part.Copy index) = true
moves_on (part.Store index) = true
moves_on (part.Change new_) = true
moves_on _ = false

claimed_uncopied : (won : Bool) (f : ℕ) → is_uncopied (if won then Some (record { frame = f; filled = 0; copied = None }) else None) ≡ true
claimed_uncopied true f = refl
claimed_uncopied false f = refl

-- All others leave an actor without a copy, if it has none.
still_uncopied : (step : PartStep) (v : View) (a note x : ℕ) (z : Sizes) → IsPart z v a step → moves_on step ≡ false
    → ((v.hand a).topics.invalidations.opened ≡ true → is_uncopied (v.hand a).topics.frames.owned ≡ true)
    → (part_topics step (v.hand a).topics x).invalidations.opened ≡ true → is_uncopied (part_topics step (v.hand a).topics x).frames.owned ≡ true
still_uncopied (part.Copy index) v a note x z S other none opened = absurd (cc other)
still_uncopied (part.Store index) v a note x z S other none opened = absurd (cc other)
still_uncopied (part.Change new_) v a note x z S other none opened = absurd (cc other)
still_uncopied part.GiveFrame v a note x z S other none opened = refl
still_uncopied part.Frame v a note x z S other none opened = claimed_uncopied (is_won (v.hand a).topics.frames.claim x) _
still_uncopied (part.SetCount count) v a note x z S other none opened = by (v.hand a).topics.invalidations.opened refl
  where
    by : (b : Bool) → (v.hand a).topics.invalidations.opened ≡ b → is_uncopied (v.hand a).topics.frames.owned ≡ true
    by true is = none is
    by false is = (S.needs.0.opens is).uncopied
still_uncopied _ v a note x z S other none opened = none opened

one_frame : {o p : OwnedFrame} → Some o ≡ Some p → o ≡ p
one_frame e = cc e

own_mover : (z : Sizes) (v : View) (a : ℕ) (step : PartStep) → IsPart z v a step → TopicsInvariant z v → MayChange (v.hand a)
    → MovesPage z (v.words area.Host) (v.hand a).topics
own_mover z v a step S I M = moves_page z v a I S.there S.sizes (subst (λ (y : Sizes). index_of y (v.hand a).state.actor ≡ a) S.sizes S.own_place) M

-- The frame of the page that the actor moves isn't its own one.
old_apart : (z : Sizes) (v : View) (a i : ℕ) (o : OwnedFrame) → TopicsInvariant z v → i < actors_of z → (v.hand i).topics.frames.owned ≡ Some o
    → MovesPage z (v.words area.Host) (v.hand a).topics → host_frame (word_looked (v.hand a).topics.host) ≢ o.frame
old_apart z v a i o I lt owned M e =
    owned_of_no_page I.frames i o (page_looked (v.hand a).topics.host) lt owned M.there (sym M.frame ∙ e)

-- No more words are filled than a frame has.
pub most : (z : Sizes) (v : View) (i : ℕ) (o : OwnedFrame) → TopicsInvariant z v → i < actors_of z → (v.hand i).topics.frames.owned ≡ Some o
    → o.filled ≤ z.words
most z v i o I lt owned = subst (λ x. words_moved x ≤ z.words) owned (I.counters i lt).frames.filled

left_words : (z : Sizes) (v : View) (a : ℕ) (p : OwnedFrame) → (v.hand a).state.sizes ≡ z → (v.hand a).topics.frames.owned ≡ Some p
    → words_moved (v.hand a).topics.frames.owned < (v.hand a).state.sizes.words → p.filled < z.words
left_words z v a p sizes owned left =
    subst (λ (y : Sizes). p.filled < y.words) sizes (subst (λ x. words_moved x < (v.hand a).state.sizes.words) owned left)

copied_some : (x : Option OwnedFrame) → is_some (copy_held x) ≡ true → is_some x ≡ true
copied_some None some = absurd (cc some)
copied_some (Some o) some = refl

module _ (z : Sizes) (v : View) (a note : ℕ) (I : TopicsInvariant z v) (C : CopiedAt z v) where
  abbrev t : Topics
  t = (v.hand a).topics

  abbrev content : PartStep → ℕ → ℕ
  content step = words_after (part_task step a t note) v.words area.Content

  abbrev now : PartStep → Topics
  now step = part_topics step t (answer_in (part_task step a t note) v.words)

  own_copy : (index : ℕ) → IsPart z v a (part.Copy index) → (o : OwnedFrame) → t.invalidations.opened ≡ true
      → (now (part.Copy index)).frames.owned ≡ Some o → IsCopied z.words (v.words area.Content) (now (part.Copy index)) o
  own_copy index S o opened owned =
      let was = some_is t.frames.owned S.needs.owns in
      let p : OwnedFrame = was.0 in
      let low : p.filled < z.words = left_words z v a p S.sizes was.1 S.needs.left in
      let is : index ≡ z.words * host_frame (word_looked t.host) + p.filled =
      S.needs.is ∙ ap (λ x. (v.hand a).state.sizes.words * host_frame (word_looked t.host) + words_moved x) was.1
      ∙ ap (λ (y : Sizes). y.words * host_frame (word_looked t.host) + p.filled) S.sizes in
      subst (IsCopied z.words (v.words area.Content) (now (part.Copy index)))
      (one_frame (sym (ap (λ x. word_copied x (v.words area.Content index)) was.1) ∙ owned))
      (copied_next z.words (v.words area.Content) t (now (part.Copy index)) p (v.words area.Content index) low (ap (v.words area.Content) (sym is)) refl
      (C a p S.there opened was.1))

  own_store : (index : ℕ) → IsPart z v a (part.Store index) → (o : OwnedFrame) → t.invalidations.opened ≡ true
      → (now (part.Store index)).frames.owned ≡ Some o → IsCopied z.words (content (part.Store index)) (now (part.Store index)) o
  own_store index S o opened owned =
      let was = held_some t.frames.owned S.needs.copied in
      let p : OwnedFrame = was.0 in
      let low : p.filled < z.words = left_words z v a p S.sizes was.1 S.needs.left in
      let is : index ≡ z.words * p.frame + p.filled =
      S.needs.is ∙ ap (λ x. (v.hand a).state.sizes.words * frame_owned x + words_moved x) was.1 ∙ ap (λ (y : Sizes). y.words * p.frame + p.filled) S.sizes in
      subst (IsCopied z.words (content (part.Store index)) (now (part.Store index))) (one_frame (sym (ap word_stored was.1) ∙ owned))
      (subst (λ i. IsCopied z.words (upd (v.words area.Content) i (word_held t.frames.owned)) (now (part.Store index))
      (record { frame = p.frame; filled = p.filled + 1; copied = None })) (sym is)
      (subst (λ x. IsCopied z.words (upd (v.words area.Content) (z.words * p.frame + p.filled) x) (now (part.Store index))
      (record { frame = p.frame; filled = p.filled + 1; copied = None })) (sym (ap word_held was.1 ∙ ap number_held was.3))
      (stored_next z.words (v.words area.Content) t (now (part.Store index)) p was.2 low was.3
      (old_apart z v a a p I S.there was.1 (own_mover z v a (part.Store index) S I S.needs.change)) refl (C a p S.there opened was.1))))
    where
      held_some : (x : Option OwnedFrame) → is_some (copy_held x) ≡ true → (p : OwnedFrame) × (x ≡ Some p) × (w : ℕ) × (p.copied ≡ Some w)
      held_some None some = absurd (cc some)
      held_some (Some p) some = by p.copied refl some
        where
          by : (c : Option ℕ) → p.copied ≡ c → is_some c ≡ true
              → (q : OwnedFrame) × (◌≡◌ {A = Option OwnedFrame} (Some p) (Some q)) × (w : ℕ) × (q.copied ≡ Some w)
          by None is some = absurd (cc some)
          by (Some w) is some = (p, refl, w, is)

  own_change : (new_ : ℕ) → IsPart z v a (part.Change new_) → (o : OwnedFrame) → t.invalidations.opened ≡ true
      → (now (part.Change new_)).frames.owned ≡ Some o → IsCopied z.words (v.words area.Content) (now (part.Change new_)) o
  own_change new_ S o opened owned = by (v.words area.Host page == looked) t.frames.owned refl owned
    where
      page : ℕ
      page = page_looked t.host

      looked : ℕ
      looked = word_looked t.host

      -- the topics where the exchange was won, and where it was lost
      after : Bool → Topics
      after won = record t {
        host = Some (record { page = page; word = if won then new_ else v.words area.Host page });
        row = one_look;
        watched = 0;
        frames = record t.frames { owned = frame_after won (host_frame looked) t.frames.owned };
      }

      by : (won : Bool) (x : Option OwnedFrame) → t.frames.owned ≡ x → frame_after won (host_frame looked) t.frames.owned ≡ Some o
          → IsCopied z.words (v.words area.Content) (after won) o
      by true None is after_is = let none = sym (ap (frame_after true (host_frame looked)) is) ∙ after_is in absurd (cc none)
      by true (Some p) is after_is =
          none_copied z.words (v.words area.Content) (after true) o
          (ap (λ (q : OwnedFrame). is_uncopied (Some q)) (sym (one_frame (sym (ap (frame_after true (host_frame looked)) is) ∙ after_is))))
      by false x is after_is =
          copied_as z.words (v.words area.Content) t (after false) o (own_mover z v a (part.Change new_) S I S.needs.0).frame
          (C a o S.there opened after_is)

  own_copied : (step : PartStep) → IsPart z v a step
      → (moves_on step ≡ false → t.invalidations.opened ≡ true → is_uncopied t.frames.owned ≡ true)
      → (o : OwnedFrame) → (now step).invalidations.opened ≡ true → (now step).frames.owned ≡ Some o → IsCopied z.words (content step) (now step) o
  own_copied (part.Copy index) S none = own_copy index S
  own_copied (part.Store index) S none = own_store index S
  own_copied (part.Change new_) S none = own_change new_ S
  own_copied step S none = λ o opened owned.
      none_copied z.words (content step) (now step) o
      (sym (ap is_uncopied owned) ∙ still_uncopied step v a note (answer_in (part_task step a t note) v.words) z S refl (none refl) opened)

  -- ---- the others

  -- Another actor's copy stays, where a word of the own frame is stored.
  others_store : (index : ℕ) → IsPart z v a (part.Store index) → Movers z v → (i : ℕ) → i ≢ a → (o : OwnedFrame) → i < actors_of z
      → (v.hand i).topics.invalidations.opened ≡ true → (v.hand i).topics.frames.owned ≡ Some o
      → IsCopied z.words (content (part.Store index)) (v.hand i).topics o
  others_store index S movers i ne o lt opened owned = by (movers i lt opened)
    where
      was : (p : OwnedFrame) × (t.frames.owned ≡ Some p)
      was = some_is t.frames.owned (copied_some t.frames.owned S.needs.copied)

      p : OwnedFrame
      p = was.0

      low : p.filled < z.words
      low = left_words z v a p S.sizes was.1 S.needs.left

      is : index ≡ z.words * p.frame + p.filled
      is = S.needs.is ∙ ap (λ x. (v.hand a).state.sizes.words * frame_owned x + words_moved x) was.1
          ∙ ap (λ (y : Sizes). y.words * p.frame + p.filled) S.sizes

      stays : (frame : ℕ) → frame ≢ p.frame → FrameStays z.words (v.words area.Content) (content (part.Store index)) frame
      stays frame apart =
          subst (λ k. FrameStays z.words (v.words area.Content) (upd (v.words area.Content) k (word_held t.frames.owned)) frame) (sym is)
          (stored_elsewhere z.words (v.words area.Content) p.frame p.filled (word_held t.frames.owned) frame low apart)

      by : (is_uncopied (v.hand i).topics.frames.owned ≡ true) ⊎ MovesPage z (v.words area.Host) (v.hand i).topics
          → IsCopied z.words (content (part.Store index)) (v.hand i).topics o
      by (inl none) = none_copied z.words (content (part.Store index)) (v.hand i).topics o (sym (ap is_uncopied owned) ∙ none)
      by (inr M) =
          copied_stays z.words (v.words area.Content) (content (part.Store index)) (v.hand i).topics o (most z v i o I lt owned)
          (stays o.frame (λ e. ne (one_frame_owner I.frames i a o p lt S.there owned was.1 (sym e))))
          (stays (host_frame (word_looked (v.hand i).topics.host)) (old_apart z v i a p I S.there was.1 M)) (C i o lt opened owned)

  others_copied : (step : PartStep) → IsPart z v a step → Movers z v → (i : ℕ) → i ≢ a → (o : OwnedFrame) → i < actors_of z
      → (v.hand i).topics.invalidations.opened ≡ true → (v.hand i).topics.frames.owned ≡ Some o → IsCopied z.words (content step) (v.hand i).topics o
  others_copied (part.Store index) S movers = others_store index S movers
  others_copied step S movers = λ i ne o lt opened owned. C i o lt opened owned

  copied_behind : (step : PartStep) → IsPart z v a step → Movers z v
      → (moves_on step ≡ false → t.invalidations.opened ≡ true → is_uncopied t.frames.owned ≡ true) → CopiedAt z (part_behind a step note v)
  copied_behind step S movers none i o lt =
      at_upd (λ j (h : Held). j < actors_of z → h.topics.invalidations.opened ≡ true → h.topics.frames.owned ≡ Some o
      → IsCopied z.words (content step) h.topics o) v.hand a (part_hand step a note (v.hand a) (answer_in (part_task step a t note) v.words))
      (λ there. own_copied step S none o) (λ j ne there. others_copied step S movers j ne o there) i lt

-- Each step of a part keeps what is copied, where but for steps of a copy and changes the actor itself has copied nothing.
pub part_copied : (z : Sizes) (v : View) (a : ℕ) (step : PartStep) (note : ℕ) → IsPart z v a step → TopicsInvariant z v → Movers z v
    → (moves_on step ≡ false → (v.hand a).topics.invalidations.opened ≡ true → is_uncopied (v.hand a).topics.frames.owned ≡ true) → CopiedAt z v
    → CopiedAt z (part_stepped a step note v)
part_copied z v a step note S I movers none C = behind_step (CopiedAt z) z v a step note S (copied_behind z v a note I C step S movers none)
