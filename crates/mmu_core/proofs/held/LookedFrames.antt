-- Each step of a part keeps what is said of the frames at which sections have looked: they are pages', or owned by actors that haven't watched them since.
use Rattle.std.proofs.Common.{◌≡◌, ◌≢◌, ◌⊎◌, inl, inr, ◌<◌, ◌≤◌, ℕ, refl, sym, subst, ap, ◌∙◌, arith}
use Rattle.std.specs.Prelude.{Bool, true, false, if◌then◌else◌, Option, Some, None, is_some}
use Rattle.core_views.specs.declared.sizes.Sizes.{Sizes}
use Rattle.core_views.specs.declared.topics.HostLook.{HostLook}
use Rattle.core_views.specs.declared.topics.OwnedFrame.{OwnedFrame}
use Rattle.core_views.specs.declared.topics.Stay.{Stay}
use Rattle.core_views.specs.declared.topics.Stay.TheVariants.{Section}
use Rattle.core_views.specs.declared.topics.Topics.{Topics}
use Rattle.core_views.specs.Held.{Held}
use Rattle.core_views.specs.Sizes.{actors_of}
use Rattle.spte_words.specs.declared.area.Area.TheVariants as area
use Rattle.spte_words.specs.HostWords.{host_frame, with_presence}
use Rattle.part_steps.specs.declared.part_step.PartStep.{PartStep}
use Rattle.part_steps.specs.declared.part_step.PartStep.TheVariants as part
use Rattle.part_steps.specs.FrameHoldings.{revises}
use Rattle.part_steps.specs.FrameTopics.{frame_after, word_copied, word_stored}
use Rattle.part_steps.specs.PartTasks.{page_looked, word_looked}
use Rattle.part_steps.specs.StayTopics.{is_loose, is_outside}
use Rattle.mmu_core.specs.invariant.FramesPart.{HasLookedAt, IsNamed, LookedFramesPart, HasFrame, frame_looked, number_owned}
use Rattle.mmu_core.specs.invariant.HeldPart.{HoldsOld}
use Rattle.mmu_core.specs.invariant.TopicsInvariant.{TopicsInvariant}
use Rattle.mmu_core.specs.machine.View.{View, part_stepped, upd}
use Rattle.mmu_core.proofs.held.InSection.{all_passed, watch_passes_nobody}
use Rattle.mmu_core.proofs.held.LooksKept.{page_there}
use Rattle.mmu_core.proofs.held.Retired.{OldStays, OwnStays, held_quiet, held_same, held_still, retired_now}
use Rattle.mmu_core.proofs.machine.Columns.{same_or, upd_other, upd_same}
use Rattle.mmu_core.proofs.machine.PartStepping.{IsPart}
use Rattle.mmu_core.proofs.pages.FramesKept.{brought_frame, is_as_looked, moved_frame, revised_frame, same_word, names_same}
use Rattle.mmu_core.proofs.machine.ColumnsTell.{tells}
use Rattle.mmu_core.proofs.words.PartTopics.{behind_step, part_behind}
use Rattle.part_steps.specs.PageRuns.{word_given}
use Rattle.mmu_core.proofs.words.HostStays.{given_frame}
use Rattle.mmu_core.proofs.held.NextPages.{next_page, next_words_behind}

abbrev LookedAt : Sizes → View → Type 0
LookedAt z v = LookedFramesPart z (actors_of z) (v.words area.Host) (λ i. (v.hand i).topics)

abbrev LookedAfter : Sizes → View → ℕ → ℕ → PartStep → Type 0
LookedAfter z v a note step = IsPart z v a step → TopicsInvariant z v → LookedAt z (part_behind a step note v)

abbrev looked : Topics → Option ℕ
looked t = frame_looked t.host t.stay

abbrev owned : Topics → Option ℕ
owned t = number_owned t.frames.owned

-- Who has looked at a frame in its section is in one, and the frame is that of its look.
looked_inside : (host : Option HostLook) (stay : Stay) (k : ℕ) → frame_looked host stay ≡ Some k → stay ≡ Section
looked_inside (Some look) Section k e = refl
looked_inside _ _ k e = absurd (cc e)

this_frame : (look : HostLook) (stay : Stay) (k : ℕ) → frame_looked (Some look) stay ≡ Some k → host_frame look.word ≡ k
this_frame look Section k e = cc e
this_frame look _ k e = absurd (cc e)

dropped_look : (drops : Bool) (host : Option HostLook) (stay : Stay) (k : ℕ) → frame_looked (if drops then None else host) stay ≡ Some k
    → frame_looked host stay ≡ Some k
dropped_look true host stay k e = absurd (cc e)
dropped_look false host stay k e = e

pub copied_number : (o : Option OwnedFrame) (v : ℕ) → number_owned (word_copied o v) ≡ number_owned o
copied_number None v = refl
copied_number (Some o) v = refl

pub stored_number : (o : Option OwnedFrame) → number_owned (word_stored o) ≡ number_owned o
stored_number None = refl
stored_number (Some o) = refl

-- ---- The host words stay.
module _ (z : Sizes) (v : View) (a : ℕ) (h : Held) (I : TopicsInvariant z v) where
  -- The actor owns the frame that it owned.
  looked_same : OwnStays HasLookedAt HasFrame (actors_of z) v.hand a h (IsNamed z.pages (v.words area.Host)) → owned h.topics ≡ owned (v.hand a).topics
      → h.topics.watched ≡ (v.hand a).topics.watched → LookedFramesPart z (actors_of z) (v.words area.Host) (λ i. (upd v.hand a h i).topics)
  looked_same own same watched =
      held_quiet HasLookedAt HasFrame (actors_of z) v.hand a h (IsNamed z.pages (v.words area.Host)) own (λ k left. same ∙ left) watched I.looked_frames

  -- It has looked at nothing new.
  looked_stay : looked h.topics ≡ looked (v.hand a).topics → h.topics.stay ≡ (v.hand a).topics.stay
      → OldStays HasLookedAt HasFrame (actors_of z) v.hand a h (IsNamed z.pages (v.words area.Host))
      → LookedFramesPart z (actors_of z) (v.words area.Host) (λ i. (upd v.hand a h i).topics)
  looked_stay same stays old =
      held_same HasLookedAt HasFrame (actors_of z) v.hand a h (IsNamed z.pages (v.words area.Host)) (λ k e. inr (sym same ∙ e, stays)) old I.looked_frames

-- ---- A host word is exchanged.

-- What becomes of the page's frame and of the one that is owned: they stay, or each of them is the other's, and nobody was watched since.
abbrev pub Turns : ℕ → ℕ → Option ℕ → Option ℕ → ℕ → Type 0
Turns old now_ had has watched = ((now_ ≡ old) × (has ≡ had)) ⊎ ((has ≡ Some old) × (had ≡ Some now_) × (watched ≡ 0))

-- The actor has looked at the page that it exchanged, which has this word then.
module _ (z : Sizes) (v : View) (a : ℕ) (h : Held) (put : ℕ) (I : TopicsInvariant z v) (there : a < actors_of z) where
  abbrev t : Topics
  t = (v.hand a).topics

  abbrev page : ℕ
  page = page_looked t.host

  abbrev host : ℕ → ℕ
  host = v.words area.Host

  abbrev Now : ℕ → Type 0
  Now = IsNamed z.pages (upd host page put)

  looked_exchanged : is_some t.host ≡ true → looked h.topics ≡ frame_looked (Some (record { page = page; word = put })) t.stay
      → ((i : ℕ) → t.watched ≤ i → h.topics.watched ≤ i)
      → Turns (host_frame (host page)) (host_frame put) (owned t) (owned h.topics) h.topics.watched
      → LookedFramesPart z (actors_of z) (upd host page put) (λ i. (upd v.hand a h i).topics)
  looked_exchanged some at later turned =
      held_still HasLookedAt HasFrame (actors_of z) v.hand a h (IsNamed z.pages host) Now (λ k e. inl (now k e)) (λ k e used. now k e)
      (λ i k ne lt e used. others i k ne (looked_inside (v.hand i).topics.host (v.hand i).topics.stay k e) used (same_or used.0 page) turned)
      (λ i k ne lt inside left unwatched. old i k left (later i unwatched) turned) I.looked_frames
    where
      has_frame : (k : ℕ) → host_frame put ≡ k → Now k
      has_frame k is = (page, page_there z v a I there some, ap host_frame (upd_same host page put) ∙ is)

      now : (k : ℕ) → looked h.topics ≡ Some k → Now k
      now k e = has_frame k (this_frame (record { page = page; word = put }) t.stay k (sym at ∙ e))

      others : (i k : ℕ) → i ≢ a → (v.hand i).topics.stay ≡ Section → (N : IsNamed z.pages host k) → (N.0 ≡ page) ⊎ (N.0 ≢ page)
          → Turns (host_frame (host page)) (host_frame put) (owned t) (owned h.topics) h.topics.watched
          → Now k ⊎ HoldsOld HasFrame (actors_of z) (λ j. (upd v.hand a h j).topics) i k
      others i k ne section N (inr apart) T = inl (N.0, N.1, ap host_frame (upd_other host page N.0 put apart) ∙ N.2)
      others i k ne section N (inl e) (inl stays) = inl (has_frame k (stays.0 ∙ ap (λ q. host_frame (host q)) (sym e) ∙ N.2))
      others i k ne section N (inl e) (inr turns) =
          inr (retired_now HasLookedAt HasFrame (actors_of z) v.hand a h i k there ne (ap is_outside section)
          (turns.0 ∙ ap Some (ap (λ q. host_frame (host q)) (sym e) ∙ N.2), omega (arith, turns.2)))

      old : (i k : ℕ) → owned t ≡ Some k → h.topics.watched ≤ i
          → Turns (host_frame (host page)) (host_frame put) (owned t) (owned h.topics) h.topics.watched
          → Now k ⊎ (owned h.topics ≡ Some k) × (h.topics.watched ≤ i)
      old i k left unwatched (inl stays) = inr (stays.1 ∙ left, unwatched)
      old i k left unwatched (inr turns) = inl (has_frame k (cc (turns.1, left)))

-- A page that is brought in keeps its frame.
brought_looked : (z : Sizes) (v : View) (a note : ℕ) → LookedAfter z v a note part.Bring
brought_looked z v a note S I =
    let t : Topics = (v.hand a).topics in
    looked_exchanged z v a _ _ I S.there S.needs.looked refl (λ i le. le)
    (inl (
      same_word (v.words area.Host (page_looked t.host)) (word_looked t.host) (with_presence true (word_looked t.host))
          (brought_frame (word_looked t.host) true),
      refl,
    ))

-- The frame of a page that is moved is owned by who moves it, and the one that this has owned is the page's.
pub changed_turns : (z : Sizes) (v : View) (a new_ : ℕ) → IsPart z v a (part.Change new_) → (x : Option OwnedFrame) (won : Bool)
    → (v.hand a).topics.frames.owned ≡ x
    → (won ≡ true → v.words area.Host (page_looked (v.hand a).topics.host) ≡ word_looked (v.hand a).topics.host)
    → Turns (host_frame (v.words area.Host (page_looked (v.hand a).topics.host)))
    (host_frame (if won then new_ else v.words area.Host (page_looked (v.hand a).topics.host))) (number_owned x)
    (number_owned (frame_after won (host_frame (word_looked (v.hand a).topics.host)) x)) 0
changed_turns z v a new_ S x won is found = by x won is found
  where
    word : ℕ
    word = word_looked (v.hand a).topics.host

    there : ℕ
    there = v.words area.Host (page_looked (v.hand a).topics.host)

    words : ℕ
    words = (v.hand a).state.sizes.words

    may : (y : Option OwnedFrame) → (v.hand a).topics.frames.owned ≡ y → revises words y word new_ ≡ true
    may y same = ap (λ o. revises words o word new_) (sym same) ∙ S.needs.1

    by : (y : Option OwnedFrame) (won : Bool) → (v.hand a).topics.frames.owned ≡ y → (won ≡ true → there ≡ word)
        → Turns (host_frame there) (host_frame (if won then new_ else there)) (number_owned y) (number_owned (frame_after won (host_frame word) y)) 0
    by None true is found = inl (revised_frame words word new_ (may None is) ∙ ap host_frame (sym (found refl)), refl)
    by (Some o) true is found =
        inr (ap (λ w. Some (host_frame w)) (sym (found refl)), ap Some (sym (moved_frame words word new_ o (may (Some o) is))), refl)
    by y false is found = inl (refl, refl)

change_looked : (z : Sizes) (v : View) (a note new_ : ℕ) → LookedAfter z v a note (part.Change new_)
change_looked z v a note new_ S I =
    let t : Topics = (v.hand a).topics in
    looked_exchanged z v a _ _ I S.there S.needs.0.looked refl (λ i le. omega arith)
    (changed_turns z v a new_ S t.frames.owned (is_as_looked t v) refl (λ e. tells (v.words area.Host (page_looked t.host)) (word_looked t.host) e))

-- A page of a run that is changed keeps its frame.
next_looked : (z : Sizes) (v : View) (a note : ℕ) → LookedAfter z v a note part.ChangeNext
next_looked z v a note S I =
    subst (λ (h : ℕ → ℕ). LookedFramesPart z (actors_of z) h (λ i. ((part_behind a part.ChangeNext note v).hand i).topics))
    (sym (next_words_behind z v a S I note))
    (λ i k lt e. named (looked_same z v a _ I (λ k e. absurd (cc e)) refl refl i k lt e))
  where
    host : ℕ → ℕ
    host = v.words area.Host

    page : ℕ
    page = next_page z v a S I

    same : (p : ℕ) → host_frame (upd host page (word_given S.needs.run page) p) ≡ host_frame (host p)
    same = names_same host page (word_given S.needs.run page) (given_frame z v a S I)

    named : {X : Type 0} {k : ℕ} → IsNamed z.pages host k ⊎ X → IsNamed z.pages (upd host page (word_given S.needs.run page)) k ⊎ X
    named (inl N) = inl (N.0, N.1, same N.0 ∙ N.2)
    named (inr x) = inr x

-- ---- Each step.

looked_after : (z : Sizes) (v : View) (a note : ℕ) (step : PartStep) → LookedAfter z v a note step
looked_after z v a note part.Enter = λ S I. looked_same z v a _ I (λ k e. absurd (cc e)) refl refl
looked_after z v a note part.Leave = λ S I. looked_same z v a _ I (λ k e. absurd (cc e)) refl refl
looked_after z v a note part.Begin = λ S I. looked_same z v a _ I (λ k e. absurd (cc e)) refl refl
looked_after z v a note part.End = λ S I. looked_same z v a _ I (λ k e. absurd (cc e)) refl refl
looked_after z v a note part.Seq =
    λ S I. looked_same z v a _ I
    (λ k e. inr (dropped_look (is_loose (v.hand a).topics.hold) (v.hand a).topics.host (v.hand a).topics.stay k e, refl)) refl refl
looked_after z v a note (part.Host page) =
    λ S I. looked_same z v a _ I
    (λ k e. inl (
      page,
      subst (λ (y : Sizes). page < y.pages) S.sizes S.needs.0,
      this_frame (record { page = page; word = v.words area.Host page }) (v.hand a).topics.stay k e,
    )) refl refl
looked_after z v a note (part.Watch index) =
    λ S I. looked_stay z v a _ I refl refl (λ i k ne lt inside left unwatched. inr (left, watch_passes_nobody z v a index S I i ne lt inside unwatched))
looked_after z v a note part.Publish = λ S I. looked_stay z v a _ I refl refl (λ i k ne lt inside left unwatched. inr (left, omega arith))
looked_after z v a note part.Frame =
    λ S I. looked_stay z v a _ I refl refl
    (λ i k ne lt inside left unwatched. absurd (let none = ap number_owned S.needs.0 in cc (none, left)))
looked_after z v a note (part.Copy index) =
    λ S I. looked_same z v a _ I (λ k e. inr (e, refl)) (copied_number (v.hand a).topics.frames.owned _) refl
looked_after z v a note (part.Store index) =
    λ S I. looked_same z v a _ I (λ k e. inr (e, refl)) (stored_number (v.hand a).topics.frames.owned) refl
looked_after z v a note part.GiveFrame =
    λ S I. looked_stay z v a _ I refl refl
    (λ i k ne lt inside left unwatched. absurd (all_passed z (v.hand a) a i S.sizes S.own_place S.needs.watched lt ne unwatched))
looked_after z v a note part.Bring = brought_looked z v a note
looked_after z v a note (part.Change new_) = change_looked z v a note new_
looked_after z v a note part.ChangeNext = next_looked z v a note
looked_after z v a note _ = λ S I. looked_same z v a _ I (λ k e. inr (e, refl)) refl refl

pub looked_frames_kept : (z : Sizes) (v : View) (a : ℕ) (step : PartStep) (note : ℕ) → IsPart z v a step → TopicsInvariant z v
    → LookedAt z (part_stepped a step note v)
looked_frames_kept z v a step note S I = behind_step (LookedAt z) z v a step note S (looked_after z v a note step S I)
