-- Each step of a part leaves the host words but the one that it changes, which stays a host word. And the sequence number never falls.
use Rattle.std.proofs.Common.{◌≡◌, ◌≤◌, ℕ, inl, inr, refl, sym, ap, ◌∙◌, arith, subst, ◌<◌}
use Rattle.std.specs.Prelude.{Bool, true, false, ◌==◌, if◌then◌else◌, ◌||◌, ◌&&◌, Option, Some, None}
use Rattle.std.proofs.lemmas.Bool.Decides.{nat_tests}
use Rattle.core_views.specs.declared.sizes.Sizes.{Sizes}
use Rattle.spte_words.specs.declared.area.Area.TheVariants as area
use Rattle.part_steps.specs.declared.part_step.PartStep.{PartStep}
use Rattle.part_steps.specs.declared.part_step.PartStep.TheVariants as part
use Rattle.core_views.specs.declared.topics.PageRun.{PageRun}
use Rattle.part_steps.specs.PageRuns.{level_put, word_given, word_seen}
use Rattle.part_steps.specs.PartTasks.{page_looked, word_looked}
use Rattle.mmu_core.proofs.held.NextPages.{next_found, next_own, next_page, next_there, next_words}
use Rattle.part_steps.specs.StayTopics.{has_lock}
use Rattle.mmu_core.specs.invariant.InvalidationsPart.{knows_seq}
use Rattle.mmu_core.specs.invariant.TopicsInvariant.{TopicsInvariant}
use Rattle.mmu_core.specs.machine.View.{View, part_stepped, upd}
use Rattle.mmu_core.proofs.machine.PartStepping.{IsPart, changes_word}
use Rattle.mmu_core.specs.invariant.HostWordsPart.{HostWordsPart, IsHostWord, IsStill}
use Rattle.mmu_core.proofs.machine.Columns.{at_upd}
use Rattle.mmu_core.proofs.pages.FrameUses.{owned_frame_there}
use Rattle.core_views.specs.declared.topics.OwnedFrame.{OwnedFrame}
use Rattle.part_steps.specs.FrameHoldings.{revises}
use Rattle.spte_words.specs.HostWords.{with_frame, with_presence, with_writes, host_word, host_present, host_level, host_frame, host_allows_write}
use Rattle.spte_words.proofs.ReadsHost.{host_has_frame, host_is_present, host_has_level, host_is_writable}

pub host_stays : (v : View) (a : ℕ) (step : PartStep) (note : ℕ) → changes_word step ≡ false → (part_stepped a step note v).words area.Host ≡ v.words area.Host
host_stays v a part.Bring note other = absurd (cc other)
host_stays v a (part.Change new_) note other = absurd (cc other)
host_stays v a part.ChangeNext note other = absurd (cc other)
host_stays v a _ note other = refl

-- ---- host words

pub is_word_of : (frames frame : ℕ) (present allowed : Bool) (level : ℕ) → frame < frames → 1 ≤ level → level < 4
    → IsHostWord frames (host_word frame present allowed level)
is_word_of frames frame present allowed level low from few =
    let w : ℕ = host_word frame present allowed level in
    let same : host_frame w ≡ frame = host_has_frame frame present allowed level few in
    let of_level : host_level w ≡ level = host_has_level frame present allowed level few in (
      ap (λ (n : ℕ). host_word n present allowed level) (sym same)
          ∙ (ap (λ (b : Bool). host_word (host_frame w) b allowed level) (sym (host_is_present frame present allowed level))
          ∙ (ap (λ (b : Bool). host_word (host_frame w) (host_present w) b level) (sym (host_is_writable frame present allowed level))
          ∙ ap (λ (n : ℕ). host_word (host_frame w) (host_present w) (host_allows_write w) n) (sym of_level))),
      omega (arith, same, low),
      omega (arith, of_level, from),
    )

-- The level that pages of a run are given is one of those that leaves have.
pub put_either : (P : ℕ → Type 0) (run : PageRun) → P run.level → P 1 → P (level_put run)
put_either P run own one = by (host_level run.word == 1)
  where
    by : (b : Bool) → P (if b then run.level else 1)
    by true = own
    by false = one

pub put_low : (run : PageRun) → run.level ≤ 3 → level_put run < 4
put_low run most = put_either (λ n. n < 4) run (omega (arith, most)) (omega arith)

pub put_some : (run : PageRun) → 1 ≤ run.level → 1 ≤ level_put run
put_some run least = put_either (λ n. 1 ≤ n) run least (omega arith)

-- With other bits a host word is one, and it names the same frame.
pub level_low : (word : ℕ) → host_level word < 4
unfolding host_level
level_low word = omega arith

pub same_frame : (word : ℕ) (present allowed : Bool) → host_frame (host_word (host_frame word) present allowed (host_level word)) ≡ host_frame word
same_frame word present allowed = host_has_frame (host_frame word) present allowed (host_level word) (level_low word)

pub other_bits : (frames word : ℕ) (present allowed : Bool) → IsHostWord frames word
    → IsHostWord frames (host_word (host_frame word) present allowed (host_level word))
other_bits frames word present allowed W = is_word_of frames (host_frame word) present allowed (host_level word) W.1 W.2 (level_low word)

-- At another frame it is one, too, and names this frame.
pub moved_frame : (word frame : ℕ) → host_frame (with_frame frame word) ≡ frame
moved_frame word frame = host_has_frame frame (host_present word) (host_allows_write word) (host_level word) (level_low word)

pub other_frame : (frames word frame : ℕ) → frame < frames → IsHostWord frames word → IsHostWord frames (with_frame frame word)
other_frame frames word frame low W = is_word_of frames frame (host_present word) (host_allows_write word) (host_level word) low W.2 (level_low word)

-- What is so of each word that a change may put in place of another one: where no frame is owned, and where the page is moved into the one that is.
pub each_revision : (words : ℕ) (owned : Option OwnedFrame) (word new_ : ℕ) (IsSo : ℕ → Type 0)
    → (owned ≡ None → (allowed : Bool) → IsSo (with_writes allowed word)) → (owned ≡ None → IsSo (with_presence false word))
    → ((o : OwnedFrame) → owned ≡ Some o → o.filled ≡ words → IsSo (with_frame o.frame word)) → revises words owned word new_ ≡ true → IsSo new_
each_revision words None word new_ IsSo writes gone moved is =
    by (new_ == with_writes true word) (new_ == with_writes false word) (new_ == with_presence false word) (λ e. grind (arith, nat_tests))
    (λ e. grind (arith, nat_tests)) (λ e. grind (arith, nat_tests)) is
  where
    by : (x y w : Bool) → (x ≡ true → new_ ≡ with_writes true word) → (y ≡ true → new_ ≡ with_writes false word)
        → (w ≡ true → new_ ≡ with_presence false word) → (x || y || w) ≡ true → IsSo new_
    by true y w one two three is = subst IsSo (sym (one refl)) (writes refl true)
    by false true w one two three is = subst IsSo (sym (two refl)) (writes refl false)
    by false false true one two three is = subst IsSo (sym (three refl)) (gone refl)
    by false false false one two three is = absurd (cc is)
each_revision words (Some o) word new_ IsSo writes gone moved is =
    by (o.filled == words) (new_ == with_frame o.frame word) (λ e. grind (arith, nat_tests)) (λ e. grind (arith, nat_tests)) is
  where
    by : (x y : Bool) → (x ≡ true → o.filled ≡ words) → (y ≡ true → new_ ≡ with_frame o.frame word) → (x && y) ≡ true → IsSo new_
    by true true full put is = subst IsSo (sym (put refl)) (moved o refl (full refl))
    by true false full put is = absurd (cc is)
    by false y full put is = absurd (cc is)

-- A change, and a fault that brings the page in, put a host word in place of one.
abbrev pub IsRevised : ℕ → ℕ → ℕ → Type 0
IsRevised frames old_ new_ = IsHostWord frames old_ → IsHostWord frames new_

pub changed_word : (frames words : ℕ) (owned : Option OwnedFrame) (word new_ : ℕ) → ((o : OwnedFrame) → owned ≡ Some o → o.frame < frames)
    → revises words owned word new_ ≡ true → IsRevised frames word new_
changed_word frames words owned word new_ there is =
    each_revision words owned word new_ (IsRevised frames word) (λ none allowed. other_bits frames word (host_present word) allowed)
    (λ none. other_bits frames word false (host_allows_write word)) (λ o at full. other_frame frames word o.frame (there o at)) is

pub brought_word : (frames word : ℕ) → IsRevised frames word (with_presence true word)
brought_word frames word = other_bits frames word true (host_allows_write word)

-- So is what an exchange leaves.
pub exchanged_word : (frames found old_ new_ : ℕ) → IsHostWord frames found → IsRevised frames old_ new_
    → IsHostWord frames (if found == old_ then new_ else found)
exchanged_word frames found old_ new_ W put = by (found == old_) (λ e. grind (arith, nat_tests))
  where
    by : (won : Bool) → (won ≡ true → found ≡ old_) → IsHostWord frames (if won then new_ else found)
    by true same = put (subst (IsHostWord frames) (same refl) W)
    by false same = W

-- The frame that an actor owns is one of the machine's, so a change puts a host word in place of the one that the actor looked at.
pub put_word : (z : Sizes) (v : View) (a new_ : ℕ) → IsPart z v a (part.Change new_) → TopicsInvariant z v
    → IsRevised z.frames (word_looked (v.hand a).topics.host) new_
put_word z v a new_ S I =
    changed_word z.frames (v.hand a).state.sizes.words (v.hand a).topics.frames.owned (word_looked (v.hand a).topics.host) new_
    (λ o is. owned_frame_there I.frames a o S.there is) S.needs.1

-- So is the word that is given to the next page of a run; it names the same frame.
pub given_frame : (z : Sizes) (v : View) (a : ℕ) (S : IsPart z v a part.ChangeNext) (I : TopicsInvariant z v)
    → host_frame (word_given S.needs.run (next_page z v a S I)) ≡ host_frame (v.words area.Host (next_page z v a S I))
given_frame z v a S I =
    let run : PageRun = S.needs.run in
    let seen : ℕ = word_seen run (next_page z v a S I) in
    host_has_frame (host_frame seen) (host_present seen) (host_allows_write seen) (level_put run) (put_low run (next_own z v a S I).level.1)
    ∙ ap host_frame (sym (next_found z v a S I))

pub given_word : (z : Sizes) (v : View) (a : ℕ) (S : IsPart z v a part.ChangeNext) (I : TopicsInvariant z v)
    → IsHostWord z.frames (word_given S.needs.run (next_page z v a S I))
given_word z v a S I =
    let run : PageRun = S.needs.run in
    let seen : ℕ = word_seen run (next_page z v a S I) in
    let low : host_frame seen < z.frames =
    subst (λ w. host_frame w < z.frames) (next_found z v a S I) (I.hosts (next_page z v a S I) (next_there z v a S I)).1 in
    is_word_of z.frames (host_frame seen) (host_present seen) (host_allows_write seen) (level_put run) low
    (put_some run (next_own z v a S I).level.0) (put_low run (next_own z v a S I).level.1)

hosts_behind : (z : Sizes) (v : View) (a note : ℕ) (step : PartStep) → IsPart z v a step → TopicsInvariant z v
    → HostWordsPart z ((part_stepped a step note v).words area.Host)
hosts_behind z v a note step S I = by step S
  where
    host : ℕ → ℕ
    host = v.words area.Host

    page : ℕ
    page = page_looked (v.hand a).topics.host

    looked : ℕ
    looked = word_looked (v.hand a).topics.host

    put : (new_ : ℕ) → IsRevised z.frames looked new_ → HostWordsPart z (upd host page (if host page == looked then new_ else host page))
    put new_ is =
        at_upd (λ (q w : ℕ). q < z.pages → IsHostWord z.frames w) host page _
        (λ there. exchanged_word z.frames (host page) looked new_ (I.hosts page there) is) (λ q ne there. I.hosts q there)

    by : (step : PartStep) → IsPart z v a step → HostWordsPart z ((part_stepped a step note v).words area.Host)
    by part.Bring S = put _ (brought_word z.frames looked)
    by (part.Change new_) S = put new_ (put_word z v a new_ S I)
    by part.ChangeNext S =
        subst (HostWordsPart z) (sym (next_words z v a S I note))
        (at_upd (λ (q w : ℕ). q < z.pages → IsHostWord z.frames w) host (next_page z v a S I) _
        (λ there. given_word z v a S I) (λ q ne there. I.hosts q there))
    by _ S = I.hosts

-- ---- what was seen of a page

-- What was seen present is the page's word still.
pub still_present : (seen now_ : ℕ) → IsStill seen now_ → host_present seen ≡ true → seen ≡ now_
still_present seen now_ (inl same) there = same
still_present seen now_ (inr brought) there = absurd (let absent = brought.0 in cc (absent, there))

-- A word is still what it was where one that was seen absent is exchanged for the one with the page in memory.
pub still_brought : (seen found old_ : ℕ) → host_present old_ ≡ false → IsStill seen found
    → IsStill seen (if found == old_ then with_presence true old_ else found)
still_brought seen found old_ absent still = by (found == old_) (λ e. grind (arith, nat_tests)) still
  where
    by : (won : Bool) → (won ≡ true → found ≡ old_) → IsStill seen found → IsStill seen (if won then with_presence true old_ else found)
    by false same still = still
    by true same (inl e) =
        let is : seen ≡ old_ = e ∙ same refl in inr (ap host_present is ∙ absent, ap (with_presence true) (sym is))
    by true same (inr brought) =
        let gone : host_present found ≡ false = ap host_present (same refl) ∙ absent in
        let here : host_present found ≡ true =
        ap host_present brought.1 ∙ host_is_present (host_frame seen) true (host_allows_write seen) (host_level seen) in
        absurd (cc (gone, here))

-- What was seen tells its level, its frame and whether it allows writes; and that it is present, where it was.
pub still_level : (seen now_ : ℕ) → IsStill seen now_ → host_level now_ ≡ host_level seen
still_level seen now_ (inl same) = ap host_level (sym same)
still_level seen now_ (inr brought) =
    ap host_level brought.1 ∙ host_has_level (host_frame seen) true (host_allows_write seen) (host_level seen) (level_low seen)

pub still_frame : (seen now_ : ℕ) → IsStill seen now_ → host_frame now_ ≡ host_frame seen
still_frame seen now_ (inl same) = ap host_frame (sym same)
still_frame seen now_ (inr brought) = ap host_frame brought.1 ∙ same_frame seen true (host_allows_write seen)

pub still_writes : (seen now_ : ℕ) → IsStill seen now_ → host_allows_write now_ ≡ host_allows_write seen
still_writes seen now_ (inl same) = ap host_allows_write (sym same)
still_writes seen now_ (inr brought) =
    ap host_allows_write brought.1 ∙ host_is_writable (host_frame seen) true (host_allows_write seen) (host_level seen)

pub still_there : (seen now_ : ℕ) → IsStill seen now_ → host_present seen ≡ true → host_present now_ ≡ true
still_there seen now_ still there = ap host_present (sym (still_present seen now_ still there)) ∙ there

-- Each host word stays one of its page.
pub hosts_kept : (z : Sizes) (v : View) (a : ℕ) (step : PartStep) (note : ℕ) → IsPart z v a step → TopicsInvariant z v
    → HostWordsPart z ((part_stepped a step note v).words area.Host)
hosts_kept z v a step note S I = hosts_behind z v a note step S I

-- The sequence number that is stored is one more than the one that stands there.
pub seq_rises : (z : Sizes) (v : View) (a : ℕ) (step : PartStep) (note : ℕ) → IsPart z v a step → TopicsInvariant z v
    → v.words area.Seq 0 ≤ (part_stepped a step note v).words area.Seq 0
seq_rises z v a (part.SetSeq seq) note S I =
    let is = S.needs.1 in
    let loaded = (I.checks a S.there).numbered (ap has_lock S.needs.0.alone) (ap knows_seq S.needs.0.loaded) in
    omega (arith, is, loaded)
seq_rises z v a _ note S I = omega arith

-- ---- the level of a mapping

-- What a change puts in place of a host word is of its level.
revised_level : (words : ℕ) (owned : Option OwnedFrame) (word new_ : ℕ) → revises words owned word new_ ≡ true → host_level new_ ≡ host_level word
revised_level words owned word new_ is =
    each_revision words owned word new_ (λ n. host_level n ≡ host_level word)
    (λ none allowed. host_has_level (host_frame word) (host_present word) allowed (host_level word) (level_low word))
    (λ none. host_has_level (host_frame word) false (host_allows_write word) (host_level word) (level_low word))
    (λ o is_owned full. host_has_level o.frame (host_present word) (host_allows_write word) (host_level word) (level_low word)) is

-- So is what an exchange leaves.
exchanged_level : (found old_ new_ : ℕ) → host_level new_ ≡ host_level old_ → host_level (if found == old_ then new_ else found) ≡ host_level found
exchanged_level found old_ new_ same = by (found == old_) (λ e. grind (arith, nat_tests))
  where
    by : (won : Bool) → (won ≡ true → found ≡ old_) → host_level (if won then new_ else found) ≡ host_level found
    by true is = same ∙ ap host_level (sym (is refl))
    by false is = refl

-- The step changes a page of a run.
abbrev pub changes_run : PartStep → Bool
changes_run part.ChangeNext = true
changes_run _ = false

-- Each other step of a part leaves each page at its level.
pub levels_stay : (z : Sizes) (v : View) (a : ℕ) (step : PartStep) (note : ℕ) → changes_run step ≡ false → IsPart z v a step
    → (q : ℕ) → host_level ((part_stepped a step note v).words area.Host q) ≡ host_level (v.words area.Host q)
levels_stay z v a step note other S = by step other S
  where
    host : ℕ → ℕ
    host = v.words area.Host

    page : ℕ
    page = page_looked (v.hand a).topics.host

    looked : ℕ
    looked = word_looked (v.hand a).topics.host

    put : (new_ : ℕ) → host_level new_ ≡ host_level looked → (q : ℕ)
        → host_level (upd host page (if host page == looked then new_ else host page) q) ≡ host_level (host q)
    put new_ same = at_upd (λ (q w : ℕ). host_level w ≡ host_level (host q)) host page _ (exchanged_level (host page) looked new_ same) (λ q ne. refl)

    by : (step : PartStep) → changes_run step ≡ false → IsPart z v a step
        → (q : ℕ) → host_level ((part_stepped a step note v).words area.Host q) ≡ host_level (host q)
    by part.ChangeNext other S = absurd (cc other)
    by part.Bring other S = put _ (host_has_level (host_frame looked) true (host_allows_write looked) (host_level looked) (level_low looked))
    by (part.Change new_) other S = put new_ (revised_level (v.hand a).state.sizes.words (v.hand a).topics.frames.owned looked new_ S.needs.1)
    by _ other S = λ q. refl
