-- No step of a part waits while all other actors rest, whatever line it is of; and what its actor has seen of the words stands after it.
use Rattle.std.proofs.Common.{◌≡◌, inl, inr, ◌+◌, ◌<◌, ℕ, refl, sym, subst, ap, ◌∙◌, arith}
use Rattle.std.specs.Prelude.{Bool, true, false, ◌==◌, nat_lt, not, if◌then◌else◌, Some}
use Rattle.std.proofs.lemmas.Bool.Decides.{nat_tests}
use Rattle.core_views.specs.declared.sizes.Sizes.{Sizes}
use Rattle.core_views.specs.declared.topics.Hold.{Hold}
use Rattle.core_views.specs.declared.topics.Hold.TheVariants.{Shared, Owing, Exclusive}
use Rattle.core_views.specs.declared.topics.MapClaim.{MapClaim}
use Rattle.core_views.specs.declared.topics.Stay.TheVariants.{Section}
use Rattle.core_views.specs.declared.topics.Topics.{Topics}
use Rattle.core_views.specs.Held.{Held}
use Rattle.core_views.specs.Sizes.{actors_of, index_of}
use Rattle.spte_words.specs.declared.area.Area.{Area}
use Rattle.spte_words.specs.declared.area.Area.TheVariants as area
use Rattle.part_steps.specs.declared.part_step.PartStep.{PartStep}
use Rattle.part_steps.specs.declared.part_step.PartStep.TheVariants as part
use Rattle.part_steps.specs.PartTasks.{own_index, part_task}
use Rattle.part_steps.specs.PartSteps.{GoesOnToWord, PartNeeds}
use Rattle.part_steps.specs.PartTopics.{part_topics}
use Rattle.part_steps.specs.PageTopics.{is_won}
use Rattle.part_steps.specs.ControlBits.{has_writer}
use Rattle.part_steps.specs.StayTopics.{has_lock, is_loose}
use Rattle.mmu_core.specs.alone.OthersRest.{OthersRest}
use Rattle.mmu_core.specs.alone.SeenStands.{NoneFreeBefore, ScanStands, SeenStands}
use Rattle.mmu_core.specs.invariant.Laws.{IsSound}
use Rattle.mmu_core.specs.declared.claim.FreeMap.{FreeMap}
use Rattle.mmu_core.specs.declared.claim.FreeMap.TheVariants.{Frames, Pages}
use Rattle.mmu_core.specs.orders.ClaimSteps.{claim_over, map_area, try_part}
use Rattle.mmu_core.specs.lines.PartWaits.{is_owing, part_waits, saw_open}
use Rattle.mmu_core.specs.machine.Enabled.{mmu}
use Rattle.mmu_core.specs.machine.Machine.{World, hand_in}
use Rattle.mmu_core.specs.machine.View.{answer_in, word_in, words_after}
use Rattle.mmu_core.proofs.invariant.AloneLaws.{lock_free, outside_word}
use Rattle.mmu_core.proofs.orders.ClaimMade.{saw_bit}
use Rattle.mmu_core.proofs.forms.access.FaultScans.{KeepsScan, gives}
use Rattle.mmu_core.proofs.forms.access.FaultScans as scans
use Rattle.mmu_core.proofs.orders.ShareMade.{no_writer}
use Rattle.mmu_laws.proofs.forms.access.FaultComes.{is_it}
use Rattle.mmu_laws.proofs.alone.OthersOpen.{flushed_alone, none_more, own_alone}
use Rattle.mmu_core.proofs.lines.NotOpen.{closed_on}

-- ---- a scan of the map

-- the words up to the next one, after a load of this one
past_word : (map : ℕ → ℕ) (zero_ : Bool) (word : ℕ) → (map word == 0) ≡ zero_ → NoneFreeBefore map word → NoneFreeBefore map (word + (if zero_ then 1 else 0))
past_word map false word none before i lt = before i (omega (arith, lt))
past_word map true word none before i lt = by (nat_lt i word) refl
  where
    by : (b : Bool) → nat_lt i word ≡ b → map i ≡ 0
    by true low = before i (grind (arith, nat_tests))
    by false low = let here : i ≡ word = grind (arith, nat_tests) in ap map here ∙ grind (arith, nat_tests)

-- the claim stays at this one, where it saw a page free in it
at_word : (map : ℕ → ℕ) (zero_ : Bool) (word : ℕ) → (map word == 0) ≡ zero_ → 0 < map word → map (word + (if zero_ then 1 else 0)) ≡ map word
at_word map true word is some = absurd (grind (arith, nat_tests))
at_word map false word is some = ap map (omega arith)

-- After a load of a word, where no page is free in the words before it.
scan_loaded : (map : ℕ → ℕ) (word : ℕ) → NoneFreeBefore map word → ScanStands map (record { at = word + (if map word == 0 then 1 else 0); seen = map word })
scan_loaded map word before = record { before = past_word map (map word == 0) word refl before; seen = at_word map (map word == 0) word refl }

-- A claim goes on to its next word, or begins anew.
before_next : (map : ℕ → ℕ) (word : ℕ) (claim : MapClaim) → ScanStands map claim → GoesOnToWord word claim → NoneFreeBefore map word
before_next map word claim S (inl first) i lt = absurd (omega (arith, first, lt))
before_next map word claim S (inr goes) i lt = S.before i (subst (λ n. i < n) goes.0 lt)

-- A claim that is won has no scan yet.
scan_won : (map : ℕ → ℕ) (won : Bool) (claim : MapClaim) (v : ℕ) → won ≡ true
    → ScanStands map (record { at = if won then 0 else claim.at; seen = if won then 0 else v })
scan_won map true claim v is = record { before = λ i lt. absurd (omega (arith, lt)); seen = λ some. absurd (omega (arith, some)) }
scan_won map false claim v is = absurd (cc is)

-- A try that doesn't wait is won.
goes_won : (b : Bool) → not b ≡ false → b ≡ true
goes_won true is = refl
goes_won false is = absurd (cc is)

-- ---- the lock

tries_owing : (writer : Bool) (v : ℕ) → writer ≡ false → is_owing (if writer then Owing v else Shared) ≡ false
tries_owing true v is = absurd (cc is)
tries_owing false v is = refl

excludes_owing : (free : Bool) (hold : Hold) → is_owing hold ≡ false → is_owing (if free then Exclusive else hold) ≡ false
excludes_owing true hold owes = refl
excludes_owing false hold owes = owes

-- ---- in a sound world

module _ (z : Sizes) (w : World Held) (a note : ℕ) (sound : IsSound z w) (others : OthersRest a w) (there : a < actors_of z) where
  abbrev h : Held
  h = hand_in mmu w a

  abbrev t : Topics
  t = h.topics

  abbrev words : Area → ℕ → ℕ
  words = word_in z w

  abbrev found : PartStep → ℕ
  found step = answer_in (part_task step a t note) words

  abbrev after : PartStep → Area → ℕ → ℕ
  after step = words_after (part_task step a t note) words

  -- It tries a page or a frame only with a scan of its map.
  abbrev pub TriesWith : (FreeMap → Type 0) → PartStep → Type 0
  TriesWith has_scan step = (map : FreeMap) → step ≡ try_part map → has_scan map

  own : own_index h ≡ a
  own = ap (λ (y : Sizes). index_of y h.state.actor) (sound.holds.lines a there).sizes ∙ (sound.holds.lines a there).index

  module _ (has_scan : FreeMap → Type 0) (S : SeenStands has_scan words t) where
    -- The lock is free, nobody else is in a section or has a flush to make, no invalidation of others is open, and the page or frame that is tried is there
    -- still.
    pub part_goes_alone : (step : PartStep) → PartNeeds step h → TriesWith has_scan step → part_waits step t (found step) ≡ false
    part_goes_alone part.Unshare N tries = S.owes_none
    part_goes_alone part.Claim N tries =
        ap not (ap (is_won t.claim) ((S.scan Pages (tries Pages refl)).seen N.1) ∙ saw_bit t.claim N.1 (sound.topics.counters a there).seen)
    part_goes_alone part.Frame N tries =
        ap not (ap (is_won t.frames.claim) ((S.scan Frames (tries Frames refl)).seen N.1)
        ∙ saw_bit t.frames.claim N.1 (sound.topics.counters a there).frames.seen)
    part_goes_alone part.Exclude N tries = ap not (is_it (found part.Exclude) 0 (lock_free z w a sound there others N))
    part_goes_alone part.Release N tries = S.saw_closed (ap (λ (x : Hold). has_lock x) N.alone)
    part_goes_alone (part.Watch index) N tries =
        outside_word z w a index sound others (subst (λ (y : Sizes). index < actors_of y) (sound.holds.lines a there).sizes N.0) (λ e. N.1 (e ∙ sym own))
    part_goes_alone (part.Await index) N tries =
        let few = N.0 in
        let asked = (sound.topics.counters a there).asked in
        flushed_alone z w a sound others index (omega (arith, few, asked)) N.2
    part_goes_alone _ N tries = refl

    -- The actor comes to owe no reader, since the lock is free.
    owes_on : (step : PartStep) → PartNeeds step h → is_owing (part_topics step t (found step)).hold ≡ false
    owes_on part.Share N = tries_owing (has_writer (found part.Share)) (found part.Share) (no_writer (found part.Share) (lock_free z w a sound there others N))
    owes_on part.Unshare N = refl
    owes_on part.Exclude N = excludes_owing (found part.Exclude == 0) t.hold S.owes_none
    owes_on part.Release N = refl
    owes_on _ N = S.owes_none

    -- It sees no invalidation of others open, since none is.
    closed_after : (step : PartStep) → has_lock (part_topics step t (found step)).hold ≡ true → saw_open (part_topics step t (found step)).invalidations ≡ false
    closed_after part.Count has = none_more (part_topics part.Count t (found part.Count)).invalidations (own_alone z w a sound others)
    closed_after part.Share has = refl
    closed_after part.Unshare has = refl
    closed_after part.Exclude has = refl
    closed_after part.Release has = refl
    closed_after step has = closed_on step t (found step) refl (S.saw_closed has)

    -- The snapshot that it has taken in a section is the sequence number, which it raises outside of sections alone.
    taken_now : (loose : Bool) (s : ℕ) → (t.stay ≡ Section) → (if loose then Some (words area.Seq 0) else t.invalidations.snapshot) ≡ Some s
        → s ≡ words area.Seq 0
    taken_now true s inside is = cc is
    taken_now false s inside is = S.snapshot inside s is

    snapshot_on : (step : PartStep) → PartNeeds step h → (part_topics step t (found step)).stay ≡ Section → (s : ℕ)
        → (part_topics step t (found step)).invalidations.snapshot ≡ Some s → s ≡ after step area.Seq 0
    snapshot_on part.Enter N inside s is = absurd (cc is)
    snapshot_on part.Leave N inside s is = absurd (cc is)
    snapshot_on part.Begin N inside s is = absurd (cc is)
    snapshot_on part.End N inside s is = absurd (cc is)
    snapshot_on part.Seq N inside s is = taken_now (is_loose t.hold) s inside is
    snapshot_on (part.SetSeq seq) N inside s is = let outside = N.0.outside in absurd (cc (outside, inside))
    snapshot_on _ N inside s is = S.snapshot inside s is

    -- A scan stands, as long as the actor gives back nothing of what it is for.
    scan_on : (map : FreeMap) (step : PartStep) → PartNeeds step h → ScanStands (words (map_area map)) (claim_over map t) → gives map step ≡ false
        → part_waits step t (found step) ≡ false → ScanStands (after step (map_area map)) (claim_over map (part_topics step t (found step)))
    scan_on Pages (part.Map word) N scan none goes =
        scan_loaded (words area.PoolMap) word (before_next (words area.PoolMap) word t.claim scan N.2)
    scan_on Pages part.Claim N scan none goes =
        scan_won (after part.Claim area.PoolMap) (is_won t.claim (found part.Claim)) t.claim (found part.Claim)
        (goes_won (is_won t.claim (found part.Claim)) goes)
    scan_on Pages part.Give N scan none goes = absurd (cc none)
    scan_on Pages part.GiveOld N scan none goes = absurd (cc none)
    scan_on Pages _ N scan none goes = scan
    scan_on Frames (part.FrameMap word) N scan none goes =
        scan_loaded (words area.FrameMap) word (before_next (words area.FrameMap) word t.frames.claim scan N.2)
    scan_on Frames part.Frame N scan none goes =
        scan_won (after part.Frame area.FrameMap) (is_won t.frames.claim (found part.Frame)) t.frames.claim (found part.Frame)
        (goes_won (is_won t.frames.claim (found part.Frame)) goes)
    scan_on Frames part.GiveFrame N scan none goes = absurd (cc none)
    scan_on Frames _ N scan none goes = scan

    pub scan_kept : (map : FreeMap) (step : PartStep) → PartNeeds step h → TriesWith has_scan step → KeepsScan map (has_scan map) step
        → ScanStands (after step (map_area map)) (claim_over map (part_topics step t (found step)))
    scan_kept map _ N tries (scans.Keeps step has none) = scan_on map step N (S.scan map has) none (part_goes_alone step N tries)
    scan_kept Pages _ N tries scans.Begins = scan_loaded (words area.PoolMap) 0 (λ i lt. absurd (omega (arith, lt)))
    scan_kept Frames _ N tries scans.Begins = scan_loaded (words area.FrameMap) 0 (λ i lt. absurd (omega (arith, lt)))

    -- So what it has seen stands after the step.
    pub seen_on : (next : FreeMap → Type 0) (step : PartStep) → PartNeeds step h → TriesWith has_scan step
        → ((map : FreeMap) → next map → KeepsScan map (has_scan map) step) → SeenStands next (after step) (part_topics step t (found step))
    seen_on next step N tries keeps = record {
      owes_none = owes_on step N;
      saw_closed = closed_after step;
      scan = λ map has. scan_kept map step N tries (keeps map has);
      snapshot = snapshot_on step N;
    }
