-- Two weaves of a trace, or two replays of its lines, have the same steps: so they print the same.
use Rattle.std.proofs.Common.{◌≡◌, ◌⊎◌, inl, inr, ◌<◌, ◌≤◌, ℕ, List, ◌++◌, get_or, length, take, sym, subst, ap, ◌∙◌, arith}
use Rattle.std.proofs.lemmas.Bool.{cases_lt}
use Rattle.std.proofs.lemmas.List.{get_or-take, length-take}
use Rattle.std.proofs.lemmas.Option.{get_or_from_slice_get, slice_get_within}
use Rattle.std.specs.List.{Contains}
use Rattle.std.specs.Prelude.{Some, slice_get}
use Rattle.core_views.specs.declared.event.Event.{Event}
use Rattle.core_views.specs.declared.kind.Kind.{Kind}
use Rattle.core_views.specs.declared.sizes.Sizes.{Sizes}
use Rattle.core_views.specs.declared.trace.Item.{Item}
use Rattle.core_views.specs.declared.trace.Line.{Line}
use Rattle.core_views.specs.declared.trace.Trace.{Trace}
use Rattle.core_views.specs.Held.{Held}
use Rattle.core_views.specs.Sizes.{sizes_of}
use Rattle.core_views.specs.Text.{text}
use Rattle.mmu_core.specs.invariant.Laws.{IsSound}
use Rattle.mmu_core.specs.machine.Enabled.{mmu}
use Rattle.mmu_core.specs.machine.Machine.{Legal, Step, World, run}
use Rattle.mmu_core.specs.machine.Worlds.{IsStart, history}
use Rattle.mmu_core.proofs.machine.Extend.{run-append}
use Rattle.mmu_core.proofs.machine.Worlds.{good_run}
use Rattle.mmu_core.proofs.start.Starts.{start_good}
use Rattle.mmu_laws.proofs.causes.StarvedScan.{legal_parts}
use Rattle.turn_loops.specs.FirstOpen.{IsFirstInFile, numbers_answered}
use Rattle.turn_loops.specs.Marks.{Mark}
use Rattle.turn_loops.specs.Replays.{EachRunsAlone}
use Rattle.turn_loops.specs.Rounds.{AllAnswered, RunsRounds}
use Rattle.turn_loops.specs.Turning.{RunsItems}
use Rattle.turn_loops.specs.Weaves.{Weaves, WeavesAll, WeavesPart, lines_above, unfinished_text}
use Rattle.weave_laws.specs.Determined.{FollowsAll, ReplaysAreDetermined, StepsAreDetermined, TextsAreDetermined}
use Rattle.weave_laws.proofs.SameLines.{same_lines}
use Rattle.weave_laws.proofs.SameStarts.{starts_are_one}
use Rattle.weave_laws.proofs.SameSteps.{AreInRoundsFrom, absurd_left, same_items, same_rounds}

-- ---- the items and the rounds

-- Turns of the schedule's items from this world on, and then in rounds.
record Parts (z : Sizes) (items : List Item) (limit : ℕ) (w : World Held) (scheduled rounds : List (Step Kind)) : Type 0 where
  legal : Legal mmu w scheduled
  marks : List Mark
  each : RunsItems z items w scheduled marks
  later : AreInRoundsFrom z 0 limit (run mmu w scheduled) rounds

same_parts : (z : Sizes) (items : List Item) (limit : ℕ) (w : World Held) (ss rs ts us : List (Step Kind)) → IsSound z w → Parts z items limit w ss rs
    → Parts z items limit w ts us → ss ++ rs ≡ ts ++ us
same_parts z items limit w ss rs ts us G A B = λ i. scheduled i ++ rounds i
  where
    scheduled : ss ≡ ts
    scheduled = same_items z items w ss ts A.marks B.marks A.legal B.legal A.each B.each

    rounds : rs ≡ us
    rounds =
        same_rounds z 0 limit (run mmu w ss) rs us (good_run z w ss G A.legal) A.later
        (subst (λ (x : World Held). AreInRoundsFrom z 0 limit x us) (ap (run mmu w) (sym scheduled)) B.later)

-- ---- a whole weave

module _ (trace : Trace) (limit : ℕ) (start : World Held) (is_start : IsStart (sizes_of trace.header) trace.lines start) where
  abbrev z : Sizes
  z = sizes_of trace.header

  module _ (steps : List (Step Kind)) (legal : Legal mmu start steps) (A : FollowsAll trace limit start steps) where
    abbrev above : List (Step Kind)
    above = A.so_far.alone.steps

    abbrev behind : World Held
    behind = run mmu start above

    each_above : EachRunsAlone z start (take (lines_above trace.go) trace.lines) above
    each_above = subst (λ n. EachRunsAlone z start (take n trace.lines) above) A.both.all_above A.so_far.alone.each

    parts : Parts z trace.items limit behind A.so_far.scheduled A.so_far.rounds
    parts = record {
      legal = both.0;
      marks = A.so_far.item_marks;
      each = subst (λ (x : World Held). RunsItems z trace.items x ss A.so_far.item_marks) (sym A.so_far.alone.ends) A.both.all_items.0;
      later = record {
        legal = both.1;
        next = A.so_far.in_rounds.next;
        rounds =
            subst (λ (x : World Held). RunsRounds z 0 A.so_far.in_rounds.next (run mmu x ss) A.so_far.rounds) (sym A.so_far.alone.ends)
            A.so_far.in_rounds.rounds;
        few = A.so_far.in_rounds.few;
        over = by A.over;
      };
    }
      where
        ss : List (Step Kind)
        ss = A.so_far.scheduled

        both : Legal mmu behind ss × Legal mmu (run mmu behind ss) A.so_far.rounds
        both = legal_parts behind ss A.so_far.rounds (legal_parts start above (ss ++ A.so_far.rounds) (subst (Legal mmu start) A.so_far.are legal)).1

        ends : run mmu start steps ≡ run mmu (run mmu behind ss) A.so_far.rounds
        ends =
            ap (run mmu start) A.so_far.are ∙ run-append mmu start above (ss ++ A.so_far.rounds) ∙ run-append mmu behind ss A.so_far.rounds

        by : (length A.so_far.rounds ≡ limit) ⊎ AllAnswered z (run mmu start steps)
            → (length A.so_far.rounds ≡ limit) ⊎ AllAnswered z (run mmu (run mmu behind ss) A.so_far.rounds)
        by (inl e) = inl e
        by (inr all) = inr (subst (AllAnswered z) ends all)

  same_steps : (ss ts : List (Step Kind)) → Legal mmu start ss → Legal mmu start ts → FollowsAll trace limit start ss → FollowsAll trace limit start ts
      → ss ≡ ts
  same_steps ss ts legal may A B = A.so_far.are ∙ (λ i. one i ++ rest i) ∙ sym B.so_far.are
    where
      one : above ss legal A ≡ above ts may B
      one = same_lines z (take (lines_above trace.go) trace.lines) start (above ss legal A) (above ts may B) (each_above ss legal A) (each_above ts may B)

      sound : IsSound z (run mmu start (above ss legal A))
      sound =
          good_run z start (above ss legal A) (start_good z trace.lines start is_start) A.so_far.alone.legal

      rest : A.so_far.scheduled ++ A.so_far.rounds ≡ B.so_far.scheduled ++ B.so_far.rounds
      rest =
          same_parts z trace.items limit (run mmu start (above ss legal A)) A.so_far.scheduled A.so_far.rounds B.so_far.scheduled B.so_far.rounds sound
          (parts ss legal A)
          (subst (λ (x : World Held). Parts z trace.items limit x B.so_far.scheduled B.so_far.rounds) (ap (run mmu start) (sym one)) (parts ts may B))

pub steps_are_determined : StepsAreDetermined
steps_are_determined trace limit start other steps more is_start others legal may A B =
    let e : start ≡ other = starts_are_one (sizes_of trace.header) trace.lines start other is_start others in (
      e,
      same_steps trace limit start is_start steps more legal (subst (λ (x : World Held). Legal mmu x more) (sym e) may) A
          (subst (λ (x : World Held). FollowsAll trace limit x more) (sym e) B),
    )

-- ---- whole texts

follows_of_all : (trace : Trace) (limit : ℕ) (bytes : List ℕ) (closing : World Held) (W : WeavesAll trace limit bytes closing)
    → FollowsAll trace limit W.weaves.so_far.start W.weaves.so_far.steps
follows_of_all trace limit bytes closing W = record {
  so_far = W.weaves.so_far.follows;
  both = W.weaves.follows;
  over = inr (subst (AllAnswered (sizes_of trace.header)) (sym W.weaves.so_far.ends) W.all);
}

follows_of_part : (trace : Trace) (limit : ℕ) (bytes : List ℕ) (closing : World Held) (line : Line) (W : WeavesPart trace limit bytes closing line)
    → FollowsAll trace limit W.weaves.so_far.start W.weaves.so_far.steps
follows_of_part trace limit bytes closing line W =
    record { so_far = W.weaves.so_far.follows; both = W.weaves.follows; over = inl W.used_up }

-- What two weaves have in common.
record AreSame (trace : Trace) (limit : ℕ) (bytes more : List ℕ) (closing other : World Held) (V : Weaves trace limit bytes closing)
    (W : Weaves trace limit more other) : Type 0 where
  worlds : closing ≡ other
  texts : bytes ≡ more
  tell : history V.so_far.start V.so_far.steps ≡ history W.so_far.start W.so_far.steps

are_same : (trace : Trace) (limit : ℕ) (bytes more : List ℕ) (closing other : World Held) (V : Weaves trace limit bytes closing)
    (W : Weaves trace limit more other) → FollowsAll trace limit V.so_far.start V.so_far.steps → FollowsAll trace limit W.so_far.start W.so_far.steps
    → AreSame trace limit bytes more closing other V W
are_same trace limit bytes more closing other V W A B =
    let v = V.so_far in
    let w = W.so_far in
    let D = steps_are_determined trace limit v.start w.start v.steps w.steps v.is_start w.is_start v.legal w.legal A B in
    let told : history v.start v.steps ≡ history w.start w.steps = λ i. history (D.0 i) (D.1 i) in
    record {
      worlds = sym v.ends ∙ (λ i. run mmu (D.0 i) (D.1 i)) ∙ w.ends;
      texts = v.prints ∙ ap text told ∙ sym w.prints;
      tell = told;
    }

-- The first line of the file that a history doesn't answer is one.
module _ (history : List Event) (lines : List Line) where
  not_before : (line other : Line) (F : IsFirstInFile history lines line) (G : IsFirstInFile history lines other) → F.before < G.before → ⊥
  not_before line other F G lt =
      let there = slice_get_within lines F.before line F.is in
      let taken = length-take G.before lines in
      let is : get_or (take G.before lines) F.before line ≡ line =
      get_or-take G.before lines F.before line lt ∙ get_or_from_slice_get lines F.before line line F.is in
      F.open_ (subst (λ (l : Line). Contains (numbers_answered history) l.number) is (G.answered F.before line (omega (arith, taken, there, lt))))

  one_first : (line other : Line) → IsFirstInFile history lines line → IsFirstInFile history lines other → line ≡ other
  one_first line other F G =
      let some : Some line ≡ Some other = sym F.is ∙ ap (λ n. slice_get lines n) same ∙ G.is in cc some
    where
      same : F.before ≡ G.before
      same = by (cases_lt F.before G.before) (cases_lt G.before F.before)
        where
          by : (F.before < G.before) ⊎ (G.before ≤ F.before) → (G.before < F.before) ⊎ (F.before ≤ G.before) → F.before ≡ G.before
          by (inl lt) more = absurd (not_before line other F G lt)
          by (inr le) (inl lt) = absurd (not_before other line G F lt)
          by (inr le) (inr ge) = omega (arith, le, ge)

-- A weave that answers each line leaves none open.
none_open : (trace : Trace) (limit : ℕ) (bytes more : List ℕ) (closing other : World Held) (line : Line) → WeavesAll trace limit bytes closing
    → WeavesPart trace limit more other line → ⊥
none_open trace limit bytes more closing other line A P =
    let S = are_same trace limit bytes more closing other A.weaves P.weaves (follows_of_all trace limit bytes closing A)
    (follows_of_part trace limit more other line P) in
    absurd_left other P.open_.actor P.open_.left (subst (AllAnswered (sizes_of trace.header)) S.worlds A.all P.open_.actor P.open_.there)

pub texts_are_determined : TextsAreDetermined
texts_are_determined trace limit closing other text_ more (inl A) (inl B) =
    let S = are_same trace limit text_ more closing other A.weaves B.weaves (follows_of_all trace limit text_ closing A)
    (follows_of_all trace limit more other B) in
    (S.worlds, S.texts)
texts_are_determined trace limit closing other text_ more (inl A) (inr (bytes, line, P, is)) =
    absurd (none_open trace limit text_ bytes closing other line A P)
texts_are_determined trace limit closing other text_ more (inr (bytes, line, P, is)) (inl A) =
    absurd (none_open trace limit more bytes other closing line A P)
texts_are_determined trace limit closing other text_ more (inr (bytes, line, P, is)) (inr (given, next, Q, are)) =
    let S = are_same trace limit bytes given closing other P.weaves Q.weaves (follows_of_part trace limit bytes closing line P)
    (follows_of_part trace limit given other next Q) in
    let one : line ≡ next =
    one_first (history Q.weaves.so_far.start Q.weaves.so_far.steps) trace.lines line next
    (subst (λ (h : List Event). IsFirstInFile h trace.lines line) S.tell P.first_in_file) Q.first_in_file in
    (S.worlds, is ∙ (λ i. S.texts i ++ unfinished_text (one i)) ∙ sym are)

-- ---- replays

pub replays_are_determined : ReplaysAreDetermined
replays_are_determined trace lines bytes more closing other R S =
    let z : Sizes = sizes_of trace.header in
    let e : R.start ≡ S.start = starts_are_one z trace.lines R.start S.start R.is_start S.is_start in
    let same : R.runs.steps ≡ S.runs.steps =
    same_lines z lines R.start R.runs.steps S.runs.steps R.runs.each
    (subst (λ (x : World Held). EachRunsAlone z x lines S.runs.steps) (sym e) S.runs.each) in (
      e,
      same,
      R.prints ∙ (λ i. text (history (e i) (same i))) ∙ sym S.prints,
      sym R.runs.ends ∙ (λ i. run mmu (e i) (same i)) ∙ S.runs.ends,
    )
