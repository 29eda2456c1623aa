-- What a hand holds that makes a step for a dirty log: so where writes are forbidden, which page is marked, and which words of logs are set.
use Rattle.std.proofs.Common.{◌≡◌, ◌≢◌, ◌⊎◌, inl, inr, ℕ, refl, sym, subst, ap, ◌∙◌, arith}
use Rattle.std.proofs.lemmas.Bool.Decides.{nat_tests}
use Rattle.std.specs.Prelude.{true, false, Some, Option, None, is_some, ◌==◌}
use Rattle.core_views.specs.Held.{Held}
use Rattle.core_views.specs.declared.kind.Kind.{Kind}
use Rattle.core_views.specs.declared.kind.StepKind.TheVariants as kind
use Rattle.core_views.specs.declared.sizes.Sizes.{Sizes}
use Rattle.core_views.specs.declared.topics.Topics.{Topics}
use Rattle.core_views.specs.declared.trace.Line.{Line}
use Rattle.core_views.specs.declared.trace.Op.{Op}
use Rattle.core_views.specs.declared.trace.Op.TheVariants.{Add, Read, Write}
use Rattle.core_views.specs.Kinds.{kind_named}
use Rattle.spte_words.specs.Areas.{place as place_of, pool_index}
use Rattle.spte_words.specs.Entries.{can_write}
use Rattle.spte_words.specs.declared.area.Area.TheVariants as area
use Rattle.part_steps.specs.HeldNumbers.{number_or_none}
use Rattle.part_steps.specs.LogHoldings.{MayArm}
use Rattle.part_steps.specs.PartHoldings.{FoundSlot, SawEntry}
use Rattle.part_steps.specs.PartTasks.{entry_index, own_index, part_task, table_page, entry_task, leaf_fixed, leaf_written}
use Rattle.part_steps.specs.PartTopics.{exchanged, part_topics}
use Rattle.part_steps.specs.Tasks.{map_of, kind_of_task}
use Rattle.part_steps.specs.TopicSteps.{topics_after}
use Rattle.part_steps.specs.declared.part_step.PartStep.{PartStep}
use Rattle.part_steps.specs.declared.part_step.PartStep.TheVariants as part
use Rattle.part_steps.specs.declared.task.Task.{Task}
use Rattle.mmu_core.specs.invariant.Laws.{IsSound}
use Rattle.mmu_core.specs.forms.access.AccessSteps.{touch_of}
use Rattle.mmu_core.specs.machine.Enabled.{IsPartStep, mmu}
use Rattle.mmu_core.specs.machine.Machine.{May, Step, World, hand_in, answered, effect}
use Rattle.mmu_core.specs.machine.Steps.{line_at, next, place_at, task_of}
use Rattle.mmu_core.specs.machine.View.{view}
use Rattle.mmu_core.proofs.held.Grace.{hand_here}
use Rattle.mmu_core.proofs.held.OwedKept.{is_mark, mark_owed, owed_stays}
use Rattle.mmu_core.proofs.lines.StepIn.{StepIn, Touches, step_in}
use Rattle.mmu_core.proofs.lines.StepIn as step_in_
use Rattle.mmu_core.proofs.machine.NextTopics.{next_topics, topics_behind}
use Rattle.mmu_core.proofs.machine.Which.{is_next, is_part}
use Rattle.mmu_core.proofs.machine.Worlds.{Takes, TakesPart, are_small, takes}
use Rattle.mmu_laws.specs.steps.LogLaws.{ProtectsLeaf, MarksAreOfOwedPages, MarksOwedPage, SetsUnloggedWord}
use Rattle.mmu_laws.specs.steps.LogLaws.{MarksStayOwed, SectionsEndWithNoneOwed, WordsAreSetBeforeTheirLog}
use Rattle.mmu_laws.specs.steps.LogLaws.{WritesAreForbiddenInLeaves, AllowedWritesAreOwed, AllowsLoggedWrites, OwesMarkAfter}
use Rattle.mmu_laws.proofs.causes.MadeSteps.{Makes, word_on}
use Rattle.mmu_laws.proofs.steps.KindLaws.{made, no_touch, seen_leaf}

module _ (z : Sizes) (w : World Held) (s : Step Kind) (G : IsSound z w) (may : May mmu w s) where
  abbrev h : Held
  h = hand_in mmu w s.actor

  abbrev t : Topics
  t = h.topics

  abbrev page : ℕ
  page = table_page t.walk

  forbids_writes : (gfn : ℕ) → Makes h s (part.Protect gfn) → ProtectsLeaf z w s
  forbids_writes gfn M =
      let L = seen_leaf z w s G may gfn M.needs.alone M.needs.outside M.needs.saw M.needs.leaf in
      record {
        alone = M.needs.alone;
        gfn = gfn;
        level = t.walk.level;
        page = page;
        on = word_on z w s G may (part.Protect gfn) M;
        leads = L.leads;
        leaf = L.leaf;
        allowed = L.allows M.needs.writes;
        keeps = ap (λ (k : Kind). k.new) M.is;
      }

  -- ---- who owes a mark

  -- The exchange of an entry by which a mark is owed, as the step of a part that it is.
  module _ (A : AllowsLoggedWrites w s) where
    abbrev v : ℕ
    v = answered mmu w s.kind

    same_is : (n m : ℕ) → n ≡ m → (n == m) ≡ true
    same_is n m e = grind (arith, nat_tests)

    after_is : (step : PartStep) (M : Makes h s step) → (hand_in mmu (effect mmu w s) s.actor).topics ≡ part_topics step t v
    after_is step M =
        ap (λ (x : Held). x.topics) (hand_here w s may.there) ∙ ap (λ k. (next h k v).topics) M.is ∙ topics_behind h step M.note v M.needs

    by_exchange : (gfn new_ : ℕ) (step : PartStep) (M : Makes h s step) → SawEntry gfn t.walk → FoundSlot gfn t
        → part_task step (own_index h) t M.note ≡ entry_task gfn new_ t.walk M.note
        → part_topics step t v ≡ exchanged (v == t.walk.entry) (entry_index gfn t.walk.level) new_ t v → OwesMarkAfter z w s
    by_exchange gfn new_ step M saw found task topics =
        let K : s.kind ≡ kind_of_task h.state.sizes (entry_task gfn new_ t.walk M.note) = M.is ∙ ap (kind_of_task h.state.sizes) task in
        let won : (v == t.walk.entry) ≡ true = same_is v t.walk.entry (A.wins ∙ ap (λ (k : Kind). k.old) K) in
        record {
          gfn = gfn;
          page = page;
          on = word_on z w s G may step M ∙ ap (λ (x : Task). place_of (map_of z) x.area x.index) task
              ∙ ap (λ l. place_of (map_of z) area.Pool (pool_index page (entry_index gfn l))) A.lowest;
          found = found;
          owed = ap (λ (x : Topics). x.owed) (after_is step M ∙ topics)
              ∙ mark_owed (v == t.walk.entry) t.search.logged t.walk gfn new_ t.owed won A.logged A.lowest saw.over
              (sym (ap (λ (k : Kind). can_write k.new) K) ∙ A.allows);
        }

    owing : (step : PartStep) (M : Makes h s step) → (part_task step (own_index h) t M.note).kind ≡ kind.Swap → OwesMarkAfter z w s
    owing (part.Leaf gfn write) M is = by_exchange gfn (leaf_written gfn write t) (part.Leaf gfn write) M M.needs.0.saw M.needs.0.looked_up.found refl refl
    owing (part.Fix gfn) M is = by_exchange gfn (leaf_fixed t) (part.Fix gfn) M M.needs.saw M.needs.found refl refl
    owing (part.Link gfn) M is = let high = M.needs.0.upper in let low = A.lowest in absurd (omega (arith, high, low))
    owing (part.Fill value) M is = absurd (cc is)
    owing _ M is = absurd (cc is)

  -- ---- how long it is owed

  module _ (gfn : ℕ) (owed : t.owed ≡ Some gfn) (other : kind_named s.kind.code ≢ kind.Mark) where
    abbrev found : ℕ
    found = answered mmu w s.kind

    -- it is no mark
    no_mark : (step : PartStep) → Makes h s step → is_mark step ≡ false
    no_mark part.Mark M = absurd (other (ap (λ (k : Kind). kind_named k.code) M.is))
    no_mark _ M = refl

    by_part : (step : PartStep) → Makes h s step → (next h s.kind found).topics.owed ≡ Some gfn
    by_part step M =
        ap (λ k. (next h k found).topics.owed) M.is ∙ ap (λ (x : Topics). x.owed) (topics_behind h step M.note found M.needs)
        ∙ owed_stays step h found gfn M.needs (no_mark step M) owed

    by_touch : (op : Op) (index : ℕ) → s.kind ≡ kind_of_task h.state.sizes (touch_of op index) → (next h s.kind found).topics.owed ≡ Some gfn
    unfolding topics_after
    by_touch Read index is = ap (λ (x : Topics). x.owed) (next_topics h s.kind found) ∙ ap (λ k. (topics_after h.state.sizes k t found).owed) is ∙ owed
    by_touch (Write x) index is = ap (λ (x : Topics). x.owed) (next_topics h s.kind found) ∙ ap (λ k. (topics_after h.state.sizes k t found).owed) is ∙ owed
    by_touch (Add x) index is = ap (λ (x : Topics). x.owed) (next_topics h s.kind found) ∙ ap (λ k. (topics_after h.state.sizes k t found).owed) is ∙ owed

    by_task : (task : Task) → StepIn z (view z w) s.actor task → s.kind ≡ kind_of_task h.state.sizes task → (next h s.kind found).topics.owed ≡ Some gfn
    by_task _ (step_in_.Makes step note P) is = by_part step (record { note = note; is = is; needs = P.needs })
    by_task _ (Touches op index) is = by_touch op index is

    stays_owed : (hand_in mmu (effect mmu w s) s.actor).topics.owed ≡ Some gfn
    stays_owed = ap (λ (x : Held). x.topics.owed) (hand_here w s may.there) ∙ by (takes z w s G may)
      where
        by : Takes z w s h ⊎ TakesPart z w s h → (next h s.kind found).topics.owed ≡ Some gfn
        by (inl T) =
            let line : Line = line_at h.state.place h in
            by_task (task_of h)
            (step_in z (view z w) s.actor line line.command (place_at h.state.place h) (are_small z w G) T.is_step G.holds G.topics)
            (is_next h s.kind may.enabled T.has).is
        by (inr T) =
            let P : IsPartStep h s.kind = is_part h s.kind may.enabled T.none_left in
            by_part P.step (record { note = P.note; is = P.is; needs = P.needs })

  ends_paid : (step : PartStep) (M : Makes h s step) → (part_task step (own_index h) t M.note).kind ≡ kind.End → t.owed ≡ None
  ends_paid part.End M is = M.needs.1
  ends_paid (part.Fill value) M is = absurd (cc is)
  ends_paid _ M is = absurd (cc is)

  -- ---- what is marked, and which words of logs are set

  this_number : (o : Option ℕ) → is_some o ≡ true → o ≡ Some (number_or_none o)
  this_number None some = absurd (cc some)
  this_number (Some n) some = refl

  marks_page : Makes h s part.Mark → MarksOwedPage z w s
  marks_page M = record {
    section = M.needs.section;
    gfn = number_or_none t.owed;
    owed = this_number t.owed M.needs.owes;
    found = M.needs.found;
    on = word_on z w s G may part.Mark M;
    sets = ap (λ (k : Kind). k.new) M.is;
  }

  sets_word : (word bits : ℕ) → Makes h s (part.Arm word bits) → SetsUnloggedWord z w s
  sets_word word bits M = record {
    word = word;
    on = word_on z w s G may (part.Arm word bits) M;
    may = subst (λ b. MayArm word b h) (sym (ap (λ (k : Kind). k.new) M.is)) M.needs;
  }

  forbidding : (step : PartStep) (M : Makes h s step) → (part_task step (own_index h) t M.note).kind ≡ kind.Protect → ProtectsLeaf z w s
  forbidding (part.Protect gfn) M is = forbids_writes gfn M
  forbidding (part.Fill value) M is = absurd (cc is)
  forbidding _ M is = absurd (cc is)

  marking : (step : PartStep) (M : Makes h s step) → (part_task step (own_index h) t M.note).kind ≡ kind.Mark → MarksOwedPage z w s
  marking part.Mark M is = marks_page M
  marking (part.Fill value) M is = absurd (cc is)
  marking _ M is = absurd (cc is)

  arming : (step : PartStep) (M : Makes h s step) → (part_task step (own_index h) t M.note).kind ≡ kind.Arm → SetsUnloggedWord z w s
  arming (part.Arm word bits) M is = sets_word word bits M
  arming (part.Fill value) M is = absurd (cc is)
  arming _ M is = absurd (cc is)

pub writes_are_forbidden_in_leaves : WritesAreForbiddenInLeaves
writes_are_forbidden_in_leaves z w s G may named =
    let M = made z w s G may kind.Protect (no_touch kind.Protect refl) named in forbidding z w s G may M.step M.makes M.kind_is

pub allowed_writes_are_owed : AllowedWritesAreOwed
allowed_writes_are_owed z w s G may A =
    let M = made z w s G may kind.Swap (no_touch kind.Swap refl) A.exchanges in owing z w s G may A M.step M.makes M.kind_is

pub marks_stay_owed : MarksStayOwed
marks_stay_owed z w s gfn G may owed other = stays_owed z w s G may gfn owed other

pub sections_end_with_none_owed : SectionsEndWithNoneOwed
sections_end_with_none_owed z w s G may named =
    let M = made z w s G may kind.End (no_touch kind.End refl) named in ends_paid z w s G may M.step M.makes M.kind_is

pub marks_are_of_owed_pages : MarksAreOfOwedPages
marks_are_of_owed_pages z w s G may named =
    let M = made z w s G may kind.Mark (no_touch kind.Mark refl) named in marking z w s G may M.step M.makes M.kind_is

pub words_are_set_before_their_log : WordsAreSetBeforeTheirLog
words_are_set_before_their_log z w s G may named =
    let M = made z w s G may kind.Arm (no_touch kind.Arm refl) named in arming z w s G may M.step M.makes M.kind_is
