-- What leaves after a step of a part, and the page that its actor owns after it has stored a leaf or a link.
use Rattle.std.proofs.Common.{◌≡◌, ◌^◌, ◌<◌, ◌≤◌, ℕ, refl, ap, arith}
use Rattle.std.specs.Prelude.{Bool, true, false, ◌==◌, if◌then◌else◌, Option, Some, None}
use Rattle.core_views.specs.declared.sizes.Sizes.{Sizes}
use Rattle.core_views.specs.declared.topics.OwnedPage.{OwnedPage}
use Rattle.core_views.specs.declared.topics.Topics.{Topics}
use Rattle.spte_words.specs.declared.spte_kind.SpteKind.TheVariants as entry_kind
use Rattle.spte_words.specs.Entries.{kind_of}
use Rattle.spte_words.proofs.ReadsEntries.{kind_of_table}
use Rattle.part_steps.specs.declared.part_step.PartStep.{PartStep}
use Rattle.part_steps.specs.declared.part_step.PartStep.TheVariants as part
use Rattle.part_steps.specs.PartTasks.{link_written, page_owned, part_task}
use Rattle.part_steps.specs.Tasks.{kind_of_task}
use Rattle.part_steps.specs.WalkTopics.{linked_page, still_owned, unless_linked}
use Rattle.part_steps.specs.PageTopics.{still_retired}
use Rattle.core_views.specs.declared.kind.Kind.{Kind}
use Rattle.part_steps.specs.PageRuns.{is_several}
use Rattle.part_steps.specs.TopicSteps.{page_changed, run_changed, topics_after}

-- what leaves after a step that answered v
abbrev pub retired_behind : PartStep → Topics → ℕ → Option ℕ
retired_behind part.Publish t v = Some v
retired_behind part.Give t v = still_retired t.owned t.retired
retired_behind part.GiveOld t v = still_retired t.owned t.retired
retired_behind _ t v = t.retired

either_change : (several : Bool) (z : Sizes) (k : Kind) (t : Topics) (v : ℕ)
    → (if several then run_changed (v == k.old) t else page_changed z k t v).retired ≡ t.retired
either_change true z k t v = refl
either_change false z k t v = refl

pub retired_is : (step : PartStep) (z : Sizes) (own : ℕ) (t : Topics) (note v : ℕ)
    → (topics_after z (kind_of_task z (part_task step own t note)) t v).retired ≡ retired_behind step t v
unfolding topics_after
retired_is part.Publish z own t note v = refl
retired_is (part.Change new_) z own t note v =
    either_change (is_several t.invalidations.own.pages) z (kind_of_task z (part_task (part.Change new_) own t note)) t v
retired_is part.ChangeNext z own t note v = either_change (is_several t.invalidations.own.pages) z (kind_of_task z (part_task part.ChangeNext own t note)) t v
retired_is _ z own t note v = refl

-- A leaf is no link: who stores one owns what it owned.
pub leaf_stored : (t : Topics) (new_ : ℕ) (won : Bool) → kind_of t.walk.level new_ ≡ entry_kind.Leaf → still_owned won t.walk new_ t.owned ≡ t.owned
leaf_stored t new_ false leaf = refl
leaf_stored t new_ true leaf = ap (λ k. unless_linked (linked_page k) t.owned) leaf

-- Who links its page owns none, where the link was stored.
pub link_stored : (t : Topics) (o : OwnedPage) (won : Bool) → 2 ≤ t.walk.level → t.owned ≡ Some o → o.page < 2 ^ 32
    → still_owned won t.walk (link_written t) t.owned ≡ (if won then None else Some o)
link_stored t o false upper is small = is
link_stored t o true upper is small = ap (λ to. unless_linked to t.owned) links
  where
    page : page_owned t.owned ≡ o.page
    page = ap page_owned is

    links : linked_page (kind_of t.walk.level (link_written t)) ≡ Some (page_owned t.owned)
    links = ap linked_page (kind_of_table t.walk.level (page_owned t.owned) upper (omega (arith, page, small)))
