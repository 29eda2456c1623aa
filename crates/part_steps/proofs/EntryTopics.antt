-- What the running code makes of the walk, where an entry is loaded or exchanged; and what it knows of the look-up.
use Rattle.std.proofs.Common.{◌≡◌, ◌^◌, ◌<◌, ◌≤◌, ℕ, sym, subst, ap, ◌∙◌, arith}
use Rattle.std.specs.Prelude.{Bool, true, false, ◌==◌, if◌then◌else◌, Option, Some}
use Rattle.std.proofs.lemmas.Bool.Decides.{nat_tests}
use Rattle.core_views.specs.declared.kind.Kind.{Kind}
use Rattle.core_views.specs.declared.kind.StepKind.{StepKind}
use Rattle.core_views.specs.declared.kind.StepKind.TheVariants as kind
use Rattle.core_views.specs.declared.sizes.Sizes.{Sizes}
use Rattle.core_views.specs.declared.topics.HostLook.{HostLook}
use Rattle.core_views.specs.declared.topics.OwnedPage.{OwnedPage}
use Rattle.core_views.specs.declared.topics.TableWalk.{TableWalk}
use Rattle.core_views.specs.declared.topics.Topics.{Topics}
use Rattle.core_views.specs.Held.{Held}
use Rattle.core_views.specs.Kinds.{kind_named}
use Rattle.spte_words.specs.HostWords.{host_frame}
use Rattle.part_steps.specs.PartBounds.{PartRests}
use Rattle.part_steps.specs.SweepHoldings.{MaySweep}
use Rattle.part_steps.specs.PartTasks.{table_page, word_looked}
use Rattle.part_steps.specs.PartHoldings.{LookedUp}
use Rattle.part_steps.specs.SweepTopics.{gone_up, walk_on}
use Rattle.part_steps.specs.WalkTopics.{is_in_table, owed_after, still_owned, swapped, walked}
use Rattle.part_steps.specs.TopicSteps.{index_in_page, topics_after, topics_by}

table_if : (walk : TableWalk) → 1 ≤ walk.level → is_in_table walk ≡ true
table_if walk from = grind (arith, nat_tests)

no_table_if : (walk : TableWalk) → walk.level < 1 → is_in_table walk ≡ false
no_table_if walk below = grind (arith, nat_tests)

-- An entry is loaded: the walk goes on where it has come to a table.
pub entry_loaded : (z : Sizes) (k : Kind) (t : Topics) (found : ℕ) (walk : TableWalk) (i : ℕ) → kind_named k.code ≡ kind.Walk → 1 ≤ t.walk.level
    → i ≡ index_in_page z k.word → walk ≡ walked (walk_on t) i found → record t { walk = walk } ≡ topics_after z k t found
unfolding topics_after
entry_loaded z k t found walk i named from at is =
    ap (λ (x : TableWalk). record t { walk = x }) (is ∙ ap (λ j. walked (walk_on t) j found) at)
    ∙ sym (ap (λ (b : Bool). record t { walk = if b then walked (walk_on t) (index_in_page z k.word) found else t.walk }) (table_if t.walk from))
    ∙ sym (ap (λ (n : StepKind). topics_by n z k t found) named)

pub entry_not_loaded : (z : Sizes) (k : Kind) (t : Topics) (found : ℕ) → kind_named k.code ≡ kind.Walk → t.walk.level < 1 → t ≡ topics_after z k t found
unfolding topics_after
entry_not_loaded z k t found named below =
    sym (ap (λ (b : Bool). record t { walk = if b then walked (walk_on t) (index_in_page z k.word) found else t.walk }) (no_table_if t.walk below))
    ∙ sym (ap (λ (n : StepKind). topics_by n z k t found) named)

-- An entry is exchanged.
pub entry_exchanged : (z : Sizes) (k : Kind) (t : Topics) (found : ℕ) (walk : TableWalk) (owned : Option OwnedPage) (owed : Option ℕ) (i : ℕ)
    → kind_named k.code ≡ kind.Swap → 1 ≤ t.walk.level → i ≡ index_in_page z k.word
    → walk ≡ swapped (found == k.old) t.walk i k.new found → owned ≡ still_owned (found == k.old) t.walk k.new t.owned
    → owed ≡ owed_after (found == k.old) t.search.logged t.walk i k.new t.owed
    → record t { walk = walk; owned = owned; owed = owed } ≡ topics_after z k t found
unfolding topics_after
entry_exchanged z k t found walk owned owed i named from at is page mark =
    ap (λ (x : TableWalk). record t { walk = x; owned = owned; owed = owed }) is
    ∙ ap (λ (o : Option OwnedPage). record t { walk = swapped (found == k.old) t.walk i k.new found; owned = o; owed = owed }) page
    ∙ ap (λ (m : Option ℕ). record t {
      walk = swapped (found == k.old) t.walk i k.new found;
      owned = still_owned (found == k.old) t.walk k.new t.owned;
      owed = m;
    }) mark
    ∙ ap (λ (j : ℕ). record t {
      walk = swapped (found == k.old) t.walk j k.new found;
      owned = still_owned (found == k.old) t.walk k.new t.owned;
      owed = owed_after (found == k.old) t.search.logged t.walk j k.new t.owed;
    }) at
    ∙ sym (ap (λ (b : Bool). record t {
      walk = if b then swapped (found == k.old) t.walk (index_in_page z k.word) k.new found else t.walk;
      owned = if b then still_owned (found == k.old) t.walk k.new t.owned else t.owned;
      owed = if b then owed_after (found == k.old) t.search.logged t.walk (index_in_page z k.word) k.new t.owed else t.owed;
    }) (table_if t.walk from))
    ∙ sym (ap (λ (n : StepKind). topics_by n z k t found) named)

pub entry_not_exchanged : (z : Sizes) (k : Kind) (t : Topics) (found : ℕ) → kind_named k.code ≡ kind.Swap → t.walk.level < 1 → t ≡ topics_after z k t found
unfolding topics_after
entry_not_exchanged z k t found named below =
    sym (ap (λ (b : Bool). record t {
      walk = if b then swapped (found == k.old) t.walk (index_in_page z k.word) k.new found else t.walk;
      owned = if b then still_owned (found == k.old) t.walk k.new t.owned else t.owned;
      owed = if b then owed_after (found == k.old) t.search.logged t.walk (index_in_page z k.word) k.new t.owed else t.owed;
    }) (no_table_if t.walk below))
    ∙ sym (ap (λ (n : StepKind). topics_by n z k t found) named)

-- The table from which a sweep goes on is a page of the pool.
pub swept_page : (h : Held) (t : Topics) (walk : TableWalk) (gfn : ℕ) → t ≡ h.topics → walk ≡ gone_up t.walk → MaySweep gfn h.topics → PartRests h
    → table_page walk < h.state.sizes.pool
swept_page h t walk gfn same up may R =
    subst (λ (x : TableWalk). table_page x < h.state.sizes.pool) (sym (up ∙ ap (λ (x : Topics). gone_up x.walk) same)) (R.above may.there)

-- The host word that was looked up is of this page.
pub looked_at : (host : Option HostLook) (look : HostLook) (page : ℕ) → host ≡ Some look → look.page ≡ page
    → (word : ℕ) × (host ≡ Some (record { page = page; word = word }))
looked_at host look page is same = (look.word, is ∙ ap Some (λ t. record { page = same t; word = look.word }))

-- The frame of the host word that was looked up is one of the machine's.
pub looked_frame : {gfn : ℕ} (h : Held) (t : Topics) → t ≡ h.topics → LookedUp gfn h.topics → PartRests h → host_frame (word_looked t.host) < 2 ^ 40
looked_frame h t same U R =
    let looked = R.looked _ U.host in
    subst (λ (x : Topics). host_frame (word_looked x.host) < 2 ^ 40) (sym same)
    (subst (λ o. host_frame (word_looked o) < 2 ^ 40) (sym U.host) (omega (arith, looked.1, R.sizes.frames.1)))
