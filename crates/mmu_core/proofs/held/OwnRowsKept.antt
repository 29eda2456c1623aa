-- Each step of a part keeps what an owner has seen of pages in a row.
use Rattle.std.proofs.Common.{◌≡◌, ◌⊎◌, inl, inr, ◌+◌, ◌*◌, ◌/◌, ◌%◌, ◌^◌, ◌<◌, ◌≤◌, ℕ, refl, sym, subst, ap, ◌∙◌, arith}
use Rattle.std.specs.Prelude.{Bool, true, false, ◌==◌, if◌then◌else◌, nat_lt, Option, Some, None}
use Rattle.std.proofs.lemmas.Bool.{cases_lt}
use Rattle.std.proofs.lemmas.Bool.Decides.{nat_tests}
use Rattle.core_views.specs.declared.sizes.Sizes.{Sizes}
use Rattle.core_views.specs.declared.topics.HostLook.{HostLook}
use Rattle.core_views.specs.declared.topics.HostRow.{HostRow}
use Rattle.core_views.specs.declared.topics.PageRun.{PageRun}
use Rattle.core_views.specs.declared.topics.SlotSearch.{SlotSearch}
use Rattle.core_views.specs.Held.{Held}
use Rattle.core_views.specs.Sizes.{actors_of}
use Rattle.spte_words.specs.declared.area.Area.TheVariants as area
use Rattle.spte_words.specs.Entries.{level_span}
use Rattle.spte_words.specs.HostWords.{host_level, host_present}
use Rattle.part_steps.specs.declared.part_step.PartStep.{PartStep}
use Rattle.part_steps.specs.declared.part_step.PartStep.TheVariants as part
use Rattle.part_steps.specs.InvalidationRange.{run_searched}
use Rattle.part_steps.specs.PageRuns.{continues_row, covering, looked_on, one_look}
use Rattle.part_steps.specs.PageTopics.{searched}
use Rattle.part_steps.specs.PartTasks.{page_looked}
use Rattle.part_steps.specs.PartTopics.{sequenced}
use Rattle.part_steps.specs.StayTopics.{is_loose}
use Rattle.mmu_core.specs.invariant.HostWordsPart.{IsStill, owns_page}
use Rattle.mmu_core.specs.invariant.RunsPart.{IsInRun, IsOwnRow, OwnRowsPart}
use Rattle.mmu_core.specs.invariant.TopicsInvariant.{TopicsInvariant}
use Rattle.mmu_core.specs.machine.View.{View, part_stepped}
use Rattle.mmu_core.proofs.forms.access.FaultSame.{both}
use Rattle.mmu_core.proofs.held.Invalidating.{topics_now}
use Rattle.mmu_core.proofs.held.LooksKept.{this_look}
use Rattle.mmu_core.proofs.held.OwnPages.{changes_own, owner_within}
use Rattle.mmu_core.proofs.held.OwnWords.{changes_own_word, own_large, word_stays}
use Rattle.mmu_core.proofs.held.WalkSpans.{one_frame}
use Rattle.mmu_core.proofs.machine.Columns.{at_upd, upd_same}
use Rattle.mmu_core.proofs.machine.PartStepping.{IsPart}
use Rattle.mmu_core.proofs.words.HostStays.{levels_stay, still_brought, still_there}
use Rattle.mmu_core.proofs.words.PartTopics.{behind_step, part_behind}

-- The word that is so many pages further in a row of present pages is one of a present page.
halves : (word k : ℕ) → (word + 4096 * k) / 2 ^ 0 % 2 ≡ word / 2 ^ 0 % 2
halves word k = omega arith

pub further_present : (word k : ℕ) → host_present (word + 4096 * k) ≡ host_present word
unfolding host_present
further_present word k = ap (λ n. n == 1) (halves word k)

pub further_level : (word k : ℕ) → host_level (word + 4096 * k) ≡ host_level word
unfolding host_level
further_level word k = omega arith

-- What was seen is so of other words too, where the owner's present pages have the same.
row_stays : (z : Sizes) (host after : ℕ → ℕ) (i : ℕ) (look : HostLook) (row : HostRow)
    → ((q : ℕ) → owns_page z i q ≡ true → host_present (host q) ≡ true → after q ≡ host q) → IsOwnRow z host i look row → IsOwnRow z after i look row
row_stays z host after i look row stays R = record {
  words = λ alike there k lt own.
      let was = R.words alike there k lt own in
      stays (look.page + k) own (ap host_present was ∙ (further_present look.word k ∙ there)) ∙ was;
  owns = R.owns;
  present = R.present;
}

-- So it is of a row that is as long, and as much alike.
same_row : (z : Sizes) (host : ℕ → ℕ) (i : ℕ) (look : HostLook) (row now_ : HostRow) → now_.alike ≡ row.alike → now_.looked ≡ row.looked
    → IsOwnRow z host i look row → IsOwnRow z host i look now_
same_row z host i look row now_ alike looked R = record {
  words = λ is there k lt own. R.words (sym alike ∙ is) there k (omega (arith, looked, lt)) own;
  owns = R.owns;
  present = R.present;
}

pub covered_row : (b : Bool) (run : Option PageRun) (s : SlotSearch) (row : HostRow)
    → ((if b then covering run s row else row).alike ≡ row.alike) × ((if b then covering run s row else row).looked ≡ row.looked)
covered_row false run s row = (refl, refl)
covered_row true None s row = (refl, refl)
covered_row true (Some run) s row = (refl, refl)

-- A page that was looked at by itself.
one_row : (z : Sizes) (host : ℕ → ℕ) (i page word : ℕ) (look : HostLook) → look ≡ record { page = page; word = word } → host page ≡ word
    → ((other : ℕ) → IsInRun (host_level word) page other → owns_page z i other ≡ true) → (2 ≤ host_level word → host_present word ≡ true)
    → IsOwnRow z host i look one_look
one_row z host i page word look is at owns present =
    subst (λ (l : HostLook). IsOwnRow z host i l one_look) (sym is) (record {
      words = λ alike there k lt own.
          let none : k ≡ 0 = omega (arith, lt) in
          let here : page + k ≡ page = omega (arith, none) in
          ap host here ∙ (at ∙ (let same : word ≡ word + 4096 * k = omega (arith, none) in same));
      owns = owns;
      present = present;
    })

-- One page more.
row_on : (z : Sizes) (host : ℕ → ℕ) (i page : ℕ) (look : HostLook) (row : HostRow) → IsOwnRow z host i look row
    → IsOwnRow z host i look (looked_on (Some look) row page (host page))
row_on z host i page look row R = record { words = words; owns = R.owns; present = R.present }
  where
    next : ℕ
    next = if nat_lt row.looked (level_span 3) then row.looked + 1 else row.looked

    words : continues_row look row page (host page) ≡ true → host_present look.word ≡ true → (k : ℕ) → k < next → owns_page z i (look.page + k) ≡ true
        → host (look.page + k) ≡ look.word + 4096 * k
    words is there k lt own =
        let one = both row.alike _ is in
        let two = both (host_present look.word) _ one.1 in
        let three = both (nat_lt row.looked (level_span 3)) _ two.1 in
        let four = both (page == look.page + row.looked) (host page == look.word + 2 ^ 12 * row.looked) three.1 in
        let at : page ≡ look.page + row.looked = (let e = four.0 in grind (arith, nat_tests)) in
        let found : host page ≡ look.word + 4096 * row.looked = (let e = four.1 in grind (arith, nat_tests)) in
        let count : next ≡ row.looked + 1 = ap (λ (b : Bool). if b then row.looked + 1 else row.looked) three.0 in
        each (cases_lt k row.looked) one.0 at found count
      where
        each : (k < row.looked) ⊎ (row.looked ≤ k) → row.alike ≡ true → page ≡ look.page + row.looked → host page ≡ look.word + 4096 * row.looked
            → next ≡ row.looked + 1 → host (look.page + k) ≡ look.word + 4096 * k
        each (inl less) alike at found count = R.words alike there k less own
        each (inr more) alike at found count =
            let same : k ≡ row.looked = omega (arith, more, lt, count) in
            ap (λ n. host (look.page + n)) same ∙ (ap host (sym at) ∙ (found ∙ ap (λ n. look.word + 4096 * n) (sym same)))

-- ---- each step

abbrev RowsAt : Sizes → (ℕ → ℕ) → View → Type 0
RowsAt z host v = OwnRowsPart z (actors_of z) host (λ i. (v.hand i).topics)

module _ (z : Sizes) (v : View) (a : ℕ) (step : PartStep) (note : ℕ) (S : IsPart z v a step) (I : TopicsInvariant z v) where
  abbrev host : ℕ → ℕ
  host = v.words area.Host

  abbrev after : ℕ → ℕ
  after = (part_stepped a step note v).words area.Host

  -- where the actor itself has seen this, in these words
  abbrev OwnRow : Type 0
  OwnRow = (look : HostLook) → (topics_now v a note step).host ≡ Some look → owns_page z a look.page ≡ true
      → IsOwnRow z after a look (topics_now v a note step).row

  all_rows : OwnRow → RowsAt z after (part_behind a step note v)
  all_rows own i look lt =
      at_upd (λ j (k : Held). j < actors_of z → k.topics.host ≡ Some look → owns_page z j look.page ≡ true → IsOwnRow z after j look k.topics.row) v.hand a _
      (λ there at owns. own look at owns)
      (λ j ne there at owns. row_stays z host after j look (v.hand j).topics.row
      (λ q own there. word_stays z v a step note S I j q own there (λ changes. ne)) (I.own_rows j look there at owns)) i lt

  -- It has seen the same, in a row that is as long and as much alike.
  still_rows : changes_own_word step ≡ false → (topics_now v a note step).host ≡ (v.hand a).topics.host
      → (topics_now v a note step).row.alike ≡ (v.hand a).topics.row.alike → (topics_now v a note step).row.looked ≡ (v.hand a).topics.row.looked → OwnRow
  still_rows other same alike looked look at owns =
      same_row z after a look (v.hand a).topics.row (topics_now v a note step).row alike looked
      (row_stays z host after a look (v.hand a).topics.row
      (λ q own there. word_stays z v a step note S I a q own there (λ changes. absurd (cc (changes, other))))
      (I.own_rows a look S.there (sym same ∙ at) owns))

own_rows_behind : (z : Sizes) (v : View) (a note : ℕ) (step : PartStep) → IsPart z v a step → TopicsInvariant z v
    → RowsAt z ((part_stepped a step note v).words area.Host) (part_behind a step note v)
own_rows_behind z v a note part.Enter S I = all_rows z v a part.Enter note S I (λ look at. absurd (cc at))
own_rows_behind z v a note part.Leave S I = all_rows z v a part.Leave note S I (λ look at. absurd (cc at))
own_rows_behind z v a note part.Begin S I = all_rows z v a part.Begin note S I (λ look at. absurd (cc at))
own_rows_behind z v a note part.End S I = all_rows z v a part.End note S I (λ look at. absurd (cc at))
own_rows_behind z v a note part.ChangeNext S I = all_rows z v a part.ChangeNext note S I (λ look at. absurd (cc at))
own_rows_behind z v a note part.Seq S I = all_rows z v a part.Seq note S I (by (is_loose (v.hand a).topics.hold))
  where
    by : (loose : Bool) (look : HostLook) → (sequenced loose (v.hand a).topics (v.words area.Seq 0)).host ≡ Some look → owns_page z a look.page ≡ true
        → IsOwnRow z (v.words area.Host) a look (sequenced loose (v.hand a).topics (v.words area.Seq 0)).row
    by true look at owns = absurd (cc at)
    by false look at owns = I.own_rows a look S.there at owns
own_rows_behind z v a note (part.Host page) S I = all_rows z v a (part.Host page) note S I
    (λ look at owns.
    let is = this_look at in
    let own = subst (λ (l : HostLook). owns_page z a l.page ≡ true) is owns in
    let L = own_large z v I S.is_sizes a page S.there own in
    one_row z (v.words area.Host) a page (v.words area.Host page) look is refl L.owner L.present)
own_rows_behind z v a note (part.HostOn page) S I = all_rows z v a (part.HostOn page) note S I
    (λ look at owns.
    subst (λ (o : Option HostLook). IsOwnRow z (v.words area.Host) a look (looked_on o (v.hand a).topics.row page (v.words area.Host page))) (sym at)
    (row_on z (v.words area.Host) a page look (v.hand a).topics.row (I.own_rows a look S.there at owns)))
own_rows_behind z v a note part.Bring S I = all_rows z v a part.Bring note S I
    (λ look at owns.
    let page : ℕ = page_looked (v.hand a).topics.host in
    let host : ℕ → ℕ = v.words area.Host in
    let after : ℕ → ℕ = (part_stepped a part.Bring note v).words area.Host in
    let is = this_look at in
    let own = subst (λ (l : HostLook). owns_page z a l.page ≡ true) is owns in
    let L = own_large z v I S.is_sizes a page S.there own in
    let now_ = upd_same host page _ in
    let level = levels_stay z v a part.Bring note refl S page in
    let still : IsStill (host page) (after page) =
    subst (IsStill (host page)) (sym now_) (still_brought (host page) (host page) _ S.needs.absent (inl refl)) in
    one_row z after a page _ look is now_
    (λ other in_run. L.owner other (subst (λ l. IsInRun l page other) (ap host_level (sym now_) ∙ level) in_run))
    (λ more.
    let was : 2 ≤ host_level (host page) = subst (λ l. 2 ≤ l) (ap host_level (sym now_) ∙ level) more in
    ap host_present (sym now_) ∙ still_there (host page) (after page) still (L.present was)))
own_rows_behind z v a note (part.Change new_) S I = all_rows z v a (part.Change new_) note S I
    (λ look at owns.
    let page : ℕ = page_looked (v.hand a).topics.host in
    let host : ℕ → ℕ = v.words area.Host in
    let is = this_look at in
    let own = changes_own z v a new_ S in
    let now_ = upd_same host page _ in
    let level = levels_stay z v a (part.Change new_) note refl S page in
    let O = I.own_pages a _ S.there S.needs.0.opened S.needs.0.invalid in
    let most = O.most page refl in
    let small : host_level (host page) ≤ 1 = most in
    one_row z ((part_stepped a (part.Change new_) note v).words area.Host) a page _ look is now_
    (λ other in_run.
    let one = subst (λ l. IsInRun l page other) (ap host_level (sym now_) ∙ level) in_run in
    let same = one_frame (host_level (host page)) other page (single (host_level (host page)) (least page own) small) one in
    subst (λ p. owns_page z a p ≡ true) (sym same) own)
    (λ more. absurd (let was : 2 ≤ host_level (host page) = subst (λ l. 2 ≤ l) (ap host_level (sym now_) ∙ level) more in omega (arith, was, small))))
  where
    least : (page : ℕ) → owns_page z a page ≡ true → 1 ≤ host_level (v.words area.Host page)
    least page own = (I.hosts page (owner_within z S.is_sizes a page own)).2

    single : (n : ℕ) → 1 ≤ n → n ≤ 1 → n ≡ 1
    single n from to = omega (arith, from, to)
own_rows_behind z v a note part.Slot S I = all_rows z v a part.Slot note S I
    (let same = covered_row _ (run_searched (v.hand a).topics) (searched (v.hand a).topics.search _) (v.hand a).topics.row in
    still_rows z v a part.Slot note S I refl refl same.0 same.1)
own_rows_behind z v a note step S I = all_rows z v a step note S I (still_rows z v a step note S I refl refl refl refl)

pub own_rows_kept : (z : Sizes) (v : View) (a : ℕ) (step : PartStep) (note : ℕ) → IsPart z v a step → TopicsInvariant z v
    → RowsAt z ((part_stepped a step note v).words area.Host) (part_stepped a step note v)
own_rows_kept z v a step note S I =
    behind_step (λ (w : View). RowsAt z ((part_stepped a step note v).words area.Host) w) z v a step note S (own_rows_behind z v a note step S I)
