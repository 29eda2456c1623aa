-- The run that an owner has looked at: its pages are the owner's, and have the words of a row.
use Rattle.std.proofs.Common.{◌≡◌, ◌+◌, ◌-◌, ◌*◌, ◌/◌, ◌%◌, ◌^◌, ◌<◌, ◌≤◌, ℕ, refl, sym, subst, ap, ◌∙◌, arith}
use Rattle.std.specs.Prelude.{Bool, true, false, ◌==◌, ◌&&◌, if◌then◌else◌, nat_lt, Option, Some, None}
use Rattle.std.proofs.lemmas.Bool.Decides.{nat_tests}
use Rattle.core_views.specs.declared.sizes.Sizes.{Sizes}
use Rattle.core_views.specs.declared.topics.HostLook.{HostLook}
use Rattle.core_views.specs.declared.topics.HostRow.{HostRow}
use Rattle.core_views.specs.declared.topics.PageRun.{PageRun}
use Rattle.spte_words.specs.Entries.{level_span}
use Rattle.spte_words.specs.HostWords.{host_allows_write, host_frame, host_level, host_present, host_word}
use Rattle.spte_words.proofs.Spans.{span_positive}
use Rattle.part_steps.specs.InvalidationRange.{run_of_look}
use Rattle.part_steps.specs.PageRuns.{makes_run, level_looked, run_looked, word_in_row}
use Rattle.mmu_core.specs.invariant.HostWordsPart.{IsHostWord, owns_page}
use Rattle.mmu_core.specs.invariant.RunsPart.{IsInRun, IsOneRun, IsOwnRow}
use Rattle.mmu_core.proofs.forms.access.FaultSame.{both}
use Rattle.mmu_core.proofs.words.HostStays.{level_low}
use Rattle.mmu_core.proofs.words.RunSpans.{one_span}

-- What an actor may change tells at what it has looked.
pub aimed_look : (owns : Bool) (host : Option HostLook) (row : HostRow) (run : PageRun) → (if owns then None else run_of_look host row) ≡ Some run
    → (look : HostLook) × (host ≡ Some look) × (run ≡ run_looked look row)
aimed_look true host row run is = absurd (cc is)
aimed_look false None row run is = absurd (cc is)
aimed_look false (Some look) row run is = (look, refl, sym (cc is))

-- ---- which level is looked at

pub data LevelLooked (look : HostLook) (row : HostRow) : Type 0 where
  Large : 1 < host_level look.word → level_looked look row ≡ host_level look.word → LevelLooked look row
  Several : (level : ℕ) → 2 ≤ level → level ≤ 3 → host_level look.word ≤ 1 → makes_run level look row ≡ true
      → level_looked look row ≡ level → LevelLooked look row
  One : host_level look.word ≤ 1 → level_looked look row ≡ 1 → LevelLooked look row

pub level_told : (look : HostLook) (row : HostRow) → LevelLooked look row
level_told look row = by (nat_lt 1 (host_level look.word)) (makes_run 3 look row) (makes_run 2 look row) refl refl refl
  where
    told : (a b c : Bool) → nat_lt 1 (host_level look.word) ≡ a → makes_run 3 look row ≡ b → makes_run 2 look row ≡ c
        → level_looked look row ≡ (if a then host_level look.word else if b then 3 else if c then 2 else 1)
    told a b c one two three =
        ap (λ (x : Bool). if x then host_level look.word else if makes_run 3 look row then 3 else if makes_run 2 look row then 2 else 1) one
        ∙ ap (λ (x : Bool). if a then host_level look.word else if x then 3 else if makes_run 2 look row then 2 else 1) two
        ∙ ap (λ (x : Bool). if a then host_level look.word else if b then 3 else if x then 2 else 1) three

    by : (a b c : Bool) → nat_lt 1 (host_level look.word) ≡ a → makes_run 3 look row ≡ b → makes_run 2 look row ≡ c → LevelLooked look row
    by true b c one two three = Large (grind (arith, nat_tests)) (told true b c one two three)
    by false true c one two three = Several 3 (omega arith) (omega arith) (grind (arith, nat_tests)) two (told false true c one two three)
    by false false true one two three = Several 2 (omega arith) (omega arith) (grind (arith, nat_tests)) three (told false false true one two three)
    by false false false one two three = One (grind (arith, nat_tests)) (told false false false one two three)

pub level_bounds : (look : HostLook) (row : HostRow) → LevelLooked look row → (1 ≤ level_looked look row) × (level_looked look row ≤ 3)
level_bounds look row (Large more is) = let low = level_low look.word in (omega (arith, is, more), omega (arith, is, low))
level_bounds look row (Several level from to small is_it is) = (omega (arith, is, from), omega (arith, is, to))
level_bounds look row (One small is) = (omega (arith, is), omega (arith, is))

-- ---- words of pages that are mapped as one

-- A word at another frame, with the same bits, is as much greater as the frame is.
other_frames : (f g level : ℕ) (present writable : Bool) (a b : ℕ) → g + a ≡ f + b
    → host_word g present writable level ≡ host_word f present writable level + 2 ^ 12 * b - 2 ^ 12 * a
unfolding host_word
other_frames f g level present writable a b is = omega (arith, is)

pub one_row_word : (z : Sizes) (level : ℕ) (host : ℕ → ℕ) (page other : ℕ) → 1 ≤ level → level ≤ 4 → IsHostWord z.frames (host page)
    → IsHostWord z.frames (host other) → host_present (host page) ≡ true → host_present (host other) ≡ true → IsInRun level page other
    → IsOneRun level host page other → host other ≡ word_in_row (host page) page other
one_row_word z level host page other from most here there present present_too in_run R =
    there.0 ∙ alike ∙ other_frames (host_frame (host page)) (host_frame (host other)) (host_level (host page)) (host_present (host page))
    (host_allows_write (host page)) page other places
    ∙ ap (λ w. w + 2 ^ 12 * other - 2 ^ 12 * page) (sym here.0)
  where
    alike : host_word (host_frame (host other)) (host_present (host other)) (host_allows_write (host other)) (host_level (host other))
        ≡ host_word (host_frame (host other)) (host_present (host page)) (host_allows_write (host page)) (host_level (host page))
    alike =
        ap (λ b. host_word (host_frame (host other)) b (host_allows_write (host other)) (host_level (host other))) (present_too ∙ sym present)
        ∙ ap (λ b. host_word (host_frame (host other)) (host_present (host page)) b (host_level (host other))) R.writes
        ∙ ap (host_word (host_frame (host other)) (host_present (host page)) (host_allows_write (host page))) R.same_level

    places : host_frame (host other) + page ≡ host_frame (host page) + other
    places =
        let P = one_span level from most page other in_run in
        let Q = one_span level from most page page refl in
        let frames = R.frames in
        let at = P.2 in
        let base = Q.2 in
        omega (arith, frames, at, base)

-- ---- a row of pages, and the page of one of them

-- Where the first page begins a run, each page of the run stands so many pages after it.
pub begins_at : (level first page : ℕ) → 1 ≤ level → level ≤ 4 → first % level_span level ≡ 0 → page / level_span level ≡ first / level_span level
    → (k : ℕ) × (k < level_span level) × (first + k ≡ page)
begins_at level first page from most begins on =
    let P = one_span level from most first page on in
    let low = P.0 in
    let high = P.1 in
    let more = span_positive level from most in
    (page - first, omega (arith, low, high, begins, more), omega (arith, low, begins))

-- what a row of pages of a level tells
pub record IsWholeRow (level : ℕ) (look : HostLook) (row : HostRow) : Type 0 where
  pub alike : row.alike ≡ true
  pub present : host_present look.word ≡ true
  pub looked : row.looked ≡ level_span level
  pub begins : look.page % level_span level ≡ 0
  pub frame_begins : host_frame look.word % level_span level ≡ 0

pub whole_row : (level : ℕ) (look : HostLook) (row : HostRow) → makes_run level look row ≡ true → IsWholeRow level look row
whole_row level look row is =
    let one = both (row.alike && (host_present look.word && row.looked == level_span level)) _ is in
    let two = both row.alike _ one.0 in
    let three = both (host_present look.word) (row.looked == level_span level) two.1 in
    let four = both (look.page % level_span level == 0) _ one.1 in
    record {
      alike = two.0;
      present = three.0;
      looked = (let e = three.1 in grind (arith, nat_tests));
      begins = (let e = four.0 in grind (arith, nat_tests));
      frame_begins = (let e = four.1 in grind (arith, nat_tests));
    }

-- Each of its pages has the word of the row.
pub row_word : (z : Sizes) (host : ℕ → ℕ) (i level page : ℕ) (look : HostLook) (row : HostRow) → 1 ≤ level → level ≤ 4 → IsWholeRow level look row
    → IsOwnRow z host i look row → page / level_span level ≡ look.page / level_span level → owns_page z i page ≡ true
    → (k : ℕ) × (host page ≡ look.word + 4096 * k) × (host page ≡ word_in_row look.word look.page page)
row_word z host i level page look row from most W R on owns =
    let B = begins_at level look.page page from most W.begins on in
    let at = B.2 in
    let is : host page ≡ look.word + 4096 * B.0 =
    ap host (sym at) ∙ R.words W.alike W.present B.0 (let lt = B.1 in let all = W.looked in omega (arith, lt, all))
    (subst (λ p. owns_page z i p ≡ true) (sym at) owns) in
    (B.0, is, is ∙ (let same : look.word + 4096 * B.0 ≡ word_in_row look.word look.page page = omega (arith, at) in same))
