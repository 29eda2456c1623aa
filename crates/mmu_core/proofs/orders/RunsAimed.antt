-- Which host pages an actor may change, by what it has seen of pages in a row; and that the steps of an invalidation leave that as it is.
use Rattle.std.proofs.Common.{◌≡◌, ◌≤◌, ℕ, Bool, true, false, refl, sym, ap, ◌∙◌, arith}
use Rattle.std.specs.Prelude.{◌%◌, ◌==◌, ◌&&◌, nat_lt, if◌then◌else◌, Option, Some, None, is_some}
use Rattle.core_views.specs.declared.place.BeginPlace.{BeginPlace}
use Rattle.core_views.specs.declared.place.BeginPlace.TheVariants as begins
use Rattle.core_views.specs.declared.place.EndPlace.{EndPlace}
use Rattle.core_views.specs.declared.place.EndPlace.TheVariants as ends
use Rattle.core_views.specs.declared.topics.HostLook.{HostLook}
use Rattle.core_views.specs.declared.topics.HostRow.{HostRow}
use Rattle.core_views.specs.declared.topics.OwnedPage.{OwnedPage}
use Rattle.core_views.specs.declared.topics.PageRun.{PageRun}
use Rattle.core_views.specs.declared.topics.Topics.{Topics}
use Rattle.spte_words.specs.Entries.{level_span}
use Rattle.spte_words.specs.HostWords.{host_frame, host_level, host_present}
use Rattle.spte_words.proofs.Spans.{span_2, span_3}
use Rattle.part_steps.specs.declared.invalidations.Target.{Target}
use Rattle.part_steps.specs.declared.part_step.PartStep.TheVariants as part
use Rattle.part_steps.specs.InvalidationRange.{page_looked, run_aimed, run_of_look, run_searched}
use Rattle.part_steps.specs.PageRuns.{covering, makes_run, level_looked, run_looked, run_of}
use Rattle.part_steps.specs.PageTopics.{searched}
use Rattle.part_steps.specs.PartTasks.{word_looked}
use Rattle.part_steps.specs.PartTopics.{part_topics}
use Rattle.part_steps.specs.StayTopics.{is_loose}
use Rattle.mmu_core.specs.orders.InvalidateKnows.{EndKnows, HasChangedAll}
use Rattle.mmu_core.specs.orders.InvalidateSteps.{begin_part, end_part}
use Rattle.mmu_core.proofs.lines.EitherPlace.{either_place}

-- ---- which run it is

-- It begins with the page that was looked at.
pub first_looked : (look : HostLook) (row : HostRow) → (run_looked look row).first ≡ look.page
first_looked look row =
    either_place (λ (run : PageRun). run.first ≡ look.page) (nat_lt 1 (level_looked look row))
    (record { first = look.page; level = level_looked look row; word = look.word; changed = 0 }) (run_of look.page) refl refl

abbrev first_or : ℕ → Option PageRun → ℕ
first_or page None = page
first_or page (Some run) = run.first

pub first_aimed : (owns : Bool) (host : Option HostLook) (row : HostRow) (run : PageRun) → (if owns then None else run_of_look host row) ≡ Some run
    → page_looked host ≡ run.first
first_aimed true host row run is = absurd (cc is)
first_aimed false None row run is = absurd (cc is)
first_aimed false (Some look) row run is = sym (first_looked look row) ∙ ap (first_or look.page) is

-- So many pages are no row of a level that has another number of them.
pub makes_no_run : (level n : ℕ) (look : HostLook) (row : HostRow) → row.looked ≡ n → (n == level_span level) ≡ false → makes_run level look row ≡ false
makes_no_run level n look row looked more =
    by row.alike (host_present look.word) (look.page % level_span level == 0 && host_frame look.word % level_span level == 0)
    (ap (λ m. m == level_span level) looked ∙ more)
  where
    by : {enough : Bool} (alike present begins : Bool) → enough ≡ false → ((alike && (present && enough)) && begins) ≡ false
    by false present begins few = refl
    by true false begins few = refl
    by true true begins few = ap (λ (b : Bool). b && begins) few

-- A small page that was looked at alone is a run of its own.
pub lowest_looked : (look : HostLook) (row : HostRow) → row.looked ≡ 1 → nat_lt 1 (host_level look.word) ≡ false → level_looked look row ≡ 1
lowest_looked look row alone small =
    ap (λ (b : Bool). if b then host_level look.word else if makes_run 3 look row then 3 else if makes_run 2 look row then 2 else 1) small
    ∙ ap (λ (b : Bool). if b then 3 else if makes_run 2 look row then 2 else 1) (makes_no_run 3 1 look row alone (ap (λ n. 1 == n) span_3))
    ∙ ap (λ (b : Bool). if b then 2 else 1) (makes_no_run 2 1 look row alone (ap (λ n. 1 == n) span_2))

pub one_looked : (look : HostLook) (row : HostRow) → level_looked look row ≡ 1 → run_looked look row ≡ run_of look.page
one_looked look row lowest =
    ap (λ n. if nat_lt 1 n then record { first = look.page; level = level_looked look row; word = look.word; changed = 0 } else run_of look.page) lowest

-- Who has looked at it, and owns no page of the pool, may change this page.
pub one_aimed : (page : ℕ) (t : Topics) → t.owned ≡ None → is_some t.host ≡ true → page_looked t.host ≡ page → t.row.looked ≡ 1
    → nat_lt 1 (host_level (word_looked t.host)) ≡ false → run_aimed t ≡ Some (run_of page)
one_aimed page t none some at alone small =
    ap (λ (o : Option OwnedPage). if is_some o then None else run_of_look t.host t.row) none ∙ by t.host some at small
  where
    by : (host : Option HostLook) → is_some host ≡ true → page_looked host ≡ page → nat_lt 1 (host_level (word_looked host)) ≡ false
        → run_of_look host t.row ≡ Some (run_of page)
    by None some at small = absurd (cc some)
    by (Some look) some at small = ap Some (one_looked look t.row (lowest_looked look t.row alone small) ∙ ap run_of at)

-- Where an invalidation is of one page, or of none, no run of several is left to change.
pub one_changed : (page : ℕ) (t : Topics) → t.invalidations.own.pages ≡ Some (run_of page) → HasChangedAll t
one_changed page t one run is more = let same : Some (run_of page) ≡ Some run = sym one ∙ is in absurd (not_several run (cc same) more)
  where
    not_several : (run : PageRun) → run_of page ≡ run → 2 ≤ run.level → ⊥
    not_several run same more = let lowest : 1 ≡ run.level = ap (λ (r : PageRun). r.level) same in omega (arith, lowest, more)

pub none_changed : (t : Topics) → t.invalidations.own.pages ≡ None → HasChangedAll t
none_changed t none run is more = absurd (let some = sym none ∙ is in cc some)

-- ---- what an invalidation leaves

-- The host page that was looked up, and what was seen of pages in a row with it, is as it was.
pub record LeavesLooks (t u : Topics) : Type 0 where
  pub host : u.host ≡ t.host
  pub looked : u.row.looked ≡ t.row.looked
  pub alike : u.row.alike ≡ t.row.alike

-- Where these topics are the same it is.
pub same_looks : (t u : Topics) → u.host ≡ t.host → u.row ≡ t.row → LeavesLooks t u
same_looks t u host row = record { host = host; looked = ap (λ (r : HostRow). r.looked) row; alike = ap (λ (r : HostRow). r.alike) row }

-- Then the actor may change the same host pages, where it owns the same of the pool.
pub same_aimed : (t u : Topics) → u.owned ≡ t.owned → LeavesLooks t u → run_aimed u ≡ run_aimed t
same_aimed t u owned L = λ i. aimed_by (owned i) (L.host i) (L.looked i) (L.alike i)
  where
    aimed_by : Option OwnedPage → Option HostLook → ℕ → Bool → Option PageRun
    aimed_by o host looked alike = if is_some o then None else run_of_look host (record { looked = looked; alike = alike; start = 0; end = 0 })

slot_leaves_looks : (t : Topics) (v : ℕ) → LeavesLooks t (part_topics part.Slot t v)
slot_leaves_looks t v = by (is_some t.search.set) (run_searched t)
  where
    by : (holds : Bool) (run : Option PageRun) → LeavesLooks t (record t {
      search = if holds then searched t.search v else t.search;
      row = if holds then covering run (searched t.search v) t.row else t.row;
    })
    by false run = record { host = refl; looked = refl; alike = refl }
    by true None = record { host = refl; looked = refl; alike = refl }
    by true (Some run) = record { host = refl; looked = refl; alike = refl }

pub begin_leaves_looks : (p : BeginPlace) (target : Target) (t : Topics) (v : ℕ) → LeavesLooks t (part_topics (begin_part p target t) t v)
begin_leaves_looks (begins.Find begun) target t v =
    either_place (λ step. LeavesLooks t (part_topics step t v)) begun part.Slot part.Slots (slot_leaves_looks t v)
    (record { host = refl; looked = refl; alike = refl })
begin_leaves_looks (begins.Walk rooted) target t v =
    either_place (λ step. LeavesLooks t (part_topics step t v)) rooted (part.Sweep _) part.Root (same_looks t _ refl refl)
    (same_looks t _ refl refl)
begin_leaves_looks _ target t v = record { host = refl; looked = refl; alike = refl }

-- Under the lock, or without a step on the sequence number, it is.
pub end_leaves_looks : (p : EndPlace) (t : Topics) (v : ℕ) → EndKnows p t → LeavesLooks t (part_topics (end_part p t) t v)
end_leaves_looks ends.Exclude t v K = record { host = refl; looked = refl; alike = refl }
end_leaves_looks ends.Seq t v K =
    record { host = ap (λ (b : Bool). if b then None else t.host) (ap is_loose K.0.alone.alone); looked = refl; alike = refl }
end_leaves_looks _ t v K = record { host = refl; looked = refl; alike = refl }
