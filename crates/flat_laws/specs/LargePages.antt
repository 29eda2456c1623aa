-- Closed histories over pages that the host maps as one large page: what lines print that would change one of them alone, and what they may not do.
use Rattle.std.specs.Prelude.{◌≡◌, ◌+◌, ◌%◌, ◌<◌, ℕ, Bool, List, [], ◌∷◌, ◌++◌, None, true, false, map, codes}
use Rattle.core_views.specs.declared.answer.Answer.{Answer}
use Rattle.core_views.specs.declared.answer.Answer.TheVariants.{Done, Refused}
use Rattle.core_views.specs.declared.answer.Refusal.TheVariants.{IsHuge, NoFrame}
use Rattle.core_views.specs.declared.event.EventKind.{EventKind}
use Rattle.core_views.specs.declared.event.EventKind.TheVariants.{Begun, LookedAtHost, Exited, HostChanged}
use Rattle.core_views.specs.declared.actor.Actor.TheVariants.{Host}
use Rattle.core_views.specs.declared.host.HostEntry.{HostEntry}
use Rattle.core_views.specs.declared.trace.Command.TheVariants.{ChangeRun}
use Rattle.core_views.specs.declared.trace.RunChange.{RunChange}
use Rattle.core_views.specs.declared.trace.RunChange.TheVariants.{Huge, Small}
use Rattle.core_views.specs.declared.trace.HostChange.TheVariants.{Move, Evict, Protect, Allow}
use Rattle.core_views.specs.declared.trace.Line.{Line}
use Rattle.core_views.specs.Flat.{Facts, Flat, first_facts, first_flat}
use Rattle.core_views.specs.FlatHistory.{answers, by, one_by_one}
use Rattle.core_views.specs.Host.{HostMap, is_huge, own_frames}
use Rattle.core_views.specs.HostRuns.{run_pages, run_refusal}
use Rattle.core_views.specs.Lawful.{IsLawful}
use Rattle.core_views.specs.Text.{text}
use Rattle.flat_laws.specs.HostExamples.{host_line, host_sizes}

-- Each page is part of a large one, of 512 pages.
abbrev pub large_facts : Facts
large_facts = record first_facts { host = λ page. record (own_frames page) { level = 2 } }

abbrev pub large_flat : Flat
large_flat = record first_flat { facts = large_facts }

-- None of them is moved, evicted, protected or allowed. Whose it is is looked at before.
abbrev pub large_example : List Line
large_example =
    host_line 2 0 1 Move ∷ host_line 3 0 1 Evict ∷ host_line 4 0 1 Protect ∷ host_line 5 0 1 Allow ∷ host_line 6 0 2 Move ∷ host_line 7 1 2 Move ∷ []

abbrev pub LargePrints : Type 0
LargePrints = text (one_by_one host_sizes large_example large_facts)
    ≡ codes "2 h0 refused is-huge\n3 h0 refused is-huge\n4 h0 refused is-huge\n5 h0 refused is-huge\n"
    ++ codes "6 h0 refused out-of-range\n7 h1 refused is-huge\n"

-- a line of a host thread that sets a run
abbrev pub run_line : ℕ → ℕ → ℕ → RunChange → Line
run_line number host page change = record { number = number; actor = Host host; command = ChangeRun page change }

-- A small page may be made small, which it is; and no run is set that isn't the thread's own.
abbrev pub RunsPrint : Type 0
RunsPrint = text (one_by_one host_sizes (run_line 2 0 1 Small ∷ run_line 3 0 2 Small ∷ run_line 4 0 0 (Huge 2) ∷ run_line 5 1 2 (Huge 3) ∷ []) first_facts)
    ≡ codes "2 h0 done\n3 h0 refused out-of-range\n4 h0 refused out-of-range\n5 h1 refused out-of-range\n"

-- A run of one page is refused while the page is part of a large one.
abbrev pub LargeRunsPrint : Type 0
LargeRunsPrint = text (one_by_one host_sizes (run_line 2 0 1 (Huge 1) ∷ []) large_facts) ≡ codes "2 h0 refused is-huge\n"

-- From this state the line begins, does this, and is answered so. That is not allowed.
abbrev pub IsUnlawfulFrom : Flat → Line → List EventKind → Answer → Type 0
IsUnlawfulFrom f line kinds answer = IsLawful host_sizes f (by line (Begun line) ∷ (map (by line) kinds ++ answers line answer)) → ⊥

-- A line changes a page that is part of a large one.
abbrev pub LargeIsNotChanged : Type 0
LargeIsNotChanged =
    IsUnlawfulFrom large_flat (host_line 2 0 1 Evict)
    (LookedAtHost 1 ∷ HostChanged 1 (record { frame = 1; present = false; writable = true; level = 2 }) ∷ []) Done

-- A line finds no frame for such a page.
abbrev pub LargeWantsNoFrame : Type 0
LargeWantsNoFrame = IsUnlawfulFrom large_flat (host_line 2 0 1 Move) (LookedAtHost 1 ∷ Exited (Refused NoFrame) ∷ []) (Refused NoFrame)

-- A line is refused as if its page were part of a large one; and without a look at it.
abbrev pub SmallIsChanged : Type 0
SmallIsChanged = IsUnlawfulFrom first_flat (host_line 2 0 1 Evict) (LookedAtHost 1 ∷ Exited (Refused IsHuge) ∷ []) (Refused IsHuge)

abbrev pub LargeIsLookedAt : Type 0
LargeIsLookedAt = IsUnlawfulFrom large_flat (host_line 2 0 1 Evict) (Exited (Refused IsHuge) ∷ []) (Refused IsHuge)

-- The page is present, at this frame, and allows writes or doesn't, as here.
pub record IsPageOfRun (frame : ℕ) (writable : Bool) (entry : HostEntry) : Type 0 where
  pub present : entry.present ≡ true
  pub at_frame : entry.frame ≡ frame
  pub writes : entry.writable ≡ writable

-- The run of a level from this page on begins with a page and a frame that are multiples of how many pages it has. Its pages are present, at frames one after
-- the other, allow writes alike, and none of them is part of a large one.
pub record StandsTogether (host : HostMap) (page level : ℕ) : Type 0 where
  pub page_begins : page % run_pages level ≡ 0
  pub frame_begins : (host page).frame % run_pages level ≡ 0
  pub pages : (k : ℕ) → k < run_pages level → IsPageOfRun ((host page).frame + k) (host page).writable (host (page + k))
  pub small : (k : ℕ) → k < run_pages level → is_huge (host (page + k)) ≡ false

-- So does each run that isn't refused to become large.
abbrev pub LargeRunsStandTogether : Type 0
LargeRunsStandTogether = (host : HostMap) (page level : ℕ) → run_refusal host page (Huge level) ≡ None → StandsTogether host page level
