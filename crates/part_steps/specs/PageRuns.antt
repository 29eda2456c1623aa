-- Runs of host pages that are changed as one (mmu.rst, "Large pages"; api.rst, KVM_CAP_SYNC_MMU): what an actor sees of pages in a row, of which run that tells
-- it, which guest frames slots give to the run, and how its pages are changed, one after another.
use Rattle.std.specs.Prelude.{◌≡◌, ◌+◌, ◌-◌, ◌*◌, ◌/◌, ◌%◌, ◌^◌, ℕ, Bool, true, false, ◌==◌, ◌&&◌, nat_le, nat_lt, if◌then◌else◌, Option, Some, None}
use Rattle.core_views.specs.declared.topics.HostLook.{HostLook}
use Rattle.core_views.specs.declared.topics.HostRow.{HostRow}
use Rattle.core_views.specs.declared.topics.PageRun.{PageRun}
use Rattle.core_views.specs.declared.topics.SlotSearch.{SlotSearch}
use Rattle.core_views.specs.declared.trace.Slot.{Slot}
use Rattle.spte_words.specs.Entries.{level_span}
use Rattle.spte_words.specs.HostWords.{host_frame, host_level, host_present, with_level}

abbrev pub lesser : ℕ → ℕ → ℕ
lesser a b = if nat_le a b then a else b

abbrev pub greater : ℕ → ℕ → ℕ
greater a b = if nat_le a b then b else a

-- ---- pages in a row

-- what is seen with a look at one page
abbrev pub one_look : HostRow
one_look = record { looked = 1; alike = true; start = 0; end = 0 }

-- the word of a host page that is mapped as far after this one, which has this word, as it stands after it, and alike in all else
abbrev pub word_in_row : ℕ → ℕ → ℕ → ℕ
word_in_row word page other = word + 2 ^ 12 * other - 2 ^ 12 * page

-- The page comes after those in a row that were looked at, which are no more than the largest run has, and its word is the one in this row of present pages.
abbrev pub continues_row : HostLook → HostRow → ℕ → ℕ → Bool
continues_row look row page v =
    row.alike && (host_present look.word && (nat_lt row.looked (level_span 3) && (page == look.page + row.looked && v == look.word + 2 ^ 12 * row.looked)))

-- what was seen once one more page was looked at, which has this word
abbrev pub looked_on : Option HostLook → HostRow → ℕ → ℕ → HostRow
looked_on None row page v = row
looked_on (Some look) row page v =
    record row { looked = if nat_lt row.looked (level_span 3) then row.looked + 1 else row.looked; alike = continues_row look row page v }

-- So many present pages were looked at in a row as the run of a level has, and page and frame of the first one are the first of such a run each.
abbrev pub makes_run : ℕ → HostLook → HostRow → Bool
makes_run level look row =
    (row.alike && (host_present look.word && row.looked == level_span level))
    && (look.page % level_span level == 0 && host_frame look.word % level_span level == 0)

-- the level of the run that may be changed as one: that of the large page which the host maps already, or of the small ones that were looked at in a row
abbrev pub level_looked : HostLook → HostRow → ℕ
level_looked look row =
    if nat_lt 1 (host_level look.word) then host_level look.word else if makes_run 3 look row then 3 else if makes_run 2 look row then 2 else 1

-- ---- runs

-- the run that is this one page
abbrev pub run_of : ℕ → PageRun
run_of page = record { first = page; level = 1; word = 0; changed = 0 }

abbrev pub run_looked : HostLook → HostRow → PageRun
run_looked look row =
    if nat_lt 1 (level_looked look row) then record { first = look.page; level = level_looked look row; word = look.word; changed = 0 } else run_of look.page

-- The run has one page; or several.
abbrev pub is_single : Option PageRun → Bool
is_single None = false
is_single (Some run) = nat_le run.level 1

abbrev pub is_several : Option PageRun → Bool
is_several None = false
is_several (Some run) = nat_lt 1 run.level

-- its first page, and the page after its last one
abbrev pub run_start : PageRun → ℕ
run_start run = run.first - run.first % level_span run.level

abbrev pub run_end : PageRun → ℕ
run_end run = run_start run + level_span run.level

-- The host page is one of the run's, if there is one.
abbrev pub IsOnRun : ℕ → Option PageRun → Type 0
IsOnRun page None = ⊥
IsOnRun page (Some run) = page / level_span run.level ≡ run.first / level_span run.level

-- ---- the guest frames that slots give to its pages

-- The slot has one of them; the first guest frame that it gives to one, and the guest frame after the last.
abbrev pub has_part : PageRun → Slot → Bool
has_part run slot = nat_lt slot.host (run_end run) && nat_lt (run_start run - slot.host) slot.pages

abbrev pub part_start : PageRun → Slot → ℕ
part_start run slot = slot.base + (run_start run - slot.host)

abbrev pub part_end : PageRun → Slot → ℕ
part_end run slot = slot.base + lesser (run_end run - slot.host) slot.pages

-- a guest frame as a number of 64 bits
abbrev pub capped : ℕ → ℕ
capped gfn = lesser gfn (2 ^ 64 - 1)

-- The frames of the run that the search has come across, with those of the slot that it has loaded whole: from the least of them to the greatest.
abbrev pub widened : Bool → ℕ → ℕ → HostRow → HostRow
widened has start end_ row = record row {
  start = if has then (if nat_lt row.start row.end then lesser row.start start else start) else row.start;
  end = if has then greater row.end end_ else row.end;
}

abbrev pub covering : Option PageRun → SlotSearch → HostRow → HostRow
covering None search row = row
covering (Some run) search row =
    widened (search.whole && (nat_lt 1 run.level && has_part run search.slot)) (capped (part_start run search.slot)) (capped (part_end run search.slot)) row

-- ---- its changes

-- the level that its pages are given: its own where they are small ones
abbrev pub level_put : PageRun → ℕ
level_put run = if host_level run.word == 1 then run.level else 1

-- the page that is changed next, its word as it was seen, and the word that is put in its place
abbrev pub page_next : PageRun → ℕ
page_next run = run_start run + run.changed

abbrev pub word_seen : PageRun → ℕ → ℕ
word_seen run page = word_in_row run.word run.first page

abbrev pub word_given : PageRun → ℕ → ℕ
word_given run page = with_level (level_put run) (word_seen run page)

-- One more of its pages is changed, where the exchange was won.
abbrev pub changed_more : Bool → Option PageRun → Option PageRun
changed_more won None = None
changed_more won (Some run) = Some (record run { changed = if won then run.changed + 1 else run.changed })
