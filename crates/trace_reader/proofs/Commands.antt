-- The forms of an actor's line, each with one clause or one row in each lemma: what every line says is read, and only that,
-- and why it is refused.
use Rattle.std.proofs.Common.{◌≡◌, inl, inr, ℕ, List, [], ◌∷◌, true, false, Ok, refl}
use Rattle.std.specs.Prelude.{codes}
use Rattle.std.specs.Str.{bytes_eq}
use Rattle.core_views.specs.Text.{actor_name}
use Rattle.core_views.specs.Sizes.{sizes_of}
use Rattle.core_views.specs.Traces.{HasActor, IsCommandOf, IsHeader}
use Rattle.core_views.specs.declared.actor.Actor.{Actor}
use Rattle.core_views.specs.declared.actor.Actor.TheVariants.{Vcpu, Host, Manager, Worker}
use Rattle.core_views.specs.declared.trace.Command.{Command}
use Rattle.core_views.specs.declared.trace.Command.TheVariants.{Access, ChangeHost, ChangeRun, ClearLog, DeleteSlot, GetLog, SetLog, SetSlot, Split}
use Rattle.core_views.specs.declared.trace.HostChange.{HostChange}
use Rattle.core_views.specs.declared.trace.HostChange.TheVariants.{Allow, Evict, Move, Protect}
use Rattle.core_views.specs.declared.trace.RunChange.TheVariants.{Huge, Small}
use Rattle.core_views.specs.declared.trace.Header.{Header}
use Rattle.trace_reader.specs.Forms.{by_command, by_form}
use Rattle.trace_reader.specs.HostGrammar.{TellsChange}
use Rattle.trace_reader.specs.Grammar.{AreCommandWords, AreWords, IsActor, IsCommandForm, IsDeclared}
use Rattle.trace_reader.proofs.Accesses.{IsVcpu, access_form, access_plain, access_reads, add_judged, read_judged, write_judged}
use Rattle.trace_reader.proofs.ClearLines.{AreClearing, clear_judged, clear_line_form, clear_plain, clear_reads}
use Rattle.trace_reader.proofs.HostLines.{change_line_form, change_plain, change_reads, small_line_form, small_plain, small_reads}
use Rattle.trace_reader.proofs.HostRows.{Either, IsHostRow, by_host_judged}
use Rattle.trace_reader.proofs.HugeLines.{huge_line_form, huge_plain, huge_reads}
use Rattle.trace_reader.proofs.Items.{has_declared}
use Rattle.trace_reader.proofs.Judged.{AreTwo, IsOne, Judged, none, row}
use Rattle.trace_reader.proofs.LogLines.{get_judged, get_line_form, get_plain, get_reads, log_line_form, log_off_judged, log_on_judged, log_plain, log_reads}
use Rattle.trace_reader.proofs.Operands.{small_words}
use Rattle.trace_reader.proofs.Results.{other_word, parts_same}
use Rattle.trace_reader.proofs.SlotLines.{AreSetting, IsManager, slot_judged, slot_line_form, slot_plain, slot_reads}
use Rattle.trace_reader.proofs.SlotLines.{delete_line_form, delete_plain, delete_reads}
use Rattle.trace_reader.proofs.SplitLines.{IsWorker, split_judged, split_line_form, split_plain, split_reads}

-- Who makes the command of this word, and which words stand after it.
abbrev IsRow : List ℕ → Actor → List (List ℕ) → Type 0
IsRow command a rest =
    Either (bytes_eq command (codes "clear")) (IsManager a × AreClearing rest) (
    Either (bytes_eq command (codes "read")) (IsVcpu a × IsOne rest) (
    Either (bytes_eq command (codes "write")) (IsVcpu a × AreTwo rest) (
    Either (bytes_eq command (codes "add")) (IsVcpu a × AreTwo rest) (
    Either (bytes_eq command (codes "slot")) (IsManager a × AreSetting rest) (
    Either (bytes_eq command (codes "logon")) (IsManager a × IsOne rest) (
    Either (bytes_eq command (codes "logoff")) (IsManager a × IsOne rest) (
    Either (bytes_eq command (codes "get")) (IsManager a × IsOne rest) (
    Either (bytes_eq command (codes "split")) (IsWorker a × IsOne rest) (IsHostRow command a rest)))))))))

-- The words of a form are the actor's name, a command's word, and those of its row.
abbrev HasRow : List (List ℕ) → Actor → Type 0
HasRow words a = (command : List ℕ) × (rest : List (List ℕ)) × (words ≡ actor_name a ∷ command ∷ rest) × IsRow command a rest

change_has_row : (i : ℕ) (command p : List ℕ) (change : HostChange) → TellsChange command change → IsRow command (Host i) (p ∷ [])
change_has_row i command p Move tells = rw tells (tt, (p, refl))
change_has_row i command p Evict tells = rw tells (tt, (p, refl))
change_has_row i command p Protect tells = rw tells (tt, (p, refl))
change_has_row i command p Allow tells = rw tells (tt, (p, refl))

has_row : (words : List (List ℕ)) (a : Actor) → IsCommandForm words a → HasRow words a
has_row words (Vcpu i) (inl (x, e)) = (codes "read", x ∷ [], e, (tt, (x, refl)))
has_row words (Vcpu i) (inr (inl (x, y, e))) = (codes "write", x ∷ y ∷ [], e, (tt, (x, y, refl)))
has_row words (Vcpu i) (inr (inr (x, y, e))) = (codes "add", x ∷ y ∷ [], e, (tt, (x, y, refl)))
has_row words Manager (inl (i, b, p, k, read_only, e)) = (codes "slot", _, e, (tt, (i, b, p, k, read_only, refl)))
has_row words Manager (inr (inl (i, true, e))) = (codes "logon", i ∷ [], e, (tt, (i, refl)))
has_row words Manager (inr (inl (i, false, e))) = (codes "logoff", i ∷ [], e, (tt, (i, refl)))
has_row words Manager (inr (inr (inl (i, e)))) = (codes "get", i ∷ [], e, (tt, (i, refl)))
has_row words Manager (inr (inr (inr (i, f, c, ws, e, counted)))) = (codes "clear", i ∷ f ∷ c ∷ ws, e, (tt, (i, f, c, ws, refl, counted)))
has_row words (Host i) (inl (command, p, change, tells, e)) = (command, p ∷ [], e, change_has_row i command p change tells)
has_row words (Host i) (inr (inl (p, l, e))) = (codes "huge", p ∷ l ∷ [], e, (tt, (p, l, refl)))
has_row words (Host i) (inr (inr (p, e))) = (codes "small", p ∷ [], e, (tt, (p, refl)))
has_row words (Worker i) (x, e) = (codes "split", x ∷ [], e, (tt, (x, refl)))

-- The first word of an actor's line is its name.
pub command_first : (words : List (List ℕ)) (a : Actor) → IsCommandForm words a → (rest : List (List ℕ)) × (words ≡ actor_name a ∷ rest)
command_first words a form = let (command, rest, e, is) = has_row words a form in (command ∷ rest, e)

row_same : (command other : List ℕ) (rest more : List (List ℕ)) (a : Actor) → command ≡ other → rest ≡ more → IsRow other a more → IsRow command a rest
row_same command other rest more a same after is = rw (same, after) is

only : (who command : List ℕ) (rest : List (List ℕ)) (a : Actor) → IsCommandForm (who ∷ command ∷ rest) a → (who ≡ actor_name a) × IsRow command a rest
only who command rest a form =
    let (other, more, e, is) = has_row (who ∷ command ∷ rest) a form in
    let (name, same, after) = parts_same who command (actor_name a) other rest more e in
    (name, row_same command other rest more a same after is)

-- What words of an actor's line give is what they say, or why they say nothing.
by_command_judged : (h : Header) (who command : List ℕ) (rest : List (List ℕ)) → (command ≡ codes "clear" → ⊥)
    → Judged h (who ∷ command ∷ rest) (by_command h who command rest)
unfolding by_command
by_command_judged h who command rest clear =
    row (Judged h (who ∷ command ∷ rest)) command (codes "read") _ _ _ refl
    (λ is. rw is (read_judged h who rest (only who (codes "read") rest))) (λ read.
    row (Judged h (who ∷ command ∷ rest)) command (codes "write") _ _ _ refl
    (λ is. rw is (write_judged h who rest (only who (codes "write") rest))) (λ write.
    row (Judged h (who ∷ command ∷ rest)) command (codes "add") _ _ _ refl
    (λ is. rw is (add_judged h who rest (only who (codes "add") rest))) (λ add.
    row (Judged h (who ∷ command ∷ rest)) command (codes "slot") _ _ _ refl
    (λ is. rw is (slot_judged h who rest (only who (codes "slot") rest))) (λ slot.
    row (Judged h (who ∷ command ∷ rest)) command (codes "logon") _ _ _ refl
    (λ is. rw is (log_on_judged h who rest (only who (codes "logon") rest))) (λ logon.
    row (Judged h (who ∷ command ∷ rest)) command (codes "logoff") _ _ _ refl
    (λ is. rw is (log_off_judged h who rest (only who (codes "logoff") rest))) (λ logoff.
    row (Judged h (who ∷ command ∷ rest)) command (codes "get") _ _ _ refl
    (λ is. rw is (get_judged h who rest (only who (codes "get") rest))) (λ get.
    row (Judged h (who ∷ command ∷ rest)) command (codes "split") _ _ _ refl
    (λ is. rw is (split_judged h who rest (only who (codes "split") rest))) (λ splits.
    by_host_judged h who command rest (λ a form.
    let (name, is) = only who command rest a form in
    let host : IsHostRow command a rest = rw (
      other_word command (codes "clear") clear,
      other_word command (codes "read") read,
      other_word command (codes "write") write,
      other_word command (codes "add") add,
      other_word command (codes "slot") slot,
      other_word command (codes "logon") logon,
      other_word command (codes "logoff") logoff,
      other_word command (codes "get") get,
      other_word command (codes "split") splits,
    ) at is in (name, host))))))))))

pub by_form_judged : (h : Header) (words : List (List ℕ)) → Judged h words (by_form h words)
unfolding by_form
by_form_judged h [] = none h [] (λ a form. let (command, rest, e, is) = has_row [] a form in cc)
by_form_judged h (w ∷ []) = none h (w ∷ []) (λ a form. let (command, rest, e, is) = has_row (w ∷ []) a form in cc)
by_form_judged h (who ∷ command ∷ rest) =
    row (Judged h (who ∷ command ∷ rest)) command (codes "clear") _ _ _ refl
    (λ is. rw is (clear_judged h who rest (only who (codes "clear") rest)))
    (λ other. by_command_judged h who command rest other)

-- What the words of a form say is read.
pub reads : (h : Header) (words : List (List ℕ)) (a : Actor) (c : Command) → IsHeader h → IsCommandOf h a c
    → AreCommandWords words a c → by_form h words ≡ Ok (a, c)
reads h words (Vcpu i) (Access gfn word op) header range are = access_reads h words i gfn word op header.vcpus.1 (small_words h header) range are
reads h words Manager (SetSlot id s) header range are = slot_reads h words id s range are
reads h words Manager (DeleteSlot id) header range are = delete_reads h words id are
reads h words Manager (SetLog id on) header range are = log_reads h words id on are
reads h words Manager (GetLog id) header range are = get_reads h words id are
reads h words Manager (ClearLog id first count bits) header range are = clear_reads h words id first count bits range are
reads h words (Host i) (ChangeHost page change) header range are = change_reads h words i page change header.hosts.count range are
reads h words (Host i) (ChangeRun page (Huge level)) header range are = huge_reads h words i page level header.hosts.count range are
reads h words (Host i) (ChangeRun page Small) header range are = small_reads h words i page header.hosts.count range are
reads h words (Worker i) (Split gfn) header range are = split_reads h words i gfn header.workers range are
reads h words _ _ header range are = absurd are

-- Words that say a command are of a form of its actor.
pub command_form : (h : Header) (words : List (List ℕ)) (a : Actor) (c : Command) → IsCommandOf h a c → AreCommandWords words a c → IsCommandForm words a
command_form h words (Vcpu i) (Access gfn word op) range are = access_form words i gfn word op are
command_form h words Manager (SetSlot id s) range are = inl (slot_line_form words id s are)
command_form h words Manager (DeleteSlot id) range are = inl (delete_line_form words id are)
command_form h words Manager (SetLog id on) range are = inr (inl (log_line_form words id on are))
command_form h words Manager (GetLog id) range are = inr (inr (inl (get_line_form words id are)))
command_form h words Manager (ClearLog id first count bits) range are = inr (inr (inr (clear_line_form h words id first count bits range are)))
command_form h words (Host i) (ChangeHost page change) range are = inl (change_line_form words i page change are)
command_form h words (Host i) (ChangeRun page (Huge level)) range are = inr (inl (huge_line_form words i page level are))
command_form h words (Host i) (ChangeRun page Small) range are = inr (inr (small_line_form words i page are))
command_form h words (Worker i) (Split gfn) range are = split_line_form words i gfn are
command_form h words _ _ range are = absurd are

-- They are words.
pub command_words : (words : List (List ℕ)) (a : Actor) (c : Command) → IsActor a → AreCommandWords words a c → AreWords words
command_words words (Vcpu i) (Access gfn word op) le are = access_plain words i gfn word op le are
command_words words Manager (SetSlot id s) le are = slot_plain words id s are
command_words words Manager (DeleteSlot id) le are = delete_plain words id are
command_words words Manager (SetLog id on) le are = log_plain words id on are
command_words words Manager (GetLog id) le are = get_plain words id are
command_words words Manager (ClearLog id first count bits) le are = clear_plain words id first count bits are
command_words words (Host i) (ChangeHost page change) le are = change_plain words i page change le are
command_words words (Host i) (ChangeRun page (Huge level)) le are = huge_plain words i page level le are
command_words words (Host i) (ChangeRun page Small) le are = small_plain words i page le are
command_words words (Worker i) (Split gfn) le are = split_plain words i gfn le are
command_words words _ _ le are = absurd are

-- An actor that makes a command is declared.
commands : (h : Header) (a : Actor) (c : Command) → IsCommandOf h a c → HasActor (sizes_of h) a
commands h (Vcpu i) (Access gfn word op) range = range.0
commands h Manager (SetSlot id s) range = tt
commands h Manager (DeleteSlot id) range = tt
commands h Manager (SetLog id on) range = tt
commands h Manager (GetLog id) range = tt
commands h Manager (ClearLog id first count bits) range = tt
commands h (Host i) (ChangeHost page change) range = range
commands h (Host i) (ChangeRun page change) range = range.0
commands h (Worker i) (Split gfn) range = range.0
commands h _ _ range = absurd range

pub commanding : (h : Header) (a : Actor) (c : Command) → IsHeader h → IsCommandOf h a c → IsActor a × IsDeclared h a
commanding h a c header range = has_declared h a header (commands h a c range)
