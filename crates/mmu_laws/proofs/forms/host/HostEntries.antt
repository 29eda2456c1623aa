-- What a change of a host page makes of its entry, and whether an entry that was seen agrees with the one that is.
use Rattle.std.proofs.Common.{◌≡◌, ◌<◌, ℕ, inl, inr, refl, sym, ap, subst, ◌∙◌}
use Rattle.std.specs.Prelude.{true, false}
use Rattle.core_views.specs.declared.answer.Answer.TheVariants.{Done, Moved}
use Rattle.core_views.specs.declared.host.HostEntry.{HostEntry}
use Rattle.core_views.specs.declared.sizes.Sizes.{Sizes}
use Rattle.core_views.specs.declared.trace.Command.TheVariants.{ChangeHost}
use Rattle.core_views.specs.declared.trace.HostChange.{HostChange}
use Rattle.core_views.specs.declared.trace.HostChange.TheVariants.{Allow, Evict, Move, Protect}
use Rattle.core_views.specs.Host.{HostMap}
use Rattle.core_views.specs.HostChanges.{Agree, Changes, host_answer, is_taken}
use Rattle.spte_words.specs.HostWords.{host_allows_write, host_frame, host_present, with_frame}
use Rattle.mmu_core.specs.invariant.HostWordsPart.{IsStill}
use Rattle.mmu_core.specs.forms.host.HostKnows.{is_move}
use Rattle.mmu_core.specs.forms.host.HostSteps.{entry_of, revised}
use Rattle.mmu_core.proofs.words.HostStays.{same_frame}
use Rattle.mmu_laws.proofs.steps.AllowedWords.{words_tell}

-- A page is moved to a frame of the machine that no page names.
moves_to : (z : Sizes) (host : HostMap) (page frame : ℕ) (entry : HostEntry) → entry ≡ record (host page) { frame = frame } → frame < z.frames
    → is_taken z.pages host frame ≡ false → Changes z host page Move entry
moves_to z host page frame entry is low free =
    let same : entry.frame ≡ frame = ap (λ (e : HostEntry). e.frame) is in
    (is ∙ ap (λ (f : ℕ). record (host page) { frame = f }) (sym same), subst (λ (f : ℕ). f < z.frames) (sym same) low, ap (is_taken z.pages host) same ∙ free)

-- A change revises what the host maps the page to; a move puts it at the frame that is owned.
pub revised_entry : (change : HostChange) (frame word : ℕ) (z : Sizes) (host : HostMap) (page : ℕ) → host page ≡ entry_of word
    → (is_move change ≡ true → (frame < z.frames) × (is_taken z.pages host frame ≡ false)) → Changes z host page change (entry_of (revised change frame word))
revised_entry Evict frame word z host page at free =
    (words_tell false frame word).presence ∙ ap (λ (e : HostEntry). record e { present = false }) (sym at)
revised_entry Protect frame word z host page at free = (words_tell false frame word).writes ∙ ap (λ (e : HostEntry). record e { writable = false }) (sym at)
revised_entry Allow frame word z host page at free = (words_tell true frame word).writes ∙ ap (λ (e : HostEntry). record e { writable = true }) (sym at)
revised_entry Move frame word z host page at free =
    let there = free refl in
    moves_to z host page frame (entry_of (with_frame frame word))
    ((words_tell true frame word).frames ∙ ap (λ (e : HostEntry). record e { frame = frame }) (sym at)) there.0 there.1

-- It keeps its frame, but where it is moved.
pub revised_frame : (change : HostChange) (frame word : ℕ) → is_move change ≡ false → host_frame (revised change frame word) ≡ host_frame word
revised_frame Evict frame word other = same_frame word false (host_allows_write word)
revised_frame Protect frame word other = same_frame word (host_present word) false
revised_frame Allow frame word other = same_frame word (host_present word) true
revised_frame Move frame word other = absurd (cc other)

pub moved_to : (change : HostChange) (frame word : ℕ) → is_move change ≡ true → host_frame (revised change frame word) ≡ frame
moved_to Move frame word moves = ap (λ (e : HostEntry). e.frame) (words_tell true frame word).frames
moved_to _ frame word moves = absurd (cc moves)

-- A line that moves its page is answered with the frame, and each other one done.
pub answers_done : (change : HostChange) (page : ℕ) (entry : HostEntry) → is_move change ≡ false → host_answer (ChangeHost page change) entry ≡ Done
answers_done Move page entry other = absurd (cc other)
answers_done _ page entry other = refl

pub answers_moved : (change : HostChange) (page : ℕ) (entry : HostEntry) → is_move change ≡ true
    → host_answer (ChangeHost page change) entry ≡ Moved entry.frame
answers_moved Move page entry moves = refl
answers_moved _ page entry moves = absurd (cc moves)

-- What was seen agrees with what is, where the two are the same.
pub same_agree : (seen now_ : HostEntry) → seen ≡ now_ → Agree seen now_
same_agree seen now_ is = (
  ap (λ (e : HostEntry). e.frame) is,
  ap (λ (e : HostEntry). e.writable) is,
  ap (λ (e : HostEntry). e.level) is,
  λ there. sym (ap (λ (e : HostEntry). e.present) is) ∙ there,
)

-- And where the page was brought in since.
pub still_agree : (seen : HostEntry) (word now_ : ℕ) → Agree seen (entry_of word) → IsStill word now_ → Agree seen (entry_of now_)
still_agree seen word now_ A (inl same) = subst (λ w. Agree seen (entry_of w)) same A
still_agree seen word now_ A (inr brought) =
    subst (Agree seen) (sym (ap entry_of brought.1 ∙ (words_tell true 0 word).presence)) (A.0, A.1, A.2, λ there. refl)
