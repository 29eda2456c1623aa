-- What is word_after_op at one word changes that word alone.
use Rattle.std.proofs.Common.{◌≡◌, ◌&&◌, ◌||◌, ◌==◌, ℕ, Bool, true, false, cond, arith, refl, sym, ap, ap₂, ◌∙◌, subst}
use Rattle.std.proofs.lemmas.Bool.Decides.{nat_tests}
use Rattle.std.specs.Prelude.{Option, Some, unwrap_or}
use Rattle.std.specs.Map.{lookup}
use Rattle.core_views.specs.declared.answer.Answer.TheVariants.{Reached}
use Rattle.core_views.specs.declared.trace.Op.{Op}
use Rattle.core_views.specs.declared.trace.Op.TheVariants.{Read, Write, Add}
use Rattle.core_views.specs.declared.host.HostEntry.{HostEntry}
use Rattle.core_views.specs.Events.{marked}
use Rattle.core_views.specs.Host.{brought_in, is_denied}
use Rattle.core_views.specs.Memory.{Memory, with_word, word_after_op}
use Rattle.core_views.specs.Slots.{is_write, page_behind}
use Rattle.core_views.specs.SlotSets.{flat_slots}
use Rattle.flat_model.specs.Dirty.{is_dirty, is_frame_logged}
use Rattle.flat_model.specs.Kept.{ContentWords, Kept, is_place, memory_of}
use Rattle.flat_model.specs.HostPages.{Maps, host_of}
use Rattle.flat_model.specs.Steps.{AccessesEntry, AccessesPage}

value_at : (b : Bool) (x : ℕ) (o : Option ℕ) → unwrap_or (cond b (Some x) o) 0 ≡ cond b x (unwrap_or o 0)
value_at true x o = refl
value_at false x o = refl

pub written : (page word x : ℕ) (before after : ContentWords)
    → ((q : ℕ × ℕ) → lookup (is_place q) after ≡ cond (is_place (page, word) q) (Some x) (lookup (is_place q) before))
    → (p w : ℕ) → memory_of after p w ≡ with_word page word x (memory_of before) p w
written page word x before after updates p w =
    ap (λ (o : Option ℕ). unwrap_or o 0) (updates (p, w)) ∙ value_at (is_place (page, word) (p, w)) x (lookup (is_place (p, w)) before)

same_place : (b : Bool) (memory : Memory) (page word p w : ℕ) → (b ≡ true → (page ≡ p) × (word ≡ w)) → memory p w ≡ cond b (memory page word) (memory p w)
same_place true memory page word p w is = let e = is refl in ap (λ (q : ℕ). memory q w) (sym e.0) ∙ ap (memory page) (sym e.1)
same_place false memory page word p w is = refl

both : (page word p w : ℕ) → ((page == p) && (word == w)) ≡ true → (page ≡ p) × (word ≡ w)
both page word p w e = (grind (arith, nat_tests, e), grind (arith, nat_tests, e))

-- A word that is word_after_op again as it is changes nothing.
kept : (memory : Memory) (page word p w : ℕ) → memory p w ≡ with_word page word (memory page word) memory p w
kept memory page word p w = same_place ((page == p) && (word == w)) memory page word p w (both page word p w)

-- An operation that doesn't write stores the word again as it is.
pub unwritten : (op : Op) (memory : Memory) (page word : ℕ) → is_write op ≡ false → (p w : ℕ)
    → memory p w ≡ with_word page word (word_after_op op (memory page word)) memory p w
unwritten Read memory page word e p w = kept memory page word p w
unwritten (Write x) memory page word e p w = absurd (cc e)
unwritten (Add x) memory page word e p w = absurd (cc e)

-- A write makes its frame dirty where its writes are logged, and other operations make none dirty.
pub marks : (writes logged here was : Bool) → writes ≡ true → ((logged && here) || was) ≡ (((logged && writes) && here) || was)
marks true true here was is = refl
marks true false here was is = refl
marks false logged here was is = absurd (cc is)

pub leaves : (writes logged here was : Bool) → writes ≡ false → was ≡ (((logged && writes) && here) || was)
leaves true logged here was is = absurd (cc is)
leaves false true here was is = refl
leaves false false here was is = refl

-- What an access to a page gives that the host allows, from what it read and what stands there after it.
pub reached : (gfn word : ℕ) (op : Op) (before after : Kept) (page value : ℕ) (entry : HostEntry)
    → Some page ≡ page_behind (flat_slots before.slots) gfn op → entry ≡ host_of before.changed page → is_denied op entry ≡ false
    → value ≡ memory_of before.words page word → after.slots ≡ before.slots → after.copies ≡ before.copies
    → Maps page (brought_in (host_of before.changed page)) before.changed after.changed
    → ((p w : ℕ) → memory_of after.words p w ≡ with_word page word (word_after_op op (memory_of before.words page word)) (memory_of before.words) p w)
    → ((other : ℕ) → is_dirty after.dirty other ≡ marked (is_frame_logged before.slots gfn) gfn op (is_dirty before.dirty) other)
    → AccessesPage gfn word op before after (Reached entry.frame value) (page_behind (flat_slots before.slots) gfn op)
reached gfn word op before after page value entry behind entry_is allows is same copies maps words dirty =
    subst (AccessesPage gfn word op before after (Reached entry.frame value)) behind
    (subst (λ (b : Bool). AccessesEntry gfn page word op before after (Reached entry.frame value) (host_of before.changed page) b)
    (sym allows ∙ ap (is_denied op) entry_is)
    (ap₂ Reached (ap (λ (e : HostEntry). e.frame) entry_is) is, same, copies, maps, words, dirty))
