-- The line `vm slot ID BASE PAGES HOST [ro]`: what it says is read, and only that, and why it is refused.
use Rattle.std.proofs.Common.{◌≡◌, ◌≤◌, ◌<◌, ◌^◌, ◌==◌, inl, inr, ◌⊎◌, ℕ, List, [], ◌∷◌, Bool, true, false, Ok, Err, refl, subst, sym, ap, ◌∙◌, arith, length}
use Rattle.std.specs.Prelude.{codes, if◌then◌else◌}
use Rattle.std.specs.Str.{bytes_eq}
use Rattle.std.proofs.lemmas.Bool.Decides.{nat_tests}
use Rattle.core_views.specs.Text.{actor_name}
use Rattle.core_views.specs.Traces.{IsSlotInRange}
use Rattle.core_views.specs.declared.actor.Actor.{Actor}
use Rattle.core_views.specs.declared.actor.Actor.TheVariants.{Vcpu, Host, Manager, Worker}
use Rattle.core_views.specs.declared.trace.Command.{Command}
use Rattle.core_views.specs.declared.trace.Command.TheVariants.{DeleteSlot, SetSlot}
use Rattle.core_views.specs.declared.trace.Slot.{Slot}
use Rattle.core_views.specs.declared.trace.Header.{Header}
use Rattle.trace_reader.specs.declared.reason.Reason.TheVariants as reason
use Rattle.trace_reader.specs.Operands.{number}
use Rattle.trace_reader.specs.Forms.{is_slot, slot, slot_command, setting, setting_form, slot_form, by_command, by_form}
use Rattle.trace_reader.specs.Grammar.{AreCommandWords, AreSlotPlaces, AreWords, IsCommandForm, IsSlotForm, Spells, ending, slot_words}
use Rattle.trace_reader.proofs.Judged.{IsPairSaid, Judged, Tells, judged, none, numbers, row}
use Rattle.trace_reader.proofs.Operands.{IsNumber, bound, fits, number_found, number_number, number_spelled}
use Rattle.trace_reader.proofs.PlainWords.{spelled_word, text_word}
use Rattle.trace_reader.proofs.Results.{branch, then_ok, word_is}

-- The words after `vm slot`: four, or five of which the last is `ro`.
abbrev pub AreSetting : List (List ℕ) → Type 0
AreSetting rest = (i b p k : List ℕ) × (read_only : Bool) × (rest ≡ i ∷ b ∷ p ∷ k ∷ ending read_only)

-- The actor is the manager.
abbrev pub IsManager : Actor → Type 0
IsManager Manager = Unit {0}
IsManager _ = ⊥

-- With this command's word only the manager has a form, which has these words after it.
abbrev Only : List ℕ → List (List ℕ) → Type 0
Only who rest = (a : Actor) → IsCommandForm (who ∷ codes "slot" ∷ rest) a → (who ≡ actor_name a) × (IsManager a × AreSetting rest)

slot_number : (x y z : List ℕ) (ro : Bool) → IsNumber (slot x y z ro)
unfolding slot
slot_number x y z ro =
    bound (number x) _ (number_number x) (λ b. bound (number y) _ (number_number y) (λ p. bound (number z) _ (number_number z) (λ k. fits (is_slot b p k) _)))

-- A slot line's words: its numbers are looked at.
setting_why : (h : Header) (words : List (List ℕ)) (i x y z : List ℕ) (ro : Bool) → IsCommandForm words Manager
    → Tells h words (setting i x y z ro)
unfolding setting
setting_why h words i x y z ro form =
    numbers h words Manager _ form tt tt
    (bound (number i) _ (number_number i) (λ n. bound (slot x y z ro) _ (slot_number x y z ro) (λ s. tt)))

-- No other count of words has this form, and the fifth word is `ro`.
counted : (rest : List (List ℕ)) → AreSetting rest → (length rest ≡ 4) ⊎ (length rest ≡ 5)
counted rest (i, b, p, k, true, e) = inr (rw e refl)
counted rest (i, b, p, k, false, e) = inl (rw e refl)

last_is : (i b p k last : List ℕ) → AreSetting (i ∷ b ∷ p ∷ k ∷ last ∷ []) → last ≡ codes "ro"
last_is i b p k last (j, c, q, l, true, e) = cc
last_is i b p k last (j, c, q, l, false, e) = absurd (let no : ⊥ = cc in no)

other_count : (h : Header) (rest : List (List ℕ)) → Only (codes "vm") rest → (length rest ≡ 4 → ⊥) → (length rest ≡ 5 → ⊥)
    → Tells h (codes "vm" ∷ codes "slot" ∷ rest) (Err reason.Word)
other_count h rest only four five =
    none h (codes "vm" ∷ codes "slot" ∷ rest) (λ a form. let (is, (manager, set)) = only a form in elim (counted rest set) [ inl n ↦ four n | inr n ↦ five n ])

setting_form_why : (h : Header) (rest : List (List ℕ)) → Only (codes "vm") rest
    → Tells h (codes "vm" ∷ codes "slot" ∷ rest) (setting_form rest)
setting_form_why h (i ∷ b ∷ p ∷ k ∷ []) only = setting_why h (codes "vm" ∷ codes "slot" ∷ i ∷ b ∷ p ∷ k ∷ []) i b p k false (inl (i, b, p, k, false, refl))
setting_form_why h (i ∷ b ∷ p ∷ k ∷ last ∷ []) only =
    row (Tells h (codes "vm" ∷ codes "slot" ∷ i ∷ b ∷ p ∷ k ∷ last ∷ [])) last (codes "ro") (bytes_eq last (codes "ro")) _ _ refl
    (λ is. setting_why h (codes "vm" ∷ codes "slot" ∷ i ∷ b ∷ p ∷ k ∷ last ∷ []) i b p k true (inl (i, b, p, k, true, rw is refl)))
    (λ other. none h (codes "vm" ∷ codes "slot" ∷ i ∷ b ∷ p ∷ k ∷ last ∷ [])
    (λ a form. let (is, (manager, set)) = only a form in other (last_is i b p k last set)))
setting_form_why h [] only = other_count h [] only (λ e. cc) (λ e. cc)
setting_form_why h (i ∷ []) only = other_count h (i ∷ []) only (λ e. cc) (λ e. cc)
setting_form_why h (i ∷ b ∷ []) only = other_count h (i ∷ b ∷ []) only (λ e. cc) (λ e. cc)
setting_form_why h (i ∷ b ∷ p ∷ []) only = other_count h (i ∷ b ∷ p ∷ []) only (λ e. cc) (λ e. cc)
setting_form_why h (i ∷ b ∷ p ∷ k ∷ l ∷ m ∷ more) only = other_count h (i ∷ b ∷ p ∷ k ∷ l ∷ m ∷ more) only (λ e. grind (arith, e)) (λ e. grind (arith, e))

pub named_vm : (who : List ℕ) (a : Actor) → who ≡ actor_name a → IsManager a → who ≡ codes "vm"
named_vm who (Vcpu i) e is = absurd is
named_vm who (Host i) e is = absurd is
named_vm who Manager e is = e
named_vm who (Worker i) e is = absurd is

slot_why : (h : Header) (who : List ℕ) (rest : List (List ℕ)) → Only who rest → Tells h (who ∷ codes "slot" ∷ rest) (slot_form who rest)
unfolding slot_form
slot_why h who rest only = row (Tells h (who ∷ codes "slot" ∷ rest)) who (codes "vm") (bytes_eq who (codes "vm")) _ _ refl
    (λ is. subst (λ w. Only w rest → Tells h (w ∷ codes "slot" ∷ rest) (setting_form rest)) (sym is) (setting_form_why h rest) only)
    (λ other. none h (who ∷ codes "slot" ∷ rest) (λ a form. let (is, (manager, set)) = only a form in other (named_vm who a is manager)))

-- What is read is said.
slot_in_range : (base pages host : ℕ) → is_slot base pages host ≡ true → (pages < 2 ^ 36) × AreSlotPlaces base host
slot_in_range base pages host is =
    (grind (arith, nat_tests, is), (grind (arith, nat_tests, is), grind (arith, nat_tests, is), grind (arith, nat_tests, is)))

-- The slot's numbers are spelled, and in the ranges of a slot line's: it may have no pages.
abbrev IsSlotSaid : List ℕ → List ℕ → List ℕ → Bool → Slot → Type 0
IsSlotSaid x y z ro s =
    (s.read_only ≡ ro) × Spells x s.base × Spells y s.pages × Spells z s.host × (s.pages < 2 ^ 36) × AreSlotPlaces s.base s.host

slot_found : (x y z : List ℕ) (ro : Bool) (s : Slot) → slot x y z ro ≡ Ok s → IsSlotSaid x y z ro s
unfolding slot
slot_found x y z ro s e =
    then_ok (number x) _ s e (λ b is_b e1.
    then_ok (number y) _ s e1 (λ p is_p e2.
    then_ok (number z) _ s e2 (λ k is_k e3.
    elim (branch (is_slot b p k) _ _ (Ok s) e3) [
      | inl q ↦ let same : record { base = b; pages = p; host = k; read_only = ro } ≡ s = cc in
          let range = slot_in_range b p k q.0 in
          subst (IsSlotSaid x y z ro) same (refl, number_found x b is_b, number_found y p is_p, number_found z k is_k, range.0, range.1)
      | inr q ↦ absurd (let no : ⊥ = cc in no)
    ])))

-- A slot with pages is set, and one with none is deleted.
command_found : (h : Header) (i x y z : List ℕ) (ro : Bool) (id : ℕ) (s : Slot) → Spells i id → IsSlotSaid x y z ro s
    → IsPairSaid h (slot_words i x y z ro) (Manager, slot_command id s)
command_found h i x y z ro id s n (flag, a, b, c, below, places) = by (s.pages == 0) refl
  where
    by : (none : Bool) → (s.pages == 0) ≡ none → IsPairSaid h (slot_words i x y z ro) (Manager, if none then DeleteSlot id else SetSlot id s)
    by true e =
        let zero : s.pages ≡ 0 = grind (arith, nat_tests) in
        (tt, (i, x, y, z, s.base, s.host, ro, refl, n, a, subst (Spells y) zero b, c, places))
    by false e =
        let some : 1 ≤ s.pages = grind (arith, nat_tests) in (
          record { some = some; pages = below; base = places.0; host = places.1; aligned = places.2 },
          (i, x, y, z, rw flag refl, n, a, b, c),
        )

setting_found : (h : Header) (i x y z : List ℕ) (ro : Bool) (p : Actor × Command) → setting i x y z ro ≡ Ok p → IsPairSaid h (slot_words i x y z ro) p
unfolding setting
setting_found h i x y z ro p e =
    then_ok (number i) _ p e (λ n is_n e1.
    then_ok (slot x y z ro) _ p e1 (λ s is_s e2.
    let same : ◌≡◌ {A = Actor × Command} (Manager, slot_command n s) p = cc in
    subst (IsPairSaid h (slot_words i x y z ro)) same (command_found h i x y z ro n s (number_found i n is_n) (slot_found x y z ro s is_s))))

setting_form_found : (h : Header) (rest : List (List ℕ)) (p : Actor × Command) → setting_form rest ≡ Ok p
    → IsPairSaid h (codes "vm" ∷ codes "slot" ∷ rest) p
setting_form_found h (i ∷ x ∷ y ∷ z ∷ []) p e = setting_found h i x y z false p e
setting_form_found h (i ∷ x ∷ y ∷ z ∷ last ∷ []) p e = elim (branch (bytes_eq last (codes "ro")) _ _ (Ok p) e) [
  | inl q ↦ rw (word_is last (codes "ro") q.0) (setting_found h i x y z true p q.1)
  | inr q ↦ absurd (let no : ⊥ = cc in no)
]
setting_form_found h [] p e = absurd (let no : ⊥ = cc in no)
setting_form_found h (i ∷ []) p e = absurd (let no : ⊥ = cc in no)
setting_form_found h (i ∷ x ∷ []) p e = absurd (let no : ⊥ = cc in no)
setting_form_found h (i ∷ x ∷ y ∷ []) p e = absurd (let no : ⊥ = cc in no)
setting_form_found h (i ∷ x ∷ y ∷ z ∷ l ∷ m ∷ more) p e = absurd (let no : ⊥ = cc in no)

slot_form_found : (h : Header) (who : List ℕ) (rest : List (List ℕ)) (p : Actor × Command) → slot_form who rest ≡ Ok p
    → IsPairSaid h (who ∷ codes "slot" ∷ rest) p
unfolding slot_form
slot_form_found h who rest p e = elim (branch (bytes_eq who (codes "vm")) _ _ (Ok p) e) [
  | inl q ↦ rw (word_is who (codes "vm") q.0) (setting_form_found h rest p q.1)
  | inr q ↦ absurd (let no : ⊥ = cc in no)
]

pub slot_judged : (h : Header) (who : List ℕ) (rest : List (List ℕ)) → Only who rest
    → Judged h (who ∷ codes "slot" ∷ rest) (slot_form who rest)
slot_judged h who rest only =
    judged h (who ∷ codes "slot" ∷ rest) (slot_form who rest) (slot_form_found h who rest) (slot_why h who rest only)

-- What its words say is read.
slot_fits : (base pages host : ℕ) → pages < 2 ^ 36 → AreSlotPlaces base host → is_slot base pages host ≡ true
slot_fits base pages host below (a, b, c) = grind (arith, nat_tests)

slot_spelled : (x y z : List ℕ) (s : Slot) → Spells x s.base → Spells y s.pages → Spells z s.host → s.pages < 2 ^ 36 → AreSlotPlaces s.base s.host
    → slot x y z s.read_only ≡ Ok s
unfolding slot
slot_spelled x y z s a b c below places =
    rw (number_spelled x s.base a, number_spelled y s.pages b, number_spelled z s.host c, slot_fits s.base s.pages s.host below places) refl

setting_spelled : (i x y z : List ℕ) (id : ℕ) (s : Slot) → Spells i id → Spells x s.base → Spells y s.pages → Spells z s.host → s.pages < 2 ^ 36
    → AreSlotPlaces s.base s.host → setting i x y z s.read_only ≡ Ok (Manager, slot_command id s)
unfolding setting
setting_spelled i x y z id s n a b c below places = rw (number_spelled i id n, slot_spelled x y z s a b c below places) refl

has_pages : (id : ℕ) (s : Slot) → 1 ≤ s.pages → slot_command id s ≡ SetSlot id s
has_pages id s le = let some : (s.pages == 0) ≡ false = grind (arith, nat_tests) in rw some refl

either_form : (h : Header) (ro : Bool) (i x y z : List ℕ)
    → by_form h (codes "vm" ∷ codes "slot" ∷ i ∷ x ∷ y ∷ z ∷ ending ro) ≡ setting i x y z ro
unfolding by_form by_command slot_form
either_form h true i x y z = refl
either_form h false i x y z = refl

pub slot_reads : (h : Header) (words : List (List ℕ)) (id : ℕ) (s : Slot) → IsSlotInRange s → AreCommandWords words Manager (SetSlot id s)
    → by_form h words ≡ Ok (Manager, SetSlot id s)
slot_reads h words id s range (i, x, y, z, e, n, a, b, c) =
    rw (e, either_form h s.read_only i x y z)
    (setting_spelled i x y z id s n a b c range.pages (range.base, range.host, range.aligned)
    ∙ ap (λ (v : Command). Ok (Manager, v)) (has_pages id s range.some))

pub delete_reads : (h : Header) (words : List (List ℕ)) (id : ℕ) → AreCommandWords words Manager (DeleteSlot id) → by_form h words ≡ Ok (Manager, DeleteSlot id)
delete_reads h words id (i, x, y, z, base, host, ro, e, n, a, b, c, places) =
    rw (e, either_form h ro i x y z)
    (setting_spelled i x y z id (record { base = base; pages = 0; host = host; read_only = ro }) n a b c (omega arith) places)

-- They are of its form, and words.
pub slot_line_form : (words : List (List ℕ)) (id : ℕ) (s : Slot) → AreCommandWords words Manager (SetSlot id s) → IsSlotForm words
slot_line_form words id s (i, x, y, z, is, n, a, b, c) = (i, x, y, z, s.read_only, is)

pub delete_line_form : (words : List (List ℕ)) (id : ℕ) → AreCommandWords words Manager (DeleteSlot id) → IsSlotForm words
delete_line_form words id (i, x, y, z, base, host, ro, is, n, a, b, c, places) = (i, x, y, z, ro, is)

last_word : (read_only : Bool) → AreWords (ending read_only)
last_word true = (text_word (codes "ro") (omega arith) refl, tt)
last_word false = tt

all_plain : (i x y z : List ℕ) (ro : Bool) (id base pages host : ℕ) → Spells i id → Spells x base → Spells y pages → Spells z host
    → AreWords (slot_words i x y z ro)
all_plain i x y z ro id base pages host n a b c = (
  text_word (codes "vm") (omega arith) refl,
  (
    text_word (codes "slot") (omega arith) refl,
    (spelled_word i id n, (spelled_word x base a, (spelled_word y pages b, (spelled_word z host c, last_word ro)))),
  ),
)

pub slot_plain : (words : List (List ℕ)) (id : ℕ) (s : Slot) → AreCommandWords words Manager (SetSlot id s) → AreWords words
slot_plain words id s (i, x, y, z, is, n, a, b, c) = rw is (all_plain i x y z s.read_only id s.base s.pages s.host n a b c)

pub delete_plain : (words : List (List ℕ)) (id : ℕ) → AreCommandWords words Manager (DeleteSlot id) → AreWords words
delete_plain words id (i, x, y, z, base, host, ro, is, n, a, b, c, places) = rw is (all_plain i x y z ro id base 0 host n a b c)
