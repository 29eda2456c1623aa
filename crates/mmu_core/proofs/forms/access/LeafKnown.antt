-- What a fault knows after it has put a leaf, or allowed writes in one, and after it has marked the page.
use Rattle.std.proofs.Common.{◌≡◌, ◌≢◌, inl, ◌-◌, ◌%◌, ℕ, refl, sym, subst, ap, ◌∙◌, arith}
use Rattle.std.specs.Prelude.{Bool, true, false, ◌==◌, ◌&&◌, ◌||◌, not, if◌then◌else◌, Option, None}
use Rattle.std.proofs.lemmas.Bool.Decides.{nat_tests}
use Rattle.core_views.specs.declared.place.FaultPlace.TheVariants.{End, Unshare}
use Rattle.core_views.specs.declared.place.Cause.TheVariants.{Entry}
use Rattle.core_views.specs.declared.sizes.Sizes.{Sizes}
use Rattle.core_views.specs.declared.topics.HostLook.{HostLook}
use Rattle.core_views.specs.declared.topics.Topics.{Topics}
use Rattle.core_views.specs.declared.trace.Slot.{Slot}
use Rattle.spte_words.specs.Entries.{can_write, level_span, with_write, without_write}
use Rattle.spte_words.specs.HostWords.{host_allows_write, host_frame}
use Rattle.spte_words.proofs.FixedEntries.{fixed_back, fixed_can_write, fixed_kind}
use Rattle.spte_words.proofs.ReadsEntries.{leaf_can_write}
use Rattle.mmu_core.specs.forms.access.FaultKnows.{Entering, FastFound, FaultKnows, IsFixed, Marks}
use Rattle.mmu_core.specs.forms.access.FaultSteps.{allows_access, entry_word, exchange_lost, over_next, put_next}
use Rattle.part_steps.specs.PartHoldings.{LookedUp, MapsRun, MayFix, SawEntry, is_fixable, one_mark_tells}
use Rattle.part_steps.specs.PartTasks.{entry_index, leaf_fixed, leaf_written, puts_write, word_looked}
use Rattle.part_steps.specs.PartTopics.{exchanged}
use Rattle.part_steps.specs.SlotWords.{leaf_at, leaf_of, may_write}
use Rattle.mmu_core.proofs.pages.NewLeaves.{leaf_is}
use Rattle.mmu_core.proofs.forms.access.FaultSame.{both, is_not, same_entry, same_found, same_inside, whole_anew}
use Rattle.mmu_core.proofs.forms.access.WalkKnown.{saw_it}
use Rattle.mmu_core.proofs.forms.access.LeafPut.{IsPut, has_entry, logged_lowest, put_at, put_is}

-- ---- the leaf of a fault

pub allowed_leaf : (level first : ℕ) (write puts : Bool) (slot : Slot) (word : ℕ) → (write ≡ true → puts ≡ true)
    → (write ≡ true → (slot.read_only ≡ false) × (host_allows_write word ≡ true)) → allows_access write (leaf_at level first puts slot word) ≡ true
allowed_leaf level first false puts slot word asks may = refl
allowed_leaf level first true puts slot word asks may =
    let M = may refl in
    leaf_can_write level first (puts && may_write slot word) (host_allows_write word) (may_write slot word)
    ∙ ap (λ (b : Bool). b && may_write slot word) (asks refl)
    ∙ ap (λ (b : Bool). b && not slot.read_only) M.1 ∙ ap (λ (b : Bool). not b) M.0

asked_puts : (write : Bool) (t : Topics) → write ≡ true → puts_write write t ≡ true
asked_puts true t is = refl
asked_puts false t is = absurd (cc is)

-- In a slot with a dirty log a leaf allows writes where one is asked for.
leaf_marks : (level first : ℕ) (writes logged : Bool) (slot : Slot) (word : ℕ) → (writes ≡ true → may_write slot word ≡ true)
    → (logged && can_write (leaf_at level first (writes || not logged) slot word)) ≡ (writes && logged)
leaf_marks level first true true slot word may =
    leaf_can_write level first (may_write slot word) (host_allows_write word) (may_write slot word) ∙ may refl
leaf_marks level first true false slot word may = refl
leaf_marks level first false true slot word may = leaf_can_write level first false (host_allows_write word) (may_write slot word)
leaf_marks level first false false slot word may = refl

pub leaf_put : (gfn : ℕ) (write : Bool) (t : Topics) → Entering gfn write t → SawEntry gfn t.walk → MapsRun gfn t
    → IsPut gfn write t (leaf_written gfn write t)
leaf_put gfn write t E S maps = record {
  over = S.over;
  low = logged_lowest gfn t maps S.over.there;
  leaf = leaf_is gfn write t S.over.there maps.most;
  allows =
      ap (λ (x : Option HostLook). allows_access write (leaf_of t.walk.level gfn (puts_write write t) t.search.slot (word_looked x))) L.host
      ∙ allowed_leaf t.walk.level (host_frame L.word - gfn % level_span t.walk.level) write (puts_write write t) t.search.slot L.word (asked_puts write t)
      E.sharing.looked.allowed;
  owes_none = E.sharing.owes_none;
}
  where
    L : LookedUp gfn t
    L = E.sharing.looked.looked_up

pub puts_marks : (gfn : ℕ) (write : Bool) (t : Topics) → Entering gfn write t
    → (t.search.logged && can_write (leaf_written gfn write t)) ≡ (write && t.search.logged)
puts_marks gfn write t E =
    leaf_marks t.walk.level (host_frame (word_looked t.host) - gfn % level_span t.walk.level) write t.search.logged t.search.slot (word_looked t.host) may
  where
    may : write ≡ true → may_write t.search.slot (word_looked t.host) ≡ true
    may w =
        let L = E.sharing.looked.looked_up in
        let M = E.sharing.looked.allowed w in
        ap (λ (x : Option HostLook). may_write t.search.slot (word_looked x)) L.host
        ∙ ap (λ (b : Bool). b && not t.search.slot.read_only) M.1 ∙ ap (λ (b : Bool). not b) M.0

-- Where a mark is owed the slot has a dirty log, so the leaf is of the lowest level.
leaf_ends : (marks : Bool) (z : Sizes) (gfn new_ v : ℕ) (write : Bool) (t : Topics) → (marks ≡ true → t.search.logged ≡ true) → Entering gfn write t
    → t.owned ≡ None → IsPut gfn write t new_ → FaultKnows (put_next false marks) z gfn write (put_at gfn new_ v marks t)
leaf_ends true z gfn new_ v write t logged E none P = record {
  section = E.sharing.section;
  owns_none = none;
  held = E.sharing.shares;
  owes = refl;
  found = same_found gfn t _ refl E.sharing.looked.looked_up.found;
  entry = has_entry gfn new_ v write true t P;
  lowest = P.low (logged refl);
  logged = logged refl;
  fixed = λ e. absurd (cc e);
}
leaf_ends false z gfn new_ v write t logged E none P = (
  record { section = E.sharing.section; owns_none = none; owes_none = refl },
  E.sharing.shares,
  has_entry gfn new_ v write false t P,
)

pub leaf_known : (b writes : Bool) (z : Sizes) (gfn : ℕ) (write : Bool) (t : Topics) (v : ℕ) → (v == t.walk.entry) ≡ b → Entering gfn write t → t.owned ≡ None
    → SawEntry gfn t.walk → MapsRun gfn t → writes ≡ write
    → FaultKnows (if b then put_next false (writes && t.search.logged) else Unshare (exchange_lost false z gfn t.walk v)) z gfn write
    (exchanged b (entry_index gfn t.walk.level) (leaf_written gfn writes t) t v)
leaf_known true writes z gfn write t v is E none S maps same = subst
    (λ (w : Bool). FaultKnows (put_next false (w && t.search.logged)) z gfn write (exchanged true (entry_index gfn t.walk.level) (leaf_written gfn w t) t v))
    (sym same)
    (subst (λ (u : Topics). FaultKnows (put_next false (write && t.search.logged)) z gfn write u)
    (sym (put_is gfn (leaf_written gfn write t) v write (write && t.search.logged) t P (puts_marks gfn write t E)))
    (leaf_ends (write && t.search.logged) z gfn (leaf_written gfn write t) v write t (λ is. (both write t.search.logged is).1) E none P))
  where
    P : IsPut gfn write t (leaf_written gfn write t)
    P = leaf_put gfn write t E S maps
leaf_known false writes z gfn write t v is E none S maps same = (
  record { section = E.sharing.section; owns_none = none; owes_none = E.sharing.owes_none },
  E.sharing.shares,
  whole_anew (Entry (entry_word z gfn t.walk) t.walk.entry v) z gfn _
      (inl (record { saw = saw_it gfn v t.walk S.over; is_entry = refl; holds = refl; why = inl (grind (arith, nat_tests)) })),
)

-- ---- writes allowed by a fast fault

-- Where the slot has a dirty log, a leaf of which one mark tells all is of the lowest level.
pub logged_told : (level : ℕ) (logged : Bool) → one_mark_tells level logged ≡ true → logged ≡ true → level ≡ 1
logged_told level true told is = grind (arith, nat_tests)
logged_told level false told is = absurd (cc is)

pub fix_put : (gfn : ℕ) (write : Bool) (t : Topics) → MayFix gfn t → IsPut gfn write t (leaf_fixed t)
fix_put gfn write t M = record {
  over = M.saw.over;
  low = logged_told t.walk.level t.search.logged M.told;
  leaf = fixed_kind t.walk.level t.walk.entry M.leaf denies;
  allows = ap (λ (b : Bool). not write || b) writes ∙ either write;
  owes_none = M.owes_none;
}
  where
    denies : can_write t.walk.entry ≡ false
    denies = is_not (can_write t.walk.entry) (both (not (can_write t.walk.entry)) _ M.fixable).0

    writes : can_write (leaf_fixed t) ≡ true
    writes = fixed_can_write t.walk.entry denies

    either : (b : Bool) → (not b || true) ≡ true
    either true = refl
    either false = refl

pub fix_marks : (gfn : ℕ) (t : Topics) → MayFix gfn t → (t.search.logged && can_write (leaf_fixed t)) ≡ t.search.logged
fix_marks gfn t M =
    ap (λ (b : Bool). t.search.logged && b)
    (fixed_can_write t.walk.entry (is_not (can_write t.walk.entry) (both (not (can_write t.walk.entry)) _ M.fixable).0))
    ∙ and_true t.search.logged
  where
    and_true : (b : Bool) → (b && true) ≡ b
    and_true true = refl
    and_true false = refl

fix_is : (gfn : ℕ) (t : Topics) → MayFix gfn t → IsFixed (leaf_fixed t)
fix_is gfn t M = record { fixable = ap is_fixable back ∙ M.fixable; set = ap with_write back }
  where
    back : without_write (leaf_fixed t) ≡ t.walk.entry
    back = fixed_back t.walk.entry (is_not (can_write t.walk.entry) (both (not (can_write t.walk.entry)) _ M.fixable).0)

fix_ends : (marks : Bool) (z : Sizes) (gfn v : ℕ) (write : Bool) (t : Topics) → t.search.logged ≡ marks → FastFound gfn t → MayFix gfn t
    → IsPut gfn write t (leaf_fixed t) → FaultKnows (put_next true marks) z gfn write (put_at gfn (leaf_fixed t) v marks t)
fix_ends true z gfn v write t logged F M P = record {
  section = F.inside.section;
  owns_none = F.inside.owns_none;
  held = F.loose;
  owes = refl;
  found = same_found gfn t _ refl F.found;
  entry = has_entry gfn (leaf_fixed t) v write true t P;
  lowest = logged_told t.walk.level t.search.logged M.told logged;
  logged = logged;
  fixed = λ e. fix_is gfn t M;
}
fix_ends false z gfn v write t logged F M P = (
  record { section = F.inside.section; owns_none = F.inside.owns_none; owes_none = refl },
  F.loose,
  record {
    found = same_found gfn t _ refl F.found;
    entry = has_entry gfn (leaf_fixed t) v write false t P;
    fixed = fix_is gfn t M;
    told = M.told;
    marks = sym logged;
  },
)

pub fix_known : (b : Bool) (z : Sizes) (gfn : ℕ) (write : Bool) (t : Topics) (v : ℕ) → (v == t.walk.entry) ≡ b → FastFound gfn t → MayFix gfn t
    → FaultKnows (if b then put_next true t.search.logged else End (exchange_lost true z gfn t.walk v)) z gfn write
    (exchanged b (entry_index gfn t.walk.level) (leaf_fixed t) t v)
fix_known true z gfn write t v is F M =
    subst (λ (u : Topics). FaultKnows (put_next true t.search.logged) z gfn write u)
    (sym (put_is gfn (leaf_fixed t) v write t.search.logged t P (fix_marks gfn t M)))
    (fix_ends t.search.logged z gfn v write t refl F M P)
  where
    P : IsPut gfn write t (leaf_fixed t)
    P = fix_put gfn write t M
fix_known false z gfn write t v is F M = (
  same_inside t _ refl refl refl F.inside,
  F.loose,
  record {
    has = inl (record { saw = saw_it gfn v t.walk M.saw.over; is_entry = refl; holds = refl; why = inl differs });
    lost =
        λ e.
        record {
          saw = saw_it gfn v t.walk M.saw.over;
          told = M.told;
          is_entry = refl;
          holds = refl;
          leaf = M.leaf;
          fixable = M.fixable;
          differs = differs;
        };
  },
)
  where
    differs : t.walk.entry ≢ v
    differs = grind (arith, nat_tests)

-- ---- the mark

pub mark_known : (fast : Bool) (z : Sizes) (gfn : ℕ) (write : Bool) (t : Topics) → Marks fast gfn write t
    → FaultKnows (over_next fast true) z gfn write (record t { owed = None })
mark_known true z gfn write t K = (
  record { section = K.section; owns_none = K.owns_none; owes_none = refl },
  K.held,
  record {
    found = same_found gfn t _ refl K.found;
    entry = same_entry gfn write t _ refl K.entry;
    fixed = K.fixed refl;
    told = ap (λ l. one_mark_tells l t.search.logged) K.lowest;
    marks = sym K.logged;
  },
)
mark_known false z gfn write t K =
    (record { section = K.section; owns_none = K.owns_none; owes_none = refl }, K.held, same_entry gfn write t _ refl K.entry)
