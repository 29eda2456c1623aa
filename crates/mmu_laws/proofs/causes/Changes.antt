-- What an actor found in a word, and that another actor changed it since, a step longer.
use Rattle.std.proofs.Common.{◌≡◌, ◌≢◌, ◌⊎◌, inl, inr, ◌<◌, ℕ, zero, suc, List, [], ◌∷◌, ◌++◌, length, refl, sym, subst, ap, ◌∙◌, append_assoc, arith}
use Rattle.std.specs.Prelude.{All, slice_index}
use Rattle.std.proofs.lemmas.List.{append-nil, get_or-set_other, get_or-set_same}
use Rattle.std.proofs.lemmas.List.Elements.{All-append}
use Rattle.core_views.specs.declared.kind.Kind.{Kind}
use Rattle.core_views.specs.declared.sizes.Sizes.{Sizes}
use Rattle.core_views.specs.Held.{Held}
use Rattle.core_views.specs.Kinds.{after}
use Rattle.mmu_laws.specs.causes.Causes.{Finds, HasMade, Leaves, OtherChanges, SawChange, StaysInSection, WasChanged}
use Rattle.mmu_core.specs.machine.Enabled.{mmu}
use Rattle.mmu_core.specs.invariant.Laws.{IsSound}
use Rattle.mmu_core.specs.machine.Machine.{Legal, May, Step, World, effect, found, run}
use Rattle.mmu_core.proofs.machine.Columns.{same_or}
use Rattle.mmu_core.proofs.machine.LineRuns.{run_one_more}
use Rattle.mmu_core.proofs.machine.Worlds.{good_step}

-- the word of a step after it, and each other word
pub word_left : (u : World Held) (s : Step Kind) → s.kind.word < length u.words
    → slice_index (effect mmu u s).words s.kind.word ≡ after s.kind (found mmu u s.kind)
unfolding effect
word_left u s inside = get_or-set_same u.words s.kind.word (after s.kind (slice_index u.words s.kind.word)) 0 inside

pub word_stays : (u : World Held) (s : Step Kind) (word : ℕ) → word ≢ s.kind.word → slice_index (effect mmu u s).words word ≡ slice_index u.words word
unfolding effect
word_stays u s word apart = get_or-set_other u.words s.kind.word word (after s.kind (slice_index u.words s.kind.word)) 0 apart

-- Steps after some, and one step more.
behind : (ss earlier later : List (Step Kind)) (first s : Step Kind) → ss ≡ earlier ++ first ∷ later → ss ++ s ∷ [] ≡ earlier ++ first ∷ (later ++ s ∷ [])
behind ss earlier later first s are = ap (λ (l : List (Step Kind)). l ++ s ∷ []) are ∙ append_assoc earlier (first ∷ later) (s ∷ [])

module _ (IsSo : Step Kind → Type 0) where
  none_so : All IsSo []
  none_so k d lt = absurd (omega (arith, lt))

  one_so : (s : Step Kind) → IsSo s → All IsSo (s ∷ [])
  one_so s so zero d lt = so
  one_so s so (suc k) d lt = absurd (omega (arith, lt))

  more_so : (ss : List (Step Kind)) (s : Step Kind) → All IsSo ss → IsSo s → All IsSo (ss ++ s ∷ [])
  more_so ss s all so = All-append IsSo ss (s ∷ []) all (one_so s so)

module _ (IsSuch : World Held → Step Kind → Type 0) (IsSo : Step Kind → Type 0) (w : World Held) where
  pub made_longer : (ss : List (Step Kind)) (s : Step Kind) → IsSo s → HasMade IsSuch IsSo w ss → HasMade IsSuch IsSo w (ss ++ s ∷ [])
  made_longer ss s so M = record {
    earlier = M.earlier;
    made = M.made;
    later = M.later ++ s ∷ [];
    are = behind ss M.earlier M.later M.made s M.are;
    is = M.is;
    since = more_so IsSo M.later s M.since so;
  }

  pub made_now : (ss : List (Step Kind)) (s : Step Kind) → IsSuch (run mmu w ss) s → HasMade IsSuch IsSo w (ss ++ s ∷ [])
  made_now ss s is = record { earlier = ss; made = s; later = []; are = refl; is = is; since = none_so IsSo }

module _ (IsSo : Step Kind → Type 0) (actor word number : ℕ) (w : World Held) where
  pub changed_longer : (ss : List (Step Kind)) (s : Step Kind) → IsSo s → WasChanged IsSo actor word number w ss
      → WasChanged IsSo actor word number w (ss ++ s ∷ [])
  changed_longer ss s so C = record {
    earlier = C.earlier;
    reads = C.reads;
    between = C.between;
    changes = C.changes;
    later = C.later ++ s ∷ [];
    are =
        behind ss C.earlier (C.between ++ C.changes ∷ C.later) C.reads s C.are
        ∙ ap (λ (l : List (Step Kind)). C.earlier ++ C.reads ∷ l) (append_assoc C.between (C.changes ∷ C.later) (s ∷ []));
    leaves = C.leaves;
    changed = C.changed;
    since = subst (All IsSo) (append_assoc C.between (C.changes ∷ C.later) (s ∷ [])) (more_so IsSo (C.between ++ C.changes ∷ C.later) s C.since so);
  }

  -- The actor left this number in this word, and each step since is so; and the number stands there still, or the word was changed since
  -- by another actor's step.
  pub record Knows (ss : List (Step Kind)) (u : World Held) : Type 0 where
    pub left : HasMade (Leaves actor word number) IsSo w ss
    pub now : (slice_index u.words word ≡ number) ⊎ WasChanged IsSo actor word number w ss

  changed_now : (ss : List (Step Kind)) (s : Step Kind) → IsSo s → HasMade (Leaves actor word number) IsSo w ss
      → OtherChanges actor word (run mmu w ss) s → WasChanged IsSo actor word number w (ss ++ s ∷ [])
  changed_now ss s so F changes = record {
    earlier = F.earlier;
    reads = F.made;
    between = F.later;
    changes = s;
    later = [];
    are = behind ss F.earlier F.later F.made s F.are;
    leaves = F.is;
    changed = subst (λ (l : List (Step Kind)). OtherChanges actor word (run mmu w l) s) F.are changes;
    since = more_so IsSo F.later s F.since so;
  }

  -- What an actor knows of a word it knows after each step but an own one that changes the word.
  pub knows_longer : (ss : List (Step Kind)) (s : Step Kind) → May mmu (run mmu w ss) s → IsSo s
      → (s.actor ≡ actor → s.kind.word ≡ word → after s.kind (found mmu (run mmu w ss) s.kind) ≡ found mmu (run mmu w ss) s.kind)
      → Knows ss (run mmu w ss) → Knows (ss ++ s ∷ []) (effect mmu (run mmu w ss) s)
  knows_longer ss s may so own K = record {
    left = made_longer (Leaves actor word number) IsSo w ss s so K.left;
    now = by K.now (same_or word s.kind.word) (same_or (after s.kind (found mmu u s.kind)) (found mmu u s.kind)) (same_or s.actor actor);
  }
    where
      u : World Held
      u = run mmu w ss

      still : slice_index u.words word ≡ number → word ≡ s.kind.word → after s.kind (found mmu u s.kind) ≡ found mmu u s.kind
          → slice_index (effect mmu u s).words word ≡ number
      still stands at same = ap (slice_index (effect mmu u s).words) at ∙ word_left u s may.inside ∙ same ∙ ap (slice_index u.words) (sym at) ∙ stands

      by : (slice_index u.words word ≡ number) ⊎ WasChanged IsSo actor word number w ss → (word ≡ s.kind.word) ⊎ (word ≢ s.kind.word)
          → (after s.kind (found mmu u s.kind) ≡ found mmu u s.kind) ⊎ (after s.kind (found mmu u s.kind) ≢ found mmu u s.kind)
          → (s.actor ≡ actor) ⊎ (s.actor ≢ actor)
          → (slice_index (effect mmu u s).words word ≡ number) ⊎ WasChanged IsSo actor word number w (ss ++ s ∷ [])
      by (inr changed) _ _ _ = inr (changed_longer ss s so changed)
      by (inl stands) (inr apart) _ _ = inl (word_stays u s word apart ∙ stands)
      by (inl stands) (inl at) (inl same) _ = inl (still stands at same)
      by (inl stands) (inl at) (inr changes) (inl mine) = absurd (changes (own mine (sym at)))
      by (inl stands) (inl at) (inr changes) (inr other) = inr (changed_now ss s so K.left (record { by_other = other; on = sym at; changes = changes }))

  -- It knows what its own step leaves.
  pub knows_now : (ss : List (Step Kind)) (s : Step Kind) → May mmu (run mmu w ss) s → Leaves actor word number (run mmu w ss) s
      → Knows (ss ++ s ∷ []) (effect mmu (run mmu w ss) s)
  knows_now ss s may L = record {
    left = made_now (Leaves actor word number) IsSo w ss s L;
    now = inl (ap (slice_index (effect mmu (run mmu w ss) s).words) (sym L.on) ∙ word_left (run mmu w ss) s may.inside ∙ L.leaves);
  }

  -- Where another number stands now, another actor's step changed the word.
  pub was_changed : (ss : List (Step Kind)) (u : World Held) → Knows ss u → slice_index u.words word ≢ number → WasChanged IsSo actor word number w ss
  was_changed ss u K other = by K.now
    where
      by : (slice_index u.words word ≡ number) ⊎ WasChanged IsSo actor word number w ss → WasChanged IsSo actor word number w ss
      by (inl stands) = absurd (other stands)
      by (inr changed) = changed

module _ (actor word read seen : ℕ) (w : World Held) where
  pub saw_now : (ss : List (Step Kind)) (s : Step Kind) → StaysInSection actor s → WasChanged (StaysInSection actor) actor word read w ss
      → Finds actor word seen (run mmu w ss) s → seen ≢ read → SawChange actor word read seen w (ss ++ s ∷ [])
  saw_now ss s stays changed finds differs = record {
    before = ss;
    sees = s;
    later = [];
    are = refl;
    changed = changed;
    finds = finds;
    since = one_so (StaysInSection actor) s stays;
    differs = differs;
  }

  pub saw_longer : (ss : List (Step Kind)) (s : Step Kind) → StaysInSection actor s → SawChange actor word read seen w ss
      → SawChange actor word read seen w (ss ++ s ∷ [])
  saw_longer ss s stays S = record {
    before = S.before;
    sees = S.sees;
    later = S.later ++ s ∷ [];
    are = behind ss S.before S.later S.sees s S.are;
    changed = S.changed;
    finds = S.finds;
    since = more_so (StaysInSection actor) (S.sees ∷ S.later) s S.since stays;
    differs = S.differs;
  }

-- What holds of no steps, and with some steps of one step more, holds of every list of steps.
module _ (z : Sizes) (w : World Held) (P : List (Step Kind) → World Held → Type 0) (one_more : (ss : List (Step Kind)) (s : Step Kind)
    → IsSound z (run mmu w ss) → May mmu (run mmu w ss) s → P ss (run mmu w ss) → P (ss ++ s ∷ []) (effect mmu (run mmu w ss) s)) where
  all_more : (ss ts : List (Step Kind)) → IsSound z (run mmu w ss) → Legal mmu (run mmu w ss) ts → P ss (run mmu w ss) → P (ss ++ ts) (run mmu w (ss ++ ts))
  all_more ss [] G legal so = subst (λ (l : List (Step Kind)). P l (run mmu w l)) (sym (append-nil ss)) so
  all_more ss (s ∷ ts) G legal so =
      let here : run mmu w (ss ++ s ∷ []) ≡ effect mmu (run mmu w ss) s = run_one_more w ss s in
      subst (λ (l : List (Step Kind)). P l (run mmu w l)) (append_assoc ss (s ∷ []) ts)
      (all_more (ss ++ s ∷ []) ts (subst (IsSound z) (sym here) (good_step z (run mmu w ss) s G legal.0))
      (subst (λ (x : World Held). Legal mmu x ts) (sym here) legal.1)
      (subst (P (ss ++ s ∷ [])) (sym here) (one_more ss s G legal.0 so)))

  pub of_each_list : (ss : List (Step Kind)) → IsSound z w → Legal mmu w ss → P [] w → P ss (run mmu w ss)
  of_each_list ss G legal first = all_more [] ss G legal first
