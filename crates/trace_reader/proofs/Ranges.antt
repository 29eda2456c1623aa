-- The header that the words spell has its numbers in their ranges.
use Rattle.std.proofs.Common.{◌≡◌, ◌≤◌, ◌<◌, ◌+◌, ◌-◌, ◌*◌, ◌⊎◌, inl, inr, ℕ, List, [], ◌∷◌, Bool, true, false, Result, Ok, length, get_or, refl, ap}
use Rattle.std.proofs.Common.{arith, subst, ◌==◌, ◌&&◌, ◌||◌, nat_le, All, zero, suc, rules}
use native.Mathlib.Numerals.{unary_clauses}
use Rattle.std.specs.Prelude.{codes, slice_get}
use Rattle.std.specs.Str.{bytes_eq}
use Rattle.std.specs.List.Sorted.{IsStrictlyIncreasing}
use Rattle.std.proofs.lemmas.Bool.Decides.{nat_tests}
use Rattle.std.proofs.lemmas.List.Elements.{All-cons, All-weaker}
use Rattle.std.specs.declared.option.Option.{Option}
use Rattle.std.specs.declared.option.Option.TheVariants.{Some, None}
use Rattle.core_views.specs.Traces.{IsHeader, AreHostsOf}
use Rattle.core_views.specs.declared.trace.Header.{Header}
use Rattle.trace_reader.specs.declared.reason.Reason.{Reason}
use Rattle.trace_reader.specs.declared.header.Sizes.{Sizes}
use Rattle.trace_reader.specs.Numbers.{spelled_number}
use Rattle.trace_reader.specs.Forms.{words_of}
use Rattle.trace_reader.specs.Lines.{Raw, fault_of, after_checks}
use Rattle.trace_reader.specs.Headers.{within, ranged, field, behind_version, are_sizes, sizes_of, rising, host_list, hosts_of, header_of}
use Rattle.trace_reader.specs.Reading.{head_of}
use Rattle.trace_reader.proofs.Results.{branch, bind_ok, then_ok, both}

within_range : (low high : ℕ) (o : Option ℕ) (n : ℕ) → within low high o ≡ Ok n → (low ≤ n) × (n ≤ high)
within_range low high None n e = cc
within_range low high (Some m) n e = elim (branch (nat_le low m && nat_le m high) _ _ (Ok n) e) [
  | inl p ↦ let same : m ≡ n = cc in
      let lower : low ≤ m = grind (arith, nat_tests, p.0) in
      let upper : m ≤ high = grind (arith, nat_tests, p.0) in
      (omega arith, omega arith)
  | inr p ↦ cc
]

ranged_range : (low high : ℕ) (w : List ℕ) (n : ℕ) → ranged low high w ≡ Ok n → (low ≤ n) × (n ≤ high)
unfolding ranged
ranged_range low high w n e = within_range low high (spelled_number w) n e

field_range : (name : List ℕ) (low high : ℕ) (ws : List (List ℕ)) (x : ℕ × List (List ℕ)) → field name low high ws ≡ Ok x → (low ≤ x.0) × (x.0 ≤ high)
unfolding field
field_range name low high [] x e = cc
field_range name low high (label ∷ []) x e = cc
field_range name low high (label ∷ w ∷ rest) x e = elim (branch (bytes_eq label name) _ _ (Ok x) e) [
  | inl p ↦ let (n, is, last) = bind_ok (ranged low high w) _ x p.1 in
      let same : (n, rest) ≡ x = cc in
      subst (λ (z : ℕ × List (List ℕ)). (low ≤ z.0) × (z.0 ≤ high)) same (ranged_range low high w n is)
  | inr p ↦ cc
]

-- The sizes are in their ranges.
record AreSizes (s : Sizes) : Type 0 where
  vcpus : (1 ≤ s.vcpus) × (s.vcpus ≤ 16)
  workers : s.workers ≤ 4
  pages : (1 ≤ s.pages) × (s.pages ≤ 1048576)
  frames : (s.pages ≤ s.frames) × (s.frames ≤ 2097152)
  words : (s.words ≡ 1) ⊎ (s.words ≡ 2) ⊎ (s.words ≡ 4) ⊎ (s.words ≡ 8)
  content : s.frames * s.words ≤ 8388608
  pool : (4 ≤ s.pool) × (s.pool ≤ 16384)
  cache : (1 ≤ s.cache) × (s.cache ≤ 64)
  manual : s.manual ≤ 2

either : (a b : Bool) → (a || b) ≡ true → (a ≡ true) ⊎ (b ≡ true)
either true b e = inl refl
either false b e = inr e

equal : (m n : ℕ) → (m == n) ≡ true → m ≡ n
equal m n e = grind (arith, nat_tests)

at_most : (m n : ℕ) → nat_le m n ≡ true → m ≤ n
at_most m n e = grind (arith, nat_tests)

one_of : (w : ℕ) → (w == 1 || w == 2 || w == 4 || w == 8) ≡ true → (w ≡ 1) ⊎ (w ≡ 2) ⊎ (w ≡ 4) ⊎ (w ≡ 8)
one_of w e = elim (either (w == 1 || w == 2 || w == 4) (w == 8) e) [
  | inl p ↦ elim (either (w == 1 || w == 2) (w == 4) p) [
    | inl q ↦ elim (either (w == 1) (w == 2) q) [
      | inl r ↦ inl (equal w 1 r)
      | inr r ↦ inr (inl (equal w 2 r))
    ]
    | inr q ↦ inr (inr (inl (equal w 4 q)))
  ]
  | inr p ↦ inr (inr (inr (equal w 8 p)))
]

content_range : (frames words : ℕ) → are_sizes frames words ≡ true → ((words ≡ 1) ⊎ (words ≡ 2) ⊎ (words ≡ 4) ⊎ (words ≡ 8)) × (frames * words ≤ 8388608)
unfolding are_sizes
content_range frames words e =
    let b = both (words == 1 || words == 2 || words == 4 || words == 8) (nat_le (frames * words) 8388608) e in
    (one_of words b.0, at_most (frames * words) 8388608 b.1)

sizes_range : (ws : List (List ℕ)) (x : Sizes × List (List ℕ)) → sizes_of ws ≡ Ok x → AreSizes x.0
unfolding sizes_of
sizes_range ws x e =
    then_ok (behind_version ws) _ x e (λ rest is0 e0.
    then_ok (field (codes "vcpus") 1 16 rest) _ x e0 (λ vcpus is1 e1.
    then_ok (field (codes "workers") 0 4 vcpus.1) _ x e1 (λ workers is2 e2.
    then_ok (field (codes "pages") 1 1048576 workers.1) _ x e2 (λ pages is3 e3.
    then_ok (field (codes "frames") pages.0 2097152 pages.1) _ x e3 (λ frames is4 e4.
    then_ok (field (codes "words") 1 8 frames.1) _ x e4 (λ size is5 e5.
    then_ok (field (codes "pool") 4 16384 size.1) _ x e5 (λ pool is6 e6.
    then_ok (field (codes "cache") 1 64 pool.1) _ x e6 (λ cache is7 e7.
    then_ok (field (codes "manual") 0 2 cache.1) _ x e7 (λ manual is8 e8.
    elim (branch (are_sizes frames.0 size.0) _ _ (Ok x) e8) [
      | inl p ↦ let c = content_range frames.0 size.0 p.0 in
          let same : (
            record {
              vcpus = vcpus.0;
              workers = workers.0;
              pages = pages.0;
              frames = frames.0;
              words = size.0;
              pool = pool.0;
              cache = cache.0;
              manual = manual.0;
            },
            manual.1,
          ) ≡ x =
          cc in
          subst (λ (z : Sizes × List (List ℕ)). AreSizes z.0) same (record {
            vcpus = field_range (codes "vcpus") 1 16 rest vcpus is1;
            workers = (field_range (codes "workers") 0 4 vcpus.1 workers is2).1;
            pages = field_range (codes "pages") 1 1048576 workers.1 pages is3;
            frames = field_range (codes "frames") pages.0 2097152 pages.1 frames is4;
            words = c.0;
            content = c.1;
            pool = field_range (codes "pool") 4 16384 size.1 pool is6;
            cache = field_range (codes "cache") 1 64 pool.1 cache is7;
            manual = (field_range (codes "manual") 0 2 cache.1 manual is8).1;
          })
      | inr p ↦ absurd (let no : ⊥ = cc in no)
    ])))))))))

-- The numbers rise from low to high, one a word.
record Rises (low high words : ℕ) (ns : List ℕ) : Type 0 where
  from_low : 0 < length ns → low ≤ get_or ns 0 0
  below : All (λ n. n ≤ high) ns
  count : length ns ≡ words
  rising : IsStrictlyIncreasing ns

pub more_rises : (n : ℕ) (ns : List ℕ) → (0 < length ns → n + 1 ≤ get_or ns 0 0) → IsStrictlyIncreasing ns → IsStrictlyIncreasing (n ∷ ns)
more_rises n ns first up zero lt = let f : 0 < length ns = omega arith in let g : n + 1 ≤ get_or ns 0 0 = first f in omega arith
more_rises n ns first up (suc k) lt = let u : get_or ns k 0 < get_or ns (k + 1) 0 = up k (omega arith) in simp unary_clauses (simp unary_clauses at u)

none_rises : (low high : ℕ) → Rises low high 0 []
none_rises low high = record { from_low = λ lt. absurd (omega arith); below = search rules; count = refl; rising = λ k lt. absurd (omega arith) }

rising_range : (low high : ℕ) (ws : List (List ℕ)) (ns : List ℕ) → rising low high ws ≡ Ok ns → Rises low high (length ws) ns
unfolding rising
rising_range low high [] ns e = let same : [] ≡ ns = cc in subst (Rises low high 0) same (none_rises low high)
rising_range low high (w ∷ ws) ns e =
    let (n, is, e1) = bind_ok (ranged low high w) _ ns e in
    let (more, is1, e2) = bind_ok (rising (n + 1) high ws) _ ns e1 in
    let r = rising_range (n + 1) high ws more is1 in
    let b = ranged_range low high w n is in
    let same : n ∷ more ≡ ns = cc in
    subst (Rises low high (length (w ∷ ws))) same (record {
      from_low = λ lt. b.0;
      below = All-cons (λ (k : ℕ). k ≤ high) n more b.1 r.below;
      count = ap suc r.count;
      rising = more_rises n more r.from_low r.rising;
    })

same_number : (high : ℕ) (o : Option ℕ) (n first : ℕ) → within 0 0 o ≡ Ok n → within 0 high o ≡ Ok first → first ≡ 0
same_number high None n first is is1 = absurd (let no : ⊥ = cc in no)
same_number high (Some m) n first is is1 = elim (branch (nat_le 0 m && nat_le m 0) _ _ (Ok n) is) [
  | inl p ↦ elim (branch (nat_le 0 m && nat_le m high) _ _ (Ok first) is1) [
    | inl q ↦ let low : m ≤ 0 = at_most m 0 (both (nat_le 0 m) (nat_le m 0) p.0).1 in
        let same : m ≡ first = cc in
        omega arith
    | inr q ↦ absurd (let no : ⊥ = cc in no)
  ]
  | inr p ↦ absurd (let no : ⊥ = cc in no)
]

one_number : (high : ℕ) (w : List ℕ) (n first : ℕ) → ranged 0 0 w ≡ Ok n → ranged 0 high w ≡ Ok first → first ≡ 0
unfolding ranged
one_number high w n first is is1 = same_number high (spelled_number w) n first is is1

first_found : (high : ℕ) (w : List ℕ) (ws : List (List ℕ)) (ns : List ℕ) (n : ℕ) → ranged 0 0 w ≡ Ok n → rising 0 high (w ∷ ws) ≡ Ok ns
    → slice_get ns 0 ≡ Some 0
unfolding rising
first_found high w ws ns n is e =
    let (first, is1, e1) = bind_ok (ranged 0 high w) _ ns e in
    let (more, is2, e2) = bind_ok (rising (first + 1) high ws) _ ns e1 in
    let same : first ∷ more ≡ ns = cc in
    subst (λ (l : List ℕ). slice_get l 0 ≡ Some 0) same (ap (λ (k : ℕ). Some k) (one_number high w n first is is1))

host_list_range : (pages : ℕ) (ws : List (List ℕ)) (ns : List ℕ) → 1 ≤ pages → host_list pages ws ≡ Ok ns → AreHostsOf pages ns
unfolding host_list
host_list_range pages [] ns some e = absurd (let no : ⊥ = cc in no)
host_list_range pages (w ∷ ws) ns some e = elim (branch (nat_le (length ws) 3) _ _ (Ok ns) e) [
  | inl p ↦ then_ok (ranged 0 0 w) _ ns p.1 (λ n is e1.
      let r = rising_range 0 (pages - 1) (w ∷ ws) ns e1 in
      let few : length ws ≤ 3 = at_most (length ws) 3 p.0 in
      record {
        first = first_found (pages - 1) w ws ns n is e1;
        count = omega (arith, r.count);
        rising = r.rising;
        below = All-weaker (λ (k : ℕ). k ≤ pages - 1) (λ (k : ℕ). k < pages) (λ k le. omega arith) ns r.below;
      })
  | inr p ↦ absurd (let no : ⊥ = cc in no)
]

hosts_range : (pages : ℕ) (ws : List (List ℕ)) (ns : List ℕ) → 1 ≤ pages → hosts_of pages ws ≡ Ok ns → AreHostsOf pages ns
unfolding hosts_of
hosts_range pages [] ns some e = absurd (let no : ⊥ = cc in no)
hosts_range pages (label ∷ ws) ns some e = elim (branch (bytes_eq label (codes "hosts")) _ _ (Ok ns) e) [
  | inl p ↦ host_list_range pages ws ns some p.1
  | inr p ↦ absurd (let no : ⊥ = cc in no)
]

pub header_range : (ws : List (List ℕ)) (h : Header) → header_of ws ≡ Ok h → IsHeader h
unfolding header_of
header_range ws h e =
    then_ok (sizes_of ws) _ h e (λ s is e1.
    then_ok (hosts_of s.0.pages s.1) _ h e1 (λ hosts is1 e2.
    let r = sizes_range ws s is in
    let same : record {
      version = 1;
      vcpus = s.0.vcpus;
      workers = s.0.workers;
      pages = s.0.pages;
      frames = s.0.frames;
      words = s.0.words;
      pool = s.0.pool;
      cache = s.0.cache;
      manual = s.0.manual;
      hosts = hosts;
    } ≡ h =
    cc in
    subst IsHeader same (record {
      version = refl;
      vcpus = r.vcpus;
      workers = r.workers;
      pages = r.pages;
      frames = r.frames;
      words = r.words;
      content = r.content;
      pool = r.pool;
      cache = r.cache;
      manual = r.manual;
      hosts = hosts_range s.0.pages s.1 hosts r.pages.0 is1;
    })))

checked : {A : Type 0} (fault : Option Reason) (read : Result A Reason) (x : A) → after_checks fault read ≡ Ok x → read ≡ Ok x
checked None read x e = e
checked (Some r) read x e = absurd (let no : ⊥ = cc in no)

pub head_in_range : (raw : Raw) (h : Header) → head_of raw ≡ Ok h → IsHeader h
unfolding head_of
head_in_range raw h e = header_range (words_of raw.bytes) h (checked (fault_of raw) _ h e)
