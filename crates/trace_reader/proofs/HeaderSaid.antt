-- What the words of line 1 say is read, and only that.
use Rattle.std.proofs.Common.{◌≡◌, ◌≤◌, ◌<◌, ◌+◌, ◌-◌, ◌*◌, ◌⊎◌, inl, inr, ℕ, List, [], ◌∷◌, true, cond, Result, Ok, Err, refl, ap, arith, subst}
use Rattle.std.proofs.Common.{◌==◌, ◌&&◌, ◌||◌, nat_le, length, All, get_or, suc}
use Rattle.std.specs.Prelude.{codes}
use Rattle.std.specs.List.{AllZip}
use Rattle.std.specs.Str.{bytes_eq}
use native.Mathlib.Numerals.{unary_clauses}
use Rattle.std.specs.List.Sorted.{IsStrictlyIncreasing}
use Rattle.std.proofs.lemmas.List.Elements.{All-head, All-tail}
use Rattle.std.proofs.lemmas.Slice.Zip.{AllZip-long}
use Rattle.std.proofs.lemmas.Bool.Decides.{nat_tests}
use Rattle.std.specs.declared.option.Option.{Option}
use Rattle.std.specs.declared.option.Option.TheVariants.{Some, None}
use Rattle.core_views.specs.Traces.{IsHeader, AreHostsOf}
use Rattle.core_views.specs.declared.trace.Header.{Header}
use Rattle.trace_reader.specs.declared.reason.Reason.{Reason}
use Rattle.trace_reader.specs.declared.reason.Reason.TheVariants as reason
use Rattle.trace_reader.specs.declared.header.Sizes.{Sizes}
use Rattle.trace_reader.specs.Numbers.{spelled_number}
use Rattle.trace_reader.specs.Operands.{◌>>=◌}
use Rattle.trace_reader.specs.Headers.{within, ranged, field, behind_version, are_sizes, sizes_of, rising, host_list, hosts_of, header_of}
use Rattle.trace_reader.specs.Grammar.{Spells}
use Rattle.trace_reader.specs.HeaderGrammar.{HeaderWords, labelled, SpellsHeader, IsHeaderSaid}
use Rattle.trace_reader.proofs.Results.{branch, bind_ok, both, word_is}
use Rattle.trace_reader.proofs.Spelled.{spelled, spelling}
use Rattle.trace_reader.proofs.Ranges.{header_range}

-- The numbers are strictly rising, from low on and below top.
abbrev RiseFrom : ℕ → ℕ → List ℕ → Type 0
RiseFrom low top [] = Unit {0}
RiseFrom low top (n ∷ ns) = (low ≤ n) × (n < top) × RiseFrom (n + 1) top ns

tail_rises : (n : ℕ) (ns : List ℕ) → IsStrictlyIncreasing (n ∷ ns) → IsStrictlyIncreasing ns
tail_rises n ns up k lt =
    let u : get_or (n ∷ ns) (suc k) 0 < get_or (n ∷ ns) (suc k + 1) 0 = up (suc k) (omega arith) in simp unary_clauses (simp unary_clauses at u)

first_rises : (n m : ℕ) (ns : List ℕ) → IsStrictlyIncreasing (n ∷ m ∷ ns) → n + 1 ≤ m
first_rises n m ns up = let u : n < m = up 0 (omega arith) in omega arith

rise_from : (low top : ℕ) (ns : List ℕ) → IsStrictlyIncreasing ns → All (λ n. n < top) ns → (0 < length ns → low ≤ get_or ns 0 0) → RiseFrom low top ns
rise_from low top [] up below first = tt
rise_from low top (n ∷ []) up below first = (first (omega arith), All-head (λ (k : ℕ). k < top) n [] below, tt)
rise_from low top (n ∷ m ∷ ns) up below first = (
  first (omega arith),
  All-head (λ (k : ℕ). k < top) n (m ∷ ns) below,
  rise_from (n + 1) top (m ∷ ns) (tail_rises n (m ∷ ns) up) (All-tail (λ (k : ℕ). k < top) n (m ∷ ns) below) (λ lt. first_rises n m ns up),
)

ranged_read : (low high : ℕ) (w : List ℕ) (n : ℕ) → Spells w n → low ≤ n → n ≤ high → ranged low high w ≡ Ok n
unfolding ranged
ranged_read low high w n s a b =
    let t : (nat_le low n && nat_le n high) ≡ true = grind (arith, nat_tests) in
    rw (spelled w n s, t) refl

field_read : (name : List ℕ) (low high : ℕ) (w : List ℕ) (rest : List (List ℕ)) (n : ℕ) → Spells w n → low ≤ n → n ≤ high → bytes_eq name name ≡ true
    → field name low high (name ∷ w ∷ rest) ≡ Ok (n, rest)
unfolding field
field_read name low high w rest n s a b same = rw (same, ranged_read low high w n s a b) refl

rising_read : (low top : ℕ) (ws : List (List ℕ)) (ns : List ℕ) → RiseFrom low top ns → AllZip Spells ws ns → rising low (top - 1) ws ≡ Ok ns
unfolding rising
rising_read low top [] [] rise all = refl
rising_read low top [] (n ∷ ns) rise all = absurd all
rising_read low top (w ∷ ws) [] rise all = absurd all
rising_read low top (w ∷ ws) (n ∷ ns) (a, b, rise) (s, all) = rw (ranged_read low (top - 1) w n s a (omega arith), rising_read (n + 1) top ws ns rise all) refl

nothing : (n : ℕ) (o : Option ℕ) → o ≡ None → o ≡ Some n → ⊥
nothing n o e is = cc

hosts_read : (pages : ℕ) (ws : List (List ℕ)) (ns : List ℕ) → 1 ≤ pages → AreHostsOf pages ns → AllZip Spells ws ns
    → hosts_of pages (codes "hosts" ∷ ws) ≡ Ok ns
unfolding hosts_of host_list
hosts_read pages [] [] some are all = absurd (nothing 0 None refl are.first)
hosts_read pages [] (n ∷ ns) some are all = absurd all
hosts_read pages (w ∷ ws) [] some are all = absurd all
hosts_read pages (w ∷ ws) (n ∷ ns) some are all =
    let first : Some n ≡ Some 0 = are.first in
    let zero : n ≡ 0 = cc in
    let long : length ns ≡ length ws = AllZip-long Spells ws ns all.1 in
    let t : nat_le (length ws) 3 ≡ true = grind (arith, nat_tests, are.count) in
    let s : Spells w 0 = subst (Spells w) zero all.0 in
    rw (
      t,
      ranged_read 0 0 w 0 s (omega arith) (omega arith),
      rising_read 0 pages (w ∷ ws) (n ∷ ns) (rise_from 0 pages (n ∷ ns) are.rising are.below (λ lt. omega arith)) all,
    ) refl

sizes_fit : (frames words : ℕ) → (words ≡ 1) ⊎ (words ≡ 2) ⊎ (words ≡ 4) ⊎ (words ≡ 8) → frames * words ≤ 8388608 → are_sizes frames words ≡ true
unfolding are_sizes
sizes_fit frames words one room =
    let r : nat_le (frames * words) 8388608 ≡ true = grind (arith, nat_tests) in
    let t : (words == 1 || words == 2 || words == 4 || words == 8) ≡ true = grind (arith, nat_tests, one) in
    rw (t, r) refl

abbrev sizes_in : Header → Sizes
sizes_in h =
    record { vcpus = h.vcpus; workers = h.workers; pages = h.pages; frames = h.frames; words = h.words; pool = h.pool; cache = h.cache; manual = h.manual }

words_few : (words : ℕ) → (words ≡ 1) ⊎ (words ≡ 2) ⊎ (words ≡ 4) ⊎ (words ≡ 8) → (1 ≤ words) × (words ≤ 8)
words_few words one = (grind (arith, one), grind (arith, one))

sizes_read : (w : HeaderWords) (h : Header) → IsHeader h → SpellsHeader w h → sizes_of (labelled w) ≡ Ok (sizes_in h, codes "hosts" ∷ w.hosts)
unfolding sizes_of behind_version
sizes_read w h is s =
    let few = words_few h.words is.words in
    rw (
      field_read (codes "vcpus") 1 16 w.vcpus _ h.vcpus s.vcpus is.vcpus.0 is.vcpus.1 refl,
      field_read (codes "workers") 0 4 w.workers _ h.workers s.workers (omega arith) is.workers refl,
      field_read (codes "pages") 1 1048576 w.pages _ h.pages s.pages is.pages.0 is.pages.1 refl,
      field_read (codes "frames") h.pages 2097152 w.frames _ h.frames s.frames is.frames.0 is.frames.1 refl,
      field_read (codes "words") 1 8 w.words _ h.words s.words few.0 few.1 refl,
      field_read (codes "pool") 4 16384 w.pool _ h.pool s.pool is.pool.0 is.pool.1 refl,
      field_read (codes "cache") 1 64 w.cache _ h.cache s.cache is.cache.0 is.cache.1 refl,
      field_read (codes "manual") 0 2 w.manual _ h.manual s.manual (omega arith) is.manual refl,
      sizes_fit h.frames h.words is.words is.content,
    ) refl

-- What is said is read.
pub header_reads : (words : List (List ℕ)) (h : Header) → IsHeaderSaid words h → header_of words ≡ Ok h
unfolding header_of
header_reads words h (is, w, e, s) = rw (e, sizes_read w h is s, hosts_read h.pages w.hosts h.hosts is.pages.0 is.hosts s.hosts, ← is.version) refl

-- What is read is said.
within_found : (low high : ℕ) (o : Option ℕ) (n : ℕ) → within low high o ≡ Ok n → o ≡ Some n
within_found low high None n e = cc
within_found low high (Some m) n e = elim (branch (nat_le low m && nat_le m high) (Ok m) _ (Ok n) e) [
  | inl p ↦ cc
  | inr p ↦ cc
]

ranged_found : (low high : ℕ) (w : List ℕ) (n : ℕ) → ranged low high w ≡ Ok n → Spells w n
unfolding ranged
ranged_found low high w n e = spelling w n (within_found low high (spelled_number w) n e)

abbrev IsField : List ℕ → List (List ℕ) → ℕ × List (List ℕ) → Type 0
IsField name words x = (w : List ℕ) × (words ≡ name ∷ w ∷ x.1) × Spells w x.0

field_is : (name label w : List ℕ) (rest : List (List ℕ)) (n : ℕ) → label ≡ name → Spells w n → IsField name (label ∷ w ∷ rest) (n, rest)
field_is name label w rest n same s = (w, ap (λ (l : List ℕ). l ∷ w ∷ rest) same, s)

field_found : (name : List ℕ) (low high : ℕ) (words : List (List ℕ)) (x : ℕ × List (List ℕ)) → field name low high words ≡ Ok x → IsField name words x
unfolding field
field_found name low high [] x e = cc
field_found name low high (label ∷ []) x e = cc
field_found name low high (label ∷ w ∷ rest) x e = elim (branch (bytes_eq label name) _ _ (Ok x) e) [
  | inl p ↦ let (n, is_n, e1) = bind_ok (ranged low high w) _ x p.1 in
      let same : (n, rest) ≡ x = cc in
      subst (IsField name (label ∷ w ∷ rest)) same (field_is name label w rest n (word_is label name p.0) (ranged_found low high w n is_n))
  | inr p ↦ cc
]

version_found : (words rest : List (List ℕ)) → behind_version words ≡ Ok rest → words ≡ codes "tdp" ∷ codes "1" ∷ rest
unfolding behind_version
version_found [] rest e = cc
version_found (a ∷ []) rest e = cc
version_found (a ∷ b ∷ ws) rest e = elim (branch (bytes_eq a (codes "tdp") && bytes_eq b (codes "1")) _ _ (Ok rest) e) [
  | inl p ↦ let t = both (bytes_eq a (codes "tdp")) (bytes_eq b (codes "1")) p.0 in
      let same : ws ≡ rest = cc in
      rw (word_is a (codes "tdp") t.0, word_is b (codes "1") t.1, same) refl
  | inr p ↦ cc
]

rising_found : (low high : ℕ) (ws : List (List ℕ)) (ns : List ℕ) → rising low high ws ≡ Ok ns → AllZip Spells ws ns
unfolding rising
rising_found low high [] ns e = let same : [] ≡ ns = cc in subst (AllZip Spells []) same tt
rising_found low high (w ∷ ws) ns e =
    let (n, is_n, e1) = bind_ok (ranged low high w) _ ns e in
    let (more, is_more, e2) = bind_ok (rising (n + 1) high ws) _ ns e1 in
    let same : n ∷ more ≡ ns = cc in
    subst (AllZip Spells (w ∷ ws)) same (ranged_found low high w n is_n, rising_found (n + 1) high ws more is_more)

host_list_found : (pages : ℕ) (ws : List (List ℕ)) (ns : List ℕ) → host_list pages ws ≡ Ok ns → AllZip Spells ws ns
unfolding host_list
host_list_found pages [] ns e = absurd (let no : ⊥ = cc in no)
host_list_found pages (w ∷ ws) ns e = elim (branch (nat_le (length ws) 3) _ _ (Ok ns) e) [
  | inl p ↦ let (n, is_n, e1) = bind_ok (ranged 0 0 w) _ ns p.1 in rising_found 0 (pages - 1) (w ∷ ws) ns e1
  | inr p ↦ absurd (let no : ⊥ = cc in no)
]

hosts_found : (pages : ℕ) (words : List (List ℕ)) (ns : List ℕ) → hosts_of pages words ≡ Ok ns
    → (ws : List (List ℕ)) × (words ≡ codes "hosts" ∷ ws) × AllZip Spells ws ns
unfolding hosts_of
hosts_found pages [] ns e = cc
hosts_found pages (label ∷ ws) ns e = elim (branch (bytes_eq label (codes "hosts")) _ _ (Ok ns) e) [
  | inl p ↦ (ws, ap (λ (l : List ℕ). l ∷ ws) (word_is label (codes "hosts") p.0), host_list_found pages ws ns p.1)
  | inr p ↦ cc
]

abbrev labelled_sizes : HeaderWords → List (List ℕ) → List (List ℕ)
labelled_sizes w rest = codes "tdp" ∷ codes "1" ∷ codes "vcpus" ∷ w.vcpus ∷ codes "workers" ∷ w.workers ∷ codes "pages" ∷ w.pages ∷ codes "frames" ∷ w.frames
    ∷ codes "words" ∷ w.words ∷ codes "pool" ∷ w.pool ∷ codes "cache" ∷ w.cache ∷ codes "manual" ∷ w.manual ∷ rest

abbrev AreSizes : List (List ℕ) → Sizes → List (List ℕ) → Type 0
AreSizes words s rest = (w : HeaderWords) × (words ≡ labelled_sizes w rest) × Spells w.vcpus s.vcpus × Spells w.workers s.workers × Spells w.pages s.pages
    × Spells w.frames s.frames × Spells w.words s.words × Spells w.pool s.pool × Spells w.cache s.cache × Spells w.manual s.manual

sizes_are : (words r : List (List ℕ)) (v k p f n o c m : ℕ × List (List ℕ)) → words ≡ codes "tdp" ∷ codes "1" ∷ r → IsField (codes "vcpus") r v
    → IsField (codes "workers") v.1 k → IsField (codes "pages") k.1 p → IsField (codes "frames") p.1 f → IsField (codes "words") f.1 n
    → IsField (codes "pool") n.1 o → IsField (codes "cache") o.1 c → IsField (codes "manual") c.1 m
    → AreSizes words (record { vcpus = v.0; workers = k.0; pages = p.0; frames = f.0; words = n.0; pool = o.0; cache = c.0; manual = m.0 }) m.1
sizes_are words r v k p f n o c m e (wv, ev, v0) (wk, ek, k0) (wp, ep, p0) (wf, ef, f0) (wn, en, n0) (wo, eo, o0) (wc, ec, c0) (wm, em, m0) = (
  record { vcpus = wv; workers = wk; pages = wp; frames = wf; words = wn; pool = wo; cache = wc; manual = wm; hosts = [] },
  rw (e, ev, ek, ep, ef, en, eo, ec, em) refl,
  v0,
  k0,
  p0,
  f0,
  n0,
  o0,
  c0,
  m0,
)

on_ok : {A B P : Type 0} (r : Result A Reason) (f : A → Result B Reason) (y : B) → (r >>= f) ≡ Ok y → ((x : A) → r ≡ Ok x → f x ≡ Ok y → P) → P
on_ok (Ok x) f y e more = more x refl e
on_ok (Err r) f y e more = cc

sizes_built : (words r : List (List ℕ)) (v k p f n o c m : ℕ × List (List ℕ)) (x : Sizes × List (List ℕ)) → behind_version words ≡ Ok r → field (codes "vcpus")
    1 16 r ≡ Ok v → field (codes "workers") 0 4 v.1 ≡ Ok k → field (codes "pages") 1 1048576 k.1 ≡ Ok p → field (codes "frames") p.0 2097152 p.1 ≡ Ok f → field
    (codes "words") 1 8 f.1 ≡ Ok n → field (codes "pool") 4 16384 n.1 ≡ Ok o → field (codes "cache") 1 64 o.1 ≡ Ok c → field (codes "manual") 0 2 c.1 ≡ Ok m
    → cond (are_sizes f.0 n.0) (Ok (record { vcpus = v.0; workers = k.0; pages = p.0; frames = f.0; words = n.0; pool = o.0; cache = c.0; manual = m.0 }, m.1))
    (Err reason.Header) ≡ Ok x → AreSizes words x.0 x.1
sizes_built words r v k p f n o c m x is_r is_v is_k is_p is_f is_n is_o is_c is_m e =
    elim (branch (are_sizes f.0 n.0) _ _ (Ok x) e) [
      | inl q ↦
          let same : (record { vcpus = v.0; workers = k.0; pages = p.0; frames = f.0; words = n.0; pool = o.0; cache = c.0; manual = m.0 }, m.1) ≡ x = cc in
          subst (λ (y : Sizes × List (List ℕ)). AreSizes words y.0 y.1) same
          (sizes_are words r v k p f n o c m (version_found words r is_r) (field_found (codes "vcpus") 1 16 r v is_v) (field_found (codes "workers") 0 4 v.1 k
          is_k) (field_found (codes "pages") 1 1048576 k.1 p is_p) (field_found (codes "frames") p.0 2097152 p.1 f is_f) (field_found (codes "words") 1 8 f.1 n
          is_n) (field_found (codes "pool") 4 16384 n.1 o is_o) (field_found (codes "cache") 1 64 o.1 c is_c) (field_found (codes "manual") 0 2 c.1 m is_m))
      | inr q ↦ cc
    ]

sizes_found : (words : List (List ℕ)) (x : Sizes × List (List ℕ)) → sizes_of words ≡ Ok x → AreSizes words x.0 x.1
unfolding sizes_of
sizes_found words x e =
    on_ok (behind_version words) _ x e (λ r is_r e0.
    on_ok (field (codes "vcpus") 1 16 r) _ x e0 (λ v is_v e1.
    on_ok (field (codes "workers") 0 4 v.1) _ x e1 (λ k is_k e2.
    on_ok (field (codes "pages") 1 1048576 k.1) _ x e2 (λ p is_p e3.
    on_ok (field (codes "frames") p.0 2097152 p.1) _ x e3 (λ f is_f e4.
    on_ok (field (codes "words") 1 8 f.1) _ x e4 (λ n is_n e5.
    on_ok (field (codes "pool") 4 16384 n.1) _ x e5 (λ o is_o e6.
    on_ok (field (codes "cache") 1 64 o.1) _ x e6 (λ c is_c e7.
    on_ok (field (codes "manual") 0 2 c.1) _ x e7 (λ m is_m e8.
    sizes_built words r v k p f n o c m x is_r is_v is_k is_p is_f is_n is_o is_c is_m e8)))))))))

abbrev header_from : Sizes → List ℕ → Header
header_from s hosts = record {
  version = 1;
  vcpus = s.vcpus;
  workers = s.workers;
  pages = s.pages;
  frames = s.frames;
  words = s.words;
  pool = s.pool;
  cache = s.cache;
  manual = s.manual;
  hosts = hosts;
}

spelled_header : (words : List (List ℕ)) (s : Sizes) (rest : List (List ℕ)) (hosts : List ℕ) → AreSizes words s rest → (ws : List (List ℕ))
    × (rest ≡ codes "hosts" ∷ ws) × AllZip Spells ws hosts → (w : HeaderWords) × (words ≡ labelled w) × SpellsHeader w (header_from s hosts)
spelled_header words s rest hosts (w, e, v, k, p, f, n, o, c, m) (ws, e1, all) = (
  record {
    vcpus = w.vcpus;
    workers = w.workers;
    pages = w.pages;
    frames = w.frames;
    words = w.words;
    pool = w.pool;
    cache = w.cache;
    manual = w.manual;
    hosts = ws;
  },
  rw (e, e1) refl,
  record { vcpus = v; workers = k; pages = p; frames = f; words = n; pool = o; cache = c; manual = m; hosts = all },
)

header_spelled : (words : List (List ℕ)) (h : Header) → header_of words ≡ Ok h → (w : HeaderWords) × (words ≡ labelled w) × SpellsHeader w h
unfolding header_of
header_spelled words h e =
    let (s, is_s, e1) = bind_ok (sizes_of words) _ h e in
    let (hosts, is_hosts, e2) = bind_ok (hosts_of s.0.pages s.1) _ h e1 in
    let same : header_from s.0 hosts ≡ h = cc in
    subst (λ (g : Header). (w : HeaderWords) × (words ≡ labelled w) × SpellsHeader w g) same
    (spelled_header words s.0 s.1 hosts (sizes_found words s is_s) (hosts_found s.0.pages s.1 hosts is_hosts))

pub header_only : (words : List (List ℕ)) (h : Header) → header_of words ≡ Ok h → IsHeaderSaid words h
header_only words h e = let k = header_spelled words h e in (header_range words h e, k.0, k.1, k.2)
