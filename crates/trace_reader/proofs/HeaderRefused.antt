-- Words that say no header are refused as `header`.
use Rattle.std.proofs.Common.{◌≡◌, ◌-◌, ◌+◌, ℕ, List, [], ◌∷◌, Bool, true, false, cond, Result, Ok, Err, refl, ap, ◌&&◌, nat_le, length}
use Rattle.std.specs.Prelude.{codes}
use Rattle.std.specs.Str.{bytes_eq}
use Rattle.std.specs.declared.option.Option.{Option}
use Rattle.std.specs.declared.option.Option.TheVariants.{Some, None}
use Rattle.core_views.specs.declared.trace.Header.{Header}
use Rattle.trace_reader.specs.declared.reason.Reason.{Reason}
use Rattle.trace_reader.specs.declared.reason.Reason.TheVariants as reason
use Rattle.trace_reader.specs.Numbers.{spelled_number}
use Rattle.trace_reader.specs.Operands.{◌>>=◌}
use Rattle.trace_reader.specs.Headers.{within, ranged, field, behind_version, are_sizes, sizes_of, rising, host_list, hosts_of, header_of}
use Rattle.trace_reader.specs.HeaderGrammar.{IsHeaderSaid}
use Rattle.trace_reader.proofs.HeaderSaid.{header_only}

-- An error of it is `header`.
abbrev IsHeaderError : {A : Type 0} → Result A Reason → Type 0
IsHeaderError (Ok x) = Unit {0}
IsHeaderError (Err r) = r ≡ reason.Header

bound : {A B : Type 0} (r : Result A Reason) (f : A → Result B Reason) → IsHeaderError r → ((x : A) → IsHeaderError (f x)) → IsHeaderError (r >>= f)
bound (Ok x) f is more = more x
bound (Err r) f is more = is

chosen : {A : Type 0} (b : Bool) (x y : Result A Reason) → IsHeaderError x → IsHeaderError y → IsHeaderError (cond b x y)
chosen true x y p q = p
chosen false x y p q = q

within_header : (low high : ℕ) (o : Option ℕ) → IsHeaderError (within low high o)
within_header low high None = refl
within_header low high (Some n) = chosen (nat_le low n && nat_le n high) (Ok n) (Err reason.Header) tt refl

ranged_header : (low high : ℕ) (w : List ℕ) → IsHeaderError (ranged low high w)
unfolding ranged
ranged_header low high w = within_header low high (spelled_number w)

field_header : (name : List ℕ) (low high : ℕ) (words : List (List ℕ)) → IsHeaderError (field name low high words)
unfolding field
field_header name low high [] = refl
field_header name low high (label ∷ []) = refl
field_header name low high (label ∷ w ∷ rest) = chosen (bytes_eq label name) _ _ (bound (ranged low high w) _ (ranged_header low high w) (λ n. tt)) refl

version_header : (words : List (List ℕ)) → IsHeaderError (behind_version words)
unfolding behind_version
version_header [] = refl
version_header (a ∷ []) = refl
version_header (a ∷ b ∷ ws) = chosen (bytes_eq a (codes "tdp") && bytes_eq b (codes "1")) (Ok ws) (Err reason.Header) tt refl

sizes_header : (words : List (List ℕ)) → IsHeaderError (sizes_of words)
unfolding sizes_of
sizes_header words =
    bound (behind_version words) _ (version_header words) (λ r. bound (field (codes "vcpus") 1 16 r) _ (field_header (codes "vcpus") 1 16 r)
    (λ v. bound (field (codes "workers") 0 4 v.1) _ (field_header (codes "workers") 0 4 v.1)
    (λ k. bound (field (codes "pages") 1 1048576 k.1) _ (field_header (codes "pages") 1 1048576 k.1)
    (λ p. bound (field (codes "frames") p.0 2097152 p.1) _ (field_header (codes "frames") p.0 2097152 p.1)
    (λ f. bound (field (codes "words") 1 8 f.1) _ (field_header (codes "words") 1 8 f.1)
    (λ n. bound (field (codes "pool") 4 16384 n.1) _ (field_header (codes "pool") 4 16384 n.1)
    (λ o. bound (field (codes "cache") 1 64 o.1) _ (field_header (codes "cache") 1 64 o.1)
    (λ c. bound (field (codes "manual") 0 2 c.1) _ (field_header (codes "manual") 0 2 c.1) (λ m. chosen (are_sizes f.0 n.0) _ _ tt refl)))))))))

rising_header : (low high : ℕ) (ws : List (List ℕ)) → IsHeaderError (rising low high ws)
unfolding rising
rising_header low high [] = tt
rising_header low high (w ∷ ws) =
    bound (ranged low high w) _ (ranged_header low high w) (λ n. bound (rising (n + 1) high ws) _ (rising_header (n + 1) high ws) (λ ns. tt))

host_list_header : (pages : ℕ) (ws : List (List ℕ)) → IsHeaderError (host_list pages ws)
unfolding host_list
host_list_header pages [] = refl
host_list_header pages (w ∷ ws) =
    chosen (nat_le (length ws) 3) _ _ (bound (ranged 0 0 w) _ (ranged_header 0 0 w) (λ n. rising_header 0 (pages - 1) (w ∷ ws))) refl

hosts_header : (pages : ℕ) (words : List (List ℕ)) → IsHeaderError (hosts_of pages words)
unfolding hosts_of
hosts_header pages [] = refl
hosts_header pages (label ∷ ws) = chosen (bytes_eq label (codes "hosts")) _ _ (host_list_header pages ws) refl

header_header : (words : List (List ℕ)) → IsHeaderError (header_of words)
unfolding header_of
header_header words = bound (sizes_of words) _ (sizes_header words) (λ s. bound (hosts_of s.0.pages s.1) _ (hosts_header s.0.pages s.1) (λ hosts. tt))

refused : (r : Result Header Reason) → IsHeaderError r → ((h : Header) → r ≡ Ok h → ⊥) → r ≡ Err reason.Header
refused (Ok h) is none = absurd (none h refl)
refused (Err r) is none = ap (λ (k : Reason). Err k) is

pub header_refuses : (words : List (List ℕ)) → ((h : Header) → IsHeaderSaid words h → ⊥) → header_of words ≡ Err reason.Header
header_refuses words none = refused (header_of words) (header_header words) (λ h e. none h (header_only words h e))
