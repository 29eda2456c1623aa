-- The number that a word spells.
use Rattle.std.specs.Prelude.{◌≡◌, ◌≤◌, ◌<◌, ◌+◌, ◌-◌, ◌*◌, ◌^◌, ◌⊎◌, ◌++◌, ℕ, List, [], ◌∷◌, codes, Bool, true, ◌&&◌, ◌||◌}
use Rattle.std.specs.Prelude.{length, slice_index, nat_lt, nat_le, not, ◌==◌, if◌then◌else◌}
use Rattle.std.specs.Fmt.{decimal}
use Rattle.std.specs.List.{list_all}
use Rattle.std.specs.declared.option.Option.{Option}
use Rattle.std.specs.declared.option.Option.TheVariants.{Some, None}

-- `0` to `9`
abbrev pub is_digit : ℕ → Bool
is_digit c = nat_le 48 c && nat_le c 57

-- `0` to `9`, and `a` to `f`
abbrev pub is_hex_digit : ℕ → Bool
is_hex_digit c = is_digit c || (nat_le 97 c && nat_le c 102)

-- the value of a digit
abbrev pub digit : ℕ → ℕ
digit c = if nat_le c 57 then c - 48 else c - 87

-- the value of the digits after those that give n
abbrev pub value_after : ℕ → ℕ → List ℕ → ℕ
value_after radix n [] = n
value_after radix n (c ∷ cs) = value_after radix (n * radix + digit c) cs

-- the value of the digits
unfoldable pub value : ℕ → List ℕ → ℕ
value radix ds = value_after radix 0 ds

-- a number below 2 ^ 64
abbrev pub if_small : ℕ → Option ℕ
if_small n = if nat_lt n (2 ^ 64) then Some n else None

-- It does not begin with `0`, unless it is `0`.
abbrev pub has_no_needless_zero : List ℕ → Bool
has_no_needless_zero ds = nat_lt 0 (length ds) && (nat_lt (length ds) 2 || not (slice_index ds 0 == 48))

-- the number that a word spells in decimal
abbrev pub decimal_number : List ℕ → Option ℕ
decimal_number ds = if has_no_needless_zero ds && list_all is_digit ds then if_small (value 10 ds) else None

-- the number that 1 to 16 hexadecimal digits spell
abbrev pub hex_number : List ℕ → Option ℕ
hex_number ds = if nat_lt 0 (length ds) && nat_lt (length ds) 17 && list_all is_hex_digit ds then if_small (value 16 ds) else None

-- the number that a word spells: in decimal, or in hexadecimal behind `0x`
abbrev pub spelled_number : List ℕ → Option ℕ
spelled_number [] = None
spelled_number (a ∷ []) = decimal_number (a ∷ [])
spelled_number (a ∷ b ∷ ds) = if a == 48 && b == 120 then hex_number ds else decimal_number (a ∷ b ∷ ds)

-- The word is `0x` and 1 to 16 of the digits `0` to `9` and `a` to `f`, whose value is the number.
abbrev pub IsHexOf : List ℕ → ℕ → Type 0
IsHexOf w n = (ds : List ℕ) × (w ≡ codes "0x" ++ ds) × (1 ≤ length ds) × (length ds ≤ 16) × (list_all is_hex_digit ds ≡ true) × (value 16 ds ≡ n)

-- The word spells the number, which is below 2 ^ 64: as it is printed in decimal, or in hexadecimal.
abbrev pub Spells : List ℕ → ℕ → Type 0
Spells w n = (n < 2 ^ 64) × ((w ≡ decimal n) ⊎ IsHexOf w n)
