-- Byte strings in hexadecimal, two digits a byte.
use Rattle.std.specs.Prelude.{ℕ, ◌+◌, ◌-◌, ◌*◌, cond, ◌&&◌, List, [], ◌∷◌, ◌++◌, length, Some, None, codes, Option, ◌==◌, nat_le}
use Rattle.std.specs.Str.{bytes_eq}

-- the value of a digit; letters are in lower case
abbrev pub hex_digit : ℕ → Option ℕ
hex_digit c = cond (nat_le 48 c && nat_le c 57) (Some (c - 48)) (cond (nat_le 97 c && nat_le c 102) (Some (c - 97 + 10)) None)

-- what f makes of a value that is there
abbrev pub and_then : {X Y : Type 0} → Option X → (X → Option Y) → Option Y
and_then None f = None
and_then (Some x) f = f x

-- the byte that two digits write
abbrev pub hex_pair : ℕ → ℕ → Option ℕ
hex_pair high low = and_then (hex_digit high) (λ h. and_then (hex_digit low) (λ l. Some (h * 16 + l)))

-- the bytes so far, and those that the digits left write
unfoldable pub pairs_after : List ℕ → List ℕ → Option (List ℕ)
pairs_after bytes [] = Some bytes
pairs_after bytes (high ∷ []) = None
pairs_after bytes (high ∷ (low ∷ left)) = and_then (hex_pair high low) (λ b. pairs_after (bytes ++ (b ∷ [])) left)

-- a word of pairs of digits, one or more, writes as many bytes; a minus writes none
abbrev pub bytes_of : List ℕ → Option (List ℕ)
bytes_of word = cond (bytes_eq word (codes "-")) (Some []) (cond (length word == 0) None (pairs_after [] word))
