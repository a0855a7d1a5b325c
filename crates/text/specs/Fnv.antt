-- The 32-bit hash FNV-1a over bytes.
use Rattle.std.specs.Prelude.{ℕ, ◌*◌, ◌%◌, ◌^◌, List, fold, bit_xor}

-- the hash of no bytes
abbrev pub fnv_start : ℕ
fnv_start = 2166136261

-- the hash with one byte more
abbrev pub fnv_with : ℕ → ℕ → ℕ
fnv_with hash byte = bit_xor hash byte * 16777619 % 2 ^ 32

-- the hash with these bytes more
abbrev pub fnv_from : ℕ → List ℕ → ℕ
fnv_from hash bytes = fold fnv_with hash bytes

abbrev pub fnv_of : List ℕ → ℕ
fnv_of bytes = fnv_from fnv_start bytes
