-- The flags of the CPU, and the condition byte.
use Rattle.std.specs.Prelude.{◌≡◌, ℕ, ◌+◌, ◌*◌, ◌<◌, ◌≤◌, Bool, ◌==◌, nat_le}
use Rattle.alu.specs.declared.flags.Flags.{Flags}
use Rattle.alu.specs.Bit.{one_if}
use Rattle.bits.specs.Bits.{bit_at}

-- 111HINZC, bit 7 first
abbrev pub condition_byte : Flags → ℕ
condition_byte f = 224 + 16 * one_if f.h + 8 * one_if f.i + 4 * one_if f.n + 2 * one_if f.z + one_if f.c

-- the flags that a condition byte holds; its bits 7 to 5 do not count
abbrev pub flags_in : ℕ → Flags
flags_in v = record { h = bit_at v 4; i = bit_at v 3; n = bit_at v 2; z = bit_at v 1; c = bit_at v 0 }

abbrev pub with_h : Flags → Bool → Flags
with_h f h = record { h = h; i = f.i; n = f.n; z = f.z; c = f.c }

abbrev pub with_i : Flags → Bool → Flags
with_i f i = record { h = f.h; i = i; n = f.n; z = f.z; c = f.c }

abbrev pub with_c : Flags → Bool → Flags
with_c f c = record { h = f.h; i = f.i; n = f.n; z = f.z; c = c }

-- N is bit 7 of the byte, Z whether it is 0
abbrev pub with_nz : Flags → ℕ → Flags
with_nz f v = record { h = f.h; i = f.i; n = nat_le 128 v; z = (v == 0); c = f.c }

-- N and Z by the byte, and C
abbrev pub with_nzc : Flags → ℕ → Bool → Flags
with_nzc f v c = with_c (with_nz f v) c

-- flags come back from their condition byte, and a condition byte from its flags
pub record ConditionByteKeepsFlags : Type 0 where
  pub flags : (f : Flags) → flags_in (condition_byte f) ≡ f
  pub byte : (v : ℕ) → 224 ≤ v → v < 256 → condition_byte (flags_in v) ≡ v
