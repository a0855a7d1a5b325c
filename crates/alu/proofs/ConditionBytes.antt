-- The condition byte and the flags tell each other.
use Rattle.std.proofs.Common.{◌≡◌, ℕ, ◌/◌, ◌%◌, ◌<◌, ◌≤◌, Bool, true, false, eqb, arith}
use Rattle.std.proofs.lemmas.Bool.Decides.{nat_tests}
use Rattle.alu.specs.declared.flags.Flags.{Flags}
use Rattle.alu.specs.Bit.{one_if}
use Rattle.alu.specs.Flags.{condition_byte, flags_in}

one_below : (b : Bool) → one_if b < 2
one_below true = omega arith
one_below false = omega arith

-- a digit that is a flag's number is that flag
flag_of : (d : ℕ) (b : Bool) → d ≡ one_if b → eqb d 1 ≡ b
flag_of d true e = rw e
flag_of d false e = rw e

pub flags_back : (f : Flags) → flags_in (condition_byte f) ≡ f
flags_back f =
    let h = one_below f.h in
    let i = one_below f.i in
    let n = one_below f.n in
    let z = one_below f.z in
    let c = one_below f.c in
    λ j. record {
      h = flag_of (condition_byte f / 16 % 2) f.h (omega arith) j;
      i = flag_of (condition_byte f / 8 % 2) f.i (omega arith) j;
      n = flag_of (condition_byte f / 4 % 2) f.n (omega arith) j;
      z = flag_of (condition_byte f / 2 % 2) f.z (omega arith) j;
      c = flag_of (condition_byte f / 1 % 2) f.c (omega arith) j;
    }

digit_back : (d : ℕ) → d < 2 → one_if (eqb d 1) ≡ d
digit_back d h = grind (arith, nat_tests)

pub byte_back : (v : ℕ) → 224 ≤ v → v < 256 → condition_byte (flags_in v) ≡ v
byte_back v low high =
    let h = digit_back (v / 16 % 2) (omega arith) in
    let i = digit_back (v / 8 % 2) (omega arith) in
    let n = digit_back (v / 4 % 2) (omega arith) in
    let z = digit_back (v / 2 % 2) (omega arith) in
    let c = digit_back (v / 1 % 2) (omega arith) in
    rw (h, i, n, z, c) (omega arith)
