-- Bits of a choice by a mask.
use Rattle.std.proofs.Common.{◌≡◌, ℕ, ◌-◌, ◌<◌, min, max, cond, eqb, arith}
use mir.Syntax.{w8}
use Rattle.std.specs.Int.{bit_at as digit_at}
use Rattle.std.proofs.lemmas.Bool.Decides.{nat_tests}
use Rattle.std.proofs.lemmas.Nat.Bits.{bit_at_and, bit_at_or, bit_at_not, bit_at-lt}
use Rattle.bits.specs.Bits.{bit_at}
use Rattle.alu.specs.Pins.{chosen, pin_levels, EachPin}

-- one bit as a number
digit : (x m a b : ℕ) → m < 2 → a < 2 → b < 2 → x ≡ max (min m a) (min (1 - m) b) → eqb x 1 ≡ cond (eqb m 1) (eqb a 1) (eqb b 1)
digit x m a b h k l e = grind (arith, nat_tests)

pub chosen_bit : (m a b k : ℕ) → m < 256 → k < 8 → bit_at (chosen m a b) k ≡ cond (bit_at m k) (bit_at a k) (bit_at b k)
chosen_bit m a b k h l =
    digit (digit_at (chosen m a b) k) (digit_at m k) (digit_at a k) (digit_at b k) (bit_at-lt m k) (bit_at-lt a k) (bit_at-lt b k)
    (simp (bit_at_or, bit_at_and, bit_at_not w8 m k h l))

-- two choices, one inside the other
pub pin_bit : (level undriven latch direction high r : ℕ) → direction < 256 → undriven < 256 → r ≡ pin_levels level undriven latch direction high
    → EachPin level undriven latch direction high r
pin_bit level undriven latch direction high r d u e k h =
    rw (e, chosen_bit direction latch (chosen undriven high level) k d h, chosen_bit undriven high level k u h)
