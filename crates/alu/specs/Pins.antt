-- The levels of a port's eight pins.
use Rattle.std.specs.Prelude.{◌≡◌, ℕ, ◌-◌, ◌<◌, cond, bit_and, bit_or}
use Rattle.bits.specs.Bits.{bit_at}

-- the bits of one byte where the mask is 1, and of the other where it is 0
abbrev pub chosen : ℕ → ℕ → ℕ → ℕ
chosen mask ones zeros = bit_or (bit_and mask ones) (bit_and (255 - mask) zeros)

-- from the board's levels, its open pins, the latch, the direction, and the levels of open inputs
abbrev pub pin_levels : ℕ → ℕ → ℕ → ℕ → ℕ → ℕ
pin_levels level undriven latch direction high = chosen direction latch (chosen undriven high level)

-- each pin k of the levels r: an output has its latch's level, an input the board's, and an open input the level given for those
abbrev pub EachPin : ℕ → ℕ → ℕ → ℕ → ℕ → ℕ → Type 0
EachPin level undriven latch direction high r =
    (k : ℕ) → k < 8 → bit_at r k ≡ cond (bit_at direction k) (bit_at latch k) (cond (bit_at undriven k) (bit_at high k) (bit_at level k))
