-- The cycles of each code, by ranges of codes and their exceptions.
use Rattle.std.specs.Prelude.{ℕ, ◌+◌, ◌-◌, ◌/◌, ◌%◌, Bool, cond, ◌&&◌, ◌||◌, [], ◌∷◌, ◌==◌, nat_le, nat_lt, slice_index}

-- a code from the first to the last
abbrev pub between : ℕ → ℕ → ℕ → Bool
between first last code = nat_le first code && nat_le code last

-- below $A0, but for the exceptions: bits and direct 5, branches and registers 3, one-byte offset 6, no offset 5, control 2
abbrev pub usual_cycles : ℕ → ℕ
usual_cycles code =
    cond (between 0x00 0x1f code || between 0x30 0x3f code) 5
    (cond (between 0x20 0x2f code || between 0x40 0x5f code) 3
    (cond (between 0x60 0x6f code) 6
    (cond (between 0x70 0x7f code) 5 2)))

-- below $A0: TST is a cycle less in memory; MUL 11, RTI 9, RTS 6, SWI 10
abbrev pub low_cycles : ℕ → ℕ
low_cycles code =
    cond (code == 0x3d || code == 0x7d) 4
    (cond (code == 0x6d) 5
    (cond (code == 0x42) 11
    (cond (code == 0x80) 9
    (cond (code == 0x81) 6
    (cond (code == 0x83) 10 (usual_cycles code))))))

-- $Ax to $Fx: immediate, direct, extended, two-byte offset, one-byte offset, no offset
abbrev pub form_cycles : ℕ → ℕ
form_cycles high = slice_index (2 ∷ 3 ∷ 4 ∷ 5 ∷ 4 ∷ 3 ∷ []) (high - 10)

-- from $A0: a store is one more, JMP one less, JSR two more, and BSR 6
abbrev pub high_cycles : ℕ → ℕ → ℕ
high_cycles high low =
    cond (high == 10 && low == 13) 6
    (cond (low == 7 || low == 15) (form_cycles high + 1)
    (cond (low == 12) (form_cycles high - 1)
    (cond (low == 13) (form_cycles high + 2) (form_cycles high))))

-- the cycles of a code
abbrev pub cycles_of : ℕ → ℕ
cycles_of code = cond (nat_lt code 0xa0) (low_cycles code) (high_cycles (code / 16) (code % 16))
