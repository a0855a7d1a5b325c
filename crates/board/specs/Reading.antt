-- Which readings the pins can have.
use Rattle.std.specs.Prelude.{◌≡◌, ℕ, ◌%◌, Bool, true, ◌&&◌, nat_lt, List, ◌++◌, codes, decimal}
use Rattle.board.specs.declared.reading.Reading.{Reading}

-- whether port B's numbers have at most six bits and IRQ's one; port A's are bytes
abbrev pub ranged : Reading → Bool
ranged r = nat_lt r.level_b 64 && (nat_lt r.open_b 64 && nat_lt r.irq 2)

-- a reading that speaks only of pins that exist
abbrev pub InRange : Reading → Type 0
InRange r = ranged r ≡ true

-- a reading cut to the pins that exist
abbrev pub on_pins : Reading → Reading
on_pins r = record { level_a = r.level_a; open_a = r.open_a; level_b = r.level_b % 64; open_b = r.open_b % 64; irq = r.irq % 2 }

-- its five numbers, with single spaces
abbrev pub reading_text : Reading → List ℕ
reading_text r =
    decimal r.level_a ++ (codes " " ++ (decimal r.open_a ++ (codes " " ++ (decimal r.level_b ++ (codes " " ++ (decimal r.open_b ++ (codes " " ++ decimal r.irq)))))))
