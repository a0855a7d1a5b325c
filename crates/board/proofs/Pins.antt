-- Facts about readings in range.
use Rattle.std.proofs.Common.{◌≡◌, ◌%◌, ◌<◌, ◌&&◌, ltb, arith}
use Rattle.std.proofs.lemmas.Bool.{and_parts, ltb-true}
use Rattle.board.specs.declared.reading.Reading.{Reading}
use Rattle.board.specs.Reading.{InRange, on_pins}

-- the bounds that a reading in range keeps
pub range_parts : (r : Reading) → InRange r → (r.level_b < 64) × (r.open_b < 64) × (r.irq < 2)
range_parts r h =
    let p = and_parts (ltb r.level_b 64) (ltb r.open_b 64 && ltb r.irq 2) h in
    let q = and_parts (ltb r.open_b 64) (ltb r.irq 2) p.1 in
    (ltb-true r.level_b 64 p.0, ltb-true r.open_b 64 q.0, ltb-true r.irq 2 q.1)

-- a reading in range is left as it is
pub pins_same : (r : Reading) → InRange r → on_pins r ≡ r
pins_same r h =
    let p = range_parts r h in
    let b : r.level_b % 64 ≡ r.level_b = omega arith in
    let o : r.open_b % 64 ≡ r.open_b = omega arith in
    let i : r.irq % 2 ≡ r.irq = omega arith in
    λ j. record { level_a = r.level_a; open_a = r.open_a; level_b = b j; open_b = o j; irq = i j }
