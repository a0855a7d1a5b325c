-- A byte of code in EPROM.
use Rattle.std.proofs.Common.{◌≡◌, ℕ, ◌-◌, ◌%◌, ◌≤◌, get_or, ap, ◌∙◌, arith, le-leb}
use Rattle.board.specs.declared.reading.Reading.{Reading}
use Rattle.chip.specs.declared.state.Chip.{Chip}
use Rattle.chip.specs.Memory.{read, read_at}
use Rattle.chip.specs.Map.{place_at}

pub in_eprom : (r : Reading) (s : Chip) (k : ℕ) → 768 ≤ k → k ≤ 1999 → read r k s ≡ get_or s.rom.eprom (k - 768) 0
in_eprom r s k low high =
    let e : k % 2048 ≡ k = omega arith in
    ap (λ at. read_at r (place_at at) s) e ∙ rw (le-leb 768 k low, le-leb k 1999 high)
