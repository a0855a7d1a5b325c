-- What every board keeps.
use Rattle.std.specs.Prelude.{◌≡◌, ℕ, ◌+◌}
use Rattle.board.specs.declared.reading.Reading.{Reading}
use Rattle.board.specs.Reading.{InRange}

-- the laws of a board, by what it shows and what time makes of it
pub record Laws {B : Type 0} (shows : B → ℕ → Reading) (advanced : B → ℕ → B) : Type 0 where
  -- after n cycles it shows after k what it showed after n + k
  pub later : (b : B) (n k : ℕ) → shows (advanced b n) k ≡ shows b (n + k)
  -- m cycles and then n are m + n
  pub joined : (b : B) (m n : ℕ) → advanced (advanced b m) n ≡ advanced b (m + n)
  -- it shows no reading out of range
  pub ranged : (b : B) (n : ℕ) → InRange (shows b n)
