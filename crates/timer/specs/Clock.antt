-- What cycles make of the timer.
use Rattle.std.specs.Prelude.{ℕ, zero, suc, ◌+◌, ◌%◌, ◌^◌, ◌<◌, Bool, cond, ◌&&◌, ◌||◌, ◌==◌, nat_le}
use Rattle.timer.specs.declared.state.Timer.{Timer}

-- t is kept modulo this
abbrev pub clock_span : ℕ
clock_span = 2 ^ 17

-- cycles from one tap to the next
abbrev pub period : ℕ → ℕ
period rate = 2 ^ (14 + rate)

-- whether t is a multiple of n
abbrev pub multiple : ℕ → ℕ → Bool
multiple n t = t % n == 0

-- t is reached: TOF at a multiple of 1,024; a tap at a multiple of the period sets RTIF and, with the watchdog on, raises the stage
abbrev pub reached : Bool → ℕ → Timer → Timer
reached watched t m = record {
  t = t;
  tof = multiple 1024 t || m.tof;
  rtif = multiple (period m.rate) t || m.rtif;
  toie = m.toie;
  rtie = m.rtie;
  rate = m.rate;
  stage = cond (watched && multiple (period m.rate) t) (m.stage + 1) m.stage;
}

-- one cycle raises t by 1
abbrev pub risen : Bool → Timer → Timer
risen watched m = reached watched ((m.t + 1) % clock_span) m

-- n cycles
unfoldable pub risen_by : Bool → ℕ → Timer → Timer
risen_by watched zero m = m
risen_by watched (suc n) m = risen_by watched n (risen watched m)

-- t and rate are in range, and the stage can rise
abbrev pub Runs : Timer → Type 0
Runs m = (m.t < clock_span) × (m.rate < 4) × (m.stage < 255)

-- whether t comes to a multiple of n in so many cycles, fewer than n
abbrev pub passes : ℕ → ℕ → ℕ → Bool
passes n t cycles = nat_le n (t % n + cycles)
