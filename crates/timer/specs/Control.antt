-- The timer's registers, its interrupt request, and what a service, a stop and a reset make of it.
use Rattle.std.specs.Prelude.{ℕ, ◌+◌, ◌/◌, ◌%◌, Bool, false, not, ◌&&◌, ◌||◌}
use Rattle.bits.specs.Bits.{bit_at, flag}
use Rattle.timer.specs.declared.state.Timer.{Timer}

-- $0008: TOF, RTIF, TOIE and RTIE in bits 7 to 4, the rate in bits 1 and 0
abbrev pub control : Timer → ℕ
control m = flag m.tof 128 + flag m.rtif 64 + flag m.toie 32 + flag m.rtie 16 + m.rate % 4

-- a byte written to $0008: bit 3 clears TOF, bit 2 clears RTIF, the enables and the rate are taken
abbrev pub control_written : ℕ → Timer → Timer
control_written byte m = record {
  t = m.t;
  tof = m.tof && not (bit_at byte 3);
  rtif = m.rtif && not (bit_at byte 2);
  toie = bit_at byte 5;
  rtie = bit_at byte 4;
  rate = byte % 4;
  stage = m.stage;
}

-- $0009: a quarter of t, rounded down, modulo 256
abbrev pub counter : Timer → ℕ
counter m = m.t / 4 % 256

-- TOF with TOIE, or RTIF with RTIE
abbrev pub requests : Timer → Bool
requests m = (m.tof && m.toie) || (m.rtif && m.rtie)

abbrev pub with_stage : ℕ → Timer → Timer
with_stage n m = record { t = m.t; tof = m.tof; rtif = m.rtif; toie = m.toie; rtie = m.rtie; rate = m.rate; stage = n }

-- a service makes the stage 0
abbrev pub serviced : Timer → Timer
serviced m = with_stage 0 m

-- a stop clears the flags and the enables
abbrev pub quieted : Timer → Timer
quieted m = record { t = m.t; tof = false; rtif = false; toie = false; rtie = false; rate = m.rate; stage = m.stage }

-- at rest with this rate
abbrev pub zeroed_at : ℕ → Timer
zeroed_at rate = record { t = 0; tof = false; rtif = false; toie = false; rtie = false; rate = rate; stage = 0 }

abbrev pub zeroed : Timer
zeroed = zeroed_at 0

-- after a reset t and stage are 0 and $0008 is $03
abbrev pub at_reset : Timer
at_reset = zeroed_at 3
