-- Cases that are known of the part.
use Rattle.std.specs.Prelude.{◌≡◌, ℕ, ◌+◌, true, false, [], ◌∷◌, Some, nat_le}
use Rattle.alu.specs.declared.flags.Flags.{Flags}
use Rattle.board.specs.declared.contract.Board.{Ghosts}
use Rattle.board.specs.declared.reading.Reading.{Reading}
use Rattle.chip.specs.declared.state.Chip.{Chip}
use Rattle.chip.specs.declared.state.Registers.{Registers}
use Rattle.chip.specs.Memory.{read}
use Rattle.execute.specs.declared.place.Place.TheVariants.{Memory}
use Rattle.execute.specs.Fetch.{executed}
use Rattle.execute.specs.Place.{place_of}
use Rattle.opcodes.specs.Map.{addressing_of}
use Rattle.part.specs.Rom.{copen}
use Rattle.step.specs.Action.{stopped}
use Rattle.step.specs.Step.{Stepped, stepped}
use Rattle.timer.specs.declared.state.Timer.{Timer}
use Rattle.timer.specs.Clock.{risen_by}
use Rattle.timer.specs.Control.{serviced}
use Rattle.writes.specs.Writes.{instruction_writes}
use Rattle.facts.specs.Setting.{hinzc, holding, coded, before_nop, counter_after, by_watchdog}

-- with the watchdog on and rate 0, after a service at t the stage is 8 or more exactly from this clock on
abbrev pub OverdueFrom : ℕ → ℕ → Type 0
OverdueFrom clock t = (k : Timer) → k.t ≡ t → k.rate ≡ 0 → (n : ℕ) → nat_le 8 (risen_by true n (serviced k)).stage ≡ nat_le clock (t + n)

-- a step answers a watchdog reset exactly if its cycles end with stage 8 or more
abbrev pub ResetsOverdue : {B : Type 0} → Stepped B → Type 0
ResetsOverdue x = by_watchdog x.answer.reset ≡ nat_le 8 (risen_by (copen x.acting.rom) x.answer.cost x.acting.timer).stage

-- on any board
pub record KnownCases {B : Type 0} (m : Ghosts B) : Type 0 where
  -- ADD #$FE with A $05: A is $03, H and C are set, N and Z clear
  pub add_wraps : (r : Reading) (s : Chip) (x sp : ℕ) (f : Flags)
      → (executed r (coded (0xab ∷ 0xfe ∷ []) (holding 0x05 x sp 0x300 f) s)).registers ≡ holding 0x03 x sp 0x302 (hinzc true f.i false false true)
  -- MUL with A $20 and X $10: X is $02 and A $00, H and C are clear
  pub multiplies_to_x_and_a : (r : Reading) (s : Chip) (sp : ℕ) (f : Flags)
      → (executed r (coded (0x42 ∷ []) (holding 0x20 0x10 sp 0x300 f) s)).registers ≡ holding 0x00 0x02 sp 0x301 (hinzc false f.i f.n f.z false)
  -- JSR $0400 at $0301 with SP $C0: the low byte of $0304 is written to $C0, then the high byte to $FF, and SP is $FE
  pub call_wraps_stack : (r : Reading) (s : Chip) (a x : ℕ) (f : Flags)
      → let c : Chip = coded (0x9d ∷ 0xcd ∷ 0x04 ∷ 0x00 ∷ []) (holding a x 0xc0 0x301 f) s in
      (instruction_writes r c ≡ (0xc0, 0x04) ∷ (0xff, 0x03) ∷ []) × ((executed r c).registers ≡ holding a x 0xfe 0x400 f)
  -- LDA $FFFF,X with X $02: the operand lies at $0001, and A is what is read there
  pub index_wraps : (r : Reading) (s : Chip) (a sp : ℕ) (f : Flags)
      → let q : Registers = holding a 0x02 sp 0x300 f in
      let c : Chip = coded (0xd6 ∷ 0xff ∷ 0xff ∷ []) q s in
      (place_of (addressing_of 0xd6) q 0xff 0xff ≡ Memory 0x0001) × ((executed r c).registers.a ≡ read r 0x0001 c)
  -- NEGA with A $80: A is $80, N and C are set, Z clear
  pub negate_lowest : (r : Reading) (s : Chip) (x sp : ℕ) (f : Flags)
      → (executed r (coded (0x40 ∷ []) (holding 0x80 x sp 0x300 f) s)).registers ≡ holding 0x80 x sp 0x301 (hinzc f.h f.i true false true)
  -- NEGA with A $00: A is $00, N and C are clear, Z set
  pub negate_zero : (r : Reading) (s : Chip) (x sp : ℕ) (f : Flags)
      → (executed r (coded (0x40 ∷ []) (holding 0x00 x sp 0x300 f) s)).registers ≡ holding 0x00 x sp 0x301 (hinzc f.h f.i false true false)
  -- NOP from t 1,021: $0009 then reads 255, and TOF is what it was
  pub before_overflow : (r : Reading) (s : Chip) (b : B) (q : Registers) → counter_after r (stepped m (before_nop 1021 q s) b) ≡ Some (255, s.timer.tof)
  -- NOP from t 1,023: $0009 then reads 0, and TOF is set
  pub overflow : (r : Reading) (s : Chip) (b : B) (q : Registers) → counter_after r (stepped m (before_nop 1023 q s) b) ≡ Some (0, true)
  -- a service at t 16,383, one cycle before a tap: stage 8 from clock 131,072 on
  pub serviced_before_tap : OverdueFrom 131072 16383
  -- a service at t 16,384, at the tap: stage 8 from clock 147,456 on
  pub serviced_at_tap : OverdueFrom 147456 16384
  -- a step of any chip that is not stopped
  pub watchdog_resets : (s : Chip) (b : B) (x : Stepped B) → stepped m s b ≡ Some x → stopped s.mode ≡ false → ResetsOverdue x
