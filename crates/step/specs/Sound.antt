-- What every chip keeps between steps.
use Rattle.std.specs.Prelude.{◌≡◌, ℕ, ◌<◌, ◌≤◌, Bool, true, not, ◌&&◌, ◌||◌, ◌==◌}
use Rattle.chip.specs.declared.state.Chip.{Chip}
use Rattle.chip.specs.declared.state.Mode.{Mode}
use Rattle.chip.specs.declared.state.Mode.TheVariants.{Running, Waiting, Stopped}
use Rattle.chip.specs.declared.state.Port.{Port}
use Rattle.chip.specs.declared.state.Registers.{Registers}
use Rattle.part.specs.declared.rom.Rom.{Rom}
use Rattle.part.specs.Layout.{address_space, ram_first, ram_last}
use Rattle.part.specs.Rom.{copen}
use Rattle.timer.specs.declared.state.Timer.{Timer}
use Rattle.timer.specs.Clock.{clock_span}

-- the stack pointer lies in RAM, the program counter in the address space
abbrev pub SoundRegisters : Registers → Type 0
SoundRegisters r = (ram_first ≤ r.sp) × (r.sp ≤ ram_last) × (r.pc < address_space)

-- bits 6 and 7 of port B are 0
abbrev pub SoundPortB : Port → Type 0
SoundPortB p = (p.latch < 64) × (p.direction < 64) × (p.pulldown < 64)

-- t below 2^17, rate 0 to 3, stage 0 to 7
abbrev pub SoundTimer : Timer → Type 0
SoundTimer m = (m.t < clock_span) × (m.rate < 4) × (m.stage < 8)

-- the stage is 0 without the watchdog
abbrev pub SoundStage : ℕ → Rom → Type 0
SoundStage stage rom = (stage == 0 || copen rom) ≡ true

-- waiting and stopped go with I clear and IRQE set, stopped with TOIE and RTIE clear
abbrev pub rest_test : Mode → Bool → Bool → Timer → Bool
rest_test Running mask enable m = true
rest_test Waiting mask enable m = not mask && enable
rest_test Stopped mask enable m = (not mask && enable) && (not m.toie && not m.rtie)

abbrev pub SoundRest : Chip → Type 0
SoundRest s = rest_test s.mode s.registers.flags.i s.interrupt.enable s.timer ≡ true

abbrev pub Sound : Chip → Type 0
Sound s = SoundRegisters s.registers × SoundPortB s.ports.b × SoundTimer s.timer × SoundStage s.timer.stage s.rom × SoundRest s
