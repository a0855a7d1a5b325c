-- Writes by themselves: registers do not matter to them, they keep the image, and a push is the write at the stack pointer.
use Rattle.std.proofs.Common.{◌≡◌, ℕ, ◌-◌, ◌%◌, ◌<◌, ◌≤◌, List, [], ◌∷◌, set, sym, refl, ap, ◌∙◌, arith, le-leb}
use borrow.Author.Tests.{lt-leb}
use Rattle.chip.specs.declared.map.Location.{Location}
use Rattle.chip.specs.declared.map.Location.TheVariants.{PortA, PortB, DirectionA, DirectionB, TimerControl, TimerCounter, InterruptControl, PulldownA, PulldownB, Ram, Eprom, Service, Options, Vectors, Nothing}
use Rattle.chip.specs.declared.state.Chip.{Chip}
use Rattle.chip.specs.declared.state.Mode.TheVariants.{Running}
use Rattle.chip.specs.declared.state.Registers.{Registers}
use Rattle.chip.specs.Map.{place_at, location_of}
use Rattle.chip.specs.Memory.{written, written_at}
use Rattle.chip.specs.Reset.{fresh}
use Rattle.chip.specs.Stack.{lowered}
use Rattle.chip.specs.State.{with_registers, with_mode, with_ram, with_sp}
use Rattle.execute.specs.Entry.{pushed_all}
use Rattle.writes.specs.Writes.{Writes, pushes, applied}

-- the chip but for registers and mode
abbrev pub bare : Chip → Chip
bare s = with_mode Running (with_registers fresh.registers s)

-- a write does not touch registers, nor go by them, and keeps the image
at_location : (l : Location) (byte : ℕ) (q : Registers) (s : Chip)
    → (written_at l byte (with_registers q s) ≡ with_registers q (written_at l byte s)) × ((written_at l byte s).rom ≡ s.rom)
at_location PortA byte q s = (refl, refl)
at_location PortB byte q s = (refl, refl)
at_location DirectionA byte q s = (refl, refl)
at_location DirectionB byte q s = (refl, refl)
at_location TimerControl byte q s = (refl, refl)
at_location TimerCounter byte q s = (refl, refl)
at_location InterruptControl byte q s = (refl, refl)
at_location PulldownA byte q s = (refl, refl)
at_location PulldownB byte q s = (refl, refl)
at_location (Ram k) byte q s = (refl, refl)
at_location (Eprom k) byte q s = (refl, refl)
at_location Service byte q s = (refl, refl)
at_location Options byte q s = (refl, refl)
at_location (Vectors k) byte q s = (refl, refl)
at_location Nothing byte q s = (refl, refl)

pub any_registers : (a byte : ℕ) (q : Registers) (s : Chip) → bare (written a byte (with_registers q s)) ≡ bare (written a byte s)
any_registers a byte q s = ap bare (at_location (location_of a) byte q s).0

pub image_stays : (ws : Writes) (s : Chip) → (applied ws s).rom ≡ s.rom
image_stays [] s = refl
image_stays (w ∷ ws) s = image_stays ws (written w.0 w.1 s) ∙ (at_location (location_of w.0) w.1 s.registers s).1

-- a write in the stack
in_stack : (sp byte : ℕ) (s : Chip) → 192 ≤ sp → sp < 256 → written sp byte s ≡ with_ram (set s.ram (sp % 64) byte) s
in_stack sp byte s low high =
    let e : sp % 2048 ≡ sp = omega arith in
    let k : sp - 192 ≡ sp % 64 = omega arith in
    ap (λ at. written_at (place_at at) byte s) e
    ∙ rw (lt-leb 768 sp (omega arith), le-leb 192 sp low, le-leb sp 255 (omega arith)) (ap (λ n. with_ram (set s.ram n byte) s) k)

-- bytes pushed are the writes from the stack pointer on
pub stacked : (bytes : List ℕ) (q : Registers) (s : Chip) → 192 ≤ q.sp → q.sp < 256
    → bare (pushed_all bytes (with_registers q s)) ≡ bare (applied (pushes q.sp bytes) s)
stacked [] q s low high = refl
stacked (b ∷ bs) q s low high =
    stacked bs (with_sp (lowered q.sp) q) (with_ram (set s.ram (q.sp % 64) b) s) (omega arith) (omega arith)
    ∙ ap (λ t. bare (applied (pushes (lowered q.sp) bs) t)) (sym (in_stack q.sp b s low high))
