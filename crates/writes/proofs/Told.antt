-- What instructions and entries do to the chip, but for registers and mode, is what they write.
use Rattle.std.proofs.Common.{◌≡◌, ℕ, ◌+◌, ◌%◌, ◌<◌, ◌≤◌, Bool, true, false, cond, not, eqb, [], ◌∷◌, Some, None, Option, refl, ap, ◌∙◌}
use Rattle.bits.specs.Bits.{bit_at}
use Rattle.alu.specs.Bit.{bit_number}
use Rattle.alu.specs.Condition.{condition_holds}
use Rattle.alu.specs.Modify.{modified_byte, modified_flags}
use Rattle.board.specs.declared.reading.Reading.{Reading}
use Rattle.chip.specs.declared.state.Chip.{Chip}
use Rattle.chip.specs.declared.state.Mode.TheVariants.{Stopped}
use Rattle.chip.specs.declared.state.Registers.{Registers}
use Rattle.chip.specs.Memory.{read}
use Rattle.chip.specs.State.{with_registers, with_timer, with_interrupt, with_mode, with_edge, with_flags, with_pc}
use Rattle.opcodes.specs.declared.addressing.Row.{Row}
use Rattle.opcodes.specs.declared.operation.Control.{Control as Controls}
use Rattle.opcodes.specs.declared.operation.Control.TheVariants.{Mul, Tax, Txa, Clc, Sec, Cli, Sei, Rsp, Nop, Rti, Rts, Swi, Stop, Wait}
use Rattle.opcodes.specs.declared.operation.Operation.{Operation}
use Rattle.opcodes.specs.declared.operation.Operation.TheVariants.{BranchIfSet, BranchIfClear, SetBit, ClearBit, Branch, Modify, Read, Store, Jump, Call, Control}
use Rattle.opcodes.specs.Map.{row_of}
use Rattle.part.specs.declared.rom.Rom.{Rom}
use Rattle.part.specs.Layout.{address_space}
use Rattle.part.specs.Rom.{swait}
use Rattle.timer.specs.Control.{quieted}
use Rattle.execute.specs.declared.fetch.Fetched.{Fetched}
use Rattle.execute.specs.declared.place.Place.{Place}
use Rattle.execute.specs.declared.place.Place.TheVariants.{Accumulator, Index, Immediate, Memory}
use Rattle.execute.specs.Place.{place_of, value_at, stored_at}
use Rattle.execute.specs.Registers.{register_of, tested}
use Rattle.execute.specs.Entry.{return_bytes, entry_bytes, unmasked, waited}
use Rattle.execute.specs.Perform.{bit_changed, branched_if, same, with_carry, writes_back, controlled, performed_at}
use Rattle.execute.specs.Fetch.{fetched, executed_by, executed}
use Rattle.writes.specs.Writes.{place_writes, control_writes, operation_writes, writes_by, instruction_writes, applied, rested_by, rested, rested_row, peripherals, WritesTell}
use Rattle.writes.proofs.Stacked.{bare, any_registers, image_stays, stacked}

-- a chip once an instruction is done, and the chip that its writes give, both bare: they agree where the stack pointer is in RAM, and the image stays
abbrev Told : ℕ → Rom → Chip → Chip → Type 0
Told sp rom done given = (192 ≤ sp → sp < 256 → done ≡ given) × (done.rom ≡ rom)

-- where nothing is pushed, the stack pointer does not matter
anyhow : {sp : ℕ} {rom : Rom} {done given : Chip} → done ≡ given → given.rom ≡ rom → Told sp rom done given
anyhow e i = (λ low high. e, ap (λ t. t.rom) e ∙ i)

branches : (taken : Bool) (offset : ℕ) (s : Chip) → bare (branched_if taken offset s) ≡ bare s
branches true offset s = refl
branches false offset s = refl

stores : (place : Place) (byte : ℕ) (q : Registers) (s : Chip) → bare (stored_at place byte (with_registers q s)) ≡ bare (applied (place_writes place byte) s)
stores Accumulator byte q s = refl
stores Index byte q s = refl
stores (Immediate b) byte q s = refl
stores (Memory a) byte q s = any_registers a byte q s

modifies : (back : Bool) (place : Place) (byte : ℕ) (q : Registers) (s : Chip)
    → bare (cond back (stored_at place byte (with_registers q s)) (with_registers q s)) ≡ bare (applied (cond back (place_writes place byte) []) s)
modifies true place byte q s = stores place byte q s
modifies false place byte q s = refl

-- STOP without SWAIT
abbrev halted : Chip → Chip
halted s = with_mode Stopped (with_timer (quieted s.timer) (unmasked s))

stops : (b : Bool) (q : Registers) (s : Chip) → bare (cond b (waited (with_registers q s)) (halted (with_registers q s))) ≡ bare (cond b (waited s) (halted s))
stops true q s = refl
stops false q s = refl

stop_image : (b : Bool) (s : Chip) → (bare (cond b (waited s) (halted s))).rom ≡ s.rom
stop_image true s = refl
stop_image false s = refl

controls : (o : Controls) (q : Registers) (s : Chip)
    → Told q.sp s.rom (bare (controlled o (with_registers q s))) (bare (rested_by o (applied (control_writes o (with_registers q s)) s)))
controls Mul q s = anyhow refl refl
controls Tax q s = anyhow refl refl
controls Txa q s = anyhow refl refl
controls Clc q s = anyhow refl refl
controls Sec q s = anyhow refl refl
controls Cli q s = anyhow refl refl
controls Sei q s = anyhow refl refl
controls Rsp q s = anyhow refl refl
controls Nop q s = anyhow refl refl
controls Rti q s = anyhow refl refl
controls Rts q s = anyhow refl refl
controls Swi q s = (stacked (entry_bytes (with_registers q s)) q s, refl)
controls Stop q s = anyhow (stops (swait s.rom) q s) (stop_image (swait s.rom) s)
controls Wait q s = anyhow refl refl

operates : (o : Operation) (place : Place) (first second : ℕ) (r : Reading) (q : Registers) (s : Chip)
    → Told q.sp s.rom (bare (performed_at o place first second r (with_registers q s))) (bare (rested o (applied (operation_writes o place first r (with_registers q s)) s)))
operates (BranchIfSet n) place first second r q s =
    let found : Bool = bit_at (read r first (with_registers q s)) (bit_number n) in
    anyhow (branches (same found true) second (with_carry found (with_registers q s))) refl
operates (BranchIfClear n) place first second r q s =
    let found : Bool = bit_at (read r first (with_registers q s)) (bit_number n) in
    anyhow (branches (same found false) second (with_carry found (with_registers q s))) refl
operates (SetBit n) place first second r q s =
    let byte : ℕ = bit_changed n true (read r first (with_registers q s)) in
    anyhow (any_registers first byte q s) (image_stays ((first, byte) ∷ []) s)
operates (ClearBit n) place first second r q s =
    let byte : ℕ = bit_changed n false (read r first (with_registers q s)) in
    anyhow (any_registers first byte q s) (image_stays ((first, byte) ∷ []) s)
operates (Branch k) place first second r q s =
    anyhow (branches (condition_holds k q.flags (not (eqb r.irq 0))) first (with_registers q s)) refl
operates (Modify o) place first second r q s =
    let byte : ℕ = value_at place r (with_registers q s) in
    anyhow (modifies (writes_back o) place (modified_byte o q.flags byte) (with_flags (modified_flags o q.flags byte) q) s)
    (image_stays (operation_writes (Modify o) place first r (with_registers q s)) s)
operates (Read o) place first second r q s = anyhow refl refl
operates (Store register) place first second r q s =
    let byte : ℕ = register_of register q in
    anyhow (stores place byte (tested byte q) s) (image_stays (place_writes place byte) s)
operates Jump place first second r q s = anyhow refl refl
operates Call place first second r q s = (stacked (return_bytes (with_registers q s)) q s, refl)
operates (Control o) place first second r q s = controls o q s

executes : (row : Option Row) (f : Fetched) (r : Reading) (s : Chip)
    → Told s.registers.sp s.rom (bare (executed_by row f r s)) (bare (rested_row row (applied (writes_by row f r s) s)))
executes None f r s = anyhow refl refl
executes (Some row) f r s =
    let q : Registers = with_pc ((s.registers.pc + row.length) % address_space) s.registers in
    operates row.operation (place_of row.addressing q f.first f.second) f.first f.second r q s

pub told : WritesTell
unfolding executed instruction_writes
told = record {
  instruction = λ r s h. ap peripherals ((executes (row_of (fetched r s).code) (fetched r s) r s).0 h.0 h.1);
  external = λ s h. ap (λ t. peripherals (with_interrupt (with_edge false s.interrupt) t)) (stacked (entry_bytes s) s.registers s h.0 h.1);
  timer = λ s h. ap peripherals (stacked (entry_bytes s) s.registers s h.0 h.1);
  image = λ r s. (executes (row_of (fetched r s).code) (fetched r s) r s).1;
}
