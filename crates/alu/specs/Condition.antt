-- The conditions of branches.
use Rattle.std.specs.Prelude.{Bool, true, false, not, ◌||◌}
use Rattle.opcodes.specs.declared.operation.Condition.{Condition}
use Rattle.opcodes.specs.declared.operation.Condition.TheVariants.{Always, Never, Higher, LowerOrSame, CarryClear, CarrySet, NotEqual, Equal, HalfCarryClear, HalfCarrySet, Plus, Minus, MaskClear, MaskSet, IrqLow, IrqHigh}
use Rattle.alu.specs.declared.flags.Flags.{Flags}

-- whether the branch is taken; irq is whether the IRQ pin is 1
abbrev pub condition_holds : Condition → Flags → Bool → Bool
condition_holds Always f irq = true
condition_holds Never f irq = false
condition_holds Higher f irq = not (f.c || f.z)
condition_holds LowerOrSame f irq = f.c || f.z
condition_holds CarryClear f irq = not f.c
condition_holds CarrySet f irq = f.c
condition_holds NotEqual f irq = not f.z
condition_holds Equal f irq = f.z
condition_holds HalfCarryClear f irq = not f.h
condition_holds HalfCarrySet f irq = f.h
condition_holds Plus f irq = not f.n
condition_holds Minus f irq = f.n
condition_holds MaskClear f irq = not f.i
condition_holds MaskSet f irq = f.i
condition_holds IrqLow f irq = not irq
condition_holds IrqHigh f irq = irq
