-- What lies at an address.
use Rattle.std.specs.Prelude.{ℕ, ◌-◌, ◌%◌, ◌<◌, cond, eqb}
use Rattle.part.specs.Layout.{address_space, between, eprom_first, eprom_last, ram_first, ram_last, vectors_first, vectors_last}
use Rattle.chip.specs.declared.map.Location.{Location}
use Rattle.chip.specs.declared.map.Location.TheVariants.{PortA, PortB, DirectionA, DirectionB, TimerControl, TimerCounter, InterruptControl, PulldownA, PulldownB, Ram, Eprom, Service, Options, Vectors, Nothing}

-- the registers, the place of the watchdog's service and the option byte
abbrev pub register_at : ℕ → Location
register_at at =
    cond (eqb at 0x0) PortA
    (cond (eqb at 0x1) PortB
    (cond (eqb at 0x4) DirectionA
    (cond (eqb at 0x5) DirectionB
    (cond (eqb at 0x8) TimerControl
    (cond (eqb at 0x9) TimerCounter
    (cond (eqb at 0xa) InterruptControl
    (cond (eqb at 0x10) PulldownA
    (cond (eqb at 0x11) PulldownB
    (cond (eqb at 0x7f0) Service
    (cond (eqb at 0x7f1) Options
    Nothing))))))))))

-- RAM, EPROM and vectors, with the byte's place in them, and the rest
abbrev pub place_at : ℕ → Location
place_at at =
    cond (between eprom_first eprom_last at) (Eprom (at - eprom_first))
    (cond (between ram_first ram_last at) (Ram (at - ram_first))
    (cond (between vectors_first vectors_last at) (Vectors (at - vectors_first))
    (register_at at)))

-- addresses are taken modulo the address space
abbrev pub location_of : ℕ → Location
location_of address = place_at (address % address_space)

-- a byte's place is in range
abbrev pub Inside : Location → Type 0
Inside PortA = Unit {0}
Inside PortB = Unit {0}
Inside DirectionA = Unit {0}
Inside DirectionB = Unit {0}
Inside TimerControl = Unit {0}
Inside TimerCounter = Unit {0}
Inside InterruptControl = Unit {0}
Inside PulldownA = Unit {0}
Inside PulldownB = Unit {0}
Inside (Ram k) = k < 64
Inside (Eprom k) = k < 1232
Inside Service = Unit {0}
Inside Options = Unit {0}
Inside (Vectors k) = k < 8
Inside Nothing = Unit {0}
