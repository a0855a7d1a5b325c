-- What switches mean, as a board.
use Rattle.std.specs.Prelude.{ℕ, cond, Ok, Err, Result}
use Rattle.board.specs.declared.reading.Reading.{Reading}
use Rattle.board.specs.declared.reading.Outputs.{Outputs}
use Rattle.board.specs.declared.refused.BadEntry.{BadEntry}
use Rattle.board.specs.declared.switches.Switches.{Switches}
use Rattle.board.specs.Reading.{ranged, on_pins}

-- the switches of a reading in range; any other is refused at index 0
abbrev pub switches_of : Reading → Result Switches BadEntry
switches_of r = cond (ranged r) (Ok (record { reading = r })) (Err (record { index = 0 }))

-- always the same reading
abbrev pub switches_shows : Switches → ℕ → Reading
switches_shows s n = on_pins s.reading

-- time changes nothing
abbrev pub switches_advanced : Switches → ℕ → Switches
switches_advanced s n = s

-- outputs change nothing
abbrev pub switches_told : Switches → Outputs → Switches
switches_told s o = s
