-- What a schedule of readings means, as a board.
use Rattle.std.specs.Prelude.{ℕ, suc, ◌+◌, ◌-◌, ◌^◌, min, Bool, cond, ◌&&◌, List, [], ◌∷◌, drop, Some, None, Ok, Err, Option, Result, nat_le, nat_lt}
use Rattle.std.specs.Borrow.{Bor}
use Rattle.board.specs.declared.reading.Reading.{Reading}
use Rattle.board.specs.declared.reading.Outputs.{Outputs}
use Rattle.board.specs.declared.schedule.Entry.{Entry}
use Rattle.board.specs.declared.schedule.Schedule.{Schedule}
use Rattle.board.specs.declared.refused.BadEntry.{BadEntry}
use Rattle.board.specs.Reading.{ranged, on_pins}

-- every entry's cycle is below this
abbrev pub cycle_limit : ℕ
cycle_limit = 2 ^ 40

-- whether an entry has come by the cycle t
abbrev pub has_come : ℕ → Entry → Bool
has_come t e = nat_le e.cycle t

-- the reading of the last entry whose cycle is not above t, and d where there is none
abbrev pub last_at : Reading → List Entry → ℕ → Reading
last_at d [] t = d
last_at d (e ∷ es) t = last_at (cond (has_come t e) e.reading d) es t

-- an entry's cycle is at least low and below limit, and its reading is in range
abbrev pub good : ℕ → ℕ → Entry → Bool
good low limit e = nat_le low e.cycle && (nat_lt e.cycle limit && ranged e.reading)

-- the index of the first bad entry, from i on: each cycle is above the one before
abbrev pub bad_from : ℕ → ℕ → ℕ → List Entry → Option ℕ
bad_from i low limit [] = None
bad_from i low limit (e ∷ es) = cond (good low limit e) (bad_from (suc i) (suc e.cycle) cycle_limit es) (Some i)

-- the index of the first bad entry of all: the first one's cycle is 0, and there has to be one
abbrev pub first_bad : List Entry → Option ℕ
first_bad [] = Some 0
first_bad (e ∷ es) = bad_from 0 0 1 (e ∷ es)

-- how many entries come by the cycle t, up to the first that does not
unfoldable pub passed : List Entry → ℕ → ℕ
passed [] t = 0
passed (e ∷ es) t = cond (has_come t e) (suc (passed es t)) 0

-- the reading of the last of these, and d where there is none
unfoldable pub reading_at : Reading → List Entry → ℕ → Reading
reading_at d [] t = d
reading_at d (e ∷ es) t = cond (has_come t e) (reading_at e.reading es t) d

-- for how many cycles after t an entry does not come, as far as 65,535
abbrev pub calm_after : ℕ → Entry → ℕ
calm_after t e = min (e.cycle - t - 1) 65535

-- n cycles after the cycle at; the count is held at the limit, where no entry lies
abbrev pub moment : ℕ → ℕ → ℕ
moment at n = min (at + n) cycle_limit

-- the entries still to come
abbrev pub ahead : Schedule → List Entry
ahead s = drop s.next s.entries.now

-- the last entry that has come
abbrev pub schedule_shows : Schedule → ℕ → Reading
schedule_shows s n = on_pins (reading_at s.current (ahead s) (moment s.at n))

-- later by n cycles
abbrev pub schedule_advanced : Schedule → ℕ → Schedule
schedule_advanced s n = record {
  entries = s.entries;
  at = moment s.at n;
  next = s.next + passed (ahead s) (moment s.at n);
  current = reading_at s.current (ahead s) (moment s.at n);
}

-- outputs change nothing
abbrev pub schedule_told : Schedule → Outputs → Schedule
schedule_told s o = s

-- for how many cycles after t the first of these entries does not come, as far as 65,535
abbrev pub calm_before : ℕ → List Entry → ℕ
calm_before t [] = 65535
calm_before t (e ∷ es) = calm_after t e

-- for how many cycles it says that it shows no other entry
abbrev pub schedule_quiet : Schedule → ℕ
schedule_quiet s = calm_before s.at (ahead s)

-- the reading of the first entry
abbrev pub first_reading : List Entry → Reading
first_reading [] = record { level_a = 0; open_a = 0; level_b = 0; open_b = 0; irq = 0 }
first_reading (e ∷ es) = e.reading

-- at cycle 0 the first entry has come; a list with a bad entry is refused there
abbrev pub schedule_with : Option ℕ → Bor (List Entry) → Result Schedule BadEntry
schedule_with None entries = Ok (record { entries = entries; at = 0; next = 1; current = first_reading entries.now })
schedule_with (Some i) entries = Err (record { index = i })

-- the schedule of these entries
abbrev pub schedule_of : Bor (List Entry) → Result Schedule BadEntry
schedule_of entries = schedule_with (first_bad entries.now) entries
