-- What each line of a script asks for.
use Rattle.std.specs.Prelude.{ℕ, ◌-◌, ◌^◌, cond, List, Ok, Err, codes, Result}
use Rattle.std.specs.Str.{bytes_eq}
use Rattle.board.specs.declared.schedule.Entry.{Entry}
use Rattle.script.specs.declared.call.Purpose.TheVariants.{NewMachine, Replacement, Alone}
use Rattle.script.specs.declared.call.Call.{Call}
use Rattle.script.specs.declared.call.Call.TheVariants.{Make, OfBoard, Listing, NotOffered}
use Rattle.script.specs.declared.call.BoardCall.TheVariants.{Show, Advance, Tell, Quiet}
use Rattle.script.specs.declared.call.Kind.{Kind}
use Rattle.script.specs.declared.call.Kind.TheVariants.{Switches, Schedule, Matrix}
use Rattle.script.specs.declared.call.Problem.{Problem}
use Rattle.script.specs.declared.call.Problem.TheVariants.{UnknownCall, UnknownBoard}
use Rattle.text.specs.Words.{words, nth}
use Rattle.text.specs.Hex.{and_then}
use Rattle.script.specs.Names.{Name, Board, Change, Bench, Bshow, Badvance, Btell, Bquiet, ListName, NoOffer, name_of}
use Rattle.script.specs.Arguments.{next, or_else, word_argument, number_argument, reading_argument, outputs_argument, keys_argument, ending}

-- switches LA OA LB OB IRQ
abbrev pub switches_line : List (List ℕ) → Result Kind Problem
switches_line ws = next (reading_argument ws 2) (λ r. ending ws 7 (Switches r))

-- schedule N
abbrev pub schedule_line : List (List ℕ) → Result Kind Problem
schedule_line ws = next (number_argument (2 ^ 32 - 1) ws 2) (λ n. ending ws 3 (Schedule n))

-- matrix HHHH
abbrev pub matrix_line : List (List ℕ) → Result Kind Problem
matrix_line ws = next (keys_argument ws 2) (λ keys. ending ws 3 (Matrix keys))

abbrev pub board_named : List ℕ → List (List ℕ) → Result Kind Problem
board_named name ws =
    cond (bytes_eq name (codes "switches")) (switches_line ws)
    (cond (bytes_eq name (codes "schedule")) (schedule_line ws)
    (cond (bytes_eq name (codes "matrix")) (matrix_line ws)
    (Err UnknownBoard)))

-- the board that a line describes
abbrev pub board_line : List (List ℕ) → Result Kind Problem
board_line ws = next (word_argument ws 1) (λ name. board_named name ws)

-- badvance N
abbrev pub advance_of : List (List ℕ) → Result Call Problem
advance_of ws = next (number_argument (2 ^ 16 - 1) ws 1) (λ n. ending ws 2 (OfBoard (Advance n)))

-- btell DA LA DB LB
abbrev pub tell_of : List (List ℕ) → Result Call Problem
tell_of ws = next (outputs_argument ws 1) (λ o. ending ws 5 (OfBoard (Tell o)))

-- list HEX
abbrev pub list_of : List (List ℕ) → Result Call Problem
list_of ws = next (word_argument ws 1) (λ _. ending ws 2 Listing)

-- the call of this name, with the words of its line
abbrev pub named : Name → List (List ℕ) → Result Call Problem
named Board ws = next (board_line ws) (λ k. Ok (Make NewMachine k))
named Change ws = next (board_line ws) (λ k. Ok (Make Replacement k))
named Bench ws = next (board_line ws) (λ k. Ok (Make Alone k))
named Bshow ws = ending ws 1 (OfBoard Show)
named Badvance ws = advance_of ws
named Btell ws = tell_of ws
named Bquiet ws = ending ws 1 (OfBoard Quiet)
named ListName ws = list_of ws
named NoOffer ws = Ok NotOffered

-- the call that a line asks for, or why it asks for none
abbrev pub call_of : List ℕ → Result Call Problem
call_of line = next (or_else (and_then (nth (words line) 0) name_of) UnknownCall) (λ name. named name (words line))

-- CYCLE LA OA LB OB IRQ, one entry of a schedule
abbrev pub entry_of : List (List ℕ) → Result Entry Problem
entry_of ws = next (number_argument (2 ^ 64 - 1) ws 0) (λ cycle. next (reading_argument ws 1) (λ r. ending ws 6 (record { cycle = cycle; reading = r })))
