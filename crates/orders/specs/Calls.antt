-- What each line of a script asks for where a machine is at hand.
use Rattle.std.specs.Prelude.{ℕ, ◌-◌, ◌^◌, List, Some, None, Ok, Option, Result}
use Rattle.script.specs.declared.call.Problem.{Problem}
use Rattle.script.specs.declared.call.Problem.TheVariants.{UnknownCall}
use Rattle.script.specs.Arguments.{next, or_else, bare_call, bytes_call, last_number}
use Rattle.script.specs.Calls.{call_of as script_call}
use Rattle.orders.specs.declared.call.Order.{Order}
use Rattle.orders.specs.declared.call.Order.TheVariants as order
use Rattle.orders.specs.declared.call.MachineCall.TheVariants as machine
use Rattle.text.specs.Words.{words, nth}
use Rattle.orders.specs.Names.{Name, Load, Step, Steps, Run, State, Show, Trace, name_of}

-- steps N, trace N: how many steps
abbrev pub count_of : List (List ℕ) → Result ℕ Problem
count_of ws = last_number (2 ^ 32 - 1) ws 1

-- run U
abbrev pub run_of : List (List ℕ) → Result Order Problem
run_of ws = next (last_number (2 ^ 64 - 1) ws 1) (λ u. Ok (order.OfMachine (machine.Run u)))

-- the call of this name, with the words of its line
abbrev pub named : Name → List (List ℕ) → Result Order Problem
named Load ws = bytes_call ws order.Load
named Step ws = bare_call ws (order.OfMachine machine.Step)
named Steps ws = next (count_of ws) (λ n. Ok (order.OfMachine (machine.Steps n)))
named Run ws = run_of ws
named State ws = bare_call ws (order.OfMachine machine.State)
named Show ws = bare_call ws (order.OfMachine machine.Show)
named Trace ws = next (count_of ws) (λ n. Ok (order.Trace n))

-- a call of the machine, or else of the script language, whose names for the machine's calls it hides
abbrev pub named_or_script : Option Name → List ℕ → Result Order Problem
named_or_script (Some name) line = named name (words line)
named_or_script None line = next (script_call line) (λ c. Ok (order.OfScript c))

-- the call that a line asks for, or why it asks for none
abbrev pub call_of : List ℕ → Result Order Problem
call_of line = next (or_else (nth (words line) 0) UnknownCall) (λ word. named_or_script (name_of word) line)
