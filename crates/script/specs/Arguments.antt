-- The arguments of a call, by their place among the line's words: word 0 is the call's name.
use Rattle.std.specs.Prelude.{ℕ, ◌+◌, ◌*◌, cond, List, length, Some, None, Ok, Err, Option, Result, ◌==◌, slice_index}
use Rattle.board.specs.declared.reading.Reading.{Reading}
use Rattle.board.specs.declared.reading.Outputs.{Outputs}
use Rattle.script.specs.declared.call.Problem.{Problem}
use Rattle.script.specs.declared.call.Problem.TheVariants.{MissingArgument, ExtraArgument, BadNumber, BadKeys}
use Rattle.text.specs.Words.{nth}
use Rattle.text.specs.Numbers.{number_of}
use Rattle.text.specs.Hex.{and_then, hex_pair}

-- what f makes of a value, or the problem that stands in its place
abbrev pub next : {X Y : Type 0} → Result X Problem → (X → Result Y Problem) → Result Y Problem
next (Ok x) f = f x
next (Err p) f = Err p

-- the value, or this problem where there is none
abbrev pub or_else : {X : Type 0} → Option X → Problem → Result X Problem
or_else (Some x) p = Ok x
or_else None p = Err p

abbrev pub word_argument : List (List ℕ) → ℕ → Result (List ℕ) Problem
word_argument ws place = or_else (nth ws place) MissingArgument

abbrev pub number_argument : ℕ → List (List ℕ) → ℕ → Result ℕ Problem
number_argument limit ws place = next (word_argument ws place) (λ w. or_else (number_of limit w) BadNumber)

abbrev pub byte_argument : List (List ℕ) → ℕ → Result ℕ Problem
byte_argument ws place = number_argument 255 ws place

-- no word stands at this place
abbrev pub ended : Option (List ℕ) → Result (Unit {0}) Problem
ended (Some w) = Err ExtraArgument
ended None = Ok tt

abbrev pub end_at : List (List ℕ) → ℕ → Result (Unit {0}) Problem
end_at ws place = ended (nth ws place)

-- the value, if the words end before this place
abbrev pub ending : {X : Type 0} → List (List ℕ) → ℕ → X → Result X Problem
ending ws place x = next (end_at ws place) (λ _. Ok x)

-- the number at this place, as the last word
abbrev pub last_number : ℕ → List (List ℕ) → ℕ → Result ℕ Problem
last_number limit ws place = next (number_argument limit ws place) (λ n. ending ws (place + 1) n)

-- a call with no argument
abbrev pub bare_call : {X : Type 0} → List (List ℕ) → X → Result X Problem
bare_call ws x = ending ws 1 x

-- the one argument is a byte string
abbrev pub bytes_call : {X : Type 0} → List (List ℕ) → X → Result X Problem
bytes_call ws x = next (word_argument ws 1) (λ _. ending ws 2 x)

-- five numbers from this place on: level A, open A, level B, open B, IRQ
abbrev pub reading_argument : List (List ℕ) → ℕ → Result Reading Problem
reading_argument ws place =
    next (byte_argument ws place) (λ a. next (byte_argument ws (place + 1)) (λ b. next (byte_argument ws (place + 2)) (λ c.
    next (byte_argument ws (place + 3)) (λ d. next (byte_argument ws (place + 4)) (λ e.
    Ok (record { level_a = a; open_a = b; level_b = c; open_b = d; irq = e }))))))

-- four numbers from this place on: direction A, driven A, direction B, driven B
abbrev pub outputs_argument : List (List ℕ) → ℕ → Result Outputs Problem
outputs_argument ws place =
    next (byte_argument ws place) (λ a. next (byte_argument ws (place + 1)) (λ b. next (byte_argument ws (place + 2)) (λ c. next (byte_argument ws (place + 3)) (λ d.
    Ok (record { direction_a = a; driven_a = b; direction_b = c; driven_b = d })))))

-- a matrix's number: exactly four hexadecimal digits
abbrev pub keys_of : List ℕ → Option ℕ
keys_of w =
    cond (length w == 4)
    (and_then (hex_pair (slice_index w 0) (slice_index w 1)) (λ high. and_then (hex_pair (slice_index w 2) (slice_index w 3)) (λ low. Some (high * 256 + low))))
    None

abbrev pub keys_argument : List (List ℕ) → ℕ → Result ℕ Problem
keys_argument ws place = next (word_argument ws place) (λ w. or_else (keys_of w) BadKeys)
