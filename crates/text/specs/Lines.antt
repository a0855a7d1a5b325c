-- The lines of a script.
use Rattle.std.specs.Prelude.{ℕ, ◌-◌, Bool, cond, ◌&&◌, ◌||◌, List, length, take, ◌==◌, nat_le, slice_index}

-- the byte so many places from the end, counted from 1
abbrev pub from_end : List ℕ → ℕ → ℕ
from_end line n = slice_index line (length line - n)

abbrev pub ends_in_newline : List ℕ → Bool
ends_in_newline line = nat_le 1 (length line) && from_end line 1 == 10

abbrev pub ends_in_return : List ℕ → Bool
ends_in_return line = nat_le 2 (length line) && (from_end line 2 == 13 && from_end line 1 == 10)

-- a line without the newline, or carriage return and newline, at its end
abbrev pub content_of : List ℕ → List ℕ
content_of line = cond (ends_in_return line) (take (length line - 2) line) (cond (ends_in_newline line) (take (length line - 1) line) line)

-- it is empty, or begins with the mark of a comment
abbrev pub skipped : List ℕ → Bool
skipped line = length line == 0 || slice_index line 0 == 35
