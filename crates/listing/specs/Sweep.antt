-- Where a listing goes on: it leaves out runs of zeros.
use Rattle.std.specs.Prelude.{ℕ, zero, suc, ◌+◌, ◌-◌, Bool, cond, ◌&&◌, List, [], ◌∷◌, Some, None, Option, ◌==◌, nat_lt}
use Rattle.part.specs.Layout.{address_space, eprom_first, eprom_last}
use Rattle.listing.specs.declared.line.Line.{Line}
use Rattle.listing.specs.Line.{byte_at, length_of, line_at}

-- the address past the EPROM
abbrev pub sweep_end : ℕ
sweep_end = suc eprom_last

-- three zeros stand from this address on
abbrev pub blank : List ℕ → ℕ → Bool
blank image address =
    (byte_at image address == 0) && (byte_at image (address + 1) == 0 && byte_at image (address + 2) == 0)

-- the first address from this one on with a byte that is not 0, at most n places on
unfoldable pub past_zeros : List ℕ → ℕ → ℕ → ℕ
past_zeros image zero address = address
past_zeros image (suc n) address = cond (byte_at image address == 0) (past_zeros image n (suc address)) address

-- the listing leaves out zeros where three or more stand
abbrev pub resumes_at : List ℕ → ℕ → ℕ
resumes_at image address = cond (blank image address) (past_zeros image (sweep_end - address) address) address

-- the next line from this address on, up to the end of the EPROM
abbrev pub next_line : List ℕ → ℕ → Option Line
next_line image address = cond (nat_lt (resumes_at image address) sweep_end) (Some (line_at image (resumes_at image address))) None

-- a line that is there, and the lines that f gives behind it
abbrev pub followed : Option Line → (Line → List Line) → List Line
followed None f = []
followed (Some l) f = l ∷ f l

-- the lines from this address on, at most n of them
unfoldable pub lines_from : ℕ → List ℕ → ℕ → List Line
lines_from zero image address = []
lines_from (suc n) image address = followed (next_line image address) (λ l. lines_from n image (l.address + length_of l))

-- the lines of the whole EPROM: no more than there are addresses
abbrev pub lines_of : List ℕ → List Line
lines_of image = lines_from address_space image eprom_first
