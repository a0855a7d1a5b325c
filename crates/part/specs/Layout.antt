-- Where the part's places lie.
use Rattle.std.specs.Prelude.{ℕ, ◌+◌, ◌-◌, ◌%◌, Bool, cond, ◌&&◌, ◌||◌, List, codes, ◌==◌, nat_le, nat_lt}
use Rattle.part.specs.declared.layout.Vector.{Vector}
use Rattle.part.specs.declared.layout.Vector.TheVariants.{Timer, External, Swi, Reset}

-- addresses are taken modulo this
abbrev pub address_space : ℕ
address_space = 2048

abbrev pub ram_first : ℕ
ram_first = 0xc0

abbrev pub ram_last : ℕ
ram_last = 0xff

abbrev pub eprom_first : ℕ
eprom_first = 0x300

abbrev pub eprom_last : ℕ
eprom_last = 0x7cf

abbrev pub option_byte : ℕ
option_byte = 0x7f1

abbrev pub vectors_first : ℕ
vectors_first = 0x7f8

abbrev pub vectors_last : ℕ
vectors_last = 0x7ff

abbrev pub between : ℕ → ℕ → ℕ → Bool
between first last address = nat_le first address && nat_le address last

-- the places whose bytes come from the image: EPROM, option byte and vectors
abbrev pub from_image : ℕ → Bool
from_image address = between eprom_first eprom_last address || (address == option_byte || between vectors_first vectors_last address)

-- the places where an instruction may lie: EPROM and RAM
abbrev pub executable : ℕ → Bool
executable address = between eprom_first eprom_last address || between ram_first ram_last address

-- where a vector's high byte lies; the low byte follows
abbrev pub vector_address : Vector → ℕ
vector_address Timer = 0x7f8
vector_address External = 0x7fa
vector_address Swi = 0x7fc
vector_address Reset = 0x7fe

-- a vector's name
abbrev pub vector_name : Vector → List ℕ
vector_name Timer = codes "timer"
vector_name External = codes "external"
vector_name Swi = codes "SWI"
vector_name Reset = codes "reset"

-- where a branch goes: the offset is a signed byte, counted from the address of the next instruction
abbrev pub branch_target : ℕ → ℕ → ℕ
branch_target next offset = (next + offset + cond (nat_lt offset 128) 0 (address_space - 256)) % address_space
