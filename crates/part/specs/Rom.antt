-- What an image gives the part: EPROM, option byte and vectors.
use Rattle.std.specs.Prelude.{ℕ, ◌+◌, ◌-◌, ◌*◌, ◌%◌, Bool, List, take, drop, replicate, slice_index}
use Rattle.bits.specs.Bits.{bit_at}
use Rattle.part.specs.Layout.{address_space, eprom_first, eprom_last, option_byte, vectors_first, vectors_last, vector_address}
use Rattle.part.specs.declared.layout.Vector.{Vector}
use Rattle.part.specs.declared.rom.Rom.{Rom}

abbrev pub blank_rom : Rom
blank_rom = record { eprom = replicate 1232 0; options = 0; vectors = replicate 8 0 }

-- the bytes of an image from one address to another
abbrev pub stretch : ℕ → ℕ → List ℕ → List ℕ
stretch first last image = take (last + 1 - first) (drop first image)

-- the bytes at their places of an image
abbrev pub rom_of : List ℕ → Rom
rom_of image = record {
  eprom = stretch eprom_first eprom_last image;
  options = slice_index image option_byte;
  vectors = stretch vectors_first vectors_last image;
}

-- the byte of a vector at this address
abbrev pub vector_byte : ℕ → Rom → ℕ
vector_byte address rom = slice_index rom.vectors (address - vectors_first)

-- the address that a vector gives, high byte first
abbrev pub vector_in : Vector → Rom → ℕ
vector_in v rom = (vector_byte (vector_address v) rom * 256 + vector_byte (vector_address v + 1) rom) % address_space

-- the bits of the option byte: STOP acts as WAIT
abbrev pub swait : Rom → Bool
swait rom = bit_at rom.options 4

-- pulldowns are off
abbrev pub pdi : Rom → Bool
pdi rom = bit_at rom.options 3

-- PA0 to PA3 are interrupt inputs
abbrev pub pirq : Rom → Bool
pirq rom = bit_at rom.options 2

-- the level of the interrupt input requests, not only its edge
abbrev pub level : Rom → Bool
level rom = bit_at rom.options 1

-- the watchdog is on
abbrev pub copen : Rom → Bool
copen rom = bit_at rom.options 0
