-- Which strings of bytes are images.
use Rattle.std.specs.Prelude.{ℕ, suc, Bool, cond, ◌||◌, List, [], ◌∷◌, ◌++◌, length, codes, Ok, Err, Result, ◌==◌}
use Rattle.std.specs.Fmt.{decimal}
use Rattle.refusal.specs.Numbers.{number_of}
use Rattle.refusal.specs.declared.Refusal.{Refusal}
use Rattle.refusal.specs.declared.Refusal.TheVariants.{ImageLength, ImageByte}
use Rattle.part.specs.declared.image.ImageRefused.{ImageRefused}
use Rattle.part.specs.declared.image.ImageRefused.TheVariants.{Length, Byte}
use Rattle.part.specs.Layout.{address_space, from_image}

-- an image may have this byte at this address: it is 0, or it comes from the image
abbrev pub allowed : ℕ → ℕ → Bool
allowed address byte = byte == 0 || from_image address

-- the bytes from this address on are all allowed; or the lowest address where one is not
unfoldable pub clean_from : ℕ → List ℕ → Result (Unit {0}) ImageRefused
clean_from address [] = Ok tt
clean_from address (b ∷ bs) = cond (allowed address b) (clean_from (suc address) bs) (Err (Byte address))

-- an image has a byte for each address, and is 0 where the bytes do not come from it
abbrev pub image_checked : List ℕ → Result (Unit {0}) ImageRefused
image_checked bytes = cond (length bytes == address_space) (clean_from 0 bytes) (Err Length)

abbrev pub image_refusal : ImageRefused → Refusal
image_refusal Length = ImageLength
image_refusal (Byte address) = ImageByte

-- the refusal's number, and the address of a byte: 1 and 2 703
abbrev pub image_refused_text : ImageRefused → List ℕ
image_refused_text Length = decimal (number_of ImageLength)
image_refused_text (Byte address) = decimal (number_of ImageByte) ++ codes " " ++ decimal address
