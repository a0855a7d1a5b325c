-- Rotates with a bit put in are the moves, tested at each byte.
use Rattle.std.proofs.Common.{◌≡◌, ℕ, ◌*◌, ◌/◌, ◌%◌, ◌<◌, Bool, true, false, refl}
use lib.Bits.{bit_and, bit_or}
use mir.Val.{bool_byte}
use Rattle.alu.specs.Shift.{left_value, right_value}
use Rattle.alu.proofs.Every.{same}

abbrev left_form : Bool → ℕ → ℕ
left_form b v = bit_or (bit_and (bit_or (v * 2 % 256) (v / 128)) 254) (bool_byte b)

left_form_is : (b : Bool) (v : ℕ) → v < 256 → left_form b v ≡ left_value v b
left_form_is true v h = same (left_form true) (λ v. left_value v true) 256 refl v h
left_form_is false v h = same (left_form false) (λ v. left_value v false) 256 refl v h

pub left_is : (v : ℕ) (b : Bool) (r f : ℕ) → v < 256 → r ≡ bit_or (v * 2 % 256) (v / 128) → f ≡ bool_byte b → bit_or (bit_and r 254) f ≡ left_value v b
left_is v b r f h e g = rw (e, g) (left_form_is b v h)

-- the top bit is made by a rotate too
abbrev right_form : Bool → ℕ → ℕ
right_form b v = bit_or (bit_and (bit_or (v / 2) (v * 128 % 256)) 127) (bit_or (bool_byte b / 2) (bool_byte b * 128 % 256))

right_form_is : (b : Bool) (v : ℕ) → v < 256 → right_form b v ≡ right_value v b
right_form_is true v h = same (right_form true) (λ v. right_value v true) 256 refl v h
right_form_is false v h = same (right_form false) (λ v. right_value v false) 256 refl v h

pub right_is : (v : ℕ) (b : Bool) (r f t : ℕ) → v < 256 → r ≡ bit_or (v / 2) (v * 128 % 256) → f ≡ bool_byte b → t ≡ bit_or (f / 2) (f * 128 % 256)
    → bit_or (bit_and r 127) t ≡ right_value v b
right_is v b r f t h e g k = rw (e, k, g) (right_form_is b v h)
