-- What `{:02X}` and `{:04X}` write, in the words of specs/Hex.
use Rattle.std.proofs.Common.{◌≡◌, ℕ, ◌-◌, ◌/◌, ◌%◌, ◌^◌, ◌<◌, ◌≤◌, suc, true, false, List, [], ◌∷◌, ◌++◌, Some, eq-eqb, ne_eqb, inl, inr, ◌∙◌, arith}
use Rattle.std.specs.Fmt.{decimal, digits_output, styled_digits_output, digits, digits_onto, digit_glyph, padded_integral, format_spec, char_count}
use Rattle.std.proofs.lemmas.Fmt.{hex_byte, hex_one_digit, hex_two_digits, decimal_digit}
use Rattle.std.proofs.lemmas.Bool.{cases_lt}
use Rattle.opcodes.specs.declared.operation.Bit.{Bit}
use Rattle.opcodes.specs.declared.operation.Bit.TheVariants.{Bit0, Bit1, Bit2, Bit3, Bit4, Bit5, Bit6, Bit7}
use Rattle.opcodes.specs.Hex.{hex_digit, two_digits}
use Rattle.opcodes.specs.Operand.{bit_number}

byte_written : (n : ℕ) → n < 256 → padded_integral (format_spec 32 0 4 2 (2 ^ 64 - 1)) false [] (digits 16 true n) ≡ two_digits n
byte_written n h = hex_byte true n h

module _ (k n : ℕ) (acc : List ℕ) where
  last : n / 16 ≡ 0 → digits_onto (suc k) 16 true n acc ≡ digit_glyph true (n % 16) ∷ acc
  last e = rw (eq-eqb (n / 16) 0 e)

  step : (n / 16 ≡ 0 → ⊥) → digits_onto (suc k) 16 true n acc ≡ digits_onto k 16 true (n / 16) (digit_glyph true (n % 16) ∷ acc)
  step e = rw (ne_eqb (n / 16) 0 e)

three_digits : (n : ℕ) → 256 ≤ n → n < 4096
    → digits 16 true n ≡ digit_glyph true (n / 16 / 16 % 16) ∷ digit_glyph true (n / 16 % 16) ∷ digit_glyph true (n % 16) ∷ []
unfolding digits
three_digits n large small =
    step 63 n _ (omega arith) ∙ step 62 (n / 16) _ (omega arith) ∙ last 61 (n / 16 / 16) _ (omega arith)

four_digits : (n : ℕ) → 4096 ≤ n → n < 65536
    → digits 16 true n ≡ digit_glyph true (n / 16 / 16 / 16 % 16) ∷ digit_glyph true (n / 16 / 16 % 16) ∷ digit_glyph true (n / 16 % 16) ∷ digit_glyph true (n % 16) ∷ []
unfolding digits
four_digits n large small =
    step 63 n _ (omega arith) ∙ step 62 (n / 16) _ (omega arith) ∙ step 61 (n / 16 / 16) _ (omega arith) ∙ last 60 (n / 16 / 16 / 16) _ (omega arith)

word_written : (n : ℕ) → n < 65536 → padded_integral (format_spec 32 0 4 4 (2 ^ 64 - 1)) false [] (digits 16 true n) ≡ two_digits (n / 256) ++ two_digits (n % 256)
unfolding padded_integral char_count
word_written n h =
    let a : n / 256 / 16 ≡ n / 16 / 16 / 16 % 16 = omega arith in
    let b : n / 256 % 16 ≡ n / 16 / 16 % 16 = omega arith in
    let c : n % 256 / 16 ≡ n / 16 % 16 = omega arith in
    let d : n % 256 % 16 ≡ n % 16 = omega arith in
    rw (a, b, c, d) (elim (cases_lt n 16) [
      | inl w ↦
          let a0 : n / 16 / 16 / 16 % 16 ≡ 0 = omega arith in
          let b0 : n / 16 / 16 % 16 ≡ 0 = omega arith in
          let c0 : n / 16 % 16 ≡ 0 = omega arith in
          let d0 : n % 16 ≡ n = omega arith in
          rw (hex_one_digit true n w, a0, b0, c0, d0)
      | inr v ↦ elim (cases_lt n 256) [
        | inl w ↦
            let a0 : n / 16 / 16 / 16 % 16 ≡ 0 = omega arith in
            let b0 : n / 16 / 16 % 16 ≡ 0 = omega arith in
            let c0 : n / 16 % 16 ≡ n / 16 = omega arith in
            rw (hex_two_digits true n v w, a0, b0, c0)
        | inr v ↦ elim (cases_lt n 4096) [
          | inl w ↦ let a0 : n / 16 / 16 / 16 % 16 ≡ 0 = omega arith in rw (three_digits n v w, a0)
          | inr v ↦ rw (four_digits n v h)
        ]
      ]
    ])

-- the same as a hole's output
pub byte_output : (d : _) (s : _) (n : ℕ) → n < 256 → digits_output d ≡ Some (digits 16 true n) → s ≡ format_spec 32 0 4 2 (2 ^ 64 - 1) → styled_digits_output d s ≡ Some (two_digits n)
byte_output d s n h e f = rw (f, e, byte_written n h)

pub word_output : (d : _) (s : _) (n : ℕ) → n < 65536 → digits_output d ≡ Some (digits 16 true n) → s ≡ format_spec 32 0 4 4 (2 ^ 64 - 1) → styled_digits_output d s ≡ Some (two_digits (n / 256) ++ two_digits (n % 256))
word_output d s n h e f = rw (f, e, word_written n h)

-- a bit's number is one digit in either base
pub bit_digit : (b : Bit) (n : ℕ) → n ≡ bit_number b → decimal n ≡ hex_digit (bit_number b)
bit_digit Bit0 n e = rw e (decimal_digit 0 (omega arith))
bit_digit Bit1 n e = rw e (decimal_digit 1 (omega arith))
bit_digit Bit2 n e = rw e (decimal_digit 2 (omega arith))
bit_digit Bit3 n e = rw e (decimal_digit 3 (omega arith))
bit_digit Bit4 n e = rw e (decimal_digit 4 (omega arith))
bit_digit Bit5 n e = rw e (decimal_digit 5 (omega arith))
bit_digit Bit6 n e = rw e (decimal_digit 6 (omega arith))
bit_digit Bit7 n e = rw e (decimal_digit 7 (omega arith))
