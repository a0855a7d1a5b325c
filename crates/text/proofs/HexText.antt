-- What `{:02x}`, `{:04x}` and `{:08x}` write.
use Rattle.std.proofs.Common.{◌≡◌, ℕ, zero, suc, ◌+◌, ◌-◌, ◌*◌, ◌/◌, ◌%◌, ◌^◌, ◌<◌, ◌≤◌, true, false, eqb, List, [], ◌∷◌, ◌++◌, length, Some, replicate, sym, refl, ap, ◌∙◌, append-nil, inl, inr, arith, eq-eqb}
use Rattle.std.specs.Fmt.{digits, digits_onto, digit_glyph, char_count, digits_output, styled_digits_output, padded_integral, format_spec}
use Rattle.std.proofs.lemmas.Bool.{cases_Bool, eqb-true}
use Rattle.std.proofs.lemmas.Fmt.{hex_byte}
use Rattle.text.specs.HexText.{byte_text, word_text, quad_text, bytes_text}

-- the last w digits of n, followed by acc
abbrev pub fixed : ℕ → ℕ → List ℕ → List ℕ
fixed zero n acc = acc
fixed (suc w) n acc = fixed w (n / 16) (digit_glyph false (n % 16) ∷ acc)

zeros_more : (w : ℕ) (acc : List ℕ) → replicate w 48 ++ (48 ∷ acc) ≡ 48 ∷ (replicate w 48 ++ acc)
zeros_more zero acc = refl
zeros_more (suc w) acc = ap (λ xs. 48 ∷ xs) (zeros_more w acc)

fixed_zeros : (w : ℕ) (acc : List ℕ) → fixed w 0 acc ≡ replicate w 48 ++ acc
fixed_zeros zero acc = refl
fixed_zeros (suc w) acc = fixed_zeros w (48 ∷ acc) ∙ zeros_more w acc

-- n has w digits or fewer behind its first
abbrev Below : ℕ → ℕ → Type 0
Below zero n = n < 16
Below (suc w) n = Below w (n / 16)

-- zeros before the digits of a number make as many as are wanted
padded : (k w n : ℕ) (acc : List ℕ) → w ≤ k → Below w n → (total : ℕ) → total ≡ suc w + length acc → replicate (total - length (digits_onto (suc k) 16 false n acc)) 48 ++ digits_onto (suc k) 16 false n acc ≡ fixed (suc w) n acc
padded k zero n acc h b total e =
    let last : eqb (n / 16) 0 ≡ true = eq-eqb (n / 16) 0 (omega arith) in
    let none : total - suc (length acc) ≡ 0 = omega arith in
    rw (last, none)
padded zero (suc w) n acc h b total e = absurd (omega arith)
padded (suc k) (suc w) n acc h b total e =
    let more = digit_glyph false (n % 16) ∷ acc in
    elim (cases_Bool (eqb (n / 16) 0)) [
      | inl t ↦
          let left : total - suc (length acc) ≡ suc w = omega arith in
          let none : 0 ≡ n / 16 = sym (eqb-true (n / 16) 0 t) in
          rw (t, left) (sym (fixed_zeros (suc w) more) ∙ ap (λ m. fixed (suc w) m more) none)
      | inr f ↦ rw f (padded k w (n / 16) more (omega arith) b total (omega arith))
    ]

pub byte_shown : (n : ℕ) → n < 256 → padded_integral (format_spec 32 0 4 2 (2 ^ 64 - 1)) false [] (digits 16 false n) ≡ byte_text n
byte_shown n small = let high : n / 16 % 16 ≡ n / 16 = omega arith in hex_byte false n small

zero_padded : (w : ℕ) (ds : List ℕ) → 0 < w → padded_integral (format_spec 32 0 4 w (2 ^ 64 - 1)) false [] ds ≡ replicate (w - length ds) 48 ++ ds
unfolding padded_integral char_count
zero_padded w ds h =
    let none : w - length ds - 0 - 0 ≡ w - length ds = omega arith in
    rw (none, append-nil ds)

digits_are : (n : ℕ) → digits 16 false n ≡ digits_onto 64 16 false n []
unfolding digits
digits_are n = refl

all_digits : (w n : ℕ) → w ≤ 63 → Below w n → padded_integral (format_spec 32 0 4 (suc w) (2 ^ 64 - 1)) false [] (digits 16 false n) ≡ fixed (suc w) n []
all_digits w n h b =
    zero_padded (suc w) (digits 16 false n) (omega arith)
    ∙ ap (λ ds. replicate (suc w - length ds) 48 ++ ds) (digits_are n)
    ∙ padded 63 w n [] h b (suc w) (omega arith)

pub word_shown : (n : ℕ) → n < 65536 → padded_integral (format_spec 32 0 4 4 (2 ^ 64 - 1)) false [] (digits 16 false n) ≡ word_text n
word_shown n small =
    let a : n / 16 / 16 / 16 % 16 ≡ n / 256 / 16 = omega arith in
    let b : n / 16 / 16 % 16 ≡ n / 256 % 16 = omega arith in
    let c : n / 16 % 16 ≡ n % 256 / 16 = omega arith in
    let d : n % 16 ≡ n % 256 % 16 = omega arith in
    all_digits 3 n (omega arith) (omega arith) ∙ rw (a, b, c, d)

pub quad_shown : (n : ℕ) → n < 2 ^ 32 → padded_integral (format_spec 32 0 4 8 (2 ^ 64 - 1)) false [] (digits 16 false n) ≡ quad_text n
quad_shown n small =
    let h = n / 65536 in
    let l = n % 65536 in
    let a : n / 16 / 16 / 16 / 16 / 16 / 16 / 16 % 16 ≡ h / 256 / 16 = omega arith in
    let b : n / 16 / 16 / 16 / 16 / 16 / 16 % 16 ≡ h / 256 % 16 = omega arith in
    let c : n / 16 / 16 / 16 / 16 / 16 % 16 ≡ h % 256 / 16 = omega arith in
    let d : n / 16 / 16 / 16 / 16 % 16 ≡ h % 256 % 16 = omega arith in
    let e : n / 16 / 16 / 16 % 16 ≡ l / 256 / 16 = omega arith in
    let f : n / 16 / 16 % 16 ≡ l / 256 % 16 = omega arith in
    let g : n / 16 % 16 ≡ l % 256 / 16 = omega arith in
    let i : n % 16 ≡ l % 256 % 16 = omega arith in
    all_digits 7 n (omega arith) (omega arith) ∙ rw (a, b, c, d, e, f, g, i)

-- the same as a hole's output
pub byte_output : (d : _) (s : _) (n : ℕ) → n < 256 → digits_output d ≡ Some (digits 16 false n) → s ≡ format_spec 32 0 4 2 (2 ^ 64 - 1) → styled_digits_output d s ≡ Some (byte_text n)
byte_output d s n small e f = rw (f, e, byte_shown n small)

pub word_output : (d : _) (s : _) (n : ℕ) → n < 65536 → digits_output d ≡ Some (digits 16 false n) → s ≡ format_spec 32 0 4 4 (2 ^ 64 - 1) → styled_digits_output d s ≡ Some (word_text n)
word_output d s n small e f = rw (f, e, word_shown n small)

pub quad_output : (d : _) (s : _) (n : ℕ) → n < 2 ^ 32 → digits_output d ≡ Some (digits 16 false n) → s ≡ format_spec 32 0 4 8 (2 ^ 64 - 1) → styled_digits_output d s ≡ Some (quad_text n)
quad_output d s n small e f = rw (f, e, quad_shown n small)

-- the digits of four bytes are those of the number that they make, the highest byte first
pub four_shown : (a b c d n : ℕ) → a < 256 → b < 256 → c < 256 → d < 256 → n ≡ a * 16777216 + b * 65536 + c * 256 + d → quad_text n ≡ bytes_text (a ∷ b ∷ c ∷ d ∷ [])
unfolding bytes_text
four_shown a b c d n a' b' c' d' is =
    let at_a : n / 65536 / 256 ≡ a = omega arith in
    let at_b : n / 65536 % 256 ≡ b = omega arith in
    let at_c : n % 65536 / 256 ≡ c = omega arith in
    let at_d : n % 65536 % 256 ≡ d = omega arith in
    rw (at_a, at_b, at_c, at_d)
