-- Facts about the columns that keys join with rows.
use Rattle.std.proofs.Common.{◌≡◌, ℕ, ◌+◌, ◌*◌, ◌/◌, ◌%◌, ◌^◌, ◌<◌, eqb, sym, ap, ◌∙◌, inl, inr, arith}
use lib.Bits.{bit_and, bit_or, or_block, or_lt, and_lt, and_mask, and_comm, and_zero_l}
use Rattle.std.proofs.lemmas.Nat.{shr-shr, mod-pow-add}
use Rattle.std.proofs.lemmas.Bool.{cases_Bool, cond-true, cond-false, eqb-true, eqb-false}
use Rattle.board.specs.Matrix.{bit, four_bits, joins, row, columns}

-- the same number, from its highest bit down
abbrev stacked : (ℕ → ℕ) → ℕ
stacked f = ((f 3 * 2 + f 2) * 2 + f 1) * 2 + f 0

stack : (f : ℕ → ℕ) → four_bits f ≡ stacked f
stack f = omega arith

-- OR goes bit by bit
or_bits : (f g : ℕ → ℕ) → ((c : ℕ) → f c < 2) → ((c : ℕ) → g c < 2) → bit_or (four_bits f) (four_bits g) ≡ four_bits (λ c. bit_or (f c) (g c))
or_bits f g hf hg =
    let two = or_block 1 (f 3) (g 3) (f 2) (g 2) (hf 2) (hg 2) in
    let three = or_block 1 (f 3 * 2 + f 2) (g 3 * 2 + g 2) (f 1) (g 1) (hf 1) (hg 1) in
    let four = or_block 1 ((f 3 * 2 + f 2) * 2 + f 1) ((g 3 * 2 + g 2) * 2 + g 1) (f 0) (g 0) (hf 0) (hg 0) in
    ap (λ x. bit_or x (four_bits g)) (stack f) ∙ ap (bit_or (stacked f)) (stack g) ∙ omega arith

joins_below : (keys rows r c : ℕ) → joins keys rows r c < 2
joins_below keys rows r c = and_lt 1 (bit rows r) (bit keys (4 * r + c)) (omega arith) (omega arith)

-- the keys of a row, bit by bit
module _ (keys rows r : ℕ) where
  key_shown : bit rows r ≡ 1 → (c : ℕ) → joins keys rows r c ≡ bit (keys / 2 ^ (4 * r)) c
  key_shown h c =
      let key = bit keys (4 * r + c) in
      let once : key % 2 ≡ key = omega arith in
      ap (λ b. bit_and b key) h ∙ and_comm 1 key ∙ and_mask key 1 ∙ once ∙ ap (λ n. n % 2) (sym (shr-shr keys (4 * r) c))

  row_shown : bit rows r ≡ 1 → keys / 2 ^ (4 * r) % 16 ≡ four_bits (joins keys rows r)
  row_shown h =
      let n = keys / 2 ^ (4 * r) in
      let k = key_shown h in
      omega (arith, k 0, k 1, k 2, k 3, mod-pow-add n 1 1, mod-pow-add n 1 2, mod-pow-add n 1 3)

  row_off : bit rows r ≡ 0 → 0 ≡ four_bits (joins keys rows r)
  row_off h =
      let off : (c : ℕ) → joins keys rows r c ≡ 0 = λ c. ap (λ b. bit_and b (bit keys (4 * r + c))) h ∙ and_zero_l (bit keys (4 * r + c)) in
      omega (arith, off 0, off 1, off 2, off 3)

  row_is : row keys rows r ≡ four_bits (joins keys rows r)
  row_is = elim (cases_Bool (eqb (bit rows r) 1)) [
    | inl t ↦ cond-true _ _ _ t ∙ row_shown (eqb-true (bit rows r) 1 t)
    | inr f ↦ cond-false _ _ _ f ∙ row_off (let off = eqb-false (bit rows r) 1 f in omega arith)
  ]

-- the four rows together
pub rows_are : (keys rows : ℕ) → bit_or (bit_or (bit_or (row keys rows 0) (row keys rows 1)) (row keys rows 2)) (row keys rows 3) ≡ columns keys rows
unfolding columns
rows_are keys rows =
    let f : ℕ → ℕ → ℕ = λ r c. joins keys rows r c in
    let below : (r c : ℕ) → f r c < 2 = joins_below keys rows in
    let two : (c : ℕ) → bit_or (f 0 c) (f 1 c) < 2 = λ c. or_lt 1 (f 0 c) (f 1 c) (below 0 c) (below 1 c) in
    let three : (c : ℕ) → bit_or (bit_or (f 0 c) (f 1 c)) (f 2 c) < 2 = λ c. or_lt 1 (bit_or (f 0 c) (f 1 c)) (f 2 c) (two c) (below 2 c) in
    let first = or_bits (f 0) (f 1) (below 0) (below 1) in
    let second = or_bits (λ c. bit_or (f 0 c) (f 1 c)) (f 2) two (below 2) in
    let third = or_bits (λ c. bit_or (bit_or (f 0 c) (f 1 c)) (f 2 c)) (f 3) three (below 3) in
    cc (row_is keys rows 0, row_is keys rows 1, row_is keys rows 2, row_is keys rows 3)
