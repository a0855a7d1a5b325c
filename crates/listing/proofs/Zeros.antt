-- The first byte of a run that is not 0.
use Rattle.std.proofs.Common.{◌≡◌, ℕ, zero, suc, ◌+◌, ◌-◌, ◌<◌, ◌≤◌, List, Some, None, Option, MatchOption, eqb, inl, inr, ◌∙◌, arith, eq-eqb, ne_eqb}
use Rattle.std.proofs.lemmas.Bool.{cases_lt, cases_Bool}
use Rattle.listing.specs.Line.{byte_at}
use Rattle.listing.specs.Sweep.{sweep_end, past_zeros}

-- n zeros are passed
pub all_zeros : (image : List ℕ) (n a : ℕ) → ((k : ℕ) → a ≤ k → k < a + n → byte_at image k ≡ 0) → past_zeros image n a ≡ a + n
unfolding past_zeros
all_zeros image zero a h = omega arith
all_zeros image (suc n) a h =
    let rest : past_zeros image n (suc a) ≡ a + suc n = all_zeros image n (suc a) (λ k low high. h k (omega arith) (omega arith)) ∙ omega arith in
    rw (eq-eqb (byte_at image a) 0 (h a (omega arith) (omega arith))) rest

-- zeros are passed up to the byte that is none
pub some_zeros : (image : List ℕ) (n a i : ℕ) → a ≤ i → i < a + n → ((k : ℕ) → a ≤ k → k < i → byte_at image k ≡ 0) → (byte_at image i ≡ 0 → ⊥) → past_zeros image n a ≡ i
unfolding past_zeros
some_zeros image zero a i low high h miss = absurd (omega arith)
some_zeros image (suc n) a i low high h miss = elim (cases_lt a i) [
  | inl before ↦
      let rest : past_zeros image n (suc a) ≡ i = some_zeros image n (suc a) i (omega arith) (omega arith) (λ k l u. h k (omega arith) u) miss in
      rw (eq-eqb (byte_at image a) 0 (h a (omega arith) before)) rest
  | inr here ↦ let same : a ≡ i = omega arith in rw (same, ne_eqb (byte_at image i) 0 miss)
]

-- what a search for that byte finds
pub found_zeros : (image : List ℕ) (from : ℕ) (r : Option ℕ)
    → MatchOption r ((k : ℕ) → from ≤ k → k < sweep_end → byte_at image k ≡ 0) (λ i. (from ≤ i) × (i < sweep_end) × (byte_at image i ≡ 0 → ⊥) × ((k : ℕ) → from ≤ k → k < i → byte_at image k ≡ 0))
    → MatchOption r (sweep_end ≤ past_zeros image (sweep_end - from) from) (λ at. (at ≡ past_zeros image (sweep_end - from) from) × (at < sweep_end))
found_zeros image from None h = let all = all_zeros image (sweep_end - from) from (λ k low high. h k low (omega arith)) in omega arith
found_zeros image from (Some i) h = let here = some_zeros image (sweep_end - from) from i h.0 (omega arith) h.3 h.2 in (omega arith, h.1)

-- no address before
pub not_before : (image : List ℕ) (n a : ℕ) → a ≤ past_zeros image n a
unfolding past_zeros
not_before image zero a = omega arith
not_before image (suc n) a = let rest = not_before image n (suc a) in elim (cases_Bool (eqb (byte_at image a) 0)) [
  | inl t ↦ rw t (omega arith)
  | inr f ↦ rw f (omega arith)
]
