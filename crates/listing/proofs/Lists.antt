-- The loop over the lines of a listing, at one line.
use Rattle.std.proofs.Common.{◌≡◌, ℕ, zero, suc, ◌+◌, ◌-◌, ◌<◌, ◌≤◌, ltb, List, [], ◌∷◌, ◌++◌, Some, None, Option, refl, sym, ap, subst, inl, inr, ◌∙◌, append_assoc, append-nil, arith}
use Rattle.std.proofs.lemmas.Bool.{cases_Bool, ltb-true, cond-true, cond-false}
use Rattle.opcodes.specs.declared.addressing.Row.{Row}
use Rattle.opcodes.specs.Rules.{Lawful}
use Rattle.opcodes.proofs.Keeps.{keeps}
use Rattle.listing.specs.declared.line.Line.{Line}
use Rattle.listing.specs.Line.{byte_at, line_at, row_length, length_of}
use Rattle.listing.specs.Sweep.{sweep_end, blank, resumes_at, followed, next_line, lines_from}
use Rattle.listing.proofs.Zeros.{not_before}

not_empty : (code : ℕ) (row : Option Row) → Lawful code row → 1 ≤ row_length row
not_empty code None h = omega arith
not_empty code (Some row) h = h.shortest

resumes_later : (image : List ℕ) (at : ℕ) → at ≤ resumes_at image at
resumes_later image at = elim (cases_Bool (blank image at)) [
  | inl t ↦ rw t (not_before image (sweep_end - at) at)
  | inr f ↦ rw f (omega arith)
]

-- where a line stands, and where the next one begins
pub record Ahead (at : ℕ) (l : Line) : Type 0 where
  pub later : at ≤ l.address
  pub within : l.address < sweep_end
  pub longer : 1 ≤ length_of l

module _ (image : List ℕ) (bytes : (k : ℕ) → byte_at image k < 256) where
  ahead : (at : ℕ) → resumes_at image at < sweep_end → Ahead at (line_at image (resumes_at image at))
  ahead at h = record {
    later = resumes_later image at;
    within = h;
    longer = not_empty _ _ (keeps (byte_at image (resumes_at image at)) (bytes (resumes_at image at)));
  }

  -- enough turns are as good as more
  pub same_lines : (n m at : ℕ) → sweep_end - at < n → sweep_end - at < m → lines_from n image at ≡ lines_from m image at
  unfolding lines_from
  same_lines zero m at h k = absurd (omega arith)
  same_lines (suc n) zero at h k = absurd (omega arith)
  same_lines (suc n) (suc m) at h k =
      let a = resumes_at image at in
      let l = line_at image a in
      elim (cases_Bool (ltb a sweep_end)) [
        | inl t ↦ let p = ahead at (ltb-true a sweep_end t) in rw t (ap (λ ls. l ∷ ls) (same_lines n m (a + length_of l) (omega arith) (omega arith)))
        | inr f ↦ rw f
      ]

  pub line_ahead : (at : ℕ) (l : Line) → Some l ≡ next_line image at → Ahead at l
  line_ahead at l e =
      let a = resumes_at image at in
      elim (cases_Bool (ltb a sweep_end)) [
        | inl t ↦ let same : line_at image a ≡ l = cc (e ∙ cond-true _ _ _ t) in subst (λ x. Ahead at x) same (ahead at (ltb-true a sweep_end t))
        | inr f ↦ cc (e ∙ cond-false _ _ _ f)
      ]

  step : (n at : ℕ) → lines_from (suc n) image at ≡ followed (next_line image at) (λ l. lines_from n image (l.address + length_of l))
  unfolding lines_from
  step n at = refl

  pub lines_more : (at : ℕ) (l : Line) (xs : List Line) → Some l ≡ next_line image at → xs ++ lines_from (suc (sweep_end - at)) image at ≡ (xs ++ (l ∷ [])) ++ lines_from (suc (sweep_end - (l.address + length_of l))) image (l.address + length_of l)
  lines_more at l xs e =
      let p = line_ahead at l e in
      let next = l.address + length_of l in
      let rest = same_lines (sweep_end - at) (suc (sweep_end - next)) next (omega arith) (omega arith) in
      ap (λ ls. xs ++ ls) (step (sweep_end - at) at ∙ ap (λ o. followed o (λ m. lines_from (sweep_end - at) image (m.address + length_of m))) (sym e) ∙ ap (λ ls. l ∷ ls) rest)
      ∙ sym (append_assoc xs (l ∷ []) (lines_from (suc (sweep_end - next)) image next))

pub lines_stop : (image : List ℕ) (at : ℕ) (xs : List Line) → None ≡ next_line image at → xs ++ lines_from (suc (sweep_end - at)) image at ≡ xs
unfolding lines_from
lines_stop image at xs e = rw (← e) (append-nil xs)
