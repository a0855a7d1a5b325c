-- The loop over a number's digits, at one digit.
use Rattle.std.proofs.Common.{◌≡◌, ℕ, ◌+◌, ◌<◌, ◌≤◌, true, false, List, [], ◌∷◌, length, get_or, drop, None, ap, arith, le-leb}
use borrow.Author.Tests.{lt-leb}
use Rattle.std.proofs.lemmas.List.{drop_more}
use Rattle.text.specs.Numbers.{is_digit, appended, digits_after, number_of}

module _ (digits : List ℕ) (i limit value : ℕ) (h : i < length digits) where
  pub digit_more : is_digit (get_or digits i 0) ≡ true → appended value (get_or digits i 0) ≤ limit → digits_after limit value (drop i digits) ≡ digits_after limit (appended value (get_or digits i 0)) (drop (i + 1) digits)
  unfolding digits_after
  digit_more d l = rw (drop_more digits i 0 h, d, le-leb (appended value (get_or digits i 0)) limit l)

  pub no_digit : is_digit (get_or digits i 0) ≡ false → digits_after limit value (drop i digits) ≡ None
  unfolding digits_after
  no_digit d = rw (drop_more digits i 0 h, d)

  pub too_large : is_digit (get_or digits i 0) ≡ true → limit < appended value (get_or digits i 0) → digits_after limit value (drop i digits) ≡ None
  unfolding digits_after
  too_large d l = rw (drop_more digits i 0 h, d, lt-leb (appended value (get_or digits i 0)) limit l)

-- a word that is not empty is read from its first digit
pub of_some : (limit : ℕ) (word digits : List ℕ) → digits ≡ word → 0 < length digits → number_of limit word ≡ digits_after limit 0 digits
of_some limit [] digits e h = absurd (omega (arith, ap length e))
of_some limit (c ∷ cs) digits e h = rw e
