-- What a test computed at each number below n says of each.
use Rattle.std.proofs.Common.{◌≡◌, ℕ, zero, suc, ◌<◌, Bool, true, ◌&&◌, eqb, refl}
use Rattle.std.proofs.lemmas.Bool.Decides.{Decides-below_and, Decides-eqb}

abbrev pub every : (ℕ → Bool) → ℕ → Bool
every f zero = true
every f (suc n) = f n && every f n

-- a test that holds at all of them holds at each
pub at_each : (f : ℕ → Bool) (n : ℕ) → every f n ≡ true → (k : ℕ) → k < n → f k ≡ true
at_each f n t = (Decides-below_and f (λ k. f k ≡ true) (every f) (λ k. (λ e. e, λ e. e)) refl (λ n. refl) n).0 t

-- two functions that are the same at all of them
pub same : (f g : ℕ → ℕ) (n : ℕ) → every (λ k. eqb (f k) (g k)) n ≡ true → (k : ℕ) → k < n → f k ≡ g k
same f g n t k h = (Decides-eqb (f k) (g k)).0 (at_each (λ k. eqb (f k) (g k)) n t k h)
