-- The words of a line as the parts between its spaces.
use Rattle.std.proofs.Common.{◌≡◌, ℕ, zero, suc, cond, eqb, List, [], ◌∷◌, refl, ap, ◌∙◌}
use Rattle.std.specs.List.{slice_split, onto_first, slice_get}
use Rattle.text.specs.Words.{longer, words, nth}

longer_is : (c : ℕ) (ws : List (List ℕ)) → longer c ws ≡ onto_first c ws
longer_is c [] = refl
longer_is c (w ∷ ws) = refl

pub words_split : (line : List ℕ) → words line ≡ slice_split (λ b. eqb b 32) line
unfolding words
words_split [] = refl
words_split (c ∷ cs) = ap (λ ws. cond (eqb c 32) ([] ∷ ws) (longer c ws)) (words_split cs) ∙ ap (cond (eqb c 32) ([] ∷ slice_split (λ b. eqb b 32) cs)) (longer_is c (slice_split (λ b. eqb b 32) cs))

pub nth_is : {X : Type 0} (xs : List X) (i : ℕ) → nth xs i ≡ slice_get xs i
unfolding nth
nth_is [] i = refl
nth_is (x ∷ xs) zero = refl
nth_is (x ∷ xs) (suc i) = nth_is xs i
