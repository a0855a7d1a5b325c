-- The check of an image, as the search for the first byte that it may not have.
use Rattle.std.proofs.Common.{◌≡◌, ℕ, Bool, true, false, not, cond, Ok, Err, Result, Some, None, Option, List, [], ◌∷◌, length, suc, subst, refl, ◌∙◌, add-one, eq-eqb}
use Rattle.std.specs.List.{find, zip, range_with_len}
use Rattle.part.specs.declared.image.ImageRefused.{ImageRefused}
use Rattle.part.specs.declared.image.ImageRefused.TheVariants.{Byte}
use Rattle.part.specs.Image.{allowed, clean_from, image_checked}
use Rattle.part.specs.Layout.{address_space}

-- a byte that an image may not have at this address
abbrev pub stray : ℕ × ℕ → Bool
stray place = not (allowed place.0 place.1)

abbrev pub verdict : Option (ℕ × ℕ) → Result (Unit {0}) ImageRefused
verdict None = Ok tt
verdict (Some place) = Err (Byte place.0)

one : (ok : Bool) (a b : ℕ) (rest : Option (ℕ × ℕ)) (r : Result (Unit {0}) ImageRefused) → verdict rest ≡ r
    → verdict (cond (not ok) (Some (a, b)) rest) ≡ cond ok r (Err (Byte a))
one true a b rest r h = h
one false a b rest r h = refl

-- from this address on, the first stray byte decides
found : (a : ℕ) (bs : List ℕ) → verdict (find stray (zip (range_with_len a (length bs)) bs)) ≡ clean_from a bs
unfolding clean_from
found a [] = refl
found a (b ∷ bs) = one (allowed a b) a b _ _ (rw add-one (found (suc a) bs))

-- a string of the right length is an image if it has none
pub image_by_find : (bs : List ℕ) → length bs ≡ address_space → verdict (find stray (zip (range_with_len 0 2048) bs)) ≡ image_checked bs
image_by_find bs e = subst (λ n. verdict (find stray (zip (range_with_len 0 n) bs)) ≡ clean_from 0 bs) e (found 0 bs) ∙ rw (eq-eqb (length bs) address_space e)
