-- The names of the calls.
use Rattle.std.specs.Prelude.{ℕ, cond, List, [], ◌∷◌, Some, None, codes, Option}
use Rattle.std.specs.Str.{bytes_eq}

-- NoOffer: a call of the language that the program does not offer
pub data Name : Type 0 where
  Board Change Bench Bshow Badvance Btell Bquiet ListName NoOffer : Name

abbrev pub names : List (List ℕ × Name)
names =
    (codes "board", Board) ∷ (codes "change", Change) ∷ (codes "bench", Bench) ∷ (codes "bshow", Bshow)
    ∷ (codes "badvance", Badvance) ∷ (codes "btell", Btell) ∷ (codes "bquiet", Bquiet) ∷ (codes "list", ListName)
    ∷ (codes "load", NoOffer) ∷ (codes "step", NoOffer) ∷ (codes "steps", NoOffer) ∷ (codes "run", NoOffer) ∷ (codes "save", NoOffer)
    ∷ (codes "open", NoOffer) ∷ (codes "reset", NoOffer) ∷ (codes "state", NoOffer) ∷ (codes "show", NoOffer) ∷ []

-- the value that stands with the word
abbrev pub lookup : {X : Type 0} → List (List ℕ × X) → List ℕ → Option X
lookup [] word = None
lookup (p ∷ ps) word = cond (bytes_eq word p.0) (Some p.1) (lookup ps word)

abbrev pub name_of : List ℕ → Option Name
name_of word = lookup names word
