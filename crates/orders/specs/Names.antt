-- The names of the machine's calls.
use Rattle.std.specs.Prelude.{ℕ, List, [], ◌∷◌, codes, Option}
use Rattle.script.specs.Names.{lookup}

pub data Name : Type 0 where
  Load Step Steps Run State Show Trace : Name

abbrev pub names : List (List ℕ × Name)
names =
    (codes "load", Load) ∷ (codes "step", Step) ∷ (codes "steps", Steps) ∷ (codes "run", Run)
    ∷ (codes "state", State) ∷ (codes "show", Show) ∷ (codes "trace", Trace) ∷ []

abbrev pub name_of : List ℕ → Option Name
name_of word = lookup names word
