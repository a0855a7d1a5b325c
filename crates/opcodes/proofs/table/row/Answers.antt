use Rattle.std.proofs.Common.{◌≡◌, ℕ, ◌<◌, List, map, get_or, Some, None, Option, sym, refl, ap, ◌∙◌, zero-add, rules}
use mathlib.Core.Path.{subst⁻¹}
use Rattle.std.specs.List.{range_with_len}
use Rattle.std.specs.Option.{IsSomeAnd, MatchOption}
use Rattle.std.proofs.lemmas.List.FromFn.{get_or-map-range_with_len}
use Rattle.opcodes.specs.declared.addressing.Row.{Row}
use Rattle.opcodes.specs.declared.table.Cell.{Cell}
use Rattle.opcodes.specs.Cell.{cell_of}
use Rattle.opcodes.specs.Map.{row_of}
use Rattle.opcodes.specs.Rules.{Lawful}
use Rattle.opcodes.proofs.Keeps.{keeps}
use Rattle.opcodes.proofs.table.row.Goals as goal

-- what stands at k in a list of n places that f writes
at : {A : Type 0} (f : ℕ → A) (xs : List A) (n k : ℕ) (d : A) → xs ≡ map f (range_with_len 0 n) → k < n → get_or xs k d ≡ f k
at f xs n k d e h = ap (λ l. get_or l k d) e ∙ get_or-map-range_with_len f 0 n k k d h (zero-add k)

-- the row of a cell by the names of its parts
abbrev named : Option Cell → Option Row
named None = None
named (Some x) = Some (record { operation = x.0; addressing = x.1; length = x.2; cycles = x.3 })

back : (r : Option Row) → named (cell_of r) ≡ r
back None = refl
back (Some row) = refl

mapped : (o : Option Cell) (r : Option Row) → MatchOption o (r ≡ None) (λ x. IsSomeAnd r (λ y. Some x ≡ cell_of (Some y))) → r ≡ named o
mapped None r h = h
mapped (Some x) None h = absurd h
mapped (Some x) (Some y) h = sym (ap named h)

pub returns : goal.returns
unfolding row_of
returns c =
    let k = c.from.result in
    let stands = at (λ (i : ℕ). cell_of (row_of i)) _ 256 k None refl (search rules) in
    let is = mapped _ _ c.map.ensures.cases ∙ ap named stands ∙ back (row_of k) ∙ ap row_of c.from.ensures in
    record { is = is; lawful = subst⁻¹ (Lawful c.args.code) is (keeps c.args.code (search rules)) }
