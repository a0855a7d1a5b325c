-- Each code's row keeps the rules: one test, computed at all codes.
use Rattle.std.proofs.Common.{◌≡◌, ℕ, zero, suc, ◌<◌, ◌≤◌, Bool, true, ◌&&◌, eqb, leb, Some, None, Option, refl, arith}
use Rattle.std.proofs.lemmas.Bool.Decides.{nat_tests, Decides-below_and}
use Rattle.opcodes.specs.declared.addressing.Row.{Row}
use Rattle.opcodes.specs.Cycles.{cycles_of}
use Rattle.opcodes.specs.Map.{row_of, length_of}
use Rattle.opcodes.specs.Rules.{Lawful}

abbrev test : ℕ → Option Row → Bool
test code None = true
test code (Some row) =
    eqb row.cycles (cycles_of code) && leb 2 row.cycles && leb row.cycles 11
    && eqb row.length (length_of row.addressing) && leb 1 row.length && leb row.length 3

parts : (n c l a : ℕ) → (eqb n c && leb 2 n && leb n 11 && eqb l a && leb 1 l && leb l 3) ≡ true
    → (n ≡ c) × (2 ≤ n) × (n ≤ 11) × (l ≡ a) × (1 ≤ l) × (l ≤ 3)
parts n c l a h = grind (arith, nat_tests)

lawful : (code : ℕ) (r : Option Row) → test code r ≡ true → Lawful code r
lawful code None t = tt
lawful code (Some row) t =
    let p = parts row.cycles (cycles_of code) row.length (length_of row.addressing) t in
    record { cycles = p.0; quickest = p.1; slowest = p.2; length = p.3; shortest = p.4; longest = p.5 }

abbrev tested : ℕ → Bool
tested code = test code (row_of code)

abbrev below : ℕ → Bool
below zero = true
below (suc n) = tested n && below n

pub keeps : (code : ℕ) → code < 256 → Lawful code (row_of code)
unfolding row_of
keeps code h =
    let all = Decides-below_and tested (λ k. tested k ≡ true) below (λ k. (λ e. e, λ e. e)) refl (λ n. refl) 256 in
    lawful code (row_of code) (all.0 refl code h)
