use Rattle.std.proofs.Common.{◌≡◌, arith, rules, tests}
use Rattle.std.proofs.lemmas.Iterator.{first_from_Range}
use Rattle.listing.specs.Line.{byte_at}
use Rattle.listing.proofs.Zeros.{found_zeros}
use Rattle.listing.proofs.sweep.past_zeros.Goals as goal

pub returns : goal.returns
returns c =
    let image = c.args.image.now in
    found_zeros image c.args.from c.find.result
    (first_from_Range _ _ _ _ (λ i. byte_at image i ≡ 0 → ⊥) (λ i. byte_at image i ≡ 0) c.find.ensures.ran
    (λ x q k. grind (arith, tests))
    (λ x q k. (search rules, grind (arith, tests))))
