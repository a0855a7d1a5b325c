use Rattle.std.proofs.Common.{rules, refl, sym, ap, ◌∙◌}
use borrow.Author.Tests.{tests}
use Rattle.std.specs.Option.{option_map}
use Rattle.std.proofs.lemmas.Iterator.{YieldsList-from_range, YieldsList-from_slice, YieldsList-from_zip}
use Rattle.std.proofs.lemmas.Iterator.Search.{find_from_yields_List}
use Rattle.part.proofs.Images.{stray, verdict, image_by_find}
use Rattle.part.proofs.image.check_image.Goals as goal

pub returns-in-Some : goal.returns-in-Some
returns-in-Some c =
    let bytes = c.args.bytes.now in
    let f = find_from_yields_List stray c.find.new.self _ c.find.result c.find.ensures.ran (YieldsList-from_zip (YieldsList-from_range 0 2048 2048 (cc) refl) (YieldsList-from_slice bytes (cc))) (λ x b q k. search (rules, tests)) in
    ap (λ r. verdict (option_map (λ p. (p.0, p.1.now)) r)) (sym c.in-Some.is) ∙ ap verdict f ∙ image_by_find bytes (c.if-bytes-from.false ∙ c.from.ensures)

pub returns-in-None : goal.returns-in-None
returns-in-None c =
    let bytes = c.args.bytes.now in
    let f = find_from_yields_List stray c.find.new.self _ c.find.result c.find.ensures.ran (YieldsList-from_zip (YieldsList-from_range 0 2048 2048 (cc) refl) (YieldsList-from_slice bytes (cc))) (λ x b q k. search (rules, tests)) in
    ap (λ r. verdict (option_map (λ p. (p.0, p.1.now)) r)) (sym c.in-None.is) ∙ ap verdict f ∙ image_by_find bytes (c.if-bytes-from.false ∙ c.from.ensures)
