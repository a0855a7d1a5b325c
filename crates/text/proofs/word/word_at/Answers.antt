use Rattle.std.proofs.Common.{sym, ap, ◌∙◌, arith}
use Rattle.std.proofs.lemmas.Iterator.Consumers.{nth_from_yields_List}
use Rattle.std.proofs.lemmas.Iterator.Splits.{YieldsList-from_str_split}
use Rattle.text.specs.Words.{nth}
use Rattle.text.proofs.Words.{words_split, nth_is}
use Rattle.text.proofs.word.word_at.Goals as goal

pub returns : goal.returns
returns c =
    let parts = YieldsList-from_str_split 32 c.args.line.now (omega arith) c.split.ensures.text c.split.ensures.has_more c.split.ensures.pattern in
    nth_from_yields_List _ _ c.args.index c.nth.ensures.ran parts
    ∙ sym (ap (λ ws. nth ws c.args.index) (words_split c.args.line.now) ∙ nth_is _ c.args.index)
