use Rattle.std.proofs.Common.{◌≡◌, ◌+◌, ◌*◌, ◌<◌, ◌≤◌, length, get_or, sym, ◌∙◌, arith}
use borrow.Author.Tests.{eqb-false}
use Rattle.std.proofs.lemmas.List.{at_drop_all}
use Rattle.text.specs.Numbers.{digits_after, appended}
use Rattle.text.proofs.Digits.{digit_more, no_digit, too_large, of_some}
use Rattle.text.proofs.number.number.Goals as goal

pub returns-then-not-is_ascii_digit : goal.returns-then-not-is_ascii_digit
returns-then-not-is_ascii_digit c =
    let ds = c.as_bytes-digits.result.now in
    let stop = no_digit ds c.loop-digit.digit-index c.args.limit c.loop-digit.value c.loop-digit-test.true (sym c.if-not-is_ascii_digit.ensures.value) in
    record { is = sym (of_some c.args.limit c.args.word.now ds c.as_bytes-digits.ensures.value (omega arith) ∙ c.loop-digit.invariant.0 ∙ stop); within = tt }

pub returns-then-longer-from : goal.returns-then-longer-from
returns-then-longer-from c =
    let ds = c.as_bytes-digits.result.now in
    let above : c.args.limit < appended c.loop-digit.value (get_or ds c.loop-digit.digit-index 0) = omega arith in
    let stop = too_large ds c.loop-digit.digit-index c.args.limit c.loop-digit.value c.loop-digit-test.true (sym c.if-not-is_ascii_digit.ensures.value) above in
    record { is = sym (of_some c.args.limit c.args.word.now ds c.as_bytes-digits.ensures.value (omega arith) ∙ c.loop-digit.invariant.0 ∙ stop); within = tt }

pub loop-digit-preserved : goal.loop-digit-preserved
loop-digit-preserved c =
    let ds = c.as_bytes-digits.result.now in
    let longer : appended c.loop-digit.value (get_or ds c.loop-digit.digit-index 0) ≡ c.from.result * 10 + c.from-in-loop-digit.result = omega arith in
    let within : appended c.loop-digit.value (get_or ds c.loop-digit.digit-index 0) ≤ c.args.limit = omega arith in
    let more = digit_more ds c.loop-digit.digit-index c.args.limit c.loop-digit.value c.loop-digit-test.true (sym c.if-not-is_ascii_digit.ensures.value) within in
    (rw (← longer) (c.loop-digit.invariant.0 ∙ more), omega arith)

pub returns : goal.returns
unfolding digits_after
returns c =
    let ds = c.as_bytes-digits.result.now in
    let all = at_drop_all (digits_after c.args.limit c.loop-digit.value) ds c.loop-digit.digit-index c.loop-digit-test.false in
    record { is = sym (of_some c.args.limit c.args.word.now ds c.as_bytes-digits.ensures.value (omega (arith, eqb-false (length ds) 0 (sym c.if-is_empty.ensures))) ∙ c.loop-digit.invariant.0 ∙ all); within = c.loop-digit.invariant.1 }
