use Rattle.std.proofs.Common.{◌≡◌, ℕ, ◌+◌, ◌%◌, ◌^◌, Bool, true, false, cond, ◌&&◌, sym, ap, ◌∙◌, arith}
use borrow.Author.Tests.{false-leb}
use mir.Val.{bool_byte}
use Rattle.timer.specs.Clock.{passes}
use Rattle.timer.proofs.Clocks.{calm, passed, with, off}
use Rattle.timer.proofs.state.Timer.pass.Goals as goal

raised : (on : Bool) (s f : ℕ) → f ≡ bool_byte on → cond (on && true) (s + 1) s ≡ s + f
raised true s f e = rw e
raised false s f e = omega arith

pub returns-then-passes-2 : goal.returns-then-passes-2
returns-then-passes-2 c =
    let m = c.args.self.now in
    let tap = ap (λ p. passes p m.t c.args.cycles) (sym c.period.ensures) ∙ sym c.if-passes-2.ensures in
    let all = passed c.args.watched c.args.cycles m c.requires.1 c.requires.0 true (sym c.if-passes.ensures) tap in
    sym (all ∙ ap (λ s. with ((m.t + c.args.cycles) % 2 ^ 17) true true s m) (raised c.args.watched m.stage c.from.result c.from.ensures))

pub returns-else-passes-2 : goal.returns-else-passes-2
returns-else-passes-2 c =
    let m = c.args.self.now in
    let tap = ap (λ p. passes p m.t c.args.cycles) (sym c.period.ensures) ∙ sym c.passes-then-passes.ensures ∙ c.if-passes-2.false in
    let all = passed c.args.watched c.args.cycles m c.requires.1 c.requires.0 false (sym c.if-passes.ensures) tap in
    sym (all ∙ ap (λ s. with ((m.t + c.args.cycles) % 2 ^ 17) true m.rtif s m) (off c.args.watched m.stage))

pub returns-else-passes : goal.returns-else-passes
returns-else-passes c =
    sym (calm c.args.watched c.args.cycles c.args.self.now c.requires.1 c.requires.0
    (false-leb 1024 (c.args.self.now.t % 1024 + c.args.cycles) c.if-passes.ensures))
