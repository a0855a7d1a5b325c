-- Taps at rate 0.
use Rattle.std.proofs.Common.{◌≡◌, ℕ, zero, suc, ◌+◌, ◌-◌, ◌*◌, ◌/◌, ◌%◌, ◌^◌, ◌<◌, true, cond, eqb, ap, ◌∙◌, arith}
use Rattle.std.proofs.lemmas.Bool.Decides.{nat_tests}
use Rattle.timer.specs.declared.state.Timer.{Timer}
use Rattle.timer.specs.Clock.{risen, risen_by}
use Rattle.timer.specs.Control.{serviced}
use Rattle.facts.specs.Cases.{OverdueFrom}

-- the stage after a cycle
tapped : (t stage : ℕ) → t < 131072 → cond (eqb ((t + 1) % 2 ^ 17 % 16384) 0) (stage + 1) stage ≡ stage + ((t + 1) / 16384 - t / 16384)
tapped t stage h = grind (arith, nat_tests)

-- the stage after n cycles: one more at each multiple of 16,384
taps : (n : ℕ) (k : Timer) → k.t < 131072 → k.rate ≡ 0 → (risen_by true n k).stage ≡ k.stage + ((k.t + n) / 16384 - k.t / 16384)
unfolding risen_by
taps zero k h e = omega arith
taps (suc n) k h e =
    let one = ap (λ rate. cond (eqb ((k.t + 1) % 2 ^ 17 % 2 ^ (14 + rate)) 0) (k.stage + 1) k.stage) e ∙ tapped k.t k.stage h in
    let rest = taps n (risen true k) (omega arith) e in
    omega arith

-- after a service eight taps are passed
pub overdue : (clock t : ℕ) → t < 131072 → clock ≡ (t / 16384 + 8) * 16384 → OverdueFrom clock t
overdue clock t h e k at rate n =
    let stage = taps n (serviced k) (omega arith) rate in
    grind (arith, nat_tests)
