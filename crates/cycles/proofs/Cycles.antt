-- Cycles one by one and at once, and what they leave.
use mathlib.Core.Path.{◌≡◌, refl, sym, ap, ◌∙◌}
use mathlib.Core.Bool.{Bool, true, false, not, cond, ◌&&◌, ◌||◌}
use Prim.Native.Nat.{ℕ, zero, suc, ◌+◌, ◌-◌, ◌≤◌, ◌<◌}
use native.Mathlib.Omega.{arith}
use Rattle.board.specs.declared.contract.Board.{Ghosts}
use Rattle.chip.specs.declared.state.Chip.{Chip}
use Rattle.chip.specs.Cycle.{ticked, passed}
use Rattle.chip.specs.Pins.{active}
use Rattle.part.specs.Rom.{copen}
use Rattle.timer.specs.Clock.{risen, risen_by, Runs, clock_span}
use Rattle.timer.proofs.Clocks.{ranges}
use Rattle.cycles.specs.Cycles.{cycled}

-- a cycle is what one cycle of the chip is
pub once : (rises y : Bool) (s : Chip) → passed rises y 1 s ≡ ticked rises y s
unfolding risen_by
once true y s = refl
once false y s = refl

-- the first of n cycles
pub cycled_first : {B : Type 0} (m : Ghosts B) (rises : Bool) (n : ℕ) (s : Chip) (b : B) → 0 < n
    → cycled m rises n s b ≡ cycled m rises (n - 1) (ticked rises (active (m.shows (m.advanced b 1) 0) s) s) (m.advanced b 1)
unfolding cycled
cycled_first m rises zero s b h = absurd (omega arith)
cycled_first m rises (suc n) s b h =
    let e : n ≡ suc n - 1 = omega arith in
    ap (λ k. cycled m rises k (ticked rises (active (m.shows (m.advanced b 1) 0) s) s) (m.advanced b 1)) e

pub cycled_none : {B : Type 0} (m : Ghosts B) (rises : Bool) (s : Chip) (b : B) → cycled m rises 0 s b ≡ (s, b)
unfolding cycled
cycled_none m rises s b = refl

same_edge : (y a l : Bool) → ((y && not y) || ((y && not a) || l)) ≡ ((y && not a) || l)
same_edge true a l = refl
same_edge false a l = refl

-- a second cycle with the same sample
passed_more : (rises y : Bool) (n : ℕ) (s : Chip) → passed rises y n (ticked rises y s) ≡ passed rises y (suc n) s
unfolding risen_by
passed_more true y n s =
    let edge = same_edge y s.interrupt.active s.interrupt.latch in
    λ i. record {
      registers = s.registers;
      ports = s.ports;
      timer = risen_by (copen s.rom) n (risen (copen s.rom) s.timer);
      interrupt = record { enable = s.interrupt.enable; latch = edge i; active = y };
      mode = s.mode;
      ram = s.ram;
      rom = s.rom;
    }
passed_more false y n s =
    let edge = same_edge y s.interrupt.active s.interrupt.latch in
    λ i. record {
      registers = s.registers;
      ports = s.ports;
      timer = s.timer;
      interrupt = record { enable = s.interrupt.enable; latch = edge i; active = y };
      mode = s.mode;
      ram = s.ram;
      rom = s.rom;
    }

-- while the reading stays, n cycles take one sample
module _ {B : Type 0} (m : Ghosts B) (rises : Bool) where
  leap : (n : ℕ) (s : Chip) (b : B) → ((k : ℕ) → k ≤ suc n → m.shows b k ≡ m.shows b 0)
      → cycled m rises (suc n) s b ≡ (passed rises (active (m.shows b 0) s) (suc n) s, m.advanced b (suc n))
  unfolding cycled
  leap zero s b q =
      let r = m.laws.later b 1 0 ∙ q 1 (omega arith) in
      ap (λ x. (ticked rises (active x s) s, m.advanced b 1)) r ∙ ap (λ c. (c, m.advanced b 1)) (sym (once rises (active (m.shows b 0) s) s))
  leap (suc n) s b q =
      let b1 = m.advanced b 1 in
      let r : m.shows b1 0 ≡ m.shows b 0 = m.laws.later b 1 0 ∙ q 1 (omega arith) in
      let y = active (m.shows b1 0) s in
      let quiet : (k : ℕ) → k ≤ suc n → m.shows b1 k ≡ m.shows b1 0 = λ k h. m.laws.later b 1 k ∙ q (1 + k) (omega arith) ∙ sym r in
      let rest = leap n (ticked rises y s) b1 quiet in
      let count : 1 + suc n ≡ suc (suc n) = omega arith in
      rest
      ∙ ap (λ c. (c, m.advanced b1 (suc n))) (passed_more rises y (suc n) s)
      ∙ (λ i. (passed rises (active (r i) s) (suc (suc n)) s, m.laws.joined b 1 (suc n) i))
      ∙ ap (λ k. (passed rises (active (m.shows b 0) s) (suc (suc n)) s, m.advanced b k)) count

  pub at_once : (n : ℕ) (s : Chip) (b : B) → 0 < n → ((k : ℕ) → k ≤ n → m.shows b k ≡ m.shows b 0)
      → (passed rises (active (m.shows b 0) s) n s, m.advanced b n) ≡ cycled m rises n s b
  at_once zero s b h q = absurd (omega arith)
  at_once (suc n) s b h q = sym (leap n s b q)

-- what cycles leave: all but timer and interrupt, and of the interrupt IRQE
pub record Leaves (rises : Bool) (n : ℕ) (s u : Chip) : Type 0 where
  pub registers : u.registers ≡ s.registers
  pub ports : u.ports ≡ s.ports
  pub timer : u.timer ≡ cond rises (risen_by (copen s.rom) n s.timer) s.timer
  pub enable : u.interrupt.enable ≡ s.interrupt.enable
  pub mode : u.mode ≡ s.mode
  pub ram : u.ram ≡ s.ram
  pub rom : u.rom ≡ s.rom

timer_more : (rises : Bool) (n : ℕ) (y : Bool) (s : Chip) → cond rises (risen_by (copen s.rom) n (ticked rises y s).timer) (ticked rises y s).timer ≡ cond rises (risen_by (copen s.rom) (suc n) s.timer) s.timer
unfolding risen_by
timer_more true n y s = refl
timer_more false n y s = refl

timer_none : (rises : Bool) (s : Chip) → s.timer ≡ cond rises (risen_by (copen s.rom) 0 s.timer) s.timer
unfolding risen_by
timer_none true s = refl
timer_none false s = refl

pub cycled_leaves : {B : Type 0} (m : Ghosts B) (rises : Bool) (n : ℕ) (s : Chip) (b : B) → Leaves rises n s (cycled m rises n s b).0
unfolding cycled
cycled_leaves m rises zero s b = record { registers = refl; ports = refl; timer = timer_none rises s; enable = refl; mode = refl; ram = refl; rom = refl }
cycled_leaves m rises (suc n) s b =
    let y = active (m.shows (m.advanced b 1) 0) s in
    let k = cycled_leaves m rises n (ticked rises y s) (m.advanced b 1) in
    record { registers = k.registers; ports = k.ports; timer = k.timer ∙ timer_more rises n y s; enable = k.enable; mode = k.mode; ram = k.ram; rom = k.rom }

-- one cycle raises the stage by one at most
pub in_range : (rises y : Bool) (s : Chip) → Runs s.timer
    → ((passed rises y 1 s).timer.t < clock_span) × ((passed rises y 1 s).timer.rate < 4) × ((passed rises y 1 s).timer.stage ≤ s.timer.stage + 1)
in_range true y s h = ranges (copen s.rom) 1 s.timer (omega arith) h
in_range false y s h = (h.0, h.1, omega arith)
