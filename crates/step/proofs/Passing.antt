-- What the cycles of a step and its reset keep.
use Rattle.std.proofs.Common.{◌≡◌, ℕ, zero, suc, ◌<◌, ◌≤◌, Bool, true, false, cond, not, ◌&&◌, ◌||◌, eqb, leb, refl, ap, ◌∙◌, arith}
use mathlib.Core.Path.{subst⁻¹}
use Rattle.std.proofs.lemmas.Bool.{false≢true, leb-false, or_right}
use Rattle.chip.specs.declared.state.Chip.{Chip}
use Rattle.chip.specs.declared.state.Mode.{Mode}
use Rattle.chip.specs.declared.state.Mode.TheVariants.{Running, Waiting, Stopped}
use Rattle.chip.specs.Reset.{reset}
use Rattle.cycles.proofs.Cycles.{Leaves}
use Rattle.part.specs.Rom.{copen}
use Rattle.timer.specs.declared.state.Timer.{Timer}
use Rattle.timer.specs.Clock.{clock_span, risen, risen_by}
use Rattle.timer.proofs.Clocks.{ranges}
use Rattle.step.specs.declared.action.Action.{Action}
use Rattle.step.specs.declared.answer.ResetCause.{ResetCause}
use Rattle.step.specs.declared.answer.ResetCause.TheVariants as cause
use Rattle.step.specs.Action.{is_illegal}
use Rattle.step.specs.Step.{cause_of, reset_by}
use Rattle.step.specs.Sound.{Sound, SoundRegisters, SoundPortB, SoundTimer, SoundStage, SoundRest, rest_test}

-- what cycles keep of a timer
pub record TimerKept (on : Bool) (m u : Timer) : Type 0 where
  pub t : u.t < clock_span
  pub rate : u.rate < 4
  pub stage : u.stage ≤ 8
  pub toie : u.toie ≡ m.toie
  pub rtie : u.rtie ≡ m.rtie
  pub unwatched : on ≡ false → u.stage ≡ m.stage

enables : (on : Bool) (n : ℕ) (m : Timer) → ((risen_by on n m).toie ≡ m.toie) × ((risen_by on n m).rtie ≡ m.rtie)
unfolding risen_by
enables on zero m = (refl, refl)
enables on (suc n) m = enables on n (risen on m)

stands : (n : ℕ) (m : Timer) → (risen_by false n m).stage ≡ m.stage
unfolding risen_by
stands zero m = refl
stands (suc n) m = stands n (risen false m)

timer_kept : (rises on : Bool) (n : ℕ) (m : Timer) → n < 1024 → SoundTimer m → TimerKept on m (cond rises (risen_by on n m) m)
timer_kept false on n m h k = record { t = k.0; rate = k.1; stage = omega arith; toie = refl; rtie = refl; unwatched = λ _. refl }
timer_kept true on n m h k =
    let r = ranges on n m h (k.0, k.1, omega arith) in
    let e = enables on n m in
    record { t = r.0; rate = r.1; stage = omega arith; toie = e.0; rtie = e.1; unwatched = λ o. ap (λ x. (risen_by x n m).stage) o ∙ stands n m }

-- all that a chip keeps, but the stage may be 8
abbrev pub Nearly : Chip → Type 0
Nearly s = SoundRegisters s.registers × SoundPortB s.ports.b × ((s.timer.t < clock_span) × (s.timer.rate < 4) × (s.timer.stage ≤ 8)) × SoundStage s.timer.stage s.rom × SoundRest s

stage_kept : (on : Bool) (before after : ℕ) → (on ≡ false → after ≡ before) → (eqb before 0 || on) ≡ true → (eqb after 0 || on) ≡ true
stage_kept true before after f h = or_right (eqb after 0) true refl
stage_kept false before after f h = ap (λ n. eqb n 0 || false) (f refl) ∙ h

rest_enables : (mode : Mode) (i e : Bool) (m n : Timer) → m.toie ≡ n.toie → m.rtie ≡ n.rtie → rest_test mode i e m ≡ rest_test mode i e n
rest_enables Running i e m n p q = refl
rest_enables Waiting i e m n p q = refl
rest_enables Stopped i e m n p q = λ j. (not i && e) && (not (p j) && not (q j))

pub passing : (rises : Bool) (n : ℕ) (s u : Chip) → n < 1024 → Sound s → Leaves rises n s u → Nearly u
passing rises n s u h k l =
    let kept : TimerKept (copen s.rom) s.timer u.timer = subst⁻¹ (TimerKept (copen s.rom) s.timer) l.timer (timer_kept rises (copen s.rom) n s.timer h k.2) in
    let stage = stage_kept (copen s.rom) s.timer.stage u.timer.stage kept.unwatched k.3 in
    let rest : rest_test u.mode u.registers.flags.i u.interrupt.enable u.timer ≡ rest_test s.mode s.registers.flags.i s.interrupt.enable s.timer =
    (λ i. rest_test (l.mode i) (l.registers i).flags.i (l.enable i) u.timer) ∙ rest_enables s.mode s.registers.flags.i s.interrupt.enable u.timer s.timer kept.toie kept.rtie in (
      subst⁻¹ SoundRegisters l.registers k.0,
      subst⁻¹ (λ p. SoundPortB p.b) l.ports k.1,
      (kept.t, kept.rate, kept.stage),
      ap (λ rom. eqb u.timer.stage 0 || copen rom) l.rom ∙ stage,
      rest ∙ k.4,
    )

reset_sound : (s : Chip) → Nearly s → Sound (reset s)
reset_sound s k = ((omega arith, omega arith, omega arith), (k.1.0, omega arith, omega arith), (omega arith, omega arith, omega arith), refl, refl)

by_cause : (c : ResetCause) (s : Chip) → (c ≡ cause.None → s.timer.stage < 8) → Nearly s → Sound (reset_by c s)
by_cause cause.None s f k = (k.0, k.1, (k.2.0, k.2.1, f refl), k.3, k.4)
by_cause cause.IllegalAddress s f k = reset_sound s k
by_cause cause.Watchdog s f k = reset_sound s k

abbrev is_none : ResetCause → Bool
is_none cause.None = true
is_none cause.IllegalAddress = false
is_none cause.Watchdog = false

unwatched : (over illegal : Bool) → cond over cause.Watchdog (cond illegal cause.IllegalAddress cause.None) ≡ cause.None → over ≡ false
unwatched false illegal e = refl
unwatched true illegal e = absurd (false≢true (ap is_none e))

none_below : (a : Action) (stage : ℕ) → cause_of a stage ≡ cause.None → stage < 8
none_below a stage e = leb-false 8 stage (unwatched (leb 8 stage) (is_illegal a) e)

-- a reset that is due leaves what every chip keeps
pub closing : (a : Action) (s : Chip) → Nearly s → Sound (reset_by (cause_of a s.timer.stage) s)
closing a s k = by_cause (cause_of a s.timer.stage) s (none_below a s.timer.stage) k
