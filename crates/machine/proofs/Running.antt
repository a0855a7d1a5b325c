-- The cases of a run.
use Rattle.std.proofs.Common.{◌≡◌, ℕ, zero, suc, ◌+◌, ◌-◌, ◌<◌, ◌≤◌, true, false, cond, ltb, ◌∷◌, length, Ok, Err, Result, sym, refl, ap, ◌∙◌, zero-add, arith}
use Rattle.std.proofs.lemmas.Bool.{lt-ltb, le-ltb, cond-true, cond-false}
use Rattle.board.specs.declared.contract.Board.{Ghosts}
use Rattle.refusal.specs.declared.Refusal.{Refusal}
use Rattle.refusal.specs.declared.Refusal.TheVariants.{NoImage, Target}
use Rattle.step.specs.declared.answer.StepAnswer.{StepAnswer}
use Rattle.machine.specs.declared.answer.RunAnswer.{RunAnswer}
use Rattle.machine.specs.declared.answer.RunEnd.TheVariants.{Reached, Stuck}
use Rattle.machine.specs.Limits.{total_limit}
use Rattle.machine.specs.State.{State}
use Rattle.machine.specs.Calls.{Made, Answered, attempt, step_by, step_of}
use Rattle.machine.specs.Run.{Run, ends, onward, run_for, run_to, run_made, run_of}
use Rattle.machine.proofs.Stepping.{Raises, raises}

-- what a run comes to after n steps made before it
abbrev pub after : {B : Type 0} → ℕ → Run B → RunAnswer × State B
after n r = (record { steps = n + length r.steps; end = r.end }, r.after)

-- the answer of a run that was made, and the machine then
abbrev pub told : {B : Type 0} → RunAnswer × State B → Answered RunAnswer Refusal B
told p = (Ok p.0, p.1)

none_before : {B : Type 0} (r : Run B) → run_made r ≡ told (after 0 r)
none_before r = ap (λ n. told (record { steps = n; end = r.end }, r.after)) (sym (zero-add (length r.steps)))

-- a step's answer and the machine after it, of an attempt
onward_same : {B : Type 0} (a : Result (Made B) Refusal) (f g : State B → Run B) (s : State B) (total : ℕ) → Raises total a
    → ((t : State B) → total < t.total → f t ≡ g t) → onward a f s ≡ onward a g s
onward_same (Ok x) f g s total r h = ap (λ y. record { steps = x ∷ y.steps; end = y.end; after = y.after }) (h x.after r.0)
onward_same (Err e) f g s total r h = refl

-- what a step's answer says of the run that begins with it
module _ {B : Type 0} (f : State B → Run B) (s s' : State B) where
  by_made : (x : Result (Made B) Refusal) (a : StepAnswer) (n : ℕ) → (Ok a, s') ≡ step_by x s → after n (onward x f s) ≡ after (n + 1) (f s')
  by_made (Ok y) a n e =
      let t : y.after ≡ s' = sym (ap (λ p. p.1) e) in
      let count : n + length (y ∷ (f s').steps) ≡ n + 1 + length (f s').steps = omega arith in
      ap (λ z. after n (record { steps = y ∷ (f z).steps; end = (f z).end; after = (f z).after })) t
      ∙ ap (λ k. (record { steps = k; end = (f s').end }, (f s').after)) count
  by_made (Err q) a n e = let z = ap (λ p. p.0) e in cc

  by_stuck : (x : Result (Made B) Refusal) (q : Refusal) → (Err q, s') ≡ step_by x s → (onward x f s ≡ ends Stuck s) × (s' ≡ s)
  by_stuck (Ok y) q e = let z = ap (λ p. p.0) e in cc
  by_stuck (Err r) q e = (refl, ap (λ p. p.1) e)

by_raised : {B : Type 0} (s s' : State B) (x : Result (Made B) Refusal) (a : StepAnswer) → Raises s.total x → (Ok a, s') ≡ step_by x s → s.total < s'.total
by_raised s s' (Ok y) a r e = let t = ap (λ p. p.1.total) e in omega arith
by_raised s s' (Err q) a r e = let z = ap (λ p. p.0) e in cc

module _ {B : Type 0} (m : Ghosts B) (u : ℕ) where
  -- nothing is left to do
  done : (fuel : ℕ) (s : State B) → u ≤ s.total → run_for m fuel u s ≡ ends Reached s
  unfolding run_for
  done zero s h = refl
  done (suc fuel) s h = rw (le-ltb s.total u h)

  -- as many steps as cycles are left are enough
  enough : (fuel more : ℕ) (s : State B) → u ≤ s.total + fuel → u ≤ s.total + more → run_for m fuel u s ≡ run_for m more u s
  unfolding run_for
  enough zero more s h k = sym (done more s (omega arith))
  enough (suc fuel) zero s h k = done (suc fuel) s (omega arith)
  enough (suc fuel) (suc more) s h k =
      ap (λ r. cond (ltb s.total u) r (ends Reached s))
      (onward_same (attempt m s) (run_for m fuel u) (run_for m more u) s s.total (raises m s) (λ t up. enough fuel more t (omega arith) (omega arith)))

  one : (s : State B) (fuel : ℕ) → s.total < u → run_for m (suc fuel) u s ≡ onward (attempt m s) (run_for m fuel u) s
  unfolding run_for
  one s fuel h = rw (lt-ltb s.total u h)

  -- a run that has steps to make begins with one
  first : (s : State B) → s.total < u → run_to m u s ≡ onward (attempt m s) (run_to m u) s
  first s h =
      let k = u - s.total - 1 in
      let count : u - s.total ≡ suc k = omega arith in
      ap (λ n. run_for m n u s) count ∙ one s k h
      ∙ onward_same (attempt m s) (run_for m k u) (run_to m u) s s.total (raises m s) (λ t up. enough k (u - t.total) t (omega arith) (omega arith))

  pub run_done : (s : State B) → u ≤ s.total → run_to m u s ≡ ends Reached s
  run_done s h = done (u - s.total) s h

  -- a step that is made: the total rises, and the run goes on from it
  pub raised : (s s' : State B) (a : StepAnswer) → (Ok a, s') ≡ step_of m s → s.total < s'.total
  raised s s' a e = by_raised s s' (attempt m s) a (raises m s) e

  pub run_on : (s s' : State B) (a : StepAnswer) (n : ℕ) → s.total < u → (Ok a, s') ≡ step_of m s → after n (run_to m u s) ≡ after (n + 1) (run_to m u s')
  run_on s s' a n h e = ap (after n) (first s h) ∙ by_made (run_to m u) s s' (attempt m s) a n e

  -- a step that is refused: the run ends here
  pub run_stuck : (s s' : State B) (q : Refusal) (n : ℕ) → s.total < u → (Err q, s') ≡ step_of m s → after n (run_to m u s) ≡ (record { steps = n; end = Stuck }, s')
  run_stuck s s' q n h e =
      let w = by_stuck (run_to m u) s s' (attempt m s) q e in
      let none : n + 0 ≡ n = omega arith in
      ap (after n) (first s h ∙ w.0) ∙ (λ i. (record { steps = none i; end = Stuck }, sym w.1 i))

  pub run_reached : (s : State B) (n : ℕ) → u ≤ s.total → after n (run_to m u s) ≡ (record { steps = n; end = Reached }, s)
  run_reached s n h =
      let none : n + 0 ≡ n = omega arith in
      ap (after n) (run_done s h) ∙ ap (λ k. (record { steps = k; end = Reached }, s)) none

  -- the whole call
  pub too_far : (s : State B) → total_limit < u → (Err Target, s) ≡ run_of m u s
  unfolding run_of
  too_far s h = rw (lt-ltb total_limit u h)

  pub no_image : (s : State B) → u ≤ total_limit → s.loaded ≡ false → (Err NoImage, s) ≡ run_of m u s
  unfolding run_of
  no_image s h e = rw (le-ltb total_limit u h, e)

  pub ran : (s : State B) (p : RunAnswer × State B) → u ≤ total_limit → s.loaded ≡ true → after 0 (run_to m u s) ≡ p → told p ≡ run_of m u s
  unfolding run_of
  ran s p h e w = ap told (sym w) ∙ sym (cond-false (ltb total_limit u) _ _ (le-ltb total_limit u h) ∙ cond-true s.loaded _ (Err NoImage, s) e ∙ none_before (run_to m u s))
