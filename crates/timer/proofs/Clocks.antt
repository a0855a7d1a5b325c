-- Cycles of the timer, one by one and at once.
use Rattle.std.proofs.Common.{◌≡◌, ℕ, zero, suc, ◌+◌, ◌%◌, ◌^◌, ◌<◌, ◌≤◌, Bool, true, false, cond, ◌&&◌, ◌||◌, eqb, leb, ◌⊎◌, sym, refl, ap, ◌∙◌, inl, inr, arith, eq-eqb, ne_eqb, le-leb}
use borrow.Author.Tests.{lt-leb}
use Rattle.std.proofs.lemmas.Bool.{cases_lt}
use Rattle.timer.specs.declared.state.Timer.{Timer}
use Rattle.timer.specs.Clock.{period, passes, risen, risen_by, Runs}

-- fewer than 1,024 cycles at once
abbrev forward : Bool → ℕ → Timer → Timer
forward watched n m = record {
  t = (m.t + n) % 2 ^ 17;
  tof = passes 1024 m.t n || m.tof;
  rtif = passes (period m.rate) m.t n || m.rtif;
  toie = m.toie;
  rtie = m.rtie;
  rate = m.rate;
  stage = cond (watched && passes (period m.rate) m.t n) (m.stage + 1) m.stage;
}

-- t after n cycles and one more
abbrev then : ℕ → ℕ → ℕ
then t n = ((t + n) % 2 ^ 17 + 1) % 2 ^ 17

-- a multiple of p was met before, is met now, or is not met
abbrev Way : Bool → Bool → Bool → Type 0
Way a b c = ((a ≡ true) × (b ≡ false) × (c ≡ true)) ⊎ (((a ≡ false) × (b ≡ true) × (c ≡ true)) ⊎ ((a ≡ false) × (b ≡ false) × (c ≡ false)))

abbrev Met : ℕ → ℕ → ℕ → Type 0
Met p t n = Way (leb p (t % p + n)) (eqb (then t n % p) 0) (leb p (t % p + suc n))

-- which of the three, by where t stands between multiples
by : (p x n y : ℕ) → x < p → suc n < p → (p ≤ x + n → y + p ≡ x + suc n) → (x + suc n ≡ p → y ≡ 0) → (x + suc n < p → y ≡ x + suc n) → Way (leb p (x + n)) (eqb y 0) (leb p (x + suc n))
by p x n y h k f g e = elim (cases_lt (x + n) p) [
  | inr ge ↦ let q = f ge in inl (le-leb p (x + n) ge, ne_eqb y 0 (λ z. absurd (omega arith)), le-leb p (x + suc n) (omega arith))
  | inl lt ↦ elim (cases_lt (x + suc n) p) [
    | inl lt2 ↦ let q = e lt2 in inr (inr (lt-leb p (x + n) lt, ne_eqb y 0 (λ z. absurd (omega arith)), lt-leb p (x + suc n) lt2))
    | inr ge2 ↦ inr (inl (lt-leb p (x + n) lt, eq-eqb y 0 (g (omega arith)), le-leb p (x + suc n) ge2))
  ]
]

met_overflow : (t n : ℕ) → suc n < 1024 → Met 1024 t n
met_overflow t n h = by 1024 (t % 1024) n (then t n % 1024) (omega arith) h (λ q. omega arith) (λ q. omega arith) (λ q. omega arith)

met_tap : (r t n : ℕ) → r < 4 → suc n < 1024 → Met (period r) t n
met_tap zero t n h k = by 16384 (t % 16384) n (then t n % 16384) (omega arith) (omega arith) (λ q. omega arith) (λ q. omega arith) (λ q. omega arith)
met_tap (suc zero) t n h k = by 32768 (t % 32768) n (then t n % 32768) (omega arith) (omega arith) (λ q. omega arith) (λ q. omega arith) (λ q. omega arith)
met_tap (suc (suc zero)) t n h k = by 65536 (t % 65536) n (then t n % 65536) (omega arith) (omega arith) (λ q. omega arith) (λ q. omega arith) (λ q. omega arith)
met_tap (suc (suc (suc zero))) t n h k = by 131072 (t % 131072) n (then t n % 131072) (omega arith) (omega arith) (λ q. omega arith) (λ q. omega arith) (λ q. omega arith)
met_tap (suc (suc (suc (suc r)))) t n h k = absurd (omega arith)

flag_more : (o a b c : Bool) → Way a b c → (b || (a || o)) ≡ (c || o)
flag_more o a b c (inl w) = rw (w.0, w.1, w.2)
flag_more o a b c (inr (inl w)) = rw (w.0, w.1, w.2)
flag_more o a b c (inr (inr w)) = rw (w.0, w.1, w.2)

stage_more : (on a b c : Bool) (s : ℕ) → Way a b c → cond (on && b) (cond (on && a) (s + 1) s + 1) (cond (on && a) (s + 1) s) ≡ cond (on && c) (s + 1) s
stage_more false a b c s w = refl
stage_more true a b c s (inl w) = rw (w.0, w.1, w.2)
stage_more true a b c s (inr (inl w)) = rw (w.0, w.1, w.2)
stage_more true a b c s (inr (inr w)) = rw (w.0, w.1, w.2)

-- n cycles at once and one more
forward_more : (on : Bool) (n : ℕ) (m : Timer) → suc n < 1024 → m.rate < 4 → risen on (forward on n m) ≡ forward on (suc n) m
forward_more on n m h r =
    let p = period m.rate in
    let w = met_tap m.rate m.t n r h in
    let clock : then m.t n ≡ (m.t + suc n) % 2 ^ 17 = omega arith in
    let over = flag_more m.tof (leb 1024 (m.t % 1024 + n)) (eqb (then m.t n % 1024) 0) (leb 1024 (m.t % 1024 + suc n)) (met_overflow m.t n h) in
    let tap = flag_more m.rtif (leb p (m.t % p + n)) (eqb (then m.t n % p) 0) (leb p (m.t % p + suc n)) w in
    let stage = stage_more on (leb p (m.t % p + n)) (eqb (then m.t n % p) 0) (leb p (m.t % p + suc n)) m.stage w in
    λ i. record { t = clock i; tof = over i; rtif = tap i; toie = m.toie; rtie = m.rtie; rate = m.rate; stage = stage i }

-- one cycle more, last or first
pub risen_last : (on : Bool) (n : ℕ) (m : Timer) → risen_by on (suc n) m ≡ risen on (risen_by on n m)
unfolding risen_by
risen_last on zero m = refl
risen_last on (suc n) m = risen_last on n (risen on m)

-- where no multiple of 1,024 is met, no tap passes
pub no_tap : (r t n : ℕ) → r < 4 → t % 1024 + n < 1024 → t % period r + n < period r
no_tap zero t n h k = omega arith
no_tap (suc zero) t n h k = omega arith
no_tap (suc (suc zero)) t n h k = omega arith
no_tap (suc (suc (suc zero))) t n h k = omega arith
no_tap (suc (suc (suc (suc r)))) t n h k = absurd (omega arith)

pub off : (on : Bool) (s : ℕ) → cond (on && false) (s + 1) s ≡ s
off true s = refl
off false s = refl

-- the timer with t and what the cycles set
abbrev pub with : ℕ → Bool → Bool → ℕ → Timer → Timer
with t tof rtif stage m = record { t = t; tof = tof; rtif = rtif; toie = m.toie; rtie = m.rtie; rate = m.rate; stage = stage }

-- at once, by what the tests say
forward_by : (on over tap : Bool) (n : ℕ) (m : Timer) → passes 1024 m.t n ≡ over → passes (period m.rate) m.t n ≡ tap → forward on n m ≡ with ((m.t + n) % 2 ^ 17) (over || m.tof) (tap || m.rtif) (cond (on && tap) (m.stage + 1) m.stage) m
forward_by on over tap n m e f = λ i. with ((m.t + n) % 2 ^ 17) (e i || m.tof) (f i || m.rtif) (cond (on && f i) (m.stage + 1) m.stage) m

forward_calm : (on : Bool) (n : ℕ) (m : Timer) → m.rate < 4 → m.t % 1024 + n < 1024 → forward on n m ≡ with ((m.t + n) % 2 ^ 17) m.tof m.rtif m.stage m
forward_calm on n m r h =
    forward_by on false false n m (lt-leb 1024 (m.t % 1024 + n) h) (lt-leb (period m.rate) (m.t % period m.rate + n) (no_tap m.rate m.t n r h))
    ∙ ap (λ s. with ((m.t + n) % 2 ^ 17) m.tof m.rtif s m) (off on m.stage)

all_at_once : (on : Bool) (n : ℕ) (m : Timer) → n < 1024 → Runs m → risen_by on n m ≡ forward on n m
unfolding risen_by
all_at_once on zero m h k =
    let t : m.t ≡ (m.t + 0) % 2 ^ 17 = omega arith in
    ap (λ t. with t m.tof m.rtif m.stage m) t ∙ sym (forward_calm on 0 m k.1 (omega arith))
all_at_once on (suc n) m h k = risen_last on n m ∙ ap (risen on) (all_at_once on n m (omega arith) k) ∙ forward_more on n m h k.1

once : (b : Bool) (s : ℕ) → cond b (s + 1) s ≤ s + 1
once true s = omega arith
once false s = omega arith

-- n cycles without an overflow, with one, and with a tap
module _ (on : Bool) (n : ℕ) (m : Timer) (h : n < 1024) (k : Runs m) where
  pub calm : m.t % 1024 + n < 1024 → risen_by on n m ≡ with ((m.t + n) % 2 ^ 17) m.tof m.rtif m.stage m
  calm e = all_at_once on n m h k ∙ forward_calm on n m k.1 e

  pub passed : (tap : Bool) → passes 1024 m.t n ≡ true → passes (period m.rate) m.t n ≡ tap → risen_by on n m ≡ with ((m.t + n) % 2 ^ 17) true (tap || m.rtif) (cond (on && tap) (m.stage + 1) m.stage) m
  passed tap e f = all_at_once on n m h k ∙ forward_by on true tap n m e f

  -- the stage rises by one at most
  pub ranges : ((risen_by on n m).t < 2 ^ 17) × ((risen_by on n m).rate < 4) × ((risen_by on n m).stage ≤ m.stage + 1)
  ranges =
      let e = all_at_once on n m h k in
      let t = ap (λ x. x.t) e in
      let r = ap (λ x. x.rate) e in
      let s = ap (λ x. x.stage) e in
      let up = once (on && passes (period m.rate) m.t n) m.stage in
      (omega arith, omega arith, omega arith)
