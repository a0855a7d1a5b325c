-- Each kind of board keeps the laws of a board.
use Rattle.std.specs.Prelude.{◌≡◌, ℕ, suc, ◌+◌, ◌%◌, ◌≤◌, Bool, true, false, cond, List, [], ◌∷◌, drop, nat_le, nat_lt, refl}
use Rattle.std.proofs.Common.{sym, ap, ◌∙◌, arith, leb-true, le-leb, lt-ltb}
use Rattle.std.proofs.lemmas.List.{drop-drop}
use Rattle.board.specs.declared.reading.Reading.{Reading}
use Rattle.board.specs.declared.schedule.Entry.{Entry}
use Rattle.board.specs.declared.schedule.Schedule.{Schedule}
use Rattle.board.specs.declared.any.AnyBoard.{AnyBoard}
use Rattle.board.specs.declared.any.AnyBoard.TheVariants.{Switches as a_switches, Schedule as a_schedule, Matrix as a_matrix}
use Rattle.board.specs.Reading.{InRange, on_pins}
use Rattle.board.specs.Contract.{Laws}
use Rattle.board.specs.Switches.{switches_shows, switches_advanced}
use Rattle.board.specs.Schedule.{reading_at, passed, moment, ahead, schedule_shows, schedule_advanced}
use Rattle.board.specs.Matrix.{matrix_shows, matrix_advanced}
use Rattle.board.specs.Any.{any_shows, any_advanced}

-- what is cut to the pins that exist is in range
pins_in_range : (r : Reading) → InRange (on_pins r)
pins_in_range r =
    let b : nat_lt (r.level_b % 64) 64 ≡ true = lt-ltb (r.level_b % 64) 64 (omega arith) in
    let o : nat_lt (r.open_b % 64) 64 ≡ true = lt-ltb (r.open_b % 64) 64 (omega arith) in
    let i : nat_lt (r.irq % 2) 2 ≡ true = lt-ltb (r.irq % 2) 2 (omega arith) in
    rw (b, o, i)

pub switches_laws : Laws switches_shows switches_advanced
switches_laws = record { later = λ s n k. refl; joined = λ s m n. refl; ranged = λ s n. pins_in_range s.reading }

pub matrix_laws : Laws matrix_shows matrix_advanced
matrix_laws = record { later = λ m n k. refl; joined = λ b m n. refl; ranged = λ m n. refl }

-- a walk to t and then to u is a walk to u
shown_on : (t u : ℕ) (d : Reading) (es : List Entry) → t ≤ u → reading_at (reading_at d es t) (drop (passed es t) es) u ≡ reading_at d es u
unfolding reading_at passed
shown_on t u d [] h = refl
shown_on t u d (e ∷ es) h =
    let P : Bool → Type 0 = λ b. nat_le e.cycle t ≡ b → reading_at (cond b (reading_at e.reading es t) d) (drop (cond b (suc (passed es t)) 0) (e ∷ es)) u ≡ reading_at d (e ∷ es) u in
    let split : (b : Bool) → P b = λ b. elim b as P [
      | true ↦ λ y. shown_on t u e.reading es h ∙ sym (ap (λ b. cond b (reading_at e.reading es u) d) (le-leb e.cycle u (omega (arith, leb-true e.cycle t y))))
      | false ↦ λ _. refl
    ] in
    split (nat_le e.cycle t) refl

-- and passes as many entries
passed_on : (t u : ℕ) (es : List Entry) → t ≤ u → passed es t + passed (drop (passed es t) es) u ≡ passed es u
unfolding passed
passed_on t u [] h = refl
passed_on t u (e ∷ es) h =
    let i = passed_on t u es h in
    let P : Bool → Type 0 = λ b. nat_le e.cycle t ≡ b → cond b (suc (passed es t)) 0 + passed (drop (cond b (suc (passed es t)) 0) (e ∷ es)) u ≡ passed (e ∷ es) u in
    let split : (b : Bool) → P b = λ b. elim b as P [
      | true ↦ λ y. let s : suc (passed es t) + passed (drop (passed es t) es) u ≡ suc (passed es u) = omega arith in s ∙ sym (ap (λ b. cond b (suc (passed es u)) 0) (le-leb e.cycle u (omega (arith, leb-true e.cycle t y))))
      | false ↦ λ _. omega arith
    ] in
    split (nat_le e.cycle t) refl

ahead_on : (s : Schedule) (n : ℕ) → ahead (schedule_advanced s n) ≡ drop (passed (ahead s) (moment s.at n)) (ahead s)
ahead_on s n = sym (drop-drop (passed (ahead s) (moment s.at n)) s.next s.entries.now)

moment_on : (at m n : ℕ) → moment (moment at m) n ≡ moment at (m + n)
moment_on at m n = omega arith

reading_on : (s : Schedule) (n k : ℕ) → reading_at (schedule_advanced s n).current (ahead (schedule_advanced s n)) (moment (moment s.at n) k) ≡ reading_at s.current (ahead s) (moment s.at (n + k))
reading_on s n k =
    let t = moment s.at n in
    ap (λ x. reading_at (reading_at s.current (ahead s) t) x (moment t k)) (ahead_on s n)
    ∙ shown_on t (moment t k) s.current (ahead s) (omega arith)
    ∙ ap (reading_at s.current (ahead s)) (moment_on s.at n k)

next_on : (s : Schedule) (m n : ℕ) → (schedule_advanced (schedule_advanced s m) n).next ≡ (schedule_advanced s (m + n)).next
next_on s m n =
    let t = moment s.at m in
    let a = ap (λ x. passed x (moment t n)) (ahead_on s m) in
    let b = passed_on t (moment t n) (ahead s) (omega arith) in
    let c = ap (passed (ahead s)) (moment_on s.at m n) in
    omega arith

pub schedule_laws : Laws schedule_shows schedule_advanced
schedule_laws = record {
  later = λ s n k. ap on_pins (reading_on s n k);
  joined = λ s m n. λ i. record { entries = s.entries; at = moment_on s.at m n i; next = next_on s m n i; current = reading_on s m n i };
  ranged = λ s n. pins_in_range (reading_at s.current (ahead s) (moment s.at n));
}

any_later : (b : AnyBoard) (n k : ℕ) → any_shows (any_advanced b n) k ≡ any_shows b (n + k)
any_later (a_switches s) n k = switches_laws.later s n k
any_later (a_schedule s) n k = schedule_laws.later s n k
any_later (a_matrix m) n k = matrix_laws.later m n k

any_joined : (b : AnyBoard) (m n : ℕ) → any_advanced (any_advanced b m) n ≡ any_advanced b (m + n)
any_joined (a_switches s) m n = ap a_switches (switches_laws.joined s m n)
any_joined (a_schedule s) m n = ap a_schedule (schedule_laws.joined s m n)
any_joined (a_matrix b) m n = ap a_matrix (matrix_laws.joined b m n)

any_ranged : (b : AnyBoard) (n : ℕ) → InRange (any_shows b n)
any_ranged (a_switches s) n = switches_laws.ranged s n
any_ranged (a_schedule s) n = schedule_laws.ranged s n
any_ranged (a_matrix m) n = matrix_laws.ranged m n

pub any_laws : Laws any_shows any_advanced
any_laws = record { later = any_later; joined = any_joined; ranged = any_ranged }
