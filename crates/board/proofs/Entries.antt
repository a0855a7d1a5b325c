-- Facts about a schedule's entries.
use Rattle.std.proofs.Common.{◌≡◌, ℕ, suc, ◌+◌, ◌-◌, ◌<◌, ◌≤◌, min, Bool, true, false, cond, ◌&&◌, ltb, leb, List, [], ◌∷◌, length, get_or, drop, take, slice_get, Some, None, Ok, Option, sym, refl, ap, ◌∙◌, inl, inr, arith, Bor}
use Rattle.std.proofs.lemmas.Bool.{ltb-true, leb-true, le-leb, lt-leb, and_parts, cases_lt, cond-true, cond-false}
use Rattle.std.proofs.lemmas.List.{drop_more}
use Rattle.std.proofs.lemmas.List.Folds.{length-prefix_len}
use Rattle.std.specs.List.{prefix_len}
use Rattle.board.specs.declared.reading.Reading.{Reading}
use Rattle.board.specs.declared.schedule.Entry.{Entry}
use Rattle.board.specs.Reading.{ranged, InRange, on_pins}
use Rattle.board.specs.Schedule.{cycle_limit, moment, reading_at, passed, last_at, has_come, calm_before, good, bad_from, first_bad, first_reading, schedule_of}
use Rattle.board.proofs.Pins.{pins_same}

-- what a read past a list's end would give
abbrev pub no_entry : Entry
no_entry = record { cycle = 0; reading = record { level_a = 0; open_a = 0; level_b = 0; open_b = 0; irq = 0 } }

-- nothing changes while the first entry does not come
pub unchanged : (es : List Entry) (at k : ℕ) (d : Reading) → k ≤ calm_before at es → reading_at d es (moment at k) ≡ reading_at d es (moment at 0)
unfolding reading_at
unchanged [] at k d h = refl
unchanged (e ∷ es) at k d h =
    let same : k ≡ 0 → reading_at d (e ∷ es) (moment at k) ≡ reading_at d (e ∷ es) (moment at 0) = λ z. ap (λ m. reading_at d (e ∷ es) (moment at m)) z in
    elim (cases_lt at e.cycle) [
      | inl above ↦ cond-false _ _ _ (lt-leb e.cycle (moment at k) (omega arith)) ∙ sym (cond-false _ _ _ (lt-leb e.cycle (moment at 0) (omega arith)))
      | inr past ↦ same (omega arith)
    ]

none_bad : (b : Bool) (i : ℕ) (x : Option ℕ) → cond b x (Some i) ≡ None → (b ≡ true) × (x ≡ None)
none_bad true i x h = (refl, h)
none_bad false i x h = let z : ◌≡◌ {A = ℕ} 0 1 = cc in absurd (omega arith)

record Good (i low limit : ℕ) (e : Entry) (es : List Entry) : Type 0 where
  above : low ≤ e.cycle
  below : e.cycle < limit
  inside : InRange e.reading
  rest : bad_from (suc i) (suc e.cycle) cycle_limit es ≡ None

-- what is known of the first of entries with none bad
good_parts : (i low limit : ℕ) (e : Entry) (es : List Entry) → bad_from i low limit (e ∷ es) ≡ None → Good i low limit e es
good_parts i low limit e es h =
    let p = none_bad (good low limit e) i (bad_from (suc i) (suc e.cycle) cycle_limit es) h in
    let q = and_parts (leb low e.cycle) (ltb e.cycle limit && ranged e.reading) p.0 in
    let r = and_parts (ltb e.cycle limit) (ranged e.reading) q.1 in
    record { above = leb-true low e.cycle q.0; below = ltb-true e.cycle limit r.0; inside = r.1; rest = p.1 }

pub good_below : (low limit : ℕ) (e : Entry) → good low limit e ≡ true → e.cycle < limit
good_below low limit e h = (good_parts 0 low limit e [] (cond-true _ _ _ h)).below

-- one turn of the check: the entry at i is good, or bad
module _ (es : List Entry) (i low limit : ℕ) (h : i < length es) where
  pub good_more : good low limit (get_or es i no_entry) ≡ true → bad_from i low limit (drop i es) ≡ bad_from (i + 1) ((get_or es i no_entry).cycle + 1) cycle_limit (drop (i + 1) es)
  good_more f =
      let c : suc (get_or es i no_entry).cycle ≡ (get_or es i no_entry).cycle + 1 = omega arith in
      let j : suc i ≡ i + 1 = omega arith in
      ap (bad_from i low limit) (drop_more es i no_entry h) ∙ cond-true _ _ _ f ∙ rw (c, j)

  pub bad_here : good low limit (get_or es i no_entry) ≡ false → bad_from i low limit (drop i es) ≡ Some i
  bad_here f = ap (bad_from i low limit) (drop_more es i no_entry h) ∙ cond-false _ _ _ f

-- entries above t are not shown
not_yet : (i low limit t : ℕ) (d : Reading) (es : List Entry) → bad_from i low limit es ≡ None → t < low → last_at d es t ≡ d
not_yet i low limit t d [] h lt = refl
not_yet i low limit t d (e ∷ es) h lt =
    let p = good_parts i low limit e es h in
    ap (λ x. last_at x es t) (cond-false (leb e.cycle t) e.reading d (lt-leb e.cycle t (omega arith)))
    ∙ not_yet (suc i) (suc e.cycle) cycle_limit t d es p.rest (omega arith)

-- of good entries, the walk held at the limit finds the last whose cycle is not above t
last_is : (i low limit t : ℕ) (d : Reading) (es : List Entry) → bad_from i low limit es ≡ None → limit ≤ cycle_limit → reading_at d es (min t cycle_limit) ≡ last_at d es t
unfolding reading_at
last_is i low limit t d [] h k = refl
last_is i low limit t d (e ∷ es) h k =
    let p = good_parts i low limit e es h in
    elim (cases_lt t e.cycle) [
      | inl lt ↦
          cond-false _ _ _ (lt-leb e.cycle (min t cycle_limit) (omega arith))
          ∙ sym (not_yet (suc i) (suc e.cycle) cycle_limit t d es p.rest (omega arith))
          ∙ sym (ap (λ x. last_at x es t) (cond-false (leb e.cycle t) e.reading d (lt-leb e.cycle t lt)))
      | inr ge ↦
          cond-true _ _ _ (le-leb e.cycle (min t cycle_limit) (omega arith))
          ∙ last_is (suc i) (suc e.cycle) cycle_limit t e.reading es p.rest (omega arith)
          ∙ sym (ap (λ x. last_at x es t) (cond-true (leb e.cycle t) e.reading d (le-leb e.cycle t ge)))
    ]

-- and it is in range
last_in_range : (i low limit t : ℕ) (d : Reading) (es : List Entry) → bad_from i low limit es ≡ None → InRange d → InRange (last_at d es t)
last_in_range i low limit t d [] h r = r
last_in_range i low limit t d (e ∷ es) h r =
    let p = good_parts i low limit e es h in
    let in-cond : (b : Bool) → InRange (cond b e.reading d) = λ b. elim b as (λ b. InRange (cond b e.reading d)) [ true ↦ p.inside | false ↦ r ] in
    last_in_range (suc i) (suc e.cycle) cycle_limit t (cond (leb e.cycle t) e.reading d) es p.rest (in-cond (leb e.cycle t))

-- good entries, from the first on
pub from_first : (es : List Entry) → first_bad es ≡ None → (d : Reading) (n : ℕ) → on_pins (reading_at (get_or es 0 no_entry).reading (drop 1 es) (moment 0 n)) ≡ last_at d es n
from_first [] h d n = let z : ◌≡◌ {A = ℕ} 0 1 = cc in absurd (omega arith)
from_first (e ∷ es) h d n =
    let p = good_parts 0 0 1 e es h in
    let zero-first : 0 + n ≡ n = omega arith in
    ap (λ m. on_pins (reading_at e.reading es (min m cycle_limit))) zero-first
    ∙ ap on_pins (last_is 1 (suc e.cycle) cycle_limit n e.reading es p.rest (omega arith))
    ∙ pins_same (last_at e.reading es n) (last_in_range 1 (suc e.cycle) cycle_limit n e.reading es p.rest p.inside)
    ∙ sym (ap (λ x. last_at x es n) (cond-true (leb e.cycle n) e.reading d (le-leb e.cycle n (omega arith))))

pub some_first : (es : List Entry) → 0 < length es → first_bad es ≡ bad_from 0 0 1 es
some_first [] h = absurd (omega arith)
some_first (e ∷ es) h = refl

first_is : (es : List Entry) → (get_or es 0 no_entry).reading ≡ first_reading es
first_is [] = refl
first_is (e ∷ es) = refl

-- a list with no bad entry makes a schedule
pub of_good : (entries : Bor (List Entry)) → first_bad entries.now ≡ None → Ok (record { entries = entries; at = 0; next = 1; current = (get_or entries.now 0 no_entry).reading }) ≡ schedule_of entries
of_good entries h = rw (h, first_is entries.now)

-- the walk in the library's words: how many come
pub passed_is : (es : List Entry) (t : ℕ) → length (take (prefix_len (has_come t) es) es) ≡ passed es t
unfolding passed
passed_is es t = length-prefix_len (has_come t) es ∙ same es where
  same : (es : List Entry) → prefix_len (has_come t) es ≡ passed es t
  same [] = refl
  same (e ∷ es) = let i : 1 + prefix_len (has_come t) es ≡ suc (passed es t) = omega (arith, same es) in ap (λ n. cond (has_come t e) n 0) i

pub passed_within : (es : List Entry) (t : ℕ) → passed es t ≤ length es
unfolding passed
passed_within [] t = omega arith
passed_within (e ∷ es) t = elim (has_come t e) as (λ b. cond b (suc (passed es t)) 0 ≤ suc (length es)) [ true ↦ omega (arith, passed_within es t) | false ↦ omega arith ]

-- and the reading of the last of them
pub last_in : Reading → List Entry → Reading
last_in d [] = d
last_in d (e ∷ es) = last_in e.reading es

reading_is : (d : Reading) (es : List Entry) (t : ℕ) → last_in d (take (passed es t) es) ≡ reading_at d es t
unfolding passed reading_at last_in
reading_is d [] t = refl
reading_is d (e ∷ es) t = elim (has_come t e) as (λ b. last_in d (take (cond b (suc (passed es t)) 0) (e ∷ es)) ≡ cond b (reading_at e.reading es t) d) [ true ↦ reading_is e.reading es t | false ↦ refl ]

pub shown_is : (d : Reading) (es : List Entry) (t n : ℕ) → n ≡ passed es t → last_in d (take n es) ≡ reading_at d es t
shown_is d es t n h = ap (λ n. last_in d (take n es)) h ∙ reading_is d es t

last_some : (d : Reading) (e : Entry) (es : List Entry) (x : Entry) → Some x ≡ slice_get (e ∷ es) (length es) → x.reading ≡ last_in d (e ∷ es)
unfolding last_in
last_some d e [] x h = let y : x ≡ e = cc in ap (λ y. y.reading) y
last_some d e (f ∷ es) x h = last_some e.reading f es x h

last_none : (e : Entry) (es : List Entry) → None ≡ slice_get (e ∷ es) (length es) → ◌≡◌ {A = ℕ} 0 1
last_none e [] h = cc
last_none e (f ∷ es) h = last_none f es h

last_place : (e : Entry) (es : List Entry) → slice_get (e ∷ es) (length (e ∷ es) - 1) ≡ slice_get (e ∷ es) (length es)
last_place e es = let n : length (e ∷ es) - 1 ≡ length es = omega arith in ap (slice_get (e ∷ es)) n

-- the last of these entries
pub is_last : (d : Reading) (es : List Entry) (x : Entry) → Some x ≡ slice_get es (length es - 1) → x.reading ≡ last_in d es
is_last d [] x h = let z : ◌≡◌ {A = ℕ} 0 1 = cc in absurd (omega arith)
is_last d (e ∷ es) x h = last_some d e es x (h ∙ last_place e es)

-- there is none
pub is_none : (d : Reading) (es : List Entry) → None ≡ slice_get es (length es - 1) → d ≡ last_in d es
unfolding last_in
is_none d [] h = refl
is_none d (e ∷ es) h = let z = last_none e es (h ∙ last_place e es) in absurd (omega arith)
