use Rattle.std.proofs.Common.{◌≡◌, ℕ, ◌<◌, ◌≤◌, Bool, true, false, cond, eqb, List, [], ◌∷◌, ◌++◌, length, get_or, drop, Some, None, sym, refl, ap, ◌∙◌, arith, vec_items}
use Rattle.std.specs.Bool.{then_some}
use Rattle.std.specs.Option.{option_map}
use Rattle.std.proofs.lemmas.List.{take_rest}
use Rattle.text.specs.Hex.{and_then, hex_pair, pairs_after}
use Rattle.text.proofs.hex.pairs_of.Goals as goal

-- the first two digits write a byte, or none
pair_first : (bytes left : List ℕ) → 2 ≤ length left → pairs_after bytes left ≡ and_then (hex_pair (get_or left 0 0) (get_or left 1 0)) (λ b. pairs_after (bytes ++ (b ∷ [])) (drop 2 left))
unfolding pairs_after
pair_first bytes [] h = absurd (omega arith)
pair_first bytes (high ∷ []) h = absurd (omega arith)
pair_first bytes (high ∷ (low ∷ left)) h = refl

-- one digit alone writes no byte
pairs_end : (bytes left : List ℕ) → length left < 2 → pairs_after bytes left ≡ cond (eqb (length left) 0) (Some bytes) None
unfolding pairs_after
pairs_end bytes [] h = refl
pairs_end bytes (d ∷ []) h = refl
pairs_end bytes (d ∷ (e ∷ left)) h = absurd (omega arith)

kept : {X Y : Type 0} (f : X → Y) (b : Bool) (x : X) → option_map f (then_some b x) ≡ cond b (Some (f x)) None
kept f true x = refl
kept f false x = refl

pub returns-in_default-hex_pair : goal.returns-in_default-hex_pair
returns-in_default-hex_pair c =
    let left = c.loop-left.left.now in
    let bytes = vec_items c.loop-left.bytes in
    sym (c.loop-left.invariant ∙ pair_first bytes left c.in-len2-up.len_at_least ∙ ap (λ o. and_then o (λ b. pairs_after (bytes ++ (b ∷ [])) (drop 2 left))) (sym c.in_default-hex_pair.ensures))

pub loop-left-preserved : goal.loop-left-preserved
loop-left-preserved c =
    let left = c.loop-left.left.now in
    let bytes = vec_items c.loop-left.bytes in
    rw (take_rest left 2, c.in_ok-push.ensures.items) (c.loop-left.invariant ∙ pair_first bytes left c.in-len2-up.len_at_least ∙ ap (λ o. and_then o (λ b. pairs_after (bytes ++ (b ∷ [])) (drop 2 left))) (sym c.in-Some.ensures))

pub returns : goal.returns
returns c =
    let bytes = c.loop-left.bytes in
    rw (c.then_some.ensures, c.is_empty.ensures) (kept vec_items (eqb (length c.loop-left.left.now) 0) bytes ∙ sym (c.loop-left.invariant ∙ pairs_end (vec_items bytes) c.loop-left.left.now c.in_default.len_below))
