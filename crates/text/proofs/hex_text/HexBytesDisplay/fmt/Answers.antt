use Rattle.std.proofs.Common.{◌≡◌, ℕ, ◌+◌, ◌*◌, ◌^◌, ◌<◌, ◌≤◌, true, List, [], ◌∷◌, ◌++◌, length, get_or, drop, refl, ap, ◌∙◌, append_assoc, arith}
use Rattle.std.proofs.Output.{writes_in_calls_nil, has_written_append, has_written_of_eq}
use Rattle.std.proofs.lemmas.List.{take_all, take_rest}
use Rattle.text.specs.HexText.{bytes_text, quad_text}
use Rattle.text.proofs.HexText.{byte_output, quad_output, four_shown}
use Rattle.text.proofs.Texts.{put_byte}
use Rattle.text.proofs.hex_text.HexBytesDisplay.fmt.Goals as goal

-- the digits of the first four bytes, and then those of the rest
four_first : (left : List ℕ) (n : ℕ) → 4 ≤ length left → get_or left 0 0 < 256 → get_or left 1 0 < 256 → get_or left 2 0 < 256 → get_or left 3 0 < 256 → n ≡ get_or left 0 0 * 16777216 + get_or left 1 0 * 65536 + get_or left 2 0 * 256 + get_or left 3 0 → quad_text n ++ bytes_text (drop 4 left) ≡ bytes_text left
unfolding bytes_text
four_first [] n h a' b' c' d' is = absurd (omega arith)
four_first (a ∷ []) n h a' b' c' d' is = absurd (omega arith)
four_first (a ∷ b ∷ []) n h a' b' c' d' is = absurd (omega arith)
four_first (a ∷ b ∷ c ∷ []) n h a' b' c' d' is = absurd (omega arith)
four_first (a ∷ b ∷ c ∷ d ∷ left) n h a' b' c' d' is = ap (λ t. t ++ bytes_text left) (four_shown a b c d n a' b' c' d' is)

pub loop-left-init : goal.loop-left-init
loop-left-init g c = λ plain. ([], record { wrote = writes_in_calls_nil _ _; plain = plain }, refl)

pub loop-left-preserved : goal.loop-left-preserved
loop-left-preserved g c = λ plain.
    let so_far = c.loop-left.invariant plain in
    let left = c.loop-left.left.now in
    let quad = c.from_be_bytes-quad.result in
    let a' : get_or left 0 0 < 256 = omega arith in
    let b' : get_or left 1 0 < 256 = omega arith in
    let c' : get_or left 2 0 < 256 = omega arith in
    let d' : get_or left 3 0 < 256 = omega arith in
    let fits : quad < 2 ^ 32 = omega arith in
    let shown = quad_output c.in_radix.result c.laid_out.result quad fits c.in_radix.ensures c.laid_out.ensures in
    let wrote = rw shown at c.in_ok-write.ensures.writes in (
      so_far.0 ++ quad_text quad,
      has_written_append _ _ _ _ _ _ so_far.1 (wrote so_far.1.plain (refl {a = true})),
      rw take_rest (append_assoc so_far.0 (quad_text quad) (bytes_text (drop 4 left)) ∙ ap (λ t. so_far.0 ++ t) (four_first left quad c.in-len4-up.len_at_least a' b' c' d' c.from_be_bytes-quad.ensures) ∙ so_far.2),
    )

pub loop-byte-init : goal.loop-byte-init
unfolding bytes_text
loop-byte-init g c = λ plain. record { wrote = writes_in_calls_nil _ _; plain = plain }

pub loop-byte-preserved : goal.loop-byte-preserved
loop-byte-preserved g c = λ plain.
    let before = c.loop-byte.invariant plain in
    let left = c.loop-left.left.now in
    let byte = get_or left c.loop-byte.byte-index 0 in
    let small : byte < 256 = omega arith in
    let shown = byte_output c.in_radix-in-loop-byte.result c.laid_out-in-loop-byte.result byte small c.in_radix-in-loop-byte.ensures c.laid_out-in-loop-byte.ensures in
    let wrote = rw shown at c.in_ok-write-2.ensures.writes in
    put_byte g.W.Write.write_str_gives c.loop-left.f c.loop-byte.f c.write-in-loop-byte.new.self left c.loop-byte.byte-index c.loop-byte-test.true before (wrote before.plain (refl {a = true}))

pub returns-clause-writes : goal.returns-clause-writes
returns-clause-writes g c = λ plain _.
    let so_far = c.loop-left.invariant plain in
    let last = has_written_of_eq _ _ _ _ _ (ap bytes_text (take_all c.loop-byte.byte-index c.loop-left.left.now c.loop-byte-test.false)) (c.loop-byte.invariant so_far.1.plain) in
    has_written_of_eq _ _ _ _ _ so_far.2 (has_written_append _ _ _ _ _ _ so_far.1 last)
