use Rattle.std.proofs.Common.{◌≡◌, ℕ, suc, ◌-◌, ◌%◌, ◌<◌, List, get_or, vec_items, sym, ◌∙◌, arith, Fits, w8}
use Rattle.part.specs.Layout.{address_space, eprom_first}
use Rattle.listing.specs.Line.{byte_at, length_of}
use Rattle.listing.specs.Sweep.{sweep_end}
use Rattle.listing.proofs.Lists.{line_ahead, same_lines, lines_more, lines_stop}
use Rattle.listing.proofs.sweep.all_lines.Goals as goal

bytes_fit : (image : List ℕ) → ((i : ℕ) → Fits w8 (get_or image i 0)) → (k : ℕ) → byte_at image k < 256
bytes_fit image fits k = omega (arith, fits (k % address_space))

pub loop-line-init : goal.loop-line-init
loop-line-init c =
    let bytes = bytes_fit c.args.image.now c.type_inv.image in
    rw c.new-lines.ensures.items (same_lines c.args.image.now bytes address_space (suc (sweep_end - eprom_first)) eprom_first (omega arith) (omega arith))

pub loop-line-smaller : goal.loop-line-smaller
loop-line-smaller c =
    let bytes = bytes_fit c.args.image.now c.type_inv.image in
    let p = line_ahead c.args.image.now bytes c.loop-line.at c.in-Some.line c.in-Some.ensures.is in
    let length : c.from.result ≡ length_of c.in-Some.line = c.from.ensures ∙ c.length.ensures in
    omega arith

pub loop-line-preserved : goal.loop-line-preserved
loop-line-preserved c =
    let bytes = bytes_fit c.args.image.now c.type_inv.image in
    let more = lines_more c.args.image.now bytes c.loop-line.at c.in-Some.line (vec_items c.loop-line.lines) c.in-Some.ensures.is in
    rw (c.in_ok-push.ensures.items, c.from.ensures ∙ c.length.ensures) (c.loop-line.invariant ∙ more)

pub returns : goal.returns
returns c =
    sym (c.loop-line.invariant ∙ lines_stop c.args.image.now c.loop-line.at (vec_items c.loop-line.lines) c.in_default.ensures.is)
