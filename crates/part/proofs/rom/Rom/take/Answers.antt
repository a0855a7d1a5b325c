use Rattle.std.proofs.Common.{◌≡◌, get_or}
use Rattle.part.specs.Layout.{eprom_first, eprom_last, option_byte, vectors_first, vectors_last}
use Rattle.part.specs.Rom.{stretch}
use Rattle.part.proofs.rom.Rom.take.Goals as goal

pub returns : goal.returns
returns c =
    let image = c.args.image.now in
    let eprom : c.copy_from_slice.new.self ≡ stretch eprom_first eprom_last image = simp (c.from.ensures, c.from-2.ensures) at c.copy_from_slice.ensures.after in
    let options : get_or image c.from-3.result 0 ≡ get_or image option_byte 0 = simp (c.from-3.ensures) in
    let vectors : c.copy_from_slice-2.new.self ≡ stretch vectors_first vectors_last image = simp (c.from-4.ensures, c.from-5.ensures) at c.copy_from_slice-2.ensures.after in
    λ i. record { eprom = eprom i; options = options i; vectors = vectors i }
