use Rattle.std.proofs.Common.{drop, sym, ap, ◌∙◌, arith}
use Rattle.byteorder.specs.Endian.{little_number}
use Rattle.stackmap_view.proofs.ViewLaws.{constants_are}
use Rattle.stackmap_view.proofs.view.MapView.constants.Goals as goal

pub split_at-requires : goal.split_at-requires
split_at-requires c = omega (arith, c.args.self.now.room)

pub returns : goal.returns
returns c =
    c.read_u32.ensures ∙ ap (little_number 4) c.split_at.ensures.back ∙ sym (constants_are c.args.self.now.bytes.now)
