use Rattle.std.proofs.Common.{◌≡◌, ◌+◌, ◌*◌, ◌<◌, Some, drop, sym, ap, ◌∙◌, arith}
use Rattle.byteorder.specs.Endian.{little_number}
use Rattle.map_bytes.specs.Reads.{constants_at, map_read}
use Rattle.stackmap_view.proofs.ViewLaws.{constant-get, constants_are, functions_are}
use Rattle.stackmap_view.proofs.view.MapView.constant.Goals as goal

pub split_at-requires : goal.split_at-requires
split_at-requires c = omega (arith, c.args.self.now.room, c.functions.ensures, functions_are c.args.self.now.bytes.now)

pub split_at-requires-2 : goal.split_at-requires-2
split_at-requires-2 c =
    omega (arith, c.requires, c.args.self.now.room, c.functions.ensures, functions_are c.args.self.now.bytes.now, constants_are c.args.self.now.bytes.now, c.split_at.ensures.back_len)

pub read_u64-requires : goal.read_u64-requires
read_u64-requires c =
    omega (arith, c.requires, c.args.self.now.room, c.functions.ensures, functions_are c.args.self.now.bytes.now, constants_are c.args.self.now.bytes.now, c.split_at.ensures.back_len, c.split_at-2.ensures.back_len)

pub returns : goal.returns
unfolding map_read
returns c =
    let bytes = c.args.self.now.bytes.now in
    let index = c.args.index in
    let within : c.args.index < little_number 4 (drop 8 bytes) = omega (arith, c.requires, constants_are bytes) in
    let at : 16 + 24 * c.functions.result ≡ constants_at bytes = ap (λ n. 16 + 24 * n) (c.functions.ensures ∙ functions_are bytes) in
    let front = c.split_at.ensures.back ∙ ap (λ n. drop n bytes) at in
    let found = ap (little_number 8) (c.split_at-2.ensures.back ∙ ap (drop (8 * index)) front) in
    constant-get (little_number 4 (drop 8 bytes)) index (drop (constants_at bytes) bytes) within ∙ ap Some (sym (c.read_u64.ensures ∙ found))
