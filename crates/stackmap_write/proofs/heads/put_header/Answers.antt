use Rattle.std.proofs.Common.{append_assoc}
use Rattle.stackmap_write.proofs.heads.put_header.Goals as goal

pub returns : goal.returns
returns c =
    rw (c.in_ok-put_u32-3.ensures, c.in_ok-put_u32-2.ensures, c.in_ok-put_u32.ensures, c.in_ok-put_u16.ensures, c.in_ok-put_u8-2.ensures, c.in_ok-put_u8.ensures)
    (simp append_assoc)
