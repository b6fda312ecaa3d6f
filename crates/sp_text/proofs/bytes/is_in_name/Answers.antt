-- The table is held against the definition at each of the 256 bytes, by computing.
use Rattle.std.proofs.Common.{not, nat_eq, get_or, refl, arith}
use Rattle.std.proofs.lemmas.Bool.{agree_below_at}
use Rattle.sp_text.specs.Bytes.{in_name}
use Rattle.sp_text.specs.declared.bytes.TheConstants.{NAME_BYTES}
use Rattle.sp_text.proofs.bytes.is_in_name.Goals as goal

pub returns : goal.returns
returns c = agree_below_at (λ k. not (nat_eq (get_or NAME_BYTES k 0) 44)) in_name 256 c.args.b refl (omega arith)
