use Rattle.std.proofs.Common.{◌≡◌, ◌-◌, ◌++◌, length, take, drop, replicate, arith, true, false, sym, subst, List, length-append}
use Rattle.std.specs.List.{All, AllZip}
use Rattle.std.specs.Prelude.{◌↔◌, IsTrue}
use Rattle.std.proofs.lemmas.List.{take_rest}
use Rattle.ir_ast.specs.declared.ops.Operand.{Operand}
use Rattle.ir_ast.specs.Faults.TypeClash.{Fits}
use Rattle.ir_ast.specs.declared.types.Ty.{Ty}
use Rattle.ir_ast.specs.declared.types.Ty.TheVariants.{Ptr}
use Rattle.ir_verify.proofs.Zips.{zip_rest}
use Rattle.ir_verify.proofs.types.statepoint_fits.Goals as goal
use Rattle.list_laws.proofs.Zips.{zip_lengths}

pub returns-then-operands-types : goal.returns-then-operands-types
returns-then-operands-types c =
    let copies = replicate (length c.args.operands.now - length c.args.types.now) Ptr in (
      (λ is. absurd (let bad : false ≡ true = is in cc)),
      (λ all. absurd (let long = zip_lengths (Fits c.args.values.now) c.args.operands.now (c.args.types.now ++ copies) all in
          let more = length-append c.args.types.now copies in omega (arith, c.if-operands-types.true, long, more))),
    )

pub returns : goal.returns
returns c =
    let R : Operand → Ty → Type 0 = Fits c.args.values.now in
    let operands = c.args.operands.now in
    let types = c.args.types.now in
    let P : List Operand → Type 0 = All (λ (operand : Operand). Fits c.args.values.now operand Ptr) in
    let z = zip_rest R operands types Ptr c.if-operands-types.false in
    let back : take (length operands - length types) (drop (length types) operands) ≡ drop (length types) operands = take_rest operands (length types) in
    let h : IsTrue c.both_fit.result ↔ (AllZip R (take (length types) operands) types × P (take (length operands - length types) (drop (length types) operands)))
    = c.both_fit.ensures in (
      (λ is. z.0 (let b = h.0 is in (b.0, subst P back b.1))),
      (λ all. h.1 (let b = z.1 all in (b.0, subst P (sym back) b.1))),
    )
