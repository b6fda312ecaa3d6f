-- In a function with polls no use is one where the value isn't defined.
use Rattle.std.proofs.Common.{◌≡◌, ℕ, ◌<◌, ◌≤◌, length, sym, ap, subst, ◌∙◌, inl, inr, arith}
use Rattle.std.specs.Prelude.{true, false, Some, slice_get}
use Rattle.std.specs.List.{Contains}
use Rattle.std.proofs.lemmas.Option.{slice_get_within}
use Rattle.list_laws.proofs.Contents.{contains_none}
use Rattle.ir_ast.specs.Insts.{Instruction}
use Rattle.ir_ast.specs.Blocks.{BasicBlock}
use Rattle.ir_ast.specs.Funcs.{Function}
use Rattle.ir_ast.specs.Operands.{values_used}
use Rattle.ir_ast.specs.Faults.PhiEdges.{is_phi}
use Rattle.ir_cfg.specs.DefiniteUses.{Uses, UsesAreDefinite, by_entry, by_line, text_place}
use Rattle.base_forms.specs.Polls.{placed}
use Rattle.base_definite.proofs.base_paths.UndefinedLaws.{Undefined, undefined_unused}
use Rattle.base_definite.proofs.ExpandLaws.{Expands, none_here}
use Rattle.base_definite.proofs.PolledLaws.{IsSourceLine, expands_polls, source_line}

-- no use of a value is one where a path hasn't defined it
abbrev pub NoneUndefined : Function → Type 0
NoneUndefined func = (line value number place : ℕ) → Uses func line value number place → length func.args ≤ value → Undefined func value number place → ⊥

module _ (func : Function) (filled : (number : ℕ) (block : BasicBlock) → slice_get func.blocks number ≡ Some block → 0 < length block.insts) (definite : UsesAreDefinite func) where
  abbrev expands : Expands func (placed func) (λ value. value)
  expands = expands_polls func filled

  by_source : (number place value : ℕ) (inst : Instruction) → is_phi inst.op ≡ false → Contains (values_used inst) value → length func.args ≤ value → Undefined (placed func) value number place
      → IsSourceLine func filled number place inst → ⊥
  by_source number place value inst no_phi used high undefined source =
      let within = slice_get_within source.stands.block.insts source.own inst source.stands.in_block in
      let clean = none_here func (placed func) (λ v. v) expands value number place undefined source.own source.stands.block source.stands.in_function (omega arith) source.no_later in
      undefined_unused func definite value high (text_place func number source.own) number source.own (by_line number source.own value inst source.stands no_phi used) clean

  pub none_undefined : NoneUndefined (placed func)
  none_undefined _ _ _ _ (by_line number place value inst stands no_phi used) = λ high undefined.
      elim (source_line func filled number place inst stands) [
        | inl poll ↦ absurd (contains_none value (subst (λ (i : Instruction). Contains (values_used i) value) poll used))
        | inr source ↦ by_source number place value inst no_phi used high undefined source
      ]
  none_undefined _ _ _ _ (by_entry number place entry value phi operand label from stands is_one label_at operand_at value_at found) = λ high undefined.
      elim (source_line func filled number place phi stands) [
        | inl poll ↦ absurd (let none : true ≡ false = sym is_one ∙ ap (λ (i : Instruction). is_phi i.op) poll in cc)
        | inr source ↦
            let own = expands.found label.0 from found in
            let end = own.2 in
            let clean = none_here func (placed func) (λ v. v) expands value label.0 (length from.insts) undefined (length own.0.insts) own.0 own.1 (omega arith) (omega arith) in
            undefined_unused func definite value high (text_place func number source.own) label.0 (length own.0.insts)
            (by_entry number source.own entry value phi operand label own.0 source.stands is_one label_at operand_at value_at own.1) clean
      ]
