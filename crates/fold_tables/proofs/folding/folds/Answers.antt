use Rattle.std.proofs.Common.{◌≡◌, ◌⊎◌, ◌∙◌, List, map, sym, ap, subst}
use Rattle.std.specs.Prelude.{Some}
use Rattle.std.specs.List.{All}
use Rattle.ir_ast.specs.declared.ops.Operand.{Operand}
use Rattle.ir_ast.specs.declared.ops.Operand.TheVariants.{Int}
use Rattle.ir_ast.specs.declared.ops.Op.TheVariants.{Phi, Select}
use Rattle.ir_ast.specs.Operands.{named}
use Rattle.ir_ast.proofs.OpLaws.{same_is}
use Rattle.folded_forms.specs.Foldable.{chosen}
use Rattle.folded_forms.specs.Folded.{stands_for}
use Rattle.folded_forms.specs.Foldings.{Folds, by_entries}
use Rattle.fold_tables.proofs.ListLaws.{on_true, on_true_weaker}
use Rattle.fold_tables.proofs.StandLaws.{chosen_folds, literal_folds}
use Rattle.fold_tables.proofs.folding.folds.Goals as goal

pub returns-in-Phi : goal.returns-in-Phi
returns-in-Phi c =
    let table = c.args.table.now in
    let inst = c.args.inst.now in
    let phi : inst.op ≡ Phi = sym c.op.ensures ∙ c.in-Phi.is in
    let Stand : List Operand → Type 0 = λ operands. All (λ entry. (entry ≡ named c.args.value.0) ⊎ (stands_for table entry ≡ c.args.to)) operands in
    on_true_weaker c.entries_stand.result (Stand c.operands.result.now) (Folds table c.args.value.0 inst c.args.to)
    (λ all. by_entries c.args.to phi (subst Stand c.operands.ensures all)) c.entries_stand.ensures

pub returns-in-Some : goal.returns-in-Some
returns-in-Some c =
    let table = c.args.table.now in
    let inst = c.args.inst.now in
    let to = c.args.to in
    let select : inst.op ≡ Select = sym c.op.ensures ∙ c.in-Select.is in
    on_true c.is_same.result (Folds table c.args.value.0 inst to) (λ yes.
    let same : c.in-Some.operand ≡ to = same_is c.in-Some.operand to (sym c.is_same.ensures ∙ yes) in
    let chooses : chosen (map (stands_for table) inst.operands) ≡ Some to =
    ap (λ (os : List Operand). chosen (map (stands_for table) os)) (sym c.operands-in-Select.ensures) ∙ (sym c.chosen.ensures ∙ (c.in-Some.is ∙ ap (λ (o : Operand). Some o) same)) in
    chosen_folds table c.args.value.0 inst to select chooses)

pub returns-in-Some-literal_given : goal.returns-in-Some-literal_given
returns-in-Some-literal_given c =
    let table = c.args.table.now in
    let inst = c.args.inst.now in
    let to = c.args.to in
    let number = c.in-Some-literal_given.number in
    on_true c.is_same-in-Some-literal_given.result (Folds table c.args.value.0 inst to) (λ yes.
    let same : Int number ≡ to = same_is (Int number) to (sym c.is_same-in-Some-literal_given.ensures ∙ yes) in
    subst (Folds table c.args.value.0 inst) same (literal_folds table c.args.value.0 inst number c.in-Some-literal_given.ensures))
