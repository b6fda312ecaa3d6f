use Rattle.std.proofs.Common.{◌∙◌, ◌+◌, ◌++◌, ℕ, drop, sym, ap, arith}
use Rattle.std.proofs.lemmas.List.{drop_all}
use Rattle.ir_ast.specs.Funcs.{instructions_of}
use Rattle.print_tables.specs.Names.{result_name}
use Rattle.print_tables.proofs.NameLemmas.{result_name-at_first, result_name-at_later, result_name-at_none, result_name-nil}
use Rattle.print_tables.proofs.names.name_from.Goals as goal
use Rattle.print_tables.proofs.names.name_from.Goals.{in-Some+else-left-eq0, in_default}

pub returns-then-left-eq0 : goal.returns-then-left-eq0
returns-then-left-eq0 c =
    c.bytes.ensures ∙ sym (c.loop-inst.invariant ∙ result_name-at_first c.after-inst-items.result.now c.loop-inst.inst-index c.inst-item.result
    _ c.loop-inst.left c.in-Some.name (omega arith) c.inst-item.is (sym c.result.ensures ∙ c.in-Some.is) c.if-left-eq0.true)

pub loop-inst-preserved : goal.loop-inst-preserved
loop-inst-preserved c =
    elim c.match-result.branch [
      | in-Some+else-left-eq0 w ↦
          c.loop-inst.invariant ∙ result_name-at_later c.after-inst-items.result.now c.loop-inst.inst-index c.inst-item.result
          _ c.loop-inst.left c.match-result.left w.in-Some.name (omega arith) c.inst-item.is (sym c.result.ensures ∙ w.in-Some.is)
          (let above = w.if-left-eq0.false in let is = w.left-is in omega arith)
      | in_default w ↦
          c.loop-inst.invariant ∙ result_name-at_none c.after-inst-items.result.now c.loop-inst.inst-index c.inst-item.result
          _ c.loop-inst.left (omega arith) c.inst-item.is (sym c.result.ensures ∙ w.in_default.is)
          ∙ ap (λ (left : ℕ). result_name (drop (c.loop-inst.inst-index + 1) c.after-inst-items.result.now ++ instructions_of (drop (c.loop-block.block-index + 1) c.after-block-items.result.now)) left) (sym w.left-is)
    ]

pub returns : goal.returns
returns c = sym (
    c.loop-block.invariant ∙ rw (drop_all c.loop-block.block-index c.after-block-items.result.now c.loop-block-test.false) (result_name-nil c.loop-block.left)
    )
