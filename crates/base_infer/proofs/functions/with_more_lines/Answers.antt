use Rattle.std.proofs.Common.{◌∙◌, ◌++◌, ◌∷◌, [], ℕ, List, ap, sym, arith}
use Rattle.std.proofs.lemmas.List.{length-append}
use Rattle.ir_ast.specs.Insts.{Instruction}
use Rattle.object_meaning.specs.Lines.{following}
use Rattle.base_forms.specs.Lines.{lines_for, based_insts}
use Rattle.base_tables.specs.Tables.{tabled}
use Rattle.base_infer.proofs.LineLemmas.{insts-push}
use Rattle.base_infer.proofs.functions.with_more_lines.Goals as goal
use Rattle.object_meaning.proofs.LineLaws.{following_few, after_push}

pub loop-inst-preserved : goal.loop-inst-preserved
loop-inst-preserved c =
    let inst = c.in-Some.inst in
    let start = c.args.start in
    let tables = c.args.tables.now in
    let yielded = c.loop-inst.yielded in
    record {
      next = c.following-behind.ensures ∙ ap (λ (n : ℕ). following n inst) c.loop-inst.invariant.next ∙ sym (after_push start yielded inst);
      few = omega (arith, c.following-behind.ensures, following_few c.loop-inst.next inst, c.loop-inst.invariant.few, length-append yielded (inst ∷ []));
      lines = c.in_ok-push_lines.ensures
          ∙ ap (λ (xs : List Instruction). xs ++ lines_for (tabled tables) c.loop-inst.next inst inst.op) c.loop-inst.invariant.lines
          ∙ ap (λ (n : ℕ). based_insts (tabled tables) start yielded ++ lines_for (tabled tables) n inst inst.op) c.loop-inst.invariant.next
          ∙ sym (insts-push (tabled tables) start yielded inst);
    }
