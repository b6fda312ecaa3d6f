use Rattle.std.proofs.Common.{◌∙◌, ◌++◌, ◌∷◌, [], ℕ, List, ap, sym, arith}
use Rattle.std.proofs.lemmas.List.{length-append}
use Rattle.ir_ast.specs.Insts.{Instruction}
use Rattle.object_meaning.specs.Lines.{following}
use Rattle.object_meaning.proofs.LineLaws.{following_few, after_push}
use Rattle.folded_forms.specs.Folded.{folded_insts, folded_lines}
use Rattle.fold_tables.proofs.FoldLaws.{insts-push}
use Rattle.fold_tables.proofs.fold.folded_insts.Goals as goal

pub loop-inst-preserved : goal.loop-inst-preserved
loop-inst-preserved c =
    let inst = c.in-Some.inst in
    let start = c.args.start in
    let table = c.args.table.now in
    let yielded = c.loop-inst.yielded in
    record {
      next = c.following-behind.ensures ∙ ap (λ (n : ℕ). following n inst) c.loop-inst.invariant.next ∙ sym (after_push start yielded inst);
      few = omega (arith, c.following-behind.ensures, following_few c.loop-inst.next inst, c.loop-inst.invariant.few, length-append yielded (inst ∷ []));
      lines = c.in_ok-push_folded.ensures
          ∙ ap (λ (xs : List Instruction). xs ++ folded_lines table c.loop-inst.next inst) c.loop-inst.invariant.lines
          ∙ ap (λ (n : ℕ). folded_insts table start yielded ++ folded_lines table n inst) c.loop-inst.invariant.next
          ∙ sym (insts-push table start yielded inst);
    }
