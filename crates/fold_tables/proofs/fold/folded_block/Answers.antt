use Rattle.std.proofs.Common.{◌≡◌, ◌∙◌, true, sym, ap}
use Rattle.folded_forms.specs.Folded.{folded_insts}
use Rattle.fold_tables.specs.Ends.{ends_at}
use Rattle.fold_tables.proofs.FoldLaws.{ends_folded}
use Rattle.fold_tables.proofs.fold.folded_block.Goals as goal

pub of-requires : goal.of-requires
of-requires c =
    let table = c.args.table.now in
    let insts = c.into_parts-name.result.1.items in
    let lines : c.as_slice.result.now ≡ folded_insts table c.args.next insts = c.as_slice.ensures.value ∙ c.in_ok-lines.ensures.lines in
    let at_end : ends_at (folded_insts table c.args.next insts) ≡ true = ap ends_at (sym lines) ∙ (sym c.ends.ensures ∙ c.if-not-ends.false) in
    rw c.in_ok-lines.ensures.lines (ends_folded table c.args.next insts (rw c.into_parts-name.ensures.insts c.into_parts-name.ensures.ends) at_end)
