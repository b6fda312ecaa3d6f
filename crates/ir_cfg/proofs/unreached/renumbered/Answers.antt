use Rattle.std.proofs.Common.{◌≡◌, Bool, List, rules, true, length, replicate, ap, sym, ◌∙◌, arith}
use Rattle.std.proofs.lemmas.List.{length-append, length-replicate}
use Rattle.ir_ast.specs.Blocks.{BasicBlock}
use Rattle.ir_ast.specs.Funcs.{instructions_of}
use Rattle.ir_cfg.specs.Graphs.{graph_of}
use Rattle.ir_cfg.specs.Marks.{MarksReached}
use Rattle.ir_cfg.specs.Unreached.{Kept, result_marks, new_numbers, kept_by, zeros_of}
use Rattle.ir_cfg.proofs.GraphLemmas.{leads_inside}
use Rattle.ir_cfg.proofs.KeptLemmas.{few_results, small_kept, numbers_left, blocks_left, function_left}
use Rattle.ir_cfg.proofs.unreached.renumbered.Goals as goal

pub marks-requires-clause-inside : goal.marks-requires-clause-inside
marks-requires-clause-inside c = rw c.in_ok-succs.ensures.rows (leads_inside c.args.func.content c.requires.known)

pub of-requires-clause-few_values : goal.of-requires-clause-few_values
of-requires-clause-few_values c =
    let count : c.len.result ≡ length c.into_parts-name.result.2.items = search rules in
    let blocks = c.as_slice-2.ensures.value ∙ c.into_parts-name.ensures.blocks in
    let small = c.into_parts-name.ensures.small in
    let values = ap length c.in_ok-values.ensures in
    let results = few_results c.as_slice.result.now c.as_slice-2.result.now in
    let instructions = ap (λ (bs : List BasicBlock). length (instructions_of bs)) blocks in
    omega (
      arith,
      ap length c.as_slice-3.ensures.value,
      values,
      count,
      ap length c.into_parts-name.ensures.args,
      results,
      instructions,
      small.few_arguments,
      small.few_instructions,
      length-append (replicate c.len.result true) (result_marks c.as_slice.result.now c.as_slice-2.result.now),
      length-replicate c.len.result true,
    )

pub of-requires-2 : goal.of-requires-2
of-requires-2 c =
    rw (c.in_ok-kept.ensures, c.into_parts-name.ensures.args, c.into_parts-name.ensures.blocks)
    (small_kept c.args.func.content.args c.in_ok-renumber.renumber c.in_ok-renumber.renumber.marks c.args.func.content.blocks c.into_parts-name.ensures.small)

pub returns-clause-lines : goal.returns-clause-lines
returns-clause-lines c = c.of-2.ensures.lines ∙ sym (ap zeros_of c.of-2.ensures.content)

pub returns-clause-drops : goal.returns-clause-drops
returns-clause-drops c =
    let reached : MarksReached (graph_of c.args.func.content) c.in_ok-marks.marks.items = rw (← c.in_ok-succs.ensures.rows) c.in_ok-marks.ensures in
    let count : c.len.result ≡ length c.into_parts-name.result.2.items = search rules in
    let told = rw c.as_slice.ensures.value at c.in_ok-values.ensures in
    let values = numbers_left c.args.func.content c.in_ok-marks.marks.items c.in_ok-values.values.items c.len.result c.as_slice-2.result.now
    (count ∙ ap length c.into_parts-name.ensures.args) (c.as_slice-2.ensures.value ∙ c.into_parts-name.ensures.blocks) told in
    let renumber : c.in_ok-renumber.renumber ≡ kept_by c.in_ok-marks.marks.items c.args.func.content =
    c.in_ok-renumber.ensures ∙ ap (λ (vs : List Bool). (let k : Kept = record { marks = c.in_ok-marks.marks.items; blocks = new_numbers c.in_ok-marks.marks.items; values = new_numbers vs } in k))
    (c.as_slice-3.ensures.value ∙ values) in
    let blocks = blocks_left c.args.func.content c.in_ok-marks.marks.items c.in_ok-renumber.renumber c.into_parts-name.result.3.items c.in_ok-kept.kept.items renumber
    c.into_parts-name.ensures.blocks c.in_ok-kept.ensures in
    record {
      marks = c.in_ok-marks.marks.items;
      reached = reached;
      rest = c.of-2.ensures.content ∙ function_left c.args.func.content c.in_ok-marks.marks.items _ _ _ _
          c.into_parts-name.ensures.name c.into_parts-name.ensures.answer c.into_parts-name.ensures.args blocks;
    }
