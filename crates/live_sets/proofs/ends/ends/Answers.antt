use Rattle.std.proofs.Common.{◌∙◌, ap, arith, length}
use Rattle.std.proofs.lemmas.List.{length-map}
use Rattle.ir_ast.specs.Types.{is_pointer}
use Rattle.ir_ast.specs.Values.{value_types}
use Rattle.live_sets.proofs.WholeLaws.{values_are}
use Rattle.live_sets.proofs.EndsLaws.{empty_at, ends_none}
use Rattle.live_sets.proofs.ends.ends.Goals as goal
use Rattle.ir_ast.proofs.FuncLaws.{few_values}

pub marked-requires : goal.marked-requires
marked-requires c =
    let func = c.args.func.now.content in
    let few = few_values func in
    let long = ap length c.requires.marks ∙ length-map (value_types func) is_pointer in
    omega (arith, few, long, c.blocks-count.ensures.small.few_arguments, c.blocks-count.ensures.small.few_instructions)

pub all_ends-requires-clause-values : goal.all_ends-requires-clause-values
all_ends-requires-clause-values c = c.as_slice.ensures.value ∙ c.in_ok-values.ensures ∙ values_are c.args.func.now.content c.args.marks.now c.requires.marks

pub returns-then-not-has_edge : goal.returns-then-not-has_edge
returns-then-not-has_edge c =
    ends_none c.args.func.now.content c.args.bases.now c.args.wanted.now c.in_ok-none.none.items (omega (arith, c.in_ok-none.ensures.whole, ap length c.blocks-count.ensures.value))
    (λ b. empty_at c.in_ok-none.none.items b c.in_ok-none.ensures.empty) (c.has_edge.ensures c.if-not-has_edge.true)
