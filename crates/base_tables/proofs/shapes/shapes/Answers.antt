use Rattle.std.proofs.Common.{◌∙◌, [], refl, arith, length, ap}
use Rattle.ir_ast.specs.declared.funcs.Arg.{Arg}
use Rattle.ir_ast.specs.declared.types.Ty.TheVariants.{Void}
use Rattle.ir_ast.specs.Blocks.{BasicBlock}
use Rattle.std.proofs.Common.{◌++◌, is_some}
use Rattle.std.specs.Prelude.{map}
use Rattle.std.specs.List.{filter}
use Rattle.ir_ast.specs.Values.{outcome}
use Rattle.base_tables.specs.Kinds.{kind_of}
use Rattle.base_tables.specs.Seen.{seen_shape}
use Rattle.std.proofs.lemmas.List.{length-map}
use Rattle.ir_ast.specs.Values.{definitions_of}
use Rattle.base_tables.proofs.DefinitionLemmas.{few_definitions}
use Rattle.base_tables.proofs.ShapeLemmas.{args_more, args_all, blocks_more, blocks_all}
use Rattle.base_tables.proofs.shapes.shapes.Goals as goal

pub loop-arg-preserved : goal.loop-arg-preserved
loop-arg-preserved c =
    let none : Arg = record { name = []; ty = Void } in
    args_more seen_shape c.loop-arg.shapes.items c.push.new.self.items _ c.args-arg-items.result.now c.loop-arg._arg-index none c.loop-arg-test.true
    c.loop-arg.invariant c.in_ok-push.ensures.items refl

pub loop-block-init : goal.loop-block-init
loop-block-init c =
    rw (← c.args-arg-items.ensures.value)
    (args_all seen_shape c.loop-arg.shapes.items c.args-arg-items.result.now c.loop-arg._arg-index (omega arith) c.loop-arg.invariant)

pub loop-block-preserved : goal.loop-block-preserved
loop-block-preserved c =
    blocks_more seen_shape c.loop-block.shapes.items c.add_shapes.new.shapes.items c.args.func.now.content.args c.blocks-block-items.result.now
    c.loop-block.block-index c.block-item.result c.loop-block-test.true c.loop-block.invariant
    (c.in_ok-add_shapes.ensures ∙ ap (λ (b : BasicBlock). map seen_shape c.loop-block.shapes.items ++ map kind_of (map outcome (filter (λ inst. is_some inst.result) b.insts))) c.block-item.is)

pub returns-clause-kinds : goal.returns-clause-kinds
returns-clause-kinds c =
    blocks_all seen_shape c.loop-block.shapes.items c.args.func.now.content c.loop-block.block-index
    (let e = ap length c.blocks-block-items.ensures.value in omega (arith, e))
    (rw (← c.blocks-block-items.ensures.value) c.loop-block.invariant)

pub returns-clause-few : goal.returns-clause-few
returns-clause-few c =
    let kinds = blocks_all seen_shape c.loop-block.shapes.items c.args.func.now.content c.loop-block.block-index
    (let e = ap length c.blocks-block-items.ensures.value in omega (arith, e))
    (rw (← c.blocks-block-items.ensures.value) c.loop-block.invariant) in
    omega (
      arith,
      few_definitions c.args.func.now.content c.args-arg-items.ensures.small,
      ap length kinds,
      length-map c.loop-block.shapes.items seen_shape,
      length-map (definitions_of c.args.func.now.content) kind_of,
    )
