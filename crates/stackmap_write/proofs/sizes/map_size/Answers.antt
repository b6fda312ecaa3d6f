use Rattle.std.proofs.Common.{arith, ap, length}
use Rattle.std.proofs.lemmas.List.{length-map}
use Rattle.ir_ast.specs.Funcs.{content_of}
use Rattle.stackmap_write.specs.Constants.{constants_of}
use Rattle.stackmap_write.specs.ModuleMaps.{entries_of}
use Rattle.stackmap_write.proofs.SizeLemmas.{function_sizes, map_length, map_short}
use Rattle.stackmap_write.proofs.sizes.map_size.Goals as goal
use Rattle.frame_forms.proofs.LayoutLemmas.{length-laid_from}

pub entry_count-requires : goal.entry_count-requires
entry_count-requires c =
    omega (
      arith,
      ap length c.requires.of_module,
      length-laid_from 4096 c.args.module.now.content.funcs,
      ap length c.funcs-funcs.ensures.content,
      length-map c.funcs-funcs.result.now content_of,
      c.funcs-funcs.ensures.few,
    )

pub loop-func-init : goal.loop-func-init
loop-func-init c = omega (arith, map_length c.args.module.now.content, ap (λ laid. length (entries_of laid)) c.requires.of_module, c.entry_count.ensures, c.requires.constants)

pub records_size-size-requires : goal.records_size-size-requires
records_size-size-requires c =
    let split = function_sizes (constants_of c.args.module.now.content) c.funcs-funcs.result.now c.args.module.now.content.funcs c.loop-func.func-index c.func-item.result
    c.funcs-funcs.ensures.content c.loop-func-test.true c.func-item.is in
    omega (arith, c.loop-func.invariant, split, map_short c.args.module.now.content c.requires.fits)

pub overflow_add-size-in-loop-func : goal.overflow_add-size-in-loop-func
overflow_add-size-in-loop-func c =
    let split = function_sizes (constants_of c.args.module.now.content) c.funcs-funcs.result.now c.args.module.now.content.funcs c.loop-func.func-index c.func-item.result
    c.funcs-funcs.ensures.content c.loop-func-test.true c.func-item.is in
    omega (arith, c.loop-func.invariant, split, map_short c.args.module.now.content c.requires.fits, c.records_size-size.ensures)

pub loop-func-preserved : goal.loop-func-preserved
loop-func-preserved c =
    let split = function_sizes (constants_of c.args.module.now.content) c.funcs-funcs.result.now c.args.module.now.content.funcs c.loop-func.func-index c.func-item.result
    c.funcs-funcs.ensures.content c.loop-func-test.true c.func-item.is in
    omega (arith, c.loop-func.invariant, split, c.records_size-size.ensures)
