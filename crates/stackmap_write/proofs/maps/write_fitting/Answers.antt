use Rattle.std.proofs.Common.{◌≤◌, ◌∙◌, ◌++◌, arith, ap, length}
use Rattle.std.specs.List.{flat_map}
use Rattle.std.proofs.lemmas.List.{length-map}
use Rattle.ir_ast.specs.Funcs.{content_of}
use Rattle.map_bytes.specs.Maps.{record_bytes}
use Rattle.stackmap_write.specs.Constants.{constants_of}
use Rattle.stackmap_write.specs.ModuleMaps.{records_of}
use Rattle.stackmap_write.proofs.MapLemmas.{at_end, written}
use Rattle.stackmap_write.proofs.RecordLemmas.{function_step, put_step, fits_front, fits_back}
use Rattle.stackmap_write.proofs.maps.write_fitting.Goals as goal
use Rattle.frame_forms.proofs.LayoutLemmas.{length-laid_from}

pub put_heads-requires-clause-few_functions : goal.put_heads-requires-clause-few_functions
put_heads-requires-clause-few_functions c =
    omega (
      arith,
      ap length c.requires.of_module,
      length-laid_from 4096 c.args.module.now.content.funcs,
      ap length c.funcs-funcs.ensures.content,
      length-map c.funcs-funcs.result.now content_of,
      c.funcs-funcs.ensures.few,
    )

pub put_records-requires-clause-fit : goal.put_records-requires-clause-fit
put_records-requires-clause-fit c =
    let content = c.args.module.now.content in
    let split = function_step (constants_of content) c.funcs-funcs.result.now content.funcs c.loop-func.func-index c.func-item.result
    c.funcs-funcs.ensures.content c.loop-func-test.true c.func-item.is in
    rw c.in_ok-constants.ensures (fits_front _ _ _ _ split c.loop-func.invariant.1)

pub loop-func-preserved : goal.loop-func-preserved
loop-func-preserved c =
    let content = c.args.module.now.content in
    let split = function_step (constants_of content) c.funcs-funcs.result.now content.funcs c.loop-func.func-index c.func-item.result
    c.funcs-funcs.ensures.content c.loop-func-test.true c.func-item.is in (
      put_step c.loop-func.bytes.items _ _ _ _ _ split
          (c.in_ok-put_records.ensures ∙ ap (λ keys. c.loop-func.bytes.items ++ flat_map record_bytes (records_of keys c.func-item.result.content)) c.in_ok-constants.ensures)
          c.loop-func.invariant.0,
      fits_back _ _ _ _ split c.loop-func.invariant.1,
    )

pub returns : goal.returns
returns c =
    let content = c.args.module.now.content in
    let over : length content.funcs ≤ c.loop-func.func-index = omega (arith, c.loop-func-test.false, ap length c.funcs-funcs.ensures.content, length-map c.funcs-funcs.result.now content_of) in
    written content c.args.layouts.now _ _ _ _ _ c.requires.of_module (c.len-2.ensures.len ∙ ap length c.in_ok-constants.ensures) c.requires.fits.counted c.in_ok-bytes.ensures.items c.in_ok-put_heads.ensures
    (rw (← c.in_ok-constants.ensures, ← c.as_slice.ensures.keys) c.in_ok-put_constants.ensures)
    (at_end (constants_of content) _ _ content.funcs c.loop-func.func-index over c.loop-func.invariant.0)
