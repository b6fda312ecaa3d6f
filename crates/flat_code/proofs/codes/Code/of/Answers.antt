use Rattle.std.proofs.Common.{◌≡◌, ℕ, length, List, ap, sym, subst, ◌∙◌}
use Rattle.std.specs.Prelude.{slice_get}
use Rattle.std.proofs.lemmas.List.{length-map}
use Rattle.ir_ast.specs.Funcs.{Function as IrFunction, content_of}
use Rattle.flat_code.specs.Segments.{IsFunction}
use Rattle.flat_code.proofs.CodeLemmas.{functions_are}
use Rattle.flat_code.proofs.codes.Code.of.Goals as goal

pub invariant_of-result : goal.invariant_of-result
invariant_of-result c =
    let content = c.args.«module».now.content in
    let count : length c.funcs.result.now ≡ length content.funcs =
    sym (length-map c.funcs.result.now content_of) ∙ ap (λ (fs : List IrFunction). length fs) c.funcs.ensures.content in
    functions_are content c.in_ok-functions.functions.items c.in_ok-nowhere.nowhere c.in_ok-functions.ensures
    (subst (λ (n : ℕ). IsFunction content.layouts (slice_get content.funcs n) c.in_ok-nowhere.nowhere) count c.in_ok-nowhere.ensures)
