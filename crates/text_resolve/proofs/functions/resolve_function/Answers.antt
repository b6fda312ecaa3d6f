use Rattle.std.proofs.Common.{◌∙◌, List, ap, sym, subst}
use Rattle.std.specs.Prelude.{map}
use Rattle.ir_lines.specs.declared.sections.BlockLines.{BlockLines as BlockTable}
use Rattle.ir_lines.specs.Modules.{Known}
use Rattle.ir_lines.specs.Tables.{seen_definition, seen_block}
use Rattle.module_build.specs.Built.{lined_function}
use Rattle.module_build.proofs.BuiltLemmas.{known-local}
use Rattle.module_build.specs.Placed.{IsPlacedFunction}
use Rattle.text_resolve.proofs.ScopeLemmas.{notes-function}
use Rattle.text_resolve.proofs.functions.resolve_function.Goals as goal

pub function-requires-clause-placed : goal.function-requires-clause-placed
function-requires-clause-placed c =
    let own = seen_definition c.args.func.now in
    let l = c.in_ok-local.ensures.is in
    subst (λ (known : Known). IsPlacedFunction known own)
    (sym (known-local c.args.top.now own c.in_ok-local.local.values c.in_ok-local.local.blocks l.values l.blocks)) c.requires

pub returns-clause-func : goal.returns-clause-func
returns-clause-func c =
    let own = seen_definition c.args.func.now in
    let l = c.in_ok-local.ensures.is in
    c.in_ok-func.ensures.made
    ∙ ap (λ (known : Known). lined_function known own)
    (known-local c.args.top.now own c.in_ok-local.local.values c.in_ok-local.local.blocks l.values l.blocks)

pub returns-clause-noted : goal.returns-clause-noted
returns-clause-noted c = λ lines top.
    notes-function c.args.form lines (seen_definition c.args.func.now) c.args.top.now c.in_ok-local.local (map seen_block c.as_slice-3.result.now)
    c.args.first.now.found c.of-2.new.first.found c.note_body.new.first.found c.function.new.first.found top c.in_ok-local.ensures.is
    (ap (λ (bs : List BlockTable). map seen_block bs) c.as_slice-3.ensures.value ∙ c.in_ok-sections.ensures)
    c.in_ok-local.ensures.noted c.in_ok-cases.ensures.noted c.in_ok-func.ensures.noted
