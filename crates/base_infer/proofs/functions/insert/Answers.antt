use Rattle.std.proofs.Common.{◌≡◌, ◌∙◌, ℕ, List, length, ap, rules}
use Rattle.ir_ast.specs.Blocks.{BasicBlock}
use Rattle.base_forms.specs.Lines.{based_blocks}
use Rattle.base_tables.specs.Tables.{ValueTables, tabled, tables_of, table_of}
use Rattle.base_tables.proofs.TableLemmas.{table_is}
use Rattle.base_infer.proofs.LineLemmas.{small_based}
use Rattle.base_infer.proofs.AgreeLemmas.{agree, based_left}
use Rattle.base_infer.proofs.functions.insert.Goals as goal

pub of-requires-2 : goal.of-requires-2
of-requires-2 c =
    rw (c.in_ok-with_bases.ensures, c.into_parts-name.ensures.args, c.into_parts-name.ensures.blocks)
    (small_based (tabled c.in_ok-tables.tables) c.len.result c.args.func.content.args c.args.func.content.blocks c.into_parts-name.ensures.small c.requires.few)

pub returns-clause-based : goal.returns-clause-based
returns-clause-based c =
    let func = c.args.func.content in
    let count : c.len.result ≡ length c.into_parts-name.result.2.items = search rules in
    let blocks = c.in_ok-with_bases.ensures
    ∙ ap (λ (t : ValueTables). based_blocks (tabled t) c.len.result c.into_parts-name.result.3.items) c.in_ok-tables.ensures
    ∙ ap (λ (n : ℕ). based_blocks (tabled (tables_of func)) n c.into_parts-name.result.3.items) (count ∙ ap length c.into_parts-name.ensures.args)
    ∙ ap (λ (bs : List BasicBlock). based_blocks (tabled (tables_of func)) (length func.args) bs) c.into_parts-name.ensures.blocks
    ∙ agree func c.requires.lines c.requires.known in
    c.of-2.ensures.content ∙ based_left func _ _ _ _ c.into_parts-name.ensures.name c.into_parts-name.ensures.answer c.into_parts-name.ensures.args blocks

pub returns-clause-table : goal.returns-clause-table
returns-clause-table c = c.in_ok-table.ensures ∙ ap (λ (t : ValueTables). table_of t) c.in_ok-tables.ensures ∙ table_is c.args.func.content
