use Rattle.std.proofs.Common.{◌∙◌, [], ◌++◌, ℕ, List, ap}
use Rattle.std.specs.Prelude.{map, flat_map}
use Rattle.std.proofs.lemmas.List.Elements.{All-same}
use Rattle.ir_ast.specs.Blocks.{EndsAtTerminator}
use Rattle.ir_ast.specs.Funcs.{Function}
use Rattle.line_parts.specs.Seen.{seen_type}
use Rattle.ir_lines.specs.Sections.{BlockLines, arguments_named, blocks_of}
use Rattle.ir_lines.specs.Tables.{seen_definition, seen_block}
use Rattle.ir_lines.specs.Modules.{insts_of, numbers_of, block_of, argument_of}
use Rattle.module_build.specs.Known.{known_in}
use Rattle.module_build.proofs.BuiltLemmas.{lines-many}
use Rattle.text_resolve.proofs.BuiltText.{content-built, function-built, small-built}
use Rattle.text_resolve.proofs.functions.function.Goals as goal

pub built_blocks-requires : goal.built_blocks-requires
built_blocks-requires c =
    let own = seen_definition c.args.func.now in
    All-same (λ (one : BlockLines). EndsAtTerminator (insts_of (known_in c.args.scope.now) one.lines)) (map seen_block c.args.blocks.now) (blocks_of own)
    c.requires.blocks c.requires.placed.blocks

pub of-whole-requires : goal.of-whole-requires
of-whole-requires c =
    let own = seen_definition c.args.func.now in
    small-built c.in_ok-args.args.items (map argument_of (arguments_named own.line [] own.arguments)) c.in_ok-built.built.items
    (map (block_of (known_in c.args.scope.now)) (blocks_of own)) c.in_ok-args.ensures
    (c.in_ok-built.ensures.blocks
    ∙ ap (λ (bs : List BlockLines). map (block_of (known_in c.args.scope.now)) bs)
    c.requires.blocks)
    c.requires.placed.small

pub with_lines-requires : goal.with_lines-requires
with_lines-requires c =
    lines-many (known_in c.args.scope.now) (map seen_block c.args.blocks.now) c.built_blocks.new.numbers.items c.of-whole.result.content.blocks
    (c.in_ok-built.ensures.numbers
    ∙ ap (λ (ns : List ℕ). ns ++ flat_map (λ (one : BlockLines). numbers_of (known_in c.args.scope.now) one.lines) (map seen_block c.args.blocks.now)) c.in_ok-numbers.ensures.items)
    (ap (λ (func : Function). func.blocks) c.of-whole.ensures.content ∙ c.in_ok-built.ensures.blocks)

pub returns-clause-made : goal.returns-clause-made
returns-clause-made c =
    function-built (known_in c.args.scope.now) (seen_definition c.args.func.now) c.with_lines.result c.in_ok-args.args.items c.in_ok-built.built.items
    c.built_blocks.new.numbers.items (map seen_block c.args.blocks.now)
    c.requires.blocks
    c.in_ok-args.ensures c.in_ok-built.ensures.blocks
    (c.in_ok-built.ensures.numbers
    ∙ ap (λ (ns : List ℕ). ns ++ flat_map (λ (one : BlockLines). numbers_of (known_in c.args.scope.now) one.lines) (map seen_block c.args.blocks.now)) c.in_ok-numbers.ensures.items)
    (content-built c.with_lines.result.content c.in_ok-name.name c.args.func.now.name.now c.type_of.result (seen_type c.args.func.now.answer) c.in_ok-args.args.items
    c.in_ok-built.built.items (c.with_lines.ensures.content ∙ c.of-whole.ensures.content) c.in_ok-name.ensures c.type_of.ensures)
    c.with_lines.ensures.lines
