use Rattle.std.proofs.Common.{rules, map, ap, sym, ◌∙◌}
use Rattle.ir_ast.specs.Funcs.{content_of}
use Rattle.ir_ast.specs.Modules.{ModuleContent}
use Rattle.ir_cfg.specs.Unreached.{ModuleDropsUnreached, zeros_of}
use Rattle.ir_cfg.proofs.KeptLemmas.{formed_funcs}
use Rattle.ir_cfg.proofs.KeepsSource.{source_after}
use Rattle.ir_cfg.proofs.unreached.drop_unreachable.Goals as goal

pub all_without-requires : goal.all_without-requires
all_without-requires c = formed_funcs content_of c.into_parts-layouts.result.1.items c.args.source.content c.into_parts-layouts.ensures.funcs c.requires

pub returns-clause-lines : goal.returns-clause-lines
returns-clause-lines c =
    c.of.ensures.lines ∙ c.in_ok-new_funcs.ensures.lines
    ∙ sym (ap (λ (content : ModuleContent). map zeros_of content.funcs) c.of.ensures.content)

pub returns-clause-keeps_source : goal.returns-clause-keeps_source
returns-clause-keeps_source c =
    let drops : ModuleDropsUnreached c.args.source.content c.of.result.content = search rules in
    source_after c.args.source.content c.of.result.content c.requires drops
