-- The number of `@main`.
use Rattle.std.proofs.Common.{◌≡◌, List, map, sym, ap, ◌∙◌}
use Rattle.std.specs.Prelude.{codes, unwrap_or}
use Rattle.std.specs.List.{position}
use Rattle.std.specs.Str.{bytes_eq}
use Rattle.list_laws.proofs.Tests.{position_map}
use Rattle.ir_ast.specs.Funcs.{Function, LinedFunction, content_of}
use Rattle.ir_ast.specs.Modules.{ModuleContent}
use Rattle.object_meaning.specs.Lines.{main_of}

pub main_is : (content : ModuleContent) (funcs : List LinedFunction) → map content_of funcs ≡ content.funcs
    → main_of content ≡ unwrap_or (position (λ func. bytes_eq func.content.name (codes "main")) funcs) 0
main_is content funcs e =
    ap (λ (all : List Function). unwrap_or (position (λ func. bytes_eq func.name (codes "main")) all) 0) (sym e)
    ∙ ap (λ found. unwrap_or found 0) (position_map (λ func. bytes_eq func.name (codes "main")) content_of funcs)
