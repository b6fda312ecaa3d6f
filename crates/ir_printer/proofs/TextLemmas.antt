-- The functions of a module, seen with their lines.
use Rattle.std.proofs.Common.{◌≡◌, true, false, List, [], ◌∷◌, map, codes, refl, ap}
use Rattle.ir_ast.specs.Layouts.{ObjectLayout}
use Rattle.ir_ast.specs.Funcs.{LinedFunction, content_of}
use Rattle.ir_printer.specs.Lists.{led, joined}
use Rattle.ir_printer.specs.Declarations.{has_top}
use Rattle.ir_printer.specs.Texts.{function_text, functions_text}
use Rattle.list_laws.proofs.Places.{map_map}

pub functions_text-above : (layouts : List ObjectLayout) (funcs : List LinedFunction) → has_top layouts (map content_of funcs) ≡ true → functions_text layouts (map content_of funcs) ≡ led (codes "\n") (map (λ func. function_text layouts (map content_of funcs) func.content) funcs)
functions_text-above layouts funcs above = rw above (rw (map_map (function_text layouts (map content_of funcs)) content_of funcs) refl)

pub functions_text-first : (layouts : List ObjectLayout) (funcs : List LinedFunction) → has_top layouts (map content_of funcs) ≡ false → functions_text layouts (map content_of funcs) ≡ joined (codes "\n") (map (λ func. function_text layouts (map content_of funcs) func.content) funcs)
functions_text-first layouts funcs first = rw first (rw (map_map (function_text layouts (map content_of funcs)) content_of funcs) refl)
