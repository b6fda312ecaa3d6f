use Rattle.std.specs.Prelude.{map}
use Rattle.std.specs.List.{Contains}
use Rattle.line_parts.specs.Seen.{seen_type, seen_argument}
use Rattle.ir_lines.specs.Sections.{types_of}
use Rattle.ir_lines.specs.Externals.{external, makers_of, own_externals}
use Rattle.std.proofs.lemmas.List.Elements.{Contains-append_left}
use Rattle.std.proofs.Common.{refl}
use Rattle.text_resolve.proofs.ExternalLemmas.{not-in-first, is-false}
use Rattle.text_resolve.proofs.tops.is_external.Goals as goal

pub returns-then-is_made : goal.returns-then-is_made
returns-then-is_made c =
    let one = external c.args.name.now (seen_type c.args.answer) (types_of (map seen_argument c.args.parameters.now)) in
    ((λ t. Contains-append_left (makers_of c.args.top.now.layouts) own_externals one (c.is_made.ensures.0 c.if-is_made.true)), (λ k. refl))

pub returns : goal.returns
returns c =
    let one = external c.args.name.now (seen_type c.args.answer) (types_of (map seen_argument c.args.parameters.now)) in
    not-in-first (makers_of c.args.top.now.layouts) own_externals one c.is_own.result
    (is-false (Contains (makers_of c.args.top.now.layouts) one) c.is_made.result c.is_made.ensures c.if-is_made.false) c.is_own.ensures
