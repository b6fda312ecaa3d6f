use Rattle.std.proofs.Common.{◌≡◌, ◌∙◌, ap, subst, refl, ℕ, List, [], ◌++◌}
use Rattle.std.specs.Prelude.{map}
use Rattle.line_parts.specs.Seen.{seen_argument}
use Rattle.ir_lines.specs.Again.{FoundAfter, IsBadName, named_values, named_blocks, results_of}
use Rattle.ir_lines.specs.Notes.{Notes}
use Rattle.ir_lines.specs.Sections.{Naming, BlockLines, arguments_named}
use Rattle.ir_lines.specs.Tables.{seen_definition, seen_block}
use Rattle.ir_lines.specs.Views.{seen_lines}
use Rattle.ir_lines.proofs.TableLemmas.{names-noted}
use Rattle.ir_lines.proofs.scope.Local.of.Goals as goal

pub returns-clause-noted : goal.returns-clause-noted
returns-clause-noted c =
    let func = c.args.func.now in
    let args = arguments_named func.line [] (map seen_argument func.arguments.now) in
    let results = results_of (seen_lines func.body.now) in
    let f = c.args.first.now.found in
    let g = c.add_arguments.new.first.found in
    let h = c.add_results.new.first.found in
    let i = c.add_blocks.new.first.found in
    let known : c.add_arguments.new.self.values ≡ map (λ (one : Naming). one.name) args
    = c.in_ok-add_arguments.ensures.added.values ∙ ap (λ (names : List (List ℕ)). names ++ map (λ (one : Naming). one.name) args) c.in_ok-with_room.ensures in
    let unlabelled : c.add_results.new.self.blocks ≡ []
    = c.in_ok-add_results.ensures.added.blocks ∙ c.in_ok-add_arguments.ensures.added.blocks ∙ c.in_ok-with_room-2.ensures in
    names-noted c.args.form (seen_definition func) args results f g h i c.add_arguments.new.self.values refl known
    (subst (λ (names : List (List ℕ)). Notes f g (FoundAfter (IsBadName c.args.form) names (named_values args))) c.in_ok-with_room.ensures c.in_ok-add_arguments.ensures.noted)
    c.in_ok-add_results.ensures.noted
    (subst (λ (blocks : List BlockLines). Notes h i (FoundAfter (IsBadName c.args.form) [] (named_blocks blocks))) c.requires.blocks
    (subst (λ (names : List (List ℕ)). Notes h i (FoundAfter (IsBadName c.args.form) names (named_blocks (map seen_block c.args.blocks.now)))) unlabelled
    c.in_ok-add_blocks.ensures.noted))
