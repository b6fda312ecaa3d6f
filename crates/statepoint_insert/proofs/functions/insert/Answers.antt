use Rattle.std.proofs.Common.{◌∙◌, List, map, ap, sym, subst}
use Rattle.std.specs.Global.{Vec}
use Rattle.sp_ids.specs.declared.ids.ValueId.{ValueId}
use Rattle.ir_ast.specs.declared.ops.Operand.{Operand}
use Rattle.ir_ast.specs.Funcs.{IsSmall, LinedFunction}
use Rattle.statepoint_insert.specs.Groups.{numbers_in, group_of, groups_of}
use Rattle.statepoint_insert.proofs.ListLaws.{lists_fit, groups_made}
use Rattle.statepoint_insert.proofs.functions.insert.Goals as goal

pub groups-requires : goal.groups-requires
groups-requires c =
    let small : IsSmall c.args.func.content.args c.args.func.content.blocks =
    subst (λ (f : LinedFunction). IsSmall f.content.args f.content.blocks) c.func.view_is c.func.invariant.small in
    lists_fit c.args.func.content c.args.bases.now c.lists.result.now small (c.lists.ensures ∙ c.requires.live)

pub of-requires-2-clause-groups : goal.of-requires-2-clause-groups
of-requires-2-clause-groups c =
    let func = c.args.func.content in
    let lists = c.lists.result.now in
    let table = c.in_ok-table.ensures.items ∙ c.bases.ensures in
    c.in_ok-groups.ensures
    ∙ ap (λ (t : List Operand). map (λ (list : Vec ValueId). group_of t (numbers_in list.items)) lists) (c.as_slice.ensures.value ∙ table)
    ∙ groups_made func c.args.bases.now lists (c.lists.ensures ∙ c.requires.live)
    ∙ ap (groups_of func) (sym (c.of.ensures ∙ table))
