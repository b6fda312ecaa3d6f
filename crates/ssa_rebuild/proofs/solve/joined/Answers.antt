use Rattle.std.proofs.Common.{false, ◌≡◌, ◌∙◌, ℕ, Bool, List, ap, sym, map, slice_index_or}
use Rattle.std.specs.List.{list_any}
use Rattle.ir_ast.specs.Funcs.{Function}
use Rattle.rewriting_forms.specs.Numbered.{among}
use Rattle.rewriting_forms.specs.Liveness.{live_lists}
use Rattle.statepoint_insert.specs.Groups.{GroupContent, groups_of}
use Rattle.ssa_rebuild.specs.Rows.{group_list}
use Rattle.ssa_rebuild.proofs.MarkLemmas.{stands_any}
use Rattle.ssa_rebuild.proofs.SolvedLaws.{lists_back}
use Rattle.ssa_rebuild.proofs.solve.joined.Goals as goal

pub joins-requires-clause-listed : goal.joins-requires-clause-listed
joins-requires-clause-listed c =
    let func = c.func-func.result.now.content in
    let table = c.bases-bases.result.now in
    let groups_are : c.groups.result.now ≡ groups_of func table =
    c.groups.ensures.value ∙ c.groups.ensures.whole ∙ ap (λ (f : Function). groups_of f c.args.marked.now.table) (sym c.func-func.ensures.value)
    ∙ ap (groups_of func) (sym c.bases-bases.ensures) in
    record {
      each = λ v.
          ap (λ (marks : List Bool). slice_index_or marks v false) c.as_slice.ensures.value ∙ c.in_ok-marks.ensures v
          ∙ ap (λ (groups : List GroupContent). list_any (among v) (map group_list groups)) groups_are
          ∙ ap (λ (lists : List (List ℕ)). list_any (among v) lists) (lists_back table (live_lists func table)) ∙ stands_any func table v;
    }
