use Rattle.std.proofs.Common.{◌≡◌, ◌∙◌, ℕ, ◌++◌, List, refl, ap, sym, length, map, subst}
use Rattle.std.specs.Global.{Vec}
use Rattle.std.specs.List.{range_with_len}
use Rattle.std.proofs.lemmas.List.{length-map}
use Rattle.sp_ids.specs.declared.ids.ValueId.{ValueId}
use Rattle.ir_ast.specs.declared.ops.Operand.{Operand}
use Rattle.ir_ast.specs.Funcs.{Function}
use Rattle.rewriting_forms.specs.Names.{full_naming}
use Rattle.live_sets.specs.Joins.{AreJoins}
use Rattle.statepoint_insert.specs.Groups.{groups_of, numbers_in}
use Rattle.statepoint_insert.specs.Marked.{IsReady}
use Rattle.version_walk.specs.declared.slots.Slot.{Slot}
use Rattle.version_walk.specs.Forest.{AreInside}
use Rattle.ssa_rebuild.specs.Rows.{all_owns, body_rows, group_list, slots_in, starts_of}
use Rattle.ssa_rebuild.specs.Solved.{AreNumbered}
use Rattle.ssa_rebuild.proofs.PartLaws.{bodies_whole, parents_inside, parents_whole}
use Rattle.ssa_rebuild.proofs.SolvedLaws.{solved}
use Rattle.ssa_rebuild.proofs.solve.solve.Goals as goal

rows_whole : (bodies : List (Vec Slot)) (lists joins : List (List ℕ)) (func : Function)
    → slots_in bodies ≡ body_rows lists joins 0 (length func.args) func.blocks → length bodies ≡ length func.blocks
rows_whole bodies lists joins func are =
    sym (length-map bodies (λ row. row.items)) ∙ ap length are ∙ bodies_whole lists joins 0 (length func.args) func.blocks

pub answer_blocks-requires-clause-inside : goal.answer_blocks-requires-clause-inside
answer_blocks-requires-clause-inside c =
    subst AreInside (sym (c.as_slice-2.ensures.value ∙ c.in_ok-above.ensures)) (parents_inside c.func-func.result.now.content)

module _ (bodies : List (Vec Slot)) (joins : List (Vec ValueId)) (table : List Operand) where
  abbrev Are : Function → Type 0
  Are func = slots_in bodies ≡ body_rows (map group_list (groups_of func table)) (map (λ join. numbers_in join.items) joins) 0 (length func.args) func.blocks

pub answer_blocks-requires-clause-whole : goal.answer_blocks-requires-clause-whole
answer_blocks-requires-clause-whole c =
    let func = c.func-func.result.now.content in
    let are = subst (Are c.args.bodies.items c.args.joins.now c.args.marked.now.table) (sym c.func-func.ensures.value) c.requires.bodies in
    c.in_ok-add_all_entries.ensures.whole
    ∙ rows_whole c.args.bodies.items (map group_list (groups_of func c.args.marked.now.table)) (map (λ join. numbers_in join.items) c.args.joins.now) func are
    ∙ sym (ap length (c.as_slice-2.ensures.value ∙ c.in_ok-above.ensures) ∙ parents_whole func)

pub returns : goal.returns
returns c =
    let func = c.func-func.result.now.content in
    let table = c.args.marked.now.table in
    let same : c.args.marked.now.before ≡ func = sym c.func-func.ensures.value in
    let are = subst (Are c.args.bodies.items c.args.joins.now table) same c.requires.bodies in
    let ready : IsReady func table = subst (λ (f : Function). IsReady f table) same c.func-func.ensures.ready in
    let many : length c.args-2.result.now ≡ length func.args = ap length c.args-2.ensures.value in
    subst (λ (f : Function). AreNumbered f table (full_naming f table) c.in_ok-answers.answers.items) (sym same)
    (solved func table ready.formed ready.reached c.args.joins.now c.args.bodies.items c.add_all_entries.new.rows.items c.in_ok-answers.answers.items
    c.as_slice-2.result.now c.as_slice-3.result.now c.in_ok-starts.field-0.own.items (groups_of func table) refl
    (subst (λ (f : Function). AreJoins f table c.args.joins.now) same c.requires.joins)
    are
    (rows_whole c.args.bodies.items (map group_list (groups_of func table)) (map (λ join. numbers_in join.items) c.args.joins.now) func are)
    c.in_ok-add_all_entries.ensures
    (c.as_slice-2.ensures.value ∙ c.in_ok-above.ensures)
    (c.as_slice-3.ensures.value ∙ c.in_ok-starts.ensures.starts
    ∙ ap (λ (rows : List (Vec Slot)). starts_of (length c.args-2.result.now) (slots_in rows)) c.as_slice.ensures.value
    ∙ ap (λ (n : ℕ). starts_of n (slots_in c.add_all_entries.new.rows.items)) many)
    (c.in_ok-starts.ensures.own
    ∙ ap (λ (rows : List (Vec Slot)). range_with_len 0 (length c.args-2.result.now) ++ all_owns (length c.args-2.result.now) (slots_in rows)) c.as_slice.ensures.value
    ∙ ap (λ (n : ℕ). range_with_len 0 n ++ all_owns n (slots_in c.add_all_entries.new.rows.items)) many)
    c.in_ok-answers.ensures)
