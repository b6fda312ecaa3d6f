-- The uses of a folded function are definite: a path to one, line by line, is a path of the function, which meets the definition of
-- what stands there.
use Rattle.std.proofs.Common.{◌≡◌, ℕ, ◌<◌, true, false, List, [], ◌∷◌, ◌++◌, length, map, sym, ap, subst, ◌∙◌, arith}
use Rattle.std.specs.Prelude.{Some, slice_get}
use Rattle.std.specs.List.{All, Contains}
use Rattle.std.proofs.lemmas.List.{same_from_push}
use Rattle.std.proofs.lemmas.Option.{same_Some}
use Rattle.list_laws.proofs.Contents.{contains_get}
use Rattle.list_laws.proofs.Places.{get_front, map_back}
use Rattle.ir_ast.specs.declared.types.Ty.{Ty}
use Rattle.ir_ast.specs.declared.ops.Operand.{Operand}
use Rattle.ir_ast.specs.Funcs.{Function, insts_in, instructions_of}
use Rattle.ir_ast.specs.Insts.{Instruction}
use Rattle.ir_ast.specs.Lines.{IsLine}
use Rattle.ir_ast.specs.Operands.{operands_of, value_in, values_used}
use Rattle.ir_ast.specs.Ops.{is_phi}
use Rattle.ir_ast.specs.Faults.GroupShape.{number_at}
use Rattle.ir_cfg.specs.DefiniteUses.{IsDefinite, Meets, Stands, UsesAreDefinite, by_entry, by_line, in_arguments, in_earlier, in_last, text_place}
use Rattle.ir_cfg.specs.Graphs.{Graph, graph_of}
use Rattle.ir_cfg.specs.Paths.{Path}
use Rattle.definite_assign.proofs.PathLemmas.{path_ends}
use Rattle.definite_assign.proofs.TextLemmas.{stands_in_text}
use Rattle.folded_forms.specs.Folded.{Table, folded, folded_operand, stands_for, stays}
use Rattle.folded_source.proofs.LineLaws.{before_less, line_marks, line_stays}
use Rattle.folded_source.proofs.ValueLaws.{counted, counted_argument}
use Rattle.folded_source.proofs.PlaceLaws.{StaysAt, block_back, defines_forth, first, graph_folded, line_back, offset}
use Rattle.folded_source.proofs.Settled.{IsSettled, StaysThere, stood, used_from}

module _ (func : Function) (table : Table) (settled : IsSettled func table) (lines : All IsLine (instructions_of func.blocks)) where
  meets_forth : (value : ℕ) → stays table value ≡ true → (path : List ℕ) (place last : ℕ) (front : List ℕ) → path ≡ front ++ last ∷ []
      → Meets func value path place → Meets (folded func table) (counted table value) path (offset func table last place)
  meets_forth value stay path place last front ends (in_arguments below) =
      let same = counted_argument func table settled.arguments value (omega arith) in
      in_arguments (omega (arith, same, below))
  meets_forth value stay path place last front ends (in_earlier before back block next at whole defines) =
      in_earlier before back block next (offset func table block at) whole (defines_forth func table settled.arguments value block at defines stay).0
  meets_forth value stay path place last front ends (in_last before own at whole defines less) =
      let same = (same_from_push before front own last (sym whole ∙ ends)).1 in
      let there = defines_forth func table settled.arguments value own at defines stay in
      let earlier = before_less (line_marks table (first func table own) (insts_in func own)) at place there.1 less in
      in_last before own (offset func table own at) whole there.0 (subst (λ (n : ℕ). offset func table own at < offset func table n place) same earlier)

  definite_forth : (value number place : ℕ) → stays table value ≡ true → IsDefinite func value number place
      → IsDefinite (folded func table) (counted table value) number (offset func table number place)
  definite_forth value number place stay definite = λ path leads.
      let here : Path (graph_of func) path number = subst (λ (g : Graph). Path g path number) (graph_folded func table lines) leads in
      let ends = path_ends (graph_of func) path number here in
      meets_forth value stay path place number ends.front ends.whole (definite path here)

  -- a line that stays, in the text
  stays_there : (number place : ℕ) (inst : Instruction) → Stands func number place inst → StaysAt func table number place inst → StaysThere func table (text_place func number place)
  stays_there number place inst stands stay = λ other at.
      let same : inst ≡ other = same_Some inst other (sym (stands_in_text func number place inst stands) ∙ at) in
      subst (λ (i : Instruction). line_stays table (number_at func (text_place func number place)) i ≡ true) same stay

  pub uses_folded : UsesAreDefinite (folded func table)
  uses_folded _ _ _ _ (by_line number place value new stands no_phi used) =
      let from = line_back func table number place new stands in
      let item = used_from table from.inst value (subst (λ (i : Instruction). Contains (values_used i) value) from.is used) in
      let plain : is_phi (from.inst).op ≡ false = sym (ap (λ (i : Instruction). is_phi i.op) from.is) ∙ no_phi in
      let text = stands_in_text func number from.own from.inst from.stands in
      let to = (item.from).to in
      let stay = (settled.operands (text_place func number from.own) from.inst text from.stay item.operand item.inside).stays_here to (item.from).stands in
      let names = ap (stands_for table) (sym (item.from).names) ∙ (item.from).stands in
      let definite = settled.definite (text_place func number from.own) (item.from).own number from.own
      (by_line number from.own (item.from).own from.inst from.stands plain item.used) (stays_there number from.own from.inst from.stands from.stay) to names in
      subst (λ (n : ℕ). IsDefinite (folded func table) value number n) from.here
      (subst (λ (n : ℕ). IsDefinite (folded func table) n number (offset func table number from.own)) (sym (item.from).number)
      (definite_forth to number from.own stay definite))
  uses_folded _ _ _ _ (by_entry number place entry value new operand label left stands is_one label_at operand_at value_at found) =
      let from = line_back func table number place new stands in
      let was : is_phi (from.inst).op ≡ true = sym (ap (λ (i : Instruction). is_phi i.op) from.is) ∙ is_one in
      let label_there : slice_get (from.inst).labels entry ≡ Some label = sym (ap (λ (i : Instruction). slice_get i.labels entry) from.is) ∙ label_at in
      let image = map_back (folded_operand table) (from.inst).operands entry operand (sym (ap (λ (i : Instruction). slice_get i.operands entry) from.is) ∙ operand_at) in
      let item = stood table image.before value (ap value_in (sym image.is) ∙ value_at) in
      let text = stands_in_text func number from.own from.inst from.stands in
      let inside = contains_get (operands_of from.inst) entry image.before (get_front (from.inst).operands (map (λ (e : Ty × Operand). e.1) (from.inst).bundle) entry image.before image.stands) in
      let to = item.to in
      let stay = (settled.operands (text_place func number from.own) from.inst text from.stay image.before inside).stays_here to item.stands in
      let names = ap (stands_for table) (sym item.names) ∙ item.stands in
      let block = block_back func table label.0 left found in
      let definite = settled.definite (text_place func number from.own) item.own label.0 (length (block.block).insts)
      (by_entry number from.own entry item.own from.inst image.before label block.block from.stands was label_there image.stands (ap value_in item.names) block.at)
      (stays_there number from.own from.inst from.stands from.stay) to names in
      subst (λ (n : ℕ). IsDefinite (folded func table) value label.0 n) block.end
      (subst (λ (n : ℕ). IsDefinite (folded func table) n label.0 (offset func table label.0 (length (block.block).insts))) (sym item.number)
      (definite_forth to label.0 (length (block.block).insts) stay definite))
