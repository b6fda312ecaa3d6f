-- The equations of a table in which only what reads the same stands for a value are known values.
use Rattle.std.proofs.Common.{◌≡◌, ℕ, suc, ◌<◌, ◌≤◌, Bool, true, false, if◌then◌else◌, List, [], ◌∷◌, length, map, take, refl, sym, ap, subst, ◌∙◌, inl, inr, ◌⊎◌, arith}
use Rattle.std.specs.Prelude.{Option, Some, Ok, Result, nat_lt, slice_get}
use Rattle.std.specs.List.{All, Contains, list_all}
use Rattle.std.proofs.lemmas.Bool.{cases_Bool}
use Rattle.std.proofs.lemmas.List.{get_or-set_same}
use Rattle.list_laws.proofs.Contents.{all_at}
use Rattle.sp_ids.specs.declared.ends.Trap.{Trap}
use Rattle.ir_ast.specs.declared.types.Ty.{Ty}
use Rattle.ir_ast.specs.declared.ops.Op.{Op}
use Rattle.ir_ast.specs.declared.ops.Op.TheVariants as ops
use Rattle.ir_ast.specs.declared.ops.Operand.{Operand}
use Rattle.ir_ast.specs.declared.ops.Operand.TheVariants.{Fun, Int, Null, Value}
use Rattle.ir_ast.specs.Blocks.{BasicBlock}
use Rattle.ir_ast.specs.Funcs.{Function}
use Rattle.ir_ast.specs.Insts.{Instruction}
use Rattle.ir_ast.specs.Layouts.{ObjectLayout}
use Rattle.ir_ast.specs.Objects.{Datum, number}
use Rattle.ir_ast.specs.Operands.{is_literal, named, value_in}
use Rattle.ir_ast.specs.Ops.{is_phi}
use Rattle.ir_cfg.specs.DefiniteUses.{Defines, Uses, by_entry, by_line, text_place}
use Rattle.ir_cfg.specs.Graphs.{Edge, graph_of}
use Rattle.object_meaning.specs.BlockLines.{lines_at}
use Rattle.object_meaning.specs.Computing.{computed, value_of_line}
use Rattle.object_meaning.specs.Jumps.{incoming, phi_count, phi_write}
use Rattle.object_meaning.specs.Lines.{Line}
use Rattle.object_meaning.specs.Registers.{is_set, nothing, operand, put, value}
use Rattle.object_meaning.proofs.RegisterLaws.{puts_length}
use Rattle.base_definite.specs.Comings.{Comes, over_edge}
use Rattle.base_definite.proofs.base_paths.GivesLaws.{defines_gives}
use Rattle.base_definite.proofs.base_paths.UndefinedLaws.{Undefined, first_time}
use Rattle.base_definite.proofs.LinePlaces.{line_from, writes_own, line_forth}
use Rattle.known_values.specs.Meanings.{AllHold, Holds, IsGiven, Meaning, ReadSame, at_edge, by_line as on_line, by_phi, register}
use Rattle.known_values.specs.Onward.{computes}
use Rattle.known_values.proofs.PlaceLaws.{defined_high, own_written}
use Rattle.known_values.specs.Texts.{UsesAreDefined}
use Rattle.folded_forms.specs.Folded.{Table, stands_for, stays}
use Rattle.folded_forms.specs.Foldings.{Folds, IsFolding, by_choice, by_entries, by_operator}
use Rattle.folded_forms.specs.Known.{EntryFrom, FoldingsAreKnown, PhisMeetEdges, meaning_of, meanings_of}
use Rattle.folded_forms.proofs.EntryLaws.{comes_on, edge_next, edge_other, entry_read, entry_stands}
use Rattle.folded_forms.proofs.SupportLaws.{chosen_at, no_phi, without}
use Rattle.folded_forms.proofs.TableLaws.{goes, gone_apart, gone_high, literal_operands, meaning_at, meaning_names, meaning_reads, meaning_value, operand_used, stays_is, value_other}

-- an operator whose result is a number looks at no layout
no_layouts : (layouts : List ObjectLayout) (op : Op) (ty : Ty) (first second third : Datum) (literal : ℕ) → computed [] op ty first second third ≡ Ok (number literal)
    → computed layouts op ty first second third ≡ Ok (number literal)
no_layouts layouts (ops.Gep elem index_width place) ty first second third literal is = absurd cc
no_layouts layouts op ty first second third literal is = is

same_result : (one other : Datum) → ◌≡◌ {A = Result Datum Trap} (Ok one) (Ok other) → one ≡ other
same_result one other is = cc

-- where what stands for the operands of an operator reads what they read, and is literals, its result is theirs
pub literal_given : (layouts : List ObjectLayout) (table : Table) (inst : Instruction) (literal : ℕ) (registers : List Datum)
    → ((index : ℕ) (each : Operand) → slice_get inst.operands index ≡ Some each → value registers each ≡ value registers (stands_for table each))
    → list_all is_literal (map (stands_for table) inst.operands) ≡ true → value_of_line [] [] inst.op inst.ty (map (stands_for table) inst.operands) ≡ Ok (number literal)
    → value_of_line layouts registers inst.op inst.ty inst.operands ≡ Ok (number literal)
literal_given layouts table inst literal registers reads literals value_is =
    let now = map (stands_for table) inst.operands in
    let first = literal_operands table registers inst.operands reads literals 0 in
    let second = literal_operands table registers inst.operands reads literals 1 in
    let third = literal_operands table registers inst.operands reads literals 2 in
    ap (λ (d : Datum). computed layouts inst.op inst.ty d (operand registers inst.operands 1) (operand registers inst.operands 2)) first
    ∙ (ap (λ (d : Datum). computed layouts inst.op inst.ty (operand [] now 0) d (operand registers inst.operands 2)) second
    ∙ (ap (λ (d : Datum). computed layouts inst.op inst.ty (operand [] now 0) (operand [] now 1) d) third
    ∙ no_layouts layouts inst.op inst.ty (operand [] now 0) (operand [] now 1) (operand [] now 2) literal value_is))

module _ (layouts : List ObjectLayout) (func : Function) (table : Table) (folding : IsFolding func table) (defined : UsesAreDefined func) (phis : PhisMeetEdges func) where
  abbrev stands : Operand → Operand
  stands each = stands_for table each

  -- where all equations hold, what is used reads what stands for it
  pub reads_same : (line block place : ℕ) (registers : List Datum) → AllHold func (meanings_of table) block place registers → (each : Operand)
      → ((own : ℕ) → each ≡ named own → Uses func line own block place) → value registers each ≡ value registers (stands each)
  reads_same line block place registers all (Value id) used = by (cases_Bool (stays table id.0))
    where
      by : (stays table id.0 ≡ true) ⊎ (stays table id.0 ≡ false) → value registers (named id.0) ≡ value registers (stands (named id.0))
      by (inl stays_here) = ap (value registers) (sym (stays_is table id.0 stays_here))
      by (inr gone) = elim (all id.0 (meaning_of (stands (named id.0))) (meaning_at table id.0 gone)) [
        | inl undefined ↦ absurd (defined line id.0 block place (used id.0 refl) (gone_high func table folding id.0 gone) undefined)
        | inr holds ↦ holds ∙ meaning_value (stands (named id.0)) registers
      ]
  reads_same line block place registers all (Int literal) used = refl
  reads_same line block place registers all Null used = refl
  reads_same line block place registers all (Fun called) used = refl

  supports : (own : ℕ) → stays table own ≡ false → (read : ℕ) → Contains (meaning_of (stands (named own))).support read → length func.args ≤ read → (block place : ℕ)
      → Undefined func read block place → Undefined func own block place
  supports own gone read inside high block place undefined =
      (without func table folding defined phis read high block place undefined).others own gone (meaning_names (stands (named own)) read inside)

  -- ---- what gives a value

  module _ (own : ℕ) (gone : stays table own ≡ false) (block place : ℕ) (defines : Defines func own block place) where
    abbrev inst : Instruction
    inst = defines.inst

    abbrev meaning : Meaning
    meaning = meaning_of (stands (named own))

    abbrev Given : Type 0
    Given = IsGiven layouts func (meanings_of table) own meaning block place inst

    used_here : is_phi inst.op ≡ false → (index : ℕ) (each : Operand) → slice_get inst.operands index ≡ Some each → (used : ℕ) → each ≡ named used
        → Uses func (text_place func block place) used block place
    used_here no_phi_here index each at used names = by_line block place used inst defines.stands no_phi_here (operand_used inst index used (at ∙ ap (λ o. Some o) names))

    -- what its operand reads is what it gives
    holds_behind : (registers : List Datum) (result : Datum) → own < length registers → result ≡ value registers (stands (named own)) → Holds own meaning (put (Some own) result registers)
    holds_behind registers result room is =
        get_or-set_same registers own result nothing room
        ∙ (is ∙ (sym (value_other (stands (named own)) own result registers (gone_apart table own gone)) ∙ sym (meaning_value (stands (named own)) (put (Some own) result registers))))

    no_phi_computes : (op : Op) → computes op ≡ true → is_phi op ≡ false
    no_phi_computes ops.Phi kind = absurd cc
    no_phi_computes op kind = refl

    by_literals : (literal : ℕ) → computes inst.op ≡ true → list_all is_literal (map stands inst.operands) ≡ true
        → value_of_line [] [] inst.op inst.ty (map stands inst.operands) ≡ Ok (number literal) → stands (named own) ≡ Int literal → Given
    by_literals literal kind literals value_is same = on_line kind (λ registers result room comes all result_is.
        let reads : (index : ℕ) (each : Operand) → slice_get inst.operands index ≡ Some each → value registers each ≡ value registers (stands each) =
        λ index each at. reads_same (text_place func block place) block place registers all each (λ used names. used_here (no_phi_computes inst.op kind) index each at used names) in
        let here = literal_given layouts table inst literal registers reads literals value_is in
        let result_number : result ≡ number literal = same_result result (number literal) (sym result_is ∙ here) in
        holds_behind registers result room (result_number ∙ sym (ap (value registers) same)))

    chosen_value : (registers : List Datum) (first second : Operand) (condition : ℕ)
        → (if nat_lt 0 condition then value registers first else value registers second) ≡ value registers (if nat_lt 0 condition then first else second)
    chosen_value registers first second condition = by (nat_lt 0 condition)
      where
        by : (b : Bool) → (if b then value registers first else value registers second) ≡ value registers (if b then first else second)
        by true = refl
        by false = refl

    by_select : (asked first second : Operand) (condition : ℕ) → inst.op ≡ ops.Select → inst.operands ≡ asked ∷ first ∷ second ∷ [] → stands asked ≡ Int condition
        → stands (named own) ≡ stands (if nat_lt 0 condition then first else second) → Given
    by_select asked first second condition op operands condition_is same = on_line (ap computes op) (λ registers result room comes all result_is.
        let chosen : Operand = if nat_lt 0 condition then first else second in
        let at = chosen_at inst asked first second condition operands in
        let no_phi_here : is_phi inst.op ≡ false = ap is_phi op in
        let asked_at : slice_get inst.operands 0 ≡ Some asked = ap (λ (all : List Operand). slice_get all 0) operands in
        let reads_asked = reads_same (text_place func block place) block place registers all asked (λ used names. used_here no_phi_here 0 asked asked_at used names) in
        let reads_chosen = reads_same (text_place func block place) block place registers all chosen (λ used names. used_here no_phi_here at.0 chosen at.1 used names) in
        let asked_number : value registers asked ≡ number condition = reads_asked ∙ ap (value registers) condition_is in
        let here : value_of_line layouts registers inst.op inst.ty inst.operands ≡ Ok (if is_set (value registers asked) then value registers first else value registers second) =
        ap (λ (o : Op). value_of_line layouts registers o inst.ty inst.operands) op
        ∙ ap (λ (all : List Operand). value_of_line layouts registers ops.Select inst.ty all) operands in
        let result_value : result ≡ (if is_set (value registers asked) then value registers first else value registers second) =
        same_result result (if is_set (value registers asked) then value registers first else value registers second) (sym result_is ∙ here) in
        let taken : (if is_set (value registers asked) then value registers first else value registers second) ≡ (if nat_lt 0 condition then value registers first else value registers second) =
        ap (λ (datum : Datum). if is_set datum then value registers first else value registers second) asked_number in
        holds_behind registers result room (result_value ∙ (taken ∙ (chosen_value registers first second condition ∙ (reads_chosen ∙ sym (ap (value registers) same))))))

    -- ---- a phi

    module _ (op : inst.op ≡ ops.Phi) (entries : All (λ entry. (entry ≡ named own) ⊎ (stands entry ≡ stands (named own))) inst.operands) where
      is_one : is_phi inst.op ≡ true
      is_one = ap is_phi op

      place_front : (0 < block) × (place < phi_count (lines_at func block))
      place_front = phis.front block place inst defines.stands is_one

      module _ (from : ℕ) (left : BasicBlock) (registers : List Datum) (room : own < length registers) (found : slice_get func.blocks from ≡ Some left) (edge : Edge (graph_of func) from block)
          (comes : Comes func from (length left.insts)) (all : AllHold func (meanings_of table) from (length left.insts) registers) where
        entry : EntryFrom from inst
        entry = phis.entries block place inst defines.stands is_one from edge

        used : (used : ℕ) → (entry.operand) ≡ named used → Uses func (text_place func block place) used from (length left.insts)
        used value names =
            let label = entry_stands from inst entry in
            subst (λ (n : ℕ). Uses func (text_place func block place) value n (length left.insts)) label.2
            (by_entry block place entry.entry value inst entry.operand label.0 left defines.stands is_one label.1 entry.at (ap value_in names) (ap (slice_get func.blocks) label.2 ∙ found))

        -- the entry reads what stands for the phi
        entry_reads : value registers entry.operand ≡ value registers (stands (named own))
        entry_reads =
            let reads = reads_same (text_place func block place) from (length left.insts) registers all entry.operand used in
            elim (all_at (λ entry. (entry ≡ named own) ⊎ (stands entry ≡ stands (named own))) inst.operands entry.entry entry.operand entries entry.at) [
              | inl itself ↦ reads ∙ ap (λ (o : Operand). value registers (stands o)) itself
              | inr same ↦ reads ∙ ap (value registers) same
            ]

        line : (line : Line) × (slice_get (lines_at func block) place ≡ Some line) × (line.inst ≡ inst)
        line = line_forth func block place inst defines.stands

        written : (line.0).to ≡ Some own
        written = (own_written func block place line.0 (line_from func block place line.0 line.1) own defines).0

        abbrev now : List Datum
        now = at_edge func from block (suc place) registers

        gives_entry : register now own ≡ value registers entry.operand
        gives_entry =
            let next = edge_next func from block place line.0 registers line.1 in
            let earlier = at_edge func from block place registers in
            let long : own < length earlier = subst (λ (n : ℕ). own < n) (sym (puts_length (map (phi_write from registers) (take place (lines_at func block))) registers)) room in
            ap (λ (rs : List Datum). register rs own) next
            ∙ (ap (λ (to : Option ℕ). register (put to (incoming from registers (line.0).inst) earlier) own) written
            ∙ (get_or-set_same earlier own (incoming from registers (line.0).inst) nothing long
            ∙ (ap (λ (i : Instruction). incoming from registers i) line.2 ∙ entry_read from inst entry registers)))

        -- what stands for it isn't given by the phis before it
        not_given : (read : ℕ) → stands (named own) ≡ named read → (index : ℕ) (other : Line) → index < suc place → slice_get (lines_at func block) index ≡ Some other → other.to ≡ Some read → ⊥
        not_given read same index other below at to_is =
            let its = writes_own func block index other (line_from func block index other at) read to_is in
            let high = defined_high func read block index its in
            let front = comes_on func block place inst defines.stands (over_edge from block left comes found edge) index (omega arith) in
            let undefined = first_time func read block index its front in
            no_phi func table folding defined phis read high block place own inst defines.stands is_one gone same
            (subst (λ (o : Operand). All (λ entry. (entry ≡ named own) ⊎ (stands entry ≡ o)) inst.operands) same entries)
            (without func table folding defined phis read high block index undefined).front

        reads_before : (each : Operand) → stands (named own) ≡ each → value now each ≡ value registers each
        reads_before (Value id) same = edge_other func from block (suc place) registers id.0 (λ index other below at to_is. not_given id.0 same index other below at to_is)
        reads_before (Int literal) same = refl
        reads_before Null same = refl
        reads_before (Fun called) same = refl

        holds_on_edge : Holds own meaning now
        holds_on_edge = gives_entry ∙ (entry_reads ∙ (sym (reads_before (stands (named own)) refl) ∙ sym (meaning_value (stands (named own)) now)))

      by_phis : Given
      by_phis = by_phi is_one place_front.0 place_front.1 (λ from left registers room found edge comes all. holds_on_edge from left registers room found edge comes all)

    given_by : (each : Operand) → Folds table own inst each → stands (named own) ≡ each → Given
    given_by _ (by_operator literal kind literals value_is) same = by_literals literal kind literals value_is same
    given_by _ (by_choice asked first second condition op operands condition_is) same = by_select asked first second condition op operands condition_is same
    given_by _ (by_entries to op entries) same =
        by_phis op (subst (λ (o : Operand). All (λ entry. (entry ≡ named own) ⊎ (stands entry ≡ o)) inst.operands) (sym same) entries)

    given : Given
    given = given_by (stands (named own)) (folding.each own inst (defines_gives func own block place defines) gone) refl

pub foldings_are_known : FoldingsAreKnown
foldings_are_known layouts func table folding defined phis = record {
  reads = λ own meaning is one other same.
      let its = goes table own meaning is in
      let reading : ReadSame func meaning one other → meaning.of one ≡ meaning.of other =
      subst (λ (m : Meaning). ReadSame func m one other → m.of one ≡ m.of other) its.is
      (λ agrees. meaning_reads (stands_for table (named own)) one other (λ read inside. agrees read (inr inside))) in
      reading same;
  support = λ own meaning is read inside high block place undefined.
      let its = goes table own meaning is in
      supports layouts func table folding defined phis own its.gone read (subst (λ (m : Meaning). Contains m.support read) (sym its.is) inside) high block place undefined;
  given = λ own meaning is block place defines.
      let its = goes table own meaning is in
      subst (λ (m : Meaning). IsGiven layouts func (meanings_of table) own m block place defines.inst) its.is (given layouts func table folding defined phis own its.gone block place defines);
}
