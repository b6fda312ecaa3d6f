-- Where the value that stands for others isn't defined, they aren't.
use Rattle.std.proofs.Common.{◌≡◌, ℕ, ◌≤◌, Bool, true, false, if◌then◌else◌, List, [], ◌∷◌, length, refl, sym, ap, subst, ◌∙◌, inl, inr, ◌⊎◌, arith}
use Rattle.std.specs.Prelude.{Some, nat_lt, slice_get}
use Rattle.std.specs.List.{All}
use Rattle.std.proofs.lemmas.Bool.{cases_Bool}
use Rattle.list_laws.proofs.Contents.{all_at}
use Rattle.ir_ast.specs.declared.ops.Operand.{Operand}
use Rattle.ir_ast.specs.Blocks.{BasicBlock}
use Rattle.ir_ast.specs.Funcs.{Function}
use Rattle.ir_ast.specs.Insts.{Instruction}
use Rattle.ir_ast.specs.Operands.{named, value_in}
use Rattle.ir_ast.specs.Ops.{is_phi}
use Rattle.ir_cfg.specs.DefiniteUses.{Defines, Stands, Uses, by_entry, by_line, text_place}
use Rattle.ir_cfg.specs.Graphs.{Edge, graph_of}
use Rattle.base_definite.proofs.base_paths.GivesLaws.{defines_gives}
use Rattle.base_definite.proofs.base_paths.UndefinedLaws.{Undefined, at_first, behind_edge, behind_line}
use Rattle.known_values.specs.Texts.{UsesAreDefined}
use Rattle.folded_forms.specs.Folded.{Table, stands_for, stays}
use Rattle.folded_forms.specs.Foldings.{Folds, IsFolding, by_choice, by_entries, by_operator}
use Rattle.folded_forms.specs.Known.{PhisMeetEdges}
use Rattle.folded_forms.proofs.EntryLaws.{entry_stands}
use Rattle.folded_forms.proofs.TableLaws.{gone_high, names_value, operand_used, same_number, stays_is}

-- the chosen one of two operands, by its place
pub chosen_at : (inst : Instruction) (asked first second : Operand) (condition : ℕ) → inst.operands ≡ asked ∷ first ∷ second ∷ []
    → (place : ℕ) × (slice_get inst.operands place ≡ Some (if nat_lt 0 condition then first else second))
chosen_at inst asked first second condition is = by (nat_lt 0 condition)
  where
    by : (b : Bool) → (place : ℕ) × (slice_get inst.operands place ≡ Some (if b then first else second))
    by true = (1, ap (λ (all : List Operand). slice_get all 1) is)
    by false = (2, ap (λ (all : List Operand). slice_get all 2) is)

module _ (func : Function) (table : Table) (folding : IsFolding func table) (defined : UsesAreDefined func) (phis : PhisMeetEdges func) (to : ℕ) (high : length func.args ≤ to) where
  -- those for which the value stands aren't defined
  abbrev Others : ℕ → ℕ → Type 0
  Others block place = (own : ℕ) → stays table own ≡ false → stands_for table (named own) ≡ named to → Undefined func own block place

  -- nothing that stands for it is used where it isn't defined
  unused : (line block place : ℕ) (each : Operand) → ((own : ℕ) → each ≡ named own → Uses func line own block place) → stands_for table each ≡ named to
      → Undefined func to block place → Others block place → ⊥
  unused line block place each used is undefined others =
      let names = names_value table each to is in
      let own = names.0 in
      let is_own : stands_for table (named own) ≡ named to = ap (stands_for table) (sym names.1) ∙ is in
      elim (cases_Bool (stays table own)) [
        | inl stays_here ↦
            let same : own ≡ to = same_number own to (sym (stays_is table own stays_here) ∙ is_own) in
            defined line to block place (subst (λ (v : ℕ). Uses func line v block place) same (used own names.1)) high undefined
        | inr gone ↦ defined line own block place (used own names.1) (gone_high func table folding own gone) (others own gone is_own)
      ]

  -- the edge by which a path comes to the block without it, if the block isn't the entry
  pub record Before (block : ℕ) : Type 0 where
    pub from : ℕ
    pub left : BasicBlock
    pub found : slice_get func.blocks from ≡ Some left
    pub edge : Edge (graph_of func) from block
    pub undefined : Undefined func to from (length left.insts)
    pub others : Others from (length left.insts)

  -- a phi of the block stands for it by none of its entries
  pub no_phi : (block place own : ℕ) (phi : Instruction) → Stands func block place phi → is_phi phi.op ≡ true → stays table own ≡ false → stands_for table (named own) ≡ named to
      → All (λ entry. (entry ≡ named own) ⊎ (stands_for table entry ≡ named to)) phi.operands → (block ≡ 0) ⊎ Before block → ⊥
  no_phi block place own phi stands is_one gone is entries (inl entry) = let inside = (phis.front block place phi stands is_one).0 in omega arith
  no_phi block place own phi stands is_one gone is entries (inr before) =
      let entry = phis.entries block place phi stands is_one before.from before.edge in
      let label = entry_stands before.from phi entry in
      let used : (used : ℕ) → entry.operand ≡ named used → Uses func (text_place func block place) used before.from (length (before.left).insts) =
      λ used names. subst (λ (n : ℕ). Uses func (text_place func block place) used n (length (before.left).insts)) label.2
      (by_entry block place entry.entry used phi entry.operand label.0 before.left stands is_one label.1 entry.at (ap value_in names)
      (ap (slice_get func.blocks) label.2 ∙ before.found)) in
      elim (all_at (λ entry. (entry ≡ named own) ⊎ (stands_for table entry ≡ named to)) phi.operands entry.entry entry.operand entries entry.at) [
        | inl itself ↦
            defined (text_place func block place) own before.from (length (before.left).insts) (used own itself) (gone_high func table folding own gone) (before.others own gone is)
        | inr same ↦ unused (text_place func block place) before.from (length (before.left).insts) entry.operand used same before.undefined before.others
      ]

  module _ (block place : ℕ) (undefined : Undefined func to block place) (others : Others block place) (front : (block ≡ 0) ⊎ Before block)
      (own : ℕ) (gone : stays table own ≡ false) (is : stands_for table (named own) ≡ named to) (defines : Defines func own block place) where
    no_folds : (each : Operand) → Folds table own defines.inst each → each ≡ named to → ⊥
    no_folds _ (by_operator literal kind literals value_is) same = cc
    no_folds _ (by_choice asked first second condition op operands condition_is) same =
        let chosen : Operand = if nat_lt 0 condition then first else second in
        let at = chosen_at defines.inst asked first second condition operands in
        let no_phi_here : is_phi (defines.inst).op ≡ false = ap is_phi op in
        unused (text_place func block place) block place chosen
        (λ used names. by_line block place used defines.inst defines.stands no_phi_here (operand_used defines.inst at.0 used (at.1 ∙ ap (λ o. Some o) names))) same undefined others
    no_folds _ (by_entries other op entries) same =
        no_phi block place own defines.inst defines.stands (ap is_phi op) gone is
        (subst (λ (o : Operand). All (λ entry. (entry ≡ named own) ⊎ (stands_for table entry ≡ o)) (defines.inst).operands) same entries) front

    no_definition : ⊥
    no_definition =
        no_folds (stands_for table (named own)) (folding.each own defines.inst (defines_gives func own block place defines) gone) is

  pub record Without (block place : ℕ) : Type 0 where
    pub others : Others block place
    pub front : (block ≡ 0) ⊎ Before block

  pub without : (block place : ℕ) → Undefined func to block place → Without block place
  without _ _ at_first = record { others = λ own gone is. at_first; front = inl refl }
  without _ _ (behind_line block place inst before stands none) =
      let earlier = without block place before in
      record {
        others = λ own gone is. behind_line block place inst (earlier.others own gone is) stands (λ defines. no_definition block place before earlier.others earlier.front own gone is defines);
        front = earlier.front;
      }
  without _ _ (behind_edge from block left before found edge) =
      let earlier = without from (length left.insts) before in
      record {
        others = λ own gone is. behind_edge from block left (earlier.others own gone is) found edge;
        front = inr (record { from = from; left = left; found = found; edge = edge; undefined = before; others = earlier.others });
      }
