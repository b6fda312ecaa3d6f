-- The pairs of a statepoint group are those of its relocates; the pointers and the words of its entries.
use Rattle.std.proofs.Common.{◌≡◌, ℕ, zero, suc, ◌+◌, ◌<◌, Bool, true, false, List, [], ◌∷◌, ◌++◌, length, drop, map, refl, sym, ◌∙◌, arith, Some}
use Rattle.std.specs.Prelude.{slice_get, slice_index, slice_index_or, if◌then◌else◌}
use Rattle.std.specs.List.{Contains}
use Rattle.list_laws.proofs.Contents.{contains_get, contains_joined, contains_none, contains_one, get_contained}
use Rattle.ir_ast.specs.declared.ops.Operand.{Operand}
use Rattle.ir_ast.specs.Faults.GroupShape.{is_statepoint}
use Rattle.ir_ast.specs.Objects.{Datum}
use Rattle.frame_walk.specs.Maps.{Pair}
use Rattle.object_meaning.specs.Frames.{group_length}
use Rattle.object_meaning.specs.Lines.{Line}
use Rattle.object_meaning.specs.Registers.{value, pointer_in}
use Rattle.pair_facts.specs.Lines.{group_in, is_relocate, line_in, operand_at}
use Rattle.pair_facts.specs.Pairs.{base_index, derived_index}
use Rattle.pair_facts.specs.Uses.{Relocates}
use Rattle.pair_facts.proofs.GroupLaws.{stands_member}
use Rattle.machine_meaning.specs.Relations.{word_in}
use Rattle.moves_unseen.specs.Frames.{group_pairs, relocated_pair}
use Rattle.list_laws.proofs.Places.{get_dropped, take_back}

-- ---- pairs

-- a member stands behind its statepoint
pub member_at : (lines : List Line) (head place : ℕ) (line : Line) → slice_get (group_in lines head) place ≡ Some line → slice_get lines (suc head + place) ≡ Some line
member_at lines head place line is =
    sym (get_dropped lines (suc head) place) ∙ (take_back (group_length (drop (suc head) lines)) (drop (suc head) lines) place line is).1

abbrev pub pair_of : Line → Pair
pair_of line = record { base = base_index line; derived = derived_index line }

of_line : (line : Line) (pair : Pair) → Contains (relocated_pair line) pair → (is_relocate line.inst.op ≡ true) × (pair_of line ≡ pair)
of_line line pair contained = by (is_relocate line.inst.op) refl contained
  where
    by : (b : Bool) → is_relocate line.inst.op ≡ b → Contains (if b then pair_of line ∷ [] else []) pair → (is_relocate line.inst.op ≡ true) × (pair_of line ≡ pair)
    by true is one = (is, contains_one (pair_of line) pair one)
    by false is none = absurd (contains_none pair none)

-- a pair of the group is that of a relocate in it
pub record IsPairOf (lines : List Line) (head : ℕ) (pair : Pair) : Type 0 where
  pub place : ℕ
  pub line : Line
  pub relocates : Relocates lines place head line
  pub is : pair_of line ≡ pair

pub pair_in_group : (lines : List Line) (head : ℕ) → is_statepoint (line_in lines head).inst.op ≡ true → (k : ℕ) (pair : Pair) → slice_get (group_pairs lines head) k ≡ Some pair
    → IsPairOf lines head pair
pair_in_group lines head statepoint k pair is =
    let found = contains_joined relocated_pair (group_in lines head) pair (contains_get (group_pairs lines head) k pair is) in
    let own = of_line found.of pair found.given in
    let at = get_contained (group_in lines head) found.of found.inside in
    record {
      place = suc head + at.0;
      line = found.of;
      relocates = record {
        stands = member_at lines head at.0 found.of at.1;
        relocate = own.0;
        in_group = (stands_member lines head at.0 found.of statepoint at.1).member.head_is;
      };
      is = own.1;
    }

-- ---- entries

pub entry_pointer : (registers : List Datum) (entries : List Operand) (place : ℕ)
    → slice_index_or (map (λ (entry : Operand). pointer_in (value registers entry)) entries) place (record { object = 0; offset = 0 }) ≡ pointer_in (value registers (operand_at entries place))
entry_pointer registers [] place = refl
entry_pointer registers (entry ∷ entries) zero = refl
entry_pointer registers (entry ∷ entries) (suc place) = entry_pointer registers entries place

pub entry_word : (words : List ℕ) (entries : List Operand) (tail : List ℕ) (place : ℕ) → place < length entries
    → slice_index (map (word_in words) entries ++ tail) place ≡ word_in words (operand_at entries place)
entry_word words [] tail place within = absurd (omega arith)
entry_word words (entry ∷ entries) tail zero within = refl
entry_word words (entry ∷ entries) tail (suc place) within = entry_word words entries tail place (omega arith)
