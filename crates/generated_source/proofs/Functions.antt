-- Each generated function has what a source module asks of it.
use Rattle.std.proofs.Common.{◌≡◌, ◌∙◌, ℕ, zero, suc, ◌+◌, ◌<◌, ◌≤◌, ◌^◌, Bool, true, false, not, ◌==◌, ◌||◌, List, [], ◌∷◌, ◌++◌, length, map, Some, None, refl, sym, subst, codes, arith, rules}
use Rattle.std.specs.Prelude.{slice_get}
use Rattle.std.specs.List.{All, list_all, flat_map}
use Rattle.std.specs.Option.{option_map_or}
use Rattle.std.proofs.lemmas.Bool.{false≢true, true≢false}
use Rattle.std.proofs.lemmas.List.Elements.{All-from_recursion}
use Rattle.std.proofs.lemmas.List.Sums.{AllPass-from_list_all}
use Rattle.sp_text.specs.Tokens.{is_name}
use Rattle.ir_ast.specs.declared.types.Ty.TheVariants.{Int as Integer, Ptr}
use Rattle.ir_ast.specs.declared.ops.Operand.TheVariants.{Int}
use Rattle.ir_ast.specs.Insts.{Instruction}
use Rattle.ir_ast.specs.Blocks.{BasicBlock, EndsAtTerminator}
use Rattle.ir_ast.specs.Funcs.{Function, instructions_of}
use Rattle.ir_ast.specs.Values.{Definition, argument, outcome, definitions_of, definition_name}
use Rattle.ir_ast.specs.Derived.{by_step, by_merge, is_step, is_merge}
use Rattle.ir_ast.specs.Widths.{IsWidth, type_widths}
use Rattle.ir_ast.specs.Types.{is_answer, is_first_class}
use Rattle.ir_ast.specs.Lists.{Distinct}
use Rattle.ir_ast.specs.Edges.{count_of, edges}
use Rattle.ir_ast.specs.Faults.Reserved.{IsInsertedName, IsExternalName}
use Rattle.ir_ast.specs.Faults.PhiEdges.{is_phi, PhiIsRight, PhisAreRight}
use Rattle.ir_cfg.specs.Limits.{HasNames}
use Rattle.ir_cfg.specs.DefiniteUses.{UsesAreDefinite}
use Rattle.ir_cfg.proofs.NameLaws.{differ, not_inserted, absent, all_distinct, names_distinct}
use Rattle.generated_forms.specs.Lines.{numbered_name, value, phi_line}
use Rattle.generated_forms.specs.Shapes.{making, merging, looping}
use Rattle.generated_forms.specs.Modules.{function, parameters}
use Rattle.generated_forms.proofs.Ends.{ends_well, ends_from}
use Rattle.generated_source.proofs.Lines.{IsFine, Calls, Stays, fine_new, fine_field, fine_load, fine_store, fine_store_literal, fine_add, fine_add_literal, fine_below, fine_choice, fine_count, fine_call, fine_jump, fine_branch, fine_return}
use Rattle.generated_source.proofs.Uses.{uses_settle, uses_settled, blocks_settle, lines_settle, line_settles, entries_settle, entry_settles, settles, given_before, is_home, entry_length}
use Rattle.generated_source.proofs.Names.{numbered_spelled, free_function}
use Rattle.generated_source.proofs.Phis.{phis_first, rest_plain, plain, phis_right, none_right, head_of, two_entries, HeadsAreRight}
use Rattle.std.proofs.lemmas.Option.{none-some, same_Some}

-- what a source module asks of one of its functions
pub record IsSound (funcs : List Function) (func : Function) : Type 0 where
  pub lines : All (IsFine funcs func) (instructions_of func.blocks)
  pub phis : PhisAreRight func
  pub definite : UsesAreDefinite func
  pub has_block : 0 < length func.blocks
  pub ends : All (λ block. EndsAtTerminator block.insts) func.blocks
  pub names : HasNames func
  pub free : ¬ IsExternalName func.name
  pub free_values : All (λ given. ¬ IsInsertedName (definition_name given)) (definitions_of func)
  pub free_labels : All (λ block. ¬ IsInsertedName block.name) func.blocks
  pub labels : Distinct (map (λ block. block.name) func.blocks)
  pub values : Distinct (map definition_name (definitions_of func))
  pub answer_widths : All IsWidth (type_widths func.answer)
  pub argument_widths : All IsWidth (flat_map (λ arg. type_widths arg.ty) func.args)
  pub answer : is_answer func.answer ≡ true
  pub args : All (λ arg. is_first_class arg.ty ≡ true) func.args
  pub few_arguments : length func.args ≤ 2
  pub small : length func.args + length (instructions_of func.blocks) ≤ 4096
  pub short : length func.name ≤ 4096

-- ---- values that aren't derived

unfoldable pub plain_definition : Definition → Bool
plain_definition (argument arg) = true
plain_definition (outcome inst) = not (is_step inst.op || is_merge inst.op)

unfoldable pub is_plain_value : Function → ℕ → Bool
is_plain_value func number = option_map_or plain_definition (slice_get (definitions_of func) number) false

plain_given : (func : Function) (number : ℕ) (inst : Instruction) → is_plain_value func number ≡ true → slice_get (definitions_of func) number ≡ Some (outcome inst)
    → not (is_step inst.op || is_merge inst.op) ≡ true
unfolding is_plain_value plain_definition
plain_given func number inst passes gives = rw gives at passes

neither : (s m : Bool) → not (s || m) ≡ true → (s ≡ false) × (m ≡ false)
neither true m is = absurd (false≢true is)
neither false true is = absurd (false≢true is)
neither false false is = (refl, refl)

pub plain_stays : (func : Function) (number : ℕ) → is_plain_value func number ≡ true → Stays func number
plain_stays func _ passes (by_step number inst gives step) =
    true≢false (let e : true ≡ false = sym step ∙ (neither (is_step inst.op) (is_merge inst.op) (plain_given func number inst passes gives)).0 in e)
plain_stays func _ passes (by_merge number operand inst gives merge uses derived) =
    true≢false (let e : true ≡ false = sym merge ∙ (neither (is_step inst.op) (is_merge inst.op) (plain_given func number inst passes gives)).1 in e)

-- ---- names

unfoldable pub free_name : List ℕ → Bool
free_name [] = true
free_name (b ∷ bs) = not (b == 115)

free_from : (name : List ℕ) → free_name name ≡ true → ¬ IsInsertedName name
unfolding free_name
free_from [] is front = let e : [] ≡ codes "sp." ++ front.0 = front.1 in cc
free_from (b ∷ bs) is front = not_inserted b bs (λ same. false≢true (rw same at is)) front

wide : IsWidth 64
wide = (omega arith, omega arith)

module _ (funcs : List Function) (place : ℕ) (few : place < 2 ^ 62) (blocks : List BasicBlock) where
  -- a function of these blocks is sound if its lines are fine and it passes tests
  pub sound_function : All (IsFine funcs (function place blocks)) (instructions_of blocks) → PhisAreRight (function place blocks)
      → uses_settle (function place blocks) ≡ true → 0 < length blocks → length (instructions_of blocks) ≤ 4000
      → list_all (λ (b : BasicBlock). ends_well b.insts) blocks ≡ true → list_all (λ (b : BasicBlock). is_name b.name) blocks ≡ true
      → list_all (λ (b : BasicBlock). free_name b.name) blocks ≡ true → all_distinct (map (λ (b : BasicBlock). b.name) blocks) ≡ true
      → all_distinct (map definition_name (definitions_of (function place blocks))) ≡ true
      → list_all (λ (given : Definition). is_name (definition_name given)) (definitions_of (function place blocks)) ≡ true
      → list_all (λ (given : Definition). free_name (definition_name given)) (definitions_of (function place blocks)) ≡ true
      → length (numbered_name (codes "g") (place + 1)) ≤ 4096 → IsSound funcs (function place blocks)
  sound_function lines phis uses some small ends label_names label_free label_distinct value_distinct value_names value_free short = record {
    lines = lines;
    phis = phis;
    definite = uses_settled (function place blocks) uses;
    has_block = some;
    ends = λ k d less. ends_from _ (AllPass-from_list_all (λ (b : BasicBlock). ends_well b.insts) blocks ends k d less);
    names = record {
      own = numbered_spelled 103 (place + 1) refl (omega arith);
      values = AllPass-from_list_all (λ (given : Definition). is_name (definition_name given)) (definitions_of (function place blocks)) value_names;
      labels = AllPass-from_list_all (λ (b : BasicBlock). is_name b.name) blocks label_names;
    };
    free = free_function (place + 1) (omega arith);
    free_values = λ k d less. free_from _ (AllPass-from_list_all (λ (given : Definition). free_name (definition_name given)) (definitions_of (function place blocks)) value_free k d less);
    free_labels = λ k d less. free_from _ (AllPass-from_list_all (λ (b : BasicBlock). free_name b.name) blocks label_free k d less);
    labels = names_distinct (map (λ (b : BasicBlock). b.name) blocks) label_distinct;
    values = names_distinct (map definition_name (definitions_of (function place blocks))) value_distinct;
    answer_widths = All-from_recursion IsWidth (64 ∷ []) (wide, tt);
    argument_widths = All-from_recursion IsWidth (64 ∷ []) (wide, tt);
    answer = refl;
    args = All-from_recursion (λ (arg : Rattle.ir_ast.specs.declared.funcs.Arg.Arg). is_first_class arg.ty ≡ true) parameters (refl, (refl, tt));
    few_arguments = omega arith;
    small = omega arith;
    short = short;
  }

-- ---- the three shapes

module _ (funcs : List Function) (place : ℕ) (few : place < 2 ^ 62) (short : length (numbered_name (codes "g") (place + 1)) ≤ 4096) (constant : ℕ) (low : constant < 100) where
  making_phis : PhisAreRight (function place (making constant))
  unfolding phis_first rest_plain plain head_of
  making_phis = none_right (function place (making constant)) refl refl

  pub making_sound : IsSound funcs (function place (making constant))
  unfolding uses_settle blocks_settle lines_settle line_settles entries_settle entry_settles settles given_before is_home entry_length all_distinct absent free_name is_plain_value plain_definition
  making_sound =
      let func : Function = function place (making constant) in
      sound_function funcs place few (making constant)
      (All-from_recursion (IsFine funcs func) (instructions_of (making constant)) (
        fine_new funcs func (codes "n") 2 (omega arith),
        (
          fine_field funcs func (codes "p") 2 1 refl (omega arith),
          (
            fine_store_literal funcs func constant 3 (omega arith) refl,
            (
              fine_new funcs func (codes "q") 1 (omega arith),
              (
                fine_load funcs func (codes "v") 3 refl,
                (
                  fine_add funcs func (codes "r") 5 1 refl refl,
                  (fine_return funcs func 6 refl refl (plain_stays func 6 refl), tt),
                ),
              ),
            ),
          ),
        ),
      ))
      making_phis refl (omega arith) (omega arith) refl refl refl refl refl refl refl short

-- a head that is no phi, and one that is right
plain_head : {P : Type 0} (one block : BasicBlock) → Some one ≡ Some block → not (is_phi (head_of one.insts).op) ≡ true → is_phi (head_of block.insts).op ≡ true → P
plain_head one block at plain is =
    let same : one ≡ block = same_Some one block at in
    absurd (false≢true (rw (subst (λ (b : BasicBlock). is_phi (head_of b.insts).op ≡ true) (sym same) is) at plain))

right_head : (func : Function) (number : ℕ) (one block : BasicBlock) → Some one ≡ Some block → PhiIsRight func number [] (head_of one.insts) → PhiIsRight func number [] (head_of block.insts)
right_head func number one block at right = subst (λ (b : BasicBlock). PhiIsRight func number [] (head_of b.insts)) (same_Some one block at) right

module _ (funcs : List Function) (place : ℕ) (few : place < 2 ^ 62) (short : length (numbered_name (codes "g") (place + 1)) ≤ 4096) (constant : ℕ) (low : constant < 100) where
  -- ---- the loop

  looping_counts : (from : ℕ) → count_of from (phi_line (codes "i") (Integer 64) (Int 0) 0 6 1).labels ≡ edges (function place (looping constant)) from 1
  looping_counts zero = refl
  looping_counts (suc zero) = refl
  looping_counts (suc (suc zero)) = refl
  looping_counts (suc (suc (suc from))) = search rules

  looping_heads : HeadsAreRight (function place (looping constant))
  unfolding head_of
  looping_heads zero block at is = plain_head _ block at refl is
  looping_heads (suc zero) block at is =
      right_head (function place (looping constant)) 1 _ block at
      (record { first = refl; counted = looping_counts; agree = two_entries (codes "i") (Integer 64) (Int 0) 0 6 1 (differ 0 1 refl) })
  looping_heads (suc (suc zero)) block at is = plain_head _ block at refl is
  looping_heads (suc (suc (suc number))) block at is = absurd (none-some block at)

  looping_phis : PhisAreRight (function place (looping constant))
  unfolding phis_first rest_plain plain head_of
  looping_phis = phis_right (function place (looping constant)) refl looping_heads

  pub looping_sound : IsSound funcs (function place (looping constant))
  unfolding uses_settle blocks_settle lines_settle line_settles entries_settle entry_settles settles given_before is_home entry_length all_distinct absent free_name is_plain_value plain_definition
  looping_sound =
      let func : Function = function place (looping constant) in
      sound_function funcs place few (looping constant)
      (All-from_recursion (IsFine funcs func) (instructions_of (looping constant)) (
        fine_field funcs func (codes "p0") 0 0 refl (omega arith),
        (
          fine_jump funcs func 1 (omega arith) (differ 1 0 refl),
          (
            fine_count funcs func (codes "i") 0 0 6 1 (omega arith) refl (omega arith) (omega arith),
            (
              fine_load funcs func (codes "v") 2 refl,
              (
                fine_add funcs func (codes "w") 4 1 refl refl,
                (
                  fine_store funcs func 5 2 refl (plain_stays func 5 refl) refl,
                  (
                    fine_add_literal funcs func (codes "i1") 3 1 refl (omega arith),
                    (
                      fine_below funcs func (codes "t") 6 constant refl (omega arith),
                      (
                        fine_branch funcs func 7 1 2 refl (omega arith) (omega arith) (differ 1 0 refl) (differ 2 0 refl),
                        (
                          fine_load funcs func (codes "u") 2 refl,
                          (fine_return funcs func 8 refl refl (plain_stays func 8 refl), tt),
                        ),
                      ),
                    ),
                  ),
                ),
              ),
            ),
          ),
        ),
      ))
      looping_phis refl (omega arith) (omega arith) refl refl refl refl refl refl refl short

  -- ---- the phi of pointers

  first_counts : (from : ℕ) → count_of from (phi_line (codes "p") Ptr (value 3) 0 5 1).labels ≡ edges (function place (merging 0 constant)) from 2
  first_counts zero = refl
  first_counts (suc zero) = refl
  first_counts (suc (suc zero)) = refl
  first_counts (suc (suc (suc from))) = search rules

  first_heads : HeadsAreRight (function place (merging 0 constant))
  unfolding head_of
  first_heads zero block at is = plain_head _ block at refl is
  first_heads (suc zero) block at is = plain_head _ block at refl is
  first_heads (suc (suc zero)) block at is =
      right_head (function place (merging 0 constant)) 2 _ block at
      (record { first = refl; counted = first_counts; agree = two_entries (codes "p") Ptr (value 3) 0 5 1 (differ 0 1 refl) })
  first_heads (suc (suc (suc number))) block at is = absurd (none-some block at)

  first_phis : PhisAreRight (function place (merging 0 constant))
  unfolding phis_first rest_plain plain head_of
  first_phis = phis_right (function place (merging 0 constant)) refl first_heads

  pub first_sound : IsSound funcs (function place (merging 0 constant))
  unfolding uses_settle blocks_settle lines_settle line_settles entries_settle entry_settles settles given_before is_home entry_length all_distinct absent free_name is_plain_value plain_definition
  first_sound =
      let func : Function = function place (merging 0 constant) in
      sound_function funcs place few (merging 0 constant)
      (All-from_recursion (IsFine funcs func) (instructions_of (merging 0 constant)) (
        fine_new funcs func (codes "n") 1 (omega arith),
        (
          fine_field funcs func (codes "p1") 0 0 refl (omega arith),
          (
            fine_below funcs func (codes "c") 1 constant refl (omega arith),
            (
              fine_branch funcs func 4 1 2 refl (omega arith) (omega arith) (differ 1 0 refl) (differ 2 0 refl),
              (
                fine_field funcs func (codes "p2") 2 0 refl (omega arith),
                (
                  fine_jump funcs func 2 (omega arith) (differ 2 0 refl),
                  (
                    fine_choice funcs func (codes "p") 3 0 5 1 refl refl (omega arith) (omega arith),
                    (
                      fine_load funcs func (codes "v") 6 refl,
                      (
                        fine_add_literal funcs func (codes "r") 7 constant refl (omega arith),
                        (
                          fine_store funcs func 8 6 refl (plain_stays func 8 refl) refl,
                          (fine_return funcs func 8 refl refl (plain_stays func 8 refl), tt),
                        ),
                      ),
                    ),
                  ),
                ),
              ),
            ),
          ),
        ),
      ))
      first_phis refl (omega arith) (omega arith) refl refl refl refl refl refl refl short

  later_counts : (before from : ℕ) → count_of from (phi_line (codes "p") Ptr (value 3) 0 5 1).labels ≡ edges (function place (merging (suc before) constant)) from 2
  later_counts before zero = refl
  later_counts before (suc zero) = refl
  later_counts before (suc (suc zero)) = refl
  later_counts before (suc (suc (suc from))) = search rules

  later_heads : (before : ℕ) → HeadsAreRight (function place (merging (suc before) constant))
  unfolding head_of
  later_heads before zero block at is = plain_head _ block at refl is
  later_heads before (suc zero) block at is = plain_head _ block at refl is
  later_heads before (suc (suc zero)) block at is =
      right_head (function place (merging (suc before) constant)) 2 _ block at
      (record { first = refl; counted = later_counts before; agree = two_entries (codes "p") Ptr (value 3) 0 5 1 (differ 0 1 refl) })
  later_heads before (suc (suc (suc number))) block at is = absurd (none-some block at)

  later_phis : (before : ℕ) → PhisAreRight (function place (merging (suc before) constant))
  unfolding phis_first rest_plain plain head_of
  later_phis before = phis_right (function place (merging (suc before) constant)) refl (later_heads before)

  pub later_sound : (before : ℕ) → Calls funcs before → IsSound funcs (function place (merging (suc before) constant))
  unfolding uses_settle blocks_settle lines_settle line_settles entries_settle entry_settles settles given_before is_home entry_length all_distinct absent free_name is_plain_value plain_definition
  later_sound before calls =
      let func : Function = function place (merging (suc before) constant) in
      sound_function funcs place few (merging (suc before) constant)
      (All-from_recursion (IsFine funcs func) (instructions_of (merging (suc before) constant)) (
        fine_new funcs func (codes "n") 1 (omega arith),
        (
          fine_field funcs func (codes "p1") 0 0 refl (omega arith),
          (
            fine_below funcs func (codes "c") 1 constant refl (omega arith),
            (
              fine_branch funcs func 4 1 2 refl (omega arith) (omega arith) (differ 1 0 refl) (differ 2 0 refl),
              (
                fine_field funcs func (codes "p2") 2 0 refl (omega arith),
                (
                  fine_jump funcs func 2 (omega arith) (differ 2 0 refl),
                  (
                    fine_choice funcs func (codes "p") 3 0 5 1 refl refl (omega arith) (omega arith),
                    (
                      fine_call funcs func (codes "k") before 0 1 calls refl (plain_stays func 0 refl) refl (plain_stays func 1 refl),
                      (
                        fine_load funcs func (codes "v") 6 refl,
                        (
                          fine_add_literal funcs func (codes "r") 8 constant refl (omega arith),
                          (
                            fine_store funcs func 9 6 refl (plain_stays func 9 refl) refl,
                            (fine_return funcs func 9 refl refl (plain_stays func 9 refl), tt),
                          ),
                        ),
                      ),
                    ),
                  ),
                ),
              ),
            ),
          ),
        ),
      ))
      (later_phis before) refl (omega arith) (omega arith) refl refl refl refl refl refl refl short
