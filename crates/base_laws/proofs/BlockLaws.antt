-- The lines of a function with bases are the images of its lines, block by block; and how many registers it has.
use Rattle.std.proofs.Common.{◌≡◌, ℕ, zero, suc, ◌+◌, Bool, List, [], ◌∷◌, ◌++◌, length, drop, refl, sym, ap, subst, ◌∙◌, append_assoc}
use Rattle.std.specs.Prelude.{Option, Some, slice_get, slice_index, count_by}
use Rattle.std.specs.List.{All}
use Rattle.std.proofs.lemmas.List.Elements.{All-head, All-tail}
use Rattle.list_laws.proofs.Contents.{all_back, all_front}
use Rattle.ir_ast.specs.Insts.{Instruction}
use Rattle.ir_ast.specs.Blocks.{BasicBlock}
use Rattle.ir_ast.specs.Funcs.{Function, instructions_of}
use Rattle.ir_ast.specs.Values.{Definition, definitions_of}
use Rattle.object_meaning.specs.Lines.{Line, after_all, first_registers, following, numbered}
use Rattle.object_meaning.specs.TargetRuns.{plain_lines}
use Rattle.base_forms.specs.DerivedMarks.{derived_marks}
use Rattle.base_forms.specs.Inserted.{has_inserted, inserted_number}
use Rattle.base_forms.specs.Based.{based_blocks, based_insts, lines_for}
use Rattle.renaming_laws.specs.Renamed.{Renaming}
use Rattle.renaming_laws.specs.Inserted.{Image}
use Rattle.renaming_laws.specs.Images.{Images, more_lines, no_lines}
use Rattle.base_laws.proofs.TypeLaws.{MarksPointers}
use Rattle.base_laws.proofs.NumberLaws.{first_keeps, renaming_of, shift_last}
use Rattle.base_laws.proofs.LineLaws.{IsReady, line_made, line_of}
use Rattle.object_meaning.proofs.LineLaws.{after_append}
use Rattle.object_meaning.proofs.GivenLaws.{after_is, definition_count, drop_all, drop_given, given_append, given_by, results_last}

-- ---- lines one after another

plain_append : (next : ℕ) (xs ys : List Instruction) → plain_lines next (xs ++ ys) ≡ plain_lines next xs ++ plain_lines (after_all next xs) ys
plain_append next [] ys = refl
plain_append next (x ∷ xs) ys = ap (λ rest. numbered next x ∷ rest) (plain_append (following next x) xs ys)

-- ---- the images

module _ (functions : ℕ → Renaming) (number : ℕ) (func : Function) (called : Bool) (is : functions number ≡ renaming_of called func) (pointers : MarksPointers func (derived_marks func)) where
  abbrev shift : ℕ → ℕ
  shift = inserted_number func (derived_marks func)

  abbrev based_from : ℕ → List Instruction → List Instruction
  based_from = based_insts func (derived_marks func)

  abbrev Ready : List Instruction → Type 0
  Ready insts = All (IsReady functions func) insts

  pub after_based : (next : ℕ) (insts : List Instruction) (after : List Definition) → drop next (definitions_of func) ≡ given_by insts ++ after → Ready insts
      → after_all (shift next) (based_from next insts) ≡ shift (after_all next insts)
  after_based next [] after given ready = refl
  after_based next (inst ∷ insts) after given ready =
      let here = drop_given (definitions_of func) next inst insts after given in
      let made = line_made func called next inst here.0 (All-head (IsReady functions func) inst insts ready).typed pointers in
      after_append (shift next) (lines_for func (derived_marks func) next inst inst.op) (based_from (following next inst) insts)
      ∙ (ap (λ n. after_all n (based_from (following next inst) insts)) made.after
      ∙ after_based (following next inst) insts after here.1 (All-tail (IsReady functions func) inst insts ready))

  images_insts : (next : ℕ) (insts : List Instruction) (after : List Definition) → drop next (definitions_of func) ≡ given_by insts ++ after → Ready insts
      → Images functions number (plain_lines next insts) (plain_lines (shift next) (based_from next insts))
  images_insts next [] after given ready = no_lines
  images_insts next (inst ∷ insts) after given ready =
      let here = drop_given (definitions_of func) next inst insts after given in
      let first = All-head (IsReady functions func) inst insts ready in
      let made = line_made func called next inst here.0 first.typed pointers in
      let behind = ap (λ n. plain_lines n (based_from (following next inst) insts)) made.after in
      subst (λ (lines : List Line). Images functions number (plain_lines next (inst ∷ insts)) lines)
      (sym
      (plain_append (shift next) (lines_for func (derived_marks func) next inst inst.op) (based_from (following next inst) insts)
      ∙ ap (λ rest. plain_lines (shift next) (lines_for func (derived_marks func) next inst inst.op) ++ rest) behind))
      (more_lines (numbered next inst) (plain_lines (shift next) (lines_for func (derived_marks func) next inst inst.op)) (plain_lines (following next inst) insts)
      (plain_lines (shift (following next inst)) (based_from (following next inst) insts))
      (line_of functions number func called is next inst first here.0)
      (subst (λ (r : Renaming). Image r (numbered next inst) (plain_lines (shift next) (lines_for func (derived_marks func) next inst inst.op))) (sym is) made.image)
      (images_insts (following next inst) insts after here.1 (All-tail (IsReady functions func) inst insts ready)))

  -- a block and the one that it becomes
  pub record BlockMade (registers others : List ℕ) (now : Option BasicBlock) (place : ℕ) (block : BasicBlock) : Type 0 where
    pub becomes : BasicBlock
    pub found : now ≡ Some becomes
    pub images : Images functions number (plain_lines (slice_index registers place) block.insts) (plain_lines (slice_index others place) becomes.insts)

  block_made : (next : ℕ) (blocks : List BasicBlock) (after : List Definition) → drop next (definitions_of func) ≡ given_by (instructions_of blocks) ++ after
      → Ready (instructions_of blocks) → (place : ℕ) (block : BasicBlock) → slice_get blocks place ≡ Some block
      → BlockMade (first_registers next blocks) (first_registers (shift next) (based_blocks func (derived_marks func) next blocks))
      (slice_get (based_blocks func (derived_marks func) next blocks) place) place block
  block_made next [] after given ready place block found = absurd cc
  block_made next (first ∷ blocks) after given ready place block found =
      by place found
      (λ k at. block_made (after_all next first.insts) blocks after behind (all_back (IsReady functions func) first.insts (instructions_of blocks) ready) k block at)
    where
      here : drop next (definitions_of func) ≡ given_by first.insts ++ (given_by (instructions_of blocks) ++ after)
      here = given ∙ (ap (λ all. all ++ after) (given_append first.insts (instructions_of blocks)) ∙ append_assoc (given_by first.insts) (given_by (instructions_of blocks)) after)

      behind : drop (after_all next first.insts) (definitions_of func) ≡ given_by (instructions_of blocks) ++ after
      behind = drop_all (definitions_of func) next first.insts (given_by (instructions_of blocks) ++ after) here

      front : Ready first.insts
      front = all_front (IsReady functions func) first.insts (instructions_of blocks) ready

      next_is : after_all (shift next) (based_from next first.insts) ≡ shift (after_all next first.insts)
      next_is = after_based next first.insts (given_by (instructions_of blocks) ++ after) here front

      by : (place : ℕ) → slice_get (first ∷ blocks) place ≡ Some block
          → ((k : ℕ) → slice_get blocks k ≡ Some block
          → BlockMade (first_registers (after_all next first.insts) blocks)
          (first_registers (shift (after_all next first.insts)) (based_blocks func (derived_marks func) (after_all next first.insts) blocks))
          (slice_get (based_blocks func (derived_marks func) (after_all next first.insts) blocks) k) k block)
          → BlockMade (first_registers next (first ∷ blocks)) (first_registers (shift next) (based_blocks func (derived_marks func) next (first ∷ blocks)))
          (slice_get (based_blocks func (derived_marks func) next (first ∷ blocks)) place) place block
      by zero at further =
          let same : first ≡ block = cc in
          record {
            becomes = record first { insts = based_from next first.insts };
            found = refl;
            images = subst (λ (b : BasicBlock). Images functions number (plain_lines next b.insts) (plain_lines (shift next) (based_from next first.insts))) same
                (images_insts next first.insts (given_by (instructions_of blocks) ++ after) here front);
          }
      by (suc k) at further =
          let rest = further k at in
          record {
            becomes = rest.becomes;
            found = rest.found;
            images = subst (λ (n : ℕ). Images functions number (plain_lines (slice_index (first_registers (after_all next first.insts) blocks) k) block.insts)
                (plain_lines (slice_index (first_registers n (based_blocks func (derived_marks func) (after_all next first.insts) blocks)) k) rest.becomes.insts))
                (sym next_is) rest.images;
          }

  abbrev now_blocks : List BasicBlock
  now_blocks = based_blocks func (derived_marks func) (length func.args) func.blocks

  -- each block of the function
  pub based_block : Ready (instructions_of func.blocks) → (place : ℕ) (block : BasicBlock) → slice_get func.blocks place ≡ Some block
      → BlockMade (first_registers (length func.args) func.blocks) (first_registers (length func.args) now_blocks) (slice_get now_blocks place) place block
  based_block ready place block found =
      subst (λ (n : ℕ). BlockMade (first_registers (length func.args) func.blocks) (first_registers n now_blocks) (slice_get now_blocks place) place block) (first_keeps func)
      (block_made (length func.args) func.blocks [] (results_last func) ready place block found)

  after_blocks : (next : ℕ) (blocks : List BasicBlock) (after : List Definition) → drop next (definitions_of func) ≡ given_by (instructions_of blocks) ++ after
      → Ready (instructions_of blocks)
      → after_all (shift next) (instructions_of (based_blocks func (derived_marks func) next blocks)) ≡ shift (after_all next (instructions_of blocks))
  after_blocks next [] after given ready = refl
  after_blocks next (block ∷ blocks) after given ready =
      let here = given ∙ (ap (λ all. all ++ after) (given_append block.insts (instructions_of blocks)) ∙ append_assoc (given_by block.insts) (given_by (instructions_of blocks)) after) in
      let front = all_front (IsReady functions func) block.insts (instructions_of blocks) ready in
      let back = all_back (IsReady functions func) block.insts (instructions_of blocks) ready in
      let behind = drop_all (definitions_of func) next block.insts (given_by (instructions_of blocks) ++ after) here in
      after_append (shift next) (based_from next block.insts) (instructions_of (based_blocks func (derived_marks func) (after_all next block.insts) blocks))
      ∙ (ap (λ n. after_all n (instructions_of (based_blocks func (derived_marks func) (after_all next block.insts) blocks)))
      (after_based next block.insts (given_by (instructions_of blocks) ++ after) here front)
      ∙ (after_blocks (after_all next block.insts) blocks after behind back
      ∙ sym (ap shift (after_append next block.insts (instructions_of blocks)))))

  -- how many registers there are, before and now
  pub room_is : after_all (length func.args) (instructions_of func.blocks) ≡ length (definitions_of func)
  room_is = after_is (length func.args) (instructions_of func.blocks) ∙ sym (definition_count func)

  pub now_room_is : Ready (instructions_of func.blocks)
      → after_all (length func.args) (instructions_of now_blocks) ≡ length (definitions_of func) + count_by (has_inserted (derived_marks func)) (definitions_of func)
  now_room_is ready =
      ap (λ n. after_all n (instructions_of now_blocks)) (sym (first_keeps func))
      ∙ (after_blocks (length func.args) func.blocks [] (results_last func) ready ∙ (ap shift room_is ∙ shift_last func))
