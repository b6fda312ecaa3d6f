-- What the parts give together: the blocks of the rewritten function.
use Rattle.std.proofs.Common.{◌≡◌, ◌∙◌, ℕ, suc, ◌<◌, ◌+◌, List, [], ◌∷◌, ◌++◌, length, map, take, drop, Some, slice_get, refl, ap, sym, arith, ◌^◌}
use Rattle.std.specs.Prelude.{count_by}
use Rattle.std.specs.List.{range_with_len, sum_by}
use Rattle.std.specs.Global.{Vec}
use Rattle.std.proofs.lemmas.List.{length-map}
use Rattle.std.proofs.lemmas.List.FromFn.{length-range_with_len}
use Rattle.std.proofs.lemmas.Option.{get_or_from_slice_get}
use Rattle.list_laws.proofs.Places.{get_map, drop_none, take_none}
use Rattle.sp_ids.specs.declared.ids.BlockId.{BlockId}
use Rattle.sp_ids.specs.declared.ids.ValueId.{ValueId}
use Rattle.ir_ast.specs.declared.ops.Operand.{Operand}
use Rattle.ir_ast.specs.Blocks.{BasicBlock}
use Rattle.ir_ast.specs.declared.types.Ty.{Ty}
use Rattle.ir_ast.specs.declared.funcs.Arg.{Arg}
use Rattle.ir_ast.specs.Funcs.{Function, IsSmall, instructions_of}
use Rattle.ir_cfg.specs.Graphs.{graph_of}
use Rattle.object_meaning.specs.Lines.{Line}
use Rattle.rewriting_forms.specs.Numbered.{lines_at, calls, preds}
use Rattle.rewriting_forms.specs.Liveness.{live_lists}
use Rattle.rewriting_forms.specs.Names.{Name, Naming, full_naming}
use Rattle.rewriting_forms.specs.Rewritten.{joined_at, names_of, place_in, rewritten_with, rewritten_blocks}
use Rattle.statepoint_insert.specs.Calls.{calls_before}
use Rattle.statepoint_insert.specs.Groups.{GroupContent, groups_of, numbers_in}
use Rattle.version_walk.specs.declared.slots.Slot.{Slot}
use Rattle.version_walk.specs.declared.slots.Slot.TheVariants.{Number}
use Rattle.ssa_rebuild.specs.declared.versions.Versions.{Versions}
use Rattle.ssa_rebuild.specs.declared.writing.Writing.{Writing}
use Rattle.version_walk.specs.Forest.{list_at}
use Rattle.ssa_rebuild.specs.Rows.{group_list, body_rows, entries_all, entries_from, use_numbers, number_behind, body_numbers, block_numbers}
use Rattle.ssa_rebuild.specs.Answers.{number_of}
use Rattle.ssa_rebuild.specs.Solved.{AreNumbered}
use Rattle.ssa_rebuild.specs.Versions.{AreVersions}
use Rattle.ssa_rebuild.specs.Written.{block_after, blocks_written}
use Rattle.ssa_rebuild.specs.Arrivals.{HoldsAll, arriving_numbers, entry_numbers}
use Rattle.ssa_rebuild.proofs.WrittenLaws.{AreCounts, NamesAreCounted, relocates_before, blocks_are}
use Rattle.ssa_rebuild.proofs.ArrivalLaws.{list_is, to_come}
use Rattle.ssa_rebuild.proofs.CountLaws.{token_counted, relocates_counted, joined_counted}
use Rattle.ssa_rebuild.proofs.LengthLaws.{body_long}
use Rattle.list_laws.proofs.Ranges.{range_get}
use Rattle.ir_ast.specs.Operands.{valued}

pub numbers_back : (ns : List ℕ) → map number_of (map Number ns) ≡ ns
numbers_back [] = refl
numbers_back (n ∷ ns) = ap (λ (ms : List ℕ). n ∷ ms) (numbers_back ns)

all_from : (ls : List (List ℕ)) (f : ℕ → List ℕ) (from : ℕ) → ((i : ℕ) → i < length ls → slice_get ls i ≡ Some (f (from + i))) → ls ≡ map f (range_with_len from (length ls))
all_from [] f from each = refl
all_from (l ∷ ls) f from each =
    let z : from + 0 ≡ from = omega arith in
    let first : l ≡ f (from + 0) = (let h : Some l ≡ Some (f (from + 0)) = each 0 (omega arith) in cc) in
    let rest = all_from ls f (from + 1) (λ i inside. (let e : from + suc i ≡ (from + 1) + i = omega arith in each (suc i) (omega (arith, inside)) ∙ ap (λ (n : ℕ). Some (f n)) e)) in
    ap (λ (x : List ℕ). x ∷ ls) (first ∙ ap f z) ∙ ap (λ (xs : List (List ℕ)). f from ∷ xs) rest

abbrev pub at_front : List ℕ → Writing
at_front entries = record { counts = record { tokens = 0; relocates = 0 }; joined = 0; body = []; entries = entries }

-- ---- the size

written_long : (graph : List (List BlockId)) (groups : List GroupContent) (joins : List (Vec ValueId)) (rows : List (Vec Slot)) (b : ℕ) (w : Writing) (blocks : List BasicBlock)
    → length (blocks_written graph groups joins rows b w blocks) ≡ length blocks
written_long graph groups joins rows b w [] = refl
written_long graph groups joins rows b w (block ∷ blocks) = ap suc (written_long graph groups joins rows (suc b) (block_after graph groups joins rows b w block.insts) blocks)

-- of a function with as many blocks and few lines
small_after : (args before : List Arg) (after blocks : List BasicBlock) → args ≡ before → length after ≡ length blocks → IsSmall before blocks
    → length (instructions_of after) < 2 ^ 30 → IsSmall args after
small_after args before after blocks args_are long small few =
    let same = ap length args_are in
    let one = small.few_arguments in
    let two = small.few_blocks in
    record { few_arguments = omega (arith, same, one); few_blocks = omega (arith, long, two); few_instructions = few }

pub small_written : (args before : List Arg) (after blocks old : List BasicBlock) (graph : List (List BlockId)) (groups : List GroupContent) (joins : List (Vec ValueId)) (rows : List (Vec Slot)) (w : Writing)
    → args ≡ before → blocks ≡ old → after ≡ blocks_written graph groups joins rows 0 w blocks → IsSmall before old → length (instructions_of after) < 2 ^ 30 → IsSmall args after
small_written args before after blocks old graph groups joins rows w args_are blocks_are is small few =
    small_after args before after old args_are (ap length is ∙ written_long graph groups joins rows 0 w blocks ∙ ap length blocks_are) small few

module _ (func : Function) (table : List Operand) (naming : Naming) where
  abbrev number : Name → ℕ
  number name = place_in (names_of func table naming) name

  abbrev values_of : List (Vec ValueId) → List (List ℕ)
  values_of joins = map (λ join. numbers_in join.items) joins

  abbrev lists : List (List ℕ)
  lists = map (joined_at func naming) (range_with_len 0 (length func.blocks))

  -- ---- numbers that are found

  module _ (joins : List (Vec ValueId)) (joins_whole : length joins ≡ length func.blocks)
      (joins_are : (b : ℕ) → b < length func.blocks → list_at joins b ≡ map valued (joined_at func naming b))
    where
      values_are : values_of joins ≡ lists
      values_are =
          let long = length-map joins (λ join. numbers_in join.items) in
          all_from (values_of joins) (joined_at func naming) 0
          (λ i inside. (let z : 0 + i ≡ i = omega arith in
          list_is func table naming joins joins_whole joins_are i (omega (arith, inside, long, joins_whole)) ∙ ap (λ (n : ℕ). Some (joined_at func naming n)) (sym z)))
          ∙ ap (λ (n : ℕ). map (joined_at func naming) (range_with_len 0 n)) (long ∙ joins_whole)

      -- the numbers of all entries
      pub arrived : (groups : List GroupContent) (rows : List (Vec Slot)) (lengths entries : List ℕ)
          → groups ≡ groups_of func table → AreNumbered func table naming rows
          → lengths ≡ map (λ row. length row) (body_rows (map group_list groups) (values_of joins) 0 (length func.args) func.blocks)
          → HoldsAll rows lengths entries (entries_all (preds func) (values_of joins) 0 func.blocks) (λ here. arriving_numbers here (preds func) (values_of joins) 0 func.blocks)
          → entries ≡ entry_numbers func table naming
      arrived groups rows lengths entries groups_are rows_are lengths_are entries_are =
          entries_are (λ p. number_behind func table naming number p)
          (to_come func table naming joins joins_whole joins_are groups rows lengths groups_are rows_are.whole rows_are.each lengths_are (λ b below. body_long func table naming number b))
          ∙ ap (λ (ls : List (List ℕ)). arriving_numbers (λ p. number_behind func table naming number p) (preds func) ls 0 func.blocks) values_are

  -- versions of which each part is whole
  pub versions_are : (versions : Versions) → ((b : ℕ) → b < length func.blocks → list_at versions.joins.items b ≡ map valued (joined_at func naming b))
      → AreNumbered func table naming versions.rows.items → versions.entries.items ≡ entry_numbers func table naming → AreVersions func table naming versions
  versions_are versions joins_are rows_are entries_are = record {
    joins = joins_are;
    rows = λ b below. (
      use_numbers (number_behind func table naming number b) (entries_from func naming b),
      ap (map number_of) (rows_are.each b below) ∙ numbers_back (block_numbers func table naming number b),
    );
    entries = entries_are;
  }

  -- ---- the text

  counted : NamesAreCounted func table naming
  counted = record {
    tokens = λ b k line below stands call. token_counted func table naming b k line below stands call;
    relocates = λ b k line below stands call j v has. relocates_counted func table naming b k line below stands call j v has;
  }

  none_before : calls_before func 0 0 ≡ 0
  none_before = (let none : count_by calls [] ≡ 0 = refl in ap (λ (ls : List Line). sum_by (λ c. count_by calls (lines_at func c)) (range_with_len 0 0) + count_by calls ls) (take_none (lines_at func 0)) ∙ none)

  counts : AreCounts func table naming (record { tokens = 0; relocates = 0 }) 0 0
  counts = record {
    tokens = sym none_before;
    relocates = sym (ap (relocates_before func table naming) none_before ∙ ap (sum_by (λ (list : List ℕ). length list)) (take_none (live_lists func table)));
  }

  lists_long : length lists ≡ length func.blocks
  lists_long = length-map (range_with_len 0 (length func.blocks)) (joined_at func naming) ∙ length-range_with_len 0 (length func.blocks)

  lists_at : (i : ℕ) → i < length func.blocks → slice_get lists i ≡ Some (joined_at func naming (0 + i))
  lists_at i below = get_map (joined_at func naming) (range_with_len 0 (length func.blocks)) i (0 + i) (range_get 0 (length func.blocks) i below)

  -- the blocks that are written
  rebuilt : (versions : Versions) (groups : List GroupContent) → AreVersions func table naming versions → groups ≡ groups_of func table
      → blocks_written (graph_of func) groups versions.joins.items versions.rows.items 0 (at_front versions.entries.items) func.blocks ≡ (rewritten_with func table naming).blocks
  rebuilt versions groups are groups_are =
      blocks_are func table naming groups groups_are counted versions.joins.items versions.rows.items are.joins are.rows
      (λ b j v below has. joined_counted func table naming b j v below has)
      0 func.blocks lists (at_front versions.entries.items) (drop_none func.blocks) (omega arith) lists_long
      (λ i inside. get_or_from_slice_get lists i (joined_at func naming (0 + i)) [] (lists_at i inside))
      are.entries counts refl

  pub remade : (versions : Versions) (graph : List (List BlockId)) (gs groups : List GroupContent) (js : List (Vec ValueId)) (rs : List (Vec Slot)) (w : Writing) (bs after : List BasicBlock)
      → AreVersions func table naming versions → groups ≡ groups_of func table → after ≡ blocks_written graph gs js rs 0 w bs
      → graph ≡ graph_of func → gs ≡ groups → js ≡ versions.joins.items → rs ≡ versions.rows.items → w ≡ at_front versions.entries.items → bs ≡ func.blocks
      → after ≡ (rewritten_with func table naming).blocks
  remade versions graph gs groups js rs w bs after are groups_are is graph_is gs_are js_are rs_are w_is bs_are =
      let joins = versions.joins.items in
      let rows = versions.rows.items in
      let first = at_front versions.entries.items in
      is ∙ ap (λ (g : List (List BlockId)). blocks_written g gs js rs 0 w bs) graph_is
      ∙ ap (λ (xs : List GroupContent). blocks_written (graph_of func) xs js rs 0 w bs) gs_are
      ∙ ap (λ (xs : List (Vec ValueId)). blocks_written (graph_of func) groups xs rs 0 w bs) js_are
      ∙ ap (λ (xs : List (Vec Slot)). blocks_written (graph_of func) groups joins xs 0 w bs) rs_are
      ∙ ap (λ (x : Writing). blocks_written (graph_of func) groups joins rows 0 x bs) w_is
      ∙ ap (λ (xs : List BasicBlock). blocks_written (graph_of func) groups joins rows 0 first xs) bs_are
      ∙ rebuilt versions groups are groups_are

  abbrev made_of : List ℕ → Ty → List Arg → List BasicBlock → Function
  made_of name answer args blocks = record { name = name; answer = answer; args = args; blocks = blocks }

  pub whole_with : (name : List ℕ) (answer : Ty) (args : List Arg) (blocks : List BasicBlock) → name ≡ func.name → answer ≡ func.answer → args ≡ func.args
      → blocks ≡ (rewritten_with func table naming).blocks → ◌≡◌ {A = Function} (record { name = name; answer = answer; args = args; blocks = blocks }) (rewritten_with func table naming)
  whole_with name answer args blocks name_is answer_is args_are blocks_are =
      ap (λ (n : List ℕ). made_of n answer args blocks) name_is ∙ ap (λ (a : Ty). made_of func.name a args blocks) answer_is
      ∙ ap (λ (xs : List Arg). made_of func.name func.answer xs blocks) args_are ∙ ap (made_of func.name func.answer func.args) blocks_are

  rewritten_long : (names : List Name) (b : ℕ) (blocks : List BasicBlock) → length (rewritten_blocks func table naming names b blocks) ≡ length blocks
  rewritten_long names b [] = refl
  rewritten_long names b (block ∷ blocks) = ap suc (rewritten_long names (suc b) blocks)

  pub small_with : (args : List Arg) (after : List BasicBlock) → args ≡ func.args → after ≡ (rewritten_with func table naming).blocks
      → IsSmall func.args func.blocks → length (instructions_of (rewritten_with func table naming).blocks) < 2 ^ 30 → IsSmall args after
  small_with args after args_are is small few =
      small_after args func.args after func.blocks args_are (ap length is ∙ rewritten_long (names_of func table naming) 0 func.blocks) small
      (let lines = ap (λ (bs : List BasicBlock). length (instructions_of bs)) is in omega (arith, lines, few))

-- ---- the same of the naming before any inserted phi is removed

pub small_rewritten : (func : Function) (table : List Operand) (args : List Arg) (after : List BasicBlock) → args ≡ func.args → after ≡ (rewritten_with func table (full_naming func table)).blocks
    → IsSmall func.args func.blocks → length (instructions_of (rewritten_with func table (full_naming func table)).blocks) < 2 ^ 30 → IsSmall args after
small_rewritten func table = small_with func table (full_naming func table)

pub whole_is : (func : Function) (table : List Operand) (name : List ℕ) (answer : Ty) (args : List Arg) (blocks : List BasicBlock) → name ≡ func.name → answer ≡ func.answer → args ≡ func.args
    → blocks ≡ (rewritten_with func table (full_naming func table)).blocks
    → ◌≡◌ {A = Function} (record { name = name; answer = answer; args = args; blocks = blocks }) (rewritten_with func table (full_naming func table))
whole_is func table = whole_with func table (full_naming func table)
