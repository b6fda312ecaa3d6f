-- The phis of the rewritten function are right, and its blocks end at their terminators.
use Rattle.std.proofs.Common.{◌≡◌, ℕ, zero, suc, ◌+◌, ◌<◌, ◌≤◌, Bool, true, false, not, eqb, ◌&&◌, cond, if◌then◌else◌, List, [], ◌∷◌, ◌++◌, length, map, drop, replicate, refl, sym, ap, ◌∙◌, ◌⊎◌, inl, inr, append-nil, arith}
use Rattle.std.specs.Prelude.{Option, Some, None, slice_get}
use Rattle.std.specs.List.{All, flat_map, list_all, prefix_len, range_with_len}
use Rattle.std.specs.Option.{option_map}
use Rattle.std.proofs.lemmas.Bool.{cases_eq, cases_lt, eq-eqb, ne_eqb, true≢false}
use Rattle.std.proofs.lemmas.List.{get_or_past, map-append}
use Rattle.std.proofs.lemmas.List.Sums.{sum_by-append}
use Rattle.std.proofs.lemmas.Option.{slice_get-map, slice_get_within}
use Rattle.list_laws.proofs.Contents.{all_at}
use Rattle.list_laws.proofs.Places.{get_front, get_middle, map_back, drop_whole}
use Rattle.sp_ids.specs.declared.ids.BlockId.{BlockId}
use Rattle.ir_ast.specs.declared.types.Ty.{Ty}
use Rattle.ir_ast.specs.declared.ops.Callee.{Callee}
use Rattle.ir_ast.specs.declared.ops.Op.{Op}
use Rattle.ir_ast.specs.declared.ops.Op.TheVariants as ops
use Rattle.ir_ast.specs.declared.ops.Operand.{Operand}
use Rattle.ir_ast.specs.Insts.{Instruction}
use Rattle.ir_ast.specs.Blocks.{BasicBlock, EndsAtTerminator}
use Rattle.ir_ast.specs.Edges.{count_of, edges}
use Rattle.ir_ast.specs.Funcs.{Function}
use Rattle.ir_ast.specs.Modules.{ModuleContent}
use Rattle.ir_ast.specs.Ops.{is_terminator}
use Rattle.ir_ast.specs.Faults.PhiEdges.{PhiIsRight, PhisAreRight, is_phi}
use Rattle.ir_cfg.specs.DefiniteUses.{Stands}
use Rattle.ir_cfg.specs.Graphs.{block_at, graph_of, preds_of, succs_of}
use Rattle.ir_cfg.proofs.KeepsCounts.{count_cons}
use Rattle.object_meaning.specs.Jumps.{phi_count}
use Rattle.object_meaning.specs.Lines.{Line}
use Rattle.rewriting_forms.specs.Numbered.{is_call, lines_at, named, preds}
use Rattle.rewriting_forms.specs.Names.{Name, Naming, names_at, names_at_end}
use Rattle.rewriting_forms.specs.Rewritten.{Piece, expanded, group, inserted_phi, joined_at, phi_operands, piece_inst, plain, renamed, statepoint}
use Rattle.rewriting_laws.specs.Laws.{IsPlain}
use Rattle.rewriting_laws.proofs.JumpLemmas.{one_piece}
use Rattle.rewriting_laws.proofs.LiveLaws.{drop_from}
use Rattle.rewriting_laws.proofs.NameLemmas.{call_or_not, is_none, is_one}
use Rattle.rewritten_sound.proofs.definite.MadeLaws.{edges_counted, edges_same}
use Rattle.rewritten_sound.proofs.definite.NowLaws.{block_now, graph_now, insts_now, now, number, pieces, text}
use Rattle.rewritten_sound.proofs.definite.PieceLaws.{PieceFrom, call_pieces, cut, from_join, from_line, offset, piece_from, pieces_for}
use Rattle.rewritten_sound.proofs.definite.UsedLaws.{phi_right}
use Rattle.rewritten_sound.proofs.shape.GroupLaws.{MemberOf, from_piece, is_relocate, is_result, member_of, only_one}
use Rattle.rewritten_sound.proofs.shape.PassLaws.{IsNamed}
use Rattle.base_definite.proofs.LinePlaces.{line_from, line_forth}

-- ---- counts of predecessors

count_append : (n : ℕ) (xs ys : List BlockId) → count_of n (xs ++ ys) ≡ count_of n xs + count_of n ys
count_append n xs ys = sum_by-append (λ (l : BlockId). cond (eqb l.0 n) 1 0) xs ys

count_copies : (n from count : ℕ) → count_of from (replicate count (block_at n)) ≡ (if eqb n from then count else 0)
count_copies n from zero = by (eqb n from)
  where
    by : (t : Bool) → ◌≡◌ {A = ℕ} 0 (if t then 0 else 0)
    by true = refl
    by false = refl
count_copies n from (suc count) =
    count_cons from (block_at n) (replicate count (block_at n))
    ∙ (ap (λ c. cond (eqb n from) 1 0 + c) (count_copies n from count) ∙ by (eqb n from))
  where
    by : (t : Bool) → cond t 1 0 + (if t then count else 0) ≡ (if t then suc count else 0)
    by true = omega arith
    by false = omega arith

abbrev copies : (ℕ → ℕ) → ℕ → ℕ → List BlockId
copies g from count = flat_map (λ (p : ℕ). replicate (g p) (block_at p)) (range_with_len from count)

count_early : (g : ℕ → ℕ) (from count x : ℕ) → x < from → count_of x (copies g from count) ≡ 0
count_early g from zero x early = refl
count_early g from (suc count) x early =
    let rest = count_early g (from + 1) count x (omega arith) in
    let here = count_copies from x (g from) ∙ ap (λ t. if t then g from else 0) (ne_eqb from x (λ same. omega arith)) in
    let sum = count_append x (replicate (g from) (block_at from)) (copies g (from + 1) count) in
    omega (arith, rest, here, sum)

count_within : (g : ℕ → ℕ) (from count x : ℕ) → from ≤ x → x < from + count → count_of x (copies g from count) ≡ g x
count_within g from zero x le below = absurd (omega arith)
count_within g from (suc count) x le below =
    count_append x (replicate (g from) (block_at from)) (copies g (from + 1) count)
    ∙ by (cases_eq from x) (λ more. count_within g (from + 1) count x more (omega arith))
  where
    by : (from ≡ x) ⊎ (from ≡ x → ⊥) → (from + 1 ≤ x → count_of x (copies g (from + 1) count) ≡ g x)
        → count_of x (replicate (g from) (block_at from)) + count_of x (copies g (from + 1) count) ≡ g x
    by (inl same) further =
        let here = count_copies from x (g from) ∙ ap (λ t. if t then g from else 0) (eq-eqb from x same) in
        let rest = count_early g (from + 1) count x (omega arith) in
        let own_count = ap g same in
        omega (arith, here, rest, own_count)
    by (inr apart) further =
        let here = count_copies from x (g from) ∙ ap (λ t. if t then g from else 0) (ne_eqb from x apart) in
        let rest = further (omega (arith, apart)) in
        omega (arith, here, rest)

count_late : (g : ℕ → ℕ) (from count x : ℕ) → from + count ≤ x → count_of x (copies g from count) ≡ 0
count_late g from zero x late = refl
count_late g from (suc count) x late =
    let rest = count_late g (from + 1) count x (omega arith) in
    let here = count_copies from x (g from) ∙ ap (λ t. if t then g from else 0) (ne_eqb from x (λ same. omega arith)) in
    let sum = count_append x (replicate (g from) (block_at from)) (copies g (from + 1) count) in
    omega (arith, rest, here, sum)

-- one predecessor for each edge
preds_counted : (func : Function) (b from : ℕ) → count_of from (preds_of (graph_of func) b) ≡ edges func from b
preds_counted func b from = elim (cases_lt from (length (graph_of func))) [
  | inl below ↦ count_within (λ p. count_of b (succs_of (graph_of func) p)) 0 (length (graph_of func)) from (omega arith) (omega arith) ∙ sym (edges_counted func from b)
  | inr past ↦
      count_late (λ p. count_of b (succs_of (graph_of func) p)) 0 (length (graph_of func)) from (omega arith)
      ∙ sym (edges_counted func from b ∙ ap (count_of b) (get_or_past (graph_of func) from [] past))
]

-- ---- lists

only_first : {A : Type 0} (x y : A) (i : ℕ) → slice_get (x ∷ []) i ≡ Some y → i ≡ 0
only_first x y zero is = refl
only_first x y (suc i) is = absurd cc

all_pass : {A : Type 0} (test : A → Bool) (xs : List A) → ((k : ℕ) (x : A) → slice_get xs k ≡ Some x → test x ≡ true) → list_all test xs ≡ true
all_pass test [] each = refl
all_pass test (x ∷ xs) each = ap (λ t. t && list_all test xs) (each 0 x refl) ∙ all_pass test xs (λ k. each (suc k))

prefix_passes : {A : Type 0} (test : A → Bool) (xs : List A) (k : ℕ) (x : A) → k < prefix_len test xs → slice_get xs k ≡ Some x → test x ≡ true
prefix_passes test [] k x below at = absurd cc
prefix_passes {A} test (first ∷ xs) k x below at = by (test first) refl k below at (λ j. prefix_passes test xs j x)
  where
    by : (t : Bool) → test first ≡ t → (k : ℕ) → k < (if t then 1 + prefix_len test xs else 0) → slice_get (first ∷ xs) k ≡ Some x
        → ((j : ℕ) → j < prefix_len test xs → slice_get xs j ≡ Some x → test x ≡ true) → test x ≡ true
    by false is k below at further = absurd (omega arith)
    by true is zero below at further = let same : first ≡ x = cc in ap test (sym same) ∙ is
    by true is (suc k) below at further = further k (omega arith) at

module _ (content other : ModuleContent) (func : Function) (table : List Operand) (naming : Naming) (room : ℕ) (is : IsNamed content other func table naming room)
    (phis : PhisAreRight func) (before_room : ℕ) (shape : IsPlain func before_room) where
  abbrev to : Name → ℕ
  to = number func table naming

  abbrev after : Function
  after = now func table naming

  abbrev written : Piece → Instruction
  written piece = piece_inst (text func table naming) piece

  abbrev start : ℕ → ℕ → ℕ
  start b k = offset func table naming to b k

  start_rises : (b k later : ℕ) → k ≤ later → start b k ≤ start b later
  start_rises b k zero le = let same : k ≡ 0 = omega arith in (let e = ap (start b) same in omega arith)
  start_rises b k (suc later) le = elim (cases_lt k (suc later)) [
    | inl less ↦ let rest = start_rises b k later (omega arith) in omega arith
    | inr most ↦ let same : k ≡ suc later = omega arith in (let e = ap (start b) same in omega arith)
  ]

  -- what stands before the lines for a line: inserted phis and the lines for earlier ones
  earlier : (b k later i j : ℕ) → j ≡ start b k + i → j < start b later → k < later
  earlier b k later i j is_place below = elim (cases_lt k later) [
    | inl less ↦ less
    | inr le ↦ absurd (let rises = start_rises b later k le in omega arith)
  ]

  -- a piece passes a test that inserted phis pass, and each line for an earlier line
  before_passes : (test : Op → Bool) (b later j : ℕ) (piece : Piece) → test ops.Phi ≡ true
      → ((k : ℕ) (line : Line) → k < later → slice_get (lines_at func b) k ≡ Some line → test line.inst.op ≡ true)
      → ((k i : ℕ) (line : Line) (piece : Piece) → k < later → slice_get (lines_at func b) k ≡ Some line → is_call line.inst.op ≡ true
      → slice_get (pieces_for func table naming to b k line) i ≡ Some piece → test piece.inst.op ≡ true)
      → PieceFrom func table naming to b j piece → j < start b later → test piece.inst.op ≡ true
  before_passes test b later j piece phi each groups (from_join v at same) below = ap (λ (p : Piece). test p.inst.op) same ∙ phi
  before_passes test b later j piece phi each groups (from_line k i line at place there) below =
      let less = earlier b k later i j place below in
      by (is_call line.inst.op) refl less
    where
      by : (t : Bool) → is_call line.inst.op ≡ t → k < later → test piece.inst.op ≡ true
      by true call less = groups k i line piece less at call there
      by false other_op less =
          let same = only_one (plain func table naming to b k line) piece i (ap (λ (ps : List Piece). slice_get ps i) (sym (one_piece func table naming to b k line line.inst.op other_op)) ∙ there) in
          ap (λ (p : Piece). test p.inst.op) (sym same) ∙ each k line less at

  -- ---- phis

  call_no_phi : (op : Op) → is_phi op ≡ true → is_call op ≡ false
  call_no_phi ops.Phi one = refl
  call_no_phi op one = absurd cc

  -- a phi is an inserted one, or that of a line
  data PhiFrom (b j : ℕ) (phi : Instruction) : Type 0 where
    inserted : (v : ℕ) → slice_get (joined_at func naming b) j ≡ Some v → phi ≡ written (inserted_phi func table naming to b v) → PhiFrom b j phi
    own_phi : (k : ℕ) (line : Line) → slice_get (lines_at func b) k ≡ Some line → is_phi line.inst.op ≡ true → j ≡ start b k → phi ≡ written (plain func table naming to b k line) → PhiFrom b j phi

  -- a line of a group passes a test that statepoints and their members pass
  group_passes : (test : Op → Bool) → ((callee : Callee) (types : List Ty) → test (ops.Statepoint 2882400000 callee types) ≡ true) → test ops.GcResult ≡ true → test ops.GcRelocate ≡ true
      → (b k i : ℕ) (line : Line) (piece : Piece) → is_call line.inst.op ≡ true → slice_get (pieces_for func table naming to b k line) i ≡ Some piece → test piece.inst.op ≡ true
  group_passes test points results relocates b k i line piece call there = elim (call_or_not line.inst.op) [
    | is_none other_op ↦ absurd (true≢false (sym call ∙ other_op))
    | is_one callee types op no_leaf ↦
        by callee types i (ap (λ (ps : List Piece). slice_get ps i) (sym (call_pieces func table naming to b k line callee types false op no_leaf)) ∙ there)
  ]
    where
      member : (i : ℕ) → MemberOf content other func table naming room is b k i line piece → test piece.inst.op ≡ true
      member i (is_result v given first same) = ap (λ (p : Piece). test p.inst.op) same ∙ results
      member i (is_relocate v listed same) = ap (λ (p : Piece). test p.inst.op) same ∙ relocates

      by : (callee : Callee) (types : List Ty) (i : ℕ) → slice_get (statepoint func table naming to b k callee types line.inst ∷ group func table naming to b k line) i ≡ Some piece
          → test piece.inst.op ≡ true
      by callee types zero found =
          let same : statepoint func table naming to b k callee types line.inst ≡ piece = cc in
          ap (λ (p : Piece). test p.inst.op) (sym same) ∙ points callee types
      by callee types (suc i) found = member i (member_of content other func table naming room is b k i line piece found)

  phi_from : (b j : ℕ) (phi : Instruction) → Stands after b j phi → is_phi phi.op ≡ true → PhiFrom b j phi
  phi_from b j phi stands one =
      let from = from_piece content other func table naming room is b j phi stands in
      by from.piece from.is_written from.from
    where
      by : (piece : Piece) → phi ≡ written piece → PieceFrom func table naming to b j piece → PhiFrom b j phi
      by piece is_written (from_join v at same) = inserted v at (is_written ∙ ap written same)
      by piece is_written (from_line k i line at place there) = own_or_group (is_call line.inst.op) refl
        where
          own_or_group : (t : Bool) → is_call line.inst.op ≡ t → PhiFrom b j phi
          own_or_group true call =
              absurd (true≢false (sym (group_passes (λ (op : Op). not (is_phi op)) (λ callee types. refl) refl refl b k i line piece call there)
              ∙ ap not (ap (λ (inst : Instruction). is_phi inst.op) (sym is_written) ∙ one)))
          own_or_group false other_op =
              let found = ap (λ (ps : List Piece). slice_get ps i) (sym (one_piece func table naming to b k line line.inst.op other_op)) ∙ there in
              let same = only_one (plain func table naming to b k line) piece i found in
              let first = only_first (plain func table naming to b k line) piece i found in
              own_phi k line at (ap (λ (p : Piece). is_phi p.inst.op) same ∙ (ap (λ (inst : Instruction). is_phi inst.op) (sym is_written) ∙ one)) (omega (arith, place, first)) (is_written ∙ ap written (sym same))

  -- only phis stand before a phi
  phis_before : (b later j : ℕ) (inst : Instruction) → later ≤ phi_count (lines_at func b) → Stands after b j inst → j < start b later → is_phi inst.op ≡ true
  phis_before b later j inst le stands below =
      let from = from_piece content other func table naming room is b j inst stands in
      ap (λ (i : Instruction). is_phi i.op) from.is_written
      ∙ before_passes is_phi b later j from.piece refl
      (λ k line less at. prefix_passes (λ (l : Line). is_phi l.inst.op) (lines_at func b) k line (omega arith) at)
      (λ k i line piece less at call there. absurd (true≢false (sym (prefix_passes (λ (l : Line). is_phi l.inst.op) (lines_at func b) k line (omega arith) at) ∙ phi_no_call line.inst.op call)))
      from.from below
    where
      phi_no_call : (op : Op) → is_call op ≡ true → is_phi op ≡ false
      phi_no_call ops.Phi call = absurd cc
      phi_no_call op call = refl

  joins_before : (b j i v : ℕ) (inst : Instruction) → slice_get (joined_at func naming b) j ≡ Some v → i < j → Stands after b i inst → is_phi inst.op ≡ true
  joins_before b j i v inst at below stands =
      let within = slice_get_within (joined_at func naming b) j v at in
      phis_before b 0 i inst (omega arith) stands (omega arith)

  -- operands of renamed phis, label by label
  abbrev both : Option BlockId → Option Operand → Option Operand
  both (Some label) (Some o) = Some (renamed to (names_at_end func table naming label.0) o)
  both label o = None

  phi_get : (labels : List BlockId) (given : List Operand) (j : ℕ) → slice_get (phi_operands func table naming to labels given) j ≡ both (slice_get labels j) (slice_get given j)
  phi_get [] given j = refl
  phi_get (l ∷ labels) [] zero = refl
  phi_get (l ∷ labels) [] (suc j) = by (slice_get labels j)
    where
      by : (label : Option BlockId) → None ≡ both label None
      by None = refl
      by (Some label) = refl
  phi_get (l ∷ labels) (o ∷ given) zero = refl
  phi_get (l ∷ labels) (o ∷ given) (suc j) = phi_get labels given j

  stands_in : (b k : ℕ) (block : BasicBlock) (inst : Instruction) → slice_get after.blocks b ≡ Some block → slice_get block.insts k ≡ Some inst → Stands after b k inst
  stands_in b k block inst found at = record { block = block; in_function = found; in_block = at }

  plain_operands : (b k : ℕ) (line : Line) → is_phi line.inst.op ≡ true → (written (plain func table naming to b k line)).operands ≡ phi_operands func table naming to line.inst.labels line.inst.operands
  plain_operands b k line one = ap (λ t. if t then phi_operands func table naming to line.inst.labels line.inst.operands else map (renamed to (names_at func table naming b k)) line.inst.operands) one

  pub phis_now : PhisAreRight after
  phis_now b block before behind phi found whole one =
      let here : slice_get block.insts (length before) ≡ Some phi = ap (λ (insts : List Instruction). slice_get insts (length before)) whole ∙ get_middle before phi behind in
      by (phi_from b (length before) phi (stands_in b (length before) block phi found here) one)
    where
      there : (i : ℕ) (inst : Instruction) → slice_get before i ≡ Some inst → Stands after b i inst
      there i inst at = stands_in b i block inst found (ap (λ (insts : List Instruction). slice_get insts i) whole ∙ get_front before (phi ∷ behind) i inst at)

      entry_for : ℕ → Option BlockId → Option Operand
      entry_for v label = option_map (λ (p : ℕ). named (to (names_at_end func table naming p v))) (option_map (λ (l : BlockId). l.0) label)

      entry_at : (v j : ℕ) → slice_get (written (inserted_phi func table naming to b v)).operands j ≡ entry_for v (slice_get (preds_of (graph_of func) b) j)
      entry_at v j =
          slice_get-map (λ (p : ℕ). named (to (names_at_end func table naming p v))) (preds func b) j
          ∙ ap (option_map (λ (p : ℕ). named (to (names_at_end func table naming p v)))) (slice_get-map (λ (l : BlockId). l.0) (preds_of (graph_of func) b) j)

      by : PhiFrom b (length before) phi → PhiIsRight after b before phi
      by (inserted v at same) = record {
        first = all_pass (λ (inst : Instruction). is_phi inst.op) before (λ i inst in_front.
            joins_before b (length before) i v inst at (slice_get_within before i inst in_front) (there i inst in_front));
        counted = λ from.
            ap (λ (inst : Instruction). count_of from inst.labels) same ∙ (preds_counted func b from ∙ sym (edges_same func after (graph_now func table naming) from b));
        agree = λ j k labels.
            let own_labels : slice_get (preds_of (graph_of func) b) j ≡ slice_get (preds_of (graph_of func) b) k =
            ap (λ (inst : Instruction). slice_get inst.labels j) (sym same) ∙ (labels ∙ ap (λ (inst : Instruction). slice_get inst.labels k) same) in
            ap (λ (inst : Instruction). slice_get inst.operands j) same
            ∙ (entry_at v j ∙ (ap (entry_for v) own_labels ∙ (sym (entry_at v k) ∙ ap (λ (inst : Instruction). slice_get inst.operands k) (sym same))));
      }
      by (own_phi k line at line_one place same) =
          let right = (phi_right func phis b k line.inst (line_from func b k line at).stands line_one).1 in
          let below = shape.phis b k line at line_one in
          record {
            first = all_pass (λ (inst : Instruction). is_phi inst.op) before (λ i inst in_front.
                phis_before b k i inst (omega arith) (there i inst in_front) (let within = slice_get_within before i inst in_front in omega arith));
            counted = λ from. ap (λ (inst : Instruction). count_of from inst.labels) same ∙ (right.counted from ∙ sym (edges_same func after (graph_now func table naming) from b));
            agree = λ j i labels.
                let own_labels : slice_get line.inst.labels j ≡ slice_get line.inst.labels i =
                ap (λ (inst : Instruction). slice_get inst.labels j) (sym same) ∙ (labels ∙ ap (λ (inst : Instruction). slice_get inst.labels i) same) in
                let given = ap (λ (inst : Instruction). inst.operands) same ∙ plain_operands b k line line_one in
                ap (λ (all : List Operand). slice_get all j) given
                ∙ (phi_get line.inst.labels line.inst.operands j
                ∙ (ap (λ (label : Option BlockId). both label (slice_get line.inst.operands j)) own_labels
                ∙ (ap (both (slice_get line.inst.labels i)) (right.agree j i own_labels)
                ∙ (sym (phi_get line.inst.labels line.inst.operands i) ∙ ap (λ (all : List Operand). slice_get all i) (sym given)))));
          }

  -- ---- terminators

  call_goes_on : (op : Op) → is_terminator op ≡ true → is_call op ≡ false
  call_goes_on ops.Br ends = refl
  call_goes_on ops.CondBr ends = refl
  call_goes_on ops.Switch ends = refl
  call_goes_on ops.Ret ends = refl
  call_goes_on ops.Unreachable ends = refl
  call_goes_on op ends = absurd cc

  goes_on_before : (b k last : ℕ) (line end : Line) → k < last → slice_get (lines_at func b) k ≡ Some line → slice_get (lines_at func b) last ≡ Some end → not (is_terminator line.inst.op) ≡ true
  goes_on_before b k last line end less at end_at = by (is_terminator line.inst.op) refl
    where
      by : (t : Bool) → is_terminator line.inst.op ≡ t → not t ≡ true
      by false other_op = refl
      by true ends =
          let one = (shape.last b k line at ends).0 in
          let within = slice_get_within (lines_at func b) last end end_at in
          absurd (omega arith)

  pub ends_now : (b : ℕ) (block : BasicBlock) → All (λ (each : BasicBlock). EndsAtTerminator each.insts) func.blocks → slice_get after.blocks b ≡ Some block → EndsAtTerminator block.insts
  ends_now b block ends found =
      let here = block_now func table naming b block found in
      let ended = all_at (λ (each : BasicBlock). EndsAtTerminator each.insts) func.blocks b here.own ends here.stands in
      let last = length ended.before in
      let inst_at : slice_get (here.own).insts last ≡ Some ended.last = ap (λ (insts : List Instruction). slice_get insts last) ended.whole ∙ get_middle ended.before ended.last [] in
      let line = line_forth func b last ended.last (record { block = here.own; in_function = here.stands; in_block = inst_at }) in
      by here.own here.stands block (ap (λ (x : BasicBlock). x.insts) here.is) last line.0 line.1 (ap (λ (i : Instruction). is_terminator i.op) line.2 ∙ ended.ends)
    where
      by : (own_block : BasicBlock) → slice_get func.blocks b ≡ Some own_block → (block : BasicBlock) → block.insts ≡ insts_now func table naming b → (last : ℕ) (line : Line)
          → slice_get (lines_at func b) last ≡ Some line → is_terminator line.inst.op ≡ true → EndsAtTerminator block.insts
      by own_block in_function block is_now last line at ends_here =
          let count = (shape.last b last line at ends_here).0 in
          let all = cut func table naming to b last (omega arith) in
          let nothing : drop (suc last) (lines_at func b) ≡ [] = ap (λ n. drop n (lines_at func b)) count ∙ drop_whole (lines_at func b) in
          let one = one_piece func table naming to b last line line.inst.op (call_goes_on line.inst.op ends_here) in
          let whole : pieces func table naming b ≡ all.front ++ plain func table naming to b last line ∷ [] =
          all.whole
          ∙ ap (λ (rest : List Piece). all.front ++ rest)
          (ap (expanded func table naming to b last) (drop_from (lines_at func b) last line at)
          ∙ (ap (λ (lines : List Line). pieces_for func table naming to b last line ++ expanded func table naming to b (suc last) lines) nothing
          ∙ (append-nil (pieces_for func table naming to b last line) ∙ one))) in
          let long = all.long in
          record {
            before = map (piece_inst (text func table naming)) all.front;
            last = written (plain func table naming to b last line);
            whole = is_now ∙ (ap (map (piece_inst (text func table naming))) whole ∙ map-append (piece_inst (text func table naming)) all.front (plain func table naming to b last line ∷ []));
            ends = ends_here;
            inside = all_pass (λ (inst : Instruction). not (is_terminator inst.op)) (map (piece_inst (text func table naming)) all.front) (λ j inst in_front.
                let back = map_back (piece_inst (text func table naming)) all.front j inst in_front in
                let there = ap (λ (ps : List Piece). slice_get ps j) whole ∙ get_front all.front (plain func table naming to b last line ∷ []) j back.before back.stands in
                let within = slice_get_within all.front j back.before back.stands in
                ap (λ (i : Instruction). not (is_terminator i.op)) back.is
                ∙ before_passes (λ (op : Op). not (is_terminator op)) b last j back.before refl
                (λ k earlier_line less earlier_at. goes_on_before b k last earlier_line line less earlier_at at)
                (λ k i earlier_line piece less earlier_at call found. group_passes (λ (op : Op). not (is_terminator op)) (λ callee types. refl) refl refl b k i earlier_line piece call found)
                (piece_from func table naming to b j back.before there) (omega arith));
          }
