-- The i-th result of a rewritten function has the number i: each name by its place.
use Rattle.std.proofs.Common.{◌≡◌, ℕ, zero, suc, ◌<◌, ◌+◌, Bool, true, false, if◌then◌else◌, List, [], ◌∷◌, ◌++◌, length, map, drop, refl, ap, sym, arith, Some, None, Option, slice_get, ◌∙◌, subst, append_assoc, append-nil as append_nil}
use Rattle.std.specs.Prelude.{slice_index}
use Rattle.std.specs.List.{flat_map, range_with_len}
use Rattle.std.specs.Option.{option_map, option_map_or}
use Rattle.std.proofs.lemmas.List.{length-append, length-map}
use Rattle.std.proofs.lemmas.List.FromFn.{length-range_with_len}
use Rattle.ir_ast.specs.declared.ops.Operand.{Operand}
use Rattle.ir_ast.specs.declared.ops.Op.{Op}
use Rattle.ir_ast.specs.Blocks.{BasicBlock}
use Rattle.ir_ast.specs.Funcs.{Function}
use Rattle.object_meaning.specs.Lines.{Line, after_all, first_registers, registers_of}
use Rattle.object_meaning.specs.TargetRuns.{plain_lines}
use Rattle.rewriting_forms.specs.Numbered.{lines_at, line_at, is_call, calls}
use Rattle.rewriting_forms.specs.Liveness.{live_list}
use Rattle.rewriting_forms.specs.Names.{Name, own, relocated, joined, token, Naming}
use Rattle.rewriting_laws.proofs.NameTests.{same_itself}
use Rattle.rewriting_forms.specs.Rewritten.{Piece, piece_inst, same_name, place_in, line_names, joined_at, block_names, names_of, inserted_phi, statepoint, result_of, relocate_of, group, plain as plain_piece, expanded_by, expanded, pieces_of, spelled, rewritten_blocks, rewritten_with}
use Rattle.rewriting_laws.specs.Related.{piece_line}
use Rattle.rewriting_laws.proofs.NameLemmas.{at_rest, line_is, is_one, is_none, call_or_not}
use Rattle.rewriting_laws.proofs.JumpLemmas.{one_piece}
use Rattle.list_laws.proofs.Places.{get_front}

-- the names that pieces give
abbrev given_names : Option Name → List Name
given_names None = []
given_names (Some name) = name ∷ []

abbrev pub piece_names : List Piece → List Name
piece_names [] = []
piece_names (piece ∷ pieces) = given_names piece.name ++ piece_names pieces

piece_names_append : (one other : List Piece) → piece_names (one ++ other) ≡ piece_names one ++ piece_names other
piece_names_append [] other = refl
piece_names_append (piece ∷ one) other =
    ap (λ (ns : List Name). given_names piece.name ++ ns) (piece_names_append one other) ∙ sym (append_assoc (given_names piece.name) (piece_names one) (piece_names other))

-- names whose numbers go up by one from here
abbrev pub Rising : (Name → ℕ) → ℕ → List Name → Type 0
Rising number from names = (i : ℕ) (name : Name) → slice_get names i ≡ Some name → number name ≡ from + i

rising_tail : (number : Name → ℕ) (from : ℕ) (name : Name) (names : List Name) → Rising number from (name ∷ names) → Rising number (from + 1) names
rising_tail number from name names rising i x is =
    let h = rising (suc i) x is in
    omega (arith, h)

abbrev pub AsLines : (Name → List ℕ) → (Name → ℕ) → ℕ → List Piece → Type 0
AsLines text number from pieces = (plain_lines from (map (piece_inst text) pieces) ≡ map (piece_line text number) pieces)
    × (after_all from (map (piece_inst text) pieces) ≡ from + length (piece_names pieces))

one_more : (text : Name → List ℕ) (number : Name → ℕ) (from : ℕ) (piece : Piece) (pieces : List Piece) (name : Option Name) → piece.name ≡ name
    → Rising number from (given_names name ++ piece_names pieces) → ((next : ℕ) → Rising number next (piece_names pieces) → AsLines text number next pieces)
    → AsLines text number from (piece ∷ pieces)
one_more text number from piece pieces None is rising rest =
    let tail = rest from rising in
    (rw (is, tail.0) refl, rw (is, tail.1) refl)
one_more text number from piece pieces (Some name) is rising rest =
    let tail = rest (from + 1) (rising_tail number from name (piece_names pieces) rising) in
    let first : number name ≡ from = (let h = rising 0 name refl in omega (arith, h)) in
    (rw (is, tail.0, first) refl, rw (is, tail.1) (omega arith))

-- pieces as lines of the text
pub pieces_as_lines : (text : Name → List ℕ) (number : Name → ℕ) (from : ℕ) (pieces : List Piece) → Rising number from (piece_names pieces)
    → AsLines text number from pieces
pieces_as_lines text number from [] rising = (refl, omega arith)
pieces_as_lines text number from (piece ∷ pieces) rising =
    one_more text number from piece pieces piece.name refl rising (λ next r. pieces_as_lines text number next pieces r)

-- a list of names of which no two are the same
abbrev pub Apart : List Name → Type 0
Apart names = (i j : ℕ) (one other : Name) → i < j → slice_get names i ≡ Some one → slice_get names j ≡ Some other → same_name one other ≡ false

-- the place of the i-th name is i
pub place_is : (names : List Name) → Apart names → (i : ℕ) (name : Name) → slice_get names i ≡ Some name → place_in names name ≡ i
place_is [] apart i name is = absurd (cc)
place_is (x ∷ names) apart zero name is =
    let e : x ≡ name = cc in
    ap (λ (t : Bool). if t then 0 else suc (place_in names name)) (ap (same_name x) (sym e) ∙ same_itself x)
place_is (x ∷ names) apart (suc i) name is =
    ap (λ (t : Bool). if t then 0 else suc (place_in names name)) (apart 0 (suc i) x name (omega arith) refl is)
    ∙ ap suc (place_is names (λ j k one other below one_is other_is. apart (suc j) (suc k) one other (omega arith) one_is other_is) i name is)

pub get_back : {A : Type 0} (xs ys : List A) (k : ℕ) (y : A) → slice_get ys k ≡ Some y → slice_get (xs ++ ys) (length xs + k) ≡ Some y
get_back [] ys k y is = let e : 0 + k ≡ k = omega arith in ap (λ (n : ℕ). slice_get ys n) e ∙ is
get_back (x ∷ xs) ys k y is =
    let e : suc (length xs) + k ≡ suc (length xs + k) = omega arith in
    ap (λ (n : ℕ). slice_get (x ∷ (xs ++ ys)) n) e ∙ get_back xs ys k y is

-- a part of the names in the middle
pub part_rises : (before part behind : List Name) → Apart (before ++ (part ++ behind)) → Rising (place_in (before ++ (part ++ behind))) (length before) part
part_rises before part behind apart i name is =
    place_is (before ++ (part ++ behind)) apart (length before + i) name (get_back before (part ++ behind) i name (get_front part behind i name is))

module _ (func : Function) (table : List Operand) (naming : Naming) (number : Name → ℕ) where
  relocate_names : (b k : ℕ) (vs : List ℕ) → piece_names (map (relocate_of func table naming number b k) vs) ≡ map (relocated b k) vs
  relocate_names b k [] = refl
  relocate_names b k (v ∷ vs) = ap (λ (ns : List Name). relocated b k v ∷ ns) (relocate_names b k vs)

  result_names : (b k : ℕ) (line : Line) (to : Option ℕ) → piece_names (result_of func table naming number b k line to) ≡ option_map_or (λ (x : ℕ). own x ∷ []) to []
  result_names b k line None = refl
  result_names b k line (Some x) = refl

  inserted_names : (b : ℕ) (vs : List ℕ) → piece_names (map (inserted_phi func table naming number b) vs) ≡ map (joined b) vs
  inserted_names b [] = refl
  inserted_names b (v ∷ vs) = ap (λ (ns : List Name). joined b v ∷ ns) (inserted_names b vs)

  plain_names : (to : Option ℕ) → given_names (option_map own to) ≡ option_map_or (λ (x : ℕ). own x ∷ []) to []
  plain_names None = refl
  plain_names (Some x) = refl

  line_given : (b k : ℕ) (line : Line) → slice_get (lines_at func b) k ≡ Some line
      → piece_names (expanded_by func table naming number b k line line.inst.op) ≡ line_names func table b k
  line_given b k line stands = elim (call_or_not line.inst.op) [
    | is_none plain ↦
        let here : calls (line_at func b k) ≡ false = ap (λ (l : Line). calls l) (line_is func b k line stands) ∙ plain in
        ap piece_names (one_piece func table naming number b k line line.inst.op plain)
        ∙ append_nil (given_names (option_map own line.to)) ∙ plain_names line.to
        ∙ ap (λ (l : Line). option_map_or (λ (x : ℕ). own x ∷ []) l.to []) (sym (line_is func b k line stands))
        ∙ sym (append_nil (option_map_or (λ (x : ℕ). own x ∷ []) (line_at func b k).to []))
        ∙ sym (ap (λ (t : Bool). (if t then token b k ∷ [] else []) ++ (option_map_or (λ (x : ℕ). own x ∷ []) (line_at func b k).to [] ++ (if t then map (relocated b k) (live_list func table b k) else []))) here)
    | is_one callee types e other ↦
        let here : calls (line_at func b k) ≡ true = ap (λ (l : Line). calls l) (line_is func b k line stands) ∙ ap is_call e ∙ rw other refl in
        ap (λ (op : Op). piece_names (expanded_by func table naming number b k line op)) e
        ∙ ap (λ (t : Bool). piece_names (if t then plain_piece func table naming number b k line ∷ []
        else statepoint func table naming number b k callee types line.inst ∷ group func table naming number b k line)) other
        ∙ ap (λ (ns : List Name). token b k ∷ ns)
        (piece_names_append (result_of func table naming number b k line line.to) (map (relocate_of func table naming number b k) (live_list func table b k))
        ∙ ap (λ (ns : List Name). ns ++ piece_names (map (relocate_of func table naming number b k) (live_list func table b k))) (result_names b k line line.to)
        ∙ ap (λ (ns : List Name). option_map_or (λ (x : ℕ). own x ∷ []) line.to [] ++ ns) (relocate_names b k (live_list func table b k)))
        ∙ ap (λ (l : Line). token b k ∷ (option_map_or (λ (x : ℕ). own x ∷ []) l.to [] ++ map (relocated b k) (live_list func table b k))) (sym (line_is func b k line stands))
        ∙ sym (ap (λ (t : Bool). (if t then token b k ∷ [] else []) ++ (option_map_or (λ (x : ℕ). own x ∷ []) (line_at func b k).to [] ++ (if t then map (relocated b k) (live_list func table b k) else []))) here)
  ]

  expanded_names : (b k : ℕ) (lines : List Line) → drop k (lines_at func b) ≡ lines
      → piece_names (expanded func table naming number b k lines) ≡ flat_map (line_names func table b) (range_with_len k (length lines))
  expanded_names b k [] place = refl
  expanded_names b k (line ∷ lines) place =
      let here = at_rest (lines_at func b) k line lines place in
      let e : suc k ≡ k + 1 = omega arith in
      piece_names_append (expanded_by func table naming number b k line line.inst.op) (expanded func table naming number b (suc k) lines)
      ∙ ap (λ (ns : List Name). ns ++ piece_names (expanded func table naming number b (suc k) lines)) (line_given b k line here.0)
      ∙ ap (λ (ns : List Name). line_names func table b k ++ ns) (expanded_names b (suc k) lines here.1 ∙ ap (λ (n : ℕ). flat_map (line_names func table b) (range_with_len n (length lines))) e)

  -- the pieces of a block give the block's names
  pub pieces_names : (b : ℕ) → piece_names (pieces_of func table naming number b) ≡ block_names func table naming b
  pieces_names b =
      piece_names_append (map (inserted_phi func table naming number b) (joined_at func naming b)) (expanded func table naming number b 0 (lines_at func b))
      ∙ ap (λ (ns : List Name). ns ++ piece_names (expanded func table naming number b 0 (lines_at func b))) (inserted_names b (joined_at func naming b))
      ∙ ap (λ (ns : List Name). map (joined b) (joined_at func naming b) ++ ns) (expanded_names b 0 (lines_at func b) refl)

module _ (func : Function) (table : List Operand) (naming : Naming) (names : List Name) (apart : Apart names) where
  abbrev number : Name → ℕ
  number = place_in names

  abbrev text : Name → List ℕ
  text = spelled func names

  -- one block, whose names stand in the middle of all
  pub block_lines : (before behind : List Name) (b : ℕ) → names ≡ before ++ (block_names func table naming b ++ behind)
      → AsLines (spelled func names) (place_in names) (length before) (pieces_of func table naming (place_in names) b)
  block_lines before behind b split =
      let rises : Rising (place_in names) (length before) (block_names func table naming b) =
      subst (λ (ns : List Name). Rising (place_in ns) (length before) (block_names func table naming b)) (sym split)
      (part_rises before (block_names func table naming b) behind (subst Apart split apart)) in
      pieces_as_lines (spelled func names) (place_in names) (length before) (pieces_of func table naming (place_in names) b)
      (subst (Rising (place_in names) (length before)) (sym (pieces_names func table naming (place_in names) b)) rises)

  -- the lines of a block of the text, as the target meaning numbers them
  pub lines_are : (before : List Name) (b : ℕ) (blocks : List BasicBlock) → names ≡ before ++ flat_map (block_names func table naming) (range_with_len b (length blocks))
      → (i : ℕ) (block : BasicBlock) → slice_get (rewritten_blocks func table naming names b blocks) i ≡ Some block
      → plain_lines (slice_index (first_registers (length before) (rewritten_blocks func table naming names b blocks)) i) block.insts
      ≡ map (piece_line (spelled func names) (place_in names)) (pieces_of func table naming (place_in names) (b + i))
  lines_are before b [] split i block is = absurd (cc)
  lines_are before b (first ∷ blocks) split zero block is =
      let e : b + 0 ≡ b = omega arith in
      let this : map (piece_inst (spelled func names)) (pieces_of func table naming (place_in names) b) ≡ block.insts = ap (λ (x : BasicBlock). x.insts) (same_block is) in
      ap (plain_lines (length before)) (sym this)
      ∙ (block_lines before (flat_map (block_names func table naming) (range_with_len (b + 1) (length blocks))) b split).0
      ∙ ap (λ (n : ℕ). map (piece_line (spelled func names) (place_in names)) (pieces_of func table naming (place_in names) n)) (sym e)
    where
      same_block : {x y : BasicBlock} → Some x ≡ Some y → x ≡ y
      same_block e = cc
  lines_are before b (first ∷ blocks) split (suc i) block is =
      let e : b + suc i ≡ (b + 1) + i = omega arith in
      let one : suc b ≡ b + 1 = omega arith in
      let rest = flat_map (block_names func table naming) (range_with_len (b + 1) (length blocks)) in
      let this = block_lines before rest b split in
      let longer : length (before ++ block_names func table naming b) ≡ after_all (length before) (map (piece_inst (spelled func names)) (pieces_of func table naming (place_in names) b)) =
      length-append before (block_names func table naming b) ∙ ap (λ (ns : List Name). length before + length ns) (sym (pieces_names func table naming (place_in names) b)) ∙ sym this.1 in
      let further = lines_are (before ++ block_names func table naming b) (b + 1) blocks (split ∙ sym (append_assoc before (block_names func table naming b) rest)) i block
      (ap (λ (n : ℕ). slice_get (rewritten_blocks func table naming names n blocks) i) (sym one) ∙ is) in
      ap (λ (n : ℕ). plain_lines (slice_index (first_registers (after_all (length before) (map (piece_inst (spelled func names)) (pieces_of func table naming (place_in names) b))) (rewritten_blocks func table naming names n blocks)) i) block.insts) one
      ∙ ap (λ (n : ℕ). plain_lines (slice_index (first_registers n (rewritten_blocks func table naming names (b + 1) blocks)) i) block.insts) (sym longer)
      ∙ further
      ∙ ap (λ (n : ℕ). map (piece_line (spelled func names) (place_in names)) (pieces_of func table naming (place_in names) n)) (sym e)

-- where the names of the whole text are apart, its lines are those of the rewriting, each result in the register of its name
pub text_lines : (func : Function) (table : List Operand) (naming : Naming) → Apart (names_of func table naming)
    → (b : ℕ) (block : BasicBlock) → slice_get (rewritten_with func table naming).blocks b ≡ Some block
    → plain_lines (slice_index (registers_of (rewritten_with func table naming)) b) block.insts
    ≡ map (piece_line (spelled func (names_of func table naming)) (place_in (names_of func table naming))) (pieces_of func table naming (place_in (names_of func table naming)) b)
text_lines func table naming apart b block is =
    let z : 0 + b ≡ b = omega arith in
    let args = map own (range_with_len 0 (length func.args)) in
    let count : length args ≡ length func.args = length-map (range_with_len 0 (length func.args)) own ∙ length-range_with_len 0 (length func.args) in
    let all = lines_are func table naming (names_of func table naming) apart args 0 func.blocks refl b block is in
    ap (λ (n : ℕ). plain_lines (slice_index (first_registers n (rewritten_blocks func table naming (names_of func table naming) 0 func.blocks)) b) block.insts) (sym count)
    ∙ all
    ∙ ap (λ (n : ℕ). map (piece_line (spelled func (names_of func table naming)) (place_in (names_of func table naming))) (pieces_of func table naming (place_in (names_of func table naming)) n)) z
