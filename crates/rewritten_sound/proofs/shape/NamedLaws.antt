-- A name of the text has the type of its value: in the rewritten function the value with its number has.
use Rattle.std.proofs.Common.{◌≡◌, ℕ, zero, suc, ◌+◌, ◌<◌, ◌≤◌, Bool, true, false, not, ◌&&◌, if◌then◌else◌, List, [], ◌∷◌, ◌++◌, length, map, take, refl, sym, ap, subst, ◌∙◌, inl, inr, arith}
use Rattle.std.specs.Prelude.{Option, Some, None, is_some, filter, slice_get}
use Rattle.std.specs.List.{Contains, range_with_len}
use Rattle.std.specs.Option.{option_map, option_map_or}
use Rattle.std.proofs.lemmas.Bool.{and_from, and_parts, cases_lt, false≢true}
use Rattle.std.proofs.lemmas.List.{get_or_past, length-append}
use Rattle.std.proofs.lemmas.Option.{slice_get_within}
use Rattle.list_laws.proofs.Contents.{contains_image}
use Rattle.list_laws.proofs.Places.{get_front, get_map, get_some, map_back, get_joined}
use Rattle.ir_ast.specs.declared.funcs.Arg.{Arg}
use Rattle.ir_ast.specs.declared.types.Ty.{Ty}
use Rattle.ir_ast.specs.declared.types.Ty.TheVariants.{Ptr, Token}
use Rattle.ir_ast.specs.declared.ops.Callee.{Callee}
use Rattle.ir_ast.specs.declared.ops.Op.{Op}
use Rattle.ir_ast.specs.declared.ops.Operand.{Operand}
use Rattle.ir_ast.specs.Types.{is_pointer}
use Rattle.ir_ast.specs.Insts.{Instruction}
use Rattle.ir_ast.specs.Blocks.{BasicBlock}
use Rattle.ir_ast.specs.Funcs.{Function, instructions_of}
use Rattle.ir_ast.specs.Values.{Definition, argument, definition_type, definitions_of, outcome, outcome_type, value_types}
use Rattle.ir_ast.specs.Faults.GroupShape.{number_at}
use Rattle.ir_cfg.specs.DefiniteUses.{Defines, Stands}
use Rattle.object_meaning.specs.Lines.{Line}
use Rattle.phi_webs.specs.Webs.{Phi}
use Rattle.phi_webs.specs.Becomes.{becomes}
use Rattle.phi_webs.proofs.BecomesLaws.{becomes_is_removal}
use Rattle.phi_webs.proofs.RemovalLaws.{settles_at_once}
use Rattle.rewriting_forms.specs.Numbered.{among, calls, gives, line_at, lines_at, no_line, pointers, preds}
use Rattle.rewriting_forms.specs.Liveness.{is_live_after, live_list}
use Rattle.rewriting_forms.specs.Names as forms
use Rattle.rewriting_forms.specs.Names.{Name, Names, Naming, arriving, front_within, full_naming, joins_of, least_naming, names_at, names_at_end, names_from, naming_of, own, phi_at, phis_of, same_name}
use Rattle.rewriting_forms.specs.Rewritten.{Piece, expanded, group, inserted_phi, joined_at, piece_inst, plain, relocate_of, statepoint}
use Rattle.rewriting_laws.specs.Laws.{IsNumbering, owner_of}
use Rattle.rewriting_laws.proofs.JumpLemmas.{one_piece}
use Rattle.rewriting_laws.proofs.NameTests.{tells_names}
use Rattle.rewriting_laws.proofs.RemovalLaws.{in_web, join_inside, join_pointer, stays_true}
use Rattle.rewriting_laws.proofs.NameLemmas.{among_filter, call_or_not, filter_among, is_none, is_one, line_is}
use Rattle.base_laws.proofs.TypeLaws.{type_of_given}
use Rattle.base_definite.proofs.base_paths.GivesLaws.{defines_gives, stands_one}
use Rattle.base_definite.proofs.base_relations.GroupLaws.{given_at}
use Rattle.base_definite.proofs.LinePlaces.{line_from}
use Rattle.rewritten_sound.proofs.definite.LineLaws.{defines_given, given_defines}
use Rattle.rewritten_sound.proofs.definite.NowLaws.{block_forth, defines_piece, insts_now, now, number, pieces, text}
use Rattle.rewritten_sound.proofs.definite.PieceLaws.{among_at, call_pieces, offset, piece_at, pieces_for, relocate_at, result_at, result_piece}
use Rattle.object_meaning.proofs.LineLaws.{given_is}

-- a pointer's type
pointer_type : (ty : Option Ty) → option_map_or is_pointer ty false ≡ true → ty ≡ Some Ptr
pointer_type None is = absurd (false≢true is)
pointer_type (Some Ptr) is = refl
pointer_type (Some ty) is = absurd cc

pub pointer_is : (func : Function) (v : ℕ) → among v (pointers func) ≡ true → slice_get (value_types func) v ≡ Some Ptr
pointer_is func v is =
    pointer_type (slice_get (value_types func) v)
    (among_filter (λ (x : ℕ). option_map_or is_pointer (slice_get (value_types func) x) false) v (range_with_len 0 (length (value_types func))) is).1

pub listed_pointer : (func : Function) (table : List Operand) (b k v : ℕ) → among v (live_list func table b k) ≡ true → among v (pointers func) ≡ true
listed_pointer func table b k v listed = (among_filter (λ (x : ℕ). is_live_after func table b k x && not (gives (line_at func b k) x)) v (pointers func) listed).0

-- the block and place of an instruction of the text
pub text_back : (blocks : List BasicBlock) (place : ℕ) (inst : Instruction) → slice_get (instructions_of blocks) place ≡ Some inst
    → (b : ℕ) × (k : ℕ) × (block : BasicBlock) × (slice_get blocks b ≡ Some block) × (slice_get block.insts k ≡ Some inst) × (length (instructions_of (take b blocks)) + k ≡ place)
text_back [] place inst at = absurd cc
text_back (block ∷ blocks) place inst at = elim (get_joined block.insts (instructions_of blocks) place inst at) [
  | inl here ↦ (0, place, block, refl, here, omega arith)
  | inr there ↦
      let rest = text_back blocks there.0 inst there.2 in
      let sum = there.1 in
      let more = rest.5 in
      let long = length-append block.insts (instructions_of (take rest.0 blocks)) in
      (suc rest.0, rest.1, rest.2, rest.3, rest.4, omega arith)
]

no_argument : (args : List Arg) (insts : List Instruction) (v : ℕ) (arg : Arg) → length args ≤ v → slice_get (map argument args ++ map outcome insts) v ≡ Some (argument arg) → ⊥
no_argument [] insts v arg high at =
    let before = map_back outcome insts v (argument arg) at in
    let is = before.is in
    cc
no_argument (first ∷ args) insts zero arg high at = omega arith
no_argument (first ∷ args) insts (suc v) arg high at = no_argument args insts v arg (omega arith) at

-- each value that is no argument is given by a line
pub given_line : (func : Function) (v : ℕ) → length func.args ≤ v → v < length (definitions_of func) → (b : ℕ) × (k : ℕ) × (line : Line) × (slice_get (lines_at func b) k ≡ Some line) × (line.to ≡ Some v)
given_line func v high below =
    let given = get_some (definitions_of func) v below in
    by given.0 given.1
  where
    by : (given : Definition) → slice_get (definitions_of func) v ≡ Some given → (b : ℕ) × (k : ℕ) × (line : Line) × (slice_get (lines_at func b) k ≡ Some line) × (line.to ≡ Some v)
    by (argument arg) at = absurd (no_argument func.args (filter (λ inst. is_some inst.result) (instructions_of func.blocks)) v arg high at)
    by (outcome inst) at =
        let place = given_at func v inst at in
        let there = text_back func.blocks place.place inst place.stands in
        let defines : Defines func v there.0 there.1 = record {
          inst = inst;
          stands = record { block = there.2; in_function = there.3; in_block = there.4 };
          named = place.named;
          numbered = ap (number_at func) there.5 ∙ place.number;
        } in
        let line = defines_given func v there.0 there.1 defines in
        (there.0, there.1, line.0, line.1, line.2)

module _ (func : Function) (table : List Operand) (naming : Naming) where
  -- a name that some line of the text gives, or an argument's
  pub data InText : Name → Type 0 where
    an_argument : (v : ℕ) → v < length func.args → InText (own v)
    a_result : (b k v : ℕ) (line : Line) → slice_get (lines_at func b) k ≡ Some line → line.to ≡ Some v → InText (own v)
    a_relocate : (b k v : ℕ) (line : Line) → slice_get (lines_at func b) k ≡ Some line → calls line ≡ true → among v (live_list func table b k) ≡ true → InText (forms.relocated b k v)
    a_join : (b v : ℕ) → b < length func.blocks → among v (pointers func) ≡ true → naming.joins b v ≡ true → InText (forms.joined b v)
    a_token : (b k : ℕ) (line : Line) → slice_get (lines_at func b) k ≡ Some line → calls line ≡ true → InText (forms.token b k)

  abbrev pub type_of : Name → Option Ty
  type_of (own v) = slice_get (value_types func) v
  type_of (forms.relocated b k v) = Some Ptr
  type_of (forms.joined b v) = Some Ptr
  type_of (forms.token b k) = Some Token

  abbrev to : Name → ℕ
  to = number func table naming

  -- what the line of a name gives
  piece_type : (b j : ℕ) (own_block : BasicBlock) (piece : Piece) (name : Name) → slice_get func.blocks b ≡ Some own_block → slice_get (pieces func table naming b) j ≡ Some piece → piece.name ≡ Some name
      → slice_get (value_types (now func table naming)) (to name) ≡ Some (outcome_type piece.inst.op piece.inst.ty)
  piece_type b j own_block piece name found at named =
      let defines = defines_piece func table naming b j (to name) own_block piece name found at named refl in
      let gives = defines_gives (now func table naming) (to name) b j defines in
      let stands : Stands (now func table naming) b j (piece_inst (text func table naming) piece) = record {
        block = record { name = own_block.name; insts = insts_now func table naming b };
        in_function = block_forth func table naming b own_block found;
        in_block = get_map (piece_inst (text func table naming)) (pieces func table naming b) j piece at;
      } in
      let same = stands_one (now func table naming) b j defines.inst (piece_inst (text func table naming) piece) defines.stands stands in
      type_of_given (now func table naming) (to name) (outcome defines.inst) gives
      ∙ ap (λ (inst : Instruction). Some (outcome_type inst.op inst.ty)) same

  line_block : (b k : ℕ) (line : Line) → slice_get (lines_at func b) k ≡ Some line → (own_block : BasicBlock) × (slice_get func.blocks b ≡ Some own_block)
  line_block b k line at = let from = (line_from func b k line at).stands in (from.block, from.in_function)

  -- a piece for a line, at a place of its pieces
  line_piece_type : (b k i : ℕ) (line : Line) (piece : Piece) (name : Name) → slice_get (lines_at func b) k ≡ Some line → slice_get (pieces_for func table naming to b k line) i ≡ Some piece
      → piece.name ≡ Some name → slice_get (value_types (now func table naming)) (to name) ≡ Some (outcome_type piece.inst.op piece.inst.ty)
  line_piece_type b k i line piece name at is named =
      let block = line_block b k line at in
      piece_type b (offset func table naming to b k + i) block.0 piece name block.1 (piece_at func table naming to b k i line piece at is) named

  -- the type of a result before
  result_type : (b k v : ℕ) (line : Line) → slice_get (lines_at func b) k ≡ Some line → line.to ≡ Some v → slice_get (value_types func) v ≡ Some (outcome_type line.inst.op line.inst.ty)
  result_type b k v line at is =
      let defines = given_defines func v b k line at is in
      let same = stands_one func b k defines.inst line.inst defines.stands (line_from func b k line at).stands in
      type_of_given func v (outcome defines.inst) (defines_gives func v b k defines) ∙ ap (λ (inst : Instruction). Some (outcome_type inst.op inst.ty)) same

  module _ (room : ℕ) (numbers : IsNumbering func table naming.joins (number func table naming) room) where
    argument_type : (v : ℕ) → v < length func.args → slice_get (value_types (now func table naming)) (to (own v)) ≡ slice_get (value_types func) v
    argument_type v below =
        let one = get_some func.args v below in
        let first = get_front (map argument func.args) (map outcome (filter (λ inst. is_some inst.result) (instructions_of func.blocks))) v (argument one.0) (get_map argument func.args v one.0 one.1) in
        let second = get_front (map argument func.args) (map outcome (filter (λ inst. is_some inst.result) (instructions_of (now func table naming).blocks))) v (argument one.0) (get_map argument func.args v one.0 one.1) in
        ap (slice_get (value_types (now func table naming))) (numbers.arguments v below)
        ∙ (type_of_given (now func table naming) v (argument one.0) second ∙ sym (type_of_given func v (argument one.0) first))

    own_type : (b k v : ℕ) (line : Line) → slice_get (lines_at func b) k ≡ Some line → line.to ≡ Some v → slice_get (value_types (now func table naming)) (to (own v)) ≡ slice_get (value_types func) v
    own_type b k v line at is = elim (call_or_not line.inst.op) [
      | is_none other ↦
          line_piece_type b k 0 line (plain func table naming to b k line) (own v) at
          (ap (λ (ps : List Piece). slice_get ps 0) (one_piece func table naming to b k line line.inst.op other)) (ap (option_map own) is)
          ∙ sym (result_type b k v line at is)
      | is_one callee types op other ↦
          line_piece_type b k 1 line (result_piece func table naming to b k line v) (own v) at
          (ap (λ (ps : List Piece). slice_get ps 1) (call_pieces func table naming to b k line callee types false op other) ∙ result_at func table naming to b k line v is) refl
          ∙ sym (result_type b k v line at is ∙ ap (λ (o : Op). Some (outcome_type o line.inst.ty)) op)
    ]

    group_at : (b k : ℕ) (line : Line) → calls line ≡ true → (callee : Callee) × (types : List Ty)
        × (pieces_for func table naming to b k line ≡ statepoint func table naming to b k callee types line.inst ∷ group func table naming to b k line)
    group_at b k line call = elim (call_or_not line.inst.op) [
      | is_none other ↦ absurd (false≢true (sym other ∙ call))
      | is_one callee types op other ↦ (callee, types, call_pieces func table naming to b k line callee types false op other)
    ]

    -- each name of the text has its type there
    pub name_type : (name : Name) → InText name → slice_get (value_types (now func table naming)) (to name) ≡ type_of name
    name_type _ (an_argument v below) = argument_type v below
    name_type _ (a_result b k v line at is) = own_type b k v line at is
    name_type _ (a_relocate b k v line at call listed) =
        let whole = group_at b k line call in
        let member = relocate_at func table naming to b k line v listed in
        line_piece_type b k (suc member.0) line (relocate_of func table naming to b k v) (forms.relocated b k v) at (ap (λ (ps : List Piece). slice_get ps (suc member.0)) whole.2 ∙ member.1) refl
    name_type _ (a_join b v below pointer joins) =
        let block = get_some func.blocks b below in
        let place = among_at v (joined_at func naming b) (filter_among (naming.joins b) v (pointers func) pointer joins) in
        piece_type b place.0 block.0 (inserted_phi func table naming to b v) (forms.joined b v) block.1
        (get_front (map (inserted_phi func table naming to b) (joined_at func naming b)) (expanded func table naming to b 0 (lines_at func b)) place.0 (inserted_phi func table naming to b v)
        (get_map (inserted_phi func table naming to b) (joined_at func naming b) place.0 v place.1)) refl
    name_type _ (a_token b k line at call) =
        let whole = group_at b k line call in
        line_piece_type b k 0 line (statepoint func table naming to b k whole.0 whole.1 line.inst) (forms.token b k) at (ap (λ (ps : List Piece). slice_get ps 0) whole.2) refl

  -- the type of a name is that of its value
  pub owner_type : (name : Name) (v : ℕ) → InText name → owner_of name ≡ Some v → type_of name ≡ slice_get (value_types func) v
  owner_type _ v (an_argument w below) is = let same : w ≡ v = cc in ap (slice_get (value_types func)) same
  owner_type _ v (a_result b k w line at to_is) is = let same : w ≡ v = cc in ap (slice_get (value_types func)) same
  owner_type _ v (a_relocate b k w line at call listed) is =
      let same : w ≡ v = cc in
      sym (pointer_is func w (listed_pointer func table b k w listed)) ∙ ap (slice_get (value_types func)) same
  owner_type _ v (a_join b w below pointer joins) is = let same : w ≡ v = cc in sym (pointer_is func w pointer) ∙ ap (slice_get (value_types func)) same
  owner_type _ v (a_token b k line at call) is = absurd cc

  -- ---- names at places stand in the text

  pub own_in_text : (v : ℕ) → v < length (definitions_of func) → InText (own v)
  own_in_text v below = elim (cases_lt v (length func.args)) [
    | inl early ↦ an_argument v early
    | inr late ↦ let line = given_line func v late below in a_result line.0 line.1 v line.2 line.3 line.4
  ]

  stands_there : (b k : ℕ) (t : Line → Bool) → t no_line ≡ false → t (line_at func b k) ≡ true → (line : Line) × (slice_get (lines_at func b) k ≡ Some line) × (t line ≡ true)
  stands_there b k t none is = elim (cases_lt k (length (lines_at func b))) [
    | inl below ↦ let some = get_some (lines_at func b) k below in (some.0, some.1, ap t (sym (line_is func b k some.0 some.1)) ∙ is)
    | inr past ↦ absurd (false≢true (sym none ∙ (ap t (sym (get_or_past (lines_at func b) k no_line past)) ∙ is)))
  ]

  pub names_in_text : (b : ℕ) (names : Names) (v k : ℕ) → InText (names v) → InText (names_from func table b names k v)
  names_in_text b names v zero before = before
  names_in_text b names v (suc k) before =
      by (gives (line_at func b k) v) refl (calls (line_at func b k) && among v (live_list func table b k)) refl (names_in_text b names v k before)
    where
      by : (s : Bool) → gives (line_at func b k) v ≡ s → (t : Bool) → (calls (line_at func b k) && among v (live_list func table b k)) ≡ t → InText (names_from func table b names k v)
          → InText (if s then own v else (if t then forms.relocated b k v else names_from func table b names k v))
      by true given t listed rest =
          let there = stands_there b k (λ (line : Line). gives line v) refl given in
          a_result b k v there.0 there.1 (given_is (there.0).to v there.2)
      by false kept true listed rest =
          let parts = and_parts (calls (line_at func b k)) (among v (live_list func table b k)) listed in
          let there = stands_there b k calls refl parts.0 in
          a_relocate b k v there.0 there.1 there.2 parts.1
      by false kept false unlisted rest = rest

-- ---- the naming before any inserted phi is removed

module _ (func : Function) (table : List Operand) where
  arrives : (v : ℕ) → v < length (definitions_of func) → (ps : List ℕ) (at_end : ℕ → Names) → ((p : ℕ) → InText func table (full_naming func table) (at_end p v))
      → InText func table (full_naming func table) (arriving ps at_end v)
  arrives v below [] at_end each = own_in_text func table (full_naming func table) v below
  arrives v below (p ∷ []) at_end each = each p
  arrives v below (p ∷ q ∷ ps) at_end each = own_in_text func table (full_naming func table) v below

  joined_in_text : (b v : ℕ) → joins_of func table b v ≡ true → InText func table (full_naming func table) (forms.joined b v)
  joined_in_text b v joins = a_join b v (join_inside func table b v joins) (join_pointer func table b v joins) joins

  -- the fronts of the naming stand in the text
  front_in_text : (bound b v : ℕ) → v < length (definitions_of func) → InText func table (full_naming func table) (front_within func table (joins_of func table) bound b v)
  front_in_text zero b v below = by (joins_of func table b v) refl
    where
      by : (t : Bool) → joins_of func table b v ≡ t → InText func table (full_naming func table) (if t then forms.joined b v else own v)
      by true joins = joined_in_text b v joins
      by false apart = own_in_text func table (full_naming func table) v below
  front_in_text (suc bound) b v below =
      by (joins_of func table b v) refl
      (arrives v below (preds func b) (λ p. names_from func table p (front_within func table (joins_of func table) bound p) (length (lines_at func p)))
      (λ p. names_in_text func table (full_naming func table) p (front_within func table (joins_of func table) bound p) v (length (lines_at func p)) (front_in_text bound p v below)))
    where
      by : (t : Bool) → joins_of func table b v ≡ t
          → InText func table (full_naming func table) (arriving (preds func b) (λ p. names_from func table p (front_within func table (joins_of func table) bound p) (length (lines_at func p))) v)
          → InText func table (full_naming func table)
          (if t then forms.joined b v else arriving (preds func b) (λ p. names_from func table p (front_within func table (joins_of func table) bound p) (length (lines_at func p))) v)
      by true joins rest = joined_in_text b v joins
      by false apart rest = rest

  -- ---- what is left

  abbrev left : Name → Name
  left = becomes same_name (phis_of func table)

  pointer_below : (v : ℕ) → among v (pointers func) ≡ true → v < length (definitions_of func)
  pointer_below v pointer =
      let given = map_back definition_type (definitions_of func) v Ptr (pointer_is func v pointer) in
      slice_get_within (definitions_of func) v given.before given.stands

  operand_in_text : (phi : Phi Name) → Contains (phis_of func table) phi → (o : Name) → Contains phi.operands o → InText func table (full_naming func table) o
  operand_in_text phi has o operand =
      let at = in_web func table (full_naming func table) phi has in
      let there : Contains (phi_at func table (full_naming func table) at.b at.v).operands o = subst (λ (p : Phi Name). Contains p.operands o) at.is operand in
      let from = contains_image (λ p. names_at_end func table (full_naming func table) p at.v) (preds func at.b) o there in
      let below = pointer_below at.v (join_pointer func table at.b at.v at.joins) in
      subst (InText func table (full_naming func table)) from.is
      (names_in_text func table (full_naming func table) from.of ((full_naming func table).front from.of) at.v (length (lines_at func from.of))
      (front_in_text (suc (length func.blocks)) from.of at.v below))

  -- a name of the text that stays is one of the text of what is left
  stays_in_text : (name : Name) → InText func table (full_naming func table) name → left name ≡ name → InText func table (least_naming func table) name
  stays_in_text _ (an_argument v below) stays = an_argument v below
  stays_in_text _ (a_result b k v line at gives) stays = a_result b k v line at gives
  stays_in_text _ (a_relocate b k v line at call listed) stays = a_relocate b k v line at call listed
  stays_in_text _ (a_join b v below pointer joins) stays =
      a_join b v below pointer
      (and_from (joins_of func table b v) (same_name (forms.joined b v) (left (forms.joined b v))) joins ((tells_names (forms.joined b v) (left (forms.joined b v))).1 (sym stays)))
  stays_in_text _ (a_token b k line at call) stays = a_token b k line at call

  left_in_text : (name : Name) → InText func table (full_naming func table) name → InText func table (least_naming func table) (left name)
  left_in_text name there =
      let removal = becomes_is_removal same_name tells_names (phis_of func table) in
      stays_in_text (left name) (stays_true same_name (phis_of func table) (InText func table (full_naming func table)) operand_in_text left removal name there)
      (settles_at_once same_name tells_names (phis_of func table) left removal name)

  pub least_in_text : (b v : ℕ) → v < length (definitions_of func) → InText func table (least_naming func table) ((least_naming func table).front b v)
  least_in_text b v below = left_in_text ((full_naming func table).front b v) (front_in_text (suc (length func.blocks)) b v below)

  pub naming_in_text : (b v : ℕ) → v < length (definitions_of func) → InText func table (naming_of func table) ((naming_of func table).front b v)
  naming_in_text = least_in_text
