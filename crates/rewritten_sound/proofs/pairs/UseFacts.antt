-- What a renamed line uses is what the line uses, renamed.
use Rattle.std.proofs.Common.{◌≡◌, ℕ, suc, ◌≤◌, true, false, List, [], ◌∷◌, ◌++◌, length, map, refl, sym, ap, subst, ◌∙◌, inl, inr, arith}
use Rattle.std.specs.Prelude.{Option, Some, slice_get}
use Rattle.std.specs.List.{Contains}
use Rattle.std.proofs.lemmas.Bool.{and_parts, false≢true, true≢false}
use Rattle.list_laws.proofs.Contents.{contains_cons, contains_first, contains_image, contains_later, contains_none, contains_one, get_contained}
use Rattle.sp_ids.specs.declared.ids.BlockId.{BlockId}
use Rattle.ir_ast.specs.declared.ops.Callee.{Callee}
use Rattle.ir_ast.specs.declared.ops.Callee.TheVariants as callees
use Rattle.ir_ast.specs.declared.ops.Op.{Op}
use Rattle.ir_ast.specs.declared.ops.Op.TheVariants as ops
use Rattle.ir_ast.specs.declared.ops.Operand.{Operand}
use Rattle.ir_ast.specs.declared.ops.Operand.TheVariants.{Int}
use Rattle.ir_ast.specs.declared.types.Ty.{Ty}
use Rattle.ir_ast.specs.declared.types.Ty.TheVariants as types
use Rattle.ir_ast.specs.Callees.{is_leaf}
use Rattle.ir_ast.specs.Cells.{kind_of}
use Rattle.ir_ast.specs.Insts.{Instruction}
use Rattle.object_meaning.specs.Accesses.{cell_of}
use Rattle.object_meaning.specs.Lines.{Line}
use Rattle.rewriting_forms.specs.Names.{Name, Names}
use Rattle.rewriting_forms.specs.Numbered.{named}
use Rattle.rewriting_forms.specs.Rewritten.{renamed}
use Rattle.pair_facts.specs.Lines.{operand_at, same_operand}
use Rattle.pair_facts.specs.Uses.{Use, accessed_at, checked, checks_access, compared, escaping, passed_to, pointers_of, use_at}
use Rattle.rewritten_sound.proofs.pairs.EdgeFacts.{operand_there}
use Rattle.rewritten_sound.proofs.pairs.HoldFacts.{operand_map}

-- an operand of these
abbrev pub StandsIn : List Operand → Operand → Type 0
StandsIn operands o = (v : ℕ) → o ≡ named v → (place : ℕ) × (slice_get operands place ≡ Some (named v))

at_stands : (operands : List Operand) (place : ℕ) → StandsIn operands (operand_at operands place)
at_stands operands place v is = (place, operand_there operands place v is)

pointers_in : (types : List Ty) (operands : List Operand) (o : Operand) → Contains (pointers_of types operands) o → Contains operands o
pointers_in [] operands o has = absurd (contains_none o has)
pointers_in (types.Ptr ∷ types) [] o has = absurd (contains_none o has)
pointers_in (type ∷ types) [] o has = absurd (contains_none o has)
pointers_in (types.Ptr ∷ types) (x ∷ operands) o has = elim (contains_cons x o (pointers_of types operands) has) [
  | inl same ↦ subst (Contains (x ∷ operands)) same (contains_first x operands)
  | inr more ↦ contains_later x o operands (pointers_in types operands o more)
]
pointers_in (type ∷ types) (x ∷ operands) o has = contains_later x o operands (pointers_in types operands o has)

pointers_past : (types : List Ty) (operands more : List Operand) → length types ≤ length operands → pointers_of types (operands ++ more) ≡ pointers_of types operands
pointers_past [] operands more within = refl
pointers_past (type ∷ types) [] more within = absurd (omega (arith, within))
pointers_past (types.Ptr ∷ types) (x ∷ operands) more within = ap (λ os. x ∷ os) (pointers_past types operands more (omega (arith, within)))
pointers_past (type ∷ types) (x ∷ operands) more within = pointers_past types operands more (omega (arith, within))

contained_stands : (operands : List Operand) (o : Operand) → Contains operands o → StandsIn operands o
contained_stands operands o has v is = let place = get_contained operands o has in (place.0, place.1 ∙ ap (λ o. Some o) is)

-- a stored or returned pointer
store_back : (result : Option (List ℕ)) (op : Op) (ty : Ty) (operands : List Operand) (labels : List BlockId) (bundle : List (Ty × Operand)) (now : Operand)
    → Contains (escaping ops.Store (record { result = result; op = op; ty = ty; operands = operands; labels = labels; bundle = bundle })) now → (ty ≡ types.Ptr) × (operand_at operands 0 ≡ now)
store_back result op types.Ptr operands labels bundle now has = (refl, contains_one (operand_at operands 0) now has)
store_back result op ty operands labels bundle now has = absurd (contains_none now has)

store_forth : (inst : Instruction) → inst.ty ≡ types.Ptr → Contains (escaping ops.Store inst) (operand_at inst.operands 0)
store_forth inst is = subst (λ (ty : Ty). Contains (escaping ops.Store (record inst { ty = ty })) (operand_at inst.operands 0)) (sym is) (contains_first (operand_at inst.operands 0) [])

module _ (to : Name → ℕ) (names : Names) where
  abbrev at : Operand → Operand
  at o = renamed to names o

  pointers_map : (types : List Ty) (operands : List Operand) → pointers_of types (map (renamed to names) operands) ≡ map (renamed to names) (pointers_of types operands)
  pointers_map [] operands = refl
  pointers_map (types.Ptr ∷ types) [] = refl
  pointers_map (type ∷ types) [] = refl
  pointers_map (types.Ptr ∷ types) (x ∷ operands) = ap (λ os. renamed to names x ∷ os) (pointers_map types operands)
  pointers_map (type ∷ types) (x ∷ operands) = pointers_map types operands

  -- an operand that escapes, before it was renamed
  pub record Escaped (op : Op) (inst : Instruction) (now : Operand) : Type 0 where
    pub operand : Operand
    pub escapes : Contains (escaping op inst) operand
    pub is : now ≡ renamed to names operand
    pub stands : StandsIn inst.operands operand

  passed_back : (callee : Callee) (types : List Ty) (operands more : List Operand) (now : Operand) → length types ≤ length operands
      → Contains (passed_to callee types (map (renamed to names) (operands ++ more))) now
      → (o : Operand) × Contains (passed_to callee types operands) o × (now ≡ renamed to names o) × StandsIn operands o
  passed_back callees.Check types operands more now within has = absurd (contains_none now has)
  passed_back callees.Same types operands more now within has = absurd (contains_none now has)
  passed_back callee types operands more now within has =
      let all = pointers_map types (operands ++ more) ∙ ap (map (renamed to names)) (pointers_past types operands more within) in
      let from = contains_image (renamed to names) (pointers_of types operands) now (subst (λ (os : List Operand). Contains os now) all has) in
      (from.of, from.inside, sym from.is, contained_stands operands from.of (pointers_in types operands from.of from.inside))

  -- a call's operands and the entries behind them
  pub escaped_call : (callee : Callee) (types : List Ty) (operands more : List Operand) (inst : Instruction) (now : Operand) → inst.operands ≡ operands → length types ≤ length operands
      → Contains (passed_to callee types (map (renamed to names) (operands ++ more))) now → Escaped (ops.Call callee types) inst now
  escaped_call callee types operands more inst now same within has =
      let back = passed_back callee types operands more now within has in
      record {
        operand = back.0;
        escapes = subst (λ (os : List Operand). Contains (passed_to callee types os) back.0) (sym same) back.1;
        is = back.2;
        stands = subst (λ (os : List Operand). StandsIn os back.0) (sym same) back.3;
      }

  nothing_behind : (xs : List Operand) → xs ++ [] ≡ xs
  nothing_behind [] = refl
  nothing_behind (x ∷ xs) = ap (λ os. x ∷ os) (nothing_behind xs)

  -- of a line whose operands were renamed
  module _ (inst : Instruction) (changed : List Operand) (renamed_all : changed ≡ map (renamed to names) inst.operands) where
    changed_at : (place : ℕ) → operand_at changed place ≡ renamed to names (operand_at inst.operands place)
    changed_at place = ap (λ (os : List Operand). operand_at os place) renamed_all ∙ operand_map to names inst.operands place

    pub escaped_back : (op : Op) (now_inst : Instruction) (now : Operand) → now_inst.ty ≡ inst.ty → now_inst.operands ≡ changed
        → ((callee : Callee) (types : List Ty) → op ≡ ops.Call callee types → length types ≡ length inst.operands) → ((id : ℕ) (callee : Callee) (types : List Ty) → op ≡ ops.Statepoint id callee types → ⊥)
        → Contains (escaping op now_inst) now → Escaped op inst now
    escaped_back ops.Store now_inst now type same counts none has =
        let back = store_back now_inst.result now_inst.op now_inst.ty now_inst.operands now_inst.labels now_inst.bundle now has in
        record {
          operand = operand_at inst.operands 0;
          escapes = store_forth inst (sym type ∙ back.0);
          is = sym back.1 ∙ ap (λ (os : List Operand). operand_at os 0) same ∙ changed_at 0;
          stands = at_stands inst.operands 0;
        }
    escaped_back ops.Ret now_inst now type same counts none has =
        let back = store_back now_inst.result now_inst.op now_inst.ty now_inst.operands now_inst.labels now_inst.bundle now has in
        record {
          operand = operand_at inst.operands 0;
          escapes = store_forth inst (sym type ∙ back.0);
          is = sym back.1 ∙ ap (λ (os : List Operand). operand_at os 0) same ∙ changed_at 0;
          stands = at_stands inst.operands 0;
        }
    escaped_back (ops.Icmp pred) now_inst now type same counts none has =
        let all : pointers_of (now_inst.ty ∷ now_inst.ty ∷ []) (operand_at now_inst.operands 0 ∷ operand_at now_inst.operands 1 ∷ [])
        ≡ map (renamed to names) (pointers_of (inst.ty ∷ inst.ty ∷ []) (operand_at inst.operands 0 ∷ operand_at inst.operands 1 ∷ [])) =
        ap (λ (ty : Ty). pointers_of (ty ∷ ty ∷ []) (operand_at now_inst.operands 0 ∷ operand_at now_inst.operands 1 ∷ [])) type
        ∙ ap (λ (os : List Operand). pointers_of (inst.ty ∷ inst.ty ∷ []) (operand_at os 0 ∷ operand_at os 1 ∷ [])) same
        ∙ ap (λ (o : Operand). pointers_of (inst.ty ∷ inst.ty ∷ []) (o ∷ operand_at changed 1 ∷ [])) (changed_at 0)
        ∙ ap (λ (o : Operand). pointers_of (inst.ty ∷ inst.ty ∷ []) (renamed to names (operand_at inst.operands 0) ∷ o ∷ [])) (changed_at 1)
        ∙ pointers_map (inst.ty ∷ inst.ty ∷ []) (operand_at inst.operands 0 ∷ operand_at inst.operands 1 ∷ []) in
        let from = contains_image (renamed to names) (pointers_of (inst.ty ∷ inst.ty ∷ []) (operand_at inst.operands 0 ∷ operand_at inst.operands 1 ∷ [])) now (subst (λ (os : List Operand). Contains os now) all has) in
        record {
          operand = from.of;
          escapes = from.inside;
          is = sym from.is;
          stands = two from.of (pointers_in (inst.ty ∷ inst.ty ∷ []) (operand_at inst.operands 0 ∷ operand_at inst.operands 1 ∷ []) from.of from.inside);
        }
      where
        two : (o : Operand) → Contains (operand_at inst.operands 0 ∷ operand_at inst.operands 1 ∷ []) o → StandsIn inst.operands o
        two o has = elim (contains_cons (operand_at inst.operands 0) o (operand_at inst.operands 1 ∷ []) has) [
          | inl first ↦ subst (StandsIn inst.operands) first (at_stands inst.operands 0)
          | inr more ↦ subst (StandsIn inst.operands) (contains_one (operand_at inst.operands 1) o more) (at_stands inst.operands 1)
        ]
    escaped_back (ops.Call callee types) now_inst now type same counts none has =
        escaped_call callee types inst.operands [] inst now refl (let e = counts callee types refl in omega (arith, e))
        (subst (λ (os : List Operand). Contains (passed_to callee types os) now) (same ∙ renamed_all ∙ ap (map (renamed to names)) (sym (nothing_behind inst.operands))) has)
    escaped_back (ops.Statepoint id callee types) now_inst now type same counts none has = absurd (none id callee types refl)
    escaped_back op now_inst now type same counts none has = absurd (contains_none now has)

    -- a pair that a line takes, before it was renamed
    pub record Taken (before : List Use) (now : Use) : Type 0 where
      pub pair : Use
      pub taken : Contains before pair
      pub address : now.address ≡ renamed to names pair.address
      pub base : now.base ≡ renamed to names pair.base
      pub stands : StandsIn inst.operands pair.address

    taken_at : (place : ℕ) (before : List Use) (now : Use) → Contains before (use_at inst.operands place) → use_at changed place ≡ now → Taken before now
    taken_at place before now here is = record {
      pair = use_at inst.operands place;
      taken = here;
      address = ap (λ (u : Use). u.address) (sym is) ∙ changed_at (suc place);
      base = ap (λ (u : Use). u.base) (sym is) ∙ changed_at place;
      stands = at_stands inst.operands (suc place);
    }

    pub checked_back : (op : Op) (now_inst : Instruction) (now : Use) → now_inst.operands ≡ changed → ((id : ℕ) (callee : Callee) (types : List Ty) → op ≡ ops.Statepoint id callee types → ⊥)
        → Contains (checked op now_inst) now → Taken (checked op inst) now
    checked_back (ops.Call callees.Check types) now_inst now same none has =
        taken_at 0 (use_at inst.operands 0 ∷ []) now (contains_first (use_at inst.operands 0) [])
        (ap (λ (os : List Operand). use_at os 0) (sym same) ∙ contains_one (use_at now_inst.operands 0) now has)
    checked_back (ops.Call callee types) now_inst now same none has = absurd (contains_none now has)
    checked_back (ops.Statepoint id callee types) now_inst now same none has = absurd (none id callee types refl)
    checked_back op now_inst now same none has = absurd (contains_none now has)

    pub compared_back : (op : Op) (now_inst : Instruction) (now : Use) → now_inst.operands ≡ changed → ((id : ℕ) (callee : Callee) (types : List Ty) → op ≡ ops.Statepoint id callee types → ⊥)
        → Contains (compared op now_inst) now → Taken (compared op inst) now
    compared_back (ops.Call callees.Same types) now_inst now same none has = elim (contains_cons (use_at now_inst.operands 0) now (use_at now_inst.operands 2 ∷ []) has) [
      | inl first ↦
          taken_at 0 (use_at inst.operands 0 ∷ use_at inst.operands 2 ∷ []) now (contains_first (use_at inst.operands 0) (use_at inst.operands 2 ∷ []))
          (ap (λ (os : List Operand). use_at os 0) (sym same) ∙ first)
      | inr more ↦
          taken_at 2 (use_at inst.operands 0 ∷ use_at inst.operands 2 ∷ []) now
          (contains_later (use_at inst.operands 0) (use_at inst.operands 2) (use_at inst.operands 2 ∷ []) (contains_first (use_at inst.operands 2) []))
          (ap (λ (os : List Operand). use_at os 2) (sym same) ∙ contains_one (use_at now_inst.operands 2) now more)
    ]
    compared_back (ops.Call callee types) now_inst now same none has = absurd (contains_none now has)
    compared_back (ops.Statepoint id callee types) now_inst now same none has = absurd (none id callee types refl)
    compared_back op now_inst now same none has = absurd (contains_none now has)

    -- the address of an access, before it was renamed
    pub accessed_back : (op : Op) (now_inst : Instruction) (now : Operand) → now_inst.operands ≡ changed → accessed_at op now_inst ≡ Some now
        → (o : Operand) × (accessed_at op inst ≡ Some o) × (now ≡ renamed to names o)
    accessed_back ops.Load now_inst now same is =
        let here : operand_at now_inst.operands 0 ≡ now = cc in
        (operand_at inst.operands 0, refl, sym here ∙ ap (λ (os : List Operand). operand_at os 0) same ∙ changed_at 0)
    accessed_back ops.Store now_inst now same is =
        let here : operand_at now_inst.operands 1 ≡ now = cc in
        (operand_at inst.operands 1, refl, sym here ∙ ap (λ (os : List Operand). operand_at os 1) same ∙ changed_at 1)
    accessed_back op now_inst now same is = absurd cc

-- the statepoint of a call that is of no leaf takes no pairs as a helper's call does
pub no_checks : (callee : Callee) (id : ℕ) (types : List Ty) (inst : Instruction) (pair : Use) → is_leaf callee ≡ false → Contains (checked (ops.Statepoint id callee types) inst) pair → ⊥
no_checks callees.Check id types inst pair no_leaf has = true≢false no_leaf
no_checks callee id types inst pair no_leaf has = contains_none pair has

pub no_compares : (callee : Callee) (id : ℕ) (types : List Ty) (inst : Instruction) (pair : Use) → is_leaf callee ≡ false → Contains (compared (ops.Statepoint id callee types) inst) pair → ⊥
no_compares callees.Same id types inst pair no_leaf has = true≢false no_leaf
no_compares callee id types inst pair no_leaf has = contains_none pair has

-- ---- checks of accesses

pub record ChecksAccess (address : Operand) (ty : Ty) (line : Line) : Type 0 where
  pub types : List Ty
  pub check : line.inst.op ≡ ops.Call callees.Check types
  pub address_same : same_operand (operand_at line.inst.operands 1) address ≡ true
  pub kind_same : same_operand (operand_at line.inst.operands 2) (Int (kind_of (cell_of ty))) ≡ true

check_parts : (address : Operand) (ty : Ty) (op : Op) (line : Line) → checks_access address ty (record line { inst = record line.inst { op = op } }) ≡ true
    → (types : List Ty) × (op ≡ ops.Call callees.Check types) × (same_operand (operand_at line.inst.operands 1) address ≡ true) × (same_operand (operand_at line.inst.operands 2) (Int (kind_of (cell_of ty))) ≡ true)
check_parts address ty (ops.Call callees.Check types) line is =
    let parts = and_parts (same_operand (operand_at line.inst.operands 1) address) (same_operand (operand_at line.inst.operands 2) (Int (kind_of (cell_of ty)))) is in
    (types, refl, parts.0, parts.1)
check_parts address ty (ops.Call callee types) line is = absurd (false≢true is)
check_parts address ty op line is = absurd (false≢true is)

pub checks_from : (address : Operand) (ty : Ty) (line : Line) → checks_access address ty line ≡ true → ChecksAccess address ty line
checks_from address ty line is =
    let parts = check_parts address ty line.inst.op line is in
    record { types = parts.0; check = parts.1; address_same = parts.2; kind_same = parts.3 }

pub checks_forth : (address : Operand) (ty : Ty) (line : Line) (types : List Ty) → line.inst.op ≡ ops.Call callees.Check types
    → same_operand (operand_at line.inst.operands 1) address ≡ true → same_operand (operand_at line.inst.operands 2) (Int (kind_of (cell_of ty))) ≡ true → checks_access address ty line ≡ true
checks_forth address ty line types op one two = rw (op, one, two) refl
