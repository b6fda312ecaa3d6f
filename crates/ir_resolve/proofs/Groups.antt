-- The group of a token: lines end with it exactly where the instructions before the place do in the resolved text.
use Rattle.std.proofs.Common.{◌≡◌, ◌∙◌, ℕ, zero, suc, ◌<◌, ◌+◌, ◌-◌, ◌^◌, Bool, true, false, ◌==◌, List, [], ◌∷◌, ◌++◌, map, length, take, refl, ap, sym, subst, arith, append_assoc, length-append}
use Rattle.std.specs.Prelude.{Option, Some, None, IfSome, slice_get}
use Rattle.std.specs.List.{AllByRecursion, Contains, list_all}
use Rattle.std.specs.Str.{bytes_eq}
use Rattle.std.proofs.lemmas.List.{length-map}
use Rattle.std.proofs.lemmas.Option.{same_Some}
use Rattle.std.proofs.lemmas.Bool.Decides.{Decides-eqb}
use Rattle.ir_lines.proofs.PlaceLemmas.{bytes_eq-self}
use Rattle.list_laws.proofs.Places.{get_past, get_middle, take_front_of}
use Rattle.ir_ast.specs.declared.ops.Operand.{Operand}
use Rattle.ir_ast.specs.declared.ops.Op.{Op}
use Rattle.ir_ast.specs.declared.ops.Op.TheVariants as ops
use Rattle.ir_ast.specs.Insts.{Instruction}
use Rattle.ir_ast.specs.Funcs.{instructions_of}
use Rattle.ir_ast.specs.Faults.GroupShape.{Group as ModuleGroup, is_part as is_part_made, is_statepoint, number_at}
use Rattle.ir_reader.specs.declared.states.Place.{Place}
use Rattle.ir_reader.specs.declared.states.Place.TheVariants as places
use Rattle.line_tokens.specs.declared.words.Binary.{Binary}
use Rattle.line_tokens.specs.declared.words.Binary.TheVariants.{Add}
use Rattle.line_tokens.specs.declared.words.Conversion.{Conversion}
use Rattle.line_tokens.specs.declared.words.Conversion.TheVariants.{Trunc}
use Rattle.line_parts.specs.Parts.{Val}
use Rattle.ir_lines.specs.Statements.{Guarded, Line, Statement, layout, declare, define, close, binary, convert, switch_case, switch_end, statepoint, gc_result, gc_relocate}
use Rattle.ir_lines.specs.Statements as says
use Rattle.ir_lines.specs.Parts.{live_use, gives}
use Rattle.ir_lines.specs.Places.{number_in}
use Rattle.ir_lines.specs.Sections.{Definition, Naming, values_before, values_of}
use Rattle.ir_lines.specs.Modules.{Known, known_of, type_of, given_type, passed_operand, used_operand, callee_of, wrapped, binary_of, conversion_of, instruction, instruction_said, kept_entry, keeping}
use Rattle.ir_lines.specs.Faults.GroupShape.{Group, is_part}
use Rattle.ir_lines.specs.TextLines.{place_behind, behind_instruction}
use Rattle.ir_lines.specs.ReadLines.{is_instruction}
use Rattle.ir_resolve.proofs.Booleans.{never}
use Rattle.ir_resolve.proofs.Values.{place_split, number_place, names-split, made_of, names_of, results}
use Rattle.ir_resolve.proofs.Fronts.{insts, front, front-append, front_at, insts_split, number-at, insts_said}
use Rattle.ir_resolve.proofs.Standing.{StandsIn, after}
use Rattle.list_laws.proofs.Booleans.{first_true, second_true}
use Rattle.std.proofs.lemmas.Bool.{and_from}
use Rattle.list_laws.proofs.Contents.{same_bytes}

abbrev pub are_parts : List ℕ → List Line → Bool
are_parts token ls = list_all (λ (l : Line). is_part token l.says) ls

abbrev pub point_made : Known → List ℕ → Guarded → List Val → Instruction
point_made known token called live =
    keeping (map (kept_entry known) called.kept)
    (instruction (Some token) (ops.Statepoint (wrapped 64 called.id) (callee_of known called.callee) (map given_type called.passed))
    (type_of called.signature.answer) (map (passed_operand known) called.passed ++ map (used_operand known) (map live_use live)) [])

abbrev pub point : ℕ → List ℕ → Guarded → List Val → Line
point number token called live = record { number = number; says = statepoint token called live }

-- ---- what a line of a group says

-- the instruction of a part
record PartSaid (known : Known) (token : List ℕ) (said : Option Instruction) : Type 0 where
  inst : Instruction
  is : said ≡ Some inst
  part : is_part_made (number_in known.values token) inst ≡ true

same_number : (known : Known) (token other : List ℕ) → bytes_eq token other ≡ true → (number_in known.values other == number_in known.values token) ≡ true
same_number known token other e =
    subst (λ (x : List ℕ). (number_in known.values x == number_in known.values token) ≡ true) (same_bytes token other e)
    ((Decides-eqb (number_in known.values token) (number_in known.values token)).1 refl)

part_said : (known : Known) (token : List ℕ) (behind : List Line) (s : Statement) → is_part token s ≡ true → PartSaid known token (instruction_said known behind s)
part_said known token behind (gc_result result ty other) e = record { inst = _; is = refl; part = same_number known token other e }
part_said known token behind (gc_relocate result other base derived) e = record { inst = _; is = refl; part = same_number known token other e }
part_said known token behind _ e = absurd (let bad : false ≡ true = e in cc)

-- the line of a statepoint
record PointSaid (known : Known) (s : Statement) (inst : Instruction) : Type 0 where
  result : List ℕ
  called : Guarded
  live : List Val
  says : s ≡ statepoint result called live
  is : inst ≡ point_made known result called live

binary_point : (op : Binary) → is_statepoint (binary_of op) ≡ false
binary_point Add = refl
binary_point _ = refl

conversion_point : (op : Conversion) (to : ℕ) → is_statepoint (conversion_of op to) ≡ false
conversion_point Trunc to = refl
conversion_point _ to = refl

point_said : (known : Known) (behind : List Line) (s : Statement)
    → IfSome (instruction_said known behind s) (λ inst. is_statepoint inst.op ≡ true → PointSaid known s inst)
point_said known behind (statepoint result called live) = λ e. record { result = result; called = called; live = live; says = refl; is = refl }
point_said known behind (binary result op width left right) = λ e. never (sym (binary_point op) ∙ e)
point_said known behind (convert result op width value to) = λ e. never (sym (conversion_point op to) ∙ e)
point_said known behind (layout name fields) = tt
point_said known behind (declare answer name parameters) = tt
point_said known behind (define answer name arguments strategy) = tt
point_said known behind close = tt
point_said known behind (says.label name) = tt
point_said known behind (switch_case width value to) = tt
point_said known behind switch_end = tt
point_said known behind _ = λ e. never e

-- the line of a part
record IsPartLine (known : Known) (number : ℕ) (s : Statement) : Type 0 where
  name : List ℕ
  part : is_part name s ≡ true
  numbered : number_in known.values name ≡ number
  goes : behind_instruction s ≡ Some places.Block

abbrev part_by : ℕ → Op → List Operand → Bool
part_by number op os = is_part_made number (instruction None op Rattle.ir_ast.specs.declared.types.Ty.TheVariants.Void os [])

binary_part : (op : Binary) (number : ℕ) (os : List Operand) → part_by number (binary_of op) os ≡ false
binary_part Add number os = refl
binary_part _ number os = refl

conversion_part : (op : Conversion) (to number : ℕ) (os : List Operand) → part_by number (conversion_of op to) os ≡ false
conversion_part Trunc to number os = refl
conversion_part _ to number os = refl

part_line : (known : Known) (number : ℕ) (behind : List Line) (s : Statement)
    → IfSome (instruction_said known behind s) (λ inst. is_part_made number inst ≡ true → IsPartLine known number s)
part_line known number behind (gc_result result ty token) = λ e. record {
  name = token;
  part = bytes_eq-self token;
  numbered = (Decides-eqb (number_in known.values token) number).0 e;
  goes = refl;
}
part_line known number behind (gc_relocate result token base derived) = λ e. record {
  name = token;
  part = bytes_eq-self token;
  numbered = (Decides-eqb (number_in known.values token) number).0 e;
  goes = refl;
}
part_line known number behind (binary result op width left right) = λ e. never (sym (binary_part op number _) ∙ e)
part_line known number behind (convert result op width value to) = λ e. never (sym (conversion_part op to number _) ∙ e)
part_line known number behind (layout name fields) = tt
part_line known number behind (declare answer name parameters) = tt
part_line known number behind (define answer name arguments strategy) = tt
part_line known number behind close = tt
part_line known number behind (says.label name) = tt
part_line known number behind (switch_case width value to) = tt
part_line known number behind switch_end = tt
part_line known number behind _ = λ e. never e

has_instruction : (known : Known) (behind : List Line) (s : Statement) → is_instruction s ≡ true → (inst : Instruction) × (instruction_said known behind s ≡ Some inst)
has_instruction known behind (layout name fields) e = never e
has_instruction known behind (declare answer name parameters) e = never e
has_instruction known behind (define answer name arguments strategy) e = never e
has_instruction known behind close e = never e
has_instruction known behind (says.label name) e = never e
has_instruction known behind (switch_case width value to) e = never e
has_instruction known behind switch_end e = never e
has_instruction known behind _ e = (_, refl)

-- ---- the parts of a group

abbrev pub AreParts : ℕ → List Instruction → Type 0
AreParts number is = AllByRecursion (λ inst. is_part_made number inst ≡ true) is

parts_made : (known : Known) (token : List ℕ) (parts rest : List Line) → are_parts token parts ≡ true
    → AreParts (number_in known.values token) (front known parts rest) × (length (front known parts rest) ≡ length parts)
parts_made known token [] rest e = (tt, refl)
parts_made known token (l ∷ ls) rest e =
    let p = part_said known token (ls ++ rest) l.says (first_true (is_part token l.says) (are_parts token ls) e) in
    let more = parts_made known token ls rest (second_true (is_part token l.says) (are_parts token ls) e) in (
      subst (λ (o : Option Instruction). AreParts (number_in known.values token) (insts_said o ++ front known ls rest)) (sym p.is) (p.part, more.0),
      ap (λ (o : Option Instruction). length (insts_said o ++ front known ls rest)) p.is ∙ ap suc more.1,
    )

-- a number that a value has is that of one name
same_name : (names : List (List ℕ)) (a b : List ℕ) → number_in names a ≡ number_in names b → number_in names b < 2 ^ 32 - 1 → a ≡ b
same_name names a b e few =
    let v = number_in names b in
    let one = place_split names a v (number_place names a v e few) in
    let two = place_split names b v (number_place names b v refl few) in
    same_Some a b (sym one.0 ∙ two.0)

-- lines behind a statepoint whose instructions are parts are parts
parts_lost : (known : Known) (token : List ℕ) → number_in known.values token < 2 ^ 32 - 1 → (parts rest : List Line) → StandsIn places.Block (parts ++ rest)
    → AreParts (number_in known.values token) (front known parts rest) → are_parts token parts ≡ true
parts_lost known token few [] rest stand all = refl
parts_lost known token few (l ∷ ls) rest stand all =
    let next = stand.1.next in
    let says = has_instruction known (ls ++ rest) l.says (after l.says next stand.1.is).1 in
    let own : AreParts (number_in known.values token) (says.0 ∷ front known ls rest) =
    subst (λ (o : Option Instruction). AreParts (number_in known.values token) (insts_said o ++ front known ls rest)) says.1 all in
    let line = subst (λ (o : Option Instruction). IfSome o (λ inst. is_part_made (number_in known.values token) inst ≡ true → IsPartLine known (number_in known.values token) l.says))
    says.1 (part_line known (number_in known.values token) (ls ++ rest) l.says) own.0 in
    let block : next ≡ places.Block = same_Some next places.Block (sym stand.1.is ∙ line.goes) in
    and_from (is_part token l.says) (are_parts token ls)
    (subst (λ (name : List ℕ). is_part name l.says ≡ true) (same_name known.values line.name token line.numbered few) line.part)
    (parts_lost known token few ls rest (subst (λ (p : Place). StandsIn p (ls ++ rest)) block stand.1.more) own.1)

behind_point : (place : Place) (earlier : List Line) (l : Line) (more : List Line) (token : List ℕ) (called : Guarded) (live : List Val) → l.says ≡ statepoint token called live
    → StandsIn place (earlier ++ l ∷ more) → StandsIn places.Block more
behind_point place [] l more token called live says stand =
    subst (λ (p : Place). StandsIn p more) (by place stand.1.next (ap (place_behind place) (sym says) ∙ stand.1.is)) stand.1.more
  where
    by : (place next : Place) → place_behind place (statepoint token called live) ≡ Some next → next ≡ places.Block
    by places.Top next e = absurd (cc)
    by places.Entry next e = sym (same_Some places.Block next e)
    by places.Block next e = sym (same_Some places.Block next e)
    by places.Closed next e = absurd (cc)
    by places.Cases next e = absurd (cc)
behind_point place (k ∷ earlier) l more token called live says stand = behind_point stand.1.next earlier l more token called live says stand.1.more

-- ---- from lines

within_get : {A : Type 0} (P : A → Type 0) (xs ys : List A) → ((k : ℕ) → k < length xs → IfSome (slice_get (xs ++ ys) k) P) → AllByRecursion P xs
within_get P [] ys h = tt
within_get P (x ∷ xs) ys h = (h 0 (omega arith), within_get P xs ys (λ k within. h (suc k) (omega arith)))

-- ---- from the module

pub record GroupSaid (lines : List Line) (func : Definition) (before rest : List Line) (token : List ℕ)
    (group : ModuleGroup (made_of lines func) (number_in (known_of lines func).values token) (length (front (known_of lines func) before rest))) : Type 0 where
  pub lined : Group func before token
  pub point_is : group.statepoint ≡ point_made (known_of lines func) token lined.made lined.live
  pub place_is : length (front (known_of lines func) before rest) ≡ group.head + suc (length lined.parts)

pub group_said : (lines : List Line) (func : Definition) → length (values_of func) < 2 ^ 32 → StandsIn places.Entry func.body → (before rest : List Line)
    → func.body ≡ before ++ rest → (token : List ℕ) → number_in (known_of lines func).values token < 2 ^ 32 - 1
    → (group : ModuleGroup (made_of lines func) (number_in (known_of lines func).values token) (length (front (known_of lines func) before rest)))
    → GroupSaid lines func before rest token group
group_said lines func few stand before rest whole token known_token group =
    let known = known_of lines func in
    let number = number_in known.values token in
    let F = made_of lines func in
    let R = insts known rest in
    let parts_all = insts_split lines func before rest whole in
    let at_front : slice_get (front known before rest) group.head ≡ Some group.statepoint =
    in_front (front known before rest) R group.head group.statepoint group.before (sym (ap (λ (xs : List Instruction). slice_get xs group.head) parts_all) ∙ group.stands) in
    let at = front_at known before rest group.head group.statepoint at_front in
    let said = subst (λ (o : Option Instruction). IfSome o (λ inst. is_statepoint inst.op ≡ true → PointSaid known at.line.says inst)) at.said
    (point_said known (at.later ++ rest) at.line.says) group.op in
    let more = at.later ++ rest in
    let split : func.body ≡ at.earlier ++ at.line ∷ more = whole ∙ ap (λ (xs : List Line). xs ++ rest) at.whole ∙ append_assoc at.earlier (at.line ∷ at.later) rest in
    let E = front known at.earlier (at.line ∷ more) in
    let P = front known at.later rest in
    let vb = names_of (values_before func at.earlier) in
    let own_name : names_of (Rattle.ir_lines.specs.Sections.result_named at.line.number (gives at.line.says)) ≡ said.result ∷ [] =
    ap (λ (s : Statement). names_of (Rattle.ir_lines.specs.Sections.result_named at.line.number (gives s))) said.says in
    let names : names_of (values_of func) ≡ vb ++ said.result ∷ names_of (results more) =
    names-split func at.earlier at.line more split ∙ ap (λ (ns : List (List ℕ)). vb ++ (ns ++ names_of (results more))) own_name in
    let values : known.values ≡ vb ++ said.result ∷ names_of (results more) = names in
    let numbered : number ≡ length vb =
    sym group.gives ∙ ap (number_at F) at.place_is ∙ number-at lines func at.earlier (at.line ∷ more) split
    ∙ sym (length-map (values_before func at.earlier) (λ (one : Naming). one.name)) in
    let place = place_split known.values token number (number_place known.values token number refl known_token) in
    let same : said.result ≡ token = same_Some said.result token
    (sym (get_middle vb said.result (names_of (results more)))
    ∙ ap (slice_get (vb ++ said.result ∷ names_of (results more))) (sym numbered) ∙ ap (λ (ns : List (List ℕ)). slice_get ns number) (sym values) ∙ place.0) in
    let taken : take number known.values ≡ vb = ap (take number) values ∙ ap (λ (n : ℕ). take n (vb ++ said.result ∷ names_of (results more))) numbered
    ∙ take_front_of vb (said.result ∷ names_of (results more)) in
    let is : front known before rest ≡ E ++ group.statepoint ∷ P =
    ap (λ (xs : List Line). front known xs rest) at.whole ∙ front-append known at.earlier (at.line ∷ at.later) rest
    ∙ ap (λ (o : Option Instruction). E ++ (insts_said o ++ P)) at.said in
    let all : instructions_of F.blocks ≡ E ++ group.statepoint ∷ (P ++ R) =
    parts_all ∙ ap (λ (xs : List Instruction). xs ++ R) is ∙ append_assoc E (group.statepoint ∷ P) R in
    let size : length (front known before rest) ≡ length E + suc (length P) = ap length is ∙ length-append E (group.statepoint ∷ P) in
    let head_is = at.place_is in
    let own : AreParts number P = within_get (λ (inst : Instruction). is_part_made number inst ≡ true) P R (λ j within.
    subst (λ (o : Option Instruction). IfSome o (λ inst. is_part_made number inst ≡ true))
    (ap (λ (xs : List Instruction). slice_get xs (length E + suc j)) all ∙ get_past E (group.statepoint ∷ (P ++ R)) (suc j))
    (group.between (length E + suc j) (omega (arith, head_is)) (omega (arith, size, within)))) in
    let parts = parts_lost known token known_token at.later rest (behind_point places.Entry at.earlier at.line more said.result said.called said.live said.says
    (subst (StandsIn places.Entry) split stand)) own in
    let count = (parts_made known token at.later rest parts).1 in
    record {
      lined = record {
        earlier = at.earlier;
        number = at.line.number;
        made = said.called;
        live = said.live;
        parts = at.later;
        whole = at.whole
            ∙ ap (λ (s : Statement). at.earlier ++ (let one : Line = record { number = at.line.number; says = s } in one) ∷ at.later)
            (said.says ∙ ap (λ (name : List ℕ). statepoint name said.called said.live) same);
        first = λ c. place.1 (subst (λ (ns : List (List ℕ)). Contains ns token) (sym taken) c);
        own = parts;
      };
      point_is = said.is ∙ ap (λ (name : List ℕ). point_made known name said.called said.live) same;
      place_is = omega (arith, size, head_is, count);
    }
  where
    in_front : {A : Type 0} (xs ys : List A) (k : ℕ) (x : A) → k < length xs → slice_get (xs ++ ys) k ≡ Some x → slice_get xs k ≡ Some x
    in_front [] ys k x below e = absurd (omega arith)
    in_front (y ∷ xs) ys zero x below e = e
    in_front (y ∷ xs) ys (suc k) x below e = in_front xs ys k x (omega arith) e
