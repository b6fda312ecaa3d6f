-- The value that an instruction gives, by its place in the text.
use Rattle.std.proofs.Common.{◌≡◌, ℕ, zero, suc, ◌+◌, ◌<◌, ◌≤◌, Bool, true, false, if◌then◌else◌, List, [], ◌∷◌, ◌++◌, length, map, take, refl, sym, ap, subst, ◌∙◌, ◌⊎◌, inl, inr, arith}
use Rattle.std.specs.Prelude.{Some, is_some, slice_get, filter}
use Rattle.std.proofs.lemmas.List.{length-map}
use Rattle.std.proofs.lemmas.Bool.{cases_eq, cases_lt}
use Rattle.std.proofs.lemmas.Option.{slice_get_within}
use Rattle.list_laws.proofs.Places.{get_map, get_past}
use Rattle.ir_ast.specs.declared.funcs.Arg.{Arg}
use Rattle.ir_ast.specs.Insts.{Instruction}
use Rattle.ir_ast.specs.Funcs.{Function, instructions_of}
use Rattle.ir_ast.specs.Lists.{Distinct}
use Rattle.ir_ast.specs.Values.{Definition, Gives, argument, definition_name, definitions_of, outcome}
use Rattle.ir_ast.specs.Faults.GroupShape.{number_at}
use Rattle.ir_cfg.specs.DefiniteUses.{Defines, Stands, text_place}
use Rattle.definite_assign.proofs.TextLemmas.{stands_in_text}
use Rattle.object_meaning.proofs.GivenLaws.{has_result}

filtered_at : (insts : List Instruction) (place : ℕ) (inst : Instruction) → slice_get insts place ≡ Some inst → is_some inst.result ≡ true
    → slice_get (filter has_result insts) (length (filter has_result (take place insts))) ≡ Some inst
filtered_at [] place inst at named = absurd cc
filtered_at (first ∷ insts) zero inst at named =
    let same : first ≡ inst = cc in
    ap (λ (b : Bool). slice_get (if b then first ∷ filter has_result insts else filter has_result insts) 0) (ap has_result same ∙ named) ∙ ap (λ i. Some i) same
filtered_at (first ∷ insts) (suc place) inst at named = by (has_result first) (filtered_at insts place inst at named)
  where
    by : (b : Bool) → slice_get (filter has_result insts) (length (filter has_result (take place insts))) ≡ Some inst
        → slice_get (if b then first ∷ filter has_result insts else filter has_result insts)
        (length (if b then first ∷ filter has_result (take place insts) else filter has_result (take place insts))) ≡ Some inst
    by true rest = rest
    by false rest = rest

-- the instruction at a place of the text gives the value with its number
pub gives_at : (func : Function) (place : ℕ) (inst : Instruction) → slice_get (instructions_of func.blocks) place ≡ Some inst → is_some inst.result ≡ true
    → Gives func (number_at func place) inst
gives_at func place inst at named =
    let behind = filtered_at (instructions_of func.blocks) place inst at named in
    let long = length-map func.args argument in
    let number : number_at func place ≡ length (map argument func.args) + length (filter has_result (take place (instructions_of func.blocks))) = omega arith in
    ap (slice_get (definitions_of func)) number
    ∙ (get_past (map argument func.args) (map outcome (filter has_result (instructions_of func.blocks))) (length (filter has_result (take place (instructions_of func.blocks))))
    ∙ get_map outcome (filter has_result (instructions_of func.blocks)) (length (filter has_result (take place (instructions_of func.blocks)))) inst behind)

pub defines_gives : (func : Function) (value block place : ℕ) (defines : Defines func value block place) → Gives func value defines.inst
defines_gives func value block place defines =
    subst (λ (v : ℕ). Gives func v defines.inst) defines.numbered
    (gives_at func (text_place func block place) defines.inst (stands_in_text func block place defines.inst defines.stands) defines.named)

argument_at : (args : List Arg) (rest : List Definition) (value : ℕ) (inst : Instruction) → value < length args → slice_get (map argument args ++ rest) value ≡ Some (outcome inst) → ⊥
argument_at [] rest value inst below is = omega arith
argument_at (arg ∷ args) rest zero inst below is = cc
argument_at (arg ∷ args) rest (suc value) inst below is = argument_at args rest value inst (omega arith) is

-- a result is no argument
pub given_high : (func : Function) (value : ℕ) (inst : Instruction) → Gives func value inst → length func.args ≤ value
given_high func value inst given = elim (cases_lt value (length func.args)) [
  | inr above ↦ above
  | inl below ↦ absurd (argument_at func.args (map outcome (filter has_result (instructions_of func.blocks))) value inst below given)
]

-- values with one name are one
pub one_value : (func : Function) → Distinct (map definition_name (definitions_of func)) → (value other : ℕ) (given : Definition) → slice_get (definitions_of func) value ≡ Some given
    → slice_get (definitions_of func) other ≡ Some given → value ≡ other
one_value func distinct value other given at at_other =
    let name = get_map definition_name (definitions_of func) value given at in
    let other_name = get_map definition_name (definitions_of func) other given at_other in
    let within = slice_get_within (definitions_of func) value given at in
    let other_within = slice_get_within (definitions_of func) other given at_other in
    let long = length-map (definitions_of func) definition_name in
    elim (cases_lt value other) [
      | inl less ↦ absurd (distinct value other less (omega arith) (name ∙ sym other_name))
      | inr le ↦ elim (cases_lt other value) [
        | inl more ↦ absurd (distinct other value more (omega arith) (other_name ∙ sym name))
        | inr both ↦ omega arith
      ]
    ]

-- one instruction stands at a place
pub stands_one : (func : Function) (block place : ℕ) (one other : Instruction) → Stands func block place one → Stands func block place other → one ≡ other
stands_one func block place one other first second =
    let blocks : Some first.block ≡ Some second.block = sym first.in_function ∙ second.in_function in
    let same : first.block ≡ second.block = cc in
    let at : slice_get second.block.insts place ≡ Some one = ap (λ b. slice_get b.insts place) (sym same) ∙ first.in_block in
    let both : Some one ≡ Some other = sym at ∙ second.in_block in
    cc

-- whether the instruction at a place defines a value
pub defines_or_not : (func : Function) (value block place : ℕ) (inst : Instruction) → Stands func block place inst → Defines func value block place ⊎ (Defines func value block place → ⊥)
defines_or_not func value block place inst stands = by (is_some inst.result) refl
  where
    by : (b : Bool) → is_some inst.result ≡ b → Defines func value block place ⊎ (Defines func value block place → ⊥)
    by true named = elim (cases_eq (number_at func (text_place func block place)) value) [
      | inl numbered ↦ inl (record { inst = inst; stands = stands; named = named; numbered = numbered })
      | inr other ↦ inr (λ defines. other defines.numbered)
    ]
    by false unnamed = inr (λ defines.
        let same = stands_one func block place defines.inst inst defines.stands stands in
        let named : is_some inst.result ≡ true = ap has_result (sym same) ∙ defines.named in
        cc)

filtered_named : (insts : List Instruction) (place : ℕ) (inst : Instruction) → slice_get (map outcome (filter has_result insts)) place ≡ Some (outcome inst) → is_some inst.result ≡ true
filtered_named [] place inst is = absurd cc
filtered_named (first ∷ insts) place inst is = by (has_result first) refl place is (λ k at. filtered_named insts k inst at)
  where
    by : (b : Bool) → has_result first ≡ b → (place : ℕ) → slice_get (map outcome (if b then first ∷ filter has_result insts else filter has_result insts)) place ≡ Some (outcome inst)
        → ((k : ℕ) → slice_get (map outcome (filter has_result insts)) k ≡ Some (outcome inst) → is_some inst.result ≡ true) → is_some inst.result ≡ true
    by false named place at further = further place at
    by true named zero at further = let same : first ≡ inst = cc in ap has_result (sym same) ∙ named
    by true named (suc place) at further = further place at

past_named : (args : List Arg) (insts : List Instruction) (value : ℕ) (inst : Instruction) → slice_get (map argument args ++ map outcome (filter has_result insts)) value ≡ Some (outcome inst)
    → is_some inst.result ≡ true
past_named [] insts value inst is = filtered_named insts value inst is
past_named (arg ∷ args) insts zero inst is = absurd cc
past_named (arg ∷ args) insts (suc value) inst is = past_named args insts value inst is

-- what gives a value has a result
pub given_named : (func : Function) (value : ℕ) (inst : Instruction) → Gives func value inst → is_some inst.result ≡ true
given_named func value inst given = past_named func.args (instructions_of func.blocks) value inst given

-- a result adds one to those before
fewer : (insts : List Instruction) (j k : ℕ) (inst : Instruction) → j < k → slice_get insts j ≡ Some inst → is_some inst.result ≡ true
    → length (filter has_result (take j insts)) < length (filter has_result (take k insts))
fewer insts j zero inst less at named = absurd (omega arith)
fewer [] j (suc k) inst less at named = absurd cc
fewer (first ∷ insts) zero (suc k) inst less at named =
    let same : first ≡ inst = cc in
    let here : has_result first ≡ true = ap has_result same ∙ named in
    subst (λ (b : Bool). 0 < length (if b then first ∷ filter has_result (take k insts) else filter has_result (take k insts))) (sym here) (omega arith)
fewer (first ∷ insts) (suc j) (suc k) inst less at named = by (has_result first) (fewer insts j k inst (omega arith) at named)
  where
    by : (b : Bool) → length (filter has_result (take j insts)) < length (filter has_result (take k insts))
        → length (if b then first ∷ filter has_result (take j insts) else filter has_result (take j insts)) < length (if b then first ∷ filter has_result (take k insts) else filter has_result (take k insts))
    by true rest = omega arith
    by false rest = rest

-- two results with one number stand at one place
pub one_text_place : (func : Function) (j k : ℕ) (one other : Instruction) → slice_get (instructions_of func.blocks) j ≡ Some one → slice_get (instructions_of func.blocks) k ≡ Some other
    → is_some one.result ≡ true → is_some other.result ≡ true → number_at func j ≡ number_at func k → j ≡ k
one_text_place func j k one other at at_other named named_other same = elim (cases_lt j k) [
  | inl less ↦ absurd (let more = fewer (instructions_of func.blocks) j k one less at named in omega arith)
  | inr le ↦ elim (cases_lt k j) [
    | inl more ↦ absurd (let fewer_there = fewer (instructions_of func.blocks) k j other more at_other named_other in omega arith)
    | inr both ↦ omega arith
  ]
]
