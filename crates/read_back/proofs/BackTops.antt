-- The lines that a module is printed as have no fault: names that stand twice or are reserved, and `@main`.
use Rattle.std.proofs.Common.{◌≡◌, ◌∙◌, ◌⊎◌, inl, inr, ℕ, List, [], ◌∷◌, ◌++◌, map, refl, ap, sym, subst, arith}
use Rattle.std.specs.List.{Contains}
use Rattle.std.proofs.lemmas.List.{map-append}
use Rattle.std.proofs.lemmas.List.Elements.{All-contains}
use Rattle.ir_ast.specs.Blocks.{BasicBlock}
use Rattle.ir_ast.specs.Funcs.{Function}
use Rattle.ir_ast.specs.Modules.{ModuleContent}
use Rattle.ir_cfg.specs.TypedModules.{IsTypedModule}
use Rattle.ir_ast.specs.Lists.{Distinct}
use Rattle.ir_ast.specs.Values.{definition_name}
use Rattle.ir_ast.specs.Values as defs
use Rattle.ir_ast.specs.Faultless.{FunctionHasNoFault}
use Rattle.ir_ast.specs.Faults.Reserved.{IsExternalName, IsInsertedName}
use Rattle.ir_ast.specs.declared.modules.Form.TheVariants.{Source}
use Rattle.ir_lines.specs.Statements.{Line}
use Rattle.ir_lines.specs.Sections.{LayoutLine, Definition, Naming, BlockLines, layouts_of, definitions_of, values_of, blocks_of}
use Rattle.ir_lines.specs.InBody.{Repeats}
use Rattle.ir_lines.proofs.LawNames.{Apart, apart-distinct, contains_cons, contains_middle, contains_map}
use Rattle.module_laws.proofs.LawCalls.{contains_mapped}
use Rattle.read_back.specs.Said.{said_by}
use Rattle.read_back.proofs.BackLines.{said}
use Rattle.read_back.proofs.BackBlocks.{blocks-are, block-names, value-names}
use Rattle.read_back.proofs.BackSections.{layout-names}
use Rattle.read_back.proofs.BackModules.{IsShaped, shaped_of, names_in, shaped_insts, form_of}
use Rattle.read_back.proofs.BackFaults.{From, printed_from}

-- ---- names that stand once do not repeat

none_twice : (before : List (List ℕ)) (what : List ℕ) (after : List (List ℕ)) → Apart (before ++ what ∷ after) → ¬ (Contains before what)
none_twice [] what after apart c = absurd (omega (arith, c.1))
none_twice (x ∷ xs) what after apart c = by (contains_cons x what xs c) (none_twice xs what after apart.1)
  where
    by : (x ≡ what) ⊎ Contains xs what → ¬ (Contains xs what) → ⊥
    by (inl e) later = apart.0 (subst (λ (n : List ℕ). Contains (xs ++ what ∷ after) n) (sym e) (contains_middle xs what after))
    by (inr d) later = later d

seconds : {X : Type 0} (line : X → ℕ) (name : X → List ℕ) (xs : List X)
    → map (λ (one : ℕ × List ℕ). one.1) (map (λ x. (line x, name x)) xs) ≡ map name xs
seconds line name [] = refl
seconds line name (x ∷ xs) = ap (λ (ns : List (List ℕ)). name x ∷ ns) (seconds line name xs)

pub no_repeat : {X : Type 0} (line : X → ℕ) (name : X → List ℕ) (xs : List X) → Distinct (map name xs) → (n : ℕ)
    → ¬ (Repeats (map (λ x. (line x, name x)) xs) n)
no_repeat line name xs once n r =
    let names : map name xs ≡ map (λ (one : ℕ × List ℕ). one.1) r.before ++ r.what ∷ map (λ (one : ℕ × List ℕ). one.1) r.after =
    sym (seconds line name xs) ∙ ap (map (λ (one : ℕ × List ℕ). one.1)) r.whole
    ∙ map-append (λ (one : ℕ × List ℕ). one.1) r.before ((n, r.what) ∷ r.after) in
    none_twice (map (λ (one : ℕ × List ℕ). one.1) r.before) r.what (map (λ (one : ℕ × List ℕ). one.1) r.after)
    (subst Apart names (apart-distinct (map name xs) once)) r.again

pub layouts_once : (content : ModuleContent) → IsShaped content → (lines : List Line) → said lines ≡ said_by content → (line : ℕ)
    → ¬ (Repeats (map (λ one. (one.line, one.name)) (layouts_of lines)) line)
layouts_once content shaped lines e line r =
    no_repeat (λ (one : LayoutLine). one.line) (λ (one : LayoutLine). one.name) (layouts_of lines)
    (subst Distinct (sym (layout-names content lines e)) shaped.no_fault.names.layouts) line r

pub names_of_blocks : (content : ModuleContent) (one : Definition) (o : From content one) → map (λ b. b.name) (blocks_of one) ≡ map (λ b. b.name) o.func.blocks
names_of_blocks content one o =
    block-names (names_in content o.func) (blocks_of one) o.func.blocks (blocks-are (names_in content o.func) one o.func.blocks o.says.body)

pub names_of_values : (content : ModuleContent) → IsShaped content → (one : Definition) (o : From content one)
    → map (λ v. v.name) (values_of one) ≡ map definition_name (defs.definitions_of o.func)
names_of_values content shaped one o =
    value-names content.form (names_in content o.func) one o.func o.says.arguments o.says.body (shaped_insts content shaped o.func o.stands)

pub labels_once : (content : ModuleContent) → IsShaped content → (lines : List Line) → said lines ≡ said_by content
    → (one : Definition) → Contains (definitions_of lines) one → (line : ℕ) → ¬ (Repeats (map (λ b. (b.line, b.name)) (blocks_of one)) line)
labels_once content shaped lines e one c line r =
    let o = printed_from content lines e one c in
    no_repeat (λ (b : BlockLines). b.line) (λ (b : BlockLines). b.name) (blocks_of one)
    (subst Distinct (sym (names_of_blocks content one o))
    (All-contains (λ (f : Function). Distinct (map (λ (b : BasicBlock). b.name) f.blocks)) content.funcs o.func shaped.no_fault.names.labels o.stands)) line r

pub values_once : (content : ModuleContent) → IsShaped content → (lines : List Line) → said lines ≡ said_by content
    → (one : Definition) → Contains (definitions_of lines) one → (line : ℕ) → ¬ (Repeats (map (λ v. (v.line, v.name)) (values_of one)) line)
values_once content shaped lines e one c line r =
    let o = printed_from content lines e one c in
    no_repeat (λ (v : Naming). v.line) (λ (v : Naming). v.name) (values_of one)
    (subst Distinct (sym (names_of_values content shaped one o))
    (All-contains (λ (f : Function). Distinct (map definition_name (defs.definitions_of f))) content.funcs o.func shaped.no_fault.names.values o.stands)) line r

-- ---- reserved names

pub definitions_free : (content : ModuleContent) → IsShaped content → (lines : List Line) → said lines ≡ said_by content
    → (one : Definition) → Contains (definitions_of lines) one → ¬ (IsExternalName one.name)
definitions_free content shaped lines e one c external =
    let o = printed_from content lines e one c in
    All-contains (λ (f : Function). ¬ (IsExternalName f.name)) content.funcs o.func shaped.no_fault.free o.stands (subst IsExternalName o.says.name external)

pub values_free : (content : ModuleContent) → IsTypedModule Source content → (lines : List Line) → said lines ≡ said_by content
    → (one : Definition) → Contains (definitions_of lines) one → (value : Naming) → Contains (values_of one) value → ¬ (IsInsertedName value.name)
values_free content source lines e one c value d inserted =
    let o = printed_from content lines e one c in
    let plain = form_of content.form o.func source.of_form (All-contains (FunctionHasNoFault content) content.funcs o.func source.no_fault.functions o.stands).form in
    let named : Contains (map definition_name (defs.definitions_of o.func)) value.name =
    subst (λ (ns : List (List ℕ)). Contains ns value.name) (names_of_values content (shaped_of Source content source) one o) (contains_map (λ (v : Naming). v.name) (values_of one) value d) in
    let given = contains_mapped definition_name (defs.definitions_of o.func) value.name named in
    All-contains (λ (g : defs.Definition). ¬ (IsInsertedName (definition_name g))) (defs.definitions_of o.func) given.0 plain.values given.1
    (subst IsInsertedName (sym given.2) inserted)

pub labels_free : (content : ModuleContent) → IsTypedModule Source content → (lines : List Line) → said lines ≡ said_by content
    → (one : Definition) → Contains (definitions_of lines) one → (block : BlockLines) → Contains (blocks_of one) block → ¬ (IsInsertedName block.name)
labels_free content source lines e one c block d inserted =
    let o = printed_from content lines e one c in
    let plain = form_of content.form o.func source.of_form (All-contains (FunctionHasNoFault content) content.funcs o.func source.no_fault.functions o.stands).form in
    let named : Contains (map (λ (b : BasicBlock). b.name) o.func.blocks) block.name =
    subst (λ (ns : List (List ℕ)). Contains ns block.name) (names_of_blocks content one o) (contains_map (λ (b : BlockLines). b.name) (blocks_of one) block d) in
    let given = contains_mapped (λ (b : BasicBlock). b.name) o.func.blocks block.name named in
    All-contains (λ (b : BasicBlock). ¬ (IsInsertedName b.name)) o.func.blocks given.0 plain.labels given.1 (subst IsInsertedName (sym given.2) inserted)
