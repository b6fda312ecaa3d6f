-- The lines that a module is printed as have no fault: no declaration has the name of a definition.
use Rattle.std.proofs.Common.{◌≡◌, ◌∙◌, inl, inr, ℕ, true, false, List, refl, ap, sym, subst, arith}
use Rattle.std.specs.List.{Contains}
use Rattle.std.proofs.lemmas.List.Elements.{All-contains}
use Rattle.ir_ast.specs.Modules.{ModuleContent}
use Rattle.ir_ast.specs.Faults.Reserved.{IsExternalName}
use Rattle.ir_printer.specs.Names.{layout_name}
use Rattle.line_parts.specs.Types.{TypeWord}
use Rattle.line_parts.specs.Lists.{Named}
use Rattle.ir_lines.specs.Statements.{Line, declare}
use Rattle.ir_lines.specs.Sections.{Head, heads_of}
use Rattle.ir_lines.specs.Faults.NameTwice.{DeclaresDefined}
use Rattle.module_laws.proofs.LawHeads.{HeadFrom, from_definition, from_declaration, heads-from}
use Rattle.read_back.specs.Said.{said_by}
use Rattle.read_back.proofs.BackModules.{IsShaped}
use Rattle.read_back.proofs.BackLines.{said}
use Rattle.read_back.proofs.BackFaults.{IfDeclares, each_declaration, line_said}
use Rattle.read_back.proofs.BackTops.{definitions_free}

pub declares_external : (content : ModuleContent) (lines : List Line) → said lines ≡ said_by content → (l : Line) → Contains lines l
    → (answer : TypeWord) (name : List ℕ) (parameters : List Named) → l.says ≡ declare answer name parameters → IsExternalName name
declares_external content lines e l c answer name parameters says =
    subst (IfDeclares (λ a n ps. IsExternalName n)) says
    (line_said (IfDeclares (λ a n ps. IsExternalName n)) content lines e
    (each_declaration (λ a n ps. IsExternalName n) content
    (λ layout below. inr (inl (layout_name content.layouts layout, refl)))
    (inl (0, omega arith, refl)) (inl (1, omega arith, refl)) (inl (2, omega arith, refl))
    (λ called. inl (3, omega arith, refl)) (λ called. inl (4, omega arith, refl)) (λ called. inl (5, omega arith, refl))) l c)

pub declares_defined-clear : (content : ModuleContent) → IsShaped content → (lines : List Line) → said lines ≡ said_by content → (line : ℕ) → ¬ (DeclaresDefined lines line)
declares_defined-clear content shaped lines e line d =
    by (All-contains (HeadFrom lines) (heads_of lines) d.declared (heads-from lines) d.stands)
    (All-contains (HeadFrom lines) (heads_of lines) d.other (heads-from lines) d.other_stands)
  where
    by : HeadFrom lines d.declared → HeadFrom lines d.other → ⊥
    by (from_definition func c f) other = let bad : true ≡ false = ap (λ (h : Head). h.defined) f ∙ d.is_declared in cc
    by (from_declaration l c answer name parameters says f) (from_declaration m k a n ps s g) =
        let bad : true ≡ false = sym d.is_defined ∙ ap (λ (h : Head). h.defined) g in cc
    by (from_declaration l c answer name parameters says f) (from_definition func k g) =
        let same : func.name ≡ name = ap (λ (h : Head). h.name) g ∙ d.same ∙ ap (λ (h : Head). h.name) f in
        definitions_free content shaped lines e func k
        (subst IsExternalName (sym same) (declares_external content lines e l c answer name parameters says))
