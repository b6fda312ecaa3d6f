-- Types as lines spell them, and what fits them.
use Rattle.std.specs.Prelude.{ℕ, ◌-◌, ◌^◌, Bool, true, false, ◌&&◌, ◌==◌, nat_lt, nat_le, List, [], ◌∷◌, Option, Some, None, is_some, if◌then◌else◌}
use Rattle.line_parts.specs.Types.{TypeWord}
use Rattle.line_parts.specs.Types.{Void, Int, Managed, Plain}
use Rattle.line_tokens.specs.declared.literals.Literal.{Literal}
use Rattle.line_parts.specs.Parts.{Val}
use Rattle.line_parts.specs.Parts as values
use Rattle.ir_ast.specs.Cells.{cell_in}
use Rattle.ir_lines.specs.Modules.{type_of}
use Rattle.ir_lines.specs.Sections.{Naming}
use Rattle.ir_lines.specs.Scope.{Scope, value_named}

abbrev pub same_type : TypeWord → TypeWord → Bool
same_type Void Void = true
same_type (Int width) (Int other) = width == other
same_type Managed Managed = true
same_type Plain Plain = true
same_type _ _ = false

abbrev pub same_types : List TypeWord → List TypeWord → Bool
same_types [] [] = true
same_types (ty ∷ tys) (other ∷ others) = same_type ty other && same_types tys others
same_types _ _ = false

-- a type of cells, which memory holds
abbrev pub is_cell : TypeWord → Bool
is_cell ty = is_some (cell_in (type_of ty))

-- a literal of iN lies from -2^(N - 1) to 2^N - 1
abbrev pub is_within : ℕ → Literal → Bool
is_within width literal =
    if literal.negative then nat_le literal.magnitude (2 ^ (width - 1)) else nat_lt literal.magnitude (2 ^ width)

abbrev pub literal_fits : TypeWord → Literal → Bool
literal_fits (Int width) literal = is_within width literal
literal_fits Managed literal = false
literal_fits Void literal = false
literal_fits Plain literal = false

abbrev pub takes_null : TypeWord → Bool
takes_null Managed = true
takes_null Plain = true
takes_null Void = false
takes_null (Int width) = false

-- a name that nothing gives has a fault of its own
abbrev pub naming_fits : TypeWord → Option Naming → Bool
naming_fits ty None = true
naming_fits ty (Some one) = same_type one.ty ty

abbrev pub fits : Scope → TypeWord → Val → Bool
fits scope ty (values.local name) = naming_fits ty (value_named scope name)
fits scope ty (values.number literal) = literal_fits ty literal
fits scope ty (values.truth said) = same_type ty (Int 1)
fits scope ty values.null = takes_null ty
