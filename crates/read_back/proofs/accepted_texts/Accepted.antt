-- The module of a text without a fault is one of its form.
use Rattle.std.proofs.Common.{◌≡◌, ◌⊎◌, ℕ, List, inl, inr, refl}
use Rattle.std.specs.Prelude.{Some, slice_get}
use Rattle.std.specs.List.{All}
use Rattle.list_laws.proofs.Contents.{all_from_at}
use Rattle.ir_ast.specs.declared.modules.Form.{Form}
use Rattle.ir_ast.specs.declared.modules.Form.TheVariants.{Source}
use Rattle.ir_ast.specs.Funcs.{Function}
use Rattle.ir_ast.specs.Modules.{line_at}
use Rattle.ir_cfg.specs.DefiniteUses.{Meets, Uses, UsesAreDefinite}
use Rattle.ir_cfg.specs.Graphs.{graph_of}
use Rattle.ir_cfg.specs.Paths.{Path}
use Rattle.ir_lines.specs.Modules.{module_of}
use Rattle.ir_resolve.specs.FaultSet.{HasNoResolvedFault}
use Rattle.ir_lines.specs.Statements.{Line, lines_of}
use Rattle.ir_types.specs.FaultSet.{HasNoFault, plain, not_definite}
use Rattle.module_laws.proofs.TypedTexts.{text_typed}
use Rattle.read_back.specs.AcceptedTexts.{AcceptedIsOf}
use Rattle.read_back.proofs.accepted_texts.Decided.{meets_or_not}

-- ---- uses are definite where no path misses a definition

module _ (form : Form) (lines : List Line) (none : HasNoFault form lines) where
  no_plain : HasNoResolvedFault form lines
  no_plain line code fault = none line code (plain code fault)

  module _ (number : ℕ) (func : Function) (stands : slice_get (module_of form lines).content.funcs number ≡ Some func) where
    met : (text value block place : ℕ) → Uses func text value block place → (path : List ℕ) → Path (graph_of func) path block
        → Meets func value path place ⊎ (¬ Meets func value path place) → Meets func value path place
    met text value block place uses path leads (inl meets) = meets
    met text value block place uses path leads (inr misses) =
        absurd (none (line_at (module_of form lines).lines number text) 8 (not_definite no_plain (record {
          number = number;
          func = func;
          stands = stands;
          place = text;
          missed = record { value = value; block = block; place = place; uses = uses; missed = record { path = path; leads = leads; misses = misses } };
          at = refl;
        })))

    definite : UsesAreDefinite func
    definite text value block place uses path leads = met text value block place uses path leads (meets_or_not func value path block place leads)

  all_definite : All UsesAreDefinite (module_of form lines).content.funcs
  all_definite = all_from_at UsesAreDefinite (module_of form lines).content.funcs definite

pub accepted_is_of : (form : Form) → AcceptedIsOf form
accepted_is_of form text readings small read none =
    record { typed = text_typed form text readings small read (no_plain form (lines_of readings) none); definite = all_definite form (lines_of readings) none }

pub accepted_is_source : AcceptedIsOf Source
accepted_is_source = accepted_is_of Source
