-- Blocks, as they are looked up in the tables.
use Rattle.std.proofs.Common.{◌≡◌, ℕ, zero, suc, List, [], ◌∷◌, length, refl, sym, ap, ◌∙◌}
use Rattle.std.specs.Prelude.{Option, Some, None, slice_get, slice_index}
use Rattle.std.specs.Option.{MatchOption, option_map, option_map_or}
use Rattle.std.proofs.lemmas.Option.{slice_get-map}
use Rattle.ir_ast.specs.Blocks.{BasicBlock}
use Rattle.ir_ast.specs.Funcs.{Function}
use Rattle.ir_ast.specs.Insts.{Instruction}
use Rattle.ir_ast.specs.Modules.{ModuleContent}
use Rattle.object_meaning.specs.Lines.{after_all, first_registers, insts_in, insts_of, registers_of}
use Rattle.frame_forms.specs.ModuleLayouts.{FunctionLayout}
use Rattle.machine_frames.specs.Landings.{Site}
use Rattle.machine_frames.specs.Tables.{Tabled, AreOf, site_of, sites_from, table_of}

abbrev insts_at : List BasicBlock → ℕ → List Instruction
insts_at blocks block = option_map_or (λ (one : BasicBlock). one.insts) (slice_get blocks block) []

site_at : (next : ℕ) (blocks : List BasicBlock) (block : ℕ) (site : Site) → slice_get (sites_from next blocks) block ≡ Some site
    → site ≡ record { first = slice_index (first_registers next blocks) block; insts = insts_at blocks block }
site_at next [] block site is = absurd (let no : None ≡ Some site = is in cc)
site_at next (one ∷ blocks) zero site is = let at : Site = record { first = next; insts = one.insts } in let same : at ≡ site = cc in sym same
site_at next (one ∷ blocks) (suc block) site is = site_at (after_all next one.insts) blocks block site is

none_at : (next : ℕ) (blocks : List BasicBlock) (block : ℕ) → slice_get (sites_from next blocks) block ≡ None → insts_at blocks block ≡ []
none_at next [] block is = refl
none_at next (one ∷ blocks) zero is = absurd (let at : Site = record { first = next; insts = one.insts } in let no : Some at ≡ None = is in cc)
none_at next (one ∷ blocks) (suc block) is = none_at (after_all next one.insts) blocks block is

module _ (content : ModuleContent) (laid : List FunctionLayout) (tables : List Tabled) (func block : ℕ) (are : AreOf content laid tables) where
  found_is : (found : Option Tabled) → slice_get tables func ≡ found → option_map table_of (slice_get content.funcs func) ≡ found
  found_is found is = sym (slice_get-map table_of content.funcs func) ∙ ap (λ (ts : List Tabled). slice_get ts func) (sym are.tables_are) ∙ is

  pub site_is : (table : Tabled) (site : Site) → slice_get tables func ≡ Some table → slice_get table.sites block ≡ Some site → site ≡ site_of content func block
  site_is table site is there = by (slice_get content.funcs func) (found_is (Some table) is)
    where
      by : (found : Option Function) → option_map table_of found ≡ Some table
          → site ≡ record { first = option_map_or (λ (defined : Function). slice_index (registers_of defined) block) found 0; insts = option_map_or (λ (defined : Function). insts_in defined block) found [] }
      by None e = absurd (let no : None ≡ Some table = e in cc)
      by (Some one) e =
          let same : table_of one ≡ table = cc in
          site_at (length one.args) one.blocks block site (ap (λ (t : Tabled). slice_get t.sites block) same ∙ there)

  pub no_site : (table : Tabled) → slice_get tables func ≡ Some table → slice_get table.sites block ≡ None → insts_of content func block ≡ []
  no_site table is there = by (slice_get content.funcs func) (found_is (Some table) is)
    where
      by : (found : Option Function) → option_map table_of found ≡ Some table → option_map_or (λ (defined : Function). insts_in defined block) found [] ≡ []
      by None e = refl
      by (Some one) e =
          let same : table_of one ≡ table = cc in
          none_at (length one.args) one.blocks block (ap (λ (t : Tabled). slice_get t.sites block) same ∙ there)

  pub no_table : slice_get tables func ≡ None → insts_of content func block ≡ []
  no_table is = by (slice_get content.funcs func) (found_is None is)
    where
      by : (found : Option Function) → option_map table_of found ≡ None → option_map_or (λ (defined : Function). insts_in defined block) found [] ≡ []
      by None e = refl
      by (Some one) e = absurd (let no : Some (table_of one) ≡ None = e in cc)

  -- a block that is looked up in a table
  pub landing_found : {X : Type 0} (site : X → Site) (table : Tabled) (found : Option X) → slice_get tables func ≡ Some table
      → MatchOption found (slice_get table.sites block ≡ None) (λ x. slice_get table.sites block ≡ Some (site x))
      → MatchOption found (insts_of content func block ≡ []) (λ x. site x ≡ site_of content func block)
  landing_found site table None is there = no_site table is there
  landing_found site table (Some x) is there = site_is table (site x) is there
