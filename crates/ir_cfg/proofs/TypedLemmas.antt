-- A typed module can be printed and analysed.
use Rattle.ir_ast.specs.declared.modules.Form.{Form}
use Rattle.ir_ast.specs.Modules.{ModuleContent}
use Rattle.ir_ast.specs.Formed.{IsFormedModule}
use Rattle.ir_cfg.specs.TypedModules.{IsTypedModule}

pub formed_module : (form : Form) (content : ModuleContent) → IsTypedModule form content → IsFormedModule content
formed_module form content typed = record {
  formed = λ k d below.
      let own = typed.functions k d below in
      let faultless = typed.no_fault.functions k d below in
      record {
        has_block = own.has_block;
        widths = own.widths;
        lines = own.lines;
        known = faultless.local;
        phis = faultless.phis;
        entry = faultless.entry;
      };
  known = λ k d below. (typed.no_fault.functions k d below).global;
  typed = typed.no_fault.typed;
  fields = typed.no_fault.fields;
}
