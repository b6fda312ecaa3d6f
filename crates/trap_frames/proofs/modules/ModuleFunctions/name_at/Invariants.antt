use Rattle.std.proofs.Common.{◌≡◌, ◌-◌, ◌%◌, ◌≤◌, drop}
use Rattle.machine_meaning.specs.Code.{name_in}
use Rattle.trap_frames.proofs.modules.ModuleFunctions.name_at.Given as goal

abbrev pub invariant-loop-func : goal.invariant-loop-func
invariant-loop-func l = record {
  within : l.behind ≤ l.address;
  even : (l.address - l.behind) % 16 ≡ 0;
  rest : name_in (l.address - l.behind) (drop l.func-index l.self.content.funcs) l.address ≡ name_in 4096 l.self.content.funcs l.address;
}
