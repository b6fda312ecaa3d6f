-- Laws of the maps of target modules: each number fits in its field, and each call has a return address of its own.
use Rattle.std.specs.Prelude.{map}
use Rattle.std.specs.List.Sorted.{IsStrictlyIncreasing}
use Rattle.ir_ast.specs.Modules.{ModuleContent}
use Rattle.ir_cfg.specs.TargetModules.{IsTargetModule}
use Rattle.map_bytes.specs.Maps.{IsMap}
use Rattle.map_bytes.specs.Entries.{entries}
use Rattle.stackmap_write.specs.ModuleMaps.{map_of}

abbrev pub EachHasMap : Type 0
EachHasMap = (content : ModuleContent) → IsTargetModule content → IsMap (map_of content)

-- along the records in their order
abbrev pub AddressesRise : Type 0
AddressesRise = (content : ModuleContent) → IsTargetModule content
    → IsStrictlyIncreasing (map (λ entry. entry.return_address) (entries (map_of content)))
