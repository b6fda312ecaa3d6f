-- How a name is seen.
use Rattle.std.specs.Prelude.{ℕ, List}
use Rattle.sp_text.specs.declared.names.Name.{Name}

abbrev pub seen_name : Name → List ℕ
seen_name name = name.bytes.now
