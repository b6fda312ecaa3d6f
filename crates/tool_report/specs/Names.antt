-- The name of each fault, by its code; nothing for a number that is no code.
use Rattle.std.specs.Prelude.{ℕ, ◌==◌, List, [], codes, if◌then◌else◌}

unfoldable pub late_module_name : ℕ → List ℕ
late_module_name code =
    if code == 10 then codes "NoStrategy"
    else if code == 11 then codes "NoMain"
    else if code == 12 then codes "UnknownExtern"
    else if code == 13 then codes "BadLayout"
    else if code == 14 then codes "Reserved"
    else if code == 15 then codes "PointerOrder"
    else if code == 16 then codes "PointerCast"
    else if code == 17 then codes "TooManyRelocations"
    else if code == 18 then codes "GroupShape"
    else []

-- of a module's text
unfoldable pub module_name : ℕ → List ℕ
module_name code =
    if code == 1 then codes "Syntax"
    else if code == 2 then codes "Limit"
    else if code == 3 then codes "NameTwice"
    else if code == 4 then codes "UnknownName"
    else if code == 5 then codes "TypeClash"
    else if code == 6 then codes "EntryHasPred"
    else if code == 7 then codes "PhiEdges"
    else if code == 8 then codes "NotDefinite"
    else if code == 9 then codes "DerivedEscapes"
    else late_module_name code

-- of a plan's text
unfoldable pub plan_name : ℕ → List ℕ
plan_name code =
    if code == 1 then codes "Syntax"
    else if code == 2 then codes "Order"
    else if code == 3 then codes "TwoGo"
    else if code == 4 then codes "Limit"
    else []

-- that the verifier finds
unfoldable pub check_name : ℕ → List ℕ
check_name code =
    if code == 1 then codes "Stale"
    else if code == 2 then codes "BadPair"
    else if code == 3 then codes "Unchecked"
    else if code == 4 then codes "BadSame"
    else if code == 5 then codes "Escapes"
    else if code == 6 then codes "BadGroup"
    else if code == 7 then codes "BadDeopt"
    else []

-- of the bytes of a stack map
unfoldable pub map_name : ℕ → List ℕ
map_name code =
    if code == 1 then codes "Short"
    else if code == 2 then codes "BadVersion"
    else if code == 3 then codes "BadReserved"
    else if code == 4 then codes "BadCount"
    else if code == 5 then codes "BadKind"
    else if code == 6 then codes "Trailing"
    else []
