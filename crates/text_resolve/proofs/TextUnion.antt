-- What the passes find together is what resolving the text loses.
use Rattle.std.proofs.Common.{◌≡◌, ◌∙◌, ℕ, ◌⊎◌, inl, inr, Bool, true, false, List, [], ◌∷◌, ◌++◌, refl, ap, sym, subst}
use Rattle.std.specs.Prelude.{Option, map, not}
use Rattle.std.specs.List.{Contains}
use Rattle.std.proofs.lemmas.Bool.{not-true}
use Rattle.line_parts.specs.Types.{TypeWord}
use Rattle.line_parts.specs.Lists.{Named}
use Rattle.line_parts.specs.Parts.{Val}
use Rattle.ir_ast.specs.declared.modules.Form.{Form}
use Rattle.ir_ast.specs.declared.modules.Form.TheVariants.{Source, Rewritten}
use Rattle.ir_ast.specs.Faults.Reserved.{IsExternalName, IsInsertedName}
use Rattle.list_laws.proofs.Contents.{IsImage, contains_first, contains_image, contains_map, joined_contains}
use Rattle.ir_lines.specs.declared.faults.Fault.{Fault}
use Rattle.ir_lines.specs.Notes.{Notes}
use Rattle.ir_lines.specs.Statements.{Statement, Line, layout, declare, define, label, switch, switch_case, statepoint}
use Rattle.ir_lines.specs.Sections.{Head, Definition, Naming, BlockLines, head_said, layouts_of, heads_of, definitions_of, values_of, blocks_of, is_label, cases_of, types_of}
use Rattle.ir_lines.specs.Scope.{Scope, scope_of}
use Rattle.ir_lines.specs.InBody.{InBody}
use Rattle.ir_lines.specs.Again.{TopAgain, NamesFound, FoundByNames, named_values, named_blocks}
use Rattle.ir_lines.specs.Faults.NameTwice.{NameTwice, DeclaresDefined, layout_again, head_again, declares_defined, label_again, value_again}
use Rattle.ir_lines.specs.Faults.NoStrategy.{is_strategy, lacks_strategy}
use Rattle.ir_lines.specs.Faults.BadLayout.{are_cells, is_bad_layout}
use Rattle.ir_lines.specs.Faults.Reserved.{Reserved, defines_external, declares_helper, names_value, names_label}
use Rattle.ir_lines.proofs.NoteLemmas.{Either, notes-then, notes-same}
use Rattle.text_resolve.specs.TopFaults.{OuterFault, OuterFaults, DeclareFault, DefineFault}
use Rattle.ir_resolve.specs.TextFaults.{HasTextFault, name_twice, unknown_name, misspelled, case_width, no_strategy, unknown_extern, bad_layout, reserved, pointer_cast, miscounted, CaseOfOtherWidth, miscounts}
use Rattle.text_resolve.specs.Lost.{Lost, IsOtherWidth, WidthsBehind, BodyWidths, LineLostOf, BlocksLostOf, FunctionLost}
use Rattle.module_build.specs.Founds.{Found}
use Rattle.module_build.specs.Lost.{unknown_name as lost_name, spelled_wrong, pointer_cast as lost_cast, counted_wrong, miscounts_in}
use Rattle.text_resolve.proofs.BlockContents.{block-in-body, line-in-block, label-is}
use Rattle.text_resolve.specs.Built.{FunctionsLost}
use Rattle.text_resolve.proofs.Contained.{contained-found, found-contained}
use Rattle.text_resolve.proofs.Heads.{IsDefined, line-defined, IsDefinition, defined-line, IsHeadLine, line-of-head, SaysHead}

abbrev names : List Line → List (List ℕ)
names lines = map (λ (one : Definition). one.name) (definitions_of lines)

abbrev layouts : List Line → List (List ℕ)
layouts lines = map (λ one. one.name) (layouts_of lines)

-- what is found in a text
abbrev pub TextLost : Form → List Line → ℕ → ℕ → Type 0
TextLost form lines line code =
    TopAgain lines line code ⊎ (OuterFaults form (names lines) (layouts lines) lines line code ⊎ FunctionsLost form lines (definitions_of lines) line code)

-- a fault of one code, whichever number that is
at-code : (form : Form) (lines : List Line) (line code number : ℕ) → code ≡ number → HasTextFault form lines line number → HasTextFault form lines line code
at-code form lines line code number e f = subst (λ (n : ℕ). HasTextFault form lines line n) (sym e) f

-- ---- in a function: from what is found to the fault

in-body : (lines : List Line) (func : Definition) (found : Line) (line : ℕ) (test : Scope → Statement → Bool)
    → Contains (definitions_of lines) func → Contains func.body found → line ≡ found.number → test (scope_of lines func) found.says ≡ true
    → InBody lines line test
in-body lines func found line test defined inside number faulty =
    record { func = func; defined = defined; found = found; inside = inside; number = sym number; faulty = faulty }

counts-of : (form : Form) (scope : Scope) (what : Statement) → miscounts_in form what ≡ true → (form ≡ Rewritten) × (miscounts scope what ≡ true)
counts-of Source scope what e = absurd (let bad : false ≡ true = e in cc)
counts-of Rewritten scope (statepoint result made live) e = (refl, e)
counts-of Rewritten scope _ e = absurd (let bad : false ≡ true = e in cc)

fault-of-lost : (form : Form) (lines : List Line) (func : Definition) (found : Line) (line code : ℕ)
    → Contains (definitions_of lines) func → Contains func.body found → line ≡ found.number
    → Lost form (scope_of lines func) found.says code → HasTextFault form lines line code
fault-of-lost form lines func found line code defined inside number (lost_name e t) =
    at-code form lines line code 4 e (unknown_name (in-body lines func found line _ defined inside number t))
fault-of-lost form lines func found line code defined inside number (spelled_wrong e t) =
    at-code form lines line code 5 e (misspelled (in-body lines func found line _ defined inside number t))
fault-of-lost form lines func found line code defined inside number (lost_cast e t) =
    at-code form lines line code 16 e (pointer_cast (in-body lines func found line _ defined inside number t))
fault-of-lost form lines func found line code defined inside number (counted_wrong e t) =
    let counts = counts-of form (scope_of lines func) found.says t in
    at-code form lines line code 18 e (miscounted counts.0 (in-body lines func found line _ defined inside number counts.1))

-- a line that is what it says
line-said : (l : Line) (number : ℕ) (what : Statement) → number ≡ l.number → l.says ≡ what → l ≡ record { number = number; says = what }
line-said l number what e f = λ i. record { number = sym e i; says = f i }

fault-of-width : (form : Form) (lines : List Line) (func : Definition) (line code number width : ℕ) (value : Val) (default : List ℕ) (before behind : List Line)
    → Contains (definitions_of lines) func → func.body ≡ before ++ (record { number = number; says = switch width value default }) ∷ behind
    → (here : Line) (what : Statement) → Contains (cases_of behind) here → code ≡ 5 → line ≡ here.number → here.says ≡ what → IsOtherWidth width what
    → HasTextFault form lines line code
fault-of-width form lines func line code number width value default before behind defined whole here (switch_case other case to) inside e is says differs =
    at-code form lines line code 5 e (case_width (record {
      func = func;
      defined = defined;
      before = before;
      number = number;
      width = width;
      value = value;
      default = default;
      behind = behind;
      whole = whole;
      other = other;
      case = case;
      to = to;
      is_case = subst (λ (l : Line). Contains (cases_of behind) l) (line-said here line (switch_case other case to) is says) inside;
      differs = differs;
    }))
fault-of-width form lines func line code number width value default before behind defined whole here _ inside e is says differs = absurd differs

fault-of-widths : (form : Form) (lines : List Line) (func : Definition) (line code : ℕ) (before : List Line) (here : Line) (behind : List Line) (what : Statement)
    → Contains (definitions_of lines) func → func.body ≡ before ++ here ∷ behind → here.says ≡ what → WidthsBehind what behind line code
    → HasTextFault form lines line code
fault-of-widths form lines func line code before here behind (switch width value default) defined whole says f =
    fault-of-width form lines func line code here.number width value default before behind defined
    (whole ∙ ap (λ (l : Line). before ++ l ∷ behind) (line-said here here.number (switch width value default) refl says))
    f.here f.here.says (contained-found _ (cases_of behind) line code f) f.faulty.0 f.faulty.1 refl f.faulty.2
fault-of-widths form lines func line code before here behind _ defined whole says f = absurd f

fault-of-blocks_lost : (form : Form) (lines : List Line) (func : Definition) (line code : ℕ) → Contains (definitions_of lines) func
    → BlocksLostOf form (scope_of lines func) (blocks_of func) line code → HasTextFault form lines line code
fault-of-blocks_lost form lines func line code defined f =
    let inside = block-in-body func f.here (contained-found _ (blocks_of func) line code f) f.faulty.here (contained-found _ f.here.lines line code f.faulty) in
    fault-of-lost form lines func f.faulty.here line code defined inside f.faulty.faulty.0 f.faulty.faulty.1

inserted-named : (one name : List ℕ) → one ≡ name → IsInsertedName name → IsInsertedName one
inserted-named one name e n = subst IsInsertedName (sym e) n

fault-of-values : (form : Form) (lines : List Line) (func : Definition) (line code : ℕ) → Contains (definitions_of lines) func
    → NamesFound form (named_values (values_of func)) line code → HasTextFault form lines line code
fault-of-values form lines func line code defined (inl f) = at-code form lines line code 3 f.0 (name_twice (value_again func defined f.1))
fault-of-values form lines func line code defined (inr f) =
    let m : IsImage (λ (one : Naming). (one.line, one.name)) (values_of func) (line, f.2.name)
    = contains_image (λ (one : Naming). (one.line, one.name)) (values_of func) (line, f.2.name) f.2.given in
    at-code form lines line code 14 f.0 (reserved (names_value f.1 func m.of defined m.inside (ap (λ (p : ℕ × List ℕ). p.0) m.is)
    (inserted-named m.of.name f.2.name (ap (λ (p : ℕ × List ℕ). p.1) m.is) f.2.inserted)))

fault-of-blocks : (form : Form) (lines : List Line) (func : Definition) (line code : ℕ) → Contains (definitions_of lines) func
    → NamesFound form (named_blocks (blocks_of func)) line code → HasTextFault form lines line code
fault-of-blocks form lines func line code defined (inl f) = at-code form lines line code 3 f.0 (name_twice (label_again func defined f.1))
fault-of-blocks form lines func line code defined (inr f) =
    let m : IsImage (λ (one : BlockLines). (one.line, one.name)) (blocks_of func) (line, f.2.name)
    = contains_image (λ (one : BlockLines). (one.line, one.name)) (blocks_of func) (line, f.2.name) f.2.given in
    at-code form lines line code 14 f.0 (reserved (names_label f.1 func m.of defined m.inside (ap (λ (p : ℕ × List ℕ). p.0) m.is)
    (inserted-named m.of.name f.2.name (ap (λ (p : ℕ × List ℕ). p.1) m.is) f.2.inserted)))

fault-in-function : (form : Form) (lines : List Line) (func : Definition) (line code : ℕ) → Contains (definitions_of lines) func
    → FunctionLost form (scope_of lines func) func line code → HasTextFault form lines line code
unfolding FunctionLost
fault-in-function form lines func line code defined (inl (inl f)) = fault-of-values form lines func line code defined f
fault-in-function form lines func line code defined (inl (inr f)) = fault-of-blocks form lines func line code defined f
fault-in-function form lines func line code defined (inr (inl w)) =
    fault-of-widths form lines func line code w.before w.here w.after w.here.says defined w.whole refl w.faulty
fault-in-function form lines func line code defined (inr (inr f)) = fault-of-blocks_lost form lines func line code defined f

-- ---- at the top: from what is found to the fault

-- a head of the line of a definition
record IsHeadOf (lines : List Line) (number : ℕ) (name : List ℕ) (defined : Bool) : Type 0 where
  pub head : Head
  pub within : Contains (heads_of lines) head
  pub line : head.line ≡ number
  pub named : head.name ≡ name
  pub kind : head.defined ≡ defined

head-defined : (lines : List Line) (l : Line) (answer : TypeWord) (name : List ℕ) (arguments : List Named) (strategy : Option (List ℕ))
    → Contains lines l → l.says ≡ define answer name arguments strategy → IsHeadOf lines l.number name true
head-defined lines l answer name arguments strategy within e =
    let h : Head = record { line = l.number; defined = true; name = name; answer = answer; parameters = types_of arguments } in
    record {
      head = h;
      within = joined_contains (λ m. head_said m.number m.says) lines l h within
          (subst (λ (what : Statement). Contains (head_said l.number what) h) (sym e) (contains_first h []));
      line = refl;
      named = refl;
      kind = refl;
    }

head-declared : (lines : List Line) (l : Line) (answer : TypeWord) (name : List ℕ) (parameters : List Named)
    → Contains lines l → l.says ≡ declare answer name parameters → IsHeadOf lines l.number name false
head-declared lines l answer name parameters within e =
    let h : Head = record { line = l.number; defined = false; name = name; answer = answer; parameters = types_of parameters } in
    record {
      head = h;
      within = joined_contains (λ m. head_said m.number m.says) lines l h within
          (subst (λ (what : Statement). Contains (head_said l.number what) h) (sym e) (contains_first h []));
      line = refl;
      named = refl;
      kind = refl;
    }

-- a definition's name is that of a head that is defined
head-of-name : (lines : List Line) (name : List ℕ) → Contains (names lines) name
    → (head : Head) × Contains (heads_of lines) head × (head.defined ≡ true) × (head.name ≡ name)
head-of-name lines name within =
    let m : IsImage (λ (one : Definition). one.name) (definitions_of lines) name
    = contains_image (λ (one : Definition). one.name) (definitions_of lines) name within in
    let d : IsDefined lines m.of = line-defined lines m.of m.inside in
    let h : IsHeadOf lines d.head.number m.of.name true
    = head-defined lines d.head m.of.answer m.of.name m.of.arguments m.of.strategy d.within d.says in
    (h.head, h.within, h.kind, h.named ∙ m.is)

contained-as : (lines : List Line) (l : Line) (line : ℕ) (what : Statement) → Contains lines l → l.number ≡ line → l.says ≡ what
    → Contains lines (record { number = line; says = what })
contained-as lines l line what within e f = subst (λ (m : Line). Contains lines m) (line-said l line what (sym e) f) within

fault-of-declare : (form : Form) (lines : List Line) (l : Line) (line code : ℕ) (answer : TypeWord) (name : List ℕ) (parameters : List Named)
    → Contains lines l → l.number ≡ line → l.says ≡ declare answer name parameters
    → DeclareFault form (names lines) (layouts lines) answer name parameters code → HasTextFault form lines line code
fault-of-declare form lines l line code answer name parameters within e says (inl f) =
    let h : IsHeadOf lines l.number name false = head-declared lines l answer name parameters within says in
    let other = head-of-name lines name f.1 in
    at-code form lines line code 3 f.0 (name_twice (declares_defined (record {
      declared = h.head;
      stands = h.within;
      is_declared = h.kind;
      number = h.line ∙ e;
      other = other.0;
      other_stands = other.1;
      is_defined = other.2;
      same = other.3 ∙ sym h.named;
    })))
fault-of-declare form lines l line code answer name parameters within e says (inr (inl f)) =
    at-code form lines line code 12 f.0 (unknown_extern (record {
      answer = answer;
      name = name;
      parameters = parameters;
      stands = contained-as lines l line (declare answer name parameters) within e says;
      unknown = f.1;
    }))
fault-of-declare form lines l line code answer name parameters within e says (inr (inr f)) =
    at-code form lines line code 14 f.0 (reserved (declares_helper f.1 answer name parameters
    (contained-as lines l line (declare answer name parameters) within e says) f.2))

fault-of-define : (form : Form) (lines : List Line) (l : Line) (line code : ℕ) (answer : TypeWord) (name : List ℕ) (arguments : List Named) (strategy : Option (List ℕ))
    → Contains lines l → l.number ≡ line → l.says ≡ define answer name arguments strategy → DefineFault name strategy code
    → HasTextFault form lines line code
fault-of-define form lines l line code answer name arguments strategy within e says (inl f) =
    at-code form lines line code 10 f.0
    (no_strategy (record { found = l; inside = within; number = e; faulty = ap lacks_strategy says ∙ ap not f.1 }))
fault-of-define form lines l line code answer name arguments strategy within e says (inr f) =
    let d : IsDefinition lines l.number name = defined-line lines l answer name arguments strategy within says in
    at-code form lines line code 14 f.0 (reserved (defines_external d.func d.within (d.line ∙ e) (subst IsExternalName (sym d.named) f.1)))

fault-of-layout : (form : Form) (lines : List Line) (l : Line) (line code : ℕ) (name : List ℕ) (fields : List TypeWord)
    → Contains lines l → l.number ≡ line → l.says ≡ layout name fields → (code ≡ 13) × (are_cells fields ≡ false)
    → HasTextFault form lines line code
fault-of-layout form lines l line code name fields within e says f =
    at-code form lines line code 13 f.0
    (bad_layout (record { found = l; inside = within; number = e; faulty = ap is_bad_layout says ∙ ap not f.1 }))

fault-outside : (form : Form) (lines : List Line) (l : Line) (line code : ℕ) (what : Statement) → Contains lines l → l.number ≡ line → l.says ≡ what
    → OuterFault form (names lines) (layouts lines) what code → HasTextFault form lines line code
fault-outside form lines l line code (layout name fields) within e says f = fault-of-layout form lines l line code name fields within e says f
fault-outside form lines l line code (declare answer name parameters) within e says f = fault-of-declare form lines l line code answer name parameters within e says f
fault-outside form lines l line code (define answer name arguments strategy) within e says f = fault-of-define form lines l line code answer name arguments strategy within e says f
fault-outside form lines l line code _ within e says f = absurd f

lost-fault : (form : Form) (lines : List Line) (line code : ℕ) → TextLost form lines line code → HasTextFault form lines line code
lost-fault form lines line code (inl (e, inl r)) = at-code form lines line code 3 e (name_twice (layout_again r))
lost-fault form lines line code (inl (e, inr r)) = at-code form lines line code 3 e (name_twice (head_again r))
lost-fault form lines line code (inr (inl f)) = fault-outside form lines f.found line code f.found.says f.inside f.number refl f.faulty
lost-fault form lines line code (inr (inr f)) =
    fault-in-function form lines f.here line code (contained-found _ (definitions_of lines) line code f) f.faulty

-- ---- from the fault to what is found

in-function : (form : Form) (lines : List Line) (func : Definition) (line code : ℕ) → Contains (definitions_of lines) func
    → FoundByNames form func line code ⊎ (BodyWidths func.body line code ⊎ BlocksLostOf form (scope_of lines func) (blocks_of func) line code)
    → TextLost form lines line code
unfolding FunctionLost
in-function form lines func line code defined f =
    inr (inr (found-contained (λ one. FunctionLost form (scope_of lines one) one) (definitions_of lines) func line code defined f))

-- no test finds a label
by-line : (form : Form) (lines : List Line) (line code : ℕ) (test : Scope → Statement → Bool) (b : InBody lines line test)
    → ((name : List ℕ) → test (scope_of lines b.func) (label name) ≡ false)
    → (test (scope_of lines b.func) b.found.says ≡ true → Lost form (scope_of lines b.func) b.found.says code) → TextLost form lines line code
by-line form lines line code test b none make = by (is_label b.found.says) refl
  where
    by : (is : Bool) → is_label b.found.says ≡ is → TextLost form lines line code
    by true is =
        let l = label-is b.found.says is in
        absurd (let bad : true ≡ false = sym b.faulty ∙ ap (test (scope_of lines b.func)) l.1 ∙ none l.0 in cc)
    by false is =
        let i = line-in-block b.func b.found is b.inside in
        let f = found-contained (λ here n c. (n ≡ here.number) × Lost form (scope_of lines b.func) here.says c) i.block.lines b.found line code i.here
        (sym b.number, make b.faulty) in
        in-function form lines b.func line code b.defined
        (inr (inr (found-contained (λ here. Found (LineLostOf form (scope_of lines b.func)) here.lines) (blocks_of b.func) i.block line code i.inside f)))

count-lost : (form : Form) (scope : Scope) (what : Statement) → form ≡ Rewritten → miscounts scope what ≡ true → miscounts_in form what ≡ true
count-lost form scope (statepoint result made live) e t = ap (λ (one : Form). miscounts_in one (statepoint result made live)) e ∙ t
count-lost form scope _ e t = absurd (let bad : false ≡ true = t in cc)

width-found : (form : Form) (lines : List Line) (line : ℕ) → CaseOfOtherWidth lines line → TextLost form lines line 5
width-found form lines line w =
    in-function form lines w.func line 5 w.defined (inr (inl (record {
      before = w.before;
      here = record { number = w.number; says = switch w.width w.value w.default };
      after = w.behind;
      whole = w.whole;
      faulty = (found-contained (λ here l c. (c ≡ 5) × (l ≡ here.number) × IsOtherWidth w.width here.says) (cases_of w.behind)
          (record { number = line; says = switch_case w.other w.case w.to }) line 5 w.is_case (refl, refl, w.differs));
    })))

outside-found : (form : Form) (lines : List Line) (l : Line) (line code : ℕ) → Contains lines l → l.number ≡ line
    → OuterFault form (names lines) (layouts lines) l.says code → TextLost form lines line code
outside-found form lines l line code within e f = inr (inl (record { found = l; inside = within; number = e; faulty = f }))

at-says : (form : Form) (lines : List Line) (l : Line) (what : Statement) (code : ℕ) → l.says ≡ what
    → OuterFault form (names lines) (layouts lines) what code → OuterFault form (names lines) (layouts lines) l.says code
at-says form lines l what code e f = subst (λ (w : Statement). OuterFault form (names lines) (layouts lines) w code) (sym e) f

-- a head that is declared stands on a line that declares it
declared-says : (form : Form) (lines : List Line) (what : Statement) (head : Head) → head.defined ≡ false → SaysHead what head
    → Contains (names lines) head.name → OuterFault form (names lines) (layouts lines) what 3
declared-says form lines (declare answer name parameters) head declared says within =
    inl (refl, subst (λ (n : List ℕ). Contains (names lines) n) says.1 within)
declared-says form lines (define answer name arguments strategy) head declared says within =
    absurd (let bad : false ≡ true = sym declared ∙ says.0 in cc)
declared-says form lines _ head declared says within = absurd says

-- a head that is defined has the name of a definition
named-defined : (lines : List Line) (l : Line) (what : Statement) (head : Head) → Contains lines l → l.says ≡ what → head.defined ≡ true
    → SaysHead what head → Contains (names lines) head.name
named-defined lines l (define answer name arguments strategy) head within e defined says =
    let d : IsDefinition lines l.number name = defined-line lines l answer name arguments strategy within e in
    subst (λ (n : List ℕ). Contains (names lines) n) (d.named ∙ sym says.1)
    (contains_map (λ (one : Definition). one.name) (definitions_of lines) d.func d.within)
named-defined lines l (declare answer name parameters) head within e defined says =
    absurd (let bad : false ≡ true = sym says.0 ∙ defined in cc)
named-defined lines l _ head within e defined says = absurd says

declared-found : (form : Form) (lines : List Line) (line : ℕ) → DeclaresDefined lines line → TextLost form lines line 3
declared-found form lines line d =
    let own : IsHeadLine lines d.declared = line-of-head lines d.declared d.stands in
    let other : IsHeadLine lines d.other = line-of-head lines d.other d.other_stands in
    let named = named-defined lines other.on other.on.says d.other other.within refl d.is_defined other.says in
    let same = subst (λ (n : List ℕ). Contains (names lines) n) d.same named in
    outside-found form lines own.on line 3 own.within (sym own.number ∙ d.number)
    (declared-says form lines own.on.says d.declared d.is_declared own.says same)

twice-found : (form : Form) (lines : List Line) (line : ℕ) → NameTwice lines line → TextLost form lines line 3
twice-found form lines line (layout_again r) = inl (refl, inl r)
twice-found form lines line (head_again r) = inl (refl, inr r)
twice-found form lines line (declares_defined d) = declared-found form lines line d
twice-found form lines line (label_again func defined r) = in-function form lines func line 3 defined (inl (inr (inl (refl, r))))
twice-found form lines line (value_again func defined r) = in-function form lines func line 3 defined (inl (inl (inl (refl, r))))

strategy-says : (form : Form) (lines : List Line) (what : Statement) → lacks_strategy what ≡ true → OuterFault form (names lines) (layouts lines) what 10
strategy-says form lines (define answer name arguments strategy) e = inl (refl, not-true (is_strategy strategy) e)
strategy-says form lines _ e = absurd (let bad : false ≡ true = e in cc)

layout-says : (form : Form) (lines : List Line) (what : Statement) → is_bad_layout what ≡ true → OuterFault form (names lines) (layouts lines) what 13
layout-says form lines (layout name fields) e = (refl, not-true (are_cells fields) e)
layout-says form lines _ e = absurd (let bad : false ≡ true = e in cc)

reserved-found : (form : Form) (lines : List Line) (line : ℕ) → Reserved form lines line → TextLost form lines line 14
reserved-found form lines line (defines_external func defined e external) =
    let d : IsDefined lines func = line-defined lines func defined in
    outside-found form lines d.head line 14 d.within (d.line ∙ e)
    (at-says form lines d.head (define func.answer func.name func.arguments func.strategy) 14 d.says (inr (refl, external)))
reserved-found form lines line (declares_helper source answer name parameters stands helper) =
    outside-found form lines (record { number = line; says = declare answer name parameters }) line 14 stands refl (inr (inr (refl, source, helper)))
reserved-found form lines line (names_value source func one defined within e inserted) =
    in-function form lines func line 14 defined (inl (inl (inr (
      refl,
      source,
      record {
        name = one.name;
        given = subst (λ (n : ℕ). Contains (named_values (values_of func)) (n, one.name)) e
            (contains_map (λ (o : Naming). (o.line, o.name)) (values_of func) one within);
        inserted = inserted;
      },
    ))))
reserved-found form lines line (names_label source func one defined within e inserted) =
    in-function form lines func line 14 defined (inl (inr (inr (
      refl,
      source,
      record {
        name = one.name;
        given = subst (λ (n : ℕ). Contains (named_blocks (blocks_of func)) (n, one.name)) e
            (contains_map (λ (o : BlockLines). (o.line, o.name)) (blocks_of func) one within);
        inserted = inserted;
      },
    ))))

fault-lost : (form : Form) (lines : List Line) (line code : ℕ) → HasTextFault form lines line code → TextLost form lines line code
fault-lost form lines line _ (name_twice f) = twice-found form lines line f
fault-lost form lines line _ (unknown_name b) = by-line form lines line 4 _ b (λ name. refl) (λ t. lost_name refl t)
fault-lost form lines line _ (misspelled b) = by-line form lines line 5 _ b (λ name. refl) (λ t. spelled_wrong refl t)
fault-lost form lines line _ (case_width w) = width-found form lines line w
fault-lost form lines line _ (no_strategy t) = outside-found form lines t.found line 10 t.inside t.number (strategy-says form lines t.found.says t.faulty)
fault-lost form lines line _ (unknown_extern u) =
    outside-found form lines (record { number = line; says = declare u.answer u.name u.parameters }) line 12 u.stands refl (inr (inl (refl, u.unknown)))
fault-lost form lines line _ (bad_layout t) = outside-found form lines t.found line 13 t.inside t.number (layout-says form lines t.found.says t.faulty)
fault-lost form lines line _ (reserved r) = reserved-found form lines line r
fault-lost form lines line _ (pointer_cast b) = by-line form lines line 16 _ b (λ name. refl) (λ t. lost_cast refl t)
fault-lost form lines line _ (miscounted e b) =
    by-line form lines line 18 _ b (λ name. refl) (λ t. counted_wrong refl (count-lost form (scope_of lines b.func) b.found.says e t))

-- ---- the passes over a text, one after another, with what its tables hold

pub notes-text : (form : Form) (lines : List Line) (functions laid : List (List ℕ)) (funcs : List Definition) (old a b new : Option Fault)
    → functions ≡ names lines → laid ≡ layouts lines → funcs ≡ definitions_of lines
    → Notes old a (TopAgain lines) → Notes a b (OuterFaults form functions laid lines) → Notes b new (FunctionsLost form lines funcs)
    → Notes old new (λ line code. HasTextFault form lines line code)
notes-text form lines functions laid funcs old a b new e f g m n p =
    notes-same old new (TextLost form lines) (λ line code. HasTextFault form lines line code) (lost-fault form lines) (fault-lost form lines)
    (notes-then old a new (TopAgain lines)
    (Either (OuterFaults form (names lines) (layouts lines) lines) (FunctionsLost form lines (definitions_of lines))) m
    (notes-then a b new (OuterFaults form (names lines) (layouts lines) lines) (FunctionsLost form lines (definitions_of lines))
    (subst (λ (ls : List (List ℕ)). Notes a b (OuterFaults form (names lines) ls lines)) f
    (subst (λ (fs : List (List ℕ)). Notes a b (OuterFaults form fs laid lines)) e n))
    (subst (λ (fs : List Definition). Notes b new (FunctionsLost form lines fs)) g p)))
