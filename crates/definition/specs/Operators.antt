-- The letters and operands of the operators: the effect of `operator` (lines 726 to 786) and the
-- functions below it on the text only. Reading and check share them. A letter that the Rust judges
-- after it has taken nodes is `Late`.
use Rattle.std.specs.Prelude.{Bool, true, false, ◌&&◌, List, [], ◌∷◌, ◌++◌, ℕ, zero, suc, ◌+◌, ◌-◌, max, ltb, leb, length, if◌then◌else◌}
use Rattle.std.proofs.Math.Option.{Option, some, none}
use Prim.Native.Char.{Char, code}
use Prim.Native.String.{String}
use Rattle.definition.specs.Words.{opened as opened₀}
use Rattle.definition.specs.Base.{Name, bytes, decimal, is, digit, lower, upper, pick, given, ok, refused, Done, ret, refuse, or_refuse, unless, ◌>>=◌, ◌>>◌, Late, good, bad}
use Rattle.definition.specs.Text.{Lex, Param, param, next, peek, next_if, natural, index, index_plus_one, depth_and_index, generic_param_index}
use Rattle.definition.specs.Node.{NominalKind, Class, Struct, Enum, Protocol, TypeAlias}
use Rattle.definition.specs.Budget.{most_steps, most_wraps}

-- WHAT AN OPERATOR IS
-- a node that is pushed as it is; `standard_nominal` is under the module Swift
pub data Leaf : Type 0 where
  module_named : String → Leaf
  standard_nominal : NominalKind → String → Leaf
  generic_param : Param → Leaf
  empty_list first_element_marker variadic_marker throws async : Leaf

-- what a requirement constrains: a generic parameter, a type on the stack, a member type of a
-- parameter
pub data Subject : Type 0 where
  of_param : Param → Subject
  of_stack : Subject
  of_member : Param → Subject

-- the kind of constraint; of the layouts only the class layout, `C`, is valid
pub data Constraint : Type 0 where
  conforms superclass same_type : Constraint
  layout : Late Done → Constraint

-- the subject of a record
pub data About : Type 0 where
  a_type an_entity a_context a_protocol a_conformance anything : About

-- copies of a remembered node
pub record Substitution : Type 0 where
  pub times : ℕ
  pub index : ℕ

abbrev pub substitution : ℕ → ℕ → Substitution
substitution t i = record { times = t; index = i }

pub data Operator : Type 0 where
  -- what is pushed, in order, and how the letters ended
  substitutions : List Substitution → Late Done → Operator
  nominal : NominalKind → Operator
  leaf : Leaf → Operator
  -- `S`: the number of copies, and the leaf
  standard : ℕ → Leaf → Operator
  optional : ℕ → Operator
  tuple function_type protocol_list bound_generic in_out metatype : Operator
  archetype : Param → Operator
  requirement : Subject → Constraint → Operator
  generic_signature : ℕ → Operator
  plain_function : Operator
  -- the kind of the accessor, none for the variable itself
  variable : Late (Option String) → Operator
  initializer deinitializer : Bool → Operator
  variable_initializer static : Operator
  -- `record(what, ..)` (lines 1695 to 1700)
  record_of : About → (what : Name) → Operator
  -- `Wl` and `WL`
  lazy_witness : (what : Name) → Operator
  value_witness : (kind : Name) → Operator
  protocol_witness associated_type associated_conformance : Operator

-- THE LETTERS
-- the next letter, looked up in a table
unfoldable pub choose : {A : Type 0} → List (Char × A) → Lex A
choose table = do
  c ← next
  or_refuse 9 (pick c table)

-- the same, where the table says how to continue reading
unfoldable pub choose_then : {A : Type 0} → List (Char × Lex A) → Lex A
choose_then table = choose table >>= λ m. m

-- the next letter, which is read now and judged later
unfoldable pub choose_late : {A : Type 0} → List (Char × A) → Lex (Late A)
choose_late table [] = ok (bad 9) []
choose_late table (c ∷ t) = ok (given (pick c table) (bad 9) good) t

-- Lines 880 to 900, with line 907 for the number of copies. The list is what is copied so far. f
-- bounds the letters and is reached only if no text is left, because each takes a byte
-- (`letters_are` in crates/operator_substitutions/proofs/ChainLaws). After `A` a lower case letter
-- continues and a capital ends; `A_` is 26, `An_` is n + 27
unfoldable pub substitutions_from : ℕ → Option ℕ → List Substitution → Lex Operator
substitutions_from zero repeat done t = ok (substitutions done (bad 9)) t
substitutions_from (suc f) repeat done [] = ok (substitutions done (bad 9)) []
substitutions_from (suc f) repeat done (c ∷ t) =
    let times : ℕ = given repeat 1 (λ n. max n 1) in
    elim (lower c) [
      | true ↦ substitutions_from f none (done ++ (substitution times (c - code "a") ∷ [])) t
      | false ↦ elim (upper c) [
        | true ↦ ok (substitutions (done ++ (substitution times (c - code "A") ∷ [])) (good tt)) t
        | false ↦ elim (is "_" c) [
          | true ↦ ok (substitutions (done ++ (substitution 1 (given repeat 26 (λ n. n + 27)) ∷ [])) (good tt)) t
          | false ↦ elim (natural (c ∷ t)) [
            | ok n u ↦ substitutions_from f (some n) done u
            | refused r ↦ ok (substitutions done (bad r)) t
          ]
        ]
      ]
    ]

unfoldable pub substitutions_letters : Lex Operator
substitutions_letters t = substitutions_from (length t) none [] t

-- lines 1711 to 1765
unfoldable pub standard_types : List (Char × (NominalKind × String))
standard_types =
    ("a", (Struct, "Array")) ∷
    ("A", (Struct, "AutoreleasingUnsafeMutablePointer")) ∷
    ("b", (Struct, "Bool")) ∷
    ("D", (Struct, "Dictionary")) ∷
    ("d", (Struct, "Double")) ∷
    ("f", (Struct, "Float")) ∷
    ("h", (Struct, "Set")) ∷
    ("I", (Struct, "DefaultIndices")) ∷
    ("i", (Struct, "Int")) ∷
    ("J", (Struct, "Character")) ∷
    ("N", (Struct, "ClosedRange")) ∷
    ("n", (Struct, "Range")) ∷
    ("O", (Struct, "ObjectIdentifier")) ∷
    ("P", (Struct, "UnsafePointer")) ∷
    ("p", (Struct, "UnsafeMutablePointer")) ∷
    ("R", (Struct, "UnsafeBufferPointer")) ∷
    ("r", (Struct, "UnsafeMutableBufferPointer")) ∷
    ("S", (Struct, "String")) ∷
    ("s", (Struct, "Substring")) ∷
    ("u", (Struct, "UInt")) ∷
    ("V", (Struct, "UnsafeRawPointer")) ∷
    ("v", (Struct, "UnsafeMutableRawPointer")) ∷
    ("W", (Struct, "UnsafeRawBufferPointer")) ∷
    ("w", (Struct, "UnsafeMutableRawBufferPointer")) ∷
    ("q", (Enum, "Optional")) ∷
    ("B", (Protocol, "BinaryFloatingPoint")) ∷
    ("E", (Protocol, "Encodable")) ∷
    ("e", (Protocol, "Decodable")) ∷
    ("F", (Protocol, "FloatingPoint")) ∷
    ("G", (Protocol, "RandomNumberGenerator")) ∷
    ("H", (Protocol, "Hashable")) ∷
    ("j", (Protocol, "Numeric")) ∷
    ("K", (Protocol, "BidirectionalCollection")) ∷
    ("k", (Protocol, "RandomAccessCollection")) ∷
    ("L", (Protocol, "Comparable")) ∷
    ("l", (Protocol, "Collection")) ∷
    ("M", (Protocol, "MutableCollection")) ∷
    ("m", (Protocol, "RangeReplaceableCollection")) ∷
    ("Q", (Protocol, "Equatable")) ∷
    ("T", (Protocol, "Sequence")) ∷
    ("t", (Protocol, "IteratorProtocol")) ∷
    ("U", (Protocol, "UnsignedInteger")) ∷
    ("X", (Protocol, "RangeExpression")) ∷
    ("x", (Protocol, "Strideable")) ∷
    ("Y", (Protocol, "RawRepresentable")) ∷
    ("y", (Protocol, "StringProtocol")) ∷
    ("Z", (Protocol, "SignedInteger")) ∷
    ("z", (Protocol, "BinaryInteger")) ∷ []

-- lines 954 and 955
unfoldable pub standard_modules : List (Char × String)
standard_modules = ("o", "__C") ∷ ("C", "__C_Synthesized") ∷ []

-- `S`, an optional count, and a letter (lines 943 to 970)
unfoldable pub standard_letter : ℕ → ℕ → Lex Operator
standard_letter repeat c = elim (is "g" c) [
  | true ↦ ret (optional repeat)
  | false ↦ elim (pick c standard_modules) [
    | some m ↦ ret (standard repeat (module_named m))
    | none ↦ (or_refuse 9 (pick c standard_types) >>= λ s. ret (standard repeat (standard_nominal s.0 s.1)))
  ]
]

unfoldable pub standard_letters : Lex Operator
standard_letters t = (do
  repeat ← if peek digit t then natural else ret 1
  unless 9 (ltb 0 repeat && leb repeat most_steps)
  c ← next
  standard_letter repeat c) t

-- `X` (lines 1038 to 1059); the byte after `XM` is arbitrary
unfoldable pub special_types : List (Char × Lex Operator)
special_types =
    ("E", ret function_type) ∷
    ("B", ret function_type) ∷
    ("C", ret function_type) ∷
    ("A", ret function_type) ∷
    ("K", ret function_type) ∷
    ("f", ret function_type) ∷
    ("L", ret function_type) ∷
    ("U", ret function_type) ∷
    ("l", ret (leaf (standard_nominal Protocol "AnyObject"))) ∷
    ("M", next >> ret metatype) ∷
    ("p", ret metatype) ∷ []

-- `Y` (lines 1062 to 1067)
unfoldable pub async_types : List (Char × Operator)
async_types = ("a", leaf async) ∷ []

-- `Q` (lines 1087 to 1095)
unfoldable pub archetypes : List (Char × Lex Param)
archetypes = ("z", ret (param 0 0)) ∷ ("y", index_plus_one >>= λ i. ret (param 0 i)) ∷ ("d", depth_and_index) ∷ []

-- `R` (lines 1189 to 1259)
unfoldable pub on_param : Lex Subject
on_param = generic_param_index >>= λ p. ret (of_param p)

unfoldable pub on_member : Lex Subject
on_member = generic_param_index >>= λ p. ret (of_member p)

unfoldable pub requiring : Lex Subject → Constraint → Lex Operator
requiring subject c = subject >>= λ s. ret (requirement s c)

unfoldable pub layouts : List (Char × Done)
layouts = ("C", tt) ∷ []

unfoldable pub requiring_layout : Lex Subject → Lex Operator
requiring_layout subject = do
  s ← subject
  l ← choose_late layouts
  ret (requirement s (layout l))

unfoldable pub requirements : List (Char × Lex Operator)
requirements =
    ("p", requiring on_member conforms) ∷
    ("Q", requiring (ret of_stack) conforms) ∷
    ("b", requiring on_param superclass) ∷
    ("B", requiring (ret of_stack) superclass) ∷
    ("c", requiring on_member superclass) ∷
    ("s", requiring on_param same_type) ∷
    ("S", requiring (ret of_stack) same_type) ∷
    ("t", requiring on_member same_type) ∷
    ("l", requiring_layout on_param) ∷
    ("L", requiring_layout (ret of_stack)) ∷
    ("m", requiring_layout on_member) ∷
    ("P", refuse 9) ∷
    ("C", refuse 9) ∷
    ("T", refuse 9) ∷
    ("M", refuse 9) ∷ []

-- any other letter remains to be read for the index of the parameter (line 1206)
unfoldable pub requirement_letters : Lex Operator
requirement_letters [] = refused 9
requirement_letters (c ∷ t) = elim (pick c requirements) [ some m ↦ m t | none ↦ requiring on_param conforms (c ∷ t) ]

-- the counts after `r` (lines 1275 to 1288): at most that many more, and the last one read
unfoldable pub counts : ℕ → ℕ → Lex ℕ
counts zero params = do
  closed ← next_if (is "l")
  elim closed [ true ↦ ret params | false ↦ refuse 8 ]
counts (suc depths) params = do
  closed ← next_if (is "l")
  elim closed [
    | true ↦ ret params
    | false ↦ do
      z ← next_if (is "z")
      n ← if z then ret 0 else index_plus_one
      counts depths n
  ]

-- `v` (lines 1386 to 1399)
unfoldable pub accessors : List (Char × Option String)
accessors =
    ("p", none) ∷
    ("g", some "getter") ∷
    ("s", some "setter") ∷
    ("M", some "modify") ∷
    ("r", some "read") ∷
    ("m", some "materializeForSet") ∷
    ("w", some "willset") ∷
    ("W", some "didset") ∷
    ("G", some "unsafeAddressor") ∷
    ("a", some "unsafeMutableAddressor") ∷
    ("l", some "modify") ∷ []

-- `f` (lines 1408 to 1450)
unfoldable pub function_entities : List (Char × Operator)
function_entities =
    ("C", initializer true) ∷
    ("c", initializer false) ∷
    ("D", deinitializer true) ∷
    ("d", deinitializer false) ∷
    ("i", variable_initializer) ∷
    ("e", record_of a_context (bytes "ivar initializer for ")) ∷
    ("E", record_of a_context (bytes "ivar destroyer for ")) ∷ []

-- `MX` (lines 1487 to 1496)
unfoldable pub context_descriptors : List (Char × Operator)
context_descriptors =
    ("M", record_of a_context (bytes "module descriptor ")) ∷
    ("E", record_of a_context (bytes "extension descriptor ")) ∷
    ("X", record_of a_context (bytes "anonymous descriptor ")) ∷ []

-- `M` (lines 1453 to 1501)
unfoldable pub metatype_records : List (Char × Lex Operator)
metatype_records =
    ("a", ret (record_of a_type (bytes "type metadata accessor for "))) ∷
    ("f", ret (record_of a_type (bytes "full type metadata for "))) ∷
    ("m", ret (record_of a_type (bytes "metaclass for "))) ∷
    ("n", ret (record_of a_type (bytes "nominal type descriptor for "))) ∷
    ("F", ret (record_of a_type (bytes "reflection metadata field descriptor "))) ∷
    ("B", ret (record_of a_type (bytes "reflection metadata builtin descriptor "))) ∷
    ("S", ret (record_of a_type (bytes "reflection metadata superclass descriptor "))) ∷
    ("A", ret (record_of a_type (bytes "reflection metadata assocType descriptor "))) ∷
    ("p", ret (record_of a_protocol (bytes "protocol descriptor for "))) ∷
    ("c", ret (record_of a_conformance (bytes "protocol conformance descriptor for "))) ∷
    ("V", ret (record_of an_entity (bytes "property descriptor for "))) ∷
    ("K", ret (record_of anything (bytes "metadata instantiation cache for "))) ∷
    ("L", ret (record_of a_type (bytes "lazy cache variable for type metadata for "))) ∷
    ("i", ret (record_of a_type (bytes "type metadata instantiation function for "))) ∷
    ("I", ret (record_of a_type (bytes "type metadata instantiation cache for "))) ∷
    ("l", ret (record_of a_type (bytes "type metadata singleton initialization cache for "))) ∷
    ("r", ret (record_of a_type (bytes "type metadata completion function for "))) ∷
    ("P", ret (record_of a_type (bytes "generic type metadata pattern for "))) ∷
    ("d", ret (record_of a_type (bytes "demangling cache variable for type metadata for "))) ∷
    ("R", ret (record_of a_type (bytes "mangled name ref for type metadata for "))) ∷
    ("X", choose context_descriptors) ∷ []

-- `Wv` (lines 1522 to 1530)
unfoldable pub field_offsets : List (Char × Operator)
field_offsets =
    ("d", record_of an_entity (bytes "direct field offset for ")) ∷
    ("i", record_of an_entity (bytes "indirect field offset for ")) ∷ []

-- `W` (lines 1516 to 1562)
unfoldable pub witnesses : List (Char × Lex Operator)
witnesses =
    ("V", ret (record_of a_type (bytes "value witness table for "))) ∷
    ("v", choose field_offsets) ∷
    ("l", ret (lazy_witness (bytes "lazy protocol witness table accessor for type "))) ∷
    ("L", ret (lazy_witness (bytes "lazy protocol witness table cache variable for type "))) ∷
    ("P", ret (record_of a_conformance (bytes "protocol witness table for "))) ∷
    ("p", ret (record_of a_conformance (bytes "protocol witness table pattern for "))) ∷
    ("a", ret (record_of a_conformance (bytes "protocol witness table accessor for "))) ∷
    ("S", ret (record_of a_conformance (bytes "protocol self-conformance witness table for "))) ∷ []

-- `w` (lines 1568 to 1594): the second letter under the first
unfoldable pub value_witnesses : List (Char × List (Char × String))
value_witnesses =
    ("a", ("l", "allocateBuffer") ∷ []) ∷
    ("c", ("a", "assignWithCopy") ∷ ("p", "initializeWithCopy") ∷ []) ∷
    ("t", ("a", "assignWithTake") ∷ ("k", "initializeWithTake") ∷ ("T", "initializeArrayWithTakeBackToFront") ∷ []) ∷
    ("d", ("e", "deallocateBuffer") ∷ []) ∷
    ("x", ("x", "destroy") ∷ ("s", "storeExtraInhabitant") ∷ ("g", "getExtraInhabitantIndex") ∷ []) ∷
    ("X", ("X", "destroyBuffer") ∷ ("x", "destroyArray") ∷ []) ∷
    ("C", ("P", "initializeBufferWithCopyOfBuffer") ∷ ("p", "initializeBufferWithCopy") ∷ ("c", "initializeArrayWithCopy") ∷ []) ∷
    ("T", ("k", "initializeBufferWithTake") ∷ ("K", "initializeBufferWithTakeOfBuffer") ∷ ("t", "initializeArrayWithTakeFrontToBack") ∷ []) ∷
    ("p", ("r", "projectBuffer") ∷ []) ∷
    ("u", ("g", "getEnumTag") ∷ ("p", "destructiveProjectEnumData") ∷ ("i", "destructiveInjectEnumTag") ∷ []) ∷
    ("e", ("t", "getEnumTagSinglePayload") ∷ []) ∷
    ("s", ("t", "storeEnumTagSinglePayload") ∷ []) ∷ []

-- both letters are read before either is judged (lines 1566 and 1567)
unfoldable pub value_witness_letters : Lex Operator
value_witness_letters = do
  a ← next
  b ← next
  under ← or_refuse 9 (pick a value_witnesses)
  kind ← or_refuse 9 (pick b under)
  ret (value_witness (bytes kind))

-- `TY` (lines 1663 to 1672)
unfoldable pub suspend_resume_text : ℕ → Name
suspend_resume_text i = bytes "(" ++ (decimal i ++ bytes ") suspend resume partial function for ")

unfoldable pub suspend_resume : Lex Operator
suspend_resume = index >>= λ i. ret (record_of an_entity (suspend_resume_text i))

-- `T` (lines 1603 to 1691)
unfoldable pub thunks : List (Char × Lex Operator)
thunks =
    ("W", ret protocol_witness) ∷
    ("L", ret (record_of a_protocol (bytes "protocol requirements base descriptor for "))) ∷
    ("S", ret (record_of a_protocol (bytes "protocol self-conformance descriptor for "))) ∷
    ("l", ret associated_type) ∷
    ("n", ret associated_conformance) ∷
    ("Y", suspend_resume) ∷
    ("q", ret (record_of an_entity (bytes "method descriptor for "))) ∷
    ("u", ret (record_of an_entity (bytes "async function pointer to "))) ∷
    ("j", ret (record_of an_entity (bytes "dispatch thunk of "))) ∷
    ("V", ret (record_of an_entity (bytes "vtable thunk for "))) ∷
    ("o", ret (record_of an_entity (bytes "@objc "))) ∷
    ("O", ret (record_of an_entity (bytes "@nonobjc "))) ∷
    ("D", ret (record_of an_entity (bytes "dynamically replaceable function for "))) ∷
    ("I", ret (record_of an_entity (bytes "dynamically replaceable variable for "))) ∷
    ("X", ret (record_of an_entity (bytes "dynamically replaceable key for "))) ∷
    ("m", ret (record_of an_entity (bytes "merged "))) ∷ []

-- lines 727 to 785, except the digits
unfoldable pub operators : List (Char × Lex Operator)
operators =
    ("A", substitutions_letters) ∷
    ("C", ret (nominal Class)) ∷
    ("V", ret (nominal Struct)) ∷
    ("O", ret (nominal Enum)) ∷
    ("P", ret (nominal Protocol)) ∷
    ("a", ret (nominal TypeAlias)) ∷
    ("S", standard_letters) ∷
    ("s", ret (leaf (module_named "Swift"))) ∷
    ("y", ret (leaf empty_list)) ∷
    ("_", ret (leaf first_element_marker)) ∷
    ("d", ret (leaf variadic_marker)) ∷
    ("K", ret (leaf throws)) ∷
    ("t", ret tuple) ∷
    ("c", ret function_type) ∷
    ("X", choose_then special_types) ∷
    ("Y", choose async_types) ∷
    ("x", ret (leaf (generic_param (param 0 0)))) ∷
    ("q", generic_param_index >>= λ p. ret (leaf (generic_param p))) ∷
    ("Q", choose_then archetypes >>= λ p. ret (archetype p)) ∷
    ("z", ret in_out) ∷
    ("m", ret metatype) ∷
    ("p", ret protocol_list) ∷
    ("G", ret bound_generic) ∷
    ("R", requirement_letters) ∷
    ("l", ret (generic_signature 1)) ∷
    ("r", counts most_wraps 0 >>= λ n. ret (generic_signature n)) ∷
    ("F", ret plain_function) ∷
    ("v", choose_late accessors >>= λ a. ret (variable a)) ∷
    ("f", choose function_entities) ∷
    ("Z", ret static) ∷
    ("M", choose_then metatype_records) ∷
    ("N", ret (record_of a_type (bytes "type metadata for "))) ∷
    ("W", choose_then witnesses) ∷
    ("w", value_witness_letters) ∷
    ("T", choose_then thunks) ∷ []

-- the operator that begins with the letter c
unfoldable pub operator : ℕ → Lex Operator
operator c t = given (pick c operators) (refused 9) (λ m. m t)

-- FOR PROOFS ONLY: this name on an `unfolding` line opens every definition up to here
unfoldable pub opened : ℕ
unfolding opened₀ choose choose_then choose_late substitutions_from substitutions_letters standard_types standard_modules standard_letter standard_letters special_types async_types archetypes on_param on_member requiring layouts requiring_layout requirements requirement_letters counts accessors function_entities context_descriptors metatype_records field_offsets witnesses value_witnesses value_witness_letters suspend_resume_text suspend_resume thunks operators operator
opened = 0
