-- The fixed names and the texts of the printer, each by its number. Assumes nothing.
use Rattle.std.specs.Prelude.{List, [], ◌∷◌, ◌++◌, ℕ, get_or}
use Prim.Native.String.{String}

-- the texts that operators supply, in the order of their numbers
unfoldable pub fixed_names : List String
fixed_names =
    -- 0: modules and a protocol
    "Swift" ∷
    "__C" ∷
    "__C_Synthesized" ∷
    "AnyObject" ∷
    -- 4: standard types
    "Array" ∷
    "AutoreleasingUnsafeMutablePointer" ∷
    "Bool" ∷
    "Dictionary" ∷
    "Double" ∷
    "Float" ∷
    "Set" ∷
    "DefaultIndices" ∷
    "Int" ∷
    "Character" ∷
    "ClosedRange" ∷
    "Range" ∷
    "ObjectIdentifier" ∷
    "UnsafePointer" ∷
    "UnsafeMutablePointer" ∷
    "UnsafeBufferPointer" ∷
    "UnsafeMutableBufferPointer" ∷
    "String" ∷
    "Substring" ∷
    "UInt" ∷
    "UnsafeRawPointer" ∷
    "UnsafeMutableRawPointer" ∷
    "UnsafeRawBufferPointer" ∷
    "UnsafeMutableRawBufferPointer" ∷
    "Optional" ∷
    "BinaryFloatingPoint" ∷
    "Encodable" ∷
    "Decodable" ∷
    "FloatingPoint" ∷
    "RandomNumberGenerator" ∷
    "Hashable" ∷
    "Numeric" ∷
    "BidirectionalCollection" ∷
    "RandomAccessCollection" ∷
    "Comparable" ∷
    "Collection" ∷
    "MutableCollection" ∷
    "RangeReplaceableCollection" ∷
    "Equatable" ∷
    "Sequence" ∷
    "IteratorProtocol" ∷
    "UnsignedInteger" ∷
    "RangeExpression" ∷
    "Strideable" ∷
    "RawRepresentable" ∷
    "StringProtocol" ∷
    "SignedInteger" ∷
    "BinaryInteger" ∷
    -- 52: accessors
    "getter" ∷
    "setter" ∷
    "modify" ∷
    "read" ∷
    "materializeForSet" ∷
    "willset" ∷
    "didset" ∷
    "unsafeAddressor" ∷
    "unsafeMutableAddressor" ∷
    "modify" ∷
    -- 62: function entities
    "ivar initializer for " ∷
    "ivar destroyer for " ∷
    -- 64: context descriptors
    "module descriptor " ∷
    "extension descriptor " ∷
    "anonymous descriptor " ∷
    -- 67: metatype records
    "type metadata accessor for " ∷
    "full type metadata for " ∷
    "metaclass for " ∷
    "nominal type descriptor for " ∷
    "reflection metadata field descriptor " ∷
    "reflection metadata builtin descriptor " ∷
    "reflection metadata superclass descriptor " ∷
    "reflection metadata assocType descriptor " ∷
    "protocol descriptor for " ∷
    "protocol conformance descriptor for " ∷
    "property descriptor for " ∷
    "metadata instantiation cache for " ∷
    "lazy cache variable for type metadata for " ∷
    "type metadata instantiation function for " ∷
    "type metadata instantiation cache for " ∷
    "type metadata singleton initialization cache for " ∷
    "type metadata completion function for " ∷
    "generic type metadata pattern for " ∷
    "demangling cache variable for type metadata for " ∷
    "mangled name ref for type metadata for " ∷
    -- 87: type metadata
    "type metadata for " ∷
    -- 88: field offsets
    "direct field offset for " ∷
    "indirect field offset for " ∷
    -- 90: witnesses
    "value witness table for " ∷
    "lazy protocol witness table accessor for type " ∷
    "lazy protocol witness table cache variable for type " ∷
    "protocol witness table for " ∷
    "protocol witness table pattern for " ∷
    "protocol witness table accessor for " ∷
    "protocol self-conformance witness table for " ∷
    -- 97: value witnesses
    "allocateBuffer" ∷
    "assignWithCopy" ∷
    "initializeWithCopy" ∷
    "assignWithTake" ∷
    "initializeWithTake" ∷
    "initializeArrayWithTakeBackToFront" ∷
    "deallocateBuffer" ∷
    "destroy" ∷
    "storeExtraInhabitant" ∷
    "getExtraInhabitantIndex" ∷
    "destroyBuffer" ∷
    "destroyArray" ∷
    "initializeBufferWithCopyOfBuffer" ∷
    "initializeBufferWithCopy" ∷
    "initializeArrayWithCopy" ∷
    "initializeBufferWithTake" ∷
    "initializeBufferWithTakeOfBuffer" ∷
    "initializeArrayWithTakeFrontToBack" ∷
    "projectBuffer" ∷
    "getEnumTag" ∷
    "destructiveProjectEnumData" ∷
    "destructiveInjectEnumTag" ∷
    "getEnumTagSinglePayload" ∷
    "storeEnumTagSinglePayload" ∷
    -- 121: thunks
    "protocol requirements base descriptor for " ∷
    "protocol self-conformance descriptor for " ∷
    "method descriptor for " ∷
    "async function pointer to " ∷
    "dispatch thunk of " ∷
    "vtable thunk for " ∷
    "@objc " ∷
    "@nonobjc " ∷
    "dynamically replaceable function for " ∷
    "dynamically replaceable variable for " ∷
    "dynamically replaceable key for " ∷
    "merged " ∷
    -- 133: of an associated type
    "associated type descriptor for " ∷ []

-- the name with that number; nothing past the last name
unfoldable pub fixed : ℕ → String
fixed n = get_or fixed_names n ""

-- the texts that the printer supplies, in the order of their numbers
unfoldable pub texts : List String
texts =
    "." ∷
    ": " ∷
    " : " ∷
    " == " ∷
    ", " ∷
    " & " ∷
    "(" ∷
    ")" ∷
    "<" ∷
    ">" ∷
    "[" ∷
    "]" ∷
    "?" ∷
    " where " ∷
    ".Type" ∷
    "inout " ∷
    "variable initialization expression of " ∷
    "static " ∷
    " in " ∷
    "protocol witness for " ∷
    " in conformance " ∷
    " value witness for " ∷
    " and conformance " ∷
    "associated conformance descriptor for " ∷
    "()" ∷
    "Any" ∷
    " -> " ∷
    " async" ∷
    " throws" ∷
    "__allocating_init" ∷
    "init" ∷
    "__deallocating_deinit" ∷
    "deinit" ∷
    "_" ∷
    ") suspend resume partial function for " ∷
    " with unmangled suffix \"" ∷
    "\"" ∷ []

-- both in one row: the numbers of the texts continue after the last name's
unfoldable pub numbered : ℕ → String
numbered n = get_or (fixed_names ++ texts) n ""
