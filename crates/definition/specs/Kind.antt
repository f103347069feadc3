-- 01, "Shape entries": the kinds by number, and the four groups that `is_type`, `is_entity`,
-- `is_context`, `is_protocol` name. The kinds are the cases of `Node` in the source's order (lines
-- 83 to 200), with `Nominal` split into its five kinds in their order.
use Rattle.std.specs.Prelude.{Bool, false, ◌||◌, List, [], ◌∷◌, ◌++◌, ℕ, eqb}

abbrev pub identifier : ℕ
identifier = 0

abbrev pub module_kind : ℕ
module_kind = 1

abbrev pub class : ℕ
class = 2

abbrev pub struct : ℕ
struct = 3

abbrev pub enum : ℕ
enum = 4

abbrev pub protocol : ℕ
protocol = 5

abbrev pub type_alias : ℕ
type_alias = 6

abbrev pub generic_param : ℕ
generic_param = 7

abbrev pub dependent_member : ℕ
dependent_member = 8

abbrev pub tuple : ℕ
tuple = 9

abbrev pub function_type : ℕ
function_type = 10

abbrev pub generic_type : ℕ
generic_type = 11

abbrev pub generic_signature : ℕ
generic_signature = 12

abbrev pub conformance_requirement : ℕ
conformance_requirement = 13

abbrev pub same_type_requirement : ℕ
same_type_requirement = 14

abbrev pub protocol_list : ℕ
protocol_list = 15

abbrev pub metatype : ℕ
metatype = 16

abbrev pub in_out : ℕ
in_out = 17

abbrev pub bound_generic : ℕ
bound_generic = 18

abbrev pub function : ℕ
function = 19

abbrev pub variable : ℕ
variable = 20

abbrev pub accessor : ℕ
accessor = 21

abbrev pub initializer : ℕ
initializer = 22

abbrev pub deinitializer : ℕ
deinitializer = 23

abbrev pub variable_initializer : ℕ
variable_initializer = 24

abbrev pub static : ℕ
static = 25

abbrev pub record_kind : ℕ
record_kind = 26

abbrev pub conformance : ℕ
conformance = 27

abbrev pub protocol_witness : ℕ
protocol_witness = 28

abbrev pub value_witness : ℕ
value_witness = 29

abbrev pub empty_list : ℕ
empty_list = 30

abbrev pub first_element_marker : ℕ
first_element_marker = 31

abbrev pub variadic_marker : ℕ
variadic_marker = 32

abbrev pub throws : ℕ
throws = 33

abbrev pub async : ℕ
async = 34

-- THE GROUPS, each with its kinds in the source's order
-- k is one of these
abbrev pub among : List ℕ → ℕ → Bool
among [] k = false
among (x ∷ xs) k = eqb k x || among xs k

-- the five of `Nominal`
abbrev pub nominals : List ℕ
nominals = class ∷ struct ∷ enum ∷ protocol ∷ type_alias ∷ []

-- lines 212 to 223
abbrev pub is_entity : ℕ → Bool
is_entity k = among (function ∷ variable ∷ accessor ∷ initializer ∷ deinitializer ∷ variable_initializer ∷ static ∷ []) k

-- lines 225 to 227
abbrev pub is_context : ℕ → Bool
is_context k = among (module_kind ∷ nominals) k || is_entity k

-- lines 229 to 243
abbrev pub is_type : ℕ → Bool
is_type k = among (nominals ++ (generic_param ∷ dependent_member ∷ tuple ∷ function_type ∷ generic_type ∷ protocol_list ∷ metatype ∷ in_out ∷ bound_generic ∷ [])) k

-- lines 245 to 253
abbrev pub is_protocol : ℕ → Bool
is_protocol k = eqb k protocol

-- a requirement of a generic signature (lines 1266 to 1269)
abbrev pub is_requirement : ℕ → Bool
is_requirement k = eqb k conformance_requirement || eqb k same_type_requirement

abbrev pub is_identifier : ℕ → Bool
is_identifier k = eqb k identifier

-- An entry of the shape check, and of a stopped run
pub record Entry : Type 0 where
  pub kind : ℕ
  pub size : ℕ
  pub count : ℕ

abbrev pub entry : ℕ → ℕ → ℕ → Entry
entry k s c = record { kind = k; size = s; count = c }
