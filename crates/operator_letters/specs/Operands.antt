-- Parts of the definition's steps that read operands, and what the numbers of the code mean.
-- Assumes nothing.
use Rattle.std.specs.Prelude as Prelude
use Rattle.std.specs.Prelude.{ℕ, Some, None}
use Rattle.std.proofs.Math.Option.{Option, some, none}
use Prim.Native.String.{String}
use Rattle.definition.specs.Base.{given, pick, ret, or_refuse, ◌>>=◌, ◌>>◌, good, bad}
use Rattle.definition.specs.Text as Text
use Rattle.definition.specs.Text.{Lex, next, generic_param_index}
use Rattle.definition.specs.Operators.{Operator, Subject, generic_param, leaf, metatype, archetype, variable, requirement, layout, of_stack, choose_then, choose_late, archetypes, on_param, on_member, layouts, accessors, value_witnesses}
use Rattle.operator_names.specs.Fixed.{fixed}
use Rattle.operator_letters.specs.declared.Target.{Target}
use Rattle.operator_letters.specs.declared.Target.TheVariants.{Param, Stack, Member}

-- the arms of the definition's tables that are not named steps: `q`, `Q`, `v` and `XM`
abbrev pub generic_param_letters : Lex Operator
generic_param_letters = generic_param_index >>= λ p. ret (leaf (generic_param p))

abbrev pub archetype_letters : Lex Operator
archetype_letters = choose_then archetypes >>= λ p. ret (archetype p)

abbrev pub variable_letters : Lex Operator
variable_letters = choose_late accessors >>= λ a. ret (variable a)

abbrev pub any_byte : Lex Operator
any_byte = next >> ret metatype

-- `Q`: the rest of `archetype_letters`, after the letter b
abbrev pub archetype_of : Lex Text.Param → Lex Operator
archetype_of m = m >>= λ p. ret (archetype p)

abbrev pub archetype_letter : ℕ → Lex Operator
archetype_letter b = archetype_of (or_refuse 9 (pick b archetypes) >>= λ m. m)

-- `R`: the subject of a target
abbrev pub on_target : Target → Lex Subject
on_target Param = on_param
on_target Stack = ret of_stack
on_target Member = on_member

-- the rest of `requiring_layout`, after the subject
abbrev pub layout_letter : Subject → Lex Operator
layout_letter s = choose_late layouts >>= λ l. ret (requirement s (layout l))

-- `v`
abbrev pub accessor_late : ℕ → Operator
accessor_late b = variable (given (pick b accessors) (bad 9) good)

-- `w`: the name for both letters, and the meaning of the number of a name
abbrev pub witness_letters : ℕ → ℕ → Option String
witness_letters a b = given (pick a value_witnesses) none (pick b)

abbrev pub name_if_any : Prelude.Option ℕ → Option String
name_if_any None = none
name_if_any (Some n) = some (fixed n)
