-- The kinds that a want accepts.
use Rattle.std.specs.Prelude.{Bool, true, ℕ, eqb}
use Rattle.definition.specs.Kind as K
use Rattle.machine.specs.Kinds.{kind_of}
use Rattle.machine.specs.declared.kinds.Want.{Want}

abbrev pub want_of : Want → ℕ → Bool
want_of Want.Anything = λ k. true
want_of Want.Type = K.is_type
want_of Want.Entity = K.is_entity
want_of Want.Protocol = K.is_protocol
want_of Want.Requirement = K.is_requirement
want_of Want.Identifier = K.is_identifier
want_of (Want.Kind k) = eqb (kind_of k)
