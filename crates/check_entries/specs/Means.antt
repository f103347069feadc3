-- The meaning of a take of the code in the definition.
use Rattle.definition.specs.Shape as C
use Rattle.machine.specs.Kinds.{kind_of}
use Rattle.machine.specs.Wanted.{want_of}
use Rattle.check_entries.specs.declared.Take.{Take}

abbrev pub take_of : Take → C.Take
take_of Take.Wraps = C.wraps
take_of (Take.Node want) = C.a_node (want_of want)
take_of Take.Name = C.a_name
take_of Take.Context = C.a_context
take_of Take.Protocol = C.a_protocol
take_of (Take.Marker k) = C.marker (kind_of k)
take_of Take.Qualifier = C.qualifier
take_of Take.Params = C.params
take_of Take.Result = C.result
take_of Take.LabelledType = C.a_labelled_type
take_of Take.Labels = C.labels
take_of Take.Signature = C.a-signature
take_of Take.UnderSignature = C.under_signature
take_of Take.Elements = C.elements
take_of Take.Members = C.members
take_of Take.Arguments = C.arguments
take_of Take.Requirements = C.requirements
take_of Take.Refuses = C.refuses 9
take_of Take.PrintedAhead = C.printed_ahead
