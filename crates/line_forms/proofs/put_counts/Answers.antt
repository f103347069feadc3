use Rattle.text_output.specs.Appends.{appended_then}
use Rattle.line_forms.specs.Lines.{accepted_line, counts_told}
use Rattle.line_forms.proofs.put_counts.Goals as goal

pub returns : goal.returns
unfolding accepted_line counts_told
returns c = appended_then (appended_then (appended_then (appended_then c.put_byte.ensures c.put_field.ensures) c.put_field-2.ensures) c.put_field-3.ensures) c.put_byte-2.ensures
