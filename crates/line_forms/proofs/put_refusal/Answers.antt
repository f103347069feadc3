use Rattle.text_output.specs.Appends.{appended_then}
use Rattle.line_forms.specs.Lines.{refused_line}
use Rattle.line_forms.proofs.put_refusal.Goals as goal

pub returns : goal.returns
unfolding refused_line
returns c = appended_then (appended_then (appended_then c.put_byte.ensures c.put_field.ensures) c.put_field-2.ensures) c.put_byte-2.ensures
